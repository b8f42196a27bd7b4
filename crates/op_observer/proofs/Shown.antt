-- What an observer's plan does is what the step table says.
use Rattle.std.proofs.Common.{◌≡◌, ℕ, refl}
use Rattle.op_types.specs.Rooms.{part_with_room}
use Rattle.op_types.specs.declared.durable.Part.{Part}
use Rattle.op_types.specs.declared.events.Input.{Input}
use Rattle.op_types.specs.declared.events.Input.TheVariants as input
use Rattle.op_types.specs.declared.messages.Body.{Body}
use Rattle.op_types.specs.declared.messages.Body.TheVariants as body
use Rattle.op_types.specs.declared.messages.Watch.TheVariants as watch
use Rattle.op_protocol.specs.State.{State}
use Rattle.op_protocol.specs.Watching.{on_watched, watch_at}

-- the room of a log is no matter
body_roomless : (n me : ℕ) (s : State) (p : Part) (c : ℕ) (b : Body)
    → on_watched me s (part_with_room n p) c b ≡ on_watched me s p c b
body_roomless n me s p c (body.Watch (watch.Shown at es)) = refl
body_roomless n me s p c (body.Watch (watch.Base members x)) = refl
body_roomless n me s p c (body.Watch (watch.Ask from)) = refl
body_roomless n me s p c _ = refl

pub roomless : (n me : ℕ) (s : State) (p : Part) (x : Input)
    → watch_at me s (part_with_room n p) x ≡ watch_at me s p x
roomless n me s p input.Tick = refl
roomless n me s p (input.Deliver q m) = body_roomless n me s p m.conf m.body
roomless n me s p (input.Commands cs) = refl
roomless n me s p (input.Stop members) = refl
roomless n me s p input.TrimNow = refl
roomless n me s p (input.Read r) = refl
roomless n me s p (input.Up q) = refl
roomless n me s p (input.Down q) = refl
