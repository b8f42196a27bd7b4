-- All whole frames that were read are dealt with.
use Rattle.std.specs.Prelude.{◌≡◌, ◌<◌, ◌+◌, ℕ, length, Some}
use Rattle.op_serving.specs.declared.kind.Kind.{Kind}
use Rattle.op_serving.specs.declared.kind.Kind.TheVariants.{Unknown, Peer, Client}
use Rattle.op_serving.specs.declared.session.Session.{Session}
use Rattle.op_serving.specs.Wire.{peer_head, client_head}
use Rattle.op_serving.specs.State.{find}
use Rattle.op_serving.specs.Inputs.{State}
use Rattle.op_serving.specs.Reading.{hello_len, client_limit, peer_limit, partial, front_of}

-- at the front of what an open connection holds stands no whole frame, and no whole greeting
abbrev pub HearsAll : State → Type 0
HearsAll s = (c : ℕ) (y : Session) → find c s.loop.sessions ≡ Some y →
    front_of y.kind y.frames ≡ partial y.kind y.frames

-- how many bytes the longest hello or frame of a connection has
abbrev pub longest : Kind → ℕ
longest Unknown = hello_len
longest (Peer q h) = peer_head + peer_limit
longest Client = client_head + client_limit

-- an open connection holds fewer bytes than that
abbrev pub HoldsLess : State → Type 0
HoldsLess s = (c : ℕ) (y : Session) → find c s.loop.sessions ≡ Some y →
    length y.frames.held < longest y.kind
