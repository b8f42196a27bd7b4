-- What observers ask, and what they are shown: whatever holds of every such message holds of all that a member answers one, and of all
-- that observers bring into a world.
use Rattle.std.proofs.Common.{◌-◌, ◌+◌, ◌||◌, ℕ, zero, suc, Bool, cond, ltb, List, [], ◌∷◌, ◌++◌, length, map, take, drop, Option, Some, None}
use Rattle.std.proofs.lemmas.Bool.{cond_both}
use Rattle.op_types.specs.Cutting.{cut}
use Rattle.op_types.specs.Limits.{most_part_bytes}
use Rattle.op_types.specs.declared.durable.Durable.{Durable}
use Rattle.op_types.specs.declared.durable.Joining.{Joining}
use Rattle.op_types.specs.declared.events.Input.{Input}
use Rattle.op_types.specs.declared.events.Input.TheVariants as input
use Rattle.op_types.specs.declared.log.Entry.{Entry}
use Rattle.op_types.specs.declared.messages.Body.{Body}
use Rattle.op_types.specs.declared.messages.Body.TheVariants as body
use Rattle.op_types.specs.declared.messages.Msg.{Msg}
use Rattle.op_types.specs.declared.messages.Watch.{Watch}
use Rattle.op_types.specs.declared.messages.Watch.TheVariants as watch
use Rattle.op_protocol.specs.Joining.{piece_count}
use Rattle.op_protocol.specs.Parts.{messages, to_each}
use Rattle.op_protocol.specs.State.{State, Planned}
use Rattle.op_protocol.proofs.Watching.{watch_cases}
use Rattle.op_protocol.specs.Watched.{Decided, decided_for, shown_bodies, watch_pieces, shown_base, shown_of, shown_if, answers_by, watch_answers}
use Rattle.op_protocol.specs.Watching.{watch_plan}
use Rattle.op_runs.specs.World.{World, Node, NodeStatus, Up, Down, Failed, Fate, Done, Stopped, Faulted, Happening, Doing, Steps, Stops, Opens, Tells, Deed, Sent, Observes, node_at, sent_by, world_if_up_as, world_if_down_as, world_reopening_as, world_if_failed_as, world_by_status_as, world_beginning, world_at_observer, world_observed}
use Rattle.op_lockstep.proofs.Lists.{Each, Each-append, Each-map}

-- what holds of each message of these
module _ (P : ℕ × Msg → Type 0) (holds : (q c : ℕ) (w : Watch) → P (q, record { conf = c; body = body.Watch w })) where
  -- ---- what a member shows
  runs_shown : (c q from : ℕ) (runs : List (List Entry)) → Each P (messages c q (map (λ run. body.Watch (watch.Shown from run)) runs))
  runs_shown c q from [] = tt
  runs_shown c q from (run ∷ runs) = (holds q c (watch.Shown from run), runs_shown c q from runs)

  pieces_shown : (c q : ℕ) (members : List ℕ) (at : ℕ) (bytes : List ℕ) (from count : ℕ) → Each P (messages c q (watch_pieces members at bytes from count))
  pieces_shown c q members at bytes from zero = tt
  pieces_shown c q members at bytes from (suc count) =
      (holds q c (watch.Base members (record { at = at; total = length bytes; from = from; bytes = take most_part_bytes (drop from bytes) })), pieces_shown c q members at bytes (from + most_part_bytes) count)

  of_decided : (k : Decided) (q c from : ℕ) → Each P (shown_of k q c from)
  of_decided k q c from =
      cond_both (ltb c k.conf || ltb from k.trimmed) (messages k.conf q (shown_base k)) (messages c q (shown_bodies from (drop (from - k.trimmed) k.entries))) (Each P)
      (λ _. pieces_shown k.conf q k.members k.trimmed k.base 0 (piece_count (length k.base)))
      (λ _. runs_shown c q from (take 1 (cut (drop (from - k.trimmed) k.entries))))

  if_decided : (o : Option Decided) (q c from : ℕ) → Each P (shown_if o q c from)
  if_decided None q c from = tt
  if_decided (Some k) q c from = of_decided k q c from

  unless_joining : (j : Option Joining) (d : Durable) (q c from : ℕ) → Each P (answers_by j d q c from)
  unless_joining None d q c from = if_decided (decided_for d.part d.closed c) q c from
  unless_joining (Some j) d q c from = tt

  pub answers_hold : (d : Durable) (q c : ℕ) (b : Body) → Each P (watch_answers d q c b)
  answers_hold d q c (body.Watch (watch.Ask from)) = unless_joining d.joining d q c from
  answers_hold d q c (body.Watch (watch.Shown at es)) = tt
  answers_hold d q c (body.Watch (watch.Base members x)) = tt
  answers_hold d q c _ = tt

  -- ---- what an observer sends
  abbrev Sends : Planned → Type 0
  Sends pl = Each P pl.sends

  asked : (c : ℕ) (qs : List ℕ) (from : ℕ) → Each P (to_each c qs (body.Watch (watch.Ask from)))
  asked c [] from = tt
  asked c (q ∷ qs) from = (holds q c (watch.Ask from), asked c qs from)

  -- an observer's plan
  pub plan_holds : (me : ℕ) (s : State) (x : Input) → Sends (watch_plan me s x)
  plan_holds me s x = watch_cases me s Sends (λ batch v t. tt) (λ c qs from. asked c qs from) (λ o. tt) x

-- what holds of each message of a world
module _ (Q : Sent → Type 0) (holds : (me q c : ℕ) (w : Watch) → Q (record { from = me; to = q; message = record { conf = c; body = body.Watch w } })) where
  abbrev Told : World → Type 0
  Told w = Each Q w.messages

  steps : (w : World) (n : Node) (x : Input) → Told w → Each Q (w.messages ++ sent_by n.pid (watch_plan n.pid n.state x).sends)
  steps w n x e =
      let sends : List (ℕ × Msg) = (watch_plan n.pid n.state x).sends in
      let from : ℕ × Msg → Sent = λ s. record { from = n.pid; to = s.0; message = s.1 } in
      Each-append Q w.messages (sent_by n.pid sends) e
      (Each-map Q (λ s. Q (from s)) from (λ s h. h) sends (plan_holds (λ s. Q (from s)) (λ q c w. holds n.pid q c w) n.pid n.state x))

  if_up : (d : Doing) (f : Fate) (at : ℕ) (w : World) (n : Node) → Told w → Told (world_if_up_as Observes d f at w n)
  if_up (Steps x) Done at w n e = steps w n x e
  if_up (Steps x) Stopped at w n e = e
  if_up (Steps x) (Faulted count) at w n e = e
  if_up Stops f at w n e = e
  if_up Opens f at w n e = e
  if_up (Tells t) f at w n e = e

  -- an observer that is opened sends nothing
  opened : (w : World) → Told w → Each Q (w.messages ++ [])
  opened w e = Each-append Q w.messages [] e tt

  if_down : (d : Doing) (f : Fate) (finds_after : Bool) (after : Durable) (w : World) (n : Node) → Told w → Told (world_if_down_as Observes d f finds_after after w n)
  if_down (Steps x) f finds_after after w n e = e
  if_down Stops f finds_after after w n e = e
  if_down Opens Done finds_after after w n e = opened w e
  if_down Opens Stopped finds_after after w n e = e
  if_down Opens (Faulted count) finds_after after w n e = e
  if_down (Tells t) f finds_after after w n e = e

  reopened : (f : Fate) (after : Durable) (w : World) (n : Node) (found : Durable) → Told w → Told (world_reopening_as Observes f after w n found)
  reopened Done after w n found e = opened w e
  reopened Stopped after w n found e = e
  reopened (Faulted count) after w n found e = e

  if_failed : (d : Doing) (h : Happening) (count : ℕ) (after : Durable) (w : World) (n : Node) → Told w → Told (world_if_failed_as Observes d h count after w n)
  if_failed (Steps x) h count after w n e = e
  if_failed Stops h count after w n e = e
  if_failed Opens h count after w n e = reopened h.fate after w n (cond h.finds_after after n.state.durable) e
  if_failed (Tells t) h count after w n e = e

  by_status : (s : NodeStatus) (d : Doing) (h : Happening) (w : World) (n : Node) → Told w → Told (world_by_status_as Observes s d h w n)
  by_status Up d h w n e = if_up d h.fate h.event.line w n e
  by_status (Down after) d h w n e = if_down d h.fate h.finds_after after w n e
  by_status (Failed count after) d h w n e = if_failed d h count after w n e

  begins : (d : Doing) (f : Fate) (pid : ℕ) (w : World) → Told w → Told (world_beginning d f pid w)
  begins Opens Done pid w e = e
  begins Opens Stopped pid w e = e
  begins Opens (Faulted count) pid w e = e
  begins (Steps x) f pid w e = e
  begins Stops f pid w e = e
  begins (Tells t) f pid w e = e

  at_observer : (o : Option Node) (x : Deed) (h : Happening) (w : World) → Told w → Told (world_at_observer o x h w)
  at_observer None x h w e = begins x.doing h.fate x.pid w e
  at_observer (Some n) x h w e = by_status n.status x.doing h w n e

  -- whatever is done at observers
  pub observed_hold : (o : Option Deed) (h : Happening) (w : World) → Told w → Told (world_observed o h w)
  observed_hold None h w e = e
  observed_hold (Some x) h w e = at_observer (node_at w.observers x.pid) x h w e
