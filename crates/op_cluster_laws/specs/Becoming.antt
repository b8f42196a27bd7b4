-- A trace as happenings of the world: what each event at a node becomes.
use Rattle.std.specs.Prelude.{◌≡◌, ◌⊎◌, ◌++◌, ◌∷◌, [], ℕ, List, slice_get, Bool, true, false, Some, None}
use Rattle.op_types.specs.declared.durable.Durable.{Durable}
use Rattle.op_types.specs.declared.events.Input.{Input}
use Rattle.op_types.specs.declared.events.Input.TheVariants as input
use Rattle.op_types.specs.declared.answers.Reply.{Reply}
use Rattle.op_types.specs.declared.messages.Msg.{Msg}
use Rattle.op_runs.specs.declared.events.What.{What}
use Rattle.op_runs.specs.declared.events.What.TheVariants as what
use Rattle.op_runs.specs.declared.summary.Line.{Line}
use Rattle.op_runs.specs.declared.summary.Line.TheVariants as line
use Rattle.op_protocol.specs.State.{State}
use Rattle.op_runs.specs.Schedules.{observers_begun}
use Rattle.op_runs.specs.World.{Kind, World, Sent, Happening, Fate, Done, answer_line, first_world, run_of}
use Rattle.op_serving.specs.Cores.{Standing}
use Rattle.op_serving.specs.Fates as fates
use Rattle.op_serving.specs.Inputs.{enters}
use Rattle.op_cluster_laws.specs.Traces.{Event, does, opens, Happened, Lived, stands, stepped, stored_in, pending_in, lived_at}

-- a message, from one node to another
abbrev pub sent_between : ℕ → ℕ → Msg → Sent
sent_between from to m = record { from = from; to = to; message = m }

-- it is a message of some number
abbrev pub Numbered : List Sent → Sent → Type 0
Numbered ms x = (i : ℕ) × (slice_get ms i ≡ Some x)

-- the line of an answer, to a read or to a command
abbrev pub told_line : Bool → ℕ → Reply → Line
told_line true p r = line.Read p r.client r.seq r.answer
told_line false p r = answer_line p r.client r.seq r.answer

-- what an input is in a world in which these messages were sent: a delivery is that of a message of some
-- number
pub data Says (messages : List Sent) (pid : ℕ) : Input → What → Type 0 where
  ticks : Says messages pid input.Tick (what.Tick pid)
  delivers : {q : ℕ} {m : Msg} (i : ℕ) → slice_get messages i ≡ Some (sent_between q pid m)
      → Says messages pid (input.Deliver q m) (what.Deliver i)
  proposes : {cs : _} → Says messages pid (input.Commands cs) (what.Commands pid cs)
  stops : {members : _} → Says messages pid (input.Stop members) (what.Stop pid members)
  trims : Says messages pid input.TrimNow (what.Trim pid)
  looks_up : {r : _} → Says messages pid (input.Read r) (what.Read pid r)
  goes_up : {q : ℕ} → Says messages pid (input.Up q) (what.Up pid q)
  goes_down : {q : ℕ} → Says messages pid (input.Down q) (what.Down pid q)

-- a happening of this event, with this fate
abbrev pub fated_happening : What → Fate → Bool → Happening
fated_happening w fate finds =
    record { event = record { line = 0; what = w }; fate = fate; finds_after = finds }

-- ---- what happens at a node

-- nothing
abbrev pub IsNone : List Happening → Type 0
IsNone hs = hs ≡ []

-- a step for this input, which is done
abbrev pub IsStep : World → ℕ → Input → List Happening → Type 0
IsStep w p i hs = (x : What) × Says w.messages p i x × (hs ≡ fated_happening x Done false ∷ [])

-- steps for these, one after the other
abbrev pub AreSteps : World → ℕ → List Input → List Happening → Type 0
AreSteps w p [] hs = IsNone hs
AreSteps w p (i ∷ is) hs =
    (first rest : List Happening) × (hs ≡ first ++ rest) × IsStep w p i first
    × AreSteps (run_of w first) p is rest

-- a crash and a start
abbrev pub anew : ℕ → List Happening
anew p = fated_happening (what.Crash p) Done false ∷ fated_happening (what.Start p) Done false ∷ []

-- Its disks are opened again, and give this: what it had stored; or what lies behind the inputs that were to
-- be stored together, which then are steps. It is a crash and a start.
abbrev pub Reopens : World → ℕ → Kind → State → List Input → Durable → List Happening → Type 0
Reopens w p k s is d hs =
    (steps : List Happening) × (hs ≡ steps ++ anew p)
    × ((IsNone steps × (d ≡ s.durable)) ⊎ (AreSteps w p is steps × (d ≡ (stepped k p s is).durable)))

-- An input of this fate: done, it is a step, unless the node has failed and refuses it; or the node is opened
-- again. What is lost, or is to be stored and isn't, is nothing.
abbrev pub OfFate : World → ℕ → Standing → State → List Input → Input → fates.Fate → List Happening → Type 0
OfFate w p n s is i fates.done = elim n.failed [ None ↦ IsStep w p i | Some f ↦ IsNone ]
OfFate w p n s is i (fates.finds d) = Reopens w p n.kind s is d
OfFate w p n s is i _ = IsNone

-- an event at a node in this life
abbrev pub EventBecomes : World → ℕ → Lived → Event → List Happening → Type 0
EventBecomes w p l (does (enters who i fate)) = OfFate w p (stands l) (stored_in l) (pending_in l) i fate
EventBecomes w p l (opens d count) = Reopens w p (stands l).kind (stored_in l) (pending_in l) d
EventBecomes w p l _ = IsNone

-- ---- a trace

-- Behind these things, which have become these happenings, the next ones become those.
abbrev pub BecomeBehind : List ℕ → List ℕ → List ℕ → (ℕ → ℕ) → List Happened → List Happening
    → List Happened → List Happening → Type 0
BecomeBehind members spares observers faulted before hs [] gs = IsNone gs
BecomeBehind members spares observers faulted before hs (x ∷ xs) gs =
    (first rest : List Happening) × (gs ≡ first ++ rest)
    × EventBecomes (run_of (first_world members spares) hs) x.pid
    (lived_at members observers faulted x.pid before) x.event first
    × BecomeBehind members spares observers faulted (before ++ x ∷ []) (hs ++ first) xs rest

-- a trace becomes these happenings, behind those in which the observers begin
abbrev pub TraceBecomes : List ℕ → List ℕ → List ℕ → (ℕ → ℕ) → List Happened → List Happening → Type 0
TraceBecomes members spares observers faulted trace hs =
    (later : List Happening) × (hs ≡ observers_begun observers ++ later)
    × BecomeBehind members spares observers faulted [] (observers_begun observers) trace later
