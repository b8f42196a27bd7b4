-- The table without reads plans the same, whichever reads wait.
use Rattle.std.proofs.Common.{◌≡◌, ℕ, List, Option, Some, None, refl, ap}
use Rattle.op_types.specs.Joinings.{Base, cover_of}
use Rattle.op_types.specs.Changes.{durable_after}
use Rattle.op_types.specs.declared.changes.Change.{Change}
use Rattle.op_types.specs.declared.durable.Joining.{Joining}
use Rattle.op_types.specs.declared.events.Input.{Input}
use Rattle.op_types.specs.declared.events.Input.TheVariants as input
use Rattle.op_types.specs.declared.log.Entry.{Entry}
use Rattle.op_reads.specs.Reads.{Reads}
use Rattle.op_protocol.specs.State.{State, Waiting}
use Rattle.op_protocol.specs.Joining.{goes_on_if, holding}
use Rattle.op_protocol.specs.Rows.{waiting_at, step_at, plan_of, brought_by, step_bringing, table_plan}

-- a state with these reads
abbrev pub with_reads : State → Option Reads → State
with_reads s r = record s { reads = r }

waits_unread : (me : ℕ) (s : State) (r : Option Reads) (x : Input) → waiting_at me (with_reads s r) x ≡ waiting_at me s x
waits_unread me s r (input.Commands cs) = refl
waits_unread me s r input.Tick = refl
waits_unread me s r (input.Deliver q m) = refl
waits_unread me s r (input.Stop members) = refl
waits_unread me s r input.TrimNow = refl
waits_unread me s r (input.Read a) = refl
waits_unread me s r (input.Up q) = refl
waits_unread me s r (input.Down q) = refl

starts_unread : (me : ℕ) (s : State) (r : Option Reads) (j : Joining) (batch : List Change) (b : Option Base) (es : Option (List Entry)) → goes_on_if me (with_reads s r) j batch b es ≡ goes_on_if me s j batch b es
starts_unread me s r j batch (Some b) (Some es) = refl
starts_unread me s r j batch (Some b) None = refl
starts_unread me s r j batch None es = refl

holds_unread : (me : ℕ) (s : State) (r : Option Reads) (batch : List Change) (o : Option Joining) → holding me (with_reads s r) batch o ≡ holding me s batch o
holds_unread me s r batch None = refl
holds_unread me s r batch (Some j) = starts_unread me s r j batch j.base (cover_of j)

brings_unread : (me : ℕ) (s : State) (r : Option Reads) (x : Input) (o : Option (List Change)) → step_bringing me (with_reads s r) x o ≡ step_bringing me s x o
brings_unread me s r x None = ap (λ (w : Waiting). plan_of me s w (step_at me s.durable s.volatile x)) (waits_unread me s r x)
brings_unread me s r x (Some batch) = holds_unread me s r batch (durable_after s.durable batch).joining

pub table_unread : (me : ℕ) (s : State) (r : Option Reads) (x : Input) → table_plan me (with_reads s r) x ≡ table_plan me s x
table_unread me s r x = brings_unread me s r x (brought_by s.durable s.volatile x)
