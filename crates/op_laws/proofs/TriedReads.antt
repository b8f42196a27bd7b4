-- What may be answered of the reads that wait is answered by the step that allows it: after each step none is left.
use Rattle.std.proofs.Common.{◌≡◌, ◌≤◌, ℕ, Bool, true, false, cond, not, leb, List, [], ◌∷◌, ◌++◌, filter, map, Option, Some, None, refl, sym, ap, ◌∙◌}
use Rattle.std.specs.Prelude.{option_map}
use Rattle.std.proofs.lemmas.Bool.{le-leb}
use Rattle.op_types.specs.Changes.{durable_after}
use Rattle.op_types.specs.declared.answers.Reply.{Reply}
use Rattle.op_types.specs.declared.events.Input.{Input}
use Rattle.op_reads.specs.declared.asked_read.AskedRead.{AskedRead}
use Rattle.op_reads.specs.Reads.{WaitingRead, Reads, is_confirmed, answered, without_answered}
use Rattle.op_protocol.specs.State.{State, Planned, state_after}
use Rattle.op_protocol.specs.Reading.{asking_by, read_reply, dropped_read, why_given_up, decided_of, leads_on, adopted_of, answered_of, asked_of, reading}
use Rattle.op_protocol.specs.Configurations.{latest_of}
use Rattle.op_protocol.specs.Rows.{table_plan, step_plan}
use Rattle.op_runs.specs.World.{Node, Happening, node_at, first_world, run_of}
use Rattle.op_laws.specs.Runs.{RunInRange}
use Rattle.op_laws.proofs.ReadsKept as kept

-- none of the reads that wait may be answered
abbrev pub AreTried : State → Type 0
AreTried s = answered_of s.reads (decided_of s.durable.part) (adopted_of s.volatile.role) ≡ []

-- ---- lists

-- of those that fail a test none passes it
none_passes : (test : WaitingRead → Bool) (ws : List WaitingRead) → filter test (filter (λ w. not (test w)) ws) ≡ []
none_passes test [] = refl
none_passes test (w ∷ ws) = by (none_passes test ws) (test w) refl
  where
    by : filter test (filter (λ v. not (test v)) ws) ≡ [] → (b : Bool) → test w ≡ b → filter test (cond (not b) (w ∷ filter (λ v. not (test v)) ws) (filter (λ v. not (test v)) ws)) ≡ []
    by rest true e = rest
    by rest false e = ap (λ (b : Bool). cond b (w ∷ filter test (filter (λ v. not (test v)) ws)) (filter test (filter (λ v. not (test v)) ws))) e ∙ rest

-- ---- a step

left_tried : (reads : Reads) (decided adopted : ℕ) → answered (without_answered reads decided adopted) decided adopted ≡ []
left_tried reads decided adopted = by (leb adopted decided)
  where
    test : WaitingRead → Bool
    test = is_confirmed (Rattle.std.specs.Prelude.length reads.members)

    left : Bool → Reads
    left b = cond b (record reads { waiting = filter (λ w. not (test w)) reads.waiting }) reads

    by : (b : Bool) → cond b (map (λ w. w.asked) (filter (is_confirmed (Rattle.std.specs.Prelude.length (left b).members)) (left b).waiting)) [] ≡ []
    by true = ap (map (λ (w : WaitingRead). w.asked)) (none_passes test reads.waiting)
    by false = refl

pub step_tried : (me : ℕ) (s : State) (x : Input) → AreTried (state_after s (step_plan me s x))
step_tried me s x = by (leads_on s.volatile.role (table_plan me s x).volatile.role) (asking_by me s x).reads
  where
    decided : ℕ
    decided = decided_of (durable_after s.durable (table_plan me s x).batch).part

    adopted : ℕ
    adopted = adopted_of (table_plan me s x).volatile.role

    by : (b : Bool) (o : Option Reads) → answered_of (cond b (option_map (λ reads. without_answered reads decided adopted) o) None) decided adopted ≡ []
    by false o = refl
    by true None = refl
    by true (Some reads) = left_tried reads decided adopted

-- where what was adopted is decided already, more that is decided lets no further read be answered
none_later : (o : Option Reads) (decided later adopted : ℕ) → adopted ≤ decided → answered_of o decided adopted ≡ [] → answered_of o later adopted ≡ []
none_later None decided later adopted low none = refl
none_later (Some reads) decided later adopted low none = by (leb adopted later)
  where
    ready : List AskedRead
    ready = map (λ w. w.asked) (filter (is_confirmed (Rattle.std.specs.Prelude.length reads.members)) reads.waiting)

    by : (b : Bool) → cond b ready [] ≡ []
    by true = sym (ap (λ (b : Bool). cond b ready []) (le-leb adopted decided low)) ∙ none
    by false = refl

-- so a step that asks for no read tells of none, where the node leads on that has decided what it adopted
pub tells_of_none : (me : ℕ) (s : State) (x : Input) (p : Planned) → AreTried s → (asking_by me s x).reads ≡ s.reads → leads_on s.volatile.role p.volatile.role ≡ true
    → adopted_of p.volatile.role ≡ adopted_of s.volatile.role → adopted_of s.volatile.role ≤ decided_of s.durable.part → (reading me s x p).read_replies ≡ []
tells_of_none me s x p tried same leads adopted low =
    let later : ℕ = decided_of (durable_after s.durable p.batch).part in
    let none : answered_of (asking_by me s x).reads later (adopted_of p.volatile.role) ≡ [] =
    ap (λ (o : Option Reads). answered_of o later (adopted_of p.volatile.role)) same ∙ ap (answered_of s.reads later) adopted
    ∙ none_later s.reads (decided_of s.durable.part) later (adopted_of s.volatile.role) low tried in
    let dropped : List Reply =
    map (dropped_read (why_given_up (latest_of s.durable) (durable_after s.durable p.batch).part (durable_after s.durable p.batch).closed)) (asked_of s.reads) in
    ap (λ (b : Bool). map (read_reply p.service) (cond b (answered_of (asking_by me s x).reads later (adopted_of p.volatile.role)) []) ++ cond b [] dropped) leads
    ∙ ap (λ (ready : List AskedRead). map (read_reply p.service) ready ++ []) none

-- ---- a run

-- so at this node
abbrev pub IfTried : Option Node → Type 0
IfTried o = kept.IfHolds (λ me s. AreTried s) o

-- so it is after every run
pub always_tried : (pid : ℕ) (members spares : List ℕ) (hs : List Happening) → RunInRange members spares hs → IfTried (node_at (run_of (first_world members spares) hs).nodes pid)
always_tried pid members spares hs range =
    kept.always (λ me s. AreTried s) (λ me s x above k. step_tried me s x) (λ me s none. ap (λ (o : Option Reads). answered_of o (decided_of s.durable.part) (adopted_of s.volatile.role)) none) pid members spares hs range
