-- Reads of a node after a step: none that waits may be answered, and only a leader has any. So an Up and a Down
-- answer none.
use Rattle.std.proofs.Common.{◌≡◌, ◌++◌, ℕ, Bool, true, false, not, List, [], ◌∷◌, filter, length, map, nat_le, if◌then◌else◌, Option, Some, None, option_map, refl, sym, ap, ap₂, ◌∙◌}
use Rattle.std.proofs.lemmas.Bool.{eq-eqb, false≢true}
use Rattle.op_types.specs.Ballots.{is_same_ballot}
use Rattle.op_types.specs.Changes.{durable_after}
use Rattle.op_types.specs.Roles.{Role, Idle, Preparing, Leading}
use Rattle.op_types.specs.declared.ballot.Ballot.{Ballot}
use Rattle.op_types.specs.declared.events.Input.{Input}
use Rattle.op_reads.specs.declared.asked_read.AskedRead.{AskedRead}
use Rattle.op_types.specs.declared.answers.Reply.{Reply}
use Rattle.op_types.specs.declared.changes.Change.{Change}
use Rattle.op_reads.specs.Reads.{Reads, WaitingRead, is_confirmed, without_answered}
use Rattle.op_protocol.specs.State.{State, Planned, state_after}
use Rattle.op_protocol.specs.Configurations.{latest_of}
use Rattle.op_protocol.specs.Reading.{adopted_of, answered_by, answered_of, asked_of, asking_by, decided_of, dropped_read, given_up_in, leads_on, read_reply, reading, why_given_up}
use Rattle.op_protocol.specs.Rows.{step_plan, table_plan}
use Rattle.op_runs.specs.World.{Kind, Votes, Observes, plan_as}
use Rattle.op_serving.specs.Cores.{Standing}
use Rattle.op_connections.proofs.Observing.{watch_quiet}

-- no read that waits may be answered
abbrev pub NoneIsReady : State → Type 0
NoneIsReady s = answered_of s.reads (decided_of s.durable.part) (adopted_of s.volatile.role) ≡ []

-- and who doesn't lead has none
pub record ReadsAreSettled (s : State) : Type 0 where
  pub ready : NoneIsReady s
  pub led : leads_on s.volatile.role s.volatile.role ≡ false → s.reads ≡ None

-- so they are at either kind of node: an observer has none
abbrev pub SettledAs : Kind → State → Type 0
SettledAs Votes s = ReadsAreSettled s
SettledAs Observes s = s.reads ≡ None

abbrev pub Settles : Standing → Type 0
Settles n = SettledAs n.kind n.state

-- ---- after a step

no_rest : (p : WaitingRead → Bool) (b : Bool) (w : WaitingRead) (ws : List WaitingRead) → p w ≡ b → filter p (filter (λ x. not (p x)) ws) ≡ [] → filter p (filter (λ x. not (p x)) (w ∷ ws)) ≡ []
no_rest p true w ws e h = rw e h
no_rest p false w ws e h = rw (e, e) h

none_passes : (p : WaitingRead → Bool) (ws : List WaitingRead) → filter p (filter (λ x. not (p x)) ws) ≡ []
none_passes p [] = refl
none_passes p (w ∷ ws) = no_rest p (p w) w ws refl (none_passes p ws)

abbrev answered_if : Bool → Reads → List AskedRead
answered_if b reads = if b then map (λ (w : WaitingRead). w.asked) (filter (is_confirmed (length reads.members)) reads.waiting) else []

abbrev left_if : Bool → Reads → Reads
left_if b reads = if b then record reads { waiting = filter (λ w. not (is_confirmed (length reads.members) w)) reads.waiting } else reads

none_left : (b : Bool) (reads : Reads) → answered_if b (left_if b reads) ≡ []
none_left true reads = ap (map (λ (w : WaitingRead). w.asked)) (none_passes (is_confirmed (length reads.members)) reads.waiting)
none_left false reads = refl

abbrev left_of : Bool → Option Reads → ℕ → ℕ → Option Reads
left_of b o decided adopted = if b then option_map (λ reads. without_answered reads decided adopted) o else None

none_ready : (b : Bool) (o : Option Reads) (decided adopted : ℕ) → answered_of (left_of b o decided adopted) decided adopted ≡ []
none_ready true None decided adopted = refl
none_ready true (Some reads) decided adopted = none_left (nat_le adopted decided) reads
none_ready false o decided adopted = refl

own_ballot : (b : Ballot) → is_same_ballot b b ≡ true
own_ballot b = rw (eq-eqb b.number b.number refl, eq-eqb b.pid b.pid refl) refl

-- who doesn't lead afterwards doesn't lead on
leads_no_more : (r q : Role) → leads_on q q ≡ false → leads_on r q ≡ false
leads_no_more r (Leading l) h = absurd (false≢true (sym h ∙ own_ballot l.ballot))
leads_no_more (Leading l) Idle h = refl
leads_no_more (Leading l) (Preparing x) h = refl
leads_no_more Idle Idle h = refl
leads_no_more Idle (Preparing x) h = refl
leads_no_more (Preparing y) Idle h = refl
leads_no_more (Preparing y) (Preparing x) h = refl

-- after each step they are settled
pub settled_after : (me : ℕ) (s : State) (x : Input) → ReadsAreSettled (state_after s (step_plan me s x))
settled_after me s x =
    let p : Planned = table_plan me s x in
    let asked : Option Reads = (asking_by me s x).reads in
    let decided : ℕ = decided_of (durable_after s.durable p.batch).part in
    let adopted : ℕ = adopted_of p.volatile.role in
    record {
      ready = none_ready (leads_on s.volatile.role p.volatile.role) asked decided adopted;
      led = λ h. ap (λ b. left_of b asked decided adopted) (leads_no_more s.volatile.role p.volatile.role h);
    }

-- settled they stay
pub settled_on : (k : Kind) (me : ℕ) (s : State) (x : Input) → SettledAs k s → SettledAs k (state_after s (plan_as k me s x))
settled_on Votes me s x h = settled_after me s x
settled_on Observes me s x h = (watch_quiet me s x).reads ∙ h

-- so they are where there are none
pub settled_without : (s : State) → s.reads ≡ None → ReadsAreSettled s
settled_without s none = record { ready = ap (λ o. answered_of o (decided_of s.durable.part) (adopted_of s.volatile.role)) none; led = λ h. none }

pub settled_none : (k : Kind) (s : State) → s.reads ≡ None → SettledAs k s
settled_none Votes s none = settled_without s none
settled_none Observes s none = none

-- ---- a step that decides nothing, and leaves whether its node leads

abbrev answers_at : Bool → Option Reads → ℕ → ℕ → List AskedRead
answers_at b o decided adopted = if b then answered_of o decided adopted else []

no_answers : (b : Bool) (o : Option Reads) (decided adopted : ℕ) → answered_of o decided adopted ≡ [] → answers_at b o decided adopted ≡ []
no_answers true o decided adopted h = h
no_answers false o decided adopted h = refl

abbrev drops_at : Bool → (AskedRead → Reply) → Option Reads → List Reply
drops_at b f o = if b then [] else map f (asked_of o)

no_drops : (b : Bool) (f : AskedRead → Reply) (o : Option Reads) → (b ≡ false → o ≡ None) → drops_at b f o ≡ []
no_drops true f o h = refl
no_drops false f o h = ap (λ q. map f (asked_of q)) (h refl)

-- it answers no read
pub answers_none : (me : ℕ) (s : State) (x : Input) (p : Planned) → (asking_by me s x).reads ≡ s.reads → p.batch ≡ [] → leads_on s.volatile.role p.volatile.role ≡ leads_on s.volatile.role s.volatile.role
    → adopted_of p.volatile.role ≡ adopted_of s.volatile.role → ReadsAreSettled s → (reading me s x p).read_replies ≡ []
answers_none me s x p asks batch leads adopted t =
    let b : Bool = leads_on s.volatile.role s.volatile.role in
    let decided : List Change → ℕ = λ cs. decided_of (durable_after s.durable cs).part in
    let f : AskedRead → Reply = dropped_read (why_given_up (latest_of s.durable) (durable_after s.durable p.batch).part (durable_after s.durable p.batch).closed) in
    let answers : answered_by me s x p ≡ [] =
    ap (λ c. answers_at c (asking_by me s x).reads (decided p.batch) (adopted_of p.volatile.role)) leads
    ∙ ap (λ o. answers_at b o (decided p.batch) (adopted_of p.volatile.role)) asks
    ∙ ap (λ cs. answers_at b s.reads (decided cs) (adopted_of p.volatile.role)) batch
    ∙ ap (answers_at b s.reads (decided [])) adopted
    ∙ no_answers b s.reads (decided []) (adopted_of s.volatile.role) t.ready in
    let drops : given_up_in s p ≡ [] = ap (λ c. drops_at c f s.reads) leads ∙ no_drops b f s.reads t.led in
    ap₂ (λ rs ds. map (read_reply p.service) rs ++ ds) answers drops
