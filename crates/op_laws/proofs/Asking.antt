-- What an input does to the reads of a leader.
use Rattle.std.proofs.Common.{◌≡◌, ◌≤◌, ℕ, suc, inl, inr, Bool, true, false, cond, ◌&&◌, eqb, leb, nat_eq, List, [], ◌∷◌, filter, map, length, Option, Some, None, refl, sym, ap, ◌∙◌, arith}
use Rattle.std.specs.Prelude.{option_map}
use Rattle.std.specs.Set.{is_member}
use Rattle.std.proofs.lemmas.Bool.{and_parts, both_ways, eqb-true, leb-true}
use Rattle.op_types.specs.Ballots.{is_same_ballot}
use Rattle.op_types.specs.Changes.{durable_after}
use Rattle.op_types.specs.Limits.{positions_end}
use Rattle.op_types.specs.RoleStates as state
use Rattle.op_types.specs.Roles as role
use Rattle.op_types.specs.Roles.{Role}
use Rattle.op_types.specs.declared.answers.Outcome.TheVariants as outcome
use Rattle.op_types.specs.declared.answers.Refusal.TheVariants as refusal
use Rattle.op_types.specs.declared.ballot.Ballot.{Ballot}
use Rattle.op_types.specs.declared.durable.Part.{Part}
use Rattle.op_types.specs.declared.events.Input.{Input}
use Rattle.op_types.specs.declared.events.Input.TheVariants as input
use Rattle.op_types.specs.declared.messages.Body.{Body}
use Rattle.op_types.specs.declared.messages.Body.TheVariants as body
use Rattle.op_types.specs.declared.messages.Msg.{Msg}
use Rattle.op_types.specs.declared.read.Read.{Read}
use Rattle.op_reads.specs.declared.asked_read.AskedRead.{AskedRead}
use Rattle.op_reads.specs.Reads.{WaitingRead, Reads, with_read, with_confirmed, is_confirmed, without_answered}
use Rattle.op_protocol.specs.Parts.{others}
use Rattle.op_protocol.specs.State.{State, Planned}
use Rattle.op_protocol.specs.Rows.{table_plan}
use Rattle.op_protocol.specs.Reading.{leading_at, reads_at, Asking, asks_members, read_asked, read_confirmed, asking_by, decided_of, leads_on, adopted_of, answered_of, answered_by, reads_after}
use Rattle.op_spec.specs.Machine.{IsAmong}
use Rattle.op_types.proofs.Order.{same_is}

none_some : {A : Type 0} (a : A) → None ≡ Some a → ⊥
none_some a e = cc

some_same : {A : Type 0} (a b : A) → Some a ≡ Some b → a ≡ b
some_same a b e = cc

-- ---- what an input does

-- a read is taken
pub record TakesRead (me : ℕ) (s : State) (x : Input) (o : Option Reads) : Type 0 where
  pub read : Read
  pub comes : x ≡ input.Read read
  pub part : Part
  pub lead : state.Leading
  pub leads : leading_at s ≡ Some (part, lead)
  pub room : eqb (suc (reads_at me part s.reads).count) positions_end ≡ false
  pub is : o ≡ Some (with_read (reads_at me part s.reads) read)

-- a member has confirmed the ballot
pub record TakesConfirmed (me : ℕ) (s : State) (x : Input) (o : Option Reads) : Type 0 where
  pub from : ℕ
  pub msg : Msg
  pub comes : x ≡ input.Deliver from msg
  pub part : Part
  pub lead : state.Leading
  pub leads : leading_at s ≡ Some (part, lead)
  pub number : ℕ
  pub says : msg.body ≡ body.Confirmed lead.ballot number
  pub conf : msg.conf ≡ part.conf
  pub is : o ≡ option_map (λ r. with_confirmed r number from) s.reads

-- an input leaves the reads, brings one, or brings a confirmation
pub data Asked (me : ℕ) (s : State) (x : Input) (o : Option Reads) : Type 0 where
  Keeps : o ≡ s.reads → Asked me s x o
  Takes : TakesRead me s x o → Asked me s x o
  Confirms : TakesConfirmed me s x o → Asked me s x o

module _ (me : ℕ) (s : State) where
  -- what becomes of a read at a leader, by whether numbers end
  abbrev by_number : Part → state.Leading → Read → Bool → Asking
  by_number p l r b = cond b (record { reads = s.reads; sends = []; outcome = Some (outcome.Refused refusal.PositionsEnd) }) (asks_members me p l.ballot (reads_at me p s.reads) r)

  of_read : (r : Read) (o : Option (Part × state.Leading)) → leading_at s ≡ o → Asked me s (input.Read r) (read_asked me o s.reads r).reads
  of_read r None e = Keeps refl
  of_read r (Some (p, l)) e = by (eqb (suc (reads_at me p s.reads).count) positions_end) refl
    where
      by : (b : Bool) → eqb (suc (reads_at me p s.reads).count) positions_end ≡ b → Asked me s (input.Read r) (read_asked me (Some (p, l)) s.reads r).reads
      by true h = Keeps (ap (λ (b : Bool). (by_number p l r b).reads) h)
      by false h = Takes (record {
        read = r;
        comes = refl;
        part = p;
        lead = l;
        leads = e;
        room = h;
        is = ap (λ (b : Bool). (by_number p l r b).reads) h;
      })

  of_confirmed : (q : ℕ) (m : Msg) (p : Part) (l : state.Leading) → leading_at s ≡ Some (p, l) → (n : Ballot) (number : ℕ) → m.body ≡ body.Confirmed n number
      → Asked me s (input.Deliver q m) (read_confirmed me (Some (p, l)) s.reads q m.conf (body.Confirmed n number))
  of_confirmed q m p l e n number says = by (eqb m.conf p.conf && (is_member nat_eq (others me p.members) q && is_same_ballot n l.ballot)) refl
    where
      by : (b : Bool) → (eqb m.conf p.conf && (is_member nat_eq (others me p.members) q && is_same_ballot n l.ballot)) ≡ b
          → Asked me s (input.Deliver q m) (cond b (option_map (λ x. with_confirmed x number q) s.reads) s.reads)
      by true h =
          let x = and_parts (eqb m.conf p.conf) (is_member nat_eq (others me p.members) q && is_same_ballot n l.ballot) h in
          let y = and_parts (is_member nat_eq (others me p.members) q) (is_same_ballot n l.ballot) x.1 in
          Confirms (record {
            from = q;
            msg = m;
            comes = refl;
            part = p;
            lead = l;
            leads = e;
            number = number;
            says = says ∙ ap (λ (b : Ballot). body.Confirmed b number) (same_is n l.ballot y.1);
            conf = eqb-true m.conf p.conf x.0;
            is = refl;
          })
      by false h = Keeps refl

  of_message : (q : ℕ) (m : Msg) (o : Option (Part × state.Leading)) → leading_at s ≡ o → (b : Body) → m.body ≡ b → Asked me s (input.Deliver q m) (read_confirmed me o s.reads q m.conf b)
  of_message q m None e b says = Keeps refl
  of_message q m (Some (p, l)) e (body.Confirmed n number) says = of_confirmed q m p l e n number says
  of_message q m (Some (p, l)) e (body.Watch w) says = Keeps refl
  of_message q m (Some (p, l)) e (body.Confirm n number) says = Keeps refl
  of_message q m (Some (p, l)) e (body.HeartbeatRequest r) says = Keeps refl
  of_message q m (Some (p, l)) e (body.HeartbeatReply r z g) says = Keeps refl
  of_message q m (Some (p, l)) e (body.Prepare z na nl nd) says = Keeps refl
  of_message q m (Some (p, l)) e (body.Promise z fa fl fd a es) says = Keeps refl
  of_message q m (Some (p, l)) e (body.AcceptSync z g es) says = Keeps refl
  of_message q m (Some (p, l)) e (body.PromisePart z part) says = Keeps refl
  of_message q m (Some (p, l)) e (body.AcceptSyncPart z part) says = Keeps refl
  of_message q m (Some (p, l)) e (body.BasePiece x) says = Keeps refl
  of_message q m (Some (p, l)) e (body.Accept z a es) says = Keeps refl
  of_message q m (Some (p, l)) e (body.Accepted z g) says = Keeps refl
  of_message q m (Some (p, l)) e (body.Decide z g) says = Keeps refl
  of_message q m (Some (p, l)) e body.PrepareReq says = Keeps refl
  of_message q m (Some (p, l)) e (body.Refuse z g) says = Keeps refl
  of_message q m (Some (p, l)) e (body.Forward g) says = Keeps refl
  of_message q m (Some (p, l)) e (body.Forwards g) says = Keeps refl
  of_message q m (Some (p, l)) e (body.TrimAsk z) says = Keeps refl
  of_message q m (Some (p, l)) e (body.Progress z g) says = Keeps refl
  of_message q m (Some (p, l)) e (body.Trim g) says = Keeps refl
  of_message q m (Some (p, l)) e (body.NextConf members olds len trimmed) says = Keeps refl
  of_message q m (Some (p, l)) e body.AskBase says = Keeps refl
  of_message q m (Some (p, l)) e (body.BasePart at bytes) says = Keeps refl
  of_message q m (Some (p, l)) e (body.AskSegment from to) says = Keeps refl
  of_message q m (Some (p, l)) e (body.Segment at es) says = Keeps refl

  pub asked : (x : Input) → Asked me s x (asking_by me s x).reads
  asked (input.Read r) = of_read r (leading_at s) refl
  asked (input.Deliver q m) = of_message q m (leading_at s) refl m.body refl
  asked input.Tick = Keeps refl
  asked (input.Commands cs) = Keeps refl
  asked (input.Stop members) = Keeps refl
  asked input.TrimNow = Keeps refl
  asked (input.Up q) = Keeps refl
  asked (input.Down q) = Keeps refl

-- reads that wait go on by their numbers
pub asked_counts : (me : ℕ) (s : State) (x : Input) (o : Option Reads) → Asked me s x o → (reads : Reads) → s.reads ≡ Some reads → (later : Reads) × (o ≡ Some later) × (reads.count ≤ later.count)
asked_counts me s x o (Keeps e) reads has = (reads, e ∙ has, omega arith)
asked_counts me s x o (Takes t) reads has =
    let same : reads_at me t.part s.reads ≡ reads = ap (reads_at me t.part) has in
    (with_read (reads_at me t.part s.reads) t.read, t.is, omega (arith, ap (λ (y : Reads). y.count) same))
asked_counts me s x o (Confirms t) reads has = (with_confirmed reads t.number t.from, t.is ∙ ap (option_map (λ r. with_confirmed r t.number t.from)) has, omega arith)

-- ---- who leads on

-- the same ballot is led before and after
pub record LeadsOn (r q : Role) : Type 0 where
  pub old : state.Leading
  pub was : r ≡ role.Leading old
  pub new : state.Leading
  pub is : q ≡ role.Leading new
  pub same : old.ballot ≡ new.ballot

pub leads_on_is : (r q : Role) → leads_on r q ≡ true → LeadsOn r q
leads_on_is (role.Leading l) (role.Leading k) h = record { old = l; was = refl; new = k; is = refl; same = same_is l.ballot k.ballot h }
leads_on_is (role.Leading l) role.Idle h = absurd (both_ways true (sym h) refl)
leads_on_is (role.Leading l) (role.Preparing k) h = absurd (both_ways true (sym h) refl)
leads_on_is role.Idle q h = absurd (both_ways true (sym h) refl)
leads_on_is (role.Preparing k) q h = absurd (both_ways true (sym h) refl)

-- ---- the reads after a step

module _ (me : ℕ) (s : State) (x : Input) where
  abbrev pub plan : Planned
  plan = table_plan me s x

  abbrev pub decided : ℕ
  decided = decided_of (durable_after s.durable plan.batch).part

  abbrev pub adopted : ℕ
  adopted = adopted_of plan.volatile.role

  -- reads wait after a step only where the node leads on, and are left of those that waited or came
  pub record Left (reads : Reads) : Type 0 where
    pub leads : leads_on s.volatile.role plan.volatile.role ≡ true
    pub early : Reads
    pub asked : (asking_by me s x).reads ≡ Some early
    pub is : reads ≡ without_answered early decided adopted

  pub left_is : (reads : Reads) → reads_after me s x plan ≡ Some reads → Left reads
  left_is reads e = by (leads_on s.volatile.role plan.volatile.role) refl (asking_by me s x).reads refl e
    where
      by : (b : Bool) → leads_on s.volatile.role plan.volatile.role ≡ b → (o : Option Reads) → (asking_by me s x).reads ≡ o → cond b (option_map (λ r. without_answered r decided adopted) o) None ≡ Some reads → Left reads
      by false h o ho k = absurd (none_some reads k)
      by true h None ho k = absurd (none_some reads k)
      by true h (Some early) ho k = record { leads = h; early = early; asked = ho; is = sym (some_same (without_answered early decided adopted) reads k) }

  -- where it leads on they go on
  pub left_goes : leads_on s.volatile.role plan.volatile.role ≡ true → (early : Reads) → (asking_by me s x).reads ≡ Some early → reads_after me s x plan ≡ Some (without_answered early decided adopted)
  left_goes h early e =
      ap (λ (b : Bool). cond b (option_map (λ r. without_answered r decided adopted) (asking_by me s x).reads) None) h ∙ ap (option_map (λ r. without_answered r decided adopted)) e

  -- a read that a step answers waited, or came, at a node that leads on, and a majority has confirmed its ballot
  pub record Ready (a : AskedRead) : Type 0 where
    pub leads : leads_on s.volatile.role plan.volatile.role ≡ true
    pub early : Reads
    pub asked : (asking_by me s x).reads ≡ Some early
    pub low : adopted ≤ decided
    pub waiting : WaitingRead
    pub among : IsAmong early.waiting waiting
    pub confirmed : is_confirmed (length early.members) waiting ≡ true
    pub is : waiting.asked ≡ a

  in_filter : (test : WaitingRead → Bool) (ws : List WaitingRead) (a : AskedRead) → IsAmong (map (λ w. w.asked) (filter test ws)) a
      → (w : WaitingRead) × IsAmong ws w × (test w ≡ true) × (w.asked ≡ a)
  in_filter test [] a i = absurd i
  in_filter test (w ∷ ws) a i = by (λ j. let r = in_filter test ws a j in (r.0, inr r.1, r.2, r.3)) (test w) refl i
    where
      by : (IsAmong (map (λ v. v.asked) (filter test ws)) a → (v : WaitingRead) × IsAmong (w ∷ ws) v × (test v ≡ true) × (v.asked ≡ a))
          → (b : Bool) → test w ≡ b → IsAmong (map (λ v. v.asked) (cond b (w ∷ filter test ws) (filter test ws))) a → (v : WaitingRead) × IsAmong (w ∷ ws) v × (test v ≡ true) × (v.asked ≡ a)
      by later true e (inl same) = (w, inl refl, e, same)
      by later true e (inr j) = later j
      by later false e j = later j

  pub ready_is : (a : AskedRead) → IsAmong (answered_by me s x plan) a → Ready a
  ready_is a i = by (leads_on s.volatile.role plan.volatile.role) refl (asking_by me s x).reads refl i
    where
      of_reads : leads_on s.volatile.role plan.volatile.role ≡ true → (early : Reads) → (asking_by me s x).reads ≡ Some early → (b : Bool) → leb adopted decided ≡ b
          → IsAmong (cond b (map (λ w. w.asked) (filter (is_confirmed (length early.members)) early.waiting)) []) a → Ready a
      of_reads h early ho false low k = absurd k
      of_reads h early ho true low k =
          let w = in_filter (is_confirmed (length early.members)) early.waiting a k in
          record { leads = h; early = early; asked = ho; low = leb-true adopted decided low; waiting = w.0; among = w.1; confirmed = w.2; is = w.3 }

      by : (b : Bool) → leads_on s.volatile.role plan.volatile.role ≡ b → (o : Option Reads) → (asking_by me s x).reads ≡ o → IsAmong (cond b (answered_of o decided adopted) []) a → Ready a
      by false h o ho k = absurd k
      by true h None ho k = absurd k
      by true h (Some early) ho k = of_reads h early ho (leb adopted decided) refl k
