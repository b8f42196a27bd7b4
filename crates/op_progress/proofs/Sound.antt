-- What a node keeps to, where no stop-sign is proposed: it prepares or leads own ballots alone, and none above its promise; its own
-- one isn't above that where it takes it for the leader's; where it has promised its own ballot, it prepares or leads it; and
-- what it sends tells of none above the promise.
use Rattle.std.proofs.Common.{◌≡◌, ◌<◌, ◌&&◌, ◌||◌, inl, ℕ, suc, not, eqb, ltb, is_some, List, [], ◌∷◌, ◌++◌, map, Option, Some, None, refl, sym, ap, ◌∙◌, subst}
use Rattle.std.proofs.lemmas.Bool.{cond_both}
use Rattle.op_types.proofs.Order.{is_total}
use Rattle.op_types.specs.Ballots.{no_ballot, greater}
use Rattle.op_types.specs.Changes.{durable_after}
use Rattle.op_types.specs.Limits.{greatest_number, positions_end}
use Rattle.op_types.specs.RoleStates.{Leading}
use Rattle.op_types.specs.Roles.{Role}
use Rattle.op_types.specs.Roles as role
use Rattle.op_types.specs.declared.answers.Refusal.{Refusal}
use Rattle.op_types.specs.declared.ballot.Ballot.{Ballot}
use Rattle.op_types.specs.declared.changes.Change.{Change}
use Rattle.op_types.specs.declared.durable.Closed.{Closed}
use Rattle.op_types.specs.declared.durable.Durable.{Durable}
use Rattle.op_types.specs.declared.durable.Joining.{Joining}
use Rattle.op_types.specs.declared.durable.Part.{Part}
use Rattle.op_types.specs.declared.events.Input.{Input}
use Rattle.op_types.specs.declared.events.Input.TheVariants as input
use Rattle.op_types.specs.declared.log.Entry.{Entry}
use Rattle.op_types.specs.declared.messages.Body.{Body}
use Rattle.op_types.specs.declared.messages.Body.TheVariants as body
use Rattle.op_types.specs.declared.messages.Msg.{Msg}
use Rattle.op_types.specs.declared.read.Read.{Read}
use Rattle.op_protocol.specs.State.{State, Volatile, PartStep, Planned}
use Rattle.op_protocol.specs.Configurations.{latest_of}
use Rattle.op_protocol.specs.Joining.{gives_base, gives_segment, on_base_piece}
use Rattle.op_protocol.specs.Leader.{session_down}
use Rattle.op_protocol.specs.Parts.{part_after, message, others}
use Rattle.op_protocol.specs.Reading.{Asking, read_asked, reads_at, leading_at, asking_by, reading}
use Rattle.op_protocol.specs.Rows.{based, based_batch, planned, waiting_at, table_plan, step_plan, message_at, is_of_joining, is_prepare_req, may_be_above, on_older, on_newer, on_latest, member_step, message_step, entries_of, proposal_at, refusal_of, tick_at, trim_at, up_at, step_at}
use Rattle.op_protocol.specs.Tick.{remembering, on_tick}
use Rattle.op_protocol.specs.Watched.{is_watching, watch_answers}
use Rattle.op_protocol.proofs.Based.{based_after}
use Rattle.op_protocol.proofs.StepBatches.{inside_after, inside_none, inside_all_based, above_after, step_above, step_inside}
use Rattle.op_lockstep.proofs.Changes.{keeps_members, tick_covers}
use Rattle.op_lockstep.proofs.Clean.{IsCleanBody, IsCleanMemory, IsCleanInput}
use Rattle.op_lockstep.proofs.Lists.{Each, Each-append, Each-more}
use Rattle.op_lockstep.proofs.Reached.{IsStored, plain_step}
use Rattle.op_lockstep.proofs.Watched.{answers_hold}
use Rattle.op_progress.proofs.Orders.{AtMost, same_at_most, at_most_then, rises_at_most}
use Rattle.op_progress.proofs.Rows.{Claim, RoleIn, SendIn, up_to, up_to_kept, only, waiting, waiting_kept, Implies, up_to_more, role_more, body_more, to_each_in}
use Rattle.op_progress.proofs.Steps.{prepared_by, step_in, IfOwn, known_in, heads_in}
use Rattle.op_progress.proofs.Ticks.{TickIn, tick_in, tick_heads}

-- ---- words
-- what is promised
abbrev pub promise_in : Option Part → Ballot
promise_in None = no_ballot
promise_in (Some p) = p.promised

-- where this is promised: a role's ballot is an own one, and not above it, and no majority has promised one that is prepared; nor
-- is the own ballot of who takes it for the leader's above it; an own ballot that is promised is known, and prepared or led, unless numbers have ended
pub record StandsUpTo (members : List ℕ) (me : ℕ) (b : Ballot) (v : Volatile) : Type 0 where
  pub role : RoleIn (up_to me b) v.role
  pub waits : RoleIn (waiting me members) v.role
  pub own : v.leader ≡ v.own → AtMost v.own b
  pub known : b.pid ≡ me → AtMost b (greater v.leader v.floor)
  pub heads : b ≡ v.own → v.own.number < greatest_number → RoleIn (only v.own) v.role

abbrev pub IfStands : ℕ → Option Part → Volatile → Type 0
IfStands me None v = Unit {0}
IfStands me (Some p) v = StandsUpTo p.members me p.promised v

pub record IsMemory (me : ℕ) (o : Option Part) (v : Volatile) : Type 0 where
  pub own_is : v.own.pid ≡ me
  pub stands : IfStands me o v

-- what a step leaves, and sends
pub record IsSoundPlan (me : ℕ) (d : Durable) (pl : Planned) : Type 0 where
  pub memory : IsMemory me (durable_after d pl.batch).part pl.volatile
  pub raised : AtMost (promise_in d.part) (promise_in (durable_after d pl.batch).part)
  pub sends : Each (SendIn (up_to me (promise_in (durable_after d pl.batch).part))) pl.sends

-- what comes is no stop-sign, and no own ballot above the promise
pub record MayCome (me : ℕ) (d : Durable) (x : Input) : Type 0 where
  pub clean : IsCleanInput x
  pub own : IfOwn me (promise_in d.part) (prepared_by x)

-- ---- a node without a part
down_sends : (P : Claim) (r : Role) (q : ℕ) → Each (SendIn P) (session_down r q).sends
down_sends P role.Idle q = tt
down_sends P (role.Preparing r) q = tt
down_sends P (role.Leading l) q = tt

module _ (P : Claim) (me : ℕ) (d : Durable) (v : Volatile) (none : d.part ≡ None) (stays : d.joining ≡ None) (open_ : d.closed ≡ None) where
  record Bare (y : PartStep) : Type 0 where
    own : y.volatile.own ≡ v.own
    sends : Each (SendIn P) y.sends

  keeps : (sends : List (ℕ × Msg)) → Each (SendIn P) sends → Bare (remembering v sends)
  keeps sends s = record { own = refl; sends = s }

  at_none : (q : ℕ) (m : Msg) → Bare (message_at me d.part v q m)
  at_none q m = subst (λ (o : Option Part). Bare (message_at me o v q m)) (sym none) (keeps [] tt)

  latest_bare : (q conf : ℕ) (b : Body) → IsCleanBody b → Bare (on_latest me d v q conf b)
  latest_bare q conf (body.NextConf members olds len trimmed) x = absurd x
  latest_bare q conf body.AskBase x = keeps (gives_base d.closed q conf) (subst (λ (o : Option Closed). Each (SendIn P) (gives_base o q conf)) (sym open_) tt)
  latest_bare q conf (body.AskSegment from to) x = keeps (gives_segment d.closed q conf from to) (subst (λ (o : Option Closed). Each (SendIn P) (gives_segment o q conf from to)) (sym open_) tt)
  latest_bare q conf (body.BasePiece piece) x = subst (λ (j : Option Joining). Bare (on_base_piece j v conf piece)) (sym stays) (keeps [] tt)
  latest_bare q conf b x = at_none q (record { conf = conf; body = b })

  member_bare : (q : ℕ) (m : Msg) → IsCleanBody m.body → Bare (member_step me d v q m)
  member_bare q m x =
      cond_both (is_some d.joining && not (is_of_joining m.body)) _ _ Bare (λ _. keeps [] tt)
      (λ _. cond_both (ltb m.conf (latest_of d)) _ _ Bare
      (λ _. keeps (on_older d d.closed q) (subst (λ (o : Option Closed). Each (SendIn P) (on_older d o q)) (sym open_) tt))
      (λ _. cond_both (ltb (latest_of d) m.conf && not (may_be_above m.body)) _ _ Bare
      (λ _. keeps (on_newer d q m.body) (cond_both (is_some d.joining || (is_of_joining m.body || is_prepare_req m.body)) [] (message (latest_of d) q body.PrepareReq ∷ []) (Each (SendIn P)) (λ _. tt) (λ _. (tt, tt))))
      (λ _. latest_bare q m.conf m.body x)))

  message_bare : (q : ℕ) (m : Msg) → IsCleanBody m.body → Bare (message_step me d v q m)
  message_bare q m x =
      let told : List (ℕ × Msg) = watch_answers d q m.conf m.body in
      cond_both (is_watching m.body) (remembering v told) (member_step me d v q m) Bare
      (λ _. keeps told (answers_hold (SendIn P) (λ to c w. tt) d q m.conf m.body)) (λ _. member_bare q m x)

  proposal_bare : (es : List Entry) (r : Option Refusal) → Bare (proposal_at me d.part v es r)
  proposal_bare es (Some r) = record { own = refl; sends = tt }
  proposal_bare es None = subst (λ (o : Option Part). Bare (proposal_at me o v es None)) (sym none) (record { own = refl; sends = tt })

  step_bare : (x : Input) → IsCleanInput x → Bare (step_at me d v x)
  step_bare input.Tick c = subst (λ (o : Option Part). Bare (tick_at me o d.joining v)) (sym none) (subst (λ (j : Option Joining). Bare (tick_at me None j v)) (sym stays) (keeps [] tt))
  step_bare (input.Deliver q m) c = message_bare q m c
  step_bare (input.Commands cs) c = proposal_bare (entries_of cs) (refusal_of me v.role d (entries_of cs))
  step_bare (input.Stop members) c = absurd c
  step_bare input.TrimNow c = subst (λ (o : Option Part). Bare (trim_at me o v)) (sym none) (record { own = refl; sends = tt })
  step_bare (input.Read r) c = keeps [] tt
  step_bare (input.Up q) c =
      subst (λ (o : Option Part). Bare (up_at me d o d.joining v q)) (sym none)
      (subst (λ (j : Option Joining). Bare (up_at me d None j v q)) (sym stays) (keeps (on_older d d.closed q) (subst (λ (o : Option Closed). Each (SendIn P) (on_older d o q)) (sym open_) tt)))
  step_bare (input.Down q) c = record { own = refl; sends = down_sends P v.role q }

-- ---- a whole step
module _ (members : List ℕ) (me : ℕ) (s : State) (x : Input) (stored : IsStored members s.durable) (memory : IsMemory me s.durable.part s.volatile) (come : MayCome me s.durable x) where
  abbrev d : Durable
  d = s.durable

  abbrev v : Volatile
  v = s.volatile

  abbrev y : PartStep
  y = step_at me d v x

  -- what the row leaves
  record Left (batch : List Change) : Type 0 where
    memory_then : IsMemory me (durable_after d batch).part y.volatile
    raised_then : AtMost (promise_in d.part) (promise_in (durable_after d batch).part)
    sends_then : Each (SendIn (up_to me (promise_in (durable_after d batch).part))) y.sends

  left_none : d.part ≡ None → Left (based_batch d.part y.batch)
  left_none none =
      let bare = step_bare (up_to me no_ballot) me d v none stored.joining stored.closed x come.clean in
      let batch_is : based_batch d.part y.batch ≡ y.batch = ap (λ (o : Option Part). based_batch o y.batch) none in
      let part_then : (durable_after d y.batch).part ≡ None = inside_none d y.batch (step_inside me d v x).changes none in
      subst Left (sym batch_is)
      (record {
        memory_then = record { own_is = ap (λ (b : Ballot). b.pid) bare.own ∙ memory.own_is; stands = subst (λ (o : Option Part). IfStands me o y.volatile) (sym part_then) tt };
        raised_then = same_at_most (promise_in d.part) (promise_in (durable_after d y.batch).part) (ap promise_in (none ∙ sym part_then));
        sends_then = subst (λ (o : Option Part). Each (SendIn (up_to me (promise_in o))) y.sends) (sym part_then) bare.sends;
      })

  module _ (p : Part) (has : d.part ≡ Some p) where
    stands : StandsUpTo p.members me p.promised v
    stands = subst (λ (o : Option Part). IfStands me o v) has memory.stands

    -- what it has promised then
    abbrev promise : Ballot
    promise = (part_after p y.batch).promised

    raised_here : AtMost p.promised promise
    raised_here = rises_at_most p.promised promise (above_after p.promised p y.batch (step_above me d v x p has).changes (inl refl))

    -- a step leaves this
    record Stays (u : PartStep) : Type 0 where
      own_is : u.volatile.own.pid ≡ me
      stands_then : StandsUpTo p.members me (part_after p u.batch).promised u.volatile
      sends_up_to : Each (SendIn (up_to me (part_after p u.batch).promised)) u.sends

    by_tick : on_tick me p v ≡ y → Stays y
    by_tick is =
        let t : TickIn me p v (on_tick me p v) = tick_in me p v in
        subst Stays is
        (record {
          own_is = t.own_is memory.own_is;
          stands_then = record {
            role = t.role stands.role;
            waits = t.waits stands.waits;
            own = t.stands memory.own_is stands.own;
            known = λ _. tick_covers me p v;
            heads = tick_heads me p v (λ b. b.number < greatest_number) stands.known stands.heads;
          };
          sends_up_to = t.sends;
        })

    by_other : (x ≡ input.Tick → ⊥) → Stays y
    by_other n =
        let P : Claim = up_to me p.promised in
        let Q : Claim = up_to me promise in
        let more : Implies P Q = up_to_more me p.promised promise raised_here in
        let own : IfOwn me p.promised (prepared_by x) = subst (λ (o : Option Part). IfOwn me (promise_in o) (prepared_by x)) has come.own in
        let z = step_in P me d p v has stored.joining stored.closed (up_to_kept me p.promised me p.members) (is_total.irreflexive p.promised) stands.role x n come.clean in
        let W : Claim = waiting me p.members in
        let waits = (step_in W me d p v has stored.joining stored.closed (waiting_kept me p.members) tt stands.waits x n come.clean).role (inl tt) in
        record {
          own_is = ap (λ (b : Ballot). b.pid) z.own ∙ memory.own_is;
          stands_then = record {
            role = role_more P Q more y.volatile.role (z.role (inl tt));
            waits = waits;
            own = λ same. subst (λ (b : Ballot). AtMost b promise) (sym z.own) (at_most_then v.own p.promised promise (stands.own (sym z.leader ∙ same ∙ z.own)) raised_here);
            known = known_in me d p v has stored.joining stored.closed x n come.clean own P z stands.known;
            heads = heads_in me d p v has stored.joining stored.closed x n come.clean own P z (λ b. b.number < greatest_number) memory.own_is stands.heads;
          };
          sends_up_to = Each-more (SendIn P) (SendIn Q) (λ m k. body_more P Q more m.1.body k) y.sends z.sends;
        }

    left_some : Stays y → Left (based_batch d.part y.batch)
    left_some k =
        let batch : List Change = map (based p) y.batch in
        let q : Part = part_after p batch in
        let batch_is : based_batch d.part y.batch ≡ batch = ap (λ (o : Option Part). based_batch o y.batch) has in
        let part_then : (durable_after d batch).part ≡ Some q = inside_after d p batch (inside_all_based p y.batch (step_inside me d v x).changes) has in
        let promise_is : q.promised ≡ promise = ap (λ (a : Part). a.promised) (based_after p p p.base y.batch).1 in
        let promised_then : promise_in (durable_after d batch).part ≡ promise = ap promise_in part_then ∙ promise_is in
        subst Left (sym batch_is)
        (record {
          memory_then = record {
            own_is = k.own_is;
            stands = subst (λ (o : Option Part). IfStands me o y.volatile) (sym part_then)
                (subst (λ (ms : List ℕ). StandsUpTo ms me q.promised y.volatile) (sym (keeps_members p batch).members) (subst (λ (b : Ballot). StandsUpTo p.members me b y.volatile) (sym promise_is) k.stands_then));
          };
          raised_then = subst (AtMost (promise_in d.part)) (sym promised_then) (subst (λ (b : Ballot). AtMost b promise) (sym (ap promise_in has)) raised_here);
          sends_then = subst (λ (b : Ballot). Each (SendIn (up_to me b)) y.sends) (sym promised_then) k.sends_up_to;
        })

-- a tick at this part
tick_is : (me : ℕ) (d : Durable) (v : Volatile) (p : Part) → d.part ≡ Some p → d.joining ≡ None → on_tick me p v ≡ step_at me d v input.Tick
tick_is me d v p has stays = sym (ap (λ (j : Option Joining). tick_at me d.part j v) stays ∙ ap (λ (o : Option Part). tick_at me o None v) has)

module _ (members : List ℕ) (me : ℕ) (s : State) (stored : IsStored members s.durable) (clean : IsCleanMemory s.volatile) (memory : IsMemory me s.durable.part s.volatile) where
  left : (x : Input) → (come : MayCome me s.durable x) → (o : Option Part) → s.durable.part ≡ o → Left members me s x stored memory come (based_batch s.durable.part (step_at me s.durable s.volatile x).batch)
  left x come None e = left_none members me s x stored memory come e
  left input.Tick come (Some p) e = left_some members me s input.Tick stored memory come p e (by_tick members me s input.Tick stored memory come p e (tick_is me s.durable s.volatile p e stored.joining))
  left x come (Some p) e = left_some members me s x stored memory come p e (by_other members me s x stored memory come p e (λ (same : x ≡ input.Tick). cc))

  -- who is asked for a read
  asked_in : (P : Claim) (o : Option (Part × Leading)) (r : Read) → Each (SendIn P) (read_asked me o s.reads r).sends
  asked_in P None r = tt
  asked_in P (Some (p, l)) r =
      cond_both (eqb (suc (reads_at me p s.reads).count) positions_end) _ _ (λ (a : Asking). Each (SendIn P) a.sends) (λ _. tt)
      (λ _. to_each_in P p.conf (others me p.members) (body.Confirm l.ballot (suc (reads_at me p s.reads).count)) tt)

  asking_in : (P : Claim) (x : Input) → Each (SendIn P) (asking_by me s x).sends
  asking_in P (input.Read r) = asked_in P (leading_at s) r
  asking_in P (input.Deliver q m) = tt
  asking_in P _ = tt

  plan_is : (x : Input) → IsCleanInput x → table_plan me s x ≡ planned s (waiting_at me s x) (step_at me s.durable s.volatile x)
  plan_is x come = (plain_step members me s x stored clean come).is

  pub plan_sound : (x : Input) → MayCome me s.durable x → IsSoundPlan me s.durable (step_plan me s x)
  plan_sound x come =
      let k = left x come s.durable.part refl in
      let pl : Planned = planned s (waiting_at me s x) (step_at me s.durable s.volatile x) in
      let Q : Planned → Type 0 = λ (z : Planned). IsSoundPlan me s.durable (record z { sends = (asking_by me s x).sends ++ z.sends }) in
      let P : Claim = up_to me (promise_in (durable_after s.durable pl.batch).part) in
      let here : IsSoundPlan me s.durable (record pl { sends = (asking_by me s x).sends ++ pl.sends }) =
      record {
        memory = k.memory_then;
        raised = k.raised_then;
        sends = Each-append (SendIn P) (asking_by me s x).sends (step_at me s.durable s.volatile x).sends (asking_in P x) k.sends_then;
      } in
      read_too (table_plan me s x) (subst Q (sym (plan_is x come.clean)) here)
    where
      read_too : (z : Planned) → IsSoundPlan me s.durable (record z { sends = (asking_by me s x).sends ++ z.sends }) → IsSoundPlan me s.durable (reading me s x z)
      read_too z k = record { memory = k.memory; raised = k.raised; sends = k.sends }

  -- what is kept in memory is the row's
  pub plan_memory : (x : Input) → IsCleanInput x → (step_plan me s x).volatile ≡ (step_at me s.durable s.volatile x).volatile
  plan_memory x come = ap (λ (z : Planned). z.volatile) (plan_is x come)

  -- and so is the promise
  pub plan_promise : (x : Input) → IsCleanInput x → (p : Part) → s.durable.part ≡ Some p
      → (q : Part) × ((durable_after s.durable (step_plan me s x).batch).part ≡ Some q) × (q.promised ≡ (part_after p (step_at me s.durable s.volatile x).batch).promised)
  plan_promise x come p has =
      let y : PartStep = step_at me s.durable s.volatile x in
      let batch : List Change = map (based p) y.batch in
      let is : (step_plan me s x).batch ≡ batch = ap (λ (z : Planned). z.batch) (plan_is x come) ∙ ap (λ (o : Option Part). based_batch o y.batch) has in (
        part_after p batch,
        ap (λ (b : List Change). (durable_after s.durable b).part) is ∙ inside_after s.durable p batch (inside_all_based p y.batch (step_inside me s.durable s.volatile x).changes) has,
        ap (λ (a : Part). a.promised) (based_after p p p.base y.batch).1,
      )
