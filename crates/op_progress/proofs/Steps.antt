-- A step of a node that is of configuration 1 and joins no other one, where no stop-sign is proposed: it stays so, a role's
-- ballot isn't above its promise, nor is the own ballot of who takes it for the leader's, and what is sent tells of no ballot
-- above the promise.
use Rattle.std.proofs.Common.{◌≡◌, ◌&&◌, ◌||◌, inl, inr, ℕ, Bool, false, not, eqb, ltb, is_some, List, [], ◌∷◌, Option, Some, None, refl, sym, ap, ◌∙◌, subst}
use Rattle.std.proofs.lemmas.Bool.{cond_both, both_ways}
use Rattle.op_types.specs.Ballots.{is_below, greater}
use Rattle.op_types.specs.Effects.{Effects}
use Rattle.op_types.specs.declared.answers.Refusal.{Refusal}
use Rattle.op_types.specs.declared.ballot.Ballot.{Ballot}
use Rattle.op_types.specs.declared.changes.Change.{Change}
use Rattle.op_types.specs.declared.durable.Closed.{Closed}
use Rattle.op_types.specs.declared.durable.Durable.{Durable}
use Rattle.op_types.specs.declared.durable.Joining.{Joining}
use Rattle.op_types.specs.declared.durable.Part.{Part}
use Rattle.op_types.specs.declared.events.Input.{Input}
use Rattle.op_types.specs.declared.events.Input.TheVariants as input
use Rattle.op_types.specs.declared.log.Entry.{Entry}
use Rattle.op_types.specs.declared.messages.Body.{Body}
use Rattle.op_types.specs.declared.messages.Body.TheVariants as body
use Rattle.op_types.specs.declared.messages.Msg.{Msg}
use Rattle.op_protocol.specs.State.{Volatile, PartStep, with_effects}
use Rattle.op_protocol.specs.Configurations.{latest_of}
use Rattle.op_protocol.specs.Joining.{gives_base, gives_segment, on_base_piece}
use Rattle.op_protocol.specs.Parts.{part_after, message, is_admitted_body}
use Rattle.op_protocol.specs.Leader.{session_down}
use Rattle.op_protocol.specs.Rows.{on_body, message_at, is_of_joining, is_prepare_req, may_be_above, on_older, on_newer, on_latest, member_step, message_step, entries_of, proposal_at, refusal_of, trim_at, up_at, step_at}
use Rattle.op_protocol.specs.Tick.{remembering}
use Rattle.op_protocol.specs.Watched.{is_watching, watch_answers}
use Rattle.op_lockstep.specs.Lockstep.{is_reply}
use Rattle.op_lockstep.proofs.Clean.{IsCleanBody, IsCleanInput}
use Rattle.op_lockstep.proofs.Lists.{Each}
use Rattle.op_lockstep.proofs.Watched.{answers_hold}
use Rattle.op_progress.proofs.Orders.{AtMost, at_most_then, greater_at_most, first_at_most, second_at_most}
use Rattle.op_progress.proofs.Rows.{Claim, IsKept, RoleIn, SendIn, IsFree, only, only_kept, propose_in, down_in, up_in, trim_now_in, free_after, prepared_in, refused_in, Promises, floor_rises, StepIn, remembers, does_row, body_step}

-- ---- what an input brings
abbrev pub prepared_by : Input → Option Ballot
prepared_by (input.Deliver q m) = prepared_in m.body
prepared_by _ = None

abbrev pub refused_by : Input → Option Ballot
refused_by (input.Deliver q m) = refused_in m.body
refused_by _ = None

abbrev pub replied_by : Input → Bool
replied_by (input.Deliver q m) = is_reply m.body
replied_by _ = false

-- ---- a node with a part
module _ (P : Claim) (me : ℕ) (d : Durable) (p : Part) (v : Volatile) (has : d.part ≡ Some p) (stays : d.joining ≡ None) (open_ : d.closed ≡ None) (kept : IsKept me p.members P) (h : P.told p.promised) (k : RoleIn P v.role) where
  abbrev Brings : Body → PartStep → Type 0
  Brings b y = StepIn P p v (prepared_in b) (refused_in b) (is_reply b) y

  keeps : (b : Body) (sends : List (ℕ × Msg)) → Each (SendIn P) sends → Brings b (remembering v sends)
  keeps b sends s = remembers P p v (prepared_in b) (refused_in b) (is_reply b) k (remembering v sends) refl tt s

  at_part : (q : ℕ) (m : Msg) → Brings m.body (message_at me d.part v q m)
  at_part q m =
      subst (λ (o : Option Part). Brings m.body (message_at me o v q m)) (sym has)
      (cond_both (eqb m.conf p.conf && is_admitted_body p m.body) (on_body me p v q m.body) (remembering v []) (Brings m.body) (λ _. body_step P me p v q m.body kept h k) (λ _. keeps m.body [] tt))

  latest : (q conf : ℕ) (b : Body) → IsCleanBody b → Brings b (on_latest me d v q conf b)
  latest q conf (body.NextConf members olds len trimmed) x = absurd x
  latest q conf body.AskBase x = keeps body.AskBase (gives_base d.closed q conf) (subst (λ (o : Option Closed). Each (SendIn P) (gives_base o q conf)) (sym open_) tt)
  latest q conf (body.AskSegment from to) x = keeps (body.AskSegment from to) (gives_segment d.closed q conf from to) (subst (λ (o : Option Closed). Each (SendIn P) (gives_segment o q conf from to)) (sym open_) tt)
  latest q conf (body.BasePiece piece) x = subst (λ (j : Option Joining). Brings (body.BasePiece piece) (on_base_piece j v conf piece)) (sym stays) (keeps (body.BasePiece piece) [] tt)
  latest q conf b x = at_part q (record { conf = conf; body = b })

  member_in : (q : ℕ) (m : Msg) → IsCleanBody m.body → Brings m.body (member_step me d v q m)
  member_in q m x =
      cond_both (is_some d.joining && not (is_of_joining m.body)) _ _ (Brings m.body) (λ _. keeps m.body [] tt)
      (λ _. cond_both (ltb m.conf (latest_of d)) _ _ (Brings m.body)
      (λ _. keeps m.body (on_older d d.closed q) (subst (λ (o : Option Closed). Each (SendIn P) (on_older d o q)) (sym open_) tt))
      (λ _. cond_both (ltb (latest_of d) m.conf && not (may_be_above m.body)) _ _ (Brings m.body)
      (λ _. keeps m.body (on_newer d q m.body) (cond_both (is_some d.joining || (is_of_joining m.body || is_prepare_req m.body)) [] (message (latest_of d) q body.PrepareReq ∷ []) (Each (SendIn P)) (λ _. tt) (λ _. (tt, tt))))
      (λ _. latest q m.conf m.body x)))

  message_in : (q : ℕ) (m : Msg) → IsCleanBody m.body → Brings m.body (message_step me d v q m)
  message_in q m x =
      let told : List (ℕ × Msg) = watch_answers d q m.conf m.body in
      cond_both (is_watching m.body) (remembering v told) (member_step me d v q m) (Brings m.body)
      (λ _. keeps m.body told (answers_hold (SendIn P) (λ to c w. tt) d q m.conf m.body)) (λ _. member_in q m x)

  abbrev Asks : PartStep → Type 0
  Asks y = StepIn P p v None None false y

  still : (y : PartStep) → y.volatile ≡ v → Each IsFree y.batch → Each (SendIn P) y.sends → Asks y
  still y e f s = remembers P p v None None false k y e f s

  does_ : (e : Effects) → Rattle.op_progress.proofs.Rows.RowIn P e → Asks (with_effects v e)
  does_ e c = does_row P p v None None false k e c

  proposal_in : (es : List Entry) (r : Option Refusal) → Asks (proposal_at me d.part v es r)
  proposal_in es (Some r) = still (proposal_at me d.part v es (Some r)) refl tt tt
  proposal_in es None = subst (λ (o : Option Part). Asks (proposal_at me o v es None)) (sym has) (does_ _ (propose_in P me p v.role es k))

  trim_in : Asks (trim_at me d.part v)
  trim_in = subst (λ (o : Option Part). Asks (trim_at me o v)) (sym has) (does_ _ (trim_now_in P me p v.role k))

  -- the same of a session that begins, where these are the node's part and what it joins
  session_in : (q : ℕ) (o : Option Part) (j : Option Joining) → o ≡ Some p → j ≡ None → Asks (up_at me d o j v q)
  session_in q o j e f = subst (λ (x : Option Part). Asks (up_at me d x j v q)) (sym e) (subst (λ (x : Option Joining). Asks (up_at me d (Some p) x v q)) (sym f) (does_ _ (up_in P me p v.role q k)))

  -- whatever comes but a tick
  pub step_in : (x : Input) → (x ≡ input.Tick → ⊥) → IsCleanInput x → StepIn P p v (prepared_by x) (refused_by x) (replied_by x) (step_at me d v x)
  step_in input.Tick n c = absurd (n refl)
  step_in (input.Deliver q m) n c = message_in q m c
  step_in (input.Commands cs) n c = proposal_in (entries_of cs) (refusal_of me v.role d (entries_of cs))
  step_in (input.Stop members) n c = absurd c
  step_in input.TrimNow n c = trim_in
  step_in (input.Read r) n c = still (remembering v []) refl tt tt
  step_in (input.Up q) n c = session_in q d.part d.joining has stays
  step_in (input.Down q) n c = does_ (session_down v.role q) (down_in P v.role q k)

-- ---- own ballots
-- an own ballot that is brought isn't above this one
abbrev pub IfOwn : ℕ → Ballot → Option Ballot → Type 0
IfOwn me b None = Unit {0}
IfOwn me b (Some n) = n.pid ≡ me → AtMost n b

module _ (me : ℕ) (d : Durable) (p : Part) (v : Volatile) (has : d.part ≡ Some p) (stays : d.joining ≡ None) (open_ : d.closed ≡ None) (x : Input) (other : x ≡ input.Tick → ⊥) (come : IsCleanInput x) (own : IfOwn me p.promised (prepared_by x)) where
  abbrev row : PartStep
  row = step_at me d v x

  abbrev promise_then : Ballot
  promise_then = (part_after p (row).batch).promised

  module _ (P : Claim) (z : StepIn P p v (prepared_by x) (refused_by x) (replied_by x) row) where
    -- an own ballot is no new promise
    own_promise : (o : Option Ballot) → Promises o p (row).batch → IfOwn me p.promised o → (promise_then).pid ≡ me → Each IsFree (row).batch
    own_promise None f i mine = f
    own_promise (Some n) (inl f) i mine = f
    own_promise (Some n) (inr e) i mine =
        let is : promise_then ≡ n = ap (λ (b : List Change). (part_after p b).promised) e.0 in
        absurd (both_ways (is_below p.promised n) (i (sym (ap (λ (b : Ballot). b.pid) is) ∙ mine)) e.1)

    free : (promise_then).pid ≡ me → Each IsFree (row).batch
    free mine = own_promise (prepared_by x) (z).promises own mine

    -- who has promised its own ballot prepares or leads it still
    pub heads_in : (G : Ballot → Type 0) → v.own.pid ≡ me → (p.promised ≡ v.own → G v.own → RoleIn (only v.own) v.role) → promise_then ≡ (row).volatile.own → G (row).volatile.own → RoleIn (only (row).volatile.own) (row).volatile.role
    heads_in G mine heads same g =
        let own_is : (row).volatile.own ≡ v.own = (z).own in
        let f : Each IsFree (row).batch = free (ap (λ (b : Ballot). b.pid) (same ∙ own_is) ∙ mine) in
        let head : RoleIn (only v.own) v.role = heads (sym (free_after p (row).batch f) ∙ same ∙ own_is) (subst G own_is g) in
        subst (λ (b : Ballot). RoleIn (only b) (row).volatile.role) (sym own_is) ((step_in (only v.own) me d p v has stays open_ (only_kept v.own me p.members) tt head x other come).role (inr f))

    -- and it knows that ballot
    pub known_in : (p.promised.pid ≡ me → AtMost p.promised (greater v.leader v.floor)) → (promise_then).pid ≡ me → AtMost promise_then (greater (row).volatile.leader (row).volatile.floor)
    known_in known mine =
        let f : Each IsFree (row).batch = free mine in
        let still : promise_then ≡ p.promised = free_after p (row).batch f in
        let least : Ballot = greater (row).volatile.leader (row).volatile.floor in
        let leader : AtMost v.leader least = subst (λ (b : Ballot). AtMost b least) (z).leader (first_at_most (row).volatile.leader (row).volatile.floor) in
        let floor : AtMost v.floor least = at_most_then v.floor (row).volatile.floor least (floor_rises (refused_by x) v.floor (row).volatile.floor (z).floor) (second_at_most (row).volatile.leader (row).volatile.floor) in
        subst (λ (b : Ballot). AtMost b least) (sym still)
        (at_most_then p.promised (greater v.leader v.floor) least (known (ap (λ (b : Ballot). b.pid) (sym still) ∙ mine)) (greater_at_most v.leader v.floor least leader floor))
