-- A leader at which an Accepted comes, and which is up after that, keeps to its term or has closed its configuration.
use Rattle.std.proofs.Common.{◌≡◌, ◌<◌, ◌⊎◌, inl, inr, ⊎_elim, ℕ, ◌==◌, ◌&&◌, Bool, true, false, cond, List, [], ◌∷◌, map, Option, Some, None, refl, sym, ap, ◌∙◌, arith, slice_get}
use Rattle.std.proofs.lemmas.Bool.{cond-true, cond-false, cases_Bool, and_parts, eq-eqb, eqb-true, false≢true}
use Rattle.op_types.specs.Changes.{durable_after}
use Rattle.op_types.specs.Ballots.{is_below}
use Rattle.op_types.specs.declared.ballot.Ballot.{Ballot}
use Rattle.op_types.specs.declared.changes.Change.{Change}
use Rattle.op_types.specs.declared.changes.Change.TheVariants as change
use Rattle.op_types.specs.declared.durable.Durable.{Durable}
use Rattle.op_types.specs.declared.durable.Part.{Part as StoredPart}
use Rattle.op_types.specs.declared.events.Input.{Input}
use Rattle.op_types.specs.declared.events.Input.TheVariants as input
use Rattle.op_runs.specs.declared.events.What.{What}
use Rattle.op_runs.specs.declared.events.What.TheVariants as what
use Rattle.op_types.specs.declared.messages.Body.{Body}
use Rattle.op_types.specs.declared.messages.Body.TheVariants as body
use Rattle.op_protocol.specs.State.{State, PartStep, Planned, Waiting, state_after}
use Rattle.op_protocol.specs.Parts.{part_after}
use Rattle.op_protocol.specs.Configurations.{latest_in, latest_of, closing_part}
use Rattle.op_protocol.specs.Rows.{based, based_batch, planned, step_at, table_plan, step_plan, waiting_at}
use Rattle.op_runs.specs.World.{World, Node, Up, Sent, Happening}
use Rattle.op_laws.specs.Exchange.{Term, before, Delivery, KeepsTo}
use Rattle.op_laws.proofs.Moves as moves
use Rattle.op_laws.proofs.Moves.{JoiningIsAbove}
use Rattle.op_laws.proofs.Placed.{conf_after}
use Rattle.op_laws.proofs.Staying.{of_row}
use Rattle.op_laws.proofs.Closing.{OnlyDecides, message_only}

none_some : {A : Type 0} (a : A) → None ≡ Some a → ⊥
none_some a e = cc

-- ---- whether an Accepted comes at the leader

abbrev says_accepted : Body → Bool
says_accepted (body.Accepted b n) = true
says_accepted _ = false

abbrev is_to : ℕ → ℕ → Option Sent → Bool
is_to conf p None = false
is_to conf p (Some s) = (s.to == p) && ((s.message.conf == conf) && says_accepted s.message.body)

abbrev brings_to : ℕ → ℕ → List Sent → What → Bool
brings_to conf p messages (what.Deliver k) = is_to conf p (slice_get messages k)
brings_to conf p messages _ = false

abbrev brings_at : ℕ → ℕ → List Sent → Option Happening → Bool
brings_at conf p messages None = false
brings_at conf p messages (Some h) = brings_to conf p messages h.event.what

-- an Accepted of the term's configuration comes at its leader
pub record Answers (w : World) (hs : List Happening) (x : Term) (i : ℕ) : Type 0 where
  pub from : ℕ
  pub ballot : Ballot
  pub size : ℕ
  pub delivery : Delivery w hs x.conf i from x.leader (body.Accepted ballot size)

module _ (w : World) (hs : List Happening) (x : Term) (i : ℕ) where
  abbrev messages : List Sent
  messages = (before w hs i).messages

  brought : Answers w hs x i → brings_at x.conf x.leader messages (slice_get hs i) ≡ true
  brought a =
      let d = a.delivery in
      ap (brings_at x.conf x.leader messages) d.is ∙ ap (brings_to x.conf x.leader messages) d.delivers ∙ ap (is_to x.conf x.leader) d.message
      ∙ ap (λ (b : Bool). b && ((x.conf == x.conf) && true)) (eq-eqb x.leader x.leader refl) ∙ ap (λ (b : Bool). b && true) (eq-eqb x.conf x.conf refl)

  of_body : (h : Happening) → slice_get hs i ≡ Some h → (k : ℕ) → h.event.what ≡ what.Deliver k → (from : ℕ) (b : Body) → slice_get messages k ≡ Some (record { from = from; to = x.leader; message = record { conf = x.conf; body = b } }) → says_accepted b ≡ true → Answers w hs x i
  of_body h is k del from (body.Accepted b n) at e = record { from = from; ballot = b; size = n; delivery = record { happening = h; is = is; number = k; delivers = del; message = at } }
  of_body h is k del from _ at e = absurd (false≢true e)

  of_sent : (h : Happening) → slice_get hs i ≡ Some h → (k : ℕ) → h.event.what ≡ what.Deliver k → (o : Option Sent) → slice_get messages k ≡ o → is_to x.conf x.leader o ≡ true → Answers w hs x i
  of_sent h is k del None at e = absurd (false≢true e)
  of_sent h is k del (Some s) at e =
      let a = and_parts (s.to == x.leader) _ e in
      let c = and_parts (s.message.conf == x.conf) (says_accepted s.message.body) a.1 in
      let to : s.to ≡ x.leader = eqb-true s.to x.leader a.0 in
      let conf : s.message.conf ≡ x.conf = eqb-true s.message.conf x.conf c.0 in
      of_body h is k del s.from s.message.body (at ∙ ap (λ (q : ℕ). let z : Sent = record { from = s.from; to = q; message = s.message } in Some z) to ∙ ap (λ (n : ℕ). let z : Sent = record { from = s.from; to = x.leader; message = record { conf = n; body = s.message.body } } in Some z) conf) c.1

  of_what : (h : Happening) → slice_get hs i ≡ Some h → (z : What) → h.event.what ≡ z → brings_to x.conf x.leader messages z ≡ true → Answers w hs x i
  of_what h is (what.Deliver k) del e = of_sent h is k del (slice_get messages k) refl e
  of_what h is _ del e = absurd (false≢true e)

  brings : (o : Option Happening) → slice_get hs i ≡ o → brings_at x.conf x.leader messages o ≡ true → Answers w hs x i
  brings None is e = absurd (false≢true e)
  brings (Some h) is e = of_what h is h.event.what refl e

  -- it does, or it doesn't
  pub answers_or : Answers w hs x i ⊎ (Answers w hs x i → ⊥)
  answers_or =
      ⊎_elim (λ (e : brings_at x.conf x.leader messages (slice_get hs i) ≡ true). inl (brings (slice_get hs i) refl e))
      (λ (e : brings_at x.conf x.leader messages (slice_get hs i) ≡ false). inr (λ a. false≢true (sym e ∙ brought a)))
      (cases_Bool (brings_at x.conf x.leader messages (slice_get hs i)))

-- ---- a leader that is up after an Accepted keeps to its term, or has closed its configuration
module _ (x : Term) (n : Node) (u : KeepsTo x n) (from : ℕ) (b : Ballot) (size : ℕ) (m : Node) (up : m.status ≡ Up) where
  abbrev s : State
  s = n.state

  abbrev z : Input
  z = input.Deliver from (record { conf = x.conf; body = body.Accepted b size })

  abbrev p : StoredPart
  p = u.part

  abbrev row : PartStep
  row = step_at n.pid s.durable s.volatile z

  abbrev ws : Waiting
  ws = waiting_at n.pid s z

  above : JoiningIsAbove s.durable
  above j h = absurd (none_some j (sym u.stays ∙ h))

  abbrev ends : Bool
  ends = moves.ends n.pid s z above p u.has ws

  abbrev plan : Planned
  plan = planned s ws row

  abbrev closed : Planned
  closed = closing_part n.pid (part_after p plan.batch) plan

  plan_is : table_plan n.pid s z ≡ cond ends closed plan
  plan_is = of_row n.pid s z p u.has u.stays ∙ moves.plan_is n.pid s z above p u.has ws

  pub keeps_or_leaves : m.state ≡ state_after s (step_plan n.pid s z) → KeepsTo x m ⊎ (x.conf < latest_of m.state.durable)
  keeps_or_leaves stepped =
      ⊎_elim
      (λ (e : ends ≡ true).
      let is : m.state.durable ≡ durable_after s.durable closed.batch = ap (λ (y : State). y.durable) stepped ∙ ap (λ (y : Planned). durable_after s.durable y.batch) (plan_is ∙ cond-true ends closed plan e) in
      inr (omega (arith, moves.leaves n.pid s z above p u.has ws, ap latest_of is, ap (λ (o : Option StoredPart). latest_in o s.durable.closed) u.has, u.conf)))
      (λ (e : ends ≡ false).
      let is : m.state.durable ≡ durable_after s.durable plan.batch = ap (λ (y : State). y.durable) stepped ∙ ap (λ (y : Planned). durable_after s.durable y.batch) (plan_is ∙ cond-false ends closed plan e) in
      inl (stays is (batch_of (message_only n.pid s.volatile from b size s.durable x.conf))))
      (cases_Bool ends)
    where
      -- the changes of the step
      batch_of : OnlyDecides s.volatile row → (plan.batch ≡ []) ⊎ ((y : ℕ) × (plan.batch ≡ change.Decided y ∷ []))
      batch_of (inl e) = inl (ap (λ (o : Option StoredPart). based_batch o row.batch) u.has ∙ ap (map (based p)) e)
      batch_of (inr e) = inr (e.0, ap (λ (o : Option StoredPart). based_batch o row.batch) u.has ∙ ap (map (based p)) e.1)

      of_changes : (bs : List Change) → plan.batch ≡ bs → (part_after p bs).promised ≡ p.promised → (durable_after s.durable bs).joining ≡ s.durable.joining → (durable_after s.durable bs).part ≡ Some (part_after p bs) → m.state.durable ≡ durable_after s.durable plan.batch → KeepsTo x m
      of_changes bs e promised joining part is = record {
        up = up;
        stays = ap (λ (d : Durable). d.joining) is ∙ ap (λ (l : List Change). (durable_after s.durable l).joining) e ∙ joining ∙ u.stays;
        part = part_after p bs;
        has = ap (λ (d : Durable). d.part) is ∙ ap (λ (l : List Change). (durable_after s.durable l).part) e ∙ part;
        conf = conf_after p bs ∙ u.conf;
        low = ap (λ (y : Ballot). is_below x.ballot y) promised ∙ u.low;
      }

      stays : m.state.durable ≡ durable_after s.durable plan.batch → (plan.batch ≡ []) ⊎ ((y : ℕ) × (plan.batch ≡ change.Decided y ∷ [])) → KeepsTo x m
      stays is (inl e) = of_changes [] e refl refl u.has is
      stays is (inr e) = of_changes (change.Decided e.0 ∷ []) e.1 refl refl (ap (λ (o : Option StoredPart). Rattle.op_types.specs.Changes.part_option_with o (change.Decided e.0)) u.has) is
