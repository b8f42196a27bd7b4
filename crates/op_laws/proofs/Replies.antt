-- A step tells a client what the service answers after all that was decided before its command, or that it is dropped.
use Rattle.std.proofs.Common.{◌≡◌, ◌⊎◌, inl, inr, ⊎_elim, subst, ℕ, ◌-◌, is_some, List, [], ◌∷◌, ◌++◌, fold, Option, Some, None, refl, sym, ap, ◌∙◌, append_assoc}
use Rattle.std.proofs.lemmas.List.Sums.{fold-append}
use Rattle.op_types.specs.Joinings.{Base, cover_of}
use Rattle.op_types.specs.Stops.{stop_at_end}
use Rattle.op_types.specs.Changes.{durable_after}
use Rattle.op_types.specs.Roles.{Role}
use Rattle.op_types.specs.declared.answers.Cause.{Cause}
use Rattle.op_types.specs.declared.answers.Cause.TheVariants as cause
use Rattle.op_types.specs.declared.answers.Reply.{Reply}
use Rattle.op_types.specs.declared.changes.Change.{Change}
use Rattle.op_types.specs.declared.durable.Joining.{Joining}
use Rattle.op_types.specs.declared.durable.Part.{Part}
use Rattle.op_types.specs.declared.events.Input.{Input}
use Rattle.op_types.specs.declared.log.Entry.{Entry}
use Rattle.op_types.specs.declared.log.Entry.TheVariants as entry
use Rattle.op_spec.specs.Service.{Service, new_service, service_with, service_after, service_of, answer_of}
use Rattle.op_protocol.specs.State.{State, Waiting, PartStep, Planned}
use Rattle.op_protocol.specs.Parts.{part_after, decided_since}
use Rattle.op_protocol.specs.Serving.{waits, reply_of, Served, serving_command, serving_entry, serving, dropping}
use Rattle.op_protocol.specs.Configurations.{giving_up, closing_part, closing}
use Rattle.op_protocol.specs.Joining.{goes_on_if, holding}
use Rattle.op_protocol.specs.Rows.{waiting_at, newly_decided, planned, plan_of, step_at, brought_by, step_bringing, step_plan}
use Rattle.op_runs.specs.Replies.{IsServed}
use Rattle.op_refinement.proofs.View.{Each, Each-append}
use Rattle.op_refinement.proofs.NodeLists.{Each-map}
use Rattle.op_laws.proofs.GivenUp.{either, IsGivenUp, role_gives_up, step_gives_up, dropping_gives_up}

-- the history serves the reply, or it says that the proposal is dropped
abbrev pub IsTold : List Entry → Reply → Type 0
IsTold history r = IsServed history r.client r.seq r.answer ⊎ IsGivenUp r

module _ (history : List Entry) where
  given_up_told : (rs : List Reply) → Each IsGivenUp rs → Each (IsTold history) rs
  given_up_told rs e = Each-map IsGivenUp (IsTold history) (λ r k. inr k) rs e

  -- entries that go on from the history's front that the service has applied
  serving_told : (before es more : List Entry) (t : Served) → t.service ≡ service_of before → history ≡ before ++ (es ++ more) → Each (IsTold history) t.replies → Each (IsTold history) (fold serving_entry t es).replies
  serving_told before [] more t serves place told = told
  serving_told before (entry.Command c ∷ es) more t serves place told =
      let served : IsTold history (reply_of t.service c) =
      inl (record { before = before; command = c; after = es ++ more; place = place; client_is = refl; seq_is = refl; answer_is = ap (λ (s : Service). answer_of s c) serves }) in
      serving_told (before ++ entry.Command c ∷ []) es more (serving_command t c)
      (ap (λ (s : Service). service_with s c) serves ∙ sym (fold-append service_after new_service before (entry.Command c ∷ [])))
      (place ∙ sym (append_assoc before (entry.Command c ∷ []) (es ++ more)))
      (either (Each (IsTold history)) (waits t.waiting c.client c.seq) (t.replies ++ reply_of t.service c ∷ []) t.replies (Each-append (IsTold history) t.replies _ told (served, tt)) told)
  serving_told before (entry.Stop s ∷ es) more t serves place told =
      serving_told (before ++ entry.Stop s ∷ []) es more t
      (serves ∙ sym (fold-append service_after new_service before (entry.Stop s ∷ []))) (place ∙ sym (append_assoc before (entry.Stop s ∷ []) (es ++ more))) told

  -- all that a plan tells
  abbrev Tells : Planned → Type 0
  Tells pl = Each (IsTold history) pl.replies

  giving_up_told : (w : Waiting) (r : Role) (why : Cause) → Each (IsTold history) (giving_up w r why).replies
  giving_up_told w r why = given_up_told (giving_up w r why).replies (dropping_gives_up _ (record { waiting = w; replies = [] }) tt (role_gives_up r why))

  closing_told : (me : ℕ) (o : Option Part) (pl : Planned) → Tells pl → Tells (closing me o pl)
  closing_told me None pl k = k
  closing_told me (Some p) pl k =
      let q : Part = part_after p pl.batch in
      either Tells (is_some (stop_at_end (decided_since p q))) (closing_part me q pl) pl
      (Each-append (IsTold history) pl.replies _ k (giving_up_told pl.waiting pl.volatile.role (cause.Stop (q.decided - 1)))) k

  -- the history goes on from what the service has applied with what a batch newly decides
  pub record IsPlaced (s : State) (newly : List Entry) : Type 0 where
    pub before : List Entry
    pub more : List Entry
    pub serves : s.service ≡ service_of before
    pub place : history ≡ before ++ (newly ++ more)

  module _ (s : State) where
    plan_told : (me : ℕ) (waiting : Waiting) (x : PartStep) → Each IsGivenUp x.replies → (newly_decided s.durable.part x.batch ≡ []) ⊎ IsPlaced s (newly_decided s.durable.part x.batch) → Tells (plan_of me s waiting x)
    plan_told me waiting x gives place =
        let d = dropping waiting x.replies in
        let es : List Entry = newly_decided s.durable.part x.batch in
        closing_told me s.durable.part (planned s waiting x)
        (Each-append (IsTold history) (serving s.service d.waiting es).replies d.replies
        (⊎_elim (λ (e : es ≡ []). subst (λ (l : List Entry). Each (IsTold history) (serving s.service d.waiting l).replies) (sym e) tt)
        (λ (k : IsPlaced s es). serving_told k.before es k.more (record { service = s.service; waiting = d.waiting; replies = [] }) k.serves k.place tt) place)
        (given_up_told d.replies (dropping_gives_up x.replies (record { waiting = waiting; replies = [] }) tt gives)))

    -- a node that joins tells only what it gives up
    whole_told : (me : ℕ) (j : Joining) (batch : List Change) (b : Option Base) (es : Option (List Entry)) → Tells (goes_on_if me s j batch b es)
    whole_told me j batch None es = tt
    whole_told me j batch (Some b) None = tt
    whole_told me j batch (Some b) (Some es) = giving_up_told s.waiting s.volatile.role (cause.Stop (j.len - 1))

    holding_told : (me : ℕ) (batch : List Change) (o : Option Joining) → Tells (holding me s batch o)
    holding_told me batch None = tt
    holding_told me batch (Some j) = whole_told me j batch j.base (cover_of j)

    -- what a step that brings nothing of a closed list newly decides
    abbrev pub newly : ℕ → Input → List Entry
    newly me x = newly_decided s.durable.part (step_at me s.durable s.volatile x).batch

    bringing_told : (me : ℕ) (x : Input) (o : Option (List Change)) → (o ≡ None → (newly me x ≡ []) ⊎ IsPlaced s (newly me x)) → Tells (step_bringing me s x o)
    bringing_told me x None place = plan_told me (waiting_at me s x) (step_at me s.durable s.volatile x) (step_gives_up me s.durable s.volatile x) (place refl)
    bringing_told me x (Some batch) place = holding_told me batch (durable_after s.durable batch).joining

    -- a step of a node whose service has applied a front of the history, which goes on with what the step decides
    pub step_told : (me : ℕ) (x : Input) → (brought_by s.durable s.volatile x ≡ None → (newly me x ≡ []) ⊎ IsPlaced s (newly me x)) → Tells (step_plan me s x)
    step_told me x place = bringing_told me x (brought_by s.durable s.volatile x) place
