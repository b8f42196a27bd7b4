-- What an observer's plan makes of what members show it.
use Rattle.std.proofs.Common.{◌≡◌, ℕ, ◌-◌, Bool, true, false, cond, List, [], ◌∷◌, drop, Option, Some, None, is_some, refl, sym, ap, ◌∙◌, subst, All}
use Rattle.std.proofs.lemmas.Bool.{false≢true}
use Rattle.std.proofs.lemmas.List.Elements.{All-head, All-tail}
use Rattle.op_types.specs.Changes.{IsCommand, EndsNowhere, len_of}
use Rattle.op_types.specs.Effects.{nothing_plan}
use Rattle.op_types.specs.Limits.{last_conf}
use Rattle.op_types.specs.Stages.{Pieces, with_piece, whole_bytes}
use Rattle.op_types.specs.Stops.{stop_at_end}
use Rattle.op_types.specs.declared.durable.Durable.{Durable}
use Rattle.op_types.specs.declared.log.Entry.{Entry}
use Rattle.op_types.specs.declared.log.Entry.TheVariants as entry
use Rattle.op_types.specs.declared.log.StopSign.{StopSign}
use Rattle.op_types.specs.declared.plan.Plan.{Plan}
use Rattle.op_types.specs.declared.runs.Piece.{Piece}
use Rattle.op_types.specs.declared.turn.Turn.TheVariants as turn
use Rattle.op_spec.specs.Service.{Service}
use Rattle.op_change.specs.Over.{Written, nothing_written, service_over}
use Rattle.op_kv.specs.Maps.{MapState}
use Rattle.op_plans.specs.declared.member.Member.{Member}
use Rattle.op_protocol.specs.Bases.{is_base, service_in}
use Rattle.op_protocol.specs.State.{State, Planned, Volatile}
use Rattle.op_protocol.specs.Watching.{watch_nothing, watch_keeping, takes_shown, shown_batch, goes_on_behind, takes_new, on_shown, takes_base_piece, pieces_for, rebases, rebases_if, stages_piece, on_base}
use Rattle.op_deciding.specs.Deciding.{IsServed}
use Rattle.op_deciding.specs.declared.served.Served.{Served}
use Rattle.op_watch.specs.Basing.{staged_for, HasRoomToStage, rebased_plan, base_if, base_with, completed, IsStaged}
use Rattle.op_watch.specs.Plans.{lacking}
use Rattle.op_watch.specs.declared.stage.BaseStage.{BaseStage}
use Rattle.op_observer.specs.Observers.{volatile_of}
use Rattle.op_observer.specs.Plans.{made_by, IsIn, Shows, Takes, Bases, gone_on, GoesOn}
use Rattle.op_observer.specs.declared.observer_plan.ObserverPlan.{ObserverPlan}

-- ---- a state

-- the state of an observer that keeps this, and stores that
abbrev pub at : ℕ → BaseStage → Service → Durable → State
at me t s d = record { durable = d; volatile = volatile_of me t; service = s; waiting = []; reads = None }

-- whoever keeps this is in one
stands : (m : Member) (t : BaseStage) (s : Service) (x : State) → IsIn m t s x → x ≡ at m.me t s x.durable
stands m t s x k =
    λ i. record { durable = x.durable; volatile = k.0 i; service = k.1 i; waiting = k.2 i; reads = k.3 i }

-- so what a plan makes there is what it makes at each
pub at_each : (m : Member) (t : BaseStage) (s : Service) (made : Planned) (does : State → Planned)
    → ((d : Durable) → made ≡ does (at m.me t s d)) → (x : State) → IsIn m t s x → made ≡ does x
at_each m t s made does is x k = is x.durable ∙ ap does (sym (stands m t s x k))

-- a plan that does nothing to the service
abbrev pub alone : Plan → ObserverPlan
alone plan = record { plan = plan; change = nothing_written; service = None }

-- nothing happens
pub nothing_made : (m : Member) (t : BaseStage) (s : Service) (x : State) → IsIn m t s x
    → made_by m.me t s (alone nothing_plan) ≡ watch_nothing x
nothing_made m t s = at_each m t s (made_by m.me t s (alone nothing_plan)) (λ x. watch_nothing x) (λ d. refl)

-- ---- entries

module _ (m : Member) (s : Service) (c place : ℕ) (es : List Entry) where
  abbrev new : List Entry
  new = drop (len_of m.part.now - place) es

  -- whether they are taken, by what is lacking
  taken_by : (b : Bool) → takes_shown m.part.now c place es ≡ b → (x : State)
      → on_shown m.me x m.part.now c place es ≡ cond b (takes_new m.me x m.part.now new) (watch_nothing x)
  taken_by b is x = ap (λ (z : Bool). cond z (takes_new m.me x m.part.now new) (watch_nothing x)) is

  lacks_by : (b : Bool) → takes_shown m.part.now c place es ≡ b
      → lacking m.part.now c place es ≡ cond b (Some new) None
  lacks_by b is = ap (λ (z : Bool). cond z (Some new) None) is

  some_none : {A : Type 0} (a : A) → Some a ≡ None → ⊥
  some_none a e = cc

  some_is : (a b : List Entry) → Some a ≡ Some b → a ≡ b
  some_is a b e = cc

  -- nothing is lacking
  pub shows_none : lacking m.part.now c place es ≡ None → (p : ObserverPlan) → p ≡ alone nothing_plan
      → Shows m s c place es p
  shows_none none p is = by (takes_shown m.part.now c place es) refl
    where
      by : (b : Bool) → takes_shown m.part.now c place es ≡ b → Shows m s c place es p
      by true is_b = absurd (some_none new (sym (lacks_by true is_b) ∙ none))
      by false is_b =
          subst (Shows m s c place es) (sym is)
          (record {
            table = λ t x k. nothing_made m t s x k ∙ sym (taken_by false is_b x);
            stage = λ t. tt;
          })

  -- these are
  pub shows_some : (lacked : List Entry) → lacking m.part.now c place es ≡ Some lacked → (p : ObserverPlan)
      → Takes m s lacked p → Shows m s c place es p
  shows_some lacked some p takes = by (takes_shown m.part.now c place es) refl
    where
      by : (b : Bool) → takes_shown m.part.now c place es ≡ b → Shows m s c place es p
      by true is_b =
          let same : lacked ≡ new = some_is lacked new (sym some ∙ lacks_by true is_b) in
          record {
            table = λ t x k. takes.table t x k ∙ ap (λ (l : List Entry). takes_new m.me x m.part.now l) same
                ∙ sym (taken_by true is_b x);
            stage = takes.stage;
          }
      by false is_b = absurd (some_none lacked (sym some ∙ lacks_by false is_b))

-- what is shown, and served, goes on behind a stop-sign
module _ (m : Member) (s : Service) (new : List Entry) where
  abbrev plan_of : Plan
  plan_of = record nothing_plan { batch = shown_batch m.part.now new }

  -- the plan, by what ends the entries
  abbrev going : Written → Option StopSign → ObserverPlan
  going w o =
      record { plan = gone_on m.part.now.conf (service_over s w) o plan_of; change = w; service = None }

  goes : (t : BaseStage) (d : Durable) (w : Written) (o : Option StopSign)
      → made_by m.me t s (going w o) ≡ goes_on_behind m.me (at m.me t s d) m.part.now new (service_over s w) o
  goes t d w None = refl
  goes t d w (Some stop) = refl

  goes_room : (t : BaseStage) (w : Written) (o : Option StopSign) → HasRoomToStage (going w o).plan.turn t
  goes_room t w None = tt
  goes_room t w (Some stop) = tt

  pub takes_served : (served : Served) → IsServed s new served → (p : ObserverPlan)
      → GoesOn m.part.now.conf s plan_of served p → Takes m s new p
  takes_served served is p goes_on =
      let w : Written = served.change in
      subst (Takes m s new) (sym goes_on)
      (record {
        table = λ t. at_each m t s (made_by m.me t s (going w served.stop))
            (λ x. takes_new m.me x m.part.now new)
            (λ d. goes t d w served.stop
            ∙ ap (λ (o : Option StopSign). goes_on_behind m.me (at m.me t s d) m.part.now new
            (service_over s w) o) is.stop
            ∙ ap (λ (z : Service). goes_on_behind m.me (at m.me t s d) m.part.now new z
            (stop_at_end new)) is.change);
        stage = λ t. goes_room t w served.stop;
      })

-- in the last configuration no stop-sign is taken
ends_free : (es : List Entry) → All IsCommand es → is_some (stop_at_end es) ≡ true → ⊥
ends_free [] free h = false≢true h
ends_free (entry.Command c ∷ []) free h = false≢true h
ends_free (entry.Stop stop ∷ []) free h = All-head IsCommand (entry.Stop stop) [] free
ends_free (e ∷ f ∷ es) free h = ends_free (f ∷ es) (All-tail IsCommand e (f ∷ es) free) h

pub number_left : (conf : ℕ) (s : Service) (new : List Entry) (served : Served) → EndsNowhere conf new
    → IsServed s new served → is_some served.stop ≡ true → conf ≡ last_conf → ⊥
number_left conf s new served nowhere is some last =
    ends_free new (nowhere last) (sym (ap is_some is.stop) ∙ some)

-- ---- a base

module _ (m : Member) (t : BaseStage) (c : ℕ) (members : List ℕ) (x : Piece) where
  abbrev staging : Pieces
  staging = with_piece (staged_for t c) x

  -- the memory with the piece
  abbrev kept : Service → Durable → Volatile
  kept s d = record (volatile_of m.me t) { pieces = Some staging; pieces_conf = c }

  -- what the piece makes of the base, by its bytes
  completes : (s : Service) (d : Durable) (o : Option (List ℕ)) → base_if o ≡ None
      → rebases_if m.me (at m.me t s d) (kept s d) c members x.at o ≡ watch_keeping (at m.me t s d) (kept s d)
  completes s d None none = refl
  completes s d (Some bytes) none = by (is_base bytes) refl
    where
      some_none : {A : Type 0} (a : A) → Some a ≡ None → ⊥
      some_none a e = cc

      by : (b : Bool) → is_base bytes ≡ b
          → rebases_if m.me (at m.me t s d) (kept s d) c members x.at (Some bytes) ≡ watch_keeping
          (at m.me t s d) (kept s d)
      by true is = absurd (some_none bytes (sym (ap (λ (z : Bool). cond z (Some bytes) None) is) ∙ none))
      by false is =
          ap (λ (z : Bool). cond z (rebases m.me (at m.me t s d) c members x.at bytes)
          (watch_keeping (at m.me t s d) (kept s d))) is

  whole_read : (s : Service) (d : Durable) (o : Option (List ℕ)) (base : List ℕ) → base_if o ≡ Some base
      → rebases_if m.me (at m.me t s d) (kept s d) c members x.at o ≡ rebases m.me
      (at m.me t s d) c members x.at base
  whole_read s d None base some = absurd (none_some base some)
    where
      none_some : {A : Type 0} (a : A) → None ≡ Some a → ⊥
      none_some a e = cc
  whole_read s d (Some bytes) base some = by (is_base bytes) refl
    where
      none_some : {A : Type 0} (a : A) → None ≡ Some a → ⊥
      none_some a e = cc

      some_is : (a b : List ℕ) → Some a ≡ Some b → a ≡ b
      some_is a b e = cc

      by : (b : Bool) → is_base bytes ≡ b
          → rebases_if m.me (at m.me t s d) (kept s d) c members x.at (Some bytes) ≡ rebases m.me
          (at m.me t s d) c members x.at base
      by true is =
          ap (λ (z : Bool). cond z (rebases m.me (at m.me t s d) c members x.at bytes)
          (watch_keeping (at m.me t s d) (kept s d))) is
          ∙ ap (λ (l : List ℕ). rebases m.me (at m.me t s d) c members x.at l)
          (some_is bytes base (sym (ap (λ (z : Bool). cond z (Some bytes) None) is) ∙ some))
      by false is = absurd (none_some base (sym (ap (λ (z : Bool). cond z (Some bytes) None) is) ∙ some))

  -- whether it is taken
  based_by : (b : Bool) → takes_base_piece m.part.now c x ≡ b → (z : State)
      → on_base m.me z m.part.now c members x ≡ cond b
      (stages_piece m.me z c members x (with_piece (pieces_for z.volatile c) x)) (watch_nothing z)
  based_by b is z =
      ap (λ (y : Bool). cond y (stages_piece m.me z c members x (with_piece (pieces_for z.volatile c) x))
      (watch_nothing z)) is

  completed_by : (b : Bool) → takes_base_piece m.part.now c x ≡ b
      → completed m.part.now (staged_for t c) c x ≡ cond b (base_with (staged_for t c) x) None
  completed_by b is = ap (λ (y : Bool). cond y (base_with (staged_for t c) x) None) is

  -- the piece completes no base
  pub bases_none : completed m.part.now (staged_for t c) c x ≡ None → (plan : Plan)
      → IsStaged (takes_base_piece m.part.now c x) (staged_for t c) c x plan → (p : ObserverPlan)
      → p ≡ alone plan → Bases m t c members x p
  bases_none none plan staged p is = by (takes_base_piece m.part.now c x) refl
    where
      by : (b : Bool) → takes_base_piece m.part.now c x ≡ b → Bases m t c members x p
      by true is_b =
          let k = subst (λ (b : Bool). IsStaged b (staged_for t c) c x plan) is_b staged in
          let plan_is : p ≡ alone (record nothing_plan { turn = turn.StageBase c x k.0 }) = is
          ∙ ap alone k.1 in
          let no_base : base_with (staged_for t c) x ≡ None = sym (completed_by true is_b) ∙ none in
          subst (Bases m t c members x) (sym plan_is)
          (record {
            table = λ s. at_each m t s
                (made_by m.me t s (alone (record nothing_plan { turn = turn.StageBase c x k.0 })))
                (λ z. on_base m.me z m.part.now c members x)
                (λ d. sym (completes s d (whole_bytes staging.bytes) no_base)
                ∙ sym (based_by true is_b (at m.me t s d)));
            stage = k.2;
          })
      by false is_b =
          let k : plan ≡ nothing_plan =
          subst (λ (b : Bool). IsStaged b (staged_for t c) c x plan) is_b staged in
          subst (Bases m t c members x) (sym (is ∙ ap alone k))
          (record { table = λ s z in_z. nothing_made m t s z in_z ∙ sym (based_by false is_b z); stage = tt })

  -- it completes this one
  abbrev whole : List ℕ → MapState → ObserverPlan
  whole base read =
      record { plan = rebased_plan c members x.at base; change = nothing_written; service = Some read }

  pub bases_whole : (base : List ℕ) → completed m.part.now (staged_for t c) c x ≡ Some base
      → (read : MapState) → read.service ≡ service_in base → (p : ObserverPlan) → p ≡ whole base read
      → Bases m t c members x p
  bases_whole base some read reads p is = by (takes_base_piece m.part.now c x) refl
    where
      none_some : {A : Type 0} (a : A) → None ≡ Some a → ⊥
      none_some a e = cc

      by : (b : Bool) → takes_base_piece m.part.now c x ≡ b → Bases m t c members x p
      by true is_b =
          let has : base_with (staged_for t c) x ≡ Some base = sym (completed_by true is_b) ∙ some in
          subst (Bases m t c members x) (sym is)
          (record {
            table = λ s. at_each m t s (made_by m.me t s (whole base read))
                (λ z. on_base m.me z m.part.now c members x)
                (λ d. ap (λ (y : Service). let q : Planned =
                record (made_by m.me t s (whole base read)) { service = y } in q) reads
                ∙ sym (whole_read s d (whole_bytes staging.bytes) base has)
                ∙ sym (based_by true is_b (at m.me t s d)));
            stage = tt;
          })
      by false is_b = absurd (none_some base (sym (completed_by false is_b) ∙ some))
