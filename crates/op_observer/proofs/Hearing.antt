-- A message at an observer, by what it says.
use Rattle.std.proofs.Common.{◌≡◌, ℕ, List, refl, sym, ap, ◌∙◌, subst}
use Rattle.op_types.specs.declared.log.Entry.{Entry}
use Rattle.op_types.specs.declared.messages.Body.{Body}
use Rattle.op_types.specs.declared.messages.Body.TheVariants as body
use Rattle.op_types.specs.declared.messages.Msg.{Msg}
use Rattle.op_types.specs.declared.messages.Watch.{Watch}
use Rattle.op_types.specs.declared.messages.Watch.TheVariants as watch
use Rattle.op_types.specs.declared.runs.Piece.{Piece}
use Rattle.op_types.specs.Effects.{nothing_plan}
use Rattle.op_spec.specs.Service.{Service}
use Rattle.op_plans.specs.declared.member.Member.{Member}
use Rattle.op_protocol.specs.State.{State}
use Rattle.op_protocol.specs.Watching.{watch_nothing, on_watched}
use Rattle.op_watch.specs.declared.stage.BaseStage.{BaseStage}
use Rattle.op_observer.specs.Plans.{Hears, Shows, Bases}
use Rattle.op_observer.specs.declared.observer_plan.ObserverPlan.{ObserverPlan}
use Rattle.op_observer.proofs.Heard.{alone, nothing_made}

-- a message of this configuration that says this
abbrev pub saying : ℕ → Body → Msg
saying c b = record { conf = c; body = b }

module _ (m : Member) (t : BaseStage) (s : Service) (c : ℕ) where
  -- what it does is known by what is said
  pub heard_as : (b : Body) (said : Body) (p : ObserverPlan) → b ≡ said → Hears m t s (saying c said) p
      → Hears m t s (saying c b) p
  heard_as b said p is k = subst (λ (x : Body). Hears m t s (saying c x) p) (sym is) k

  -- entries
  pub heard_shown : (w : Watch) (at : ℕ) (es : List Entry) (p : ObserverPlan) → w ≡ watch.Shown at es
      → Shows m s c at es p → Hears m t s (saying c (body.Watch w)) p
  heard_shown w at es p is k =
      heard_as (body.Watch w) (body.Watch (watch.Shown at es)) p (ap (λ (x : Watch). body.Watch x) is)
      (record { table = k.table t; stage = k.stage t })

  -- a piece of a base
  pub heard_based : (w : Watch) (members : List ℕ) (x : Piece) (p : ObserverPlan) → w ≡ watch.Base members x
      → Bases m t c members x p → Hears m t s (saying c (body.Watch w)) p
  heard_based w members x p is k =
      heard_as (body.Watch w) (body.Watch (watch.Base members x)) p (ap (λ (y : Watch). body.Watch y) is)
      (record { table = k.table s; stage = k.stage })

  -- nothing happens at a message that does nothing at each state
  nothing_heard : (b : Body) (p : ObserverPlan) → p ≡ alone nothing_plan
      → ((x : State) → on_watched m.me x m.part.now c b ≡ watch_nothing x) → Hears m t s (saying c b) p
  nothing_heard b p is quiet =
      subst (Hears m t s (saying c b)) (sym is)
      (record { table = λ x k. nothing_made m t s x k ∙ sym (quiet x); stage = tt })

  -- what an observer asks
  pub heard_asked : (w : Watch) (n : ℕ) (p : ObserverPlan) → w ≡ watch.Ask n → p ≡ alone nothing_plan
      → Hears m t s (saying c (body.Watch w)) p
  heard_asked w n p is plan =
      heard_as (body.Watch w) (body.Watch (watch.Ask n)) p (ap (λ (x : Watch). body.Watch x) is)
      (nothing_heard (body.Watch (watch.Ask n)) p plan (λ x. refl))

  quiet : (b : Body) → ((w : Watch) → b ≡ body.Watch w → ⊥) → (x : State)
      → on_watched m.me x m.part.now c b ≡ watch_nothing x
  quiet (body.Watch w) none x = absurd (none w refl)
  quiet _ none x = refl

  -- all else
  pub heard_else : (b : Body) (p : ObserverPlan) → ((w : Watch) → b ≡ body.Watch w → ⊥)
      → p ≡ alone nothing_plan → Hears m t s (saying c b) p
  heard_else b p none is = nothing_heard b p is (quiet b none)
