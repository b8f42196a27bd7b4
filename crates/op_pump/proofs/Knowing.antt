-- What is known of marks where connections were closed, and at a later place.
use Rattle.std.proofs.Common.{◌≡◌, ◌<◌, ◌≤◌, ◌⊎◌, List, None, refl, ◌∙◌, ap, inl, inr, arith}
use Rattle.op_serving.specs.declared.mark.Mark.{Mark}
use Rattle.op_serving.specs.declared.mark.Place.{Place}
use Rattle.op_serving.specs.State.{Loop}
use Rattle.op_serving.specs.Losses.{mark_at, IsCalm, IsFrom}
use Rattle.op_serving.specs.Inputs.{State, Deed, Luck}
use Rattle.op_driver.specs.Driver.{Served, Any, Stores, Run, with_deeds, emptied, Acts, Does}
use Rattle.op_driver.proofs.Calm.{Past, grew_on, calm_at, calm_same}
use Rattle.op_driver.proofs.Stepping.{run_then, at_once}

-- ---- the same with no connection to be closed

module _ {K : Type 0} where
  pub calm_emptied : (marks : List Mark) (m : Served K) → IsCalm marks (emptied m).loop → IsCalm marks m.loop
  calm_emptied marks m h = calm_same marks m.loop (emptied m).loop refl refl (λ c. refl) h

-- ---- a later place

-- a later turn, or a later happening of the same
abbrev pub Later : Place → Place → Type 0
Later p q = (p.turn < q.turn) ⊎ ((p.turn ≡ q.turn) × (p.at < q.at))

past_later : (p q : Place) → Later p q → Past p q
past_later p q later from = grind arith

from_later : (p q : Place) → Later p q → IsFrom p (mark_at q None)
from_later p q (inl t) = inl t
from_later p q (inr t) = inr (t.0, inl t.1)

-- ---- what is done at once

-- it goes on to a later place
pub moved_run : {K : Type 0} {stores : Stores K} (move : State → State) {d : Served K} {s : Loop} → s.lost ≡ d.loop.lost → Later d.loop.place s.place
    → d.loop.place.inputs ≤ s.place.inputs
    → ((before : List Deed) → move (with_deeds before d) ≡ record { loop = s; node = d.node; deeds = before })
    → Run stores IsCalm Any (λ l u t. move u ≡ t) d (record d { loop = s })
moved_run move {d} {s} lost later up same =
    at_once IsCalm Any move {d = d} {s = s} refl (grew_on d.loop s lost (from_later d.loop.place s.place later) up)
    (λ marks k h. calm_at d.loop s lost (past_later d.loop.place s.place later) marks k) same

-- and then this is done
pub does_moved : {K : Type 0} {stores : Stores K} (f : Luck → State → State) (move : State → State) {d e : Served K} {s : Loop} → s.lost ≡ d.loop.lost
    → Later d.loop.place s.place → d.loop.place.inputs ≤ s.place.inputs
    → ((before : List Deed) → move (with_deeds before d) ≡ record { loop = s; node = d.node; deeds = before }) → Acts stores f (record d { loop = s }) e
    → Does stores (λ l u. f l (move u)) d e
does_moved f move lost later up same a =
    run_then (λ l u t. f l (move u) ≡ t) (moved_run move lost later up same) a (λ l before xs zs k mid end x y. ap (f l) x ∙ y)
