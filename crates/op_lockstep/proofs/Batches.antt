-- Batches that leave the log as it is, and plans of such batches.
use Rattle.std.proofs.Common.{◌≡◌, ◌-◌, ℕ, suc, ltb, Bool, false, cond, is_some, List, [], ◌∷◌, map, take, drop, Option, Some, None, All, refl, ap, ap₂, ◌∙◌, arith, drop_of_length-le, length-take}
use Rattle.op_types.specs.Changes.{IsCommand, part_with, durable_with, durable_after}
use Rattle.op_types.specs.Stops.{stop_at_end}
use Rattle.op_types.specs.declared.log.Entry.{Entry}
use Rattle.op_types.specs.declared.log.Entry.TheVariants as entry
use Rattle.op_types.specs.declared.changes.Change.{Change}
use Rattle.op_types.specs.declared.changes.Change.TheVariants as change
use Rattle.op_types.specs.declared.durable.Durable.{Durable}
use Rattle.op_types.specs.declared.durable.Joining.{Joining}
use Rattle.op_types.specs.declared.durable.Part.{Part}
use Rattle.op_types.specs.declared.events.Input.{Input}
use Rattle.op_types.specs.declared.events.Input.TheVariants as input
use Rattle.op_protocol.specs.State.{State, Volatile, Waiting, PartStep, Planned}
use Rattle.op_protocol.specs.Parts.{part_after, decided_since}
use Rattle.op_protocol.specs.Configurations.{latest_of, closing, closing_part}
use Rattle.op_protocol.specs.Joining.{brought_to}
use Rattle.op_protocol.specs.Rows.{based, based_batch, brought_by, planned, plan_of, step_at, step_bringing, table_plan, waiting_at}
use Rattle.op_lockstep.proofs.Lists.{Each, by_test}

-- ---- the log stays
abbrev pub IsLight : Change → Type 0
IsLight (change.Promise n) = Unit {0}
IsLight (change.Accept n) = Unit {0}
IsLight (change.Decided x) = Unit {0}
IsLight _ = ⊥

pub record KeepsLog (p q : Part) : Type 0 where
  pub items : q.tail.items ≡ p.tail.items
  pub trimmed : q.trimmed ≡ p.trimmed

light_one : (p : Part) (c : Change) → IsLight c → KeepsLog p (part_with p c)
light_one p (change.Promise n) f = record { items = refl; trimmed = refl }
light_one p (change.Accept n) f = record { items = refl; trimmed = refl }
light_one p (change.Decided x) f = record { items = refl; trimmed = refl }
light_one p _ f = absurd f

pub keeps_log : (p : Part) (batch : List Change) → Each IsLight batch → KeepsLog p (part_after p batch)
keeps_log p [] f = record { items = refl; trimmed = refl }
keeps_log p (c ∷ batch) f =
    let a = light_one p c f.0 in
    let b = keeps_log (part_with p c) batch f.1 in
    record { items = b.items ∙ a.items; trimmed = b.trimmed ∙ a.trimmed }

-- and so does what is held while joining
pub record StoresPart (d : Durable) (p : Part) (new : Durable) : Type 0 where
  pub part : new.part ≡ Some p
  pub joining : new.joining ≡ d.joining

stores_one : (d : Durable) (p : Part) (c : Change) → IsLight c → d.part ≡ Some p → StoresPart d (part_with p c) (durable_with d c)
stores_one d p (change.Promise n) f e = record { part = ap (λ (o : Option Part). (durable_with (record d { part = o }) (change.Promise n)).part) e; joining = refl }
stores_one d p (change.Accept n) f e = record { part = ap (λ (o : Option Part). (durable_with (record d { part = o }) (change.Accept n)).part) e; joining = refl }
stores_one d p (change.Decided x) f e = record { part = ap (λ (o : Option Part). (durable_with (record d { part = o }) (change.Decided x)).part) e; joining = refl }
stores_one d p _ f e = absurd f

pub stores_after : (d : Durable) (p : Part) (batch : List Change) → Each IsLight batch → d.part ≡ Some p → StoresPart d (part_after p batch) (durable_after d batch)
stores_after d p [] f e = record { part = e; joining = refl }
stores_after d p (c ∷ batch) f e =
    let a = stores_one d p c f.0 e in
    let b = stores_after (durable_with d c) (part_with p c) batch f.1 a.part in
    record { part = b.part; joining = b.joining ∙ a.joining }

light_based : (p : Part) (batch : List Change) → Each IsLight batch → map (based p) batch ≡ batch
light_based p [] f = refl
light_based p (c ∷ batch) f = ap₂ (λ (x : Change) (xs : List Change). x ∷ xs) (one c f.0) (light_based p batch f.1)
  where
    one : (c : Change) → IsLight c → based p c ≡ c
    one (change.Promise n) f = refl
    one (change.Accept n) f = refl
    one (change.Decided x) f = refl
    one _ f = absurd f

-- ---- no stop-sign is decided
pub no_end : (es : List Entry) → All IsCommand es → is_some (stop_at_end es) ≡ false
no_end [] a = refl
no_end (e ∷ []) a = one e (a 0 e (omega arith))
  where
    one : (e : Entry) → IsCommand e → is_some (stop_at_end (e ∷ [])) ≡ false
    one (entry.Command c) k = refl
    one (entry.Stop s) k = absurd k
no_end (e ∷ (f ∷ es)) a = no_end (f ∷ es) (λ k d l. a (suc k) d (omega arith))

nothing_between : (n : ℕ) (es : List Entry) → drop n (take n es) ≡ []
nothing_between n es = drop_of_length-le (take n es) (omega (arith, length-take n es))

-- nothing more is decided
pub decides_nothing : (p q : Part) → q.decided ≡ p.decided → decided_since p q ≡ []
decides_nothing p q e = ap (λ (n : ℕ). drop (p.decided - q.trimmed) (take (n - q.trimmed) q.tail.items)) e ∙ nothing_between (p.decided - q.trimmed) q.tail.items

-- ---- the plan
pub nothing_brought : (d : Durable) (v : Volatile) (x : Input) → d.joining ≡ None → brought_by d v x ≡ None
nothing_brought d v input.Tick e = refl
nothing_brought d v (input.Deliver q m) e =
    by_test (ltb m.conf (latest_of d)) (λ (b : Bool). cond b None (brought_to d.joining v.pieces m.conf m.body) ≡ None) (λ _. refl)
    (λ _. ap (λ (o : Option Joining). brought_to o v.pieces m.conf m.body) e)
nothing_brought d v (input.Commands cs) e = refl
nothing_brought d v (input.Stop ms) e = refl
nothing_brought d v input.TrimNow e = refl
nothing_brought d v (input.Read r) e = refl
nothing_brought d v (input.Up q) e = refl
nothing_brought d v (input.Down q) e = refl

-- a step that leaves the log as it is and decides no stop-sign is planned as the part's row says
pub plan_is : (me : ℕ) (s : State) (x : Input) (a : Part) (y : PartStep) → s.durable.part ≡ Some a → s.durable.joining ≡ None
    → step_at me s.durable s.volatile x ≡ y → Each IsLight y.batch → is_some (stop_at_end (decided_since a (part_after a y.batch))) ≡ false
    → (table_plan me s x ≡ planned s (waiting_at me s x) y) × ((planned s (waiting_at me s x) y).batch ≡ y.batch)
plan_is me s x a y has stays is light ends =
    let ws : Waiting = waiting_at me s x in
    let pl : Planned = planned s ws y in
    let same : pl.batch ≡ y.batch = ap (λ (o : Option Part). based_batch o y.batch) has ∙ light_based a y.batch light in (
      ap (λ o. step_bringing me s x o) (nothing_brought s.durable s.volatile x stays) ∙ ap (λ (z : PartStep). plan_of me s ws z) is ∙ ap (λ (o : Option Part). closing me o pl) has
          ∙ ap (λ (b : List Change). cond (is_some (stop_at_end (decided_since a (part_after a b)))) (closing_part me (part_after a b) pl) pl) same
          ∙ ap (λ (t : Bool). cond t (closing_part me (part_after a y.batch) pl) pl) ends,
      same,
    )
