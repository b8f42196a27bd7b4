-- A batch that appends nothing changes nothing, and one that appends comes to what stands behind a log.
use Rattle.std.proofs.Common.{◌≡◌, ℕ, List, [], ◌∷◌, ◌++◌, Option, Some, None, All, refl, ap}
use Rattle.std.proofs.lemmas.List.{append-nil}
use Rattle.std.proofs.lemmas.List.Elements.{All-tail}
use Rattle.op_types.specs.Changes.{part_with_log, part_option_with, durable_with, durable_after}
use Rattle.op_types.specs.declared.log.Entry.{Entry}
use Rattle.op_types.specs.declared.durable.Part.{Part}
use Rattle.op_types.specs.declared.durable.Durable.{Durable}
use Rattle.op_types.specs.declared.changes.Change.TheVariants as variant
use Rattle.op_record.specs.Behind.{appending, part_option_behind, durable_behind}

-- what holds of all of two lists holds of the second
pub all_behind : {X : Type 0} (P : X → Type 0) (xs ys : List X) → All P (xs ++ ys) → All P ys
all_behind P [] ys h = h
all_behind P (x ∷ xs) ys h = all_behind P xs ys (All-tail P x (xs ++ ys) h)

-- ---- nothing is appended

same_part : (o : Option Part) → part_option_with o (variant.Append []) ≡ o
same_part None = refl
same_part (Some p) = ap (λ (log : List Entry). Some (part_with_log p log)) (append-nil p.tail.items)

pub appending_nothing : (d : Durable) → durable_with d (variant.Append []) ≡ d
appending_nothing d = ap (λ (o : Option Part). let e : Durable = record d { part = o } in e) (same_part d.part)

-- ---- something is

same_option : (o : Option Part) (entries : List Entry) (decided : ℕ) → part_option_with (part_option_with o (variant.Append entries)) (variant.Decided decided) ≡ part_option_behind o entries (Some decided)
same_option None entries decided = refl
same_option (Some p) entries decided = refl

same_appended : (o : Option Part) (entries : List Entry) → part_option_with o (variant.Append entries) ≡ part_option_behind o entries None
same_appended None entries = refl
same_appended (Some p) entries = refl

pub appended : (d : Durable) (entries : List Entry) (decided : Option ℕ) → durable_after d (appending entries decided) ≡ durable_behind d entries decided
appended d entries None = ap (λ (o : Option Part). let e : Durable = record d { part = o } in e) (same_appended d.part entries)
appended d entries (Some n) = ap (λ (o : Option Part). let e : Durable = record d { part = o } in e) (same_option d.part entries n)
