-- No piece of a base stays staged beside a base.
use Rattle.std.proofs.Common.{◌≡◌, Bool, true, false, List, [], ◌∷◌, Option, Some, None, is_some, refl, sym, ap, ◌∙◌}
use Rattle.std.specs.Prelude.{◌||◌}
use Rattle.op_types.specs.Changes.{joining_with}
use Rattle.op_types.specs.Joinings.{Base}
use Rattle.op_types.specs.declared.changes.Change.{Change}
use Rattle.op_types.specs.declared.changes.Change.TheVariants as change
use Rattle.op_types.specs.declared.durable.Joining.{Joining}
use Rattle.op_types.specs.declared.turn.Turn.TheVariants as turn
use Rattle.op_chain.specs.Bringing.{joining_after, is_join_base, has_base, turn_beside}

or_true : (a : Bool) → true ≡ (a || true)
or_true true = refl
or_true false = refl

or_false : (a : Bool) → a ≡ (a || false)
or_false true = refl
or_false false = refl

or_assoc : (a b c : Bool) → ((a || b) || c) ≡ (a || (b || c))
or_assoc true b c = refl
or_assoc false b c = refl

one_holds : (j : Joining) (c : Change) → is_some (joining_with j c).base ≡ (is_some j.base || is_join_base c)
one_holds j (change.JoinBase at bytes) = or_true (is_some j.base)
one_holds j (change.JoinDonor q trimmed) = or_false (is_some j.base)
one_holds j (change.JoinPart at es) = or_false (is_some j.base)
one_holds j _ = or_false (is_some j.base)

all_hold : (j : Joining) (batch : List Change) → is_some (joining_after j batch).base ≡ (is_some j.base || has_base batch)
all_hold j [] = or_false (is_some j.base)
all_hold j (c ∷ cs) =
    all_hold (joining_with j c) cs
    ∙ ap (λ (b : Bool). b || has_base cs) (one_holds j c)
    ∙ or_assoc (is_some j.base) (is_join_base c) (has_base cs)

by_base : (o : Option Base) → is_some o ≡ true → turn_beside o ≡ turn.DropPieces
by_base None is = absurd cc
by_base (Some b) is = refl

by_none : (o : Option Base) → is_some o ≡ false → turn_beside o ≡ turn.Stay
by_none None is = refl
by_none (Some b) is = absurd cc

pub drops_still : (j : Joining) (batch : List Change) → is_some j.base ≡ true → turn_beside (joining_after j batch).base ≡ turn.DropPieces
drops_still j batch is = by_base (joining_after j batch).base (all_hold j batch ∙ ap (λ (b : Bool). b || has_base batch) is)

pub drops_then : (j : Joining) (batch : List Change) → has_base batch ≡ true → turn_beside (joining_after j batch).base ≡ turn.DropPieces
drops_then j batch is = by_base (joining_after j batch).base (all_hold j batch ∙ ap (λ (b : Bool). is_some j.base || b) is ∙ sym (or_true (is_some j.base)))

pub stays_then : (j : Joining) (batch : List Change) → is_some j.base ≡ false → has_base batch ≡ false → turn_beside (joining_after j batch).base ≡ turn.Stay
stays_then j batch none is = by_none (joining_after j batch).base (all_hold j batch ∙ ap (λ (b : Bool). b || has_base batch) none ∙ is)
