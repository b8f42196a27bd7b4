-- What the mark of a mirror tells: two counts, and the mark of each copy.
use Rattle.std.proofs.Common.{◌≡◌, ℕ, List, [], ◌∷◌, ◌++◌, length, take, drop, refl, sym, ap, ◌∙◌}
use Rattle.std.proofs.lemmas.List.{take_at, drop_at}
use Rattle.op_outside.specs.Disks.{DiskState}
use Rattle.op_mirror.specs.Copies.{mark_of}
use Rattle.op_mirror.specs.Joins.{HasSameCopies}
use Rattle.op_mirror.specs.Mirrors.{known_mirror}
use Rattle.op_mirror.specs.declared.mirror.Mirror.{Mirror}

-- it stays so while the copies' marks do
pub marks_stay : (counts a b a' b' : List ℕ) → a' ≡ a → b' ≡ b → mark_of counts a' b' ≡ mark_of counts a b
marks_stay counts a b a' b' first second = rw (first, second) refl

-- it is that of an opening
pub marks_begin : (m n x y : ℕ) (a b a' b' : List ℕ) → x ≡ m → y ≡ n → a' ≡ a → b' ≡ b → mark_of (x ∷ y ∷ []) a' b' ≡ mark_of (m ∷ n ∷ []) a b
marks_begin m n x y a b a' b' one two first second = rw (one, two, first, second) refl

-- two lists of two parts each, of which the first parts are as long
first_parts : (a b a' b' : List ℕ) → length a ≡ length a' → a ++ b ≡ a' ++ b' → a ≡ a'
first_parts a b a' b' long same = sym (take_at a b (length a) refl) ∙ ap (take (length a)) same ∙ take_at a' b' (length a) (sym long)

second_parts : (a b a' b' : List ℕ) → length a ≡ length a' → a ++ b ≡ a' ++ b' → b ≡ b'
second_parts a b a' b' long same = sym (drop_at a b (length a) refl) ∙ ap (drop (length a)) same ∙ drop_at a' b' (length a) (sym long)

-- what it tells
pub record AreTold (m n x y : ℕ) (a b a' b' : List ℕ) : Type 0 where
  pub first_count : m ≡ x
  pub second_count : n ≡ y
  pub first : a ≡ a'
  pub second : b ≡ b'

pub marks_tell : (m n x y : ℕ) (a b a' b' : List ℕ) → mark_of (m ∷ n ∷ []) a b ≡ mark_of (x ∷ y ∷ []) a' b' → AreTold m n x y a b a' b'
marks_tell m n x y a b a' b' same =
    let long : length a ≡ length a' = cc in
    let parts : a ++ b ≡ a' ++ b' = cc in
    record { first_count = cc; second_count = cc; first = first_parts a b a' b' long parts; second = second_parts a b a' b' long parts }

pub same_copies : {D : Type 0} {g : _} (state : D → DiskState) (m n : Mirror D g) → (known_mirror state n).mark ≡ (known_mirror state m).mark → HasSameCopies state m n
same_copies state m n same =
    let told = marks_tell n.first_mark n.second_mark m.first_mark m.second_mark (state n.first).mark (state n.second).mark (state m.first).mark (state m.second).mark same in
    record { first = told.first; second = told.second; first_count = told.first_count; second_count = told.second_count }
