-- What came of a base: the places that have their bytes.
use Rattle.std.proofs.Common.{◌≡◌, ℕ, zero, suc, ◌+◌, ◌<◌, ◌≤◌, ◌&&◌, Bool, true, false, List, [], ◌∷◌, ◌++◌, length, take, drop, get_or, set, Option, Some, None, refl, sym, ap, ◌∙◌, subst, arith}
use Rattle.std.specs.Prelude.{is_some}
use Rattle.op_types.specs.Stages.{kept_or, bytes_with, bytes_with_at, with_byte, whole_bytes}

abbrev Places : Type 0
Places = List (Option ℕ)

-- ---- bytes that come

with_none : (held : Places) → bytes_with held [] ≡ held
with_none [] = refl
with_none (o ∷ held) = refl

-- one byte more comes to the place behind those that came
with_next : (held : Places) (bytes : List ℕ) (i : ℕ) (o : Option ℕ) → i < length bytes → i < length held
    → bytes_with held (take (suc i) bytes) ≡ set (bytes_with held (take i bytes)) i (kept_or (get_or (bytes_with held (take i bytes)) i o) (get_or bytes i 0))
with_next [] bytes i o lt le = absurd (omega arith)
with_next (p ∷ held) [] i o lt le = absurd (omega arith)
with_next (p ∷ held) (b ∷ bytes) zero o lt le = ap (λ (l : Places). kept_or p b ∷ l) (with_none held)
with_next (p ∷ held) (b ∷ bytes) (suc i) o lt le = ap (λ (l : Places). kept_or p b ∷ l) (with_next held bytes i o (omega arith) (omega arith))

at_next : (held : Places) (from : ℕ) (bytes : List ℕ) (i j : ℕ) (o : Option ℕ) → j ≡ from + i → i < length bytes → from + i < length held
    → bytes_with_at held from (take (suc i) bytes) ≡ set (bytes_with_at held from (take i bytes)) j (kept_or (get_or (bytes_with_at held from (take i bytes)) j o) (get_or bytes i 0))
at_next held zero bytes i j o is lt le =
    let same : i ≡ j = omega (arith, is) in
    subst (λ (k : ℕ). bytes_with held (take (suc i) bytes) ≡ set (bytes_with held (take i bytes)) k (kept_or (get_or (bytes_with held (take i bytes)) k o) (get_or bytes i 0))) same
    (with_next held bytes i o lt (omega arith))
at_next [] (suc from) bytes i j o is lt le = absurd (omega arith)
at_next (p ∷ held) (suc from) bytes i zero o is lt le = absurd (omega arith)
at_next (p ∷ held) (suc from) bytes i (suc j) o is lt le = ap (λ (l : Places). p ∷ l) (at_next held from bytes i j o (omega arith) lt (omega arith))

pub at_more : (held : Places) (from : ℕ) (bytes : List ℕ) (i : ℕ) (o : Option ℕ) → i < length bytes → from + i < length held
    → bytes_with_at held from (take (i + 1) bytes)
    ≡ set (bytes_with_at held from (take i bytes)) (from + i) (kept_or (get_or (bytes_with_at held from (take i bytes)) (from + i) o) (get_or bytes i 0))
at_more held from bytes i o lt le =
    let next : suc i ≡ i + 1 = omega arith in
    ap (λ (k : ℕ). bytes_with_at held from (take k bytes)) (sym next) ∙ at_next held from bytes i (from + i) o refl lt le

pub at_none : (held : Places) (from : ℕ) → bytes_with_at held from [] ≡ held
at_none held zero = with_none held
at_none [] (suc from) = refl
at_none (p ∷ held) (suc from) = ap (λ (l : Places). p ∷ l) (at_none held from)

-- ---- all bytes

-- bytes before others, if these are all there
abbrev pub behind : List ℕ → Option (List ℕ) → Option (List ℕ)
behind bytes None = None
behind bytes (Some rest) = Some (bytes ++ rest)

some_with : (b : ℕ) (w : Option (List ℕ)) → is_some (with_byte (Some b) w) ≡ is_some w
some_with b None = refl
some_with b (Some rest) = refl

-- where a byte is missing, not all are there
pub one_missing : (held : Places) (i : ℕ) (o : Option ℕ) → i < length held → get_or held i o ≡ None → is_some (whole_bytes held) ≡ false
one_missing [] i o lt is = absurd (omega arith)
one_missing (None ∷ held) i o lt is = refl
one_missing (Some b ∷ held) zero o lt is = absurd cc
one_missing (Some b ∷ held) (suc i) o lt is = some_with b (whole_bytes held) ∙ one_missing held i o (omega arith) is

-- ---- bytes that complete the others

some_kept : (o : Option ℕ) (b : ℕ) (w : Option (List ℕ)) → is_some (with_byte (kept_or o b) w) ≡ is_some w
some_kept None b w = some_with b w
some_kept (Some c) b w = some_with c w

some_filled : (held : Places) (bytes : List ℕ) → length bytes ≤ length held → is_some (whole_bytes (bytes_with held bytes)) ≡ is_some (whole_bytes (drop (length bytes) held))
some_filled [] [] le = refl
some_filled [] (b ∷ bytes) le = absurd (omega arith)
some_filled (o ∷ held) [] le = refl
some_filled (o ∷ held) (b ∷ bytes) le = some_kept o b (whole_bytes (bytes_with held bytes)) ∙ some_filled held bytes (omega arith)

and_true : (a : Bool) → a ≡ (a && true)
and_true true = refl
and_true false = refl

and_false : (a : Bool) → false ≡ (a && false)
and_false true = refl
and_false false = refl

-- all bytes are there, where those are outside of the places to which these come
pub some_with_at : (held : Places) (from n : ℕ) (bytes : List ℕ) → n ≡ from + length bytes → n ≤ length held
    → is_some (whole_bytes (bytes_with_at held from bytes)) ≡ (is_some (whole_bytes (drop n held)) && is_some (whole_bytes (take from held)))
some_with_at held zero n bytes is le =
    some_filled held bytes (omega arith)
    ∙ ap (λ (k : ℕ). is_some (whole_bytes (drop k held))) (let e : length bytes ≡ n = omega arith in e)
    ∙ and_true (is_some (whole_bytes (drop n held)))
some_with_at held (suc from) zero bytes is le = absurd (omega arith)
some_with_at [] (suc from) (suc n) bytes is le = absurd (omega arith)
some_with_at (None ∷ held) (suc from) (suc n) bytes is le = and_false (is_some (whole_bytes (drop n held)))
some_with_at (Some b ∷ held) (suc from) (suc n) bytes is le =
    some_with b (whole_bytes (bytes_with_at held from bytes))
    ∙ some_with_at held from n bytes (omega arith) (omega arith)
    ∙ ap (λ (w : Bool). is_some (whole_bytes (drop n held)) && w) (sym (some_with b (whole_bytes (take from held))))
