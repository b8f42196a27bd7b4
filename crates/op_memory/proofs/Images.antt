-- The images after one call more.
use Rattle.std.proofs.Common.{◌≡◌, inl, inr, ⊎_elim, ℕ, zero, suc, ◌+◌, ◌-◌, ◌<◌, ◌≤◌, max, min, List, [], ◌∷◌, ◌++◌, length, get_or, take, drop, refl, sym, ◌∙◌, ap, arith, append_assoc, length-append, length-take, length-drop}
use Rattle.std.proofs.lemmas.List.{take_at, drop_at, drop_all, get_or_append_left, get_or-append_right, get_or-take, get_or-drop}
use Rattle.std.proofs.lemmas.Bool.{cases_lt}
use Rattle.std.proofs.lemmas.Grind.{same_number_lists}
use Rattle.op_outside.specs.Disks.{Torn, Shorter, Only}
use Rattle.op_outside.specs.Pendings.{Pending, synced, written, shortened, IsImage, Uncovered}
use Rattle.op_memory.specs.Images.{overlaid}

-- n bytes of a list from a place on, 0 past its end
pub stretch : ℕ → ℕ → List ℕ → List ℕ
stretch at zero bytes = []
stretch at (suc n) bytes = get_or bytes at 0 ∷ stretch (at + 1) n bytes

length-stretch : (at n : ℕ) (bytes : List ℕ) → length (stretch at n bytes) ≡ n
unfolding stretch
length-stretch at zero bytes = refl
length-stretch at (suc n) bytes = ap suc (length-stretch (at + 1) n bytes)

get_or-stretch : (at n : ℕ) (bytes : List ℕ) (i : ℕ) → i < n → get_or (stretch at n bytes) i 0 ≡ get_or bytes (at + i) 0
unfolding stretch
get_or-stretch at zero bytes i lt = absurd (omega arith)
get_or-stretch at (suc n) bytes zero lt = let e : at ≡ at + 0 = omega arith in ap (λ (k : ℕ). get_or bytes k 0) e
get_or-stretch at (suc n) bytes (suc i) lt = get_or-stretch (at + 1) n bytes i (omega arith) ∙ (let e : at + 1 + i ≡ at + suc i = omega arith in ap (λ (k : ℕ). get_or bytes k 0) e)

module _ (s : Pending) (ordered : s.low ≤ s.high) (at n : ℕ) (within : at ≤ s.high) (x : List ℕ) (im : IsImage (written at n s) x) where
  -- the image is shorter than the place
  short : length x < at → IsImage s x
  short lt = record {
    no_shorter = im.no_shorter;
    no_longer = omega arith;
    same = λ p below un. let bot : s.low ≤ length x = im.no_shorter in im.same p below (inl (omega arith), un);
  }

  -- how far the bytes before the write go
  k : ℕ
  k = min (at + n) (min (length x) s.high) - at

  before : List ℕ
  before = (take at x ++ stretch at k s.base) ++ drop (at + n) x

  module _ (long : at ≤ length x) where
    prefix : length (take at x) ≡ at
    prefix = omega (arith, length-take at x)

    two : length (take at x ++ stretch at k s.base) ≡ at + k
    two = omega (arith, length-append (take at x) (stretch at k s.base), prefix, length-stretch at k s.base)

    long_before : length before ≡ min (length x) s.high
    unfolding k before
    long_before = let top : length x ≤ max s.high (at + n) = im.no_longer in omega (arith, length-append (take at x ++ stretch at k s.base) (drop (at + n) x), two, length-drop (at + n) x)

    tail : drop (at + n) before ≡ drop (at + n) x
    unfolding k before
    tail = ⊎_elim
        (λ lt. drop_at (take at x ++ stretch at k s.base) (drop (at + n) x) (at + n) (omega (arith, two)))
        (λ ge. drop_all (at + n) before (omega (arith, long_before)) ∙ sym (drop_all (at + n) x (let top : length x ≤ max s.high (at + n) = im.no_longer in omega arith)))
        (cases_lt (at + n) (min (length x) s.high + 1))

    torn : Torn at n before x
    unfolding before
    torn = record {
      before = sym (ap (λ (l : List ℕ). take at l) (append_assoc (take at x) (stretch at k s.base) (drop (at + n) x)) ∙ take_at (take at x) (stretch at k s.base ++ drop (at + n) x) at prefix);
      after = sym tail;
      no_shorter = omega (arith, long_before);
      no_longer = let top : length x ≤ max s.high (at + n) = im.no_longer in omega (arith, long_before);
    }

    reach : at + k ≡ min (at + n) (min (length x) s.high)
    unfolding k
    reach = omega arith

    same_at : (p : ℕ) → p < s.low → Uncovered s.writes p → get_or before p 0 ≡ get_or s.base p 0
    unfolding before
    same_at p below un =
        let bot : s.low ≤ length x = im.no_shorter in
        let inside : p < length before = omega (arith, long_before) in
        ⊎_elim
        (λ (lt : p < at). get_or_append_left (take at x ++ stretch at k s.base) (drop (at + n) x) 0 p (omega (arith, two))
        ∙ get_or_append_left (take at x) (stretch at k s.base) 0 p (omega (arith, prefix)) ∙ get_or-take at x p 0 lt ∙ im.same p below (inl lt, un))
        (λ (ge : at ≤ p). ⊎_elim
        (λ (lt : p < at + k). get_or_append_left (take at x ++ stretch at k s.base) (drop (at + n) x) 0 p (omega (arith, two))
        ∙ get_or-append_right (take at x) (stretch at k s.base) at p 0 prefix ge ∙ get_or-stretch at k s.base (p - at) (omega arith)
        ∙ (let e : at + (p - at) ≡ p = omega arith in ap (λ (i : ℕ). get_or s.base i 0) e))
        (λ (past : at + k ≤ p). let far : at + n ≤ p = omega (arith, reach, long_before) in
        let all : k ≡ n = omega (arith, reach, long_before) in
        get_or-append_right (take at x ++ stretch at k s.base) (drop (at + n) x) (at + k) p 0 two past
        ∙ get_or-drop (at + n) x (p - (at + k)) 0
        ∙ (let e : at + n + (p - (at + k)) ≡ p = omega arith in ap (λ (i : ℕ). get_or x i 0) e)
        ∙ im.same p below (inr far, un))
        (cases_lt p (at + k)))
        (cases_lt p at)

    was : IsImage s before
    was = record {
      no_shorter = let bot : s.low ≤ length x = im.no_shorter in omega (arith, long_before);
      no_longer = omega (arith, long_before);
      same = same_at;
    }

  outcome : (d : List ℕ) × IsImage s d × Torn at n d x
  outcome = ⊎_elim
      (λ lt. (x, short lt, record { before = refl; after = refl; no_shorter = omega arith; no_longer = omega arith }))
      (λ long. (before, was long, torn long))
      (cases_lt (length x) at)

-- a write
pub write_follows : (s : Pending) (at n : ℕ) → s.low ≤ s.high → at ≤ s.high → (x : List ℕ) → IsImage (written at n s) x → (d : List ℕ) × IsImage s d × Torn at n d x
write_follows s at n ordered within x im = outcome s ordered at n within x im

-- a cut: what stood past it in some image are the sync's bytes
module _ (s : Pending) (ordered : s.low ≤ s.high) (n : ℕ) (x : List ℕ) (im : IsImage (shortened n s) x) where
  -- it lies past the least length
  kept : s.low ≤ n → IsImage s x × Shorter n x x
  kept le = let bot : min s.low n ≤ length x = im.no_shorter in (
    record { no_shorter = omega arith; no_longer = im.no_longer; same = λ p below un. im.same p (omega arith) un },
    record { no_shorter = omega arith; no_longer = omega arith; prefix = refl },
  )

  rest : List ℕ
  rest = stretch n (max (length x) s.low - n) s.base

  module _ (lt : n < s.low) where
    long : n ≤ length x
    long = let bot : min s.low n ≤ length x = im.no_shorter in omega arith

    front : length (take n x) ≡ n
    front = let le = long in omega (arith, length-take n x)

    size : length (take n x ++ rest) ≡ max (length x) s.low
    unfolding rest
    size = let le = long in omega (arith, front, length-append (take n x) (stretch n (max (length x) s.low - n) s.base), length-stretch n (max (length x) s.low - n) s.base)

    same_past : (p : ℕ) → p < s.low → Uncovered s.writes p → get_or (take n x ++ rest) p 0 ≡ get_or s.base p 0
    unfolding rest
    same_past p below un = ⊎_elim
        (λ (inside : p < n). get_or_append_left (take n x) (stretch n (max (length x) s.low - n) s.base) 0 p (omega (arith, front))
        ∙ get_or-take n x p 0 inside ∙ im.same p (omega arith) un)
        (λ (out : n ≤ p). get_or-append_right (take n x) (stretch n (max (length x) s.low - n) s.base) n p 0 front out
        ∙ get_or-stretch n (max (length x) s.low - n) s.base (p - n) (omega arith)
        ∙ (let e : n + (p - n) ≡ p = omega arith in ap (λ (i : ℕ). get_or s.base i 0) e))
        (cases_lt p n)

    cut_off : (d : List ℕ) × IsImage s d × Shorter n d x
    cut_off = let le = long in let top : length x ≤ s.high = im.no_longer in (
      take n x ++ rest,
      record { no_shorter = omega (arith, size); no_longer = omega (arith, size); same = same_past },
      record { no_shorter = omega arith; no_longer = omega (arith, size); prefix = sym (take_at (take n x) rest n front) },
    )

pub cut_follows : (s : Pending) (n : ℕ) → s.low ≤ s.high → (x : List ℕ) → IsImage (shortened n s) x → (d : List ℕ) × IsImage s d × Shorter n d x
cut_follows s n ordered x im = ⊎_elim
    (λ (lt : n < s.low). cut_off s ordered n x im lt)
    (λ (ge : s.low ≤ n). let same = kept s ordered n x im ge in (x, same.0, same.1))
    (cases_lt n s.low)

-- a sync
pub sync_only : (bytes : List ℕ) → Only bytes (IsImage (synced bytes))
sync_only bytes = record {
  no_other = λ c im. same_number_lists c bytes (let a : length bytes ≤ length c = im.no_shorter in let b : length c ≤ length bytes = im.no_longer in omega arith) (λ p below. let a : length c ≤ length bytes = im.no_longer in im.same p (omega arith) tt);
  itself = record { no_shorter = omega arith; no_longer = omega arith; same = λ p below un. refl };
}

-- what a read gives after a cut, and after a write
pub cut_image : (s : Pending) (n : ℕ) (bytes : List ℕ) → IsImage s bytes → IsImage (shortened n s) (take n bytes)
cut_image s n bytes im = record {
  no_shorter = let bot : s.low ≤ length bytes = im.no_shorter in omega (arith, length-take n bytes);
  no_longer = let top : length bytes ≤ s.high = im.no_longer in omega (arith, length-take n bytes);
  same = λ p below un. get_or-take n bytes p 0 (omega arith) ∙ im.same p (omega arith) un;
}

module _ (s : Pending) (at : ℕ) (piece bytes : List ℕ) (within : at ≤ length bytes) (im : IsImage s bytes) where
  prefix_len : length (take at bytes) ≡ at
  prefix_len = omega (arith, length-take at bytes)

  both_len : length (take at bytes ++ piece) ≡ at + length piece
  both_len = omega (arith, prefix_len, length-append (take at bytes) piece)

  whole_len : length (overlaid bytes at piece) ≡ max (length bytes) (at + length piece)
  whole_len = omega (arith, both_len, length-append (take at bytes ++ piece) (drop (at + length piece) bytes), length-drop (at + length piece) bytes)

  same_there : (p : ℕ) → p < s.low → Uncovered ((at, length piece) ∷ s.writes) p → get_or (overlaid bytes at piece) p 0 ≡ get_or s.base p 0
  same_there p below un = ⊎_elim
      (λ (lt : p < at). get_or_append_left (take at bytes ++ piece) (drop (at + length piece) bytes) 0 p (omega (arith, both_len))
      ∙ get_or_append_left (take at bytes) piece 0 p (omega (arith, prefix_len)) ∙ get_or-take at bytes p 0 lt ∙ im.same p below un.1)
      (λ (past : at + length piece ≤ p). get_or-append_right (take at bytes ++ piece) (drop (at + length piece) bytes) (at + length piece) p 0 both_len past
      ∙ get_or-drop (at + length piece) bytes (p - (at + length piece)) 0
      ∙ (let e : at + length piece + (p - (at + length piece)) ≡ p = omega arith in ap (λ (i : ℕ). get_or bytes i 0) e)
      ∙ im.same p below un.1)
      un.0

  pub write_image : IsImage (written at (length piece) s) (overlaid bytes at piece)
  write_image = record {
    no_shorter = let bot : s.low ≤ length bytes = im.no_shorter in omega (arith, whole_len);
    no_longer = let top : length bytes ≤ s.high = im.no_longer in omega (arith, whole_len);
    same = same_there;
  }
