-- What a crash leaves of a copy while it is made equal to another one.
use Rattle.std.proofs.Common.{◌≡◌, ⊎_elim, ℕ, ◌<◌, ◌≤◌, ◌+◌, ◌-◌, min, max, List, ◌++◌, length, get_or, take, drop, refl, sym, ◌∙◌, ap, subst, arith, length-append}
use Rattle.std.proofs.lemmas.List.{get_or-take, get_or-drop, length-take-le, drop-drop}
use Rattle.std.proofs.Math.Seq.{drop-append-add}
use Rattle.std.proofs.lemmas.Bool.{cases_lt}
use Rattle.op_outside.specs.Pendings.{IsMixed}
use Rattle.op_outside.specs.Disks.{DiskState, MayLeave, Torn, Shorter, Edit, Tears, GoesOn, LeavesOnly}
use Rattle.op_outside.specs.Disks.Edit.{Nothing, Write, Cut}
use Rattle.op_outside.proofs.Runs.{started, called, joined}
use Rattle.op_mirror.specs.Runs.{Fills}
use Rattle.op_mirror.specs.Crashes.{MixOf, Differ, IsPieceOf, EndsWith}

-- ---- what mixes three lists
pub mixed_self : (x y w : List ℕ) → IsMixed x y w w
mixed_self x y w = record { no_shorter = omega arith; no_longer = omega arith; same = λ p _ _ _ _ _. refl }

pub mixed_trans : (x y w v c : List ℕ) → IsMixed x y w v → IsMixed x y v c → IsMixed x y w c
mixed_trans x y w v c one two =
    let low : min (length w) (min (length x) (length y)) ≤ length v = one.no_shorter in
    let high : length v ≤ max (length w) (max (length x) (length y)) = one.no_longer in
    let low_two : min (length v) (min (length x) (length y)) ≤ length c = two.no_shorter in
    let high_two : length c ≤ max (length v) (max (length x) (length y)) = two.no_longer in
    record {
      no_shorter = omega arith;
      no_longer = omega arith;
      same = λ p px py pw pc e.
          let pv : p < length v = omega arith in
          two.same p px py pv pc e ∙ one.same p px py pw pv e;
    }

-- the same bytes before a place, and from it on
same_before : (n : ℕ) (w c : List ℕ) → take n c ≡ take n w → (p : ℕ) → p < n → get_or c p 0 ≡ get_or w p 0
same_before n w c e p lt = sym (get_or-take n c p 0 lt) ∙ ap (λ (l : List ℕ). get_or l p 0) e ∙ get_or-take n w p 0 lt

same_from : (n : ℕ) (w c : List ℕ) → drop n c ≡ drop n w → (p : ℕ) → n ≤ p → get_or c p 0 ≡ get_or w p 0
same_from n w c e p le =
    let i : n + (p - n) ≡ p = omega arith in
    ap (λ (k : ℕ). get_or c k 0) (sym i) ∙ sym (get_or-drop n c (p - n) 0) ∙ ap (λ (l : List ℕ). get_or l (p - n) 0) e
    ∙ get_or-drop n w (p - n) 0 ∙ ap (λ (k : ℕ). get_or w k 0) i

-- a write where two lists differ
pub torn_mixed : (x y : List ℕ) (at n : ℕ) → Differ x y at n → (w c : List ℕ) → Torn at n w c → IsMixed x y w c
torn_mixed x y at n apart w c torn =
    let within : at + n ≤ length x = apart.within in
    let longer : length w ≤ length c = torn.no_shorter in
    let top : length c ≤ max (length w) (at + n) = torn.no_longer in
    record {
      no_shorter = omega arith;
      no_longer = omega arith;
      same = λ p px py pw pc e. ⊎_elim
          (λ (lt : p < at). same_before at w c torn.before p lt)
          (λ (ge : at ≤ p). ⊎_elim
          (λ (inside : p < at + n). absurd (apart.apart p ge inside py e))
          (λ (past : at + n ≤ p). same_from (at + n) w c torn.after p past)
          (cases_lt p (at + n)))
          (cases_lt p at);
    }

-- a cut to the first list's length
pub cut_mixed : (x y : List ℕ) (n : ℕ) → n ≡ length x → (w c : List ℕ) → Shorter n w c → IsMixed x y w c
cut_mixed x y n is w c cut =
    let low : min n (length w) ≤ length c = cut.no_shorter in
    let top : length c ≤ length w = cut.no_longer in
    record {
      no_shorter = omega (arith, is);
      no_longer = omega arith;
      same = λ p px py pw pc e. same_before n w c cut.prefix p (omega (arith, is));
    }

-- a call that changes nothing
pub still_mixed : (x y w c : List ℕ) → c ≡ w → IsMixed x y w c
still_mixed x y w c e = subst (IsMixed x y w) (sym e) (mixed_self x y w)

-- ---- from call to call
-- one call more
pub mixes_after : (x y : List ℕ) (edit : Edit) (old mid new : DiskState) → LeavesOnly (MixOf x y old) old mid → GoesOn edit mid new
    → ((w c : List ℕ) → Tears edit w c → IsMixed x y w c) → LeavesOnly (MixOf x y old) old new
mixes_after x y edit old mid new so_far g has = called (MixOf x y old) edit old mid new so_far g (λ c torn. extends c torn.0 torn.1 torn.2)
  where
    extends : (c v : List ℕ) → MayLeave mid v → Tears edit v c → MixOf x y old c
    extends c v left t = ⊎_elim
        (λ was. (v, was, has v c t))
        (λ mix. (mix.0, mix.1, mixed_trans x y mix.0 v c mix.2 (has v c t)))
        (so_far.now v left)

-- a run of calls more
pub mixes_joined : (x y : List ℕ) (old mid new : DiskState) → LeavesOnly (MixOf x y old) old mid → LeavesOnly (MixOf x y mid) mid new
    → LeavesOnly (MixOf x y old) old new
mixes_joined x y old mid new one two = joined (MixOf x y old) (MixOf x y mid) (MixOf x y old) old mid new one two (λ c p. p) (λ c q. from c q.0 q.1 q.2)
  where
    from : (c v : List ℕ) → MayLeave mid v → IsMixed x y v c → MixOf x y old c
    from c v left m = ⊎_elim
        (λ was. (v, was, m))
        (λ mix. (mix.0, mix.1, mixed_trans x y mix.0 v c mix.2 m))
        (one.now v left)

-- calls that change nothing, and more of them
pub still_joined : (old mid new : DiskState) → LeavesOnly (MayLeave old) old mid → LeavesOnly (MayLeave mid) mid new → LeavesOnly (MayLeave old) old new
still_joined old mid new one two =
    joined (MayLeave old) (MayLeave mid) (MayLeave old) old mid new one two (λ c p. p) (λ c q. ⊎_elim (λ was. was) (λ was. was) (one.now c q))

-- ---- a run of bytes that is written
-- a byte of a piece is the list's
piece_byte : (l : List ℕ) (at : ℕ) (piece : List ℕ) → IsPieceOf l at piece → (k : ℕ) → k < length piece → get_or piece k 0 ≡ get_or l (at + k) 0
piece_byte l at piece is k lt = ap (λ (p : List ℕ). get_or p k 0) is ∙ get_or-take (length piece) (drop at l) k 0 lt ∙ get_or-drop at l k 0

-- a piece that was read
pub read_piece : (l : List ℕ) (at n : ℕ) (piece : List ℕ) → length piece ≡ n → piece ≡ take n (drop at l) → IsPieceOf l at piece
read_piece l at n piece size is = is ∙ ap (λ (k : ℕ). take k (drop at l)) (sym size)

-- pieces of the same lengths
pub ends_resized : (y : List ℕ) (at : ℕ) (have other now rest : List ℕ) → length now ≡ length have → length rest ≡ length other → EndsWith y at have other → EndsWith y at now rest
ends_resized y at have other now rest one two ends shorter = let last : length y ≤ at + length have = ends (omega arith) in omega arith

-- bytes of a piece that the other list's piece lacks or at which it differs
pub run_differs : (x y : List ℕ) (at : ℕ) (want have : List ℕ) (start end : ℕ) → at + length want ≤ length x → IsPieceOf x at want → IsPieceOf y at have → EndsWith y at have want
    → start ≤ end → end ≤ length want → ((k : ℕ) → start ≤ k → k < end → k < length have → get_or want k 0 ≡ get_or have k 0 → ⊥) → Differ x y (at + start) (end - start)
run_differs x y at want have start end within of_x of_y ends order short apart = record {
  within = omega arith;
  apart = λ p ge lt py e.
      let k : ℕ = p - at in
      let place : at + (p - at) ≡ p = omega arith in
      let in_want : p - at < length want = omega arith in
      ⊎_elim
      (λ (inside : p - at < length have). apart (p - at) (omega arith) (omega arith) inside
      (piece_byte x at want of_x (p - at) in_want ∙ ap (λ (i : ℕ). get_or x i 0) place ∙ e ∙ ap (λ (i : ℕ). get_or y i 0) (sym place) ∙ sym (piece_byte y at have of_y (p - at) inside)))
      (λ (past : length have ≤ p - at). let last : length y ≤ at + length have = ends (omega arith) in absurd (omega arith))
      (cases_lt (p - at) (length have));
}

-- ---- single calls
-- a run that is written, whatever the answer
pub run_leaves : (x y : List ℕ) (at n : ℕ) (bytes : List ℕ) (old new : DiskState) → length bytes ≡ n → Differ x y at n → GoesOn (Write at bytes) old new
    → LeavesOnly (MixOf x y old) old new
run_leaves x y at n bytes old new size apart g =
    mixes_after x y (Write at bytes) old old new (started (MixOf x y old) old) g
    (λ w c torn. torn_mixed x y at n apart w c (subst (λ (k : ℕ). Torn at k w c) size torn))

-- a cut to the first list's length
pub cut_leaves : (x y : List ℕ) (n : ℕ) (old new : DiskState) → n ≡ length x → GoesOn (Cut n) old new → LeavesOnly (MixOf x y old) old new
cut_leaves x y n old new is g = mixes_after x y (Cut n) old old new (started (MixOf x y old) old) g (cut_mixed x y n is)

-- a read, a length or a sync
pub still_leaves_mixes : (x y : List ℕ) (old new : DiskState) → GoesOn Nothing old new → LeavesOnly (MixOf x y old) old new
still_leaves_mixes x y old new g = mixes_after x y Nothing old old new (started (MixOf x y old) old) g (still_mixed x y)

-- ---- pieces

-- what lies behind a piece that is filled stays
pub rest_more : (at n : ℕ) (want old new was : List ℕ) → at ≤ length old → length (take n want) ≡ n → Fills at want n old new → drop at old ≡ drop at was → drop (at + n) new ≡ drop (at + n) was
rest_more at n want old new was within size f rest =
    let front : length (take at old ++ take n want) ≡ at + n = omega (arith, length-append (take at old) (take n want), length-take-le at old within, size) in
    ap (drop (at + n)) f ∙ drop_front (take at old ++ take n want) (drop (at + n) old) (at + n) front
    ∙ sym (drop-drop n at old) ∙ ap (drop n) rest ∙ drop-drop n at was
  where
    drop_front : (x y : List ℕ) (k : ℕ) → length x ≡ k → drop k (x ++ y) ≡ y
    drop_front x y k e = let all : k ≡ length x + 0 = omega (arith, e) in ap (λ (i : ℕ). drop i (x ++ y)) all ∙ drop-append-add x y 0

-- the second list's piece ends before the first one's only where the list does
pub piece_ends : (y : List ℕ) (at was len m n : ℕ) (theirs ours : List ℕ) → was ≡ length y → length theirs ≡ m → length ours ≡ n → n ≡ min (len - at) 65536 → m ≡ min (min (was - at) 65536) n → EndsWith y at theirs ours
piece_ends y at was len m n theirs ours size one two long short shorter = omega arith
