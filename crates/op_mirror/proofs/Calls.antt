-- A call of a mirror is a call of one disk.
use Rattle.std.proofs.Common.{◌≡◌, ℕ, Bool, true, false, not, ◌&&◌, ◌||◌, List, refl, sym, ◌∙◌, ap, subst, Result, Ok, Err}
use Rattle.std.proofs.lemmas.Bool.{and_parts, and_right}
use Rattle.std.specs.Prelude.{OnOk}
use Rattle.op_outside.specs.Causes.{FailsOnlyOnFault}
use Rattle.op_outside.specs.Disks.{DiskState, Edit, Edits, Does}
use Rattle.op_outside.specs.Disks.Edit.{Nothing}
use Rattle.op_mirror.specs.declared.gone.Gone.{Gone}
use Rattle.op_mirror.specs.declared.gone.Gone.TheVariants.{Neither, First, Second}
use Rattle.op_mirror.specs.Copies.{has_first, has_second, asks_second, gone_after, gone_after_read, is_read_ok, number, FirstCounts, SecondCounts, read_copy, AreAlike, mirrored}
use Rattle.op_mirror.specs.Tries.{Tries}
use Rattle.op_mirror.proofs.Telling.{marks_stay}
use Rattle.op_mirror.proofs.Images.{Went, went, first_counts, second_counts, Follows, same, loses, goes_on}

-- which copy has failed first then
pub follows_after : (gone : Gone) (x y : Bool) → Follows gone (gone_after gone x y)
follows_after Neither x y = loses (gone_after Neither x y)
follows_after First x y = same First
follows_after Second x y = same Second

-- a copy that a call was done on was called, and does what the call changes
edits_of : {D : Type 0} (state : D → DiskState) (edit : Edit) (lives : Bool) (old new : D) → Tries state edit lives old new true → (state old).obeys → Edits edit (state old).content (state new).content
edits_of state edit true old new t o = (t.called refl).done o
edits_of state edit false old new t o = absurd (let e : true ≡ false = (t.out refl).1 in cc)

-- a call of the mirror, from what its copies do
does_with : {T E : Type 0} (edit : Edit) (gone next : Gone) (a a' b b' : DiskState) → Went edit (FirstCounts gone (number gone)) a a' → Went edit (SecondCounts gone (number gone)) b b' → Follows gone next
    → (f f' c c' : ℕ) (counts : List ℕ) (r : Result T E) → FailsOnlyOnFault f f' r → (a.obeys × b.obeys → OnOk r (Edits edit (read_copy gone a b).content (read_copy next a' b').content))
    → Does edit (mirrored gone f c counts a b) (mirrored next f' c' counts a' b') r
does_with edit gone next a a' b b' wa wb follows f f' c c' counts r cause done = record {
  cause = cause;
  model = (λ o. ((wa.model).0 o.0, (wb.model).0 o.1), λ o. ((wa.model).1 o.0, (wb.model).1 o.1));
  mark = marks_stay counts a.mark b.mark a'.mark b'.mark wa.mark wb.mark;
  done = done;
  goes_on = λ o. goes_on edit gone next f f' c c' counts a a' b b' follows wa wb o.0 o.1;
}

if_ok : {T E : Type 0} {P Q : Type 0} (r : Result T E) → OnOk r P → (P → Q) → OnOk r Q
if_ok (Ok v) p h = h p
if_ok (Err e) p h = tt

module _ {D : Type 0} (state : D → DiskState) (edit : Edit) (gone : Gone) (is_dead : Bool) (a a' b b' : D) (x y : Bool)
    (ta : Tries state edit (has_first gone is_dead) a a' x) (tb : Tries state edit (has_second gone is_dead) b b' y)
    (alike : AreAlike gone (state a) (state b)) where
  wa : Went edit (FirstCounts gone (number gone)) (state a) (state a')
  wa = went state edit (FirstCounts gone (number gone)) (has_first gone is_dead) a a' x ta (first_counts gone is_dead)

  wb : Went edit (SecondCounts gone (number gone)) (state b) (state b')
  wb = went state edit (SecondCounts gone (number gone)) (has_second gone is_dead) b b' y tb (second_counts gone is_dead)

  -- what the mirror reads is changed as the call says
  done_both : (g : Gone) → gone ≡ g → (p q : Bool) → x ≡ p → y ≡ q → is_read_ok (gone_after g p q) p q ≡ true → (state a).obeys → (state b).obeys
      → Edits edit (read_copy g (state a) (state b)).content (read_copy (gone_after g p q) (state a') (state b')).content
  done_both Neither e true true ex ey ok oa ob = edits_of state edit (has_first gone is_dead) a a' (subst (Tries state edit (has_first gone is_dead) a a') ex ta) oa
  done_both Neither e true false ex ey ok oa ob = edits_of state edit (has_first gone is_dead) a a' (subst (Tries state edit (has_first gone is_dead) a a') ex ta) oa
  done_both Neither e false true ex ey ok oa ob =
      subst (λ (l : List ℕ). Edits edit l (state b').content) (sym (alike e oa ob).content) (edits_of state edit (has_second gone is_dead) b b' (subst (Tries state edit (has_second gone is_dead) b b') ey tb) ob)
  done_both Neither e false false ex ey ok oa ob = absurd (cc)
  done_both First e p true ex ey ok oa ob = edits_of state edit (has_second gone is_dead) b b' (subst (Tries state edit (has_second gone is_dead) b b') ey tb) ob
  done_both First e p false ex ey ok oa ob = absurd (cc)
  done_both Second e true q ex ey ok oa ob = edits_of state edit (has_first gone is_dead) a a' (subst (Tries state edit (has_first gone is_dead) a a') ex ta) oa
  done_both Second e false q ex ey ok oa ob = absurd (cc)

  pub does_both : {T E : Type 0} (f f' c c' : ℕ) (counts : List ℕ) (next : Gone) (r : Result T E) → next ≡ gone_after gone x y → FailsOnlyOnFault f f' r → (OnOk r (is_read_ok next x y ≡ true))
      → Does edit (mirrored gone f c counts (state a) (state b)) (mirrored next f' c' counts (state a') (state b')) r
  does_both f f' c c' counts next r is cause ok =
      does_with edit gone next (state a) (state a') (state b) (state b') wa wb (subst (Follows gone) (sym is) (follows_after gone x y)) f f' c c' counts r cause
      (λ o. if_ok r ok (λ k. subst (λ (g : Gone). Edits edit (read_copy gone (state a) (state b)).content (read_copy g (state a') (state b')).content) (sym is)
      (done_both gone refl x y refl refl (subst (λ (g : Gone). is_read_ok g x y ≡ true) is k) o.0 o.1)))

-- ---- a call that changes nothing: the second copy is asked only where the first one failed
module _ {D : Type 0} (state : D → DiskState) (gone : Gone) (is_dead : Bool) (a a' b b' : D) (x y : Bool)
    (ta : Tries state Nothing (has_first gone is_dead) a a' x) (tb : Tries state Nothing (asks_second gone is_dead x) b b' y)
    (alike : AreAlike gone (state a) (state b)) where
  ra : Went Nothing (FirstCounts gone (number gone)) (state a) (state a')
  ra = went state Nothing (FirstCounts gone (number gone)) (has_first gone is_dead) a a' x ta (first_counts gone is_dead)

  rb : Went Nothing (SecondCounts gone (number gone)) (state b) (state b')
  rb = went state Nothing (SecondCounts gone (number gone)) (asks_second gone is_dead x) b b' y tb (λ h. second_counts gone is_dead (and_parts (not x) (has_second gone is_dead) h).1)

  done_read : (g : Gone) → gone ≡ g → (p q : Bool) → x ≡ p → y ≡ q → is_read_ok (gone_after_read g p) p q ≡ true → (state a).obeys → (state b).obeys
      → (read_copy (gone_after_read g p) (state a') (state b')).content ≡ (read_copy g (state a) (state b)).content
  done_read Neither e true q ex ey ok oa ob = edits_of state Nothing (has_first gone is_dead) a a' (subst (Tries state Nothing (has_first gone is_dead) a a') ex ta) oa
  done_read Neither e false true ex ey ok oa ob = edits_of state Nothing (asks_second gone is_dead x) b b' (subst (Tries state Nothing (asks_second gone is_dead x) b b') ey tb) ob ∙ sym (alike e oa ob).content
  done_read Neither e false false ex ey ok oa ob = absurd (cc)
  done_read First e p true ex ey ok oa ob = edits_of state Nothing (asks_second gone is_dead x) b b' (subst (Tries state Nothing (asks_second gone is_dead x) b b') ey tb) ob
  done_read First e p false ex ey ok oa ob = absurd (cc)
  done_read Second e true q ex ey ok oa ob = edits_of state Nothing (has_first gone is_dead) a a' (subst (Tries state Nothing (has_first gone is_dead) a a') ex ta) oa
  done_read Second e false q ex ey ok oa ob = absurd (cc)

  follows_read : (g : Gone) (p : Bool) → Follows g (gone_after_read g p)
  follows_read Neither p = loses (gone_after_read Neither p)
  follows_read First p = same First
  follows_read Second p = same Second

  pub does_read : {T E : Type 0} (f f' c c' : ℕ) (counts : List ℕ) (next : Gone) (r : Result T E) → next ≡ gone_after_read gone x → FailsOnlyOnFault f f' r → (OnOk r (is_read_ok next x y ≡ true))
      → Does Nothing (mirrored gone f c counts (state a) (state b)) (mirrored next f' c' counts (state a') (state b')) r
  does_read f f' c c' counts next r is cause ok =
      does_with Nothing gone next (state a) (state a') (state b) (state b') ra rb (subst (Follows gone) (sym is) (follows_read gone x)) f f' c c' counts r cause
      (λ o. if_ok r ok (λ k. subst (λ (g : Gone). (read_copy g (state a') (state b')).content ≡ (read_copy gone (state a) (state b)).content) (sym is)
      (done_read gone refl x y refl refl (subst (λ (g : Gone). is_read_ok g x y ≡ true) is k) o.0 o.1)))

  -- one of the copies tells it: then the one that is read does
  told_ok : (g : Gone) → gone ≡ g → (p q : Bool) → x ≡ p → y ≡ q → (p || q) ≡ true → is_read_ok (gone_after_read g p) p q ≡ true
  told_ok Neither e true q ex ey ok = refl
  told_ok Neither e false q ex ey ok = ok
  told_ok First e true q ex ey ok = absurd (let n = (ta.out (ap (λ (g : Gone). has_first g is_dead) e)).1 in cc)
  told_ok First e false q ex ey ok = ok
  told_ok Second e true q ex ey ok = refl
  told_ok Second e false true ex ey ok = absurd (let n = (tb.out (ap (λ (g : Gone). not x && has_second g is_dead) e ∙ and_right (not x) false refl)).1 in cc)
  told_ok Second e false false ex ey ok = ok

  pub told_is_ok : (next : Gone) → next ≡ gone_after_read gone x → (x || y) ≡ true → is_read_ok next x y ≡ true
  told_is_ok next is ok = subst (λ (g : Gone). is_read_ok g x y ≡ true) (sym is) (told_ok gone refl x y refl refl ok)

-- the same as the code has it
pub mirror_does : {D T E : Type 0} (state : D → DiskState) (edit : Edit) (gone : Gone) (is_dead : Bool) (a a' b b' : D) (la lb x y : Bool)
    → la ≡ has_first gone is_dead → lb ≡ has_second gone is_dead → Tries state edit la a a' x → Tries state edit lb b b' y
    → AreAlike gone (state a) (state b)
    → (f f' c c' : ℕ) (counts : List ℕ) (next : Gone) (r : Result T E) → next ≡ gone_after gone x y → FailsOnlyOnFault f f' r → OnOk r (is_read_ok next x y ≡ true)
    → Does edit (mirrored gone f c counts (state a) (state b)) (mirrored next f' c' counts (state a') (state b')) r
mirror_does state edit gone is_dead a a' b b' la lb x y ea eb ta tb alike f f' c c' counts next r is cause ok =
    does_both state edit gone is_dead a a' b b' x y (subst (λ (l : Bool). Tries state edit l a a' x) ea ta) (subst (λ (l : Bool). Tries state edit l b b' y) eb tb) alike f f' c c' counts next r is cause ok

pub mirror_reads : {D T E : Type 0} (state : D → DiskState) (gone : Gone) (is_dead : Bool) (a a' b b' : D) (la lb x y : Bool)
    → la ≡ has_first gone is_dead → lb ≡ asks_second gone is_dead x → Tries state Nothing la a a' x → Tries state Nothing lb b b' y
    → AreAlike gone (state a) (state b)
    → (f f' c c' : ℕ) (counts : List ℕ) (next : Gone) (r : Result T E) → next ≡ gone_after_read gone x → FailsOnlyOnFault f f' r → OnOk r (is_read_ok next x y ≡ true)
    → Does Nothing (mirrored gone f c counts (state a) (state b)) (mirrored next f' c' counts (state a') (state b')) r
mirror_reads state gone is_dead a a' b b' la lb x y ea eb ta tb alike f f' c c' counts next r is cause ok =
    does_read state gone is_dead a a' b b' x y (subst (λ (l : Bool). Tries state Nothing l a a' x) ea ta) (subst (λ (l : Bool). Tries state Nothing l b b' y) eb tb) alike f f' c c' counts next r is cause ok

-- the same, where one of the copies tells something
pub mirror_tells : {D T E : Type 0} (state : D → DiskState) (gone : Gone) (is_dead : Bool) (a a' b b' : D) (la lb x y : Bool)
    → la ≡ has_first gone is_dead → lb ≡ asks_second gone is_dead x → Tries state Nothing la a a' x → Tries state Nothing lb b b' y
    → AreAlike gone (state a) (state b)
    → (f f' c c' : ℕ) (counts : List ℕ) (next : Gone) (r : Result T E) → next ≡ gone_after_read gone x → FailsOnlyOnFault f f' r → OnOk r ((x || y) ≡ true)
    → Does Nothing (mirrored gone f c counts (state a) (state b)) (mirrored next f' c' counts (state a') (state b')) r
mirror_tells state gone is_dead a a' b b' la lb x y ea eb ta tb alike f f' c c' counts next r is cause ok =
    let sa = subst (λ (l : Bool). Tries state Nothing l a a' x) ea ta in
    let sb = subst (λ (l : Bool). Tries state Nothing l b b' y) eb tb in
    does_read state gone is_dead a a' b b' x y sa sb alike f f' c c' counts next r is cause (if_ok r ok (told_is_ok state gone is_dead a a' b b' x y sa sb alike next is))
