-- What a call of a mirror makes pending, and that its copies stay alike.
use Rattle.std.proofs.Common.{◌≡◌, ◌⊎◌, inl, ℕ, List, Bool, true, false, not, ◌&&◌, ◌||◌, refl, sym, ◌∙◌, ap, subst, Result, Ok, Err, is_ok}
use Rattle.std.proofs.lemmas.Bool.{true≢false, false≢true}
use Rattle.std.specs.Prelude.{OnOk, IsErr}
use Rattle.op_outside.specs.Pendings.{Pending, synced}
use Rattle.op_outside.specs.Disks.{DiskState, Edit, pending_after, Pends, Settles}
use Rattle.op_outside.specs.Disks.Edit.{Nothing}
use Rattle.op_mirror.specs.declared.gone.Gone.{Gone}
use Rattle.op_mirror.specs.declared.gone.Gone.TheVariants.{Neither, First, Second}
use Rattle.op_mirror.specs.Copies.{has_first, has_second, asks_second, gone_after, gone_after_read, is_read_ok, read_copy, AreAlike, mirrored}
use Rattle.op_mirror.specs.Tries.{outcome, Tries, PendsIf, SettlesIf}

-- ---- one copy: what holds after a call that was done on it, and after one that wasn't
module _ (done failed : Pending → DiskState → Type 0) (a a' : DiskState) (ok : Bool) where
  pub record Ends : Type 0 where
    pub well : ok ≡ true → a.obeys → done a.pending a'
    pub ill : ok ≡ false → a.obeys → failed a.pending a'

-- what is pending after it
abbrev Is : Edit → Pending → DiskState → Type 0
Is edit s d = d.pending ≡ pending_after edit s

abbrev IsOrWas : Edit → Pending → DiskState → Type 0
IsOrWas edit s d = (d.pending ≡ s) ⊎ (d.pending ≡ pending_after edit s)

abbrev IsSettled : Pending → DiskState → Type 0
IsSettled s d = d.pending ≡ synced d.content

abbrev Stays : Pending → DiskState → Type 0
Stays s d = d.pending ≡ s

module _ {D : Type 0} (state : D → DiskState) (old new : D) where
  pends_well : (edit : Edit) (ok : Bool) → Pends edit (state old) (state new) (outcome ok) → ok ≡ true → (state old).obeys → Is edit (state old).pending (state new)
  pends_well edit true p e o = p.done o
  pends_well edit false p e o = absurd (false≢true e)

  pends_ill : (edit : Edit) (ok : Bool) → Pends edit (state old) (state new) (outcome ok) → ok ≡ false → (state old).obeys → IsOrWas edit (state old).pending (state new)
  pends_ill edit true p e o = absurd (true≢false e)
  pends_ill edit false p e o = p.failed o refl

  settles_well : (ok : Bool) → Settles (state old) (state new) (outcome ok) → ok ≡ true → (state old).obeys → IsSettled (state old).pending (state new)
  settles_well true p e o = p.done o
  settles_well false p e o = absurd (false≢true e)

  settles_ill : (ok : Bool) → Settles (state old) (state new) (outcome ok) → ok ≡ false → (state old).obeys → Stays (state old).pending (state new)
  settles_ill true p e o = absurd (true≢false e)
  settles_ill false p e o = p.failed o refl

  -- a copy that is out is left as it is
  was : (edit : Edit) (ok : Bool) → Tries state edit false old new ok → (state new).pending ≡ (state old).pending
  was edit ok t = ap (λ (d : D). (state d).pending) (t.out refl).0

  pub pend_ends : (edit : Edit) (lives ok : Bool) → Tries state edit lives old new ok → PendsIf state edit lives old new ok → Ends (Is edit) (IsOrWas edit) (state old) (state new) ok
  pend_ends edit true ok t p = record { well = pends_well edit ok (p refl); ill = pends_ill edit ok (p refl) }
  pend_ends edit false ok t p = record { well = λ e o. absurd (false≢true (sym (t.out refl).1 ∙ e)); ill = λ e o. inl (was edit ok t) }

  pub settle_ends : (lives ok : Bool) → Tries state Nothing lives old new ok → SettlesIf state lives old new ok → Ends IsSettled Stays (state old) (state new) ok
  settle_ends true ok t p = record { well = settles_well ok (p refl); ill = settles_ill ok (p refl) }
  settle_ends false ok t p = record { well = λ e o. absurd (false≢true (sym (t.out refl).1 ∙ e)); ill = λ e o. was Nothing ok t }

-- ---- both copies: the same of the copy that is read
module _ (done failed : Pending → DiskState → Type 0) (a a' b b' : DiskState) (x y : Bool) (ea : Ends done failed a a' x) (eb : Ends done failed b b' y) where
  read_well : (g next : Gone) → AreAlike g a b → next ≡ gone_after g x y → (p q : Bool) → x ≡ p → y ≡ q → is_read_ok (gone_after g p q) p q ≡ true → a.obeys → b.obeys
      → done (read_copy g a b).pending (read_copy (gone_after g p q) a' b')
  read_well Neither next alike is true true ex ey ok oa ob = ea.well ex oa
  read_well Neither next alike is true false ex ey ok oa ob = ea.well ex oa
  read_well Neither next alike is false true ex ey ok oa ob = subst (λ (s : Pending). done s b') (sym (alike refl oa ob).pending) (eb.well ey ob)
  read_well Neither next alike is false false ex ey ok oa ob = absurd (false≢true ok)
  read_well First next alike is p true ex ey ok oa ob = eb.well ey ob
  read_well First next alike is p false ex ey ok oa ob = absurd (false≢true ok)
  read_well Second next alike is true q ex ey ok oa ob = ea.well ex oa
  read_well Second next alike is false q ex ey ok oa ob = absurd (false≢true ok)

  read_ill : (g next : Gone) → AreAlike g a b → next ≡ gone_after g x y → (p q : Bool) → x ≡ p → y ≡ q → is_read_ok (gone_after g p q) p q ≡ false → a.obeys → b.obeys
      → failed (read_copy g a b).pending (read_copy (gone_after g p q) a' b')
  read_ill Neither next alike is true true ex ey ok oa ob = absurd (true≢false ok)
  read_ill Neither next alike is true false ex ey ok oa ob = absurd (true≢false ok)
  read_ill Neither next alike is false true ex ey ok oa ob = absurd (true≢false ok)
  read_ill Neither next alike is false false ex ey ok oa ob = subst (λ (s : Pending). failed s b') (sym (alike refl oa ob).pending) (eb.ill ey ob)
  read_ill First next alike is p true ex ey ok oa ob = absurd (true≢false ok)
  read_ill First next alike is p false ex ey ok oa ob = eb.ill ey ob
  read_ill Second next alike is true q ex ey ok oa ob = absurd (true≢false ok)
  read_ill Second next alike is false q ex ey ok oa ob = ea.ill ex oa

  module _ (g next : Gone) (alike : AreAlike g a b) (is : next ≡ gone_after g x y) (oa : a.obeys) (ob : b.obeys) where
    pub both_well : is_read_ok next x y ≡ true → done (read_copy g a b).pending (read_copy next a' b')
    both_well ok =
        subst (λ (n : Gone). done (read_copy g a b).pending (read_copy n a' b')) (sym is)
        (read_well g next alike is x y refl refl (ap (λ (n : Gone). is_read_ok n x y) (sym is) ∙ ok) oa ob)

    pub both_ill : is_read_ok next x y ≡ false → failed (read_copy g a b).pending (read_copy next a' b')
    both_ill ok =
        subst (λ (n : Gone). failed (read_copy g a b).pending (read_copy n a' b')) (sym is)
        (read_ill g next alike is x y refl refl (ap (λ (n : Gone). is_read_ok n x y) (sym is) ∙ ok) oa ob)

-- ---- calls of the mirror
on_ok : {T E P : Type 0} (r : Result T E) → (is_ok r ≡ true → P) → OnOk r P
on_ok (Ok v) h = h refl
on_ok (Err e) h = tt

on_err : {T E P : Type 0} (r : Result T E) → (is_ok r ≡ false → P) → IsErr r → P
on_err (Ok v) h e = absurd (cc)
on_err (Err v) h e = h refl

module _ {D T E : Type 0} (state : D → DiskState) (gone next : Gone) (is_dead : Bool) (a a' b b' : D) (x y : Bool) (alike : AreAlike gone (state a) (state b))
    (is : next ≡ gone_after gone x y) (f f' c c' : ℕ) (counts : List ℕ) (r : Result T E) (ok : is_read_ok next x y ≡ is_ok r) where
  with_pends : (edit : Edit) → Ends (Is edit) (IsOrWas edit) (state a) (state a') x → Ends (Is edit) (IsOrWas edit) (state b) (state b') y
      → Pends edit (mirrored gone f c counts (state a) (state b)) (mirrored next f' c' counts (state a') (state b')) r
  with_pends edit ea eb = record {
    done = λ o. on_ok r (λ e. both_well (Is edit) (IsOrWas edit) (state a) (state a') (state b) (state b') x y ea eb gone next alike is o.0 o.1 (ok ∙ e));
    failed = λ o. on_err r (λ e. both_ill (Is edit) (IsOrWas edit) (state a) (state a') (state b) (state b') x y ea eb gone next alike is o.0 o.1 (ok ∙ e));
  }

  pub mirror_pends : (edit : Edit) (la lb : Bool) → Tries state edit la a a' x → Tries state edit lb b b' y → PendsIf state edit la a a' x → PendsIf state edit lb b b' y
      → Pends edit (mirrored gone f c counts (state a) (state b)) (mirrored next f' c' counts (state a') (state b')) r
  mirror_pends edit la lb ta tb pa pb = with_pends edit (pend_ends state a a' edit la x ta pa) (pend_ends state b b' edit lb y tb pb)

  pub mirror_settles : (la lb : Bool) → Tries state Nothing la a a' x → Tries state Nothing lb b b' y → SettlesIf state la a a' x → SettlesIf state lb b b' y
      → Settles (mirrored gone f c counts (state a) (state b)) (mirrored next f' c' counts (state a') (state b')) r
  mirror_settles la lb ta tb pa pb =
      let ea = settle_ends state a a' la x ta pa in
      let eb = settle_ends state b b' lb y tb pb in
      record {
        done = λ o. on_ok r (λ e. both_well IsSettled Stays (state a) (state a') (state b) (state b') x y ea eb gone next alike is o.0 o.1 (ok ∙ e));
        failed = λ o. on_err r (λ e. both_ill IsSettled Stays (state a) (state a') (state b) (state b') x y ea eb gone next alike is o.0 o.1 (ok ∙ e));
      }

-- ---- a call that changes nothing: a second copy that isn't asked is as one on which it was done
pub read_is : (g : Gone) (x y : Bool) → gone_after_read g x ≡ gone_after g x (x || y)
read_is Neither true y = refl
read_is Neither false y = refl
read_is First x y = refl
read_is Second x y = refl

module _ {D : Type 0} (state : D → DiskState) (gone next : Gone) (is_dead : Bool) (a a' b b' : D) (la lb x y : Bool) (alike : AreAlike gone (state a) (state b))
    (eb : lb ≡ asks_second gone is_dead x) (is : next ≡ gone_after_read gone x)
    (ta : Tries state Nothing la a a' x) (tb : Tries state Nothing lb b b' y) (pa : PendsIf state Nothing la a a' x) (pb : PendsIf state Nothing lb b b' y) where
  second_ends : Ends (Is Nothing) (IsOrWas Nothing) (state b) (state b') (x || y)
  second_ends = by x refl
    where
      by : (p : Bool) → x ≡ p → Ends (Is Nothing) (IsOrWas Nothing) (state b) (state b') (p || y)
      by true e = record {
        well = λ _ o. ap (λ (d : D). (state d).pending) (tb.out (eb ∙ ap (λ (q : Bool). not q && has_second gone is_dead) e)).0;
        ill = λ f o. absurd (true≢false f);
      }
      by false e = pend_ends state b b' Nothing lb y tb pb

  pub mirror_reads_pend : {T E : Type 0} (f f' c c' : ℕ) (counts : List ℕ) (r : Result T E) → is_read_ok next x (x || y) ≡ is_ok r
      → Pends Nothing (mirrored gone f c counts (state a) (state b)) (mirrored next f' c' counts (state a') (state b')) r
  mirror_reads_pend f f' c c' counts r ok =
      with_pends state gone next is_dead a a' b b' x (x || y) alike (is ∙ read_is gone x y) f f' c c' counts r ok Nothing (pend_ends state a a' Nothing la x ta pa) second_ends

-- whether it was done, with an unasked second copy as one on which it was
pub read_ok_or : (g next : Gone) (dead x y : Bool) → next ≡ gone_after_read g x → (has_first g dead ≡ false → x ≡ false) → is_read_ok next x (x || y) ≡ is_read_ok next x y
read_ok_or Neither next dead true y is out = ap (λ (n : Gone). is_read_ok n true true) is ∙ sym (ap (λ (n : Gone). is_read_ok n true y) is)
read_ok_or g next dead false y is out = refl
read_ok_or First next dead true y is out = absurd (true≢false (out refl))
read_ok_or Second next dead true y is out = ap (λ (n : Gone). is_read_ok n true true) is ∙ sym (ap (λ (n : Gone). is_read_ok n true y) is)
