-- A copy that lived and is out failed in the call.
use Rattle.std.proofs.Common.{◌≡◌, ◌⊎◌, inl, inr, ⊎_elim, ◌<◌, Bool, true, false, not, ◌||◌, refl, sym, ◌∙◌, ap, subst, arith}
use Rattle.std.proofs.lemmas.Bool.{true≢false, false≢true}
use Rattle.op_outside.specs.Causes.{FaultsRose}
use Rattle.op_outside.specs.Disks.{DiskState, Edit, Does}
use Rattle.op_outside.specs.Disks.Edit.{Nothing}
use Rattle.op_mirror.specs.declared.gone.Gone.{Gone}
use Rattle.op_mirror.specs.declared.gone.Gone.TheVariants.{Neither, First, Second}
use Rattle.op_mirror.specs.Copies.{has_first, has_second, asks_second, gone_after, gone_after_read, is_read_ok, living_of, AreAlike}
use Rattle.op_mirror.specs.Tries.{outcome, Tries}
use Rattle.op_mirror.proofs.Calls.{told_is_ok}

-- a copy that is called and doesn't do it has failed
rose : {D : Type 0} (state : D → DiskState) (edit : Edit) (lives : Bool) (old new : D) (ok : Bool) → Tries state edit lives old new ok → lives ≡ true → ok ≡ false → FaultsRose (state old).faults (state new).faults
rose state edit lives old new ok t l e = (subst (λ (b : Bool). Does edit (state old) (state new) (outcome b)) e (t.called l)).cause.err refl

-- ---- which answers take a copy out, where the mirror lives on or not
first_out : (g : Gone) (dead x y : Bool) (still : Bool) → has_first g dead ≡ true → is_read_ok (gone_after g x y) x y ≡ still → has_first (gone_after g x y) (not still) ≡ false → x ≡ false
first_out Neither true x y s l k o = absurd (false≢true l)
first_out Neither false false y s l k o = refl
first_out Neither false true true s l k o = absurd (true≢false (ap (λ (b : Bool). not (not b)) k ∙ o))
first_out Neither false true false s l k o = absurd (true≢false (ap (λ (b : Bool). not (not b)) k ∙ o))
first_out First dead x y s l k o = absurd (false≢true l)
first_out Second true x y s l k o = absurd (false≢true l)
first_out Second false false y s l k o = refl
first_out Second false true y s l k o = absurd (true≢false (ap (λ (b : Bool). not (not b)) k ∙ o))

second_out : (g : Gone) (dead x y : Bool) (still : Bool) → has_second g dead ≡ true → is_read_ok (gone_after g x y) x y ≡ still → has_second (gone_after g x y) (not still) ≡ false → y ≡ false
second_out Neither true x y s l k o = absurd (false≢true l)
second_out Neither false x false s l k o = refl
second_out Neither false true true s l k o = absurd (true≢false (ap (λ (b : Bool). not (not b)) k ∙ o))
second_out Neither false false true s l k o = absurd (true≢false (ap (λ (b : Bool). not (not b)) k ∙ o))
second_out First true x y s l k o = absurd (false≢true l)
second_out First false x false s l k o = refl
second_out First false x true s l k o = absurd (true≢false (ap (λ (b : Bool). not (not b)) k ∙ o))
second_out Second dead x y s l k o = absurd (false≢true l)

-- a mirror that lives, or doesn't, before the call
alive_first : (g : Gone) (dead : Bool) → has_first g dead ≡ true → dead ≡ false
alive_first Neither true l = absurd (false≢true l)
alive_first Neither false l = refl
alive_first First dead l = absurd (false≢true l)
alive_first Second true l = absurd (false≢true l)
alive_first Second false l = refl

alive_second : (g : Gone) (dead : Bool) → has_second g dead ≡ true → dead ≡ false
alive_second Neither true l = absurd (false≢true l)
alive_second Neither false l = refl
alive_second First true l = absurd (false≢true l)
alive_second First false l = refl
alive_second Second dead l = absurd (false≢true l)

module _ {D : Type 0} (state : D → DiskState) (edit : Edit) (g next : Gone) (dead then_ : Bool) (a a' b b' : D) (la lb x y still : Bool)
    (ea : la ≡ has_first g dead) (eb : lb ≡ has_second g dead) (ta : Tries state edit la a a' x) (tb : Tries state edit lb b b' y)
    (is : next ≡ gone_after g x y) (ok : is_read_ok next x y ≡ still) (dies : dead ≡ false → then_ ≡ not still) where
  pub takes_first : has_first g dead ≡ true → has_first next then_ ≡ false → FaultsRose (state a).faults (state a').faults
  takes_first l o =
      let e : then_ ≡ not still = dies (alive_first g dead l) in
      rose state edit la a a' x ta (ea ∙ l)
      (first_out g dead x y still l (ap (λ (n : Gone). is_read_ok n x y) (sym is) ∙ ok) (ap (λ (n : Gone). has_first n (not still)) (sym is) ∙ ap (has_first next) (sym e) ∙ o))

  pub takes_second : has_second g dead ≡ true → has_second next then_ ≡ false → FaultsRose (state b).faults (state b').faults
  takes_second l o =
      let e : then_ ≡ not still = dies (alive_second g dead l) in
      rose state edit lb b b' y tb (eb ∙ l)
      (second_out g dead x y still l (ap (λ (n : Gone). is_read_ok n x y) (sym is) ∙ ok) (ap (λ (n : Gone). has_second n (not still)) (sym is) ∙ ap (has_second next) (sym e) ∙ o))

-- none lives in a mirror that died
pub none_lives : (g : Gone) → (has_first g true ≡ false) × (has_second g true ≡ false)
none_lives Neither = (refl, refl)
none_lives First = (refl, refl)
none_lives Second = (refl, refl)

-- ---- a call that changes nothing
read_first_out : (g : Gone) (dead x y : Bool) (still : Bool) → has_first g dead ≡ true → is_read_ok (gone_after_read g x) x y ≡ still → has_first (gone_after_read g x) (not still) ≡ false → x ≡ false
read_first_out Neither true x y s l k o = absurd (false≢true l)
read_first_out Neither false false y s l k o = refl
read_first_out Neither false true y s l k o = absurd (true≢false (ap (λ (b : Bool). not (not b)) k ∙ o))
read_first_out First dead x y s l k o = absurd (false≢true l)
read_first_out Second true x y s l k o = absurd (false≢true l)
read_first_out Second false false y s l k o = refl
read_first_out Second false true y s l k o = absurd (true≢false (ap (λ (b : Bool). not (not b)) k ∙ o))

read_second_out : (g : Gone) (dead x y : Bool) (still : Bool) → has_second g dead ≡ true → (has_first g dead ≡ false → x ≡ false) → is_read_ok (gone_after_read g x) x y ≡ still → has_second (gone_after_read g x) (not still) ≡ false
    → (y ≡ false) × (asks_second g dead x ≡ true)
read_second_out Neither true x y s l h k o = absurd (false≢true l)
read_second_out Neither false true y s l h k o = absurd (true≢false (ap (λ (b : Bool). not (not b)) k ∙ o))
read_second_out Neither false false true s l h k o = absurd (true≢false (ap (λ (b : Bool). not (not b)) k ∙ o))
read_second_out Neither false false false s l h k o = (refl, refl)
read_second_out First true x y s l h k o = absurd (false≢true l)
read_second_out First false x true s l h k o = absurd (true≢false (ap (λ (b : Bool). not (not b)) k ∙ o))
read_second_out First false false false s l h k o = (refl, refl)
read_second_out First false true false s l h k o = absurd (true≢false (h refl))
read_second_out Second dead x y s l h k o = absurd (false≢true l)

module _ {D : Type 0} (state : D → DiskState) (g next : Gone) (dead then_ : Bool) (a a' b b' : D) (la lb x y still : Bool)
    (ea : la ≡ has_first g dead) (eb : lb ≡ asks_second g dead x) (ta : Tries state Nothing la a a' x) (tb : Tries state Nothing lb b b' y)
    (is : next ≡ gone_after_read g x) (ok : is_read_ok next x y ≡ still) (dies : dead ≡ false → then_ ≡ not still) where
  pub reads_first : has_first g dead ≡ true → has_first next then_ ≡ false → FaultsRose (state a).faults (state a').faults
  reads_first l o =
      let e : then_ ≡ not still = dies (alive_first g dead l) in
      rose state Nothing la a a' x ta (ea ∙ l)
      (read_first_out g dead x y still l (ap (λ (n : Gone). is_read_ok n x y) (sym is) ∙ ok) (ap (λ (n : Gone). has_first n (not still)) (sym is) ∙ ap (has_first next) (sym e) ∙ o))

  pub reads_second : has_second g dead ≡ true → has_second next then_ ≡ false → FaultsRose (state b).faults (state b').faults
  reads_second l o =
      let e : then_ ≡ not still = dies (alive_second g dead l) in
      let k = read_second_out g dead x y still l (λ n. (ta.out (ea ∙ n)).1) (ap (λ (n : Gone). is_read_ok n x y) (sym is) ∙ ok) (ap (λ (n : Gone). has_second n (not still)) (sym is) ∙ ap (has_second next) (sym e) ∙ o) in
      rose state Nothing lb b b' y tb (eb ∙ k.1) k.0

-- where one of the copies tells something, the one that is read does; and where none does, it doesn't
pub tells_ok : {D : Type 0} (state : D → DiskState) (g : Gone) (dead : Bool) (a a' b b' : D) (la lb x y : Bool) → la ≡ has_first g dead → lb ≡ asks_second g dead x → Tries state Nothing la a a' x → Tries state Nothing lb b b' y
    → AreAlike g (state a) (state b) → (next : Gone) → next ≡ gone_after_read g x → (x || y) ≡ true → is_read_ok next x y ≡ true
tells_ok state g dead a a' b b' la lb x y ea eb ta tb alike next is ok =
    told_is_ok state g dead a a' b b' x y (subst (λ (l : Bool). Tries state Nothing l a a' x) ea ta) (subst (λ (l : Bool). Tries state Nothing l b b' y) eb tb) alike next is ok

pub tells_none : (next : Gone) (x y : Bool) → x ≡ false → y ≡ false → is_read_ok next x y ≡ false
tells_none Neither x y e f = e
tells_none First x y e f = f
tells_none Second x y e f = e

-- ---- how many live
-- none in a mirror that died
pub living_none : (g : Gone) → living_of g true ≡ 0
living_none Neither = refl
living_none First = refl
living_none Second = refl

-- one at least in a call that is done
living_some : (g : Gone) (dead : Bool) → dead ≡ false → 0 < living_of g dead
living_some g true e = absurd (true≢false e)
living_some Neither false e = omega arith
living_some First false e = omega arith
living_some Second false e = omega arith

alive : (g next : Gone) (dead x y : Bool) → (has_first g dead ≡ false → x ≡ false) → (has_second g dead ≡ false → y ≡ false) → is_read_ok next x y ≡ true → dead ≡ false
alive g next false x y hx hy ok = refl
alive g next true x y hx hy ok = absurd (true≢false (sym ok ∙ tells_none next x y (hx (none_lives g).0) (hy (none_lives g).1)))

-- a copy that is out stays so, and is left as it is
first_out_stays : (g : Gone) (dead x y : Bool) → has_first g dead ≡ false → (dead ≡ true) ⊎ (g ≡ First)
first_out_stays g true x y o = inl refl
first_out_stays Neither false x y o = absurd (true≢false o)
first_out_stays First false x y o = inr refl
first_out_stays Second false x y o = absurd (true≢false o)

second_out_stays : (g : Gone) (dead x y : Bool) → has_second g dead ≡ false → (dead ≡ true) ⊎ (g ≡ Second)
second_out_stays g true x y o = inl refl
second_out_stays Neither false x y o = absurd (true≢false o)
second_out_stays First false x y o = absurd (true≢false o)
second_out_stays Second false x y o = inr refl

module _ {D : Type 0} (state : D → DiskState) (edit : Edit) (g next : Gone) (dead then_ : Bool) (a a' b b' : D) (la lb x y : Bool)
    (ea : la ≡ has_first g dead) (eb : has_second g dead ≡ false → lb ≡ false) (ta : Tries state edit la a a' x) (tb : Tries state edit lb b b' y)
    (first_is : g ≡ First → next ≡ First) (second_is : g ≡ Second → next ≡ Second) (dies : dead ≡ true → then_ ≡ true) where
  pub first_stays : has_first g dead ≡ false → (has_first next then_ ≡ false) × (a' ≡ a)
  first_stays o = (
    ⊎_elim (λ d. ap (has_first next) (dies d) ∙ (none_lives next).0) (λ f. ap (λ (n : Gone). has_first n then_) (first_is f)) (first_out_stays g dead x y o),
    (ta.out (ea ∙ o)).0,
  )

  pub second_stays : has_second g dead ≡ false → (has_second next then_ ≡ false) × (b' ≡ b)
  second_stays o = (
    ⊎_elim (λ d. ap (has_second next) (dies d) ∙ (none_lives next).1) (λ f. ap (λ (n : Gone). has_second n then_) (second_is f)) (second_out_stays g dead x y o),
    (tb.out (eb o)).0,
  )

  pub one_lives : is_read_ok next x y ≡ true → then_ ≡ dead → 0 < living_of next then_
  one_lives ok e = living_some next then_ (e ∙ alive g next dead x y (λ o. (ta.out (ea ∙ o)).1) (λ o. (tb.out (eb o)).1) ok)

-- which failed first stays so
pub stays_first : (g next : Gone) (x y : Bool) → next ≡ gone_after g x y → g ≡ First → next ≡ First
stays_first g next x y is e = is ∙ ap (λ (h : Gone). gone_after h x y) e

pub stays_second : (g next : Gone) (x y : Bool) → next ≡ gone_after g x y → g ≡ Second → next ≡ Second
stays_second g next x y is e = is ∙ ap (λ (h : Gone). gone_after h x y) e

pub stays_first_read : (g next : Gone) (x : Bool) → next ≡ gone_after_read g x → g ≡ First → next ≡ First
stays_first_read g next x is e = is ∙ ap (λ (h : Gone). gone_after_read h x) e

pub stays_second_read : (g next : Gone) (x : Bool) → next ≡ gone_after_read g x → g ≡ Second → next ≡ Second
stays_second_read g next x is e = is ∙ ap (λ (h : Gone). gone_after_read h x) e

-- a second copy that is out isn't asked
pub not_asked : (g : Gone) (dead x lb : Bool) → lb ≡ asks_second g dead x → has_second g dead ≡ false → lb ≡ false
not_asked g dead true lb eb o = eb
not_asked g dead false lb eb o = eb ∙ o
