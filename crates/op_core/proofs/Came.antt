-- What comes of inputs one after the other.
use Rattle.std.proofs.Common.{◌≡◌, ◌++◌, ◌∷◌, [], ℕ, List, true, false, Option, Some, None, Ok, Err, All, inl, inr, ⊎_elim, refl, sym, ap, subst, ◌∙◌, append_assoc}
use Rattle.std.proofs.lemmas.List.Elements.{All-nil, All-cons, All-head, All-tail, All-append}
use Rattle.op_types.specs.declared.events.Input.{Input}
use Rattle.op_outside.specs.Disks.{DiskState}
use Rattle.op_store.specs.Stores.{disks_of}
use Rattle.op_store.proofs.KeptDisks.{keep_same, keep_both}
use Rattle.op_node.specs.Nodes.{node_of}
use Rattle.op_serving.specs.Cores.{Standing}
use Rattle.op_serving.specs.Fates.{Fate, done, finds, faults, shares, damaged, lost, is_lost, Came, inputs_of, ends_lost, after_fate, after_all, broke_by, IsTogether, IsLast, MayComeAll, Tells, TellAll, Steps, StepsAll}
use Rattle.op_serving.specs.Reopenings.{Unstored, unstored_after}
use Rattle.op_serving.specs.declared.node.StepFail.TheVariants as fails
use Rattle.op_core.specs.Disks.{FindEach, unstored_after_all, Stores, StepStores}
use Rattle.op_core.specs.Groups.{Told, starved, is_settled, EndsAs, EndsSo, end_of, LosesNext, IsCalm, IsAlone, Comes, GoesTogether, GoesOn}
use Rattle.op_core.specs.NodeCores.{standing_of}
use Rattle.op_core.specs.declared.end.End.TheVariants.{Broke, Lost}
use Rattle.op_core.specs.declared.node_core.NodeCore.{NodeCore}

abbrev pub settles : Came → Type 0
settles c = is_settled c.1 ≡ true

abbrev pub stays : Came → Type 0
stays c = is_lost c.1 ≡ false

-- ---- one list behind the other

pub inputs_both : (cs ds : List Came) → inputs_of (cs ++ ds) ≡ inputs_of cs ++ inputs_of ds
inputs_both [] ds = refl
inputs_both (c ∷ cs) ds = ap (λ (xs : List Input). c.0 ∷ xs) (inputs_both cs ds)

pub after_both : (n : Standing) (cs ds : List Came) → after_all n (cs ++ ds) ≡ after_all (after_all n cs) ds
after_both n [] ds = refl
after_both n (c ∷ cs) ds = after_both (after_fate n c.0 c.1) cs ds

unstored_both : (n : Standing) (u : Unstored) (cs ds : List Came) → unstored_after_all n u (cs ++ ds) ≡ unstored_after_all (after_all n cs) (unstored_after_all n u cs) ds
unstored_both n u [] ds = refl
unstored_both n u (c ∷ cs) ds = unstored_both (after_fate n c.0 c.1) (unstored_after n c.0 c.1 u) cs ds

find_both : (n : Standing) (u : Unstored) (cs ds : List Came) → FindEach n u cs → FindEach (after_all n cs) (unstored_after_all n u cs) ds → FindEach n u (cs ++ ds)
find_both n u [] ds first next = next
find_both n u (c ∷ cs) ds first next = (first.0, find_both (after_fate n c.0 c.1) (unstored_after n c.0 c.1 u) cs ds first.1 next)

pub tell_both : (rs ss : List Told) (n : Standing) (cs ds : List Came) → TellAll rs n cs → TellAll ss (after_all n cs) ds → TellAll (rs ++ ss) n (cs ++ ds)
tell_both [] ss n [] ds first next = next
tell_both [] ss n (c ∷ cs) ds first next = absurd (cc)
tell_both (r ∷ rs) ss n [] ds first next = absurd first
tell_both (r ∷ rs) ss n (c ∷ cs) ds first next = (first.0, tell_both rs ss (after_fate n c.0 c.1) cs ds first.1 next)

-- ---- which may come

-- one that isn't lost may have others behind it
pub not_last : (f : Fate) (cs : List Came) → is_lost f ≡ false → IsLast f cs
not_last f cs kept = λ is. let bad : true ≡ false = sym is ∙ kept in absurd (cc)

settled_stays : (f : Fate) → is_settled f ≡ true → is_lost f ≡ false
settled_stays done is = refl
settled_stays (finds d) is = refl
settled_stays (faults k) is = refl
settled_stays (shares k) is = refl
settled_stays damaged is = refl
settled_stays lost is = absurd (cc)

unbroken : (f : Fate) → is_settled f ≡ true → broke_by None f ≡ None
unbroken done is = refl
unbroken (finds d) is = refl
unbroken (faults k) is = absurd (cc)
unbroken (shares k) is = absurd (cc)
unbroken damaged is = refl
unbroken lost is = absurd (cc)

pub may_both : (n : Standing) (cs ds : List Came) → All settles cs → MayComeAll n None cs → MayComeAll (after_all n cs) None ds → MayComeAll n None (cs ++ ds)
may_both n [] ds all first next = next
may_both n (c ∷ cs) ds all first next =
    let one : is_settled c.1 ≡ true = All-head settles c cs all in
    let m : Standing = after_fate n c.0 c.1 in
    let behind : MayComeAll m None cs = subst (λ (b : Option ℕ). MayComeAll m b cs) (unbroken c.1 one) first.3 in
    let both : MayComeAll m None (cs ++ ds) = may_both m cs ds (All-tail settles c cs all) behind next in
    (first.0, first.1, not_last c.1 (cs ++ ds) (settled_stays c.1 one), subst (λ (b : Option ℕ). MayComeAll m b (cs ++ ds)) (sym (unbroken c.1 one)) both)

lost_together : (b : Option ℕ) → IsTogether b lost
lost_together None = tt
lost_together (Some k) = tt

may_lose : (n : Standing) (b : Option ℕ) (cs : List Came) (x : Input) → All stays cs → MayComeAll n b cs → MayComeAll n b (cs ++ (x, lost) ∷ [])
may_lose n b [] x all may = (tt, lost_together b, (λ is. refl), tt)
may_lose n b (c ∷ cs) x all may = (
  may.0,
  may.1,
  not_last c.1 (cs ++ (x, lost) ∷ []) (All-head stays c cs all),
  may_lose (after_fate n c.0 c.1) (broke_by b c.1) cs x (All-tail stays c cs all) may.3,
)

-- ---- how they end

one_more : (c : Came) (cs : List Came) → ends_lost cs ≡ true → ends_lost (c ∷ cs) ≡ true
one_more c [] is = absurd (cc)
one_more c (d ∷ cs) is = is

pub lost_behind : (cs ds : List Came) → ends_lost ds ≡ true → ends_lost (cs ++ ds) ≡ true
lost_behind [] ds is = is
lost_behind (c ∷ cs) ds is = one_more c (cs ++ ds) (lost_behind cs ds is)

-- one behind which another is lost
pub lost_unsettled : (cs : List Came) (x : Input) → All settles (cs ++ (x, lost) ∷ []) → ⊥
lost_unsettled [] x all = let bad : false ≡ true = All-head settles (x, lost) [] all in absurd (cc)
lost_unsettled (c ∷ cs) x all = lost_unsettled cs x (All-tail settles c (cs ++ (x, lost) ∷ []) all)

-- one that was told so
one_ends : (r : Told) (n : Standing) (x : Input) (f : Fate) → Tells r n x f → IsTogether None f → EndsAs (end_of r) ((x, f) ∷ [])
one_ends (Ok given) n x done told alone = All-cons settles (x, done) [] refl (All-nil settles)
one_ends (Ok given) n x (finds d) told alone = All-cons settles (x, finds d) [] refl (All-nil settles)
one_ends (Ok given) n x (faults k) told alone = absurd told
one_ends (Ok given) n x (shares k) told alone = absurd told
one_ends (Ok given) n x damaged told alone = absurd told
one_ends (Ok given) n x lost told alone = absurd told
one_ends (Err (fails.DiskFail k)) n x done told alone = absurd told
one_ends (Err (fails.DiskFail k)) n x (finds d) told alone = absurd told
one_ends (Err (fails.DiskFail k)) n x (faults j) told alone = All-cons stays (x, faults j) [] refl (All-nil stays)
one_ends (Err (fails.DiskFail k)) n x (shares j) told alone = absurd alone
one_ends (Err (fails.DiskFail k)) n x damaged told alone = absurd told
one_ends (Err (fails.DiskFail k)) n x lost told alone = absurd told
one_ends (Err fails.Damaged) n x done told alone = absurd told
one_ends (Err fails.Damaged) n x (finds d) told alone = absurd told
one_ends (Err fails.Damaged) n x (faults k) told alone = absurd told
one_ends (Err fails.Damaged) n x (shares k) told alone = absurd told
one_ends (Err fails.Damaged) n x damaged told alone = All-cons settles (x, damaged) [] refl (All-nil settles)
one_ends (Err fails.Damaged) n x lost told alone = absurd told
one_ends (Err fails.NoMemory) n x done told alone = absurd told
one_ends (Err fails.NoMemory) n x (finds d) told alone = absurd told
one_ends (Err fails.NoMemory) n x (faults k) told alone = absurd told
one_ends (Err fails.NoMemory) n x (shares k) told alone = absurd told
one_ends (Err fails.NoMemory) n x damaged told alone = absurd told
one_ends (Err fails.NoMemory) n x lost told alone = refl

-- ---- a node that is served

module _ {D : Type 0} (state : D → DiskState) where
  pub none_stores : (n : NodeCore D) → StepStores state n [] n
  none_stores n = record { kept = keep_same (disks_of state n.node.store); node = refl; found = λ u s. tt; stored = λ u s. s }

  pub stores_both : (old mid new : NodeCore D) (cs ds : List Came) → StepStores state old cs mid → StepStores state mid ds new → StepStores state old (cs ++ ds) new
  stores_both old mid new cs ds a b =
      let n : Standing = standing_of state old in
      record {
        kept = keep_both (disks_of state old.node.store) (disks_of state mid.node.store) (disks_of state new.node.store) a.kept b.kept;
        node = b.node ∙ ap (λ (k : Standing). after_all k ds) a.node ∙ sym (after_both n cs ds);
        found = λ u s. find_both n u cs ds (a.found u s) (subst (λ (k : Standing). FindEach k (unstored_after_all n u cs) ds) a.node (b.found (unstored_after_all n u cs) (a.stored u s)));
        stored = λ u s. subst (λ (v : Unstored). Stores state v new) (sym (unstored_both n u cs ds))
            (subst (λ (k : Standing). Stores state (unstored_after_all k (unstored_after_all n u cs) ds) new) a.node (b.stored (unstored_after_all n u cs) (a.stored u s)));
      }

  -- others came behind these
  pub comes_both : (old mid new : NodeCore D) (cs ds : List Came) (rs ss : List Told) → All settles cs → Comes state old cs rs mid → Comes state mid ds ss new → Comes state old (cs ++ ds) (rs ++ ss) new
  comes_both old mid new cs ds rs ss all a b =
      let n : Standing = standing_of state old in
      record {
        may = may_both n cs ds all a.may (subst (λ (k : Standing). MayComeAll k None ds) a.stored.node b.may);
        tell = tell_both rs ss n cs ds a.tell (subst (λ (k : Standing). TellAll ss k ds) a.stored.node b.tell);
        stored = stores_both old mid new cs ds a.stored b.stored;
      }

  -- one more is lost
  lost_stores : (n : NodeCore D) (x : Input) → StepStores state n ((x, lost) ∷ []) n
  lost_stores n x = record { kept = keep_same (disks_of state n.node.store); node = refl; found = λ u s. (tt, tt); stored = λ u s. s }

  pub comes_lost : (old new : NodeCore D) (cs : List Came) (rs : List Told) (x : Input) → All stays cs → Comes state old cs rs new → Comes state old (cs ++ (x, lost) ∷ []) (rs ++ starved ∷ []) new
  comes_lost old new cs rs x all a =
      let n : Standing = standing_of state old in
      record {
        may = may_lose n None cs x all a.may;
        tell = tell_both rs (starved ∷ []) n cs ((x, lost) ∷ []) a.tell (tt, refl);
        stored = stores_both old new new cs ((x, lost) ∷ []) a.stored (lost_stores new x);
      }

  -- one came alone
  pub goes_alone : (old new : NodeCore D) (x : Input) (rest : List Input) (r : Told) (before after : List Told) → IsAlone (node_of old.node) x → after ≡ before ++ r ∷ [] → Steps (standing_of state) (StepStores state) old x r new
      → GoesOn state (EndsAs (end_of r)) old (x ∷ rest) rest before after new
  goes_alone old new x rest r before after alone added s =
      record {
        came = (x, s.fate) ∷ [];
        told = r ∷ [];
        split = refl;
        added = added;
        comes = record { may = (s.may, s.alone, (λ is. refl), tt); tell = (s.tells, refl); stored = s.stored };
        ends = one_ends r (standing_of state old) x s.fate s.tells s.alone;
        together = λ up calm settled. absurd (alone up (All-head IsCalm x [] calm));
      }

  -- the first is lost
  pub goes_lost : (n m : NodeCore D) (x : Input) (rest : List Input) (before after : List Told) → after ≡ before ++ starved ∷ [] → Comes state n [] [] m → GoesOn state (EndsAs Lost) n (x ∷ rest) rest before after m
  goes_lost n m x rest before after added none =
      record { came = (x, lost) ∷ []; told = starved ∷ []; split = refl; added = added; comes = comes_lost n m [] [] x (All-nil stays) none; ends = refl; together = λ up calm settled. absurd (lost_unsettled [] x settled) }

  -- behind those that a fault ended the next is lost
  pub goes_broken : (old new : NodeCore D) (xs ys rest : List Input) (before mid after : List Told) → GoesOn state (EndsAs Broke) old xs ys before mid new → LosesNext ys rest mid after → GoesOn state (EndsSo false rest) old xs rest before after new
  goes_broken old new xs [] rest before mid after g l =
      record {
        came = g.came;
        told = g.told;
        split = g.split ∙ ap (λ (zs : List Input). inputs_of g.came ++ zs) (sym l.0);
        added = l.1 ∙ g.added;
        comes = g.comes;
        ends = inl l.0;
        together = λ up calm settled. subst (λ (zs : List Input). GoesTogether state old (inputs_of g.came) zs new) (sym l.0) (g.together up calm settled);
      }
  goes_broken old new xs (y ∷ ys) rest before mid after g l =
      record {
        came = g.came ++ (y, lost) ∷ [];
        told = g.told ++ starved ∷ [];
        split = g.split ∙ ap (λ (zs : List Input). inputs_of g.came ++ y ∷ zs) (sym l.0) ∙ sym (append_assoc (inputs_of g.came) (y ∷ []) rest) ∙ ap (λ (zs : List Input). zs ++ rest) (sym (inputs_both g.came ((y, lost) ∷ [])));
        added = l.1 ∙ ap (λ (rs : List Told). rs ++ starved ∷ []) g.added ∙ append_assoc before g.told (starved ∷ []);
        comes = comes_lost old new g.came g.told y g.ends g.comes;
        ends = inr (lost_behind g.came ((y, lost) ∷ []) refl);
        together = λ up calm settled. absurd (lost_unsettled g.came y settled);
      }

  -- ---- one group behind the other

  -- all of these came so far
  pub record SoFar (old : NodeCore D) (xs rest : List Input) (told : List Told) (now : NodeCore D) : Type 0 where
    pub came : List Came
    pub split : xs ≡ inputs_of came ++ rest
    pub settled : All settles came
    pub comes : Comes state old came told now

  module _ (old mid new : NodeCore D) (xs ys zs : List Input) (told after : List Told) (s : SoFar old xs ys told mid) where
    split_both : (cs : List Came) → ys ≡ inputs_of cs ++ zs → xs ≡ inputs_of (s.came ++ cs) ++ zs
    split_both cs is =
        s.split ∙ ap (λ (vs : List Input). inputs_of s.came ++ vs) is ∙ sym (append_assoc (inputs_of s.came) (inputs_of cs) zs) ∙ ap (λ (vs : List Input). vs ++ zs) (sym (inputs_both s.came cs))

    pub so_far_more : GoesOn state (EndsSo true zs) mid ys zs told after new → SoFar old xs zs after new
    so_far_more g = record {
      came = s.came ++ g.came;
      split = split_both g.came g.split;
      settled = All-append settles s.came g.came s.settled g.ends;
      comes = subst (λ (rs : List Told). Comes state old (s.came ++ g.came) rs new) (sym g.added) (comes_both old mid new s.came g.came told g.told s.settled s.comes g.comes);
    }

    pub so_far_ends : GoesOn state (EndsSo false zs) mid ys zs told after new → StepsAll (standing_of state) (StepStores state) old xs zs after new
    so_far_ends g =
        let all : Comes state old (s.came ++ g.came) after new =
        subst (λ (rs : List Told). Comes state old (s.came ++ g.came) rs new) (sym g.added) (comes_both old mid new s.came g.came told g.told s.settled s.comes g.comes) in
        record {
          came = s.came ++ g.came;
          split = split_both g.came g.split;
          ends = ⊎_elim (λ e. inl e) (λ e. inr (lost_behind s.came g.came e)) g.ends;
          may = all.may;
          tell = all.tell;
          node = all.stored.node;
          stored = all.stored;
        }
