-- What deeds make of the node, and one thing behind the other.
use Rattle.std.proofs.Common.{◌≡◌, ◌++◌, ◌∷◌, [], Bool, true, false, List, map, refl, sym, ◌∙◌, ap, subst, append_assoc}
use Rattle.std.specs.List.{flat_map}
use Rattle.std.proofs.lemmas.Grind.{flat_map-append}
use Rattle.std.proofs.lemmas.List.{append-nil}
use Rattle.op_serving.specs.declared.mark.Mark.{Mark}
use Rattle.op_serving.specs.Cores.{Standing}
use Rattle.op_serving.specs.Fates.{Came, after_fate}
use Rattle.op_serving.specs.Faults.{Stepped, Walks, WalksBy, came_of, came_in}
use Rattle.op_serving.specs.Room.{Frame}
use Rattle.op_serving.specs.Inputs.{State, Luck, Deed, enters, says, kept, kept_of}
use Rattle.op_serving.specs.Losses.{Foretells, Grew}
use Rattle.op_serving.specs.State.{Loop}
use Rattle.op_driver.specs.Driver.{Served, Chance, Any, Way, Stores, Went, Run, with_deeds, Knows}
use Rattle.op_queues.proofs.Settling.{foretold, grew_still, grew_trans}

-- ---- some deeds, and then others

steps_then : (xs ys : List Deed) (n m k : Standing) → Stepped n xs m → Stepped m ys k → Stepped n (xs ++ ys) k
steps_then [] ys n m k a b = subst (λ x. Stepped x ys k) a b
steps_then (enters who i fate ∷ xs) ys n m k a b = (a.0, steps_then xs ys (after_fate n i fate) m k a.1 b)
steps_then (x ∷ xs) ys n m k a b = steps_then xs ys n m k a b

pub kept_both : (xs ys : List Deed) → kept (xs ++ ys) ≡ kept xs ++ kept ys
kept_both [] ys = refl
kept_both (x ∷ xs) ys = ap (λ l. kept_of x ++ l) (kept_both xs ys) ∙ sym (append_assoc (kept_of x) (kept xs) (kept ys))

-- frames alone are no inputs
pub steps_says : (fs : List Frame) (n m : Standing) → m ≡ n → Stepped n (map says fs) m
steps_says [] n m e = e
steps_says (f ∷ fs) n m e = steps_says fs n m e

came_says : (fs : List Frame) → came_in (map says fs) ≡ []
came_says [] = refl
came_says (f ∷ fs) = came_says fs

module _ {K : Type 0} (step : Stores K) where
  walks_by_then : (gs hs : List (List Came)) (k m n : K) → WalksBy step k gs m → WalksBy step m hs n → WalksBy step k (gs ++ hs) n
  walks_by_then [] hs k m n a b = subst (λ x. WalksBy step x hs n) a b
  walks_by_then (g ∷ gs) hs k m n a b = (a.0, a.1, walks_by_then gs hs a.0 m n a.2 b)

  -- inputs that were stored together, and then frames
  pub walks_group : (ds : List Deed) (fs : List Frame) (cs : List Came) (k m : K) → came_in ds ≡ cs → step k cs m → Walks step k (ds ++ map says fs) m
  walks_group ds fs cs k m is stored = record {
    groups = cs ∷ [];
    are = flat_map-append came_of ds (map says fs) ∙ ap (λ l. came_in ds ++ l) (came_says fs) ∙ ap (λ l. l ++ []) is;
    walks = (m, stored, refl);
  }

module _ {K : Type 0} {stores : Stores K} where
  pub went_then : {d m e : Served K} {xs ys : List Deed} → Went stores d xs m → Went stores m ys e → Went stores d (xs ++ ys) e
  went_then {d} {m} {e} {xs} {ys} a b = record {
    steps = steps_then xs ys d.node m.node e.node a.steps b.steps;
    walks = record {
      groups = a.walks.groups ++ b.walks.groups;
      are = flat_map-append came_of xs ys ∙ ap (λ l. l ++ came_in ys) a.walks.are ∙ ap (λ l. flat_map (λ g. g) a.walks.groups ++ l) b.walks.are
          ∙ sym (flat_map-append (λ g. g) a.walks.groups b.walks.groups);
      walks = walks_by_then stores a.walks.groups b.walks.groups d.core m.core e.core a.walks.walks b.walks.walks;
    };
  }

  pub went_none : {d : Served K} → Went stores d [] d
  went_none = record { steps = refl; walks = record { groups = []; are = refl; walks = refl } }

-- ---- deeds that are no inputs

-- it is no input
abbrev pub is_beside : Deed → Bool
is_beside (enters who i f) = false
is_beside x = true

module _ {K : Type 0} {stores : Stores K} where
  pub went_still : {d e : Served K} → e.node ≡ d.node → e.core ≡ d.core → Went stores d [] e
  went_still node core = record { steps = node; walks = record { groups = []; are = refl; walks = core } }

  -- a deed that is no input is nothing to the node
  pub went_beside : {d e : Served K} {ds : List Deed} (x : Deed) → is_beside x ≡ true → Went stores d ds e → Went stores d (x ∷ ds) e
  went_beside (enters who i f) h a = absurd cc
  went_beside x h a = record { steps = a.steps; walks = record { groups = a.walks.groups; are = a.walks.are; walks = a.walks.walks } }

-- ---- one thing behind the other

module _ {K : Type 0} where
  -- what is known behind deeds was known between them
  pub knew : (m e : Served K) (xs ys : List Deed) {l : Luck} → Grew m.loop e.loop → Knows l (with_deeds (xs ++ ys) e) → Knows l (with_deeds xs m)
  knew m e xs ys g k = record {
    marks = foretold g k.marks;
    rest = kept ys ++ k.rest;
    fates = k.fates ∙ ap (λ r. r ++ k.rest) (kept_both xs ys) ∙ append_assoc (kept xs) (kept ys) k.rest;
  }

module _ {K : Type 0} {stores : Stores K} where
  pub run_then : {A B C : Chance} {W V : Way} (U : Way) {d m e : Served K} → Run stores A B W d m → Run stores B C V m e
      → ((l : Luck) (before xs zs : List Deed) → Knows l (with_deeds zs e) → B l.marks m.loop → C l.marks e.loop
      → W l (with_deeds before d) (with_deeds xs m) → V l (with_deeds xs m) (with_deeds zs e) → U l (with_deeds before d) (with_deeds zs e))
      → Run stores A C U d e
  run_then U {d} {m} {e} a b join = record {
    deeds = a.deeds ++ b.deeds;
    grew = grew_trans a.grew b.grew;
    went = went_then a.went b.went;
    sure = λ marks f c. a.sure marks (foretold b.grew f) (b.sure marks f c);
    is = λ l before k c.
        let xs : List Deed = before ++ a.deeds in
        let same : xs ++ b.deeds ≡ before ++ (a.deeds ++ b.deeds) = append_assoc before a.deeds b.deeds in
        let k2 : Knows l (with_deeds (xs ++ b.deeds) e) = subst (λ x. Knows l (with_deeds x e)) (sym same) k in
        let there = b.sure l.marks k.marks c in
        subst (λ x. U l (with_deeds before d) (with_deeds x e)) same
        (join l before xs (xs ++ b.deeds) k2 there c (a.is l before (knew m e xs b.deeds b.grew k2) there) (b.is l xs k2 c));
  }

  -- the same, said otherwise
  pub run_as : {A C : Chance} {W : Way} (U : Way) {d e : Served K} → Run stores A C W d e
      → ((l : Luck) (before zs : List Deed) → Knows l (with_deeds zs e) → C l.marks e.loop → W l (with_deeds before d) (with_deeds zs e) → U l (with_deeds before d) (with_deeds zs e))
      → Run stores A C U d e
  run_as U {d} {e} a join = record {
    deeds = a.deeds;
    grew = a.grew;
    went = a.went;
    sure = a.sure;
    is = λ l before k c. join l before (before ++ a.deeds) k c (a.is l before k c);
  }

  -- of the marks before something else is said
  pub run_sure : {A B C : Chance} {W : Way} {d e : Served K} → Run stores A C W d e
      → ((marks : List Mark) → Foretells marks e.loop → C marks e.loop → B marks d.loop) → Run stores B C W d e
  run_sure a sure = record { deeds = a.deeds; grew = a.grew; went = a.went; sure = sure; is = a.is }

  -- or nothing
  pub run_from : {A C : Chance} {W : Way} {d e : Served K} → Run stores A C W d e → Run stores Any C W d e
  run_from a = run_sure a (λ marks f c. tt)

  -- nothing is done
  pub run_still : {A C : Chance} {W : Way} (d : Served K) → ((marks : List Mark) → C marks d.loop → A marks d.loop)
      → ((l : Luck) (before : List Deed) → W l (with_deeds before d) (with_deeds before d)) → Run stores A C W d d
  run_still {W = W} d sure is = record {
    deeds = [];
    grew = grew_still refl refl;
    went = went_none;
    sure = λ marks f c. sure marks c;
    is = λ l before k c. subst (λ b. W l (with_deeds before d) (with_deeds b d)) (sym (append-nil before)) (is l before);
  }

  -- what holds of any marks holds of these
  pub run_any : {A C : Chance} {W : Way} {d e : Served K} → Run stores A Any W d e → Run stores A C W d e
  run_any a = record { deeds = a.deeds; grew = a.grew; went = a.went; sure = λ marks f c. a.sure marks f tt; is = λ l before k c. a.is l before k tt }

  -- The loop alone changes, by what is no deed; of what is lost behind it the caller knows.
  pub at_once : (A C : Chance) (g : State → State) {d m : Served K} {s : Loop} → m ≡ record d { loop = s } → Grew d.loop s → ((marks : List Mark) → Foretells marks s → C marks s → A marks d.loop)
      → ((before : List Deed) → g (with_deeds before d) ≡ record { loop = s; node = d.node; deeds = before }) → Run stores A C (λ l u t. g u ≡ t) d m
  at_once A C g {d} {m} {s} is grew sure same = subst (λ (x : Served K). Run stores A C (λ l u t. g u ≡ t) d x) (sym is) (record {
    deeds = [];
    grew = grew;
    went = went_still refl refl;
    sure = sure;
    is = λ l before k c. same before ∙ ap (λ ds. record { loop = s; node = d.node; deeds = ds }) (sym (append-nil before));
  })

  -- the same, by a deed that is no input
  pub noted : (A C : Chance) (g : State → State) (x : Deed) → is_beside x ≡ true → {d m : Served K} {s : Loop} → m ≡ record d { loop = s } → Grew d.loop s → ((marks : List Mark) → Foretells marks s → C marks s → A marks d.loop)
      → ((before : List Deed) → g (with_deeds before d) ≡ record { loop = s; node = d.node; deeds = before ++ x ∷ [] }) → Run stores A C (λ l u t. g u ≡ t) d m
  noted A C g x h {d} {m} {s} is grew sure same = subst (λ (y : Served K). Run stores A C (λ l u t. g u ≡ t) d y) (sym is) (record {
    deeds = x ∷ [];
    grew = grew;
    went = went_beside x h (went_still refl refl);
    sure = sure;
    is = λ l before k c. same before;
  })
