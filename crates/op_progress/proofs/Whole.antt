-- All members hear one another where all links between them work.
use Rattle.std.proofs.Common.{◌≡◌, ◌≤◌, ◌*◌, ⊎_elim, ◌||◌, ◌&&◌, ℕ, Bool, true, false, cond, eqb, ltb, nat_eq, List, [], ◌∷◌, ◌++◌, length, filter, refl, sym, ap, ◌∙◌, subst, arith}
use Rattle.std.proofs.lemmas.Bool.{eqb-true, eq-eqb, or_left, or_right, or_cases, and_parts, and_from, false≢true, lt-ltb}
use Rattle.std.specs.Set.{is_member}
use Rattle.op_types.specs.Ranges.{MembersInRange}
use Rattle.op_quorum.specs.Quorums.{is_majority}
use Rattle.op_gen.specs.Links.{Links, joins, is_linked, links_from, all_links}
use Rattle.op_lockstep.specs.Reach.{IsOneOf}
use Rattle.op_lockstep.proofs.Lists.{Each, each_member}
use Rattle.op_progress.specs.Progress.{HearOneAnother, AllAgree}
use Rattle.op_progress.proofs.Behind.{linked_back}
use Rattle.op_progress.proofs.Settling.{majorities_agree}

-- ---- links
or_each : (a b c : Bool) → ((a || b) || c) ≡ (a || (b || c))
or_each true b c = refl
or_each false b c = refl

linked_append : (a c : Links) (p q : ℕ) → is_linked (a ++ c) p q ≡ (is_linked a p q || is_linked c p q)
linked_append [] c p q = refl
linked_append (l ∷ a) c p q = ap (λ (b : Bool). joins l p q || b) (linked_append a c p q) ∙ sym (or_each (joins l p q) (is_linked a p q) (is_linked c p q))

linked_from : (p : ℕ) (qs : List ℕ) (q : ℕ) → IsOneOf qs q → is_linked (links_from p qs) p q ≡ true
linked_from p [] q m = absurd (false≢true m)
linked_from p (x ∷ qs) q m =
    ⊎_elim
    (λ (e : eqb q x ≡ true). or_left (joins (p, x) p q) (is_linked (links_from p qs) p q) (or_left (eqb p p && eqb x q) (eqb p q && eqb x p) (and_from (eqb p p) (eqb x q) (eq-eqb p p refl) (eq-eqb x q (sym (eqb-true q x e))))))
    (λ (k : is_member nat_eq qs q ≡ true). or_right (joins (p, x) p q) (is_linked (links_from p qs) p q) (linked_from p qs q k))
    (or_cases (eqb q x) (is_member nat_eq qs q) m)

-- who is linked by them is among these
from_these : (x : ℕ) (xs : List ℕ) (p q : ℕ) → is_linked (links_from x xs) p q ≡ true → IsOneOf (x ∷ xs) q
from_these x [] p q l = absurd (false≢true l)
from_these x (y ∷ xs) p q l =
    ⊎_elim
    (λ (j : joins (x, y) p q ≡ true). ⊎_elim
    (λ (e : (eqb x p && eqb y q) ≡ true). or_right (eqb q x) (is_member nat_eq (y ∷ xs) q) (or_left (eqb q y) (is_member nat_eq xs q) (eq-eqb q y (sym (eqb-true y q (and_parts (eqb x p) (eqb y q) e).1)))))
    (λ (e : (eqb x q && eqb y p) ≡ true). or_left (eqb q x) (is_member nat_eq (y ∷ xs) q) (eq-eqb q x (sym (eqb-true x q (and_parts (eqb x q) (eqb y p) e).0))))
    (or_cases (eqb x p && eqb y q) (eqb x q && eqb y p) j))
    (λ (k : is_linked (links_from x xs) p q ≡ true). ⊎_elim
    (λ (e : eqb q x ≡ true). or_left (eqb q x) (is_member nat_eq (y ∷ xs) q) e)
    (λ (m : is_member nat_eq xs q ≡ true). or_right (eqb q x) (is_member nat_eq (y ∷ xs) q) (or_right (eqb q y) (is_member nat_eq xs q) m))
    (or_cases (eqb q x) (is_member nat_eq xs q) (from_these x xs p q k)))
    (or_cases (joins (x, y) p q) (is_linked (links_from x xs) p q) l)

all_apart : (ms : List ℕ) (p q : ℕ) → is_linked (all_links ms) p q ≡ true → IsOneOf ms q
all_apart [] p q l = absurd (false≢true l)
all_apart (x ∷ xs) p q l =
    ⊎_elim (λ (k : is_linked (links_from x xs) p q ≡ true). from_these x xs p q k)
    (λ (k : is_linked (all_links xs) p q ≡ true). or_right (eqb q x) (is_member nat_eq xs q) (all_apart xs p q k))
    (or_cases (is_linked (links_from x xs) p q) (is_linked (all_links xs) p q) (sym (linked_append (links_from x xs) (all_links xs) p q) ∙ l))

all_linked : (ms : List ℕ) (p q : ℕ) → IsOneOf ms p → IsOneOf ms q → (p ≡ q → ⊥) → is_linked (all_links ms) p q ≡ true
all_linked [] p q m k other = absurd (false≢true m)
all_linked (x ∷ xs) p q m k other =
    linked_append (links_from x xs) (all_links xs) p q
    ∙ ⊎_elim
    (λ (e : eqb p x ≡ true). or_left (is_linked (links_from x xs) p q) (is_linked (all_links xs) p q) (subst (λ (y : ℕ). is_linked (links_from x xs) y q ≡ true) (sym (eqb-true p x e)) (linked_from x xs q (rest q k (λ d. other (eqb-true p x e ∙ sym d))))))
    (λ (n : is_member nat_eq xs p ≡ true). ⊎_elim
    (λ (e : eqb q x ≡ true). or_left (is_linked (links_from x xs) p q) (is_linked (all_links xs) p q)
    (subst (λ (y : ℕ). is_linked (links_from x xs) p y ≡ true) (sym (eqb-true q x e)) (linked_back (links_from x xs) p x ∙ linked_from x xs p n)))
    (λ (o : is_member nat_eq xs q ≡ true). or_right (is_linked (links_from x xs) p q) (is_linked (all_links xs) p q) (all_linked xs p q n o other))
    (or_cases (eqb q x) (is_member nat_eq xs q) k))
    (or_cases (eqb p x) (is_member nat_eq xs p) m)
  where
    rest : (q : ℕ) → IsOneOf (x ∷ xs) q → (q ≡ x → ⊥) → IsOneOf xs q
    rest q k apart = ⊎_elim (λ (e : eqb q x ≡ true). absurd (apart (eqb-true q x e))) (λ (o : is_member nat_eq xs q ≡ true). o) (or_cases (eqb q x) (is_member nat_eq xs q) k)

-- ---- a majority
all_pass : (f : ℕ → Bool) (xs : List ℕ) → Each (λ x. f x ≡ true) xs → filter f xs ≡ xs
all_pass f [] e = refl
all_pass f (x ∷ xs) e = ap (λ (b : Bool). cond b (x ∷ filter f xs) (filter f xs)) e.0 ∙ ap (λ (l : List ℕ). x ∷ l) (all_pass f xs e.1)

more_than_half : (n : ℕ) → 1 ≤ n → ltb n (2 * n) ≡ true
more_than_half n some = lt-ltb n (2 * n) (omega (arith, some))

pub all_hear : (members : List ℕ) → MembersInRange members → HearOneAnother members (all_links members) members
all_hear members range =
    record {
      all_members = λ q m. m;
      rising = (range).rising;
      majority = ap (λ (l : List ℕ). is_majority (length l) (length members)) (all_pass (is_member nat_eq members) members (each_member members)) ∙ more_than_half (length members) (range).some;
      linked = λ p q m k other. all_linked members p q m k other;
      apart = λ p q m l. all_apart members p q l;
    }

pub all_agree : AllAgree
all_agree members spares range early quiet ups hs rounds = majorities_agree members spares range early quiet (all_links members) members ups (all_hear members range) hs rounds
