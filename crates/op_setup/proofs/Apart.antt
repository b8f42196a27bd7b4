-- Whether two lists of ids share one, by a test of each.
use Rattle.std.proofs.Common.{◌≡◌, ℕ, Bool, true, false, List, [], ◌∷◌, nat_eq, refl, sym, ◌∙◌, subst, inl, inr}
use Rattle.std.specs.List.{list_any}
use Rattle.std.specs.Set.{is_member}
use Rattle.std.proofs.lemmas.Bool.{cases_eq, or_parts, or_left, or_right, eq-eqb, ne_eqb, false≢true}
use Rattle.op_types.specs.Ranges.{IsMember}

-- ids of which none is found among the others
pub apart_from : (ms ids : List ℕ) → list_any (λ x. is_member nat_eq ms x) ids ≡ false → (id : ℕ) → IsMember ids id → IsMember ms id → ⊥
apart_from ms [] none id h there = absurd (false≢true h)
apart_from ms (x ∷ ids) none id h there =
    let both = or_parts (is_member nat_eq ms x) (list_any (λ y. is_member nat_eq ms y) ids) none in
    elim (cases_eq x id) [
      | inl same ↦ (let P : ℕ → Type 0 = λ n. is_member nat_eq ms n ≡ false in false≢true (sym (subst P same both.0) ∙ there))
      | inr other ↦ (let past : nat_eq id x ≡ false = ne_eqb id x (λ e. other (sym e)) in apart_from ms ids both.1 id (rw past at h) there)
    ]

-- the first one is found there, or one behind it
shared_at : (ms : List ℕ) (x : ℕ) (ids : List ℕ) (b : Bool) → is_member nat_eq ms x ≡ b → list_any (λ y. is_member nat_eq ms y) (x ∷ ids) ≡ true
    → (list_any (λ y. is_member nat_eq ms y) ids ≡ true → (id : ℕ) × IsMember ids id × IsMember ms id) → (id : ℕ) × IsMember (x ∷ ids) id × IsMember ms id
shared_at ms x ids true there some behind = (x, or_left (nat_eq x x) (is_member nat_eq ids x) (eq-eqb x x refl), there)
shared_at ms x ids false none some behind =
    let found = behind (rw none at some) in
    (found.0, or_right (nat_eq found.0 x) (is_member nat_eq ids found.0) found.1, found.2)

-- ids of which one is found there share it
pub shared_from : (ms ids : List ℕ) → list_any (λ x. is_member nat_eq ms x) ids ≡ true → (id : ℕ) × IsMember ids id × IsMember ms id
shared_from ms [] some = absurd (false≢true some)
shared_from ms (x ∷ ids) some = shared_at ms x ids (is_member nat_eq ms x) refl some (shared_from ms ids)
