-- No peer so far has an id.
use Rattle.std.proofs.Common.{◌≡◌, ℕ, zero, suc, ◌+◌, ◌<◌, List, [], ◌∷◌, ◌++◌, length, take, get_or, ap, ◌∙◌, subst, ⊎_elim, arith}
use Rattle.std.specs.Prelude.{Contains}
use Rattle.std.specs.Map.{keys_of}
use Rattle.std.proofs.lemmas.List.{take_more, map-append}
use Rattle.std.proofs.lemmas.List.Elements.{Contains-append_cases}
use Rattle.op_outside.specs.declared.net.Addr.{Addr}

-- none of these has the id
abbrev pub Lacks : List (ℕ × Addr) → ℕ → Type 0
Lacks peers id = Contains (keys_of peers) id → ⊥

pub lacks_none : (id : ℕ) → Lacks [] id
lacks_none id there = absurd (omega (arith, there.1))

one : (a id : ℕ) → Contains (a ∷ []) id → a ≡ id
one a id (zero, lt, is) = is
one a id (suc k, lt, is) = absurd (omega (arith, lt))

pub lacks_more : (peers : List (ℕ × Addr)) (i id : ℕ) (d : ℕ × Addr) → i < length peers → ((get_or peers i d).0 ≡ id → ⊥) → Lacks (take i peers) id → Lacks (take (i + 1) peers) id
lacks_more peers i id d within differs before there =
    let parts : keys_of (take (i + 1) peers) ≡ keys_of (take i peers) ++ (get_or peers i d).0 ∷ [] =
    ap keys_of (take_more peers i d within) ∙ map-append (λ (e : ℕ × Addr). e.0) (take i peers) (get_or peers i d ∷ []) in
    ⊎_elim before (λ (h : Contains ((get_or peers i d).0 ∷ []) id). differs (one (get_or peers i d).0 id h))
    (Contains-append_cases (keys_of (take i peers)) ((get_or peers i d).0 ∷ []) id (subst (λ (ks : List ℕ). Contains ks id) parts there))
