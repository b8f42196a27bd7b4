-- The promises that a node keeps while it prepares a ballot: one more takes the place of no other one's, and a Promise that can be
-- adopted is kept.
use Rattle.std.proofs.Common.{◌≡◌, ◌≤◌, ◌*◌, ◌&&◌, ◌||◌, not, ℕ, suc, Bool, true, false, cond, eqb, nat_eq, is_some, List, [], ◌∷◌, ◌++◌, length, filter, Some, None, refl, sym, ap, ◌∙◌, subst, arith}
use Rattle.std.proofs.lemmas.Bool.{eqb-true, eqb-false, eq-eqb, ne_eqb, and_from, false≢true, lt-ltb, ltb-true}
use Rattle.std.specs.Set.{is_member}
use Rattle.op_quorum.specs.Quorums.{is_majority, passing}
use Rattle.op_types.specs.Ballots.{is_same_ballot}
use Rattle.op_types.specs.RoleStates.{promise_of, promises_with, with_promise}
use Rattle.op_types.specs.Roles as role
use Rattle.op_types.specs.Roles.{Role}
use Rattle.op_types.specs.declared.ballot.Ballot.{Ballot}
use Rattle.op_types.specs.declared.durable.Part.{Part}
use Rattle.op_types.specs.declared.role.Promised.{Promised}
use Rattle.op_protocol.specs.Parts.{nothing}
use Rattle.op_protocol.specs.Promises.{is_usable}
use Rattle.op_protocol.specs.Leader.{prepares, on_promise}
use Rattle.op_lockstep.specs.Reach.{IsOneOf}
use Rattle.op_lockstep.proofs.Lists.{by_test}
use Rattle.op_progress.specs.Progress.{HasPromise, IsLed}
use Rattle.op_progress.proofs.Rows.{Claim, IsKept, RoleIn, only, waiting, prepares_in, promise_in}

-- ---- a promise more
found_last : (ps : List Promised) (j : Promised) → is_some (promise_of (ps ++ j ∷ []) j.from) ≡ true
found_last [] j = ap (λ (b : Bool). is_some (cond b (Some j) None)) (eq-eqb j.from j.from refl)
found_last (k ∷ ps) j = by_test (eqb k.from j.from) (λ (b : Bool). is_some (cond b (Some k) (promise_of (ps ++ j ∷ []) j.from)) ≡ true) (λ _. refl) (λ _. found_last ps j)

still_found : (ps : List Promised) (j : Promised) (q : ℕ) → (q ≡ j.from → ⊥) → is_some (promise_of ps q) ≡ true → is_some (promise_of (promises_with ps j) q) ≡ true
still_found [] j q other h = absurd (false≢true h)
still_found (k ∷ ps) j q other h = by_from (eqb k.from j.from) refl (λ g. still_found ps j q other g)
  where
    by_from : (b : Bool) → eqb k.from j.from ≡ b → (is_some (promise_of ps q) ≡ true → is_some (promise_of (promises_with ps j) q) ≡ true) → is_some (promise_of (filter (λ (x : Promised). not (eqb x.from j.from)) (k ∷ ps) ++ j ∷ []) q) ≡ true
    by_from true e again =
        let apart : eqb k.from q ≡ false = ne_eqb k.from q (λ s. other (sym s ∙ eqb-true k.from j.from e)) in
        let there : is_some (promise_of ps q) ≡ true = sym (ap (λ (b : Bool). is_some (cond b (Some k) (promise_of ps q))) apart) ∙ h in
        ap (λ (b : Bool). is_some (promise_of (cond (not b) (k ∷ filter (λ (x : Promised). not (eqb x.from j.from)) ps) (filter (λ (x : Promised). not (eqb x.from j.from)) ps) ++ j ∷ []) q)) e ∙ again there
    by_from false e again =
        ap (λ (b : Bool). is_some (promise_of (cond (not b) (k ∷ filter (λ (x : Promised). not (eqb x.from j.from)) ps) (filter (λ (x : Promised). not (eqb x.from j.from)) ps) ++ j ∷ []) q)) e
        ∙ by_test (eqb k.from q) (λ (b : Bool). is_some (cond b (Some k) (promise_of ps q)) ≡ true → is_some (cond b (Some k) (promise_of (filter (λ (x : Promised). not (eqb x.from j.from)) ps ++ j ∷ []) q)) ≡ true)
        (λ _ _. refl) (λ _ g. again g) h

found_with : (ps : List Promised) (j : Promised) (q : ℕ) → is_some (promise_of ps q) ≡ true → is_some (promise_of (promises_with ps j) q) ≡ true
found_with ps j q h =
    by_test (eqb q j.from) (λ (b : Bool). eqb q j.from ≡ b → is_some (promise_of (promises_with ps j) q) ≡ true)
    (λ _ e. subst (λ (x : ℕ). is_some (promise_of (promises_with ps j) x) ≡ true) (sym (eqb-true q j.from e)) (found_last (filter (λ (x : Promised). not (eqb x.from j.from)) ps) j))
    (λ _ e. still_found ps j q (eqb-false q j.from e) h) refl

-- ---- the claim
-- this ballot is led, or prepared with this one's promise
abbrev pub keeping : ℕ → Ballot → Claim
keeping q b =
    record { idle = ⊥; preparing = λ x ps. (x ≡ b) × (is_some (promise_of ps q) ≡ true); leading = λ x. x ≡ b; asked = λ x. x ≡ b; told = λ x. Unit {0} }

pub keeping_kept : (q : ℕ) (b : Ballot) (me : ℕ) (members : List ℕ) → IsKept me members (keeping q b)
keeping_kept q b me members =
    record { asks = λ x ps k. k.0; asks_leading = λ x k. k; grows = λ x ps j k _. (k.0, found_with ps j q k.1); leads = λ x ps j k _. k.0 }

pub has_promise : (b : Ballot) (q : ℕ) (r : Role) → RoleIn (keeping q b) r → HasPromise b q r
has_promise b q role.Idle k = k
has_promise b q (role.Preparing r) k = k
has_promise b q (role.Leading l) k = k

pub of_promise : (b : Ballot) (q : ℕ) (r : Role) → HasPromise b q r → RoleIn (keeping q b) r
of_promise b q role.Idle k = k
of_promise b q (role.Preparing r) k = k
of_promise b q (role.Leading l) k = k

-- ---- a Promise that comes
same_ballot : (b : Ballot) → is_same_ballot b b ≡ true
same_ballot b = and_from (eqb b.number b.number) (eqb b.pid b.pid) (eq-eqb b.number b.number refl) (eq-eqb b.pid b.pid refl)

pub promise_comes : (me : ℕ) (p : Part) (r : Role) (b : Ballot) (j : Promised) → is_usable p j ≡ true → RoleIn (only b) r → RoleIn (keeping j.from b) (on_promise me p r b j).role
promise_comes me p role.Idle b j may k = absurd k
promise_comes me p (role.Preparing r) b j may k =
    let P : Claim = keeping j.from b in
    let there : is_some (promise_of (promises_with r.promises j) j.from) ≡ true = found_last (filter (λ (x : Promised). not (eqb x.from j.from)) r.promises) j in
    let counts : (is_same_ballot b r.ballot && is_usable p j) ≡ true = and_from (is_same_ballot b r.ballot) (is_usable p j) (ap (λ (x : Ballot). is_same_ballot b x) k ∙ same_ballot b) may in
    subst (λ (t : Bool). RoleIn P (cond t (prepares me p (with_promise r j)) (nothing (role.Preparing r))).role) (sym counts) (prepares_in P me p (with_promise r j) k (λ _. k) (λ _. (k, there))).role
promise_comes me p (role.Leading l) b j may k = (promise_in (keeping j.from b) me p (role.Leading l) b j (keeping_kept j.from b me p.members) k).role

-- ---- a majority of promises
more_pass : (f g : ℕ → Bool) → ((q : ℕ) → f q ≡ true → g q ≡ true) → (xs : List ℕ) → length (filter f xs) ≤ length (filter g xs)
more_pass f g h [] = omega arith
more_pass f g h (x ∷ xs) =
    by_test (f x) (λ (b : Bool). f x ≡ b → length (cond b (x ∷ filter f xs) (filter f xs)) ≤ length (cond (g x) (x ∷ filter g xs) (filter g xs)))
    (λ _ e. subst (λ (b : Bool). suc (length (filter f xs)) ≤ length (cond b (x ∷ filter g xs) (filter g xs))) (sym (h x e)) (one_more (length (filter f xs)) (length (filter g xs)) (more_pass f g h xs)))
    (λ _ _. by_test (g x) (λ (b : Bool). length (filter f xs) ≤ length (cond b (x ∷ filter g xs) (filter g xs))) (λ _. later (length (filter f xs)) (length (filter g xs)) (more_pass f g h xs)) (λ _. more_pass f g h xs)) refl
  where
    one_more : (a b : ℕ) → a ≤ b → suc a ≤ suc b
    one_more a b h = omega (arith, h)

    later : (a b : ℕ) → a ≤ b → a ≤ suc b
    later a b h = omega (arith, h)

more_votes : (a b n : ℕ) → a ≤ b → is_majority a n ≡ true → is_majority b n ≡ true
more_votes a b n le m = lt-ltb n (2 * b) (omega (arith, le, ltb-true n (2 * a) m))

-- who keeps the promises of all others of a majority, and waits for none of its own, leads
pub leads_then : (members group : List ℕ) → is_majority (passing (λ q. is_member nat_eq group q) members) (length members) ≡ true → (s : ℕ) (b : Ballot) (r : Role) → RoleIn (only b) r → RoleIn (waiting s members) r
    → ((q : ℕ) → IsOneOf group q → (q ≡ s → ⊥) → HasPromise b q r) → IsLed b r
leads_then members group majority s b role.Idle k waits has = absurd k
leads_then members group majority s b (role.Leading l) k waits has = k
leads_then members group majority s b (role.Preparing r) k waits has =
    absurd (false≢true (sym waits ∙ more_votes (length (filter (is_member nat_eq group) members)) (length (filter (λ q. eqb q s || is_some (promise_of r.promises q)) members)) (length members)
    (more_pass (is_member nat_eq group) (λ q. eqb q s || is_some (promise_of r.promises q)) counted members) majority))
  where
    counted : (q : ℕ) → is_member nat_eq group q ≡ true → (eqb q s || is_some (promise_of r.promises q)) ≡ true
    counted q m =
        by_test (eqb q s) (λ (t : Bool). eqb q s ≡ t → (t || is_some (promise_of r.promises q)) ≡ true) (λ _ _. refl) (λ _ e. (has q m (eqb-false q s e)).1) refl
