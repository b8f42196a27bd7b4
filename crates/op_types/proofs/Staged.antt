-- What came of promises that come in parts, with its room and without.
use Rattle.std.proofs.Common.{◌≡◌, ℕ, suc, ◌+◌, ◌<◌, ◌≤◌, Bool, true, false, cond, not, is_some, eqb, List, [], ◌∷◌, ◌++◌, length, get_or, map, filter, Option, Some, None, refl, sym, ap, ◌∙◌, arith}
use Rattle.std.specs.List.{remove, position_or_len}
use Rattle.op_types.specs.Roomed.{Roomed}
use Rattle.op_types.specs.Joinings.{Held, held_with}
use Rattle.op_types.specs.declared.log.Entry.{Entry}
use Rattle.op_types.specs.declared.role.Stage.{Stage}
use Rattle.op_types.specs.declared.role.Promised.{Promised}
use Rattle.op_types.specs.declared.role.Preparing as preparing
use Rattle.op_types.specs.declared.runs.PromisedRun.{PromisedRun}
use Rattle.op_types.specs.RoleStates as state
use Rattle.op_types.specs.RoleStates.{promises_with, stage_of, stages_without, with_stage, without_stage, with_promise, told_by, kept_once, promised_entries, staged_with, with_part}
use Rattle.op_types.specs.Roles.{stage_view, stage_or, preparing_of}

-- whether it is a sender's
abbrev pub is_of : ℕ → Stage → Bool
is_of q s = eqb s.from q

-- where a sender's stands
abbrev pub place_of : List Stage → ℕ → ℕ
place_of xs q = position_or_len (is_of q) xs

-- the one at its place is the sender's
pub stage_there : (xs : List Stage) (q : ℕ) (fresh : Roomed (ℕ × Entry)) (s : Stage) → place_of xs q < length xs → (get_or xs (place_of xs q) s).held ≡ stage_or xs q fresh
stage_there [] q fresh s lt = absurd (omega arith)
stage_there (x ∷ xs) q fresh s lt = by (is_of q x) lt (stage_there xs q fresh s)
  where
    by : (b : Bool) → cond (not b) (1 + place_of xs q) 0 < suc (length xs) → (place_of xs q < length xs → (get_or xs (place_of xs q) s).held ≡ stage_or xs q fresh)
        → (get_or (x ∷ xs) (cond (not b) (1 + place_of xs q) 0) s).held ≡ cond b x.held (stage_or xs q fresh)
    by true lt ih = refl
    by false lt ih = let next : 1 + place_of xs q ≡ suc (place_of xs q) = omega arith in ap (λ (k : ℕ). (get_or (x ∷ xs) k s).held) next ∙ ih (omega (arith, lt))

-- none is
pub stage_missing : (xs : List Stage) (q : ℕ) (fresh : Roomed (ℕ × Entry)) → length xs ≤ place_of xs q → fresh ≡ stage_or xs q fresh
stage_missing [] q fresh le = refl
stage_missing (x ∷ xs) q fresh le = by (is_of q x) le (stage_missing xs q fresh)
  where
    by : (b : Bool) → suc (length xs) ≤ cond (not b) (1 + place_of xs q) 0 → (length xs ≤ place_of xs q → fresh ≡ stage_or xs q fresh) → fresh ≡ cond b x.held (stage_or xs q fresh)
    by true le ih = absurd (omega arith)
    by false le ih = ih (omega (arith, le))

-- the others are the same without it
pub others_there : (xs : List Stage) (q : ℕ) → place_of xs q < length xs → filter (λ s. not (is_of q s)) (remove xs (place_of xs q)) ≡ filter (λ s. not (is_of q s)) xs
others_there [] q lt = absurd (omega arith)
others_there (x ∷ xs) q lt = by (is_of q x) refl lt (others_there xs q)
  where
    by : (b : Bool) → is_of q x ≡ b → cond (not b) (1 + place_of xs q) 0 < suc (length xs)
        → (place_of xs q < length xs → filter (λ s. not (is_of q s)) (remove xs (place_of xs q)) ≡ filter (λ s. not (is_of q s)) xs)
        → filter (λ s. not (is_of q s)) (remove (x ∷ xs) (cond (not b) (1 + place_of xs q) 0)) ≡ cond (not b) (x ∷ filter (λ s. not (is_of q s)) xs) (filter (λ s. not (is_of q s)) xs)
    by true e lt ih = refl
    by false e lt ih =
        let next : 1 + place_of xs q ≡ suc (place_of xs q) = omega arith in
        ap (λ (k : ℕ). filter (λ s. not (is_of q s)) (remove (x ∷ xs) k)) next
        ∙ ap (λ (b : Bool). let l : List Stage = filter (λ s. not (is_of q s)) (remove xs (place_of xs q)) in cond (not b) (x ∷ l) l) e
        ∙ ap (λ (l : List Stage). x ∷ l) (ih (omega (arith, lt)))

-- ---- without room

pub view_without : (xs : List Stage) (q : ℕ) → map stage_view (filter (λ s. not (is_of q s)) xs) ≡ stages_without (map stage_view xs) q
view_without [] q = refl
view_without (x ∷ xs) q = by (is_of q x) (view_without xs q)
  where
    by : (b : Bool) → map stage_view (filter (λ s. not (is_of q s)) xs) ≡ stages_without (map stage_view xs) q → map stage_view (cond (not b) (x ∷ filter (λ s. not (is_of q s)) xs) (filter (λ s. not (is_of q s)) xs)) ≡ cond (not b) (stage_view x ∷ stages_without (map stage_view xs) q) (stages_without (map stage_view xs) q)
    by true ih = ih
    by false ih = ap (λ (l : List (ℕ × Held)). stage_view x ∷ l) ih

pub view_stage : (xs : List Stage) (q : ℕ) (fresh : Roomed (ℕ × Entry)) → fresh.items ≡ [] → (stage_or xs q fresh).items ≡ stage_of (map stage_view xs) q
view_stage [] q fresh none = none
view_stage (x ∷ xs) q fresh none = by (is_of q x) (view_stage xs q fresh none)
  where
    by : (b : Bool) → (stage_or xs q fresh).items ≡ stage_of (map stage_view xs) q → (cond b x.held (stage_or xs q fresh)).items ≡ cond b x.held.items (stage_of (map stage_view xs) q)
    by true ih = refl
    by false ih = ih

-- the sender's stage, and the others as they were
pub view_with : (xs : List Stage) (s : Stage) → map stage_view (xs ++ s ∷ []) ≡ map stage_view xs ++ stage_view s ∷ []
view_with [] s = refl
view_with (x ∷ xs) s = ap (λ (l : List (ℕ × Held)). stage_view x ∷ l) (view_with xs s)

-- ---- a part is kept

none_of : (o : Option (List Entry)) → is_some o ≡ false → o ≡ None
none_of None e = refl
none_of (Some es) e = absurd cc

-- what is given out of whole entries is these
pub some_of : (o : Option (List Entry)) (out : List Entry) → is_some o ≡ true → ((es : List Entry) → o ≡ Some es → out ≡ es) → o ≡ Some out
some_of None out e f = absurd cc
some_of (Some es) out e f = ap (λ (l : List Entry). Some l) (sym (f es refl))

-- what came of a promise, with one part more
abbrev pub IsStaged : preparing.Preparing → ℕ → PromisedRun → Roomed (ℕ × Entry) → Roomed (ℕ × Entry) → Type 0
IsStaged r q part fresh held = held.items ≡ held_with (stage_or r.stages.items q fresh).items part.at part.run

staged_is : (r : preparing.Preparing) (q : ℕ) (part : PromisedRun) (fresh held : Roomed (ℕ × Entry)) → fresh.items ≡ [] → IsStaged r q part fresh held → held.items ≡ staged_with (preparing_of r) q part
staged_is r q part fresh held empty is = is ∙ ap (λ (h : Held). held_with h part.at part.run) (view_stage r.stages.items q fresh empty)

kept_is : (r : state.Preparing) (q : ℕ) (part : PromisedRun) (h : Held) (o : Option (List Entry)) → h ≡ staged_with r q part → promised_entries part h ≡ o → kept_once r q part h o ≡ with_part r q part
kept_is r q part h o is whole =
    ap (λ (p : Option (List Entry)). kept_once r q part h p) (sym whole)
    ∙ ap (λ (k : Held). kept_once r q part k (promised_entries part k)) is

-- it is staged, where some is missing
pub part_staged : (r : preparing.Preparing) (q : ℕ) (part : PromisedRun) (fresh held : Roomed (ℕ × Entry)) (stages : Roomed Stage) → fresh.items ≡ [] → IsStaged r q part fresh held
    → (let s : Stage = record { from = q; held = held } in stages.items ≡ filter (λ s. not (is_of q s)) r.stages.items ++ s ∷ [])
    → is_some (promised_entries part held.items) ≡ false
    → (let s : preparing.Preparing = record r { stages = stages } in preparing_of s ≡ with_part (preparing_of r) q part)
part_staged r q part fresh held stages empty is items missing =
    let s : Stage = record { from = q; held = held } in
    let others : List Stage = filter (λ s. not (is_of q s)) r.stages.items in
    let views : map stage_view stages.items ≡ stages_without (map stage_view r.stages.items) q ++ (q, held.items) ∷ [] =
    ap (λ (l : List Stage). map stage_view l) items ∙ view_with others s ∙ ap (λ (l : List (ℕ × Held)). l ++ (q, held.items) ∷ []) (view_without r.stages.items q) in
    ap (λ (l : List (ℕ × Held)). let t : state.Preparing = record (preparing_of r) { stages = l } in t) views
    ∙ kept_is (preparing_of r) q part held.items None (staged_is r q part fresh held empty is) (none_of (promised_entries part held.items) missing)

-- the promise is kept, where all is there
pub part_kept : (r : preparing.Preparing) (q : ℕ) (part : PromisedRun) (fresh held : Roomed (ℕ × Entry)) (stages : Roomed Stage) (promises : Roomed Promised) (entries : List Entry)
    → fresh.items ≡ [] → IsStaged r q part fresh held → stages.items ≡ filter (λ s. not (is_of q s)) r.stages.items
    → promises.items ≡ promises_with r.promises.items (told_by q part entries) → promised_entries part held.items ≡ Some entries
    → (let s : preparing.Preparing = record r { stages = stages; promises = promises } in preparing_of s ≡ with_part (preparing_of r) q part)
part_kept r q part fresh held stages promises entries empty is items kept whole =
    let views : map stage_view stages.items ≡ stages_without (map stage_view r.stages.items) q =
    ap (λ (l : List Stage). map stage_view l) items ∙ view_without r.stages.items q in
    ap (λ (l : List (ℕ × Held)). let t : state.Preparing = record (preparing_of r) { stages = l; promises = promises.items } in t) views
    ∙ ap (λ (l : List Promised). let t : state.Preparing = record (preparing_of r) { stages = stages_without (map stage_view r.stages.items) q; promises = l } in t) kept
    ∙ kept_is (preparing_of r) q part held.items (Some entries) (staged_is r q part fresh held empty is) whole
