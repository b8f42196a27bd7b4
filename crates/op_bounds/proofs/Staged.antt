-- What is staged stays in range: after entries more, in whole runs of it, and in its front.
use Rattle.std.proofs.Common.{◌≡◌, ◌≤◌, ◌<◌, ◌+◌, ℕ, zero, suc, Bool, true, eqb, is_some, cond, List, [], ◌∷◌, length, Option, Some, None, refl, sym, ap, ◌∙◌, arith, All}
use Rattle.std.specs.Prelude.{IfSome}
use Rattle.std.specs.Ordering.{nat_cmp}
use Rattle.std.specs.BTreeMap.{insert_entry, is_at}
use Rattle.std.specs.Cmp.{unsigned_ties}
use Rattle.std.proofs.lemmas.Bool.{cond_both, eqb-true, false≢true}
use Rattle.std.proofs.lemmas.List.Elements.{All-nil, All-head, All-tail, All-weaker}
use Rattle.std.proofs.lemmas.Map.Entries.{All-lookup}
use Rattle.op_types.specs.Limits.{positions_end}
use Rattle.op_types.specs.Joinings.{Held, held_at, held_with_entry, held_with, held_run}
use Rattle.op_types.specs.Stages.{front_with, front_up_to}
use Rattle.op_types.specs.RoleStates.{stage_of}
use Rattle.op_types.specs.declared.log.Entry.{Entry}
use Rattle.op_bounds.proofs.Entries.{EntriesIn, no_entries, more_entries, one_entry, rest_entries, each_entries}
use Rattle.op_bounds.proofs.Placed.{put_all, run_all}
use Rattle.op_bounds.proofs.Effects.{StagedIn, StageIn}

-- ---- one entry's place

head_is : (n : ℕ) (x : ℕ × Entry) (xs : Held) → held_at (x ∷ xs) n ≡ cond (eqb n x.0) (Some x.1) (held_at xs n)
head_is n x xs = ap (λ (b : Bool). cond b (Some x.1) (held_at xs n)) (sym (unsigned_ties n x.0))

module _ (Known : ℕ → Type 0) (conf : ℕ) where
  -- the entry of this configuration
  abbrev IsOne : Entry → Type 0
  IsOne e = EntriesIn Known conf (e ∷ [])

  one_staged : (xs : Held) (n : ℕ) (e : Entry) → All (StagedIn Known conf) xs → n < positions_end → IsOne e → All (StagedIn Known conf) (held_with_entry xs n e)
  one_staged xs n e each lt one =
      cond_both (is_some (held_at xs n)) xs (insert_entry nat_cmp xs n e) (All (StagedIn Known conf)) (λ _. each)
      (λ _. put_all (StagedIn Known conf) n e xs each (record { at = lt; entry = one }))

  -- entries from a position on are staged
  pub more_staged : (xs : Held) (at : ℕ) (es : List Entry) → All (StagedIn Known conf) xs → at + length es ≤ positions_end → EntriesIn Known conf es → All (StagedIn Known conf) (held_with xs at es)
  more_staged xs at [] each ends fit = each
  more_staged xs at (e ∷ es) each ends fit =
      more_staged (held_with_entry xs at e) (at + 1) es (one_staged xs at e each (omega (arith, ends)) (one_entry Known conf e es fit)) (omega (arith, ends)) (rest_entries Known conf e es fit)

  entries_staged : (xs : Held) → All (StagedIn Known conf) xs → All (λ x. IsOne x.1) xs
  entries_staged xs each = All-weaker (StagedIn Known conf) (λ x. IsOne x.1) (λ x k. k.entry) xs each

  -- a whole run of it
  pub run_staged : (xs : Held) (at count : ℕ) (es : List Entry) → All (StagedIn Known conf) xs → held_run xs at count ≡ Some es → (length es ≡ count) × EntriesIn Known conf es
  run_staged xs at count es each is =
      let run = run_all IsOne xs (entries_staged xs each) at count es is in (run.0, each_entries Known conf es run.1)

  -- ---- its front

  staged_below : (xs : Held) (n : ℕ) → All (StagedIn Known conf) xs → is_some (held_at xs n) ≡ true → n < positions_end
  staged_below [] n each h = absurd (false≢true h)
  staged_below (x ∷ xs) n each h =
      cond_both (eqb n x.0) (Some x.1) (held_at xs n) (λ (o : Option Entry). is_some o ≡ true → n < positions_end)
      (λ c _. omega (arith, eqb-true n x.0 c, (All-head (StagedIn Known conf) x xs each).at))
      (λ _ k. staged_below xs n (All-tail (StagedIn Known conf) x xs each) k)
      (ap (λ (o : Option Entry). is_some o) (sym (head_is n x xs)) ∙ h)

  pub front_ends : (xs : Held) (most at : ℕ) → All (StagedIn Known conf) xs → at ≤ positions_end → at + length (front_up_to most xs at) ≤ positions_end
  front_ends xs zero at each le = omega (arith, le)
  front_ends xs (suc most) at each le = by (held_at xs at) (staged_below xs at each) (λ lt. front_ends xs most (at + 1) each (omega (arith, lt)))
    where
      by : (o : Option Entry) → (is_some o ≡ true → at < positions_end) → (at < positions_end → at + 1 + length (front_up_to most xs (at + 1)) ≤ positions_end)
          → at + length (front_with o (front_up_to most xs (at + 1))) ≤ positions_end
      by None below rest = omega (arith, le)
      by (Some e) below rest = omega (arith, rest (below refl))

  pub front_in : (xs : Held) (most at : ℕ) → All (StagedIn Known conf) xs → EntriesIn Known conf (front_up_to most xs at)
  front_in xs zero at each = no_entries Known conf
  front_in xs (suc most) at each = by (held_at xs at) (All-lookup IsOne (is_at (nat_cmp at)) xs (entries_staged xs each)) (front_in xs most (at + 1) each)
    where
      by : (o : Option Entry) → IfSome o IsOne → EntriesIn Known conf (front_up_to most xs (at + 1)) → EntriesIn Known conf (front_with o (front_up_to most xs (at + 1)))
      by None one rest = no_entries Known conf
      by (Some e) one rest = more_entries Known conf e (front_up_to most xs (at + 1)) one rest

  -- ---- stages of senders

  pub stage_found : (stages : List (ℕ × Held)) (q : ℕ) → All (StageIn Known conf) stages → All (StagedIn Known conf) (stage_of stages q)
  stage_found [] q each = All-nil (StagedIn Known conf)
  stage_found (s ∷ stages) q each =
      cond_both (eqb s.0 q) s.1 (stage_of stages q) (All (StagedIn Known conf)) (λ _. (All-head (StageIn Known conf) s stages each).staged)
      (λ _. stage_found stages q (All-tail (StageIn Known conf) s stages each))
