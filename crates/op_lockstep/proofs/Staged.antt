-- What is staged has no stop-sign, and so neither has a run of it.
use Rattle.std.proofs.Common.{◌≡◌, ◌+◌, ℕ, zero, suc, Bool, true, cond, eqb, ltb, is_some, List, [], ◌∷◌, filter, Option, Some, None, All}
use Rattle.std.proofs.lemmas.Bool.{cond_both}
use Rattle.std.proofs.lemmas.List.Elements.{All-nil, All-cons, All-head, All-tail}
use Rattle.std.specs.Ordering.{nat_cmp, match_ordering}
use Rattle.std.specs.declared.cmp.Ordering.{Ordering}
use Rattle.std.specs.declared.cmp.Ordering.TheVariants.{Less, Equal, Greater}
use Rattle.std.specs.BTreeMap.{insert_entry, is_at}
use Rattle.op_types.specs.Changes.{IsCommand}
use Rattle.op_types.specs.Joinings.{Held, held_at, held_with_entry, held_with, with_first, held_run}
use Rattle.op_types.specs.Stages.{front_with, front_up_to}
use Rattle.op_types.specs.declared.log.Entry.{Entry}
use Rattle.op_lockstep.proofs.Lists.{Each, Each-more, Each-filter}

-- none of these is a stop-sign
abbrev pub NoStops : List Entry → Type 0
NoStops es = All IsCommand es

-- nor is any that is staged
abbrev pub IsCleanStage : Held → Type 0
IsCleanStage xs = Each (λ x. IsCommand x.1) xs

-- ---- more of them
put_clean : (xs : Held) (n : ℕ) (e : Entry) → IsCleanStage xs → IsCommand e → IsCleanStage (insert_entry nat_cmp xs n e)
put_clean [] n e c k = (k, tt)
put_clean (x ∷ xs) n e c k =
    cond_both (ltb n x.0) Less (cond (eqb n x.0) Equal Greater) (λ (o : Ordering). IsCleanStage (match_ordering o ((n, e) ∷ x ∷ xs) ((x.0, e) ∷ xs) (x ∷ insert_entry nat_cmp xs n e)))
    (λ _. (k, c))
    (λ _. cond_both (eqb n x.0) Equal Greater (λ (o : Ordering). IsCleanStage (match_ordering o ((n, e) ∷ x ∷ xs) ((x.0, e) ∷ xs) (x ∷ insert_entry nat_cmp xs n e)))
    (λ _. (k, c.1)) (λ _. (c.0, put_clean xs n e c.1 k)))

pub stage_clean : (xs : Held) (at : ℕ) (es : List Entry) → IsCleanStage xs → NoStops es → IsCleanStage (held_with xs at es)
stage_clean xs at [] c k = c
stage_clean xs at (e ∷ es) c k =
    stage_clean (held_with_entry xs at e) (at + 1) es
    (cond_both (is_some (held_at xs at)) xs (insert_entry nat_cmp xs at e) IsCleanStage (λ _. c) (λ _. put_clean xs at e c (All-head IsCommand e es k))) (All-tail IsCommand e es k)

-- one that is staged, and a run of them
abbrev pub IfOne : Option Entry → Type 0
IfOne None = Unit {0}
IfOne (Some e) = IsCommand e

pub one_clean : (xs : Held) (n : ℕ) → IsCleanStage xs → IfOne (held_at xs n)
one_clean [] n c = tt
one_clean (x ∷ xs) n c = cond_both (is_at (nat_cmp n) x.0) (Some x.1) (held_at xs n) IfOne (λ _. c.0) (λ _. one_clean xs n c.1)

abbrev pub IfRun : Option (List Entry) → Type 0
IfRun None = Unit {0}
IfRun (Some es) = NoStops es

pub run_clean : (xs : Held) (at count : ℕ) → IsCleanStage xs → IfRun (held_run xs at count)
run_clean xs at zero c = All-nil IsCommand
run_clean xs at (suc count) c = by (held_at xs at) (held_run xs (at + 1) count) (one_clean xs at c) (run_clean xs (at + 1) count c)
  where
    by : (o : Option Entry) (r : Option (List Entry)) → IfOne o → IfRun r → IfRun (with_first o r)
    by None r a b = tt
    by (Some e) None a b = tt
    by (Some e) (Some es) a b = All-cons IsCommand e es a b

pub front_clean : (xs : Held) (most at : ℕ) → IsCleanStage xs → NoStops (front_up_to most xs at)
front_clean xs zero at c = All-nil IsCommand
front_clean xs (suc most) at c = by (held_at xs at) (one_clean xs at c) (front_clean xs most (at + 1) c)
  where
    by : (o : Option Entry) → IfOne o → NoStops (front_up_to most xs (at + 1)) → NoStops (front_with o (front_up_to most xs (at + 1)))
    by None a b = All-nil IsCommand
    by (Some e) a b = All-cons IsCommand e (front_up_to most xs (at + 1)) a b

pub filter_clean : {A : Type 0} (P : A → Type 0) (f : A → Bool) (xs : List A) → Each P xs → Each P (filter f xs)
filter_clean P f xs c = Each-more (λ x. P x × (f x ≡ true)) P (λ x h. h.0) (filter f xs) (Each-filter P f xs c)
