-- Changes that cut a log and add to it: what they make of a part, and that they fit it.
use Rattle.std.proofs.Common.{◌≡◌, ◌≤◌, ◌+◌, ◌-◌, ℕ, ltb, List, [], ◌∷◌, ◌++◌, length, take, refl, sym, ap, ◌∙◌, subst, arith, length-append, append-nil, take_all}
use Rattle.std.proofs.lemmas.Bool.{cond_both, ltb-true, ltb-false}
use Rattle.std.proofs.lemmas.List.{length-take-le}
use Rattle.op_types.specs.Limits.{positions_end}
use Rattle.op_types.specs.Changes.{len_of, part_with_log}
use Rattle.op_types.specs.declared.ballot.Ballot.{Ballot}
use Rattle.op_types.specs.declared.log.Entry.{Entry}
use Rattle.op_types.specs.declared.durable.Part.{Part}
use Rattle.op_types.specs.declared.changes.Change.{Change}
use Rattle.op_types.specs.declared.changes.Change.TheVariants as change
use Rattle.op_protocol.specs.Parts.{part_after, part_in_round, cutting, appending}
use Rattle.op_bounds.specs.Messages.{BallotOf}
use Rattle.op_bounds.proofs.Entries.{EntriesIn}
use Rattle.op_bounds.proofs.Batches.{BatchFits, fits_both, part_after-both}

-- ---- what they make

after_appending : (p : Part) (es : List Entry) → part_after p (appending es) ≡ part_with_log p (p.tail.items ++ es)
after_appending p [] = ap (part_with_log p) (sym (append-nil p.tail.items))
after_appending p (e ∷ es) = refl

after_cutting : (p : Part) (x : ℕ) → part_after p (cutting p x) ≡ part_with_log p (take (x - p.trimmed) p.tail.items)
after_cutting p x =
    cond_both (ltb x (len_of p)) (change.CutTo x ∷ []) [] (λ (b : List Change). part_after p b ≡ part_with_log p (take (x - p.trimmed) p.tail.items))
    (λ h. refl)
    (λ h. ap (part_with_log p) (sym (take_all (x - p.trimmed) p.tail.items (omega (arith, ltb-false x (len_of p) h)))))

-- entries in the place of all from a position on
after_log : (p : Part) (x : ℕ) (es : List Entry) → part_after p (cutting p x ++ appending es) ≡ part_with_log p (take (x - p.trimmed) p.tail.items ++ es)
after_log p x es = part_after-both p (cutting p x) (appending es) ∙ ap (λ (q : Part). part_after q (appending es)) (after_cutting p x) ∙ after_appending (part_with_log p (take (x - p.trimmed) p.tail.items)) es

-- the same, and others after them, in the round of a ballot
pub after_adopting : (p : Part) (x : ℕ) (es more : List Entry) (n : Ballot)
    → part_after p (cutting p x ++ appending es ++ appending more ++ change.Accept n ∷ []) ≡ part_in_round p n ((take (x - p.trimmed) p.tail.items ++ es) ++ more)
after_adopting p x es more n =
    part_after-both p (cutting p x ++ appending es ++ appending more) (change.Accept n ∷ [])
    ∙ ap (λ (q : Part). record q { accepted = n })
    (part_after-both p (cutting p x ++ appending es) (appending more)
    ∙ ap (λ (q : Part). part_after q (appending more)) (after_log p x es)
    ∙ after_appending (part_with_log p (take (x - p.trimmed) p.tail.items ++ es)) more)

pub len_after_log : (p : Part) (x : ℕ) (es : List Entry) → p.trimmed ≤ x → x ≤ len_of p → p.trimmed + length (take (x - p.trimmed) p.tail.items ++ es) ≡ x + length es
len_after_log p x es low high =
    omega (arith, length-append (take (x - p.trimmed) p.tail.items) es, length-take-le (x - p.trimmed) p.tail.items (omega (arith, high)))

-- ---- that they fit

pub fits_appending : (Known : ℕ → Type 0) (p : Part) (es : List Entry) → len_of p + length es ≤ positions_end → EntriesIn Known p.conf es → BatchFits Known p (appending es)
fits_appending Known p [] ends each = tt
fits_appending Known p (e ∷ es) ends each = ((ends, each), tt)

fits_cutting : (Known : ℕ → Type 0) (p : Part) (x : ℕ) → p.decided ≤ x → BatchFits Known p (cutting p x)
fits_cutting Known p x low =
    cond_both (ltb x (len_of p)) (change.CutTo x ∷ []) [] (λ (b : List Change). BatchFits Known p b) (λ h. let l = ltb-true x (len_of p) h in ((low, omega arith), tt)) (λ h. tt)

-- a place that isn't trimmed, and isn't decided beyond
pub fits_log : (Known : ℕ → Type 0) (p : Part) (x : ℕ) (es : List Entry) → p.trimmed ≤ p.decided → p.decided ≤ x → x ≤ len_of p → x + length es ≤ positions_end → EntriesIn Known p.conf es
    → BatchFits Known p (cutting p x ++ appending es)
fits_log Known p x es first low high ends each =
    fits_both Known p (cutting p x) (appending es) (fits_cutting Known p x low)
    (subst (λ (q : Part). BatchFits Known q (appending es)) (sym (after_cutting p x))
    (fits_appending Known (part_with_log p (take (x - p.trimmed) p.tail.items)) es (omega (arith, ends, high, length-take-le (x - p.trimmed) p.tail.items (omega (arith, high)))) each))

pub fits_accepting : (Known : ℕ → Type 0) (p : Part) (batch : List Change) (n : Ballot) → BatchFits Known p batch → BallotOf Known n → BatchFits Known p (batch ++ change.Accept n ∷ [])
fits_accepting Known p batch n fit of = fits_both Known p batch (change.Accept n ∷ []) fit (of, tt)

pub fits_adopting : (Known : ℕ → Type 0) (p : Part) (x : ℕ) (es more : List Entry) (n : Ballot) → p.trimmed ≤ p.decided → p.decided ≤ x → x ≤ len_of p
    → x + length es + length more ≤ positions_end → EntriesIn Known p.conf es → EntriesIn Known p.conf more → BallotOf Known n
    → BatchFits Known p (cutting p x ++ appending es ++ appending more ++ change.Accept n ∷ [])
fits_adopting Known p x es more n first low high ends each others of =
    fits_accepting Known p (cutting p x ++ appending es ++ appending more) n
    (fits_both Known p (cutting p x ++ appending es) (appending more) (fits_log Known p x es first low high (omega (arith, ends)) each)
    (subst (λ (q : Part). BatchFits Known q (appending more)) (sym (after_log p x es))
    (fits_appending Known (part_with_log p (take (x - p.trimmed) p.tail.items ++ es)) more (omega (arith, ends, len_after_log p x es (omega arith) high)) others)))
    of

-- ---- how many they are

pub few_appending : (es : List Entry) → length (appending es) ≤ 1
few_appending [] = omega arith
few_appending (e ∷ es) = omega arith

pub few_cutting : (p : Part) (x : ℕ) → length (cutting p x) ≤ 1
few_cutting p x = cond_both (ltb x (len_of p)) (change.CutTo x ∷ []) [] (λ (b : List Change). length b ≤ 1) (λ _. omega arith) (λ _. omega arith)
