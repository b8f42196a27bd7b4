-- A step that decides a stop-sign leaves a part that can be closed.
use Rattle.std.proofs.Common.{◌≡◌, ℕ, zero, suc, ◌-◌, ◌<◌, ◌≤◌, true, false, List, [], ◌∷◌, drop, All, refl, ⊎_elim, arith}
use Rattle.std.specs.Prelude.{is_some}
use Rattle.std.proofs.lemmas.Bool.{both_ways, cases_lt}
use Rattle.std.proofs.lemmas.List.Elements.{All-head, All-tail, All-take}
use Rattle.op_types.specs.Limits.{last_conf}
use Rattle.op_types.specs.Stops.{stop_at_end}
use Rattle.op_types.specs.Changes.{IsCommand, EndsNowhere, IsEnded, decided_tail}
use Rattle.op_types.specs.declared.durable.Part.{Part}
use Rattle.op_types.specs.declared.log.Entry.{Entry}
use Rattle.op_types.specs.declared.log.Entry.TheVariants as entry
use Rattle.op_protocol.specs.Parts.{decided_since}

ends_more : (e : Entry) (es : List Entry) → is_some (stop_at_end es) ≡ true → is_some (stop_at_end (e ∷ es)) ≡ true
ends_more e [] ends = absurd (both_ways false refl ends)
ends_more e (d ∷ es) ends = ends

-- what ends entries ends the list that they end
pub ends_whole : (k : ℕ) (es : List Entry) → is_some (stop_at_end (drop k es)) ≡ true → is_some (stop_at_end es) ≡ true
ends_whole zero es ends = ends
ends_whole (suc k) [] ends = ends
ends_whole (suc k) (e ∷ es) ends = ends_more e es (ends_whole k es ends)

one_command : (e : Entry) → IsCommand e → is_some (stop_at_end (e ∷ [])) ≡ false
one_command (entry.Command c) is = refl
one_command (entry.Stop s) is = absurd is

-- commands end nothing
pub commands_end : (es : List Entry) → All IsCommand es → is_some (stop_at_end es) ≡ false
commands_end [] all = refl
commands_end (e ∷ []) all = one_command e (All-head IsCommand e [] all)
commands_end (e ∷ d ∷ es) all = commands_end (d ∷ es) (All-tail IsCommand e (d ∷ es) all)

below : (n m : ℕ) → n ≤ m → (n ≡ m → n < m) → n < m
below n m high same = ⊎_elim (λ less. less) (λ most. same (omega arith)) (cases_lt n m)

-- the part is ended, if what it newly decided ends with a stop-sign
pub ended : (old p : Part) → EndsNowhere p.conf p.tail.items → p.conf ≤ last_conf → is_some (stop_at_end (decided_since old p)) ≡ true → IsEnded p
ended old p log conf ends =
    let whole : is_some (stop_at_end (decided_tail p)) ≡ true = ends_whole (old.decided - p.trimmed) (decided_tail p) ends in
    let last : p.conf ≡ last_conf → p.conf < last_conf =
    λ at. absurd (both_ways (is_some (stop_at_end (decided_tail p))) (commands_end (decided_tail p) (All-take IsCommand (p.decided - p.trimmed) p.tail.items (log at))) whole) in
    (whole, below p.conf last_conf conf last)
