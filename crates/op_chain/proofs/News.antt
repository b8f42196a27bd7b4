-- What a batch that decides a stop-sign tells the members of the next configuration.
use Rattle.std.proofs.Common.{◌≡◌, ℕ, zero, suc, ◌+◌, ◌-◌, not, List, [], ◌∷◌, length, drop, filter, ap, ◌∙◌, arith}
use Rattle.std.specs.Prelude.{Some, nat_eq}
use Rattle.std.specs.Set.{is_member}
use Rattle.std.proofs.lemmas.List.{length-take}
use Rattle.op_types.specs.Stops.{stop_at_end, named_by}
use Rattle.op_types.specs.Changes.{closed_by, decided_tail}
use Rattle.op_types.specs.declared.durable.Part.{Part}
use Rattle.op_types.specs.declared.log.Entry.{Entry}
use Rattle.op_types.specs.declared.log.StopSign.{StopSign}
use Rattle.op_types.specs.declared.messages.Body.TheVariants as body
use Rattle.op_protocol.specs.Parts.{decided_since, to_each}
use Rattle.op_protocol.specs.Configurations.{next_conf_body, new_members, news_of}
use Rattle.op_plans.specs.Positions.{FitsPositions}

ends_more : (x : Entry) (xs : List Entry) (s : StopSign) → stop_at_end xs ≡ Some s → stop_at_end (x ∷ xs) ≡ Some s
ends_more x [] s e = absurd (cc)
ends_more x (y ∷ ys) s e = e

-- what ends the last entries of a list ends the list
pub ends_all : (n : ℕ) (xs : List Entry) (s : StopSign) → stop_at_end (drop n xs) ≡ Some s → stop_at_end xs ≡ Some s
ends_all zero xs s e = e
ends_all (suc n) [] s e = e
ends_all (suc n) (x ∷ xs) s e = ends_more x xs s (ends_all n xs s e)

-- those of these members that weren't among the old ones
abbrev pub newer : List ℕ → List ℕ → List ℕ
newer olds next = filter (λ q. not (is_member nat_eq olds q)) next

-- the news of a part that has decided this stop-sign
pub news_are : (p q : Part) (s : StopSign) → q.conf ≡ p.conf → q.members ≡ p.members → FitsPositions q → stop_at_end (decided_since p q) ≡ Some s
    → news_of (closed_by q) ≡ to_each (p.conf + 1) (newer p.members s.members) (body.NextConf s.members p.members q.decided q.trimmed)
news_are p q s conf members fits ends =
    let next : named_by (stop_at_end (decided_tail q)) ≡ s.members = ap named_by (ends_all (p.decided - q.trimmed) (decided_tail q) s ends) in
    let cut = length-take (q.decided - q.trimmed) q.tail.items in
    let trimmed = fits.trimmed in
    let decided = fits.decided in
    let len : q.trimmed + length (decided_tail q) ≡ q.decided = omega (arith, cut, trimmed, decided) in
    ap (λ (n : ℕ). to_each (n + 1) (new_members (closed_by q)) (next_conf_body (closed_by q))) conf
    ∙ ap (λ (n : ℕ). to_each (p.conf + 1) (new_members (closed_by q)) (body.NextConf (closed_by q).next q.members n q.trimmed)) len
    ∙ ap (λ (ms : List ℕ). to_each (p.conf + 1) (newer ms (closed_by q).next) (body.NextConf (closed_by q).next ms q.decided q.trimmed)) members
    ∙ ap (λ (ms : List ℕ). to_each (p.conf + 1) (newer p.members ms) (body.NextConf ms p.members q.decided q.trimmed)) next
