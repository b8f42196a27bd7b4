use Rattle.std.proofs.Common.{◌≡◌, Some, ◌∷◌, List, string_bytes, sym, ap, ◌∙◌, subst, inr, arith}
use Rattle.std.specs.List.{All}
use Rattle.std.specs.BTreeMap.{get}
use Rattle.std.specs.String.{string_cmp}
use Rattle.std.proofs.lemmas.Grind.{common_steps}
use Rattle.std.proofs.lemmas.List.Elements.{All-head, All-tail}
use Rattle.toml.specs.Data.{get_member}
use Rattle.toml.specs.View.{view, members_view}
use Rattle.op_setup.proofs.PeerRows.{Row, AreRead, all_read, next_have, next_read, no_peers, row_there}
use Rattle.op_setup.proofs.toml_keys.peers.by_id.Goals as goal

pub loop-key-init : goal.loop-key-init
loop-key-init c =
    let gives = c.into_iter-key-iterator.ensures.into_iter_gives in
    let P : List Row → Type 0 = λ rest. All (λ (row : Row). get string_cmp c.args.rows.now row.0 ≡ Some row.1) rest in
    record {
      ordered = c.new-by_id.ensures.ordered;
      there = subst P (sym gives.0) gives.6;
      have = λ id a e. absurd (grind (arith, common_steps, e, c.new-by_id.ensures.empty));
      read = λ key value e. inr (ap (λ (rest : List Row). get_member key (members_view rest)) gives.0 ∙ e);
    }

pub returns-in_default-clause-none : goal.returns-in_default-clause-none
returns-in_default-clause-none c = λ peers h.
    let row : Row = (c.in-Some.key.now, c.in-Some.value.now) in
    let step : c.loop-key.key-iterator ≡ row ∷ c.next.new.self = c.in-Some.ensures.steps in
    let P : List Row → Type 0 = λ rest. All (λ (row : Row). get string_cmp c.args.rows.now row.0 ≡ Some row.1) rest in
    let F : Row → Type 0 = λ row. get string_cmp c.args.rows.now row.0 ≡ Some row.1 in
    let found = All-head F row c.next.new.self (subst P step c.loop-key.invariant.there) in
    let none = rw c.in_default.is at c.peer.ensures in
    no_peers _ (string_bytes row.0) (view row.1) (row_there c.args.rows.now row found) none peers h

pub loop-key-preserved : goal.loop-key-preserved
loop-key-preserved c =
    let row : Row = (c.in-Some.key.now, c.in-Some.value.now) in
    let step : c.loop-key.key-iterator ≡ row ∷ c.next.new.self = c.in-Some.ensures.steps in
    let P : List Row → Type 0 = λ rest. All (λ (row : Row). get string_cmp c.args.rows.now row.0 ≡ Some row.1) rest in
    let later = subst P step c.loop-key.invariant.there in
    let F : Row → Type 0 = λ row. get string_cmp c.args.rows.now row.0 ≡ Some row.1 in
    let found = row_there c.args.rows.now row (All-head F row c.next.new.self later) in
    let is = rw c.in-Some-peer.is at c.peer.ensures in
    let Q : List Row → Type 0 = λ rest. AreRead (members_view c.args.rows.now.entries) c.loop-key.by_id (members_view rest) in
    let old = subst Q step c.loop-key.invariant.read in
    let updates = c.in_ok-insert.ensures.updates in
    record {
      ordered = c.insert.ensures.ordered;
      there = All-tail F row c.next.new.self later;
      have = next_have _ c.loop-key.by_id c.insert.new.self c.in-Some-peer.id c.in-Some-peer.addr (string_bytes row.0) (view row.1) updates.0 found is c.loop-key.invariant.have;
      read = next_read _ c.loop-key.by_id c.insert.new.self c.in-Some-peer.id c.in-Some-peer.addr (string_bytes row.0) (view row.1) _ updates.0 updates.1 found is old;
    }

pub returns-clause-found : goal.returns-clause-found
returns-clause-found c =
    let Q : List Row → Type 0 = λ rest. AreRead (members_view c.args.rows.now.entries) c.loop-key.by_id (members_view rest) in
    all_read _ c.loop-key.by_id c.loop-key.invariant.ordered c.loop-key.invariant.have (subst Q c.in-None.ensures.steps.0 c.loop-key.invariant.read)
