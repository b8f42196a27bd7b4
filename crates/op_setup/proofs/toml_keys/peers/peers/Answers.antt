use Rattle.std.proofs.Common.{◌≡◌, ◌≤◌, List, Some, true, length, sym, ◌∙◌, subst, codes}
use Rattle.std.specs.List.{All, Contains}
use Rattle.std.specs.Map.{keys_of}
use Rattle.std.proofs.lemmas.Bool.{false≢true}
use Rattle.toml.specs.Data.{get_member}
use Rattle.toml.specs.Data.{table as subtable}
use Rattle.toml.specs.View.{table_view}
use Rattle.op_setup.specs.Settings.{Peer, AreRows, most_peers}
use Rattle.op_setup.proofs.KeyValues.{table_from}
use Rattle.op_setup.proofs.PeerIds.{has_all, all_has}
use Rattle.op_setup.proofs.Readings.{one_list}
use Rattle.op_setup.proofs.toml_keys.peers.peers.Goals as goal

pub returns-then-not-are_few : goal.returns-then-not-are_few
returns-then-not-are_few c = λ ps h.
    let t = table_view c.args.table.now in
    let there : get_member (codes "peers") t ≡ Some (subtable (table_view c.in-Some.rows.now)) = table_from _ _ c.in-Some.ensures in
    let found : AreRows (table_view c.in-Some.rows.now) c.in-Some-2.peers = rw c.in-Some-2.is at c.in_ok-peers.ensures in
    let same : c.in-Some-2.peers ≡ ps = one_list t _ _ ps there found h.there in
    let P : List Peer → Type 0 = λ xs. (1 ≤ length xs) × (length xs ≤ most_peers) in
    let few = c.are_few.ensures.1 (subst P (sym (c.as_slice.ensures ∙ same)) (h.some, h.few)) in
    false≢true (sym c.if-not-are_few.true ∙ few)

pub returns-then-not-are_with_all : goal.returns-then-not-are_with_all
returns-then-not-are_with_all c = λ ps h.
    let t = table_view c.args.table.now in
    let there : get_member (codes "peers") t ≡ Some (subtable (table_view c.in-Some.rows.now)) = table_from _ _ c.in-Some.ensures in
    let found : AreRows (table_view c.in-Some.rows.now) c.in-Some-2.peers = rw c.in-Some-2.is at c.in_ok-peers.ensures in
    let same : c.in-Some-2.peers ≡ ps = one_list t _ _ ps there found h.there in
    let Q : List Peer → Type 0 = λ xs. All (Contains (keys_of xs)) c.args.members.now in
    let together = subst Q (sym (c.as_slice-2.ensures ∙ same)) h.together in
    let all : c.are_with_all.result ≡ true = c.are_with_all.ensures ∙ all_has c.as_slice-2.result.now c.args.members.now together in
    false≢true (sym c.if-not-are_with_all.true ∙ all)

pub returns : goal.returns
returns c =
    let t = table_view c.args.table.now in
    let there : get_member (codes "peers") t ≡ Some (subtable (table_view c.in-Some.rows.now)) = table_from _ _ c.in-Some.ensures in
    let found : AreRows (table_view c.in-Some.rows.now) c.in-Some-2.peers = rw c.in-Some-2.is at c.in_ok-peers.ensures in
    let P : List Peer → Type 0 = λ xs. (1 ≤ length xs) × (length xs ≤ most_peers) in
    let few = subst P c.as_slice.ensures (c.are_few.ensures.0 c.if-not-are_few.false) in
    let Q : List Peer → Type 0 = λ xs. All (Contains (keys_of xs)) c.args.members.now in
    let all = has_all c.as_slice-2.result.now c.args.members.now (sym c.are_with_all.ensures ∙ c.if-not-are_with_all.false) in
    record { there = (table_view c.in-Some.rows.now, there, found); some = few.0; few = few.1; together = subst Q c.as_slice-2.ensures all }
