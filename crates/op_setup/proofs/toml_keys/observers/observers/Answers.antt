use Rattle.std.proofs.Common.{◌≡◌, ℕ, List, Some, codes, sym, ap, ◌∙◌, subst, inl, inr}
use Rattle.std.specs.List.{All, Contains}
use Rattle.std.specs.Map.{keys_of}
use Rattle.std.proofs.lemmas.Bool.{false≢true}
use Rattle.toml.specs.Data.{Data, get_member}
use Rattle.toml.specs.View.{table_view, view}
use Rattle.toml.proofs.Views.{table_get}
use Rattle.op_types.specs.Ranges.{IsMember}
use Rattle.op_setup.proofs.Apart.{apart_from, shared_from}
use Rattle.op_setup.proofs.KeyValues.{no_observers}
use Rattle.op_setup.proofs.PeerIds.{has_all, all_has}
use Rattle.op_setup.proofs.Readings.{ids_of, same_written}
use Rattle.op_setup.proofs.toml_keys.observers.observers.Goals as goal

pub returns-in_default : goal.returns-in_default
returns-in_default c =
    let found = table_get c.get.result (codes "observers") c.args.table.now.entries c.get.ensures.value in
    inr (sym (rw c.in_default.is at found), c.new.ensures)

pub returns-in_default-2 : goal.returns-in_default-2
returns-in_default-2 c =
    let t = table_view c.args.table.now in
    let found = table_get c.get.result (codes "observers") c.args.table.now.entries c.get.ensures.value in
    let there : get_member (codes "observers") t ≡ Some (view c.in-Some.value.now) = sym (rw c.in-Some.is at found) in
    let none = rw c.in_default-2.is at c.in_ok-ids.ensures in
    no_observers t c.args.members.now c.args.peers.now (view c.in-Some.value.now) there (λ ids has. none ids (ids_of t _ _ ids (view c.in-Some.value.now) there has, has.rising))

pub returns-then-not-are_with_all : goal.returns-then-not-are_with_all
returns-then-not-are_with_all c =
    let t = table_view c.args.table.now in
    let ps = c.args.peers.now in
    let found = table_get c.get.result (codes "observers") c.args.table.now.entries c.get.ensures.value in
    let there : get_member (codes "observers") t ≡ Some (view c.in-Some.value.now) = sym (rw c.in-Some.is at found) in
    let is = rw c.in-Some-2.is at c.in_ok-ids.ensures in
    no_observers t c.args.members.now ps (view c.in-Some.value.now) there (λ ids has.
    let same : c.in-Some-2.ids ≡ ids = same_written (view c.in-Some.value.now) _ ids is.0 (ids_of t _ _ ids (view c.in-Some.value.now) there has) in
    let Q : List ℕ → Type 0 = λ xs. All (Contains (keys_of ps)) xs in
    let all = c.are_with_all.ensures ∙ all_has ps c.as_slice.result.now (subst Q (sym (c.as_slice.ensures ∙ same)) has.peers_are) in
    false≢true (sym c.if-not-are_with_all.true ∙ all))

pub returns-then-have_one_of : goal.returns-then-have_one_of
returns-then-have_one_of c =
    let t = table_view c.args.table.now in
    let ms = c.args.members.now in
    let found = table_get c.get.result (codes "observers") c.args.table.now.entries c.get.ensures.value in
    let there : get_member (codes "observers") t ≡ Some (view c.in-Some.value.now) = sym (rw c.in-Some.is at found) in
    let is = rw c.in-Some-2.is at c.in_ok-ids.ensures in
    no_observers t ms c.args.peers.now (view c.in-Some.value.now) there (λ ids has.
    let same : c.in-Some-2.ids ≡ ids = same_written (view c.in-Some.value.now) _ ids is.0 (ids_of t _ _ ids (view c.in-Some.value.now) there has) in
    let shared = shared_from ms c.as_slice-2.result.now (sym c.have_one_of.ensures ∙ c.if-have_one_of.true) in
    let P : List ℕ → Type 0 = λ xs. IsMember xs shared.0 in
    has.apart shared.0 (subst P (c.as_slice-2.ensures ∙ same) shared.1) shared.2)

pub returns : goal.returns
returns c =
    let t = table_view c.args.table.now in
    let ms = c.args.members.now in
    let ps = c.args.peers.now in
    let found = table_get c.get.result (codes "observers") c.args.table.now.entries c.get.ensures.value in
    let there : get_member (codes "observers") t ≡ Some (view c.in-Some.value.now) = sym (rw c.in-Some.is at found) in
    let is = rw c.in-Some-2.is at c.in_ok-ids.ensures in
    let Q : List ℕ → Type 0 = λ xs. All (Contains (keys_of ps)) xs in
    let all = has_all ps c.as_slice.result.now (sym c.are_with_all.ensures ∙ c.if-not-are_with_all.false) in
    let R : List ℕ → Type 0 = λ xs. (id : ℕ) → IsMember xs id → IsMember ms id → ⊥ in
    let apart = apart_from ms c.as_slice-2.result.now (sym c.have_one_of.ensures ∙ c.if-have_one_of.false) in
    inl (record {
      there = there ∙ ap (λ (d : Data). Some d) is.0;
      rising = is.1;
      peers_are = subst Q c.as_slice.ensures all;
      apart = subst R c.as_slice-2.ensures apart;
    })
