use Rattle.std.proofs.Common.{◌≡◌, ℕ, List, map, Some, sym, ap, ◌∙◌, codes}
use Rattle.toml.specs.Data.{Data, array, get_member}
use Rattle.toml.specs.View.{view, items_of, table_view}
use Rattle.op_types.specs.Ranges.{MembersInRange}
use Rattle.op_setup.specs.Settings.{SetsMembers, id_data}
use Rattle.op_text.proofs.FoundAlike.{ok_found_as}
use Rattle.op_setup.proofs.KeyValues.{array_from, same_array}
use Rattle.op_setup.proofs.toml_keys.members.members.Goals as goal

pub returns-in-Some : goal.returns-in-Some
returns-in-Some c =
    let t = table_view c.args.table.now in
    let values = c.as_slice.result.now in
    let same : map view values ≡ map view c.in-Some.values.now.items = ap (map view) c.as_slice.ensures.value in
    let there : get_member (codes "members") t ≡ Some (array (items_of (map view c.in-Some.values.now.items))) = array_from _ _ c.in-Some.ensures in
    let P : List ℕ → Type 0 = λ ids. (map view values ≡ map id_data ids) × MembersInRange ids in
    ok_found_as P (SetsMembers t)
    (λ ids h. record { there = there ∙ ap (λ (ds : List Data). Some (array (items_of ds))) (sym same ∙ h.0); in_range = h.1 })
    (λ ids h. (same ∙ same_array (get_member (codes "members") t) _ _ there h.there, h.in_range))
    c.rising_ids.result c.rising_ids.ensures
