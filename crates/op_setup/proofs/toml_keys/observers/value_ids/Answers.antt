use Rattle.std.proofs.Common.{◌≡◌, ℕ, List, map, sym, ap, ◌∙◌}
use Rattle.toml.specs.Data.{Data, array}
use Rattle.toml.specs.View.{view, items_of}
use Rattle.op_types.specs.Ranges.{AreRising}
use Rattle.op_setup.specs.Settings.{id_data}
use Rattle.op_text.proofs.FoundAlike.{ok_found_as}
use Rattle.op_setup.proofs.KeyValues.{array_is, items_are}
use Rattle.op_setup.proofs.toml_keys.observers.value_ids.Goals as goal

pub returns-in-Some : goal.returns-in-Some
returns-in-Some c =
    let d = view c.args.value.now in
    let values = c.as_slice.result.now in
    let same : map view values ≡ map view c.in-Some.values.now.items = ap (map view) c.as_slice.ensures.value in
    let is : d ≡ array (items_of (map view c.in-Some.values.now.items)) = array_is _ _ c.in-Some.ensures in
    let P : List ℕ → Type 0 = λ ids. (map view values ≡ map id_data ids) × AreRising 0 ids in
    let Q : List ℕ → Type 0 = λ ids. (d ≡ array (items_of (map id_data ids))) × AreRising 0 ids in
    ok_found_as P Q
    (λ ids h. (is ∙ ap (λ (ds : List Data). array (items_of ds)) (sym same ∙ h.0), h.1))
    (λ ids h. (same ∙ items_are _ d ids is h.0, h.1))
    c.rising_ids.result c.rising_ids.ensures
