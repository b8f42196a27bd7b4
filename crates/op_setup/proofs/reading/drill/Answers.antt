use Rattle.std.proofs.Common.{◌≡◌, ◌∙◌, ap, sym, codes, string_bytes, rules}
use Rattle.op_gen.specs.Scenarios.{name_of}
use Rattle.op_setup.proofs.TaskWords.{drill_is_task, numbers_are_task}
use Rattle.op_setup.proofs.reading.drill.Goals as goal

pub returns-in_ok-number_to-in-len2 : goal.returns-in_ok-number_to-in-len2
returns-in_ok-number_to-in-len2 c =
    let seed = c.in_ok-seed-in-len2.ensures in
    let count = c.in_ok-number_to-in-len2.ensures in
    numbers_are_task string_bytes c.args.words.now _ _ c.in_ok-seed-in-len2.seed c.in_ok-number_to-in-len2.field-0 c.in-len2.len_at_least c.in-len2.len_below
    (sym (ap string_bytes c.seed-item.is) ∙ sym c.bytes.ensures ∙ seed.1) (sym (ap string_bytes c.count-item.is) ∙ sym c.bytes-in-len2.ensures ∙ count.2) seed.0 (count.0, count.1)

pub returns-in_ok-number_to-in-len3 : goal.returns-in_ok-number_to-in-len3
returns-in_ok-number_to-in-len3 c =
    let flag : string_bytes c.flag-item.result ≡ codes "--links" = search rules in
    let name : string_bytes c.name-item.result ≡ name_of c.in_ok-scenario-in-len3.scenario = search rules in
    let count = c.in_ok-number_to-in-len3.ensures in
    drill_is_task string_bytes c.args.words.now _ _ _ c.in_ok-scenario-in-len3.scenario c.in_ok-number_to-in-len3.field-0 c.in-len3.len_at_least c.in-len3.len_below
    (sym (ap string_bytes c.flag-item.is) ∙ flag) (sym (ap string_bytes c.name-item.is) ∙ name) (sym (ap string_bytes c.count-item-then-words-lt4.is) ∙ sym c.bytes-in-len3.ensures ∙ count.2) (count.0, count.1)
