use Rattle.std.proofs.Common.{◌≡◌, ◌+◌, ◌<◌, ◌∷◌, ◌++◌, map, drop, sym, ap, ◌∙◌, subst, ℕ}
use Rattle.std.proofs.lemmas.List.{drop_more}
use Rattle.toml.specs.View.{view}
use Rattle.op_setup.specs.Settings.{id_data}
use Rattle.op_setup.proofs.RisingIds.{data_tells, last_of, last_of-push, rising-push, no_ids, map_push}
use Rattle.op_setup.proofs.toml_keys.observers.rising_ids.Goals as goal

pub returns-in_default : goal.returns-in_default
returns-in_default c = λ ids h.
    let k = c.loop-value.value-index in
    let here : map view (drop k c.args.values.now) ≡ view c.value-item.result ∷ map view (drop (k + 1) c.args.values.now) =
    ap (map view) (drop_more c.args.values.now k c.value-item.result c.loop-value-test.true ∙ ap (λ v. v ∷ drop (k + 1) c.args.values.now) (sym c.value-item.is)) in
    let split = ap (λ ds. map id_data c.loop-value.ids ++ ds) (sym here) ∙ c.loop-value.invariant.so_far in
    let none = rw c.in_default.is at c.id_above.ensures in
    let last : last_of 0 c.loop-value.ids ≡ c.loop-value.last = c.loop-value.invariant.last in
    no_ids id_data data_tells c.loop-value.ids (view c.value-item.result) _ _ split c.loop-value.invariant.rising (λ id p. none id (p.0, (let Q : ℕ → Type 0 = λ n. n < id in subst Q last p.1), p.2)) ids h.0 h.1

pub loop-value-preserved : goal.loop-value-preserved
loop-value-preserved c =
    let k = c.loop-value.value-index in
    let here : map view (drop k c.args.values.now) ≡ view c.value-item.result ∷ map view (drop (k + 1) c.args.values.now) =
    ap (map view) (drop_more c.args.values.now k c.value-item.result c.loop-value-test.true ∙ ap (λ v. v ∷ drop (k + 1) c.args.values.now) (sym c.value-item.is)) in
    let split = ap (λ ds. map id_data c.loop-value.ids ++ ds) (sym here) ∙ c.loop-value.invariant.so_far in
    let row = rw c.in-Some.is at c.id_above.ensures in
    let pushed = c.in_ok-push.ensures.ok in
    let last : last_of 0 c.loop-value.ids ≡ c.loop-value.last = c.loop-value.invariant.last in
    rw pushed (record {
      so_far = map_push id_data c.loop-value.ids c.in-Some.id (view c.value-item.result) _ _ row.0 split;
      rising = rising-push 0 c.loop-value.ids c.in-Some.id c.loop-value.invariant.rising (let Q : ℕ → Type 0 = λ n. n < c.in-Some.id in subst Q (sym last) row.1) row.2;
      last = last_of-push 0 c.loop-value.ids c.in-Some.id;
    })
