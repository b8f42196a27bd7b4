use Rattle.std.proofs.Common.{false, sym, subst, ◌∙◌, ℕ, All}
use Rattle.std.proofs.lemmas.Map.Views.{All-map-remove_entry}
use Rattle.std.specs.BTreeMap.{is_at}
use Rattle.std.specs.Map.{keys_of}
use Rattle.op_serving.specs.State.{Awaited, awaited_cmp}
use Rattle.op_queues.specs.Asked.{AwaitedInRange}
use Rattle.op_queues.proofs.Askers.{Entries, get_in, asks_in}
use Rattle.op_queues.proofs.asker_table.forget.Goals as goal

pub returns-clause-was : goal.returns-clause-was
returns-clause-was c = c.remove.ensures.value ∙ sym (get_in c.args.askers.now.entries c.args.key)

pub returns-clause-rest : goal.returns-clause-rest
returns-clause-rest c = asks_in 0 c.args.key false c.args.askers.now.entries c.remove.new.self.entries (λ q. c.remove.ensures.updates.0 q)

pub returns-clause-range : goal.returns-clause-range
returns-clause-range c h =
    subst (λ (es : Entries). All AwaitedInRange (keys_of es)) (sym c.remove.ensures.entries)
    (All-map-remove_entry (is_at (awaited_cmp c.args.key)) (λ (e : Awaited × ℕ). e.0) AwaitedInRange c.args.askers.now.entries h)
