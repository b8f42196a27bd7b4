use Rattle.std.proofs.Common.{true, rules, sym, subst, ◌∙◌, ◌≡◌, None, All}
use Rattle.std.specs.FinMap as map
use Rattle.std.proofs.lemmas.Map.Views.{All-keys-insert_entry}
use Rattle.std.specs.Map.{keys_of}
use Rattle.op_serving.specs.State.{askers_in, awaited_cmp}
use Rattle.op_queues.specs.Asked.{AwaitedInRange}
use Rattle.op_queues.proofs.Askers.{Entries, get_in, asks_in}
use Rattle.op_queues.proofs.asker_table.put_asker.Goals as goal

pub returns-in_err-insert-clause-absent : goal.returns-in_err-insert-clause-absent
returns-in_err-insert-clause-absent c =
    let none : map.get (askers_in c.args.askers.now.entries) c.args.key ≡ None = get_in c.args.askers.now.entries c.args.key ∙ c.in_err-insert.ensures.absent in
    search rules

pub returns-clause-ok : goal.returns-clause-ok
returns-clause-ok c = asks_in c.args.conn c.args.key true c.args.askers.now.entries c.insert.new.self.entries (λ q. c.in_ok-insert.ensures.updates.0 q)

pub returns-clause-range : goal.returns-clause-range
returns-clause-range c asked h =
    subst (λ (es : Entries). All AwaitedInRange (keys_of es)) (sym c.in_ok-insert.ensures.entries)
    (All-keys-insert_entry awaited_cmp c.args.key c.args.conn AwaitedInRange c.args.askers.now.entries h asked)
