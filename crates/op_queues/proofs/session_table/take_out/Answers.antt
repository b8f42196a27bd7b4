use Rattle.std.proofs.Common.{◌∙◌}
use Rattle.std.specs.BTreeMap.{is_at}
use Rattle.std.specs.Ordering.{nat_cmp}
use Rattle.std.proofs.lemmas.Map.Views.{All-map-remove_entry}
use Rattle.op_serving.specs.Ranges.{SessionInRange}
use Rattle.op_queues.specs.Filling.{IsThin}
use Rattle.op_queues.proofs.InRange.{found_in_range}
use Rattle.op_queues.proofs.Tables.{removed_all}
use Rattle.op_queues.proofs.session_table.take_out.Goals as goal

pub returns-clause-rest : goal.returns-clause-rest
returns-clause-rest c = c.remove.ensures.entries ∙ removed_all c.args.conn c.args.sessions.now.entries c.len-count.ensures.ordered

pub returns-clause-range : goal.returns-clause-range
returns-clause-range c all =
    let es = c.args.sessions.now.entries in
    let left = All-map-remove_entry (is_at (nat_cmp c.args.conn)) (λ e. e.1) SessionInRange es all in
    (rw c.remove.ensures.value (found_in_range c.args.conn es all), rw c.remove.ensures.entries left)

pub returns-clause-thin : goal.returns-clause-thin
returns-clause-thin c all = rw c.remove.ensures.entries (All-map-remove_entry (is_at (nat_cmp c.args.conn)) (λ e. e.1) IsThin c.args.sessions.now.entries all)
