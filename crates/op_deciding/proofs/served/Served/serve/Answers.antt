use Rattle.op_deciding.proofs.Decided.{one_continued}
use Rattle.op_deciding.proofs.served.Served.serve.Goals as goal

pub entries-preserved : goal.entries-preserved
entries-preserved c =
    one_continued c.args.service.now.service c.args.self.now c.entries.self c.serve_one.new.self c.args.entries.now c.entries.entry-index c.entry-item.result c.entries-test.true c.entry-item.is
    c.entries.invariant c.in_ok-serve_one.ensures
