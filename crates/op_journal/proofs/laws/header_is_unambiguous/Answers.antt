use Rattle.op_journal.proofs.Headers.{one_header, one_newer, newer_or_header}
use Rattle.op_journal.proofs.laws.header_is_unambiguous.Goals as goal

pub returns-clause-head : goal.returns-clause-head
returns-clause-head c bytes g h = one_header bytes g h

pub returns-clause-newer : goal.returns-clause-newer
returns-clause-newer c bytes v w = one_newer bytes v w

pub returns-clause-not_newer : goal.returns-clause-not_newer
returns-clause-not_newer c bytes v g newer = newer_or_header v bytes newer g
