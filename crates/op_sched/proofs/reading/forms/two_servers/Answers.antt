use Rattle.op_sched.proofs.EventWords.{no_peers}
use Rattle.op_sched.proofs.reading.forms.two_servers.Goals as goal

pub returns-then-first-second : goal.returns-then-first-second
returns-then-first-second c =
    no_peers _ _ _ _ _ _ c.in_ok-first.ensures.0 c.in_ok-second.ensures.0 c.if-first-second.true c.in_ok-first.ensures.1 c.in_ok-second.ensures.1
