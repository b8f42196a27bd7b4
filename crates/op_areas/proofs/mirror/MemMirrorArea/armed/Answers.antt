use Rattle.op_areas.proofs.Anew.{together_anew}
use Rattle.op_areas.proofs.mirror.MemMirrorArea.armed.Goals as goal

pub returns : goal.returns
returns c =
    let apart = c.apart-first in
    together_anew apart.result.0 apart.result.1 c.in_ok-first.first c.in_ok-second.second apart.result.2 c.args.self.mirror c.together-mirror.result
    apart.ensures.made c.together-mirror.ensures.made c.in_ok-first.ensures c.in_ok-second.ensures
