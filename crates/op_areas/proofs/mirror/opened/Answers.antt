use Rattle.std.proofs.Common.{sym, subst}
use Rattle.op_memory.specs.MemDisks.{known_disk}
use Rattle.op_memory.specs.declared.disk.MemDisk.{MemDisk}
use Rattle.op_areas.specs.Openings.{AreAsSeen, IsCalledOnce}
use Rattle.op_areas.proofs.Disks.{anew_itself}
use Rattle.op_areas.proofs.Anew.{together_anew}
use Rattle.op_areas.proofs.mirror.opened.Goals as goal

pub returns-then-has_stopped-clause-seen : goal.returns-then-has_stopped-clause-seen
returns-then-has_stopped-clause-seen c =
    let apart = c.apart-first in
    let seen = c.args.seen in
    let pair = c.in_ok-unopened.field-0 in
    subst (λ (d : MemDisk). AreAsSeen seen d c.args.mirror.second pair) (sym apart.ensures.made.first_is)
    (subst (λ (d : MemDisk). AreAsSeen seen apart.result.0 d pair) (sym apart.ensures.made.second_is) c.in_ok-unopened.ensures)

pub returns-clause-seen : goal.returns-clause-seen
returns-clause-seen c =
    let apart = c.apart-first in
    record {
      same = together_anew apart.result.0 apart.result.1 apart.result.0 apart.result.1 apart.result.2 c.args.mirror c.together-mirror.result
          apart.ensures.made c.together-mirror.ensures.made (anew_itself (known_disk apart.result.0)) (anew_itself (known_disk apart.result.1));
      first = λ killed. subst (IsCalledOnce c.args.seen) (sym apart.ensures.made.first_is) (c.has_first_at_once.ensures c.if-not-has_first_at_once.false killed);
      second = λ killed. c.has_second_out-has_second_out.ensures c.if-not-has_second_out.false killed;
    }
