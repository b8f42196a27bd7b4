use Rattle.std.proofs.Common.{◌≡◌, ◌-◌, ◌*◌, ◌++◌, length}
use Rattle.op_types.specs.Limits.{most_part_bytes}
use Rattle.op_protocol.specs.Joining.{piece_count}
use Rattle.op_protocol.specs.Parts.{messages}
use Rattle.op_protocol.specs.Watched.{watch_pieces}
use Rattle.op_watch.proofs.showing.show_base.Given as goal

abbrev pub invariant-loop-i : goal.invariant-loop-i
invariant-loop-i l =
    l.sends ++ messages l.decided.conf l.to
    (watch_pieces l.decided.members.now l.decided.trimmed l.decided.base.now (l.i * most_part_bytes)
    (piece_count (length l.decided.base.now) - l.i))
    ≡ l.fn.sends ++ messages l.decided.conf l.to
    (watch_pieces l.decided.members.now l.decided.trimmed l.decided.base.now 0
    (piece_count (length l.decided.base.now)))
