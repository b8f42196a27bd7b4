use Rattle.std.proofs.Common.{◌≡◌, ◌-◌, ◌*◌, ◌++◌, length}
use Rattle.op_types.specs.Limits.{most_part_bytes}
use Rattle.op_protocol.specs.Joining.{base_pieces, piece_count}
use Rattle.op_protocol.specs.Parts.{messages}
use Rattle.op_instance.proofs.joining.push_pieces.Given as goal

abbrev pub invariant-loop-i : goal.invariant-loop-i
invariant-loop-i l =
    l.sends ++ messages l.conf l.to (base_pieces l.closed.trimmed l.closed.base (l.i * most_part_bytes) (piece_count (length l.closed.base) - l.i))
    ≡ l.fn.sends ++ messages l.conf l.to (base_pieces l.closed.trimmed l.closed.base 0 (piece_count (length l.closed.base)))
