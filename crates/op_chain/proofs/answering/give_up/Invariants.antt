use Rattle.std.proofs.Common.{◌≡◌, ◌≤◌, ◌+◌, length}
use Rattle.std.specs.Prelude.{fold}
use Rattle.std.specs.Vec.Iter.{into_iter_items}
use Rattle.op_protocol.specs.Serving.{dropping_reply}
use Rattle.op_chain.specs.Answering.{dropped_of}
use Rattle.op_chain.proofs.answering.give_up.Given as goal

abbrev pub invariant-replies : goal.invariant-replies
invariant-replies l =
    record {
      told : fold dropping_reply (dropped_of l.waiting l.told) (into_iter_items l.reply-iterator) ≡ fold dropping_reply (dropped_of l.initial.waiting l.initial.told) l.fn.replies;
      room : l.initial.told.room + length (into_iter_items l.reply-iterator) ≤ l.told.room + length l.fn.replies;
    }
