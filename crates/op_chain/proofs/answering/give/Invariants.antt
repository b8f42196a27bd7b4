use Rattle.std.proofs.Common.{◌≡◌, ◌≤◌, ◌+◌, length}
use Rattle.std.specs.Prelude.{fold}
use Rattle.std.specs.Vec.Iter.{into_iter_items}
use Rattle.op_chain.specs.Answering.{giving_reply, dropped_of}
use Rattle.op_chain.proofs.answering.give.Given as goal

abbrev pub invariant-replies : goal.invariant-replies
invariant-replies l =
    record {
      given : fold giving_reply (dropped_of l.waiting l.given) (into_iter_items l.reply-iterator) ≡ fold giving_reply (dropped_of l.initial.waiting l.initial.given) l.fn.replies;
      room : l.initial.given.room + length (into_iter_items l.reply-iterator) ≤ l.given.room + length l.fn.replies;
    }
