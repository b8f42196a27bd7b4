-- The parts of a message whose entries are too long for one.
use Rattle.std.specs.Prelude.{ℕ, List}
use Rattle.op_types.specs.declared.log.Entry.{Entry}
use Rattle.op_types.specs.declared.messages.Body.{Body}
use Rattle.op_types.specs.declared.messages.Body.TheVariants as body
use Rattle.op_plans.specs.declared.head.Head.{Head}
use Rattle.op_plans.specs.declared.head.Head.TheVariants as head

-- the part with a run from a position on
abbrev pub part_of : Head → ℕ → List Entry → Body
part_of (head.Promise n accepted len decided start) at run =
    body.PromisePart n (record {
      accepted = accepted;
      len = len;
      decided = decided;
      start = start;
      at = at;
      run = run;
    })
part_of (head.AcceptSync n start end) at run =
    body.AcceptSyncPart n (record { start = start; end = end; at = at; run = run })
