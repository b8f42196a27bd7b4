use Rattle.std.proofs.Common.{rules, ◌<◌, ◌^◌, Ok, Err}
use Rattle.std.proofs.lemmas.Result.{err_from_is_err_and}
use Rattle.op_fields.specs.Form.{items_read}
use Rattle.op_fields.specs.Items.{read_by}
use Rattle.op_fields.proofs.ItemSteps.{goes_on, ends, is_done}
use Rattle.op_fields.proofs.items.items_at.Goals as goal

pub items-preserved : goal.items-preserved
items-preserved g c =
    let a : c.in_ok-value.own < 2 ^ 64 = search rules in
    let b : c.in_ok-value.next < 2 ^ 64 = search rules in (
      a,
      b,
      λ read key bytes reads.
          let step = reads c.items.at c.items.low (Ok (c.in_ok-value.value, c.in_ok-value.own, c.in_ok-value.next)) c.items.invariant.1 c.items.invariant.0 c.in_ok-value.ensures in
          rw (c.in_ok-push.ensures.items, step.1) (goes_on (read_by read) key c.items.items.items c.args.count c.items.counter c.items.low bytes c.items.at c.in_ok-value.value c.in_ok-value.next
          (items_read (read_by read) key c.args.count 0 bytes c.args.first) c.items-test.true step.0 (c.items.invariant.2 read key bytes reads)),
    )

pub returns-in_err-value : goal.returns-in_err-value
returns-in_err-value g c = λ read key bytes reads.
    let p = err_from_is_err_and c.from_residual.result c.from_residual.ensures.1 in
    let step = reads c.items.at c.items.low (Err c.in_err-value.field-0.0) c.items.invariant.1 c.items.invariant.0 c.in_err-value.ensures in
    rw (p.1, p.2) (ends (read_by read) key c.in_err-value.field-0.0 c.items.items.items c.args.count c.items.counter c.items.low bytes c.items.at
    (items_read (read_by read) key c.args.count 0 bytes c.args.first) c.items-test.true step (c.items.invariant.2 read key bytes reads))

pub returns : goal.returns
returns g c = λ read key bytes reads.
    is_done (read_by read) key c.items.items.items c.args.count c.items.counter c.items.low bytes c.items.at
    (items_read (read_by read) key c.args.count 0 bytes c.args.first) c.items-test.false (c.items.invariant.2 read key bytes reads)
