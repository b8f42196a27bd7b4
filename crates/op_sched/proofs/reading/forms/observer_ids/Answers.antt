use Rattle.std.proofs.Common.{rules, ◌≡◌, true, false, map}
use Rattle.op_sched.specs.Forms.{are_beside}
use Rattle.op_sched.proofs.Spares.{no_observer_ids, observers_by, no_observers_by}
use Rattle.op_sched.proofs.reading.forms.observer_ids.Goals as goal

pub returns-in_err-ids : goal.returns-in_err-ids
returns-in_err-ids c = search rules

pub returns-in_default : goal.returns-in_default
returns-in_default c = no_observer_ids c.args.members.now c.args.spares.now (map (λ x. x.now) c.args.words.now) (rw c.in_default.is at c.in_ok-ids.ensures)

pub returns-then-are_beside : goal.returns-then-are_beside
returns-then-are_beside c =
    let beside : are_beside c.args.members.now c.args.spares.now c.in-Some.ids ≡ true = cc (c.are_beside.ensures, c.if-are_beside.true, c.as_slice.ensures) in
    observers_by c.args.members.now c.args.spares.now c.in-Some.ids (map (λ x. x.now) c.args.words.now) (rw c.in-Some.is at c.in_ok-ids.ensures) beside

pub returns-else-are_beside : goal.returns-else-are_beside
returns-else-are_beside c =
    let beside : are_beside c.args.members.now c.args.spares.now c.in-Some.ids ≡ false = cc (c.are_beside.ensures, c.if-are_beside.false, c.as_slice.ensures) in
    no_observers_by c.args.members.now c.args.spares.now c.in-Some.ids (map (λ x. x.now) c.args.words.now) (rw c.in-Some.is at c.in_ok-ids.ensures) beside
