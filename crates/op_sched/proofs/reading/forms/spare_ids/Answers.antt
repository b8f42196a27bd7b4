use Rattle.std.proofs.Common.{rules, ◌≡◌, true, false, map}
use Rattle.op_sched.specs.Forms.{are_apart}
use Rattle.op_sched.proofs.Spares.{no_ids, spares_by, no_spares_by}
use Rattle.op_sched.proofs.reading.forms.spare_ids.Goals as goal

pub returns-in_err-ids : goal.returns-in_err-ids
returns-in_err-ids c = search rules

pub returns-in_default : goal.returns-in_default
returns-in_default c = no_ids c.args.members.now (map (λ x. x.now) c.args.words.now) (rw c.in_default.is at c.in_ok-ids.ensures)

pub returns-then-are_apart : goal.returns-then-are_apart
returns-then-are_apart c =
    let apart : are_apart c.args.members.now c.in-Some.ids ≡ true = cc (c.are_apart.ensures, c.if-are_apart.true, c.as_slice.ensures, c.as_slice-2.ensures) in
    spares_by c.args.members.now c.in-Some.ids (map (λ x. x.now) c.args.words.now) (rw c.in-Some.is at c.in_ok-ids.ensures) apart

pub returns-else-are_apart : goal.returns-else-are_apart
returns-else-are_apart c =
    let apart : are_apart c.args.members.now c.in-Some.ids ≡ false = cc (c.are_apart.ensures, c.if-are_apart.false, c.as_slice.ensures, c.as_slice-2.ensures) in
    no_spares_by c.args.members.now c.in-Some.ids (map (λ x. x.now) c.args.words.now) (rw c.in-Some.is at c.in_ok-ids.ensures) apart
