use Rattle.std.proofs.Common.{◌∙◌, sym}
use Rattle.std.proofs.lemmas.Bool.{false≢true}
use Rattle.op_sched.proofs.UnambiguousSchedules.{none_suits_disks}
use Rattle.op_sched.proofs.reading.adding.add_other.Goals as goal
use Rattle.op_sched.proofs.reading.adding.add_other.Goals.{in_default-via-in-Some+else-suits_disks, in_default-via-in_default}

pub returns-in_default : goal.returns-in_default
returns-in_default c =
    elim c.in_default.branch [
      | in_default-via-in-Some+else-suits_disks w ↦
          none_suits_disks c.args.is_mirrored _ _ (rw w.in-Some.is at c.in_ok-what.ensures) (λ h. false≢true (sym w.if-suits_disks.false ∙ w.suits_disks.ensures.1 h))
      | in_default-via-in_default w ↦ (λ x h. (rw w.in_default.is at c.in_ok-what.ensures) x h.0)
    ]
