use Rattle.std.proofs.Common.{rules, ℕ, sym, subst, ◌∙◌}
use Rattle.op_mirror.specs.Joins.{StaysSame}
use Rattle.op_mirror.specs.Marks.{AreMarked}
use Rattle.op_mirror.proofs.mirror.Mirror.change_first.Goals as goal

pub invariant_of-self : goal.invariant_of-self
invariant_of-self g c =
    let m = c.args.self.now in
    let same : StaysSame (g.D.Disk.state m.first) (g.D.Disk.state c.change.new.arg2) = c.requires.keeps c.change.new.arg2 (search rules) in
    record {
      alike = λ none a b. let was = m.alike none (same.model.0 a) b in record { content = same.content ∙ was.content; pending = same.pending ∙ was.pending };
      marked = subst (λ (n : ℕ). AreMarked m.gone m.is_dead m.faults m.first_mark n m.second_mark (g.D.Disk.state m.second).faults) (sym same.faults) m.marked;
    }
