use Rattle.std.proofs.Common.{◌≡◌, is_some, ap, arith}
use Rattle.op_types.specs.Limits.{last_conf}
use Rattle.op_observer.proofs.taking.go_on_behind.Goals as goal

pub overflow_add-conf : goal.overflow_add-conf
overflow_add-conf c =
    let left : c.args.member.now.part.now.conf ≡ last_conf
    → ⊥ = c.requires.number (ap is_some c.in-Some.is) in
    omega arith
