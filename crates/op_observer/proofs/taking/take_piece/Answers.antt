use Rattle.std.proofs.Common.{◌≡◌, Option, Some, sym, ◌∙◌, subst}
use Rattle.std.specs.Prelude.{IfSome, ℕ, List}
use Rattle.std.proofs.lemmas.Result.{IfOk-weaker}
use Rattle.op_kv.specs.Bases.{IsBase}
use Rattle.op_watch.specs.Basing.{staged_for, completed}
use Rattle.op_observer.specs.Plans.{Rebases, Bases}
use Rattle.op_observer.proofs.Heard.{bases_none, bases_whole}
use Rattle.op_observer.proofs.taking.take_piece.Goals as goal

pub rebase-requires : goal.rebase-requires
rebase-requires c =
    subst (λ (o : Option (List ℕ)). IfSome o IsBase) c.in-Some.is c.in_ok-base.ensures.base

pub returns-in-Some : goal.returns-in-Some
returns-in-Some c =
    let m = c.args.member.now in
    let t = c.args.stage.now in
    let conf = c.args.conf in
    let members = c.args.members in
    let piece = c.args.piece in
    let base = c.in-Some.base in
    let whole : completed m.part.now (staged_for t conf) conf piece ≡ Some base =
    sym c.in_ok-base.ensures.same ∙ c.in-Some.is in
    IfOk-weaker c.rebase.result (Rebases conf members piece.at base) (Bases m t conf members piece)
    (λ p k. bases_whole m t conf members piece base whole k.0 k.1 p k.2) c.rebase.ensures

pub returns-in_ok-plan-in-None : goal.returns-in_ok-plan-in-None
returns-in_ok-plan-in-None c =
    bases_none c.args.member.now c.args.stage.now c.args.conf c.args.members c.args.piece
    (sym c.in_ok-base.ensures.same ∙ c.in-None.is) c.in_ok-plan-in-None.plan c.in_ok-plan-in-None.ensures
    c.alone.result c.alone.ensures
