use Rattle.std.proofs.Common.{◌≡◌, ℕ, All, refl, subst, ◌∙◌, arith}
use Rattle.std.proofs.lemmas.Result.{err_from_is_err_and}
use Rattle.op_lockstep.specs.Lockstep.{lockstep}
use Rattle.op_runs.specs.Run.{Execution}
use Rattle.op_world.specs.Drills.{IsQuiet, followed}
use Rattle.op_world.specs.Worlds.{Shows}
use Rattle.op_world.proofs.Lockstep.{no_rounds, more_rounds, passed_on}
use Rattle.op_world.proofs.world.World.rounds.Goals as goal
use Rattle.op_areas.specs.Media.{medium}

pub loop-number-init : goal.loop-number-init
loop-number-init g c =
    let M = medium g.A.Disk.state g.A.Area.holds g.A.Area.IS_MIRRORED in
    ((λ t s. no_rounds M c.args.self.members c.args.links.now.pairs.now t c.args.self s), refl, c.requires)

pub loop-number-preserved : goal.loop-number-preserved
loop-number-preserved g c =
    let M = medium g.A.Disk.state g.A.Area.holds g.A.Area.IS_MIRRORED in
    let old = c.loop-number.invariant in (
      λ t s. more_rounds M c.args.self.members _ c.args.links.now.pairs.now c.loop-number._number t c.loop-number.world c.in_ok-world.world old.1 (old.0 t s) c.in_ok-world.ensures.after c.in_ok-world.ensures.range,
      c.in_ok-world.ensures.members ∙ old.1,
      c.in_ok-world.ensures.calm,
    )

pub returns-clause-after : goal.returns-clause-after
returns-clause-after g c t s =
    let M = medium g.A.Disk.state g.A.Area.holds g.A.Area.IS_MIRRORED in
    let all : c.loop-number._number ≡ c.args.count = omega arith in
    subst (λ (k : ℕ). Shows M c.loop-number.world (followed t (lockstep c.args.self.members c.args.links.now.pairs.now k t.world))) all (c.loop-number.invariant.0 t s).shows

pub returns-clause-range : goal.returns-clause-range
returns-clause-range g c t s =
    let all : c.loop-number._number ≡ c.args.count = omega arith in
    subst (λ (k : ℕ). All IsQuiet (lockstep c.args.self.members c.args.links.now.pairs.now k t.world)) all (c.loop-number.invariant.0 t s).range

pub returns-in_err-world-clause-bad : goal.returns-in_err-world-clause-bad
returns-in_err-world-clause-bad g c =
    let M = medium g.A.Disk.state g.A.Area.holds g.A.Area.IS_MIRRORED in
    let p = err_from_is_err_and c.from_residual.result c.from_residual.ensures.1 in
    rw (p.1, p.2) (passed_on (Unit {0}) (Unit {0}) c.in_err-world.field-0.0 (λ (i : ℕ). (t : Execution) → Shows M c.loop-number.world t → ⊥) (λ (i : ℕ). (t : Execution) → Shows M c.args.self t → ⊥)
    (λ i never t s. never _ (c.loop-number.invariant.0 t s).shows) c.in_err-world.ensures.bad)
