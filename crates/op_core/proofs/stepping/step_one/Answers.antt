use Rattle.std.proofs.Common.{◌≡◌, true, refl, sym, subst, ◌∙◌}
use Rattle.op_types.specs.declared.events.Input.{Input}
use Rattle.op_types.specs.declared.events.Input.TheVariants as input
use Rattle.op_serving.specs.Cores.{Standing, reopens}
use Rattle.op_serving.specs.Fates.{Steps}
use Rattle.op_core.specs.Disks.{StepStores}
use Rattle.op_core.specs.NodeCores.{standing_of}
use Rattle.op_core.proofs.stepping.step_one.Goals as goal

-- a node is opened again at a tick alone
ticks : (n : Standing) (x : Input) → reopens n x ≡ true → input.Tick ≡ x
ticks n input.Tick h = refl
ticks n (input.Deliver q m) h = absurd cc
ticks n (input.Commands cs) h = absurd cc
ticks n (input.Stop members) h = absurd cc
ticks n input.TrimNow h = absurd cc
ticks n (input.Read r) h = absurd cc
ticks n (input.Up q) h = absurd cc
ticks n (input.Down q) h = absurd cc

pub returns-then-reopens-clause-steps : goal.returns-then-reopens-clause-steps
returns-then-reopens-clause-steps g c =
    let state = g.D.Disk.state in
    subst (λ (x : Input). Steps (standing_of state) (StepStores state) c.args.core.now x c.open_again.result c.open_again.new.core)
    (ticks (standing_of state c.args.core.now) c.args.input (sym c.reopens.ensures ∙ c.if-reopens.true)) c.open_again.ensures.steps
