use Rattle.std.proofs.Common.{◌≡◌, false, All, ap, length, subst, sym, arith}
use Rattle.std.proofs.lemmas.List.{length-map}
use Rattle.op_serving.specs.Counts.{most_inputs}
use Rattle.op_serving.specs.Fates.{is_session}
use Rattle.op_serving.specs.Inputs.{Brought, all_gathered}
use Rattle.op_driver.specs.Driver.{Served}
use Rattle.op_driver.specs.Ungiven.{AreUngiven}
use Rattle.op_driver.proofs.Counting.{most_released}
use Rattle.op_driver.proofs.Handling.{flush_gives, all_frames}
use Rattle.op_driver.proofs.driver.Driver.flush_some.Goals as goal

pub returns-clause-gives : goal.returns-clause-gives
returns-clause-gives g c =
    let d = c.args.self.now in
    let are : AreUngiven (all_gathered d.loop) c.new.result = subst (λ bs. AreUngiven bs c.new.result) c.release-group.ensures.group c.new.ensures in
    flush_gives c.new.result d c.release-group.new.self c.give_all.new.self are c.release-group.ensures.rest c.give_all.ensures.gives

pub returns-clause-most : goal.returns-clause-most
returns-clause-most g c =
    let s = c.args.self.now.loop in
    let are : AreUngiven (all_gathered s) c.new.result = subst (λ bs. AreUngiven bs c.new.result) c.release-group.ensures.group c.new.ensures in
    omega (arith, c.give_all.ensures.most, ap length are.inputs, length-map (all_gathered s) (λ (b : Brought). b.1), ap (λ (x : Served _). most_inputs x.loop) c.release-group.ensures.rest, most_released s)

pub new-requires : goal.new-requires
new-requires g c = subst (All (λ (b : Brought). is_session b.1 ≡ false)) (sym c.release-group.ensures.group) (all_frames c.args.self.now.loop)
