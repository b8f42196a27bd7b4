use Rattle.std.proofs.Common.{◌≤◌, length, rules, inl, refl, arith}
use Rattle.op_driver.proofs.Grouping.{gone_then, gone_all}
use Rattle.op_driver.proofs.driver.Driver.give_all.Goals as goal

pub groups-init : goal.groups-init
groups-init g c = record { gone = inl (refl, refl); most = omega arith }

pub groups-preserved : goal.groups-preserved
groups-preserved g c =
    let i = c.groups.invariant in
    let e = c.give_group.ensures in
    record {
      gone = gone_then c.args.ungiven c.groups.ungiven c.give_group.new.ungiven c.args.self.now c.groups.self c.give_group.new.self i.gone e.gives e.stays e.none;
      most = omega (arith, i.most, e.most);
    }

pub returns-clause-gives : goal.returns-clause-gives
returns-clause-gives g c =
    let none : length c.groups.ungiven.inputs ≤ 0 = search rules in
    gone_all c.args.ungiven c.groups.ungiven c.args.self.now c.groups.self c.groups.invariant.gone c.requires none

pub returns-clause-most : goal.returns-clause-most
returns-clause-most g c = omega (arith, c.groups.invariant.most)
