use Rattle.std.proofs.Common.{◌≡◌, ◌+◌, ◌-◌, refl, arith}
use Rattle.op_driver.proofs.Handling.{rests_then}
use Rattle.op_driver.proofs.Dealing.{reached_start, reached_more, reached_end, reached_all}
use Rattle.op_driver.proofs.driver.Driver.deal_all.Goals as goal

pub fronts-init : goal.fronts-init
fronts-init g c = record {
  few = omega arith;
  rests = record { turn = refl; at = refl; none = c.requires.none };
  frames = c.requires.frames;
  most = omega arith;
  reached = reached_start g.K.Core.line c.args.conn c.args.most c.args.self.now;
}

pub fronts-preserved : goal.fronts-preserved
fronts-preserved g c =
    let i = c.fronts.invariant in
    let d = c.in-Some.ensures.deals in
    record {
      few = omega (arith, i.few, d.counts.1, c.fronts-test.true);
      rests = rests_then i.rests d.rests;
      frames = d.counts.0;
      most = omega (arith, i.most, c.deal_front.ensures.most);
      reached = reached_more c.args.most (c.fronts.left - 1) (omega (arith, c.fronts-test.true)) i.reached d;
    }

pub returns-in-None-clause-deals : goal.returns-in-None-clause-deals
returns-in-None-clause-deals g c =
    let i = c.fronts.invariant in
    let back : c.fronts.left ≡ (c.fronts.left - 1) + 1 = omega (arith, c.fronts-test.true) in
    reached_end (c.fronts.left - 1) back i.reached i.rests c.in-None.ensures.deals

pub returns-clause-deals : goal.returns-clause-deals
returns-clause-deals g c = let i = c.fronts.invariant in reached_all c.fronts.frames (omega (arith, c.fronts-test.false)) i.reached i.rests
