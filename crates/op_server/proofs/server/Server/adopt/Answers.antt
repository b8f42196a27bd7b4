use Rattle.std.proofs.Common.{◌≡◌, refl, sym, subst, ◌∙◌}
use Rattle.op_server.specs.Plans.{Plans}
use Rattle.op_server.specs.declared.server_plan.ServerPlan.{ServerPlan}
use Rattle.op_server.proofs.Adopts.{made_of, adopts_some, room_there}
use Rattle.op_server.proofs.server.Server.adopt.Goals as goal

pub adopt_reading-requires-clause-room : goal.adopt_reading-requires-clause-room
adopt_reading-requires-clause-room c =
    let x = c.requires.0 in
    let plan : ServerPlan = record { chain = c.into_parts-chain.result.0; reading = c.into_parts-chain.result.1 } in
    let whole : plan ≡ c.args.plan = made_of c.args.plan plan.chain plan.reading c.into_parts-chain.ensures.chain c.into_parts-chain.ensures.reading in
    let plans = subst (λ (p : ServerPlan). Plans c.args.self.now x p) (sym whole) c.requires.1 in
    room_there c.args.self.now x plan plans c.adopt-given.new.self c.adopt-given.result (c.adopt-given.ensures x plans.chain) plan.reading refl

pub returns-then-is_some : goal.returns-then-is_some
returns-then-is_some c x before =
    let plan : ServerPlan = record { chain = c.into_parts-chain.result.0; reading = c.into_parts-chain.result.1 } in
    let whole : plan ≡ c.args.plan = made_of c.args.plan plan.chain plan.reading c.into_parts-chain.ensures.chain c.into_parts-chain.ensures.reading in
    let plans = subst (λ (p : ServerPlan). Plans c.args.self.now x p) (sym whole) before in
    adopts_some c.args.self.now x plan plans c.adopt-given.new.self c.adopt-given.result (c.adopt-given.ensures x plans.chain) plan.reading
    _ c.adopt_reading.new.self c.adopt_reading.result refl (sym c.is_some.ensures ∙ c.if-is_some.true) refl c.adopt_reading.ensures.reads c.adopt_reading.ensures.given
