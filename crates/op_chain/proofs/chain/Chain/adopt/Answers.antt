use Rattle.std.proofs.Common.{◌≡◌, ◌≤◌, ◌+◌, length, refl, sym, ap, subst, ◌∙◌, arith}
use Rattle.op_types.specs.Roomed.{Roomed}
use Rattle.op_types.specs.declared.answers.Reply.{Reply}
use Rattle.op_types.specs.declared.plan.Plan.{Plan}
use Rattle.op_spec.specs.Service.{Service}
use Rattle.op_protocol.specs.State.{Planned}
use Rattle.op_chain.specs.Plans.{told_anew, service_by, Plans, HasRoomToTell, Adopts}
use Rattle.op_chain.specs.declared.chain.Chain.{Chain}
use Rattle.op_chain.specs.declared.chain_plan.ChainPlan.{ChainPlan}
use Rattle.op_chain.specs.declared.given.Given.{Given}
use Rattle.op_chain.proofs.Adopted.{of_parts, parts_of, rows_few, all_told, Made, plan_adopted}
use Rattle.op_chain.proofs.chain.Chain.adopt.Goals as goal

pub add_all-requires : goal.add_all-requires
add_all-requires c =
    let is : of_parts c.into_parts-batch.result ≡ c.into_plan-plan.result.plan = parts_of _ _ c.into_parts-batch.ensures.batch c.into_parts-batch.ensures.turn c.into_parts-batch.ensures.sends c.into_parts-batch.ensures.replies c.into_parts-batch.ensures.outcome in
    let plan : ChainPlan = record c.into_plan-plan.result { plan = of_parts c.into_parts-batch.result } in
    let whole : plan ≡ c.args.plan = ap (λ (x : Plan). let q : ChainPlan = record c.into_plan-plan.result { plan = x } in q) is ∙ c.into_plan-plan.ensures in
    let room : HasRoomToTell plan = subst HasRoomToTell (sym whole) c.requires.1.room in
    let few : length c.give_up.new.told.items ≤ length plan.plan.replies =
    rows_few c.let_wait.new.self c.give_up.new.waiting plan.room.told c.give_up.new.told c.args.self.now.waiting.next plan.plan.replies c.let_wait.ensures.waiting room.nobody_told c.give_up.ensures.told in
    let same : length c.into_seq.result ≡ length c.give_up.new.told.items = ap length c.into_seq.ensures in
    let gave : plan.room.replies.room ≤ c.give.new.given.room + length plan.served.replies = c.give.ensures.room in
    let has : length plan.served.replies + length plan.plan.replies + length (told_anew plan.renewal) ≤ plan.room.replies.room = room.replies in
    omega arith

pub renew-requires : goal.renew-requires
renew-requires c =
    let is : of_parts c.into_parts-batch.result ≡ c.into_plan-plan.result.plan = parts_of _ _ c.into_parts-batch.ensures.batch c.into_parts-batch.ensures.turn c.into_parts-batch.ensures.sends c.into_parts-batch.ensures.replies c.into_parts-batch.ensures.outcome in
    let plan : ChainPlan = record c.into_plan-plan.result { plan = of_parts c.into_parts-batch.result } in
    let whole : plan ≡ c.args.plan = ap (λ (x : Plan). let q : ChainPlan = record c.into_plan-plan.result { plan = x } in q) is ∙ c.into_plan-plan.ensures in
    let room : HasRoomToTell plan = subst HasRoomToTell (sym whole) c.requires.1.room in
    let few : length c.give_up.new.told.items ≤ length plan.plan.replies =
    rows_few c.let_wait.new.self c.give_up.new.waiting plan.room.told c.give_up.new.told c.args.self.now.waiting.next plan.plan.replies c.let_wait.ensures.waiting room.nobody_told c.give_up.ensures.told in
    let same : length c.into_seq.result ≡ length c.give_up.new.told.items = ap length c.into_seq.ensures in
    let gave : plan.room.replies.room ≤ c.give.new.given.room + length plan.served.replies = c.give.ensures.room in
    let has : length plan.served.replies + length plan.plan.replies + length (told_anew plan.renewal) ≤ plan.room.replies.room = room.replies in
    let left = ap (λ (r : Roomed Reply). r.room) c.add_all.ensures in
    omega arith

pub returns : goal.returns
returns c x before =
    let old = c.args.self.now in
    let is : of_parts c.into_parts-batch.result ≡ c.into_plan-plan.result.plan = parts_of _ _ c.into_parts-batch.ensures.batch c.into_parts-batch.ensures.turn c.into_parts-batch.ensures.sends c.into_parts-batch.ensures.replies c.into_parts-batch.ensures.outcome in
    let plan : ChainPlan = record c.into_plan-plan.result { plan = of_parts c.into_parts-batch.result } in
    let whole : plan ≡ c.args.plan = ap (λ (x : Plan). let q : ChainPlan = record c.into_plan-plan.result { plan = x } in q) is ∙ c.into_plan-plan.ensures in
    let p : Plans old x plan = subst (λ (q : ChainPlan). Plans old x q) (sym whole) before in
    let new = c.renew.new.self in
    let given : Given = record { sends = plan.plan.sends; replies = c.into_seq-2.result; outcome = plan.plan.outcome } in
    let made : Made old plan c.adopt.new.self new given = record {
      me = ap (λ (n : Chain). n.me) c.renew.ensures.rest;
      durable = ap (λ (n : Chain). n.durable) c.renew.ensures.rest ∙ c.adopt-2.ensures;
      turned = c.adopt.ensures.turned;
      elector = c.adopt.ensures.elector;
      electors = c.adopt.ensures.electors;
      listener = c.adopt.ensures.listener;
      members = c.adopt.ensures.members;
      volatile = ap (λ (n : Chain). n.volatile) c.renew.ensures.rest;
      service = c.renew.ensures.service ∙ ap (λ (s : Service). service_by plan.renewal s) c.adopt-3.ensures;
      told = all_told c.let_wait.new.self c.give_up.new.waiting plan.room.told c.give_up.new.told old.waiting.next plan.plan.replies c.let_wait.ensures.waiting p.room.nobody_told c.give_up.ensures.told
          c.give.new.waiting plan.room.replies c.give.new.given plan.served.replies p.room.no_replies c.give.ensures.given
          c.into_seq.result (told_anew plan.renewal) c.into_seq-2.result new.waiting c.add_all.new.self c.renew.new.given c.into_seq.ensures (ap (λ (r : Roomed Reply). r.items) c.add_all.ensures) c.renew.ensures.told c.into_seq-2.ensures;
      sends = refl;
      outcome = refl;
    } in
    subst (λ (t : Planned). Adopts old t new given) p.table (plan_adopted old new plan c.adopt.new.self given made p.sound p.after)
