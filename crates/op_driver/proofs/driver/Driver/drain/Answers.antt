use Rattle.std.proofs.Common.{[], sym, ◌∙◌, ap, subst, ◌≡◌, ◌∷◌, ℕ, List, drop, arith}
use Rattle.op_types.specs.declared.events.Input.TheVariants as input
use Rattle.op_serving.specs.Inputs.{enter}
use Rattle.op_driver.specs.Driver.{Served, Enters}
use Rattle.op_queues.proofs.Counting.{most_less}
use Rattle.op_queues.proofs.Settling.{stays_same, stays_then}
use Rattle.op_driver.proofs.Draining.{drained_then, drained_one}
use Rattle.op_driver.proofs.driver.Driver.drain.Goals as goal

pub downs-init : goal.downs-init
downs-init g c = record {
  drained = c.shed.ensures.drained;
  stays = c.shed.ensures.stays;
  shed = c.shed.ensures.shed;
  most = c.shed.ensures.most;
}

pub downs-preserved : goal.downs-preserved
downs-preserved g c =
    let i = c.downs.invariant in
    let d = c.downs.self in
    let p = c.next_down.new.self in
    let q : ℕ = c.in-Some.peer in
    let qs : List ℕ = drop 1 d.loop.downs in
    let first : d.loop.downs ≡ q ∷ qs = c.in-Some.ensures.some ∙ ap (λ x. q ∷ x) (sym (ap (drop 1) c.in-Some.ensures.some)) in
    let given = drained_one q qs d c.enter.new.self first i.shed (subst (λ (p : Served _). Enters g.K.Core.stores (λ l s. enter l [] (input.Down q) s) p c.enter.new.self) c.in-Some.ensures.rest c.enter.ensures.does) in
    record {
      drained = drained_then i.drained (drained_then given c.shed-in-Some.ensures.drained);
      stays = stays_then i.stays (stays_then (stays_same (ap (λ (p : Served _). p.loop.place) c.in-Some.ensures.rest)) (stays_then c.enter.ensures.stays c.shed-in-Some.ensures.stays));
      shed = c.shed-in-Some.ensures.shed;
      most = omega (arith, i.most, c.enter.ensures.most, c.shed-in-Some.ensures.most, most_less d.loop p.loop (ap (λ (x : Served _). x.loop) c.in-Some.ensures.rest) first);
    }
