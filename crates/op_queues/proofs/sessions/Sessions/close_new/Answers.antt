use Rattle.std.proofs.Common.{◌≡◌, ◌∙◌, [], length, ap, arith}
use Rattle.op_serving.specs.State.{Loop}
use Rattle.op_queues.proofs.sessions.Sessions.close_new.Goals as goal

pub invariant_of-self : goal.invariant_of-self
invariant_of-self c =
    let i = c.self.invariant in
    let more = c.push_reserved.ensures in
    let none : c.self.inside.closes.items ≡ [] = ap (λ (s : Loop). s.closes) c.self.view_is ∙ c.requires in (
      i.0,
      i.1,
      omega (arith, i.3, ap length none, ap length more.items, more.len, more.capacity, c.self.inside.closes.ok, c.push_reserved.new.self.ok),
      omega (arith, i.3, more.capacity),
      i.4,
      i.5,
      i.6,
      i.7,
      i.8,
      i.9,
      c.forget_all.ensures.range i.10,
      i.11,
    )
