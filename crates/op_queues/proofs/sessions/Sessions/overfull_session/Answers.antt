use Rattle.std.proofs.Common.{rules, ◌≡◌, None, subst, All}
use Rattle.std.specs.Map.{keys_of, values_of}
use Rattle.op_serving.specs.State.{Loop}
use Rattle.op_queues.specs.Filling.{IsThin, first_over}
use Rattle.op_queues.proofs.Filling.{none_over}
use Rattle.op_queues.proofs.sessions.Sessions.overfull_session.Goals as goal

pub returns-clause-thin : goal.returns-clause-thin
returns-clause-thin c =
    let t = c.self.inside.sessions.entries in
    let none : first_over t (keys_of t) ≡ None = search rules in
    subst (λ (s : Loop). All IsThin (values_of s.sessions)) c.self.view_is (none_over t c.iter-conn-items.ensures.ordered none)
