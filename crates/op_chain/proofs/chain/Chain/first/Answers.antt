use Rattle.std.proofs.Common.{refl, ap}
use Rattle.op_protocol.specs.State as step
use Rattle.op_instance.specs.Sound.{IsNode}
use Rattle.op_chain.proofs.Opened.{member_opened, spare_opened, node_as}
use Rattle.op_chain.proofs.chain.Chain.first.Goals as goal
use Rattle.op_chain.proofs.chain.Chain.first.Goals.{in-Some+in_ok-volatile-in-Some, in-None+in_ok-volatile-in-None}

pub returns-clause-sound : goal.returns-clause-sound
returns-clause-sound c =
    let me = c.args.me in
    let d = c.args.durable in
    let node : IsNode me d c.match-durable.volatile =
    elim c.match-durable.branch [
      | in-Some+in_ok-volatile-in-Some w ↦
          node_as me d c.match-durable.volatile _ w.volatile-is
          (member_opened me d w.in-Some.part _ c.requires w.in-Some.is (ap (λ (v : step.Volatile). v.role) w.in_ok-volatile-in-Some.ensures.first) (ap (λ (v : step.Volatile). v.staged) w.in_ok-volatile-in-Some.ensures.first) (w.in_ok-volatile-in-Some.ensures.kept w.in-Some.part refl))
      | in-None+in_ok-volatile-in-None w ↦ spare_opened me d c.match-durable.volatile c.requires w.in-None.is
    ] in
    record { node = record { part = node.part; closed = node.closed; joining = node.joining }; bases = record { part = c.requires.bases.part; joining = c.requires.bases.joining } }
