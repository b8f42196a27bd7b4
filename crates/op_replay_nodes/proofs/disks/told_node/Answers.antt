use Rattle.std.proofs.Common.{subst, ◌∙◌}
use Rattle.op_memory.specs.MemDisks.{BeginsAnew}
use Rattle.op_replay_nodes.proofs.NodeDisks.{stays_anew}
use Rattle.op_replay_nodes.proofs.disks.told_node.Goals as goal

pub returns-clause-same : goal.returns-clause-same
returns-clause-same g c =
    let n = c.args.node in
    let state = g.A.Disk.state in
    let first = subst (λ x. BeginsAnew (state x) (state c.in-Ok-armed.first)) c.park-rest.ensures.first c.in-Ok-armed.ensures in
    let second = subst (λ x. BeginsAnew (state x) (state c.in-Ok-armed-2.second)) c.park-rest.ensures.second c.in-Ok-armed-2.ensures in
    stays_anew state n c.resume.result c.in-Ok-armed.first c.in-Ok-armed-2.second (c.resume.ensures.rest ∙ c.park-rest.ensures.rest) c.resume.ensures.first c.resume.ensures.second first second
    (λ sound. c.resume.ensures.sound n c.park-rest.ensures.rest sound)
    (λ d r one two. c.resume.ensures.represents n d c.park-rest.ensures.rest r one two)
