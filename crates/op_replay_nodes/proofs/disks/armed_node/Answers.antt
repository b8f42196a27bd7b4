use Rattle.std.proofs.Common.{subst, ◌∙◌}
use Rattle.op_memory.specs.MemDisks.{BeginsAnew}
use Rattle.op_replay_nodes.proofs.NodeDisks.{stays_anew}
use Rattle.op_replay_nodes.proofs.disks.armed_node.Goals as goal

pub returns : goal.returns
returns g c =
    let n = c.args.node in
    let state = g.A.Disk.state in
    let first = subst (λ x. BeginsAnew (state x) (state c.in-Ok.first)) c.park-rest.ensures.first c.in-Ok.ensures in
    let second = subst (λ x. BeginsAnew (state x) (state c.in-Ok-armed.second)) c.park-rest.ensures.second c.in-Ok-armed.ensures in
    stays_anew state n c.resume.result c.in-Ok.first c.in-Ok-armed.second (c.resume.ensures.rest ∙ c.park-rest.ensures.rest) c.resume.ensures.first c.resume.ensures.second first second
    (λ sound. c.resume.ensures.sound n c.park-rest.ensures.rest sound)
    (λ d r one two. c.resume.ensures.represents n d c.park-rest.ensures.rest r one two)
