use Rattle.op_queues.proofs.sessions.Sessions.note.Goals as goal

pub invariant_of-self : goal.invariant_of-self
invariant_of-self c = let i = c.self.invariant in (i.0, i.1, i.2, i.3, i.4, i.5, i.6, i.7, i.8, i.9, c.put_asker.ensures.range c.requires i.10, i.11)
