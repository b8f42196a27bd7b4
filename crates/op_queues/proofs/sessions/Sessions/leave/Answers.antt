use Rattle.std.proofs.Common.{◌≡◌, ◌+◌, length, ap, arith}
use Rattle.op_queues.proofs.sessions.Sessions.leave.Goals as goal

pub invariant_of-self : goal.invariant_of-self
invariant_of-self c = rw c.in_default.ensures.kept c.self.invariant

pub invariant_of-self-2 : goal.invariant_of-self-2
invariant_of-self-2 c =
    let i = c.self.invariant in
    let more = c.push_reserved.ensures in
    let len : length c.take_out.new.sessions.entries + 1 ≡ length c.self.inside.sessions.entries = c.in-Some.ensures.len in
    let sessions = c.in-Some.ensures.range i.9 in (
      i.0,
      i.1,
      omega (arith, len, i.2, ap length more.items, more.len, more.capacity, c.self.inside.closes.ok, c.push_reserved.new.self.ok),
      omega (arith, len, i.3, more.capacity),
      omega (arith, len, i.4, c.note_down.ensures.room, c.note_down.ensures.len, c.self.inside.downs.ok, c.note_down.new.downs.ok),
      λ h. absurd (omega (arith, len, ap length (i.5 h))),
      i.6,
      i.7,
      c.note_down.ensures.range i.8 sessions.0,
      sessions.1,
      c.forget_all.ensures.range i.10,
      λ h. c.in-Some.ensures.thin (i.11 h),
    )
