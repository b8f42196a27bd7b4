use Rattle.std.proofs.Common.{refl, sym, ap, ◌∙◌, ◌+◌, List, ℕ, drop, length, arith}
use Rattle.std.proofs.lemmas.List.{length-drop}
use Rattle.op_frame.specs.Framing.{Stream, left}
use Rattle.op_serving.specs.Reading.{frame}
use Rattle.op_queues.proofs.Fronts.{frame_is, partial_is, too_long_is, frame_fits, some_head}
use Rattle.op_queues.proofs.front.take_frame.Goals as goal

pub returns-in-Err-NotYet-clause-takes : goal.returns-in-Err-NotYet-clause-takes
returns-in-Err-NotYet-clause-takes c =
    let x =
    c.args.session.now in
    (x.kind, x.frames, partial_is x.kind x.frames c.peek.ensures.head (rw c.in-Err-NotYet.field-0-is at c.in-Err-NotYet.ensures.err), refl)

pub returns-in-Err-TooLong-clause-takes : goal.returns-in-Err-TooLong-clause-takes
returns-in-Err-TooLong-clause-takes c =
    let x = c.args.session.now in
    let f = rw c.in-Err-TooLong.field-0-is at c.in-Err-TooLong.ensures.err in
    (x.kind, x.frames, too_long_is x.kind x.frames c.in-Err-TooLong.field-0-0 c.peek.ensures.head f, refl)

pub returns-in-Err-NoMemory-clause-takes : goal.returns-in-Err-NoMemory-clause-takes
returns-in-Err-NoMemory-clause-takes c =
    let x = c.args.session.now in
    let f =
    rw c.in-Err-NoMemory.field-0-is at c.in-Err-NoMemory.ensures.err in
    (x.kind, f.0, left x.frames f.1, frame_is x.kind x.frames f.0 f.1 c.peek.ensures.head f.2)

pub returns-in_default-clause-takes : goal.returns-in_default-clause-takes
returns-in_default-clause-takes c =
    let x = c.args.session.now in
    let body : List ℕ = c.in-Ok.body.now in
    let rest : List ℕ =
    drop (x.frames.head + length body) x.frames.held in
    (x.kind, body, left x.frames rest, frame_is x.kind x.frames body rest c.peek.ensures.head c.in-Ok.ensures.body)

pub pass-requires : goal.pass-requires
pass-requires c =
    let x = c.args.session.now in
    let body : List ℕ = c.in-Ok.body.now in
    frame_fits x.frames body (drop (x.frames.head + length body) x.frames.held) c.peek.ensures.head c.in-Ok.ensures.body

pub returns-clause-takes : goal.returns-clause-takes
returns-clause-takes c =
    let x = c.args.session.now in
    let body : List ℕ = c.in-Ok.body.now in
    let rest : List ℕ = drop (x.frames.head + length body) x.frames.held in (
      x.kind,
      body,
      c.pass.new.self,
      frame_is x.kind x.frames body rest c.peek.ensures.head c.in-Ok.ensures.body ∙ ap (frame x.kind body) (sym c.pass.ensures),
      refl,
      rw c.in-Ok-heard.is at c.hear.ensures.is,
    )

pub returns-clause-bytes : goal.returns-clause-bytes
returns-clause-bytes c =
    let x = c.args.session.now in
    let n : ℕ = length c.in-Ok.body.now in
    let fits = frame_fits x.frames c.in-Ok.body.now (drop (x.frames.head + n) x.frames.held) c.peek.ensures.head c.in-Ok.ensures.body in
    let passed = ap (λ (s : Stream). length s.held) c.pass.ensures in
    omega (arith, passed, length-drop (x.frames.head + n) x.frames.held, fits, some_head x.frames.head c.peek.ensures.head)
