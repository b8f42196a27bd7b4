use Rattle.std.proofs.Common.{◌≡◌, ◌+◌, ◌<◌, length, sym, ◌∙◌, arith, length-drop}
use Rattle.op_sched.proofs.LineEnds.{line_end, line_end_found, lines_of-one, lines_of-more}
use Rattle.op_text.proofs.Rests.{rest_of}
use Rattle.op_sched.proofs.reading.lines.next_line.Goals as goal

pub returns-in_default-clause-found : goal.returns-in_default-clause-found
returns-in_default-clause-found c =
    let at : c.memchr.result ≡ line_end c.args.text.now = line_end_found c.args.text.now c.memchr.result c.memchr.ensures in
    let some : 0 < length c.args.text.now = grind arith in
    lines_of-one c.args.text.now some (sym at ∙ c.in_default.is)

pub returns-clause-found : goal.returns-clause-found
returns-clause-found c =
    let at : c.memchr.result ≡ line_end c.args.text.now = line_end_found c.args.text.now c.memchr.result c.memchr.ensures in
    let rest = rest_of (c.in-Some.end + 1) c.args.text.now in
    rw rest (lines_of-more c.args.text.now c.in-Some.end (sym at ∙ c.in-Some.is)).0

pub returns-clause-shorter : goal.returns-clause-shorter
returns-clause-shorter c =
    let at : c.memchr.result ≡ line_end c.args.text.now = line_end_found c.args.text.now c.memchr.result c.memchr.ensures in
    let rest = rest_of (c.in-Some.end + 1) c.args.text.now in
    let parts = lines_of-more c.args.text.now c.in-Some.end (sym at ∙ c.in-Some.is) in
    rw rest (omega (arith, length-drop (c.in-Some.end + 1) c.args.text.now, parts.1))
