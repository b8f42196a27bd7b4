use Rattle.std.proofs.Common.{rules, ◌≡◌, ℕ, ◌+◌, List, length, Err, refl, sym, subst, inl, inr}
use Rattle.op_sched.specs.declared.reading.Course.{Course}
use Rattle.op_sched.specs.declared.schedule.Schedule.{Schedule}
use Rattle.op_sched.specs.Grammar.{lines_of, numbered_lines, IsHeader, AreLines, IsFirstBadAfter, IsFirstBadOf, IsFirstBadLine}
use Rattle.op_sched.proofs.Spares.{bad_through}
use Rattle.op_sched.proofs.reading.read.Goals as goal

pub returns-in_default-clause-bad : goal.returns-in_default-clause-bad
returns-in_default-clause-bad c =
    let none : (x : List ℕ) → IsHeader c.in-Ok.header.line.now x → ⊥ = rw c.in_default.is at c.in_ok-members.ensures in
    subst (λ (l : List (ℕ × List ℕ)). IsFirstBadOf (length (lines_of c.args.text.now) + 1) l c.in-Ok.header.number) (sym c.in-Ok.ensures.found) (inl (refl, λ x. none x.0 x.1))

pub returns-in_err-spares-clause-bad : goal.returns-in_err-spares-clause-bad
returns-in_err-spares-clause-bad c =
    let is : c.from_residual-in_err-spares.result ≡ Err c.in_err-spares.field-0.0 = search rules in
    let header : IsHeader c.in-Ok.header.line.now c.in-Some.members = rw c.in-Some.is at c.in_ok-members.ensures in
    bad_through (List ℕ × Course) c.from_residual-in_err-spares.result c.in_err-spares.field-0.0 (IsFirstBadAfter c.in-Some.members (numbered_lines (c.in-Ok.header.number + 1) c.in-Ok.header.after.now)) (IsFirstBadLine c.args.text.now) is
    (λ n p. subst (λ (l : List (ℕ × List ℕ)). IsFirstBadOf (length (lines_of c.args.text.now) + 1) l n) (sym c.in-Ok.ensures.found) (inr (c.in-Some.members, header, p)))
    c.in_err-spares.ensures.bad

pub returns-clause-found : goal.returns-clause-found
returns-clause-found c =
    let s : Schedule = record { members = c.in-Some.members; spares = c.in_ok-spares.spares; observers = c.in_ok-spares.course.observers; is_mirrored = c.in_ok-spares.course.is_mirrored; events = c.in_ok-spares.course.events } in
    let header : IsHeader c.in-Ok.header.line.now c.in-Some.members = rw c.in-Some.is at c.in_ok-members.ensures in
    subst (λ (l : List (ℕ × List ℕ)). AreLines l s) (sym c.in-Ok.ensures.found) (header, c.in_ok-spares.ensures.found)
