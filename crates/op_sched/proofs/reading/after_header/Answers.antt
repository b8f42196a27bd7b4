use Rattle.std.proofs.Common.{rules, ◌≡◌, ℕ, ◌+◌, List, [], Err, refl, sym, subst, inl, inr, arith}
use Rattle.op_sched.specs.declared.reading.Course.{Course}
use Rattle.op_sched.specs.Courses.{course_in}
use Rattle.op_sched.specs.Grammar.{numbered_lines, IsSpareLine, AreAfterHeader, AreAfterSpares, IsFirstBadAfterSpares, IsFirstBadAfter}
use Rattle.op_sched.proofs.Spares.{bad_through}
use Rattle.op_sched.proofs.reading.after_header.Goals as goal

pub next_numbered-requires : goal.next_numbered-requires
next_numbered-requires c = c.requires

pub returns-in_default-clause-found : goal.returns-in_default-clause-found
returns-in_default-clause-found c =
    let none = rw c.in_default.is at c.next_numbered.ensures.none in
    rw (none, c.new.ensures, c.no_course.ensures) (inr (refl, inr (refl, tt)))

pub returns-in_err-spares-clause-found : goal.returns-in_err-spares-clause-found
returns-in_err-spares-clause-found c = search rules

pub returns-in_err-spares-clause-bad : goal.returns-in_err-spares-clause-bad
returns-in_err-spares-clause-bad c = search rules

pub overflow_add-next : goal.overflow_add-next
overflow_add-next c = omega (arith, c.in-Ok.ensures.fits, c.requires.fits)

pub after_spares-requires : goal.after_spares-requires
after_spares-requires c = record { fits = omega (arith, c.in-Ok.ensures.fits, c.requires.fits) }

pub returns-in_err-course-in-Some-clause-found : goal.returns-in_err-course-in-Some-clause-found
returns-in_err-course-in-Some-clause-found c = search rules

pub returns-in_err-course-in-Some-clause-bad : goal.returns-in_err-course-in-Some-clause-bad
returns-in_err-course-in-Some-clause-bad c =
    let a = c.args in
    let is : c.from_residual-in_err-course-in-Some.result ≡ Err c.in_err-course-in-Some.field-0.0 = search rules in
    let spares : IsSpareLine a.members.now c.in-Ok.next.line.now c.in-Some.spares = rw c.in-Some.is at c.in_ok-spares.ensures in
    bad_through Course c.from_residual-in_err-course-in-Some.result c.in_err-course-in-Some.field-0.0
    (IsFirstBadAfterSpares a.members.now c.in-Some.spares (numbered_lines (c.in-Ok.next.number + 1) c.in-Ok.next.after.now)) (IsFirstBadAfter a.members.now (numbered_lines a.number a.text.now)) is
    (λ n p. subst (λ (l : List (ℕ × List ℕ)). IsFirstBadAfter a.members.now l n) (sym c.in-Ok.ensures.found) (inl (c.in-Some.spares, spares, p)))
    c.in_err-course-in-Some.ensures.bad

pub after_spares-requires-in-None : goal.after_spares-requires-in-None
after_spares-requires-in-None c = c.requires

pub returns-in_err-course-in-None-clause-found : goal.returns-in_err-course-in-None-clause-found
returns-in_err-course-in-None-clause-found c = search rules

pub returns-in_err-course-in-None-clause-bad : goal.returns-in_err-course-in-None-clause-bad
returns-in_err-course-in-None-clause-bad c =
    let a = c.args in
    let is : c.from_residual-in_err-course-in-None.result ≡ Err c.in_err-course-in-None.field-0.0 = search rules in
    let none : (x : List ℕ) → IsSpareLine a.members.now c.in-Ok.next.line.now x → ⊥ = rw c.in-None.is at c.in_ok-spares.ensures in
    bad_through Course c.from_residual-in_err-course-in-None.result c.in_err-course-in-None.field-0.0
    (IsFirstBadAfterSpares a.members.now c.new-spares.result (numbered_lines a.number a.text.now)) (IsFirstBadAfter a.members.now (numbered_lines a.number a.text.now)) is
    (λ n p. subst (λ (l : List (ℕ × List ℕ)). IsFirstBadAfter a.members.now l n) (sym c.in-Ok.ensures.found)
    (inr (
      λ x. none x.0 x.1,
      subst (λ (l : List (ℕ × List ℕ)). IsFirstBadAfterSpares a.members.now [] l n) c.in-Ok.ensures.found (subst (λ (ss : List ℕ). IsFirstBadAfterSpares a.members.now ss (numbered_lines a.number a.text.now) n) c.new-spares.ensures p),
    )))
    c.in_err-course-in-None.ensures.bad

pub returns-in_ok-course-in-Some-clause-found : goal.returns-in_ok-course-in-Some-clause-found
returns-in_ok-course-in-Some-clause-found c =
    let a = c.args in
    let spares : IsSpareLine a.members.now c.in-Ok.next.line.now c.in-Some.spares = rw c.in-Some.is at c.in_ok-spares.ensures in
    subst (λ (l : List (ℕ × List ℕ)). AreAfterHeader a.members.now l c.in-Some.spares (course_in c.in_ok-course-in-Some.course)) (sym c.in-Ok.ensures.found) (inl (spares, c.in_ok-course-in-Some.ensures.found))

pub returns-in_ok-course-in-None-clause-found : goal.returns-in_ok-course-in-None-clause-found
returns-in_ok-course-in-None-clause-found c =
    let a = c.args in
    inr (
      c.new-spares.ensures,
      subst (λ (ss : List ℕ). AreAfterSpares a.members.now ss (numbered_lines a.number a.text.now) (course_in c.in_ok-course-in-None.course)) c.new-spares.ensures c.in_ok-course-in-None.ensures.found,
    )
