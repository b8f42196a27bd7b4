use Rattle.std.proofs.Common.{rules, ℕ, ◌+◌, List, refl, sym, subst, inl, inr, arith}
use Rattle.op_sched.specs.Grammar.{numbered_lines, IsObserverLine, IsFirstBadAfterObservers, IsFirstBadAfterSpares}
use Rattle.op_sched.proofs.Courses.{behind_observers, behind_none, bad_behind}
use Rattle.op_sched.proofs.reading.after_spares.Goals as goal

pub next_numbered-requires : goal.next_numbered-requires
next_numbered-requires c = c.requires

pub returns-in_default-clause-found : goal.returns-in_default-clause-found
returns-in_default-clause-found c =
    let none = rw c.in_default.is at c.next_numbered.ensures.none in
    rw (none, c.no_course.ensures) (inr (refl, tt))

pub returns-in_err-observers-clause-found : goal.returns-in_err-observers-clause-found
returns-in_err-observers-clause-found c = search rules

pub returns-in_err-observers-clause-bad : goal.returns-in_err-observers-clause-bad
returns-in_err-observers-clause-bad c = search rules

pub overflow_add-next : goal.overflow_add-next
overflow_add-next c = omega (arith, c.in-Ok.ensures.fits, c.requires.fits)

pub after_observers-requires : goal.after_observers-requires
after_observers-requires c = record { fits = omega (arith, c.in-Ok.ensures.fits, c.requires.fits) }

pub after_observers-requires-in-None : goal.after_observers-requires-in-None
after_observers-requires-in-None c = c.requires

pub returns-in-Some-clause-found : goal.returns-in-Some-clause-found
returns-in-Some-clause-found c =
    let a = c.args in
    let names : IsObserverLine a.members.now a.spares.now c.in-Ok.next.line.now c.in-Some.observers = rw c.in-Some.is at c.in_ok-observers.ensures in
    behind_observers a.members.now a.spares.now c.in-Some.observers _ (numbered_lines (c.in-Ok.next.number + 1) c.in-Ok.next.after.now) (numbered_lines a.number a.text.now) c.in-Ok.ensures.found names
    c.after_observers.result c.after_observers.ensures.observers c.after_observers.ensures.found

pub returns-in-Some-clause-bad : goal.returns-in-Some-clause-bad
returns-in-Some-clause-bad c =
    let a = c.args in
    let names : IsObserverLine a.members.now a.spares.now c.in-Ok.next.line.now c.in-Some.observers = rw c.in-Some.is at c.in_ok-observers.ensures in
    bad_behind c.after_observers.result (IsFirstBadAfterObservers (numbered_lines (c.in-Ok.next.number + 1) c.in-Ok.next.after.now)) (IsFirstBadAfterSpares a.members.now a.spares.now (numbered_lines a.number a.text.now))
    (λ n p. subst (λ (l : List (ℕ × List ℕ)). IsFirstBadAfterSpares a.members.now a.spares.now l n) (sym c.in-Ok.ensures.found) (inl ((c.in-Some.observers, names), p)))
    c.after_observers.ensures.bad

pub returns-in-None-clause-found : goal.returns-in-None-clause-found
returns-in-None-clause-found c =
    let a = c.args in
    let r = c.after_observers-in-None in
    behind_none a.members.now a.spares.now c.new.result (numbered_lines a.number a.text.now) c.new.ensures r.result r.ensures.observers r.ensures.found

pub returns-in-None-clause-bad : goal.returns-in-None-clause-bad
returns-in-None-clause-bad c =
    let a = c.args in
    let none : (x : List ℕ) → IsObserverLine a.members.now a.spares.now c.in-Ok.next.line.now x → ⊥ = rw c.in-None.is at c.in_ok-observers.ensures in
    let r = c.after_observers-in-None in
    bad_behind r.result (IsFirstBadAfterObservers (numbered_lines a.number a.text.now)) (IsFirstBadAfterSpares a.members.now a.spares.now (numbered_lines a.number a.text.now))
    (λ n p. subst (λ (l : List (ℕ × List ℕ)). IsFirstBadAfterSpares a.members.now a.spares.now l n) (sym c.in-Ok.ensures.found)
    (inr (λ x. none x.0 x.1, subst (λ (l : List (ℕ × List ℕ)). IsFirstBadAfterObservers l n) c.in-Ok.ensures.found p)))
    r.ensures.bad
