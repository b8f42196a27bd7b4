use Rattle.std.proofs.Common.{rules, ◌≡◌, ◌==◌, ◌∙◌, ℕ, List, slice_index_or, Some, None, sym, ap}
use Rattle.std.specs.List.{position}
use Rattle.op_serving.specs.State.{Table, find}
use Rattle.op_serving.specs.Room.{count_at, without_first}
use Rattle.op_queues.proofs.Counted.{counts_first}
use Rattle.op_queues.proofs.Frames.{first_none, found_place, is_place, no_place, none_found}
use Rattle.op_queues.proofs.behind.Behind.take_first.Goals as goal
use Rattle.op_queues.proofs.behind.Behind.take_first.Goals.{After-count_down}

pub returns-in_err-at-clause-first : goal.returns-in_err-at-clause-first
returns-in_err-at-clause-first c =
    let none : position (λ (f : ℕ × List ℕ). f.0 == c.args.conn) c.args.self.now ≡ None = search rules in
    c.from_residual.ensures ∙ sym (no_place c.args.conn c.args.self.now none)

pub returns-in_err-at-clause-rest : goal.returns-in_err-at-clause-rest
returns-in_err-at-clause-rest c =
    let none : position (λ (f : ℕ × List ℕ). f.0 == c.args.conn) c.args.self.now ≡ None = search rules in
    sym (first_none c.args.conn c.args.self.now (no_place c.args.conn c.args.self.now none))

-- what is taken out, and what is left
taken : (c : After-count_down)
    → (find c.args.conn c.self.inside.messages.items ≡ Some c.in_ok-_conn.message)
    × (c.remove.new.self.items ≡ without_first c.args.conn c.self.inside.messages.items)
taken c =
    let t : Table (List ℕ) = c.self.inside.messages.items in
    let x : ℕ × List ℕ = (c.in_ok-_conn._conn, c.in_ok-_conn.message) in
    let some : position (λ (f : ℕ × List ℕ). f.0 == c.args.conn) t ≡ Some c.in_ok-at.at = search rules in
    let place = is_place c.args.conn t c.in_ok-at.at some in
    let found = found_place c.args.conn t x c.in_ok-at.at place.0 (place.1) in
    let value : x ≡ slice_index_or t c.in_ok-at.at x = c.in_ok-_conn.ensures.value in
    (found.0 ∙ ap (λ (f : ℕ × List ℕ). Some f.1) (sym value), c.in_ok-_conn.ensures.items ∙ sym found.1)

pub returns-then-count-eq0-clause-first : goal.returns-then-count-eq0-clause-first
returns-then-count-eq0-clause-first c =
    let none : count_at c.args.conn c.args.self.now ≡ 0 = search rules in
    sym (none_found c.args.conn c.args.self.now none)

pub returns-then-count-eq0-clause-rest : goal.returns-then-count-eq0-clause-rest
returns-then-count-eq0-clause-rest c =
    let none : count_at c.args.conn c.args.self.now ≡ 0 = search rules in
    sym (first_none c.args.conn c.args.self.now (none_found c.args.conn c.args.self.now none))

pub invariant_of-self-2 : goal.invariant_of-self-2
invariant_of-self-2 c =
    let is = taken c in
    counts_first c.self.inside.counts.entries c.count_down.new.counts.entries c.self.inside.messages.items c.args.conn c.self.invariant
    c.in_ok-_conn.message c.remove.new.self.items is.0 c.count_down.ensures is.1

pub returns-clause-first : goal.returns-clause-first
returns-clause-first c = sym (taken c).0 ∙ ap (find c.args.conn) c.self.view_is

pub returns-clause-rest : goal.returns-clause-rest
returns-clause-rest c = (taken c).1 ∙ ap (without_first c.args.conn) c.self.view_is
