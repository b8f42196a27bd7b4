use Rattle.std.proofs.Common.{◌≡◌, ◌≤◌, ℕ, ◌+◌, ◌-◌, Bool, true, cond, List, length, drop, Some, None, sym, ap, ◌∙◌, subst, arith}
use Rattle.op_types.specs.Changes.{EndsNowhere, len_of}
use Rattle.op_types.specs.Limits.{positions_end}
use Rattle.op_types.specs.declared.log.Entry.{Entry}
use Rattle.op_protocol.specs.Watching.{takes_shown}
use Rattle.op_watch.proofs.Lacked.{takes_of, lacks_room, lacks_stops}
use Rattle.op_watch.proofs.taking.lacking.Goals as goal

pub overflow_sub-count : goal.overflow_sub-count
overflow_sub-count c =
    let p = c.args.member.now.part.now in
    let es = c.args.entries in
    let takes : takes_shown p c.args.conf c.args.at es ≡ true =
    sym (c.takes_shown.ensures
    ∙ ap (λ (l : List Entry). takes_shown p c.args.conf c.args.at l) c.as_slice.ensures)
    ∙ c.if-takes_shown.true in
    let low = (takes_of p c.args.conf c.args.at es takes).low in
    let len = c.log_len.ensures in
    omega arith

pub returns-then-takes_shown-clause-lacks : goal.returns-then-takes_shown-clause-lacks
returns-then-takes_shown-clause-lacks c =
    let p = c.args.member.now.part.now in
    let es = c.args.entries in
    let takes : takes_shown p c.args.conf c.args.at es ≡ true =
    sym (c.takes_shown.ensures
    ∙ ap (λ (l : List Entry). takes_shown p c.args.conf c.args.at l) c.as_slice.ensures)
    ∙ c.if-takes_shown.true in
    ap (λ (l : List Entry). Some l) (c.in_ok-new.ensures
    ∙ ap (λ (n : ℕ). drop (n - c.args.at) es) c.log_len.ensures)
    ∙ sym (ap (λ (b : Bool). cond b (Some (drop (len_of p - c.args.at) es)) None) takes)

pub returns-then-takes_shown-clause-room : goal.returns-then-takes_shown-clause-room
returns-then-takes_shown-clause-room c =
    let p = c.args.member.now.part.now in
    let es = c.args.entries in
    let takes : takes_shown p c.args.conf c.args.at es ≡ true =
    sym (c.takes_shown.ensures
    ∙ ap (λ (l : List Entry). takes_shown p c.args.conf c.args.at l) c.as_slice.ensures)
    ∙ c.if-takes_shown.true in
    subst (λ (l : List Entry). len_of p + length l ≤ positions_end)
    (sym (c.in_ok-new.ensures ∙ ap (λ (n : ℕ). drop (n - c.args.at) es) c.log_len.ensures))
    (lacks_room p c.args.at es (takes_of p c.args.conf c.args.at es takes))

pub returns-then-takes_shown-clause-stops : goal.returns-then-takes_shown-clause-stops
returns-then-takes_shown-clause-stops c =
    let p = c.args.member.now.part.now in
    let es = c.args.entries in
    let takes : takes_shown p c.args.conf c.args.at es ≡ true =
    sym (c.takes_shown.ensures
    ∙ ap (λ (l : List Entry). takes_shown p c.args.conf c.args.at l) c.as_slice.ensures)
    ∙ c.if-takes_shown.true in
    subst (λ (l : List Entry). EndsNowhere p.conf l)
    (sym (c.in_ok-new.ensures ∙ ap (λ (n : ℕ). drop (n - c.args.at) es) c.log_len.ensures))
    (lacks_stops p c.args.at es (takes_of p c.args.conf c.args.at es takes))

pub returns-clause-lacks : goal.returns-clause-lacks
returns-clause-lacks c =
    let p = c.args.member.now.part.now in
    let es = c.args.entries in
    let left =
    sym (c.takes_shown.ensures
    ∙ ap (λ (l : List Entry). takes_shown p c.args.conf c.args.at l) c.as_slice.ensures)
    ∙ c.if-takes_shown.false in
    sym (ap (λ (b : Bool). cond b (Some (drop (len_of p - c.args.at) es)) None) left)
