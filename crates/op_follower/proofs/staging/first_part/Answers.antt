use Rattle.std.proofs.Common.{◌≡◌, ℕ, ◌+◌, ◌-◌, ◌≤◌, List, Some, None, length, ap, ◌∙◌, sym, arith}
use Rattle.std.proofs.lemmas.Result.{IfOk-weaker}
use Rattle.op_types.specs.Limits.{positions_end}
use Rattle.op_types.specs.Changes.{len_of}
use Rattle.op_types.specs.Joinings.{Held, held_with, held_run}
use Rattle.op_types.specs.declared.log.Entry.{Entry}
use Rattle.op_types.specs.declared.plan.Plan.{Plan}
use Rattle.op_types.specs.declared.turn.Turn.TheVariants as turn
use Rattle.op_protocol.specs.Follower.{on_first_part}
use Rattle.op_follower.specs.Staging.{DoesStep}
use Rattle.op_follower.proofs.Gaps.{below_with, run_small}
use Rattle.op_follower.proofs.PartRows.{missing_does, whole_does}
use Rattle.op_follower.proofs.staging.first_part.Goals as goal

pub synced-requires-clause-admitted : goal.synced-requires-clause-admitted
synced-requires-clause-admitted c =
    let h : Held = c.args.staged.now.items in
    let part = c.args.part in
    let count : ℕ = part.end - part.start in
    let held : Held = held_with h part.at part.run in
    let whole : held_run held part.start count ≡ Some c.in-Some.entries =
    sym (sym c.in-Some.is ∙ c.in_ok-whole_sync.ensures ∙ ap (λ (k : Held). held_run (held_with k part.at part.run) part.start count) c.as_slice.ensures.items) in
    let ends : part.start ≤ positions_end = let small = c.requires.positions.small in let len = c.log_len-len.ensures in omega arith in
    run_small held part.start count c.in-Some.entries (below_with positions_end h part.at part.run c.requires.staged.small c.requires.admitted) ends whole

pub returns-in-None-clause-row : goal.returns-in-None-clause-row
returns-in-None-clause-row c =
    let p = c.args.member.now.part.now in
    let h : Held = c.args.staged.now.items in
    let part = c.args.part in
    let count : ℕ = part.end - part.start in
    let missing : None ≡ held_run (held_with h part.at part.run) part.start count =
    sym c.in-None.is ∙ c.in_ok-whole_sync.ensures ∙ ap (λ (k : Held). held_run (held_with k part.at part.run) part.start count) c.as_slice.ensures.items in
    let high : part.start ≤ len_of p = let len = c.log_len-len.ensures in omega arith in
    IfOk-weaker c.staging.result _ (λ (plan : Plan). DoesStep h plan (λ v. on_first_part p v c.args.from c.args.ballot part))
    (λ (plan : Plan) is. missing_does p c.args.from c.args.ballot part c.if-part-member.false high c.if-part.false c.requires.run h plan missing
    (is ∙ ap (λ (x : Plan). let y : Plan = record x { turn = turn.Stage part.at part.run 0 } in y) c.nothing-in-None.ensures))
    c.staging.ensures.plan

pub returns-in_ok-plan-in-Some-clause-row : goal.returns-in_ok-plan-in-Some-clause-row
returns-in_ok-plan-in-Some-clause-row c =
    let p = c.args.member.now.part.now in
    let h : Held = c.args.staged.now.items in
    let part = c.args.part in
    let count : ℕ = part.end - part.start in
    let es : List Entry = c.in-Some.entries in
    let whole : Some es ≡ held_run (held_with h part.at part.run) part.start count =
    sym c.in-Some.is ∙ c.in_ok-whole_sync.ensures ∙ ap (λ (k : Held). held_run (held_with k part.at part.run) part.start count) c.as_slice.ensures.items in
    let high : part.start ≤ len_of p = let len = c.log_len-len.ensures in omega arith in
    let end : ℕ = part.start + length es in
    let ends : part.start + c.len.result ≡ end = ap (λ (k : ℕ). part.start + k) c.len.ensures in
    IfOk-weaker c.staging-in-Some.result _ (λ (plan : Plan). DoesStep h plan (λ v. on_first_part p v c.args.from c.args.ballot part))
    (λ (plan : Plan) is. whole_does p c.args.from c.args.ballot part c.if-part-member.false high c.if-part.false c.requires.run h es plan c.requires.positions whole
    (is
    ∙ ap (λ (k : ℕ). let y : Plan = record c.in_ok-plan-in-Some.plan { turn = turn.Stage part.at part.run k } in y) ends
    ∙ ap (λ (x : Plan). let y : Plan = record x { turn = turn.Stage part.at part.run end } in y) c.in_ok-plan-in-Some.ensures))
    c.staging-in-Some.ensures.plan
