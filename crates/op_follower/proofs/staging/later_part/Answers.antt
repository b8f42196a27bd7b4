use Rattle.std.proofs.Common.{◌≡◌, ℕ, ◌+◌, ◌-◌, ◌++◌, List, length, ap, ◌∙◌}
use Rattle.std.proofs.lemmas.Result.{IfOk-weaker}
use Rattle.op_types.specs.Limits.{positions_end}
use Rattle.op_types.specs.Changes.{len_of}
use Rattle.op_types.specs.Joinings.{Held, held_with}
use Rattle.op_types.specs.Stages.{front_from, front_up_to}
use Rattle.op_types.specs.declared.changes.Change.{Change}
use Rattle.op_types.specs.declared.log.Entry.{Entry}
use Rattle.op_types.specs.declared.messages.Body.{Body}
use Rattle.op_types.specs.declared.plan.Plan.{Plan}
use Rattle.op_types.specs.declared.turn.Turn.TheVariants as turn
use Rattle.op_protocol.specs.Follower.{appended_staged}
use Rattle.op_protocol.specs.Parts.{appending}
use Rattle.op_follower.specs.Staging.{DoesStep, telling, appended_body}
use Rattle.op_follower.proofs.Gaps.{front_whole, below_with}
use Rattle.op_follower.proofs.PartRows.{later_does}
use Rattle.op_follower.proofs.staging.later_part.Goals as goal

pub returns-clause-row : goal.returns-clause-row
returns-clause-row c =
    let p = c.args.member.now.part.now in
    let q = c.args.from in
    let n = c.args.ballot in
    let h : Held = c.args.staged.now.items in
    let at = c.args.part.at in
    let run : List Entry = c.args.part.run in
    let held : Held = held_with h at run in
    let es : List Entry = c.in_ok-entries.entries in
    let from = c.log_len-len.result in
    let end : ℕ = from + c.len.result in
    let front : es ≡ front_from held (len_of p) =
    c.in_ok-entries.ensures
    ∙ ap (λ (k : Held). front_up_to (positions_end - from) (held_with k at run) from) c.as_slice.ensures.items
    ∙ ap (λ (k : ℕ). front_up_to (positions_end - k) held k) c.log_len-len.ensures
    ∙ front_whole held (len_of p) positions_end c.requires.positions.small (below_with positions_end h at run c.requires.staged.small c.requires.admitted) in
    let batch : c.push_append.new.batch ≡ appending es = c.in_ok-push_append.ensures ∙ ap (λ (x : Plan). x.batch ++ appending es) c.in_ok-plan.ensures in
    let ends : end ≡ len_of p + length es = ap (λ (k : ℕ). k + c.len.result) c.log_len-len.ensures ∙ ap (λ (k : ℕ). len_of p + k) c.len.ensures in
    let says : c.appended_body.result ≡ appended_body n (len_of p + length es) at = c.appended_body.ensures ∙ ap (λ (k : ℕ). appended_body n k at) ends in
    IfOk-weaker c.staging.result _ (λ (plan : Plan). DoesStep h plan (λ v. appended_staged p v q n at (held_with v.staged at run)))
    (λ (plan : Plan) is. later_does p q n at run h es plan front
    (is
    ∙ ap (λ (x : Plan). let y : Plan = record x { batch = c.push_append.new.batch; turn = turn.Stage at run end } in y) c.in_ok-plan.ensures
    ∙ ap (λ (b : List Change). let y : Plan = record (telling p q b c.appended_body.result) { turn = turn.Stage at run end } in y) batch
    ∙ ap (λ (b : Body). let y : Plan = record (telling p q (appending es) b) { turn = turn.Stage at run end } in y) says
    ∙ ap (λ (k : ℕ). let y : Plan = record (telling p q (appending es) (appended_body n (len_of p + length es) at)) { turn = turn.Stage at run k } in y) ends))
    c.staging.ensures.plan
