use Rattle.std.proofs.Common.{◌≡◌, ◌∙◌, length, sym, ap, rules}
use Rattle.std.proofs.lemmas.List.{nil_from_length}
use Rattle.op_memory.specs.Histories.{start_of}
use Rattle.op_memory.specs.Images.{state_of, fresh}
use Rattle.op_memory.proofs.Wholes.{completed_last, none_last}
use Rattle.op_memory.proofs.Left.{whole_left}
use Rattle.op_memory.proofs.disk_history.DiskHistory.whole.Goals as goal
use Rattle.op_memory.proofs.disk_history.DiskHistory.whole.Goals.{in-Some+in_ok-complete, in_default}

pub returns-clause-whole : goal.returns-clause-whole
returns-clause-whole c =
    let tied = c.args.self.now.tied in
    let slice : c.as_slice.result.now ≡ c.args.self.now.calls.items = c.as_slice.ensures.value in
    let same : c.in_ok-bytes.bytes.items ≡ (state_of (fresh (start_of c.args.self.now)) c.args.self.now.calls.items).content =
    (let copied : c.in_ok-bytes.bytes.items ≡ c.args.self.now.bytes.items = search rules in copied ∙ tied.is) in
    elim c.match-split_last.branch [
      | in-Some+in_ok-complete w ↦ ap (λ v. v.items) w.bytes-is ∙ w.in_ok-complete.ensures
          ∙ completed_last (fresh (start_of c.args.self.now)) c.args.self.now.calls.items w.in-Some.field-0-1.now w.in-Some.call.now c.in_ok-bytes.bytes.items (sym slice ∙ w.in-Some.ensures.cases.0) same
      | in_default w ↦ ap (λ v. v.items) w.bytes-is ∙ none_last (start_of c.args.self.now) c.args.self.now.calls.items c.in_ok-bytes.bytes.items (nil_from_length c.args.self.now.calls.items (sym (ap length slice) ∙ w.in_default.ensures.cases)) same
    ]

pub returns-clause-left : goal.returns-clause-left
returns-clause-left c =
    whole_left (start_of c.args.self.now) c.args.self.now.calls.items c.match-split_last.bytes.items c.args.self.now.bytes.items c.args.self.now.tied (returns-clause-whole c)
