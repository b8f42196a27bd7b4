use Rattle.std.proofs.Common.{◌≡◌, sym, ap, ◌∙◌, [], ◌∷◌, ◌++◌, ◌+◌, take, append-nil, append_assoc}
use Rattle.std.proofs.lemmas.List.{take_more}
use Rattle.op_types.specs.declared.log.Entry.TheVariants as entry
use Rattle.op_spec.specs.Service.{all_after, service_with, answer_of}
use Rattle.op_change.specs.Over.{service_over, answers_of}
use Rattle.op_change.proofs.Services.{one_more, answers_more}
use Rattle.op_change.proofs.change.KvChange.serve_all.Goals as goal
use Rattle.op_change.proofs.change.KvChange.serve_all.Goals.{in-Command+in_ok-serve+in_ok-push, in_default}

-- the part on the left is one entry longer
taken : (c : goal.Joined-entry) → take (c.entries.entry-index + 1) c.args.entries.now ≡ take c.entries.entry-index c.args.entries.now ++ c.entry-item.result ∷ []
taken c =
    take_more c.args.entries.now c.entries.entry-index c.entry-item.result c.entries-test.true
    ∙ (λ i. take c.entries.entry-index c.args.entries.now ++ sym c.entry-item.is i ∷ [])

pub entries-preserved : goal.entries-preserved
entries-preserved c =
    let s = service_over c.args.below.now c.args.self.now in
    let old = c.args.answers.now in
    let es = take c.entries.entry-index c.args.entries.now in
    let fs = take (c.entries.entry-index + 1) c.args.entries.now in
    elim c.match-entry.branch [
      | in-Command+in_ok-serve+in_ok-push w ↦
          let e = entry.Command w.in-Command.command in
          let t = taken c ∙ ap (λ e. es ++ e ∷ []) w.in-Command.is in
          record {
            change = ap (service_over c.args.below.now) w.self-is ∙ w.in_ok-serve.ensures.effect ∙ ap (λ s. service_with s w.in-Command.command) c.entries.invariant.change ∙ one_more s es fs e t;
            answers = w.answers-is ∙ w.in_ok-push.ensures.ok
                ∙ (λ i. c.entries.invariant.answers i ++ (w.in_ok-serve.ensures.answer ∙ ap (λ s. answer_of s w.in-Command.command) c.entries.invariant.change) i ∷ [])
                ∙ append_assoc old (answers_of s es) (answers_of (all_after s es) (e ∷ [])) ∙ ap (λ l. old ++ l) (answers_more s es fs e t);
          }
      | in_default w ↦
          let e = entry.Stop w.in_default.field-0 in
          let t = taken c ∙ ap (λ e. es ++ e ∷ []) w.in_default.is in
          record {
            change = ap (service_over c.args.below.now) w.self-is ∙ c.entries.invariant.change ∙ one_more s es fs e t;
            answers = w.answers-is ∙ c.entries.invariant.answers ∙ ap (λ l. old ++ l) (sym (append-nil (answers_of s es)) ∙ answers_more s es fs e t);
          }
    ]
