use Rattle.std.proofs.Common.{rules}
use Rattle.op_text.proofs.FoundAlike.{ok_found_as}
use Rattle.op_sched.proofs.Spares.{not_false, spare_words, spare_words_back}
use Rattle.op_sched.proofs.reading.forms.spares.Goals as goal

pub returns : goal.returns
returns c =
    let is = not_false c.is_name.result (search rules) in
    rw c.in-Some.ensures.cases.0 (rw (c.is_name.ensures.0 is) (ok_found_as _ _ (λ x h. spare_words c.args.members.now x _ h) (λ x h. spare_words_back c.args.members.now x _ h) c.spare_ids.result c.spare_ids.ensures))
