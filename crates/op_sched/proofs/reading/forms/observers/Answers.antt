use Rattle.std.proofs.Common.{rules}
use Rattle.op_text.proofs.FoundAlike.{ok_found_as}
use Rattle.op_sched.proofs.Spares.{not_false, observer_words, observer_words_back}
use Rattle.op_sched.proofs.reading.forms.observers.Goals as goal

pub returns : goal.returns
returns c =
    let is = not_false c.is_name.result (search rules) in
    let a = c.args in
    rw c.in-Some.ensures.cases.0
    (rw (c.is_name.ensures.0 is)
    (ok_found_as _ _ (λ x h. observer_words a.members.now a.spares.now x _ h) (λ x h. observer_words_back a.members.now a.spares.now x _ h) c.observer_ids.result c.observer_ids.ensures))
