use Rattle.std.proofs.Common.{◌≡◌, ◌-◌, List, Some, true, is_some, sym, ap, ◌∙◌}
use Rattle.op_types.specs.Joinings.{Held, held_with, held_run}
use Rattle.op_types.specs.declared.log.Entry.{Entry}
use Rattle.op_follower.proofs.Gaps.{run_front}
use Rattle.op_follower.proofs.fronts.whole_sync.Goals as goal

pub returns : goal.returns
returns c =
    let h : Held = held_with c.args.staged.now c.args.part.now.at c.args.part.now.run in
    let start = c.args.part.now.start in
    let count = c.args.part.now.end - start in
    let whole : is_some (held_run h start count) ≡ true = sym c.is_whole.ensures ∙ c.if-not-is_whole.false in
    sym (run_front h start count whole ∙ ap (λ (es : List Entry). Some es) (sym c.in_ok-front.ensures))
