use Rattle.std.proofs.Common.{◌≡◌, ◌≤◌, ℕ, None, true, is_some, sym, ap, ◌∙◌, arith}
use Rattle.op_types.specs.Joinings.{Held, held_at, held_with}
use Rattle.op_follower.proofs.Gaps.{same_at, run_more, run_none}
use Rattle.op_follower.proofs.fronts.is_whole.Goals as goal

pub returns-in-None : goal.returns-in-None
returns-in-None c =
    let run = c.args.part.now.run in
    let h : Held = held_with c.args.staged.now c.args.part.now.at run in
    let p = c.loop-place.place in
    let left : Held = c.passed_below-rest.result.now in
    let same : held_at left p ≡ held_at c.args.staged.now p = c.passed_below-rest.ensures.same p (omega arith) ∙ c.loop-place.invariant.same p (omega arith) in
    let none : held_at h p ≡ None = sym (same_at left c.args.staged.now c.args.part.now.at run p same) ∙ c.in-None.ensures.none in
    sym (run_none h p c.args.part.now.end c.loop-place-test.true none) ∙ c.loop-place.invariant.whole

pub loop-place-preserved : goal.loop-place-preserved
loop-place-preserved c =
    let run = c.args.part.now.run in
    let h : Held = held_with c.args.staged.now c.args.part.now.at run in
    let p = c.loop-place.place in
    let left : Held = c.passed_below-rest.result.now in
    let stays : (i : ℕ) → p ≤ i → held_at left i ≡ held_at c.args.staged.now i = λ i le. c.passed_below-rest.ensures.same i le ∙ c.loop-place.invariant.same i le in
    let here : is_some (held_at h p) ≡ true = ap is_some (sym (same_at left c.args.staged.now c.args.part.now.at run p (stays p (omega arith))) ∙ c.in-Some.ensures.some) in
    record {
      rising = c.passed_below-rest.ensures.rising;
      same = λ i le. stays i (omega arith);
      whole = sym (run_more h p c.args.part.now.end c.loop-place-test.true here) ∙ c.loop-place.invariant.whole;
    }
