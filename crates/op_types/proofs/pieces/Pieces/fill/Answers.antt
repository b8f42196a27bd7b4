use Rattle.std.proofs.Common.{ℕ, ◌+◌, List, Option, set, get_or, ap, sym, ◌∙◌, arith}
use Rattle.op_types.specs.Stages.{Pieces, kept_or}
use Rattle.op_types.proofs.Pieced.{at_none, at_more}
use Rattle.op_types.proofs.pieces.Pieces.fill.Goals as goal

pub loop-i-init : goal.loop-i-init
loop-i-init c = record {
  at = ap (λ (p : Pieces). p.at) c.self.view_is;
  bytes = ap (λ (p : Pieces). p.bytes) c.self.view_is ∙ sym (at_none c.args.self.now.bytes c.args.from);
}

pub loop-i-preserved : goal.loop-i-preserved
loop-i-preserved c =
    let held = c.args.self.now.bytes in
    let so = c.loop-i.invariant.bytes in
    let i : ℕ = c.loop-i.i in
    let place : ℕ = c.args.from + i in
    record {
      at = c.loop-i.invariant.at;
      bytes =
          ap (λ (o : Option ℕ). set c.loop-i.self-inside.bytes.items place o) c.kept_or.ensures
          ∙ ap (λ (o : Option ℕ). set c.loop-i.self-inside.bytes.items place (kept_or o (get_or c.args.bytes.now i 0))) c.index.ensures
          ∙ ap (λ (l : List (Option ℕ)). set l place (kept_or (get_or l place c.index.result.now) (get_or c.args.bytes.now i 0))) so
          ∙ sym (at_more held c.args.from c.args.bytes.now i c.index.result.now c.loop-i-test.true (omega (arith, c.requires)));
    }
