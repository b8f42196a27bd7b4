use Rattle.std.proofs.Common.{refl, take, drop, arith, ap, ◌∙◌}
use Rattle.op_serve.proofs.Folders.{first_says, none_short}
use Rattle.op_serve.proofs.Looking.{ill_then, reads_ill, reads_well, well_then}
use Rattle.op_serve.proofs.folder.is_empty.Goals as goal

pub returns-in-Err : goal.returns-in-Err
returns-in-Err g c = reads_ill _ _ _ c.in-Err.ensures.does

pub returns-then-len-le1 : goal.returns-then-len-le1
returns-then-len-le1 g c = (reads_well _ _ _ c.in-Ok.ensures.does, λ obey. none_short _ _ c.if-len-le1.true (c.in-Ok.ensures.length.is obey))

pub returns-in-Ok-read : goal.returns-in-Ok-read
returns-in-Ok-read g c =
    let len = reads_well _ _ _ c.in-Ok.ensures.does in (
      well_then _ _ _ len (reads_well _ _ _ c.in-Ok-read.ensures.does),
      λ obey. first_says _ c.read.new.buf _ (omega (arith, c.if-len-le1.false, c.in-Ok.ensures.length.is obey))
          (c.in-Ok-read.ensures.bytes (len.only.model.1 obey) ∙ ap (λ bs. take 1 (drop 0 bs)) (len.same obey)) refl,
    )

pub returns-in-Err-read : goal.returns-in-Err-read
returns-in-Err-read g c = ill_then _ _ _ (reads_well _ _ _ c.in-Ok.ensures.does) (reads_ill _ _ _ c.in-Err-read.ensures.does)
