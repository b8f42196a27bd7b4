use Rattle.std.proofs.Common.{◌≡◌, arith, length, length-take, take, drop, ap, ◌∙◌}
use Rattle.op_serve.proofs.Folders.{start_of}
use Rattle.op_serve.proofs.Looking.{ill_then, reads_ill, reads_well, well_then}
use Rattle.op_serve.proofs.folder.read_start.Goals as goal

pub returns-in-Err-clause-failed : goal.returns-in-Err-clause-failed
returns-in-Err-clause-failed g c = reads_ill _ _ _ c.in-Err.ensures.does

pub returns-in-Ok-read-clause-read : goal.returns-in-Ok-read-clause-read
returns-in-Ok-read-clause-read g c =
    let len = reads_well _ _ _ c.in-Ok.ensures.does in
    let size : length c.read.new.buf ≡ c.min.result = grind (arith, length-take, c.read.auto.buf, c.told-buf, c.min.ensures) in
    record {
      read = well_then _ _ _ len (reads_well _ _ _ c.in-Ok-read.ensures.does);
      is = λ obey.
          start_of _ c.read.new.buf _ c.min.result (length (take c.min.result c.args.buf.now)) c.in-Ok.len size (c.in-Ok-read.ensures.bytes (len.only.model.1 obey) ∙ ap (λ bs. take (length (take c.min.result c.args.buf.now)) (drop 0 bs)) (len.same obey)) c.min.ensures
          (c.in-Ok.ensures.length.is obey);
    }

pub returns-in-Err-read-clause-failed : goal.returns-in-Err-read-clause-failed
returns-in-Err-read-clause-failed g c = ill_then _ _ _ (reads_well _ _ _ c.in-Ok.ensures.does) (reads_ill _ _ _ c.in-Err-read.ensures.does)
