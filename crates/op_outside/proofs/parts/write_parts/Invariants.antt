use Rattle.std.proofs.Common.{◌≡◌, map, take}
use Rattle.std.specs.List.{concat}
use Rattle.std.specs.Io.KnownBytes.{Appends}
use Rattle.op_outside.proofs.parts.write_parts.Given as goal

-- the parts so far stand, and no write has failed
abbrev pub invariant-loop-part : goal.invariant-loop-part
invariant-loop-part g l =
    let held = g.K.Sink.held in
    let faults = g.K.Sink.fault_count in
    record {
      so_far : Appends (held l.fn.sink) (held l.sink) (concat (map (λ part. part.now) (take l.part-index l.parts)));
      same : faults l.sink ≡ faults l.fn.sink;
    }
