use Rattle.std.proofs.Common.{take}
use Rattle.op_deciding.specs.Deciding.{Continues}
use Rattle.op_deciding.proofs.served.Served.serve.Given as goal

abbrev pub invariant-entries : goal.invariant-entries
invariant-entries l = Continues l.service.service l.initial.self l.self (take l.entry-index l.entries)
