use Rattle.std.proofs.Common.{◌++◌, ap, drop, refl}
use Rattle.op_conns.specs.Tables.{bytes_of}
use Rattle.op_conns.proofs.Apart.{insert_other, insert_own, remove_other, changed_other, changed_own, dropped_own}
use Rattle.op_conns.proofs.laws.queues_apart.Goals as goal

pub returns-clause-added : goal.returns-clause-added
returns-clause-added g c d bytes t differ = ap bytes_of (insert_other c d bytes t differ)

pub returns-clause-removed : goal.returns-clause-removed
returns-clause-removed g c d t differ = ap bytes_of (remove_other c d t differ)

pub returns-clause-appended : goal.returns-clause-appended
returns-clause-appended g c d bytes t differ = changed_other (λ q. q ++ bytes) c d _ t differ

pub returns-clause-taken : goal.returns-clause-taken
returns-clause-taken g c d n t differ = changed_other (drop n) c d _ t differ

pub returns-clause-own_added : goal.returns-clause-own_added
returns-clause-own_added g c bytes t = ap bytes_of (insert_own c bytes t)

pub returns-clause-own : goal.returns-clause-own
returns-clause-own g c bytes t there = changed_own (λ q. q ++ bytes) c _ t refl there

pub returns-clause-own_taken : goal.returns-clause-own_taken
returns-clause-own_taken g c n t = dropped_own c n _ t refl
