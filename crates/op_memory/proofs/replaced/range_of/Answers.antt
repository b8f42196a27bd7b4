use Rattle.std.proofs.Common.{◌≡◌, ℕ, ◌≤◌, length, sym, subst, arith}
use Rattle.op_memory.specs.declared.call.Call.{Call}
use Rattle.op_memory.specs.declared.call.Call.TheVariants.{Write}
use Rattle.op_memory.specs.Images.{IsWithin}
use Rattle.op_memory.specs.Undoing.{IsRestored}
use Rattle.op_memory.proofs.Undoing.{restored}
use Rattle.op_memory.proofs.replaced.range_of.Goals as goal

pub returns-in-Write-clause-restored : goal.returns-in-Write-clause-restored
returns-in-Write-clause-restored c =
    let bytes = c.args.bytes.now in
    let w = c.in-Write in
    let within : w.at ≤ length bytes = subst (λ (call : Call). IsWithin call bytes) w.is c.requires in
    let there : c.place.result ≡ w.at = omega (arith, c.place.ensures, within) in
    subst (λ (call : Call). IsRestored call bytes c.place.result c.len.result) (sym w.is)
    (subst (λ (at : ℕ). IsRestored (Write w.at w.piece) bytes at c.len.result) (sym there)
    (subst (λ (count : ℕ). IsRestored (Write w.at w.piece) bytes w.at count) (sym c.len.ensures) (restored bytes w.piece.items w.at within)))
