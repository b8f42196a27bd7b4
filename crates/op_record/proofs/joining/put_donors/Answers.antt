use Rattle.std.proofs.Common.{ℕ, List, ◌++◌, length, take, subst, rules}
use Rattle.std.specs.Int.{w8}
use Rattle.std.specs.List.{flat_map}
use Rattle.op_fields.specs.Form.{encoded}
use Rattle.op_fields.specs.Prefixes.{KeepsPrefix}
use Rattle.op_fields.proofs.Prefixes.{kept_through}
use Rattle.op_record.specs.Forms.{donor}
use Rattle.op_record.proofs.joining.put_donors.Goals as goal

pub returns-in_err-put_donor-clause-err : goal.returns-in_err-put_donor-clause-err
returns-in_err-put_donor-clause-err c =
    let old : List ℕ = c.args.out.now.items in
    let new : List ℕ = c.put_donor.new.out.items in
    let count : List ℕ = encoded w8 (length c.args.j.now.donors) in
    let written : List ℕ = flat_map (donor 0 0).text (take c.donors.d-index c.args.j.now.donors) in
    let kept : KeepsPrefix (old ++ count ++ written) new = subst (λ (was : List ℕ). KeepsPrefix was new) c.donors.invariant c.in_err-put_donor.ensures.err in
    let all : KeepsPrefix old new = kept_through old count new (kept_through (old ++ count) written new kept) in
    search (rules, all)
