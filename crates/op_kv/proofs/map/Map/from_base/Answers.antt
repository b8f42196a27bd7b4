use Rattle.std.proofs.Common.{◌<◌, ◌^◌, length, sym, ap, subst, ◌∙◌, arith}
use Rattle.op_spec.specs.Service.{base_bytes}
use Rattle.op_spec.specs.ServiceRanges.{ServiceInRange}
use Rattle.op_change.specs.Over.{service_over}
use Rattle.op_kv.proofs.BaseIs.{base_is_kept, same_kept}
use Rattle.op_kv.proofs.map.Map.from_base.Goals as goal

pub unreachable-requires : goal.unreachable-requires
unreachable-requires c =
    let small : length c.args.bytes.now < 2 ^ 64 = omega arith in
    let p = base_is_kept c.args.bytes.now c.in_ok-kept.field-0 small c.requires c.in_ok-kept.ensures in
    let e = p.1 in
    cc

pub returns-clause-bytes : goal.returns-clause-bytes
returns-clause-bytes c =
    let small : length c.args.bytes.now < 2 ^ 64 = omega arith in
    let p = base_is_kept c.args.bytes.now c.in_ok-kept.field-0 small c.requires c.in_ok-kept.ensures in
    let e = same_kept c.in-Some.kept p.0 (sym c.in-Some.is ∙ p.1) in
    ap (λ w. base_bytes (service_over c.in-Some.kept w)) c.new.ensures ∙ ap base_bytes e ∙ p.3

pub returns-clause-range : goal.returns-clause-range
returns-clause-range c =
    let small : length c.args.bytes.now < 2 ^ 64 = omega arith in
    let p = base_is_kept c.args.bytes.now c.in_ok-kept.field-0 small c.requires c.in_ok-kept.ensures in
    let e = same_kept c.in-Some.kept p.0 (sym c.in-Some.is ∙ p.1) in
    subst ServiceInRange (sym (ap (service_over c.in-Some.kept) c.new.ensures ∙ e)) p.2.range
