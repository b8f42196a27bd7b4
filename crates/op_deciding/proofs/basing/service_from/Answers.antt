use Rattle.std.proofs.Common.{◌≡◌, sym, ap, ◌∙◌, arith}
use Rattle.op_spec.specs.Service.{Service, all_after}
use Rattle.op_change.specs.Over.{service_over}
use Rattle.op_protocol.specs.Bases.{service_in}
use Rattle.op_deciding.proofs.Bases.{service_of_base}
use Rattle.op_deciding.proofs.basing.service_from.Goals as goal

pub returns : goal.returns
returns c =
    let s = c.in_ok-service.service.service in
    let read = c.in_ok-service.ensures in
    let is : service_in c.args.base.now ≡ s = service_of_base s c.args.base.now read.bytes read.range read.order (omega arith) in
    c.adopt.ensures
    ∙ ap (λ (t : Service). service_over t c.in_ok-change.change) c.in_ok-change.ensures.stays
    ∙ c.in_ok-change.ensures.change
    ∙ ap (λ (t : Service). all_after t c.args.entries.now) (sym is)
