use Rattle.std.proofs.Common.{sym, ap, ◌∙◌}
use Rattle.op_kv.specs.Bases.{client_above, rising_clients}
use Rattle.op_kv.specs.Looked.{end_of, kept_of}
use Rattle.op_kv.proofs.RisingSteps.{after_count, end_goes_on, end_stops, end_is_done}
use Rattle.op_kv.proofs.base.clients_end.Goals as goal

pub clients-init : goal.clients-init
clients-init c = ap end_of (after_count client_above (λ x. x.0) 0 c.args.bytes.now c.args.first (c.in_ok-count.count, c.in_ok-count.at) (sym c.in_ok-count.ensures))

pub clients-preserved : goal.clients-preserved
clients-preserved c = end_goes_on client_above (λ x. x.0) c.in_ok-count.count c.clients.counter c.clients.low c.args.bytes.now c.clients.at (kept_of c.in_ok-last.last, c.in_ok-last.next) (end_of (rising_clients.read c.args.bytes.now c.args.first)) c.clients-test.true (sym c.in_ok-last.ensures) c.clients.invariant

pub returns-in_err-last : goal.returns-in_err-last
returns-in_err-last c =
    let r = c.from_residual-in_err-last.ensures in
    let stop = end_stops client_above (λ x. x.0) c.in_ok-count.count c.clients.counter c.clients.low c.args.bytes.now c.clients.at (end_of (rising_clients.read c.args.bytes.now c.args.first)) c.clients-test.true (sym c.in_err-last.ensures) c.clients.invariant in
    r ∙ stop

pub returns : goal.returns
returns c = end_is_done client_above (λ x. x.0) c.in_ok-count.count c.clients.counter c.clients.low c.args.bytes.now c.clients.at (end_of (rising_clients.read c.args.bytes.now c.args.first)) c.clients-test.false c.clients.invariant
