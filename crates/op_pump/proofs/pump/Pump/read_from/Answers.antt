use Rattle.std.proofs.Common.{rules, refl, ◌+◌, ◌≤◌, [], ◌∷◌, take, arith, sym, subst}
use Rattle.op_outside.specs.Nets.{WasRead, SawBytes, SawNotYet, SawEnd, SawFault}
use Rattle.op_outside.specs.Telling.{Grows}
use Rattle.op_outside.proofs.Seen.{went_wrong}
use Rattle.op_serving.specs.Inputs.{over}
use Rattle.op_serving.specs.Reading.{read}
use Rattle.op_serving.specs.Pump.{piece_len, asks, read_from, was_seen}
use Rattle.op_driver.proofs.Stepping.{run_from}
use Rattle.op_pump.proofs.Going.{goes_one, goes_same, on_goes}
use Rattle.op_pump.proofs.pump.Pump.read_from.Goals as goal

pub returns-in-Ok-NotYet-clause-on : goal.returns-in-Ok-NotYet-clause-on
returns-in-Ok-NotYet-clause-on g c o i k =
    on_goes (goes_same (was_seen SawNotYet) (read_from c.args.conn) refl c.requires.idle (λ l before. refl) tt (λ l before. refl) (search rules) (search rules))

pub returns-in-Err-clause-on : goal.returns-in-Err-clause-on
returns-in-Err-clause-on g c o i k =
    on_goes (goes_same (was_seen SawFault) (read_from c.args.conn) refl c.requires.idle (λ l before. refl) tt (λ l before. refl) (search rules)
    (went_wrong _ _ c.read.result (search rules) c.read.ensures.cause))

pub returns-in-Ok-Ended-clause-on : goal.returns-in-Ok-Ended-clause-on
returns-in-Ok-Ended-clause-on g c o i k =
    let settled = c.settle-in-Ok-Ended.ensures in
    goes_one (was_seen SawEnd) (read_from c.args.conn) (asks (i + 1) k) settled.timer settled.settles
    (record { goes_on = refl; f = λ l s. over l c.args.conn s; does = run_from c.end.ensures.does; asks = λ l before. refl; fits = tt; is = λ l before. refl }) refl
    (search rules) (search rules)

pub returns-in-Ok-Bytes-clause-on : goal.returns-in-Ok-Bytes-clause-on
returns-in-Ok-Bytes-clause-on g c o i k =
    let n = c.in-Ok-Bytes.n in
    let bytes = c.front.result.now in
    let some : 1 ≤ n = search rules in
    let most : n ≤ piece_len = search rules in
    let told : Grows (g.N.Net.told c.args.net.now) (WasRead c.args.conn piece_len (SawBytes (take n c.read.new.self)) ∷ []) (g.N.Net.told c.read.new.net) =
    search rules in
    goes_one (was_seen (SawBytes bytes)) (read_from c.args.conn) (asks (i + 1) k) c.settle.ensures.timer c.settle.ensures.settles
    (record {
      goes_on = refl;
      f = λ l s. read l g.K.Core.line c.args.conn bytes s;
      does = c.read-in-Ok-Bytes.ensures.acts;
      asks = λ l before. refl;
      fits = (omega (arith, some, c.front.ensures.len), omega (arith, most, c.front.ensures.len), c.front.ensures.bytes);
      is = λ l before. refl;
    }) refl (subst (λ b. Grows (g.N.Net.told c.args.net.now) (WasRead c.args.conn piece_len (SawBytes b) ∷ []) (g.N.Net.told c.read.new.net))
    (sym c.front.ensures.is) told) (search rules)
