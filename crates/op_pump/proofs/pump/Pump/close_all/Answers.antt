use Rattle.std.proofs.Common.{refl, sym, ◌∙◌, ap, subst, ◌++◌, ◌∷◌, [], ℕ, map, append_assoc, arith}
use Rattle.std.proofs.lemmas.List.{map-append}
use Rattle.op_outside.specs.Nets.{Closed}
use Rattle.op_outside.specs.Telling.{Grows}
use Rattle.op_outside.proofs.Seen.{grows_none, grows_both}
use Rattle.op_driver.specs.Driver.{emptied}
use Rattle.op_pump.proofs.Counting.{most_emptied}
use Rattle.op_pump.proofs.pump.Pump.close_all.Goals as goal

pub closes-init : goal.closes-init
closes-init g c = record { closed = ([], refl, grows_none (g.N.Net.told c.args.net.now)); counts = refl; given = refl; same = refl; timer = refl }

pub closes-preserved : goal.closes-preserved
closes-preserved g c =
    let i = c.closes.invariant in
    let x : ℕ = c.in-Some.conn in
    let done = i.closed.0 in
    let all = grows_both (g.N.Net.told c.args.net.now) (map Closed done) (Closed x ∷ []) i.closed.2 c.close.ensures.tells in
    record {
      closed = (
        done ++ x ∷ [],
        i.closed.1 ∙ ap (λ l. done ++ l) c.in-Some.ensures.some ∙ sym (append_assoc done (x ∷ []) c.next_close.new.self.loop.closes),
        subst (λ l. Grows (g.N.Net.told c.args.net.now) l (g.N.Net.told c.close.new.self)) (sym (map-append Closed done (x ∷ []))) all,
      );
      counts = c.close.ensures.count ∙ i.counts;
      given = c.close.ensures.given ∙ i.given;
      same = ap emptied c.in-Some.ensures.rest ∙ i.same;
      timer = i.timer;
    }

pub returns-clause-most : goal.returns-clause-most
returns-clause-most g c =
    omega (arith, most_emptied c.next_close.new.self c.args.self.now.driver (ap emptied c.in_default.ensures.rest ∙ c.closes.invariant.same))
