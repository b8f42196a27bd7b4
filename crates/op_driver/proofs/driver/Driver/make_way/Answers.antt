use Rattle.std.proofs.Common.{rules, ◌≡◌, refl, true, false}
use Rattle.op_serving.specs.State.{is_open, session_of}
use Rattle.op_serving.specs.Reading.{replaced}
use Rattle.op_driver.proofs.Handling.{does_as, behind_closed, behind_goes}
use Rattle.op_driver.proofs.driver.Driver.make_way.Goals as goal

pub returns-then-is_open-clause-does : goal.returns-then-is_open-clause-does
returns-then-is_open-clause-does g c =
    let m = c.flush.new.self in
    let there : is_open c.args.conn m.loop ≡ true = search rules in
    behind_goes c.args.conn (λ l t. replaced l (session_of c.args.peer t.loop) t) c.flush.ensures.does there
    (does_as (λ l s. replaced l (session_of c.args.peer m.loop) s) (λ l t. replaced l (session_of c.args.peer t.loop) t) (λ l before. refl) c.replace.ensures.does)

pub returns-else-is_open-clause-does : goal.returns-else-is_open-clause-does
returns-else-is_open-clause-does g c =
    let closed : is_open c.args.conn c.flush.new.self.loop ≡ false = search rules in
    behind_closed c.args.conn (λ l t. replaced l (session_of c.args.peer t.loop) t) c.flush.ensures.does closed
