use Rattle.std.proofs.Common.{rules, ◌≡◌, true, false}
use Rattle.op_serving.specs.Inputs.{flushed}
use Rattle.op_serving.specs.Reading.{on_frame}
use Rattle.op_serving.specs.State.{is_open}
use Rattle.op_queues.proofs.Settling.{stays_then}
use Rattle.op_driver.proofs.Draining.{gives_does}
use Rattle.op_driver.proofs.Handling.{drains_at, behind_closed, behind_goes, behind_lost, behind_handles}
use Rattle.op_driver.proofs.driver.Driver.hear.Goals as goal

pub returns-in-Ok-clause-ok : goal.returns-in-Ok-clause-ok
returns-in-Ok-clause-ok g c =
    let given = c.flush_some.ensures.gives in
    let a = c.in-Ok.ensures.ok in
    let there : is_open c.args.conn c.flush_some.new.self.loop ≡ true = search rules in
    behind_handles (search rules) (behind_goes c.args.conn (λ l s. on_frame l g.K.Core.line c.args.conn c.args.heard s) (gives_does (λ l s. flushed l s) given) there a.does) (stays_then given.stays a.stays) a.none

pub returns-in-Err-clause-ok : goal.returns-in-Err-clause-ok
returns-in-Err-clause-ok g c =
    let given = c.flush_some.ensures.gives in
    let a = c.in-Err.ensures.err in
    behind_handles (search rules) (behind_lost c.args.conn (λ l s. on_frame l g.K.Core.line c.args.conn c.args.heard s) given a) (stays_then given.stays a.stays) (drains_at c.args.conn c.hear_alone-then-is_open.new.self.loop a.none)

pub returns-else-is_open-clause-ok : goal.returns-else-is_open-clause-ok
returns-else-is_open-clause-ok g c =
    let given = c.flush_some.ensures.gives in
    let closed : is_open c.args.conn c.flush_some.new.self.loop ≡ false = search rules in
    behind_handles (search rules) (behind_closed c.args.conn (λ l s. on_frame l g.K.Core.line c.args.conn c.args.heard s) (gives_does (λ l s. flushed l s) given) closed) given.stays (drains_at c.args.conn c.flush_some.new.self.loop given.none)
