use Rattle.std.proofs.Common.{refl}
use Rattle.op_command.specs.declared.said.Said.TheVariants as said
use Rattle.op_queues.proofs.Settling.{stays_same}
use Rattle.op_driver.proofs.Handling.{nothing_does, on_ok_as, handles_as, told_handles, drains_at}
use Rattle.op_driver.proofs.driver.Driver.hear_alone.Goals as goal

pub returns-in-Message-clause-ok : goal.returns-in-Message-clause-ok
returns-in-Message-clause-ok g c = on_ok_as c.deliver.result (handles_as c.in-Message.is) c.deliver.ensures.ok

pub returns-in-Foreign-clause-ok : goal.returns-in-Foreign-clause-ok
returns-in-Foreign-clause-ok g c = handles_as c.in-Foreign.is (record {
  does = nothing_does (λ l s. s) c.args.self.now (λ l before. refl);
  stays = stays_same refl;
  none = drains_at c.args.conn c.args.self.now.loop c.requires.none;
})

pub returns-in-Mistake-clause-ok : goal.returns-in-Mistake-clause-ok
returns-in-Mistake-clause-ok g c =
    on_ok_as c.tell.result (λ is. handles_as c.in-Mistake.is (told_handles (said.BadRequest c.in-Mistake.at) c.args.self.now.loop.ending c.requires.none c.requires.open (λ l before. refl) is)) c.tell.ensures.ok
