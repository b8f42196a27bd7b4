use Rattle.std.proofs.Common.{ap, sym, ◌≡◌, ◌∙◌, ◌∷◌, [], Some, None, ℕ, Option}
use Rattle.std.specs.Map.{keys_of}
use Rattle.op_types.specs.declared.events.Input.TheVariants as input
use Rattle.op_types.specs.declared.events.Request.TheVariants as request
use Rattle.op_command.specs.declared.said.Said.TheVariants as said
use Rattle.op_serving.specs.declared.hearing.Heard.TheVariants.{Asks}
use Rattle.op_serving.specs.State.{stranger_in}
use Rattle.op_serving.specs.Inputs.{give}
use Rattle.op_serving.specs.Reading.{stops, on_frame}
use Rattle.op_driver.specs.Driver.{with_deeds}
use Rattle.op_driver.proofs.Draining.{gives_does}
use Rattle.op_driver.proofs.Handling.{does_as, on_ok_as, told_handles, drains_at}
use Rattle.op_driver.proofs.driver.Driver.stop.Goals as goal

pub returns-in-Some-clause-ok : goal.returns-in-Some-clause-ok
returns-in-Some-clause-ok g c =
    let d = c.args.self.now in
    let named : stranger_in (keys_of d.loop.peers) c.args.members ≡ Some c.in-Some.id = ap (stranger_in (keys_of d.loop.peers)) (sym c.get.ensures ∙ sym c.as_slice.ensures) ∙ sym c.stranger_among.ensures.is ∙ c.in-Some.is in
    on_ok_as c.tell.result
    (λ is. told_handles (said.Stranger c.in-Some.id) d.loop.ending c.requires.none c.requires.open
    (λ l before. ap (λ (o : Option ℕ). stops l c.args.conn c.args.members o (with_deeds before d)) named) is)
    c.tell.ensures.ok

pub returns-in-None-clause-ok : goal.returns-in-None-clause-ok
returns-in-None-clause-ok g c =
    let d = c.args.self.now in
    let none : stranger_in (keys_of d.loop.peers) c.args.members ≡ None = ap (stranger_in (keys_of d.loop.peers)) (sym c.get.ensures ∙ sym c.as_slice.ensures) ∙ sym c.stranger_among.ensures.is ∙ c.in-None.is in
    let gives = c.give.ensures.gives in
    record {
      does = does_as (λ l s. give l (c.args.conn ∷ []) (input.Stop c.args.members) s) (λ l s. on_frame l g.K.Core.line c.args.conn (Asks (request.Stop c.args.members)) s)
          (λ l before. ap (λ (o : Option ℕ). stops l c.args.conn c.args.members o (with_deeds before d)) none) (gives_does (λ l s. give l (c.args.conn ∷ []) (input.Stop c.args.members) s) gives);
      stays = gives.stays;
      none = drains_at c.args.conn c.give.new.self.loop gives.none;
    }
