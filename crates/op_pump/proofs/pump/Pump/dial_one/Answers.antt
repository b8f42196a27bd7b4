use Rattle.std.proofs.Common.{rules, refl, ap, sym, subst, ◌∙◌, ◌≤◌, ◌<◌, Some, None, is_some, inl, inr}
use Rattle.std.proofs.lemmas.Bool.{le-ltb}
use Rattle.op_outside.proofs.Seen.{went_wrong}
use Rattle.op_serving.specs.declared.kind.Kind.TheVariants.{Peer}
use Rattle.op_serving.specs.Reading.{hello_len}
use Rattle.op_serving.specs.Pump.{dials, dial, was_dialled}
use Rattle.op_driver.specs.Driver.{Served}
use Rattle.op_driver.proofs.Stepping.{run_sure}
use Rattle.op_pump.specs.Moments.{admitted}
use Rattle.op_pump.proofs.Going.{goes_one, goes_same}
use Rattle.op_pump.proofs.Steps.{not_dialled, dial_asks}
use Rattle.op_pump.proofs.pump.Pump.dial_one.Goals as goal

pub returns-then-me-peer-clause-goes : goal.returns-then-me-peer-clause-goes
returns-then-me-peer-clause-goes g c o more k =
    let p = c.args.peer.now in
    let d = c.args.self.now.driver in
    not_dialled c.requires.idle.idle (inl (le-ltb p.0 d.loop.me (subst (λ m. m ≤ p.0) c.me.ensures.me c.if-me-peer.true)))

pub returns-in-Some-clause-goes : goal.returns-in-Some-clause-goes
returns-in-Some-clause-goes g c o more k = not_dialled c.requires.idle.idle (inr (ap is_some (sym c.session_of.ensures ∙ c.in-Some.is)))

pub returns-in-Ok-Some-clause-goes : goal.returns-in-Ok-Some-clause-goes
returns-in-Ok-Some-clause-goes g c o more k =
    let p = c.args.peer.now in
    let conn = c.in-Ok-Some.conn in
    let smaller : p.0 < c.args.self.now.driver.loop.me = subst (λ m. p.0 < m) c.me.ensures.me c.if-me-peer.false in
    goes_one (was_dialled (Some (Some conn))) (dial p.1) (dials more k) (c.settle.ensures.timer ∙ c.admit.ensures.timer) c.settle.ensures.settles
    (record {
      goes_on = refl;
      f = λ l s. admitted l conn (Peer p.0 hello_len) s;
      does = run_sure c.admit.ensures.acts (c.admit.ensures.calm c.requires.idle.at);
      asks = dial_asks o g.K.Core.line c.args.self.now.timer c.args.self.now.driver p more k smaller (search rules);
      fits = tt;
      is = λ l before. refl;
    }) refl (search rules) (search rules)

pub returns-in-Ok-Some-clause-core : goal.returns-in-Ok-Some-clause-core
returns-in-Ok-Some-clause-core g c = ap (λ (x : Served _). x.core) c.settle.ensures.settles.closes.is ∙ c.admit.ensures.core

pub returns-in-Ok-None-clause-goes : goal.returns-in-Ok-None-clause-goes
returns-in-Ok-None-clause-goes g c o more k =
    let p = c.args.peer.now in
    let smaller : p.0 < c.args.self.now.driver.loop.me = subst (λ m. p.0 < m) c.me.ensures.me c.if-me-peer.false in
    goes_same (was_dialled (Some None)) (dial p.1) refl c.requires.idle.idle
    (dial_asks o g.K.Core.line c.args.self.now.timer c.args.self.now.driver p more k smaller (search rules)) tt (λ l before. refl) (search rules)
    (search rules)

pub returns-in-Err-clause-goes : goal.returns-in-Err-clause-goes
returns-in-Err-clause-goes g c o more k =
    let p = c.args.peer.now in
    let smaller : p.0 < c.args.self.now.driver.loop.me = subst (λ m. p.0 < m) c.me.ensures.me c.if-me-peer.false in
    goes_same (was_dialled None) (dial p.1) refl c.requires.idle.idle
    (dial_asks o g.K.Core.line c.args.self.now.timer c.args.self.now.driver p more k smaller (search rules)) tt (λ l before. refl) (search rules)
    (went_wrong _ _ c.dial.result (search rules) c.dial.ensures.cause)
