use Rattle.std.proofs.Common.{rules, refl, subst, ◌∙◌, ◌≡◌, ◌+◌, ℕ, [], ◌∷◌, drop, get_or, arith}
use Rattle.op_outside.specs.declared.net.Addr.{Addr}
use Rattle.op_serving.specs.Pump.{asks, dials}
use Rattle.op_pump.proofs.Going.{goes_then, goes_to, goes_still, goes_by, cut, idle_at, list_at, list_end}
use Rattle.op_pump.proofs.pump.Pump.dial_all.Goals as goal

pub loop-peer-init : goal.loop-peer-init
loop-peer-init g c = record {
  idle = c.requires.idle;
  goes = λ o k. goes_still c.requires.idle.idle refl refl;
  given = refl;
  most = omega arith;
  timer = refl;
  core = refl;
}

pub loop-peer-preserved : goal.loop-peer-preserved
loop-peer-preserved g c =
    let v = c.loop-peer.invariant in
    let xs = c.args.settings.now.peers in
    let i = c.loop-peer.peer-index in
    let none : ℕ × Addr = (0, (record { host = 0; port = 0 })) in
    let p = get_or c.as_slice-peer-items.result.now i none in
    let e : drop i xs ≡ p ∷ drop (i + 1) xs =
    subst (λ ys. drop i ys ≡ p ∷ drop (i + 1) ys) c.as_slice-peer-items.ensures (list_at c.as_slice-peer-items.result.now i none c.loop-peer-test.true) in
    record {
      idle = idle_at v.idle.turn refl c.in_ok-dial_one.ensures.idle;
      goes = λ o k. goes_then
          (goes_to (λ ys. dials ys k) e (v.goes o k)) refl
          (c.in_ok-dial_one.ensures.goes o (drop (i + 1) xs) k);
      given = c.dial_one.ensures.given ∙ v.given;
      most = omega (arith, v.most, c.dial_one.ensures.most);
      timer = c.dial_one.ensures.timer ∙ v.timer;
      core = c.dial_one.ensures.core ∙ v.core;
    }

pub returns-in_err-dial_one-clause-goes : goal.returns-in_err-dial_one-clause-goes
returns-in_err-dial_one-clause-goes g c o k =
    let v = c.loop-peer.invariant in
    let xs = c.args.settings.now.peers in
    let i = c.loop-peer.peer-index in
    let none : ℕ × Addr = (0, (record { host = 0; port = 0 })) in
    let p = get_or c.as_slice-peer-items.result.now i none in
    let e : drop i xs ≡ p ∷ drop (i + 1) xs =
    subst (λ ys. drop i ys ≡ p ∷ drop (i + 1) ys) c.as_slice-peer-items.ensures (list_at c.as_slice-peer-items.result.now i none c.loop-peer-test.true) in
    cut {e = c.in_err-dial_one.field-0.0} (asks 0 k) (search rules)
    (goes_then (goes_to (λ ys. dials ys k) e (v.goes o k))
    refl (c.in_err-dial_one.ensures.goes o (drop (i + 1) xs) k))

pub returns-clause-goes : goal.returns-clause-goes
returns-clause-goes g c o k =
    let v = c.loop-peer.invariant in
    let i = c.loop-peer.peer-index in
    let e : drop i c.args.settings.now.peers ≡ [] =
    subst (λ ys. drop i ys ≡ []) c.as_slice-peer-items.ensures (list_end c.as_slice-peer-items.result.now i c.loop-peer-test.false) in
    goes_then (goes_to (λ ys. dials ys k) e (v.goes o k))
    refl (goes_by refl refl v.idle.idle (λ l before. refl) (λ l before. refl))
