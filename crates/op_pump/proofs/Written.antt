-- Writes to one connection, and to the next.
use Rattle.std.proofs.Common.{◌≡◌, ◌<◌, ◌≤◌, [], ℕ, List, length, ◌==◌, if◌then◌else◌, ◌^◌, IfSome, Option, Some, None, Result, Err, refl, sym, ◌∙◌, ap, subst, drop, length-drop, ◌-◌, zero, suc, inl, inr, arith}
use Rattle.op_outside.specs.Seen.{NetSeen}
use Rattle.op_serving.specs.Cores.{Standing}
use Rattle.op_serving.specs.State.{Loop, find}
use Rattle.op_serving.specs.Turns.{queue_in}
use Rattle.op_serving.specs.Pump.{Settings, writes, stop}
use Rattle.op_driver.specs.Driver.{Served, Stores, hello_left}
use Rattle.op_serving.specs.declared.serve_end.ServeEnd.{ServeEnd}
use Rattle.op_pump.specs.declared.timer.Timer.{Timer}
use Rattle.op_pump.specs.Moments.{moment, reached, Goes, Waits, Lessens, IsNext}

-- less waits, or another connection is next
abbrev pub if_same : Option ℕ → ℕ → ℕ → ℕ
if_same None c n = 0
if_same (Some d) c n = if d == c then n else 0

pub less_waits : (c : ℕ) (s t : Loop) → hello_left c s ≡ 0 → Lessens c s t
    → (hello_left c t ≡ 0) × (length (queue_in (find c t.sessions)) < length (queue_in (find c s.sessions)))
less_waits c s t h (inl l) = absurd (omega (arith, h, l))
less_waits c s t h (inr l) = (l.0, l.2)

-- what was written is less

lessens_at : (h : ℕ) (c n : ℕ) (s t : Loop) → hello_left c s ≡ h → 1 ≤ n → n ≤ length (queue_in (find c s.sessions)) → hello_left c t ≤ hello_left c s - n
    → (hello_left c s ≡ 0 → queue_in (find c t.sessions) ≡ drop n (queue_in (find c s.sessions))) → Lessens c s t
lessens_at zero c n s t is some most hello pours =
    let len : length (queue_in (find c t.sessions)) ≡ length (queue_in (find c s.sessions)) - n = ap length (pours is)
    ∙ length-drop n (queue_in (find c s.sessions)) in
    inr (omega (arith, hello, is), is, omega (arith, len, some, most))
lessens_at (suc h) c n s t is some most hello pours = inl (omega (arith, hello, is, some))

pub lessens : (c n : ℕ) (s m t : Loop) → t.sessions ≡ m.sessions → 1 ≤ n → n ≤ length (queue_in (find c s.sessions)) → hello_left c m ≤ hello_left c s - n
    → (hello_left c s ≡ 0 → queue_in (find c m.sessions) ≡ drop n (queue_in (find c s.sessions))) → Lessens c s t
lessens c n s m t same some most hello pours =
    let less = lessens_at (hello_left c s) c n s m refl some most hello pours in
    elim less [
      | inl x ↦ inl (rw same x)
      | inr x ↦ inr (rw same x)
    ]

-- where serving ended, no connection is next
pub stops : {K : Type 0} {stores : Stores K} {o : Settings} {line : Standing → List ℕ} {low : ℕ} {t u : Timer} {d e : Served K} {end : ServeEnd}
    {r : Result (Option ℕ) ServeEnd} {n0 n1 : NetSeen} → r ≡ Err end
    → Goes stores o line [] (moment (writes low) t d) (moment (stop end) u e) n0 n1
    → (up : ℕ) × Goes stores o line [] (moment (writes low) t d) (moment (reached r (writes up)) u e) n0 n1 × IsNext r up e.loop
stops {stores = stores} {o} {line} {low} {t} {u} {d} {e} {end} {r} {n0} {n1} is g =
    subst (λ y. (up : ℕ) × Goes stores o line [] (moment (writes low) t d) (moment (reached y (writes up)) u e) n0 n1 × IsNext y up e.loop) (sym is)
    (low, g, tt)

pub waits_of : (low : ℕ) (s : Loop) (next : Option ℕ) → IfSome next (λ d. low ≤ d) → IfSome next (λ d. 0 < length (queue_in (find d s.sessions)))
    → Waits low s next
waits_of low s None a b = tt
waits_of low s (Some d) a b = (a, b)

pub waits_low : (c : ℕ) (s : Loop) (next : Option ℕ) → Waits c s next → Waits 0 s next
waits_low c s None h = tt
waits_low c s (Some d) h = (omega arith, h.1)

-- the next connection is above the last
abbrev pub behind_measure : Option ℕ → ℕ
behind_measure None = 0
behind_measure (Some c) = 2 ^ 64 - c
