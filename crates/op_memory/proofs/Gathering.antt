-- What is pending, gathered call by call, and that it is all that is pending.
use Rattle.std.proofs.Common.{◌≡◌, ℕ, ◌+◌, max, List, [], ◌∷◌, length, refl, sym, ◌∙◌, ap, reverse}
use Rattle.std.proofs.lemmas.List.{reverse-reverse}
use Rattle.op_memory.specs.declared.call.Call.{Call}
use Rattle.op_memory.specs.declared.call.Call.TheVariants.{Write, StoppedWrite, Cut, StoppedCut, Sync}
use Rattle.op_memory.specs.declared.pends.Pends.{Pends}
use Rattle.op_outside.specs.Pendings.{Pending}
use Rattle.op_memory.specs.Images.{State, state_of, fresh, after}
use Rattle.op_memory.specs.Syncs.{HasNoSync}
use Rattle.op_memory.specs.Pends.{IsPendsOf, IsSamePends}

-- what is gathered so far, of the calls that are left
pub record Gathering (all : State) (rest : List Call) (pends : Pends) : Type 0 where
  pub now : State
  pub is : IsPendsOf now.pending pends
  pub leads : state_of now rest ≡ all
  pub pending : HasNoSync rest

-- the greatest length that these writes reach, from this one
highest : ℕ → List (ℕ × ℕ) → ℕ
highest len [] = len
highest len (w ∷ writes) = max (highest len writes) (w.0 + w.1)

high-after : (call : Call) (s : State) → s.pending.high ≡ highest (length s.pending.base) s.pending.writes → (after call s).pending.high ≡ highest (length (after call s).pending.base) (after call s).pending.writes
unfolding highest
high-after (Write at v) s e = ap (λ (n : ℕ). max n (at + length v.items)) e
high-after (StoppedWrite at v) s e = ap (λ (n : ℕ). max n (at + length v.items)) e
high-after (Cut n) s e = e
high-after (StoppedCut n) s e = e
high-after Sync s e = refl

high-state : (s : State) (calls : List Call) → s.pending.high ≡ highest (length s.pending.base) s.pending.writes
    → (state_of s calls).pending.high ≡ highest (length (state_of s calls).pending.base) (state_of s calls).pending.writes
high-state s [] e = e
high-state s (call ∷ calls) e = high-state (after call s) calls (high-after call s e)

high_is : (start : List ℕ) (calls : List Call) → (state_of (fresh start) calls).pending.high ≡ highest (length (state_of (fresh start) calls).pending.base) (state_of (fresh start) calls).pending.writes
unfolding highest
high_is start calls = high-state (fresh start) calls refl

pending_from : (s t : Pending) → s.base ≡ t.base → s.low ≡ t.low → s.writes ≡ t.writes → s.high ≡ highest (length s.base) s.writes → t.high ≡ highest (length t.base) t.writes → s ≡ t
pending_from s t base low writes high tall =
    let up : s.high ≡ t.high = high ∙ ap (λ (b : List ℕ). highest (length b) s.writes) base ∙ ap (λ (w : List (ℕ × ℕ)). highest (length t.base) w) writes ∙ sym tall in
    ap (λ (b : List ℕ). let p : Pending = record { base = b; low = s.low; high = s.high; writes = s.writes } in p) base
    ∙ ap (λ (n : ℕ). let p : Pending = record { base = t.base; low = n; high = s.high; writes = s.writes } in p) low
    ∙ ap (λ (n : ℕ). let p : Pending = record { base = t.base; low = t.low; high = n; writes = s.writes } in p) up
    ∙ ap (λ (w : List (ℕ × ℕ)). let p : Pending = record { base = t.base; low = t.low; high = t.high; writes = w } in p) writes

-- two disks
module _ (start other : List ℕ) (calls made : List Call) (p q : Pends) (one : IsPendsOf (state_of (fresh start) calls).pending p) (two : IsPendsOf (state_of (fresh other) made).pending q) where
  pub pend_alike : IsSamePends p q → (state_of (fresh start) calls).pending ≡ (state_of (fresh other) made).pending
  pend_alike same = pending_from (state_of (fresh start) calls).pending (state_of (fresh other) made).pending
      (sym one.base_is ∙ same.base_same ∙ two.base_is)
      (sym one.low_is ∙ same.low_same ∙ two.low_is)
      (sym one.writes_are ∙ ap reverse same.writes_same ∙ two.writes_are)
      (high_is start calls) (high_is other made)

  pub gathered_alike : (state_of (fresh start) calls).pending ≡ (state_of (fresh other) made).pending → IsSamePends p q
  gathered_alike same = record {
    low_same = one.low_is ∙ ap (λ (s : Pending). s.low) same ∙ sym two.low_is;
    base_same = one.base_is ∙ ap (λ (s : Pending). s.base) same ∙ sym two.base_is;
    writes_same = sym (reverse-reverse p.writes.items) ∙ ap reverse (one.writes_are ∙ ap (λ (s : Pending). s.writes) same ∙ sym two.writes_are)
        ∙ reverse-reverse q.writes.items;
  }
