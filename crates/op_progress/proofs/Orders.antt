-- One ballot isn't above another.
use Rattle.std.proofs.Common.{◌≡◌, ⊎_elim, Bool, true, false, refl, sym, subst}
use Rattle.std.proofs.lemmas.Bool.{both_ways, cond_both}
use Rattle.op_types.proofs.Order.{is_total}
use Rattle.op_types.specs.Ballots.{is_below, greater}
use Rattle.op_types.specs.declared.ballot.Ballot.{Ballot}
use Rattle.op_protocol.proofs.StepBatches.{Rises}
use Rattle.op_lockstep.proofs.Ends.{asymmetric}

-- the first isn't above the second
abbrev pub AtMost : Ballot → Ballot → Type 0
AtMost a b = is_below b a ≡ false

pub same_at_most : (a b : Ballot) → a ≡ b → AtMost a b
same_at_most a b e = subst (λ (x : Ballot). is_below x a ≡ false) e (is_total.irreflexive a)

pub below_at_most : (a b : Ballot) → is_below a b ≡ true → AtMost a b
below_at_most a b up = by_cases (is_below b a) refl
  where
    by_cases : (x : Bool) → is_below b a ≡ x → is_below b a ≡ false
    by_cases true e = absurd (asymmetric a b up e)
    by_cases false e = e

-- who isn't above the second is below what that is below
pub at_most_below : (a b c : Ballot) → AtMost a b → is_below b c ≡ true → is_below a c ≡ true
at_most_below a b c m up = by_cases (is_below a b) refl
  where
    by_cases : (x : Bool) → is_below a b ≡ x → is_below a c ≡ true
    by_cases true e = is_total.transitive a b c e up
    by_cases false e = subst (λ (x : Ballot). is_below x c ≡ true) (sym (is_total.total a b e m)) up

pub at_most_then : (a b c : Ballot) → AtMost a b → AtMost b c → AtMost a c
at_most_then a b c x y = by_cases (is_below c a) refl
  where
    by_cases : (z : Bool) → is_below c a ≡ z → is_below c a ≡ false
    by_cases true e = absurd (both_ways (is_below b a) x (below_b e))
      where
        below_b : is_below c a ≡ true → is_below b a ≡ true
        below_b up = by_b (is_below b c) refl
          where
            by_b : (z : Bool) → is_below b c ≡ z → is_below b a ≡ true
            by_b true f = is_total.transitive b c a f up
            by_b false f = subst (λ (k : Ballot). is_below k a ≡ true) (sym (is_total.total b c f y)) up
    by_cases false e = e

-- the greater of two isn't above what neither is
pub greater_at_most : (a b c : Ballot) → AtMost a c → AtMost b c → AtMost (greater a b) c
greater_at_most a b c x y = cond_both (is_below a b) b a (λ (g : Ballot). AtMost g c) (λ _. y) (λ _. x)

-- and neither is above it
pub first_at_most : (a b : Ballot) → AtMost a (greater a b)
first_at_most a b = cond_both (is_below a b) b a (λ (g : Ballot). AtMost a g) (λ up. below_at_most a b up) (λ _. is_total.irreflexive a)

pub second_at_most : (a b : Ballot) → AtMost b (greater a b)
second_at_most a b = cond_both (is_below a b) b a (λ (g : Ballot). AtMost b g) (λ _. is_total.irreflexive b) (λ e. e)

-- two of which none is above the other are one
pub same_ballot : (a b : Ballot) → AtMost a b → AtMost b a → a ≡ b
same_ballot a b x y = is_total.total a b y x

-- what rises isn't above
pub rises_at_most : (a b : Ballot) → Rises a b → AtMost a b
rises_at_most a b r = ⊎_elim (λ (e : b ≡ a). same_at_most a b (sym e)) (λ (up : is_below a b ≡ true). below_at_most a b up) r

-- one of them is
pub at_most_or : (a b : Ballot) (P : Type 0) → (AtMost a b → P) → (is_below b a ≡ true → P) → P
at_most_or a b P x y = by_cases (is_below b a) refl
  where
    by_cases : (z : Bool) → is_below b a ≡ z → P
    by_cases true e = y e
    by_cases false e = x e
