-- Ballots in range: those of known ids, the greater of two, and those that an election or a start makes.
use Rattle.std.proofs.Common.{◌≡◌, ◌≤◌, ◌<◌, ◌+◌, min, ℕ, true, false, eqb, ⊎_elim, nat_eq, List, [], ◌∷◌, arith, All}
use Rattle.std.specs.Set.{is_member}
use Rattle.std.proofs.lemmas.Bool.{cond_both, eqb-true, or_cases, and_cases, eqb-false, false≢true}
use Rattle.std.proofs.lemmas.List.Elements.{All-head, All-tail}
use Rattle.op_types.specs.Ballots.{no_ballot, is_below, is_same_ballot, greater}
use Rattle.op_types.specs.Limits.{greatest_pid, greatest_number}
use Rattle.op_types.specs.Ranges.{IsMember, AreRising, MembersInRange}
use Rattle.op_types.specs.declared.ballot.Ballot.{Ballot}
use Rattle.op_types.specs.declared.messages.Heard.{Heard}
use Rattle.op_protocol.specs.Election.{greatest}
use Rattle.op_protocol.specs.Starting.{restart_ballot}
use Rattle.op_bounds.specs.Messages.{AreIds, BallotOf}
use Rattle.op_bounds.specs.States.{HeardInRange}

-- ---- ids of members

rising_pid : (low : ℕ) (ids : List ℕ) (q : ℕ) → AreRising low ids → IsMember ids q → (low < q) × (q ≤ greatest_pid)
rising_pid low [] q rising one = absurd (false≢true one)
rising_pid low (id ∷ ids) q rising one =
    ⊎_elim (λ (h : eqb q id ≡ true). let e = eqb-true q id h in (omega (arith, rising.0), omega (arith, rising.1)))
    (λ (h : is_member nat_eq ids q ≡ true). let more = rising_pid id ids q rising.2 h in (omega (arith, rising.0, more.0), more.1))
    (or_cases (eqb q id) (is_member nat_eq ids q) one)

pub member_ids : (members : List ℕ) → MembersInRange members → AreIds (IsMember members)
member_ids members range q one = let r = rising_pid 0 members q range.rising one in (omega (arith, r.0), r.1)

-- ---- ballots

pub no_ballot_in : (Known : ℕ → Type 0) → BallotOf Known no_ballot
no_ballot_in Known = record { range = record { number = omega arith; pid = omega arith; owner = λ some. absurd (omega arith) }; owner = λ some. absurd (omega arith) }

-- a known id's own
pub own_ballot_in : (Known : ℕ → Type 0) (me number : ℕ) → AreIds Known → Known me → number ≤ greatest_number → BallotOf Known (record { number = number; pid = me })
own_ballot_in Known me number ids one small =
    let pid = ids me one in record { range = record { number = small; pid = pid.1; owner = λ some. omega (arith, pid.0) }; owner = λ some. one }

pub greater_in : (Known : ℕ → Type 0) (a b : Ballot) → BallotOf Known a → BallotOf Known b → BallotOf Known (greater a b)
greater_in Known a b in_a in_b = cond_both (is_below a b) b a (BallotOf Known) (λ _. in_b) (λ _. in_a)

pub greatest_in : (Known : ℕ → Type 0) (heard : List Heard) (own : Ballot) → All (HeardInRange Known) heard → BallotOf Known own → BallotOf Known (greatest own heard)
greatest_in Known [] own each in_own = in_own
greatest_in Known (h ∷ heard) own each in_own =
    greatest_in Known heard _ (All-tail (HeardInRange Known) h heard each)
    (cond_both h.flag (greater own h.ballot) own (BallotOf Known) (λ _. greater_in Known own h.ballot in_own (All-head (HeardInRange Known) h heard each)) (λ _. in_own))

-- a ballot that isn't none has an owner
pub has_owner : (Known : ℕ → Type 0) (b : Ballot) → BallotOf Known b → is_same_ballot b no_ballot ≡ false → Known b.pid
has_owner Known b of other = of.owner (⊎_elim by_number by_pid (and_cases (eqb b.number 0) (eqb b.pid 0) other))
  where
    by_number : eqb b.number 0 ≡ false → 0 < b.pid
    by_number h = let some = eqb-false b.number 0 h in of.range.owner (omega (arith, some))

    by_pid : eqb b.pid 0 ≡ false → 0 < b.pid
    by_pid h = let some = eqb-false b.pid 0 h in omega (arith, some)

pub restart_ballot_in : (Known : ℕ → Type 0) (me : ℕ) (promised : Ballot) → AreIds Known → Known me → BallotOf Known (restart_ballot me promised)
restart_ballot_in Known me promised ids one =
    cond_both (eqb promised.pid me) (record { number = min (promised.number + 1) greatest_number; pid = me }) (record { number = 1; pid = me }) (BallotOf Known)
    (λ _. own_ballot_in Known me (min (promised.number + 1) greatest_number) ids one (omega arith)) (λ _. own_ballot_in Known me 1 ids one (omega arith))
