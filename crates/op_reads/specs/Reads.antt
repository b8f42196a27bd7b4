-- Reads that wait at a leader, and who hasn't confirmed its ballot for them yet.
use Rattle.std.specs.Prelude.{ℕ, suc, ◌-◌, ◌==◌, nat_le, Bool, not, List, [], ◌∷◌, ◌++◌, length, filter, map, if◌then◌else◌}
use Rattle.op_quorum.specs.Quorums.{is_majority}
use Rattle.op_types.specs.declared.read.Read.{Read}
use Rattle.op_reads.specs.declared.asked_read.AskedRead.{AskedRead}

-- a read that waits
pub record WaitingRead : Type 0 where
  pub asked : AskedRead  -- with its number
  pub missing : List ℕ  -- the members that haven't confirmed the ballot for this number

-- the reads of one ballot at its leader
pub record Reads : Type 0 where
  pub me : ℕ
  pub members : List ℕ
  pub count : ℕ  -- the last read's number, 0 before the first
  pub waiting : List WaitingRead  -- by rising number

-- before the first read
abbrev pub no_reads : ℕ → List ℕ → Reads
no_reads me members = record { me = me; members = members; count = 0; waiting = [] }

-- a new read, which the leader itself confirms
abbrev pub new_read : ℕ → List ℕ → ℕ → Read → WaitingRead
new_read me members number read =
    record { asked = record { number = number; read = read }; missing = filter (λ q. not (q == me)) members }

-- a read gets the next number, and waits
abbrev pub with_read : Reads → Read → Reads
with_read reads read =
    record reads {
      count = suc reads.count;
      waiting = reads.waiting ++ new_read reads.me reads.members (suc reads.count) read ∷ [];
    }

-- a read after a member confirmed the ballot for a number
abbrev pub confirming : ℕ → ℕ → WaitingRead → WaitingRead
confirming number from w =
    if w.asked.number == number then record w { missing = filter (λ q. not (q == from)) w.missing } else w

-- a member has confirmed the ballot for a number
abbrev pub with_confirmed : Reads → ℕ → ℕ → Reads
with_confirmed reads number from = record reads { waiting = map (confirming number from) reads.waiting }

-- whether a majority of so many members has confirmed the ballot for a read
abbrev pub is_confirmed : ℕ → WaitingRead → Bool
is_confirmed members w = is_majority (members - length w.missing) members

-- the reads that may be answered: none before the leader has decided all that it adopted
abbrev pub answered : Reads → ℕ → ℕ → List AskedRead
answered reads decided adopted =
    if nat_le adopted decided
    then map (λ w. w.asked) (filter (is_confirmed (length reads.members)) reads.waiting)
    else []

-- the others wait still
abbrev pub without_answered : Reads → ℕ → ℕ → Reads
without_answered reads decided adopted =
    if nat_le adopted decided
    then record reads { waiting = filter (λ w. not (is_confirmed (length reads.members) w)) reads.waiting }
    else reads

-- all that wait
abbrev pub all_asked : Reads → List AskedRead
all_asked reads = map (λ w. w.asked) reads.waiting

-- nothing waits any longer
abbrev pub without_waiting : Reads → Reads
without_waiting reads = record reads { waiting = [] }
