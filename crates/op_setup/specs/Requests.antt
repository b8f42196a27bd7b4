-- The commands and members that requests propose. Only what is inside the crate speaks of this.
use Rattle.std.specs.Prelude.{◌≡◌, ℕ, List, map, decimal}
use Rattle.op_types.specs.Ranges.{CommandInRange, MembersInRange}
use Rattle.op_types.specs.declared.log.Command.{Command}
use Rattle.op_types.specs.declared.read.Read.{Read}
use Rattle.op_text.specs.Operations.{AreKeyOnly, IsReadOf, OpIsOfBytes}
use Rattle.op_setup.specs.Tasks.{op_words}

-- the words are this command's
pub record IsCommandOf (words : List (List ℕ)) (c : Command) : Type 0 where
  pub in_range : CommandInRange c
  pub of_bytes : OpIsOfBytes c.op
  pub written : words ≡ op_words c.client c.seq c.op

-- the words are some command's
abbrev pub IsCommand : List (List ℕ) → Type 0
IsCommand words = (c : Command) × IsCommandOf words c

-- the words are some read's
abbrev pub IsRead : List (List ℕ) → Type 0
IsRead words = (r : Read) × IsReadOf words r

-- the words are some key alone
abbrev pub AreSomeKeyOnly : List (List ℕ) → Type 0
AreSomeKeyOnly words = (key : List ℕ) × AreKeyOnly words key

-- the words are these members' ids
pub record AreMembersOf (words : List (List ℕ)) (members : List ℕ) : Type 0 where
  pub in_range : MembersInRange members
  pub written : words ≡ map decimal members

-- the words are the ids of some members
abbrev pub AreMembers : List (List ℕ) → Type 0
AreMembers words = (members : List ℕ) × AreMembersOf words members
