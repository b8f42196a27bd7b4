-- What a node begins with, in memory and in a configuration, is in range.
use Rattle.std.proofs.Common.{ℕ, List, refl, arith}
use Rattle.std.proofs.lemmas.List.Elements.{All-nil}
use Rattle.op_types.specs.Ballots.{no_ballot}
use Rattle.op_types.specs.Changes.{IsCommand, new_part, part_based}
use Rattle.op_types.specs.Ranges.{IsConf, IsPlace, EntryInRange}
use Rattle.op_types.specs.declared.ballot.Ballot.{Ballot}
use Rattle.op_kv.specs.Bases.{IsBase}
use Rattle.op_record.specs.Ranges.{PartInRange}
use Rattle.op_protocol.specs.Starting.{volatile_with, first_volatile}
use Rattle.op_bounds.specs.Messages.{AreIds, BallotOf, MembersOf, NamesKnown}
use Rattle.op_bounds.specs.States.{PartOf, HeardInRange, StagedInRange, VolatileInRange, VolatileEndsNowhere}
use Rattle.op_bounds.proofs.Ballots.{no_ballot_in, own_ballot_in}

-- nothing is kept in memory of a part at first
pub started_stops : (conf : ℕ) (own leader : Ballot) → VolatileEndsNowhere conf (volatile_with own leader)
started_stops conf own leader = record { role = tt; staged = λ i d within. absurd (omega arith) }

pub first_stops : (conf me : ℕ) → VolatileEndsNowhere conf (first_volatile me)
first_stops conf me = started_stops conf (record { number = 1; pid = me }) no_ballot

module _ (Known : ℕ → Type 0) (ids : AreIds Known) where
  pub started : (own leader : Ballot) → BallotOf Known own → BallotOf Known leader → VolatileInRange Known (volatile_with own leader)
  started own leader in_own in_leader = record { own = in_own; leader = in_leader; floor = no_ballot_in Known; round = omega arith; heard = All-nil (HeardInRange Known); role = tt; staged = All-nil (StagedInRange Known); pieces = tt }

  pub first_volatile_in : (me : ℕ) → Known me → VolatileInRange Known (first_volatile me)
  first_volatile_in me one = started (record { number = 1; pid = me }) no_ballot (own_ballot_in Known me 1 ids one (omega arith)) (no_ballot_in Known)

-- a part where a configuration begins
module _ (Known : ℕ → Type 0) (conf : ℕ) (members base : List ℕ) (in_members : MembersOf Known members) where
  pub new_part_range : IsConf conf → IsBase base → PartInRange (new_part conf members base)
  new_part_range is_conf is_base =
      record {
        conf = is_conf;
        members = in_members.range;
        promised = (no_ballot_in Known).range;
        accepted = (no_ballot_in Known).range;
        base = is_base;
        len = omega arith;
        entries = All-nil EntryInRange;
        ends = λ last. All-nil IsCommand;
        decided = (omega arith, omega arith);
        room = refl;
      }

  pub new_part_of : PartOf Known (new_part conf members base)
  new_part_of = record { members = in_members.known; promised = no_ballot_in Known; accepted = no_ballot_in Known; entries = All-nil (NamesKnown Known) }

-- a part where an observer goes on, at a position of the configuration
module _ (Known : ℕ → Type 0) (conf : ℕ) (members : List ℕ) (at : ℕ) (base : List ℕ) (in_members : MembersOf Known members) where
  pub based_part_range : IsConf conf → IsPlace at → IsBase base → PartInRange (part_based conf members at base)
  based_part_range is_conf place is_base =
      record {
        conf = is_conf;
        members = in_members.range;
        promised = (no_ballot_in Known).range;
        accepted = (no_ballot_in Known).range;
        base = is_base;
        len = omega (arith, place);
        entries = All-nil EntryInRange;
        ends = λ last. All-nil IsCommand;
        decided = (omega arith, omega arith);
        room = refl;
      }

  pub based_part_of : PartOf Known (part_based conf members at base)
  based_part_of = record { members = in_members.known; promised = no_ballot_in Known; accepted = no_ballot_in Known; entries = All-nil (NamesKnown Known) }
