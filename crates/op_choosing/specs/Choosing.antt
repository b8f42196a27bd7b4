-- Which log is adopted, by the pieces that the code has of it.
use Rattle.std.specs.Prelude.{◌≡◌, ◌≤◌, false, ◌+◌, List, [], ◌∷◌, length, Option, Some, None}
use Rattle.op_types.specs.Limits.{positions_end}
use Rattle.op_types.specs.Changes.{len_of}
use Rattle.op_types.specs.declared.durable.Part.{Part}
use Rattle.op_types.specs.declared.role.Promised.{Promised}
use Rattle.op_types.specs.RoleStates.{promises_with}
use Rattle.op_protocol.specs.Promises.{is_above, Choice}
use Rattle.op_choosing.specs.declared.choosing.Candidate.{Candidate}
use Rattle.op_choosing.specs.declared.choosing.Offers.{Offers}

-- the promises that are kept, with one that came in this step
abbrev pub offered_with : List Promised → Option Promised → List Promised
offered_with kept None = kept
offered_with kept (Some k) = promises_with kept k

-- the same, of what the code has of them
abbrev pub offered : Offers → List Promised
offered o = offered_with o.kept.now o.new.now

-- a candidate, as the step table has it
abbrev pub choice_shown : Candidate → Choice
choice_shown c = record { accepted = c.accepted; len = c.len; start = c.start; entries = c.entries.now }

-- the entries of a promise end within the positions
abbrev pub IsAdmitted : Promised → Type 0
IsAdmitted k = k.start + length k.entries ≤ positions_end

-- those of each of these promises do
abbrev pub AreAdmitted : List Promised → Type 0
AreAdmitted [] = Unit {0}
AreAdmitted (k ∷ promises) = IsAdmitted k × AreAdmitted promises

-- The log of a choice: it goes on from the own log within what isn't decided,
-- ends within the positions, and isn't below the own one.
pub record ChoiceFits (p : Part) (c : Choice) : Type 0 where
  pub low : p.decided ≤ c.start
  pub high : c.start ≤ len_of p
  pub small : c.start + length c.entries ≤ positions_end
  pub above : is_above p.accepted (len_of p) c.accepted c.len ≡ false
