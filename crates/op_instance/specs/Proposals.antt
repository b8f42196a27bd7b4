-- What entries that are proposed together need of a node.
use Rattle.std.specs.Prelude.{◌≡◌, ◌+◌, ◌<◌, ◌≤◌, ℕ, Bool, true, false, Option, Some, None}
use Rattle.op_types.specs.Limits.{positions_end, last_conf}
use Rattle.op_types.specs.Changes.{len_of}
use Rattle.op_types.specs.declared.durable.Part.{Part}
use Rattle.op_types.specs.declared.events.Input.{Input}
use Rattle.op_types.specs.declared.events.Input.TheVariants as input
use Rattle.op_instance.specs.declared.proposing.Proposed.{Proposed}

-- the log has a position for each of so many entries
abbrev pub IfEnd : Option Part → ℕ → Type 0
IfEnd None count = Unit {0}
IfEnd (Some p) count = len_of p + count ≤ positions_end

-- a number is left for the configuration after the part's
abbrev pub IfNumberLeft : Option Part → Type 0
IfNumberLeft None = Unit {0}
IfNumberLeft (Some p) = p.conf < last_conf

-- the log has a position for each of these, and a number is left after a stop-sign
pub record Admits (p : Part) (x : Proposed) : Type 0 where
  pub small : len_of p + x.count ≤ positions_end
  pub number : x.has_stop ≡ true → p.conf < last_conf

-- the same, where there is a part
abbrev pub HasPlaces : Option Part → Proposed → Type 0
HasPlaces None x = Unit {0}
HasPlaces (Some p) x = Admits p x

-- whether an input proposes something
abbrev pub proposes : Input → Bool
proposes (input.Commands commands) = true
proposes (input.Stop members) = true
proposes x = false
