-- What a drill reports and writes, from the parts that it is made of.
use Rattle.std.proofs.Common.{◌≡◌, ℕ, List, sym, subst, arith}
use Rattle.op_types.specs.Ranges.{MembersInRange}
use Rattle.op_outside.specs.Seen.{StreamSeen}
use Rattle.op_runs.specs.declared.summary.Summary.{Summary}
use Rattle.op_gen.specs.Links.{Links}
use Rattle.op_gen.specs.Scenarios.{members_of, links_of}
use Rattle.op_gen.specs.declared.scenario.Scenario.{Scenario}
use Rattle.op_gen.specs.declared.scenario.Scenario.TheVariants.{Quorum, Constrained, Chained}
use Rattle.op_world.specs.Drills.{IsReportOfDrill}
use Rattle.op_drill.specs.Drills.{TextEnds, is_told, is_cut, has_no_memory}
use Rattle.op_status.specs.declared.status.Status.{Status}

-- the members of a scenario are in range
five : MembersInRange (members_of Quorum)
five = record { some = omega arith; few = omega arith; rising = (omega arith, omega arith, (omega arith, omega arith, (omega arith, omega arith, (omega arith, omega arith, (omega arith, omega arith, tt))))) }

three : MembersInRange (members_of Chained)
three = record { some = omega arith; few = omega arith; rising = (omega arith, omega arith, (omega arith, omega arith, (omega arith, omega arith, tt))) }

scenario_in_range : (s : Scenario) → MembersInRange (members_of s)
scenario_in_range Quorum = five
scenario_in_range Constrained = five
scenario_in_range Chained = three

pub members_in_range : (s : Scenario) (ids : List ℕ) → ids ≡ members_of s → MembersInRange ids
members_in_range s ids e = subst (λ (x : List ℕ). MembersInRange x) (sym e) (scenario_in_range s)

-- the report is of the scenario's members and links
pub report_of : (s : Scenario) (rounds : ℕ) (members : List ℕ) (links : Links) (sum : Summary) → members ≡ members_of s → links ≡ links_of s
    → IsReportOfDrill members links rounds sum → IsReportOfDrill (members_of s) (links_of s) rounds sum
report_of s rounds members links sum members_are links_are report =
    subst (λ (ms : List ℕ). IsReportOfDrill ms (links_of s) rounds sum) members_are (subst (λ (l : Links). IsReportOfDrill members l rounds sum) links_are report)

-- what ends so with one kind of text does with another, where each text of the one is of the other
pub ends_as : {P Q : List ℕ → Type 0} (out0 out1 : StreamSeen) (s : Status) → ((t : List ℕ) → P t → Q t) → TextEnds P out0 out1 s → TextEnds Q out0 out1 s
ends_as out0 out1 s f (is_told text written ended) = is_told (f _ text) written ended
ends_as out0 out1 s f (is_cut text prefix rose) = is_cut (f _ text) prefix rose
ends_as out0 out1 s f (has_no_memory same) = has_no_memory same
