use Rattle.std.proofs.Common.{◌≡◌, List, ℕ, [], IfOk, sym, subst, rules}
use Rattle.op_types.specs.Ranges.{MembersInRange}
use Rattle.op_areas.specs.Media.{medium}
use Rattle.op_executions.specs.Laws.{reached}
use Rattle.op_runs.specs.Possible.{ObserversInRange, SparesInRange}
use Rattle.op_runs.specs.Schedules.{observers_begun}
use Rattle.op_gen.specs.Draws.{drill_members, drill_spares}
use Rattle.op_world.proofs.Drawn.{drill_beside, drill_range}
use Rattle.op_executions.proofs.Behind.{no_observers}
use Rattle.op_world.specs.Worlds.{Shows}
use Rattle.op_world.proofs.world.drill.first_world.Goals as goal

pub new-requires-clause-members : goal.new-requires-clause-members
new-requires-clause-members g c =
    let is : c.in_ok-members.members ≡ drill_members = search rules in
    subst (λ (ms : List ℕ). MembersInRange ms) (sym is) drill_range

pub new-requires-clause-spares : goal.new-requires-clause-spares
new-requires-clause-spares g c =
    let members : c.in_ok-members.members ≡ drill_members = search rules in
    let spares : c.in_ok-spares.spares ≡ drill_spares = search rules in
    subst (λ (ms : List ℕ). SparesInRange ms c.in_ok-spares.spares) (sym members) (subst (λ (ss : List ℕ). SparesInRange drill_members ss) (sym spares) drill_beside)

pub new-requires-clause-observers : goal.new-requires-clause-observers
new-requires-clause-observers g c =
    subst (λ (os : List ℕ). ObserversInRange c.in_ok-members.members c.in_ok-spares.spares os) (sym c.new-none.ensures) (no_observers c.in_ok-members.members c.in_ok-spares.spares)

pub returns-clause-shows : goal.returns-clause-shows
returns-clause-shows g c =
    let M = medium g.A.Disk.state g.A.Area.holds g.A.Area.IS_MIRRORED in
    let members : c.in_ok-members.members ≡ drill_members = search rules in
    let spares : c.in_ok-spares.spares ≡ drill_spares = search rules in
    subst (λ (ms : List ℕ). IfOk c.new.result (λ w. Shows M w (reached ms drill_spares []))) members
    (subst (λ (ss : List ℕ). IfOk c.new.result (λ w. Shows M w (reached c.in_ok-members.members ss []))) spares
    (subst (λ (os : List ℕ). IfOk c.new.result (λ w. Shows M w (reached c.in_ok-members.members c.in_ok-spares.spares (observers_begun os)))) c.new-none.ensures c.new.ensures.shows))
