-- The latest configuration that a server knows never falls, it joins only one above that, and each list before it is ended.
use Rattle.std.proofs.Common.{◌≡◌, ℕ, ◌≤◌, ⊎_elim, List, Option, true, sym, ap, ◌∙◌, subst}
use Rattle.std.specs.Prelude.{is_some}
use Rattle.op_types.specs.declared.log.Entry.{Entry}
use Rattle.op_types.specs.declared.log.StopSign.{StopSign}
use Rattle.op_spec.specs.Machine.{Machine, stop_at_end}
use Rattle.op_configurations.specs.Servers.{Closed, latest}
use Rattle.op_configurations.specs.Worlds.{World, run, start, machine_of}
use Rattle.op_configurations.specs.Laws.{LatestRises, JoinsAbove, EndedBelow}
use Rattle.op_configurations.proofs.Tale.{Whole, Linked, ClosedOk}
use Rattle.op_configurations.proofs.Book.{all_ok, runs_ok}
use Rattle.op_configurations.proofs.Standing.{run_append, whole_is}
use Rattle.op_configurations.proofs.Fixed.{below_latest}

pub latest_rises : LatestRises
latest_rises first early late p =
    let k = all_ok first early in
    let w = run early (start first) in
    let r = runs_ok first late k.tale w (machine_of first early) k.good k.book in
    subst (λ (x : World). latest (w.servers p).state ≤ latest (x.servers p).state) (sym (run_append early late (start first))) (r.rises p).upward

pub joins_above : JoinsAbove
joins_above first hs p j has = ((((all_ok first hs).good).servers p).state).above j has

pub ended_below : EndedBelow
ended_below first hs p c pos lt =
    let k = all_ok first hs in
    let m : Machine = machine_of first hs in
    let ends : (l : List Entry) (s : StopSign) → Whole k.tale c l s → is_some (stop_at_end (m.lists c)) ≡ true =
    λ l s w. ap (λ (x : List Entry). is_some (stop_at_end x)) (sym (whole_is first k.tale m (k.good).tale k.book c l s w)) ∙ ap (λ (o : Option StopSign). is_some o) w.last in
    ⊎_elim (λ (l : Linked k.tale c). ends l.list l.sign l.whole)
    (λ (x : (y : Closed) × ClosedOk k.tale y × (c ≡ y.conf)). ends (x.0).list (x.1).sign (subst (λ (r : ℕ). Whole k.tale r (x.0).list (x.1).sign) (sym x.2) (x.1).whole))
    (below_latest first m.proposed k.tale (k.good).tale p ((run hs (start first)).servers p).state ((k.good).servers p).state c pos lt)
