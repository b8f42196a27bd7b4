-- The members of each configuration are rising: who is a majority alone is the only one.
use Rattle.std.proofs.Common.{◌≡◌, ◌<◌, ◌≤◌, inl, inr, ⊎_elim, ℕ, ◌-◌, ◌*◌, ◌==◌, true, fold, List, [], ◌∷◌, ◌++◌, length, All, Option, Some, None, refl, sym, ap, ◌∙◌, subst, arith}
use Rattle.std.specs.List.{filter}
use Rattle.std.proofs.lemmas.Bool.{cond_both, eqb-true, ltb-true}
use Rattle.std.proofs.lemmas.List.Elements.{All-head, All-tail}
use Rattle.op_quorum.specs.Quorums.{is_majority, passing}
use Rattle.op_types.specs.Ranges.{AreRising}
use Rattle.op_types.specs.Stops.{stop_at_end, named_by}
use Rattle.op_types.specs.declared.answers.Refusal.{Refusal}
use Rattle.op_types.specs.declared.durable.Part.{Part}
use Rattle.op_types.specs.declared.events.Input.{Input}
use Rattle.op_types.specs.declared.events.Input.TheVariants as input
use Rattle.op_types.specs.declared.log.Command.{Command}
use Rattle.op_types.specs.declared.log.Entry.{Entry}
use Rattle.op_types.specs.declared.log.Entry.TheVariants as entry
use Rattle.op_types.specs.declared.log.StopSign.{StopSign}
use Rattle.op_spec.specs.Machine.{Machine, IsAmong, members_of}
use Rattle.op_spec.specs.Ledger.{machine_proposing}
use Rattle.op_spec.specs.Laws.{IsSafe}
use Rattle.op_protocol.specs.State.{State}
use Rattle.op_protocol.specs.Rows.{refusal_of, stop_for, entries_of}
use Rattle.op_runs.specs.Possible.{WhatInRange}
use Rattle.op_runs.specs.declared.events.What.{What}
use Rattle.op_runs.specs.declared.events.What.TheVariants as what
use Rattle.op_runs.specs.World.{Node, NodeStatus, Up, Down, Failed, Sent, Happening, Doing, Steps, Stops, Opens, Tells, Deed, delivery, deed_of, node_at, world_after}
use Rattle.op_runs.specs.Run.{Execution, first_execution, execution_with, execution_of, machine_proposing_in, machine_proposing_input, machine_proposing_if, machine_proposing_at, machine_proposing_by}
use Rattle.op_paxos.proofs.Updates.{upd_both}
use Rattle.op_paxos.proofs.Membership.{in_append}
use Rattle.op_laws.specs.Runs.{RunInRange}
use Rattle.op_laws.proofs.Admitted.{showing_all}

-- ---- who is a majority of rising members alone

none_above : (me low : ℕ) (ms : List ℕ) → me ≤ low → AreRising low ms → length (filter (λ q. q == me) ms) ≡ 0
none_above me low [] le r = refl
none_above me low (q ∷ ms) le r =
    let more = none_above me q ms (let l = r.0 in omega (arith, l, le)) r.2 in
    cond_both (q == me) (q ∷ filter (λ q. q == me) ms) (filter (λ q. q == me) ms) (λ (l : List ℕ). length l ≡ 0)
    (λ e. let l = r.0 in absurd (omega (arith, eqb-true q me e, l, le))) (λ e. more)

one_at_most : (me low : ℕ) (ms : List ℕ) → AreRising low ms → length (filter (λ q. q == me) ms) ≤ 1
one_at_most me low [] r = omega arith
one_at_most me low (q ∷ ms) r =
    let more = one_at_most me q ms r.2 in
    cond_both (q == me) (q ∷ filter (λ q. q == me) ms) (filter (λ q. q == me) ms) (λ (l : List ℕ). length l ≤ 1)
    (λ e. omega (arith, none_above me q ms (omega (arith, eqb-true q me e)) r.2)) (λ e. more)

only_of : (me : ℕ) (ms : List ℕ) → length ms ≤ 1 → is_majority (passing (λ q. q == me) ms) (length ms) ≡ true → (q : ℕ) → IsAmong ms q → q ≡ me
only_of me [] short many q i = absurd i
only_of me (x ∷ y ∷ ms) short many q i = absurd (omega (arith, short))
only_of me (x ∷ []) short many q i = ⊎_elim (λ (e : x ≡ q). sym e ∙ same) (λ (e : ⊥). absurd e) i
  where
    same : x ≡ me
    same = cond_both (x == me) (x ∷ []) [] (λ (l : List ℕ). 1 < 2 * length l → x ≡ me) (λ e h. eqb-true x me e) (λ e h. absurd (omega (arith, h))) (ltb-true 1 (2 * passing (λ q. q == me) (x ∷ [])) many)

-- it is the only one
pub only_member : (me : ℕ) (ms : List ℕ) → AreRising 0 ms → is_majority (passing (λ q. q == me) ms) (length ms) ≡ true → (q : ℕ) → IsAmong ms q → q ≡ me
only_member me ms r many = only_of me ms (omega (arith, one_at_most me 0 ms r, ltb-true (length ms) (2 * passing (λ q. q == me) ms) many)) many

-- ---- each stop-sign that was proposed has rising members

abbrev IsRising : Entry → Type 0
IsRising (entry.Command c) = Unit {0}
IsRising (entry.Stop s) = AreRising 0 s.members

abbrev StopsRise : (ℕ → List Entry) → Type 0
StopsRise proposed = (c : ℕ) (e : Entry) → IsAmong (proposed c) e → IsRising e

abbrev EachRises : List Entry → Type 0
EachRises es = (e : Entry) → IsAmong es e → IsRising e

commands_rise : (cs : List Command) → EachRises (entries_of cs)
commands_rise [] e i = absurd i
commands_rise (c ∷ cs) e i = ⊎_elim (λ (s : entry.Command c ≡ e). subst IsRising s tt) (λ (j : IsAmong (entries_of cs) e). commands_rise cs e j) i

proposing_each : (c : ℕ) (es : List Entry) (m : Machine) → StopsRise m.proposed → EachRises es → StopsRise (fold (λ (x : Machine) (e : Entry). machine_proposing x c e) m es).proposed
proposing_each c [] m h f = h
proposing_each c (d ∷ es) m h f =
    proposing_each c es (machine_proposing m c d)
    (λ b e i. upd_both (λ (l : List Entry). IsAmong l e → IsRising e) m.proposed c b (m.proposed c ++ d ∷ [])
    (λ s j. ⊎_elim (λ (z : IsAmong (m.proposed c) e). h c e z) (λ (z : IsAmong (d ∷ []) e). f e (⊎_elim (λ (y : d ≡ e). inl y) (λ (y : ⊥). absurd y) z)) (in_append e (m.proposed c) (d ∷ []) j))
    (λ n j. h b e j) i)
    (λ e i. f e (inr i))

abbrev InputRises : Input → Type 0
InputRises (input.Stop members) = AreRising 0 members
InputRises _ = Unit {0}

abbrev DoingRises : Doing → Type 0
DoingRises (Steps x) = InputRises x
DoingRises _ = Unit {0}

abbrev DeedRises : Option Deed → Type 0
DeedRises None = Unit {0}
DeedRises (Some x) = DoingRises x.doing

module _ (m : Machine) (h : StopsRise m.proposed) where
  of_part : (es : List Entry) → EachRises es → (o : Option Part) (r : Option Refusal) → StopsRise (machine_proposing_in m es o r).proposed
  of_part es f None r = h
  of_part es f (Some p) (Some r) = h
  of_part es f (Some p) None = proposing_each p.conf es m h f

  of_input : (me : ℕ) (s : State) (x : Input) → InputRises x → StopsRise (machine_proposing_input m me s x).proposed
  of_input me s (input.Commands cs) k = of_part (entries_of cs) (commands_rise cs) s.durable.part (refusal_of me s.volatile.role s.durable (entries_of cs))
  of_input me s (input.Stop members) k =
      let es : List Entry = entry.Stop (stop_for s.durable.part members) ∷ [] in
      of_part es (λ e i. ⊎_elim (λ (z : entry.Stop (stop_for s.durable.part members) ≡ e). subst IsRising z (named s.durable.part)) (λ (z : ⊥). absurd z) i) s.durable.part (refusal_of me s.volatile.role s.durable es)
    where
      named : (o : Option Part) → AreRising 0 (stop_for o members).members
      named None = k
      named (Some p) = k
  of_input me s input.Tick k = h
  of_input me s (input.Deliver q msg) k = h
  of_input me s input.TrimNow k = h
  of_input me s (input.Read r) k = h
  of_input me s (input.Up q) k = h
  of_input me s (input.Down q) k = h

  of_status : (z : NodeStatus) (me : ℕ) (s : State) (d : Doing) → DoingRises d → StopsRise (machine_proposing_if z m me s d).proposed
  of_status Up me s (Steps x) k = of_input me s x k
  of_status Up me s Stops k = h
  of_status Up me s Opens k = h
  of_status Up me s (Tells y) k = h
  of_status (Down after) me s d k = h
  of_status (Failed count after) me s d k = h

  of_node : (o : Option Node) (d : Doing) → DoingRises d → StopsRise (machine_proposing_at m o d).proposed
  of_node None d k = h
  of_node (Some n) d k = of_status n.status n.pid n.state d k

  of_deed : (nodes : List Node) (o : Option Deed) → DeedRises o → StopsRise (machine_proposing_by m nodes o).proposed
  of_deed nodes None k = h
  of_deed nodes (Some x) k = of_node (node_at nodes x.pid) x.doing k

delivery_rises : (o : Option Sent) → DeedRises (delivery o)
delivery_rises None = tt
delivery_rises (Some s) = tt

deed_rises : (messages : List Sent) (w : What) → WhatInRange w → DeedRises (deed_of messages w)
deed_rises messages (what.Tick p) k = tt
deed_rises messages (what.Commands p cs) k = tt
deed_rises messages (what.Stop p members) k = (k.1).rising
deed_rises messages (what.Trim p) k = tt
deed_rises messages (what.Read p r) k = tt
deed_rises messages (what.Deliver i) k = delivery_rises _
deed_rises messages (what.Up p q) k = tt
deed_rises messages (what.Down p q) k = tt
deed_rises messages (what.Crash p) k = tt
deed_rises messages (what.CrashAt p call image) k = tt
deed_rises messages (what.Fail p call) k = tt
deed_rises messages (what.Kill p disk) k = tt
deed_rises messages (what.Start p) k = tt
deed_rises messages (what.Show p) k = tt
deed_rises messages (what.Ballots p) k = tt

stops_rise_on : (t : Execution) (hs : List Happening) → All (λ h. WhatInRange h.event.what) hs → StopsRise t.machine.proposed → StopsRise (execution_of t hs).machine.proposed
stops_rise_on t [] k h = h
stops_rise_on t (x ∷ hs) k h =
    let d = deed_of t.world.messages x.event.what in
    stops_rise_on (execution_with t x) hs (All-tail (λ h. WhatInRange h.event.what) x hs k)
    (subst StopsRise (sym (showing_all (machine_proposing_by t.machine t.world.nodes d) (world_after t.world x).nodes))
    (of_deed t.machine h t.world.nodes d (deed_rises t.world.messages x.event.what (All-head (λ h. WhatInRange h.event.what) x hs k))))

-- ---- so the members of each configuration are rising

end_among : (l : List Entry) (s : StopSign) → stop_at_end l ≡ Some s → IsAmong l (entry.Stop s)
end_among [] s e = absurd (none e)
  where
    none : None ≡ Some s → ⊥
    none e = cc
end_among (entry.Command c ∷ []) s e = absurd (none e)
  where
    none : None ≡ Some s → ⊥
    none e = cc
end_among (entry.Stop x ∷ []) s e = inl (ap entry.Stop (same x s e))
  where
    same : (x s : StopSign) → Some x ≡ Some s → x ≡ s
    same x s e = cc
end_among (d ∷ e ∷ l) s h = inr (end_among (e ∷ l) s h)

members_rise_in : (first : List ℕ) (m : Machine) → IsSafe first m → AreRising 0 first → StopsRise m.proposed → (c : ℕ) → AreRising 0 (members_of first m.lists c)
members_rise_in first m safe r stops c = cond_both (c == 1) first (named_by (stop_at_end (m.lists (c - 1)))) (AreRising 0) (λ _. r) (λ _. by (stop_at_end (m.lists (c - 1))) refl)
  where
    by : (o : Option StopSign) → stop_at_end (m.lists (c - 1)) ≡ o → AreRising 0 (named_by o)
    by None e = tt
    by (Some s) e = stops (c - 1) (entry.Stop s) (safe.proposed (c - 1) (entry.Stop s) (end_among (m.lists (c - 1)) s e))

-- in each world that a run comes to
pub members_rise : (members spares : List ℕ) (hs : List Happening) → RunInRange members spares hs
    → let m : Machine = (execution_of (first_execution members spares) hs).machine in IsSafe members m → (c : ℕ) → AreRising 0 (members_of members m.lists c)
members_rise members spares hs k safe c =
    let m : Machine = (execution_of (first_execution members spares) hs).machine in
    members_rise_in members m safe (k.first).rising (stops_rise_on (first_execution members spares) hs (k.happenings).each (λ b e i. absurd i)) c
