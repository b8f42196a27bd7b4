-- By the Accepted on which a leader closes its configuration, all of its log is decided.
use Rattle.std.proofs.Common.{◌≡◌, ◌<◌, ◌⊎◌, inl, inr, ⊎_elim, ℕ, zero, suc, ◌+◌, ◌-◌, max, Bool, true, false, cond, ◌&&◌, ◌||◌, eqb, nat_eq, ltb, leb, is_some, List, [], ◌∷◌, ◌++◌, length, take, drop, Option, Some, None, slice_get, refl, sym, ap, ◌∙◌, subst, arith, append-nil, drop_of_length-le, length-take}
use Rattle.std.proofs.lemmas.Bool.{cond_both, cond-true, cond-false, cases_Bool, eq-eqb, false≢true}
use Rattle.std.specs.Set.{is_member}
use Rattle.op_types.specs.Ballots.{is_same_ballot}
use Rattle.op_types.specs.Changes.{len_of, closed_by, durable_closing, durable_after}
use Rattle.op_types.specs.Stages.{Pieces}
use Rattle.op_types.specs.Stops.{stop_at_end}
use Rattle.op_types.specs.RoleStates.{Leading, with_acknowledged}
use Rattle.op_types.specs.Roles.{Role}
use Rattle.op_types.specs.Roles as role
use Rattle.op_types.specs.declared.ballot.Ballot.{Ballot}
use Rattle.op_types.specs.declared.changes.Change.{Change}
use Rattle.op_types.specs.declared.changes.Change.TheVariants as change
use Rattle.op_types.specs.declared.durable.Closed.{Closed}
use Rattle.op_types.specs.declared.durable.Durable.{Durable}
use Rattle.op_types.specs.declared.durable.Joining.{Joining}
use Rattle.op_types.specs.declared.durable.Part.{Part}
use Rattle.op_types.specs.declared.events.Input.{Input}
use Rattle.op_types.specs.declared.events.Input.TheVariants as input
use Rattle.op_types.specs.declared.log.Entry.{Entry}
use Rattle.op_types.specs.declared.messages.Body.TheVariants as body
use Rattle.op_types.specs.declared.messages.Msg.{Msg}
use Rattle.op_spec.specs.Machine.{Machine}
use Rattle.op_spec.specs.Ledger.{closed_decided, decided_in, machine_showing}
use Rattle.op_spec.specs.Service.{base_bytes}
use Rattle.op_spec.specs.Stands.{ClosedStands, IfClosedStands}
use Rattle.op_protocol.specs.State.{State, Waiting, Volatile, PartStep, Planned, with_effects, state_after}
use Rattle.op_protocol.specs.Parts.{part_after, decided_since}
use Rattle.op_protocol.specs.Leader.{counted, on_accepted}
use Rattle.op_protocol.specs.Configurations.{latest_in, latest_of, closing_part}
use Rattle.op_protocol.specs.Joining.{brought_to}
use Rattle.op_protocol.specs.Rows.{based_batch, planned, message_at, message_step, step_at, step_bringing, table_plan, step_plan, waiting_at}
use Rattle.op_protocol.proofs.Plans.{after_both}
use Rattle.op_types.specs.Effects.{Effects}
use Rattle.op_runs.specs.World.{World, Node, NodeStatus, Down, Failed, Happening, Steps, Deed, Fate, Done, Stopped, Faulted, delivery, deed_of, node_at, with_node, world_by_fate, world_by_status, world_at_node, world_with, world_after}
use Rattle.op_runs.specs.Run.{Execution, first_execution, execution_with, execution_of}
use Rattle.op_paxos.specs.Logs.{is_stop, has_stop}
use Rattle.op_paxos.proofs.Tidy.{Tidy, tidy_take}
use Rattle.op_configurations.specs.Servers as server
use Rattle.op_configurations.specs.Servers.{Part as Member}
use Rattle.op_configurations.specs.Worlds as worlds
use Rattle.op_configurations.specs.Worlds.{machine_of}
use Rattle.op_refinement.proofs.Logs.{tidy_suffix, last_stop}
use Rattle.op_refinement.proofs.Relation.{IfPartRel}
use Rattle.op_refinement.proofs.Steps.{AllRead}
use Rattle.op_refinement.proofs.Inputs.{NodeFacts, known_there}
use Rattle.op_refinement.proofs.Worlds.{lists_of, world_of, state_of, facts_of}
use Rattle.op_refinement.proofs.Beside.{NodeRel, IsBeside}
use Rattle.op_refinement.proofs.NodeLists.{IfThere, found, node_at-here}
use Rattle.op_refinement.proofs.Machines.{shows_nothing}
use Rattle.op_refinement.proofs.Runs.{Track, node_stands}
use Rattle.op_refinement.proofs.EveryRun.{every_track}
use Rattle.op_laws.specs.Alone.{IsKnownAt}
use Rattle.op_laws.specs.Closes.{ClosesOnAccepted, LogsAreClosedWhole}
use Rattle.op_laws.proofs.Moves as moves
use Rattle.op_laws.proofs.Moves.{JoiningIsAbove, latest_same, ends as ends_of}
use Rattle.op_laws.proofs.Reached.{joining_above}

none_some : {A : Type 0} (a : A) → None ≡ Some a → ⊥
none_some a e = cc

some_same : {A : Type 0} (a b : A) → Some a ≡ Some b → a ≡ b
some_same a b e = cc

-- ---- logs in which nothing stands after a stop-sign
or_later : (a b : Bool) → b ≡ true → (a || b) ≡ true
or_later true b h = refl
or_later false b h = h

stop_before : (n : ℕ) (es : List Entry) → has_stop (drop n es) ≡ true → has_stop es ≡ true
stop_before zero es h = h
stop_before (suc n) [] h = h
stop_before (suc n) (e ∷ es) h = or_later (is_stop e) (has_stop es) (stop_before n es h)

take_nothing : (n : ℕ) → ◌≡◌ {A = List Entry} (take n []) []
take_nothing zero = refl
take_nothing (suc n) = refl

-- a front with a stop-sign is the whole log
whole_front : (n : ℕ) (es : List Entry) → Tidy es → has_stop (take n es) ≡ true → take n es ≡ es
whole_front zero es t h = absurd (false≢true h)
whole_front (suc n) [] t h = refl
whole_front (suc n) (e ∷ es) t h = by (is_stop e) refl (λ k. whole_front n es t.1 k)
  where
    by : (b : Bool) → is_stop e ≡ b → (has_stop (take n es) ≡ true → take n es ≡ es) → e ∷ take n es ≡ e ∷ es
    by true s rest = ap (λ (l : List Entry). e ∷ l) (ap (take n) (t.0 s) ∙ take_nothing n ∙ sym (t.0 s))
    by false s rest = ap (λ (l : List Entry). e ∷ l) (rest (sym (ap (λ (b : Bool). b || has_stop (take n es)) s) ∙ h))

tidy_front : (n : ℕ) (es : List Entry) → Tidy es → Tidy (take n es)
tidy_front n es t = tidy_take n es t

tidy_back : (n : ℕ) (es : List Entry) → Tidy es → Tidy (drop n es)
tidy_back zero es t = t
tidy_back (suc n) [] t = tt
tidy_back (suc n) (e ∷ es) t = tidy_back n es t.1

-- a stop-sign that ends a part of the log ends the log
ends_whole : (a b : ℕ) (es : List Entry) → Tidy es → is_some (stop_at_end (drop a (take b es))) ≡ true → take b es ≡ es
ends_whole a b es t h =
    whole_front b es t (stop_before a (take b es) (sym (last_stop (drop a (take b es)) (tidy_back a (take b es) (tidy_front b es t))) ∙ h))

got_behind : (t n : ℕ) (es : List Entry) (e : Entry) → slice_get (drop t es) n ≡ Some e → slice_get es (t + n) ≡ Some e
got_behind zero n es e h = subst (λ (k : ℕ). slice_get es k ≡ Some e) (let z : n ≡ zero + n = omega arith in z) h
got_behind (suc t) n [] e h = absurd (nothing n h)
  where
    nothing : (n : ℕ) → slice_get [] n ≡ Some e → ⊥
    nothing n k = none_some e k
got_behind (suc t) n (x ∷ es) e h = subst (λ (k : ℕ). slice_get (x ∷ es) k ≡ Some e) (let z : suc (t + n) ≡ suc t + n = omega arith in z) (got_behind t n es e h)

got_within : (es : List Entry) (n : ℕ) (e : Entry) → slice_get es n ≡ Some e → n < length es
got_within [] n e h = absurd (none_some e h)
got_within (x ∷ es) zero e h = omega arith
got_within (x ∷ es) (suc n) e h = omega (arith, got_within es n e h)

-- ---- the row of an Accepted decides at a leader, or does nothing
abbrev pub OnlyDecides : Volatile → PartStep → Type 0
OnlyDecides v y = (y.batch ≡ []) ⊎ ((x : ℕ) × (y.batch ≡ change.Decided x ∷ []) × (l : Leading) × (v.role ≡ role.Leading l))

module _ (me : ℕ) (v : Volatile) (q : ℕ) (b : Ballot) (x : ℕ) where
  leads_only : (p : Part) (ρ : Role) → v.role ≡ ρ → OnlyDecides v (with_effects v (on_accepted me p ρ q b x))
  leads_only p role.Idle is = inl refl
  leads_only p (role.Preparing r) is = inl refl
  leads_only p (role.Leading l) is =
      let k : Leading = with_acknowledged l (record { from = q; len = x }) in
      cond_both (is_same_ballot b l.ballot && leb x (len_of p)) _ _ (λ (e : Effects). OnlyDecides v (with_effects v e))
      (λ _. cond_both (ltb p.decided (counted me p.members (len_of p) k.acknowledged)) _ _ (λ (e : Effects). OnlyDecides v (with_effects v e)) (λ _. inr (_, refl, l, is)) (λ _. inl refl))
      (λ _. inl refl)

  at_part : (o : Option Part) (c : ℕ) → OnlyDecides v (message_at me o v q (record { conf = c; body = body.Accepted b x }))
  at_part None c = inl refl
  at_part (Some p) c = cond_both (eqb c p.conf && true) _ _ (OnlyDecides v) (λ _. leads_only p v.role refl) (λ _. inl refl)

  pub message_only : (d : Durable) (c : ℕ) → OnlyDecides v (message_step me d v q (record { conf = c; body = body.Accepted b x }))
  message_only d c =
      cond_both (is_some d.joining && true) _ _ (OnlyDecides v) (λ _. inl refl)
      (λ _. cond_both (ltb c (latest_of d)) _ _ (OnlyDecides v) (λ _. inl refl) (λ _. cond_both (ltb (latest_of d) c && true) _ _ (OnlyDecides v) (λ _. inl refl) (λ _. at_part d.part c)))

nothing_brought : (o : Option Joining) (pieces : Option Pieces) (t : Bool) (c : ℕ) (b : Ballot) (x : ℕ) → cond t None (brought_to o pieces c (body.Accepted b x)) ≡ None
nothing_brought o pieces true c b x = refl
nothing_brought None pieces false c b x = refl
nothing_brought (Some j) pieces false c b x = refl

module _ (first : List ℕ) (ks late : List worlds.Happening) (t : Execution) (h : Happening) (b : IsBeside first ks t) (read : AllRead (lists_of first ks)) (later : IsBeside first (ks ++ late) (execution_with t h)) (x : ClosesOnAccepted t h) where
  abbrev n : Node
  n = x.node

  abbrev s : State
  s = x.node.state

  abbrev p : Part
  p = x.part

  abbrev m : Msg
  m = record { conf = p.conf; body = body.Accepted x.ballot x.size }

  abbrev z : Input
  z = input.Deliver x.from m

  abbrev u : Execution
  u = execution_with t h

  rel : NodeRel first ks t.world.messages n
  rel = (subst (λ (o : Option Node). IfThere (NodeRel first ks t.world.messages) n.pid o) x.is (found (NodeRel first ks t.world.messages) t.world.nodes b.nodes n.pid)).1

  rel_after : (x.after.pid ≡ n.pid) × NodeRel first (ks ++ late) u.world.messages x.after
  rel_after = subst (λ (o : Option Node). IfThere (NodeRel first (ks ++ late) u.world.messages) n.pid o) x.then (found (NodeRel first (ks ++ late) u.world.messages) u.world.nodes later.nodes n.pid)

  above : JoiningIsAbove s.durable
  above = joining_above first ks t.world.messages n rel

  latest_here : latest_of s.durable ≡ p.conf
  latest_here = ap (λ (o : Option Part). latest_in o s.durable.closed) x.has

  -- ---- the log is tidy
  facts : NodeFacts (lists_of first (ks ++ [])) (world_of first ks).soup n.pid s (state_of first ks n.pid)
  facts = facts_of first ks [] n.pid s rel.low (subst (λ (l : List worlds.Happening). AllRead (lists_of first l)) (sym (append-nil ks)) read) rel.rel rel.serves

  tidy : Tidy p.tail.items
  tidy = by (state_of first ks n.pid).part refl (subst (λ (o : Option Part). IfPartRel (lists_of first (ks ++ [])) o s.volatile (state_of first ks n.pid).part) x.has (facts.rel).part)
    where
      by : (o : Option Member) → (state_of first ks n.pid).part ≡ o → IfPartRel (lists_of first (ks ++ [])) (Some p) s.volatile o → Tidy p.tail.items
      by None e r = absurd r
      by (Some pt) e r = tidy_suffix r.front p.tail.items (known_there (lists_of first (ks ++ [])) (world_of first ks).soup n.pid server.Done s (state_of first ks n.pid) facts p pt x.has e r).tidy

  -- ---- the step
  abbrev row : PartStep
  row = step_at n.pid s.durable s.volatile z

  abbrev ws : Waiting
  ws = waiting_at n.pid s z

  abbrev plan : Planned
  plan = planned s ws row

  abbrev ends : Bool
  ends = moves.ends n.pid s z above p x.has ws

  abbrev closed : Planned
  closed = closing_part n.pid (part_after p plan.batch) plan

  of_row : table_plan n.pid s z ≡ cond ends closed plan
  of_row = ap (λ o. step_bringing n.pid s z o) (nothing_brought s.durable.joining s.volatile.pieces (ltb p.conf (latest_of s.durable)) p.conf x.ballot x.size) ∙ moves.plan_is n.pid s z above p x.has ws

  world_is : world_after t.world h ≡ world_by_fate h.fate h.event.line t.world n z
  world_is =
      let deed : deed_of t.world.messages h.event.what ≡ Some (record { pid = n.pid; doing = Steps z }) = ap (deed_of t.world.messages) x.delivers ∙ ap delivery x.message in
      ap (λ (o : Option Deed). world_with o h t.world) deed ∙ ap (λ (o : Option Node). world_at_node o (Steps z) h t.world) x.is ∙ ap (λ (q : NodeStatus). world_by_status q (Steps z) h t.world n) x.up

  -- it is done, since the configuration is left
  stored : (x.after).state.durable ≡ durable_after s.durable (step_plan n.pid s z).batch
  stored = by h.fate refl
    where
      placed : (k : Node) → k.pid ≡ n.pid → (world_by_fate h.fate h.event.line t.world n z).nodes ≡ with_node t.world.nodes k → k ≡ x.after
      placed k same e =
          some_same k x.after (sym (subst (λ (q : ℕ). node_at (with_node t.world.nodes k) q ≡ Some k) same (node_at-here t.world.nodes k n (ap (node_at t.world.nodes) same ∙ x.is)))
          ∙ ap (λ (ns : List Node). node_at ns n.pid) (sym e) ∙ ap (λ (w : World). node_at w.nodes n.pid) (sym world_is) ∙ x.then)

      -- one that stopped or failed would be in the configuration still
      halted : (status : NodeStatus) → (world_by_fate h.fate h.event.line t.world n z).nodes ≡ with_node t.world.nodes (record n { status = status }) → (x.after).state.durable ≡ durable_after s.durable (step_plan n.pid s z).batch
      halted status e =
          let same : record n { status = status } ≡ x.after = placed (record n { status = status }) refl e in
          absurd (omega (arith, x.later, latest_here, ap (λ (w : Node). latest_of w.state.durable) same))

      by : (f : Fate) → h.fate ≡ f → (x.after).state.durable ≡ durable_after s.durable (step_plan n.pid s z).batch
      by Done f = ap (λ (k : Node). k.state.durable) (sym (placed (record n { state = state_after s (step_plan n.pid s z) }) refl (ap (λ (g : Fate). (world_by_fate g h.event.line t.world n z).nodes) f)))
      by Stopped f =
          halted (Down (durable_after s.durable (step_plan n.pid s z).batch)) (ap (λ (g : Fate). (world_by_fate g h.event.line t.world n z).nodes) f)
      by (Faulted count) f =
          halted (Failed count (durable_after s.durable (step_plan n.pid s z).batch)) (ap (λ (g : Fate). (world_by_fate g h.event.line t.world n z).nodes) f)

  -- the step closes the configuration
  closes : ends ≡ true
  closes =
      ⊎_elim (λ (e : ends ≡ true). e)
      (λ (e : ends ≡ false).
      let is : table_plan n.pid s z ≡ plan = of_row ∙ cond-false ends closed plan e in
      absurd (omega (arith, x.later, latest_here, ap latest_of stored, ap (λ (y : Planned). latest_of (durable_after s.durable y.batch)) is, latest_same n.pid s z plan (moves.keeps n.pid s z above p x.has ws))))
      (cases_Bool ends)

  closed_is : table_plan n.pid s z ≡ closed
  closed_is = of_row ∙ cond-true ends closed plan closes

  -- by what it decides
  batch_of : (bs : List Change) → row.batch ≡ bs → plan.batch ≡ based_batch (Some p) bs
  batch_of bs e = ap (λ (o : Option Part). based_batch o row.batch) x.has ∙ ap (based_batch (Some p)) e

  decides : (y : ℕ) × (plan.batch ≡ change.Decided y ∷ []) × (l : Leading) × (s.volatile.role ≡ role.Leading l)
  unfolding ends_of
  decides =
      ⊎_elim
      (λ (e : row.batch ≡ []).
      let none : decided_since p (part_after p plan.batch) ≡ [] =
      ap (λ (bs : List Change). decided_since p (part_after p bs)) (batch_of [] e) ∙ drop_of_length-le (take (p.decided - p.trimmed) p.tail.items) (omega (arith, length-take (p.decided - p.trimmed) p.tail.items)) in
      absurd (false≢true (sym (ap (λ (es : List Entry). is_some (stop_at_end es)) none) ∙ closes)))
      (λ (e : (y : ℕ) × (row.batch ≡ change.Decided y ∷ []) × (l : Leading) × (s.volatile.role ≡ role.Leading l)). (e.0, batch_of (change.Decided e.0 ∷ []) e.1, e.2, e.3))
      (message_only n.pid s.volatile x.from x.ballot x.size s.durable p.conf)

  -- as a leader
  pub leads_then : (l : Leading) × (s.volatile.role ≡ role.Leading l)
  leads_then = let d = decides in (d.2, d.3)

  -- all of the log
  abbrev q : Part
  q = part_after p plan.batch

  all_of : take (q.decided - q.trimmed) q.tail.items ≡ p.tail.items
  unfolding ends_of
  all_of =
      let d = decides in
      let is : q ≡ record p { decided = d.0 } = ap (part_after p) d.1 in
      let stop : is_some (stop_at_end (drop (p.decided - p.trimmed) (take (d.0 - p.trimmed) p.tail.items))) ≡ true = ap (λ (o : Part). is_some (stop_at_end (decided_since p o))) (sym is) ∙ closes in
      ap (λ (o : Part). take (o.decided - o.trimmed) o.tail.items) is ∙ ends_whole (p.decided - p.trimmed) (d.0 - p.trimmed) p.tail.items tidy stop

  list_kept : (q.conf ≡ p.conf) × (q.trimmed ≡ p.trimmed)
  list_kept = let d = decides in (ap (λ (bs : List Change). (part_after p bs).conf) d.1, ap (λ (bs : List Change). (part_after p bs).trimmed) d.1)

  -- the closed list that is stored
  closed_there : (x.after).state.durable.closed ≡ Some (closed_by q)
  closed_there =
      let named : Bool = is_member nat_eq (closed_by q).next n.pid in
      let close : Change = change.Close named (base_bytes plan.service) in
      let part_is : (durable_after s.durable plan.batch).part ≡ Some q = moves.part_is n.pid s z above p x.has ws ∙ ap (λ (bs : List Change). Some (part_after p bs)) (sym (ap (λ (o : Option Part). based_batch o row.batch) x.has)) in
      ap (λ (d : Durable). d.closed) stored ∙ ap (λ (y : Planned). (durable_after s.durable y.batch).closed) closed_is ∙ ap (λ (d : Durable). d.closed) (after_both s.durable plan.batch (close ∷ []))
      ∙ ap (λ (o : Option Part). (durable_closing o (durable_after s.durable plan.batch) named (base_bytes plan.service)).closed) part_is

  -- ---- what is known then
  pub known_then : (k : ℕ) (e : Entry) → slice_get p.tail.items k ≡ Some e → IsKnownAt u.machine p.conf n.pid e (p.trimmed + k)
  known_then k e got =
      let after : Node = x.after in
      let machine : u.machine ≡ machine_of first (ks ++ late) = later.machine in
      let stands : ClosedStands first (lists_of first (ks ++ late)) (closed_by q) = subst (IfClosedStands first (lists_of first (ks ++ late))) closed_there (node_stands first (ks ++ late) u.world.messages after rel_after.1).closed in
      let tail : slice_get (drop q.trimmed (lists_of first (ks ++ late) q.conf)) k ≡ Some e = ap (λ (es : List Entry). slice_get es k) (sym stands.entries ∙ all_of) ∙ got in
      let there : slice_get (lists_of first (ks ++ late) q.conf) (q.trimmed + k) ≡ Some e = got_behind q.trimmed k (lists_of first (ks ++ late) q.conf) e tail in
      let listed : slice_get (u.machine.lists p.conf) (p.trimmed + k) ≡ Some e =
      ap (λ (w : Machine). slice_get (w.lists p.conf) (p.trimmed + k)) machine
      ∙ ap (λ (c : ℕ). slice_get (lists_of first (ks ++ late) c) (p.trimmed + k)) (sym list_kept.0) ∙ ap (λ (c : ℕ). slice_get (lists_of first (ks ++ late) q.conf) (c + k)) (sym list_kept.1) ∙ there in
      let shown : (machine_showing u.machine n.pid after.state.durable).known n.pid p.conf ≡ u.machine.known n.pid p.conf =
      ap (λ (c : ℕ). (machine_showing u.machine c after.state.durable).known n.pid p.conf) (sym rel_after.0)
      ∙ ap (λ (w : Machine). w.known n.pid p.conf) (ap (λ (w : Machine). machine_showing w after.pid after.state.durable) machine ∙ shows_nothing first (ks ++ late) u.world.messages after rel_after.1 ∙ sym machine) in
      let own : (machine_showing u.machine n.pid after.state.durable).known n.pid p.conf ≡ max (u.machine.known n.pid p.conf) (decided_in after.state.durable p.conf) =
      ap (λ (t : Bool). cond t (max (u.machine.known n.pid p.conf) (decided_in after.state.durable p.conf)) (u.machine.known n.pid p.conf)) (eq-eqb n.pid n.pid refl) in
      let size : closed_decided after.state.durable.closed p.conf ≡ q.trimmed + length (take (q.decided - q.trimmed) q.tail.items) =
      ap (λ (o : Option Closed). closed_decided o p.conf) closed_there ∙ ap (λ (t : Bool). cond t (q.trimmed + length (take (q.decided - q.trimmed) q.tail.items)) 0) (eq-eqb p.conf q.conf (sym list_kept.0)) in
      (omega (arith, shown, own, size, list_kept.1, ap (λ (es : List Entry). length es) all_of, got_within p.tail.items k e got), listed)

-- so it is after every run
pub logs_are_closed_whole : LogsAreClosedWhole
logs_are_closed_whole members spares early h range k e x got =
    let t : Execution = execution_of (first_execution members spares) early in
    let r : Track members t (h ∷ []) = every_track members spares range.first range.others early (h ∷ []) range.happenings in
    let s = r.next 0 h refl in
    known_then members (r.ks 0) s.0 t h (r.beside 0) (r.read 0) (subst (λ (l : List worlds.Happening). IsBeside members l (execution_with t h)) s.1 (r.beside 1)) x k e got
