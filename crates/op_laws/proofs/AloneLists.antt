-- What comes at a node that is a majority alone, and that it doesn't refuse, is all that the happening adds to its configuration's list.
use Rattle.std.proofs.Common.{◌≡◌, ◌≤◌, ℕ, ◌+◌, List, [], ◌∷◌, ◌++◌, length, length-append, drop, is_some, true, Option, Some, None, refl, sym, ap, ◌∙◌, subst, arith, append_assoc, slice_get}
use Rattle.std.proofs.lemmas.Bool.{false≢true}
use Rattle.std.proofs.lemmas.List.{drop_at}
use Rattle.op_quorum.specs.Quorums.{is_majority, passing}
use Rattle.op_types.specs.Changes.{len_of, durable_after}
use Rattle.op_types.specs.Roles.{Role}
use Rattle.op_types.specs.Stops.{stop_of}
use Rattle.op_types.specs.declared.log.StopSign.{StopSign}
use Rattle.op_types.specs.RoleStates.{Leading}
use Rattle.op_types.specs.Roles as role
use Rattle.op_types.specs.declared.durable.Part.{Part}
use Rattle.op_types.specs.declared.events.Input.TheVariants as input
use Rattle.op_types.specs.declared.log.Command.{Command}
use Rattle.op_types.specs.declared.log.Entry.{Entry}
use Rattle.op_types.specs.declared.log.Entry.TheVariants as entry
use Rattle.op_spec.specs.Laws.{NoneAfterStop}
use Rattle.op_spec.specs.Machine.{Machine}
use Rattle.op_protocol.specs.Rows.{entries_of, stop_for, step_plan}
use Rattle.op_runs.specs.World.{Node, Happening, node_at, world_after}
use Rattle.op_runs.specs.Run.{Execution, first_execution, execution_with, execution_of}
use Rattle.op_configurations.specs.Servers.{Part as Member}
use Rattle.op_configurations.specs.Worlds as worlds
use Rattle.op_configurations.proofs.Standing.{grows, safe}
use Rattle.op_refinement.proofs.Logs.{len_of-whole}
use Rattle.op_refinement.proofs.Relation.{IfPartRel}
use Rattle.op_refinement.proofs.Worlds.{lists_of, state_of}
use Rattle.op_refinement.proofs.Beside.{NodeRel, IsBeside}
use Rattle.op_refinement.proofs.NodeLists.{IfThere, found}
use Rattle.op_refinement.proofs.Happening.{LateIs}
use Rattle.op_refinement.proofs.Steps.{AllRead}
use Rattle.op_refinement.proofs.Runs.{Track}
use Rattle.op_refinement.proofs.EveryRun.{every_track}
use Rattle.op_laws.specs.Proposals.{Proposal, entries_for}
use Rattle.op_laws.specs.Proposals as proposed
use Rattle.op_laws.specs.Alone.{IsKnownAt, TakesAlone, ClosesBy, DecidedAlone, LeadersDecideAlone}
use Rattle.op_laws.proofs.Alone.{known_at}
use Rattle.op_laws.proofs.AloneAnswers.{whole}
use Rattle.op_laws.proofs.AloneSteps as step
use Rattle.op_laws.proofs.SoleLeads.{sole_leads}
use Rattle.op_laws.proofs.WholeLogs.{whole_is_list}

-- the lists before and after begin with one log, and what it gets is all that they get
same_end : (list next more front other items es : List Entry) → next ≡ list ++ more → front ++ items ≡ list → other ++ (items ++ es) ≡ next → length other ≡ length front → next ≡ list ++ es
same_end list next more front other items es grows before after same =
    let split : next ≡ (other ++ items) ++ es = sym after ∙ sym (append_assoc other items es) in
    let size : length (other ++ items) ≡ length list = omega (arith, same, length-append other items, length-append front items, ap (λ (l : List Entry). length l) before) in
    let more_is : more ≡ es = sym (drop_at list more (length list) refl) ∙ ap (drop (length list)) (sym grows ∙ split) ∙ drop_at (other ++ items) es (length list) size in
    grows ∙ ap (λ (l : List Entry). list ++ l) more_is

-- behind a list stands a stop-sign, and so nothing more
none_past : (e : Entry) (es : List Entry) → NoneAfterStop (e ∷ es) → NoneAfterStop es
none_past e [] h = tt
none_past e (d ∷ es) h = h.1

sign_alone : (list more : List Entry) (e : Entry) → is_some (stop_of e) ≡ true → NoneAfterStop (list ++ more) → slice_get (list ++ more) (length list) ≡ Some e → more ≡ e ∷ []
sign_alone [] [] e stops none got = absurd (nothing e got)
  where
    nothing : (e : Entry) → None ≡ Some e → ⊥
    nothing e h = cc
sign_alone [] (d ∷ []) e stops none got = ap (λ (x : Entry). x ∷ []) (same d e got)
  where
    same : (d e : Entry) → Some d ≡ Some e → d ≡ e
    same d e h = cc
sign_alone [] (d ∷ f ∷ more) e stops none got = absurd (false≢true (ap (λ (o : Option StopSign). is_some o) (sym none.0 ∙ ap stop_of (same d e got)) ∙ stops))
  where
    same : (d e : Entry) → Some d ≡ Some e → d ≡ e
    same d e h = cc
sign_alone (x ∷ list) more e stops none got = sign_alone list more e stops (none_past x (list ++ more) none) got

module _ (first : List ℕ) (ks late : List worlds.Happening) (t : Execution) (h : Happening) (b : IsBeside first ks t) (read : AllRead (lists_of first ks)) (after : IsBeside first (ks ++ late) (execution_with t h)) (by : LateIs first ks t.world h late) (proposal : Proposal) (x : TakesAlone t h proposal) (lead : Leading) (leads : x.node.state.volatile.role ≡ role.Leading lead) where
  abbrev n : Node
  n = x.node

  abbrev p : Part
  p = x.part

  abbrev u : Execution
  u = execution_with t h

  rel : NodeRel first ks t.world.messages n
  rel = (subst (λ (o : Option Node). IfThere (NodeRel first ks t.world.messages) n.pid o) x.is (found (NodeRel first ks t.world.messages) t.world.nodes b.nodes n.pid)).1

  -- ---- before
  record Before : Type 0 where
    front : List Entry
    size : length front ≡ p.trimmed
    is : front ++ p.tail.items ≡ t.machine.lists p.conf
    len : len_of p ≡ length (t.machine.lists p.conf)

  before : Before
  before = of_part (state_of first ks n.pid).part refl (subst (λ (o : Option Part). IfPartRel (lists_of first ks) o n.state.volatile (state_of first ks n.pid).part) x.has (rel.rel).part)
    where
      of_part : (o : Option Member) → (state_of first ks n.pid).part ≡ o → IfPartRel (lists_of first ks) (Some p) n.state.volatile o → Before
      of_part None has r = absurd r
      of_part (Some pt) has r =
          let is : r.front ++ p.tail.items ≡ t.machine.lists p.conf =
          whole_is_list first ks n.pid pt has p n.state.volatile r lead leads x.majority ∙ ap (lists_of first ks) (sym r.conf) ∙ ap (λ (y : Machine). y.lists p.conf) (sym b.machine) in
          record { front = r.front; size = (r.fits).size; is = is; len = len_of-whole r.front p r.fits ∙ ap (λ (y : List Entry). length y) is }

  -- all that the list gets then
  more : (es : List Entry) × (u.machine.lists p.conf ≡ t.machine.lists p.conf ++ es)
  more =
      let g = (grows first ks late).lists p.conf in
      (g.0, ap (λ (y : Machine). y.lists p.conf) after.machine ∙ g.1 ∙ ap (λ (y : Machine). y.lists p.conf ++ g.0) (sym b.machine))

  -- what a leader that is a majority alone leaves, where the list gets what is proposed, and nothing else
  decided_so : u.machine.lists p.conf ≡ t.machine.lists p.conf ++ entries_for n proposal → ClosesBy proposal p (node_at (world_after t.world h).nodes n.pid) → DecidedAlone t h proposal x
  decided_so list closes = record {
    behind = before.len;
    list = list;
    known = known_at first ks late t u b read after h by proposal x lead leads;
    whole =
        let k : u.machine.known n.pid p.conf ≤ length (u.machine.lists p.conf) = subst (λ (y : Machine). y.known n.pid p.conf ≤ length (y.lists p.conf)) (sym after.machine) ((safe first (ks ++ late)).known n.pid p.conf) in
        omega (arith, k, ap (λ (es : List Entry). length es) list, before.len, length-append (t.machine.lists p.conf) (entries_for n proposal));
    closes = closes;
  }

-- ---- commands
module _ (first : List ℕ) (ks late : List worlds.Happening) (t : Execution) (h : Happening) (b : IsBeside first ks t) (read : AllRead (lists_of first ks)) (after : IsBeside first (ks ++ late) (execution_with t h)) (by : LateIs first ks t.world h late) (lead : Leading) where
  module _ (commands : List Command) (x : TakesAlone t h (proposed.Commands commands)) (leads : x.node.state.volatile.role ≡ role.Leading lead) where
    abbrev of_commands : Proposal
    of_commands = proposed.Commands commands

    abbrev all : x.part.decided ≡ len_of x.part
    all = whole first ks t b h of_commands x lead leads

    -- the node after it
    abbrev m : Node
    m = step.m t h of_commands x lead leads all

    rel_after : NodeRel first (ks ++ late) (execution_with t h).world.messages m
    rel_after =
        (subst (λ (o : Option Node). IfThere (NodeRel first (ks ++ late) (execution_with t h).world.messages) x.node.pid o) (step.there t h of_commands x lead leads all)
        (found (NodeRel first (ks ++ late) (execution_with t h).world.messages) (execution_with t h).world.nodes after.nodes x.node.pid)).1

    record After (es : List Entry) : Type 0 where
      front : List Entry
      size : length front ≡ x.part.trimmed
      is : front ++ (x.part.tail.items ++ es) ≡ (execution_with t h).machine.lists x.part.conf

    after_of : (q : Part) → (durable_after x.node.state.durable (step_plan x.node.pid x.node.state (input.Commands commands)).batch).part ≡ Some q → (es : List Entry)
        → (q.conf ≡ x.part.conf) × (q.members ≡ x.part.members) × (q.trimmed ≡ x.part.trimmed) × (q.tail.items ≡ x.part.tail.items ++ es) → m.state.volatile.role ≡ role.Leading lead → After es
    after_of q has_part es same still =
        of_part (state_of first (ks ++ late) x.node.pid).part refl (subst (λ (o : Option Part). IfPartRel (lists_of first (ks ++ late)) o m.state.volatile (state_of first (ks ++ late) x.node.pid).part) has_part (rel_after.rel).part)
      where
        of_part : (o : Option Member) → (state_of first (ks ++ late) x.node.pid).part ≡ o → IfPartRel (lists_of first (ks ++ late)) (Some q) m.state.volatile o → After es
        of_part None has r = absurd r
        of_part (Some pt) has r =
            let many : is_majority (passing (λ k. Rattle.std.specs.Prelude.nat_eq k x.node.pid) q.members) (length q.members) ≡ true =
            ap (λ (ms : List ℕ). is_majority (passing (λ k. Rattle.std.specs.Prelude.nat_eq k x.node.pid) ms) (length ms)) same.1 ∙ x.majority in
            record {
              front = r.front;
              size = (r.fits).size ∙ same.2;
              is = ap (λ (es : List Entry). r.front ++ es) (sym same.3) ∙ whole_is_list first (ks ++ late) x.node.pid pt has q m.state.volatile r lead still many
                  ∙ ap (lists_of first (ks ++ late)) (sym r.conf ∙ same.0) ∙ ap (λ (y : Machine). y.lists x.part.conf) (sym after.machine);
            }

    commands_decided : DecidedAlone t h of_commands x
    commands_decided =
        let es : List Entry = entries_of commands in
        let old = before first ks late t h b read after by of_commands x lead leads in
        let more = more first ks late t h b read after by of_commands x lead leads in
        let new : After es = after_of (step.q t h of_commands x lead leads all) (step.part_then t h commands x lead leads all) es (step.grown t h of_commands x lead leads all) (step.leads_then t h commands x lead leads all) in
        decided_so first ks late t h b read after by of_commands x lead leads
        (same_end (t.machine.lists x.part.conf) ((execution_with t h).machine.lists x.part.conf) more.0 old.front new.front x.part.tail.items es more.1 old.is new.is (new.size ∙ sym old.size)) tt

  -- ---- a stop-sign, behind which nothing stands
  stop_decided : (members : List ℕ) (x : TakesAlone t h (proposed.Stop members)) → x.node.state.volatile.role ≡ role.Leading lead → DecidedAlone t h (proposed.Stop members) x
  stop_decided members x leads =
      let of_stop : Proposal = proposed.Stop members in
      let u : Execution = execution_with t h in
      let c : ℕ = x.part.conf in
      let sign : Entry = entry.Stop (stop_for x.node.state.durable.part members) in
      let old = before first ks late t h b read after by of_stop x lead leads in
      let more = more first ks late t h b read after by of_stop x lead leads in
      let known : IsKnownAt u.machine c x.node.pid sign (len_of x.part + 0) = known_at first ks late t u b read after h by of_stop x lead leads 0 sign refl in
      let none : NoneAfterStop (u.machine.lists c) = subst (λ (y : Machine). NoneAfterStop (y.lists c)) (sym after.machine) ((safe first (ks ++ late)).after_stop c) in
      decided_so first ks late t h b read after by of_stop x lead leads
      (more.1 ∙ ap (λ (es : List Entry). t.machine.lists c ++ es)
      (sign_alone (t.machine.lists c) more.0 sign refl (subst (λ (es : List Entry). NoneAfterStop es) more.1 none)
      (subst (λ (k : ℕ). slice_get (t.machine.lists c ++ more.0) k ≡ Some sign) (let z : len_of x.part + 0 ≡ length (t.machine.lists c) = omega (arith, old.len) in z) (ap (λ (es : List Entry). slice_get es (len_of x.part + 0)) (sym more.1) ∙ known.1))))
      (step.has_closed t h members x lead leads (whole first ks t b h of_stop x lead leads))

-- so it is after every run
pub leaders_decide_alone : LeadersDecideAlone
leaders_decide_alone members spares early h range proposal x =
    let t : Execution = execution_of (first_execution members spares) early in
    let r : Track members t (h ∷ []) = every_track members spares range.first range.others early (h ∷ []) range.happenings in
    let s = r.next 0 h refl in
    let led = sole_leads members spares early h range proposal x in
    by (r.ks 0) s.0 (r.beside 0) (r.read 0) (subst (λ (l : List worlds.Happening). IsBeside members l (execution_with t h)) s.1 (r.beside 1)) s.3 proposal x led.0 led.1
  where
    by : (ks late : List worlds.Happening) (b : IsBeside members ks (execution_of (first_execution members spares) early)) (read : AllRead (lists_of members ks)) (after : IsBeside members (ks ++ late) (execution_with (execution_of (first_execution members spares) early) h)) (is : LateIs members ks (execution_of (first_execution members spares) early).world h late) (proposal : Proposal) (x : TakesAlone (execution_of (first_execution members spares) early) h proposal) (lead : Leading) → x.node.state.volatile.role ≡ role.Leading lead → DecidedAlone (execution_of (first_execution members spares) early) h proposal x
    by ks late b read after is (proposed.Commands commands) x lead leads = commands_decided members ks late (execution_of (first_execution members spares) early) h b read after is lead commands x leads
    by ks late b read after is (proposed.Stop next) x lead leads = stop_decided members ks late (execution_of (first_execution members spares) early) h b read after is lead next x leads
