-- Who is a majority of its configuration alone, and refuses nothing, leads.
use Rattle.std.proofs.Common.{◌≡◌, ◌⊎◌, inl, inr, ⊎_elim, ℕ, Bool, true, false, not, ◌==◌, ◌&&◌, ◌||◌, ltb, List, [], ◌∷◌, ◌++◌, is_some, Option, Some, None, refl, sym, ap, ◌∙◌, subst, append-nil}
use Rattle.std.proofs.lemmas.Bool.{and_parts, both_ways, eq-eqb, false≢true, or_left}
use Rattle.op_types.specs.Ranges.{AreRising}
use Rattle.op_types.specs.RoleStates.{Leading}
use Rattle.op_types.specs.Roles.{Role}
use Rattle.op_types.specs.Roles as role
use Rattle.op_types.specs.declared.durable.Part.{Part as StoredPart}
use Rattle.op_types.specs.declared.log.Entry.{Entry}
use Rattle.op_spec.specs.Machine.{Machine, IsAmong, members_of}
use Rattle.op_spec.specs.Laws.{IsSafe}
use Rattle.op_runs.specs.World.{Node, Happening}
use Rattle.op_runs.specs.Run.{Execution, first_execution, execution_of}
use Rattle.op_paxos.specs.Logs.{overflows}
use Rattle.op_paxos.specs.Nodes.{owner, majority_passes}
use Rattle.op_paxos.specs.Leader.{has_quorum}
use Rattle.op_paxos.specs.Worlds as paxos
use Rattle.op_paxos.proofs.CountedLengths.{many_is}
use Rattle.op_paxos.proofs.PromiseFacts.{RoleS}
use Rattle.op_paxos.proofs.PromisesStand.{start_good, run_good}
use Rattle.op_paxos.proofs.Runs as runs
use Rattle.op_configurations.specs.Servers as server
use Rattle.op_configurations.specs.Servers.{Part}
use Rattle.op_configurations.specs.Worlds as worlds
use Rattle.op_configurations.proofs.Standing.{safe, stands}
use Rattle.op_refinement.proofs.Pure as pure
use Rattle.op_refinement.proofs.View.{view_role}
use Rattle.op_refinement.proofs.Relation.{PartRel, all_before, IfPartRel}
use Rattle.op_refinement.proofs.Steps.{AllRead}
use Rattle.op_refinement.proofs.Worlds.{lists_of, world_of, state_of, facts_of}
use Rattle.op_refinement.proofs.Beside.{NodeRel, IsBeside}
use Rattle.op_refinement.proofs.NodeLists.{IfThere, found}
use Rattle.op_refinement.proofs.Proposals.{taken}
use Rattle.op_refinement.proofs.Runs.{Track}
use Rattle.op_refinement.proofs.EveryRun.{every_track}
use Rattle.op_laws.specs.Proposals.{Proposal, entries_for}
use Rattle.op_laws.specs.Alone.{TakesAlone}
use Rattle.op_laws.proofs.Proposals.{ends_late}
use Rattle.op_laws.specs.Runs.{RunInRange}
use Rattle.op_laws.proofs.Reached.{front_in_range}
use Rattle.op_laws.proofs.MemberBallots.{IsOurs, AllLed, ballots_are_ours}
use Rattle.op_laws.proofs.MemberLeads.{all_led}
use Rattle.op_laws.proofs.SoleMembers.{only_member, members_rise}

-- ---- in the pure machine

-- what a majority alone promised is its own
own_promise : (first : List ℕ) (ks : List worlds.Happening) (pid : ℕ) (pt : Part) → (state_of first ks pid).part ≡ Some pt → AreRising 0 pt.members → majority_passes pt.members (λ q. q == pid) ≡ true
    → ((pt.node).promised ≡ 0) ⊎ (owner (pt.node).promised ≡ pid)
own_promise first ks pid pt has rising many =
    let k = all_led first ks in
    let x = (((k.good).servers pid).state).part pt has in
    let ms : List ℕ = (k.tale).members pt.conf in
    let ours = (ballots_are_ours (IsAmong ms) ms ((k.tale).events pt.conf) (subst (AllLed (IsAmong ms)) (sym ((k.good).events pt.conf)) (k.led pt.conf))).nodes pid in
    let here : IsOurs (IsAmong ms) (pt.node).promised = subst (λ (n : pure.Node). IsOurs (IsAmong ms) n.promised) x.node ours.promised in
    ⊎_elim (λ (z : (pt.node).promised ≡ 0). inl z)
    (λ (i : IsAmong ms (owner (pt.node).promised)). inr (only_member pid pt.members rising many (owner (pt.node).promised) (subst (λ (l : List ℕ). IsAmong l (owner (pt.node).promised)) (sym x.members) i))) here

-- and it has a majority as soon as it prepares
never_prepares : (first : List ℕ) (ks : List worlds.Happening) (pid : ℕ) (pt : Part) → (state_of first ks pid).part ≡ Some pt → majority_passes pt.members (λ q. q == pid) ≡ true → (r : pure.PreparingState) → (pt.node).role ≡ pure.Preparing r → ⊥
never_prepares first ks pid pt has many r prepares =
    let k = all_led first ks in
    let x = (((k.good).servers pid).state).part pt has in
    let ms : List ℕ = (k.tale).members pt.conf in
    let w : paxos.World = paxos.run ms ((k.tale).events pt.conf) paxos.start in
    let good = run_good ms ((k.tale).events pt.conf) paxos.start runs.first (start_good ms) in
    let tells : RoleS ms w.nodes pid (w.nodes pid) (w.nodes pid).role = ((good.1).tells).nodes pid in
    let here : RoleS ms w.nodes pid pt.node (pt.node).role = subst (λ (n : pure.Node). RoleS ms w.nodes pid n n.role) x.node tells in
    let few : has_quorum ms pid r ≡ false = (subst (RoleS ms w.nodes pid pt.node) prepares here).few in
    let all : has_quorum ms pid r ≡ true =
    many_is ms (λ q. q == pid) (λ q. (q == pid) || is_some (r.kept q)) (λ q e. or_left (q == pid) (is_some (r.kept q)) e) (subst (λ (l : List ℕ). majority_passes l (λ q. q == pid) ≡ true) x.members many) in
    both_ways (has_quorum ms pid r) few all

-- what it takes a proposal for, it leads
leads_there : (first : List ℕ) (ks : List worlds.Happening) (pid : ℕ) (pt : Part) (es : List Entry) → (state_of first ks pid).part ≡ Some pt → AreRising 0 pt.members → majority_passes pt.members (λ q. q == pid) ≡ true
    → server.may_propose_in pid pt.node es ≡ true → (l : pure.LeadingState) × ((pt.node).role ≡ pure.Leading l)
leads_there first ks pid pt es has rising many may = by (pt.node).role refl
  where
    told : (ltb 0 (pt.node).promised ≡ true) × (not ((owner (pt.node).promised == pid) && server.is_idle (pt.node).role) ≡ true)
    told =
        let room = not (overflows (pt.node).log es) in
        let some = ltb 0 (pt.node).promised in
        let other = not ((owner (pt.node).promised == pid) && server.is_idle (pt.node).role) in
        and_parts some other (and_parts room (some && other) may).1

    own : owner (pt.node).promised ≡ pid
    own = ⊎_elim (λ (z : (pt.node).promised ≡ 0). absurd (false≢true (sym (ap (λ (n : ℕ). ltb 0 n) z) ∙ told.0))) (λ e. e) (own_promise first ks pid pt has rising many)

    awake : not (server.is_idle (pt.node).role) ≡ true
    awake = ap (λ (b : Bool). not (b && server.is_idle (pt.node).role)) (sym (eq-eqb (owner (pt.node).promised) pid own)) ∙ told.1

    by : (r : pure.Role) → (pt.node).role ≡ r → (l : pure.LeadingState) × ((pt.node).role ≡ pure.Leading l)
    by pure.Idle is = absurd (false≢true (ap (λ (r : pure.Role). not (server.is_idle r)) (sym is) ∙ awake))
    by (pure.Preparing r) is = absurd (never_prepares first ks pid pt has many r is)
    by (pure.Leading l) is = (l, is)

-- ---- at the node beside it

pub leading_of : (r : Role) (l : pure.LeadingState) → view_role r ≡ pure.Leading l → (k : Leading) × (r ≡ role.Leading k)
leading_of role.Idle l e = absurd (differ e)
  where
    differ : pure.Idle ≡ pure.Leading l → ⊥
    differ e = cc
leading_of (role.Preparing r) l e = absurd (differ _ e)
  where
    differ : (r : pure.PreparingState) → pure.Preparing r ≡ pure.Leading l → ⊥
    differ r e = cc
leading_of (role.Leading k) l e = (k, refl)

module _ (first : List ℕ) (ks : List worlds.Happening) (t : Execution) (b : IsBeside first ks t) (read : AllRead (lists_of first ks)) (rise : (c : ℕ) → AreRising 0 (members_of first t.machine.lists c)) (h : Happening) (proposal : Proposal) (x : TakesAlone t h proposal) where
  abbrev n : Node
  n = x.node

  abbrev es : List Entry
  es = entries_for x.node proposal

  rel : NodeRel first ks t.world.messages n
  rel = (subst (λ (o : Option Node). IfThere (NodeRel first ks t.world.messages) n.pid o) x.is (found (NodeRel first ks t.world.messages) t.world.nodes b.nodes n.pid)).1

  takes : server.may_propose n.pid (state_of first ks n.pid) (state_of first ks n.pid).part es ≡ true
  takes =
      (taken (lists_of first (ks ++ [])) (world_of first ks).soup n.pid n.state (state_of first ks n.pid)
      (facts_of first ks [] n.pid n.state rel.low (subst (λ (l : List worlds.Happening). AllRead (lists_of first l)) (sym (append-nil ks)) read) rel.rel rel.serves) es (ends_late n.state.durable.part proposal) x.free).may

  leads_by : (pt : Part) → (state_of first ks n.pid).part ≡ Some pt → PartRel (all_before (lists_of first ks) pt.conf) x.part n.state.volatile pt → (l : Leading) × (n.state.volatile.role ≡ role.Leading l)
  leads_by pt has r =
      let may = (and_parts (not (is_some (state_of first ks n.pid).joining)) (server.may_propose_in n.pid pt.node es) (ap (λ (o : Option Part). server.may_propose n.pid (state_of first ks n.pid) o es) (sym has) ∙ takes)).1 in
      let rising : AreRising 0 pt.members = subst (AreRising 0) (sym (((stands first ks n.pid).part pt has).members ∙ ap (λ (m : Machine). members_of first m.lists pt.conf) (sym b.machine))) (rise pt.conf) in
      let many : majority_passes pt.members (λ q. q == n.pid) ≡ true = subst (λ (l : List ℕ). majority_passes l (λ q. q == n.pid) ≡ true) r.members x.majority in
      let l = leads_there first ks n.pid pt es has rising many may in
      leading_of n.state.volatile.role l.0 (ap (λ (y : pure.Node). y.role) r.seen ∙ l.1)

  leads_here : (l : Leading) × (n.state.volatile.role ≡ role.Leading l)
  leads_here = of_part (state_of first ks n.pid).part refl (subst (λ (o : Option StoredPart). IfPartRel (lists_of first ks) o n.state.volatile (state_of first ks n.pid).part) x.has (rel.rel).part)
    where
      of_part : (o : Option Part) → (state_of first ks n.pid).part ≡ o → IfPartRel (lists_of first ks) (Some x.part) n.state.volatile o → (l : Leading) × (n.state.volatile.role ≡ role.Leading l)
      of_part None has r = absurd r
      of_part (Some pt) has r = leads_by pt has r

-- so it is after every run
pub sole_leads : (members spares : List ℕ) (early : List Happening) (h : Happening) → RunInRange members spares (early ++ h ∷ []) → (proposal : Proposal)
    → (x : TakesAlone (execution_of (first_execution members spares) early) h proposal) → (l : Leading) × (x.node.state.volatile.role ≡ role.Leading l)
sole_leads members spares early h range proposal x =
    let t : Execution = execution_of (first_execution members spares) early in
    let r : Track members t (h ∷ []) = every_track members spares range.first range.others early (h ∷ []) range.happenings in
    let safe_there : IsSafe members t.machine = subst (IsSafe members) (sym (r.beside 0).machine) (safe members (r.ks 0)) in
    leads_here members (r.ks 0) t (r.beside 0) (r.read 0) (members_rise members spares early (front_in_range members spares early (h ∷ []) range) safe_there) h proposal x
