-- What comes at a leader that nothing disturbs: it waits, or stands in the leader's log at its place, or is dropped.
use Rattle.std.proofs.Common.{◌≡◌, ◌<◌, ◌⊎◌, inl, inr, ⊎_elim, ℕ, suc, ◌&&◌, ◌||◌, Bool, true, false, cond, not, eqb, nat_eq, is_some, List, [], ◌∷◌, ◌++◌, length, take, Option, Some, refl, sym, ap, ◌∙◌, subst, arith, slice_get, take_all}
use Rattle.std.proofs.lemmas.Bool.{eqb-true, eq-eqb, cases_Bool, false≢true}
use Rattle.std.proofs.lemmas.Option.{slice_get_within}
use Rattle.std.specs.Set.{is_member}
use Rattle.op_types.specs.Roles.{Role}
use Rattle.op_types.specs.Roles as role
use Rattle.op_types.specs.RoleStates.{Preparing}
use Rattle.op_types.specs.declared.ballot.Ballot.{Ballot}
use Rattle.op_types.specs.declared.log.Entry.{Entry}
use Rattle.op_spec.specs.Machine.{Machine, IsAmong, members_of}
use Rattle.op_runs.specs.World.{World, Node, Happening, Steps, deed_of, node_at}
use Rattle.op_runs.specs.Run.{Execution, execution_of}
use Rattle.op_paxos.specs.Worlds as paxos
use Rattle.op_paxos.specs.Worlds.{Event, Proposes}
use Rattle.op_paxos.specs.Logs.{overflows}
use Rattle.op_paxos.specs.Ledger as ledger
use Rattle.op_paxos.specs.Nodes.{Node as Member}
use Rattle.op_paxos.specs.Exchange as px
use Rattle.op_paxos.proofs.Agreeing.{run_append}
use Rattle.op_paxos.proofs.ExchangeNeeds.{Coming}
use Rattle.op_paxos.proofs.ExchangeEnds as one
use Rattle.op_configurations.specs.Servers as server
use Rattle.op_configurations.specs.Servers.{Part, State, Inside}
use Rattle.op_configurations.specs.Worlds.{machine_of, event_in, events_in}
use Rattle.op_configurations.proofs.Standing.{stands}
use Rattle.op_configurations.proofs.Views.{decided_there}
use Rattle.op_refinement.proofs.Pure as pure
use Rattle.op_refinement.proofs.View.{IsSmall, rank, whole_log, node_of, view_role, view_preparing}
use Rattle.op_refinement.proofs.Inputs.{proposal_event}
use Rattle.op_refinement.proofs.Worlds.{lists_of, world_of, state_of}
use Rattle.op_refinement.proofs.Proposals.{Taken, taken}
use Rattle.op_refinement.proofs.Runs.{Track}
use Rattle.op_laws.specs.Proposals.{Proposal, entries_for, IsTaken}
use Rattle.op_laws.specs.Alone.{IsKnownAt}
use Rattle.op_laws.specs.Exchange as there
use Rattle.op_laws.specs.Exchange.{Term, Delivery, Sending, KeepsTo, IfKeepsTo, IsOne, IsCalm, node_before, node_role, part_members, members_at, IsPlaced, IsDropped, IsToldDropped, IsIn, Prepares, Takes, Comes}
use Rattle.op_laws.proofs.Reached.{world_of_run}
use Rattle.op_laws.proofs.Proposals.{input_of, deed_is, event_is, ends_late}
use Rattle.op_laws.proofs.Slots.{double, double_is, second_of}
use Rattle.op_laws.proofs.Lifting.{W, W_is, events, world_at, last_world, added, pad, two, got_two, Here, member_is, OwnStep, own_step, calm_here, mid_node, calm_there, IsAlwaysCalm}
use Rattle.op_laws.proofs.Lifting as lifting
use Rattle.op_laws.proofs.AnsweredDrops.{dropped_told}
use Rattle.op_laws.proofs.Places.{view_prep, here_at, facts_here, odd_is, placed_here, dropped_here}

-- the entry that comes there is decided at its place, or is dropped, and who proposed it is told
abbrev pub Decides : Execution → List Happening → Term → there.Proposed → Entry → Type 0
Decides t hs x at e =
    ((place : ℕ) × IsPlaced t.world x.leader hs at place × IsKnownAt (execution_of t hs).machine x.conf x.leader e place)
    ⊎ ((d : IsDropped t.world x.leader hs at e) × IsToldDropped t.world x.leader hs e (d.buffered).adds_at)

-- an entry comes at a leader that prepares, and that nothing disturbs
pub record Arrival (w : World) (hs : List Happening) (x : Term) (others : List ℕ) (e : Entry) : Type 0 where
  pub preparing : Prepares x.ballot (node_role (node_at w.nodes x.leader))
  pub are_members : (q : ℕ) → IsOne others q → IsOne (members_at (node_at w.nodes x.leader)) q × (q ≡ x.leader → ⊥)
  pub proposed_at : there.Proposed
  pub comes : Comes w x.leader hs proposed_at e
  pub calm : IsAlwaysCalm w hs x others x.leader

pub one_in : (xs : List ℕ) (q : ℕ) → IsOne xs q → IsAmong xs q
one_in [] q h = absurd (false≢true h)
one_in (x ∷ xs) q h = ⊎_elim (λ (e : eqb q x ≡ true). inl (sym (eqb-true q x e))) (λ (e : eqb q x ≡ false). inr (one_in xs q (sym (ap (λ (b : Bool). b || is_member nat_eq xs q) e) ∙ h))) (cases_Bool (eqb q x))

pub in_one : (xs : List ℕ) (q : ℕ) → IsAmong xs q → IsOne xs q
in_one [] q h = absurd h
in_one (x ∷ xs) q (inl e) = ap (λ (b : Bool). b || is_member nat_eq xs q) (eq-eqb q x (sym e))
in_one (x ∷ xs) q (inr h) = ap (λ (b : Bool). eqb q x || b) (in_one xs q h) ∙ or_true (eqb q x)
  where
    or_true : (b : Bool) → (b || true) ≡ true
    or_true true = refl
    or_true false = refl

prep_of : (b : Ballot) (ρ : Role) → Prepares b ρ → (r : Preparing) × (ρ ≡ role.Preparing r) × (r.ballot ≡ b)
prep_of b role.Idle h = absurd h
prep_of b (role.Preparing r) h = (r, refl, h)
prep_of b (role.Leading l) h = absurd h

not_first : (a b : Bool) → (not a && b) ≡ true → a ≡ false
not_first true b h = absurd (false≢true h)
not_first false b h = refl

not_second : (x a b : Bool) → (not x && (not a && b)) ≡ true → a ≡ false
not_second true a b h = absurd (false≢true h)
not_second false a b h = not_first a b h

refuses_not : (ρ : Role) (log es : List Entry) → overflows log es ≡ false → ledger.refuses_as (view_role ρ) log es ≡ false
refuses_not role.Idle log es h = refl
refuses_not (role.Preparing r) log es h = refl
refuses_not (role.Leading l) log es h = h

-- what is proposed inside the configuration
proposes_inside : (p : ℕ) (st : State) (pt : Part) (es : List Entry) → st.part ≡ Some pt → server.may_propose p st st.part es ≡ true → (server.step server.Done p st (server.Proposes es)).inside ≡ record { conf = pt.conf; fate = server.Done; input = paxos.Proposal es; number = 0 } ∷ []
unfolding server.step server.acted
proposes_inside p st pt es has may =
    ap (λ (b : Bool). (cond b (server.acted_in server.Done p st st.part (paxos.Proposal es)) (server.unchanged st)).inside) may ∙ ap (λ (o : Option Part). (server.acted_in server.Done p st o (paxos.Proposal es)).inside) has

module _ (members : List ℕ) (t : Execution) (hs : List Happening) (k : Track members t hs) (x : Term) (sb : IsSmall x.ballot) (others : List ℕ) (e : Entry) (y : Arrival t.world hs x others e)
    (pt : Part) (has : (state_of members (k.ks 0) x.leader).part ≡ Some pt) (same : x.conf ≡ pt.conf) where
  abbrev pub p : ℕ
  p = x.leader

  abbrev pub es : List Event
  es = events members t hs k p pt has

  abbrev pub ms : List ℕ
  ms = lifting.ms members t hs k p pt has

  abbrev pub W0 : paxos.World
  W0 = W members t hs k p pt has 0

  abbrev pub at_event : ℕ → paxos.World
  at_event i = world_at members t hs k p pt has i

  abbrev pub at : ℕ → ℕ
  at j = suc (double j)

  abbrev pub b : Ballot
  b = x.ballot

  abbrev pub leader_at : (j : ℕ) → Here members t hs k p pt has x j p
  leader_at j = here_at members t hs k p pt has x same sb others y.calm j

  -- ---- what is proposed
  abbrev pub i0 : ℕ
  i0 = y.proposed_at.0

  abbrev proposal : Proposal
  proposal = y.comes.proposal

  abbrev pub n0 : Node
  n0 = (leader_at i0).node

  abbrev pub cs : List Entry
  cs = entries_for n0 proposal

  pub comes_here : IsTaken n0 proposal × (slice_get cs y.proposed_at.1 ≡ Some e)
  comes_here =
      let u = leader_at i0 in
      let n : node_before t.world hs i0 p ≡ Some u.node = ap (λ (w : World). node_at w.nodes p) (sym (world_of_run t (take i0 hs))) ∙ u.at_place in
      subst (Takes proposal y.proposed_at.1 e) n y.comes.taken

  not_early : pure.stops_early cs ≡ false
  not_early = ends_late n0.state.durable.part proposal

  may : server.may_propose n0.pid (state_of members (k.ks i0) n0.pid) (state_of members (k.ks i0) n0.pid).part cs ≡ true
  may =
      let r : Taken (lists_of members (k.ks i0)) (world_of members (k.ks i0)).soup n0.pid n0.state (state_of members (k.ks i0) n0.pid) (facts_here members t hs k p pt has x same sb others y.calm i0) cs not_early comes_here.0 = taken (lists_of members (k.ks i0)) (world_of members (k.ks i0)).soup n0.pid n0.state (state_of members (k.ks i0) n0.pid) (facts_here members t hs k p pt has x same sb others y.calm i0) cs not_early comes_here.0 in
      r.may

  pub proposed_there : slice_get es (at i0) ≡ Some (Proposes p cs)
  proposed_there =
      let u = leader_at i0 in
      let messages = (execution_of t (take i0 hs)).world.messages in
      let deed : deed_of messages (y.comes.happening).event.what ≡ Some (record { pid = p; doing = Steps (input_of proposal) }) = ap (deed_of messages) y.comes.proposes ∙ deed_is messages p proposal in
      let o : OwnStep members t hs k p pt has i0 u.node (input_of proposal) = own_step members t hs k p pt has x i0 p u (leader_at (suc i0)) y.comes.happening y.comes.is (input_of proposal) deed in
      let part_is : pt.conf ≡ (u.part).conf = sym same ∙ sym (u.keeps).conf ∙ (u.part_rel).conf in
      let ins : Inside = record { conf = (u.part).conf; fate = server.Done; input = paxos.Proposal cs; number = 0 } in
      let add : added members t hs k p pt has i0 ≡ Proposes n0.pid cs ∷ [] =
      o.some (server.Proposes cs) (event_is n0.pid n0.state o.number o.as_letter proposal ∙ ap (proposal_event cs) comes_here.0)
      ∙ ap (events_in (world_of members (k.ks i0)).soup n0.pid pt.conf) (proposes_inside n0.pid (state_of members (k.ks i0) n0.pid) u.part cs u.has_part may)
      ∙ ap (λ (z : Bool). cond z (event_in (world_of members (k.ks i0)).soup n0.pid ins ∷ []) []) (eq-eqb pt.conf (u.part).conf part_is) in
      got_two members t hs k p pt has i0 (slice_get_within hs i0 y.comes.happening y.comes.is) ∙ ap (λ (z : Event). Some z) (ap (second_of (pad members t hs k p pt has i0)) add ∙ ap (λ (z : ℕ). Proposes z cs) u.pid)

  pub taken_there : ledger.refuses ((at_event (at i0)).nodes p) cs ≡ false
  taken_there =
      let u = leader_at i0 in
      let log : List Entry = (node_of (u.part_rel).front (u.keeps).part n0.state.volatile).log in
      let ok : server.may_propose n0.pid (state_of members (k.ks i0) n0.pid) (Some u.part) cs ≡ true = ap (λ (o : Option Part). server.may_propose n0.pid (state_of members (k.ks i0) n0.pid) o cs) (sym u.has_part) ∙ may in
      let free : overflows ((u.part).node).log cs ≡ false = not_second (is_some (state_of members (k.ks i0) n0.pid).joining) (overflows ((u.part).node).log cs) _ ok in
      let free_here : overflows log cs ≡ false = ap (λ (z : Member). overflows z.log cs) (u.part_rel).seen ∙ free in
      ap (λ (z : Member). ledger.refuses z cs) (odd_is members t hs k p pt has x same sb others y.calm i0) ∙ refuses_not n0.state.volatile.role log cs free_here

  -- ---- the exchange there
  pub members_is : members_at (node_at t.world.nodes p) ≡ ms
  members_is =
      let u = leader_at 0 in
      ap members_at u.at_place ∙ ap part_members (u.keeps).has ∙ (u.part_rel).members ∙ ((stands members (k.ks 0) (u.node).pid).part u.part u.has_part).members
      ∙ ap (members_of members (lists_of members (k.ks 0))) (sym (u.part_rel).conf ∙ (u.keeps).conf ∙ same)

  -- its role there
  pub prepares_there : (r : Preparing) × ((W0.nodes p).role ≡ pure.Preparing (view_preparing r)) × (r.ballot ≡ b)
  prepares_there =
      let u = leader_at 0 in
      let r = prep_of b (u.node).state.volatile.role (subst (λ (o : Option Node). Prepares b (node_role o)) u.at_place y.preparing) in
      (r.0, ap (λ (v : Member). v.role) (member_is members t hs k p pt has x same 0 p u) ∙ ap view_role r.1, r.2)

  pub members_there : (q : ℕ) → IsAmong others q → IsAmong ms q × (q ≡ p → ⊥)
  members_there q i =
      (subst (λ (l : List ℕ). IsAmong l q) members_is (one_in (members_at (node_at t.world.nodes p)) q (y.are_members q (in_one others q i)).0), (y.are_members q (in_one others q i)).1)

  pub calm_then : px.IsCalm ms W0 es (rank b) others p 0 (length es)
  calm_then = calm_there members t hs k p pt has x same sb others p 0 (length es) (y.calm (length es)) 0 (length es) (omega arith) (omega (arith, double_is (length es)))

  coming : Coming ms W0 p (rank b) others es e
  coming =
      let r = prepares_there in
      record {
        prep = view_preparing r.0;
        preparing = r.1;
        ballot = ap rank r.2;
        members = members_there;
        proposed_at = (at i0, y.proposed_at.1);
        entries = cs;
        proposed = proposed_there;
        among = comes_here.1;
        taken = taken_there;
        calm = calm_then;
      }

  abbrev pub early : List Event
  early = (world_of members (k.ks 0)).inner pt.conf

  -- what is decided there is known here
  pub known_here_too : (place : ℕ) → place < ledger.known ms pt.conf (early ++ es) p → slice_get (ledger.ledger ms pt.conf (early ++ es)) place ≡ Some e → IsKnownAt (execution_of t hs).machine x.conf p e place
  known_here_too place lt got =
      let n : ℕ = length hs in
      let runs : paxos.run ms (early ++ es) paxos.start ≡ Rattle.op_configurations.specs.Views.view members (lists_of members (k.ks n)) (world_of members (k.ks n)) pt.conf =
      run_append ms early es paxos.start ∙ last_world members t hs k p pt has ∙ W_is members t hs k p pt has n in
      let d = decided_there members (k.ks n) pt.conf ms (early ++ es) runs p e place lt got in
      let machine : machine_of members (k.ks n) ≡ (execution_of t hs).machine = sym ((k.beside n).machine) ∙ ap (λ (l : List Happening). (execution_of t l).machine) (take_all n hs (omega arith)) in
      subst (λ (c : ℕ). IsKnownAt (execution_of t hs).machine c p e place) (sym same) (subst (λ (m : Machine). IsKnownAt m pt.conf p e place) machine d)

  -- ---- where it is in the end
  abbrev end : ℕ
  end = length hs

  -- the leader's log then
  abbrev pub log_then : List Entry
  log_then = whole_log ((leader_at end).part_rel).front ((leader_at end).keeps).part

  -- the leader prepares still, or the entry stands in its log, or is dropped, and who proposed it is told
  abbrev pub Arrives : Type 0
  Arrives =
      ((r : Preparing) × (((leader_at end).node).state.volatile.role ≡ role.Preparing r))
      ⊎ (((place : ℕ) × IsPlaced t.world p hs y.proposed_at place × (slice_get log_then place ≡ Some e))
      ⊎ ((d : IsDropped t.world p hs y.proposed_at e) × IsToldDropped t.world p hs e (d.buffered).adds_at))

  node_then : (paxos.run ms es W0).nodes p ≡ node_of ((leader_at end).part_rel).front ((leader_at end).keeps).part ((leader_at end).node).state.volatile
  node_then = ap (λ (w : paxos.World). w.nodes p) (last_world members t hs k p pt has) ∙ member_is members t hs k p pt has x same end p (leader_at end)

  pub arrives : Arrives
  unfolding coming
  arrives =
      ⊎_elim
      (λ z. let r = view_prep ((leader_at end).node).state.volatile.role z.0 (ap (λ (v : Member). v.role) (sym node_then) ∙ z.1) in inl (r.0, r.1))
      (λ z. inr (⊎_elim
      (λ v. inl (v.0, placed_here members t hs k p pt has x same sb others y.calm y.proposed_at v.0 v.1, ap (λ (n : Member). slice_get n.log v.0) (sym node_then) ∙ v.2))
      (λ v. let d = dropped_here members t hs k p pt has x same sb others y.calm y.proposed_at e v in inr (d, dropped_told members t hs k x sb others y.calm y.preparing y.proposed_at e y.comes pt has same d))
      z))
      (one.coming_ends ms early es p (rank b) others e coming)

  -- what is decided in the log is known
  pub decided_in_log : (place : ℕ) → place < ((leader_at end).keeps).part.decided → slice_get log_then place ≡ Some e → IsKnownAt (execution_of t hs).machine x.conf p e place
  decided_in_log place lt got =
      let then : (paxos.run ms (early ++ es) paxos.start).nodes p ≡ node_of ((leader_at end).part_rel).front ((leader_at end).keeps).part ((leader_at end).node).state.volatile =
      ap (λ (w : paxos.World). w.nodes p) (run_append ms early es paxos.start) ∙ node_then in
      let d : px.IsDecided ms pt.conf (early ++ es) p e place = one.is_decided ms pt.conf (early ++ es) p e place (omega (arith, lt, ap (λ (n : Member). n.decided) then), ap (λ (n : Member). slice_get n.log place) then ∙ got) in
      known_here_too place d.0 d.1
