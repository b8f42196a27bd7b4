-- A ballot of an id that no node has is promised by none.
use Rattle.std.proofs.Common.{◌≡◌, ◌<◌, ◌≤◌, ◌⊎◌, ⊎_elim, ℕ, Bool, false, cond, ◌==◌, List, [], ◌∷◌, ◌++◌, length, take, Option, Some, None, refl, sym, ap, ◌∙◌, subst, arith}
use Rattle.std.specs.Prelude.{nat_eq}
use Rattle.std.specs.Set.{is_member}
use Rattle.std.proofs.lemmas.Bool.{cond_both}
use Rattle.op_types.specs.declared.ballot.Ballot.{Ballot}
use Rattle.op_types.specs.declared.durable.Part.{Part as StoredPart}
use Rattle.op_runs.specs.World.{Node, Sent, Happening}
use Rattle.op_runs.specs.Run.{first_execution, execution_of}
use Rattle.op_paxos.specs.Nodes.{owner}
use Rattle.op_paxos.specs.Nodes as pure
use Rattle.op_paxos.specs.Worlds as paxos
use Rattle.op_paxos.specs.Worlds.{Elected, Proposal, Comes, Up, CutOff, Down, Starts, TrimNow}
use Rattle.op_configurations.specs.Servers as server
use Rattle.op_configurations.specs.Servers.{Part, Inside, Letter, latest, latest_in, new_part}
use Rattle.op_configurations.specs.Worlds as worlds
use Rattle.op_configurations.specs.Worlds.{Server, World, plain_event, place_in, events_in, happens, run, start}
use Rattle.op_configurations.proofs.Book.{all_ok}
use Rattle.op_configurations.proofs.Latest.{latest_rises}
use Rattle.op_refinement.proofs.View.{rank, owner-rank}
use Rattle.op_refinement.proofs.Relation.{IfPartRel}
use Rattle.op_refinement.proofs.NodeLists.{All-each, Each-map}
use Rattle.op_refinement.proofs.Worlds.{lists_of, world_of, state_of, above_of}
use Rattle.op_refinement.proofs.Beside.{NodeRel, IsBeside}
use Rattle.op_refinement.proofs.Runs.{Track}
use Rattle.op_refinement.proofs.EveryRun.{every_track}
use Rattle.op_protocol.specs.State.{Volatile}
use Rattle.op_laws.proofs.MemberLeads.{IfElected, AllOwn, fated_led, led_append, happens_adds}
use Rattle.op_watch_laws.specs.Laws.{PromisesNoneOf, NoBallotOfOthers}
use Rattle.op_laws.proofs.MemberBallots.{LedAmong, AllLed, IsOurs, ballots_are_ours}

-- ---- who is elected

module _ (O : ℕ → Type 0) where
  module _ (soup : List Letter) (p : ℕ) (o : Option Part) (may : (pt : Part) → o ≡ Some pt → O p) where
    input_owned : (c i : ℕ) (x : paxos.Input) → IfElected o c x → LedAmong O (plain_event i p x)
    input_owned c i (Elected n) k = may k.0 k.1
    input_owned c i (Proposal es) k = tt
    input_owned c i (Comes q m) k = tt
    input_owned c i (Up q) k = tt
    input_owned c i (CutOff heard) k = tt
    input_owned c i (Down q) k = tt
    input_owned c i Starts k = tt
    input_owned c i TrimNow k = tt

    inside_owned : (c : ℕ) (xs : List Inside) → AllOwn o xs → AllLed O (events_in soup p c xs)
    inside_owned c [] k = tt
    inside_owned c (x ∷ xs) k =
        cond_both (c == x.conf) _ _ (AllLed O) (λ e. (fated_led O x.fate (plain_event (place_in x.conf x.number soup) p x.input) (input_owned x.conf (place_in x.conf x.number soup) x.input k.0), inside_owned c xs k.1)) (λ e. inside_owned c xs k.1)

  -- over a run in which a server that has a part is such a one
  owned_run : (ks : List worlds.Happening) (w : World) (c : ℕ) → AllLed O (w.inner c)
      → ((early late : List worlds.Happening) → ks ≡ early ++ late → (p : ℕ) (pt : Part) → (((run early w).servers p).state).part ≡ Some pt → O p) → AllLed O ((run ks w).inner c)
  unfolding run
  owned_run [] w c k may = k
  owned_run (h ∷ ks) w c k may =
      let a = happens_adds w c h in
      let now : AllLed O ((happens w h).inner c) =
      subst (AllLed O) (sym a.3) (led_append O (w.inner c) (events_in w.soup a.0 c a.1) k (inside_owned w.soup a.0 ((w.servers a.0).state).part (λ pt has. may [] (h ∷ ks) refl a.0 pt has) c a.1 a.2)) in
      owned_run ks (happens w h) c now (λ early late e p pt has. may (h ∷ early) late (ap (λ (l : List worlds.Happening). h ∷ l) e) p pt has)

-- ---- a server that stays as it began

module _ (first : List ℕ) (ks : List worlds.Happening) (q : ℕ) (at : (world_of first ks).servers q ≡ (start first).servers q) (other : is_member nat_eq first q ≡ false) where
  abbrev Other : ℕ → Type 0
  Other p = p ≡ q → ⊥

  knows_none : latest (state_of first ks q) ≡ 0
  unfolding start
  knows_none = ap (λ (sv : Server). latest sv.state) at ∙ ap (λ (b : Bool). latest_in (cond b (Some (new_part 1 first)) None) None) other

  has_none : (early late : List worlds.Happening) → ks ≡ early ++ late → (pt : Part) → (state_of first early q).part ≡ Some pt → ⊥
  has_none early late e pt has =
      let up : latest (state_of first early q) ≤ latest (state_of first (early ++ late) q) = latest_rises first early late q in
      let is : latest (state_of first early q) ≡ pt.conf = ap (λ (o : Option Part). latest_in o (state_of first early q).closed) has in
      let end : latest (state_of first (early ++ late) q) ≡ 0 = ap (λ (l : List worlds.Happening). latest (state_of first l q)) (sym e) ∙ knows_none in
      omega (arith, up, is, end, above_of first early q pt has)

  start_owned : (c : ℕ) → AllLed Other ((start first).inner c)
  unfolding start
  start_owned c = tt

  owned : (c : ℕ) → AllLed Other ((world_of first ks).inner c)
  owned c = owned_run Other ks (start first) c (start_owned c)
      (λ early late e p pt has s. has_none early late e pt (subst (λ (r : ℕ). (state_of first early r).part ≡ Some pt) s has))

  pub promise_owned : (p : ℕ) (pt : Part) → (state_of first ks p).part ≡ Some pt → IsOurs Other (pt.node).promised
  promise_owned p pt has =
      let k = all_ok first ks in
      let x = (((k.good).servers p).state).part pt has in
      let ms : List ℕ = (k.tale).members pt.conf in
      let ours = (ballots_are_ours Other ms ((k.tale).events pt.conf) (subst (AllLed Other) (sym ((k.good).events pt.conf)) (owned pt.conf))).nodes p in
      subst (λ (n : pure.Node). IsOurs Other n.promised) x.node ours.promised

  rank_zero : (b : Ballot) → rank b ≡ 0 → b.pid ≡ 0
  rank_zero b e = omega (arith, e)

  -- at a node
  pub node_owned : 0 < q → (messages : List Sent) (n : Node) → NodeRel first ks messages n → PromisesNoneOf q n.state.durable.part
  node_owned pos messages n r = by n.state.durable.part n.state.volatile (state_of first ks n.pid).part refl (r.rel).part
    where
      by : (d : Option StoredPart) (v : Volatile) (o : Option Part) → (state_of first ks n.pid).part ≡ o → IfPartRel (lists_of first ks) d v o → PromisesNoneOf q d
      by None v o has k = tt
      by (Some p) v None has k = absurd k
      by (Some p) v (Some pt) has k =
          let same : rank p.promised ≡ (pt.node).promised = ap (λ (nd : pure.Node). nd.promised) k.seen in
          λ is. ⊎_elim
          (λ (z : (pt.node).promised ≡ 0). omega (arith, pos, is, rank_zero p.promised (same ∙ z)))
          (λ (f : owner (pt.node).promised ≡ q → ⊥). f (ap owner (sym same) ∙ owner-rank p.promised (k.small).0 ∙ is))
          (promise_owned n.pid pt has)

-- after every run
pub no_ballot_of_others : NoBallotOfOthers
no_ballot_of_others members spares m s hs k q pos other none =
    let t : Track members (first_execution members spares) hs = every_track members spares m s [] hs k in
    let j : ℕ = length hs in
    let all : execution_of (first_execution members spares) (take j hs) ≡ execution_of (first_execution members spares) hs = ap (execution_of (first_execution members spares)) (Rattle.std.proofs.Math.Seq.take-length hs) in
    let beside : IsBeside members (t.ks j) (execution_of (first_execution members spares) hs) = subst (IsBeside members (t.ks j)) all (t.beside j) in
    let w = (execution_of (first_execution members spares) hs).world in
    All-each (λ (n : Node). PromisesNoneOf q n.state.durable.part) w.nodes
    (Each-map (NodeRel members (t.ks j) w.messages) (λ (n : Node). PromisesNoneOf q n.state.durable.part) (λ n r. node_owned members (t.ks j) q (beside.elsewhere q none) other pos w.messages n r) w.nodes beside.nodes)
