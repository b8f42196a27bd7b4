-- What one node has trimmed each member has decided: what the list machine knows of a node is what that node has decided.
use Rattle.std.proofs.Common.{◌≡◌, ◌≤◌, ◌<◌, ◌+◌, ◌-◌, ⊎_elim, ℕ, Bool, cond, eqb, max, min, fold, List, [], ◌∷◌, ◌++◌, length, take, Option, Some, None, refl, sym, ap, ◌∙◌, subst, arith, append-nil, append_assoc, length-take, ◌⊎◌}
use Rattle.std.proofs.lemmas.Bool.{cond_both, eqb-true, eq-eqb, ne_eqb}
use Rattle.std.proofs.lemmas.List.{length-take-le, length-drop}
use Rattle.op_types.specs.Ballots.{is_below, is_same_ballot}
use Rattle.op_types.specs.Changes.{len_of}
use Rattle.op_types.specs.declared.durable.Closed.{Closed}
use Rattle.op_types.specs.declared.durable.Durable.{Durable}
use Rattle.op_types.specs.declared.durable.Part.{Part}
use Rattle.op_types.specs.declared.answers.Refusal.{Refusal}
use Rattle.op_types.specs.declared.events.Input.TheVariants as input
use Rattle.op_types.specs.declared.log.Entry.{Entry}
use Rattle.op_spec.specs.Machine.{Machine}
use Rattle.op_spec.specs.Ledger.{part_decided, closed_decided, decided_in, machine_showing, machine_proposing}
use Rattle.op_spec.specs.Stands.{IfPartStands, PartStands, Stands}
use Rattle.op_protocol.specs.State.{State}
use Rattle.op_protocol.specs.Configurations.{latest_in, latest_of}
use Rattle.op_protocol.specs.Rows.{refusal_of, stop_for, entries_of}
use Rattle.op_types.specs.declared.log.Entry.TheVariants as entry
use Rattle.op_runs.specs.World.{World, Node, NodeStatus, Up, Down, Failed, Happening, Doing, Steps, Stops, Opens, Tells, Deed, deed_of, node_at, first_world, world_after, run_of}
use Rattle.op_runs.specs.Run.{Execution, machine_showing_all, machine_proposing_in, machine_proposing_doing, machine_proposing_if, machine_proposing_at, machine_proposing_by, execution_with, first_execution, execution_of, decided_at, latest_at, MeetsFrom}
use Rattle.op_refinement.proofs.EveryRun.{every_run_meets, every_run_is_beside}
use Rattle.op_refinement.proofs.NodeLists.{Apart, Each-map, Each-both}
use Rattle.op_refinement.proofs.Runs.{beside_sound}
use Rattle.op_refinement.proofs.View as view
use Rattle.op_laws.specs.Known.{TrimmedIsKnown}
use Rattle.op_laws.specs.Runs.{RunInRange}
use Rattle.op_laws.proofs.Comings.{one_in}
use Rattle.op_laws.proofs.Reached.{world_of_run, execution_append, front_in_range}
use Rattle.op_laws.proofs.Trims.{every_trim_is_known}
use Rattle.op_lockstep.specs.Reach.{IsOneOf, ProposeNoStop, IsNoStop}
use Rattle.op_lockstep.proofs.Lists.{All-front, each_of_all}
use Rattle.op_lockstep.proofs.Reached.{IsStored, IsFirst, IfFirst, IsCleanNode, IsCleanWorld}
use Rattle.op_lockstep.proofs.Seats.{found_of}
use Rattle.op_progress.proofs.Worlds.{sound_run, sound_first}
use Rattle.op_progress.specs.Trimmed.{TrimmedIsDecided, PreparesAreTaken}

-- ---- proposals leave what is known
proposing_all : (es : List Entry) (m : Machine) (conf pid c : ℕ) → (fold (λ x e. machine_proposing x conf e) m es).known pid c ≡ m.known pid c
proposing_all [] m conf pid c = refl
proposing_all (e ∷ es) m conf pid c = proposing_all es (machine_proposing m conf e) conf pid c

proposing_in : (m : Machine) (es : List Entry) (o : Option Part) (r : Option Refusal) (pid c : ℕ) → (machine_proposing_in m es o r).known pid c ≡ m.known pid c
proposing_in m es None r pid c = refl
proposing_in m es (Some p) (Some r) pid c = refl
proposing_in m es (Some p) None pid c = proposing_all es m p.conf pid c

proposing_doing : (m : Machine) (me : ℕ) (s : State) (d : Doing) (pid c : ℕ) → (machine_proposing_doing m me s d).known pid c ≡ m.known pid c
proposing_doing m me s (Steps (input.Commands cs)) pid c = proposing_in m (entries_of cs) s.durable.part (refusal_of me s.volatile.role s.durable (entries_of cs)) pid c
proposing_doing m me s (Steps (input.Stop ms)) pid c =
    let es : List Entry = entry.Stop (stop_for s.durable.part ms) ∷ [] in
    proposing_in m es s.durable.part (refusal_of me s.volatile.role s.durable es) pid c
proposing_doing m me s (Steps _) pid c = refl
proposing_doing m me s Stops pid c = refl
proposing_doing m me s Opens pid c = refl
proposing_doing m me s (Tells t) pid c = refl

proposing_if : (st : NodeStatus) (m : Machine) (me : ℕ) (s : State) (d : Doing) (pid c : ℕ) → (machine_proposing_if st m me s d).known pid c ≡ m.known pid c
proposing_if Up m me s d pid c = proposing_doing m me s d pid c
proposing_if (Down after) m me s d pid c = refl
proposing_if (Failed count after) m me s d pid c = refl

proposing_at : (m : Machine) (o : Option Node) (d : Doing) (pid c : ℕ) → (machine_proposing_at m o d).known pid c ≡ m.known pid c
proposing_at m None d pid c = refl
proposing_at m (Some n) d pid c = proposing_if n.status m n.pid n.state d pid c

proposing_by : (m : Machine) (nodes : List Node) (o : Option Deed) (pid c : ℕ) → (machine_proposing_by m nodes o).known pid c ≡ m.known pid c
proposing_by m nodes None pid c = refl
proposing_by m nodes (Some x) pid c = proposing_at m (node_at nodes x.pid) x.doing pid c

-- ---- nodes show what they have decided
abbrev ShowsUpTo : ℕ → ℕ → ℕ → Node → Type 0
ShowsUpTo pid c k n = n.pid ≡ pid → decided_in n.state.durable c ≤ k

one_shown : (m : Machine) (n : Node) (pid c k : ℕ) → m.known pid c ≤ k → ShowsUpTo pid c k n → (machine_showing m n.pid n.state.durable).known pid c ≤ k
one_shown m n pid c k low e =
    cond_both (eqb pid n.pid) (max (m.known pid c) (decided_in n.state.durable c)) (m.known pid c) (λ (x : ℕ). x ≤ k) (λ same. both (m.known pid c) (decided_in n.state.durable c) k low (e (sym (eqb-true pid n.pid same)))) (λ _. low)
  where
    both : (x y z : ℕ) → x ≤ z → y ≤ z → max x y ≤ z
    both x y z a b = omega (arith, a, b)

all_shown : (nodes : List Node) (m : Machine) (pid c k : ℕ) → m.known pid c ≤ k → view.Each (ShowsUpTo pid c k) nodes → (machine_showing_all m nodes).known pid c ≤ k
all_shown [] m pid c k low e = low
all_shown (n ∷ nodes) m pid c k low e = all_shown nodes (machine_showing m n.pid n.state.durable) pid c k (one_shown m n pid c k low e.0) e.1

-- each node is the one that is found by its id
each_found : (nodes : List Node) → Apart nodes → (pid : ℕ) → view.Each (λ n. n.pid ≡ pid → node_at nodes pid ≡ Some n) nodes
each_found [] a pid = tt
each_found (n ∷ nodes) a pid = (
  λ same. ap (λ (b : Bool). cond b (Some n) (node_at nodes pid)) (eq-eqb n.pid pid same),
  Each-map (λ j. (j.pid ≡ n.pid → ⊥) × (j.pid ≡ pid → node_at nodes pid ≡ Some j)) (λ j. j.pid ≡ pid → node_at (n ∷ nodes) pid ≡ Some j)
      (λ j k same. ap (λ (b : Bool). cond b (Some n) (node_at nodes pid)) (ne_eqb n.pid pid (λ e. k.0 (same ∙ sym e))) ∙ k.1 same) nodes
      (Each-both (λ j. j.pid ≡ n.pid → ⊥) (λ j. j.pid ≡ pid → node_at nodes pid ≡ Some j) nodes a.0 (each_found nodes a.1 pid)),
)

-- ---- what is known of a node it has decided
abbrev KnowsDecided : Execution → Type 0
KnowsDecided t = (pid : ℕ) → t.machine.known pid 1 ≤ decided_at (node_at t.world.nodes pid) 1

knows_on : (t : Execution) (h : Happening) → Apart (world_after t.world h).nodes → ((pid : ℕ) → decided_at (node_at t.world.nodes pid) 1 ≤ decided_at (node_at (world_after t.world h).nodes pid) 1)
    → KnowsDecided t → KnowsDecided (execution_with t h)
knows_on t h apart rises k pid =
    let nodes : List Node = (world_after t.world h).nodes in
    let bound : ℕ = decided_at (node_at nodes pid) 1 in
    let m : Machine = machine_proposing_by t.machine t.world.nodes (deed_of t.world.messages h.event.what) in
    all_shown nodes m pid 1 bound (omega (arith, proposing_by t.machine t.world.nodes (deed_of t.world.messages h.event.what) pid 1, k pid, rises pid))
    (Each-map (λ n. n.pid ≡ pid → node_at nodes pid ≡ Some n) (ShowsUpTo pid 1 bound) (λ n at same. shows n (node_at nodes pid) (at same)) nodes (each_found nodes apart pid))
  where
    shows : (n : Node) (o : Option Node) → o ≡ Some n → decided_in n.state.durable 1 ≤ decided_at o 1
    shows n o e = subst (λ (x : Option Node). decided_in n.state.durable 1 ≤ decided_at x 1) (sym e) (omega arith)

-- no later configuration is known
latest_low : (members : List ℕ) (d : Durable) → IsStored members d → latest_of d ≤ 1
latest_low members d k = subst (λ (l : Option Closed). latest_in d.part l ≤ 1) (sym k.closed) (by_part d.part k.part)
  where
    by_part : (o : Option Part) → IfFirst members o → latest_in o None ≤ 1
    by_part None f = omega arith
    by_part (Some p) f = omega (arith, f.conf_is)

latest_there : (members : List ℕ) (w : World) → IsCleanWorld members w → (pid : ℕ) (o : Option Node) → node_at w.nodes pid ≡ o → latest_at o ≤ 1
latest_there members w k pid None at = omega arith
latest_there members w k pid (Some n) at = latest_low members n.state.durable (found_of (IsCleanNode members) w.nodes pid n at k.nodes).stored

module _ (members spares : List ℕ) where
  abbrev from_start : List Happening → Execution
  from_start hs = execution_of (first_execution members spares) hs

  clean_there : (hs : List Happening) → ProposeNoStop hs → IsCleanWorld members (from_start hs).world
  clean_there hs quiet = subst (IsCleanWorld members) (sym (world_of_run (first_execution members spares) hs)) (sound_run members hs (first_world members spares) quiet (sound_first members spares)).clean

  apart_there : (hs : List Happening) → RunInRange members spares hs → Apart (from_start hs).world.nodes
  apart_there hs k = ((every_run_is_beside members spares k.first k.others hs k.happenings).1).apart

  knows_run : (early hs : List Happening) → RunInRange members spares (early ++ hs) → ProposeNoStop (early ++ hs) → MeetsFrom members (from_start early) hs → KnowsDecided (from_start early) → KnowsDecided (from_start (early ++ hs))
  knows_run early [] range quiet meets k = subst (λ (l : List Happening). KnowsDecided (from_start l)) (sym (append-nil early)) k
  knows_run early (h ∷ hs) range quiet meets k =
      let t : Execution = from_start early in
      let one : List Happening = early ++ h ∷ [] in
      let all_is : one ++ hs ≡ early ++ h ∷ hs = append_assoc early (h ∷ []) hs in
      let next_is : from_start one ≡ execution_with t h = execution_append (first_execution members spares) early (h ∷ []) in
      let range_one : RunInRange members spares one = front_in_range members spares one hs (subst (RunInRange members spares) (sym all_is) range) in
      let quiet_one : ProposeNoStop one = All-front (λ (x : Happening). IsNoStop x.event.what) one hs (subst ProposeNoStop (sym all_is) quiet) in
      let apart : Apart (world_after t.world h).nodes = subst (λ (u : Execution). Apart u.world.nodes) next_is (apart_there one range_one) in
      let clean : IsCleanWorld members (world_after t.world h) = subst (λ (u : Execution). IsCleanWorld members u.world) next_is (clean_there one quiet_one) in
      let rises : (pid : ℕ) → decided_at (node_at t.world.nodes pid) 1 ≤ decided_at (node_at (world_after t.world h).nodes pid) 1 =
      λ pid. stays (decided_at (node_at t.world.nodes pid) 1) (decided_at (node_at (world_after t.world h).nodes pid) 1) (latest_at (node_at (world_after t.world h).nodes pid)) (latest_there members (world_after t.world h) clean pid (node_at (world_after t.world h).nodes pid) refl)
      ((meets.0).decided pid 1) in
      subst (λ (l : List Happening). KnowsDecided (from_start l)) all_is
      (knows_run one hs (subst (RunInRange members spares) (sym all_is) range) (subst ProposeNoStop (sym all_is) quiet) (subst (λ (u : Execution). MeetsFrom members u hs) (sym next_is) meets.1) (subst KnowsDecided (sym next_is) (knows_on t h apart rises k)))
    where
      stays : (a b l : ℕ) → l ≤ 1 → (a ≤ b) ⊎ (1 + 1 < l) → a ≤ b
      stays a b l low c = ⊎_elim (λ (x : a ≤ b). x) (λ (x : 1 + 1 < l). absurd (omega (arith, x, low))) c

  knows : (hs : List Happening) → RunInRange members spares hs → ProposeNoStop hs → KnowsDecided (from_start hs)
  knows hs range quiet = knows_run [] hs range quiet (every_run_meets members spares range.first range.others hs range.happenings).1 (λ pid. omega arith)

-- ---- what is trimmed is decided
part_low : (a : Part) (conf : ℕ) → max (part_decided (Some a) conf) 0 ≤ a.decided
part_low a conf = cond_both (eqb conf a.conf) a.decided 0 (λ (x : ℕ). max x 0 ≤ a.decided) (λ _. omega arith) (λ _. omega arith)

pub trimmed_is_decided : TrimmedIsDecided
trimmed_is_decided members spares hs range quiet p q m a b at_p at_q =
    let t : Execution = execution_of (first_execution members spares) hs in
    let is : t.world ≡ run_of (first_world members spares) hs = world_of_run (first_execution members spares) hs in
    let clean : IsCleanWorld members t.world = clean_there members spares hs quiet in
    let here : (pid : ℕ) (n : Node) → node_at (run_of (first_world members spares) hs).nodes pid ≡ Some n → node_at t.world.nodes pid ≡ Some n = λ pid n at. ap (λ (w : World). node_at w.nodes pid) is ∙ at in
    let n_clean : IsCleanNode members at_p.node = found_of (IsCleanNode members) t.world.nodes p at_p.node (here p at_p.node at_p.at) clean.nodes in
    let m_clean : IsCleanNode members at_q.node = found_of (IsCleanNode members) t.world.nodes q at_q.node (here q at_q.node at_q.at) clean.nodes in
    let first : IsFirst members b = subst (IfFirst members) at_q.has (m_clean.stored).part in
    let trims : TrimmedIsKnown t.machine at_q.node.state.durable =
    found_of (λ n. TrimmedIsKnown t.machine n.state.durable) t.world.nodes q at_q.node (here q at_q.node at_q.at) (each_of_all (λ n. TrimmedIsKnown t.machine n.state.durable) t.world.nodes (every_trim_is_known members spares hs range)) in
    let known : b.trimmed ≤ t.machine.known p b.conf = trims.part b at_q.has p (one_in b.members p (subst (λ (ms : List ℕ). IsOneOf ms p) (sym first.members_are) m)) in
    let known_one : b.trimmed ≤ t.machine.known p 1 = subst (λ (c : ℕ). b.trimmed ≤ t.machine.known p c) first.conf_is known in
    let decided : t.machine.known p 1 ≤ decided_in at_p.node.state.durable 1 = subst (λ (o : Option Node). t.machine.known p 1 ≤ decided_at o 1) (here p at_p.node at_p.at) (knows members spares hs range quiet p) in
    let low : decided_in at_p.node.state.durable 1 ≤ a.decided =
    subst (λ (o : Option Part). max (part_decided o 1) (closed_decided at_p.node.state.durable.closed 1) ≤ a.decided) (sym at_p.has) (subst (λ (o : Option Closed). max (part_decided (Some a) 1) (closed_decided o 1) ≤ a.decided) (sym (n_clean.stored).closed) (part_low a 1)) in
    omega (arith, known_one, decided, low)

-- what is decided is in the log
decided_within : (first : List ℕ) (lists : ℕ → List Entry) (a : Part) → PartStands first lists a → a.decided ≤ len_of a
decided_within first lists a s =
    let there : List Entry = take a.decided (lists a.conf) in
    within a.decided a.trimmed (length a.tail.items) s.trimmed
    (sym (length-take (a.decided - a.trimmed) a.tail.items) ∙ ap (λ (l : List Entry). length l) s.entries ∙ length-drop a.trimmed there ∙ ap (λ (n : ℕ). n - a.trimmed) (length-take-le a.decided (lists a.conf) s.decided))
  where
    within : (d t n : ℕ) → t ≤ d → min (d - t) n ≡ d - t → d ≤ t + n
    within d t n le e = omega (arith, le, e)

pub prepares_are_taken : PreparesAreTaken
prepares_are_taken members spares hs range quiet p q m a b at_p at_q n =
    let t : Execution = execution_of (first_execution members spares) hs in
    let is : t.world ≡ run_of (first_world members spares) hs = world_of_run (first_execution members spares) hs in
    let at : node_at t.world.nodes p ≡ Some at_p.node = ap (λ (w : World). node_at w.nodes p) is ∙ at_p.at in
    let low : b.trimmed ≤ a.decided = trimmed_is_decided members spares hs range quiet p q m a b at_p at_q in
    let beside = every_run_is_beside members spares range.first range.others hs range.happenings in
    let stands : PartStands members t.machine.lists a =
    subst (IfPartStands members t.machine.lists) at_p.has
    (found_of (λ x. Stands members t.machine.lists x.state.durable) t.world.nodes p at_p.node at (each_of_all (λ x. Stands members t.machine.lists x.state.durable) t.world.nodes (beside_sound members beside.0 t beside.1).stand)).part in
    let within : a.decided ≤ len_of a = decided_within members t.machine.lists a stands in
    cond_both (is_below a.accepted b.accepted) _ _ (λ (x : ℕ). b.trimmed ≤ x) (λ _. low)
    (λ _. cond_both (is_same_ballot b.accepted a.accepted) _ _ (λ (x : ℕ). b.trimmed ≤ x) (λ _. omega (arith, low, within)) (λ _. omega arith))
