-- Each happening of a world goes with a happening of the pure machine, or with none.
use Rattle.std.proofs.Common.{◌≡◌, ◌<◌, ◌≤◌, ◌⊎◌, inl, inr, ⊎_elim, ℕ, suc, ◌+◌, ◌^◌, Bool, true, false, cond, is_some, List, [], ◌∷◌, ◌++◌, length, Option, Some, None, refl, sym, ap, ◌∙◌, subst, arith, slice_get, append-nil, length-append}
use Rattle.std.proofs.lemmas.Bool.{cases_eq}
use Rattle.op_types.specs.declared.durable.Durable.{Durable}
use Rattle.op_runs.specs.declared.events.What.{What}
use Rattle.op_runs.specs.declared.events.What.TheVariants as what
use Rattle.op_types.specs.declared.events.Input.{Input}
use Rattle.op_types.specs.declared.events.Input.TheVariants as input
use Rattle.op_types.specs.declared.log.Command.{Command}
use Rattle.op_types.specs.declared.log.Entry.{Entry}
use Rattle.op_types.specs.declared.log.Entry.TheVariants as entry
use Rattle.op_types.specs.declared.log.StopSign.{StopSign}
use Rattle.op_types.specs.declared.answers.Refusal.{Refusal}
use Rattle.op_runs.specs.declared.summary.Line.{Line}
use Rattle.op_spec.specs.Machine.{Machine}
use Rattle.op_protocol.specs.State.{Waiting}
use Rattle.op_protocol.specs.Rows.{step_plan, refusal_of, stop_for, entries_of}
use Rattle.op_runs.specs.Possible.{proposals_of}
use Rattle.op_refinement.proofs.Proposed.{proposal, proposals, proposals-length}
use Rattle.op_protocol.specs.Starting.{state_after_restart, sends_after_restart}
use Rattle.op_runs.specs.World as product
use Rattle.op_runs.specs.World.{Node, NodeStatus, Up, Down, Failed, Sent, sent_by, node_at, with_node, Deed, Doing, Steps, Stops, Opens, Tells, Told, deed_of, delivery, world_with, world_at_node, world_by_status, world_by_fate, world_opening, world_reopening, world_observed}
use Rattle.op_runs.specs.Run.{Execution, execution_with, machine_showing_all, machine_proposing_by, machine_proposing_at, machine_proposing_if, machine_proposing_input}
use Rattle.op_configurations.specs.Servers as server
use Rattle.op_configurations.specs.Servers.{State, Letter, Fate, Done, Stopped, Event, letter}
use Rattle.op_configurations.specs.Worlds as worlds
use Rattle.op_configurations.specs.Worlds.{Life, Running, Server, World, Happening, start, actor, proposed_by, machine_of}
use Rattle.op_refinement.proofs.View.{Each, Each-append}
use Rattle.op_refinement.proofs.Relation.{StateRel, IfServes, AreLetters}
use Rattle.op_refinement.proofs.Letters.{IfLetter, letter_at, letters-append}
use Rattle.op_protocol.specs.Reading.{leading_at}
use Rattle.op_protocol.proofs.Asked.{takes_read}
use Rattle.op_refinement.proofs.Inputs.{event_of, ballot_at, asks_some_at, tick_event, is_past, long_in, read_as, proposal_event}
use Rattle.op_refinement.proofs.Steps.{AllRead, StepsGo}
use Rattle.op_refinement.proofs.Worlds.{lists_of, world_of, state_of, state_on, serves_on, letters_on, facts_of}
use Rattle.op_refinement.proofs.Observing.{AddsAsks, observed_adds, asks_letters, none_apart, notes_late, notes_to, notes_same}
use Rattle.op_refinement.proofs.Beside.{IfSent, IfStatus, StoppedAs, Between, NodeRel, IsBeside, Goes, other_rel, beside_moved, start_runs}
use Rattle.op_refinement.proofs.NodeLists.{IfThere, Each-map, Each-both, found, with-kept, node_at-here}
use Rattle.op_refinement.proofs.PureMoves.{GoesTo, late_of, happening_of, IfReads, goes_none, stopped_goes}
use Rattle.op_refinement.proofs.NodeSteps.{storing, IsHalted, done_to, done_said, done_rel, stopped_to, stopped_rel}
use Rattle.op_refinement.proofs.Openings.{open_goes, open_said, open_rel}
use Rattle.op_refinement.proofs.Finds.{Found, finds_before, finds_after}
use Rattle.op_refinement.proofs.Machines.{all_same, moved_same, moved_shows}
use Rattle.op_refinement.proofs.Proposals.{proposed_first, proposals_late}
use Rattle.op_protocol.specs.Watched.{is_watching, watch_answers}
use Rattle.op_refinement.proofs.Inputs.{noted}

-- what is proposed is fine, as far as bases are read back
abbrev pub IsFine : (Entry → Type 0) → Happening → Type 0
IsFine Fine (worlds.At f p (server.Proposes es)) = Each Fine es
IsFine Fine _ = Unit {0}

-- A run that proposes fewer than 2^64 entries, each of them fine, has lists of which every front is read back.
abbrev pub FineRuns : (Entry → Type 0) → Type 0
FineRuns Fine = (first : List ℕ) (ks : List Happening) → Each (IsFine Fine) ks → length (proposals ks) < 2 ^ 60 → AllRead (lists_of first ks)

-- the same of an input, which proposes no more entries than that
abbrev pub InputIsFine : (Entry → Type 0) → ℕ → Input → Type 0
InputIsFine Fine size (input.Commands cs) = Each Fine (entries_of cs) × (length (entries_of cs) ≤ size)
InputIsFine Fine size (input.Stop members) = ((s : StopSign) → Fine (entry.Stop s)) × (1 ≤ size)
InputIsFine Fine size _ = Unit {0}

-- what an event proposes is fine
abbrev pub EventIsFine : (Entry → Type 0) → What → Type 0
EventIsFine Fine (what.Commands p cs) = Each Fine (entries_of cs)
EventIsFine Fine (what.Stop p members) = (s : StopSign) → Fine (entry.Stop s)
EventIsFine Fine _ = Unit {0}

-- what is known of what is done at a node: a message that is delivered was sent to it, and a proposal is fine
abbrev pub DoingIs : (Entry → Type 0) → ℕ → List Sent → ℕ → Doing → Type 0
DoingIs Fine size messages me (Steps (input.Deliver q msg)) = (i : ℕ) × (slice_get messages i ≡ Some (record { from = q; to = me; message = msg }))
DoingIs Fine size messages me (Steps x) = InputIsFine Fine size x
DoingIs Fine size messages me Stops = Unit {0}
DoingIs Fine size messages me Opens = Unit {0}
DoingIs Fine size messages me (Tells t) = Unit {0}

-- a command is one entry
entries_length : (cs : List Command) → length (entries_of cs) ≡ length cs
entries_length [] = refl
entries_length (c ∷ cs) = ap suc (entries_length cs)

-- what is proposed by one happening more
one_proposes : (ks : List Happening) (h : Happening) → length (proposals (ks ++ h ∷ [])) ≡ length (proposals ks) + length (proposal h)
one_proposes ks h = let e = proposals-length ks (h ∷ []) in let n = length-append (proposal h) [] in omega (arith, e, n)

no_one : (h : Happening) → [] ≡ h ∷ [] → ⊥
no_one h e = cc

same_one : (x y : Happening) → x ∷ [] ≡ y ∷ [] → x ≡ y
same_one x y e = cc

same_deed : (x y : Deed) → Some x ≡ Some y → x ≡ y
same_deed x y e = cc

none_deed : (x : Deed) → None ≡ Some x → ⊥
none_deed x e = cc

same_node : (x y : Node) → Some x ≡ Some y → x ≡ y
same_node x y e = cc

some_none_node : (x : Node) → Some x ≡ None → ⊥
some_none_node x e = cc

none_node : (x : Node) → None ≡ Some x → ⊥
none_node x e = cc

same_input : (x y : Input) → Steps x ≡ Steps y → x ≡ y
same_input x y e = cc

stops_steps : (x : Input) → Stops ≡ Steps x → ⊥
stops_steps x e = cc

opens_steps : (x : Input) → Opens ≡ Steps x → ⊥
opens_steps x e = cc

tells_steps : (y : Told) (x : Input) → Tells y ≡ Steps x → ⊥
tells_steps y x e = cc

up_down : (d : Durable) → Up ≡ Down d → ⊥
up_down d e = cc

up_failed : (count : ℕ) (d : Durable) → Up ≡ Failed count d → ⊥
up_failed count d e = cc

-- a fate there: a server whose node fails stops
abbrev pub fate_there : product.Fate → Fate
fate_there product.Done = Done
fate_there product.Stopped = Stopped
fate_there (product.Faulted count) = Stopped

-- any letter
abbrev some_letter : Letter
some_letter = letter 0 0 0 server.HeartbeatReply

-- an execution so far is beside a run that proposes no more entries than that, each of them fine
pub record Beside (Fine : Entry → Type 0) (first : List ℕ) (count : ℕ) (t : Execution) : Type 0 where
  pub happenings : List Happening
  pub beside : IsBeside first happenings t
  pub fine : Each (IsFine Fine) happenings
  pub short : length (proposals happenings) ≤ count

-- what a step of this node is there: the event of its input, with its fate
pub record StepLate (first : List ℕ) (ks : List Happening) (messages : List Sent) (n : Node) (f : product.Fate) (x : Input) (late : List Happening) : Type 0 where
  pub running : ((world_of first ks).servers n.pid).life ≡ Running
  pub number : ℕ
  pub as_letter : Letter
  pub sent : IfSent messages (world_of first ks).soup n.pid number as_letter x
  pub reads : IfReads first ks n.pid running (event_of n.pid n.state number as_letter x)
  pub is : late ≡ late_of first ks n.pid running (fate_there f) (event_of n.pid n.state number as_letter x)

-- an opening does nothing at a node that is up, nor does what it tells
abbrev pub IsStill : Doing → Type 0
IsStill (Steps x) = ⊥
IsStill Stops = ⊥
IsStill Opens = Unit {0}
IsStill (Tells y) = Unit {0}

-- what a happening is there: of the server at whose node something is done
pub record LateIs (first : List ℕ) (ks : List Happening) (w : product.World) (h : product.Happening) (late : List Happening) : Type 0 where
  pub steps : (d : Deed) (n : Node) (x : Input) → deed_of w.messages h.event.what ≡ Some d → node_at w.nodes d.pid ≡ Some n → n.status ≡ Up → d.doing ≡ Steps x → StepLate first ks w.messages n h.fate x late
  pub still : (d : Deed) (n : Node) → deed_of w.messages h.event.what ≡ Some d → node_at w.nodes d.pid ≡ Some n → n.status ≡ Up → IsStill d.doing → late ≡ []
  pub actor_is : (k : Happening) → late ≡ k ∷ [] → (d : Deed) × (deed_of w.messages h.event.what ≡ Some d) × (actor (world_of first ks) k ≡ Some d.pid)

-- the same, where the run goes on from these happenings by one or by none
pub record BesideAfter (Fine : Entry → Type 0) (first : List ℕ) (ks : List Happening) (w : product.World) (h : product.Happening) (count : ℕ) (t : Execution) : Type 0 where
  pub beside : Beside Fine first count t
  pub late : List Happening
  pub few : (late ≡ []) ⊎ ((h : Happening) × (late ≡ h ∷ []))
  pub is : beside.happenings ≡ ks ++ late
  -- every node is there still
  pub kept : (pid : ℕ) → is_some (node_at w.nodes pid) ≡ true → is_some (node_at t.world.nodes pid) ≡ true
  pub by : LateIs first ks w h late

module _ (go : StepsGo) (Fine : Entry → Type 0) (reads : FineRuns Fine) (first : List ℕ) (count size : ℕ) (few : count + size < 2 ^ 60) (t : Execution) (b : Beside Fine first count t) where
  abbrev ks : List Happening
  ks = b.happenings

  abbrev rels : Each (NodeRel first ks t.world.messages) t.world.nodes
  rels = (b.beside).nodes

  abbrev machine_is : t.machine ≡ machine_of first ks
  machine_is = (b.beside).machine

  -- an execution beside the run that goes on by one happening or none
  abbrev pub After : product.Happening → Execution → Type 0
  After h u = BesideAfter Fine first ks t.world h (count + size) u

  -- ---- nothing happens in the pure machine
  stays : (h : product.Happening) → LateIs first ks t.world h [] → (lines : List Line) (m : Machine) → m ≡ t.machine → After h (record { world = record t.world { lines = lines }; machine = machine_showing_all m t.world.nodes })
  stays h by lines m is = record {
    late = [];
    few = inl refl;
    is = sym (append-nil ks);
    kept = λ pid e. e;
    by = by;
    beside = record {
      happenings = ks;
      beside = record {
        machine = ap (λ (x : Machine). machine_showing_all x t.world.nodes) (is ∙ machine_is) ∙ all_same first ks t.world.messages t.world.nodes (b.beside).apart rels;
        nodes = rels;
        apart = (b.beside).apart;
        letters = (b.beside).letters;
        elsewhere = (b.beside).elsewhere;
      };
      fine = b.fine;
      short = omega (arith, b.short);
    };
  }

  -- ---- one node moves
  module _ (ph : product.Happening) (n : Node) (at : node_at t.world.nodes n.pid ≡ Some n) (k : NodeRel first ks t.world.messages n) where
    -- what this happening is there
    abbrev By : List Happening → Type 0
    By late = LateIs first ks t.world ph late

    abbrev p : ℕ
    p = n.pid

    -- it is found then
    here : (new : Node) → new.pid ≡ p → (q : ℕ) → q ≡ new.pid → node_at (with_node t.world.nodes new) q ≡ None → ⊥
    here new own q e none = some_none_node new (sym (node_at-here t.world.nodes new n (ap (node_at t.world.nodes) own ∙ at)) ∙ ap (node_at (with_node t.world.nodes new)) (sym e) ∙ none)

    -- with this happening
    moves_with : (h : Happening) (sv : Server) (sends : List Letter) → (g : GoesTo first ks (h ∷ []) p sv sends) → actor (world_of first ks) h ≡ Some p → IsFine Fine h → length (proposal h) ≤ size → By (h ∷ [])
        → (m : Machine) → m ≡ proposed_by (machine_of first ks) (world_of first ks) h → (new : Node) → new.pid ≡ p → (more : List Sent) → AreLetters (lists_of first (ks ++ h ∷ [])) more sends
        → NodeRel first (ks ++ h ∷ []) (t.world.messages ++ more) new → (lines : List Line)
        → After ph (record { world = record t.world { nodes = with_node t.world.nodes new; messages = t.world.messages ++ more; lines = lines }; machine = machine_showing_all m (with_node t.world.nodes new) })
    moves_with h sv sends g acts fine little by m is new own more said rel lines =
        let said' : AreLetters (lists_of first (ks ++ h ∷ [])) more (g.goes).sends = subst (λ (ms : List Letter). AreLetters (lists_of first (ks ++ h ∷ [])) more ms) (sym g.is) said in
        let shows = moved_shows first ks t.world.messages t.world.nodes (b.beside).apart rels h new n (ap (node_at t.world.nodes) own ∙ at) (subst (λ (q : ℕ). Goes first ks (h ∷ []) q) (sym own) g.goes) (acts ∙ ap Some (sym own)) (t.world.messages ++ more) rel in
        record {
          late = h ∷ [];
          few = inr (h, refl);
          is = refl;
          kept = λ pid e. with-kept t.world.nodes new pid e;
          by = by;
          beside = record {
            happenings = ks ++ h ∷ [];
            beside = beside_moved first ks (h ∷ []) p g.goes t b.beside new (here new own) own more said' rel lines _ (ap (λ (x : Machine). machine_showing_all x (with_node t.world.nodes new)) is ∙ shows);
            fine = Each-append (IsFine Fine) ks (h ∷ []) b.fine (fine, tt);
            short = omega (arith, b.short, little, one_proposes ks h);
          };
        }

    -- with none
    moves_alone : (sv : Server) (sends : List Letter) (g : GoesTo first ks [] p sv sends) → By [] → (m : Machine) → m ≡ t.machine → (new : Node) → new.pid ≡ p → (more : List Sent) → AreLetters (lists_of first (ks ++ [])) more (g.goes).sends
        → NodeRel first (ks ++ []) (t.world.messages ++ more) new → (lines : List Line)
        → After ph (record { world = record t.world { nodes = with_node t.world.nodes new; messages = t.world.messages ++ more; lines = lines }; machine = machine_showing_all m (with_node t.world.nodes new) })
    moves_alone sv sends g by m is new own more said rel lines =
        let same : ks ++ [] ≡ ks = append-nil ks in
        let rel' : NodeRel first ks (t.world.messages ++ more) new = subst (λ (hs : List Happening). NodeRel first hs (t.world.messages ++ more) new) same rel in
        let shows = moved_same first ks t.world.messages t.world.nodes (b.beside).apart rels new n (ap (node_at t.world.nodes) own ∙ at) (t.world.messages ++ more) rel' in
        record {
          late = [];
          few = inl refl;
          is = refl;
          kept = λ pid e. with-kept t.world.nodes new pid e;
          by = by;
          beside = record {
            happenings = ks ++ [];
            beside = beside_moved first ks [] p g.goes t b.beside new (here new own) own more said rel lines _ (ap (λ (x : Machine). machine_showing_all x (with_node t.world.nodes new)) (is ∙ machine_is) ∙ shows ∙ ap (machine_of first) (sym same));
            fine = Each-append (IsFine Fine) ks [] b.fine tt;
            short = omega (arith, b.short, ap (λ (hs : List Happening). length (proposals hs)) (append-nil ks));
          };
        }

    -- these happenings are one at this server, or none
    abbrev IsOne : List Happening → Type 0
    IsOne [] = Unit {0}
    IsOne (h ∷ []) = (actor (world_of first ks) h ≡ Some p) × IsFine Fine h × (length (proposal h) ≤ size)
    IsOne (h ∷ k ∷ hs) = ⊥

    moves : (late : List Happening) → IsOne late → By late → (sv : Server) (sends : List Letter) (g : GoesTo first ks late p sv sends) → (m : Machine) → m ≡ proposed_first (machine_of first ks) (world_of first ks) late
        → (new : Node) → new.pid ≡ p → (more : List Sent) → AreLetters (lists_of first (ks ++ late)) more sends → NodeRel first (ks ++ late) (t.world.messages ++ more) new → (lines : List Line)
        → After ph (record { world = record t.world { nodes = with_node t.world.nodes new; messages = t.world.messages ++ more; lines = lines }; machine = machine_showing_all m (with_node t.world.nodes new) })
    moves [] one by sv sends g m is new own more said rel lines =
        moves_alone sv sends g by m (is ∙ sym machine_is) new own more (subst (λ (ms : List Letter). AreLetters (lists_of first (ks ++ [])) more ms) (sym g.is) said) rel lines
    moves (h ∷ []) one by sv sends g m is new own more said rel lines = moves_with h sv sends g one.0 one.1 one.2 by m is new own more said rel lines
    moves (h ∷ k ∷ hs) one by sv sends g m is new own more said rel lines = absurd one

    -- the lists after it are read back
    read_late : (late : List Happening) → IsOne late → AllRead (lists_of first (ks ++ late))
    read_late [] one = reads first (ks ++ []) (Each-append (IsFine Fine) ks [] b.fine tt) (omega (arith, b.short, few, ap (λ (hs : List Happening). length (proposals hs)) (append-nil ks)))
    read_late (h ∷ []) one = reads first (ks ++ h ∷ []) (Each-append (IsFine Fine) ks (h ∷ []) b.fine (one.1, tt)) (omega (arith, b.short, few, one.2, one_proposes ks h))
    read_late (h ∷ k ∷ hs) one = absurd one

    -- ---- steps
    module _ (running : ((world_of first ks).servers p).life ≡ Running) (x : Input) (fine : InputIsFine Fine size x) (i : ℕ) (l : Letter) (sent : IfSent t.world.messages (world_of first ks).soup p i l x) where
      abbrev event : Option Event
      event = event_of p n.state i l x

      abbrev late : Fate → List Happening
      late f = late_of first ks p running f event

      -- what the event proposes is fine
      abbrev IfFine : Option Event → Type 0
      IfFine (Some (server.Proposes es)) = Each Fine es × (length es ≤ size)
      IfFine _ = Unit {0}

      event_fine : IfFine event
      event_fine = by x fine
        where
          proposed : (e : List Entry) (r : Option Refusal) → Each Fine e × (length e ≤ size) → IfFine (proposal_event e r)
          proposed e None f = f
          proposed e (Some r) f = tt

          delivered : (c : Bool) (t : Option ℕ) → IfFine (cond c None (Some (read_as i l t)))
          delivered true t = tt
          delivered false None = tt
          delivered false (Some total) = tt

          ticking : (c : Bool) → IfFine (Some (tick_event c (ballot_at p n.state.durable.part n.state.durable.joining n.state.volatile) n.state.volatile.heard))
          ticking true = tt
          ticking false = tt

          watched : (xs : List (ℕ × ℕ)) (a c : Bool) (t : Option ℕ) → IfFine (cond a (Some (server.Notes xs)) (cond c None (Some (read_as i l t))))
          watched xs true c t = tt
          watched xs false c t = delivered c t

          asking : (c : Bool) → IfFine (cond c (Some (server.Ticks None)) None)
          asking true = tt
          asking false = tt

          by : (y : Input) → InputIsFine Fine size y → IfFine (event_of p n.state i l y)
          by input.Tick f = ticking (asks_some_at p n.state.durable.part n.state.durable.joining n.state.volatile)
          by (input.Deliver q msg) f = watched (noted (watch_answers n.state.durable q msg.conf msg.body)) (is_watching msg.body) (is_past n.state.durable.part n.state.durable.joining msg) (long_in n.state.durable msg)
          by (input.Commands cs) f = proposed (entries_of cs) (refusal_of p n.state.volatile.role n.state.durable (entries_of cs)) f
          by (input.Stop members) f = proposed (entry.Stop (stop_for n.state.durable.part members) ∷ []) (refusal_of p n.state.volatile.role n.state.durable (entry.Stop (stop_for n.state.durable.part members) ∷ [])) ((f.0 (stop_for n.state.durable.part members), tt), f.1)
          by input.TrimNow f = tt
          by (input.Read r) f = asking (takes_read p (leading_at n.state) n.state.reads)
          by (input.Up q) f = tt
          by (input.Down q) f = tt

      one_event : (f : Fate) (e : Event) → IfReads first ks p running (Some e) → IfFine (Some e) → IsOne (happening_of first ks p running f e ∷ [])
      one_event f (server.Reads j y) r k = (ap worlds.reader r.0 ∙ ap Some r.1, tt, omega arith)
      one_event f (server.ReadsLong j total y) r k = (ap worlds.reader r.0 ∙ ap Some r.1, tt, omega arith)
      one_event f (server.Proposes e) r k = (refl, k.0, k.1)
      one_event f (server.Ticks o) r k = (refl, tt, omega arith)
      one_event f (server.TicksAlone heard) r k = (refl, tt, omega arith)
      one_event f server.Trims r k = (refl, tt, omega arith)
      one_event f (server.Links q) r k = (refl, tt, omega arith)
      one_event f (server.Unlinks q) r k = (refl, tt, omega arith)
      one_event f (server.Notes xs) r k = (refl, tt, omega arith)

      one_late : (f : Fate) (o : Option Event) → IfReads first ks p running o → IfFine o → IsOne (late_of first ks p running f o)
      one_late Done None r k = tt
      one_late Stopped None r k = (refl, tt, omega arith)
      one_late Done (Some e) r k = one_event Done e r k
      one_late Stopped (Some e) r k = one_event Stopped e r k

      one : (f : Fate) → IsOne (late f)
      one f = one_late f event (Rattle.op_refinement.proofs.NodeSteps.reads_sent go first ks t.world.messages (b.beside).letters n k running x i l sent) event_fine

      proposes : (f : Fate) → machine_proposing_input t.machine p n.state x ≡ proposed_first (machine_of first ks) (world_of first ks) (late f)
      proposes f =
          ap (λ (m : Machine). machine_proposing_input m p n.state x) machine_is
          ∙ proposals_late (lists_of first (ks ++ late f)) first ks p n.state running (facts_of first ks (late f) p n.state k.low (read_late (late f) (one f)) k.rel k.serves) (machine_of first ks) f x i l

      pub step_done : By (late Done) → (lines : List Line)
          → After ph (record {
            world = record t.world { nodes = with_node t.world.nodes (Rattle.op_refinement.proofs.NodeSteps.done go first ks t.world.messages (b.beside).letters n k running x i l sent); messages = t.world.messages ++ sent_by p (step_plan p n.state x).sends; lines = lines };
            machine = machine_showing_all (machine_proposing_input t.machine p n.state x) (with_node t.world.nodes (Rattle.op_refinement.proofs.NodeSteps.done go first ks t.world.messages (b.beside).letters n k running x i l sent));
          })
      step_done by lines =
          let read : AllRead (lists_of first (ks ++ late Done)) = read_late (late Done) (one Done) in
          moves (late Done) (one Done) by _ _ (done_to go first ks t.world.messages (b.beside).letters n k running x i l sent) _ (proposes Done) _ refl _
          (done_said go first ks t.world.messages (b.beside).letters n k running x i l sent read)
          (done_rel go first ks t.world.messages (b.beside).letters n k running x i l sent read (t.world.messages ++ sent_by p (step_plan p n.state x).sends)) lines

      -- the node stops or fails inside it
      pub step_stopped : (status : NodeStatus) → IsHalted go first ks t.world.messages (b.beside).letters n k running x i l sent status → By (late Stopped) → (lines : List Line)
          → After ph (record {
            world = record t.world { nodes = with_node t.world.nodes (record n { status = status }); messages = t.world.messages ++ []; lines = lines };
            machine = machine_showing_all (machine_proposing_input t.machine p n.state x) (with_node t.world.nodes (record n { status = status }));
          })
      step_stopped status halted by lines =
          moves (late Stopped) (one Stopped) by _ _ (stopped_to go first ks t.world.messages (b.beside).letters n k running x i l sent) _ (proposes Stopped) _ refl [] tt
          (subst (λ (ms : List Sent). NodeRel first (ks ++ late Stopped) ms (record n { status = status })) (sym (append-nil t.world.messages))
          (stopped_rel go first ks t.world.messages (b.beside).letters n k running x i l sent status halted)) lines

    -- ---- a crash
    pub crashed : ((world_of first ks).servers p).life ≡ Running → By (worlds.Stops p ∷ []) → (lines : List Line)
        → After ph (record {
          world = record t.world { nodes = with_node t.world.nodes (record n { status = Down n.state.durable }); messages = t.world.messages ++ []; lines = lines };
          machine = machine_showing_all t.machine (with_node t.world.nodes (record n { status = Down n.state.durable }));
        })
    crashed running by lines =
        let h : Happening = worlds.Stops p in
        let g = stopped_goes first ks p running None tt in
        let same : state_of first (ks ++ h ∷ []) p ≡ state_of first ks p = ap (λ (sv : Server). sv.state) g.here in
        moves (h ∷ []) (refl, tt, omega arith) by _ _ g t.machine machine_is (record n { status = Down n.state.durable }) refl [] tt
        (record {
          low = k.low;
          rel = subst (λ (st : State). StateRel (lists_of first (ks ++ h ∷ [])) n.state.durable n.state.volatile st) (sym same) (state_on first ks (h ∷ []) p n.state.durable n.state.volatile k.rel);
          serves = subst (λ (st : State). IfServes (lists_of first (ks ++ h ∷ [])) n.state.service st.part) (sym same) (serves_on first ks (h ∷ []) p n.state.service k.serves);
          status = Between (ap (λ (sv : Server). sv.life) g.here) refl;
        }) lines

    -- ---- another status, of a node whose server is down and stays so
    pub restatused : (status : NodeStatus) → IfStatus t.world.messages (world_of first ks).soup p n.state status ((world_of first ks).servers p).life → By [] → (lines : List Line)
        → After ph (record {
          world = record t.world { nodes = with_node t.world.nodes (record n { status = status }); messages = t.world.messages ++ []; lines = lines };
          machine = machine_showing_all t.machine (with_node t.world.nodes (record n { status = status }));
        })
    restatused status is by lines =
        let new : Node = record n { status = status } in
        let rel : NodeRel first ks t.world.messages new = record { low = k.low; rel = k.rel; serves = k.serves; status = is } in
        moves [] tt by _ _ (goes_none first ks p) t.machine machine_is new refl [] tt
        (subst (λ (hs : List Happening). NodeRel first hs (t.world.messages ++ []) new) (sym (append-nil ks))
        (subst (λ (ms : List Sent). NodeRel first ks ms new) (sym (append-nil t.world.messages)) rel)) lines

    -- ---- an opening, after which these wait
    opened_with : (c : Bool) (d : Durable) → Found first ks p c d → (waiting : Waiting) → By (worlds.Opens p c ∷ []) → (lines : List Line)
        → After ph (record {
          world = record t.world { nodes = with_node t.world.nodes (record n { state = record (state_after_restart p d) { waiting = waiting }; status = Up }); messages = t.world.messages ++ sent_by p (sends_after_restart p d); lines = lines };
          machine = machine_showing_all t.machine (with_node t.world.nodes (record n { state = record (state_after_restart p d) { waiting = waiting }; status = Up }));
        })
    opened_with c d y waiting by lines =
        let h : Happening = worlds.Opens p c in
        let read : AllRead (lists_of first (ks ++ h ∷ [])) = read_late (h ∷ []) (refl, tt, omega arith) in
        moves (h ∷ []) (refl, tt, omega arith) by _ _ (open_goes first ks p c y.event y.down) t.machine machine_is (record n { state = record (state_after_restart p d) { waiting = waiting }; status = Up }) refl (sent_by p (sends_after_restart p d))
        (open_said first ks p c y.event y.down d y.volatile y.rel read k.low) (open_rel first ks p c y.event y.down d y.volatile y.rel read k.low n refl (t.world.messages ++ sent_by p (sends_after_restart p d)) waiting) lines

    pub opened : (after : Durable) → StoppedAs t.world.messages (world_of first ks).soup p n.state after ((world_of first ks).servers p).life → (c : Bool) (waiting : Waiting) → By (worlds.Opens p c ∷ []) → (lines : List Line)
        → After ph (record {
          world = record t.world { nodes = with_node t.world.nodes (record n { state = record (state_after_restart p (cond c after n.state.durable)) { waiting = waiting }; status = Up }); messages = t.world.messages ++ sent_by p (sends_after_restart p (cond c after n.state.durable)); lines = lines };
          machine = machine_showing_all t.machine (with_node t.world.nodes (record n { state = record (state_after_restart p (cond c after n.state.durable)) { waiting = waiting }; status = Up }));
        })
    opened after s true waiting by lines = opened_with true after (finds_after go first ks t.world.messages (b.beside).letters n k after s (read_late (worlds.Opens p true ∷ []) (refl, tt, omega arith))) waiting by lines
    opened after s false waiting by lines = opened_with false n.state.durable (finds_before go first ks t.world.messages (b.beside).letters n k after s) waiting by lines

    -- ---- whatever is done at the node

    -- what an execution is when this is done at the node
    abbrev Goes_on : product.World → Machine → Type 0
    Goes_on w m = After ph (record { world = w; machine = machine_showing_all m w.nodes })

    nothing_sent : (nodes : List Node) (lines : List Line) (m : Machine) → Goes_on (record t.world { nodes = nodes; messages = t.world.messages ++ []; lines = lines }) m → Goes_on (record t.world { nodes = nodes; messages = t.world.messages; lines = lines }) m
    nothing_sent nodes lines m y = subst (λ (ms : List Sent). Goes_on (record t.world { nodes = nodes; messages = ms; lines = lines }) m) (append-nil t.world.messages) y

    -- the input, with its number and its letter
    record Sending (x : Input) : Type 0 where
      number : ℕ
      as_letter : Letter
      sent : IfSent t.world.messages (world_of first ks).soup p number as_letter x
      fine : InputIsFine Fine size x

    sending : (x : Input) → DoingIs Fine size t.world.messages p (Steps x) → Sending x
    sending (input.Deliver q msg) f =
        let at_letter : IfLetter (lists_of first ks) (Some (record { from = q; to = p; message = msg })) (slice_get (world_of first ks).soup f.0) =
        subst (λ (o : Option Sent). IfLetter (lists_of first ks) o (slice_get (world_of first ks).soup f.0)) f.1 (letter_at (lists_of first ks) t.world.messages (world_of first ks).soup (b.beside).letters f.0) in
        by (slice_get (world_of first ks).soup f.0) refl at_letter
      where
        by : (o : Option Letter) → slice_get (world_of first ks).soup f.0 ≡ o → IfLetter (lists_of first ks) (Some (record { from = q; to = p; message = msg })) o → Sending (input.Deliver q msg)
        by None e y = absurd y
        by (Some m) e y = record { number = f.0; as_letter = m; sent = (f.1, e); fine = tt }
    sending input.Tick f = record { number = 0; as_letter = some_letter; sent = tt; fine = f }
    sending (input.Commands cs) f = record { number = 0; as_letter = some_letter; sent = tt; fine = f }
    sending (input.Stop members) f = record { number = 0; as_letter = some_letter; sent = tt; fine = f }
    sending input.TrimNow f = record { number = 0; as_letter = some_letter; sent = tt; fine = f }
    sending (input.Read r) f = record { number = 0; as_letter = some_letter; sent = tt; fine = f }
    sending (input.Up q) f = record { number = 0; as_letter = some_letter; sent = tt; fine = f }
    sending (input.Down q) f = record { number = 0; as_letter = some_letter; sent = tt; fine = f }

    -- what this is done at the node
    abbrev Is : Doing → Type 0
    Is d = deed_of t.world.messages ph.event.what ≡ Some (record { pid = p; doing = d })

    -- so is what happens there, at this server
    by_with : (d : Doing) → Is d → (late : List Happening) → ((h : Happening) → late ≡ h ∷ [] → actor (world_of first ks) h ≡ Some p) → ((x : Input) → d ≡ Steps x → n.status ≡ Up → StepLate first ks t.world.messages n ph.fate x late) → (n.status ≡ Up → IsStill d → late ≡ []) → By late
    by_with d is late acts steps still = record {
      still = λ e m is' at' up calm.
          let same = same_deed (record { pid = p; doing = d }) e (sym is ∙ is') in
          let node : n ≡ m = same_node n m (sym at ∙ ap (λ (y : Deed). node_at t.world.nodes y.pid) same ∙ at') in
          still (ap (λ (j : Node). j.status) node ∙ up) (subst IsStill (sym (ap (λ (y : Deed). y.doing) same)) calm);
      steps = λ e m x is' at' up doing.
          let same = same_deed (record { pid = p; doing = d }) e (sym is ∙ is') in
          let node : n ≡ m = same_node n m (sym at ∙ ap (λ (y : Deed). node_at t.world.nodes y.pid) same ∙ at') in
          subst (λ (j : Node). StepLate first ks t.world.messages j ph.fate x late) node (steps x (ap (λ (y : Deed). y.doing) same ∙ doing) (ap (λ (j : Node). j.status) node ∙ up));
      actor_is = λ h l. (record { pid = p; doing = d }, is, acts h l);
    }

    one_acts : (late : List Happening) → IsOne late → (h : Happening) → late ≡ h ∷ [] → actor (world_of first ks) h ≡ Some p
    one_acts [] one h e = absurd (no_one h e)
    one_acts (y ∷ []) one h e = ap (actor (world_of first ks)) (sym (same_one y h e)) ∙ one.0
    one_acts (y ∷ z ∷ late) one h e = absurd one

    -- nothing happens there
    by_none : (d : Doing) → Is d → ((x : Input) → d ≡ Steps x → n.status ≡ Up → ⊥) → By []
    by_none d is no_ = by_with d is [] (λ h e. absurd (no_one h e)) (λ x e up. absurd (no_ x e up)) (λ up k. refl)

    step_late : (running : ((world_of first ks).servers p).life ≡ Running) (x : Input) → Is (Steps x) → (y : Sending x) (f : product.Fate) → ph.fate ≡ f → (z : Input) → Steps x ≡ Steps z
        → StepLate first ks t.world.messages n ph.fate z (late running x y.fine y.number y.as_letter y.sent (fate_there f))
    step_late running x is y f fate z e =
        subst (λ (i : Input). StepLate first ks t.world.messages n ph.fate i (late running x y.fine y.number y.as_letter y.sent (fate_there f))) (same_input x z e)
        (record {
          running = running;
          number = y.number;
          as_letter = y.as_letter;
          sent = y.sent;
          reads = Rattle.op_refinement.proofs.NodeSteps.reads_sent go first ks t.world.messages (b.beside).letters n k running x y.number y.as_letter y.sent;
          is = ap (λ (g : product.Fate). late running x y.fine y.number y.as_letter y.sent (fate_there g)) (sym fate);
        })

    -- a step inside which the node stops or fails
    step_by : (running : ((world_of first ks).servers p).life ≡ Running) (x : Input) → Is (Steps x) → (y : Sending x) (f : product.Fate) → ph.fate ≡ f → fate_there f ≡ Stopped → By (late running x y.fine y.number y.as_letter y.sent Stopped)
    step_by running x is y f fate stops =
        by_with (Steps x) is (late running x y.fine y.number y.as_letter y.sent Stopped) (one_acts _ (one running x y.fine y.number y.as_letter y.sent Stopped))
        (λ z e up. subst (λ (g : Fate). StepLate first ks t.world.messages n ph.fate z (late running x y.fine y.number y.as_letter y.sent g)) stops (step_late running x is y f fate z e)) (λ up k. absurd k)

    stepped : ((world_of first ks).servers p).life ≡ Running → (x : Input) → Is (Steps x) → Sending x → (f : product.Fate) → ph.fate ≡ f → (at_line : ℕ)
        → Goes_on (world_by_fate f at_line t.world (record n { status = Up }) x) (machine_proposing_input t.machine p n.state x)
    stepped running x is y product.Done fate at_line =
        step_done running x y.fine y.number y.as_letter y.sent
        (by_with (Steps x) is (late running x y.fine y.number y.as_letter y.sent Done) (one_acts _ (one running x y.fine y.number y.as_letter y.sent Done)) (λ z e up. step_late running x is y product.Done fate z e) (λ up k. absurd k)) _
    stepped running x is y product.Stopped fate at_line =
        nothing_sent _ _ _ (step_stopped running x y.fine y.number y.as_letter y.sent (Down (storing go first ks t.world.messages (b.beside).letters n k running x y.number y.as_letter y.sent)) (λ s. s) (step_by running x is y product.Stopped fate refl) t.world.lines)
    stepped running x is y (product.Faulted count) fate at_line =
        nothing_sent _ _ _ (step_stopped running x y.fine y.number y.as_letter y.sent (Failed count (storing go first ks t.world.messages (b.beside).letters n k running x y.number y.as_letter y.sent)) (λ s. s) (step_by running x is y (product.Faulted count) fate refl) _)

    pub by_status : (s : NodeStatus) → n.status ≡ s → IfStatus t.world.messages (world_of first ks).soup p n.state s ((world_of first ks).servers p).life → (d : Doing) → Is d → DoingIs Fine size t.world.messages p d
        → Goes_on (world_by_status s d ph t.world (record n { status = s })) (machine_proposing_if s t.machine p n.state d)
    by_status Up up running (Steps x) is f = stepped running x is (sending x f) ph.fate refl ph.event.line
    by_status Up up running Stops is f = nothing_sent _ _ _ (crashed running (by_with Stops is (worlds.Stops p ∷ []) (one_acts _ (refl, tt, omega arith)) (λ x e u. absurd (stops_steps x e)) (λ u k. absurd k)) t.world.lines)
    by_status Up up running Opens is f = stays ph (by_none Opens is (λ x e u. opens_steps x e)) t.world.lines t.machine refl
    by_status Up up running (Tells y) is f = stays ph (by_none (Tells y) is (λ x e u. tells_steps y x e)) _ t.machine refl
    by_status (Down after) down s (Steps x) is f = stays ph (by_none (Steps x) is (λ x e u. up_down after (sym u ∙ down))) t.world.lines t.machine refl
    by_status (Down after) down s Stops is f = stays ph (by_none Stops is (λ x e u. up_down after (sym u ∙ down))) t.world.lines t.machine refl
    by_status (Down after) down s (Tells y) is f = stays ph (by_none (Tells y) is (λ x e u. up_down after (sym u ∙ down))) t.world.lines t.machine refl
    by_status (Down after) down s Opens is f = by ph.fate
      where
        by : (y : product.Fate) → Goes_on (world_opening y t.world (record n { status = Down after }) (cond ph.finds_after after n.state.durable)) t.machine
        by product.Done = opened after s ph.finds_after [] (by_with Opens is (worlds.Opens p ph.finds_after ∷ []) (one_acts _ (refl, tt, omega arith)) (λ x e u. absurd (opens_steps x e)) (λ u k. absurd (up_down after (sym u ∙ down)))) t.world.lines
        by product.Stopped = stays ph (by_none Opens is (λ x e u. opens_steps x e)) t.world.lines t.machine refl
        by (product.Faulted count) = stays ph (by_none Opens is (λ x e u. opens_steps x e)) t.world.lines t.machine refl
    by_status (Failed count after) failed s (Steps x) is f = stays ph (by_none (Steps x) is (λ x e u. up_failed count after (sym u ∙ failed))) _ t.machine refl
    by_status (Failed count after) failed s Stops is f = nothing_sent _ _ _ (restatused (Down after) s (by_none Stops is (λ x e u. stops_steps x e)) t.world.lines)
    by_status (Failed count after) failed s (Tells y) is f = stays ph (by_none (Tells y) is (λ x e u. tells_steps y x e)) _ t.machine refl
    by_status (Failed count after) failed s Opens is f = by ph.fate
      where
        by : (y : product.Fate) → Goes_on (world_reopening y after t.world (record n { status = Failed count after }) (cond ph.finds_after after n.state.durable)) t.machine
        by product.Done = opened after s ph.finds_after n.state.waiting (by_with Opens is (worlds.Opens p ph.finds_after ∷ []) (one_acts _ (refl, tt, omega arith)) (λ x e u. absurd (opens_steps x e)) (λ u k. absurd (up_failed count after (sym u ∙ failed)))) t.world.lines
        by product.Stopped = nothing_sent _ _ _ (restatused (Down after) s (by_none Opens is (λ x e u. opens_steps x e)) t.world.lines)
        by (product.Faulted more) = nothing_sent _ _ _ (restatused (Failed more after) s (by_none Opens is (λ x e u. opens_steps x e)) t.world.lines)

  -- ---- whatever happens

  -- a happening at a node, or at none
  abbrev Next_is : product.Happening → product.World → Machine → Type 0
  Next_is h w m = After h (record { world = w; machine = machine_showing_all m w.nodes })

  abbrev IfDoingIs : Option Deed → Type 0
  IfDoingIs None = Unit {0}
  IfDoingIs (Some x) = DoingIs Fine size t.world.messages x.pid x.doing

  -- what is done at an id that no node has: an observer asks, or nothing is sent
  module _ (h : product.Happening) (pid : ℕ) (at : node_at t.world.nodes pid ≡ None) (d : Doing) (is : deed_of t.world.messages h.event.what ≡ Some (record { pid = pid; doing = d })) where
    abbrev v : product.World
    v = record (world_observed (Some (record { pid = pid; doing = d })) h t.world) { nodes = t.world.nodes; members = t.world.members }

    runs : ((world_of first ks).servers pid).life ≡ Running
    runs = ap (λ (sv : Server). sv.life) ((b.beside).elsewhere pid at) ∙ start_runs first pid

    module _ (a : AddsAsks t.world (world_observed (Some (record { pid = pid; doing = d })) h t.world) pid) where
      abbrev said : Happening
      said = notes_late first ks pid runs (noted a.sends)

      abbrev more : List Sent
      more = sent_by pid a.sends

      abbrev goes_late : Goes first ks (said ∷ []) pid
      goes_late = (notes_to first ks pid runs (noted a.sends)).goes

      rels_late : Each (NodeRel first (ks ++ said ∷ []) (t.world.messages ++ more)) t.world.nodes
      rels_late = Each-map (λ j. (j.pid ≡ pid → ⊥) × NodeRel first ks t.world.messages j) (NodeRel first (ks ++ said ∷ []) (t.world.messages ++ more))
          (λ j x. other_rel first ks (said ∷ []) pid goes_late t.world.messages more j x.0 x.1) t.world.nodes
          (Each-both (λ j. j.pid ≡ pid → ⊥) (NodeRel first ks t.world.messages) t.world.nodes (none_apart t.world.nodes pid at) rels)

      letters_late : AreLetters (lists_of first (ks ++ said ∷ [])) (t.world.messages ++ more) (world_of first (ks ++ said ∷ [])).soup
      letters_late =
          subst (λ (soup : List Letter). AreLetters (lists_of first (ks ++ said ∷ [])) (t.world.messages ++ more) soup)
          (sym (goes_late.soup ∙ ap (λ (ms : List Letter). (world_of first ks).soup ++ ms) (notes_to first ks pid runs (noted a.sends)).is))
          (letters-append (lists_of first (ks ++ said ∷ [])) t.world.messages more (world_of first ks).soup (server.notes pid (noted a.sends)) (letters_on first ks (said ∷ []) t.world.messages (b.beside).letters)
          (asks_letters (lists_of first (ks ++ said ∷ [])) pid a.sends a.asks))

      abbrev living : Life → Server
      living l = record { state = state_of first ks pid; life = l }

      was : living Running ≡ (world_of first ks).servers pid
      was = ap living (sym runs)

      elsewhere_late : (q : ℕ) → node_at t.world.nodes q ≡ None → (world_of first (ks ++ said ∷ [])).servers q ≡ (start first).servers q
      elsewhere_late q none =
          ⊎_elim
          (λ (e : q ≡ pid). ap (λ (r : ℕ). (world_of first (ks ++ said ∷ [])).servers r) e ∙ (notes_to first ks pid runs (noted a.sends)).here
          ∙ was ∙ (b.beside).elsewhere pid at ∙ ap (λ (r : ℕ). (start first).servers r) (sym e))
          (λ (n : q ≡ pid → ⊥). goes_late.others q n ∙ (b.beside).elsewhere q none)
          (cases_eq q pid)

      observed : Next_is h v t.machine
      observed = record {
        late = said ∷ [];
        few = inr (said, refl);
        is = refl;
        kept = λ pid e. e;
        by = record {
          steps = λ e m x is' at' up doing. absurd (none_node m (sym at ∙ ap (λ (y : Deed). node_at t.world.nodes y.pid) (same_deed (record { pid = pid; doing = d }) e (sym is ∙ is')) ∙ at'));
          still = λ e m is' at' up calm. absurd (none_node m (sym at ∙ ap (λ (y : Deed). node_at t.world.nodes y.pid) (same_deed (record { pid = pid; doing = d }) e (sym is ∙ is')) ∙ at'));
          actor_is = λ y l. (record { pid = pid; doing = d }, is, ap (actor (world_of first ks)) (sym (same_one said y l)));
        };
        beside = record {
          happenings = ks ++ said ∷ [];
          beside = record {
            machine = ap (λ (x : Machine). machine_showing_all x t.world.nodes) (machine_is ∙ sym (notes_same first ks pid runs (noted a.sends)))
                ∙ all_same first (ks ++ said ∷ []) (t.world.messages ++ more) t.world.nodes (b.beside).apart rels_late;
            nodes = subst (λ (ms : List Sent). Each (NodeRel first (ks ++ said ∷ []) ms) t.world.nodes) (sym a.messages) rels_late;
            apart = (b.beside).apart;
            letters = subst (λ (ms : List Sent). AreLetters (lists_of first (ks ++ said ∷ [])) ms (world_of first (ks ++ said ∷ [])).soup) (sym a.messages) letters_late;
            elsewhere = elsewhere_late;
          };
          fine = Each-append (IsFine Fine) ks (said ∷ []) b.fine (tt, tt);
          short = omega (arith, b.short, one_proposes ks said);
        };
      }

  at_node : (h : product.Happening) (pid : ℕ) (o : Option Node) → node_at t.world.nodes pid ≡ o → IfThere (NodeRel first ks t.world.messages) pid o → (d : Doing) → deed_of t.world.messages h.event.what ≡ Some (record { pid = pid; doing = d })
      → DoingIs Fine size t.world.messages pid d → Next_is h (world_at_node o d h t.world) (machine_proposing_at t.machine o d)
  at_node h pid None at r d is f =
      subst (λ (o : Option Deed). Next_is h (record (world_observed o h t.world) { nodes = t.world.nodes; members = t.world.members }) t.machine) (sym is)
      (observed h pid at d is (observed_adds t.world (record { pid = pid; doing = d }) h))
  at_node h pid (Some n) at r d is f =
      by_status h n (ap (node_at t.world.nodes) r.0 ∙ at) r.1 n.status refl (r.1).status d (is ∙ ap (λ (q : ℕ). Some (record { pid = q; doing = d })) (sym r.0)) (subst (λ (q : ℕ). DoingIs Fine size t.world.messages q d) (sym r.0) f)

  by_deed : (h : product.Happening) (o : Option Deed) → deed_of t.world.messages h.event.what ≡ o → IfDoingIs o → Next_is h (world_with o h t.world) (machine_proposing_by t.machine t.world.nodes o)
  by_deed h None is f = stays h (record { steps = λ e m x is' at' up doing. absurd (none_deed e (sym is ∙ is')); still = λ e m is' at' up calm. refl; actor_is = λ y l. absurd (no_one y l) }) t.world.lines t.machine refl
  by_deed h (Some x) is f = at_node h x.pid (node_at t.world.nodes x.pid) refl (found (NodeRel first ks t.world.messages) t.world.nodes rels x.pid) x.doing is f

  deed_is : (x : What) → EventIsFine Fine x → proposals_of x ≤ size → IfDoingIs (deed_of t.world.messages x)
  deed_is (what.Tick p) f l = tt
  deed_is (what.Commands p cs) f l = (f, omega (arith, l, entries_length cs))
  deed_is (what.Stop p members) f l = (f, l)
  deed_is (what.Trim p) f l = tt
  deed_is (what.Read p r) f l = tt
  deed_is (what.Deliver i) f l = by (slice_get t.world.messages i) refl
    where
      by : (o : Option Sent) → slice_get t.world.messages i ≡ o → IfDoingIs (delivery o)
      by None e = tt
      by (Some m) e = (i, e)
  deed_is (what.Up p q) f l = tt
  deed_is (what.Down p q) f l = tt
  deed_is (what.Crash p) f l = tt
  deed_is (what.CrashAt p call image) f l = tt
  deed_is (what.Fail p call) f l = tt
  deed_is (what.Kill p disk) f l = tt
  deed_is (what.Start p) f l = tt
  deed_is (what.Show p) f l = tt
  deed_is (what.Ballots p) f l = tt

  -- so it is of every happening
  pub happening_goes : (h : product.Happening) → EventIsFine Fine h.event.what → proposals_of h.event.what ≤ size → After h (execution_with t h)
  happening_goes h f l = by_deed h (deed_of t.world.messages h.event.what) refl (deed_is h.event.what f l)
