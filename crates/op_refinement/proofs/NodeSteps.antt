-- A step of a node that is up: the node stays beside its server.
use Rattle.std.proofs.Common.{◌≡◌, ℕ, Bool, true, false, cond, List, [], ◌∷◌, ◌++◌, Option, Some, None, refl, sym, ap, ◌∙◌, subst, slice_get, append-nil}
use Rattle.op_types.specs.Changes.{durable_after}
use Rattle.op_types.specs.declared.durable.Durable.{Durable}
use Rattle.op_types.specs.declared.answers.Refusal.{Refusal}
use Rattle.op_types.specs.declared.events.Input.{Input}
use Rattle.op_types.specs.declared.events.Input.TheVariants as input
use Rattle.op_types.specs.declared.log.Entry.{Entry}
use Rattle.op_types.specs.declared.messages.Msg.{Msg}
use Rattle.op_protocol.specs.State.{Volatile, Planned, state_after}
use Rattle.op_protocol.specs.Rows.{step_plan, refusal_of, stop_for}
use Rattle.op_runs.specs.World.{Node, NodeStatus, Up, Sent, sent_by}
use Rattle.op_configurations.specs.Servers as server
use Rattle.op_configurations.specs.Servers.{State, Letter, Fate, Done, Stopped, Event}
use Rattle.op_configurations.specs.Worlds as worlds
use Rattle.op_configurations.specs.Worlds.{Running, Server, Happening}
use Rattle.op_configurations.specs.Laws.{StateStands}
use Rattle.op_configurations.proofs.Standing.{stands, letters_stand}
use Rattle.op_paxos.proofs.Membership.{in_from_get}
use Rattle.op_refinement.proofs.Relation.{StateRel, IfServes, IsLetter, AreLetters, StepRel}
use Rattle.op_refinement.proofs.Letters.{IfLetter, letter_at}
use Rattle.op_protocol.specs.Reading.{leading_at}
use Rattle.op_protocol.proofs.Asked.{takes_read}
use Rattle.op_refinement.proofs.Inputs.{event_of, ballot_at, asks_some_at, tick_event, step_by, is_past, long_in, read_as, proposal_event}
use Rattle.op_refinement.proofs.Steps.{IfComes, AllRead, StepsGo}
use Rattle.op_refinement.proofs.Worlds.{lists_of, world_of, state_of, grows_of, letters_on, facts_of}
use Rattle.op_refinement.proofs.Beside.{IfSent, IfStatus, StoppedAs, Inside, NodeRel}
use Rattle.op_refinement.proofs.PureMoves.{GoesTo, late_of, IfReads, done_goes, stopped_goes}
use Rattle.op_protocol.specs.Watched.{is_watching, watch_answers}
use Rattle.op_refinement.proofs.Inputs.{noted}

module _ (go : StepsGo) (first : List ℕ) (ks : List Happening) (messages : List Sent) (letters : AreLetters (lists_of first ks) messages (world_of first ks).soup)
    (n : Node) (k : NodeRel first ks messages n) (x : Input) (i : ℕ) (m : Letter) (sent : IfSent messages (world_of first ks).soup n.pid i m x) where
  abbrev pub p : ℕ
  p = n.pid

  -- the event that the input is
  abbrev pub event : Option Event
  event = event_of p n.state i m x

  abbrev pub plan : Planned
  plan = step_plan p n.state x

  -- the letter of a message
  pub letter_is : (msgs : List Sent) (soup : List Letter) (lists : ℕ → List Entry) → AreLetters lists msgs soup → (s : Sent) → slice_get msgs i ≡ Some s → slice_get soup i ≡ Some m → IsLetter lists s m
  letter_is msgs soup lists a s hs hm =
      subst (λ (o : Option Letter). IfLetter lists (Some s) o) hm (subst (λ (o : Option Sent). IfLetter lists o (slice_get soup i)) hs (letter_at lists msgs soup a i))

  -- what comes is known in the lists after it
  comes : (late : List Happening) → IfComes first (lists_of first ks) (lists_of first (ks ++ late)) (world_of first ks).soup p i m x
  comes late = by x sent
    where
      by : (y : Input) → IfSent messages (world_of first ks).soup p i m y → IfComes first (lists_of first ks) (lists_of first (ks ++ late)) (world_of first ks).soup p i m y
      by (input.Deliver q msg) s = (
        s.1,
        letter_is messages (world_of first ks).soup (lists_of first (ks ++ late)) (letters_on first ks late messages letters) (record { from = q; to = p; message = msg }) s.0 s.1,
        letters_stand first ks m (in_from_get (world_of first ks).soup i m s.1),
      )
      by input.Tick s = tt
      by (input.Commands c) s = tt
      by (input.Stop members) s = tt
      by input.TrimNow s = tt
      by (input.Read r) s = tt
      by (input.Up q) s = tt
      by (input.Down q) s = tt

  -- the step, in the lists after these happenings
  pub step_rel : (f : Fate) (late : List Happening) → AllRead (lists_of first (ks ++ late)) → StateStands first (lists_of first (ks ++ late)) (step_by f p (state_of first ks p) event).state
      → StepRel (lists_of first (ks ++ late)) p f n.state.durable plan (step_by f p (state_of first ks p) event)
  step_rel f late read after =
      go first (lists_of first (ks ++ late)) (world_of first ks).soup p f n.state (state_of first ks p) x i m (lists_of first ks)
      (facts_of first ks late p n.state k.low read k.rel k.serves) read (stands first ks p) (grows_of first ks late) (comes late) after

module _ (go : StepsGo) (first : List ℕ) (ks : List Happening) (messages : List Sent) (letters : AreLetters (lists_of first ks) messages (world_of first ks).soup)
    (n : Node) (k : NodeRel first ks messages n) (running : ((world_of first ks).servers n.pid).life ≡ Running) (x : Input) (i : ℕ) (m : Letter) (sent : IfSent messages (world_of first ks).soup n.pid i m x) where
  abbrev own : ℕ
  own = n.pid

  abbrev seen : Option Event
  seen = event_of own n.state i m x

  abbrev planned : Planned
  planned = step_plan own n.state x

  -- what is read was sent to the server
  pub reads_sent : IfReads first ks own running seen
  reads_sent = by x sent
    where
      there : (q : ℕ) (msg : Msg) → IfSent messages (world_of first ks).soup own i m (input.Deliver q msg) → (slice_get (world_of first ks).soup i ≡ Some m) × (m.to ≡ own)
      there q msg s = (s.1, sym (letter_is go first ks messages letters n k x i m sent messages (world_of first ks).soup (lists_of first ks) letters (record { from = q; to = own; message = msg }) s.0 s.1).to)

      delivered : (q : ℕ) (msg : Msg) → IfSent messages (world_of first ks).soup own i m (input.Deliver q msg) → (b : Bool) (t : Option ℕ) → IfReads first ks own running (cond b None (Some (read_as i m t)))
      delivered q msg s true t = tt
      delivered q msg s false None = there q msg s
      delivered q msg s false (Some total) = there q msg s

      proposed : (e : List Entry) (r : Option Refusal) → IfReads first ks own running (proposal_event e r)
      proposed e None = tt
      proposed e (Some r) = tt

      ticking : (b : Bool) → IfReads first ks own running (Some (tick_event b (ballot_at own n.state.durable.part n.state.durable.joining n.state.volatile) n.state.volatile.heard))
      ticking true = tt
      ticking false = tt

      asking : (b : Bool) → IfReads first ks own running (cond b (Some (server.Ticks None)) None)
      asking true = tt
      asking false = tt

      by : (y : Input) → IfSent messages (world_of first ks).soup own i m y → IfReads first ks own running (event_of own n.state i m y)
      by input.Tick s = ticking (asks_some_at own n.state.durable.part n.state.durable.joining n.state.volatile)
      by (input.Deliver q msg) s = watched (is_watching msg.body)
        where
          watched : (a : Bool) → IfReads first ks own running (cond a (Some (server.Notes (noted (watch_answers n.state.durable q msg.conf msg.body)))) (cond (is_past n.state.durable.part n.state.durable.joining msg) None (Some (read_as i m (long_in n.state.durable msg)))))
          watched true = tt
          watched false = delivered q msg s (is_past n.state.durable.part n.state.durable.joining msg) (long_in n.state.durable msg)
      by (input.Commands cs) s = proposed _ (refusal_of own n.state.volatile.role n.state.durable (Rattle.op_protocol.specs.Rows.entries_of cs))
      by (input.Stop members) s = proposed _ (refusal_of own n.state.volatile.role n.state.durable (Rattle.op_types.specs.declared.log.Entry.TheVariants.Stop (stop_for n.state.durable.part members) ∷ []))
      by input.TrimNow s = tt
      by (input.Read r) s = asking (takes_read own (leading_at n.state) n.state.reads)
      by (input.Up q) s = tt
      by (input.Down q) s = tt

  -- ---- the step is done
  abbrev pub done : Node
  done = record n { state = state_after n.state planned; status = Up }

  abbrev done_late : List Happening
  done_late = late_of first ks own running Done seen

  pub done_to : GoesTo first ks done_late own (record { state = (step_by Done own (state_of first ks own) seen).state; life = Running }) (step_by Done own (state_of first ks own) seen).sends
  done_to = done_goes first ks own running seen reads_sent

  state_is : state_of first (ks ++ done_late) own ≡ (step_by Done own (state_of first ks own) seen).state
  state_is = ap (λ (sv : Server). sv.state) done_to.here

  module _ (read : AllRead (lists_of first (ks ++ done_late))) where
    done_step : StepRel (lists_of first (ks ++ done_late)) own Done n.state.durable planned (step_by Done own (state_of first ks own) seen)
    done_step = step_rel go first ks messages letters n k x i m sent Done done_late read (subst (λ (st : State). StateStands first (lists_of first (ks ++ done_late)) st) state_is (stands first (ks ++ done_late) own))

    pub done_said : AreLetters (lists_of first (ks ++ done_late)) (sent_by own planned.sends) (step_by Done own (state_of first ks own) seen).sends
    done_said = done_step.said refl

    pub done_rel : (more : List Sent) → NodeRel first (ks ++ done_late) more done
    done_rel more = record {
      low = k.low;
      rel = subst (λ (st : State). StateRel (lists_of first (ks ++ done_late)) (durable_after n.state.durable planned.batch) planned.volatile st) (sym state_is)
          (subst (λ (r : Volatile). StateRel (lists_of first (ks ++ done_late)) (durable_after n.state.durable planned.batch) r (step_by Done own (state_of first ks own) seen).state) (done_step.live refl) done_step.state);
      serves = subst (λ (st : State). IfServes (lists_of first (ks ++ done_late)) planned.service st.part) (sym state_is) (done_step.serves refl);
      status = ap (λ (sv : Server). sv.life) done_to.here;
    }

  -- ---- the node stops or fails inside it: its server stops
  -- what the step was to store
  abbrev pub storing : Durable
  storing = durable_after n.state.durable planned.batch

  abbrev stopped_late : List Happening
  stopped_late = late_of first ks own running Stopped seen

  pub stopped_to : GoesTo first ks stopped_late own (record { state = state_of first ks own; life = worlds.Down seen }) []
  stopped_to = stopped_goes first ks own running seen reads_sent

  -- how the node then runs, where it is found as one that stopped inside this step
  abbrev pub IsHalted : NodeStatus → Type 0
  IsHalted status =
      StoppedAs messages (world_of first (ks ++ stopped_late)).soup own n.state storing ((world_of first (ks ++ stopped_late)).servers own).life
      → IfStatus messages (world_of first (ks ++ stopped_late)).soup own n.state status ((world_of first (ks ++ stopped_late)).servers own).life

  pub stopped_rel : (status : NodeStatus) → IsHalted status → NodeRel first (ks ++ stopped_late) messages (record n { status = status })
  stopped_rel status halted =
      let same : state_of first (ks ++ stopped_late) own ≡ state_of first ks own = ap (λ (sv : Server). sv.state) stopped_to.here in
      let none : (world_of first (ks ++ stopped_late)).soup ≡ (world_of first ks).soup =
      (stopped_to.goes).soup ∙ ap (λ (ms : List Letter). (world_of first ks).soup ++ ms) stopped_to.is ∙ append-nil (world_of first ks).soup in
      record {
        low = k.low;
        rel = subst (λ (st : State). StateRel (lists_of first (ks ++ stopped_late)) n.state.durable n.state.volatile st) (sym same) (Rattle.op_refinement.proofs.Worlds.state_on first ks stopped_late own n.state.durable n.state.volatile k.rel);
        serves = subst (λ (st : State). IfServes (lists_of first (ks ++ stopped_late)) n.state.service st.part) (sym same) (Rattle.op_refinement.proofs.Worlds.serves_on first ks stopped_late own n.state.service k.serves);
        status = halted (Inside x i m (ap (λ (sv : Server). sv.life) stopped_to.here) refl (subst (λ (soup : List Letter). IfSent messages soup own i m x) (sym none) sent));
      }
