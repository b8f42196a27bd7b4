-- Each input of a node is an event of the server, or nothing that the pure machine sees; and the step goes with it.
use Rattle.std.proofs.Common.{◌≡◌, ◌<◌, ◌⊎◌, inr, ℕ, ◌-◌, ◌+◌, Bool, true, false, not, cond, ◌&&◌, eqb, leb, is_some, List, [], ◌∷◌, ◌++◌, length, take, Option, Some, None, refl, sym, ap, ◌∙◌, subst, arith, length-take}
use Rattle.std.proofs.Math.ListN.{drop_of_length-le}
use Rattle.op_types.specs.Stops.{stop_at_end}
use Rattle.op_types.specs.Stages.{Pieces}
use Rattle.op_types.specs.Limits.{most_part_bytes}
use Rattle.op_types.specs.declared.durable.Closed.{Closed as StoredClosed}
use Rattle.op_types.specs.declared.durable.Durable.{Durable}
use Rattle.op_protocol.specs.Configurations.{latest_of}
use Rattle.op_types.specs.Changes.{durable_after}
use Rattle.op_types.specs.declared.durable.Part.{Part as StoredPart}
use Rattle.op_types.specs.declared.durable.Joining.{Joining as StoredJoining}
use Rattle.op_types.specs.declared.answers.Refusal.{Refusal}
use Rattle.op_types.specs.declared.changes.Change.{Change}
use Rattle.op_types.specs.declared.events.Input.{Input}
use Rattle.op_types.specs.declared.events.Input.TheVariants as input
use Rattle.op_types.specs.declared.log.Entry.{Entry}
use Rattle.op_types.specs.declared.log.Entry.TheVariants as entry
use Rattle.op_types.specs.declared.log.StopSign.{StopSign}
use Rattle.op_types.specs.declared.messages.Heard.{Heard}
use Rattle.op_types.specs.declared.messages.Msg.{Msg}
use Rattle.op_types.specs.declared.messages.Body.{Body}
use Rattle.op_types.specs.declared.messages.Body.TheVariants as body
use Rattle.op_types.specs.Ballots.{is_same_ballot}
use Rattle.op_spec.specs.Service.{Service, service_of, all_after}
use Rattle.op_protocol.specs.State as table
use Rattle.op_protocol.specs.State.{Volatile, Waiting, PartStep, Planned}
use Rattle.op_protocol.specs.Serving.{dropping}
use Rattle.op_protocol.specs.Parts.{is_admitted_body, part_after, decided_since}
use Rattle.op_protocol.specs.Configurations.{closing_from, closing}
use Rattle.op_protocol.specs.Watched.{is_watching, watch_answers}
use Rattle.op_protocol.specs.Rows.{refusal_of, stop_for, entries_of, planned, plan_of, newly_decided, trim_at}
use Rattle.op_protocol.specs.Reading.{leading_at}
use Rattle.op_protocol.specs.Heartbeats.{has_replied}
use Rattle.op_protocol.proofs.Asked.{takes_read}
use Rattle.op_protocol.proofs.TickCases.{asks_some}
use Rattle.op_runs.specs.World.{sent_by}
use Rattle.op_paxos.specs.Steps.{IsQuiet}
use Rattle.op_paxos.proofs.StepKeeping.{quiet_keeps_vote}
use Rattle.op_configurations.specs.Servers as server
use Rattle.op_configurations.specs.Servers.{Part, Closed, State, Letter, Fate, Stepped, Event, fated, decided_list, says, unchanged, acted}
use Rattle.op_configurations.specs.Worlds.{inner_of}
use Rattle.op_configurations.proofs.PartFacts.{Comable, PartIs}
use Rattle.op_refinement.proofs.Pure as pure
use Rattle.op_refinement.proofs.View.{whole_log, node_of}
use Rattle.op_refinement.proofs.TrimRows.{StepMatches, row_matches}
use Rattle.op_refinement.proofs.PartRows.{IsKnown, tick_ballot, trim_goes}
use Rattle.op_refinement.proofs.Plans.{serving-service}
use Rattle.op_refinement.proofs.Relation.{Reads, PartRel, all_before, IfPartRel, StageRel, StateRel, SameMemory, state_as, IfServes, AreLetters, StepRel}
use Rattle.op_refinement.proofs.AtParts.{AtPart, known, part_rel}

-- ---- which event an input is

-- the ballot that a tick leads, at a node that joins nothing
abbrev pub ballot_at : ℕ → Option StoredPart → Option StoredJoining → Volatile → Option ℕ
ballot_at me (Some p) None v = tick_ballot me p v
ballot_at me p j v = None

-- whether a tick asks those that it heard to prepare the node
abbrev pub asks_some_at : ℕ → Option StoredPart → Option StoredJoining → Volatile → Bool
asks_some_at me (Some p) None v = asks_some me p v
asks_some_at me p j v = false

-- the event that a tick is, by whether it does
abbrev pub tick_event : Bool → Option ℕ → List Heard → Event
tick_event true o heard = server.TicksAlone (has_replied heard)
tick_event false o heard = server.Ticks o

-- a message is within the limits; a leader's question counts where its ballot is promised
abbrev pub counts_at : StoredPart → Body → Bool
counts_at p (body.Confirm n number) = is_same_ballot p.promised n
counts_at p b = is_admitted_body p b

-- a message inside the part's configuration that is past the limits, or asks for another ballot: nothing comes of it
abbrev pub is_past : Option StoredPart → Option StoredJoining → Msg → Bool
is_past (Some p) None m = (eqb m.conf p.conf) && not (counts_at p m.body)
is_past p j m = false

-- a proposal that nothing refuses
abbrev pub proposal_event : List Entry → Option Refusal → Option Event
proposal_event e (Some r) = None
proposal_event e None = Some (server.Proposes e)

-- whether a message asks for a base
abbrev pub asks_base : Body → Bool
asks_base body.AskBase = true
asks_base b = false

-- how many bytes the base of the closed list before a configuration takes, where these are too many for one message
abbrev pub long_list : Option StoredClosed → ℕ → Option ℕ
long_list None conf = None
long_list (Some l) conf = cond (eqb (l.conf + 1) conf && not (leb (length l.base) most_part_bytes)) (Some (length l.base)) None

-- the same, where the base is asked for
abbrev pub long_base : Option StoredClosed → ℕ → Body → Option ℕ
long_base o conf b = cond (asks_base b) (long_list o conf) None

-- the same, of a message: it has to be of the latest configuration
abbrev pub long_in : Durable → Msg → Option ℕ
long_in d msg = cond (eqb msg.conf (latest_of d)) (long_base d.closed msg.conf msg.body) None

-- the letter of this number comes, and asks for a base of so many bytes, if these are too many for one message
abbrev pub read_as : ℕ → Letter → Option ℕ → Event
read_as n m None = server.Reads n m
read_as n m (Some total) = server.ReadsLong n total m

-- a message, and what of a base it asks for; one that is past the limits is none
abbrev pub delivery_event : table.State → ℕ → Letter → Msg → Option ℕ → Option Event
delivery_event s n m msg o = cond (is_past s.durable.part s.durable.joining msg) None (Some (read_as n m o))

-- whom messages go to, and of which configuration they are
abbrev pub noted : List (ℕ × Msg) → List (ℕ × ℕ)
noted [] = []
noted (s ∷ sends) = (s.0, s.1.conf) ∷ noted sends

-- what an observer asks is answered by letters that have no effect on servers
abbrev pub message_event : table.State → ℕ → Letter → ℕ → Msg → Option Event
message_event s n m q msg =
    cond (is_watching msg.body) (Some (server.Notes (noted (watch_answers s.durable q msg.conf msg.body)))) (delivery_event s n m msg (long_in s.durable msg))

-- The event that an input is, where a message is this letter, of this number. A leader that takes a read asks its
-- members as a tick does.
abbrev pub event_of : ℕ → table.State → ℕ → Letter → Input → Option Event
event_of me s n m input.Tick =
    Some (tick_event (asks_some_at me s.durable.part s.durable.joining s.volatile) (ballot_at me s.durable.part s.durable.joining s.volatile) s.volatile.heard)
event_of me s n m (input.Deliver q msg) = message_event s n m q msg
event_of me s n m (input.Commands cs) = proposal_event (entries_of cs) (refusal_of me s.volatile.role s.durable (entries_of cs))
event_of me s n m (input.Stop members) = proposal_event (entry.Stop (stop_for s.durable.part members) ∷ []) (refusal_of me s.volatile.role s.durable (entry.Stop (stop_for s.durable.part members) ∷ []))
event_of me s n m input.TrimNow = Some server.Trims
event_of me s n m (input.Read r) = cond (takes_read me (leading_at s) s.reads) (Some (server.Ticks None)) None
event_of me s n m (input.Up q) = Some (server.Links q)
event_of me s n m (input.Down q) = Some (server.Unlinks q)

-- the server's step, if there is an event
abbrev pub step_by : Fate → ℕ → State → Option Event → Stepped
step_by f me st None = unchanged st
step_by f me st (Some e) = server.step f me st e

-- ---- what is known of a node

pub record NodeFacts (lists : ℕ → List Entry) (soup : List Letter) (me : ℕ) (s : table.State) (st : State) : Type 0 where
  pub me_low : me < pure.owner_count
  pub rel : StateRel lists s.durable s.volatile st
  pub serves : IfServes lists s.service st.part
  pub above : (pt : Part) → st.part ≡ Some pt → 0 < pt.conf
  pub is : (pt : Part) → st.part ≡ Some pt → PartIs (inner_of pt.conf soup) me pt
  pub reads : (pt : Part) → st.part ≡ Some pt → Reads (all_before lists pt.conf ++ take (pt.node).trimmed (pt.node).log)

-- the closed list that a step leaves is the whole list
abbrev pub WholeAfter : (ℕ → List Entry) → Stepped → Type 0
WholeAfter lists o = (k : Closed) → (o.state).closed ≡ Some k → k.list ≡ lists k.conf

-- ---- nothing happens but messages

pub nothing_since : (p : StoredPart) → decided_since p p ≡ []
nothing_since p = drop_of_length-le (take (p.decided - p.trimmed) p.tail.items) (omega (arith, length-take (p.decided - p.trimmed) p.tail.items))

module _ (lists : ℕ → List Entry) (soup : List Letter) (me : ℕ) (f : Fate) (s : table.State) (st : State) (k : NodeFacts lists soup me s st) where
  module _ (waiting : Waiting) (x : PartStep) (none : x.batch ≡ []) where
    abbrev plan : Planned
    plan = planned s waiting x

    batch_none : plan.batch ≡ []
    batch_none = by s.durable.part ∙ refl
      where
        by : (o : Option StoredPart) → Rattle.op_protocol.specs.Rows.based_batch o x.batch ≡ []
        by None = none
        by (Some p) = ap (λ (b : List Change). Rattle.std.specs.Prelude.map (Rattle.op_protocol.specs.Rows.based p) b) none

    newly_none : newly_decided s.durable.part x.batch ≡ []
    newly_none = ap (newly_decided s.durable.part) none ∙ by s.durable.part
      where
        by : (o : Option StoredPart) → newly_decided o [] ≡ []
        by None = refl
        by (Some p) = nothing_since p

    service_same : plan.service ≡ s.service
    service_same = serving-service s.service (dropping waiting x.replies).waiting (newly_decided s.durable.part x.batch) ∙ ap (all_after s.service) newly_none

    closes_not : closing me s.durable.part plan ≡ plan
    closes_not = by s.durable.part
      where
        by : (o : Option StoredPart) → closing me o plan ≡ plan
        by None = refl
        by (Some p) =
            ap (λ (b : List Change). closing_from me p (part_after p b) plan) batch_none
            ∙ ap (λ (es : List Entry). cond (is_some (stop_at_end es)) (Rattle.op_protocol.specs.Configurations.closing_part me p plan) plan) (nothing_since p)

    -- what is kept of the part stays, and these messages go out
    pub rest_rel : (sends : List Letter) → SameMemory s.volatile x.volatile → AreLetters lists (sent_by me x.sends) sends → StepRel lists me f s.durable (plan_of me s waiting x) (says st sends)
    rest_rel sends same said =
        subst (λ (pl : Planned). StepRel lists me f s.durable pl (says st sends)) (sym closes_not)
        (record {
          volatile = x.volatile;
          state = subst (λ (b : List Change). StateRel lists (durable_after s.durable b) x.volatile st) (sym batch_none) (state_as lists s.durable s.volatile x.volatile st same k.rel);
          live = λ e. refl;
          said = λ e. said;
          serves = λ e. subst (λ (t : Service). IfServes lists t st.part) (sym service_same) k.serves;
        })

    -- a node without a part may be in any role
    pub rest_partless : s.durable.part ≡ None → x.volatile.pieces ≡ s.volatile.pieces → (sends : List Letter) → AreLetters lists (sent_by me x.sends) sends → StepRel lists me f s.durable (plan_of me s waiting x) (says st sends)
    rest_partless hs pieces sends said =
        subst (λ (pl : Planned). StepRel lists me f s.durable pl (says st sends)) (sym closes_not)
        (record {
          volatile = x.volatile;
          state = subst (λ (b : List Change). StateRel lists (durable_after s.durable b) x.volatile st) (sym batch_none)
              (record { part = any_role s.durable.part hs st.part k.rel.part; closed = k.rel.closed; joining = k.rel.joining; stage = subst (λ (y : Option Pieces). StageRel lists y st.joining) (sym pieces) k.rel.stage });
          live = λ e. refl;
          said = λ e. said;
          serves = λ e. subst (λ (t : Service). IfServes lists t st.part) (sym service_same) k.serves;
        })
      where
        some_none : (p : StoredPart) → Some p ≡ None → ⊥
        some_none p e = cc

        any_role : (o : Option StoredPart) → o ≡ None → (y : Option Part) → IfPartRel lists o s.volatile y → IfPartRel lists o x.volatile y
        any_role None e None h = tt
        any_role None e (Some pt) h = absurd h
        any_role (Some p) e y h = absurd (some_none p e)

  -- ---- at a part

  -- the part as the pure machine has it
  abbrev part_of : (p : StoredPart) (front : List Entry) → Part
  part_of p front = record { conf = p.conf; members = p.members; node = node_of front p s.volatile }

  part_path : (p : StoredPart) (pt : Part) (r : PartRel (all_before lists pt.conf) p s.volatile pt) → part_of p r.front ≡ pt
  part_path p pt r = λ i. record { conf = r.conf i; members = r.members i; node = r.seen i }

  front_is : (p : StoredPart) (pt : Part) (r : PartRel (all_before lists pt.conf) p s.volatile pt) → take (pt.node).trimmed (pt.node).log ≡ r.front
  front_is p pt r =
      ap (λ (nd : pure.Node). take nd.trimmed nd.log) (sym r.seen) ∙ ap (λ (n : ℕ). take n (whole_log r.front p)) (sym (r.fits).size) ∙ Rattle.std.proofs.Math.Seq.take-append_seam r.front p.tail.items

  at_part : (p : StoredPart) (pt : Part) → st.part ≡ Some pt → (r : PartRel (all_before lists pt.conf) p s.volatile pt) → AtPart lists (inner_of p.conf soup) me s p r.front
  at_part p pt ht r =
      let e = part_path p pt r in
      let before : all_before lists p.conf ≡ all_before lists pt.conf = ap (all_before lists) r.conf in
      record {
        me_low = k.me_low;
        above = omega (arith, r.conf, k.above pt ht);
        fits = r.fits;
        small = r.small;
        small_role = r.small_role;
        base = r.base ∙ ap (λ (l : List Entry). Rattle.op_spec.specs.Service.base_bytes (service_of (l ++ r.front))) (sym before);
        reads = subst (λ (l : List Entry). Reads (l ++ r.front)) (sym before) (subst (λ (l : List Entry). Reads (all_before lists pt.conf ++ l)) (front_is p pt r) (k.reads pt ht));
        serves = subst (λ (o : Option Part). IfServes lists s.service o) ht k.serves ∙ ap (λ (y : Part). service_of (all_before lists y.conf ++ decided_list y.node)) (sym e);
        is = subst (λ (y : Part). PartIs (inner_of y.conf soup) me y) (sym e) (k.is pt ht);
      }

  -- a step of the node there
  module _ (p : StoredPart) (pt : Part) (hs : s.durable.part ≡ Some p) (ht : st.part ≡ Some pt) (r : PartRel (all_before lists pt.conf) p s.volatile pt) where
    abbrev nd : pure.Node
    nd = node_of r.front p s.volatile

    there : AtPart lists (inner_of p.conf soup) me s p r.front
    there = at_part p pt ht r

    pub known_there : IsKnown (inner_of p.conf soup) me r.front p s.volatile
    known_there = known lists (inner_of p.conf soup) me s p r.front there

    -- where a step closes, it leaves the whole list
    whole_of : (n : ℕ) (i : pure.Input) → WholeAfter lists (acted f me st (part_of p r.front) n i) → (sign : StopSign)
        → stop_at_end (decided_list (fated f (pure.step p.members me nd i)).node) ≡ Some sign → decided_list (fated f (pure.step p.members me nd i)).node ≡ lists p.conf
    unfolding acted server.close_with
    whole_of n i w sign e =
        let after : Part = record { conf = p.conf; members = p.members; node = (fated f (pure.step p.members me nd i)).node } in
        w (server.closed_of after sign) (ap (λ (o : Option StopSign). (server.close_with me st after o).state.closed) e)

    pub acted_there : (n : ℕ) (i : pure.Input) → Comable (inner_of p.conf soup) me i → (waiting : Waiting) (x : PartStep) → StepMatches r.front me p s.volatile x (pure.step p.members me nd i)
        → ((st.joining ≡ None) × (s.durable.joining ≡ None)) ⊎ (decided_list (pure.step p.members me nd i).node ≡ decided_list nd)
        → WholeAfter lists (acted f me st pt n i) → StepRel lists me f s.durable (plan_of me s waiting x) (acted f me st pt n i)
    acted_there n i may waiting x m calm w =
        let e = part_path p pt r in
        subst (λ (y : Part). StepRel lists me f s.durable (plan_of me s waiting x) (acted f me st y n i)) e
        (part_rel lists (inner_of p.conf soup) me s p r.front there f st k.rel.closed k.rel.joining k.rel.stage n i may waiting x m calm hs (ht ∙ ap Some (sym e))
        (whole_of n i (subst (λ (y : Part). WholeAfter lists (acted f me st y n i)) (sym e) w)))

    -- trimming, sessions and starts decide nothing
    pub quiet_calm : (i : pure.Input) → IsQuiet i → decided_list (pure.step p.members me nd i).node ≡ decided_list nd
    quiet_calm i q =
        let v = quiet_keeps_vote p.members me nd i q in
        ap (λ (m : ℕ). take m (pure.step p.members me nd i).node.log) v.decided ∙ ap (take nd.decided) v.log

    -- trimming is asked for
    pub trim_now_there : WholeAfter lists (acted f me st pt 0 pure.TrimNow) → StepRel lists me f s.durable (plan_of me s s.waiting (trim_at me (Some p) s.volatile)) (acted f me st pt 0 pure.TrimNow)
    trim_now_there w =
        acted_there 0 pure.TrimNow tt s.waiting (trim_at me (Some p) s.volatile) (row_matches r.front me p s.volatile _ _ (trim_goes (inner_of p.conf soup) me r.front p s.volatile known_there)) (inr (quiet_calm pure.TrimNow tt)) w
