-- Each step of a node is the step of the server.
use Rattle.std.proofs.Common.{◌≡◌, ◌⊎◌, inl, inr, ℕ, Bool, true, false, cond, not, ◌&&◌, eqb, List, [], ◌∷◌, Option, Some, None, refl, sym, ap, ◌∙◌, subst}
use Rattle.std.proofs.lemmas.Bool.{both_ways, eqb-true, eqb-false, eq-eqb}
use Rattle.op_types.specs.declared.durable.Part.{Part as StoredPart}
use Rattle.op_types.specs.declared.durable.Joining.{Joining as StoredJoining}
use Rattle.op_types.specs.declared.events.Input.{Input}
use Rattle.op_types.specs.declared.events.Input.TheVariants as input
use Rattle.op_types.specs.declared.log.Entry.{Entry}
use Rattle.op_types.specs.declared.log.Entry.TheVariants as entry
use Rattle.op_types.specs.declared.messages.Msg.{Msg}
use Rattle.op_types.specs.declared.messages.Body.{Body}
use Rattle.op_types.specs.declared.messages.Body.TheVariants as body
use Rattle.op_protocol.specs.State as table
use Rattle.op_types.specs.Ballots.{is_same_ballot}
use Rattle.op_types.specs.declared.ballot.Ballot.{Ballot}
use Rattle.op_protocol.specs.Configurations.{latest_of, latest_in as stored_latest_in}
use Rattle.op_protocol.specs.Rows.{refusal_of, stop_for, entries_of, table_plan, step_plan, waiting_at}
use Rattle.op_configurations.specs.Servers as server
use Rattle.op_configurations.specs.Servers.{Part, Joining, State, Letter, Fate, Stepped}
use Rattle.op_configurations.specs.Laws.{StateStands}
use Rattle.op_configurations.specs.Stored.{HoldsIfJoining}
use Rattle.op_refinement.proofs.Pure as pure
use Rattle.op_refinement.proofs.View.{view_body}
use Rattle.op_refinement.proofs.PartRows.{commands_end}
use Rattle.op_refinement.proofs.Relation.{PartRel, all_before, IfPartRel, StepRel}
use Rattle.op_refinement.proofs.Inputs.{NodeFacts, WholeAfter, counts_at, is_past, long_in, delivery_event, event_of, step_by}
use Rattle.op_refinement.proofs.Steps.{IfComes, AllRead, StepsGo}
use Rattle.op_refinement.proofs.Cases.{trim_now_rel, down_rel, proposal_rel, up_rel}
use Rattle.op_refinement.proofs.Ticks.{tick_rel}
use Rattle.op_refinement.proofs.Delivers.{inner_rel}
use Rattle.op_refinement.proofs.ReadSteps.{reads_rel, read_rel, unpromised_rel}
use Rattle.op_refinement.proofs.LongBases.{long_rel}
use Rattle.op_refinement.proofs.Joining.{joins_rel}
use Rattle.op_paxos.specs.Agreement.{IsPrefix}
use Rattle.op_refinement.proofs.Elsewhere.{elsewhere_rel}
use Rattle.op_refinement.proofs.WhileJoining.{while_joining}
use Rattle.op_types.specs.declared.messages.Watch.{Watch}
use Rattle.op_protocol.specs.Watched.{is_watching, watch_answers}
use Rattle.op_refinement.proofs.Inputs.{noted, message_event}
use Rattle.op_refinement.proofs.Watching.{plain_or, watch_rel}

none_some : {A : Type 0} (a : A) → None ≡ Some a → ⊥
none_some a e = cc

not_false : (b : Bool) → not b ≡ false → b ≡ true
not_false true e = refl
not_false false e = absurd (both_ways true e refl)

-- what has no counterpart in a run counts, but for a question of a ballot that isn't promised
record Unpromised (p : StoredPart) (b : Body) : Type 0 where
  ballot : Ballot
  number : ℕ
  says_so : b ≡ body.Confirm ballot number
  other : is_same_ballot p.promised ballot ≡ false

uncounted : (p : StoredPart) (b : Body) → view_body b ≡ None → counts_at p b ≡ false → Unpromised p b
uncounted p (body.Prepare z na nl nd) e c = absurd (none_some _ (sym e))
uncounted p (body.Promise z fa fl fd a es) e c = absurd (none_some _ (sym e))
uncounted p (body.AcceptSync z g es) e c = absurd (none_some _ (sym e))
uncounted p (body.PromisePart z part) e c = absurd (none_some _ (sym e))
uncounted p (body.AcceptSyncPart z part) e c = absurd (none_some _ (sym e))
uncounted p (body.Accept z a es) e c = absurd (none_some _ (sym e))
uncounted p (body.Accepted z g) e c = absurd (none_some _ (sym e))
uncounted p (body.Decide z g) e c = absurd (none_some _ (sym e))
uncounted p body.PrepareReq e c = absurd (none_some _ (sym e))
uncounted p (body.Refuse z g) e c = absurd (none_some _ (sym e))
uncounted p (body.Forward g) e c = absurd (none_some _ (sym e))
uncounted p (body.Forwards g) e c = absurd (none_some _ (sym e))
uncounted p (body.TrimAsk z) e c = absurd (none_some _ (sym e))
uncounted p (body.Progress z g) e c = absurd (none_some _ (sym e))
uncounted p (body.Trim g) e c = absurd (none_some _ (sym e))
uncounted p (body.HeartbeatRequest r) e c = absurd (both_ways true c refl)
uncounted p (body.HeartbeatReply r z g) e c = absurd (both_ways true c refl)
uncounted p (body.Confirm z r) e c = record { ballot = z; number = r; says_so = refl; other = c }
uncounted p (body.Confirmed z r) e c = absurd (both_ways true c refl)
uncounted p (body.Watch w) e c = absurd (both_ways true c refl)
uncounted p (body.NextConf members olds len trimmed) e c = absurd (both_ways true c refl)
uncounted p body.AskBase e c = absurd (both_ways true c refl)
uncounted p (body.BasePart at bytes) e c = absurd (both_ways true c refl)
uncounted p (body.BasePiece piece) e c = absurd (both_ways true c refl)
uncounted p (body.AskSegment from to) e c = absurd (both_ways true c refl)
uncounted p (body.Segment at es) e c = absurd (both_ways true c refl)

module _ (first : List ℕ) (lists : ℕ → List Entry) (soup : List Letter) (me : ℕ) (f : Fate) (s : table.State) (st : State) (n : ℕ) (m : Letter)
    (old : ℕ → List Entry) (k : NodeFacts lists soup me s st) (read : AllRead lists) (before : StateStands first old st) (grown : (c : ℕ) → IsPrefix (old c) (lists c)) where
  -- the closed list is whole in the lists after the step
  whole : (o : Stepped) → StateStands first lists o.state → WholeAfter lists o
  whole o a c e = (a.closed c e).entries

  -- what a delivery has to show
  abbrev Delivered : ℕ → Msg → Type 0
  Delivered q msg = StepRel lists me f s.durable (table_plan me s (input.Deliver q msg)) (step_by f me st (delivery_event s n m msg None))

  deliver_rel : (q : ℕ) (msg : Msg) → IfComes first old lists soup me n m (input.Deliver q msg) → StateStands first lists (step_by f me st (delivery_event s n m msg None)).state
      → long_in s.durable msg ≡ None → is_watching msg.body ≡ false → Delivered q msg
  deliver_rel q msg comes a short votes = joins s.durable.joining refl st.joining refl (k.rel).joining
    where
      and_false : (b : Bool) → (b && false) ≡ false
      and_false true = refl
      and_false false = refl

      other : s.durable.joining ≡ None → st.joining ≡ None → is_past s.durable.part s.durable.joining msg ≡ false
          → ((x : pure.Msg) → view_body msg.body ≡ Some x → msg.conf ≡ latest_of s.durable → s.durable.part ≡ None) → Delivered q msg
      other hj tj past plain =
          elsewhere_rel lists soup me f s st k q msg n m comes.1 hj tj (λ c e. (before.closed c e).trimmed)
          (joins_rel lists soup me f s st k q hj tj (λ c e. (before.closed c e).trimmed) n msg.conf) plain
          (λ p hs at. not_false (counts_at p msg.body)
          (ap (λ (b : Bool). b && not (counts_at p msg.body)) (sym (eq-eqb msg.conf p.conf at)) ∙ ap (λ (o : Option StoredJoining). is_past (Some p) o msg) (sym hj) ∙ ap (λ (o : Option StoredPart). is_past o s.durable.joining msg) (sym hs) ∙ past))
          short votes past (whole (step_by f me st (delivery_event s n m msg None)) a)

      at_body : (p : StoredPart) (pt : Part) → s.durable.part ≡ Some p → st.part ≡ Some pt → PartRel (all_before lists pt.conf) p s.volatile pt → s.durable.joining ≡ None → st.joining ≡ None → msg.conf ≡ p.conf
          → (o : Option pure.Msg) → view_body msg.body ≡ o → Delivered q msg
      at_body p pt hs ht r hj tj here None e = by (counts_at p msg.body) refl
        where
          past_is : is_past s.durable.part s.durable.joining msg ≡ (eqb msg.conf p.conf && not (counts_at p msg.body))
          past_is = ap (λ (o : Option StoredPart). is_past o s.durable.joining msg) hs ∙ ap (λ (o : Option StoredJoining). is_past (Some p) o msg) hj

          by : (b : Bool) → counts_at p msg.body ≡ b → Delivered q msg
          by true c = other hj tj (past_is ∙ ap (λ (b : Bool). eqb msg.conf p.conf && not b) c ∙ and_false (eqb msg.conf p.conf)) (λ x i l. absurd (none_some x (sym e ∙ i)))
          by false c =
              let u = uncounted p msg.body e c in
              let over : is_past s.durable.part s.durable.joining msg ≡ true =
              past_is ∙ ap (λ (b : Bool). eqb msg.conf p.conf && not b) c ∙ ap (λ (b : Bool). b && true) (eq-eqb msg.conf p.conf here) in
              subst (λ (b : Bool). StepRel lists me f s.durable (table_plan me s (input.Deliver q msg)) (step_by f me st (cond b None (Some (server.Reads n m))))) (sym over)
              (unpromised_rel lists soup me f s st k q msg p hs hj here u.ballot u.number u.says_so u.other)
      at_body p pt hs ht r hj tj here (Some y) e = inner_rel lists soup me f s st k q msg n m comes.0 comes.1 p pt hs ht r hj tj here y e (whole (step_by f me st (delivery_event s n m msg None)) a)

      at_conf : (p : StoredPart) (pt : Part) → s.durable.part ≡ Some p → st.part ≡ Some pt → PartRel (all_before lists pt.conf) p s.volatile pt → s.durable.joining ≡ None → st.joining ≡ None → (b : Bool) → eqb msg.conf p.conf ≡ b → Delivered q msg
      at_conf p pt hs ht r hj tj true e = at_body p pt hs ht r hj tj (eqb-true msg.conf p.conf e) (view_body msg.body) refl
      at_conf p pt hs ht r hj tj false e = other hj tj
          (ap (λ (o : Option StoredPart). is_past o s.durable.joining msg) hs ∙ ap (λ (o : Option StoredJoining). is_past (Some p) o msg) hj ∙ ap (λ (b : Bool). b && not (counts_at p msg.body)) e)
          (λ x i l. absurd (eqb-false msg.conf p.conf e (l ∙ ap (λ (o : Option StoredPart). stored_latest_in o s.durable.closed) hs)))

      parts : s.durable.joining ≡ None → st.joining ≡ None → (d : Option StoredPart) → s.durable.part ≡ d → (o : Option Part) → st.part ≡ o → IfPartRel lists d s.volatile o → Delivered q msg
      parts hj tj None hs o ht r = other hj tj (ap (λ (o : Option StoredPart). is_past o s.durable.joining msg) hs) (λ x i l. hs)
      parts hj tj (Some p) hs None ht r = absurd r
      parts hj tj (Some p) hs (Some pt) ht r = at_conf p pt hs ht r hj tj (eqb msg.conf p.conf) refl

      joins : (d : Option StoredJoining) → s.durable.joining ≡ d → (j : Option Joining) → st.joining ≡ j → HoldsIfJoining lists d j → Delivered q msg
      joins (Some d) hj None tj y = absurd y
      joins (Some d) hj (Some j) tj y = while_joining first lists soup me f s st k read old before grown q msg n m comes.1 comes.2 d hj j tj y short votes a
      joins None hj (Some j) tj y = absurd y
      joins None hj None tj y = parts hj tj s.durable.part refl st.part refl (k.rel).part

  -- a delivery, whether it asks for a base in pieces or not
  any_deliver_rel : (q : ℕ) (msg : Msg) → IfComes first old lists soup me n m (input.Deliver q msg) → is_watching msg.body ≡ false → (o : Option ℕ) → long_in s.durable msg ≡ o → StateStands first lists (step_by f me st (delivery_event s n m msg o)).state
      → StepRel lists me f s.durable (table_plan me s (input.Deliver q msg)) (step_by f me st (delivery_event s n m msg o))
  any_deliver_rel q msg comes votes None e a = deliver_rel q msg comes a e votes
  any_deliver_rel q msg comes votes (Some total) e a = long_rel lists soup me f s st k q msg n m comes.1 (λ c h. (before.closed c h).trimmed) total e

  -- whatever message comes, an observer's or another
  message_rel : (q : ℕ) (msg : Msg) → IfComes first old lists soup me n m (input.Deliver q msg) → (is_watching msg.body ≡ false) ⊎ ((w : Watch) × (msg.body ≡ body.Watch w)) → StateStands first lists (step_by f me st (message_event s n m q msg)).state
      → StepRel lists me f s.durable (table_plan me s (input.Deliver q msg)) (step_by f me st (message_event s n m q msg))
  message_rel q msg comes (inl votes) a =
      let same : message_event s n m q msg ≡ delivery_event s n m msg (long_in s.durable msg) =
      ap (λ (b : Bool). cond b (Some (server.Notes (noted (watch_answers s.durable q msg.conf msg.body)))) (delivery_event s n m msg (long_in s.durable msg))) votes in
      subst (λ (o : Option server.Event). StepRel lists me f s.durable (table_plan me s (input.Deliver q msg)) (step_by f me st o)) (sym same)
      (any_deliver_rel q msg comes votes (long_in s.durable msg) refl (subst (λ (o : Option server.Event). StateStands first lists (step_by f me st o).state) same a))
  message_rel q msg comes (inr (w, e)) a =
      let same : message_event s n m q msg ≡ Some (server.Notes (noted (watch_answers s.durable q msg.conf msg.body))) =
      ap (λ (b : Bool). cond b (Some (server.Notes (noted (watch_answers s.durable q msg.conf msg.body)))) (delivery_event s n m msg (long_in s.durable msg))) (ap is_watching e) in
      subst (λ (o : Option server.Event). StepRel lists me f s.durable (table_plan me s (input.Deliver q msg)) (step_by f me st o)) (sym same) (watch_rel lists soup me f s st k q msg w e)

  step_rel : (x : Input) → IfComes first old lists soup me n m x → StateStands first lists (step_by f me st (event_of me s n m x)).state
      → StepRel lists me f s.durable (step_plan me s x) (step_by f me st (event_of me s n m x))
  unfolding server.step
  step_rel input.Tick c a = reads_rel lists me f s input.Tick _ refl (tick_rel lists soup me f s st k (whole (step_by f me st (event_of me s n m input.Tick)) a))
  step_rel (input.Deliver q msg) c a = reads_rel lists me f s (input.Deliver q msg) _ refl (message_rel q msg c (plain_or msg.body) a)
  step_rel (input.Commands cs) c a = reads_rel lists me f s (input.Commands cs) _ refl (proposal_rel lists soup me f s st k (entries_of cs) (commands_end cs) (waiting_at me s (input.Commands cs)) (refusal_of me s.volatile.role s.durable (entries_of cs)) refl (whole (step_by f me st (event_of me s n m (input.Commands cs))) a))
  step_rel (input.Stop members) c a = reads_rel lists me f s (input.Stop members) _ refl (proposal_rel lists soup me f s st k (entry.Stop (stop_for s.durable.part members) ∷ []) refl s.waiting (refusal_of me s.volatile.role s.durable (entry.Stop (stop_for s.durable.part members) ∷ [])) refl (whole (step_by f me st (event_of me s n m (input.Stop members))) a))
  step_rel input.TrimNow c a = reads_rel lists me f s input.TrimNow _ refl (trim_now_rel lists soup me f s st k (whole (step_by f me st (event_of me s n m input.TrimNow)) a))
  step_rel (input.Read r) c a = read_rel lists soup me f s st k r n m
  step_rel (input.Up q) c a = reads_rel lists me f s (input.Up q) _ refl (up_rel lists soup me f s st k q (λ c e. (before.closed c e).trimmed) (whole (step_by f me st (event_of me s n m (input.Up q))) a))
  step_rel (input.Down q) c a = reads_rel lists me f s (input.Down q) _ refl (down_rel lists soup me f s st k q (whole (step_by f me st (event_of me s n m (input.Down q))) a))

-- each step of a node is the step of the server
pub steps_go : StepsGo
steps_go first lists soup me f s st x n m old k read before grown comes after = step_rel first lists soup me f s st n m old k read before grown x comes after
