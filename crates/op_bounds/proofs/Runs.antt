-- Worlds stay in range, one happening after the other.
use Rattle.std.proofs.Common.{◌≡◌, ◌≤◌, ℕ, zero, suc, Bool, true, false, cond, eqb, ltb, ◌++◌, List, [], ◌∷◌, get_or, Option, Some, None, refl, sym, ◌∙◌, subst, All, slice_get}
use Rattle.std.specs.Prelude.{IfSome}
use Rattle.std.proofs.lemmas.Bool.{cond_both, false≢true}
use Rattle.std.proofs.lemmas.List.Elements.{All-nil, All-cons, All-head, All-tail, All-append, All-map, All-weaker}
use Rattle.op_types.specs.Limits.{last_conf, most_part_bytes}
use Rattle.op_types.specs.Changes.{durable_after}
use Rattle.op_types.specs.declared.events.Input.{Input}
use Rattle.op_types.specs.declared.events.Input.TheVariants as input
use Rattle.op_types.specs.declared.durable.Durable.{Durable}
use Rattle.op_types.specs.declared.messages.Body.{Body}
use Rattle.op_types.specs.declared.messages.Body.TheVariants as body
use Rattle.op_types.specs.declared.messages.Msg.{Msg}
use Rattle.op_msg.specs.Sizes.{carried_size}
use Rattle.op_protocol.specs.State.{Planned, state_after}
use Rattle.op_protocol.specs.Rows.{step_plan}
use Rattle.op_protocol.specs.Watched.{is_watching, watch_answers}
use Rattle.op_protocol.specs.Watching.{watch_plan}
use Rattle.op_protocol.specs.Starting.{state_after_restart, sends_after_restart}
use Rattle.op_runs.specs.declared.events.What.{What}
use Rattle.op_runs.specs.declared.events.What.TheVariants as what
use Rattle.op_runs.specs.declared.summary.Line.{Line}
use Rattle.op_runs.specs.Possible.{WhatInRange}
use Rattle.op_runs.specs.World.{Kind, Votes, Observes, Sent, Node, NodeStatus, Up, Down, Failed, World, Fate, Done, Stopped, Faulted, Happening, Doing, Steps, Stops, Opens, Tells, Deed, first_world, first_observer, delivery, deed_of, node_at, with_node, insert_node, sent_by, plan_as, sends_as, world_with_as, world_telling_more, stored_as, world_by_fate_as, world_if_up_as, state_after_reopening, world_opening_as, world_if_down_as, world_reopening_as, world_if_failed_as, world_by_status_as, world_beginning, world_at_observer, world_observed, world_at_node, world_with, world_after, run_of}
use Rattle.op_bounds.specs.Messages.{AreIds, MembersOf, BodyInRange, MsgInRange, NamesConf, SendInRange, InputInRange}
use Rattle.op_bounds.specs.States.{DurableOf, ObserverStateInRange}
use Rattle.op_bounds.specs.Laws.{SentInRange, FoundInRange, StatusInRange, NodeInRange, ObserverStatusInRange, ObserverInRange, WorldInRange, WhatNames, HappeningsStayInRange, RunsStayInRange}
use Rattle.op_bounds.proofs.Answering.{watched_is, watched_in}
use Rattle.op_bounds.proofs.Observing.{WatchComes, observer_came, asks_watching}
use Rattle.op_bounds.proofs.ReadBases.{new_service_in}
use Rattle.op_bounds.proofs.Steps.{steps_stay, steps_name}
use Rattle.op_bounds.proofs.Starts.{starts_in, openings_stay, observer_openings_stay, member_durable}
use Rattle.op_bounds.proofs.Watched.{AnswerTo, answers_to}

-- ---- lists of servers and messages

module _ (P : Node → Type 0) where
  node_found : (nodes : List Node) (pid : ℕ) → All P nodes → IfSome (node_at nodes pid) P
  node_found [] pid each = tt
  node_found (n ∷ nodes) pid each =
      cond_both (eqb n.pid pid) (Some n) (node_at nodes pid) (λ (o : Option Node). IfSome o P) (λ _. All-head P n nodes each) (λ _. node_found nodes pid (All-tail P n nodes each))

  nodes_with : (nodes : List Node) (m : Node) → All P nodes → P m → All P (with_node nodes m)
  nodes_with [] m each one = All-nil P
  nodes_with (n ∷ nodes) m each one =
      let rest = All-tail P n nodes each in
      cond_both (eqb n.pid m.pid) (m ∷ nodes) (n ∷ with_node nodes m) (All P) (λ _. All-cons P m nodes one rest)
      (λ _. All-cons P n (with_node nodes m) (All-head P n nodes each) (nodes_with nodes m rest one))

  nodes_more : (nodes : List Node) (m : Node) → All P nodes → P m → All P (insert_node nodes m)
  nodes_more [] m each one = All-cons P m [] one (All-nil P)
  nodes_more (n ∷ nodes) m each one =
      cond_both (ltb m.pid n.pid) (m ∷ n ∷ nodes) (n ∷ insert_node nodes m) (All P) (λ _. All-cons P m (n ∷ nodes) one each)
      (λ _. All-cons P n (insert_node nodes m) (All-head P n nodes each) (nodes_more nodes m (All-tail P n nodes each) one))

-- ---- those who talk, and those who are known

-- a message of a world in which others talk, too, than those who are known: what it names is known, and so is
-- who sent it, unless it is an observer's or to one
pub record SentBy (Known Talks : ℕ → Type 0) (m : Sent) : Type 0 where
  pub from : Talks m.from
  pub to : Talks m.to
  pub voter : is_watching m.message.body ≡ false → Known m.from
  pub conf : NamesConf m.message
  pub carries : carried_size m.message.body ≤ most_part_bytes
  pub message : MsgInRange Known m.message

-- an observer who talks
pub record ObserverBy (Known Talks : ℕ → Type 0) (n : Node) : Type 0 where
  pub pid : Talks n.pid
  pub state : ObserverStateInRange Known n.state
  pub status : ObserverStatusInRange Known n.status

-- all nodes are known, and observers and messages are of those who talk
pub record WorldBy (Known Talks : ℕ → Type 0) (w : World) : Type 0 where
  pub nodes : All (NodeInRange Known) w.nodes
  pub observers : All (ObserverBy Known Talks) w.observers
  pub members : MembersOf Known w.members
  pub messages : All (SentBy Known Talks) w.messages

-- what comes to a server
abbrev CameBy : (ℕ → Type 0) → (ℕ → Type 0) → Input → Type 0
CameBy Known Talks (input.Deliver q m) = Talks q × (is_watching m.body ≡ false → Known q) × MsgInRange Known m
CameBy Known Talks x = InputInRange Known x

-- to an observer
watch_came : (Known Talks : ℕ → Type 0) (x : Input) → CameBy Known Talks x → WatchComes Known x
watch_came Known Talks (input.Deliver q m) came = came.2
watch_came Known Talks input.Tick came = tt
watch_came Known Talks (input.Commands cs) came = came
watch_came Known Talks (input.Stop members) came = came
watch_came Known Talks input.TrimNow came = tt
watch_came Known Talks (input.Read r) came = came
watch_came Known Talks (input.Up q) came = came
watch_came Known Talks (input.Down q) came = came

message_found : (Known Talks : ℕ → Type 0) (ms : List Sent) (i : ℕ) → All (SentBy Known Talks) ms → IfSome (slice_get ms i) (SentBy Known Talks)
message_found Known Talks [] i each = tt
message_found Known Talks (m ∷ ms) zero each = All-head (SentBy Known Talks) m ms each
message_found Known Talks (m ∷ ms) (suc i) each = message_found Known Talks ms i (All-tail (SentBy Known Talks) m ms each)

-- what a server of this id sends
abbrev sent_from : ℕ → ℕ × Msg → Sent
sent_from me s = record { from = me; to = s.0; message = s.1 }

-- ---- deeds

-- what is done at a server
abbrev ComesBy : (ℕ → Type 0) → (ℕ → Type 0) → Doing → Type 0
ComesBy Known Talks (Steps x) = CameBy Known Talks x
ComesBy Known Talks Stops = Unit {0}
ComesBy Known Talks Opens = Unit {0}
ComesBy Known Talks (Tells told) = Unit {0}

-- what is done at this id, where an observer may begin
abbrev DoingBy : (ℕ → Type 0) → (ℕ → Type 0) → ℕ → Doing → Type 0
DoingBy Known Talks pid (Steps x) = CameBy Known Talks x
DoingBy Known Talks pid Stops = Unit {0}
DoingBy Known Talks pid Opens = Talks pid
DoingBy Known Talks pid (Tells told) = Unit {0}

comes_of : (Known Talks : ℕ → Type 0) (pid : ℕ) (d : Doing) → DoingBy Known Talks pid d → ComesBy Known Talks d
comes_of Known Talks pid (Steps x) fit = fit
comes_of Known Talks pid Stops fit = tt
comes_of Known Talks pid Opens fit = tt
comes_of Known Talks pid (Tells told) fit = tt

abbrev DeedBy : (ℕ → Type 0) → (ℕ → Type 0) → Deed → Type 0
DeedBy Known Talks d = DoingBy Known Talks d.pid d.doing

-- ---- servers of either kind

module _ (Known Talks : ℕ → Type 0) (ids : AreIds Known) (talk : (q : ℕ) → Known q → Talks q) where
  abbrev InWorld : World → Type 0
  InWorld w = WorldBy Known Talks w

  -- a server in range, and what it may find
  abbrev ServerIn : Kind → Node → Type 0
  ServerIn Votes n = NodeInRange Known n
  ServerIn Observes n = ObserverBy Known Talks n

  abbrev FoundIn : Kind → ℕ → Durable → Type 0
  FoundIn Votes me d = FoundInRange Known me d
  FoundIn Observes me d = DurableOf Known d

  abbrev StatusIn : Kind → ℕ → NodeStatus → Type 0
  StatusIn k me Up = Unit {0}
  StatusIn k me (Down after) = FoundIn k me after
  StatusIn k me (Failed count after) = FoundIn k me after

  status_of : (k : Kind) (n : Node) → ServerIn k n → StatusIn k n.pid n.status
  status_of Votes n one = by n.status one.status
    where
      by : (s : NodeStatus) → StatusInRange Known n.pid s → StatusIn Votes n.pid s
      by Up fit = tt
      by (Down after) fit = fit
      by (Failed count after) fit = fit
  status_of Observes n one = by n.status one.status
    where
      by : (s : NodeStatus) → ObserverStatusInRange Known s → StatusIn Observes n.pid s
      by Up fit = tt
      by (Down after) fit = fit
      by (Failed count after) fit = fit

  -- one whose status is in range
  with_status : (k : Kind) (n : Node) (s : NodeStatus) → ServerIn k n → StatusIn k n.pid s → ServerIn k (record n { status = s })
  with_status Votes n Up one fit = record { pid = one.pid; state = one.state; named = one.named; status = tt }
  with_status Votes n (Down after) one fit = record { pid = one.pid; state = one.state; named = one.named; status = fit }
  with_status Votes n (Failed count after) one fit = record { pid = one.pid; state = one.state; named = one.named; status = fit }
  with_status Observes n Up one fit = record { pid = one.pid; state = one.state; status = tt }
  with_status Observes n (Down after) one fit = record { pid = one.pid; state = one.state; status = fit }
  with_status Observes n (Failed count after) one fit = record { pid = one.pid; state = one.state; status = fit }

  now_found : (k : Kind) (n : Node) → ServerIn k n → FoundIn k n.pid n.state.durable
  now_found Votes n one = (one.state.durable, one.named)
  now_found Observes n one = one.state.durable

  -- what a step does
  record StepKept (k : Kind) (n : Node) (p : Planned) : Type 0 where
    node : ServerIn k (record n { state = state_after n.state p })
    sent : All (SentBy Known Talks) (sent_by n.pid p.sends)
    left : FoundIn k n.pid (durable_after n.state.durable p.batch)

  -- what a node says that is known
  voter_says : (me : ℕ) (sends : List (ℕ × Msg)) → Known me → All (SendInRange Known) sends → All (SentBy Known Talks) (sent_by me sends)
  voter_says me sends one each =
      All-map (SentBy Known Talks) (sent_from me) sends
      (All-weaker (SendInRange Known) (λ s. SentBy Known Talks (sent_from me s))
      (λ s k. record { from = talk me one; to = talk s.0 k.to; voter = λ _. one; conf = k.conf; carries = k.carries; message = k.message }) sends each)

  -- what it answers an observer
  voter_answers : (me q : ℕ) (sends : List (ℕ × Msg)) → Known me → Talks q → All (AnswerTo Known q) sends → All (SentBy Known Talks) (sent_by me sends)
  voter_answers me q sends one talks each =
      All-map (SentBy Known Talks) (sent_from me) sends
      (All-weaker (AnswerTo Known q) (λ s. SentBy Known Talks (sent_from me s))
      (λ s k. record { from = talk me one; to = subst Talks (sym k.to) talks; voter = λ _. one; conf = k.conf; carries = k.carries; message = k.message }) sends each)

  -- what an observer asks
  observer_asks : (me : ℕ) (sends : List (ℕ × Msg)) → Talks me → All (SendInRange Known) sends → All (λ (s : ℕ × Msg). is_watching s.1.body ≡ true) sends → All (SentBy Known Talks) (sent_by me sends)
  observer_asks me sends talks each watching =
      All-map (SentBy Known Talks) (sent_from me) sends (λ i d within. asks (get_or sends i d) (each i d within) (watching i d within))
    where
      asks : (s : ℕ × Msg) → SendInRange Known s → is_watching s.1.body ≡ true → SentBy Known Talks (sent_from me s)
      asks s k w = record { from = talks; to = talk s.0 k.to; voter = λ h. absurd (false≢true (sym h ∙ w)); conf = k.conf; carries = k.carries; message = k.message }

  -- a node's step at an input in range
  voted : (n : Node) (x : Input) → NodeInRange Known n → InputInRange Known x → StepKept Votes n (step_plan n.pid n.state x)
  voted n x one fit =
      let p : Planned = step_plan n.pid n.state x in
      let plan = steps_stay Known ids n.pid one.pid n.state one.state x fit in
      let named = steps_name Known ids n.pid one.pid n.state one.state x fit one.named in
      record {
        node = record { pid = one.pid; state = plan.after; named = named; status = one.status };
        sent = voter_says n.pid p.sends one.pid plan.sends;
        left = (plan.after.durable, named);
      }

  -- its step at what an observer asks
  asked : (n : Node) (q c : ℕ) (b : Body) → NodeInRange Known n → Talks q → c ≤ last_conf → BodyInRange Known b → is_watching b ≡ true
      → StepKept Votes n (step_plan n.pid n.state (input.Deliver q (record { conf = c; body = b })))
  asked n q c (body.Watch w) one talks small fit e =
      let told : List (ℕ × Msg) = watch_answers n.state.durable q c (body.Watch w) in
      let plan = watched_in Known n.pid n.state one.state q c w in
      subst (StepKept Votes n) (sym (watched_is Known n.pid n.state q c w))
      (record {
        node = record { pid = one.pid; state = plan.after; named = one.named; status = one.status };
        sent = voter_answers n.pid q told one.pid talks (answers_to Known q n.state.durable c (body.Watch w) one.state.durable small fit);
        left = (plan.after.durable, one.named);
      })
  asked n q c _ one talks small fit e = absurd (false≢true e)

  step_kept : (k : Kind) (n : Node) (x : Input) → ServerIn k n → CameBy Known Talks x → StepKept k n (plan_as k n.pid n.state x)
  step_kept Votes n (input.Deliver q m) one came = by (is_watching m.body) refl
    where
      by : (b : Bool) → is_watching m.body ≡ b → StepKept Votes n (step_plan n.pid n.state (input.Deliver q m))
      by true e = asked n q m.conf m.body one came.0 came.2.conf came.2.body e
      by false e = voted n (input.Deliver q m) one (came.1 e, came.2)
  step_kept Votes n input.Tick one came = voted n input.Tick one came
  step_kept Votes n (input.Commands cs) one came = voted n (input.Commands cs) one came
  step_kept Votes n (input.Stop members) one came = voted n (input.Stop members) one came
  step_kept Votes n input.TrimNow one came = voted n input.TrimNow one came
  step_kept Votes n (input.Read r) one came = voted n (input.Read r) one came
  step_kept Votes n (input.Up q) one came = voted n (input.Up q) one came
  step_kept Votes n (input.Down q) one came = voted n (input.Down q) one came
  step_kept Observes n x one came =
      let p : Planned = watch_plan n.pid n.state x in
      let plan = observer_came Known ids n.pid n.state one.state x (watch_came Known Talks x came) in
      record {
        node = record { pid = one.pid; state = plan.after; status = one.status };
        sent = observer_asks n.pid p.sends one.pid plan.sends (asks_watching n.pid n.state x);
        left = plan.after.durable;
      }

  -- what an opening does; of who waits nothing is asked
  record OpeningKept (k : Kind) (n : Node) (found : Durable) : Type 0 where
    restarted : ServerIn k (record n { state = state_after_restart n.pid found; status = Up })
    reopened : ServerIn k (record n { state = state_after_reopening n.pid n.state found; status = Up })
    sent : All (SentBy Known Talks) (sent_by n.pid (sends_as k n.pid found))

  opening_kept : (k : Kind) (n : Node) (found : Durable) → ServerIn k n → FoundIn k n.pid found → OpeningKept k n found
  opening_kept Votes n found one d =
      let o = openings_stay Known ids n.pid one.pid found d.0 in
      let s = o.state in
      let sends : List (ℕ × Msg) = sends_after_restart n.pid found in
      record {
        restarted = record { pid = one.pid; state = s; named = d.1; status = tt };
        reopened = record { pid = one.pid; state = record { durable = s.durable; volatile = s.volatile; stops = s.stops; service = s.service; order = s.order; reads = s.reads }; named = d.1; status = tt };
        sent = voter_says n.pid sends one.pid o.sends;
      }
  opening_kept Observes n found one d =
      let s = observer_openings_stay Known ids n.pid found d in
      record {
        restarted = record { pid = one.pid; state = s; status = tt };
        reopened = record { pid = one.pid; state = record { durable = s.durable; pieces = s.pieces; service = s.service; order = s.order }; status = tt };
        sent = All-nil (SentBy Known Talks);
      }

  -- ---- worlds

  put : (k : Kind) (w : World) (n : Node) → InWorld w → ServerIn k n → InWorld (world_with_as k w n)
  put Votes w n fit one = record { nodes = nodes_with (NodeInRange Known) w.nodes n fit.nodes one; observers = fit.observers; members = fit.members; messages = fit.messages }
  put Observes w n fit one = record { nodes = fit.nodes; observers = nodes_with (ObserverBy Known Talks) w.observers n fit.observers one; members = fit.members; messages = fit.messages }

  -- what is told doesn't matter
  telling : (w : World) (lines : List Line) → InWorld w → InWorld (record w { lines = lines })
  telling w lines fit = record { nodes = fit.nodes; observers = fit.observers; members = fit.members; messages = fit.messages }

  having_sent : (w : World) (ms : List Sent) → InWorld w → All (SentBy Known Talks) ms → InWorld (record w { messages = ms })
  having_sent w ms fit sent = record { nodes = fit.nodes; observers = fit.observers; members = fit.members; messages = sent }

  telling_more : (w : World) (sent : List Sent) (lines : List Line) → InWorld w → All (SentBy Known Talks) sent → InWorld (world_telling_more w sent lines)
  telling_more w sent lines fit each = telling (record w { messages = w.messages ++ sent }) (w.lines ++ lines) (having_sent w (w.messages ++ sent) fit (All-append (SentBy Known Talks) w.messages sent fit.messages each))

  module _ (k : Kind) where
    restatused : (w : World) (n : Node) (s : NodeStatus) → InWorld w → ServerIn k n → StatusIn k n.pid s → InWorld (world_with_as k w (record n { status = s }))
    restatused w n s fit one is = put k w (record n { status = s }) fit (with_status k n s one is)

    by_fate : (f : Fate) (at : ℕ) (w : World) (n : Node) (x : Input) → InWorld w → ServerIn k n → CameBy Known Talks x → InWorld (world_by_fate_as k f at w n x)
    by_fate Done at w n x fit one came =
        let step = step_kept k n x one came in
        telling_more (world_with_as k w (record n { state = state_after n.state (plan_as k n.pid n.state x) })) _ _ (put k w (record n { state = state_after n.state (plan_as k n.pid n.state x) }) fit step.node) step.sent
    by_fate Stopped at w n x fit one came = restatused w n (Down (stored_as k n x)) fit one (step_kept k n x one came).left
    by_fate (Faulted count) at w n x fit one came =
        telling (world_with_as k w (record n { status = Failed count (stored_as k n x) })) _ (restatused w n (Failed count (stored_as k n x)) fit one (step_kept k n x one came).left)

    if_up : (d : Doing) (f : Fate) (at : ℕ) (w : World) (n : Node) → InWorld w → ServerIn k n → ComesBy Known Talks d → InWorld (world_if_up_as k d f at w n)
    if_up (Steps x) f at w n fit one came = by_fate f at w n x fit one came
    if_up Stops f at w n fit one came = restatused w n (Down n.state.durable) fit one (now_found k n one)
    if_up Opens f at w n fit one came = fit
    if_up (Tells told) f at w n fit one came = telling w _ fit

    opening : (f : Fate) (w : World) (n : Node) (found : Durable) → InWorld w → ServerIn k n → FoundIn k n.pid found → InWorld (world_opening_as k f w n found)
    opening Done w n found fit one d =
        let o = opening_kept k n found one d in
        let m : Node = record n { state = state_after_restart n.pid found; status = Up } in
        having_sent (world_with_as k w m) _ (put k w m fit o.restarted) (All-append (SentBy Known Talks) w.messages (sent_by n.pid (sends_as k n.pid found)) fit.messages o.sent)
    opening Stopped w n found fit one d = fit
    opening (Faulted count) w n found fit one d = fit

    reopening : (f : Fate) (after : Durable) (w : World) (n : Node) (found : Durable) → InWorld w → ServerIn k n → FoundIn k n.pid after → FoundIn k n.pid found → InWorld (world_reopening_as k f after w n found)
    reopening Done after w n found fit one next d =
        let o = opening_kept k n found one d in
        let m : Node = record n { state = state_after_reopening n.pid n.state found; status = Up } in
        having_sent (world_with_as k w m) _ (put k w m fit o.reopened) (All-append (SentBy Known Talks) w.messages (sent_by n.pid (sends_as k n.pid found)) fit.messages o.sent)
    reopening Stopped after w n found fit one next d = restatused w n (Down after) fit one next
    reopening (Faulted count) after w n found fit one next d = restatused w n (Failed count after) fit one next

    -- either state that is found is in range
    found_in : (finds_after : Bool) (after : Durable) (n : Node) → ServerIn k n → FoundIn k n.pid after → FoundIn k n.pid (cond finds_after after n.state.durable)
    found_in finds_after after n one next = cond_both finds_after after n.state.durable (FoundIn k n.pid) (λ _. next) (λ _. now_found k n one)

    if_down : (d : Doing) (f : Fate) (finds_after : Bool) (after : Durable) (w : World) (n : Node) → InWorld w → ServerIn k n → FoundIn k n.pid after → InWorld (world_if_down_as k d f finds_after after w n)
    if_down (Steps x) f finds_after after w n fit one next = fit
    if_down Stops f finds_after after w n fit one next = fit
    if_down Opens f finds_after after w n fit one next = opening f w n (cond finds_after after n.state.durable) fit one (found_in finds_after after n one next)
    if_down (Tells told) f finds_after after w n fit one next = fit

    if_failed : (d : Doing) (h : Happening) (count : ℕ) (after : Durable) (w : World) (n : Node) → InWorld w → ServerIn k n → FoundIn k n.pid after → InWorld (world_if_failed_as k d h count after w n)
    if_failed (Steps x) h count after w n fit one next = telling w _ fit
    if_failed Stops h count after w n fit one next = restatused w n (Down after) fit one next
    if_failed Opens h count after w n fit one next = reopening h.fate after w n (cond h.finds_after after n.state.durable) fit one next (found_in h.finds_after after n one next)
    if_failed (Tells told) h count after w n fit one next = telling w _ fit

    by_status : (s : NodeStatus) (d : Doing) (h : Happening) (w : World) (n : Node) → InWorld w → ServerIn k n → StatusIn k n.pid s → ComesBy Known Talks d → InWorld (world_by_status_as k s d h w n)
    by_status Up d h w n fit one found came = if_up d h.fate h.event.line w n fit one came
    by_status (Down after) d h w n fit one found came = if_down d h.fate h.finds_after after w n fit one found
    by_status (Failed count after) d h w n fit one found came = if_failed d h count after w n fit one found

  -- ---- happenings

  delivery_in : (o : Option Sent) → IfSome o (SentBy Known Talks) → IfSome (delivery o) (DeedBy Known Talks)
  delivery_in None k = tt
  delivery_in (Some m) k = (k.from, k.voter, k.message)

  deed_in : (ms : List Sent) (w : What) → All (SentBy Known Talks) ms → WhatInRange w → WhatNames Known Talks w → IfSome (deed_of ms w) (DeedBy Known Talks)
  deed_in ms (what.Tick p) each fit known = tt
  deed_in ms (what.Commands p cs) each fit known = fit.1
  deed_in ms (what.Stop p members) each fit known = record { range = fit.1; known = known }
  deed_in ms (what.Trim p) each fit known = tt
  deed_in ms (what.Read p a) each fit known = fit.1
  deed_in ms (what.Deliver i) each fit known = delivery_in (slice_get ms i) (message_found Known Talks ms i each)
  deed_in ms (what.Up p q) each fit known = fit.1
  deed_in ms (what.Down p q) each fit known = fit.1
  deed_in ms (what.Crash p) each fit known = tt
  deed_in ms (what.CrashAt p call image) each fit known = tt
  deed_in ms (what.Fail p call) each fit known = tt
  deed_in ms (what.Kill p disk) each fit known = tt
  deed_in ms (what.Start p) each fit known = known
  deed_in ms (what.Show p) each fit known = tt
  deed_in ms (what.Ballots p) each fit known = tt

  -- an observer at its first start
  first_observer_in : (members : List ℕ) (pid : ℕ) → MembersOf Known members → Talks pid → ObserverBy Known Talks (first_observer members pid)
  first_observer_in members pid range one =
      record {
        pid = one;
        state = record { durable = member_durable Known ids members range; pieces = tt; service = new_service_in.range; order = new_service_in.order };
        status = tt;
      }

  beginning : (d : Doing) (f : Fate) (pid : ℕ) (w : World) → InWorld w → DoingBy Known Talks pid d → InWorld (world_beginning d f pid w)
  beginning Opens Done pid w fit one =
      record {
        nodes = fit.nodes;
        observers = nodes_more (ObserverBy Known Talks) w.observers (first_observer w.members pid) fit.observers (first_observer_in w.members pid fit.members one);
        members = fit.members;
        messages = fit.messages;
      }
  beginning Opens Stopped pid w fit one = fit
  beginning Opens (Faulted count) pid w fit one = fit
  beginning (Steps x) f pid w fit one = fit
  beginning Stops f pid w fit one = fit
  beginning (Tells told) f pid w fit one = fit

  at_observer : (o : Option Node) (x : Deed) (h : Happening) (w : World) → InWorld w → IfSome o (ObserverBy Known Talks) → DeedBy Known Talks x → InWorld (world_at_observer o x h w)
  at_observer None x h w fit one came = beginning x.doing h.fate x.pid w fit came
  at_observer (Some n) x h w fit one came = by_status Observes n.status x.doing h w n fit one (status_of Observes n one) (comes_of Known Talks x.pid x.doing came)

  observed : (o : Option Deed) (h : Happening) (w : World) → InWorld w → IfSome o (DeedBy Known Talks) → InWorld (world_observed o h w)
  observed None h w fit came = fit
  observed (Some x) h w fit came = at_observer (node_at w.observers x.pid) x h w fit (node_found (ObserverBy Known Talks) w.observers x.pid fit.observers) came

  at_node : (o : Option Node) (d : Doing) (h : Happening) (w : World) → InWorld w → IfSome o (NodeInRange Known) → ComesBy Known Talks d → IfSome (deed_of w.messages h.event.what) (DeedBy Known Talks)
      → InWorld (world_at_node o d h w)
  at_node None d h w fit one came deed =
      let u = observed (deed_of w.messages h.event.what) h w fit deed in
      record { nodes = fit.nodes; observers = u.observers; members = fit.members; messages = u.messages }
  at_node (Some n) d h w fit one came deed = by_status Votes n.status d h w n fit one (status_of Votes n one) came

  with_deed : (o : Option Deed) (h : Happening) (w : World) → InWorld w → IfSome o (DeedBy Known Talks) → IfSome (deed_of w.messages h.event.what) (DeedBy Known Talks) → InWorld (world_with o h w)
  with_deed None h w fit came deed = fit
  with_deed (Some x) h w fit came deed = at_node (node_at w.nodes x.pid) x.doing h w fit (node_found (NodeInRange Known) w.nodes x.pid fit.nodes) (comes_of Known Talks x.pid x.doing came) deed

  -- whatever happens
  happened : (w : World) → InWorld w → (h : Happening) → WhatInRange h.event.what × WhatNames Known Talks h.event.what → InWorld (world_after w h)
  happened w k h fit =
      let deed = deed_in w.messages h.event.what k.messages fit.0 fit.1 in
      with_deed (deed_of w.messages h.event.what) h w k deed deed

  pub run_by : (hs : List Happening) (w : World) → InWorld w → All (λ (h : Happening). WhatInRange h.event.what × WhatNames Known Talks h.event.what) hs → InWorld (run_of w hs)
  run_by [] w k fit = k
  run_by (h ∷ hs) w k fit =
      run_by hs (world_after w h) (happened w k h (All-head (λ (g : Happening). WhatInRange g.event.what × WhatNames Known Talks g.event.what) h hs fit))
      (All-tail (λ (g : Happening). WhatInRange g.event.what × WhatNames Known Talks g.event.what) h hs fit)

-- ---- where all who talk are known

module _ (Known : ℕ → Type 0) where
  by_known : (w : World) → WorldInRange Known w → WorldBy Known Known w
  by_known w k =
      record {
        nodes = k.nodes;
        observers = All-weaker (ObserverInRange Known) (ObserverBy Known Known) (λ n o. record { pid = o.pid; state = o.state; status = o.status }) w.observers k.observers;
        members = k.members;
        messages = All-weaker (SentInRange Known) (SentBy Known Known)
            (λ m s. record { from = s.from; to = s.to; voter = λ _. s.from; conf = s.conf; carries = s.carries; message = s.message }) w.messages k.messages;
      }

  known_by : (w : World) → WorldBy Known Known w → WorldInRange Known w
  known_by w k =
      record {
        nodes = k.nodes;
        observers = All-weaker (ObserverBy Known Known) (ObserverInRange Known) (λ n o. record { pid = o.pid; state = o.state; status = o.status }) w.observers k.observers;
        members = k.members;
        messages = All-weaker (SentBy Known Known) (SentInRange Known) (λ m s. record { from = s.from; to = s.to; conf = s.conf; carries = s.carries; message = s.message }) w.messages k.messages;
      }

pub happenings_stay : (Known : ℕ → Type 0) → HappeningsStayInRange Known
happenings_stay Known ids w k h fit = known_by Known (world_after w h) (happened Known Known ids (λ q one. one) w (by_known Known w k) h fit)

pub runs_stay : (Known : ℕ → Type 0) → RunsStayInRange Known
runs_stay Known ids members spares k hs fit =
    known_by Known (run_of (first_world members spares) hs)
    (run_by Known Known ids (λ q one. one) hs (first_world members spares) (by_known Known (first_world members spares) (starts_in Known ids members spares k)) fit)
