-- The step of a leader that is a majority alone, at which commands or a stop-sign come: it decides them, and nothing else.
use Rattle.std.proofs.Common.{◌≡◌, ◌≤◌, ◌==◌, ℕ, zero, suc, ◌+◌, ◌-◌, Bool, true, false, cond, ltb, leb, nat_eq, is_some, map, List, [], ◌∷◌, ◌++◌, length, take, drop, Option, Some, None, refl, sym, ap, ap₂, subst, ◌∙◌, arith, length-append, length-take, drop_of_length-le, take_all, append-nil}
use Rattle.std.specs.Set.{is_member}
use Rattle.std.proofs.lemmas.Bool.{cond_both, le-leb, lt-ltb, ltb-false}
use Rattle.std.proofs.lemmas.List.{drop_at}
use Rattle.op_quorum.specs.Quorums.{is_majority, passing}
use Rattle.op_types.specs.Changes.{len_of, part_with, part_option_with, decided_tail, closed_by, part_after_closed, durable_closing, durable_after}
use Rattle.op_types.specs.Effects.{Effects}
use Rattle.op_types.specs.RoleStates.{Leading, acknowledged_of}
use Rattle.op_types.specs.Roles.{Role}
use Rattle.op_types.specs.Roles as role
use Rattle.op_types.specs.Stops.{stop_at_end, named_by}
use Rattle.op_types.specs.declared.answers.Cause.TheVariants as cause
use Rattle.op_types.specs.declared.answers.Outcome.{Outcome}
use Rattle.op_types.specs.declared.answers.Outcome.TheVariants as outcome
use Rattle.op_types.specs.declared.answers.Refusal.{Refusal}
use Rattle.op_types.specs.declared.answers.Reply.{Reply}
use Rattle.op_types.specs.declared.changes.Change.{Change}
use Rattle.op_types.specs.declared.changes.Change.TheVariants as change
use Rattle.op_types.specs.declared.durable.Closed.{Closed}
use Rattle.op_types.specs.declared.durable.Durable.{Durable}
use Rattle.op_types.specs.declared.durable.Part.{Part}
use Rattle.op_types.specs.declared.events.Input.{Input}
use Rattle.op_types.specs.declared.events.Input.TheVariants as input
use Rattle.op_types.specs.declared.log.Command.{Command}
use Rattle.op_types.specs.declared.log.Entry.{Entry}
use Rattle.op_types.specs.declared.log.Entry.TheVariants as entry
use Rattle.op_types.specs.declared.role.Acknowledged.{Acknowledged}
use Rattle.op_runs.specs.declared.summary.Line.{Line}
use Rattle.op_runs.specs.declared.summary.Line.TheVariants as line
use Rattle.op_spec.specs.Service.{base_bytes}
use Rattle.op_protocol.specs.State.{State, Waiting, PartStep, with_effects, Planned, state_after}
use Rattle.op_protocol.specs.Serving.{serving, dropping}
use Rattle.op_protocol.specs.Parts.{part_after, decided_since, saying}
use Rattle.op_protocol.specs.Leader.{backed, length_at, counted, count, decides, propose, given_up_by}
use Rattle.op_protocol.specs.Configurations.{latest_in, latest_of, closing_part, closing}
use Rattle.op_protocol.specs.Reading.{leads_on, adopted_of, decided_of, answered_of, asked_of, read_reply, dropped_read, why_given_up}
use Rattle.op_protocol.specs.Rows.{entries_of, stop_for, refusal_of, proposal_at, waiting_each, waiting_for, waiting_at, newly_decided, based, based_batch, planned, plan_of, step_at, step_bringing, table_plan, step_plan}
use Rattle.op_protocol.proofs.Plans.{after_both}
use Rattle.op_runs.specs.World.{World, Node, NodeStatus, Happening, Steps, Deed, Fate, Done, deed_of, node_at, world_after, world_by_fate, world_by_status, world_at_node, world_with, outcome_lines}
use Rattle.op_runs.specs.Run.{Execution, execution_with}
use Rattle.op_paxos.proofs.CountedLengths.{many_is}
use Rattle.op_refinement.proofs.NodeLists.{node_at-here}
use Rattle.op_laws.specs.Proposals.{Proposal, entries_for}
use Rattle.op_laws.specs.Proposals as proposed
use Rattle.op_laws.specs.Alone.{TakesAlone, HasClosed}
use Rattle.op_laws.proofs.Proposals.{input_of, deed_is, step_is, brings_nothing}
use Rattle.op_types.proofs.Order.{is_same}
use Rattle.op_laws.proofs.Adoptions.{last_end}
use Rattle.op_laws.proofs.ReplyLines.{line_of}
use Rattle.op_laws.proofs.TriedReads.{AreTried, tells_of_none}

nothing_between : (n : ℕ) (xs : List Entry) → drop n (take n xs) ≡ []
nothing_between n xs = drop_of_length-le (take n xs) (omega (arith, length-take n xs))

-- ---- a leader that is a majority alone counts its whole log
backed_whole : (has : ℕ → ℕ) (members : List ℕ) (n : ℕ) → is_majority (passing (λ q. leb n (has q)) members) (length members) ≡ true → backed has members n ≡ n
backed_whole has members zero h = refl
backed_whole has members (suc n) h = ap (λ (b : Bool). cond b (suc n) (backed has members n)) h

counted_whole : (me : ℕ) (members : List ℕ) (n : ℕ) (acks : List Acknowledged) → is_majority (passing (λ q. q == me) members) (length members) ≡ true → counted me members n acks ≡ n
counted_whole me members n acks many =
    backed_whole (length_at me n acks) members n
    (many_is members (λ q. q == me) (λ q. leb n (length_at me n acks q)) (λ q e. ap (λ (b : Bool). leb n (cond b n (acknowledged_of acks q))) e ∙ le-leb n n (omega arith)) many)

-- ---- the whole step
-- commands are no stop-sign
no_stop : (cs : List Command) → is_some (stop_at_end (entries_of cs)) ≡ false
no_stop [] = refl
no_stop (c ∷ []) = refl
no_stop (c ∷ (d ∷ cs)) = no_stop (d ∷ cs)

-- the line of a read's answer
abbrev read_line : ℕ → Reply → Line
read_line pid r = line.Read pid r.client r.seq r.answer

-- a leader of the same ballot leads on
leads_again : (r q : Role) (l : Leading) → r ≡ role.Leading l → q ≡ role.Leading l → leads_on r q ≡ true
leads_again r q l was is = ap₂ leads_on was is ∙ is_same l.ballot l.ballot refl

module _ (t : Execution) (h : Happening) (proposal : Proposal) (x : TakesAlone t h proposal) (lead : Leading) (was : x.node.state.volatile.role ≡ role.Leading lead) (whole : x.part.decided ≡ len_of x.part) where
  abbrev n : Node
  n = x.node

  abbrev s : State
  s = x.node.state

  abbrev p : Part
  p = x.part

  abbrev l : Leading
  l = lead

  abbrev es : List Entry
  es = entries_for x.node proposal

  abbrev z : Input
  z = input_of proposal

  abbrev ws : Waiting
  ws = waiting_at n.pid s z

  -- how long the log then is
  abbrev len : ℕ
  len = len_of p + length es

  -- what its row does
  abbrev pub row : PartStep
  row = with_effects s.volatile (propose n.pid p (role.Leading l) es)

  row_is : step_at n.pid s.durable s.volatile z ≡ row
  row_is =
      step_is n.pid s.durable s.volatile proposal ∙ ap (λ (o : Option Refusal). proposal_at n.pid s.durable.part s.volatile es o) x.free
      ∙ ap (λ (o : Option Part). proposal_at n.pid o s.volatile es None) x.has ∙ ap (λ (r : Role). with_effects s.volatile (propose n.pid p r es)) was

  abbrev pub pl : Planned
  pl = planned s ws row

  plan_is : table_plan n.pid s z ≡ closing n.pid s.durable.part pl
  plan_is = ap (step_bringing n.pid s z) (brings_nothing s.durable s.volatile proposal) ∙ ap (plan_of n.pid s ws) row_is

  no_replies : row.replies ≡ []
  no_replies = cond_both (ltb p.decided (counted n.pid p.members len l.acknowledged)) _ _ (λ (e : Effects). e.replies ≡ []) (λ _. refl) (λ _. refl)

  pub served : pl.replies ≡ (serving s.service ws (newly_decided s.durable.part row.batch)).replies ++ []
  served = ap (λ (rs : List Reply). (serving s.service (dropping ws rs).waiting (newly_decided s.durable.part row.batch)).replies ++ (dropping ws rs).replies) no_replies

  pub all_counted : counted n.pid p.members len l.acknowledged ≡ len
  all_counted = counted_whole n.pid p.members len l.acknowledged x.majority

  -- what comes is decided then, and nothing else newly
  pub newly : newly_decided s.durable.part row.batch ≡ es
  newly =
      let is : count n.pid p len l [] ≡ cond (ltb p.decided len) (decides n.pid p l len) (saying (role.Leading l) []) =
      ap (λ (k : ℕ). cond (ltb p.decided k) (decides n.pid p l k) (saying (role.Leading l) [])) all_counted in
      let items : take (len - p.trimmed) (p.tail.items ++ es) ≡ p.tail.items ++ es = take_all (len - p.trimmed) (p.tail.items ++ es) (omega (arith, length-append p.tail.items es)) in
      let old : p.decided - p.trimmed ≡ length p.tail.items = omega (arith, whole) in
      let log : drop (p.decided - p.trimmed) (p.tail.items ++ es) ≡ es = ap (λ (k : ℕ). drop k (p.tail.items ++ es)) old ∙ drop_at p.tail.items es (length p.tail.items) refl in
      ap (λ (o : Option Part). newly_decided o row.batch) x.has ∙ ap (λ (e : Effects). decided_since p (part_after p (change.Append es ∷ e.batch))) is
      ∙ cond_both (ltb p.decided len) (decides n.pid p l len) (saying (role.Leading l) []) (λ (e : Effects). decided_since p (part_after p (change.Append es ∷ e.batch)) ≡ es)
      (λ _. ap (drop (p.decided - p.trimmed)) items ∙ log)
      (λ full. nothing_between (p.decided - p.trimmed) (p.tail.items ++ es)
      ∙ sym (drop_of_length-le (p.tail.items ++ es) (omega (arith, ltb-false p.decided len full, whole, length-append p.tail.items es))) ∙ log)

  pub leads : pl.volatile.role ≡ role.Leading l
  leads = cond_both (ltb p.decided (counted n.pid p.members len l.acknowledged)) _ _ (λ (e : Effects). e.role ≡ role.Leading l) (λ _. refl) (λ _. refl)

  -- ---- what is stored
  pub batch_is : pl.batch ≡ row.batch
  batch_is =
      ap (λ (o : Option Part). based_batch o row.batch) x.has
      ∙ cond_both (ltb p.decided (counted n.pid p.members len l.acknowledged)) _ _ (λ (e : Effects). map (based p) (change.Append es ∷ e.batch) ≡ change.Append es ∷ e.batch) (λ _. refl) (λ _. refl)

  -- the part closes by what comes
  pub ends_by : is_some (stop_at_end (decided_since p (part_after p pl.batch))) ≡ is_some (stop_at_end es)
  ends_by =
      ap (λ (bs : List Change). is_some (stop_at_end (decided_since p (part_after p bs)))) batch_is
      ∙ ap (λ (o : List Entry). is_some (stop_at_end o)) (sym (ap (λ (o : Option Part). newly_decided o row.batch) x.has) ∙ newly)

  pub closing_is : table_plan n.pid s z ≡ cond (is_some (stop_at_end es)) (closing_part n.pid (part_after p pl.batch) pl) pl
  closing_is = plan_is ∙ ap (λ (o : Option Part). closing n.pid o pl) x.has ∙ ap (λ (b : Bool). cond b (closing_part n.pid (part_after p pl.batch) pl) pl) ends_by

  abbrev pub plan : Planned
  plan = step_plan n.pid s z

  -- the part then
  abbrev pub q : Part
  q = part_after p row.batch

  pub part_by : (durable_after s.durable row.batch).part ≡ Some q
  part_by =
      cond_both (ltb p.decided (counted n.pid p.members len l.acknowledged)) _ _ (λ (e : Effects). (durable_after s.durable (change.Append es ∷ e.batch)).part ≡ Some (part_after p (change.Append es ∷ e.batch)))
      (λ _. ap (λ (o : Option Part). part_option_with (part_option_with o (change.Append es)) (change.Decided (counted n.pid p.members len l.acknowledged))) x.has) (λ _. ap (λ (o : Option Part). part_option_with o (change.Append es)) x.has)

  pub grown : (q.conf ≡ p.conf) × (q.members ≡ p.members) × (q.trimmed ≡ p.trimmed) × (q.tail.items ≡ p.tail.items ++ es)
  grown =
      cond_both (ltb p.decided (counted n.pid p.members len l.acknowledged)) _ _
      (λ (e : Effects). let y : Part = part_after p (change.Append es ∷ e.batch) in (y.conf ≡ p.conf) × (y.members ≡ p.members) × (y.trimmed ≡ p.trimmed) × (y.tail.items ≡ p.tail.items ++ es)) (λ _. (refl, refl, refl, refl)) (λ _. (refl, refl, refl, refl))

  -- ---- the node and the lines
  -- the node after it
  abbrev pub m : Node
  m = record n { state = state_after s plan }

  deed : deed_of t.world.messages h.event.what ≡ Some (record { pid = n.pid; doing = Steps z })
  deed = ap (deed_of t.world.messages) x.comes ∙ deed_is t.world.messages n.pid proposal

  world_is : world_after t.world h ≡ world_by_fate Done h.event.line t.world n z
  world_is =
      ap (λ (o : Option Deed). world_with o h t.world) deed ∙ ap (λ (o : Option Node). world_at_node o (Steps z) h t.world) x.is
      ∙ ap (λ (q : NodeStatus). world_by_status q (Steps z) h t.world n) x.up ∙ ap (λ (f : Fate). world_by_fate f h.event.line t.world n z) x.done

  pub there : node_at (world_after t.world h).nodes n.pid ≡ Some m
  there = ap (λ (w : World). node_at w.nodes n.pid) world_is ∙ node_at-here t.world.nodes m n x.is

  abbrev pub told_lines : List Line
  told_lines = map (line_of n.pid) plan.replies

  -- they are the outcome and the replies, where no read is told of
  pub lines_by : plan.outcome ≡ Some (outcome.Appended p.conf (len_of p)) → plan.read_replies ≡ []
      → (execution_with t h).world.lines ≡ t.world.lines ++ line.Answer h.event.line (outcome.Appended p.conf (len_of p)) ∷ told_lines
  lines_by outcome_is untold =
      ap (λ (w : World). w.lines) world_is
      ∙ ap₂ (λ (o : Option Outcome) (rs : List Reply). t.world.lines ++ ((outcome_lines h.event.line o ++ told_lines) ++ map (read_line n.pid) rs)) outcome_is untold
      ∙ ap (λ (ls : List Line). t.world.lines ++ line.Answer h.event.line (outcome.Appended p.conf (len_of p)) ∷ ls) (append-nil told_lines)

-- ---- commands
module _ (t : Execution) (h : Happening) (commands : List Command) (x : TakesAlone t h (proposed.Commands commands)) (lead : Leading) (was : x.node.state.volatile.role ≡ role.Leading lead) (whole : x.part.decided ≡ len_of x.part) where
  abbrev of_commands : Proposal
  of_commands = proposed.Commands commands

  abbrev s0 : State
  s0 = x.node.state

  abbrev z0 : Input
  z0 = input.Commands commands

  abbrev plan0 : Planned
  plan0 = step_plan x.node.pid s0 z0

  is_open : table_plan x.node.pid s0 z0 ≡ pl t h of_commands x lead was whole
  is_open =
      closing_is t h of_commands x lead was whole
      ∙ ap (λ (b : Bool). cond b (closing_part x.node.pid (part_after x.part (pl t h of_commands x lead was whole).batch) (pl t h of_commands x lead was whole)) (pl t h of_commands x lead was whole)) (no_stop commands)

  pub part_then : (durable_after s0.durable plan0.batch).part ≡ Some (q t h of_commands x lead was whole)
  part_then =
      ap (λ (y : Planned). (durable_after s0.durable y.batch).part) is_open ∙ ap (λ (bs : List Change). (durable_after s0.durable bs).part) (batch_is t h of_commands x lead was whole)
      ∙ part_by t h of_commands x lead was whole

  pub leads_then : plan0.volatile.role ≡ role.Leading lead
  leads_then = ap (λ (y : Planned). y.volatile.role) is_open ∙ leads t h of_commands x lead was whole

  outcome_is : plan0.outcome ≡ Some (outcome.Appended x.part.conf (len_of x.part))
  outcome_is = ap (λ (y : Planned). y.outcome) is_open

  -- no read is answered: those that may be were answered before
  untold : lead.adopted_len ≤ x.part.decided → AreTried s0 → plan0.read_replies ≡ []
  untold low tried =
      let low_here : adopted_of s0.volatile.role ≤ decided_of s0.durable.part = omega (arith, low, ap adopted_of was, ap decided_of x.has) in
      tells_of_none x.node.pid s0 z0 (table_plan x.node.pid s0 z0) tried refl (leads_again s0.volatile.role plan0.volatile.role lead was leads_then) (ap adopted_of leads_then ∙ sym (ap adopted_of was)) low_here

  pub lines_are : lead.adopted_len ≤ x.part.decided → AreTried s0
      → (execution_with t h).world.lines ≡ t.world.lines ++ line.Answer h.event.line (outcome.Appended x.part.conf (len_of x.part)) ∷ map (line_of x.node.pid) plan0.replies
  lines_are low tried = lines_by t h of_commands x lead was whole outcome_is (untold low tried)

  pub replies_are : plan0.replies ≡ (serving s0.service (waiting_each s0.waiting commands) (entries_of commands)).replies
  replies_are =
      let ws0 : Waiting = waiting_for s0.waiting commands (refusal_of x.node.pid s0.volatile.role s0.durable (entries_of commands)) in
      ap (λ (y : Planned). y.replies) is_open ∙ served t h of_commands x lead was whole
      ∙ append-nil (serving s0.service ws0 (newly_decided s0.durable.part (row t h of_commands x lead was whole).batch)).replies
      ∙ ap (λ (l : List Entry). (serving s0.service ws0 l).replies) (newly t h of_commands x lead was whole)
      ∙ ap (λ (o : Option Refusal). (serving s0.service (waiting_for s0.waiting commands o) (entries_of commands)).replies) x.free

-- ---- a stop-sign
members_named : (p : Option Part) (members : List ℕ) → (stop_for p members).members ≡ members
members_named None members = refl
members_named (Some p) members = refl

latest_named : (named : Bool) (l : Closed) (base : List ℕ) → latest_in (part_after_closed l named base) (Some l) ≡ l.conf + 1
latest_named true l base = refl
latest_named false l base = refl

module _ (t : Execution) (h : Happening) (members : List ℕ) (x : TakesAlone t h (proposed.Stop members)) (lead : Leading) (was : x.node.state.volatile.role ≡ role.Leading lead) (whole : x.part.decided ≡ len_of x.part) where
  abbrev of_stop : Proposal
  of_stop = proposed.Stop members

  abbrev s1 : State
  s1 = x.node.state

  abbrev p1 : Part
  p1 = x.part

  abbrev z1 : Input
  z1 = input.Stop members

  abbrev sign : Entry
  sign = entry.Stop (stop_for s1.durable.part members)

  abbrev plan1 : Planned
  plan1 = step_plan x.node.pid s1 z1

  abbrev pl1 : Planned
  pl1 = pl t h of_stop x lead was whole

  abbrev closed : Planned
  closed = closing_part x.node.pid (part_after p1 pl1.batch) pl1

  is_closed : table_plan x.node.pid s1 z1 ≡ closed
  is_closed = closing_is t h of_stop x lead was whole

  outcome_then : plan1.outcome ≡ Some (outcome.Appended p1.conf (len_of p1))
  outcome_then = ap (λ (y : Planned). y.outcome) is_closed

  -- nobody waits for it, and a leader buffers nothing
  nobody_told : plan1.replies ≡ []
  nobody_told =
      ap (λ (y : Planned). y.replies) is_closed
      ∙ ap₂ (λ (rs : List Reply) (r : Role). rs ++ (dropping pl1.waiting (given_up_by r (cause.Stop ((part_after p1 pl1.batch).decided - 1)))).replies)
      (served t h of_stop x lead was whole ∙ ap (λ (es : List Entry). (serving s1.service s1.waiting es).replies ++ []) (newly t h of_stop x lead was whole)) (leads t h of_stop x lead was whole)

  -- where no read waits, none is given up
  none_given_up : asked_of s1.reads ≡ [] → plan1.read_replies ≡ []
  none_given_up none =
      let y : Planned = table_plan x.node.pid s1 z1 in
      let idle : leads_on s1.volatile.role y.volatile.role ≡ false = ap (λ (r : Planned). leads_on s1.volatile.role r.volatile.role) is_closed ∙ ap (λ (r : Role). leads_on r role.Idle) was in
      ap (λ (b : Bool). map (read_reply y.service) (cond b (answered_of s1.reads (decided_of (durable_after s1.durable y.batch).part) (adopted_of y.volatile.role)) [])
      ++ cond b [] (map (dropped_read (why_given_up (latest_of s1.durable) (durable_after s1.durable y.batch).part (durable_after s1.durable y.batch).closed)) (asked_of s1.reads))) idle
      ∙ ap (map (dropped_read (why_given_up (latest_of s1.durable) (durable_after s1.durable y.batch).part (durable_after s1.durable y.batch).closed))) none

  pub stop_lines : asked_of s1.reads ≡ [] → (execution_with t h).world.lines ≡ t.world.lines ++ line.Answer h.event.line (outcome.Appended p1.conf (len_of p1)) ∷ []
  stop_lines none =
      lines_by t h of_stop x lead was whole outcome_then (none_given_up none)
      ∙ ap (λ (rs : List Reply). t.world.lines ++ line.Answer h.event.line (outcome.Appended p1.conf (len_of p1)) ∷ map (line_of x.node.pid) rs) nobody_told

  -- ---- what is stored
  abbrev q1 : Part
  q1 = part_after p1 pl1.batch

  -- all of the log is decided then
  exact : q1 ≡ record (part_with p1 (change.Append (sign ∷ []))) { decided = len_of p1 + 1 }
  exact =
      let n : ℕ = len_of p1 + 1 in
      let c : ℕ = counted x.node.pid p1.members n lead.acknowledged in
      let less : ltb p1.decided n ≡ true = lt-ltb p1.decided n (omega (arith, whole)) in
      ap (part_after p1) (batch_is t h of_stop x lead was whole)
      ∙ ap (λ (k : ℕ). part_after p1 (change.Append (sign ∷ []) ∷ (cond (ltb p1.decided k) (decides x.node.pid p1 lead k) (saying (role.Leading lead) [])).batch)) (all_counted t h of_stop x lead was whole)
      ∙ ap (λ (b : Bool). part_after p1 (change.Append (sign ∷ []) ∷ (cond b (decides x.node.pid p1 lead n) (saying (role.Leading lead) [])).batch)) less

  whole_tail : decided_tail q1 ≡ p1.tail.items ++ sign ∷ []
  whole_tail = ap decided_tail exact ∙ take_all (len_of p1 + 1 - p1.trimmed) (p1.tail.items ++ sign ∷ []) (omega (arith, length-append p1.tail.items (sign ∷ [])))

  pub has_closed : HasClosed p1 members (node_at (world_after t.world h).nodes x.node.pid)
  has_closed =
      let named : Bool = is_member nat_eq (closed_by q1).next x.node.pid in
      let base : List ℕ = base_bytes pl1.service in
      let d1 : Durable = durable_after s1.durable pl1.batch in
      let d : Durable = durable_after s1.durable plan1.batch in
      let part : d1.part ≡ Some q1 =
      ap (λ (bs : List Change). (durable_after s1.durable bs).part) (batch_is t h of_stop x lead was whole) ∙ part_by t h of_stop x lead was whole
      ∙ ap (λ (bs : List Change). Some (part_after p1 bs)) (sym (batch_is t h of_stop x lead was whole)) in
      let stored : d ≡ record d1 { part = part_after_closed (closed_by q1) named base; closed = Some (closed_by q1) } =
      ap (λ (y : Planned). durable_after s1.durable y.batch) is_closed ∙ after_both s1.durable pl1.batch (change.Close named base ∷ [])
      ∙ ap (λ (o : Option Part). durable_closing o d1 named base) part in
      let conf : q1.conf ≡ p1.conf = ap (λ (y : Part). y.conf) exact in
      let trimmed : q1.trimmed ≡ p1.trimmed = ap (λ (y : Part). y.trimmed) exact in
      subst (HasClosed p1 members) (sym (there t h of_stop x lead was whole)) (
        closed_by q1,
        ap (λ (y : Durable). y.closed) stored,
        conf,
        ap (λ (es : List Entry). named_by (stop_at_end es)) whole_tail ∙ ap named_by (last_end p1.tail.items sign) ∙ members_named s1.durable.part members,
        omega (arith, trimmed, ap (λ (es : List Entry). length es) whole_tail, length-append p1.tail.items (sign ∷ [])),
        ap latest_of stored ∙ latest_named named (closed_by q1) base ∙ ap (λ (c : ℕ). c + 1) conf,
      )
