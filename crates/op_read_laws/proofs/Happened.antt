-- What a happening does in a world: nothing, a node stops or fails, a step is done, or a node is opened.
use Rattle.std.proofs.Common.{◌≡◌, ℕ, inl, inr, ⊎_elim, Bool, true, false, cond, List, [], ◌∷◌, ◌++◌, map, Option, Some, None, refl, sym, ap, ◌∙◌, subst, slice_get}
use Rattle.std.proofs.lemmas.Bool.{cases_eq, false≢true}
use Rattle.op_types.specs.Roles.{Idle}
use Rattle.op_types.specs.declared.answers.Answer.{Answer}
use Rattle.op_types.specs.declared.answers.Answer.TheVariants as answer
use Rattle.op_types.specs.declared.answers.Outcome.{Outcome}
use Rattle.op_types.specs.declared.answers.Reply.{Reply}
use Rattle.op_types.specs.declared.durable.Part.{Part}
use Rattle.op_types.specs.declared.durable.Durable.{Durable}
use Rattle.op_types.specs.declared.events.Input.{Input}
use Rattle.op_types.specs.declared.events.Input.TheVariants as input
use Rattle.op_types.specs.declared.messages.Msg.{Msg}
use Rattle.op_runs.specs.declared.summary.Line.{Line}
use Rattle.op_runs.specs.declared.summary.Line.TheVariants as line
use Rattle.op_runs.specs.declared.events.What.{What}
use Rattle.op_runs.specs.declared.events.What.TheVariants as what
use Rattle.op_spec.specs.Machine.{IsAmong}
use Rattle.op_spec.specs.Service.{Pairs}
use Rattle.op_protocol.specs.State.{State, Planned, state_after}
use Rattle.op_protocol.specs.Rows.{step_plan}
use Rattle.op_protocol.specs.Watching.{watch_plan}
use Rattle.op_protocol.specs.Starting.{volatile_after_restart, sends_after_restart, state_after_restart}
use Rattle.op_runs.specs.World.{World, Node, NodeStatus, Up, Down, Failed, Sent, Fate, Done, Stopped, Faulted, Happening, Doing, Steps, Stops, Opens, Tells, Deed, delivery, deed_of, Told, ThePairs, TheBallots, node_at, with_node, sent_by, outcome_lines, answer_line, lines_of, pair_lines, told_lines, failed_outcome, state_after_reopening, stored_by, world_by_fate, world_if_up, world_if_down, world_if_failed, world_opening, world_reopening, world_by_status, world_at_node, world_with, world_after, Observes, world_by_fate_as, world_opening_as, world_reopening_as, world_by_status_as, world_beginning, world_at_observer, world_observed}
use Rattle.op_runs.specs.Fresh.{Stepping, stepping_if, stepping_at, stepping_by, stepping}
use Rattle.op_paxos.proofs.Membership.{in_append}
use Rattle.op_refinement.proofs.View.{Each, Each-append}
use Rattle.op_refinement.proofs.NodeLists.{IfThere, found, node_at-other, node_at-here}
use Rattle.op_refinement.proofs.Observing.{AddsAsks, observed_adds, watch_lines}
use Rattle.op_laws.proofs.Elections.{each_unit}

-- ---- lines

-- a line of no read
abbrev IsOther : Line → Type 0
IsOther (line.Read pid client seq a) = ⊥
IsOther _ = Unit {0}

-- what a world tells of reads that an earlier one doesn't: nothing
abbrev pub TellsNoRead : World → World → Type 0
TellsNoRead w u = (pid client seq : ℕ) (a : Answer) → IsAmong u.lines (line.Read pid client seq a) → IsAmong w.lines (line.Read pid client seq a)

none_among : (ls : List Line) (l : Line) → Each IsOther ls → IsAmong ls l → IsOther l
none_among [] l k i = absurd i
none_among (x ∷ ls) l k (inl e) = subst IsOther e k.0
none_among (x ∷ ls) l k (inr i) = none_among ls l k.1 i

-- lines of no reads are added
adds_others : (w u : World) (more : List Line) → u.lines ≡ w.lines ++ more → Each IsOther more → TellsNoRead w u
adds_others w u more e k pid client seq a i =
    let l : Line = line.Read pid client seq a in
    ⊎_elim (λ (x : IsAmong w.lines l). x) (λ (x : IsAmong more l). absurd (none_among more l k x)) (in_append l w.lines more (subst (λ (ls : List Line). IsAmong ls l) e i))

pub outcome_others : (at : ℕ) (o : Option Outcome) → Each IsOther (outcome_lines at o)
outcome_others at None = tt
outcome_others at (Some o) = (tt, tt)

pairs_others : (pid : ℕ) (pairs : Pairs) → Each IsOther (pair_lines pid pairs)
pairs_others pid [] = tt
pairs_others pid (x ∷ pairs) = (tt, pairs_others pid pairs)

told_others : (told : Told) (pid : ℕ) (s : State) (o : Option Part) → Each IsOther (told_lines told pid s o)
told_others told pid s None = tt
told_others ThePairs pid s (Some p) = pairs_others pid s.service.pairs
told_others TheBallots pid s (Some p) = (tt, tt)

answer_other : (pid client seq : ℕ) (a : Answer) → IsOther (answer_line pid client seq a)
answer_other pid client seq answer.Done = tt
answer_other pid client seq (answer.Value v) = tt
answer_other pid client seq answer.Absent = tt
answer_other pid client seq answer.Stale = tt
answer_other pid client seq (answer.Dropped why) = tt

replies_others : (pid : ℕ) (rs : List Reply) → Each IsOther (map (λ r. answer_line pid r.client r.seq r.answer) rs)
replies_others pid [] = tt
replies_others pid (r ∷ rs) = (answer_other pid r.client r.seq r.answer, replies_others pid rs)

-- what a step tells of reads
pub read_among : (at pid : ℕ) (p : Planned) (l : Line) → (IsOther l → ⊥) → IsAmong (lines_of at pid p) l → IsAmong (map (λ r. line.Read pid r.client r.seq r.answer) p.read_replies) l
read_among at pid p l read i =
    let front : List Line = outcome_lines at p.outcome ++ map (λ r. answer_line pid r.client r.seq r.answer) p.replies in
    ⊎_elim
    (λ (x : IsAmong front l). absurd (read (none_among front l (Each-append IsOther (outcome_lines at p.outcome) (map (λ r. answer_line pid r.client r.seq r.answer) p.replies) (outcome_others at p.outcome) (replies_others pid p.replies)) x)))
    (λ (x : IsAmong (map (λ r. line.Read pid r.client r.seq r.answer) p.read_replies) l). x)
    (in_append l front (map (λ r. line.Read pid r.client r.seq r.answer) p.read_replies) i)

-- ---- what a happening does

-- a node runs otherwise: its state stays
pub record Halts (w u : World) : Type 0 where
  pub node : Node
  pub at : node_at w.nodes node.pid ≡ Some node
  pub status : NodeStatus
  pub nodes : u.nodes ≡ with_node w.nodes (record node { status = status })
  pub messages : u.messages ≡ w.messages
  pub lines : TellsNoRead w u

-- a node does a step
pub record Acts (w : World) (o : Option Deed) (y : Option Stepping) (u : World) : Type 0 where
  pub node : Node
  pub input : Input
  pub at : node_at w.nodes node.pid ≡ Some node
  pub deed : o ≡ Some (record { pid = node.pid; doing = Steps input })
  pub steps : y ≡ Some (record { node = node; input = input })
  pub nodes : u.nodes ≡ with_node w.nodes (record node { state = state_after node.state (step_plan node.pid node.state input) })
  pub messages : u.messages ≡ w.messages ++ sent_by node.pid (step_plan node.pid node.state input).sends
  pub line : ℕ
  pub lines : u.lines ≡ w.lines ++ lines_of line node.pid (step_plan node.pid node.state input)

-- a node is opened, and has no reads
pub record Begins (w u : World) : Type 0 where
  pub node : Node
  pub at : node_at w.nodes node.pid ≡ Some node
  pub state : State
  pub none : state.reads ≡ None
  pub idle : state.volatile.role ≡ Idle
  pub nodes : u.nodes ≡ with_node w.nodes (record node { state = state; status = Up })
  pub messages : u.messages ≡ w.messages ++ sent_by node.pid (sends_after_restart node.pid state.durable)
  pub lines : TellsNoRead w u

pub data Happened (w : World) (o : Option Deed) (y : Option Stepping) (u : World) : Type 0 where
  Rested : u.nodes ≡ w.nodes → u.messages ≡ w.messages → TellsNoRead w u → y ≡ None → Happened w o y u
  Observed : u.nodes ≡ w.nodes → (q : ℕ) → AddsAsks w u q → TellsNoRead w u → y ≡ None → Happened w o y u
  Halted : Halts w u → y ≡ None → Happened w o y u
  Acted : Acts w o y u → Happened w o y u
  Begun : Begins w u → y ≡ None → Happened w o y u

tells_none : (w : World) → TellsNoRead w w
tells_none w pid client seq a i = i

-- who is opened is idle
restart_idle : (me : ℕ) (o : Option Part) → (volatile_after_restart me o).role ≡ Idle
restart_idle me None = refl
restart_idle me (Some p) = refl

-- what is no step is none, whatever its fate
none_stops : (f : Fate) (n : Node) → stepping_if Up f Stops n ≡ None
none_stops Done n = refl
none_stops Stopped n = refl
none_stops (Faulted count) n = refl

none_opens : (s : NodeStatus) (f : Fate) (n : Node) → stepping_if s f Opens n ≡ None
none_opens Up Done n = refl
none_opens Up Stopped n = refl
none_opens Up (Faulted count) n = refl
none_opens (Down after) f n = refl
none_opens (Failed count after) f n = refl

none_tells : (f : Fate) (told : Told) (n : Node) → stepping_if Up f (Tells told) n ≡ None
none_tells Done told n = refl
none_tells Stopped told n = refl
none_tells (Faulted count) told n = refl

module _ (w : World) (h : Happening) (n : Node) (at : node_at w.nodes n.pid ≡ Some n) where
  abbrev Does : NodeStatus → Fate → Doing → World → Type 0
  Does s f d u = Happened w (Some (record { pid = n.pid; doing = d })) (stepping_if s f d n) u

  -- a refusal tells of no read
  refused : (count : ℕ) (x : Input) → (pid client seq : ℕ) (a : Answer) → IsAmong (w.lines ++ outcome_lines h.event.line (failed_outcome count x)) (line.Read pid client seq a) → IsAmong w.lines (line.Read pid client seq a)
  refused count x = adds_others w (record w { lines = w.lines ++ outcome_lines h.event.line (failed_outcome count x) }) (outcome_lines h.event.line (failed_outcome count x)) refl (outcome_others h.event.line (failed_outcome count x))

  -- nor does what a node tells of itself
  telling : (told : Told) → TellsNoRead w (record w { lines = w.lines ++ told_lines told n.pid n.state n.state.durable.part })
  telling told = adds_others w (record w { lines = w.lines ++ told_lines told n.pid n.state n.state.durable.part }) (told_lines told n.pid n.state n.state.durable.part) refl (told_others told n.pid n.state n.state.durable.part)

  fated : (x : Input) (f : Fate) → Does Up f (Steps x) (world_by_fate f h.event.line w n x)
  fated x Done = Acted (record { node = n; input = x; at = at; deed = refl; steps = refl; nodes = refl; messages = refl; line = h.event.line; lines = refl })
  fated x Stopped = Halted (record { node = n; at = at; status = Down (stored_by n x); nodes = refl; messages = refl; lines = tells_none w }) refl
  fated x (Faulted count) = Halted (record { node = n; at = at; status = Failed count (stored_by n x); nodes = refl; messages = refl; lines = refused count x }) refl

  if_up : (d : Doing) → Does Up h.fate d (world_if_up d h.fate h.event.line w n)
  if_up (Steps x) = fated x h.fate
  if_up Stops = Halted (record { node = n; at = at; status = Down n.state.durable; nodes = refl; messages = refl; lines = tells_none w }) (none_stops h.fate n)
  if_up Opens = Rested refl refl (tells_none w) (none_opens Up h.fate n)
  if_up (Tells told) = Rested refl refl (telling told) (none_tells h.fate told n)

  opened : (after d : Durable) (f : Fate) → Does (Down after) h.fate Opens (world_opening f w n d)
  opened after d Done = Begun (record { node = n; at = at; state = state_after_restart n.pid d; none = refl; idle = restart_idle n.pid d.part; nodes = refl; messages = refl; lines = tells_none w }) refl
  opened after d Stopped = Rested refl refl (tells_none w) refl
  opened after d (Faulted count) = Rested refl refl (tells_none w) refl

  if_down : (after : Durable) (d : Doing) → Does (Down after) h.fate d (world_if_down d h.fate h.finds_after after w n)
  if_down after (Steps x) = Rested refl refl (tells_none w) refl
  if_down after Stops = Rested refl refl (tells_none w) refl
  if_down after Opens = opened after (cond h.finds_after after n.state.durable) h.fate
  if_down after (Tells told) = Rested refl refl (tells_none w) refl

  reopened : (count : ℕ) (after d : Durable) (f : Fate) → Does (Failed count after) h.fate Opens (world_reopening f after w n d)
  reopened count after d Done = Begun (record { node = n; at = at; state = state_after_reopening n.pid n.state d; none = refl; idle = restart_idle n.pid d.part; nodes = refl; messages = refl; lines = tells_none w }) refl
  reopened count after d Stopped = Halted (record { node = n; at = at; status = Down after; nodes = refl; messages = refl; lines = tells_none w }) refl
  reopened count after d (Faulted more) = Halted (record { node = n; at = at; status = Failed more after; nodes = refl; messages = refl; lines = tells_none w }) refl

  if_failed : (count : ℕ) (after : Durable) (d : Doing) → Does (Failed count after) h.fate d (world_if_failed d h count after w n)
  if_failed count after (Steps x) = Rested refl refl (refused count x) refl
  if_failed count after Stops = Halted (record { node = n; at = at; status = Down after; nodes = refl; messages = refl; lines = tells_none w }) refl
  if_failed count after Opens = reopened count after (cond h.finds_after after n.state.durable) h.fate
  if_failed count after (Tells told) = Rested refl refl (telling told) refl

  by_status : (s : NodeStatus) (d : Doing) → Does s h.fate d (world_by_status s d h w n)
  by_status Up d = if_up d
  by_status (Down after) d = if_down after d
  by_status (Failed count after) d = if_failed count after d

-- what happens at an observer tells of no read
module _ (w : World) (h : Happening) where
  observer_refuses : (u : World) (count : ℕ) (x : Input) → u.lines ≡ w.lines ++ outcome_lines h.event.line (failed_outcome count x) → TellsNoRead w u
  observer_refuses u count x e = adds_others w u (outcome_lines h.event.line (failed_outcome count x)) e (outcome_others h.event.line (failed_outcome count x))

  observer_steps : (n : Node) (x : Input) (f : Fate) → TellsNoRead w (world_by_fate_as Observes f h.event.line w n x)
  observer_steps n x Done =
      let p : Planned = watch_plan n.pid n.state x in
      adds_others w (world_by_fate_as Observes Done h.event.line w n x) (lines_of h.event.line n.pid p) refl
      (subst (λ (ls : List Line). Each IsOther ls) (sym (watch_lines h.event.line n.pid n.state x)) (outcome_others h.event.line p.outcome))
  observer_steps n x Stopped = tells_none w
  observer_steps n x (Faulted count) = observer_refuses (world_by_fate_as Observes (Faulted count) h.event.line w n x) count x refl

  observer_tells : (n : Node) (told : Told) → TellsNoRead w (record w { lines = w.lines ++ told_lines told n.pid n.state n.state.durable.part })
  observer_tells n told = adds_others w (record w { lines = w.lines ++ told_lines told n.pid n.state n.state.durable.part }) (told_lines told n.pid n.state n.state.durable.part) refl (told_others told n.pid n.state n.state.durable.part)

  observer_opens : (n : Node) (f : Fate) (d : Durable) → TellsNoRead w (world_opening_as Observes f w n d)
  observer_opens n Done d = tells_none w
  observer_opens n Stopped d = tells_none w
  observer_opens n (Faulted count) d = tells_none w

  observer_reopens : (n : Node) (f : Fate) (after d : Durable) → TellsNoRead w (world_reopening_as Observes f after w n d)
  observer_reopens n Done after d = tells_none w
  observer_reopens n Stopped after d = tells_none w
  observer_reopens n (Faulted count) after d = tells_none w

  observer_does : (n : Node) (s : NodeStatus) (d : Doing) → TellsNoRead w (world_by_status_as Observes s d h w n)
  observer_does n Up (Steps x) = observer_steps n x h.fate
  observer_does n Up Stops = tells_none w
  observer_does n Up Opens = tells_none w
  observer_does n Up (Tells told) = observer_tells n told
  observer_does n (Down after) (Steps x) = tells_none w
  observer_does n (Down after) Stops = tells_none w
  observer_does n (Down after) Opens = observer_opens n h.fate (cond h.finds_after after n.state.durable)
  observer_does n (Down after) (Tells told) = tells_none w
  observer_does n (Failed count after) (Steps x) = observer_refuses (world_by_status_as Observes (Failed count after) (Steps x) h w n) count x refl
  observer_does n (Failed count after) Stops = tells_none w
  observer_does n (Failed count after) Opens = observer_reopens n h.fate after (cond h.finds_after after n.state.durable)
  observer_does n (Failed count after) (Tells told) = observer_tells n told

  beginning_tells : (d : Doing) (f : Fate) (pid : ℕ) → TellsNoRead w (world_beginning d f pid w)
  beginning_tells (Steps x) f pid = tells_none w
  beginning_tells Stops f pid = tells_none w
  beginning_tells Opens Done pid = tells_none w
  beginning_tells Opens Stopped pid = tells_none w
  beginning_tells Opens (Faulted count) pid = tells_none w
  beginning_tells (Tells told) f pid = tells_none w

  found_tells : (x : Deed) (o : Option Node) → TellsNoRead w (world_at_observer o x h w)
  found_tells x None = beginning_tells x.doing h.fate x.pid
  found_tells x (Some n) = observer_does n n.status x.doing

  -- so it adds asks, and tells of no read
  observed : (e : Option Deed) (o : Option Deed) → Happened w o None (record (world_observed e h w) { nodes = w.nodes; members = w.members })
  observed None o = Rested refl refl (tells_none w) refl
  observed (Some x) o =
      let a = observed_adds w x h in
      Observed refl x.pid (record { sends = a.sends; asks = a.asks; messages = a.messages }) (found_tells x (node_at w.observers x.pid)) refl

there : (w : World) (h : Happening) (pid : ℕ) (d : Doing) (o : Option Node) → node_at w.nodes pid ≡ o → IfThere (λ n. Unit {0}) pid o → Happened w (Some (record { pid = pid; doing = d })) (stepping_at o h.fate d) (world_at_node o d h w)
there w h pid d None at k = observed w h (deed_of w.messages h.event.what) (Some (record { pid = pid; doing = d }))
there w h pid d (Some n) at k =
    subst (λ (q : ℕ). Happened w (Some (record { pid = q; doing = d })) (stepping_if n.status h.fate d n) (world_by_status n.status d h w n)) k.0 (by_status w h n (ap (node_at w.nodes) k.0 ∙ at) n.status d)

by_deed : (w : World) (h : Happening) (o : Option Deed) → Happened w o (stepping_by w h.fate o) (world_with o h w)
by_deed w h None = Rested refl refl (tells_none w) refl
by_deed w h (Some x) = there w h x.pid x.doing (node_at w.nodes x.pid) refl (found (λ n. Unit {0}) w.nodes (each_unit w.nodes) x.pid)

pub happened : (w : World) (h : Happening) → Happened w (deed_of w.messages h.event.what) (stepping w h) (world_after w h)
happened w h = by_deed w h (deed_of w.messages h.event.what)

-- ---- what it makes of a node

-- a node before and after: its state stays, it did a step, or it was opened
pub data Becomes (w : World) (o : Option Deed) (y : Option Stepping) (u : World) (q : ℕ) (m : Node) : Type 0 where
  Stayed : (n : Node) → node_at w.nodes q ≡ Some n → m.state ≡ n.state → m.pid ≡ n.pid → Becomes w o y u q m
  Stepped : (a : Acts w o y u) → a.node.pid ≡ q → m ≡ record (a.node) { state = state_after a.node.state (step_plan a.node.pid a.node.state a.input) } → Becomes w o y u q m
  Opened : m.state.reads ≡ None → m.state.volatile.role ≡ Idle → Becomes w o y u q m

some_same : {A : Type 0} (a b : A) → Some a ≡ Some b → a ≡ b
some_same a b e = cc

-- another node is as it was, and the one that was put there is
placed : {P : Type 0} (w : World) (u : World) (n k : Node) (q : ℕ) (m : Node) → node_at w.nodes n.pid ≡ Some n → k.pid ≡ n.pid → u.nodes ≡ with_node w.nodes k → node_at u.nodes q ≡ Some m
    → (node_at w.nodes q ≡ Some m → P) → (n.pid ≡ q → m ≡ k → P) → P
placed {P} w u n k q m at same is there other here =
    let found_there : node_at (with_node w.nodes k) q ≡ Some m = ap (λ (ns : List Node). node_at ns q) (sym is) ∙ there in
    ⊎_elim
    (λ (e : q ≡ k.pid). here (sym (e ∙ same)) (some_same m k (sym found_there ∙ ap (node_at (with_node w.nodes k)) e ∙ node_at-here w.nodes k n (ap (node_at w.nodes) same ∙ at))))
    (λ (d : q ≡ k.pid → ⊥). other (sym (node_at-other w.nodes k q d) ∙ found_there))
    (cases_eq q k.pid)

pub becomes : (w : World) (o : Option Deed) (y : Option Stepping) (u : World) → Happened w o y u → (q : ℕ) (m : Node) → node_at u.nodes q ≡ Some m → Becomes w o y u q m
becomes w o y u (Rested e s lines none) q m there = Stayed m (ap (λ (ns : List Node). node_at ns q) (sym e) ∙ there) refl refl
becomes w o y u (Observed e p s lines none) q m there = Stayed m (ap (λ (ns : List Node). node_at ns q) (sym e) ∙ there) refl refl
becomes w o y u (Halted h none) q m there =
    placed w u h.node (record (h.node) { status = h.status }) q m h.at refl h.nodes there (λ was. Stayed m was refl refl)
    (λ here is. Stayed h.node (ap (node_at w.nodes) (sym here) ∙ h.at) (ap (λ (x : Node). x.state) is) (ap (λ (x : Node). x.pid) is))
becomes w o y u (Acted a) q m there =
    placed w u a.node (record (a.node) { state = state_after a.node.state (step_plan a.node.pid a.node.state a.input) }) q m a.at refl a.nodes there (λ was. Stayed m was refl refl) (λ here is. Stepped a here is)
becomes w o y u (Begun b none) q m there =
    placed w u b.node (record (b.node) { state = b.state; status = Up }) q m b.at refl b.nodes there (λ was. Stayed m was refl refl)
    (λ here is. Opened (ap (λ (x : Node). x.state.reads) is ∙ b.none) (ap (λ (x : Node). x.state.volatile.role) is ∙ b.idle))

-- ---- what is delivered was sent

deed_is : (a b : Deed) → Some a ≡ Some b → a ≡ b
deed_is a b e = cc

-- the input of a deed, if it is one
abbrev input_of : Doing → Option Input
input_of (Steps x) = Some x
input_of Stops = None
input_of Opens = None
input_of (Tells told) = None

delivered : (q : ℕ) (m : Msg) (p : ℕ) (o : Option Sent) → delivery o ≡ Some (record { pid = p; doing = Steps (input.Deliver q m) }) → o ≡ Some (record { from = q; to = p; message = m })
delivered q m p None e = absurd (differ _ e)
  where
    differ : (d : Deed) → None ≡ Some d → ⊥
    differ d e = cc
delivered q m p (Some s) e =
    let d = deed_is (record { pid = s.to; doing = Steps (input.Deliver s.from s.message) }) (record { pid = p; doing = Steps (input.Deliver q m) }) e in
    let x = same_input s.from q s.message m (ap (λ (y : Deed). input_of y.doing) d) in
    ap Some (λ i. record { from = x.0 i; to = (ap (λ (y : Deed). y.pid) d) i; message = x.1 i })
  where
    same_input : (a b : ℕ) (k l : Msg) → Some (input.Deliver a k) ≡ Some (input.Deliver b l) → (a ≡ b) × (k ≡ l)
    same_input a b k l e = (cc, cc)

-- whether a deed is a delivery
abbrev is_delivery_in : Doing → Bool
is_delivery_in (Steps (input.Deliver q m)) = true
is_delivery_in _ = false

abbrev is_delivery : Option Deed → Bool
is_delivery None = false
is_delivery (Some d) = is_delivery_in d.doing

pub delivered_sent : (messages : List Sent) (x : What) (p q : ℕ) (m : Msg) → deed_of messages x ≡ Some (record { pid = p; doing = Steps (input.Deliver q m) })
    → (i : ℕ) × (slice_get messages i ≡ Some (record { from = q; to = p; message = m }))
delivered_sent messages (what.Deliver i) p q m e = (i, delivered q m p (slice_get messages i) e)
delivered_sent messages (what.Tick r) p q m e = absurd (false≢true (ap is_delivery e))
delivered_sent messages (what.Commands r cs) p q m e = absurd (false≢true (ap is_delivery e))
delivered_sent messages (what.Stop r ms) p q m e = absurd (false≢true (ap is_delivery e))
delivered_sent messages (what.Trim r) p q m e = absurd (false≢true (ap is_delivery e))
delivered_sent messages (what.Read r x) p q m e = absurd (false≢true (ap is_delivery e))
delivered_sent messages (what.Up r s) p q m e = absurd (false≢true (ap is_delivery e))
delivered_sent messages (what.Down r s) p q m e = absurd (false≢true (ap is_delivery e))
delivered_sent messages (what.Crash r) p q m e = absurd (false≢true (ap is_delivery e))
delivered_sent messages (what.CrashAt r call image) p q m e = absurd (false≢true (ap is_delivery e))
delivered_sent messages (what.Fail r call) p q m e = absurd (false≢true (ap is_delivery e))
delivered_sent messages (what.Kill r disk) p q m e = absurd (false≢true (ap is_delivery e))
delivered_sent messages (what.Start r) p q m e = absurd (false≢true (ap is_delivery e))
delivered_sent messages (what.Show r) p q m e = absurd (false≢true (ap is_delivery e))
delivered_sent messages (what.Ballots r) p q m e = absurd (false≢true (ap is_delivery e))
