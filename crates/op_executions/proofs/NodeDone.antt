-- What is done at one of the definitions' nodes, which votes or observes, and what a world becomes by it.
use Rattle.std.proofs.Common.{◌≡◌, ℕ, Bool, true, false, cond, eqb, List, [], ◌∷◌, ◌++◌, Some, refl, sym, ap, ◌∙◌, inr}
use Rattle.std.proofs.lemmas.List.{append-nil}
use Rattle.op_types.specs.declared.messages.Msg.{Msg}
use Rattle.op_runs.specs.declared.summary.Line.{Line}
use Rattle.op_protocol.specs.State.{State}
use Rattle.op_runs.specs.World.{Kind, Votes, Observes, World, Sent, Node, NodeStatus, Up, Fate, Happening, Doing, sends_as, world_opened_as, node_at, with_node, sent_by, world_by_status_as, world_with_as, world_telling_more}
use Rattle.op_executions.specs.Servers.{IsNodeDone, servers_as}

-- ---- a node that takes its own place

same_by : (b : Bool) (n x : Node) (nodes : List Node) → cond b (Some n) (node_at nodes x.pid) ≡ Some x → (node_at nodes x.pid ≡ Some x → with_node nodes x ≡ nodes) → cond b (x ∷ nodes) (n ∷ with_node nodes x) ≡ n ∷ nodes
same_by true n x nodes here rest = let same : n ≡ x = cc in ap (λ (y : Node). y ∷ nodes) (sym same)
same_by false n x nodes here rest = ap (λ (ns : List Node). n ∷ ns) (rest here)

with_same : (nodes : List Node) (x : Node) → node_at nodes x.pid ≡ Some x → with_node nodes x ≡ nodes
with_same [] x here = refl
with_same (n ∷ nodes) x here = same_by (eqb n.pid x.pid) n x nodes here (with_same nodes x)

-- so does its world
world_same : (k : Kind) (w : World) (x : Node) → node_at (servers_as k w) x.pid ≡ Some x → world_with_as k w x ≡ w
world_same Votes w x here = ap (λ (ns : List Node). let z : World = record w { nodes = ns } in z) (with_same w.nodes x here)
world_same Observes w x here = ap (λ (ns : List Node). let z : World = record w { observers = ns } in z) (with_same w.observers x here)

-- ---- what a world becomes

abbrev pub becomes : Kind → World → Node → List (ℕ × Msg) → List Line → World
becomes k w y sends told = world_telling_more (world_with_as k w y) (sent_by y.pid sends) told

-- these lines come, and nothing is sent
pub lines_come : (w : World) (told : List Line) → (let z : World = record w { lines = w.lines ++ told } in z) ≡ world_telling_more w [] told
lines_come w told = ap (λ (ms : List Sent). let z : World = record w { messages = ms; lines = w.lines ++ told } in z) (sym (append-nil w.messages))

-- nothing is told either
pub nothing_comes : (w : World) → w ≡ world_telling_more w [] []
nothing_comes w = ap (λ (ls : List Line). let z : World = record w { lines = ls } in z) (sym (append-nil w.lines)) ∙ lines_come w []

-- nothing is sent by a node that stays
pub world_told : (k : Kind) (w : World) (x : Node) (told : List Line) → node_at (servers_as k w) x.pid ≡ Some x → (let z : World = record w { lines = w.lines ++ told } in z) ≡ becomes k w x [] told
world_told k w x told here = lines_come w told ∙ ap (λ (v : World). world_telling_more v [] told) (sym (world_same k w x here))

-- a server is opened, in this state
pub opened_as : (k : Kind) (w : World) (x : Node) (s : State) (sends : List (ℕ × Msg)) → sends_as k x.pid s.durable ≡ sends → world_opened_as k w x s ≡ becomes k w (record x { state = s; status = Up }) sends []
opened_as Votes w x s sends be =
    let z : List (ℕ × Msg) → List Line → World = λ ss ls. record w { nodes = with_node w.nodes (record x { state = s; status = Up }); messages = w.messages ++ sent_by x.pid ss; lines = ls } in
    ap (λ (ss : List (ℕ × Msg)). z ss w.lines) be ∙ ap (λ (ls : List Line). z sends ls) (sym (append-nil w.lines))
opened_as Observes w x s sends be =
    let z : List (ℕ × Msg) → List Line → World = λ ss ls. record w { observers = with_node w.observers (record x { state = s; status = Up }); messages = w.messages ++ sent_by x.pid ss; lines = ls } in
    ap (λ (ss : List (ℕ × Msg)). z ss w.lines) be ∙ ap (λ (ls : List Line). z sends ls) (sym (append-nil w.lines))

-- ---- what is done at a node of this kind and status, in a happening of this fate and line

module _ (k : Kind) (x : Node) (d : Doing) (fate : Fate) (finds_after : Bool) (line : ℕ) (status : NodeStatus) (is : x.status ≡ status) where
  as_is : (w : World) (h : Happening) (z : World) → world_by_status_as k status d h w x ≡ z → world_by_status_as k x.status d h w x ≡ z
  as_is w h z does = ap (λ (st : NodeStatus). world_by_status_as k st d h w x) is ∙ does

  -- it stays as it is, and these lines come
  pub told_done : (told : List Line) → ((w : World) (h : Happening) → h.fate ≡ fate → h.finds_after ≡ finds_after → h.event.line ≡ line
      → world_by_status_as k status d h w x ≡ (let z : World = record w { lines = w.lines ++ told } in z)) → IsNodeDone k x d fate finds_after line x [] told
  told_done told does = record { pid = refl; stored = inr refl; world = λ w h f b at here. as_is w h (becomes k w x [] told) (does w h f b at ∙ world_told k w x told here) }

  -- nothing is done
  pub nothing_done : ((w : World) (h : Happening) → h.fate ≡ fate → world_by_status_as k status d h w x ≡ w) → IsNodeDone k x d fate finds_after line x [] []
  nothing_done idle = told_done [] (λ w h f b at. idle w h f ∙ ap (λ (ls : List Line). let z : World = record w { lines = ls } in z) (sym (append-nil w.lines)))

  -- its status is another then, and these lines come
  pub status_done : (other : NodeStatus) (told : List Line) → ((w : World) (h : Happening) → h.fate ≡ fate → h.finds_after ≡ finds_after → h.event.line ≡ line
      → world_by_status_as k status d h w x ≡ (let v : World = world_with_as k w (record x { status = other }) in let z : World = record v { lines = v.lines ++ told } in z))
      → IsNodeDone k x d fate finds_after line (record x { status = other }) [] told
  status_done other told does = record {
    pid = refl;
    stored = inr refl;
    world = λ w h f b at here. as_is w h (becomes k w (record x { status = other }) [] told) (does w h f b at ∙ lines_come (world_with_as k w (record x { status = other })) told);
  }

  pub quietly_done : (other : NodeStatus) → ((w : World) (h : Happening) → h.fate ≡ fate → h.finds_after ≡ finds_after → world_by_status_as k status d h w x ≡ world_with_as k w (record x { status = other }))
      → IsNodeDone k x d fate finds_after line (record x { status = other }) [] []
  quietly_done other does = record {
    pid = refl;
    stored = inr refl;
    world = λ w h f b at here. as_is w h (becomes k w (record x { status = other }) [] []) (does w h f b ∙ nothing_comes (world_with_as k w (record x { status = other })));
  }
