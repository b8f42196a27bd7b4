-- Where the nodes stand: what has been gathered of some of them, and what is left to gather.
use Rattle.std.proofs.Common.{◌≡◌, ◌<◌, ◌+◌, ℕ, suc, arith, drop, get_or, List, [], ◌∷◌, ◌++◌, length, map, max, Option, Some, None, IfSome, Result, Ok, Err, All, refl, sym, ap, subst, ◌∙◌, append_assoc}
use Rattle.std.proofs.lemmas.List.{append-nil}
use Rattle.std.proofs.lemmas.List.Elements.{All-nil, All-cons, All-head, All-tail}
use Rattle.std.proofs.Math.Seq.{drop-cons}
use Rattle.std.specs.Prelude.{fold, OnOk}
use Rattle.op_types.specs.Ranges.{AreRising, IsMember}
use Rattle.op_types.specs.Rooms.{no_needs, with_room, part_option_with_room, joining_option_with_room}
use Rattle.op_types.specs.declared.durable.Closed.{Closed}
use Rattle.op_types.specs.declared.durable.Durable.{Durable}
use Rattle.op_types.specs.declared.durable.Joining.{Joining}
use Rattle.op_types.specs.declared.durable.Part.{Part}
use Rattle.op_areas.specs.Media.{Medium}
use Rattle.op_node.specs.Nodes.{node_of}
use Rattle.op_node.specs.declared.node.Node as nodes
use Rattle.op_record.specs.Ranges.{ClosedInRange}
use Rattle.op_protocol.specs.Configurations.{latest_of, latest_in}
use Rattle.op_protocol.specs.State.{State}
use Rattle.op_runs.specs.declared.summary.NodeLine.{NodeLine}
use Rattle.op_runs.specs.declared.summary.Running.{Running}
use Rattle.op_runs.specs.declared.summary.Running.TheVariants as running
use Rattle.op_types.specs.declared.log.Entry.{Entry}
use Rattle.op_runs.specs.World.{Kind, Votes, Observes, Node, Sent, NodeStatus, Up, insert_node}
use Rattle.op_runs.specs.Possible.{Named}
use Rattle.op_runs.specs.Schedules.{Seated}
use Rattle.op_runs.specs.Run.{Execution}
use Rattle.op_runs.specs.declared.summary.Line.{Line}
use Rattle.op_runs.specs.declared.summary.Listed.{Listed}
use Rattle.op_runs.specs.declared.summary.Summary.{Summary}
use Rattle.op_runs.specs.Summary.{all_servers, greatest_conf, joining_conf, listed_from, listed_of, node_line, running_of, stands_at, summary_of}
use Rattle.op_bounds.specs.Laws.{NodeInRange, ObserverInRange}
use Rattle.op_executions.proofs.Seated.{merged, pids_in}
use Rattle.op_executions.proofs.ServerIds.{servers_rising}
use Rattle.op_executions.proofs.Servers.{pids_shown}
use Rattle.op_executions.specs.Servers as servers
use Rattle.op_executions.specs.Worlds.{also, seated_as}
use Rattle.op_replay_nodes.specs.Nodes.{IsShown, ShowsFailed, ShowsDown, kind_of, area_nodes}
use Rattle.op_world.specs.Worlds.{Parts, IsWorld, Shows, ShowsSeated, ShowSeated, greatest_with, line_of}
use Rattle.op_replay_nodes.specs.declared.node_state.DownNode.{DownNode}
use Rattle.op_world.specs.Ledgers.{list_at}
use Rattle.std.proofs.Math.Path.{fun_ext}
use Rattle.op_replay_nodes.specs.declared.node_state.NodeState.{NodeState}
use Rattle.op_replay_nodes.specs.declared.node_state.NodeState.TheVariants as node
use Rattle.op_replay_nodes.specs.declared.node_state.WorldNode.{WorldNode}
use Rattle.op_world.proofs.Deeds.{in_range}

-- its closed list is in range, if it has one
abbrev pub IsOpen : Seated → Type 0
IsOpen x = IfSome x.node.state.durable.closed ClosedInRange

-- ---- the greatest configuration

-- of this one and those that some of the servers know that vote
abbrev pub greatest_from : ℕ → List Seated → ℕ
greatest_from latest xs = fold (λ c x. greatest_with x.kind c x.node.state.durable) latest xs

-- the same of nodes
abbrev greatest_of : ℕ → List Node → ℕ
greatest_of latest xs = fold (λ c n. max c (latest_of n.state.durable)) latest xs

one_greatest : (k : Kind) (n : Node) (c : ℕ) (nodes : List Node) → greatest_of (greatest_with k c n.state.durable) nodes ≡ greatest_of c (also Votes k n nodes)
one_greatest Votes n c nodes = refl
one_greatest Observes n c nodes = refl

greatest_as : (c : ℕ) (xs : List Seated) → greatest_from c xs ≡ greatest_of c (seated_as Votes xs)
greatest_as c [] = refl
greatest_as c (x ∷ xs) = greatest_as (greatest_with x.kind c x.node.state.durable) xs ∙ one_greatest x.kind x.node c (seated_as Votes xs)

greatest_same : (k : Kind) (c : ℕ) (d e : Durable) → latest_of d ≡ latest_of e → greatest_with k c d ≡ greatest_with k c e
greatest_same Votes c d e is = ap (λ (l : ℕ). max c l) is
greatest_same Observes c d e is = refl

-- ---- lines

abbrev pub lines_of : List Seated → List NodeLine
lines_of xs = map (λ x. node_line x.node) xs

all_lines : (xs : List Seated) → lines_of xs ≡ map node_line (map (λ x. x.node) xs)
all_lines [] = refl
all_lines (x ∷ xs) = ap (λ (ls : List NodeLine). node_line x.node ∷ ls) (all_lines xs)

module _ {D C : Type 0} (M : Medium D C) where
  -- a server shows this node, whether it votes or not
  abbrev ShowsNode : WorldNode D C → Node → Type 0
  ShowsNode n x = servers.ShowsNode (area_nodes M) n x

  -- the servers show some of which that holds
  pub record AreOpen (nodes : List (WorldNode D C)) : Type 0 where
    pub xs : List Seated
    pub shown : ShowSeated M nodes xs
    pub each : All IsOpen xs

  -- where all nodes are in range, and all observers, one of them
  record OneOpen (ids : List ℕ) (n : Node) (nodes observers : List Node) : Type 0 where
    pub here : IfSome n.state.durable.closed ClosedInRange
    pub nodes_are : All (NodeInRange (IsMember ids)) nodes
    pub observers_are : All (ObserverInRange (IsMember ids)) observers

  one_open : (ids : List ℕ) (k : Kind) (n : Node) (nodes observers : List Node) → All (NodeInRange (IsMember ids)) (also Votes k n nodes) → All (ObserverInRange (IsMember ids)) (also Observes k n observers) → OneOpen ids n nodes observers
  one_open ids Votes n nodes observers each watch = record {
    here = ((((All-head (NodeInRange (IsMember ids)) n nodes each).state).durable).range).closed;
    nodes_are = All-tail (NodeInRange (IsMember ids)) n nodes each;
    observers_are = watch;
  }
  one_open ids Observes n nodes observers each watch = record {
    here = ((((All-head (ObserverInRange (IsMember ids)) n observers watch).state).durable).range).closed;
    nodes_are = each;
    observers_are = All-tail (ObserverInRange (IsMember ids)) n observers watch;
  }

  all_open : (ids : List ℕ) (xs : List Seated) → All (NodeInRange (IsMember ids)) (seated_as Votes xs) → All (ObserverInRange (IsMember ids)) (seated_as Observes xs) → All IsOpen xs
  all_open ids [] each watch = All-nil IsOpen
  all_open ids (x ∷ xs) each watch =
      let one = one_open ids x.kind x.node (seated_as Votes xs) (seated_as Observes xs) each watch in
      All-cons IsOpen x xs one.here (all_open ids xs one.nodes_are one.observers_are)

  -- so it is in a world
  pub world_open : (w : Parts D C) → IsWorld M w → (xs : List Seated) × (ShowSeated M) w.nodes xs × All IsOpen xs
  world_open w i =
      let sv = i.shows.servers in
      let range = in_range M w i in (
        sv.seats,
        sv.shown,
        all_open w.ids.servers sv.seats (subst (λ (ns : List Node). All (NodeInRange (IsMember w.ids.servers)) ns) sv.nodes_are range.nodes)
            (subst (λ (ns : List Node). All (ObserverInRange (IsMember w.ids.servers)) ns) sv.observers_are range.observers),
      )

  -- the servers' ids rise
  pub seats_rise : (w : Parts D C) → IsWorld M w → (xs : List Seated) → ShowSeated M w.nodes xs → AreRising 0 (pids_in xs)
  seats_rise w i xs shown =
      let all : AreRising 0 w.ids.servers =
      subst (λ (ids : Named). AreRising 0 ids.servers) (sym i.ids) (servers_rising w.members i.spares i.observers (i.range).first (i.range).others i.observers_are) in
      subst (λ (ids : List ℕ). AreRising 0 ids) (sym (pids_shown (area_nodes M) w.nodes xs shown ∙ i.pids)) all

  -- ---- one after the other

  -- the servers that are left, shown, make the rest of the report
  pub record Rest (left : List (WorldNode D C)) (latest : ℕ) (lines : List NodeLine) (xs : List Seated) : Type 0 where
    pub rest : List Seated
    pub shown : ShowSeated M left rest
    pub latest_is : greatest_from latest rest ≡ greatest_conf (seated_as Votes xs)
    pub lines_are : lines ++ lines_of rest ≡ lines_of xs

  -- so far this was gathered of the servers, and these are left
  pub record Gathers (nodes left : List (WorldNode D C)) (latest : ℕ) (lines : List NodeLine) : Type 0 where
    pub open_ones : AreOpen left
    pub whole : (xs : List Seated) → ShowSeated M nodes xs → Rest left latest lines xs

  pub gathers_first : (nodes left : List (WorldNode D C)) (latest : ℕ) (lines : List NodeLine) → nodes ≡ left → latest ≡ 0 → lines ≡ [] → (xs : List Seated) × (ShowSeated M) nodes xs × All IsOpen xs → Gathers nodes left latest lines
  gathers_first nodes left latest lines same none no_lines o = record {
    open_ones = subst AreOpen same (record { xs = o.0; shown = o.1; each = o.2 });
    whole = λ xs shown. record {
      rest = xs;
      shown = subst (λ (ns : List (WorldNode D C)). ShowSeated M ns xs) same shown;
      latest_is = ap (λ (c : ℕ). greatest_from c xs) none ∙ greatest_as 0 xs;
      lines_are = ap (λ (ls : List NodeLine). ls ++ lines_of xs) no_lines;
    };
  }

  -- the one that comes next
  pub next_left : (nodes : List (WorldNode D C)) (k : ℕ) (n : WorldNode D C) → k < length nodes → n ≡ get_or nodes k n → drop k nodes ≡ n ∷ drop (k + 1) nodes
  next_left nodes k n there is =
      let next : suc k ≡ k + 1 = omega arith in
      drop-cons nodes k n there ∙ ap (λ (m : WorldNode D C). m ∷ drop (suc k) nodes) (sym is) ∙ ap (λ (j : ℕ). n ∷ drop j nodes) next

  -- the node was added
  pub record Adds (n : WorldNode D C) (latest latest' : ℕ) (lines lines' : List NodeLine) : Type 0 where
    pub latest_is : (x : Seated) → ShowsSeated M n x → latest' ≡ greatest_with x.kind latest x.node.state.durable
    pub lines_are : (x : Seated) → ShowsSeated M n x → lines' ≡ lines ++ node_line x.node ∷ []

  rest_next : (n : WorldNode D C) (more : List (WorldNode D C)) (latest latest' : ℕ) (lines lines' : List NodeLine) (xs rest : List Seated) → ShowSeated M (n ∷ more) rest
      → greatest_from latest rest ≡ greatest_conf (seated_as Votes xs) → lines ++ lines_of rest ≡ lines_of xs → Adds n latest latest' lines lines' → Rest more latest' lines' xs
  rest_next n more latest latest' lines lines' xs [] shown is are adds = absurd shown
  rest_next n more latest latest' lines lines' xs (x ∷ rest) shown is are adds = record {
    rest = rest;
    shown = shown.1;
    latest_is = ap (λ (c : ℕ). greatest_from c rest) (adds.latest_is x shown.0) ∙ is;
    lines_are = ap (λ (ls : List NodeLine). ls ++ lines_of rest) (adds.lines_are x shown.0) ∙ append_assoc lines (node_line x.node ∷ []) (lines_of rest) ∙ are;
  }

  open_tail : (n : WorldNode D C) (more : List (WorldNode D C)) (xs : List Seated) → ShowSeated M (n ∷ more) xs → All IsOpen xs → AreOpen more
  open_tail n more [] shown each = absurd shown
  open_tail n more (x ∷ xs) shown each = record { xs = xs; shown = shown.1; each = All-tail IsOpen x xs each }

  open_head : (n : WorldNode D C) (more : List (WorldNode D C)) (xs : List Seated) → ShowSeated M (n ∷ more) xs → All IsOpen xs → (x : Seated) × (ShowsSeated M) n x × IsOpen x
  open_head n more [] shown each = absurd shown
  open_head n more (x ∷ xs) shown each = (x, shown.0, All-head IsOpen x xs each)

  -- one node more
  pub gathers_next : (nodes left more : List (WorldNode D C)) (n : WorldNode D C) (latest latest' : ℕ) (lines lines' : List NodeLine) → Gathers nodes left latest lines → left ≡ n ∷ more
      → Adds n latest latest' lines lines' → Gathers nodes more latest' lines'
  gathers_next nodes left more n latest latest' lines lines' g is adds =
      let o = subst AreOpen is g.open_ones in
      record {
        open_ones = open_tail n more o.xs o.shown o.each;
        whole = λ xs shown.
            let r = g.whole xs shown in
            rest_next n more latest latest' lines lines' xs r.rest (subst (λ (ns : List (WorldNode D C)). ShowSeated M ns r.rest) is r.shown) r.latest_is r.lines_are adds;
      }

  -- the one that is taken
  pub next_open : (nodes left more : List (WorldNode D C)) (n : WorldNode D C) (latest : ℕ) (lines : List NodeLine) → Gathers nodes left latest lines → left ≡ n ∷ more → (x : Seated) × (ShowsSeated M) n x × IsOpen x
  next_open nodes left more n latest lines g is = let o = subst AreOpen is g.open_ones in open_head n more o.xs o.shown o.each

  all_gathered : (rest xs : List Seated) (latest : ℕ) (lines : List NodeLine) → (ShowSeated M) [] rest → greatest_from latest rest ≡ greatest_conf (seated_as Votes xs) → lines ++ lines_of rest ≡ lines_of xs
      → (latest ≡ greatest_conf (seated_as Votes xs)) × (lines ≡ lines_of xs)
  all_gathered [] xs latest lines shown is are = (is, sym (append-nil lines) ∙ are)
  all_gathered (x ∷ rest) xs latest lines shown is are = absurd shown

  -- none is left
  pub gathers_all : (nodes left : List (WorldNode D C)) (latest : ℕ) (lines : List NodeLine) → Gathers nodes left latest lines → left ≡ [] → (xs : List Seated) → ShowSeated M nodes xs → (latest ≡ greatest_conf (seated_as Votes xs)) × (lines ≡ lines_of xs)
  gathers_all nodes left latest lines g none xs shown =
      let r = g.whole xs shown in
      all_gathered r.rest xs latest lines (subst (λ (ns : List (WorldNode D C)). ShowSeated M ns r.rest) none r.shown) r.latest_is r.lines_are

  -- ---- one node

  -- room changes nothing of what is reported
  room_latest : (o : Option Part) (l : Option Closed) → latest_in (part_option_with_room 0 o) l ≡ latest_in o l
  room_latest None l = refl
  room_latest (Some p) l = refl

  room_stands : (o : Option Part) (l : Option Closed) → stands_at (part_option_with_room 0 o) l ≡ stands_at o l
  room_stands None l = refl
  room_stands (Some p) l = refl

  room_joining : (o : Option Joining) → joining_conf (joining_option_with_room 0 o) ≡ joining_conf o
  room_joining None = refl
  room_joining (Some j) = refl

  abbrev line_at : ℕ → Running → Option (ℕ × ℕ × ℕ) → Option ℕ → NodeLine
  line_at pid r at j = record { pid = pid; at = at; joining = j; running = r }

  -- what was added was added of whatever the server shows
  pub added_latest : {T E : Type 0} (r : Result T E) (n : WorldNode D C) (d : Durable) (latest latest' : ℕ) → ((x : Node) → ShowsNode n x → latest_of d ≡ latest_of x.state.durable) → OnOk r (latest' ≡ greatest_with (kind_of n) latest d)
      → OnOk r ((x : Seated) → ShowsSeated M n x → latest' ≡ greatest_with x.kind latest x.node.state.durable)
  added_latest (Ok v) n d latest latest' same is =
      λ x shown. is ∙ ap (λ (k : Kind). greatest_with k latest d) (sym shown.kind) ∙ greatest_same x.kind latest d x.node.state.durable (same x.node shown.node)
  added_latest (Err e) n d latest latest' same is = tt

  pub added_line : {T E : Type 0} (r : Result T E) (n : WorldNode D C) (d : Durable) (how : Running) (lines lines' : List NodeLine) → ((x : Node) → ShowsNode n x → line_of n.pid how d ≡ node_line x)
      → OnOk r (lines' ≡ lines ++ line_of n.pid how d ∷ []) → OnOk r ((x : Seated) → ShowsSeated M n x → lines' ≡ lines ++ node_line x.node ∷ [])
  added_line (Ok v) n d how lines lines' same is = λ x shown. is ∙ ap (λ (l : NodeLine). lines ++ l ∷ []) (same x.node shown.node)
  added_line (Err e) n d how lines lines' same is = tt

  -- a node whose durable state is this, with room for more
  module _ (n : WorldNode D C) (d : Durable) (how : Running) (same : (x : Node) → ShowsNode n x → with_room no_needs d ≡ x.state.durable) (runs : (x : Node) → ShowsNode n x → running_of x.status ≡ how) where
    pub kept_latest : (x : Node) → ShowsNode n x → latest_of d ≡ latest_of x.state.durable
    kept_latest x shown = sym (room_latest d.part d.closed) ∙ ap (λ (e : Durable). latest_of e) (same x shown)

    pub kept_line : (x : Node) → ShowsNode n x → line_of n.pid how d ≡ node_line x
    kept_line x shown =
        ap (λ (at : Option (ℕ × ℕ × ℕ)). line_at n.pid how at (joining_conf d.joining)) (sym (room_stands d.part d.closed))
        ∙ ap (λ (j : Option ℕ). line_at n.pid how (stands_at (part_option_with_room 0 d.part) d.closed) j) (sym (room_joining d.joining))
        ∙ ap (λ (e : Durable). line_of n.pid how e) (same x shown)
        ∙ ap (λ (pid : ℕ). line_of pid how x.state.durable) (sym shown.pid)
        ∙ ap (λ (r : Running). line_of x.pid r x.state.durable) (sym (runs x shown))

    -- its closed list is in range
    pub kept_open : (x : Node) → ShowsNode n x → IfSome x.state.durable.closed ClosedInRange → IfSome d.closed ClosedInRange
    kept_open x shown is = subst (λ (e : Durable). IfSome e.closed ClosedInRange) (sym (same x shown)) is

  -- one that is up
  module _ (n : WorldNode D C) (z : nodes.Node D) (d : Durable) (up : n.state ≡ node.Up z) (stored : with_room no_needs d ≡ (node_of z).state.durable) where
    up_there : (x : Node) → ShowsNode n x → (x.state ≡ (node_of z).state) × (x.status ≡ Up)
    up_there x shown = subst (λ (s : NodeState D C). IsShown M s x.state x.status) up shown.state

    pub up_has : (x : Node) → ShowsNode n x → with_room no_needs d ≡ x.state.durable
    up_has x shown = stored ∙ ap (λ (s : State). s.durable) (sym (up_there x shown).0)

    pub up_runs : (x : Node) → ShowsNode n x → running_of x.status ≡ running.Up
    up_runs x shown = ap running_of (up_there x shown).1

  -- one that failed
  module _ (n : WorldNode D C) (z : nodes.Node D) (d : Durable) (failed : n.state ≡ node.Failed z) (stored : with_room no_needs d ≡ (node_of z).state.durable) where
    failed_there : (x : Node) → ShowsNode n x → ShowsFailed M z x.state x.status
    failed_there x shown = subst (λ (s : NodeState D C). IsShown M s x.state x.status) failed shown.state

    pub failed_has : (x : Node) → ShowsNode n x → with_room no_needs d ≡ x.state.durable
    failed_has x shown = stored ∙ ap (λ (s : State). s.durable) (sym (failed_there x shown).state)

    pub failed_runs : (x : Node) → ShowsNode n x → running_of x.status ≡ running.Failed
    failed_runs x shown = ap running_of (failed_there x shown).status_is

  -- one that is down keeps what is shown of it
  module _ (n : WorldNode D C) (z : DownNode C) (down : n.state ≡ node.Down z) where
    down_there : (x : Node) → ShowsNode n x → ShowsDown M z x.state x.status
    down_there x shown = subst (λ (s : NodeState D C). IsShown M s x.state x.status) down shown.state

    down_has : (x : Node) → ShowsNode n x → z.shown ≡ x.state.durable
    down_has x shown = sym (down_there x shown).durable

    pub down_latest : (x : Node) → ShowsNode n x → latest_of z.shown ≡ latest_of x.state.durable
    down_latest x shown = ap (λ (e : Durable). latest_of e) (down_has x shown)

    pub down_line : (x : Node) → ShowsNode n x → line_of n.pid running.Down z.shown ≡ node_line x
    down_line x shown =
        ap (λ (e : Durable). line_of n.pid running.Down e) (down_has x shown)
        ∙ ap (λ (pid : ℕ). line_of pid running.Down x.state.durable) (sym shown.pid)
        ∙ ap (λ (s : NodeStatus). line_of x.pid (running_of s) x.state.durable) (sym (down_there x shown).status_is)

    pub down_open : (x : Node) → ShowsNode n x → IfSome x.state.durable.closed ClosedInRange → IfSome z.shown.closed ClosedInRange
    down_open x shown is = subst (λ (e : Durable). IfSome e.closed ClosedInRange) (sym (down_has x shown)) is

  -- ---- a report

  abbrev summary : List Line → List Listed → List NodeLine → ℕ → Summary
  summary lines lists nodes sent = record { lines = lines; lists = lists; nodes = nodes; sent = sent }

  -- what is reported of what a world shows
  pub reported : (w : Parts D C) → IsWorld M w → (t : Execution) → Shows M w t → (latest : ℕ) (lists : List Listed) (lines : List NodeLine) (sent : ℕ)
      → ((xs : List Seated) → ShowSeated M w.nodes xs → (latest ≡ greatest_conf (seated_as Votes xs)) × (lines ≡ lines_of xs))
      → lists ≡ listed_from (list_at w.lists) latest 1 (Some w.members) → sent ≡ length w.messages → summary w.lines lists lines sent ≡ summary_of w.members t
  reported w i t show latest lists lines sent nodes_are listed sent_is =
      let sv = show.servers in
      let xs : List Seated = sv.seats in
      let are = nodes_are xs sv.shown in
      let greatest : latest ≡ greatest_conf t.world.nodes = are.0 ∙ ap greatest_conf (sym sv.nodes_are) in
      let whole : fold insert_node (seated_as Votes xs) (seated_as Observes xs) ≡ map (λ x. x.node) xs = merged 0 xs (seats_rise w i xs sv.shown) in
      let all : lines ≡ map node_line (all_servers t.world) =
      are.1 ∙ all_lines xs ∙ ap (λ (ns : List Node). map node_line ns) (sym whole)
      ∙ ap (λ (ns : List Node). map node_line (fold insert_node ns (seated_as Observes xs))) (sym sv.nodes_are)
      ∙ ap (λ (ns : List Node). map node_line (fold insert_node t.world.nodes ns)) (sym sv.observers_are) in
      let same : list_at w.lists ≡ t.machine.lists = fun_ext (λ conf. sym (show.lists conf)) in
      ap (λ (ls : List Line). summary ls lists lines sent) (sym show.lines)
      ∙ ap (λ (ls : List Listed). summary t.world.lines ls lines sent) (listed ∙ ap (λ (f : ℕ → List Entry). listed_from f latest 1 (Some w.members)) same ∙ ap (λ (c : ℕ). listed_from t.machine.lists c 1 (Some w.members)) greatest)
      ∙ ap (λ (ls : List NodeLine). summary t.world.lines (listed_of w.members t) ls sent) all
      ∙ ap (λ (n : ℕ). summary t.world.lines (listed_of w.members t) (map node_line (all_servers t.world)) n) (sent_is ∙ ap (λ (ms : List Sent). length ms) (sym show.messages))
