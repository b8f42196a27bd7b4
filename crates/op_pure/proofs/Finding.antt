-- What an opening finds: a durable state that a server of its kind and id can be opened with.
use Rattle.std.proofs.Common.{◌≡◌, ℕ, Bool, true, false, cond, nat_eq, List, refl, sym, ap, subst}
use Rattle.std.specs.Set.{is_member}
use Rattle.std.proofs.lemmas.Bool.{cond-true, cond-false}
use Rattle.op_types.specs.Changes.{Applies, empty_durable, durable_after, new_part}
use Rattle.op_types.specs.Ranges.{IsMember}
use Rattle.op_types.specs.Rooms.{IsAtRest}
use Rattle.op_types.specs.declared.needs.Needs.{Needs}
use Rattle.op_types.specs.declared.changes.Change.{Change}
use Rattle.op_types.specs.declared.durable.Durable.{Durable}
use Rattle.op_record.specs.Ranges.{DurableInRange}
use Rattle.op_protocol.specs.State.{State}
use Rattle.op_spec.specs.Service.{base_bytes, new_service}
use Rattle.op_chain.proofs.Opened as opened
use Rattle.op_chain.specs.Chains.{CanOpen, first_state}
use Rattle.op_observer.specs.Observers.{CanWatch}
use Rattle.op_server.specs.Seats as seats
use Rattle.op_server.specs.Seats.{me_of, state_of}
use Rattle.op_server.specs.declared.seat.Seat.{Seat}
use Rattle.op_runs.specs.Possible.{kind_if}
use Rattle.op_runs.specs.World.{Kind, Votes, Observes, Node, NodeStatus, Up, Down, Failed, Opens, first_durable, durable_at_start}
use Rattle.op_bounds.specs.Laws.{StatusInRange, ObserverStatusInRange}
use Rattle.op_bounds.specs.States.{IsNamed}
use Rattle.op_watch_laws.specs.Laws.{IsWatching}
use Rattle.op_executions.specs.Servers.{CanDo, FindsWatching, ServerInRange, first_as}
use Rattle.op_pure.specs.Nodes.{CanFind, CanOpenAs, SeatKept, kind_of, node_of, pure_nodes}
use Rattle.op_pure.specs.declared.node.PureNode.{PureNode}
use Rattle.op_pure.specs.declared.node.Status.TheVariants as status

-- ---- of one kind

-- a durable state in range can be opened by a server that it names
can_open : (me : ℕ) (d : Durable) → DurableInRange d → IsNamed me d → CanOpen me d
can_open me d range named = opened.can_open me d range (record { part = named.part; joining = named.joining })

-- and what observers store by an observer
can_watch : (d : Durable) → DurableInRange d → IsWatching d → CanWatch d
can_watch d range w =
    let r = (subst DurableInRange w.alone range).part in
    subst CanWatch (sym w.alone)
    (record {
      part = record { promised = w.promised; positions = record { trimmed = r.decided.0; decided = r.decided.1; small = r.len }; base = r.base };
      rest = ap (λ (n : ℕ). let x : Needs = record { entries = n; held = 0 } in x) r.room;
    })

-- no room is left in it
rests : (k : Kind) (me : ℕ) (d : Durable) → CanOpenAs k me d → IsAtRest d
rests Votes me d can = can.rest
rests Observes me d can = can.rest

-- ---- at a server in range

-- what it has stored
stored_as : (k : Kind) (ids : List ℕ) (n : Node) → ServerInRange ids k n → CanOpenAs k n.pid n.state.durable
stored_as Votes ids n range = can_open n.pid n.state.durable ((range.state).durable).range range.named
stored_as Observes ids n range = can_watch n.state.durable (((range.range).state).durable).range range.stored

-- what the next opening may find that isn't up
abbrev FindsAs : Kind → ℕ → NodeStatus → Type 0
FindsAs k me Up = Unit {0}
FindsAs k me (Down after) = CanOpenAs k me after
FindsAs k me (Failed count after) = CanOpenAs k me after

node_finds : (ids : List ℕ) (me : ℕ) (s : NodeStatus) → StatusInRange (IsMember ids) me s → FindsAs Votes me s
node_finds ids me Up found = tt
node_finds ids me (Down after) found = can_open me after (found.0).range found.1
node_finds ids me (Failed count after) found = can_open me after (found.0).range found.1

observer_finds : (ids : List ℕ) (me : ℕ) (s : NodeStatus) → ObserverStatusInRange (IsMember ids) s → FindsWatching s → FindsAs Observes me s
observer_finds ids me Up found watches = tt
observer_finds ids me (Down after) found watches = can_watch after found.range watches
observer_finds ids me (Failed count after) found watches = can_watch after found.range watches

finds_as : (k : Kind) (ids : List ℕ) (n : Node) → ServerInRange ids k n → FindsAs k n.pid n.status
finds_as Votes ids n range = node_finds ids n.pid n.status range.status
finds_as Observes ids n range = observer_finds ids n.pid n.status (range.range).status range.found

-- ---- at a node

either : (k : Kind) (me : ℕ) (b : Bool) (d e : Durable) → CanOpenAs k me d → CanOpenAs k me e → CanOpenAs k me (cond b e d)
either k me true d e before after = after
either k me false d e before after = before

-- it can be opened with what it finds
can_find : (k : Kind) (me : ℕ) (d : Durable) (batch : List Change) (finds_after : Bool) → Applies d batch → CanOpenAs k me d → CanOpenAs k me (durable_after d batch) → CanFind k me d batch finds_after
can_find k me d batch finds_after applies before later = record { applies = applies; rest = rests k me d before; can = either k me finds_after d (durable_after d batch) before later }

pub finds_down : (o : PureNode) (d : Durable) (batch : List Change) (finds_after : Bool) → CanDo pure_nodes (node_of o (status.Down d batch)) Opens → CanFind (kind_of o) o.pid d batch finds_after
finds_down o d batch finds_after can =
    let k : Kind = kind_of o in
    let n : Node = can.node in
    let before : CanOpenAs k o.pid d = subst (λ (e : Durable). CanOpenAs k o.pid e) can.shown.state.0 (subst (λ (p : ℕ). CanOpenAs k p n.state.durable) can.shown.pid (stored_as k can.ids n can.range)) in
    let later : CanOpenAs k o.pid (durable_after d batch) = subst (λ (p : ℕ). FindsAs k p (Down (durable_after d batch))) can.shown.pid (subst (λ (s : NodeStatus). FindsAs k n.pid s) can.shown.state.1 (finds_as k can.ids n can.range)) in
    can_find k o.pid d batch finds_after can.kept before later

pub finds_failed : (o : PureNode) (c : Seat) (count : ℕ) (batch : List Change) (finds_after : Bool) → CanDo pure_nodes (node_of o (status.Failed c count batch)) Opens → CanFind (seats.kind_of c) (me_of c) (state_of c).durable batch finds_after
finds_failed o c count batch finds_after can =
    let k : Kind = kind_of o in
    let n : Node = can.node in
    let d : Durable = (state_of c).durable in
    let kept : SeatKept k o.pid c = can.kept.0 in
    let before : CanOpenAs k o.pid d =
    subst (λ (s : State). CanOpenAs k o.pid s.durable) can.shown.state.0 (subst (λ (p : ℕ). CanOpenAs k p n.state.durable) can.shown.pid (stored_as k can.ids n can.range)) in
    let later : CanOpenAs k o.pid (durable_after d batch) = subst (λ (p : ℕ). FindsAs k p (Failed count (durable_after d batch))) can.shown.pid (subst (λ (s : NodeStatus). FindsAs k n.pid s) can.shown.state.1 (finds_as k can.ids n can.range)) in
    subst (λ (j : Kind). CanFind j (me_of c) d batch finds_after) (sym kept.kind_is)
    (subst (λ (p : ℕ). CanFind k p d batch finds_after) (sym kept.me) (can_find k o.pid d batch finds_after can.kept.1 before later))

-- ---- at the start

-- it can be opened with what a server has stored at first
first_as_is : (k : Kind) (members : List ℕ) (me : ℕ) (d : Durable) → DurableInRange d → d ≡ (first_as k members me).state.durable → CanOpenAs k me d
first_as_is Votes members me d range is = can_open me d range (subst (λ (e : Durable). IsNamed me e) (sym is) (by (is_member nat_eq members me) refl))
  where
    by : (b : Bool) → is_member nat_eq members me ≡ b → IsNamed me (durable_at_start members me)
    by true h = subst (λ (e : Durable). IsNamed me e) (sym (cond-true (is_member nat_eq members me) (first_durable members) empty_durable h)) (record { part = h; joining = tt })
    by false h = subst (λ (e : Durable). IsNamed me e) (sym (cond-false (is_member nat_eq members me) (first_durable members) empty_durable h)) (record { part = tt; joining = tt })
first_as_is Observes members me d range is = can_watch d range (record { part = new_part 1 members (base_bytes new_service); alone = is; promised = refl; accepted = refl; decided = refl })

pub can_open_first : (observes : Bool) (members : List ℕ) (me : ℕ) (d : Durable) → DurableInRange d → d ≡ (first_as (kind_if observes) members me).state.durable → CanOpenAs (kind_if observes) me d
can_open_first observes members me d range is = first_as_is (kind_if observes) members me d range is

-- with that stored it is as it begins
pub first_whole : (k : Kind) (members : List ℕ) (pid : ℕ) → first_state pid (first_as k members pid).state.durable ≡ (first_as k members pid).state
first_whole Votes members pid = refl
first_whole Observes members pid = refl
