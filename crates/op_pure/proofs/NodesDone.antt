-- What is done at a node but a step, as the world has it.
use Rattle.std.proofs.Common.{◌≡◌, ℕ, Bool, cond, List, [], ◌++◌, refl, sym, ap, subst, ◌∙◌, inl, if◌then◌else◌}
use Rattle.op_types.specs.Changes.{durable_after}
use Rattle.op_types.specs.declared.changes.Change.{Change}
use Rattle.op_types.specs.declared.durable.Durable.{Durable}
use Rattle.op_types.specs.declared.events.Input.{Input}
use Rattle.op_types.specs.declared.messages.Msg.{Msg}
use Rattle.op_protocol.specs.State.{State}
use Rattle.op_protocol.specs.Starting.{state_after_restart}
use Rattle.op_runs.specs.declared.summary.Line.{Line}
use Rattle.op_runs.specs.World.{Kind, World, Node, NodeStatus, Up, Down, Failed, Fate, Done, Stopped, Faulted, Doing, Steps, Stops, Opens, Tells, Happening, sends_as, outcome_lines, failed_outcome, told_lines, state_after_reopening, world_opened_as, world_by_status_as, world_if_down_as, world_opening_as, world_reopening_as, world_with_as}
use Rattle.op_runs.specs.Possible.{kind_if}
use Rattle.op_runs.specs.World as runs
use Rattle.op_server.specs.Seats as seats
use Rattle.op_server.specs.Seats.{me_of, state_of}
use Rattle.op_server.specs.declared.seat.Seat.{Seat}
use Rattle.op_executions.specs.Deeds.{told_of, doing_of}
use Rattle.op_executions.specs.Servers.{ShowsNode, IsNodeDone, IsDoneAt}
use Rattle.op_executions.specs.declared.deed.Told as deeds
use Rattle.op_executions.specs.declared.deed.Doing as deed
use Rattle.op_executions.specs.declared.deed.Doing.TheVariants as variant
use Rattle.op_executions.specs.declared.server.Done as given
use Rattle.op_executions.proofs.NodeDone.{nothing_done, opened_as, quietly_done, told_done}
use Rattle.op_pure.specs.declared.happening.Fate as pure
use Rattle.op_pure.specs.declared.happening.Foretold.{Foretold}
use Rattle.op_pure.specs.declared.node.PureNode.{PureNode}
use Rattle.op_pure.specs.declared.node.Status.{Status}
use Rattle.op_pure.specs.declared.node.Status.TheVariants as status
use Rattle.op_pure.specs.Happenings.{fate_of}
use Rattle.op_pure.specs.Nodes.{IsKept, HasDone, IsOpened, IsStopped, IsUp, SeatKept, StatusStopped, found_by, kind_of, node_of, pure_nodes, up_node}

-- ---- a node that is up

module _ (o : PureNode) where
  abbrev kind : Kind
  kind = kind_of o

  -- the same node, which runs so
  abbrev runs_so : Status → PureNode
  runs_so s = node_of o s

  -- it is open already
  pub open_already : (c : Seat) (fate : Fate) (finds_after : Bool) (line : ℕ) → IsKept (up_node o c) → HasDone (up_node o c) Opens fate finds_after line (up_node o c) [] []
  open_already c fate finds_after line kept =
      record { after = λ x shown. (x, shown, nothing_done kind x Opens fate finds_after line Up shown.state.1 (λ w h f. refl)); pid = refl; observes = refl; kept = kept }

  -- it stops between two steps, with nothing to store
  pub stopped : (c : Seat) (batch : List Change) (fate : Fate) (finds_after : Bool) (line : ℕ) → batch ≡ [] → HasDone (up_node o c) Stops fate finds_after line (runs_so (status.Down (state_of c).durable batch)) [] []
  stopped c batch fate finds_after line none =
      subst (λ (b : List Change). HasDone (up_node o c) Stops fate finds_after line (runs_so (status.Down (state_of c).durable b)) [] []) (sym none)
      (record {
        after = λ x shown.
            let here : x.state.durable ≡ (state_of c).durable = ap (λ (s : State). s.durable) shown.state.0 in (
              record x { status = Down x.state.durable },
              record { pid = shown.pid; state = (here, ap (λ (d : Durable). Down d) here) },
              quietly_done kind x Stops fate finds_after line Up shown.state.1 (Down x.state.durable) (λ w h f b. refl),
            );
        pid = refl;
        observes = refl;
        kept = tt;
      })

  -- ---- a node that tells something

  -- one in this state, which it tells however it runs
  tells_so : (x : Node) (s : State) (t : runs.Told) (fate : Fate) (finds_after : Bool) (line : ℕ) (told : List Line) (st : NodeStatus) → x.pid ≡ o.pid → x.state ≡ s → x.status ≡ st
      → ((w : World) (h : Happening) → world_by_status_as kind st (Tells t) h w x ≡ runs.world_telling t w x) → told ≡ told_lines t o.pid s s.durable.part → IsNodeDone kind x (Tells t) fate finds_after line x [] told
  tells_so x s t fate finds_after line told st me state runs_as telling are =
      told_done kind x (Tells t) fate finds_after line st runs_as told
      (λ w h f b at. telling w h
      ∙ ap (λ (ls : List Line). let y : World = record w { lines = w.lines ++ ls } in y)
      (ap (λ (p : ℕ). told_lines t p x.state x.state.durable.part) me ∙ ap (λ (z : State). told_lines t o.pid z z.durable.part) state ∙ sym are))

  -- one that is up, or has failed
  pub tells : (c : Seat) (t : runs.Told) (fate : Fate) (finds_after : Bool) (line : ℕ) (told : List Line) → IsKept (up_node o c) → told ≡ told_lines t o.pid (state_of c) (state_of c).durable.part
      → HasDone (up_node o c) (Tells t) fate finds_after line (up_node o c) [] told
  tells c t fate finds_after line told kept are =
      record { after = λ x shown. (x, shown, tells_so x (state_of c) t fate finds_after line told Up shown.pid shown.state.0 shown.state.1 (λ w h. refl) are); pid = refl; observes = refl; kept = kept }

  pub failed_tells : (c : Seat) (count : ℕ) (batch : List Change) (t : runs.Told) (fate : Fate) (finds_after : Bool) (line : ℕ) (told : List Line) → IsKept (runs_so (status.Failed c count batch))
      → told ≡ told_lines t o.pid (state_of c) (state_of c).durable.part → HasDone (runs_so (status.Failed c count batch)) (Tells t) fate finds_after line (runs_so (status.Failed c count batch)) [] told
  failed_tells c count batch t fate finds_after line told kept are =
      record { after = λ x shown. (x, shown, tells_so x (state_of c) t fate finds_after line told _ shown.pid shown.state.0 shown.state.1 (λ w h. refl) are); pid = refl; observes = refl; kept = kept }

  -- ---- a node that is down

  -- nothing happens there but an opening
  pub idle_down : (d : Durable) (batch : List Change) (x : deed.Doing) (fate : Fate) (finds_after : Bool) (line : ℕ) → IsKept (runs_so (status.Down d batch)) → (x ≡ variant.Opens → ⊥)
      → HasDone (runs_so (status.Down d batch)) (doing_of x) fate finds_after line (runs_so (status.Down d batch)) [] []
  idle_down d batch (variant.Steps i) fate finds_after line kept closed =
      record { after = λ x shown. (x, shown, nothing_done kind x (Steps i) fate finds_after line (Down (durable_after d batch)) shown.state.1 (λ w h f. refl)); pid = refl; observes = refl; kept = kept }
  idle_down d batch variant.Stops fate finds_after line kept closed =
      record { after = λ x shown. (x, shown, nothing_done kind x Stops fate finds_after line (Down (durable_after d batch)) shown.state.1 (λ w h f. refl)); pid = refl; observes = refl; kept = kept }
  idle_down d batch variant.Opens fate finds_after line kept closed = absurd (closed refl)
  idle_down d batch (variant.Tells t) fate finds_after line kept closed =
      record { after = λ x shown. (x, shown, nothing_done kind x (Tells (told_of t)) fate finds_after line (Down (durable_after d batch)) shown.state.1 (λ w h f. refl)); pid = refl; observes = refl; kept = kept }

  -- an opening that isn't done changes nothing
  pub still_down : (d : Durable) (batch : List Change) (fate : Fate) (finds_after : Bool) (line : ℕ) → IsKept (runs_so (status.Down d batch)) → ((w : World) (x : Node) (found : Durable) → world_opening_as kind fate w x found ≡ w)
      → HasDone (runs_so (status.Down d batch)) Opens fate finds_after line (runs_so (status.Down d batch)) [] []
  still_down d batch fate finds_after line kept idle = record {
    after = λ x shown. (
      x,
      shown,
      nothing_done kind x Opens fate finds_after line (Down (durable_after d batch)) shown.state.1
          (λ w h f. ap (λ (k : Fate). world_if_down_as kind Opens k h.finds_after (durable_after d batch) w x) f ∙ idle w x _),
    );
    pid = refl;
    observes = refl;
    kept = kept;
  }

  -- ---- a node that has failed

  -- it refuses what is proposed, and to trim
  pub failed_refuses : (c : Seat) (count : ℕ) (batch : List Change) (i : Input) (fate : Fate) (finds_after : Bool) (line : ℕ) → IsKept (runs_so (status.Failed c count batch))
      → HasDone (runs_so (status.Failed c count batch)) (Steps i) fate finds_after line (runs_so (status.Failed c count batch)) [] (outcome_lines line (failed_outcome count i))
  failed_refuses c count batch i fate finds_after line kept = record {
    after = λ x shown. (
      x,
      shown,
      told_done kind x (Steps i) fate finds_after line _ shown.state.1 (outcome_lines line (failed_outcome count i))
          (λ w h f b at. ap (λ (l : ℕ). let y : World = record w { lines = w.lines ++ outcome_lines l (failed_outcome count i) } in y) at),
    );
    pid = refl;
    observes = refl;
    kept = kept;
  }

  -- it goes down, by a stop between two steps, or in an opening
  failed_down : (c : Seat) (count : ℕ) (batch : List Change) (d : Doing) (fate : Fate) (finds_after : Bool) (line : ℕ) → IsKept (runs_so (status.Failed c count batch))
      → ((w : World) (h : Happening) (x : Node) (after : Durable) → h.fate ≡ fate → world_by_status_as kind (Failed count after) d h w x ≡ world_with_as kind w (record x { status = Down after }))
      → HasDone (runs_so (status.Failed c count batch)) d fate finds_after line (runs_so (status.Down (state_of c).durable batch)) [] []
  failed_down c count batch d fate finds_after line kept goes = record {
    after = λ x shown.
        let after : Durable = durable_after (state_of c).durable batch in (
          record x { status = Down after },
          record { pid = shown.pid; state = (ap (λ (s : State). s.durable) shown.state.0, refl) },
          quietly_done kind x d fate finds_after line (Failed count after) shown.state.1 (Down after) (λ w h f b. goes w h x after f),
        );
    pid = refl;
    observes = refl;
    kept = kept.1;
  }

  pub failed_stopped : (c : Seat) (count : ℕ) (batch : List Change) (fate : Fate) (finds_after : Bool) (line : ℕ) → IsKept (runs_so (status.Failed c count batch))
      → HasDone (runs_so (status.Failed c count batch)) Stops fate finds_after line (runs_so (status.Down (state_of c).durable batch)) [] []
  failed_stopped c count batch fate finds_after line kept = failed_down c count batch Stops fate finds_after line kept (λ w h x after f. refl)

  pub failed_stopped_opening : (c : Seat) (count : ℕ) (batch : List Change) (finds_after : Bool) (line : ℕ) → IsKept (runs_so (status.Failed c count batch))
      → HasDone (runs_so (status.Failed c count batch)) Opens Stopped finds_after line (runs_so (status.Down (state_of c).durable batch)) [] []
  failed_stopped_opening c count batch finds_after line kept =
      failed_down c count batch Opens Stopped finds_after line kept (λ w h x after f. ap (λ (k : Fate). world_reopening_as kind k after w x (if h.finds_after then after else x.state.durable)) f)

  -- in an opening that fails it keeps the new count
  pub failed_again : (c : Seat) (count new : ℕ) (batch : List Change) (finds_after : Bool) (line : ℕ) → IsKept (runs_so (status.Failed c count batch))
      → HasDone (runs_so (status.Failed c count batch)) Opens (Faulted new) finds_after line (runs_so (status.Failed c new batch)) [] []
  failed_again c count new batch finds_after line kept = record {
    after = λ x shown.
        let after : Durable = durable_after (state_of c).durable batch in (
          record x { status = Failed new after },
          record { pid = shown.pid; state = (shown.state.0, refl) },
          quietly_done kind x Opens (Faulted new) finds_after line (Failed count after) shown.state.1 (Failed new after)
              (λ w h f b. ap (λ (k : Fate). world_reopening_as kind k after w x (if h.finds_after then after else x.state.durable)) f),
        );
    pid = refl;
    observes = refl;
    kept = kept;
  }

  -- ---- a node that is opened

  -- it takes this state, and its place
  opened_so : (x : Node) (st : NodeStatus) (s : State) (c : Seat) (finds_after : Bool) (line : ℕ) (sends : List (ℕ × Msg)) → x.pid ≡ o.pid → x.status ≡ st → IsOpened kind o.pid s c sends
      → ((w : World) (h : Happening) → h.fate ≡ Done → h.finds_after ≡ finds_after → world_by_status_as kind st Opens h w x ≡ world_opened_as kind w x s)
      → (y : Node) × ShowsNode pure_nodes (up_node o c) y × IsNodeDone kind x Opens Done finds_after line y sends []
  opened_so x st s c finds_after line sends me runs_as is_open opens =
      let sends_be : sends_as kind x.pid s.durable ≡ sends = ap (λ (p : ℕ). sends_as kind p s.durable) me ∙ sym is_open.sends_are in (
        record x { state = s; status = Up },
        record { pid = me; state = (sym is_open.state, refl) },
        record {
          pid = refl;
          stored = inl refl;
          world = λ w h fate finds at here. ap (λ (z : NodeStatus). world_by_status_as kind z Opens h w x) runs_as ∙ opens w h fate finds ∙ opened_as kind w x s sends sends_be;
        },
      )

  -- one that is down
  pub opened_again : (d : Durable) (batch : List Change) (finds_after : Bool) (c : Seat) (sends : List (ℕ × Msg)) (line : ℕ) → IsOpened kind o.pid (state_after_restart o.pid (found_by finds_after d batch)) c sends
      → HasDone (runs_so (status.Down d batch)) Opens Done finds_after line (up_node o c) sends []
  opened_again d batch finds_after c sends line is_open = record {
    after = λ x shown.
        let after : Durable = durable_after d batch in
        let e : Durable = found_by finds_after d batch in
        opened_so x (Down after) (state_after_restart o.pid e) c finds_after line sends shown.pid shown.state.1 is_open
        (λ w h fate finds.
        ap (λ (f : Fate). world_if_down_as kind Opens f h.finds_after after w x) fate
        ∙ ap (λ (b : Bool). world_if_down_as kind Opens Done b after w x) finds
        ∙ ap (λ (k : Durable). world_opening_as kind Done w x (cond finds_after after k)) shown.state.0
        ∙ ap (λ (p : ℕ). world_opened_as kind w x (state_after_restart p e)) shown.pid);
    pid = refl;
    observes = refl;
    kept = is_open.seat;
  }

  -- one that has failed
  pub reopened : (b : Seat) (count : ℕ) (batch : List Change) (finds_after : Bool) (c : Seat) (sends : List (ℕ × Msg)) (line : ℕ) → SeatKept kind o.pid b
      → IsOpened (seats.kind_of b) (me_of b) (state_after_reopening (me_of b) (state_of b) (found_by finds_after (state_of b).durable batch)) c sends
      → HasDone (runs_so (status.Failed b count batch)) Opens Done finds_after line (up_node o c) sends []
  reopened b count batch finds_after c sends line kept opens =
      let after : Durable = durable_after (state_of b).durable batch in
      let e : Durable = found_by finds_after (state_of b).durable batch in
      let is_open : IsOpened kind o.pid (state_after_reopening o.pid (state_of b) e) c sends =
      subst (λ (k : Kind). IsOpened k o.pid (state_after_reopening o.pid (state_of b) e) c sends) kept.kind_is
      (subst (λ (p : ℕ). IsOpened (seats.kind_of b) p (state_after_reopening p (state_of b) e) c sends) kept.me opens) in
      record {
        after = λ x shown.
            opened_so x (Failed count after) (state_after_reopening o.pid (state_of b) e) c finds_after line sends shown.pid shown.state.1 is_open
            (λ w h fate finds.
            ap (λ (f : Fate). world_reopening_as kind f after w x (cond h.finds_after after x.state.durable)) fate
            ∙ ap (λ (z : Bool). world_reopening_as kind Done after w x (cond z after x.state.durable)) finds
            ∙ ap (λ (s : State). world_opened_as kind w x (state_after_reopening x.pid s (cond finds_after after s.durable))) shown.state.0
            ∙ ap (λ (p : ℕ). world_opened_as kind w x (state_after_reopening p (state_of b) e)) shown.pid);
        pid = refl;
        observes = refl;
        kept = is_open.seat;
      }

-- ---- what was said of the happening

-- it is done so
done_at : (f : Foretold) (old : PureNode) (d : Doing) (line : ℕ) (new : PureNode) (sends : List (ℕ × Msg)) (told : List Line) → HasDone old d (fate_of f.fate) f.finds_after line new sends told → IsDoneAt pure_nodes f old d line new sends told
done_at f old d line new sends told did = record {
  after = λ x shown.
      let y = did.after x shown in
      record { fate = fate_of f.fate; finds_after = f.finds_after; lets = (refl, refl); node = y.0; shows = y.1; done = y.2 };
  pid = did.pid;
  kind = ap kind_if did.observes;
  kept = did.kept;
}

-- what is done is what was asked
pub done_as : (f : Foretold) (old : PureNode) (x y : deed.Doing) (line : ℕ) (new : PureNode) (r : given.Done) → x ≡ y → HasDone old (doing_of y) (fate_of f.fate) f.finds_after line new r.sends r.told → IsDoneAt pure_nodes f old (doing_of x) line new r.sends r.told
done_as f old x y line new r is did = done_at f old (doing_of x) line new r.sends r.told (subst (λ (z : deed.Doing). HasDone old (doing_of z) (fate_of f.fate) f.finds_after line new r.sends r.told) (sym is) did)

-- ---- the deeds, each at a node

-- a stop between two steps
pub did_stop : (old new : PureNode) (batch : List Change) (fate : Fate) (finds_after : Bool) (line : ℕ) → batch ≡ [] → IsKept old → IsStopped old batch new → HasDone old Stops fate finds_after line new [] []
did_stop old new batch fate finds_after line none kept stops = by old.status kept stops
  where
    as_stopped : (s t : Status) → new ≡ node_of old t → HasDone (node_of old s) Stops fate finds_after line (node_of old t) [] [] → HasDone (node_of old s) Stops fate finds_after line new [] []
    as_stopped s t is did = subst (λ (n : PureNode). HasDone (node_of old s) Stops fate finds_after line n [] []) (sym is) did

    by : (s : Status) → IsKept (node_of old s) → StatusStopped old s batch new → HasDone (node_of old s) Stops fate finds_after line new [] []
    by (status.Up c) k is = as_stopped (status.Up c) (status.Down (state_of c).durable batch) is (stopped old c batch fate finds_after line none)
    by (status.Down d b) k is = as_stopped (status.Down d b) (status.Down d b) is (idle_down old d b variant.Stops fate finds_after line k (λ e. let no : variant.Stops ≡ variant.Opens = e in cc))
    by (status.Failed c count b) k is = as_stopped (status.Failed c count b) (status.Down (state_of c).durable b) is (failed_stopped old c count b fate finds_after line k)

-- what is done at a node that runs so
at_status : (old : PureNode) (s : Status) (x : Doing) (fate : Fate) (finds_after : Bool) (line : ℕ) (new : PureNode) (sends : List (ℕ × Msg)) (told : List Line) → old.status ≡ s → HasDone (node_of old s) x fate finds_after line new sends told
    → HasDone old x fate finds_after line new sends told
at_status old s x fate finds_after line new sends told is did = subst (λ (z : Status). HasDone (node_of old z) x fate finds_after line new sends told) (sym is) did

-- by the fate that it is said to have
pub as_fated : (old : PureNode) (s : Status) (x : Doing) (f : pure.Fate) (fate : Fate) (finds_after : Bool) (line : ℕ) (new : PureNode) (sends : List (ℕ × Msg)) (told : List Line) → old.status ≡ s → fate_of f ≡ fate
    → HasDone (node_of old s) x fate finds_after line new sends told → HasDone old x (fate_of f) finds_after line new sends told
as_fated old s x f fate finds_after line new sends told is fated did =
    at_status old s x (fate_of f) finds_after line new sends told is (subst (λ (k : Fate). HasDone (node_of old s) x k finds_after line new sends told) (sym fated) did)

-- and stays so
stays_so : (old : PureNode) (s : Status) (x : Doing) (fate : Fate) (finds_after : Bool) (line : ℕ) (told : List Line) → old.status ≡ s → HasDone (node_of old s) x fate finds_after line (node_of old s) [] told → HasDone old x fate finds_after line old [] told
stays_so old s x fate finds_after line told is did = subst (λ (z : Status). HasDone (node_of old z) x fate finds_after line (node_of old z) [] told) (sym is) did

kept_so : (old : PureNode) (s : Status) → old.status ≡ s → IsKept old → IsKept (node_of old s)
kept_so old s is kept = subst (λ (z : Status). IsKept (node_of old z)) is kept

-- one that is neither up nor has failed is down
abbrev IsNeither : Status → Type 0
IsNeither s = ((c : Seat) → s ≡ status.Up c → ⊥) × ((c : Seat) (count : ℕ) (batch : List Change) → s ≡ status.Failed c count batch → ⊥)

is_down : (s : Status) → IsNeither s → (d : Durable) × (batch : List Change) × (s ≡ status.Down d batch)
is_down (status.Up c) other = absurd (other.0 c refl)
is_down (status.Down d batch) other = (d, batch, refl)
is_down (status.Failed c count batch) other = absurd (other.1 c count batch refl)

-- a step at one that is down
pub no_step : (old : PureNode) (i : Input) (fate : Fate) (finds_after : Bool) (line : ℕ) → IsKept old → (IsUp old → ⊥) → ((c : Seat) (count : ℕ) (batch : List Change) → old.status ≡ status.Failed c count batch → ⊥) → HasDone old (Steps i) fate finds_after line old [] []
no_step old i fate finds_after line kept down whole =
    let s = is_down old.status (λ c is. down (c, is), whole) in
    stays_so old (status.Down s.0 s.1) (Steps i) fate finds_after line [] s.2
    (idle_down old s.0 s.1 (variant.Steps i) fate finds_after line (kept_so old (status.Down s.0 s.1) s.2 kept) (λ e. let no : variant.Steps i ≡ variant.Opens = e in cc))

-- and at one that has failed
pub refused_step : (old : PureNode) (c : Seat) (count : ℕ) (batch : List Change) (i : Input) (fate : Fate) (finds_after : Bool) (line : ℕ) → IsKept old → old.status ≡ status.Failed c count batch
    → HasDone old (Steps i) fate finds_after line old [] (outcome_lines line (failed_outcome count i))
refused_step old c count batch i fate finds_after line kept is =
    let s = status.Failed c count batch in
    stays_so old s (Steps i) fate finds_after line (outcome_lines line (failed_outcome count i)) is (failed_refuses old c count batch i fate finds_after line (kept_so old s is kept))

-- telling at one that is down
pub tells_nothing : (old : PureNode) (t : deeds.Told) (fate : Fate) (finds_after : Bool) (line : ℕ) (d : Durable) (batch : List Change) → IsKept old → old.status ≡ status.Down d batch → HasDone old (Tells (told_of t)) fate finds_after line old [] []
tells_nothing old t fate finds_after line d batch kept is =
    stays_so old (status.Down d batch) (Tells (told_of t)) fate finds_after line [] is
    (idle_down old d batch (variant.Tells t) fate finds_after line (kept_so old (status.Down d batch) is kept) (λ e. let no : variant.Tells t ≡ variant.Opens = e in cc))

-- at one that is up
pub tells_up : (old : PureNode) (c : Seat) (t : runs.Told) (fate : Fate) (finds_after : Bool) (line : ℕ) (told : List Line) → IsKept old → old.status ≡ status.Up c → told ≡ told_lines t old.pid (state_of c) (state_of c).durable.part
    → HasDone old (Tells t) fate finds_after line old [] told
tells_up old c t fate finds_after line told kept is are = stays_so old (status.Up c) (Tells t) fate finds_after line told is (tells old c t fate finds_after line told (kept_so old (status.Up c) is kept) are)

-- and at one that has failed
pub tells_failed : (old : PureNode) (c : Seat) (count : ℕ) (batch : List Change) (t : runs.Told) (fate : Fate) (finds_after : Bool) (line : ℕ) (told : List Line) → IsKept old → old.status ≡ status.Failed c count batch
    → told ≡ told_lines t old.pid (state_of c) (state_of c).durable.part → HasDone old (Tells t) fate finds_after line old [] told
tells_failed old c count batch t fate finds_after line told kept is are =
    let s = status.Failed c count batch in stays_so old s (Tells t) fate finds_after line told is (failed_tells old c count batch t fate finds_after line told (kept_so old s is kept) are)

-- an opening that isn't done, of one that hasn't failed
pub no_opening : (old : PureNode) (fate : Fate) (finds_after : Bool) (line : ℕ) → IsKept old → ((w : World) (x : Node) (found : Durable) → world_opening_as (kind_of old) fate w x found ≡ w)
    → ((c : Seat) (count : ℕ) (batch : List Change) → old.status ≡ status.Failed c count batch → ⊥) → HasDone old Opens fate finds_after line old [] []
no_opening old fate finds_after line kept idle whole = by old.status kept whole
  where
    by : (s : Status) → IsKept (node_of old s) → ((c : Seat) (count : ℕ) (batch : List Change) → s ≡ status.Failed c count batch → ⊥) → HasDone (node_of old s) Opens fate finds_after line (node_of old s) [] []
    by (status.Up c) k w = open_already old c fate finds_after line k
    by (status.Down d batch) k w = still_down old d batch fate finds_after line k idle
    by (status.Failed c count batch) k w = absurd (w c count batch refl)

-- one that has failed stops in it
pub stopped_opening : (old new : PureNode) (c : Seat) (count : ℕ) (kept_batch batch : List Change) (finds_after : Bool) (line : ℕ) → IsKept old → old.status ≡ status.Failed c count kept_batch → IsStopped old batch new
    → HasDone old Opens Stopped finds_after line new [] []
stopped_opening old new c count kept_batch batch finds_after line kept is stops =
    let s = status.Failed c count kept_batch in
    let left : new ≡ node_of old (status.Down (state_of c).durable kept_batch) = subst (λ (z : Status). StatusStopped old z batch new) is stops in
    at_status old s Opens Stopped finds_after line new [] [] is
    (subst (λ (n : PureNode). HasDone (node_of old s) Opens Stopped finds_after line n [] []) (sym left) (failed_stopped_opening old c count kept_batch finds_after line (kept_so old s is kept)))

-- or a disk of it fails again
pub failed_opening : (old new : PureNode) (c : Seat) (count more : ℕ) (batch : List Change) (finds_after : Bool) (line : ℕ) → IsKept old → old.status ≡ status.Failed c count batch → new ≡ node_of old (status.Failed c more batch)
    → HasDone old Opens (Faulted more) finds_after line new [] []
failed_opening old new c count more batch finds_after line kept is fails =
    let s = status.Failed c count batch in
    at_status old s Opens (Faulted more) finds_after line new [] [] is
    (subst (λ (n : PureNode). HasDone (node_of old s) Opens (Faulted more) finds_after line n [] []) (sym fails) (failed_again old c count more batch finds_after line (kept_so old s is kept)))

-- an opening that is done: of one that is up, of one that is down, and of one that has failed
pub opens_up : (old : PureNode) (c : Seat) (finds_after : Bool) (line : ℕ) → IsKept old → status.Up c ≡ old.status → HasDone old Opens Done finds_after line (up_node old c) [] []
opens_up old c finds_after line kept is =
    let s = status.Up c in
    at_status old s Opens Done finds_after line (node_of old s) [] [] (sym is) (open_already old c Done finds_after line (kept_so old s (sym is) kept))

pub opens_down : (old : PureNode) (d : Durable) (batch : List Change) (c : Seat) (finds_after : Bool) (line : ℕ) (sends : List (ℕ × Msg)) → status.Down d batch ≡ old.status
    → IsOpened (kind_of old) old.pid (state_after_restart old.pid (found_by finds_after d batch)) c sends → HasDone old Opens Done finds_after line (up_node old c) sends []
opens_down old d batch c finds_after line sends is is_open =
    at_status old (status.Down d batch) Opens Done finds_after line (up_node old c) sends [] (sym is) (opened_again old d batch finds_after c sends line is_open)

pub opens_failed : (old : PureNode) (b : Seat) (count : ℕ) (batch : List Change) (c : Seat) (finds_after : Bool) (line : ℕ) (sends : List (ℕ × Msg)) → IsKept old → status.Failed b count batch ≡ old.status
    → IsOpened (seats.kind_of b) (me_of b) (state_after_reopening (me_of b) (state_of b) (found_by finds_after (state_of b).durable batch)) c sends → HasDone old Opens Done finds_after line (up_node old c) sends []
opens_failed old b count batch c finds_after line sends kept is is_open =
    let s = status.Failed b count batch in
    at_status old s Opens Done finds_after line (up_node old c) sends [] (sym is) (reopened old b count batch finds_after c sends line (kept_so old s (sym is) kept).0 is_open)

-- ---- what is handed on

-- nothing was sent, and this told
pub only : (r : given.Done) (old new : PureNode) (x : Doing) (fate : Fate) (finds_after : Bool) (line : ℕ) (told : List Line) → r ≡ record { sends = []; told = told } → HasDone old x fate finds_after line new [] told
    → HasDone old x fate finds_after line new r.sends r.told
only r old new x fate finds_after line told is did = subst (λ (d : given.Done). HasDone old x fate finds_after line new d.sends d.told) (sym is) did

-- this node, with this sent and nothing told
pub as_opened : (old : PureNode) (x : Doing) (fate : Fate) (finds_after : Bool) (line : ℕ) (seat c : Seat) (r : given.Done) (sends : List (ℕ × Msg)) → seat ≡ c → r ≡ record { sends = sends; told = [] }
    → HasDone old x fate finds_after line (up_node old c) sends [] → HasDone old x fate finds_after line (up_node old seat) r.sends r.told
as_opened old x fate finds_after line seat c r sends same is did =
    subst (λ (e : Seat). HasDone old x fate finds_after line (up_node old e) r.sends r.told) (sym same)
    (subst (λ (d : given.Done). HasDone old x fate finds_after line (up_node old c) d.sends d.told) (sym is) did)
