-- An execution beside a run of the pure machine, and what a node that moves leaves of that.
use Rattle.std.proofs.Common.{◌≡◌, ◌<◌, ℕ, List, ◌++◌, Some, None, refl, sym, ◌∙◌, subst, slice_get}
use Rattle.op_types.specs.Changes.{durable_after}
use Rattle.op_types.specs.declared.durable.Durable.{Durable}
use Rattle.op_types.specs.declared.events.Input.{Input}
use Rattle.op_types.specs.declared.events.Input.TheVariants as input
use Rattle.op_runs.specs.declared.summary.Line.{Line}
use Rattle.op_spec.specs.Machine.{Machine}
use Rattle.op_protocol.specs.State as table
use Rattle.op_protocol.specs.Rows.{step_plan}
use Rattle.op_runs.specs.World.{Node, NodeStatus, Up, Down, Failed, Sent, node_at, with_node}
use Rattle.op_runs.specs.Run.{Execution}
use Rattle.op_configurations.specs.Servers.{Letter}
use Rattle.op_configurations.specs.Worlds as worlds
use Rattle.op_configurations.specs.Worlds.{Life, Running, Server, Happening, start, machine_of}
use Rattle.op_configurations.proofs.Tale.{slice_more}
use Rattle.op_refinement.proofs.Pure as pure
use Rattle.op_refinement.proofs.View.{Each}
use Rattle.op_refinement.proofs.Relation.{StateRel, IfServes, AreLetters}
use Rattle.op_refinement.proofs.Letters.{letters-append}
use Rattle.op_refinement.proofs.Inputs.{event_of}
use Rattle.op_refinement.proofs.NodeLists.{Apart, with-each, with-apart, with-none}
use Rattle.op_refinement.proofs.Worlds.{lists_of, world_of, state_of, state_on, serves_on, letters_on}

-- ---- a node beside a server

-- a message that is delivered was sent to this node, by this number, as this letter
abbrev pub IfSent : List Sent → List Letter → ℕ → ℕ → Letter → Input → Type 0
IfSent messages soup me n m (input.Deliver q msg) = (slice_get messages n ≡ Some (record { from = q; to = me; message = msg })) × (slice_get soup n ≡ Some m)
IfSent messages soup me n m _ = Unit {0}

-- how a node that is down stopped, or one that failed did: between two steps, or inside the step of this input
pub data StoppedAs (messages : List Sent) (soup : List Letter) (me : ℕ) (s : table.State) (after : Durable) (life : Life) : Type 0 where
  Between : life ≡ worlds.Down None → after ≡ s.durable → StoppedAs messages soup me s after life
  Inside : (x : Input) (n : ℕ) (m : Letter) → life ≡ worlds.Down (event_of me s n m x) → after ≡ durable_after s.durable (step_plan me s x).batch → IfSent messages soup me n m x → StoppedAs messages soup me s after life

-- a node that is up runs; one that is down, or has failed, is found as that says: its server is down
abbrev pub IfStatus : List Sent → List Letter → ℕ → table.State → NodeStatus → Life → Type 0
IfStatus messages soup me s Up life = life ≡ Running
IfStatus messages soup me s (Down after) life = StoppedAs messages soup me s after life
IfStatus messages soup me s (Failed count after) life = StoppedAs messages soup me s after life

-- a node is the server of its id
pub record NodeRel (first : List ℕ) (ks : List Happening) (messages : List Sent) (n : Node) : Type 0 where
  pub low : n.pid < pure.owner_count
  pub rel : StateRel (lists_of first ks) n.state.durable n.state.volatile (state_of first ks n.pid)
  pub serves : IfServes (lists_of first ks) n.state.service (state_of first ks n.pid).part
  pub status : IfStatus messages (world_of first ks).soup n.pid n.state n.status ((world_of first ks).servers n.pid).life

-- an execution so far is beside the run of these happenings
pub record IsBeside (first : List ℕ) (ks : List Happening) (t : Execution) : Type 0 where
  pub machine : t.machine ≡ machine_of first ks
  pub nodes : Each (NodeRel first ks t.world.messages) t.world.nodes
  pub apart : Apart t.world.nodes
  pub letters : AreLetters (lists_of first ks) t.world.messages (world_of first ks).soup
  -- a server that no node is stays as it began
  pub elsewhere : (q : ℕ) → node_at t.world.nodes q ≡ None → (world_of first ks).servers q ≡ (start first).servers q

-- where it runs
pub start_runs : (first : List ℕ) (q : ℕ) → ((start first).servers q).life ≡ Running
unfolding start
start_runs first q = refl

-- ---- one server moves

-- what happens late changes no server but p, and adds these letters
pub record Goes (first : List ℕ) (ks late : List Happening) (p : ℕ) : Type 0 where
  pub sends : List Letter
  pub soup : (world_of first (ks ++ late)).soup ≡ (world_of first ks).soup ++ sends
  pub others : (q : ℕ) → (q ≡ p → ⊥) → (world_of first (ks ++ late)).servers q ≡ (world_of first ks).servers q

-- what was sent stays sent
sent_more : (messages more : List Sent) (soup letters : List Letter) (me n : ℕ) (m : Letter) (x : Input) → IfSent messages soup me n m x → IfSent (messages ++ more) (soup ++ letters) me n m x
sent_more messages more soup letters me n m (input.Deliver q msg) k = (slice_more messages more n _ k.0, slice_more soup letters n m k.1)
sent_more messages more soup letters me n m input.Tick k = tt
sent_more messages more soup letters me n m (input.Commands c) k = tt
sent_more messages more soup letters me n m (input.Stop members) k = tt
sent_more messages more soup letters me n m input.TrimNow k = tt
sent_more messages more soup letters me n m (input.Read r) k = tt
sent_more messages more soup letters me n m (input.Up q) k = tt
sent_more messages more soup letters me n m (input.Down q) k = tt

stopped_more : (messages more : List Sent) (soup letters : List Letter) (me : ℕ) (s : table.State) (after : Durable) (life : Life) → StoppedAs messages soup me s after life → StoppedAs (messages ++ more) (soup ++ letters) me s after life
stopped_more messages more soup letters me s after life (Between a b) = Between a b
stopped_more messages more soup letters me s after life (Inside x n m a b c) = Inside x n m a b (sent_more messages more soup letters me n m x c)

status_more : (messages more : List Sent) (soup letters : List Letter) (me : ℕ) (s : table.State) (status : NodeStatus) (life : Life) → IfStatus messages soup me s status life → IfStatus (messages ++ more) (soup ++ letters) me s status life
status_more messages more soup letters me s Up life k = k
status_more messages more soup letters me s (Down after) life k = stopped_more messages more soup letters me s after life k
status_more messages more soup letters me s (Failed count after) life k = stopped_more messages more soup letters me s after life k

module _ (first : List ℕ) (ks late : List Happening) (p : ℕ) (g : Goes first ks late p) where
  -- another node stays beside its server
  pub other_rel : (messages more : List Sent) (j : Node) → (j.pid ≡ p → ⊥) → NodeRel first ks messages j → NodeRel first (ks ++ late) (messages ++ more) j
  other_rel messages more j d k =
      let same : (world_of first (ks ++ late)).servers j.pid ≡ (world_of first ks).servers j.pid = g.others j.pid d in
      record {
        low = k.low;
        rel = subst (λ (sv : Server). StateRel (lists_of first (ks ++ late)) j.state.durable j.state.volatile sv.state) (sym same) (state_on first ks late j.pid j.state.durable j.state.volatile k.rel);
        serves = subst (λ (sv : Server). IfServes (lists_of first (ks ++ late)) j.state.service sv.state.part) (sym same) (serves_on first ks late j.pid j.state.service k.serves);
        status = subst (λ (sv : Server). IfStatus (messages ++ more) (world_of first (ks ++ late)).soup j.pid j.state j.status sv.life) (sym same)
            (subst (λ (soup : List Letter). IfStatus (messages ++ more) soup j.pid j.state j.status ((world_of first ks).servers j.pid).life) (sym g.soup)
            (status_more messages more (world_of first ks).soup g.sends j.pid j.state j.status ((world_of first ks).servers j.pid).life k.status));
      }

  -- a node moves: all are beside the run that goes on
  pub beside_moved : (t : Execution) (b : IsBeside first ks t) (n : Node) → ((q : ℕ) → q ≡ n.pid → node_at (with_node t.world.nodes n) q ≡ None → ⊥) → n.pid ≡ p → (more : List Sent) → AreLetters (lists_of first (ks ++ late)) more g.sends → NodeRel first (ks ++ late) (t.world.messages ++ more) n
      → (lines : List Line) (m : Machine) → m ≡ machine_of first (ks ++ late) → IsBeside first (ks ++ late) (record { world = record t.world { nodes = with_node t.world.nodes n; messages = t.world.messages ++ more; lines = lines }; machine = m })
  beside_moved t b n here own more said new lines m is = record {
    machine = is;
    nodes = with-each (NodeRel first ks t.world.messages) (NodeRel first (ks ++ late) (t.world.messages ++ more)) t.world.nodes n b.apart b.nodes (λ j d k. other_rel t.world.messages more j (λ e. d (e ∙ sym own)) k) new;
    apart = with-apart t.world.nodes n b.apart;
    letters = subst (λ (soup : List Letter). AreLetters (lists_of first (ks ++ late)) (t.world.messages ++ more) soup) (sym g.soup)
        (letters-append (lists_of first (ks ++ late)) t.world.messages more (world_of first ks).soup g.sends (letters_on first ks late t.world.messages b.letters) said);
    elsewhere = λ q none. g.others q (λ e. here q (e ∙ sym own) none) ∙ b.elsewhere q (with-none t.world.nodes n q none);
  }
