-- Inputs that are given together: each group of them that is stored by one commit, or one input alone.
use Rattle.std.specs.Prelude.{◌≡◌, ◌<◌, ◌⊎◌, ◌-◌, ◌++◌, ◌∷◌, [], ℕ, List, length, take, replicate, All, Bool, true, false, None, Some, Result, Ok, Err, IfOk}
use Rattle.op_types.specs.declared.changes.Change.{Change}
use Rattle.op_types.specs.declared.durable.Durable.{Durable}
use Rattle.op_types.specs.declared.events.Input.{Input}
use Rattle.op_types.specs.declared.events.Input.TheVariants as input
use Rattle.op_outside.specs.Disks.{DiskState}
use Rattle.op_protocol.specs.State.{State, state_after}
use Rattle.op_runs.specs.World.{Kind, plan_as}
use Rattle.op_node.specs.Openings.{TakesWhole}
use Rattle.op_node.specs.Nodes.{NodeState, node_of}
use Rattle.op_node.specs.declared.bound.Bound.{Bound}
use Rattle.op_node.specs.Taking.{LeadsFrom, StoresAtOnce, most_before_step}
use Rattle.op_node.specs.declared.node.Node.{Node}
use Rattle.op_node.specs.declared.record.Record.{Record}
use Rattle.op_serving.specs.Cores.{given_of}
use Rattle.op_serving.specs.Fates.{Fate, done, finds, faults, shares, damaged, lost, is_lost, Came, inputs_of, ends_lost, MayComeAll, TellAll}
use Rattle.op_serving.specs.Ranges.{GivenInRange}
use Rattle.op_types.specs.declared.given.Given.{Given}
use Rattle.op_serving.specs.declared.node.StepFail.{StepFail}
use Rattle.op_serving.specs.declared.node.StepFail.TheVariants as fails
use Rattle.op_core.specs.Disks.{StepStores}
use Rattle.op_core.specs.NodeCores.{IsServable, standing_of}
use Rattle.op_core.specs.declared.end.End.{End}
use Rattle.op_core.specs.declared.end.End.TheVariants.{Settled, Broke, Lost}
use Rattle.op_core.specs.declared.node_core.NodeCore.{NodeCore}

-- what a step answers
abbrev pub Told : Type 0
Told = Result Given StepFail

-- a disk failed, with this count
abbrev pub failed_with : ℕ → Told
failed_with count = Err (fails.DiskFail count)

-- no memory was found
abbrev pub starved : Told
starved = Err fails.NoMemory

-- what it gives out, if anything, is in range
abbrev pub ToldInRange : Told → Type 0
ToldInRange r = IfOk r GivenInRange

-- a tick is stored by itself
abbrev pub IsCalm : Input → Type 0
IsCalm input.Tick = ⊥
IsCalm x = Unit {0}

-- ---- how they end

-- others may come behind it as they would alone
abbrev pub is_settled : Fate → Bool
is_settled done = true
is_settled (finds d) = true
is_settled (faults k) = false
is_settled (shares k) = false
is_settled damaged = true
is_settled lost = false

-- so they end
abbrev pub EndsAs : End → List Came → Type 0
EndsAs Settled cs = All (λ c. is_settled c.1 ≡ true) cs
EndsAs Broke cs = All (λ c. is_lost c.1 ≡ false) cs
EndsAs Lost cs = ends_lost cs ≡ true

-- the others may be taken then; or none is left, or the last found no memory
abbrev pub EndsSo : Bool → List Input → List Came → Type 0
EndsSo true rest cs = All (λ c. is_settled c.1 ≡ true) cs
EndsSo false rest cs = (rest ≡ []) ⊎ (ends_lost cs ≡ true)

-- how one ends
abbrev pub end_of : Told → End
end_of (Ok given) = Settled
end_of (Err (fails.DiskFail count)) = Broke
end_of (Err fails.Damaged) = Settled
end_of (Err fails.NoMemory) = Lost

-- the first of these is lost, if there is one
abbrev pub LosesNext : List Input → List Input → List Told → List Told → Type 0
LosesNext [] rest before after = (rest ≡ []) × (after ≡ before)
LosesNext (x ∷ xs) rest before after = (rest ≡ xs) × (after ≡ before ++ starved ∷ [])

-- ---- inputs of a node that is up

-- the state behind these inputs
abbrev pub state_all : Kind → ℕ → State → List Input → State
state_all k me s [] = s
state_all k me s (x ∷ xs) = state_all k me (state_after s (plan_as k me s x)) xs

-- what they give out
abbrev pub told_all : Kind → ℕ → State → List Input → List Told
told_all k me s [] = []
told_all k me s (x ∷ xs) =
    Ok (given_of (plan_as k me s x)) ∷ told_all k me (state_after s (plan_as k me s x)) xs

-- what they store
abbrev pub changes_all : Kind → ℕ → State → List Input → List Change
changes_all k me s [] = []
changes_all k me s (x ∷ xs) =
    (plan_as k me s x).batch ++ changes_all k me (state_after s (plan_as k me s x)) xs

-- what they store at a node
abbrev pub changes_at : NodeState → List Input → List Change
changes_at n xs = changes_all n.kind n.me n.state xs

-- a node that is up, in this state
abbrev pub up_node : Kind → ℕ → State → NodeState
up_node k me s = record { kind = k; me = me; state = s; failed = None }

-- the node behind these inputs
abbrev pub node_after : NodeState → List Input → NodeState
node_after n xs = up_node n.kind n.me (state_all n.kind n.me n.state xs)

-- nothing that is left could be stored with these changes: a tick is next, or the record may have no room
-- for another step
abbrev pub IsFull : List Change → List Input → Type 0
IsFull changes [] = Unit {0}
IsFull changes (input.Tick ∷ rest) = Unit {0}
IsFull changes (x ∷ rest) = most_before_step < length changes

-- it is stored by itself: a tick is, and each input of a node that failed
abbrev pub IsAlone : NodeState → Input → Type 0
IsAlone n x = (n.failed ≡ None) → IsCalm x → ⊥

-- ---- what comes of inputs

module _ {D : Type 0} (state : D → DiskState) where
  -- this came of inputs one after the other, and is told
  pub record Comes (old : NodeCore D) (came : List Came) (told : List Told) (new : NodeCore D) : Type 0 where
    pub may : MayComeAll (standing_of state old) None came
    pub tell : TellAll told (standing_of state old) came
    pub stored : StepStores state old came new

  -- these inputs went into one commit, and none is left that could have gone with them
  pub record GoesTogether (old : NodeCore D) (xs rest : List Input) (new : NodeCore D) : Type 0 where
    pub bound : Bound
    pub at_once : StoresAtOnce state (node_of old.node).state.durable (changes_at (node_of old.node) xs)
        old.node.store new.node.store (Ok bound)
    pub full : IsFull (changes_at (node_of old.node) xs) rest

  -- of these inputs those came that aren't left, and the answers were added
  pub record GoesOn (Ends : List Came → Type 0) (old : NodeCore D) (xs rest : List Input)
      (before after : List Told) (new : NodeCore D) : Type 0 where
    pub came : List Came
    pub told : List Told
    pub split : xs ≡ inputs_of came ++ rest
    pub added : after ≡ before ++ told
    pub comes : Comes old came told new
    pub ends : Ends came
    -- those of a node that is up, without ticks and lost ones
    pub together : (node_of old.node).failed ≡ None → All IsCalm (inputs_of came) →
        All (λ c. is_settled c.1 ≡ true) came → GoesTogether old (inputs_of came) rest new

-- ---- what is taken of a node that is up

-- the inputs that were had and not taken: none, or the last, for want of memory
abbrev pub IsLeft : Bool → List Input → Type 0
IsLeft true left = left ≡ []
IsLeft false left = (x : Input) × (left ≡ x ∷ [])

module _ {D : Type 0} where
  -- A node that is up took these inputs, and nothing of them is stored.
  pub record Took (old : Node D) (ts : List Input) (before after : List Told) (gathered : Record)
      (new : Node D) : Type 0 where
    pub node : node_of new ≡ node_after (node_of old) ts
    pub store : new.store ≡ old.store
    pub leads : LeadsFrom (node_of old).state.durable (changes_at (node_of old) ts) gathered (node_of new)
    pub added : after ≡ before ++ told_all (node_of old).kind (node_of old).me (node_of old).state ts
    pub given : All ToldInRange (told_all (node_of old).kind (node_of old).me (node_of old).state ts)
    pub calm : All IsCalm ts
    pub servable : IsServable new
    pub whole : TakesWhole (node_of old).kind (node_of old).me (node_of old).state.durable →
        TakesWhole (node_of old).kind (node_of old).me (node_of new).state.durable

  -- of these inputs those were taken that aren't left
  pub record TakesAll (is_whole : Bool) (old : Node D) (xs rest : List Input) (before after : List Told)
      (gathered : Record) (new : Node D) : Type 0 where
    pub ts : List Input
    pub left : List Input
    pub split : xs ≡ ts ++ (left ++ rest)
    pub is_left : IsLeft is_whole left
    pub took : Took old ts before after gathered new
    pub full : is_whole ≡ true → IsFull (changes_at (node_of old) ts) rest

-- What was taken is stored, or a disk fails, and then each answer from this place on tells it.
abbrev pub StoredAs : {D : Type 0} → (D → DiskState) → End → Durable → List Change → ℕ → Node D → Node D
    → List Told → List Told → Type 0
StoredAs state Settled d changes from old new before after =
    (node_of new ≡ node_of old) × (after ≡ before)
    × (bound : Bound) × StoresAtOnce state d changes old.store new.store (Ok bound)
StoredAs state Broke d changes from old new before after = (count : ℕ)
    × (node_of new ≡ record (node_of old) { failed = Some count })
    × (after ≡ take from before ++ replicate (length before - from) (failed_with count))
    × StoresAtOnce state d changes old.store new.store (Err (record { count = count }))
StoredAs state Lost d changes from old new before after = ⊥
