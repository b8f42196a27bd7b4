-- What comes of an input to a node that is served, and what then holds of the node.
use Rattle.std.specs.Prelude.{◌≡◌, ◌⊎◌, ◌++◌, ◌∷◌, [], ℕ, List, map, Bool, true, false, Option, Some, None, option_map, Result, Ok, Err}
use Rattle.op_types.specs.declared.durable.Durable.{Durable}
use Rattle.op_types.specs.declared.events.Input.{Input}
use Rattle.op_types.specs.declared.events.Input.TheVariants as input
use Rattle.op_outside.specs.Causes.{Rises}
use Rattle.op_types.specs.declared.given.Given.{Given}
use Rattle.op_serving.specs.declared.node.StepFail.{StepFail}
use Rattle.op_serving.specs.declared.node.StepFail.TheVariants.{DiskFail, Damaged, NoMemory}
use Rattle.op_serving.specs.Cores.{Standing, gives, after_input, faulted, reopens, reopened, given_again}

-- what came of an input
pub data Fate : Type 0 where
  done : Fate
  finds : Durable → Fate  -- the node had failed, is opened again, and takes this of what its disks store
  faults : ℕ → Fate  -- its disk failed, with this count
  shares : ℕ → Fate  -- it was to be stored with one before it, for which a disk failed with this count
  damaged : Fate  -- the node had failed, and what its disks store is damaged
  lost : Fate  -- it found no memory

-- the node after it
abbrev pub after_fate : Standing → Input → Fate → Standing
after_fate n i done = after_input n i
after_fate n i (finds d) = reopened d n
after_fate n i (faults k) = faulted k n
after_fate n i (shares k) = n
after_fate n i damaged = n
after_fate n i lost = n

-- When it may come: a node that failed is opened again at a tick, and does nothing else then; with a fault
-- the count of faults rose; who shares it comes behind it.
abbrev pub MayCome : Standing → Input → Fate → Type 0
MayCome n i done = reopens n i ≡ false
MayCome n i (finds d) = reopens n i ≡ true
MayCome n i (faults k) = Rises n.faults k
MayCome n i (shares k) = (option_map (λ f. f.count) n.failed ≡ Some k) × (reopens n i ≡ false)
MayCome n i damaged = reopens n i ≡ true
MayCome n i lost = Unit {0}

-- whether it tells that a session begins or ends
abbrev pub is_session : Input → Bool
is_session (input.Up q) = true
is_session (input.Down q) = true
is_session _ = false

-- Of such an input alone nothing is stored, so no disk fails for it.
abbrev pub MayFail : Input → Fate → Type 0
MayFail i (faults k) = is_session i ≡ false
MayFail i f = Unit {0}

-- ---- inputs that are given together

-- an input, and what came of it
abbrev pub Came : Type 0
Came = Input × Fate

-- the inputs alone
abbrev pub inputs_of : List Came → List Input
inputs_of cs = map (λ c. c.0) cs

-- whether it found no memory
abbrev pub is_lost : Fate → Bool
is_lost lost = true
is_lost f = false

-- whether the last of them did
abbrev pub ends_lost : List Came → Bool
ends_lost [] = false
ends_lost (c ∷ []) = is_lost c.1
ends_lost (c ∷ cs) = ends_lost cs

-- the count with which a disk failed for one of them, if it did for one before or now
abbrev pub broke_by : Option ℕ → Fate → Option ℕ
broke_by None (faults k) = Some k
broke_by broke f = broke

-- An input shares the fault of one before it, with which it was to be stored, and no other.
abbrev pub IsTogether : Option ℕ → Fate → Type 0
IsTogether None (shares k) = ⊥
IsTogether None f = Unit {0}
IsTogether (Some k) lost = Unit {0}
IsTogether (Some k) f = f ≡ shares k

-- nothing comes behind one that found no memory
abbrev pub IsLast : Fate → List Came → Type 0
IsLast f cs = is_lost f ≡ true → cs ≡ []

-- how a step answers that tells it
abbrev pub Tells : Result Given StepFail → Standing → Input → Fate → Type 0
Tells (Ok given) n i done = given ≡ gives n i
Tells (Ok given) n i (finds d) = given ≡ given_again n d
Tells (Err (DiskFail k)) n i (faults j) = k ≡ j
Tells (Err (DiskFail k)) n i (shares j) = k ≡ j
Tells (Err Damaged) n i damaged = Unit {0}
Tells (Err NoMemory) n i lost = Unit {0}
Tells result n i f = ⊥

-- What a step did: one of these came of it and is told, and the node is what it makes of it; and so it is
-- with what its disks store.
pub record Steps {K : Type 0} (standing : K → Standing) (stores : K → List Came → K → Type 0)
    (old : K) (x : Input) (result : Result Given StepFail) (new : K) : Type 0 where
  pub fate : Fate
  pub alone : IsTogether None fate
  pub fails : MayFail x fate
  pub may : MayCome (standing old) x fate
  pub tells : Tells result (standing old) x fate
  pub node : standing new ≡ after_fate (standing old) x fate
  pub stored : stores old ((x, fate) ∷ []) new

-- ---- several inputs that are stored together

-- the node after these
abbrev pub after_all : Standing → List Came → Standing
after_all n [] = n
after_all n (c ∷ cs) = after_all (after_fate n c.0 c.1) cs

-- They may come one after the other, where a disk had failed with this count for one before them or for none.
-- The last alone may have found no memory.
abbrev pub MayComeAll : Standing → Option ℕ → List Came → Type 0
MayComeAll n broke [] = Unit {0}
MayComeAll n broke (c ∷ cs) =
    MayCome n c.0 c.1 × IsTogether broke c.1 × IsLast c.1 cs
    × MayComeAll (after_fate n c.0 c.1) (broke_by broke c.1) cs

-- each is told in its place
abbrev pub TellAll : List (Result Given StepFail) → Standing → List Came → Type 0
TellAll [] n cs = cs ≡ []
TellAll (r ∷ rs) n [] = ⊥
TellAll (r ∷ rs) n (c ∷ cs) = Tells r n c.0 c.1 × TellAll rs (after_fate n c.0 c.1) cs

-- What came of inputs that were given together, of which these are left: of each up to the first that
-- found no memory.
pub record StepsAll {K : Type 0} (standing : K → Standing) (stores : K → List Came → K → Type 0)
    (old : K) (xs rest : List Input) (results : List (Result Given StepFail)) (new : K) : Type 0 where
  pub came : List Came
  pub split : xs ≡ inputs_of came ++ rest
  pub ends : (rest ≡ []) ⊎ (ends_lost came ≡ true)
  pub may : MayComeAll (standing old) None came
  pub tell : TellAll results (standing old) came
  pub node : standing new ≡ after_all (standing old) came
  pub stored : stores old came new
