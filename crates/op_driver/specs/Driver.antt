-- What the driver is to its caller, and what it does whatever was done before and is lost behind.
use Rattle.std.specs.Prelude.{◌≡◌, ◌<◌, ◌++◌, [], ℕ, List, length, true, false, Option, None, Some}
use Rattle.op_serving.specs.declared.mark.Mark.{Mark}
use Rattle.op_serving.specs.declared.kind.Kind.{Kind}
use Rattle.op_serving.specs.Counts.{hello_in}
use Rattle.op_serving.specs.Cores.{Standing}
use Rattle.op_serving.specs.State.{Loop, find, is_open, is_overfull, kind_at, down_of}
use Rattle.op_serving.specs.Ranges.{KindInRange}
use Rattle.op_serving.specs.Losses.{most_marks, lost_by, IsCalm, Foretells, Grew, KeepsKinds, Stays}
use Rattle.op_serving.specs.Inputs.{State, Deed, Luck, kept, calm, rest}
use Rattle.op_serving.specs.Fates.{Came, Fate}
use Rattle.op_serving.specs.Faults.{Stepped, Walks}

-- a node that is served: what is kept beside it, how it stands, and itself
pub record Served (K : Type 0) : Type 0 where
  pub loop : Loop
  pub node : Standing
  pub core : K

-- the same, by its parts
abbrev pub served_at : {K : Type 0} → Loop → Standing → K → Served K
served_at s n k = record { loop = s; node = n; core = k }

module _ {K : Type 0} where
  -- the same, where these deeds were done before
  abbrev pub with_deeds : List Deed → Served K → State
  with_deeds before d = record { loop = d.loop; node = d.node; deeds = before }

  -- its connections that were to be closed are closed
  abbrev pub emptied : Served K → Served K
  emptied d = record d { loop = record d.loop { closes = [] } }

-- a session of this kind may begin: no Down of its peer is to come
abbrev pub MayBegin : Kind → Type 0
MayBegin kind = (down_of kind ≡ []) × KindInRange kind

-- for no session more bytes wait than may
abbrev pub IsShed : Loop → Type 0
IsShed s = (c : ℕ) → is_overfull (find c s.sessions) ≡ false

-- nor is a Down to be given
abbrev pub IsDrained : Loop → Type 0
IsDrained s = (s.downs ≡ []) × IsShed s

-- what comes of inputs is known beforehand
pub record Knows (l : Luck) (s : State) : Type 0 where
  pub marks : Foretells l.marks s.loop
  pub rest : List Fate
  pub fates : l.fates ≡ kept s.deeds ++ rest

module _ {K : Type 0} where
  -- where no session is lost any more behind it, none was to be lost before it
  abbrev pub FromCalm : Served K → Served K → Type 0
  FromCalm d e = (marks : List Mark) → Foretells marks e.loop → IsCalm marks e.loop → IsCalm marks d.loop

-- what may be said of the marks at a place
abbrev pub Chance : Type 1
Chance = List Mark → Loop → Type 0

-- no more than that they come
abbrev pub Any : List Mark → Loop → Type 0
Any marks s = Unit {0}

-- what it is to go from one state to another
abbrev pub Way : Type 1
Way = Luck → State → State → Type 0

-- what inputs that are stored together are to a node's disks, by what came of them
abbrev pub Stores : Type 0 → Type 1
Stores K = K → List Came → K → Type 0

module _ {K : Type 0} (stores : Stores K) where
  -- the node went from one to the other by the inputs of these deeds
  pub record Went (d : Served K) (deeds : List Deed) (e : Served K) : Type 0 where
    pub steps : Stepped d.node deeds e.node
    pub walks : Walks stores d.core deeds e.core

  -- By these deeds one goes this way, whatever was done before and is lost behind. Of the marks behind it `C`
  -- is said, and of those before it that gives `A`.
  pub record Run (A C : Chance) (W : Way) (d e : Served K) : Type 0 where
    pub deeds : List Deed
    pub grew : Grew d.loop e.loop
    pub went : Went d deeds e
    pub sure : (marks : List Mark) → Foretells marks e.loop → C marks e.loop → A marks d.loop
    pub is : (l : Luck) (before : List Deed) → Knows l (with_deeds (before ++ deeds) e) → C l.marks e.loop
        → W l (with_deeds before d) (with_deeds (before ++ deeds) e)

  -- what was done is this, where no session is lost here behind it
  abbrev pub Acts : (Luck → State → State) → Served K → Served K → Type 0
  Acts f d e = Run Any IsCalm (λ l s t. f l s ≡ t) d e

  -- the same of what may come behind something else
  abbrev pub Does : (Luck → State → State) → Served K → Served K → Type 0
  Does f d e = Run IsCalm IsCalm (λ l s t. f l s ≡ t) d e

  -- an input was given, and what was done at once is this
  pub record Enters (f : Luck → State → State) (d e : Served K) : Type 0 where
    pub run : Run IsCalm Any (λ l s t. f l s ≡ calm l t) d e
    pub kinds : KeepsKinds d.loop e.loop

  -- an input and the Downs behind it were given, and it comes to rest so
  pub record Gives (f : Luck → State → State) (d e : Served K) : Type 0 where
    pub run : Run IsCalm Any (λ l s t. f l s ≡ rest l t) d e
    pub kinds : KeepsKinds d.loop e.loop
    pub stays : Stays d.loop e.loop
    pub none : IsDrained e.loop

  -- sessions ended and Downs were given, and it comes to rest where it did
  pub record Drained (d e : Served K) : Type 0 where
    pub run : Run Any Any (λ l s t. rest l s ≡ rest l t) d e
    pub kinds : KeepsKinds d.loop e.loop
    pub calm : FromCalm d e

  -- a session was lost for want of memory, and its peer went down
  pub record Loses (c : ℕ) (d e : Served K) : Type 0 where
    pub there : is_open c d.loop ≡ true
    pub few : length d.loop.lost < most_marks
    pub stays : Stays d.loop e.loop
    pub none : IsDrained e.loop
    pub marked : (marks : List Mark) → Foretells marks e.loop → Foretells marks (lost_by c d.loop)
    pub run : Run Any Any
        (λ l s t. (rest l s ≡ rest l t) × (find c (rest l s).loop.sessions ≡ None)) d e

-- a call is over: it is the same turn and happening, and nothing is left to be given or to end
pub record Rests (s t : Loop) : Type 0 where
  pub turn : t.place.turn ≡ s.place.turn
  pub at : t.place.at ≡ s.place.at
  pub none : IsDrained t

-- how much of the own hello is still to be written to a connection, by its session's kind
abbrev pub hello_of : Option Kind → ℕ
hello_of None = 0
hello_of (Some kind) = hello_in kind

abbrev pub hello_left : ℕ → Loop → ℕ
hello_left c s = hello_of (kind_at c s)

-- nothing is to be closed, to be given or to end, and serving goes on
pub record IsIdle (s : Loop) : Type 0 where
  pub closes : s.closes ≡ []
  pub none : IsDrained s
  pub few : length s.lost < most_marks
