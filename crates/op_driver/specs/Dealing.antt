-- What the driver does with what stands at the front of a session.
use Rattle.std.specs.Prelude.{◌≡◌, ◌≤◌, ◌+◌, ◌⊎◌, if◌then◌else◌, [], ℕ, List, false, Option, Some, None, Result}
use Rattle.std.specs.declared.alloc.AllocError.{AllocError}
use Rattle.op_queues.specs.declared.front.Front.{Front}
use Rattle.op_serving.specs.declared.hearing.Heard.{Heard}
use Rattle.op_serving.specs.Cores.{Standing}
use Rattle.op_serving.specs.State.{Loop, find, is_open, session_of}
use Rattle.op_serving.specs.Losses.{IsCalm, Stays}
use Rattle.op_serving.specs.Inputs.{State, Luck, behind, over, rest}
use Rattle.op_serving.specs.Reading.{on_frame, on_heard, counted_if, is_peer, met, replaced, dealt_at, dealt}
use Rattle.op_queues.specs.Hearing.{TakesAt}
use Rattle.op_driver.specs.Driver.{Served, Chance, Any, Stores, Run, Does, Loses, IsShed, Rests}
use Rattle.op_command.specs.declared.said.Said.{Said}
use Rattle.op_serving.specs.Handing.{told, no_command}

-- a client is told something that is of no command
abbrev pub tells_now : {K : Type 0} → ℕ → Said → Served K → Served K
tells_now c what d = record d { loop = told c (no_command what) d.loop }

-- what was gathered is given, and the earlier session of a peer ends
abbrev pub makes_way : Luck → ℕ → ℕ → State → State
makes_way l c q s = behind l c (λ t. replaced l (session_of q t.loop) t) s

module _ {K : Type 0} where
  -- the same, of the loop of a driver
  pub record TakesOn (c : ℕ) (d : Served K) (r : Result Front AllocError) (e : Served K) : Type 0 where
    pub takes : TakesAt c d.loop r e.loop
    pub node : e.node ≡ d.node
    pub core : e.core ≡ d.core

-- no Down is to be given, and where a session is over, nothing is to end
abbrev pub DrainsAt : ℕ → Loop → Type 0
DrainsAt c s = (s.downs ≡ []) × (is_open c s ≡ false → IsShed s)

module _ {K : Type 0} (stores : Stores K) where
  -- what a frame says was dealt with by itself
  pub record HandlesAlone (line : Standing → List ℕ) (c : ℕ) (heard : Heard) (d e : Served K) : Type 0 where
    pub does : Does stores (λ l s. on_frame l line c heard s) d e
    pub stays : Stays d.loop e.loop
    pub none : DrainsAt c e.loop

  -- what a frame says was dealt with
  pub record Handles (line : Standing → List ℕ) (c : ℕ) (heard : Heard) (d e : Served K) : Type 0 where
    pub does : Does stores (λ l s. on_heard l line c heard s) d e
    pub stays : Stays d.loop e.loop
    pub none : DrainsAt c e.loop

-- one thing was done for what stands at the front, and then comes more, so many frames of this read behind it
abbrev pub Next : Type 0
Next = ℕ → State → State

module _ {K : Type 0} (stores : Stores K) where
  abbrev pub GoesOn : Chance → (Luck → Next → State → State) → ℕ → Served K → Served K → Type 0
  GoesOn A f m d e = Run stores A Any (λ l s t. (more : Next) → f l more s ≡ more m (rest l t)) d e

  -- or it was the last
  abbrev pub Ends : Chance → (Luck → Next → State → State) → Served K → Served K → Type 0
  Ends A f d e = Run stores A IsCalm (λ l s t. (more : Next) → f l more s ≡ t) d e

module _ {K : Type 0} where
  -- how many frames of this read are then dealt with
  abbrev pub CountsTo : ℕ → Option ℕ → Served K → Type 0
  CountsTo n (Some m) e = (e.loop.place.frames ≡ m) × (m ≤ n + 1)
  CountsTo n None e = Unit {0}

module _ {K : Type 0} (stores : Stores K) where
  -- what was found was dealt with, or its session was lost for want of memory
  abbrev pub TakenTo : (Luck → Next → State → State) → ℕ → Option ℕ → Served K → Served K → Type 0
  TakenTo f c (Some m) d e = GoesOn stores IsCalm f m d e
  TakenTo f c None d e = Loses stores c d e ⊎ Ends stores IsCalm f d e

  pub record Taken (f : Luck → Next → State → State) (c n : ℕ) (r : Option ℕ) (d e : Served K) : Type 0 where
    pub is : TakenTo f c r d e
    pub rests : Rests d.loop e.loop
    pub counts : CountsTo n r e

-- a frame that says this
abbrev pub framed : (Standing → List ℕ) → ℕ → Heard → ℕ → Luck → Next → State → State
framed line c heard n l more s = counted_if l line c more n (on_heard l line c heard s)

-- a peer's hello
abbrev pub greeted : (Standing → List ℕ) → ℕ → ℕ → ℕ → Luck → Next → State → State
greeted line c q n l more s = if is_peer q s.loop then met l line c more n q s else over l c s

-- what stands at the front of a connection, whatever is lost before
abbrev pub fronted : (Standing → List ℕ) → ℕ → ℕ → Luck → Next → State → State
fronted line c n l more s = let t : State = rest l s in dealt_at l line c more n (find c t.loop.sessions) t

module _ {K : Type 0} (stores : Stores K) where
  abbrev pub DealsTo : (Luck → Next → State → State) → Option ℕ → Served K → Served K → Type 0
  DealsTo f (Some m) d e = GoesOn stores Any f m d e
  DealsTo f None d e = Ends stores Any f d e

  -- what stands at the front was dealt with
  pub record Deals (line : Standing → List ℕ) (c n : ℕ) (r : Option ℕ) (d e : Served K) : Type 0 where
    pub is : DealsTo (fronted line c n) r d e
    pub rests : Rests d.loop e.loop
    pub counts : CountsTo n r e

  -- all that stands there was dealt with, at most so often
  pub record DealsAll (line : Standing → List ℕ) (c most : ℕ) (d e : Served K) : Type 0 where
    pub run : Run stores Any IsCalm (λ l s t. dealt l line c most 0 (rest l s) ≡ t) d e
    pub rests : Rests d.loop e.loop
