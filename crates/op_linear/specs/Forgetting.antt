-- Linearizable until clients are forgotten: there is one order of all operations, in which a plain map gives
-- every answer, but in it a call may have its effect again behind a command that lets it, as one that forgets
-- its client does.
use Rattle.std.specs.Prelude.{◌≡◌, ◌++◌, ◌∷◌, [], ℕ, List, fold}
use Rattle.op_types.specs.declared.answers.Answer.{Answer}
use Rattle.op_types.specs.declared.log.Command.{Command}
use Rattle.op_types.specs.declared.log.Op.TheVariants as op
use Rattle.op_spec.specs.Machine.{IsAmong}
use Rattle.op_linear.specs.Linearizable.{Map, empty_map, map_after, map_answer, ClientCall, commands, reads, op_of, calls, returns, History}

-- a command of another client that forgets this one
abbrev pub IsForgetOf : ℕ → Command → Type 0
IsForgetOf client f = (f.op ≡ op.Forget client) × (f.client ≡ client → ⊥)

-- it forgets the client of this call; of a read nothing is kept
abbrev pub ForgetsCaller : Command → ClientCall → Type 0
ForgetsCaller f (commands c) = IsForgetOf c.client f
ForgetsCaller f (reads r) = ⊥

-- one of these lets the call take effect again
abbrev pub AnyLets : (Command → ClientCall → Type 0) → List ClientCall → ClientCall → Type 0
AnyLets Lets xs x = (f : Command) × IsAmong xs (commands f) × Lets f x

-- a call stands again only behind one that lets it
abbrev pub ComeAgain : (Command → ClientCall → Type 0) → List ClientCall → Type 0
ComeAgain Lets [] = Unit {0}
ComeAgain Lets (x ∷ xs) =
    ((between rest : List ClientCall) → xs ≡ between ++ x ∷ rest → AnyLets Lets between x)
    × ComeAgain Lets xs

-- the map that these calls make
abbrev pub map_of : List ClientCall → Map
map_of xs = fold (λ m x. map_after (op_of x) m) empty_map xs

-- At a place of an order a call has its effect. The map that all before it have made gives this answer; and
-- no call that is made later stands there or before.
pub record TakesPlace (order : List ClientCall) (x : ClientCall) (a : Answer) (later : History) : Type 0 where
  pub before : List ClientCall
  pub after : List ClientCall
  pub is : order ≡ before ++ x ∷ after
  pub answer_is : a ≡ map_answer (op_of x) (map_of before)
  pub in_time : (y : ClientCall) → IsAmong later (calls y) → IsAmong (before ++ x ∷ []) y → ⊥

-- There is an order of calls that has each which returned, at a place of this answer, and any of the others.
-- A call that no other lets take effect again stands in it once: it is linearized as ever. Each other one has
-- its effect between its call and its return, and may have it once more behind each that lets it.
pub record LinearizableUntil (Lets : Command → ClientCall → Type 0) (h : History) : Type 0 where
  pub order : List ClientCall
  pub again : ComeAgain Lets order
  pub called : (x : ClientCall) → IsAmong order x → IsAmong h (calls x)
  pub completed : (early late : History) (x : ClientCall) (a : Answer) → h ≡ early ++ returns x a ∷ late
      → TakesPlace order x a late

-- none of its calls lets one take effect again
abbrev pub NoneLets : (Command → ClientCall → Type 0) → History → Type 0
NoneLets Lets h =
    (f : Command) (x : ClientCall) → IsAmong h (calls (commands f)) → IsAmong h (calls x) → Lets f x → ⊥
