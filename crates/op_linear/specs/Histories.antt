-- What clients may see: their calls and returns, where nodes have read requests and given out answers.
use Rattle.std.specs.Prelude.{◌≡◌, ◌≤◌, ◌++◌, ◌∷◌, [], ℕ, Bool, true, false}
use Rattle.op_types.specs.declared.answers.Answer.{Answer}
use Rattle.op_spec.specs.Machine.{IsAmong}
use Rattle.op_linear.specs.Linearizable.{ClientCall, commands, reads, ClientEvent, calls, returns, History}

-- its client, and its client's number of it
abbrev pub call_key : ClientCall → ℕ × ℕ
call_key (commands c) = (c.client, c.seq)
call_key (reads r) = (r.client, r.seq)

abbrev pub is_read_call : ClientCall → Bool
is_read_call (commands c) = false
is_read_call (reads r) = true

-- An event may come at a moment by which these calls are requested of nodes, and these answers given out: a
-- client calls before a node reads its first request, and takes any answer that was given out, late or soon.
abbrev pub MayComeAt : (ℕ → ClientCall → Type 0) → (ℕ → ClientCall → Answer → Type 0) → ℕ → ClientEvent
    → Type 0
MayComeAt requested answered k (calls x) = requested k x → ⊥
MayComeAt requested answered k (returns x a) = answered k x a

-- so these events come one after the other, from this moment on
abbrev pub ComeFrom : (ℕ → ClientCall → Type 0) → (ℕ → ClientCall → Answer → Type 0) → ℕ → History → Type 0
ComeFrom requested answered from [] = Unit {0}
ComeFrom requested answered from (e ∷ es) =
    (k : ℕ) × (from ≤ k) × MayComeAt requested answered k e × ComeFrom requested answered k es

-- A history of clients. What a node reads was called; a call returns once at most, and not before it is made;
-- and under a number a client asks for one command, and for one read, as often as it likes.
pub record IsHistory (requested : ℕ → ClientCall → Type 0) (answered : ℕ → ClientCall → Answer → Type 0)
    (h : History) : Type 0 where
  pub come : ComeFrom requested answered 0 h
  pub called : (k : ℕ) (x : ClientCall) → requested k x → IsAmong h (calls x)
  pub matched : (early late : History) (x : ClientCall) (a : Answer) → h ≡ early ++ returns x a ∷ late
      → IsAmong early (calls x)
  pub once : (early late : History) (x : ClientCall) (a b : Answer) → h ≡ early ++ returns x a ∷ late
      → IsAmong late (returns x b) → ⊥
  pub numbers : (x y : ClientCall) → IsAmong h (calls x) → IsAmong h (calls y)
      → is_read_call x ≡ is_read_call y
      → call_key x ≡ call_key y → x ≡ y
