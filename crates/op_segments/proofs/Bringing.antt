-- What is brought to a node that joins, and that it takes, is what it holds then.
use Rattle.std.proofs.Common.{◌≡◌, ℕ, Bool, true, false, cond, ◌&&◌, List, [], ◌∷◌, refl}
use Rattle.std.specs.Prelude.{◌==◌, not, nat_le, Option, Some, None, is_some}
use Rattle.op_types.specs.Stages.{Pieces, with_piece, whole_bytes}
use Rattle.op_types.specs.declared.log.Entry.{Entry}
use Rattle.op_types.specs.declared.changes.Change.{Change}
use Rattle.op_types.specs.declared.changes.Change.TheVariants as change
use Rattle.op_types.specs.declared.durable.Joining.{Joining}
use Rattle.op_types.specs.declared.messages.Body.TheVariants as body
use Rattle.op_types.specs.declared.runs.Piece.{Piece}
use Rattle.op_protocol.specs.Bases.{is_base}
use Rattle.op_protocol.specs.Joining.{new_entries, takes_base, takes_entries, takes_piece, base_once, brought_to}
use Rattle.op_segments.specs.Brought.{stands_in, held_base, held_entries}
use Rattle.op_segments.specs.Staging.{completed}

base_by : (a b c d : Bool) (l : List Change) → (a && (b && (c && d))) ≡ true → cond (a && (b && (c && d))) (Some l) None ≡ Some (cond (b && c) l [])
base_by true true true true l is = refl
base_by true true true false l is = absurd cc
base_by true true false d l is = absurd cc
base_by true false c d l is = absurd cc
base_by false b c d l is = absurd cc

-- a base
pub base_held : (j : Joining) (o : Option Pieces) (c at : ℕ) (bytes : List ℕ) → takes_base j c at bytes ≡ true → brought_to (Some j) o c (body.BasePart at bytes) ≡ Some (held_base j at bytes)
base_held j o c at bytes takes = base_by (j.conf == c) (not (is_some j.base)) (nat_le at j.len) (is_base bytes) (change.JoinBase at bytes ∷ []) takes

entries_by : (a b : Bool) (l : List Change) → (a && b) ≡ true → cond (a && b) (Some l) None ≡ Some (cond b l [])
entries_by true true l is = refl
entries_by true false l is = absurd cc
entries_by false b l is = absurd cc

-- entries
pub entries_held : (j : Joining) (o : Option Pieces) (c at : ℕ) (es : List Entry) → takes_entries j c at es ≡ true → brought_to (Some j) o c (body.Segment at es) ≡ Some (held_entries j at es)
entries_held j o c at es takes = entries_by (j.conf == c) (stands_in j at es) (new_entries j at es) takes

piece_by : (b : Bool) (j : Joining) (c at : ℕ) (w : Option (List ℕ)) → cond b (base_once j c at w) None ≡ base_once j c at (cond b w None)
piece_by true j c at w = refl
piece_by false j c at w = refl

-- a piece brings what the base does that it completes
pub piece_brought : (j : Joining) (o : Option Pieces) (c : ℕ) (p : Piece) → brought_to (Some j) o c (body.BasePiece p) ≡ base_once j c p.at (completed j o c p)
piece_brought j o c p = piece_by (takes_piece j c p) j c p.at (whole_bytes (with_piece o p).bytes)
