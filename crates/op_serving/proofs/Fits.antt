-- Which messages a peer takes as frames.
use Rattle.std.proofs.Common.{◌≡◌, ◌≤◌, ℕ, Bool, true, false, length, Some, None, if◌then◌else◌, refl}
use Rattle.std.specs.Prelude.{nat_le}
use Rattle.std.proofs.lemmas.Bool.{and_parts, leb-true, le-leb}
use Rattle.op_types.specs.Limits.{most_peer_body}
use Rattle.op_types.specs.declared.messages.Body.{Body}
use Rattle.op_types.specs.declared.messages.Body.TheVariants as body
use Rattle.op_types.specs.declared.messages.Watch.TheVariants as watch
use Rattle.op_types.specs.declared.runs.Piece.{Piece}
use Rattle.op_types.specs.declared.messages.Msg.{Msg}
use Rattle.op_msg.specs.Forms.{addressed}
use Rattle.op_msg.specs.Ranges.{greatest_length, PieceIsShort, CountsAreShort}
use Rattle.op_serving.specs.Wire.{tells_places, tells_counts, fits_peer}
use Rattle.op_serving.specs.State.{Loop, session_of}
use Rattle.op_serving.specs.Handing.{goes_to}

places_told : (p : Piece) → tells_places p ≡ true → PieceIsShort p
places_told p e =
    let t = and_parts (nat_le p.total greatest_length) (nat_le p.from greatest_length) e in
    record { total = leb-true p.total greatest_length t.0; from = leb-true p.from greatest_length t.1 }

places_tell : (p : Piece) → PieceIsShort p → tells_places p ≡ true
places_tell p h = rw (le-leb p.total greatest_length h.total, le-leb p.from greatest_length h.from) refl

counts_told : (b : Body) → tells_counts b ≡ true → CountsAreShort b
counts_told (body.BasePiece p) e = places_told p e
counts_told (body.Watch (watch.Base members p)) e = places_told p e
counts_told (body.Watch (watch.Ask from)) e = tt
counts_told (body.Watch (watch.Shown at es)) e = tt
counts_told _ e = tt

counts_tell : (b : Body) → CountsAreShort b → tells_counts b ≡ true
counts_tell (body.BasePiece p) h = places_tell p h
counts_tell (body.Watch (watch.Base members p)) h = places_tell p h
counts_tell (body.Watch (watch.Ask from)) h = refl
counts_tell (body.Watch (watch.Shown at es)) h = refl
counts_tell _ h = refl

-- a message that a peer takes is short, and so are the numbers of bytes that it tells
pub fits_tells : (from to : ℕ) (m : Msg) → fits_peer from to m ≡ true
    → CountsAreShort m.body × (length (addressed.text (from, to, m)) ≤ most_peer_body)
unfolding fits_peer
fits_tells from to m e =
    let n : ℕ = length (addressed.text (from, to, m)) in
    let t = and_parts (tells_counts m.body) (nat_le n most_peer_body) e in
    (counts_told m.body t.0, leb-true n most_peer_body t.1)

-- where those are short it is the length of its body that tells
pub counted_fits : (from to : ℕ) (m : Msg) → CountsAreShort m.body
    → fits_peer from to m ≡ nat_le (length (addressed.text (from, to, m))) most_peer_body
unfolding fits_peer
counted_fits from to m h = rw (counts_tell m.body h) refl

-- where a message goes somewhere its peer takes it, and has this session
pub goes_tells : (m : ℕ × Msg) (s : Loop) (c : ℕ) → goes_to m s ≡ Some c
    → (fits_peer s.me m.0 m.1 ≡ true) × (session_of m.0 s ≡ Some c)
goes_tells m s c e = by_fit (fits_peer s.me m.0 m.1) refl e
  where
    by_fit : (b : Bool) → fits_peer s.me m.0 m.1 ≡ b → (if b then session_of m.0 s else None) ≡ Some c
        → (fits_peer s.me m.0 m.1 ≡ true) × (session_of m.0 s ≡ Some c)
    by_fit true fits is = (fits, is)
    by_fit false fits is = absurd cc
