-- A step by which a node holds more of a closed list applies, and so does the start once it has all.
use Rattle.std.proofs.Common.{◌≡◌, ℕ, ◌+◌, ◌≤◌, ◌==◌, ◌&&◌, Bool, true, false, cond, not, List, [], ◌∷◌, ◌++◌, length, Option, Some, None, is_some, refl, sym, ap, subst, ◌∙◌}
use Rattle.std.specs.Prelude.{nat_le}
use Rattle.std.proofs.lemmas.Bool.{and_parts, both_ways, leb-true, not-true}
use Rattle.op_types.specs.Joinings.{Base, held_run}
use Rattle.op_types.specs.Changes.{joining_with, joining_option_with, durable_with, durable_after, Applies}
use Rattle.op_types.specs.Rooms.{joining_with_room}
use Rattle.op_types.specs.Stages.{Pieces}
use Rattle.op_types.specs.declared.changes.Change.{Change}
use Rattle.op_types.specs.declared.changes.Change.TheVariants as change
use Rattle.op_types.specs.declared.durable.Closed.{Closed}
use Rattle.op_types.specs.declared.durable.Durable.{Durable}
use Rattle.op_types.specs.declared.durable.Joining.{Joining}
use Rattle.op_types.specs.declared.durable.Part.{Part}
use Rattle.op_types.specs.declared.log.Entry.{Entry}
use Rattle.op_types.specs.declared.messages.Body.{Body}
use Rattle.op_types.specs.declared.messages.Body.TheVariants as body
use Rattle.op_types.specs.declared.runs.Piece.{Piece}
use Rattle.op_protocol.specs.Bases.{is_base}
use Rattle.op_protocol.specs.Joining.{new_entries, are_some, takes_base, takes_entries, base_once, brought_to}
use Rattle.op_segments.specs.Staging.{completed}
use Rattle.op_segments.proofs.Bringing.{piece_brought}
use Rattle.op_chain.specs.Bringing.{IsBrought, joining_after}

-- a batch applies whose parts do, one after the other
pub applies_both : (d : Durable) (a b : List Change) → Applies d a → Applies (durable_after d a) b → Applies d (a ++ b)
applies_both d [] b first rest = rest
applies_both d (c ∷ a) b first rest = (first.0, applies_both (durable_with d c) a b first.1 rest)

-- a value that is there by a test
pub by_test : {A : Type 0} (b : Bool) (x y : A) → cond b (Some x) None ≡ Some y → (b ≡ true) × (x ≡ y)
by_test true x y is = (refl, cc)
by_test false x y is = absurd (both_ways true (cc) refl)

no_base : (o : Option Base) → is_some o ≡ false → o ≡ None
no_base None is = refl
no_base (Some b) is = absurd (both_ways true is refl)

once_by : (j : Joining) (c at : ℕ) (w : Option (List ℕ)) (batch : List Change) → base_once j c at w ≡ Some batch → (bytes : List ℕ) × (takes_base j c at bytes ≡ true) × (change.JoinBase at bytes ∷ [] ≡ batch)
once_by j c at None batch is = absurd (both_ways true (cc) refl)
once_by j c at (Some bytes) batch is =
    let taken = by_test (takes_base j c at bytes) (change.JoinBase at bytes ∷ []) batch is in (bytes, taken.0, taken.1)

-- the base that a piece completes
pub once_brought : (j : Joining) (s : Option Pieces) (c : ℕ) (p : Piece) (batch : List Change) → brought_to (Some j) s c (body.BasePiece p) ≡ Some batch
    → (bytes : List ℕ) × (takes_base j c p.at bytes ≡ true) × (change.JoinBase p.at bytes ∷ [] ≡ batch)
once_brought j s c p batch is = once_by j c p.at (completed j s c p) batch (sym (piece_brought j s c p) ∙ is)

module _ (o : Option Part) (k : Option Closed) (j : Joining) where
  abbrev node : Durable
  node = record { part = o; closed = k; joining = Some j }

  base_applies : (c at : ℕ) (bytes : List ℕ) → takes_base j c at bytes ≡ true → Applies node (change.JoinBase at bytes ∷ [])
  base_applies c at bytes takes =
      let rest = and_parts (j.conf == c) (not (is_some j.base) && (nat_le at j.len && is_base bytes)) takes in
      let free = and_parts (not (is_some j.base)) (nat_le at j.len && is_base bytes) rest.1 in
      let within = and_parts (nat_le at j.len) (is_base bytes) free.1 in
      ((no_base j.base (not-true (is_some j.base) free.0), leb-true at j.len within.0), tt)

  new_by : (at : ℕ) (es : List Entry) (b : Bool) → at + length es ≤ j.len → Applies node (cond b [] (change.JoinPart at es ∷ []))
  new_by at es true within = tt
  new_by at es false within = (within, tt)

  entries_apply : (c at : ℕ) (es : List Entry) → takes_entries j c at es ≡ true → Applies node (new_entries j at es)
  entries_apply c at es takes =
      let rest = and_parts (j.conf == c) (are_some es && nat_le (at + length es) j.len) takes in
      let within = and_parts (are_some es) (nat_le (at + length es) j.len) rest.1 in
      new_by at es (is_some (held_run j.held.items at (length es))) (leb-true (at + length es) j.len within.1)

  -- what is brought to a node that joins
  pub brought_applies : (s : Option Pieces) (c : ℕ) (b : Body) (batch : List Change) → brought_to (Some j) s c b ≡ Some batch → Applies node batch
  brought_applies s c (body.BasePart at bytes) batch is =
      let taken = by_test (takes_base j c at bytes) (change.JoinBase at bytes ∷ []) batch is in subst (Applies node) taken.1 (base_applies c at bytes taken.0)
  brought_applies s c (body.BasePiece p) batch is =
      let whole = once_brought j s c p batch is in subst (Applies node) whole.2 (base_applies c p.at whole.0 whole.1)
  brought_applies s c (body.Segment at es) batch is =
      let taken = by_test (takes_entries j c at es) (new_entries j at es) batch is in subst (Applies node) taken.1 (entries_apply c at es taken.0)
  brought_applies s c b batch is = absurd (both_ways true (cc) refl)

new_joins : (d : Durable) (j : Joining) (at : ℕ) (es : List Entry) → d.joining ≡ Some j → (b : Bool)
    → (durable_after d (cond b [] (change.JoinPart at es ∷ []))).joining ≡ Some (joining_after j (cond b [] (change.JoinPart at es ∷ [])))
new_joins d j at es here true = here
new_joins d j at es here false = ap (λ (o : Option Joining). joining_option_with o (change.JoinPart at es)) here

base_joins : (d : Durable) (j : Joining) (at : ℕ) (bytes : List ℕ) (batch : List Change) → d.joining ≡ Some j → change.JoinBase at bytes ∷ [] ≡ batch → (durable_after d batch).joining ≡ Some (joining_after j batch)
base_joins d j at bytes batch here is =
    subst (λ (b : List Change). (durable_after d b).joining ≡ Some (joining_after j b)) is
    (ap (λ (o : Option Joining). joining_option_with o (change.JoinBase at bytes)) here)

-- what is held after what is brought
pub brought_joins : (d : Durable) (j : Joining) (s : Option Pieces) (c : ℕ) (b : Body) (batch : List Change) → d.joining ≡ Some j → brought_to (Some j) s c b ≡ Some batch
    → (durable_after d batch).joining ≡ Some (joining_after j batch)
brought_joins d j s c (body.BasePart at bytes) batch here is =
    base_joins d j at bytes batch here (by_test (takes_base j c at bytes) (change.JoinBase at bytes ∷ []) batch is).1
brought_joins d j s c (body.BasePiece p) batch here is =
    let whole = once_brought j s c p batch is in base_joins d j p.at whole.0 batch here whole.2
brought_joins d j s c (body.Segment at es) batch here is =
    let taken = by_test (takes_entries j c at es) (new_entries j at es) batch is in
    subst (λ (b : List Change). (durable_after d b).joining ≡ Some (joining_after j b)) taken.1
    (new_joins d j at es here (is_some (held_run j.held.items at (length es))))
brought_joins d j s c b batch here is = absurd (both_ways true (cc) refl)

one_roomed : (k : ℕ) (j : Joining) (c : Change) → joining_with (joining_with_room k j) c ≡ joining_with_room k (joining_with j c)
one_roomed k j (change.JoinDonor q trimmed) = refl
one_roomed k j (change.JoinBase at bytes) = refl
one_roomed k j (change.JoinPart at es) = refl
one_roomed k j _ = refl

room_stays : (k : ℕ) (j : Joining) (batch : List Change) → joining_after (joining_with_room k j) batch ≡ joining_with_room k (joining_after j batch)
room_stays k j [] = refl
room_stays k j (c ∷ batch) = ap (λ (i : Joining). joining_after i batch) (one_roomed k j c) ∙ room_stays k (joining_with j c) batch

-- a node that stores nothing but this
abbrev pub joining_alone : Joining → Durable
joining_alone j = record { part = None; closed = None; joining = Some j }

-- what it holds after these changes, if they apply
pub record Holds (j : Joining) (batch : List Change) (held : Joining) : Type 0 where
  pub applies : Applies (joining_alone j) batch
  pub after : (d : Durable) → d ≡ durable_after (joining_alone j) batch → d.joining ≡ Some held

holds_alone : (j : Joining) (batch : List Change) → IsBrought j batch → Holds (joining_with_room 0 j) batch (joining_with_room 0 (joining_after j batch))
holds_alone j batch is =
    let k : Joining = joining_with_room 0 j in
    record {
      applies = brought_applies None None k is.0 is.1 is.2 batch is.3;
      after = λ d e.
          ap (λ (x : Durable). x.joining) e ∙ brought_joins (joining_alone k) k is.0 is.1 is.2 batch refl is.3
          ∙ ap (λ (i : Joining). Some i) (room_stays 0 j batch);
    }

-- a copy holds what is brought, too
pub copy_holds : (j : Joining) (batch : List Change) (copy : Joining) (copies : List Change) → copy ≡ joining_with_room 0 j → copies ≡ batch → IsBrought j batch
    → Holds copy copies (joining_with_room 0 (joining_after j batch))
copy_holds j batch copy copies same equal is =
    subst (λ (k : Joining). Holds k copies (joining_with_room 0 (joining_after j batch))) (sym same)
    (subst (λ (b : List Change). Holds (joining_with_room 0 j) b (joining_with_room 0 (joining_after j batch))) (sym equal) (holds_alone j batch is))
