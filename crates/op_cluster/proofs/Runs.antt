-- A cluster's calls, one after the other.
use Rattle.std.proofs.Common.{◌≡◌, ℕ, ◌+◌, ◌<◌, List, [], ◌∷◌, ◌++◌, length, take, drop, get_or, Option, Some, None, refl, sym, ap, ◌∙◌, append_assoc, append-nil}
use Rattle.std.specs.Map.{keys_of}
use Rattle.std.specs.Io.KnownBytes.{Appends}
use Rattle.std.proofs.lemmas.List.{take_more, map-append, take-append-drop}
use Rattle.std.proofs.lemmas.List.Concat.{flat_map-append}
use Rattle.op_outside.specs.Spawners.{ChildCall, Started, EndedWith}
use Rattle.op_outside.specs.Streams.{AppendsPrefix}
use Rattle.op_outside.specs.Telling.{Grows}
use Rattle.op_outside.proofs.Pieces.{Appends-more}
use Rattle.op_outside.proofs.Seen.{grows_both}
use Rattle.op_cluster.specs.Clusters.{Ended, Told, starts_of, ends_of, child_line, lines_of, AllEnd, StartFails, EndFails, WriteFails}

-- an id, those before it, and those after it
pub parted : (ids : List ℕ) (i : ℕ) → i < length ids → take i ids ++ get_or ids i 0 ∷ drop (i + 1) ids ≡ ids
parted ids i within =
    sym (append_assoc (take i ids) (get_or ids i 0 ∷ []) (drop (i + 1) ids))
    ∙ ap (λ (xs : List ℕ). xs ++ drop (i + 1) ids) (sym (take_more ids i 0 within))
    ∙ take-append-drop (i + 1) ids

-- ---- starts

pub start_fails : (input ids : List ℕ) (i : ℕ) → i < length ids → {a b c : Option (List ChildCall)} → Grows a (starts_of input (take i ids)) b
    → Grows b (Started (get_or ids i 0) input None ∷ []) c → StartFails input ids a c
start_fails input ids i within {a = a} so_far more = record {
  before = take i ids;
  id = get_or ids i 0;
  after = drop (i + 1) ids;
  among = parted ids i within;
  calls = grows_both a _ _ so_far more;
}

-- ---- ends

-- a part of a text after a whole one
cut : (a b c : Option (List ℕ)) (x y : List ℕ) → Appends a b x → AppendsPrefix b c y → (part : List ℕ) × (rest : List ℕ) × (part ++ rest ≡ y) × Appends a c (x ++ part)
cut None b c x y p q = ([], y, refl, tt)
cut (Some a) None c x y p q = absurd p
cut (Some a) (Some b) None x y p q = absurd q
cut (Some a) (Some b) (Some c) x y p q = (q.0, q.1, q.2, q.3 ∙ ap (λ (t : List ℕ). t ++ q.0) p ∙ append_assoc a x q.0)

module _ (ids : List ℕ) (i : ℕ) (within : i < length ids) (old mid new : Told) (so_far : AllEnd [] (take i ids) old mid) where
  calls_more : (call : ChildCall) → Grows mid.calls (call ∷ []) new.calls → Grows old.calls (ends_of so_far.children ++ call ∷ []) new.calls
  calls_more call more = grows_both old.calls _ _ so_far.calls more

  among : keys_of so_far.children ++ get_or ids i 0 ∷ drop (i + 1) ids ≡ ids
  among = ap (λ (before : List ℕ). before ++ get_or ids i 0 ∷ drop (i + 1) ids) so_far.each ∙ parted ids i within

  pub ends_more : (status : ℕ) → Grows mid.calls (EndedWith (get_or ids i 0) (Some status) ∷ []) new.calls
      → Appends mid.bytes new.bytes (child_line (get_or ids i 0, status)) → AllEnd [] (take (i + 1) ids) old new
  ends_more status more line =
      let child : Ended = (get_or ids i 0, status) in
      record {
        children = so_far.children ++ child ∷ [];
        each =
            map-append (λ (c : Ended). c.0) so_far.children (child ∷ [])
            ∙ ap (λ (before : List ℕ). before ++ get_or ids i 0 ∷ []) so_far.each
            ∙ sym (take_more ids i 0 within);
        calls = rw (map-append) (calls_more _ more);
        lines = rw (flat_map-append child_line so_far.children (child ∷ []), append-nil (child_line child)) (Appends-more _ _ _ _ _ so_far.lines line);
      }

  pub end_fails : Grows mid.calls (EndedWith (get_or ids i 0) None ∷ []) new.calls → new.bytes ≡ mid.bytes → EndFails [] ids old new
  end_fails more same = record {
    children = so_far.children;
    id = get_or ids i 0;
    after = drop (i + 1) ids;
    among = among;
    calls = calls_more _ more;
    lines = rw same so_far.lines;
  }

  pub write_fails : (status : ℕ) → Grows mid.calls (EndedWith (get_or ids i 0) (Some status) ∷ []) new.calls
      → AppendsPrefix mid.bytes new.bytes (child_line (get_or ids i 0, status)) → WriteFails [] ids old new
  write_fails status more line =
      let child : Ended = (get_or ids i 0, status) in
      let parts = cut old.bytes mid.bytes new.bytes (lines_of so_far.children) (child_line child) so_far.lines line in
      record {
        children = so_far.children;
        last = child;
        after = drop (i + 1) ids;
        among = among;
        calls = calls_more _ more;
        part = parts.0;
        rest = parts.1;
        line = parts.2;
        lines = parts.3;
      }
