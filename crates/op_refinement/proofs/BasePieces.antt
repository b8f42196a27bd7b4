-- What a node has of a base that comes in pieces is what its server has of it.
use Rattle.std.proofs.Common.{◌≡◌, ◌≤◌, ℕ, zero, suc, ◌+◌, ◌-◌, Bool, true, false, cond, ◌&&◌, ◌||◌, leb, ltb, eqb, List, [], ◌∷◌, ◌++◌, length, take, drop, replicate, Option, Some, None, refl, sym, ap, ◌∙◌, subst, arith}
use Rattle.std.proofs.lemmas.Bool.{le-leb, lt-leb, lt-ltb, le-ltb, eqb-true, eq-eqb}
use Rattle.op_types.specs.Stages.{Pieces, kept_or, bytes_with, bytes_with_at, bytes_of, with_piece, with_byte, whole_bytes}
use Rattle.op_types.specs.declared.log.Entry.{Entry}
use Rattle.op_types.specs.declared.runs.Piece.{Piece}
use Rattle.op_types.proofs.Pieced.{at_none}
use Rattle.op_spec.specs.Service.{base_bytes, service_of}
use Rattle.op_spec.specs.Stands.{lists_through}
use Rattle.op_configurations.specs.Servers.{BaseStage, with_bytes, staged_piece, has_all}
use Rattle.op_configurations.specs.Laws.{BaseStands}
use Rattle.op_refinement.proofs.Relation.{bytes_had, PiecesRel, IfPiecesRel, IsPiece}

-- ---- which bytes came

had_length : (has : ℕ → Bool) (i : ℕ) (bytes : List ℕ) → length (bytes_had has i bytes) ≡ length bytes
had_length has i [] = refl
had_length has i (b ∷ bytes) = ap suc (had_length has (suc i) bytes)

-- from a place on the same came
had_same : (has other : ℕ → Bool) (i : ℕ) (bytes : List ℕ) → ((k : ℕ) → i ≤ k → has k ≡ other k) → bytes_had has i bytes ≡ bytes_had other i bytes
had_same has other i [] same = refl
had_same has other i (b ∷ bytes) same = λ z. cond (same i (omega arith) z) (Some b) None ∷ had_same has other (suc i) bytes (λ k le. same k (omega (arith, le))) z

-- nothing came
none_had : (i : ℕ) (bytes : List ℕ) → replicate (length bytes) None ≡ bytes_had (λ k. false) i bytes
none_had i [] = refl
none_had i (b ∷ bytes) = ap (λ (l : List (Option ℕ)). None ∷ l) (none_had (suc i) bytes)

-- ---- a piece more

or_false : (b : Bool) → (b || false) ≡ b
or_false true = refl
or_false false = refl

or_true : (b : Bool) → (b || true) ≡ true
or_true true = refl
or_true false = refl

and_false : (b : Bool) → (b && false) ≡ false
and_false true = refl
and_false false = refl

-- a place behind the piece, or before it
past : (has : ℕ → Bool) (from count k : ℕ) → from + count ≤ k → has k ≡ with_bytes has from count k
past has from count k le = sym (ap (λ (b : Bool). has k || (leb from k && b)) (le-ltb k (from + count) le) ∙ ap (λ (b : Bool). has k || b) (and_false (leb from k)) ∙ or_false (has k))

before : (has : ℕ → Bool) (from count k : ℕ) → suc k ≤ from → with_bytes has from count k ≡ has k
before has from count k lt = ap (λ (b : Bool). has k || (b && ltb k (from + count))) (lt-leb from k (omega (arith, lt))) ∙ or_false (has k)

inside : (has : ℕ → Bool) (from count k : ℕ) → from ≤ k → suc k ≤ from + count → with_bytes has from count k ≡ true
inside has from count k le lt = ap (λ (b : Bool). has k || (b && ltb k (from + count))) (le-leb from k le) ∙ ap (λ (b : Bool). has k || b) (lt-ltb k (from + count) (omega (arith, lt))) ∙ or_true (has k)

kept : (b : Bool) (x : ℕ) → kept_or (cond b (Some x) None) x ≡ Some x
kept true x = refl
kept false x = refl

-- the piece's bytes that are left come to the places from this one on
rest_had : (has : ℕ → Bool) (from count i left : ℕ) (bytes : List ℕ) → i + left ≡ from + count → from ≤ i → left ≤ length bytes
    → bytes_with (bytes_had has i bytes) (take left bytes) ≡ bytes_had (with_bytes has from count) i bytes
rest_had has from count i zero bytes is le few =
    at_none (bytes_had has i bytes) 0 ∙ had_same has (with_bytes has from count) i bytes (λ k lk. past has from count k (omega (arith, is, lk)))
rest_had has from count i (suc left) [] is le few = absurd (omega (arith, few))
rest_had has from count i (suc left) (b ∷ bytes) is le few =
    ap (λ (o : Option ℕ). o ∷ bytes_with (bytes_had has (suc i) bytes) (take left bytes)) (kept (has i) b ∙ sym (ap (λ (t : Bool). cond t (Some b) None) (inside has from count i le (omega (arith, is)))))
    ∙ ap (λ (l : List (Option ℕ)). cond (with_bytes has from count i) (Some b) None ∷ l) (rest_had has from count (suc i) left bytes (omega (arith, is)) (omega (arith, le)) (omega (arith, few)))

-- the piece comes to its places
more_had : (has : ℕ → Bool) (i skip count : ℕ) (bytes : List ℕ) → skip + count ≤ length bytes
    → bytes_with_at (bytes_had has i bytes) skip (take count (drop skip bytes)) ≡ bytes_had (with_bytes has (i + skip) count) i bytes
more_had has i zero count bytes few =
    let here : i ≡ i + 0 = omega arith in
    rest_had has i count i count bytes refl (omega arith) (omega (arith, few)) ∙ ap (λ (k : ℕ). bytes_had (with_bytes has k count) i bytes) here
more_had has i (suc skip) count [] few = absurd (omega (arith, few))
more_had has i (suc skip) count (b ∷ bytes) few =
    let next : suc i + skip ≡ i + suc skip = omega arith in
    ap (λ (l : List (Option ℕ)). cond (has i) (Some b) None ∷ l) (more_had has (suc i) skip count bytes (omega (arith, few)) ∙ ap (λ (k : ℕ). bytes_had (with_bytes has k count) (suc i) bytes) next)
    ∙ ap (λ (t : Bool). cond t (Some b) None ∷ bytes_had (with_bytes has (i + suc skip) count) (suc i) bytes) (sym (before has (i + suc skip) count i (omega arith)))

-- ---- all of them

-- so many from a place on
abbrev all_at : (ℕ → Bool) → ℕ → ℕ → Bool
all_at has i zero = true
all_at has i (suc n) = has i && all_at has (suc i) n

and_each : (a b c : Bool) → (a && (b && c)) ≡ (b && (a && c))
and_each true true c = refl
and_each true false c = refl
and_each false true c = refl
and_each false false c = refl

one_more : (has : ℕ → Bool) (i n : ℕ) → all_at has i (suc n) ≡ (has (i + n) && all_at has i n)
one_more has i zero = let here : i ≡ i + 0 = omega arith in ap (λ (k : ℕ). has k && true) here
one_more has i (suc n) =
    let next : suc i + n ≡ i + suc n = omega arith in
    ap (λ (b : Bool). has i && b) (one_more has (suc i) n) ∙ and_each (has i) (has (suc i + n)) (all_at has (suc i) n) ∙ ap (λ (k : ℕ). has k && all_at has i (suc n)) next

all_same : (has : ℕ → Bool) (n : ℕ) → all_at has 0 n ≡ has_all has n
all_same has zero = refl
all_same has (suc n) =
    let here : 0 + n ≡ n = omega arith in
    one_more has 0 n ∙ ap (λ (k : ℕ). has k && all_at has 0 n) here ∙ ap (λ (b : Bool). has n && b) (all_same has n)

whole_from : (has : ℕ → Bool) (i : ℕ) (bytes : List ℕ) → whole_bytes (bytes_had has i bytes) ≡ cond (all_at has i (length bytes)) (Some bytes) None
whole_from has i [] = refl
whole_from has i (b ∷ bytes) = ap (with_byte (cond (has i) (Some b) None)) (whole_from has (suc i) bytes) ∙ by (has i) (all_at has (suc i) (length bytes))
  where
    by : (x y : Bool) → with_byte (cond x (Some b) None) (cond y (Some bytes) None) ≡ cond (x && y) (Some (b ∷ bytes)) None
    by true true = refl
    by true false = refl
    by false true = refl
    by false false = refl

-- the base is whole once all of its bytes came
pub whole_had : (has : ℕ → Bool) (bytes : List ℕ) → whole_bytes (bytes_had has 0 bytes) ≡ cond (has_all has (length bytes)) (Some bytes) None
whole_had has bytes = whole_from has 0 bytes ∙ ap (λ (b : Bool). cond b (Some bytes) None) (all_same has (length bytes))

-- ---- a piece comes

module _ (lists : ℕ → List Entry) (conf : ℕ) (piece : Piece) (front : List Entry) (is : IsPiece (base_bytes (service_of (lists_through lists (conf - 1 - 1) ++ front))) piece) (stands : BaseStands (lists (conf - 1)) (record { at = piece.at; front = front })) where
  abbrev pub whole : List ℕ
  whole = base_bytes (service_of (lists_through lists (conf - 1 - 1) ++ front))

  -- what came before, of a base at this place
  abbrev had_of : Option BaseStage → ℕ → Bool
  had_of None = λ k. false
  had_of (Some s) = cond (eqb s.at piece.at) s.has (λ k. false)

  none_of : replicate piece.total None ≡ bytes_had (λ k. false) 0 whole
  none_of = ap (λ (n : ℕ). replicate n None) is.total ∙ none_had 0 whole

  -- the same base, or another one
  same_or : (x : Pieces) (s : BaseStage) → PiecesRel lists conf x s → (b : Bool) → eqb s.at piece.at ≡ b → bytes_of (Some x) piece.at piece.total ≡ bytes_had (cond b s.has (λ k. false)) 0 whole
  same_or x s k true e =
      let there : s.at ≡ piece.at = eqb-true s.at piece.at e in
      let front_is : k.front ≡ front = (k.stands).front ∙ ap (λ (n : ℕ). take n (lists (conf - 1))) there ∙ sym stands.front in
      let bytes_are : x.bytes ≡ bytes_had s.has 0 whole = k.bytes ∙ ap (λ (l : List Entry). bytes_had s.has 0 (base_bytes (service_of (lists_through lists (conf - 1 - 1) ++ l)))) front_is in
      let size : length x.bytes ≡ piece.total = ap (λ (l : List (Option ℕ)). length l) bytes_are ∙ had_length s.has 0 whole ∙ sym is.total in
      ap (λ (b : Bool). cond (b && eqb (length x.bytes) piece.total) x.bytes (replicate piece.total None)) (eq-eqb x.at piece.at (k.at ∙ there))
      ∙ ap (λ (b : Bool). cond b x.bytes (replicate piece.total None)) (eq-eqb (length x.bytes) piece.total size) ∙ bytes_are
  same_or x s k false e =
      ap (λ (n : ℕ). cond (eqb n piece.at && eqb (length x.bytes) piece.total) x.bytes (replicate piece.total None)) k.at
      ∙ ap (λ (b : Bool). cond (b && eqb (length x.bytes) piece.total) x.bytes (replicate piece.total None)) e ∙ none_of

  before_is : (o : Option Pieces) (s : Option BaseStage) → IfPiecesRel lists conf o s → bytes_of o piece.at piece.total ≡ bytes_had (had_of s) 0 whole
  before_is None None k = none_of
  before_is None (Some s) k = absurd k
  before_is (Some x) None k = absurd k
  before_is (Some x) (Some s) k = same_or x s k (eqb s.at piece.at) refl

  staged_at : (s : Option BaseStage) → (staged_piece s piece.at piece.from (length piece.bytes)).at ≡ piece.at
  staged_at None = refl
  staged_at (Some s) = refl

  staged_has : (s : Option BaseStage) → (staged_piece s piece.at piece.from (length piece.bytes)).has ≡ with_bytes (had_of s) piece.from (length piece.bytes)
  staged_has None = refl
  staged_has (Some s) = refl

  -- with the piece its bytes are those that the server has with it
  pub pieces_are : (o : Option Pieces) (s : Option BaseStage) → IfPiecesRel lists conf o s → (with_piece o piece).bytes ≡ bytes_had (staged_piece s piece.at piece.from (length piece.bytes)).has 0 whole
  pieces_are o s k =
      ap (λ (l : List (Option ℕ)). bytes_with_at l piece.from piece.bytes) (before_is o s k)
      ∙ ap (bytes_with_at (bytes_had (had_of s) 0 whole) piece.from) is.bytes_are
      ∙ more_had (had_of s) 0 piece.from (length piece.bytes) whole is.within
      ∙ (let from : 0 + piece.from ≡ piece.from = omega arith in ap (λ (n : ℕ). bytes_had (with_bytes (had_of s) n (length piece.bytes)) 0 whole) from)
      ∙ ap (λ (has : ℕ → Bool). bytes_had has 0 whole) (sym (staged_has s))

  -- so it is what the server has
  pub pieces_more : (o : Option Pieces) (s : Option BaseStage) → IfPiecesRel lists conf o s → PiecesRel lists conf (with_piece o piece) (staged_piece s piece.at piece.from (length piece.bytes))
  pieces_more o s k = record {
    front = front;
    at = sym (staged_at s);
    stands = subst (λ (n : ℕ). BaseStands (lists (conf - 1)) (record { at = n; front = front })) (sym (staged_at s)) stands;
    bytes = pieces_are o s k;
  }
