-- Words that are writes, read from the left.
use Rattle.std.specs.Prelude.{codes, ◌↔◌}
use Rattle.std.proofs.Common.{◌≡◌, ℕ, ◌<◌, ◌≤◌, Bool, false, IsTrue, List, [], ◌∷◌, ◌++◌, length, map, All, refl, sym, ap, ◌∙◌, arith, append-nil, append_assoc, length-append}
use Rattle.std.specs.List.{flat_map}
use Rattle.std.proofs.lemmas.Bool.{false≢true}
use Rattle.std.proofs.lemmas.List.{flat_map_more, length-map}
use Rattle.std.proofs.lemmas.List.Elements.{All-head, All-push, All-same, All-tail}
use Rattle.std.proofs.lemmas.Slice.Eq.{bytes_eq-Decides}
use Rattle.op_types.specs.Limits.{most_writes}
use Rattle.op_types.specs.Ranges.{IsKey, IsValue, WriteInRange, WritesInRange}
use Rattle.op_types.specs.declared.log.Op.{Op}
use Rattle.op_types.specs.declared.log.Op.TheVariants.{Many}
use Rattle.op_types.specs.declared.writes.Write.{Write}
use Rattle.op_types.specs.declared.writes.Write.TheVariants as write
use Rattle.op_text.specs.Operations.{AreOperands, AreOperandsOf, IsWriteOf, WriteIsOfBytes, op_name, write_words}
use Rattle.op_text.specs.Percent.{IsEncoded, encoded}
use Rattle.op_text.specs.Writes.{BeginWithWrite, IsSomeWrite, words_of}
use Rattle.op_text.specs.declared.writes.WriteWords.{WriteWords}
use Rattle.op_text.specs.declared.writes.WriteWords.TheVariants as those_of
use Rattle.op_text.proofs.Operations.{one_write, put_not_del, some_words}

-- ---- the first words

-- no write begins these words
abbrev pub BeginWithNone : List (List ℕ) → Type 0
BeginWithNone words = BeginWithWrite words → ⊥

pub none_there : {A : Type 0} (f : A → List ℕ) (ws : List A) → length ws ≡ 0 → map f ws ≡ []
none_there f [] none = refl
none_there f (a ∷ ws) none = absurd (omega (arith, none))

pub some_there : {A : Type 0} (f : A → List ℕ) (ws : List A) → 0 < length ws → map f ws ≡ [] → ⊥
some_there f ws some e = omega (arith, some, ap (length {A = List ℕ}) e, length-map ws f)

-- ---- one write

-- the word encodes some key, or some value
abbrev pub IsSomeKey : List ℕ → Type 0
IsSomeKey word = (key : List ℕ) × IsKey key × IsEncoded word key

abbrev pub IsSomeValue : List ℕ → Type 0
IsSomeValue word = (value : List ℕ) × IsValue value × IsEncoded word value

abbrev put_of : List ℕ → List ℕ → List (List ℕ)
put_of key value = codes "put" ∷ key ∷ value ∷ []

abbrev del_of : List ℕ → List (List ℕ)
del_of key = codes "del" ∷ key ∷ []

put_parts : (key value : List ℕ) (w : Write) → IsWriteOf (put_of key value) w → IsSomeKey key × IsSomeValue value
put_parts key value (write.Put k v) h =
    let e : put_of key value ≡ put_of (encoded k) (encoded v) = h.written in
    ((k, h.in_range.0, (h.of_bytes.0, cc)), (v, h.in_range.1, (h.of_bytes.1, cc)))
put_parts key value (write.Del k) h = absurd (put_not_del (let e : put_of key value ≡ del_of (encoded k) = h.written in cc))

del_parts : (key : List ℕ) (w : Write) → IsWriteOf (del_of key) w → IsSomeKey key
del_parts key (write.Put k v) h = absurd (put_not_del (let e : del_of key ≡ put_of (encoded k) (encoded v) = h.written in cc))
del_parts key (write.Del k) h = let e : del_of key ≡ del_of (encoded k) = h.written in (k, h.in_range, (h.of_bytes, cc))

-- a put has a key and a value
pub put_by_value : (key value : List ℕ) (b : Bool) → IsSomeKey key → (IsTrue b ↔ IsSomeValue value) → IsTrue b ↔ IsSomeWrite (put_of key value)
put_by_value key value b (k, ik, ke) test = (
  λ yes. let v = test.0 yes in (write.Put k v.0, record { in_range = (ik, v.1); of_bytes = (ke.0, v.2.0); written = cc (ke.1, v.2.1) }),
  λ h. test.1 (put_parts key value h.0 h.1).1,
)

-- a del has a key
pub del_by_key : (key : List ℕ) (b : Bool) → (IsTrue b ↔ IsSomeKey key) → IsTrue b ↔ IsSomeWrite (del_of key)
del_by_key key b test = (
  λ yes. let k = test.0 yes in (write.Del k.0, record { in_range = k.1; of_bytes = k.2.0; written = cc k.2.1 }),
  λ h. test.1 (del_parts key h.0 h.1),
)

-- words that begin with a write's, and with a write's name and as many words as it has
begin_alike : (s : WriteWords) (w : Write) (more rest : List (List ℕ)) → words_of s ++ more ≡ write_words w ++ rest → (words_of s ≡ write_words w) × (more ≡ rest)
begin_alike (those_of.Put key value) (write.Put k v) more rest e = (cc, cc)
begin_alike (those_of.Del key) (write.Del k) more rest e = (cc, cc)
begin_alike (those_of.Put key value) (write.Del k) more rest e = absurd (put_not_del cc)
begin_alike (those_of.Del key) (write.Put k v) more rest e = absurd (put_not_del cc)

some_begin : (s : WriteWords) (more : List (List ℕ)) → [] ≡ words_of s ++ more → ⊥
some_begin (those_of.Put key value) more e = cc
some_begin (those_of.Del key) more e = cc

-- ---- the words of a `many`

-- they are writes, one after the other
pub record AreWrites (vs : List Write) (words : List (List ℕ)) : Type 0 where
  pub in_range : WritesInRange vs
  pub of_bytes : All WriteIsOfBytes vs
  pub written : words ≡ flat_map write_words vs

writes_by : (words : List (List ℕ)) (op : Op) → AreOperandsOf (codes "many") words op → (vs : List Write) × AreWrites vs words
writes_by words (Many vs) h = (vs, record { in_range = h.in_range; of_bytes = h.of_bytes; written = h.written })
writes_by words op h = absurd (false≢true ((bytes_eq-Decides (codes "many") (op_name op)).1 h.named))

-- words of a `many` are writes
pub are_writes_of : (words : List (List ℕ)) → AreOperands (codes "many") words → (vs : List Write) × AreWrites vs words
are_writes_of words (op, h) = writes_by words op h

-- and writes are those of a `many`
pub are_operands : (words : List (List ℕ)) (vs : List Write) → AreWrites vs words → AreOperandsOf (codes "many") words (Many vs)
are_operands words vs h = record { in_range = h.in_range; of_bytes = h.of_bytes; named = refl; written = h.written }

-- what never is true never holds
pub never : (P : Type 0) → (P → ⊥) → IsTrue false ↔ P
never P none = (λ t. absurd (false≢true t), λ h. absurd (none h))

-- ---- words that are read write by write

-- these writes begin the words, and this is left of them
pub record AreReadTo (ws : List Write) (rest words : List (List ℕ)) : Type 0 where
  pub in_range : All WriteInRange ws
  pub of_bytes : All WriteIsOfBytes ws
  pub read : flat_map write_words ws ++ rest ≡ words

-- one write more is read
pub read_more : (ws more : List Write) (w : Write) (rest first after words : List (List ℕ)) → AreReadTo ws rest words → IsWriteOf first w → rest ≡ first ++ after → more ≡ ws ++ w ∷ [] → AreReadTo more after words
read_more ws more w rest first after words before is begins one =
    record {
      in_range = All-same WriteInRange more (ws ++ w ∷ []) one (All-push WriteInRange ws w before.in_range is.in_range);
      of_bytes = All-same WriteIsOfBytes more (ws ++ w ∷ []) one (All-push WriteIsOfBytes ws w before.of_bytes is.of_bytes);
      read = rw one (
          ap (λ (prefix : List (List ℕ)). prefix ++ after) (sym (flat_map_more write_words [] ws w))
          ∙ append_assoc (flat_map write_words ws) (write_words w) after
          ∙ ap (λ (left : List (List ℕ)). flat_map write_words ws ++ left) (ap (λ (words : List (List ℕ)). words ++ after) (sym is.written) ∙ sym begins)
          ∙ before.read
          );
    }

-- of all writes these are left
record AreLeft (ws us vs : List Write) (rest : List (List ℕ)) : Type 0 where
  is : vs ≡ ws ++ us
  of_bytes : All WriteIsOfBytes us
  in_range : All WriteInRange us
  written : flat_map write_words us ≡ rest

left_by : (ws vs : List Write) (rest : List (List ℕ)) → All WriteIsOfBytes ws → All WriteIsOfBytes vs → All WriteInRange vs → flat_map write_words ws ++ rest ≡ flat_map write_words vs → (us : List Write) × AreLeft ws us vs rest
left_by [] vs rest iw iv rv e = (vs, record { is = refl; of_bytes = iv; in_range = rv; written = sym e })
left_by (w ∷ ws) [] rest iw iv rv e = absurd (some_words w (flat_map write_words ws ++ rest) (sym e ∙ append_assoc (write_words w) (flat_map write_words ws) rest))
left_by (w ∷ ws) (v ∷ vs) rest iw iv rv e =
    let first = one_write w v (flat_map write_words ws ++ rest) (flat_map write_words vs) (All-head WriteIsOfBytes w ws iw) (All-head WriteIsOfBytes v vs iv) (sym (append_assoc (write_words w) (flat_map write_words ws) rest) ∙ e) in
    let more = left_by ws vs rest (All-tail WriteIsOfBytes w ws iw) (All-tail WriteIsOfBytes v vs iv) (All-tail WriteInRange v vs rv) first.1 in
    (more.0, record { is = cc (first.0, more.1.is); of_bytes = more.1.of_bytes; in_range = more.1.in_range; written = more.1.written })

left_of : (ws vs : List Write) (rest words : List (List ℕ)) → AreReadTo ws rest words → AreWrites vs words → (us : List Write) × AreLeft ws us vs rest
left_of ws vs rest words before h = left_by ws vs rest before.of_bytes h.of_bytes h.in_range.each (before.read ∙ h.written)

-- what is left begins with the first of these
first_left : (ws us vs : List Write) (s : WriteWords) (rest after : List (List ℕ)) → AreLeft ws us vs rest → rest ≡ words_of s ++ after → IsSomeWrite (words_of s) × (length ws < length vs)
first_left ws [] vs s rest after left begins = absurd (some_begin s after (left.written ∙ begins))
first_left ws (u ∷ us) vs s rest after left begins =
    let alike = begin_alike s u after (flat_map write_words us) (sym begins ∙ sym left.written) in (
      (u, record { in_range = All-head WriteInRange u us left.in_range; of_bytes = All-head WriteIsOfBytes u us left.of_bytes; written = alike.0 }),
      omega (arith, ap (length {A = Write}) left.is, length-append ws (u ∷ us)),
    )

-- where words that are no write's are next, the words are no `many`'s
pub stop_there : (ws : List Write) (s : WriteWords) (rest after words : List (List ℕ)) → AreReadTo ws rest words → rest ≡ words_of s ++ after → (IsSomeWrite (words_of s) → ⊥) → AreOperands (codes "many") words → ⊥
stop_there ws s rest after words before begins none h =
    let vs = are_writes_of words h in
    let left = left_of ws vs.0 rest words before vs.1 in
    none (first_left ws left.0 vs.0 s rest after left.1 begins).0

-- nor are they where so many are read, and others are next
pub too_many : (ws : List Write) (s : WriteWords) (rest after words : List (List ℕ)) → AreReadTo ws rest words → rest ≡ words_of s ++ after → most_writes ≤ length ws → AreOperands (codes "many") words → ⊥
too_many ws s rest after words before begins full h =
    let vs = are_writes_of words h in
    let left = left_of ws vs.0 rest words before vs.1 in
    omega (arith, full, (first_left ws left.0 vs.0 s rest after left.1 begins).1, vs.1.in_range.few)

none_left : (ws us vs : List Write) (rest : List (List ℕ)) → AreLeft ws us vs rest → BeginWithNone rest → (vs ≡ ws) × (rest ≡ [])
none_left ws [] vs rest left none = (left.is ∙ append-nil ws, sym left.written)
none_left ws (u ∷ us) vs rest left none = absurd (none (u, flat_map write_words us, sym left.written))

-- where no write is next, all of a `many` is read
pub all_read : (ws : List Write) (rest words : List (List ℕ)) → AreReadTo ws rest words → BeginWithNone rest → AreOperands (codes "many") words → AreWrites ws words × (rest ≡ [])
all_read ws rest words before none h =
    let vs = are_writes_of words h in
    let left = left_of ws vs.0 rest words before vs.1 in
    let same = none_left ws left.0 vs.0 rest left.1 none in
    (rw same.0 at vs.1, same.1)

-- writes that are read to the end are a `many`'s
pub read_to_end : (ws : List Write) (rest words : List (List ℕ)) → AreReadTo ws rest words → rest ≡ [] → 1 ≤ length ws → length ws ≤ most_writes → AreOperands (codes "many") words
read_to_end ws rest words before end some few = (
  Many ws,
  are_operands words ws (record {
    in_range = record { some = some; few = few; each = before.in_range };
    of_bytes = before.of_bytes;
    written = sym before.read ∙ ap (λ (left : List (List ℕ)). flat_map write_words ws ++ left) end ∙ append-nil (flat_map write_words ws);
  }),
)
