-- A client's operation in words: its name, and its key and values; and a client's read.
use Rattle.std.specs.Prelude.{◌≡◌, ℕ, List, [], ◌∷◌, codes, decimal, All}
use Rattle.std.specs.List.{flat_map}
use Rattle.op_types.specs.Ranges.{IsKey, OpInRange, ReadInRange, WriteInRange}
use Rattle.op_types.specs.declared.log.Op.{Op}
use Rattle.op_types.specs.declared.log.Op.TheVariants.{Put, Del, Get, Cas, Many, Forget}
use Rattle.op_types.specs.declared.writes.Write.{Write}
use Rattle.op_types.specs.declared.writes.Write.TheVariants as write
use Rattle.op_types.specs.declared.read.Read.{Read}
use Rattle.op_text.specs.Percent.{AreBytes, encoded}

-- one of several writes: its name, its key and, of a put, the value
abbrev pub write_words : Write → List (List ℕ)
write_words (write.Put key value) = codes "put" ∷ encoded key ∷ encoded value ∷ []
write_words (write.Del key) = codes "del" ∷ encoded key ∷ []

-- its key and value are bytes
abbrev pub WriteIsOfBytes : Write → Type 0
WriteIsOfBytes (write.Put key value) = AreBytes key × AreBytes value
WriteIsOfBytes (write.Del key) = AreBytes key

-- the words are this write's
pub record IsWriteOf (words : List (List ℕ)) (w : Write) : Type 0 where
  pub in_range : WriteInRange w
  pub of_bytes : WriteIsOfBytes w
  pub written : words ≡ write_words w

-- the name of a client's operation
abbrev pub op_name : Op → List ℕ
op_name (Put key value) = codes "put"
op_name (Del key) = codes "del"
op_name (Get key) = codes "get"
op_name (Cas key old new) = codes "cas"
op_name (Many writes) = codes "many"
op_name (Forget client) = codes "forget"

-- what it is done with: its key, and its values; the writes; or the client that is forgotten
abbrev pub operands : Op → List (List ℕ)
operands (Put key value) = encoded key ∷ encoded value ∷ []
operands (Del key) = encoded key ∷ []
operands (Get key) = encoded key ∷ []
operands (Cas key old new) = encoded key ∷ encoded old ∷ encoded new ∷ []
operands (Many writes) = flat_map write_words writes
operands (Forget client) = decimal client ∷ []

-- the operation's key and values are bytes
abbrev pub OpIsOfBytes : Op → Type 0
OpIsOfBytes (Put key value) = AreBytes key × AreBytes value
OpIsOfBytes (Del key) = AreBytes key
OpIsOfBytes (Get key) = AreBytes key
OpIsOfBytes (Cas key old new) = AreBytes key × AreBytes old × AreBytes new
OpIsOfBytes (Many writes) = All WriteIsOfBytes writes
OpIsOfBytes (Forget client) = Unit {0}

-- the words are the operands of an operation of this name
pub record AreOperandsOf (name : List ℕ) (words : List (List ℕ)) (op : Op) : Type 0 where
  pub in_range : OpInRange op
  pub of_bytes : OpIsOfBytes op
  pub named : name ≡ op_name op
  pub written : words ≡ operands op

-- the words are the operands of some operation of this name
abbrev pub AreOperands : List ℕ → List (List ℕ) → Type 0
AreOperands name words = (op : Op) × AreOperandsOf name words op

-- the words of a read: its client, its number and its key
abbrev pub read_words : Read → List (List ℕ)
read_words r = decimal r.client ∷ decimal r.seq ∷ encoded r.key ∷ []

-- the words are this read's
pub record IsReadOf (words : List (List ℕ)) (r : Read) : Type 0 where
  pub in_range : ReadInRange r
  pub of_bytes : AreBytes r.key
  pub written : words ≡ read_words r

-- the words are this key alone
abbrev pub AreKeyOnly : List (List ℕ) → List ℕ → Type 0
AreKeyOnly words key = IsKey key × AreBytes key × (words ≡ encoded key ∷ [])
