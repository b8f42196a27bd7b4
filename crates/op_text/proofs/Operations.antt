-- A client's operation is told by its words.
use Rattle.std.specs.Prelude.{bytes_eq, ◌||◌, codes}
use Rattle.std.proofs.Common.{◌≡◌, ℕ, ◌*◌, ◌≤◌, Bool, true, false, List, [], ◌∷◌, ◌++◌, length, refl, sym, ap, ◌∙◌, arith}
use Rattle.std.specs.Fmt.{decimal}
use Rattle.std.specs.Prelude.{All}
use Rattle.std.specs.List.{flat_map}
use Rattle.std.proofs.lemmas.Bool.{false≢true}
use Rattle.std.proofs.lemmas.List.Elements.{All-head, All-tail}
use Rattle.std.proofs.lemmas.Fmt.{decimal_injective}
use Rattle.std.proofs.lemmas.Slice.Eq.{bytes_eq-Decides}
use Rattle.op_types.specs.declared.log.Op.{Op}
use Rattle.op_types.specs.declared.log.Op.TheVariants.{Put, Del, Get, Cas, Many, Forget}
use Rattle.op_types.specs.declared.writes.Write.{Write}
use Rattle.op_types.specs.declared.writes.Write.TheVariants as write
use Rattle.op_types.specs.declared.log.Command.{Command}
use Rattle.op_types.specs.declared.read.Read.{Read}
use Rattle.op_types.specs.Limits.{most_writes}
use Rattle.op_types.specs.Ranges.{OpInRange, CommandInRange}
use Rattle.op_text.specs.Operations.{IsReadOf, WriteIsOfBytes, OpIsOfBytes, write_words, op_name, operands, read_words}
use Rattle.op_text.specs.Percent.{encoded}
use Rattle.op_text.proofs.UnambiguousEncoding.{one_encoding_of}

-- ---- words

-- the first word
abbrev pub first : List (List ℕ) → List ℕ
first [] = []
first (a ∷ more) = a

-- the words after the first one
abbrev pub after_first : List (List ℕ) → List (List ℕ)
after_first [] = []
after_first (a ∷ more) = more

-- ---- the name

-- an operation's name
abbrev pub is_op_name : List ℕ → Bool
is_op_name name =
    bytes_eq name (codes "put") || bytes_eq name (codes "del") || bytes_eq name (codes "get") || bytes_eq name (codes "cas")
    || bytes_eq name (codes "many") || bytes_eq name (codes "forget")

op_has_op_name : (op : Op) → is_op_name (op_name op) ≡ true
op_has_op_name (Put k v) = refl
op_has_op_name (Del k) = refl
op_has_op_name (Get k) = refl
op_has_op_name (Cas k v u) = refl
op_has_op_name (Many ws) = refl
op_has_op_name (Forget client) = refl

-- another name is no operation's
pub no_op : (op : Op) (name : List ℕ) → is_op_name name ≡ false → op_name op ≡ name → ⊥
no_op op name other e = false≢true (sym other ∙ ap is_op_name (sym e) ∙ op_has_op_name op)

-- ---- the whole

pub put_not_del : codes "put" ≡ codes "del" → ⊥
put_not_del e = false≢true ((bytes_eq-Decides (codes "put") (codes "del")).1 e)

abbrev command : ℕ → ℕ → Op → Command
command client seq op = record { client = client; seq = seq; op = op }

-- a write has words
pub some_words : (w : Write) (more : List (List ℕ)) → [] ≡ write_words w ++ more → ⊥
some_words (write.Put k x) more e = cc
some_words (write.Del k) more e = cc

-- words begin with one write's, and go on behind it
pub one_write : (w v : Write) (more rest : List (List ℕ)) → WriteIsOfBytes w → WriteIsOfBytes v → write_words w ++ more ≡ write_words v ++ rest → (w ≡ v) × (more ≡ rest)
one_write (write.Put k x) (write.Put l y) more rest iw iv e =
    let keys = one_encoding_of k l iw.0 iv.0 cc in
    let values = one_encoding_of x y iw.1 iv.1 cc in
    (cc (keys, values), cc)
one_write (write.Del k) (write.Del l) more rest iw iv e = (ap write.Del (one_encoding_of k l iw iv cc), cc)
one_write (write.Put k x) (write.Del l) more rest iw iv e = absurd (put_not_del cc)
one_write (write.Del k) (write.Put l y) more rest iw iv e = absurd (put_not_del cc)

-- writes are told by their words, from the left
one_writes : (ws vs : List Write) → All WriteIsOfBytes ws → All WriteIsOfBytes vs → flat_map write_words ws ≡ flat_map write_words vs → ws ≡ vs
one_writes [] [] iw iv e = refl
one_writes [] (v ∷ vs) iw iv e = absurd (some_words v (flat_map write_words vs) e)
one_writes (w ∷ ws) [] iw iv e = absurd (some_words w (flat_map write_words ws) (sym e))
one_writes (w ∷ ws) (v ∷ vs) iw iv e =
    let first = one_write w v (flat_map write_words ws) (flat_map write_words vs) (All-head WriteIsOfBytes w ws iw) (All-head WriteIsOfBytes v vs iv) e in
    let rest = one_writes ws vs (All-tail WriteIsOfBytes w ws iw) (All-tail WriteIsOfBytes v vs iv) first.1 in
    cc (first.0, rest)

-- an operation is told by its name and its operands
pub one_op : (o r : Op) → OpInRange o → OpInRange r → OpIsOfBytes o → OpIsOfBytes r → op_name o ≡ op_name r → operands o ≡ operands r → o ≡ r
one_op (Many ws) (Many vs) fo fr io ir n e = ap Many (one_writes ws vs io ir e)
one_op (Forget a) (Forget b) fo fr io ir n e = ap Forget (decimal_injective a b (omega (arith, fo)) (omega (arith, fr)) cc)
one_op (Put k v) (Put l w) fo fr io ir n e =
    let keys = one_encoding_of k l io.0 ir.0 cc in
    let values = one_encoding_of v w io.1 ir.1 cc in
    cc (keys, values)
one_op (Del k) (Del l) fo fr io ir n e = ap Del (one_encoding_of k l io ir cc)
one_op (Get k) (Get l) fo fr io ir n e = ap Get (one_encoding_of k l io ir cc)
one_op (Cas k v u) (Cas l w x) fo fr io ir n e =
    let keys = one_encoding_of k l io.0 ir.0 cc in
    let olds = one_encoding_of v w io.1 ir.1 cc in
    let news = one_encoding_of u x io.2 ir.2 cc in
    cc (keys, olds, news)
one_op o r fo fr io ir n e = absurd (false≢true ((bytes_eq-Decides (op_name o) (op_name r)).1 n))

few_words : (ws : List Write) → length (flat_map write_words ws) ≤ 3 * length ws
few_words [] = omega arith
few_words (write.Put k v ∷ ws) = omega (arith, few_words ws)
few_words (write.Del k ∷ ws) = omega (arith, few_words ws)

-- an operation has at most as many operands as a `many` of sixteen puts
pub few_operands : (op : Op) → OpInRange op → length (operands op) ≤ 3 * most_writes
few_operands (Put key value) fit = omega arith
few_operands (Del key) fit = omega arith
few_operands (Get key) fit = omega arith
few_operands (Cas key old new) fit = omega arith
few_operands (Many ws) fit = omega (arith, few_words ws, fit.few)
few_operands (Forget client) fit = omega arith

-- a client, the number of its command, and the operation's words are one command's
pub one_command : (c d : Command) → CommandInRange c → CommandInRange d → OpIsOfBytes c.op → OpIsOfBytes d.op → op_name c.op ≡ op_name d.op → decimal c.client ≡ decimal d.client → decimal c.seq ≡ decimal d.seq → operands c.op ≡ operands d.op → c ≡ d
one_command c d ic id bc bd name client seq words =
    let here : c.client ≡ d.client = decimal_injective c.client d.client (omega (arith, ic.client)) (omega (arith, id.client)) client in
    let there : c.seq ≡ d.seq = decimal_injective c.seq d.seq (omega (arith, ic.seq)) (omega (arith, id.seq)) seq in
    let op = one_op c.op d.op ic.op id.op bc bd name words in
    ap (λ (x : ℕ). command x c.seq c.op) here ∙ ap (λ (x : ℕ). command d.client x c.op) there ∙ ap (command d.client d.seq) op

abbrev read : ℕ → ℕ → List ℕ → Read
read client seq key = record { client = client; seq = seq; key = key }

-- a client, the number of its read, and a key are one read's
pub one_read : (words : List (List ℕ)) (r s : Read) → IsReadOf words r → IsReadOf words s → r ≡ s
one_read words r s hr hs =
    let e : read_words r ≡ read_words s = sym hr.written ∙ hs.written in
    let client : decimal r.client ≡ decimal s.client = cc in
    let seq : decimal r.seq ≡ decimal s.seq = cc in
    let word : encoded r.key ≡ encoded s.key = cc in
    let here : r.client ≡ s.client = decimal_injective r.client s.client (omega (arith, hr.in_range.client)) (omega (arith, hs.in_range.client)) client in
    let there : r.seq ≡ s.seq = decimal_injective r.seq s.seq (omega (arith, hr.in_range.seq)) (omega (arith, hs.in_range.seq)) seq in
    let key = one_encoding_of r.key s.key hr.of_bytes hs.of_bytes word in
    ap (λ (x : ℕ). read x r.seq r.key) here ∙ ap (λ (x : ℕ). read s.client x r.key) there ∙ ap (read s.client s.seq) key
