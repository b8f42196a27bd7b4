-- A command's words, from their parts.
use Rattle.std.proofs.Common.{◌≡◌, ℕ, ◌≤◌, ◌<◌, List, [], ◌∷◌, length, get_or, ◌-◌, take, drop, length-drop, map, refl, sym, ap, ◌∙◌, arith, codes, decimal}
use Rattle.std.proofs.lemmas.List.{length-map, take_all}
use Rattle.op_types.specs.Ranges.{IsKey, IsNumber, IsValue}
use Rattle.op_types.specs.declared.log.Command.{Command}
use Rattle.op_types.specs.declared.log.Op.TheVariants.{Put, Del, Get, Cas}
use Rattle.op_types.specs.declared.events.Request.TheVariants as request
use Rattle.op_types.specs.declared.read.Read.{Read}
use Rattle.op_text.specs.Operations.{op_name, operands}
use Rattle.op_text.proofs.Operations.{after_first}
use Rattle.op_text.specs.Operations.{AreOperands, AreOperandsOf}
use Rattle.op_text.proofs.WriteWords.{IsSomeKey, IsSomeValue}
use Rattle.op_text.specs.Percent.{IsEncoded, encoded}
use Rattle.op_setup.specs.Tasks.{IsRequest}
use Rattle.op_setup.proofs.Words.{one_word}
use Rattle.op_setup.specs.Requests.{AreMembers, AreSomeKeyOnly, IsCommand, IsCommandOf, IsRead}

-- ---- operands

pub two_words : {A : Type 0} (now : A → List ℕ) (ws : List A) (d0 d1 : A) (x0 x1 : List ℕ) → 2 ≤ length ws → length ws < 3
    → now (get_or ws 0 d0) ≡ x0 → now (get_or ws 1 d1) ≡ x1 → map now ws ≡ x0 ∷ x1 ∷ []
two_words now (a ∷ b ∷ []) d0 d1 x0 x1 low high h0 h1 = cc
two_words now [] d0 d1 x0 x1 low high h0 h1 = absurd (omega arith)
two_words now (a ∷ []) d0 d1 x0 x1 low high h0 h1 = absurd (omega arith)
two_words now (a ∷ b ∷ c ∷ more) d0 d1 x0 x1 low high h0 h1 = absurd (omega arith)

pub three_words : {A : Type 0} (now : A → List ℕ) (ws : List A) (d0 d1 d2 : A) (x0 x1 x2 : List ℕ) → 3 ≤ length ws → length ws < 4
    → now (get_or ws 0 d0) ≡ x0 → now (get_or ws 1 d1) ≡ x1 → now (get_or ws 2 d2) ≡ x2 → map now ws ≡ x0 ∷ x1 ∷ x2 ∷ []
three_words now (a ∷ b ∷ c ∷ []) d0 d1 d2 x0 x1 x2 low high h0 h1 h2 = cc
three_words now [] d0 d1 d2 x0 x1 x2 low high h0 h1 h2 = absurd (omega arith)
three_words now (a ∷ []) d0 d1 d2 x0 x1 x2 low high h0 h1 h2 = absurd (omega arith)
three_words now (a ∷ b ∷ []) d0 d1 d2 x0 x1 x2 low high h0 h1 h2 = absurd (omega arith)
three_words now (a ∷ b ∷ c ∷ d ∷ more) d0 d1 d2 x0 x1 x2 low high h0 h1 h2 = absurd (omega arith)

-- a key and a value are a put's operands
pub put_operands : {A : Type 0} (now : A → List ℕ) (ws : List A) (d0 d1 : A) (w0 w1 : List ℕ) → 2 ≤ length ws → length ws < 3
    → w0 ≡ now (get_or ws 0 d0) → w1 ≡ now (get_or ws 1 d1) → IsSomeKey w0 → IsSomeValue w1 → AreOperands (codes "put") (map now ws)
put_operands now ws d0 d1 w0 w1 low high e0 e1 (key, k, ke) (value, v, ve) = (
  Put key value,
  record {
    in_range = (k, v);
    of_bytes = (ke.0, ve.0);
    named = refl;
    written = two_words now ws d0 d1 (encoded key) (encoded value) low high (sym e0 ∙ sym ke.1) (sym e1 ∙ sym ve.1);
  },
)

-- a key is a del's, and a get's
pub del_operands : (words : List (List ℕ)) → AreSomeKeyOnly words → AreOperands (codes "del") words
del_operands words (key, k) = (Del key, record { in_range = k.0; of_bytes = k.1; named = refl; written = k.2 })

pub get_operands : (words : List (List ℕ)) → AreSomeKeyOnly words → AreOperands (codes "get") words
get_operands words (key, k) = (Get key, record { in_range = k.0; of_bytes = k.1; named = refl; written = k.2 })

-- a key and two values are a cas's
pub cas_operands_of : {A : Type 0} (now : A → List ℕ) (ws : List A) (d0 d1 d2 : A) (w0 w1 w2 key old new : List ℕ) → 3 ≤ length ws → length ws < 4
    → w0 ≡ now (get_or ws 0 d0) → w1 ≡ now (get_or ws 1 d1) → w2 ≡ now (get_or ws 2 d2)
    → IsKey key × IsEncoded w0 key → IsValue old × IsEncoded w1 old → IsValue new × IsEncoded w2 new → AreOperandsOf (codes "cas") (map now ws) (Cas key old new)
cas_operands_of now ws d0 d1 d2 w0 w1 w2 key old new low high e0 e1 e2 k o n = record {
  in_range = (k.0, o.0, n.0);
  of_bytes = (k.1.0, o.1.0, n.1.0);
  named = refl;
  written = three_words now ws d0 d1 d2 (encoded key) (encoded old) (encoded new) low high (sym e0 ∙ sym k.1.1) (sym e1 ∙ sym o.1.1) (sym e2 ∙ sym n.1.1);
}

pub cas_operands : {A : Type 0} (now : A → List ℕ) (ws : List A) (d0 d1 d2 : A) (w0 w1 w2 : List ℕ) → 3 ≤ length ws → length ws < 4
    → w0 ≡ now (get_or ws 0 d0) → w1 ≡ now (get_or ws 1 d1) → w2 ≡ now (get_or ws 2 d2)
    → IsSomeKey w0 → IsSomeValue w1 → IsSomeValue w2 → AreOperands (codes "cas") (map now ws)
cas_operands now ws d0 d1 d2 w0 w1 w2 low high e0 e1 e2 (key, k, ke) (old, o, oe) (new, n, ne) =
    (Cas key old new, cas_operands_of now ws d0 d1 d2 w0 w1 w2 key old new low high e0 e1 e2 (k, ke) (o, oe) (n, ne))

-- a key alone
pub key_only : {A : Type 0} (now : A → List ℕ) (ws : List A) (d : A) (word : List ℕ) → 1 ≤ length ws → length ws < 2 → word ≡ now (get_or ws 0 d) → IsSomeKey word → AreSomeKeyOnly (map now ws)
key_only now ws d word low high e (key, k, is) = (key, (k, is.0, one_word now ws d (encoded key) low high (sym e ∙ sym is.1)))

-- ---- commands

two_and_more : {A : Type 0} (now : A → List ℕ) (ws : List A) (d0 d1 : A) (x0 x1 : List ℕ) → 2 ≤ length ws → now (get_or ws 0 d0) ≡ x0 → now (get_or ws 1 d1) ≡ x1
    → map now ws ≡ x0 ∷ x1 ∷ map now (drop 2 ws)
two_and_more now [] d0 d1 x0 x1 low h0 h1 = absurd (omega arith)
two_and_more now (a ∷ []) d0 d1 x0 x1 low h0 h1 = absurd (omega arith)
two_and_more now (a ∷ b ∷ more) d0 d1 x0 x1 low h0 h1 = cc

-- a client, the number of its command and operands are a command's words behind the operation's name
pub whole_command : {A : Type 0} (now : A → List ℕ) (name : List ℕ) (ws : List A) (d0 d1 : A) (client seq : ℕ) → 2 ≤ length ws → IsNumber client → IsNumber seq
    → now (get_or ws 0 d0) ≡ decimal client → now (get_or ws 1 d1) ≡ decimal seq → AreOperands name (map now (take (length ws - 2) (drop 2 ws))) → IsCommand (name ∷ map now ws)
whole_command now name ws d0 d1 client seq low hc hs e0 e1 (op, h) =
    let all : take (length ws - 2) (drop 2 ws) ≡ drop 2 ws = take_all (length ws - 2) (drop 2 ws) (omega (arith, length-drop 2 ws)) in
    let words = two_and_more now ws d0 d1 (decimal client) (decimal seq) low e0 e1 in
    let first = h.named in
    let rest : map now (drop 2 ws) ≡ operands op = rw all at h.written in (
      record { client = client; seq = seq; op = op },
      record {
        in_range = record { client = hc; seq = hs; op = h.in_range };
        of_bytes = h.of_bytes;
        written = cc (words, first, rest);
      },
    )

-- fewer words are none's
pub no_short_command : {A : Type 0} (now : A → List ℕ) (name : List ℕ) (ws : List A) → length ws < 2 → (c : Command) → IsCommandOf (name ∷ map now ws) c → ⊥
no_short_command now name ws short c h =
    let long : name ∷ map now ws ≡ op_name c.op ∷ decimal c.client ∷ decimal c.seq ∷ operands c.op = h.written in
    omega (arith, short, sym (length-map ws now) ∙ ap length (ap after_first long))

-- a client, the number of its read and a key are a read's words
pub whole_read : {A : Type 0} (now : A → List ℕ) (ws : List A) (d0 d1 : A) (client seq : ℕ) → 2 ≤ length ws → IsNumber client → IsNumber seq
    → now (get_or ws 0 d0) ≡ decimal client → now (get_or ws 1 d1) ≡ decimal seq → AreSomeKeyOnly (map now (take (length ws - 2) (drop 2 ws))) → IsRead (map now ws)
whole_read now ws d0 d1 client seq low hc hs e0 e1 (key, h) =
    let all : take (length ws - 2) (drop 2 ws) ≡ drop 2 ws = take_all (length ws - 2) (drop 2 ws) (omega (arith, length-drop 2 ws)) in
    let words = two_and_more now ws d0 d1 (decimal client) (decimal seq) low e0 e1 in
    let rest : map now (drop 2 ws) ≡ encoded key ∷ [] = rw all at h.2 in
    (record { client = client; seq = seq; key = key }, record { in_range = record { client = hc; seq = hs; key = h.0 }; of_bytes = h.1; written = cc (words, rest) })

-- a read's words behind `read` are a request's
pub read_request : (words : List (List ℕ)) → IsRead words → IsRequest (codes "read" ∷ words)
read_request words (r, h) = (
  request.Read r,
  record {
    in_range = (h.in_range, h.of_bytes);
    written = ap (λ (more : List (List ℕ)). codes "read" ∷ more) h.written;
  },
)

-- a command's words are a request's
pub command_request : (words : List (List ℕ)) → IsCommand words → IsRequest words
command_request words (c, h) = (request.Command c, record { in_range = (h.in_range, h.of_bytes); written = h.written })

-- members' ids behind `stop` are a request's words
pub stop_request : (words : List (List ℕ)) → AreMembers words → IsRequest (codes "stop" ∷ words)
stop_request words (members, h) = (
  request.Stop members,
  record {
    in_range = h.in_range;
    written = ap (λ (more : List (List ℕ)). codes "stop" ∷ more) h.written;
  },
)
