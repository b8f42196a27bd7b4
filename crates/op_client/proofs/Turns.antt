-- The steps of a turn, as the code takes them.
use Rattle.std.proofs.Common.{◌≡◌, ℕ, List, [], ◌∷◌, ◌+◌, ◌<◌, Option, Some, None, refl, sym, ◌∙◌, subst, length, Err}
use Rattle.std.proofs.lemmas.Bool.{eq-eqb, ne_eqb}
use Rattle.op_outside.specs.Causes.{Rises}
use Rattle.op_outside.specs.Nets.{Waited, Readied, WasRead, Wrote, SawBytes, SawNotYet, SawEnd, SawFault}
use Rattle.op_outside.specs.Seen.{NetSeen}
use Rattle.op_outside.specs.Telling.{Grows}
use Rattle.op_outside.specs.declared.net.Happening.{Happening}
use Rattle.op_outside.specs.declared.net.Happening.TheVariants.{Accepted, Readable, Writable, Ended}
use Rattle.op_outside.specs.declared.net.Took.{Took}
use Rattle.op_outside.specs.declared.net.Took.TheVariants as took
use Rattle.op_client.specs.declared.call_fail.CallFail.TheVariants as fail
use Rattle.op_client.specs.Rules.{Client, has_written, has_read, piece_len, wait_millis, Place, at, write, wait, ask, read, look, close, of_happening, writes, writes_no_more, writes_end, writes_failing, all_written, waits, waits_failing, asks, reads, reads_nothing, reads_end, reads_failing}
use Rattle.op_client.specs.Run.{Ran, RanOut}
use Rattle.op_client.proofs.Runs.{asked, quietly}

nil_of : {A : Type 0} (xs : List A) → length xs ≡ 0 → xs ≡ []
nil_of [] e = refl
nil_of (x ∷ xs) e = absurd cc

module _ (c k : ℕ) (s : Client) (n0 n1 : NetSeen) (piece : List ℕ) (is : piece ≡ s.left) (lt : 0 < length piece) where
  more : 0 < length s.left
  more = subst (λ (p : List ℕ). 0 < length p) is lt

  grown : (answer : Option Took) → Grows n0.0 (Wrote c piece answer ∷ []) n1.0 → Grows n0.0 (Wrote c s.left answer ∷ []) n1.0
  grown answer g = subst (λ p. Grows n0.0 (Wrote c p answer ∷ []) n1.0) is g

  pub wrote : (t : Client) (n : ℕ) → t ≡ has_written n s → Grows n0.0 (Wrote c piece (Some (took.Bytes n)) ∷ []) n1.0 → n1.1 ≡ n0.1
      → Ran c (at write k s) (at write k t) n0 n1
  wrote t n e g same = rw e (asked n0 n1 (writes more) (grown (Some (took.Bytes n)) g) same)

  pub wrote_no_more : Grows n0.0 (Wrote c piece (Some took.NotYet) ∷ []) n1.0 → n1.1 ≡ n0.1 → Ran c (at write k s) (at wait k s) n0 n1
  wrote_no_more g same = asked n0 n1 (writes_no_more more) (grown (Some took.NotYet) g) same

  pub wrote_end : Grows n0.0 (Wrote c piece (Some took.Ended) ∷ []) n1.0 → n1.1 ≡ n0.1 → RanOut c (at write k s) (Err fail.NoReply) n0 n1
  wrote_end g same = (k, s, asked n0 n1 (writes_end more) (grown (Some took.Ended) g) same)

  pub wrote_failing : Grows n0.0 (Wrote c piece None ∷ []) n1.0 → Rises n0.1 n1.1 → RanOut c (at write k s) (Err fail.NetFault) n0 n1
  wrote_failing g rose = (k, s, asked n0 n1 (writes_failing more) (grown None g) rose)

module _ (c k : ℕ) (s : Client) where
  pub wrote_all : (n : NetSeen) (piece : List ℕ) → piece ≡ s.left → length piece ≡ 0 → Ran c (at write k s) (at wait k s) n n
  wrote_all n piece is e = quietly n (all_written (sym is ∙ nil_of piece e))

  module _ (n0 n1 : NetSeen) where
    pub waited : (h : ℕ) → Grows n0.0 (Waited wait_millis (Some h) ∷ []) n1.0 → n1.1 ≡ n0.1 → Ran c (at wait (k + 1) s) (at (ask 0 h) k s) n0 n1
    waited h g same = asked n0 n1 (waits k) g same

    pub waited_failing : Grows n0.0 (Waited wait_millis None ∷ []) n1.0 → Rises n0.1 n1.1 → RanOut c (at wait (k + 1) s) (Err fail.NetFault) n0 n1
    waited_failing g rose = (k, s, asked n0 n1 (waits_failing k) g rose)

    -- a happening, and the place that it leads to
    pub readied : (i n : ℕ) (h : Happening) (p : Place) → i < n → of_happening c h (i + 1) n ≡ p → Grows n0.0 (Readied i h ∷ []) n1.0 → n1.1 ≡ n0.1
        → Ran c (at (ask i n) k s) (at p k s) n0 n1
    readied i n h p lt is g same = subst (λ q. Ran c (at (ask i n) k s) (at q k s) n0 n1) is (asked n0 n1 (asks lt) g same)

    pub was_read : (i n : ℕ) (bytes : List ℕ) → Grows n0.0 (WasRead c piece_len (SawBytes bytes) ∷ []) n1.0 → n1.1 ≡ n0.1
        → Ran c (at (read i n) k s) (at (look i n) k (has_read bytes s)) n0 n1
    was_read i n bytes g same = asked n0 n1 reads g same

    pub was_read_nothing : (i n : ℕ) → Grows n0.0 (WasRead c piece_len SawNotYet ∷ []) n1.0 → n1.1 ≡ n0.1 → Ran c (at (read i n) k s) (at (ask i n) k s) n0 n1
    was_read_nothing i n g same = asked n0 n1 reads_nothing g same

    pub was_read_end : (i n : ℕ) → Grows n0.0 (WasRead c piece_len SawEnd ∷ []) n1.0 → n1.1 ≡ n0.1 → RanOut c (at (read i n) k s) (Err fail.NoReply) n0 n1
    was_read_end i n g same = (k, s, asked n0 n1 reads_end g same)

    pub was_read_failing : (i n : ℕ) → Grows n0.0 (WasRead c piece_len SawFault ∷ []) n1.0 → Rises n0.1 n1.1 → RanOut c (at (read i n) k s) (Err fail.NetFault) n0 n1
    was_read_failing i n g rose = (k, s, asked n0 n1 reads_failing g rose)

-- what a happening leads to
pub of_own_bytes : (c d i n : ℕ) → d ≡ c → of_happening c (Readable d) i n ≡ read i n
of_own_bytes c d i n e = rw (eq-eqb d c e) refl

pub of_own_end : (c d i n : ℕ) → d ≡ c → of_happening c (Ended d) i n ≡ close (Err fail.NoReply)
of_own_end c d i n e = rw (eq-eqb d c e) refl

pub of_other_bytes : (c d : ℕ) (h : Happening) (i n : ℕ) → h ≡ Readable d → (d ≡ c → ⊥) → of_happening c h i n ≡ ask i n
of_other_bytes c d h i n is ne = rw (is, ne_eqb d c ne) refl

pub of_other_end : (c d : ℕ) (h : Happening) (i n : ℕ) → h ≡ Ended d → (d ≡ c → ⊥) → of_happening c h i n ≡ ask i n
of_other_end c d h i n is ne = rw (is, ne_eqb d c ne) refl

pub of_neither : (c : ℕ) (h : Happening) (i n : ℕ) → ((d : ℕ) → h ≡ Readable d → ⊥) → ((d : ℕ) → h ≡ Ended d → ⊥) → of_happening c h i n ≡ ask i n
of_neither c (Accepted d) i n r e = refl
of_neither c (Readable d) i n r e = absurd (r d refl)
of_neither c (Writable d) i n r e = refl
of_neither c (Ended d) i n r e = absurd (e d refl)
