-- What a node answers from its closed list: news of the next configuration, its base, and its entries.
use Rattle.std.proofs.Common.{◌≡◌, ◌<◌, ◌≤◌, ℕ, zero, suc, ◌+◌, ◌-◌, ◌*◌, min, Bool, true, false, cond, ◌&&◌, eqb, nat_eq, nat_lt, nat_le, is_some, List, [], ◌∷◌, ◌++◌, length, take, drop, Option, Some, None, refl, sym, ap, ◌∙◌, subst, arith, length-take}
use Rattle.std.specs.Prelude.{◌/◌}
use Rattle.std.specs.Set.{is_member}
use Rattle.std.proofs.lemmas.Bool.{cond_both, eqb-true, and_parts, le-ltb, lt-ltb}
use Rattle.std.proofs.lemmas.List.{length-drop}
use Rattle.op_types.specs.Changes.{closed_len}
use Rattle.op_types.specs.Limits.{most_part_bytes}
use Rattle.op_types.specs.Cutting.{parts_from, cut}
use Rattle.op_types.specs.declared.runs.Piece.{Piece}
use Rattle.op_types.specs.declared.messages.Body.TheVariants as body
use Rattle.op_spec.specs.Service.{base_bytes, service_of}
use Rattle.op_spec.specs.Stands.{lists_through}
use Rattle.op_types.specs.declared.durable.Part.{Part as StoredPart}
use Rattle.op_types.specs.declared.durable.Closed.{Closed as StoredClosed}
use Rattle.op_types.specs.declared.durable.Durable.{Durable}
use Rattle.op_types.specs.declared.log.Entry.{Entry}
use Rattle.op_protocol.specs.Configurations.{latest_members, latest_members_in}
use Rattle.op_protocol.specs.Joining.{base_pieces, piece_count, gives_base, gives_segment, closed_entries, is_within}
use Rattle.op_protocol.specs.Parts.{messages}
use Rattle.op_protocol.specs.Rows.{on_older}
use Rattle.op_runs.specs.World.{sent_by}
use Rattle.op_configurations.specs.Servers as server
use Rattle.op_configurations.specs.Servers.{Part, Closed, State, Letter, pieces_from}
use Rattle.op_configurations.specs.Stored.{HoldsIfClosed}
use Rattle.op_refinement.proofs.Relation.{AreLetters}
use Rattle.op_refinement.proofs.Letters.{news_said}

-- ---- entries of a closed list

abbrev no_entries : List Entry
no_entries = []

suc_out : (a b : ℕ) → suc (a + b) ≡ suc a + b
suc_out a b = omega arith

drop_twice : (l : List Entry) (a b : ℕ) → drop b (drop a l) ≡ drop (a + b) l
drop_twice l zero b = ap (λ (n : ℕ). drop n l) (omega arith)
drop_twice [] (suc a) b = none b ∙ sym (none (suc a + b))
  where
    none : (n : ℕ) → drop n no_entries ≡ no_entries
    none zero = refl
    none (suc n) = refl
drop_twice (e ∷ l) (suc a) b = drop_twice l a b ∙ ap (λ (n : ℕ). drop n (e ∷ l)) (suc_out a b)

drop_front : (l : List Entry) (a b : ℕ) → drop a (take (a + b) l) ≡ take b (drop a l)
drop_front l zero b = ap (λ (n : ℕ). take n l) (omega arith)
drop_front [] (suc a) b = ap (drop (suc a)) (taken (suc a + b)) ∙ sym (taken b)
  where
    taken : (n : ℕ) → take n no_entries ≡ no_entries
    taken zero = refl
    taken (suc n) = refl
drop_front (e ∷ l) (suc a) b = ap (λ (n : ℕ). drop (suc a) (take n (e ∷ l))) (sym (suc_out a b)) ∙ drop_front l a b

-- the entries between two places, from what is kept of the list
between : (l : List Entry) (t a b : ℕ) → t ≤ a → a ≤ b → take (b - a) (drop (a - t) (drop t l)) ≡ drop a (take b l)
between l t a b low high =
    ap (take (b - a)) (drop_twice l t (a - t) ∙ ap (λ (n : ℕ). drop n l) (omega (arith, low))) ∙ sym (drop_front l a (b - a)) ∙ ap (λ (n : ℕ). drop a (take n l)) (omega (arith, high))

module _ (lists : ℕ → List Entry) (me : ℕ) where
  -- ---- a base

  -- one that goes into a message
  pub base_letters : (o : Option StoredClosed) (k : Option Closed) → HoldsIfClosed lists o k → (q c : ℕ) → ((l : StoredClosed) → o ≡ Some l → eqb (l.conf + 1) c ≡ true → nat_le (length l.base) most_part_bytes ≡ true)
      → AreLetters lists (sent_by me (gives_base o q c)) (server.gives_base me k q c)
  unfolding server.gives_base
  base_letters None None h q c short = tt
  base_letters None (Some k) h q c short = absurd h
  base_letters (Some l) None h q c short = absurd h
  base_letters (Some l) (Some k) h q c short = by (eqb (suc k.conf) c) refl
    where
      same : eqb (l.conf + 1) c ≡ eqb (suc k.conf) c
      same = ap (λ (n : ℕ). eqb n c) (omega (arith, h.conf))

      by : (b : Bool) → eqb (suc k.conf) c ≡ b → AreLetters lists (sent_by me (gives_base (Some l) q c)) (server.gives_base me (Some k) q c)
      by false e = let f : eqb (l.conf + 1) c ≡ false = same ∙ e in rw (f, e) tt
      by true e =
          let f : eqb (l.conf + 1) c ≡ true = same ∙ e in
          let at : c - 1 - 1 ≡ k.conf - 1 = omega (arith, eqb-true (suc k.conf) c e) in
          let one : AreLetters lists (sent_by me (messages c q (body.BasePart l.trimmed l.base ∷ []))) (server.letter me q c (server.BasePart k.trimmed (take k.trimmed k.list)) ∷ []) = (
            record {
              from = refl;
              to = refl;
              conf = refl;
              body = (
                take k.trimmed k.list,
                ap (λ (n : ℕ). server.BasePart n (take k.trimmed k.list)) (sym h.trimmed),
                h.base ∙ ap (λ (n : ℕ). base_bytes (service_of (lists_through lists n ++ take k.trimmed k.list))) (sym at),
              );
              small = tt;
            },
            tt,
          ) in
          rw (f, e) (subst (λ (t : Bool). AreLetters lists (sent_by me (messages c q (cond t (body.BasePart l.trimmed l.base ∷ []) (base_pieces l.trimmed l.base 0 (piece_count (length l.base)))))) (server.letter me q c (server.BasePart k.trimmed (take k.trimmed k.list)) ∷ [])) (sym (short l refl f)) one)

  -- ---- a base in pieces

  -- its pieces from a place on, where that many are left
  from_pieces : (q c at : ℕ) (bytes : List ℕ) (front : List Entry) → bytes ≡ base_bytes (service_of (lists_through lists (c - 1 - 1) ++ front)) → (count fuel from : ℕ)
      → length bytes ≤ from + count * most_part_bytes → ((n : ℕ) → count ≡ suc n → from + n * most_part_bytes < length bytes) → length bytes ≤ from + fuel * most_part_bytes
      → AreLetters lists (sent_by me (messages c q (base_pieces at bytes from count))) (pieces_from me q c at front (length bytes) from fuel)
  from_pieces q c at bytes front is zero zero from all last enough = tt
  from_pieces q c at bytes front is zero (suc fuel) from all last enough = let past : nat_lt from (length bytes) ≡ false = le-ltb from (length bytes) (omega (arith, all)) in rw past tt
  from_pieces q c at bytes front is (suc n) zero from all last enough = absurd (omega (arith, last n refl, enough))
  from_pieces q c at bytes front is (suc n) (suc fuel) from all last enough =
      let below : nat_lt from (length bytes) ≡ true = lt-ltb from (length bytes) (omega (arith, last n refl)) in
      let piece : Piece = record { at = at; total = length bytes; from = from; bytes = take most_part_bytes (drop from bytes) } in
      let size : length piece.bytes ≡ min most_part_bytes (length bytes - from) = length-take most_part_bytes (drop from bytes) ∙ ap (min most_part_bytes) (length-drop from bytes) in
      let low : from < length bytes = omega (arith, last n refl) in
      rw below (
        record {
          from = refl;
          to = refl;
          conf = refl;
          body = (
            front,
            ap (λ (k : ℕ). server.BasePiece at (length bytes) from k front) (sym size),
            record {
              total = ap (λ (l : List ℕ). length l) is;
              some = omega (arith, size, low);
              within = omega (arith, size, low, ap (λ (l : List ℕ). length l) is);
              bytes_are = taken_again most_part_bytes (drop from bytes) ∙ ap (λ (l : List ℕ). take (length piece.bytes) (drop from l)) is;
            },
          );
          small = tt;
        },
        from_pieces q c at bytes front is n fuel (from + most_part_bytes) (omega (arith, all)) (λ m e. omega (arith, last n refl, e)) (omega (arith, enough)),
      )
    where
      taken_again : (k : ℕ) (l : List ℕ) → take k l ≡ take (length (take k l)) l
      taken_again zero l = refl
      taken_again (suc k) [] = refl
      taken_again (suc k) (x ∷ l) = ap (λ (y : List ℕ). x ∷ y) (taken_again k l)

  -- one that is too long for a message
  pub pieces_letters : (l : StoredClosed) (k : Option Closed) → HoldsIfClosed lists (Some l) k → (q c : ℕ) → eqb (l.conf + 1) c ≡ true → nat_le (length l.base) most_part_bytes ≡ false
      → AreLetters lists (sent_by me (gives_base (Some l) q c)) (server.gives_pieces me k q c (length l.base))
  unfolding server.gives_pieces
  pieces_letters l None h q c here long = absurd h
  pieces_letters l (Some k) h q c here long =
      let there : eqb (suc k.conf) c ≡ true = ap (λ (n : ℕ). eqb n c) (omega (arith, h.conf)) ∙ here in
      let at : c - 1 - 1 ≡ k.conf - 1 = omega (arith, eqb-true (suc k.conf) c there) in
      let front : List Entry = take k.trimmed k.list in
      let is : l.base ≡ base_bytes (service_of (lists_through lists (c - 1 - 1) ++ front)) = h.base ∙ ap (λ (n : ℕ). base_bytes (service_of (lists_through lists n ++ front))) (sym at) in
      let total : ℕ = length l.base in
      let pieces : AreLetters lists (sent_by me (messages c q (base_pieces l.trimmed l.base 0 (piece_count total)))) (pieces_from me q c k.trimmed front total 0 (suc (total / most_part_bytes))) =
      subst (λ (n : ℕ). AreLetters lists (sent_by me (messages c q (base_pieces l.trimmed l.base 0 (piece_count total)))) (pieces_from me q c n front total 0 (suc (total / most_part_bytes)))) h.trimmed
      (from_pieces q c l.trimmed l.base front is (piece_count total) (suc (total / most_part_bytes)) 0 (omega arith) (λ n e. omega (arith, e)) (omega arith)) in
      rw (here, there) (subst (λ (t : Bool). AreLetters lists (sent_by me (messages c q (cond t (body.BasePart l.trimmed l.base ∷ []) (base_pieces l.trimmed l.base 0 (piece_count total))))) (pieces_from me q c k.trimmed front total 0 (suc (total / most_part_bytes)))) (sym long) pieces)

  -- ---- entries

  -- each run in a segment
  runs_letters : (q c at : ℕ) (runs : List (List Entry)) → AreLetters lists (sent_by me (messages c q (parts_from (λ at run. body.Segment at run) at runs))) (parts_from (λ at run. server.letter me q c (server.Segment at run)) at runs)
  runs_letters q c at [] = tt
  runs_letters q c at (run ∷ runs) = (record { from = refl; to = refl; conf = refl; body = refl; small = tt }, runs_letters q c (at + length run) runs)

  pub segment_letters : (o : Option StoredClosed) (k : Option Closed) → HoldsIfClosed lists o k → ((c : Closed) → k ≡ Some c → c.trimmed ≤ length c.list) → (q c from to : ℕ)
      → AreLetters lists (sent_by me (gives_segment o q c from to)) (server.gives_segment me k q c from to)
  unfolding server.gives_segment
  segment_letters None None h low q c from to = tt
  segment_letters None (Some k) h low q c from to = absurd h
  segment_letters (Some l) None h low q c from to = absurd h
  segment_letters (Some l) (Some k) h low q c from to = by (eqb (suc k.conf) c && (nat_le k.trimmed from && (nat_lt from to && nat_le to (length k.list)))) refl
    where
      size : closed_len l ≡ length k.list
      size = omega (arith, h.trimmed, ap (λ (xs : List Entry). length xs) h.tail, length-drop k.trimmed k.list, low k refl)

      same : (eqb (l.conf + 1) c && is_within l from to) ≡ (eqb (suc k.conf) c && (nat_le k.trimmed from && (nat_lt from to && nat_le to (length k.list))))
      same =
          ap (λ (n : ℕ). eqb n c && is_within l from to) (omega (arith, h.conf))
          ∙ ap (λ (n : ℕ). eqb (suc k.conf) c && (nat_le n from && (nat_lt from to && nat_le to (closed_len l)))) h.trimmed
          ∙ ap (λ (n : ℕ). eqb (suc k.conf) c && (nat_le k.trimmed from && (nat_lt from to && nat_le to n))) size

      by : (b : Bool) → (eqb (suc k.conf) c && (nat_le k.trimmed from && (nat_lt from to && nat_le to (length k.list)))) ≡ b
          → AreLetters lists (sent_by me (gives_segment (Some l) q c from to)) (server.gives_segment me (Some k) q c from to)
      by false e = let f = same ∙ e in rw (f, e) tt
      by true e =
          let f = same ∙ e in
          let w = and_parts (nat_le k.trimmed from) (nat_lt from to && nat_le to (length k.list)) (and_parts (eqb (suc k.conf) c) (nat_le k.trimmed from && (nat_lt from to && nat_le to (length k.list))) e).1 in
          let lows = Rattle.std.proofs.lemmas.Bool.leb-true k.trimmed from w.0 in
          let highs = Rattle.std.proofs.lemmas.Bool.ltb-true from to (and_parts (nat_lt from to) (nat_le to (length k.list)) w.1).0 in
          let entries : closed_entries l from to ≡ drop from (take to k.list) =
          ap (λ (xs : List Entry). take (to - from) (drop (from - l.trimmed) xs)) h.tail ∙ ap (λ (n : ℕ). take (to - from) (drop (from - n) (drop k.trimmed k.list))) h.trimmed
          ∙ between k.list k.trimmed from to lows (omega (arith, highs)) in
          rw (f, e) (subst (λ (es : List Entry). AreLetters lists (sent_by me (messages c q (parts_from (λ at run. body.Segment at run) from (cut es)))) (parts_from (λ at run. server.letter me q c (server.Segment at run)) from (cut (drop from (take to k.list))))) (sym entries)
          (runs_letters q c from (cut (drop from (take to k.list)))))

  -- ---- news of the next configuration

  pub members_same : (d : Option StoredPart) (l : Option StoredClosed) (o : Option Part) (k : Option Closed) → ((p : StoredPart) (pt : Part) → d ≡ Some p → o ≡ Some pt → p.members ≡ pt.members) → (is_some d ≡ is_some o)
      → HoldsIfClosed lists l k → latest_members_in d l ≡ server.latest_members_in o k
  members_same None None None None s i h = refl
  members_same None None None (Some k) s i h = absurd h
  members_same None (Some l) None None s i h = absurd h
  members_same None (Some l) None (Some k) s i h = h.next
  members_same (Some p) l (Some pt) k s i h = s p pt refl refl
  members_same None l (Some pt) k s i h = absurd (Rattle.std.proofs.lemmas.Bool.both_ways false refl i)
  members_same (Some p) l None k s i h = absurd (Rattle.std.proofs.lemmas.Bool.both_ways true i refl)

  pub older_letters : (d : Durable) (st : State) → latest_members d ≡ server.latest_members st → (o : Option StoredClosed) (k : Option Closed) → HoldsIfClosed lists o k → ((c : Closed) → k ≡ Some c → c.trimmed ≤ length c.list) → (q : ℕ)
      → AreLetters lists (sent_by me (on_older d o q)) (server.refers me st k q)
  unfolding server.refers
  older_letters d st same None None h low q = tt
  older_letters d st same None (Some k) h low q = absurd h
  older_letters d st same (Some l) None h low q = absurd h
  older_letters d st same (Some l) (Some k) h low q = by (is_member nat_eq (server.latest_members st) q) refl
    where
      by : (b : Bool) → is_member nat_eq (server.latest_members st) q ≡ b → AreLetters lists (sent_by me (on_older d (Some l) q)) (server.refers me st (Some k) q)
      by false e = let f : is_member nat_eq (latest_members d) q ≡ false = ap (λ (xs : List ℕ). is_member nat_eq xs q) same ∙ e in rw (f, e) tt
      by true e =
          let f : is_member nat_eq (latest_members d) q ≡ true = ap (λ (xs : List ℕ). is_member nat_eq xs q) same ∙ e in
          rw (f, e) (record { from = refl; to = refl; conf = omega (arith, h.conf); body = news_said lists l k h (low k refl) (suc k.conf); small = tt }, tt)
