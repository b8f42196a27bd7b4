-- What a node asks while it joins, what a donor gives, and the news of a configuration are in range.
use Rattle.std.proofs.Common.{◌≡◌, ◌≤◌, ◌<◌, ◌+◌, ◌-◌, ◌*◌, ◌/◌, ℕ, zero, suc, true, not, leb, ltb, eqb, nat_eq, ◌&&◌, is_some, List, [], ◌∷◌, length, take, drop, filter, Option, Some, None, arith, All}
use Rattle.std.specs.Prelude.{IfSome}
use Rattle.std.specs.Set.{is_member}
use Rattle.std.proofs.lemmas.Bool.{cond_both, ltb-true, leb-true, eqb-true, and_parts}
use Rattle.std.proofs.lemmas.List.{length-take, length-drop}
use Rattle.std.proofs.lemmas.List.Elements.{All-nil, All-cons, All-head, All-tail, All-append, All-filter, All-map, All-weaker, All-take, All-drop}
use Rattle.std.proofs.lemmas.Nat.{div_below, column_fits_turned}
use Rattle.op_types.specs.Limits.{most_part_bytes}
use Rattle.op_types.specs.Ranges.{IsConf, IsPlace}
use Rattle.op_types.specs.Changes.{closed_len}
use Rattle.op_types.specs.Joinings.{Donors, Base, held_run}
use Rattle.op_types.specs.declared.durable.Closed.{Closed}
use Rattle.op_types.specs.declared.durable.Joining.{Joining}
use Rattle.op_types.specs.declared.messages.Body.TheVariants as body
use Rattle.op_types.specs.declared.runs.Piece.{Piece}
use Rattle.op_kv.specs.Bases.{IsBase}
use Rattle.op_record.specs.Ranges.{ClosedInRange, DonorsInRange}
use Rattle.op_protocol.specs.Parts.{message, messages, to_each}
use Rattle.op_protocol.specs.Joining.{more_trimmed, base_donor, donors_from, part_start, ask_segment, ask_parts, ask_segments, ask_base, asks_with, asks, base_pieces, piece_count, base_bodies, segment_bodies, gives_base, closed_entries, is_within, gives_segment}
use Rattle.op_protocol.specs.Configurations.{next_conf_body, next_conf_message, new_members, news_of}
use Rattle.op_bounds.specs.Messages.{EntryOf, BodyInRange, SendInRange}
use Rattle.op_bounds.specs.States.{ClosedOf}
use Rattle.op_bounds.proofs.Entries.{entries_of_both}
use Rattle.op_bounds.proofs.Effects.{Said, send_one, send_bodies}
use Rattle.op_bounds.proofs.InParts.{run_entries, cut_said}
use Rattle.op_bounds.proofs.JoinChanges.{JoiningIn}

-- ---- a closed list

-- a closed list in range, which names known ids
pub record ClosedIn (Known : ℕ → Type 0) (l : Closed) : Type 0 where
  pub range : ClosedInRange l
  pub of : ClosedOf Known l

module _ (Known : ℕ → Type 0) (l : Closed) (k : ClosedIn Known l) where
  pub news_body : BodyInRange Known (next_conf_body l)
  news_body =
      (record { range = k.range.next; known = k.of.next }, record { range = k.range.olds; known = k.of.olds }, k.range.len, omega (arith, k.range.len))

  pub news_in : (q : ℕ) → Known q → SendInRange Known (next_conf_message l q)
  news_in q one =
      record { to = one; carries = omega arith; conf = λ h. (omega arith, omega (arith, k.range.conf)); message = record { conf = omega (arith, k.range.conf); least = omega (arith, k.range.conf); body = news_body } }

  each_news : (qs : List ℕ) → All Known qs → All (SendInRange Known) (to_each (l.conf + 1) qs (next_conf_body l))
  each_news qs all = All-map (SendInRange Known) (λ q. next_conf_message l q) qs (All-weaker Known (λ q. SendInRange Known (next_conf_message l q)) news_in qs all)

  pub news_said : All (SendInRange Known) (news_of l)
  news_said = each_news (new_members l) (All-filter (λ q. not (is_member nat_eq l.olds q)) Known l.next k.of.next)

  next_conf : (c : ℕ) → eqb (l.conf + 1) c ≡ true → IsConf c
  next_conf c h = let e = eqb-true (l.conf + 1) c h in (omega (arith, e), omega (arith, e, k.range.conf))

  -- each piece has a byte at least
  pieces_said : (bytes : List ℕ) (from count : ℕ) → from + count * most_part_bytes < length bytes + most_part_bytes → All (Said Known) (base_pieces l.trimmed bytes from count)
  pieces_said bytes from zero few = All-nil (Said Known)
  pieces_said bytes from (suc count) few =
      let piece : Piece = record { at = l.trimmed; total = length bytes; from = from; bytes = take most_part_bytes (drop from bytes) } in
      let size = length-take most_part_bytes (drop from bytes) in
      let left = length-drop from bytes in
      All-cons (Said Known) (body.BasePiece piece) (base_pieces l.trimmed bytes (from + most_part_bytes) count)
      (record { least = omega arith; carries = omega (arith, size); body = record { at = omega (arith, k.range.len); some = omega (arith, size, left, few); few = omega (arith, size) } })
      (pieces_said bytes (from + most_part_bytes) count (omega (arith, few)))

  bodies_said : (bytes : List ℕ) → All (Said Known) (base_bodies l.trimmed bytes)
  bodies_said bytes =
      cond_both (leb (length bytes) most_part_bytes) (body.BasePart l.trimmed bytes ∷ []) (base_pieces l.trimmed bytes 0 (piece_count (length bytes))) (All (Said Known))
      (λ h. All-cons (Said Known) (body.BasePart l.trimmed bytes) [] (record { least = omega arith; carries = leb-true (length bytes) most_part_bytes h; body = omega (arith, k.range.len) }) (All-nil (Said Known)))
      (λ _. pieces_said bytes 0 (piece_count (length bytes)) (omega arith))

  pub base_given : (q c : ℕ) → Known q → All (SendInRange Known) (gives_base (Some l) q c)
  base_given q c one =
      cond_both (eqb (l.conf + 1) c) (messages c q (base_bodies l.trimmed l.base)) [] (All (SendInRange Known))
      (λ h. send_bodies Known c q (base_bodies l.trimmed l.base) (next_conf c h) one (bodies_said l.base)) (λ _. All-nil (SendInRange Known))

  given_entries : (from to : ℕ) → All (EntryOf Known) (closed_entries l from to)
  given_entries from to =
      All-take (EntryOf Known) (to - from) (drop (from - l.trimmed) l.tail) (All-drop (EntryOf Known) (from - l.trimmed) l.tail (entries_of_both Known l.tail k.range.entries k.of.entries))

  pub segment_given : (q c from to : ℕ) → Known q → All (SendInRange Known) (gives_segment (Some l) q c from to)
  segment_given q c from to one =
      cond_both (eqb (l.conf + 1) c && is_within l from to) (messages c q (segment_bodies from (closed_entries l from to))) [] (All (SendInRange Known))
      (λ h. let a = and_parts (eqb (l.conf + 1) c) (is_within l from to) h in
      let b = and_parts (leb l.trimmed from) (ltb from to && leb to (closed_len l)) a.1 in
      let d = and_parts (ltb from to) (leb to (closed_len l)) b.1 in
      let low = ltb-true from to d.0 in
      let high = leb-true to (closed_len l) d.1 in
      send_bodies Known c q (segment_bodies from (closed_entries l from to)) (next_conf c a.0) one
      (cut_said Known (Said Known) (λ at run. body.Segment at run)
      (λ at run said. record { least = omega arith; carries = said.fits; body = (omega (arith, said.ends), run_entries Known at run said) })
      from (closed_entries l from to) (omega (arith, length-take (to - from) (drop (from - l.trimmed) l.tail), low, high, k.range.len)) (given_entries from to)))
      (λ _. All-nil (SendInRange Known))

-- ---- asking

-- a part of a length is no longer
part_low : (i count n : ℕ) → i ≤ count → 0 < count → i * n / count ≤ n
part_low zero count n le some =
    let one : 1 * n + 1 ≤ (n + 1) * count = column_fits_turned 1 n (n + 1) count (omega arith) (omega (arith, some)) in
    let below : zero * n / count < n + 1 = div_below (zero * n) count (n + 1) some (omega (arith, one)) in
    omega (arith, below)
part_low (suc i) count n le some =
    let more : suc i * n + suc i ≤ (n + 1) * count = column_fits_turned (suc i) n (n + 1) count (omega arith) le in
    let below : suc i * n / count < n + 1 = div_below (suc i * n) count (n + 1) some (omega (arith, more)) in
    omega (arith, below)

module _ (Known : ℕ → Type 0) (j : Joining) (k : JoiningIn Known j) where
  in_conf : IsConf j.conf
  in_conf = (omega (arith, k.range.conf), k.range.conf.1)

  -- a part begins in the closed list
  start_place : (at count i : ℕ) → at ≤ j.len → i ≤ count → 0 < count → IsPlace (part_start at j.len count i)
  start_place at count i within le some = omega (arith, within, part_low i count (j.len - at) le some, k.range.len)

  segment_said : (q from to : ℕ) → Known q → IsPlace from → IsPlace to → All (SendInRange Known) (ask_segment j q from to)
  segment_said q from to one low high =
      cond_both (ltb from to && not (is_some (held_run j.held.items from (to - from)))) (message j.conf q (body.AskSegment from to) ∷ []) [] (All (SendInRange Known))
      (λ _. send_one Known j.conf q (body.AskSegment from to) in_conf (omega arith) (omega arith) one (low, high)) (λ _. All-nil (SendInRange Known))

  parts_said : (at count i : ℕ) (qs : List ℕ) → at ≤ j.len → i + length qs ≤ count → All Known qs → All (SendInRange Known) (ask_parts j at count i qs)
  parts_said at count i [] within few all = All-nil (SendInRange Known)
  parts_said at count i (q ∷ qs) within few all =
      All-append (SendInRange Known) (ask_segment j q (part_start at j.len count i) (part_start at j.len count (i + 1))) (ask_parts j at count (i + 1) qs)
      (segment_said q (part_start at j.len count i) (part_start at j.len count (i + 1)) (All-head Known q qs all) (start_place at count i within (omega (arith, few)) (omega (arith, few)))
      (start_place at count (i + 1) within (omega (arith, few)) (omega (arith, few))))
      (parts_said at count (i + 1) qs within (omega (arith, few)) (All-tail Known q qs all))

  donors_known : (at : ℕ) → All Known (donors_from at j.donors)
  donors_known at =
      All-map Known (λ d. d.0) (filter (λ d. leb d.1 at) j.donors) (All-filter (λ d. leb d.1 at) (λ d. Known d.0) j.donors k.of.donors)

  segments_said : (at : ℕ) → at ≤ j.len → All (SendInRange Known) (ask_segments j at)
  segments_said at within = parts_said at (length (donors_from at j.donors)) 0 (donors_from at j.donors) within (omega arith) (donors_known at)

  -- a donor that is known, where no more is trimmed than there is
  abbrev DonorIn : ℕ × ℕ → Type 0
  DonorIn d = Known d.0 × (d.1 ≤ j.len)

  donors_in : (low : ℕ) (ds : Donors) → DonorsInRange j.len low ds → All (λ d. Known d.0) ds → All DonorIn ds
  donors_in low [] r all = All-nil DonorIn
  donors_in low (d ∷ ds) r all = All-cons DonorIn d ds (All-head (λ d. Known d.0) d ds all, r.2) (donors_in d.0 ds r.3 (All-tail (λ d. Known d.0) d ds all))

  best_in : (a : ℕ × ℕ) (ds : Donors) → DonorIn a → All DonorIn ds → DonorIn (base_donor a ds)
  best_in a [] one all = one
  best_in a (d ∷ ds) one all =
      best_in (more_trimmed a d) ds (cond_both (ltb a.1 d.1) d a DonorIn (λ _. All-head DonorIn d ds all) (λ _. one)) (All-tail DonorIn d ds all)

  base_said : (d : ℕ × ℕ) → DonorIn d → All (SendInRange Known) (ask_base j d)
  base_said d one =
      All-append (SendInRange Known) (message j.conf d.0 body.AskBase ∷ []) (ask_segments j d.1) (send_one Known j.conf d.0 body.AskBase in_conf (omega arith) (omega arith) one.0 tt) (segments_said d.1 one.1)

  with_said : (b : Option Base) (ds : Donors) → IfSome b (λ b. b.0 ≤ j.len) → All DonorIn ds → All (SendInRange Known) (asks_with j b ds)
  with_said (Some b) ds in_base all = segments_said b.0 in_base
  with_said None [] in_base all = All-nil (SendInRange Known)
  with_said None (d ∷ ds) in_base all = base_said (base_donor d ds) (best_in d ds (All-head DonorIn d ds all) (All-tail DonorIn d ds all))

  base_within : (b : Option Base) → IfSome b (λ b. (b.0 ≤ j.len) × IsBase b.1) → IfSome b (λ b. b.0 ≤ j.len)
  base_within None h = tt
  base_within (Some b) h = h.0

  -- what a node that joins asks at a tick
  pub asks_said : All (SendInRange Known) (asks j)
  asks_said = with_said j.base j.donors (base_within j.base k.range.base) (donors_in 0 j.donors k.range.donors k.of.donors)
