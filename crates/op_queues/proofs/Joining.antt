-- A new connection's session, or its loss for want of memory.
use Rattle.std.proofs.Common.{◌≡◌, ◌<◌, ◌≤◌, ◌+◌, ◌++◌, ◌∷◌, [], ℕ, false, length, Some, is_some, option_map, nat_lt, ◌==◌, refl, sym, ◌∙◌, ap, inl, inr, ◌⊎◌, arith}
use Rattle.std.proofs.lemmas.Bool.{cases_Bool, ltb-true, ltb-false}
use Rattle.std.proofs.lemmas.List.{append-nil, length-append, length-take}
use Rattle.std.specs.BTreeMap.{insert_entry}
use Rattle.std.specs.Ordering.{nat_cmp}
use Rattle.std.specs.declared.cmp.Ordering.{Ordering}
use Rattle.std.specs.declared.cmp.Ordering.TheVariants.{Less, Equal, Greater}
use Rattle.op_serving.specs.declared.kind.Kind.{Kind}
use Rattle.op_serving.specs.declared.kind.Kind.TheVariants.{Unknown, Peer, Client}
use Rattle.op_serving.specs.declared.session.Session.{Session}
use Rattle.op_conns.proofs.Numbers.{is_at_own}
use Rattle.op_serving.specs.State.{Table, Loop, find, without, is_open, down_of, left_at, left_by}
use Rattle.op_serving.specs.Losses.{most_marks, mark_at, noted, stopped_if, marked, lost_by}
use Rattle.op_serving.specs.Turns.{closed_new, dialled_to, joining, made_session, queue_in}
use Rattle.op_queues.proofs.Losing.{none_is}
use Rattle.op_queues.proofs.Settling.{stopped_lost}
use Rattle.op_queues.proofs.Tables.{without_none}

pub order_cases : (o : Ordering) → (o ≡ Less) ⊎ ((o ≡ Equal) ⊎ (o ≡ Greater))
order_cases Less = inl refl
order_cases Equal = inr (inl refl)
order_cases Greater = inr (inr refl)

-- what waits first is of what waits
pub queue_within : (x : Session) → length (queue_in (Some x)) ≤ length x.queue
queue_within x = by_kind x.kind refl
  where
    by_kind : (k : Kind) → x.kind ≡ k → length (queue_in (Some x)) ≤ length x.queue
    by_kind Unknown e = rw e (omega arith)
    by_kind (Peer q h) e = rw e (elim (cases_Bool (h == 0)) [ inl g ↦ rw g (omega arith) | inr g ↦ rw g (omega (arith, length-take h x.queue)) ])
    by_kind Client e = rw e (omega arith)

-- ---- a new entry

module _ (c : ℕ) (x : Session) where
  pub length_put : (t : Table Session) → is_some (find c t) ≡ false → length (insert_entry nat_cmp t c x) ≡ length t + 1
  length_put [] e = refl
  length_put (d ∷ t) e = grind (arith, order_cases (nat_cmp c d.0), length_put t)

  pub find_put : (t : Table Session) → is_some (find c t) ≡ false → find c (insert_entry nat_cmp t c x) ≡ Some x
  find_put [] e = rw (is_at_own c) refl
  find_put (d ∷ t) e = grind (arith, is_at_own c, order_cases (nat_cmp c d.0), find_put t)

  pub without_put : (t : Table Session) → is_some (find c t) ≡ false → without c (insert_entry nat_cmp t c x) ≡ t
  without_put [] e = rw (is_at_own c) refl
  without_put (d ∷ t) e = grind (arith, is_at_own c, order_cases (nat_cmp c d.0), without_put t, without_none c (d ∷ t) (none_is (find c (d ∷ t)) e))

-- its session was lost
left_new : (c : ℕ) (kind : Kind) (s : Loop) → is_open c s ≡ false → down_of kind ≡ []
    → left_by c (joining c kind s) ≡ closed_new c (record s { peers = dialled_to kind c s.peers })
left_new c kind s new none =
    let x : Session = made_session kind s.me in
    let j : Loop = joining c kind s in
    ap (λ o. left_at c (option_map (λ (z : Session). z.kind) o) j) (find_put c x s.sessions new)
    ∙ ap (λ t. record (left_at c (Some kind) j) { sessions = t; downs = s.downs ++ down_of kind }) (without_put c x s.sessions new)
    ∙ ap (λ t. record (left_at c (Some kind) j) { sessions = s.sessions; downs = t }) (ap (λ l. s.downs ++ l) none ∙ append-nil s.downs)

pub turned_away : (c : ℕ) (kind : Kind) (s p m t : Loop) → is_open c s ≡ false → down_of kind ≡ [] → p ≡ record s { peers = dialled_to kind c s.peers }
    → m ≡ marked (Some c) p
    → (length m.lost < most_marks → t ≡ closed_new c m) → (most_marks ≤ length m.lost → t ≡ m) → t ≡ lost_by c (joining c kind s)
turned_away c kind s p m t new none is_p is_m few full =
    let n : Loop = noted (mark_at s.place (Some c)) s in
    let u : Loop = record n { peers = dialled_to kind c s.peers } in
    let is : m ≡ stopped_if (nat_lt (length s.lost + 1) most_marks) u = is_m ∙ ap (marked (Some c)) is_p in
    let count : length m.lost ≡ length s.lost + 1 =
    ap (λ (x : Loop). length x.lost) is ∙ ap length (stopped_lost (nat_lt (length s.lost + 1) most_marks) u)
    ∙ length-append s.lost (mark_at s.place (Some c) ∷ []) in
    elim (cases_Bool (nat_lt (length s.lost + 1) most_marks)) [
      | inl h ↦ few (omega (arith, count, ltb-true (length s.lost + 1) most_marks h)) ∙ rw (is, h) (sym (left_new c kind n new none))
      | inr h ↦ full (omega (arith, count, ltb-false (length s.lost + 1) most_marks h)) ∙ rw (is, h) refl
    ]
