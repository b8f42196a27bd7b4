-- How many inputs may yet come of what is left by each thing that is done.
use Rattle.std.proofs.Common.{◌≡◌, ◌≤◌, ◌+◌, ◌∷◌, [], ℕ, true, false, List, length, drop, Option, Some, None, option_map, nat_lt, refl, ◌∙◌, sym, ap, inl, inr, arith}
use Rattle.std.proofs.lemmas.List.{length-append, length-drop}
use Rattle.std.proofs.lemmas.List.Sums.{sum_by-cons}
use Rattle.std.proofs.lemmas.Map.Entries.{sum_by-set_value}
use Rattle.std.proofs.lemmas.Map.{length-set_value}
use Rattle.std.specs.BTreeMap.{is_at, insert_entry}
use Rattle.std.specs.List.{sum_by}
use Rattle.std.specs.Map.{values_of}
use Rattle.std.specs.Ordering.{nat_cmp}
use Rattle.op_serving.specs.declared.kind.Kind.{Kind}
use Rattle.op_serving.specs.declared.kind.Kind.TheVariants.{Unknown, Peer, Client}
use Rattle.op_serving.specs.declared.session.Session.{Session}
use Rattle.op_serving.specs.State.{Table, Loop, find, is_open, kind_at, set, without, changed, changed_at, down_of, with_bytes, waits_for, left_at, left_by, counted}
use Rattle.op_serving.specs.Losses.{most_marks, mark_at, noted, stopped_if, marked, lost_by, size}
use Rattle.op_serving.specs.Counts.{hello_in, most_of, most_inputs}
use Rattle.op_serving.specs.Inputs.{gathers, brings, releases}
use Rattle.op_serving.specs.Reading.{feeding, feeds, frames_at, links}
use Rattle.op_serving.specs.Turns.{happens_at, turn_begins, hello_less, joining, made_session, taken_of, up_peer, without_bytes}
use Rattle.op_types.specs.declared.log.Command.{Command}
use Rattle.op_types.specs.declared.messages.Msg.{Msg}
use Rattle.op_queues.proofs.Tables.{without_short, without_less, find_set}
use Rattle.op_queues.proofs.Losing.{left_cases, by_stop}
use Rattle.op_conns.proofs.Numbers.{compared}

-- ---- in a table

-- of all its sessions
pub most_in : Table Session → ℕ
most_in t = sum_by most_of (values_of t)

most_cons : (e : ℕ × Session) (t : Table Session) → most_in (e ∷ t) ≡ most_of e.1 + most_in t
unfolding most_in
most_cons e t = sum_by-cons most_of e.1 (values_of t)

pub most_set : (c : ℕ) (x y : Session) (t : Table Session) → find c t ≡ Some y → most_in (set c x t) + most_of y ≡ most_in t + most_of x
unfolding most_in
most_set c x y t e = sum_by-set_value most_of (is_at (nat_cmp c)) t y x e

-- a session of which no more may come takes another's place
pub set_takes : (c n : ℕ) (x y : Session) (t : Table Session) → find c t ≡ Some y → most_of x + n ≤ most_of y
    → sum_by most_of (values_of (set c x t)) + n ≤ sum_by most_of (values_of t)
unfolding most_in
set_takes c n x y t e h = omega (arith, most_set c x y t e, h)

most_without : (c : ℕ) (t : Table Session) → most_in (without c t) ≤ most_in t
most_without c [] = omega arith
most_without c (e ∷ t) = grind (arith, most_cons, most_without c t)

most_taken_out : (c : ℕ) (x : Session) (t : Table Session) → find c t ≡ Some x → most_in (without c t) + most_of x ≤ most_in t
most_taken_out c x [] e = absurd cc
most_taken_out c x (d ∷ t) e = grind (arith, most_cons, most_without c t, most_taken_out c x t)

most_put : (c : ℕ) (x : Session) (t : Table Session) → most_in (insert_entry nat_cmp t c x) ≤ most_in t + most_of x
most_put c x [] = omega (arith, most_cons (c, x) [])
most_put c x (d ∷ t) = grind (arith, most_cons, compared c d.0, most_put c x t)

-- a change by which no more than so many come of a session
module _ (f : Session → Session) (n : ℕ) (few : (x : Session) → most_of (f x) ≤ most_of x + n) where
  most_changed_at : (c : ℕ) (o : Option Session) (t : Table Session) → find c t ≡ o → most_in (changed_at f c o t) ≤ most_in t + n
  most_changed_at c None t e = omega arith
  most_changed_at c (Some x) t e = omega (arith, most_set c (f x) x t e, few x)

  pub most_changed : (c : ℕ) (t : Table Session) → most_in (changed f c t) ≤ most_in t + n
  most_changed c t = most_changed_at c (find c t) t refl

-- ---- of what is there

pub most_is : (s : Loop) → most_inputs s ≡ s.place.inputs + length s.downs + length s.gathered + length s.brought + most_in s.sessions
unfolding most_inputs most_in
most_is s = refl

-- no fewer than came
pub came : (s : Loop) → s.place.inputs ≤ most_inputs s
came s = omega (arith, most_is s)

-- where as many came, and the same is there
pub most_same : (s t : Loop) → t.place.inputs ≡ s.place.inputs → t.downs ≡ s.downs → t.gathered ≡ s.gathered → t.brought ≡ s.brought
    → t.sessions ≡ s.sessions → most_inputs t ≡ most_inputs s
most_same s t i d g b x = omega (arith, most_is s, most_is t, i, ap length d, ap length g, ap length b, ap most_in x)

-- where the sessions alone change
most_sessions : (n : ℕ) (s : Loop) (t : Table Session) → most_in t ≤ most_in s.sessions + n → most_inputs (record s { sessions = t }) ≤ most_inputs s + n
most_sessions n s t h = omega (arith, h, most_is s, most_is (record s { sessions = t }))

-- ---- a session ends, or had ended

one_down : (k : Kind) → length (down_of k) ≤ 1
one_down Unknown = omega arith
one_down (Peer q h) = grind arith
one_down Client = omega arith

-- it leaves one Down at most, and one input less
left_less : (c : ℕ) (x : Session) (s : Loop) → find c s.sessions ≡ Some x
    → (most_inputs (left_at c (Some x.kind) s) + 1 ≤ most_inputs s) × (size (left_at c (Some x.kind) s) ≤ size s)
left_less c x s e =
    let downs = length-append s.downs (down_of x.kind) in
    let one = one_down x.kind in
    let left = most_is (left_at c (Some x.kind) s) in (
      omega (arith, downs, one, most_is s, left, without_short c s.gathered, without_short c s.brought, most_taken_out c x s.sessions e),
      omega (arith, downs, one, without_less c x s.sessions e),
    )

pub most_ended : (c : ℕ) (s : Loop) → is_open c s ≡ true → most_inputs (left_by c s) + 1 ≤ most_inputs s
most_ended c s h = elim (left_cases c s) [
  | inl k ↦ absurd (let bad = rw k.0 at h in cc)
  | inr k ↦ rw k.2 (left_less c k.0 s k.1).0
]

pub most_left : (c : ℕ) (s : Loop) → most_inputs (left_by c s) ≤ most_inputs s
most_left c s = elim (left_cases c s) [ inl k ↦ rw k.1 (omega arith) | inr k ↦ rw k.2 (let less = left_less c k.0 s k.1 in omega (arith, less.0)) ]

pub size_left : (c : ℕ) (s : Loop) → size (left_by c s) ≤ size s
size_left c s = elim (left_cases c s) [ inl k ↦ rw k.1 (omega arith) | inr k ↦ rw k.2 (left_less c k.0 s k.1).1 ]

most_none : most_in [] ≡ 0
unfolding most_in
most_none = refl

pub most_marked : (conn : Option ℕ) (s : Loop) → most_inputs (marked conn s) ≤ most_inputs s
most_marked conn s =
    let n : Loop = noted (mark_at s.place conn) s in
    by_stop (λ u. most_inputs u ≤ most_inputs s) (nat_lt (length s.lost + 1) most_marks) n (omega (arith, most_is s, most_is n))
    (omega (arith, most_is s, most_is (stopped_if false n), most_none))

pub most_lost : (c : ℕ) (s : Loop) → most_inputs (lost_by c s) ≤ most_inputs s
most_lost c s = omega (arith, most_left c (marked (Some c) s), most_marked (Some c) s)

pub size_marked : (conn : Option ℕ) (s : Loop) → size (marked conn s) ≤ size s
size_marked conn s = by_stop (λ u. size u ≤ size s) (nat_lt (length s.lost + 1) most_marks) (noted (mark_at s.place conn) s) (omega arith) (omega arith)

pub size_lost : (c : ℕ) (s : Loop) → size (lost_by c s) ≤ size s
size_lost c s = omega (arith, size_left c (marked (Some c) s), size_marked (Some c) s)

-- ---- bytes

pub most_waits : (c : ℕ) (bytes : List ℕ) (s : Loop) → most_inputs (waits_for c bytes s) ≤ most_inputs s
most_waits c bytes s =
    omega (arith, most_sessions 0 s (changed (with_bytes bytes) c s.sessions) (most_changed (with_bytes bytes) 0 (λ x. omega arith) c s.sessions))

length_changed : (f : Session → Session) (c : ℕ) (o : Option Session) (t : Table Session) → length (changed_at f c o t) ≡ length t
length_changed f c None t = refl
length_changed f c (Some x) t = length-set_value (is_at (nat_cmp c)) t (f x)

pub size_waits : (c : ℕ) (bytes : List ℕ) (s : Loop) → size (waits_for c bytes s) ≡ size s
size_waits c bytes s = ap (λ n. length s.downs + n) (length_changed (with_bytes bytes) c (find c s.sessions) s.sessions)

pub most_feeds : (c : ℕ) (bytes : List ℕ) (s : Loop) → most_inputs (feeds c bytes s) ≤ most_inputs s + length bytes
most_feeds c bytes s =
    most_sessions (length bytes) s (changed (feeding bytes) c s.sessions)
    (most_changed (feeding bytes) (length bytes) (λ x. omega (arith, length-append x.frames.held bytes)) c s.sessions)

less_hello : (n : ℕ) (k : Kind) → hello_in (hello_less n k) ≤ hello_in k
less_hello n Unknown = omega arith
less_hello n (Peer q h) = omega arith
less_hello n Client = omega arith

pub most_took : (c n : ℕ) (s : Loop) → most_inputs (taken_of c n s) ≤ most_inputs s
most_took c n s =
    let fewer = most_changed (without_bytes n) 0 (λ x. omega (arith, less_hello n x.kind)) c s.sessions in
    omega (arith, most_sessions 0 s (changed (without_bytes n) c s.sessions) fewer)

-- where a hello went out whole, there is one input less for its session
went_up : (n q : ℕ) (k : Kind) → up_peer (Some k) (Some (hello_less n k)) ≡ Some q → hello_in (hello_less n k) + 1 ≤ hello_in k
went_up n q Unknown e = absurd cc
went_up n q (Peer p h) e = grind (arith, e)
went_up n q Client e = absurd cc

most_up_at : (c n q : ℕ) (o : Option Session) (s : Loop) → find c s.sessions ≡ o
    → up_peer (option_map (λ x. x.kind) o) (kind_at c (taken_of c n s)) ≡ Some q → most_inputs (taken_of c n s) + 1 ≤ most_inputs s
most_up_at c n q None s e h = absurd cc
most_up_at c n q (Some x) s e h =
    let y : Session = without_bytes n x in
    let is : (taken_of c n s).sessions ≡ set c y s.sessions = ap (λ o. changed_at (without_bytes n) c o s.sessions) e in
    let kind_is : kind_at c (taken_of c n s) ≡ Some (hello_less n x.kind) =
    ap (λ t. option_map (λ (z : Session). z.kind) (find c t)) is ∙ ap (option_map (λ (z : Session). z.kind)) (find_set c y x s.sessions e) in
    let k = went_up n q x.kind (sym (ap (up_peer (Some x.kind)) kind_is) ∙ h) in
    omega (arith, k, most_is s, most_is (taken_of c n s), ap most_in is, most_set c y x s.sessions e)

pub most_up : (c n q : ℕ) (s : Loop) → up_peer (kind_at c s) (kind_at c (taken_of c n s)) ≡ Some q → most_inputs (taken_of c n s) + 1 ≤ most_inputs s
most_up c n q s h = most_up_at c n q (find c s.sessions) s refl h

-- ---- sessions begin

most_made : (kind : Kind) (me : ℕ) → most_of (made_session kind me) ≡ 2 + hello_in kind
most_made Unknown me = omega arith
most_made (Peer q h) me = omega arith
most_made Client me = omega arith

pub most_joining : (c : ℕ) (kind : Kind) (s : Loop) → most_inputs (joining c kind s) ≤ most_inputs s + 2 + hello_in kind
most_joining c kind s =
    let x : Session = made_session kind s.me in
    let t : Table Session = insert_entry nat_cmp s.sessions c x in
    let same : most_inputs (joining c kind s) ≡ most_inputs (record s { sessions = t }) =
    most_same (record s { sessions = t }) (joining c kind s) refl refl refl refl refl in
    omega (arith, same, most_sessions (most_of x) s t (most_put c x s.sessions), most_made kind s.me)

pub most_links : (q c : ℕ) (s : Loop) → most_inputs (links q c s) ≤ most_inputs s
most_links q c s =
    let f = λ (x : Session). record x { kind = Peer q 0 } in
    let t : Table Session = changed f c s.sessions in
    let same : most_inputs (links q c s) ≡ most_inputs (record s { sessions = t }) =
    most_same (record s { sessions = t }) (links q c s) refl refl refl refl refl in
    omega (arith, same, most_sessions 0 s t (most_changed f 0 (λ x. omega arith) c s.sessions))

-- ---- inputs and commands

pub most_counted : (s : Loop) → most_inputs (counted s) ≤ most_inputs s + 1
most_counted s = omega (arith, most_is s, most_is (counted s))

pub most_gathers : (c : ℕ) (x : Command) (s : Loop) → most_inputs (gathers c x s) ≤ most_inputs s + 1
most_gathers c x s = omega (arith, most_is s, most_is (gathers c x s), length-append s.gathered ((c, x) ∷ []))

pub most_brings : (c : ℕ) (m : ℕ × Msg) (s : Loop) → most_inputs (brings c m s) ≤ most_inputs s + 1
most_brings c m s = omega (arith, most_is s, most_is (brings c m s), length-append s.brought ((c, m) ∷ []))

pub most_releases : (s : Loop) → most_inputs (releases s) + length s.gathered + length s.brought ≡ most_inputs s
most_releases s = omega (arith, most_is s, most_is (releases s))

-- the first Down is taken
pub most_less : (s t : Loop) {q : ℕ} {qs : List ℕ} → t ≡ record s { downs = drop 1 s.downs } → s.downs ≡ q ∷ qs → most_inputs t + 1 ≡ most_inputs s
most_less s t {q} {qs} e first = rw e (omega (arith, most_is s, most_is (record s { downs = drop 1 s.downs }), ap length first, length-drop 1 s.downs))

-- ---- where in the run

pub most_at_frame : (n : ℕ) (s : Loop) → most_inputs (frames_at n s) ≡ most_inputs s
most_at_frame n s = most_same s (frames_at n s) refl refl refl refl refl

pub most_at : (i : ℕ) (s : Loop) → most_inputs (happens_at i s) ≡ most_inputs s
most_at i s = most_same s (happens_at i s) refl refl refl refl refl

pub most_turn : (s : Loop) → most_inputs (turn_begins s) ≡ most_inputs s
most_turn s = most_same s (turn_begins s) refl refl refl refl refl
