-- What holds of what is left when a session ends or is lost: of what ended, and where it was the last loss, of what has stopped.
use Rattle.std.proofs.Common.{◌≡◌, ◌+◌, ℕ, Bool, true, false, length, Option, Some, None, is_some, option_map, nat_lt, ◌⊎◌, inl, inr, ap, refl}
use Rattle.std.proofs.lemmas.Bool.{cases_Bool}
use Rattle.op_serving.specs.declared.kind.Kind.{Kind}
use Rattle.op_serving.specs.declared.session.Session.{Session}
use Rattle.op_serving.specs.State.{Loop, find, is_open, left_at, left_by, kind_at}
use Rattle.op_serving.specs.Losses.{most_marks, mark_at, noted, stopped_if, lost_by, lost_if_open}
use Rattle.op_queues.proofs.Tables.{find_without}

-- a session ends, or there was none
pub left_cases : (c : ℕ) (s : Loop)
    → ((find c s.sessions ≡ None) × (left_by c s ≡ s)) ⊎ ((x : Session) × (find c s.sessions ≡ Some x) × (left_by c s ≡ left_at c (Some x.kind) s))
left_cases c s = by_session (find c s.sessions) refl
  where
    by_session : (o : Option Session) → find c s.sessions ≡ o
        → ((find c s.sessions ≡ None) × (left_by c s ≡ s)) ⊎ ((x : Session) × (find c s.sessions ≡ Some x) × (left_by c s ≡ left_at c (Some x.kind) s))
    by_session None e = inl (e, ap (λ (o : Option Session). left_at c (option_map (λ x. x.kind) o) s) e)
    by_session (Some x) e = inr (x, e, ap (λ (o : Option Session). left_at c (option_map (λ y. y.kind) o) s) e)

-- what holds behind all of these holds
pub by_left : (P : Loop → Type 0) (c : ℕ) (o : Option Kind) (s : Loop) → P s → ((k : Kind) → P (left_at c (Some k) s)) → P (left_at c o s)
by_left P c None s same ends = same
by_left P c (Some k) s same ends = ends k

pub by_stop : (P : Loop → Type 0) (b : Bool) (s : Loop) → P s → P (stopped_if false s) → P (stopped_if b s)
by_stop P true s same stops = same
by_stop P false s same stops = stops

pub by_loss : (P : Loop → Type 0) (c : ℕ) (s : Loop) → P (noted (mark_at s.place (Some c)) s)
    → ((k : Kind) → P (left_at c (Some k) (noted (mark_at s.place (Some c)) s)))
    → P (stopped_if false (noted (mark_at s.place (Some c)) s)) → P (lost_by c s)
by_loss P c s same ends stops =
    let n : Loop = noted (mark_at s.place (Some c)) s in
    by_stop (λ u. P (left_by c u)) (nat_lt (length s.lost + 1) most_marks) n (by_left P c (kind_at c n) n same ends) stops

-- the session is gone
pub left_gone : (c : ℕ) (s : Loop) → find c (left_by c s).sessions ≡ None
left_gone c s = elim (left_cases c s) [ inl k ↦ rw k.1 k.0 | inr k ↦ rw k.2 (find_without c s.sessions) ]

pub gone : (c : ℕ) (s : Loop) → find c (lost_by c s).sessions ≡ None
gone c s =
    let n : Loop = noted (mark_at s.place (Some c)) s in
    by_stop (λ u. find c (left_by c u).sessions ≡ None) (nat_lt (length s.lost + 1) most_marks) n (left_gone c n) refl

-- where there was a session
pub by_open : (P : Loop → Type 0) (c : ℕ) (s : Loop) → (is_open c s ≡ false → P s) → (is_open c s ≡ true → P (lost_by c s)) → P (lost_if_open c s)
by_open P c s none some = elim (cases_Bool (is_open c s)) [ inl h ↦ rw h (some h) | inr h ↦ rw h (none h) ]

pub none_is : {X : Type 0} (o : Option X) → is_some o ≡ false → o ≡ None
none_is None e = refl
none_is (Some x) e = absurd cc

pub shut : (c : ℕ) (s t : Loop) → t ≡ lost_if_open c s → find c t.sessions ≡ None
shut c s t e = rw e (by_open (λ u. find c u.sessions ≡ None) c s (none_is (find c s.sessions)) (λ h. gone c s))
