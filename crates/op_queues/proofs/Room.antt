-- Frames that wait behind, what moves up of them, and the sessions that are lost for want of memory.
use Rattle.std.proofs.Common.{◌≡◌, ◌≤◌, ◌+◌, ◌++◌, ◌∷◌, [], ℕ, zero, suc, Bool, List, length, true, false, nat_lt, ◌==◌, ◌&&◌, not, ◌⊎◌, Option, Some, None, is_some, if◌then◌else◌, refl, sym, ◌∙◌, ap, inl, inr, arith}
use Rattle.std.specs.FinMap as map
use Rattle.op_types.specs.declared.messages.Msg.{Msg}
use Rattle.op_serving.specs.declared.kind.Kind.{Kind}
use Rattle.op_serving.specs.declared.session.Session.{Session}
use Rattle.op_serving.specs.State.{Askers, Awaited, Key, Table, Loop, find, without, without_asker, is_open, waits_for, left_at}
use Rattle.op_serving.specs.Losses.{most_marks, mark_at, noted, lost_by, lost_if_open}
use Rattle.op_serving.specs.Wire.{peer_frame}
use Rattle.op_serving.specs.Room.{Frame, has_room, count_at, goes_ahead, kept, placed, without_first, first_moved, moved_in, moved, begins_anew, cleared, is_excess}
use Rattle.op_serving.specs.Handing.{sent_behind, sent_if, sent_at, forgotten, asked_by_one}
use Rattle.op_queues.proofs.Tables.{same_or_not, find_without, find_apart, without_short, without_none, without_either, without_pushed, open_without}
use Rattle.op_queues.proofs.Frames.{count_apart, without_both, first_none, first_less}
use Rattle.op_queues.proofs.Askers.{asks_if, without_asks, nobody_left, none_removed}
use Rattle.op_queues.proofs.Counting.{most_same}
use Rattle.op_queues.proofs.Losing.{by_loss, by_open}
use Rattle.op_queues.proofs.Settling.{Quiet, quiet_same, quiet_then, quiet_as, quiet_if, quiet_by, past_of, quiet_waits, shut_waits}

-- ---- what changes who asks and what waits behind alone

-- by whether a connection has a session
module _ (c : ℕ) (h : Bool → Askers → Askers) (j : Bool → Table (List ℕ) → Table (List ℕ))
    (asks : (b : Bool) (d : ℕ) (t : Askers) → without_asker d (h b t) ≡ h (b && not (c == d)) (without_asker d t))
    (waits : (b : Bool) (d : ℕ) (t : Table (List ℕ)) → without d (j b t) ≡ j (b && not (c == d)) (without d t))
    (nobody : h false map.empty ≡ map.empty) (nothing : j false [] ≡ []) where
  abbrev held : Loop → Loop
  held s = record s { askers = h (is_open c s) s.askers; behind = j (is_open c s) s.behind }

  held_left : (d : ℕ) (k : Kind) (s : Loop) → left_at d (Some k) (held s) ≡ held (left_at d (Some k) s)
  held_left d k s = rw (asks (is_open c s) d s.askers, waits (is_open c s) d s.behind, open_without c d s.sessions) refl

  pub quiet_held : Quiet held
  quiet_held = record {
    lost = λ s. refl;
    place = λ s. refl;
    ends = λ s. refl;
    most = λ s. omega (arith, most_same s (held s) refl refl refl refl refl);
    kinds = λ d s. refl;
    past = λ d s. (let n : Loop = noted (mark_at s.place (Some d)) s in
        past_of held d (nat_lt (length s.lost + 1) most_marks) n refl (λ k. held_left d k n) (rw (nobody, nothing) refl));
  }

-- what was asked for
pub quiet_asked_by_one : (read : Bool) (p : ℕ × Key) → Quiet (asked_by_one read p)
quiet_asked_by_one read p =
    quiet_held p.0 (asks_if p.0 (read, p.1)) (λ b t. t) (without_asks p.0 (read, p.1)) (λ b d t. refl)
    (none_removed (read, p.1) map.empty (map.get-empty _ _)) refl

pub quiet_forgotten : (key : Awaited) → Quiet (forgotten key)
quiet_forgotten key =
    quiet_held 0 (λ b t. asks_if 0 key false t) (λ b t. t) (λ b d t. without_asks 0 key false d t) (λ b d t. refl)
    (none_removed key map.empty (map.get-empty _ _)) refl

abbrev pub nobody_waits : Loop → Loop
nobody_waits s = record s { askers = map.empty }

pub quiet_nobody : Quiet nobody_waits
quiet_nobody = quiet_held 0 (λ b t. map.empty) (λ b t. t) (λ b d t. nobody_left d) (λ b d t. refl) refl refl

-- what waits behind
abbrev pub dropped : ℕ → Loop → Loop
dropped c s = record s { behind = without_first c s.behind }

pub quiet_dropped : (c : ℕ) → Quiet (dropped c)
quiet_dropped c = quiet_held 0 (λ b t. t) (λ b t. without_first c t) (λ b d t. refl) (λ b d t. without_both c d t) refl refl

pub quiet_cleared : (b : Bool) (c : ℕ) → Quiet (cleared b c)
quiet_cleared true c = quiet_held 0 (λ b t. t) (λ b t. without c t) (λ b d t. refl) (λ b d t. without_either c d t) refl refl
quiet_cleared false c = quiet_same

-- ---- what reads of one connection, and does nothing where that was lost

-- its session, what waits behind for it, how much that is, and whose loop it is
abbrev pub Seen : Type 0
Seen = Option Session × Option (List ℕ) × ℕ × ℕ

abbrev pub seen : ℕ → Loop → Seen
seen c s = (find c s.sessions, find c s.behind, count_at c s.behind, s.me)

-- nothing is left of it
pub record Spoils (c : ℕ) (u : Loop) : Type 0 where
  pub session : find c u.sessions ≡ None
  pub first : find c u.behind ≡ None

seen_without : (c d : ℕ) (k : Kind) (s : Loop) → (seen c (left_at d (Some k) s) ≡ seen c s) ⊎ Spoils c (left_at d (Some k) s)
seen_without c d k s = elim (same_or_not c d) [
  | inl same ↦ inr (record { session = rw same (find_without d s.sessions); first = rw same (find_without d s.behind) })
  | inr apart ↦ inl (cc (find_apart c d s.sessions apart, find_apart c d s.behind apart, count_apart c d s.behind apart))
]

pub loss_at : (c d : ℕ) (s : Loop) → (seen c (lost_by d s) ≡ seen c s) ⊎ Spoils c (lost_by d s)
loss_at c d s =
    by_loss (λ u. (seen c u ≡ seen c s) ⊎ Spoils c u) d s (inl refl) (λ k. seen_without c d k (noted (mark_at s.place (Some d)) s))
    (inr (record { session = refl; first = refl }))

pub quiet_at : (c : ℕ) {X : Type 0} (g : X → Loop → Loop) (which : Seen → X) → ((x : X) → Quiet (g x)) → ((x : X) (u : Loop) → Spoils c u → g x u ≡ u)
    → Quiet (λ s. g (which (seen c s)) s)
quiet_at c g which q idle = quiet_by g (λ s. which (seen c s)) q (λ d s. elim (loss_at c d s) [
  | inl k ↦ ap (λ e. g (which e) (lost_by d s)) (sym k)
  | inr k ↦ idle (which (seen c s)) (lost_by d s) k ∙ sym (idle (which (seen c (lost_by d s))) (lost_by d s) k)
])

-- no more wait behind then
pub behind_lost : (c : ℕ) (s : Loop) → length (lost_if_open c s).behind ≤ length s.behind
behind_lost c s =
    by_open (λ u. length u.behind ≤ length s.behind) c s (λ h. omega arith)
    (λ h. by_loss (λ u. length u.behind ≤ length s.behind) c s (omega arith) (λ k. without_short c s.behind) (omega arith))

-- ---- a frame waits here or there

-- a frame waits behind, if its connection is open
kept_is : (b : Bool) (f : Frame) (s : Loop) → kept b f s ≡ record s { behind = if b then s.behind ++ f ∷ [] else s.behind }
kept_is true f s = refl
kept_is false f s = refl

pub quiet_kept : (f : Frame) → Quiet (λ s. kept (is_open f.0 s) f s)
quiet_kept f = quiet_as (λ s. sym (kept_is (is_open f.0 s) f s))
    (quiet_held f.0 (λ b t. t) (λ b t. if b then t ++ f ∷ [] else t) (λ b d t. refl) (λ b d t. without_pushed d t f b) refl refl)

pub quiet_placed : (b : Bool) (f : Frame) → Quiet (placed b f)
quiet_placed true f = quiet_waits f.0 f.1
quiet_placed false f = quiet_kept f

pub shut_placed : (b : Bool) (f : Frame) (s : Loop) → find f.0 s.sessions ≡ None → placed b f s ≡ s
shut_placed true f s e = shut_waits f.0 f.1 s e
shut_placed false f s e = ap (λ (o : Option Session). kept (is_some o) f s) e

-- by the message
pub quiet_behind : (c : ℕ) (m : ℕ × Msg) → Quiet (sent_behind c m)
quiet_behind c m =
    quiet_at c {X = Bool × ℕ} (λ x. placed x.0 (c, peer_frame x.1 m.0 m.1)) (λ e. (goes_ahead m.1 e.0 e.2, e.3))
    (λ x. quiet_placed x.0 (c, peer_frame x.1 m.0 m.1)) (λ x u k. shut_placed x.0 (c, peer_frame x.1 m.0 m.1) u k.session)

-- ---- what moves up

-- the first of a connection
abbrev pub step : ℕ → Loop → Loop
step c s = first_moved c (find c s.behind) s

quiet_first : (c : ℕ) (o : Option (List ℕ)) → Quiet (first_moved c o)
quiet_first c None = quiet_same
quiet_first c (Some bytes) = quiet_then (quiet_dropped c) (quiet_waits c bytes)

shut_first : (c : ℕ) (o : Option (List ℕ)) (s : Loop) → Spoils c s → first_moved c o s ≡ s
shut_first c None s k = refl
shut_first c (Some bytes) s k = shut_waits c bytes (dropped c s) k.session ∙ ap (λ r. record s { behind = r }) (first_none c s.behind k.first)

quiet_step : (c : ℕ) → Quiet (step c)
quiet_step c = quiet_at c (first_moved c) (λ e. e.1) (quiet_first c) (shut_first c)

-- where none wait behind nothing moves up
moves_none : (b : Bool) (k c : ℕ) (s : Loop) → moved_in k c s ≡ s → find c s.behind ≡ None → (if b then moved_in k c (step c s) else s) ≡ s
moves_none true k c s h e = ap (λ o. moved_in k c (first_moved c o s)) e ∙ h
moves_none false k c s h e = refl

moved_none : (k c : ℕ) (s : Loop) → find c s.behind ≡ None → moved_in k c s ≡ s
moved_none zero c s e = refl
moved_none (suc k) c s e = moves_none (has_room (find c s.sessions)) k c s (moved_none k c s e) e

quiet_moved_in : (k c : ℕ) → Quiet (moved_in k c)
quiet_moved_in zero c = quiet_same
quiet_moved_in (suc k) c =
    quiet_at c (λ (b : Bool) s. if b then moved_in k c (step c s) else s) (λ e. has_room e.0) (quiet_if (quiet_then (quiet_step c) (quiet_moved_in k c)))
    (λ b u h. moves_none b k c u (moved_none k c u h.first) h.first)

pub quiet_moved : (c : ℕ) → Quiet (moved c)
unfolding moved
quiet_moved c = quiet_at c (λ k. moved_in k c) (λ e. e.2) (λ k. quiet_moved_in k c) (λ k u h. moved_none k c u h.first)

-- one more moves up, where there is room
pub moved_more : (c : ℕ) (bytes : List ℕ) (s : Loop) → has_room (find c s.sessions) ≡ true → find c s.behind ≡ Some bytes
    → moved c s ≡ moved c (waits_for c bytes (dropped c s))
unfolding moved
moved_more c bytes s h e = ap (λ k. moved_in k c s) (first_less c bytes s.behind e) ∙ rw h (rw e refl)

pub moved_full : (c : ℕ) (s : Loop) → has_room (find c s.sessions) ≡ false → moved c s ≡ s
unfolding moved
moved_full c s h = by_count (count_at c s.behind)
  where
    by_count : (k : ℕ) → moved_in k c s ≡ s
    by_count zero = refl
    by_count (suc k) = rw h refl

pub moved_empty : (c : ℕ) (s : Loop) → find c s.behind ≡ None → moved c s ≡ s
unfolding moved
moved_empty c s e = moved_none (count_at c s.behind) c s e

-- ---- a message that goes to a connection

-- nothing comes of one that goes to a connection of which nothing is left
cleared_none : (b : Bool) (c : ℕ) (s : Loop) → find c s.behind ≡ None → cleared b c s ≡ s
cleared_none true c s e = ap (λ r. record s { behind = r }) (without_none c s.behind e)
cleared_none false c s e = refl

idle_if : (b : Bool) (c : ℕ) (m : ℕ × Msg) (s : Loop) → Spoils c s → sent_if b c m s ≡ s
idle_if true c m s k = refl
idle_if false c m s k =
    ap (λ x. sent_behind c m (moved c x)) (cleared_none (begins_anew m.1.body) c s k.first) ∙ ap (sent_behind c m) (moved_empty c s k.first)
    ∙ shut_placed (goes_ahead m.1 (find c s.sessions) (count_at c s.behind)) (c, peer_frame s.me m.0 m.1) s k.session

pub idle_at : (c : ℕ) (m : ℕ × Msg) (s : Loop) → Spoils c s → sent_at (Some c) m s ≡ s
idle_at c m s k = idle_if (is_excess m.1.body (count_at c s.behind)) c m s k

-- it is dropped, or what waits behind makes way, what is left moves up, and then the message waits
pub quiet_sent_if : (b : Bool) (c : ℕ) (m : ℕ × Msg) → Quiet (sent_if b c m)
quiet_sent_if true c m = quiet_same
quiet_sent_if false c m = quiet_then (quiet_cleared (begins_anew m.1.body) c) (quiet_then (quiet_moved c) (quiet_behind c m))

pub quiet_sent_at : (c : ℕ) (m : ℕ × Msg) → Quiet (sent_at (Some c) m)
quiet_sent_at c m = quiet_at c (λ (b : Bool). sent_if b c m) (λ e. is_excess m.1.body e.2) (λ b. quiet_sent_if b c m) (λ b u k. idle_if b c m u k)
