-- What is done in ample memory, and the sessions that are lost for want of it.
use Rattle.std.proofs.Common.{◌≡◌, ◌<◌, ◌≤◌, ◌+◌, ◌++◌, ◌∷◌, [], ℕ, Bool, List, length, drop, true, false, ◌&&◌, nat_lt, ◌⊎◌, Option, Some, None, is_some, option_map, if◌then◌else◌, refl, sym, ◌∙◌, ap, subst, inl, inr, arith, append_assoc}
use Rattle.std.proofs.lemmas.Bool.{cases_Bool, eq-eqb, lt-ltb}
use Rattle.std.proofs.lemmas.List.{append-nil, drop-drop, length-append}
use Rattle.std.proofs.lemmas.List.Elements.{All-nil, All-cons, All-append, All-weaker}
use Rattle.std.proofs.Math.Path.{fun_ext}
use Rattle.std.proofs.Math.Seq.{drop-append_seam}
use Rattle.op_serving.specs.declared.kind.Kind.{Kind}
use Rattle.op_serving.specs.declared.mark.Mark.{Mark}
use Rattle.op_serving.specs.declared.mark.Place.{Place}
use Rattle.op_serving.specs.declared.session.Session.{Session}
use Rattle.op_serving.specs.State.{Loop, find, is_open, kind_at, with_bytes, waits_for, left_at, left_by, next, counted}
use Rattle.op_serving.specs.Losses.{most_marks, size, mark_at, noted, marked, stopped_if, lost_by, lost_one, lost_if_open, is_due, is_here, is_open_one, settle, settled, IsFrom, Foretells, Grew, KeepsKinds, Stays, Does}
use Rattle.op_serving.specs.Counts.{most_inputs}
use Rattle.op_queues.proofs.Counting.{most_waits, most_lost, size_waits, size_lost}
use Rattle.op_queues.proofs.Losing.{by_left, by_stop, by_loss, by_open, shut}
use Rattle.op_queues.proofs.Tables.{some_map, changed_without, kept_changed, still_or_gone}
pub use Rattle.op_queues.proofs.Losing.{gone}

-- ---- a loss

pub left_lost : (c : ℕ) (o : Option Kind) (s : Loop) → (left_at c o s).lost ≡ s.lost
left_lost c o s = by_left (λ u. u.lost ≡ s.lost) c o s refl (λ k. refl)

pub left_place : (c : ℕ) (o : Option Kind) (s : Loop) → (left_at c o s).place ≡ s.place
left_place c o s = by_left (λ u. u.place ≡ s.place) c o s refl (λ k. refl)

pub stopped_lost : (b : Bool) (s : Loop) → (stopped_if b s).lost ≡ s.lost
stopped_lost b s = by_stop (λ u. u.lost ≡ s.lost) b s refl refl

pub stopped_place : (b : Bool) (s : Loop) → (stopped_if b s).place ≡ s.place
stopped_place b s = by_stop (λ u. u.place ≡ s.place) b s refl refl

-- it adds its mark, and stays where it is
pub lost_lost : (c : ℕ) (s : Loop) → (lost_by c s).lost ≡ s.lost ++ mark_at s.place (Some c) ∷ []
lost_lost c s = by_loss (λ u. u.lost ≡ s.lost ++ mark_at s.place (Some c) ∷ []) c s refl (λ k. refl) refl

pub lost_place : (c : ℕ) (s : Loop) → (lost_by c s).place ≡ s.place
lost_place c s = by_loss (λ u. u.place ≡ s.place) c s refl (λ k. refl) refl

-- a session is as before, or gone
pub found_left : (c d : ℕ) (k : Option Kind) (s : Loop) → (find c (left_at d k s).sessions ≡ find c s.sessions) ⊎ (find c (left_at d k s).sessions ≡ None)
found_left c d o s = by_left (λ u. (find c u.sessions ≡ find c s.sessions) ⊎ (find c u.sessions ≡ None)) d o s (inl refl) (λ k. still_or_gone c d s.sessions)

pub found_lost : (c d : ℕ) (s : Loop) → (find c (lost_by d s).sessions ≡ find c s.sessions) ⊎ (find c (lost_by d s).sessions ≡ None)
found_lost c d s =
    by_loss (λ u. (find c u.sessions ≡ find c s.sessions) ⊎ (find c u.sessions ≡ None)) d s (inl refl) (λ k. still_or_gone c d s.sessions) (inr refl)

-- whose a session is
pub found_kinds : (s t : Loop) → ((c : ℕ) → (find c t.sessions ≡ find c s.sessions) ⊎ (find c t.sessions ≡ None)) → KeepsKinds s t
found_kinds s t h = λ c. elim (h c) [ inl e ↦ inl (ap (option_map (λ (x : Session). x.kind)) e) | inr e ↦ inr (ap (option_map (λ (x : Session). x.kind)) e) ]

pub marked_kinds : (conn : Option ℕ) (s : Loop) → KeepsKinds s (marked conn s)
marked_kinds conn s = by_stop (λ u. KeepsKinds s u) (nat_lt (length s.lost + 1) most_marks) (noted (mark_at s.place conn) s) (λ c. inl refl) (λ c. inr refl)

pub or_none : {X : Type 0} {x y z : Option X} → (y ≡ x) ⊎ (y ≡ None) → (z ≡ y) ⊎ (z ≡ None) → (z ≡ x) ⊎ (z ≡ None)
or_none a b = elim b [ inl e ↦ elim a [ inl h ↦ inl (e ∙ h) | inr h ↦ inr (e ∙ h) ] | inr e ↦ inr e ]

pub kinds_then : (s m t : Loop) → KeepsKinds s m → KeepsKinds m t → KeepsKinds s t
kinds_then s m t a b = λ c. or_none (a c) (b c)

-- ---- what comes to the same before a loss and after it

-- what leaves all that a loss reads, and comes to the same before a loss and after it
pub record Blind (f : Loop → Loop) : Type 0 where
  pub lost : (s : Loop) → (f s).lost ≡ s.lost
  pub place : (s : Loop) → (f s).place ≡ s.place
  pub opens : (c : ℕ) (s : Loop) → is_open c (f s) ≡ is_open c s
  pub past : (c : ℕ) (s : Loop) → lost_by c (f s) ≡ f (lost_by c s)

-- what does so, ends no session and brings no input
pub record Quiet (f : Loop → Loop) : Type 0 where
  pub lost : (s : Loop) → (f s).lost ≡ s.lost
  pub place : (s : Loop) → (f s).place ≡ s.place
  pub ends : (s : Loop) → size (f s) ≡ size s
  pub most : (s : Loop) → most_inputs (f s) ≤ most_inputs s
  pub kinds : (c : ℕ) (s : Loop) → kind_at c (f s) ≡ kind_at c s
  pub past : (c : ℕ) (s : Loop) → lost_by c (f s) ≡ f (lost_by c s)

pub blind : {f : Loop → Loop} → Quiet f → Blind f
blind {f} q = record {
  lost = q.lost;
  place = q.place;
  opens = λ c s. sym (some_map (λ x. x.kind) (find c (f s).sessions)) ∙ ap is_some (q.kinds c s) ∙ some_map (λ x. x.kind) (find c s.sessions);
  past = q.past;
}

pub quiet_same : Quiet (λ s. s)
quiet_same = record { lost = λ s. refl; place = λ s. refl; ends = λ s. refl; most = λ s. omega arith; kinds = λ c s. refl; past = λ c s. refl }

-- one after the other
pub quiet_then : {f g : Loop → Loop} → Quiet f → Quiet g → Quiet (λ s. g (f s))
quiet_then {f} {g} a b = record {
  lost = λ s. b.lost (f s) ∙ a.lost s;
  place = λ s. b.place (f s) ∙ a.place s;
  ends = λ s. b.ends (f s) ∙ a.ends s;
  most = λ s. (let h = b.most (f s) in let k = a.most s in omega (arith, h, k));
  kinds = λ c s. b.kinds c (f s) ∙ a.kinds c s;
  past = λ c s. b.past c (f s) ∙ ap g (a.past c s);
}

-- what comes to the same
pub quiet_as : {f g : Loop → Loop} → ((s : Loop) → f s ≡ g s) → Quiet f → Quiet g
quiet_as e q = subst Quiet (fun_ext e) q

pub quiet_if : {f : Loop → Loop} → Quiet f → (b : Bool) → Quiet (λ s. if b then f s else s)
quiet_if q true = q
quiet_if q false = quiet_same

pub blind_then : (f g : Loop → Loop) → Blind f → Blind g → Blind (λ s. g (f s))
blind_then f g a b = record {
  lost = λ s. b.lost (f s) ∙ a.lost s;
  place = λ s. b.place (f s) ∙ a.place s;
  opens = λ c s. b.opens c (f s) ∙ a.opens c s;
  past = λ c s. b.past c (f s) ∙ ap g (a.past c s);
}

-- one of several, chosen by what is there, where a loss chooses as good a one
pub quiet_by : {X : Type 0} (g : X → Loop → Loop) (which : Loop → X) → ((x : X) → Quiet (g x))
    → ((c : ℕ) (s : Loop) → g (which s) (lost_by c s) ≡ g (which (lost_by c s)) (lost_by c s)) → Quiet (λ s. g (which s) s)
quiet_by g which q alike = record {
  lost = λ s. (q (which s)).lost s;
  place = λ s. (q (which s)).place s;
  ends = λ s. (q (which s)).ends s;
  most = λ s. (q (which s)).most s;
  kinds = λ c s. (q (which s)).kinds c s;
  past = λ c s. (q (which s)).past c s ∙ alike c s;
}

-- what leaves whose a session is, by what ends and what stops
pub past_of : (f : Loop → Loop) (c : ℕ) (b : Bool) (s : Loop) → kind_at c (f s) ≡ kind_at c s
    → ((k : Kind) → left_at c (Some k) (f s) ≡ f (left_at c (Some k) s)) → stopped_if false (f s) ≡ f (stopped_if false s)
    → left_by c (stopped_if b (f s)) ≡ f (left_by c (stopped_if b s))
past_of f c false s kind ends stops = stops
past_of f c true s kind ends stops = ap (λ k. left_at c k (f s)) kind ∙ by_kind (kind_at c s)
  where
    by_kind : (o : Option Kind) → left_at c o (f s) ≡ f (left_at c o s)
    by_kind None = refl
    by_kind (Some k) = ends k

-- bytes for a connection
pub quiet_waits : (c : ℕ) (bytes : List ℕ) → Quiet (waits_for c bytes)
quiet_waits c bytes = record {
  lost = λ s. refl;
  place = λ s. refl;
  ends = size_waits c bytes;
  most = most_waits c bytes;
  kinds = λ d s. kept_changed (with_bytes bytes) (λ x. x.kind) (λ x. refl) c d s.sessions;
  past = λ d s. (let n : Loop = noted (mark_at s.place (Some d)) s in
      past_of (waits_for c bytes) d (nat_lt (length s.lost + 1) most_marks) n (kept_changed (with_bytes bytes) (λ x. x.kind) (λ x. refl) c d s.sessions)
      (λ k. ap (λ t. record (left_at d (Some k) n) { sessions = t }) (changed_without (with_bytes bytes) c d s.sessions)) refl);
}

-- ---- settling before and after

pub here_own : (p : Place) (conn : Option ℕ) → is_here p (mark_at p conn) ≡ true
here_own p conn = rw (eq-eqb p.turn p.turn refl, eq-eqb p.at p.at refl, eq-eqb p.inputs p.inputs refl, eq-eqb p.frames p.frames refl) refl

pub from_own : (p : Place) (conn : Option ℕ) → IsFrom p (mark_at p conn)
from_own p conn = inr (refl, inr (refl, omega arith, omega arith))

-- with a loss the marks to come are one less
one_less : (o : Option ℕ) (s : Loop) (m : Mark) (ms marks : List Mark) → is_open_one o s ≡ true → drop (length s.lost) marks ≡ m ∷ ms
    → drop (length (lost_one o s).lost) marks ≡ ms
one_less None s m ms marks h e = absurd cc
one_less (Some c) s m ms marks h e =
    let long : length (lost_by c s).lost ≡ length s.lost + 1 = ap length (lost_lost c s) ∙ length-append s.lost (mark_at s.place (Some c) ∷ []) in
    rw long (sym (drop-drop 1 (length s.lost) marks) ∙ ap (drop 1) e)

-- the next loss is due
lost_next : (marks : List Mark) (m : Mark) (ms : List Mark) (s : Loop) → drop (length s.lost) marks ≡ m ∷ ms → is_due m s ≡ true
    → settled marks s ≡ settled marks (lost_one m.conn s)
lost_next marks m ms s e due =
    let left : drop (length (lost_one m.conn s).lost) marks ≡ ms = one_less m.conn s m ms marks (both _ _ (both (nat_lt (length s.lost) most_marks) _ due)) e in
    ap (λ r. settle r s) e ∙ rw due (ap (λ r. settle r (lost_one m.conn s)) (sym left))
  where
    both : (a b : Bool) → (a && b) ≡ true → b ≡ true
    both true b e = e
    both false b e = absurd cc

-- what is lost here is lost first
pub lost_first : (c : ℕ) (s : Loop) (marks : List Mark) → is_open c s ≡ true → length s.lost < most_marks → Foretells marks (lost_by c s)
    → settled marks s ≡ settled marks (lost_by c s)
lost_first c s marks h few f =
    let m : Mark = mark_at s.place (Some c) in
    let to_come : drop (length s.lost) marks ≡ m ∷ f.rest =
    ap (drop (length s.lost)) (f.split ∙ ap (λ l. l ++ f.rest) (lost_lost c s) ∙ append_assoc s.lost (m ∷ []) f.rest)
    ∙ drop-append_seam s.lost (m ∷ f.rest) in
    lost_next marks m f.rest s to_come (rw (lt-ltb (length s.lost) most_marks few, here_own s.place (Some c), h) refl)

module _ (f : Loop → Loop) (b : Blind f) where
  open_blind : (o : Option ℕ) (s : Loop) → is_open_one o (f s) ≡ is_open_one o s
  open_blind None s = refl
  open_blind (Some c) s = b.opens c s

  past_one : (o : Option ℕ) (s : Loop) → lost_one o (f s) ≡ f (lost_one o s)
  past_one None s = refl
  past_one (Some c) s = b.past c s

  due_blind : (m : Mark) (s : Loop) → is_due m (f s) ≡ is_due m s
  due_blind m s = cc (b.lost s, b.place s, open_blind m.conn s)

  settled_before_at : (ms marks : List Mark) (s : Loop) → drop (length s.lost) marks ≡ ms → settled marks (f (settle ms s)) ≡ settled marks (f s)
  settled_before_at [] marks s e = refl
  settled_before_at (m ∷ ms) marks s e = elim (cases_Bool (is_due m s)) [
    | inl h ↦ (
        let left : drop (length (lost_one m.conn s).lost) marks ≡ ms = one_less m.conn s m ms marks (is_one h) e in
        rw h (settled_before_at ms marks (lost_one m.conn s) left) ∙ ap (settled marks) (sym (past_one m.conn s))
        ∙ sym (lost_next marks m ms (f s) (rw (b.lost s) e) (due_blind m s ∙ h)))
    | inr h ↦ rw h refl
  ]
    where
      is_one : is_due m s ≡ true → is_open_one m.conn s ≡ true
      is_one h = grind (arith, h)

  -- what is done and then settled may be settled before, too
  pub settled_before : (marks : List Mark) (s : Loop) → settled marks (f (settled marks s)) ≡ settled marks (f s)
  settled_before marks s = settled_before_at (drop (length s.lost) marks) marks s refl

-- ---- one after the other

pub grew_still : {s t : Loop} → t.lost ≡ s.lost → t.place ≡ s.place → Grew s t
grew_still {s} {t} e p = record {
  added = [];
  lost = e ∙ sym (append-nil s.lost);
  from = All-nil (IsFrom s.place);
  place = λ m h. rw p at h;
  counts = rw p (omega arith);
}

pub grew_trans : {s m t : Loop} → Grew s m → Grew m t → Grew s t
grew_trans {s} {m} {t} a b = record {
  added = a.added ++ b.added;
  lost = b.lost ∙ ap (λ l. l ++ b.added) a.lost ∙ append_assoc s.lost a.added b.added;
  from = All-append (IsFrom s.place) a.added b.added a.from (All-weaker (IsFrom m.place) (IsFrom s.place) a.place b.added b.from);
  place = λ x h. a.place x (b.place x h);
  counts = omega (arith, a.counts, b.counts);
}

pub foretold : {m t : Loop} {marks : List Mark} → Grew m t → Foretells marks t → Foretells marks m
foretold {m} {t} {marks} g h = record {
  rest = g.added ++ h.rest;
  split = h.split ∙ ap (λ l. l ++ h.rest) g.lost ∙ append_assoc m.lost g.added h.rest;
  later = All-append (IsFrom m.place) g.added h.rest g.from (All-weaker (IsFrom t.place) (IsFrom m.place) g.place h.rest h.later);
  short = omega (arith, g.counts, h.short);
}

pub stays_same : {s t : Loop} → t.place ≡ s.place → Stays s t
stays_same {s} {t} e = record { turn = ap (λ p. p.turn) e; at = ap (λ p. p.at) e; frames = ap (λ p. p.frames) e }

pub stays_then : {s m t : Loop} → Stays s m → Stays m t → Stays s t
stays_then {s} {m} {t} a b = record { turn = b.turn ∙ a.turn; at = b.at ∙ a.at; frames = b.frames ∙ a.frames }

-- a loss grows by its mark
pub lost_grew : (c : ℕ) (s : Loop) → Grew s (lost_by c s)
lost_grew c s = record {
  added = mark_at s.place (Some c) ∷ [];
  lost = lost_lost c s;
  from = All-cons (IsFrom s.place) (mark_at s.place (Some c)) [] (from_own s.place (Some c)) (All-nil (IsFrom s.place));
  place = λ x f. rw (lost_place c s) at f;
  counts = rw (lost_place c s) (omega arith);
}

-- a later count is from this one
pub from_counted : (s : Loop) → s.place.inputs ≤ next s.place.inputs → (m : Mark) → IsFrom (counted s).place m → IsFrom s.place m
from_counted s up m (inl h) = inl h
from_counted s up m (inr (h, inl g)) = inr (h, inl g)
from_counted s up m (inr (h, inr g)) = inr (h, inr (g.0, omega (arith, up, g.1), g.2))

pub counted_grew : (s : Loop) → s.place.inputs ≤ next s.place.inputs → Grew s (counted s)
counted_grew s up = record { added = []; lost = sym (append-nil s.lost); from = All-nil (IsFrom s.place); place = from_counted s up; counts = up }

-- ---- what is done

-- it found memory
pub does_found : {f : Loop → Loop} → Quiet f → (s t : Loop) → t ≡ f s → Does (λ ms x. settled ms (f x)) s t
does_found {f} q s t e = rw e (record {
  grew = grew_still (q.lost s) (q.place s);
  ends = (let k = q.ends s in omega (arith, k));
  most = q.most s;
  kinds = λ c. inl (q.kinds c s);
  stays = stays_same (q.place s);
  is = λ marks h. refl;
})

-- it counts by what it comes to
pub does_as : (f g : Loop → Loop) {s t : Loop} → f s ≡ g s → Does (λ ms x. settled ms (f x)) s t → Does (λ ms x. settled ms (g x)) s t
does_as f g e d = record {
  grew = d.grew;
  ends = d.ends;
  most = d.most;
  kinds = d.kinds;
  stays = d.stays;
  is = λ marks h. sym (ap (settled marks) e) ∙ d.is marks h;
}

-- nothing is done
pub does_nothing : (f : Loop → Loop) (s : Loop) → f s ≡ s → Does (λ ms x. settled ms (f x)) s s
does_nothing f s e = does_as (λ x. x) f (sym e) (does_found quiet_same s s refl)

pub does_then : (f g : Loop → Loop) → Blind g → {s m t : Loop} → Does (λ ms x. settled ms (f x)) s m → Does (λ ms x. settled ms (g x)) m t
    → Does (λ ms x. settled ms (g (f x))) s t
does_then f g b {s} {m} {t} d e = record {
  grew = grew_trans d.grew e.grew;
  ends = omega (arith, d.ends, e.ends);
  most = omega (arith, d.most, e.most);
  kinds = kinds_then s m t d.kinds e.kinds;
  stays = stays_then d.stays e.stays;
  is =
      λ marks h. sym (settled_before g b marks (f s)) ∙ ap (λ x. settled marks (g x)) (d.is marks (foretold e.grew h)) ∙ settled_before g b marks m
      ∙ e.is marks h;
}

-- a session is lost, and nothing is done
pub lost_alone : (c : ℕ) (s t : Loop) → t ≡ lost_if_open c s → (is_open c s ≡ true → length s.lost < most_marks) → Does (λ ms x. settled ms x) s t
lost_alone c s t e room = rw e (by_open (λ u. Does (λ ms x. settled ms x) s u) c s (λ h. does_nothing (λ x. x) s refl) (λ h. record {
  grew = lost_grew c s;
  ends = size_lost c s;
  most = most_lost c s;
  kinds = found_kinds s (lost_by c s) (λ d. found_lost d c s);
  stays = stays_same (lost_place c s);
  is = λ marks f. lost_first c s marks h (room h) f;
}))

-- what found no memory is as good as done, where nothing comes of it once its session is lost
pub does_lost : {f : Loop → Loop} → Quiet f → (c : ℕ) (s t : Loop) → f t ≡ t → t ≡ lost_if_open c s → (is_open c s ≡ true → length s.lost < most_marks)
    → Does (λ ms x. settled ms (f x)) s t
does_lost {f} q c s t idle e room = does_then (λ x. x) f (blind q) (lost_alone c s t e room) (does_nothing f t idle)

pub starved : {f : Loop → Loop} → Quiet f → (c : ℕ) (s u t : Loop) → ((x : Loop) → find c x.sessions ≡ None → f x ≡ x) → u ≡ s → t ≡ lost_if_open c u
    → (is_open c u ≡ true → length u.lost < most_marks) → Does (λ ms x. settled ms (f x)) s t
starved {f} q c s u t idle same e room = subst (λ x. Does (λ ms y. settled ms (f y)) x t) same (does_lost q c u t (idle t (shut c u t e)) e room)

-- for a connection that isn't open nothing waits
pub shut_waits : (c : ℕ) (bytes : List ℕ) (s : Loop) → find c s.sessions ≡ None → waits_for c bytes s ≡ s
shut_waits c bytes s e = rw e refl
