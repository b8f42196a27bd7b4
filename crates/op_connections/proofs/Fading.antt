-- What losses, ends and inputs leave of whose the sessions are: as before, or gone.
use Rattle.std.proofs.Common.{◌≡◌, ◌+◌, ◌⊎◌, [], ◌∷◌, ℕ, Bool, true, false, List, length, drop, Option, Some, None, option_map, ◌==◌, nat_lt, if◌then◌else◌, refl, sym, ◌∙◌, ap, subst, inl, inr}
use Rattle.std.proofs.lemmas.Bool.{cases_eq}
use Rattle.std.proofs.lemmas.List.{append-nil}
use Rattle.std.specs.Map.{keys_of}
use Rattle.op_types.specs.declared.events.Input.{Input}
use Rattle.op_types.specs.declared.events.Input.TheVariants as input
use Rattle.op_frame.specs.Framing.{Stream}
use Rattle.op_serving.specs.declared.kind.Kind.{Kind}
use Rattle.op_serving.specs.declared.kind.Kind.TheVariants.{Unknown, Peer, Client}
use Rattle.op_serving.specs.declared.mark.Mark.{Mark}
use Rattle.op_serving.specs.declared.session.Session.{Session}
use Rattle.op_serving.specs.Fates.{Fate}
use Rattle.op_serving.specs.State.{Loop, find, without, kind_at, left_at, left_by, counted, if_its, open_of, session_of}
use Rattle.op_serving.specs.Losses.{most_marks, mark_at, noted, stopped_if, marked, lost_by, lost_one, is_due, settle}
use Rattle.op_serving.specs.Room.{Frame}
use Rattle.op_serving.specs.Inputs.{State, Luck, Taken, Brought, asked_by, loop_taking, frames_after, loop_after_all, frames_after_all, next_fate, calm, takes_in, taken_as, handing, entered_with, enter, together, over, flushed}
use Rattle.op_serving.specs.Reading.{replaced}
use Rattle.op_connections.proofs.Tables.{find_without, find_apart, Rising, rising_without}
use Rattle.op_connections.proofs.Queueing.{bytes_for, queued, queued_none, Queues, queues_after_all}
use Rattle.op_connections.proofs.Walking.{taking_holds, AllGiven, Hands, enter_holds, Steps, steps, drained_holds, over_holds, Replaces}

-- whose a session is, and what it reads
abbrev pub front_in : Option Session → Option (Kind × Stream)
front_in o = option_map (λ (x : Session). (x.kind, x.frames)) o

abbrev pub front_at : ℕ → Loop → Option (Kind × Stream)
front_at c s = front_in (find c s.sessions)

-- of a connection
pub record Fades (c : ℕ) (s t : Loop) : Type 0 where
  pub front : (front_at c t ≡ None) ⊎ (front_at c t ≡ front_at c s)
  pub peers : t.peers ≡ s.peers
  pub rising : Rising (keys_of s.sessions) → Rising (keys_of t.sessions)
  pub given : AllGiven s → AllGiven t

pub fades_same : (c : ℕ) (s t : Loop) → t.sessions ≡ s.sessions → t.peers ≡ s.peers → (AllGiven s → AllGiven t) → Fades c s t
fades_same c s t sessions peers given = record {
  front = inr (ap (λ u. front_in (find c u)) sessions);
  peers = peers;
  rising = λ h. subst (λ u. Rising (keys_of u)) (sym sessions) h;
  given = given;
}

pub front_then : (a b d : Option (Kind × Stream)) → (b ≡ None) ⊎ (b ≡ a) → (d ≡ None) ⊎ (d ≡ b) → (d ≡ None) ⊎ (d ≡ a)
front_then a b d x (inl gone) = inl gone
front_then a b d (inl gone) (inr e) = inl (e ∙ gone)
front_then a b d (inr e) (inr f) = inr (f ∙ e)

-- whose it is
kind_of : (o : Option Session) → option_map (λ (x : Session). x.kind) o ≡ option_map (λ (p : Kind × Stream). p.0) (front_in o)
kind_of None = refl
kind_of (Some y) = refl

pub fades_kind : (c : ℕ) (s t : Loop) → Fades c s t → (kind_at c t ≡ None) ⊎ (kind_at c t ≡ kind_at c s)
fades_kind c s t f =
    let first : Option (Kind × Stream) → Option Kind = option_map (λ (p : Kind × Stream). p.0) in
    elim f.front [
      | inl gone ↦ inl (kind_of (find c t.sessions) ∙ ap first gone)
      | inr same ↦ inr (kind_of (find c t.sessions) ∙ ap first same ∙ sym (kind_of (find c s.sessions)))
    ]

pub fades_then : (c : ℕ) (s m t : Loop) → Fades c s m → Fades c m t → Fades c s t
fades_then c s m t a b = record {
  front = front_then (front_at c s) (front_at c m) (front_at c t) a.front b.front;
  peers = b.peers ∙ a.peers;
  rising = λ h. b.rising (a.rising h);
  given = λ h. b.given (a.given h);
}

-- ---- inputs

front_queued : (b : List ℕ) (o : Option Session) → front_in (queued b o) ≡ front_in o
front_queued b None = refl
front_queued b (Some y) = refl

pub fades_queues : (c : ℕ) (s : Loop) (fs : List Frame) (t : Loop) → Queues c s fs t → Fades c s t
fades_queues c s fs t q = record {
  front = inr (ap front_in q.found ∙ front_queued (bytes_for c fs) (find c s.sessions));
  peers = q.peers;
  rising = λ h. subst Rising (sym q.keys) h;
  given = λ h. (q.brought ∙ h.0, q.gathered ∙ h.1);
}

fades_stopped : (c : ℕ) (b : Bool) (s : Loop) → Fades c s (stopped_if b s)
fades_stopped c true s = fades_same c s s refl refl (λ h. h)
fades_stopped c false s = record { front = inl refl; peers = refl; rising = λ h. tt; given = λ h. (refl, refl) }

fades_marked : (c : ℕ) (conn : Option ℕ) (s : Loop) → Fades c s (marked conn s)
fades_marked c conn s =
    let u : Loop = noted (mark_at s.place conn) s in
    fades_then c s u (marked conn s) (fades_same c s u refl refl (λ h. h)) (fades_stopped c (nat_lt (length s.lost + 1) most_marks) u)

fades_taking : (c : ℕ) (f : Fate) (s : Loop) → Fades c s (loop_taking f s)
fades_taking c f s =
    let m : Loop = counted (marked None s) in
    taking_holds (λ t. Fades c s t) f s (fades_same c s (counted s) refl refl (λ h. h))
    (fades_then c s (marked None s) m (fades_marked c None s) (fades_same c (marked None s) m refl refl (λ h. h)))

fades_after : (c : ℕ) (ts : List Taken) (s : Loop) → Fades c s (loop_after_all ts s)
fades_after c ts s = fades_queues c s (frames_after_all ts s) (loop_after_all ts s) (queues_after_all c ts s)

-- ---- losses and ends

pub fades_over : (c d : ℕ) (o : Option Kind) (s : Loop) → Fades c s (left_at d o s)
fades_over c d None s = fades_same c s s refl refl (λ h. h)
fades_over c d (Some k) s = record {
  front = elim (cases_eq c d) [
    | inl same ↦ inl (ap front_in (ap (λ n. find n (without d s.sessions)) same ∙ find_without d s.sessions))
    | inr apart ↦ inr (ap front_in (find_apart c d s.sessions apart))
  ];
  peers = refl;
  rising = λ h. rising_without d s.sessions h;
  given = λ h. (ap (without d) h.0, ap (without d) h.1);
}

fades_one : (c : ℕ) (o : Option ℕ) (s : Loop) → Fades c s (lost_one o s)
fades_one c None s = fades_same c s s refl refl (λ h. h)
fades_one c (Some d) s = fades_then c s (marked (Some d) s) (lost_by d s) (fades_marked c (Some d) s) (fades_over c d (kind_at d (marked (Some d) s)) (marked (Some d) s))

fades_due : (c : ℕ) (b : Bool) (ms : List Mark) (o : Option ℕ) (s : Loop) → Fades c s (settle ms (lost_one o s)) → Fades c s (if b then settle ms (lost_one o s) else s)
fades_due c true ms o s k = k
fades_due c false ms o s k = fades_same c s s refl refl (λ h. h)

fades_settle : (c : ℕ) (ms : List Mark) (s : Loop) → Fades c s (settle ms s)
fades_settle c [] s = fades_same c s s refl refl (λ h. h)
fades_settle c (m ∷ ms) s = fades_due c (is_due m s) ms m.conn s (fades_then c s (lost_one m.conn s) (settle ms (lost_one m.conn s)) (fades_one c m.conn s) (fades_settle c ms (lost_one m.conn s)))

pub fades_calm : (c : ℕ) (l : Luck) (s : State) → Fades c s.loop (calm l s).loop
fades_calm c l s = fades_settle c (drop (length s.loop.lost) l.marks) s.loop

fades_handing : (c : ℕ) (l : Luck) (ts : List Taken) (s : State) → Fades c s.loop (handing l ts s).loop
fades_handing c l ts s =
    let t : Loop = loop_after_all ts s.loop in
    fades_then c s.loop t (handing l ts s).loop (fades_after c ts s.loop) (fades_settle c (drop (length t.lost) l.marks) t)

-- ---- all that is done

module _ (c : ℕ) (l : Luck) (start : Loop) where
  fades_hands : Hands l (λ s. Fades c start s.loop) (λ ts s. Fades c start s.loop)
  fades_hands = record {
    begins = λ s h. h;
    takes_one = λ ts who i f s h. fades_then c start s.loop (takes_in who i f s).loop h (fades_taking c f s.loop);
    hands = λ ts s h. fades_then c start s.loop (handing l ts s).loop h (fades_handing c l ts s);
  }

  pub fading : Steps l (λ s. Fades c start s.loop)
  fading = steps l (λ s. Fades c start s.loop) (λ ts s. Fades c start s.loop) fades_hands (record {
    moves = λ s t u h. fades_then c start s.loop t h (fades_same c s.loop t u.sessions u.peers u.given);
    calms = λ s h. fades_then c start s.loop (calm l s).loop h (fades_calm c l s);
    downs = λ q s h. enter_holds l (λ s. Fades c start s.loop) (λ ts s. Fades c start s.loop) fades_hands [] (input.Down q) s h;
    leaves_one = λ d s h. fades_then c start s.loop (left_by d s.loop) h (fades_over c d (kind_at d s.loop) s.loop);
  })

pub fades_enter : (c : ℕ) (l : Luck) (who : List ℕ) (i : Input) (s : State) → Fades c s.loop (enter l who i s).loop
fades_enter c l who i s = (fading c l s.loop).enters_one who i s (fades_same c s.loop s.loop refl refl (λ h. h))

pub fades_together : (c : ℕ) (l : Luck) (bs : List Brought) (s : State) → Fades c s.loop (together l [] bs s).loop
fades_together c l bs s = (fading c l s.loop).enters_all bs s (fades_same c s.loop s.loop refl refl (λ h. h))

-- ---- sessions as they were, or gone

abbrev pub Stays : ℕ → Loop → Loop → Type 0
Stays c s t = (find c t.sessions ≡ None) ⊎ (find c t.sessions ≡ find c s.sessions)

pub stays_then : (c : ℕ) (s m t : Loop) → Stays c s m → Stays c m t → Stays c s t
stays_then c s m t x (inl gone) = inl gone
stays_then c s m t (inl gone) (inr e) = inl (e ∙ gone)
stays_then c s m t (inr e) (inr f) = inr (f ∙ e)

pub stays_stopped : (c : ℕ) (b : Bool) (s : Loop) → Stays c s (stopped_if b s)
stays_stopped c true s = inr refl
stays_stopped c false s = inl refl

stays_over : (c d : ℕ) (o : Option Kind) (s : Loop) → Stays c s (left_at d o s)
stays_over c d None s = inr refl
stays_over c d (Some k) s = elim (cases_eq c d) [
  | inl same ↦ inl (ap (λ n. find n (without d s.sessions)) same ∙ find_without d s.sessions)
  | inr apart ↦ inr (find_apart c d s.sessions apart)
]

pub stays_left : (c d : ℕ) (s : Loop) → Stays c s (left_by d s)
stays_left c d s = stays_over c d (kind_at d s) s

stays_marked : (c : ℕ) (conn : Option ℕ) (s : Loop) → Stays c s (marked conn s)
stays_marked c conn s = stays_stopped c (nat_lt (length s.lost + 1) most_marks) (noted (mark_at s.place conn) s)

stays_one : (c : ℕ) (o : Option ℕ) (s : Loop) → Stays c s (lost_one o s)
stays_one c None s = inr refl
stays_one c (Some d) s = stays_then c s (marked (Some d) s) (lost_by d s) (stays_marked c (Some d) s) (stays_left c d (marked (Some d) s))

stays_due : (c : ℕ) (b : Bool) (ms : List Mark) (o : Option ℕ) (s : Loop) → Stays c s (settle ms (lost_one o s)) → Stays c s (if b then settle ms (lost_one o s) else s)
stays_due c true ms o s k = k
stays_due c false ms o s k = inr refl

pub stays_settle : (c : ℕ) (ms : List Mark) (s : Loop) → Stays c s (settle ms s)
stays_settle c [] s = inr refl
stays_settle c (m ∷ ms) s = stays_due c (is_due m s) ms m.conn s (stays_then c s (lost_one m.conn s) (settle ms (lost_one m.conn s)) (stays_one c m.conn s) (stays_settle c ms (lost_one m.conn s)))

pub stays_calm : (c : ℕ) (l : Luck) (s : State) → Stays c s.loop (calm l s).loop
stays_calm c l s = stays_settle c (drop (length s.loop.lost) l.marks) s.loop

-- no frame for this connection is queued
stays_queues : (c : ℕ) (s : Loop) (fs : List Frame) (t : Loop) → Queues c s fs t → bytes_for c fs ≡ [] → Stays c s t
stays_queues c s fs t q none = inr (q.found ∙ ap (λ b. queued b (find c s.sessions)) none ∙ queued_none (find c s.sessions))

pub stays_taking : (c : ℕ) (f : Fate) (s : Loop) → Stays c s (loop_taking f s)
stays_taking c f s = taking_holds (λ t. Stays c s t) f s (inr refl) (stays_marked c None s)

-- where what is handed out has nothing for this connection
stays_handing : (c : ℕ) (l : Luck) (ts : List Taken) (s : State) → bytes_for c (frames_after_all ts s.loop) ≡ [] → Stays c s.loop (handing l ts s).loop
stays_handing c l ts s none =
    let t : Loop = loop_after_all ts s.loop in
    stays_then c s.loop t (handing l ts s).loop (stays_queues c s.loop (frames_after_all ts s.loop) t (queues_after_all c ts s.loop) none) (stays_settle c (drop (length t.lost) l.marks) t)

pub stays_enter : (c : ℕ) (l : Luck) (who : List ℕ) (i : Input) (s : State)
    → bytes_for c (frames_after (asked_by who i) i (next_fate l [] i s) s.node (loop_taking (next_fate l [] i s) s.loop)) ≡ [] → Stays c s.loop (enter l who i s).loop
stays_enter c l who i s none = by_marks (nat_lt (length s.loop.lost) most_marks)
  where
    f : Fate
    f = next_fate l [] i s

    t : State
    t = takes_in who i f s

    by_marks : (b : Bool) → Stays c s.loop (if b then entered_with l who i f s else s).loop
    by_marks true = stays_then c s.loop t.loop (entered_with l who i f s).loop (stays_taking c f s.loop)
        (stays_handing c l (taken_as who i f s ∷ []) t (ap (bytes_for c) (append-nil (frames_after (asked_by who i) i f s.node t.loop)) ∙ none))
    by_marks false = inr refl

-- ---- a session that is over

left_none : (c : ℕ) (o : Option Session) (s : Loop) → find c s.sessions ≡ o → kind_at c (left_at c (option_map (λ x. x.kind) o) s) ≡ None
left_none c None s e = ap (option_map (λ (x : Session). x.kind)) e
left_none c (Some y) s e = ap (option_map (λ (x : Session). x.kind)) (find_without c s.sessions)

pub still_none : (c : ℕ) (s t : Loop) → kind_at c s ≡ None → Fades c s t → kind_at c t ≡ None
still_none c s t e h = elim (fades_kind c s t h) [ inl gone ↦ gone | inr same ↦ same ∙ e ]

pub over_none : (c : ℕ) (l : Luck) (s : State) → kind_at c (over l c s).loop ≡ None
over_none c l s =
    let u : State = flushed l s in
    let t : Loop = left_by c u.loop in
    still_none c t (over l c s).loop (left_none c (find c u.loop.sessions) u.loop refl)
    (drained_holds l (λ v. Fades c t v.loop) (fading c l t).falls (record u { loop = t }) (fades_same c t t refl refl (λ h. h)))

-- ---- whose session a peer has

-- that of a connection whose session is the peer's
pub session_found : (q d : ℕ) (s : Loop) → session_of q s ≡ Some d → find q s.peers ≡ Some (Some d)
session_found q d s e = by_peer (find q s.peers) e
  where
    by_id : (c : ℕ) (b : Bool) → (if b then Some c else None) ≡ Some d → c ≡ d
    by_id c true k = cc
    by_id c false k = absurd cc

    by_kind : (c : ℕ) (k : Kind) → (elim k [ Unknown ↦ None | Peer p h ↦ if p == q then Some c else None | Client ↦ None ]) ≡ Some d → c ≡ d
    by_kind c Unknown k = absurd cc
    by_kind c (Peer p h) k = by_id c (p == q) k
    by_kind c Client k = absurd cc

    its : (c : ℕ) (o : Option Session) → if_its q c o ≡ Some d → c ≡ d
    its c None k = absurd cc
    its c (Some y) k = by_kind c y.kind k

    by_peer : (o : Option (Option ℕ)) → open_of q o s.sessions ≡ Some d → o ≡ Some (Some d)
    by_peer None k = absurd cc
    by_peer (Some None) k = absurd cc
    by_peer (Some (Some c)) k = ap (λ (n : ℕ). Some (Some n)) (its c (find c s.sessions) k)

pub none_of : (o : Option Session) → option_map (λ (x : Session). x.kind) o ≡ None → o ≡ None
none_of None e = refl
none_of (Some y) e = absurd cc

pub replaced_none : (l : Luck) → Replaces l
replaced_none l q s = by_session (session_of q s.loop) refl
  where
    by_session : (o : Option ℕ) → session_of q s.loop ≡ o → session_of q (replaced l o s).loop ≡ None
    by_session None e = e
    by_session (Some d) e =
        let t : State = over l d s in
        let same : t.loop.peers ≡ s.loop.peers = (over_holds l (λ v. Fades d s.loop v.loop) (fading d l s.loop) d s (fades_same d s.loop s.loop refl refl (λ h. h))).peers in
        let gone : find d t.loop.sessions ≡ None = none_of (find d t.loop.sessions) (over_none d l s) in
        ap (λ o. open_of q o t.loop.sessions) (ap (find q) same ∙ session_found q d s.loop e) ∙ ap (if_its q d) gone
