-- What handing out leaves: frames are queued, each for its connection, and all else is as it was.
use Rattle.std.proofs.Common.{◌≡◌, ◌≤◌, ◌++◌, ◌∷◌, [], ℕ, zero, suc, Bool, true, false, List, length, Option, Some, None, option_map, ◌==◌, if◌then◌else◌, refl, sym, ◌∙◌, ap, subst, inl, inr, append_assoc}
use Rattle.std.proofs.lemmas.Bool.{cases_eq, eq-eqb, ne_eqb}
use Rattle.std.proofs.lemmas.List.{append-nil}
use Rattle.std.specs.FinMap as map
use Rattle.op_types.specs.declared.answers.Outcome.{Outcome}
use Rattle.op_types.specs.declared.answers.Refusal.{Refusal}
use Rattle.op_types.specs.declared.answers.Refusal.TheVariants.{StorageFailed}
use Rattle.op_types.specs.declared.answers.Reply.{Reply}
use Rattle.op_types.specs.declared.events.Input.{Input}
use Rattle.op_types.specs.declared.messages.Msg.{Msg}
use Rattle.op_types.specs.declared.given.Given.{Given}
use Rattle.op_serving.specs.declared.session.Session.{Session}
use Rattle.op_serving.specs.declared.wanted.Wanted.{Wanted}
use Rattle.op_serving.specs.Cores.{Standing, gives, given_again}
use Rattle.op_serving.specs.Fates.{Fate, done, finds, faults, shares, damaged, lost}
use Rattle.op_serving.specs.Inputs.{Taken, loop_after, frames_after, loop_after_all, frames_after_all}
use Rattle.op_serving.specs.Wire.{peer_frame, client_frame}
use Rattle.op_serving.specs.State.{Awaited, Key, Loop, find, changed, is_open, with_bytes, waits_for}
use Rattle.op_serving.specs.Losses.{most_marks}
use Rattle.op_serving.specs.Handing.{frame_at, said_at, goes_to, made_way, sent_behind, sent_if, sent_at, sent, sent_all, frames_behind, frames_sent_if, frames_sent_at, frames_sent, forgotten, answered, replied, replied_all, frames_replied, handed_out, frames_handed, Told, said_at_once, said_of_denial, said_of_failure, told, told_all, frames_told, asked_by_one, asked, is_read, keys_that_wait, proposed, frames_proposed, excused, frames_excused, given_up, frames_given_up}
use Rattle.op_serving.specs.Room.{Frame, has_room, count_at, goes_ahead, kept, placed, frames_placed, frame_of, without_first, first_moved, moved_in, moved, frames_moved_in, frames_moved, begins_anew, cleared, is_excess}
use Rattle.std.specs.Map.{keys_of}
use Rattle.op_connections.proofs.Tables.{found_own, found_other, keys_changed}

-- ---- bytes that are queued

-- the bytes of frames for a connection
abbrev pub bytes_for : ℕ → List Frame → List ℕ
bytes_for c [] = []
bytes_for c (f ∷ fs) = (if f.0 == c then f.1 else []) ++ bytes_for c fs

bytes_for_both : (c : ℕ) (fs gs : List Frame) → bytes_for c (fs ++ gs) ≡ bytes_for c fs ++ bytes_for c gs
bytes_for_both c [] gs = refl
bytes_for_both c (f ∷ fs) gs = ap (λ b. (if f.0 == c then f.1 else []) ++ b) (bytes_for_both c fs gs) ∙ sym (append_assoc (if f.0 == c then f.1 else []) (bytes_for c fs) (bytes_for c gs))

-- they wait for a session, if there is one
abbrev pub queued : List ℕ → Option Session → Option Session
queued bytes o = option_map (with_bytes bytes) o

pub queued_none : (o : Option Session) → queued [] o ≡ o
queued_none None = refl
queued_none (Some x) = ap (λ q. Some (record x { queue = q })) (append-nil x.queue)

pub queued_twice : (a b : List ℕ) (o : Option Session) → queued b (queued a o) ≡ queued (a ++ b) o
queued_twice a b None = refl
queued_twice a b (Some x) = ap (λ q. Some (record x { queue = q })) (append_assoc x.queue a b)

-- ---- frames that are queued

-- once serving has stopped no session is left
abbrev pub Spent : Loop → Type 0
Spent s = most_marks ≤ length s.lost → s.sessions ≡ []

-- these frames are queued, each for its connection, and of what connections see nothing else changed
pub record Queues (c : ℕ) (s : Loop) (fs : List Frame) (t : Loop) : Type 0 where
  pub found : find c t.sessions ≡ queued (bytes_for c fs) (find c s.sessions)
  pub empty : s.sessions ≡ [] → t.sessions ≡ []
  pub gathered : t.gathered ≡ s.gathered
  pub brought : t.brought ≡ s.brought
  pub lost : t.lost ≡ s.lost
  pub me : t.me ≡ s.me
  pub peers : t.peers ≡ s.peers
  pub keys : keys_of t.sessions ≡ keys_of s.sessions
  pub downs : t.downs ≡ s.downs

pub spent_queues : (c : ℕ) (s : Loop) (fs : List Frame) (t : Loop) → Queues c s fs t → Spent s → Spent t
spent_queues c s fs t q h = λ full. q.empty (h (subst (λ l. most_marks ≤ length l) q.lost full))

-- only what no connection sees
pub queues_none : (c : ℕ) (s t : Loop) → t.sessions ≡ s.sessions → t.gathered ≡ s.gathered → t.brought ≡ s.brought → t.lost ≡ s.lost → t.me ≡ s.me → t.peers ≡ s.peers → t.downs ≡ s.downs → Queues c s [] t
queues_none c s t sessions gathered brought marks me peers downs = record {
  found = ap (find c) sessions ∙ sym (queued_none (find c s.sessions));
  empty = λ h. sessions ∙ h;
  gathered = gathered;
  brought = brought;
  lost = marks;
  me = me;
  peers = peers;
  keys = ap keys_of sessions;
  downs = downs;
}

pub queues_then : (c : ℕ) (s m t : Loop) (fs gs : List Frame) → Queues c s fs m → Queues c m gs t → Queues c s (fs ++ gs) t
queues_then c s m t fs gs a b = record {
  found = b.found ∙ ap (queued (bytes_for c gs)) a.found ∙ queued_twice (bytes_for c fs) (bytes_for c gs) (find c s.sessions) ∙ ap (λ x. queued x (find c s.sessions)) (sym (bytes_for_both c fs gs));
  empty = λ h. b.empty (a.empty h);
  gathered = b.gathered ∙ a.gathered;
  brought = b.brought ∙ a.brought;
  lost = b.lost ∙ a.lost;
  me = b.me ∙ a.me;
  peers = b.peers ∙ a.peers;
  keys = b.keys ∙ a.keys;
  downs = b.downs ∙ a.downs;
}

found_waits : (c d : ℕ) (b : List ℕ) (s : Loop) → find c (waits_for d b s).sessions ≡ queued (if d == c then b else []) (find c s.sessions)
found_waits c d b s = elim (cases_eq d c) [
  | inl same ↦ ap (λ n. find c (changed (with_bytes b) n s.sessions)) same ∙ found_own (with_bytes b) c s.sessions ∙ ap (λ k. queued (if k then b else []) (find c s.sessions)) (sym (eq-eqb d c same))
  | inr apart ↦ found_other (with_bytes b) c d s.sessions apart ∙ sym (queued_none (find c s.sessions)) ∙ ap (λ k. queued (if k then b else []) (find c s.sessions)) (sym (ne_eqb d c apart))
]

pub queues_one : (c d : ℕ) (b : List ℕ) (s : Loop) → Queues c s ((d, b) ∷ []) (waits_for d b s)
queues_one c d b s = record {
  found = found_waits c d b s ∙ ap (λ x. queued x (find c s.sessions)) (sym (append-nil (if d == c then b else [])));
  empty = λ h. ap (changed (with_bytes b) d) h;
  gathered = refl;
  brought = refl;
  lost = refl;
  me = refl;
  peers = refl;
  keys = keys_changed (with_bytes b) d s.sessions;
  downs = refl;
}

queues_at : (c : ℕ) (o : Option ℕ) (b : List ℕ) (s : Loop) → Queues c s (frame_at o b) (said_at o b s)
queues_at c None b s = queues_none c s s refl refl refl refl refl refl refl
queues_at c (Some d) b s = queues_one c d b s

-- ---- what waits behind

queues_kept : (c : ℕ) (b : Bool) (f : Frame) (s : Loop) → Queues c s [] (kept b f s)
queues_kept c true f s = queues_none c s (kept true f s) refl refl refl refl refl refl refl
queues_kept c false f s = queues_none c s s refl refl refl refl refl refl refl

-- a frame waits for its connection, or behind what does
queues_placed : (c : ℕ) (b : Bool) (f : Frame) (s : Loop) → Queues c s (frames_placed b f) (placed b f s)
queues_placed c true f s = queues_one c f.0 f.1 s
queues_placed c false f s = queues_kept c (is_open f.0 s) f s

-- the first of those that wait behind moves up
queues_first : (c d : ℕ) (o : Option (List ℕ)) (s : Loop) → Queues c s (frame_of d o) (first_moved d o s)
queues_first c d None s = queues_none c s s refl refl refl refl refl refl refl
queues_first c d (Some b) s =
    let u : Loop = record s { behind = without_first d s.behind } in
    queues_then c s u (waits_for d b u) [] ((d, b) ∷ []) (queues_none c s u refl refl refl refl refl refl refl) (queues_one c d b u)

queues_if : (c : ℕ) (b : Bool) (s : Loop) (fs : List Frame) (t : Loop) → Queues c s fs t → Queues c s (if b then fs else []) (if b then t else s)
queues_if c true s fs t q = q
queues_if c false s fs t q = queues_none c s s refl refl refl refl refl refl refl

queues_moved_in : (k c d : ℕ) (s : Loop) → Queues c s (frames_moved_in k d s) (moved_in k d s)
queues_moved_in zero c d s = queues_none c s s refl refl refl refl refl refl refl
queues_moved_in (suc k) c d s =
    let o : Option (List ℕ) = find d s.behind in
    let u : Loop = first_moved d o s in
    queues_if c (has_room (find d s.sessions)) s (frame_of d o ++ frames_moved_in k d u) (moved_in k d u)
    (queues_then c s u (moved_in k d u) (frame_of d o) (frames_moved_in k d u) (queues_first c d o s) (queues_moved_in k c d u))

queues_moved : (c d : ℕ) (s : Loop) → Queues c s (frames_moved d s) (moved d s)
unfolding moved frames_moved
queues_moved c d s = queues_moved_in (count_at d s.behind) c d s

-- what waits behind makes way
queues_cleared : (c : ℕ) (b : Bool) (d : ℕ) (s : Loop) → Queues c s [] (cleared b d s)
queues_cleared c true d s = queues_none c s (cleared true d s) refl refl refl refl refl refl refl
queues_cleared c false d s = queues_none c s s refl refl refl refl refl refl refl

-- ---- whose what moves up is

away_of : (c d : ℕ) (o : Option (List ℕ)) → (d ≡ c → ⊥) → bytes_for c (frame_of d o) ≡ []
away_of c d None apart = refl
away_of c d (Some b) apart = ap (λ k. (if k then b else []) ++ []) (ne_eqb d c apart)

away_placed : (c : ℕ) (b : Bool) (f : Frame) → (f.0 ≡ c → ⊥) → bytes_for c (frames_placed b f) ≡ []
away_placed c true f apart = away_of c f.0 (Some f.1) apart
away_placed c false f apart = refl

-- both have nothing for a connection
away_both : (c : ℕ) (fs gs : List Frame) → bytes_for c fs ≡ [] → bytes_for c gs ≡ [] → bytes_for c (fs ++ gs) ≡ []
away_both c fs gs a b = bytes_for_both c fs gs ∙ ap (λ r. r ++ bytes_for c gs) a ∙ b

away_if : (c : ℕ) (b : Bool) (fs : List Frame) → bytes_for c fs ≡ [] → bytes_for c (if b then fs else []) ≡ []
away_if c true fs e = e
away_if c false fs e = refl

away_moved_in : (k c d : ℕ) (s : Loop) → (d ≡ c → ⊥) → bytes_for c (frames_moved_in k d s) ≡ []
away_moved_in zero c d s apart = refl
away_moved_in (suc k) c d s apart =
    let o : Option (List ℕ) = find d s.behind in
    let u : Loop = first_moved d o s in
    away_if c (has_room (find d s.sessions)) (frame_of d o ++ frames_moved_in k d u)
    (away_both c (frame_of d o) (frames_moved_in k d u) (away_of c d o apart) (away_moved_in k c d u apart))

away_moved : (c d : ℕ) (s : Loop) → (d ≡ c → ⊥) → bytes_for c (frames_moved d s) ≡ []
unfolding frames_moved
away_moved c d s apart = away_moved_in (count_at d s.behind) c d s apart

-- what is said at a session is all for its connection
away_sent_if : (b : Bool) (c d : ℕ) (m : ℕ × Msg) (s : Loop) → (d ≡ c → ⊥) → bytes_for c (frames_sent_if b d m s) ≡ []
away_sent_if true c d m s apart = refl
away_sent_if false c d m s apart =
    let w : Loop = made_way d m.1 s in
    let t : Loop = moved d w in
    away_both c (frames_moved d w) (frames_behind d m t) (away_moved c d w apart)
    (away_placed c (goes_ahead m.1 (find d t.sessions) (count_at d t.behind)) (d, peer_frame t.me m.0 m.1) apart)

pub away_sent : (c d : ℕ) (m : ℕ × Msg) (s : Loop) → (d ≡ c → ⊥) → bytes_for c (frames_sent_at (Some d) m s) ≡ []
away_sent c d m s apart = away_sent_if (is_excess m.1.body (count_at d s.behind)) c d m s apart

-- ---- what is handed out

queues_sent_if : (b : Bool) (c d : ℕ) (m : ℕ × Msg) (s : Loop) → Queues c s (frames_sent_if b d m s) (sent_if b d m s)
queues_sent_if true c d m s = queues_none c s s refl refl refl refl refl refl refl
queues_sent_if false c d m s =
    let w : Loop = made_way d m.1 s in
    let t : Loop = moved d w in
    queues_then c s t (sent_behind d m t) (frames_moved d w) (frames_behind d m t)
    (queues_then c s w t [] (frames_moved d w) (queues_cleared c (begins_anew m.1.body) d s) (queues_moved c d w))
    (queues_placed c (goes_ahead m.1 (find d t.sessions) (count_at d t.behind)) (d, peer_frame t.me m.0 m.1) t)

pub queues_sent_at : (c : ℕ) (o : Option ℕ) (m : ℕ × Msg) (s : Loop) → Queues c s (frames_sent_at o m s) (sent_at o m s)
queues_sent_at c None m s = queues_none c s s refl refl refl refl refl refl refl
queues_sent_at c (Some d) m s = queues_sent_if (is_excess m.1.body (count_at d s.behind)) c d m s

queues_sent : (c : ℕ) (ms : List (ℕ × Msg)) (s : Loop) → Queues c s (frames_sent ms s) (sent_all ms s)
queues_sent c [] s = queues_none c s s refl refl refl refl refl refl refl
queues_sent c (m ∷ ms) s =
    queues_then c s (sent m s) (sent_all ms (sent m s)) (frames_sent_at (goes_to m s) m s) (frames_sent ms (sent m s))
    (queues_sent_at c (goes_to m s) m s) (queues_sent c ms (sent m s))

pub queues_reply : (c : ℕ) (read : Bool) (r : Reply) (s : Loop) → Queues c s (frame_at (map.get s.askers (read, (r.client, r.seq))) (client_frame (answered r))) (replied read r s)
queues_reply c read r s =
    let key : Awaited = (read, (r.client, r.seq)) in
    let o : Option ℕ = map.get s.askers key in
    let b : List ℕ = client_frame (answered r) in
    queues_then c s (forgotten key s) (said_at o b (forgotten key s)) [] (frame_at o b) (queues_none c s (forgotten key s) refl refl refl refl refl refl refl) (queues_at c o b (forgotten key s))

queues_replied : (c : ℕ) (read : Bool) (rs : List Reply) (s : Loop) → Queues c s (frames_replied read rs s) (replied_all read rs s)
queues_replied c read [] s = queues_none c s s refl refl refl refl refl refl refl
queues_replied c read (r ∷ rs) s =
    let t : Loop = replied read r s in
    queues_then c s t (replied_all read rs t) (frame_at (map.get s.askers (read, (r.client, r.seq))) (client_frame (answered r))) (frames_replied read rs t)
    (queues_reply c read r s) (queues_replied c read rs t)

pub queues_handed : (c : ℕ) (g : Given) (s : Loop) → Queues c s (frames_handed g s) (handed_out g s)
queues_handed c g s =
    let m : Loop = sent_all g.sends s in
    let n : Loop = replied_all false g.replies m in
    queues_then c s n (handed_out g s) (frames_sent g.sends s ++ frames_replied false g.replies m) (frames_replied true g.read_replies n)
    (queues_then c s m n (frames_sent g.sends s) (frames_replied false g.replies m) (queues_sent c g.sends s) (queues_replied c false g.replies m)) (queues_replied c true g.read_replies n)

queues_told : (c : ℕ) (rs : List Told) (s : Loop) → Queues c s (frames_told rs) (told_all rs s)
queues_told c [] s = queues_none c s s refl refl refl refl refl refl refl
queues_told c (r ∷ rs) s = queues_then c s (told r.0 r.1 s) (told_all rs (told r.0 r.1 s)) ((r.0, client_frame r.1) ∷ []) (frames_told rs) (queues_one c r.0 (client_frame r.1) s) (queues_told c rs (told r.0 r.1 s))

queues_asked : (c : ℕ) (read : Bool) (ps : List (ℕ × Key)) (s : Loop) → Queues c s [] (asked read ps s)
queues_asked c read [] s = queues_none c s s refl refl refl refl refl refl refl
queues_asked c read (p ∷ ps) s =
    let t : Loop = asked_by_one read p s in
    queues_then c s t (asked read ps t) [] [] (queues_none c s t refl refl refl refl refl refl refl) (queues_asked c read ps t)

queues_proposed : (c : ℕ) (w : Option Wanted) (o : Option Outcome) (s : Loop) → Queues c s (frames_proposed w o) (proposed w o s)
queues_proposed c None o s = queues_none c s s refl refl refl refl refl refl refl
queues_proposed c (Some w) o s =
    let m : Loop = asked (is_read w) (keys_that_wait w o) s in
    queues_then c s m (told_all (said_at_once w o) m) [] (frames_told (said_at_once w o)) (queues_asked c (is_read w) (keys_that_wait w o) s) (queues_told c (said_at_once w o) m)

queues_excused : (c : ℕ) (w : Option Wanted) (why : Option Refusal) (s : Loop) → Queues c s (frames_excused w why) (excused w why s)
queues_excused c None why s = queues_none c s s refl refl refl refl refl refl refl
queues_excused c (Some w) why s = queues_told c (said_of_denial w why) s

-- what was asked for is noted, and this is handed out
queues_given : (c : ℕ) (w : Option Wanted) (g : Given) (o : Option Outcome) (s : Loop) → Queues c s (frames_proposed w o ++ frames_handed g (proposed w o s)) (handed_out g (proposed w o s))
queues_given c w g o s =
    let m : Loop = proposed w o s in
    queues_then c s m (handed_out g m) (frames_proposed w o) (frames_handed g m) (queues_proposed c w o s) (queues_handed c g m)

-- a disk failed: all that wait are told
pub queues_given_up : (c k : ℕ) (s : Loop) → Queues c s (frames_given_up k s) (given_up k s)
queues_given_up c k s =
    let m : Loop = record s { askers = map.empty } in
    queues_then c s m (given_up k s) [] (frames_given_up k s) (queues_none c s m refl refl refl refl refl refl refl) (queues_told c (said_of_failure k s.askers) m)

-- an input was taken, and this is handed out of it
queues_after : (c : ℕ) (w : Option Wanted) (i : Input) (f : Fate) (n : Standing) (s : Loop) → Queues c s (frames_after w i f n s) (loop_after w i f n s)
queues_after c w i done n s = queues_given c w (gives n i) (gives n i).outcome s
queues_after c w i (finds d) n s = queues_given c w (given_again n d) None s
queues_after c w i (faults k) n s =
    let m : Loop = given_up k s in
    queues_then c s m (excused w (Some (StorageFailed k)) m) (frames_given_up k s) (frames_excused w (Some (StorageFailed k))) (queues_given_up c k s) (queues_excused c w (Some (StorageFailed k)) m)
queues_after c w i (shares k) n s = queues_excused c w (Some (StorageFailed k)) s
queues_after c w i damaged n s = queues_none c s s refl refl refl refl refl refl refl
queues_after c w i lost n s = queues_excused c w None s

-- so it is of several
pub queues_after_all : (c : ℕ) (ts : List Taken) (s : Loop) → Queues c s (frames_after_all ts s) (loop_after_all ts s)
queues_after_all c [] s = queues_none c s s refl refl refl refl refl refl refl
queues_after_all c (t ∷ ts) s =
    let m : Loop = loop_after t.wanted t.input t.fate t.before s in
    queues_then c s m (loop_after_all ts m) (frames_after t.wanted t.input t.fate t.before s) (frames_after_all ts m) (queues_after c t.wanted t.input t.fate t.before s) (queues_after_all c ts m)
