-- Messages, what is asked for and what is told, and the sessions that are lost for want of memory.
use Rattle.std.proofs.Common.{◌≡◌, ◌∷◌, [], ℕ, Bool, List, true, false, if◌then◌else◌, ◌==◌, Option, Some, None, refl, sym, ◌∙◌, ap, subst, ◌⊎◌, inl, inr}
use Rattle.std.proofs.lemmas.Bool.{cases_Bool, eqb-true}
use Rattle.std.specs.FinMap as map
use Rattle.op_types.specs.declared.messages.Msg.{Msg}
use Rattle.op_serving.specs.declared.kind.Kind.{Kind}
use Rattle.op_serving.specs.declared.kind.Kind.TheVariants.{Unknown, Peer, Client}
use Rattle.op_types.specs.declared.given.Given.{Given}
use Rattle.op_serving.specs.declared.session.Session.{Session}
use Rattle.op_types.specs.declared.answers.Reply.{Reply}
use Rattle.op_serving.specs.Wire.{fits_peer, client_frame}
use Rattle.op_serving.specs.State.{Awaited, Loop, find, if_its, open_of, session_of, left_at}
use Rattle.op_serving.specs.Losses.{mark_at, noted, stopped_if, lost_by, lost_if_open}
use Rattle.op_serving.specs.Handing.{said_at, sent_at, sent, sent_all, forgotten, answered, replied, replied_all, handed_out, Told, told_all}
use Rattle.op_queues.proofs.Tables.{find_without}
use Rattle.op_queues.proofs.Askers.{unless_at, get_without}
use Rattle.op_queues.proofs.Losing.{by_loss, by_open, shut}
use Rattle.op_queues.proofs.Settling.{Blind, Quiet, blind, quiet_same, quiet_then, quiet_by, quiet_waits, shut_waits}
use Rattle.op_queues.proofs.Room.{Spoils, quiet_at, quiet_sent_at, idle_at, quiet_forgotten}

-- ---- a message

-- a peer's session is at the connection that it had last, or nowhere
its : (q c : ℕ) (o : Option Session) → (if_its q c o ≡ None) ⊎ (if_its q c o ≡ Some c)
its q c None = inl refl
its q c (Some x) = its_kind x.kind refl
  where
    its_kind : (k : Kind) → x.kind ≡ k → (if_its q c (Some x) ≡ None) ⊎ (if_its q c (Some x) ≡ Some c)
    its_kind Unknown e = inl (rw e refl)
    its_kind (Peer p h) e = elim (cases_Bool (p == q)) [ inl g ↦ inr (rw (e, g) refl) | inr g ↦ inl (rw (e, g) refl) ]
    its_kind Client e = inl (rw e refl)

quiet_its : (m : ℕ × Msg) (c : ℕ) (o : Option Session) → Quiet (sent_at (if_its m.0 c o) m)
quiet_its m c o = elim (its m.0 c o) [
  | inl e ↦ subst (λ (w : Option ℕ). Quiet (sent_at w m)) (sym e) quiet_same
  | inr e ↦ subst (λ (w : Option ℕ). Quiet (sent_at w m)) (sym e) (quiet_sent_at c m)
]

idle_its : (m : ℕ × Msg) (c : ℕ) (o : Option Session) (u : Loop) → Spoils c u → sent_at (if_its m.0 c o) m u ≡ u
idle_its m c o u k = elim (its m.0 c o) [ inl e ↦ ap (λ w. sent_at w m u) e | inr e ↦ ap (λ w. sent_at w m u) e ∙ idle_at c m u k ]

quiet_to : (m : ℕ × Msg) (fits : Bool) (w : Option (Option ℕ)) → Quiet (λ s. sent_at (if fits then open_of m.0 w s.sessions else None) m s)
quiet_to m false w = quiet_same
quiet_to m true None = quiet_same
quiet_to m true (Some None) = quiet_same
quiet_to m true (Some (Some c)) = quiet_at c (λ (o : Option Session). sent_at (if_its m.0 c o) m) (λ e. e.0) (quiet_its m c) (idle_its m c)

lost_me : (c : ℕ) (s : Loop) → (lost_by c s).me ≡ s.me
lost_me c s = by_loss (λ u. u.me ≡ s.me) c s refl (λ k. refl) refl

lost_peers : (c : ℕ) (s : Loop) → (lost_by c s).peers ≡ s.peers
lost_peers c s = by_loss (λ u. u.peers ≡ s.peers) c s refl (λ k. refl) refl

pub quiet_sent : (m : ℕ × Msg) → Quiet (sent m)
quiet_sent m =
    quiet_by {X = Bool × Option (Option ℕ)} (λ x s. sent_at (if x.0 then open_of m.0 x.1 s.sessions else None) m s)
    (λ s. (fits_peer s.me m.0 m.1, find m.0 s.peers)) (λ x. quiet_to m x.0 x.1) (λ d s. cc (lost_me d s, lost_peers d s))

-- one whose session was lost goes nowhere
pub idle_sent : (m : ℕ × Msg) (c : ℕ) (s t : Loop) → session_of m.0 s ≡ Some c → t ≡ lost_if_open c s → sent m t ≡ t
idle_sent m c s t e is =
    let peers : t.peers ≡ s.peers = rw is (by_open (λ u. u.peers ≡ s.peers) c s (λ h. refl) (λ h. lost_peers c s)) in
    let none : session_of m.0 t ≡ None = ap (λ ps. open_of m.0 (find m.0 ps) t.sessions) peers ∙ nowhere (find m.0 s.peers) e in
    ap (λ o. sent_at (if fits_peer t.me m.0 m.1 then o else None) m t) none ∙ not_sent (fits_peer t.me m.0 m.1)
  where
    nowhere : (w : Option (Option ℕ)) → open_of m.0 w s.sessions ≡ Some c → open_of m.0 w t.sessions ≡ None
    nowhere None h = refl
    nowhere (Some None) h = refl
    nowhere (Some (Some k)) h = elim (its m.0 k (find k s.sessions)) [
      | inl none ↦ absurd (let bad : None ≡ Some c = sym none ∙ h in cc)
      | inr some ↦ (
          let same : Some k ≡ Some c = sym some ∙ h in
          let one : k ≡ c = cc in
          ap (λ n. if_its m.0 n (find n t.sessions)) one ∙ ap (if_its m.0 c) (shut c s t is))
    ]

    not_sent : (b : Bool) → sent_at (if b then None else None) m t ≡ t
    not_sent true = refl
    not_sent false = refl

-- ---- an answer

quiet_said : (o : Option ℕ) (b : List ℕ) → Quiet (said_at o b)
quiet_said None b = quiet_same
quiet_said (Some c) b = quiet_waits c b

-- whoever asked where no session is, is told nothing
said_unless : (d : ℕ) (o : Option ℕ) (b : List ℕ) (s : Loop) → find d s.sessions ≡ None → said_at o b s ≡ said_at (unless_at d o) b s
said_unless d None b s none = refl
said_unless d (Some c) b s none = elim (cases_Bool (c == d)) [
  | inl h ↦ rw h (shut_waits c b s (ap (λ n. find n s.sessions) (eqb-true c d h) ∙ none))
  | inr h ↦ rw h refl
]

said_nowhere : (o : Option ℕ) (b : List ℕ) (s : Loop) → s.sessions ≡ [] → said_at o b s ≡ s
said_nowhere None b s e = refl
said_nowhere (Some c) b s e = shut_waits c b s (ap (find c) e)

pub quiet_replied : (read : Bool) (r : Reply) → Quiet (replied read r)
quiet_replied read r =
    let key : Awaited = (read, (r.client, r.seq)) in
    let b : List ℕ = client_frame (answered r) in
    quiet_by (λ o s. said_at o b (forgotten key s)) (λ s. map.get s.askers key) (λ o. quiet_then (quiet_forgotten key) (quiet_said o b)) (λ d s.
    let n : Loop = noted (mark_at s.place (Some d)) s in
    let none : Loop = forgotten key (stopped_if false n) in
    by_loss (λ u. said_at (map.get s.askers key) b (forgotten key u) ≡ said_at (map.get u.askers key) b (forgotten key u)) d s refl
    (λ k. let u : Loop = forgotten key (left_at d (Some k) n) in
    said_unless d (map.get s.askers key) b u (find_without d s.sessions) ∙ ap (λ o. said_at o b u) (sym (get_without d s.askers key)))
    (said_nowhere (map.get s.askers key) b none refl ∙ sym (said_nowhere (map.get (stopped_if false n).askers key) b none refl)))

-- ---- one after the other

pub quiet_replied_all : (read : Bool) (rs : List Reply) → Quiet (replied_all read rs)
quiet_replied_all read [] = quiet_same
quiet_replied_all read (r ∷ rs) = quiet_then (quiet_replied read r) (quiet_replied_all read rs)

pub quiet_sent_all : (ms : List (ℕ × Msg)) → Quiet (sent_all ms)
quiet_sent_all [] = quiet_same
quiet_sent_all (m ∷ ms) = quiet_then (quiet_sent m) (quiet_sent_all ms)

pub quiet_told_all : (rs : List Told) → Quiet (told_all rs)
quiet_told_all [] = quiet_same
quiet_told_all (r ∷ rs) = quiet_then (quiet_waits r.0 (client_frame r.1)) (quiet_told_all rs)

pub quiet_handed : (g : Given) → Quiet (handed_out g)
quiet_handed g = quiet_then (quiet_then (quiet_sent_all g.sends) (quiet_replied_all false g.replies)) (quiet_replied_all true g.read_replies)

pub blind_replied_all : (read : Bool) (rs : List Reply) → Blind (replied_all read rs)
blind_replied_all read rs = blind (quiet_replied_all read rs)

pub blind_sent_all : (ms : List (ℕ × Msg)) → Blind (sent_all ms)
blind_sent_all ms = blind (quiet_sent_all ms)

pub blind_told_all : (rs : List Told) → Blind (told_all rs)
blind_told_all rs = blind (quiet_told_all rs)

pub blind_handed : (g : Given) → Blind (handed_out g)
blind_handed g = blind (quiet_handed g)
