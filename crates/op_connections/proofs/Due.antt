-- Over a run each open connection that is no peer's is told what is due at it.
use Rattle.std.proofs.Common.{◌≡◌, ◌≤◌, ◌+◌, ◌-◌, ◌++◌, ◌∷◌, ◌⊎◌, [], ℕ, Bool, true, false, List, length, take, drop, map as each, nat_lt, Option, Some, None, option_map, is_some, cond, not, ◌==◌, if◌then◌else◌, refl, sym, ◌∙◌, ap, ap₂, subst, inl, inr, arith}
use Rattle.std.specs.Prelude.{fold}
use Rattle.std.specs.FinMap as map
use Rattle.std.proofs.lemmas.Bool.{cases_eq, eq-eqb, eqb-true, ne_eqb}
use Rattle.std.proofs.lemmas.List.{map-append}
use Rattle.std.proofs.lemmas.List.Sums.{fold-append}
use Rattle.op_types.specs.declared.answers.Outcome.{Outcome}
use Rattle.op_types.specs.declared.answers.Outcome.TheVariants.{Refused}
use Rattle.op_types.specs.declared.answers.Refusal.{Refusal}
use Rattle.op_types.specs.declared.answers.Refusal.TheVariants.{StorageFailed}
use Rattle.op_types.specs.declared.events.Input.{Input}
use Rattle.op_types.specs.declared.events.Input.TheVariants as input
use Rattle.op_command.specs.declared.reply.ClientReply.{ClientReply}
use Rattle.op_command.specs.declared.said.Said.{Said}
use Rattle.op_serving.specs.declared.kind.Kind.{Kind}
use Rattle.op_serving.specs.declared.kind.Kind.TheVariants.{Unknown, Peer, Client}
use Rattle.op_serving.specs.declared.mark.Mark.{Mark}
use Rattle.op_serving.specs.declared.session.Session.{Session}
use Rattle.op_serving.specs.Answers.{Answers}
use Rattle.op_serving.specs.Cores.{Standing, gives, given_again}
use Rattle.op_serving.specs.Fates.{Fate, done, finds, faults, shares, damaged, lost, after_fate}
use Rattle.op_serving.specs.Handing.{no_command, told}
use Rattle.op_serving.specs.Inputs.{Deed, begins, hears, enters, says, takes, State, Luck, Taken, asked_by, loop_taking, loop_after_all, frames_after_all, calm, takes_in, taken_as, handing, noting, gathering, bringing}
use Rattle.op_serving.specs.Losses.{most_marks, mark_at, noted, stopped_if, marked, lost_by, lost_one, is_due, settle}
use Rattle.op_serving.specs.Promise.{folded}
use Rattle.op_serving.specs.Pump.{Settings, Pump, Answer, after}
use Rattle.op_serving.specs.Reading.{hello_len, tells, feeding, feeds, of_kind, holding, linked}
use Rattle.op_serving.specs.Room.{Frame}
use Rattle.op_serving.specs.State.{Key, Awaited, Loop, awaited_cmp, find, without, changed, counted, is_conn, is_open, kind_at, left_at, left_by}
use Rattle.op_serving.specs.Turns.{made_session, first_bytes, joining, joined, waiting, without_bytes, hello_less, taken_by, up_peer, up_at}
use Rattle.op_serving.specs.Wire.{client_frame}
use Rattle.op_serving.proofs.KeyOrder.{key_exact}
use Rattle.op_connections.specs.Runs.{Begins}
use Rattle.op_connections.specs.Telling.{Due, nothing_due, after_given, after_commands, after_asking, after_denial, after_failure, after_input, due_then, due_in, about, ClientsAreTold}
use Rattle.op_connections.specs.Waiting.{frames_for}
use Rattle.op_connections.proofs.Fading.{replaced_none}
use Rattle.op_connections.proofs.Folding.{folded_both, folded_says}
use Rattle.op_connections.proofs.Pumping.{Closed, Goes, run_kept}
use Rattle.op_connections.proofs.Queueing.{queues_after_all}
use Rattle.op_connections.proofs.Tables.{find_without, find_apart, found_own, found_other, find_insert, find_insert_apart}
use Rattle.op_connections.proofs.Telling.{texts, about_both, Waits, ShutQuiet, open_queues, kind_queues, Tracks, nothing_comes, NoPeers, asking_by, denial_by, after_wanted, after_all, tracks_nobody, tracks_all}
use Rattle.op_connections.proofs.Waiting.{frames_more, said_more}
use Rattle.op_connections.proofs.Walking.{NoPeer, taking_holds, Hands, enter_holds, Steps, steps, Hearing, give_holds, flushed_holds, over_holds, read_holds}

-- ---- what a deed makes due

none_commands : (c : ℕ) (key : Key) (o : Option Outcome) (d : Due) → after_commands c key [] o d ≡ d
none_commands c key (Some (Refused why)) d = refl
none_commands c key o d = refl

asking_same : (c : ℕ) (key : Key) (who : List ℕ) (i : Input) (o : Option Outcome) (d : Due) → after_asking c key who i o d ≡ asking_by c (asked_by who i) o key d
asking_same c key [] (input.Commands xs) o d = none_commands c key o d
asking_same c key [] i o d = refl
asking_same c key (e ∷ es) (input.Commands xs) o d = refl
asking_same c key (e ∷ es) i o d = refl

denial_same : (c : ℕ) (key : Key) (who : List ℕ) (i : Input) (why : Option Refusal) (d : Due) → after_denial c key who i why d ≡ denial_by c (asked_by who i) why key d
denial_same c key [] (input.Commands xs) why d = refl
denial_same c key [] i why d = refl
denial_same c key (e ∷ es) (input.Commands xs) why d = refl
denial_same c key (e ∷ es) i why d = refl

input_same : (c : ℕ) (key : Key) (n : Standing) (who : List ℕ) (i : Input) (f : Fate) (d : Due) → after_input c key n who i f d ≡ after_wanted c (asked_by who i) i f n key d
input_same c key n who i done d = ap (after_given key (gives n i)) (asking_same c key who i (gives n i).outcome d)
input_same c key n who i (finds x) d = ap (after_given key (given_again n x)) (asking_same c key who i None d)
input_same c key n who i (faults k) d = denial_same c key who i (Some (StorageFailed k)) (after_failure k d)
input_same c key n who i (shares k) d = denial_same c key who i (Some (StorageFailed k)) d
input_same c key n who i damaged d = refl
input_same c key n who i lost d = denial_same c key who i None d

all_push : (c : ℕ) (ts : List Taken) (t : Taken) (key : Key) (d : Due) → after_all c (ts ++ t ∷ []) key d ≡ after_wanted c t.wanted t.input t.fate t.before key (after_all c ts key d)
all_push c [] t key d = refl
all_push c (u ∷ ts) t key d = all_push c ts t key (after_wanted c u.wanted u.input u.fate u.before key d)

module _ (c : ℕ) (key : Key) where
  node_of : (ds : List Deed) (x : Standing × Due) → (fold (due_then c key) x ds).0 ≡ folded x.0 ds
  node_of [] x = refl
  node_of (begins e greeting ∷ ds) x = node_of ds (due_then c key x (begins e greeting))
  node_of (hears e bytes ∷ ds) x = node_of ds x
  node_of (enters who i f ∷ ds) x = node_of ds (due_then c key x (enters who i f))
  node_of (says f ∷ ds) x = node_of ds x
  node_of (takes e bytes ∷ ds) x = node_of ds x

  due_push : (n : Standing) (ds : List Deed) (d : Deed) → due_in c key n (ds ++ d ∷ []) ≡ (due_then c key (fold (due_then c key) (n, nothing_due) ds) d).1
  due_push n ds d = ap (λ (x : Standing × Due). x.1) (fold-append (due_then c key) (n, nothing_due) ds (d ∷ []))

  due_entered : (n : Standing) (ds : List Deed) (who : List ℕ) (i : Input) (f : Fate) → due_in c key n (ds ++ enters who i f ∷ []) ≡ after_input c key (folded n ds) who i f (due_in c key n ds)
  due_entered n ds who i f = due_push n ds (enters who i f) ∙ ap (λ z. after_input c key z who i f (due_in c key n ds)) (node_of ds (n, nothing_due))

  says_same : (fs : List Frame) (x : Standing × Due) → fold (due_then c key) x (each says fs) ≡ x
  says_same [] x = refl
  says_same (f ∷ fs) x = says_same fs x

  due_says : (n : Standing) (ds : List Deed) (fs : List Frame) → due_in c key n (ds ++ each says fs) ≡ due_in c key n ds
  due_says n ds fs = ap (λ (x : Standing × Due). x.1) (fold-append (due_then c key) (n, nothing_due) ds (each says fs) ∙ says_same fs (fold (due_then c key) (n, nothing_due) ds))

-- ---- losses and ends

-- Of an open connection session and askers are as they were; of one that is shut nobody waits still.
record Less (c : ℕ) (s t : Loop) : Type 0 where
  same : is_open c t ≡ true → find c t.sessions ≡ find c s.sessions
  waits : is_open c t ≡ true → (k : Awaited) → is_conn c (map.get t.askers k) ≡ is_conn c (map.get s.askers k)
  shut : ShutQuiet c s → ShutQuiet c t

less_same : (c : ℕ) (s t : Loop) → t.sessions ≡ s.sessions → t.askers ≡ s.askers → Less c s t
less_same c s t sessions askers = record {
  same = λ is. ap (find c) sessions;
  waits = λ is k. ap (λ a. is_conn c (map.get a k)) askers;
  shut = λ h none k. ap (λ a. is_conn c (map.get a k)) askers ∙ h (ap (λ v. is_some (find c v)) (sym sessions) ∙ none) k;
}

less_then : (c : ℕ) (s m t : Loop) → Less c s m → Less c m t → Less c s t
less_then c s m t a b = record {
  same = λ is. b.same is ∙ a.same (ap is_some (sym (b.same is)) ∙ is);
  waits = λ is k. b.waits is k ∙ a.waits (ap is_some (sym (b.same is)) ∙ is) k;
  shut = λ h. b.shut (a.shut h);
}

less_stopped : (c : ℕ) (b : Bool) (s : Loop) → Less c s (stopped_if b s)
less_stopped c true s = less_same c s s refl refl
less_stopped c false s = record {
  same = λ is. absurd (let bad : false ≡ true = is in cc);
  waits = λ is k. absurd (let bad : false ≡ true = is in cc);
  shut = λ h none k. ap (is_conn c) (map.get-empty awaited_cmp k);
}

less_marked : (c : ℕ) (conn : Option ℕ) (s : Loop) → Less c s (marked conn s)
less_marked c conn s =
    let u : Loop = noted (mark_at s.place conn) s in
    less_then c s u (marked conn s) (less_same c s u refl refl) (less_stopped c (nat_lt (length s.lost + 1) most_marks) u)

-- whoever asked at another connection waits no more
others_stay : (c d : ℕ) (o : Option ℕ) → (c ≡ d → ⊥) → is_conn c (cond (not (is_conn d o)) o None) ≡ is_conn c o
others_stay c d None apart = refl
others_stay c d (Some e) apart = by_conn (e == d) refl
  where
    by_conn : (b : Bool) → (e == d) ≡ b → is_conn c (cond (not b) (Some e) None) ≡ (e == c)
    by_conn true h = sym (ne_eqb e c (λ k. apart (sym k ∙ eqb-true e d h)))
    by_conn false h = refl

own_goes : (c : ℕ) (o : Option ℕ) → is_conn c (cond (not (is_conn c o)) o None) ≡ false
own_goes c o = by_conn (is_conn c o) refl
  where
    by_conn : (b : Bool) → is_conn c o ≡ b → is_conn c (cond (not b) o None) ≡ false
    by_conn true h = refl
    by_conn false h = h

less_over : (c d : ℕ) (o : Option Kind) (s : Loop) → Less c s (left_at d o s)
less_over c d None s = less_same c s s refl refl
less_over c d (Some kind) s = elim (cases_eq c d) [
  | inl own ↦ record {
    same = λ is. absurd (let bad : false ≡ true = sym (shut_own own) ∙ is in cc);
    waits = λ is k. absurd (let bad : false ≡ true = sym (shut_own own) ∙ is in cc);
    shut = λ h none k. ap (is_conn c) (found k) ∙ ap (λ z. is_conn c (cond (not (is_conn z (map.get s.askers k))) (map.get s.askers k) None)) (sym own) ∙ own_goes c (map.get s.askers k);
  }
  | inr apart ↦ record {
    same = λ is. find_apart c d s.sessions apart;
    waits = λ is k. ap (is_conn c) (found k) ∙ others_stay c d (map.get s.askers k) apart;
    shut = λ h none k. ap (is_conn c) (found k) ∙ others_stay c d (map.get s.askers k) apart ∙ h (ap is_some (sym (find_apart c d s.sessions apart)) ∙ none) k;
  }
]
  where
    shut_own : c ≡ d → is_some (find c (without d s.sessions)) ≡ false
    shut_own e = ap (λ z. is_some (find z (without d s.sessions))) e ∙ ap is_some (find_without d s.sessions)

    found : (k : Awaited) → map.get (map.retain_keys s.askers (λ q. not (is_conn d (map.get s.askers q)))) k ≡ cond (not (is_conn d (map.get s.askers k))) (map.get s.askers k) None
    found k = map.get-retain_keys s.askers (λ q. not (is_conn d (map.get s.askers q))) k (λ x e. ap (λ q. not (is_conn d (map.get s.askers q))) (sym (key_exact k x e)))

less_left : (c d : ℕ) (s : Loop) → Less c s (left_by d s)
less_left c d s = less_over c d (kind_at d s) s

less_one : (c : ℕ) (o : Option ℕ) (s : Loop) → Less c s (lost_one o s)
less_one c None s = less_same c s s refl refl
less_one c (Some d) s = less_then c s (marked (Some d) s) (lost_by d s) (less_marked c (Some d) s) (less_left c d (marked (Some d) s))

less_due : (c : ℕ) (b : Bool) (ms : List Mark) (o : Option ℕ) (s : Loop) → Less c s (settle ms (lost_one o s)) → Less c s (if b then settle ms (lost_one o s) else s)
less_due c true ms o s k = k
less_due c false ms o s k = less_same c s s refl refl

less_settle : (c : ℕ) (ms : List Mark) (s : Loop) → Less c s (settle ms s)
less_settle c [] s = less_same c s s refl refl
less_settle c (m ∷ ms) s = less_due c (is_due m s) ms m.conn s (less_then c s (lost_one m.conn s) (settle ms (lost_one m.conn s)) (less_one c m.conn s) (less_settle c ms (lost_one m.conn s)))

less_taking : (c : ℕ) (f : Fate) (s : Loop) → Less c s (loop_taking f s)
less_taking c f s =
    let m : Loop = marked None s in
    taking_holds (λ t. Less c s t) f s (less_same c s (counted s) refl refl) (less_then c s m (counted m) (less_marked c None s) (less_same c m (counted m) refl refl))

-- ---- what was said at a connection

pub record SaidAt (n : Standing) (c : ℕ) (s : State) : Type 0 where
  pub replies : List ClientReply
  pub frames : frames_for c s.deeds ≡ texts replies
  pub due : (key : Key) → 1 ≤ key.0 → Waits c s.loop key (due_in c key n s.deeds) × (about key replies ≡ (due_in c key n s.deeds).told)

pub record At (n : Standing) (c : ℕ) (s : State) : Type 0 where
  pub shut : ShutQuiet c s.loop
  pub said : is_open c s.loop ≡ true → NoPeers c s.loop → SaidAt n c s

pub record Says (n : Standing) (s : State) : Type 0 where
  pub node : s.node ≡ folded n s.deeds
  pub at : (c : ℕ) → At n c s

-- the same while these are taken, and not handed out yet
record TakenAt (n : Standing) (c : ℕ) (ts : List Taken) (s : State) : Type 0 where
  replies : List ClientReply
  frames : frames_for c s.deeds ≡ texts replies
  due : (key : Key) → 1 ≤ key.0 → (d : Due) × Waits c s.loop key d × (about key replies ≡ d.told) × (due_in c key n s.deeds ≡ after_all c ts key d)

record AtTaken (n : Standing) (c : ℕ) (ts : List Taken) (s : State) : Type 0 where
  shut : ShutQuiet c s.loop
  said : is_open c s.loop ≡ true → NoPeers c s.loop → TakenAt n c ts s

record SaysTaken (n : Standing) (ts : List Taken) (s : State) : Type 0 where
  node : s.node ≡ folded n s.deeds
  at : (c : ℕ) → AtTaken n c ts s

waits_less : (c : ℕ) (s t : Loop) (key : Key) (d : Due) → Less c s t → is_open c t ≡ true → Waits c s key d → Waits c t key d
waits_less c s t key d l is w = (l.waits is (false, key) ∙ w.0, l.waits is (true, key) ∙ w.1)

peers_less : (c : ℕ) (s t : Loop) → Less c s t → is_open c t ≡ true → NoPeers c t → NoPeers c s
peers_less c s t l is none q h e = none q h (ap (option_map (λ (x : Session). x.kind)) (l.same is) ∙ e)

open_less : (c : ℕ) (s t : Loop) → Less c s t → is_open c t ≡ true → is_open c s ≡ true
open_less c s t l is = ap is_some (sym (l.same is)) ∙ is

module _ (n : Standing) where
  at_less : (c : ℕ) (s : State) (t : Loop) → Less c s.loop t → At n c s → At n c (record s { loop = t })
  at_less c s t l h = record {
    shut = l.shut h.shut;
    said = λ is none.
        (let k = h.said (open_less c s.loop t l is) (peers_less c s.loop t l is none) in
        record { replies = k.replies; frames = k.frames; due = λ key some. (waits_less c s.loop t key (due_in c key n s.deeds) l is (k.due key some).0, (k.due key some).1) });
  }

  says_less : (s : State) (t : Loop) → ((c : ℕ) → Less c s.loop t) → Says n s → Says n (record s { loop = t })
  says_less s t l h = record { node = h.node; at = λ c. at_less c s t (l c) (h.at c) }

  -- ---- inputs

  at_taken : (c : ℕ) (ts : List Taken) (who : List ℕ) (i : Input) (f : Fate) (s : State) → s.node ≡ folded n s.deeds → AtTaken n c ts s → AtTaken n c (ts ++ taken_as who i f s ∷ []) (takes_in who i f s)
  at_taken c ts who i f s node h = record {
    shut = l.shut h.shut;
    said = λ is none.
        (let k = h.said (open_less c s.loop t l is) (peers_less c s.loop t l is none) in record {
          replies = k.replies;
          frames = frames_more c s.deeds (enters who i f ∷ []) ∙ k.frames;
          due = λ key some. (let q = k.due key some in (
            q.0,
            waits_less c s.loop t key q.0 l is q.1,
            q.2,
            due_entered c key n s.deeds who i f ∙ ap (λ z. after_input c key z who i f (due_in c key n s.deeds)) (sym node) ∙ input_same c key s.node who i f (due_in c key n s.deeds)
                ∙ ap (after_wanted c (asked_by who i) i f s.node key) q.3 ∙ sym (all_push c ts (taken_as who i f s) key q.0),
          ));
        });
  }
    where
      t : Loop
      t = loop_taking f s.loop

      l : Less c s.loop t
      l = less_taking c f s.loop

  says_taken : (ts : List Taken) (who : List ℕ) (i : Input) (f : Fate) (s : State) → SaysTaken n ts s → SaysTaken n (ts ++ taken_as who i f s ∷ []) (takes_in who i f s)
  says_taken ts who i f s h = record {
    node = ap (λ m. after_fate m i f) h.node ∙ sym (folded_both n s.deeds (enters who i f ∷ []));
    at = λ c. at_taken c ts who i f s h.node (h.at c);
  }

  begins_taken : (s : State) → Says n s → SaysTaken n [] s
  begins_taken s h = record {
    node = h.node;
    at = λ c. record {
      shut = (h.at c).shut;
      said = λ is none.
          (let k = (h.at c).said is none in
          record { replies = k.replies; frames = k.frames; due = λ key some. (due_in c key n s.deeds, (k.due key some).0, (k.due key some).1, refl) });
    };
  }

  -- ---- frames that are said

  said_node : (s : State) (fs : List Frame) → s.node ≡ folded n s.deeds → s.node ≡ folded n (s.deeds ++ each says fs)
  said_node s fs h = h ∙ sym (folded_both n s.deeds (each says fs) ∙ folded_says (folded n s.deeds) fs)

  module _ (c : ℕ) (s : State) (fs : List Frame) (t : Loop) (f : Key → Due → Due) (tr : Tracks c s.loop fs t f) where
    abbrev handed : State
    handed = record s { loop = t; deeds = s.deeds ++ each says fs }

    said_at : is_open c s.loop ≡ true → (replies : List ClientReply) → frames_for c s.deeds ≡ texts replies
        → ((key : Key) → 1 ≤ key.0 → (d : Due) × Waits c s.loop key d × (about key replies ≡ d.told) × (due_in c key n s.deeds ≡ f key d)) → SaidAt n c handed
    said_at is replies frames due = record {
      replies = replies ++ tr.replies;
      frames = frames_more c s.deeds (each says fs) ∙ said_more c fs (frames_for c s.deeds) ∙ ap₂ (λ x y. x ++ y) frames tr.frames ∙ sym (map-append (λ x. client_frame x) replies tr.replies);
      due = λ key some.
          (let q = due key some in
          let x = tr.told is key some q.0 q.1 in
          let same : due_in c key n handed.deeds ≡ f key q.0 = due_says c key n s.deeds fs ∙ q.3 in (
            subst (λ z. Waits c t key z) (sym same) x.0,
            about_both key replies tr.replies ∙ ap (λ l. l ++ about key tr.replies) q.2 ∙ sym x.1 ∙ ap (λ (z : Due). z.told) (sym same),
          ));
    }

  none_peers : (c : ℕ) (s : Loop) → is_open c s ≡ false → NoPeers c s
  none_peers c s none q h e = by_session (find c s.sessions) none e
    where
      by_session : (o : Option Session) → is_some o ≡ false → option_map (λ (x : Session). x.kind) o ≡ Some (Peer q h) → ⊥
      by_session None none e = absurd cc
      by_session (Some y) none e = absurd (let bad : true ≡ false = none in cc)

  at_handed : (c : ℕ) (ts : List Taken) (s : State) → AtTaken n c ts s → At n c (record s { loop = loop_after_all ts s.loop; deeds = s.deeds ++ each says (frames_after_all ts s.loop) })
  at_handed c ts s h = record {
    shut = λ none k.
        (let was : is_open c s.loop ≡ false = sym (open_queues c s.loop fs t (queues_after_all c ts s.loop)) ∙ none in
        (tracks_all c ts s.loop (none_peers c s.loop was)).shut h.shut none k);
    said = λ is none.
        (let was : is_open c s.loop ≡ true = sym (open_queues c s.loop fs t (queues_after_all c ts s.loop)) ∙ is in
        let alone : NoPeers c s.loop = λ q m e. none q m (kind_queues c s.loop fs t (queues_after_all c ts s.loop) ∙ e) in
        let k = h.said was alone in
        said_at c s fs t (after_all c ts) (tracks_all c ts s.loop alone) was k.replies k.frames k.due);
  }
    where
      fs : List Frame
      fs = frames_after_all ts s.loop

      t : Loop
      t = loop_after_all ts s.loop

  says_handed : (l : Luck) (ts : List Taken) (s : State) → SaysTaken n ts s → Says n (handing l ts s)
  says_handed l ts s h =
      let t : Loop = loop_after_all ts s.loop in
      let fs : List Frame = frames_after_all ts s.loop in
      says_less (record s { loop = t; deeds = s.deeds ++ each says fs }) (settle (drop (length t.lost) l.marks) t) (λ c. less_settle c (drop (length t.lost) l.marks) t)
      (record { node = said_node s fs h.node; at = λ c. at_handed c ts s (h.at c) })

  says_hands : (l : Luck) → Hands l (Says n) (SaysTaken n)
  says_hands l = record { begins = begins_taken; takes_one = says_taken; hands = says_handed l }

  saying_steps : (l : Luck) → Steps l (Says n)
  saying_steps l = steps l (Says n) (SaysTaken n) (says_hands l) (record {
    moves = λ s t u h. says_less s t (λ c. less_same c s.loop t u.sessions u.askers) h;
    calms = λ s h. says_less s (calm l s).loop (λ c. less_settle c (drop (length s.loop.lost) l.marks) s.loop) h;
    downs = λ q s h. enter_holds l (Says n) (SaysTaken n) (says_hands l) [] (input.Down q) s h;
    leaves_one = λ d s h. says_less s (left_by d s.loop) (λ c. less_left c d s.loop) h;
  })

  -- a client is told what is of no command
  says_told : (e : ℕ) (what : Said) (s : State) → Says n s → Says n (tells e what s)
  says_told e what s h = record {
    node = said_node s fs h.node;
    at = λ c. (let tr = tracks_nobody c e what s.loop in record {
      shut = tr.shut (h.at c).shut;
      said = λ is none.
          (let was : is_open c s.loop ≡ true = sym (open_queues c s.loop fs t tr.queues) ∙ is in
          let k = (h.at c).said was (λ q m x. none q m (kind_queues c s.loop fs t tr.queues ∙ x)) in
          said_at c s fs t (nothing_comes c) tr was k.replies k.frames (λ key some. (due_in c key n s.deeds, (k.due key some).0, (k.due key some).1, refl)));
    });
  }
    where
      fs : List Frame
      fs = (e, client_frame (no_command what)) ∷ []

      t : Loop
      t = told e (no_command what) s.loop

  -- ---- what else happens at a connection

  -- a session changes, but not who waits; and nothing is said or due for it
  at_changed : (c e : ℕ) (g : Session → Session) (s t : State) → t.loop.sessions ≡ changed g e s.loop.sessions → t.loop.askers ≡ s.loop.askers → frames_for c t.deeds ≡ frames_for c s.deeds
      → ((key : Key) → due_in c key n t.deeds ≡ due_in c key n s.deeds) → (c ≡ e → NoPeers c t.loop → NoPeers c s.loop) → At n c s → At n c t
  at_changed c e g s t sessions askers frames due kinds h = record {
    shut = λ none k. waits k ∙ h.shut (sym opens ∙ none) k;
    said = λ is none.
        (let k = h.said (sym opens ∙ is) (alone none) in record {
          replies = k.replies;
          frames = frames ∙ k.frames;
          due = λ key some.
              (let w = (k.due key some).0 in
              (subst (λ z. Waits c t.loop key z) (sym (due key)) (waits (false, key) ∙ w.0, waits (true, key) ∙ w.1), (k.due key some).1 ∙ ap (λ (z : Due). z.told) (sym (due key))));
        });
  }
    where
      waits : (k : Awaited) → is_conn c (map.get t.loop.askers k) ≡ is_conn c (map.get s.loop.askers k)
      waits k = ap (λ a. is_conn c (map.get a k)) askers

      some_same : (o : Option Session) → is_some (option_map g o) ≡ is_some o
      some_same None = refl
      some_same (Some y) = refl

      opens : is_open c t.loop ≡ is_open c s.loop
      opens = ap (λ v. is_some (find c v)) sessions ∙ elim (cases_eq e c) [
        | inl own ↦ ap (λ z. is_some (find c (changed g z s.loop.sessions))) own ∙ ap is_some (found_own g c s.loop.sessions) ∙ some_same (find c s.loop.sessions)
        | inr apart ↦ ap is_some (found_other g c e s.loop.sessions apart)
      ]

      alone : NoPeers c t.loop → NoPeers c s.loop
      alone none = elim (cases_eq c e) [
        | inl own ↦ kinds own none
        | inr apart ↦ (λ q m x. none q m (ap (λ v. option_map (λ (y : Session). y.kind) (find c v)) sessions ∙ ap (option_map (λ (y : Session). y.kind)) (found_other g c e s.loop.sessions (λ k. apart (sym k))) ∙ x))
      ]

  -- a kind that stays
  kept_kind : (c : ℕ) (g : Session → Session) (s t : State) → t.loop.sessions ≡ changed g c s.loop.sessions → ((y : Session) (q m : ℕ) → find c s.loop.sessions ≡ Some y → y.kind ≡ Peer q m → (q2 m2 : ℕ) × ((g y).kind ≡ Peer q2 m2))
      → NoPeers c t.loop → NoPeers c s.loop
  kept_kind c g s t sessions keeps none q m x = by_session (find c s.loop.sessions) refl x
    where
      by_session : (o : Option Session) → find c s.loop.sessions ≡ o → option_map (λ (y : Session). y.kind) o ≡ Some (Peer q m) → ⊥
      by_session None there e = absurd cc
      by_session (Some y) there e =
          let was : y.kind ≡ Peer q m = cc in
          let k = keeps y q m there was in
          none k.0 k.1 (ap (λ v. option_map (λ (z : Session). z.kind) (find c v)) sessions ∙ ap (option_map (λ (z : Session). z.kind)) (found_own g c s.loop.sessions ∙ ap (option_map g) there) ∙ ap (λ (z : Kind). Some z) k.2)

  says_changed : (e : ℕ) (g : Session → Session) (s t : State) → t.loop.sessions ≡ changed g e s.loop.sessions → t.loop.askers ≡ s.loop.askers → ((c : ℕ) → frames_for c t.deeds ≡ frames_for c s.deeds)
      → ((c : ℕ) (key : Key) → due_in c key n t.deeds ≡ due_in c key n s.deeds) → t.node ≡ s.node → folded n t.deeds ≡ folded n s.deeds → (NoPeers e t.loop → NoPeers e s.loop) → Says n s → Says n t
  says_changed e g s t sessions askers frames due node nodes kinds h = record {
    node = node ∙ h.node ∙ sym nodes;
    at = λ c. at_changed c e g s t sessions askers (frames c) (due c) (λ own. subst (λ z. NoPeers z t.loop → NoPeers z s.loop) (sym own) kinds) (h.at c);
  }

  says_fed : (e : ℕ) (bytes : List ℕ) (s : State) → Says n s → Says n (noting (hears e bytes) (record s { loop = feeds e bytes s.loop }))
  says_fed e bytes s h =
      let t : State = noting (hears e bytes) (record s { loop = feeds e bytes s.loop }) in
      says_changed e (feeding bytes) s t refl refl (λ c. frames_more c s.deeds (hears e bytes ∷ [])) (λ c key. due_push c key n s.deeds (hears e bytes)) refl (folded_both n s.deeds (hears e bytes ∷ []))
      (kept_kind e (feeding bytes) s t refl (λ y q m there k. (q, m, k))) h

  says_held : (e : ℕ) (kind : Kind) (x : _) (s : State) (y : Session) → find e s.loop.sessions ≡ Some y → (kind ≡ y.kind) ⊎ (NoPeer kind × NoPeer y.kind) → Says n s → Says n (holding e kind x s)
  says_held e kind x s y there either h = says_changed e (of_kind kind x) s (holding e kind x s) refl refl (λ c. refl) (λ c key. refl) refl refl
      (kept_kind e (of_kind kind x) s (holding e kind x s) refl (λ z q m found k. keeps z q m (sym there ∙ found) k either)) h
    where
      keeps : (z : Session) (q m : ℕ) → Some y ≡ Some z → z.kind ≡ Peer q m → (kind ≡ y.kind) ⊎ (NoPeer kind × NoPeer y.kind) → (q2 m2 : ℕ) × (kind ≡ Peer q2 m2)
      keeps z q m same k (inl e) = let own : y ≡ z = cc in (q, m, e ∙ ap (λ (v : Session). v.kind) own ∙ k)
      keeps z q m same k (inr none) = let own : y ≡ z = cc in absurd (subst NoPeer (ap (λ (v : Session). v.kind) own ∙ k) none.1)

  says_linked : (q e : ℕ) (s : State) → Says n s → Says n (linked q e s)
  says_linked q e s h = says_changed e (λ (x : Session). record x { kind = Peer q 0 }) s (linked q e s) refl refl (λ c. refl) (λ c key. refl) refl refl
      (kept_kind e (λ (x : Session). record x { kind = Peer q 0 }) s (linked q e s) refl (λ y p m there k. (q, 0, refl))) h

  says_hearing : (l : Luck) (e : ℕ) → Hearing l e (Says n)
  says_hearing l e = record {
    led = record {
      steps = saying_steps l;
      gathers_one = λ x s h. says_less s (gathering e x s).loop (λ c. less_same c s.loop (gathering e x s).loop refl refl) h;
      brings_one = λ m s h. says_less s (bringing e m s).loop (λ c. less_same c s.loop (bringing e m s).loop refl refl) h;
      says_one = λ what s h. says_told e what s h;
    };
    feeds_one = λ bytes s h. says_fed e bytes s h;
    holds_one = λ kind x s y there either h. says_held e kind x s y there either h;
    links_one = λ q s none h. says_linked q e s h;
  }

  -- ---- connections that begin, and bytes that are taken

  says_joined : (l : Luck) (e : ℕ) (kind : Kind) (s : State) → is_open e s.loop ≡ false → Says n s → Says n (joined l e kind s)
  says_joined l e kind s none h = says_less t (settle (drop (length t.loop.lost) l.marks) t.loop) (λ c. less_settle c (drop (length t.loop.lost) l.marks) t.loop)
      (record { node = h.node ∙ sym (folded_both n s.deeds (begins e greeting ∷ [])); at = at })
    where
      greeting : List ℕ
      greeting = first_bytes kind s.loop.me

      t : State
      t = noting (begins e greeting) (record s { loop = joining e kind s.loop })

      framed : (c : ℕ) → frames_for c t.deeds ≡ (if e == c then [] else frames_for c s.deeds)
      framed c = frames_more c s.deeds (begins e greeting ∷ [])

      is_due : (c : ℕ) (key : Key) → due_in c key n t.deeds ≡ (if e == c then nothing_due else due_in c key n s.deeds)
      is_due c key = due_push c key n s.deeds (begins e greeting)

      own_open : (c : ℕ) → e ≡ c → is_open c t.loop ≡ true
      own_open c same = ap (λ z. is_some (find z t.loop.sessions)) (sym same) ∙ ap is_some (find_insert e (made_session kind s.loop.me) s.loop.sessions)

      found_other_one : (c : ℕ) → (e ≡ c → ⊥) → find c t.loop.sessions ≡ find c s.loop.sessions
      found_other_one c apart = find_insert_apart e c (made_session kind s.loop.me) s.loop.sessions apart

      at : (c : ℕ) → At n c t
      at c = elim (cases_eq e c) [
        | inl same ↦ (let on : (e == c) ≡ true = eq-eqb e c same in
            let quiet : (k : Awaited) → is_conn c (map.get s.loop.askers k) ≡ false = (h.at c).shut (ap (λ z. is_open z s.loop) (sym same) ∙ none) in record {
              shut = λ shut k. absurd (let bad : true ≡ false = sym (own_open c same) ∙ shut in cc);
              said = λ is alone. record {
                replies = [];
                frames = framed c ∙ ap (λ b. if b then [] else frames_for c s.deeds) on;
                due = λ key some.
                    (let same_due : due_in c key n t.deeds ≡ nothing_due = is_due c key ∙ ap (λ b. if b then nothing_due else due_in c key n s.deeds) on in (
                      subst (λ z. Waits c t.loop key z) (sym same_due) (quiet (false, key), quiet (true, key)),
                      ap (λ (z : Due). z.told) (sym same_due),
                    ));
              };
            })
        | inr apart ↦ (let off : (e == c) ≡ false = ne_eqb e c apart in
            let same : find c t.loop.sessions ≡ find c s.loop.sessions = found_other_one c apart in record {
              shut = λ shut k. (h.at c).shut (ap is_some (sym same) ∙ shut) k;
              said = λ is alone.
                  (let k = (h.at c).said (ap is_some (sym same) ∙ is) (λ q m x. alone q m (ap (option_map (λ (y : Session). y.kind)) same ∙ x)) in record {
                    replies = k.replies;
                    frames = framed c ∙ ap (λ b. if b then [] else frames_for c s.deeds) off ∙ k.frames;
                    due = λ key some.
                        (let same_due : due_in c key n t.deeds ≡ due_in c key n s.deeds = is_due c key ∙ ap (λ b. if b then nothing_due else due_in c key n s.deeds) off in (
                          subst (λ z. Waits c t.loop key z) (sym same_due) (k.due key some).0,
                          (k.due key some).1 ∙ ap (λ (z : Due). z.told) (sym same_due),
                        ));
                  });
            })
      ]

  says_if_shut : (l : Luck) (e : ℕ) (kind : Kind) (s : State) → Says n s → (b : Bool) → is_open e s.loop ≡ b → Says n (if b then s else joined l e kind s)
  says_if_shut l e kind s h true is = h
  says_if_shut l e kind s h false is = says_joined l e kind s is h

  less_hello : (m q k : ℕ) (kind : Kind) → kind ≡ Peer q k → hello_less m kind ≡ Peer q (k - m)
  less_hello m q k kind e = ap (hello_less m) e

  says_took : (e m : ℕ) (s : State) → Says n s → Says n (taken_by e m s)
  says_took e m s h =
      let d : Deed = takes e (take m (waiting e s)) in
      says_changed e (without_bytes m) s (taken_by e m s) refl refl (λ c. frames_more c s.deeds (d ∷ [])) (λ c key. due_push c key n s.deeds d) refl (folded_both n s.deeds (d ∷ []))
      (kept_kind e (without_bytes m) s (taken_by e m s) refl (λ y q k there was. (q, k - m, less_hello m q k y.kind was))) h

  says_up : (l : Luck) (o : Option ℕ) (s : State) → Says n s → Says n (up_at l o s)
  says_up l None s h = h
  says_up l (Some q) s h = give_holds l (Says n) (saying_steps l) [] (input.Up q) s h

  says_closed : (l : Luck) (line : Standing → List ℕ) → Closed l line (Says n)
  says_closed l line = record {
    moves = λ s t m h. says_less s t (λ c. less_same c s.loop t m.sessions m.askers) h;
    accepts = λ e s few h. says_if_shut l e Unknown s h (is_open e s.loop) refl;
    dials_one = λ q e s few none h. says_if_shut l e (Peer q hello_len) s h (is_open e s.loop) refl;
    ticks = λ s h. give_holds l (Says n) (saying_steps l) [] input.Tick s h;
    trims = λ s h. give_holds l (Says n) (saying_steps l) [] input.TrimNow s h;
    ends = λ e s h. over_holds l (Says n) (saying_steps l) e s h;
    flushes = λ s h. flushed_holds l (Says n) (saying_steps l) s h;
    has_bytes = λ e bytes s each h. read_holds l line e (Says n) (says_hearing l e) (replaced_none l) bytes s h;
    took_some = λ e m s le h. says_up l (up_peer (kind_at e s.loop) (kind_at e (taken_by e m s).loop)) (taken_by e m s) (says_took e m s h);
  }

-- ---- a run

nobody_said : (s : State) → Begins s → Says s.node s
nobody_said s b = record {
  node = ap (folded s.node) (sym b.deeds);
  at = λ c. record {
    shut = λ none k. ap (λ a. is_conn c (map.get a k)) b.askers ∙ ap (is_conn c) (map.get-empty awaited_cmp k);
    said = λ is none. absurd (let bad : false ≡ true = ap (λ v. is_some (find c v)) (sym b.sessions) ∙ is in cc);
  };
}

pub clients_told : (o : Settings) (l : Luck) (line : Standing → List ℕ) (given : List Answer) (p : Pump) → Begins p.driver → Answers o l line given p → ClientsAreTold p.driver.node (after o l line given p).driver
clients_told o l line given p b is c client =
    let n : Standing = p.driver.node in
    let t : State = (after o l line given p).driver in
    let g : Goes o l line (Says n) (says_closed n l line) p = record { holds = nobody_said p.driver b; runs = inr (rw b.lost (omega arith)) } in
    let h : At n c t = (run_kept o l line (Says n) (says_closed n l line) given p is g).holds.at c in
    let k : SaidAt n c t = h.said (open_client (find c t.loop.sessions) client) (λ q m e. (let bad : Some Client ≡ Some (Peer q m) = sym client ∙ e in cc)) in
    record { replies = k.replies; frames = k.frames; due = λ key some. (k.due key some).1 }
  where
    open_client : (o : Option Session) → option_map (λ (x : Session). x.kind) o ≡ Some Client → is_some o ≡ true
    open_client None e = absurd cc
    open_client (Some y) e = refl
