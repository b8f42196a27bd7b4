-- What is handed out tells a connection that is no peer's what is due at it.
use Rattle.std.proofs.Common.{◌≡◌, ◌≤◌, ◌++◌, ◌∷◌, [], ℕ, zero, suc, Bool, T, true, false, List, map as each, Option, Some, None, option_map, is_some, cond, ◌==◌, ◌&&◌, if◌then◌else◌, refl, sym, ◌∙◌, ap, ap₂, subst, inl, inr, arith, append_assoc}
use Rattle.std.specs.Prelude.{fold}
use Rattle.std.specs.FinMap as map
use Rattle.std.specs.FinMap.Entries.{below_all}
use Rattle.std.specs.BTreeMap.{is_at}
use Rattle.std.specs.Ordering.{is_lt, is_eq}
use Rattle.std.specs.declared.cmp.Ordering.{Ordering}
use Rattle.std.specs.declared.cmp.Ordering.TheVariants.{Less, Equal, Greater}
use Rattle.std.proofs.lemmas.Bool.{cases_Bool, cases_eq, ne_eqb}
use Rattle.std.proofs.lemmas.List.{append-nil, map-append}
use Rattle.op_types.specs.declared.answers.Outcome.{Outcome}
use Rattle.op_types.specs.declared.answers.Outcome.TheVariants.{Refused, Asked}
use Rattle.op_types.specs.declared.answers.Refusal.{Refusal}
use Rattle.op_types.specs.declared.answers.Refusal.TheVariants.{StorageFailed}
use Rattle.op_types.specs.declared.answers.Reply.{Reply}
use Rattle.op_types.specs.declared.events.Input.{Input}
use Rattle.op_types.specs.declared.given.Given.{Given}
use Rattle.op_types.specs.declared.messages.Msg.{Msg}
use Rattle.op_command.specs.Replies.{said_of}
use Rattle.op_command.specs.declared.reply.ClientReply.{ClientReply}
use Rattle.op_command.specs.declared.said.Said.{Said}
use Rattle.op_command.specs.declared.said.Said.TheVariants as said
use Rattle.op_serving.specs.declared.kind.Kind.{Kind}
use Rattle.op_serving.specs.declared.kind.Kind.TheVariants.{Unknown, Peer, Client}
use Rattle.op_serving.specs.declared.session.Session.{Session}
use Rattle.op_serving.specs.declared.wanted.Wanted.{Wanted}
use Rattle.op_serving.specs.declared.wanted.Wanted.TheVariants.{Commands, Stop, Trim, Read}
use Rattle.op_serving.specs.Cores.{Standing, gives, given_again}
use Rattle.op_serving.specs.Fates.{Fate, done, finds, faults, shares, damaged, lost}
use Rattle.op_serving.specs.Handing.{frame_at, said_at, goes_to, made_way, sent_if, sent_at, sent, sent_all, frames_behind, frames_sent_if, frames_sent_at, frames_sent, forgotten, answered, replied, replied_all, frames_replied, handed_out, frames_handed, Told, of_command, no_command, said_each, told, told_all, frames_told, asked_by_one, asked, proposed, frames_proposed, excused, frames_excused, given_up, frames_given_up}
use Rattle.op_serving.specs.Inputs.{Taken, loop_after, frames_after, loop_after_all, frames_after_all}
use Rattle.op_serving.specs.Room.{Frame, has_room, count_at, goes_ahead, kept, placed, frames_placed, frame_of, first_moved, moved_in, moved, frames_moved_in, frames_moved, begins_anew, cleared, is_excess}
use Rattle.op_serving.specs.State.{Key, Awaited, Askers, Loop, awaited_cmp, find, is_conn, is_open, kind_at, if_its, open_of, session_of}
use Rattle.op_serving.specs.Wire.{fits_peer, peer_frame, client_frame}
use Rattle.op_serving.proofs.KeyOrder.{key_exact, key_total}
use Rattle.op_connections.specs.Telling.{is_key, Due, told_also, answer_if, after_reply, after_read_reply, after_given, told_each, waits_each, after_commands, after_read, failure_if, after_failure, about}
use Rattle.op_connections.proofs.Queueing.{bytes_for, queued, Queues, queues_none, queues_then, queues_one, queues_sent_at, queues_reply, queues_given_up}
use Rattle.op_connections.proofs.Waiting.{only_for}

-- ---- frames and replies

abbrev pub texts : List ClientReply → List (List ℕ)
texts xs = each (λ x. client_frame x) xs

pub only_both : (c : ℕ) (fs gs : List Frame) → only_for c (fs ++ gs) ≡ only_for c fs ++ only_for c gs
only_both c [] gs = refl
only_both c (f ∷ fs) gs = ap (λ l. (if f.0 == c then f.1 ∷ [] else []) ++ l) (only_both c fs gs) ∙ sym (append_assoc (if f.0 == c then f.1 ∷ [] else []) (only_for c fs) (only_for c gs))

pub about_both : (key : Key) (xs ys : List ClientReply) → about key (xs ++ ys) ≡ about key xs ++ about key ys
about_both key [] ys = refl
about_both key (x ∷ xs) ys =
    let own : List Said = if is_key key (x.client, x.seq) then x.said ∷ [] else [] in
    ap (λ l. own ++ l) (about_both key xs ys) ∙ sym (append_assoc own (about key xs) (about key ys))

-- nothing is said of nobody
not_nobody : (key : Key) → 1 ≤ key.0 → is_key key (0, 0) ≡ false
not_nobody key some = elim (cases_Bool (is_key key (0, 0))) [
  | inl is ↦ absurd (let same : key ≡ (0, 0) = ap (λ (a : Awaited). a.1) (key_exact (true, key) (true, (0, 0)) (tied (awaited_cmp (true, key) (true, (0, 0))) is)) in let none = ap (λ (k : Key). k.0) same in omega (arith, none, some))
  | inr is ↦ is
]
  where
    tied : (o : Ordering) → is_eq o ≡ true → o ≡ Equal
    tied Less e = absurd cc
    tied Equal e = refl
    tied Greater e = absurd cc

pub tied_key : (read : Bool) (key k : Key) → is_key key k ≡ true → k ≡ key
tied_key read key k is = ap (λ (a : Awaited). a.1) (sym (key_exact (true, key) (true, k) (tied (awaited_cmp (true, key) (true, k)) is)))
  where
    tied : (o : Ordering) → is_eq o ≡ true → o ≡ Equal
    tied Less e = absurd cc
    tied Equal e = refl
    tied Greater e = absurd cc

-- ---- one connection

module _ (c : ℕ) where
  -- it waits for the answers that are due
  abbrev pub Waits : Loop → Key → Due → Type 0
  Waits s key d = (is_conn c (map.get s.askers (false, key)) ≡ d.command) × (is_conn c (map.get s.askers (true, key)) ≡ d.read)

  -- of one without a session nobody waits
  abbrev pub ShutQuiet : Loop → Type 0
  ShutQuiet s = is_open c s ≡ false → (k : Awaited) → is_conn c (map.get s.askers k) ≡ false

  pub open_queues : (s : Loop) (fs : List Frame) (t : Loop) → Queues c s fs t → is_open c t ≡ is_open c s
  open_queues s fs t q = ap is_some q.found ∙ by_session (find c s.sessions) (bytes_for c fs)
    where
      by_session : (o : Option Session) → (b : List ℕ) → is_some (queued b o) ≡ is_some o
      by_session None b = refl
      by_session (Some y) b = refl

  pub kind_queues : (s : Loop) (fs : List Frame) (t : Loop) → Queues c s fs t → kind_at c t ≡ kind_at c s
  kind_queues s fs t q = ap (option_map (λ (x : Session). x.kind)) q.found ∙ by_session (find c s.sessions) (bytes_for c fs)
    where
      by_session : (o : Option Session) → (b : List ℕ) → option_map (λ (x : Session). x.kind) (queued b o) ≡ option_map (λ (x : Session). x.kind) o
      by_session None b = refl
      by_session (Some y) b = refl

  -- These frames are handed out. For this connection they are replies that say what comes to be due.
  pub record Tracks (s : Loop) (fs : List Frame) (t : Loop) (f : Key → Due → Due) : Type 0 where
    pub replies : List ClientReply
    pub frames : only_for c fs ≡ texts replies
    pub queues : Queues c s fs t
    pub told : is_open c s ≡ true → (key : Key) → 1 ≤ key.0 → (d : Due) → Waits s key d → Waits t key (f key d) × ((f key d).told ≡ d.told ++ about key replies)
    pub shut : ShutQuiet s → ShutQuiet t

  pub tracks_then : (s m t : Loop) (fs gs : List Frame) (f g : Key → Due → Due) → Tracks s fs m f → Tracks m gs t g → Tracks s (fs ++ gs) t (λ key d. g key (f key d))
  tracks_then s m t fs gs f g a b = record {
    replies = a.replies ++ b.replies;
    frames = only_both c fs gs ∙ ap₂ (λ x y. x ++ y) a.frames b.frames ∙ sym (map-append (λ x. client_frame x) a.replies b.replies);
    queues = queues_then c s m t fs gs a.queues b.queues;
    told = λ is key some d w.
        (let x = a.told is key some d w in
        let y = b.told (open_queues s fs m a.queues ∙ is) key some (f key d) x.0 in
        (y.0, y.1 ∙ ap (λ l. l ++ about key b.replies) x.1 ∙ append_assoc d.told (about key a.replies) (about key b.replies) ∙ ap (λ l. d.told ++ l) (sym (about_both key a.replies b.replies))));
    shut = λ h. b.shut (a.shut h);
  }

  pub tracks_as : (s : Loop) (fs : List Frame) (t : Loop) (f g : Key → Due → Due) → ((key : Key) → 1 ≤ key.0 → (d : Due) → f key d ≡ g key d) → Tracks s fs t f → Tracks s fs t g
  tracks_as s fs t f g same a = record {
    replies = a.replies;
    frames = a.frames;
    queues = a.queues;
    told = λ is key some d w. subst (λ (e : Due). Waits t key e × (e.told ≡ d.told ++ about key a.replies)) (same key some d) (a.told is key some d w);
    shut = a.shut;
  }

  abbrev pub nothing_comes : Key → Due → Due
  nothing_comes key d = d

  -- nothing is said, and the askers stay
  tracks_quiet : (s t : Loop) (fs : List Frame) → Queues c s fs t → only_for c fs ≡ [] → t.askers ≡ s.askers → Tracks s fs t nothing_comes
  tracks_quiet s t fs q none askers = record {
    replies = [];
    frames = none;
    queues = q;
    told = λ is key some d w. (
      (ap (λ a. is_conn c (map.get a (false, key))) askers ∙ w.0, ap (λ a. is_conn c (map.get a (true, key))) askers ∙ w.1),
      sym (append-nil d.told),
    );
    shut = λ h none_open k. ap (λ a. is_conn c (map.get a k)) askers ∙ h (sym (open_queues s fs t q) ∙ none_open) k;
  }

  tracks_none : (s : Loop) → Tracks s [] s nothing_comes
  tracks_none s = tracks_quiet s s [] (queues_none c s s refl refl refl refl refl refl refl) refl refl

  -- ---- what is told

  -- a client is told this
  abbrev told_one : ℕ × ClientReply → Key → Due → Due
  told_one r key d = if is_key key (r.1.client, r.1.seq) && (r.0 == c) then told_also (r.1.said ∷ []) d else d

  abbrev told_due : List Told → Key → Due → Due
  told_due [] key d = d
  told_due (r ∷ rs) key d = told_due rs key (told_one r key d)

  tracks_one : (r : ℕ × ClientReply) (s : Loop) → Tracks s ((r.0, client_frame r.1) ∷ []) (told r.0 r.1 s) (told_one r)
  tracks_one r s = record {
    replies = if r.0 == c then r.1 ∷ [] else [];
    frames = by_conn (r.0 == c);
    queues = queues_one c r.0 (client_frame r.1) s;
    told = λ is key some d w. by_key key d w (is_key key (r.1.client, r.1.seq)) refl (r.0 == c);
    shut = λ h none_open k. h (sym (open_queues s ((r.0, client_frame r.1) ∷ []) (told r.0 r.1 s) (queues_one c r.0 (client_frame r.1) s)) ∙ none_open) k;
  }
    where
      by_conn : (b : Bool) → (if b then client_frame r.1 ∷ [] else []) ++ [] ≡ texts (if b then r.1 ∷ [] else [])
      by_conn true = refl
      by_conn false = refl

      -- of this key, at this connection
      by_key : (key : Key) (d : Due) → Waits s key d → (k : Bool) → is_key key (r.1.client, r.1.seq) ≡ k → (b : Bool)
          → let e : Due = if k && b then told_also (r.1.said ∷ []) d else d in Waits s key e × (e.told ≡ d.told ++ about key (if b then r.1 ∷ [] else []))
      by_key key d w true h true = (w, ap (λ z. d.told ++ ((if z then r.1.said ∷ [] else []) ++ [])) (sym h))
      by_key key d w true h false = (w, sym (append-nil d.told))
      by_key key d w false h true = (w, sym (append-nil d.told) ∙ ap (λ z. d.told ++ ((if z then r.1.said ∷ [] else []) ++ [])) (sym h))
      by_key key d w false h false = (w, sym (append-nil d.told))

  tracks_told : (rs : List Told) (s : Loop) → Tracks s (frames_told rs) (told_all rs s) (told_due rs)
  tracks_told [] s = tracks_none s
  tracks_told (r ∷ rs) s = tracks_then s (told r.0 r.1 s) (told_all rs (told r.0 r.1 s)) ((r.0, client_frame r.1) ∷ []) (frames_told rs) (told_one r) (told_due rs) (tracks_one r s) (tracks_told rs (told r.0 r.1 s))

  told_each_is : (keys : List (ℕ × Key)) (what : Said) (key : Key) (d : Due) → told_due (said_each keys what) key d ≡ told_each c key what d keys
  told_each_is [] what key d = refl
  told_each_is (p ∷ ps) what key d = told_each_is ps what key (if is_key key p.1 && (p.0 == c) then told_also (what ∷ []) d else d)

  -- what is said of nobody
  told_nobody : (e : ℕ) (what : Said) (key : Key) → 1 ≤ key.0 → (d : Due) → told_due ((e, no_command what) ∷ []) key d ≡ d
  told_nobody e what key some d = ap (λ b. if b && (e == c) then told_also (what ∷ []) d else d) (not_nobody key some)

  -- ---- what is asked for

  -- who asked for something last
  found_asked : (read : Bool) (p : ℕ × Key) (s : Loop) (k : Awaited) → map.get (asked_by_one read p s).askers k ≡ cond (is_at (awaited_cmp k) (read, p.1)) (if is_open p.0 s then Some p.0 else None) (map.get s.askers k)
  found_asked read p s k = by_open (is_open p.0 s)
    where
      by_open : (b : Bool) → map.get (if b then map.insert s.askers (read, p.1) p.0 else map.remove s.askers (read, p.1)) k ≡ cond (is_at (awaited_cmp k) (read, p.1)) (if b then Some p.0 else None) (map.get s.askers k)
      by_open true = map.get-insert key_total s.askers (read, p.1) p.0 k
      by_open false = map.get-remove key_total s.askers (read, p.1) k

  -- this one did, where it is open
  is_asked : (e : ℕ) (s : Loop) → is_open c s ≡ true → is_conn c (if is_open e s then Some e else None) ≡ (e == c)
  is_asked e s is = by_open (is_open e s) refl
    where
      by_open : (b : Bool) → is_open e s ≡ b → is_conn c (if b then Some e else None) ≡ (e == c)
      by_open true h = refl
      by_open false h = elim (cases_eq e c) [
        | inl same ↦ absurd (let bad : true ≡ false = sym (subst (λ z. is_open z s ≡ true) (sym same) is) ∙ h in cc)
        | inr apart ↦ sym (ne_eqb e c apart)
      ]

  -- no other connection that is shut is it
  not_asked : (e : ℕ) (s : Loop) → is_open c s ≡ false → is_conn c (if is_open e s then Some e else None) ≡ false
  not_asked e s none = by_open (is_open e s) refl
    where
      by_open : (b : Bool) → is_open e s ≡ b → is_conn c (if b then Some e else None) ≡ false
      by_open true h = ne_eqb e c (λ same. (let bad : true ≡ false = sym h ∙ ap (λ z. is_open z s) same ∙ none in cc))
      by_open false h = refl

  conn_if : (b : Bool) (x y : Option ℕ) (r : Bool) → is_conn c x ≡ r → is_conn c y ≡ r → is_conn c (cond b x y) ≡ r
  conn_if true x y r e f = e
  conn_if false x y r e f = f

  shut_asked : (read : Bool) (p : ℕ × Key) (s : Loop) → ShutQuiet s → ShutQuiet (asked_by_one read p s)
  shut_asked read p s h none k = ap (is_conn c) (found_asked read p s k) ∙ conn_if (is_at (awaited_cmp k) (read, p.1)) (if is_open p.0 s then Some p.0 else None) (map.get s.askers k) false (not_asked p.0 s none) (h none k)

  abbrev waits_one : ℕ × Key → Key → Due → Due
  waits_one p key d = if is_key key p.1 then record d { command = p.0 == c } else d

  abbrev read_one : ℕ × Key → Key → Due → Due
  read_one p key d = if is_key key p.1 then record d { read = p.0 == c } else d

  tracks_asked_one : (p : ℕ × Key) (s : Loop) → Tracks s [] (asked_by_one false p s) (waits_one p)
  tracks_asked_one p s = record {
    replies = [];
    frames = refl;
    queues = queues_none c s (asked_by_one false p s) refl refl refl refl refl refl refl;
    told = λ is key some d w. (
      (ap (is_conn c) (found_asked false p s (false, key)) ∙ by_key key d w.0 is (is_key key p.1), ap (is_conn c) (found_asked false p s (true, key)) ∙ w.1 ∙ same_read key d (is_key key p.1)),
      same_told key d (is_key key p.1) ∙ sym (append-nil d.told),
    );
    shut = shut_asked false p s;
  }
    where
      by_key : (key : Key) (d : Due) → is_conn c (map.get s.askers (false, key)) ≡ d.command → is_open c s ≡ true → (b : Bool)
          → is_conn c (cond b (if is_open p.0 s then Some p.0 else None) (map.get s.askers (false, key))) ≡ (let e : Due = if b then record d { command = p.0 == c } else d in e.command)
      by_key key d w is true = is_asked p.0 s is
      by_key key d w is false = w

      same_read : (key : Key) (d : Due) (b : Bool) → d.read ≡ (let e : Due = if b then record d { command = p.0 == c } else d in e.read)
      same_read key d true = refl
      same_read key d false = refl

      same_told : (key : Key) (d : Due) (b : Bool) → (let e : Due = if b then record d { command = p.0 == c } else d in e.told) ≡ d.told
      same_told key d true = refl
      same_told key d false = refl

  tracks_read_one : (p : ℕ × Key) (s : Loop) → Tracks s [] (asked_by_one true p s) (read_one p)
  tracks_read_one p s = record {
    replies = [];
    frames = refl;
    queues = queues_none c s (asked_by_one true p s) refl refl refl refl refl refl refl;
    told = λ is key some d w. (
      (ap (is_conn c) (found_asked true p s (false, key)) ∙ w.0 ∙ same_command key d (is_key key p.1), ap (is_conn c) (found_asked true p s (true, key)) ∙ by_key key d w.1 is (is_key key p.1)),
      same_told key d (is_key key p.1) ∙ sym (append-nil d.told),
    );
    shut = shut_asked true p s;
  }
    where
      by_key : (key : Key) (d : Due) → is_conn c (map.get s.askers (true, key)) ≡ d.read → is_open c s ≡ true → (b : Bool)
          → is_conn c (cond b (if is_open p.0 s then Some p.0 else None) (map.get s.askers (true, key))) ≡ (let e : Due = if b then record d { read = p.0 == c } else d in e.read)
      by_key key d w is true = is_asked p.0 s is
      by_key key d w is false = w

      same_command : (key : Key) (d : Due) (b : Bool) → d.command ≡ (let e : Due = if b then record d { read = p.0 == c } else d in e.command)
      same_command key d true = refl
      same_command key d false = refl

      same_told : (key : Key) (d : Due) (b : Bool) → (let e : Due = if b then record d { read = p.0 == c } else d in e.told) ≡ d.told
      same_told key d true = refl
      same_told key d false = refl

  tracks_asked : (ps : List (ℕ × Key)) (s : Loop) → Tracks s [] (asked false ps s) (λ key d. waits_each c key d ps)
  tracks_asked [] s = tracks_none s
  tracks_asked (p ∷ ps) s = tracks_then s (asked_by_one false p s) (asked false ps (asked_by_one false p s)) [] [] (waits_one p) (λ key d. waits_each c key d ps) (tracks_asked_one p s) (tracks_asked ps (asked_by_one false p s))

  -- what becomes of what was asked for
  abbrev pub asking_by : Option Wanted → Option Outcome → Key → Due → Due
  asking_by (Some (Commands keys)) o key d = after_commands c key keys o d
  asking_by (Some (Read e k)) o key d = after_read c key (e, k) o d
  asking_by w o key d = d

  pub tracks_nobody : (e : ℕ) (what : Said) (s : Loop) → Tracks s (frames_told ((e, no_command what) ∷ [])) (told_all ((e, no_command what) ∷ []) s) nothing_comes
  tracks_nobody e what s = tracks_as s (frames_told ((e, no_command what) ∷ [])) (told_all ((e, no_command what) ∷ []) s) (told_due ((e, no_command what) ∷ [])) nothing_comes (told_nobody e what) (tracks_told ((e, no_command what) ∷ []) s)

  tracks_each : (keys : List (ℕ × Key)) (what : Said) (s : Loop) → Tracks s (frames_told (said_each keys what)) (told_all (said_each keys what) s) (λ key d. told_each c key what d keys)
  tracks_each keys what s = tracks_as s (frames_told (said_each keys what)) (told_all (said_each keys what) s) (told_due (said_each keys what)) (λ key d. told_each c key what d keys)
      (λ key some d. told_each_is keys what key d) (tracks_told (said_each keys what) s)

  tracks_proposed : (w : Option Wanted) (o : Option Outcome) (s : Loop) → Tracks s (frames_proposed w o) (proposed w o s) (asking_by w o)
  tracks_proposed None o s = tracks_none s
  tracks_proposed (Some (Commands keys)) (Some (Refused why)) s = tracks_each keys (said.Outcome (Refused why)) s
  tracks_proposed (Some (Commands keys)) o s = tracks_asked keys s
  tracks_proposed (Some (Stop e)) None s = tracks_none s
  tracks_proposed (Some (Stop e)) (Some o) s = tracks_nobody e (said.Outcome o) s
  tracks_proposed (Some (Trim e)) None s = tracks_none s
  tracks_proposed (Some (Trim e)) (Some o) s = tracks_nobody e (said.Outcome o) s
  tracks_proposed (Some (Read e k)) None s = tracks_none s
  tracks_proposed (Some (Read e k)) (Some Asked) s = tracks_read_one (e, k) s
  tracks_proposed (Some (Read e k)) (Some o) s = tracks_each ((e, k) ∷ []) (said.Outcome o) s

  abbrev pub denial_by : Option Wanted → Option Refusal → Key → Due → Due
  denial_by (Some (Commands keys)) why key d = told_each c key (said_of why) d keys
  denial_by (Some (Read e k)) why key d = told_each c key (said_of why) d ((e, k) ∷ [])
  denial_by w why key d = d

  tracks_excused : (w : Option Wanted) (why : Option Refusal) (s : Loop) → Tracks s (frames_excused w why) (excused w why s) (denial_by w why)
  tracks_excused None why s = tracks_none s
  tracks_excused (Some (Commands keys)) why s = tracks_each keys (said_of why) s
  tracks_excused (Some (Stop e)) why s = tracks_nobody e (said_of why) s
  tracks_excused (Some (Trim e)) None s = tracks_none s
  tracks_excused (Some (Trim e)) (Some why) s = tracks_nobody e (said_of (Some why)) s
  tracks_excused (Some (Read e k)) why s = tracks_each ((e, k) ∷ []) (said_of why) s

  -- ---- what is handed out

  -- it is no peer's
  abbrev pub NoPeers : Loop → Type 0
  NoPeers s = (q h : ℕ) → kind_at c s ≡ Some (Peer q h) → ⊥

  pub no_peers_queues : (s : Loop) (fs : List Frame) (t : Loop) → Queues c s fs t → NoPeers s → NoPeers t
  no_peers_queues s fs t q none p h e = none p h (sym (kind_queues s fs t q) ∙ e)

  -- a peer's session is a peer's
  peers_session : (q : ℕ) (s : Loop) → session_of q s ≡ Some c → NoPeers s → ⊥
  peers_session q s e none = by_peer (find q s.peers) e
    where
      by_id : (d p h : ℕ) → kind_at d s ≡ Some (Peer p h) → (b : Bool) → (if b then Some d else None) ≡ Some c → ⊥
      by_id d p h k true f = let same : d ≡ c = cc in none p h (subst (λ z. kind_at z s ≡ Some (Peer p h)) same k)
      by_id d p h k false f = absurd cc

      by_kind : (d : ℕ) (k : Kind) → kind_at d s ≡ Some k → (elim k [ Unknown ↦ None | Peer p h ↦ if p == q then Some d else None | Client ↦ None ]) ≡ Some c → ⊥
      by_kind d Unknown k f = absurd cc
      by_kind d (Peer p h) k f = by_id d p h k (p == q) f
      by_kind d Client k f = absurd cc

      its : (d : ℕ) (o : Option Session) → find d s.sessions ≡ o → if_its q d o ≡ Some c → ⊥
      its d None there f = absurd cc
      its d (Some y) there f = by_kind d y.kind (ap (option_map (λ (x : Session). x.kind)) there) f

      by_peer : (o : Option (Option ℕ)) → open_of q o s.sessions ≡ Some c → ⊥
      by_peer None f = absurd cc
      by_peer (Some None) f = absurd cc
      by_peer (Some (Some d)) f = its d (find d s.sessions) refl f

  none_of : (d : ℕ) (o : Option (List ℕ)) → (d ≡ c → ⊥) → only_for c (frame_of d o) ≡ []
  none_of d None apart = refl
  none_of d (Some b) apart = ap (λ k. (if k then b ∷ [] else []) ++ []) (ne_eqb d c apart)

  none_placed : (b : Bool) (f : Frame) → (f.0 ≡ c → ⊥) → only_for c (frames_placed b f) ≡ []
  none_placed true f apart = none_of f.0 (Some f.1) apart
  none_placed false f apart = refl

  none_both : (fs gs : List Frame) → only_for c fs ≡ [] → only_for c gs ≡ [] → only_for c (fs ++ gs) ≡ []
  none_both fs gs a b = only_both c fs gs ∙ ap (λ r. r ++ only_for c gs) a ∙ b

  none_if : (b : Bool) (fs : List Frame) → only_for c fs ≡ [] → only_for c (if b then fs else []) ≡ []
  none_if true fs e = e
  none_if false fs e = refl

  none_moved_in : (k d : ℕ) (s : Loop) → (d ≡ c → ⊥) → only_for c (frames_moved_in k d s) ≡ []
  none_moved_in zero d s apart = refl
  none_moved_in (suc k) d s apart =
      let o : Option (List ℕ) = find d s.behind in
      let u : Loop = first_moved d o s in
      none_if (has_room (find d s.sessions)) (frame_of d o ++ frames_moved_in k d u) (none_both (frame_of d o) (frames_moved_in k d u) (none_of d o apart) (none_moved_in k d u apart))

  none_moved : (d : ℕ) (s : Loop) → (d ≡ c → ⊥) → only_for c (frames_moved d s) ≡ []
  unfolding frames_moved
  none_moved d s apart = none_moved_in (count_at d s.behind) d s apart

  none_sent_if : (b : Bool) (d : ℕ) (m : ℕ × Msg) (s : Loop) → (d ≡ c → ⊥) → only_for c (frames_sent_if b d m s) ≡ []
  none_sent_if true d m s apart = refl
  none_sent_if false d m s apart =
      let w : Loop = made_way d m.1 s in
      let t : Loop = moved d w in
      none_both (frames_moved d w) (frames_behind d m t) (none_moved d w apart)
      (none_placed (goes_ahead m.1 (find d t.sessions) (count_at d t.behind)) (d, peer_frame t.me m.0 m.1) apart)

  none_sent : (d : ℕ) (m : ℕ × Msg) (s : Loop) → (d ≡ c → ⊥) → only_for c (frames_sent_at (Some d) m s) ≡ []
  none_sent d m s apart = none_sent_if (is_excess m.1.body (count_at d s.behind)) d m s apart

  -- messages leave the askers
  askers_if : (b : Bool) (s t u : Loop) → s.askers ≡ u.askers → t.askers ≡ u.askers → (let v : Loop = if b then s else t in v.askers) ≡ u.askers
  askers_if true s t u e f = e
  askers_if false s t u e f = f

  askers_first : (d : ℕ) (o : Option (List ℕ)) (s : Loop) → (first_moved d o s).askers ≡ s.askers
  askers_first d None s = refl
  askers_first d (Some b) s = refl

  askers_moved_in : (k d : ℕ) (s : Loop) → (moved_in k d s).askers ≡ s.askers
  askers_moved_in zero d s = refl
  askers_moved_in (suc k) d s =
      let u : Loop = first_moved d (find d s.behind) s in
      askers_if (has_room (find d s.sessions)) (moved_in k d u) s s (askers_moved_in k d u ∙ askers_first d (find d s.behind) s) refl

  askers_moved : (d : ℕ) (s : Loop) → (moved d s).askers ≡ s.askers
  unfolding moved
  askers_moved d s = askers_moved_in (count_at d s.behind) d s

  askers_cleared : (b : Bool) (d : ℕ) (s : Loop) → (cleared b d s).askers ≡ s.askers
  askers_cleared true d s = refl
  askers_cleared false d s = refl

  askers_kept : (b : Bool) (f : Frame) (s : Loop) → (kept b f s).askers ≡ s.askers
  askers_kept true f s = refl
  askers_kept false f s = refl

  askers_placed : (b : Bool) (f : Frame) (s : Loop) → (placed b f s).askers ≡ s.askers
  askers_placed true f s = refl
  askers_placed false f s = askers_kept (is_open f.0 s) f s

  askers_sent_if : (b : Bool) (d : ℕ) (m : ℕ × Msg) (s : Loop) → (sent_if b d m s).askers ≡ s.askers
  askers_sent_if true d m s = refl
  askers_sent_if false d m s =
      let w : Loop = made_way d m.1 s in
      let t : Loop = moved d w in
      askers_placed (goes_ahead m.1 (find d t.sessions) (count_at d t.behind)) (d, peer_frame t.me m.0 m.1) t ∙ askers_moved d w ∙ askers_cleared (begins_anew m.1.body) d s

  askers_sent : (d : ℕ) (m : ℕ × Msg) (s : Loop) → (sent_at (Some d) m s).askers ≡ s.askers
  askers_sent d m s = askers_sent_if (is_excess m.1.body (count_at d s.behind)) d m s

  tracks_sent_at : (o : Option ℕ) (m : ℕ × Msg) (s : Loop) → (o ≡ Some c → ⊥) → Tracks s (frames_sent_at o m s) (sent_at o m s) nothing_comes
  tracks_sent_at None m s apart = tracks_none s
  tracks_sent_at (Some d) m s apart =
      tracks_quiet s (sent_at (Some d) m s) (frames_sent_at (Some d) m s) (queues_sent_at c (Some d) m s) (none_sent d m s (λ same. apart (ap (λ (z : ℕ). Some z) same))) (askers_sent d m s)

  sent_apart : (m : ℕ × Msg) (s : Loop) → NoPeers s → goes_to m s ≡ Some c → ⊥
  sent_apart m s none e = by_fit (fits_peer s.me m.0 m.1) e
    where
      by_fit : (b : Bool) → (if b then session_of m.0 s else None) ≡ Some c → ⊥
      by_fit true f = peers_session m.0 s f none
      by_fit false f = absurd cc

  tracks_sent : (ms : List (ℕ × Msg)) (s : Loop) → NoPeers s → Tracks s (frames_sent ms s) (sent_all ms s) nothing_comes
  tracks_sent [] s none = tracks_none s
  tracks_sent (m ∷ ms) s none =
      let one = tracks_sent_at (goes_to m s) m s (sent_apart m s none) in
      tracks_then s (sent m s) (sent_all ms (sent m s)) (frames_sent_at (goes_to m s) m s) (frames_sent ms (sent m s)) nothing_comes nothing_comes
      one (tracks_sent ms (sent m s) (no_peers_queues s (frames_sent_at (goes_to m s) m s) (sent m s) one.queues none))

  -- ---- answers

  found_forgotten : (a k : Awaited) (s : Loop) → map.get (forgotten a s).askers k ≡ cond (is_at (awaited_cmp k) a) None (map.get s.askers k)
  found_forgotten a k s = map.get-remove key_total s.askers a k

  askers_said : (o : Option ℕ) (b : List ℕ) (s : Loop) → (said_at o b s).askers ≡ s.askers
  askers_said None b s = refl
  askers_said (Some d) b s = refl

  frames_at : (o : Option ℕ) (r : Reply) → only_for c (frame_at o (client_frame (answered r))) ≡ texts (if is_conn c o then answered r ∷ [] else [])
  frames_at None r = refl
  frames_at (Some e) r = by_conn (e == c)
    where
      by_conn : (b : Bool) → (if b then client_frame (answered r) ∷ [] else []) ++ [] ≡ texts (if b then answered r ∷ [] else [])
      by_conn true = refl
      by_conn false = refl

  -- who asked for it is told, if this key is its
  answer_said : (key : Key) (r : Reply) (waits : Bool) → is_key key (r.client, r.seq) ≡ true → answer_if waits r ≡ about key (if waits then answered r ∷ [] else [])
  answer_said key r true is = ap (λ z. (if z then said.Answer r.answer ∷ [] else []) ++ []) (sym is)
  answer_said key r false is = refl

  answer_other : (key : Key) (r : Reply) (waits : Bool) → is_key key (r.client, r.seq) ≡ false → about key (if waits then answered r ∷ [] else []) ≡ []
  answer_other key r true is = ap (λ z. (if z then said.Answer r.answer ∷ [] else []) ++ []) is
  answer_other key r false is = refl

  shut_replied : (read : Bool) (r : Reply) (s : Loop) → ShutQuiet s → ShutQuiet (replied read r s)
  shut_replied read r s h none k =
      let a : Awaited = (read, (r.client, r.seq)) in
      let o : Option ℕ = map.get s.askers a in
      let f : List ℕ = client_frame (answered r) in
      let was : is_open c s ≡ false = sym (open_queues s (frame_at o f) (replied read r s) (queues_reply c read r s)) ∙ none in
      ap (λ (t : Askers). is_conn c (map.get t k)) (askers_said o f (forgotten a s)) ∙ ap (is_conn c) (found_forgotten a k s)
      ∙ conn_if (is_at (awaited_cmp k) a) None (map.get s.askers k) false refl (h was k)

  module _ (r : Reply) (s : Loop) where
    abbrev rk : Key
    rk = (r.client, r.seq)

    tracks_reply : Tracks s (frame_at (map.get s.askers (false, rk)) (client_frame (answered r))) (replied false r s) (λ key d. after_reply key d r)
    tracks_reply = record {
      replies = if is_conn c (map.get s.askers (false, rk)) then answered r ∷ [] else [];
      frames = frames_at (map.get s.askers (false, rk)) r;
      queues = queues_reply c false r s;
      told = λ is key some d w. by_key key d w (is_key key rk) refl;
      shut = shut_replied false r s;
    }
      where
        own : (key : Key) (k : Awaited) → map.get (replied false r s).askers k ≡ cond (is_at (awaited_cmp k) (false, rk)) None (map.get s.askers k)
        own key k = ap (λ (t : Askers). map.get t k) (askers_said (map.get s.askers (false, rk)) (client_frame (answered r)) (forgotten (false, rk) s)) ∙ found_forgotten (false, rk) k s

        by_key : (key : Key) (d : Due) → Waits s key d → (b : Bool) → is_key key rk ≡ b → let e : Due = if b then record d { command = false; told = d.told ++ answer_if d.command r } else d in
            Waits (replied false r s) key e × (e.told ≡ d.told ++ about key (if is_conn c (map.get s.askers (false, rk)) then answered r ∷ [] else []))
        by_key key d w true h =
            let same : rk ≡ key = tied_key false key rk h in
            let waits : is_conn c (map.get s.askers (false, rk)) ≡ d.command = ap (λ z. is_conn c (map.get s.askers (false, z))) same ∙ w.0 in (
              (ap (is_conn c) (own key (false, key) ∙ ap (λ b. cond b None (map.get s.askers (false, key))) h), ap (is_conn c) (own key (true, key)) ∙ w.1),
              ap (λ l. d.told ++ l) (answer_said key r d.command h ∙ ap (λ b. about key (if b then answered r ∷ [] else [])) (sym waits)),
            )
        by_key key d w false h = (
          (ap (is_conn c) (own key (false, key) ∙ ap (λ b. cond b None (map.get s.askers (false, key))) h) ∙ w.0, ap (is_conn c) (own key (true, key)) ∙ w.1),
          sym (append-nil d.told) ∙ ap (λ l. d.told ++ l) (sym (answer_other key r (is_conn c (map.get s.askers (false, rk))) h)),
        )

    tracks_read_reply : Tracks s (frame_at (map.get s.askers (true, rk)) (client_frame (answered r))) (replied true r s) (λ key d. after_read_reply key d r)
    tracks_read_reply = record {
      replies = if is_conn c (map.get s.askers (true, rk)) then answered r ∷ [] else [];
      frames = frames_at (map.get s.askers (true, rk)) r;
      queues = queues_reply c true r s;
      told = λ is key some d w. by_key key d w (is_key key rk) refl;
      shut = shut_replied true r s;
    }
      where
        own : (key : Key) (k : Awaited) → map.get (replied true r s).askers k ≡ cond (is_at (awaited_cmp k) (true, rk)) None (map.get s.askers k)
        own key k = ap (λ (t : Askers). map.get t k) (askers_said (map.get s.askers (true, rk)) (client_frame (answered r)) (forgotten (true, rk) s)) ∙ found_forgotten (true, rk) k s

        by_key : (key : Key) (d : Due) → Waits s key d → (b : Bool) → is_key key rk ≡ b → let e : Due = if b then record d { read = false; told = d.told ++ answer_if d.read r } else d in
            Waits (replied true r s) key e × (e.told ≡ d.told ++ about key (if is_conn c (map.get s.askers (true, rk)) then answered r ∷ [] else []))
        by_key key d w true h =
            let same : rk ≡ key = tied_key true key rk h in
            let waits : is_conn c (map.get s.askers (true, rk)) ≡ d.read = ap (λ z. is_conn c (map.get s.askers (true, z))) same ∙ w.1 in (
              (ap (is_conn c) (own key (false, key)) ∙ w.0, ap (is_conn c) (own key (true, key) ∙ ap (λ b. cond b None (map.get s.askers (true, key))) h)),
              ap (λ l. d.told ++ l) (answer_said key r d.read h ∙ ap (λ b. about key (if b then answered r ∷ [] else [])) (sym waits)),
            )
        by_key key d w false h = (
          (ap (is_conn c) (own key (false, key)) ∙ w.0, ap (is_conn c) (own key (true, key) ∙ ap (λ b. cond b None (map.get s.askers (true, key))) h) ∙ w.1),
          sym (append-nil d.told) ∙ ap (λ l. d.told ++ l) (sym (answer_other key r (is_conn c (map.get s.askers (true, rk))) h)),
        )

  tracks_replied : (rs : List Reply) (s : Loop) → Tracks s (frames_replied false rs s) (replied_all false rs s) (λ key d. fold (after_reply key) d rs)
  tracks_replied [] s = tracks_none s
  tracks_replied (r ∷ rs) s =
      let t : Loop = replied false r s in
      tracks_then s t (replied_all false rs t) (frame_at (map.get s.askers (false, (r.client, r.seq))) (client_frame (answered r))) (frames_replied false rs t) (λ key d. after_reply key d r) (λ key d. fold (after_reply key) d rs)
      (tracks_reply r s) (tracks_replied rs t)

  tracks_read_replied : (rs : List Reply) (s : Loop) → Tracks s (frames_replied true rs s) (replied_all true rs s) (λ key d. fold (after_read_reply key) d rs)
  tracks_read_replied [] s = tracks_none s
  tracks_read_replied (r ∷ rs) s =
      let t : Loop = replied true r s in
      tracks_then s t (replied_all true rs t) (frame_at (map.get s.askers (true, (r.client, r.seq))) (client_frame (answered r))) (frames_replied true rs t) (λ key d. after_read_reply key d r) (λ key d. fold (after_read_reply key) d rs)
      (tracks_read_reply r s) (tracks_read_replied rs t)

  tracks_handed : (g : Given) (s : Loop) → NoPeers s → Tracks s (frames_handed g s) (handed_out g s) (λ key d. after_given key g d)
  tracks_handed g s none =
      let m : Loop = sent_all g.sends s in
      let n : Loop = replied_all false g.replies m in
      tracks_then s n (handed_out g s) (frames_sent g.sends s ++ frames_replied false g.replies m) (frames_replied true g.read_replies n)
      (λ key d. fold (after_reply key) d g.replies) (λ key d. fold (after_read_reply key) d g.read_replies)
      (tracks_then s m n (frames_sent g.sends s) (frames_replied false g.replies m) nothing_comes (λ key d. fold (after_reply key) d g.replies) (tracks_sent g.sends s none) (tracks_replied g.replies m))
      (tracks_read_replied g.read_replies n)

  -- ---- a disk failed

  -- what is said to this connection of these
  abbrev replies_told : List Told → List ClientReply
  replies_told [] = []
  replies_told (r ∷ rs) = (if r.0 == c then r.1 ∷ [] else []) ++ replies_told rs

  frames_told_are : (rs : List Told) → only_for c (frames_told rs) ≡ texts (replies_told rs)
  frames_told_are [] = refl
  frames_told_are (r ∷ rs) = by_conn (r.0 == c) (frames_told_are rs)
    where
      by_conn : (b : Bool) → only_for c (frames_told rs) ≡ texts (replies_told rs) → (if b then client_frame r.1 ∷ [] else []) ++ only_for c (frames_told rs) ≡ texts ((if b then r.1 ∷ [] else []) ++ replies_told rs)
      by_conn true same = ap (λ l. client_frame r.1 ∷ l) same
      by_conn false same = same

  askers_told : (rs : List Told) (s : Loop) → (told_all rs s).askers ≡ s.askers
  askers_told [] s = refl
  askers_told (r ∷ rs) s = askers_told rs (told r.0 r.1 s)

  module _ (k : ℕ) where
    abbrev what : Said
    what = said.Outcome (Refused (StorageFailed k))

    abbrev Entries : Type 0
    Entries = List (Awaited × ℕ)

    abbrev failures : Entries → List Told
    failures es = each (λ e. (e.1, of_command e.0.1 what)) es

    both : (a b : Bool) → T (a && b) → T a × T b
    both true b h = (tt, h)
    both false b h = absurd h

    -- one that is below all of these is none of them
    none_above : (q : Awaited) (es : Entries) → T (below_all awaited_cmp q es) → map.find awaited_cmp q es ≡ None
    none_above q [] h = refl
    none_above q (e ∷ es) h = by_order (awaited_cmp q e.0) h (none_above q es)
      where
        by_order : (o : Ordering) → T (is_lt o && below_all awaited_cmp q es) → (T (below_all awaited_cmp q es) → map.find awaited_cmp q es ≡ None) → cond (is_eq o) (Some e.1) (map.find awaited_cmp q es) ≡ None
        by_order Less h rest = rest h
        by_order Equal h rest = absurd h
        by_order Greater h rest = absurd h

    -- commands stand before reads
    none_before : (key : Key) (es : Entries) → T (below_all awaited_cmp (true, key) es) → map.find awaited_cmp (false, key) es ≡ None
    none_before key [] h = refl
    none_before key (((true, p), e) ∷ es) h = none_before key es (both (is_lt (awaited_cmp (true, key) (true, p))) (below_all awaited_cmp (true, key) es) h).1
    none_before key (((false, p), e) ∷ es) h = absurd h

    own_said : (key p : Key) (z : Bool) → is_key key p ≡ true → about key (if z then of_command p what ∷ [] else []) ≡ failure_if z k
    own_said key p true is = ap (λ b. (if b then what ∷ [] else []) ++ []) is
    own_said key p false is = refl

    other_said : (key p : Key) (z : Bool) → is_key key p ≡ false → about key (if z then of_command p what ∷ [] else []) ≡ []
    other_said key p true is = ap (λ b. (if b then what ∷ [] else []) ++ []) is
    other_said key p false is = refl

    -- what is said of those that a table names
    abbrev failed_of : Option ℕ → List Said
    failed_of o = failure_if (is_conn c o) k

    abbrev failed_in : Bool → Key → Entries → List Said
    failed_in read key es = failed_of (map.find awaited_cmp (read, key) es)

    due_failures : (key : Key) (es : Entries) → T (map.is_sorted awaited_cmp es) → about key (replies_told (failures es)) ≡ failed_in false key es ++ failed_in true key es
    due_failures key [] h = refl
    due_failures key (((false, p), e) ∷ es) h = elim (cases_Bool (is_key key p)) [
      | inl is ↦ (let none : map.find awaited_cmp (false, key) es ≡ None = none_above (false, key) es (subst (λ z. T (below_all awaited_cmp (false, z) es)) (tied_key false key p is) parts.0) in
          about_both key own (replies_told (failures es)) ∙ ap₂ (λ x y. x ++ y) (own_said key p (e == c) is) (due_failures key es parts.1)
          ∙ ap (λ o. failed_of (Some e) ++ (failed_of o ++ failed_in true key es)) none
          ∙ ap (λ z. failed_of (cond z (Some e) (map.find awaited_cmp (false, key) es)) ++ failed_in true key es) (sym is))
      | inr is ↦ about_both key own (replies_told (failures es)) ∙ ap₂ (λ x y. x ++ y) (other_said key p (e == c) is) (due_failures key es parts.1)
          ∙ ap (λ z. failed_of (cond z (Some e) (map.find awaited_cmp (false, key) es)) ++ failed_in true key es) (sym is)
    ]
      where
        own : List ClientReply
        own = if e == c then of_command p what ∷ [] else []

        parts : T (below_all awaited_cmp (false, p) es) × T (map.is_sorted awaited_cmp es)
        parts = both (below_all awaited_cmp (false, p) es) (map.is_sorted awaited_cmp es) h
    due_failures key (((true, p), e) ∷ es) h = elim (cases_Bool (is_key key p)) [
      | inl is ↦ (
          let low : T (below_all awaited_cmp (true, key) es) = subst (λ z. T (below_all awaited_cmp (true, z) es)) (tied_key true key p is) parts.0 in
          let none : map.find awaited_cmp (true, key) es ≡ None = none_above (true, key) es low in
          let before : map.find awaited_cmp (false, key) es ≡ None = none_before key es low in
          about_both key own (replies_told (failures es)) ∙ ap₂ (λ x y. x ++ y) (own_said key p (e == c) is) (due_failures key es parts.1)
          ∙ ap₂ (λ x y. failed_of (Some e) ++ (failed_of x ++ failed_of y)) before none
          ∙ append-nil (failed_of (Some e))
          ∙ ap (λ o. failed_of o ++ failed_of (Some e)) (sym before)
          ∙ ap (λ z. failed_in false key es ++ failed_of (cond z (Some e) (map.find awaited_cmp (true, key) es))) (sym is))
      | inr is ↦ about_both key own (replies_told (failures es)) ∙ ap₂ (λ x y. x ++ y) (other_said key p (e == c) is) (due_failures key es parts.1)
          ∙ ap (λ z. failed_in false key es ++ failed_of (cond z (Some e) (map.find awaited_cmp (true, key) es))) (sym is)
    ]
      where
        own : List ClientReply
        own = if e == c then of_command p what ∷ [] else []

        parts : T (below_all awaited_cmp (true, p) es) × T (map.is_sorted awaited_cmp es)
        parts = both (below_all awaited_cmp (true, p) es) (map.is_sorted awaited_cmp es) h

    none_waits : (s : Loop) (q : Awaited) → is_conn c (map.get (given_up k s).askers q) ≡ false
    none_waits s q = ap (λ (a : Askers). is_conn c (map.get a q)) (askers_told (failures (map.entries s.askers)) (record s { askers = map.empty })) ∙ ap (is_conn c) (map.get-empty awaited_cmp q)

    tracks_given_up : (s : Loop) → Tracks s (frames_given_up k s) (given_up k s) (λ key d. after_failure k d)
    tracks_given_up s = record {
      replies = replies_told (failures (map.entries s.askers));
      frames = frames_told_are (failures (map.entries s.askers));
      queues = queues_given_up c k s;
      told = λ is key some d w. (
        (none_waits s (false, key), none_waits s (true, key)),
        append_assoc d.told (failure_if d.command k) (failure_if d.read k)
            ∙ ap (λ l. d.told ++ l) (ap₂ (λ x y. failure_if x k ++ failure_if y k) (sym (ap (is_conn c) (sym (map.get-entries s.askers (false, key))) ∙ w.0)) (sym (ap (is_conn c) (sym (map.get-entries s.askers (true, key))) ∙ w.1))
            ∙ sym (due_failures key (map.entries s.askers) (map.entries_sorted s.askers))),
      );
      shut = λ h none q. none_waits s q;
    }

  -- ---- inputs

  -- what is due behind an input with this fate
  abbrev pub after_wanted : Option Wanted → Input → Fate → Standing → Key → Due → Due
  after_wanted w i done n key d = after_given key (gives n i) (asking_by w (gives n i).outcome key d)
  after_wanted w i (finds x) n key d = after_given key (given_again n x) (asking_by w None key d)
  after_wanted w i (faults k) n key d = denial_by w (Some (StorageFailed k)) key (after_failure k d)
  after_wanted w i (shares k) n key d = denial_by w (Some (StorageFailed k)) key d
  after_wanted w i damaged n key d = d
  after_wanted w i lost n key d = denial_by w None key d

  tracks_given : (w : Option Wanted) (o : Option Outcome) (g : Given) (s : Loop) → NoPeers s
      → Tracks s (frames_proposed w o ++ frames_handed g (proposed w o s)) (handed_out g (proposed w o s)) (λ key d. after_given key g (asking_by w o key d))
  tracks_given w o g s none =
      let asks = tracks_proposed w o s in
      let m : Loop = proposed w o s in
      tracks_then s m (handed_out g m) (frames_proposed w o) (frames_handed g m) (asking_by w o) (λ key d. after_given key g d) asks
      (tracks_handed g m (no_peers_queues s (frames_proposed w o) m asks.queues none))

  tracks_after : (w : Option Wanted) (i : Input) (f : Fate) (n : Standing) (s : Loop) → NoPeers s → Tracks s (frames_after w i f n s) (loop_after w i f n s) (after_wanted w i f n)
  tracks_after w i done n s none = tracks_given w (gives n i).outcome (gives n i) s none
  tracks_after w i (finds x) n s none = tracks_given w None (given_again n x) s none
  tracks_after w i (faults k) n s none = tracks_then s (given_up k s) (excused w (Some (StorageFailed k)) (given_up k s)) (frames_given_up k s) (frames_excused w (Some (StorageFailed k)))
      (λ key d. after_failure k d) (denial_by w (Some (StorageFailed k))) (tracks_given_up k s) (tracks_excused w (Some (StorageFailed k)) (given_up k s))
  tracks_after w i (shares k) n s none = tracks_excused w (Some (StorageFailed k)) s
  tracks_after w i damaged n s none = tracks_none s
  tracks_after w i lost n s none = tracks_excused w None s

  abbrev pub after_all : List Taken → Key → Due → Due
  after_all [] key d = d
  after_all (t ∷ ts) key d = after_all ts key (after_wanted t.wanted t.input t.fate t.before key d)

  pub tracks_all : (ts : List Taken) (s : Loop) → NoPeers s → Tracks s (frames_after_all ts s) (loop_after_all ts s) (after_all ts)
  tracks_all [] s none = tracks_none s
  tracks_all (t ∷ ts) s none =
      let m : Loop = loop_after t.wanted t.input t.fate t.before s in
      let fs : List Frame = frames_after t.wanted t.input t.fate t.before s in
      let one = tracks_after t.wanted t.input t.fate t.before s none in
      tracks_then s m (loop_after_all ts m) fs (frames_after_all ts m) (after_wanted t.wanted t.input t.fate t.before) (after_all ts) one
      (tracks_all ts m (no_peers_queues s fs m one.queues none))
