-- What happens next follows from the answers.
use Rattle.std.proofs.Common.{◌≡◌, ℕ, List, [], ◌∷◌, ◌++◌, ◌+◌, ◌-◌, ◌==◌, if◌then◌else◌, nat_lt, ◌⊎◌, inl, inr, Ok, Err, Option, Some, None, refl, sym, ◌∙◌, ap, subst, arith, length, map}
use Rattle.std.proofs.lemmas.Bool.{ne_eqb, lt-ltb, le-ltb}
use Rattle.op_types.specs.declared.events.Request.{Request}
use Rattle.op_outside.specs.Nets.{Waited, Readied, WasRead, Wrote, Closed, SawBytes, SawNotYet, SawEnd, SawFault}
use Rattle.op_outside.specs.declared.net.Addr.{Addr}
use Rattle.op_outside.specs.declared.net.Took.TheVariants as took
use Rattle.op_fields.proofs.Formats.{one}
use Rattle.op_command.proofs.Encodings.{reply_reads}
use Rattle.op_command.specs.Ranges.{ReplyInRange}
use Rattle.op_command.specs.Replies.{reply_form}
use Rattle.op_command.specs.declared.reply.ClientReply.{ClientReply}
use Rattle.op_frame.specs.Framing.{Stream, IsHead, BeginsWith, IsPartial, TellsTooLong}
use Rattle.op_frame.proofs.Wholes.{one_frame, partial_is_none, too_long_is_none, too_long_apart}
use Rattle.op_client.specs.declared.call_fail.CallFail.TheVariants as fail
use Rattle.op_client.specs.Rules.{Client, Ending, IsNoReply, Place, Moment, at, turn, write, wait, ask, read, look, close, over, most_waits, wait_millis, piece_len, fresh, has_written, has_read, of_happening, Event, net, starved, quiet, Step, goes_on, turns_over, writes, writes_no_more, writes_end, writes_failing, all_written, waits, waits_failing, asks, has_asked, reads, reads_nothing, reads_end, reads_failing, has_none, is_too_long, is_reply, is_no_reply, has_no_memory, closes}
use Rattle.op_client.specs.Run.{Run, none, more}
use Rattle.op_client.specs.Called.{Happens, starves, dials_failing, dials_in_vain, dials}
use Rattle.op_client.specs.Following.{Answer, was_dialled, was_waited, was_readied, was_seen, was_written, no_memory, nothing, answer_of}
use Rattle.op_client.proofs.Stands.{step_changes}

-- ---- what the bytes that were read make of the call is one thing

-- it goes on, or ends so
abbrev LooksAt : Stream → Option Ending → Type 0
LooksAt x None = IsPartial x
LooksAt x (Some (Ok r)) = ReplyInRange r × ((rest : List ℕ) × BeginsWith x (reply_form.text r) rest)
LooksAt x (Some (Err fail.NoReply)) = ((len : ℕ) × TellsTooLong x len) ⊎ ((body : List ℕ) × (rest : List ℕ) × IsNoReply body × BeginsWith x body rest)
LooksAt x (Some (Err _)) = ⊥

one_reply : (a b : ClientReply) → ReplyInRange a → ReplyInRange b → reply_form.text a ≡ reply_form.text b → a ≡ b
one_reply a b f g e = one reply_form reply_reads a b [] [] f g (ap (λ (t : List ℕ). t ++ []) e)

looks_one : (x : Stream) (l m : Option Ending) → IsHead x.head → LooksAt x l → LooksAt x m → l ≡ m
looks_one x None None h a b = refl
looks_one x None (Some (Ok r)) h a (f, (rest, b)) = absurd (partial_is_none x h a (reply_form.text r) rest b)
looks_one x None (Some (Err fail.NoReply)) h a (inl (len, t)) = absurd (too_long_apart x len h t a)
looks_one x None (Some (Err fail.NoReply)) h a (inr (body, rest, n, b)) = absurd (partial_is_none x h a body rest b)
looks_one x None (Some (Err fail.TurnsOver)) h a b = absurd b
looks_one x None (Some (Err fail.NetFault)) h a b = absurd b
looks_one x None (Some (Err fail.NoMemory)) h a b = absurd b
looks_one x (Some (Ok r)) None h (f, (rest, a)) b = absurd (partial_is_none x h b (reply_form.text r) rest a)
looks_one x (Some (Ok r)) (Some (Ok q)) h (f, (rest, a)) (g, (end, b)) =
    let is : r ≡ q = one_reply r q f g (one_frame x (reply_form.text r) rest (reply_form.text q) end h a b).0 in
    rw is refl
looks_one x (Some (Ok r)) (Some (Err fail.NoReply)) h (f, (rest, a)) (inl (len, t)) = absurd (too_long_is_none x len h t (reply_form.text r) rest a)
looks_one x (Some (Ok r)) (Some (Err fail.NoReply)) h (f, (rest, a)) (inr (body, end, n, b)) = absurd (n r f (sym (one_frame x (reply_form.text r) rest body end h a b).0))
looks_one x (Some (Ok r)) (Some (Err fail.TurnsOver)) h a b = absurd b
looks_one x (Some (Ok r)) (Some (Err fail.NetFault)) h a b = absurd b
looks_one x (Some (Ok r)) (Some (Err fail.NoMemory)) h a b = absurd b
looks_one x (Some (Err fail.NoReply)) None h (inl (len, t)) b = absurd (too_long_apart x len h t b)
looks_one x (Some (Err fail.NoReply)) None h (inr (body, rest, n, a)) b = absurd (partial_is_none x h b body rest a)
looks_one x (Some (Err fail.NoReply)) (Some (Ok r)) h (inl (len, t)) (f, (rest, b)) = absurd (too_long_is_none x len h t (reply_form.text r) rest b)
looks_one x (Some (Err fail.NoReply)) (Some (Ok r)) h (inr (body, end, n, a)) (f, (rest, b)) = absurd (n r f (one_frame x body end (reply_form.text r) rest h a b).0)
looks_one x (Some (Err fail.NoReply)) (Some (Err fail.NoReply)) h a b = refl
looks_one x (Some (Err fail.NoReply)) (Some (Err fail.TurnsOver)) h a b = absurd b
looks_one x (Some (Err fail.NoReply)) (Some (Err fail.NetFault)) h a b = absurd b
looks_one x (Some (Err fail.NoReply)) (Some (Err fail.NoMemory)) h a b = absurd b
looks_one x (Some (Err fail.TurnsOver)) m h a b = absurd a
looks_one x (Some (Err fail.NetFault)) m h a b = absurd a
looks_one x (Some (Err fail.NoMemory)) m h a b = absurd a

-- ---- the next event is a function of its answer

abbrev of_written : ℕ → ℕ → Client → Answer → Option (Event × Moment)
of_written c k s (was_written (Some (took.Bytes n))) = Some (net (Wrote c s.left (Some (took.Bytes n))), at write k (has_written n s))
of_written c k s (was_written (Some took.NotYet)) = Some (net (Wrote c s.left (Some took.NotYet)), at wait k s)
of_written c k s (was_written (Some took.Ended)) = Some (net (Wrote c s.left (Some took.Ended)), at (close (Err fail.NoReply)) k s)
of_written c k s (was_written None) = Some (net (Wrote c s.left None), at (close (Err fail.NetFault)) k s)
of_written c k s _ = None

abbrev of_waited : ℕ → Client → Answer → Option (Event × Moment)
of_waited k s (was_waited (Some n)) = Some (net (Waited wait_millis (Some n)), at (ask 0 n) k s)
of_waited k s (was_waited None) = Some (net (Waited wait_millis None), at (close (Err fail.NetFault)) k s)
of_waited k s _ = None

abbrev of_readied : ℕ → ℕ → ℕ → ℕ → Client → Answer → Option (Event × Moment)
of_readied c i n k s (was_readied h) = Some (net (Readied i h), at (of_happening c h (i + 1) n) k s)
of_readied c i n k s _ = None

abbrev of_seen : ℕ → ℕ → ℕ → ℕ → Client → Answer → Option (Event × Moment)
of_seen c i n k s (was_seen (SawBytes bytes)) = Some (net (WasRead c piece_len (SawBytes bytes)), at (look i n) k (has_read bytes s))
of_seen c i n k s (was_seen SawNotYet) = Some (net (WasRead c piece_len SawNotYet), at (ask i n) k s)
of_seen c i n k s (was_seen SawEnd) = Some (net (WasRead c piece_len SawEnd), at (close (Err fail.NoReply)) k s)
of_seen c i n k s (was_seen SawFault) = Some (net (WasRead c piece_len SawFault), at (close (Err fail.NetFault)) k s)
of_seen c i n k s _ = None

abbrev of_look : ℕ → ℕ → ℕ → Client → Option Ending → Answer → Option (Event × Moment)
of_look i n k s l no_memory = Some (starved, at (close (Err fail.NoMemory)) k s)
of_look i n k s None nothing = Some (quiet, at (ask i n) k s)
of_look i n k s (Some e) nothing = Some (quiet, at (close e) k s)
of_look i n k s l _ = None

abbrev next_of : ℕ → Place → ℕ → Client → Option Ending → Answer → Option (Event × Moment)
next_of c turn k s l x = if k == 0 then Some (quiet, at (close (Err fail.TurnsOver)) 0 s) else Some (quiet, at write k s)
next_of c write k s l x = if nat_lt 0 (length s.left) then of_written c k s x else Some (quiet, at wait k s)
next_of c wait k s l x = of_waited (k - 1) s x
next_of c (ask i n) k s l x = if nat_lt i n then of_readied c i n k s x else Some (quiet, at turn k s)
next_of c (read i n) k s l x = of_seen c i n k s x
next_of c (look i n) k s l x = of_look i n k s l x
next_of c (close e) k s l x = Some (net (Closed c), at (over e) k s)
next_of c (over e) k s l x = None

-- where memory is found, what was read is looked at
abbrev Sees : Place → Answer → Client → Option Ending → Type 0
Sees (look i n) nothing s l = LooksAt s.held l
Sees _ _ s l = Unit {0}

step_next : {c : ℕ} {a b : Moment} {e : Event} → Step c a e b → (l : Option Ending) → IsHead a.client.held.head → Sees a.place (answer_of e) a.client l
    → next_of c a.place a.waits_left a.client l (answer_of e) ≡ Some (e, b)
step_next (goes_on k) l h see = rw (ne_eqb (k + 1) 0 (λ e. omega (arith, e))) refl
step_next turns_over l h see = refl
step_next (writes {s = s} lt) l h see = rw (lt-ltb 0 (length s.left) lt) refl
step_next (writes_no_more {s = s} lt) l h see = rw (lt-ltb 0 (length s.left) lt) refl
step_next (writes_end {s = s} lt) l h see = rw (lt-ltb 0 (length s.left) lt) refl
step_next (writes_failing {s = s} lt) l h see = rw (lt-ltb 0 (length s.left) lt) refl
step_next (all_written is) l h see = rw is refl
step_next (waits {n = n} {s = s} k) l h see = (let back : (k + 1) - 1 ≡ k = omega arith in ap (λ j. of_waited j s (was_waited (Some n))) back)
step_next (waits_failing {s = s} k) l h see = (let back : (k + 1) - 1 ≡ k = omega arith in ap (λ j. of_waited j s (was_waited None)) back)
step_next (asks {i = i} {n = n} lt) l h see = rw (lt-ltb i n lt) refl
step_next (has_asked {n = n}) l h see = rw (le-ltb n n (omega arith)) refl
step_next reads l h see = refl
step_next reads_nothing l h see = refl
step_next reads_end l h see = refl
step_next reads_failing l h see = refl
step_next (has_none {s = s} p) l h see = (let is : l ≡ None = looks_one s.held l None h see p in rw is refl)
step_next (is_too_long {s = s} len t) l h see = (let is : l ≡ Some (Err fail.NoReply) = looks_one s.held l (Some (Err fail.NoReply)) h see (inl (len, t)) in rw is refl)
step_next (is_reply {r = r} {s = s} rest f b) l h see = (let is : l ≡ Some (Ok r) = looks_one s.held l (Some (Ok r)) h see (f, (rest, b)) in rw is refl)
step_next (is_no_reply {s = s} body rest n b) l h see = (let is : l ≡ Some (Err fail.NoReply) = looks_one s.held l (Some (Err fail.NoReply)) h see (inr (body, rest, n, b)) in rw is refl)
step_next has_no_memory l h see = refl
step_next closes l h see = refl

seen_in_step : {c : ℕ} {a b : Moment} {e : Event} → Step c a e b → (l : Option Ending) × Sees a.place (answer_of e) a.client l
seen_in_step (goes_on k) = (None, tt)
seen_in_step turns_over = (None, tt)
seen_in_step (writes lt) = (None, tt)
seen_in_step (writes_no_more lt) = (None, tt)
seen_in_step (writes_end lt) = (None, tt)
seen_in_step (writes_failing lt) = (None, tt)
seen_in_step (all_written is) = (None, tt)
seen_in_step (waits k) = (None, tt)
seen_in_step (waits_failing k) = (None, tt)
seen_in_step (asks lt) = (None, tt)
seen_in_step has_asked = (None, tt)
seen_in_step reads = (None, tt)
seen_in_step reads_nothing = (None, tt)
seen_in_step reads_end = (None, tt)
seen_in_step reads_failing = (None, tt)
seen_in_step (has_none p) = (None, p)
seen_in_step (is_too_long len t) = (Some (Err fail.NoReply), inl (len, t))
seen_in_step (is_reply {r = r} rest f b) = (Some (Ok r), (f, (rest, b)))
seen_in_step (is_no_reply body rest n b) = (Some (Err fail.NoReply), inr (body, rest, n, b))
seen_in_step has_no_memory = (None, tt)
seen_in_step closes = (None, tt)

some_is : {X : Type 0} {a b : X} → Some a ≡ Some b → a ≡ b
some_is e = cc

one_next : {c : ℕ} {a b d : Moment} {e f : Event} → IsHead a.client.held.head → Step c a e b → Step c a f d → answer_of e ≡ answer_of f → (e ≡ f) × (b ≡ d)
one_next {c = c} {a = a} {b = b} {d = d} {e = e} {f = f} h st other same =
    let see = seen_in_step st in
    let first : next_of c a.place a.waits_left a.client see.0 (answer_of e) ≡ Some (e, b) = step_next st see.0 h see.1 in
    let again : Sees a.place (answer_of f) a.client see.0 = subst (λ (x : Answer). Sees a.place x a.client see.0) same see.1 in
    let second : next_of c a.place a.waits_left a.client see.0 (answer_of f) ≡ Some (f, d) = step_next other see.0 h again in
    let both : Some (e, b) ≡ Some (f, d) = sym first ∙ ap (λ x. next_of c a.place a.waits_left a.client see.0 x) same ∙ second in
    let pair : (e, b) ≡ (f, d) = some_is both in
    (ap (λ (p : Event × Moment). p.0) pair, ap (λ (p : Event × Moment). p.1) pair)

firsts : {X : Type 0} {x y : X} {xs ys : List X} → (x ∷ xs) ≡ (y ∷ ys) → x ≡ y
firsts e = cc

rests : {X : Type 0} {x y : X} {xs ys : List X} → (x ∷ xs) ≡ (y ∷ ys) → xs ≡ ys
rests e = cc

head_stays : {c : ℕ} {a b : Moment} {e : Event} → Step c a e b → IsHead a.client.held.head → IsHead b.client.held.head
head_stays st h = subst IsHead (sym (ap (λ (x : Stream). x.head) (step_changes st).held)) h

-- two runs with the same answers are one
one_run : {c : ℕ} {a b d : Moment} {es fs : List Event} → IsHead a.client.held.head → Run c a es b → Run c a fs d → map answer_of es ≡ map answer_of fs → (es ≡ fs) × (b ≡ d)
one_run h none none e = (refl, refl)
one_run h none (more st r) e = absurd cc
one_run h (more st r) none e = absurd cc
one_run {c = c} {d = d} h (more {es = es} st r) (more {es = fs} other q) e =
    let one = one_next h st other (firsts e) in
    let rest = one_run (head_stays st h) r (subst (λ m. Run c m fs d) (sym one.1) q) (rests e) in
    (rw (one.0, rest.0) refl, rest.1)

same_conn : (c d : ℕ) → was_dialled (Some (Some c)) ≡ was_dialled (Some (Some d)) → c ≡ d
same_conn c d e = cc

same_end : (d e : Ending) (j k : ℕ) (s t : Client) → at (over d) j s ≡ at (over e) k t → d ≡ e
same_end d e j k s t is = (let places : over d ≡ over e = ap (λ (m : Moment). m.place) is in cc)

pub one_call : (addr : Addr) (request : Request) (d e : Ending) (es fs : List Event) → Happens addr request es d → Happens addr request fs e → map answer_of es ≡ map answer_of fs → (es ≡ fs) × (d ≡ e)
one_call addr request d e es fs starves starves is = (refl, refl)
one_call addr request d e es fs starves dials_failing is = absurd cc
one_call addr request d e es fs starves dials_in_vain is = absurd cc
one_call addr request d e es fs starves (dials r) is = absurd cc
one_call addr request d e es fs dials_failing starves is = absurd cc
one_call addr request d e es fs dials_failing dials_failing is = (refl, refl)
one_call addr request d e es fs dials_failing dials_in_vain is = absurd cc
one_call addr request d e es fs dials_failing (dials r) is = absurd cc
one_call addr request d e es fs dials_in_vain starves is = absurd cc
one_call addr request d e es fs dials_in_vain dials_failing is = absurd cc
one_call addr request d e es fs dials_in_vain dials_in_vain is = (refl, refl)
one_call addr request d e es fs dials_in_vain (dials r) is = absurd cc
one_call addr request d e es fs (dials r) starves is = absurd cc
one_call addr request d e es fs (dials r) dials_failing is = absurd cc
one_call addr request d e es fs (dials r) dials_in_vain is = absurd cc
one_call addr request d e es fs (dials {c = c} {k = j} {s = s} {es = xs} r) (dials {c = o} {k = k} {s = t} {es = ys} q) is =
    let conn : c ≡ o = same_conn c o (firsts is) in
    let there : Run c (at turn most_waits (fresh request)) ys (at (over e) k t) = subst (λ (i : ℕ). Run i (at turn most_waits (fresh request)) ys (at (over e) k t)) (sym conn) q in
    let one = one_run (inl refl) r there (rests is) in
    (rw (conn, one.0) refl, same_end d e j k s t one.1)
