-- What the calls of a run say of where it stands.
use Rattle.std.proofs.Common.{◌≡◌, ℕ, List, [], ◌∷◌, ◌++◌, ◌+◌, ◌==◌, ◌||◌, Bool, true, false, if◌then◌else◌, ◌⊎◌, inl, inr, Ok, Err, refl, sym, ◌∙◌, ap, subst, arith, take, drop, append_assoc, append-nil}
use Rattle.std.specs.List.{list_any}
use Rattle.std.proofs.lemmas.Bool.{eq-eqb}
use Rattle.std.proofs.lemmas.List.{take-append-drop}
use Rattle.std.proofs.lemmas.List.Folds.{list_any-append}
use Rattle.op_outside.specs.Nets.{Call, Readied, call_fails, has_failed}
use Rattle.op_outside.specs.declared.net.Happening.{Happening}
use Rattle.op_outside.specs.declared.net.Happening.TheVariants.{Accepted, Readable, Writable, Ended}
use Rattle.op_command.specs.Ranges.{ReplyInRange}
use Rattle.op_command.specs.Replies.{reply_form}
use Rattle.op_frame.specs.Framing.{Stream, stream_of, fed, BeginsWith, TellsTooLong}
use Rattle.op_client.specs.declared.call_fail.CallFail.TheVariants as fail
use Rattle.op_client.specs.Rules.{Client, Ending, IsNoReply, Place, Moment, at, turn, write, wait, ask, read, look, close, over, most_waits, of_happening, Event, Step, goes_on, turns_over, writes, writes_no_more, writes_end, writes_failing, all_written, waits, waits_failing, asks, has_asked, reads, reads_nothing, reads_end, reads_failing, has_none, is_too_long, is_reply, is_no_reply, has_no_memory, closes}
use Rattle.op_client.specs.Run.{Run, none, more, calls, call_of}
use Rattle.op_client.specs.Called.{taken, taken_in, seen, seen_in, waited, is_held_back, tells_end}

-- ---- what is left, what was read, and the waits that are left

pub record Changes (a : Moment) (xs : List Call) (b : Moment) : Type 0 where
  pub left : taken xs ++ b.client.left ≡ a.client.left
  pub held : b.client.held ≡ fed a.client.held (seen xs)
  pub waits : waited xs + b.waits_left ≡ a.waits_left

fed_nothing : (x : Stream) → x ≡ fed x []
fed_nothing x = ap (λ (h : List ℕ). stream_of x.head x.limit h) (sym (append-nil x.held))

same : (p q : Place) (k : ℕ) (s : Client) (xs : List Call) → taken xs ≡ [] → seen xs ≡ [] → waited xs ≡ 0 → Changes (at p k s) xs (at q k s)
same p q k s xs t r w = record {
  left = rw t refl;
  held = rw r (fed_nothing s.held);
  waits = omega (arith, w);
}

pub step_changes : {c : ℕ} {a b : Moment} {e : Event} → Step c a e b → Changes a (call_of e) b
step_changes (goes_on {s = s} k) = same turn write (k + 1) s [] refl refl refl
step_changes (turns_over {s = s}) = same turn (close (Err fail.TurnsOver)) 0 s [] refl refl refl
step_changes {c = c} (writes {k = k} {n = n} {s = s} lt) = record {
  left = ap (λ (t : List ℕ). t ++ drop n s.left) (append-nil (take n s.left)) ∙ take-append-drop n s.left;
  held = fed_nothing s.held;
  waits = omega arith;
}
step_changes {a = a} {b = b} {e = e} (writes_no_more {k = k} {s = s} lt) = same write wait k s (call_of e) refl refl (omega arith)
step_changes {e = e} (writes_end {k = k} {s = s} lt) = same write (close (Err fail.NoReply)) k s (call_of e) refl refl (omega arith)
step_changes {e = e} (writes_failing {k = k} {s = s} lt) = same write (close (Err fail.NetFault)) k s (call_of e) refl refl (omega arith)
step_changes (all_written {k = k} {s = s} is) = same write wait k s [] refl refl refl
step_changes (waits {s = s} k) = record { left = refl; held = fed_nothing s.held; waits = omega arith }
step_changes (waits_failing {s = s} k) = record { left = refl; held = fed_nothing s.held; waits = omega arith }
step_changes {c = c} {e = e} (asks {k = k} {i = i} {n = n} {h = h} {s = s} lt) = same (ask i n) (of_happening c h (i + 1) n) k s (call_of e) refl refl (omega arith)
step_changes (has_asked {k = k} {n = n} {s = s}) = same (ask n n) turn k s [] refl refl refl
step_changes (reads {bytes = bytes} {s = s}) = record { left = refl; held = ap (fed s.held) (sym (append-nil bytes)); waits = omega arith }
step_changes {e = e} (reads_nothing {k = k} {i = i} {n = n} {s = s}) = same (read i n) (ask i n) k s (call_of e) refl refl (omega arith)
step_changes {e = e} (reads_end {k = k} {i = i} {n = n} {s = s}) = same (read i n) (close (Err fail.NoReply)) k s (call_of e) refl refl (omega arith)
step_changes {e = e} (reads_failing {k = k} {i = i} {n = n} {s = s}) = same (read i n) (close (Err fail.NetFault)) k s (call_of e) refl refl (omega arith)
step_changes (has_none {k = k} {i = i} {n = n} {s = s} h) = same (look i n) (ask i n) k s [] refl refl refl
step_changes (is_too_long {k = k} {i = i} {n = n} {s = s} len h) = same (look i n) (close (Err fail.NoReply)) k s [] refl refl refl
step_changes (is_reply {k = k} {i = i} {n = n} {r = r} {s = s} rest h b) = same (look i n) (close (Ok r)) k s [] refl refl refl
step_changes (is_no_reply {k = k} {i = i} {n = n} {s = s} body rest h b) = same (look i n) (close (Err fail.NoReply)) k s [] refl refl refl
step_changes (has_no_memory {k = k} {i = i} {n = n} {s = s}) = same (look i n) (close (Err fail.NoMemory)) k s [] refl refl refl
step_changes {e = f} (closes {k = k} {s = s} {e = e}) = same (close e) (over e) k s (call_of f) refl refl (omega arith)

taken_more : (xs ys : List Call) → taken (xs ++ ys) ≡ taken xs ++ taken ys
taken_more [] ys = refl
taken_more (x ∷ xs) ys = ap (λ t. taken_in x ++ t) (taken_more xs ys) ∙ sym (append_assoc (taken_in x) (taken xs) (taken ys))

seen_more : (xs ys : List Call) → seen (xs ++ ys) ≡ seen xs ++ seen ys
seen_more [] ys = refl
seen_more (x ∷ xs) ys = ap (λ t. seen_in x ++ t) (seen_more xs ys) ∙ sym (append_assoc (seen_in x) (seen xs) (seen ys))

waited_more : (xs ys : List Call) → waited (xs ++ ys) ≡ waited xs + waited ys
waited_more [] ys = omega arith
waited_more (x ∷ xs) ys = omega (arith, waited_more xs ys)

fed_twice : (x : Stream) (xs ys : List ℕ) → fed (fed x xs) ys ≡ fed x (xs ++ ys)
fed_twice x xs ys = ap (λ (h : List ℕ). stream_of x.head x.limit h) (append_assoc x.held xs ys)

changes_then : (a b d : Moment) (xs ys : List Call) → Changes a xs b → Changes b ys d → Changes a (xs ++ ys) d
changes_then a b d xs ys h g = record {
  left = ap (λ (t : List ℕ). t ++ d.client.left) (taken_more xs ys) ∙ append_assoc (taken xs) (taken ys) d.client.left ∙ ap (λ (t : List ℕ). taken xs ++ t) g.left ∙ h.left;
  held = g.held ∙ ap (λ (x : Stream). fed x (seen ys)) h.held ∙ fed_twice a.client.held (seen xs) (seen ys) ∙ ap (fed a.client.held) (sym (seen_more xs ys));
  waits = omega (arith, waited_more xs ys, h.waits, g.waits);
}

pub run_changes : {c : ℕ} {a b : Moment} {es : List Event} → Run c a es b → Changes a (calls es) b
run_changes (none {a = a}) = same a.place a.place a.waits_left a.client [] refl refl refl
run_changes (more {a = a} {b = b} {d = d} {e = e} {es = es} st r) = changes_then a b d (call_of e) (calls es) (step_changes st) (run_changes r)

-- ---- why it stands there

-- some call, before or now
some_before : (p : Call → Bool) (xs ys : List Call) → list_any p xs ≡ true → list_any p (xs ++ ys) ≡ true
some_before p xs ys h = list_any-append p xs ys ∙ rw h refl

or_true : (b : Bool) → (b || true) ≡ true
or_true true = refl
or_true false = refl

or_false : (b : Bool) → (b || false) ≡ b
or_false true = refl
or_false false = refl

some_now : (p : Call → Bool) (xs ys : List Call) → list_any p ys ≡ true → list_any p (xs ++ ys) ≡ true
some_now p xs ys h = list_any-append p xs ys ∙ rw h (or_true (list_any p xs))

none_now : (p : Call → Bool) (xs ys : List Call) → list_any p ys ≡ false → list_any p (xs ++ ys) ≡ list_any p xs
none_now p xs ys h = list_any-append p xs ys ∙ rw h (or_false (list_any p xs))

none_left : (p q : Bool) → (p || q) ≡ false → p ≡ false
none_left true q e = absurd cc
none_left false q e = refl

none_before : (p : Call → Bool) (xs ys : List Call) → list_any p (xs ++ ys) ≡ false → list_any p xs ≡ false
none_before p xs ys h = none_left (list_any p xs) (list_any p ys) (sym (list_any-append p xs ys) ∙ h)

-- all was written, if each write took something
abbrev pub Done : List Call → List ℕ → Type 0
Done xs left = list_any is_held_back xs ≡ false → left ≡ []

done_later : (xs ys : List Call) (left : List ℕ) → Done xs left → Done (xs ++ ys) left
done_later xs ys left h n = h (none_before is_held_back xs ys n)

held_back : (xs ys : List Call) (left : List ℕ) → list_any is_held_back ys ≡ true → Done (xs ++ ys) left
held_back xs ys left h n = absurd (let t : list_any is_held_back (xs ++ ys) ≡ true = some_now is_held_back xs ys h in let f : true ≡ false = sym t ∙ n in cc)

-- once the client waits, all was written
abbrev pub Calm : List Call → Place → ℕ → List ℕ → Type 0
Calm xs turn k left = (k ≡ most_waits) ⊎ Done xs left
Calm xs write k left = Unit {0}
Calm xs _ k left = Done xs left

-- why there is no reply
pub data WhyNot (c : ℕ) (xs : List Call) (x : Stream) : Type 0 where
  ended : list_any (tells_end c) xs ≡ true → WhyNot c xs x
  another : (body rest : List ℕ) → IsNoReply body → BeginsWith x body rest → WhyNot c xs x
  too_long : (len : ℕ) → TellsTooLong x len → WhyNot c xs x

abbrev pub Reason : ℕ → List Call → ℕ → Client → Ending → Type 0
Reason c xs k s (Ok r) = ReplyInRange r × ((rest : List ℕ) × BeginsWith s.held (reply_form.text r) rest)
Reason c xs k s (Err fail.NoReply) = WhyNot c xs s.held
Reason c xs k s (Err fail.TurnsOver) = k ≡ 0
Reason c xs k s (Err fail.NetFault) = Unit {0}
Reason c xs k s (Err fail.NoMemory) = Unit {0}

reason_later : (c : ℕ) (xs ys : List Call) (k : ℕ) (s : Client) (e : Ending) → Reason c xs k s e → Reason c (xs ++ ys) k s e
reason_later c xs ys k s (Ok r) h = h
reason_later c xs ys k s (Err fail.NoReply) (ended t) = ended (some_before (tells_end c) xs ys t)
reason_later c xs ys k s (Err fail.NoReply) (another body rest h b) = another body rest h b
reason_later c xs ys k s (Err fail.NoReply) (too_long len t) = too_long len t
reason_later c xs ys k s (Err fail.TurnsOver) h = h
reason_later c xs ys k s (Err fail.NetFault) h = h
reason_later c xs ys k s (Err fail.NoMemory) h = h

abbrev pub ReasonAt : ℕ → List Call → Place → ℕ → Client → Type 0
ReasonAt c xs (close e) k s = Reason c xs k s e
ReasonAt c xs (over e) k s = Reason c xs k s e
ReasonAt c xs _ k s = Unit {0}

abbrev pub is_fault : Ending → Bool
is_fault (Err fail.NetFault) = true
is_fault _ = false

abbrev pub is_fault_at : Place → Bool
is_fault_at (close e) = is_fault e
is_fault_at (over e) = is_fault e
is_fault_at _ = false

pub record Stands (c : ℕ) (xs : List Call) (m : Moment) : Type 0 where
  pub calm : Calm xs m.place m.waits_left m.client.left
  pub why : ReasonAt c xs m.place m.waits_left m.client
  pub fails : has_failed xs ≡ is_fault_at m.place

-- nothing new: the same reasons
later : (c : ℕ) (xs ys : List Call) (k : ℕ) (s t : Client) (p q : Place) → has_failed ys ≡ false → is_fault_at p ≡ false → is_fault_at q ≡ false → Calm (xs ++ ys) q k t.left
    → ReasonAt c (xs ++ ys) q k t → Stands c xs (at p k s) → Stands c (xs ++ ys) (at q k t)
later c xs ys k s t p q f e g calm why st = record { calm = calm; why = why; fails = none_now call_fails xs ys f ∙ st.fails ∙ e ∙ sym g }

-- a call that failed
faults : (c : ℕ) (xs ys : List Call) (k : ℕ) (s : Client) → has_failed ys ≡ true → Done (xs ++ ys) s.left → Stands c (xs ++ ys) (at (close (Err fail.NetFault)) k s)
faults c xs ys k s f done = record { calm = done; why = tt; fails = some_now call_fails xs ys f }

-- a happening
module _ (c : ℕ) (xs : List Call) (k i n : ℕ) (s : Client) (lead : Stands c xs (at (ask i n) k s)) where
  goes_by : (h : Happening) → Stands c (xs ++ (Readied i h ∷ [])) (at (ask (i + 1) n) k s)
  goes_by h = later c xs (Readied i h ∷ []) k s s (ask i n) (ask (i + 1) n) refl refl refl (done_later xs (Readied i h ∷ []) s.left lead.calm) tt lead

  reads_it : (d : ℕ) (b : Bool) → Stands c (xs ++ (Readied i (Readable d) ∷ [])) (at (if b then read (i + 1) n else ask (i + 1) n) k s)
  reads_it d true = later c xs (Readied i (Readable d) ∷ []) k s s (ask i n) (read (i + 1) n) refl refl refl (done_later xs (Readied i (Readable d) ∷ []) s.left lead.calm) tt lead
  reads_it d false = goes_by (Readable d)

  ends_it : (d : ℕ) (b : Bool) → (d == c) ≡ b → Stands c (xs ++ (Readied i (Ended d) ∷ [])) (at (if b then close (Err fail.NoReply) else ask (i + 1) n) k s)
  ends_it d true e =
      later c xs (Readied i (Ended d) ∷ []) k s s (ask i n) (close (Err fail.NoReply)) refl refl refl (done_later xs (Readied i (Ended d) ∷ []) s.left lead.calm)
      (ended (some_now (tells_end c) xs (Readied i (Ended d) ∷ []) (rw e refl))) lead
  ends_it d false e = goes_by (Ended d)

  happened : (h : Happening) → Stands c (xs ++ (Readied i h ∷ [])) (at (of_happening c h (i + 1) n) k s)
  happened (Accepted d) = goes_by (Accepted d)
  happened (Readable d) = reads_it d (d == c)
  happened (Writable d) = goes_by (Writable d)
  happened (Ended d) = ends_it d (d == c) refl

own : (c : ℕ) → ((c == c) || false) ≡ true
own c = rw (eq-eqb c c refl) refl

calm_at_last : (xs : List Call) (left : List ℕ) → Calm xs turn 0 left → Done xs left
calm_at_last xs left (inl e) = absurd cc
calm_at_last xs left (inr d) = d

step_stands : {c : ℕ} {a b : Moment} {e : Event} → Step c a e b → (xs : List Call) → Stands c xs a → Stands c (xs ++ call_of e) b
step_stands {c = c} (goes_on {s = s} k) xs st = later c xs [] (k + 1) s s turn write refl refl refl tt tt st
step_stands {c = c} (turns_over {s = s}) xs st = later c xs [] 0 s s turn (close (Err fail.TurnsOver)) refl refl refl (done_later xs [] s.left (calm_at_last xs s.left st.calm)) refl st
step_stands {c = c} {e = e} (writes {k = k} {n = n} {s = s} lt) xs st = later c xs (call_of e) k s _ write write refl refl refl tt tt st
step_stands {c = c} {e = e} (writes_no_more {k = k} {s = s} lt) xs st = later c xs (call_of e) k s s write wait refl refl refl (held_back xs (call_of e) s.left refl) tt st
step_stands {c = c} {e = e} (writes_end {k = k} {s = s} lt) xs st =
    later c xs (call_of e) k s s write (close (Err fail.NoReply)) refl refl refl (held_back xs (call_of e) s.left refl) (ended (some_now (tells_end c) xs (call_of e) (own c))) st
step_stands {c = c} {e = e} (writes_failing {k = k} {s = s} lt) xs st = faults c xs (call_of e) k s refl (held_back xs (call_of e) s.left refl)
step_stands {c = c} (all_written {k = k} {s = s} is) xs st = later c xs [] k s s write wait refl refl refl (λ h. is) tt st
step_stands {c = c} {e = e} (waits {n = n} {s = s} k) xs st = record { calm = done_later xs (call_of e) s.left st.calm; why = tt; fails = none_now call_fails xs (call_of e) refl ∙ st.fails }
step_stands {c = c} {e = e} (waits_failing {s = s} k) xs st = faults c xs (call_of e) k s refl (done_later xs (call_of e) s.left st.calm)
step_stands {c = c} (asks {k = k} {i = i} {n = n} {h = h} {s = s} lt) xs st = happened c xs k i n s st h
step_stands {c = c} (has_asked {k = k} {n = n} {s = s}) xs st = later c xs [] k s s (ask n n) turn refl refl refl (inr (done_later xs [] s.left st.calm)) tt st
step_stands {c = c} {e = e} (reads {k = k} {i = i} {n = n} {s = s}) xs st = later c xs (call_of e) k s _ (read i n) (look i n) refl refl refl (done_later xs (call_of e) s.left st.calm) tt st
step_stands {c = c} {e = e} (reads_nothing {k = k} {i = i} {n = n} {s = s}) xs st = later c xs (call_of e) k s s (read i n) (ask i n) refl refl refl (done_later xs (call_of e) s.left st.calm) tt st
step_stands {c = c} {e = e} (reads_end {k = k} {i = i} {n = n} {s = s}) xs st =
    later c xs (call_of e) k s s (read i n) (close (Err fail.NoReply)) refl refl refl (done_later xs (call_of e) s.left st.calm) (ended (some_now (tells_end c) xs (call_of e) (own c))) st
step_stands {c = c} {e = e} (reads_failing {k = k} {i = i} {n = n} {s = s}) xs st = faults c xs (call_of e) k s refl (done_later xs (call_of e) s.left st.calm)
step_stands {c = c} (has_none {k = k} {i = i} {n = n} {s = s} h) xs st = later c xs [] k s s (look i n) (ask i n) refl refl refl (done_later xs [] s.left st.calm) tt st
step_stands {c = c} (is_too_long {k = k} {i = i} {n = n} {s = s} len h) xs st = later c xs [] k s s (look i n) (close (Err fail.NoReply)) refl refl refl (done_later xs [] s.left st.calm) (too_long len h) st
step_stands {c = c} (is_reply {k = k} {i = i} {n = n} {r = r} {s = s} rest h b) xs st = later c xs [] k s s (look i n) (close (Ok r)) refl refl refl (done_later xs [] s.left st.calm) (h, (rest, b)) st
step_stands {c = c} (is_no_reply {k = k} {i = i} {n = n} {s = s} body rest h b) xs st =
    later c xs [] k s s (look i n) (close (Err fail.NoReply)) refl refl refl (done_later xs [] s.left st.calm) (another body rest h b) st
step_stands {c = c} (has_no_memory {k = k} {i = i} {n = n} {s = s}) xs st = later c xs [] k s s (look i n) (close (Err fail.NoMemory)) refl refl refl (done_later xs [] s.left st.calm) tt st
step_stands {c = c} {e = f} (closes {k = k} {s = s} {e = e}) xs st = record {
  calm = done_later xs (call_of f) s.left st.calm;
  why = reason_later c xs (call_of f) k s e st.why;
  fails = none_now call_fails xs (call_of f) refl ∙ st.fails;
}

pub run_stands : {c : ℕ} {a b : Moment} {es : List Event} → Run c a es b → (xs : List Call) → Stands c xs a → Stands c (xs ++ calls es) b
run_stands {c = c} (none {a = a}) xs st = subst (λ (ys : List Call). Stands c ys a) (sym (append-nil xs)) st
run_stands {c = c} {b = b} (more {e = e} {es = es} step r) xs st =
    subst (λ (ys : List Call). Stands c ys b) (append_assoc xs (call_of e) (calls es)) (run_stands r (xs ++ call_of e) (step_stands step xs st))
