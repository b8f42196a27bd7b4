-- A text has one reading, which is in range.
use Rattle.std.proofs.Common.{◌≡◌, ℕ, ◌+◌, Bool, true, false, List, [], ◌∷◌, map, length, All, refl, sym, ap, subst, ◌∙◌, arith, inl, inr}
use Rattle.std.specs.Fmt.{decimal}
use Rattle.std.proofs.lemmas.Bool.{false≢true}
use Rattle.std.proofs.lemmas.Fmt.{decimal_injective}
use Rattle.std.proofs.lemmas.Slice.Eq.{bytes_eq-Decides}
use Rattle.std.proofs.lemmas.List.Elements.{All-cons}
use Rattle.op_types.specs.declared.log.Command.{Command}
use Rattle.op_runs.specs.declared.events.What.{What}
use Rattle.op_runs.specs.declared.events.What.TheVariants as what
use Rattle.op_runs.specs.declared.events.Event.{Event}
use Rattle.op_sched.specs.declared.schedule.Schedule.{Schedule}
use Rattle.op_types.specs.Ranges.{IsPid, AreRising}
use Rattle.op_runs.specs.Possible.{WhatInRange, IsCall, IsDisk}
use Rattle.op_sched.specs.Grammar.{AreSpares, AreObservers, HasServers, Course, course_of, IsHeader, IsMirrorLine, IsEventLine, IsOfBytes, IsBetweenTwo, SuitsDisks, ProposesOne, NamesSpares, NamesObservers, AreAfterObservers, AreAfterSpares, AreAfterHeader, IsFirstBadAfterObservers, IsFirstBadAfterSpares, IsFirstBadAfter, AreInRange, AreOfBytes, AreBetweenTwo, EachSuitsDisks, AreEvents, AreLines, IsSchedule, IsFirstBadEvent, IsFirstBadOf, IsFirstBadLine, AreWordsOf, what_words, words_of, lines_of, numbered_lines}
use Rattle.op_text.specs.Operations.{op_name, operands, read_words}
use Rattle.op_text.proofs.Operations.{first, after_first, no_op, one_command, one_read}
use Rattle.op_sched.proofs.EventWords.{name_of, no_mirror, no_mirror_of_observers, no_mirror_of_spares, no_observers, no_spares, no_spares_of_observers}

no_bad_event : (mirrored : Bool) (n : ℕ) (lines : List (ℕ × List ℕ)) (events : List Event) → AreEvents mirrored lines events → IsFirstBadEvent mirrored lines n → ⊥
no_bad_event mirrored n [] events good bad = absurd bad
no_bad_event mirrored n (line ∷ lines) [] good bad = absurd good
no_bad_event mirrored n (line ∷ lines) (e ∷ events) good (inl bad) = bad.1 (e.what, good.1)
no_bad_event mirrored n (line ∷ lines) (e ∷ events) good (inr bad) = no_bad_event mirrored n lines events good.2 bad.1

-- ---- one schedule

one_pid : (p q : ℕ) → IsPid p → IsPid q → decimal p ≡ decimal q → p ≡ q
one_pid p q ip iq e = decimal_injective p q (omega arith) (omega arith) e

one_call : (k l : ℕ) → IsCall k → IsCall l → decimal k ≡ decimal l → k ≡ l
one_call k l ik il e = decimal_injective k l (omega (arith, ik.1)) (omega (arith, il.1)) e

one_disk : (d e : ℕ) → IsDisk d → IsDisk e → decimal d ≡ decimal e → d ≡ e
one_disk d e id ie is = decimal_injective d e (omega (arith, id.1)) (omega (arith, ie.1)) is

one_is_not_three : (a b c d : List ℕ) → a ∷ [] ≡ b ∷ c ∷ d ∷ [] → ⊥
one_is_not_three a b c d e = omega (arith, ap (length {A = List ℕ}) e)

pub one_list : (low : ℕ) (ps qs : List ℕ) → AreRising low ps → AreRising low qs → map decimal ps ≡ map decimal qs → ps ≡ qs
one_list low [] [] hp hq e = refl
one_list low [] (q ∷ qs) hp hq e = absurd (let none : [] ≡ decimal q ∷ map decimal qs = e in cc)
one_list low (p ∷ ps) [] hp hq e = absurd (let none : decimal p ∷ map decimal ps ≡ [] = e in cc)
one_list low (p ∷ ps) (q ∷ qs) hp hq e =
    let here : p ≡ q = decimal_injective p q (omega (arith, hp.1)) (omega (arith, hq.1)) cc in
    let rest = one_list q ps qs (rw here at hp.2) hq.2 cc in
    cc (here, rest)

one_what : (w v : What) → WhatInRange w → WhatInRange v → IsOfBytes w → IsOfBytes v → ProposesOne w → ProposesOne v → what_words w ≡ what_words v → w ≡ v
one_what (what.Tick p) (what.Tick q) iw iv bw bv ow ov e = ap what.Tick (one_pid p q iw iv cc)
one_what (what.Crash p) (what.Crash q) iw iv bw bv ow ov e = ap what.Crash (one_pid p q iw iv cc)
one_what (what.CrashAt p k i) (what.CrashAt q l j) iw iv bw bv ow ov e =
    cc (one_pid p q iw.0 iv.0 cc, one_call k l iw.1 iv.1 cc, decimal_injective i j (omega (arith, iw.2)) (omega (arith, iv.2)) cc)
one_what (what.Crash p) (what.CrashAt q l j) iw iv bw bv ow ov e = absurd (one_is_not_three (decimal p) (decimal q) (decimal l) (decimal j) (ap after_first e))
one_what (what.CrashAt p k i) (what.Crash q) iw iv bw bv ow ov e = absurd (one_is_not_three (decimal q) (decimal p) (decimal k) (decimal i) (sym (ap after_first e)))
one_what (what.Fail p k) (what.Fail q l) iw iv bw bv ow ov e = cc (one_pid p q iw.0 iv.0 cc, one_call k l iw.1 iv.1 cc)
one_what (what.Kill p d) (what.Kill q f) iw iv bw bv ow ov e = cc (one_pid p q iw.0 iv.0 cc, one_disk d f iw.1 iv.1 cc)
one_what (what.Start p) (what.Start q) iw iv bw bv ow ov e = ap what.Start (one_pid p q iw iv cc)
one_what (what.Ballots p) (what.Ballots q) iw iv bw bv ow ov e = ap what.Ballots (one_pid p q iw iv cc)
one_what (what.Trim p) (what.Trim q) iw iv bw bv ow ov e = ap what.Trim (one_pid p q iw iv cc)
one_what (what.Deliver i) (what.Deliver j) iw iv bw bv ow ov e = ap what.Deliver (decimal_injective i j iw iv cc)
one_what (what.Up p q) (what.Up r s) iw iv bw bv ow ov e = cc (one_pid p r iw.0 iv.0 cc, one_pid q s iw.1 iv.1 cc)
one_what (what.Down p q) (what.Down r s) iw iv bw bv ow ov e = cc (one_pid p r iw.0 iv.0 cc, one_pid q s iw.1 iv.1 cc)
one_what (what.Show p) (what.Show q) iw iv bw bv ow ov e = ap what.Show (one_pid p q iw iv cc)
one_what (what.Stop p ms) (what.Stop q ns) iw iv bw bv ow ov e =
    let rest = ap after_first e in
    let same : p ≡ q = one_pid p q iw.0 iv.0 (ap first rest) in
    let members : ms ≡ ns = one_list 0 ms ns iw.1.rising iv.1.rising (ap after_first rest) in
    ap (λ (x : ℕ). what.Stop x ms) same ∙ ap (what.Stop q) members
one_what (what.Read p r) (what.Read q s) iw iv bw bv ow ov e =
    let rest = ap after_first e in
    let same : p ≡ q = one_pid p q iw.0 iv.0 (ap first rest) in
    let reads = one_read (read_words r) r s (record { in_range = iw.1; of_bytes = bw; written = refl }) (record { in_range = iv.1; of_bytes = bv; written = ap after_first rest }) in
    ap (λ (x : ℕ). what.Read x r) same ∙ ap (what.Read q) reads
one_what (what.Commands p []) v iw iv bw bv ow ov e = absurd (omega (arith, ow))
one_what (what.Commands p (c ∷ (b ∷ cs))) v iw iv bw bv ow ov e = absurd (omega (arith, ow))
one_what w (what.Commands q []) iw iv bw bv ow ov e = absurd (omega (arith, ov))
one_what w (what.Commands q (d ∷ (b ∷ ds))) iw iv bw bv ow ov e = absurd (omega (arith, ov))
one_what (what.Commands p (c ∷ [])) (what.Commands q (d ∷ [])) iw iv bw bv ow ov e =
    let same : p ≡ q = one_pid p q iw.0 iv.0 cc in
    let name : op_name c.op ≡ op_name d.op = cc in
    let client : decimal c.client ≡ decimal d.client = cc in
    let seq : decimal c.seq ≡ decimal d.seq = cc in
    let words : operands c.op ≡ operands d.op = cc in
    let here = one_command c d (iw.1.each 0 c (omega arith)) (iv.1.each 0 d (omega arith)) (bw 0 c (omega arith)) (bv 0 d (omega arith)) name client seq words in
    ap (λ (x : ℕ). what.Commands x (c ∷ [])) same ∙ ap (λ (x : Command). what.Commands q (x ∷ [])) here
one_what (what.Commands p (c ∷ [])) v iw iv bw bv ow ov e = absurd (no_op c.op (name_of v) refl (ap first e))
one_what w (what.Commands q (d ∷ [])) iw iv bw bv ow ov e = absurd (no_op d.op (name_of w) refl (sym (ap first e)))
one_what w v iw iv bw bv ow ov e = absurd (false≢true ((bytes_eq-Decides (name_of w) (name_of v)).1 (ap first e)))

abbrev event : ℕ → What → Event
event line w = record { line = line; what = w }

-- words say one thing
pub one_said : (words : List (List ℕ)) (w v : What) → AreWordsOf words w → AreWordsOf words v → w ≡ v
one_said words w v p q = one_what w v p.in_range q.in_range p.of_bytes q.of_bytes p.one q.one (sym p.written ∙ q.written)

-- a line of what doesn't suit the disks is of nothing else
pub none_suits_disks : (mirrored : Bool) (words : List (List ℕ)) (w : What) → AreWordsOf words w → (SuitsDisks mirrored w → ⊥) → (x : What) → AreWordsOf words x × SuitsDisks mirrored x → ⊥
none_suits_disks mirrored words w says none x h = none (subst (SuitsDisks mirrored) (one_said words x w h.0 says) h.1)

one_events : (mirrored : Bool) (lines : List (ℕ × List ℕ)) (es fs : List Event) → AreEvents mirrored lines es → AreEvents mirrored lines fs → es ≡ fs
one_events mirrored [] [] [] p q = refl
one_events mirrored [] [] (f ∷ fs) p q = absurd q
one_events mirrored [] (e ∷ es) fs p q = absurd p
one_events mirrored (line ∷ lines) [] fs p q = absurd p
one_events mirrored (line ∷ lines) (e ∷ es) [] p q = absurd q
one_events mirrored (line ∷ lines) (e ∷ es) (f ∷ fs) p q =
    let same = one_said (words_of line.1) e.what f.what p.1.0 q.1.0 in
    let here : e ≡ f = ap (λ (n : ℕ). event n e.what) (p.0 ∙ sym q.0) ∙ ap (event f.line) same in
    let rest = one_events mirrored lines es fs p.2 q.2 in
    cc (here, rest)

one_header : (line : List ℕ) (ps qs : List ℕ) → IsHeader line ps → IsHeader line qs → ps ≡ qs
one_header line ps qs p q = one_list 0 ps qs p.in_range.rising q.in_range.rising (ap after_first (sym p.written ∙ q.written))

-- ---- what follows the observers

-- a line that mirrors the disks is no event's
no_mirror_there : (mirrored : Bool) (line : ℕ × List ℕ) (lines : List (ℕ × List ℕ)) (events : List Event) → IsMirrorLine line.1 → AreEvents mirrored (line ∷ lines) events → ⊥
no_mirror_there mirrored line lines [] mirror good = good
no_mirror_there mirrored line lines (e ∷ events) mirror good = no_mirror line.1 e.what mirror good.1.0

-- a line whose words begin with a name that is neither that line's nor an event's is none of those
abbrev NoneBegins : List ℕ → Type 0
NoneBegins line = (IsMirrorLine line → ⊥) × ((w : What) → AreWordsOf (words_of line) w → ⊥)

none_there : (line : ℕ × List ℕ) (lines : List (ℕ × List ℕ)) (mirrored : Bool) (events : List Event) → NoneBegins line.1 → AreAfterObservers (line ∷ lines) mirrored events → ⊥
none_there line lines true events none good = none.0 good.0
none_there line lines false [] none good = good
none_there line lines false (e ∷ events) none good = none.1 e.what good.1.0

spares_begin : (members : List ℕ) (line : List ℕ) → NamesSpares members line → NoneBegins line
spares_begin members line spares =
    (λ mirror. no_mirror_of_spares line (map decimal spares.0) mirror spares.1.written, λ w h. no_spares (words_of line) (map decimal spares.0) w spares.1.written h)

observers_begin : (members spares : List ℕ) (line : List ℕ) → NamesObservers members spares line → NoneBegins line
observers_begin members spares line observers =
    (λ mirror. no_mirror_of_observers line (map decimal observers.0) mirror observers.1.written, λ w h. no_observers (words_of line) (map decimal observers.0) w observers.1.written h)

no_bad_after_observers : (lines : List (ℕ × List ℕ)) (mirrored : Bool) (events : List Event) (n : ℕ) → AreAfterObservers lines mirrored events → IsFirstBadAfterObservers lines n → ⊥
no_bad_after_observers [] mirrored events n good bad = bad
no_bad_after_observers (line ∷ lines) true events n good (inl bad) = no_bad_event true n lines events good.1 bad.1
no_bad_after_observers (line ∷ lines) true events n good (inr bad) = bad.0 good.0
no_bad_after_observers (line ∷ lines) false events n good (inl bad) = no_mirror_there false line lines events bad.0 good
no_bad_after_observers (line ∷ lines) false events n good (inr bad) = no_bad_event false n (line ∷ lines) events good bad.1

one_after_observers : (lines : List (ℕ × List ℕ)) (m k : Bool) (es fs : List Event) → AreAfterObservers lines m es → AreAfterObservers lines k fs → (m ≡ k) × (es ≡ fs)
one_after_observers lines false false es fs p q = (refl, one_events false lines es fs p q)
one_after_observers [] true k es fs p q = absurd p
one_after_observers [] m true es fs p q = absurd q
one_after_observers (line ∷ lines) true true es fs p q = (refl, one_events true lines es fs p.1 q.1)
one_after_observers (line ∷ lines) true false es fs p q = absurd (no_mirror_there false line lines fs p.0 q)
one_after_observers (line ∷ lines) false true es fs p q = absurd (no_mirror_there false line lines es q.0 p)

-- ---- what follows the spares

abbrev course : List ℕ → Bool → List Event → Course
course observers mirrored events = record { observers = observers; mirrored = mirrored; events = events }

no_bad_after_spares : (members spares : List ℕ) (lines : List (ℕ × List ℕ)) (c : Course) (n : ℕ) → AreAfterSpares members spares lines c → IsFirstBadAfterSpares members spares lines n → ⊥
no_bad_after_spares members spares [] c n good bad = bad
no_bad_after_spares members spares (line ∷ lines) c n (inl good) (inl bad) = no_bad_after_observers lines c.mirrored c.events n good.1 bad.1
no_bad_after_spares members spares (line ∷ lines) c n (inl good) (inr bad) = bad.0 (c.observers, good.0)
no_bad_after_spares members spares (line ∷ lines) c n (inr good) (inl bad) = none_there line lines c.mirrored c.events (observers_begin members spares line.1 bad.0) good.1
no_bad_after_spares members spares (line ∷ lines) c n (inr good) (inr bad) = no_bad_after_observers (line ∷ lines) c.mirrored c.events n good.1 bad.1

-- the same is said of the observers, of mirrored disks and of the events
one_course : (c d : Course) → c.observers ≡ d.observers → (c.mirrored ≡ d.mirrored) × (c.events ≡ d.events) → c ≡ d
one_course c d observers rest =
    ap (λ (os : List ℕ). course os c.mirrored c.events) observers ∙ ap (λ (m : Bool). course d.observers m c.events) rest.0 ∙ ap (course d.observers d.mirrored) rest.1

one_after_spares : (members spares : List ℕ) (lines : List (ℕ × List ℕ)) (c d : Course) → AreAfterSpares members spares lines c → AreAfterSpares members spares lines d → c ≡ d
one_after_spares members spares [] c d (inl p) q = absurd p
one_after_spares members spares [] c d p (inl q) = absurd q
one_after_spares members spares (line ∷ lines) c d (inl p) (inl q) =
    one_course c d (one_list 0 c.observers d.observers p.0.in_range.in_range.rising q.0.in_range.in_range.rising (ap after_first (sym p.0.written ∙ q.0.written)))
    (one_after_observers lines c.mirrored d.mirrored c.events d.events p.1 q.1)
one_after_spares members spares (line ∷ lines) c d (inl p) (inr q) = absurd (none_there line lines d.mirrored d.events (observers_begin members spares line.1 (c.observers, p.0)) q.1)
one_after_spares members spares (line ∷ lines) c d (inr p) (inl q) = absurd (none_there line lines c.mirrored c.events (observers_begin members spares line.1 (d.observers, q.0)) p.1)
one_after_spares members spares lines c d (inr p) (inr q) = one_course c d (p.0 ∙ sym q.0) (one_after_observers lines c.mirrored d.mirrored c.events d.events p.1 q.1)

-- ---- what follows the header

-- a line of spares is none of those after it
no_spares_there : (members others : List ℕ) (line : ℕ × List ℕ) (lines : List (ℕ × List ℕ)) (c : Course) → NamesSpares members line.1 → AreAfterSpares members others (line ∷ lines) c → ⊥
no_spares_there members others line lines c spares (inl good) = no_spares_of_observers (words_of line.1) (map decimal spares.0) (map decimal c.observers) spares.1.written good.0.written
no_spares_there members others line lines c spares (inr good) = none_there line lines c.mirrored c.events (spares_begin members line.1 spares) good.1

no_bad_after : (members : List ℕ) (lines : List (ℕ × List ℕ)) (spares : List ℕ) (c : Course) (n : ℕ) → AreAfterHeader members lines spares c → IsFirstBadAfter members lines n → ⊥
no_bad_after members [] spares c n good bad = bad
no_bad_after members (line ∷ lines) spares c n (inl good) (inl bad) =
    let same : bad.0 ≡ spares = one_list 0 bad.0 spares bad.1.in_range.in_range.rising good.0.in_range.in_range.rising (ap after_first (sym bad.1.written ∙ good.0.written)) in
    no_bad_after_spares members spares lines c n good.1 (subst (λ (ss : List ℕ). IsFirstBadAfterSpares members ss lines n) same bad.2)
no_bad_after members (line ∷ lines) spares c n (inl good) (inr bad) = bad.0 (spares, good.0)
no_bad_after members (line ∷ lines) spares c n (inr good) (inl bad) = no_spares_there members [] line lines c (bad.0, bad.1) good.1
no_bad_after members (line ∷ lines) spares c n (inr good) (inr bad) = no_bad_after_spares members [] (line ∷ lines) c n good.1 bad.1

no_bad_of : (end : ℕ) (lines : List (ℕ × List ℕ)) (s : Schedule) (n : ℕ) → AreLines lines s → IsFirstBadOf end lines n → ⊥
no_bad_of end [] s n good bad = absurd good
no_bad_of end (header ∷ lines) s n good (inl bad) = bad.1 (s.members, good.0)
no_bad_of end (header ∷ lines) s n good (inr bad) =
    let same : bad.0 ≡ s.members = one_header header.1 bad.0 s.members bad.1 good.0 in
    no_bad_after s.members lines s.spares (course_of s) n good.1 (subst (λ (ms : List ℕ). IsFirstBadAfter ms lines n) same bad.2)

-- a schedule's text has no bad line
pub no_bad_line : (text : List ℕ) (s : Schedule) (n : ℕ) → IsSchedule text s → IsFirstBadLine text n → ⊥
no_bad_line text s n good bad = no_bad_of (length (lines_of text) + 1) (numbered_lines 1 text) s n good bad

one_after : (members : List ℕ) (lines : List (ℕ × List ℕ)) (ps qs : List ℕ) (c d : Course) → AreAfterHeader members lines ps c → AreAfterHeader members lines qs d → (ps ≡ qs) × (c ≡ d)
one_after members [] ps qs c d (inl p) q = absurd p
one_after members [] ps qs c d p (inl q) = absurd q
one_after members (line ∷ lines) ps qs c d (inl p) (inl q) =
    let same : ps ≡ qs = one_list 0 ps qs p.0.in_range.in_range.rising q.0.in_range.in_range.rising (ap after_first (sym p.0.written ∙ q.0.written)) in
    (same, one_after_spares members qs lines c d (subst (λ (ss : List ℕ). AreAfterSpares members ss lines c) same p.1) q.1)
one_after members (line ∷ lines) ps qs c d (inl p) (inr q) = absurd (no_spares_there members [] line lines d (ps, p.0) q.1)
one_after members (line ∷ lines) ps qs c d (inr p) (inl q) = absurd (no_spares_there members [] line lines c (qs, q.0) p.1)
one_after members lines ps qs c d (inr p) (inr q) = (p.0 ∙ sym q.0, one_after_spares members [] lines c d p.1 q.1)

-- a schedule of these members and spares, with this course
abbrev schedule : List ℕ → List ℕ → Course → Schedule
schedule members spares c = record { members = members; spares = spares; observers = c.observers; is_mirrored = c.mirrored; events = c.events }

one_of : (lines : List (ℕ × List ℕ)) (s t : Schedule) → AreLines lines s → AreLines lines t → s ≡ t
one_of [] s t p q = absurd p
one_of (header ∷ lines) s t p q =
    let same : s.members ≡ t.members = one_header header.1 s.members t.members p.0 q.0 in
    let after : AreAfterHeader s.members lines t.spares (course_of t) = subst (λ (ms : List ℕ). AreAfterHeader ms lines t.spares (course_of t)) (sym same) q.1 in
    let rest = one_after s.members lines s.spares t.spares (course_of s) (course_of t) p.1 after in
    ap (λ (ms : List ℕ). schedule ms s.spares (course_of s)) same ∙ ap (λ (ms : List ℕ). schedule t.members ms (course_of s)) rest.0 ∙ ap (schedule t.members t.spares) rest.1

-- a text is one schedule's
pub one_schedule : (text : List ℕ) (s t : Schedule) → IsSchedule text s → IsSchedule text t → s ≡ t
one_schedule text s t p q = one_of (numbered_lines 1 text) s t p q

-- ---- one bad line

one_bad_event : (mirrored : Bool) (m n : ℕ) (lines : List (ℕ × List ℕ)) → IsFirstBadEvent mirrored lines m → IsFirstBadEvent mirrored lines n → m ≡ n
one_bad_event mirrored m n [] p q = absurd p
one_bad_event mirrored m n (line ∷ lines) (inl p) (inl q) = p.0 ∙ sym q.0
one_bad_event mirrored m n (line ∷ lines) (inl p) (inr q) = absurd (p.1 q.0)
one_bad_event mirrored m n (line ∷ lines) (inr p) (inl q) = absurd (q.1 p.0)
one_bad_event mirrored m n (line ∷ lines) (inr p) (inr q) = one_bad_event mirrored m n lines p.1 q.1

one_bad_after_observers : (lines : List (ℕ × List ℕ)) (m n : ℕ) → IsFirstBadAfterObservers lines m → IsFirstBadAfterObservers lines n → m ≡ n
one_bad_after_observers [] m n p q = absurd p
one_bad_after_observers (line ∷ lines) m n (inl p) (inl q) = one_bad_event true m n lines p.1 q.1
one_bad_after_observers (line ∷ lines) m n (inl p) (inr q) = absurd (q.0 p.0)
one_bad_after_observers (line ∷ lines) m n (inr p) (inl q) = absurd (p.0 q.0)
one_bad_after_observers (line ∷ lines) m n (inr p) (inr q) = one_bad_event false m n (line ∷ lines) p.1 q.1

one_bad_after_spares : (members spares : List ℕ) (lines : List (ℕ × List ℕ)) (m n : ℕ) → IsFirstBadAfterSpares members spares lines m → IsFirstBadAfterSpares members spares lines n → m ≡ n
one_bad_after_spares members spares [] m n p q = absurd p
one_bad_after_spares members spares (line ∷ lines) m n (inl p) (inl q) = one_bad_after_observers lines m n p.1 q.1
one_bad_after_spares members spares (line ∷ lines) m n (inl p) (inr q) = absurd (q.0 p.0)
one_bad_after_spares members spares (line ∷ lines) m n (inr p) (inl q) = absurd (p.0 q.0)
one_bad_after_spares members spares (line ∷ lines) m n (inr p) (inr q) = one_bad_after_observers (line ∷ lines) m n p.1 q.1

one_bad_after : (members : List ℕ) (lines : List (ℕ × List ℕ)) (m n : ℕ) → IsFirstBadAfter members lines m → IsFirstBadAfter members lines n → m ≡ n
one_bad_after members [] m n p q = absurd p
one_bad_after members (line ∷ lines) m n (inl p) (inl q) =
    let same : p.0 ≡ q.0 = one_list 0 p.0 q.0 p.1.in_range.in_range.rising q.1.in_range.in_range.rising (ap after_first (sym p.1.written ∙ q.1.written)) in
    one_bad_after_spares members q.0 lines m n (subst (λ (ss : List ℕ). IsFirstBadAfterSpares members ss lines m) same p.2) q.2
one_bad_after members (line ∷ lines) m n (inl p) (inr q) = absurd (q.0 (p.0, p.1))
one_bad_after members (line ∷ lines) m n (inr p) (inl q) = absurd (p.0 (q.0, q.1))
one_bad_after members (line ∷ lines) m n (inr p) (inr q) = one_bad_after_spares members [] (line ∷ lines) m n p.1 q.1

one_bad_of : (end : ℕ) (lines : List (ℕ × List ℕ)) (m n : ℕ) → IsFirstBadOf end lines m → IsFirstBadOf end lines n → m ≡ n
one_bad_of end [] m n p q = p ∙ sym q
one_bad_of end (header ∷ lines) m n (inl p) (inl q) = p.0 ∙ sym q.0
one_bad_of end (header ∷ lines) m n (inl p) (inr q) = absurd (p.1 (q.0, q.1))
one_bad_of end (header ∷ lines) m n (inr p) (inl q) = absurd (q.1 (p.0, p.1))
one_bad_of end (header ∷ lines) m n (inr p) (inr q) =
    let same : p.0 ≡ q.0 = one_header header.1 p.0 q.0 p.1 q.1 in
    one_bad_after q.0 lines m n (subst (λ (ms : List ℕ). IsFirstBadAfter ms lines m) same p.2) q.2

-- a text has one first bad line
pub one_bad_line : (text : List ℕ) (m n : ℕ) → IsFirstBadLine text m → IsFirstBadLine text n → m ≡ n
one_bad_line text m n p q = one_bad_of (length (lines_of text) + 1) (numbered_lines 1 text) m n p q

-- ---- what a schedule says is in range

no_spares_are : (members : List ℕ) → AreSpares members []
no_spares_are members = record { few = omega arith; in_range = record { rising = tt; apart = λ q here there. false≢true here } }

no_observers_are : (members spares : List ℕ) → AreObservers members spares []
no_observers_are members spares = record { few = omega arith; in_range = record { rising = tt; no_member = λ q here there. false≢true here; no_spare = λ q here there. false≢true here } }

spares_after : (members : List ℕ) (lines : List (ℕ × List ℕ)) (spares : List ℕ) (c : Course) → AreAfterHeader members lines spares c → AreSpares members spares
spares_after members [] spares c (inl p) = absurd p
spares_after members (line ∷ lines) spares c (inl p) = p.0.in_range
spares_after members lines spares c (inr p) = subst (AreSpares members) (sym p.0) (no_spares_are members)

observers_after : (members spares : List ℕ) (lines : List (ℕ × List ℕ)) (c : Course) → AreAfterSpares members spares lines c → AreObservers members spares c.observers
observers_after members spares [] c (inl p) = absurd p
observers_after members spares (line ∷ lines) c (inl p) = p.0.in_range
observers_after members spares lines c (inr p) = subst (AreObservers members spares) (sym p.0) (no_observers_are members spares)

observers_of : (members : List ℕ) (lines : List (ℕ × List ℕ)) (spares : List ℕ) (c : Course) → AreAfterHeader members lines spares c → AreObservers members spares c.observers
observers_of members [] spares c (inl p) = absurd p
observers_of members (line ∷ lines) spares c (inl p) = observers_after members spares lines c p.1
observers_of members lines spares c (inr p) = subst (λ (ss : List ℕ). AreObservers members ss c.observers) (sym p.0) (observers_after members [] lines c p.1)

servers_of_lines : (lines : List (ℕ × List ℕ)) (s : Schedule) → AreLines lines s → HasServers s
servers_of_lines [] s p = absurd p
servers_of_lines (header ∷ lines) s p =
    record { members = p.0.in_range; spares = spares_after s.members lines s.spares (course_of s) p.1; observers = observers_of s.members lines s.spares (course_of s) p.1 }

-- a schedule's servers are so many at most, and in range
pub has_servers : (text : List ℕ) (s : Schedule) → IsSchedule text s → HasServers s
has_servers text s p = servers_of_lines (numbered_lines 1 text) s p

-- what each line promises of its event
abbrev EachIs : (What → Type 0) → List Event → Type 0
EachIs P events = All (λ e. P e.what) events

module _ (P : Bool → What → Type 0) (by : (mirrored : Bool) (line : List ℕ) (w : What) → IsEventLine mirrored line w → P mirrored w) where
  each_of_lines : (mirrored : Bool) (lines : List (ℕ × List ℕ)) (events : List Event) → AreEvents mirrored lines events → EachIs (P mirrored) events
  each_of_lines mirrored [] [] p = λ i d lt. absurd (omega arith)
  each_of_lines mirrored [] (e ∷ events) p = absurd p
  each_of_lines mirrored (line ∷ lines) [] p = absurd p
  each_of_lines mirrored (line ∷ lines) (e ∷ events) p = All-cons (λ (f : Event). P mirrored f.what) e events (by mirrored line.1 e.what p.1) (each_of_lines mirrored lines events p.2)

  each_after_observers : (lines : List (ℕ × List ℕ)) (mirrored : Bool) (events : List Event) → AreAfterObservers lines mirrored events → EachIs (P mirrored) events
  each_after_observers lines false events p = each_of_lines false lines events p
  each_after_observers [] true events p = absurd p
  each_after_observers (line ∷ lines) true events p = each_of_lines true lines events p.1

  each_after_spares : (members spares : List ℕ) (lines : List (ℕ × List ℕ)) (c : Course) → AreAfterSpares members spares lines c → EachIs (P c.mirrored) c.events
  each_after_spares members spares [] c (inl p) = absurd p
  each_after_spares members spares (line ∷ lines) c (inl p) = each_after_observers lines c.mirrored c.events p.1
  each_after_spares members spares lines c (inr p) = each_after_observers lines c.mirrored c.events p.1

  each_after : (members : List ℕ) (lines : List (ℕ × List ℕ)) (spares : List ℕ) (c : Course) → AreAfterHeader members lines spares c → EachIs (P c.mirrored) c.events
  each_after members [] spares c (inl p) = absurd p
  each_after members (line ∷ lines) spares c (inl p) = each_after_spares members spares lines c p.1
  each_after members lines spares c (inr p) = each_after_spares members [] lines c p.1

  each_of : (lines : List (ℕ × List ℕ)) (s : Schedule) → AreLines lines s → EachIs (P s.is_mirrored) s.events
  each_of [] s p = absurd p
  each_of (header ∷ lines) s p = each_after s.members lines s.spares (course_of s) p.1

-- each event of a schedule is in range
pub events_in_range : (text : List ℕ) (s : Schedule) → IsSchedule text s → AreInRange s.events
events_in_range text s p = each_of (λ mirrored. WhatInRange) (λ mirrored line w h. h.0.in_range) (numbered_lines 1 text) s p

-- the keys and values of a schedule are bytes
pub events_of_bytes : (text : List ℕ) (s : Schedule) → IsSchedule text s → AreOfBytes s.events
events_of_bytes text s p = each_of (λ mirrored. IsOfBytes) (λ mirrored line w h. h.0.of_bytes) (numbered_lines 1 text) s p

-- the sessions of a schedule are between two servers
pub events_between_two : (text : List ℕ) (s : Schedule) → IsSchedule text s → AreBetweenTwo s.events
events_between_two text s p = each_of (λ mirrored. IsBetweenTwo) (λ mirrored line w h. h.0.between) (numbered_lines 1 text) s p

-- each event of a schedule suits the nodes' disks
pub events_suit_disks : (text : List ℕ) (s : Schedule) → IsSchedule text s → EachSuitsDisks s.is_mirrored s.events
events_suit_disks text s p = each_of SuitsDisks (λ mirrored line w h. h.1) (numbered_lines 1 text) s p
