-- What is said in words has a name, which comes first, and a session's servers differ.
use Rattle.std.proofs.Common.{Bool, true, false, Result, ◌≡◌, ℕ, List, [], ◌∷◌, get_or, length, take, drop, ◌-◌, ◌<◌, ◌≤◌, refl, sym, ap, subst, ◌∙◌, map, arith, length-drop}
use Rattle.std.proofs.lemmas.List.{length-map, drop-map, take_all}
use Rattle.std.specs.Fmt.{decimal}
use Rattle.op_types.proofs.Small.{one_command_fits}
use Rattle.std.proofs.lemmas.Fmt.{decimal_injective}
use Rattle.std.specs.Prelude.{codes}
use Rattle.std.specs.Result.{IfOk}
use Rattle.std.proofs.lemmas.Bool.{false≢true}
use Rattle.std.proofs.lemmas.Result.{IfOk-weaker}
use Rattle.std.proofs.lemmas.Slice.Eq.{bytes_eq-Decides}
use Rattle.op_types.specs.declared.log.Op.{Op}
use Rattle.op_types.specs.declared.log.Op.TheVariants.{Put, Del, Get, Cas, Many, Forget}
use Rattle.op_runs.specs.declared.events.What.{What}
use Rattle.op_runs.specs.declared.events.What.TheVariants as what
use Rattle.op_runs.specs.declared.events.Event.{Event}
use Rattle.op_runs.specs.Possible.{WhatInRange}
use Rattle.op_types.specs.declared.log.Command.{Command}
use Rattle.op_types.specs.declared.read.Read.{Read}
use Rattle.op_types.specs.Ranges.{IsPid, IsNumber, CommandInRange}
use Rattle.op_sched.specs.declared.reading.forms.Form.{Form}
use Rattle.op_sched.specs.declared.reading.forms.Form.TheVariants as form
use Rattle.op_sched.specs.declared.reading.operations.OpForm.{OpForm}
use Rattle.op_sched.specs.declared.reading.operations.OpForm.TheVariants as op_form
use Rattle.op_sched.specs.Forms.{Adds, op_form_name, form_name, ArePeers, AreCallOf, AreDiskOf, AreStopOf}
use Rattle.std.proofs.lemmas.List.Elements.{All-nil, All-cons}
use Rattle.op_text.specs.Operations.{OpIsOfBytes, AreOperandsOf, op_name, operands}
use Rattle.op_text.proofs.Operations.{first, after_first, few_operands, is_op_name, no_op}
use Rattle.op_sched.specs.Grammar.{ProposesOne, AreWordsOf, IsEventLine, IsMirrorLine, SuitsDisks, op_words, what_words, words_of}
use Rattle.op_sched.specs.declared.reading.words.TheConstants.{MOST_WORDS}
use Rattle.op_sched.proofs.WordLists.{said_by_all, said_by_first, word_at}

-- ---- the name

-- the form of an operation
abbrev pub op_form_by : Op → OpForm
op_form_by (Put k v) = op_form.Put
op_form_by (Del k) = op_form.Del
op_form_by (Get k) = op_form.Get
op_form_by (Cas k v u) = op_form.Cas
op_form_by (Many ws) = op_form.Many
op_form_by (Forget client) = op_form.Forget

-- the form of what happens
abbrev pub form_by : What → Form
form_by (what.Tick p) = form.Tick
form_by (what.Commands p []) = form.Tick
form_by (what.Commands p (c ∷ cs)) = form.Command (op_form_by c.op)
form_by (what.Stop p members) = form.Stop
form_by (what.Trim p) = form.Trim
form_by (what.Read p r) = form.Read
form_by (what.Deliver i) = form.Deliver
form_by (what.Up p q) = form.Up
form_by (what.Down p q) = form.Drop
form_by (what.Crash p) = form.Crash
form_by (what.CrashAt p call image) = form.Crash
form_by (what.Fail p call) = form.Fail
form_by (what.Kill p disk) = form.Kill
form_by (what.Start p) = form.Start
form_by (what.Show p) = form.Show
form_by (what.Ballots p) = form.Ballots

-- the name of what happens
abbrev pub name_of : What → List ℕ
name_of w = first (what_words w)

op_named : (op : Op) → op_name op ≡ op_form_name (op_form_by op)
op_named (Put k v) = refl
op_named (Del k) = refl
op_named (Get k) = refl
op_named (Cas k v u) = refl
op_named (Many ws) = refl
op_named (Forget client) = refl

-- it is that of its form
named : (w : What) → ProposesOne w → name_of w ≡ form_name (form_by w)
named (what.Commands p []) one = absurd (omega (arith, one))
named (what.Commands p (c ∷ [])) one = op_named c.op
named (what.Commands p (c ∷ (d ∷ cs))) one = absurd (omega (arith, one))
named (what.Tick p) one = refl
named (what.Stop p members) one = refl
named (what.Trim p) one = refl
named (what.Read p r) one = refl
named (what.Deliver i) one = refl
named (what.Up p q) one = refl
named (what.Down p q) one = refl
named (what.Crash p) one = refl
named (what.CrashAt p call image) one = refl
named (what.Fail p call) one = refl
named (what.Kill p disk) one = refl
named (what.Start p) one = refl
named (what.Show p) one = refl
named (what.Ballots p) one = refl

form_has_op_name : (f : OpForm) → is_op_name (op_form_name f) ≡ true
form_has_op_name op_form.Put = refl
form_has_op_name op_form.Del = refl
form_has_op_name op_form.Get = refl
form_has_op_name op_form.Cas = refl
form_has_op_name op_form.Many = refl
form_has_op_name op_form.Forget = refl

-- a word that names no form begins no event's line
pub no_event : (name : List ℕ) (words : List (List ℕ)) → ((f : Form) → name ≡ form_name f → ⊥) → (w : What) → AreWordsOf (name ∷ words) w → ⊥
no_event name words none w h = none (form_by w) (ap first h.written ∙ named w h.one)

-- words that begin with an operation's name are a command's, and there are three at least behind it
pub no_command : {A : Type 0} (now : A → List ℕ) (words : List A) (f : OpForm) → length words < 3 → (w : What) → AreWordsOf (op_form_name f ∷ map now words) w → ⊥
no_command now words f short (what.Commands p []) h = absurd (omega (arith, h.one))
no_command now words f short (what.Commands p (c ∷ (d ∷ cs))) h = absurd (omega (arith, h.one))
no_command now words f short (what.Commands p (c ∷ [])) h =
    let long : map now words ≡ decimal p ∷ decimal c.client ∷ decimal c.seq ∷ operands c.op = ap after_first h.written in
    omega (arith, short, sym (length-map words now) ∙ ap length long)
no_command now words f short w h = false≢true (sym (ap is_op_name (ap first h.written)) ∙ form_has_op_name f)

-- a line that mirrors the disks is no event's
no_form_of_mirror : (f : Form) → codes "mirror" ≡ form_name f → ⊥
no_form_of_mirror (form.Command f) e = false≢true (ap is_op_name e ∙ form_has_op_name f)
no_form_of_mirror f e = absurd (false≢true ((bytes_eq-Decides (codes "mirror") (form_name f)).1 e))

pub no_mirror : (line : List ℕ) (w : What) → IsMirrorLine line → AreWordsOf (words_of line) w → ⊥
no_mirror line w e h = no_form_of_mirror (form_by w) (ap (λ (l : List ℕ). first (words_of l)) (sym e) ∙ ap first h.written ∙ named w h.one)

-- nor of spares
pub no_mirror_of_spares : (line : List ℕ) (ids : List (List ℕ)) → IsMirrorLine line → words_of line ≡ codes "spares" ∷ ids → ⊥
no_mirror_of_spares line ids e is =
    false≢true ((bytes_eq-Decides (codes "mirror") (codes "spares")).1 (ap (λ (l : List ℕ). first (words_of l)) (sym e) ∙ ap first is))

-- a line of spares is no event's
no_form_of_spares : (f : Form) → codes "spares" ≡ form_name f → ⊥
no_form_of_spares (form.Command f) e = false≢true (ap is_op_name e ∙ form_has_op_name f)
no_form_of_spares f e = absurd (false≢true ((bytes_eq-Decides (codes "spares") (form_name f)).1 e))

pub no_spares : (words ids : List (List ℕ)) (w : What) → words ≡ codes "spares" ∷ ids → AreWordsOf words w → ⊥
no_spares words ids w e h = no_form_of_spares (form_by w) (ap first (sym e ∙ h.written) ∙ named w h.one)

-- nor are observers' lines: they mirror nothing, name no spares, and are no event's
pub no_mirror_of_observers : (line : List ℕ) (ids : List (List ℕ)) → IsMirrorLine line → words_of line ≡ codes "observers" ∷ ids → ⊥
no_mirror_of_observers line ids e is =
    false≢true ((bytes_eq-Decides (codes "mirror") (codes "observers")).1 (ap (λ (l : List ℕ). first (words_of l)) (sym e) ∙ ap first is))

pub no_spares_of_observers : (words ids others : List (List ℕ)) → words ≡ codes "spares" ∷ ids → words ≡ codes "observers" ∷ others → ⊥
no_spares_of_observers words ids others a b = false≢true ((bytes_eq-Decides (codes "spares") (codes "observers")).1 (ap first (sym a ∙ b)))

no_form_of_observers : (f : Form) → codes "observers" ≡ form_name f → ⊥
no_form_of_observers (form.Command f) e = false≢true (ap is_op_name e ∙ form_has_op_name f)
no_form_of_observers f e = absurd (false≢true ((bytes_eq-Decides (codes "observers") (form_name f)).1 e))

pub no_observers : (words ids : List (List ℕ)) (w : What) → words ≡ codes "observers" ∷ ids → AreWordsOf words w → ⊥
no_observers words ids w e h = no_form_of_observers (form_by w) (ap first (sym e ∙ h.written) ∙ named w h.one)

-- ---- how many words

few_words : (w : What) → WhatInRange w → ProposesOne w → length (what_words w) < MOST_WORDS
few_words (what.Commands p []) range one = absurd (omega (arith, one))
few_words (what.Commands p (c ∷ [])) range one = omega (arith, few_operands c.op (range.1.each 0 c (omega arith)).op)
few_words (what.Commands p (c ∷ (d ∷ cs))) range one = absurd (omega (arith, one))
few_words (what.Stop p members) range one = omega (arith, length-map members decimal, range.1.few)
few_words (what.Tick p) range one = omega arith
few_words (what.Trim p) range one = omega arith
few_words (what.Read p r) range one = omega arith
few_words (what.Deliver i) range one = omega arith
few_words (what.Up p q) range one = omega arith
few_words (what.Down p q) range one = omega arith
few_words (what.Crash p) range one = omega arith
few_words (what.CrashAt p call image) range one = omega arith
few_words (what.Fail p call) range one = omega arith
few_words (what.Kill p disk) range one = omega arith
few_words (what.Start p) range one = omega arith
few_words (what.Show p) range one = omega arith
few_words (what.Ballots p) range one = omega arith

-- what words say has fewer words than are read of a line
pub few_event_words : (words : List (List ℕ)) (w : What) → AreWordsOf words w → length words < MOST_WORDS
few_event_words words w h = omega (arith, ap (length {A = List ℕ}) h.written, few_words w h.in_range h.one)

-- the first words of a line add what all add
pub line_adds : {E : Type 0} (mirrored : Bool) (line : List ℕ) (words : List (List ℕ)) (number : ℕ) (old new : List Event) → words ≡ take MOST_WORDS (words_of line) → (r : Result Bool E)
    → IfOk r (Adds (λ w. AreWordsOf words w × SuitsDisks mirrored w) number old new) → IfOk r (Adds (IsEventLine mirrored line) number old new)
line_adds mirrored line words number old new is r h =
    let to : (w : What) → AreWordsOf words w → AreWordsOf (words_of line) w = λ w said. said_by_all MOST_WORDS AreWordsOf few_event_words (words_of line) w (rw is at said) in
    let from : (w : What) → AreWordsOf (words_of line) w → AreWordsOf words w = λ w said. rw is (said_by_first MOST_WORDS AreWordsOf few_event_words (words_of line) w said) in
    IfOk-weaker r _ _ (adds_alike (λ w. AreWordsOf words w × SuitsDisks mirrored w) (IsEventLine mirrored line) (λ w said. (to w said.0, said.1)) (λ w said. (from w said.0, said.1)) number old new) h
  where
    adds_alike : (P Q : What → Type 0) → ((w : What) → P w → Q w) → ((w : What) → Q w → P w) → (number : ℕ) (old new : List Event) (b : Bool) → Adds P number old new b → Adds Q number old new b
    adds_alike P Q to from number old new true (w, h, is) = (w, to w h, is)
    adds_alike P Q to from number old new false none = λ w q. none w (from w q)

-- ---- a command

-- a command alone is said by its words
pub says_one : (p : ℕ) (c : Command) (cs : List Command) (words : List (List ℕ)) → cs ≡ c ∷ [] → IsPid p → CommandInRange c → OpIsOfBytes c.op → words ≡ op_words p c.client c.seq c.op → AreWordsOf words (what.Commands p cs)
says_one p c cs words is at range bytes written =
    let one : AreWordsOf words (what.Commands p (c ∷ [])) =
    record {
      in_range = (at, record { each = All-cons CommandInRange c [] range (All-nil CommandInRange); some = omega arith; few = omega arith; small = one_command_fits c range });
      of_bytes = All-cons (λ (d : Command). OpIsOfBytes d.op) c [] bytes (All-nil (λ (d : Command). OpIsOfBytes d.op));
      between = tt;
      one = refl;
      written = written;
    } in
    subst (λ (ds : List Command). AreWordsOf words (what.Commands p ds)) (sym is) one

three_and_more : {A : Type 0} (now : A → List ℕ) (ws : List A) (d0 d1 d2 : A) (x0 x1 x2 : List ℕ) → 3 ≤ length ws → now (get_or ws 0 d0) ≡ x0 → now (get_or ws 1 d1) ≡ x1 → now (get_or ws 2 d2) ≡ x2
    → map now ws ≡ x0 ∷ x1 ∷ x2 ∷ map now (drop 3 ws)
three_and_more now [] d0 d1 d2 x0 x1 x2 long h0 h1 h2 = absurd (omega arith)
three_and_more now (a ∷ []) d0 d1 d2 x0 x1 x2 long h0 h1 h2 = absurd (omega arith)
three_and_more now (a ∷ b ∷ []) d0 d1 d2 x0 x1 x2 long h0 h1 h2 = absurd (omega arith)
three_and_more now (a ∷ b ∷ d ∷ ws) d0 d1 d2 x0 x1 x2 long h0 h1 h2 = cc

-- a server, a client, a number and an operation's words behind its name say a command
pub says_command : {A : Type 0} (now : A → List ℕ) (words : List A) (f : OpForm) (d0 d1 d2 : A) (p : ℕ) (c : Command) (cs : List Command) → cs ≡ c ∷ [] → 3 ≤ length words → IsPid p → IsNumber c.client → IsNumber c.seq
    → now (get_or words 0 d0) ≡ decimal p → now (get_or words 1 d1) ≡ decimal c.client → now (get_or words 2 d2) ≡ decimal c.seq → AreOperandsOf (op_form_name f) (map now (take (length words - 3) (drop 3 words))) c.op
    → AreWordsOf (op_form_name f ∷ map now words) (what.Commands p cs)
says_command now words f d0 d1 d2 p c cs is long at client seq e0 e1 e2 h =
    let all = take_all (length words - 3) (drop 3 words) (omega (arith, length-drop 3 words)) in
    let rest : map now (drop 3 words) ≡ operands c.op = sym (ap (map now) all) ∙ h.written in
    let first = three_and_more now words d0 d1 d2 (decimal p) (decimal c.client) (decimal c.seq) long e0 e1 e2 in
    let name = h.named in
    says_one p c cs (op_form_name f ∷ map now words) is at (record { client = client; seq = seq; op = h.in_range }) h.of_bytes cc

-- what words say that begin with an operation's name
pub record SaysCommand (f : OpForm) (words : List (List ℕ)) : Type 0 where
  pub p : ℕ
  pub c : Command
  pub at : IsPid p
  pub range : CommandInRange c
  pub bytes : OpIsOfBytes c.op
  pub named : op_form_name f ≡ op_name c.op
  pub rest : words ≡ decimal p ∷ decimal c.client ∷ decimal c.seq ∷ operands c.op

command_says : (f : OpForm) (words : List (List ℕ)) (w : What) → AreWordsOf (op_form_name f ∷ words) w → SaysCommand f words
command_says f words (what.Commands p []) h = absurd (omega (arith, h.one))
command_says f words (what.Commands p (c ∷ (d ∷ cs))) h = absurd (omega (arith, h.one))
command_says f words (what.Commands p (c ∷ [])) h =
    record {
      p = p;
      c = c;
      at = h.in_range.0;
      range = h.in_range.1.each 0 c (omega arith);
      bytes = h.of_bytes 0 c (omega arith);
      named = ap first h.written;
      rest = ap after_first h.written;
    }
command_says f words w h = absurd (false≢true (sym (ap is_op_name (ap first h.written)) ∙ form_has_op_name f))

-- words that begin with an operation's name say nothing where they say no command
pub only_commands : (f : OpForm) (words : List (List ℕ)) → ((x : ℕ × List Command) → AreWordsOf (op_form_name f ∷ words) (what.Commands x.0 x.1) → ⊥) → (w : What) → AreWordsOf (op_form_name f ∷ words) w → ⊥
only_commands f words none (what.Commands p cs) h = none (p, cs) h
only_commands f words none w h = false≢true (sym (ap is_op_name (ap first h.written)) ∙ form_has_op_name f)

-- a command's words are a server, a client, a number and the operation's own
pub no_server : {A : Type 0} (now : A → List ℕ) (words : List A) (f : OpForm) (d : A) → ((p : ℕ) → IsPid p × (now (get_or words 0 d) ≡ decimal p) → ⊥) → (w : What) → AreWordsOf (op_form_name f ∷ map now words) w → ⊥
no_server now words f d none w h =
    let s = command_says f (map now words) w h in
    none s.p (s.at, word_at now words 0 d _ s.rest)

pub no_client : {A : Type 0} (now : A → List ℕ) (words : List A) (f : OpForm) (d : A) → ((n : ℕ) → IsNumber n × (now (get_or words 1 d) ≡ decimal n) → ⊥) → (w : What) → AreWordsOf (op_form_name f ∷ map now words) w → ⊥
no_client now words f d none w h =
    let s = command_says f (map now words) w h in
    none s.c.client (s.range.client, word_at now words 1 d _ s.rest)

pub no_number : {A : Type 0} (now : A → List ℕ) (words : List A) (f : OpForm) (d : A) → ((n : ℕ) → IsNumber n × (now (get_or words 2 d) ≡ decimal n) → ⊥) → (w : What) → AreWordsOf (op_form_name f ∷ map now words) w → ⊥
no_number now words f d none w h =
    let s = command_says f (map now words) w h in
    none s.c.seq (s.range.seq, word_at now words 2 d _ s.rest)

pub no_operation : {A : Type 0} (now : A → List ℕ) (words : List A) (f : OpForm) → ((op : Op) → AreOperandsOf (op_form_name f) (map now (take (length words - 3) (drop 3 words))) op → ⊥) → (w : What) → AreWordsOf (op_form_name f ∷ map now words) w → ⊥
no_operation now words f none w h =
    let s = command_says f (map now words) w h in
    let all = take_all (length words - 3) (drop 3 words) (omega (arith, length-drop 3 words)) in
    none s.c.op (record { in_range = s.range.op; of_bytes = s.bytes; named = s.named; written = ap (map now) all ∙ sym (drop-map now 3 words) ∙ ap (drop 3) s.rest })

-- ---- a session

one_id : (p q : ℕ) → IsPid p → IsPid q → decimal p ≡ decimal q → p ≡ q
one_id p q hp hq e = decimal_injective p q (omega (arith, hp.1)) (omega (arith, hq.1)) e

-- words that name one server twice name no two that differ
pub no_peers : {A : Type 0} (now : A → List ℕ) (words : List A) (d0 d1 : A) (p q : ℕ) → IsPid p → IsPid q → p ≡ q → now (get_or words 0 d0) ≡ decimal p → now (get_or words 1 d1) ≡ decimal q
    → (x : ℕ × ℕ) → ArePeers x.0 x.1 × (map now words ≡ decimal x.0 ∷ decimal x.1 ∷ []) → ⊥
no_peers now words d0 d1 p q hp hq same here there x (peers, e) =
    let one : p ≡ x.0 = one_id p x.0 hp peers.0 (sym here ∙ word_at now words 0 d0 _ e) in
    let other : q ≡ x.1 = one_id q x.1 hq peers.1 (sym there ∙ word_at now words 1 d1 _ e) in
    peers.2 (sym one ∙ same ∙ other)

-- the words name no two servers that differ
abbrev NameNoPeers : List (List ℕ) → Type 0
NameNoPeers words = (x : ℕ × ℕ) → ArePeers x.0 x.1 × (words ≡ decimal x.0 ∷ decimal x.1 ∷ []) → ⊥

-- such words begin no session
pub no_up : (words : List (List ℕ)) → NameNoPeers words → (w : What) → AreWordsOf (codes "up" ∷ words) w → ⊥
no_up words none (what.Up p q) h = none (p, q) ((h.in_range.0, h.in_range.1, h.between), ap after_first h.written)
no_up words none (what.Commands p []) h = absurd (omega (arith, h.one))
no_up words none (what.Commands p (c ∷ (d ∷ cs))) h = absurd (omega (arith, h.one))
no_up words none (what.Commands p (c ∷ [])) h = no_op c.op (codes "up") refl (sym (ap first h.written))
no_up words none w h = absurd (false≢true ((bytes_eq-Decides (codes "up") (name_of w)).1 (ap first h.written)))

-- and end none
pub no_down : (words : List (List ℕ)) → NameNoPeers words → (w : What) → AreWordsOf (codes "drop" ∷ words) w → ⊥
no_down words none (what.Down p q) h = none (p, q) ((h.in_range.0, h.in_range.1, h.between), ap after_first h.written)
no_down words none (what.Commands p []) h = absurd (omega (arith, h.one))
no_down words none (what.Commands p (c ∷ (d ∷ cs))) h = absurd (omega (arith, h.one))
no_down words none (what.Commands p (c ∷ [])) h = no_op c.op (codes "drop") refl (sym (ap first h.written))
no_down words none w h = absurd (false≢true ((bytes_eq-Decides (codes "drop") (name_of w)).1 (ap first h.written)))

-- ---- stops and failures

-- words that name no server, and no stop in a call of its disks, tell no stop
pub no_crash : (words : List (List ℕ)) → ((p : ℕ) → IsPid p × (words ≡ decimal p ∷ []) → ⊥) → ((x : ℕ × ℕ × ℕ) → AreStopOf words x → ⊥) → (w : What) → AreWordsOf (codes "crash" ∷ words) w → ⊥
no_crash words between inside (what.Crash p) h = between p (h.in_range, ap after_first h.written)
no_crash words between inside (what.CrashAt p call image) h = inside (p, call, image) (h.in_range.0, h.in_range.1, h.in_range.2, ap after_first h.written)
no_crash words between inside (what.Commands p []) h = absurd (omega (arith, h.one))
no_crash words between inside (what.Commands p (c ∷ (d ∷ cs))) h = absurd (omega (arith, h.one))
no_crash words between inside (what.Commands p (c ∷ [])) h = no_op c.op (codes "crash") refl (sym (ap first h.written))
no_crash words between inside w h = absurd (false≢true ((bytes_eq-Decides (codes "crash") (name_of w)).1 (ap first h.written)))

-- words that name no call of a server's disks tell no failure
pub no_failure : (words : List (List ℕ)) → ((x : ℕ × ℕ) → AreCallOf words x → ⊥) → (w : What) → AreWordsOf (codes "fail" ∷ words) w → ⊥
no_failure words none (what.Fail p call) h = none (p, call) (h.in_range.0, h.in_range.1, ap after_first h.written)
no_failure words none (what.Commands p []) h = absurd (omega (arith, h.one))
no_failure words none (what.Commands p (c ∷ (d ∷ cs))) h = absurd (omega (arith, h.one))
no_failure words none (what.Commands p (c ∷ [])) h = no_op c.op (codes "fail") refl (sym (ap first h.written))
no_failure words none w h = absurd (false≢true ((bytes_eq-Decides (codes "fail") (name_of w)).1 (ap first h.written)))

-- words that name no disk of a server kill none
pub no_kill : (words : List (List ℕ)) → ((x : ℕ × ℕ) → AreDiskOf words x → ⊥) → (w : What) → AreWordsOf (codes "kill" ∷ words) w → ⊥
no_kill words none (what.Kill p disk) h = none (p, disk) (h.in_range.0, h.in_range.1, ap after_first h.written)
no_kill words none (what.Commands p []) h = absurd (omega (arith, h.one))
no_kill words none (what.Commands p (c ∷ (d ∷ cs))) h = absurd (omega (arith, h.one))
no_kill words none (what.Commands p (c ∷ [])) h = no_op c.op (codes "kill") refl (sym (ap first h.written))
no_kill words none w h = absurd (false≢true ((bytes_eq-Decides (codes "kill") (name_of w)).1 (ap first h.written)))
