-- A cluster is a run of the world: deed by deed, the messages that are taken are among those that were given out.
use Rattle.std.proofs.Common.{◌⊎◌, ◌≡◌, ◌<◌, ◌≤◌, ◌+◌, ◌^◌, ℕ, Bool, false, List, [], ◌∷◌, ◌++◌, map, length, Option, Some, None, refl, sym, ◌∙◌, ap, subst, append_assoc, append-nil, inl, inr, arith}
use Rattle.std.specs.Prelude.{All, zip}
use Rattle.std.specs.List.{Contains}
use Rattle.std.proofs.lemmas.Bool.{cases_eq}
use Rattle.std.proofs.lemmas.List.Elements.{Contains-append_cases, All-head, All-tail, All-nil, All-cons, All-append}
use Rattle.op_types.specs.Ranges.{IsPid, IsMember, MembersInRange}
use Rattle.op_types.specs.declared.durable.Durable.{Durable}
use Rattle.op_types.specs.declared.events.Input.{Input}
use Rattle.op_types.specs.declared.events.Input.TheVariants as input
use Rattle.op_types.specs.declared.events.Request.{Request}
use Rattle.op_types.specs.declared.events.Request.TheVariants as request
use Rattle.op_types.specs.declared.read.Read.{Read}
use Rattle.op_types.specs.declared.log.Command.{Command}
use Rattle.op_types.specs.declared.log.Entry.{Entry}
use Rattle.op_types.specs.declared.log.Entry.TheVariants as entry
use Rattle.op_spec.specs.Machine.{IsAmong}
use Rattle.op_laws.proofs.Drops.{from_both}
use Rattle.op_types.specs.declared.answers.Answer.{Answer}
use Rattle.op_types.specs.declared.answers.Answer.TheVariants as answer
use Rattle.op_types.specs.declared.answers.Reply.{Reply}
use Rattle.op_types.specs.declared.messages.Msg.{Msg}
use Rattle.op_runs.specs.Replies.{IfReplyServed}
use Rattle.op_laws.specs.Runs.{RunInRange}
use Rattle.op_laws.proofs.RepliesServed.{every_reply_is_served}
use Rattle.op_runs.specs.declared.events.What.{What}
use Rattle.op_runs.specs.declared.events.What.TheVariants as what
use Rattle.op_runs.specs.Possible.{SparesInRange, ObserversInRange, WhatInRange, HappeningsInRange, kind_in, proposals_of, proposals_in, server_ids}
use Rattle.op_runs.specs.Schedules.{Seated, seated_at, observers_begun}
use Rattle.op_runs.specs.Run.{Execution, first_execution, execution_of}
use Rattle.op_runs.specs.World.{Kind, Votes, Observes, World, Sent, Happening, first_world, run_of, answer_line, sends_as, Up}
use Rattle.op_bounds.specs.Laws.{SentInRange, WorldInRange}
use Rattle.op_bounds.specs.Messages as known
use Rattle.op_bounds.proofs.Known.{all_runs_stay}
use Rattle.op_refinement.proofs.EveryRun.{every_run_meets}
use Rattle.op_laws.proofs.Reached.{world_of_run, run_append, execution_append, front_in_range}
use Rattle.op_protocol.specs.State.{State}
use Rattle.op_protocol.specs.Starting.{state_after_restart}
use Rattle.op_serving.specs.Cores.{Standing, saying, gives}
use Rattle.op_serving.specs.Fates.{Fate, done, finds, faults, shares, damaged, lost}
use Rattle.op_serving.specs.Reopenings.{Unstored, FindsOneOf}
use Rattle.op_serving.specs.Inputs.{Brought, Deed, begins, hears, enters, says, takes}
use Rattle.op_cluster_laws.specs.Outputs.{after_deed, given_at, sent_in, answers_of, answered_in}
use Rattle.op_cluster_laws.specs.Readings.{WasRead, WasAsked}
use Rattle.op_cluster_laws.specs.Causes.{WasHeard, MayFind, IsCaused, AreCaused}
use Rattle.op_cluster_laws.specs.Traces.{Event, does, ends, killed, opens, first_as, Happened, Lived, stands, unstored_in, stepped, held_in, stored_in, pending_in, inputs_of, ended_with, lived_by, lived_at, sent_stepping, sent_then, messages_then, messages_behind, steps_then, proposed_by, proposed_by_all, proposed_behind}
use Rattle.op_cluster_laws.specs.Lives.{Serves}
use Rattle.op_cluster_laws.specs.Taken.{Brings, TakesIn, WasTakenIn}
use Rattle.op_cluster_laws.proofs.Serving.{deeds_are_caused}
use Rattle.op_cluster_laws.specs.Clusters.{IsLife, MayOpen, IsCluster}
use Rattle.op_cluster_laws.specs.Currency.{WasAskedOf}
use Rattle.op_cluster_laws.specs.Worlds.{StandsAt, StandTogether, history_after, IsMoment, IsRun, DeliveriesWereGiven}
use Rattle.op_cluster_laws.proofs.Causing.{replied_push, caused_at, heard_coming}
use Rattle.op_cluster_laws.proofs.Tracing.{cut_last, lived_own, lived_other, folded_me, first_me, stands_kind, sent_push, unstored_deed, finds_at, Begun, begun_at, IsLinked, linked_alive, linked_ended}
use Rattle.op_cluster_laws.specs.Becoming.{sent_between, told_line, Numbered, Says, ticks, delivers, proposes, stops, trims, looks_up, goes_up, goes_down, IsNone, Reopens, EventBecomes, BecomeBehind}
use Rattle.op_cluster_laws.proofs.Executions.{nobody, silent, says_of, said_numbered, numbered_longer, Longer, NodeIs, Moves, rests, forgets, such, Tells, tells_longer, opened, proposals_more, stored_of, quiet, InputMoves, by_fate}
use Rattle.op_cluster_laws.proofs.Lists.{Each, each_map, each_at}
use Rattle.op_cluster_laws.proofs.Pending.{InputsSo, AddsAt, pending_added, pending_event, stored_push, stored_ended, stored_up, link_failed}
use Rattle.op_cluster_laws.proofs.Answering.{input_fits, again_none, answers_fit}
use Rattle.op_cluster_laws.proofs.Ranges.{numbered_all, numbered_within, can_be_read, request_fits, commands_fit}
use Rattle.op_cluster_laws.proofs.Proposing.{commands_of, commands_in, commands_more, proposed_there, proposed_run}
use Rattle.op_cluster_laws.proofs.Taken.{comes_at}
use Rattle.op_cluster_laws.proofs.Currency.{reads_of, reads_in, reads_more}
use Rattle.op_cluster_laws.proofs.Joining.{CanBeRead, read_was_given}
use Rattle.op_cluster_laws.proofs.Beginning.{server_pids, begun_seat, begun_messages, begun_range, begun_proposals, begun_commands, begun_reads}

-- ---- lists

all_at : {A : Type 0} (P : A → Type 0) (xs : List A) (x : A) (ys : List A) → All P (xs ++ x ∷ ys) → P x
all_at P [] x ys h = All-head P x ys h
all_at P (y ∷ xs) x ys h = all_at P xs x ys (All-tail P y (xs ++ x ∷ ys) h)

all_contains : {A : Type 0} (P : A → Type 0) (xs : List A) (x : A) → All P xs → Contains xs x → P x
all_contains P xs x h c = subst P c.2 (h c.0 x c.1)

-- the line of a reply is served at whichever node
any_line : (history : List Entry) (p q : ℕ) (r : Reply) → IfReplyServed history (answer_line p r.client r.seq r.answer) → IfReplyServed history (answer_line q r.client r.seq r.answer)
any_line history p q r h = by_answer r.answer h
  where
    by_answer : (a : Answer) → IfReplyServed history (answer_line p r.client r.seq a) → IfReplyServed history (answer_line q r.client r.seq a)
    by_answer answer.Done k = k
    by_answer (answer.Value value) k = k
    by_answer answer.Absent k = k
    by_answer answer.Stale k = k
    by_answer (answer.Dropped why) k = k

head_is : {A : Type 0} (x y : A) (xs ys : List A) → x ∷ xs ≡ y ∷ ys → x ≡ y
head_is x y xs ys e = cc

tail_is : {A : Type 0} (x y : A) (xs ys : List A) → x ∷ xs ≡ y ∷ ys → xs ≡ ys
tail_is x y xs ys e = cc

none_left : {A : Type 0} (xs ys : List A) → [] ≡ xs ++ ys → xs ≡ []
none_left [] ys e = refl
none_left (x ∷ xs) ys e = absurd cc

-- ---- how much it is

-- ---- events

-- what the input of a step comes from, at a node that has done these deeds
abbrev HeardSo : ℕ → List Deed → Event → Type 0
HeardSo p ds (does (enters who i fate)) = WasHeard p ds who i
HeardSo p ds (killed bs) = Each (λ b. WasHeard p ds b.0 b.1) bs
HeardSo p ds e = Unit {0}

says_fits : (ms : List Sent) (p : ℕ) (ds : List Deed) (who : List ℕ) (i : Input) (w : What) → Says ms p i w → WasHeard p ds who i → IsPid p → length ms < 2 ^ 64
    → WhatInRange w × (proposals_of w ≤ proposed_by i)
says_fits ms p ds who i w ticks h pid few = (pid, omega arith)
says_fits ms p ds who i w (delivers {q} {m} k e) h pid few = (let lt = numbered_within ms k (sent_between q p m) e in omega (arith, lt, few), omega arith)
says_fits ms p ds who i w (proposes {cs}) h pid few = ((pid, commands_fit ds who cs h.0 h.1 h.2 h.3 h.4), omega arith)
says_fits ms p ds who i w (stops {members}) h pid few = ((pid, request_fits ds h.0 (request.Stop members) h.2), omega arith)
says_fits ms p ds who i w trims h pid few = (pid, omega arith)
says_fits ms p ds who i w (looks_up {r}) h pid few = ((pid, request_fits ds h.0 (request.Read r) h.2), omega arith)
says_fits ms p ds who i w (goes_up {q}) h pid few = ((pid, h), omega arith)
says_fits ms p ds who i w (goes_down {q}) h pid few = ((pid, h), omega arith)

-- a command of an input was asked for
asked_among : (ds : List Deed) (who : List ℕ) (xs : List Command) (c : Command) → length who ≡ length xs → All (λ p. WasAsked ds p.0 (request.Command p.1)) (zip who xs) → IsAmong xs c → (conn : ℕ) × WasAsked ds conn (request.Command c)
asked_among ds [] [] c l h k = absurd k
asked_among ds [] (x ∷ xs) c l h k = absurd (omega (arith, l))
asked_among ds (d ∷ who) [] c l h k = absurd k
asked_among ds (d ∷ who) (x ∷ xs) c l h (inl same) = (d, subst (λ y. WasAsked ds d (request.Command y)) same (All-head (λ p. WasAsked ds p.0 (request.Command p.1)) (d, x) (zip who xs) h))
asked_among ds (d ∷ who) (x ∷ xs) c l h (inr k) = asked_among ds who xs c (omega (arith, l)) (All-tail (λ p. WasAsked ds p.0 (request.Command p.1)) (d, x) (zip who xs) h) k

says_asked : (ms : List Sent) (p : ℕ) (ds : List Deed) (who : List ℕ) (i : Input) (w : What) (c : Command) → Says ms p i w → WasHeard p ds who i → IsAmong (commands_of w) c → (conn : ℕ) × WasAsked ds conn (request.Command c)
says_asked ms p ds who i w c ticks h k = absurd k
says_asked ms p ds who i w c (delivers n e) h k = absurd k
says_asked ms p ds who i w c (proposes {cs}) h k = asked_among ds who cs c h.0 h.4 k
says_asked ms p ds who i w c stops h k = absurd k
says_asked ms p ds who i w c trims h k = absurd k
says_asked ms p ds who i w c looks_up h k = absurd k
says_asked ms p ds who i w c goes_up h k = absurd k
says_asked ms p ds who i w c goes_down h k = absurd k

-- so was a read of it
says_read : (ms : List Sent) (p : ℕ) (ds : List Deed) (who : List ℕ) (i : Input) (w : What) (r : Read) → Says ms p i w → WasHeard p ds who i → IsAmong (reads_of w) r → (conn : ℕ) × WasAsked ds conn (request.Read r)
says_read ms p ds who i w r ticks h k = absurd k
says_read ms p ds who i w r (delivers n e) h k = absurd k
says_read ms p ds who i w r proposes h k = absurd k
says_read ms p ds who i w r stops h k = absurd k
says_read ms p ds who i w r trims h k = absurd k
says_read ms p ds who i w r looks_up h (inl same) = (h.0, subst (λ z. WasAsked ds h.0 (request.Read z)) same h.2)
says_read ms p ds who i w r looks_up h (inr none) = absurd none
says_read ms p ds who i w r goes_up h k = absurd k
says_read ms p ds who i w r goes_down h k = absurd k

-- a server at its start has its id, and is up
first_pid : (k : Kind) (members : List ℕ) (p : ℕ) → (first_as k members p).pid ≡ p
first_pid Votes members p = refl
first_pid Observes members p = refl

first_up : (k : Kind) (members : List ℕ) (p : ℕ) → (first_as k members p).status ≡ Up
first_up Votes members p = refl
first_up Observes members p = refl

-- ---- all that is so beside a world

module _ (members spares observers : List ℕ) (counts : ℕ → ℕ) (ms : MembersInRange members) (ss : SparesInRange members spares) (os : ObserversInRange members spares observers) where
  abbrev pub IsNode : ℕ → Type 0
  IsNode p = IsMember (server_ids members spares observers) p

  -- the life of a node at a moment
  abbrev pub L : ℕ → List Happened → Lived
  L p now = lived_at members observers counts p now

  abbrev pub world : List Happening → World
  world hs = run_of (first_world members spares) hs

  -- a node has read this request, in one of its lives
  abbrev pub AskedBy : List Happened → Request → Type 0
  AskedBy now r = WasAskedOf members spares observers counts now r

  asked_later : (now xs : List Happened) (r : Request) → AskedBy now r → AskedBy (now ++ xs) r
  asked_later now xs r a = (a.0, a.1 ++ xs, ap (λ l. l ++ xs) a.2 ∙ append_assoc a.0 a.1 xs, a.3, a.4, a.5, a.6)

  -- an event that may be told of by then: it is in range, and each command and read of it was asked for
  pub record Fits (now : List Happened) (w : What) : Type 0 where
    pub range : WhatInRange w
    pub asked : (c : Command) → IsAmong (commands_of w) c → AskedBy now (request.Command c)
    pub read : (r : Read) → IsAmong (reads_of w) r → AskedBy now (request.Read r)

  fits_later : (now xs : List Happened) (w : What) → Fits now w → Fits (now ++ xs) w
  fits_later now xs w f = record {
    range = f.range;
    asked = λ c k. asked_later now xs (request.Command c) (f.asked c k);
    read = λ r k. asked_later now xs (request.Read r) (f.read r k);
  }

  -- a node has taken in this command by then
  abbrev pub TakenBy : List Happened → Command → Type 0
  TakenBy now c = WasTakenIn members spares observers counts now c

  taken_later : (now xs : List Happened) (c : Command) → TakenBy now c → TakenBy (now ++ xs) c
  taken_later now xs c k = (k.0, k.1 ++ xs, k.2, ap (λ l. l ++ xs) k.3 ∙ append_assoc k.0 (k.2 ∷ k.1) xs, k.4, k.5)

  -- so it has each command of this input
  abbrev pub AllTakenBy : List Happened → Input → Type 0
  AllTakenBy now i = (c : Command) → Brings c i → TakenBy now c

  all_taken_later : (now xs : List Happened) (is : List Input) → Each (AllTakenBy now) is → Each (AllTakenBy (now ++ xs)) is
  all_taken_later now xs is h = each_map (AllTakenBy now) (AllTakenBy (now ++ xs)) (λ i k c brings. taken_later now xs c (k c brings)) is h

  -- so are inputs, in a world in which these messages were sent
  abbrev pub AreTold : List Happened → List Sent → ℕ → List Input → Type 0
  AreTold now ms p is = Each (Tells p (Fits now) ms) is

  told_later : (now xs : List Happened) (old new : List Sent) (p : ℕ) (is : List Input) → Longer old new → AreTold now old p is → AreTold (now ++ xs) new p is
  told_later now xs old new p is l h = each_map (Tells p (Fits now) old) (Tells p (Fits (now ++ xs)) new) (λ i t.
      let k = tells_longer p (Fits now) old new i l t in record { what = k.what; says = k.says; so = fits_later now xs k.what k.so; few = k.few }) is h

  -- what was read by now
  tells_heard : (now : List Happened) (out : List Sent) (p : ℕ) (who : List ℕ) (i : Input) → IsNode p → WasHeard p (L p now).deeds who i → ((q : ℕ) (m : Msg) → i ≡ input.Deliver q m → Numbered out (sent_between q p m)) → length out < 2 ^ 64
      → Tells p (Fits now) out i
  tells_heard now out p who i node heard numbered few =
      let ds : List Deed = (L p now).deeds in
      let k = says_of out p i numbered in
      let f = says_fits out p ds who i k.0 k.1 heard (server_pids members spares observers ms ss os p node) few in
      record {
        what = k.0;
        says = k.1;
        so = record {
          range = f.0;
          asked = λ c a. (let q = says_asked out p ds who i k.0 c k.1 heard a in (now, [], sym (append-nil now), p, q.0, node, q.1));
          read = λ r a. (let q = says_read out p ds who i k.0 r k.1 heard a in (now, [], sym (append-nil now), p, q.0, node, q.1));
        };
        few = f.1;
      }

  -- what happenings that fit name was asked for
  all_asked : (now : List Happened) (hs : List Happening) (c : Command) → All (λ h. Fits now h.event.what) hs → IsAmong (commands_in hs) c → AskedBy now (request.Command c)
  all_asked now [] c f k = absurd k
  all_asked now (h ∷ hs) c f k = elim (from_both c (commands_of h.event.what) (commands_in hs) k) [
    | inl here ↦ (All-head (λ (h : Happening). Fits now h.event.what) h hs f).asked c here
    | inr later ↦ all_asked now hs c (All-tail (λ (h : Happening). Fits now h.event.what) h hs f) later
  ]

  all_read : (now : List Happened) (hs : List Happening) (r : Read) → All (λ h. Fits now h.event.what) hs → IsAmong (reads_in hs) r → AskedBy now (request.Read r)
  all_read now [] r f k = absurd k
  all_read now (h ∷ hs) r f k = elim (from_both r (reads_of h.event.what) (reads_in hs) k) [
    | inl here ↦ (All-head (λ (h : Happening). Fits now h.event.what) h hs f).read r here
    | inr later ↦ all_read now hs r (All-tail (λ (h : Happening). Fits now h.event.what) h hs f) later
  ]

  all_range : (now : List Happened) (hs : List Happening) → All (λ h. Fits now h.event.what) hs → All (λ h. WhatInRange h.event.what) hs
  all_range now [] f = All-nil (λ (h : Happening). WhatInRange h.event.what)
  all_range now (h ∷ hs) f = All-cons (λ (h : Happening). WhatInRange h.event.what) h hs (All-head (λ (h : Happening). Fits now h.event.what) h hs f).range (all_range now hs (All-tail (λ (h : Happening). Fits now h.event.what) h hs f))

  -- a crash and a start may always be told of
  crash_fits : (now : List Happened) (p : ℕ) → IsNode p → Fits now (what.Crash p)
  crash_fits now p node = record { range = server_pids members spares observers ms ss os p node; asked = λ c k. absurd k; read = λ r k. absurd k }

  start_fits : (now : List Happened) (p : ℕ) → IsNode p → Fits now (what.Start p)
  start_fits now p node = record { range = server_pids members spares observers ms ss os p node; asked = λ c k. absurd k; read = λ r k. absurd k }

  pub record Beside (now : List Happened) (hs : List Happening) : Type 0 where
    pub nodes : StandTogether members spares observers counts now hs
    pub messages : (before since : List Happened) → now ≡ before ++ since → (p : ℕ) → IsNode p → (d : ℕ) (m : Msg) → Contains (sent_in (L p before).first (L p before).deeds) (d, m) → Numbered (world hs).messages (sent_between p d m)
    pub replies : (read : Bool) (p : ℕ) → IsNode p → (r : Reply) → Contains (answered_in read (L p now).first (L p now).deeds) r → Contains (world hs).lines (told_line read p r)
    pub answers : (read : Bool) (p : ℕ) → IsNode p → (r : Reply) → Contains (answered_in read (L p now).first (L p now).deeds) r → known.ReplyInRange IsPid r
    pub pending : (p : ℕ) → IsNode p → AreTold now (world hs).messages p (pending_in (L p now))
    pub linked : (p : ℕ) → IsNode p → IsLinked (L p now)
    pub asked : (c : Command) → IsAmong (commands_in hs) c → AskedBy now (request.Command c)
    pub read : (r : Read) → IsAmong (reads_in hs) r → AskedBy now (request.Read r)
    pub taken : (c : Command) (conf : ℕ) → IsAmong ((execution_of (first_execution members spares) hs).machine.proposed conf) (entry.Command c) → TakenBy now c
    pub held : (p : ℕ) → IsNode p → Each (AllTakenBy now) (pending_in (L p now))
    pub count : length (world hs).messages ≤ messages_behind members observers counts [] now
    pub range : All (λ h. WhatInRange h.event.what) hs
    pub proposals : proposals_in hs ≤ proposed_behind members observers counts [] now

  begins_beside : Beside [] (observers_begun observers)
  begins_beside = record {
    nodes = λ p is. (let k : Kind = kind_in observers p in
        record { me = refl; found = first_as k members p; there = begun_seat members spares observers ms ss os p is; pid = first_pid k members p; state = refl; up = first_up k members p });
    messages = λ before since e p is d m c. absurd (let none : before ≡ [] = none_left before since e in
        omega (arith, (subst (λ l. Contains (sent_in (L p l).first (L p l).deeds) (d, m)) none c).1));
    replies = λ read p is r c. absurd (omega (arith, c.1));
    answers = λ read p is r c. absurd (omega (arith, c.1));
    pending = λ p is. tt;
    linked = λ p is. refl;
    asked = λ c k. absurd (subst (λ l. IsAmong l c) (begun_commands observers) k);
    read = λ r k. absurd (subst (λ l. IsAmong l r) (begun_reads observers) k);
    taken = λ c conf k. elim (proposed_run c (first_execution members spares) (observers_begun observers) conf k) [
      | inl old ↦ absurd old
      | inr there ↦ absurd (subst (λ l. IsAmong l c) (begun_commands observers) there)
    ];
    held = λ p is. tt;
    count = (let e = ap (λ (l : List Sent). length l) (begun_messages members spares observers ms ss os) in omega (arith, e));
    range = begun_range observers os.rising;
    proposals = (let e = begun_proposals observers in omega (arith, e));
  }

  messages_more : (before xs : List Happened) (x : Happened)
      → messages_behind members observers counts before (xs ++ x ∷ []) ≡ messages_behind members observers counts before xs + messages_then (L x.pid (before ++ xs)) x.event
  messages_more before [] x = rw (append-nil before) (omega arith)
  messages_more before (y ∷ xs) x =
      let k = messages_more (before ++ y ∷ []) xs x in
      let seam : (before ++ y ∷ []) ++ xs ≡ before ++ y ∷ xs = append_assoc before (y ∷ []) xs in
      let same = ap (λ l. messages_then (L x.pid l) x.event) seam in
      omega (arith, k, same)

  proposals_behind : (before xs : List Happened) (x : Happened)
      → proposed_behind members observers counts before (xs ++ x ∷ []) ≡ proposed_behind members observers counts before xs + proposed_by_all (steps_then (L x.pid (before ++ xs)) x.event)
  proposals_behind before [] x = rw (append-nil before) (omega arith)
  proposals_behind before (y ∷ xs) x =
      let k = proposals_behind (before ++ y ∷ []) xs x in
      let seam : (before ++ y ∷ []) ++ xs ≡ before ++ y ∷ xs = append_assoc before (y ∷ []) xs in
      let same = ap (λ l. proposed_by_all (steps_then (L x.pid l) x.event)) seam in
      omega (arith, k, same)

  -- what a node answers then
  abbrev answered_then : Lived → Event → Bool → List Reply
  answered_then l (does d) = λ read. answers_of read (given_at (stands l) d)
  answered_then l e = nobody

  -- what becomes of the world then
  abbrev Goes : List Happened → World → ℕ → Lived → Event → Type 0
  Goes now w p l e = Moves (stands l).kind w p (Fits now) (proposed_by_all (steps_then l e)) (messages_then l e) (sent_then l e) (answered_then l e) Up (stored_in (lived_by l e)) (EventBecomes w p l e)

  -- what may come at a life
  abbrev MayCome : Lived → Event → Type 0
  MayCome l (does (enters who i fate)) = (l.left ≡ None) × MayFind (stands l) i fate × FindsOneOf (unstored_in l) fate
  MayCome l (opens d count) = MayOpen l.left d
  MayCome l e = l.left ≡ None

  module _ (now : List Happened) (w : World) (p : ℕ) (node : IsNode p) (l : Lived) (me : (stands l).me ≡ p) (s : NodeIs (stands l).kind w p Up (stored_in l)) (linked : IsLinked l)
      (pending : AreTold now w.messages p (pending_in l)) where
    abbrev F : What → Type 0
    F = Fits now

    module _ (alive : l.left ≡ None) where
      stored_is : stored_of (stands l) (unstored_in l) ≡ stored_in l
      stored_is = rw alive refl

      stored : NodeIs (stands l).kind w p Up (stored_of (stands l) (unstored_in l))
      stored = subst (NodeIs (stands l).kind w p Up) (sym stored_is) s

      abbrev Stored : Event → State → Type 0
      Stored e t = Moves (stands l).kind w p F (proposed_by_all (steps_then l e)) (messages_then l e) (sent_then l e) (answered_then l e) Up t (EventBecomes w p l e)

      goes_quiet : (d : Deed) → ((who : List ℕ) (i : Input) (fate : Fate) → d ≡ enters who i fate → ⊥) → ((gs : List Happening) → IsNone gs → EventBecomes w p l (does d) gs) → Goes now w p l (does d)
      goes_quiet d other none = subst (Stored (does d)) (stored_push l d alive)
          (such (stands l).kind p F w (proposed_by_all (steps_then l (does d))) (messages_then l (does d)) (given_at (stands l) d).sends (λ read. answers_of read (given_at (stands l) d)) Up
          (stored_of (after_deed (stands l) d) (unstored_deed (stands l) d (unstored_in l))) IsNone (EventBecomes w p l (does d)) none
          (quiet w p F (crash_fits now p node) (start_fits now p node) (stands l) (unstored_in l) me stored d other (proposed_by_all (steps_then l (does d))) (messages_then l (does d))))

      abbrev By : List ℕ → Input → Fate → Type 0
      By who i fate = InputMoves w p F (crash_fits now p node) (start_fits now p node) (stands l) (unstored_in l) me stored (pending_in l) who i fate

      goes_input : (who : List ℕ) (i : Input) (fate : Fate) → By who i fate → Goes now w p l (does (enters who i fate))
      goes_input who i done m = subst (Stored (does (enters who i done))) (stored_push l (enters who i done) alive) m
      goes_input who i (finds d) m =
          let n : Standing = stands l in
          let sends : List (ℕ × Msg) = (given_at n (enters who i (finds d))).sends in
          let t : State = stored_of (after_deed n (enters who i (finds d))) (unstored_deed n (enters who i (finds d)) (unstored_in l)) in
          subst (Stored (does (enters who i (finds d)))) (stored_push l (enters who i (finds d)) alive)
          (subst (λ (z : State). Moves n.kind w p F (proposed_by_all (pending_in l)) (length (sent_stepping n.kind n.me z (pending_in l)) + length sends) sends (λ read. answers_of read (given_at n (enters who i (finds d)))) Up t
          (Reopens w p n.kind z (pending_in l) d)) stored_is m)
      goes_input who i (faults k) m = subst (Stored (does (enters who i (faults k)))) (stored_push l (enters who i (faults k)) alive) m
      goes_input who i (shares k) m = subst (Stored (does (enters who i (shares k)))) (stored_push l (enters who i (shares k)) alive) m
      goes_input who i damaged m = subst (Stored (does (enters who i damaged))) (stored_push l (enters who i damaged) alive) m
      goes_input who i lost m = subst (Stored (does (enters who i lost))) (stored_push l (enters who i lost) alive) m

      goes_enters : (who : List ℕ) (i : Input) (fate : Fate) → Tells p F w.messages i → MayFind (stands l) i fate → FindsOneOf (unstored_in l) fate → Goes now w p l (does (enters who i fate))
      goes_enters who i fate t may one = goes_input who i fate (by_fate w p F (crash_fits now p node) (start_fits now p node) (stands l) (unstored_in l) me stored (pending_in l) who i fate t may one pending (link_failed l alive linked))

      goes_ended : (is : List Input) → Moves (stands l).kind w p F 0 0 [] nobody Up (stored_in (ended_with is l)) IsNone
      goes_ended is = forgets (stands l).kind p F w 0 0 [] (λ read. answers_of read (saying None)) Up (stored_in (ended_with is l)) IsNone
          (rests (stands l).kind p F w 0 0 (saying None) (stored_in l) (stored_in (ended_with is l)) refl (silent (saying None) refl refl) (stored_ended l is alive) s)

    -- it finds one of the two
    one_of : (d : Durable) (o : Option Unstored) → l.left ≡ o → MayOpen o d → (d ≡ (held_in l).before.durable) ⊎ (d ≡ (held_in l).ahead.durable)
    one_of d None e one = absurd one
    one_of d (Some u) e one = rw e one

    goes_anew : (d : Durable) → MayOpen l.left d
        → Moves (stands l).kind w p F (proposed_by_all (pending_in l)) (length (sent_stepping (stands l).kind (stands l).me (stored_in l) (pending_in l)) + length (sends_as (stands l).kind (stands l).me d))
        (sends_as (stands l).kind (stands l).me d) nobody Up (state_after_restart (stands l).me d) (Reopens w p (stands l).kind (stored_in l) (pending_in l) d)
    goes_anew d may =
        let k : Kind = (stands l).kind in
        let either : (d ≡ (stored_in l).durable) ⊎ (d ≡ (stepped k p (stored_in l) (pending_in l)).durable) = elim (one_of d l.left refl may) [
          | inl before ↦ inl before
          | inr after ↦ inr (after ∙ ap (λ z. z.durable) (linked ∙ ap (λ z. stepped k z (stored_in l) (pending_in l)) me))
        ] in
        subst (λ z. Moves k w p F (proposed_by_all (pending_in l)) (length (sent_stepping k z (stored_in l) (pending_in l)) + length (sends_as k z d)) (sends_as k z d) nobody Up (state_after_restart z d)
        (Reopens w p k (stored_in l) (pending_in l) d)) (sym me)
        (opened k p F (crash_fits now p node) (start_fits now p node) w (stored_in l) (pending_in l) d s pending either)

    goes : (e : Event) → InputsSo (Tells p F w.messages) e → MayCome l e → Goes now w p l e
    goes (does (begins c bytes)) t may = goes_quiet may (begins c bytes) (λ who i fate e. absurd cc) (λ gs e. e)
    goes (does (hears c bytes)) t may = goes_quiet may (hears c bytes) (λ who i fate e. absurd cc) (λ gs e. e)
    goes (does (enters who i fate)) t may = goes_enters may.0 who i fate t may.1 may.2
    goes (does (says f)) t may = goes_quiet may (says f) (λ who i fate e. absurd cc) (λ gs e. e)
    goes (does (takes c bytes)) t may = goes_quiet may (takes c bytes) (λ who i fate e. absurd cc) (λ gs e. e)
    goes ends t may = goes_ended may []
    goes (killed bs) t may = goes_ended may (inputs_of bs)
    goes (opens d count) t may = goes_anew d may

  module _ (now : List Happened) (hs : List Happening) (b : Beside now hs) (x : Happened) (node : IsNode x.pid)
      (may : MayCome (L x.pid now) x.event) (heard : HeardSo x.pid (L x.pid now).deeds x.event) (told : InputsSo (Tells x.pid (Fits now) (world hs).messages) x.event) where
    m : Goes now (world hs) x.pid (L x.pid now) x.event
    m =
        let s = b.nodes x.pid node in
        goes now (world hs) x.pid node (L x.pid now) s.me (record { found = s.found; there = s.there; pid = s.pid; state = s.state; runs = s.up }) (b.linked x.pid node) (b.pending x.pid node) x.event told may

    still : (y : Sent) → Numbered (world hs).messages y → Numbered (run_of (world hs) m.happenings).messages y
    still y k = numbered_longer (world hs).messages (run_of (world hs) m.happenings).messages y m.messages k

    all : world (hs ++ m.happenings) ≡ run_of (world hs) m.happenings
    all = run_append (first_world members spares) hs m.happenings

    -- a node stays of its kind
    kinds_go : (p : ℕ) → x.pid ≡ p → (stands (L x.pid now)).kind ≡ (stands (L p (now ++ x ∷ []))).kind
    kinds_go p e = stands_kind members observers counts x.pid now ∙ ap (λ (q : ℕ). kind_in observers q) e ∙ sym (stands_kind members observers counts p (now ++ x ∷ []))

    next_nodes : StandTogether members spares observers counts (now ++ x ∷ []) (hs ++ m.happenings)
    next_nodes p is = subst (λ v. StandsAt v p (stands (L p (now ++ x ∷ []))) (stored_in (L p (now ++ x ∷ [])))) (sym all) (elim (cases_eq x.pid p) [
      | inl e ↦ (let s = m.self in
          let own : L p (now ++ x ∷ []) ≡ lived_by (L p now) x.event = lived_own members observers counts p now x e in record {
            me = folded_me (L p (now ++ x ∷ [])).first (L p (now ++ x ∷ [])).deeds ∙ first_me members observers counts p (now ++ x ∷ []);
            found = s.found;
            there = subst (λ z. seated_at (run_of (world hs) m.happenings) z ≡ Some (record { kind = (stands (L x.pid now)).kind; node = s.found })) e s.there
                ∙ ap (λ (k : Kind). let y : Seated = record { kind = k; node = s.found } in Some y) (kinds_go p e);
            pid = s.pid ∙ e;
            state = s.state ∙ ap (λ z. stored_in (lived_by (L z now) x.event)) e ∙ ap stored_in (sym own);
            up = s.runs;
          })
      | inr n ↦ (let s = b.nodes p is in
          let other : L p (now ++ x ∷ []) ≡ L p now = lived_other members observers counts p now x n in record {
            me = ap (λ z. (stands z).me) other ∙ s.me;
            found = s.found;
            there = m.others p (λ e. n (sym e)) ∙ s.there ∙ ap (λ (z : Lived). let y : Seated = record { kind = (stands z).kind; node = s.found } in Some y) (sym other);
            pid = s.pid;
            state = s.state ∙ ap stored_in (sym other);
            up = s.up;
          })
    ])

    alive_does : (l : Lived) (d : Deed) → MayCome l (does d) → l.left ≡ None
    alive_does l (begins c bytes) k = k
    alive_does l (hears c bytes) k = k
    alive_does l (enters who i fate) k = k.0
    alive_does l (says f) k = k
    alive_does l (takes c bytes) k = k

    -- while it does something its life lasts
    alive_then : (d : Deed) → x.event ≡ does d → (L x.pid now).left ≡ None
    alive_then d is = alive_does (L x.pid now) d (subst (λ z. MayCome (L x.pid now) z) is may)

    -- what is told at the next opening of a node
    next_pending : (p : ℕ) → IsNode p → AreTold (now ++ x ∷ []) (world (hs ++ m.happenings)).messages p (pending_in (L p (now ++ x ∷ [])))
    next_pending p is = subst (λ v. AreTold (now ++ x ∷ []) v.messages p (pending_in (L p (now ++ x ∷ [])))) (sym all)
        (told_later now (x ∷ []) (world hs).messages (run_of (world hs) m.happenings).messages p (pending_in (L p (now ++ x ∷ []))) m.messages (elim (cases_eq x.pid p) [
          | inl e ↦ subst (λ (z : Lived). AreTold now (world hs).messages p (pending_in z)) (sym (lived_own members observers counts p now x e))
              (subst (λ z. AreTold now (world hs).messages z (pending_in (lived_by (L z now) x.event))) e
              (pending_event (Tells x.pid (Fits now) (world hs).messages) (L x.pid now) x.event (begun_at members observers counts x.pid now) alive_then told (b.pending x.pid node)))
          | inr n ↦ subst (λ (z : Lived). AreTold now (world hs).messages p (pending_in z)) (sym (lived_other members observers counts p now x n)) (b.pending p is)
        ]))

    -- whether its life goes on, ends or begins
    linked_event : (l : Lived) (e : Event) → Begun l → Begun (lived_by l e) → MayCome l e → IsLinked (lived_by l e)
    linked_event l (does d) b c may = linked_alive (lived_by l (does d)) c (alive_does l d may)
    linked_event l ends b c may = linked_ended l b []
    linked_event l (killed bs) b c may = linked_ended l b (inputs_of bs)
    linked_event l (opens d count) b c may = refl

    next_linked : (p : ℕ) → IsNode p → IsLinked (L p (now ++ x ∷ []))
    next_linked p is = elim (cases_eq x.pid p) [
      | inl e ↦ subst IsLinked (sym (lived_own members observers counts p now x e)) (subst (λ z. IsLinked (lived_by (L z now) x.event)) e
          (linked_event (L x.pid now) x.event (begun_at members observers counts x.pid now) (subst Begun (lived_own members observers counts x.pid now x refl) (begun_at members observers counts x.pid (now ++ x ∷ []))) may))
      | inr n ↦ subst IsLinked (sym (lived_other members observers counts p now x n)) (b.linked p is)
    ]

    -- what a life gave out at its last event
    sent_event : (l : Lived) (e : Event) (y : ℕ × Msg) → Contains (sent_in (lived_by l e).first (lived_by l e).deeds) y → Contains (sent_in l.first l.deeds) y ⊎ Contains (sent_then l e) y
    sent_event l (does d) y c = elim (Contains-append_cases (sent_in l.first l.deeds) ((given_at (stands l) d).sends ++ []) y (subst (λ (z : List (ℕ × Msg)). Contains z y) (sent_push l.first l.deeds d) c)) [
      | inl old ↦ inl old
      | inr new ↦ inr (subst (λ (z : List (ℕ × Msg)). Contains z y) (append-nil (given_at (stands l) d).sends) new)
    ]
    sent_event l ends y c = inl c
    sent_event l (killed bs) y c = inl c
    sent_event l (opens d count) y c = absurd (omega (arith, c.1))

    replied_event : (read : Bool) (l : Lived) (e : Event) (y : Reply) → Contains (answered_in read (lived_by l e).first (lived_by l e).deeds) y → Contains (answered_in read l.first l.deeds) y ⊎ Contains (answered_then l e read) y
    replied_event read l (does d) y c = elim (Contains-append_cases (answered_in read l.first l.deeds) (answers_of read (given_at (stands l) d) ++ []) y (subst (λ (z : List Reply). Contains z y) (replied_push read l.first l.deeds d) c)) [
      | inl old ↦ inl old
      | inr new ↦ inr (subst (λ (z : List Reply). Contains z y) (append-nil (answers_of read (given_at (stands l) d))) new)
    ]
    replied_event read l ends y c = inl c
    replied_event read l (killed bs) y c = inl c
    replied_event read l (opens d count) y c = absurd (omega (arith, c.1))

    now_messages : (p : ℕ) → IsNode p → (d : ℕ) (msg : Msg) → Contains (sent_in (L p (now ++ x ∷ [])).first (L p (now ++ x ∷ [])).deeds) (d, msg) → Numbered (run_of (world hs) m.happenings).messages (sent_between p d msg)
    now_messages p is d msg c = elim (cases_eq x.pid p) [
      | inl e ↦ elim (sent_event (L p now) x.event (d, msg) (subst (λ (l : Lived). Contains (sent_in l.first l.deeds) (d, msg)) (lived_own members observers counts p now x e) c)) [
        | inl old ↦ still (sent_between p d msg) (b.messages now [] (sym (append-nil now)) p is d msg old)
        | inr new ↦ subst (λ z. Contains {X = ℕ × Msg} (sent_then (L z now) x.event) (d, msg) → Numbered (run_of (world hs) m.happenings).messages (sent_between z d msg)) e (m.given d msg) new
      ]
      | inr n ↦ still (sent_between p d msg) (b.messages now [] (sym (append-nil now)) p is d msg (subst (λ (l : Lived). Contains (sent_in l.first l.deeds) (d, msg)) (lived_other members observers counts p now x n) c))
    ]

    next_messages : (before since : List Happened) → now ++ x ∷ [] ≡ before ++ since → (p : ℕ) → IsNode p → (d : ℕ) (msg : Msg) → Contains (sent_in (L p before).first (L p before).deeds) (d, msg) → Numbered (world (hs ++ m.happenings)).messages (sent_between p d msg)
    next_messages before since e p is d msg c = subst (λ v. Numbered v.messages (sent_between p d msg)) (sym all) (elim (cut_last now x before since e) [
      | inl whole ↦ now_messages p is d msg (subst (λ l. Contains (sent_in (L p l).first (L p l).deeds) (d, msg)) whole.1 c)
      | inr part ↦ still (sent_between p d msg) (b.messages before part.0 part.1 p is d msg c)
    ])

    next_replies : (read : Bool) (p : ℕ) → IsNode p → (r : Reply) → Contains (answered_in read (L p (now ++ x ∷ [])).first (L p (now ++ x ∷ [])).deeds) r → Contains (world (hs ++ m.happenings)).lines (told_line read p r)
    next_replies read p is r c = subst (λ v. Contains v.lines (told_line read p r)) (sym all) (elim (cases_eq x.pid p) [
      | inl e ↦ elim (replied_event read (L p now) x.event r (subst (λ (l : Lived). Contains (answered_in read l.first l.deeds) r) (lived_own members observers counts p now x e) c)) [
        | inl old ↦ m.lines (told_line read p r) (b.replies read p is r old)
        | inr new ↦ subst (λ z. Contains (answered_then (L z now) x.event read) r → Contains (run_of (world hs) m.happenings).lines (told_line read z r)) e (m.replied read r) new
      ]
      | inr n ↦ m.lines (told_line read p r) (b.replies read p is r (subst (λ (l : Lived). Contains (answered_in read l.first l.deeds) r) (lived_other members observers counts p now x n) c))
    ])

    -- what is answered then is in range
    event_answers : (e : Event) → MayCome (L x.pid now) e → HeardSo x.pid (L x.pid now).deeds e → InputsSo (Tells x.pid (Fits now) (world hs).messages) e → (read : Bool) (r : Reply) → Contains (answered_then (L x.pid now) e read) r
        → known.ReplyInRange IsPid r
    event_answers (does (enters who i done)) come heard t read r c =
        let l : Lived = L x.pid now in
        let w : WorldInRange IsPid (world hs) = all_runs_stay members spares ms ss hs b.range in
        let fit : known.InputInRange IsPid i = input_fits x.pid l.deeds who i (world hs).messages w.messages heard (said_numbered (world hs).messages x.pid i t.what t.says) in
        all_contains (known.ReplyInRange IsPid) (answers_of read (gives (stands l) i)) r (answers_fit read (world hs) x.pid (stands l) (stored_in l) i w (b.nodes x.pid node) (stored_up l come.0) fit) c
    event_answers (does (enters who i (finds d))) come heard t read r c =
        absurd (let none = subst (λ (l : List Reply). Contains l r) (again_none read (stands (L x.pid now)) d) c in omega (arith, none.1))
    event_answers (does (enters who i (faults k))) come heard t read r c = absurd (silent (saying None) refl refl read r c)
    event_answers (does (enters who i (shares k))) come heard t read r c = absurd (silent (saying None) refl refl read r c)
    event_answers (does (enters who i damaged)) come heard t read r c = absurd (silent (saying None) refl refl read r c)
    event_answers (does (enters who i lost)) come heard t read r c = absurd (silent (saying None) refl refl read r c)
    event_answers (does (begins d bytes)) come heard t read r c = absurd (silent (saying None) refl refl read r c)
    event_answers (does (hears d bytes)) come heard t read r c = absurd (silent (saying None) refl refl read r c)
    event_answers (does (says f)) come heard t read r c = absurd (silent (saying None) refl refl read r c)
    event_answers (does (takes d bytes)) come heard t read r c = absurd (silent (saying None) refl refl read r c)
    event_answers ends come heard t read r c = absurd (omega (arith, c.1))
    event_answers (killed bs) come heard t read r c = absurd (omega (arith, c.1))
    event_answers (opens d count) come heard t read r c = absurd (omega (arith, c.1))

    next_answers : (read : Bool) (p : ℕ) → IsNode p → (r : Reply) → Contains (answered_in read (L p (now ++ x ∷ [])).first (L p (now ++ x ∷ [])).deeds) r → known.ReplyInRange IsPid r
    next_answers read p is r c = elim (cases_eq x.pid p) [
      | inl e ↦ elim (replied_event read (L p now) x.event r (subst (λ (l : Lived). Contains (answered_in read l.first l.deeds) r) (lived_own members observers counts p now x e) c)) [
        | inl old ↦ b.answers read p is r old
        | inr new ↦ event_answers x.event may heard told read r (subst (λ z. Contains (answered_then (L z now) x.event read) r) (sym e) new)
      ]
      | inr n ↦ b.answers read p is r (subst (λ (l : Lived). Contains (answered_in read l.first l.deeds) r) (lived_other members observers counts p now x n) c)
    ]

    next_asked : (c : Command) → IsAmong (commands_in (hs ++ m.happenings)) c → AskedBy (now ++ x ∷ []) (request.Command c)
    next_asked c k = asked_later now (x ∷ []) (request.Command c) (elim (from_both c (commands_in hs) (commands_in m.happenings) (subst (λ l. IsAmong l c) (commands_more hs m.happenings) k)) [
      | inl old ↦ b.asked c old
      | inr new ↦ all_asked now m.happenings c m.are new
    ])

    next_read : (r : Read) → IsAmong (reads_in (hs ++ m.happenings)) r → AskedBy (now ++ x ∷ []) (request.Read r)
    next_read r k = asked_later now (x ∷ []) (request.Read r) (elim (from_both r (reads_in hs) (reads_in m.happenings) (subst (λ l. IsAmong l r) (reads_more hs m.happenings) k)) [
      | inl old ↦ b.read r old
      | inr new ↦ all_read now m.happenings r m.are new
    ])

    -- a command that it takes in now
    taken_now : (c : Command) → TakesIn c (L x.pid now) x.event → TakenBy (now ++ x ∷ []) c
    taken_now c k = (now, [], x, refl, node, k)

    all_taken_now : (e : Event) → ((c : Command) → TakesIn c (L x.pid now) e → TakenBy (now ++ x ∷ []) c) → AddsAt (AllTakenBy (now ++ x ∷ [])) (L x.pid now) e
    all_taken_now (does (begins d bytes)) f = tt
    all_taken_now (does (hears d bytes)) f = tt
    all_taken_now (does (enters who i done)) f = tt
    all_taken_now (does (enters who i (finds d))) f = tt
    all_taken_now (does (enters who i (faults k))) f = λ up c brings. f c (brings, up)
    all_taken_now (does (enters who i (shares k))) f = λ c brings. f c (brings, tt)
    all_taken_now (does (enters who i damaged)) f = tt
    all_taken_now (does (enters who i lost)) f = tt
    all_taken_now (does (says g)) f = tt
    all_taken_now (does (takes d bytes)) f = tt
    all_taken_now ends f = tt
    all_taken_now (killed bs) f = each_taken bs (λ y among c brings. f c (y, among, brings))
      where
        each_taken : (ys : List Brought) → ((y : Brought) → IsAmong ys y → AllTakenBy (now ++ x ∷ []) y.1) → Each (AllTakenBy (now ++ x ∷ [])) (inputs_of ys)
        each_taken [] g = tt
        each_taken (y ∷ ys) g = (g y (inl refl), each_taken ys (λ z k. g z (inr k)))
    all_taken_now (opens d count) f = tt

    next_held : (p : ℕ) → IsNode p → Each (AllTakenBy (now ++ x ∷ [])) (pending_in (L p (now ++ x ∷ [])))
    next_held p is = elim (cases_eq x.pid p) [
      | inl e ↦ subst (λ (z : Lived). Each (AllTakenBy (now ++ x ∷ [])) (pending_in z)) (sym (lived_own members observers counts p now x e))
          (subst (λ z. Each (AllTakenBy (now ++ x ∷ [])) (pending_in (lived_by (L z now) x.event))) e
          (pending_added (AllTakenBy (now ++ x ∷ [])) (L x.pid now) x.event (begun_at members observers counts x.pid now) alive_then (all_taken_now x.event taken_now)
          (all_taken_later now (x ∷ []) (pending_in (L x.pid now)) (b.held x.pid node))))
      | inr n ↦ subst (λ (z : Lived). Each (AllTakenBy (now ++ x ∷ [])) (pending_in z)) (sym (lived_other members observers counts p now x n))
          (all_taken_later now (x ∷ []) (pending_in (L p now)) (b.held p is))
    ]

    next_taken : (c : Command) (conf : ℕ) → IsAmong ((execution_of (first_execution members spares) (hs ++ m.happenings)).machine.proposed conf) (entry.Command c) → TakenBy (now ++ x ∷ []) c
    next_taken c conf k =
        let t0 : Execution = first_execution members spares in
        let t : Execution = execution_of t0 hs in
        let l : Lived = L x.pid now in
        let stands_there : StandsAt t.world x.pid (stands l) (stored_in l) = subst (λ w. StandsAt w x.pid (stands l) (stored_in l)) (sym (world_of_run t0 hs)) (b.nodes x.pid node) in
        let becomes : EventBecomes t.world x.pid l x.event m.happenings = subst (λ w. EventBecomes w x.pid l x.event m.happenings) (sym (world_of_run t0 hs)) m.is in
        elim (proposed_there c t m.happenings conf (subst (λ (z : Execution). IsAmong (z.machine.proposed conf) (entry.Command c)) (execution_append t0 hs m.happenings) k)) [
          | inl old ↦ taken_later now (x ∷ []) c (b.taken c conf old)
          | inr comes ↦ elim (comes_at c t x.pid l stands_there x.event m.happenings conf alive_then becomes comes) [
            | inl own ↦ taken_now c own
            | inr held ↦ taken_later now (x ∷ []) c (each_at (AllTakenBy now) (pending_in l) held.0 held.1 (b.held x.pid node) c held.2)
          ]
        ]

    one_more : (gs : List Happening) × Beside (now ++ x ∷ []) (hs ++ gs) × EventBecomes (world hs) x.pid (L x.pid now) x.event gs
    one_more = (
      m.happenings,
      record {
        nodes = next_nodes;
        messages = next_messages;
        replies = next_replies;
        answers = next_answers;
        pending = next_pending;
        linked = next_linked;
        asked = next_asked;
        read = next_read;
        taken = next_taken;
        held = next_held;
        count = (let e = ap (λ v. length v.messages) all in let k = messages_more [] now x in let c = m.count in let o = b.count in omega (arith, e, k, c, o));
        range = All-append (λ h. WhatInRange h.event.what) hs m.happenings b.range (all_range now m.happenings m.are);
        proposals = (let e = proposals_more hs m.happenings in let k = proposals_behind [] now x in let n = m.proposed in let o = b.proposals in omega (arith, e, k, n, o));
      },
      m.is,
    )

  -- ---- a cluster

  module _ (trace : List Happened) (c : IsCluster members spares observers counts trace) where
    messages_front : (before xs ys : List Happened) → messages_behind members observers counts before xs ≤ messages_behind members observers counts before (xs ++ ys)
    messages_front before [] ys = omega arith
    messages_front before (x ∷ xs) ys = let k = messages_front (before ++ x ∷ []) xs ys in omega (arith, k)

    few_then : (now later : List Happened) (hs : List Happening) → trace ≡ now ++ later → Beside now hs → length (world hs).messages < 2 ^ 64
    few_then now later hs split b =
        let o = b.count in
        let front = messages_front [] now later in
        let whole = ap (messages_behind members observers counts []) split in
        let most = c.messages in
        omega (arith, o, front, whole, most)

    -- what was given out can be read
    can_then : (now : List Happened) (hs : List Happening) → Beside now hs → (r : ℕ) → IsNode r → (before since : List Happened) → now ≡ before ++ since → CanBeRead r (L r before).first (L r before).deeds
    can_then now hs b r is before since split d msg there fits =
        let k = b.messages before since split r is d msg there in
        can_be_read (sent_between r d msg) (numbered_all (SentInRange IsPid) (world hs).messages k.0 (sent_between r d msg) (all_runs_stay members spares ms ss hs b.range).messages k.1) fits

    read_then : (now later : List Happened) (hs : List Happening) → trace ≡ now ++ later → Beside now hs → (p q : ℕ) (msg : Msg) → IsNode p → WasRead p (L p now).deeds q msg
        → IsNode q × ((before since : List Happened) × (now ≡ before ++ since) × Contains (sent_in (L q before).first (L q before).deeds) (p, msg))
    read_then now later hs split b p q msg is was = read_was_given members spares observers counts trace c now later split (can_then now hs b) p q msg is was

    numbered_then : (now later : List Happened) (hs : List Happening) → trace ≡ now ++ later → Beside now hs → (p : ℕ) → IsNode p → (who : List ℕ) (i : Input) → WasHeard p (L p now).deeds who i
        → (q : ℕ) (msg : Msg) → i ≡ input.Deliver q msg → Numbered (world hs).messages (sent_between q p msg)
    numbered_then now later hs split b p is who i heard q msg e =
        let g = read_then now later hs split b p q msg is (subst (λ z. WasHeard p (L p now).deeds who z) e heard) in
        b.messages g.1.0 g.1.1 g.1.2 q g.0 p msg g.1.3

    -- behind these deeds another one was caused
    cause_last : (p : ℕ) (l : Lived) (d : Deed) → l.first.me ≡ p → Serves l.first (l.deeds ++ d ∷ []) → IsCaused p l.first l.deeds d
    cause_last p l d me s = caused_at p l.first [] l.deeds d [] (subst (λ z. AreCaused z l.first (l.deeds ++ d ∷ [])) me (deeds_are_caused l.first (l.deeds ++ d ∷ []) s))

    -- it is the life's deed
    next_life : (now later : List Happened) (p : ℕ) (e : Event) → trace ≡ now ++ record { pid = p; event = e } ∷ later → IsNode p → IsLife (lived_by (L p now) e)
    next_life now later p e split is =
        let x : Happened = record { pid = p; event = e } in
        subst IsLife (lived_own members observers counts p now x refl) (c.lives (now ++ x ∷ []) later (split ∙ sym (append_assoc now (x ∷ []) later)) p is)

    cause_next : (now later : List Happened) (p : ℕ) (d : Deed) → trace ≡ now ++ record { pid = p; event = does d } ∷ later → IsNode p → IsCaused p (L p now).first (L p now).deeds d
    cause_next now later p d split is = cause_last p (L p now) d (first_me members observers counts p now) (next_life now later p (does d) split is).serves

    heard_next : (now later : List Happened) (p : ℕ) (e : Event) → trace ≡ now ++ record { pid = p; event = e } ∷ later → IsNode p → HeardSo p (L p now).deeds e
    heard_next now later p (does (begins d bytes)) split is = tt
    heard_next now later p (does (hears d bytes)) split is = tt
    heard_next now later p (does (enters who i fate)) split is = (cause_next now later p (enters who i fate) split is).0
    heard_next now later p (does (says f)) split is = tt
    heard_next now later p (does (takes d bytes)) split is = tt
    heard_next now later p ends split is = tt
    heard_next now later p (killed bs) split is =
        let k = (c.may now later (record { pid = p; event = killed bs }) split).1 in
        subst (Each (λ b. WasHeard p (L p now).deeds b.0 b.1)) k.1 (heard_coming p (L p now).first (L p now).deeds k.0
        (subst (λ z. AreCaused z (L p now).first ((L p now).deeds ++ map (λ x. enters x.0.0 x.0.1 x.1) k.0)) (first_me members observers counts p now) (deeds_are_caused (L p now).first ((L p now).deeds ++ map (λ x. enters x.0.0 x.0.1 x.1) k.0) k.2)))
    heard_next now later p (opens d count) split is = tt

    -- an input that was heard may be told of
    told_input : (now later : List Happened) (hs : List Happening) (p : ℕ) → trace ≡ now ++ later → Beside now hs → IsNode p → (who : List ℕ) (i : Input) → WasHeard p (L p now).deeds who i → Tells p (Fits now) (world hs).messages i
    told_input now later hs p split b is who i heard =
        tells_heard now (world hs).messages p who i is heard (numbered_then now later hs split b p is who i heard) (few_then now later hs split b)

    told_next : (now later : List Happened) (hs : List Happening) (p : ℕ) (e : Event) → trace ≡ now ++ later → Beside now hs → IsNode p → HeardSo p (L p now).deeds e → InputsSo (Tells p (Fits now) (world hs).messages) e
    told_next now later hs p (does (begins c bytes)) split b is heard = tt
    told_next now later hs p (does (hears c bytes)) split b is heard = tt
    told_next now later hs p (does (enters who i fate)) split b is heard = told_input now later hs p split b is who i heard
    told_next now later hs p (does (says f)) split b is heard = tt
    told_next now later hs p (does (takes c bytes)) split b is heard = tt
    told_next now later hs p ends split b is heard = tt
    told_next now later hs p (killed bs) split b is heard =
        each_inputs bs (each_map (λ x. WasHeard p (L p now).deeds x.0 x.1) (λ x. Tells p (Fits now) (world hs).messages x.1) (λ x h. told_input now later hs p split b is x.0 x.1 h) bs heard)
      where
        each_inputs : (xs : List Brought) → Each (λ x. Tells p (Fits now) (world hs).messages x.1) xs → Each (Tells p (Fits now) (world hs).messages) (inputs_of xs)
        each_inputs [] h = tt
        each_inputs (x ∷ xs) h = (h.0, each_inputs xs h.1)
    told_next now later hs p (opens d count) split b is heard = tt

    may_next : (now later : List Happened) (p : ℕ) (e : Event) → trace ≡ now ++ record { pid = p; event = e } ∷ later → IsNode p → MayCome (L p now) e
    may_next now later p (does (begins d bytes)) split is = c.may now later (record { pid = p; event = does (begins d bytes) }) split
    may_next now later p (does (hears d bytes)) split is = c.may now later (record { pid = p; event = does (hears d bytes) }) split
    may_next now later p (does (enters who i fate)) split is = (
      c.may now later (record { pid = p; event = does (enters who i fate) }) split,
      (cause_next now later p (enters who i fate) split is).1,
      finds_at (L p now).first (L p now).unstored (L p now).deeds (enters who i fate) [] (next_life now later p (does (enters who i fate)) split is).stored,
    )
    may_next now later p (does (says f)) split is = c.may now later (record { pid = p; event = does (says f) }) split
    may_next now later p (does (takes d bytes)) split is = c.may now later (record { pid = p; event = does (takes d bytes) }) split
    may_next now later p ends split is = c.may now later (record { pid = p; event = ends }) split
    may_next now later p (killed bs) split is = (c.may now later (record { pid = p; event = killed bs }) split).0
    may_next now later p (opens d count) split is = c.may now later (record { pid = p; event = opens d count }) split

    -- behind these, events have become happenings
    abbrev pub Become : List Happened → List Happening → List Happened → List Happening → Type 0
    Become before hs mid gs = BecomeBehind members spares observers counts before hs mid gs

    -- at each moment of these
    abbrev pub Moments : List Happened → List Happening → List Happened → List Happening → Type 0
    Moments before hs mid gs = (now rest : List Happened) → mid ≡ now ++ rest → (first last : List Happening) × (gs ≡ first ++ last) × Beside (before ++ now) (hs ++ first) × Become before hs now first

    pub record Run (before : List Happened) (hs : List Happening) (mid : List Happened) : Type 0 where
      pub more : List Happening
      pub events : Become before hs mid more
      pub moments : Moments before hs mid more
      pub end : Beside (before ++ mid) (hs ++ more)

    here_beside : (now : List Happened) (hs : List Happening) → Beside now hs → Beside (now ++ []) (hs ++ [])
    here_beside now hs b = subst (λ l. Beside l (hs ++ [])) (sym (append-nil now)) (subst (λ l. Beside now l) (sym (append-nil hs)) b)

    later_moments : (before mid : List Happened) (hs : List Happening) (x : Happened) → Beside before hs → (one gs : List Happening) → EventBecomes (world hs) x.pid (L x.pid before) x.event one
        → Moments (before ++ x ∷ []) (hs ++ one) mid gs → Moments before hs (x ∷ mid) (one ++ gs)
    later_moments before mid hs x b one gs made k [] rest e = ([], one ++ gs, refl, here_beside before hs b, refl)
    later_moments before mid hs x b one gs made k (y ∷ now) rest e =
        let j = k now rest (tail_is x y mid (now ++ rest) e) in (
          one ++ j.0,
          j.1,
          ap (λ l. one ++ l) j.2 ∙ sym (append_assoc one j.0 j.1),
          subst (λ z. Beside (before ++ z ∷ now) (hs ++ (one ++ j.0))) (head_is x y mid (now ++ rest) e)
              (subst (λ l. Beside l (hs ++ (one ++ j.0))) (append_assoc before (x ∷ []) now) (subst (λ l. Beside ((before ++ x ∷ []) ++ now) l) (append_assoc hs one j.0) j.3)),
          subst (λ z. Become before hs (z ∷ now) (one ++ j.0)) (head_is x y mid (now ++ rest) e) (one, j.0, refl, made, j.4),
        )

    run_behind : (before mid : List Happened) (hs : List Happening) (x : Happened) → Beside before hs → (one : List Happening) → EventBecomes (world hs) x.pid (L x.pid before) x.event one → Run (before ++ x ∷ []) (hs ++ one) mid
        → Run before hs (x ∷ mid)
    run_behind before mid hs x b one made rest = record {
      more = one ++ rest.more;
      events = (one, rest.more, refl, made, rest.events);
      moments = later_moments before mid hs x b one rest.more made rest.moments;
      end = subst (λ l. Beside l (hs ++ (one ++ rest.more))) (append_assoc before (x ∷ []) mid)
          (subst (λ l. Beside ((before ++ x ∷ []) ++ mid) l) (append_assoc hs one rest.more) rest.end);
    }

    run_from : (before mid : List Happened) (hs : List Happening) → trace ≡ before ++ mid → Beside before hs → Run before hs mid
    run_from before [] hs split b = record {
      more = [];
      events = refl;
      moments = λ now rest e. (
        [],
        [],
        refl,
        subst (λ l. Beside (before ++ l) (hs ++ [])) (sym (none_left now rest e)) (here_beside before hs b),
        subst (λ l. Become before hs l []) (sym (none_left now rest e)) refl,
      );
      end = here_beside before hs b;
    }
    run_from before (x ∷ mid) hs split b =
        let is : IsNode x.pid = all_at (λ y. IsNode y.pid) before x mid (subst (λ l. All (λ y. IsNode y.pid) l) split c.nodes) in
        let heard = heard_next before mid x.pid x.event split is in
        let one = one_more before hs b x is (may_next before mid x.pid x.event split is) heard (told_next before (x ∷ mid) hs x.pid x.event split b is heard) in
        run_behind before mid hs x b one.0 one.2 (run_from (before ++ x ∷ []) mid (hs ++ one.0) (split ∙ sym (append_assoc before (x ∷ []) mid)) one.1)

    pub whole : Run [] (observers_begun observers) trace
    whole = run_from [] trace (observers_begun observers) refl begins_beside

    -- all happenings of the run, with the starts of its observers
    abbrev pub happenings : List Happening
    happenings = observers_begun observers ++ whole.more

    in_range : HappeningsInRange happenings
    in_range = record { few = (let a = whole.end.proposals in let b = c.proposals in omega (arith, a, b)); each = whole.end.range }

    pub moment_of : (now : List Happened) (first last : List Happening) → happenings ≡ first ++ last → Beside now first → IsMoment members spares observers counts now first
    moment_of now first last e b =
        let t : Execution = execution_of (first_execution members spares) first in
        let run : RunInRange members spares first = front_in_range members spares first last (subst (λ l. RunInRange members spares l) e (record { first = ms; others = ss; happenings = in_range })) in
        record {
          nodes = b.nodes;
          replies = λ p is r c.
              any_line (history_after members spares first) p 0 r
              (all_contains (IfReplyServed (history_after members spares first)) t.world.lines (answer_line p r.client r.seq r.answer) (every_reply_is_served members spares first run)
              (subst (λ v. Contains v.lines (answer_line p r.client r.seq r.answer)) (sym (world_of_run (first_execution members spares) first)) (b.replies false p is r c)));
        }

    -- the happenings of a first part are the first of all
    pub front_of : (first last : List Happening) → whole.more ≡ first ++ last → happenings ≡ (observers_begun observers ++ first) ++ last
    front_of first last e = ap (λ (l : List Happening). observers_begun observers ++ l) e ∙ sym (append_assoc (observers_begun observers) first last)

    pub is_run : IsRun members spares observers counts trace happenings
    is_run = record {
      moments = λ now later e. (let j = whole.moments now later e in
          let front = front_of j.0 j.1 j.2 in (observers_begun observers ++ j.0, j.1, front, moment_of now (observers_begun observers ++ j.0) j.1 front j.3));
      range = in_range;
      meets = every_run_meets members spares ms ss happenings in_range;
    }

    pub deliveries_were_given : DeliveriesWereGiven members spares observers counts trace
    deliveries_were_given early later p q msg who fate split =
        let x : Happened = record { pid = p; event = does (enters who (input.Deliver q msg) fate) } in
        let j = whole.moments early (x ∷ later) split in
        let is : IsNode p = all_at (λ y. IsNode y.pid) early x later (subst (λ l. All (λ y. IsNode y.pid) l) split c.nodes) in
        read_then early (x ∷ later) (observers_begun observers ++ j.0) split j.3 p q msg is (cause_next early later p (enters who (input.Deliver q msg) fate) split is).0
