-- What clients of a cluster see is linearizable until clients are forgotten: its run has one history, by which all answers are given.
use Rattle.std.proofs.Common.{◌≡◌, ◌≤◌, ℕ, Bool, true, false, List, [], ◌∷◌, ◌++◌, map, length, Option, Some, None, refl, sym, ◌∙◌, ap, subst, arith, append_assoc, inl, inr, if◌then◌else◌}
use Rattle.std.specs.Prelude.{take, drop}
use Rattle.std.proofs.lemmas.List.{take-append-drop, take-take, take_all}
use Rattle.op_types.specs.Ranges.{MembersInRange}
use Rattle.op_types.specs.declared.answers.Answer.{Answer}
use Rattle.op_types.specs.declared.answers.Answer.TheVariants as answer
use Rattle.op_types.specs.declared.answers.Cause.{Cause}
use Rattle.op_types.specs.declared.answers.Reply.{Reply}
use Rattle.op_types.specs.declared.events.Input.{Input}
use Rattle.op_types.specs.declared.events.Request.TheVariants as request
use Rattle.op_types.specs.declared.log.Command.{Command}
use Rattle.op_types.specs.declared.log.Entry.{Entry}
use Rattle.op_types.specs.declared.log.Entry.TheVariants as entry
use Rattle.op_types.specs.declared.read.Read.{Read}
use Rattle.op_spec.specs.Machine.{IsAmong}
use Rattle.op_spec.specs.Service.{told_value, service_of, value_at}
use Rattle.op_runs.specs.Possible.{SparesInRange, ObserversInRange}
use Rattle.op_runs.specs.Replies.{IsServed}
use Rattle.op_runs.specs.World.{Kind, Votes, Observes, Happening, plan_as}
use Rattle.op_reads.specs.declared.asked_read.AskedRead.{AskedRead}
use Rattle.op_types.specs.Changes.{durable_after}
use Rattle.op_protocol.specs.Configurations.{latest_of}
use Rattle.op_protocol.specs.State.{State, Planned}
use Rattle.op_protocol.specs.Reading.{read_reply, dropped_read, why_given_up, asked_of, answered_by, given_up_in, leads_on}
use Rattle.op_protocol.specs.Rows.{table_plan}
use Rattle.op_laws.proofs.Drops.{in_left, in_right, from_both}
use Rattle.op_read_laws.specs.Told.{IsGiven}
use Rattle.op_read_laws.proofs.ReadsFresh.{among_map}
use Rattle.op_serving.specs.Cores.{Failure, Standing, gives, given_again}
use Rattle.op_serving.specs.Fates.{done, finds, faults, shares, damaged, lost}
use Rattle.op_serving.specs.Inputs.{Deed, begins, hears, enters, says, takes}
use Rattle.op_connections.proofs.Observing.{watch_quiet}
use Rattle.op_cluster_laws.specs.Clusters.{IsCluster}
use Rattle.op_cluster_laws.specs.Currency.{WasAskedOf}
use Rattle.op_cluster_laws.specs.Orders.{IsAnswer}
use Rattle.op_cluster_laws.specs.Outputs.{after_deed, given_at, answers_of, answered_in}
use Rattle.op_cluster_laws.specs.Traces.{Happened, Lived, lived_at}
use Rattle.op_cluster_laws.specs.Worlds.{history_after}
use Rattle.op_cluster_laws.proofs.Current.{contains_among}
use Rattle.op_cluster_laws.proofs.Reaching.{served_answer}
use Rattle.op_linear.specs.Apart.{LetsAgain, ClustersLetAgain}
use Rattle.op_linear.specs.Calls.{IsRequested, IsGivenOut, IsClientHistory, ClustersAreLinearizable}
use Rattle.op_linear.specs.Forgetting.{IsForgetOf, ForgetsCaller, LinearizableUntil, NoneLets}
use Rattle.op_linear.specs.Histories.{call_key}
use Rattle.op_linear.specs.Linear.{IsSeen, IsLinearAt}
use Rattle.op_linear.specs.Linearizable.{ClientCall, commands, reads, calls, returns, IsResult, History, Linearizable}
use Rattle.op_linear.proofs.Effects.{served_effect}
use Rattle.op_linear.proofs.Apart.{come_in_order}
use Rattle.op_linear.proofs.Linear.{LinearRun, linear_run}
use Rattle.op_linear.proofs.Linearizing.{EffectAt, SeenAt, is_until}
use Rattle.op_linear.proofs.Plain.{is_linearizable}
use Rattle.op_linear.proofs.Weaving.{placed, same_read, same_command}

-- ---- a result of a read is a value, or that there is none

told_given : (o : Option (List ℕ)) → IsGiven (told_value o)
told_given None = tt
told_given (Some value) = tt

read_given : (p : Planned) (xs : List AskedRead) (r : Reply) → IsAmong (map (read_reply p.service) xs) r → IsGiven r.answer
read_given p xs r k =
    let m = among_map (read_reply p.service) xs r k in
    subst (λ (z : Reply). IsGiven z.answer) m.2 (told_given (value_at (m.0).read.key p.service.pairs))

dropped_none : (why : Cause) (xs : List AskedRead) (r : Reply) → IsAmong (map (dropped_read why) xs) r → IsResult r.answer → ⊥
dropped_none why xs r k i = let m = among_map (dropped_read why) xs r k in subst (λ (z : Reply). IsResult z.answer) (sym m.2) i

given_up_none : (s : State) (p : Planned) (r : Reply) → IsAmong (given_up_in s p) r → IsResult r.answer → ⊥
given_up_none s p r k i = by (leads_on s.volatile.role p.volatile.role) (why_given_up (latest_of s.durable) (durable_after s.durable p.batch).part (durable_after s.durable p.batch).closed) (asked_of s.reads) k
  where
    by : (b : Bool) (why : Cause) (xs : List AskedRead) → IsAmong (if b then [] else map (dropped_read why) xs) r → ⊥
    by true why xs m = m
    by false why xs m = dropped_none why xs r m i

-- what a server's step answers reads: an observer answers none
plan_gives : (seat : Kind) (me : ℕ) (s : State) (i : Input) (r : Reply) → IsAmong (plan_as seat me s i).read_replies r → IsResult r.answer → IsGiven r.answer
plan_gives Votes me s i r m result =
    let p : Planned = table_plan me s i in
    elim (from_both r (map (read_reply p.service) (answered_by me s i p)) (given_up_in s p) m) [
      | inl a ↦ read_given p (answered_by me s i p) r a
      | inr b ↦ absurd (given_up_none s p r b result)
    ]
plan_gives Observes me s i r m result = absurd (subst (λ l. IsAmong l r) (watch_quiet me s i).read_replies m)

step_gives : (n : Standing) (i : Input) (r : Reply) → IsAmong (gives n i).read_replies r → IsResult r.answer → IsGiven r.answer
unfolding gives
step_gives n i r k result = by_failed n.failed refl k
  where
    by_failed : (o : Option Failure) → n.failed ≡ o → IsAmong (gives n i).read_replies r → IsGiven r.answer
    by_failed (Some f) e m = absurd (rw e at m)
    by_failed None e m = plan_gives n.kind n.me n.state i r (rw e at m) result

again_gives : (n : Standing) (d : _) (r : Reply) → IsAmong (given_again n d).read_replies r → ⊥
unfolding given_again
again_gives n d r k = k

deed_gives : (n : Standing) (d : Deed) (r : Reply) → IsAmong (answers_of true (given_at n d)) r → IsResult r.answer → IsGiven r.answer
deed_gives n (begins c b) r k i = absurd k
deed_gives n (hears c b) r k i = absurd k
deed_gives n (enters who x done) r k i = step_gives n x r k i
deed_gives n (enters who x (finds d)) r k i = absurd (again_gives n d r k)
deed_gives n (enters who x (faults f)) r k i = absurd k
deed_gives n (enters who x (shares f)) r k i = absurd k
deed_gives n (enters who x damaged) r k i = absurd k
deed_gives n (enters who x lost) r k i = absurd k
deed_gives n (says f) r k i = absurd k
deed_gives n (takes c b) r k i = absurd k

reads_give : (n : Standing) (ds : List Deed) (r : Reply) → IsAmong (answered_in true n ds) r → IsResult r.answer → IsGiven r.answer
reads_give n [] r k i = absurd k
reads_give n (d ∷ ds) r k i = elim (from_both r (answers_of true (given_at n d)) (answered_in true (after_deed n d) ds) k) [
  | inl a ↦ deed_gives n d r a i
  | inr b ↦ reads_give (after_deed n d) ds r b i
]

same_pair : (i j p q : ℕ) → i ≡ p → j ≡ q → ◌≡◌ {A = ℕ × ℕ} (i, j) (p, q)
same_pair i j p q e g = ap (λ z. (z, j)) e ∙ ap (λ z. (p, z)) g

-- a result is an answer
result_answers : (a : Answer) → IsResult a → IsAnswer a
result_answers answer.Done i = tt
result_answers (answer.Value value) i = tt
result_answers answer.Absent i = tt
result_answers answer.Stale i = tt
result_answers (answer.Dropped why) i = absurd i

-- ---- a cluster

module _ (members spares observers : List ℕ) (ms : MembersInRange members) (ss : SparesInRange members spares) (os : ObserversInRange members spares observers) (faulted : ℕ → ℕ) (trace : List Happened) (c : IsCluster members spares observers faulted trace) where
  abbrev requested : ℕ → ClientCall → Type 0
  requested = IsRequested members spares observers faulted trace

  abbrev answered : ℕ → ClientCall → Answer → Type 0
  answered = IsGivenOut members spares observers faulted trace

  linear : LinearRun members spares observers faulted trace
  linear = linear_run members spares observers ms ss os faulted trace c

  abbrev at : ℕ → List Happening
  at = linear.at

  abbrev hs : List Happening
  hs = linear.happenings

  abbrev whole : List Entry
  whole = history_after members spares hs

  abbrev cut : ℕ → List Entry
  cut k = history_after members spares (at k)

  each : (k : ℕ) → IsLinearAt members spares observers faulted trace hs at k
  each k = linear.each k

  later : (j k : ℕ) (x : ClientCall) → j ≤ k → requested j x → requested k x
  later j k x le r =
      let more : List Happened = drop j (take k trace) in
      let on : take k trace ≡ take j trace ++ more = sym (take-append-drop j (take k trace)) ∙ ap (λ l. l ++ more) (take-take j k trace le) in
      (r.0, r.1 ++ more, on ∙ ap (λ l. l ++ more) r.2 ∙ append_assoc r.0 r.1 more, r.3, r.4, r.5, r.6)

  asked_ever : (b : Command) → IsAmong whole (entry.Command b) → (k : ℕ) × requested k (commands b)
  asked_ever b k = (
    length trace,
    subst (λ l. WasAskedOf members spares observers faulted l (request.Command b)) (sym (take_all (length trace) trace (omega arith))) (linear.asked b k),
  )

  -- who forgets the client of a command between two of its places lets it come again
  lets : (b f : Command) (before mid late : List Entry) → whole ≡ before ++ entry.Command b ∷ (mid ++ entry.Command f ∷ late) → IsForgetOf b.client f → IsAmong late (entry.Command b)
      → LetsAgain members spares hs f (commands b)
  lets b f before mid late e is k = (
    is,
    come_in_order members spares hs linear.run.meets b f (before ++ entry.Command b ∷ []) (mid ++ entry.Command f ∷ late) (e ∙ sym (append_assoc before (entry.Command b ∷ []) (mid ++ entry.Command f ∷ late)))
        (in_right (entry.Command b) before (entry.Command b ∷ []) (inl refl)) (in_right (entry.Command f) mid (entry.Command f ∷ late) (inl refl)),
    come_in_order members spares hs linear.run.meets f b (before ++ entry.Command b ∷ (mid ++ entry.Command f ∷ [])) late
        (e ∙ ap (λ l. before ++ entry.Command b ∷ l) (sym (append_assoc mid (entry.Command f ∷ []) late)) ∙ sym (append_assoc before (entry.Command b ∷ (mid ++ entry.Command f ∷ [])) late))
        (in_right (entry.Command f) before (entry.Command b ∷ (mid ++ entry.Command f ∷ [])) (inr (in_right (entry.Command f) mid (entry.Command f ∷ []) (inl refl)))) k,
  )

  module _ (h : History) (clients : IsClientHistory members spares observers faulted trace h) where
    -- what returns was called
    returns_called : (x : ClientCall) (a : Answer) → IsAmong h (returns x a) → IsAmong h (calls x)
    returns_called x a k =
        let p = placed (returns x a) h k in
        subst (λ l. IsAmong l (calls x)) (sym p.2) (in_left (calls x) p.0 (returns x a ∷ p.1) (clients.matched p.0 p.1 x a p.2))

    served : (k : ℕ) (x : Command) (a : Answer) → IsAmong h (returns (commands x) a) → answered k (commands x) a → (b : ℕ) × (b ≤ k) × EffectAt (cut b) x a
    served k x a called n = (n.moment, n.by_then, by_effect)
      where
        result : IsResult n.reply.answer
        result = subst IsResult (sym n.is) n.result

        is_served : IsServed (cut n.moment) n.reply.client n.reply.seq n.reply.answer
        is_served = served_answer (cut n.moment) n.reply ((each n.moment).moment.replies n.pid n.member n.reply n.given) (result_answers n.reply.answer result)

        by_effect : EffectAt (cut n.moment) x a
        by_effect =
            let f = served_effect (cut n.moment) n.reply.client n.reply.seq n.reply.answer result is_served in
            let d : Command = f.command in
            let there : IsAmong (cut n.moment) (entry.Command d) = subst (λ l. IsAmong l (entry.Command d)) (sym f.place) (in_right (entry.Command d) f.before (entry.Command d ∷ f.after) (inl refl)) in
            let was = clients.called n.moment (commands d) ((each n.moment).commands d there) in
            let key : (d.client, d.seq) ≡ call_key (commands x) = same_pair d.client d.seq n.reply.client n.reply.seq f.client_is f.seq_is ∙ n.key in
            let same : d ≡ x = same_command d x (clients.numbers (commands d) (commands x) was (returns_called (commands x) a called) refl key) in
            subst (λ (z : Command). EffectAt (cut n.moment) z a) same
            (record { before = f.before; after = f.after; place = f.place; takes_it = f.takes_it; answer_is = sym n.is ∙ f.answer_is })

    seen : (k : ℕ) (x : Read) (a : Answer) → IsAmong h (returns (reads x) a) → answered k (reads x) a → (b : ℕ) × (b ≤ k) × SeenAt requested cut b x a
    seen k x a called n = (n.moment, n.by_then, by_sight ((each n.moment).reads n.pid n.member n.reply n.given given))
      where
        given : IsGiven n.reply.answer
        given =
            let l : Lived = lived_at members observers faulted n.pid (take n.moment trace) in
            reads_give l.first l.deeds n.reply (contains_among (answered_in true l.first l.deeds) n.reply n.given) (subst IsResult (sym n.is) n.result)

        -- a read of that key that a node read is this one
        is_it : (q : Read) (j : ℕ) → requested j (reads q) → ◌≡◌ {A = ℕ × ℕ} (q.client, q.seq) (n.reply.client, n.reply.seq) → q ≡ x
        is_it q j r e = same_read q x (clients.numbers (reads q) (reads x) (clients.called j (reads q) r) (returns_called (reads x) a called) refl (e ∙ n.key))

        by_sight : IsSeen members spares observers faulted trace at n.moment n.reply → SeenAt requested cut n.moment x a
        by_sight s =
            let same : s.read ≡ x = is_it s.read n.moment s.asked (same_pair s.read.client s.read.seq n.reply.client n.reply.seq s.client_is s.seq_is) in record {
              asked = subst (λ z. requested n.moment (reads z)) same s.asked;
              seen = s.seen;
              rest = s.rest;
              place = s.place;
              value = sym n.is ∙ s.value ∙ ap (λ (z : Read). told_value (value_at z.key (service_of s.seen).pairs)) same;
              sees = λ j none. s.sees j (λ q e r. none (subst (λ z. requested j (reads z)) (is_it q j r e) r));
            }

    until : LinearizableUntil (LetsAgain members spares hs) h
    until =
        is_until requested answered h clients whole cut (λ k. (each k).goes_on) later (λ k b among. (each k).commands b among) asked_ever served seen (LetsAgain members spares hs) lets

    linearizable : NoneLets (LetsAgain members spares hs) h → Linearizable h
    linearizable none = is_linearizable h (LetsAgain members spares hs) none until clients.once

-- what lets a command come again forgets its client
forgets_caller : (members spares : List ℕ) (hs : List Happening) (f : Command) (x : ClientCall) → LetsAgain members spares hs f x → ForgetsCaller f x
forgets_caller members spares hs f (commands b) l = l.0
forgets_caller members spares hs f (reads r) l = l

pub clusters_are_linearizable : ClustersAreLinearizable
clusters_are_linearizable members spares observers ms ss os faulted trace c h clients none =
    linearizable members spares observers ms ss os faulted trace c h clients
    (λ f x k m l. none f x k m (forgets_caller members spares (hs members spares observers ms ss os faulted trace c) f x l))

pub clusters_let_again : ClustersLetAgain
clusters_let_again members spares observers ms ss os faulted trace c =
    let r : LinearRun members spares observers faulted trace = linear members spares observers ms ss os faulted trace c in (
      r.happenings,
      r.run,
      r.events,
      λ h clients. (until members spares observers ms ss os faulted trace c h clients, λ none. linearizable members spares observers ms ss os faulted trace c h clients none),
    )
