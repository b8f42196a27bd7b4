-- What a cluster has reached at each moment: one list for each configuration, and one order of what is answered.
use Rattle.std.proofs.Common.{◌≡◌, ◌≤◌, ◌+◌, ℕ, zero, suc, Bool, List, [], ◌∷◌, ◌++◌, Option, Some, None, refl, sym, ◌∙◌, ap, subst, append_assoc, append-nil, inl, inr}
use Rattle.std.specs.List.{All, Contains}
use Rattle.op_types.specs.Ranges.{IsPid, IsMember, MembersInRange}
use Rattle.op_types.specs.declared.events.Request.TheVariants as request
use Rattle.op_types.specs.declared.read.Read.{Read}
use Rattle.op_types.specs.declared.log.Command.{Command}
use Rattle.op_types.specs.declared.log.Entry.{Entry}
use Rattle.op_types.specs.declared.log.Entry.TheVariants as entry
use Rattle.op_spec.specs.Machine.{IsAmong}
use Rattle.op_runs.specs.Replies.{IsServed}
use Rattle.op_runs.specs.Summary.{greatest_conf}
use Rattle.op_laws.proofs.Drops.{in_left, from_both}
use Rattle.op_laws.proofs.Histories.{history_from, history_none, next_of, history_grows}
use Rattle.op_types.specs.declared.answers.Answer.{Answer}
use Rattle.op_types.specs.declared.answers.Answer.TheVariants as answer
use Rattle.op_types.specs.declared.answers.Reply.{Reply}
use Rattle.op_types.specs.declared.messages.Msg.{Msg}
use Rattle.op_runs.specs.Replies.{IfReplyServed}
use Rattle.op_spec.specs.Stands.{Stands}
use Rattle.op_runs.specs.Possible.{SparesInRange, ObserversInRange, HappeningsInRange, server_ids}
use Rattle.op_runs.specs.Schedules.{seated_at, observers_begun}
use Rattle.op_runs.specs.Run.{Execution, first_execution, execution_of, execution_with, IsSound, MeetsFrom, ServesDecided}
use Rattle.op_runs.specs.World.{Kind, Votes, Observes, World, Node, Happening, first_world, run_of, answer_line}
use Rattle.op_bounds.specs.Messages as known
use Rattle.op_laws.proofs.Greatest.{greatest_stays}
use Rattle.op_laws.specs.Runs.{RunInRange}
use Rattle.op_laws.proofs.Reached.{world_of_run, execution_append, front_in_range}
use Rattle.op_watch_laws.specs.Laws.{ObserverStands}
use Rattle.op_watch_laws.proofs.Every.{every_observer_stands}
use Rattle.op_cluster_laws.specs.Outputs.{sent_in, answered_in}
use Rattle.op_cluster_laws.specs.Traces.{Happened, lived_at}
use Rattle.op_cluster_laws.specs.Clusters.{IsCluster}
use Rattle.op_cluster_laws.specs.Currency.{WasAskedOf}
use Rattle.op_cluster_laws.specs.Taken.{WasTakenIn}
use Rattle.op_cluster_laws.specs.Worlds.{IsFrom, IsMoment, IsRun, DeliveriesWereGiven, AreFirst, NodesAgree, OfClusters, ClustersAreRuns}
use Rattle.op_cluster_laws.specs.Becoming.{sent_between, told_line, Numbered, TraceBecomes}
use Rattle.op_cluster_laws.proofs.Answering.{all_found}
use Rattle.op_cluster_laws.proofs.Happenings.{seat_node, seat_observer}
use Rattle.op_cluster_laws.specs.Orders.{ClientsTakeReplies, IsAnswer, IsServedBefore, AnswersComeFirst}
use Rattle.op_cluster_laws.proofs.Proposing.{commands_in, proposed_run}
use Rattle.op_cluster_laws.proofs.Currency.{reads_in}
use Rattle.op_cluster_laws.proofs.Joining.{takes_replies}
use Rattle.op_cluster_laws.proofs.Running.{whole, happenings as all_happened, front_of, is_run, moment_of, deliveries_were_given}

pub clusters_are_runs : ClustersAreRuns
clusters_are_runs members spares observers ms ss os counts trace c = (all_happened members spares observers counts ms ss os trace c, is_run members spares observers counts ms ss os trace c)

pub every_delivery_was_given : OfClusters DeliveriesWereGiven
every_delivery_was_given members spares observers ms ss os counts trace c = deliveries_were_given members spares observers counts ms ss os trace c

-- ---- agreement

module _ (members : List ℕ) where
  pub sound_behind : (t : Execution) (hs : List Happening) → IsSound members t → MeetsFrom members t hs → IsSound members (execution_of t hs)
  sound_behind t [] s m = s
  sound_behind t (h ∷ hs) s m = sound_behind (execution_with t h) hs m.0.sound m.1

  pub meets_behind : (t : Execution) (hs gs : List Happening) → MeetsFrom members t (hs ++ gs) → MeetsFrom members t hs × MeetsFrom members (execution_of t hs) gs
  meets_behind t [] gs m = (tt, m)
  meets_behind t (h ∷ hs) gs m = let k = meets_behind (execution_with t h) hs gs m.1 in ((m.0, k.0), k.1)

  pub lists_grow : (t : Execution) (hs : List Happening) → MeetsFrom members t hs → AreFirst t.machine.lists (execution_of t hs).machine.lists
  lists_grow t [] m conf = ([], sym (append-nil (t.machine.lists conf)))
  lists_grow t (h ∷ hs) m conf =
      let one = m.0.grows.lists conf in
      let more = lists_grow (execution_with t h) hs m.1 conf in
      (one.0 ++ more.0, more.1 ∙ ap (λ l. l ++ more.0) one.1 ∙ append_assoc (t.machine.lists conf) one.0 more.0)

-- what a node, or an observer, has stored stands
seat_stands : (members : List ℕ) (lists : ℕ → List Entry) (w : World) (p : ℕ) (k : Kind) (n : Node) → All (λ (m : Node). Stands members lists m.state.durable) w.nodes
    → All (λ (m : Node). ServesDecided lists m.state.durable.part m.state.service) w.nodes → All (ObserverStands members lists) w.observers → seated_at w p ≡ Some (record { kind = k; node = n })
    → Stands members lists n.state.durable × ServesDecided lists n.state.durable.part n.state.service
seat_stands members lists w p Votes n stand serve watch there =
    let here = seat_node w p n there in (
      all_found (λ (m : Node). Stands members lists m.state.durable) w.nodes p n stand here,
      all_found (λ (m : Node). ServesDecided lists m.state.durable.part m.state.service) w.nodes p n serve here,
    )
seat_stands members lists w p Observes n stand serve watch there =
    let o = all_found (ObserverStands members lists) w.observers p n watch (seat_observer w p n there).1 in (o.stands, o.serves)

pub nodes_agree : OfClusters NodesAgree
nodes_agree members spares observers ms ss os counts trace c =
    let hs : List Happening = all_happened members spares observers counts ms ss os trace c in
    let run = is_run members spares observers counts ms ss os trace c in
    let t0 : Execution = first_execution members spares in (
      (execution_of t0 hs).machine.lists,
      λ now later split.
          let j = run.moments now later split in
          let first : List Happening = j.0 in
          let t : Execution = execution_of t0 first in
          let two = meets_behind members t0 first j.1 (subst (λ l. MeetsFrom members t0 l) j.2 run.meets.1) in
          let sound = sound_behind members t0 first run.meets.0 two.0 in
          let all : execution_of t0 hs ≡ execution_of t j.1 = ap (execution_of t0) j.2 ∙ execution_append t0 first j.1 in (
            t.machine.lists,
            subst (λ (e : Execution). AreFirst t.machine.lists e.machine.lists) (sym all) (lists_grow members t j.1 two.1),
            λ p is.
                let s = j.3.nodes p is in
                let there = ap (λ w. seated_at w p) (world_of_run t0 first) ∙ s.there in
                let front : RunInRange members spares first = front_in_range members spares first j.1 (subst (RunInRange members spares) j.2 (record { first = ms; others = ss; happenings = run.range })) in
                let watch : All (ObserverStands members t.machine.lists) t.world.observers = every_observer_stands members spares ms ss first front.happenings in
                let both = seat_stands members t.machine.lists t.world p _ s.found sound.stand sound.serve watch there in (
                  subst (λ z. Stands members t.machine.lists z.durable) s.state both.0,
                  subst (λ z. ServesDecided t.machine.lists z.durable.part z.service) s.state both.1,
                ),
          ),
    )

-- ---- one order

-- what stands in a history stands in a list
pub among_lists : (lists : ℕ → List Entry) (count conf : ℕ) (o : Option (List ℕ)) (e : Entry) → IsAmong (history_from lists count conf o) e → (c : ℕ) × IsAmong (lists c) e
among_lists lists count conf None e k = absurd (subst (λ l. IsAmong l e) (history_none lists count conf) k)
among_lists lists zero conf (Some ids) e k = absurd k
among_lists lists (suc count) conf (Some ids) e k = elim (from_both e (lists conf) (history_from lists count (conf + 1) (next_of (lists conf))) k) [
  | inl here ↦ (conf, here)
  | inr later ↦ among_lists lists count (conf + 1) (next_of (lists conf)) e later
]

-- an answer is served
pub served_answer : (history : List Entry) (r : Reply) → IsFrom history r → IsAnswer r.answer → IsServed history r.client r.seq r.answer
served_answer history r h is = by_answer r.answer h is
  where
    by_answer : (a : Answer) → IfReplyServed history (answer_line 0 r.client r.seq a) → IsAnswer a → IsServed history r.client r.seq a
    by_answer answer.Done k n = k
    by_answer (answer.Value value) k n = k
    by_answer answer.Absent k n = k
    by_answer answer.Stale k n = k
    by_answer (answer.Dropped why) k n = absurd n

-- in a history that goes on it is served still, and stands before what isn't there yet
served_before : (history more : List Entry) (r : Reply) (c : Command) → (IsAmong history (entry.Command c) → ⊥) → IsServed history r.client r.seq r.answer → IsServedBefore (history ++ more) r c
served_before history more r c none s = record {
  served = record {
    before = s.before;
    command = s.command;
    after = s.after ++ more;
    place = ap (λ l. l ++ more) s.place ∙ append_assoc s.before (entry.Command s.command ∷ s.after) more;
    client_is = s.client_is;
    seq_is = s.seq_is;
    answer_is = s.answer_is;
  };
  before = λ k. none (subst (λ l. IsAmong l (entry.Command c)) (sym (s.place ∙ sym (append_assoc s.before (entry.Command s.command ∷ []) s.after)))
      (in_left (entry.Command c) (s.before ++ entry.Command s.command ∷ []) s.after k));
}

pub answers_come_first : OfClusters AnswersComeFirst
answers_come_first members spares observers ms ss os counts trace c =
    let hs : List Happening = all_happened members spares observers counts ms ss os trace c in
    let run = is_run members spares observers counts ms ss os trace c in
    let t0 : Execution = first_execution members spares in
    let end : Execution = execution_of t0 hs in
    let end_sound = sound_behind members t0 hs run.meets.0 run.meets.1 in (
      hs,
      run,
      λ now later split.
          let j = (whole members spares observers counts ms ss os trace c).moments now later split in
          let first : List Happening = observers_begun observers ++ j.0 in
          let split_so = front_of members spares observers counts ms ss os trace c j.0 j.1 j.2 in
          let t : Execution = execution_of t0 first in
          let known : ℕ = greatest_conf t.world.nodes in
          let two = meets_behind members t0 first j.1 (subst (λ l. MeetsFrom members t0 l) split_so run.meets.1) in
          let sound = sound_behind members t0 first run.meets.0 two.0 in
          let all : end ≡ execution_of t j.1 = ap (execution_of t0) split_so ∙ execution_append t0 first j.1 in
          let grown : AreFirst t.machine.lists end.machine.lists = subst (λ (e : Execution). AreFirst t.machine.lists e.machine.lists) (sym all) (lists_grow members t j.1 two.1) in
          let most : known ≤ greatest_conf end.world.nodes = subst (λ l. known ≤ greatest_conf (execution_of t0 l).world.nodes) (sym split_so)
          (greatest_stays members spares ms ss first j.1 (subst HappeningsInRange split_so run.range)) in
          let moment = moment_of members spares observers counts ms ss os trace c now first j.1 split_so j.3 in (
            known,
            λ p is r there answered x none.
                let history : List Entry = history_from t.machine.lists known 1 (Some members) in
                let absent : IsAmong history (entry.Command x) → ⊥ = λ k.
                (let a = among_lists t.machine.lists known 1 (Some members) (entry.Command x) k in
                elim (proposed_run x t0 first a.0 (sound.safe.proposed a.0 (entry.Command x) a.1)) [
                  | inl before ↦ before
                  | inr asked ↦ (let q = j.3.asked x asked in none q.0 q.1 q.2 q.3 q.4 q.5 q.6)
                ]) in
                let served : (count : ℕ) → known ≤ count → IsServedBefore (history_from end.machine.lists count 1 (Some members)) r x = λ count le.
                (let on = history_grows t.machine.lists end.machine.lists (record { grown = grown; ends = end_sound.safe.after_stop }) known count 1 (Some members) le in
                subst (λ l. IsServedBefore l r x) (sym on.1) (served_before history on.0 r x absent (served_answer history r (moment.replies p is r there) answered))) in
                record { run = served (greatest_conf end.world.nodes) most; lists = served },
          ),
    )

-- What stands beside the world at a moment: what the events have become, the messages that were given out, the lines of answers,
-- and who asked for the commands and the reads.
pub record Reached (members spares observers : List ℕ) (counts : ℕ → ℕ) (now : List Happened) (happenings : List Happening) : Type 0 where
  pub first : List Happening
  pub later : List Happening
  pub split : happenings ≡ first ++ later
  pub moment : IsMoment members spares observers counts now first
  pub events : TraceBecomes members spares observers counts now first
  pub messages : (p : ℕ) → IsMember (server_ids members spares observers) p → (d : ℕ) (m : Msg) → Contains (sent_in (lived_at members observers counts p now).first (lived_at members observers counts p now).deeds) (d, m)
      → Numbered (run_of (first_world members spares) first).messages (sent_between p d m)
  pub lines : (read : Bool) (p : ℕ) → IsMember (server_ids members spares observers) p → (r : Reply) → Contains (answered_in read (lived_at members observers counts p now).first (lived_at members observers counts p now).deeds) r
      → Contains (run_of (first_world members spares) first).lines (told_line read p r)
  pub asked : (c : Command) → IsAmong (commands_in first) c → WasAskedOf members spares observers counts now (request.Command c)
  pub read : (r : Read) → IsAmong (reads_in first) r → WasAskedOf members spares observers counts now (request.Read r)
  pub taken : (c : Command) (conf : ℕ) → IsAmong ((execution_of (first_execution members spares) first).machine.proposed conf) (entry.Command c) → WasTakenIn members spares observers counts now c

-- so it is at each moment of a run
abbrev pub ReachedAlways : List ℕ → List ℕ → List ℕ → (ℕ → ℕ) → List Happened → List Happening → Type 0
ReachedAlways members spares observers counts trace happenings = (now later : List Happened) → trace ≡ now ++ later → Reached members spares observers counts now happenings

pub always_reached : OfClusters (λ members spares observers counts trace.
    (happenings : List Happening) × IsRun members spares observers counts trace happenings × ReachedAlways members spares observers counts trace happenings
    × ((c : Command) → IsAmong (commands_in happenings) c → WasAskedOf members spares observers counts trace (request.Command c))
    × TraceBecomes members spares observers counts trace happenings
    × ((c : Command) (conf : ℕ) → IsAmong ((execution_of (first_execution members spares) happenings).machine.proposed conf) (entry.Command c) → WasTakenIn members spares observers counts trace c))
always_reached members spares observers ms ss os counts trace c = (
  all_happened members spares observers counts ms ss os trace c,
  is_run members spares observers counts ms ss os trace c,
  λ now later split.
      let j = (whole members spares observers counts ms ss os trace c).moments now later split in
      record {
        first = observers_begun observers ++ j.0;
        later = j.1;
        split = front_of members spares observers counts ms ss os trace c j.0 j.1 j.2;
        moment = moment_of members spares observers counts ms ss os trace c now (observers_begun observers ++ j.0) j.1 (front_of members spares observers counts ms ss os trace c j.0 j.1 j.2) j.3;
        events = (j.0, refl, j.4);
        messages = λ p is d m there. (j.3).messages now [] (sym (append-nil now)) p is d m there;
        lines = λ read p is r there. (j.3).replies read p is r there;
        asked = (j.3).asked;
        read = (j.3).read;
        taken = (j.3).taken;
      },
  (whole members spares observers counts ms ss os trace c).end.asked,
  ((whole members spares observers counts ms ss os trace c).more, refl, (whole members spares observers counts ms ss os trace c).events),
  (whole members spares observers counts ms ss os trace c).end.taken,
)

-- what a node has answered has an encoding
pub answers_in_range : (members spares observers : List ℕ) (counts : ℕ → ℕ) → MembersInRange members → SparesInRange members spares → ObserversInRange members spares observers → (trace : List Happened) → IsCluster members spares observers counts trace
    → (now later : List Happened) → trace ≡ now ++ later → (p : ℕ) → IsMember (server_ids members spares observers) p → (read : Bool) (r : Reply)
    → Contains (answered_in read (lived_at members observers counts p now).first (lived_at members observers counts p now).deeds) r → known.ReplyInRange IsPid r
answers_in_range members spares observers counts ms ss os trace c now later split p is read r there =
    let j = (whole members spares observers counts ms ss os trace c).moments now later split in (j.3).answers read p is r there

pub clients_take_replies : OfClusters ClientsTakeReplies
clients_take_replies members spares observers ms ss os counts trace c = takes_replies members spares observers counts trace c
