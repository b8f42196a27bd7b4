-- One history of commands and reads: what is reached at a moment of a cluster is a first part of the whole run.
use Rattle.std.proofs.Common.{◌≡◌, ◌≤◌, ℕ, true, List, [], ◌∷◌, ◌++◌, Some, sym, ◌∙◌, ap, subst, append_assoc, append-nil, ◌⊎◌, inl, inr}
use Rattle.std.specs.Prelude.{take, drop}
use Rattle.std.specs.List.{Contains}
use Rattle.std.proofs.lemmas.List.{take-append-drop}
use Rattle.op_types.specs.Ranges.{IsMember, MembersInRange}
use Rattle.op_types.specs.declared.answers.Reply.{Reply}
use Rattle.op_types.specs.declared.events.Request.TheVariants as request
use Rattle.op_types.specs.declared.log.Command.{Command}
use Rattle.op_types.specs.declared.log.Entry.{Entry}
use Rattle.op_types.specs.declared.log.Entry.TheVariants as entry
use Rattle.op_spec.specs.Machine.{IsAmong}
use Rattle.op_spec.specs.Service.{service_of, value_at, told_value}
use Rattle.op_spec.specs.Stands.{prefix_of}
use Rattle.op_runs.specs.Possible.{SparesInRange, HappeningsInRange, server_ids}
use Rattle.op_runs.specs.Run.{Execution, first_execution, execution_of, MeetsFrom}
use Rattle.op_runs.specs.Fresh.{IsFresh, CameFresh}
use Rattle.op_runs.specs.Summary.{greatest_conf}
use Rattle.op_runs.specs.World.{World, Happening}
use Rattle.op_runs.specs.declared.summary.Line.TheVariants as line
use Rattle.op_laws.specs.Runs.{RunInRange}
use Rattle.op_laws.proofs.Greatest.{greatest_stays}
use Rattle.op_laws.proofs.Histories.{history_grows}
use Rattle.op_laws.proofs.Reached.{world_of_run, execution_append}
use Rattle.op_read_laws.specs.Told.{IsGiven, ToldFresh}
use Rattle.op_read_laws.proofs.ReadsTold.{every_line_is_fresh}
use Rattle.op_cluster_laws.specs.Becoming.{TraceBecomes}
use Rattle.op_cluster_laws.specs.Currency.{WasAskedOf, IsUnasked}
use Rattle.op_cluster_laws.specs.Outputs.{answered_in}
use Rattle.op_cluster_laws.specs.Taken.{WasTakenIn}
use Rattle.op_cluster_laws.specs.Traces.{Happened, lived_at}
use Rattle.op_cluster_laws.specs.Worlds.{history_after, AreFirst, IsRun, OfClusters}
use Rattle.op_cluster_laws.proofs.Currency.{reads_of, reads_in, ComesAt, comes_at}
use Rattle.op_cluster_laws.proofs.Proposing.{commands_in, proposed_run}
use Rattle.op_cluster_laws.proofs.Reaching.{sound_behind, meets_behind, lists_grow, among_lists, Reached, ReachedAlways, always_reached}
use Rattle.op_cluster_laws.proofs.Current.{contains_among, before_or_in, reads_here, in_run, seen_place, seen_value, seen_past, same_key}
use Rattle.op_linear.specs.Linear.{IsSeen, IsLinearAt, IsLinear}

module _ (members spares observers : List ℕ) (ms : MembersInRange members) (ss : SparesInRange members spares) (counts : ℕ → ℕ) (trace : List Happened) (hs : List Happening)
    (run : IsRun members spares observers counts trace hs) (reach : ReachedAlways members spares observers counts trace hs) where
  abbrev then_at : (k : ℕ) → Reached members spares observers counts (take k trace) hs
  then_at k = reach (take k trace) (drop k trace) (sym (take-append-drop k trace))

  abbrev at : ℕ → List Happening
  at k = (then_at k).first

  abbrev start : Execution
  start = first_execution members spares

  meets_at : (first later : List Happening) → hs ≡ first ++ later → MeetsFrom members start first × MeetsFrom members (execution_of start first) later
  meets_at first later split = meets_behind members start first later (subst (λ l. MeetsFrom members start l) split run.meets.1)

  goes_on_at : (first later : List Happening) → hs ≡ first ++ later → (rest : List Entry) × (history_after members spares hs ≡ history_after members spares first ++ rest)
  goes_on_at first later split =
      let t : Execution = execution_of start first in
      let end : Execution = execution_of start hs in
      let two = meets_at first later split in
      let all : end ≡ execution_of t later = ap (execution_of start) split ∙ execution_append start first later in
      let grown : AreFirst t.machine.lists end.machine.lists = subst (λ (e : Execution). AreFirst t.machine.lists e.machine.lists) (sym all) (lists_grow members t later two.1) in
      let most : greatest_conf t.world.nodes ≤ greatest_conf end.world.nodes = subst (λ l. greatest_conf t.world.nodes ≤ greatest_conf (execution_of start l).world.nodes) (sym split)
      (greatest_stays members spares ms ss first later (subst HappeningsInRange split run.range)) in
      history_grows t.machine.lists end.machine.lists (record { grown = grown; ends = (sound_behind members start hs run.meets.0 run.meets.1).safe.after_stop })
      (greatest_conf t.world.nodes) (greatest_conf end.world.nodes) 1 (Some members) most

  -- what stands in the history of a first part of the run was proposed by then
  proposed_then : (first later : List Happening) → hs ≡ first ++ later → (b : Command) → IsAmong (history_after members spares first) (entry.Command b)
      → (conf : ℕ) × IsAmong ((execution_of start first).machine.proposed conf) (entry.Command b)
  proposed_then first later split b k =
      let t : Execution = execution_of start first in
      let two = meets_at first later split in
      let sound = sound_behind members start first run.meets.0 two.0 in
      let x = among_lists t.machine.lists (greatest_conf t.world.nodes) 1 (Some members) (entry.Command b) k in
      (x.0, sound.safe.proposed x.0 (entry.Command b) x.1)

  -- so it is a command of it
  commands_there : (first later : List Happening) → hs ≡ first ++ later → (b : Command) → IsAmong (history_after members spares first) (entry.Command b) → IsAmong (commands_in first) b
  commands_there first later split b k =
      let x = proposed_then first later split b k in
      elim (proposed_run b start first x.0 x.1) [
        | inl before ↦ absurd before
        | inr asked ↦ asked
      ]

  module _ (k p : ℕ) (is : IsMember (server_ids members spares observers) p) (a : Reply)
      (there : Contains (answered_in true (lived_at members observers counts p (take k trace)).first (lived_at members observers counts p (take k trace)).deeds) a) (given : IsGiven a.answer) where
    abbrev n : Reached members spares observers counts (take k trace) hs
    n = then_at k

    range_then : RunInRange members spares n.first
    range_then = in_run members spares ms ss hs run.range run.meets.0 run.meets.1 n.first n.later n.split

    meets_then : MeetsFrom members start n.first
    meets_then = (meets_at n.first n.later n.split).0

    f : ToldFresh start n.first p a.client a.seq a.answer
    f = every_line_is_fresh members spares n.first range_then p a.client a.seq a.answer given
        (contains_among (execution_of start n.first).world.lines (line.Read p a.client a.seq a.answer)
        (subst (λ (w : World). Contains w.lines (line.Read p a.client a.seq a.answer)) (sym (world_of_run start n.first)) (n.lines true p is a there)))

    g : CameFresh start (f.before ++ f.tells ∷ []) (execution_of start (f.before ++ f.tells ∷ [])).machine f.read a.answer
    g = f.fresh

    front : n.first ≡ g.before ++ g.came ∷ (g.after ++ f.after)
    front = f.place ∙ sym (append_assoc f.before (f.tells ∷ []) f.after) ∙ ap (λ l. l ++ f.after) g.place ∙ append_assoc g.before (g.came ∷ g.after) f.after

    c : ComesAt (execution_of start g.before).world (reads_of g.came.event.what) f.read
    c = comes_at (execution_of start g.before).world g.came f.read g.comes

    fresh : IsFresh (execution_of start g.before).machine (execution_of start (g.before ++ g.came ∷ g.after)).machine f.read a.answer
    fresh = subst (λ l. IsFresh (execution_of start g.before).machine (execution_of start l).machine f.read a.answer) g.place g.fresh

    abbrev seen : List Entry
    seen = prefix_of (execution_of start n.first).machine.lists f.read.conf fresh.len

    asked_then : WasAskedOf members spares observers counts (take k trace) (request.Read f.read.asked.read)
    asked_then = n.read f.read.asked.read (subst (λ l. IsAmong (reads_in l) f.read.asked.read) (sym front) (reads_here g.before g.came (g.after ++ f.after) f.read.asked.read c.among))

    place_then : (rest : List Entry) × (history_after members spares n.first ≡ seen ++ rest)
    place_then = seen_place members spares ms ss n.first range_then.happenings run.meets.0 meets_then g.before (g.came ∷ (g.after ++ f.after)) g.before g.came g.after f.after front front [] (sym (append-nil g.before))
        (reads_of g.came.event.what) f.read a.answer c fresh

    value_then : a.answer ≡ told_value (value_at f.read.asked.read.key (service_of seen).pairs)
    value_then = seen_value members spares ms ss n.first range_then.happenings run.meets.0 meets_then g.before (g.came ∷ (g.after ++ f.after)) g.before g.came g.after f.after front front [] (sym (append-nil g.before))
        (reads_of g.came.event.what) f.read a.answer c fresh

    whole_then : hs ≡ g.before ++ g.came ∷ (g.after ++ (f.after ++ n.later))
    whole_then = n.split ∙ ap (λ l. l ++ n.later) front ∙ append_assoc g.before (g.came ∷ (g.after ++ f.after)) n.later ∙ ap (λ l. g.before ++ g.came ∷ l) (append_assoc g.after f.after n.later)

    by_place : (j : ℕ) → IsUnasked members spares observers counts (take j trace) (a.client, a.seq)
        → ((us : List Happening) × (g.before ≡ (then_at j).first ++ us)) ⊎ ((us : List Happening) × ((then_at j).first ≡ g.before ++ g.came ∷ us))
        → (more : List Entry) × (seen ≡ history_after members spares (then_at j).first ++ more)
    by_place j unread (inr (us, e)) = absurd (unread f.read.asked.read (same_key f.read.asked.read (a.client, a.seq) f.client_is f.seq_is)
        ((then_at j).read f.read.asked.read (subst (λ l. IsAmong (reads_in l) f.read.asked.read) (sym e) (reads_here g.before g.came us f.read.asked.read c.among))))
    by_place j unread (inl (us, e)) = seen_past members spares ms ss n.first range_then.happenings run.meets.0 meets_then (then_at j).first (us ++ g.came ∷ (g.after ++ f.after)) g.before g.came g.after f.after
        (front ∙ ap (λ l. l ++ g.came ∷ (g.after ++ f.after)) e ∙ append_assoc (then_at j).first us (g.came ∷ (g.after ++ f.after))) front us e
        (reads_of g.came.event.what) f.read a.answer c fresh

    seen_at : IsSeen members spares observers counts trace at k a
    seen_at = record {
      read = f.read.asked.read;
      client_is = f.client_is;
      seq_is = f.seq_is;
      asked = asked_then;
      seen = seen;
      rest = place_then.0;
      place = place_then.1;
      value = value_then;
      sees = λ j unread. by_place j unread (before_or_in (then_at j).first (then_at j).later g.before g.came (g.after ++ (f.after ++ n.later)) (sym (then_at j).split ∙ whole_then));
    }

  linear_at : (k : ℕ) → IsLinearAt members spares observers counts trace hs at k
  linear_at k = record {
    moment = (then_at k).moment;
    goes_on = goes_on_at (then_at k).first (then_at k).later (then_at k).split;
    commands = λ b among. (then_at k).asked b (commands_there (then_at k).first (then_at k).later (then_at k).split b among);
    taken = λ b among. (let x = proposed_then (then_at k).first (then_at k).later (then_at k).split b among in (then_at k).taken b x.0 x.1);
    reads = λ p is a there given. seen_at k p is a there given;
  }

-- a cluster is one run with one history, event by event
pub record LinearRun (members spares observers : List ℕ) (counts : ℕ → ℕ) (trace : List Happened) : Type 0 where
  pub happenings : List Happening
  pub run : IsRun members spares observers counts trace happenings
  pub events : TraceBecomes members spares observers counts trace happenings
  pub at : ℕ → List Happening
  pub each : (k : ℕ) → IsLinearAt members spares observers counts trace happenings at k
  pub asked : (b : Command) → IsAmong (history_after members spares happenings) (entry.Command b) → WasAskedOf members spares observers counts trace (request.Command b)
  pub taken : (b : Command) → IsAmong (history_after members spares happenings) (entry.Command b) → WasTakenIn members spares observers counts trace b

pub linear_run : OfClusters LinearRun
linear_run members spares observers ms ss os counts trace c =
    let k = always_reached members spares observers ms ss os counts trace c in record {
      happenings = k.0;
      run = k.1;
      events = k.4;
      at = at members spares observers ms ss counts trace k.0 k.1 k.2;
      each = λ n. linear_at members spares observers ms ss counts trace k.0 k.1 k.2 n;
      asked = λ b among. k.3 b (commands_there members spares observers ms ss counts trace k.0 k.1 k.2 k.0 [] (sym (append-nil k.0)) b among);
      taken = λ b among. (let x = proposed_then members spares observers ms ss counts trace k.0 k.1 k.2 k.0 [] (sym (append-nil k.0)) b among in k.5 b x.0 x.1);
    }

pub clusters_are_linear : OfClusters IsLinear
clusters_are_linear members spares observers ms ss os counts trace c =
    let r : LinearRun members spares observers counts trace = linear_run members spares observers ms ss os counts trace c in (r.happenings, r.run, (r.at, r.each), λ b k. (r.asked b k, r.taken b k))
