-- A node that is a majority alone answers the clients of what comes, and that it doesn't refuse, by the happening itself.
use Rattle.std.proofs.Common.{◌≡◌, ◌≤◌, ℕ, map, List, [], ◌∷◌, ◌++◌, Option, Some, None, refl, sym, ap, ◌∙◌, subst, arith}
use Rattle.op_types.specs.Changes.{len_of}
use Rattle.op_types.specs.RoleStates.{Leading}
use Rattle.op_types.specs.Roles as role
use Rattle.op_types.specs.declared.answers.Outcome.TheVariants as outcome
use Rattle.op_types.specs.declared.answers.Reply.{Reply}
use Rattle.op_types.specs.declared.durable.Part.{Part}
use Rattle.op_types.specs.declared.log.Command.{Command}
use Rattle.op_runs.specs.declared.summary.Line.{Line}
use Rattle.op_runs.specs.declared.summary.Line.TheVariants as line
use Rattle.op_spec.specs.Machine.{Machine}
use Rattle.op_spec.specs.Service.{Service, service_of}
use Rattle.op_spec.specs.Stands.{prefix_of, PartStands, IfPartStands}
use Rattle.op_protocol.specs.Reading.{adopted_of, decided_of}
use Rattle.op_runs.specs.World.{World, Node, Happening, node_at, first_world, run_of}
use Rattle.op_runs.specs.Run.{Execution, first_execution, execution_with, execution_of, ServesDecided}
use Rattle.op_configurations.specs.Servers.{Part as Member}
use Rattle.op_configurations.specs.Worlds as worlds
use Rattle.op_refinement.proofs.Relation.{IfPartRel}
use Rattle.op_refinement.proofs.Worlds.{lists_of, state_of}
use Rattle.op_refinement.proofs.Beside.{NodeRel, IsBeside}
use Rattle.op_refinement.proofs.NodeLists.{IfThere, found}
use Rattle.op_refinement.proofs.Runs.{Track, node_stands, node_serves}
use Rattle.op_refinement.proofs.EveryRun.{every_track}
use Rattle.op_laws.specs.Proposals.{Proposal}
use Rattle.op_laws.specs.Proposals as proposed
use Rattle.op_laws.specs.Alone.{TakesAlone, reply_lines, lines_told, LeadersAnswerAlone}
use Rattle.op_laws.proofs.Reached.{world_of_run, front_in_range}
use Rattle.op_laws.proofs.ReplyLines.{line_of, told_alone}
use Rattle.op_laws.proofs.WaitingOnce.{Rises, IfRises, always_rises}
use Rattle.op_laws.proofs.TriedReads.{AreTried, IfTried, always_tried}
use Rattle.op_laws.proofs.WholeLogs.{log_is_decided, decided_within, adopted_within}
use Rattle.op_laws.proofs.SoleReads.{IsOwn, IfOwn, none_waits, always_own}
use Rattle.op_laws.proofs.AloneSteps as step
use Rattle.op_laws.proofs.SoleLeads.{sole_leads}

module _ (first : List ℕ) (ks : List worlds.Happening) (t : Execution) (b : IsBeside first ks t) (h : Happening) (proposal : Proposal) (x : TakesAlone t h proposal) (lead : Leading) (leads : x.node.state.volatile.role ≡ role.Leading lead) where
  rel : NodeRel first ks t.world.messages x.node
  rel = (subst (λ (o : Option Node). IfThere (NodeRel first ks t.world.messages) x.node.pid o) x.is (found (NodeRel first ks t.world.messages) t.world.nodes b.nodes x.node.pid)).1

  -- all of its log is decided before
  pub whole : x.part.decided ≡ len_of x.part
  whole = by (state_of first ks x.node.pid).part refl (subst (λ (o : Option Part). IfPartRel (lists_of first ks) o x.node.state.volatile (state_of first ks x.node.pid).part) x.has (rel.rel).part)
    where
      by : (o : Option Member) → (state_of first ks x.node.pid).part ≡ o → IfPartRel (lists_of first ks) (Some x.part) x.node.state.volatile o → x.part.decided ≡ len_of x.part
      by None has r = absurd r
      by (Some pt) has r =
          let stood : PartStands first (lists_of first ks) x.part = subst (IfPartStands first (lists_of first ks)) x.has (node_stands first ks t.world.messages x.node rel).part in
          let all : len_of x.part ≤ x.part.decided = log_is_decided first ks x.node.pid pt has x.part x.node.state.volatile r lead leads x.majority in
          omega (arith, all, decided_within first (lists_of first ks) x.part stood)

  -- and its service has applied what stands before in the lists
  serves : x.node.state.service ≡ service_of (prefix_of t.machine.lists x.part.conf (len_of x.part))
  serves =
      let served : x.node.state.service ≡ service_of (prefix_of (lists_of first ks) x.part.conf x.part.decided) = subst (λ (o : Option Part). ServesDecided (lists_of first ks) o x.node.state.service) x.has (node_serves first ks t.world.messages x.node rel) in
      served ∙ ap (λ (k : ℕ). service_of (prefix_of (lists_of first ks) x.part.conf k)) whole ∙ ap (λ (m : Machine). service_of (prefix_of m.lists x.part.conf (len_of x.part))) (sym b.machine)

  -- it has decided what it adopted
  adopted : lead.adopted_len ≤ x.part.decided
  adopted = by (state_of first ks x.node.pid).part refl (subst (λ (o : Option Part). IfPartRel (lists_of first ks) o x.node.state.volatile (state_of first ks x.node.pid).part) x.has (rel.rel).part)
    where
      by : (o : Option Member) → (state_of first ks x.node.pid).part ≡ o → IfPartRel (lists_of first ks) (Some x.part) x.node.state.volatile o → lead.adopted_len ≤ x.part.decided
      by None has r = absurd r
      by (Some pt) has r = omega (arith, whole, adopted_within first ks x.node.pid pt has x.part x.node.state.volatile r lead leads)

-- its lines then
abbrev AnswersSo : (t : Execution) (h : Happening) (proposal : Proposal) → TakesAlone t h proposal → Type 0
AnswersSo t h proposal x =
    (execution_with t h).world.lines
    ≡ t.world.lines ++ line.Answer h.event.line (outcome.Appended x.part.conf (len_of x.part)) ∷ lines_told x.node.pid (service_of (prefix_of t.machine.lists x.part.conf (len_of x.part))) proposal

module _ (first : List ℕ) (ks : List worlds.Happening) (t : Execution) (b : IsBeside first ks t) (h : Happening) where
  commands_answered : (commands : List Command) (x : TakesAlone t h (proposed.Commands commands)) (lead : Leading) → x.node.state.volatile.role ≡ role.Leading lead → Rises x.node.state.waiting → AreTried x.node.state
      → AnswersSo t h (proposed.Commands commands) x
  commands_answered commands x lead leads rises tried =
      let n : Node = x.node in
      let of_commands : Proposal = proposed.Commands commands in
      let all : x.part.decided ≡ len_of x.part = whole first ks t b h of_commands x lead leads in
      let service : n.state.service ≡ service_of (prefix_of t.machine.lists x.part.conf (len_of x.part)) = serves first ks t b h of_commands x lead leads in
      let ls = told_alone n.pid n.state.service (prefix_of t.machine.lists x.part.conf (len_of x.part)) n.state.waiting commands service rises in
      step.lines_are t h commands x lead leads all (adopted first ks t b h of_commands x lead leads) tried
      ∙ ap (λ (ls : List Line). t.world.lines ++ line.Answer h.event.line (outcome.Appended x.part.conf (len_of x.part)) ∷ ls)
      (ap (λ (rs : List Reply). map (line_of n.pid) rs) (step.replies_are t h commands x lead leads all) ∙ ls ∙ ap (λ (s : Service). reply_lines n.pid s [] commands) service)

  stop_answered : (members : List ℕ) (x : TakesAlone t h (proposed.Stop members)) (lead : Leading) → x.node.state.volatile.role ≡ role.Leading lead → AreTried x.node.state → IsOwn x.node.pid x.node.state
      → AnswersSo t h (proposed.Stop members) x
  stop_answered members x lead leads tried own =
      let all : x.part.decided ≡ len_of x.part = whole first ks t b h (proposed.Stop members) x lead leads in
      let low : adopted_of x.node.state.volatile.role ≤ decided_of x.node.state.durable.part = omega (arith, adopted first ks t b h (proposed.Stop members) x lead leads, ap adopted_of leads, ap decided_of x.has) in
      step.stop_lines t h members x lead leads all (none_waits x.node.pid x.node.state x.part x.has x.majority own tried low)

-- so it is after every run
pub leaders_answer_alone : LeadersAnswerAlone
leaders_answer_alone members spares early h range proposal x =
    let t : Execution = execution_of (first_execution members spares) early in
    let r : Track members t (h ∷ []) = every_track members spares range.first range.others early (h ∷ []) range.happenings in
    let led = sole_leads members spares early h range proposal x in
    by (r.ks 0) (r.beside 0) proposal x led.0 led.1
    (subst IfRises (at proposal x) (always_rises x.node.pid members spares early)) (subst IfTried (at proposal x) (always_tried x.node.pid members spares early (front_in_range members spares early (h ∷ []) range)))
    (subst IfOwn (at proposal x) (always_own x.node.pid members spares early (front_in_range members spares early (h ∷ []) range)))
  where
    at : (proposal : Proposal) (x : TakesAlone (execution_of (first_execution members spares) early) h proposal) → node_at (run_of (first_world members spares) early).nodes x.node.pid ≡ Some x.node
    at proposal x = ap (λ (w : World). node_at w.nodes x.node.pid) (sym (world_of_run (first_execution members spares) early)) ∙ x.is

    by : (ks : List worlds.Happening) → IsBeside members ks (execution_of (first_execution members spares) early) → (proposal : Proposal) (x : TakesAlone (execution_of (first_execution members spares) early) h proposal) (lead : Leading) → x.node.state.volatile.role ≡ role.Leading lead
        → Rises x.node.state.waiting → AreTried x.node.state → IsOwn x.node.pid x.node.state → AnswersSo (execution_of (first_execution members spares) early) h proposal x
    by ks b (proposed.Commands commands) x lead leads rises tried own = commands_answered members ks (execution_of (first_execution members spares) early) b h commands x lead leads rises tried
    by ks b (proposed.Stop next) x lead leads rises tried own = stop_answered members ks (execution_of (first_execution members spares) early) b h next x lead leads tried own
