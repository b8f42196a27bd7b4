-- What is known of a part in every run, and of what its node may do next.
use Rattle.std.proofs.Common.{◌≡◌, ℕ, ◌≤◌, List, [], ◌∷◌, ◌++◌, length, sym, ap, ◌∙◌, subst, Some, None}
use Rattle.std.specs.Prelude.{slice_get}
use Rattle.op_spec.specs.Machine.{stop_at_end}
use Rattle.op_paxos.specs.Nodes.{Node}
use Rattle.op_paxos.specs.Messages.{Packet, packet}
use Rattle.op_paxos.specs.Worlds as paxos
use Rattle.op_paxos.specs.Worlds.{Input, Elected, Proposal, Comes, Up, CutOff, Down, Starts, TrimNow, stepped, step}
use Rattle.op_paxos.proofs.Updates.{upd_at}
use Rattle.op_paxos.proofs.Tidy.{Tidy}
use Rattle.op_paxos.proofs.Agreeing.{log_tidy, decided_in_log}
use Rattle.op_configurations.specs.Servers.{Part, Done, decided_list}
use Rattle.op_configurations.specs.Worlds.{Happening, plain_event, run, start, inner_of}
use Rattle.op_configurations.proofs.Runs.{May, acts, one_more, decided_on, trimmed_low}
use Rattle.op_paxos.specs.Agreement.{IsPrefix}
use Rattle.op_configurations.proofs.Tale.{PartOk}
use Rattle.op_configurations.proofs.Book.{all_ok}
use Rattle.op_configurations.proofs.Unended.{all_unended}

-- an input that may come where these packets were sent
abbrev pub Comable : List Packet → ℕ → Input → Type 0
Comable packets p (Comes q m) = (n : ℕ) × (slice_get packets n ≡ Some (packet q p m))
Comable packets p _ = Unit {0}

-- what is known of the part of p, where these packets were sent inside its configuration
pub record PartIs (packets : List Packet) (p : ℕ) (pt : Part) : Type 0 where
  pub tidy : Tidy (pt.node).log
  pub low : (pt.node).trimmed ≤ (pt.node).decided
  pub fits : (pt.node).decided ≤ length (pt.node).log
  pub goes_on : stop_at_end (decided_list pt.node) ≡ None
  pub stays_tidy : (i : Input) → Comable packets p i → Tidy ((step pt.members p pt.node i).node).log
  pub grows : (i : Input) → Comable packets p i → IsPrefix (decided_list pt.node) (decided_list (step pt.members p pt.node i).node)

module _ (members : List ℕ) (es : List paxos.Event) (p : ℕ) where
  abbrev w : paxos.World
  w = paxos.run members es paxos.start

  -- what a step leaves
  record Left (nd : Node) : Type 0 where
    tidy : Tidy nd.log
    grows : IsPrefix (decided_list (w.nodes p)) (decided_list nd)

  after_event : (n : ℕ) (i : Input) → May w p n i → Left (step members p (w.nodes p) i).node
  after_event n i may =
      let e : paxos.Event = plain_event n p i in
      let now = one_more members es e ∙ acts members w p n Done i may in
      subst Left (ap (λ (x : paxos.World). x.nodes p) now ∙ upd_at w.nodes p (step members p (w.nodes p) i).node)
      (record { tidy = log_tidy members (es ++ e ∷ []) p; grows = decided_on members es (e ∷ []) p })

  by_input : (i : Input) → Comable w.packets p i → Left (step members p (w.nodes p) i).node
  by_input (Comes q m) c = after_event c.0 (Comes q m) c.1
  by_input (Elected n) c = after_event 0 (Elected n) tt
  by_input (Proposal e) c = after_event 0 (Proposal e) tt
  by_input (Up q) c = after_event 0 (Up q) tt
  by_input (CutOff heard) c = after_event 0 (CutOff heard) tt
  by_input (Down q) c = after_event 0 (Down q) tt
  by_input Starts c = after_event 0 Starts tt
  by_input TrimNow c = after_event 0 TrimNow tt

-- every part is so
pub part_is : (first : List ℕ) (hs : List Happening) (p : ℕ) (pt : Part) → ((run hs (start first)).servers p).state.part ≡ Some pt
    → PartIs (inner_of pt.conf (run hs (start first)).soup) p pt
part_is first hs p pt has =
    let k = all_ok first hs in
    let t = k.tale in
    let h : PartOk t p pt = ((((k.good).servers p).state).part pt has) in
    let c = pt.conf in
    let ms = t.members c in
    let es = t.events c in
    record {
      tidy = subst (λ (nd : Node). Tidy nd.log) h.node (log_tidy ms es p);
      low = subst (λ (nd : Node). nd.trimmed ≤ nd.decided) h.node (trimmed_low ms es p (subst (λ (xs : List ℕ). Rattle.op_spec.specs.Machine.IsAmong xs p) h.members h.mine));
      fits = subst (λ (nd : Node). nd.decided ≤ length nd.log) h.node (decided_in_log ms es p);
      goes_on = all_unended first hs p pt has;
      stays_tidy = λ i may.
          subst (λ (xs : List ℕ). Tidy ((step xs p pt.node i).node).log) (sym h.members)
          (subst (λ (nd : Node). Tidy ((step ms p nd i).node).log) h.node
          (by_input ms es p i (subst (λ (xs : List Packet). Comable xs p i) (sym ((k.good).tied c)) may)).tidy);
      grows = λ i may.
          subst (λ (xs : List ℕ). IsPrefix (decided_list pt.node) (decided_list (step xs p pt.node i).node)) (sym h.members)
          (subst (λ (nd : Node). IsPrefix (decided_list nd) (decided_list (step ms p nd i).node)) h.node
          (by_input ms es p i (subst (λ (xs : List Packet). Comable xs p i) (sym ((k.good).tied c)) may)).grows);
    }
