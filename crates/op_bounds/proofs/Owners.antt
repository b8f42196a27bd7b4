-- Where stop-signs name nodes alone, each ballot that is promised or told of is a node's.
use Rattle.std.proofs.Common.{◌<◌, ℕ, List, [], ◌∷◌, Option, Some, None, IfSome, sym, ◌∙◌, subst, All}
use Rattle.std.proofs.lemmas.Bool.{false≢true}
use Rattle.std.proofs.lemmas.List.Elements.{All-nil, All-cons, All-weaker}
use Rattle.op_types.specs.Ranges.{IsMember, IsPid, MembersInRange}
use Rattle.op_types.specs.declared.ballot.Ballot.{Ballot}
use Rattle.op_types.specs.declared.durable.Part.{Part}
use Rattle.op_types.specs.declared.messages.Body.{Body}
use Rattle.op_types.specs.declared.messages.Body.TheVariants as body
use Rattle.op_runs.specs.Possible.{WhatInRange, SparesInRange}
use Rattle.op_runs.specs.World.{Sent, Node, World, Happening, node_ids, first_world, run_of}
use Rattle.op_runs.proofs.Servers.{of_ids, IsFree, AreApart, run_is_apart}
use Rattle.op_bounds.specs.Messages.{BallotOf, BodyInRange}
use Rattle.op_bounds.specs.States.{PartOf}
use Rattle.op_bounds.specs.Laws.{NodeInRange}
use Rattle.op_bounds.specs.Owners.{ballots_told, IsNoneOf, OwnsNoBallot, NamesNodes, ObserversOwnNoBallot}
use Rattle.op_bounds.proofs.Starts.{starts_in}
use Rattle.op_bounds.proofs.Runs.{SentBy, ObserverBy, WorldBy, run_by}
use Rattle.op_bounds.proofs.Known.{nodes_are_ids, nodes_start}

-- where an id isn't known, no ballot of those who are is of it
module _ (Known : ℕ → Type 0) (q : ℕ) (pos : 0 < q) (apart : Known q → ⊥) where
  of_known : (b : Ballot) → BallotOf Known b → IsNoneOf q b
  of_known b k is = apart (subst Known is (k.owner (subst (λ (n : ℕ). 0 < n) (sym is) pos)))

  none : All (IsNoneOf q) []
  none = All-nil (IsNoneOf q)

  one : (b : Ballot) → BallotOf Known b → All (IsNoneOf q) (b ∷ [])
  one b k = All-cons (IsNoneOf q) b [] (of_known b k) none

  two : (a b : Ballot) → BallotOf Known a → BallotOf Known b → All (IsNoneOf q) (a ∷ b ∷ [])
  two a b j k = All-cons (IsNoneOf q) a (b ∷ []) (of_known a j) (one b k)

  in_body : (b : Body) → BodyInRange Known b → All (IsNoneOf q) (ballots_told b)
  in_body (body.HeartbeatReply round b flag) k = one b k.1
  in_body (body.Prepare n na nl nd) k = two n na k.0 k.1
  in_body (body.Promise n fa fl fd s es) k = two n fa k.0 k.1
  in_body (body.AcceptSync n x es) k = one n k.0
  in_body (body.Accept n at es) k = one n k.0
  in_body (body.Accepted n x) k = one n k.0
  in_body (body.Decide n x) k = one n k.0
  in_body (body.Refuse n b) k = two n b k.0 k.1
  in_body (body.TrimAsk n) k = one n k
  in_body (body.Progress n x) k = one n k.0
  in_body (body.PromisePart n part) k = two n part.accepted k.0 k.1.accepted
  in_body (body.AcceptSyncPart n part) k = one n k.0
  in_body (body.Confirm n number) k = one n k.0
  in_body (body.Confirmed n number) k = one n k.0
  in_body _ k = none

  promised : (o : Option Part) → IfSome o (PartOf Known) → IfSome o (λ p. IsNoneOf q p.promised)
  promised None k = tt
  promised (Some p) k = of_known p.promised k.promised

  accepted : (o : Option Part) → IfSome o (PartOf Known) → IfSome o (λ p. IsNoneOf q p.accepted)
  accepted None k = tt
  accepted (Some p) k = of_known p.accepted k.accepted

  pub owns_none : (Talks : ℕ → Type 0) (w : World) → WorldBy Known Talks w → OwnsNoBallot w q
  owns_none Talks w k =
      record {
        promised = All-weaker (NodeInRange Known) (λ (n : Node). IfSome n.state.durable.part (λ p. IsNoneOf q p.promised)) (λ n one. promised n.state.durable.part one.state.durable.part) w.nodes k.nodes;
        accepted = All-weaker (NodeInRange Known) (λ (n : Node). IfSome n.state.durable.part (λ p. IsNoneOf q p.accepted)) (λ n one. accepted n.state.durable.part one.state.durable.part) w.nodes k.nodes;
        told = All-weaker (SentBy Known Talks) (λ (m : Sent). All (IsNoneOf q) (ballots_told m.message.body)) (λ m said. in_body m.message.body said.message.body) w.messages k.messages;
      }

-- ---- runs

module _ (members spares : List ℕ) (m : MembersInRange members) (s : SparesInRange members spares) where
  abbrev IsNode : ℕ → Type 0
  IsNode q = IsMember (node_ids members spares) q

  begins : WorldBy IsNode IsPid (first_world members spares)
  begins =
      let k = starts_in IsNode (nodes_are_ids members spares m s) members spares (nodes_start members spares m s) in
      record { nodes = k.nodes; observers = All-nil (ObserverBy IsNode IsPid); members = k.members; messages = All-nil (SentBy IsNode IsPid) }

  -- its nodes alone are named
  named : (hs : List Happening) → All (NamesNodes members spares) hs → WorldBy IsNode IsPid (run_of (first_world members spares) hs)
  named hs fit = run_by IsNode IsPid (nodes_are_ids members spares m s) (nodes_are_ids members spares m s) hs (first_world members spares) begins fit

  apart : (hs : List Happening) → All (NamesNodes members spares) hs → AreApart (node_ids members spares) (run_of (first_world members spares) hs)
  apart hs fit = run_is_apart members spares hs (All-weaker (NamesNodes members spares) (λ (h : Happening). WhatInRange h.event.what) (λ h k. k.0) hs fit)

pub observers_own_none : ObserversOwnNoBallot
observers_own_none members spares m s hs fit =
    let w : World = run_of (first_world members spares) hs in
    All-weaker (λ (n : Node). IsFree (node_ids members spares) n.pid) (λ (n : Node). OwnsNoBallot w n.pid)
    (λ n free. owns_none (IsMember (node_ids members spares)) n.pid free.0 (λ one. false≢true (sym free.1 ∙ one)) IsPid w (named members spares m s hs fit)) w.observers
    (of_ids (IsFree (node_ids members spares)) w.observers (apart members spares m s hs fit).observers)
