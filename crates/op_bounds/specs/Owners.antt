-- Whose ballots nodes promise and accept, and messages tell of: an observer's nowhere.
use Rattle.std.specs.Prelude.{◌≡◌, ℕ, List, [], ◌∷◌, All, IfSome}
use Rattle.op_types.specs.Ranges.{IsMember, IsPid, MembersInRange}
use Rattle.op_types.specs.declared.ballot.Ballot.{Ballot}
use Rattle.op_types.specs.declared.messages.Body.{Body}
use Rattle.op_types.specs.declared.messages.Body.TheVariants as body
use Rattle.op_runs.specs.Possible.{WhatInRange, SparesInRange}
use Rattle.op_runs.specs.World.{World, Happening, node_ids, first_world, run_of}
use Rattle.op_bounds.specs.Laws.{WhatNames}

-- the ballots that a message tells of
abbrev pub ballots_told : Body → List Ballot
ballots_told (body.HeartbeatReply round b flag) = b ∷ []
ballots_told (body.Prepare n na nl nd) = n ∷ na ∷ []
ballots_told (body.Promise n fa fl fd s es) = n ∷ fa ∷ []
ballots_told (body.AcceptSync n x es) = n ∷ []
ballots_told (body.Accept n at es) = n ∷ []
ballots_told (body.Accepted n x) = n ∷ []
ballots_told (body.Decide n x) = n ∷ []
ballots_told (body.Refuse n b) = n ∷ b ∷ []
ballots_told (body.TrimAsk n) = n ∷ []
ballots_told (body.Progress n x) = n ∷ []
ballots_told (body.PromisePart n part) = n ∷ part.accepted ∷ []
ballots_told (body.AcceptSyncPart n part) = n ∷ []
ballots_told (body.Confirm n number) = n ∷ []
ballots_told (body.Confirmed n number) = n ∷ []
ballots_told _ = []

-- a ballot that isn't of this id
abbrev pub IsNoneOf : ℕ → Ballot → Type 0
IsNoneOf q b = b.pid ≡ q → ⊥

-- no node has promised or accepted a ballot of this id, and no message tells of one
pub record OwnsNoBallot (w : World) (q : ℕ) : Type 0 where
  pub promised : All (λ n. IfSome n.state.durable.part (λ p. IsNoneOf q p.promised)) w.nodes
  pub accepted : All (λ n. IfSome n.state.durable.part (λ p. IsNoneOf q p.accepted)) w.nodes
  pub told : All (λ m. All (IsNoneOf q) (ballots_told m.message.body)) w.messages

-- what happens is within the ranges, and a stop-sign names nodes alone
abbrev pub NamesNodes : List ℕ → List ℕ → Happening → Type 0
NamesNodes members spares h =
    WhatInRange h.event.what × WhatNames (IsMember (node_ids members spares)) IsPid h.event.what

-- where stop-signs name nodes alone, no observer of a run owns a ballot, whichever begin in it
abbrev pub ObserversOwnNoBallot : Type 0
ObserversOwnNoBallot =
    (members spares : List ℕ) → MembersInRange members → SparesInRange members spares
    → (happenings : List Happening) → All (NamesNodes members spares) happenings
    → let w = run_of (first_world members spares) happenings in All (λ n. OwnsNoBallot w n.pid) w.observers
