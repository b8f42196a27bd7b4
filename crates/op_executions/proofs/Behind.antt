-- Happenings behind the beginnings of observers: in range, and naming servers alone. None of the observers owns a ballot then.
use Rattle.std.proofs.Common.{◌≡◌, ◌<◌, ◌+◌, ℕ, List, [], ◌∷◌, ◌++◌, All, sym, subst, arith}
use Rattle.std.proofs.lemmas.List.Elements.{All-nil, All-cons, All-head, All-tail, All-append, All-weaker}
use Rattle.op_types.specs.Ranges.{IsMember, IsPid, MembersInRange}
use Rattle.op_runs.specs.declared.events.What.{What}
use Rattle.op_runs.specs.World.{World, Happening, done_event, node_ids}
use Rattle.op_runs.specs.Run.{first_execution}
use Rattle.op_runs.specs.Possible.{ObserversInRange, SparesInRange, WhatInRange, most_proposals, proposals_in, server_ids}
use Rattle.op_runs.specs.Schedules.{beginning, observers_begun}
use Rattle.op_bounds.specs.Laws.{WhatNames}
use Rattle.op_bounds.proofs.Known.{rising_ids}
use Rattle.op_bounds.proofs.Owners.{observers_own_none}
use Rattle.op_laws.specs.Runs.{RunInRange}
use Rattle.op_laws.proofs.Reached.{world_of_run}
use Rattle.op_executions.specs.Laws.{NoneOwnsBallots, reached}
use Rattle.op_executions.proofs.Beginning.{begun_in_range, begun_propose_none}
use Rattle.op_executions.proofs.Bounds.{servers_are_ids}
use Rattle.op_executions.proofs.Deeds.{names_more}

pub proposals_more : (hs gs : List Happening) → proposals_in (hs ++ gs) ≡ proposals_in hs + proposals_in gs
proposals_more [] gs = omega arith
proposals_more (h ∷ hs) gs = omega (arith, proposals_more hs gs)

-- names of a run of these members, spares and observers: a stop-sign names nodes, and an opening some server
abbrev pub NamesServers : List ℕ → List ℕ → List ℕ → What → Type 0
NamesServers members spares observers w = WhatNames (IsMember (node_ids members spares)) (IsMember (server_ids members spares observers)) w

-- none is in range
pub no_observers : (members spares : List ℕ) → ObserversInRange members spares []
no_observers members spares = record { rising = tt; no_member = λ q h. absurd (cc); no_spare = λ q h. absurd (cc) }

-- the beginnings name ids
begun_names : (P : ℕ → Type 0) (observers : List ℕ) → All IsPid observers → All (λ h. WhatNames P IsPid h.event.what) (observers_begun observers)
begun_names P [] each = All-nil (λ (h : Happening). WhatNames P IsPid h.event.what)
begun_names P (q ∷ observers) each =
    All-cons (λ (h : Happening). WhatNames P IsPid h.event.what) (done_event (beginning q)) (observers_begun observers) (All-head IsPid q observers each) (begun_names P observers (All-tail IsPid q observers each))

-- these happenings are in range, and name servers alone
pub record Fit (members spares observers : List ℕ) (hs : List Happening) : Type 0 where
  pub each : All (λ h. WhatInRange h.event.what) hs
  pub name : All (λ h. NamesServers members spares observers h.event.what) hs
  pub few : proposals_in hs < most_proposals

module _ (members spares observers : List ℕ) (m : MembersInRange members) (sp : SparesInRange members spares) (o : ObserversInRange members spares observers) (hs : List Happening) (k : Fit members spares observers hs) where
  abbrev whole : List Happening
  whole = observers_begun observers ++ hs

  -- behind the beginnings they are in range too
  pub behind_in_range : RunInRange members spares (observers_begun observers ++ hs)
  behind_in_range =
      let first = begun_in_range observers o.rising in
      let sum = proposals_more (observers_begun observers) hs in
      let none = begun_propose_none observers in
      let small = k.few in
      record {
        first = m;
        others = sp;
        happenings = record { few = omega (arith, sum, none, small); each = All-append (λ (h : Happening). WhatInRange h.event.what) (observers_begun observers) hs first.each k.each };
      }

  -- a stop-sign names nodes, and an opening an id
  names : All (λ h. WhatNames (IsMember (node_ids members spares)) IsPid h.event.what) whole
  names =
      let ids : List ℕ = node_ids members spares in
      All-append (λ (h : Happening). WhatNames (IsMember ids) IsPid h.event.what) (observers_begun observers) hs (begun_names (IsMember ids) observers (rising_ids 0 observers o.rising))
      (All-weaker (λ (h : Happening). NamesServers members spares observers h.event.what) (λ (h : Happening). WhatNames (IsMember ids) IsPid h.event.what)
      (λ h. names_more (IsMember ids) (IsMember (server_ids members spares observers)) (IsMember ids) IsPid (λ q x. x) (servers_are_ids members spares observers m sp o) h.event.what) hs k.name)

  -- none of the observers owns a ballot then
  pub behind_owns : NoneOwnsBallots (reached members spares (observers_begun observers ++ hs)).world
  behind_owns =
      let each : All (λ h. WhatInRange h.event.what) whole = (behind_in_range.happenings).each in
      subst (λ (w : World). NoneOwnsBallots w) (sym (world_of_run (first_execution members spares) whole)) (observers_own_none members spares m sp whole (λ i d there. (each i d there, names i d there)))
