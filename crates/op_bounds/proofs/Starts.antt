-- Nodes are in range at their first start and when they are opened again.
use Rattle.std.proofs.Common.{ℕ, not, nat_eq, eqb, List, [], ◌∷◌, Option, Some, None, arith, All}
use Rattle.std.specs.Prelude.{IfSome}
use Rattle.std.specs.Set.{is_member}
use Rattle.std.specs.Ordering.{nat_cmp}
use Rattle.std.specs.BTreeSet.{insert_key}
use Rattle.std.proofs.lemmas.Bool.{cond_both}
use Rattle.std.proofs.lemmas.Map.Views.{All-insert_key}
use Rattle.std.proofs.lemmas.List.Elements.{All-nil, All-head, All-tail, All-map, All-weaker, All-filter}
use Rattle.op_types.specs.Changes.{empty_durable}
use Rattle.op_types.specs.declared.durable.Closed.{Closed}
use Rattle.op_types.specs.declared.durable.Joining.{Joining}
use Rattle.op_types.specs.declared.durable.Part.{Part}
use Rattle.op_types.specs.declared.durable.Durable.{Durable}
use Rattle.op_types.specs.declared.messages.Body.TheVariants as body
use Rattle.op_spec.specs.Service.{new_service, base_bytes}
use Rattle.op_protocol.specs.Parts.{others}
use Rattle.op_protocol.specs.Starting.{first_volatile, restart_ballot, requests_to_prepare, service_after_restart, volatile_after_restart, state_after_restart}
use Rattle.op_runs.specs.World.{first_durable, durable_at_start, first_node, node_ids, first_world}
use Rattle.op_bounds.specs.Messages.{AreIds, MembersOf, SendInRange}
use Rattle.op_bounds.specs.States.{DurableOf, IsNamed, VolatileInRange, VolatileEndsNowhere, StateInRange, ObserverStateInRange}
use Rattle.op_bounds.specs.Laws.{OpeningsStayInRange, ObserverOpeningsStayInRange, SentInRange, NodeInRange, ObserverInRange, WorldInRange, StartsAreInRange}
use Rattle.op_bounds.proofs.ReadBases.{ServiceIn, new_service_in, base_of}
use Rattle.op_bounds.proofs.Batches.{part_in}
use Rattle.op_bounds.proofs.Effects.{send_each}
use Rattle.op_bounds.proofs.Ballots.{restart_ballot_in}
use Rattle.op_bounds.proofs.JoinChanges.{stored}
use Rattle.op_bounds.proofs.Plans.{part_bases}
use Rattle.op_bounds.proofs.Beginning.{started_stops, first_stops, started, first_volatile_in, new_part_range, new_part_of}

-- ---- an opening

module _ (Known : ℕ → Type 0) (ids : AreIds Known) (me : ℕ) (one : Known me) (l : Option Closed) (j : Option Joining) where
  memory : (o : Option Part) → DurableOf Known (stored o l j) → VolatileInRange Known (volatile_after_restart me o)
  memory None d = first_volatile_in Known ids me one
  memory (Some p) d = started Known ids (restart_ballot me p.promised) p.promised (restart_ballot_in Known me p.promised ids one) d.part.promised

  idle : (o : Option Part) → IfSome o (λ p. VolatileEndsNowhere p.conf (volatile_after_restart me o))
  idle None = tt
  idle (Some p) = started_stops p.conf (restart_ballot me p.promised) p.promised

  service : (o : Option Part) → DurableOf Known (stored o l j) → ServiceIn (service_after_restart o)
  service None d = new_service_in
  service (Some p) d = part_bases Known p (part_in Known p d.range.part d.part) p.decided

  restarted : (o : Option Part) → DurableOf Known (stored o l j) → StateInRange Known (state_after_restart me (stored o l j))
  restarted o d = record { durable = d; volatile = memory o d; stops = idle o; service = (service o d).range; order = (service o d).order; reads = tt }

  asked : (o : Option Part) (x : Option Joining) → DurableOf Known (stored o l j) → All (SendInRange Known) (requests_to_prepare me o x)
  asked None x d = All-nil (SendInRange Known)
  asked (Some p) (Some x) d = All-nil (SendInRange Known)
  asked (Some p) None d =
      send_each Known p.conf (others me p.members) body.PrepareReq d.range.part.conf (omega arith) (omega arith) (All-filter (λ q. not (eqb q me)) Known p.members d.part.members) tt

pub openings_stay : (Known : ℕ → Type 0) → OpeningsStayInRange Known
openings_stay Known ids me one d k =
    record {
      state = restarted Known ids me one d.closed d.joining d.part k;
      sends = asked Known ids me one d.closed d.joining d.part d.joining k;
    }

-- what an observer is opened with
again_in : (Known : ℕ → Type 0) (me : ℕ) (o : Option Part) (l : Option Closed) (j : Option Joining) → DurableOf Known (stored o l j) → ObserverStateInRange Known (state_after_restart me (stored o l j))
again_in Known me None l j d = record { durable = d; pieces = tt; service = new_service_in.range; order = new_service_in.order }
again_in Known me (Some p) l j d =
    let k = part_bases Known p (part_in Known p d.range.part d.part) p.decided in
    record { durable = d; pieces = tt; service = k.range; order = k.order }

pub observer_openings_stay : (Known : ℕ → Type 0) → ObserverOpeningsStayInRange Known
observer_openings_stay Known ids me d k = again_in Known me d.part d.closed d.joining k

-- ---- the first start

pub all_ids : (Known : ℕ → Type 0) (spares members : List ℕ) → All Known members → All Known spares → All Known (node_ids members spares)
all_ids Known [] members ms ss = ms
all_ids Known (q ∷ spares) members ms ss =
    all_ids Known spares (insert_key nat_cmp members q) (All-insert_key nat_cmp q Known members ms (All-head Known q spares ss)) (All-tail Known q spares ss)

module _ (Known : ℕ → Type 0) (ids : AreIds Known) (members : List ℕ) (range : MembersOf Known members) where
  pub member_durable : DurableOf Known (first_durable members)
  member_durable =
      record {
        range = record {
          part = new_part_range Known 1 members (base_bytes new_service) range (omega arith, omega arith) (base_of new_service new_service_in);
          closed = tt;
          joining = tt;
        };
        part = new_part_of Known 1 members (base_bytes new_service) range;
        closed = tt;
        joining = tt;
      }

  spare_durable : DurableOf Known empty_durable
  spare_durable = record { range = record { part = tt; closed = tt; joining = tt }; part = tt; closed = tt; joining = tt }

  -- what is stored at the start, and who is a member
  record StoredAtStart (me : ℕ) (d : Durable) : Type 0 where
    pub fits : DurableOf Known d
    pub idle : IfSome d.part (λ p. VolatileEndsNowhere p.conf (first_volatile me))
    pub named : IsNamed me d

  at_start : (me : ℕ) → StoredAtStart me (durable_at_start members me)
  at_start me =
      cond_both (is_member nat_eq members me) (first_durable members) empty_durable (StoredAtStart me)
      (λ h. record { fits = member_durable; idle = first_stops 1 me; named = record { part = h; joining = tt } })
      (λ _. record { fits = spare_durable; idle = tt; named = record { part = tt; joining = tt } })

  first_node_in : (me : ℕ) → Known me → NodeInRange Known (first_node members me)
  first_node_in me one =
      let d : StoredAtStart me (durable_at_start members me) = at_start me in
      record {
        pid = one;
        state = record { durable = d.fits; volatile = first_volatile_in Known ids me one; stops = d.idle; service = new_service_in.range; order = new_service_in.order; reads = tt };
        named = d.named;
        status = tt;
      }

  pub first_world_in : (spares : List ℕ) → All Known spares → WorldInRange Known (first_world members spares)
  first_world_in spares known =
      record {
        nodes = All-map (NodeInRange Known) (first_node members) (node_ids members spares)
            (All-weaker Known (λ q. NodeInRange Known (first_node members q)) first_node_in (node_ids members spares) (all_ids Known spares members range.known known));
        observers = All-nil (ObserverInRange Known);
        members = range;
        messages = All-nil (SentInRange Known);
      }

pub starts_in : (Known : ℕ → Type 0) → StartsAreInRange Known
starts_in Known ids members spares k = first_world_in Known ids members k.members_are spares k.spares_are
