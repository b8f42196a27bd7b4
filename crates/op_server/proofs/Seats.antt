-- A plan of either kind, and what comes of it.
use Rattle.std.proofs.Common.{◌≡◌, ℕ, List, Option, Some, None, refl, sym, ap, ◌∙◌, subst}
use Rattle.op_types.specs.Changes.{Applies}
use Rattle.op_types.specs.Ballots.{no_ballot}
use Rattle.op_types.specs.Rooms.{no_needs, part_option_with_room, with_room}
use Rattle.op_types.specs.declared.ballot.Ballot.{Ballot}
use Rattle.op_types.specs.declared.changes.Change.{Change}
use Rattle.op_types.specs.declared.durable.Durable.{Durable}
use Rattle.op_types.specs.declared.durable.Part.{Part}
use Rattle.op_types.specs.declared.events.Input.{Input}
use Rattle.op_types.specs.declared.given.Given.{Given}
use Rattle.op_types.proofs.Adoption.{bare_twice, applies_like}
use Rattle.op_spec.specs.Service.{Service}
use Rattle.op_protocol.specs.Rows.{step_plan}
use Rattle.op_protocol.specs.State.{Planned}
use Rattle.op_protocol.specs.Watching.{watch_plan}
use Rattle.op_instance.specs.Memory.{volatile_of}
use Rattle.op_chain.specs.Chains.{ballots_in, pairs_in}
use Rattle.op_chain.specs.Plans as chains
use Rattle.op_chain.specs.declared.chain.Chain.{Chain}
use Rattle.op_chain.specs.declared.chain_plan.ChainPlan.{ChainPlan}
use Rattle.op_chain.proofs.Prepared.{batch_made}
use Rattle.op_observer.specs.Observers as observers_of
use Rattle.op_observer.specs.Plans as observers
use Rattle.op_observer.specs.declared.observer.Observer.{Observer}
use Rattle.op_observer.specs.declared.observer_plan.ObserverPlan.{ObserverPlan}
use Rattle.op_server.specs.Plans as servers
use Rattle.op_server.specs.Plans.{with_reading, planned_by}
use Rattle.op_server.specs.Seats.{planned_at, IsSame, Admits, IsOfServer, IsOfObserver, IsReadyAt, Plans, Adopts}
use Rattle.op_server.specs.Servers as servers_of
use Rattle.op_server.specs.declared.reading.Reading.{Reading}
use Rattle.op_server.specs.declared.seat.Seat.{Seat}
use Rattle.op_server.specs.declared.seat.Seat.TheVariants as seat
use Rattle.op_server.specs.declared.seat_plan.SeatPlan.{SeatPlan}
use Rattle.op_server.specs.declared.seat_plan.SeatPlan.TheVariants as plan
use Rattle.op_server.specs.declared.server.Server.{Server}
use Rattle.op_server.specs.declared.server_plan.ServerPlan.{ServerPlan}

-- what begins anew, and what comes of reads, store nothing
chain_batch : (c : Chain) (p : ChainPlan) → (chains.planned_by c p).batch ≡ p.plan.batch
chain_batch c p = batch_made c.waiting.next (volatile_of c.volatile) c.service.service p

reading_batch : (o : Option Reading) (p : Planned) → (with_reading o p).batch ≡ p.batch
reading_batch None p = refl
reading_batch (Some r) p = refl

planned_batch : (s : Server) (p : ServerPlan) → (planned_by s p).batch ≡ p.chain.plan.batch
planned_batch s p = reading_batch p.reading (chains.planned_by s.chain p.chain) ∙ chain_batch s.chain p.chain

-- what applies where there is room applies where there is none
at_rest : (d : Durable) (batch : List Change) → Applies d batch → Applies (with_room no_needs d) batch
at_rest d batch all = applies_like d (with_room no_needs d) batch (sym (bare_twice no_needs d)) all

pub server_plans : (s : Server) (x : Input) (p : ServerPlan) → servers.Plans s x p
    → Plans (seat.Votes s) x (plan.Votes p)
server_plans s x p k =
    record {
      ready = k;
      batch = sym (planned_batch s p) ∙ ap (λ (q : Planned). q.batch) k.table;
      range = k.chain.range;
      applies = at_rest s.chain.durable p.chain.plan.batch k.chain.applies;
    }

pub observer_plans : (o : Observer) (x : Input) (p : ObserverPlan) → observers.Plans o x p
    → Plans (seat.Observes o) x (plan.Observes p)
observer_plans o x p k =
    record {
      ready = k;
      batch = ap (λ (q : Planned). q.batch) k.table;
      range = k.range;
      applies = at_rest o.durable p.plan.batch k.applies;
    }

-- ---- a node of either kind, by what it is

-- one that votes can plan what it is to plan
pub votes_admits : (s : Seat) (old : Server) (x : Input) → s ≡ seat.Votes old → Admits s x
    → servers_of.Admits old x
votes_admits s old x is admits =
    let k = subst (λ (z : Seat). Admits z x) is admits in record { sound = k.sound; range = k.range }

pub observes_admits : (s : Seat) (old : Observer) (x : Input) → s ≡ seat.Observes old → Admits s x
    → observers_of.Admits old x
observes_admits s old x is admits =
    let k = subst (λ (z : Seat). Admits z x) is admits in record { sound = k.sound; range = k.range }

-- it is the same node still
pub votes_same : (s : Seat) (old new : Server) → s ≡ seat.Votes old → servers_of.IsSame old new
    → IsSame s (seat.Votes new)
votes_same s old new is same =
    subst (λ (z : Seat). IsSame z (seat.Votes new)) (sym is)
    (record { kind = refl; me = same.me; state = same.state; sound = same.sound })

pub observes_same : (s : Seat) (old new : Observer) → s ≡ seat.Observes old → observers_of.IsSame old new
    → IsSame s (seat.Observes new)
observes_same s old new is same =
    subst (λ (z : Seat). IsSame z (seat.Observes new)) (sym is)
    (record { kind = refl; me = same.me; state = same.state; sound = same.sound })

-- a plan that is made ready at a node of one kind is one of that kind
module _ (s : Seat) (x : Input) (q : SeatPlan) (plans : Plans s x q) where
  pub votes_ready : (old : Server) (p : ServerPlan) → s ≡ seat.Votes old → q ≡ plan.Votes p
      → servers.Plans old x p
  votes_ready old p is made =
      subst (λ (r : SeatPlan). IsReadyAt (seat.Votes old) x r) made
      (subst (λ (z : Seat). IsReadyAt z x q) is plans.ready)

  pub observes_ready : (old : Observer) (p : ObserverPlan) → s ≡ seat.Observes old → q ≡ plan.Observes p
      → observers.Plans old x p
  observes_ready old p is made =
      subst (λ (r : SeatPlan). IsReadyAt (seat.Observes old) x r) made
      (subst (λ (z : Seat). IsReadyAt z x q) is plans.ready)

  pub votes_plan : (old : Server) → s ≡ seat.Votes old → IsOfServer q
  votes_plan old is = of_kind q (subst (λ (z : Seat). IsReadyAt z x q) is plans.ready)
    where
      of_kind : (r : SeatPlan) → IsReadyAt (seat.Votes old) x r → IsOfServer r
      of_kind (plan.Votes p) k = tt
      of_kind (plan.Observes p) k = k

  pub observes_plan : (old : Observer) → s ≡ seat.Observes old → IsOfObserver q
  observes_plan old is = of_kind q (subst (λ (z : Seat). IsReadyAt z x q) is plans.ready)
    where
      of_kind : (r : SeatPlan) → IsReadyAt (seat.Observes old) x r → IsOfObserver r
      of_kind (plan.Votes p) k = k
      of_kind (plan.Observes p) k = tt

-- what adopting it leaves
pub votes_adopts : (s : Seat) (x : Input) (old new : Server) (g : Given) → s ≡ seat.Votes old
    → servers.Adopts old (step_plan old.chain.me (servers_of.state_of old) x) new g
    → Adopts s (planned_at s x) (seat.Votes new) g
votes_adopts s x old new g is adopts =
    subst (λ (z : Seat). Adopts z (planned_at z x) (seat.Votes new) g) (sym is)
    (record { kind = refl; me = adopts.me; state = adopts.state; sound = adopts.sound; given = adopts.given })

pub observes_adopts : (s : Seat) (x : Input) (old new : Observer) (g : Given) → s ≡ seat.Observes old
    → observers.Adopts old (watch_plan old.me (observers_of.state_of old) x) new g
    → Adopts s (planned_at s x) (seat.Observes new) g
observes_adopts s x old new g is adopts =
    let given = adopts.given in
    subst (λ (z : Seat). Adopts z (planned_at z x) (seat.Observes new) g) (sym is)
    (record {
      kind = refl;
      me = adopts.me;
      state = adopts.state;
      sound = adopts.sound;
      given = record {
        sends = given.sends;
        replies = given.replies;
        read_replies = given.read_replies;
        outcome = given.outcome;
      };
    })

-- ---- what an observer tells of itself

-- the ballots of an observer with this part
abbrev pub ballots_told : ℕ → Part → Option (Ballot × Ballot × Ballot)
ballots_told me p = Some (record { number = 1; pid = me }, no_ballot, p.promised)

module _ (o : Observer) (d : Durable)
    (stored : with_room no_needs d ≡ (observers_of.state_of o).durable) where
  -- of the part that it has, or of none
  by_part : {A : Type 0} (f : Option Part → A) (q : Option Part) → d.part ≡ q
      → f (observers_of.state_of o).durable.part ≡ f (part_option_with_room 0 q)
  by_part f q is =
      ap (λ (e : Durable). f e.part) (sym stored) ∙ ap (λ (r : Option Part). f (part_option_with_room 0 r)) is

  -- its ballots
  pub observer_ballots : (p : Part) → d.part ≡ Some p
      → ballots_told o.me p ≡ ballots_in (observers_of.state_of o).volatile
      (observers_of.state_of o).durable.part
  observer_ballots p there = sym (by_part (ballots_in (observers_of.state_of o).volatile) (Some p) there)

  pub no_ballots : d.part ≡ None
      → None ≡ ballots_in (observers_of.state_of o).volatile (observers_of.state_of o).durable.part
  no_ballots none = sym (by_part (ballots_in (observers_of.state_of o).volatile) None none)

  -- the pairs of its service
  pub observer_pairs : (p : Part) (service : Service) → d.part ≡ Some p
      → service ≡ (observers_of.state_of o).service
      → Some service.pairs ≡ pairs_in (observers_of.state_of o).service (observers_of.state_of o).durable.part
  observer_pairs p service there same =
      ap (λ (t : Service). Some t.pairs) same
      ∙ sym (by_part (pairs_in (observers_of.state_of o).service) (Some p) there)

  pub no_pairs : d.part ≡ None
      → None ≡ pairs_in (observers_of.state_of o).service (observers_of.state_of o).durable.part
  no_pairs none = sym (by_part (pairs_in (observers_of.state_of o).service) None none)
