-- A node that was begun over its store, or its disks handed back.
use Rattle.std.proofs.Common.{◌≡◌, inr, ℕ, Bool, List, None, Result, Ok, Err, sym, ap, subst}
use Rattle.std.specs.Prelude.{IfOk, IfErr}
use Rattle.std.specs.declared.alloc.AllocError.{AllocError}
use Rattle.op_types.specs.declared.durable.Durable.{Durable}
use Rattle.op_types.specs.declared.messages.Msg.{Msg}
use Rattle.op_record.specs.Ranges.{DurableInRange}
use Rattle.op_runs.specs.World.{Kind}
use Rattle.op_outside.specs.Disks.{DiskState}
use Rattle.op_store.specs.Openings.{Opened}
use Rattle.op_store.specs.Stores.{IsReady}
use Rattle.op_store.specs.declared.fail.Returned.{Returned}
use Rattle.op_store.specs.declared.fail.StoreFail.TheVariants.{NoMemory}
use Rattle.op_store.specs.declared.store.Store.{Store}
use Rattle.op_server.specs.Seats.{kind_of, me_of, state_of, IsSoundSeat}
use Rattle.op_server.specs.declared.seat.Seat.{Seat}
use Rattle.op_node.specs.Openings.{OpensAs, IsSeated, RefusesNode, disks_with, fresh_as, opening_state, opening_sends}
use Rattle.op_node.specs.declared.node.Node.{Node}
use Rattle.op_node.proofs.NodeSteps.{node_same}

module _ {D : Type 0} (state : D → DiskState) (first second : D) (store : Store D) (durable : Durable)
    (is_new : Bool) where
  -- what is handed back for want of memory
  abbrev pub handed : Returned D
  handed = record { cause = NoMemory; first = store.first; second = store.second }

  -- for want of memory it is refused
  pub refused_seat : {A : Type 0} (fresh : Durable)
      → Opened state fresh (disks_with state first second) store durable is_new
      → (result : Result A (Returned D)) → IfErr result (λ e. e ≡ handed)
      → IfErr result (RefusesNode state fresh first second)
  refused_seat fresh opened (Ok r) is = tt
  refused_seat fresh opened (Err e) is =
      inr
      (record {
        cause = ap (λ (x : Returned D). x.cause) is;
        left = inr
            (record {
              store = store;
              durable = durable;
              is_new = is_new;
              opened = opened;
              same = (ap (λ (x : Returned D). x.first) is, ap (λ (x : Returned D). x.second) is);
            });
      })

  -- what was begun, by its kind
  module _ (kind : Kind) (me : ℕ) (members : List ℕ) (begun : Result (Seat × List (ℕ × Msg)) AllocError)
      (who : IfOk begun (λ r. (kind_of r.0 ≡ kind) × (me_of r.0 ≡ me)))
      (state_is : IfOk begun (λ r. state_of r.0 ≡ opening_state kind me is_new durable))
      (sends_are : IfOk begun (λ r. r.1 ≡ opening_sends kind me is_new durable))
      (sound : IfOk begun (λ r. IsSoundSeat r.0))
      (range : IfOk begun (λ r. DurableInRange (state_of r.0).durable)) where
    opens : (n : Node D) (sends : List (ℕ × Msg)) → IsSeated begun store n sends
        → Opened state (fresh_as kind me members) (disks_with state first second) store durable is_new
        → DurableInRange durable
        → OpensAs kind state me members (disks_with state first second) n sends
    opens n sends is opened stored =
        let k = subst
        (λ (b : Result (Seat × List (ℕ × Msg)) AllocError). IfOk b
        (λ r. (kind_of r.0 ≡ kind) × (me_of r.0 ≡ me))) is.begun who in
        let s = subst
        (λ (b : Result (Seat × List (ℕ × Msg)) AllocError). IfOk b
        (λ r. state_of r.0 ≡ opening_state kind me is_new durable)) is.begun state_is in
        record {
          durable = durable;
          is_new = is_new;
          opened = subst
              (λ (z : Store D). Opened state (fresh_as kind me members)
              (disks_with state first second) z durable is_new) (sym is.store) opened;
          range = stored;
          node = node_same (kind_of n.seat) kind (me_of n.seat) me (state_of n.seat)
              (opening_state kind me is_new durable) n.failed None k.0 k.1 s is.failed;
          sends_are =
              subst (λ (b : Result (Seat × List (ℕ × Msg)) AllocError). IfOk b
              (λ r. r.1 ≡ opening_sends kind me is_new durable)) is.begun sends_are;
          sound = record {
            seat = subst
                (λ (b : Result (Seat × List (ℕ × Msg)) AllocError). IfOk b
                (λ r. IsSoundSeat r.0)) is.begun sound;
            range = subst
                (λ (b : Result (Seat × List (ℕ × Msg)) AllocError). IfOk b
                (λ r. DurableInRange (state_of r.0).durable)) is.begun range;
            store = λ _. subst IsReady (sym is.store) opened.ready;
          };
        }

    pub opened_seat : (result : Result (Node D × List (ℕ × Msg)) (Returned D))
        → IfOk result (λ r. IsSeated begun store r.0 r.1)
        → Opened state (fresh_as kind me members) (disks_with state first second) store durable is_new
        → DurableInRange durable
        → IfOk result (λ r. OpensAs kind state me members (disks_with state first second) r.0 r.1)
    opened_seat (Ok r) is opened stored = opens r.0 r.1 is opened stored
    opened_seat (Err e) is opened stored = tt
