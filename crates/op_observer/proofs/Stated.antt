-- An observer's state, whatever room it has.
use Rattle.std.proofs.Common.{◌≡◌, ℕ, zero, suc, nat_eq, [], Option, Some, None, refl, sym, ap, ◌∙◌, subst}
use Rattle.std.specs.Prelude.{IfSome}
use Rattle.std.proofs.lemmas.Bool.{cond_both}
use Rattle.op_types.specs.Ballots.{no_ballot}
use Rattle.op_types.specs.Rooms.{no_needs, part_option_with_room, with_room}
use Rattle.op_types.specs.declared.durable.Durable.{Durable}
use Rattle.op_types.specs.declared.durable.Part.{Part}
use Rattle.op_types.specs.declared.needs.Needs.{Needs}
use Rattle.op_types.proofs.Adoption.{bare_twice, rest_is_bare}
use Rattle.op_spec.specs.Service.{Service, new_service}
use Rattle.op_kv.specs.Bases.{IsBase}
use Rattle.op_kv.specs.Maps.{MapState}
use Rattle.op_protocol.specs.State.{State, Volatile}
use Rattle.op_protocol.specs.Starting.{first_volatile, restart_ballot, volatile_after_restart, service_after_restart, state_after_restart}
use Rattle.op_plans.specs.Positions.{FitsPositions}
use Rattle.op_watch.specs.Basing.{first_stage}
use Rattle.op_watch.specs.declared.stage.BaseStage.{BaseStage}
use Rattle.op_observer.specs.Observers.{volatile_of, state_of, begun_state, IsSoundObserver, IsSame, IsWatchedPart, CanWatch}
use Rattle.op_observer.specs.declared.observer.Observer.{Observer}

-- positions fit, whatever the room
pub fits_room : (n : ℕ) (o : Option Part) → IfSome o FitsPositions
    → IfSome (part_option_with_room n o) FitsPositions
fits_room n None fits = tt
fits_room n (Some p) fits = record { trimmed = fits.trimmed; decided = fits.decided; small = fits.small }

-- the same observer with this room
pub same_roomed : (n : Needs) (a b : Observer) → IsSoundObserver a → b.me ≡ a.me → b.stage ≡ a.stage
    → b.service.service ≡ a.service.service → b.durable ≡ with_room n a.durable → IsSame a b
same_roomed n a b sound me stage service is =
    record {
      me = me;
      state =
          ap (λ (d : Durable). let s : State = record (state_of b) { durable = with_room no_needs d } in s) is
          ∙ ap (λ (d : Durable). let s : State = record (state_of b) { durable = d } in s)
          (bare_twice n a.durable)
          ∙ ap (λ (v : Volatile). let s : State =
          record {
            durable = with_room no_needs a.durable;
            volatile = v;
            service = b.service.service;
            waiting = [];
            reads = None;
          } in s) (ap (λ (k : ℕ). volatile_of k b.stage) me
          ∙ ap (λ t. volatile_of a.me t) stage)
          ∙ ap (λ (t : Service). let s : State =
          record {
            durable = with_room no_needs a.durable;
            volatile = volatile_of a.me a.stage;
            service =
                t;
            waiting = [];
            reads = None;
          } in s) service;
      sound = record {
        part =
            subst (λ (d : Durable). IfSome d.part FitsPositions) (sym is)
            (fits_room n.entries a.durable.part sound.part);
      };
    }

-- the same observer without room, once what it adopted last is at its place
pub same_settled : (a : Observer) (d : Durable) (m : MapState) → IsSoundObserver a
    → d ≡ with_room no_needs a.durable
    → m.service ≡ a.service.service → (let b : Observer = record a { durable = d; service = m } in IsSame a b)
same_settled a d m sound is stays =
    let b : Observer = record a { durable = d; service = m } in
    same_roomed no_needs a b sound refl refl stays is

-- ---- openings

-- a server that has promised nothing stands for its first ballot again
first_again : (me : ℕ) → restart_ballot me no_ballot ≡ record { number = 1; pid = me }
first_again zero = refl
first_again (suc n) = cond_both (nat_eq 0 (suc n)) (record { number = 1; pid = suc n }) (record { number = 1; pid = suc n }) (λ b. b ≡ record { number = 1; pid = suc n }) (λ _. refl) (λ _. refl)

pub begins_again : (me : ℕ) (o : Option Part) → IfSome o IsWatchedPart
    → volatile_after_restart me o ≡ first_volatile me
begins_again me None can = refl
begins_again me (Some p) can =
    ap (λ b. volatile_after_restart me (Some (record p { promised = b }))) can.promised
    ∙ ap (λ b. let v : Volatile = record (first_volatile me) { own = b } in v) (first_again me)

-- the state of an observer that keeps this, and stores that
abbrev keeping : Durable → Volatile → Service → State
keeping d v s = record { durable = d; volatile = v; service = s; waiting = []; reads = None }

-- an observer is opened with this, with nothing staged
module _ (me : ℕ) (d : Durable) (can : CanWatch d) (t : BaseStage) (stage : t ≡ first_stage) where
  -- its state is that of what is stored, whatever its service
  opened : (s : Service)
      → keeping (with_room no_needs d) (volatile_of me t) s ≡ keeping d (first_volatile me) s
  opened s =
      ap (λ (e : Durable). keeping e (volatile_of me t) s) (rest_is_bare d can.rest)
      ∙ ap (λ (u : BaseStage). keeping d (volatile_of me u) s) stage

  -- at its first start
  pub begun : (s : Service) → s ≡ new_service
      → keeping (with_room no_needs d) (volatile_of me t) s ≡ begun_state me d
  begun s is = opened s ∙ ap (λ (z : Service). keeping d (first_volatile me) z) is

  -- and when it is opened again
  pub again : (s : Service) → s ≡ service_after_restart d.part
      → keeping (with_room no_needs d) (volatile_of me t) s ≡ state_after_restart me d
  again s is =
      opened s ∙ ap (λ (z : Service). keeping d (first_volatile me) z) is
      ∙ ap (λ (v : Volatile). keeping d v (service_after_restart d.part))
      (sym (begins_again me d.part can.part))

-- the positions of its part fit, and it begins at a base
pub watched_fits : (o : Option Part) → IfSome o IsWatchedPart → IfSome o FitsPositions
watched_fits None can = tt
watched_fits (Some p) can = can.positions

pub watched_base : (o : Option Part) → IfSome o IsWatchedPart → IfSome o (λ p. IsBase p.base)
watched_base None can = tt
watched_base (Some p) can = can.base
