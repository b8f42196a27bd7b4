-- What happens at an observer: letters that have no effect on servers, of a server that no node is.
use Rattle.std.proofs.Common.{◌≡◌, ℕ, ◌-◌, Bool, true, false, cond, eqb, List, [], ◌∷◌, ◌++◌, Option, Some, None, refl, sym, ap, ◌∙◌, subst, append-nil}
use Rattle.std.proofs.lemmas.Bool.{eq-eqb}
use Rattle.op_types.specs.declared.durable.Durable.{Durable}
use Rattle.op_types.specs.declared.log.Entry.{Entry}
use Rattle.op_types.specs.declared.events.Input.{Input}
use Rattle.op_types.specs.declared.events.Input.TheVariants as input
use Rattle.op_types.specs.declared.messages.Body.{Body}
use Rattle.op_types.specs.declared.messages.Body.TheVariants as body
use Rattle.op_types.specs.declared.messages.Msg.{Msg}
use Rattle.op_types.specs.declared.messages.Watch.TheVariants as watch
use Rattle.op_protocol.specs.State.{State as TableState}
use Rattle.op_protocol.specs.Parts.{to_each}
use Rattle.op_protocol.proofs.Watching.{watch_cases}
use Rattle.op_protocol.specs.Watching.{watch_plan}
use Rattle.op_runs.specs.World.{outcome_lines, lines_of, Node, NodeStatus, Up, Down, Failed, Observes, sent_by, node_at, Deed, Doing, Steps, Stops, Opens, Tells, Fate, Done, Stopped, Faulted, World, Happening, world_by_fate_as, world_by_status_as, world_opening_as, world_reopening_as, world_beginning, world_at_observer, world_observed}
use Rattle.op_configurations.specs.Servers as server
use Rattle.op_configurations.specs.Servers.{notes}
use Rattle.op_configurations.specs.Worlds as worlds
use Rattle.op_configurations.specs.Worlds.{Running, Server, At, happens, start, machine_of, machine_with, machine_after}
use Rattle.op_configurations.proofs.Covering.{shows_again}
use Rattle.op_refinement.proofs.View.{Each}
use Rattle.op_refinement.proofs.Relation.{AreLetters}
use Rattle.op_refinement.proofs.Inputs.{noted}
use Rattle.op_refinement.proofs.NodeLists.{IfThere, found}
use Rattle.op_spec.specs.Machine.{first_machine}
use Rattle.op_configurations.proofs.Standing.{machine_append}
use Rattle.op_refinement.proofs.Worlds.{world_of, state_of}
use Rattle.op_refinement.proofs.Machines.{same_path}
use Rattle.op_refinement.proofs.PureMoves.{GoesTo, done_goes, event_world}
use Rattle.op_paxos.proofs.Updates.{upd_at}

-- ---- what an observer sends

-- it asks for what is decided
abbrev pub IsAsk : Body → Type 0
IsAsk (body.Watch (watch.Ask from)) = Unit {0}
IsAsk _ = ⊥

abbrev pub IsAsked : ℕ × Msg → Type 0
IsAsked s = IsAsk s.1.body

asks_each : (conf : ℕ) (qs : List ℕ) (from : ℕ) → Each IsAsked (to_each conf qs (body.Watch (watch.Ask from)))
asks_each conf [] from = tt
asks_each conf (q ∷ qs) from = (tt, asks_each conf qs from)

pub asks_letters : (lists : ℕ → List Entry) (me : ℕ) (sends : List (ℕ × Msg)) → Each IsAsked sends → AreLetters lists (sent_by me sends) (notes me (noted sends))
asks_letters lists me [] k = tt
asks_letters lists me (s ∷ sends) k = (record { from = refl; to = refl; conf = refl; body = said s.1.body k.0; small = small s.1.body k.0 }, asks_letters lists me sends k.1)
  where
    said : (b : Body) → IsAsk b → Rattle.op_refinement.proofs.Relation.IsSaid lists s.1.conf b server.HeartbeatReply
    said (body.Watch (watch.Ask from)) k = refl
    said _ k = absurd k

    small : (b : Body) → IsAsk b → Rattle.op_refinement.proofs.View.BodyIsSmall b
    small (body.Watch (watch.Ask from)) k = tt
    small _ k = absurd k

-- an observer tells nothing but what it answers at once
pub watch_lines : (at me : ℕ) (s : TableState) (x : Input) → lines_of at me (watch_plan me s x) ≡ outcome_lines at (watch_plan me s x).outcome
watch_lines at me s x =
    watch_cases me s (λ p. lines_of at me p ≡ outcome_lines at p.outcome) (λ batch v t. refl) (λ c qs from. refl)
    (λ o. append-nil (outcome_lines at o ++ []) ∙ append-nil (outcome_lines at o)) x

-- an observer sends nothing but what it asks
pub watch_asks : (me : ℕ) (s : TableState) (x : Input) → Each IsAsked (watch_plan me s x).sends
watch_asks me s x = watch_cases me s (λ p. Each IsAsked p.sends) (λ batch v t. tt) (λ c qs from. asks_each c qs from) (λ o. tt) x

-- ---- what happens at one

-- what is done at an observer of this id adds what it asks
pub record AddsAsks (w v : World) (q : ℕ) : Type 0 where
  pub sends : List (ℕ × Msg)
  pub asks : Each IsAsked sends
  pub messages : v.messages ≡ w.messages ++ sent_by q sends

adds_none : (w v : World) (q : ℕ) → v.messages ≡ w.messages → AddsAsks w v q
adds_none w v q e = record { sends = []; asks = tt; messages = e ∙ sym (append-nil w.messages) }

module _ (w : World) (h : Happening) (n : Node) where
  by_fate : (f : Fate) (at : ℕ) (x : Input) → AddsAsks w (world_by_fate_as Observes f at w n x) n.pid
  by_fate Done at x = record { sends = (watch_plan n.pid n.state x).sends; asks = watch_asks n.pid n.state x; messages = refl }
  by_fate Stopped at x = adds_none w _ n.pid refl
  by_fate (Faulted count) at x = adds_none w _ n.pid refl

  opening : (f : Fate) (found : Durable) → AddsAsks w (world_opening_as Observes f w n found) n.pid
  opening Done found = adds_none w _ n.pid (append-nil w.messages)
  opening Stopped found = adds_none w _ n.pid refl
  opening (Faulted count) found = adds_none w _ n.pid refl

  reopening : (f : Fate) (after found : Durable) → AddsAsks w (world_reopening_as Observes f after w n found) n.pid
  reopening Done after found = adds_none w _ n.pid (append-nil w.messages)
  reopening Stopped after found = adds_none w _ n.pid refl
  reopening (Faulted count) after found = adds_none w _ n.pid refl

  by_status : (s : NodeStatus) (d : Doing) → AddsAsks w (world_by_status_as Observes s d h w n) n.pid
  by_status Up (Steps x) = by_fate h.fate h.event.line x
  by_status Up Stops = adds_none w _ n.pid refl
  by_status Up Opens = adds_none w _ n.pid refl
  by_status Up (Tells t) = adds_none w _ n.pid refl
  by_status (Down after) (Steps x) = adds_none w _ n.pid refl
  by_status (Down after) Stops = adds_none w _ n.pid refl
  by_status (Down after) Opens = opening h.fate (cond h.finds_after after n.state.durable)
  by_status (Down after) (Tells t) = adds_none w _ n.pid refl
  by_status (Failed count after) (Steps x) = adds_none w _ n.pid refl
  by_status (Failed count after) Stops = adds_none w _ n.pid refl
  by_status (Failed count after) Opens = reopening h.fate after (cond h.finds_after after n.state.durable)
  by_status (Failed count after) (Tells t) = adds_none w _ n.pid refl

begins : (w : World) (d : Doing) (f : Fate) (q : ℕ) → AddsAsks w (world_beginning d f q w) q
begins w (Steps x) f q = adds_none w _ q refl
begins w Stops f q = adds_none w _ q refl
begins w Opens Done q = adds_none w _ q refl
begins w Opens Stopped q = adds_none w _ q refl
begins w Opens (Faulted count) q = adds_none w _ q refl
begins w (Tells t) f q = adds_none w _ q refl

each_all : (nodes : List Node) → Each (λ n. Unit {0}) nodes
each_all [] = tt
each_all (n ∷ nodes) = (tt, each_all nodes)

-- whatever is done at an id that no node has
pub observed_adds : (w : World) (x : Deed) (h : Happening) → AddsAsks w (world_observed (Some x) h w) x.pid
observed_adds w x h = by (node_at w.observers x.pid) (found (λ n. Unit {0}) w.observers (each_all w.observers) x.pid)
  where
    by : (o : Option Node) → IfThere (λ n. Unit {0}) x.pid o → AddsAsks w (world_at_observer o x h w) x.pid
    by None k = begins w x.doing h.fate x.pid
    by (Some n) k = subst (AddsAsks w (world_by_status_as Observes n.status x.doing h w n)) k.0 (by_status w h n n.status x.doing)

-- no node has this id
pub none_apart : (nodes : List Node) (q : ℕ) → node_at nodes q ≡ None → Each (λ j. j.pid ≡ q → ⊥) nodes
none_apart [] q e = tt
none_apart (n ∷ nodes) q e = by (eqb n.pid q) refl (none_apart nodes q)
  where
    some_none : (m : Node) → Some m ≡ None → ⊥
    some_none m z = cc

    by : (b : Bool) → eqb n.pid q ≡ b → (node_at nodes q ≡ None → Each (λ j. j.pid ≡ q → ⊥) nodes) → Each (λ j. j.pid ≡ q → ⊥) (n ∷ nodes)
    by true h rest = absurd (some_none n (sym (ap (λ (c : Bool). cond c (Some n) (node_at nodes q)) h) ∙ e))
    by false h rest = (
      λ s. Rattle.std.proofs.lemmas.Bool.both_ways (eqb n.pid q) h (eq-eqb n.pid q s),
      rest (sym (ap (λ (c : Bool). cond c (Some n) (node_at nodes q)) h) ∙ e),
    )

-- ---- in the pure machine

module _ (first : List ℕ) (ks : List worlds.Happening) (q : ℕ) (running : ((world_of first ks).servers q).life ≡ Running) (xs : List (ℕ × ℕ)) where
  -- letters that have no effect, of this server
  abbrev pub notes_late : worlds.Happening
  notes_late = At server.Done q (server.Notes xs)

  pub notes_to : GoesTo first ks (notes_late ∷ []) q (record { state = state_of first ks q; life = Running }) (notes q xs)
  unfolding server.step
  notes_to = done_goes first ks q running (Some (server.Notes xs)) tt

  state_same : ((happens (world_of first ks) notes_late).servers q).state ≡ state_of first ks q
  unfolding server.step
  state_same = ap (λ (w : worlds.World). (w.servers q).state) (event_world first ks q running server.Done (server.Notes xs) tt) ∙ ap (λ (sv : Server). sv.state) (upd_at (world_of first ks).servers q (record { state = state_of first ks q; life = Running }))

  -- its machine stays the same
  pub notes_same : machine_of first (ks ++ notes_late ∷ []) ≡ machine_of first ks
  unfolding machine_of machine_after machine_with
  notes_same =
      machine_append ks (notes_late ∷ []) (start first) (first_machine first)
      ∙ ap (λ (st : server.State). worlds.machine_showing (machine_of first ks) q st) state_same
      ∙ same_path _ _ (shows_again first ks q)
