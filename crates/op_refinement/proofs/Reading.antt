-- A run that proposes fewer than 2^64 entries, each of them fit, has lists of which every front is read back.
use Rattle.std.proofs.Common.{◌≡◌, ◌⊎◌, inl, inr, ⊎_elim, ℕ, zero, suc, eqb, List, [], ◌∷◌, ◌++◌, fold, Option, Some, None, refl, subst}
use Rattle.std.specs.List.{AllByRecursion}
use Rattle.std.proofs.lemmas.Bool.{cond_both}
use Rattle.op_types.specs.declared.log.Entry.{Entry}
use Rattle.op_spec.specs.Machine.{Machine, IsAmong, first_machine}
use Rattle.op_spec.specs.Ledger.{machine_proposing}
use Rattle.op_spec.specs.Service.{service_of}
use Rattle.op_spec.specs.Stands.{lists_through}
use Rattle.op_spec.proofs.Safety.{IsAmong-append}
use Rattle.op_paxos.proofs.Membership.{in_append, in_right}
use Rattle.op_configurations.specs.Servers as server
use Rattle.op_configurations.specs.Servers.{Part, Event, Fate}
use Rattle.op_configurations.specs.Worlds as worlds
use Rattle.op_configurations.specs.Worlds.{World, Life, Running, Server, Happening, start, happens, actor, proposed_in, proposed_at, proposed_by, shown_by, machine_with, machine_after, machine_of}
use Rattle.op_configurations.proofs.Standing.{safe}
use Rattle.op_protocol.proofs.Bases.{service_is_read}
use Rattle.op_refinement.proofs.View.{Each}
use Rattle.op_refinement.proofs.Worlds.{lists_of}
use Rattle.op_refinement.proofs.Proposed.{event_proposal, proposal, proposals}
use Rattle.op_refinement.proofs.Happening.{IsFine, FineRuns}
use Rattle.op_refinement.proofs.Services.{IsFit, service_has_base}

-- ---- what is in the machine was proposed

-- e was proposed in this machine, or is one of these
abbrev Was : Machine → List Entry → Entry → Type 0
Was m xs e = ((c : ℕ) × IsAmong (m.proposed c) e) ⊎ IsAmong xs e

entry_was : (m : Machine) (conf : ℕ) (e x : Entry) (c : ℕ) → IsAmong ((machine_proposing m conf e).proposed c) x → Was m (e ∷ []) x
entry_was m conf e x c i =
    cond_both (eqb c conf) (m.proposed conf ++ e ∷ []) (m.proposed c) (λ (l : List Entry). IsAmong l x → Was m (e ∷ []) x)
    (λ _ j. ⊎_elim (λ k. inl (conf, k)) (λ k. inr k) (in_append x (m.proposed conf) (e ∷ []) j)) (λ _ j. inl (c, j)) i

entries_were : (m : Machine) (conf : ℕ) (es : List Entry) (x : Entry) (c : ℕ) → IsAmong ((fold (λ (n : Machine) (e : Entry). machine_proposing n conf e) m es).proposed c) x → Was m es x
entries_were m conf [] x c i = inl (c, i)
entries_were m conf (e ∷ es) x c i =
    ⊎_elim (λ j. ⊎_elim (λ k. inl k) (λ k. inr (IsAmong-append (e ∷ []) es x k)) (entry_was m conf e x j.0 j.1)) (λ j. inr (inr j)) (entries_were (machine_proposing m conf e) conf es x c i)

part_was : (m : Machine) (o : Option Part) (es : List Entry) (x : Entry) (c : ℕ) → IsAmong ((proposed_in m o es).proposed c) x → Was m es x
part_was m None es x c i = inl (c, i)
part_was m (Some pt) es x c i = entries_were m pt.conf es x c i

proposing_was : (m : Machine) (sv : Server) (p : ℕ) (es : List Entry) (x : Entry) (l : Life) (c : ℕ) → IsAmong ((proposed_at m sv p (server.Proposes es) l).proposed c) x → Was m es x
proposing_was m sv p es x Running c i =
    cond_both (server.may_propose p sv.state (sv.state).part es) (proposed_in m (sv.state).part es) m (λ (n : Machine). IsAmong (n.proposed c) x → Was m es x)
    (λ _ j. part_was m (sv.state).part es x c j) (λ _ j. inl (c, j)) i
proposing_was m sv p es x (worlds.Down o) c i = inl (c, i)

event_was : (m : Machine) (sv : Server) (p : ℕ) (e : Event) (l : Life) (x : Entry) (c : ℕ) → IsAmong ((proposed_at m sv p e l).proposed c) x → Was m (event_proposal e) x
event_was m sv p (server.Proposes e) l x c i = proposing_was m sv p e x l c i
event_was m sv p (server.Ticks o) l x c i = inl (c, i)
event_was m sv p (server.TicksAlone heard) l x c i = inl (c, i)
event_was m sv p server.Trims l x c i = inl (c, i)
event_was m sv p (server.Links q) l x c i = inl (c, i)
event_was m sv p (server.Unlinks q) l x c i = inl (c, i)
event_was m sv p (server.Notes xs) l x c i = inl (c, i)
event_was m sv p (server.Reads n y) l x c i = inl (c, i)
event_was m sv p (server.ReadsLong n total y) l x c i = inl (c, i)

happening_was : (m : Machine) (w : World) (h : Happening) (x : Entry) (c : ℕ) → IsAmong ((proposed_by m w h).proposed c) x → Was m (proposal h) x
happening_was m w (worlds.At f p e) x c i = event_was m (w.servers p) p e (w.servers p).life x c i
happening_was m w (worlds.Delivers f n) x c i = inl (c, i)
happening_was m w (worlds.DeliversLong f n total) x c i = inl (c, i)
happening_was m w (worlds.Stops p) x c i = inl (c, i)
happening_was m w (worlds.Opens p after) x c i = inl (c, i)

-- what a server shows proposes nothing
shown_same : (m : Machine) (w : World) (o : Option ℕ) → (shown_by m w o).proposed ≡ m.proposed
shown_same m w None = refl
shown_same m w (Some p) = refl

after_was : (ks : List Happening) (w : World) (m : Machine) (x : Entry) (c : ℕ) → IsAmong ((machine_after ks w m).proposed c) x → Was m (proposals ks) x
unfolding machine_after machine_with
after_was [] w m x c i = inl (c, i)
after_was (h ∷ ks) w m x c i = ⊎_elim before (λ j. inr (in_right x (proposal h) (proposals ks) j)) (after_was ks (happens w h) (machine_with m w h) x c i)
  where
    before : ((b : ℕ) × IsAmong ((machine_with m w h).proposed b) x) → Was m (proposal h ++ proposals ks) x
    before j =
        ⊎_elim (λ k. inl k) (λ k. inr (IsAmong-append (proposal h) (proposals ks) x k))
        (happening_was m w h x j.0 (subst (λ (f : ℕ → List Entry). IsAmong (f j.0) x) (shown_same (proposed_by m w h) (happens w h) (actor w h)) j.1))

-- ---- a run

module _ (first : List ℕ) (ks : List Happening) where
  run_was : (x : Entry) (c : ℕ) → IsAmong ((machine_of first ks).proposed c) x → IsAmong (proposals ks) x
  unfolding machine_of
  run_was x c i = ⊎_elim (λ j. absurd j.1) (λ j. j) (after_was ks (start first) (first_machine first) x c i)

  -- each entry of all lists was proposed
  through_was : (c : ℕ) (x : Entry) → IsAmong (lists_through (lists_of first ks) c) x → IsAmong (proposals ks) x
  through_was zero x i = absurd i
  through_was (suc c) x i =
      ⊎_elim (λ j. through_was c x j) (λ j. run_was x (suc c) ((safe first ks).proposed (suc c) x j)) (in_append x (lists_through (lists_of first ks) c) (lists_of first ks (suc c)) i)

-- what holds of each holds of whatever is among them
among_each : (P : Entry → Type 0) (xs : List Entry) → Each P xs → (x : Entry) → IsAmong xs x → P x
among_each P [] k x i = absurd i
among_each P (y ∷ xs) k x (inl e) = subst P e k.0
among_each P (y ∷ xs) k x (inr i) = among_each P xs k.1 x i

-- what is proposed is fit
event_fit : (f : Fate) (p : ℕ) (e : Event) → IsFine IsFit (worlds.At f p e) → (x : Entry) → IsAmong (event_proposal e) x → IsFit x
event_fit f p (server.Proposes es) k x i = among_each IsFit es k x i
event_fit f p (server.Ticks o) k x i = absurd i
event_fit f p (server.TicksAlone heard) k x i = absurd i
event_fit f p server.Trims k x i = absurd i
event_fit f p (server.Links q) k x i = absurd i
event_fit f p (server.Unlinks q) k x i = absurd i
event_fit f p (server.Notes xs) k x i = absurd i
event_fit f p (server.Reads n m) k x i = absurd i
event_fit f p (server.ReadsLong n total m) k x i = absurd i

one_fit : (h : Happening) → IsFine IsFit h → (x : Entry) → IsAmong (proposal h) x → IsFit x
one_fit (worlds.At f p e) k x i = event_fit f p e k x i
one_fit (worlds.Delivers f n) k x i = absurd i
one_fit (worlds.DeliversLong f n total) k x i = absurd i
one_fit (worlds.Stops p) k x i = absurd i
one_fit (worlds.Opens p after) k x i = absurd i

all_fit : (ks : List Happening) → Each (IsFine IsFit) ks → (x : Entry) → IsAmong (proposals ks) x → IsFit x
all_fit [] k x i = absurd i
all_fit (h ∷ ks) k x i = ⊎_elim (λ j. one_fit h k.0 x j) (λ j. all_fit ks k.1 x j) (in_append x (proposal h) (proposals ks) i)

-- what holds of whatever is among them holds of each
each_among : (P : Entry → Type 0) (xs : List Entry) → ((x : Entry) → IsAmong xs x → P x) → AllByRecursion P xs
each_among P [] f = tt
each_among P (x ∷ xs) f = (f x (inl refl), each_among P xs (λ y i. f y (inr i)))

-- every front of all lists is read back
pub fit_runs : FineRuns IsFit
fit_runs first ks fine short conf entries p =
    let among : (x : Entry) → IsAmong entries x → IsAmong (proposals ks) x =
    λ x i. through_was first ks conf x (subst (λ (l : List Entry). IsAmong l x) p.1 (IsAmong-append entries p.0 x i)) in
    service_is_read (service_of entries)
    (service_has_base (proposals ks) entries (each_among (λ e. IsFit e × IsAmong (proposals ks) e) entries (λ x i. (all_fit ks fine x (among x i), among x i)))
    short)
