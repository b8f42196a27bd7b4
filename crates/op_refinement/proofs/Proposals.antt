-- What a step proposes is what the happening beside it proposes.
use Rattle.std.proofs.Common.{◌≡◌, ℕ, Bool, true, false, cond, not, ◌&&◌, is_some, List, [], ◌∷◌, fold, Option, Some, None, refl, sym, ap, ◌∙◌, subst}
use Rattle.op_types.specs.declared.durable.Part.{Part as StoredPart}
use Rattle.op_types.specs.declared.durable.Joining.{Joining as StoredJoining}
use Rattle.op_types.specs.declared.answers.Refusal.{Refusal}
use Rattle.op_types.specs.declared.events.Input.{Input}
use Rattle.op_types.specs.declared.events.Input.TheVariants as input
use Rattle.op_types.specs.declared.log.Entry.{Entry}
use Rattle.op_types.specs.declared.log.Entry.TheVariants as entry
use Rattle.op_types.specs.declared.messages.Heard.{Heard}
use Rattle.op_spec.specs.Machine.{Machine}
use Rattle.op_spec.specs.Ledger.{machine_proposing}
use Rattle.op_protocol.specs.State as table
use Rattle.op_protocol.specs.Heartbeats.{has_replied}
use Rattle.op_protocol.specs.Rows.{refusal_of, stop_for, entries_of}
use Rattle.op_runs.specs.Run.{machine_proposing_in, machine_proposing_entries, machine_proposing_input}
use Rattle.op_configurations.specs.Servers as server
use Rattle.op_configurations.specs.Servers.{Part, Joining, State, Letter, Fate, Done, Stopped, Event}
use Rattle.op_configurations.specs.Worlds as worlds
use Rattle.op_configurations.specs.Worlds.{Life, Running, World, Happening, proposed_in, proposed_by}
use Rattle.op_configurations.specs.Stored.{HoldsIfJoining}
use Rattle.op_refinement.proofs.Pure as pure
use Rattle.op_refinement.proofs.PartRows.{commands_end}
use Rattle.op_refinement.proofs.Relation.{PartRel, all_before, IfPartRel}
use Rattle.op_refinement.proofs.Proposing.{unrefused, may_propose}
use Rattle.op_protocol.specs.Reading.{leading_at}
use Rattle.op_protocol.proofs.Asked.{takes_read}
use Rattle.op_refinement.proofs.Inputs.{NodeFacts, event_of, ballot_at, asks_some_at, tick_event, is_past, long_in, read_as, proposal_event, known_there}
use Rattle.op_refinement.proofs.Worlds.{world_of, state_of}
use Rattle.op_refinement.proofs.PureMoves.{late_of}
use Rattle.op_protocol.specs.Watched.{is_watching, watch_answers}
use Rattle.op_refinement.proofs.Inputs.{noted}

some_none : {A : Type 0} (a : A) → Some a ≡ None → ⊥
some_none a e = cc

ticks_differ : (o : Option ℕ) (p : List Entry) → server.Ticks o ≡ server.Proposes p → ⊥
ticks_differ o p e = cc

alone_differs : (heard : ℕ → Bool) (p : List Entry) → server.TicksAlone heard ≡ server.Proposes p → ⊥
alone_differs heard p e = cc

tick_differs : (b : Bool) (o : Option ℕ) (heard : List Heard) (p : List Entry) → tick_event b o heard ≡ server.Proposes p → ⊥
tick_differs true o heard p = alone_differs (has_replied heard) p
tick_differs false o heard p = ticks_differ o p

-- what the first of these happenings proposes
abbrev pub proposed_first : Machine → World → List Happening → Machine
proposed_first m w [] = m
proposed_first m w (h ∷ hs) = proposed_by m w h

-- a node without a part refuses what is proposed
pub partless_refuses : (me : ℕ) (s : table.State) (e : List Entry) → s.durable.part ≡ None → refusal_of me s.volatile.role s.durable e ≡ None → ⊥
partless_refuses me s e has h = by s.durable.closed (subst (λ (o : Option StoredPart). Rattle.op_protocol.specs.Rows.refusal_after me s.volatile.role (record (s.durable) { part = o }) e (Rattle.op_protocol.specs.Rows.pending_at o s.durable.closed) ≡ None) has h)
  where
    by : (o : Option _) → Rattle.op_protocol.specs.Rows.refusal_after me s.volatile.role (record (s.durable) { part = None }) e (Rattle.op_protocol.specs.Rows.pending_at None o) ≡ None → ⊥
    by None k = some_none _ k
    by (Some l) k = some_none _ k

-- the part of a server, with what is known of it
module _ (lists : ℕ → List Entry) (soup : List Letter) (me : ℕ) (s : table.State) (st : State) (k : NodeFacts lists soup me s st) (e : List Entry) (ends : pure.stops_early e ≡ false) (h : refusal_of me s.volatile.role s.durable e ≡ None) where
  -- the server takes a proposal that the node doesn't refuse, for the same configuration
  pub record Taken : Type 0 where
    pub may : server.may_propose me st st.part e ≡ true
    pub same : (m : Machine) → machine_proposing_in m e s.durable.part None ≡ proposed_in m st.part e

  pub joins_nothing : s.durable.joining ≡ None → st.joining ≡ None
  joins_nothing no_one = by s.durable.joining st.joining (k.rel).joining no_one refl ∙ refl
    where
      by : (d : Option StoredJoining) (j : Option Joining) → HoldsIfJoining lists d j → d ≡ None → st.joining ≡ j → st.joining ≡ None
      by None None x y z = z
      by None (Some j) x y z = absurd x
      by (Some d) j x y z = absurd (some_none d y)

  taken_at : (p : StoredPart) (pt : Part) → s.durable.part ≡ Some p → st.part ≡ Some pt → PartRel (all_before lists pt.conf) p s.volatile pt → Taken
  taken_at p pt hs ht r =
      let u = unrefused me s.volatile.role s.durable e h p hs in
      let kn = known_there lists soup me server.Done s st k p pt hs ht r in
      let ok : server.may_propose_in me pt.node e ≡ true = ap (λ (x : pure.Node). server.may_propose_in me x e) (sym r.seen) ∙ may_propose _ me r.front p s.volatile e kn ends u.0 in
      record {
        may = ap (λ (o : Option Part). server.may_propose me st o e) ht ∙ ap (λ (j : Option Joining). not (is_some j) && server.may_propose_in me pt.node e) (joins_nothing u.1) ∙ ok;
        same = λ m. ap (λ (o : Option StoredPart). machine_proposing_in m e o None) hs ∙ ap (λ (c : ℕ). fold (λ (x : Machine) (y : Entry). machine_proposing x c y) m e) r.conf ∙ ap (λ (o : Option Part). proposed_in m o e) (sym ht);
      }

  pub taken : Taken
  taken = by s.durable.part refl st.part refl (k.rel).part
    where
      by : (d : Option StoredPart) → s.durable.part ≡ d → (o : Option Part) → st.part ≡ o → IfPartRel lists d s.volatile o → Taken
      by None hs o ht r = absurd (partless_refuses me s e hs h)
      by (Some p) hs None ht r = absurd r
      by (Some p) hs (Some pt) ht r = taken_at p pt hs ht r

module _ (lists : ℕ → List Entry) (first : List ℕ) (ks : List Happening) (me : ℕ) (s : table.State) (running : ((world_of first ks).servers me).life ≡ Running) (k : NodeFacts lists (world_of first ks).soup me s (state_of first ks me)) (m : Machine) (f : Fate) where
  abbrev w : World
  w = world_of first ks

  refused_in : (e : List Entry) (o : Option StoredPart) (r : Refusal) → machine_proposing_in m e o (Some r) ≡ m
  refused_in e None r = refl
  refused_in e (Some p) r = refl

  none_late : (g : Fate) → m ≡ proposed_first m w (late_of first ks me running g None)
  none_late Done = refl
  none_late Stopped = refl

  proposes_late : (g : Fate) (e : List Entry) → server.may_propose me (state_of first ks me) (state_of first ks me).part e ≡ true → proposed_in m (state_of first ks me).part e ≡ proposed_first m w (late_of first ks me running g (Some (server.Proposes e)))
  proposes_late Done e may = sym (ap (λ (l : Life). worlds.proposed_at m (w.servers me) me (server.Proposes e) l) running ∙ ap (λ (b : Bool). cond b (proposed_in m (state_of first ks me).part e) m) may)
  proposes_late Stopped e may = sym (ap (λ (l : Life). worlds.proposed_at m (w.servers me) me (server.Proposes e) l) running ∙ ap (λ (b : Bool). cond b (proposed_in m (state_of first ks me).part e) m) may)

  entry_late : (e : List Entry) → pure.stops_early e ≡ false → (r : Option Refusal) → refusal_of me s.volatile.role s.durable e ≡ r → machine_proposing_entries m me s e ≡ proposed_first m w (late_of first ks me running f (proposal_event e r))
  entry_late e ends (Some r) h = ap (machine_proposing_in m e s.durable.part) h ∙ refused_in e s.durable.part r ∙ none_late f
  entry_late e ends None h =
      let t = taken lists w.soup me s (state_of first ks me) k e ends h in
      ap (machine_proposing_in m e s.durable.part) h ∙ t.same m ∙ proposes_late f e t.may

  deliver_late : (g : Fate) (n : ℕ) (x : Letter) (b : Bool) (t : Option ℕ) → m ≡ proposed_first m w (late_of first ks me running g (cond b None (Some (read_as n x t))))
  deliver_late Done n x true t = refl
  deliver_late Done n x false None = refl
  deliver_late Done n x false (Some total) = refl
  deliver_late Stopped n x true t = refl
  deliver_late Stopped n x false None = refl
  deliver_late Stopped n x false (Some total) = refl

  message_late : (g : Fate) (n : ℕ) (x : Letter) (xs : List (ℕ × ℕ)) (a b : Bool) (t : Option ℕ) → m ≡ proposed_first m w (late_of first ks me running g (cond a (Some (server.Notes xs)) (cond b None (Some (read_as n x t)))))
  message_late g n x xs false b t = deliver_late g n x b t
  message_late Done n x xs true b t = refl
  message_late Stopped n x xs true b t = refl

  asking_late : (g : Fate) (b : Bool) → m ≡ proposed_first m w (late_of first ks me running g (cond b (Some (server.Ticks None)) None))
  asking_late Done true = refl
  asking_late Done false = refl
  asking_late Stopped true = refl
  asking_late Stopped false = refl

  plain_late : (g : Fate) (e : Event) → ((p : List Entry) → e ≡ server.Proposes p → ⊥) → m ≡ proposed_first m w (late_of first ks me running g (Some e))
  plain_late Done (server.Proposes p) d = absurd (d p refl)
  plain_late Stopped (server.Proposes p) d = absurd (d p refl)
  plain_late Done (server.Ticks o) d = refl
  plain_late Stopped (server.Ticks o) d = refl
  plain_late Done (server.TicksAlone heard) d = refl
  plain_late Stopped (server.TicksAlone heard) d = refl
  plain_late Done server.Trims d = refl
  plain_late Stopped server.Trims d = refl
  plain_late Done (server.Links q) d = refl
  plain_late Stopped (server.Links q) d = refl
  plain_late Done (server.Unlinks q) d = refl
  plain_late Stopped (server.Unlinks q) d = refl
  plain_late Done (server.Notes xs) d = refl
  plain_late Stopped (server.Notes xs) d = refl
  plain_late Done (server.Reads n x) d = refl
  plain_late Stopped (server.Reads n x) d = refl
  plain_late Done (server.ReadsLong n total x) d = refl
  plain_late Stopped (server.ReadsLong n total x) d = refl

  -- the same is proposed
  pub proposals_late : (x : Input) (n : ℕ) (l : Letter) → machine_proposing_input m me s x ≡ proposed_first m w (late_of first ks me running f (event_of me s n l x))
  proposals_late input.Tick n l =
      let b : Bool = asks_some_at me s.durable.part s.durable.joining s.volatile in
      let o : Option ℕ = ballot_at me s.durable.part s.durable.joining s.volatile in
      plain_late f (tick_event b o s.volatile.heard) (λ p e. tick_differs b o s.volatile.heard p e)
  proposals_late (input.Deliver q msg) n l =
      message_late f n l (noted (watch_answers s.durable q msg.conf msg.body)) (is_watching msg.body) (is_past s.durable.part s.durable.joining msg) (long_in s.durable msg)
  proposals_late (input.Commands cs) n l = entry_late (entries_of cs) (commands_end cs) (refusal_of me s.volatile.role s.durable (entries_of cs)) refl
  proposals_late (input.Stop members) n l = entry_late (entry.Stop (stop_for s.durable.part members) ∷ []) refl (refusal_of me s.volatile.role s.durable (entry.Stop (stop_for s.durable.part members) ∷ [])) refl
  proposals_late input.TrimNow n l = plain_late f server.Trims (λ p e. differ p e)
    where
      differ : (p : List Entry) → server.Trims ≡ server.Proposes p → ⊥
      differ p e = cc
  proposals_late (input.Read r) n l = asking_late f (takes_read me (leading_at s) s.reads)
  proposals_late (input.Up q) n l = plain_late f (server.Links q) (λ p e. differ p e)
    where
      differ : (p : List Entry) → server.Links q ≡ server.Proposes p → ⊥
      differ p e = cc
  proposals_late (input.Down q) n l = plain_late f (server.Unlinks q) (λ p e. differ p e)
    where
      differ : (p : List Entry) → server.Unlinks q ≡ server.Proposes p → ⊥
      differ p e = cc
