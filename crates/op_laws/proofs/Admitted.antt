-- No message that a run sends to fill a log is past the limits: a receiver takes each.
use Rattle.std.proofs.Common.{◌≡◌, ◌≤◌, inl, inr, ⊎_elim, ℕ, ◌+◌, ◌==◌, ◌&&◌, Bool, true, false, cond, not, is_some, fold, List, [], ◌∷◌, ◌++◌, length, Option, Some, None, refl, sym, ap, ◌∙◌, subst, slice_get}
use Rattle.std.specs.Prelude.{nat_le}
use Rattle.std.proofs.lemmas.Bool.{eqb-true, le-leb, false≢true}
use Rattle.op_types.specs.Limits.{positions_end, last_conf}
use Rattle.op_types.specs.Stops.{stop_of}
use Rattle.op_types.specs.Changes.{len_of}
use Rattle.op_types.specs.Roles.{Role}
use Rattle.op_types.specs.declared.answers.Refusal.{Refusal}
use Rattle.op_types.specs.declared.answers.Refusal.TheVariants as refusal
use Rattle.op_types.specs.declared.durable.Part.{Part}
use Rattle.op_types.specs.declared.durable.Joining.{Joining}
use Rattle.op_types.specs.declared.durable.Durable.{Durable}
use Rattle.op_types.specs.declared.events.Input.{Input}
use Rattle.op_types.specs.declared.events.Input.TheVariants as input
use Rattle.op_types.specs.declared.log.Entry.{Entry}
use Rattle.op_types.specs.declared.log.Entry.TheVariants as entry
use Rattle.op_types.specs.declared.messages.Body.{Body}
use Rattle.op_types.specs.declared.messages.Body.TheVariants as body
use Rattle.op_spec.specs.Machine.{Machine, IsAmong}
use Rattle.op_spec.specs.Ledger.{machine_showing, machine_proposing}
use Rattle.op_protocol.specs.State.{State}
use Rattle.op_protocol.specs.Parts.{has_stop, is_admitted, is_admitted_body}
use Rattle.op_protocol.specs.Rows.{knows_no_leader, part_refusal, pending_at, refusal_after, refusal_of, stop_for, entries_of}
use Rattle.op_runs.specs.World.{Node, NodeStatus, Up, Down, Failed, Sent, Happening, Doing, Steps, Stops, Opens, Tells, Deed, deed_of, node_at, world_after}
use Rattle.op_runs.specs.Run.{Execution, first_execution, execution_with, execution_of, machine_showing_all, machine_proposing_in, machine_proposing_entries, machine_proposing_input, machine_proposing_doing, machine_proposing_if, machine_proposing_at, machine_proposing_by}
use Rattle.op_paxos.specs.Messages.{packet}
use Rattle.op_paxos.proofs.Updates.{upd_both}
use Rattle.op_paxos.proofs.Membership.{in_append, in_from_get}
use Rattle.op_paxos.proofs.Validity.{MsgV}
use Rattle.op_paxos.proofs.Carried.{MsgEnds}
use Rattle.op_configurations.specs.Servers as server
use Rattle.op_configurations.specs.Servers.{Letter}
use Rattle.op_configurations.specs.Worlds as worlds
use Rattle.op_configurations.specs.Worlds.{inner_of, place_in, machine_of}
use Rattle.op_configurations.proofs.Inside.{inner_place}
use Rattle.op_configurations.proofs.Carried.{carried}
use Rattle.op_refinement.proofs.Pure as pure
use Rattle.op_refinement.proofs.View.{view_body}
use Rattle.op_refinement.proofs.Letters.{IfLetter, letter_at}
use Rattle.op_refinement.proofs.Worlds.{lists_of, world_of}
use Rattle.op_refinement.proofs.Beside.{IsBeside}
use Rattle.op_laws.proofs.Sendings.{said_is, IsExchanged}

some_none : {A : Type 0} (a : A) → Some a ≡ None → ⊥
some_none a e = cc

-- ---- no stop-sign is proposed in the last configuration

abbrev pub NoStops : Machine → Type 0
NoStops m = (e : Entry) → IsAmong (m.proposed last_conf) e → is_some (stop_of e) ≡ false

stop_free : (es : List Entry) → has_stop es ≡ false → (e : Entry) → IsAmong es e → is_some (stop_of e) ≡ false
stop_free [] h e i = absurd i
stop_free (d ∷ es) h e i = by (λ k j. stop_free es k e j) (is_some (stop_of d)) refl
  where
    by : (has_stop es ≡ false → IsAmong es e → is_some (stop_of e) ≡ false) → (b : Bool) → is_some (stop_of d) ≡ b → is_some (stop_of e) ≡ false
    by rest true s = absurd (false≢true (sym h ∙ ap (λ (b : Bool). cond b true (has_stop es)) s))
    by rest false s = ⊎_elim (λ (z : d ≡ e). ap (λ (y : Entry). is_some (stop_of y)) (sym z) ∙ s) (λ (z : IsAmong es e). rest (sym (ap (λ (b : Bool). cond b true (has_stop es)) s) ∙ h) z) i

free_stop : (es : List Entry) → ((e : Entry) → IsAmong es e → is_some (stop_of e) ≡ false) → has_stop es ≡ false
free_stop [] f = refl
free_stop (d ∷ es) f = ap (λ (b : Bool). cond b true (has_stop es)) (f d (inl refl)) ∙ free_stop es (λ e i. f e (inr i))

pub showing_all : (m : Machine) (nodes : List Node) → (machine_showing_all m nodes).proposed ≡ m.proposed
showing_all m [] = refl
showing_all m (n ∷ nodes) = showing_all (machine_showing m n.pid n.state.durable) nodes

-- each of these is proposed in its configuration
proposing_each : (c : ℕ) (es : List Entry) (m : Machine) → NoStops m → (c ≡ last_conf → (e : Entry) → IsAmong es e → is_some (stop_of e) ≡ false) → NoStops (fold (λ x e. machine_proposing x c e) m es)
proposing_each c [] m h f = h
proposing_each c (d ∷ es) m h f =
    proposing_each c es (machine_proposing m c d)
    (λ e i. upd_both (λ (l : List Entry). IsAmong l e → is_some (stop_of e) ≡ false) m.proposed c last_conf (m.proposed c ++ d ∷ [])
    (λ s j. ⊎_elim (λ (z : IsAmong (m.proposed c) e). h e (subst (λ (q : ℕ). IsAmong (m.proposed q) e) (sym s) z)) (λ (z : IsAmong (d ∷ []) e). f (sym s) e (⊎_elim (λ (y : d ≡ e). inl y) (λ (y : ⊥). absurd y) z)) (in_append e (m.proposed c) (d ∷ []) j))
    (λ n j. h e j) i)
    (λ s e i. f s e (inr i))

-- what nothing refuses is admitted
admitted_of : (me : ℕ) (r : Role) (d : Durable) (es : List Entry) (p : Part) → d.part ≡ Some p → refusal_of me r d es ≡ None → is_admitted p (len_of p) es ≡ true
admitted_of me r d es p has h = of_pending (pending_at d.part d.closed) (of_part (pending_at d.part d.closed) h)
  where
    of_part : (o : Option ℕ) → refusal_after me r d es o ≡ None → (o ≡ None) × (part_refusal me r (Some p) d.joining es ≡ None)
    of_part (Some pos) k = absurd (some_none (refusal.PendingStop pos) k)
    of_part None k = (refl, ap (λ (o : Option Part). part_refusal me r o d.joining es) (sym has) ∙ k)

    of_open : (b c : Bool) → cond b (Some refusal.NoLeader) (cond c None (Some refusal.PositionsEnd)) ≡ None → c ≡ true
    of_open true c k = absurd (some_none refusal.NoLeader k)
    of_open false true k = refl
    of_open false false k = absurd (some_none refusal.PositionsEnd k)

    of_joining : (j : Option Joining) → part_refusal me r (Some p) j es ≡ None → is_admitted p (len_of p) es ≡ true
    of_joining None k = of_open (knows_no_leader me r p) (is_admitted p (len_of p) es) k
    of_joining (Some j) k = absurd (some_none refusal.NoLeader k)

    of_pending : (o : Option ℕ) → (o ≡ None) × (part_refusal me r (Some p) d.joining es ≡ None) → is_admitted p (len_of p) es ≡ true
    of_pending o k = of_joining d.joining k.1

-- what is admitted in the last configuration has no stop-sign
no_stop_in : (p : Part) (at : ℕ) (es : List Entry) → is_admitted p at es ≡ true → p.conf ≡ last_conf → has_stop es ≡ false
no_stop_in p at es h last = by (nat_le (at + length es) positions_end) (p.conf == last_conf) (has_stop es) (Rattle.std.proofs.lemmas.Bool.eq-eqb p.conf last_conf last) h
  where
    by : (a b c : Bool) → b ≡ true → (a && not (b && c)) ≡ true → c ≡ false
    by true true true s k = absurd (false≢true k)
    by true true false s k = refl
    by true false c s k = absurd (false≢true s)
    by false b c s k = absurd (false≢true k)

module _ (m : Machine) (h : NoStops m) where
  of_entries : (me : ℕ) (s : State) (es : List Entry) → NoStops (machine_proposing_entries m me s es)
  of_entries me s es = by s.durable.part refl (refusal_of me s.volatile.role s.durable es) refl
    where
      by : (o : Option Part) → s.durable.part ≡ o → (r : Option Refusal) → refusal_of me s.volatile.role s.durable es ≡ r → NoStops (machine_proposing_in m es s.durable.part (refusal_of me s.volatile.role s.durable es))
      by None hp r hr = subst (λ (o : Option Part). NoStops (machine_proposing_in m es o (refusal_of me s.volatile.role s.durable es))) (sym hp) h
      by (Some p) hp (Some r) hr = subst (λ (o : Option Part). NoStops (machine_proposing_in m es o (refusal_of me s.volatile.role s.durable es))) (sym hp) (subst (λ (o : Option Refusal). NoStops (machine_proposing_in m es (Some p) o)) (sym hr) h)
      by (Some p) hp None hr =
          subst (λ (o : Option Part). NoStops (machine_proposing_in m es o (refusal_of me s.volatile.role s.durable es))) (sym hp) (subst (λ (o : Option Refusal). NoStops (machine_proposing_in m es (Some p) o)) (sym hr)
          (proposing_each p.conf es m h (λ last. stop_free es (no_stop_in p (len_of p) es (admitted_of me s.volatile.role s.durable es p hp hr) last))))

  of_input : (me : ℕ) (s : State) (x : Input) → NoStops (machine_proposing_input m me s x)
  of_input me s (input.Commands cs) = of_entries me s (entries_of cs)
  of_input me s (input.Stop members) = of_entries me s (entry.Stop (stop_for s.durable.part members) ∷ [])
  of_input me s input.Tick = h
  of_input me s (input.Deliver q msg) = h
  of_input me s input.TrimNow = h
  of_input me s (input.Read r) = h
  of_input me s (input.Up q) = h
  of_input me s (input.Down q) = h

  of_doing : (me : ℕ) (s : State) (d : Doing) → NoStops (machine_proposing_doing m me s d)
  of_doing me s (Steps x) = of_input me s x
  of_doing me s Stops = h
  of_doing me s Opens = h
  of_doing me s (Tells y) = h

  of_status : (z : NodeStatus) (me : ℕ) (s : State) (d : Doing) → NoStops (machine_proposing_if z m me s d)
  of_status Up me s d = of_doing me s d
  of_status (Down after) me s d = h
  of_status (Failed count after) me s d = h

  of_node : (o : Option Node) (d : Doing) → NoStops (machine_proposing_at m o d)
  of_node None d = h
  of_node (Some n) d = of_status n.status n.pid n.state d

  of_deed : (nodes : List Node) (o : Option Deed) → NoStops (machine_proposing_by m nodes o)
  of_deed nodes None = h
  of_deed nodes (Some x) = of_node (node_at nodes x.pid) x.doing

no_stops_on : (t : Execution) (hs : List Happening) → NoStops t.machine → NoStops (execution_of t hs).machine
no_stops_on t [] h = h
no_stops_on t (x ∷ hs) h =
    no_stops_on (execution_with t x) hs
    (subst (λ (f : ℕ → List Entry). (e : Entry) → IsAmong (f last_conf) e → is_some (stop_of e) ≡ false) (sym (showing_all (machine_proposing_by t.machine t.world.nodes (deed_of t.world.messages x.event.what)) (world_after t.world x).nodes))
    (of_deed t.machine h t.world.nodes (deed_of t.world.messages x.event.what)))

pub no_stops : (members spares : List ℕ) (hs : List Happening) → NoStops (execution_of (first_execution members spares) hs).machine
no_stops members spares hs = no_stops_on (first_execution members spares) hs (λ e i. absurd i)

-- ---- and so every message is admitted

is_admitted_if : (p : Part) (at : ℕ) (es : List Entry) → at + length es ≤ positions_end → (p.conf ≡ last_conf → has_stop es ≡ false) → is_admitted p at es ≡ true
is_admitted_if p at es ends none = ap (λ (b : Bool). b && not (p.conf == last_conf && has_stop es)) (le-leb (at + length es) positions_end ends) ∙ by (p.conf == last_conf) refl
  where
    by : (b : Bool) → (p.conf == last_conf) ≡ b → not (p.conf == last_conf && has_stop es) ≡ true
    by true h = ap (λ (b : Bool). not (b && has_stop es)) h ∙ ap not (none (eqb-true p.conf last_conf h))
    by false h = ap (λ (b : Bool). not (b && has_stop es)) h

pub admitted : (first : List ℕ) (ks : List worlds.Happening) (t : Execution) → IsBeside first ks t → NoStops t.machine
    → (n : ℕ) (s : Sent) (p : Part) → slice_get t.world.messages n ≡ Some s → s.message.conf ≡ p.conf → IsExchanged s.message.body → is_admitted_body p s.message.body ≡ true
admitted first ks t b none n s p got conf_is kind = of_letter (slice_get (world_of first ks).soup n) refl (subst (λ (o : Option Sent). IfLetter (lists_of first ks) o (slice_get (world_of first ks).soup n)) got (letter_at (lists_of first ks) t.world.messages (world_of first ks).soup b.letters n))
  where
    lists : ℕ → List Entry
    lists = lists_of first ks

    free_in : (c : ℕ) → c ≡ p.conf → (es : List Entry) → ((e : Entry) → IsAmong es e → IsAmong ((machine_of first ks).proposed c) e) → p.conf ≡ last_conf → has_stop es ≡ false
    free_in c same es f last = free_stop es (λ e i. none e (subst (λ (m : Machine). IsAmong (m.proposed last_conf) e) (sym b.machine) (subst (λ (q : ℕ). IsAmong ((machine_of first ks).proposed q) e) (same ∙ last) (f e i))))

    of_said : (l : Letter) (y : Body) (m : pure.Msg) → slice_get (world_of first ks).soup n ≡ Some l → l.conf ≡ p.conf → l.body ≡ server.Inner m → MsgEnds m × MsgV (λ e. IsAmong ((machine_of first ks).proposed l.conf) e) m
    of_said l y m at same says = carried first ks l.conf (packet l.from l.to m) (in_from_get (inner_of l.conf (world_of first ks).soup) (place_in l.conf n (world_of first ks).soup) (packet l.from l.to m) (inner_place (world_of first ks).soup n l m at says))

    by : (l : Letter) → slice_get (world_of first ks).soup n ≡ Some l → l.conf ≡ p.conf → (y : Body) → IsExchanged y → ((m : pure.Msg) → view_body y ≡ Some m → (m ≡ pure.PrepareReq → ⊥) → l.body ≡ server.Inner m) → is_admitted_body p y ≡ true
    by l at same (body.Promise z fa fl fd a es) k said =
        let r = of_said l (body.Promise z fa fl fd a es) _ at same (said _ refl (λ e. differ _ _ e)) in
        is_admitted_if p a es r.0 (free_in l.conf same es r.1)
      where
        differ : (i : ℕ) (pm : pure.Promised) → pure.Promise i pm ≡ pure.PrepareReq → ⊥
        differ i pm e = cc
    by l at same (body.AcceptSync z a es) k said =
        let r = of_said l (body.AcceptSync z a es) _ at same (said _ refl (λ e. differ _ _ _ e)) in
        is_admitted_if p a es r.0 (free_in l.conf same es r.1)
      where
        differ : (i x : ℕ) (xs : List Entry) → pure.AcceptSync i x xs ≡ pure.PrepareReq → ⊥
        differ i x xs e = cc
    by l at same (body.PromisePart z part) k said =
        let r = of_said l (body.PromisePart z part) _ at same (said _ refl (λ e. differ _ _ e)) in
        is_admitted_if p part.at part.run r.0 (free_in l.conf same part.run r.1)
      where
        differ : (i : ℕ) (run : pure.PromisedRun) → pure.PromisePart i run ≡ pure.PrepareReq → ⊥
        differ i run e = cc
    by l at same (body.AcceptSyncPart z part) k said =
        let r = of_said l (body.AcceptSyncPart z part) _ at same (said _ refl (λ e. differ _ _ e)) in
        is_admitted_if p part.at part.run r.0 (free_in l.conf same part.run r.1)
      where
        differ : (i : ℕ) (run : pure.SyncRun) → pure.AcceptSyncPart i run ≡ pure.PrepareReq → ⊥
        differ i run e = cc
    by l at same (body.Accept z a es) k said =
        let r = of_said l (body.Accept z a es) _ at same (said _ refl (λ e. differ _ _ _ e)) in
        is_admitted_if p a es r.0 (free_in l.conf same es r.1)
      where
        differ : (i x : ℕ) (xs : List Entry) → pure.Accept i x xs ≡ pure.PrepareReq → ⊥
        differ i x xs e = cc
    by l at same (body.Prepare z na nl nd) k said = refl
    by l at same (body.Accepted z x) k said = refl
    by l at same (body.HeartbeatRequest r) k said = absurd k
    by l at same (body.HeartbeatReply r z g) k said = absurd k
    by l at same body.PrepareReq k said = absurd k
    by l at same (body.NextConf ms olds len trimmed) k said = absurd k
    by l at same body.AskBase k said = absurd k
    by l at same (body.BasePart a bytes) k said = absurd k
    by l at same (body.BasePiece x) k said = absurd k
    by l at same (body.AskSegment from to) k said = absurd k
    by l at same (body.Segment a es) k said = absurd k
    by l at same (body.Decide z x) k said = absurd k
    by l at same (body.Refuse z x) k said = absurd k
    by l at same (body.Forward e) k said = absurd k
    by l at same (body.Forwards es) k said = absurd k
    by l at same (body.TrimAsk z) k said = absurd k
    by l at same (body.Progress z x) k said = absurd k
    by l at same (body.Trim x) k said = absurd k
    by l at same (body.Confirm z r) k said = absurd k
    by l at same (body.Confirmed z r) k said = absurd k
    by l at same (body.Watch w) k said = absurd k

    of_letter : (o : Option Letter) → slice_get (world_of first ks).soup n ≡ o → IfLetter lists (Some s) o → is_admitted_body p s.message.body ≡ true
    of_letter None at z = absurd z
    of_letter (Some l) at z = by l at (sym z.conf ∙ conf_is) s.message.body kind (λ m v other. said_is lists l.conf s.message.body m l.body v other z.body)
