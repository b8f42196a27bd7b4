-- Where a command comes in a run, a node took it in at that event, or was to store it before.
use Rattle.std.proofs.Common.{◌≡◌, ◌-◌, ℕ, Bool, true, false, is_some, if◌then◌else◌, List, [], ◌∷◌, ◌++◌, Option, Some, None, refl, sym, ◌∙◌, ap, subst, append-nil, ◌⊎◌, inl, inr}
use Rattle.op_types.specs.Changes.{closed_len}
use Rattle.op_types.specs.Roles.{Role, Idle, Preparing, Leading}
use Rattle.op_types.specs.Stops.{stop_at_end}
use Rattle.op_types.specs.declared.answers.Refusal.{Refusal}
use Rattle.op_types.specs.declared.answers.Refusal.TheVariants as refusal
use Rattle.op_types.specs.declared.durable.Closed.{Closed}
use Rattle.op_types.specs.declared.durable.Durable.{Durable}
use Rattle.op_types.specs.declared.durable.Part.{Part}
use Rattle.op_types.specs.declared.events.Input.{Input}
use Rattle.op_types.specs.declared.events.Input.TheVariants as input
use Rattle.op_types.specs.declared.log.Command.{Command}
use Rattle.op_types.specs.declared.log.Entry.{Entry}
use Rattle.op_spec.specs.Machine.{IsAmong}
use Rattle.op_protocol.specs.Configurations.{closing_part, closing}
use Rattle.op_protocol.specs.Leader.{propose}
use Rattle.op_protocol.specs.Parts.{part_after, decided_since}
use Rattle.op_protocol.specs.Rows.{refusal_of, entries_of, proposal_at, step_at, waiting_at, planned, step_plan}
use Rattle.op_protocol.specs.State.{State, Volatile, Planned, with_effects}
use Rattle.op_runs.specs.declared.events.What.{What}
use Rattle.op_runs.specs.declared.events.What.TheVariants as what
use Rattle.op_runs.specs.Run.{Execution, execution_of}
use Rattle.op_runs.specs.Schedules.{seated_at}
use Rattle.op_runs.specs.World.{Kind, Votes, Observes, World, Node, Sent, Happening, Done, run_of, node_at}
use Rattle.op_laws.proofs.Drops.{from_both}
use Rattle.op_serving.specs.Cores.{Failure, Standing, gives}
use Rattle.op_serving.specs.Fates as fates
use Rattle.op_serving.specs.Inputs.{Deed, begins, hears, enters, says, takes}
use Rattle.op_cluster_laws.specs.Becoming.{Says, ticks, delivers, proposes, stops, trims, looks_up, goes_up, goes_down, fated_happening, IsNone, IsStep, AreSteps, anew, Reopens, OfFate, EventBecomes}
use Rattle.op_cluster_laws.specs.Taken.{Brings, IsNoRefusal, TakesIn}
use Rattle.op_cluster_laws.specs.Traces.{Event, does, ends, killed, opens, Lived, stands, stored_in, pending_in}
use Rattle.op_cluster_laws.specs.Worlds.{StandsAt}
use Rattle.op_cluster_laws.proofs.Happenings.{seat_node, seat_observer}
use Rattle.op_cluster_laws.proofs.Pending.{stored_up}
use Rattle.op_cluster_laws.proofs.Proposing.{commands_of, commands_in, commands_more, Free, FreeAt, ComesIn, come_among}

-- ---- what isn't refused is told so

closed_so : (me : ℕ) (o : Option Part) (x : Planned) → (closing me o x).outcome ≡ x.outcome
closed_so me None x = refl
closed_so me (Some p) x = by_stop (is_some (stop_at_end (decided_since p (part_after p x.batch))))
  where
    by_stop : (b : Bool) → (if b then closing_part me (part_after p x.batch) x else x).outcome ≡ x.outcome
    by_stop true = refl
    by_stop false = refl

proposed_so : (me : ℕ) (o : Option Part) (v : Volatile) (es : List Entry) (r : Option Refusal) → r ≡ None → is_some o ≡ true → IsNoRefusal (proposal_at me o v es r).outcome
proposed_so me o v es (Some why) e some = absurd (let bad : Some why ≡ None = e in cc)
proposed_so me None v es None e some = absurd (let bad : false ≡ true = some in cc)
proposed_so me (Some p) v es None e some = by_role v.role
  where
    by_role : (r : Role) → IsNoRefusal (with_effects v (propose me p r es)).outcome
    by_role Idle = tt
    by_role (Preparing r) = tt
    by_role (Leading l) = tt

-- a node without a part refuses
part_there : (me : ℕ) (r : Role) (d : Durable) (es : List Entry) → refusal_of me r d es ≡ None → is_some d.part ≡ true
part_there me r d es e = by_part d.part d.closed refl refl
  where
    by_part : (o : Option Part) (l : Option Closed) → d.part ≡ o → d.closed ≡ l → is_some o ≡ true
    by_part (Some p) l part closed = refl
    by_part None (Some c) part closed = absurd (let bad : Some (refusal.PendingStop (closed_len c - 1)) ≡ None = rw (part, closed) at e in cc)
    by_part None None part closed = absurd (let bad : Some refusal.NoLeader ≡ None = rw (part, closed) at e in cc)

not_refused : (me : ℕ) (s : State) (cs : List Command) → Free me s cs → IsNoRefusal (step_plan me s (input.Commands cs)).outcome
not_refused me s cs free =
    let x : Planned = planned s (waiting_at me s (input.Commands cs)) (step_at me s.durable s.volatile (input.Commands cs)) in
    subst IsNoRefusal (sym (closed_so me s.durable.part x))
    (proposed_so me s.durable.part s.volatile (entries_of cs) (refusal_of me s.volatile.role s.durable (entries_of cs)) free (part_there me s.volatile.role s.durable (entries_of cs) free))

not_refused_by : (n : Standing) (cs : List Command) → n.kind ≡ Votes → n.failed ≡ None → Free n.me n.state cs → IsNoRefusal (gives n (input.Commands cs)).outcome
unfolding gives
not_refused_by n cs votes up free = rw up (rw votes (not_refused n.me n.state cs free))

-- who takes commands in votes: an observer is no node of the world
free_node : (w : World) (p : ℕ) (k : Kind) (n : Node) (cs : List Command) → seated_at w p ≡ Some (record { kind = k; node = n }) → FreeAt (node_at w.nodes p) cs
    → (k ≡ Votes) × Free n.pid n.state cs
free_node w p Votes n cs there free = (refl, subst (λ o. FreeAt o cs) (seat_node w p n there) free)
free_node w p Observes n cs there free = absurd (subst (λ o. FreeAt o cs) (seat_observer w p n there).0 free)

-- ---- the inputs of happenings

says_commands : (ms : List Sent) (p q : ℕ) (i : Input) (w : What) (cs : List Command) → Says ms p i w → w ≡ what.Commands q cs → (i ≡ input.Commands cs) × (p ≡ q)
says_commands ms p q i w cs ticks e = absurd cc
says_commands ms p q i w cs (delivers k d) e = absurd cc
says_commands ms p q i w cs (proposes {cs = ds}) e = let same : ds ≡ cs = cc in let from : p ≡ q = cc in (ap (λ z. input.Commands z) same, from)
says_commands ms p q i w cs stops e = absurd cc
says_commands ms p q i w cs trims e = absurd cc
says_commands ms p q i w cs looks_up e = absurd cc
says_commands ms p q i w cs goes_up e = absurd cc
says_commands ms p q i w cs goes_down e = absurd cc

module _ (b : Command) where
  says_brings : (ms : List Sent) (p : ℕ) (i : Input) (w : What) → Says ms p i w → IsAmong (commands_of w) b → Brings b i
  says_brings ms p i w ticks k = absurd k
  says_brings ms p i w (delivers n e) k = absurd k
  says_brings ms p i w proposes k = k
  says_brings ms p i w stops k = absurd k
  says_brings ms p i w trims k = absurd k
  says_brings ms p i w looks_up k = absurd k
  says_brings ms p i w goes_up k = absurd k
  says_brings ms p i w goes_down k = absurd k

  step_brings : (w : World) (p : ℕ) (i : Input) (hs : List Happening) → IsStep w p i hs → IsAmong (commands_in hs) b → Brings b i
  step_brings w p i hs one k = says_brings w.messages p i one.0 one.1 (subst (λ l. IsAmong l b) (append-nil (commands_of one.0)) (subst (λ l. IsAmong (commands_in l) b) one.2 k))

  -- one of these inputs brings it
  abbrev pub IsBroughtBy : List Input → Type 0
  IsBroughtBy is = (i : Input) × IsAmong is i × Brings b i

  steps_bring : (is : List Input) (w : World) (p : ℕ) (hs : List Happening) → AreSteps w p is hs → IsAmong (commands_in hs) b → IsBroughtBy is
  steps_bring [] w p hs none k = absurd (subst (λ l. IsAmong (commands_in l) b) none k)
  steps_bring (i ∷ is) w p hs (first, rest, split, one, more) k =
      elim (from_both b (commands_in first) (commands_in rest) (subst (λ l. IsAmong l b) (commands_more first rest) (subst (λ l. IsAmong (commands_in l) b) split k))) [
        | inl here ↦ (i, inl refl, step_brings w p i first one here)
        | inr later ↦ (let a = steps_bring is (run_of w first) p rest more later in (a.0, inr a.1, a.2))
      ]

  reopen_brings : (w : World) (p : ℕ) (seat : Kind) (s : State) (is : List Input) (d : Durable) (hs : List Happening) → Reopens w p seat s is d hs → IsAmong (commands_in hs) b → IsBroughtBy is
  reopen_brings w p seat s is d hs (steps, split, either) k =
      elim (from_both b (commands_in steps) (commands_in (anew p)) (subst (λ l. IsAmong l b) (commands_more steps (anew p)) (subst (λ l. IsAmong (commands_in l) b) split k))) [
        | inl here ↦ elim either [
          | inl none ↦ absurd (subst (λ l. IsAmong (commands_in l) b) none.0 here)
          | inr all ↦ steps_bring is w p steps all.0 here
        ]
        | inr there ↦ absurd there
      ]

-- ---- an event

not_empty : (before : List Happening) (now : Happening) (after : List Happening) → [] ≡ before ++ now ∷ after → ⊥
not_empty [] now after e = absurd cc
not_empty (y ∷ before) now after e = absurd cc

single : (z : Happening) (before : List Happening) (now : Happening) (after : List Happening) → z ∷ [] ≡ before ++ now ∷ after → (before ≡ []) × (now ≡ z)
single z [] now after e = let same : now ≡ z = cc in (refl, same)
single z (y ∷ before) now after e = absurd (not_empty before now after (tail_of e))
  where
    tail_of : z ∷ [] ≡ y ∷ (before ++ now ∷ after) → [] ≡ before ++ now ∷ after
    tail_of k = cc

-- an input that is done is a step of a node that is up, and nothing at one that has failed
done_up : (w : World) (p : ℕ) (n : Standing) (s : State) (is : List Input) (i : Input) (hs : List Happening) (o : Option Failure) → o ≡ None → OfFate w p (record n { failed = o }) s is i fates.done hs → IsStep w p i hs
done_up w p n s is i hs None e of = of
done_up w p n s is i hs (Some f) e of = absurd (let bad : Some f ≡ None = e in cc)

done_down : (w : World) (p : ℕ) (n : Standing) (s : State) (is : List Input) (i : Input) (hs : List Happening) (o : Option Failure) (f : Failure) → o ≡ Some f → OfFate w p (record n { failed = o }) s is i fates.done hs → IsNone hs
done_down w p n s is i hs None f e of = absurd (let bad : None ≡ Some f = e in cc)
done_down w p n s is i hs (Some g) f e of = of

module _ (b : Command) (t : Execution) (p : ℕ) (l : Lived) (s : StandsAt t.world p (stands l) (stored_in l)) where
  -- the node takes it in at this event, or was to store it before
  abbrev pub ComesSo : Event → Type 0
  ComesSo e = TakesIn b l e ⊎ IsBroughtBy b (pending_in l)

  none_comes : (hs : List Happening) (conf : ℕ) → IsNone hs → ComesIn t hs conf b → ⊥
  none_comes hs conf none c = subst (λ l. IsAmong (commands_in l) b) none (come_among b t hs conf c)

  step_takes : (who : List ℕ) (i : Input) (hs : List Happening) (conf : ℕ) → l.left ≡ None → (stands l).failed ≡ None → IsStep t.world p i hs → ComesIn t hs conf b → TakesIn b l (does (enters who i fates.done))
  step_takes who i hs conf alive up one c =
      let two = single (fated_happening one.0 Done false) c.before c.now c.after (sym one.2 ∙ c.is) in
      let is_commands : one.0 ≡ what.Commands c.pid c.together = ap (λ (h : Happening). h.event.what) (sym two.1) ∙ c.comes in
      let said = says_commands t.world.messages p c.pid i one.0 c.together one.1 is_commands in
      let then_free : FreeAt (node_at t.world.nodes c.pid) c.together = subst (λ hs. FreeAt (node_at (execution_of t hs).world.nodes c.pid) c.together) two.0 c.free in
      let here_free : FreeAt (node_at t.world.nodes p) c.together = subst (λ q. FreeAt (node_at t.world.nodes q) c.together) (sym said.1) then_free in
      let votes = free_node t.world p (stands l).kind s.found c.together s.there here_free in
      let found_free : Free s.found.pid s.found.state c.together = votes.1 in
      let state_free : Free s.found.pid (stands l).state c.together = subst (λ z. Free s.found.pid z c.together) (s.state ∙ stored_up l alive up) found_free in
      let own_free : Free (stands l).me (stands l).state c.together = subst (λ z. Free z (stands l).state c.together) (s.pid ∙ sym s.me) state_free in
      (subst (Brings b) (sym said.0) c.among, subst (λ z. IsNoRefusal (gives (stands l) z).outcome) (sym said.0) (not_refused_by (stands l) c.together votes.0 up own_free))

  comes_fate : (who : List ℕ) (i : Input) (fate : fates.Fate) (hs : List Happening) (conf : ℕ) → l.left ≡ None → OfFate t.world p (stands l) (stored_in l) (pending_in l) i fate hs → ComesIn t hs conf b
      → ComesSo (does (enters who i fate))
  comes_fate who i fates.done hs conf alive of c = by_failed (stands l).failed refl
    where
      by_failed : (o : Option Failure) → (stands l).failed ≡ o → ComesSo (does (enters who i fates.done))
      by_failed None e = inl (step_takes who i hs conf alive e (done_up t.world p (stands l) (stored_in l) (pending_in l) i hs (stands l).failed e of) c)
      by_failed (Some f) e = absurd (none_comes hs conf (done_down t.world p (stands l) (stored_in l) (pending_in l) i hs (stands l).failed f e of) c)
  comes_fate who i (fates.finds d) hs conf alive of c = inr (reopen_brings b t.world p (stands l).kind (stored_in l) (pending_in l) d hs of (come_among b t hs conf c))
  comes_fate who i (fates.faults k) hs conf alive of c = absurd (none_comes hs conf of c)
  comes_fate who i (fates.shares k) hs conf alive of c = absurd (none_comes hs conf of c)
  comes_fate who i fates.damaged hs conf alive of c = absurd (none_comes hs conf of c)
  comes_fate who i fates.lost hs conf alive of c = absurd (none_comes hs conf of c)

  pub comes_at : (e : Event) (hs : List Happening) (conf : ℕ) → ((d : Deed) → e ≡ does d → l.left ≡ None) → EventBecomes t.world p l e hs → ComesIn t hs conf b → ComesSo e
  comes_at (does (begins c bytes)) hs conf alive of k = absurd (none_comes hs conf of k)
  comes_at (does (hears c bytes)) hs conf alive of k = absurd (none_comes hs conf of k)
  comes_at (does (enters who i fate)) hs conf alive of k = comes_fate who i fate hs conf (alive (enters who i fate) refl) of k
  comes_at (does (says f)) hs conf alive of k = absurd (none_comes hs conf of k)
  comes_at (does (takes c bytes)) hs conf alive of k = absurd (none_comes hs conf of k)
  comes_at ends hs conf alive of k = absurd (none_comes hs conf of k)
  comes_at (killed bs) hs conf alive of k = absurd (none_comes hs conf of k)
  comes_at (opens d count) hs conf alive of k = inr (reopen_brings b t.world p (stands l).kind (stored_in l) (pending_in l) d hs of (come_among b t hs conf k))
