-- Each of a list of members ticks: what they then know, and what was sent.
use Rattle.std.proofs.Common.{◌≡◌, ◌-◌, take, ◌==◌, inl, inr, ℕ, suc, Bool, true, false, cond, is_some, ◌||◌, eqb, nat_eq, List, [], ◌∷◌, ◌++◌, length, filter, flat_map, All, Option, None, refl, sym, ap, ◌∙◌, subst, append-nil, append_assoc}
use Rattle.std.proofs.lemmas.Bool.{false≢true, eqb-true, eq-eqb, both_ways, or_parts, or_left, or_right}
use Rattle.std.proofs.lemmas.List.Elements.{All-take, All-drop}
use Rattle.std.specs.Set.{is_member}
use Rattle.op_quorum.specs.Quorums.{is_majority, passing}
use Rattle.op_types.specs.Changes.{IsCommand}
use Rattle.op_types.specs.RoleStates.{promise_of}
use Rattle.op_types.specs.Stops.{stop_at_end}
use Rattle.op_types.specs.declared.durable.Joining.{Joining}
use Rattle.op_types.specs.declared.durable.Part.{Part}
use Rattle.op_types.specs.declared.log.Entry.{Entry}
use Rattle.op_types.specs.declared.events.Input.TheVariants as input
use Rattle.op_runs.specs.declared.events.What.TheVariants as what
use Rattle.op_protocol.specs.State.{Volatile}
use Rattle.op_protocol.specs.Parts.{part_after, decided_since}
use Rattle.op_protocol.specs.Promises.{has_quorum}
use Rattle.op_protocol.specs.Rows.{tick_at}
use Rattle.op_protocol.specs.Tick.{on_tick}
use Rattle.op_runs.specs.World.{World, Node, Sent, node_at, sent_by, world_after, done_event}
use Rattle.op_lockstep.specs.Lockstep.{event_of, after_events, ticks}
use Rattle.op_lockstep.proofs.Lists.{Distinct, by_test}
use Rattle.op_lockstep.proofs.Batches.{KeepsLog, keeps_log, no_end, decides_nothing}
use Rattle.op_lockstep.proofs.Changes.{keeps_members, DecidesAlone, tick_light, tick_decides}
use Rattle.op_lockstep.proofs.Seats.{Sits, AllSit, After, IsRow, stepped}

-- who promised nothing isn't counted
alone_is : (p : ℕ) (members : List ℕ) → is_majority (passing (λ q. q == p) members) (length members) ≡ has_quorum p members []
alone_is p members = ap (λ (n : ℕ). is_majority n (length members)) (same members)
  where
    same : (qs : List ℕ) → passing (λ q. q == p) qs ≡ passing (λ q. q == p || is_some (promise_of [] q)) qs
    same [] = refl
    same (q ∷ qs) =
        by_test (eqb q p) (λ (b : Bool). length (cond b (q ∷ filter (λ q. q == p) qs) (filter (λ q. q == p) qs)) ≡ length (cond (b || false) (q ∷ filter (λ q. q == p || is_some (promise_of [] q)) qs) (filter (λ q. q == p || is_some (promise_of [] q)) qs)))
        (λ _. ap suc (same qs)) (λ _. same qs)

-- the tick's row
tick_row : (p : ℕ) (a : Part) (v : Volatile) → IsRow p a v input.Tick (on_tick p a v)
tick_row p a v d has stays = ap (λ (j : Option Joining). tick_at p d.part j v) stays ∙ ap (λ (o : Option Part). tick_at p o None v) has

-- a member that is a majority alone has no stop-sign in its log
abbrev pub Unstopped : ℕ → Part → Type 0
Unstopped p a = is_majority (passing (λ q. q == p) a.members) (length a.members) ≡ true → All IsCommand a.tail.items

module _ (a : ℕ → Part) (v : ℕ → Volatile) where
  -- what a member stores, knows and sends at its tick
  abbrev pub tick_part : ℕ → Part
  tick_part p = part_after (a p) (on_tick p (a p) (v p)).batch

  abbrev pub tick_volatile : ℕ → Volatile
  tick_volatile p = (on_tick p (a p) (v p)).volatile

  abbrev pub tick_sent : ℕ → List Sent
  tick_sent p = sent_by p (on_tick p (a p) (v p)).sends

  -- the log stays
  pub unstopped_still : (p : ℕ) → Unstopped p (a p) → Unstopped p (tick_part p)
  unstopped_still p un alone =
      let k = keeps_members (a p) (on_tick p (a p) (v p)).batch in
      subst (All IsCommand) (sym (keeps_log (a p) (on_tick p (a p) (v p)).batch (tick_light p (a p) (v p))).items)
      (un (ap (λ (ms : List ℕ). is_majority (passing (λ q. q == p) ms) (length ms)) (sym k.members) ∙ alone))

  -- no stop-sign is decided by it
  no_stop : (p : ℕ) → Unstopped p (a p) → is_some (stop_at_end (decided_since (a p) (tick_part p))) ≡ false
  no_stop p un = by_decided (tick_decides p (a p) (v p))
    where
      log : KeepsLog (a p) (tick_part p)
      log = keeps_log (a p) (on_tick p (a p) (v p)).batch (tick_light p (a p) (v p))

      by_decided : DecidesAlone p (a p) (on_tick p (a p) (v p)).batch → is_some (stop_at_end (decided_since (a p) (tick_part p))) ≡ false
      by_decided (inl e) = ap (λ (es : List Entry). is_some (stop_at_end es)) (decides_nothing (a p) (tick_part p) e)
      by_decided (inr alone) =
          let here : All IsCommand (tick_part p).tail.items = subst (All IsCommand) (sym log.items) (un (alone_is p (a p).members ∙ alone)) in
          no_end (decided_since (a p) (tick_part p)) (All-drop IsCommand ((a p).decided - (tick_part p).trimmed) (take ((tick_part p).decided - (tick_part p).trimmed) (tick_part p).tail.items) (All-take IsCommand ((tick_part p).decided - (tick_part p).trimmed) (tick_part p).tail.items here))

  -- after the ticks of these
  pub record Ticked (w u : World) (ps : List ℕ) : Type 0 where
    pub sit : AllSit u tick_part tick_volatile ps
    pub others : (q : ℕ) → is_member nat_eq ps q ≡ false → node_at u.nodes q ≡ node_at w.nodes q
    pub messages : u.messages ≡ w.messages ++ flat_map tick_sent ps

  ticks_first : (p : ℕ) (ps : List ℕ) (w w1 u : World) → is_member nat_eq ps p ≡ false → After w w1 p (tick_part p) (tick_volatile p) (on_tick p (a p) (v p)).sends → Ticked w1 u ps → Ticked w u (p ∷ ps)
  ticks_first p ps w w1 u apart x r =
      record {
        sit = λ q m. by_id q m (eqb q p) refl;
        others = λ q m. let k = or_parts (eqb q p) (is_member nat_eq ps q) m in r.others q k.1 ∙ x.others q (λ e. both_ways (eqb q p) k.0 (eq-eqb q p e));
        messages = r.messages ∙ ap (λ (ms : List Sent). ms ++ flat_map tick_sent ps) x.messages ∙ append_assoc w.messages (tick_sent p) (flat_map tick_sent ps);
      }
    where
      by_id : (q : ℕ) → is_member nat_eq (p ∷ ps) q ≡ true → (b : Bool) → eqb q p ≡ b → Sits (node_at u.nodes q) q (tick_part q) (tick_volatile q)
      by_id q m true e =
          subst (λ (k : ℕ). Sits (node_at u.nodes k) k (tick_part k) (tick_volatile k)) (sym (eqb-true q p e))
          (subst (λ (o : Option Node). Sits o p (tick_part p) (tick_volatile p)) (sym (r.others p apart)) x.here)
      by_id q m false e = r.sit q (sym (ap (λ (b : Bool). b || is_member nat_eq ps q) e) ∙ m)

  pub ticks_run : (ps : List ℕ) → Distinct ps → (w : World) → ((p : ℕ) → is_member nat_eq ps p ≡ true → Unstopped p (a p)) → AllSit w a v ps → Ticked w (after_events w (ticks ps)) ps
  ticks_run [] d w un sit = record { sit = λ q m. absurd (false≢true m); others = λ q m. refl; messages = sym (append-nil w.messages) }
  ticks_run (p ∷ ps) d w un sit =
      let x = stepped w (what.Tick p) p input.Tick (a p) (v p) (on_tick p (a p) (v p)) refl (λ me s. refl) (tick_row p (a p) (v p)) (tick_light p (a p) (v p)) (no_stop p (un p (or_left (eqb p p) (is_member nat_eq ps p) (eq-eqb p p refl)))) (sit p (or_left (eqb p p) (is_member nat_eq ps p) (eq-eqb p p refl))) in
      let w1 : World = world_after w (done_event (event_of (what.Tick p))) in
      ticks_first p ps w w1 (after_events w1 (ticks ps)) d.0 x
      (ticks_run ps d.1 w1 (λ q m. un q (or_right (eqb q p) (is_member nat_eq ps q) m)) (λ q m. subst (λ (o : Option Node). Sits o q (a q) (v q)) (sym (x.others q (λ e. both_ways (is_member nat_eq ps p) d.0 (ap (is_member nat_eq ps) (sym e) ∙ m)))) (sit q (or_right (eqb q p) (is_member nat_eq ps q) m))))
