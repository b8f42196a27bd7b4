-- The parts of an AcceptSync, delivered one after the other, bring a follower as far as the whole.
use Rattle.std.proofs.Common.{◌≡◌, ℕ, ◌+◌, ◌-◌, ◌<◌, ◌≤◌, ◌⊎◌, inl, inr, ⊎_elim, List, [], ◌∷◌, ◌++◌, length, true, false, ◌&&◌, take, refl, sym, ap, ◌∙◌, subst, arith, Option, Some, None, ◌==◌, length-append, is_some}
use Rattle.std.specs.Prelude.{nat_lt, nat_le}
use Rattle.std.proofs.lemmas.Bool.{cases_lt, cond_both, both_ways, and_parts, eq-eqb, lt-ltb, le-leb, ltb-true}
use Rattle.std.proofs.lemmas.List.{length-take-le}
use Rattle.op_types.specs.declared.log.Entry.{Entry}
use Rattle.op_types.specs.Cutting.{parts_from}
use Rattle.op_types.specs.Joinings.{Held, held_with, held_run}
use Rattle.op_types.specs.Stages.{front_from}
use Rattle.op_paxos.specs.Nodes.{Node}
use Rattle.op_paxos.specs.Messages.{SyncRun, Msg, AcceptSyncPart, Effect}
use Rattle.op_paxos.specs.Parts.{is_run_to, sync_run}
use Rattle.op_paxos.specs.Follower.{synced_to, unstaged, synced_once, on_first_part, appended_staged, on_later_part, on_accept_sync_part}
use Rattle.op_paxos.specs.Worlds.{on_msg, Comes, step}
use Rattle.op_paxos.specs.InParts.{after_each}
use Rattle.op_types.proofs.Stages.{Has, with_has, with_here, run_full, run_each, front_far}
use Rattle.op_types.proofs.Cuts.{joined, NoneEmpty}

-- a node went on: promise and decided index stay, and the log is this long
pub record WentOn (nd : Node) (n least : ℕ) (after : Node) : Type 0 where
  pub promised : after.promised ≡ nd.promised
  pub accepted : after.accepted ≡ n
  pub decided : after.decided ≡ nd.decided
  pub long : least ≤ length after.log

-- a run that ends there
pub run_is_to : (end at : ℕ) (run : List Entry) → 0 < length run → at + length run ≤ end → is_run_to end at run ≡ true
run_is_to end at run full le = ap (λ b. b && nat_le (at + length run) end) (lt-ltb 0 (length run) full) ∙ le-leb (at + length run) end le

-- ---- where the ballot is accepted
-- one part: the log then reaches over its run
later_one : (p : ℕ) (nd : Node) (q n : ℕ) (part : SyncRun) → nd.promised ≡ n → nd.accepted ≡ n → 0 < length part.run → part.at + length part.run ≤ part.end
    → WentOn nd n (length nd.log) (on_accept_sync_part p nd q n part).node × (part.at ≤ length nd.log → part.at + length part.run ≤ length (on_accept_sync_part p nd q n part).node.log)
unfolding on_accept_sync_part on_later_part appended_staged
later_one p nd q n part e f full le =
    let held = held_with nd.staged part.at part.run in
    let more = nd.log ++ front_from held (length nd.log) in
    let size = length-append nd.log (front_from held (length nd.log)) in
    let yes : ((nd.promised == n) && ((nd.accepted == n) && is_run_to part.end part.at part.run)) ≡ true = ap (λ b. b && ((nd.accepted == n) && is_run_to part.end part.at part.run)) (eq-eqb nd.promised n e) ∙ ap (λ b. b && is_run_to part.end part.at part.run) (eq-eqb nd.accepted n f) ∙ run_is_to part.end part.at part.run full le in
    cond_both ((nd.promised == n) && nat_lt nd.accepted n) _ _ (λ (o : Effect). WentOn nd n (length nd.log) o.node × (part.at ≤ length nd.log → part.at + length part.run ≤ length (o.node).log))
    (λ c. absurd (omega (arith, f, ltb-true nd.accepted n (and_parts (nd.promised == n) (nat_lt nd.accepted n) c).1)))
    (λ c. cond_both ((nd.promised == n) && ((nd.accepted == n) && is_run_to part.end part.at part.run)) _ _ (λ (o : Effect). WentOn nd n (length nd.log) o.node × (part.at ≤ length nd.log → part.at + length part.run ≤ length (o.node).log))
    (λ d. (record { promised = refl; accepted = f; decided = refl; long = omega (arith, size) }, λ low. reaches (front_from held (length nd.log)) size low (λ lt. front_far held (length nd.log) (part.at + length part.run - length nd.log) (λ i l u. with_here nd.staged part.at part.run i (omega (arith, l, low)) (omega (arith, u, lt))))))
    (λ d. absurd (both_ways ((nd.promised == n) && ((nd.accepted == n) && is_run_to part.end part.at part.run)) d yes)))
  where
    reaches : (front : List Entry) → length (nd.log ++ front) ≡ length nd.log + length front → part.at ≤ length nd.log → (length nd.log < part.at + length part.run → part.at + length part.run - length nd.log ≤ length front) → part.at + length part.run ≤ length (nd.log ++ front)
    reaches front size low far = ⊎_elim (λ (lt : length nd.log < part.at + length part.run). omega (arith, size, far lt)) (λ (le : part.at + length part.run ≤ length nd.log). omega (arith, size, le)) (cases_lt (length nd.log) (part.at + length part.run))

module _ (ms : List ℕ) (p q n start : ℕ) (es : List Entry) where
  abbrev pub part_of : ℕ → List Entry → Msg
  part_of at run = AcceptSyncPart n (sync_run start es at run)

  abbrev stepped_by : Node → ℕ → List Entry → Node
  stepped_by nd at run = (on_accept_sync_part p nd q n (sync_run start es at run)).node

  step_is : (nd : Node) (at : ℕ) (run : List Entry) → (step ms p nd (Comes q (part_of at run))).node ≡ stepped_by nd at run
  unfolding step on_msg
  step_is nd at run = refl

  -- all parts that follow: the log reaches over their runs
  pub later_all : (runs : List (List Entry)) (nd : Node) (at : ℕ) → nd.promised ≡ n → nd.accepted ≡ n → NoneEmpty runs → at + length (joined runs) ≤ start + length es
      → WentOn nd n (length nd.log) (after_each ms p nd q (parts_from part_of at runs)) × (at ≤ length nd.log → at + length (joined runs) ≤ length (after_each ms p nd q (parts_from part_of at runs)).log)
  later_all [] nd at e f full le = (record { promised = refl; accepted = f; decided = refl; long = omega arith }, λ low. omega (arith, low))
  later_all (run ∷ runs) nd at e f full le =
      let size = length-append run (joined runs) in
      let a = later_one p nd q n (sync_run start es at run) e f full.0 (omega (arith, le, size)) in
      let nd' = stepped_by nd at run in
      let b = later_all runs nd' (at + length run) ((a.0).promised ∙ e) (a.0).accepted full.1 (omega (arith, le, size)) in
      subst (λ (m : Node). WentOn nd n (length nd.log) (after_each ms p m q (parts_from part_of (at + length run) runs)) × (at ≤ length nd.log → at + length (run ++ joined runs) ≤ length (after_each ms p m q (parts_from part_of (at + length run) runs)).log)) (sym (step_is nd at run))
      (record { promised = (b.0).promised ∙ (a.0).promised; accepted = (b.0).accepted; decided = (b.0).decided ∙ (a.0).decided; long = omega (arith, (a.0).long, (b.0).long) }, λ low. omega (arith, size, b.1 (a.1 low)))

  -- ---- where the ballot isn't accepted yet
  -- one part: all is whole and taken, or its run is held
  pub record Waits (nd : Node) (h : Held) (after : Node) : Type 0 where
    pub is : after ≡ record nd { staged = h }
    pub open_ : is_some (held_run h start (start + length es - start)) ≡ false

  once_one : (nd : Node) (h : Held) (o : Option (List Entry)) → held_run h start (start + length es - start) ≡ o → nd.decided ≤ start → start ≤ length nd.log → WentOn nd n (start + length es) (synced_once p (record nd { staged = h }) q n start o).node ⊎ Waits nd h (synced_once p (record nd { staged = h }) q n start o).node
  unfolding synced_once synced_to
  once_one nd h None is low le = inr (record { is = refl; open_ = ap is_some is })
  once_one nd h (Some rest) is low le =
      let size : length rest ≡ start + length es - start = (run_each (λ i e. Unit {0}) h start (start + length es - start) rest (λ i e k. tt) is).0 in
      let yes : (nat_le nd.decided start && nat_le start (length nd.log)) ≡ true = ap (λ b. b && nat_le start (length nd.log)) (le-leb nd.decided start low) ∙ le-leb start (length nd.log) le in
      inl (cond_both (nat_le nd.decided start && nat_le start (length nd.log)) _ _ (λ (o : Effect). WentOn nd n (start + length es) (unstaged o).node)
      (λ c. record { promised = refl; accepted = refl; decided = refl; long = omega (arith, length-append (take start nd.log) rest, length-take-le start nd.log le, size) })
      (λ c. absurd (both_ways (nat_le nd.decided start && nat_le start (length nd.log)) c yes)))

  first_one : (nd : Node) (at : ℕ) (run : List Entry) → nd.promised ≡ n → nd.accepted < n → nd.decided ≤ start → start ≤ length nd.log → start ≤ at → 0 < length run → at + length run ≤ start + length es
      → WentOn nd n (start + length es) (stepped_by nd at run) ⊎ Waits nd (held_with nd.staged at run) (stepped_by nd at run)
  unfolding on_accept_sync_part on_first_part
  first_one nd at run e lt low fits above full le =
      let yes : ((nd.promised == n) && nat_lt nd.accepted n) ≡ true = ap (λ b. b && nat_lt nd.accepted n) (eq-eqb nd.promised n e) ∙ lt-ltb nd.accepted n lt in
      let right : ((nat_le nd.decided start && nat_le start (length nd.log)) && (nat_le start at && is_run_to (start + length es) at run)) ≡ true =
      ap (λ b. (b && nat_le start (length nd.log)) && (nat_le start at && is_run_to (start + length es) at run)) (le-leb nd.decided start low)
      ∙ ap (λ b. b && (nat_le start at && is_run_to (start + length es) at run)) (le-leb start (length nd.log) fits)
      ∙ ap (λ b. b && is_run_to (start + length es) at run) (le-leb start at above) ∙ run_is_to (start + length es) at run full le in
      cond_both ((nd.promised == n) && nat_lt nd.accepted n) _ _ (λ (o : Effect). WentOn nd n (start + length es) o.node ⊎ Waits nd (held_with nd.staged at run) o.node)
      (λ c. cond_both ((nat_le nd.decided start && nat_le start (length nd.log)) && (nat_le start at && is_run_to (start + length es) at run)) _ _ (λ (o : Effect). WentOn nd n (start + length es) o.node ⊎ Waits nd (held_with nd.staged at run) o.node)
      (λ d. once_one nd (held_with nd.staged at run) (held_run (held_with nd.staged at run) start (start + length es - start)) refl low fits)
      (λ d. absurd (both_ways ((nat_le nd.decided start && nat_le start (length nd.log)) && (nat_le start at && is_run_to (start + length es) at run)) d right)))
      (λ c. absurd (both_ways ((nd.promised == n) && nat_lt nd.accepted n) c yes))

  -- all parts: it takes the whole at the last one, or sooner
  pub first_all : (runs : List (List Entry)) (nd : Node) (at : ℕ) → 0 < length runs → nd.promised ≡ n → nd.accepted < n → nd.decided ≤ start → start ≤ length nd.log → start ≤ at → NoneEmpty runs → at + length (joined runs) ≡ start + length es
      → ((i : ℕ) → start ≤ i → i < at → Has nd.staged i) → WentOn nd n (start + length es) (after_each ms p nd q (parts_from part_of at runs))
  first_all [] nd at some_ e lt low fits above full is has = absurd (omega (arith, some_))
  first_all (run ∷ runs) nd at some_ e lt low fits above full is has =
      let size = length-append run (joined runs) in
      let reach : at + length run ≤ start + length es = omega (arith, is, size) in
      subst (λ (m : Node). WentOn nd n (start + length es) (after_each ms p m q (parts_from part_of (at + length run) runs))) (sym (step_is nd at run))
      (⊎_elim
      (λ (a : WentOn nd n (start + length es) (stepped_by nd at run)).
      let b = later_all runs (stepped_by nd at run) (at + length run) (a.promised ∙ e) a.accepted full.1 (omega (arith, is, size)) in
      record { promised = (b.0).promised ∙ a.promised; accepted = (b.0).accepted; decided = (b.0).decided ∙ a.decided; long = omega (arith, a.long, (b.0).long) })
      (λ (a : Waits nd (held_with nd.staged at run) (stepped_by nd at run)).
      subst (λ (m : Node). WentOn nd n (start + length es) (after_each ms p m q (parts_from part_of (at + length run) runs))) (sym a.is)
      (waiting runs (held_has nd at run has) a.open_ full.1 (omega (arith, is, size))
      (λ more. first_all runs (record nd { staged = held_with nd.staged at run }) (at + length run) more e lt low fits (omega (arith, above)) full.1 (omega (arith, is, size)) (held_has nd at run has))))
      (first_one nd at run e lt low fits above full.0 reach))
    where
      held_has : (nd : Node) (at : ℕ) (run : List Entry) → ((i : ℕ) → start ≤ i → i < at → Has nd.staged i) → (i : ℕ) → start ≤ i → i < at + length run → Has (held_with nd.staged at run) i
      held_has nd at run has i le lt = ⊎_elim (λ (x : i < at). with_has nd.staged at run i (has i le x)) (λ (x : at ≤ i). with_here nd.staged at run i x lt) (cases_lt i at)

      waiting : (runs : List (List Entry)) → ((i : ℕ) → start ≤ i → i < at + length run → Has (held_with nd.staged at run) i) → is_some (held_run (held_with nd.staged at run) start (start + length es - start)) ≡ false → NoneEmpty runs → at + length run + length (joined runs) ≡ start + length es
          → (0 < length runs → WentOn (record nd { staged = held_with nd.staged at run }) n (start + length es) (after_each ms p (record nd { staged = held_with nd.staged at run }) q (parts_from part_of (at + length run) runs)))
          → WentOn nd n (start + length es) (after_each ms p (record nd { staged = held_with nd.staged at run }) q (parts_from part_of (at + length run) runs))
      waiting [] has open_ full is go = absurd (both_ways (is_some (held_run (held_with nd.staged at run) start (start + length es - start))) open_ (run_full (held_with nd.staged at run) start (start + length es - start) (λ i le lt. has i le (omega (arith, lt, is)))))
      waiting (r ∷ rs) has open_ full is go = let k = go (omega arith) in record { promised = k.promised; accepted = k.accepted; decided = k.decided; long = k.long }
