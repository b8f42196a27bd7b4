-- Messages that were sent stay, and all that the waves of a full round deliver may come behind the heartbeats of a round.
use Rattle.std.proofs.Common.{◌≡◌, ◌<◌, ◌≤◌, ◌+◌, ⊎_elim, inr, not, ℕ, zero, suc, Bool, true, false, cond, List, [], ◌∷◌, ◌++◌, length, map, take, drop, min, slice_get, Option, Some, None, refl, sym, ap, ◌∙◌, subst, append-nil, append_assoc, length-append, length-take, drop_of_length-le, arith}
use Rattle.std.proofs.lemmas.Bool.{and_parts, cases_lt}
use Rattle.std.proofs.lemmas.List.{map-append, take-append-drop}
use Rattle.op_types.specs.declared.events.Input.{Input}
use Rattle.op_types.specs.declared.events.Input.TheVariants as input
use Rattle.op_runs.specs.declared.events.What.{What}
use Rattle.op_runs.specs.declared.events.What.TheVariants as what
use Rattle.op_runs.specs.declared.events.Event.{Event}
use Rattle.op_runs.specs.World.{World, Node, NodeStatus, Up, Down, Failed, Kind, Votes, Observes, Happening, Steps, Deed, Sent, delivery, deed_of, node_at, world_by_status_as, world_at_observer, world_observed, world_at_node, world_with, world_after, run_of, done_event, all_done}
use Rattle.op_gen.specs.Links.{Links, is_linked}
use Rattle.op_lockstep.specs.Lockstep.{event_of, after_events, numbers_of, deliveries}
use Rattle.op_lockstep.proofs.Lists.{Each, by_test}
use Rattle.op_lockstep.proofs.Delivering.{get_behind}
use Rattle.op_progress.specs.Progress.{is_heartbeat, GoesOver, AllComeBehind}
use Rattle.op_waves.specs.Waves.{goes_over, waves, session, sessions}

-- ---- messages stay
-- all that was sent stays, and more may be sent
abbrev pub Grows : World → World → Type 0
Grows w u = (more : List Sent) × (u.messages ≡ w.messages ++ more)

pub grows_same : (w u : World) → u.messages ≡ w.messages → Grows w u
grows_same w u e = ([], e ∙ sym (append-nil w.messages))

pub grows_then : (w u t : World) → Grows w u → Grows u t → Grows w t
grows_then w u t x y = (x.0 ++ y.0, y.1 ∙ ap (λ (l : List Sent). l ++ y.0) x.1 ∙ append_assoc w.messages x.0 y.0)

none_some : {A : Type 0} (a : A) → None ≡ Some a → ⊥
none_some a e = cc

-- what stands in a list stands in each longer one
pub get_front : {A : Type 0} (xs ys : List A) (i : ℕ) (x : A) → slice_get xs i ≡ Some x → slice_get (xs ++ ys) i ≡ Some x
get_front [] ys i x e = absurd (none_some x e)
get_front (z ∷ xs) ys zero x e = e
get_front (z ∷ xs) ys (suc i) x e = get_front xs ys i x e

module _ (w : World) (e : What) where
  abbrev done : Happening
  done = done_event (event_of e)

  status_grows : (k : Kind) (s : NodeStatus) (x : Input) (n : Node) → Grows w (world_by_status_as k s (Steps x) done w n)
  status_grows Votes Up x n = (_, refl)
  status_grows Observes Up x n = (_, refl)
  status_grows k (Down after) x n = grows_same w (world_by_status_as k (Down after) (Steps x) done w n) refl
  status_grows Votes (Failed count after) x n = grows_same w (world_by_status_as Votes (Failed count after) (Steps x) done w n) refl
  status_grows Observes (Failed count after) x n = grows_same w (world_by_status_as Observes (Failed count after) (Steps x) done w n) refl

  observer_grows : (pid : ℕ) (x : Input) (o : Option Node) → Grows w (world_at_observer o (record { pid = pid; doing = Steps x }) done w)
  observer_grows pid x None = grows_same w w refl
  observer_grows pid x (Some n) = status_grows Observes n.status x n

  node_grows : (pid : ℕ) (x : Input) → deed_of w.messages e ≡ Some (record { pid = pid; doing = Steps x }) → (o : Option Node) → Grows w (world_at_node o (Steps x) done w)
  node_grows pid x deed None =
      let seen : Grows w (world_observed (deed_of w.messages e) done w) = subst (λ (d : Option Deed). Grows w (world_observed d done w)) (sym deed) (observer_grows pid x (node_at w.observers pid)) in
      (seen.0, seen.1)
  node_grows pid x deed (Some n) = status_grows Votes n.status x n

  step_grows : (pid : ℕ) (x : Input) → deed_of w.messages e ≡ Some (record { pid = pid; doing = Steps x }) → Grows w (world_after w done)
  step_grows pid x deed = subst (λ (d : Option Deed). Grows w (world_with d done w)) (sym deed) (node_grows pid x deed (node_at w.nodes pid))

pub deliver_grows : (w : World) (i : ℕ) → Grows w (world_after w (done_event (event_of (what.Deliver i))))
deliver_grows w i = by (slice_get w.messages i) refl
  where
    by : (o : Option Sent) → slice_get w.messages i ≡ o → Grows w (world_after w (done_event (event_of (what.Deliver i))))
    by None at = grows_same w (world_after w (done_event (event_of (what.Deliver i)))) (ap (λ (o : Option Sent). (world_with (delivery o) (done_event (event_of (what.Deliver i))) w).messages) at)
    by (Some m) at = step_grows w (what.Deliver i) m.to (input.Deliver m.from m.message) (ap delivery at)

-- ---- what a wave delivers
-- a message of this number was sent, and passes the test
abbrev pub Passes : (Sent → Bool) → List Sent → ℕ → Type 0
Passes test ms i = (m : Sent) × (slice_get ms i ≡ Some m) × (test m ≡ true)

longer : {A : Type 0} (pre : List A) (x : A) (n : ℕ) → length pre ≡ n → length (pre ++ x ∷ []) ≡ n + 1
longer pre x n e = length-append pre (x ∷ []) ∙ ap (λ (k : ℕ). k + 1) e

numbers_pass : (test : Sent → Bool) (ms pre : List Sent) (n : ℕ) → length pre ≡ n → Each (Passes test (pre ++ ms)) (numbers_of test n ms)
numbers_pass test [] pre n at = tt
numbers_pass test (m ∷ ms) pre n at =
    let rest : Each (Passes test (pre ++ m ∷ ms)) (numbers_of test (n + 1) ms) =
    subst (λ (l : List Sent). Each (Passes test l) (numbers_of test (n + 1) ms)) (append_assoc pre (m ∷ []) ms) (numbers_pass test ms (pre ++ m ∷ []) (n + 1) (longer pre m n at)) in
    by_test (test m) (λ (b : Bool). Each (Passes test (pre ++ m ∷ ms)) (cond b (n ∷ numbers_of test (n + 1) ms) (numbers_of test (n + 1) ms))) (λ e. ((m, get_behind pre m ms n at, e), rest)) (λ _. rest)

delivered_pass : (test : Sent → Bool) (since : ℕ) (ms : List Sent) → Each (Passes test ms) (numbers_of test since (drop since ms))
delivered_pass test since ms =
    ⊎_elim
    (λ (less : length ms < since). subst (λ (l : List Sent). Each (Passes test ms) (numbers_of test since l)) (sym (drop_of_length-le ms (omega (arith, less)))) tt)
    (λ (within : since ≤ length ms). subst (λ (l : List Sent). Each (Passes test l) (numbers_of test since (drop since ms))) (take-append-drop since ms)
    (numbers_pass test (drop since ms) (take since ms) since (length-take since ms ∙ least since (length ms) within)))
    (cases_lt (length ms) since)
  where
    least : (a b : ℕ) → a ≤ b → min a b ≡ a
    least a b le = omega (arith, le)

pub run_append : (w : World) (xs ys : List Happening) → run_of w (xs ++ ys) ≡ run_of (run_of w xs) ys
run_append w [] ys = refl
run_append w (x ∷ xs) ys = run_append (world_after w x) xs ys

-- ---- behind the heartbeats of a round
abbrev pub deliver : ℕ → Event
deliver i = event_of (what.Deliver i)

pub over_link : (links : Links) (m : Sent) → goes_over links m ≡ true → GoesOver links (Some m)
over_link links m e = let k = and_parts (is_linked links m.from m.to) (not (is_heartbeat m.message.body)) e in (k.0, none (is_heartbeat m.message.body) k.1)
  where
    none : (b : Bool) → not b ≡ true → b ≡ false
    none true e = cc
    none false e = refl

module _ (group : List ℕ) (links : Links) where
  pub behind_append : (xs ys : List Happening) (w : World) → AllComeBehind group links w xs → AllComeBehind group links (run_of w xs) ys → AllComeBehind group links w (xs ++ ys)
  behind_append [] ys w a b = b
  behind_append (h ∷ xs) ys w a b = (a.0, behind_append xs ys (world_after w h) a.1 b)

  pub delivered_behind : (ns : List ℕ) (first w : World) → Grows first w → Each (Passes (goes_over links) first.messages) ns → AllComeBehind group links w (all_done (map deliver ns))
  delivered_behind [] first w g e = tt
  delivered_behind (n ∷ ns) first w g e =
      let m : Sent = (e.0).0 in
      let at : slice_get w.messages n ≡ Some m = ap (λ (l : List Sent). slice_get l n) g.1 ∙ get_front first.messages g.0 n m (e.0).1 in
      let u : World = world_after w (done_event (deliver n)) in (
        (tt, inr (refl, subst (GoesOver links) (sym at) (over_link links m (e.0).2))),
        delivered_behind ns first u (grows_then first w u g (deliver_grows w n)) e.1,
      )

  abbrev pub MayCome : World → List Event → Type 0
  MayCome w es = AllComeBehind group links w (all_done es)

  pub come_append : (xs ys : List Event) (w : World) → MayCome w xs → MayCome (after_events w xs) ys → MayCome w (xs ++ ys)
  come_append xs ys w a b = subst (AllComeBehind group links w) (sym (map-append done_event xs ys)) (behind_append (all_done xs) (all_done ys) w a b)

  pub waves_come : (k since : ℕ) (w : World) → MayCome w (waves links since k w)
  waves_come zero since w = tt
  waves_come (suc k) since w =
      let es : List Event = deliveries (goes_over links) since w.messages in
      come_append es (waves links (length w.messages) k (after_events w es)) w
      (delivered_behind (numbers_of (goes_over links) since (drop since w.messages)) w w (grows_same w w refl) (delivered_pass (goes_over links) since w.messages)) (waves_come k (length w.messages) (after_events w es))

  pub session_comes : (k : ℕ) (l : ℕ × ℕ) (w : World) → MayCome w (session links k l w)
  session_comes k l w = ((tt, inr (refl, tt)), waves_come k (length w.messages) (world_after w (done_event (event_of (what.Up l.0 l.1)))))

  pub sessions_come : (k : ℕ) (ls : List (ℕ × ℕ)) (w : World) → MayCome w (sessions links k ls w)
  sessions_come k [] w = tt
  sessions_come k (l ∷ ls) w = come_append (session links k l w) (sessions links k ls (after_events w (session links k l w))) w (session_comes k l w) (sessions_come k ls (after_events w (session links k l w)))
