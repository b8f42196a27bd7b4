-- What a step of a node, and an opening of one that failed, are to its disks.
use Rattle.std.specs.Set.{is_member}
use Rattle.std.proofs.Common.{◌≡◌, ◌≢◌, ◌⊎◌, ◌≤◌, ◌∷◌, [], ℕ, nat_eq, if◌then◌else◌, Bool, true, false, List, Option, Some, None, Result, Ok, Err, IfSome, IfOk, IfErr, refl, sym, ap, ap₂, subst, ◌∙◌, inl, inr, ⊎_elim}
use Rattle.std.proofs.lemmas.Bool.{cases_Bool, cond-true}
use Rattle.op_types.specs.Changes.{durable_after}
use Rattle.op_types.specs.Ranges.{IsPid, IsMember}
use Rattle.op_types.specs.declared.changes.Change.{Change}
use Rattle.op_types.specs.declared.durable.Durable.{Durable}
use Rattle.op_types.specs.declared.durable.Joining.{Joining}
use Rattle.op_types.specs.declared.durable.Part.{Part}
use Rattle.op_types.specs.declared.events.Input.{Input}
use Rattle.op_types.specs.declared.events.Input.TheVariants as input
use Rattle.op_types.specs.declared.messages.Msg.{Msg}
use Rattle.op_outside.specs.Causes.{Rises, FaultsRose}
use Rattle.op_outside.specs.Disks.{DiskState}
use Rattle.op_protocol.specs.Starting.{state_after_restart}
use Rattle.op_protocol.specs.State.{State}
use Rattle.op_runs.specs.World.{Kind, Votes, Observes, plan_as, sends_as}
use Rattle.op_store.specs.Failing.{faults, IsFaultOf}
use Rattle.op_store.specs.Openings.{refused_by}
use Rattle.op_store.specs.Stored.{KeepBoth}
use Rattle.op_store.specs.Stores.{Represents, disks_of}
use Rattle.op_store.specs.declared.fail.StoreFail.{StoreFail}
use Rattle.op_store.specs.declared.fail.StoreFail.TheVariants as store_fails
use Rattle.op_store.specs.declared.store.Store.{Store}
use Rattle.op_store.proofs.KeptDisks.{keep_same}
use Rattle.op_bounds.specs.States.{IsNamed}
use Rattle.op_bounds.proofs.Known.{servers}
use Rattle.op_bounds.proofs.Steps.{steps_name}
use Rattle.op_types.specs.declared.given.Given.{Given}
use Rattle.op_node.specs.Nodes.{NodeState, node_of, stores, after_input, Stepped, IsRepresented}
use Rattle.op_node.specs.Openings.{OpensAs, TakesWhole, disks_with, durable_for, kept_from, part_for, joining_for, is_watched, watched_part, opening_state}
use Rattle.op_node.proofs.Whole.{watching_stays_whole}
use Rattle.op_node.specs.Reopenings.{StoreOneOf, Restarts, RefusesAgain, count_kept}
use Rattle.op_node.specs.Steps.{Steps as DiskSteps}
use Rattle.op_node.specs.declared.node.Node.{Node}
use Rattle.op_node.specs.declared.fail.StepFail.{StepFail as NodeFail}
use Rattle.op_node.specs.declared.fail.StepFail.TheVariants as fails
use Rattle.op_node.proofs.Refusals.{moved, refusal_tells}
use Rattle.op_node.proofs.Represented.{stepped_represented}
use Rattle.op_node.proofs.Reopenings.{found_one, failed_step, refused_leaves, finds_none}
use Rattle.op_serving.specs.Cores as cores
use Rattle.op_serving.specs.Cores.{Standing, reopens}
use Rattle.op_serving.specs.Fates as fates
use Rattle.op_serving.specs.Fates.{Came, Steps, MayCome, Tells, is_session, after_fate, after_all}
use Rattle.op_serving.proofs.Sessions.{session_stores}
use Rattle.op_serving.specs.Ranges.{InputInRange}
use Rattle.op_serving.specs.Reopenings.{Unstored, all_stored, unstored_after}
use Rattle.op_core.specs.Disks.{FindEach, unstored_after_all, Stores, StepStores}
use Rattle.op_core.specs.Groups.{Told}
use Rattle.op_core.specs.NodeCores.{StateFits, IsServable, handed, handed_again, place_at, standing_by, standing_at, standing_of}
use Rattle.op_core.specs.declared.node_core.NodeCore.{NodeCore}
use Rattle.op_core.specs.declared.place.Place.{Place}
use Rattle.op_core.proofs.NodeCores.{node_by, input_of, gives_at, after_so, same_kind, same_me, same_failed}

-- ---- what a node takes whole

-- whom a durable state names
part_named : (me : ℕ) (p : Part) (b : Bool) → is_member nat_eq p.members me ≡ b → IfSome (if b then Some p else None) (λ q. IsMember q.members me)
part_named me p true e = e
part_named me p false e = tt

part_for_named : (me : ℕ) (o : Option Part) → IfSome (part_for me o) (λ p. IsMember p.members me)
part_for_named me None = tt
part_for_named me (Some p) = part_named me p (is_member nat_eq p.members me) refl

joining_named : (me : ℕ) (j : Joining) (b : Bool) → is_member nat_eq j.members me ≡ b → IfSome (if b then Some j else None) (λ k. IsMember k.members me)
joining_named me j true e = e
joining_named me j false e = tt

joining_for_named : (me : ℕ) (o : Option Joining) → IfSome (joining_for me o) (λ j. IsMember j.members me)
joining_for_named me None = tt
joining_for_named me (Some j) = joining_named me j (is_member nat_eq j.members me) refl

-- what a server that votes takes names it
named_for : (me : ℕ) (d : Durable) → IsNamed me (durable_for me d)
named_for me d = record { part = part_for_named me d.part; joining = joining_for_named me d.joining }

part_taken : (me : ℕ) (o : Option Part) → IfSome o (λ p. IsMember p.members me) → part_for me o ≡ o
part_taken me None named = refl
part_taken me (Some p) named = cond-true (is_member nat_eq p.members me) (Some p) None named

joining_taken : (me : ℕ) (o : Option Joining) → IfSome o (λ j. IsMember j.members me) → joining_for me o ≡ o
joining_taken me None named = refl
joining_taken me (Some j) named = cond-true (is_member nat_eq j.members me) (Some j) None named

-- it takes all of what names it
taken : (me : ℕ) (d : Durable) → IsNamed me d → durable_for me d ≡ d
taken me d named =
    ap (λ (o : Option Part). let e : Durable = record { part = o; closed = d.closed; joining = joining_for me d.joining } in e) (part_taken me d.part named.part)
    ∙ ap (λ (o : Option Joining). let e : Durable = record { part = d.part; closed = d.closed; joining = o } in e) (joining_taken me d.joining named.joining)

-- an observer takes all of what it takes
part_again : (o : Option Part) → watched_part (watched_part o) ≡ watched_part o
part_again None = refl
part_again (Some p) = by (is_watched p) refl
  where
    by : (b : Bool) → is_watched p ≡ b → watched_part (if b then Some p else None) ≡ (if b then Some p else None)
    by true e = cond-true (is_watched p) (Some p) None e
    by false e = refl

-- so does either
pub takes_taken : (k : Kind) (me : ℕ) (d : Durable) → TakesWhole k me (kept_from k me d)
takes_taken Votes me d = taken me (durable_for me d) (named_for me d)
takes_taken Observes me d = ap (λ (o : Option Part). let e : Durable = record { part = o; closed = None; joining = None } in e) (part_again d.part)

takes_one : (k : Kind) (me : ℕ) (d before after : Durable) → (d ≡ before) ⊎ (d ≡ after) → TakesWhole k me before → TakesWhole k me after → TakesWhole k me d
takes_one k me d before after one first second =
    ⊎_elim (λ is. subst (λ (e : Durable). TakesWhole k me e) (sym is) first) (λ is. subst (λ (e : Durable). TakesWhole k me e) (sym is) second) one

-- what a step leaves it takes whole still
step_whole : (k : Kind) (me : ℕ) (s : State) (x : Input) → IsPid me → StateFits k s → InputInRange x → TakesWhole k me s.durable → TakesWhole k me (durable_after s.durable (plan_as k me s x).batch)
step_whole Votes me s x one range r whole =
    taken me (durable_after s.durable (plan_as Votes me s x).batch)
    (steps_name IsPid servers me one s range x (input_of x r) (subst (λ (d : Durable). IsNamed me d) whole (named_for me s.durable)))
step_whole Observes me s x one range r whole = watching_stays_whole me s x whole

pub whole_at : (k : Kind) (me : ℕ) (s : State) (o : Option ℕ) (x : Input) → IsPid me → StateFits k s → InputInRange x → TakesWhole k me s.durable → TakesWhole k me (after_input (node_by k me s o) x).state.durable
whole_at k me s None x one range r whole = step_whole k me s x one range r whole
whole_at k me s (Some count) x one range r whole = whole

-- ---- a node that has failed

stores_nothing : (n : NodeState) (x : Input) (count : ℕ) → n.failed ≡ Some count → stores n x ≡ []
stores_nothing n x count e = ap (λ (o : Option ℕ). stores (record n { failed = o }) x) e

stays_itself : (n : NodeState) (x : Input) (count : ℕ) → n.failed ≡ Some count → after_input n x ≡ n
stays_itself n x count e = ap (λ (o : Option ℕ). after_input (record n { failed = o }) x) e ∙ ap (λ (o : Option ℕ). let m : NodeState = record n { failed = o } in m) (sym e)

-- ---- what serving knows of it

-- the count of faults
faults_by : (o : Option ℕ) (kind : Kind) (me : ℕ) (s : State) (p : Place) (k : ℕ) → (standing_by o kind me s p k).faults ≡ k
faults_by None kind me s p k = refl
faults_by (Some c) kind me s p k = refl

-- a disk failed: where it stood before it shows still
fault_by : (o : Option ℕ) (kind : Kind) (me : ℕ) (s t : State) (p : Place) (k f : ℕ) → (o ≡ None → p ≡ place_at s) → standing_by (Some k) kind me t p k ≡ cores.faulted k (standing_by o kind me s p f)
unfolding cores.faulted
fault_by None kind me s t p k f stood = ap (λ (q : Place). standing_by (Some k) kind me t q k) (stood refl)
fault_by (Some c) kind me s t p k f stood = refl

-- it is opened again
open_by : (o : Option ℕ) (kind : Kind) (me : ℕ) (s : State) (p : Place) (k : ℕ) (d : Durable) → standing_by None kind me (state_after_restart me d) p k ≡ cores.reopened d (standing_by o kind me s p k)
unfolding cores.reopened
open_by None kind me s p k d = refl
open_by (Some c) kind me s p k d = refl

-- messages alone
abbrev given_sends : List (ℕ × Msg) → Given
given_sends ss = record { sends = ss; replies = []; read_replies = []; outcome = None }

given_by : (o : Option ℕ) (kind : Kind) (me : ℕ) (s : State) (p : Place) (k : ℕ) (d : Durable) (ss : List (ℕ × Msg)) → ss ≡ sends_as kind me d → given_sends ss ≡ cores.given_again (standing_by o kind me s p k) d
unfolding cores.given_again
given_by None kind me s p k d ss is = ap given_sends is
given_by (Some c) kind me s p k d ss is = ap given_sends is

module _ {D : Type 0} (state : D → DiskState) where
  -- ---- the same node

  -- its disks store what they stored, if neither it nor its store changed
  pub stores_same : (u : Unstored) (n m : NodeCore D) → node_of m.node ≡ node_of n.node → m.node.store ≡ n.node.store → Stores state u n → Stores state u m
  stores_same u n m same store s = record {
    up = λ up. subst (λ (t : Store D). Represents state (node_of m.node).state.durable t) (sym store) (subst (λ (k : NodeState). Represents state k.state.durable n.node.store) (sym same) (s.up (sym (ap (λ (k : NodeState). k.failed) same) ∙ up)));
    failed = λ down. subst (λ (t : Store D). StoreOneOf u.before.durable u.ahead.durable (disks_of state t)) (sym store) (s.failed (λ e. down (ap (λ (k : NodeState). k.failed) same ∙ e)));
    whole = λ up. subst (λ (k : NodeState). TakesWhole k.kind k.me k.state.durable) (sym same) (s.whole (sym (ap (λ (k : NodeState). k.failed) same) ∙ up));
    before_whole = subst (λ (k : NodeState). TakesWhole k.kind k.me u.before.durable) (sym same) s.before_whole;
    ahead_whole = subst (λ (k : NodeState). TakesWhole k.kind k.me u.ahead.durable) (sym same) s.ahead_whole;
  }

  -- what comes of a node for which only its place was noted comes of it
  module _ (old n : NodeCore D) (same : n.node ≡ old.node) (is : standing_of state n ≡ standing_of state old) where
    noted_over : (u : Unstored) → Stores state u old → Stores state u n
    noted_over u s = stores_same u old n (ap (λ (k : Node D). node_of k) same) (ap (λ (k : Node D). k.store) same) s

    pub noted_stores : (m : NodeCore D) (cs : List Came) → StepStores state n cs m → StepStores state old cs m
    noted_stores m cs s = record {
      kept = subst (λ (k : Node D). KeepBoth (disks_of state k.store) (disks_of state m.node.store)) same s.kept;
      node = s.node ∙ ap (λ (k : Standing). after_all k cs) is;
      found = λ u o. subst (λ (k : Standing). FindEach k u cs) is (s.found u (noted_over u o));
      stored = λ u o. subst (λ (k : Standing). Stores state (unstored_after_all k u cs) m) is (s.stored u (noted_over u o));
    }

    pub noted_steps : (m : NodeCore D) (x : Input) (r : Told) → Steps (standing_of state) (StepStores state) n x r m → Steps (standing_of state) (StepStores state) old x r m
    noted_steps m x r s = record {
      fate = s.fate;
      alone = s.alone;
      fails = s.fails;
      may = subst (λ (k : Standing). MayCome k x s.fate) is s.may;
      tells = subst (λ (k : Standing). Tells r k x s.fate) is s.tells;
      node = s.node ∙ ap (λ (k : Standing). after_fate k x s.fate) is;
      stored = noted_stores m ((x, s.fate) ∷ []) s.stored;
    }

  -- ---- a step

  module _ (n m : NodeCore D) (x : Input) (ready : IsServable n.node) (range : InputInRange x) (stood : n.node.failed ≡ None → n.stood ≡ place_at (node_of n.node).state) (kept_place : m.stood ≡ n.stood) where
    abbrev kind : Kind
    kind = (node_of n.node).kind

    abbrev me : ℕ
    me = (node_of n.node).me

    abbrev before : Durable
    before = (node_of n.node).state.durable

    abbrev batch : List Change
    batch = stores (node_of n.node) x

    abbrev count_now : ℕ
    count_now = faults (disks_of state m.node.store)

    -- the node behind it
    abbrev later : NodeState
    later = after_input (node_of n.node) x

    whole_after : TakesWhole kind me before → TakesWhole later.kind later.me later.state.durable
    whole_after whole = subst (λ (k : Kind). TakesWhole k later.me later.state.durable) (sym (same_kind (node_of n.node) x))
        (subst (λ (p : ℕ). TakesWhole kind p later.state.durable) (sym (same_me (node_of n.node) x))
        (whole_at kind me (node_of n.node).state n.node.failed x ready.me ready.range range whole))

    -- it ends
    done_stores : (given : Given) → Stepped (node_of n.node) x (Ok given) (node_of m.node) → DiskSteps state before batch n.node.store m.node.store (Ok given) → (u : Unstored) → Stores state u n → Stores state u m
    done_stores given d t u s = by_failed n.node.failed refl
      where
        by_failed : (o : Option ℕ) → n.node.failed ≡ o → Stores state u m
        by_failed None e =
            let up : (node_of m.node).failed ≡ None = ap (λ (k : NodeState). k.failed) d.1 ∙ same_failed (node_of n.node) x ∙ e in
            let mine : (node_of m.node).me ≡ me = ap (λ (k : NodeState). k.me) d.1 ∙ same_me (node_of n.node) x in
            let alike : (node_of m.node).kind ≡ kind = ap (λ (k : NodeState). k.kind) d.1 ∙ same_kind (node_of n.node) x in
            record {
              up = λ _. stepped_represented state n.node m.node x given d t (s.up e);
              failed = λ down. absurd (down up);
              whole = λ _. subst (λ (k : NodeState). TakesWhole k.kind k.me k.state.durable) (sym d.1) (whole_after (s.whole e));
              before_whole = subst (λ (k : Kind). TakesWhole k (node_of m.node).me u.before.durable) (sym alike) (subst (λ (p : ℕ). TakesWhole kind p u.before.durable) (sym mine) s.before_whole);
              ahead_whole = subst (λ (k : Kind). TakesWhole k (node_of m.node).me u.ahead.durable) (sym alike) (subst (λ (p : ℕ). TakesWhole kind p u.ahead.durable) (sym mine) s.ahead_whole);
            }
        by_failed (Some count) e = stores_same u n m (d.1 ∙ stays_itself (node_of n.node) x count e) (t.idle (stores_nothing (node_of n.node) x count e)) s

    -- a disk fails
    fault_stores : (count : ℕ) → Stepped (node_of n.node) x (Err (fails.DiskFail count)) (node_of m.node) → DiskSteps {T = Given} state before batch n.node.store m.node.store (Err (fails.DiskFail count)) → (u : Unstored) → Stores state u n
        → (o : Option ℕ) → n.node.failed ≡ o → Stores state (unstored_after (standing_by o kind me (node_of n.node).state n.stood (faults (disks_of state n.node.store))) x (fates.faults count) u) m
    fault_stores count d t u s (Some c) e = absurd (t.unfailing (stores_nothing (node_of n.node) x c e) count refl)
    fault_stores count d t u s None e =
        let made : batch ≡ (plan_as kind me (node_of n.node).state x).batch = ap (λ (o : Option ℕ). stores (record (node_of n.node) { failed = o }) x) e in
        let after : Durable = durable_after before (plan_as kind me (node_of n.node).state x).batch in
        let one : StoreOneOf before after (disks_of state m.node.store) = subst (λ (b : List Change). StoreOneOf before (durable_after before b) (disks_of state m.node.store)) made (failed_step state before batch n.node.store m.node.store count t (s.up e)) in
        let goes : TakesWhole kind me after = step_whole kind me (node_of n.node).state x ready.me ready.range range (s.whole e) in
        record {
          up = λ up. let bad : Some count ≡ None = sym (ap (λ (k : NodeState). k.failed) d) ∙ up in absurd cc;
          failed = λ _. one;
          whole = λ up. let bad : Some count ≡ None = sym (ap (λ (k : NodeState). k.failed) d) ∙ up in absurd cc;
          before_whole = subst (λ (k : NodeState). TakesWhole k.kind k.me before) (sym d) (s.whole e);
          ahead_whole = subst (λ (k : NodeState). TakesWhole k.kind k.me after) (sym d) goes;
        }

    -- of an Up and of a Down nothing is stored, so no disk fails for one
    no_session : (count : ℕ) → DiskSteps {T = Given} state before batch n.node.store m.node.store (Err (fails.DiskFail count)) → (is_session x ≡ true) ⊎ (is_session x ≡ false) → is_session x ≡ false
    no_session count t (inl tells) = absurd (t.unfailing (stores_of n.node.failed refl) count refl)
      where
        stores_of : (o : Option ℕ) → n.node.failed ≡ o → batch ≡ []
        stores_of None e = ap (λ (o : Option ℕ). stores (record (node_of n.node) { failed = o }) x) e ∙ session_stores kind me x (node_of n.node).state tells
        stores_of (Some c) e = stores_nothing (node_of n.node) x c e
    no_session count t (inr other) = other

    -- it is the step that serving knows
    pub did : (result : Result Given NodeFail) → reopens (standing_of state n) x ≡ false → Stepped (node_of n.node) x result (node_of m.node) → DiskSteps state before batch n.node.store m.node.store result
        → Steps (standing_of state) (StepStores state) n x (handed result) m
    did (Ok given) shut d t =
        let f : ℕ = faults (disks_of state n.node.store) in
        let is : standing_of state m ≡ cores.after_input (standing_of state n) x =
        ap (λ (p : Place). standing_at (node_of m.node) p count_now) kept_place ∙ ap₂ (λ (k : NodeState) (j : ℕ). standing_at k n.stood j) d.1 t.cause.1 ∙ after_so kind me (node_of n.node).state n.node.failed n.stood f x in
        record {
          fate = fates.done;
          alone = tt;
          fails = tt;
          may = shut;
          tells = d.0 ∙ gives_at kind me (node_of n.node).state n.node.failed n.stood f x;
          node = is;
          stored = record { kept = t.kept; node = is; found = λ u s. (tt, tt); stored = done_stores given d t };
        }
    did (Err (fails.DiskFail count)) shut d t =
        let f : ℕ = faults (disks_of state n.node.store) in
        let told = t.cause.1.0 in
        let is : standing_of state m ≡ cores.faulted count (standing_of state n) =
        ap (λ (p : Place). standing_at (node_of m.node) p count_now) kept_place
        ∙ ap₂ (λ (k : NodeState) (j : ℕ). standing_at k n.stood j) d (sym told)
        ∙ fault_by n.node.failed kind me (node_of n.node).state (node_of n.node).state n.stood count f stood in
        record {
          fate = fates.faults count;
          alone = tt;
          fails = no_session count t (cases_Bool (is_session x));
          may =
              let rises : Rises f count = record { later = subst (λ k. f ≤ k) (sym told) t.cause.0; rose = subst (FaultsRose f) (sym told) t.cause.1.1 } in
              subst (λ (j : ℕ). Rises j count) (sym (faults_by n.node.failed kind me (node_of n.node).state n.stood f)) rises;
          tells = refl;
          node = is;
          stored = record { kept = t.kept; node = is; found = λ u s. (tt, tt); stored = λ u s. fault_stores count d t u s n.node.failed refl };
        }
    did (Err fails.NoMemory) shut d t =
        let is : standing_of state m ≡ standing_of state n =
        ap (λ (p : Place). standing_at (node_of m.node) p count_now) kept_place ∙ ap₂ (λ (k : NodeState) (j : ℕ). standing_at k n.stood j) d t.cause.1 in
        record {
          fate = fates.lost;
          alone = tt;
          fails = tt;
          may = tt;
          tells = tt;
          node = is;
          stored = record { kept = t.kept; node = is; found = λ u s. (tt, tt); stored = λ u s. stores_same u n m d (t.untouched refl) s };
        }

  -- ---- an opening of a node that failed

  down_by : (o : Option ℕ) (kind : Kind) (me : ℕ) (s : State) (p : Place) (k : ℕ) → reopens (standing_by o kind me s p k) input.Tick ≡ true → o ≢ None
  down_by None kind me s p k down = absurd cc
  down_by (Some c) kind me s p k down = λ is. absurd cc

  pub has_failed : (n : NodeCore D) → reopens (standing_of state n) input.Tick ≡ true → (node_of n.node).failed ≢ None
  has_failed n down = down_by n.node.failed (node_of n.node).kind (node_of n.node).me (node_of n.node).state n.stood (faults (disks_of state n.node.store)) down

  module _ (n m : NodeCore D) (down : reopens (standing_of state n) input.Tick ≡ true) (kept_place : m.stood ≡ n.stood) where
    abbrev own : Kind
    own = (node_of n.node).kind

    abbrev pid : ℕ
    pid = (node_of n.node).me

    abbrev stored : Durable
    stored = (node_of n.node).state.durable

    abbrev faults_before : ℕ
    faults_before = faults (disks_of state n.node.store)

    abbrev faults_now : ℕ
    faults_now = faults (disks_of state m.node.store)

    failed_before : (node_of n.node).failed ≢ None
    failed_before = has_failed n down

    placed : standing_of state m ≡ standing_at (node_of m.node) n.stood faults_now
    placed = ap (λ (p : Place). standing_at (node_of m.node) p faults_now) kept_place

    -- it is opened, and finds one of two
    module _ (d : Durable) (is_new : Bool) (sends : List (ℕ × Msg)) (r : Restarts state d is_new n.node m.node sends) where
      finds : (u : Unstored) → Stores state u n → (d ≡ u.before.durable) ⊎ (d ≡ u.ahead.durable)
      finds u s =
          let one = s.failed failed_before in
          let disks = disks_of state n.node.store in
          (found_one u.before.durable u.ahead.durable disks.first.content disks.second.content one.read stored d is_new (r.opened.found one.obey)).1

      -- what it takes
      abbrev takes : Durable
      takes = kept_from own pid d

      all_of : (u : Unstored) → Stores state u n → TakesWhole own pid d
      all_of u s = takes_one own pid d u.before.durable u.ahead.durable (finds u s) s.before_whole s.ahead_whole

      opened_stores : (u : Unstored) → Stores state u n → Stores state u m
      opened_stores u s =
          let is : (node_of m.node).state.durable ≡ d = ap (λ (k : NodeState). k.state.durable) r.node ∙ all_of u s in
          record {
            up = λ _. subst (λ (e : Durable). Represents state e m.node.store) (sym is) (r.opened.stored (s.failed failed_before).obey);
            failed = λ not. absurd (not (ap (λ (k : NodeState). k.failed) r.node));
            whole = λ _. subst (λ (k : NodeState). TakesWhole k.kind k.me k.state.durable) (sym r.node) (takes_taken own pid d);
            before_whole = subst (λ (k : NodeState). TakesWhole k.kind k.me u.before.durable) (sym r.node) s.before_whole;
            ahead_whole = subst (λ (k : NodeState). TakesWhole k.kind k.me u.ahead.durable) (sym r.node) s.ahead_whole;
          }

      pub did_open : Steps (standing_of state) (StepStores state) n input.Tick (handed_again (Ok sends)) m
      did_open =
          let is : standing_of state m ≡ cores.reopened takes (standing_of state n) =
          placed ∙ ap₂ (λ (k : NodeState) (j : ℕ). standing_at k n.stood j) r.node r.opened.no_fault
          ∙ open_by n.node.failed own pid (node_of n.node).state n.stood faults_before takes in
          record {
            fate = fates.finds takes;
            alone = tt;
            fails = tt;
            may = down;
            tells = given_by n.node.failed own pid (node_of n.node).state n.stood faults_before takes sends r.sends_are;
            node = is;
            stored = record {
              kept = r.opened.kept;
              node = is;
              found = λ u s. (⊎_elim (λ e. inl (all_of u s ∙ e)) (λ e. inr (all_of u s ∙ e)) (finds u s), tt);
              stored = opened_stores;
            };
          }

    -- it is refused, and has failed still
    module _ (cause : StoreFail) (r : RefusesAgain state n.node m.node cause) where
      refused_kept : KeepBoth (disks_of state n.node.store) (disks_of state m.node.store)
      refused_kept = ⊎_elim (λ q. q.kept)
          (λ q. ⊎_elim
          (λ same. moved state (KeepBoth (disks_of state n.node.store)) n.node.store.first n.node.store.second m.node.store.first m.node.store.second same.0 same.1 (keep_same (disks_of state n.node.store)))
          (λ h. moved state (KeepBoth (disks_of state n.node.store)) h.store.first h.store.second m.node.store.first m.node.store.second h.same.0 h.same.1 h.opened.kept)
          q.left) r.disks

      refused_tells : IsFaultOf faults_before faults_now cause
      refused_tells = refusal_tells state stored n.node.store.first n.node.store.second (refused_by m.node.store cause) r.disks

      still_failed : (c : StoreFail) → count_kept (node_of n.node).failed c ≢ None
      still_failed (store_fails.DiskFault count) = λ e. absurd cc
      still_failed (store_fails.Damaged area at) = failed_before
      still_failed (store_fails.NewerVersion area version) = failed_before
      still_failed store_fails.NoMemory = failed_before

      refused_stores : (u : Unstored) → Stores state u n → Stores state u m
      refused_stores u s = record {
        up = λ up. absurd (still_failed cause (sym (ap (λ (k : NodeState). k.failed) r.node) ∙ up));
        failed = λ _. refused_leaves state stored u.before.durable u.ahead.durable n.node.store m.node.store cause r.disks (s.failed failed_before);
        whole = λ up. absurd (still_failed cause (sym (ap (λ (k : NodeState). k.failed) r.node) ∙ up));
        before_whole = subst (λ (k : NodeState). TakesWhole k.kind k.me u.before.durable) (sym r.node) s.before_whole;
        ahead_whole = subst (λ (k : NodeState). TakesWhole k.kind k.me u.ahead.durable) (sym r.node) s.ahead_whole;
      }

    -- for a fault the count rose
    rises : (count : ℕ) (r : RefusesAgain state n.node m.node (store_fails.DiskFault count)) → Rises faults_before count
    rises count r =
        let told = refused_tells (store_fails.DiskFault count) r in
        let later : faults_before ≤ faults_now = ⊎_elim (λ q. q.later) (λ q. let no = q.cause in absurd cc) r.disks in
        record { later = subst (λ k. faults_before ≤ k) (sym told.0) later; rose = subst (FaultsRose faults_before) (sym told.0) told.1 }

    -- what was to be stored for which they had failed was to be stored still
    still_unstored : (count : ℕ) (u : Unstored) (o : Option ℕ) → n.node.failed ≡ o → Stores state u m → Stores state (unstored_after (standing_by o own pid (node_of n.node).state n.stood faults_before) input.Tick (fates.faults count) u) m
    still_unstored count u None e s = absurd (failed_before e)
    still_unstored count u (Some c) e s = s

    pub did_not : (cause : StoreFail) → RefusesAgain state n.node m.node cause → Steps (standing_of state) (StepStores state) n input.Tick (handed_again (Err cause)) m
    did_not (store_fails.DiskFault count) r =
        let told = refused_tells (store_fails.DiskFault count) r in
        let is : standing_of state m ≡ cores.faulted count (standing_of state n) =
        placed ∙ ap₂ (λ (k : NodeState) (j : ℕ). standing_at k n.stood j) r.node (sym told.0)
        ∙ fault_by n.node.failed own pid (node_of n.node).state (node_of n.node).state n.stood count faults_before (λ e. absurd (failed_before e)) in
        record {
          fate = fates.faults count;
          alone = tt;
          fails = refl;
          may = subst (λ (j : ℕ). Rises j count) (sym (faults_by n.node.failed own pid (node_of n.node).state n.stood faults_before)) (rises count r);
          tells = refl;
          node = is;
          stored = record {
            kept = refused_kept (store_fails.DiskFault count) r;
            node = is;
            found = λ u s. (tt, tt);
            stored = λ u s. still_unstored count u n.node.failed refl (refused_stores (store_fails.DiskFault count) r u s);
          };
        }
    did_not (store_fails.Damaged area at) r =
        let is : standing_of state m ≡ standing_of state n = placed ∙ ap₂ (λ (k : NodeState) (j : ℕ). standing_at k n.stood j) r.node (refused_tells (store_fails.Damaged area at) r) in
        record {
          fate = fates.damaged;
          alone = tt;
          fails = tt;
          may = down;
          tells = tt;
          node = is;
          stored = record {
            kept = refused_kept (store_fails.Damaged area at) r;
            node = is;
            found = λ u s. absurd ((finds_none state u.before.durable u.ahead.durable n.node m.node (store_fails.Damaged area at) r (s.failed failed_before)).undamaged area at refl);
            stored = refused_stores (store_fails.Damaged area at) r;
          };
        }
    did_not (store_fails.NewerVersion area version) r =
        let is : standing_of state m ≡ standing_of state n = placed ∙ ap₂ (λ (k : NodeState) (j : ℕ). standing_at k n.stood j) r.node (refused_tells (store_fails.NewerVersion area version) r) in
        record {
          fate = fates.damaged;
          alone = tt;
          fails = tt;
          may = down;
          tells = tt;
          node = is;
          stored = record {
            kept = refused_kept (store_fails.NewerVersion area version) r;
            node = is;
            found = λ u s. absurd ((finds_none state u.before.durable u.ahead.durable n.node m.node (store_fails.NewerVersion area version) r (s.failed failed_before)).not_newer area version refl);
            stored = refused_stores (store_fails.NewerVersion area version) r;
          };
        }
    did_not store_fails.NoMemory r =
        let is : standing_of state m ≡ standing_of state n = placed ∙ ap₂ (λ (k : NodeState) (j : ℕ). standing_at k n.stood j) r.node (refused_tells store_fails.NoMemory r) in
        record {
          fate = fates.lost;
          alone = tt;
          fails = tt;
          may = tt;
          tells = tt;
          node = is;
          stored = record { kept = refused_kept store_fails.NoMemory r; node = is; found = λ u s. (tt, tt); stored = refused_stores store_fails.NoMemory r };
        }

    -- whatever it answers
    pub did_again : (result : Result (List (ℕ × Msg)) StoreFail) → IfOk result (λ sends. (d : Durable) × (is_new : Bool) × Restarts state d is_new n.node m.node sends) → IfErr result (RefusesAgain state n.node m.node)
        → Steps (standing_of state) (StepStores state) n input.Tick (handed_again result) m
    did_again (Ok sends) opened refused = did_open opened.0 opened.1 sends opened.2
    did_again (Err cause) opened refused = did_not cause refused

  -- ---- a node that is opened

  opening_stores : (kind : Kind) (id : ℕ) (is_new : Bool) (d : Durable) → (opening_state kind id is_new d).durable ≡ kept_from kind id d
  opening_stores kind id true d = refl
  opening_stores kind id false d = refl

  pub opened_stores_so : (kind : Kind) (id : ℕ) (members : List ℕ) (first second : D) (n : NodeCore D) (sends : List (ℕ × Msg)) → OpensAs kind state id members (disks_with state first second) n.node sends
      → IsRepresented state n.node → Stores state (all_stored (node_of n.node).state) n
  opened_stores_so kind id members first second n sends o stood =
      let all : TakesWhole kind id (opening_state kind id o.is_new o.durable).durable = subst (λ (d : Durable). TakesWhole kind id d) (sym (opening_stores kind id o.is_new o.durable)) (takes_taken kind id o.durable) in
      let here : TakesWhole (node_of n.node).kind (node_of n.node).me (node_of n.node).state.durable = subst (λ (k : NodeState). TakesWhole k.kind k.me k.state.durable) (sym o.node) all in
      record { up = λ _. stood; failed = λ not. absurd (not (ap (λ (k : NodeState). k.failed) o.node)); whole = λ _. here; before_whole = here; ahead_whole = here }
