-- Inputs that are taken one after the other by a node that is up, and stored by one commit.
use Rattle.std.proofs.Common.{◌≡◌, ◌≢◌, ◌++◌, ◌-◌, ◌∷◌, [], ℕ, suc, List, length, take, true, false, Option, Some, None, Ok, Err, All, refl, sym, ap, subst, ◌∙◌, append_assoc, arith, length-append}
use Rattle.std.proofs.lemmas.List.Elements.{All-nil, All-cons, All-head, All-tail}
use Rattle.std.proofs.lemmas.List.{take_at}
use Rattle.std.proofs.Math.ListN.{replicate}
use Rattle.std.specs.Prelude.{option_map}
use Rattle.op_types.specs.Changes.{durable_after}
use Rattle.op_types.specs.declared.changes.Change.{Change}
use Rattle.op_types.specs.declared.durable.Durable.{Durable}
use Rattle.op_types.specs.declared.events.Input.{Input}
use Rattle.op_types.specs.declared.events.Input.TheVariants as input
use Rattle.op_outside.specs.Causes.{Rises, FaultsRose}
use Rattle.op_outside.specs.Disks.{DiskState}
use Rattle.op_protocol.specs.State.{State, state_after}
use Rattle.op_runs.specs.World.{Kind, plan_as}
use Rattle.op_store.specs.Failing.{faults}
use Rattle.op_store.specs.Stored.{KeepBoth}
use Rattle.op_store.specs.Stores.{Represents, disks_of}
use Rattle.op_store.specs.declared.store.Store.{Store}
use Rattle.op_node.specs.Nodes.{NodeState, node_of}
use Rattle.op_node.specs.Openings.{TakesWhole}
use Rattle.op_node.specs.Reopenings.{StoreOneOf}
use Rattle.op_node.specs.declared.bound.Bound.{Bound}
use Rattle.op_node.specs.Taking.{StoresAtOnce}
use Rattle.op_node.specs.declared.node.Node.{Node}
use Rattle.op_node.specs.declared.record.Record.{Record}
use Rattle.op_node.proofs.Taken.{at_once_left}
use Rattle.op_serving.specs.Cores as cores
use Rattle.op_serving.specs.Cores.{Standing, reopens}
use Rattle.op_serving.specs.Fates.{done, faults as faulting, shares, lost, Came, inputs_of, after_all, MayComeAll, TellAll}
use Rattle.op_serving.specs.Reopenings.{Unstored, unstored_after}
use Rattle.op_core.specs.Disks.{FindEach, unstored_after_all, Stores}
use Rattle.op_core.specs.Groups.{Told, ToldInRange, failed_with, starved, IsCalm, EndsAs, IsFull, Comes, GoesTogether, GoesOn, state_all, told_all, changes_all, changes_at, up_node, Took, StoredAs}
use Rattle.op_core.specs.NodeCores.{place_at, standing_by, standing_of}
use Rattle.op_core.specs.declared.end.End.{End}
use Rattle.op_core.specs.declared.end.End.TheVariants.{Settled, Broke, Lost}
use Rattle.op_core.specs.declared.node_core.NodeCore.{NodeCore}
use Rattle.op_core.proofs.Came.{settles, stays, not_last, inputs_both, comes_lost, lost_behind, lost_unsettled}
use Rattle.op_core.proofs.Disks.{noted_stores}

-- a node that is up
abbrev up : Kind → ℕ → State → ℕ → Standing
up o me s f = record { kind = o; me = me; state = s; failed = None; faults = f }

-- all of these were stored; or a disk failed
abbrev all_done : List Input → List Came
all_done [] = []
all_done (x ∷ xs) = (x, done) ∷ all_done xs

abbrev all_share : ℕ → List Input → List Came
all_share k [] = []
all_share k (x ∷ xs) = (x, shares k) ∷ all_share k xs

abbrev broken : ℕ → List Input → List Came
broken k [] = []
broken k (x ∷ xs) = (x, faulting k) ∷ all_share k xs

-- what is told then
abbrev all_failed : ℕ → List Input → List Told
all_failed k [] = []
all_failed k (x ∷ xs) = failed_with k ∷ all_failed k xs

done_inputs : (ts : List Input) → inputs_of (all_done ts) ≡ ts
done_inputs [] = refl
done_inputs (x ∷ xs) = ap (λ (ys : List Input). x ∷ ys) (done_inputs xs)

share_inputs : (k : ℕ) (ts : List Input) → inputs_of (all_share k ts) ≡ ts
share_inputs k [] = refl
share_inputs k (x ∷ xs) = ap (λ (ys : List Input). x ∷ ys) (share_inputs k xs)

broken_inputs : (k : ℕ) (ts : List Input) → inputs_of (broken k ts) ≡ ts
broken_inputs k [] = refl
broken_inputs k (x ∷ xs) = ap (λ (ys : List Input). x ∷ ys) (share_inputs k xs)

done_settles : (ts : List Input) → All settles (all_done ts)
done_settles [] = All-nil settles
done_settles (x ∷ xs) = All-cons settles (x, done) (all_done xs) refl (done_settles xs)

done_stays : (ts : List Input) → All stays (all_done ts)
done_stays [] = All-nil stays
done_stays (x ∷ xs) = All-cons stays (x, done) (all_done xs) refl (done_stays xs)

share_stays : (k : ℕ) (ts : List Input) → All stays (all_share k ts)
share_stays k [] = All-nil stays
share_stays k (x ∷ xs) = All-cons stays (x, shares k) (all_share k xs) refl (share_stays k xs)

broken_stays : (k : ℕ) (ts : List Input) → All stays (broken k ts)
broken_stays k [] = All-nil stays
broken_stays k (x ∷ xs) = All-cons stays (x, faulting k) (all_share k xs) refl (share_stays k xs)

broken_unsettled : (k : ℕ) (ts : List Input) → ts ≢ [] → All settles (broken k ts) → ⊥
broken_unsettled k [] some all = some refl
broken_unsettled k (x ∷ xs) some all = let bad : false ≡ true = All-head settles (x, faulting k) (all_share k xs) all in absurd (cc)

-- ---- they were stored

up_stays : (o : Kind) (me : ℕ) (s : State) (f : ℕ) (x : Input) → reopens (up o me s f) x ≡ false
up_stays o me s f input.Tick = refl
up_stays o me s f (input.Deliver q m) = refl
up_stays o me s f (input.Commands cs) = refl
up_stays o me s f (input.Stop members) = refl
up_stays o me s f input.TrimNow = refl
up_stays o me s f (input.Read r) = refl
up_stays o me s f (input.Up q) = refl
up_stays o me s f (input.Down q) = refl

up_goes : (o : Kind) (me : ℕ) (s : State) (f : ℕ) (x : Input) → cores.after_input (up o me s f) x ≡ up o me (state_after s (plan_as o me s x)) f
unfolding cores.after_input
up_goes o me s f x = refl

up_gives : (o : Kind) (me : ℕ) (s : State) (f : ℕ) (x : Input) → cores.given_of (plan_as o me s x) ≡ cores.gives (up o me s f) x
unfolding cores.gives
up_gives o me s f x = refl

done_after : (o : Kind) (me : ℕ) (s : State) (f : ℕ) (ts : List Input) → after_all (up o me s f) (all_done ts) ≡ up o me (state_all o me s ts) f
done_after o me s f [] = refl
done_after o me s f (x ∷ xs) = ap (λ (n : Standing). after_all n (all_done xs)) (up_goes o me s f x) ∙ done_after o me (state_after s (plan_as o me s x)) f xs

done_may : (o : Kind) (me : ℕ) (s : State) (f : ℕ) (ts : List Input) → MayComeAll (up o me s f) None (all_done ts)
done_may o me s f [] = tt
done_may o me s f (x ∷ xs) = (
  up_stays o me s f x,
  tt,
  not_last done (all_done xs) refl,
  subst (λ (n : Standing). MayComeAll n None (all_done xs)) (sym (up_goes o me s f x)) (done_may o me (state_after s (plan_as o me s x)) f xs),
)

done_tell : (o : Kind) (me : ℕ) (s : State) (f : ℕ) (ts : List Input) → TellAll (told_all o me s ts) (up o me s f) (all_done ts)
done_tell o me s f [] = refl
done_tell o me s f (x ∷ xs) = (
  up_gives o me s f x,
  subst (λ (n : Standing). TellAll (told_all o me (state_after s (plan_as o me s x)) xs) n (all_done xs)) (sym (up_goes o me s f x)) (done_tell o me (state_after s (plan_as o me s x)) f xs),
)

done_find : (n : Standing) (u : Unstored) (ts : List Input) → FindEach n u (all_done ts)
done_find n u [] = tt
done_find n u (x ∷ xs) = (tt, done_find (cores.after_input n x) u xs)

done_unstored : (n : Standing) (u : Unstored) (ts : List Input) → unstored_after_all n u (all_done ts) ≡ u
done_unstored n u [] = refl
done_unstored n u (x ∷ xs) = done_unstored (cores.after_input n x) u xs

-- ---- a disk failed

calm_stays : (n : Standing) (x : Input) → IsCalm x → reopens n x ≡ false
calm_stays n input.Tick calm = absurd calm
calm_stays n (input.Deliver q m) calm = refl
calm_stays n (input.Commands cs) calm = refl
calm_stays n (input.Stop members) calm = refl
calm_stays n input.TrimNow calm = refl
calm_stays n (input.Read r) calm = refl
calm_stays n (input.Up q) calm = refl
calm_stays n (input.Down q) calm = refl

share_after : (k : ℕ) (n : Standing) (ts : List Input) → after_all n (all_share k ts) ≡ n
share_after k n [] = refl
share_after k n (x ∷ xs) = share_after k n xs

share_may : (k : ℕ) (n : Standing) (ts : List Input) → option_map (λ (f : cores.Failure). f.count) n.failed ≡ Some k → All IsCalm ts → MayComeAll n (Some k) (all_share k ts)
share_may k n [] is calm = tt
share_may k n (x ∷ xs) is calm = (
  (is, calm_stays n x (All-head IsCalm x xs calm)),
  refl,
  not_last (shares k) (all_share k xs) refl,
  share_may k n xs is (All-tail IsCalm x xs calm),
)

share_tell : (k : ℕ) (n : Standing) (ts : List Input) → TellAll (all_failed k ts) n (all_share k ts)
share_tell k n [] = refl
share_tell k n (x ∷ xs) = (refl, share_tell k n xs)

share_find : (k : ℕ) (n : Standing) (u : Unstored) (ts : List Input) → FindEach n u (all_share k ts)
share_find k n u [] = tt
share_find k n u (x ∷ xs) = (tt, share_find k n (unstored_after n x (shares k) u) xs)

share_unstored : (k : ℕ) (n : Standing) (before ahead : State) (ts : List Input) → unstored_after_all n (record { before = before; ahead = ahead }) (all_share k ts) ≡ record { before = before; ahead = state_all n.kind n.me ahead ts }
share_unstored k n before ahead [] = refl
share_unstored k n before ahead (x ∷ xs) = share_unstored k n before (state_after ahead (plan_as n.kind n.me ahead x)) xs

faulted_me : (k : ℕ) (n : Standing) → (cores.faulted k n).me ≡ n.me
unfolding cores.faulted
faulted_me k n = refl

faulted_kind : (k : ℕ) (n : Standing) → (cores.faulted k n).kind ≡ n.kind
unfolding cores.faulted
faulted_kind k n = refl

faulted_count : (k : ℕ) (o : Kind) (me : ℕ) (s : State) (f : ℕ) → option_map (λ (g : cores.Failure). g.count) (cores.faulted k (up o me s f)).failed ≡ Some k
unfolding cores.faulted
faulted_count k o me s f = refl

broken_may : (k : ℕ) (o : Kind) (me : ℕ) (s : State) (f : ℕ) (ts : List Input) → Rises f k → All IsCalm ts → MayComeAll (up o me s f) None (broken k ts)
broken_may k o me s f [] rises calm = tt
broken_may k o me s f (x ∷ xs) rises calm = (
  rises,
  tt,
  not_last (faulting k) (all_share k xs) refl,
  share_may k (cores.faulted k (up o me s f)) xs (faulted_count k o me s f) (All-tail IsCalm x xs calm),
)

broken_tell : (k : ℕ) (n : Standing) (ts : List Input) → TellAll (all_failed k ts) n (broken k ts)
broken_tell k n [] = refl
broken_tell k n (x ∷ xs) = (refl, share_tell k (cores.faulted k n) xs)

broken_find : (k : ℕ) (n : Standing) (u : Unstored) (ts : List Input) → FindEach n u (broken k ts)
broken_find k n u [] = tt
broken_find k n u (x ∷ xs) = (tt, share_find k (cores.faulted k n) (unstored_after n x (faulting k) u) xs)

broken_after : (k : ℕ) (n : Standing) (ts : List Input) → ts ≢ [] → after_all n (broken k ts) ≡ cores.faulted k n
broken_after k n [] some = absurd (some refl)
broken_after k n (x ∷ xs) some = share_after k (cores.faulted k n) xs

broken_unstored : (k : ℕ) (o : Kind) (me : ℕ) (s : State) (f : ℕ) (u : Unstored) (ts : List Input) → ts ≢ [] → unstored_after_all (up o me s f) u (broken k ts) ≡ record { before = s; ahead = state_all o me s ts }
broken_unstored k o me s f u [] some = absurd (some refl)
broken_unstored k o me s f u (x ∷ xs) some =
    let n : Standing = cores.faulted k (up o me s f) in
    let ahead : State = state_after s (plan_as o me s x) in
    share_unstored k n s ahead xs ∙ ap (λ (p : ℕ). let v : Unstored = record { before = s; ahead = state_all n.kind p ahead xs } in v) (faulted_me k (up o me s f))
    ∙ ap (λ (q : Kind). let v : Unstored = record { before = s; ahead = state_all q me ahead xs } in v) (faulted_kind k (up o me s f))

-- where it stood before is what it shows
faulted_is : (k : ℕ) (o : Kind) (me : ℕ) (s : State) (f : ℕ) → standing_by (Some k) o me (state_all o me s []) (place_at s) k ≡ cores.faulted k (up o me s f)
unfolding cores.faulted
faulted_is k o me s f = refl

-- so many answers
failed_are : (k : ℕ) (ts : List Input) → replicate (length ts) (failed_with k) ≡ all_failed k ts
failed_are k [] = refl
failed_are k (x ∷ xs) = ap (λ (rs : List Told). failed_with k ∷ rs) (failed_are k xs)

failed_in : (k : ℕ) (ts : List Input) → All ToldInRange (all_failed k ts)
failed_in k [] = All-nil ToldInRange
failed_in k (x ∷ xs) = All-cons ToldInRange (failed_with k) (all_failed k xs) tt (failed_in k xs)

told_many : (o : Kind) (me : ℕ) (s : State) (ts : List Input) → length (told_all o me s ts) ≡ length ts
told_many o me s [] = refl
told_many o me s (x ∷ xs) = ap (λ (n : ℕ). suc n) (told_many o me (state_after s (plan_as o me s x)) xs)

-- ---- a node that is served took inputs

module _ {D : Type 0} (state : D → DiskState) (mid new : NodeCore D) (n : Node D) (ts : List Input) (before after : List Told) (g : Record)
    (runs : mid.node.failed ≡ None) (took : Took mid.node ts before after g n) where
  abbrev o : Kind
  o = (node_of mid.node).kind

  abbrev me : ℕ
  me = (node_of mid.node).me

  abbrev s : State
  s = (node_of mid.node).state

  abbrev f : ℕ
  f = faults (disks_of state mid.node.store)

  abbrev ahead : State
  ahead = state_all o me s ts

  abbrev changes : List Change
  changes = changes_all o me s ts

  is_up : standing_of state mid ≡ up o me s f
  is_up = ap (λ (q : Option ℕ). standing_by q o me s mid.stood f) runs

  same_faults : faults (disks_of state n.store) ≡ f
  same_faults = ap (λ (t : Store D). faults (disks_of state t)) took.store

  goes : durable_after s.durable changes ≡ ahead.durable
  goes = took.leads.ahead ∙ ap (λ (k : NodeState). k.state.durable) took.node

  represents : (u : Unstored) → Stores state u mid → Represents state s.durable n.store
  represents u st = subst (λ (t : Store D). Represents state s.durable t) (sym took.store) (st.up runs)

  kept_so : KeepBoth (disks_of state n.store) (disks_of state new.node.store) → KeepBoth (disks_of state mid.node.store) (disks_of state new.node.store)
  kept_so kept = subst (λ (t : Store D). KeepBoth (disks_of state t) (disks_of state new.node.store)) took.store kept

  ahead_whole_so : TakesWhole o me s.durable → TakesWhole o me ahead.durable
  ahead_whole_so whole = subst (λ (k : NodeState). TakesWhole o me k.state.durable) took.node (took.whole whole)

  -- they are stored
  module _ (same : node_of new.node ≡ node_of n) (bound : Bound) (at : StoresAtOnce state s.durable changes n.store new.node.store (Ok bound)) where
    is_node : node_of new.node ≡ up_node o me ahead
    is_node = same ∙ took.node

    stored_unstored : (u : Unstored) → Stores state u mid → Stores state u new
    stored_unstored u st = record {
      up = λ _. subst (λ (d : Durable). Represents state d new.node.store) (goes ∙ sym (ap (λ (k : NodeState). k.state.durable) is_node)) (at.commits (represents u st)).stored;
      failed = λ down. absurd (down (ap (λ (k : NodeState). k.failed) is_node));
      whole = λ _. subst (λ (k : NodeState). TakesWhole k.kind k.me k.state.durable) (sym is_node) (ahead_whole_so (st.whole runs));
      before_whole = subst (λ (k : NodeState). TakesWhole k.kind k.me u.before.durable) (sym is_node) st.before_whole;
      ahead_whole = subst (λ (k : NodeState). TakesWhole k.kind k.me u.ahead.durable) (sym is_node) st.ahead_whole;
    }

    stored_is : standing_of state new ≡ after_all (standing_of state mid) (all_done ts)
    stored_is =
        ap (λ (k : NodeState). standing_by k.failed k.kind k.me k.state new.stood (faults (disks_of state new.node.store))) is_node
        ∙ ap (λ (q : ℕ). up o me ahead q) (at.cause.ok ∙ same_faults)
        ∙ sym (done_after o me s f ts) ∙ ap (λ (k : Standing). after_all k (all_done ts)) (sym is_up)

    pub stored_comes : Comes state mid (all_done ts) (told_all o me s ts) new
    stored_comes = record {
      may = subst (λ (k : Standing). MayComeAll k None (all_done ts)) (sym is_up) (done_may o me s f ts);
      tell = subst (λ (k : Standing). TellAll (told_all o me s ts) k (all_done ts)) (sym is_up) (done_tell o me s f ts);
      stored = record {
        kept = kept_so at.kept;
        node = stored_is;
        found = λ u st. done_find (standing_of state mid) u ts;
        stored = λ u st. subst (λ (v : Unstored). Stores state v new) (sym (done_unstored (standing_of state mid) u ts)) (stored_unstored u st);
      };
    }

  -- a disk failed
  module _ (k : ℕ) (same : node_of new.node ≡ record (node_of n) { failed = Some k }) (at : StoresAtOnce state s.durable changes n.store new.node.store (Err (record { count = k })))
      (stood : new.stood ≡ place_at s) where
    broken_node : node_of new.node ≡ record (up_node o me ahead) { failed = Some k }
    broken_node = same ∙ ap (λ (q : NodeState). let r : NodeState = record q { failed = Some k } in r) took.node

    some : ts ≢ []
    some is = let bad : false ≡ true = (at.idle (ap (λ (xs : List Input). changes_all o me s xs) is)).1 in absurd (cc)

    broken_standing : standing_of state new ≡ cores.faulted k (up o me s f)
    broken_standing =
        ap (λ (q : NodeState). standing_by q.failed q.kind q.me q.state new.stood (faults (disks_of state new.node.store))) broken_node
        ∙ ap (λ (j : ℕ). standing_by (Some k) o me s new.stood j) (sym at.told)
        ∙ ap (λ p. standing_by (Some k) o me s p k) stood
        ∙ faulted_is k o me s f

    broken_stores : (u : Unstored) → Stores state u mid → Stores state (record { before = s; ahead = ahead }) new
    broken_stores u st = record {
      up = λ up. let bad : Some k ≡ None = sym (ap (λ (q : NodeState). q.failed) broken_node) ∙ up in absurd (cc);
      failed = λ _. subst (λ (d : Durable). StoreOneOf s.durable d (disks_of state new.node.store)) goes (at_once_left state s.durable changes n.store new.node.store k at (represents u st));
      whole = λ up. let bad : Some k ≡ None = sym (ap (λ (q : NodeState). q.failed) broken_node) ∙ up in absurd (cc);
      before_whole = subst (λ (q : NodeState). TakesWhole q.kind q.me s.durable) (sym broken_node) (st.whole runs);
      ahead_whole = subst (λ (q : NodeState). TakesWhole q.kind q.me ahead.durable) (sym broken_node) (ahead_whole_so (st.whole runs));
    }

    rises : Rises f k
    rises =
        let here : FaultsRose f (faults (disks_of state new.node.store)) = subst (λ (j : ℕ). FaultsRose j (faults (disks_of state new.node.store))) same_faults (at.cause.err refl) in
        record { later = omega (arith, at.cause.later, same_faults, at.told); rose = subst (FaultsRose f) (sym at.told) here }

    pub broken_comes : Comes state mid (broken k ts) (all_failed k ts) new
    broken_comes = record {
      may = subst (λ (q : Standing). MayComeAll q None (broken k ts)) (sym is_up) (broken_may k o me s f ts rises took.calm);
      tell = broken_tell k (standing_of state mid) ts;
      stored = record {
        kept = kept_so at.kept;
        node = broken_standing ∙ sym (broken_after k (up o me s f) ts some) ∙ ap (λ (q : Standing). after_all q (broken k ts)) (sym is_up);
        found = λ u st. broken_find k (standing_of state mid) u ts;
        stored = λ u st. subst (λ (q : Standing). Stores state (unstored_after_all q u (broken k ts)) new) (sym is_up)
            (subst (λ (v : Unstored). Stores state v new) (sym (broken_unstored k o me s f u ts some)) (broken_stores u st));
      };
    }

  -- ---- whatever comes of storing them

  -- this came of all of them
  pub record Gone (end : End) (later : List Told) : Type 0 where
    pub came : List Came
    pub told : List Told
    pub are : inputs_of came ≡ ts
    pub added : later ≡ before ++ told
    pub comes : Comes state mid came told new
    pub ends : EndsAs end came
    pub keeps : All stays came
    pub given : All ToldInRange told
    pub once : All settles came → (bound : Bound) × StoresAtOnce state s.durable changes n.store new.node.store (Ok bound)

  failed_added : (k from : ℕ) (later : List Told) → from ≡ length before → later ≡ take from after ++ replicate (length after - from) (failed_with k) → later ≡ before ++ all_failed k ts
  failed_added k from later place is =
      let given : List Told = told_all o me s ts in
      let first : take from after ≡ before = ap (λ (rs : List Told). take from rs) took.added ∙ take_at before given from (sym place) in
      let many : length after - from ≡ length ts = omega (arith, ap length took.added, length-append before given, told_many o me s ts, place) in
      is ∙ ap (λ (rs : List Told). rs ++ replicate (length after - from) (failed_with k)) first ∙ ap (λ (j : ℕ). before ++ replicate j (failed_with k)) many
      ∙ ap (λ (rs : List Told). before ++ rs) (failed_are k ts)

  pub gone : (end : End) (from : ℕ) (later : List Told) → from ≡ length before → new.stood ≡ place_at s → StoredAs state end s.durable changes from n new.node after later → Gone end later
  gone Settled from later place stood at =
      record {
        came = all_done ts;
        told = told_all o me s ts;
        are = done_inputs ts;
        added = at.1 ∙ took.added;
        comes = stored_comes at.0 at.2 at.3;
        ends = done_settles ts;
        keeps = done_stays ts;
        given = took.given;
        once = λ all. (at.2, at.3);
      }
  gone Broke from later place stood at =
      record {
        came = broken at.0 ts;
        told = all_failed at.0 ts;
        are = broken_inputs at.0 ts;
        added = failed_added at.0 from later place at.2;
        comes = broken_comes at.0 at.1 at.3 stood;
        ends = broken_stays at.0 ts;
        keeps = broken_stays at.0 ts;
        given = failed_in at.0 ts;
        once = λ all. absurd (broken_unsettled at.0 ts (some at.0 at.1 at.3 stood) all);
      }
  gone Lost from later place stood at = absurd at

-- ---- a group as a whole

module _ {D : Type 0} (state : D → DiskState) (old mid new : NodeCore D) (n : Node D) (ts : List Input) (before after later : List Told) (g : Record)
    (runs : mid.node.failed ≡ None) (took : Took mid.node ts before after g n) (same : mid.node ≡ old.node) (is : standing_of state mid ≡ standing_of state old)
    (end : End) (x : Gone state mid new n ts before after g runs took end later) (xs rest : List Input) where
  from_old : (cs : List Came) (rs : List Told) (m : NodeCore D) → Comes state mid cs rs m → Comes state old cs rs m
  from_old cs rs m c = record {
    may = subst (λ (k : Standing). MayComeAll k None cs) is c.may;
    tell = subst (λ (k : Standing). TellAll rs k cs) is c.tell;
    stored = noted_stores state old mid same is m cs c.stored;
  }

  -- none of them found no memory, and none that is left could have gone with them
  module _ (full : IsFull (changes_at (node_of mid.node) ts) rest) where
    abbrev core_over : Node D → NodeCore D
    core_over k = record old { node = k }

    goes_together_here : All settles x.came → GoesTogether state (core_over mid.node) ts rest new
    goes_together_here settled =
        let here = x.once settled in
        record {
          bound = here.0;
          at_once = subst (λ (t : Store D). StoresAtOnce state (node_of mid.node).state.durable (changes_at (node_of mid.node) ts) t new.node.store (Ok here.0)) took.store here.1;
          full = full;
        }

    goes_together : All settles x.came → GoesTogether state old (inputs_of x.came) rest new
    goes_together settled =
        subst (λ (ys : List Input). GoesTogether state old ys rest new) (sym x.are)
        (subst (λ (k : Node D). GoesTogether state (core_over k) ts rest new) same (goes_together_here settled))

  pub goes_whole : (left : List Input) → left ≡ [] → xs ≡ ts ++ (left ++ rest) → IsFull (changes_at (node_of mid.node) ts) rest → GoesOn state (EndsAs end) old xs rest before later new
  goes_whole left none split full = record {
    came = x.came;
    told = x.told;
    split = split ∙ ap (λ (ls : List Input). ts ++ (ls ++ rest)) none ∙ ap (λ (is : List Input). is ++ rest) (sym x.are);
    added = x.added;
    comes = from_old x.came x.told new x.comes;
    ends = x.ends;
    together = λ up calm settled. goes_together full settled;
  }

  -- the last did
  pub goes_short : (left : List Input) (last : List Told) → (y : Input) × (left ≡ y ∷ []) → xs ≡ ts ++ (left ++ rest) → last ≡ later ++ starved ∷ [] → GoesOn state (EndsAs Lost) old xs rest before last new
  goes_short left last one split added =
      let y : Input = one.0 in
      record {
        came = x.came ++ (y, lost) ∷ [];
        told = x.told ++ starved ∷ [];
        split = split ∙ ap (λ (ls : List Input). ts ++ (ls ++ rest)) one.1 ∙ sym (append_assoc ts (y ∷ []) rest) ∙ ap (λ (is : List Input). (is ++ y ∷ []) ++ rest) (sym x.are)
            ∙ ap (λ (is : List Input). is ++ rest) (sym (inputs_both x.came ((y, lost) ∷ [])));
        added = added ∙ ap (λ (rs : List Told). rs ++ starved ∷ []) x.added ∙ append_assoc before x.told (starved ∷ []);
        comes = from_old (x.came ++ (y, lost) ∷ []) (x.told ++ starved ∷ []) new (comes_lost state mid new x.came x.told y x.keeps x.comes);
        ends = lost_behind x.came ((y, lost) ∷ []) refl;
        together = λ up calm settled. absurd (lost_unsettled x.came y settled);
      }
