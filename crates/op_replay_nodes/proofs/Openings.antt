-- What an opening finds on disks, and what it makes of the node.
use Rattle.std.proofs.Common.{◌≡◌, ◌⊎◌, ◌==◌, ◌&&◌, ℕ, Bool, true, false, cond, nat_eq, List, [], Option, Some, None, IfSome, Ok, refl, sym, ap, subst, ◌∙◌, arith, inl, inr, ⊎_elim}
use Rattle.std.specs.Set.{is_member}
use Rattle.std.proofs.lemmas.Bool.{cond-true, cond-false, eq-eqb}
use Rattle.op_types.specs.Ranges.{IsMember}
use Rattle.op_types.specs.declared.durable.Durable.{Durable}
use Rattle.op_types.specs.declared.durable.Part.{Part}
use Rattle.op_types.specs.declared.durable.Joining.{Joining}
use Rattle.op_types.specs.Ballots.{no_ballot, is_same_ballot}
use Rattle.op_types.specs.Changes.{empty_durable, len_of, new_part}
use Rattle.op_types.specs.declared.ballot.Ballot.{Ballot}
use Rattle.op_types.specs.declared.messages.Msg.{Msg}
use Rattle.op_areas.specs.Media.{Medium}
use Rattle.op_spec.specs.Service.{new_service, base_bytes}
use Rattle.op_protocol.specs.State.{State}
use Rattle.op_protocol.specs.Starting.{state_after_restart}
use Rattle.op_store.specs.Stored.{IsStored, Obey, disks_with}
use Rattle.op_store.specs.Stores.{Represents, disks_of}
use Rattle.op_store.specs.Openings.{IsOpenedAs}
use Rattle.op_store.specs.declared.fail.Returned.{Returned}
use Rattle.op_store.specs.declared.store.Store.{Store}
use Rattle.op_store.proofs.UniquePairs.{one_stored, nothing_or_stored}
use Rattle.op_chain.specs.Chains.{first_state}
use Rattle.op_node.specs.Nodes.{NodeState as Inner, node_of, IsSoundNode}
use Rattle.op_node.specs.Openings.{OpensAs, RefusesNode, part_for, joining_for, durable_for, is_watched, watched_for, kept_from, fresh_for, fresh_as, opening_state, opening_sends}
use Rattle.op_node.specs.Reopenings.{StoreOneOf, Reopens, FindsOneOf}
use Rattle.op_node.specs.declared.node.Node as nodes
use Rattle.op_node.proofs.Reopenings.{found_one, refused_leaves}
use Rattle.op_node.proofs.Represented.{reopened_represented}
use Rattle.op_node.proofs.Whole.{IsWatched, watched_whole}
use Rattle.op_runs.specs.World.{Kind, Votes, Observes, sends_as, World, Node, NodeStatus, Up, Down, Failed, Fate, Done, Stopped, Faulted, Happening, world_by_status_as, world_if_down_as, world_opened_as, world_opening_as, world_reopening_as, state_after_reopening, first_durable}
use Rattle.op_runs.specs.World as runs
use Rattle.op_bounds.specs.Laws.{StatusInRange, FoundInRange}
use Rattle.op_bounds.specs.States.{IsNamed}
use Rattle.op_watch_laws.specs.Laws.{IsWatching}
use Rattle.op_executions.specs.Servers.{IsNodeDone, ServerInRange, FindsWatching, first_as}
use Rattle.op_areas.specs.Areas.{OpensOn}
use Rattle.op_replay_nodes.specs.Became.{IsInRange, DoneAs, IsDoneOf}
use Rattle.op_replay_nodes.specs.Disks.{HoldOneOf, StaysNode}
use Rattle.op_replay_nodes.specs.Nodes.{IsShown, ShowsDown, ShowsFailed, RunsAs, HasFailed}
use Rattle.op_replay_nodes.specs.declared.node_state.DownNode.{DownNode}
use Rattle.op_replay_nodes.specs.declared.node_state.NodeState.{NodeState}
use Rattle.op_replay_nodes.specs.declared.node_state.NodeState.TheVariants as node
use Rattle.op_replay_nodes.proofs.NodeDisks.{opened_stores}
use Rattle.op_executions.proofs.NodeDone.{becomes, nothing_done, opened_as, quietly_done}

-- ---- what is found

-- empty disks store nothing
found_fresh : (fresh d : Durable) (x y : List ℕ) (is_new : Bool) → x ≡ [] → y ≡ [] → IsOpenedAs fresh x y d is_new → (is_new ≡ true) × (d ≡ fresh)
found_fresh fresh d x y true one two found = (refl, found.1)
found_fresh fresh d x y false one two found =
    let stored : IsStored d [] [] = subst (λ (bs : List ℕ). IsStored d [] bs) two (subst (λ (bs : List ℕ). IsStored d bs y) one found) in
    absurd (nothing_or_stored [] [] d ((false, omega arith), (false, omega arith)) stored)

-- ---- what a server takes of it

part_taken : (me : ℕ) (o : Option Part) → IfSome o (λ p. IsMember p.members me) → part_for me o ≡ o
part_taken me None named = refl
part_taken me (Some p) named = cond-true (is_member nat_eq p.members me) (Some p) None named

joining_taken : (me : ℕ) (o : Option Joining) → IfSome o (λ j. IsMember j.members me) → joining_for me o ≡ o
joining_taken me None named = refl
joining_taken me (Some j) named = cond-true (is_member nat_eq j.members me) (Some j) None named

-- all of what names it
taken : (me : ℕ) (d : Durable) → IsNamed me d → durable_for me d ≡ d
taken me d named =
    ap (λ (o : Option Part). let e : Durable = record { part = o; closed = d.closed; joining = joining_for me d.joining } in e) (part_taken me d.part named.part)
    ∙ ap (λ (o : Option Joining). let e : Durable = record { part = d.part; closed = d.closed; joining = o } in e) (joining_taken me d.joining named.joining)

-- all of what an observer stored
watched_by : (p : Part) → p.promised ≡ no_ballot → p.accepted ≡ no_ballot → p.decided ≡ len_of p → is_watched p ≡ true
watched_by p promised accepted decided =
    ap (λ (b : Ballot). is_same_ballot b no_ballot && (is_same_ballot p.accepted no_ballot && p.decided == len_of p)) promised
    ∙ ap (λ (b : Ballot). is_same_ballot b no_ballot && p.decided == len_of p) accepted
    ∙ eq-eqb p.decided (len_of p) decided

watched : (d : Durable) → IsWatching d → watched_for d ≡ d
watched d w =
    let is : IsWatched d = record {
      part = subst (λ (o : Option Part). IfSome o (λ p. is_watched p ≡ true)) (sym (ap (λ (x : Durable). x.part) w.alone)) (watched_by w.part w.promised w.accepted w.decided);
      closed = ap (λ (x : Durable). x.closed) w.alone;
      joining = ap (λ (x : Durable). x.joining) w.alone;
    } in
    watched_whole d is

-- what it begins with
fresh_taken : (me : ℕ) (members : List ℕ) → durable_for me (fresh_for me members) ≡ fresh_for me members
fresh_taken me members = by (is_member nat_eq members me) refl
  where
    by : (b : Bool) → is_member nat_eq members me ≡ b → durable_for me (fresh_for me members) ≡ fresh_for me members
    by true h =
        let is : fresh_for me members ≡ first_durable members = cond-true (is_member nat_eq members me) (first_durable members) empty_durable h in
        ap (λ (d : Durable). durable_for me d) is ∙ taken me (first_durable members) (record { part = h; joining = tt }) ∙ sym is
    by false h =
        let is : fresh_for me members ≡ empty_durable = cond-false (is_member nat_eq members me) (first_durable members) empty_durable h in
        ap (λ (d : Durable). durable_for me d) is ∙ sym is

fresh_is_taken : (k : Kind) (me : ℕ) (members : List ℕ) → kept_from k me (fresh_as k me members) ≡ fresh_as k me members
fresh_is_taken Votes me members = fresh_taken me members
fresh_is_taken Observes me members =
    watched (first_durable members) (record { part = new_part 1 members (base_bytes new_service); alone = refl; promised = refl; accepted = refl; decided = refl })

-- the state that it begins in
first_state_is : (k : Kind) (me : ℕ) (members : List ℕ) → first_state me (fresh_as k me members) ≡ (first_as k members me).state
first_state_is Votes me members = refl
first_state_is Observes me members = refl

-- ---- what may be found is taken whole

module _ (k : Kind) (ids : List ℕ) (n : Node) (range : ServerInRange ids k n) where
  -- what was stored before the step in which it stopped or failed
  takes_before : kept_from k n.pid n.state.durable ≡ n.state.durable
  takes_before = by k range
    where
      by : (j : Kind) → ServerInRange ids j n → kept_from j n.pid n.state.durable ≡ n.state.durable
      by Votes r = taken n.pid n.state.durable r.named
      by Observes r = watched n.state.durable r.stored

  -- and what this was to store
  takes_down : (after : Durable) → n.status ≡ Down after → kept_from k n.pid after ≡ after
  takes_down after is = by k range
    where
      by : (j : Kind) → ServerInRange ids j n → kept_from j n.pid after ≡ after
      by Votes r =
          let found : FoundInRange (IsMember ids) n.pid after = subst (λ (st : NodeStatus). StatusInRange (IsMember ids) n.pid st) is r.status in
          taken n.pid after found.1
      by Observes r = let found : IsWatching after = subst (λ (st : NodeStatus). FindsWatching st) is r.found in watched after found

  takes_failed : (count : ℕ) (after : Durable) → n.status ≡ Failed count after → kept_from k n.pid after ≡ after
  takes_failed count after is = by k range
    where
      by : (j : Kind) → ServerInRange ids j n → kept_from j n.pid after ≡ after
      by Votes r =
          let found : FoundInRange (IsMember ids) n.pid after = subst (λ (st : NodeStatus). StatusInRange (IsMember ids) n.pid st) is r.status in
          taken n.pid after found.1
      by Observes r = let found : IsWatching after = subst (λ (st : NodeStatus). FindsWatching st) is r.found in watched after found

-- ---- a node that is opened

abbrev runs_in : Kind → ℕ → State → Inner
runs_in k me s = record { kind = k; me = me; state = s; failed = None }

module _ {D C : Type 0} (M : Medium D C) where
  -- ---- one of two durable states is found

  -- what a node that is shown may find it takes whole
  module _ (k : Kind) (pid : ℕ) (s : NodeState D C) (range : IsInRange M k pid s) where
    whole_before : kept_from k pid (range.node).state.durable ≡ (range.node).state.durable
    whole_before = subst (λ (p : ℕ). kept_from k p (range.node).state.durable ≡ (range.node).state.durable) range.pid_is (takes_before k range.ids range.node range.range)

    whole_down : (after : Durable) → (range.node).status ≡ Down after → kept_from k pid after ≡ after
    whole_down after is = subst (λ (p : ℕ). kept_from k p after ≡ after) range.pid_is (takes_down k range.ids range.node range.range after is)

    whole_failed : (count : ℕ) (after : Durable) → (range.node).status ≡ Failed count after → kept_from k pid after ≡ after
    whole_failed count after is = subst (λ (p : ℕ). kept_from k p after ≡ after) range.pid_is (takes_failed k range.ids range.node range.range count after is)

  takes_one : (k : Kind) (pid : ℕ) (d before after : Durable) → (d ≡ before) ⊎ (d ≡ after) → kept_from k pid before ≡ before → kept_from k pid after ≡ after → kept_from k pid d ≡ d
  takes_one k pid d before after one first second =
      ⊎_elim (λ is. subst (λ (e : Durable). kept_from k pid e ≡ e) (sym is) first) (λ is. subst (λ (e : Durable). kept_from k pid e ≡ e) (sym is) second) one

  -- which one is found
  abbrev found_by : Bool → Durable → Durable → Durable
  found_by finds_after before after = cond finds_after after before

  which : (d before after : Durable) → (d ≡ before) ⊎ (d ≡ after) → (b : Bool) × (found_by b before after ≡ d)
  which d before after (inl is) = (false, sym is)
  which d before after (inr is) = (true, sym is)

  -- ---- an opening that is done

  -- a node that is opened with what it found: the world has it so
  module _ (k : Kind) (pid line : ℕ) (x : Node) (d : Durable) (s : ℕ → State) (m : nodes.Node D) (sends : List (ℕ × Msg)) (same : x.pid ≡ pid)
      (state : (node_of m).state ≡ s pid) (stored : (p : ℕ) → (s p).durable ≡ d) (sends_are : sends ≡ sends_as k pid d) where
    abbrev opened_node : Node
    opened_node = record x { state = s x.pid; status = Up }

    opened_shown : IsShown M (node.Up m) (s x.pid) Up
    opened_shown = (ap s same ∙ sym state, refl)

    opened_world : (w : World) → world_opened_as k w x (s x.pid) ≡ becomes k w opened_node sends []
    opened_world w =
        opened_as k w x (s x.pid) sends (ap (λ (e : Durable). sends_as k x.pid e) (stored x.pid) ∙ ap (λ (p : ℕ). sends_as k p d) same ∙ sym sends_are)

    -- whichever way it ran before
    opened_done : (finds_after : Bool) (status : NodeStatus) → x.status ≡ status
        → ((w : World) (h : Happening) → h.fate ≡ Done → h.finds_after ≡ finds_after → world_by_status_as k status runs.Opens h w x ≡ world_opened_as k w x (s x.pid))
        → IsNodeDone k x runs.Opens Done finds_after line opened_node sends []
    opened_done finds_after status is does = record {
      pid = refl;
      stored = inl refl;
      world = λ w h f b at here. ap (λ (st : NodeStatus). world_by_status_as k st runs.Opens h w x) is ∙ does w h f b ∙ opened_world w;
    }

  -- one that is down is opened over areas that were opened on its copies
  module _ (k : Kind) (members : List ℕ) (me : ℕ) (down : DownNode C) (first second : D) (n : nodes.Node D) (sends : List (ℕ × Msg)) (range : IsInRange M k me (node.Down down))
      (opens_first : OpensOn M.holds down.first (M.state first)) (opens_second : OpensOn M.holds down.second (M.state second))
      (o : OpensAs k M.state me members (record { first = M.state first; second = M.state second }) n sends) where
    found_there : (before after : Durable) → HoldOneOf M.holds before after down.first down.second → (o.is_new ≡ false) × ((o.durable ≡ before) ⊎ (o.durable ≡ after))
    found_there before after s =
        found_one before after (M.state first).content (M.state second).content
        (opened_stores M.state M.holds before after down.first down.second first second opens_first opens_second s).read (fresh_as k me members) o.durable o.is_new (o.opened.found (opens_first.obeys, opens_second.obeys))

    abbrev first_shown : ShowsDown M down (range.node).state (range.node).status
    first_shown = range.shown

    takes : kept_from k me o.durable ≡ o.durable
    takes =
        takes_one k me o.durable (range.node).state.durable first_shown.after (found_there (range.node).state.durable first_shown.after first_shown.stored).1 (whole_before k me (node.Down down) range)
        (whole_down k me (node.Down down) range first_shown.after first_shown.status_is)

    is_old : o.is_new ≡ false
    is_old = (found_there (range.node).state.durable first_shown.after first_shown.stored).0

    state_is : node_of n ≡ runs_in k me (state_after_restart me o.durable)
    state_is = o.node ∙ ap (λ (b : Bool). runs_in k me (opening_state k me b o.durable)) is_old ∙ ap (λ (d : Durable). runs_in k me (state_after_restart me d)) takes

    sends_are : sends ≡ sends_as k me o.durable
    sends_are = o.sends_are ∙ ap (λ (b : Bool). opening_sends k me b o.durable) is_old ∙ ap (λ (e : Durable). sends_as k me e) takes

    runs_again : RunsAs M k me n
    runs_again = record {
      kind_is = ap (λ (i : Inner). i.kind) state_is;
      me = ap (λ (i : Inner). i.me) state_is;
      failed = ap (λ (i : Inner). i.failed) state_is;
      sound = o.sound;
      stored = subst (λ (d : Durable). Represents M.state d n.store) (ap (λ (i : Inner). i.state.durable) (sym state_is)) (o.opened.stored (opens_first.obeys, opens_second.obeys));
    }

    pub opens_again : (line : ℕ) (comes : Fate → Type 0) → comes Done → IsDoneOf M k me comes (node.Down down) runs.Opens line (node.Up n) sends []
    opens_again line comes may = record {
      after = λ x pid shown.
          let b = which o.durable x.state.durable shown.after (found_there x.state.durable shown.after shown.stored).1 in
          let s : ℕ → State = λ p. state_after_restart p o.durable in
          record {
            fate = Done;
            finds_after = b.0;
            may = may;
            node = record x { state = s x.pid; status = Up };
            shown = opened_shown k me line x o.durable s n sends pid (ap (λ (i : Inner). i.state) state_is) (λ p. refl) sends_are;
            done = opened_done k me line x o.durable s n sends pid (ap (λ (i : Inner). i.state) state_is) (λ p. refl) sends_are b.0 (Down shown.after) shown.status_is
                (λ w h f finds. ap (λ (fate : Fate). world_if_down_as k runs.Opens fate h.finds_after shown.after w x) f
                ∙ ap (λ (c : Bool). world_if_down_as k runs.Opens Done c shown.after w x) finds
                ∙ ap (λ (e : Durable). world_opening_as k Done w x e) b.1);
          };
      kept = runs_again;
    }

  -- one that failed is opened again in place
  module _ (kind : Kind) (me : ℕ) (n m k : nodes.Node D) (sends : List (ℕ × Msg)) (range : IsInRange M kind me (node.Failed n)) (has : HasFailed kind me n) (stays : StaysNode M.state n m) (sound : IsSoundNode k)
      (found : (before after : Durable) → StoreOneOf before after (disks_of M.state m.store) → FindsOneOf M.state before after m k (Ok sends)) where
    abbrev shown_first : ShowsFailed M n (range.node).state (range.node).status
    shown_first = range.shown

    here : (node_of m).me ≡ me
    here = ap (λ (i : Inner). i.me) stays.node ∙ has.me

    kind_here : (node_of m).kind ≡ kind
    kind_here = ap (λ (i : Inner). i.kind) stays.node ∙ has.kind_is

    -- its areas obey the model
    obey : Obey (disks_of M.state m.store)
    obey = (stays.stores (range.node).state.durable shown_first.after shown_first.stored).obey

    module _ (d : Durable) (r : Reopens M.state d false m k sends) (whole : kept_from kind me d ≡ d) where
      takes_whole : kept_from kind (node_of m).me d ≡ d
      takes_whole = ap (λ (p : ℕ). kept_from kind p d) here ∙ whole

      now_is : node_of k ≡ runs_in kind me (state_after_reopening me (node_of n).state d)
      now_is =
          r.node
          ∙ ap (λ (j : Kind). let i : Inner = record { kind = j; me = (node_of m).me; state = state_after_reopening (node_of m).me (node_of m).state (kept_from j (node_of m).me d); failed = None } in i) kind_here
          ∙ ap (λ (e : Durable). runs_in kind (node_of m).me (state_after_reopening (node_of m).me (node_of m).state e)) takes_whole
          ∙ ap (λ (p : ℕ). runs_in kind p (state_after_reopening p (node_of m).state d)) here
          ∙ ap (λ (i : Inner). runs_in kind me (state_after_reopening me i.state d)) stays.node

      sends_now : sends ≡ sends_as kind me d
      sends_now = r.sends_are ∙ ap (λ (j : Kind). sends_as j (node_of m).me (kept_from j (node_of m).me d)) kind_here ∙ ap (λ (e : Durable). sends_as kind (node_of m).me e) takes_whole ∙ ap (λ (p : ℕ). sends_as kind p d) here

      reopened_runs : RunsAs M kind me k
      reopened_runs = record {
        kind_is = ap (λ (i : Inner). i.kind) now_is;
        me = ap (λ (i : Inner). i.me) now_is;
        failed = ap (λ (i : Inner). i.failed) now_is;
        sound = sound;
        stored = reopened_represented M.state d false m k sends r obey (ap (λ (j : Kind). kept_from j (node_of m).me d) kind_here ∙ takes_whole);
      }

      reopened_as : (line : ℕ) (comes : Fate → Type 0) → comes Done → (x : Node) → x.pid ≡ me → (shown : ShowsFailed M n x.state x.status) (b : Bool) → found_by b x.state.durable shown.after ≡ d
          → DoneAs M kind comes x runs.Opens line (node.Up k) sends []
      reopened_as line comes may x pid shown b is =
          let s : ℕ → State = λ p. state_after_reopening p x.state d in
          let state : (node_of k).state ≡ s me = ap (λ (i : Inner). i.state) now_is ∙ ap (λ (z : State). state_after_reopening me z d) (sym shown.state) in
          record {
            fate = Done;
            finds_after = b;
            may = may;
            node = record x { state = s x.pid; status = Up };
            shown = opened_shown kind me line x d s k sends pid state (λ p. refl) sends_now;
            done = opened_done kind me line x d s k sends pid state (λ p. refl) sends_now b (Failed shown.count shown.after) shown.status_is
                (λ w h f finds. ap (λ (fate : Fate). world_reopening_as kind fate shown.after w x (found_by h.finds_after x.state.durable shown.after)) f
                ∙ ap (λ (c : Bool). world_reopening_as kind Done shown.after w x (found_by c x.state.durable shown.after)) finds
                ∙ ap (λ (e : Durable). world_reopening_as kind Done shown.after w x e) is);
          }

    -- what is found it takes whole, whichever node is shown
    whole_first : (d : Durable) → (d ≡ (range.node).state.durable) ⊎ (d ≡ shown_first.after) → kept_from kind me d ≡ d
    whole_first d one =
        takes_one kind me d (range.node).state.durable shown_first.after one (whole_before kind me (node.Failed n) range) (whole_failed kind me (node.Failed n) range shown_first.count shown_first.after shown_first.status_is)

    -- one of the two is found of whichever node is shown
    pub found_of : (x : Node) (shown : ShowsFailed M n x.state x.status) → (d : Durable) × Reopens M.state d false m k sends × ((d ≡ x.state.durable) ⊎ (d ≡ shown.after))
    found_of x shown =
        let f = (found x.state.durable shown.after (stays.stores x.state.durable shown.after shown.stored)).found in
        ⊎_elim (λ r. (x.state.durable, r, inl refl)) (λ r. (shown.after, r, inr refl)) f

    -- it is the same one of all
    found_same : (x : Node) (shown : ShowsFailed M n x.state x.status) → kept_from kind me (found_of x shown).0 ≡ (found_of x shown).0
    found_same x shown =
        let one = found_of x shown in
        let first = found_of range.node shown_first in
        let same : one.0 ≡ first.0 = one_stored _ _ one.0 first.0 (one.1.opened.found obey) (first.1.opened.found obey) in
        subst (λ (e : Durable). kept_from kind me e ≡ e) (sym same) (whole_first first.0 first.2)

    pub reopens_again : (line : ℕ) (comes : Fate → Type 0) → comes Done → IsDoneOf M kind me comes (node.Failed n) runs.Opens line (node.Up k) sends []
    reopens_again line comes may = record {
      after = λ x pid shown.
          let one = found_of x shown in
          let b = which one.0 x.state.durable shown.after one.2 in
          reopened_as one.0 one.1 (found_same x shown) line comes may x pid shown b.0 b.1;
      kept = let first = found_of range.node shown_first in reopened_runs first.0 first.1 (found_same range.node shown_first);
    }

  -- ---- an opening in a call of whose disks the node stops, or one fails

  -- one that is down stays so, over copies that hold what it had stored
  pub stays_down : (k : Kind) (me line : ℕ) (old down : DownNode C) (fate : Fate) (comes : Fate → Type 0) → comes fate → ((w : World) (x : Node) (d : Durable) → world_opening_as k fate w x d ≡ w) → down.shown ≡ old.shown
      → ((before after : Durable) → HoldOneOf M.holds before after old.first old.second → HoldOneOf M.holds before after down.first down.second)
      → IsDoneOf M k me comes (node.Down old) runs.Opens line (node.Down down) [] []
  stays_down k me line old down fate comes may idle kept stores = record {
    after = λ x pid shown.
        record {
          fate = fate;
          finds_after = false;
          may = may;
          node = x;
          shown = record { durable = shown.durable ∙ sym kept; after = shown.after; status_is = shown.status_is; stored = stores x.state.durable shown.after shown.stored };
          done = nothing_done k x runs.Opens fate false line (Down shown.after) shown.status_is
              (λ w h f. ap (λ (g : Fate). world_if_down_as k runs.Opens g h.finds_after shown.after w x) f ∙ idle w x (found_by h.finds_after x.state.durable shown.after));
        };
    kept = tt;
  }

  -- one that failed stops
  pub failed_stops : (k : Kind) (me line : ℕ) (n : nodes.Node D) (down : DownNode C) (comes : Fate → Type 0) → comes Stopped → down.shown ≡ (node_of n).state.durable
      → ((before after : Durable) → StoreOneOf before after (disks_of M.state n.store) → HoldOneOf M.holds before after down.first down.second)
      → IsDoneOf M k me comes (node.Failed n) runs.Opens line (node.Down down) [] []
  failed_stops k me line n down comes may kept stores = record {
    after = λ x pid shown.
        record {
          fate = Stopped;
          finds_after = false;
          may = may;
          node = record x { status = Down shown.after };
          shown = record { durable = ap (λ (s : State). s.durable) shown.state ∙ sym kept; after = shown.after; status_is = refl; stored = stores x.state.durable shown.after shown.stored };
          done = quietly_done k x runs.Opens Stopped false line (Failed shown.count shown.after) shown.status_is (Down shown.after)
              (λ w h f b. ap (λ (g : Fate). world_reopening_as k g shown.after w x (found_by h.finds_after x.state.durable shown.after)) f);
        };
    kept = tt;
  }

  -- or has failed again
  pub failed_fails : (k : Kind) (me line : ℕ) (n m : nodes.Node D) (count : ℕ) (comes : Fate → Type 0) → comes (Faulted count) → HasFailed k me n → node_of m ≡ record (node_of n) { failed = Some count } → IsSoundNode m
      → ((before after : Durable) → StoreOneOf before after (disks_of M.state n.store) → StoreOneOf before after (disks_of M.state m.store))
      → IsDoneOf M k me comes (node.Failed n) runs.Opens line (node.Failed m) [] []
  failed_fails k me line n m count comes may has is sound stores = record {
    after = λ x pid shown.
        record {
          fate = Faulted count;
          finds_after = false;
          may = may;
          node = record x { status = Failed count shown.after };
          shown = record {
            state = shown.state ∙ ap (λ (i : Inner). i.state) (sym is);
            count = count;
            failed = ap (λ (i : Inner). i.failed) is;
            after = shown.after;
            status_is = refl;
            stored = stores x.state.durable shown.after shown.stored;
          };
          done = quietly_done k x runs.Opens (Faulted count) false line (Failed shown.count shown.after) shown.status_is (Failed count shown.after)
              (λ w h f b. ap (λ (g : Fate). world_reopening_as k g shown.after w x (found_by h.finds_after x.state.durable shown.after)) f);
        };
    kept = record { kind_is = ap (λ (i : Inner). i.kind) is ∙ has.kind_is; me = ap (λ (i : Inner). i.me) is ∙ has.me; sound = sound };
  }

  -- a refused opening leaves the areas so
  pub handed_back : (k : Kind) (members : List ℕ) (me : ℕ) (first second : D) (e : Returned D) → RefusesNode M.state (fresh_as k me members) first second e
      → (before after : Durable) → StoreOneOf before after (disks_with M.state first second) → StoreOneOf before after (disks_with M.state e.first e.second)
  handed_back k members me first second e refused before after s =
      let over : D → D → Store D = λ a b. record { first = a; second = b; is_second = false; generation = 0; end = 0; base = 0; is_closed = false; is_failed = true } in
      refused_leaves M.state (fresh_as k me members) before after (over first second) (over e.first e.second) e.cause refused s

  -- one that is up is open already
  pub open_already : (k : Kind) (me line : ℕ) (n : nodes.Node D) (comes : Fate → Type 0) → comes Done → RunsAs M k me n → IsDoneOf M k me comes (node.Up n) runs.Opens line (node.Up n) [] []
  open_already k me line n comes may kept = record {
    after = λ x pid shown. record { fate = Done; finds_after = false; may = may; node = x; shown = shown; done = nothing_done k x runs.Opens Done false line Up shown.1 (λ w h f. refl) };
    kept = kept;
  }

  -- ---- a node at its first start

  module _ (k : Kind) (members : List ℕ) (me : ℕ) (one two : C) (first second : D) (n : nodes.Node D) (sends : List (ℕ × Msg))
      (empty : (x : List ℕ) → M.holds one x → x ≡ []) (empty_second : (x : List ℕ) → M.holds two x → x ≡ [])
      (opens_first : OpensOn M.holds one (M.state first)) (opens_second : OpensOn M.holds two (M.state second))
      (o : OpensAs k M.state me members (record { first = M.state first; second = M.state second }) n sends) where
    is_fresh : (o.is_new ≡ true) × (o.durable ≡ fresh_as k me members)
    is_fresh = found_fresh (fresh_as k me members) o.durable (M.state first).content (M.state second).content o.is_new (empty (M.state first).content opens_first.read) (empty_second (M.state second).content opens_second.read)
        (o.opened.found (opens_first.obeys, opens_second.obeys))

    pub first_is : node_of n ≡ runs_in k me (first_as k members me).state
    first_is =
        o.node
        ∙ ap (λ (b : Bool). runs_in k me (opening_state k me b o.durable)) is_fresh.0
        ∙ ap (λ (d : Durable). runs_in k me (first_state me (kept_from k me d))) is_fresh.1
        ∙ ap (λ (d : Durable). runs_in k me (first_state me d)) (fresh_is_taken k me members)
        ∙ ap (λ (s : State). runs_in k me s) (first_state_is k me members)

    pub first_runs : RunsAs M k me n
    first_runs = record {
      kind_is = ap (λ (i : Inner). i.kind) first_is;
      me = ap (λ (i : Inner). i.me) first_is;
      failed = ap (λ (i : Inner). i.failed) first_is;
      sound = o.sound;
      stored = subst (λ (d : Durable). Represents M.state d n.store) (is_fresh.1 ∙ ap (λ (s : State). s.durable) (first_state_is k me members) ∙ ap (λ (i : Inner). i.state.durable) (sym first_is)) (o.opened.stored (opens_first.obeys, opens_second.obeys));
    }
