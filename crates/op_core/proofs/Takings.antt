-- A node takes inputs one after the other.
use Rattle.std.proofs.Common.{◌≡◌, ◌≤◌, ◌<◌, ◌+◌, ◌++◌, ◌∷◌, [], ℕ, List, length, None, Ok, All, refl, sym, ap, subst, ◌∙◌, append_assoc}
use Rattle.std.proofs.lemmas.List.{append-nil}
use Rattle.std.proofs.lemmas.List.Elements.{All-nil, All-cons, All-append}
use Rattle.op_types.specs.Changes.{Applies, durable_after}
use Rattle.op_types.specs.declared.changes.Change.{Change}
use Rattle.op_types.specs.declared.durable.Durable.{Durable}
use Rattle.op_types.specs.declared.events.Input.{Input}
use Rattle.op_protocol.specs.State.{State, state_after}
use Rattle.op_runs.specs.World.{Kind, plan_as}
use Rattle.op_protocol.proofs.Plans.{after_both}
use Rattle.op_bounds.proofs.Batches.{applies_both}
use Rattle.op_types.specs.declared.given.Given.{Given}
use Rattle.op_node.specs.Nodes.{NodeState, node_of, gives, stores, after_input, IsSoundNode}
use Rattle.op_node.specs.Openings.{TakesWhole}
use Rattle.op_node.specs.Taking.{LaysOut, LeadsFrom, Takes, TakesNone}
use Rattle.op_node.specs.declared.node.Node.{Node}
use Rattle.op_node.specs.declared.record.Record.{Record}
use Rattle.op_serving.specs.Cores.{given_of}
use Rattle.op_serving.specs.Ranges.{InputInRange}
use Rattle.op_core.specs.Groups.{Told, ToldInRange, IsCalm, state_all, told_all, changes_all, changes_at, node_after, Took}
use Rattle.op_core.specs.NodeCores.{IsServable}
use Rattle.op_core.proofs.NodeCores.{servable_as, stays}
use Rattle.op_core.proofs.Disks.{whole_at}

-- ---- one more behind the others

state_more : (k : Kind) (me : ℕ) (s : State) (ts : List Input) (x : Input) → state_all k me s (ts ++ x ∷ []) ≡ state_after (state_all k me s ts) (plan_as k me (state_all k me s ts) x)
state_more k me s [] x = refl
state_more k me s (y ∷ ys) x = state_more k me (state_after s (plan_as k me s y)) ys x

changes_more : (k : Kind) (me : ℕ) (s : State) (ts : List Input) (x : Input) → changes_all k me s (ts ++ x ∷ []) ≡ changes_all k me s ts ++ (plan_as k me (state_all k me s ts) x).batch
changes_more k me s [] x = append-nil (plan_as k me s x).batch
changes_more k me s (y ∷ ys) x =
    let t : State = state_after s (plan_as k me s y) in
    ap (λ (b : List Change). (plan_as k me s y).batch ++ b) (changes_more k me t ys x)
    ∙ sym (append_assoc (plan_as k me s y).batch (changes_all k me t ys) (plan_as k me (state_all k me t ys) x).batch)

told_more : (k : Kind) (me : ℕ) (s : State) (ts : List Input) (x : Input) → told_all k me s (ts ++ x ∷ []) ≡ told_all k me s ts ++ Ok (given_of (plan_as k me (state_all k me s ts) x)) ∷ []
told_more k me s [] x = refl
told_more k me s (y ∷ ys) x = ap (λ (rs : List Told). Ok (given_of (plan_as k me s y)) ∷ rs) (told_more k me (state_after s (plan_as k me s y)) ys x)

module _ {D : Type 0} where
  -- none was taken yet
  pub took_none : (n : Node D) (before : List Told) (g : Record) → (node_of n).failed ≡ None → LaysOut [] g → IsServable n → Took n [] before before g n
  took_none n before g runs laid servable = record {
    node = ap (λ o. let k : NodeState = record (node_of n) { failed = o } in k) runs;
    store = refl;
    leads = record { laid = laid; applies = tt; ahead = refl };
    added = sym (append-nil before);
    given = All-nil ToldInRange;
    calm = All-nil IsCalm;
    servable = servable;
    whole = λ whole. whole;
  }

  -- there was no memory for one more
  pub took_same : (old mid new : Node D) (ts : List Input) (before after : List Told) (g h : Record) → Took old ts before after g mid → TakesNone mid new → ((changes : List Change) → LaysOut changes g → LaysOut changes h) → IsSoundNode new
      → Took old ts before after h new
  took_same old mid new ts before after g h took none kept sound = record {
    node = none.node ∙ took.node;
    store = none.store ∙ took.store;
    leads = record {
      laid = kept (changes_at (node_of old) ts) took.leads.laid;
      applies = took.leads.applies;
      ahead = took.leads.ahead ∙ sym (ap (λ (k : NodeState). k.state.durable) none.node);
    };
    added = took.added;
    given = took.given;
    calm = took.calm;
    servable = servable_as new (node_of mid) none.node took.servable.me took.servable.range sound;
    whole = λ whole. subst (λ (k : NodeState). TakesWhole (node_of old).kind (node_of old).me k.state.durable) (sym none.node) (took.whole whole);
  }

  -- one more was
  module _ (old mid new : Node D) (ts : List Input) (before after : List Told) (g h : Record) (x : Input) (given : Given)
      (took : Took old ts before after g mid) (takes : Takes x mid new given)
      (adds : (changes : List Change) → LaysOut changes g → LaysOut (changes ++ stores (node_of mid) x) h)
      (range : InputInRange x) (calm : IsCalm x) (sound : IsSoundNode new) (fits : ToldInRange (Ok given)) where
    abbrev o : Kind
    o = (node_of old).kind

    abbrev me : ℕ
    me = (node_of old).me

    abbrev s : State
    s = (node_of old).state

    abbrev so_far : State
    so_far = state_all o me s ts

    abbrev batch : List Change
    batch = (plan_as o me so_far x).batch

    stores_it : stores (node_of mid) x ≡ batch
    stores_it = ap (λ (k : NodeState). stores k x) took.node

    gives_it : given ≡ given_of (plan_as o me so_far x)
    gives_it = takes.given ∙ ap (λ (k : NodeState). gives k x) took.node

    is_node : node_of new ≡ node_after (node_of old) (ts ++ x ∷ [])
    is_node = takes.node ∙ ap (λ (k : NodeState). after_input k x) took.node ∙ ap (λ (t : State). let k : NodeState = record (node_of old) { state = t; failed = None } in k) (sym (state_more o me s ts x))

    mid_stored : (node_of mid).state.durable ≡ so_far.durable
    mid_stored = ap (λ (k : NodeState). k.state.durable) took.node

    stored_so_far : durable_after s.durable (changes_all o me s ts) ≡ so_far.durable
    stored_so_far = took.leads.ahead ∙ mid_stored

    applies_it : Applies so_far.durable batch
    applies_it = subst (λ (d : Durable). Applies d batch) mid_stored (subst (λ (b : List Change). Applies (node_of mid).state.durable b) stores_it takes.applies)

    leads_on : LeadsFrom s.durable (changes_all o me s (ts ++ x ∷ [])) h (node_of new)
    leads_on =
        let all : List Change = changes_all o me s ts in
        let more = changes_more o me s ts x in
        record {
          laid = subst (λ (cs : List Change). LaysOut cs h) (sym more) (subst (λ (b : List Change). LaysOut (all ++ b) h) stores_it (adds all took.leads.laid));
          applies = subst (λ (cs : List Change). Applies s.durable cs) (sym more) (applies_both s.durable all batch took.leads.applies (subst (λ (d : Durable). Applies d batch) (sym stored_so_far) applies_it));
          ahead = ap (λ (cs : List Change). durable_after s.durable cs) more ∙ after_both s.durable all batch ∙ ap (λ (d : Durable). durable_after d batch) stored_so_far
              ∙ sym (ap (λ (t : State). t.durable) (state_more o me s ts x)) ∙ sym (ap (λ (k : NodeState). k.state.durable) is_node);
        }

    -- whose node this is
    abbrev Whose : Kind → ℕ → Durable → Type 0
    Whose k p d = TakesWhole k p d

    own_kind : (node_of mid).kind ≡ o
    own_kind = ap (λ (k : NodeState). k.kind) took.node

    own_me : (node_of mid).me ≡ me
    own_me = ap (λ (k : NodeState). k.me) took.node

    whole_on : Whose o me s.durable → Whose o me (node_of new).state.durable
    whole_on whole =
        let m : NodeState = node_of mid in
        let before : Whose m.kind m.me m.state.durable =
        subst (λ (k : Kind). Whose k m.me m.state.durable) (sym own_kind) (subst (λ (p : ℕ). Whose o p m.state.durable) (sym own_me) (took.whole whole)) in
        let after : Whose m.kind m.me (after_input m x).state.durable = whole_at m.kind m.me m.state mid.failed x took.servable.me took.servable.range range before in
        subst (λ (k : Kind). Whose k me (node_of new).state.durable) own_kind
        (subst (λ (p : ℕ). Whose m.kind p (node_of new).state.durable) own_me (subst (λ (k : NodeState). Whose m.kind m.me k.state.durable) (sym takes.node) after))

    pub took_more : Took old (ts ++ x ∷ []) before (after ++ Ok given ∷ []) h new
    took_more =
        let gave : Told = Ok (given_of (plan_as o me so_far x)) in
        record {
          node = is_node;
          store = takes.store ∙ took.store;
          leads = leads_on;
          added = ap (λ (rs : List Told). rs ++ Ok given ∷ []) took.added ∙ append_assoc before (told_all o me s ts) (Ok given ∷ [])
              ∙ ap (λ (k : _). before ++ (told_all o me s ts ++ Ok k ∷ [])) gives_it ∙ ap (λ (rs : List Told). before ++ rs) (sym (told_more o me s ts x));
          given = subst (All ToldInRange) (sym (told_more o me s ts x))
              (All-append ToldInRange (told_all o me s ts) (gave ∷ []) took.given (All-cons ToldInRange gave [] (subst (λ k. ToldInRange (Ok k)) gives_it fits) (All-nil ToldInRange)));
          calm = All-append IsCalm ts (x ∷ []) took.calm (All-cons IsCalm x [] calm (All-nil IsCalm));
          servable = stays mid new x (Ok given) took.servable range (takes.given, takes.node) sound;
          whole = whole_on;
        }

  -- ---- as the loop goes on

  -- these were taken, and this is the next
  pub record Going (old : Node D) (xs : List Input) (next : Input) (rest : List Input) (before after : List Told) (g : Record) (now : Node D) (most len room first_room : ℕ) : Type 0 where
    pub ts : List Input
    pub split : xs ≡ ts ++ next ∷ rest
    pub took : Took old ts before after g now
    pub next_in : InputInRange next
    pub calm : IsCalm next
    pub range : All InputInRange rest
    pub few : length rest ≤ most
    pub fits : len + length rest < room
    pub same_room : room ≡ first_room
