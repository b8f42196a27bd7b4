-- The processes of a node that end by themselves are together lives as the theorem of a cluster has them.
use Rattle.std.proofs.Common.{◌≡◌, ◌⊎◌, inl, inr, ◌++◌, ◌∷◌, [], ℕ, true, List, map, refl, sym, ◌∙◌, ap, subst, append_assoc, append-nil}
use Rattle.op_types.specs.declared.durable.Durable.{Durable}
use Rattle.op_outside.specs.Disks.{DiskState, MayLeave}
use Rattle.op_setup.specs.declared.config.Settings.{Settings}
use Rattle.op_status.specs.declared.status.Status.{Status}
use Rattle.op_store.specs.Openings.{Remains}
use Rattle.op_store.specs.Stored.{Disks, IsStored, HaveImages}
use Rattle.op_store.proofs.UniquePairs.{one_stored, nothing_or_stored}
use Rattle.op_runs.specs.Possible.{kind_in}
use Rattle.op_runs.specs.World.{Kind}
use Rattle.op_node.specs.Nodes.{NodeState}
use Rattle.op_node.specs.Openings.{fresh_as}
use Rattle.op_node.specs.Reopenings.{IsOneOf}
use Rattle.op_serving.specs.declared.mark.Mark.{Mark}
use Rattle.op_serving.specs.Inputs.{Deed}
use Rattle.op_cluster_laws.specs.Traces.{Event, does, ends, Lived, stands, first_life}
use Rattle.op_cluster_laws.specs.Clusters.{IsLife}
use Rattle.op_cluster_laws.proofs.Tracing.{folded_kind, folded_me}
use Rattle.op_serve.specs.Lives.{opened_at, life_of, life_ended, Leaves, Lives}
use Rattle.op_serve.specs.Nodes.{Around, Ends, cannot_open, is_damaged, is_newer, has_no_memory, is_opened, is_not_marked, Goes, is_unheard, cannot_begin, has_served, IsOpened, IsOwn, KeepsStored, ObeyIn, disks_in, faults_of}
use Rattle.op_serve.specs.Processes.{Lasts, Process, Follow, events_of, events_then}
use Rattle.op_serve.proofs.Living.{next_life, first_start, whole_for}

-- a life that is over has been one
ended_life : (n : NodeState) (count : ℕ) (deeds : List Deed) (disks : Disks) → Lives n count deeds disks → IsLife (life_ended n count deeds)
ended_life n count deeds disks k = let one = k.lives deeds [] (sym (append-nil deeds)) in record { serves = one.serves; stored = one.stored }

-- what was done of these deeds, and what is left of them
deeds_last : (n : NodeState) (count : ℕ) (deeds : List Deed) (disks : Disks) → Lives n count deeds disks → (es : List Event) → Lasts (life_ended n count deeds) es
    → (first later : List Deed) → deeds ≡ first ++ later → Lasts (life_of n count first) (map does later ++ ends ∷ es)
deeds_last n count deeds disks k es behind first [] split =
    (k.lives first [] split, refl, subst (λ ds. Lasts (life_ended n count ds) es) (split ∙ append-nil first) behind)
deeds_last n count deeds disks k es behind first (d ∷ later) split =
    (k.lives first (d ∷ later) split, refl, deeds_last n count deeds disks k es behind (first ++ d ∷ []) later (split ∙ sym (append_assoc first (d ∷ []) later)))

module _ {D : Type 0} (state : D → DiskState) (kind : Kind) (id : ℕ) (members : List ℕ) where
  -- whose life it is, and of which kind
  mine : (p : Process state kind id members) → (stands (life_ended p.node (faults_of state p.mid) p.deeds)).me ≡ id
  mine p = folded_me (opened_at p.node (faults_of state p.mid)) p.deeds ∙ ap (λ (n : NodeState). n.me) p.opened.node

  alike : (p : Process state kind id members) → (stands (life_ended p.node (faults_of state p.mid) p.deeds)).kind ≡ kind
  alike p = folded_kind (opened_at p.node (faults_of state p.mid)) p.deeds ∙ ap (λ (n : NodeState). n.kind) p.opened.node

  then_last : (l : Lived) (disks : Disks) → (stands l).kind ≡ kind → (stands l).me ≡ id → Leaves l disks → IsLife l → (ps : List (Process state kind id members)) → Follow state disks ps → Lasts l (events_then state ps)
  then_last l disks of me leaves life [] follow = life
  then_last l disks of me leaves life (p ∷ ps) follow =
      let next = next_life state kind id members l disks p.old p.mid p.node p.opened of me leaves follow.0 p.obey in
      let k = p.did (p.obey, whole_for kind id l p.opened.durable of me next.whole) in
      let count : ℕ = faults_of state p.mid in (
        life,
        next.may,
        subst (λ (x : Lived). Lasts x (events_of state p (events_then state ps))) next.next
            (deeds_last p.node count p.deeds (disks_in state p.new) k (events_then state ps)
            (then_last (life_ended p.node count p.deeds) (disks_in state p.new) (alike p) (mine p) k.leaves (ended_life p.node count p.deeds (disks_in state p.new) k) ps follow.1) [] p.deeds refl),
      )

  pub processes_last : (p : Process state kind id members) (ps : List (Process state kind id members)) (observers : List ℕ) (faulted : ℕ → ℕ) → kind_in observers id ≡ kind
      → p.opened.is_new ≡ true → faulted id ≡ faults_of state p.mid → Follow state (disks_in state p.new) ps
      → Lasts (first_life members observers faulted id) (events_of state p (events_then state ps))
  processes_last p ps observers faulted of fresh count follow =
      let one = first_start state kind id members p.old p.mid p.node p.opened fresh p.obey in
      let k = p.did (p.obey, one.whole) in
      let n : ℕ = faults_of state p.mid in
      subst (λ (x : Lived). Lasts x (events_of state p (events_then state ps))) (one.first observers faulted of count)
      (deeds_last p.node n p.deeds (disks_in state p.new) k (events_then state ps)
      (then_last (life_ended p.node n p.deeds) (disks_in state p.new) (alike p) (mine p) k.leaves (ended_life p.node n p.deeds (disks_in state p.new) k) ps follow) [] p.deeds refl)

-- ---- one process

module _ {D : Type 0} (state : D → DiskState) (id : ℕ) (o : Settings) (old : Around D) (obey : ObeyIn state old) where
  opened_process : (mid new : Around D) (n : NodeState) (s : Status) (lost : List Mark) (opened : IsOpened state (kind_in o.observers id) id o.members old mid n)
      → Goes state id o n (IsOwn state (kind_in o.observers id) id old opened.durable) mid new s lost → (p : Process state (kind_in o.observers id) id o.members) × (p.old ≡ old) × (p.new ≡ new)
  opened_process mid new n s lost opened (is_unheard h same lives) = (record { old = old; mid = mid; new = new; node = n; opened = opened; obey = obey; deeds = []; did = lives }, refl, refl)
  opened_process mid new n s lost opened (cannot_begin t r c same lives) = (record { old = old; mid = mid; new = new; node = n; opened = opened; obey = obey; deeds = []; did = lives }, refl, refl)
  opened_process mid new n s lost opened (has_served net r count run kept stored lives) =
      (record { old = old; mid = mid; new = new; node = n; opened = opened; obey = obey; deeds = run.last.driver.deeds; did = lives }, refl, refl)

pub process_of : {D : Type 0} (state : D → DiskState) (id : ℕ) (o : Settings) (old new : Around D) (s : Status) (lost : List Mark) → Ends state id o old new s lost → ObeyIn state old
    → KeepsStored state (kind_in o.observers id) id o.members old new ⊎ ((p : Process state (kind_in o.observers id) id o.members) × (p.old ≡ old) × (p.new ≡ new))
process_of state id o old new s lost (cannot_open keeps rose) obey = inl keeps
process_of state id o old new s lost (is_damaged keeps same damage) obey = inl keeps
process_of state id o old new s lost (is_newer keeps same newer) obey = inl keeps
process_of state id o old new s lost (has_no_memory keeps same) obey = inl keeps
process_of state id o old new s lost (is_not_marked {n = n} opened lives) obey =
    inr (record { old = old; mid = new; new = new; node = n; opened = opened; obey = obey; deeds = []; did = lives }, refl, refl)
process_of state id o old new s lost (is_opened {n = n} mid opened goes) obey = inr (opened_process state id o old obey mid new n s lost opened goes)

-- ---- an opening that is refused

-- what the disks stored stays
remains_one : (fresh before after : Durable) (a b x y : List ℕ) → IsOneOf before after a b → Remains fresh a b x y → IsOneOf before after x y
remains_one fresh before after a b x y (inl one) (inl (d, was, is)) = inl (subst (λ (e : Durable). IsStored e x y) (one_stored a b d before was one) is)
remains_one fresh before after a b x y (inr one) (inl (d, was, is)) = inr (subst (λ (e : Durable). IsStored e x y) (one_stored a b d after was one) is)
remains_one fresh before after a b x y (inl one) (inr (none, is)) = absurd (nothing_or_stored a b before none one)
remains_one fresh before after a b x y (inr one) (inr (none, is)) = absurd (nothing_or_stored a b after none one)

pub refused_leaves : {D : Type 0} (state : D → DiskState) (kind : Kind) (id : ℕ) (members : List ℕ) (l : Lived) (old new : Around D) → KeepsStored state kind id members old new → HaveImages (disks_in state old)
    → Leaves l (disks_in state old) → Leaves l (disks_in state new)
refused_leaves state kind id members l old new keeps had k = record {
  left = k.left;
  is = k.is;
  stored = record {
    obey = (keeps.kept.model.0.1 obey.0, keeps.kept.model.1.1 obey.1);
    read = each (state new.first).content (state new.second).content (images.0) (images.1);
    left = each;
  };
  whole = k.whole;
}
  where
    before : Durable
    before = k.left.before.durable

    ahead : Durable
    ahead = k.left.ahead.durable

    obey : ObeyIn state old
    obey = k.stored.obey

    images : HaveImages (disks_in state new)
    images = keeps.images obey had

    each : (x y : List ℕ) → MayLeave (state new.first) x → MayLeave (state new.second) y → IsOneOf before ahead x y
    each x y at_first at_second = elim ((keeps.crash obey).now x y at_first at_second) [
      | inl was ↦ k.stored.left x y was.0 was.1
      | inr remains ↦ remains_one (fresh_as kind id members) before ahead (state old.first).content (state old.second).content x y k.stored.read remains
    ]
