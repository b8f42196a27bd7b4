-- Where a server is in a configuration, all lists before it are ended.
use Rattle.std.proofs.Common.{◌≡◌, ◌<◌, ◌⊎◌, ⊎_elim, ℕ, is_some, List, Option, Some, None, subst, refl, sym, ap, ◌∙◌}
use Rattle.op_types.specs.Stops.{stop_at_end}
use Rattle.op_types.specs.declared.log.Entry.{Entry}
use Rattle.op_types.specs.declared.log.StopSign.{StopSign}
use Rattle.op_configurations.specs.Servers.{Part, Closed, latest, latest_in}
use Rattle.op_configurations.specs.Stored.{HoldsIfPart, HoldsIfClosed}
use Rattle.op_types.specs.declared.durable.Part.{Part as StoredPart}
use Rattle.op_types.specs.declared.durable.Closed.{Closed as StoredClosed}
use Rattle.op_runs.specs.World.{Node, Sent}
use Rattle.op_refinement.proofs.Beside.{NodeRel}
use Rattle.op_refinement.proofs.Machines.{node_holds}
use Rattle.op_watch_laws.proofs.Told.{CanShow}
use Rattle.op_configurations.specs.Worlds.{Happening, machine_of}
use Rattle.op_configurations.proofs.Tale.{Linked, ClosedOk, Whole}
use Rattle.op_configurations.proofs.Fixed.{below_latest, whole_below}
use Rattle.op_configurations.proofs.Standing.{whole_is}
use Rattle.op_configurations.proofs.Book.{all_ok}
use Rattle.op_refinement.proofs.Worlds.{lists_of, state_of, above_of}
use Rattle.op_watch_laws.proofs.Lists.{AreEnded}

pub ended_below : (first : List ℕ) (ks : List Happening) (p : ℕ) → AreEnded (lists_of first ks) (latest (state_of first ks p))
ended_below first ks p x pos lt =
    let k = all_ok first ks in
    ⊎_elim
    (λ (l : Linked k.tale x). ap (λ (es : List Entry). is_some (stop_at_end es)) (sym (whole_is first k.tale (machine_of first ks) (k.good).tale k.book x l.list l.sign l.whole)) ∙ ap (λ (o : Option StopSign). is_some o) (l.whole).last)
    (λ (y : (c : Closed) × ClosedOk k.tale c × (x ≡ c.conf)).
    ap (λ (n : ℕ). is_some (stop_at_end (lists_of first ks n))) y.2
    ∙ ap (λ (es : List Entry). is_some (stop_at_end es)) (sym (whole_is first k.tale (machine_of first ks) (k.good).tale k.book (y.0).conf (y.0).list (y.1).sign (y.1).whole)) ∙ ap (λ (o : Option StopSign). is_some o) ((y.1).whole).last)
    (below_latest first (machine_of first ks).proposed k.tale (k.good).tale p (state_of first ks p) (((k.good).servers p).state) x pos lt)

module _ (first : List ℕ) (ks : List Happening) (p : ℕ) where
  -- so it is where a server has a closed list
  closed_ended : (c : Closed) → (state_of first ks p).closed ≡ Some c → (0 < c.conf) × AreEnded (lists_of first ks) c.conf
  closed_ended c has =
      let k = all_ok first ks in
      let whole : Whole k.tale c.conf c.list ((((((k.good).servers p).state).closed c has)).sign) = ((((k.good).servers p).state).closed c has).whole in (
        ((k.good).tale).low c.conf whole.opened,
        λ x pos lt.
            let l : Linked k.tale x = whole_below first (machine_of first ks).proposed k.tale (k.good).tale c.conf x pos lt whole.opened in
            ap (λ (es : List Entry). is_some (stop_at_end es)) (sym (whole_is first k.tale (machine_of first ks) (k.good).tale k.book x l.list l.sign l.whole)) ∙ ap (λ (o : Option StopSign). is_some o) (l.whole).last,
      )

  part_ended : (pt : Part) → (state_of first ks p).part ≡ Some pt → (0 < pt.conf) × AreEnded (lists_of first ks) pt.conf
  part_ended pt has = (
    above_of first ks p pt has,
    subst (AreEnded (lists_of first ks)) (ap (λ (o : Option Part). latest_in o (state_of first ks p).closed) has) (ended_below first ks p),
  )

none_some : {A : Type 0} (a : A) → None ≡ Some a → ⊥
none_some a e = cc

some_same : {A : Type 0} (a b : A) → Some a ≡ Some b → a ≡ b
some_same a b e = cc

-- of what a node shows
pub can_show : (first : List ℕ) (ks : List Happening) (messages : List Sent) (n : Node) → NodeRel first ks messages n → CanShow first (lists_of first ks) n.state.durable
can_show first ks messages n k =
    let held = node_holds first ks messages n k in
    record {
      part = λ q e. of_part n.state.durable.part (state_of first ks n.pid).part refl held.part q e;
      closed = λ l e. of_closed n.state.durable.closed (state_of first ks n.pid).closed refl held.closed l e;
    }
  where
    Ends : ℕ → Type 0
    Ends c = (0 < c) × AreEnded (lists_of first ks) c

    of_part : (o : Option StoredPart) (y : Option Part) → (state_of first ks n.pid).part ≡ y → HoldsIfPart (lists_of first ks) o y → (q : StoredPart) → o ≡ Some q → (0 < q.conf) × AreEnded (lists_of first ks) q.conf
    of_part None y has h q e = absurd (none_some q e)
    of_part (Some z) None has h q e = absurd h
    of_part (Some z) (Some pt) has h q e =
        let at : pt.conf ≡ q.conf = sym h.conf ∙ ap (λ (x : StoredPart). x.conf) (some_same z q e) in
        let x = part_ended first ks n.pid pt has in
        (subst (λ (c : ℕ). 0 < c) at x.0, subst (AreEnded (lists_of first ks)) at x.1)

    of_closed : (o : Option StoredClosed) (y : Option Closed) → (state_of first ks n.pid).closed ≡ y → HoldsIfClosed (lists_of first ks) o y → (l : StoredClosed) → o ≡ Some l → (0 < l.conf) × AreEnded (lists_of first ks) l.conf
    of_closed None y has h l e = absurd (none_some l e)
    of_closed (Some z) None has h l e = absurd h
    of_closed (Some z) (Some c) has h l e =
        let at : c.conf ≡ l.conf = sym h.conf ∙ ap (λ (x : StoredClosed). x.conf) (some_same z l e) in
        let x = closed_ended first ks n.pid c has in
        (subst (λ (c : ℕ). 0 < c) at x.0, subst (AreEnded (lists_of first ks)) at x.1)
