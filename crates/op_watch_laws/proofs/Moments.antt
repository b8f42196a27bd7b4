-- Every happening keeps it, and so does every run.
use Rattle.std.proofs.Common.{◌≡◌, ◌⊎◌, inl, inr, ⊎_elim, ℕ, zero, suc, ◌-◌, List, Option, Some, None, refl, sym, ap, ◌∙◌, subst, arith, slice_get}
use Rattle.std.proofs.lemmas.Bool.{cases_eq}
use Rattle.op_types.specs.Changes.{new_part}
use Rattle.op_types.specs.declared.events.Input.TheVariants as input
use Rattle.op_types.specs.declared.log.Entry.{Entry}
use Rattle.op_runs.specs.declared.events.What.{What}
use Rattle.op_runs.specs.declared.events.What.TheVariants as what
use Rattle.op_spec.specs.Laws.{NoneAfterStop}
use Rattle.op_spec.specs.Service.{new_service, base_bytes}
use Rattle.op_runs.specs.World.{Node, Up, Votes, Observes, Sent, node_at, with_node, insert_node, Deed, Doing, Steps, Stops, Opens, Tells, Fate, Done, Stopped, Faulted, World, Happening, delivery, deed_of, first_observer, world_by_status_as, world_beginning, world_at_observer, world_observed, world_at_node, world_with, world_after}
use Rattle.op_refinement.proofs.View.{Each, Each-append}
use Rattle.op_refinement.proofs.NodeLists.{IfThere, found, node_at-other, node_at-here}
use Rattle.op_refinement.proofs.Steps.{AllRead}
use Rattle.op_watch_laws.specs.Laws.{IsUpTo, decided_place, decided_place_at, NoneFalls}
use Rattle.op_watch_laws.proofs.Nodes.{DoingTold, up_same, NodeKept, Moves, by_status, each_with, each_insert, insert_other}
use Rattle.op_watch_laws.proofs.Worlds.{SentTold, WorldKept, NodeShows, each_get, Adds, node_adds, node_keeps, observer_adds}

same_deed : (a b : Deed) → Some a ≡ Some b → a ≡ b
same_deed a b e = cc

none_deed : (b : Deed) → None ≡ Some b → ⊥
none_deed b e = cc

-- ---- the beginning of an observer

begins_kept : (first : List ℕ) (lists : ℕ → List Entry) (pid : ℕ) → NodeKept first lists (first_observer first pid)
begins_kept first lists pid = record {
  state = record {
    part = new_part 1 first (base_bytes new_service);
    is = refl;
    kept = record {
      promised = refl;
      accepted = refl;
      decided = refl;
      stands = record { trimmed = omega arith; decided = omega arith; entries = refl; members = refl; base = refl };
      pos = omega arith;
      ended = λ x pos lt. absurd (omega (arith, pos, lt));
    };
    serves = refl;
    pieces = tt;
  };
  status = tt;
}

same_falls : (l : List Node) → NoneFalls l l
same_falls l pid = up_same (decided_place_at (node_at l pid))

module _ (first : List ℕ) (lists : ℕ → List Entry) (ends : (c : ℕ) → NoneAfterStop (lists c)) (read : AllRead lists) where
  -- what a happening leaves
  pub record Kept (w v : World) : Type 0 where
    pub kept : WorldKept first lists v
    pub falls : NoneFalls w.observers v.observers

  -- messages that were sent are there, and those that are added are true
  with_adds : (w v : World) → WorldKept first lists w → Adds first lists ends read w v → Each (NodeKept first lists) v.observers → NoneFalls w.observers v.observers → Kept w v
  with_adds w v k a o f = record {
    kept = record {
      members = a.members ∙ k.members;
      observers = o;
      told = subst (Each (SentTold first lists)) (sym a.messages) (Each-append (SentTold first lists) w.messages a.sends k.told a.told);
    };
    falls = f;
  }

  -- what one observer does
  moved : (w : World) (n : Node) (new : List Node) → Each (NodeKept first lists) w.observers → node_at w.observers n.pid ≡ Some n → Moves first lists n w.observers new → Each (NodeKept first lists) new × NoneFalls w.observers new
  moved w n new k at (inl e) = (subst (Each (NodeKept first lists)) (sym e) k, subst (NoneFalls w.observers) (sym e) (same_falls w.observers))
  moved w n new k at (inr (m, own, e, kept, up)) = (
    subst (Each (NodeKept first lists)) (sym e) (each_with (NodeKept first lists) w.observers m k kept),
    subst (NoneFalls w.observers) (sym e)
        (λ pid.
        ⊎_elim
        (λ (s : pid ≡ m.pid).
        let there : node_at w.observers m.pid ≡ Some n = ap (node_at w.observers) own ∙ at in
        subst (λ (q : ℕ). IsUpTo (decided_place_at (node_at w.observers q)) (decided_place_at (node_at (with_node w.observers m) q))) (sym s)
        (subst (λ (o : Option Node). IsUpTo (decided_place_at o) (decided_place_at (node_at (with_node w.observers m) m.pid))) (sym there)
        (subst (λ (o : Option Node). IsUpTo (decided_place n.state.durable.part) (decided_place_at o)) (sym (node_at-here w.observers m n there)) up)))
        (λ (d : pid ≡ m.pid → ⊥).
        subst (λ (o : Option Node). IsUpTo (decided_place_at (node_at w.observers pid)) (decided_place_at o)) (sym (node_at-other w.observers m pid d)) (up_same (decided_place_at (node_at w.observers pid))))
        (cases_eq pid m.pid)),
  )

  -- ---- at an id that no node has

  module _ (w : World) (h : Happening) (k : WorldKept first lists w) where
    begun : (d : Doing) (f : Fate) (pid : ℕ) → node_at w.observers pid ≡ None → Kept w (world_beginning d f pid w)
    begun (Steps x) f pid none = record { kept = k; falls = same_falls w.observers }
    begun Stops f pid none = record { kept = k; falls = same_falls w.observers }
    begun (Tells t) f pid none = record { kept = k; falls = same_falls w.observers }
    begun Opens Stopped pid none = record { kept = k; falls = same_falls w.observers }
    begun Opens (Faulted count) pid none = record { kept = k; falls = same_falls w.observers }
    begun Opens Done pid none = record {
      kept = record {
        members = k.members;
        observers = each_insert (NodeKept first lists) w.observers (first_observer w.members pid) k.observers (subst (λ (l : List ℕ). NodeKept first lists (first_observer l pid)) (sym k.members) (begins_kept first lists pid));
        told = k.told;
      };
      falls = λ q.
          ⊎_elim
          (λ (s : q ≡ pid). subst (λ (o : Option Node). IsUpTo (decided_place_at o) (decided_place_at (node_at (insert_node w.observers (first_observer w.members pid)) q))) (sym (ap (node_at w.observers) s ∙ none)) (low (decided_place_at (node_at (insert_node w.observers (first_observer w.members pid)) q))))
          (λ (d : q ≡ pid → ⊥). subst (λ (o : Option Node). IsUpTo (decided_place_at (node_at w.observers q)) (decided_place_at o)) (sym (insert_other w.observers (first_observer w.members pid) q d)) (up_same (decided_place_at (node_at w.observers q))))
          (cases_eq q pid);
    }
      where
        low : (a : ℕ × ℕ) → IsUpTo (0, 0) a
        low (zero, b) = inr (refl, omega arith)
        low (suc a, b) = inl (omega arith)

    at_observer : (x : Deed) → DoingTold first lists x.doing → (o : Option Node) → node_at w.observers x.pid ≡ o → IfThere (NodeKept first lists) x.pid o → Kept w (world_at_observer o x h w)
    at_observer x t None at there = begun x.doing h.fate x.pid at
    at_observer x t (Some n) at there =
        let m = moved w n (world_by_status_as Observes n.status x.doing h w n).observers k.observers (ap (node_at w.observers) there.0 ∙ at)
        (by_status first lists ends read w h n there.1 n.status refl (there.1).status x.doing t) in
        with_adds w (world_by_status_as Observes n.status x.doing h w n) k (observer_adds first lists ends read w h n n.status x.doing) m.0 m.1

    observed : (x : Deed) → DoingTold first lists x.doing → Kept w (world_observed (Some x) h w)
    observed x t = at_observer x t (node_at w.observers x.pid) refl (found (NodeKept first lists) w.observers k.observers x.pid)

    -- ---- whatever happens

    module _ (nodes : Each (NodeShows first lists) w.nodes) where
      at_node : (x : Deed) → deed_of w.messages h.event.what ≡ Some x → DoingTold first lists x.doing → (o : Option Node) → IfThere (NodeShows first lists) x.pid o → Kept w (world_at_node o x.doing h w)
      at_node x is t (Some n) there =
          with_adds w (world_by_status_as Votes n.status x.doing h w n) k (node_adds first lists ends read w h n there.1 n.status x.doing)
          (subst (Each (NodeKept first lists)) (sym (node_keeps first lists ends read w h n n.status x.doing)) k.observers)
          (subst (NoneFalls w.observers) (sym (node_keeps first lists ends read w h n n.status x.doing)) (same_falls w.observers))
      at_node x is t None there =
          subst (λ (o : Option Deed). Kept w (record (world_observed o h w) { nodes = w.nodes; members = w.members })) (sym is)
          (let r = observed x t in record { kept = record { members = k.members; observers = (r.kept).observers; told = (r.kept).told }; falls = r.falls })

      deed_told : (y : What) → (x : Deed) → deed_of w.messages y ≡ Some x → DoingTold first lists x.doing
      deed_told (what.Tick p) x e = subst (λ (z : Deed). DoingTold first lists z.doing) (same_deed _ x e) tt
      deed_told (what.Commands p cs) x e = subst (λ (z : Deed). DoingTold first lists z.doing) (same_deed _ x e) tt
      deed_told (what.Stop p members) x e = subst (λ (z : Deed). DoingTold first lists z.doing) (same_deed _ x e) tt
      deed_told (what.Trim p) x e = subst (λ (z : Deed). DoingTold first lists z.doing) (same_deed _ x e) tt
      deed_told (what.Read p r) x e = subst (λ (z : Deed). DoingTold first lists z.doing) (same_deed _ x e) tt
      deed_told (what.Up p q) x e = subst (λ (z : Deed). DoingTold first lists z.doing) (same_deed _ x e) tt
      deed_told (what.Down p q) x e = subst (λ (z : Deed). DoingTold first lists z.doing) (same_deed _ x e) tt
      deed_told (what.Crash p) x e = subst (λ (z : Deed). DoingTold first lists z.doing) (same_deed _ x e) tt
      deed_told (what.Start p) x e = subst (λ (z : Deed). DoingTold first lists z.doing) (same_deed _ x e) tt
      deed_told (what.Show p) x e = subst (λ (z : Deed). DoingTold first lists z.doing) (same_deed _ x e) tt
      deed_told (what.Ballots p) x e = subst (λ (z : Deed). DoingTold first lists z.doing) (same_deed _ x e) tt
      deed_told (what.CrashAt p call image) x e = absurd (none_deed x e)
      deed_told (what.Fail p call) x e = absurd (none_deed x e)
      deed_told (what.Kill p disk) x e = absurd (none_deed x e)
      deed_told (what.Deliver i) x e = by (slice_get w.messages i) refl e
        where
          by : (o : Option Sent) → slice_get w.messages i ≡ o → delivery o ≡ Some x → DoingTold first lists x.doing
          by None g e = absurd (none_deed x e)
          by (Some m) g e = subst (λ (z : Deed). DoingTold first lists z.doing) (same_deed _ x e) (each_get (SentTold first lists) w.messages i m k.told g)

      by_deed : (o : Option Deed) → deed_of w.messages h.event.what ≡ o → Kept w (world_with o h w)
      by_deed None is = record { kept = k; falls = same_falls w.observers }
      by_deed (Some x) is = at_node x is (deed_told h.event.what x is) (node_at w.nodes x.pid) (found (NodeShows first lists) w.nodes nodes x.pid)

      pub happening_keeps : Kept w (world_after w h)
      happening_keeps = by_deed (deed_of w.messages h.event.what) refl
