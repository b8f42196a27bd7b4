-- Runs of a node that is served: what its disks store at each step of them.
use Rattle.std.proofs.Common.{◌≡◌, ◌∷◌, [], List, refl, sym, subst}
use Rattle.std.specs.List.{flat_map}
use Rattle.std.proofs.lemmas.List.Concat.{flat_map-cons}
use Rattle.op_outside.specs.Disks.{DiskState}
use Rattle.op_store.specs.Stored.{KeepBoth}
use Rattle.op_store.specs.Stores.{disks_of}
use Rattle.op_serving.specs.Cores.{Standing}
use Rattle.op_serving.specs.Fates.{Came, after_fate}
use Rattle.op_serving.specs.Faults.{came_in, WalksBy, Walks}
use Rattle.op_serving.specs.Inputs.{Deed, begins, hears, enters, says, takes}
use Rattle.op_serving.specs.Reopenings.{Unstored, unstored_after, FindStored, unstored_behind}
use Rattle.op_core.specs.Disks.{FindEach, unstored_after_all, Stores, StepStores}
use Rattle.op_core.specs.NodeCores.{standing_of}
use Rattle.op_core.specs.declared.node_core.NodeCore.{NodeCore}
use Rattle.op_core.proofs.Came.{stores_both, none_stores}

-- ---- the inputs of deeds

find_in : (n : Standing) (u : Unstored) (ds : List Deed) → FindEach n u (came_in ds) → FindStored n u ds
find_in n u [] f = tt
find_in n u (enters who i x ∷ ds) f = (f.0, find_in (after_fate n i x) (unstored_after n i x u) ds f.1)
find_in n u (begins c bytes ∷ ds) f = find_in n u ds f
find_in n u (hears c bytes ∷ ds) f = find_in n u ds f
find_in n u (says g ∷ ds) f = find_in n u ds f
find_in n u (takes c bytes ∷ ds) f = find_in n u ds f

behind_in : (n : Standing) (u : Unstored) (ds : List Deed) → unstored_after_all n u (came_in ds) ≡ unstored_behind n u ds
behind_in n u [] = refl
behind_in n u (enters who i x ∷ ds) = behind_in (after_fate n i x) (unstored_after n i x u) ds
behind_in n u (begins c bytes ∷ ds) = behind_in n u ds
behind_in n u (hears c bytes ∷ ds) = behind_in n u ds
behind_in n u (says g ∷ ds) = behind_in n u ds
behind_in n u (takes c bytes ∷ ds) = behind_in n u ds

module _ {D : Type 0} (state : D → DiskState) where
  -- groups of them are to the disks what all of them are
  in_groups : (old new : NodeCore D) (groups : List (List Came)) → WalksBy (StepStores state) old groups new → StepStores state old (flat_map (λ (g : List Came). g) groups) new
  in_groups old new [] is = subst (λ (k : NodeCore D). StepStores state old [] k) (sym is) (none_stores state old)
  in_groups old new (g ∷ groups) w =
      subst (λ (cs : List Came). StepStores state old cs new) (sym (flat_map-cons (λ (h : List Came). h) g groups))
      (stores_both state old w.0 new g (flat_map (λ (h : List Came). h) groups) w.1 (in_groups w.0 new groups w.2))

  walked : (old new : NodeCore D) (ds : List Deed) → Walks (StepStores state) old ds new → StepStores state old (came_in ds) new
  walked old new ds w = subst (λ (cs : List Came). StepStores state old cs new) (sym w.are) (in_groups old new w.groups w.walks)

  pub runs_keep : (old new : NodeCore D) (ds : List Deed) → Walks (StepStores state) old ds new → KeepBoth (disks_of state old.node.store) (disks_of state new.node.store)
  runs_keep old new ds w = (walked old new ds w).kept

  pub runs_find : (old new : NodeCore D) (ds : List Deed) (u : Unstored) → Walks (StepStores state) old ds new → Stores state u old → FindStored (standing_of state old) u ds
  runs_find old new ds u w s = find_in (standing_of state old) u ds ((walked old new ds w).found u s)

  pub runs_store : (old new : NodeCore D) (ds : List Deed) (u : Unstored) → Walks (StepStores state) old ds new → Stores state u old → Stores state (unstored_behind (standing_of state old) u ds) new
  runs_store old new ds u w s = subst (λ (v : Unstored). Stores state v new) (behind_in (standing_of state old) u ds) ((walked old new ds w).stored u s)
