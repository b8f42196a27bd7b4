-- The ids of all servers: they rise, members are among them, and no observer is a node.
use Rattle.std.proofs.Common.{◌≡◌, ◌<◌, ◌≤◌, ℕ, List, [], ◌∷◌, All, refl, sym, subst, arith, ⊎_elim}
use Rattle.std.proofs.lemmas.Bool.{cases_lt, cases_eq}
use Rattle.std.proofs.lemmas.Cmp.{nat_eq_equiv}
use Rattle.std.proofs.lemmas.Map.Made.{All-is_member}
use Rattle.std.proofs.lemmas.List.Elements.{All-head, All-tail, All-weaker}
use Rattle.std.specs.BTreeSet.{insert_key}
use Rattle.std.specs.Ordering.{nat_cmp}
use Rattle.op_types.specs.Limits.{greatest_pid}
use Rattle.op_types.specs.Ranges.{AreRising, IsMember, IsPid, MembersInRange}
use Rattle.op_runs.specs.World.{node_ids}
use Rattle.op_runs.proofs.Servers.{all_at, both_back}
use Rattle.op_runs.specs.Possible.{SparesInRange, ObserversInRange, server_ids}
use Rattle.op_bounds.proofs.Known.{rising_ids}
use Rattle.op_bounds.proofs.Starts.{all_ids}
use Rattle.op_executions.proofs.Spares.{above, equal, below}

-- ---- one of some ids

-- those that were there stay, once more are put
pub kept : (ids more : List ℕ) (q : ℕ) → IsMember ids q → IsMember (node_ids ids more) q
kept ids more q h = all_at (IsMember (node_ids ids more)) ids q (both_back (IsMember (node_ids ids more)) more ids (All-is_member nat_eq_equiv (node_ids ids more))).0 h

-- a member is one of the servers
pub members_known : (members spares observers : List ℕ) (q : ℕ) → IsMember members q → IsMember (server_ids members spares observers) q
members_known members spares observers q h = kept (node_ids members spares) observers q (kept members spares q h)

-- ---- they rise

-- rising ids with one more
pub put_rising : (low : ℕ) (ids : List ℕ) (k : ℕ) → AreRising low ids → low < k → k ≤ greatest_pid → AreRising low (insert_key nat_cmp ids k)
put_rising low [] k r over small = (over, small, tt)
put_rising low (x ∷ ids) k r over small = ⊎_elim (λ less. more less (put_rising x ids k r.2 less small)) least (cases_lt x k)
  where
    more : x < k → AreRising x (insert_key nat_cmp ids k) → AreRising low (insert_key nat_cmp (x ∷ ids) k)
    more less rest = subst (λ (ks : List ℕ). AreRising low ks) (sym (above k x ids less)) (r.0, r.1, rest)

    least : k ≤ x → AreRising low (insert_key nat_cmp (x ∷ ids) k)
    least most =
        ⊎_elim (λ (same : k ≡ x). subst (λ (ks : List ℕ). AreRising low ks) (sym (equal k x ids same)) r)
        (λ (other : k ≡ x → ⊥).
        let less : k < x = omega (arith, most, other) in
        subst (λ (ks : List ℕ). AreRising low ks) (sym (below k x ids less)) (over, small, (less, r.1, r.2)))
        (cases_eq k x)

more_rising : (more ids : List ℕ) → AreRising 0 ids → All IsPid more → AreRising 0 (node_ids ids more)
more_rising [] ids r each = r
more_rising (q ∷ more) ids r each =
    let is : IsPid q = All-head IsPid q more each in
    more_rising more (insert_key nat_cmp ids q) (put_rising 0 ids q r (omega (arith, is.0)) is.1) (All-tail IsPid q more each)

module _ (members spares observers : List ℕ) (m : MembersInRange members) (s : SparesInRange members spares) where
  pub nodes_rising : AreRising 0 (node_ids members spares)
  nodes_rising = more_rising spares members m.rising (rising_ids 0 spares s.rising)

  module _ (o : ObserversInRange members spares observers) where
    pub servers_rising : AreRising 0 (server_ids members spares observers)
    servers_rising = more_rising observers (node_ids members spares) nodes_rising (rising_ids 0 observers o.rising)

    -- ---- none is both

    none_is : (ids : List ℕ) (q : ℕ) → (IsMember ids q → ⊥) → All (λ n. n ≡ q → ⊥) ids
    none_is ids q none = All-weaker (IsMember ids) (λ (n : ℕ). n ≡ q → ⊥) (λ n h same. none (subst (IsMember ids) same h)) ids (All-is_member nat_eq_equiv ids)

    -- no node has an observer's id
    pub beside : (q : ℕ) → IsMember observers q → All (λ n. n ≡ q → ⊥) (node_ids members spares)
    beside q h = all_ids (λ (n : ℕ). n ≡ q → ⊥) spares members (none_is members q (o.no_member q h)) (none_is spares q (o.no_spare q h))

    -- and no observer a node's
    pub no_observer : (q : ℕ) → IsMember (node_ids members spares) q → IsMember observers q → ⊥
    no_observer q node h = all_at (λ (n : ℕ). n ≡ q → ⊥) (node_ids members spares) q (beside q h) node refl
