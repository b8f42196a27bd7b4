-- A run seen from one configuration.
use Rattle.std.proofs.Common.{◌≡◌, ℕ, zero, suc, ◌+◌, ◌<◌, ◌≤◌, ◌⊎◌, inl, inr, ⊎_elim, List, [], ◌∷◌, ◌++◌, length, take, drop, cond, ◌&&◌, ◌==◌, Bool, true, false, refl, sym, ap, ◌∙◌, subst, arith, Option, Some}
use Rattle.std.specs.Prelude.{slice_get, not, is_some}
use Rattle.std.proofs.lemmas.Bool.{cases_Bool, eq-eqb}
use Rattle.std.proofs.Math.Seq.{drop-append_seam}
use Rattle.op_types.specs.declared.log.Entry.{Entry}
use Rattle.op_spec.specs.Machine.{Machine, members_of, first_machine}
use Rattle.op_paxos.specs.Nodes.{Node}
use Rattle.op_paxos.specs.Worlds as paxos
use Rattle.op_paxos.specs.Nodes.{Role, Idle, Preparing, PreparingState, majority_passes}
use Rattle.op_paxos.specs.Logs.{overflows}
use Rattle.op_paxos.specs.Agreement.{IsPrefix, decided_log}
use Rattle.op_paxos.specs.Ledger.{refuses_as, refuses, StandsIn, ledger, known, execution_of, first_execution}
use Rattle.op_paxos.specs.Exchange.{Exchange, Proposed, IsPlaced, Dropped}
use Rattle.op_paxos.proofs.ExchangeEnds as one
use Rattle.op_configurations.specs.Servers.{Part, Done, Proposes, unchanged, acted, acted_in, may_propose, step}
use Rattle.op_configurations.specs.Worlds.{Life, Running, World, Happening, At, events_in, stepped, at_server, happens, run, start, machine_with, machine_after, machine_of}
use Rattle.op_configurations.specs.Views.{view, IsSeen, EachIsARun, events_from, InnerGrows, ExchangeDecides, AloneDecides}
use Rattle.op_configurations.proofs.Fronts.{none_some}
use Rattle.op_configurations.proofs.Runs.{told_here, decided_length, stands_in, tracked}
use Rattle.op_configurations.proofs.Tale.{Tale, inst, slice_more}
use Rattle.op_configurations.proofs.Goes.{Good}
use Rattle.op_configurations.proofs.Book.{BookOk, told_front, next, Kept, runs_ok, all_ok}
use Rattle.op_configurations.proofs.Standing.{run_append, machine_append, members_are}

-- ---- the world of a configuration is that of the tale

module _ (first : List ℕ) (t : Tale) (m : Machine) (w : World) (good : Good first m.proposed t w) (b : BookOk first t m) (c : ℕ) where
  pub view_is : inst t c ≡ view first m.lists w c
  unfolding paxos.run
  view_is =
      let e : t.events c ≡ w.inner c = good.events c in
      ⊎_elim
      (λ (h : t.opened c ≡ true). ap (λ (ms : List ℕ). paxos.run ms (t.events c) paxos.start) (members_are first t m good.tale b c h) ∙ ap (λ (es : List paxos.Event). paxos.run (members_of first m.lists c) es paxos.start) e)
      (λ (h : t.opened c ≡ false).
      let none : t.events c ≡ [] = (good.tale).empty c h in
      ap (λ (es : List paxos.Event). paxos.run (t.members c) es paxos.start) none ∙ sym (ap (λ (es : List paxos.Event). paxos.run (members_of first m.lists c) es paxos.start) (sym e ∙ none)))
      (cases_Bool (t.opened c))

  pub seen : IsSeen first m.lists m.known w c
  seen = record {
    packets = ap (λ (x : paxos.World). x.packets) (sym view_is) ∙ good.tied c;
    nodes = λ p pt has e. ap (λ (x : paxos.World). x.nodes p) (sym view_is) ∙ subst (λ r. (inst t r).nodes p ≡ pt.node) e ((((good.servers p).state).part pt has).node);
    decided = λ p. subst (λ (x : paxos.World). IsPrefix (decided_log x p) (m.lists c)) view_is (told_front first t m b c (decided_log (inst t c) p) (told_here (t.members c) (t.events c) p));
    known = λ p. subst (λ (x : paxos.World). (x.nodes p).decided ≤ m.known p c) view_is (omega (arith, b.knows p c, decided_length (t.members c) (t.events c) p));
  }

pub each_is_a_run : EachIsARun
each_is_a_run first hs c =
    let k = all_ok first hs in
    seen first k.tale (machine_of first hs) (run hs (start first)) k.good k.book c

-- ---- what happens inside only grows

inner_on : (first : List ℕ) (t : Tale) (w w' : World) (m m' : Machine) → Good first m.proposed t w → (r : Kept first t w w' m m') → (c : ℕ) → (more : List paxos.Event) × (w'.inner c ≡ w.inner c ++ more)
inner_on first t w w' m m' good r c =
    ⊎_elim
    (λ (h : t.opened c ≡ true). let x = (r.onward).events c h in (x.0, sym ((r.good).events c) ∙ x.1 ∙ ap (λ (l : List paxos.Event). l ++ x.0) (good.events c)))
    (λ (h : t.opened c ≡ false). (w'.inner c, ap (λ (l : List paxos.Event). l ++ w'.inner c) (sym ((good.tale).empty c h) ∙ good.events c)))
    (cases_Bool (t.opened c))

from_w : (first : List ℕ) (t : Tale) (w : World) (m : Machine) (late : List Happening) → Good first m.proposed t w → Kept first t w (run late w) m (machine_after late w m) → (c : ℕ) → w.inner c ++ events_from w late c ≡ (run late w).inner c
from_w first t w m late good r c =
    let x = inner_on first t w (run late w) m (machine_after late w m) good r c in
    ap (λ (l : List paxos.Event). w.inner c ++ drop (length (w.inner c)) l) x.1 ∙ ap (λ (l : List paxos.Event). w.inner c ++ l) (drop-append_seam (w.inner c) x.0) ∙ sym x.1

pub inner_grows : InnerGrows
inner_grows first early late c =
    let k = all_ok first early in
    let w = run early (start first) in
    let r = runs_ok first late k.tale w (machine_of first early) k.good k.book in
    from_w first k.tale w (machine_of first early) late k.good r c ∙ ap (λ (x : World). x.inner c) (sym (run_append early late (start first)))

-- ---- one exchange

idle_start : (ms : List ℕ) (es : List paxos.Event) (p : ℕ) (r : PreparingState) → es ≡ [] → ((paxos.run ms es paxos.start).nodes p).role ≡ Preparing r → ⊥
unfolding paxos.run paxos.start
idle_start ms es p r e h = idle_preparing r (sym (ap (λ (k : List paxos.Event). ((paxos.run ms k paxos.start).nodes p).role) e) ∙ h)
  where
    idle_preparing : (r : PreparingState) → Idle ≡ Preparing r → ⊥
    idle_preparing r e = cc

slice_front : (n k : ℕ) (l : List Entry) (e : Entry) → n < k → slice_get l n ≡ Some e → slice_get (take k l) n ≡ Some e
slice_front n k [] e lt h = absurd (none_some e h)
slice_front zero zero (x ∷ l) e lt h = absurd (omega (arith, lt))
slice_front zero (suc k) (x ∷ l) e lt h = h
slice_front (suc n) zero (x ∷ l) e lt h = absurd (omega (arith, lt))
slice_front (suc n) (suc k) (x ∷ l) e lt h = slice_front n k l e (omega (arith, lt)) h

-- what is decided inside a configuration stands in its list
stands_there : (first : List ℕ) (lists : ℕ → List Entry) (knows : ℕ → ℕ → ℕ) (w : World) (c : ℕ) → IsSeen first lists knows w c → (ms : List ℕ) (es : List paxos.Event) → paxos.run ms es paxos.start ≡ view first lists w c
    → (p : ℕ) (e : Entry) (place : ℕ) → place < known ms c es p → slice_get (ledger ms c es) place ≡ Some e → (place < knows p c) × (slice_get (lists c) place ≡ Some e)
stands_there first lists knows w c s ms es same p e place lt at =
    let track = execution_of ms c es (first_execution ms) in
    let k : StandsIn c track p = stands_in ms c es p in
    let is : track.world ≡ view first lists w c = tracked ms c es ∙ same in
    let d : ((track.world).nodes p).decided ≡ ((view first lists w c).nodes p).decided = ap (λ (x : paxos.World). (x.nodes p).decided) is in
    let below : place < ((track.world).nodes p).decided = omega (arith, lt, k.known) in
    let here : slice_get (decided_log track.world p) place ≡ Some e = ap (λ (l : List Entry). slice_get l place) (sym k.prefix) ∙ slice_front place ((track.world).nodes p).decided (ledger ms c es) e below at in
    let f : IsPrefix (decided_log (view first lists w c) p) (lists c) = s.decided p in (
      omega (arith, below, d, s.known p),
      ap (λ (l : List Entry). slice_get l place) (sym f.1) ∙ slice_more (decided_log (view first lists w c) p) f.0 place e (ap (λ (x : paxos.World). slice_get (decided_log x p) place) (sym is) ∙ here),
    )

module _ (first : List ℕ) (t : Tale) (w : World) (m : Machine) (good : Good first m.proposed t w) (bk : BookOk first t m) (late : List Happening) (r : Kept first t w (run late w) m (machine_after late w m)) (c : ℕ) where
  abbrev ms : List ℕ
  ms = members_of first m.lists c

  abbrev es : List paxos.Event
  es = events_from w late c

  same_view : t.opened c ≡ true → paxos.run ms (w.inner c ++ es) paxos.start ≡ view first (machine_after late w m).lists (run late w) c
  same_view h =
      let n = machine_after late w m in
      let members : ms ≡ members_of first n.lists c = sym (members_are first t m good.tale bk c h) ∙ sym ((r.onward).members c h) ∙ members_are first r.tale n (r.good).tale r.book c ((r.onward).opened c h) in
      ap (λ (l : List paxos.Event). paxos.run ms l paxos.start) (from_w first t w m late good r c) ∙ ap (λ (l : List ℕ). paxos.run l ((run late w).inner c) paxos.start) members

  abbrev Ends : (p : ℕ) → Entry → Proposed → Type 0
  Ends p e at =
      ((place : ℕ) × IsPlaced ms (view first m.lists w c) p es at place × (place < (machine_after late w m).known p c) × (slice_get ((machine_after late w m).lists c) place ≡ Some e))
      ⊎ Dropped ms (view first m.lists w c) p es at e

  exchange_on : (p b : ℕ) (others : List ℕ) (e : Entry) (x : Exchange ms (view first m.lists w c) p b others es e) → Ends p e x.proposed_at
  exchange_on p b others e x =
      ⊎_elim
      (λ (h : t.opened c ≡ true).
      let n = machine_after late w m in
      let s : IsSeen first n.lists n.known (run late w) c = seen first r.tale n (run late w) r.good r.book c in
      ⊎_elim
      (λ (y : (place : ℕ) × IsPlaced ms (view first m.lists w c) p es x.proposed_at place × (place < known ms c (w.inner c ++ es) p) × (slice_get (ledger ms c (w.inner c ++ es)) place ≡ Some e)).
      let z = stands_there first n.lists n.known (run late w) c s ms (w.inner c ++ es) (same_view h) p e y.0 y.2 y.3 in
      let a : Ends p e x.proposed_at = inl (y.0, y.1, z.0, z.1) in a)
      (λ (y : Dropped ms (view first m.lists w c) p es x.proposed_at e). let a : Ends p e x.proposed_at = inr y in a)
      (flat (one.exchange_decides ms c (w.inner c) es p b others e x)))
      (λ (h : t.opened c ≡ false). absurd (idle_start ms (w.inner c) p x.preparation (sym (good.events c) ∙ (good.tale).empty c h) x.preparing))
      (cases_Bool (t.opened c))
    where
      flat : ((place : ℕ) × IsPlaced ms (view first m.lists w c) p es x.proposed_at place × ((place < known ms c (w.inner c ++ es) p) × (slice_get (ledger ms c (w.inner c ++ es)) place ≡ Some e))) ⊎ Dropped ms (view first m.lists w c) p es x.proposed_at e
          → ((place : ℕ) × IsPlaced ms (view first m.lists w c) p es x.proposed_at place × (place < known ms c (w.inner c ++ es) p) × (slice_get (ledger ms c (w.inner c ++ es)) place ≡ Some e)) ⊎ Dropped ms (view first m.lists w c) p es x.proposed_at e
      flat (inl y) = inl (y.0, y.1, y.2.0, y.2.1)
      flat (inr y) = inr y

pub exchange_decides : ExchangeDecides
unfolding machine_of
exchange_decides first early late c p b others e x =
    let k = all_ok first early in
    let w = run early (start first) in
    let r = runs_ok first late k.tale w (machine_of first early) k.good k.book in
    let is = machine_append early late (start first) (first_machine first) in
    ⊎_elim (λ (y : (place : ℕ) × IsPlaced (members_of first (machine_of first early).lists c) (view first (machine_of first early).lists w c) p (events_from w late c) x.proposed_at place × (place < (machine_after late w (machine_of first early)).known p c) × (slice_get ((machine_after late w (machine_of first early)).lists c) place ≡ Some e)).
    inl (y.0, y.1, (subst (λ (n : Machine). y.0 < n.known p c) (sym is) y.2, subst (λ (n : Machine). slice_get (n.lists c) y.0 ≡ Some e) (sym is) y.3)))
    (λ (y : Dropped (members_of first (machine_of first early).lists c) (view first (machine_of first early).lists w c) p (events_from w late c) x.proposed_at e). inr y)
    (exchange_on first k.tale w (machine_of first early) k.good k.book late r c p b others e x)

-- the events inside a configuration of which a server has the part run in the same world, whenever its members are asked for
same_run : (first : List ℕ) (early late : List Happening) (p : ℕ) (pt : Part) → ((run early (start first)).servers p).state.part ≡ Some pt
    → paxos.run (members_of first (machine_of first early).lists pt.conf) ((run late (run early (start first))).inner pt.conf) paxos.start ≡ view first (machine_of first (early ++ late)).lists (run late (run early (start first))) pt.conf
unfolding machine_of
same_run first early late p pt has =
    let k = all_ok first early in
    let w = run early (start first) in
    let m = machine_of first early in
    let r = runs_ok first late k.tale w m k.good k.book in
    let x = (((k.good).servers p).state).part pt has in
    let is = machine_append early late (start first) (first_machine first) in
    ap (λ (l : List paxos.Event). paxos.run (members_of first m.lists pt.conf) l paxos.start) (sym (from_w first k.tale w m late k.good r pt.conf))
    ∙ same_view first k.tale w m k.good k.book late r pt.conf x.opened
    ∙ ap (λ (n : Machine). view first n.lists (run late w) pt.conf) (sym is)

-- the same of a run that goes on
pub same_world : (first : List ℕ) (early late : List Happening) (p : ℕ) (pt : Part) → ((run early (start first)).servers p).state.part ≡ Some pt
    → paxos.run (members_of first (machine_of first early).lists pt.conf) ((run (early ++ late) (start first)).inner pt.conf) paxos.start ≡ view first (machine_of first (early ++ late)).lists (run (early ++ late) (start first)) pt.conf
same_world first early late p pt has =
    ap (λ (w : World). paxos.run (members_of first (machine_of first early).lists pt.conf) (w.inner pt.conf) paxos.start) (run_append early late (start first))
    ∙ same_run first early late p pt has
    ∙ ap (λ (w : World). view first (machine_of first (early ++ late)).lists w pt.conf) (sym (run_append early late (start first)))

-- what these events decide stands in the configuration's list, if they run in its world
pub decided_there : (first : List ℕ) (hs : List Happening) (c : ℕ) (ms : List ℕ) (es : List paxos.Event) → paxos.run ms es paxos.start ≡ view first (machine_of first hs).lists (run hs (start first)) c
    → (p : ℕ) (e : Entry) (place : ℕ) → place < known ms c es p → slice_get (ledger ms c es) place ≡ Some e → (place < (machine_of first hs).known p c) × (slice_get ((machine_of first hs).lists c) place ≡ Some e)
decided_there first hs c ms es same p e place lt at =
    stands_there first (machine_of first hs).lists (machine_of first hs).known (run hs (start first)) c (each_is_a_run first hs c) ms es same p e place lt at

-- ---- a leader that is a majority alone

inside_is : (w : World) (p : ℕ) (e : List Entry) (pt : Part) → (w.servers p).life ≡ Running → ((w.servers p).state).part ≡ Some pt → may_propose p (w.servers p).state (Some pt) e ≡ true
    → (happens w (At Done p (Proposes e))).inner pt.conf ≡ w.inner pt.conf ++ paxos.Proposes p e ∷ []
unfolding happens at_server stepped step acted
inside_is w p e pt runs has may =
    let st = (w.servers p).state in
    ap (λ (l : Life). (at_server w Done p l (Proposes e)).inner pt.conf) runs
    ∙ ap (λ (o : Option Part). w.inner pt.conf ++ events_in w.soup p pt.conf (cond (may_propose p st o e) (acted_in Done p st o (paxos.Proposal e)) (unchanged st)).inside) has
    ∙ ap (λ (b : Bool). w.inner pt.conf ++ events_in w.soup p pt.conf (cond b (acted_in Done p st (Some pt) (paxos.Proposal e)) (unchanged st)).inside) may
    ∙ ap (λ (b : Bool). w.inner pt.conf ++ cond b (paxos.Proposes p e ∷ []) []) (eq-eqb pt.conf pt.conf refl)

not_both : (a b : Bool) → (not a && b) ≡ true → a ≡ false
not_both true b h = absurd (Rattle.std.proofs.lemmas.Bool.false≢true h)
not_both false b h = refl

no_stop : (x a b : Bool) → (not x && (not a && b)) ≡ true → a ≡ false
no_stop true a b h = absurd (Rattle.std.proofs.lemmas.Bool.false≢true h)
no_stop false a b h = not_both a b h

pub alone_decides : AloneDecides
unfolding machine_of machine_after run
alone_decides first early p es pt l i e runs has may role many stands =
    let k = all_ok first early in
    let t = k.tale in
    let w = run early (start first) in
    let m = machine_of first early in
    let h = At Done p (Proposes es) in
    let n = next first t w m k.good k.book h in
    let m' = machine_with m w h in
    let w' = happens w h in
    let c = pt.conf in
    let x = (((k.good).servers p).state).part pt has in
    let inner : t.events c ≡ w.inner c = (k.good).events c in
    let node : (paxos.run (t.members c) (w.inner c) paxos.start).nodes p ≡ pt.node = ap (λ (es : List paxos.Event). (paxos.run (t.members c) es paxos.start).nodes p) (sym inner) ∙ x.node in
    let s : IsSeen first m'.lists m'.known w' c = seen first n.tale m' w' n.good n.book c in
    let same : paxos.run (t.members c) (w.inner c ++ paxos.Proposes p es ∷ []) paxos.start ≡ view first m'.lists w' c =
    ap (λ (x : List paxos.Event). paxos.run (t.members c) x paxos.start) (sym (inside_is w p es pt runs has may))
    ∙ ap (λ (ms : List ℕ). paxos.run ms (w'.inner c) paxos.start) (sym ((n.onward).members c x.opened) ∙ members_are first n.tale m' (n.good).tale n.book c ((n.onward).opened c x.opened)) in
    let y = one.alone_decides (t.members c) c (w.inner c) p es l i e (ap (λ (d : Node). d.role) node ∙ role) (subst (λ (ms : List ℕ). majority_passes ms (λ q. q == p) ≡ true) x.members many)
    (ap (λ (d : Node). refuses d es) node ∙ ap (λ (r : Role). refuses_as r (pt.node).log es) role ∙ no_stop (is_some ((w.servers p).state).joining) (overflows (pt.node).log es) _ may) stands in
    let z = stands_there first m'.lists m'.known w' c s (t.members c) (w.inner c ++ paxos.Proposes p es ∷ []) same p e (length ((paxos.run (t.members c) (w.inner c) paxos.start).nodes p).log + i) y.0 y.1 in
    let is = machine_append early (h ∷ []) (start first) (first_machine first) in
    let at : length ((paxos.run (t.members c) (w.inner c) paxos.start).nodes p).log + i ≡ length (pt.node).log + i = ap (λ (d : Node). length d.log + i) node in
    subst (λ (q : ℕ). (q < (machine_of first (early ++ h ∷ [])).known p c) × (slice_get ((machine_of first (early ++ h ∷ [])).lists c) q ≡ Some e)) at (
      subst (λ (q : Machine). length ((paxos.run (t.members c) (w.inner c) paxos.start).nodes p).log + i < q.known p c) (sym is) z.0,
      subst (λ (q : Machine). slice_get (q.lists c) (length ((paxos.run (t.members c) (w.inner c) paxos.start).nodes p).log + i) ≡ Some e) (sym is) z.1,
    )
