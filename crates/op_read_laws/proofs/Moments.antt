-- The moments of a run, each beside one of the pure machine: who has which ballot promised then, and who leads.
use Rattle.std.proofs.Common.{◌≡◌, ◌≤◌, ℕ, zero, suc, ◌+◌, ◌-◌, List, [], ◌∷◌, ◌++◌, length, take, Option, Some, None, refl, sym, ap, ◌∙◌, subst, arith, slice_get, append-nil, append_assoc, length-append}
use Rattle.std.proofs.lemmas.List.{take_all, take-append-le}
use Rattle.op_types.specs.RoleStates.{Leading}
use Rattle.op_types.specs.Roles as role
use Rattle.op_types.specs.Roles.{Role}
use Rattle.op_types.specs.declared.durable.Part.{Part as StoredPart}
use Rattle.op_runs.specs.World as product
use Rattle.op_runs.specs.World.{World, Node, node_at}
use Rattle.op_runs.specs.Run.{Execution, first_execution, execution_with, execution_of}
use Rattle.op_configurations.specs.Servers.{Part}
use Rattle.op_configurations.specs.Worlds.{Happening, run, start}
use Rattle.op_refinement.proofs.Pure as pure
use Rattle.op_refinement.proofs.View.{rank, view_leading, view_role}
use Rattle.op_refinement.proofs.Relation.{PartRel, all_before, IfPartRel}
use Rattle.op_refinement.proofs.Worlds.{lists_of, state_of}
use Rattle.op_refinement.proofs.Beside.{NodeRel}
use Rattle.op_refinement.proofs.NodeLists.{IfThere, found}
use Rattle.op_refinement.proofs.Runs.{Track}
use Rattle.op_laws.proofs.Lifting.{run_suc}
use Rattle.op_laws.proofs.SoleLeads.{leading_of}
use Rattle.op_fresh_lists.specs.FreshLists.{Takes, ConfirmsIn}
use Rattle.op_fresh_lists.proofs.InLists.{members_in, lead_promised, leads_between}

-- a run of members and spares, followed by happenings of the pure machine
pub record Followed : Type 0 where
  pub members : List ℕ
  pub spares : List ℕ
  pub happenings : List product.Happening
  pub track : Track members (first_execution members spares) happenings

-- past its end a list's front stays
front_same : {A : Type 0} (xs : List A) (j : ℕ) → slice_get xs j ≡ None → take (suc j) xs ≡ take j xs
front_same [] zero e = refl
front_same [] (suc j) e = refl
front_same (x ∷ xs) zero e = absurd (differ x e)
  where
    differ : {A : Type 0} (x : A) → Some x ≡ None → ⊥
    differ x e = cc
front_same (x ∷ xs) (suc j) e = ap (λ ys. x ∷ ys) (front_same xs j e)

take_front : {A : Type 0} (xs ys : List A) → take (length xs) (xs ++ ys) ≡ xs
take_front xs ys = take-append-le (length xs) xs ys (omega arith) ∙ take_all (length xs) xs (omega arith)

module _ (r : Followed) where
  -- ---- moments

  -- moment j is the one before happening number j
  abbrev pub run_at : ℕ → Execution
  run_at j = execution_of (first_execution r.members r.spares) (take j r.happenings)

  abbrev pub world_at : ℕ → World
  world_at j = (run_at j).world

  -- the pure machine's happenings so far
  abbrev pub ks : ℕ → List Happening
  ks j = (r.track).ks j

  -- how many they are
  abbrev pub n : ℕ → ℕ
  n j = length (ks j)

  pub run_next : (j : ℕ) (h : product.Happening) → slice_get r.happenings j ≡ Some h → run_at (suc j) ≡ execution_with (run_at j) h
  run_next j h e = run_suc (first_execution r.members r.spares) r.happenings j h e

  pub run_over : (j : ℕ) → slice_get r.happenings j ≡ None → run_at (suc j) ≡ run_at j
  run_over j e = ap (execution_of (first_execution r.members r.spares)) (front_same r.happenings j e)

  -- the pure machine's run only goes on
  goes_on : (d j : ℕ) → (late : List Happening) × (ks (d + j) ≡ ks j ++ late)
  goes_on zero j = ([], ap ks (let e : zero + j ≡ j = omega arith in e) ∙ sym (append-nil (ks j)))
  goes_on (suc d) j = let m = goes_on d j in by m.0 m.1 (slice_get r.happenings (d + j)) refl
    where
      next_is : ks (suc d + j) ≡ ks (suc (d + j))
      next_is = ap ks (let e : suc d + j ≡ suc (d + j) = omega arith in e)

      by : (late : List Happening) → ks (d + j) ≡ ks j ++ late → (o : Option product.Happening) → slice_get r.happenings (d + j) ≡ o → (late : List Happening) × (ks (suc d + j) ≡ ks j ++ late)
      by late is None e = (late, next_is ∙ (r.track).over (d + j) e ∙ is)
      by late is (Some h) e = let x = (r.track).next (d + j) h e in (late ++ x.0, next_is ∙ x.1 ∙ ap (λ l. l ++ x.0) is ∙ append_assoc (ks j) late x.0)

  later : (i j : ℕ) → i ≤ j → (late : List Happening) × (ks j ≡ ks i ++ late)
  later i j le = let g = goes_on (j - i) i in (g.0, ap ks (let e : j ≡ (j - i) + i = omega (arith, le) in e) ∙ g.1)

  pub n_up : (i j : ℕ) → i ≤ j → n i ≤ n j
  n_up i j le = let l = later i j le in omega (arith, ap (λ xs. length xs) l.1, length-append (ks i) l.0)

  -- so what happened before a moment is a front of what happened before a later one
  pub front : (j e : ℕ) → j ≤ e → take (n j) (ks e) ≡ ks j
  front j e le = let l = later j e le in ap (take (n j)) l.1 ∙ take_front (ks j) l.0

  -- ---- a node in a configuration

  -- node q has a part of this configuration at moment j
  pub record Seat (j q c : ℕ) : Type 0 where
    pub node : Node
    pub at : node_at (world_at j).nodes q ≡ Some node
    pub part : StoredPart
    pub has : node.state.durable.part ≡ Some part
    pub conf : part.conf ≡ c

  -- and so its server
  pub record Seen (j q : ℕ) (m : Node) (p : StoredPart) : Type 0 where
    pub part : Part
    pub has : (state_of r.members (ks j) q).part ≡ Some part
    pub rel : PartRel (all_before (lists_of r.members (ks j)) part.conf) p m.state.volatile part

  pub node_rel : (j q : ℕ) (m : Node) → node_at (world_at j).nodes q ≡ Some m → (m.pid ≡ q) × NodeRel r.members (ks j) (world_at j).messages m
  node_rel j q m at = subst (IfThere (NodeRel r.members (ks j) (world_at j).messages) q) at (found (NodeRel r.members (ks j) (world_at j).messages) (world_at j).nodes ((r.track).beside j).nodes q)

  pub seen : (j q : ℕ) (m : Node) → node_at (world_at j).nodes q ≡ Some m → (p : StoredPart) → m.state.durable.part ≡ Some p → Seen j q m p
  seen j q m at p has =
      let k = node_rel j q m at in
      by (state_of r.members (ks j) q).part refl
      (subst (λ (o : Option StoredPart). IfPartRel (lists_of r.members (ks j)) o m.state.volatile (state_of r.members (ks j) q).part) has
      (subst (λ (x : ℕ). IfPartRel (lists_of r.members (ks j)) m.state.durable.part m.state.volatile (state_of r.members (ks j) x).part) k.0 (k.1).rel.part))
    where
      by : (o : Option Part) → (state_of r.members (ks j) q).part ≡ o → IfPartRel (lists_of r.members (ks j)) (Some p) m.state.volatile o → Seen j q m p
      by None e x = absurd x
      by (Some pt) e x = record { part = pt; has = e; rel = x }

  module _ (j q c : ℕ) (x : Seat j q c) where
    abbrev pub there : Seen j q x.node x.part
    there = seen j q x.node x.at x.part x.has

    abbrev pub takes : (e : ℕ) → j ≤ e → Takes r.members (ks e) c (n j) q
    takes e le = record {
      part = there.part;
      has = ap (λ (l : List Happening). ((run l (start r.members)).servers q).state.part) (front j e le) ∙ there.has;
      conf_is = sym there.rel.conf ∙ x.conf;
    }

    -- what it has promised
    pub promised_is : ((there.part).node).promised ≡ rank (x.part).promised
    promised_is = ap (λ (y : pure.Node). y.promised) (sym there.rel.seen)

    pub role_is : ((there.part).node).role ≡ view_role (x.node).state.volatile.role
    role_is = ap (λ (y : pure.Node). y.role) (sym there.rel.seen)

  -- the members of a configuration stay
  pub members_stay : (i j q p c : ℕ) → i ≤ j → (x : Seat i q c) → (y : Seat j p c) → (x.part).members ≡ (y.part).members
  members_stay i j q p c le x y =
      (there i q c x).rel.members ∙ members_in r.members (ks j) c (n i) q (takes i q c x j le)
      ∙ sym (members_in r.members (ks j) c (n j) p (takes j p c y j (omega arith))) ∙ sym (there j p c y).rel.members

  -- ---- promises

  -- q has a ballot of this rank promised in the configuration at moment j
  pub record Promises (j q c b : ℕ) : Type 0 where
    pub seat : Seat j q c
    pub promised : rank (seat.part).promised ≡ b

  pub confirms_in : (i j e q c b : ℕ) → i ≤ j → j ≤ e → Promises j q c b → ConfirmsIn r.members (ks e) c b (n i) q
  confirms_in i j e q c b low high k = record {
    at = n j;
    late = n_up i j low;
    takes = takes j q c k.seat e high;
    promised = promised_is j q c k.seat ∙ k.promised;
  }

  -- p leads a ballot of this rank there
  pub record Leads (j p c b : ℕ) : Type 0 where
    pub seat : Seat j p c
    pub lead : Leading
    pub role : (seat.node).state.volatile.role ≡ role.Leading lead
    pub ballot : rank lead.ballot ≡ b

  pub pure_leads : (j p c b : ℕ) → (k : Leads j p c b) → (((there j p c k.seat).part).node).role ≡ pure.Leading (view_leading k.lead)
  pure_leads j p c b k = role_is j p c k.seat ∙ ap view_role k.role

  -- who leads a ballot has it promised
  pub leader_promises : (j p c b : ℕ) → Leads j p c b → Promises j p c b
  leader_promises j p c b k =
      let x : Takes r.members (ks j) c (n j) p = takes j p c k.seat j (omega arith) in
      record { seat = k.seat; promised = sym (promised_is j p c k.seat) ∙ sym (lead_promised r.members (ks j) c (n j) p x (view_leading k.lead) (pure_leads j p c b k)) ∙ k.ballot }

  -- who leads a ballot early and late leads it between
  pub leads_middle : (i j e p c b : ℕ) → i ≤ j → j ≤ e → Leads i p c b → Leads e p c b → (x : Seat j p c) → (l : Leading) × ((x.node).state.volatile.role ≡ role.Leading l) × (rank l.ballot ≡ b)
  leads_middle i j e p c b low high was is x =
      let m = leads_between r.members (ks e) c (n i) (n j) (n e) p b (n_up i j low) (n_up j e high)
      (takes i p c was.seat e (omega (arith, low, high))) (takes j p c x e high) (takes e p c is.seat e (omega arith))
      (view_leading was.lead, pure_leads i p c b was, was.ballot) (view_leading is.lead, pure_leads e p c b is, is.ballot) in
      let l = leading_of (x.node).state.volatile.role m.0 (sym (role_is j p c x) ∙ m.1) in
      (l.0, l.1, ap (λ (y : pure.LeadingState). y.ballot) (same_lead (view_leading l.0) m.0 (sym (ap view_role l.1) ∙ sym (role_is j p c x) ∙ m.1)) ∙ m.2)
    where
      same_lead : (a z : pure.LeadingState) → pure.Leading a ≡ pure.Leading z → a ≡ z
      same_lead a z h = cc
