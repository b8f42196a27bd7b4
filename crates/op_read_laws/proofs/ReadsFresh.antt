-- Each read that is answered in a run is fresh.
use Rattle.std.proofs.Common.{◌≡◌, ◌<◌, ◌≤◌, ℕ, zero, suc, ◌-◌, inl, inr, ⊎_elim, Bool, true, false, not, List, [], ◌∷◌, ◌++◌, filter, map, length, take, drop, Option, Some, None, refl, sym, ap, ◌∙◌, subst, arith, slice_get}
use Rattle.std.proofs.lemmas.Bool.{both_ways, cases_Bool}
use Rattle.std.proofs.lemmas.List.{take_all, take-append-le, take-take}
use Rattle.std.proofs.lemmas.List.Filters.{length-filter_both}
use Rattle.op_quorum.specs.Quorums.{is_majority}
use Rattle.op_types.specs.RoleStates.{Leading}
use Rattle.op_types.specs.Roles as role
use Rattle.op_types.specs.declared.answers.Answer.{Answer}
use Rattle.op_types.specs.declared.durable.Part.{Part as StoredPart}
use Rattle.op_reads.specs.declared.asked_read.AskedRead.{AskedRead}
use Rattle.op_spec.specs.Machine.{Machine, IsAmong}
use Rattle.op_spec.specs.Service.{Service, service_of, value_at, told_value}
use Rattle.op_spec.specs.Stands.{prefix_of}
use Rattle.op_protocol.specs.Rows.{table_plan, step_plan}
use Rattle.op_protocol.specs.Reading.{leading_at, read_reply, answered_by, adopted_of, decided_of}
use Rattle.op_protocol.proofs.Asked.{leads_is}
use Rattle.op_runs.specs.World as product
use Rattle.op_runs.specs.World.{Node, node_at, first_node, node_ids}
use Rattle.op_runs.specs.Run.{Execution, first_execution, execution_of, ServesDecided}
use Rattle.op_runs.specs.Fresh.{ReadAt, stepping, Comes, reads_of_leader, IsAnswered, IsFresh, CameFresh}
use Rattle.op_paxos.specs.Nodes.{majority_passes}
use Rattle.op_types.proofs.Elements.{get_taken}
use Rattle.op_configurations.specs.Servers.{Part as Member}
use Rattle.op_configurations.specs.Worlds.{machine_of}
use Rattle.op_refinement.proofs.Pure as pure
use Rattle.op_refinement.proofs.View.{Each, rank, view_leading}
use Rattle.op_refinement.proofs.Worlds.{lists_of}
use Rattle.op_refinement.proofs.NodeLists.{IfThere, found}
use Rattle.op_refinement.proofs.Runs.{node_serves}
use Rattle.op_refinement.proofs.EveryRun.{every_track}
use Rattle.op_laws.specs.Runs.{RunInRange}
use Rattle.op_fresh_lists.specs.FreshLists.{machine_at, MayAnswerIn, IsFreshIn}
use Rattle.op_fresh_lists.proofs.InLists.{lists_reads_fresh}
use Rattle.op_read_laws.specs.Fresh.{EveryReadIsFresh}
use Rattle.op_read_laws.proofs.Happened.{Acts, Happened, Rested, Observed, Halted, Acted, Begun}
use Rattle.op_read_laws.proofs.Moments.{Followed, run_at, world_at, ks, n_up, front, Seat, there, takes, node_rel, Leads, pure_leads, confirms_in}
use Rattle.op_read_laws.proofs.Moments as moments
use Rattle.op_laws.proofs.Asking.{plan, Ready, ready_is, LeadsOn, leads_on_is}
use Rattle.op_read_laws.proofs.Holding.{Came, Confirmed, Waits, AreReads, Holds, moment_at, came_leads}
use Rattle.op_read_laws.proofs.NextMoment.{asked_reads, after, there_after, LedOn, led_on, holds_next}

none_some : {A : Type 0} (a : A) → None ≡ Some a → ⊥
none_some a e = cc

some_same : {A : Type 0} (a b : A) → Some a ≡ Some b → a ≡ b
some_same a b e = cc

leading_same : (a b : Leading) → role.Leading a ≡ role.Leading b → a ≡ b
leading_same a b e = cc

-- ---- each moment

-- no node has reads at its start
no_reads_first : (members ids : List ℕ) → Each (λ (m : Node). m.state.reads ≡ None) (map (first_node members) ids)
no_reads_first members [] = tt
no_reads_first members (q ∷ ids) = (refl, no_reads_first members ids)

start_holds : (r : Followed) → Holds r 0
start_holds r = record {
  wait = λ q m at reads e. absurd (none_some reads (sym (of_node q m at) ∙ e));
  messages = tt;
  counted = λ i x came lt l. absurd (omega (arith, lt));
}
  where
    of_node : (q : ℕ) (m : Node) → node_at (world_at r 0).nodes q ≡ Some m → m.state.reads ≡ None
    of_node q m at =
        (subst (IfThere (λ (y : Node). y.state.reads ≡ None) q) at
        (found (λ (y : Node). y.state.reads ≡ None) (world_at r 0).nodes (no_reads_first r.members (node_ids r.members r.spares)) q)).1

pub holds_at : (r : Followed) (j : ℕ) → Holds r j
holds_at r zero = start_holds r
holds_at r (suc j) = holds_next r j (holds_at r j)

-- ---- a majority

-- as many confirm as aren't missing
confirming_majority : (members : List ℕ) (misses : ℕ → Bool) (missing : List ℕ) → missing ≡ filter misses members → is_majority (length members - length missing) (length members) ≡ true → majority_passes members (λ q. not (misses q)) ≡ true
confirming_majority members misses missing e h =
    let sum = length-filter_both misses (λ q. not (misses q)) (λ q. refl) members in
    let count : length members - length missing ≡ length (filter (λ q. not (misses q)) members) = omega (arith, sum, ap (λ (l : List ℕ). length l) e) in
    sym (ap (λ (k : ℕ). is_majority k (length members)) count) ∙ h

each_among : {A : Type 0} (P : A → Type 0) (xs : List A) (x : A) → Each P xs → IsAmong xs x → P x
each_among P [] x k i = absurd i
each_among P (y ∷ xs) x k (inl e) = subst P e k.0
each_among P (y ∷ xs) x k (inr i) = each_among P xs x k.1 i

pub among_map : {A B : Type 0} (f : A → B) (xs : List A) (y : B) → IsAmong (map f xs) y → (x : A) × IsAmong xs x × (f x ≡ y)
among_map f [] y i = absurd i
among_map f (x ∷ xs) y (inl e) = (x, inl refl, e)
among_map f (x ∷ xs) y (inr i) = let k = among_map f xs y i in (k.0, inr k.1, k.2)

not_true : (b : Bool) → not b ≡ true → b ≡ false
not_true true e = absurd (both_ways true (sym e) refl)
not_true false e = refl

-- ---- a read that is answered

-- it came, and is fresh
pub record AnsweredFresh (r : Followed) (j : ℕ) (x : ReadAt) (a : Answer) : Type 0 where
  pub at : ℕ
  pub before : at ≤ j
  pub came : Came r x at
  pub fresh : IsFresh (run_at r at).machine (run_at r (suc j)).machine x a

module _ (r : Followed) (j : ℕ) (acts : Acts (world_at r j) (moment_at r j).moment.deed (moment_at r j).moment.step (world_at r (suc j))) where
  abbrev h : Holds r j
  h = holds_at r j

  abbrev n : Node
  n = acts.node

  abbrev now : Node
  now = after r j h acts

  module _ (asked : AskedRead) (ready : Ready n.pid n.state acts.input asked) where
    abbrev y : AreReads r (suc j) n ready.early
    y = asked_reads r j h acts ready.early ready.asked

    abbrev v : Waits r (suc j) n.pid y.part.conf y.lead.ballot y.part.members ready.waiting
    v = each_among (Waits r (suc j) n.pid y.part.conf y.lead.ballot y.part.members) ready.early.waiting ready.waiting y.waits ready.among

    abbrev c : ℕ
    c = y.part.conf

    abbrev b : ℕ
    b = rank y.lead.ballot

    abbrev on : LeadsOn n.state.volatile.role (plan n.pid n.state acts.input).volatile.role
    on = leads_on_is n.state.volatile.role (plan n.pid n.state acts.input).volatile.role ready.leads

    abbrev then : LedOn r j h acts y.part
    then = led_on r j h acts y.part y.has on.new on.is

    -- the node leads the ballot when it has answered
    abbrev seat : Seat r (suc j) n.pid c
    seat = record { node = now; at = there_after r j h acts; part = then.later; has = then.has; conf = then.conf }

    ballot_is : rank on.new.ballot ≡ b
    ballot_is = sym (ap (λ (l : Leading). rank l.ballot) (leading_same y.lead on.old (sym y.role ∙ on.was)) ∙ ap rank on.same)

    abbrev leads : Leads r (suc j) n.pid c b
    leads = record { seat = seat; lead = on.new; role = on.is; ballot = ballot_is }

    abbrev pt : Member
    pt = (there r (suc j) n.pid c seat).part

    decided_is : (pt.node).decided ≡ then.later.decided
    decided_is = ap (λ (m : pure.Node). m.decided) (sym (there r (suc j) n.pid c seat).rel.seen)

    members_are : pt.members ≡ y.part.members
    members_are = sym (there r (suc j) n.pid c seat).rel.members ∙ then.members

    adopted_low : on.new.adopted_len ≤ (pt.node).decided
    adopted_low = omega (arith, ready.low, ap adopted_of on.is, ap decided_of then.has, decided_is)

    abbrev may : MayAnswerIn r.members (ks r (suc j)) c b n.pid (moments.n r v.at) (moments.n r (suc j))
    may = record {
      later = n_up r v.at (suc j) (omega (arith, v.before));
      asked = takes r v.at n.pid c (came_leads r (record { pid = n.pid; conf = c; ballot = y.lead.ballot; asked = ready.waiting.asked }) v.at v.came).seat (suc j) (omega (arith, v.before));
      now = takes r (suc j) n.pid c seat (suc j) (omega arith);
      leadership = view_leading on.new;
      leads = pure_leads r (suc j) n.pid c b leads;
      ballot = ballot_is;
      decided = adopted_low;
      voters = λ q. not (v.misses q);
      majority = subst (λ (ms : List ℕ). majority_passes ms (λ q. not (v.misses q)) ≡ true) (sym members_are)
          (confirming_majority y.part.members v.misses ready.waiting.missing v.missing
          (subst (λ (ms : List ℕ). is_majority (length ms - length ready.waiting.missing) (length ms) ≡ true) y.members ready.confirmed));
      confirmed = λ q i e.
          let k : Confirmed r c b v.at (suc j) q = v.confirmed q (subst (λ (ms : List ℕ). IsAmong ms q) members_are i) (not_true (v.misses q) e) in
          confirms_in r v.at k.at (suc j) q c b k.late (omega (arith, k.before)) k.promises;
    }

    fresh_in : IsFreshIn r.members (ks r (suc j)) c n.pid (moments.n r v.at) (moments.n r (suc j)) pt
    fresh_in = lists_reads_fresh r.members (ks r (suc j)) c b n.pid (moments.n r v.at) (moments.n r (suc j)) may

    -- the machines of these moments are the run's
    machine_is : (i : ℕ) → i ≤ suc j → machine_at r.members (ks r (suc j)) (moments.n r i) ≡ (run_at r i).machine
    machine_is i le = ap (machine_of r.members) (front r i (suc j) le) ∙ sym ((r.track).beside i).machine

    abbrev told : Machine
    told = (run_at r (suc j)).machine

    abbrev came : Machine
    came = (run_at r v.at).machine

    early_is : machine_at r.members (ks r (suc j)) (moments.n r v.at) ≡ came
    early_is = machine_is v.at (omega (arith, v.before))

    late_is : machine_at r.members (ks r (suc j)) (moments.n r (suc j)) ≡ told
    late_is = machine_is (suc j) (omega arith)

    -- the service that answers is that of the list's front
    serves : (step_plan n.pid n.state acts.input).service ≡ service_of (prefix_of told.lists c then.later.decided)
    serves =
        let k = node_rel r (suc j) n.pid now (there_after r j h acts) in
        let s : ServesDecided (lists_of r.members (ks r (suc j))) (Some then.later) now.state.service =
        subst (λ (o : Option StoredPart). ServesDecided (lists_of r.members (ks r (suc j))) o now.state.service) then.has (node_serves r.members (ks r (suc j)) (world_at r (suc j)).messages now k.1) in
        s ∙ ap (λ (d : ℕ). service_of (prefix_of (lists_of r.members (ks r (suc j))) d then.later.decided)) then.conf
        ∙ ap (λ (m : Machine). service_of (prefix_of m.lists c then.later.decided)) (sym ((r.track).beside (suc j)).machine)

    latest : (pid conf : ℕ) → c < conf → came.opened pid conf ≡ false
    latest pid conf up =
        ⊎_elim
        (λ (e : came.opened pid conf ≡ true).
        let low : conf ≤ c = fresh_in.none_above pid conf (ap (λ (m : Machine). m.opened pid conf) early_is ∙ e) in
        absurd (omega (arith, up, low)))
        (λ (e : came.opened pid conf ≡ false). e)
        (cases_Bool (came.opened pid conf))

    -- as a read of this leader
    abbrev pub read : ReadAt
    read = record { pid = n.pid; conf = c; ballot = y.lead.ballot; asked = asked }

    pub answered_fresh : (a : Answer) → (read_reply (step_plan n.pid n.state acts.input).service asked).answer ≡ a → AnsweredFresh r j read a
    answered_fresh a says = record {
      at = v.at;
      before = omega (arith, v.before);
      came = subst (λ (z : AskedRead). Came r (record { pid = n.pid; conf = c; ballot = y.lead.ballot; asked = z }) v.at) ready.is v.came;
      fresh = record {
        len = then.later.decided;
        has_all = omega (arith, fresh_in.at_least, decided_is, ap (λ (m : Machine). length (m.lists c)) early_is);
        is_decided = omega (arith, fresh_in.at_most, decided_is, ap (λ (m : Machine). length (m.lists c)) late_is);
        value = sym says ∙ ap (λ (t : Service). told_value (value_at asked.read.key t.pairs)) serves;
        latest = latest;
      };
    }

-- ---- in a run

module _ (r : Followed) (j : ℕ) (x : ReadAt) (a : Answer) where
  of_acts : (acts : Acts (world_at r j) (moment_at r j).moment.deed (moment_at r j).moment.step (world_at r (suc j)))
      → IsAnswered x a (Some (record { node = acts.node; input = acts.input })) → AnsweredFresh r j x a
  of_acts acts k = by (leading_at acts.node.state) refl k.0
    where
      n : Node
      n = acts.node

      by : (o : Option (StoredPart × Leading)) → leading_at acts.node.state ≡ o → IsAmong (reads_of_leader acts.node.pid o (answered_by acts.node.pid acts.node.state acts.input (table_plan acts.node.pid acts.node.state acts.input))) x → AnsweredFresh r j x a
      by None e i = absurd i
      by (Some (p, l)) e i =
          let s = acts.node.state in
          let m = among_map (λ z. record { pid = acts.node.pid; conf = p.conf; ballot = l.ballot; asked = z }) (answered_by acts.node.pid s acts.input (table_plan acts.node.pid s acts.input)) x i in
          let ready : Ready acts.node.pid s acts.input m.0 = ready_is acts.node.pid s acts.input m.0 m.1 in
          let y = asked_reads r j (holds_at r j) acts ready.early ready.asked in
          let at = leads_is s.durable.part s.durable.joining s.volatile.role p l e in
          let part : y.part ≡ p = some_same y.part p (sym y.has ∙ at.part) in
          let lead : y.lead ≡ l = leading_same y.lead l (sym y.role ∙ at.role) in
          let is : record { pid = acts.node.pid; conf = y.part.conf; ballot = y.lead.ballot; asked = m.0 } ≡ x =
          (λ z. record { pid = acts.node.pid; conf = (part z).conf; ballot = (lead z).ballot; asked = m.0 }) ∙ m.2 in
          let says : (read_reply (step_plan acts.node.pid s acts.input).service m.0).answer ≡ a = ap (λ (z : ReadAt). (read_reply (step_plan acts.node.pid s acts.input).service z.asked).answer) m.2 ∙ k.1 in
          subst (λ (z : ReadAt). AnsweredFresh r j z a) is (answered_fresh r j acts m.0 ready a says)

  pub of_answer : (g : product.Happening) → slice_get r.happenings j ≡ Some g → IsAnswered x a (stepping (world_at r j) g) → AnsweredFresh r j x a
  of_answer g is k = by (moment_at r j).moment.does
    where
      here : IsAnswered x a (moment_at r j).moment.step
      here = subst (IsAnswered x a) (sym ((moment_at r j).step_is g is)) k

      by : Happened (world_at r j) (moment_at r j).moment.deed (moment_at r j).moment.step (world_at r (suc j)) → AnsweredFresh r j x a
      by (Rested nodes messages lines none) = absurd (subst (IsAnswered x a) none here)
      by (Observed nodes q adds lines none) = absurd (subst (IsAnswered x a) none here)
      by (Halted z none) = absurd (subst (IsAnswered x a) none here)
      by (Begun z none) = absurd (subst (IsAnswered x a) none here)
      by (Acted z) = of_acts z (subst (IsAnswered x a) z.steps here)

-- ---- every run

-- a list goes on by its next one
pub front_next : {A : Type 0} (xs : List A) (i : ℕ) (x : A) → slice_get xs i ≡ Some x → take (suc i) xs ≡ take i xs ++ x ∷ []
front_next [] i x e = absurd (none_some x e)
front_next (y ∷ xs) zero x e = ap (λ z. z ∷ []) (some_same y x e)
front_next (y ∷ xs) (suc i) x e = ap (λ zs. y ∷ zs) (front_next xs i x e)

pub split_at : {A : Type 0} (xs : List A) (i : ℕ) (x : A) → slice_get xs i ≡ Some x → xs ≡ take i xs ++ x ∷ drop (suc i) xs
split_at [] i x e = absurd (none_some x e)
split_at (y ∷ xs) zero x e = ap (λ z. z ∷ xs) (some_same y x e)
split_at (y ∷ xs) (suc i) x e = ap (λ zs. y ∷ zs) (split_at xs i x e)

-- a read that is answered in a happening came in it or before it
pub came_fresh : (r : Followed) (j : ℕ) (x : ReadAt) (a : Answer) → AnsweredFresh r j x a → (g : product.Happening) → slice_get r.happenings j ≡ Some g
    → let run : List product.Happening = take j r.happenings ++ g ∷ [] in CameFresh (first_execution r.members r.spares) run (execution_of (first_execution r.members r.spares) run).machine x a
came_fresh r j x a f g is =
    let t : Execution = first_execution r.members r.spares in
    let run : List product.Happening = take (suc j) r.happenings in
    let same : take f.at run ≡ take f.at r.happenings = take-take f.at (suc j) r.happenings (omega (arith, f.before)) in
    let got : slice_get run f.at ≡ Some f.came.happening = get_taken (suc j) r.happenings f.at f.came.happening (omega (arith, f.before)) f.came.is in
    subst (λ (l : List product.Happening). CameFresh t l (execution_of t l).machine x a) (front_next r.happenings j g is)
    (record {
      before = take f.at run;
      came = f.came.happening;
      after = drop (suc f.at) run;
      place = split_at run f.at f.came.happening got;
      comes = subst (λ (l : List product.Happening). Comes x (stepping (execution_of t l).world f.came.happening)) (sym same) f.came.comes;
      fresh = subst (λ (l : List product.Happening). IsFresh (execution_of t l).machine (run_at r (suc j)).machine x a) (sym same) f.fresh;
    })

-- a run in range, with the pure machine's
abbrev pub followed : (members spares : List ℕ) (hs : List product.Happening) → RunInRange members spares hs → Followed
followed members spares hs k = record { members = members; spares = spares; happenings = hs; track = every_track members spares k.first k.others [] hs k.happenings }

pub got_behind : {A : Type 0} (xs : List A) (x : A) (ys : List A) → slice_get (xs ++ x ∷ ys) (length xs) ≡ Some x
got_behind [] x ys = refl
got_behind (y ∷ xs) x ys = got_behind xs x ys

pub take_front : {A : Type 0} (xs ys : List A) → take (length xs) (xs ++ ys) ≡ xs
take_front xs ys = take-append-le (length xs) xs ys (omega arith) ∙ take_all (length xs) xs (omega arith)

-- so it is in every run
pub every_read_is_fresh : EveryReadIsFresh
every_read_is_fresh members spares hs k before after h x a split answered =
    let run : List product.Happening = before ++ h ∷ after in
    let r : Followed = followed members spares run (subst (RunInRange members spares) split k) in
    let j : ℕ = length before in
    let t : Execution = first_execution members spares in
    let is : slice_get run j ≡ Some h = got_behind before h after in
    let front : take j run ≡ before = take_front before (h ∷ after) in
    let f : AnsweredFresh r j x a = of_answer r j x a h is (subst (λ (l : List product.Happening). IsAnswered x a (stepping (execution_of t l).world h)) (sym front) answered) in
    subst (λ (l : List product.Happening). CameFresh t (l ++ h ∷ []) (execution_of t (l ++ h ∷ [])).machine x a) front (came_fresh r j x a f h is)
