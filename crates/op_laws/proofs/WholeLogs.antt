-- A leader that is a majority alone has decided all of its log, and that is all of its configuration's list.
use Rattle.std.proofs.Common.{◌≡◌, ℕ, ◌≤◌, ◌==◌, ◌-◌, ◌*◌, ◌<◌, inl, ⊎_elim, ltb, List, length, take, take_all, length-take, length-drop, true, Some, refl, sym, ap, ◌∙◌, subst, arith}
use Rattle.std.proofs.lemmas.Bool.{eqb-true, ltb-true, cases_lt}
use Rattle.op_quorum.specs.Quorums.{is_majority, passing}
use Rattle.op_types.specs.Changes.{len_of}
use Rattle.op_types.specs.RoleStates.{Leading}
use Rattle.op_types.specs.Roles as role
use Rattle.op_types.specs.declared.durable.Part.{Part as StoredPart}
use Rattle.op_types.specs.declared.log.Entry.{Entry}
use Rattle.op_protocol.specs.State.{Volatile}
use Rattle.op_spec.specs.Machine.{members_of}
use Rattle.op_spec.specs.Stands.{PartStands}
use Rattle.op_paxos.specs.Nodes.{majority_passes}
use Rattle.op_paxos.specs.Leader.{majority_length}
use Rattle.op_paxos.specs.Worlds as paxos
use Rattle.op_paxos.specs.Agreement.{decided_log}
use Rattle.op_paxos.proofs.History.{History, core}
use Rattle.op_paxos.proofs.Invariant.{ChosenBy}
use Rattle.op_paxos.proofs.Majorities.{shared}
use Rattle.op_paxos.proofs.OneStep.{Invariant}
use Rattle.op_paxos.proofs.Runs.{run_on}
use Rattle.op_paxos.proofs.CountedLengths.{counted_reach}
use Rattle.op_paxos.proofs.PromiseFacts.{RoleS}
use Rattle.op_paxos.proofs.PromisesStand.{start_good, run_good}
use Rattle.op_paxos.proofs.Roles.{lead_is}
use Rattle.op_paxos.proofs.Runs as runs
use Rattle.op_configurations.specs.Servers.{Part}
use Rattle.op_configurations.specs.Views.{view}
use Rattle.op_configurations.specs.Worlds as worlds
use Rattle.op_configurations.proofs.Book.{all_ok}
use Rattle.op_configurations.proofs.Fronts.{front_length}
use Rattle.op_configurations.proofs.Runs.{Told, decided_length}
use Rattle.op_configurations.proofs.Standing.{stands}
use Rattle.op_configurations.proofs.Views.{each_is_a_run}
use Rattle.op_refinement.proofs.Pure as pure
use Rattle.op_refinement.proofs.View.{view_role, view_leading, whole_log}
use Rattle.op_refinement.proofs.Logs.{len_of-whole}
use Rattle.op_refinement.proofs.Relation.{PartRel, all_before}
use Rattle.op_refinement.proofs.Worlds.{lists_of, world_of, state_of}

-- a leader of the pure machine has decided what a majority has: with its own log, all of it
log_decided : (first : List ℕ) (ks : List worlds.Happening) (pid : ℕ) (pt : Part) → (state_of first ks pid).part ≡ Some pt → (l : pure.LeadingState) → (pt.node).role ≡ pure.Leading l → majority_passes pt.members (λ q. q == pid) ≡ true
    → length (pt.node).log ≤ (pt.node).decided
log_decided first ks pid pt has l leads many =
    let ms : List ℕ = members_of first (lists_of first ks) pt.conf in
    let events : List paxos.Event = (world_of first ks).inner pt.conf in
    let w : paxos.World = view first (lists_of first ks) (world_of first ks) pt.conf in
    let node : w.nodes pid ≡ pt.node = (each_is_a_run first ks pt.conf).nodes pid pt has refl in
    let good = run_good ms events paxos.start runs.first (start_good ms) in
    let tells : RoleS ms w.nodes pid (w.nodes pid) (w.nodes pid).role = ((good.1).tells).nodes pid in
    let here : RoleS ms w.nodes pid pt.node (pt.node).role = subst (λ (n : pure.Node). RoleS ms w.nodes pid n n.role) node tells in
    let counts : majority_length ms pid pt.node l ≤ (pt.node).decided = subst (RoleS ms w.nodes pid pt.node) leads here in
    let members : pt.members ≡ ms = ((stands first ks pid).part pt has).members in
    let reach : length (pt.node).log ≤ majority_length ms pid pt.node l =
    counted_reach ms pid pt.node l (length (pt.node).log) (λ q. q == pid) (omega arith) (subst (λ (x : List ℕ). majority_passes x (λ q. q == pid) ≡ true) members many) (λ q e. inl (eqb-true q pid e)) in
    omega (arith, counts, reach)

-- ---- the list

-- whoever is a majority alone has what anyone has decided
log_holds : (ms : List ℕ) (w : paxos.World) (g : History) → Invariant ms w g → (p q : ℕ) → majority_passes ms (λ r. r == p) ≡ true → (w.nodes q).decided ≤ length (w.nodes p).log
log_holds ms w g i p q many = ⊎_elim (λ (e : (w.nodes q).decided ≡ 0). omega (arith, e)) chosen (i.nodes q).sure
  where
    chosen : ChosenBy ms g (w.nodes q).accepted (w.nodes q).decided → (w.nodes q).decided ≤ length (w.nodes p).log
    chosen s =
        let n : ℕ = (w.nodes q).decided in
        let x = shared ms (λ r. r == p) (λ r. ltb n (g.acc r s.at)) (ltb-true (length ms) (2 * passing (λ r. r == p) ms) many) s.chosen in
        let has : n < g.acc p s.at = subst (λ (r : ℕ). n < g.acc r s.at) (eqb-true x.0 p x.1) (ltb-true n (g.acc x.0 s.at) x.2) in
        let o = i.nodes p in
        let voted = (i.hist).voted p (w.nodes p).accepted (omega (arith, o.vote)) in
        let low : s.at ≤ (w.nodes p).accepted = o.last s.at (omega (arith, has)) in
        ⊎_elim
        (λ (l : s.at < (w.nodes p).accepted). let c = core ms _ g i.hist s.at n (w.nodes p).accepted s.chosen l voted.0 in omega (arith, c.0, voted.1, o.vote))
        (λ (l : (w.nodes p).accepted ≤ s.at). let same : s.at ≡ (w.nodes p).accepted = omega (arith, l, low) in omega (arith, has, ap (g.acc p) same, o.vote))
        (cases_lt s.at (w.nodes p).accepted)

list_within : (first : List ℕ) (ks : List worlds.Happening) (pid : ℕ) (pt : Part) → (state_of first ks pid).part ≡ Some pt → majority_passes pt.members (λ q. q == pid) ≡ true → length (lists_of first ks pt.conf) ≤ length (pt.node).log
list_within first ks pid pt has many =
    let k = all_ok first ks in
    let x = (((k.good).servers pid).state).part pt has in
    let ms : List ℕ = (k.tale).members pt.conf in
    let es : List paxos.Event = (k.tale).events pt.conf in
    let told : Told ms es (lists_of first ks pt.conf) = ((k.book).fits).told pt.conf in
    let a = run_on ms es paxos.start runs.first (runs.start_ok ms) in
    let le = log_holds ms (paxos.run ms es paxos.start) a.0 a.1 pid told.who (subst (λ (l : List ℕ). majority_passes l (λ q. q == pid) ≡ true) x.members many) in
    omega (arith, le, front_length (lists_of first ks pt.conf) (decided_log (paxos.run ms es paxos.start) told.who) told.front, decided_length ms es told.who, ap (λ (n : pure.Node). length n.log) x.node)

-- the leader's log is the list
log_is_list : (first : List ℕ) (ks : List worlds.Happening) (pid : ℕ) (pt : Part) → (state_of first ks pid).part ≡ Some pt → (l : pure.LeadingState) → (pt.node).role ≡ pure.Leading l → majority_passes pt.members (λ q. q == pid) ≡ true
    → (pt.node).log ≡ lists_of first ks pt.conf
log_is_list first ks pid pt has l leads many =
    let s = (stands first ks pid).part pt has in
    let all : length (pt.node).log ≤ (pt.node).decided = log_decided first ks pid pt has l leads many in
    let within : length (lists_of first ks pt.conf) ≤ length (pt.node).log = list_within first ks pid pt has many in
    sym (take_all (pt.node).decided (pt.node).log all) ∙ s.entries ∙ take_all (pt.node).decided (lists_of first ks pt.conf) (omega (arith, within, all))

-- ---- a node beside it
pub log_is_decided : (first : List ℕ) (ks : List worlds.Happening) (pid : ℕ) (pt : Part) → (state_of first ks pid).part ≡ Some pt → (p : StoredPart) (v : Volatile) → PartRel (all_before (lists_of first ks) pt.conf) p v pt
    → (l : Leading) → v.role ≡ role.Leading l → is_majority (passing (λ q. q == pid) p.members) (length p.members) ≡ true → len_of p ≤ p.decided
log_is_decided first ks pid pt has p v k l leads many =
    let is : (pt.node).role ≡ pure.Leading (view_leading l) = ap (λ (y : pure.Node). y.role) (sym k.seen) ∙ ap view_role leads in
    let all : length (pt.node).log ≤ (pt.node).decided = log_decided first ks pid pt has (view_leading l) is (subst (λ (x : List ℕ). majority_passes x (λ q. q == pid) ≡ true) k.members many) in
    let size : len_of p ≡ length (pt.node).log = len_of-whole k.front p k.fits ∙ ap (λ (y : pure.Node). length y.log) k.seen in
    omega (arith, all, size, ap (λ (y : pure.Node). y.decided) k.seen)

-- what a leader of the pure machine adopted stands in its log
lead_within : (first : List ℕ) (ks : List worlds.Happening) (pid : ℕ) (pt : Part) → (state_of first ks pid).part ≡ Some pt → (l : pure.LeadingState) → (pt.node).role ≡ pure.Leading l → l.size ≤ length (pt.node).log
lead_within first ks pid pt has l leads =
    let ms : List ℕ = members_of first (lists_of first ks) pt.conf in
    let events : List paxos.Event = (world_of first ks).inner pt.conf in
    let node = (each_is_a_run first ks pt.conf).nodes pid pt has refl in
    let a = run_on ms events paxos.start runs.first (runs.start_ok ms) in
    let o = lead_is ms (paxos.run ms events paxos.start) a.0 a.1 pid l (ap (λ (n : pure.Node). n.role) node ∙ leads) in
    omega (
      arith,
      ap (λ (es : List Entry). length es) o.same,
      length-take l.size ((a.0).full l.ballot),
      length-take l.size ((a.0).full l.round),
      o.fits,
      ap (λ (es : List Entry). length es) o.log_is,
      ap (λ (n : pure.Node). length n.log) node,
    )

-- so it does at the node beside it
pub adopted_within : (first : List ℕ) (ks : List worlds.Happening) (pid : ℕ) (pt : Part) → (state_of first ks pid).part ≡ Some pt → (p : StoredPart) (v : Volatile) → PartRel (all_before (lists_of first ks) pt.conf) p v pt
    → (l : Leading) → v.role ≡ role.Leading l → l.adopted_len ≤ len_of p
adopted_within first ks pid pt has p v k l leads =
    let is : (pt.node).role ≡ pure.Leading (view_leading l) = ap (λ (y : pure.Node). y.role) (sym k.seen) ∙ ap view_role leads in
    omega (arith, lead_within first ks pid pt has (view_leading l) is, len_of-whole k.front p k.fits, ap (λ (y : pure.Node). length y.log) k.seen)

-- and what is decided stands in the log
pub decided_within : (first : List ℕ) (lists : ℕ → List Entry) (p : StoredPart) → PartStands first lists p → p.decided ≤ len_of p
decided_within first lists p k =
    let list : List Entry = lists p.conf in
    omega (arith, k.trimmed, k.decided, ap (λ (es : List Entry). length es) k.entries, length-take (p.decided - p.trimmed) p.tail.items, length-drop p.trimmed (take p.decided list), length-take p.decided list)

pub whole_is_list : (first : List ℕ) (ks : List worlds.Happening) (pid : ℕ) (pt : Part) → (state_of first ks pid).part ≡ Some pt → (p : StoredPart) (v : Volatile) → (k : PartRel (all_before (lists_of first ks) pt.conf) p v pt)
    → (l : Leading) → v.role ≡ role.Leading l → is_majority (passing (λ q. q == pid) p.members) (length p.members) ≡ true → whole_log k.front p ≡ lists_of first ks pt.conf
whole_is_list first ks pid pt has p v k l leads many =
    let is : (pt.node).role ≡ pure.Leading (view_leading l) = ap (λ (y : pure.Node). y.role) (sym k.seen) ∙ ap view_role leads in
    ap (λ (y : pure.Node). y.log) k.seen ∙ log_is_list first ks pid pt has (view_leading l) is (subst (λ (x : List ℕ). majority_passes x (λ q. q == pid) ≡ true) k.members many)
