-- Once a majority agrees on a ballot for ever, nothing disturbs an exchange behind the heartbeats of a round: so it decides.
use Rattle.std.proofs.Common.{◌≡◌, ℕ, suc, zero, Bool, true, false, eqb, nat_eq, ◌||◌, not, List, [], ◌∷◌, ◌++◌, length, take, slice_get, All, Option, Some, None, inl, refl, sym, ap, ◌∙◌, subst}
use Rattle.std.proofs.lemmas.Bool.{eqb-true, eqb-false, true≢false, not-true}
use Rattle.std.specs.Set.{is_member}
use Rattle.op_quorum.specs.Quorums.{is_majority, passing}
use Rattle.op_types.specs.declared.ballot.Ballot.{Ballot}
use Rattle.op_types.specs.declared.durable.Part.{Part}
use Rattle.op_types.specs.declared.log.Entry.{Entry}
use Rattle.op_protocol.specs.Parts.{others}
use Rattle.op_runs.specs.declared.events.What.{What}
use Rattle.op_runs.specs.declared.events.What.TheVariants as what
use Rattle.op_runs.specs.World.{World, Node, Sent, Happening, delivery, deed_of, node_at, first_world, world_after, run_of}
use Rattle.op_runs.specs.Run.{Execution, first_execution, execution_of}
use Rattle.op_gen.specs.Links.{Links}
use Rattle.op_laws.specs.Exchange.{Term, before, node_before, IsCalm, IfKeepsTo, KeepsSessionsOf, IsUpThere, members_at, Exchange}
use Rattle.op_laws.specs.Runs.{RunInRange}
use Rattle.op_laws.proofs.Exchanges.{exchange_decides}
use Rattle.op_laws.proofs.Reached.{world_of_run, run_append}
use Rattle.op_lockstep.specs.Lockstep.{after_round}
use Rattle.op_lockstep.specs.Reach.{IsOneOf}
use Rattle.op_lockstep.proofs.Lists.{Distinct, rising_distinct, Each-filter, Each-get, Each-at, each_member, each_of_all, by_test, not_filtered}
use Rattle.op_lockstep.proofs.Reached.{IsFirst, IfFirst, IsCleanNode}
use Rattle.op_lockstep.proofs.Seats.{found_of}
use Rattle.op_progress.specs.Progress.{HearOneAnother, AllComeBehind, heartbeats}
use Rattle.op_progress.specs.Deciding.{EndsNoSession, Completes, IsDecidedOrDropped, LaterRounds, so_far, MajoritiesDecide}
use Rattle.op_progress.proofs.Orders.{AtMost}
use Rattle.op_progress.proofs.Behind.{part_or, part_of, Standing, HoldsIn, After, behind_run}
use Rattle.op_progress.proofs.Groups.{member_filter, same_filter}
use Rattle.op_progress.proofs.Settling.{at_most_lowers, Agreed, Goes, goes_on, agree_ever, agreed, stands_then, low_behind}

-- ---- the others of a majority
-- another one is among them where it is in the majority
among_others : (s : ℕ) (group : List ℕ) (q : ℕ) → eqb q s ≡ false → is_member nat_eq (others s group) q ≡ is_member nat_eq group q
among_others s group q other =
    by_test (is_member nat_eq group q) (λ (b : Bool). is_member nat_eq group q ≡ b → is_member nat_eq (others s group) q ≡ b) (λ _ m. member_filter (λ r. not (eqb r s)) group q m (ap not other)) (λ _ n. not_filtered (λ r. not (eqb r s)) group q n) refl

-- they are the majority with it
with_others : (s : ℕ) (group : List ℕ) → IsOneOf group s → (q : ℕ) → (eqb q s || is_member nat_eq (others s group) q) ≡ is_member nat_eq group q
with_others s group one q =
    by_test (eqb q s) (λ (b : Bool). eqb q s ≡ b → (b || is_member nat_eq (others s group) q) ≡ is_member nat_eq group q) (λ _ e. sym (ap (is_member nat_eq group) (eqb-true q s e) ∙ one)) (λ _ e. among_others s group q e) refl

-- one of them is in it, and is another one
pub record IsOther (s : ℕ) (group : List ℕ) (q : ℕ) : Type 0 where
  pub inside : IsOneOf group q
  pub apart : q ≡ s → ⊥

of_others : (s : ℕ) (group : List ℕ) (q : ℕ) → IsOneOf (others s group) q → IsOther s group q
of_others s group q m =
    let k = Each-at (λ r. (IsOneOf group r) × (not (eqb r s) ≡ true)) (others s group) (Each-filter (λ r. IsOneOf group r) (λ r. not (eqb r s)) group (each_member group)) q m in
    record { inside = k.0; apart = eqb-false q s (not-true (eqb q s) k.1) }

-- ---- sessions
module _ (group with_it : List ℕ) (inside : (r : ℕ) → IsOneOf with_it r → IsOneOf group r) (q : ℕ) (m : IsOneOf group q) where
  delivers_none : (o : Option Sent) → KeepsSessionsOf with_it q (delivery o)
  delivers_none None = tt
  delivers_none (Some x) = λ e. tt

  keeps_sessions : (ms : List Sent) (x : What) → EndsNoSession group x → KeepsSessionsOf with_it q (deed_of ms x)
  keeps_sessions ms (what.Down p r) ends = λ (e : p ≡ q). λ (i : IsOneOf with_it r). ends (subst (IsOneOf group) (sym e) m) (inside r i)
  keeps_sessions ms (what.Tick p) ends = λ e. tt
  keeps_sessions ms (what.Commands p cs) ends = λ e. tt
  keeps_sessions ms (what.Stop p members) ends = λ e. tt
  keeps_sessions ms (what.Trim p) ends = λ e. tt
  keeps_sessions ms (what.Read p r) ends = λ e. tt
  keeps_sessions ms (what.Deliver i) ends = delivers_none (slice_get ms i)
  keeps_sessions ms (what.Up p r) ends = λ e. tt
  keeps_sessions ms (what.Crash p) ends = λ e. tt
  keeps_sessions ms (what.CrashAt p call image) ends = tt
  keeps_sessions ms (what.Fail p call) ends = tt
  keeps_sessions ms (what.Kill p disk) ends = tt
  keeps_sessions ms (what.Start p) ends = λ e. tt
  keeps_sessions ms (what.Show p) ends = λ e. tt
  keeps_sessions ms (what.Ballots p) ends = λ e. tt

-- ---- an exchange behind the heartbeats of a round
-- what comes first of it may come too
front : (links : Links) (group : List ℕ) (j : ℕ) (hs : List Happening) (w : World) → AllComeBehind group links w hs → AllComeBehind group links w (take j hs)
front links group zero hs w a = tt
front links group (suc j) [] w a = tt
front links group (suc j) (h ∷ hs) w a = (a.0, front links group j hs (world_after w h) a.1)

module _ (members : List ℕ) (links : Links) (group : List ℕ) (hear : HearOneAnother members links group) (w : World) (stands : Standing members links group hear w) (s : ℕ) (one : IsOneOf group s) (b : Ballot) (low : HoldsIn members links group hear (λ a. AtMost a b) w) where
  abbrev term : Term
  term = record { conf = 1; leader = s; ballot = b }

  -- a member's part
  first_of : (u : World) (k : Standing members links group hear u) (q : ℕ) (m : IsOneOf group q) → IsFirst members ((k.up q m).part)
  first_of u k q m = subst (IfFirst members) (k.up q m).has ((found_of (IsCleanNode members) u.nodes q (k.up q m).node (k.up q m).at ((k.sound).clean).nodes).stored).part

  members_are : (q : ℕ) → IsOneOf group q → members_at (node_at w.nodes q) ≡ members
  members_are q m =
      let u = (stands).up q m in
      ap members_at u.at ∙ ap Rattle.op_laws.specs.Exchange.part_members u.has ∙ (first_of w stands q m).members_are

  module _ (hs : List Happening) (behind : AllComeBehind group links w hs) (quiet : All (λ h. EndsNoSession group h.event.what) hs) where
    at_front : (j : ℕ) → After members links group hear w (run_of w (take j hs))
    at_front j = behind_run members links group hear (take j hs) w stands (front links group j hs w behind)

    keeps_to : (j q : ℕ) → IsOneOf group q → IfKeepsTo term (node_before w hs j q)
    keeps_to j q m =
        let a = at_front j in
        let u = (a.standing).up q m in
        let under : AtMost (part_of (node_at (run_of w (take j hs)).nodes q)).promised b = ((a.later).holds (λ c. AtMost c b) (at_most_lowers b) low q m).0 in
        subst (IfKeepsTo term) (sym u.at)
        (record {
          up = u.up;
          stays = ((found_of (IsCleanNode members) (run_of w (take j hs)).nodes q u.node u.at (((a.standing).sound).clean).nodes).stored).joining;
          part = u.part;
          has = u.has;
          conf = (first_of (run_of w (take j hs)) a.standing q m).conf_is;
          low = subst (λ (o : Option Part). AtMost (part_or o).promised b) u.has (subst (λ (o : Option Node). AtMost (part_of o).promised b) u.at under);
        })

    calm : (with_it : List ℕ) → ((r : ℕ) → IsOneOf with_it r → IsOneOf group r) → (q : ℕ) → IsOneOf group q → (i end : ℕ) → IsCalm w hs term with_it q i end
    calm with_it inside q m i end =
        record {
          up = λ j _ _. keeps_to j q m;
          sessions = λ j h _ _ is.
              keeps_sessions group with_it inside q m (before w hs j).messages h.event.what (Each-get (λ h. EndsNoSession group h.event.what) hs j h is (each_of_all (λ h. EndsNoSession group h.event.what) hs quiet));
        }

    up_there : (j q : ℕ) → IsOneOf group q → IsUpThere (node_before w hs j q)
    up_there j q m = let u = ((at_front j).standing).up q m in subst IsUpThere (sym u.at) u.up

    abbrev with_it : List ℕ
    with_it = others s group

    majority : (ms : List ℕ) → members ≡ ms → is_majority (passing (λ q. eqb q s || is_member nat_eq with_it q) ms) (length ms) ≡ true
    majority ms is =
        subst (λ (l : List ℕ). is_majority (passing (λ q. eqb q s || is_member nat_eq with_it q) l) (length l) ≡ true) is
        (ap (λ (l : List ℕ). is_majority (length l) (length members)) (same_filter (λ q. eqb q s || is_member nat_eq with_it q) (is_member nat_eq group) (with_others s group one) members) ∙ (hear).majority)

    only_leader : (r : ℕ) → IsOneOf (s ∷ []) r → IsOneOf group r
    only_leader r i = by_test (eqb r s) (λ (t : Bool). (t || false) ≡ true → eqb r s ≡ t → IsOneOf group r) (λ _ _ e. subst (IsOneOf group) (sym (eqb-true r s e)) one) (λ _ no _. absurd (true≢false (sym no))) i refl

    abbrev exchange : (e : Entry) → Completes w hs term with_it e → Exchange w hs term with_it e
    exchange e c =
        record {
          preparing = c.preparing;
          are_members = λ q i. let k = of_others s group q i in (subst (λ (l : List ℕ). IsOneOf l q) (sym (members_are s one)) ((hear).all_members q k.inside), k.apart);
          majority = majority (members_at (node_at w.nodes s)) (sym (members_are s one));
          proposed_at = c.proposed_at;
          comes = c.comes;
          last = c.last;
          in_time = c.in_time;
          ends = inl
              (record {
                steps = c.steps;
                heard = c.heard;
                by_last = c.by_last;
                calm = λ q i. calm (s ∷ []) only_leader q (of_others s group q i).inside (c.steps q i).prepare_at (suc (c.steps q i).ack_sent);
              });
          calm = calm with_it (λ r i. (of_others s group r i).inside) s one 0 c.last;
          done = up_there (suc c.last) s one;
        }

-- ---- from what a run reaches
module _ (members spares : List ℕ) (distinct : Distinct members) (links : Links) (group : List ℕ) (hear : HearOneAnother members links group) (early : List Happening) where
  abbrev start : World
  start = run_of (first_world members spares) early

  module _ (a : Agreed members distinct links group hear start) (r : LaterRounds members spares links group early) where
    abbrev all_before : List Happening
    all_before = so_far members spares links group early r

    abbrev there : World
    there = run_of (first_world members spares) (early ++ (r).rounds)

    abbrev execution : Execution
    execution = execution_of (first_execution members spares) all_before

    goes : Goes members distinct links group hear (a).leader (a).ballot start there
    goes =
        subst (Goes members distinct links group hear (a).leader (a).ballot start) (sym (run_append (first_world members spares) early (r).rounds))
        (goes_on members distinct links group hear (a).leader (a).ballot (r).count (r).rounds start (a).settled (a).followed (r).are)

    world_is : (execution).world ≡ after_round group links there
    world_is = world_of_run (first_execution members spares) all_before ∙ run_append (first_world members spares) (early ++ (r).rounds) (heartbeats group links there)

    stands : Standing members links group hear (execution).world
    stands = subst (Standing members links group hear) (sym world_is) (stands_then members distinct links group hear there ((goes).settled).stands)

    low : HoldsIn members links group hear (λ c. AtMost c (a).ballot) (execution).world
    low = subst (HoldsIn members links group hear (λ c. AtMost c (a).ballot)) (sym world_is) (low_behind members distinct links group hear (a).leader (a).ballot there (goes).settled)

    decides : (hs : List Happening) → AllComeBehind group links (execution).world hs → All (λ h. EndsNoSession group h.event.what) hs → RunInRange members spares (all_before ++ hs)
        → let x : Term = record { conf = 1; leader = (a).leader; ballot = (a).ballot } in
        (e : Entry) (c : Completes (execution).world hs x (others x.leader group) e) → IsDecidedOrDropped execution hs x c.proposed_at e
    decides hs behind quiet range e c =
        exchange_decides members spares all_before hs range (record { conf = 1; leader = (a).leader; ballot = (a).ballot }) (others (a).leader group) e
        (exchange members links group hear (execution).world stands (a).leader ((a).settled).is_one (a).ballot low hs behind quiet e c)

pub majorities_decide : MajoritiesDecide
majorities_decide members spares range early quiet links group ups hear hs rs =
    let distinct : Distinct members = rising_distinct 0 members (range).rising in
    let w : World = run_of (first_world members spares) early in
    let a : Agreed members distinct links group hear (run_of (first_world members spares) (early ++ hs)) =
    subst (Agreed members distinct links group hear) (sym (run_append (first_world members spares) early hs)) (agreed members spares range early quiet links group ups hear hs rs) in
    record {
      agreement = agree_ever members distinct links group hear (run_of (first_world members spares) (early ++ hs)) a;
      decide = λ r more behind ends in_range e c. decides members spares distinct links group hear (early ++ hs) a r more behind ends in_range e c;
    }
