-- Rounds with messages settle a majority whose members hear one another.
use Rattle.std.proofs.Common.{drop, ◌≡◌, ◌<◌, ◌≤◌, ◌+◌, ◌-◌, ⊎_elim, ℕ, zero, suc, Bool, true, false, eqb, ltb, List, [], ◌∷◌, ◌++◌, length, map, Option, Some, refl, sym, ap, ◌∙◌, subst, arith}
use Rattle.std.proofs.lemmas.Bool.{eqb-true, eqb-false, or_left, lt-ltb, both_ways, cases_lt}
use Rattle.std.proofs.lemmas.List.Elements.{All-append, All-map}
use Rattle.op_quorum.specs.Quorums.{is_majority}
use Rattle.op_types.specs.Ballots.{is_below, greater}
use Rattle.op_types.specs.Limits.{greatest_number}
use Rattle.op_types.specs.Ranges.{MembersInRange}
use Rattle.op_types.specs.Roles as role
use Rattle.op_types.specs.Roles.{Role}
use Rattle.op_types.specs.declared.ballot.Ballot.{Ballot}
use Rattle.op_types.specs.declared.durable.Part.{Part}
use Rattle.op_types.specs.declared.messages.Heard.{Heard}
use Rattle.op_protocol.specs.State.{Volatile}
use Rattle.op_protocol.specs.Election.{winner, least, hears_majority}
use Rattle.op_protocol.specs.Tick.{candidate_of, on_tick}
use Rattle.op_runs.specs.declared.events.Event.{Event}
use Rattle.op_runs.specs.declared.events.What.TheVariants as what
use Rattle.op_runs.specs.World.{World, Node, Happening, node_at, first_world, world_after, run_of, done_event, all_done}
use Rattle.op_gen.specs.Links.{Links, is_linked}
use Rattle.op_lockstep.specs.Lockstep.{event_of, ticks, numbers_of, is_linked_request, is_sent_reply, ticked, asking, asked, answering, round, after_round}
use Rattle.op_lockstep.specs.Reach.{IsOneOf, HasRoom, IsUpWithRoom, AreUpWithRoom, IsNoStop, ProposeNoStop}
use Rattle.op_lockstep.proofs.Lists.{Each, Each-map, Each-more, Each-at, each_of_all, Distinct, rising_distinct}
use Rattle.op_lockstep.proofs.Ends.{Under, greater_under, tick_own, tick_leader, tick_floor}
use Rattle.op_lockstep.proofs.Changes.{tick_promised}
use Rattle.op_lockstep.proofs.Counting.{told, length-map, count_with}
use Rattle.op_lockstep.proofs.Seats.{AllSit, found_id, found_of}
use Rattle.op_lockstep.proofs.Reached.{IsFirst, IfFirst, IsCleanNode}
use Rattle.op_lockstep.proofs.Ticking.{tick_part, tick_volatile}
use Rattle.op_lockstep.proofs.Rounds.{KeepTogether, AreParts, linked_to, round_volatile, round_run}
use Rattle.op_progress.specs.Progress.{HearOneAnother, heartbeats, IsFreeRound, AreFreeRounds, PrepareComes, PromiseComes, RoundWith, HasPromise, HasPromiseAt, IsLed, LeadsBallot, IsPromisedUpTo, IsPromised, IsPromisedAt, Follows, PreparesOrLeads, StandsFor, AgreeOn, AgreeEverAfter, MajoritiesAgree}
use Rattle.op_progress.proofs.Orders.{AtMost, same_at_most, at_most_then, same_ballot}
use Rattle.op_progress.proofs.Ticks.{TickIn, tick_in, tick_heads, HeardIn, heard_tick, greatest_at_most, heard_in, own_in}
use Rattle.op_progress.proofs.Keeping.{keeping, keeping_kept, has_promise, of_promise, leads_then}
use Rattle.op_progress.proofs.Rows.{Claim, IsKept, RoleIn, only, waiting}
use Rattle.op_progress.proofs.Sound.{StandsUpTo, IfStands}
use Rattle.op_progress.proofs.Worlds.{IsSoundNode, IsSoundWorld, sound_run, sound_first}
use Rattle.op_progress.proofs.Behind.{part_or, part_of, memory_of, IsUpNode, HeadsOwn, IsLowering, Standing, HoldsIn, behind_run, asked_run, told_run}
use Rattle.op_progress.proofs.Groups.{told_each, group_hears, hears_group, group_heard, IsTop, top}

-- ---- numbers
at_most_number : (a b : Ballot) → AtMost a b → a.number ≤ b.number
at_most_number a b m = ⊎_elim (λ (l : b.number < a.number). absurd (both_ways (is_below b a) m (or_left (ltb b.number a.number) _ (lt-ltb b.number a.number l)))) (λ (l : a.number ≤ b.number). l) (cases_lt b.number a.number)

under_lowers : (n : ℕ) → IsLowering (Under n)
under_lowers n a b m h = low a.number b.number (at_most_number a b m) h
  where
    low : (x y : ℕ) → x ≤ y → y < n → x < n
    low x y k l = omega arith

pub at_most_lowers : (z : Ballot) → IsLowering (λ b. AtMost b z)
at_most_lowers z a b m h = at_most_then a b z m h

more : (n : ℕ) (b : Ballot) → Under n b → Under (suc n) b
more n b h = omega arith

-- no stop-sign is proposed by heartbeats
round_quiet : (members : List ℕ) (links : Links) (w : World) → ProposeNoStop (all_done (round members links w))
round_quiet members links w =
    let P : Event → Type 0 = λ (e : Event). IsNoStop e.what in
    let tick : ℕ → Event = λ (p : ℕ). event_of (what.Tick p) in
    let deliver : ℕ → Event = λ (i : ℕ). event_of (what.Deliver i) in
    All-map (λ (h : Happening). IsNoStop h.event.what) done_event (round members links w)
    (All-append P (ticks members ++ asking members links w) (answering members links w)
    (All-append P (ticks members) (asking members links w) (All-map P tick members (λ k d l. tt)) (All-map P deliver (numbers_of (is_linked_request links) (length w.messages) (drop (length w.messages) (ticked members w).messages)) (λ k d l. tt)))
    (All-map P deliver (numbers_of is_sent_reply (length (ticked members w).messages) (drop (length (ticked members w).messages) (asked members links w).messages)) (λ k d l. tt)))

run_append : (w : World) (xs ys : List Happening) → run_of w (xs ++ ys) ≡ run_of (run_of w xs) ys
run_append w [] ys = refl
run_append w (x ∷ xs) ys = run_append (world_after w x) xs ys

-- ---- rounds
module _ (members : List ℕ) (distinct : Distinct members) (links : Links) (group : List ℕ) (hear : HearOneAnother members links group) where
  together : KeepTogether members links group
  together = record { once = rising_distinct 0 group (hear).rising; all_once = distinct; are_members = (hear).all_members; apart = λ p q m _ l. (hear).apart p q m l }

  abbrev Stands : World → Type 0
  Stands w = Standing members links group hear w

  -- what each stores and knows
  abbrev parts : World → ℕ → Part
  parts w q = part_of (node_at w.nodes q)

  abbrev known : World → ℕ → Volatile
  known w q = memory_of (node_at w.nodes q)

  abbrev linked : ℕ → List ℕ
  linked q = linked_to 1 members links group together q

  -- its tick
  abbrev part_then : World → ℕ → Part
  part_then w = tick_part (parts w) (known w)

  abbrev known_then : World → ℕ → Volatile
  known_then w = tick_volatile (parts w) (known w)

  module _ (w : World) (k : Stands w) where
    here : (q : ℕ) → (m : IsOneOf group q) → IsSoundNode members ((k).up q m).node
    here q m = found_of (IsSoundNode members) w.nodes q ((k).up q m).node ((k).up q m).at (((k).sound).ballots).nodes

    clean_here : (q : ℕ) → (m : IsOneOf group q) → IsCleanNode members ((k).up q m).node
    clean_here q m = found_of (IsCleanNode members) w.nodes q ((k).up q m).node ((k).up q m).at (((k).sound).clean).nodes

    part_is : (q : ℕ) → (m : IsOneOf group q) → parts w q ≡ ((k).up q m).part
    part_is q m = ap part_of ((k).up q m).at ∙ ap part_or ((k).up q m).has

    some_of : (a b : Part) → a ≡ b → Some a ≡ Some b
    some_of a b e = ap (λ (p : Part). Some p) e

    sits : AllSit w (parts w) (known w) group
    sits q m =
        let u = (k).up q m in
        record {
          node = u.node;
          at = u.at;
          pid = found_id w.nodes q u.node u.at;
          up = u.up;
          part = u.has ∙ some_of u.part (parts w q) (sym (part_is q m));
          stays = ((clean_here q m).stored).joining;
          volatile = sym (ap memory_of u.at);
        }

    first_part : (q : ℕ) → IsOneOf group q → IsFirst members (parts w q)
    first_part q m = subst (IsFirst members) (sym (part_is q m)) (subst (IfFirst members) ((k).up q m).has ((clean_here q m).stored).part)

    are_parts : AreParts 1 members links group together (parts w)
    are_parts = record { conf_is = λ q m. (first_part q m).conf_is; members_are = λ q m. (first_part q m).members_are; unstopped = λ q m _. (first_part q m).items }

    own_id : (q : ℕ) → IsOneOf group q → (known w q).own.pid ≡ q
    own_id q m =
        let u = (k).up q m in
        ap (λ (o : Option Node). (memory_of o).own.pid) u.at ∙ ((here q m).memory).own_is ∙ found_id w.nodes q u.node u.at

    stood_by : (q : ℕ) → (m : IsOneOf group q) → StandsUpTo (((k).up q m).part).members (((k).up q m).node).pid (((k).up q m).part).promised (((k).up q m).node).state.volatile
    stood_by q m = let u = (k).up q m in subst (λ (o : Option Part). IfStands u.node.pid o u.node.state.volatile) u.has ((here q m).memory).stands

    -- no majority has promised what one of them prepares
    waits_here : (q : ℕ) → IsOneOf group q → RoleIn (waiting q members) (known w q).role
    waits_here q m =
        let u = (k).up q m in
        let members_are : u.part.members ≡ members = (subst (IfFirst members) u.has ((clean_here q m).stored).part).members_are in
        subst (λ (o : Option Node). RoleIn (waiting q members) (memory_of o).role) (sym u.at)
        (subst (λ (p : ℕ). RoleIn (waiting p members) u.node.state.volatile.role) (found_id w.nodes q u.node u.at) (subst (λ (ms : List ℕ). RoleIn (waiting u.node.pid ms) u.node.state.volatile.role) members_are (stood_by q m).waits))

    knows_own : (q : ℕ) → IsOneOf group q → (parts w q).promised.pid ≡ q → AtMost (parts w q).promised (greater (known w q).leader (known w q).floor)
    knows_own q m =
        let u = (k).up q m in
        subst (λ (p : Part). p.promised.pid ≡ q → AtMost p.promised (greater (known w q).leader (known w q).floor)) (sym (part_is q m))
        (subst (λ (o : Option Node). u.part.promised.pid ≡ q → AtMost u.part.promised (greater (memory_of o).leader (memory_of o).floor)) (sym u.at) (λ mine. (stood_by q m).known (mine ∙ sym (found_id w.nodes q u.node u.at))))

    stands_for : (q : ℕ) → IsOneOf group q → (known w q).leader ≡ (known w q).own → AtMost (known w q).own (parts w q).promised
    stands_for q m same =
        let u = (k).up q m in
        let s = stood_by q m in
        subst (λ (p : Part). AtMost (known w q).own p.promised) (sym (part_is q m))
        (subst (λ (o : Option Node). AtMost (memory_of o).own u.part.promised) (sym u.at) (s.own (sym (ap (λ (o : Option Node). (memory_of o).leader) u.at) ∙ same ∙ ap (λ (o : Option Node). (memory_of o).own) u.at)))

    -- from a world to the end of a round that begins there
    record RoundTo (u : World) : Type 1 where
      stands : Stands u
      own : (q : ℕ) → IsOneOf group q → (known u q).own ≡ (known_then w q).own
      leader : (q : ℕ) → IsOneOf group q → (known u q).leader ≡ (known_then w q).leader
      heard : (q : ℕ) → IsOneOf group q → (known u q).heard ≡ map (told (known_then w)) (linked q)
      promise : (q : ℕ) → IsOneOf group q → AtMost (part_then w q).promised (parts u q).promised
      floor : (q : ℕ) → IsOneOf group q → AtMost (known_then w q).floor (known u q).floor
      holds : (P : Ballot → Type 0) → IsLowering P → ((q : ℕ) → IsOneOf group q → P (part_then w q).promised × P (known_then w q).floor) → HoldsIn members links group hear P u

    -- the heartbeats alone
    sat : AllSit (after_round group links w) (part_then w) (round_volatile 1 members links group together (parts w) (known w)) group
    sat = round_run 1 members links group together (parts w) (known w) are_parts w sits

    known_is : (q : ℕ) → IsOneOf group q → known (after_round group links w) q ≡ round_volatile 1 members links group together (parts w) (known w) q
    known_is q m = let s = sat q m in ap memory_of s.at ∙ s.volatile

    parts_are : (q : ℕ) → IsOneOf group q → parts (after_round group links w) q ≡ part_then w q
    parts_are q m = let s = sat q m in ap part_of s.at ∙ ap part_or s.part

    heads_then : (q : ℕ) → IsOneOf group q → HeadsOwn (node_at (after_round group links w).nodes q)
    heads_then q m same =
        subst (λ (u : Volatile). RoleIn (only u.own) u.role) (sym (known_is q m))
        (tick_heads q (parts w q) (known w q) (λ _. Unit {0}) (knows_own q m) (λ e _. (k).heads q m e) (ap (λ (p : Part). p.promised) (sym (parts_are q m)) ∙ same ∙ ap (λ (u : Volatile). u.own) (known_is q m)) tt)

    pub stands_then : Stands (after_round group links w)
    stands_then =
        record {
          sound = sound_run members (heartbeats group links w) w (round_quiet group links w) (k).sound;
          up = λ q m. let s = sat q m in record { node = s.node; at = s.at; up = s.up; part = part_then w q; has = s.part };
          heads = heads_then;
        }

    round_to : (hs : List Happening) → IsFreeRound group links w hs → RoundTo (run_of w hs)
    round_to hs r =
        let z : World = after_round group links w in
        let b = behind_run members links group hear r.behind z stands_then r.may_come in
        let u : World = run_of z r.behind in
        let u_is : run_of w hs ≡ u = ap (run_of w) r.is ∙ run_append w (heartbeats group links w) r.behind in
        subst RoundTo (sym u_is)
        (record {
          stands = b.standing;
          own = λ q m. (b.later.keeps q m).own ∙ ap (λ (v : Volatile). v.own) (known_is q m);
          leader = λ q m. (b.later.keeps q m).leader ∙ ap (λ (v : Volatile). v.leader) (known_is q m);
          heard = λ q m. (b.later.keeps q m).heard ∙ ap (λ (v : Volatile). v.heard) (known_is q m);
          promise = λ q m. subst (λ (p : Part). AtMost p.promised (parts u q).promised) (parts_are q m) (b.later.keeps q m).promise;
          floor = λ q m. subst (λ (v : Volatile). AtMost v.floor (known u q).floor) (known_is q m) (b.later.keeps q m).floor;
          holds = λ P low h. b.later.holds P low (λ q m. (subst (λ (p : Part). P p.promised) (sym (parts_are q m)) (h q m).0, subst (λ (v : Volatile). P v.floor) (sym (known_is q m)) (h q m).1));
        })

    -- ---- ticks of the majority
    one_more : (n : ℕ) → 1 + n ≡ suc n
    one_more n = omega arith

    module _ (u : ℕ → Volatile) (told_here : (q : ℕ) → IsOneOf group q → (known w q).heard ≡ map (told u) (linked q)) where
      majority : (q : ℕ) → IsOneOf group q → hears_majority (candidate_of q (parts w q) (known w q)) (known w q).heard ≡ true
      majority q m =
          ap (λ (l : List ℕ). is_majority (1 + length (known w q).heard) (length l)) (first_part q m).members_are
          ∙ ap (λ (l : List Heard). is_majority (1 + length l) (length members)) (told_here q m)
          ∙ ap (λ (x : ℕ). is_majority (1 + x) (length members)) (length-map (told u) (linked q))
          ∙ ap (λ (x : ℕ). is_majority x (length members)) (one_more (length (linked q)) ∙ count_with (is_linked links q) q members distinct ((hear).all_members q m))
          ∙ group_hears members links group hear q m

      each_heard : (Q : Heard → Type 0) → ((r : ℕ) → IsOneOf group r → Q (told u r)) → (q : ℕ) → IsOneOf group q → Each Q (known w q).heard
      each_heard Q h q m = subst (Each Q) (sym (told_here q m)) (Each-map Q (λ r. IsOneOf group r) (told u) h (linked q) (hears_group members links group hear q m))

      -- the winner isn't above what all of them stand below
      win_low : (z : Ballot) → ((r : ℕ) → IsOneOf group r → AtMost (u r).own z) → (q : ℕ) → IsOneOf group q → AtMost (known w q).own z → AtMost (winner (candidate_of q (parts w q) (known w q)) (known w q).heard) z
      win_low z h q m o = greatest_at_most (known w q).own (known w q).heard z o (each_heard (λ x. AtMost x.ballot z) h q m)

      -- and it is the greatest of theirs, where all have told that they hear a majority
      win_is : (z : Ballot) (s : ℕ) → IsOneOf group s → (known w s).own ≡ z → (u s).own ≡ z → ((r : ℕ) → IsOneOf group r → (u r).flag ≡ true) → ((r : ℕ) → IsOneOf group r → AtMost (u r).own z)
          → (q : ℕ) → IsOneOf group q → AtMost (known w q).own z → winner (candidate_of q (parts w q) (known w q)) (known w q).heard ≡ z
      win_is z s one mine theirs flags h q m o =
          let win : Ballot = winner (candidate_of q (parts w q) (known w q)) (known w q).heard in
          same_ballot win z (win_low z h q m o) (by_id (eqb q s) refl)
        where
          by_id : (b : Bool) → eqb q s ≡ b → AtMost z (winner (candidate_of q (parts w q) (known w q)) (known w q).heard)
          by_id true e =
              subst (λ (x : Ballot). AtMost x (winner (candidate_of q (parts w q) (known w q)) (known w q).heard)) (ap (λ (x : ℕ). (known w x).own) (eqb-true q s e) ∙ mine) (own_in (known w q).own (known w q).heard)
          by_id false e =
              let win : Ballot = winner (candidate_of q (parts w q) (known w q)) (known w q).heard in
              let all : Each (λ x. AtMost x.ballot win) (known w q).heard = heard_in (known w q).own (known w q).heard (each_heard (λ x. x.flag ≡ true) flags q m) in
              subst (λ (x : Ballot). AtMost x win) theirs
              (Each-at (λ r. AtMost (u r).own win) (linked q) (told_each (λ (x : Heard). AtMost x.ballot win) (told u) (linked q) (subst (Each (λ x. AtMost x.ballot win)) (told_here q m) all)) s (group_heard members links group hear q s m one (eqb-false q s e)))

  -- ---- settled
  -- one of them has the greatest ballot, and nobody knows one above it
  pub record Settled (s : ℕ) (b : Ballot) (w : World) : Type 0 where
    pub stands : Stands w
    pub is_one : IsOneOf group s
    is_own : (known w s).own ≡ b
    own : (q : ℕ) → IsOneOf group q → AtMost (known w q).own b
    leader : (q : ℕ) → IsOneOf group q → AtMost (known w q).leader b
    pub low : HoldsIn members links group hear (λ x. AtMost x b) w
    told_by : ℕ → Volatile
    heard : (q : ℕ) → IsOneOf group q → (known w q).heard ≡ map (told told_by) (linked q)
    told_own : (q : ℕ) → IsOneOf group q → (told_by q).own ≡ (known w q).own
    told_flag : (q : ℕ) → IsOneOf group q → (told_by q).flag ≡ true

  -- and all take it for the leader's
  pub record Followed (s : ℕ) (b : Ballot) (w : World) : Type 0 where
    leader_is : (q : ℕ) → IsOneOf group q → (known w q).leader ≡ b
    promised : (parts w s).promised ≡ b

  module _ (s : ℕ) (b : Ballot) (w : World) (k : Settled s b w) where
    win : (q : ℕ) → IsOneOf group q → winner (candidate_of q (parts w q) (known w q)) (known w q).heard ≡ b
    win q m =
        win_is w (k).stands (k).told_by (k).heard b s (k).is_one (k).is_own ((k).told_own s (k).is_one ∙ (k).is_own) (k).told_flag (λ r n. subst (λ (a : Ballot). AtMost a b) (sym ((k).told_own r n)) ((k).own r n)) q m ((k).own q m)

    leader_under : (q : ℕ) → IsOneOf group q → AtMost (known w q).leader (winner (candidate_of q (parts w q) (known w q)) (known w q).heard)
    leader_under q m = subst (AtMost (known w q).leader) (sym (win q m)) ((k).leader q m)

    floor_under : (q : ℕ) → IsOneOf group q → AtMost (known w q).floor (winner (candidate_of q (parts w q) (known w q)) (known w q).heard)
    floor_under q m = subst (AtMost (known w q).floor) (sym (win q m)) ((k).low q m).1

    heard_of : (q : ℕ) → (m : IsOneOf group q) → HeardIn q (parts w q) (known w q) (on_tick q (parts w q) (known w q))
    heard_of q m =
        heard_tick q (parts w q) (known w q) (majority w (k).stands (k).told_by (k).heard q m)
        (λ below. absurd (both_ways (is_below (winner (candidate_of q (parts w q) (known w q)) (known w q).heard) (least (candidate_of q (parts w q) (known w q))))
        (Rattle.op_progress.proofs.Orders.greater_at_most (known w q).leader (known w q).floor (winner (candidate_of q (parts w q) (known w q)) (known w q).heard) (leader_under q m) (floor_under q m)) below))

    takes : (q : ℕ) → IsOneOf group q → (known_then w q).leader ≡ b
    takes q m = (heard_of q m).takes (leader_under q m) (floor_under q m) ∙ win q m

    own_stays : (q : ℕ) → IsOneOf group q → (known_then w q).own ≡ (known w q).own
    own_stays q m = (heard_of q m).stays (leader_under q m) (floor_under q m)

    tick : (q : ℕ) → TickIn q (parts w q) (known w q) (on_tick q (parts w q) (known w q))
    tick q = tick_in q (parts w q) (known w q)

    floor_settled : (q : ℕ) → IsOneOf group q → AtMost (known_then w q).floor b
    floor_settled q m = (tick q).floor_up_to b ((k).low q m).1 ((k).low q m).0

    promise_low : (q : ℕ) → IsOneOf group q → AtMost (part_then w q).promised b
    promise_low q m = (tick q).promise_up_to b (floor_settled q m) (same_at_most _ b (win q m))

    stood : AtMost b (part_then w s).promised
    stood =
        let m = (k).is_one in
        let own_is : (known_then w s).own ≡ b = own_stays s (k).is_one ∙ (k).is_own in
        subst (λ (a : Ballot). AtMost a (part_then w s).promised) own_is ((tick s).stands (own_id w (k).stands s m) (stands_for w (k).stands s m) (takes s (k).is_one ∙ sym own_is))

    -- a further round
    stays_settled : (hs : List Happening) → IsFreeRound group links w hs → Settled s b (run_of w hs) × Followed s b (run_of w hs)
    stays_settled hs r =
        let u : World = run_of w hs in
        let x = round_to w (k).stands hs r in (
          record {
            stands = x.stands;
            is_one = (k).is_one;
            is_own = x.own s (k).is_one ∙ own_stays s (k).is_one ∙ (k).is_own;
            own = λ q m. subst (λ (a : Ballot). AtMost a b) (sym (x.own q m ∙ own_stays q m)) ((k).own q m);
            leader = λ q m. same_at_most (known u q).leader b (x.leader q m ∙ takes q m);
            low = x.holds (λ a. AtMost a b) (at_most_lowers b) (λ q m. (promise_low q m, floor_settled q m));
            told_by = known_then w;
            heard = λ q m. x.heard q m;
            told_own = λ q m. sym (x.own q m);
            told_flag = λ q m. (heard_of q m).flag;
          },
          record {
            leader_is = λ q m. x.leader q m ∙ takes q m;
            promised = same_ballot (parts u s).promised b (x.holds (λ a. AtMost a b) (at_most_lowers b) (λ q m. (promise_low q m, floor_settled q m)) s (k).is_one).0
                (at_most_then b (part_then w s).promised (parts u s).promised stood (x.promise s (k).is_one));
          },
        )

    -- behind its heartbeats nobody has promised a ballot above it
    pub low_behind : HoldsIn members links group hear (λ a. AtMost a b) (after_round group links w)
    low_behind q m =
        (subst (λ (p : Part). AtMost p.promised b) (sym (parts_are w (k).stands q m)) (promise_low q m), subst (λ (v : Volatile). AtMost v.floor b) (sym (known_is w (k).stands q m)) (floor_settled q m))

  -- ---- the first rounds
  -- a round behind two: nobody knows a ballot above the greatest then
  module _ (n : ℕ) (top_number : n ≤ greatest_number) (w0 w1 w2 : World) (k0 : Stands w0) (k1 : Stands w1) (k2 : Stands w2) (r0 : RoundTo w0 k0 w1) (r1 : RoundTo w1 k1 w2)
      (under : (q : ℕ) → IsOneOf group q → Under n (known w2 q).leader × Under n (known w2 q).floor) where
    abbrev stood_then : ℕ → Ballot
    stood_then q = (known_then w2 q).own

    below_top : (x : ℕ) → x < n → x < greatest_number
    below_top x h = omega (arith, top_number, h)

    heard_then : (q : ℕ) → (m : IsOneOf group q) → HeardIn q (parts w2 q) (known w2 q) (on_tick q (parts w2 q) (known w2 q))
    heard_then q m =
        heard_tick q (parts w2 q) (known w2 q) (majority w2 k2 (known_then w1) (λ p o. (r1).heard p o) q m)
        (λ _. lt-ltb (greater (known w2 q).leader (known w2 q).floor).number greatest_number
        (below_top (greater (known w2 q).leader (known w2 q).floor).number (greater_under n (known w2 q).leader (known w2 q).floor (under q m).0 (under q m).1)))

    -- own ballots rise
    own1 : (q : ℕ) → IsOneOf group q → AtMost (known_then w0 q).own (known_then w1 q).own
    own1 q m = subst (λ (a : Ballot). AtMost a (known_then w1 q).own) ((r0).own q m) (tick_in q (parts w1 q) (known w1 q)).own_rises

    own2 : (q : ℕ) → IsOneOf group q → AtMost (known_then w1 q).own (known_then w2 q).own
    own2 q m = subst (λ (a : Ballot). AtMost a (known_then w2 q).own) ((r1).own q m) (tick_in q (parts w2 q) (known w2 q)).own_rises

    module _ (s : ℕ) (t : IsTop members links group hear stood_then s) where
      abbrev b : Ballot
      b = stood_then s

      low2 : (q : ℕ) → IsOneOf group q → AtMost (known_then w1 q).own b
      low2 q m = at_most_then (known_then w1 q).own (known_then w2 q).own b (own2 q m) ((t).above q m)

      low1 : (q : ℕ) → IsOneOf group q → AtMost (known_then w0 q).own b
      low1 q m = at_most_then (known_then w0 q).own (known_then w1 q).own b (own1 q m) (low2 q m)

      win_then : (q : ℕ) → IsOneOf group q → AtMost (winner (candidate_of q (parts w2 q) (known w2 q)) (known w2 q).heard) b
      win_then q m =
          win_low w2 k2 (known_then w1) (λ p o. (r1).heard p o) b low2 q m (subst (λ (a : Ballot). AtMost a b) (sym ((r1).own q m)) (low2 q m))

      win_before : (q : ℕ) → IsOneOf group q → AtMost (winner (candidate_of q (parts w1 q) (known w1 q)) (known w1 q).heard) b
      win_before q m =
          win_low w1 k1 (known_then w0) (λ p o. (r0).heard p o) b low1 q m (subst (λ (a : Ballot). AtMost a b) (sym ((r0).own q m)) (low1 q m))

      leader_low : (q : ℕ) → IsOneOf group q → AtMost (known_then w2 q).leader b
      leader_low q m = (heard_then q m).leader_low b ((t).above q m) (win_then q m)

      floor_low : (q : ℕ) → IsOneOf group q → AtMost (known w2 q).floor b
      floor_low q m = (heard_then q m).floor_low b ((t).above q m) (win_then q m)

      floor_before : (q : ℕ) → IsOneOf group q → AtMost (known_then w1 q).floor b
      floor_before q m = at_most_then (known_then w1 q).floor (known w2 q).floor b ((r1).floor q m) (floor_low q m)

      promise_before : (q : ℕ) → IsOneOf group q → AtMost (part_then w1 q).promised b
      promise_before q m = (tick_in q (parts w1 q) (known w1 q)).promise_up_to b (floor_before q m) (win_before q m)

      low_here : HoldsIn members links group hear (λ a. AtMost a b) w2
      low_here = (r1).holds (λ a. AtMost a b) (at_most_lowers b) (λ q m. (promise_before q m, floor_before q m))

      floor_then : (q : ℕ) → IsOneOf group q → AtMost (known_then w2 q).floor b
      floor_then q m = (tick_in q (parts w2 q) (known w2 q)).floor_up_to b (low_here q m).1 (low_here q m).0

      promise_then : (q : ℕ) → IsOneOf group q → AtMost (part_then w2 q).promised b
      promise_then q m = (tick_in q (parts w2 q) (known w2 q)).promise_up_to b (floor_then q m) (win_then q m)

    settles : (hs : List Happening) → IsFreeRound group links w2 hs → (s : ℕ) × (b : Ballot) × Settled s b (run_of w2 hs)
    settles hs r = of (top members links group hear stood_then)
      where
        of : (s : ℕ) × IsTop members links group hear stood_then s → (s : ℕ) × (b : Ballot) × Settled s b (run_of w2 hs)
        of (s, t) =
            let x = round_to w2 k2 hs r in
            let u : World = run_of w2 hs in
            let c : Ballot = stood_then s in (
              s,
              c,
              record {
                stands = x.stands;
                is_one = t.is_one;
                is_own = x.own s t.is_one;
                own = λ q m. subst (λ (a : Ballot). AtMost a c) (sym (x.own q m)) (t.above q m);
                leader = λ q m. subst (λ (a : Ballot). AtMost a c) (sym (x.leader q m)) (leader_low s t q m);
                low = x.holds (λ a. AtMost a c) (at_most_lowers c) (λ q m. (promise_then s t q m, floor_then s t q m));
                told_by = known_then w2;
                heard = λ q m. x.heard q m;
                told_own = λ q m. sym (x.own q m);
                told_flag = λ q m. (heard_then q m).flag;
              },
            )

  -- ---- the numbers of ballots in the first two rounds
  record IsUnder (n : ℕ) (w : World) (q : ℕ) : Type 0 where
    own : Under n (known w q).own
    leader : Under n (known w q).leader
    floor : Under n (known w q).floor
    promised : Under n (parts w q).promised
    heard : Each (λ h. Under n h.ballot) (known w q).heard

  module _ (n : ℕ) (w0 w1 w2 : World) (k0 : Stands w0) (k1 : Stands w1) (r0 : RoundTo w0 k0 w1) (r1 : RoundTo w1 k1 w2) (under : (q : ℕ) → IsOneOf group q → IsUnder n w0 q) where
    low_first : HoldsIn members links group hear (Under n) w1
    low_first =
        (r0).holds (Under n) (under_lowers n)
        (λ q m. let x = under q m in (tick_promised n q (parts w0 q) (known w0 q) x.promised x.own x.heard, tick_floor q (parts w0 q) (known w0 q) n x.floor x.promised))

    leader_first : (q : ℕ) → IsOneOf group q → Under n (known w1 q).leader
    leader_first q m = let x = under q m in subst (Under n) (sym ((r0).leader q m)) (tick_leader q (parts w0 q) (known w0 q) n x.own x.leader x.heard)

    own_then : (q : ℕ) → IsOneOf group q → Under (suc n) (known_then w0 q).own
    own_then q m = let x = under q m in tick_own q (parts w0 q) (known w0 q) n (more n (known w0 q).own x.own) x.leader x.floor

    own_first : (q : ℕ) → IsOneOf group q → Under (suc n) (known w1 q).own
    own_first q m = subst (Under (suc n)) (sym ((r0).own q m)) (own_then q m)

    heard_first : (q : ℕ) → IsOneOf group q → Each (λ h. Under (suc n) h.ballot) (known w1 q).heard
    heard_first q m = each_heard w1 k1 (known_then w0) (λ p o. (r0).heard p o) (λ h. Under (suc n) h.ballot) own_then q m

    low_second : HoldsIn members links group hear (Under (suc n)) w2
    low_second =
        (r1).holds (Under (suc n)) (under_lowers (suc n))
        (λ q m. let x = low_first q m in (
          tick_promised (suc n) q (parts w1 q) (known w1 q) (more n (parts w1 q).promised x.0) (own_first q m) (heard_first q m),
          tick_floor q (parts w1 q) (known w1 q) (suc n) (more n (known w1 q).floor x.1) (more n (parts w1 q).promised x.0),
        ))

    leader_second : (q : ℕ) → IsOneOf group q → Under (suc n) (known w2 q).leader
    leader_second q m =
        subst (Under (suc n)) (sym ((r1).leader q m)) (tick_leader q (parts w1 q) (known w1 q) (suc n) (own_first q m) (more n (known w1 q).leader (leader_first q m)) (heard_first q m))

  -- ---- rounds, one after the other
  pub agrees : (s : ℕ) (b : Ballot) (w : World) → Settled s b w → Followed s b w → AgreeOn group s b w
  agrees s b w k f =
      record {
        stands = stands_here (node_at w.nodes s) (((k).stands).up s (k).is_one) (k).is_own (f).promised (((k).stands).heads s (k).is_one);
        follow = λ q m. follows_here (node_at w.nodes q) (((k).stands).up q m) ((f).leader_is q m) ((k).own q m) ((k).low q m).0;
      }
    where
      leads_of : (r : Role) → RoleIn (only b) r → PreparesOrLeads b r
      leads_of role.Idle k = k
      leads_of (role.Preparing r) k = k
      leads_of (role.Leading l) k = k

      stands_here : (o : Option Node) → IsUpNode o → (memory_of o).own ≡ b → (part_of o).promised ≡ b → HeadsOwn o → StandsFor b o
      stands_here o u own promised heads =
          subst (StandsFor b) (sym u.at) (
            ap (λ (x : Option Node). (memory_of x).own) (sym u.at) ∙ own,
            subst (IsPromised b) (sym u.has) (ap (λ (x : Option Part). (part_or x).promised) (sym u.has) ∙ ap (λ (x : Option Node). (part_of x).promised) (sym u.at) ∙ promised),
            subst (λ (x : Option Node). PreparesOrLeads b (memory_of x).role) u.at (leads_of (memory_of o).role (subst (λ (a : Ballot). RoleIn (only a) (memory_of o).role) own (heads (promised ∙ sym own)))),
          )

      follows_here : (o : Option Node) → IsUpNode o → (memory_of o).leader ≡ b → AtMost (memory_of o).own b → AtMost (part_of o).promised b → Follows b o
      follows_here o u leader own promised =
          subst (Follows b) (sym u.at) (
            ap (λ (x : Option Node). (memory_of x).leader) (sym u.at) ∙ leader,
            subst (λ (x : Option Node). AtMost (memory_of x).own b) u.at own,
            subst (IsPromisedUpTo b) (sym u.has) (subst (λ (x : Option Part). AtMost (part_or x).promised b) u.has (subst (λ (x : Option Node). AtMost (part_of x).promised b) u.at promised)),
          )

  -- the owner prepares or leads the ballot
  head_of : (s : ℕ) (b : Ballot) (w : World) (x : Settled s b w) → Followed s b w → RoleIn (only b) (known w s).role
  head_of s b w x f = subst (λ (a : Ballot). RoleIn (only a) (known w s).role) x.is_own ((x.stands).heads s x.is_one (f.promised ∙ sym x.is_own))

  one_rises : (w : World) (k : Stands w) (hs : List Happening) → IsFreeRound group links w hs → (q : ℕ) → IsOneOf group q → AtMost (parts w q).promised (parts (run_of w hs) q).promised
  one_rises w k hs r q m =
      at_most_then (parts w q).promised (part_then w q).promised (parts (run_of w hs) q).promised (tick_in q (parts w q) (known w q)).raised ((round_to w k hs r).promise q m)

  -- a later world: promises have risen
  pub record Goes (s : ℕ) (b : Ballot) (w u : World) : Type 1 where
    pub settled : Settled s b u
    pub followed : Followed s b u
    rises : (q : ℕ) → IsOneOf group q → AtMost (parts w q).promised (parts u q).promised
    -- what is claimed of the owner's role stays
    pub claims : (C : Claim) → ((x : Ballot) → C.told x) → IsKept s members C → RoleIn C (known w s).role → RoleIn C (known u s).role

  goes_then : (s : ℕ) (b : Ballot) (w u t : World) → Goes s b w u → Goes s b u t → Goes s b w t
  goes_then s b w u t f g =
      record {
        settled = g.settled;
        followed = g.followed;
        rises = λ q m. at_most_then (parts w q).promised (parts u q).promised (parts t q).promised (f.rises q m) (g.rises q m);
        claims = λ C told kept k. g.claims C told kept (f.claims C told kept k);
      }

  -- the owner's role behind the heartbeats of a round, and its promise
  module _ (s : ℕ) (b : Ballot) (w : World) (x : Settled s b w) (f : Followed s b w) where
    owner_promise : (part_then w s).promised ≡ b
    owner_promise = same_ballot (part_then w s).promised b (promise_low s b w x s (x).is_one) (stood s b w x)

    promise_behind : (parts (after_round group links w) s).promised ≡ b
    promise_behind = ap (λ (p : Part). p.promised) (parts_are w (x).stands s (x).is_one) ∙ owner_promise

    role_behind : (C : Claim) → RoleIn C (known w s).role → RoleIn C (known (after_round group links w) s).role
    role_behind C k =
        subst (λ (v : Volatile). RoleIn C v.role) (sym (known_is w (x).stands s (x).is_one))
        (subst (RoleIn C) (sym ((tick_in s (parts w s) (known w s)).stays (owner_promise ∙ sym (f).promised))) k)

    claims_stay : (hs : List Happening) → IsFreeRound group links w hs → (C : Claim) → ((y : Ballot) → C.told y) → IsKept s members C → RoleIn C (known w s).role → RoleIn C (known (run_of w hs) s).role
    claims_stay hs r C told kept k =
        let z : World = after_round group links w in
        let u_is : run_of w hs ≡ run_of z r.behind = ap (run_of w) r.is ∙ run_append w (heartbeats group links w) r.behind in
        let a = behind_run members links group hear r.behind z (stands_then w (x).stands) r.may_come in
        let last : (parts (run_of z r.behind) s).promised ≡ b = subst (λ (u : World). (parts u s).promised ≡ b) u_is (stays_settled s b w x hs r).1.promised in
        subst (λ (u : World). RoleIn C (known u s).role) (sym u_is) (a.later.role C told s (x).is_one kept (last ∙ sym promise_behind) (role_behind C k))

    -- whose Promise reaches it has its promise kept
    told_then : (hs : List Happening) (q : ℕ) → RoundWith (λ v h. PromiseComes b q s v h) group links w hs → RoleIn (keeping q b) (known (run_of w hs) s).role
    told_then hs q a =
        let r = a.round in
        let z : World = after_round group links w in
        let u_is : run_of w hs ≡ run_of z r.behind = ap (run_of w) r.is ∙ run_append w (heartbeats group links w) r.behind in
        let last : (parts (run_of z r.behind) s).promised ≡ b = subst (λ (u : World). (parts u s).promised ≡ b) u_is (stays_settled s b w x hs r).1.promised in
        subst (λ (u : World). RoleIn (keeping q b) (known u s).role) (sym u_is)
        (told_run members links group hear b q s (x).is_one r.behind z (stands_then w (x).stands) r.may_come a.comes promise_behind last (role_behind (only b) (head_of s b w x f)))

  goes_once : (s : ℕ) (b : Ballot) (w : World) → Settled s b w → Followed s b w → (hs : List Happening) → IsFreeRound group links w hs → Goes s b w (run_of w hs)
  goes_once s b w x f hs r =
      let y = stays_settled s b w x hs r in
      record { settled = y.0; followed = y.1; rises = one_rises w x.stands hs r; claims = claims_stay s b w x f hs r }

  pub goes_on : (s : ℕ) (b : Ballot) (k : ℕ) (hs : List Happening) (w : World) → Settled s b w → Followed s b w → AreFreeRounds group links k w hs → Goes s b w (run_of w hs)
  goes_on s b zero hs w x f rs =
      subst (λ (l : List Happening). Goes s b w (run_of w l)) (sym rs) (record { settled = x; followed = f; rises = λ q m. same_at_most (parts w q).promised (parts w q).promised refl; claims = λ C told kept k. k })
  goes_on s b (suc k) hs w x f rs =
      let first : List Happening = rs.0 in
      let u : World = run_of w first in
      let y = stays_settled s b w x first rs.3 in
      subst (Goes s b w) (sym (ap (run_of w) rs.2 ∙ run_append w first rs.1)) (goes_then s b w u (run_of u rs.1) (goes_once s b w x f first rs.3) (goes_on s b k rs.1 u y.0 y.1 rs.4))

  -- whom a Prepare has reached in a round has promised its ballot from the end of that round on
  asked_then : (w : World) (k : Stands w) (hs : List Happening) (b : Ballot) (s q : ℕ) → IsOneOf group q → RoundWith (λ v h. PrepareComes b s q v h) group links w hs → AtMost b (parts (run_of w hs) q).promised
  asked_then w k hs b s q m a =
      let r = a.round in
      subst (λ (u : World). AtMost b (parts u q).promised) (sym (ap (run_of w) r.is ∙ run_append w (heartbeats group links w) r.behind))
      (asked_run members links group hear b s q m r.behind (after_round group links w) (stands_then w k) r.may_come a.comes)

  pub promises_ever : (s : ℕ) (b : Ballot) (w : World) → Settled s b w → Followed s b w → (q : ℕ) → IsOneOf group q → (k i : ℕ) (hs asking more : List Happening) → AreFreeRounds group links k w hs
      → let u : World = run_of w hs in
      RoundWith (λ v h. PrepareComes b s q v h) group links u asking → AreFreeRounds group links i (run_of u asking) more → IsPromisedAt b (node_at (run_of (run_of u asking) more).nodes q)
  promises_ever s b w x f q m k i hs asking more rs a rest =
      let u : World = run_of w hs in
      let z : World = run_of u asking in
      let t : World = run_of z more in
      let g = goes_on s b k hs w x f rs in
      let y = stays_settled s b u g.settled asking a.round in
      let e = goes_on s b i more z y.0 y.1 rest in
      let high : AtMost b (parts t q).promised = at_most_then b (parts z q).promised (parts t q).promised (asked_then u (g.settled).stands asking b s q m a) (e.rises q m) in
      promised_here (node_at t.nodes q) (((e.settled).stands).up q m) (same_ballot (parts t q).promised b ((e.settled).low q m).0 high)
    where
      promised_here : (o : Option Node) → IsUpNode o → (part_of o).promised ≡ b → IsPromisedAt b o
      promised_here o u is =
          subst (IsPromisedAt b) (sym u.at) (subst (IsPromised b) (sym u.has) (ap (λ (x : Option Part). (part_or x).promised) (sym u.has) ∙ ap (λ (x : Option Node). (part_of x).promised) (sym u.at) ∙ is))

  -- whose promise has reached the owner has it kept from the end of that round on
  pub kept_ever : (s : ℕ) (b : Ballot) (w : World) → Settled s b w → Followed s b w → (q k i : ℕ) (hs telling more : List Happening) → AreFreeRounds group links k w hs
      → let u : World = run_of w hs in
      RoundWith (λ v h. PromiseComes b q s v h) group links u telling → AreFreeRounds group links i (run_of u telling) more → HasPromiseAt b q (node_at (run_of (run_of u telling) more).nodes s)
  kept_ever s b w x f q k i hs telling more rs a rest =
      let u : World = run_of w hs in
      let z : World = run_of u telling in
      let g = goes_on s b k hs w x f rs in
      let y = stays_settled s b u g.settled telling a.round in
      let e = goes_on s b i more z y.0 y.1 rest in
      kept_here (node_at (run_of z more).nodes s) (((e.settled).stands).up s x.is_one)
      (has_promise b q (known (run_of z more) s).role (e.claims (keeping q b) (λ _. tt) (keeping_kept q b s members) (told_then s b u g.settled g.followed telling q a)))
    where
      kept_here : (o : Option Node) → IsUpNode o → HasPromise b q (memory_of o).role → HasPromiseAt b q o
      kept_here o u k = subst (HasPromiseAt b q) (sym u.at) (subst (λ (n : Option Node). HasPromise b q (memory_of n).role) u.at k)

  -- who keeps the promises of all others leads from then on
  pub leads_ever : (s : ℕ) (b : Ballot) (w : World) → Settled s b w → Followed s b w → (k i : ℕ) (hs more : List Happening) → AreFreeRounds group links k w hs
      → let u : World = run_of w hs in
      ((q : ℕ) → IsOneOf group q → (q ≡ s → ⊥) → HasPromiseAt b q (node_at u.nodes s)) → AreFreeRounds group links i u more → LeadsBallot b (node_at (run_of u more).nodes s)
  leads_ever s b w x f k i hs more rs has rest =
      let u : World = run_of w hs in
      let t : World = run_of u more in
      let g = goes_on s b k hs w x f rs in
      let e = goes_on s b i more u g.settled g.followed rest in
      let all : (q : ℕ) → IsOneOf group q → (q ≡ s → ⊥) → HasPromise b q (known t s).role =
      λ q m other. has_promise b q (known t s).role (e.claims (keeping q b) (λ _. tt) (keeping_kept q b s members)
      (of_promise b q (known u s).role (role_here (node_at u.nodes s) (((g.settled).stands).up s x.is_one) q (has q m other)))) in
      leads_here (node_at t.nodes s) (((e.settled).stands).up s x.is_one)
      (leads_then members group (hear).majority s b (known t s).role (head_of s b t e.settled e.followed) (waits_here t (e.settled).stands s x.is_one) all)
    where
      role_here : (o : Option Node) → IsUpNode o → (q : ℕ) → HasPromiseAt b q o → HasPromise b q (memory_of o).role
      role_here o u q k = subst (λ (n : Option Node). HasPromise b q (memory_of n).role) (sym u.at) (subst (HasPromiseAt b q) u.at k)

      leads_here : (o : Option Node) → IsUpNode o → IsLed b (memory_of o).role → LeadsBallot b o
      leads_here o u k = subst (LeadsBallot b) (sym u.at) (subst (λ (n : Option Node). IsLed b (memory_of n).role) u.at k)

  -- the majority agrees
  pub record Agreed (w : World) : Type 0 where
    pub leader : ℕ
    pub ballot : Ballot
    pub settled : Settled leader ballot w
    pub followed : Followed leader ballot w

  abbrev pub agree_ever : (w : World) → Agreed w → AgreeEverAfter links group w
  agree_ever w a =
      record {
        leader = a.leader;
        ballot = a.ballot;
        is_one = (a.settled).is_one;
        agree = λ k hs rs. let g = goes_on a.leader a.ballot k hs w a.settled a.followed rs in agrees a.leader a.ballot (run_of w hs) g.settled g.followed;
        promise = promises_ever a.leader a.ballot w a.settled a.followed;
        kept = kept_ever a.leader a.ballot w a.settled a.followed;
        leads = leads_ever a.leader a.ballot w a.settled a.followed;
      }

  -- four rounds from a world in which all members are up, and all ballots that they know are under a number
  four_rounds : (n : ℕ) → suc n ≡ greatest_number → (w : World) → Stands w → ((q : ℕ) → IsOneOf group q → IsUnder n w q) → (hs : List Happening) → AreFreeRounds group links 4 w hs → Agreed (run_of w hs)
  four_rounds n top_number w k under hs rs =
      let e1 : List Happening = rs.0 in
      let w1 : World = run_of w e1 in
      let rs1 = rs.4 in
      let e2 : List Happening = rs1.0 in
      let w2 : World = run_of w1 e2 in
      let rs2 = rs1.4 in
      let e3 : List Happening = rs2.0 in
      let w3 : World = run_of w2 e3 in
      let rs3 = rs2.4 in
      let e4 : List Happening = rs3.0 in
      let w4 : World = run_of w3 e4 in
      let r0 = round_to w k e1 rs.3 in
      let r1 = round_to w1 r0.stands e2 rs1.3 in
      let x = settles (suc n) at_top w w1 w2 k r0.stands r1.stands r0 r1 (λ q m. (leader_second n w w1 w2 k r0.stands r0 r1 under q m, (low_second n w w1 w2 k r0.stands r0 r1 under q m).1)) e3 rs2.3 in
      let y = stays_settled x.0 x.1 w3 x.2 e4 rs3.3 in
      let there : run_of w hs ≡ w4 =
      ap (run_of w) rs.2 ∙ run_append w e1 rs.1 ∙ ap (run_of w1) rs1.2 ∙ run_append w1 e2 rs1.1 ∙ ap (run_of w2) rs2.2 ∙ run_append w2 e3 rs2.1
      ∙ ap (run_of w3) rs3.2 ∙ run_append w3 e4 rs3.1 ∙ ap (run_of w4) rs3.4 in
      subst Agreed (sym there) (record { leader = x.0; ballot = x.1; settled = y.0; followed = y.1 })
    where
      at_top : suc n ≤ greatest_number
      at_top = omega (arith, top_number)

-- ---- from what a run reaches
has_room : (n : ℕ) → suc n ≡ greatest_number → (b : Ballot) → HasRoom b → Under n b
has_room n top_number b h = omega arith

-- who is up with room prepares or leads its own ballot, if it has promised that
up_heads : (members : List ℕ) (w : World) → IsSoundWorld members w → (q : ℕ) → IsUpWithRoom w q → HeadsOwn (node_at w.nodes q)
up_heads members w sound q u =
    let n : IsSoundNode members u.node = found_of (IsSoundNode members) w.nodes q u.node u.at (sound.ballots).nodes in
    let s : StandsUpTo u.part.members u.node.pid u.part.promised u.node.state.volatile = subst (λ (o : Option Part). IfStands u.node.pid o u.node.state.volatile) u.has (n.memory).stands in
    subst HeadsOwn (sym u.at) (λ same. s.heads (ap (λ (o : Option Part). (part_or o).promised) (sym u.has) ∙ same) (lower u.node.state.volatile.own.number greatest_number (u.room).own))
  where
    lower : (k g : ℕ) → k + 1 < g → k < g
    lower k g h = omega (arith, h)

pub agreed : (members spares : List ℕ) (range : MembersInRange members) (early : List Happening) → ProposeNoStop early → (links : Links) (group : List ℕ)
    → let w : World = run_of (first_world members spares) early in
    AreUpWithRoom group w → (hear : HearOneAnother members links group) → (hs : List Happening) → AreFreeRounds group links 4 w hs → Agreed members (rising_distinct 0 members (range).rising) links group hear (run_of w hs)
agreed members spares range early quiet links group ups hear hs rs =
    let w : World = run_of (first_world members spares) early in
    let distinct : Distinct members = rising_distinct 0 members (range).rising in
    let sound : IsSoundWorld members w = sound_run members early (first_world members spares) quiet (sound_first members spares) in
    let stands : Standing members links group hear w =
    record {
      sound = sound;
      up = λ q m. let u = ups q m in record { node = u.node; at = u.at; up = u.up; part = u.part; has = u.has };
      heads = λ q m. up_heads members w sound q (ups q m);
    } in
    four_rounds members distinct links group hear (greatest_number - 1) refl w stands
    (λ q m. let u = ups q m in under_here members distinct links group hear (greatest_number - 1) refl w q u)
    hs rs
  where
    under_here : (members : List ℕ) (distinct : Distinct members) (links : Links) (group : List ℕ) (hear : HearOneAnother members links group) (n : ℕ) → suc n ≡ greatest_number → (w : World) (q : ℕ) → IsUpWithRoom w q → IsUnder members distinct links group hear n w q
    under_here members distinct links group hear n top_number w q u =
        let v : Volatile = u.node.state.volatile in
        let k = u.room in
        let of : (P : Volatile → Type 0) → P v → P (memory_of (node_at w.nodes q)) = λ P h. subst (λ (o : Option Node). P (memory_of o)) (sym u.at) h in
        record {
          own = of (λ x. Under n x.own) (has_room n top_number v.own k.own);
          leader = of (λ x. Under n x.leader) (has_room n top_number v.leader k.leader);
          floor = of (λ x. Under n x.floor) (has_room n top_number v.floor k.floor);
          promised = subst (λ (o : Option Node). Under n (part_of o).promised) (sym u.at) (subst (λ (o : Option Part). Under n (part_or o).promised) (sym u.has) (has_room n top_number u.part.promised k.promised));
          heard = of (λ x. Each (λ h. Under n h.ballot) x.heard) (Each-more (λ h. HasRoom h.ballot) (λ h. Under n h.ballot) (λ h r. has_room n top_number h.ballot r) v.heard (each_of_all (λ h. HasRoom h.ballot) v.heard k.heard));
        }

pub majorities_agree : MajoritiesAgree
majorities_agree members spares range early quiet links group ups hear hs rs =
    agree_ever members (rising_distinct 0 members (range).rising) links group hear (run_of (run_of (first_world members spares) early) hs) (agreed members spares range early quiet links group ups hear hs rs)
