-- The events of lockstep rounds can come: they name members, and messages that were sent.
use Rattle.std.proofs.Common.{◌≡◌, ℕ, zero, suc, ◌+◌, ◌<◌, ◌≤◌, Bool, true, false, cond, nat_eq, List, [], ◌∷◌, ◌++◌, length, map, drop, All, refl, sym, ap, ◌∙◌, subst, arith, length-drop, append_assoc, ⊎_elim}
use Rattle.std.proofs.lemmas.Bool.{cases_lt, lt-ltb, or_left, or_right, eq-eqb}
use Rattle.std.proofs.lemmas.List.{at_drop_all, append-nil}
use Rattle.std.proofs.lemmas.List.Elements.{All-nil, All-cons, All-head, All-tail, All-append}
use Rattle.std.specs.Set.{is_member}
use Rattle.op_types.specs.Ranges.{IsMember}
use Rattle.op_runs.specs.declared.events.What.TheVariants as what
use Rattle.op_runs.specs.declared.events.Event.{Event}
use Rattle.op_runs.specs.World.{World, Sent, Happening, first_world, world_after, done_event, all_done}
use Rattle.op_runs.specs.Run.{Execution, execution_with, execution_of}
use Rattle.op_runs.specs.Possible.{Named, named_ids, is_possible_in, ArePossibleFrom, proposals_of, proposals_in}
use Rattle.op_laws.proofs.Reached.{world_of_run, execution_append}
use Rattle.op_bounds.specs.Laws.{WhatNames}
use Rattle.op_executions.proofs.Deeds.{names_of}
use Rattle.op_executions.proofs.Messages.{no_fewer}
use Rattle.op_gen.specs.Links.{Links, all_links}
use Rattle.op_lockstep.proofs.Rounds.{after_append}
use Rattle.op_world.specs.Drills.{followed}
use Rattle.op_lockstep.specs.Lockstep.{event_of, after_events, ticks, ballots, numbers_of, deliveries, is_linked_request, is_sent_reply, ticked, asking, asked, answering, round, after_round, lockstep, first_rounds, linked_world, links_drill}

-- ---- events after events

pub possible_append : (ids : Named) (w : World) (xs ys : List Event) → ArePossibleFrom ids w xs → ArePossibleFrom ids (after_events w xs) ys → ArePossibleFrom ids w (xs ++ ys)
possible_append ids w [] ys a b = b
possible_append ids w (x ∷ xs) ys a b = (a.0, possible_append ids (world_after w (done_event x)) xs ys a.1 b)

-- events after events, of what a run has come to
done_append : (xs ys : List Event) → all_done (xs ++ ys) ≡ all_done xs ++ all_done ys
done_append [] ys = refl
done_append (x ∷ xs) ys = ap (λ (hs : List Happening). done_event x ∷ hs) (done_append xs ys)

pub followed_append : (t : Execution) (xs ys : List Event) → followed t (xs ++ ys) ≡ followed (followed t xs) ys
followed_append t xs ys = ap (λ (hs : List Happening). execution_of t hs) (done_append xs ys) ∙ execution_append t (all_done xs) (all_done ys)

pub followed_world : (t : Execution) (es : List Event) → (followed t es).world ≡ after_events t.world es
followed_world t es = world_of_run t (all_done es)

-- what members do
module _ (ids : Named) (f : ℕ → Event) (possible : (w : World) (p : ℕ) → IsMember ids.servers p → is_possible_in ids w (f p) ≡ true) where
  each_member : (ps : List ℕ) → ((p : ℕ) → IsMember ps p → IsMember ids.servers p) → (w : World) → ArePossibleFrom ids w (map f ps)
  each_member [] all w = tt
  each_member (p ∷ ps) all w = (
    possible w p (all p (or_left _ (is_member nat_eq ps p) (eq-eqb p p refl))),
    each_member ps (λ q m. all q (or_right _ (is_member nat_eq ps q) m)) (world_after w (done_event (f p))),
  )

pub ticks_possible : (ids : Named) (members : List ℕ) → ((p : ℕ) → IsMember members p → IsMember ids.servers p) → (w : World) → ArePossibleFrom ids w (ticks members)
ticks_possible ids members known w = each_member ids (λ p. event_of (what.Tick p)) (λ x p m. m) members known w

pub ballots_possible : (ids : Named) (members : List ℕ) → ((p : ℕ) → IsMember members p → IsMember ids.servers p) → (w : World) → ArePossibleFrom ids w (ballots members)
ballots_possible ids members known w = each_member ids (λ p. event_of (what.Ballots p)) (λ x p m. m) members known w

-- ---- deliveries

abbrev delivered : List ℕ → List Event
delivered ns = map (λ i. event_of (what.Deliver i)) ns

delivered_possible : (ids : Named) (ns : List ℕ) (w : World) → All (λ i. i < length w.messages) ns → ArePossibleFrom ids w (delivered ns)
delivered_possible ids [] w low = tt
delivered_possible ids (n ∷ ns) w low =
    let here = All-head (λ (i : ℕ). i < length w.messages) n ns low in
    let rest = All-tail (λ (i : ℕ). i < length w.messages) n ns low in
    let next : World = world_after w (done_event (event_of (what.Deliver n))) in
    (lt-ltb n (length w.messages) here, delivered_possible ids ns next (more_low ns rest))
  where
    more_low : (ks : List ℕ) → All (λ i. i < length w.messages) ks → All (λ i. i < length (world_after w (done_event (event_of (what.Deliver n)))).messages) ks
    more_low ks a = λ k d h. let one = a k d h in let few = no_fewer w (done_event (event_of (what.Deliver n))) in omega (arith, one, few)

numbers_low : (test : Sent → Bool) (n : ℕ) (ms : List Sent) → All (λ i. i < n + length ms) (numbers_of test n ms)
numbers_low test n [] = All-nil (λ i. i < n + 0)
numbers_low test n (m ∷ ms) =
    let same : n + 1 + length ms ≡ n + suc (length ms) = omega arith in
    let rest : All (λ i. i < n + suc (length ms)) (numbers_of test (n + 1) ms) = subst (λ (k : ℕ). All (λ i. i < k) (numbers_of test (n + 1) ms)) same (numbers_low test (n + 1) ms) in
    by_test (test m) rest
  where
    by_test : (b : Bool) → All (λ i. i < n + suc (length ms)) (numbers_of test (n + 1) ms) → All (λ i. i < n + suc (length ms)) (cond b (n ∷ numbers_of test (n + 1) ms) (numbers_of test (n + 1) ms))
    by_test true rest = All-cons (λ i. i < n + suc (length ms)) n (numbers_of test (n + 1) ms) (omega arith) rest
    by_test false rest = rest

pub deliveries_possible : (ids : Named) (test : Sent → Bool) (since : ℕ) (w : World) → ArePossibleFrom ids w (deliveries test since w.messages)
deliveries_possible ids test since w = ⊎_elim within past (cases_lt since (length w.messages))
  where
    within : since < length w.messages → ArePossibleFrom ids w (deliveries test since w.messages)
    within low =
        let all : since + length (drop since w.messages) ≡ length w.messages = omega (arith, length-drop since w.messages) in
        delivered_possible ids (numbers_of test since (drop since w.messages)) w
        (subst (λ (k : ℕ). All (λ i. i < k) (numbers_of test since (drop since w.messages))) all (numbers_low test since (drop since w.messages)))

    past : length w.messages ≤ since → ArePossibleFrom ids w (deliveries test since w.messages)
    past high = subst (λ (ms : List Sent). ArePossibleFrom ids w (delivered (numbers_of test since ms))) (sym (at_drop_all (λ (ms : List Sent). ms) w.messages since high)) tt

-- ---- rounds

-- the ids of a world of members alone
abbrev pub alone : List ℕ → Named
alone members = named_ids members [] []

module _ (members : List ℕ) (links : Links) where
  round_possible : (w : World) → ArePossibleFrom (alone members) w (round members links w)
  round_possible w =
      possible_append (alone members) w (ticks members ++ asking members links w) (answering members links w)
      (possible_append (alone members) w (ticks members) (asking members links w) (ticks_possible (alone members) members (λ p m. m) w)
      (deliveries_possible (alone members) (is_linked_request links) (length w.messages) (ticked members w)))
      (subst (λ (u : World). ArePossibleFrom (alone members) u (answering members links w)) (sym (after_append w (ticks members) (asking members links w)))
      (deliveries_possible (alone members) is_sent_reply (length (ticked members w).messages) (asked members links w)))

  lockstep_possible : (k : ℕ) (w : World) → ArePossibleFrom (alone members) w (lockstep members links k w)
  unfolding lockstep
  lockstep_possible zero w = tt
  lockstep_possible (suc k) w =
      possible_append (alone members) w (round members links w) (lockstep members links k (after_round members links w)) (round_possible w) (lockstep_possible k (after_round members links w))

  -- one round more
  pub one_more_round : (k : ℕ) (w : World) → lockstep members links (suc k) w ≡ lockstep members links k w ++ round members links (after_events w (lockstep members links k w))
  unfolding lockstep
  one_more_round zero w = append-nil (round members links w)
  one_more_round (suc k) w =
      let next : World = after_round members links w in
      let here : List Event = round members links w in
      let rest : List Event = lockstep members links k next in
      ap (λ (es : List Event). here ++ es) (one_more_round k next)
      ∙ sym (append_assoc here rest (round members links (after_events next rest)))
      ∙ ap (λ (u : World). (here ++ rest) ++ round members links u) (sym (after_append w here rest))

-- ---- a drill

-- events that can come name servers, and stop-signs nodes
pub names_from : (ids : Named) (w : World) (es : List Event) → ArePossibleFrom ids w es → All (λ e. WhatNames (IsMember ids.voters) (IsMember ids.servers) e.what) es
names_from ids w [] can = All-nil (λ (e : Event). WhatNames (IsMember ids.voters) (IsMember ids.servers) e.what)
names_from ids w (e ∷ es) can =
    All-cons (λ (x : Event). WhatNames (IsMember ids.voters) (IsMember ids.servers) x.what) e es (names_of ids (length w.messages) e.what can.0) (names_from ids (world_after w (done_event e)) es can.1)

pub drill_possible : (members : List ℕ) (links : Links) (rounds : ℕ) → ArePossibleFrom (alone members) (first_world members []) (links_drill members links rounds)
unfolding links_drill
drill_possible members links rounds =
    let first : World = first_world members [] in
    let fs : List Event = first_rounds members in
    let ls : List Event = lockstep members links rounds (linked_world members) in
    let same : (p : ℕ) → IsMember members p → IsMember members p = λ p m. m in
    possible_append (alone members) first (fs ++ ls ++ ticks members) (ballots members)
    (possible_append (alone members) first (fs ++ ls) (ticks members)
    (possible_append (alone members) first fs ls (lockstep_possible members (all_links members) 3 first) (lockstep_possible members links rounds (linked_world members)))
    (ticks_possible (alone members) members same (after_events first (fs ++ ls))))
    (ballots_possible (alone members) members same (after_events first (fs ++ ls ++ ticks members)))

-- ---- nothing is proposed

abbrev Quiet : Event → Type 0
Quiet e = proposals_of e.what ≡ 0

all_mapped : (P : Event → Type 0) (f : ℕ → Event) → ((p : ℕ) → P (f p)) → (ps : List ℕ) → All P (map f ps)
all_mapped P f each [] = All-nil P
all_mapped P f each (p ∷ ps) = All-cons P (f p) (map f ps) (each p) (all_mapped P f each ps)

round_quiet : (members : List ℕ) (links : Links) (w : World) → All Quiet (round members links w)
round_quiet members links w =
    let ns : List ℕ = numbers_of (is_linked_request links) (length w.messages) (drop (length w.messages) (ticked members w).messages) in
    let ms : List ℕ = numbers_of is_sent_reply (length (ticked members w).messages) (drop (length (ticked members w).messages) (asked members links w).messages) in
    All-append Quiet (ticks members ++ asking members links w) (answering members links w)
    (All-append Quiet (ticks members) (asking members links w) (all_mapped Quiet (λ p. event_of (what.Tick p)) (λ p. refl) members) (all_mapped Quiet (λ i. event_of (what.Deliver i)) (λ i. refl) ns))
    (all_mapped Quiet (λ i. event_of (what.Deliver i)) (λ i. refl) ms)

lockstep_quiet : (members : List ℕ) (links : Links) (k : ℕ) (w : World) → All Quiet (lockstep members links k w)
unfolding lockstep
lockstep_quiet members links zero w = All-nil Quiet
lockstep_quiet members links (suc k) w =
    All-append Quiet (round members links w) (lockstep members links k (after_round members links w)) (round_quiet members links w) (lockstep_quiet members links k (after_round members links w))

none_proposed : (es : List Event) → All Quiet es → proposals_in (all_done es) ≡ 0
none_proposed [] each = refl
none_proposed (e ∷ es) each = omega (arith, All-head Quiet e es each, none_proposed es (All-tail Quiet e es each))

pub drill_proposes_nothing : (members : List ℕ) (links : Links) (rounds : ℕ) → proposals_in (all_done (links_drill members links rounds)) ≡ 0
unfolding links_drill
drill_proposes_nothing members links rounds =
    let fs : List Event = first_rounds members in
    let ls : List Event = lockstep members links rounds (linked_world members) in
    none_proposed (fs ++ ls ++ ticks members ++ ballots members)
    (All-append Quiet (fs ++ ls ++ ticks members) (ballots members)
    (All-append Quiet (fs ++ ls) (ticks members)
    (All-append Quiet fs ls (lockstep_quiet members (all_links members) 3 (first_world members [])) (lockstep_quiet members links rounds (linked_world members)))
    (all_mapped Quiet (λ p. event_of (what.Tick p)) (λ p. refl) members))
    (all_mapped Quiet (λ p. event_of (what.Ballots p)) (λ p. refl) members))

-- ---- events that are followed

-- what the events that are left make of a run, where all of them began at t
pub record Follows (ids : Named) (t u : Execution) (left events : List Event) : Type 0 where
  pub ran : followed u left ≡ followed t events
  pub possible : ArePossibleFrom ids u.world left

pub follows_first : (ids : Named) (t : Execution) (left events : List Event) → left ≡ events → ArePossibleFrom ids t.world events → Follows ids t t left events
follows_first ids t left events all possible =
    record { ran = ap (λ (es : List Event). followed t es) all; possible = subst (λ (es : List Event). ArePossibleFrom ids t.world es) (sym all) possible }

pub follows_next : (ids : Named) (t u : Execution) (left rest events : List Event) (e : Event) → Follows ids t u left events → left ≡ e ∷ rest → Follows ids t (execution_with u (done_event e)) rest events
follows_next ids t u left rest events e f first =
    let possible : ArePossibleFrom ids u.world (e ∷ rest) = subst (λ (es : List Event). ArePossibleFrom ids u.world es) first f.possible in
    record { ran = ap (λ (es : List Event). followed u es) (sym first) ∙ f.ran; possible = possible.1 }

pub follows_here : (ids : Named) (t u : Execution) (left rest events : List Event) (e : Event) → Follows ids t u left events → left ≡ e ∷ rest → is_possible_in ids u.world e ≡ true
follows_here ids t u left rest events e f first = (subst (λ (es : List Event). ArePossibleFrom ids u.world es) first f.possible).0

pub follows_end : (ids : Named) (t u : Execution) (left events : List Event) → Follows ids t u left events → left ≡ [] → u ≡ followed t events
follows_end ids t u left events f none = ap (λ (es : List Event). followed u es) (sym none) ∙ f.ran
