-- Over links that let one member alone hear a majority, that member takes its own ballot for the leader's
-- after the tick that ends the second or the third round.
use Rattle.std.proofs.Common.{◌≡◌, ◌==◌, ◌<◌, ◌-◌, ◌⊎◌, inl, inr, ⊎_elim, ℕ, suc, Bool, true, false, eqb, ltb, nat_eq, List, [], ◌∷◌, ◌++◌, length, Option, refl, sym, ap, ◌∙◌, subst, arith}
use Rattle.std.proofs.lemmas.Bool.{lt-ltb, or_left, or_right, or_parts, or_cases, and_parts, eqb-false, not-true, false≢true}
use Rattle.std.specs.Set.{is_member}
use Rattle.op_quorum.specs.Quorums.{is_majority, passing}
use Rattle.op_types.specs.Limits.{greatest_number}
use Rattle.op_types.specs.Ballots.{greater}
use Rattle.op_types.specs.declared.ballot.Ballot.{Ballot}
use Rattle.op_types.specs.declared.durable.Part.{Part}
use Rattle.op_protocol.specs.State.{Volatile}
use Rattle.op_protocol.specs.Heartbeats.{is_other}
use Rattle.op_runs.specs.World.{World, Node, node_at}
use Rattle.op_gen.specs.Links.{Links}
use Rattle.op_lockstep.specs.Lockstep.{after_events, ticks, round, after_round, lockstep}
use Rattle.op_lockstep.specs.Reach.{HasRoom, IsOneOf, AreReady, HearsAlone, ElectsItself, ElectsItselfAfter, RoundsReach}
use Rattle.op_lockstep.proofs.Lists.{Each, Each-map, Each-more, each_of_all, Distinct, rising_distinct}
use Rattle.op_lockstep.proofs.Ends.{Under, greater_under, tick_unheard, tick_own, tick_leader, tick_floor, Settled, Ahead, lonely, ahead_wins}
use Rattle.op_lockstep.proofs.Changes.{tick_promised, tick_covers}
use Rattle.op_lockstep.proofs.Seats.{Sits, AllSit, found_id}
use Rattle.op_lockstep.proofs.Ticking.{Unstopped, tick_part, tick_volatile, ticks_run}
use Rattle.op_lockstep.proofs.Counting.{told}
use Rattle.op_lockstep.proofs.Rounds.{after_append, KeepTogether, all_together, AreParts, parts_stay, linked_to, linked_others, round_volatile, round_run, hears_over}

distinct_front : (xs ys : List ℕ) → Distinct (xs ++ ys) → Distinct xs
distinct_front [] ys d = tt
distinct_front (x ∷ xs) ys d = (not_front xs d.0, distinct_front xs ys d.1)
  where
    not_front : (xs : List ℕ) → is_member nat_eq (xs ++ ys) x ≡ false → is_member nat_eq xs x ≡ false
    not_front [] h = refl
    not_front (z ∷ zs) h = let k = or_parts (eqb x z) (is_member nat_eq (zs ++ ys) x) h in Rattle.std.proofs.lemmas.Bool.or_from (eqb x z) (is_member nat_eq zs x) k.0 (not_front zs k.1)

front_member : (xs ys : List ℕ) (q : ℕ) → is_member nat_eq xs q ≡ true → is_member nat_eq (xs ++ ys) q ≡ true
front_member [] ys q h = absurd (false≢true h)
front_member (x ∷ xs) ys q h =
    ⊎_elim (λ e. or_left (eqb q x) (is_member nat_eq (xs ++ ys) q) e) (λ m. or_right (eqb q x) (is_member nat_eq (xs ++ ys) q) (front_member xs ys q m)) (or_cases (eqb q x) (is_member nat_eq xs q) h)

-- ---- ticks that end a round
elects_itself : (o : Option Node) (p : ℕ) (a : Part) (v : Volatile) → Sits o p a v → Settled v → ElectsItself o
elects_itself o p a v s settled =
    subst ElectsItself (sym s.at) (ap (λ (u : Volatile). u.leader) s.volatile ∙ settled ∙ ap (λ (u : Volatile). u.own) (sym s.volatile))

settles : (members : List ℕ) → Distinct members → (w : World) (a : ℕ → Part) (v : ℕ → Volatile) → ((q : ℕ) → IsOneOf members q → Unstopped q (a q)) → AllSit w a v members → (p : ℕ) → Settled (tick_volatile a v p)
    → (some rest : List ℕ) → members ≡ some ++ rest → IsOneOf some p → ElectsItself (node_at (after_events w (ticks some)).nodes p)
settles members d w a v un sit p settled some rest is m =
    let t = ticks_run a v some (distinct_front some rest (subst Distinct is d)) w (λ q k. un q (ap (λ (l : List ℕ). is_member nat_eq l q) is ∙ front_member some rest q k)) (λ q k. sit q (ap (λ (l : List ℕ). is_member nat_eq l q) is ∙ front_member some rest q k)) in
    elects_itself (node_at (after_events w (ticks some)).nodes p) p (tick_part a v p) (tick_volatile a v p) (t.sit p m) settled

-- ---- rounds
after_none : (members : List ℕ) (links : Links) (w : World) → after_events w (lockstep members links 0 w) ≡ w
unfolding lockstep
after_none members links w = refl

after_lockstep : (members : List ℕ) (links : Links) (k : ℕ) (w : World) → after_events w (lockstep members links (suc k) w) ≡ after_events (after_round members links w) (lockstep members links k (after_round members links w))
unfolding lockstep
after_lockstep members links k w = after_append w (round members links w) (lockstep members links k (after_round members links w))

module _ (conf : ℕ) (members : List ℕ) (distinct : Distinct members) (links : Links) (p : ℕ) (hears : HearsAlone members links p) where
  together : KeepTogether members links members
  together = all_together members distinct links

  abbrev now : (ℕ → Part) → (ℕ → Volatile) → ℕ → Volatile
  now = round_volatile conf members links members together

  -- the others heard no majority in the round of before, so nobody that the member hears contradicts it
  quiet : (a : ℕ → Part) (v : ℕ → Volatile) → AreParts conf members links members together a
      → let b : ℕ → Part = tick_part a v in let u : ℕ → Volatile = now a v in
      Each (λ h. h.flag ≡ false) (now b u p).heard
  quiet a v parts =
      let b : ℕ → Part = tick_part a v in
      let u : ℕ → Volatile = now a v in
      Each-map (λ h. h.flag ≡ false) (λ q. is_other p members q ≡ true) (told (tick_volatile b u))
      (λ q o. let k = and_parts _ _ o in
      tick_unheard q (b q) (u q) (hears_over conf members links members together a v parts q k.1 ∙ (hears).alone q k.1 (eqb-false q p (not-true _ k.0))))
      (linked_to conf members links members together p) (linked_others conf members links members together p)

  -- all ballots that a member knows are under a number
  record AreUnder (n : ℕ) (a : Part) (v : Volatile) : Type 0 where
    own : Under n v.own
    leader : Under n v.leader
    floor : Under n v.floor
    promised : Under n a.promised
    heard : Each (λ h. Under n h.ballot) v.heard

  more : (n : ℕ) (b : Ballot) → Under n b → Under (suc n) b
  more n b h = omega arith

  -- after one round and a tick, the leader's ballot and where elections begin have room
  room : (n : ℕ) (a : ℕ → Part) (v : ℕ → Volatile) → AreParts conf members links members together a → ((q : ℕ) → IsOneOf members q → AreUnder n (a q) (v q))
      → let b : ℕ → Part = tick_part a v in let u : ℕ → Volatile = now a v in
      Under (suc n) (greater (tick_volatile b u p).leader (tick_volatile b u p).floor)
  room n a v parts k =
      let b : ℕ → Part = tick_part a v in
      let u : ℕ → Volatile = now a v in
      let x = k p (hears).member in
      let leader1 : Under n (u p).leader = tick_leader p (a p) (v p) n x.own x.leader x.heard in
      let floor1 : Under n (u p).floor = tick_floor p (a p) (v p) n x.floor x.promised in
      let promised1 : Under n (b p).promised = tick_promised n p (a p) (v p) x.promised x.own x.heard in
      let own1 : (q : ℕ) → IsOneOf members q → Under (suc n) (u q).own = λ q m. let y = k q m in tick_own q (a q) (v q) n (more n (v q).own y.own) y.leader y.floor in
      let heard1 : Each (λ h. Under (suc n) h.ballot) (u p).heard =
      Each-map (λ h. Under (suc n) h.ballot) (λ q. is_other p members q ≡ true) (told (tick_volatile a v)) (λ q o. own1 q (and_parts _ _ o).1) (linked_to conf members links members together p) (linked_others conf members links members together p) in
      greater_under (suc n) (tick_volatile b u p).leader (tick_volatile b u p).floor
      (tick_leader p (b p) (u p) (suc n) (own1 p (hears).member) (more n (u p).leader leader1) heard1)
      (more n (tick_volatile b u p).floor (tick_floor p (b p) (u p) n floor1 promised1))

  reach : (n : ℕ) → suc n ≡ greatest_number → (w : World) (a : ℕ → Part) (v : ℕ → Volatile) → AllSit w a v members → AreParts conf members links members together a → ((q : ℕ) → IsOneOf members q → AreUnder n (a q) (v q))
      → ElectsItselfAfter members links w p 2 ⊎ ElectsItselfAfter members links w p 3
  reach n top w a0 v0 sit0 parts0 under =
      let a1 : ℕ → Part = tick_part a0 v0 in
      let v1 : ℕ → Volatile = now a0 v0 in
      let a2 : ℕ → Part = tick_part a1 v1 in
      let v2 : ℕ → Volatile = now a1 v1 in
      let a3 : ℕ → Part = tick_part a2 v2 in
      let v3 : ℕ → Volatile = now a2 v2 in
      let w1 : World = after_round members links w in
      let w2 : World = after_round members links w1 in
      let w3 : World = after_round members links w2 in
      let parts1 = parts_stay conf members links members together a0 v0 parts0 in
      let parts2 = parts_stay conf members links members together a1 v1 parts1 in
      let parts3 = parts_stay conf members links members together a2 v2 parts2 in
      let sit1 : AllSit w1 a1 v1 members = round_run conf members links members together a0 v0 parts0 w sit0 in
      let sit2 : AllSit w2 a2 v2 members = round_run conf members links members together a1 v1 parts1 w1 sit1 in
      let sit3 : AllSit w3 a3 v3 members = round_run conf members links members together a2 v2 parts2 w2 sit2 in
      let after2 : after_events w (lockstep members links 2 w) ≡ w2 = after_lockstep members links 1 w ∙ after_lockstep members links 0 w1 ∙ after_none members links w2 in
      let after3 : after_events w (lockstep members links 3 w) ≡ w3 = after_lockstep members links 2 w ∙ after_lockstep members links 1 w1 ∙ after_lockstep members links 0 w2 ∙ after_none members links w3 in
      let majority2 = hears_over conf members links members together a1 v1 parts1 p (hears).member ∙ (hears).hears in
      let majority3 = hears_over conf members links members together a2 v2 parts2 p (hears).member ∙ (hears).hears in
      let fits : ltb (greater (v2 p).leader (v2 p).floor).number greatest_number ≡ true = lt-ltb (greater (v2 p).leader (v2 p).floor).number greatest_number (subst (λ (k : ℕ). (greater (v2 p).leader (v2 p).floor).number < k) top (room n a0 v0 parts0 under)) in
      ⊎_elim
      (λ (settled : Settled (tick_volatile a2 v2 p)). inl (λ some rest is m. subst (λ (t : World). ElectsItself (node_at (after_events t (ticks some)).nodes p)) (sym after2) (settles members distinct w2 a2 v2 parts2.unstopped sit2 p settled some rest is m)))
      (λ (ahead : Ahead (tick_volatile a2 v2 p)). inr (λ some rest is m. subst (λ (t : World). ElectsItself (node_at (after_events t (ticks some)).nodes p)) (sym after3)
      (settles members distinct w3 a3 v3 parts3.unstopped sit3 p (ahead_wins p (a3 p) (v3 p) majority3 (quiet a1 v1 parts1) ahead) some rest is m)))
      (lonely p (a2 p) (v2 p) majority2 (quiet a0 v0 parts0) (tick_covers p (a1 p) (v1 p)) fits)

-- ---- from worlds in which all members are ready
module _ (conf : ℕ) (members : List ℕ) (distinct : Distinct members) (links : Links) (w : World) (p : ℕ) (ready : AreReady conf members w) (hears : HearsAlone members links p) where
  -- what a member stores and knows; one that is none is taken for p
  pick_part : (q : ℕ) (b : Bool) → is_member nat_eq members q ≡ b → Part
  pick_part q true e = (ready q e).part
  pick_part q false e = (ready p (hears).member).part

  pick_volatile : (q : ℕ) (b : Bool) → is_member nat_eq members q ≡ b → Volatile
  pick_volatile q true e = (ready q e).node.state.volatile
  pick_volatile q false e = (ready p (hears).member).node.state.volatile

  -- what is known of a member
  record IsKnown (n q : ℕ) (a : Part) (v : Volatile) : Type 0 where
    sits : Sits (node_at w.nodes q) q a v
    conf_is : a.conf ≡ conf
    members_are : a.members ≡ members
    unstopped : Unstopped q a
    under : AreUnder conf members distinct links p hears n a v

  has_room : (n : ℕ) → suc n ≡ greatest_number → (b : Ballot) → HasRoom b → Under n b
  has_room n top b h = omega arith

  known : (n : ℕ) → suc n ≡ greatest_number → (q : ℕ) (b : Bool) (e : is_member nat_eq members q ≡ b) → b ≡ true → IsKnown n q (pick_part q b e) (pick_volatile q b e)
  unfolding pick_part pick_volatile
  known n top q true e t =
      let r = ready q e in
      let k = r.room in
      let u : Volatile = r.node.state.volatile in
      record {
        sits = record { node = r.node; at = r.at; pid = found_id w.nodes q r.node r.at; up = r.up; part = r.has; stays = r.stays; volatile = refl };
        conf_is = r.conf_is;
        members_are = r.members_are;
        unstopped = λ alone. r.unstopped (ap (λ (ms : List ℕ). is_majority (passing (λ x. x == q) ms) (length ms)) (sym r.members_are) ∙ alone);
        under = record {
          own = has_room n top u.own k.own;
          leader = has_room n top u.leader k.leader;
          floor = has_room n top u.floor k.floor;
          promised = has_room n top r.part.promised k.promised;
          heard = Each-more (λ h. HasRoom h.ballot) (λ h. Under n h.ballot) (λ h x. has_room n top h.ballot x) u.heard (each_of_all (λ h. HasRoom h.ballot) u.heard k.heard);
        };
      }
  known n top q false e t = absurd (false≢true t)

  ready_reach : (n : ℕ) → suc n ≡ greatest_number → ElectsItselfAfter members links w p 2 ⊎ ElectsItselfAfter members links w p 3
  ready_reach n top =
      let a : ℕ → Part = λ q. pick_part q (is_member nat_eq members q) refl in
      let v : ℕ → Volatile = λ q. pick_volatile q (is_member nat_eq members q) refl in
      let k : (q : ℕ) → IsOneOf members q → IsKnown n q (a q) (v q) = λ q m. known n top q (is_member nat_eq members q) refl m in
      reach conf members distinct links p hears n top w a v (λ q m. (k q m).sits) (record { conf_is = λ q m. (k q m).conf_is; members_are = λ q m. (k q m).members_are; unstopped = λ q m. (k q m).unstopped }) (λ q m. (k q m).under)

-- three rounds reach what is promised of them
pub rounds_reach : RoundsReach
rounds_reach conf members range links w p ready hears =
    ready_reach conf members (rising_distinct 0 members (range).rising) links w p ready hears (greatest_number - 1) refl
