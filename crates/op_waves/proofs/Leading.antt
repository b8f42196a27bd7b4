-- In a full round behind those after which a majority agrees, each of them is asked for its promise, and each answer comes to the owner.
use Rattle.std.proofs.Common.{◌≡◌, ◌≤◌, ◌-◌, ◌⊎◌, inl, inr, ⊎_elim, not, ℕ, zero, suc, Bool, true, false, eqb, nat_eq, List, [], ◌∷◌, ◌++◌, length, map, flat_map, drop, Some, None, Option, refl, sym, ap, ◌∙◌, subst, append-nil, append_assoc, arith}
use Rattle.std.proofs.lemmas.Bool.{eqb-true, eqb-false, ne_eqb, or_cases, false≢true}
use Rattle.std.proofs.lemmas.List.{map-append}
use Rattle.std.proofs.lemmas.List.Elements.{All-nil, All-cons, All-append, All-map}
use Rattle.std.specs.Set.{is_member}
use Rattle.op_types.specs.Ballots.{is_below}
use Rattle.op_types.specs.Roles as role
use Rattle.op_types.specs.Roles.{Role}
use Rattle.op_types.specs.declared.ballot.Ballot.{Ballot}
use Rattle.op_types.specs.declared.durable.Part.{Part}
use Rattle.op_protocol.specs.Parts.{others}
use Rattle.op_runs.specs.declared.events.What.TheVariants as what
use Rattle.op_runs.specs.declared.events.Event.{Event}
use Rattle.op_runs.specs.World.{World, Node, Happening, node_at, first_world, world_after, run_of, done_event, all_done}
use Rattle.op_gen.specs.Links.{Links, all_links}
use Rattle.op_laws.specs.Runs.{RunInRange}
use Rattle.op_laws.proofs.Reached.{front_in_range}
use Rattle.op_lockstep.specs.Lockstep.{event_of, ticks, numbers_of, asking, answering, asked, ticked, is_linked_request, is_sent_reply, round}
use Rattle.op_lockstep.specs.Reach.{IsOneOf, IsNoStop, ProposeNoStop}
use Rattle.op_lockstep.proofs.Lists.{Distinct, rising_distinct, by_test}
use Rattle.op_lockstep.proofs.Reached.{IsFirst, IfFirst, IsCleanNode}
use Rattle.op_lockstep.proofs.Seats.{found_of}
use Rattle.op_progress.specs.Progress.{HearOneAnother, AllComeBehind, heartbeats, IsFreeRound, AreFreeRounds, PrepareComes, ComesBy, IsPromised, IsPromisedAt, IsPromisedUpTo, Follows, StandsFor, PreparesOrLeads, HasPromise, HasPromiseAt, LeadsBallot, AgreeOn, AgreeEverAfter}
use Rattle.op_progress.specs.Deciding.{so_far}
use Rattle.op_progress.specs.Trimmed.{StoresThere}
use Rattle.op_progress.proofs.Rows.{RoleIn, only}
use Rattle.op_progress.proofs.Orders.{AtMost}
use Rattle.op_progress.proofs.Behind.{part_or, part_of, memory_of, Standing, HoldsIn}
use Rattle.op_progress.proofs.Keeping.{keeping, keeping_kept, has_promise}
use Rattle.op_progress.proofs.Groups.{member_filter}
use Rattle.op_progress.proofs.Settling.{Goes, goes_on, Agreed, agree_ever, agreed}
use Rattle.op_progress.proofs.Whole.{all_hear}
use Rattle.op_progress.proofs.Trimmed.{prepares_are_taken}
use Rattle.op_waves.specs.Waves.{session, sessions, pairs, full_round}
use Rattle.op_waves.specs.Leading.{with_session, SessionsPromise, with_full_round, LeadsAll, MajoritiesLead, AllLead}
use Rattle.op_waves.proofs.Growing.{run_append, behind_append, session_comes, sessions_come}
use Rattle.op_waves.proofs.Logs.{log_fits, decided_fits, decided_reaches, usable, may_adopt}
use Rattle.op_waves.proofs.Parts.{promised_at, stays_kept}
use Rattle.op_waves.proofs.Session.{asked_in, kept_in}

-- ---- rounds one after the other
module _ (group : List ℕ) (links : Links) where
  rounds_more : (n : ℕ) (w : World) (hs more : List Happening) → AreFreeRounds group links n w hs → IsFreeRound group links (run_of w hs) more → AreFreeRounds group links (suc n) w (hs ++ more)
  rounds_more zero w hs more rs r = (more, [], ap (λ (l : List Happening). l ++ more) rs ∙ sym (append-nil more), subst (λ (l : List Happening). IsFreeRound group links (run_of w l) more) rs r, refl)
  rounds_more (suc n) w hs more rs r = (
    rs.0,
    rs.1 ++ more,
    ap (λ (l : List Happening). l ++ more) rs.2 ∙ append_assoc rs.0 rs.1 more,
    rs.3,
    rounds_more n (run_of w rs.0) rs.1 more rs.4 (subst (λ (v : World). IsFreeRound group links v more) (ap (run_of w) rs.2 ∙ run_append w rs.0 rs.1) r),
  )

  rounds_append : (i n : ℕ) (w : World) (hs more : List Happening) → AreFreeRounds group links n w hs → AreFreeRounds group links i (run_of w hs) more → (m : ℕ) × AreFreeRounds group links m w (hs ++ more)
  rounds_append zero n w hs more rs r = (n, subst (AreFreeRounds group links n w) (sym (ap (λ (l : List Happening). hs ++ l) r ∙ append-nil hs)) rs)
  rounds_append (suc i) n w hs more rs r =
      let first : List Happening = r.0 in
      let x = rounds_append i (suc n) w (hs ++ first) r.1 (rounds_more n w hs first rs r.3) (subst (λ (v : World). AreFreeRounds group links i v r.1) (sym (run_append w hs first)) r.4) in
      (x.0, subst (AreFreeRounds group links x.0 w) (append_assoc hs first r.1 ∙ ap (λ (l : List Happening). hs ++ l) (sym r.2)) x.1)

  -- ---- no stop-sign is proposed
  quiet_append : (xs ys : List Happening) → ProposeNoStop xs → ProposeNoStop ys → ProposeNoStop (xs ++ ys)
  quiet_append xs ys a b = All-append (λ (h : Happening). IsNoStop h.event.what) xs ys a b

  round_quiet : (w : World) → ProposeNoStop (heartbeats group links w)
  round_quiet w =
      let P : Event → Type 0 = λ (e : Event). IsNoStop e.what in
      let tick : ℕ → Event = λ (p : ℕ). event_of (what.Tick p) in
      let deliver : ℕ → Event = λ (i : ℕ). event_of (what.Deliver i) in
      All-map (λ (h : Happening). IsNoStop h.event.what) done_event (round group links w)
      (All-append P (ticks group ++ asking group links w) (answering group links w)
      (All-append P (ticks group) (asking group links w) (All-map P tick group (λ k d l. tt)) (All-map P deliver (numbers_of (is_linked_request links) (length w.messages) (drop (length w.messages) (ticked group w).messages)) (λ k d l. tt)))
      (All-map P deliver (numbers_of is_sent_reply (length (ticked group w).messages) (drop (length (ticked group w).messages) (asked group links w).messages)) (λ k d l. tt)))

  behind_quiet : (hs : List Happening) (w : World) → AllComeBehind group links w hs → ProposeNoStop hs
  behind_quiet [] w a = All-nil (λ (h : Happening). IsNoStop h.event.what)
  behind_quiet (h ∷ hs) w a = All-cons (λ (x : Happening). IsNoStop x.event.what) h hs (a.0).0 (behind_quiet hs (world_after w h) a.1)

  rounds_quiet : (n : ℕ) (w : World) (hs : List Happening) → AreFreeRounds group links n w hs → ProposeNoStop hs
  rounds_quiet zero w hs rs = subst ProposeNoStop (sym rs) (All-nil (λ (h : Happening). IsNoStop h.event.what))
  rounds_quiet (suc n) w hs rs =
      let r = rs.3 in
      subst ProposeNoStop (sym rs.2)
      (quiet_append rs.0 rs.1 (subst ProposeNoStop (sym r.is) (quiet_append (heartbeats group links w) r.behind (round_quiet w) (behind_quiet r.behind (run_of w (heartbeats group links w)) r.may_come))) (rounds_quiet n (run_of w rs.0) rs.1 rs.4))

-- ---- what comes in a part of a list comes in the list
comes_left : (P : World → Happening → Type 0) (xs ys : List Happening) (w : World) → ComesBy P w xs → ComesBy P w (xs ++ ys)
comes_left P [] ys w c = absurd c
comes_left P (h ∷ xs) ys w (inl c) = inl c
comes_left P (h ∷ xs) ys w (inr c) = inr (comes_left P xs ys (world_after w h) c)

comes_right : (P : World → Happening → Type 0) (xs ys : List Happening) (w : World) → ComesBy P (run_of w xs) ys → ComesBy P w (xs ++ ys)
comes_right P [] ys w c = c
comes_right P (h ∷ xs) ys w c = inr (comes_right P xs ys (world_after w h) c)

-- ---- pairs
-- this pair is one of these
abbrev Has : List (ℕ × ℕ) → ℕ × ℕ → Type 0
Has [] l = ⊥
Has (x ∷ ls) l = (x ≡ l) ⊎ Has ls l

has_left : (xs ys : List (ℕ × ℕ)) (l : ℕ × ℕ) → Has xs l → Has (xs ++ ys) l
has_left [] ys l h = absurd h
has_left (x ∷ xs) ys l (inl e) = inl e
has_left (x ∷ xs) ys l (inr h) = inr (has_left xs ys l h)

has_right : (xs ys : List (ℕ × ℕ)) (l : ℕ × ℕ) → Has ys l → Has (xs ++ ys) l
has_right [] ys l h = h
has_right (x ∷ xs) ys l h = inr (has_right xs ys l h)

has_map : (p : ℕ) (xs : List ℕ) (r : ℕ) → is_member nat_eq xs r ≡ true → Has (map (λ x. (p, x)) xs) (p, r)
has_map p [] r m = absurd (false≢true m)
has_map p (x ∷ xs) r m = ⊎_elim (λ (e : eqb r x ≡ true). inl (ap (λ (y : ℕ). (p, y)) (sym (eqb-true r x e)))) (λ (k : is_member nat_eq xs r ≡ true). inr (has_map p xs r k)) (or_cases (eqb r x) (is_member nat_eq xs r) m)

has_flat : (f : ℕ → List (ℕ × ℕ)) (ps : List ℕ) (p : ℕ) (l : ℕ × ℕ) → is_member nat_eq ps p ≡ true → Has (f p) l → Has (flat_map f ps) l
has_flat f [] p l m h = absurd (false≢true m)
has_flat f (x ∷ ps) p l m h =
    ⊎_elim (λ (e : eqb p x ≡ true). has_left (f x) (flat_map f ps) l (subst (λ (y : ℕ). Has (f y) l) (eqb-true p x e) h)) (λ (k : is_member nat_eq ps p ≡ true). has_right (f x) (flat_map f ps) l (has_flat f ps p l k h))
    (or_cases (eqb p x) (is_member nat_eq ps p) m)

has_pair : (group : List ℕ) (p r : ℕ) → IsOneOf group p → IsOneOf group r → (p ≡ r → ⊥) → Has (pairs group) (p, r)
has_pair group p r m k other = has_flat (λ x. map (λ y. (x, y)) (others x group)) group p (p, r) m (has_map p (others p group) r (member_filter (λ y. not (eqb y p)) group r k (ap not (ne_eqb r p (λ e. other (sym e))))))

-- ---- what holds of who agrees
role_of : (b : Ballot) (r : Role) → PreparesOrLeads b r → RoleIn (only b) r
role_of b role.Idle k = k
role_of b (role.Preparing r) k = k
role_of b (role.Leading l) k = k

promised_of : (b : Ballot) (o : Option Node) → StandsFor b o → IsPromisedAt b o
promised_of b None k = k
promised_of b (Some n) k = k.1

-- a member's part
module _ (members : List ℕ) (links : Links) (group : List ℕ) (hear : HearOneAnother members links group) where
  first_at : (w : World) (k : Standing members links group hear w) (q : ℕ) (m : IsOneOf group q) → IsFirst members ((k.up q m).part)
  first_at w k q m = subst (IfFirst members) (k.up q m).has ((found_of (IsCleanNode members) w.nodes q (k.up q m).node (k.up q m).at ((k.sound).clean).nodes).stored).part

-- ---- in a full round
module _ (members spares : List ℕ) (distinct : Distinct members) (links : Links) (group : List ℕ) (hear : HearOneAnother members links group) (early : List Happening) (quiet : ProposeNoStop early) (a : Agreed members distinct links group hear (run_of (first_world members spares) early)) (count : ℕ) (rounds : List Happening) (are : AreFreeRounds group links count (run_of (first_world members spares) early) rounds) (more : ℕ) where
  abbrev start : World
  start = run_of (first_world members spares) early

  abbrev s : ℕ
  s = (a).leader

  abbrev b : Ballot
  b = (a).ballot

  abbrev agreement : AgreeEverAfter links group start
  agreement = agree_ever members distinct links group hear start a

  is_s : IsOneOf group s
  is_s = ((a).settled).is_one

  abbrev before : List Happening
  before = early ++ rounds

  -- the world in which the round begins, and that behind its heartbeats
  abbrev u : World
  u = run_of start rounds

  abbrev hb : List Happening
  hb = heartbeats group links u

  abbrev z : World
  z = run_of u hb

  abbrev waves_each : ℕ
  waves_each = suc (suc (suc more))

  abbrev all_sessions : List (ℕ × ℕ) → World → List Happening
  all_sessions ls w = all_done (sessions links waves_each ls w)

  abbrev full : List Happening
  full = all_done (full_round group links waves_each u)

  begins : run_of (first_world members spares) before ≡ u
  begins = run_append (first_world members spares) early rounds

  there : (front : List Happening) → run_of (first_world members spares) (before ++ (hb ++ front)) ≡ run_of z front
  there front = run_append (first_world members spares) before (hb ++ front) ∙ ap (λ (v : World). run_of v (hb ++ front)) begins ∙ run_append u hb front

  -- so far it is a round
  module _ (front : List Happening) (may : AllComeBehind group links z front) where
    rounds_so_far : AreFreeRounds group links (suc count) start (rounds ++ (hb ++ front))
    rounds_so_far = rounds_more group links count start rounds (hb ++ front) are (record { behind = front; is = refl; may_come = may })

    world_is : run_of start (rounds ++ (hb ++ front)) ≡ run_of z front
    world_is = run_append start rounds (hb ++ front) ∙ run_append u hb front

    stands_here : Standing members links group hear (run_of z front)
    stands_here =
        subst (Standing members links group hear) world_is
        ((goes_on members distinct links group hear s b (suc count) (rounds ++ (hb ++ front)) start (a).settled (a).followed rounds_so_far).settled).stands

    agree_here : AgreeOn group s b (run_of z front)
    agree_here = subst (AgreeOn group s b) world_is ((agreement).agree (suc count) (rounds ++ (hb ++ front)) rounds_so_far)

    quiet_here : ProposeNoStop (before ++ (hb ++ front))
    quiet_here =
        quiet_append group links before (hb ++ front) (quiet_append group links early rounds quiet (rounds_quiet group links count start rounds are))
        (quiet_append group links hb front (round_quiet group links u) (behind_quiet group links front z may))

    head_here : RoleIn (only b) ((((stands_here).up s is_s).node).state.volatile).role
    head_here = role_of b _ (subst (StandsFor b) ((stands_here).up s is_s).at (agree_here).stands).2

    low_here : (q : ℕ) (m : IsOneOf group q) → is_below b (((stands_here).up q m).part).promised ≡ false
    low_here q m = let k = (stands_here).up q m in subst (IsPromisedUpTo b) k.has (subst (Follows b) k.at ((agree_here).follow q m)).2

    all_low : HoldsIn members links group hear (λ x. AtMost x b) (run_of z front)
    all_low =
        subst (HoldsIn members links group hear (λ x. AtMost x b)) world_is
        ((goes_on members distinct links group hear s b (suc count) (rounds ++ (hb ++ front)) start (a).settled (a).followed rounds_so_far).settled).low

    promised_here : promised_at members links group hear s s is_s b (run_of z front) ≡ b
    promised_here =
        let k = (stands_here).up s is_s in
        ap (λ (o : Option Node). (part_of o).promised) k.at ∙ ap (λ (o : Option Part). (part_or o).promised) k.has ∙ subst (IsPromised b) k.has (subst (StandsFor b) k.at (agree_here).stands).1

    stores_here : (q : ℕ) (m : IsOneOf group q) → StoresThere (run_of (first_world members spares) (before ++ (hb ++ front))) q (((stands_here).up q m).part)
    stores_here q m = let k = (stands_here).up q m in record { node = k.node; at = ap (λ (v : World). node_at v.nodes q) (there front) ∙ k.at; has = k.has }

  module _ (all : List Happening) (range : RunInRange members spares all) (q : ℕ) (is_q : IsOneOf group q) (other : q ≡ s → ⊥) where
    abbrev Asks : World → Happening → Type 0
    Asks v h = PrepareComes b s q v h

    -- its promise is kept
    abbrev Kept : World → Type 0
    Kept v = RoleIn (keeping q b) (memory_of (node_at v.nodes s)).role

    -- one session of q with s, behind these
    here : (front rest : List Happening) (may : AllComeBehind group links z front) → all ≡ (before ++ (hb ++ front)) ++ rest
        → ComesBy Asks (run_of z front) (all_done (session links waves_each (q, s) (run_of z front))) × Kept (run_of (run_of z front) (all_done (session links waves_each (q, s) (run_of z front))))
    here front rest may is =
        let k = stands_here front may in
        let w : World = run_of z front in
        let so_far : List Happening = before ++ (hb ++ front) in
        let range_here : RunInRange members spares so_far = front_in_range members spares so_far rest (subst (RunInRange members spares) is range) in
        let x : Part = (k.up s is_s).part in
        let y : Part = (k.up q is_q).part in
        let at_s = stores_here front may s is_s in
        let at_q = stores_here front may q is_q in
        let has = prepares_are_taken members spares so_far range_here (quiet_here front may) s q ((hear).all_members s is_s) x y at_s at_q b in
        let conf_x : x.conf ≡ 1 = (first_at members links group hear w k s is_s).conf_is in
        let conf_y : y.conf ≡ 1 = (first_at members links group hear w k q is_q).conf_is in
        let short_x = log_fits members spares so_far range_here s x at_s conf_x in
        let short_y = log_fits members spares so_far range_here q y at_q conf_y in
        let within = decided_fits members spares so_far range_here s x at_s conf_x in
        let reach = decided_reaches members spares so_far range_here s q x y at_s at_q conf_x conf_y in (
          asked_in members links group hear w k s q is_s is_q other b more (head_here front may) (low_here front may q is_q) has,
          kept_in members links group hear w k s q is_s is_q other b more (head_here front may) (low_here front may q is_q) has (all_low front may) (promised_here front may) (may_adopt x y q conf_x short_x short_y within has reach) short_y
              (λ es ends. usable x y q conf_x short_x short_y within has reach es (λ _. ends)),
        )

    -- and among all sessions
    among : (ls : List (ℕ × ℕ)) → Has ls (q, s) → (front : List Happening) (may : AllComeBehind group links z front) → all ≡ (before ++ (hb ++ front)) ++ all_sessions ls (run_of z front)
        → ComesBy Asks (run_of z front) (all_sessions ls (run_of z front)) × Kept (run_of (run_of z front) (all_sessions ls (run_of z front)))
    among [] h front may is = absurd h
    among (l ∷ ls) h front may is =
        let w : World = run_of z front in
        let es : List Event = session links waves_each l w in
        let one : List Happening = all_done es in
        let v : World = run_of w one in
        let rest : List Happening = all_sessions ls v in
        let parted : all_sessions (l ∷ ls) w ≡ one ++ rest = map-append done_event es (sessions links waves_each ls v) in
        let all_is : all ≡ (before ++ (hb ++ front)) ++ (one ++ rest) = is ∙ ap (λ (x : List Happening). (before ++ (hb ++ front)) ++ x) parted in
        let next : List Happening = front ++ one in
        let v_is : run_of z next ≡ v = run_append z front one in
        let may_next : AllComeBehind group links z next = behind_append group links front one z may (session_comes group links waves_each l w) in
        by_place w one rest parted h
        (λ e. let c = here front (one ++ rest) may all_is in
        let kept : Kept v = subst (λ (x : ℕ × ℕ). Kept (run_of w (all_done (session links waves_each x w)))) (sym e) c.1 in (
          comes_left Asks one rest w (subst (λ (x : ℕ × ℕ). ComesBy Asks w (all_done (session links waves_each x w))) (sym e) c.0),
          subst (λ (t : World). Kept t) (sym (run_append w one rest))
              (stays_kept members links group hear s q is_s b v (subst (Standing members links group hear) v_is (stands_here next may_next)) rest (sessions_come group links waves_each ls v)
              (subst (HoldsIn members links group hear (λ x. AtMost x b)) v_is (all_low next may_next)) (subst (λ (t : World). promised_at members links group hear s q is_s b t ≡ b) v_is (promised_here next may_next)) kept),
        ))
        (λ later. let so_far : before ++ (hb ++ next) ≡ (before ++ (hb ++ front)) ++ one = ap (λ (x : List Happening). before ++ x) (sym (append_assoc hb front one)) ∙ sym (append_assoc before (hb ++ front) one) in
        let all_next : all ≡ (before ++ (hb ++ next)) ++ all_sessions ls (run_of z next) =
        all_is ∙ sym (append_assoc (before ++ (hb ++ front)) one rest) ∙ ap (λ (x : List Happening). x ++ rest) (sym so_far) ∙ ap (λ (t : World). (before ++ (hb ++ next)) ++ all_sessions ls t) (sym v_is) in
        let c = among ls later next may_next all_next in
        (comes_right Asks one rest w (subst (λ (t : World). ComesBy Asks t (all_sessions ls t)) v_is c.0), subst (λ (t : World). Kept t) (sym (run_append w one rest)) (subst (λ (t : World). Kept (run_of t (all_sessions ls t))) v_is c.1)))
      where
        by_place : (w : World) (one rest : List Happening) → all_sessions (l ∷ ls) w ≡ one ++ rest → (l ≡ (q, s)) ⊎ Has ls (q, s)
            → ((l ≡ (q, s)) → ComesBy Asks w (one ++ rest) × Kept (run_of w (one ++ rest))) → (Has ls (q, s) → ComesBy Asks w (one ++ rest) × Kept (run_of w (one ++ rest)))
            → ComesBy Asks w (all_sessions (l ∷ ls) w) × Kept (run_of w (all_sessions (l ∷ ls) w))
        by_place w one rest e h left right =
            let c = ⊎_elim left right h in (subst (ComesBy Asks w) (sym e) c.0, subst (λ (x : List Happening). Kept (run_of w x)) (sym e) c.1)

  -- ---- one session, behind what may come
  module _ (q : ℕ) (is_q : IsOneOf group q) (other : q ≡ s → ⊥) (front : List Happening) (may : AllComeBehind group links z front) where
    abbrev one : List Happening
    one = all_done (session links waves_each (q, s) (run_of z front))

    abbrev round_is : List Happening
    round_is = hb ++ (front ++ one)

    may_one : AllComeBehind group links z (front ++ one)
    may_one = behind_append group links front one z may (session_comes group links waves_each (q, s) (run_of z front))

    abbrev free_one : IsFreeRound group links u round_is
    free_one = record { behind = front ++ one; is = refl; may_come = may_one }

    module _ (range : RunInRange members spares (before ++ round_is)) (i : ℕ) (hs : List Happening) (rest : AreFreeRounds group links i (run_of u round_is) hs) where
      came : ComesBy (λ v h. PrepareComes b s q v h) (run_of z front) one × RoleIn (keeping q b) (memory_of (node_at (run_of (run_of z front) one).nodes s)).role
      came =
          here (before ++ round_is) range q is_q other front one may
          (ap (λ (x : List Happening). before ++ x) (sym (append_assoc hb front one)) ∙ sym (append_assoc before (hb ++ front) one))

      promised_one : IsPromisedAt b (node_at (run_of (run_of u round_is) hs).nodes q)
      promised_one = (agreement).promise q is_q count i rounds round_is hs are (record { round = free_one; comes = comes_right (λ v h. PrepareComes b s q v h) front one z (came).0 }) rest

      kept_one : HasPromiseAt b q (node_at (run_of (run_of u round_is) hs).nodes s)
      kept_one =
          let e : World = run_of u round_is in
          let here_is : run_of start (rounds ++ round_is) ≡ e = run_append start rounds round_is in
          let g : Goes members distinct links group hear s b start e = subst (Goes members distinct links group hear s b start) here_is (goes_on members distinct links group hear s b (suc count) (rounds ++ round_is) start (a).settled (a).followed (rounds_so_far (front ++ one) may_one)) in
          let t = goes_on members distinct links group hear s b i hs e g.settled g.followed rest in
          let kept : RoleIn (keeping q b) (memory_of (node_at e.nodes s)).role =
          subst (λ (v : World). RoleIn (keeping q b) (memory_of (node_at v.nodes s)).role) (sym (run_append u hb (front ++ one) ∙ run_append z front one)) (came).1 in
          let k = ((t.settled).stands).up s is_s in
          subst (HasPromiseAt b q) (sym k.at) (subst (λ (o : Option Node). HasPromise b q (memory_of o).role) k.at (has_promise b q _ (t.claims (keeping q b) (λ _. tt) (keeping_kept q b s members) kept)))

  -- ---- when it is over
  module _ (range : RunInRange members spares (before ++ full)) where
    abbrev behind : List Happening
    behind = all_sessions (pairs group) z

    full_is : full ≡ hb ++ behind
    full_is = map-append done_event (round group links u) (sessions links waves_each (pairs group) z)

    abbrev free : IsFreeRound group links u full
    free = record { behind = behind; is = full_is; may_come = sessions_come group links waves_each (pairs group) z }

    abbrev end : World
    end = run_of u full

    may_behind : AllComeBehind group links z behind
    may_behind = sessions_come group links waves_each (pairs group) z

    comes : (q : ℕ) → IsOneOf group q → (q ≡ s → ⊥) → ComesBy (λ v h. PrepareComes b s q v h) z behind × RoleIn (keeping q b) (memory_of (node_at (run_of z behind).nodes s)).role
    comes q m other =
        among (before ++ full) range q m other (pairs group) (has_pair group q s m is_s other) [] tt
        (ap (λ (x : List Happening). before ++ x) (full_is ∙ sym (append_assoc hb [] behind)) ∙ sym (append_assoc before (hb ++ []) behind))

    keeps : (q : ℕ) → IsOneOf group q → (q ≡ s → ⊥) → HasPromiseAt b q (node_at (end).nodes s)
    keeps q m other =
        let k = (stands_here behind may_behind).up s is_s in
        subst (λ (v : World). HasPromiseAt b q (node_at v.nodes s)) (sym (ap (run_of u) full_is ∙ run_append u hb behind))
        (subst (HasPromiseAt b q) (sym k.at) (subst (λ (o : Option Node). HasPromise b q (memory_of o).role) k.at (has_promise b q _ (comes q m other).1)))

    rounds_full : AreFreeRounds group links (suc count) start (rounds ++ full)
    rounds_full = rounds_more group links count start rounds full are free

    end_is : run_of start (rounds ++ full) ≡ end
    end_is = run_append start rounds full

    module _ (i : ℕ) (hs : List Happening) (rest : AreFreeRounds group links i end hs) where
      rest_then : AreFreeRounds group links i (run_of start (rounds ++ full)) hs
      rest_then = subst (λ (v : World). AreFreeRounds group links i v hs) (sym end_is) rest

      leads_then : LeadsBallot b (node_at (run_of end hs).nodes s)
      leads_then =
          subst (λ (v : World). LeadsBallot b (node_at (run_of v hs).nodes s)) end_is
          ((agreement).leads (suc count) i (rounds ++ full) hs rounds_full (λ q m other. subst (λ (v : World). HasPromiseAt b q (node_at v.nodes s)) (sym end_is) (keeps q m other)) rest_then)

      own_promise : IsPromisedAt b (node_at (run_of end hs).nodes s)
      own_promise =
          let x = rounds_append group links i (suc count) start (rounds ++ full) hs rounds_full rest_then in
          subst (λ (v : World). IsPromisedAt b (node_at v.nodes s)) (run_append start (rounds ++ full) hs ∙ ap (λ (v : World). run_of v hs) end_is)
          (promised_of b _ ((agreement).agree x.0 ((rounds ++ full) ++ hs) x.1).stands)

      promised_then : (q : ℕ) → IsOneOf group q → IsPromisedAt b (node_at (run_of end hs).nodes q)
      promised_then q m =
          by_test (eqb q s) (λ (t : Bool). eqb q s ≡ t → IsPromisedAt b (node_at (run_of end hs).nodes q))
          (λ _ e. subst (λ (x : ℕ). IsPromisedAt b (node_at (run_of end hs).nodes x)) (sym (eqb-true q s e)) own_promise)
          (λ _ e. (agreement).promise q m count i rounds full hs are (record { round = free; comes = (comes q m (eqb-false q s e)).0 }) rest) refl

      leads_all : LeadsAll group s b (run_of end hs)
      leads_all = record { leads = leads_then; promised = promised_then }

three : (k : ℕ) → 3 ≤ k → k ≡ suc (suc (suc (k - 3)))
three k enough = omega (arith, enough)

pub majorities_lead : MajoritiesLead
majorities_lead members spares range early quiet links group ups hear hs rs =
    let first : World = first_world members spares in
    let distinct : Distinct members = rising_distinct 0 members (range).rising in
    let e : List Happening = early ++ hs in
    let a : Agreed members distinct links group hear (run_of first e) = subst (Agreed members distinct links group hear) (sym (run_append first early hs)) (agreed members spares range early quiet links group ups hear hs rs) in
    let quiet_then : ProposeNoStop e = quiet_append group links early hs quiet (rounds_quiet group links 4 (run_of first early) hs rs) in
    record {
      agreement = agree_ever members distinct links group hear (run_of first e) a;
      lead = λ r in_range i later rest.
          let more : ℕ = r.waves - 3 in
          let count : ℕ = (r.before).count in
          let rounds : List Happening = (r.before).rounds in
          let u : World = run_of (run_of first e) rounds in
          let begins : run_of first (e ++ rounds) ≡ u = run_append first e rounds in
          let full : List Happening = all_done (full_round group links (suc (suc (suc more))) u) in
          let all : List Happening = with_full_round members spares links group e r in
          let all_is : all ≡ (e ++ rounds) ++ full = ap (λ (v : World). (e ++ rounds) ++ all_done (full_round group links r.waves v)) begins ∙ ap (λ (k : ℕ). (e ++ rounds) ++ all_done (full_round group links k u)) (three r.waves r.enough) in
          let world_is : run_of first all ≡ run_of u full = ap (run_of first) all_is ∙ run_append first (e ++ rounds) full ∙ ap (λ (v : World). run_of v full) begins in
          subst (LeadsAll group a.leader a.ballot) (sym (run_append first all later ∙ ap (λ (v : World). run_of v later) world_is))
          (leads_all members spares distinct links group hear e quiet_then a count rounds (r.before).are more (subst (RunInRange members spares) all_is in_range) i later (subst (λ (v : World). AreFreeRounds group links i v later) world_is rest));
    }

pub all_lead : AllLead
all_lead members spares range early quiet ups hs rounds = majorities_lead members spares range early quiet (all_links members) members ups (all_hear members range) hs rounds

pub sessions_promise : SessionsPromise
sessions_promise members spares range early quiet links group ups hear hs rs =
    let first : World = first_world members spares in
    let distinct : Distinct members = rising_distinct 0 members (range).rising in
    let e : List Happening = early ++ hs in
    let a : Agreed members distinct links group hear (run_of first e) = subst (Agreed members distinct links group hear) (sym (run_append first early hs)) (agreed members spares range early quiet links group ups hear hs rs) in
    let quiet_then : ProposeNoStop e = quiet_append group links early hs quiet (rounds_quiet group links 4 (run_of first early) hs rs) in
    record {
      agreement = agree_ever members distinct links group hear (run_of first e) a;
      promise = λ q m other r in_range i later rest.
          let more : ℕ = r.waves - 3 in
          let count : ℕ = (r.before).count in
          let rounds : List Happening = (r.before).rounds in
          let u : World = run_of (run_of first e) rounds in
          let front : List Happening = r.behind in
          let begins : run_of first (e ++ rounds) ≡ u = run_append first e rounds in
          let hb_is : heartbeats group links (run_of first (e ++ rounds)) ≡ heartbeats group links u = ap (heartbeats group links) begins in
          let z_is : run_of first (so_far members spares links group e r.before) ≡ run_of u (heartbeats group links u) =
          run_append first (e ++ rounds) (heartbeats group links (run_of first (e ++ rounds))) ∙ ap (λ (v : World). run_of v (heartbeats group links v)) begins in
          let may : AllComeBehind group links (run_of u (heartbeats group links u)) front = subst (λ (v : World). AllComeBehind group links v front) z_is r.may_come in
          let w : World = run_of (run_of u (heartbeats group links u)) front in
          let w_is : run_of first (so_far members spares links group e r.before ++ front) ≡ w = run_append first (so_far members spares links group e r.before) front ∙ ap (λ (v : World). run_of v front) z_is in
          let one : List Happening = all_done (session links (suc (suc (suc more))) (q, a.leader) w) in
          let all : List Happening = with_session members spares links group e q a.leader r in
          let before : List Happening = e ++ rounds in
          let whole : List Happening = heartbeats group links u ++ (front ++ one) in
          let all_is : all ≡ before ++ whole =
          ap (λ (k : ℕ). (so_far members spares links group e r.before ++ front) ++ all_done (session links k (q, a.leader) (run_of first (so_far members spares links group e r.before ++ front)))) (three r.waves r.enough)
          ∙ ap (λ (v : World). (so_far members spares links group e r.before ++ front) ++ all_done (session links (suc (suc (suc more))) (q, a.leader) v)) w_is
          ∙ ap (λ (x : List Happening). ((before ++ x) ++ front) ++ one) hb_is
          ∙ append_assoc (before ++ heartbeats group links u) front one ∙ append_assoc before (heartbeats group links u) (front ++ one) in
          let world_is : run_of first all ≡ run_of u whole = ap (run_of first) all_is ∙ run_append first before whole ∙ ap (λ (v : World). run_of v whole) begins in
          let range_here : RunInRange members spares (before ++ whole) = subst (RunInRange members spares) all_is in_range in
          let rest_here : AreFreeRounds group links i (run_of u whole) later = subst (λ (v : World). AreFreeRounds group links i v later) world_is rest in
          subst (λ (v : World). IsPromisedAt a.ballot (node_at v.nodes q) × HasPromiseAt a.ballot q (node_at v.nodes a.leader)) (sym (run_append first all later ∙ ap (λ (v : World). run_of v later) world_is)) (
            promised_one members spares distinct links group hear e quiet_then a count rounds (r.before).are more q m other front may range_here i later rest_here,
            kept_one members spares distinct links group hear e quiet_then a count rounds (r.before).are more q m other front may range_here i later rest_here,
          );
    }
