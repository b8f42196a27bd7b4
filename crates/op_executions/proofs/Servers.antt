-- The server of an id, at its place among the servers, and the servers once another one stands there.
use Rattle.std.proofs.Common.{◌≡◌, ℕ, Result, Ok, Err, zero, suc, Bool, true, false, eqb, nat_eq, ◌+◌, ◌<◌, List, [], ◌∷◌, ◌++◌, length, map, take, get_or, set, Some, All, refl, sym, ap, subst, ◌∙◌, arith, ⊎_elim}
use Rattle.std.proofs.lemmas.Bool.{cond_both, cond-true, cond-false, or_cases, eqb-true, eqb-false}
use Rattle.std.proofs.lemmas.List.{map-append, take_more}
use Rattle.std.proofs.lemmas.List.Elements.{All-nil, All-cons, All-head, All-tail, All-push}
use Rattle.std.specs.Prelude.{IfOk, OnOk}
use Rattle.std.specs.Set.{is_member}
use Rattle.op_types.specs.declared.messages.Msg.{Msg}
use Rattle.op_runs.specs.declared.summary.Line.{Line}
use Rattle.op_runs.specs.World as runs
use Rattle.op_runs.specs.World.{Votes, Observes, Node, Up, Doing}
use Rattle.op_runs.specs.Possible.{kind_if, kind_in}
use Rattle.op_runs.specs.Schedules.{Seated}
use Rattle.op_executions.specs.Servers.{Kind, ShowsNode, IsDoneAt, IsToldAt, first_as}
use Rattle.op_executions.specs.declared.server.Done.{Done}
use Rattle.op_executions.specs.Worlds.{ShowsSeated, ShowSeated, first_seated, place_of}
use Rattle.op_executions.proofs.Seated.{pids_in, seat_in, with_seat}

-- ---- a place

-- one of these is, unless it is the first, among the others
pub member_later : (ids : List ℕ) (id pid : ℕ) → eqb id pid ≡ false → is_member nat_eq (id ∷ ids) pid ≡ true → is_member nat_eq ids pid ≡ true
member_later ids id pid away h =
    ⊎_elim (λ (e : eqb pid id ≡ true). absurd (eqb-false id pid away (sym (eqb-true pid id e)))) (λ later. later) (or_cases (eqb pid id) (is_member nat_eq ids pid) h)

-- the place of one of these
pub place_there : (ids : List ℕ) (pid : ℕ) → is_member nat_eq ids pid ≡ true → place_of ids pid < length ids
place_there [] pid h = absurd (cc)
place_there (id ∷ ids) pid h =
    cond_both (eqb id pid) 0 (1 + place_of ids pid) (λ k. k < length (id ∷ ids)) (λ here. omega arith)
    (λ away. let later : place_of ids pid < length ids = place_there ids pid (member_later ids id pid away h) in omega (arith, later))

-- ---- a server at its start

-- it has its id
pub pid_as : (k : runs.Kind) (members : List ℕ) (pid : ℕ) → (first_as k members pid).pid ≡ pid
pid_as Votes members pid = refl
pid_as Observes members pid = refl

-- it is up
pub up_as : (k : runs.Kind) (members : List ℕ) (pid : ℕ) → (first_as k members pid).status ≡ Up
up_as Votes members pid = refl
up_as Observes members pid = refl

pub pid_first : (observers members : List ℕ) (pid : ℕ) → (first_seated members observers pid).node.pid ≡ pid
pid_first observers members pid = pid_as (kind_in observers pid) members pid

module _ {S F : Type 0} (K : Kind S F) where
  abbrev pub pids : List S → List ℕ
  pids servers = map K.pid_of servers

  -- ---- what is shown

  -- the servers that are shown have their ids
  pub pids_shown : (servers : List S) (seats : List Seated) → ShowSeated K servers seats → pids_in seats ≡ pids servers
  pids_shown [] [] s = refl
  pids_shown [] (x ∷ seats) s = absurd s
  pids_shown (n ∷ servers) [] s = absurd s
  pids_shown (n ∷ servers) (x ∷ seats) s = ap (λ (i : ℕ). i ∷ pids_in seats) ((s.0).node).pid ∙ ap (λ (ids : List ℕ). K.pid_of n ∷ ids) (pids_shown servers seats s.1)

  -- the server at this place shows the one of this id
  pub record ShownAt (servers : List S) (seats : List Seated) (pid k : ℕ) : Type 0 where
    pub seat : Seated
    pub found : seat_in seats pid ≡ Some seat
    pub shows : (d : S) → ShowsSeated K (get_or servers k d) seat
    pub is : (d : S) → K.pid_of (get_or servers k d) ≡ pid

  shown_later : (s : S) (servers : List S) (x : Seated) (seats : List Seated) (pid k : ℕ) → eqb x.node.pid pid ≡ false → ShownAt servers seats pid k → ShownAt (s ∷ servers) (x ∷ seats) pid (suc k)
  shown_later s servers x seats pid k away at = record { seat = at.seat; found = cond-false (eqb x.node.pid pid) (Some x) (seat_in seats pid) away ∙ at.found; shows = at.shows; is = at.is }

  pub shown : (servers : List S) (seats : List Seated) (pid : ℕ) → ShowSeated K servers seats → is_member nat_eq (pids servers) pid ≡ true → ShownAt servers seats pid (place_of (pids servers) pid)
  shown [] [] pid s h = absurd (cc)
  shown [] (x ∷ seats) pid s h = absurd s
  shown (n ∷ servers) [] pid s h = absurd s
  shown (n ∷ servers) (x ∷ seats) pid s h =
      let same : eqb x.node.pid pid ≡ eqb (K.pid_of n) pid = ap (λ (i : ℕ). eqb i pid) ((s.0).node).pid in
      cond_both (eqb (K.pid_of n) pid) 0 (1 + place_of (pids servers) pid) (ShownAt (n ∷ servers) (x ∷ seats) pid)
      (λ here. record { seat = x; found = cond-true (eqb x.node.pid pid) (Some x) (seat_in seats pid) (same ∙ here); shows = λ d. s.0; is = λ d. eqb-true (K.pid_of n) pid here })
      (λ away.
      let k = place_of (pids servers) pid in
      let next : suc k ≡ 1 + k = omega arith in
      subst (λ (i : ℕ). ShownAt (n ∷ servers) (x ∷ seats) pid i) next
      (shown_later n servers x seats pid k (same ∙ away) (shown servers seats pid s.1 (member_later (pids servers) (K.pid_of n) pid away h))))

  -- ---- with another server in its place

  -- what these servers show, with this node for the one of its id
  pub shown_with : (servers : List S) (seats : List Seated) (pid : ℕ) (m : S) (y : Node) → K.pid_of m ≡ pid → ShowsNode K m y → ((d : S) → K.kind_of (get_or servers (place_of (pids servers) pid) d) ≡ K.kind_of m)
      → ShowSeated K servers seats → is_member nat_eq (pids servers) pid ≡ true → ShowSeated K (set servers (place_of (pids servers) pid) m) (with_seat seats y)
  shown_with [] seats pid m y is new kind s h = absurd (cc)
  shown_with (n ∷ servers) [] pid m y is new kind s h = absurd s
  shown_with (n ∷ servers) (x ∷ seats) pid m y is new kind s h =
      by (eqb (K.pid_of n) pid) refl (λ away same_kind. shown_with servers seats pid m y is new same_kind s.1 (member_later (pids servers) (K.pid_of n) pid away h))
    where
      same : eqb (K.pid_of n) pid ≡ eqb x.node.pid y.pid
      same = ap (λ (i : ℕ). eqb i pid) (sym ((s.0).node).pid) ∙ ap (λ (i : ℕ). eqb x.node.pid i) (sym is ∙ sym new.pid)

      by : (b : Bool) → eqb (K.pid_of n) pid ≡ b
          → (eqb (K.pid_of n) pid ≡ false → ((d : S) → K.kind_of (get_or servers (place_of (pids servers) pid) d) ≡ K.kind_of m) → ShowSeated K (set servers (place_of (pids servers) pid) m) (with_seat seats y))
          → ShowSeated K (set (n ∷ servers) (place_of (pids (n ∷ servers)) pid) m) (with_seat (x ∷ seats) y)
      by true here later =
          let place : place_of (pids (n ∷ servers)) pid ≡ 0 = cond-true (eqb (K.pid_of n) pid) 0 (1 + place_of (pids servers) pid) here in
          let put : Seated = record x { node = y } in
          let nodes : with_seat (x ∷ seats) y ≡ put ∷ seats = cond-true (eqb x.node.pid y.pid) (put ∷ seats) (x ∷ with_seat seats y) (sym same ∙ here) in
          let kind_is : K.kind_of n ≡ K.kind_of m = subst (λ (k : ℕ). K.kind_of (get_or (n ∷ servers) k m) ≡ K.kind_of m) place (kind m) in
          let one : ShowsSeated K m put = record { kind = (s.0).kind ∙ kind_is; node = new } in
          subst (λ (k : ℕ). ShowSeated K (set (n ∷ servers) k m) (with_seat (x ∷ seats) y)) (sym place) (subst (λ (ys : List Seated). ShowSeated K (m ∷ servers) ys) (sym nodes) (one, s.1))
      by false away later =
          let k = place_of (pids servers) pid in
          let next : suc k ≡ 1 + k = omega arith in
          let place : place_of (pids (n ∷ servers)) pid ≡ suc k = cond-false (eqb (K.pid_of n) pid) 0 (1 + k) away ∙ sym next in
          let put : Seated = record x { node = y } in
          let nodes : with_seat (x ∷ seats) y ≡ x ∷ with_seat seats y = cond-false (eqb x.node.pid y.pid) (put ∷ seats) (x ∷ with_seat seats y) (sym same ∙ away) in
          let same_kind : (d : S) → K.kind_of (get_or servers k d) ≡ K.kind_of m = λ d. subst (λ (j : ℕ). K.kind_of (get_or (n ∷ servers) j d) ≡ K.kind_of m) place (kind d) in
          subst (λ (j : ℕ). ShowSeated K (set (n ∷ servers) j m) (with_seat (x ∷ seats) y)) (sym place) (subst (λ (ys : List Seated). ShowSeated K (n ∷ set servers k m) ys) (sym nodes) (s.0, later away same_kind))

  -- the server that is there has the same id
  pub pids-set : (servers : List S) (k : ℕ) (m : S) → ((d : S) → K.pid_of (get_or servers k d) ≡ K.pid_of m) → pids (set servers k m) ≡ pids servers
  pids-set [] k m same = refl
  pids-set (n ∷ servers) zero m same = ap (λ (i : ℕ). i ∷ pids servers) (sym (same m))
  pids-set (n ∷ servers) (suc k) m same = ap (λ (ids : List ℕ). K.pid_of n ∷ ids) (pids-set servers k m same)

  pub all_set : (P : S → Type 0) (servers : List S) (k : ℕ) (m : S) → P m → All P servers → All P (set servers k m)
  all_set P [] k m new each = All-nil P
  all_set P (n ∷ servers) zero m new each = All-cons P m servers new (All-tail P n servers each)
  all_set P (n ∷ servers) (suc k) m new each = All-cons P n (set servers k m) (All-head P n servers each) (all_set P servers k m new (All-tail P n servers each))

  pub set_there : (servers : List S) (k : ℕ) (m d : S) → k < length servers → get_or (set servers k m) k d ≡ m
  set_there [] k m d h = absurd (omega arith)
  set_there (n ∷ servers) zero m d h = refl
  set_there (n ∷ servers) (suc k) m d h = set_there servers k m d (let less : k < length servers = omega arith in less)

  -- another one there that shows the same
  pub shown_set : (servers : List S) (seats : List Seated) (k : ℕ) (m : S) → ((d : S) (y : Seated) → ShowsSeated K (get_or servers k d) y → ShowsSeated K m y) → ShowSeated K servers seats → ShowSeated K (set servers k m) seats
  shown_set [] seats k m same s = s
  shown_set (n ∷ servers) [] k m same s = absurd s
  shown_set (n ∷ servers) (x ∷ seats) zero m same s = (same n x s.0, s.1)
  shown_set (n ∷ servers) (x ∷ seats) (suc k) m same s = (s.0, shown_set servers seats k m same s.1)

  -- ---- the start, one server after the other

  shown_push : (servers : List S) (seats : List Seated) (n : S) (x : Seated) → ShowSeated K servers seats → ShowsSeated K n x → ShowSeated K (servers ++ n ∷ []) (seats ++ x ∷ [])
  shown_push [] [] n x s one = (one, tt)
  shown_push [] (y ∷ seats) n x s one = absurd s
  shown_push (m ∷ servers) [] n x s one = absurd s
  shown_push (m ∷ servers) (y ∷ seats) n x s one = (s.0, shown_push servers seats n x s.1 one)

  -- the first so many ids have their servers, where these observe
  pub record HaveServers (members observers ids : List ℕ) (servers : List S) (k : ℕ) : Type 0 where
    pub shown : ShowSeated K servers (map (first_seated members observers) (take k ids))
    pub ids_are : pids servers ≡ take k ids
    pub kept : All K.is_kept servers
    pub first : All K.is_first servers

  pub have_more : (members observers ids : List ℕ) (servers new : List S) (n : S) (k : ℕ) (observes : Bool) → HaveServers members observers ids servers k → k < length ids → new ≡ servers ++ n ∷ []
      → observes ≡ is_member nat_eq observers (get_or ids k 0) → ShowsNode K n (first_as (kind_if observes) members (get_or ids k 0)) → K.kind_of n ≡ kind_if observes → K.is_kept n → K.is_first n → HaveServers members observers ids new (k + 1)
  have_more members observers ids servers new n k observes had there is observes_is shows kind kept first =
      let pid = get_or ids k 0 in
      let one : Seated = first_seated members observers pid in
      let more : take (k + 1) ids ≡ take k ids ++ pid ∷ [] = take_more ids k 0 there in
      let rows : map (first_seated members observers) (take (k + 1) ids) ≡ map (first_seated members observers) (take k ids) ++ one ∷ [] =
      ap (λ (ms : List ℕ). map (first_seated members observers) ms) more ∙ map-append (first_seated members observers) (take k ids) (pid ∷ []) in
      let shows_one : ShowsSeated K n one = record {
        kind = ap kind_if (sym observes_is) ∙ sym kind;
        node = subst (λ (b : Bool). ShowsNode K n (first_as (kind_if b) members pid)) observes_is shows;
      } in
      subst (λ (ns : List S). HaveServers members observers ids ns (k + 1)) (sym is)
      (record {
        shown = subst (λ (xs : List Seated). ShowSeated K (servers ++ n ∷ []) xs) (sym rows) (shown_push servers (map (first_seated members observers) (take k ids)) n one had.shown shows_one);
        ids_are = map-append K.pid_of servers (n ∷ []) ∙ ap (λ (ms : List ℕ). ms ++ K.pid_of n ∷ []) had.ids_are ∙ ap (λ (i : ℕ). take k ids ++ i ∷ []) (sym (shows_one.node).pid ∙ pid_first observers members pid) ∙ sym more;
        kept = All-push K.is_kept servers n had.kept kept;
        first = All-push K.is_first servers n had.first first;
      })

  -- ---- what is told

  -- the lines of what is done are added, and its messages given
  pub told_at : {E : Type 0} (f : F) (old : S) (d : Doing) (line : ℕ) (new : S) (did : Done) (r : Result (List (ℕ × Msg)) E) (before lines : List Line) → IsDoneAt K f old d line new did.sends did.told → IfOk r (λ sends. sends ≡ did.sends) → OnOk r (lines ≡ before ++ did.told)
      → IfOk r (λ sends. IsToldAt K f old d line new sends before lines)
  told_at f old d line new did (Ok sends) before lines done is added =
      record { told = did.told; done = subst (λ (ss : List (ℕ × Msg)). IsDoneAt K f old d line new ss did.told) (sym is) done; added = added }
  told_at f old d line new did (Err e) before lines done is added = tt
