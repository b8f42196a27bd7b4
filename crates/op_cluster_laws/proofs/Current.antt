-- An answer to a read sees the history of each moment by which nobody had asked for it.
use Rattle.std.proofs.Common.{◌≡◌, ◌<◌, ◌≤◌, ℕ, zero, suc, true, false, max, fold, is_some, List, [], ◌∷◌, ◌++◌, length, Some, refl, sym, ◌∙◌, ap, subst, arith, append_assoc, append-nil, ◌⊎◌, inl, inr}
use Rattle.std.specs.Prelude.{IfSome}
use Rattle.std.specs.List.{Contains}
use Rattle.std.proofs.lemmas.Bool.{cases_eq, eq-eqb, ne_eqb}
use Rattle.std.proofs.lemmas.List.{length-append}
use Rattle.op_types.specs.Ranges.{IsPid, IsMember, MembersInRange}
use Rattle.op_types.specs.declared.answers.Reply.{Reply}
use Rattle.op_types.specs.declared.events.Request.TheVariants as request
use Rattle.op_types.specs.declared.read.Read.{Read}
use Rattle.op_types.specs.Stops.{stop_at_end}
use Rattle.op_record.specs.Ranges.{PartInRange}
use Rattle.op_types.specs.declared.log.Entry.{Entry}
use Rattle.op_spec.specs.Machine.{Machine, IsAmong}
use Rattle.op_spec.specs.Service.{service_of, value_at, told_value}
use Rattle.op_spec.specs.Stands.{prefix_of}
use Rattle.op_protocol.specs.Configurations.{latest_of, latest_in}
use Rattle.op_bounds.specs.Laws.{NodeInRange, WorldInRange}
use Rattle.op_bounds.proofs.Known.{all_runs_stay}
use Rattle.op_runs.specs.Possible.{SparesInRange, HappeningsInRange, server_ids}
use Rattle.op_runs.specs.Run.{Execution, first_execution, execution_of, IsSound, MeetsFrom}
use Rattle.op_runs.specs.Fresh.{IsFresh, CameFresh}
use Rattle.op_runs.specs.Summary.{greatest_conf}
use Rattle.op_runs.specs.World.{World, Node, Happening, node_at}
use Rattle.op_runs.specs.declared.summary.Line.TheVariants as line
use Rattle.op_refinement.proofs.NodeLists.{IfThere, found}
use Rattle.op_laws.specs.Runs.{RunInRange}
use Rattle.op_laws.proofs.Drops.{in_left, in_right}
use Rattle.op_laws.proofs.Greatest.{greatest_stays}
use Rattle.op_laws.proofs.Histories.{Goes_on}
use Rattle.op_laws.proofs.Reached.{world_of_run, execution_append, front_in_range}
use Rattle.op_read_laws.specs.Told.{IsGiven, ToldFresh}
use Rattle.op_read_laws.proofs.ReadsTold.{every_line_is_fresh}
use Rattle.op_serving.specs.State.{Key}
use Rattle.op_cluster_laws.specs.Currency.{WasAskedOf, IsUnasked, SeesAll, IsCurrent, ReadsAreCurrent}
use Rattle.op_cluster_laws.specs.Outputs.{answered_in}
use Rattle.op_cluster_laws.specs.Traces.{Happened, lived_at}
use Rattle.op_cluster_laws.specs.Worlds.{history_after, IsRun, OfClusters}
use Rattle.op_cluster_laws.proofs.Answering.{all_found}
use Rattle.op_cluster_laws.proofs.Currency.{reads_of, reads_in, reads_more, ComesAt, comes_at}
use Rattle.op_cluster_laws.proofs.Lasting.{history_before, place_before, place_stays}
use Rattle.op_cluster_laws.proofs.Opened.{HasOpen, PartIsOpen, parts_open, start_open, open_stays, none_decided, ended_below}
use Rattle.op_cluster_laws.proofs.Reaching.{sound_behind, meets_behind, lists_grow, Reached, ReachedAlways, always_reached}

-- ---- lists

pub contains_among : {A : Type 0} (xs : List A) (x : A) → Contains xs x → IsAmong xs x
contains_among [] x c = absurd (omega (arith, c.1))
contains_among (y ∷ xs) x (zero, lt, e) = inl e
contains_among (y ∷ xs) x (suc k, lt, e) = inr (contains_among xs x (k, omega (arith, lt), e))

head_is : {A : Type 0} (x y : A) (xs ys : List A) → x ∷ xs ≡ y ∷ ys → x ≡ y
head_is x y xs ys e = cc

tail_is : {A : Type 0} (x y : A) (xs ys : List A) → x ∷ xs ≡ y ∷ ys → xs ≡ ys
tail_is x y xs ys e = cc

-- an element stands behind a first part of a list, or in it
pub before_or_in : {A : Type 0} (xs ys zs : List A) (w : A) (vs : List A) → xs ++ ys ≡ zs ++ w ∷ vs → ((us : List A) × (zs ≡ xs ++ us)) ⊎ ((us : List A) × (xs ≡ zs ++ w ∷ us))
before_or_in [] ys zs w vs e = inl (zs, refl)
before_or_in (x ∷ xs) ys [] w vs e = inr (xs, ap (λ z. z ∷ xs) (head_is x w (xs ++ ys) vs e))
before_or_in (x ∷ xs) ys (z ∷ zs) w vs e = elim (before_or_in xs ys zs w vs (tail_is x z (xs ++ ys) (zs ++ w ∷ vs) e)) [
  | inl k ↦ inl (k.0, ap (λ y. y ∷ zs) (sym (head_is x z (xs ++ ys) (zs ++ w ∷ vs) e)) ∙ ap (λ l. x ∷ l) k.1)
  | inr k ↦ inr (k.0, ap (λ y. y ∷ xs) (head_is x z (xs ++ ys) (zs ++ w ∷ vs) e) ∙ ap (λ l. z ∷ l) k.1)
]

pub reads_here : (before : List Happening) (h : Happening) (after : List Happening) (r : Read) → IsAmong (reads_of h.event.what) r → IsAmong (reads_in (before ++ h ∷ after)) r
reads_here before h after r k =
    subst (λ l. IsAmong l r) (sym (reads_more before (h ∷ after))) (in_right r (reads_in before) (reads_in (h ∷ after)) (in_left r (reads_of h.event.what) (reads_in after) k))

-- ---- the greatest configuration

greatest_begins : (nodes : List Node) (c : ℕ) → c ≤ fold (λ (x : ℕ) (n : Node). max x (latest_of n.state.durable)) c nodes
greatest_begins [] c = omega arith
greatest_begins (n ∷ nodes) c = let k = greatest_begins nodes (max c (latest_of n.state.durable)) in omega (arith, k)

greatest_of : (nodes : List Node) (c pid : ℕ) (n : Node) → node_at nodes pid ≡ Some n → latest_of n.state.durable ≤ fold (λ (x : ℕ) (m : Node). max x (latest_of m.state.durable)) c nodes
greatest_of [] c pid n e = absurd cc
greatest_of (m ∷ nodes) c pid n e = elim (cases_eq m.pid pid) [
  | inl same ↦ (
      let is : Some m ≡ Some n = rw (eq-eqb m.pid pid same) at e in
      let one : m ≡ n = some_is is in
      let k = greatest_begins nodes (max c (latest_of m.state.durable)) in
      subst (λ (z : Node). latest_of z.state.durable ≤ fold (λ (x : ℕ) (j : Node). max x (latest_of j.state.durable)) (max c (latest_of m.state.durable)) nodes) one (omega (arith, k)))
  | inr apart ↦ greatest_of nodes (max c (latest_of m.state.durable)) pid n (rw (ne_eqb m.pid pid apart) at e)
]
  where
    some_is : {a b : Node} → Some a ≡ Some b → a ≡ b
    some_is e = cc

above_zero : (n : ℕ) → 0 < n → (k : ℕ) × (n ≡ suc k)
above_zero zero lt = absurd (omega (arith, lt))
above_zero (suc k) lt = (k, refl)

-- ---- a run

module _ (members spares : List ℕ) (ms : MembersInRange members) (ss : SparesInRange members spares) (hs : List Happening) (range : HappeningsInRange hs)
    (sound : IsSound members (first_execution members spares)) (meets : MeetsFrom members (first_execution members spares) hs) where
  abbrev t0 : Execution
  t0 = first_execution members spares

  abbrev run_at : List Happening → Execution
  run_at first = execution_of t0 first

  -- of the first part of it
  module _ (first later : List Happening) (split : hs ≡ first ++ later) where
    pub in_run : RunInRange members spares first
    in_run = front_in_range members spares first later (subst (λ l. RunInRange members spares l) split (record { first = ms; others = ss; happenings = range }))

    meets_both : MeetsFrom members t0 first × MeetsFrom members (run_at first) later
    meets_both = meets_behind members t0 first later (subst (λ l. MeetsFrom members t0 l) split meets)

    sound_then : IsSound members (run_at first)
    sound_then = sound_behind members t0 first sound meets_both.0

    goes_then : (mid rest : List Happening) → later ≡ mid ++ rest → Goes_on (run_at first).machine.lists (run_at (first ++ mid)).machine.lists
    goes_then mid rest e =
        let m = (meets_behind members (run_at first) mid rest (subst (λ l. MeetsFrom members (run_at first) l) e meets_both.1)).0 in
        let same : run_at (first ++ mid) ≡ execution_of (run_at first) mid = execution_append t0 first mid in
        subst (λ (x : Execution). Goes_on (run_at first).machine.lists x.machine.lists) (sym same) (record {
          grown = lists_grow members (run_at first) mid m;
          ends = (sound_behind members (run_at first) mid sound_then m).safe.after_stop;
        })

    opens_then : (mid rest : List Happening) → later ≡ mid ++ rest → (pid conf : ℕ) → (run_at first).machine.opened pid conf ≡ true → (run_at (first ++ mid)).machine.opened pid conf ≡ true
    opens_then mid rest e pid conf h =
        let m = (meets_behind members (run_at first) mid rest (subst (λ l. MeetsFrom members (run_at first) l) e meets_both.1)).0 in
        subst (λ (x : Execution). x.machine.opened pid conf ≡ true) (sym (execution_append t0 first mid)) (open_stays members (run_at first) mid m pid conf h)

    ended_then : (conf : ℕ) → HasOpen (run_at first).machine conf → (c : ℕ) → 0 < c → c < conf → is_some (stop_at_end ((run_at first).machine.lists c)) ≡ true
    ended_then conf o = ended_below members spares first meets_both.0 sound_then.safe conf o

  -- ---- a read that came

  module _ (first later before : List Happening) (came : Happening) (mid tail : List Happening) (early_split : hs ≡ first ++ later) (whole : hs ≡ before ++ came ∷ (mid ++ tail))
      (us : List Happening) (behind : before ≡ first ++ us) where
    abbrev told : List Happening
    told = before ++ came ∷ mid

    told_split : hs ≡ told ++ tail
    told_split = whole ∙ sym (append_assoc before (came ∷ mid) tail)

    abbrev E : Machine
    E = (run_at first).machine

    abbrev C : Machine
    C = (run_at before).machine

    abbrev T : Machine
    T = (run_at told).machine

    abbrev W : Machine
    W = (run_at hs).machine

    -- behind the early moment the run goes on so
    later_is : later ≡ us ++ came ∷ (mid ++ tail)
    later_is = same_behind first later (us ++ came ∷ (mid ++ tail)) (sym early_split ∙ whole ∙ ap (λ l. l ++ came ∷ (mid ++ tail)) behind ∙ append_assoc first us (came ∷ (mid ++ tail)))
      where
        same_behind : (xs ys zs : List Happening) → xs ++ ys ≡ xs ++ zs → ys ≡ zs
        same_behind [] ys zs e = e
        same_behind (x ∷ xs) ys zs e = same_behind xs ys zs (tail_is x x (xs ++ ys) (xs ++ zs) e)

    early_open : (pid conf : ℕ) → E.opened pid conf ≡ true → C.opened pid conf ≡ true
    early_open pid conf h = subst (λ l. (run_at l).machine.opened pid conf ≡ true) (sym behind) (opens_then first later early_split us (came ∷ (mid ++ tail)) later_is pid conf h)

    early_goes : Goes_on E.lists C.lists
    early_goes = subst (λ l. Goes_on E.lists (run_at l).machine.lists) (sym behind) (goes_then first later early_split us (came ∷ (mid ++ tail)) later_is)

    early_whole : Goes_on E.lists W.lists
    early_whole = subst (λ l. Goes_on E.lists (run_at l).machine.lists) (sym early_split) (goes_then first later early_split later [] (sym (append-nil later)))

    told_whole : Goes_on T.lists W.lists
    told_whole = subst (λ l. Goes_on T.lists (run_at l).machine.lists) (sym told_split) (goes_then told tail told_split tail [] (sym (append-nil tail)))

    module _ (rs : List Read) (r : _) (a : _) (c : ComesAt (run_at before).world rs r) (f : IsFresh C T r a) where
      part_found : IfThere (PartIsOpen C) c.pid (Some c.node)
      part_found = subst (λ o. IfThere (PartIsOpen C) c.pid o) c.there (found (PartIsOpen C) (run_at before).world.nodes (parts_open t0 before (start_open members spares)) c.pid)

      came_open : HasOpen C r.conf
      came_open = ((c.node).pid, ap (C.opened (c.node).pid) c.conf ∙ part_found.1 c.part c.has)

      told_open : HasOpen T r.conf
      told_open = (came_open.0, opens_then before (came ∷ (mid ++ tail)) whole (came ∷ mid) tail refl came_open.0 r.conf came_open.1)

      whole_open : HasOpen W r.conf
      whole_open = (told_open.0, subst (λ l. (run_at l).machine.opened told_open.0 r.conf ≡ true) (sym told_split) (opens_then told tail told_split tail [] (sym (append-nil tail)) told_open.0 r.conf told_open.1))

      in_range : WorldInRange IsPid (run_at before).world
      in_range = subst (λ (w : World). WorldInRange IsPid w) (sym (world_of_run t0 before)) (all_runs_stay members spares ms ss before (in_run before (came ∷ (mid ++ tail)) whole).happenings.each)

      low : 0 < r.conf
      low =
          let k = all_found (NodeInRange IsPid) (run_at before).world.nodes c.pid c.node in_range.nodes c.there in
          let p : PartInRange c.part = subst (λ o. IfSome o PartInRange) c.has k.state.durable.range.part in
          let least = p.conf.0 in
          omega (arith, least, c.conf)

      few : r.conf ≤ greatest_conf (run_at hs).world.nodes
      few =
          let own = greatest_of (run_at before).world.nodes 0 c.pid c.node c.there in
          let latest : latest_of (c.node).state.durable ≡ (c.part).conf = ap (λ o. latest_in o (c.node).state.durable.closed) c.has in
          let on = subst (λ l. greatest_conf (run_at before).world.nodes ≤ greatest_conf (run_at l).world.nodes) (sym whole)
          (greatest_stays members spares ms ss before (came ∷ (mid ++ tail)) (subst HappeningsInRange whole range)) in
          omega (arith, own, latest, on, c.conf)

      none_later : (conf : ℕ) → r.conf < conf → E.lists conf ≡ []
      none_later conf lt =
          let m = meets_both first later early_split in
          none_decided members spares first m.0 (sound_then first later early_split).safe conf
          (λ o. let bad : true ≡ false = sym (early_open o.0 conf o.1) ∙ f.latest o.0 conf lt in cc)

      has_all : length (E.lists r.conf) ≤ f.len
      has_all =
          let g = early_goes.grown r.conf in
          let long = ap length g.1 in
          let both = length-append (E.lists r.conf) g.0 in
          let all = f.has_all in
          omega (arith, long, both, all)

      -- a place of a list that still stands is below the last configuration
      abbrev own : (k : ℕ) × (r.conf ≡ suc k)
      own = above_zero r.conf low

      ended_whole : (n : ℕ) → 0 < n → n < suc own.0 → is_some (stop_at_end (W.lists n)) ≡ true
      ended_whole n pos lt = ended_then hs [] (sym (append-nil hs)) r.conf whole_open n pos (omega (arith, lt, own.1))

      -- what the read sees is a first part of the whole history
      pub seen_place : (rest : List Entry) × (history_after members spares hs ≡ prefix_of W.lists r.conf f.len ++ rest)
      seen_place =
          let small : own.0 < greatest_conf (run_at hs).world.nodes = (let e = own.1 in let le = few in omega (arith, e, le)) in
          let place = place_before W.lists own.0 f.len (greatest_conf (run_at hs).world.nodes) members small ended_whole in
          (place.0, place.1 ∙ ap (λ z. prefix_of W.lists z f.len ++ place.0) (sym own.1))

      -- its answer is the value of its key there
      pub seen_value : a ≡ told_value (value_at r.asked.read.key (service_of (prefix_of W.lists r.conf f.len)).pairs)
      seen_value =
          let ended_told = λ (n : ℕ) (pos : 0 < n) (lt : n < suc own.0). ended_then told tail told_split r.conf told_open n pos (omega (arith, lt, own.1)) in
          let stays = place_stays T.lists W.lists own.0 f.len told_whole (subst (λ z. f.len ≤ length (T.lists z)) own.1 f.is_decided) ended_told in
          f.value ∙ ap (λ l. told_value (value_at r.asked.read.key (service_of l).pairs))
          (ap (λ z. prefix_of T.lists z f.len) own.1 ∙ sym stays ∙ ap (λ z. prefix_of W.lists z f.len) (sym own.1))

      -- it has the whole history of the early moment
      pub seen_past : (more : List Entry) × (prefix_of W.lists r.conf f.len ≡ history_after members spares first ++ more)
      seen_past =
          let past = history_before E.lists W.lists own.0 f.len (greatest_conf (run_at first).world.nodes) members early_whole
          (subst (λ z. length (E.lists z) ≤ f.len) own.1 has_all) (λ n lt. none_later n (omega (arith, lt, own.1))) ended_whole in
          (past.0, ap (λ z. prefix_of W.lists z f.len) own.1 ∙ past.1)

      sees : SeesAll (history_after members spares first) (history_after members spares hs) r.asked.read (record { client = r.asked.read.client; seq = r.asked.read.seq; answer = a })
      sees = record {
        more = seen_past.0;
        rest = seen_place.0;
        place = seen_place.1 ∙ ap (λ l. l ++ seen_place.0) seen_past.1;
        value = seen_value ∙ ap (λ l. told_value (value_at r.asked.read.key (service_of l).pairs)) seen_past.1;
      }

-- ---- a cluster

pub same_key : (r : Read) (key : Key) → r.client ≡ key.0 → r.seq ≡ key.1 → (r.client, r.seq) ≡ key
same_key r (c, s) e f = cc

module _ (members spares observers : List ℕ) (ms : MembersInRange members) (ss : SparesInRange members spares) (counts : ℕ → ℕ) (trace : List Happened) (hs : List Happening)
    (run : IsRun members spares observers counts trace hs) (reach : ReachedAlways members spares observers counts trace hs) where
  current : (now later : List Happened) → trace ≡ now ++ later → (p : ℕ) → IsMember (server_ids members spares observers) p → (a : Reply)
      → Contains (answered_in true (lived_at members observers counts p now).first (lived_at members observers counts p now).deeds) a → IsGiven a.answer
      → (early since : List Happened) → trace ≡ early ++ since → IsUnasked members spares observers counts early (a.client, a.seq) → IsCurrent members spares observers counts early now hs a
  current now later split p is a there given early since early_split unread = by_place (before_or_in y.first y.later g.before g.came (g.after ++ tail) (sym y.split ∙ whole))
    where
      n : Reached members spares observers counts now hs
      n = reach now later split

      y : Reached members spares observers counts early hs
      y = reach early since early_split

      range_then : RunInRange members spares n.first
      range_then = in_run members spares ms ss hs run.range run.meets.0 run.meets.1 n.first n.later n.split

      f : ToldFresh (first_execution members spares) n.first p a.client a.seq a.answer
      f = every_line_is_fresh members spares n.first range_then p a.client a.seq a.answer given
          (contains_among (execution_of (first_execution members spares) n.first).world.lines (line.Read p a.client a.seq a.answer)
          (subst (λ (w : World). Contains w.lines (line.Read p a.client a.seq a.answer)) (sym (world_of_run (first_execution members spares) n.first)) (n.lines true p is a there)))

      g : CameFresh (first_execution members spares) (f.before ++ f.tells ∷ []) (execution_of (first_execution members spares) (f.before ++ f.tells ∷ [])).machine f.read a.answer
      g = f.fresh

      tail : List Happening
      tail = f.after ++ n.later

      whole : hs ≡ g.before ++ g.came ∷ (g.after ++ tail)
      whole = n.split ∙ ap (λ l. l ++ n.later) f.place ∙ append_assoc f.before (f.tells ∷ f.after) n.later ∙ sym (append_assoc f.before (f.tells ∷ []) tail)
          ∙ ap (λ l. l ++ tail) g.place ∙ append_assoc g.before (g.came ∷ g.after) tail

      c : ComesAt (execution_of (first_execution members spares) g.before).world (reads_of g.came.event.what) f.read
      c = comes_at (execution_of (first_execution members spares) g.before).world g.came f.read g.comes

      front : n.first ≡ g.before ++ g.came ∷ (g.after ++ f.after)
      front = f.place ∙ sym (append_assoc f.before (f.tells ∷ []) f.after) ∙ ap (λ l. l ++ f.after) g.place ∙ append_assoc g.before (g.came ∷ g.after) f.after

      asked : WasAskedOf members spares observers counts now (request.Read f.read.asked.read)
      asked = n.read f.read.asked.read (subst (λ l. IsAmong (reads_in l) f.read.asked.read) (sym front) (reads_here g.before g.came (g.after ++ f.after) f.read.asked.read c.among))

      by_place : ((us : List Happening) × (g.before ≡ y.first ++ us)) ⊎ ((us : List Happening) × (y.first ≡ g.before ++ g.came ∷ us)) → IsCurrent members spares observers counts early now hs a
      by_place (inr (us, e)) = absurd (unread f.read.asked.read (same_key f.read.asked.read (a.client, a.seq) f.client_is f.seq_is)
          (y.read f.read.asked.read (subst (λ l. IsAmong (reads_in l) f.read.asked.read) (sym e) (reads_here g.before g.came us f.read.asked.read c.among))))
      by_place (inl (us, e)) =
          let fresh = subst (λ l. IsFresh (execution_of (first_execution members spares) g.before).machine (execution_of (first_execution members spares) l).machine f.read a.answer) g.place g.fresh in
          let k = sees members spares ms ss hs run.range run.meets.0 run.meets.1 y.first y.later g.before g.came g.after tail y.split whole us e (reads_of g.came.event.what) f.read a.answer c fresh in
          record {
            read = f.read.asked.read;
            client_is = f.client_is;
            seq_is = f.seq_is;
            asked = asked;
            first = y.first;
            later = y.later;
            split = y.split;
            moment = y.moment;
            sees = record { more = k.more; rest = k.rest; place = k.place; value = k.value };
          }

pub reads_are_current : OfClusters ReadsAreCurrent
reads_are_current members spares observers ms ss os counts trace c =
    let k = always_reached members spares observers ms ss os counts trace c in
    (k.0, k.1, λ now later split p is a there given early since e unread. current members spares observers ms ss counts trace k.0 k.1 k.2 now later split p is a there given early since e unread)
