-- A promise that comes in parts, one after the other, is kept once the last of them has come.
use Rattle.std.proofs.Common.{◌≡◌, ◌<◌, ◌≤◌, ◌+◌, ◌-◌, ⊎_elim, ◌&&◌, not, ℕ, Bool, true, cond, eqb, leb, ltb, is_some, List, [], ◌∷◌, length, map, slice_get, Option, Some, None, refl, sym, ap, ◌∙◌, subst, arith, length-append}
use Rattle.std.proofs.lemmas.Bool.{and_from, le-leb, lt-ltb, eq-eqb, cases_lt, false≢true}
use Rattle.op_types.specs.Limits.{positions_end, last_conf}
use Rattle.op_types.specs.Ballots.{is_same_ballot}
use Rattle.op_types.specs.Changes.{len_of}
use Rattle.op_types.specs.Joinings.{Held, held_run}
use Rattle.op_types.specs.RoleStates.{Preparing, stage_of, with_stage, without_stage, told_by, promised_entries, staged_with}
use Rattle.op_types.specs.Roles as role
use Rattle.op_types.specs.Stops.{stop_at_end}
use Rattle.op_types.specs.declared.ballot.Ballot.{Ballot}
use Rattle.op_types.specs.declared.durable.Part.{Part}
use Rattle.op_types.specs.declared.events.Input.TheVariants as input
use Rattle.op_types.specs.declared.log.Entry.{Entry}
use Rattle.op_types.specs.declared.messages.Body.TheVariants as body
use Rattle.op_types.specs.declared.messages.Msg.{Msg}
use Rattle.op_types.specs.declared.role.Promised.{Promised}
use Rattle.op_types.specs.declared.runs.PromisedRun.{PromisedRun}
use Rattle.op_types.proofs.Cuts.{joined, NoneEmpty}
use Rattle.op_types.proofs.Stages.{Has, with_has, with_here, run_full, run_each}
use Rattle.op_protocol.specs.State.{Volatile, PartStep, with_effects}
use Rattle.op_protocol.specs.Parts.{is_admitted_body, is_run_to, has_stop, promised_run, nothing}
use Rattle.op_protocol.specs.Promises.{is_usable}
use Rattle.op_protocol.specs.Leader.{on_promise, promised_once, on_promise_part}
use Rattle.op_runs.specs.declared.events.What.TheVariants as what
use Rattle.op_runs.specs.World.{World, Node, Steps, Sent, delivery, deed_of, node_at, Happening, world_after, run_of, done_event, all_done}
use Rattle.op_gen.specs.Links.{Links, is_linked}
use Rattle.op_lockstep.specs.Reach.{IsOneOf}
use Rattle.op_lockstep.proofs.Lists.{Each}
use Rattle.op_lockstep.proofs.Batches.{decides_nothing}
use Rattle.op_lockstep.proofs.Seats.{Sits, IsRow, stepped}
use Rattle.op_lockstep.proofs.Delivering.{admitted}
use Rattle.op_refinement.proofs.Lookups.{staged-with}
use Rattle.op_progress.specs.Progress.{HearOneAnother, AllComeBehind}
use Rattle.op_progress.proofs.Orders.{AtMost, same_ballot}
use Rattle.op_progress.proofs.Rows.{RoleIn}
use Rattle.op_progress.proofs.Behind.{part_of, memory_of, Standing, HoldsIn, behind_run, memory_then}
use Rattle.op_progress.proofs.Keeping.{keeping, keeping_kept, promise_comes}
use Rattle.op_progress.proofs.Settling.{at_most_lowers}
use Rattle.op_waves.specs.Waves.{goes_over}
use Rattle.op_waves.proofs.Growing.{Grows, grows_same, get_front, deliver_grows, deliver, Passes, delivered_behind}

some_same : {A : Type 0} (x y : A) → Some x ≡ Some y → x ≡ y
some_same x y e = cc

-- a promise that is kept at the owner of a ballot stays kept while that is promised
module _ (members : List ℕ) (links : Links) (group : List ℕ) (hear : HearOneAnother members links group) (s q : ℕ) (is_s : IsOneOf group s) (b : Ballot) where
  abbrev pub promised_at : World → Ballot
  promised_at w = (part_of (node_at w.nodes s)).promised

  pub stays_promised : (w : World) (k : Standing members links group hear w) (hs : List Happening) → AllComeBehind group links w hs → HoldsIn members links group hear (λ x. AtMost x b) w → promised_at w ≡ b → promised_at (run_of w hs) ≡ b
  stays_promised w k hs may low is =
      let x = behind_run members links group hear hs w k may in
      same_ballot (promised_at (run_of w hs)) b ((x.later).holds (λ y. AtMost y b) (at_most_lowers b) low s is_s).0 (subst (λ y. AtMost y (promised_at (run_of w hs))) is ((x.later).keeps s is_s).promise)

  pub stays_kept : (w : World) (k : Standing members links group hear w) (hs : List Happening) → AllComeBehind group links w hs → HoldsIn members links group hear (λ x. AtMost x b) w → promised_at w ≡ b
      → RoleIn (keeping q b) (memory_of (node_at w.nodes s)).role → RoleIn (keeping q b) (memory_of (node_at (run_of w hs).nodes s)).role
  stays_kept w k hs may low is has =
      let x = behind_run members links group hear hs w k may in
      (x.later).role (keeping q b) (λ _. tt) s is_s (keeping_kept q b s members) (stays_promised w k hs may low is ∙ sym is) has

  -- ---- parts of the promise of one that stores this, from a place on
  module _ (is_q : IsOneOf group q) (other : q ≡ s → ⊥) (c : Part) (start : ℕ) where
    abbrev part_told : ℕ → List Entry → PromisedRun
    part_told at run = promised_run c start at run

    abbrev part_message : ℕ → List Entry → Msg
    part_message at run = record { conf = 1; body = body.PromisePart b (part_told at run) }

    abbrev pub part_sent : ℕ → List Entry → Sent
    part_sent at run = record { from = q; to = s; message = part_message at run }

    -- all is staged from the start up to a place
    abbrev pub Covered : Held → ℕ → Type 0
    Covered h to = (i : ℕ) → start ≤ i → i < to → Has h i

    -- ---- one of them comes
    module _ (w : World) (k : Standing members links group hear w) (a : Part) (v : Volatile) (r : Preparing) (sits : Sits (node_at w.nodes s) s a v) (is_r : v.role ≡ role.Preparing r) (own : r.ballot ≡ b) (conf : a.conf ≡ 1) (short : len_of c ≤ positions_end)
        (usable : (es : List Entry) → start + length es ≡ len_of c → is_usable a (told_by q (promised_run c start start []) es) ≡ true) (n at : ℕ) (run : List Entry) (sent : slice_get w.messages n ≡ Some (part_sent at run)) (from : start ≤ at) (full : 0 < length run) (within : at + length run ≤ len_of c) where
      abbrev told : PromisedRun
      told = part_told at run

      abbrev held : Held
      held = staged_with r q told

      abbrev w' : World
      w' = world_after w (done_event (deliver n))

      same : is_same_ballot b b ≡ true
      same = and_from (eqb b.number b.number) (eqb b.pid b.pid) (eq-eqb b.number b.number refl) (eq-eqb b.pid b.pid refl)

      counts : (is_same_ballot b r.ballot && (leb start at && is_run_to (len_of c) at run)) ≡ true
      counts =
          and_from (is_same_ballot b r.ballot) _ (ap (λ (x : Ballot). is_same_ballot b x) own ∙ same)
          (and_from (leb start at) _ (le-leb start at from) (and_from (ltb 0 (length run)) (leb (at + length run) (len_of c)) (lt-ltb 0 (length run) full) (le-leb (at + length run) (len_of c) within)))

      row_is : on_promise_part s a v.role q b told ≡ promised_once s a r q told held (promised_entries told held)
      row_is =
          ap (λ (x : role.Role). on_promise_part s a x q b told) is_r
          ∙ ap (λ (t : Bool). cond t (promised_once s a r q told held (promised_entries told held)) (nothing (role.Preparing r))) counts

      ok : is_admitted_body a (part_message at run).body ≡ true
      ok =
          and_from (leb (at + length run) positions_end) (not (eqb a.conf last_conf && has_stop run)) (le-leb (at + length run) positions_end (omega (arith, within, short)))
          (ap (λ (x : ℕ). not (eqb x last_conf && has_stop run)) conf)

      deed : deed_of w.messages (what.Deliver n) ≡ Some (record { pid = s; doing = Steps (input.Deliver q (part_message at run)) })
      deed = ap delivery sent

      -- it is staged where others are missing
      abbrev y : PartStep
      y = with_effects v (nothing (role.Preparing (with_stage r q held)))

      row : promised_entries told held ≡ None → IsRow s a v (input.Deliver q (part_message at run)) y
      row none d has stays =
          admitted s a v q (part_message at run) (part_message at run).body (sym conf) refl refl ok (λ _ _. refl) d has stays ∙ ap (with_effects v) (row_is ∙ ap (λ (o : Option (List Entry)). promised_once s a r q told held o) none)

      staged : promised_entries told held ≡ None → Sits (node_at (w').nodes s) s a (y).volatile
      staged none = (stepped w (what.Deliver n) s (input.Deliver q (part_message at run)) a v y deed (λ me st. refl) (row none) tt (ap (λ (es : List Entry). is_some (stop_at_end es)) (decides_nothing a a refl)) sits).here

      -- and kept with the last
      kept_by : (es : List Entry) → promised_entries told held ≡ Some es → RoleIn (keeping q b) (memory_of (node_at (w').nodes s)).role
      kept_by es is =
          let u = (k).up s is_s in
          let node_is : u.node ≡ (sits).node = some_same u.node (sits).node (sym u.at ∙ (sits).at) in
          let part_is : u.part ≡ a = some_same u.part a (sym u.has ∙ ap (λ (x : Node). x.state.durable.part) node_is ∙ (sits).part) in
          let memory_is : (u.node).state.volatile ≡ v = ap (λ (x : Node). x.state.volatile) node_is ∙ (sits).volatile in
          let pid_is : (u.node).pid ≡ s = ap (λ (x : Node). x.pid) node_is ∙ (sits).pid in
          let j : Promised = told_by q told es in
          let then_ : memory_of (node_at (w').nodes s) ≡ (with_effects (u.node).state.volatile (on_promise_part (u.node).pid u.part (u.node).state.volatile.role q b told)).volatile =
          memory_then members links group hear w k (done_event (deliver n)) q s is_s (part_message at run) deed refl tt refl refl (subst (λ (x : Part). is_admitted_body x (part_message at run).body ≡ true) (sym part_is) ok) (λ _ _. refl) in
          let role_is : (memory_of (node_at (w').nodes s)).role ≡ (on_promise s a (role.Preparing (without_stage r q)) r.ballot j).role =
          ap (λ (x : Volatile). x.role) then_ ∙ ap (λ (x : ℕ). (on_promise_part x u.part (u.node).state.volatile.role q b told).role) pid_is
          ∙ ap (λ (x : Part). (on_promise_part s x (u.node).state.volatile.role q b told).role) part_is ∙ ap (λ (x : Volatile). (on_promise_part s a x.role q b told).role) memory_is
          ∙ ap (λ e. e.role) (row_is ∙ ap (λ (o : Option (List Entry)). promised_once s a r q told held o) is) in
          let size : length es ≡ len_of c - start = (run_each (λ i e. Unit {0}) held start (len_of c - start) es (λ i e h. tt) is).0 in
          subst (RoleIn (keeping q b)) (sym role_is)
          (subst (λ (x : Ballot). RoleIn (keeping q b) (on_promise s a (role.Preparing (without_stage r q)) x j).role) (sym own)
          (promise_comes s a (role.Preparing (without_stage r q)) b j (usable es (whole start (length es) (len_of c) at (length run) size from within)) own))
        where
          whole : (x y z t l : ℕ) → y ≡ z - x → x ≤ t → t + l ≤ z → x + y ≡ z
          whole x y z t l e f g = omega (arith, e, f, g)

      -- what is staged then
      covers : Covered (stage_of r.stages q) at → Covered held (at + length run)
      covers f i le lt = ⊎_elim (λ (x : i < at). with_has (stage_of r.stages q) at run i (f i le x)) (λ (x : at ≤ i). with_here (stage_of r.stages q) at run i x lt) (cases_lt i at)

    -- ---- all of them come
    abbrev pub numbers : ℕ → List (List Entry) → List ℕ
    numbers n [] = []
    numbers n (run ∷ runs) = n ∷ numbers (n + 1) runs

    abbrev pub AreSent : List Sent → ℕ → ℕ → List (List Entry) → Type 0
    AreSent ms n at [] = Unit {0}
    AreSent ms n at (run ∷ runs) = (slice_get ms n ≡ Some (part_sent at run)) × AreSent ms (n + 1) (at + length run) runs

    sent_on : (w u : World) → Grows w u → (runs : List (List Entry)) (n at : ℕ) → AreSent w.messages n at runs → AreSent u.messages n at runs
    sent_on w u g [] n at a = tt
    sent_on w u g (run ∷ runs) n at a = (ap (λ (l : List Sent). slice_get l n) g.1 ∙ get_front w.messages g.0 n (part_sent at run) a.0, sent_on w u g runs (n + 1) (at + length run) a.1)

    pub over : (at : ℕ) (run : List Entry) → goes_over links (part_sent at run) ≡ true
    over at run = and_from (is_linked links q s) true ((hear).linked q s is_q is_s other) refl

    pub pass : (ms : List Sent) (runs : List (List Entry)) (n at : ℕ) → AreSent ms n at runs → Each (Passes (goes_over links) ms) (numbers n runs)
    pass ms [] n at a = tt
    pass ms (run ∷ runs) n at a = ((part_sent at run, a.0, over at run), pass ms runs (n + 1) (at + length run) a.1)

    module _ (a : Part) (conf : a.conf ≡ 1) (short : len_of c ≤ positions_end) (usable : (es : List Entry) → start + length es ≡ len_of c → is_usable a (told_by q (promised_run c start start []) es) ≡ true) where
      -- one of them, and those behind it
      module _ (run : List Entry) (runs : List (List Entry)) (n at : ℕ) (w : World) (k : Standing members links group hear w) (low : HoldsIn members links group hear (λ x. AtMost x b) w) (is : promised_at w ≡ b) (v : Volatile) (r : Preparing) (sits : Sits (node_at w.nodes s) s a v) (is_r : v.role ≡ role.Preparing r)
          (own : r.ballot ≡ b) (from : start ≤ at) (ends : at + length (joined (run ∷ runs)) ≡ len_of c) (full : NoneEmpty (run ∷ runs)) (sent : AreSent w.messages n at (run ∷ runs)) where
        abbrev then_world : World
        then_world = world_after w (done_event (deliver n))

        abbrev first_behind : AllComeBehind group links w (done_event (deliver n) ∷ [])
        first_behind = delivered_behind group links (n ∷ []) w w (grows_same w w refl) ((part_sent at run, (sent).0, over at run), tt)

        then_stands : Standing members links group hear then_world
        then_stands = (behind_run members links group hear (done_event (deliver n) ∷ []) w k first_behind).standing

        then_low : HoldsIn members links group hear (λ x. AtMost x b) then_world
        then_low = ((behind_run members links group hear (done_event (deliver n) ∷ []) w k first_behind).later).holds (λ y. AtMost y b) (at_most_lowers b) low

        then_is : promised_at then_world ≡ b
        then_is = stays_promised w k (done_event (deliver n) ∷ []) first_behind low is

        then_sent : AreSent (then_world).messages (n + 1) (at + length run) runs
        then_sent = sent_on w then_world (deliver_grows w n) runs (n + 1) (at + length run) (sent).1

        abbrev rest : List Happening
        rest = all_done (map deliver (numbers (n + 1) runs))

        rest_behind : AllComeBehind group links then_world rest
        rest_behind = delivered_behind group links (numbers (n + 1) runs) then_world then_world (grows_same then_world then_world refl) (pass (then_world).messages runs (n + 1) (at + length run) then_sent)

        ends_then : at + length run + length (joined runs) ≡ len_of c
        ends_then = three at (length run) (length (joined runs)) (len_of c) (length (joined (run ∷ runs))) (length-append run (joined runs)) ends
          where
            three : (x y z t l : ℕ) → l ≡ y + z → x + l ≡ t → x + y + z ≡ t
            three x y z t l e f = omega (arith, e, f)

        within_here : at + length run ≤ len_of c
        within_here = omega (arith, ends_then)

        abbrev held_here : Held
        held_here = staged_with r q (part_told at run)

        one_part : (promised_entries (part_told at run) held_here ≡ None → RoleIn (keeping q b) (memory_of (node_at (run_of then_world rest).nodes s)).role) → RoleIn (keeping q b) (memory_of (node_at (run_of then_world rest).nodes s)).role
        one_part next = by_entries (promised_entries (part_told at run) held_here) refl
          where
            by_entries : (o : Option (List Entry)) → promised_entries (part_told at run) held_here ≡ o → RoleIn (keeping q b) (memory_of (node_at (run_of then_world rest).nodes s)).role
            by_entries None e = next e
            by_entries (Some es) e = stays_kept then_world then_stands rest rest_behind then_low then_is (kept_by w k a v r sits is_r own conf short usable n at run (sent).0 from (full).0 within_here es e)

        next_sits : promised_entries (part_told at run) held_here ≡ None → Sits (node_at (then_world).nodes s) s a (with_effects v (nothing (role.Preparing (with_stage r q held_here)))).volatile
        next_sits none = staged w k a v r sits is_r own conf short usable n at run (sent).0 from (full).0 within_here none

        next_covers : Covered (stage_of r.stages q) at → Covered held_here (at + length run)
        next_covers f = covers w k a v r sits is_r own conf short usable n at run (sent).0 from (full).0 within_here f

      pub parts_keep : (run : List Entry) (runs : List (List Entry)) (n at : ℕ) (w : World) (k : Standing members links group hear w) → HoldsIn members links group hear (λ x. AtMost x b) w → promised_at w ≡ b → (v : Volatile) (r : Preparing) → Sits (node_at w.nodes s) s a v → v.role ≡ role.Preparing r
          → r.ballot ≡ b → Covered (stage_of r.stages q) at → start ≤ at → at + length (joined (run ∷ runs)) ≡ len_of c → NoneEmpty (run ∷ runs) → AreSent w.messages n at (run ∷ runs)
          → RoleIn (keeping q b) (memory_of (node_at (run_of w (all_done (map deliver (numbers n (run ∷ runs))))).nodes s)).role
      parts_keep run [] n at w k low is v r sits is_r own cover from ends full sent =
          one_part run [] n at w k low is v r sits is_r own from ends full sent
          (λ none. let held : Held = staged_with r q (part_told at run) in
          let all : Covered held (at + length run) = next_covers run [] n at w k low is v r sits is_r own from ends full sent cover in
          let there : is_some (held_run held start (len_of c - start)) ≡ true =
          run_full held start (len_of c - start) (λ i le lt. all i le (last i start at (length run) (len_of c) lt from (ends_then run [] n at w k low is v r sits is_r own from ends full sent))) in
          absurd (false≢true (sym (ap is_some none) ∙ there)))
        where
          last : (i x y l z : ℕ) → i < x + (z - x) → x ≤ y → y + l + 0 ≡ z → i < y + l
          last i x y l z lt le e = omega (arith, lt, le, e)
      parts_keep run (run2 ∷ runs) n at w k low is v r sits is_r own cover from ends full sent =
          one_part run (run2 ∷ runs) n at w k low is v r sits is_r own from ends full sent
          (λ none. let held : Held = staged_with r q (part_told at run) in
          let stage_is : stage_of (with_stage r q held).stages q ≡ held = ap (λ (f : ℕ → Held). f q) (staged-with r.stages q held) ∙ ap (λ (t : Bool). cond t held (stage_of r.stages q)) (eq-eqb q q refl) in
          parts_keep run2 runs (n + 1) (at + length run) (world_after w (done_event (deliver n)))
          (then_stands run (run2 ∷ runs) n at w k low is v r sits is_r own from ends full sent)
          (then_low run (run2 ∷ runs) n at w k low is v r sits is_r own from ends full sent)
          (then_is run (run2 ∷ runs) n at w k low is v r sits is_r own from ends full sent)
          (with_effects v (nothing (role.Preparing (with_stage r q held)))).volatile (with_stage r q held)
          (next_sits run (run2 ∷ runs) n at w k low is v r sits is_r own from ends full sent none) refl own
          (subst (λ (h : Held). Covered h (at + length run)) (sym stage_is) (next_covers run (run2 ∷ runs) n at w k low is v r sits is_r own from ends full sent cover))
          (omega (arith, from))
          (ends_then run (run2 ∷ runs) n at w k low is v r sits is_r own from ends full sent) full.1
          (then_sent run (run2 ∷ runs) n at w k low is v r sits is_r own from ends full sent))
