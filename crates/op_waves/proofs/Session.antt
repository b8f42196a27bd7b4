-- A member begins its session with the owner of a ballot anew: it is asked for its promise, and its answer comes to the owner.
use Rattle.std.proofs.Common.{◌≡◌, ◌<◌, ◌≤◌, ◌+◌, ◌-◌, inl, inr, ⊎_elim, not, ℕ, suc, Bool, true, false, cond, eqb, leb, ltb, nat_eq, is_some, List, [], ◌∷◌, ◌++◌, length, map, slice_get, Option, Some, refl, sym, ap, ◌∙◌, subst, append-nil, append_assoc, length-append, drop_of_length-le, arith}
use Rattle.std.proofs.lemmas.Bool.{cond_both, and_from, le-ltb, ne_eqb, cases_lt, true≢false}
use Rattle.std.proofs.lemmas.List.{map-append}
use Rattle.std.proofs.Math.Seq.{drop-append_seam}
use Rattle.std.specs.Set.{is_member}
use Rattle.op_types.specs.Ballots.{is_below}
use Rattle.op_types.specs.Changes.{len_of}
use Rattle.op_types.specs.Effects.{Effects}
use Rattle.op_types.specs.Limits.{most_part_bytes, positions_end}
use Rattle.op_types.specs.RoleStates.{Preparing, told_by}
use Rattle.op_types.proofs.Cuts.{joined, cut_joined, cut_full, cut_some, NoneEmpty}
use Rattle.op_types.specs.Cutting.{entries_size, cut, parts_from}
use Rattle.op_types.specs.Stops.{stop_at_end}
use Rattle.op_types.specs.Roles as role
use Rattle.op_types.specs.Roles.{Role}
use Rattle.op_types.specs.declared.ballot.Ballot.{Ballot}
use Rattle.op_types.specs.declared.durable.Joining.{Joining}
use Rattle.op_types.specs.declared.durable.Part.{Part}
use Rattle.op_types.specs.declared.events.Input.TheVariants as input
use Rattle.op_types.specs.declared.log.Entry.{Entry}
use Rattle.op_types.specs.declared.messages.Body.{Body}
use Rattle.op_types.specs.declared.messages.Body.TheVariants as body
use Rattle.op_types.specs.declared.messages.Msg.{Msg}
use Rattle.op_types.specs.declared.role.Promised.{Promised}
use Rattle.op_protocol.specs.State.{Volatile, PartStep, with_effects}
use Rattle.op_protocol.specs.Parts.{part_after, decided_since, log_from, others, message, messages, prepare_body, promise_bodies, promised_run, saying, nothing, first}
use Rattle.op_protocol.specs.Follower.{suffix_start, promise_higher, on_prepare}
use Rattle.op_protocol.specs.Promises.{is_usable}
use Rattle.op_protocol.specs.Leader.{on_prepare_req}
use Rattle.op_protocol.specs.Rows.{up_at}
use Rattle.op_runs.specs.declared.events.What.TheVariants as what
use Rattle.op_runs.specs.declared.events.Event.{Event}
use Rattle.op_runs.specs.World.{World, Node, Steps, Sent, Happening, delivery, deed_of, node_at, sent_by, world_after, run_of, done_event, all_done}
use Rattle.op_gen.specs.Links.{Links, is_linked}
use Rattle.op_lockstep.specs.Lockstep.{event_of, after_events, numbers_of, deliveries}
use Rattle.op_lockstep.specs.Reach.{IsOneOf}
use Rattle.op_lockstep.proofs.Lists.{Each, by_test}
use Rattle.op_lockstep.proofs.Batches.{IsLight, decides_nothing}
use Rattle.op_lockstep.proofs.Seats.{Sits, After, IsRow, stepped, found_id, found_of}
use Rattle.op_lockstep.proofs.Delivering.{admitted, get_behind}
use Rattle.op_lockstep.proofs.Reached.{IsFirst, IfFirst, IsCleanNode}
use Rattle.op_progress.specs.Progress.{HearOneAnother, AllComeBehind, GoesOver, is_heartbeat, prepare_of, promise_of_ballot, HasSuffix, HasSuffixAt, PrepareComes, MayAdopt, MayAdoptAt, PromiseComes, ComesBy}
use Rattle.op_progress.specs.Trimmed.{prepare_telling}
use Rattle.op_progress.proofs.Rows.{RoleIn, only}
use Rattle.op_progress.proofs.Orders.{AtMost}
use Rattle.op_progress.proofs.Behind.{memory_of, Standing, HoldsIn, behind_run, told_run}
use Rattle.op_progress.proofs.Keeping.{keeping}
use Rattle.op_progress.proofs.Settling.{at_most_lowers}
use Rattle.op_progress.proofs.Groups.{member_filter}
use Rattle.op_waves.specs.Waves.{goes_over, waves, session}
use Rattle.op_waves.proofs.Logs.{answer_to}
use Rattle.op_waves.proofs.Growing.{run_append, grows_same, deliver, over_link, delivered_behind, waves_come}
use Rattle.op_waves.proofs.Logs.{behind}
use Rattle.op_waves.proofs.Parts.{promised_at, stays_promised, stays_kept, AreSent, numbers, part_sent, over, pass, parts_keep}

-- ---- a wave of one message
one_wave : (links : Links) (w : World) (pre : List Sent) (m : Sent) (k : ℕ) → w.messages ≡ pre ++ m ∷ [] → goes_over links m ≡ true
    → waves links (length pre) (suc k) w ≡ deliver (length pre) ∷ waves links (length w.messages) k (world_after w (done_event (deliver (length pre))))
one_wave links w pre m k is goes =
    let n : ℕ = length pre in
    let one : deliveries (goes_over links) n w.messages ≡ deliver n ∷ [] =
    ap (λ (ms : List Sent). deliveries (goes_over links) n ms) is ∙ ap (λ (l : List Sent). map deliver (numbers_of (goes_over links) n l)) (drop-append_seam pre (m ∷ []))
    ∙ ap (λ (t : Bool). map deliver (cond t (n ∷ []) [])) goes in
    ap (λ (es : List Event). es ++ waves links (length w.messages) k (after_events w es)) one

-- ---- rows
-- who prepares or leads a ballot asks for its promise when it is asked to
asked_is : (a : Part) (r : Role) (q : ℕ) (b : Ballot) → RoleIn (only b) r → on_prepare_req a r q ≡ saying r (message a.conf q (prepare_body a b) ∷ [])
asked_is a role.Idle q b k = absurd k
asked_is a (role.Preparing r) q b k = ap (λ (x : Ballot). saying (role.Preparing r) (message a.conf q (prepare_body a x) ∷ [])) k
asked_is a (role.Leading l) q b k = ap (λ (x : Ballot). saying (role.Leading l) (message a.conf q (prepare_body a x) ∷ [])) k

-- what is done where a ballot is asked for that isn't below the promise
abbrev answering : ℕ → Part → Role → ℕ → Ballot → ℕ → Effects
answering conf c r s b start = first [] (messages conf s (promise_bodies c b start)) [] (promise_higher c r b)

prepare_is : (c : Part) (r : Role) (s : ℕ) (b na : Ballot) (nl nd : ℕ) → is_below b c.promised ≡ false → c.trimmed ≤ suffix_start c na nl nd → on_prepare c r s b na nl nd ≡ answering c.conf c r s b (suffix_start c na nl nd)
prepare_is c r s b na nl nd low has =
    let start : ℕ = suffix_start c na nl nd in
    let full : Effects = answering c.conf c r s b start in
    ap (λ (t : Bool). cond t (saying r (message c.conf s (body.Refuse b c.promised) ∷ [])) (cond (ltb start c.trimmed) (nothing r) full)) low ∙ ap (λ (t : Bool). cond t (nothing r) full) (le-ltb start c.trimmed has)

answer_light : (conf : ℕ) (c : Part) (r : Role) (s : ℕ) (b : Ballot) (start : ℕ) → Each IsLight (answering conf c r s b start).batch
answer_light conf c r s b start = cond_both (is_below c.promised b) _ _ (λ (e : Effects). Each IsLight e.batch) (λ _. (tt, tt)) (λ _. tt)

answer_decides : (conf : ℕ) (c : Part) (r : Role) (s : ℕ) (b : Ballot) (start : ℕ) → (part_after c (answering conf c r s b start).batch).decided ≡ c.decided
answer_decides conf c r s b start = cond_both (is_below c.promised b) _ _ (λ (e : Effects). (part_after c e.batch).decided ≡ c.decided) (λ _. refl) (λ _. refl)

higher_sends : (c : Part) (r : Role) (b : Ballot) → (let none : List (ℕ × Msg) = [] in (promise_higher c r b).sends ≡ none)
higher_sends c r b = cond_both (is_below c.promised b) _ _ (λ (e : Effects). let none : List (ℕ × Msg) = [] in e.sends ≡ none) (λ _. refl) (λ _. refl)

answer_sends : (conf : ℕ) (c : Part) (r : Role) (s : ℕ) (b : Ballot) (start : ℕ) → (answering conf c r s b start).sends ≡ messages conf s (promise_bodies c b start)
answer_sends conf c r s b start = ap (λ (l : List (ℕ × Msg)). messages conf s (promise_bodies c b start) ++ l) (higher_sends c r b) ∙ append-nil (messages conf s (promise_bodies c b start))

-- one message brings it, or several do
abbrev part_body : Part → Ballot → ℕ → ℕ → List Entry → Body
part_body c b start at run = body.PromisePart b (promised_run c start at run)

-- ---- the session
module _ (members : List ℕ) (links : Links) (group : List ℕ) (hear : HearOneAnother members links group) (w : World) (stands : Standing members links group hear w) (s q : ℕ) (is_s : IsOneOf group s) (is_q : IsOneOf group q) (other : q ≡ s → ⊥) (b : Ballot) (more : ℕ) where
  abbrev part_at : (p : ℕ) → IsOneOf group p → Part
  part_at p m = ((stands).up p m).part

  abbrev memory_at : (p : ℕ) → IsOneOf group p → Volatile
  memory_at p m = (((stands).up p m).node).state.volatile

  clean_at : (p : ℕ) (m : IsOneOf group p) → IsCleanNode members ((stands).up p m).node
  clean_at p m = found_of (IsCleanNode members) w.nodes p ((stands).up p m).node ((stands).up p m).at (((stands).sound).clean).nodes

  first_at : (p : ℕ) (m : IsOneOf group p) → IsFirst members (part_at p m)
  first_at p m = subst (IfFirst members) ((stands).up p m).has ((clean_at p m).stored).part

  sits : (p : ℕ) (m : IsOneOf group p) → Sits (node_at w.nodes p) p (part_at p m) (memory_at p m)
  sits p m =
      let u = (stands).up p m in
      record { node = u.node; at = u.at; pid = found_id w.nodes p u.node u.at; up = u.up; part = u.has; stays = ((clean_at p m).stored).joining; volatile = refl }

  abbrev a : Part
  a = part_at s is_s

  abbrev c : Part
  c = part_at q is_q

  abbrev vs : Volatile
  vs = memory_at s is_s

  abbrev vq : Volatile
  vq = memory_at q is_q

  conf_s : (a).conf ≡ 1
  conf_s = (first_at s is_s).conf_is

  conf_q : (c).conf ≡ 1
  conf_q = (first_at q is_q).conf_is

  linked : (p r : ℕ) → IsOneOf group p → IsOneOf group r → (p ≡ r → ⊥) → (bo : Body) → is_heartbeat bo ≡ false → goes_over links (record { from = p; to = r; message = record { conf = 1; body = bo } }) ≡ true
  linked p r m k d bo e = and_from (is_linked links p r) (not (is_heartbeat bo)) ((hear).linked p r m k d) (ap not e)

  -- the others of q have s among them
  is_other : is_member nat_eq (others q (c).members) s ≡ true
  is_other = member_filter (λ r. not (eqb r q)) (c).members s (subst (λ (l : List ℕ). IsOneOf l s) (sym (first_at q is_q).members_are) ((hear).all_members s is_s)) (ap not (ne_eqb s q (λ e. other (sym e))))

  -- parts that are sent, and what delivers them
  module _ (start : ℕ) where
    abbrev parts_sent : ℕ → List (List Entry) → List Sent
    parts_sent at runs = sent_by q (messages 1 s (parts_from (part_body c b start) at runs))

    sent_there : (runs : List (List Entry)) (pre : List Sent) (at n : ℕ) → length pre ≡ n → AreSent members links group hear s q is_s b is_q other c start (pre ++ parts_sent at runs) n at runs
    sent_there [] pre at n is = tt
    sent_there (run ∷ runs) pre at n is =
        let x : Sent = part_sent members links group hear s q is_s b is_q other c start at run in
        let rest : List Sent = parts_sent (at + length run) runs in (
          get_behind pre x rest n is,
          subst (λ (l : List Sent). AreSent members links group hear s q is_s b is_q other c start l (n + 1) (at + length run) runs) (append_assoc pre (x ∷ []) rest)
              (sent_there runs (pre ++ x ∷ []) (at + length run) (n + 1) (length-append pre (x ∷ []) ∙ ap (λ (k : ℕ). k + 1) is)),
        )

    numbers_are : (runs : List (List Entry)) (at n : ℕ) → numbers_of (goes_over links) n (parts_sent at runs) ≡ numbers members links group hear s q is_s b is_q other c start n runs
    numbers_are [] at n = refl
    numbers_are (run ∷ runs) at n =
        let rest : List ℕ = numbers_of (goes_over links) (n + 1) (parts_sent (at + length run) runs) in
        ap (λ (t : Bool). cond t (n ∷ rest) rest) (over members links group hear s q is_s b is_q other c start at run) ∙ ap (λ (l : List ℕ). n ∷ l) (numbers_are runs (at + length run) (n + 1))

  -- ---- the session begins
  abbrev w1 : World
  w1 = world_after w (done_event (event_of (what.Up q s)))

  abbrev m0 : Sent
  m0 = record { from = q; to = s; message = record { conf = 1; body = body.PrepareReq } }

  abbrev y0 : PartStep
  y0 = with_effects vq (saying (vq).role (message 1 s body.PrepareReq ∷ []))

  row0 : IsRow q c vq (input.Up s) y0
  row0 d has stays =
      ap (λ (o : Option Part). up_at q d o d.joining vq s) has ∙ ap (λ (j : Option Joining). up_at q d (Some c) j vq s) stays
      ∙ ap (λ (t : Bool). with_effects vq (cond t (saying (vq).role (message (c).conf s body.PrepareReq ∷ [])) (nothing (vq).role))) is_other
      ∙ ap (λ (k : ℕ). with_effects vq (saying (vq).role (message k s body.PrepareReq ∷ []))) conf_q

  unended : (p : Part) → is_some (stop_at_end (decided_since p p)) ≡ false
  unended p = ap (λ (es : List Entry). is_some (stop_at_end es)) (decides_nothing p p refl)

  x0 : After w w1 q c (y0).volatile (y0).sends
  x0 = stepped w (what.Up q s) q (input.Up s) c vq y0 refl (λ me st. refl) row0 tt (unended c) (sits q is_q)

  sent0 : (w1).messages ≡ w.messages ++ m0 ∷ []
  sent0 = (x0).messages

  -- ---- the owner asks for a promise
  module _ (head : RoleIn (only b) (vs).role) where
    abbrev w2 : World
    w2 = world_after w1 (done_event (deliver (length w.messages)))

    abbrev m1 : Sent
    m1 = record { from = s; to = q; message = record { conf = 1; body = prepare_body a b } }

    abbrev y1 : PartStep
    y1 = with_effects vs (saying (vs).role (message 1 q (prepare_body a b) ∷ []))

    row1 : IsRow s a vs (input.Deliver q (m0).message) y1
    row1 d has stays =
        admitted s a vs q (m0).message body.PrepareReq (sym conf_s) refl refl refl (λ _ _. refl) d has stays ∙ ap (with_effects vs) (asked_is a (vs).role q b head)
        ∙ ap (λ (k : ℕ). with_effects vs (saying (vs).role (message k q (prepare_body a b) ∷ []))) conf_s

    deed1 : deed_of (w1).messages (what.Deliver (length w.messages)) ≡ Some (record { pid = s; doing = Steps (input.Deliver q (m0).message) })
    deed1 = ap delivery (ap (λ (l : List Sent). slice_get l (length w.messages)) sent0 ∙ get_behind w.messages m0 [] (length w.messages) refl)

    sits1 : Sits (node_at (w1).nodes s) s a vs
    sits1 = subst (λ (o : Option Node). Sits o s a vs) (sym ((x0).others s (λ e. other (sym e)))) (sits s is_s)

    x1 : After w1 w2 s a (y1).volatile (y1).sends
    x1 = stepped w1 (what.Deliver (length w.messages)) s (input.Deliver q (m0).message) a vs y1 deed1 (λ me st. refl) row1 tt (unended a) sits1

    sent1 : (w2).messages ≡ (w1).messages ++ m1 ∷ []
    sent1 = (x1).messages

    -- ---- it is promised
    abbrev w3 : World
    w3 = world_after w2 (done_event (deliver (length (w1).messages)))

    abbrev v1 : Volatile
    v1 = (y0).volatile

    abbrev start : ℕ
    start = suffix_start c (a).accepted (len_of a) (a).decided

    abbrev told : Promised
    told = answer_to a q c

    abbrev m2 : Sent
    m2 = record { from = q; to = s; message = promise_of_ballot b told }

    sits2 : Sits (node_at (w2).nodes q) q c v1
    sits2 = subst (λ (o : Option Node). Sits o q c v1) (sym ((x1).others q other)) (x0).here

    deed2 : deed_of (w2).messages (what.Deliver (length (w1).messages)) ≡ Some (record { pid = q; doing = Steps (input.Deliver s (prepare_of (prepare_telling b a))) })
    deed2 = ap delivery (ap (λ (l : List Sent). slice_get l (length (w1).messages)) sent1 ∙ get_behind (w1).messages m1 [] (length (w1).messages) refl)

    module _ (low : is_below b (c).promised ≡ false) (has : HasSuffix (prepare_telling b a) (Some c)) where
      abbrev y2 : PartStep
      y2 = with_effects v1 (answering 1 c (v1).role s b start)

      row2 : IsRow q c v1 (input.Deliver s (m1).message) y2
      row2 d stored stays =
          admitted q c v1 s (m1).message (prepare_body a b) (sym conf_q) refl refl refl (λ _ _. refl) d stored stays
          ∙ ap (with_effects v1) (prepare_is c (v1).role s b (a).accepted (len_of a) (a).decided low has) ∙ ap (λ (k : ℕ). with_effects v1 (answering k c (v1).role s b start)) conf_q

      x2 : After w2 w3 q (part_after c (y2).batch) (y2).volatile (y2).sends
      x2 = stepped w2 (what.Deliver (length (w1).messages)) q (input.Deliver s (m1).message) c v1 y2 deed2 (λ me st. refl) row2 (answer_light 1 c (v1).role s b start)
          (ap (λ (es : List Entry). is_some (stop_at_end es)) (decides_nothing c (part_after c (y2).batch) (answer_decides 1 c (v1).role s b start))) sits2

      -- a Prepare comes
      prepare_comes : PrepareComes b s q w2 (done_event (deliver (length (w1).messages)))
      prepare_comes =
          record {
            asking = prepare_telling b a;
            is = refl;
            comes = deed2;
            has = subst (HasSuffixAt (prepare_telling b a)) (sym (sits2).at) (subst (HasSuffix (prepare_telling b a)) (sym (sits2).part) has);
          }

      abbrev since : ℕ
      since = length (w2).messages

      goes0 : goes_over links m0 ≡ true
      goes0 = linked q s is_q is_s other body.PrepareReq refl

      goes1 : goes_over links m1 ≡ true
      goes1 = linked s q is_s is_q (λ e. other (sym e)) (prepare_body a b) refl

      session_is : session links (suc (suc (suc more))) (q, s) w ≡ event_of (what.Up q s) ∷ deliver (length w.messages) ∷ deliver (length (w1).messages) ∷ waves links since (suc more) w3
      session_is =
          ap (λ (es : List Event). event_of (what.Up q s) ∷ es)
          (one_wave links w1 w.messages m0 (suc (suc more)) sent0 goes0 ∙ ap (λ (es : List Event). deliver (length w.messages) ∷ es) (one_wave links w2 (w1).messages m1 (suc more) sent1 goes1))

      pub asked_in : ComesBy (λ v h. PrepareComes b s q v h) w (all_done (session links (suc (suc (suc more))) (q, s) w))
      asked_in = subst (λ (es : List Event). ComesBy (λ v h. PrepareComes b s q v h) w (all_done es)) (sym session_is) (inr (inr (inl prepare_comes)))

      -- ---- its answer comes to the owner
      module _ (all_low : HoldsIn members links group hear (λ x. AtMost x b) w) (promised : promised_at members links group hear s q is_s b w ≡ b) (may : MayAdopt told (Some a)) (short : len_of c ≤ positions_end)
          (usable : (es : List Entry) → start + length es ≡ len_of c → is_usable a (told_by q (promised_run c start start []) es) ≡ true) where
        abbrev first_three : List Happening
        first_three = done_event (event_of (what.Up q s)) ∷ done_event (deliver (length w.messages)) ∷ done_event (deliver (length (w1).messages)) ∷ []

        may_come : AllComeBehind group links w first_three
        may_come =
            let goes_one : GoesOver links (slice_get (w1).messages (length w.messages)) =
            subst (GoesOver links) (sym (ap (λ (l : List Sent). slice_get l (length w.messages)) sent0 ∙ get_behind w.messages m0 [] (length w.messages) refl)) (over_link links m0 goes0) in
            let goes_two : GoesOver links (slice_get (w2).messages (length (w1).messages)) =
            subst (GoesOver links) (sym (ap (λ (l : List Sent). slice_get l (length (w1).messages)) sent1 ∙ get_behind (w1).messages m1 [] (length (w1).messages) refl)) (over_link links m1 goes1) in
            ((tt, inr (refl, tt)), ((tt, inr (refl, goes_one)), ((tt, inr (refl, goes_two)), tt)))

        stands3 : Standing members links group hear w3
        stands3 = (behind_run members links group hear first_three w stands may_come).standing

        low3 : HoldsIn members links group hear (λ x. AtMost x b) w3
        low3 = ((behind_run members links group hear first_three w stands may_come).later).holds (λ y. AtMost y b) (at_most_lowers b) all_low

        promised3 : promised_at members links group hear s q is_s b w3 ≡ b
        promised3 = stays_promised members links group hear s q is_s b w stands first_three may_come all_low promised

        sits3 : Sits (node_at (w3).nodes s) s a (y1).volatile
        sits3 = subst (λ (o : Option Node). Sits o s a (y1).volatile) (sym ((x2).others s (λ e. other (sym e)))) (x1).here

        head3 : RoleIn (only b) (memory_of (node_at (w3).nodes s)).role
        head3 = subst (λ (o : Option Node). RoleIn (only b) (memory_of o).role) (sym (sits3).at) (subst (λ (x : Volatile). RoleIn (only b) x.role) (sym (sits3).volatile) head)

        sent_all : (w3).messages ≡ (w2).messages ++ sent_by q (messages 1 s (promise_bodies c b start))
        sent_all = (x2).messages ∙ ap (λ (l : List (ℕ × Msg)). (w2).messages ++ sent_by q l) (answer_sends 1 c (v1).role s b start)

        abbrev later : List Event
        later = waves links since (suc more) w3

        later_come : AllComeBehind group links w3 (all_done later)
        later_come = waves_come group links (suc more) since w3

        abbrev Keeps : World → Type 0
        Keeps u = RoleIn (keeping q b) (memory_of (node_at u.nodes s)).role

        abbrev size : Bool
        size = leb (entries_size (log_from c start)) most_part_bytes

        -- one message brings it
        whole : size ≡ true → Keeps (run_of w3 (all_done later))
        whole small =
            let one : Body = (promise_of_ballot b told).body in
            let bodies : promise_bodies c b start ≡ one ∷ [] = ap (λ (t : Bool). cond t (one ∷ []) (parts_from (part_body c b start) start (cut (log_from c start)))) small in
            let sent2 : (w3).messages ≡ (w2).messages ++ m2 ∷ [] = sent_all ∙ ap (λ (l : List Body). (w2).messages ++ sent_by q (messages 1 s l)) bodies in
            let deed3 : deed_of (w3).messages (what.Deliver since) ≡ Some (record { pid = s; doing = Steps (input.Deliver q (promise_of_ballot b told)) }) =
            ap delivery (ap (λ (l : List Sent). slice_get l since) sent2 ∙ get_behind (w2).messages m2 [] since refl) in
            let comes : PromiseComes b q s w3 (done_event (deliver since)) = record { told = told; from = refl; comes = deed3; may = subst (MayAdoptAt told) (sym (sits3).at) (subst (MayAdopt told) (sym (sits3).part) may) } in
            let wave_is = one_wave links w3 (w2).messages m2 more sent2 (linked q s is_q is_s other one refl) in
            told_run members links group hear b q s is_s (all_done later) w3 stands3 later_come (subst (λ (es : List Event). ComesBy (λ v h. PromiseComes b q s v h) w3 (all_done es)) (sym wave_is) (inl comes)) promised3
            (stays_promised members links group hear s q is_s b w3 stands3 (all_done later) later_come low3 promised3) head3

        -- its parts do
        parts : (r : Preparing) → (vs).role ≡ role.Preparing r → size ≡ false → Keeps (run_of w3 (all_done later))
        parts r is_r long = by_runs (cut (log_from c start)) refl
          where
            es : List Entry
            es = log_from c start

            within : start ≤ len_of c
            within =
                ⊎_elim
                (λ (less : len_of c < start). let none : log_from c start ≡ [] = drop_of_length-le c.tail.items (past start c.trimmed (length c.tail.items) less) in
                absurd (true≢false (sym (ap (λ (l : List Entry). leb (entries_size l) most_part_bytes) none) ∙ long)))
                (λ (le : start ≤ len_of c). le) (cases_lt (len_of c) start)
              where
                past : (x t n : ℕ) → t + n < x → n ≤ x - t
                past x t n less = omega (arith, less)

            ends : start + length es ≡ len_of c
            ends = behind c start has within

            own : r.ballot ≡ b
            own = subst (RoleIn (only b)) is_r head

            by_runs : (runs : List (List Entry)) → cut (log_from c start) ≡ runs → Keeps (run_of w3 (all_done later))
            by_runs [] e = absurd (none (subst (λ (l : List (List Entry)). 0 < length l) e (cut_some es long)))
              where
                none : 0 < 0 → ⊥
                none lt = absurd (omega (arith, lt))
            by_runs (run ∷ runs) e =
                let all : List (List Entry) = run ∷ runs in
                let bodies : promise_bodies c b start ≡ parts_from (part_body c b start) start all =
                ap (λ (t : Bool). cond t ((promise_of_ballot b told).body ∷ []) (parts_from (part_body c b start) start (cut es))) long ∙ ap (parts_from (part_body c b start) start) e in
                let sent : List Sent = sent_by q (messages 1 s (parts_from (part_body c b start) start all)) in
                let sent_is : (w3).messages ≡ (w2).messages ++ sent = sent_all ∙ ap (λ (l : List Body). (w2).messages ++ sent_by q (messages 1 s l)) bodies in
                let sent_are : AreSent members links group hear s q is_s b is_q other c start (w3).messages since start all =
                subst (λ (l : List Sent). AreSent members links group hear s q is_s b is_q other c start l since start all) (sym sent_is) (sent_there start all (w2).messages start since refl) in
                let ns : List ℕ = numbers members links group hear s q is_s b is_q other c start since all in
                let xs : List Event = map deliver ns in
                let now : deliveries (goes_over links) since (w3).messages ≡ xs =
                ap (λ (l : List Sent). deliveries (goes_over links) since l) sent_is ∙ ap (λ (l : List Sent). map deliver (numbers_of (goes_over links) since l)) (drop-append_seam (w2).messages sent) ∙ ap (map deliver) (numbers_are start all start since) in
                let ys : List Event = waves links (length (w3).messages) more (after_events w3 xs) in
                let wave_is : later ≡ xs ++ ys = ap (λ (l : List Event). l ++ waves links (length (w3).messages) more (after_events w3 l)) now in
                let joined_is : start + length (joined all) ≡ len_of c = ap (λ (l : List Entry). start + length l) (ap joined (sym e) ∙ cut_joined es) ∙ ends in
                let keep : Keeps (run_of w3 (all_done xs)) =
                parts_keep members links group hear s q is_s b is_q other c start a conf_s short usable run runs since start w3 stands3 low3 promised3 (y1).volatile r sits3 is_r own (λ i le lt. absurd (omega (arith, le, lt))) (omega arith) joined_is
                (subst NoneEmpty e (cut_full es)) sent_are in
                let xs_come : AllComeBehind group links w3 (all_done xs) = delivered_behind group links ns w3 w3 (grows_same w3 w3 refl) (pass members links group hear s q is_s b is_q other c start (w3).messages all since start sent_are) in
                let x = behind_run members links group hear (all_done xs) w3 stands3 xs_come in
                let w4 : World = run_of w3 (all_done xs) in
                let low4 : HoldsIn members links group hear (λ x. AtMost x b) w4 = (x.later).holds (λ y. AtMost y b) (at_most_lowers b) low3 in
                let promised4 = stays_promised members links group hear s q is_s b w3 stands3 (all_done xs) xs_come low3 promised3 in
                let world_is : run_of w3 (all_done later) ≡ run_of w4 (all_done ys) = ap (λ (l : List Event). run_of w3 (all_done l)) wave_is ∙ ap (run_of w3) (map-append done_event xs ys) ∙ run_append w3 (all_done xs) (all_done ys) in
                subst Keeps (sym world_is) (stays_kept members links group hear s q is_s b w4 x.standing (all_done ys) (waves_come group links more (length (w3).messages) w4) low4 promised4 keep)

        kept_then : Keeps (run_of w3 (all_done later))
        kept_then = by_role (vs).role refl
          where
            by_role : (r : Role) → (vs).role ≡ r → Keeps (run_of w3 (all_done later))
            by_role role.Idle e = absurd (subst (RoleIn (only b)) e head)
            by_role (role.Leading l) e =
                stays_kept members links group hear s q is_s b w3 stands3 (all_done later) later_come low3 promised3
                (subst (λ (o : Option Node). RoleIn (keeping q b) (memory_of o).role) (sym (sits3).at) (subst (λ (x : Volatile). RoleIn (keeping q b) x.role) (sym (sits3).volatile) (subst (RoleIn (keeping q b)) (sym e) (subst (RoleIn (only b)) e head))))
            by_role (role.Preparing r) e = by_test size (λ (t : Bool). size ≡ t → Keeps (run_of w3 (all_done later))) (λ _ k. whole k) (λ _ k. parts r e k) refl

        pub kept_in : Keeps (run_of w (all_done (session links (suc (suc (suc more))) (q, s) w)))
        kept_in = subst (λ (x : List Event). Keeps (run_of w (all_done x))) (sym session_is) kept_then
