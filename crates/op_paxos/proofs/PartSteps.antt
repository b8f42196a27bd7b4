-- The steps at the parts of long messages: what is staged is right, and so is what it makes whole.
use Rattle.std.proofs.Common.{◌≡◌, ℕ, ◌+◌, ◌-◌, ◌<◌, ◌≤◌, ◌⊎◌, ⊎_elim, List, [], ◌∷◌, ◌++◌, length, ◌&&◌, take, refl, sym, ap, ◌∙◌, subst, arith, Option, Some, None, ◌==◌, length-append}
use Rattle.std.specs.Prelude.{nat_lt, nat_le, slice_get}
use Rattle.std.proofs.lemmas.Bool.{cond_both, and_parts, eqb-true, ltb-true, leb-true}
use Rattle.std.proofs.lemmas.List.{take_all, length-drop, length-take-le}
use Rattle.op_types.specs.declared.log.Entry.{Entry}
use Rattle.op_types.specs.Joinings.{Held, held_with, held_run}
use Rattle.op_types.specs.Stages.{front_from, staged_from}
use Rattle.op_spec.specs.Machine.{with_at}
use Rattle.op_paxos.specs.Nodes.{Promised, Role, Idle, Preparing, Leading, Node}
use Rattle.op_paxos.specs.Messages.{PromisedRun, SyncRun, Accepted, PrepareReq, Effect, packet, silent}
use Rattle.op_paxos.specs.Parts.{is_run_to, told_by}
use Rattle.op_paxos.specs.Follower.{synced_to, unstaged, synced_once, on_first_part, appended_staged, on_later_part, on_accept_sync_part}
use Rattle.op_paxos.proofs.History.{History, HistoryOk}
use Rattle.op_paxos.proofs.Invariant.{MsgOk, PromOk, SliceOk, SyncOk, PromPartOk, SyncPartOk, ToldEntry, StagedOk, RoleOk, NodeOk}
use Rattle.op_types.proofs.Elements.{get_right, get_take, get_drop, get_same, slice_from}
use Rattle.op_types.proofs.Stages.{EachHeld, StandsIn, with_each, run_is, front_is, left_each}
use Rattle.op_types.proofs.Cuts.{run_get}
use Rattle.op_paxos.proofs.PlainSteps.{Here, keep, still_ok, vote_led, VoteOk, voted, vote_step}
use Rattle.op_paxos.proofs.FollowerSteps.{Goes, accepted_goes, grown_role, sync_goes}
use Rattle.op_paxos.proofs.Membership.{single}

-- an entry of a slice stands in the leader's log
pub slice_get_full : (g : History) (n a : ℕ) (es : List Entry) → SliceOk g n a es → (k : ℕ) (e : Entry) → slice_get es k ≡ Some e → slice_get (g.full n) (a + k) ≡ Some e
slice_get_full g n a es o k e h =
    let z : length (take a (g.full n)) + k ≡ a + k = omega (arith, length-take-le a (g.full n) (omega (arith, o.within))) in
    get_take (a + length es) (g.full n) (a + k) e
    (ap (λ (l : List Entry). slice_get l (a + k)) o.prefix ∙ subst (λ j. slice_get (take a (g.full n) ++ es) j ≡ Some e) z (get_right (take a (g.full n)) es k e h))

-- an entry that a promise told stands in its round's log
pub told_get_full : (ms : List ℕ) (pr ac : ℕ → ℕ) (g : History) (q p n : ℕ) (pm : Promised) → PromOk ms pr ac g q p n pm → (k : ℕ) (e : Entry) → slice_get pm.rest k ≡ Some e → slice_get (g.full pm.round) (pm.start + k) ≡ Some e
told_get_full ms pr ac g q p n pm o k e h =
    get_take pm.size (g.full pm.round) (pm.start + k) e (get_drop pm.start (take pm.size (g.full pm.round)) k e (ap (λ (l : List Entry). slice_get l k) (sym o.rest) ∙ h))

module _ (ms : List ℕ) (pr ac : ℕ → ℕ) (g : History) (p : ℕ) (nd : Node) where
  -- a stage is no matter of a role
  role_staged : (s : Held) (r : Role) → RoleOk ms pr ac g p nd r → RoleOk ms pr ac g p (record nd { staged = s }) r
  role_staged s Idle o = tt
  role_staged s (Preparing r) o = record { promised = o.promised; owned = o.owned; unled = o.unled; kept = o.kept; usable = o.usable; parts = o.parts }
  role_staged s (Leading l) o = record { promised = o.promised; accepted = o.accepted; owned = o.owned; log_is = o.log_is; size_is = o.size_is; below = o.below; led = o.led; fits = o.fits; same = o.same; acked = o.acked }

  -- a node with another stage that is right
  node_staged : (s : Held) → StagedOk g nd.promised s → NodeOk ms pr ac g p nd → NodeOk ms pr ac g p (record nd { staged = s })
  node_staged s h o = record { within = o.within; log_is = o.log_is; vote = o.vote; last = o.last; fits = o.fits; sure = o.sure; staged = h; role = role_staged s nd.role o.role }

-- what leaves the stage is no matter of the rest
unstaged_goes : (ms : List ℕ) (pr ac : ℕ → ℕ) (g : History) (p : ℕ) (o : Effect) → Goes ms pr ac g p o → Goes ms pr ac g p (unstaged o)
unstaged_goes ms pr ac g p o s = (
  s.0,
  record {
    up_promised = (s.1).up_promised;
    up_accepted = (s.1).up_accepted;
    ext = (s.1).ext;
    hist = (s.1).hist;
    led = (s.1).led;
    node = node_staged ms (with_at p (o.node).promised pr) (with_at p (o.node).accepted ac) s.0 p o.node (staged_from (o.node).staged (length (o.node).log))
        (left_each (λ i e. (0 < (s.0).mark (o.node).promised) × (slice_get ((s.0).full (o.node).promised) i ≡ Some e)) (o.node).staged (length (o.node).log) ((s.1).node).staged) (s.1).node;
    sends = (s.1).sends;
  },
)

module _ (ms : List ℕ) (pr ac : ℕ → ℕ) (g : History) (p : ℕ) (nd : Node) (w : Here ms pr ac g p nd) where
  staged_here : (s : Held) → StagedOk g nd.promised s → Here ms pr ac g p (record nd { staged = s })
  staged_here s h = record { hist = w.hist; led = w.led; last = w.last; promised_is = w.promised_is; accepted_is = w.accepted_is; ok = node_staged ms pr ac g p nd s h w.ok }

  staged_step : (s : Held) → StagedOk g nd.promised s → Goes ms pr ac g p (silent (record nd { staged = s }))
  staged_step s h = (g, keep ms pr ac g p nd w (silent (record nd { staged = s })) (omega arith) (omega arith) (node_staged ms pr ac g p nd s h w.ok) (λ m i. absurd i))

  -- ---- a part of an AcceptSync
  module _ (part : SyncRun) (o : SyncPartOk ms pr ac g p nd.promised part) where
    abbrev held : Held
    held = held_with nd.staged part.at part.run

    held_ok : StagedOk g nd.promised held
    held_ok = with_each (λ i e. (0 < g.mark nd.promised) × (slice_get (g.full nd.promised) i ≡ Some e)) nd.staged part.at part.run (w.ok).staged
        (λ k e h. let z : part.start + (o.place + k) ≡ part.at + k = omega (arith, o.at) in
        (((o.whole).slice).led, subst (λ j. slice_get (g.full nd.promised) j ≡ Some e) z (slice_get_full g nd.promised part.start o.rest (o.whole).slice (o.place + k) e (run_get o.rest o.place part.run o.run k e h))))

    -- what is staged with the part stands in the leader's log
    pub held_in : StandsIn (g.full nd.promised) held
    held_in i e h = (held_ok i e h).1

    -- what is made whole is the AcceptSync's
    whole_is : (es : List Entry) → held_run held part.start (part.end - part.start) ≡ Some es → es ≡ o.rest
    whole_is es h =
        let r = run_is (g.full nd.promised) held part.start (part.end - part.start) es held_in h in
        get_same (g.full nd.promised) es o.rest part.start (omega (arith, r.0, o.end)) r.1 (slice_get_full g nd.promised part.start o.rest (o.whole).slice)

    once_goes : (q : ℕ) (k : Option (List Entry)) → held_run held part.start (part.end - part.start) ≡ k → nd.accepted < nd.promised → Goes ms pr ac g p (synced_once p (record nd { staged = held }) q nd.promised part.start k)
    unfolding synced_once
    once_goes q None h lt = staged_step held held_ok
    once_goes q (Some es) h lt =
        unstaged_goes ms pr ac g p (synced_to p (record nd { staged = held }) q nd.promised part.start es)
        (sync_goes ms pr ac g p (record nd { staged = held }) (staged_here held held_ok) q part.start es lt
        (subst (λ (l : List Entry). SyncOk ms pr ac g p nd.promised part.start l) (sym (whole_is es h)) o.whole))

    first_goes : (q : ℕ) → nd.accepted < nd.promised → Goes ms pr ac g p (on_first_part p nd q nd.promised part)
    unfolding on_first_part
    first_goes q lt =
        cond_both ((nat_le nd.decided part.start && nat_le part.start (length nd.log)) && (nat_le part.start part.at && is_run_to part.end part.at part.run)) _ _ (Goes ms pr ac g p)
        (λ e. once_goes q (held_run held part.start (part.end - part.start)) refl lt)
        (λ e. (g, still_ok ms pr ac g p nd w))

    -- ---- what is added from the stage
    abbrev front : List Entry
    front = front_from held (length nd.log)

    abbrev filled : Node
    filled = record nd { log = nd.log ++ front; staged = staged_from held (length (nd.log ++ front)) }

    left_ok : StagedOk g nd.promised (staged_from held (length (nd.log ++ front)))
    left_ok = left_each (λ i e. (0 < g.mark nd.promised) × (slice_get (g.full nd.promised) i ≡ Some e)) held (length (nd.log ++ front)) held_ok

    filled_vote : nd.accepted ≡ nd.promised → VoteOk ms pr ac g p nd filled
    filled_vote e =
        let v = vote_led ms pr ac g p nd w in
        let n = length-append nd.log front in
        let fit : length nd.log ≤ length (g.full nd.promised) = omega (arith, v.2, ap (λ m. length (g.full m)) e) in
        let is : nd.log ≡ take (length nd.log) (g.full nd.promised) = (w.ok).log_is ∙ ap (λ m. take (length nd.log) (g.full m)) e in
        let s = slice_from (g.full nd.promised) front (length nd.log) fit (front_is (g.full nd.promised) held (length held) (length nd.log) held_in) in
        let big : nd.log ++ front ≡ take (length (nd.log ++ front)) (g.full nd.promised) = ap (λ l. l ++ front) is ∙ sym s.1 ∙ ap (λ k. take k (g.full nd.promised)) (sym n) in
        record {
          promised = refl;
          accepted = e;
          led = ((o.whole).slice).led;
          mark_low = omega (arith, v.1, n, ap g.mark e);
          longer = λ d. omega (arith, n);
          fits = omega (arith, s.0, n);
          log_is = big;
          decided = refl;
          within = omega (arith, (w.ok).fits, n);
          staged = left_ok;
          role = grown_role ms pr ac g p (record nd { staged = staged_from held (length (nd.log ++ front)) }) (staged_here (staged_from held (length (nd.log ++ front))) left_ok) front nd.role e
              (λ whole. big ∙ take_all _ (g.full nd.promised) (omega (arith, n, ap (λ (l : List Entry). length l) whole, ap (λ m. length (g.full m)) e)) ∙ ap g.full (sym e))
              (role_staged ms pr ac g p nd (staged_from held (length (nd.log ++ front))) nd.role (w.ok).role);
        }

    filled_goes : (q : ℕ) → nd.accepted ≡ nd.promised → Goes ms pr ac g p (appended_staged p nd q nd.promised part.at held)
    unfolding appended_staged
    filled_goes q e =
        cond_both (nat_lt (length (nd.log ++ front)) part.at) PrepareReq (Accepted nd.promised (length (nd.log ++ front))) (λ b. Goes ms pr ac g p (record { node = filled; sends = packet p q b ∷ [] }))
        (λ d. (
          voted g p nd filled,
          vote_step ms pr ac g p nd filled w (filled_vote e) (packet p q PrepareReq ∷ [])
              (single (λ m. MsgOk ms (with_at p nd.promised pr) (with_at p nd.accepted ac) (voted g p nd filled) m.from m.to m.msg) (packet p q PrepareReq) tt),
        ))
        (λ d. accepted_goes ms pr ac g p nd w q filled (filled_vote e))

    later_goes : (q : ℕ) → Goes ms pr ac g p (on_later_part p nd q nd.promised part)
    unfolding on_later_part
    later_goes q =
        cond_both ((nd.promised == nd.promised) && ((nd.accepted == nd.promised) && is_run_to part.end part.at part.run)) _ _ (Goes ms pr ac g p)
        (λ e. filled_goes q (eqb-true nd.accepted nd.promised (and_parts (nd.accepted == nd.promised) (is_run_to part.end part.at part.run) (and_parts (nd.promised == nd.promised) _ e).1).0))
        (λ e. (g, still_ok ms pr ac g p nd w))

  later_still : (q n : ℕ) (part : SyncRun) → SyncPartOk ms pr ac g p n part → Goes ms pr ac g p (on_later_part p nd q n part)
  unfolding on_later_part
  later_still q n part o =
      cond_both ((nd.promised == n) && ((nd.accepted == n) && is_run_to part.end part.at part.run)) _ _ (Goes ms pr ac g p)
      (λ e. let t = and_parts (nd.promised == n) ((nd.accepted == n) && is_run_to part.end part.at part.run) e in
      let y = eqb-true nd.promised n t.0 in let z = eqb-true nd.accepted n (and_parts (nd.accepted == n) _ t.1).0 in
      subst (λ m. Goes ms pr ac g p (appended_staged p nd q m part.at (held_with nd.staged part.at part.run))) y
      (filled_goes part (subst (λ m. SyncPartOk ms pr ac g p m part) (sym y) o) q (z ∙ sym y)))
      (λ e. (g, still_ok ms pr ac g p nd w))

  -- the step at a part of an AcceptSync
  pub sync_part_goes : (q n : ℕ) (part : SyncRun) → SyncPartOk ms pr ac g p n part → Goes ms pr ac g p (on_accept_sync_part p nd q n part)
  unfolding on_accept_sync_part
  sync_part_goes q n part o =
      cond_both ((nd.promised == n) && nat_lt nd.accepted n) _ _ (Goes ms pr ac g p)
      (λ e. let t = and_parts (nd.promised == n) (nat_lt nd.accepted n) e in let y = eqb-true nd.promised n t.0 in
      subst (λ m. Goes ms pr ac g p (on_first_part p nd q m part)) y (first_goes part (subst (λ m. SyncPartOk ms pr ac g p m part) (sym y) o) q (omega (arith, ltb-true nd.accepted n t.1, y))))
      (λ e. later_still q n part o)

-- ---- a part of a promise
module _ (ms : List ℕ) (pr ac : ℕ → ℕ) (g : History) (h : HistoryOk ms pr g) (q p n : ℕ) (unled : g.mark n ≡ 0) where
  round_low : (pm : Promised) → PromOk ms pr ac g q p n pm → pm.round < n
  round_low pm o = ⊎_elim (λ (l : pm.round < n). l) (λ (l : n ≤ pm.round). absurd (let e : pm.round ≡ n = omega (arith, l, o.low) in omega (arith, o.led, unled, ap g.mark e))) (Rattle.std.proofs.lemmas.Bool.cases_lt pm.round n)

  -- all that one node promises for a ballot that isn't led yet it tells of one round
  pub one_round : (a b : Promised) → PromOk ms pr ac g q p n a → PromOk ms pr ac g q p n b → a.round ≡ b.round
  one_round a b o k =
      let x : (a.round < b.round) ⊎ ((a.round ≡ b.round) × (g.acc q a.round ≤ _)) = k.seen a.round (round_low a o) (omega (arith, o.voted)) in
      let y : (b.round < a.round) ⊎ ((b.round ≡ a.round) × (g.acc q b.round ≤ _)) = o.seen b.round (round_low b k) (omega (arith, k.voted)) in
      ⊎_elim (λ (l : a.round < b.round). ⊎_elim (λ (r : b.round < a.round). absurd (omega (arith, l, r))) (λ (r : (b.round ≡ a.round) × (g.acc q b.round ≤ _)). sym r.0) y) (λ (l : (a.round ≡ b.round) × (g.acc q a.round ≤ _)). l.0) x

  -- a promise tells all of its log from the start on
  pub told_length : (pm : Promised) → PromOk ms pr ac g q p n pm → length pm.rest ≡ pm.size - pm.start
  told_length pm o =
      omega (arith, ap (λ (l : List Entry). length l) o.rest, length-drop pm.start (take pm.size (g.full pm.round)), length-take-le pm.size (g.full pm.round) (omega (arith, (h.voted q pm.round (omega (arith, o.voted))).2, o.voted)))

  module _ (staged : Held) (ok : EachHeld (λ i e. ToldEntry ms pr ac g q p n i e) staged) (part : PromisedRun) (o : PromPartOk ms pr ac g q p n part) where
    -- what is staged with it was told
    pub held_told : EachHeld (λ i e. ToldEntry ms pr ac g q p n i e) (held_with staged part.at part.run)
    held_told = with_each (λ i e. ToldEntry ms pr ac g q p n i e) staged part.at part.run ok
        (λ k e is. let z : part.start + (o.place + k) ≡ part.at + k = omega (arith, o.at) in
        record { told = told_by part o.rest; ok = o.whole; is = subst (λ j. slice_get (g.full part.round) j ≡ Some e) z (told_get_full ms pr ac g q p n (told_by part o.rest) o.whole (o.place + k) e (run_get o.rest o.place part.run o.run k e is)) })

    -- what is made whole is the promise
    pub promise_is : (es : List Entry) → held_run (held_with staged part.at part.run) part.start (part.size - part.start) ≡ Some es → PromOk ms pr ac g q p n (told_by part es)
    promise_is es is =
        let r = run_is (g.full part.round) (held_with staged part.at part.run) part.start (part.size - part.start) es
        (λ i e k. let t = held_told i e k in ap (λ m. slice_get (g.full m) i) (one_round (told_by part o.rest) t.told o.whole t.ok) ∙ t.is) is in
        subst (λ (l : List Entry). PromOk ms pr ac g q p n (told_by part l))
        (sym (get_same (g.full part.round) es o.rest part.start (omega (arith, r.0, told_length (told_by part o.rest) o.whole)) r.1 (told_get_full ms pr ac g q p n (told_by part o.rest) o.whole))) o.whole
