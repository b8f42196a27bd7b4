-- The leader's steps.
use Rattle.std.proofs.Common.{◌≡◌, ℕ, zero, suc, ◌+◌, ◌*◌, ◌<◌, ◌≤◌, ◌⊎◌, inl, inr, ⊎_elim, List, [], ◌∷◌, ◌++◌, length, Bool, true, false, not, ◌&&◌, ◌||◌, take, drop, refl, sym, ap, ◌∙◌, subst, arith, Option, Some, None, ◌==◌, length-append}
use Rattle.std.specs.Prelude.{nat_lt, nat_le, if◌then◌else◌}
use Rattle.std.proofs.lemmas.Bool.{cond_both, and_parts, or_cases, eqb-true, ltb-true, leb-true, lt-ltb}
use Rattle.std.proofs.lemmas.List.{take-take, take_all, length-drop, take-append-drop, take-append-le}
use Rattle.op_types.specs.declared.log.Entry.{Entry}
use Rattle.op_types.specs.Limits.{positions_end}
use Rattle.op_spec.specs.Machine.{with_at, IsAmong}
use Rattle.op_paxos.specs.Logs.{overflows}
use Rattle.op_paxos.specs.Nodes.{owner, Promised, LeadingState, Leading, Node, majority_passes}
use Rattle.op_paxos.specs.Messages.{Msg, Prepare, Accept, Decide, Trim, Packet, Effect, packet, broadcast}
use Rattle.op_paxos.specs.Leader.{sync_at, sync_sends, is_synced, backed, majority_length, recount, on_promise_in, on_accepted_in, extended, on_propose_in}
use Rattle.op_paxos.specs.Trimming.{trim_all}
use Rattle.op_paxos.proofs.Tidy.{room_for, tidy_more, Tidy}
use Rattle.op_paxos.proofs.Majorities.{Many, many_up}
use Rattle.op_paxos.proofs.History.{History, Adopted, HistoryOk}
use Rattle.op_paxos.proofs.Invariant.{log_short, PrepareOk, Sure, ChosenBy, MsgOk, StagedOk, PromOk, SliceOk, SyncOk, ExactOk, LeadOk, RoleOk, Ext, sure_up, staged_up}
use Rattle.op_paxos.proofs.Updates.{upd_here, upd_both, upd_up}
use Rattle.op_paxos.proofs.OneStep.{StepOk, put, PutOk, put_ext, put_acc, put_last, put_hist}
use Rattle.op_paxos.proofs.PlainSteps.{Here, keep, keep_msg, still_ok}
use Rattle.op_paxos.proofs.FollowerSteps.{Goes}
use Rattle.op_paxos.proofs.SentParts.{sync_packets}
use Rattle.op_paxos.proofs.Membership.{some_is, single, in_append}
use Rattle.op_spec.proofs.Safety.{IsAmong-append}
use Rattle.op_quorum.specs.Quorums.{passing}

-- ---- what is sent
pub in_spread : (P : Packet → Type 0) (p : ℕ) (f : ℕ → Bool) (b : Msg) → ((q : ℕ) → P (packet p q b)) → (ms : List ℕ) (m : Packet) → IsAmong (broadcast p f b ms) m → P m
in_spread P p f b h [] m = λ i. absurd i
in_spread P p f b h (q ∷ ms) m = cond_both (f q && not (q == p)) _ _ (λ ps. IsAmong ps m → P m) (λ e i. first_or (in_spread P p f b h ms m) i) (λ e i. in_spread P p f b h ms m i)
  where
    first_or : (IsAmong (broadcast p f b ms) m → P m) → (packet p q b ≡ m) ⊎ IsAmong (broadcast p f b ms) m → P m
    first_or ih = ⊎_elim (λ (e : packet p q b ≡ m). subst P e (h q)) ih

-- ---- Sync
module _ (ms : List ℕ) (pr ac : ℕ → ℕ) (g : History) (h : HistoryOk ms pr g) (last : (q n : ℕ) → 0 < g.acc q n → n ≤ ac q) (p : ℕ) (nd : Node) (l : LeadingState) (o : LeadOk g p nd l) (asks : PrepareOk ms ac g p nd.accepted (length nd.log) nd.decided) where
  ballot_led : 0 < g.mark l.ballot
  ballot_led = omega (arith, o.size_is)

  prom_exact : (q t : ℕ) (pm : Promised) → PromOk ms pr ac g q t l.ballot pm → pm.round ≡ l.round → pm.size ≤ l.size → ExactOk g q l.ballot pm.size pm.round
  prom_exact q t pm k e le = record {
    led = k.led;
    fits = omega (arith, (h.voted q pm.round (omega (arith, k.voted))).2, k.voted);
    last = λ m lt has. ⊎_elim (λ (d : m < pm.round). omega arith) (λ (d : (m ≡ pm.round) × (g.acc q m ≤ suc pm.size)). omega (arith, d.0)) (k.seen m lt has);
    same = ap (λ r. take pm.size (g.full r)) e ∙ sym (take-take pm.size l.size (g.full l.round) le) ∙ ap (take pm.size) (sym o.same) ∙ take-take pm.size l.size (g.full l.ballot) le;
  }

  sync_ground : (q t : ℕ) (pm : Promised) → PromOk ms pr ac g q t l.ballot pm → (l.ballot ≤ pm.round) ⊎ (Sure ms g pm.round (sync_at l pm) ⊎ ExactOk g q l.ballot (sync_at l pm) pm.round)
  sync_ground q t pm k =
      cond_both ((pm.round == l.ballot) || ((pm.round == l.round) && nat_le pm.size l.size)) pm.size pm.decided (λ x. (l.ballot ≤ pm.round) ⊎ (Sure ms g pm.round x ⊎ ExactOk g q l.ballot x pm.round))
      (λ e. ⊎_elim (λ (a : (pm.round == l.ballot) ≡ true). inl (omega (arith, eqb-true pm.round l.ballot a)))
      (λ (a : ((pm.round == l.round) && nat_le pm.size l.size) ≡ true). let b = and_parts (pm.round == l.round) (nat_le pm.size l.size) a in
      inr (inr (prom_exact q t pm k (eqb-true pm.round l.round b.0) (leb-true pm.size l.size b.1))))
      (or_cases (pm.round == l.ballot) ((pm.round == l.round) && nat_le pm.size l.size) e))
      (λ e. inr (inl k.sure))

  -- the rest of a leader's log
  pub tail_slice : (x : ℕ) → x ≤ length nd.log → SliceOk g l.ballot x (drop x nd.log)
  tail_slice x le =
      let n : x + length (drop x nd.log) ≡ length (g.full l.ballot) = omega (arith, length-drop x nd.log, ap (λ (y : List Entry). length y) o.log_is) in
      record {
        led = ballot_led;
        within = omega (arith, n);
        prefix = ap (λ k. take k (g.full l.ballot)) n ∙ take_all (length (g.full l.ballot)) (g.full l.ballot) (omega arith) ∙ sym o.log_is ∙ sym (take-append-drop x nd.log) ∙ ap (λ y. take x y ++ drop x nd.log) o.log_is;
      }

  -- the AcceptSync on a promise
  pub sync_ok : (q t : ℕ) (pm : Promised) → PromOk ms pr ac g q t l.ballot pm → sync_at l pm ≤ length nd.log → SyncOk ms pr ac g q l.ballot (sync_at l pm) (drop (sync_at l pm) nd.log)
  sync_ok q t pm k le = record {
    slice = tail_slice (sync_at l pm) le;
    enough = omega (arith, h.marked l.ballot ballot_led, length-drop (sync_at l pm) nd.log, ap (λ (y : List Entry). length y) o.log_is);
    promised = k.promised;
    round = pm.round;
    low = last q pm.round (omega (arith, k.voted));
    ground = sync_ground q t pm k;
  }

  -- what all are sent
  pub in_syncs : (t q : ℕ) (k : Option Promised) → ((pm : Promised) → k ≡ Some pm → PromOk ms pr ac g q t l.ballot pm) → (m : Packet) → IsAmong (sync_sends p nd l q k) m → MsgOk ms pr ac g m.from m.to m.msg
  in_syncs t q None f m = λ i. absurd i
  in_syncs t q (Some pm) f m =
      cond_both (nat_lt (sync_at l pm) nd.trimmed) _ _ (λ ps. IsAmong ps m → MsgOk ms pr ac g m.from m.to m.msg)
      (λ e i. single (λ a. MsgOk ms pr ac g a.from a.to a.msg) (packet p q (Prepare l.ballot nd.accepted (length nd.log) nd.decided)) asks m i)
      (λ e. cond_both (nat_le (sync_at l pm) (length nd.log)) _ _ (λ ps. IsAmong ps m → MsgOk ms pr ac g m.from m.to m.msg)
      (λ e i. let k = sync_ok q t pm (f pm refl) (leb-true (sync_at l pm) (length nd.log) e) in
      sync_packets (λ a. MsgOk ms pr ac g a.from a.to a.msg) p q l.ballot (sync_at l pm) (drop (sync_at l pm) nd.log) k (λ at run r. record { rest = drop (sync_at l pm) nd.log; whole = k; end = refl; place = at; at = refl; run = r }) m i)
      (λ e i. absurd i))

-- the same lead, at a node with the same ballot and log
pub lead_with : (g : History) (p : ℕ) (nd nd' : Node) (l : LeadingState) (s : ℕ → Bool) (a : ℕ → ℕ) (r : ℕ → Option ℕ) → nd'.promised ≡ nd.promised → nd'.accepted ≡ nd.accepted → nd'.log ≡ nd.log → ((q : ℕ) → 0 < a q → a q < g.acc q l.ballot) → LeadOk g p nd l → LeadOk g p nd' (record l { synced = s; acked = a; reports = r })
lead_with g p nd nd' l s a r ep ea el h o = record {
  promised = o.promised ∙ sym ep;
  accepted = o.accepted ∙ sym ea;
  owned = o.owned;
  log_is = el ∙ o.log_is;
  size_is = o.size_is;
  below = o.below;
  led = o.led;
  fits = o.fits;
  same = o.same;
  acked = h;
}

-- ---- count
backed_low : (ms : List ℕ) (ack : ℕ → ℕ) (k : ℕ) → backed ms ack k ≤ k
backed_low ms ack zero = omega arith
backed_low ms ack (suc k) = cond_both (majority_passes ms (λ q. nat_le (suc k) (ack q))) (suc k) (backed ms ack k) (λ x. x ≤ suc k) (λ e. omega arith) (λ e. omega (arith, backed_low ms ack k))

backed_many : (ms : List ℕ) (ack : ℕ → ℕ) (k : ℕ) → 0 < backed ms ack k → Many ms (λ q. nat_le (backed ms ack k) (ack q))
backed_many ms ack zero = λ h. absurd (omega arith)
backed_many ms ack (suc k) =
    cond_both (majority_passes ms (λ q. nat_le (suc k) (ack q))) (suc k) (backed ms ack k) (λ x. 0 < x → Many ms (λ q. nat_le x (ack q)))
    (λ e pos. ltb-true (length ms) (2 * passing (λ q. nat_le (suc k) (ack q)) ms) e) (λ e pos. backed_many ms ack k pos)

module _ (ms : List ℕ) (pr ac : ℕ → ℕ) (g : History) (p : ℕ) (nd : Node) (l : LeadingState) (sends other : List Packet) (g' : History) (s : StepOk ms pr ac g p (record { node = record nd { role = Leading l }; sends = sends ++ other }) g') where
  counted_sure : 0 < majority_length ms p nd l → ChosenBy ms g' nd.accepted (majority_length ms p nd l)
  unfolding majority_length
  counted_sure pos =
      let x = backed ms (with_at p (length nd.log) l.acked) (length nd.log) in
      let o = (s.node).role in
      record {
        at = l.ballot;
        low = omega (arith, o.accepted);
        chosen = many_up ms (λ q. nat_le x (with_at p (length nd.log) l.acked q)) (λ q. nat_lt x (g'.acc q l.ballot))
            (λ q. upd_both (λ v. nat_le x v ≡ true → nat_lt x (g'.acc q l.ballot) ≡ true) l.acked p q (length nd.log)
            (λ e t. lt-ltb x (g'.acc q l.ballot) (omega (arith, leb-true x (length nd.log) t, (s.node).vote, ap (λ r. g'.acc r l.ballot) e, ap (g'.acc p) o.accepted)))
            (λ e t. lt-ltb x (g'.acc q l.ballot) (omega (arith, leb-true x (l.acked q) t, o.acked q (omega (arith, leb-true x (l.acked q) t, pos))))))
            (backed_many ms (with_at p (length nd.log) l.acked) (length nd.log) pos);
      }

  counted_low : majority_length ms p nd l ≤ length nd.log
  unfolding majority_length
  counted_low = backed_low ms (with_at p (length nd.log) l.acked) (length nd.log)

  decided_step : nd.decided < majority_length ms p nd l → StepOk ms pr ac g p (record { node = record nd { decided = majority_length ms p nd l; role = Leading l }; sends = sends ++ broadcast p l.synced (Decide l.ballot (majority_length ms p nd l)) ms }) g'
  decided_step lt =
      let c = counted_sure (omega (arith, lt)) in
      let o = (s.node).role in
      record {
        up_promised = s.up_promised;
        up_accepted = s.up_accepted;
        ext = s.ext;
        hist = s.hist;
        led = s.led;
        node = record {
          within = (s.node).within;
          log_is = (s.node).log_is;
          vote = (s.node).vote;
          last = (s.node).last;
          fits = counted_low;
          sure = inr c;
          staged = (s.node).staged;
          role = lead_with g' p (record nd { role = Leading l }) (record nd { decided = majority_length ms p nd l; role = Leading l }) l l.synced l.acked l.reports refl refl refl o.acked o;
        };
        sends = λ m i. ⊎_elim (λ (a : IsAmong sends m). s.sends m (IsAmong-append sends other m a))
            (λ (a : IsAmong (broadcast p l.synced (Decide l.ballot (majority_length ms p nd l)) ms) m). in_spread (λ b. MsgOk ms (with_at p nd.promised pr) (with_at p nd.accepted ac) g' b.from b.to b.msg) p l.synced (Decide l.ballot (majority_length ms p nd l)) (λ q. inr (record { at = c.at; low = omega (arith, c.low, o.accepted); chosen = c.chosen })) ms m a)
            (in_append m sends (broadcast p l.synced (Decide l.ballot (majority_length ms p nd l)) ms) i);
      }

  -- a leader counts again, and decides
  pub count_goes : Goes ms pr ac g p (recount ms p nd l sends other)
  unfolding recount
  count_goes = cond_both (nat_lt nd.decided (majority_length ms p nd l)) _ _ (Goes ms pr ac g p) (λ e. (g', decided_step (ltb-true nd.decided (majority_length ms p nd l) e))) (λ e. (g', s))

-- ---- a leader's own vote: its log is the ballot's
pub record LeadPut (ms : List ℕ) (pr : ℕ → ℕ) (g : History) (p : ℕ) (nd nd' : Node) (l : LeadingState) : Type 0 where
  pub promised : nd'.promised ≡ nd.promised
  pub accepted : nd'.accepted ≡ nd.promised
  pub ballot : l.ballot ≡ nd.promised
  pub role : nd'.role ≡ Leading l
  pub owned : owner nd.promised ≡ p
  pub mark_is : 0 < g.mark nd.promised → suc l.size ≡ g.mark nd.promised
  pub longer : 0 < g.mark nd.promised → length (g.full nd.promised) ≤ length nd'.log
  pub prefix : (j : ℕ) → 0 < g.mark nd.promised → j ≤ length (g.full nd.promised) → take j nd'.log ≡ take j (g.full nd.promised)
  pub size : l.size ≤ length nd'.log
  pub acc_low : g.acc p nd.promised ≤ suc (length nd'.log)
  pub below : l.round < nd.promised
  pub led : 0 < g.mark l.round
  pub fits : l.size ≤ length (g.full l.round)
  pub same : take l.size nd'.log ≡ take l.size (g.full l.round)
  pub acked : (q : ℕ) → 0 < l.acked q → l.acked q < g.acc q nd.promised
  pub decided : nd'.decided ≡ nd.decided
  pub within : nd.decided ≤ length nd'.log
  pub staged : StagedOk g nd.promised nd'.staged
  pub tidy : Tidy nd'.log
  pub short : length nd'.log ≤ positions_end

-- the history after the leader's own vote
abbrev pub lead_put : History → ℕ → Node → Node → LeadingState → History
lead_put g p nd nd' l = put g p nd.promised (suc l.size) nd'.log (length nd'.log)

module _ (ms : List ℕ) (pr ac : ℕ → ℕ) (g : History) (p : ℕ) (nd nd' : Node) (l : LeadingState) (w : Here ms pr ac g p nd) (v : LeadPut ms pr g p nd nd' l) where
  -- that vote may be put
  pub lead_put_ok : PutOk pr g p nd.promised (suc l.size) nd'.log (length nd'.log)
  lead_put_ok = record {
    high = omega (arith, w.promised_is);
    mark_is = v.mark_is;
    marked = omega arith;
    mark_low = omega (arith, v.size);
    fits = omega arith;
    longer = v.longer;
    prefix = v.prefix;
    acc_low = v.acc_low;
    tidy = v.tidy;
    short = v.short;
    mine = inl v.owned;
  }

  -- so the history grows
  pub lead_ext : Ext pr p g (lead_put g p nd nd' l)
  lead_ext = put_ext ms pr g p nd.promised (suc l.size) nd'.log (length nd'.log) lead_put_ok

  -- what then holds of the leader
  pub new_lead_ok : LeadOk (lead_put g p nd nd' l) p nd' l
  new_lead_ok =
      let x = lead_ext in
      let apart : l.round ≡ nd.promised → ⊥ = λ e. omega (arith, e, v.below) in
      record {
        promised = v.ballot ∙ sym v.promised;
        accepted = v.ballot ∙ sym v.accepted;
        owned = ap owner v.ballot ∙ v.owned;
        log_is = sym (upd_here g.full nd.promised l.ballot nd'.log v.ballot);
        size_is = upd_here g.mark nd.promised l.ballot (suc l.size) v.ballot;
        below = omega (arith, v.below, v.ballot);
        led = omega (arith, x.mark_same l.round v.led, v.led);
        fits = omega (arith, x.longer l.round v.led, v.fits);
        same = ap (take l.size) (upd_here g.full nd.promised l.ballot nd'.log v.ballot) ∙ v.same ∙ sym (x.prefix l.round l.size v.led v.fits);
        acked = λ q pos. omega (arith, v.acked q pos, x.acc_up q l.ballot, ap (g.acc q) v.ballot);
      }

  -- the step keeps what it must
  pub lead_step : (0 < g.mark nd.promised) ⊎ Adopted ms (with_at p nd'.promised pr) (lead_put g p nd nd' l) nd.promised → (sends : List Packet) → ((m : Packet) → IsAmong sends m → MsgOk ms (with_at p nd'.promised pr) (with_at p nd'.accepted ac) (lead_put g p nd nd' l) m.from m.to m.msg) → StepOk ms pr ac g p (record { node = nd'; sends = sends }) (lead_put g p nd nd' l)
  lead_step new sends ok =
      let up : (q : ℕ) → pr q ≤ with_at p nd'.promised pr q = upd_up pr p nd'.promised (omega (arith, w.promised_is, v.promised)) in
      let x = lead_ext in
      let at : (lead_put g p nd nd' l).full nd'.accepted ≡ nd'.log = upd_here g.full nd.promised nd'.accepted nd'.log v.accepted in
      record {
        up_promised = omega (arith, w.promised_is, v.promised);
        up_accepted = omega (arith, w.accepted_is, v.accepted, (w.ok).within);
        ext = x;
        hist = put_hist ms pr g p nd.promised (suc l.size) nd'.log (length nd'.log) lead_put_ok (with_at p nd'.promised pr) up w.hist new;
        led = λ n. upd_both (λ k. 0 < k → n ≤ with_at p nd'.promised pr (owner n)) g.mark nd.promised n (suc l.size)
            (λ e has. omega (arith, e, v.promised, upd_here pr p (owner n) nd'.promised (ap owner e ∙ v.owned)))
            (λ e has. omega (arith, w.led n has, up (owner n)));
        node = record {
          within = omega (arith, v.promised, v.accepted);
          log_is = sym (take_all (length nd'.log) nd'.log (omega arith)) ∙ ap (take (length nd'.log)) (sym at);
          vote = ap ((lead_put g p nd nd' l).acc p) v.accepted ∙ put_acc ms pr g p nd.promised (suc l.size) nd'.log (length nd'.log) lead_put_ok;
          last = λ n has. omega (arith, v.accepted, put_last ms pr g p nd.promised (suc l.size) nd'.log (length nd'.log) lead_put_ok nd.accepted (w.ok).within (w.ok).last n has);
          fits = omega (arith, v.within, v.decided);
          sure = subst (λ d. Sure ms (lead_put g p nd nd' l) nd'.accepted d) (sym v.decided) (sure_up ms pr p g (lead_put g p nd nd' l) x nd.accepted nd'.accepted nd.decided (omega (arith, v.accepted, (w.ok).within)) (w.ok).sure);
          staged = subst (λ n. StagedOk (lead_put g p nd nd' l) n nd'.staged) (sym v.promised) (staged_up ms pr p g (lead_put g p nd nd' l) x nd.promised nd'.staged v.staged);
          role = subst (λ r. RoleOk ms (with_at p nd'.promised pr) (with_at p nd'.accepted ac) (lead_put g p nd nd' l) p nd' r) (sym v.role) new_lead_ok;
        };
        sends = ok;
      }

-- ---- the steps of a node that leads
module _ (ms : List ℕ) (pr ac : ℕ → ℕ) (g : History) (p : ℕ) (nd : Node) (l : LeadingState) (w : Here ms pr ac g p nd) (o : LeadOk g p nd l) where
  -- it leads on, with other notes
  pub leads_on : (s : ℕ → Bool) (a : ℕ → ℕ) (sends : List Packet) → ((q : ℕ) → 0 < a q → a q < g.acc q l.ballot) → ((m : Packet) → IsAmong sends m → MsgOk ms pr ac g m.from m.to m.msg) → StepOk ms pr ac g p (record { node = record nd { role = Leading (record l { synced = s; acked = a }) }; sends = sends }) g
  leads_on s a sends ha hs =
      let out : Effect = record { node = record nd { role = Leading (record l { synced = s; acked = a }) }; sends = sends } in
      keep ms pr ac g p nd w out (omega arith) (omega arith)
      (record { within = (w.ok).within; log_is = (w.ok).log_is; vote = (w.ok).vote; last = (w.ok).last; fits = (w.ok).fits; sure = (w.ok).sure; staged = (w.ok).staged; role = lead_with g p nd (record nd { role = Leading (record l { synced = s; acked = a }) }) l s a l.reports refl refl refl ha o })
      (λ m i. keep_msg ms pr ac g p nd w out (omega arith) (omega arith) m.from m.to m.msg (hs m i))

  asks_here : PrepareOk ms ac g p nd.accepted (length nd.log) nd.decided
  asks_here = record { short = (log_short ms pr ac g p nd w.hist w.ok, omega (arith, log_short ms pr ac g p nd w.hist w.ok, (w.ok).fits)); low = omega (arith, w.accepted_is); sure = (w.ok).sure }

  -- the step of a leader at a Promise
  pub lead_promise_goes : (q n : ℕ) (pm : Promised) → PromOk ms pr ac g q p n pm → Goes ms pr ac g p (on_promise_in ms p nd (Leading l) q n pm)
  unfolding on_promise_in
  lead_promise_goes q n pm k =
      cond_both (n == l.ballot) _ _ (Goes ms pr ac g p)
      (λ e. (g, leads_on (if is_synced nd l (Some pm) then with_at q true l.synced else l.synced) l.acked (sync_sends p nd l q (Some pm)) o.acked (λ m i. in_syncs ms pr ac g w.hist w.last p nd l o asks_here p q (Some pm) (λ pm' same. subst (λ y. PromOk ms pr ac g q p l.ballot y) (some_is pm pm' same) (subst (λ b. PromOk ms pr ac g q p b pm) (eqb-true n l.ballot e) k)) m i)))
      (λ e. (g, still_ok ms pr ac g p nd w))

  -- the step of a leader at an Accepted
  pub lead_accepted_goes : (q n x : ℕ) → x < g.acc q n → Goes ms pr ac g p (on_accepted_in ms p nd (Leading l) q n x)
  unfolding on_accepted_in
  lead_accepted_goes q n x k =
      cond_both ((n == l.ballot) && nat_le x (length nd.log)) _ _ (Goes ms pr ac g p)
      (λ e. let t = and_parts (n == l.ballot) (nat_le x (length nd.log)) e in counted_on (eqb-true n l.ballot t.0))
      (λ e. (g, still_ok ms pr ac g p nd w))
    where
      other : List Packet
      other = if nat_lt 0 nd.decided then packet p q (Decide l.ballot nd.decided) ∷ [] else []

      raised : n ≡ l.ballot → (r : ℕ) → 0 < (if nat_lt (l.acked q) x then with_at q x l.acked else l.acked) r → (if nat_lt (l.acked q) x then with_at q x l.acked else l.acked) r < g.acc r l.ballot
      raised e r = cond_both (nat_lt (l.acked q) x) (with_at q x l.acked) l.acked (λ f. 0 < f r → f r < g.acc r l.ballot) (λ d. upd_both (λ y. 0 < y → y < g.acc r l.ballot) l.acked q r x (λ c pos. omega (arith, k, ap (g.acc q) e, ap (λ z. g.acc z l.ballot) c)) (λ c pos. o.acked r pos)) (λ d. o.acked r)

      others_ok : (m : Packet) → IsAmong other m → MsgOk ms pr ac g m.from m.to m.msg
      others_ok m = cond_both (nat_lt 0 nd.decided) (packet p q (Decide l.ballot nd.decided) ∷ []) [] (λ ps. IsAmong ps m → MsgOk ms pr ac g m.from m.to m.msg)
          (λ d i. single (λ a. MsgOk ms pr ac g a.from a.to a.msg) (packet p q (Decide l.ballot nd.decided)) (subst (λ z. Sure ms g z nd.decided) (sym o.accepted) (w.ok).sure) m i) (λ d i. absurd i)

      counted_on : n ≡ l.ballot → Goes ms pr ac g p (recount ms p nd (record l { acked = if nat_lt (l.acked q) x then with_at q x l.acked else l.acked }) [] other)
      counted_on e = count_goes ms pr ac g p nd (record l { acked = if nat_lt (l.acked q) x then with_at q x l.acked else l.acked }) [] other g
          (leads_on l.synced (if nat_lt (l.acked q) x then with_at q x l.acked else l.acked) other (raised e) others_ok)

  propose_put : (es : List Entry) → overflows nd.log es ≡ false → LeadPut ms pr g p nd (record nd { log = nd.log ++ es; role = Leading l }) l
  propose_put es open_ =
      let room = room_for nd.log es open_ in
      let pa : nd.promised ≡ l.ballot = sym o.promised in
      let n = length-append nd.log es in
      let full : g.full nd.promised ≡ nd.log = ap g.full pa ∙ sym o.log_is in
      record {
        promised = refl;
        accepted = sym o.accepted ∙ o.promised;
        ballot = o.promised;
        role = refl;
        owned = ap owner pa ∙ o.owned;
        mark_is = λ h. sym o.size_is ∙ ap g.mark o.promised;
        longer = λ h. omega (arith, ap (λ (y : List Entry). length y) full, n);
        prefix = λ j h le. take-append-le j nd.log es (omega (arith, ap (λ (y : List Entry). length y) full, le)) ∙ ap (take j) (sym full);
        size = omega (arith, (w.hist).marked l.ballot (omega (arith, o.size_is)), o.size_is, ap (λ (y : List Entry). length y) o.log_is, n);
        acc_low = omega (arith, (w.ok).vote, ap (g.acc p) (sym o.accepted ∙ o.promised), n);
        below = omega (arith, o.below, o.promised);
        led = o.led;
        fits = o.fits;
        same = take-append-le l.size nd.log es (omega (arith, (w.hist).marked l.ballot (omega (arith, o.size_is)), o.size_is, ap (λ (y : List Entry). length y) o.log_is)) ∙ ap (take l.size) o.log_is ∙ o.same;
        acked = λ q pos. omega (arith, o.acked q pos, ap (g.acc q) o.promised);
        decided = refl;
        within = omega (arith, (w.ok).fits, n);
        staged = (w.ok).staged;
        tidy = tidy_more nd.log es room.stops (subst Tidy (sym o.log_is) ((w.hist).tidy l.ballot (omega (arith, o.size_is)))) room.tidy;
        short = omega (arith, n, room.short);
      }

  extended_goes : (es : List Entry) → overflows nd.log es ≡ false → Goes ms pr ac g p (extended ms p nd l es)
  unfolding extended
  extended_goes es open_ =
      count_goes ms pr ac g p (record nd { log = nd.log ++ es }) l (broadcast p l.synced (Accept l.ballot (length nd.log) es) ms) [] (lead_put g p nd nd' l)
      (lead_step ms pr ac g p nd nd' l w (propose_put es open_) (inl (omega (arith, o.size_is, ap g.mark o.promised))) (broadcast p l.synced (Accept l.ballot (length nd.log) es) ms ++ [])
      (λ m i. ⊎_elim (λ (a : IsAmong (broadcast p l.synced (Accept l.ballot (length nd.log) es) ms) m). in_spread (λ b. MsgOk ms (with_at p nd.promised pr) (with_at p nd.accepted ac) (lead_put g p nd nd' l) b.from b.to b.msg) p l.synced (Accept l.ballot (length nd.log) es) (λ q. slice) ms m a) (λ (a : IsAmong [] m). absurd a)
      (in_append m (broadcast p l.synced (Accept l.ballot (length nd.log) es) ms) [] i)))
    where
      nd' : Node
      nd' = record nd { log = nd.log ++ es; role = Leading l }

      slice : SliceOk (lead_put g p nd nd' l) l.ballot (length nd.log) es
      slice =
          let at : (lead_put g p nd nd' l).full l.ballot ≡ nd.log ++ es = upd_here g.full nd.promised l.ballot (nd.log ++ es) o.promised in
          let n = length-append nd.log es in
          record {
            led = omega (arith, upd_here g.mark nd.promised l.ballot (suc l.size) o.promised);
            within = omega (arith, ap (λ (y : List Entry). length y) at, n);
            prefix = ap (take (length nd.log + length es)) at ∙ take_all (length nd.log + length es) (nd.log ++ es) (omega (arith, n)) ∙ ap (λ y. y ++ es) (sym (take_all (length nd.log) nd.log (omega arith)) ∙ sym (take-append-le (length nd.log) nd.log es (omega arith)) ∙ ap (take (length nd.log)) (sym at));
          }

  -- the step of a leader at proposals
  pub lead_propose_goes : (es : List Entry) → Goes ms pr ac g p (on_propose_in ms p nd (Leading l) es)
  unfolding on_propose_in
  lead_propose_goes es = cond_both (overflows nd.log es) _ _ (Goes ms pr ac g p) (λ d. (g, still_ok ms pr ac g p nd w)) (λ d. extended_goes es d)

  -- trimming leaves all of this as it is
  trims : (t : ℕ) (r : ℕ → Option ℕ) (sends : List Packet) → ((m : Packet) → IsAmong sends m → MsgOk ms pr ac g m.from m.to m.msg) → StepOk ms pr ac g p (record { node = record nd { trimmed = t; role = Leading (record l { reports = r }) }; sends = sends }) g
  trims t r sends hs =
      let out : Effect = record { node = record nd { trimmed = t; role = Leading (record l { reports = r }) }; sends = sends } in
      keep ms pr ac g p nd w out (omega arith) (omega arith)
      (record { within = (w.ok).within; log_is = (w.ok).log_is; vote = (w.ok).vote; last = (w.ok).last; fits = (w.ok).fits; sure = (w.ok).sure; staged = (w.ok).staged; role = lead_with g p nd (out.node) l l.synced l.acked r refl refl refl o.acked o })
      (λ m i. keep_msg ms pr ac g p nd w out (omega arith) (omega arith) m.from m.to m.msg (hs m i))

  -- the step of a leader that trims
  pub trim_all_goes : (r : ℕ → Option ℕ) (x : Option ℕ) → Goes ms pr ac g p (trim_all ms p nd l r x)
  unfolding trim_all
  trim_all_goes r None = (g, trims nd.trimmed r [] (λ m i. absurd i))
  trim_all_goes r (Some x) =
      cond_both (nat_lt nd.trimmed x) _ _ (Goes ms pr ac g p)
      (λ e. (g, trims x (λ q. None) (broadcast p (λ q. true) (Trim x) ms) (in_spread (λ m. MsgOk ms pr ac g m.from m.to m.msg) p (λ q. true) (Trim x) (λ q. tt) ms)))
      (λ e. (g, trims nd.trimmed (λ q. None) [] (λ m i. absurd i)))
