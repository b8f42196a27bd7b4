-- A tick: what it makes of a member's ballots.
use Rattle.std.proofs.Common.{◌≡◌, ◌⊎◌, inl, inr, ℕ, Bool, true, cond, eqb, ltb, not, ◌&&◌, ◌+◌, arith, List, [], ◌∷◌, ◌++◌, filter, refl, sym, ap, ◌∙◌, subst}
use Rattle.std.proofs.lemmas.Bool.{cond_both, both_ways, eqb-true, eqb-false, lt-ltb, or_left}
use Rattle.op_types.proofs.Order.{is_total}
use Rattle.op_types.specs.Ballots.{no_ballot, is_below, greater}
use Rattle.op_types.specs.Changes.{part_with}
use Rattle.op_types.specs.Effects.{Effects}
use Rattle.op_types.specs.Limits.{greatest_number}
use Rattle.op_types.specs.declared.ballot.Ballot.{Ballot}
use Rattle.op_types.specs.declared.changes.Change.TheVariants as change
use Rattle.op_types.specs.declared.durable.Part.{Part}
use Rattle.op_types.specs.declared.messages.Body.TheVariants as body
use Rattle.op_types.specs.declared.messages.Heard.{Heard}
use Rattle.op_types.specs.declared.messages.Msg.{Msg}
use Rattle.op_types.specs.declared.verdict.Verdict.{Verdict}
use Rattle.op_types.specs.declared.verdict.Verdict.TheVariants as verdict
use Rattle.op_protocol.specs.State.{Volatile, PartStep, with_effects}
use Rattle.op_protocol.specs.Parts.{part_after, others, prepare_body, to_each, first}
use Rattle.op_protocol.specs.Leader.{first_preparing, prepares, lead}
use Rattle.op_protocol.specs.Heartbeats.{has_replied}
use Rattle.op_protocol.specs.Election.{Candidate, Ended, greatest, winner, least, raised_ballot, hears_majority, round_end}
use Rattle.op_protocol.specs.Tick.{candidate_of, next_round_state, with_floor_at, requests, only_asks, elected, asks_heard, asks_leaders, also_sending, tick_ended, on_tick}
use Rattle.op_lockstep.proofs.Lists.{Each, Each-append}
use Rattle.op_lockstep.proofs.Ends.{by_end, first_below}
use Rattle.op_progress.proofs.Orders.{AtMost, same_at_most, below_at_most, at_most_below, at_most_then, greater_at_most, first_at_most, second_at_most, same_ballot}
use Rattle.op_progress.proofs.Rows.{Claim, RoleIn, SendIn, up_to, only, waiting, RowIn, free_after, to_each_in, prepares_in}

-- ---- the greatest ballot that was heard
pub own_in : (own : Ballot) (hs : List Heard) → AtMost own (greatest own hs)
own_in own [] = is_total.irreflexive own
own_in own (h ∷ hs) =
    let g : Ballot = cond h.flag (greater own h.ballot) own in
    at_most_then own g (greatest g hs) (cond_both h.flag (greater own h.ballot) own (λ (b : Ballot). AtMost own b) (λ _. first_at_most own h.ballot) (λ _. is_total.irreflexive own)) (own_in g hs)

-- it isn't above what none of them is above
pub greatest_at_most : (own : Ballot) (hs : List Heard) (z : Ballot) → AtMost own z → Each (λ h. AtMost h.ballot z) hs → AtMost (greatest own hs) z
greatest_at_most own [] z o e = o
greatest_at_most own (h ∷ hs) z o e =
    greatest_at_most (cond h.flag (greater own h.ballot) own) hs z (cond_both h.flag (greater own h.ballot) own (λ (b : Ballot). AtMost b z) (λ _. greater_at_most own h.ballot z o e.0) (λ _. o)) e.1

-- and none is above it of those that heard a majority
pub heard_in : (own : Ballot) (hs : List Heard) → Each (λ h. h.flag ≡ true) hs → Each (λ h. AtMost h.ballot (greatest own hs)) hs
heard_in own [] e = tt
heard_in own (h ∷ hs) e =
    let g : Ballot = cond h.flag (greater own h.ballot) own in (
      at_most_then h.ballot g (greatest g hs) (subst (λ (b : Bool). AtMost h.ballot (cond b (greater own h.ballot) own)) (sym e.0) (second_at_most own h.ballot)) (own_in g hs),
      heard_in g hs e.1,
    )

-- ---- the step of a tick
abbrev IfElected : (Ballot → Type 0) → Verdict → Type 0
IfElected P verdict.Nobody = Unit {0}
IfElected P (verdict.Raised b) = Unit {0}
IfElected P (verdict.Elected n) = P n

-- this ballot was elected
abbrev IsWon : Verdict → Ballot → Type 0
IsWon (verdict.Elected n) b = b ≡ n
IsWon _ b = ⊥

module _ (me : ℕ) (p : Part) (v : Volatile) where
  abbrev now : Candidate
  now = candidate_of me p v

  -- what it has promised then
  abbrev promise_then : PartStep → Ballot
  promise_then y = (part_after p y.batch).promised

  -- the promise and the role stay, or it begins to lead a ballot above the promise
  abbrev StaysOrLeads : PartStep → Type 0
  StaysOrLeads y = ((promise_then y ≡ p.promised) × (y.volatile.role ≡ v.role)) ⊎ ((is_below p.promised (promise_then y) ≡ true) × RoleIn (only (promise_then y)) y.volatile.role)

  -- a step by this verdict, after which this is known
  record StepBy (x : Verdict) (a : Candidate) (y : PartStep) : Type 0 where
    own : y.volatile.own ≡ a.own
    leader : y.volatile.leader ≡ a.leader
    flag : y.volatile.flag ≡ a.flag
    floor : y.volatile.floor ≡ greater a.floor p.promised
    role : RoleIn (up_to me p.promised) v.role → RoleIn (up_to me (promise_then y)) y.volatile.role
    sends : Each (SendIn (up_to me (promise_then y))) y.sends
    led : StaysOrLeads y
    waits : RoleIn (waiting me p.members) v.role → RoleIn (waiting me p.members) y.volatile.role
    promised : (promise_then y ≡ p.promised) ⊎ IsWon x (promise_then y)
    raised_to : AtMost p.promised (promise_then y)
    covers : IfElected (λ n. n.pid ≡ me → AtMost n (promise_then y)) x

  asks_in : (P : Claim) (b : Bool) → Each (SendIn P) (asks_leaders me p v.heard b)
  asks_in P b =
      cond_both (not b && is_below (greatest no_ballot v.heard) p.promised) (asks_heard me p v.heard) [] (Each (SendIn P))
      (λ _. to_each_in P p.conf (filter (λ q. has_replied v.heard q) (others me p.members)) body.PrepareReq tt) (λ _. tt)

  module _ (a : Candidate) where
    abbrev begun : Volatile
    begun = with_floor_at (next_round_state v a) p.promised

    abbrev asked : List (ℕ × Msg)
    asked = asks_leaders me p v.heard a.flag

    quiet : (x : Verdict) → IfElected (λ n. n.pid ≡ me → AtMost n p.promised) x → StepBy x a (also_sending (only_asks me p begun) asked)
    quiet x c =
        let P : Claim = up_to me p.promised in
        record {
          own = refl;
          leader = refl;
          flag = refl;
          floor = refl;
          role = λ k. k;
          sends = Each-append (SendIn P) (requests me p begun.round) asked (to_each_in P p.conf (others me p.members) (body.HeartbeatRequest begun.round) tt) (asks_in P a.flag);
          led = inl (refl, refl);
          waits = λ k. k;
          promised = inl refl;
          raised_to = is_total.irreflexive p.promised;
          covers = c;
        }

    leads : (n : Ballot) → a.leader ≡ n → n.pid ≡ me → is_below p.promised n ≡ true → StepBy (verdict.Elected n) a (also_sending (with_effects begun (first [] (requests me p begun.round) [] (lead me p begun.role n))) asked)
    leads n is mine above =
        let q : Part = part_with p (change.Promise n) in
        let e : Effects = prepares me q (first_preparing n) in
        let P : Claim = up_to me n in
        let here : P.asked n = (is_total.irreflexive n, mine) in
        let r : RowIn P e = prepares_in P me q (first_preparing n) here (λ _. here) (λ _. here) in
        let then_ : (part_after q e.batch).promised ≡ n = free_after q e.batch r.batch in
        record {
          own = refl;
          leader = refl;
          flag = refl;
          floor = refl;
          role = λ _. subst (λ (b : Ballot). RoleIn (up_to me b) e.role) (sym then_) r.role;
          sends =
              subst (λ (b : Ballot). Each (SendIn (up_to me b)) ((requests me p begun.round ++ (to_each p.conf (others me p.members) (prepare_body p n) ++ e.sends)) ++ asked)) (sym then_)
              (Each-append (SendIn P) (requests me p begun.round ++ (to_each p.conf (others me p.members) (prepare_body p n) ++ e.sends)) asked
              (Each-append (SendIn P) (requests me p begun.round) (to_each p.conf (others me p.members) (prepare_body p n) ++ e.sends) (to_each_in P p.conf (others me p.members) (body.HeartbeatRequest begun.round) tt)
              (Each-append (SendIn P) (to_each p.conf (others me p.members) (prepare_body p n)) e.sends (to_each_in P p.conf (others me p.members) (prepare_body p n) here) r.sends))
              (asks_in P a.flag));
          led = inr (
            subst (λ (b : Ballot). is_below p.promised b ≡ true) (sym then_) above,
            subst (λ (b : Ballot). RoleIn (only b) e.role) (sym then_) (prepares_in (only n) me q (first_preparing n) refl (λ _. refl) (λ _. refl)).role,
          );
          waits = λ _. (prepares_in (waiting me p.members) me q (first_preparing n) tt (λ _. tt) (λ no. no)).role;
          promised = inr then_;
          raised_to = subst (AtMost p.promised) (sym then_) (below_at_most p.promised n above);
          covers = λ _. same_at_most n (part_after q e.batch).promised (sym then_);
        }

    step_by : (x : Verdict) → IfElected (λ n. a.leader ≡ n) x → StepBy x a (tick_ended me p v (record { verdict = x; after = a }))
    step_by verdict.Nobody k = quiet verdict.Nobody tt
    step_by (verdict.Raised b) k = quiet (verdict.Raised b) tt
    step_by (verdict.Elected n) k =
        cond_both (eqb n.pid me) (elected me p begun n) (only_asks me p begun) (λ (y : PartStep). StepBy (verdict.Elected n) a (also_sending y asked))
        (λ mine. cond_both (is_below p.promised n) (with_effects begun (first [] (requests me p begun.round) [] (lead me p begun.role n))) (only_asks me p begun) (λ (y : PartStep). StepBy (verdict.Elected n) a (also_sending y asked))
        (λ above. leads n k (eqb-true n.pid me mine) above) (λ low. quiet (verdict.Elected n) (λ _. low)))
        (λ other. quiet (verdict.Elected n) (λ e. absurd (eqb-false n.pid me other e)))

  abbrev ended : Ended
  ended = round_end now v.heard

  abbrev win : Ballot
  win = winner now v.heard

  step_is : StepBy ended.verdict ended.after (on_tick me p v)
  step_is =
      step_by ended.after ended.verdict (by_end (λ (e : Ended). IfElected (λ n. e.after.leader ≡ n) e.verdict) now v.heard (λ _. tt) (λ _ _ _. tt) (λ _ _ _. tt) (λ _ _ _. refl) (λ _ _ _. tt))

  -- ---- what an end leaves of it
  floor_same : ended.after.floor ≡ v.floor
  floor_same = by_end (λ (e : Ended). e.after.floor ≡ v.floor) now v.heard (λ _. refl) (λ _ _ _. refl) (λ _ _ _. refl) (λ _ _ _. refl) (λ _ _ _. refl)

  own_id : v.own.pid ≡ me → ended.after.own.pid ≡ me
  own_id k = by_end (λ (e : Ended). e.after.own.pid ≡ me) now v.heard (λ _. k) (λ _ _ _. refl) (λ _ _ _. k) (λ _ _ _. k) (λ _ _ _. k)

  over_least : is_below (least now) (raised_ballot now) ≡ true
  over_least = or_left _ _ (lt-ltb (least now).number ((least now).number + 1) (omega arith))

  own_later : AtMost v.own ended.after.own
  own_later =
      by_end (λ (e : Ended). AtMost v.own e.after.own) now v.heard (λ _. is_total.irreflexive v.own)
      (λ _ low _. below_at_most v.own (raised_ballot now) (is_total.transitive v.own (least now) (raised_ballot now) (own_low low) over_least))
      (λ _ _ _. is_total.irreflexive v.own) (λ _ _ _. is_total.irreflexive v.own) (λ _ _ _. is_total.irreflexive v.own)
    where
      own_low : is_below win (least now) ≡ true → is_below v.own (least now) ≡ true
      own_low low = at_most_below v.own win (least now) (own_in v.own v.heard) low

  -- who takes its own ballot for the leader's has promised it, or one above it
  leader_covered : (z : Ballot) → v.own.pid ≡ me → (v.leader ≡ v.own → AtMost v.own z) → IfElected (λ n. n.pid ≡ me → AtMost n z) ended.verdict → ended.after.leader ≡ ended.after.own → AtMost ended.after.own z
  leader_covered z id stands =
      by_end (λ (e : Ended). IfElected (λ n. n.pid ≡ me → AtMost n z) e.verdict → e.after.leader ≡ e.after.own → AtMost e.after.own z) now v.heard
      (λ _ _ same. stands same)
      (λ _ _ _ _ same. absurd (both_ways (is_below v.leader (raised_ballot now)) (same_at_most (raised_ballot now) v.leader (sym same)) (first_below v.leader v.floor (raised_ballot now) over_least)))
      (λ _ _ _ _ same. stands same)
      (λ _ _ _ c same. subst (λ (b : Ballot). AtMost b z) same (c (ap (λ (b : Ballot). b.pid) same ∙ id)))
      (λ _ _ _ _ same. stands same)

  -- ---- together
  pub record TickIn (y : PartStep) : Type 0 where
    pub own_is : v.own.pid ≡ me → y.volatile.own.pid ≡ me
    pub own_rises : AtMost v.own y.volatile.own
    pub role : RoleIn (up_to me p.promised) v.role → RoleIn (up_to me (promise_then y)) y.volatile.role
    pub sends : Each (SendIn (up_to me (promise_then y))) y.sends
    pub waits : RoleIn (waiting me p.members) v.role → RoleIn (waiting me p.members) y.volatile.role
    pub stays : promise_then y ≡ p.promised → y.volatile.role ≡ v.role
    pub raised : AtMost p.promised (promise_then y)
    pub stands : v.own.pid ≡ me → (v.leader ≡ v.own → AtMost v.own p.promised) → y.volatile.leader ≡ y.volatile.own → AtMost y.volatile.own (promise_then y)
    pub floor_rises : AtMost v.floor y.volatile.floor
    pub promise_up_to : (z : Ballot) → AtMost y.volatile.floor z → AtMost win z → AtMost (promise_then y) z
    pub floor_up_to : (z : Ballot) → AtMost v.floor z → AtMost p.promised z → AtMost y.volatile.floor z

  won : (b : Ballot) → IsWon ended.verdict b → b ≡ win
  won b =
      by_end (λ (e : Ended). IsWon e.verdict b → b ≡ win) now v.heard (λ _ k. absurd k) (λ _ _ _ k. absurd k) (λ _ _ _ k. absurd k) (λ _ _ _ k. k) (λ _ _ _ k. absurd k)

  promise_low : (z b : Ballot) → (b ≡ p.promised) ⊎ IsWon ended.verdict b → AtMost (greater ended.after.floor p.promised) z → AtMost win z → AtMost b z
  promise_low z b (inl e) f w = subst (λ (x : Ballot). AtMost x z) (sym e) (at_most_then p.promised (greater ended.after.floor p.promised) z (second_at_most ended.after.floor p.promised) f)
  promise_low z b (inr k) f w = subst (λ (x : Ballot). AtMost x z) (sym (won b k)) w

  role_stays : (y : PartStep) → promise_then y ≡ p.promised → StaysOrLeads y → y.volatile.role ≡ v.role
  role_stays y same (inl e) = e.1
  role_stays y same (inr e) = absurd (both_ways (is_below p.promised p.promised) (is_total.irreflexive p.promised) (subst (λ (b : Ballot). is_below p.promised b ≡ true) same e.0))

  tick_of : (y : PartStep) → StepBy ended.verdict ended.after y → TickIn y
  tick_of y k =
      record {
        own_is = λ id. ap (λ (b : Ballot). b.pid) k.own ∙ own_id id;
        own_rises = subst (AtMost v.own) (sym k.own) own_later;
        role = k.role;
        sends = k.sends;
        waits = k.waits;
        stays = λ same. role_stays y same k.led;
        raised = k.raised_to;
        stands = λ id stands same.
            subst (λ (b : Ballot). AtMost b (promise_then y)) (sym k.own)
            (leader_covered (promise_then y) id (λ e. at_most_then v.own p.promised (promise_then y) (stands e) k.raised_to) k.covers (sym k.leader ∙ same ∙ k.own));
        floor_rises = subst (AtMost v.floor) (sym (k.floor ∙ ap (λ (b : Ballot). greater b p.promised) floor_same)) (first_at_most v.floor p.promised);
        promise_up_to = λ z f w. promise_low z (promise_then y) k.promised (subst (λ (b : Ballot). AtMost b z) k.floor f) w;
        floor_up_to = λ z f q. subst (λ (b : Ballot). AtMost b z) (sym (k.floor ∙ ap (λ (b : Ballot). greater b p.promised) floor_same)) (greater_at_most v.floor p.promised z f q);
      }

  pub tick_in : TickIn (on_tick me p v)
  tick_in = tick_of (on_tick me p v) step_is

  -- ---- who has promised its own ballot prepares or leads it
  own_raised : (ended.after.own ≡ v.own) ⊎ (ended.after.own ≡ raised_ballot now)
  own_raised =
      by_end (λ (e : Ended). (e.after.own ≡ v.own) ⊎ (e.after.own ≡ raised_ballot now)) now v.heard (λ _. inl refl) (λ _ _ _. inr refl) (λ _ _ _. inl refl) (λ _ _ _. inl refl) (λ _ _ _. inl refl)

  module _ (G : Ballot → Type 0) (known : p.promised.pid ≡ me → AtMost p.promised (least now)) (heads : p.promised ≡ v.own → G v.own → RoleIn (only v.own) v.role) where
    heads_of : (y : PartStep) → StepBy ended.verdict ended.after y → promise_then y ≡ y.volatile.own → G y.volatile.own → RoleIn (only y.volatile.own) y.volatile.role
    heads_of y k same g = by_led k.led
      where
        by_own : (promise_then y ≡ p.promised) × (y.volatile.role ≡ v.role) → (ended.after.own ≡ v.own) ⊎ (ended.after.own ≡ raised_ballot now) → RoleIn (only y.volatile.own) y.volatile.role
        by_own e (inl o) =
            let own_is : y.volatile.own ≡ v.own = k.own ∙ o in
            subst (λ (b : Ballot). RoleIn (only b) y.volatile.role) (sym own_is) (subst (RoleIn (only v.own)) (sym e.1) (heads (sym e.0 ∙ same ∙ own_is) (subst G own_is g)))
        by_own e (inr o) =
            let raised : p.promised ≡ raised_ballot now = sym e.0 ∙ same ∙ k.own ∙ o in
            absurd (both_ways (is_below (least now) (raised_ballot now)) (subst (λ (b : Ballot). AtMost b (least now)) raised (known (ap (λ (b : Ballot). b.pid) raised))) over_least)

        by_led : StaysOrLeads y → RoleIn (only y.volatile.own) y.volatile.role
        by_led (inl e) = by_own e own_raised
        by_led (inr r) = subst (λ (b : Ballot). RoleIn (only b) y.volatile.role) same r.1

    pub tick_heads : promise_then (on_tick me p v) ≡ (on_tick me p v).volatile.own → G (on_tick me p v).volatile.own → RoleIn (only (on_tick me p v).volatile.own) (on_tick me p v).volatile.role
    tick_heads = heads_of (on_tick me p v) step_is

  -- ---- of one that heard a majority, and may raise its ballot
  pub record HeardIn (y : PartStep) : Type 0 where
    pub flag : y.volatile.flag ≡ true
    pub leader_low : (z : Ballot) → AtMost y.volatile.own z → AtMost win z → AtMost y.volatile.leader z
    pub floor_low : (z : Ballot) → AtMost y.volatile.own z → AtMost win z → AtMost v.floor z
    -- where the winner is as high as all that it knows, it is taken for the leader's
    pub takes : AtMost v.leader win → AtMost v.floor win → y.volatile.leader ≡ win
    pub stays : AtMost v.leader win → AtMost v.floor win → y.volatile.own ≡ v.own

  module _ (majority : hears_majority now v.heard ≡ true) (room : is_below win (least now) ≡ true → ltb (least now).number greatest_number ≡ true) where
    -- what is known then
    record EndIn (a : Candidate) : Type 0 where
      flag : a.flag ≡ true
      leader_low : (z : Ballot) → AtMost a.own z → AtMost win z → AtMost a.leader z
      floor_low : (z : Ballot) → AtMost a.own z → AtMost win z → AtMost v.floor z
      takes : AtMost v.leader win → AtMost v.floor win → a.leader ≡ win
      stays : AtMost v.leader win → AtMost v.floor win → a.own ≡ v.own

    leader_least : (z : Ballot) → AtMost (least now) z → AtMost v.leader z
    leader_least z m = at_most_then v.leader (least now) z (first_at_most v.leader v.floor) m

    floor_least : (z : Ballot) → AtMost (least now) z → AtMost v.floor z
    floor_least z m = at_most_then v.floor (least now) z (second_at_most v.leader v.floor) m

    not_low : {A : Type 0} → is_below win (least now) ≡ true → AtMost v.leader win → AtMost v.floor win → A
    not_low low l f = absurd (both_ways (is_below win (least now)) (greater_at_most v.leader v.floor win l f) low)

    raised_least : (z : Ballot) → AtMost (raised_ballot now) z → AtMost (least now) z
    raised_least z m = at_most_then (least now) (raised_ballot now) z (below_at_most (least now) (raised_ballot now) over_least) m

    end_in : EndIn ended.after
    end_in =
        by_end (λ (e : Ended). EndIn e.after) now v.heard
        (λ un. absurd (both_ways _ un majority))
        (λ _ low _. record {
          flag = refl;
          leader_low = λ z o w. leader_least z (raised_least z o);
          floor_low = λ z o w. floor_least z (raised_least z o);
          takes = λ l f. not_low low l f;
          stays = λ l f. not_low low l f;
        })
        (λ _ low full. absurd (both_ways _ full (room low)))
        (λ _ high _. record {
          flag = refl;
          leader_low = λ z o w. w;
          floor_low = λ z o w. floor_least z (at_most_then (least now) win z high w);
          takes = λ l f. refl;
          stays = λ l f. refl;
        })
        (λ _ high up. record {
          flag = refl;
          leader_low = λ z o w. leader_least z (at_most_then (least now) win z high w);
          floor_low = λ z o w. floor_least z (at_most_then (least now) win z high w);
          takes = λ l f. same_ballot v.leader win l up;
          stays = λ l f. refl;
        })

    heard_of : (y : PartStep) → StepBy ended.verdict ended.after y → HeardIn y
    heard_of y k =
        let e : EndIn ended.after = end_in in
        record {
          flag = k.flag ∙ e.flag;
          leader_low = λ z o w. subst (λ (b : Ballot). AtMost b z) (sym k.leader) (e.leader_low z (subst (λ (b : Ballot). AtMost b z) k.own o) w);
          floor_low = λ z o w. e.floor_low z (subst (λ (b : Ballot). AtMost b z) k.own o) w;
          takes = λ l f. k.leader ∙ e.takes l f;
          stays = λ l f. k.own ∙ e.stays l f;
        }

    pub heard_tick : HeardIn (on_tick me p v)
    heard_tick = heard_of (on_tick me p v) step_is
