-- The invariant: what holds of the nodes and of the messages, told by the history.
use Rattle.std.proofs.Common.{◌≡◌, ℕ, suc, ◌+◌, ◌<◌, ◌≤◌, ◌⊎◌, inl, inr, ⊎_elim, List, ◌++◌, length, true, take, drop, refl, sym, ap, ◌∙◌, arith, Some}
use Rattle.std.specs.Prelude.{nat_lt, slice_get}
use Rattle.std.proofs.lemmas.Bool.{ltb-true, lt-ltb, cases_order}
use Rattle.op_types.specs.declared.log.Entry.{Entry}
use Rattle.op_types.specs.Limits.{positions_end}
use Rattle.op_paxos.specs.Nodes.{owner, Promised, PreparingState, LeadingState, Role, Idle, Preparing, Leading, Node}
use Rattle.op_types.specs.Joinings.{Held}
use Rattle.op_paxos.specs.Messages.{PromisedRun, SyncRun, Msg, Prepare, Promise, PromisePart, AcceptSync, AcceptSyncPart, Accept, Accepted, Decide, PrepareReq, Refuse, Forward, TrimAsk, Progress, Trim}
use Rattle.op_paxos.specs.Leader.{is_usable}
use Rattle.op_paxos.specs.Parts.{told_by}
use Rattle.op_types.proofs.Elements.{get_on}
use Rattle.op_types.proofs.Stages.{EachHeld}
use Rattle.op_types.proofs.Cuts.{RunOf}
use Rattle.op_paxos.proofs.Majorities.{many_up}
use Rattle.op_paxos.proofs.History.{History, Chosen, HistoryOk, core}

-- chosen at some round up to z
pub record ChosenBy (ms : List ℕ) (g : History) (z x : ℕ) : Type 0 where
  pub at : ℕ
  pub low : at ≤ z
  pub chosen : Chosen ms g at x

-- nothing, or chosen at some round up to z
abbrev pub Sure : List ℕ → History → ℕ → ℕ → Type 0
Sure ms g z x = (x ≡ 0) ⊎ ChosenBy ms g z x

-- ---- what messages tell
-- a Prepare tells a round that its sender has come to, and what is chosen up to it
pub record PrepareOk (ms : List ℕ) (ac : ℕ → ℕ) (g : History) (p na nl d : ℕ) : Type 0 where
  pub short : (nl ≤ positions_end) × (d ≤ positions_end)
  pub low : na ≤ ac p
  pub sure : Sure ms g na d

-- q promised n to p, and told of its log
pub record PromOk (ms : List ℕ) (pr ac : ℕ → ℕ) (g : History) (q p n : ℕ) (pm : Promised) : Type 0 where
  pub low : pm.round ≤ n
  pub promised : n ≤ pr q  -- q keeps the promise
  pub led : 0 < g.mark pm.round
  pub enough : g.mark pm.round ≤ suc pm.size  -- it reaches over what its round began with
  pub voted : pm.size < g.acc q pm.round  -- q accepted so much
  pub seen : (m : ℕ) → m < n → 0 < g.acc q m → (m < pm.round) ⊎ ((m ≡ pm.round) × (g.acc q m ≤ suc pm.size))  -- and no more before n
  pub fits : pm.decided ≤ pm.size
  pub sure : Sure ms g pm.round pm.decided  -- what q has decided is chosen
  pub short : pm.start ≤ positions_end
  pub rest : pm.rest ≡ drop pm.start (take pm.size (g.full pm.round))  -- what it told is its log from the start on
  pub base : ℕ  -- the round that p asked with
  pub base_low : base ≤ ac p
  pub start : (pm.round ≤ base) ⊎ Sure ms g base pm.start  -- up to the start both logs agree

-- these entries stand in the leader's log of n, from a on
pub record SliceOk (g : History) (n a : ℕ) (es : List Entry) : Type 0 where
  pub led : 0 < g.mark n
  pub within : a + length es ≤ length (g.full n)
  pub prefix : take (a + length es) (g.full n) ≡ take a (g.full n) ++ es

-- q accepted nothing between z and n, and the logs of z and n agree up to x
pub record ExactOk (g : History) (q n x z : ℕ) : Type 0 where
  pub led : 0 < g.mark z
  pub fits : x ≤ length (g.full z)
  pub last : (m : ℕ) → m < n → 0 < g.acc q m → m ≤ z
  pub same : take x (g.full z) ≡ take x (g.full n)

-- an AcceptSync of n to q: what it brings, and why the log before its start is the leader's
pub record SyncOk (ms : List ℕ) (pr ac : ℕ → ℕ) (g : History) (q n x : ℕ) (es : List Entry) : Type 0 where
  pub slice : SliceOk g n x es
  pub enough : g.mark n ≤ suc (x + length es)  -- it reaches over the adopted log
  pub promised : n ≤ pr q
  pub round : ℕ  -- the accepted round that q told
  pub low : round ≤ ac q
  pub ground : (n ≤ round) ⊎ (Sure ms g round x ⊎ ExactOk g q n x round)  -- up to the start the logs of that round and of n agree

-- a part of a Promise of n from q to p: a run of its entries
pub record PromPartOk (ms : List ℕ) (pr ac : ℕ → ℕ) (g : History) (q p n : ℕ) (part : PromisedRun) : Type 0 where
  pub rest : List Entry
  pub whole : PromOk ms pr ac g q p n (told_by part rest)
  pub place : ℕ
  pub at : part.at ≡ part.start + place
  pub run : RunOf rest place part.run

-- a part of an AcceptSync of n to q: a run of its entries
pub record SyncPartOk (ms : List ℕ) (pr ac : ℕ → ℕ) (g : History) (q n : ℕ) (part : SyncRun) : Type 0 where
  pub rest : List Entry
  pub whole : SyncOk ms pr ac g q n part.start rest
  pub end : part.start + length rest ≡ part.end
  pub place : ℕ
  pub at : part.at ≡ part.start + place
  pub run : RunOf rest place part.run

-- what holds of a message from p to q
abbrev pub MsgOk : List ℕ → (ℕ → ℕ) → (ℕ → ℕ) → History → ℕ → ℕ → Msg → Type 0
MsgOk ms pr ac g p q (Prepare n na nl d) = PrepareOk ms ac g p na nl d
MsgOk ms pr ac g p q (Promise n pm) = PromOk ms pr ac g p q n pm
MsgOk ms pr ac g p q (PromisePart n part) = PromPartOk ms pr ac g p q n part
MsgOk ms pr ac g p q (AcceptSync n x es) = SyncOk ms pr ac g q n x es
MsgOk ms pr ac g p q (AcceptSyncPart n part) = SyncPartOk ms pr ac g q n part
MsgOk ms pr ac g p q (Accept n a es) = SliceOk g n a es
MsgOk ms pr ac g p q (Accepted n x) = x < g.acc p n
MsgOk ms pr ac g p q (Decide n x) = Sure ms g n x
MsgOk ms pr ac g p q PrepareReq = Unit {0}
MsgOk ms pr ac g p q (Refuse n b) = Unit {0}
MsgOk ms pr ac g p q (Forward es) = Unit {0}
MsgOk ms pr ac g p q (TrimAsk n) = Unit {0}
MsgOk ms pr ac g p q (Progress n d) = Unit {0}
MsgOk ms pr ac g p q (Trim x) = Unit {0}

-- ---- what is staged
-- an entry at this position that q told p in a part of a promise of n: it stands in the log of the round that is told
pub record ToldEntry (ms : List ℕ) (pr ac : ℕ → ℕ) (g : History) (q p n i : ℕ) (e : Entry) : Type 0 where
  pub told : Promised
  pub ok : PromOk ms pr ac g q p n told
  pub is : slice_get (g.full told.round) i ≡ Some e

-- what is staged for ballot n stands in its leader's log
abbrev pub StagedOk : History → ℕ → Held → Type 0
StagedOk g n staged = EachHeld (λ i e. (0 < g.mark n) × (slice_get (g.full n) i ≡ Some e)) staged

-- ---- what holds of a node
-- a node that prepares
pub record PrepOk (ms : List ℕ) (pr ac : ℕ → ℕ) (g : History) (p : ℕ) (nd : Node) (r : PreparingState) : Type 0 where
  pub promised : r.ballot ≡ nd.promised
  pub owned : owner r.ballot ≡ p
  pub unled : g.mark r.ballot ≡ 0  -- the ballot was never led
  pub kept : (q : ℕ) (pm : Promised) → r.kept q ≡ Some pm → PromOk ms pr ac g q p r.ballot pm
  pub usable : (q : ℕ) (pm : Promised) → r.kept q ≡ Some pm → is_usable nd pm ≡ true  -- none of the promises has become unusable
  pub parts : (q : ℕ) → EachHeld (λ i e. ToldEntry ms pr ac g q p r.ballot i e) (r.parts q)

-- a node that leads
pub record LeadOk (g : History) (p : ℕ) (nd : Node) (l : LeadingState) : Type 0 where
  pub promised : l.ballot ≡ nd.promised
  pub accepted : l.ballot ≡ nd.accepted
  pub owned : owner l.ballot ≡ p
  pub log_is : nd.log ≡ g.full l.ballot  -- its log is its ballot's
  pub size_is : g.mark l.ballot ≡ suc l.size
  pub below : l.round < l.ballot
  pub led : 0 < g.mark l.round
  pub fits : l.size ≤ length (g.full l.round)
  pub same : take l.size (g.full l.ballot) ≡ take l.size (g.full l.round)
  pub acked : (q : ℕ) → 0 < l.acked q → l.acked q < g.acc q l.ballot  -- what was acknowledged is accepted

-- what holds of a node's role
abbrev pub RoleOk : List ℕ → (ℕ → ℕ) → (ℕ → ℕ) → History → ℕ → Node → Role → Type 0
RoleOk ms pr ac g p nd Idle = Unit {0}
RoleOk ms pr ac g p nd (Preparing r) = PrepOk ms pr ac g p nd r
RoleOk ms pr ac g p nd (Leading l) = LeadOk g p nd l

-- what holds of a node
pub record NodeOk (ms : List ℕ) (pr ac : ℕ → ℕ) (g : History) (p : ℕ) (nd : Node) : Type 0 where
  pub within : nd.accepted ≤ nd.promised
  pub log_is : nd.log ≡ take (length nd.log) (g.full nd.accepted)  -- its log is a prefix of its accepted round's
  pub vote : g.acc p nd.accepted ≡ suc (length nd.log)  -- it accepted as much as its log is long
  pub last : (n : ℕ) → 0 < g.acc p n → n ≤ nd.accepted  -- and nothing in a higher ballot
  pub fits : nd.decided ≤ length nd.log
  pub sure : Sure ms g nd.accepted nd.decided  -- what it has decided is chosen at a round up to its accepted one
  pub staged : StagedOk g nd.promised nd.staged
  pub role : RoleOk ms pr ac g p nd nd.role

-- a node's log is no longer than the positions
pub log_short : (ms : List ℕ) (pr ac : ℕ → ℕ) (g : History) (p : ℕ) (nd : Node) → HistoryOk ms pr g → NodeOk ms pr ac g p nd → length nd.log ≤ positions_end
log_short ms pr ac g p nd h o = let v = h.voted p nd.accepted (omega (arith, o.vote)) in omega (arith, v.2, o.vote, h.short nd.accepted v.0)

-- ---- how the history grows by a step of p
pub record Ext (pr : ℕ → ℕ) (p : ℕ) (g g' : History) : Type 0 where
  pub mark_same : (n : ℕ) → 0 < g.mark n → g'.mark n ≡ g.mark n  -- an adopted log stays
  pub longer : (n : ℕ) → 0 < g.mark n → length (g.full n) ≤ length (g'.full n)  -- a ballot's log only grows
  pub prefix : (n k : ℕ) → 0 < g.mark n → k ≤ length (g.full n) → take k (g'.full n) ≡ take k (g.full n)  -- at its end
  pub acc_up : (q n : ℕ) → g.acc q n ≤ g'.acc q n  -- votes only grow
  pub frozen : (q n : ℕ) → n < pr q → g'.acc q n ≡ g.acc q n  -- none is added below a promise
  pub others : (q n : ℕ) → (q ≡ p → ⊥) → g'.acc q n ≡ g.acc q n  -- only p votes
  pub own_mark : (n : ℕ) → (owner n ≡ p → ⊥) → g'.mark n ≡ g.mark n  -- only p leads its ballots
  pub own_full : (n : ℕ) → (owner n ≡ p → ⊥) → g'.full n ≡ g.full n

-- a history that stays
pub same_ext : (pr : ℕ → ℕ) (p : ℕ) (g : History) → Ext pr p g g
same_ext pr p g = record {
  mark_same = λ n h. refl;
  longer = λ n h. omega arith;
  prefix = λ n k h l. refl;
  acc_up = λ q n. omega arith;
  frozen = λ q n h. refl;
  others = λ q n h. refl;
  own_mark = λ n h. refl;
  own_full = λ n h. refl;
}

module _ (ms : List ℕ) (pr : ℕ → ℕ) (g : History) (h : HistoryOk ms pr g) where
  -- two logs above agree on what is sure
  sure_prefix : (z x m : ℕ) → (s : ChosenBy ms g z x) → z ≤ m → 0 < g.mark m → take x (g.full s.at) ≡ take x (g.full m)
  sure_prefix z x m s le led =
      ⊎_elim (λ (e : s.at ≡ m). ap (λ r. take x (g.full r)) e) (⊎_elim (λ (l : s.at < m). (core ms pr g h s.at x m s.chosen l led).1) (λ (l : m < s.at). absurd (omega (arith, s.low)))) (cases_order s.at m)

  -- the logs of two ballots agree on what is sure at a round below both
  pub sure_same : (z x c n : ℕ) → Sure ms g z x → z ≤ c → 0 < g.mark c → z ≤ n → 0 < g.mark n → take x (g.full c) ≡ take x (g.full n)
  sure_same z x c n (inl e) lc mc ln mn = ap (λ k. take k (g.full c)) e ∙ sym (ap (λ k. take k (g.full n)) e)
  sure_same z x c n (inr s) lc mc ln mn = sym (sure_prefix z x c s lc mc) ∙ sure_prefix z x n s ln mn

module _ (ms : List ℕ) (pr : ℕ → ℕ) (p : ℕ) (g g' : History) (x : Ext pr p g g') where
  -- what is chosen stays chosen
  pub chosen_up : (n k : ℕ) → Chosen ms g n k → Chosen ms g' n k
  chosen_up n k c = many_up ms (λ q. nat_lt k (g.acc q n)) (λ q. nat_lt k (g'.acc q n)) (λ q e. lt-ltb k (g'.acc q n) (omega (arith, ltb-true k (g.acc q n) e, x.acc_up q n))) c

  -- what is sure stays sure
  pub sure_up : (z z' k : ℕ) → z ≤ z' → Sure ms g z k → Sure ms g' z' k
  sure_up z z' k le (inl e) = inl e
  sure_up z z' k le (inr s) = inr (record { at = s.at; low = omega (arith, s.low); chosen = chosen_up s.at k s.chosen })

  -- entries of a ballot's log stay in it
  pub slice_up : (n a : ℕ) (es : List Entry) → SliceOk g n a es → SliceOk g' n a es
  slice_up n a es s = record {
    led = omega (arith, x.mark_same n s.led, s.led);
    within = omega (arith, x.longer n s.led, s.within);
    prefix = x.prefix n (a + length es) s.led s.within ∙ s.prefix ∙ ap (λ l. l ++ es) (sym (x.prefix n a s.led (omega (arith, s.within))));
  }

  -- so does each entry, at its place
  pub entry_up : (n i : ℕ) (e : Entry) → 0 < g.mark n → slice_get (g.full n) i ≡ Some e → slice_get (g'.full n) i ≡ Some e
  entry_up n i e led is = get_on (g.full n) (g'.full n) i e (x.prefix n (length (g.full n)) led (omega arith)) is

  -- what is staged stays right
  pub staged_up : (n : ℕ) (staged : Held) → StagedOk g n staged → StagedOk g' n staged
  staged_up n staged o i e is = let k = o i e is in (omega (arith, k.0, x.mark_same n k.0), entry_up n i e k.0 k.1)

  module _ (h : HistoryOk ms pr g) (pr' ac ac' : ℕ → ℕ) (pr_up : (q : ℕ) → pr q ≤ pr' q) (ac_up : (q : ℕ) → ac q ≤ ac' q) where
    prom_fits : (q n : ℕ) (pm : Promised) (s : ℕ) → PromOk ms pr ac g q s n pm → pm.size ≤ length (g.full pm.round)
    prom_fits q n pm s o = omega (arith, (h.voted q pm.round (omega (arith, o.voted))).2, o.voted)

    seen_up : (q n m a k : ℕ) → n ≤ pr q → m < n → ((0 < g.acc q m) → (m < a) ⊎ ((m ≡ a) × (g.acc q m ≤ k))) → 0 < g'.acc q m → (m < a) ⊎ ((m ≡ a) × (g'.acc q m ≤ k))
    seen_up q n m a k le lt f has =
        let e = x.frozen q m (omega arith) in
        ⊎_elim (λ (l : m < a). inl l) (λ (t : (m ≡ a) × (g.acc q m ≤ k)). inr (t.0, omega (arith, t.1, e))) (f (omega (arith, e)))

    -- what holds of a Promise stays so
    pub prom_up : (q t n : ℕ) (pm : Promised) → PromOk ms pr ac g q t n pm → PromOk ms pr' ac' g' q t n pm
    prom_up q t n pm o = record {
      low = o.low;
      promised = omega (arith, o.promised, pr_up q);
      led = omega (arith, x.mark_same pm.round o.led, o.led);
      enough = omega (arith, x.mark_same pm.round o.led, o.enough);
      voted = omega (arith, x.acc_up q pm.round, o.voted);
      seen = λ m lt has. seen_up q n m pm.round (suc pm.size) o.promised lt (o.seen m lt) has;
      fits = o.fits;
      sure = sure_up pm.round pm.round pm.decided (omega arith) o.sure;
      rest = o.rest ∙ ap (drop pm.start) (sym (x.prefix pm.round pm.size o.led (prom_fits q n pm t o)));
      base = o.base;
      base_low = omega (arith, o.base_low, ac_up t);
      short = o.short;
      start = ⊎_elim (λ (l : pm.round ≤ o.base). inl l) (λ (s : Sure ms g o.base pm.start). inr (sure_up o.base o.base pm.start (omega arith) s)) o.start;
    }

    -- what holds of its entries, and of its parts
    pub told_up : (q t n i : ℕ) (e : Entry) → ToldEntry ms pr ac g q t n i e → ToldEntry ms pr' ac' g' q t n i e
    told_up q t n i e o = record { told = o.told; ok = prom_up q t n o.told o.ok; is = entry_up (o.told).round i e (o.ok).led o.is }

    pub prom_part_up : (q t n : ℕ) (part : PromisedRun) → PromPartOk ms pr ac g q t n part → PromPartOk ms pr' ac' g' q t n part
    prom_part_up q t n part o = record { rest = o.rest; whole = prom_up q t n (told_by part o.rest) o.whole; place = o.place; at = o.at; run = o.run }

    exact_up : (q n k z : ℕ) → n ≤ pr q → 0 < g.mark n → k ≤ length (g.full n) → ExactOk g q n k z → ExactOk g' q n k z
    exact_up q n k z le led fit o = record {
      led = omega (arith, x.mark_same z o.led, o.led);
      fits = omega (arith, x.longer z o.led, o.fits);
      last = λ m lt has. o.last m lt (omega (arith, x.frozen q m (omega arith), has));
      same = x.prefix z k o.led o.fits ∙ o.same ∙ sym (x.prefix n k led fit);
    }

    -- what holds of an AcceptSync stays so
    pub sync_up : (q n k : ℕ) (es : List Entry) → SyncOk ms pr ac g q n k es → SyncOk ms pr' ac' g' q n k es
    sync_up q n k es o = record {
      slice = slice_up n k es o.slice;
      enough = omega (arith, x.mark_same n ((o.slice).led), o.enough);
      promised = omega (arith, o.promised, pr_up q);
      round = o.round;
      low = omega (arith, o.low, ac_up q);
      ground = ⊎_elim (λ (l : n ≤ o.round). inl l) (⊎_elim (λ (s : Sure ms g o.round k). inr (inl (sure_up o.round o.round k (omega arith) s))) (λ (e : ExactOk g q n k o.round). inr (inr (exact_up q n k o.round o.promised ((o.slice).led) (omega (arith, (o.slice).within)) e)))) o.ground;
    }

    -- what holds of its parts
    pub sync_part_up : (q n : ℕ) (part : SyncRun) → SyncPartOk ms pr ac g q n part → SyncPartOk ms pr' ac' g' q n part
    sync_part_up q n part o = record { rest = o.rest; whole = sync_up q n part.start o.rest o.whole; end = o.end; place = o.place; at = o.at; run = o.run }

    -- what holds of a message stays so
    pub msg_up : (q t : ℕ) (m : Msg) → MsgOk ms pr ac g q t m → MsgOk ms pr' ac' g' q t m
    msg_up q t (Prepare n na nl d) o = record { short = o.short; low = omega (arith, o.low, ac_up q); sure = sure_up na na d (omega arith) o.sure }
    msg_up q t (Promise n pm) o = prom_up q t n pm o
    msg_up q t (PromisePart n part) o = prom_part_up q t n part o
    msg_up q t (AcceptSync n k es) o = sync_up t n k es o
    msg_up q t (AcceptSyncPart n part) o = sync_part_up t n part o
    msg_up q t (Accept n a es) o = slice_up n a es o
    msg_up q t (Accepted n k) o = omega (arith, x.acc_up q n, o)
    msg_up q t (Decide n k) o = sure_up n n k (omega arith) o
    msg_up q t PrepareReq o = tt
    msg_up q t (Refuse n b) o = tt
    msg_up q t (Forward e) o = tt
    msg_up q t (TrimAsk n) o = tt
    msg_up q t (Progress n d) o = tt
    msg_up q t (Trim x) o = tt

    -- a node whose own votes and ballots stay as they are
    pub role_up : (q : ℕ) (nd : Node) (r : Role) → ((n : ℕ) → owner n ≡ q → g'.mark n ≡ g.mark n) → ((n : ℕ) → owner n ≡ q → g'.full n ≡ g.full n) → 0 < g.mark nd.accepted → RoleOk ms pr ac g q nd r → RoleOk ms pr' ac' g' q nd r
    role_up q nd Idle sm sf v o = tt
    role_up q nd (Preparing r) sm sf v o = record {
      promised = o.promised;
      owned = o.owned;
      unled = sm r.ballot o.owned ∙ o.unled;
      kept = λ t pm e. prom_up t q r.ballot pm (o.kept t pm e);
      usable = o.usable;
      parts = λ t i e is. told_up t q r.ballot i e (o.parts t i e is);
    }
    role_up q nd (Leading l) sm sf v o =
        let led : 0 < g.mark l.ballot = omega (arith, o.size_is) in
        let fit : l.size ≤ length (g.full l.ballot) = omega (arith, h.marked l.ballot led, o.size_is) in
        record {
          promised = o.promised;
          accepted = o.accepted;
          owned = o.owned;
          log_is = o.log_is ∙ sym (sf l.ballot o.owned);
          size_is = x.mark_same l.ballot led ∙ o.size_is;
          below = o.below;
          led = omega (arith, x.mark_same l.round o.led, o.led);
          fits = omega (arith, x.longer l.round o.led, o.fits);
          same = x.prefix l.ballot l.size led fit ∙ o.same ∙ sym (x.prefix l.round l.size o.led o.fits);
          acked = λ t pos. omega (arith, o.acked t pos, x.acc_up t l.ballot);
        }

    -- what holds of a node that takes no step stays so
    pub node_up : (q : ℕ) (nd : Node) → ((n : ℕ) → g'.acc q n ≡ g.acc q n) → ((n : ℕ) → owner n ≡ q → g'.mark n ≡ g.mark n) → ((n : ℕ) → owner n ≡ q → g'.full n ≡ g.full n) → NodeOk ms pr ac g q nd → NodeOk ms pr' ac' g' q nd
    node_up q nd sa sm sf o =
        let v = h.voted q nd.accepted (omega (arith, o.vote)) in
        record {
          within = o.within;
          log_is = o.log_is ∙ sym (x.prefix nd.accepted (length nd.log) v.0 (omega (arith, v.2, o.vote)));
          vote = sa nd.accepted ∙ o.vote;
          last = λ n has. o.last n (omega (arith, sa n, has));
          fits = o.fits;
          sure = sure_up nd.accepted nd.accepted nd.decided (omega arith) o.sure;
          staged = staged_up nd.promised nd.staged o.staged;
          role = role_up q nd nd.role sm sf v.0 o.role;
        }
