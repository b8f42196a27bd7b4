-- The invariant over all configurations: each configuration is a run of its own.
use Rattle.std.proofs.Common.{◌≡◌, ℕ, zero, suc, ◌+◌, ◌<◌, ◌≤◌, ◌⊎◌, List, [], ◌∷◌, ◌++◌, length, Bool, true, false, refl, sym, ap, ◌∙◌, subst, subst₂, arith, Option, Some, None}
use Rattle.std.specs.Prelude.{slice_get}
use Rattle.op_types.specs.declared.log.Entry.{Entry}
use Rattle.op_types.specs.declared.log.StopSign.{StopSign}
use Rattle.op_spec.specs.Machine.{IsAmong, stop_at_end}
use Rattle.op_paxos.specs.Worlds as paxos
use Rattle.op_configurations.proofs.Among.{In}
use Rattle.op_paxos.specs.Agreement.{proposals}
use Rattle.op_paxos.proofs.TrimBound.{never_falls}
use Rattle.op_configurations.specs.Servers.{fresh, Part, Closed, Base, Joining, State, Letter, Body, Inner, HeartbeatRequest, HeartbeatReply, NextConf, AskBase, BasePart, BasePiece, AskSegment, Segment, Event, Ticks, TicksAlone, Proposes, Trims, Links, Unlinks, Reads, ReadsLong, latest, may_propose, Notes}
use Rattle.op_configurations.specs.Laws.{BaseStands, SegmentStands}
use Rattle.op_configurations.proofs.Fronts.{none_some, whole_same}
use Rattle.op_configurations.proofs.Runs.{Told, told_later, told_tidy, told_fronts}

-- the run of each configuration
pub record Tale : Type 0 where
  pub members : ℕ → List ℕ
  pub opened : ℕ → Bool
  pub events : ℕ → List paxos.Event

-- the world of a configuration
abbrev pub inst : Tale → ℕ → paxos.World
inst t c = paxos.run (t.members c) (t.events c) paxos.start

abbrev pub ToldIn : Tale → ℕ → List Entry → Type 0
ToldIn t c l = Told (t.members c) (t.events c) l

-- a whole decided list of c, that ends in this stop-sign
pub record Whole (t : Tale) (c : ℕ) (l : List Entry) (s : StopSign) : Type 0 where
  pub opened : t.opened c ≡ true
  pub last : stop_at_end l ≡ Some s
  pub told : ToldIn t c l

-- the list of c names the members of the configuration after it
pub record Linked (t : Tale) (c : ℕ) : Type 0 where
  pub list : List Entry
  pub sign : StopSign
  pub whole : Whole t c list sign
  pub next : t.members (suc c) ≡ sign.members

pub record TaleOk (first : List ℕ) (pr : ℕ → List Entry) (t : Tale) : Type 0 where
  pub one : t.opened 1 ≡ true
  pub first_members : t.members 1 ≡ first
  pub low : (c : ℕ) → t.opened c ≡ true → 0 < c
  pub empty : (c : ℕ) → t.opened c ≡ false → t.events c ≡ []
  pub linked : (c : ℕ) → 0 < c → t.opened (suc c) ≡ true → Linked t c
  pub proposed : (c : ℕ) (e : Entry) → In e (proposals (t.events c)) → IsAmong (pr c) e

-- every member of c has decided this far
abbrev pub Reached : Tale → ℕ → ℕ → Type 0
Reached t c x = (q : ℕ) → In q (t.members c) → x ≤ ((inst t c).nodes q).decided

-- ---- what a server keeps

pub record PartOk (t : Tale) (p : ℕ) (pt : Part) : Type 0 where
  pub opened : t.opened pt.conf ≡ true
  pub members : pt.members ≡ t.members pt.conf
  pub node : (inst t pt.conf).nodes p ≡ pt.node
  pub mine : In p pt.members

pub record ClosedOk (t : Tale) (k : Closed) : Type 0 where
  pub sign : StopSign
  pub whole : Whole t k.conf k.list sign
  pub next : k.next ≡ sign.members
  pub olds : k.olds ≡ t.members k.conf
  pub trimmed : k.trimmed ≤ length k.list
  pub reached : Reached t k.conf k.trimmed

-- what is told of the list before configuration c
pub record NextOk (t : Tale) (c : ℕ) (members olds : List ℕ) (len : ℕ) : Type 0 where
  pub before : ℕ
  pub list : List Entry
  pub sign : StopSign
  pub is : c ≡ suc before
  pub whole : Whole t before list sign
  pub named : members ≡ sign.members
  pub olds_are : olds ≡ t.members before
  pub len_is : len ≡ length list

pub record JoiningOk (t : Tale) (p : ℕ) (j : Joining) : Type 0 where
  pub next : NextOk t j.conf j.members j.olds j.len
  pub mine : In p j.members
  pub base : (b : Base) → j.base ≡ Some b → BaseStands next.list b
  pub reached : (b : Base) → j.base ≡ Some b → Reached t next.before b.at
  pub held : (n : ℕ) (e : Entry) → j.held n ≡ Some e → slice_get next.list n ≡ Some e

-- the first configuration has no closed list before it, and each later part stands behind the one that named its members
abbrev pub Before : Part → Option Closed → Type 0
Before pt o = ((pt.conf ≡ 1) × (o ≡ None)) ⊎ ((k : Closed) × (o ≡ Some k) × (pt.conf ≡ suc k.conf) × (pt.members ≡ k.next))

pub record StateOk (t : Tale) (p : ℕ) (st : State) : Type 0 where
  pub part : (pt : Part) → st.part ≡ Some pt → PartOk t p pt
  pub closed : (k : Closed) → st.closed ≡ Some k → ClosedOk t k
  pub joining : (j : Joining) → st.joining ≡ Some j → JoiningOk t p j
  pub untouched : (c : ℕ) → latest st < c → (inst t c).nodes p ≡ fresh
  pub before : (pt : Part) → st.part ≡ Some pt → Before pt st.closed
  pub above : (j : Joining) → st.joining ≡ Some j → latest st < j.conf

-- ---- what was sent

-- a base of the list before configuration c
pub record BaseOk (t : Tale) (c at : ℕ) (front : List Entry) : Type 0 where
  pub before : ℕ
  pub list : List Entry
  pub sign : StopSign
  pub is : c ≡ suc before
  pub whole : Whole t before list sign
  pub stands : BaseStands list (record { at = at; front = front })
  pub reached : Reached t before at

pub record SegmentOk (t : Tale) (c a : ℕ) (es : List Entry) : Type 0 where
  pub before : ℕ
  pub list : List Entry
  pub sign : StopSign
  pub is : c ≡ suc before
  pub whole : Whole t before list sign
  pub stands : SegmentStands list a es

abbrev pub BodyOk : Tale → ℕ → ℕ → ℕ → Body → Type 0
BodyOk t p q c (Inner m) = Unit {0}
BodyOk t p q c (NextConf members olds len trimmed) = NextOk t c members olds len × (trimmed ≤ len)
BodyOk t p q c (BasePart at front) = BaseOk t c at front
BodyOk t p q c (BasePiece at total from_at count front) = BaseOk t c at front
BodyOk t p q c (Segment a es) = SegmentOk t c a es
BodyOk t p q c _ = Unit {0}

abbrev pub LetterOk : Tale → Letter → Type 0
LetterOk t m = BodyOk t m.from m.to m.conf m.body

-- what an event needs: a letter was sent to the server, and a proposal that isn't refused is proposed in the configuration
abbrev pub EventOk : (ℕ → List Entry) → Tale → List Letter → ℕ → State → Event → Type 0
EventOk pr t soup p st (Reads n m) = LetterOk t m × (m.to ≡ p) × (slice_get soup n ≡ Some m)
EventOk pr t soup p st (ReadsLong n total m) = LetterOk t m × (m.to ≡ p) × (slice_get soup n ≡ Some m)
EventOk pr t soup p st (Proposes es) = (pt : Part) → st.part ≡ Some pt → may_propose p st (Some pt) es ≡ true → (e : Entry) → IsAmong es e → IsAmong (pr pt.conf) e
EventOk pr t soup p st _ = Unit {0}

pub slice_more : {A : Type 0} (xs ys : List A) (n : ℕ) (x : A) → slice_get xs n ≡ Some x → slice_get (xs ++ ys) n ≡ Some x
slice_more [] ys n x e = absurd (none_some x e)
slice_more (y ∷ xs) ys zero x e = e
slice_more (y ∷ xs) ys (suc n) x e = slice_more xs ys n x e

-- ---- the tale goes on

pub record Onward (t t' : Tale) : Type 0 where
  pub opened : (c : ℕ) → t.opened c ≡ true → t'.opened c ≡ true
  pub members : (c : ℕ) → t.opened c ≡ true → t'.members c ≡ t.members c
  pub events : (c : ℕ) → t.opened c ≡ true → (more : List paxos.Event) × (t'.events c ≡ t.events c ++ more)

pub same_onward : (t : Tale) → Onward t t
same_onward t = record { opened = λ c h. h; members = λ c h. refl; events = λ c h. ([], sym (Rattle.std.proofs.Common.append-nil (t.events c))) }

pub onward_on : (t t1 t2 : Tale) → Onward t t1 → Onward t1 t2 → Onward t t2
onward_on t t1 t2 a b = record {
  opened = λ c h. b.opened c (a.opened c h);
  members = λ c h. b.members c (a.opened c h) ∙ a.members c h;
  events = λ c h. let x = a.events c h in let y = b.events c (a.opened c h) in (x.0 ++ y.0, y.1 ∙ ap (λ (l : List paxos.Event). l ++ y.0) x.1 ∙ Rattle.std.proofs.Common.append_assoc (t.events c) x.0 y.0);
}

module _ (t t' : Tale) (o : Onward t t') where
  pub told_on : (c : ℕ) (l : List Entry) → t.opened c ≡ true → ToldIn t c l → ToldIn t' c l
  told_on c l h d = let x = o.events c h in subst₂ (λ (ms : List ℕ) (es : List paxos.Event). Told ms es l) (sym (o.members c h)) (sym x.1) (told_later (t.members c) (t.events c) x.0 l d)

  pub whole_on : (c : ℕ) (l : List Entry) (s : StopSign) → Whole t c l s → Whole t' c l s
  whole_on c l s k = record { opened = o.opened c k.opened; last = k.last; told = told_on c l k.opened k.told }

  -- a member has decided no less than before
  pub decided_on : (c : ℕ) → t.opened c ≡ true → (q : ℕ) → ((inst t c).nodes q).decided ≤ ((inst t' c).nodes q).decided
  decided_on c h q =
      let x = o.events c h in
      subst₂ (λ (ms : List ℕ) (es : List paxos.Event). ((inst t c).nodes q).decided ≤ ((paxos.run ms es paxos.start).nodes q).decided) (sym (o.members c h)) (sym x.1) (never_falls (t.members c) (t.events c) x.0 q)

  pub reached_on : (c x : ℕ) → t.opened c ≡ true → Reached t c x → Reached t' c x
  reached_on c x h r = λ q i. omega (arith, r q (subst (In q) (o.members c h) i), decided_on c h q)

  pub linked_on : (c : ℕ) → t.opened (suc c) ≡ true → Linked t c → Linked t' c
  linked_on c h k = record { list = k.list; sign = k.sign; whole = whole_on c k.list k.sign k.whole; next = o.members (suc c) h ∙ k.next }

  pub closed_on : (k : Closed) → ClosedOk t k → ClosedOk t' k
  closed_on k h = record { sign = h.sign; whole = whole_on k.conf k.list h.sign h.whole; next = h.next; olds = h.olds ∙ sym (o.members k.conf (h.whole).opened); trimmed = h.trimmed; reached = reached_on k.conf k.trimmed (h.whole).opened h.reached }

  pub next_on : (c : ℕ) (members olds : List ℕ) (len : ℕ) → NextOk t c members olds len → NextOk t' c members olds len
  next_on c members olds len h = record { before = h.before; list = h.list; sign = h.sign; is = h.is; whole = whole_on h.before h.list h.sign h.whole; named = h.named; olds_are = h.olds_are ∙ sym (o.members h.before (h.whole).opened); len_is = h.len_is }

  pub joining_on : (p : ℕ) (j : Joining) → JoiningOk t p j → JoiningOk t' p j
  unfolding next_on
  joining_on p j h = record { next = next_on j.conf j.members j.olds j.len h.next; mine = h.mine; base = h.base; reached = λ b e. reached_on (h.next).before b.at ((h.next).whole).opened (h.reached b e); held = h.held }

  pub letter_on : (m : Letter) → LetterOk t m → LetterOk t' m
  letter_on m h = body_on m.from m.to m.conf m.body h
    where
      body_on : (p q c : ℕ) (b : Body) → BodyOk t p q c b → BodyOk t' p q c b
      body_on p q c (Inner m) k = tt
      body_on p q c HeartbeatRequest k = tt
      body_on p q c HeartbeatReply k = tt
      body_on p q c (NextConf members olds len trimmed) k = (next_on c members olds len k.0, k.1)
      body_on p q c AskBase k = tt
      body_on p q c (BasePart at front) k = record { before = k.before; list = k.list; sign = k.sign; is = k.is; whole = whole_on k.before k.list k.sign k.whole; stands = k.stands; reached = reached_on k.before at (k.whole).opened k.reached }
      body_on p q c (BasePiece at total from_at count front) k = record { before = k.before; list = k.list; sign = k.sign; is = k.is; whole = whole_on k.before k.list k.sign k.whole; stands = k.stands; reached = reached_on k.before at (k.whole).opened k.reached }
      body_on p q c (AskSegment a b) k = tt
      body_on p q c (Segment a es) k = record { before = k.before; list = k.list; sign = k.sign; is = k.is; whole = whole_on k.before k.list k.sign k.whole; stands = k.stands }

  pub event_on : (pr : ℕ → List Entry) (soup more : List Letter) (p : ℕ) (st : State) (e : Event) → EventOk pr t soup p st e → EventOk pr t' (soup ++ more) p st e
  event_on pr soup more p st (Reads n m) h = (letter_on m h.0, h.1, slice_more soup more n m h.2)
  event_on pr soup more p st (ReadsLong n total m) h = (letter_on m h.0, h.1, slice_more soup more n m h.2)
  event_on pr soup more p st (Proposes e) h = h
  event_on pr soup more p st (Ticks n) h = tt
  event_on pr soup more p st (TicksAlone heard) h = tt
  event_on pr soup more p st Trims h = tt
  event_on pr soup more p st (Links q) h = tt
  event_on pr soup more p st (Unlinks q) h = tt
  event_on pr soup more p st (Notes xs) h = tt

  -- a server whose members' states stay as they are
  pub state_on : (p : ℕ) (st : State) → ((c : ℕ) → (inst t' c).nodes p ≡ (inst t c).nodes p) → StateOk t p st → StateOk t' p st
  state_on p st same h = record {
    part = λ pt e. let k = h.part pt e in record { opened = o.opened pt.conf k.opened; members = k.members ∙ sym (o.members pt.conf k.opened); node = same pt.conf ∙ k.node; mine = k.mine };
    closed = λ k e. closed_on k (h.closed k e);
    joining = λ j e. joining_on p j (h.joining j e);
    untouched = λ c lt. same c ∙ h.untouched c lt;
    before = h.before;
    above = h.above;
  }

-- two whole lists of a configuration are one
pub one_whole : (t : Tale) (c : ℕ) (xs ys : List Entry) (s r : StopSign) → Whole t c xs s → Whole t c ys r → (xs ≡ ys) × (s ≡ r)
one_whole t c xs ys s r x y =
    whole_same xs ys s r x.last y.last (told_tidy (t.members c) (t.events c) xs x.told) (told_tidy (t.members c) (t.events c) ys y.told) (told_fronts (t.members c) (t.events c) xs ys x.told y.told)

-- both tell of one list
pub one_next : (t : Tale) (c d : ℕ) (xs ys : List Entry) (s r : StopSign) → suc c ≡ suc d → Whole t c xs s → Whole t d ys r → (xs ≡ ys) × (s ≡ r)
one_next t c d xs ys s r e x y = one_whole t c xs ys s r x (subst (λ k. Whole t k ys r) (let z : d ≡ c = omega (arith, e) in z) y)
