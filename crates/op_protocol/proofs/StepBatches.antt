-- What the batch of any step has: it trims nothing that its node hadn't decided before, and it neither closes the part nor
-- goes on to another.
use Rattle.std.proofs.Common.{true, sym, subst, ◌⊎◌, inr, refl, ◌∙◌, ◌≡◌, ◌≤◌, ℕ, ◌==◌, ◌&&◌, cond, not, is_some, List, [], ◌∷◌, All, Option, Some, None, ap, map, arith}
use Rattle.std.proofs.lemmas.Bool.{cond_both}
use Rattle.std.proofs.lemmas.List.Elements.{All-nil, All-cons, All-head, All-tail}
use Rattle.std.specs.Prelude.{nat_lt, nat_le, nat_eq}
use Rattle.std.specs.Set.{is_member}
use Rattle.op_types.specs.Changes.{part_with, part_option_with, durable_with, durable_after}
use Rattle.op_types.specs.Ballots.{no_ballot, is_below}
use Rattle.op_types.specs.declared.ballot.Ballot.{Ballot}
use Rattle.op_types.specs.declared.answers.Refusal.{Refusal}
use Rattle.op_types.specs.declared.changes.Change.{Change}
use Rattle.op_types.specs.declared.changes.Change.TheVariants as change
use Rattle.op_types.specs.declared.durable.Part.{Part}
use Rattle.op_types.specs.declared.durable.Joining.{Joining}
use Rattle.op_types.specs.declared.durable.Durable.{Durable}
use Rattle.op_types.specs.declared.events.Input.{Input}
use Rattle.op_types.specs.declared.events.Input.TheVariants as input
use Rattle.op_types.specs.declared.log.Entry.{Entry}
use Rattle.op_types.specs.declared.log.Entry.TheVariants as entry
use Rattle.op_types.specs.declared.messages.Body.{Body}
use Rattle.op_types.specs.declared.messages.Body.TheVariants as body
use Rattle.op_types.specs.declared.messages.Msg.{Msg}
use Rattle.op_types.specs.declared.runs.Piece.{Piece}
use Rattle.op_protocol.specs.State.{Volatile, PartStep}
use Rattle.op_protocol.specs.Parts.{part_after}
use Rattle.op_protocol.specs.Configurations.{latest_of}
use Rattle.op_protocol.specs.Joining.{begins, is_new_donor, joins, takes_piece, on_base_piece}
use Rattle.op_protocol.specs.Watched.{is_watching}
use Rattle.op_protocol.specs.Rows.{message_at, is_of_joining, may_be_above, on_latest, refusal_of, stop_for, entries_of, proposal_at, tick_at, trim_at, up_at, step_at, based}
use Rattle.op_protocol.proofs.PartBatches.{RowsHave, StepIs, propose_is, session_down_is, session_up_is, trim_now_is, tick_is, message_is}

-- a change that trims no further than that
abbrev pub IsLow : ℕ → Change → Type 0
IsLow limit (change.Trim x base) = x ≤ limit
IsLow limit c = Unit {0}

low_one : (limit : ℕ) (p : Part) (c : Change) → IsLow limit c → p.trimmed ≤ limit → (part_with p c).trimmed ≤ limit
low_one limit p (change.Promise n) k l = l
low_one limit p (change.Accept n) k l = l
low_one limit p (change.CutTo n) k l = l
low_one limit p (change.Append es) k l = l
low_one limit p (change.Decided x) k l = l
low_one limit p (change.Trim x b) k l = k
low_one limit p (change.Close named b) k l = l
low_one limit p (change.JoinBegin c members olds len) k l = l
low_one limit p (change.JoinDonor q t) k l = l
low_one limit p (change.JoinBase at b) k l = l
low_one limit p (change.JoinPart at es) k l = l
low_one limit p (change.JoinDone b) k l = l
low_one limit p (change.Rebase c members at b) k l = l

-- so does a batch of such changes
pub low_after : (limit : ℕ) (p : Part) (batch : List Change) → All (IsLow limit) batch → p.trimmed ≤ limit → (part_after p batch).trimmed ≤ limit
low_after limit p [] all l = l
low_after limit p (c ∷ batch) all l =
    low_after limit (part_with p c) batch (All-tail (IsLow limit) c batch all) (low_one limit p c (All-head (IsLow limit) c batch all) l)

-- a change that neither closes a part nor begins one
abbrev pub IsInside : Change → Type 0
IsInside (change.Close named base) = ⊥
IsInside (change.JoinDone base) = ⊥
IsInside (change.Rebase c members at b) = ⊥
IsInside c = Unit {0}

inside_one : (d : Durable) (p : Part) (c : Change) → IsInside c → d.part ≡ Some p → (durable_with d c).part ≡ Some (part_with p c)
inside_one d p (change.Promise n) k e = ap (λ (o : Option Part). part_option_with o (change.Promise n)) e
inside_one d p (change.Accept n) k e = ap (λ (o : Option Part). part_option_with o (change.Accept n)) e
inside_one d p (change.CutTo n) k e = ap (λ (o : Option Part). part_option_with o (change.CutTo n)) e
inside_one d p (change.Append es) k e = ap (λ (o : Option Part). part_option_with o (change.Append es)) e
inside_one d p (change.Decided x) k e = ap (λ (o : Option Part). part_option_with o (change.Decided x)) e
inside_one d p (change.Trim x b) k e = ap (λ (o : Option Part). part_option_with o (change.Trim x b)) e
inside_one d p (change.Close named b) k e = absurd k
inside_one d p (change.JoinBegin c members olds len) k e = e
inside_one d p (change.JoinDonor q t) k e = e
inside_one d p (change.JoinBase at b) k e = e
inside_one d p (change.JoinPart at es) k e = e
inside_one d p (change.JoinDone b) k e = absurd k
inside_one d p (change.Rebase c members at b) k e = absurd k

-- a batch of such changes leaves the part that they make
pub inside_after : (d : Durable) (p : Part) (batch : List Change) → All IsInside batch → d.part ≡ Some p → (durable_after d batch).part ≡ Some (part_after p batch)
inside_after d p [] all e = e
inside_after d p (c ∷ batch) all e =
    inside_after (durable_with d c) (part_with p c) batch (All-tail IsInside c batch all) (inside_one d p c (All-head IsInside c batch all) e)

inside_one_closed : (d : Durable) (c : Change) → IsInside c → (durable_with d c).closed ≡ d.closed
inside_one_closed d (change.Promise n) k = refl
inside_one_closed d (change.Accept n) k = refl
inside_one_closed d (change.CutTo n) k = refl
inside_one_closed d (change.Append es) k = refl
inside_one_closed d (change.Decided x) k = refl
inside_one_closed d (change.Trim x b) k = refl
inside_one_closed d (change.Close named b) k = absurd k
inside_one_closed d (change.JoinBegin c members olds len) k = refl
inside_one_closed d (change.JoinDonor q t) k = refl
inside_one_closed d (change.JoinBase at b) k = refl
inside_one_closed d (change.JoinPart at es) k = refl
inside_one_closed d (change.JoinDone b) k = absurd k
inside_one_closed d (change.Rebase c members at b) k = absurd k

-- and the closed list
pub inside_closed : (d : Durable) (batch : List Change) → All IsInside batch → (durable_after d batch).closed ≡ d.closed
inside_closed d [] all = refl
inside_closed d (c ∷ batch) all = inside_closed (durable_with d c) batch (All-tail IsInside c batch all) ∙ inside_one_closed d c (All-head IsInside c batch all)

inside_one_none : (d : Durable) (c : Change) → IsInside c → d.part ≡ None → (durable_with d c).part ≡ None
inside_one_none d (change.Promise n) k e = ap (λ (o : Option Part). part_option_with o (change.Promise n)) e
inside_one_none d (change.Accept n) k e = ap (λ (o : Option Part). part_option_with o (change.Accept n)) e
inside_one_none d (change.CutTo n) k e = ap (λ (o : Option Part). part_option_with o (change.CutTo n)) e
inside_one_none d (change.Append es) k e = ap (λ (o : Option Part). part_option_with o (change.Append es)) e
inside_one_none d (change.Decided x) k e = ap (λ (o : Option Part). part_option_with o (change.Decided x)) e
inside_one_none d (change.Trim x b) k e = ap (λ (o : Option Part). part_option_with o (change.Trim x b)) e
inside_one_none d (change.Close named b) k e = absurd k
inside_one_none d (change.JoinBegin c members olds len) k e = e
inside_one_none d (change.JoinDonor q t) k e = e
inside_one_none d (change.JoinBase at b) k e = e
inside_one_none d (change.JoinPart at es) k e = e
inside_one_none d (change.JoinDone b) k e = absurd k
inside_one_none d (change.Rebase c members at b) k e = absurd k

-- and no part where there is none
pub inside_none : (d : Durable) (batch : List Change) → All IsInside batch → d.part ≡ None → (durable_after d batch).part ≡ None
inside_none d [] all e = e
inside_none d (c ∷ batch) all e = inside_none (durable_with d c) batch (All-tail IsInside c batch all) (inside_one_none d c (All-head IsInside c batch all) e)

inside_based : (p : Part) (c : Change) → IsInside c → IsInside (based p c)
inside_based p (change.Promise n) k = k
inside_based p (change.Accept n) k = k
inside_based p (change.CutTo n) k = k
inside_based p (change.Append es) k = k
inside_based p (change.Decided x) k = k
inside_based p (change.Trim x b) k = k
inside_based p (change.Close named b) k = absurd k
inside_based p (change.JoinBegin c members olds len) k = k
inside_based p (change.JoinDonor q t) k = k
inside_based p (change.JoinBase at b) k = k
inside_based p (change.JoinPart at es) k = k
inside_based p (change.JoinDone b) k = absurd k
inside_based p (change.Rebase c members at b) k = absurd k

-- so are they with their bases put in
pub inside_all_based : (p : Part) (batch : List Change) → All IsInside batch → All IsInside (map (based p) batch)
inside_all_based p [] all = All-nil IsInside
inside_all_based p (c ∷ batch) all =
    All-cons IsInside (based p c) (map (based p) batch) (inside_based p c (All-head IsInside c batch all)) (inside_all_based p batch (All-tail IsInside c batch all))

-- a part that has decided no further than that, and has promised this
abbrev pub IfWithin : ℕ → Ballot → Option Part → Type 0
IfWithin limit promised None = Unit {0}
IfWithin limit promised (Some p) = (p.decided ≤ limit) × (p.promised ≡ promised)

-- what the rows change has this, and so has the beginning of joining
record StepsHave (P : Change → Type 0) (limit : ℕ) (promised : Ballot) : Type 0 where
  rows : RowsHave P limit promised
  begin : (c : ℕ) (members olds : List ℕ) (len : ℕ) → P (change.JoinBegin c members olds len)
  donor : (q trimmed : ℕ) → P (change.JoinDonor q trimmed)

module _ (P : Change → Type 0) (limit : ℕ) (promised : Ballot) (has : StepsHave P limit promised) where
  none : All P []
  none = All-nil P

  one : (c : Change) → P c → All P (c ∷ [])
  one c k = All-cons P c [] k none

  quiet : {x : PartStep} → All P x.batch → StepIs P x
  quiet all = record { changes = all }

  either : {A : Type 0} (Q : A → Type 0) (b : _) (x y : A) → Q x → Q y → Q (cond b x y)
  either Q b x y k l = cond_both b x y Q (λ _. k) (λ _. l)

  begins_has : (q c : ℕ) (members olds : List ℕ) (len trimmed : ℕ) → All P (begins q c members olds len trimmed)
  begins_has q c members olds len trimmed =
      either (All P) (nat_le trimmed len) _ _ (All-cons P (change.JoinBegin c members olds len) (change.JoinDonor q trimmed ∷ []) (has.begin c members olds len) (one (change.JoinDonor q trimmed) (has.donor q trimmed))) none

  joins_has : (o : Option Joining) (q c : ℕ) (members olds : List ℕ) (len trimmed : ℕ) → All P (joins o q c members olds len trimmed)
  joins_has None q c members olds len trimmed = begins_has q c members olds len trimmed
  joins_has (Some j) q c members olds len trimmed =
      either (All P) (nat_lt j.conf c) _ _ (begins_has q c members olds len trimmed)
      (either (All P) (j.conf == c && is_new_donor j q trimmed) _ _ (one (change.JoinDonor q trimmed) (has.donor q trimmed)) none)

  message_has : (me : ℕ) (o : Option Part) (v : Volatile) (q : ℕ) (m : Msg) → IfWithin limit promised o → StepIs P (message_at me o v q m)
  message_has me None v q m k = quiet none
  message_has me (Some p) v q m k = message_is P limit promised has.rows me p v q m k.0 k.1

  piece_has : (o : Option Joining) (v : Volatile) (c : ℕ) (p : Piece) → StepIs P (on_base_piece o v c p)
  piece_has None v c p = quiet none
  piece_has (Some j) v c p = either (StepIs P) (takes_piece j c p) _ _ (quiet none) (quiet none)

  latest_has : (me : ℕ) (d : Durable) (v : Volatile) (q c : ℕ) (b : Body) → IfWithin limit promised d.part → StepIs P (on_latest me d v q c b)
  latest_has me d v q c (body.NextConf members olds len trimmed) k =
      either (StepIs P) (is_member nat_eq members me && nat_lt (latest_of d) c) _ _ (quiet (joins_has d.joining q c members olds len trimmed)) (quiet none)
  latest_has me d v q c body.AskBase k = quiet none
  latest_has me d v q c (body.AskSegment from to) k = quiet none
  latest_has me d v q c (body.HeartbeatRequest r) k = message_has me d.part v q _ k
  latest_has me d v q c (body.HeartbeatReply r z g) k = message_has me d.part v q _ k
  latest_has me d v q c (body.Prepare z na nl nd) k = message_has me d.part v q _ k
  latest_has me d v q c (body.Promise z fa fl fd a es) k = message_has me d.part v q _ k
  latest_has me d v q c (body.AcceptSync z g es) k = message_has me d.part v q _ k
  latest_has me d v q c (body.Accept z a es) k = message_has me d.part v q _ k
  latest_has me d v q c (body.Accepted z g) k = message_has me d.part v q _ k
  latest_has me d v q c (body.Decide z g) k = message_has me d.part v q _ k
  latest_has me d v q c body.PrepareReq k = message_has me d.part v q _ k
  latest_has me d v q c (body.Refuse z g) k = message_has me d.part v q _ k
  latest_has me d v q c (body.Forward g) k = message_has me d.part v q _ k
  latest_has me d v q c (body.Forwards g) k = message_has me d.part v q _ k
  latest_has me d v q c (body.TrimAsk z) k = message_has me d.part v q _ k
  latest_has me d v q c (body.Progress z g) k = message_has me d.part v q _ k
  latest_has me d v q c (body.Trim g) k = message_has me d.part v q _ k
  latest_has me d v q c (body.Confirm z g) k = message_has me d.part v q _ k
  latest_has me d v q c (body.Confirmed z g) k = message_has me d.part v q _ k
  latest_has me d v q c (body.PromisePart z part) k = message_has me d.part v q _ k
  latest_has me d v q c (body.AcceptSyncPart z part) k = message_has me d.part v q _ k
  latest_has me d v q c (body.BasePiece p) k = piece_has d.joining v c p
  latest_has me d v q c (body.BasePart at bytes) k = message_has me d.part v q _ k
  latest_has me d v q c (body.Segment at es) k = message_has me d.part v q _ k
  latest_has me d v q c (body.Watch w) k = message_has me d.part v q _ k

  proposal_has : (me : ℕ) (o : Option Part) (v : Volatile) (es : List Entry) (r : Option Refusal) → StepIs P (proposal_at me o v es r)
  proposal_has me o v es (Some r) = quiet none
  proposal_has me None v es None = quiet none
  proposal_has me (Some p) v es None = quiet (propose_is P limit promised has.rows me p v.role es).changes

  tick_has : (me : ℕ) (o : Option Part) (j : Option Joining) (v : Volatile) → IfWithin limit promised o → StepIs P (tick_at me o j v)
  tick_has me None (Some j) v k = quiet none
  tick_has me (Some p) (Some j) v k = quiet none
  tick_has me None None v k = quiet none
  tick_has me (Some p) None v k = tick_is P limit promised has.rows me p v k.1

  trim_has : (me : ℕ) (o : Option Part) (v : Volatile) → IfWithin limit promised o → StepIs P (trim_at me o v)
  trim_has me None v k = quiet none
  trim_has me (Some p) v k = quiet (trim_now_is P limit promised has.rows me p v.role k.0).changes

  up_has : (me : ℕ) (d : Durable) (o : Option Part) (j : Option Joining) (v : Volatile) (q : ℕ) → StepIs P (up_at me d o j v q)
  up_has me d None None v q = quiet none
  up_has me d None (Some j) v q = quiet none
  up_has me d (Some p) (Some j) v q = quiet none
  up_has me d (Some p) None v q = quiet (session_up_is P limit promised has.rows me p v.role q).changes

  -- whatever comes
  step_has : (me : ℕ) (d : Durable) (v : Volatile) (x : Input) → IfWithin limit promised d.part → StepIs P (step_at me d v x)
  step_has me d v input.Tick k = tick_has me d.part d.joining v k
  step_has me d v (input.Deliver q m) k =
      either (StepIs P) (is_watching m.body) _ _ (quiet none)
      (either (StepIs P) (is_some d.joining && not (is_of_joining m.body)) _ _ (quiet none)
      (either (StepIs P) (nat_lt m.conf (latest_of d)) _ _ (quiet none)
      (either (StepIs P) (nat_lt (latest_of d) m.conf && not (may_be_above m.body)) _ _ (quiet none) (latest_has me d v q m.conf m.body k))))
  step_has me d v (input.Commands cs) k = proposal_has me d.part v (entries_of cs) (refusal_of me v.role d (entries_of cs))
  step_has me d v (input.Stop members) k =
      proposal_has me d.part v (entry.Stop (stop_for d.part members) ∷ []) (refusal_of me v.role d (entry.Stop (stop_for d.part members) ∷ []))
  step_has me d v input.TrimNow k = trim_has me d.part v k
  step_has me d v (input.Read r) k = quiet none
  step_has me d v (input.Up q) k = up_has me d d.part d.joining v q
  step_has me d v (input.Down q) k = quiet (session_down_is P limit promised has.rows v.role q).changes

-- ---- what every batch has

-- what is decided of a part, and what it has promised
abbrev decided_of : Option Part → ℕ
decided_of None = 0
decided_of (Some p) = p.decided

abbrev promised_of : Option Part → Ballot
promised_of None = no_ballot
promised_of (Some p) = p.promised

within : (o : Option Part) → IfWithin (decided_of o) (promised_of o) o
within None = tt
within (Some p) = (omega arith, refl)

-- no step trims what its node hadn't decided before it
pub step_low : (me : ℕ) (d : Durable) (v : Volatile) (x : Input) (p : Part) → d.part ≡ Some p → StepIs (IsLow p.decided) (step_at me d v x)
step_low me d v x p e =
    step_has (IsLow p.decided) p.decided p.promised
    (record {
      rows = record { promise = λ n above. tt; accept = λ n. tt; cut = λ n. tt; append = λ es. tt; decided = λ y. tt; trim = λ y low. low };
      begin = λ c members olds len. tt;
      donor = λ q trimmed. tt;
    })
    me d v x (subst (IfWithin p.decided p.promised) (sym e) (omega arith, refl))

-- none closes the part, but for what comes after it
pub step_inside : (me : ℕ) (d : Durable) (v : Volatile) (x : Input) → StepIs IsInside (step_at me d v x)
step_inside me d v x =
    step_has IsInside (decided_of d.part) (promised_of d.part)
    (record {
      rows = record { promise = λ n above. tt; accept = λ n. tt; cut = λ n. tt; append = λ es. tt; decided = λ y. tt; trim = λ y low. tt };
      begin = λ c members olds len. tt;
      donor = λ q trimmed. tt;
    })
    me d v x (within d.part)

-- ---- what is promised

-- a change that promises nothing but what is above this
abbrev pub IsAbove : Ballot → Change → Type 0
IsAbove promised (change.Promise n) = is_below promised n ≡ true
IsAbove promised c = Unit {0}

-- the promise is this, or above it
abbrev pub Rises : Ballot → Ballot → Type 0
Rises old new = (new ≡ old) ⊎ (is_below old new ≡ true)

above_one : (b : Ballot) (p : Part) (c : Change) → IsAbove b c → Rises b p.promised → Rises b (part_with p c).promised
above_one b p (change.Promise n) k r = inr k
above_one b p (change.Accept n) k r = r
above_one b p (change.CutTo n) k r = r
above_one b p (change.Append es) k r = r
above_one b p (change.Decided x) k r = r
above_one b p (change.Trim x base) k r = r
above_one b p (change.Close named base) k r = r
above_one b p (change.JoinBegin c members olds len) k r = r
above_one b p (change.JoinDonor q t) k r = r
above_one b p (change.JoinBase at base) k r = r
above_one b p (change.JoinPart at es) k r = r
above_one b p (change.JoinDone base) k r = r
above_one b p (change.Rebase c members at base) k r = r

pub above_after : (b : Ballot) (p : Part) (batch : List Change) → All (IsAbove b) batch → Rises b p.promised → Rises b (part_after p batch).promised
above_after b p [] all r = r
above_after b p (c ∷ batch) all r =
    above_after b (part_with p c) batch (All-tail (IsAbove b) c batch all) (above_one b p c (All-head (IsAbove b) c batch all) r)

-- a step's batch leaves the promise, or raises it
pub step_above : (me : ℕ) (d : Durable) (v : Volatile) (x : Input) (p : Part) → d.part ≡ Some p → StepIs (IsAbove p.promised) (step_at me d v x)
step_above me d v x p e =
    step_has (IsAbove p.promised) p.decided p.promised
    (record {
      rows = record { promise = λ n above. above; accept = λ n. tt; cut = λ n. tt; append = λ es. tt; decided = λ y. tt; trim = λ y low. tt };
      begin = λ c members olds len. tt;
      donor = λ q trimmed. tt;
    })
    me d v x (subst (IfWithin p.decided p.promised) (sym e) (omega arith, refl))
