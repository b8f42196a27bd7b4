-- What comes of reads is in range: questions and answers, and the reads that wait.
use Rattle.std.proofs.Common.{◌<◌, ℕ, suc, inr, Bool, eqb, ◌&&◌, List, [], map, filter, not, Option, Some, None, arith}
use Rattle.std.proofs.lemmas.Bool.{cond_both, eqb-false}
use Rattle.std.proofs.lemmas.List.Elements.{All-nil, All-cons, All-append, All-filter, All-map, All-weaker}
use Rattle.std.specs.Prelude.{All, IfSome, length, nat_le, nat_eq, option_map}
use Rattle.std.specs.Set.{is_member}
use Rattle.op_types.specs.Limits.{positions_end}
use Rattle.op_types.specs.Ballots.{is_same_ballot}
use Rattle.op_types.specs.Changes.{durable_after}
use Rattle.op_types.specs.Ranges.{ReadInRange}
use Rattle.op_types.specs.RoleStates as state
use Rattle.op_types.specs.Roles.{Role, Idle, Preparing, Leading}
use Rattle.op_types.specs.declared.read.Read.{Read}
use Rattle.op_types.specs.declared.durable.Part.{Part}
use Rattle.op_types.specs.declared.durable.Closed.{Closed}
use Rattle.op_types.specs.declared.durable.Joining.{Joining}
use Rattle.op_types.specs.declared.events.Input.{Input}
use Rattle.op_types.specs.declared.events.Input.TheVariants as input
use Rattle.op_types.specs.declared.messages.Body.{Body}
use Rattle.op_types.specs.declared.messages.Body.TheVariants as body
use Rattle.op_types.specs.declared.answers.Cause.{Cause}
use Rattle.op_types.specs.declared.answers.Cause.TheVariants as cause
use Rattle.op_types.specs.declared.answers.Outcome.{Outcome}
use Rattle.op_reads.specs.declared.asked_read.AskedRead.{AskedRead}
use Rattle.op_reads.specs.Reads.{WaitingRead, Reads, with_read, confirming, with_confirmed, is_confirmed, without_answered}
use Rattle.op_record.specs.Ranges.{PartInRange, ClosedInRange}
use Rattle.op_spec.specs.Service.{Service}
use Rattle.op_protocol.specs.State.{State, Planned}
use Rattle.op_protocol.specs.Parts.{others}
use Rattle.op_protocol.specs.Configurations.{latest_of}
use Rattle.op_protocol.specs.Reading.{leading_in, leading_at, reads_at, Asking, asks_members, asks_if_numbered, read_asked, read_confirmed, asking_by, read_reply, dropped_read, stop_of_closed, why_given_up, answered_of, asked_of, leads_on, decided_of, adopted_of, answered_by, given_up_in, outcome_or, reading}
use Rattle.op_bounds.specs.Messages.{BallotOf, InputInRange, SendInRange, CauseInRange, ReplyInRange, OutcomeInRange}
use Rattle.op_bounds.specs.States.{PartOf, WaitingReadInRange, ReadsInRange, RoleInRange, StateInRange}
use Rattle.op_bounds.specs.Laws.{PlanInRange}
use Rattle.op_bounds.proofs.Batches.{PartIn, part_in}
use Rattle.op_bounds.proofs.Effects.{send_each, others_all}
use Rattle.op_bounds.proofs.ReadBases.{ServiceIn}
use Rattle.op_bounds.proofs.Serving.{read_in}

-- ---- reads that wait

-- a read that was asked
abbrev AskedInRange : AskedRead → Type 0
AskedInRange a = ReadInRange a.read

asked_one : (reads : Reads) (r : Read) → ReadsInRange reads → ReadInRange r → suc reads.count < positions_end → ReadsInRange (with_read reads r)
asked_one reads r k fit below =
    record { count = below; waiting = All-append WaitingReadInRange reads.waiting _ k.waiting (All-cons WaitingReadInRange _ [] fit (All-nil WaitingReadInRange)) }

confirmed_one : (number from : ℕ) (w : WaitingRead) → WaitingReadInRange w → WaitingReadInRange (confirming number from w)
confirmed_one number from w fit = cond_both (eqb w.asked.number number) _ w WaitingReadInRange (λ _. fit) (λ _. fit)

confirmed_all : (number from : ℕ) (ws : List WaitingRead) → All WaitingReadInRange ws → All WaitingReadInRange (map (confirming number from) ws)
confirmed_all number from ws each = All-map WaitingReadInRange (confirming number from) ws (All-weaker WaitingReadInRange (λ w. WaitingReadInRange (confirming number from w)) (λ w fit. confirmed_one number from w fit) ws each)

asked_all : (ws : List WaitingRead) → All WaitingReadInRange ws → All AskedInRange (map (λ (w : WaitingRead). w.asked) ws)
asked_all ws each = All-map AskedInRange (λ (w : WaitingRead). w.asked) ws each

answered_in : (o : Option Reads) (decided adopted : ℕ) → IfSome o ReadsInRange → All AskedInRange (answered_of o decided adopted)
answered_in None decided adopted k = All-nil AskedInRange
answered_in (Some reads) decided adopted k =
    let pass = is_confirmed (length reads.members) in
    cond_both (nat_le adopted decided) (map (λ (w : WaitingRead). w.asked) (filter pass reads.waiting)) [] (All AskedInRange)
    (λ _. asked_all (filter pass reads.waiting) (All-filter pass WaitingReadInRange reads.waiting k.waiting)) (λ _. All-nil AskedInRange)

left_in : (o : Option Reads) (decided adopted : ℕ) → IfSome o ReadsInRange → IfSome (option_map (λ reads. without_answered reads decided adopted) o) ReadsInRange
left_in None decided adopted k = tt
left_in (Some reads) decided adopted k =
    let fails = λ (w : WaitingRead). not (is_confirmed (length reads.members) w) in
    cond_both (nat_le adopted decided) (record reads { waiting = filter fails reads.waiting }) reads ReadsInRange
    (λ _. record { count = k.count; waiting = All-filter fails WaitingReadInRange reads.waiting k.waiting }) (λ _. k)

all_in : (o : Option Reads) → IfSome o ReadsInRange → All AskedInRange (asked_of o)
all_in None k = All-nil AskedInRange
all_in (Some reads) k = asked_all reads.waiting k.waiting

-- ---- what comes of an input

record AskingIn (Known : ℕ → Type 0) (a : Asking) : Type 0 where
  reads : IfSome a.reads ReadsInRange
  sends : All (SendInRange Known) a.sends
  outcome : IfSome a.outcome (OutcomeInRange Known)

parts_in : (Known : ℕ → Type 0) (o : Option Part) → IfSome o PartInRange → IfSome o (PartOf Known) → IfSome o (PartIn Known)
parts_in Known None r k = tt
parts_in Known (Some p) r k = part_in Known p r k

reads_begin : (me : ℕ) (p : Part) (o : Option Reads) → IfSome o ReadsInRange → ReadsInRange (reads_at me p o)
reads_begin me p None k = record { count = omega arith; waiting = All-nil WaitingReadInRange }
reads_begin me p (Some reads) k = k

-- a read that comes is in range
abbrev pub ReadFits : Input → Type 0
ReadFits (input.Read r) = ReadInRange r
ReadFits _ = Unit {0}

pub read_fits : (Known : ℕ → Type 0) (x : Input) → InputInRange Known x → ReadFits x
read_fits Known (input.Read r) fit = fit
read_fits Known _ fit = tt

module _ (Known : ℕ → Type 0) (me : ℕ) where
  asks_in : (p : Part) → PartIn Known p → (l : state.Leading) → BallotOf Known l.ballot → (o : Option Reads) → IfSome o ReadsInRange → (r : Read) → ReadInRange r
      → AskingIn Known (asks_if_numbered me p l.ballot (reads_at me p o) r o)
  asks_in p part l ballot o k r fit =
      let reads = reads_at me p o in
      let old = reads_begin me p o k in
      cond_both (eqb (suc reads.count) positions_end) _ (asks_members me p l.ballot reads r) (AskingIn Known)
      (λ _. record { reads = k; sends = All-nil (SendInRange Known); outcome = tt })
      (λ h. let below : suc reads.count < positions_end = omega (arith, old.count, eqb-false (suc reads.count) positions_end h) in
      record {
        reads = asked_one reads r old fit below;
        sends = send_each Known p.conf (others me p.members) (body.Confirm l.ballot (suc reads.count)) part.range.conf (omega arith) (omega arith) (others_all Known me p part) (ballot, (omega arith, omega (arith, below)));
        outcome = tt;
      })

  takes_in : (d : Option Part) → IfSome d (PartIn Known) → (j : Option Joining) (r : Role) → RoleInRange Known r → (o : Option Reads) → IfSome o ReadsInRange → (a : Read) → ReadInRange a
      → AskingIn Known (read_asked me (leading_in d j r) o a)
  takes_in (Some p) part None (Leading l) role o k a fit = asks_in p part l role.ballot o k a fit
  takes_in None part j r role o k a fit = record { reads = k; sends = All-nil (SendInRange Known); outcome = tt }
  takes_in (Some p) part (Some j) r role o k a fit = record { reads = k; sends = All-nil (SendInRange Known); outcome = tt }
  takes_in (Some p) part None Idle role o k a fit = record { reads = k; sends = All-nil (SendInRange Known); outcome = tt }
  takes_in (Some p) part None (Preparing r) role o k a fit = record { reads = k; sends = All-nil (SendInRange Known); outcome = tt }

  mapped_in : (number q : ℕ) (o : Option Reads) → IfSome o ReadsInRange → IfSome (option_map (λ x. with_confirmed x number q) o) ReadsInRange
  mapped_in number q None k = tt
  mapped_in number q (Some reads) k = record { count = k.count; waiting = confirmed_all number q reads.waiting k.waiting }

  confirms_in : (o : Option (Part × state.Leading)) (reads : Option Reads) (q c : ℕ) (b : Body) → IfSome reads ReadsInRange → IfSome (read_confirmed me o reads q c b) ReadsInRange
  confirms_in (Some (p, l)) reads q c (body.Confirmed n number) k =
      cond_both (eqb c p.conf && (is_member nat_eq (others me p.members) q && is_same_ballot n l.ballot)) (option_map (λ x. with_confirmed x number q) reads) reads (λ (x : Option Reads). IfSome x ReadsInRange)
      (λ _. mapped_in number q reads k) (λ _. k)
  confirms_in (Some (p, l)) reads q c b k = k
  confirms_in None reads q c b k = k

  asking_in : (s : State) → StateInRange Known s → (x : Input) → ReadFits x → AskingIn Known (asking_by me s x)
  asking_in s k (input.Read r) fit = takes_in s.durable.part (parts_in Known s.durable.part k.durable.range.part k.durable.part) s.durable.joining s.volatile.role k.volatile.role s.reads k.reads r fit
  asking_in s k (input.Deliver q m) fit = record { reads = confirms_in (leading_at s) s.reads q m.conf m.body k.reads; sends = All-nil (SendInRange Known); outcome = tt }
  asking_in s k input.Tick fit = record { reads = k.reads; sends = All-nil (SendInRange Known); outcome = tt }
  asking_in s k (input.Commands cs) fit = record { reads = k.reads; sends = All-nil (SendInRange Known); outcome = tt }
  asking_in s k (input.Stop members) fit = record { reads = k.reads; sends = All-nil (SendInRange Known); outcome = tt }
  asking_in s k input.TrimNow fit = record { reads = k.reads; sends = All-nil (SendInRange Known); outcome = tt }
  asking_in s k (input.Up q) fit = record { reads = k.reads; sends = All-nil (SendInRange Known); outcome = tt }
  asking_in s k (input.Down q) fit = record { reads = k.reads; sends = All-nil (SendInRange Known); outcome = tt }

  -- ---- what is told

  closes_with : (o : Option Closed) → IfSome o ClosedInRange → CauseInRange Known (stop_of_closed o)
  closes_with None k = tt
  closes_with (Some l) k = omega (arith, k.len.1)

  why_in : (conf : ℕ) (o : Option Part) (c : Option Closed) → IfSome o (PartOf Known) → IfSome c ClosedInRange → CauseInRange Known (why_given_up conf o c)
  why_in conf None c part k = closes_with c k
  why_in conf (Some p) c part k = cond_both (eqb p.conf conf) (cause.Ballot p.promised) (stop_of_closed c) (CauseInRange Known) (λ _. part.promised) (λ _. closes_with c k)

  dropped_all : (why : Cause) → CauseInRange Known why → (asked : List AskedRead) → All AskedInRange asked → All (ReplyInRange Known) (map (dropped_read why) asked)
  dropped_all why fit asked each = All-map (ReplyInRange Known) (dropped_read why) asked (All-weaker AskedInRange (λ a. ReplyInRange Known (dropped_read why a)) (λ a r. record { asked = inr (r.client, r.seq); answer = fit }) asked each)

  told_all : (t : Service) → ServiceIn t → (asked : List AskedRead) → All AskedInRange asked → All (ReplyInRange Known) (map (read_reply t) asked)
  told_all t k asked each = All-map (ReplyInRange Known) (read_reply t) asked (All-weaker AskedInRange (λ a. ReplyInRange Known (read_reply t a)) (λ a r. record { asked = inr (r.client, r.seq); answer = read_in Known t a.read.key k }) asked each)

  outcome_in : (a o : Option Outcome) → IfSome a (OutcomeInRange Known) → IfSome o (OutcomeInRange Known) → IfSome (outcome_or a o) (OutcomeInRange Known)
  outcome_in None o x y = y
  outcome_in (Some r) o x y = x

-- a plan with what comes of its reads
pub reading_in : (Known : ℕ → Type 0) (me : ℕ) (s : State) → StateInRange Known s → (x : Input) → ReadFits x → (p : Planned) → PlanInRange Known s p → PlanInRange Known s (reading me s x p)
reading_in Known me s k x fit p r =
    let a = asking_in Known me s k x fit in
    let on : Bool = leads_on s.volatile.role p.volatile.role in
    let decided : ℕ = decided_of (durable_after s.durable p.batch).part in
    let adopted : ℕ = adopted_of p.volatile.role in
    let t : ServiceIn p.service = record { range = r.after.service; order = r.after.order } in
    let why : Cause = why_given_up (latest_of s.durable) (durable_after s.durable p.batch).part (durable_after s.durable p.batch).closed in
    record {
      applies = r.applies;
      batch = r.batch;
      sends = All-append (SendInRange Known) (asking_by me s x).sends p.sends a.sends r.sends;
      replies = r.replies;
      read_replies = All-append (ReplyInRange Known) (map (read_reply p.service) (answered_by me s x p)) (given_up_in s p)
          (told_all Known me p.service t (answered_by me s x p) (cond_both on (answered_of (asking_by me s x).reads decided adopted) [] (All AskedInRange) (λ _. answered_in (asking_by me s x).reads decided adopted a.reads) (λ _. All-nil AskedInRange)))
          (cond_both on [] (map (dropped_read why) (asked_of s.reads)) (All (ReplyInRange Known)) (λ _. All-nil (ReplyInRange Known))
          (λ _. dropped_all Known me why (why_in Known me _ (durable_after s.durable p.batch).part (durable_after s.durable p.batch).closed r.after.durable.part r.after.durable.range.closed) (asked_of s.reads) (all_in s.reads k.reads)));
      outcome = outcome_in Known me (asking_by me s x).outcome p.outcome a.outcome r.outcome;
      after = record {
        durable = r.after.durable;
        volatile = r.after.volatile;
        stops = r.after.stops;
        service = r.after.service;
        order = r.after.order;
        reads = cond_both on (option_map (λ reads. without_answered reads decided adopted) (asking_by me s x).reads) None (λ (o : Option Reads). IfSome o ReadsInRange)
            (λ _. left_in (asking_by me s x).reads decided adopted a.reads) (λ _. tt);
      };
    }
