-- A tick, heartbeats and refusals are in range.
use Rattle.std.proofs.Common.{◌≤◌, ◌+◌, ℕ, Bool, true, false, not, cond, ltb, eqb, ◌&&◌, List, [], ◌∷◌, ◌++◌, filter, length, Option, Some, None, arith, All}
use Rattle.std.specs.Prelude.{IfSome}
use Rattle.std.proofs.lemmas.Bool.{cond_both, ltb-true}
use Rattle.std.proofs.lemmas.List.Elements.{All-nil, All-cons, All-append, All-filter}
use Rattle.op_types.specs.Ballots.{is_below}
use Rattle.op_types.specs.Limits.{greatest_number}
use Rattle.op_types.specs.Effects.{Effects}
use Rattle.op_types.specs.Joinings.{Held}
use Rattle.op_types.specs.Stages.{Pieces}
use Rattle.op_types.specs.Ranges.{IsPlace}
use Rattle.op_types.specs.Changes.{EndsNowhere}
use Rattle.op_types.specs.declared.log.Entry.{Entry}
use Rattle.op_types.specs.declared.ballot.Ballot.{Ballot}
use Rattle.op_types.specs.declared.changes.Change.{Change}
use Rattle.op_types.specs.declared.durable.Part.{Part}
use Rattle.op_types.specs.declared.messages.Body.TheVariants as body
use Rattle.op_types.specs.declared.messages.Heard.{Heard}
use Rattle.op_types.specs.declared.messages.Msg.{Msg}
use Rattle.op_types.specs.declared.verdict.Verdict.{Verdict}
use Rattle.op_types.specs.declared.verdict.Verdict.TheVariants as verdict
use Rattle.op_protocol.specs.Heartbeats.{next_round, has_replied, without, heard_with, heard_in, is_other}
use Rattle.op_protocol.specs.Election.{Candidate, Ended, winner, least, raised_ballot, hears_majority, too_low, decided_by, round_end}
use Rattle.op_protocol.specs.State.{Volatile, PartStep, raises_promise, staged_after, with_effects}
use Rattle.op_protocol.specs.Parts.{message, others, first}
use Rattle.op_protocol.specs.Leader.{lead}
use Rattle.op_protocol.specs.Tick.{candidate_of, next_round_state, requests, remembering, with_floor_at, only_asks, elected, by_verdict, asks_heard, on_tick, on_heartbeat_request, on_heartbeat_reply, on_refuse}
use Rattle.op_protocol.proofs.TickCases.{begun_at, tick_cases}
use Rattle.op_bounds.specs.Messages.{AreIds, BallotOf, SendInRange, ReplyInRange, OutcomeInRange}
use Rattle.op_bounds.specs.States.{HeardInRange, StagedInRange, VolatileInRange, VolatileEndsNowhere}
use Rattle.op_bounds.proofs.Batches.{PartIn, BatchFits}
use Rattle.op_bounds.proofs.Effects.{StagedIn, staged_in, staged_range, RoleIn, role_in, role_range, RowInRange, row_first, send_one, send_each, others_all}
use Rattle.op_bounds.proofs.LeaderRows.{lead_in}
use Rattle.op_bounds.proofs.Ballots.{own_ballot_in, greater_in, greatest_in}

-- what a node of a configuration keeps in memory, in range
pub record VolatileIn (Known : ℕ → Type 0) (conf : ℕ) (v : Volatile) : Type 0 where
  pub range : VolatileInRange Known v
  pub stops : VolatileEndsNowhere conf v

-- its role
pub role_of : (Known : ℕ → Type 0) (conf : ℕ) (v : Volatile) → VolatileIn Known conf v → RoleIn Known conf v.role
role_of Known conf v k = role_in Known conf v.role k.range.role k.stops.role

-- what it has staged
pub staged_of : (Known : ℕ → Type 0) (conf : ℕ) (v : Volatile) → VolatileIn Known conf v → All (StagedIn Known conf) v.staged
staged_of Known conf v k = staged_in Known conf v.staged k.range.staged k.stops.staged

-- it stages this in the place of that
pub staging_in : (Known : ℕ → Type 0) (conf : ℕ) (v : Volatile) (xs : Held) → VolatileIn Known conf v → All (StagedIn Known conf) xs → VolatileIn Known conf (record v { staged = xs })
staging_in Known conf v xs k each =
    record {
      range = record {
        own = k.range.own;
        leader = k.range.leader;
        floor = k.range.floor;
        round = k.range.round;
        heard = k.range.heard;
        role = k.range.role;
        staged = (staged_range Known conf xs each).0;
        pieces = k.range.pieces;
      };
      stops = record { role = k.stops.role; staged = (staged_range Known conf xs each).1 };
    }

-- it has these pieces of a base
pub pieces_now : (Known : ℕ → Type 0) (v : Volatile) (x : Option Pieces) → VolatileInRange Known v → IfSome x (λ s. IsPlace s.at) → VolatileInRange Known (record v { pieces = x })
pieces_now Known v x k fit = record { own = k.own; leader = k.leader; floor = k.floor; round = k.round; heard = k.heard; role = k.role; staged = k.staged; pieces = fit }

pub pieces_stops : (v : Volatile) (x : Option Pieces) (o : Option Part) → IfSome o (λ p. VolatileEndsNowhere p.conf v) → IfSome o (λ p. VolatileEndsNowhere p.conf (record v { pieces = x }))
pieces_stops v x None k = tt
pieces_stops v x (Some p) k = record { role = k.role; staged = k.staged }

-- what stays of it after a batch
stays_staged : (P : ℕ × Entry → Type 0) (batch : List Change) (xs : Held) → All P xs → All P (staged_after batch xs)
stays_staged P batch xs each = cond_both (raises_promise batch) [] xs (All P) (λ _. All-nil P) (λ _. each)

-- what a step does at a part, in range
pub record PartStepInRange (Known : ℕ → Type 0) (p : Part) (x : PartStep) : Type 0 where
  pub batch : BatchFits Known p x.batch
  pub few : length x.batch ≤ 6
  pub volatile : VolatileIn Known p.conf x.volatile
  pub sends : All (SendInRange Known) x.sends
  pub replies : All (ReplyInRange Known) x.replies
  pub outcome : IfSome x.outcome (OutcomeInRange Known)

pub effects_in : (Known : ℕ → Type 0) (p : Part) (most : ℕ) (v : Volatile) (e : Effects) → most ≤ 6 → VolatileIn Known p.conf v → RowInRange Known p.conf p most e → PartStepInRange Known p (with_effects v e)
effects_in Known p most v e small in_volatile row =
    record {
      batch = row.batch;
      few = omega (arith, row.few);
      volatile = record {
        range = record {
          own = in_volatile.range.own;
          leader = in_volatile.range.leader;
          floor = in_volatile.range.floor;
          round = in_volatile.range.round;
          heard = in_volatile.range.heard;
          role = (role_range Known p.conf e.role row.role).0;
          staged = stays_staged (StagedInRange Known) e.batch v.staged in_volatile.range.staged;
          pieces = in_volatile.range.pieces;
        };
        stops = record {
          role = (role_range Known p.conf e.role row.role).1;
          staged = stays_staged (λ x. EndsNowhere p.conf (x.1 ∷ [])) e.batch v.staged in_volatile.stops.staged;
        };
      };
      sends = row.sends;
      replies = row.replies;
      outcome = row.outcome;
    }

pub remembering_in : (Known : ℕ → Type 0) (p : Part) (v : Volatile) (sends : List (ℕ × Msg)) → VolatileIn Known p.conf v → All (SendInRange Known) sends → PartStepInRange Known p (remembering v sends)
remembering_in Known p v sends in_volatile said = record { batch = tt; few = omega arith; volatile = in_volatile; sends = said; replies = All-nil (ReplyInRange Known); outcome = tt }

floor_in : (Known : ℕ → Type 0) (conf : ℕ) (v : Volatile) (b : Ballot) → VolatileIn Known conf v → BallotOf Known b → VolatileIn Known conf (with_floor_at v b)
floor_in Known conf v b in_volatile of =
    record {
      range = record {
        own = in_volatile.range.own;
        leader = in_volatile.range.leader;
        floor = greater_in Known v.floor b in_volatile.range.floor of;
        round = in_volatile.range.round;
        heard = in_volatile.range.heard;
        role = in_volatile.range.role;
        staged = in_volatile.range.staged;
        pieces = in_volatile.range.pieces;
      };
      stops = record { role = in_volatile.stops.role; staged = in_volatile.stops.staged };
    }

-- ---- the end of a round

-- a candidate's ballots
record CandidateIn (Known : ℕ → Type 0) (c : Candidate) : Type 0 where
  pub me : Known c.me
  pub own : BallotOf Known c.own
  pub leader : BallotOf Known c.leader
  pub floor : BallotOf Known c.floor

abbrev VerdictIn : (ℕ → Type 0) → Verdict → Type 0
VerdictIn Known verdict.Nobody = Unit {0}
VerdictIn Known (verdict.Raised b) = BallotOf Known b
VerdictIn Known (verdict.Elected b) = BallotOf Known b

record EndedIn (Known : ℕ → Type 0) (e : Ended) : Type 0 where
  pub verdict : VerdictIn Known e.verdict
  pub after : CandidateIn Known e.after

flagged : (Known : ℕ → Type 0) (c : Candidate) (flag : Bool) → CandidateIn Known c → CandidateIn Known (record c { flag = flag })
flagged Known c flag k = record { me = k.me; own = k.own; leader = k.leader; floor = k.floor }

too_low_in : (Known : ℕ → Type 0) (c : Candidate) → AreIds Known → CandidateIn Known c → EndedIn Known (too_low c)
too_low_in Known c ids k =
    cond_both (ltb (least c).number greatest_number) (record { verdict = verdict.Raised (raised_ballot c); after = record c { own = raised_ballot c; flag = true } }) (record { verdict = verdict.Nobody; after = record c { flag = true } }) (EndedIn Known)
    (λ h. let raised : BallotOf Known (raised_ballot c) = own_ballot_in Known c.me ((least c).number + 1) ids k.me (omega (arith, ltb-true (least c).number greatest_number h)) in
    record { verdict = raised; after = record { me = k.me; own = raised; leader = k.leader; floor = k.floor } })
    (λ _. record { verdict = tt; after = flagged Known c true k })

decided_in : (Known : ℕ → Type 0) (c : Candidate) (g : Ballot) → AreIds Known → CandidateIn Known c → BallotOf Known g → EndedIn Known (decided_by c g)
decided_in Known c g ids k of =
    cond_both (is_below g (least c)) (too_low c)
    (cond (is_below c.leader g) (record { verdict = verdict.Elected g; after = record c { leader = g; flag = true } }) (record { verdict = verdict.Nobody; after = record c { flag = true } })) (EndedIn Known)
    (λ _. too_low_in Known c ids k)
    (λ _. cond_both (is_below c.leader g) (record { verdict = verdict.Elected g; after = record c { leader = g; flag = true } }) (record { verdict = verdict.Nobody; after = record c { flag = true } }) (EndedIn Known)
    (λ _. record { verdict = of; after = record { me = k.me; own = k.own; leader = of; floor = k.floor } })
    (λ _. record { verdict = tt; after = flagged Known c true k }))

round_end_in : (Known : ℕ → Type 0) (c : Candidate) (heard : List Heard) → AreIds Known → CandidateIn Known c → All (HeardInRange Known) heard → EndedIn Known (round_end c heard)
round_end_in Known c heard ids k each =
    cond_both (hears_majority c heard) (decided_by c (winner c heard)) (record { verdict = verdict.Nobody; after = record c { flag = false } }) (EndedIn Known)
    (λ _. decided_in Known c (winner c heard) ids k (greatest_in Known heard c.own each k.own)) (λ _. record { verdict = tt; after = flagged Known c false k })

next_round_small : (round : ℕ) → next_round round ≤ greatest_number
next_round_small round = cond_both (ltb round greatest_number) (round + 1) 1 (λ (n : ℕ). n ≤ greatest_number) (λ h. omega (arith, ltb-true round greatest_number h)) (λ _. omega arith)

-- ---- the rows

module _ (Known : ℕ → Type 0) (ids : AreIds Known) (me : ℕ) (one : Known me) (p : Part) (k : PartIn Known p) where
  requests_said : (round : ℕ) → round ≤ greatest_number → All (SendInRange Known) (requests me p round)
  requests_said round small = send_each Known p.conf (others me p.members) (body.HeartbeatRequest round) k.range.conf (omega arith) (omega arith) (others_all Known me p k) small

  heard_asked : (heard : List Heard) → All (SendInRange Known) (asks_heard me p heard)
  heard_asked heard =
      send_each Known p.conf (filter (λ q. has_replied heard q) (others me p.members)) body.PrepareReq k.range.conf (omega arith) (omega arith)
      (All-filter (λ q. has_replied heard q) Known (others me p.members) (others_all Known me p k)) tt

  asks_in : (v : Volatile) → VolatileIn Known p.conf v → PartStepInRange Known p (only_asks me p v)
  asks_in v in_volatile = remembering_in Known p v (requests me p v.round) in_volatile (requests_said v.round in_volatile.range.round)

  elected_in : (v : Volatile) (n : Ballot) → VolatileIn Known p.conf v → BallotOf Known n → PartStepInRange Known p (elected me p v n)
  elected_in v n in_volatile of =
      cond_both (is_below p.promised n) (with_effects v (first [] (requests me p v.round) [] (lead me p v.role n))) (only_asks me p v) (PartStepInRange Known p)
      (λ _. effects_in Known p 6 v (first [] (requests me p v.round) [] (lead me p v.role n)) (omega arith) in_volatile
      (row_first Known p.conf p 6 6 [] (requests me p v.round) [] (lead me p v.role n) tt (omega arith) (requests_said v.round in_volatile.range.round) (All-nil (ReplyInRange Known))
      (lead_in Known me p k v.role n (role_of Known p.conf v in_volatile) of)))
      (λ _. asks_in v in_volatile)

  verdict_in : (v : Volatile) (o : Verdict) → VolatileIn Known p.conf v → VerdictIn Known o → PartStepInRange Known p (by_verdict me p v o)
  verdict_in v verdict.Nobody in_volatile of = asks_in v in_volatile
  verdict_in v (verdict.Raised b) in_volatile of = asks_in v in_volatile
  verdict_in v (verdict.Elected n) in_volatile of =
      cond_both (eqb n.pid me) (elected me p v n) (only_asks me p v) (PartStepInRange Known p) (λ _. elected_in v n in_volatile of) (λ _. asks_in v in_volatile)

  pub tick_in : (v : Volatile) → VolatileIn Known p.conf v → PartStepInRange Known p (on_tick me p v)
  tick_in v in_volatile =
      let e : Ended = round_end (candidate_of me p v) v.heard in
      let ended : EndedIn Known e = round_end_in Known (candidate_of me p v) v.heard ids (record { me = one; own = in_volatile.range.own; leader = in_volatile.range.leader; floor = in_volatile.range.floor }) in_volatile.range.heard in
      let begun : VolatileIn Known p.conf (begun_at me p v) =
      floor_in Known p.conf (next_round_state v e.after) p.promised
      (record {
        range = record {
          own = ended.after.own;
          leader = ended.after.leader;
          floor = ended.after.floor;
          round = next_round_small v.round;
          heard = All-nil (HeardInRange Known);
          role = in_volatile.range.role;
          staged = in_volatile.range.staged;
          pieces = in_volatile.range.pieces;
        };
        stops = record { role = in_volatile.stops.role; staged = in_volatile.stops.staged };
      })
      k.promised in
      tick_cases (PartStepInRange Known p) me p v (λ _. verdict_in (begun_at me p v) e.verdict begun ended.verdict)
      (λ _. remembering_in Known p (begun_at me p v) (requests me p (begun_at me p v).round ++ asks_heard me p v.heard) begun
      (All-append (SendInRange Known) (requests me p (begun_at me p v).round) (asks_heard me p v.heard) (requests_said (begun_at me p v).round begun.range.round) (heard_asked v.heard)))

  -- ---- messages
  pub request_in : (v : Volatile) (q round : ℕ) → VolatileIn Known p.conf v → Known q → round ≤ greatest_number → PartStepInRange Known p (on_heartbeat_request p v q round)
  request_in v q round in_volatile from small =
      remembering_in Known p v (message p.conf q (body.HeartbeatReply round v.own v.flag) ∷ []) in_volatile (send_one Known p.conf q (body.HeartbeatReply round v.own v.flag) k.range.conf (omega arith) (omega arith) from (small, in_volatile.range.own))

  heard_more : (current : ℕ) (heard : List Heard) (round : ℕ) (h : Heard) → All (HeardInRange Known) heard → HeardInRange Known h → All (HeardInRange Known) (heard_in me p.members current heard round h)
  heard_more current heard round h each of =
      cond_both (eqb round current && is_other me p.members h.from) (heard_with heard h) heard (All (HeardInRange Known))
      (λ _. All-append (HeardInRange Known) (without heard h.from) (h ∷ []) (All-filter (λ j. not (eqb j.from h.from)) (HeardInRange Known) heard each) (All-cons (HeardInRange Known) h [] of (All-nil (HeardInRange Known))))
      (λ _. each)

  pub reply_in : (v : Volatile) (q round : ℕ) (b : Ballot) (flag : Bool) → VolatileIn Known p.conf v → BallotOf Known b → PartStepInRange Known p (on_heartbeat_reply me p v q round b flag)
  reply_in v q round b flag in_volatile of =
      let h : Heard = record { from = q; ballot = b; flag = flag } in
      remembering_in Known p (record v { heard = heard_in me p.members v.round v.heard round h }) []
      (record {
        range = record {
          own = in_volatile.range.own;
          leader = in_volatile.range.leader;
          floor = in_volatile.range.floor;
          round = in_volatile.range.round;
          heard = heard_more v.round v.heard round h in_volatile.range.heard of;
          role = in_volatile.range.role;
          staged = in_volatile.range.staged;
          pieces = in_volatile.range.pieces;
        };
        stops = record { role = in_volatile.stops.role; staged = in_volatile.stops.staged };
      })
      (All-nil (SendInRange Known))

  pub refuse_in : (v : Volatile) (b : Ballot) → VolatileIn Known p.conf v → BallotOf Known b → PartStepInRange Known p (on_refuse v b)
  refuse_in v b in_volatile of = remembering_in Known p (with_floor_at v b) [] (floor_in Known p.conf v b in_volatile of) (All-nil (SendInRange Known))
