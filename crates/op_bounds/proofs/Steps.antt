-- Each step of a node is in range.
use Rattle.std.proofs.Common.{◌≡◌, ◌≤◌, ◌<◌, ◌⊎◌, inl, inr, ℕ, true, false, not, cond, ltb, eqb, nat_eq, ◌&&◌, ◌||◌, is_some, List, [], ◌∷◌, Option, Some, None, refl, sym, subst, arith, All, ap, ◌∙◌}
use Rattle.std.specs.Prelude.{IfSome}
use Rattle.std.specs.Set.{is_member}
use Rattle.std.proofs.lemmas.Bool.{cond_both, ltb-true, and_parts, cases_lt, true≢false}
use Rattle.std.proofs.lemmas.List.Elements.{All-nil, All-cons, All-head, All-filter}
use Rattle.op_types.specs.Limits.{last_conf}
use Rattle.op_types.specs.Ranges.{IsPlace, AreCommands}
use Rattle.op_types.specs.Changes.{IsCommand, EndsNowhere, len_of, durable_after}
use Rattle.op_types.specs.Stages.{Pieces, with_piece, whole_bytes}
use Rattle.op_types.specs.Roles as role
use Rattle.op_types.specs.Roles.{Role}
use Rattle.op_types.specs.declared.log.Command.{Command}
use Rattle.op_types.specs.declared.log.Entry.{Entry}
use Rattle.op_types.specs.declared.log.Entry.TheVariants as entry
use Rattle.op_types.specs.declared.answers.Refusal.{Refusal}
use Rattle.op_types.specs.declared.answers.Refusal.TheVariants as refusal
use Rattle.op_types.specs.declared.answers.Outcome.{Outcome}
use Rattle.op_types.specs.declared.answers.Outcome.TheVariants as outcome
use Rattle.op_types.specs.declared.changes.Change.{Change}
use Rattle.op_types.specs.declared.durable.Part.{Part}
use Rattle.op_types.specs.declared.durable.Closed.{Closed}
use Rattle.op_types.specs.declared.durable.Joining.{Joining}
use Rattle.op_types.specs.declared.events.Input.{Input}
use Rattle.op_types.specs.declared.events.Input.TheVariants as input
use Rattle.op_types.specs.declared.messages.Body.{Body}
use Rattle.op_types.specs.declared.messages.Body.TheVariants as body
use Rattle.op_types.specs.declared.messages.Msg.{Msg}
use Rattle.op_types.specs.declared.runs.Piece.{Piece}
use Rattle.op_msg.specs.Ranges.{PieceInRange}
use Rattle.op_spec.specs.Service.{Service}
use Rattle.op_protocol.specs.State.{State, Volatile, Waiting, PartStep, Planned, with_effects}
use Rattle.op_protocol.specs.Parts.{is_admitted, message}
use Rattle.op_protocol.specs.Leader.{session_down, propose}
use Rattle.op_protocol.specs.Trimming.{trim_now}
use Rattle.op_protocol.specs.Tick.{remembering, on_tick}
use Rattle.op_protocol.specs.Configurations.{latest_of, latest_members, next_conf_message}
use Rattle.op_protocol.specs.Joining.{storing, begins_joining, storing_news, on_next_conf, joins, asks, gives_base, gives_segment, takes_piece, pieces_once, on_base_piece, brought_to}
use Rattle.op_protocol.specs.Rows.{on_message, message_at, is_of_joining, may_be_above, is_prepare_req, on_older, on_newer, on_latest, member_step, message_step, brought_by, entries_of, open_refusal, part_refusal, pending_at, refusal_after, refusal_of, stop_for, answering, proposal_at, proposal_step, tick_at, trim_at, session_up, up_at, step_at, plan_of, waiting_at, step_bringing, table_plan, step_plan}
use Rattle.op_protocol.specs.Watched.{is_watching, watch_answers}
use Rattle.op_bounds.specs.Messages.{AreIds, MembersOf, BodyInRange, least_conf_of, MsgInRange, SendInRange, RefusalInRange, OutcomeInRange, InputInRange}
use Rattle.op_bounds.specs.States.{ClosedOf, DurableOf, IsNamed, RoleInRange, VolatileInRange, VolatileEndsNowhere, StateInRange}
use Rattle.op_bounds.specs.Laws.{StepsStayInRange}
use Rattle.op_record.specs.Ranges.{ClosedInRange}
use Rattle.op_runs.proofs.Servers.{all_at}
use Rattle.op_bounds.proofs.ReadBases.{ServiceIn}
use Rattle.op_bounds.proofs.Watched.{answers_said}
use Rattle.op_protocol.proofs.Admitted.{admitted_stops}
use Rattle.op_bounds.proofs.Entries.{AreProposed, proposed_commands, proposed_one}
use Rattle.op_bounds.proofs.Batches.{PartIn, part_in}
use Rattle.op_bounds.proofs.Choices.{stop_at_in}
use Rattle.op_bounds.proofs.LeaderRows as leader
use Rattle.op_bounds.proofs.TrimRows as trimming
use Rattle.op_bounds.proofs.TickRows.{VolatileIn, role_of, pieces_now, pieces_stops, PartStepInRange, effects_in, tick_in}
use Rattle.op_bounds.proofs.PartSteps.{RefusalTells, message_in, open_tells, proposed_in, up_in}
use Rattle.op_bounds.proofs.JoinChanges.{stored, JoinsIn, nothing_joined, joins_in, held_here}
use Rattle.op_bounds.proofs.JoinSends.{ClosedIn, news_in, base_given, segment_given, asks_said}
use Rattle.op_bounds.proofs.Plans.{StepIn, quiet_step, part_plan, quiet_plan}
use Rattle.op_protocol.proofs.Unread.{table_unread}
use Rattle.op_bounds.proofs.Reading.{read_fits, reading_in}
use Rattle.op_bounds.proofs.Brought.{brought_in, holds_in}

-- what holds where a proposal is refused, and where it isn't
abbrev RefusalTellsAt : (ℕ → Type 0) → Option Part → List Entry → Option Refusal → Type 0
RefusalTellsAt Known o es (Some r) = RefusalInRange r
RefusalTellsAt Known o es None = IfSome o (λ p. (is_admitted p (len_of p) es ≡ true) × Known p.promised.pid)

module _ (Known : ℕ → Type 0) (ids : AreIds Known) (me : ℕ) (one : Known me) (o : Option Part) (l : Option Closed) (j : Option Joining) (v : Volatile) (t : Service) (w : Waiting)
    (d : DurableOf Known (stored o l j)) (in_volatile : VolatileInRange Known v) (stops : IfSome o (λ p. VolatileEndsNowhere p.conf v)) (in_service : ServiceIn t) (others : Waiting) where
  abbrev here : State
  here = record { durable = stored o l j; volatile = v; service = t; waiting = w; reads = None }

  -- the plan of what a step does
  abbrev Fine : PartStep → Type 0
  Fine x = StepIn Known me here (plan_of me here others x)

  -- ---- steps that change nothing of a part

  stores : (y : Volatile) (batch : List Change) → VolatileInRange Known y → IfSome o (λ p. VolatileEndsNowhere p.conf y) → JoinsIn Known me (stored o l j) batch → Fine (storing y batch)
  stores y batch in_y ends k = quiet_plan Known me l j v y t w others batch [] None o k in_y ends in_service (All-nil (SendInRange Known)) tt

  says : (sends : List (ℕ × Msg)) → All (SendInRange Known) sends → Fine (remembering v sends)
  says sends said = quiet_plan Known me l j v v t w others [] sends None o (nothing_joined Known ids me o l j d) in_volatile stops in_service said tt

  answers : (x : Option Outcome) → IfSome x (OutcomeInRange Known) → Fine (answering v x)
  answers x told = quiet_plan Known me l j v v t w others [] [] x o (nothing_joined Known ids me o l j d) in_volatile stops in_service (All-nil (SendInRange Known)) told

-- ---- at a part

module _ (Known : ℕ → Type 0) (ids : AreIds Known) (me : ℕ) (one : Known me) (p : Part) (l : Option Closed) (j : Option Joining) (v : Volatile) (t : Service) (w : Waiting)
    (d : DurableOf Known (stored (Some p) l j)) (in_volatile : VolatileInRange Known v) (stops : VolatileEndsNowhere p.conf v) (in_service : ServiceIn t) (others : Waiting) where
  at_part : (x : PartStep) → PartStepInRange Known p x → Fine Known ids me one (Some p) l j v t w d in_volatile stops in_service others x
  at_part x fit = part_plan Known ids me one p l j v t w d in_service others x fit

  part_here : PartIn Known p
  part_here = part_in Known p d.range.part d.part

  memory : VolatileIn Known p.conf v
  memory = record { range = in_volatile; stops = stops }

  message_here : (q : ℕ) (m : Msg) → Known q → BodyInRange Known m.body → Fine Known ids me one (Some p) l j v t w d in_volatile stops in_service others (message_at me (Some p) v q m)
  message_here q m from fit = at_part (on_message me p v q m) (message_in Known ids me one p part_here v q m memory from fit)

  proposal_here : (es : List Entry) → AreProposed Known es → is_admitted p (len_of p) es ≡ true → Known p.promised.pid → Fine Known ids me one (Some p) l j v t w d in_volatile stops in_service others (with_effects v (propose me p v.role es))
  proposal_here es asked admitted known = at_part (with_effects v (propose me p v.role es)) (effects_in Known p 2 v (propose me p v.role es) (omega arith) memory (proposed_in Known ids me one p part_here v es memory asked admitted known))

  tick_here : Fine Known ids me one (Some p) l j v t w d in_volatile stops in_service others (on_tick me p v)
  tick_here = at_part (on_tick me p v) (tick_in Known ids me one p part_here v memory)

  trim_here : Fine Known ids me one (Some p) l j v t w d in_volatile stops in_service others (with_effects v (trim_now me p v.role))
  trim_here = at_part (with_effects v (trim_now me p v.role)) (effects_in Known p 1 v (trim_now me p v.role) (omega arith) memory (trimming.trim_now_in Known me p part_here v.role (role_of Known p.conf v memory)))

  up_here : (q : ℕ) → Fine Known ids me one (Some p) l j v t w d in_volatile stops in_service others (with_effects v (session_up me p v.role q))
  up_here q = at_part (with_effects v (session_up me p v.role q)) (effects_in Known p 0 v (session_up me p v.role q) (omega arith) memory (up_in Known ids me one p part_here v.role q (role_of Known p.conf v memory)))

  down_here : (q : ℕ) → Fine Known ids me one (Some p) l j v t w d in_volatile stops in_service others (with_effects v (session_down v.role q))
  down_here q = at_part (with_effects v (session_down v.role q)) (effects_in Known p 0 v (session_down v.role q) (omega arith) memory (leader.down_in Known me p part_here v.role q (role_of Known p.conf v memory)))

-- ---- wherever the node is

-- whether a log, or a closed list, has a place for its stop-sign
pending_in : (Known : ℕ → Type 0) (o : Option Part) (l : Option Closed) (j : Option Joining) → DurableOf Known (stored o l j) → IfSome (pending_at o l) IsPlace
pending_in Known (Some p) l j d = stop_at_in p.trimmed p.tail.items d.range.part.len
pending_in Known None (Some l) j d = omega (arith, d.range.closed.len)
pending_in Known None None j d = tt

-- what is proposed at a part, if it is admitted there
abbrev AskedAt : (ℕ → Type 0) → Option Part → List Entry → Type 0
AskedAt Known o es = IfSome o (λ p. is_admitted p (len_of p) es ≡ true → AreProposed Known es)

commands_asked : (Known : ℕ → Type 0) (o : Option Part) (cs : List Command) → AreCommands cs → AskedAt Known o (entries_of cs)
commands_asked Known None cs fit = tt
commands_asked Known (Some p) cs fit = λ admitted. proposed_commands Known cs fit

-- a stop-sign that is admitted leaves a number for the next configuration
stop_asked : (Known : ℕ → Type 0) (o : Option Part) (l : Option Closed) (j : Option Joining) (members : List ℕ) → DurableOf Known (stored o l j) → MembersOf Known members → AskedAt Known o (entry.Stop (stop_for o members) ∷ [])
stop_asked Known None l j members d fit = tt
stop_asked Known (Some p) l j members d fit = λ admitted. by (admitted_stops p (len_of p) (entry.Stop (stop_for (Some p) members) ∷ []) admitted) (cases_lt p.conf last_conf)
  where
    by : EndsNowhere p.conf (entry.Stop (stop_for (Some p) members) ∷ []) → (p.conf < last_conf) ⊎ (last_conf ≤ p.conf) → AreProposed Known (entry.Stop (stop_for (Some p) members) ∷ [])
    by ends (inl h) = proposed_one Known (entry.Stop (stop_for (Some p) members)) (record { next = omega (arith, h); members = fit.range }, fit.known)
    by ends (inr h) = absurd (All-head IsCommand (entry.Stop (stop_for (Some p) members)) [] (ends (omega (arith, h, d.range.part.conf))))

module _ (Known : ℕ → Type 0) (ids : AreIds Known) (me : ℕ) (one : Known me) (l : Option Closed) (j : Option Joining) (v : Volatile) (t : Service) (w : Waiting)
    (in_volatile : VolatileInRange Known v) (in_service : ServiceIn t) (others : Waiting) where
  -- what is kept and stored where this is the part
  abbrev Stored : Option Part → Type 0
  Stored o = DurableOf Known (stored o l j)

  abbrev Stops : Option Part → Type 0
  Stops o = IfSome o (λ p. VolatileEndsNowhere p.conf v)

  abbrev Plan : Option Part → PartStep → Type 0
  Plan o x = let s : State = record { durable = stored o l j; volatile = v; service = t; waiting = w; reads = None } in StepIn Known me s (plan_of me s others x)

  quiet : (o : Option Part) (sends : List (ℕ × Msg)) → Stored o → Stops o → All (SendInRange Known) sends → Plan o (remembering v sends)
  quiet o sends d stops said = says Known ids me one o l j v t w d in_volatile stops in_service others sends said

  still : (o : Option Part) → Stored o → Stops o → Plan o (remembering v [])
  still o d stops = quiet o [] d stops (All-nil (SendInRange Known))

  answered : (o : Option Part) (x : Option Outcome) → Stored o → Stops o → IfSome x (OutcomeInRange Known) → Plan o (answering v x)
  answered o x d stops told = answers Known ids me one o l j v t w d in_volatile stops in_service others x told

  -- ---- messages

  at_message : (o : Option Part) (q : ℕ) (m : Msg) → Stored o → Stops o → Known q → BodyInRange Known m.body → Plan o (message_at me o v q m)
  at_message None q m d stops from fit = still None d stops
  at_message (Some p) q m d stops from fit = message_here Known ids me one p l j v t w d in_volatile stops in_service others q m from fit

  closed_here : (x : Closed) (o : Option Part) → IfSome l ClosedInRange → IfSome l (ClosedOf Known) → l ≡ Some x → ClosedIn Known x
  closed_here x o range of is = record { range = subst (λ (y : Option Closed). IfSome y ClosedInRange) is range; of = subst (λ (y : Option Closed). IfSome y (ClosedOf Known)) is of }

  base_said : (o : Option Part) (q c : ℕ) → Stored o → Known q → All (SendInRange Known) (gives_base l q c)
  base_said o q c d from = by l refl
    where
      by : (x : Option Closed) → l ≡ x → All (SendInRange Known) (gives_base x q c)
      by None e = All-nil (SendInRange Known)
      by (Some x) e = base_given Known x (closed_here x o d.range.closed d.closed e) q c from

  segment_said : (o : Option Part) (q c from to : ℕ) → Stored o → Known q → All (SendInRange Known) (gives_segment l q c from to)
  segment_said o q c from to d known = by l refl
    where
      by : (x : Option Closed) → l ≡ x → All (SendInRange Known) (gives_segment x q c from to)
      by None e = All-nil (SendInRange Known)
      by (Some x) e = segment_given Known x (closed_here x o d.range.closed d.closed e) q c from to known

  older_said : (o : Option Part) (q : ℕ) → Stored o → Known q → All (SendInRange Known) (on_older (stored o l j) l q)
  older_said o q d known = by l refl
    where
      by : (x : Option Closed) → l ≡ x → All (SendInRange Known) (on_older (stored o l j) x q)
      by None e = All-nil (SendInRange Known)
      by (Some x) e =
          cond_both (is_member nat_eq (latest_members (stored o l j)) q) (next_conf_message x q ∷ []) [] (All (SendInRange Known))
          (λ _. All-cons (SendInRange Known) (next_conf_message x q) [] (news_in Known x (closed_here x o d.range.closed d.closed e) q known) (All-nil (SendInRange Known)))
          (λ _. All-nil (SendInRange Known))

  newer_said : (o : Option Part) (q c : ℕ) (b : Body) → latest_of (stored o l j) < c → c ≤ last_conf → Known q → All (SendInRange Known) (on_newer (stored o l j) q b)
  newer_said o q c b above small known =
      cond_both (is_some j || (is_of_joining b || is_prepare_req b)) [] (message (latest_of (stored o l j)) q body.PrepareReq ∷ []) (All (SendInRange Known))
      (λ _. All-nil (SendInRange Known))
      (λ _. All-cons (SendInRange Known) (message (latest_of (stored o l j)) q body.PrepareReq) []
      (record { to = known; carries = omega arith; conf = λ (h : true ≡ false). absurd (true≢false h); message = record { conf = omega (arith, above, small); least = omega arith; body = tt } }) (All-nil (SendInRange Known)))

  -- what is stored of news
  news_stored : (o : Option Part) (batch : List Change) → Stored o → Stops o → JoinsIn Known me (stored o l j) batch → Plan o (storing_news v batch)
  news_stored o batch d stops k =
      cond_both (begins_joining batch) (record v { pieces = None }) v (λ (y : Volatile). Plan o (storing y batch))
      (λ _. stores Known ids me one o l j v t w d in_volatile stops in_service others (record v { pieces = None }) batch (pieces_now Known v None in_volatile tt) (pieces_stops v None o stops) k)
      (λ _. stores Known ids me one o l j v t w d in_volatile stops in_service others v batch in_volatile stops k)

  -- a piece of a base comes
  staged_at : (s : Pieces) (x : Option (List ℕ)) → IsPlace s.at → IfSome (pieces_once s x) (λ y. IsPlace y.at)
  staged_at s None place = place
  staged_at s (Some bytes) place = tt

  piece_here : (o : Option Part) (x : Option Joining) (c : ℕ) (piece : Piece) → Stored o → Stops o → PieceInRange piece → Plan o (on_base_piece x v c piece)
  piece_here o None c piece d stops fit = still o d stops
  piece_here o (Some x) c piece d stops fit =
      let s : Pieces = with_piece v.pieces piece in
      let left : Option Pieces = pieces_once s (whole_bytes s.bytes) in
      cond_both (takes_piece x c piece) (storing (record v { pieces = left }) []) (storing v []) (Plan o)
      (λ _. stores Known ids me one o l j v t w d in_volatile stops in_service others (record v { pieces = left }) []
      (pieces_now Known v left in_volatile (staged_at s (whole_bytes s.bytes) fit.at)) (pieces_stops v left o stops) (nothing_joined Known ids me o l j d))
      (λ _. still o d stops)

  news_here : (o : Option Part) (q c : ℕ) (members olds : List ℕ) (len trimmed : ℕ) → Stored o → Stops o → Known q → c ≤ last_conf → 2 ≤ c → BodyInRange Known (body.NextConf members olds len trimmed)
      → Plan o (on_next_conf me (stored o l j) v q c members olds len trimmed)
  news_here o q c members olds len trimmed d stops from small least fit =
      let batch : List Change = joins j q c members olds len trimmed in
      cond_both (is_member nat_eq members me && ltb (latest_of (stored o l j)) c) (storing_news v batch) (storing v []) (Plan o)
      (λ h. news_stored o batch d stops
      (joins_in Known ids me o l j q c members olds len trimmed d (least, small) (and_parts (is_member nat_eq members me) (ltb (latest_of (stored o l j)) c) h).0 fit.0 fit.1 fit.2 from))
      (λ _. still o d stops)

  latest_here : (o : Option Part) (q c : ℕ) (b : Body) → Stored o → Stops o → Known q → c ≤ last_conf → least_conf_of b ≤ c → BodyInRange Known b → Plan o (on_latest me (stored o l j) v q c b)
  latest_here o q c (body.NextConf members olds len trimmed) d stops from small least fit = news_here o q c members olds len trimmed d stops from small least fit
  latest_here o q c body.AskBase d stops from small least fit = quiet o (gives_base l q c) d stops (base_said o q c d from)
  latest_here o q c (body.AskSegment a b) d stops from small least fit = quiet o (gives_segment l q c a b) d stops (segment_said o q c a b d from)
  latest_here o q c (body.HeartbeatRequest r) d stops from small least fit = at_message o q _ d stops from fit
  latest_here o q c (body.HeartbeatReply r z g) d stops from small least fit = at_message o q _ d stops from fit
  latest_here o q c (body.Confirm z g) d stops from small least fit = at_message o q _ d stops from fit
  latest_here o q c (body.Confirmed z g) d stops from small least fit = at_message o q _ d stops from fit
  latest_here o q c (body.Watch w) d stops from small least fit = at_message o q _ d stops from fit
  latest_here o q c (body.Prepare z na nl nd) d stops from small least fit = at_message o q _ d stops from fit
  latest_here o q c (body.Promise z fa fl fd a es) d stops from small least fit = at_message o q _ d stops from fit
  latest_here o q c (body.AcceptSync z g es) d stops from small least fit = at_message o q _ d stops from fit
  latest_here o q c (body.BasePiece piece) d stops from small least fit = piece_here o j c piece d stops fit
  latest_here o q c (body.PromisePart z g) d stops from small least fit = at_message o q _ d stops from fit
  latest_here o q c (body.AcceptSyncPart z g) d stops from small least fit = at_message o q _ d stops from fit
  latest_here o q c (body.Accept z a es) d stops from small least fit = at_message o q _ d stops from fit
  latest_here o q c (body.Accepted z g) d stops from small least fit = at_message o q _ d stops from fit
  latest_here o q c (body.Decide z g) d stops from small least fit = at_message o q _ d stops from fit
  latest_here o q c body.PrepareReq d stops from small least fit = at_message o q _ d stops from fit
  latest_here o q c (body.Refuse z g) d stops from small least fit = at_message o q _ d stops from fit
  latest_here o q c (body.Forward g) d stops from small least fit = at_message o q _ d stops from fit
  latest_here o q c (body.Forwards g) d stops from small least fit = at_message o q _ d stops from fit
  latest_here o q c (body.TrimAsk z) d stops from small least fit = at_message o q _ d stops from fit
  latest_here o q c (body.Progress z g) d stops from small least fit = at_message o q _ d stops from fit
  latest_here o q c (body.Trim g) d stops from small least fit = at_message o q _ d stops from fit
  latest_here o q c (body.BasePart at bytes) d stops from small least fit = at_message o q _ d stops from fit
  latest_here o q c (body.Segment at es) d stops from small least fit = at_message o q _ d stops from fit

  -- a message that isn't an observer's
  member_in : (o : Option Part) (q : ℕ) (m : Msg) → Stored o → Stops o → Known q → MsgInRange Known m → Plan o (member_step me (stored o l j) v q m)
  member_in o q m d stops from fit =
      let latest : ℕ = latest_of (stored o l j) in
      let last : PartStep = on_latest me (stored o l j) v q m.conf m.body in
      let newer : PartStep = remembering v (on_newer (stored o l j) q m.body) in
      let older : PartStep = remembering v (on_older (stored o l j) l q) in
      cond_both (is_some j && not (is_of_joining m.body)) (remembering v []) (cond (ltb m.conf latest) older (cond (ltb latest m.conf && not (may_be_above m.body)) newer last)) (Plan o)
      (λ _. still o d stops)
      (λ _. cond_both (ltb m.conf latest) older (cond (ltb latest m.conf && not (may_be_above m.body)) newer last) (Plan o)
      (λ _. quiet o (on_older (stored o l j) l q) d stops (older_said o q d from))
      (λ _. cond_both (ltb latest m.conf && not (may_be_above m.body)) newer last (Plan o)
      (λ h. quiet o (on_newer (stored o l j) q m.body) d stops (newer_said o q m.conf m.body (ltb-true latest m.conf (and_parts (ltb latest m.conf) (not (may_be_above m.body)) h).0) fit.conf from))
      (λ _. latest_here o q m.conf m.body d stops from fit.conf fit.least fit.body)))

  delivered : (o : Option Part) (q : ℕ) (m : Msg) → Stored o → Stops o → Known q → MsgInRange Known m → Plan o (message_step me (stored o l j) v q m)
  delivered o q m d stops from fit =
      let told : List (ℕ × Msg) = watch_answers (stored o l j) q m.conf m.body in
      cond_both (is_watching m.body) (remembering v told) (member_step me (stored o l j) v q m) (Plan o)
      (λ _. quiet o told d stops (answers_said Known q from (stored o l j) m.conf m.body d fit.conf fit.body))
      (λ _. member_in o q m d stops from fit)

  -- ---- proposals

  part_tells : (o : Option Part) (es : List Entry) (x : Option Joining) → Stored o → RefusalTellsAt Known o es (part_refusal me v.role o x es)
  part_tells None es None d = tt
  part_tells None es (Some x) d = tt
  part_tells (Some p) es (Some x) d = tt
  part_tells (Some p) es None d = by (open_tells Known ids me one p (part_in Known p d.range.part d.part) v.role es)
    where
      by : RefusalTells Known p es (open_refusal me v.role p es) → RefusalTellsAt Known (Some p) es (open_refusal me v.role p es)
      by k = of (open_refusal me v.role p es) k
        where
          of : (r : Option Refusal) → RefusalTells Known p es r → RefusalTellsAt Known (Some p) es r
          of (Some r) k = k
          of None k = k

  after_tells : (o : Option Part) (es : List Entry) (x : Option ℕ) → Stored o → IfSome x IsPlace → RefusalTellsAt Known o es (refusal_after me v.role (stored o l j) es x)
  after_tells o es (Some pos) d place = place
  after_tells o es None d place = part_tells o es j d

  proposed : (o : Option Part) (es : List Entry) (r : Option Refusal) → Stored o → Stops o → AskedAt Known o es → RefusalTellsAt Known o es r → Plan o (proposal_at me o v es r)
  proposed o es (Some r) d stops asked told = answered o (Some (outcome.Refused r)) d stops told
  proposed None es None d stops asked told = answered None (Some (outcome.Refused refusal.NoLeader)) d stops tt
  proposed (Some p) es None d stops asked told = proposal_here Known ids me one p l j v t w d in_volatile stops in_service others es (asked told.0) told.0 told.1

  proposal : (o : Option Part) (es : List Entry) → Stored o → Stops o → AskedAt Known o es → Plan o (proposal_step me (stored o l j) v es)
  proposal o es d stops asked =
      proposed o es (refusal_of me v.role (stored o l j) es) d stops asked (after_tells o es (pending_at o l) d (pending_in Known o l j d))

  -- ---- the other inputs

  ticked : (o : Option Part) (x : Option Joining) → j ≡ x → Stored o → Stops o → Plan o (tick_at me o x v)
  ticked None None e d stops = still None d stops
  ticked (Some p) None e d stops = tick_here Known ids me one p l j v t w d in_volatile stops in_service others
  ticked None (Some x) e d stops = quiet None (asks x) d stops (asked_for None x e d)
    where
      asked_for : (o : Option Part) (x : Joining) → j ≡ Some x → Stored o → All (SendInRange Known) (asks x)
      asked_for o x e d = asks_said Known x (held_here Known ids me o l x (subst (λ (y : Option Joining). DurableOf Known (stored o l y)) e d))
  ticked (Some p) (Some x) e d stops = quiet (Some p) (asks x) d stops (asks_said Known x (held_here Known ids me (Some p) l x (subst (λ (y : Option Joining). DurableOf Known (stored (Some p) l y)) e d)))

  trimmed : (o : Option Part) → Stored o → Stops o → Plan o (trim_at me o v)
  trimmed None d stops = answered None (Some outcome.NotLeading) d stops tt
  trimmed (Some p) d stops = trim_here Known ids me one p l j v t w d in_volatile stops in_service others

  -- the news where a session begins
  told_at_up : (q : ℕ) → Stored None → All (SendInRange Known) (on_older (stored None l j) l q)
  told_at_up q d = by l refl
    where
      by : (x : Option Closed) → l ≡ x → All (SendInRange Known) (on_older (stored None l j) x q)
      by None e = All-nil (SendInRange Known)
      by (Some x) e =
          let list : ClosedIn Known x = closed_here x None d.range.closed d.closed e in
          cond_both (is_member nat_eq (latest_members (stored None l j)) q) (next_conf_message x q ∷ []) [] (All (SendInRange Known))
          (λ h. All-cons (SendInRange Known) (next_conf_message x q) []
          (news_in Known x list q (all_at Known x.next q list.of.next (sym (ap (λ (c : Option Closed). is_member nat_eq (latest_members (stored None c j)) q) e) ∙ h))) (All-nil (SendInRange Known)))
          (λ _. All-nil (SendInRange Known))

  begun : (o : Option Part) (x : Option Joining) (q : ℕ) → Stored o → Stops o → Plan o (up_at me (stored o l j) o x v q)
  begun None None q d stops = quiet None (on_older (stored None l j) l q) d stops (told_at_up q d)
  begun None (Some x) q d stops = still None d stops
  begun (Some p) (Some x) q d stops = still (Some p) d stops
  begun (Some p) None q d stops = up_here Known ids me one p l j v t w d in_volatile stops in_service others q

  -- a session ends at a node without a part
  lone_role : (r : Role) (q : ℕ) → RoleInRange Known r → RoleInRange Known (session_down r q).role
  lone_role role.Idle q k = tt
  lone_role (role.Preparing r) q k = k
  lone_role (role.Leading x) q k =
      record { ballot = k.ballot; adopted_round = k.adopted_round; adopted_len = k.adopted_len; synced = All-filter (λ s. not (eqb s q)) Known x.synced k.synced; acknowledged = k.acknowledged; reports = k.reports }

  down_quiet : (r : Role) (q : ℕ) → with_effects v (session_down r q) ≡ quiet_step (record v { role = (session_down r q).role }) [] [] None
  down_quiet role.Idle q = refl
  down_quiet (role.Preparing r) q = refl
  down_quiet (role.Leading x) q = refl

  ended : (o : Option Part) (q : ℕ) → Stored o → Stops o → Plan o (with_effects v (session_down v.role q))
  ended (Some p) q d stops = down_here Known ids me one p l j v t w d in_volatile stops in_service others q
  ended None q d stops =
      subst (Plan None) (sym (down_quiet v.role q))
      (quiet_plan Known me l j v (record v { role = (session_down v.role q).role }) t w others [] [] None None (nothing_joined Known ids me None l j d)
      (record { own = in_volatile.own; leader = in_volatile.leader; floor = in_volatile.floor; round = in_volatile.round; heard = in_volatile.heard; role = lone_role v.role q in_volatile.role; staged = in_volatile.staged; pieces = in_volatile.pieces })
      tt in_service (All-nil (SendInRange Known)) tt)

  -- ---- whatever comes
  pub input_in : (o : Option Part) (x : Input) → Stored o → Stops o → InputInRange Known x → Plan o (step_at me (stored o l j) v x)
  input_in o input.Tick d stops fit = ticked o j refl d stops
  input_in o (input.Deliver q m) d stops fit = delivered o q m d stops fit.0 fit.1
  input_in o (input.Commands cs) d stops fit = proposal o (entries_of cs) d stops (commands_asked Known o cs fit)
  input_in o (input.Stop members) d stops fit = proposal o (entry.Stop (stop_for o members) ∷ []) d stops (stop_asked Known o l j members d fit)
  input_in o input.TrimNow d stops fit = trimmed o d stops
  input_in o (input.Read r) d stops fit = still o d stops
  input_in o (input.Up q) d stops fit = begun o j q d stops
  input_in o (input.Down q) d stops fit = ended o q d stops

-- ---- what an input brings

module _ (Known : ℕ → Type 0) (ids : AreIds Known) (me : ℕ) (o : Option Part) (l : Option Closed) (j : Option Joining) (v : Volatile) (d : DurableOf Known (stored o l j)) where
  pub input_brings : (x : Input) → InputInRange Known x → IfSome (brought_by (stored o l j) v x) (JoinsIn Known me (stored o l j))
  input_brings (input.Deliver q m) fit =
      cond_both (ltb m.conf (latest_of (stored o l j))) None (brought_to j v.pieces m.conf m.body) (λ (y : Option (List Change)). IfSome y (JoinsIn Known me (stored o l j))) (λ _. tt)
      (λ _. brought_in Known ids me o l j v.pieces m.conf m.body d fit.1.body)
  input_brings input.Tick fit = tt
  input_brings (input.Commands cs) fit = tt
  input_brings (input.Stop members) fit = tt
  input_brings input.TrimNow fit = tt
  input_brings (input.Read r) fit = tt
  input_brings (input.Up q) fit = tt
  input_brings (input.Down q) fit = tt

-- ---- the whole step

bringing : (Known : ℕ → Type 0) → AreIds Known → (me : ℕ) → Known me → (o : Option Part) (l : Option Closed) (j : Option Joining) (v : Volatile) (t : Service) (w : Waiting)
    → (d : DurableOf Known (stored o l j)) → VolatileInRange Known v → IfSome o (λ p. VolatileEndsNowhere p.conf v) → ServiceIn t → (x : Input) → InputInRange Known x
    → (b : Option (List Change)) → IfSome b (JoinsIn Known me (stored o l j))
    → (let s : State = record { durable = stored o l j; volatile = v; service = t; waiting = w; reads = None } in StepIn Known me s (step_bringing me s x b))
bringing Known ids me one o l j v t w d in_volatile stops in_service x fit (Some batch) k = holds_in Known ids me one o l j v t w in_volatile stops in_service batch k
bringing Known ids me one o l j v t w d in_volatile stops in_service x fit None k =
    let s : State = record { durable = stored o l j; volatile = v; service = t; waiting = w; reads = None } in
    input_in Known ids me one l j v t w in_volatile in_service (waiting_at me s x) o x d stops fit

-- what the table plans without its reads
table_in : (Known : ℕ → Type 0) → AreIds Known → (me : ℕ) → Known me → (s : State) → StateInRange Known s → (x : Input) → InputInRange Known x → StepIn Known me s (table_plan me s x)
table_in Known ids me one s k x fit =
    subst (λ (p : Planned). StepIn Known me s p) (table_unread me s None x)
    (let t = bringing Known ids me one s.durable.part s.durable.closed s.durable.joining s.volatile s.service s.waiting k.durable k.volatile k.stops (record { range = k.service; order = k.order }) x fit
    (brought_by s.durable s.volatile x) (input_brings Known ids me s.durable.part s.durable.closed s.durable.joining s.volatile k.durable x fit) in
    let r = t.range in
    record { range = record { applies = r.applies; batch = r.batch; sends = r.sends; replies = r.replies; read_replies = r.read_replies; outcome = r.outcome; after = r.after }; named = t.named })

-- the whole step
pub step_in : (Known : ℕ → Type 0) → AreIds Known → (me : ℕ) → Known me → (s : State) → StateInRange Known s → (x : Input) → InputInRange Known x → StepIn Known me s (step_plan me s x)
step_in Known ids me one s k x fit =
    let t = table_in Known ids me one s k x fit in
    record { range = reading_in Known me s k x (read_fits Known x fit) (table_plan me s x) t.range; named = t.named }

pub steps_stay : (Known : ℕ → Type 0) → StepsStayInRange Known
steps_stay Known ids me one s k x fit = (step_in Known ids me one s k x fit).range

-- each step leaves its node a member of its part's configuration, and of the one that it joins
pub steps_name : (Known : ℕ → Type 0) → AreIds Known → (me : ℕ) → Known me → (s : State) → StateInRange Known s → (x : Input) → InputInRange Known x
    → IsNamed me s.durable → IsNamed me (durable_after s.durable (step_plan me s x).batch)
steps_name Known ids me one s k x fit n = (step_in Known ids me one s k x fit).named n
