-- What a node does at its part is a step of the pure machine inside the configuration.
use Rattle.std.proofs.Common.{◌≡◌, ◌<◌, inl, ℕ, ◌+◌, Bool, true, false, not, ◌||◌, cond, eqb, ltb, leb, is_some, List, [], ◌∷◌, ◌++◌, length, Option, Some, None, refl, sym, ap, ◌∙◌, arith}
use Rattle.std.specs.Prelude.{IfSome}
use Rattle.std.proofs.lemmas.Bool.{cond_both, eqb-true, or_left, or_right, both_ways, lt-ltb, leb-false}
use Rattle.op_types.specs.Ballots.{is_below}
use Rattle.op_types.specs.Changes.{len_of}
use Rattle.op_types.specs.Effects.{Effects}
use Rattle.op_types.specs.Limits.{positions_end}
use Rattle.op_types.specs.RoleStates.{Leading}
use Rattle.op_types.specs.Roles as role
use Rattle.op_types.specs.Roles.{Role}
use Rattle.op_types.specs.declared.ballot.Ballot.{Ballot}
use Rattle.op_types.specs.declared.durable.Part.{Part}
use Rattle.op_types.specs.declared.log.Command.{Command}
use Rattle.op_types.specs.declared.log.Entry.{Entry}
use Rattle.op_types.specs.declared.messages.Body.{Body}
use Rattle.op_types.specs.declared.messages.Body.TheVariants as body
use Rattle.op_types.specs.declared.verdict.Verdict.{Verdict}
use Rattle.op_types.specs.declared.verdict.Verdict.TheVariants as verdict
use Rattle.op_protocol.specs.State.{Volatile, PartStep, with_effects, staged_after}
use Rattle.op_protocol.specs.Election.{round_end}
use Rattle.op_protocol.specs.Parts.{pending, is_admitted_body, message, nothing, saying, first, has_stop as parts_has_stop}
use Rattle.op_protocol.specs.Leader.{lead, on_forward, on_forward_leading, session_down, propose, extends}
use Rattle.op_protocol.specs.Tick.{candidate_of, requests, only_asks, elected, by_verdict, asks_heard, also_sending, on_tick}
use Rattle.op_protocol.specs.Heartbeats.{has_replied}
use Rattle.op_protocol.proofs.TickCases.{ended_at, begun_at, asks_some, tick_cases}
use Rattle.op_protocol.specs.Rows.{on_body, entries_of}
use Rattle.op_paxos.proofs.Tidy.{Tidy}
use Rattle.op_spec.specs.Machine.{stop_of}
use Rattle.op_paxos.specs.Logs.{is_stop, has_stop}
use Rattle.op_paxos.specs.Leader.{on_forward_in as pure_forward_in, on_propose_in as pure_propose_in}
use Rattle.op_paxos.specs.Worlds.{step as pure_step, on_msg as pure_on_msg}
use Rattle.op_configurations.proofs.PartFacts.{Comable}
use Rattle.op_refinement.proofs.Pure as pure
use Rattle.op_refinement.proofs.View.{rank, whole_log, view, view_role, view_promised_run, view_leading, view_body, Fits, PartIsSmall, RoleIsSmall, BodyIsSmall, said_one, said_broadcast}
use Rattle.op_refinement.proofs.Logs.{len_of-whole, IsOpen, pending-whole}
use Rattle.op_refinement.proofs.Matching.{Matches, effects_in, match_saying, match_nothing}
use Rattle.op_refinement.proofs.FollowerRows.{prepare_matches, accept_matches, accept_sync_matches, decide_matches}
use Rattle.op_refinement.proofs.SyncParts.{sync_part_matches}
use Rattle.op_refinement.proofs.LeaderRows.{LeadingIsSmall, lead_matches, promise_matches, promise_part_matches, accepted_matches, prepare_req_matches, buffer_matches, append_matches, propose_matches, down_matches}
use Rattle.op_refinement.proofs.TrimRows.{MatchesTo, StepMatches, row_matches, trim_ask_matches, trim_matches, progress_matches, trim_now_matches}

-- what is known of a part and of its node in the pure machine
pub record IsKnown (packets : List pure.Packet) (me : ℕ) (front : List Entry) (p : Part) (v : Volatile) : Type 0 where
  pub me_low : me < pure.owner_count
  pub fits : Fits front p
  pub unended : IsOpen front
  pub small : PartIsSmall p
  pub small_role : RoleIsSmall v.role
  pub tidy : Tidy (whole_log front p)
  -- no input that may come leaves an entry after a stop-sign
  pub stays_tidy : (i : pure.Input) → Comable packets me i → Tidy ((pure.step p.members me (view front p v.role v.staged) i).node).log

-- a tick only asks for heartbeats, or the node leads a ballot besides
pub record Led (front : List Entry) (me : ℕ) (p : Part) (v : Volatile) (x : PartStep) : Type 0 where
  pub ballot : Ballot
  pub round : ℕ
  pub is : effects_in x ≡ first [] (requests me p round) [] (lead me p v.role ballot)
  pub staged : x.volatile.staged ≡ staged_after (lead me p v.role ballot).batch v.staged
  pub pieces : x.volatile.pieces ≡ v.pieces
  pub matches : Matches front me p v.staged (lead me p v.role ballot) (pure.step p.members me (view front p v.role v.staged) (pure.Elected (rank ballot)))

pub record Asked (me : ℕ) (p : Part) (v : Volatile) (x : PartStep) : Type 0 where
  pub round : ℕ
  pub is : effects_in x ≡ saying v.role (requests me p round)
  pub staged : x.volatile.staged ≡ v.staged
  pub pieces : x.volatile.pieces ≡ v.pieces

pub record LedBy (front : List Entry) (me : ℕ) (p : Part) (v : Volatile) (b : ℕ) (x : PartStep) : Type 0 where
  pub led : Led front me p v x
  pub ballot_is : rank led.ballot ≡ b

-- or it asks for heartbeats, and those that it heard are asked for a Prepare
pub record AskedToo (me : ℕ) (p : Part) (v : Volatile) (x : PartStep) : Type 0 where
  pub round : ℕ
  pub is : effects_in x ≡ saying v.role (requests me p round ++ asks_heard me p v.heard)
  pub staged : x.volatile.staged ≡ v.staged
  pub pieces : x.volatile.pieces ≡ v.pieces

-- a tick, by the ballot that it leads, if it leads one
abbrev pub TickIs : List Entry → ℕ → Part → Volatile → Option ℕ → PartStep → Type 0
TickIs front me p v None x = Asked me p v x
TickIs front me p v (Some b) x = LedBy front me p v b x

-- an elected ballot that is led
abbrev pub elected_ballot : Part → Ballot → Option ℕ
elected_ballot p n = cond (is_below p.promised n) (Some (rank n)) None

-- the ballot that a verdict leads to
abbrev pub verdict_ballot : ℕ → Part → Verdict → Option ℕ
verdict_ballot me p (verdict.Elected n) = cond (eqb n.pid me) (elected_ballot p n) None
verdict_ballot me p verdict.Nobody = None
verdict_ballot me p (verdict.Raised b) = None

-- the ballot that a tick leads
abbrev pub tick_ballot : ℕ → Part → Volatile → Option ℕ
tick_ballot me p v = verdict_ballot me p (round_end (candidate_of me p v) v.heard).verdict

-- two values by one test
of_conds : {A B : Type 0} (P : A → B → Type 0) (b : Bool) (x y : A) (u v : B) → (b ≡ true → P x u) → (b ≡ false → P y v) → P (cond b x y) (cond b u v)
of_conds P true x y u v f g = f refl
of_conds P false x y u v f g = g refl

-- ---- entries that are proposed together end early nowhere

not_true : (b : Bool) → not b ≡ true → b ≡ false
not_true true e = sym e
not_true false e = refl

-- where none is a stop-sign
pub no_stop_ends : (es : List Entry) → parts_has_stop es ≡ false → pure.stops_early es ≡ false
unfolding is_stop
no_stop_ends [] h = refl
no_stop_ends (e ∷ []) h = refl
no_stop_ends (e ∷ d ∷ es) h = by (is_some (stop_of e)) h (λ k. no_stop_ends (d ∷ es) k)
  where
    by : (b : Bool) → cond b true (parts_has_stop (d ∷ es)) ≡ false → (parts_has_stop (d ∷ es) ≡ false → pure.stops_early (d ∷ es) ≡ false) → (b || pure.stops_early (d ∷ es)) ≡ false
    by true k more = k
    by false k more = more k

-- commands end early nowhere
pub commands_end : (cs : List Command) → pure.stops_early (entries_of cs) ≡ false
unfolding is_stop
commands_end [] = refl
commands_end (c ∷ []) = refl
commands_end (c ∷ d ∷ cs) = commands_end (d ∷ cs)

module _ (packets : List pure.Packet) (me : ℕ) (front : List Entry) (p : Part) (v : Volatile) (k : IsKnown packets me front p v) where
  abbrev node : pure.Node
  node = view front p v.role v.staged

  -- ---- messages

  -- a leader whose log is full takes nothing
  full_matches : (l : Leading) (es : List Entry) → LeadingIsSmall l → pure.overflows (whole_log front p) es ≡ true
      → Matches front me p v.staged (nothing (role.Leading l)) (pure.on_propose_in p.members me (view front p (role.Leading l) v.staged) (pure.Leading (view_leading l)) es)
  unfolding pure_propose_in
  full_matches l es sl full = rw full (match_nothing front me p v.staged (role.Leading l) k.small sl)

  forward_leading : (l : Leading) (es : List Entry) → LeadingIsSmall l → pure.stops_early es ≡ false → (o : Option ℕ) → pending p ≡ o
      → Matches front me p v.staged (on_forward_leading me p l es o) (pure.on_propose_in p.members me (view front p (role.Leading l) v.staged) (pure.Leading (view_leading l)) es)
  forward_leading l es sl ends (Some pos) h =
      let stopped : has_stop (whole_log front p) ≡ true = sym (pending-whole front p.trimmed p.tail.items k.unended k.tidy) ∙ ap is_some h in
      full_matches l es sl (or_left (has_stop (whole_log front p)) (pure.stops_early es || ltb positions_end (length (whole_log front p) + length es)) stopped)
  forward_leading l es sl ends None h =
      cond_both (leb (len_of p + length es) positions_end) (extends me p l es) (nothing (role.Leading l)) (λ (x : Effects). Matches front me p v.staged x (pure.on_propose_in p.members me (view front p (role.Leading l) v.staged) (pure.Leading (view_leading l)) es))
      (λ room. append_matches front me p v.staged k.fits k.unended k.small l es sl k.tidy h ends room)
      (λ full. full_matches l es sl (or_right (has_stop (whole_log front p)) (pure.stops_early es || ltb positions_end (length (whole_log front p) + length es))
      (or_right (pure.stops_early es) (ltb positions_end (length (whole_log front p) + length es))
      (lt-ltb positions_end (length (whole_log front p) + length es) (omega (arith, leb-false (len_of p + length es) positions_end full, len_of-whole front p k.fits))))))

  forward_matches : (r : Role) (es : List Entry) → RoleIsSmall r → pure.stops_early es ≡ false → Matches front me p v.staged (on_forward me p r es) (pure.on_forward_in p.members me (view front p r v.staged) (view_role r) es)
  unfolding pure_forward_in
  forward_matches role.Idle es sr ends = match_nothing front me p v.staged role.Idle k.small sr
  forward_matches (role.Preparing r) es sr ends = buffer_matches front me p v.staged k.fits k.unended k.small r false es sr
  forward_matches (role.Leading l) es sr ends = forward_leading l es sr ends (pending p) refl

  -- what a message does that is admitted, if it has a counterpart
  pub body_matches : (q : ℕ) (b : Body) → BodyIsSmall b → is_admitted_body p b ≡ true → IfSome (view_body b) (λ m. Comable packets me (pure.Comes q m) → StepMatches front me p v (on_body me p v q b) (pure.step p.members me node (pure.Comes q m)))
  unfolding pure_step pure_on_msg
  body_matches q (body.HeartbeatRequest r) s a = tt
  body_matches q (body.HeartbeatReply r b f) s a = tt
  body_matches q (body.Confirm z r) s a = tt
  body_matches q (body.Confirmed b r) s a = tt
  body_matches q (body.Watch w) s a = tt
  body_matches q (body.Prepare n na nl nd) s a = λ c. row_matches front me p v _ _ (inl (prepare_matches front me p v.staged v.role k.fits k.small k.small_role q n na nl nd s.0 s.1))
  body_matches q (body.Promise n fa fl fd st es) s a = λ c.
      row_matches front me p v _ _ (inl (promise_matches front me p v.staged k.fits k.unended k.small v.role n (record { from = q; accepted = fa; len = fl; decided = fd; start = st; entries = es }) k.small_role s.0 s.1
      (k.stays_tidy (pure.Comes q (pure.Promise (rank n) (record { round = rank fa; size = fl; decided = fd; start = st; rest = es }))) c)))
  body_matches q (body.AcceptSync n x es) s a = λ c. row_matches front me p v _ _ (inl (accept_sync_matches front me p v.staged v.role k.fits k.small k.small_role q n x es s))
  body_matches q (body.PromisePart n part) s a = λ c.
      row_matches front me p v _ _ (inl (promise_part_matches front me p v.staged k.fits k.unended k.small v.role q n part k.small_role s.0 s.1
      (k.stays_tidy (pure.Comes q (pure.PromisePart (rank n) (view_promised_run part))) c)))
  body_matches q (body.AcceptSyncPart n part) s a = λ c. sync_part_matches front me p v k.fits k.small k.small_role q n part s
  body_matches q (body.Accept n x es) s a = λ c. row_matches front me p v _ _ (inl (accept_matches front me p v.staged v.role k.fits k.small k.small_role q n x es s))
  body_matches q (body.Accepted n x) s a = λ c. row_matches front me p v _ _ (inl (accepted_matches front me p v.staged k.fits k.unended k.small v.role q n x k.small_role s))
  body_matches q (body.Decide n x) s a = λ c. row_matches front me p v _ _ (inl (decide_matches front me p v.staged v.role k.fits k.small k.small_role n x s))
  body_matches q body.PrepareReq s a = λ c. row_matches front me p v _ _ (inl (prepare_req_matches front me p v.staged k.fits k.unended k.small v.role q k.small_role))
  body_matches q (body.Refuse n b) s a = λ c. record { held = v.staged; staged = refl; pieces = refl; matches = inl (match_nothing front me p v.staged v.role k.small k.small_role) }
  body_matches q (body.Forward e) s a = λ c. row_matches front me p v _ _ (inl (forward_matches v.role (e ∷ []) k.small_role refl))
  body_matches q (body.Forwards es) s a = λ c. row_matches front me p v _ _ (inl (forward_matches v.role es k.small_role (no_stop_ends es (not_true (parts_has_stop es) a))))
  body_matches q (body.TrimAsk n) s a = λ c. row_matches front me p v _ _ (inl (trim_ask_matches front me p v.staged k.small v.role q n k.small_role s))
  body_matches q (body.Progress n x) s a = λ c. row_matches front me p v _ _ (progress_matches front me p v.staged k.small v.role q n x k.small_role s)
  body_matches q (body.Trim x) s a = λ c. row_matches front me p v _ _ (trim_matches front me p v.staged k.small v.role x k.small_role)
  body_matches q (body.NextConf members olds len trimmed) s a = tt
  body_matches q body.AskBase s a = tt
  body_matches q (body.BasePart at bytes) s a = tt
  body_matches q (body.BasePiece piece) s a = tt
  body_matches q (body.AskSegment from to) s a = tt
  body_matches q (body.Segment at es) s a = tt

  -- ---- the other inputs
  pub propose_goes : (es : List Entry) → pending p ≡ None → pure.stops_early es ≡ false → leb (len_of p + length es) positions_end ≡ true
      → Matches front me p v.staged (propose me p v.role es) (pure.step p.members me node (pure.Proposal es))
  unfolding pure_step
  propose_goes es free ends room = propose_matches front me p v.staged k.fits k.unended k.small v.role es k.small_role k.tidy free ends room

  pub up_goes : (q : ℕ) → Matches front me p v.staged (saying v.role (message p.conf q body.PrepareReq ∷ [])) (pure.step p.members me node (pure.Up q))
  unfolding pure_step
  up_goes q = match_saying front me p v.staged v.role _ _ k.small k.small_role (said_one me p.conf q body.PrepareReq pure.PrepareReq refl tt)

  pub down_goes : (q : ℕ) → Matches front me p v.staged (session_down v.role q) (pure.step p.members me node (pure.Down q))
  unfolding pure_step
  down_goes q = down_matches front me p v.staged k.fits k.unended k.small v.role q k.small_role

  pub trim_goes : MatchesTo front me p v.staged (Rattle.op_protocol.specs.Trimming.trim_now me p v.role) (pure.step p.members me node pure.TrimNow)
  unfolding pure_step
  trim_goes = trim_now_matches front me p v.staged k.small v.role k.small_role

  -- ---- a tick
  abbrev IsSame : Volatile → Type 0
  IsSame w = (w.role ≡ v.role) × (w.staged ≡ v.staged) × (w.pieces ≡ v.pieces)

  asked : (w : Volatile) → IsSame w → TickIs front me p v None (only_asks me p w)
  asked w e = record { round = w.round; is = ap (λ (r : Role). saying r (requests me p w.round)) e.0; staged = e.1; pieces = e.2 }

  elected_goes : (w : Volatile) → IsSame w → (n : Ballot) → n.pid ≡ me → TickIs front me p v (elected_ballot p n) (elected me p w n)
  unfolding pure_step
  elected_goes w e n own =
      of_conds (TickIs front me p v) (is_below p.promised n) (Some (rank n)) None (with_effects w (first [] (requests me p w.round) [] (lead me p w.role n))) (only_asks me p w)
      (λ h. record {
        led = record {
          ballot = n;
          round = w.round;
          is = ap (λ (r : Role). first [] (requests me p w.round) [] (lead me p r n)) e.0;
          staged = ap (λ (r : Role). staged_after (lead me p r n).batch w.staged) e.0 ∙ ap (staged_after (lead me p v.role n).batch) e.1;
          pieces = e.2;
          matches = lead_matches front me p v.staged k.fits k.unended k.small v.role n (omega (arith, own, k.me_low)) own h (k.stays_tidy (pure.Elected (rank n)) tt);
        };
        ballot_is = refl;
      })
      (λ _. asked w e)

  verdict_goes : (w : Volatile) → IsSame w → (x : Verdict) → TickIs front me p v (verdict_ballot me p x) (by_verdict me p w x)
  verdict_goes w e verdict.Nobody = asked w e
  verdict_goes w e (verdict.Raised b) = asked w e
  verdict_goes w e (verdict.Elected n) =
      of_conds (TickIs front me p v) (eqb n.pid me) (elected_ballot p n) None (elected me p w n) (only_asks me p w)
      (λ h. elected_goes w e n (eqb-true n.pid me h)) (λ _. asked w e)

  pub tick_goes : asks_some me p v ≡ false → TickIs front me p v (tick_ballot me p v) (on_tick me p v)
  tick_goes none =
      tick_cases (TickIs front me p v (tick_ballot me p v)) me p v (λ _. verdict_goes (begun_at me p v) (refl, refl, refl) (ended_at me p v).verdict)
      (λ some. absurd (both_ways (asks_some me p v) none some))

  -- ---- a tick that heard no majority
  asked_too : AskedToo me p v (also_sending (only_asks me p (begun_at me p v)) (asks_heard me p v.heard))
  asked_too = record { round = (begun_at me p v).round; is = refl; staged = refl; pieces = refl }

  pub alone_goes : asks_some me p v ≡ true → AskedToo me p v (on_tick me p v)
  alone_goes some = tick_cases (AskedToo me p v) me p v (λ none. absurd (both_ways (asks_some me p v) none some)) (λ _. asked_too)

  pub cut_off_goes : Matches front me p v.staged (saying v.role (asks_heard me p v.heard)) (pure.step p.members me node (pure.CutOff (has_replied v.heard)))
  unfolding pure_step
  cut_off_goes = match_saying front me p v.staged v.role _ _ k.small k.small_role (said_broadcast me p.conf (has_replied v.heard) body.PrepareReq pure.PrepareReq refl tt p.members)
