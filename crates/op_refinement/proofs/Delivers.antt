-- A message inside the part's configuration is a message of its run.
use Rattle.std.proofs.Common.{◌≡◌, ◌<◌, inl, ℕ, Bool, true, false, not, cond, ◌&&◌, ltb, is_some, List, [], Option, Some, None, refl, sym, ap, ◌∙◌, subst, arith, slice_get}
use Rattle.std.specs.Prelude.{IfSome}
use Rattle.std.proofs.lemmas.Bool.{eq-eqb, le-ltb}
use Rattle.op_types.specs.declared.durable.Part.{Part as StoredPart}
use Rattle.op_types.specs.declared.durable.Joining.{Joining as StoredJoining}
use Rattle.op_types.specs.declared.durable.Durable.{Durable}
use Rattle.op_types.specs.declared.events.Input.TheVariants as input
use Rattle.op_types.specs.declared.log.Entry.{Entry}
use Rattle.op_types.specs.declared.messages.Body.{Body}
use Rattle.op_types.specs.declared.messages.Body.TheVariants as body
use Rattle.op_types.specs.declared.messages.Msg.{Msg}
use Rattle.op_protocol.specs.State as table
use Rattle.op_protocol.specs.State.{Volatile, PartStep, Planned}
use Rattle.op_protocol.specs.Parts.{is_admitted_body}
use Rattle.op_protocol.specs.Tick.{remembering}
use Rattle.op_protocol.specs.Configurations.{latest_in as stored_latest_in, latest_of}
use Rattle.op_protocol.specs.Joining.{brought_to}
use Rattle.op_protocol.specs.Rows.{on_body, message_at, is_of_joining, may_be_above, on_latest, message_step, brought_by, plan_of, step_bringing, table_plan}
use Rattle.op_configurations.specs.Servers as server
use Rattle.op_configurations.specs.Servers.{Part, Joining, State, Letter, Fate, Stepped, says, unchanged, acted}
use Rattle.op_configurations.specs.Worlds.{inner_of, place_in}
use Rattle.op_configurations.proofs.PartFacts.{Comable}
use Rattle.op_configurations.proofs.Inside.{inner_place}
use Rattle.op_refinement.proofs.Pure as pure
use Rattle.op_refinement.proofs.View.{node_of, view_body}
use Rattle.op_refinement.proofs.TrimRows.{StepMatches}
use Rattle.op_refinement.proofs.PartRows.{body_matches}
use Rattle.op_refinement.proofs.Relation.{PartRel, all_before, IsSaid, IsLetter, StepRel}
use Rattle.op_refinement.proofs.Inputs.{NodeFacts, counts_at, is_past, delivery_event, step_by, WholeAfter, rest_rel, known_there, acted_there}
use Rattle.op_refinement.proofs.Watching.{member_row, view_plain}

none_some : {A : Type 0} (a : A) → None ≡ Some a → ⊥
none_some a e = cc

some_is : (a b : pure.Msg) → Some a ≡ Some b → a ≡ b
some_is a b e = cc

-- ---- messages with a counterpart

-- a message with a counterpart is a letter with it
said_of : (lists : ℕ → List Entry) (conf : ℕ) (b : Body) (y : server.Body) (m : pure.Msg) → 0 < conf → view_body b ≡ Some m → IsSaid lists conf b y → y ≡ server.Inner m
said_of lists conf (body.HeartbeatRequest r) y m pos e k = absurd (none_some m e)
said_of lists conf (body.HeartbeatReply r n f) y m pos e k = absurd (none_some m e)
said_of lists conf (body.Confirm z r) y m pos e k = absurd (none_some m e)
said_of lists conf (body.Confirmed n r) y m pos e k = absurd (none_some m e)
said_of lists conf (body.Watch w) y m pos e k = absurd (none_some m e)
said_of lists conf (body.Prepare n na nl nd) y m pos e k = k.2 ∙ ap server.Inner (some_is k.0 m (sym k.1 ∙ e))
said_of lists conf (body.Promise n fa fl fd s es) y m pos e k = k.2 ∙ ap server.Inner (some_is k.0 m (sym k.1 ∙ e))
said_of lists conf (body.AcceptSync n x es) y m pos e k = k.2 ∙ ap server.Inner (some_is k.0 m (sym k.1 ∙ e))
said_of lists conf (body.PromisePart n part) y m pos e k = k.2 ∙ ap server.Inner (some_is k.0 m (sym k.1 ∙ e))
said_of lists conf (body.AcceptSyncPart n part) y m pos e k = k.2 ∙ ap server.Inner (some_is k.0 m (sym k.1 ∙ e))
said_of lists conf (body.Accept n a es) y m pos e k = k.2 ∙ ap server.Inner (some_is k.0 m (sym k.1 ∙ e))
said_of lists conf (body.Accepted n x) y m pos e k = k.2 ∙ ap server.Inner (some_is k.0 m (sym k.1 ∙ e))
said_of lists conf (body.Decide n x) y m pos e k = k.2 ∙ ap server.Inner (some_is k.0 m (sym k.1 ∙ e))
said_of lists conf body.PrepareReq y m pos e k =
    k ∙ ap (λ (c : Bool). cond c server.HeartbeatReply (server.Inner pure.PrepareReq)) (Rattle.std.proofs.lemmas.Bool.ne_eqb conf 0 (λ z. omega (arith, z, pos))) ∙ ap server.Inner (some_is pure.PrepareReq m e)
said_of lists conf (body.Refuse n x) y m pos e k = k.2 ∙ ap server.Inner (some_is k.0 m (sym k.1 ∙ e))
said_of lists conf (body.Forward x) y m pos e k = k.2 ∙ ap server.Inner (some_is k.0 m (sym k.1 ∙ e))
said_of lists conf (body.Forwards x) y m pos e k = k.2 ∙ ap server.Inner (some_is k.0 m (sym k.1 ∙ e))
said_of lists conf (body.TrimAsk n) y m pos e k = k.2 ∙ ap server.Inner (some_is k.0 m (sym k.1 ∙ e))
said_of lists conf (body.Progress n x) y m pos e k = k.2 ∙ ap server.Inner (some_is k.0 m (sym k.1 ∙ e))
said_of lists conf (body.Trim x) y m pos e k = k.2 ∙ ap server.Inner (some_is k.0 m (sym k.1 ∙ e))
said_of lists conf (body.NextConf members olds len trimmed) y m pos e k = absurd (none_some m e)
said_of lists conf body.AskBase y m pos e k = absurd (none_some m e)
said_of lists conf (body.BasePart at bytes) y m pos e k = absurd (none_some m e)
said_of lists conf (body.BasePiece piece) y m pos e k = absurd (none_some m e)
said_of lists conf (body.AskSegment from to) y m pos e k = absurd (none_some m e)
said_of lists conf (body.Segment at es) y m pos e k = absurd (none_some m e)

-- such a message is one for the part
pub latest_inner : (me : ℕ) (d : Durable) (v : Volatile) (q c : ℕ) (b : Body) (m : pure.Msg) → view_body b ≡ Some m → on_latest me d v q c b ≡ message_at me d.part v q (record { conf = c; body = b })
latest_inner me d v q c (body.HeartbeatRequest r) m e = refl
latest_inner me d v q c (body.HeartbeatReply r n f) m e = refl
latest_inner me d v q c (body.Confirm z r) m e = refl
latest_inner me d v q c (body.Confirmed n r) m e = refl
latest_inner me d v q c (body.Watch w) m e = refl
latest_inner me d v q c (body.Prepare n na nl nd) m e = refl
latest_inner me d v q c (body.Promise n fa fl fd s es) m e = refl
latest_inner me d v q c (body.AcceptSync n x es) m e = refl
latest_inner me d v q c (body.PromisePart n part) m e = refl
latest_inner me d v q c (body.AcceptSyncPart n part) m e = refl
latest_inner me d v q c (body.Accept n a es) m e = refl
latest_inner me d v q c (body.Accepted n x) m e = refl
latest_inner me d v q c (body.Decide n x) m e = refl
latest_inner me d v q c body.PrepareReq m e = refl
latest_inner me d v q c (body.Refuse n x) m e = refl
latest_inner me d v q c (body.Forward x) m e = refl
latest_inner me d v q c (body.Forwards x) m e = refl
latest_inner me d v q c (body.TrimAsk n) m e = refl
latest_inner me d v q c (body.Progress n x) m e = refl
latest_inner me d v q c (body.Trim x) m e = refl
latest_inner me d v q c (body.NextConf members olds len trimmed) m e = absurd (none_some m e)
latest_inner me d v q c body.AskBase m e = absurd (none_some m e)
latest_inner me d v q c (body.BasePart at bytes) m e = refl
latest_inner me d v q c (body.BasePiece piece) m e = absurd (none_some m e)
latest_inner me d v q c (body.AskSegment from to) m e = absurd (none_some m e)
latest_inner me d v q c (body.Segment at es) m e = refl

-- it counts where it is admitted
counts_inner : (p : StoredPart) (b : Body) (m : pure.Msg) → view_body b ≡ Some m → counts_at p b ≡ is_admitted_body p b
counts_inner p (body.HeartbeatRequest r) m e = refl
counts_inner p (body.HeartbeatReply r n f) m e = refl
counts_inner p (body.Confirm z r) m e = absurd (none_some m e)
counts_inner p (body.Confirmed n r) m e = absurd (none_some m e)
counts_inner p (body.Watch w) m e = absurd (none_some m e)
counts_inner p (body.Prepare n na nl nd) m e = refl
counts_inner p (body.Promise n fa fl fd s es) m e = refl
counts_inner p (body.AcceptSync n x es) m e = refl
counts_inner p (body.PromisePart n part) m e = refl
counts_inner p (body.AcceptSyncPart n part) m e = refl
counts_inner p (body.Accept n a es) m e = refl
counts_inner p (body.Accepted n x) m e = refl
counts_inner p (body.Decide n x) m e = refl
counts_inner p body.PrepareReq m e = refl
counts_inner p (body.Refuse n x) m e = refl
counts_inner p (body.Forward x) m e = refl
counts_inner p (body.Forwards x) m e = refl
counts_inner p (body.TrimAsk n) m e = refl
counts_inner p (body.Progress n x) m e = refl
counts_inner p (body.Trim x) m e = refl
counts_inner p (body.NextConf members olds len trimmed) m e = absurd (none_some m e)
counts_inner p body.AskBase m e = absurd (none_some m e)
counts_inner p (body.BasePart at bytes) m e = refl
counts_inner p (body.BasePiece piece) m e = refl
counts_inner p (body.AskSegment from to) m e = absurd (none_some m e)
counts_inner p (body.Segment at es) m e = refl

module _ (lists : ℕ → List Entry) (soup : List Letter) (me : ℕ) (f : Fate) (s : table.State) (st : State) (k : NodeFacts lists soup me s st) (q : ℕ) (msg : Msg) (n : ℕ) (m : Letter)
    (sent : slice_get soup n ≡ Some m) (is : IsLetter lists (record { from = q; to = me; message = msg }) m) (p : StoredPart) (pt : Part) (hs : s.durable.part ≡ Some p) (ht : st.part ≡ Some pt)
    (r : PartRel (all_before lists pt.conf) p s.volatile pt) (hj : s.durable.joining ≡ None) (tj : st.joining ≡ None) (here : msg.conf ≡ p.conf) (y : pure.Msg) (e : view_body msg.body ≡ Some y) where
  above : 0 < m.conf
  above = omega (arith, is.conf, here, r.conf, k.above pt ht)

  letter_body : m.body ≡ server.Inner y
  letter_body = said_of lists m.conf msg.body m.body y above e is.body

  comable : Comable (inner_of p.conf soup) me (pure.Comes q y)
  comable =
      let at = inner_place soup n m y sent letter_body in (
        place_in m.conf n soup,
        subst (λ (c : ℕ). slice_get (inner_of c soup) (place_in m.conf n soup) ≡ Some (pure.packet q me y)) (sym is.conf ∙ here)
            (at ∙ ap (λ (a : ℕ). Some (pure.packet a m.to y)) (sym is.from) ∙ ap (λ (a : ℕ). Some (pure.packet q a y)) (sym is.to)),
      )

  matches : is_admitted_body p msg.body ≡ true → StepMatches r.front me p s.volatile (on_body me p s.volatile q msg.body) (pure.step p.members me (node_of r.front p s.volatile) (pure.Comes q y))
  matches ok =
      let b = body_matches (inner_of p.conf soup) me r.front p s.volatile (known_there lists soup me f s st k p pt hs ht r) q msg.body is.small ok in
      (subst (λ (o : Option pure.Msg). IfSome o (λ z. Comable (inner_of p.conf soup) me (pure.Comes q z) → StepMatches r.front me p s.volatile (on_body me p s.volatile q msg.body) (pure.step p.members me (node_of r.front p s.volatile) (pure.Comes q z)))) e b) comable

  -- the row of the message
  pub row_rel : is_admitted_body p msg.body ≡ true → WholeAfter lists (acted f me st pt n (pure.Comes q y)) → StepRel lists me f s.durable (plan_of me s s.waiting (on_body me p s.volatile q msg.body)) (acted f me st pt n (pure.Comes q y))
  row_rel ok w = acted_there lists soup me f s st k p pt hs ht r n (pure.Comes q y) comable s.waiting (on_body me p s.volatile q msg.body) (matches ok) (inl (tj, hj)) w

  -- ---- which row it is

  latest_stored : latest_of s.durable ≡ p.conf
  latest_stored = ap (λ (o : Option StoredPart). stored_latest_in o s.durable.closed) hs

  latest_there : server.latest st ≡ p.conf
  latest_there = ap (λ (o : Option Part). server.latest_in o st.closed) ht ∙ sym r.conf

  -- the table comes to the part
  stored_row : message_step me s.durable s.volatile q msg ≡ message_at me (Some p) s.volatile q msg
  stored_row =
      member_row me s.durable s.volatile q msg (view_plain msg.body y e)
      ∙ ap (λ (o : Option StoredJoining). cond (is_some o && not (is_of_joining msg.body)) (remembering s.volatile []) rest) hj
      ∙ ap (λ (b : Bool). cond b (remembering s.volatile (Rattle.op_protocol.specs.Rows.on_older s.durable s.durable.closed q)) (cond (ltb (latest_of s.durable) msg.conf && not (may_be_above msg.body)) (remembering s.volatile (Rattle.op_protocol.specs.Rows.on_newer s.durable q msg.body)) (on_latest me s.durable s.volatile q msg.conf msg.body)))
      (le-ltb msg.conf (latest_of s.durable) (omega (arith, here, latest_stored)))
      ∙ ap (λ (b : Bool). cond (b && not (may_be_above msg.body)) (remembering s.volatile (Rattle.op_protocol.specs.Rows.on_newer s.durable q msg.body)) (on_latest me s.durable s.volatile q msg.conf msg.body))
      (le-ltb (latest_of s.durable) msg.conf (omega (arith, here, latest_stored)))
      ∙ latest_inner me s.durable s.volatile q msg.conf msg.body y e ∙ ap (λ (o : Option StoredPart). message_at me o s.volatile q msg) hs
    where
      rest : PartStep
      rest =
          cond (ltb msg.conf (latest_of s.durable)) (remembering s.volatile (Rattle.op_protocol.specs.Rows.on_older s.durable s.durable.closed q))
          (cond (ltb (latest_of s.durable) msg.conf && not (may_be_above msg.body)) (remembering s.volatile (Rattle.op_protocol.specs.Rows.on_newer s.durable q msg.body)) (on_latest me s.durable s.volatile q msg.conf msg.body))

  brings_nothing : brought_by s.durable s.volatile (input.Deliver q msg) ≡ None
  brings_nothing = by (ltb msg.conf (latest_of s.durable)) ∙ refl
    where
      none_of : (o : Option StoredJoining) → o ≡ None → brought_to o s.volatile.pieces msg.conf msg.body ≡ None
      none_of None x = refl
      none_of (Some j) x = absurd (differ j x)
        where
          differ : (j : StoredJoining) → Some j ≡ None → ⊥
          differ j x = cc

      by : (b : Bool) → cond b None (brought_to s.durable.joining s.volatile.pieces msg.conf msg.body) ≡ None
      by true = refl
      by false = none_of s.durable.joining hj

  plan_is : table_plan me s (input.Deliver q msg) ≡ plan_of me s s.waiting (message_at me (Some p) s.volatile q msg)
  plan_is = ap (step_bringing me s (input.Deliver q msg)) brings_nothing ∙ ap (plan_of me s s.waiting) stored_row

  -- the server comes to its part
  unfolding_reads : server.reads f me st n m ≡ server.inner f me st (Some pt) n m.from m.conf y
  unfolding server.reads server.takes
  unfolding_reads =
      ap (λ (o : Option Joining). cond (is_some o && not (server.is_for_joining m.body)) (unchanged st) rest) tj
      ∙ ap (λ (b : Bool). cond b (says st (server.refers me st st.closed m.from)) (cond (ltb (server.latest st) m.conf && not (server.is_ahead m.body)) (server.seeks f me st m.from m.body) (server.takes f me st n m.from m.conf m.body)))
      (le-ltb m.conf (server.latest st) (omega (arith, is.conf, here, latest_there)))
      ∙ ap (λ (b : Bool). cond (b && not (server.is_ahead m.body)) (server.seeks f me st m.from m.body) (server.takes f me st n m.from m.conf m.body))
      (le-ltb (server.latest st) m.conf (omega (arith, is.conf, here, latest_there)))
      ∙ ap (λ (b : server.Body). server.takes f me st n m.from m.conf b) letter_body ∙ ap (λ (o : Option Part). server.inner f me st o n m.from m.conf y) ht
    where
      rest : Stepped
      rest =
          cond (ltb m.conf (server.latest st)) (says st (server.refers me st st.closed m.from))
          (cond (ltb (server.latest st) m.conf && not (server.is_ahead m.body)) (server.seeks f me st m.from m.body) (server.takes f me st n m.from m.conf m.body))

  server_row : server.reads f me st n m ≡ acted f me st pt n (pure.Comes q y)
  unfolding server.inner
  server_row =
      unfolding_reads ∙ ap (λ (b : Bool). cond b (acted f me st pt n (pure.Comes m.from y)) (unchanged st)) (eq-eqb pt.conf m.conf (omega (arith, is.conf, here, r.conf)))
      ∙ ap (λ (a : ℕ). acted f me st pt n (pure.Comes a y)) (sym is.from)

  -- ---- the step

  -- a message that is admitted
  taken_rel : is_admitted_body p msg.body ≡ true → WholeAfter lists (server.reads f me st n m) → StepRel lists me f s.durable (table_plan me s (input.Deliver q msg)) (server.reads f me st n m)
  taken_rel ok w =
      let row : message_at me (Some p) s.volatile q msg ≡ on_body me p s.volatile q msg.body =
      ap (λ (b : Bool). cond (b && is_admitted_body p msg.body) (on_body me p s.volatile q msg.body) (remembering s.volatile [])) (eq-eqb msg.conf p.conf here)
      ∙ ap (λ (b : Bool). cond b (on_body me p s.volatile q msg.body) (remembering s.volatile [])) ok in
      subst (λ (o : Stepped). StepRel lists me f s.durable (table_plan me s (input.Deliver q msg)) o) (sym server_row)
      (subst (λ (pl : Planned). StepRel lists me f s.durable pl (acted f me st pt n (pure.Comes q y))) (sym (plan_is ∙ ap (plan_of me s s.waiting) row)) (row_rel ok (subst (WholeAfter lists) server_row w)))

  -- one that is past the limits does nothing
  past_rel : is_admitted_body p msg.body ≡ false → StepRel lists me f s.durable (table_plan me s (input.Deliver q msg)) (unchanged st)
  past_rel bad =
      let row : message_at me (Some p) s.volatile q msg ≡ remembering s.volatile [] =
      ap (λ (b : Bool). cond (b && is_admitted_body p msg.body) (on_body me p s.volatile q msg.body) (remembering s.volatile [])) (eq-eqb msg.conf p.conf here)
      ∙ ap (λ (b : Bool). cond b (on_body me p s.volatile q msg.body) (remembering s.volatile [])) bad in
      subst (λ (pl : Planned). StepRel lists me f s.durable pl (unchanged st)) (sym (plan_is ∙ ap (plan_of me s s.waiting) row))
      (rest_rel lists soup me f s st k s.waiting (remembering s.volatile []) refl [] refl tt)

  is_past_here : is_past s.durable.part s.durable.joining msg ≡ not (is_admitted_body p msg.body)
  is_past_here =
      ap (λ (o : Option StoredPart). is_past o s.durable.joining msg) hs ∙ ap (λ (o : Option StoredJoining). is_past (Some p) o msg) hj
      ∙ ap (λ (b : Bool). b && not (counts_at p msg.body)) (eq-eqb msg.conf p.conf here) ∙ ap not (counts_inner p msg.body y e)

  -- a message inside the part's configuration
  pub inner_rel : WholeAfter lists (step_by f me st (delivery_event s n m msg None)) → StepRel lists me f s.durable (table_plan me s (input.Deliver q msg)) (step_by f me st (delivery_event s n m msg None))
  unfolding server.step
  inner_rel w =
      subst (λ (b : Bool). WholeAfter lists (step_by f me st (cond b None (Some (server.Reads n m)))) → StepRel lists me f s.durable (table_plan me s (input.Deliver q msg)) (step_by f me st (cond b None (Some (server.Reads n m))))) (sym is_past_here)
      (by (is_admitted_body p msg.body) refl) w
    where
      by : (b : Bool) → is_admitted_body p msg.body ≡ b → WholeAfter lists (step_by f me st (cond (not b) None (Some (server.Reads n m)))) → StepRel lists me f s.durable (table_plan me s (input.Deliver q msg)) (step_by f me st (cond (not b) None (Some (server.Reads n m))))
      by true ok w = taken_rel ok w
      by false bad w = past_rel bad
