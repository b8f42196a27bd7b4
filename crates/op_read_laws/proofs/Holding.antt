-- What holds at each moment of a run of the reads that wait, of the questions and confirmations that were sent, and of numbers.
use Rattle.std.proofs.Common.{◌≡◌, ◌<◌, ◌≤◌, ℕ, suc, inl, inr, ⊎_elim, Bool, true, false, cond, eqb, List, [], ◌∷◌, filter, Option, Some, None, refl, sym, ap, ◌∙◌, subst, arith, slice_get}
use Rattle.std.proofs.lemmas.Bool.{cases_lt, false≢true}
use Rattle.op_types.specs.Limits.{positions_end}
use Rattle.op_types.specs.RoleStates.{Leading}
use Rattle.op_types.specs.Roles as role
use Rattle.op_types.specs.declared.ballot.Ballot.{Ballot}
use Rattle.op_types.specs.declared.durable.Part.{Part}
use Rattle.op_types.specs.declared.events.Input.{Input}
use Rattle.op_types.specs.declared.events.Input.TheVariants as input
use Rattle.op_types.specs.declared.messages.Body.{Body}
use Rattle.op_types.specs.declared.messages.Body.TheVariants as body
use Rattle.op_types.specs.declared.messages.Msg.{Msg}
use Rattle.op_types.specs.declared.read.Read.{Read}
use Rattle.op_reads.specs.declared.asked_read.AskedRead.{AskedRead}
use Rattle.op_reads.specs.Reads.{WaitingRead, Reads}
use Rattle.op_spec.specs.Machine.{IsAmong}
use Rattle.op_protocol.specs.State.{State}
use Rattle.op_protocol.specs.Watched.{is_watching}
use Rattle.op_protocol.specs.Reading.{leading_at, reads_at}
use Rattle.op_protocol.proofs.Asked.{leads_is}
use Rattle.op_runs.specs.World as product
use Rattle.op_runs.specs.World.{World, Node, Up, Sent, Deed, Steps, deed_of, node_at}
use Rattle.op_runs.specs.Run.{Execution}
use Rattle.op_runs.specs.Fresh.{ReadAt, Stepping, stepping, Comes, reads_of_leader, taken_at, read_taken}
use Rattle.op_refinement.proofs.View.{Each, rank}
use Rattle.op_read_laws.proofs.Happened.{Acts, Happened, Rested, Observed, Halted, Acted, Begun, happened, delivered_sent}
use Rattle.op_read_laws.proofs.Moments.{Followed, world_at, run_next, run_over, Promises, Leads}
use Rattle.op_laws.proofs.PlainSends.{IsPlain}

some_same : {A : Type 0} (a b : A) → Some a ≡ Some b → a ≡ b
some_same a b e = cc

none_some : {A : Type 0} (a : A) → None ≡ Some a → ⊥
none_some a e = cc

-- what happens at a moment
pub record Moment (r : Followed) (j : ℕ) : Type 0 where
  pub deed : Option Deed
  pub step : Option Stepping
  pub does : Happened (world_at r j) deed step (world_at r (suc j))
  pub sent : (p q : ℕ) (m : Msg) → deed ≡ Some (record { pid = p; doing = Steps (input.Deliver q m) })
      → (i : ℕ) × (slice_get (world_at r j).messages i ≡ Some (record { from = q; to = p; message = m }))

-- a read comes in happening number i, and its node takes it
pub record Came (r : Followed) (x : ReadAt) (i : ℕ) : Type 0 where
  pub happening : product.Happening
  pub is : slice_get r.happenings i ≡ Some happening
  pub comes : Comes x (stepping (world_at r i) happening)

module _ (r : Followed) where
  -- ---- what happens

  abbrev moment_over : (j : ℕ) → slice_get r.happenings j ≡ None → Moment r j
  moment_over j e = record {
    deed = None;
    step = None;
    does = subst (λ (u : World). Happened (world_at r j) None None u) (sym (ap (λ (t : Execution). t.world) (run_over r j e))) (Rested refl refl (λ pid client seq a i. i) refl);
    sent = λ p q m d. absurd (none_some _ d);
  }

  abbrev moment_next : (j : ℕ) (h : product.Happening) → slice_get r.happenings j ≡ Some h → Moment r j
  moment_next j h e = record {
    deed = deed_of (world_at r j).messages h.event.what;
    step = stepping (world_at r j) h;
    does = subst (λ (u : World). Happened (world_at r j) (deed_of (world_at r j).messages h.event.what) (stepping (world_at r j) h) u) (sym (ap (λ (t : Execution). t.world) (run_next r j h e))) (happened (world_at r j) h);
    sent = λ p q m d. delivered_sent (world_at r j).messages h.event.what p q m d;
  }

  -- with the reads that come then
  pub record MomentWith (j : ℕ) : Type 0 where
    pub moment : Moment r j
    pub came : (x : ReadAt) → Comes x moment.step → Came r x j
    pub comes : (x : ReadAt) → Came r x j → Comes x moment.step
    pub is_one : (y : Stepping) → moment.step ≡ Some y → (h : product.Happening) × (slice_get r.happenings j ≡ Some h)
    pub step_is : (h : product.Happening) → slice_get r.happenings j ≡ Some h → moment.step ≡ stepping (world_at r j) h

  pub moment_at : (j : ℕ) → MomentWith j
  moment_at j = by (slice_get r.happenings j) refl
    where
      by : (o : Option product.Happening) → slice_get r.happenings j ≡ o → MomentWith j
      by None e = record { moment = moment_over j e; came = λ x c. absurd c; comes = λ x c. absurd (none_some c.happening (sym e ∙ c.is)); is_one = λ y k. absurd (none_some y k); step_is = λ h is. absurd (none_some h (sym e ∙ is)) }
      by (Some h) e = record {
        moment = moment_next j h e;
        came = λ x c. record { happening = h; is = e; comes = c };
        comes = λ x c. subst (λ (y : product.Happening). Comes x (stepping (world_at r j) y)) (some_same c.happening h (sym c.is ∙ e)) c.comes;
        is_one = λ y k. (h, e);
        step_is = λ g is. ap (stepping (world_at r j)) (some_same h g (sym e ∙ is));
      }

  -- ---- a read that comes

  -- the step that takes a read
  pub record Taken (j : ℕ) (o : Option Deed) (y : Option Stepping) (x : ReadAt) : Type 0 where
    pub acts : Acts (world_at r j) o y (world_at r (suc j))
    pub read : Read
    pub comes : acts.input ≡ input.Read read
    pub part : Part
    pub lead : Leading
    pub leads : leading_at acts.node.state ≡ Some (part, lead)
    pub room : eqb (suc (reads_at acts.node.pid part acts.node.state.reads).count) positions_end ≡ false
    pub is : x ≡ record {
      pid = acts.node.pid;
      conf = part.conf;
      ballot = lead.ballot;
      asked = record { number = suc (reads_at acts.node.pid part acts.node.state.reads).count; read = read };
    }

  acts_taken : (j : ℕ) (o : Option Deed) (y : Option Stepping) (x : ReadAt) (a : Acts (world_at r j) o y (world_at r (suc j))) → IsAmong (read_taken a.node.pid a.node.state a.input) x → Taken j o y x
  acts_taken j o y x a i = by a.input refl i
    where
      of_number : (rd : Read) → a.input ≡ input.Read rd → (p : Part) (l : Leading) → leading_at a.node.state ≡ Some (p, l) → (b : Bool) → eqb (suc (reads_at a.node.pid p a.node.state.reads).count) positions_end ≡ b
          → IsAmong (reads_of_leader a.node.pid (Some (p, l)) (cond b [] (record { number = suc (reads_at a.node.pid p a.node.state.reads).count; read = rd } ∷ []))) x → Taken j o y x
      of_number rd e p l at true room k = absurd k
      of_number rd e p l at false room (inl k) = record { acts = a; read = rd; comes = e; part = p; lead = l; leads = at; room = room; is = sym k }
      of_number rd e p l at false room (inr k) = absurd k

      of_leader : (rd : Read) → a.input ≡ input.Read rd → (q : Option (Part × Leading)) → leading_at a.node.state ≡ q → IsAmong (taken_at a.node.pid q a.node.state.reads rd) x → Taken j o y x
      of_leader rd e None at k = absurd k
      of_leader rd e (Some (p, l)) at k = of_number rd e p l at (eqb (suc (reads_at a.node.pid p a.node.state.reads).count) positions_end) refl k

      by : (z : Input) → a.input ≡ z → IsAmong (read_taken a.node.pid a.node.state z) x → Taken j o y x
      by (input.Read rd) e k = of_leader rd e (leading_at a.node.state) refl k
      by input.Tick e k = absurd k
      by (input.Deliver q m) e k = absurd k
      by (input.Commands cs) e k = absurd k
      by (input.Stop ms) e k = absurd k
      by input.TrimNow e k = absurd k
      by (input.Up q) e k = absurd k
      by (input.Down q) e k = absurd k

  pub taken : (j : ℕ) (m : Moment r j) (x : ReadAt) → Comes x m.step → Taken j m.deed m.step x
  taken j m x c = by m.does
    where
      by : Happened (world_at r j) m.deed m.step (world_at r (suc j)) → Taken j m.deed m.step x
      by (Rested nodes messages lines none) = absurd (subst (Comes x) none c)
      by (Observed nodes q adds lines none) = absurd (subst (Comes x) none c)
      by (Halted h none) = absurd (subst (Comes x) none c)
      by (Begun b none) = absurd (subst (Comes x) none c)
      by (Acted a) = acts_taken j m.deed m.step x a (subst (Comes x) a.steps c)

  -- its node leads
  abbrev pub leads_seat : (j : ℕ) (m : Node) (p : Part) (l : Leading) → node_at (world_at r j).nodes m.pid ≡ Some m → leading_at m.state ≡ Some (p, l) → Leads r j m.pid p.conf (rank l.ballot)
  leads_seat j m p l at leads =
      let k = leads_is m.state.durable.part m.state.durable.joining m.state.volatile.role p l leads in
      record { seat = record { node = m; at = at; part = p; has = k.part; conf = refl }; lead = l; role = k.role; ballot = refl }

  taken_leads : (j : ℕ) (o : Option Deed) (y : Option Stepping) (x : ReadAt) (t : Taken j o y x) → Leads r j x.pid x.conf (rank x.ballot)
  taken_leads j o y x t =
      subst (λ (z : ReadAt). Leads r j z.pid z.conf (rank z.ballot)) (sym t.is) (leads_seat j t.acts.node t.part t.lead t.acts.at t.leads)

  pub came_leads : (x : ReadAt) (i : ℕ) → Came r x i → Leads r i x.pid x.conf (rank x.ballot)
  came_leads x i c = let m = moment_at i in taken_leads i m.moment.deed m.moment.step x (taken i m.moment x (m.comes x c))

  -- ---- what holds at a moment

  -- a member confirms: at a moment from i on, before j, it had the ballot of this rank promised
  pub record Confirmed (c b i j q : ℕ) : Type 0 where
    pub at : ℕ
    pub late : i ≤ at
    pub before : at < j
    pub promises : Promises r at q c b

  -- a read that waits at q, which leads ballot b among these members, came before moment j, and whoever isn't missing confirms
  pub record Waits (j q c : ℕ) (b : Ballot) (members : List ℕ) (w : WaitingRead) : Type 0 where
    pub at : ℕ
    pub before : at < j
    pub came : Came r (record { pid = q; conf = c; ballot = b; asked = w.asked }) at
    pub misses : ℕ → Bool
    pub missing : w.missing ≡ filter misses members
    pub confirmed : (p : ℕ) → IsAmong members p → misses p ≡ false → Confirmed c (rank b) at j p

  -- the reads of a node are those of the ballot that it leads
  pub record AreReads (j : ℕ) (m : Node) (reads : Reads) : Type 0 where
    pub part : Part
    pub has : m.state.durable.part ≡ Some part
    pub lead : Leading
    pub role : m.state.volatile.role ≡ role.Leading lead
    pub me : reads.me ≡ m.pid
    pub members : reads.members ≡ part.members
    pub waits : Each (Waits j m.pid part.conf lead.ballot part.members) reads.waiting

  abbrev pub AllWait : ℕ → Type 0
  AllWait j = (q : ℕ) (m : Node) → node_at (world_at r j).nodes q ≡ Some m → (reads : Reads) → m.state.reads ≡ Some reads → AreReads j m reads

  -- a read of this number came before moment j at the leader of a ballot
  pub record WasAsked (j p c : ℕ) (b : Ballot) (number : ℕ) : Type 0 where
    pub at : ℕ
    pub before : at < j
    pub read : AskedRead
    pub number_is : read.number ≡ number
    pub came : Came r (record { pid = p; conf = c; ballot = b; asked = read }) at

  -- a confirmation was sent where its sender had the ballot promised, after the read of this number came
  pub record Vouched (j q p c : ℕ) (b : Ballot) (number : ℕ) : Type 0 where
    pub at : ℕ
    pub before : at < j
    pub promises : Promises r at q c (rank b)
    pub after : (i : ℕ) (a : AskedRead) → a.number ≡ number → i < j → Came r (record { pid = p; conf = c; ballot = b; asked = a }) i → i ≤ at

  -- a question asks for a read that came; so does a confirmation
  abbrev pub IsTrue : ℕ → ℕ → ℕ → ℕ → Body → Type 0
  IsTrue j q p c (body.Confirm b number) = WasAsked j q c b number
  IsTrue j q p c (body.Confirmed b number) = WasAsked j p c b number × Vouched j q p c b number
  IsTrue j q p c _ = Unit {0}

  abbrev pub SentIsTrue : ℕ → Sent → Type 0
  SentIsTrue j s = IsTrue j s.from s.to s.message.conf s.message.body

  -- who leads the ballot in which a read came still, or does so again, has counted up to its number
  abbrev pub AreCounted : ℕ → Type 0
  AreCounted j = (i : ℕ) (x : ReadAt) → Came r x i → i < j → (l : Leads r j x.pid x.conf (rank x.ballot)) → (reads : Reads) × (l.seat.node.state.reads ≡ Some reads) × (x.asked.number ≤ reads.count)

  pub record Holds (j : ℕ) : Type 0 where
    pub wait : AllWait j
    pub messages : Each (SentIsTrue j) (world_at r j).messages
    pub counted : AreCounted j

  -- ---- a moment later

  pub confirmed_later : (c b i j q : ℕ) → Confirmed c b i j q → Confirmed c b i (suc j) q
  confirmed_later c b i j q k = record { at = k.at; late = k.late; before = omega (arith, k.before); promises = k.promises }

  pub waits_later : (j q c : ℕ) (b : Ballot) (members : List ℕ) (w : WaitingRead) → Waits j q c b members w → Waits (suc j) q c b members w
  waits_later j q c b members w k = record {
    at = k.at;
    before = omega (arith, k.before);
    came = k.came;
    misses = k.misses;
    missing = k.missing;
    confirmed = λ p i e. confirmed_later c (rank b) k.at j p (k.confirmed p i e);
  }

  each_later : (j q c : ℕ) (b : Ballot) (members : List ℕ) (ws : List WaitingRead) → Each (Waits j q c b members) ws → Each (Waits (suc j) q c b members) ws
  each_later j q c b members [] k = tt
  each_later j q c b members (w ∷ ws) k = (waits_later j q c b members w k.0, each_later j q c b members ws k.1)

  pub reads_later : (j : ℕ) (n m : Node) (reads : Reads) → m.state ≡ n.state → m.pid ≡ n.pid → AreReads j n reads → AreReads (suc j) m reads
  reads_later j n m reads same own k = record {
    part = k.part;
    has = ap (λ (s : State). s.durable.part) same ∙ k.has;
    lead = k.lead;
    role = ap (λ (s : State). s.volatile.role) same ∙ k.role;
    me = k.me ∙ sym own;
    members = k.members;
    waits = subst (λ (q : ℕ). Each (Waits (suc j) q k.part.conf k.lead.ballot k.part.members) reads.waiting) (sym own) (each_later j n.pid k.part.conf k.lead.ballot k.part.members reads.waiting k.waits);
  }

  pub asked_later : (j p c : ℕ) (b : Ballot) (number : ℕ) → WasAsked j p c b number → WasAsked (suc j) p c b number
  asked_later j p c b number k = record { at = k.at; before = omega (arith, k.before); read = k.read; number_is = k.number_is; came = k.came }

  -- what is asked now has a new number
  pub new_number : (j : ℕ) → Holds j → (p c : ℕ) (b : Ballot) (number : ℕ) → WasAsked j p c b number → (a : AskedRead) → Came r (record { pid = p; conf = c; ballot = b; asked = a }) j → a.number ≡ number → ⊥
  new_number j h p c b number was a now same =
      let x : ReadAt = record { pid = p; conf = c; ballot = b; asked = a } in
      let m = moment_at j in
      let t = taken j m.moment x (m.comes x now) in
      let n : Node = t.acts.node in
      let lead : Leads r j n.pid t.part.conf (rank t.lead.ballot) = leads_seat j n t.part t.lead t.acts.at t.leads in
      let old : ReadAt = record { pid = n.pid; conf = t.part.conf; ballot = t.lead.ballot; asked = was.read } in
      let early : Came r old was.at = subst (λ (z : ReadAt). Came r (record { pid = z.pid; conf = z.conf; ballot = z.ballot; asked = was.read }) was.at) t.is was.came in
      let counted = h.counted was.at old early was.before lead in
      let count : suc (reads_at n.pid t.part n.state.reads).count ≡ suc (counted.0).count = ap (λ (o : Option Reads). suc (reads_at n.pid t.part o).count) counted.1 in
      absurd (omega (arith, counted.2, count, was.number_is, same, ap (λ (z : ReadAt). z.asked.number) t.is))

  vouched_later : (j : ℕ) → Holds j → (q p c : ℕ) (b : Ballot) (number : ℕ) → WasAsked j p c b number → Vouched j q p c b number → Vouched (suc j) q p c b number
  vouched_later j h q p c b number was k = record {
    at = k.at;
    before = omega (arith, k.before);
    promises = k.promises;
    after = λ i a same lt came.
        ⊎_elim (λ (e : i < j). k.after i a same e came)
        (λ (e : j ≤ i). let now : i ≡ j = omega (arith, e, lt) in
        absurd (new_number j h p c b number was a (subst (Came r (record { pid = p; conf = c; ballot = b; asked = a })) now came) same)) (cases_lt i j);
  }

  pub true_later : (j : ℕ) → Holds j → (q p c : ℕ) (y : Body) → IsTrue j q p c y → IsTrue (suc j) q p c y
  true_later j h q p c (body.Confirm b number) k = asked_later j q c b number k
  true_later j h q p c (body.Confirmed b number) k = (asked_later j p c b number k.0, vouched_later j h q p c b number k.0 k.1)
  true_later j h q p c (body.Watch w) k = tt
  true_later j h q p c (body.HeartbeatRequest x) k = tt
  true_later j h q p c (body.HeartbeatReply x z g) k = tt
  true_later j h q p c (body.Prepare z na nl nd) k = tt
  true_later j h q p c (body.Promise z fa fl fd a es) k = tt
  true_later j h q p c (body.AcceptSync z g es) k = tt
  true_later j h q p c (body.PromisePart z part) k = tt
  true_later j h q p c (body.AcceptSyncPart z part) k = tt
  true_later j h q p c (body.BasePiece x) k = tt
  true_later j h q p c (body.Accept z a es) k = tt
  true_later j h q p c (body.Accepted z g) k = tt
  true_later j h q p c (body.Decide z g) k = tt
  true_later j h q p c body.PrepareReq k = tt
  true_later j h q p c (body.Refuse z g) k = tt
  true_later j h q p c (body.Forward g) k = tt
  true_later j h q p c (body.Forwards g) k = tt
  true_later j h q p c (body.TrimAsk z) k = tt
  true_later j h q p c (body.Progress z g) k = tt
  true_later j h q p c (body.Trim g) k = tt
  true_later j h q p c (body.NextConf members olds len trimmed) k = tt
  true_later j h q p c body.AskBase k = tt
  true_later j h q p c (body.BasePart at bytes) k = tt
  true_later j h q p c (body.AskSegment from to) k = tt
  true_later j h q p c (body.Segment at es) k = tt

  -- what is to an observer says nothing of reads
  pub watch_true : (j q p c : ℕ) (y : Body) → is_watching y ≡ true → IsTrue j q p c y
  watch_true j q p c (body.Watch w) is = tt
  watch_true j q p c _ is = absurd (false≢true is)

  pub plain_true : (j q p c : ℕ) (y : Body) → IsPlain y → IsTrue j q p c y
  plain_true j q p c (body.Confirm b number) k = absurd k
  plain_true j q p c (body.Confirmed b number) k = absurd k
  plain_true j q p c (body.Watch w) k = tt
  plain_true j q p c (body.HeartbeatRequest x) k = tt
  plain_true j q p c (body.HeartbeatReply x z g) k = tt
  plain_true j q p c (body.Prepare z na nl nd) k = tt
  plain_true j q p c (body.Promise z fa fl fd a es) k = tt
  plain_true j q p c (body.AcceptSync z g es) k = tt
  plain_true j q p c (body.PromisePart z part) k = tt
  plain_true j q p c (body.AcceptSyncPart z part) k = tt
  plain_true j q p c (body.BasePiece x) k = tt
  plain_true j q p c (body.Accept z a es) k = tt
  plain_true j q p c (body.Accepted z g) k = tt
  plain_true j q p c (body.Decide z g) k = tt
  plain_true j q p c body.PrepareReq k = tt
  plain_true j q p c (body.Refuse z g) k = tt
  plain_true j q p c (body.Forward g) k = tt
  plain_true j q p c (body.Forwards g) k = tt
  plain_true j q p c (body.TrimAsk z) k = tt
  plain_true j q p c (body.Progress z g) k = tt
  plain_true j q p c (body.Trim g) k = tt
  plain_true j q p c (body.NextConf members olds len trimmed) k = tt
  plain_true j q p c body.AskBase k = tt
  plain_true j q p c (body.BasePart at bytes) k = tt
  plain_true j q p c (body.AskSegment from to) k = tt
  plain_true j q p c (body.Segment at es) k = tt
