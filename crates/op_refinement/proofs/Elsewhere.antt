-- Whatever comes to a node that joins nothing, and isn't of its part's run, is a letter that comes to the server.
use Rattle.std.proofs.Common.{◌≡◌, ◌≤◌, ◌⊎◌, inl, inr, ℕ, Bool, true, false, not, cond, ◌&&◌, eqb, ltb, is_some, List, [], length, Option, Some, None, refl, sym, ap, ◌∙◌, subst, arith}
use Rattle.std.proofs.lemmas.Bool.{both_ways, and_parts, ltb-true, ltb-false}
use Rattle.op_types.specs.declared.durable.Part.{Part as StoredPart}
use Rattle.op_types.specs.declared.durable.Joining.{Joining as StoredJoining}
use Rattle.op_types.specs.declared.events.Input.TheVariants as input
use Rattle.op_types.specs.declared.log.Entry.{Entry}
use Rattle.op_types.specs.declared.messages.Body.{Body}
use Rattle.op_types.specs.declared.messages.Body.TheVariants as body
use Rattle.op_types.specs.declared.messages.Msg.{Msg}
use Rattle.op_protocol.specs.State as table
use Rattle.op_protocol.specs.State.{PartStep, Planned}
use Rattle.op_protocol.specs.Tick.{remembering}
use Rattle.op_protocol.specs.Configurations.{latest_of}
use Rattle.op_protocol.specs.Joining.{brought_to}
use Rattle.op_protocol.specs.Rows.{is_of_joining, may_be_above, on_older, on_newer, on_latest, message_at, message_step, brought_by, plan_of, step_bringing, table_plan}
use Rattle.op_configurations.specs.Servers as server
use Rattle.op_configurations.specs.Servers.{Closed, Joining, State, Letter, Fate, Stepped, says, unchanged}
use Rattle.op_refinement.proofs.Pure as pure
use Rattle.op_refinement.proofs.View.{view_body}
use Rattle.op_refinement.proofs.Relation.{IsSaid, IsLetter, StepRel}
use Rattle.op_refinement.proofs.Inputs.{NodeFacts, WholeAfter, counts_at, is_past, long_in, delivery_event, step_by}
use Rattle.op_refinement.proofs.Delivers.{latest_inner}
use Rattle.op_refinement.proofs.Others.{ahead_same, latest_is, older_rel, newer_rel}
use Rattle.op_refinement.proofs.Outside.{Joins, run_rel, outside_rel}
use Rattle.op_protocol.specs.Watched.{is_watching}
use Rattle.op_refinement.proofs.Watching.{member_row}

none_some : {A : Type 0} (a : A) → None ≡ Some a → ⊥
none_some a e = cc

some_is : (a b : pure.Msg) → Some a ≡ Some b → a ≡ b
some_is a b e = cc

pub not_so : (b : Bool) → not b ≡ true → b ≡ false
not_so true e = absurd (both_ways false refl e)
not_so false e = refl

-- a message of a run says so, or is one of configuration 0, that does nothing
said_or : (lists : ℕ → List Entry) (conf : ℕ) (b : Body) (y : server.Body) (x : pure.Msg) → view_body b ≡ Some x → IsSaid lists conf b y → (y ≡ server.Inner x) ⊎ (y ≡ server.HeartbeatReply)
said_or lists conf (body.Prepare z na nl nd) y x e i = inl (i.2 ∙ ap server.Inner (some_is i.0 x (sym i.1 ∙ e)))
said_or lists conf (body.Promise z fa fl fd a es) y x e i = inl (i.2 ∙ ap server.Inner (some_is i.0 x (sym i.1 ∙ e)))
said_or lists conf (body.AcceptSync z g es) y x e i = inl (i.2 ∙ ap server.Inner (some_is i.0 x (sym i.1 ∙ e)))
said_or lists conf (body.PromisePart z part) y x e i = inl (i.2 ∙ ap server.Inner (some_is i.0 x (sym i.1 ∙ e)))
said_or lists conf (body.AcceptSyncPart z part) y x e i = inl (i.2 ∙ ap server.Inner (some_is i.0 x (sym i.1 ∙ e)))
said_or lists conf (body.Accept z a es) y x e i = inl (i.2 ∙ ap server.Inner (some_is i.0 x (sym i.1 ∙ e)))
said_or lists conf (body.Accepted z g) y x e i = inl (i.2 ∙ ap server.Inner (some_is i.0 x (sym i.1 ∙ e)))
said_or lists conf (body.Decide z g) y x e i = inl (i.2 ∙ ap server.Inner (some_is i.0 x (sym i.1 ∙ e)))
said_or lists conf (body.Refuse z g) y x e i = inl (i.2 ∙ ap server.Inner (some_is i.0 x (sym i.1 ∙ e)))
said_or lists conf (body.Forward g) y x e i = inl (i.2 ∙ ap server.Inner (some_is i.0 x (sym i.1 ∙ e)))
said_or lists conf (body.Forwards g) y x e i = inl (i.2 ∙ ap server.Inner (some_is i.0 x (sym i.1 ∙ e)))
said_or lists conf (body.TrimAsk z) y x e i = inl (i.2 ∙ ap server.Inner (some_is i.0 x (sym i.1 ∙ e)))
said_or lists conf (body.Progress z g) y x e i = inl (i.2 ∙ ap server.Inner (some_is i.0 x (sym i.1 ∙ e)))
said_or lists conf (body.Trim g) y x e i = inl (i.2 ∙ ap server.Inner (some_is i.0 x (sym i.1 ∙ e)))
said_or lists conf body.PrepareReq y x e i = by (eqb conf 0) i
  where
    by : (c : Bool) → y ≡ cond c server.HeartbeatReply (server.Inner pure.PrepareReq) → (y ≡ server.Inner x) ⊎ (y ≡ server.HeartbeatReply)
    by true j = inr j
    by false j = inl (j ∙ ap server.Inner (some_is pure.PrepareReq x e))
said_or lists conf (body.HeartbeatRequest r) y x e i = absurd (none_some x e)
said_or lists conf (body.HeartbeatReply r z g) y x e i = absurd (none_some x e)
said_or lists conf (body.Confirm z r) y x e i = absurd (none_some x e)
said_or lists conf (body.Confirmed z r) y x e i = absurd (none_some x e)
said_or lists conf (body.Watch w) y x e i = absurd (none_some x e)
said_or lists conf (body.NextConf members olds len trimmed) y x e i = absurd (none_some x e)
said_or lists conf body.AskBase y x e i = absurd (none_some x e)
said_or lists conf (body.BasePart at bytes) y x e i = absurd (none_some x e)
said_or lists conf (body.BasePiece piece) y x e i = absurd (none_some x e)
said_or lists conf (body.AskSegment from to) y x e i = absurd (none_some x e)
said_or lists conf (body.Segment at es) y x e i = absurd (none_some x e)

-- it isn't of a configuration above the latest
above_not : (b : Body) (x : pure.Msg) → view_body b ≡ Some x → may_be_above b ≡ false
above_not (body.Prepare z na nl nd) x e = refl
above_not (body.Promise z fa fl fd a es) x e = refl
above_not (body.AcceptSync z g es) x e = refl
above_not (body.PromisePart z part) x e = refl
above_not (body.AcceptSyncPart z part) x e = refl
above_not (body.Accept z a es) x e = refl
above_not (body.Accepted z g) x e = refl
above_not (body.Decide z g) x e = refl
above_not (body.Refuse z g) x e = refl
above_not (body.Forward g) x e = refl
above_not (body.Forwards g) x e = refl
above_not (body.TrimAsk z) x e = refl
above_not (body.Progress z g) x e = refl
above_not (body.Trim g) x e = refl
above_not body.PrepareReq x e = refl
above_not (body.HeartbeatRequest r) x e = absurd (none_some x e)
above_not (body.HeartbeatReply r z g) x e = absurd (none_some x e)
above_not (body.Confirm z r) x e = absurd (none_some x e)
above_not (body.Confirmed z r) x e = absurd (none_some x e)
above_not (body.Watch w) x e = absurd (none_some x e)
above_not (body.NextConf members olds len trimmed) x e = absurd (none_some x e)
above_not body.AskBase x e = absurd (none_some x e)
above_not (body.BasePart at bytes) x e = absurd (none_some x e)
above_not (body.BasePiece piece) x e = absurd (none_some x e)
above_not (body.AskSegment from to) x e = absurd (none_some x e)
above_not (body.Segment at es) x e = absurd (none_some x e)

module _ (lists : ℕ → List Entry) (soup : List Letter) (me : ℕ) (f : Fate) (s : table.State) (st : State) (k : NodeFacts lists soup me s st) (q : ℕ) (msg : Msg) (n : ℕ) (m : Letter)
    (is : IsLetter lists (record { from = q; to = me; message = msg }) m) (hj : s.durable.joining ≡ None) (tj : st.joining ≡ None) (low : (c : Closed) → st.closed ≡ Some c → c.trimmed ≤ length c.list)
    (joins : Joins lists soup me f s st k q low n msg.conf)
    (plain : (x : pure.Msg) → view_body msg.body ≡ Some x → msg.conf ≡ latest_of s.durable → s.durable.part ≡ None)
    (counts : (p : StoredPart) → s.durable.part ≡ Some p → msg.conf ≡ p.conf → counts_at p msg.body ≡ true) (short : long_in s.durable msg ≡ None) (votes : is_watching msg.body ≡ false) where
  abbrev Goes : PartStep → Stepped → Type 0
  Goes x o = StepRel lists me f s.durable (plan_of me s s.waiting x) o

  said : IsSaid lists msg.conf msg.body m.body
  said = subst (λ (c : ℕ). IsSaid lists c msg.body m.body) (sym is.conf) is.body

  -- from the latest, or one that may be above it
  takes_rel : (o : Option pure.Msg) → view_body msg.body ≡ o → (may_be_above msg.body ≡ false → msg.conf ≡ latest_of s.durable) → Goes (on_latest me s.durable s.volatile q msg.conf msg.body) (server.takes f me st n q msg.conf m.body)
  unfolding server.takes
  takes_rel None e here = outside_rel lists soup me f s st k q low n msg.conf hj tj joins msg.body m.body e here counts short said
  takes_rel (Some x) e here = by (said_or lists msg.conf msg.body m.body x e said)
    where
      hs : s.durable.part ≡ None
      hs = plain x e (here (above_not msg.body x e))

      row : on_latest me s.durable s.volatile q msg.conf msg.body ≡ message_at me s.durable.part s.volatile q (record { conf = msg.conf; body = msg.body })
      row = latest_inner me s.durable s.volatile q msg.conf msg.body x e

      idle : Goes (message_at me s.durable.part s.volatile q (record { conf = msg.conf; body = msg.body })) (unchanged st)
      idle =
          subst (λ (o : Option StoredPart). Goes (message_at me o s.volatile q (record { conf = msg.conf; body = msg.body })) (unchanged st)) (sym hs)
          (Rattle.op_refinement.proofs.Outside.nothing_rel lists soup me f s st k q low n msg.conf)

      by : (m.body ≡ server.Inner x) ⊎ (m.body ≡ server.HeartbeatReply) → Goes (on_latest me s.durable s.volatile q msg.conf msg.body) (server.takes f me st n q msg.conf m.body)
      by (inl i) =
          subst (λ (y : server.Body). Goes (on_latest me s.durable s.volatile q msg.conf msg.body) (server.takes f me st n q msg.conf y)) (sym i)
          (subst (λ (z : PartStep). Goes z (server.takes f me st n q msg.conf (server.Inner x))) (sym row) (run_rel lists soup me f s st k q low n msg.conf hj tj hs msg.body x))
      by (inr i) =
          subst (λ (y : server.Body). Goes (on_latest me s.durable s.volatile q msg.conf msg.body) (server.takes f me st n q msg.conf y)) (sym i)
          (subst (λ (z : PartStep). Goes z (server.takes f me st n q msg.conf server.HeartbeatReply)) (sym row) idle)

  abbrev is_older : Bool
  is_older = ltb msg.conf (latest_of s.durable)

  abbrev is_newer : Bool
  is_newer = ltb (latest_of s.durable) msg.conf && not (may_be_above msg.body)

  newer_or : (c : Bool) → is_newer ≡ c → is_older ≡ false → WholeAfter lists (cond c (server.seeks f me st q m.body) (server.takes f me st n q msg.conf m.body))
      → Goes (cond c (remembering s.volatile (on_newer s.durable q msg.body)) (on_latest me s.durable s.volatile q msg.conf msg.body)) (cond c (server.seeks f me st q m.body) (server.takes f me st n q msg.conf m.body))
  newer_or true e old w =
      let t = and_parts (ltb (latest_of s.durable) msg.conf) (not (may_be_above msg.body)) e in
      newer_rel lists soup me f s st k q low hj tj msg.conf msg.body m.body (omega (arith, ltb-true (latest_of s.durable) msg.conf t.0)) (not_so (may_be_above msg.body) t.1) said w
  newer_or false e old w = takes_rel (view_body msg.body) refl here
    where
      here : may_be_above msg.body ≡ false → msg.conf ≡ latest_of s.durable
      here b = by (ltb (latest_of s.durable) msg.conf) refl
        where
          by : (c : Bool) → ltb (latest_of s.durable) msg.conf ≡ c → msg.conf ≡ latest_of s.durable
          by true h = absurd (both_ways is_newer e (ap (λ (d : Bool). d && not (may_be_above msg.body)) h ∙ ap (λ (d : Bool). not d) b))
          by false h = omega (arith, ltb-false (latest_of s.durable) msg.conf h, ltb-false msg.conf (latest_of s.durable) old)

  older_or : (c : Bool) → is_older ≡ c → WholeAfter lists (cond c (says st (server.refers me st st.closed q)) (cond is_newer (server.seeks f me st q m.body) (server.takes f me st n q msg.conf m.body)))
      → Goes (cond c (remembering s.volatile (on_older s.durable s.durable.closed q)) (cond is_newer (remembering s.volatile (on_newer s.durable q msg.body)) (on_latest me s.durable s.volatile q msg.conf msg.body)))
      (cond c (says st (server.refers me st st.closed q)) (cond is_newer (server.seeks f me st q m.body) (server.takes f me st n q msg.conf m.body)))
  older_or true e w = older_rel lists soup me f s st k q low
  older_or false e w = newer_or is_newer refl e w

  -- ---- which row it is

  abbrev there : Stepped
  there = cond is_older (says st (server.refers me st st.closed q)) (cond is_newer (server.seeks f me st q m.body) (server.takes f me st n q msg.conf m.body))

  reads_is : server.reads f me st n m ≡ there
  unfolding server.reads
  reads_is =
      ap (λ (o : Option Joining). cond (is_some o && not (server.is_for_joining m.body)) (unchanged st)
      (cond (ltb m.conf (server.latest st)) (says st (server.refers me st st.closed m.from)) (cond (ltb (server.latest st) m.conf && not (server.is_ahead m.body)) (server.seeks f me st m.from m.body) (server.takes f me st n m.from m.conf m.body)))) tj
      ∙ ap (λ (a : ℕ). cond (ltb m.conf (server.latest st)) (says st (server.refers me st st.closed a)) (cond (ltb (server.latest st) m.conf && not (server.is_ahead m.body)) (server.seeks f me st a m.body) (server.takes f me st n a m.conf m.body))) (sym is.from)
      ∙ ap (λ (c : ℕ). cond (ltb c (server.latest st)) (says st (server.refers me st st.closed q)) (cond (ltb (server.latest st) c && not (server.is_ahead m.body)) (server.seeks f me st q m.body) (server.takes f me st n q c m.body))) (sym is.conf)
      ∙ ap (λ (l : ℕ). cond (ltb msg.conf l) (says st (server.refers me st st.closed q)) (cond (ltb l msg.conf && not (server.is_ahead m.body)) (server.seeks f me st q m.body) (server.takes f me st n q msg.conf m.body))) (sym (latest_is lists soup me f s st k q low))
      ∙ ap (λ (b : Bool). cond is_older (says st (server.refers me st st.closed q)) (cond (ltb (latest_of s.durable) msg.conf && not b) (server.seeks f me st q m.body) (server.takes f me st n q msg.conf m.body))) (sym (ahead_same lists msg.conf msg.body m.body said))

  step_is : message_step me s.durable s.volatile q msg ≡ cond is_older (remembering s.volatile (on_older s.durable s.durable.closed q)) (cond is_newer (remembering s.volatile (on_newer s.durable q msg.body)) (on_latest me s.durable s.volatile q msg.conf msg.body))
  step_is = member_row me s.durable s.volatile q msg votes ∙ ap (λ (o : Option StoredJoining). cond (is_some o && not (is_of_joining msg.body)) (remembering s.volatile []) (cond is_older (remembering s.volatile (on_older s.durable s.durable.closed q)) (cond is_newer (remembering s.volatile (on_newer s.durable q msg.body)) (on_latest me s.durable s.volatile q msg.conf msg.body)))) hj

  brings_nothing : brought_by s.durable s.volatile (input.Deliver q msg) ≡ None
  brings_nothing = by is_older
    where
      none_of : (o : Option StoredJoining) → o ≡ None → brought_to o s.volatile.pieces msg.conf msg.body ≡ None
      none_of None x = refl
      none_of (Some j) x = absurd (none_some j (sym x))

      by : (b : Bool) → cond b None (brought_to s.durable.joining s.volatile.pieces msg.conf msg.body) ≡ None
      by true = refl
      by false = none_of s.durable.joining hj

  plan_is : table_plan me s (input.Deliver q msg) ≡ plan_of me s s.waiting (message_step me s.durable s.volatile q msg)
  plan_is = ap (step_bringing me s (input.Deliver q msg)) brings_nothing

  read_rel : WholeAfter lists (server.reads f me st n m) → StepRel lists me f s.durable (table_plan me s (input.Deliver q msg)) (server.reads f me st n m)
  read_rel w =
      subst (λ (o : Stepped). StepRel lists me f s.durable (table_plan me s (input.Deliver q msg)) o) (sym reads_is)
      (subst (λ (pl : Planned). StepRel lists me f s.durable pl there) (sym (plan_is ∙ ap (plan_of me s s.waiting) step_is)) (older_or is_older refl (subst (WholeAfter lists) reads_is w)))

  -- whatever comes there
  pub elsewhere_rel : is_past s.durable.part s.durable.joining msg ≡ false → WholeAfter lists (step_by f me st (delivery_event s n m msg None))
      → StepRel lists me f s.durable (table_plan me s (input.Deliver q msg)) (step_by f me st (delivery_event s n m msg None))
  unfolding server.step
  elsewhere_rel past w =
      subst (λ (b : Bool). WholeAfter lists (step_by f me st (cond b None (Some (server.Reads n m)))) → StepRel lists me f s.durable (table_plan me s (input.Deliver q msg)) (step_by f me st (cond b None (Some (server.Reads n m))))) (sym past)
      read_rel w
