-- What comes of adopting a server's plan.
use Rattle.std.proofs.Common.{◌≡◌, ℕ, ◌++◌, true, false, List, Option, Some, None, refl, sym, ap, ◌∙◌, subst}
use Rattle.std.specs.Prelude.{IfSome, is_some}
use Rattle.std.proofs.lemmas.Bool.{both_ways}
use Rattle.op_types.specs.Changes.{durable_after}
use Rattle.op_types.specs.declared.answers.Outcome.{Outcome}
use Rattle.op_types.specs.declared.answers.Reply.{Reply}
use Rattle.op_types.specs.declared.durable.Durable.{Durable}
use Rattle.op_types.specs.declared.events.Input.{Input}
use Rattle.op_types.specs.declared.messages.Msg.{Msg}
use Rattle.op_reads.specs.Reads.{Reads}
use Rattle.op_protocol.specs.State.{State, Planned, state_after}
use Rattle.op_protocol.specs.Reading.{outcome_or, reads_after}
use Rattle.op_protocol.specs.Rows.{table_plan, step_plan}
use Rattle.op_chain.specs.Chains as chains
use Rattle.op_chain.specs.Plans as chain_plans
use Rattle.op_chain.specs.declared.chain.Chain.{Chain}
use Rattle.op_chain.specs.declared.chain_plan.ChainPlan.{ChainPlan}
use Rattle.op_chain.specs.declared.given.Given as chain_given
use Rattle.op_server.specs.Asking.{is_read}
use Rattle.op_server.specs.Plans.{with_reading, HasRoomBehind, HasRoomToSend, Plans, given_with, Adopts}
use Rattle.op_server.specs.Servers.{state_of, AreOf, IsSoundServer}
use Rattle.op_types.specs.declared.given.Given.{Given}
use Rattle.op_server.specs.declared.reading.Reading.{Reading}
use Rattle.op_server.specs.declared.server.Server.{Server}
use Rattle.op_server.specs.declared.server_plan.ServerPlan.{ServerPlan}
use Rattle.op_server.proofs.Planned.{alone_is, chain_sends, table_here}
use Rattle.op_server.proofs.Sound.{kept_sound}

-- ---- plans

-- a plan is made of what it is taken apart into
pub made_of : (plan : ServerPlan) (chain : ChainPlan) (reading : Option Reading) → chain ≡ plan.chain → reading ≡ plan.reading → (let q : ServerPlan = record { chain = chain; reading = reading } in q ≡ plan)
made_of plan chain reading a b =
    ap (λ (c : ChainPlan). let q : ServerPlan = record { chain = c; reading = reading } in q) a
    ∙ ap (λ (r : Option Reading). let q : ServerPlan = record { chain = plan.chain; reading = r } in q) b

-- a plan of a step in which no read waits and none comes
pub plans_alone : (s : Server) (x : Input) (chain : ChainPlan) (o : Option Reading) → o ≡ None → IsSoundServer s → s.reads ≡ None → is_read x ≡ false → chain_plans.Plans s.chain x chain
    → (let plan : ServerPlan = record { chain = chain; reading = o } in Plans s x plan)
plans_alone s x chain o none sound unread other plans =
    record {
      sound = sound;
      chain = plans;
      table = ap (λ (r : Option Reading). with_reading r (chain_plans.planned_by s.chain chain)) none ∙ alone_is s x chain unread other plans;
      room = subst (λ (r : Option Reading). HasRoomToSend r chain) (sym none) tt;
    }

-- ---- what is given

module _ (old : Server) (x : Input) (plan : ServerPlan) (plans : Plans old x plan) (new : Chain) (g : chain_given.Given)
    (adopts : chain_plans.Adopts old.chain (table_plan old.chain.me (chains.state_of old.chain) x) new g) where
  -- what the chain plans
  abbrev p : Planned
  p = chain_plans.planned_by old.chain plan.chain

  -- what the server does
  abbrev q : Planned
  q = step_plan old.chain.me (state_of old) x

  chain_adopts : chain_plans.Adopts old.chain p new g
  chain_adopts = subst (λ (t : Planned). chain_plans.Adopts old.chain t new g) (sym plans.chain.table) adopts

  pub sends_are : g.sends ≡ plan.chain.plan.sends
  sends_are = chain_adopts.given.sends ∙ chain_sends old.chain plan.chain

  made_by : (o : Option Reading) → o ≡ plan.reading → with_reading o p ≡ q
  made_by o is = ap (λ (r : Option Reading). with_reading r p) is ∙ plans.table

  reads_are : (reads : Option Reads) → reads ≡ q.reads → IfSome reads (AreOf (durable_after (state_of old).durable p.batch).part)
  reads_are reads is =
      let kept = kept_sound old x plan.chain plans.chain plans.sound in
      let made : q.reads ≡ reads_after old.chain.me (state_of old) x p = ap (λ (t : Planned). t.reads) (table_here old x plan.chain plans.chain) in
      subst (λ (o : Option Reads). IfSome o (AreOf (durable_after (state_of old).durable p.batch).part)) (sym (is ∙ made)) kept

  -- the plan with these reads, of which this is given out
  with_parts : (o : Option Reads) (sends : List (ℕ × Msg)) (told : List Reply) (outcome : Option Outcome) → (let t : Planned = record p { reads = o; sends = sends; read_replies = told; outcome = outcome } in t ≡ q)
      → (let s : Server = record old { chain = new; reads = o } in let h : Given = record { sends = sends; replies = g.replies; read_replies = told; outcome = outcome } in Adopts old q s h)
  with_parts o sends told outcome is =
      let s : Server = record old { chain = new; reads = o } in
      let t : Planned = record p { reads = o; sends = sends; read_replies = told; outcome = outcome } in
      let state : state_of s ≡ state_after (state_of old) t = ap (λ (k : State). let u : State = record k { reads = o } in u) chain_adopts.state in
      let durable : (state_of s).durable ≡ durable_after (state_of old).durable p.batch = ap (λ (k : State). k.durable) state in
      let reads : IfSome o (AreOf (state_of s).durable.part) =
      subst (λ (d : Durable). IfSome o (AreOf d.part)) (sym durable) (reads_are o (ap (λ (u : Planned). u.reads) is)) in
      let made : Adopts old t s (record { sends = sends; replies = g.replies; read_replies = told; outcome = outcome }) = record {
        me = chain_adopts.me;
        state = state;
        sound = record { chain = chain_adopts.sound; reads = reads };
        given = record { sends = refl; replies = chain_adopts.given.replies; read_replies = refl; outcome = refl };
      } in
      subst (λ (u : Planned). Adopts old u s (record { sends = sends; replies = g.replies; read_replies = told; outcome = outcome })) is made

  -- where something comes of reads
  pub adopts_reading : (r : Reading) → Some r ≡ plan.reading → (let s : Server = record old { chain = new; reads = r.reads } in Adopts old q s (given_with r g))
  adopts_reading r is =
      let outcome : Option Outcome = outcome_or r.outcome g.outcome in
      with_parts r.reads (r.asked.items ++ g.sends) r.replies outcome
      (ap (λ (m : List (ℕ × Msg)). let t : Planned = record p { reads = r.reads; sends = r.asked.items ++ m; read_replies = r.replies; outcome = outcome } in t) chain_adopts.given.sends
      ∙ ap (λ (o : Option Outcome). let t : Planned = record p { reads = r.reads; sends = r.asked.items ++ p.sends; read_replies = r.replies; outcome = outcome_or r.outcome o } in t) chain_adopts.given.outcome
      ∙ made_by (Some r) is)

  -- and it takes effect
  pub adopts_some : (o : Option Reading) (mid s : Server) (h : Given) → o ≡ plan.reading → is_some o ≡ true → (let m : Server = record old { chain = new } in mid ≡ m)
      → IfSome o (λ r. let m : Server = record mid { reads = r.reads } in s ≡ m) → IfSome o (λ r. h ≡ given_with r g) → Adopts old q s h
  adopts_some None mid s h is some from reads gives = absurd (both_ways false refl some)
  adopts_some (Some r) mid s h is some from reads gives =
      let same : (let m : Server = record old { chain = new; reads = r.reads } in s ≡ m) = reads ∙ ap (λ (x : Server). let m : Server = record x { reads = r.reads } in m) from in
      subst (λ (k : Given). Adopts old q s k) (sym gives) (subst (λ (x : Server). Adopts old q x (given_with r g)) (sym same) (adopts_reading r is))

  -- there is room behind what is asked
  pub room_there : (o : Option Reading) → o ≡ plan.reading → IfSome o (HasRoomBehind g.sends)
  room_there o is =
      subst (λ (m : List (ℕ × Msg)). IfSome o (HasRoomBehind m)) (sym sends_are) (subst (λ (x : Option Reading). HasRoomToSend x plan.chain) (sym is) plans.room)
