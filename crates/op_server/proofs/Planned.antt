-- What a server's plan does is what the step table plans.
use Rattle.std.proofs.Common.{◌≡◌, ℕ, ◌++◌, Bool, true, false, cond, List, [], map, Option, Some, None, refl, sym, ap, ◌∙◌, subst}
use Rattle.std.specs.Prelude.{option_map}
use Rattle.std.proofs.lemmas.Bool.{both_ways}
use Rattle.op_types.specs.Changes.{durable_after}
use Rattle.op_types.specs.declared.answers.Reply.{Reply}
use Rattle.op_types.specs.declared.events.Input.{Input}
use Rattle.op_types.specs.declared.events.Input.TheVariants as input
use Rattle.op_reads.specs.Reads.{Reads, without_answered}
use Rattle.op_protocol.specs.State.{State, Planned}
use Rattle.op_protocol.specs.Configurations.{latest_of}
use Rattle.op_protocol.specs.Reading.{leading_at, Asking, no_asking, read_confirmed, leads_on, adopted_of, answered_of, given_up_in, asking_by, reading, read_reply, dropped_read, why_given_up}
use Rattle.op_protocol.specs.Rows.{step_plan}
use Rattle.op_protocol.proofs.Unread.{table_unread}
use Rattle.op_chain.specs.Chains as chains
use Rattle.op_chain.specs.Plans as chain_plans
use Rattle.op_chain.specs.Plans.{renewed}
use Rattle.op_chain.specs.declared.chain.Chain.{Chain}
use Rattle.op_chain.specs.declared.chain_plan.ChainPlan.{ChainPlan}
use Rattle.op_chain.specs.declared.renewal.Renewal.{Renewal}
use Rattle.op_server.specs.Answering.{decided_by, kept_reads}
use Rattle.op_server.specs.Asking.{is_read}
use Rattle.op_server.specs.Servers.{state_of}
use Rattle.op_server.specs.declared.server.Server.{Server}
use Rattle.op_server.proofs.Asks.{none_confirmed}
use Rattle.op_server.proofs.Answers.{reading_with}

-- ---- the chain's plan

-- what begins anew has nothing to do with reads, and stores nothing
renewed_reads : (o : Option Renewal) (x : Planned) → (renewed o x).reads ≡ x.reads
renewed_reads None x = refl
renewed_reads (Some r) x = refl

renewed_replies : (o : Option Renewal) (x : Planned) → (renewed o x).read_replies ≡ x.read_replies
renewed_replies None x = refl
renewed_replies (Some r) x = refl

renewed_batch : (o : Option Renewal) (x : Planned) → (renewed o x).batch ≡ x.batch
renewed_batch None x = refl
renewed_batch (Some r) x = refl

pub chain_batch : (c : Chain) (plan : ChainPlan) → (chain_plans.planned_by c plan).batch ≡ plan.plan.batch
chain_batch c plan = renewed_batch plan.renewal _

renewed_sends : (o : Option Renewal) (x : Planned) → (renewed o x).sends ≡ x.sends
renewed_sends None x = refl
renewed_sends (Some r) x = refl

pub chain_sends : (c : Chain) (plan : ChainPlan) → (chain_plans.planned_by c plan).sends ≡ plan.plan.sends
chain_sends c plan = renewed_sends plan.renewal _

-- the step table's plan, from the one of the chain
pub table_here : (s : Server) (x : Input) (plan : ChainPlan) → chain_plans.Plans s.chain x plan
    → step_plan s.chain.me (state_of s) x ≡ reading s.chain.me (state_of s) x (chain_plans.planned_by s.chain plan)
table_here s x plan plans =
    ap (λ (p : Planned). reading s.chain.me (state_of s) x p) (table_unread s.chain.me (chains.state_of s.chain) s.reads x ∙ sym plans.table)

-- ---- a step without reads

option_none : {A : Type 0} (f : A → A) (b : Bool) → (let none : Option A = None in cond b (option_map f none) none ≡ none)
option_none f true = refl
option_none f false = refl

nothing_told : {A B C : Type 0} (f : A → C) (g : B → C) (b : Bool) → (let xs : List A = [] in let ys : List B = [] in let zs : List C = [] in map f (cond b xs []) ++ cond b [] (map g ys) ≡ zs)
nothing_told f g true = refl
nothing_told f g false = refl

-- nothing is asked where no read waits and none comes
asks_nothing : (me : ℕ) (s : State) (x : Input) → s.reads ≡ None → is_read x ≡ false → asking_by me s x ≡ no_asking None
asks_nothing me s (input.Read r) none other = absurd (both_ways true other refl)
asks_nothing me s (input.Deliver q m) none other =
    ap (λ (o : Option Reads). no_asking (read_confirmed me (leading_at s) o q m.conf m.body)) none
    ∙ ap no_asking (none_confirmed me (leading_at s) q m.conf m.body)
asks_nothing me s input.Tick none other = ap no_asking none
asks_nothing me s (input.Commands cs) none other = ap no_asking none
asks_nothing me s (input.Stop members) none other = ap no_asking none
asks_nothing me s input.TrimNow none other = ap no_asking none
asks_nothing me s (input.Up q) none other = ap no_asking none
asks_nothing me s (input.Down q) none other = ap no_asking none

-- a step in which none waits
alone_with : (s : State) (p : Planned) → p.reads ≡ None → p.read_replies ≡ [] → (let t : State = record s { reads = None } in reading_with t (no_asking None) p ≡ p)
alone_with s p unread untold =
    let t : State = record s { reads = None } in
    let b : Bool = leads_on s.volatile.role p.volatile.role in
    let none : Option Reads = None in
    let kept : Option Reads = kept_reads t p None in
    let told : List Reply = map (read_reply p.service) (cond b (answered_of None (decided_by t p) (adopted_of p.volatile.role)) []) ++ given_up_in t p in
    let nobody : told ≡ [] = nothing_told (read_reply p.service) (dropped_read (why_given_up (latest_of s.durable) (durable_after s.durable p.batch).part (durable_after s.durable p.batch).closed)) b in
    ap (λ (o : Option Reads). let q : Planned = record p { reads = o; read_replies = told } in q) (option_none (λ r. without_answered r (decided_by t p) (adopted_of p.volatile.role)) b ∙ sym unread)
    ∙ ap (λ (rs : List Reply). let q : Planned = record p { read_replies = rs } in q) (nobody ∙ sym untold)

-- what the chain plans is what the server does then
pub alone_is : (s : Server) (x : Input) (plan : ChainPlan) → s.reads ≡ None → is_read x ≡ false → chain_plans.Plans s.chain x plan
    → chain_plans.planned_by s.chain plan ≡ step_plan s.chain.me (state_of s) x
alone_is s x plan none other plans =
    let p : Planned = chain_plans.planned_by s.chain plan in
    let t : State = state_of s in
    let unread : p.reads ≡ None = renewed_reads plan.renewal _ in
    let untold : p.read_replies ≡ [] = renewed_replies plan.renewal _ in
    let here : reading_with t (no_asking None) p ≡ p = subst (λ (o : Option Reads). let u : State = record t { reads = o } in reading_with u (no_asking None) p ≡ p) (sym none) (alone_with t p unread untold) in
    sym (table_here s x plan plans
    ∙ ap (λ (a : Asking). reading_with t a p) (asks_nothing s.chain.me t x none other)
    ∙ here)
