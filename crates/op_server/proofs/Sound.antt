-- Reads that wait stay of the part that the node leads.
use Rattle.std.proofs.Common.{◌≡◌, ℕ, suc, ◌==◌, ◌&&◌, Bool, true, false, cond, eqb, List, Option, Some, None, refl, sym, ap, ◌∙◌, subst}
use Rattle.std.specs.Prelude.{IfSome, option_map, nat_eq, nat_le}
use Rattle.std.specs.Set.{is_member}
use Rattle.std.proofs.lemmas.Bool.{both_ways}
use Rattle.op_types.specs.Limits.{positions_end}
use Rattle.op_types.specs.Ballots.{is_same_ballot}
use Rattle.op_types.specs.Changes.{durable_after}
use Rattle.op_types.specs.RoleStates as state
use Rattle.op_types.specs.Roles.{Role, Idle, role_of}
use Rattle.op_types.specs.declared.ballot.Ballot.{Ballot}
use Rattle.op_types.specs.declared.changes.Change.{Change}
use Rattle.op_types.specs.declared.durable.Part.{Part}
use Rattle.op_types.specs.declared.events.Input.{Input}
use Rattle.op_types.specs.declared.events.Input.TheVariants as input
use Rattle.op_types.specs.declared.messages.Body.{Body}
use Rattle.op_types.specs.declared.messages.Body.TheVariants as body
use Rattle.op_types.specs.declared.plan.Plan.{Plan}
use Rattle.op_types.specs.declared.read.Read.{Read}
use Rattle.op_reads.specs.Reads.{Reads, with_read, with_confirmed, without_answered}
use Rattle.op_protocol.specs.State.{State, Planned}
use Rattle.op_protocol.specs.Parts.{others}
use Rattle.op_protocol.specs.Reading.{leading_at, reads_at, asks_if_numbered, asks_members, read_asked, read_confirmed, asking_by, leads_on, adopted_of, reads_after, Asking}
use Rattle.op_protocol.proofs.Asked as asked
use Rattle.op_instance.specs.Sound.{AreOfOneConf}
use Rattle.op_instance.specs.declared.volatile.Volatile.{Volatile}
use Rattle.op_chain.specs.Chains as chains
use Rattle.op_chain.specs.Plans as chain_plans
use Rattle.op_chain.specs.Plans.{renewed, LeavesWith}
use Rattle.op_chain.specs.declared.chain.Chain.{Chain}
use Rattle.op_chain.specs.declared.chain_plan.ChainPlan.{ChainPlan}
use Rattle.op_chain.specs.declared.renewal.Renewal.{Renewal}
use Rattle.op_server.specs.Answering.{decided_by}
use Rattle.op_server.specs.Servers.{state_of, AreOf, IsSoundServer, IsSame}
use Rattle.op_server.specs.declared.server.Server.{Server}
use Rattle.op_server.proofs.Answers.{unled_after}
use Rattle.op_server.proofs.Planned.{chain_batch}

-- ---- what an input does

by_cond : {A : Type 0} (P : A → Type 0) (b : Bool) (x y : A) → P x → P y → P (cond b x y)
by_cond P true x y h k = h
by_cond P false x y h k = k

members_only : (o : Option Part) (old new : Reads) → new.members ≡ old.members → AreOf o old → AreOf o new
members_only None old new same all = all
members_only (Some p) old new same all = same ∙ all

module _ (o : Option Part) where
  first_of : (me : ℕ) (p : Part) (reads : Option Reads) → o ≡ Some p → IfSome reads (AreOf o) → AreOf o (reads_at me p reads)
  first_of me p None is all = subst (λ (q : Option Part). AreOf q (reads_at me p None)) (sym is) refl
  first_of me p (Some reads) is all = all

  read_of : (reads : Reads) (r : Read) → AreOf o reads → AreOf o (with_read reads r)
  read_of reads r all = members_only o reads (with_read reads r) refl all

  asked_of_part : (me : ℕ) (p : Part) (n : Ballot) (reads : Reads) (r : Read) (old : Option Reads) → AreOf o reads → IfSome old (AreOf o) → IfSome (asks_if_numbered me p n reads r old).reads (AreOf o)
  asked_of_part me p n reads r old here before =
      by_cond (λ (a : Asking). IfSome a.reads (AreOf o)) (eqb (suc reads.count) positions_end) _ (asks_members me p n reads r) before (read_of reads r here)

  confirmed_of : (reads : Option Reads) (number q : ℕ) → IfSome reads (AreOf o) → IfSome (option_map (λ x. with_confirmed x number q) reads) (AreOf o)
  confirmed_of None number q all = tt
  confirmed_of (Some reads) number q all = members_only o reads (with_confirmed reads number q) refl all

  took_of : (me : ℕ) (l : Option (Part × state.Leading)) (reads : Option Reads) (q c : ℕ) (b : Body) → IfSome reads (AreOf o) → IfSome (read_confirmed me l reads q c b) (AreOf o)
  took_of me (Some (p, l)) reads q c (body.Confirmed n number) all =
      by_cond (λ (x : Option Reads). IfSome x (AreOf o)) (c == p.conf && (is_member nat_eq (others me p.members) q && is_same_ballot n l.ballot)) _ reads (confirmed_of reads number q all) all
  took_of me l reads q c b all = all

  answered_of_part : (reads : Option Reads) (decided adopted : ℕ) → IfSome reads (AreOf o) → IfSome (option_map (λ r. without_answered r decided adopted) reads) (AreOf o)
  answered_of_part None decided adopted all = tt
  answered_of_part (Some reads) decided adopted all =
      by_cond (λ (r : Reads). AreOf o r) (nat_le adopted decided) _ reads (members_only o reads _ refl all) all

read_sound : (s : State) (me : ℕ) (l : Option (Part × state.Leading)) (r : Read) → leading_at s ≡ l → IfSome s.reads (AreOf s.durable.part) → IfSome (read_asked me l s.reads r).reads (AreOf s.durable.part)
read_sound s me None r is all = all
read_sound s me (Some (p, l)) r is all =
    let leads = asked.leads_is s.durable.part s.durable.joining s.volatile.role p l is in
    asked_of_part s.durable.part me p l.ballot (reads_at me p s.reads) r s.reads (first_of s.durable.part me p s.reads leads.part all) all

-- the reads that wait when an input has come
pub asked_sound : (me : ℕ) (s : State) (x : Input) → IfSome s.reads (AreOf s.durable.part) → IfSome (asking_by me s x).reads (AreOf s.durable.part)
asked_sound me s (input.Read r) all = read_sound s me (leading_at s) r refl all
asked_sound me s (input.Deliver q m) all = took_of s.durable.part me (leading_at s) s.reads q m.conf m.body all
asked_sound me s input.Tick all = all
asked_sound me s (input.Commands cs) all = all
asked_sound me s (input.Stop members) all = all
asked_sound me s input.TrimNow all = all
asked_sound me s (input.Up q) all = all
asked_sound me s (input.Down q) all = all

-- ---- what a step leaves

moved : (o n : Option Part) (r : Reads) → AreOfOneConf n o → AreOf o r → AreOf n r
moved None n r same all = absurd all
moved (Some p) None r same all = absurd same
moved (Some p) (Some q) r same all = all ∙ sym same.1

moved_all : (o n : Option Part) (reads : Option Reads) → AreOfOneConf n o → IfSome reads (AreOf o) → IfSome reads (AreOf n)
moved_all o n None same all = tt
moved_all o n (Some r) same all = moved o n r same all

-- by what begins anew, if anything does
left_by : (me : ℕ) (s : State) (plan : Plan) (o : Option Renewal) (v : Volatile) (role : Role) (reads : Option Reads) → LeavesWith me s.durable plan o v
    → ((r : Renewal) → o ≡ Some r → role ≡ role_of r.volatile.role) → leads_on s.volatile.role role ≡ true → IfSome reads (AreOf s.durable.part) → IfSome reads (AreOf (durable_after s.durable plan.batch).part)
left_by me s plan None v role reads leaves is leads all = moved_all s.durable.part (durable_after s.durable plan.batch).part reads leaves.step.same all
left_by me s plan (Some r) v role reads leaves is leads all =
    let idle : role ≡ Idle = is r refl ∙ leaves.idle in
    absurd (both_ways (leads_on s.volatile.role role) (ap (λ (q : Role). leads_on s.volatile.role q) idle ∙ unled_after s.volatile.role Idle refl) leads)

role_by : (o : Option Renewal) (x : Planned) (r : Renewal) → o ≡ Some r → (renewed o x).volatile.role ≡ role_of r.volatile.role
role_by o x r is = ap (λ (y : Option Renewal). (renewed y x).volatile.role) is

kept_by : (b : Bool) (reads : Option Reads) (o : Option Part) → (b ≡ true → IfSome reads (AreOf o)) → IfSome (cond b reads None) (AreOf o)
kept_by true reads o all = all refl
kept_by false reads o all = tt

-- the reads that wait after a step
pub kept_sound : (s : Server) (x : Input) (plan : ChainPlan) → chain_plans.Plans s.chain x plan → IsSoundServer s
    → (let p : Planned = chain_plans.planned_by s.chain plan in IfSome (reads_after s.chain.me (state_of s) x p) (AreOf (durable_after (state_of s).durable p.batch).part))
kept_sound s x plan plans sound =
    let p : Planned = chain_plans.planned_by s.chain plan in
    let t : State = state_of s in
    let kept : Option Reads = option_map (λ r. without_answered r (decided_by t p) (adopted_of p.volatile.role)) (asking_by s.chain.me t x).reads in
    kept_by (leads_on t.volatile.role p.volatile.role) kept (durable_after t.durable p.batch).part
    (λ leads.
    let all : IfSome kept (AreOf t.durable.part) = answered_of_part t.durable.part (asking_by s.chain.me t x).reads (decided_by t p) (adopted_of p.volatile.role) (asked_sound s.chain.me t x sound.reads) in
    subst (λ (b : List Change). IfSome kept (AreOf (durable_after t.durable b).part)) (sym (chain_batch s.chain plan))
    (left_by s.chain.me t plan.plan plan.renewal s.chain.volatile p.volatile.role kept plans.after.node (role_by plan.renewal _) leads all))

-- ---- the same server

-- one whose chain has made room
pub same_chain : (old : Server) (c : Chain) → chains.IsSame old.chain c → IsSoundServer old → (let new : Server = record old { chain = c } in IsSame old new)
same_chain old c same sound =
    let new : Server = record old { chain = c } in
    let state : state_of new ≡ state_of old = ap (λ (s : State). let t : State = record s { reads = old.reads } in t) same.state in
    record {
      me = same.me;
      state = state;
      sound = record { chain = same.sound; reads = subst (λ (s : State). IfSome s.reads (AreOf s.durable.part)) (sym state) sound.reads };
    }
