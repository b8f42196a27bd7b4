-- What an input does to the reads, as code finds it out.
use Rattle.std.proofs.Common.{◌≡◌, ℕ, ◌==◌, ◌&&◌, Bool, true, false, not, cond, eqb, List, Option, Some, None, refl, sym, ◌∙◌, subst}
use Rattle.std.specs.Prelude.{IfSome, nat_eq}
use Rattle.std.specs.Set.{is_member}
use Rattle.std.proofs.lemmas.Bool.{and_parts}
use Rattle.op_types.specs.Ballots.{is_same_ballot}
use Rattle.op_types.specs.Ranges.{IsMember}
use Rattle.op_types.specs.RoleStates as state
use Rattle.op_types.specs.Rooms.{part_with_room}
use Rattle.op_types.specs.declared.durable.Part.{Part}
use Rattle.op_types.specs.declared.messages.Body.{Body}
use Rattle.op_types.specs.declared.messages.Body.TheVariants as body
use Rattle.op_quorum.proofs.Meeting.{member_passing}
use Rattle.op_protocol.specs.State.{State}
use Rattle.op_protocol.specs.Parts.{others}
use Rattle.op_protocol.specs.Reading.{leading_at, read_confirmed}
use Rattle.op_protocol.proofs.Asked as asked
use Rattle.op_chain.specs.declared.lead.Lead.{Lead}
use Rattle.op_server.specs.Asking.{Leads}

-- ---- a confirmation that comes

cond_same : {A : Type 0} (b : Bool) (x : A) → cond b x x ≡ x
cond_same true x = refl
cond_same false x = refl

-- of reads that nobody asked
pub none_confirmed : (me : ℕ) (o : Option (Part × state.Leading)) (q c : ℕ) (b : Body) → read_confirmed me o None q c b ≡ None
none_confirmed me (Some (p, l)) q c (body.Confirmed n number) = cond_same (c == p.conf && (is_member nat_eq (others me p.members) q && is_same_ballot n l.ballot)) None
none_confirmed me o q c b = refl

member_of_others : (me : ℕ) (members : List ℕ) (q : ℕ) → is_member nat_eq (others me members) q ≡ true → IsMember members q
member_of_others me members q is = (and_parts (is_member nat_eq members q) (not (eqb q me)) (sym (member_passing (λ p. not (eqb p me)) members q) ∙ is)).0

-- who confirms is a member of the part
pub is_member_there : (s : State) (p : Part) (k : Lead) → Leads p k (leading_at s) → (me q : ℕ) (members : List ℕ) → members ≡ p.members → is_member nat_eq (others me members) q ≡ true → IfSome s.durable.part (λ x. IsMember x.members q)
is_member_there s p k leads me q members same is =
    let here = asked.leads_is s.durable.part s.durable.joining s.volatile.role (part_with_room 0 p) leads.leading leads.is in
    subst (λ (o : Option Part). IfSome o (λ x. IsMember x.members q)) (sym here.part) (subst (λ (ms : List ℕ). IsMember ms q) same (member_of_others me members q is))
