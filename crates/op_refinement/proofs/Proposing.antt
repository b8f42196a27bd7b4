-- A proposal that the table doesn't refuse, the pure machine doesn't refuse.
use Rattle.std.proofs.Common.{◌≡◌, ◌<◌, ◌≤◌, ℕ, ◌+◌, Bool, true, false, not, cond, ◌&&◌, ◌||◌, eqb, ltb, leb, is_some, nat_eq, List, [], ◌∷◌, ◌++◌, length, Option, Some, None, refl, sym, ap, ◌∙◌, subst, arith}
use Rattle.std.proofs.lemmas.Bool.{cond_both, both_ways, or_parts, lt-ltb, and_parts, leb-true, le-ltb, eqb-false, ne_eqb, eqb-true}
use Rattle.op_types.specs.Ballots.{no_ballot, is_same_ballot}
use Rattle.op_types.specs.Changes.{len_of}
use Rattle.op_types.specs.Limits.{positions_end}
use Rattle.op_types.specs.Roles as role
use Rattle.op_types.specs.Roles.{Role}
use Rattle.op_types.specs.declared.answers.Refusal.{Refusal}
use Rattle.op_types.specs.declared.answers.Refusal.TheVariants as refusal
use Rattle.op_types.specs.declared.durable.Part.{Part}
use Rattle.op_types.specs.declared.durable.Joining.{Joining}
use Rattle.op_types.specs.declared.durable.Durable.{Durable}
use Rattle.op_types.specs.declared.log.Entry.{Entry}
use Rattle.op_protocol.specs.Parts.{pending, is_admitted}
use Rattle.op_protocol.specs.Rows.{is_idle, knows_no_leader, open_refusal, part_refusal, pending_at, refusal_after, refusal_of}
use Rattle.op_paxos.specs.Logs.{has_stop}
use Rattle.op_paxos.specs.Nodes.{owner}
use Rattle.op_configurations.specs.Servers as server
use Rattle.op_refinement.proofs.Pure as pure
use Rattle.op_refinement.proofs.View.{rank, is_same-rank, owner-rank, whole_log, node_of, view_role}
use Rattle.op_protocol.specs.State.{Volatile}
use Rattle.op_refinement.proofs.Logs.{len_of-whole, pending-whole}
use Rattle.op_refinement.proofs.PartRows.{IsKnown}

some_none : {A : Type 0} (a : A) → Some a ≡ None → ⊥
some_none a e = cc

-- what a proposal meets that nothing refuses
pub record Unrefused (me : ℕ) (r : Role) (p : Part) (es : List Entry) : Type 0 where
  pub free : pending p ≡ None
  pub room : leb (len_of p + length es) positions_end ≡ true
  pub leader : knows_no_leader me r p ≡ false

open_of : (me : ℕ) (r : Role) (p : Part) (es : List Entry) → pending p ≡ None → open_refusal me r p es ≡ None → Unrefused me r p es
open_of me r p es free h =
    cond_both (knows_no_leader me r p) (Some refusal.NoLeader) (cond (is_admitted p (len_of p) es) None (Some refusal.PositionsEnd)) (λ (o : Option Refusal). o ≡ None → Unrefused me r p es)
    (λ _ k. absurd (some_none refusal.NoLeader k))
    (λ no. cond_both (is_admitted p (len_of p) es) None (Some refusal.PositionsEnd) (λ (o : Option Refusal). o ≡ None → Unrefused me r p es)
    (λ place k. record { free = free; room = (and_parts (leb (len_of p + length es) positions_end) _ place).0; leader = no })
    (λ _ k. absurd (some_none refusal.PositionsEnd k)))
    h

-- the same at a node, which has a part and joins nothing
pub unrefused : (me : ℕ) (r : Role) (d : Durable) (e : List Entry) → refusal_of me r d e ≡ None → (p : Part) → d.part ≡ Some p → Unrefused me r p e × (d.joining ≡ None)
unrefused me r d e h p has =
    by (pending p) refl d.joining refl (subst (λ (o : Option Part). refusal_after me r (record d { part = o }) e (pending_at o d.closed) ≡ None) has h)
  where
    by : (o : Option ℕ) → pending p ≡ o → (j : Option Joining) → d.joining ≡ j → refusal_after me r (record d { part = Some p }) e (pending p) ≡ None → Unrefused me r p e × (d.joining ≡ None)
    by (Some pos) free j at k = absurd (some_none (refusal.PendingStop pos) (sym (ap (refusal_after me r (record d { part = Some p }) e) free) ∙ k))
    by None free None at k = (open_of me r p e free (sym (ap (refusal_after me r (record d { part = Some p }) e) free ∙ ap (λ (o : Option Joining). part_refusal me r (Some p) o e) at) ∙ k), at)
    by None free (Some j) at k = absurd (some_none refusal.NoLeader (sym (ap (refusal_after me r (record d { part = Some p }) e) free ∙ ap (λ (o : Option Joining). part_refusal me r (Some p) o e) at) ∙ k))

idle_same : (r : Role) → is_idle r ≡ server.is_idle (view_role r)
idle_same role.Idle = refl
idle_same (role.Preparing k) = refl
idle_same (role.Leading l) = refl

-- the pure machine takes it
pub may_propose : (packets : List pure.Packet) (me : ℕ) (front : List Entry) (p : Part) (v : Volatile) (es : List Entry) → IsKnown packets me front p v → pure.stops_early es ≡ false → Unrefused me v.role p es → server.may_propose_in me (node_of front p v) es ≡ true
may_propose packets me front p v es k ends u =
    let r : Role = v.role in
    let n = or_parts (is_same_ballot p.promised no_ballot) (eqb p.promised.pid me && is_idle r) u.leader in
    let zero_rank : is_same_ballot p.promised no_ballot ≡ eqb (rank p.promised) 0 = is_same-rank p.promised no_ballot (k.small).0 (omega arith) in
    let some : ltb 0 (rank p.promised) ≡ true = lt-ltb 0 (rank p.promised) (above (eqb-false (rank p.promised) 0 (sym zero_rank ∙ n.0))) in
    let own : (eqb (owner (rank p.promised)) me && server.is_idle (view_role r)) ≡ false =
    ap (λ (q : ℕ). eqb q me && server.is_idle (view_role r)) (owner-rank p.promised (k.small).0) ∙ ap (λ (b : Bool). eqb p.promised.pid me && b) (sym (idle_same r)) ∙ n.1 in
    let stop : has_stop (whole_log front p) ≡ false = sym (pending-whole front p.trimmed p.tail.items k.unended k.tidy) ∙ ap is_some u.free in
    let room : ltb positions_end (length (whole_log front p) + length es) ≡ false = le-ltb positions_end (length (whole_log front p) + length es) (omega (arith, leb-true (len_of p + length es) positions_end u.room, len_of-whole front p k.fits)) in
    ap (λ (b : Bool). not (b || (pure.stops_early es || ltb positions_end (length (whole_log front p) + length es))) && (ltb 0 (rank p.promised) && not (eqb (owner (rank p.promised)) me && server.is_idle (view_role r)))) stop
    ∙ ap (λ (b : Bool). not (b || ltb positions_end (length (whole_log front p) + length es)) && (ltb 0 (rank p.promised) && not (eqb (owner (rank p.promised)) me && server.is_idle (view_role r)))) ends
    ∙ ap (λ (b : Bool). not b && (ltb 0 (rank p.promised) && not (eqb (owner (rank p.promised)) me && server.is_idle (view_role r)))) room
    ∙ ap (λ (b : Bool). b && not (eqb (owner (rank p.promised)) me && server.is_idle (view_role r))) some ∙ ap (λ (b : Bool). not b) own
  where
    above : {n : ℕ} → (n ≡ 0 → ⊥) → 0 < n
    above {n} h = Rattle.std.proofs.Common.⊎_elim (λ (e : n ≡ 0). absurd (h e)) (Rattle.std.proofs.Common.⊎_elim (λ (l : n < 0). omega (arith, l)) (λ (l : 0 < n). l)) (Rattle.std.proofs.lemmas.Bool.cases_order n 0)
