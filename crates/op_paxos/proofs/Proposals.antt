-- Every decided entry was proposed; what passes one test passes a wider one.
use Rattle.std.proofs.Common.{inl, inr, List, [], ◌∷◌, subst}
use Rattle.op_types.specs.declared.log.Entry.{Entry}
use Rattle.op_spec.specs.Machine.{IsAmong}
use Rattle.op_paxos.specs.Nodes.{Role, Idle, Preparing, Leading}
use Rattle.op_paxos.specs.Messages.{Msg, Prepare, Promise, PromisePart, AcceptSync, AcceptSyncPart, Accept, Accepted, Decide, PrepareReq, Refuse, Forward, TrimAsk, Progress, Trim}
use Rattle.op_paxos.specs.Worlds.{World, Event, Leads, Proposes, Delivers, Restarts, Trims, Links, Asks, Unlinks, Stops, run, start}
use Rattle.op_paxos.specs.Agreement.{proposed_by, proposals, Proposed}
use Rattle.op_paxos.proofs.Membership.{in_right}
use Rattle.op_spec.proofs.Safety.{IsAmong-append}
use Rattle.op_paxos.proofs.Validity.{each_take, RoleV, MsgV, WorldV, EventV, valid}

-- what passes one test passes a wider one
module _ (P Q : Entry → Type 0) (wider : (e : Entry) → P e → Q e) where
  role_wider : (r : Role) → RoleV P r → RoleV Q r
  role_wider Idle h = tt
  role_wider (Preparing r) h = record { kept = λ q pm k e i. wider e (h.kept q pm k e i); parts = λ q i e k. wider e (h.parts q i e k); buffer = λ e i. wider e (h.buffer e i) }
  role_wider (Leading l) h = tt

  msg_wider : (m : Msg) → MsgV P m → MsgV Q m
  msg_wider (Promise n pm) h = λ e i. wider e (h e i)
  msg_wider (PromisePart n part) h = λ e i. wider e (h e i)
  msg_wider (AcceptSync n x es) h = λ e i. wider e (h e i)
  msg_wider (AcceptSyncPart n part) h = λ e i. wider e (h e i)
  msg_wider (Accept n a es) h = λ e i. wider e (h e i)
  msg_wider (Forward es) h = λ e i. wider e (h e i)
  msg_wider (Prepare n na nl nd) h = tt
  msg_wider (Accepted n x) h = tt
  msg_wider (Decide n x) h = tt
  msg_wider PrepareReq h = tt
  msg_wider (Refuse n b) h = tt
  msg_wider (TrimAsk n) h = tt
  msg_wider (Progress n d) h = tt
  msg_wider (Trim x) h = tt

  -- a world whose entries pass one test passes a wider one
  pub world_wider : (w : World) → WorldV P w → WorldV Q w
  world_wider w h = record { nodes = λ q. record { log = λ e i. wider e ((h.nodes q).log e i); staged = λ i e k. wider e ((h.nodes q).staged i e k); role = role_wider (w.nodes q).role (h.nodes q).role }; packets = λ m i. msg_wider m.msg (h.packets m i) }

mine : (e : Event) (P : Entry → Type 0) → ((x : Entry) → IsAmong (proposed_by e) x → P x) → EventV P e
mine (Proposes p es) P h = h
mine (Stops e) P h = mine e P h
mine (Leads a b) P h = tt
mine (Delivers a) P h = tt
mine (Restarts a) P h = tt
mine (Trims a) P h = tt
mine (Links a b) P h = tt
mine (Asks a heard) P h = tt
mine (Unlinks a b) P h = tt

pub all_mine : (es : List Event) (P : Entry → Type 0) → ((x : Entry) → IsAmong (proposals es) x → P x) → (e : Event) → IsAmong es e → EventV P e
all_mine [] P h e i = absurd i
all_mine (d ∷ es) P h e (inl i) = subst (λ f. EventV P f) i (mine d P (λ x j. h x (IsAmong-append (proposed_by d) (proposals es) x j)))
all_mine (d ∷ es) P h e (inr i) = all_mine es P (λ x j. h x (in_right x (proposed_by d) (proposals es) j)) e i

-- the clause proposed
pub all_proposed : Proposed
all_proposed ms es p e i =
    valid (λ x. IsAmong (proposals es) x) ms es (all_mine es (λ x. IsAmong (proposals es) x) (λ x j. j)) p e (each_take (λ x. IsAmong ((run ms es start).nodes p).log x) ((run ms es start).nodes p).decided ((run ms es start).nodes p).log (λ x j. j) e i)
