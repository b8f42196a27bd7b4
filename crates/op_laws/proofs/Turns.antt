-- Messages that are sent whole or in parts, as a run and as the pure machine has them.
use Rattle.std.proofs.Common.{◌≡◌, ◌≤◌, ℕ, ◌+◌, Bool, true, false, cond, List, [], ◌∷◌, length, Some, refl, arith}
use Rattle.std.specs.Prelude.{nat_le}
use Rattle.op_types.specs.Cutting.{entries_size, cut, parts_from, whole_or_parts}
use Rattle.op_types.specs.Limits.{most_part_bytes}
use Rattle.op_types.specs.declared.ballot.Ballot.{Ballot}
use Rattle.op_types.specs.declared.log.Entry.{Entry}
use Rattle.op_types.specs.declared.messages.Body.{Body}
use Rattle.op_types.specs.declared.messages.Body.TheVariants as body
use Rattle.op_types.specs.declared.role.Promised.{Promised}
use Rattle.op_protocol.specs.Parts.{sync_run, sync_bodies}
use Rattle.op_runs.specs.World.{World, Happening}
use Rattle.op_paxos.specs.Parts as pure_parts
use Rattle.op_paxos.specs.Parts.{promise_messages, sync_messages}
use Rattle.op_refinement.proofs.Pure as pure
use Rattle.op_refinement.proofs.View.{rank, view_body, view_promise}
use Rattle.op_laws.specs.Exchange.{InTurn, promise_body, run_told, told_bodies}
use Rattle.op_laws.proofs.Sendings.{IsExchanged}

-- the last of what is delivered in turn comes no sooner than the first
pub turn_order : (w : World) (hs : List Happening) (conf i j p q : ℕ) (bs : List Body) → InTurn w hs conf i j p q bs → i ≤ j
turn_order w hs conf i j p q [] t = absurd t
turn_order w hs conf i j p q (b ∷ []) t = omega (arith, t.0)
turn_order w hs conf i j p q (b ∷ (c ∷ bs)) t = omega (arith, (t.1).1, turn_order w hs conf (t.1).0 j p q (c ∷ bs) (t.1).3)

-- ---- the same messages there

-- a message of an exchange, and what it is there
pub record IsViewed (b : Body) (m : pure.Msg) : Type 0 where
  pub view : view_body b ≡ Some m
  pub other : m ≡ pure.PrepareReq → ⊥
  pub kind : IsExchanged b

-- so each of these
abbrev pub AreViewed : List Body → List pure.Msg → Type 0
AreViewed [] [] = Unit {0}
AreViewed (b ∷ bs) (m ∷ ms) = IsViewed b m × AreViewed bs ms
AreViewed bs ms = ⊥

parts_viewed : (part : ℕ → List Entry → Body) (piece : ℕ → List Entry → pure.Msg) → ((at : ℕ) (run : List Entry) → IsViewed (part at run) (piece at run))
    → (at : ℕ) (runs : List (List Entry)) → AreViewed (parts_from part at runs) (parts_from piece at runs)
parts_viewed part piece each at [] = tt
parts_viewed part piece each at (run ∷ runs) = (each at run, parts_viewed part piece each (at + length run) runs)

whole_viewed : (whole : Body) (part : ℕ → List Entry → Body) (m : pure.Msg) (piece : ℕ → List Entry → pure.Msg) → IsViewed whole m → ((at : ℕ) (run : List Entry) → IsViewed (part at run) (piece at run))
    → (at : ℕ) (entries : List Entry) → AreViewed (whole_or_parts whole part at entries) (whole_or_parts m piece at entries)
whole_viewed whole part m piece one each at entries = by (nat_le (entries_size entries) most_part_bytes)
  where
    by : (b : Bool) → AreViewed (cond b (whole ∷ []) (parts_from part at (cut entries))) (cond b (m ∷ []) (parts_from piece at (cut entries)))
    by true = (one, tt)
    by false = parts_viewed part piece each at (cut entries)

no_promise : (n : ℕ) (pm : pure.Promised) → pure.Promise n pm ≡ pure.PrepareReq → ⊥
no_promise n pm e = cc

no_part : (n : ℕ) (r : pure.PromisedRun) → pure.PromisePart n r ≡ pure.PrepareReq → ⊥
no_part n r e = cc

no_sync : (n x : ℕ) (xs : List Entry) → pure.AcceptSync n x xs ≡ pure.PrepareReq → ⊥
no_sync n x xs e = cc

no_sync_part : (n : ℕ) (r : pure.SyncRun) → pure.AcceptSyncPart n r ≡ pure.PrepareReq → ⊥
no_sync_part n r e = cc

-- what brings a promise
pub promise_viewed : (b : Ballot) (k : Promised) → AreViewed (told_bodies b k) (promise_messages (rank b) (view_promise k))
promise_viewed b k =
    whole_viewed (promise_body b k) (λ at run. body.PromisePart b (run_told k at run)) (pure.Promise (rank b) (view_promise k)) (λ at run. pure.PromisePart (rank b) (pure_parts.promised_run (view_promise k) at run))
    (record { view = refl; other = no_promise (rank b) (view_promise k); kind = tt })
    (λ at run. record { view = refl; other = no_part (rank b) (pure_parts.promised_run (view_promise k) at run); kind = tt })
    k.start k.entries

-- what brings an AcceptSync
pub sync_viewed : (b : Ballot) (start : ℕ) (entries : List Entry) → AreViewed (sync_bodies b start entries) (sync_messages (rank b) start entries)
sync_viewed b start entries =
    whole_viewed (body.AcceptSync b start entries) (λ at run. body.AcceptSyncPart b (sync_run start entries at run)) (pure.AcceptSync (rank b) start entries) (λ at run. pure.AcceptSyncPart (rank b) (pure_parts.sync_run start entries at run))
    (record { view = refl; other = no_sync (rank b) start entries; kind = tt })
    (λ at run. record { view = refl; other = no_sync_part (rank b) (pure_parts.sync_run start entries at run); kind = tt })
    start entries
