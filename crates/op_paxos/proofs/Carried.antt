-- What the messages of a run carry was proposed, and ends within the positions.
use Rattle.std.proofs.Common.{◌≡◌, ◌≤◌, ◌⊎◌, ⊎_elim, ℕ, ◌+◌, ◌-◌, zero, suc, List, [], ◌∷◌, length, take, drop, refl, arith, ap, ◌∙◌}
use Rattle.std.proofs.lemmas.Bool.{cases_lt}
use Rattle.std.proofs.lemmas.List.{length-drop, length-take-le}
use Rattle.op_types.specs.declared.log.Entry.{Entry}
use Rattle.op_types.specs.Limits.{positions_end}
use Rattle.op_spec.specs.Machine.{IsAmong}
use Rattle.op_paxos.specs.Messages.{Msg, Prepare, Promise, PromisePart, AcceptSync, AcceptSyncPart, Accept, Accepted, Decide, PrepareReq, Refuse, Forward, TrimAsk, Progress, Trim, Packet}
use Rattle.op_paxos.specs.Worlds.{Event, run, start}
use Rattle.op_paxos.specs.Agreement.{proposals}
use Rattle.op_paxos.proofs.History.{History, HistoryOk}
use Rattle.op_paxos.proofs.Invariant.{SliceOk, PromOk, MsgOk}
use Rattle.op_paxos.specs.Parts.{told_by}
use Rattle.op_types.proofs.Cuts.{run_within}
use Rattle.op_paxos.proofs.Runs.{run_on, first, start_ok}
use Rattle.op_paxos.proofs.Validity.{MsgV, run_v, start_v}
use Rattle.op_paxos.proofs.Proposals.{all_mine}

-- what a message of the log carries ends within the positions
abbrev pub MsgEnds : Msg → Type 0
MsgEnds (Promise n pm) = pm.start + length pm.rest ≤ positions_end
MsgEnds (PromisePart n part) = part.at + length part.run ≤ positions_end
MsgEnds (AcceptSync n x es) = x + length es ≤ positions_end
MsgEnds (AcceptSyncPart n part) = part.at + length part.run ≤ positions_end
MsgEnds (Accept n a es) = a + length es ≤ positions_end
MsgEnds _ = Unit {0}

drop_beyond : (a : ℕ) (l : List Entry) → length l ≤ a → drop a l ≡ []
drop_beyond zero [] h = refl
drop_beyond zero (x ∷ l) h = absurd (omega (arith, h))
drop_beyond (suc a) [] h = refl
drop_beyond (suc a) (x ∷ l) h = drop_beyond a l (omega (arith, h))

-- what is dropped from a list ends where the list does, or begins behind it
drop_end : (a : ℕ) (l : List Entry) → a ≤ positions_end → length l ≤ positions_end → a + length (drop a l) ≤ positions_end
drop_end a l low short =
    ⊎_elim (λ (h : a ≤ length l). omega (arith, length-drop a l, h, short)) (λ (h : length l ≤ a). omega (arith, ap (λ (k : List Entry). length k) (drop_beyond a l h), low)) (either a (length l))
  where
    either : (a n : ℕ) → (a ≤ n) ⊎ (n ≤ a)
    either a n = ⊎_elim (λ h. Rattle.std.proofs.Common.inl (omega (arith, h))) (λ h. Rattle.std.proofs.Common.inr h) (cases_lt a n)

module _ (ms : List ℕ) (pr ac : ℕ → ℕ) (g : History) (h : HistoryOk ms pr g) where
  slice_end : (n a : ℕ) (es : List Entry) → SliceOk g n a es → a + length es ≤ positions_end
  slice_end n a es s = omega (arith, s.within, h.short n s.led)

  promise_end : (p q n : ℕ) (pm : _) → PromOk ms pr ac g p q n pm → pm.start + length pm.rest ≤ positions_end
  promise_end p q n pm o =
      let size : pm.size ≤ length (g.full pm.round) = omega (arith, (h.voted p pm.round (omega (arith, o.voted))).2, o.voted) in
      let short : length (take pm.size (g.full pm.round)) ≤ positions_end = omega (arith, length-take-le pm.size (g.full pm.round) size, size, h.short pm.round o.led) in
      omega (arith, ap (λ (l : List Entry). length l) o.rest, drop_end pm.start (take pm.size (g.full pm.round)) o.short short)

  msg_ends : (p q : ℕ) (m : Msg) → MsgOk ms pr ac g p q m → MsgEnds m
  msg_ends p q (Promise n pm) o = promise_end p q n pm o
  msg_ends p q (PromisePart n part) o = omega (arith, o.at, run_within o.rest o.place part.run o.run, promise_end p q n (told_by part o.rest) o.whole)
  msg_ends p q (AcceptSync n x es) o = slice_end n x es o.slice
  msg_ends p q (AcceptSyncPart n part) o = omega (arith, o.at, run_within o.rest o.place part.run o.run, slice_end n part.start o.rest (o.whole).slice)
  msg_ends p q (Accept n a es) o = slice_end n a es o
  msg_ends p q (Prepare n na nl d) o = tt
  msg_ends p q (Accepted n x) o = tt
  msg_ends p q (Decide n x) o = tt
  msg_ends p q PrepareReq o = tt
  msg_ends p q (Refuse n b) o = tt
  msg_ends p q (Forward es) o = tt
  msg_ends p q (TrimAsk n) o = tt
  msg_ends p q (Progress n d) o = tt
  msg_ends p q (Trim x) o = tt

-- so it is of every message of a run
pub packets_end : (ms : List ℕ) (events : List Event) (m : Packet) → IsAmong (run ms events start).packets m → MsgEnds m.msg
packets_end ms events m i =
    let a = run_on ms events start first (start_ok ms) in
    msg_ends ms _ _ a.0 (a.1).hist m.from m.to m.msg ((a.1).packets m i)

-- and each entry that it carries was proposed
pub packets_proposed : (ms : List ℕ) (events : List Event) (m : Packet) → IsAmong (run ms events start).packets m → MsgV (λ e. IsAmong (proposals events) e) m.msg
packets_proposed ms events m i = (run_v (λ e. IsAmong (proposals events) e) ms events start (all_mine events (λ e. IsAmong (proposals events) e) (λ e j. j)) (start_v (λ e. IsAmong (proposals events) e))).packets m i
