-- What the messages inside a configuration carry was proposed there, and ends within the positions.
use Rattle.std.proofs.Common.{ℕ, List, sym, subst}
use Rattle.op_types.specs.declared.log.Entry.{Entry}
use Rattle.op_spec.specs.Machine.{IsAmong}
use Rattle.op_paxos.specs.Messages.{Packet, Msg, Prepare, Promise, PromisePart, AcceptSync, AcceptSyncPart, Accept, Accepted, Decide, PrepareReq, Refuse, Forward, TrimAsk, Progress, Trim}
use Rattle.op_paxos.specs.Agreement.{proposals}
use Rattle.op_paxos.proofs.Validity.{MsgV}
use Rattle.op_paxos.proofs.Carried.{MsgEnds, packets_end, packets_proposed}
use Rattle.op_configurations.specs.Worlds.{run, start, inner_of, machine_of}
use Rattle.op_configurations.proofs.Tale.{inst}
use Rattle.op_configurations.proofs.Book.{all_ok}
use Rattle.op_configurations.specs.Worlds.{Happening}

wider : (P Q : Entry → Type 0) → ((e : Entry) → P e → Q e) → (m : Msg) → MsgV P m → MsgV Q m
wider P Q f (Promise n pm) h = λ e i. f e (h e i)
wider P Q f (PromisePart n part) h = λ e i. f e (h e i)
wider P Q f (AcceptSync n x es) h = λ e i. f e (h e i)
wider P Q f (AcceptSyncPart n part) h = λ e i. f e (h e i)
wider P Q f (Accept n a es) h = λ e i. f e (h e i)
wider P Q f (Forward es) h = λ e i. f e (h e i)
wider P Q f (Prepare n na nl d) h = tt
wider P Q f (Accepted n x) h = tt
wider P Q f (Decide n x) h = tt
wider P Q f PrepareReq h = tt
wider P Q f (Refuse n b) h = tt
wider P Q f (TrimAsk n) h = tt
wider P Q f (Progress n d) h = tt
wider P Q f (Trim x) h = tt

pub carried : (first : List ℕ) (hs : List Happening) (c : ℕ) (m : Packet) → IsAmong (inner_of c (run hs (start first)).soup) m → MsgEnds m.msg × MsgV (λ e. IsAmong ((machine_of first hs).proposed c) e) m.msg
carried first hs c m i =
    let k = all_ok first hs in
    let t = k.tale in
    let j : IsAmong (inst t c).packets m = subst (λ (ps : List Packet). IsAmong ps m) (sym ((k.good).tied c)) i in (
      packets_end (t.members c) (t.events c) m j,
      wider (λ e. IsAmong (proposals (t.events c)) e) (λ e. IsAmong ((machine_of first hs).proposed c) e) (λ e h. ((k.book).fits).proposed c e h) m.msg (packets_proposed (t.members c) (t.events c) m j),
    )
