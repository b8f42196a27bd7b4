-- What is sent whole fits into one message, so that it alone brings what it tells.
use Rattle.std.proofs.Common.{◌≡◌, ℕ, inl, inr, ⊎_elim, ◌⊎◌, List, [], ◌∷◌, length, Bool, true, false, drop, sym, ap, subst, None}
use Rattle.std.specs.Prelude.{if◌then◌else◌}
use Rattle.op_types.specs.declared.log.Entry.{Entry}
use Rattle.op_types.specs.Cutting.{cut, parts_from}
use Rattle.op_spec.specs.Machine.{IsAmong}
use Rattle.op_paxos.specs.Nodes.{Promised, LeadingState, Node}
use Rattle.op_paxos.specs.Messages.{Msg, Prepare, Promise, PromisePart, AcceptSync, AcceptSyncPart, Accept, Accepted, Decide, PrepareReq, Refuse, Forward, TrimAsk, Progress, Trim, Packet, Effect, packet}
use Rattle.op_paxos.specs.Follower.{promise_of}
use Rattle.op_paxos.specs.Leader.{sync_at}
use Rattle.op_paxos.specs.Parts.{promised_run, promise_messages, sync_run, sync_messages}
use Rattle.op_paxos.specs.Worlds.{Input, step, World, Event, stopped, input_of, fate_of, happens, run, start}
use Rattle.op_paxos.specs.Exchange.{is_stopped}
use Rattle.op_paxos.specs.InParts.{Fits, WholesFit}
use Rattle.op_paxos.proofs.SentParts.{in_messages_fit, in_packets}
use Rattle.op_paxos.proofs.Moves.{IsPlain, SyncSent, Came, CameIn, Move, Resting, Tending, Extending, Idling, Promising, Asking, Gathering, Adopting, Taking, Appending, Filling}
use Rattle.op_paxos.proofs.StepMoves.{step_moves}
use Rattle.op_paxos.proofs.EventSteps.{Acts, what_happens, fate_is}
use Rattle.op_paxos.proofs.Membership.{single, in_append}

-- a plain message fits
plain_fits : (m : Msg) → IsPlain m → Fits m
plain_fits (Promise n pm) h = absurd h
plain_fits (AcceptSync n x es) h = absurd h
plain_fits (PromisePart n part) h = tt
plain_fits (AcceptSyncPart n part) h = tt
plain_fits (Prepare n na nl d) h = tt
plain_fits (Accept n a es) h = tt
plain_fits (Accepted n x) h = tt
plain_fits (Decide n x) h = tt
plain_fits PrepareReq h = tt
plain_fits (Refuse n b) h = tt
plain_fits (Forward es) h = tt
plain_fits (TrimAsk n) h = tt
plain_fits (Progress n d) h = tt
plain_fits (Trim x) h = tt

-- what brings a promise
promise_fits : (n : ℕ) (told : Promised) (b : Msg) → IsAmong (promise_messages n told) b → Fits b
promise_fits n told b i = in_messages_fit (λ at run. PromisePart n (promised_run told at run)) Fits (Promise n told) told.start told.rest
    (λ c. ap (λ (t : Bool). if t then Promise n told ∷ [] else parts_from (λ at run. PromisePart n (promised_run told at run)) told.start (cut told.rest)) c) (λ at run r. tt) b i

-- what brings an AcceptSync
sync_fits : (n x : ℕ) (es : List Entry) (b : Msg) → IsAmong (sync_messages n x es) b → Fits b
sync_fits n x es b i = in_messages_fit (λ at run. AcceptSyncPart n (sync_run x es at run)) Fits (AcceptSync n x es) x es
    (λ c. ap (λ (t : Bool). if t then AcceptSync n x es ∷ [] else parts_from (λ at run. AcceptSyncPart n (sync_run x es at run)) x (cut es)) c) (λ at run r. tt) b i

abbrev AllFit : List Packet → Type 0
AllFit ps = (m : Packet) → IsAmong ps m → Fits m.msg

one_fits : (x : Packet) (s : List Packet) → s ≡ x ∷ [] → Fits x.msg → AllFit s
one_fits x s e h m i = single (λ (y : Packet). Fits y.msg) x h m (subst (λ ps. IsAmong ps m) e i)

sent_fits : (p : ℕ) (K : ℕ → Promised → Type 0) (nd : Node) (l : LeadingState) (m : Packet) → IsPlain m.msg ⊎ SyncSent p K nd l m → Fits m.msg
sent_fits p K nd l m (inl h) = plain_fits m.msg h
sent_fits p K nd l m (inr s) = in_packets (λ (y : Packet). Fits y.msg) p s.to (sync_messages l.ballot (sync_at l s.told) (drop (sync_at l s.told) nd.log)) (λ b i. sync_fits l.ballot (sync_at l s.told) (drop (sync_at l s.told) nd.log) b i) m s.is

-- what a step sends
move_fits : (ms : List ℕ) (p : ℕ) (nd : Node) (i : Input) (o : Effect) → Move ms p nd i o → AllFit o.sends
move_fits ms p nd i o (Resting k) m h = plain_fits m.msg (k.plain m h)
move_fits ms p nd i o (Tending k) m h = sent_fits p (λ q pm. Came i q (k.lead).ballot pm) o.node k.next m (k.sends m h)
move_fits ms p nd i o (Extending k) m h = ⊎_elim (λ (z : IsPlain m.msg). plain_fits m.msg z) (λ (z : (q : ℕ) × (m ≡ packet p q (Accept (k.lead).ballot (length nd.log) k.entries))). subst (λ (y : Packet). Fits y.msg) (sym z.1) tt) (k.sends m h)
move_fits ms p nd i o (Idling k) m h = plain_fits m.msg (k.plain m h)
move_fits ms p nd i o (Promising k) m h = in_packets (λ (y : Packet). Fits y.msg) p k.to (promise_messages k.ballot (promise_of nd k.start)) (λ b j. promise_fits k.ballot (promise_of nd k.start) b j) m (subst (λ ps. IsAmong ps m) k.sends h)
move_fits ms p nd i o (Asking k) m h = plain_fits m.msg (k.plain m h)
move_fits ms p nd i o (Gathering k) m h = absurd (subst (λ ps. IsAmong ps m) k.sends h)
move_fits ms p nd i o (Adopting k) m h = sent_fits p (CameIn i nd.role (k.lead).ballot) o.node k.lead m (k.sends m h)
move_fits ms p nd i o (Taking k) m h = one_fits _ o.sends k.sends tt m h
move_fits ms p nd i o (Appending k) m h = one_fits _ o.sends k.sends tt m h
move_fits ms p nd i o (Filling k) m h = ⊎_elim
    (λ (e : o.sends ≡ packet p k.from PrepareReq ∷ []). one_fits _ o.sends e tt m h)
    (λ (e : o.sends ≡ packet p k.from (Accepted nd.promised (length (o.node).log)) ∷ []). one_fits _ o.sends e tt m h) k.sends

fate_fits : (e : Event) (o : Effect) → AllFit o.sends → AllFit (fate_of e o).sends
fate_fits e o h = ⊎_elim
    (λ (x : (is_stopped e ≡ false) × (fate_of e o ≡ o)). subst (λ (y : Effect). AllFit y.sends) (sym x.1) h)
    (λ (x : (is_stopped e ≡ true) × (fate_of e o ≡ stopped o)). subst (λ (y : Effect). AllFit y.sends) (sym x.1) (λ m i. absurd i)) (fate_is e o)

happens_fit : (ms : List ℕ) (w : World) (e : Event) → AllFit w.packets → AllFit (happens ms w e).packets
happens_fit ms w e h =
    ⊎_elim (λ (x : (input_of w e ≡ None) × (happens ms w e ≡ w)). subst (λ (y : World). AllFit y.packets) (sym x.1) h)
    (λ (x : Acts ms w e).
    let o = step ms x.node (w.nodes x.node) x.input in
    subst (λ (y : World). AllFit y.packets) (sym x.now)
    (λ m i. ⊎_elim (λ (a : IsAmong w.packets m). h m a) (λ (a : IsAmong (fate_of e o).sends m). fate_fits e o (move_fits ms x.node (w.nodes x.node) x.input o (step_moves ms x.node (w.nodes x.node) x.input)) m a) (in_append m w.packets (fate_of e o).sends i)))
    (what_happens ms w e)

run_fit : (ms : List ℕ) (es : List Event) (w : World) → AllFit w.packets → AllFit (run ms es w).packets
unfolding run
run_fit ms [] w h = h
run_fit ms (e ∷ es) w h = run_fit ms es (happens ms w e) (happens_fit ms w e h)

start_fit : AllFit start.packets
unfolding start
start_fit m i = absurd i

-- the clause whole
pub wholes_fit : WholesFit
wholes_fit ms es m i = run_fit ms es start start_fit m i
