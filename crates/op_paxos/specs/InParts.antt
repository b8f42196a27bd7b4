-- Parts that come one after the other do what the whole message does.
use Rattle.std.specs.Prelude.{◌≡◌, ℕ, ◌+◌, true, List, [], ◌∷◌, length}
use Rattle.op_types.specs.declared.log.Entry.{Entry}
use Rattle.op_spec.specs.Machine.{IsAmong}
use Rattle.op_paxos.specs.Nodes.{Promised, PreparingState, LeadingState, Role, Idle, Preparing, Leading, Node}
use Rattle.op_paxos.specs.Messages.{Msg, Promise, AcceptSync, Packet, packet}
use Rattle.op_paxos.specs.Parts.{promise_messages, sync_messages}
use Rattle.op_paxos.specs.Worlds.{Comes, step, World, Event}
use Rattle.op_paxos.specs.Agreement.{IsPrefix}
use Rattle.op_paxos.specs.Steps.{reached}

-- p's node after these messages from q, one after the other
abbrev pub after_each : List ℕ → ℕ → Node → ℕ → List Msg → Node
after_each members p node q [] = node
after_each members p node q (m ∷ messages) =
    after_each members p (step members p node (Comes q m)).node q messages

-- each of these messages from p to q was sent
abbrev pub WereSent : World → ℕ → ℕ → List Msg → Type 0
WereSent w p q messages = (m : Msg) → IsAmong messages m → IsAmong w.packets (packet p q m)

-- ---- an AcceptSync

-- the round that the whole brings, and at least its log
pub record ComesAsFar (whole parts : Node) : Type 0 where
  pub promised : parts.promised ≡ whole.promised
  pub round : parts.accepted ≡ whole.accepted
  pub log : IsPrefix whole.log parts.log
  pub decided : parts.decided ≡ whole.decided

-- so it is of what brings an AcceptSync, in every run, at every node to which it was sent
abbrev pub SyncInParts : Type 0
SyncInParts =
    (members : List ℕ) (events : List Event) (p q n start : ℕ) (entries : List Entry)
    → let w = reached members events in WereSent w p q (sync_messages n start entries)
    → ComesAsFar (step members q (w.nodes q) (Comes p (AcceptSync n start entries))).node
    (after_each members q (w.nodes q) p (sync_messages n start entries))

-- ---- a promise

-- the same promises are kept, and the same is buffered
pub record PreparesAlike (r s : PreparingState) : Type 0 where
  pub ballot : s.ballot ≡ r.ballot
  pub kept : s.kept ≡ r.kept
  pub buffer : s.buffer ≡ r.buffer

-- the same log is led, and no fewer are synced
pub record LeadsAlike (l k : LeadingState) : Type 0 where
  pub ballot : k.ballot ≡ l.ballot
  pub round : k.round ≡ l.round
  pub size : k.size ≡ l.size
  pub synced : (q : ℕ) → l.synced q ≡ true → k.synced q ≡ true
  pub acked : k.acked ≡ l.acked
  pub reports : k.reports ≡ l.reports

-- the same in its ballot, but for what is staged
abbrev pub IsAlike : Role → Role → Type 0
IsAlike Idle Idle = Unit {0}
IsAlike (Preparing r) (Preparing s) = PreparesAlike r s
IsAlike (Leading l) (Leading k) = LeadsAlike l k
IsAlike _ _ = ⊥

-- all that the whole leaves
pub record IsLeftAlike (whole parts : Node) : Type 0 where
  pub promised : parts.promised ≡ whole.promised
  pub accepted : parts.accepted ≡ whole.accepted
  pub log : parts.log ≡ whole.log
  pub decided : parts.decided ≡ whole.decided
  pub trimmed : parts.trimmed ≡ whole.trimmed
  pub role : IsAlike whole.role parts.role

-- so it is of what brings a promise that tells its log to the end
abbrev pub PromiseInParts : Type 0
PromiseInParts =
    (members : List ℕ) (events : List Event) (q p n : ℕ) (told : Promised)
    → let w = reached members events in told.start + length told.rest ≡ told.size
    → WereSent w q p (promise_messages n told)
    → IsLeftAlike (step members p (w.nodes p) (Comes q (Promise n told))).node
    (after_each members p (w.nodes p) q (promise_messages n told))

-- ---- what is sent whole

-- a promise or an AcceptSync that fits into one message: it alone brings what it tells
abbrev pub Fits : Msg → Type 0
Fits (Promise n told) = promise_messages n told ≡ Promise n told ∷ []
Fits (AcceptSync n start entries) = sync_messages n start entries ≡ AcceptSync n start entries ∷ []
Fits _ = Unit {0}

-- so does each that was ever sent
abbrev pub WholesFit : Type 0
WholesFit =
    (members : List ℕ) (events : List Event) (m : Packet)
    → IsAmong (reached members events).packets m → Fits m.msg
