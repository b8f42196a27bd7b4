-- What a client is told at a connection of a command or a read, as the deeds of a run tell: whoever asked
-- last for it is told its answer, once, and each refusal has its cause.
use Rattle.std.specs.Prelude.{◌≡◌, ◌≤◌, ◌++◌, ◌∷◌, [], ℕ, Bool, true, false, List, map, fold, zip, ◌==◌, ◌&&◌, if◌then◌else◌, Option, Some, None}
use Rattle.std.specs.BTreeMap.{is_at}
use Rattle.op_types.specs.declared.answers.Outcome.{Outcome}
use Rattle.op_types.specs.declared.answers.Outcome.TheVariants.{Refused, Asked}
use Rattle.op_types.specs.declared.answers.Refusal.{Refusal}
use Rattle.op_types.specs.declared.answers.Refusal.TheVariants.{StorageFailed}
use Rattle.op_types.specs.declared.answers.Reply.{Reply}
use Rattle.op_types.specs.declared.events.Input.{Input}
use Rattle.op_types.specs.declared.events.Input.TheVariants as input
use Rattle.op_types.specs.declared.given.Given.{Given}
use Rattle.op_types.specs.declared.log.Command.{Command}
use Rattle.op_command.specs.Replies.{said_of}
use Rattle.op_command.specs.declared.reply.ClientReply.{ClientReply}
use Rattle.op_command.specs.declared.said.Said.{Said}
use Rattle.op_command.specs.declared.said.Said.TheVariants as said
use Rattle.op_serving.specs.declared.kind.Kind.TheVariants.{Client}
use Rattle.op_serving.specs.Cores.{Standing, gives, given_again}
use Rattle.op_serving.specs.Fates.{Fate, done, finds, faults, shares, damaged, lost, after_fate}
use Rattle.op_serving.specs.Inputs.{State, Deed, begins, enters}
use Rattle.op_serving.specs.State.{Key, pair_cmp, kind_at}
use Rattle.op_serving.specs.Wire.{client_frame}
use Rattle.op_connections.specs.Waiting.{frames_for}

-- ---- one key at one connection

-- whether it is this client and this number
abbrev pub is_key : Key → Key → Bool
is_key key k = is_at (pair_cmp key) k

-- Whether the connection waits for the answer to the command of this key, and to the read; and what it was
-- told of them, in order.
pub record Due : Type 0 where
  pub command : Bool
  pub read : Bool
  pub told : List Said

abbrev pub nothing_due : Due
nothing_due = record { command = false; read = false; told = [] }

-- it is told this
abbrev pub told_also : List Said → Due → Due
told_also more d = record d { told = d.told ++ more }

-- what it is told of an answer, if it waits
abbrev pub answer_if : Bool → Reply → List Said
answer_if true r = said.Answer r.answer ∷ []
answer_if false r = []

-- an answer to a command, or to a read, is given out: who waits is told, and waits no more
abbrev pub after_reply : Key → Due → Reply → Due
after_reply key d r = if is_key key (r.client, r.seq)
    then record d { command = false; told = d.told ++ answer_if d.command r } else d

abbrev pub after_read_reply : Key → Due → Reply → Due
after_read_reply key d r = if is_key key (r.client, r.seq)
    then record d { read = false; told = d.told ++ answer_if d.read r } else d

abbrev pub after_given : Key → Given → Due → Due
after_given key g d = fold (after_read_reply key) (fold (after_reply key) d g.replies) g.read_replies

-- ---- what was asked for

-- the connections of commands, with their keys
abbrev pub asked_keys : List ℕ → List Command → List (ℕ × Key)
asked_keys who xs = zip who (map (λ x. (x.client, x.seq)) xs)

-- it is told this of each that was asked for at this connection under this key
abbrev pub told_each : ℕ → Key → Said → Due → List (ℕ × Key) → Due
told_each c key what d [] = d
told_each c key what d (p ∷ ps) =
    told_each c key what (if is_key key p.1 && (p.0 == c) then told_also (what ∷ []) d else d) ps

-- these commands wait: who asked for one last, and nobody else
abbrev pub waits_each : ℕ → Key → Due → List (ℕ × Key) → Due
waits_each c key d [] = d
waits_each c key d (p ∷ ps) =
    waits_each c key (if is_key key p.1 then record d { command = p.0 == c } else d) ps

-- commands wait for their answers, where none is refused; else each is told
abbrev pub after_commands : ℕ → Key → List (ℕ × Key) → Option Outcome → Due → Due
after_commands c key ps (Some (Refused why)) d = told_each c key (said.Outcome (Refused why)) d ps
after_commands c key ps o d = waits_each c key d ps

-- a read waits, where the members are asked; else what becomes of it is told
abbrev pub after_read : ℕ → Key → ℕ × Key → Option Outcome → Due → Due
after_read c key p None d = d
after_read c key p (Some Asked) d = if is_key key p.1 then record d { read = p.0 == c } else d
after_read c key p (Some o) d = told_each c key (said.Outcome o) d (p ∷ [])

-- an input of these connections, of which this is told at once
abbrev pub after_asking : ℕ → Key → List ℕ → Input → Option Outcome → Due → Due
after_asking c key who (input.Commands xs) o d = after_commands c key (asked_keys who xs) o d
after_asking c key (e ∷ es) (input.Read r) o d = after_read c key (e, (r.client, r.seq)) o d
after_asking c key who i o d = d

-- an input that wasn't done, for this cause or for want of memory
abbrev pub after_denial : ℕ → Key → List ℕ → Input → Option Refusal → Due → Due
after_denial c key who (input.Commands xs) why d = told_each c key (said_of why) d (asked_keys who xs)
after_denial c key (e ∷ es) (input.Read r) why d =
    told_each c key (said_of why) d ((e, (r.client, r.seq)) ∷ [])
after_denial c key who i why d = d

-- what is told of a failed disk, if it waits
abbrev pub failure_if : Bool → ℕ → List Said
failure_if true k = said.Outcome (Refused (StorageFailed k)) ∷ []
failure_if false k = []

-- a disk failed: who waits is told, and waits no more
abbrev pub after_failure : ℕ → Due → Due
after_failure k d = record {
  command = false;
  read = false;
  told = (d.told ++ failure_if d.command k) ++ failure_if d.read k;
}

-- ---- a run

-- an input with this fate, of a node that stood so
abbrev pub after_input : ℕ → Key → Standing → List ℕ → Input → Fate → Due → Due
after_input c key n who i done d =
    after_given key (gives n i) (after_asking c key who i (gives n i).outcome d)
after_input c key n who i (finds x) d = after_given key (given_again n x) (after_asking c key who i None d)
after_input c key n who i (faults k) d =
    after_denial c key who i (Some (StorageFailed k)) (after_failure k d)
after_input c key n who i (shares k) d = after_denial c key who i (Some (StorageFailed k)) d
after_input c key n who i damaged d = d
after_input c key n who i lost d = after_denial c key who i None d

-- a node, and what is due
abbrev pub due_then : ℕ → Key → Standing × Due → Deed → Standing × Due
due_then c key x (begins e greeting) = (x.0, if e == c then nothing_due else x.1)
due_then c key x (enters who i f) = (after_fate x.0 i f, after_input c key x.0 who i f x.1)
due_then c key x _ = x

-- what is due at a connection, behind these deeds of a node that began so
abbrev pub due_in : ℕ → Key → Standing → List Deed → Due
due_in c key n ds = (fold (due_then c key) (n, nothing_due) ds).1

-- what these replies say of a key
abbrev pub about : Key → List ClientReply → List Said
about key [] = []
about key (x ∷ xs) = (if is_key key (x.client, x.seq) then x.said ∷ [] else []) ++ about key xs

-- The frames that were said for it are those of replies, which say of each key of a client what is due.
pub record TellsDue (n : Standing) (c : ℕ) (ds : List Deed) : Type 0 where
  pub replies : List ClientReply
  pub frames : frames_for c ds ≡ map (λ x. client_frame x) replies
  pub due : (key : Key) → 1 ≤ key.0 → about key replies ≡ (due_in c key n ds).told

-- so it is of each open connection of a client
abbrev pub ClientsAreTold : Standing → State → Type 0
ClientsAreTold n s = (c : ℕ) → kind_at c s.loop ≡ Some Client → TellsDue n c s.deeds
