-- A worked case: a follower that has promised a ballot gets the two parts of its leader's AcceptSync, the second one first.
use Rattle.std.proofs.Common.{◌≡◌, ℕ, [], ◌∷◌, None, refl}
use Rattle.op_types.specs.Ballots.{no_ballot}
use Rattle.op_types.specs.declared.ballot.Ballot.{Ballot}
use Rattle.op_types.specs.declared.changes.Change.TheVariants as change
use Rattle.op_types.specs.declared.durable.Part.{Part}
use Rattle.op_types.specs.declared.log.Entry.{Entry}
use Rattle.op_types.specs.declared.log.Entry.TheVariants as entry
use Rattle.op_types.specs.declared.log.Op.TheVariants as op
use Rattle.op_types.specs.declared.messages.Body.TheVariants as body
use Rattle.op_types.specs.declared.runs.SyncRun.{SyncRun}
use Rattle.op_protocol.specs.State.{PartStep}
use Rattle.op_protocol.specs.Parts.{message}
use Rattle.op_protocol.specs.Starting.{first_volatile}
use Rattle.op_protocol.specs.Follower.{on_accept_sync_part}

-- the leader's ballot
ballot : Ballot
ballot = record { number = 1; pid = 1 }

-- an entry of client 7
the_entry : ℕ → Entry
the_entry seq = entry.Command (record { client = 7; seq = seq; op = op.Del (97 ∷ []) })

-- the follower, node 2, with an empty log
follower : Part
follower = record {
  conf = 1;
  members = 1 ∷ 2 ∷ 3 ∷ [];
  promised = ballot;
  accepted = no_ballot;
  base = [];
  trimmed = 0;
  tail = record { items = []; room = 0 };
  decided = 0;
}

first_run : SyncRun
first_run = record { start = 0; end = 3; at = 0; run = the_entry 1 ∷ the_entry 2 ∷ [] }

second_run : SyncRun
second_run = record { start = 0; end = 3; at = 2; run = the_entry 3 ∷ [] }

-- the second part is staged, and nothing else happens
after_second : PartStep
unfolding ballot the_entry follower second_run
after_second = on_accept_sync_part follower (first_volatile 2) 1 ballot second_run

second_is_staged : (let so : PartStep = record {
  batch = [];
  volatile = record (first_volatile 2) { staged = (2, the_entry 3) ∷ [] };
  sends = [];
  replies = [];
  outcome = None;
} in after_second ≡ so)
unfolding ballot the_entry follower second_run after_second
second_is_staged = refl

-- with the first one the log is accepted in one batch, its length is told, and nothing stays staged
first_completes : (let so : PartStep = record {
  batch = change.Append (the_entry 1 ∷ the_entry 2 ∷ the_entry 3 ∷ []) ∷ change.Accept ballot ∷ [];
  volatile = first_volatile 2;
  sends = message 1 1 (body.Accepted ballot 3) ∷ [];
  replies = [];
  outcome = None;
} in on_accept_sync_part follower after_second.volatile 1 ballot first_run ≡ so)
unfolding ballot the_entry follower first_run second_run after_second
first_completes = refl
