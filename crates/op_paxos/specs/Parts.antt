-- Promises and AcceptSyncs whose entries are too long for one message go in parts.
use Rattle.std.specs.Prelude.{ℕ, ◌+◌, Bool, ◌&&◌, nat_lt, nat_le, List, length}
use Rattle.op_types.specs.declared.log.Entry.{Entry}
use Rattle.op_types.specs.Cutting.{whole_or_parts}
use Rattle.op_paxos.specs.Nodes.{Promised}
use Rattle.op_paxos.specs.Messages.{PromisedRun, SyncRun, Msg, Promise, PromisePart, AcceptSync, AcceptSyncPart}

-- ---- what is sent

-- a run of a promise's entries
abbrev pub promised_run : Promised → ℕ → List Entry → PromisedRun
promised_run told at run =
    record {
      round = told.round;
      size = told.size;
      decided = told.decided;
      start = told.start;
      at = at;
      run = run;
    }

-- what brings a promise: itself, or its parts in order
abbrev pub promise_messages : ℕ → Promised → List Msg
promise_messages n told =
    whole_or_parts (Promise n told) (λ at run. PromisePart n (promised_run told at run)) told.start told.rest

-- a run of an AcceptSync's entries
abbrev pub sync_run : ℕ → List Entry → ℕ → List Entry → SyncRun
sync_run start entries at run = record { start = start; end = start + length entries; at = at; run = run }

-- what brings an AcceptSync: itself, or its parts in order
abbrev pub sync_messages : ℕ → ℕ → List Entry → List Msg
sync_messages n start entries =
    whole_or_parts (AcceptSync n start entries) (λ at run. AcceptSyncPart n (sync_run start entries at run))
    start entries

-- ---- what comes

-- a run that isn't empty, and ends at most there
abbrev pub is_run_to : ℕ → ℕ → List Entry → Bool
is_run_to end at run = nat_lt 0 (length run) && nat_le (at + length run) end

-- the whole promise that a part is of, with these entries
abbrev pub told_by : PromisedRun → List Entry → Promised
told_by part entries =
    record {
      round = part.round;
      size = part.size;
      decided = part.decided;
      start = part.start;
      rest = entries;
    }
