-- A read is answered, and one isn't, computed.
use Rattle.std.proofs.Common.{◌≡◌, ℕ, List, [], ◌∷◌, true, false, refl}
use Rattle.op_types.specs.declared.log.Command.{Command}
use Rattle.op_types.specs.declared.log.Op.TheVariants.{Del}
use Rattle.op_types.specs.declared.log.Entry.TheVariants as entry
use Rattle.op_paxos.specs.Logs.{is_stop}
use Rattle.op_paxos.specs.Nodes.{owner, majority_passes}
use Rattle.op_paxos.specs.Follower.{on_prepare, appended, on_accept, synced_to, on_accept_sync, on_decide}
use Rattle.op_paxos.specs.Leader.{majority_length, recount, adopted_node, new_leading, adopt_with, adopt, prepared, on_elected, on_promise_in, on_accepted_in, extended, on_propose_in}
use Rattle.op_paxos.specs.Worlds.{on_msg, step, Leads, Proposes, Delivers, input_of, happens, run, start}
use Rattle.op_fresh.specs.Reading.{ReadEvent, Happens, Asks, Hears, Counts, leads_ballot, reads_on, read_run, reading_before}

module _ (c : Command) where
  abbrev members : List ℕ
  members = 1 ∷ 2 ∷ 3 ∷ []

  -- node 1 leads three and decides with node 2; then it is asked, node 2 hears of it, and it counts that
  abbrev heard : List ReadEvent
  heard =
      Happens (Leads 1 1) ∷ Happens (Delivers 0) ∷ Happens (Delivers 2) ∷ Happens (Proposes 1 (entry.Command c ∷ [])) ∷ Happens (Delivers 3) ∷ Happens (Delivers 4) ∷ Happens (Delivers 6)
      ∷ Asks 1 ∷ Hears 2 1 1 ∷ Counts 1 1 2 ∷ []

  -- it is asked while it leads
  leads : leads_ballot 1 ((reading_before members heard 7).world.nodes 1).role ≡ true
  unfolding read_run reads_on run start happens input_of step is_stop owner majority_length recount adopted_node new_leading adopt_with adopt prepared on_elected on_propose_in extended on_msg on_prepare on_promise_in on_accept_sync synced_to on_accept appended on_accepted_in on_decide
  leads = refl

  -- then a majority has confirmed the first read of ballot 1
  confirmed : majority_passes members ((reading_before members heard 10).confirmed 1 1) ≡ true
  unfolding read_run reads_on run start happens input_of step is_stop owner majority_length recount adopted_node new_leading adopt_with adopt prepared on_elected on_propose_in extended on_msg on_prepare on_promise_in on_accept_sync synced_to on_accept appended on_accepted_in on_decide
  confirmed = refl

  -- and it is answered from what was decided
  decided : ((reading_before members heard 10).world.nodes 1).decided ≡ 1
  unfolding read_run reads_on run start happens input_of step is_stop owner majority_length recount adopted_node new_leading adopt_with adopt prepared on_elected on_propose_in extended on_msg on_prepare on_promise_in on_accept_sync synced_to on_accept appended on_accepted_in on_decide
  decided = refl

  -- node 2 promises node 3 its ballot before it hears of the read: messages 0 and 1 are the Prepares of node 1,
  -- 2 the Promise of node 2, 3 the AcceptSync, 4 and 5 the Prepares of node 3
  abbrev unheard : List ReadEvent
  unheard =
      Happens (Leads 1 1) ∷ Happens (Delivers 0) ∷ Happens (Delivers 2) ∷ Happens (Leads 3 3) ∷ Happens (Delivers 5)
      ∷ Asks 1 ∷ Hears 2 1 1 ∷ Counts 1 1 2 ∷ []

  -- node 1 leads still, and is asked
  still_leads : leads_ballot 1 ((reading_before members unheard 8).world.nodes 1).role ≡ true
  unfolding read_run reads_on run start happens input_of step is_stop owner majority_length recount adopted_node new_leading adopt_with adopt prepared on_elected on_propose_in extended on_msg on_prepare on_promise_in on_accept_sync synced_to on_accept appended on_accepted_in on_decide
  still_leads = refl

  -- but no majority confirms
  unconfirmed : majority_passes members ((reading_before members unheard 8).confirmed 1 1) ≡ false
  unfolding read_run reads_on run start happens input_of step is_stop owner majority_length recount adopted_node new_leading adopt_with adopt prepared on_elected on_propose_in extended on_msg on_prepare on_promise_in on_accept_sync synced_to on_accept appended on_accepted_in on_decide
  unconfirmed = refl

-- the same, of an entry whose bytes are known: it goes in one message, with a promise too
module _ (client number : ℕ) where
  abbrev three : List ℕ
  three = 1 ∷ 2 ∷ 3 ∷ []

  abbrev d : Command
  d = record { client = client; seq = number; op = Del [] }

  -- node 3 leads after node 1 has decided, and adopts what node 1 has decided, but has decided nothing itself:
  -- messages 8 and 9 are its Prepares, 10 the Promise of node 2
  abbrev adopted : List ReadEvent
  adopted =
      Happens (Leads 1 1) ∷ Happens (Delivers 0) ∷ Happens (Delivers 2) ∷ Happens (Proposes 1 (entry.Command d ∷ [])) ∷ Happens (Delivers 3) ∷ Happens (Delivers 4) ∷ Happens (Delivers 6)
      ∷ Happens (Leads 3 3) ∷ Happens (Delivers 9) ∷ Happens (Delivers 10) ∷ Asks 3 ∷ Hears 2 3 1 ∷ Counts 3 1 2 ∷ []

  -- a majority confirms its read, while what it has decided is less than node 1 had before the read came
  too_early : majority_passes three ((reading_before three adopted 13).confirmed 3 1) ≡ true
  unfolding read_run reads_on run start happens input_of step is_stop owner majority_length recount adopted_node new_leading adopt_with adopt prepared on_elected on_propose_in extended on_msg on_prepare on_promise_in on_accept_sync synced_to on_accept appended on_accepted_in on_decide
  too_early = refl

  less : ((reading_before three adopted 13).world.nodes 3).decided ≡ 0
  unfolding read_run reads_on run start happens input_of step is_stop owner majority_length recount adopted_node new_leading adopt_with adopt prepared on_elected on_propose_in extended on_msg on_prepare on_promise_in on_accept_sync synced_to on_accept appended on_accepted_in on_decide
  less = refl

  more : ((reading_before three adopted 10).world.nodes 1).decided ≡ 1
  unfolding read_run reads_on run start happens input_of step is_stop owner majority_length recount adopted_node new_leading adopt_with adopt prepared on_elected on_propose_in extended on_msg on_prepare on_promise_in on_accept_sync synced_to on_accept appended on_accepted_in on_decide
  more = refl
