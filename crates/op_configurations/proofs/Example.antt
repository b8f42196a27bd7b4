-- Runs that are computed: the machine closes, opens, joins, stops and refers as its rules say.
use Rattle.std.proofs.Common.{◌≡◌, ℕ, List, [], ◌∷◌, ◌++◌, length, Option, Some, None, Bool, true, false, refl}
use Rattle.op_types.specs.declared.log.Command.{Command}
use Rattle.op_types.specs.declared.log.Entry.{Entry}
use Rattle.op_types.specs.declared.log.Entry.TheVariants as entry
use Rattle.op_paxos.specs.Worlds as paxos
use Rattle.op_paxos.specs.Logs.{is_stop}
use Rattle.op_paxos.specs.Nodes.{owner}
use Rattle.op_paxos.specs.Leader.{majority_length, recount, adopted_node, new_leading, adopt_with, adopt, prepared, on_elected, on_promise_in, on_accepted_in, extended, on_propose_in}
use Rattle.op_paxos.specs.Follower.{on_prepare, appended, on_accept, synced_to, on_accept_sync, on_decide}
use Rattle.op_paxos.specs.Trimming.{on_trim_ask, trim_all, on_progress_in, on_trim_now_in, on_trim}
use Rattle.op_paxos.specs.Worlds.{on_msg}
use Rattle.op_configurations.specs.Servers.{Part, NextConf, letter, Done, Stopped, Ticks, Proposes, Trims, close_with, acted, restarted, invited, invited_in, started, based, got_segment, asks, gives_base, gives_segment, refers, inner, takes, reads, led, step, new_part, latest}
use Rattle.op_configurations.specs.Worlds.{Happening, At, Delivers, Opens, stepped, at_server, delivered, found, opened, opens, happens, run, start, decided_in, machine_of, machine_with, machine_after}

-- a stop-sign that names these
abbrev sign : ℕ → List ℕ → Entry
sign c members = entry.Stop (record { next = c; members = members })

abbrev trimmed_of : Option Part → ℕ
trimmed_of None = 0
trimmed_of (Some pt) = (pt.node).trimmed

abbrev log_of : Option Part → List Entry
log_of None = []
log_of (Some pt) = (pt.node).log

module _ (a b c d : Command) where
  abbrev put : Command → Entry
  put x = entry.Command x

  -- ---- a sole member goes on to the next configuration, in which it leads anew

  abbrev alone : List Happening
  alone = At Done 1 (Ticks (Some 1)) ∷ At Done 1 (Proposes (put a ∷ [])) ∷ At Done 1 (Proposes (sign 2 (1 ∷ []) ∷ [])) ∷ At Done 1 (Proposes (put b ∷ [])) ∷ At Done 1 (Ticks (Some 1)) ∷ At Done 1 (Proposes (put c ∷ [])) ∷ At Done 1 (Proposes (put d ∷ [])) ∷ []

  alone_lists : ((machine_of (1 ∷ []) alone).lists 1 ≡ put a ∷ sign 2 (1 ∷ []) ∷ []) × ((machine_of (1 ∷ []) alone).lists 2 ≡ put c ∷ put d ∷ [])
  unfolding machine_of machine_after machine_with run start happens at_server stepped step acted close_with led paxos.step is_stop owner majority_length recount adopted_node new_leading adopt_with adopt prepared on_elected on_propose_in extended
  alone_lists = (refl, refl)

  -- the second command was refused, since the server didn't lead
  alone_proposed : ((machine_of (1 ∷ []) alone).proposed 1 ≡ put a ∷ sign 2 (1 ∷ []) ∷ []) × ((machine_of (1 ∷ []) alone).proposed 2 ≡ put c ∷ put d ∷ []) × ((machine_of (1 ∷ []) alone).known 1 2 ≡ 2) × ((machine_of (1 ∷ []) alone).opened 1 2 ≡ true)
  unfolding machine_of machine_after machine_with run start happens at_server stepped step acted close_with led paxos.step is_stop owner majority_length recount adopted_node new_leading adopt_with adopt prepared on_elected on_propose_in extended
  alone_proposed = (refl, refl, refl, refl)

  -- ---- it stops inside the event that closes: its next opening finds the state from before or from after

  abbrev cut : Bool → List Happening
  cut after = At Done 1 (Ticks (Some 1)) ∷ At Stopped 1 (Proposes (sign 2 (1 ∷ 2 ∷ []) ∷ [])) ∷ At Done 1 (Proposes (put a ∷ [])) ∷ Opens 1 after ∷ []

  cut_before : (latest ((run (cut false) (start (1 ∷ []))).servers 1).state ≡ 1) × (length (run (cut false) (start (1 ∷ []))).soup ≡ 0) × ((machine_of (1 ∷ []) (cut false)).proposed 1 ≡ sign 2 (1 ∷ 2 ∷ []) ∷ [])
  unfolding machine_of machine_after machine_with run start happens at_server stepped opens opened found restarted step acted close_with led paxos.step is_stop owner majority_length recount adopted_node new_leading adopt_with adopt prepared on_elected on_propose_in extended
  cut_before = (refl, refl, refl)

  -- from after, with nothing sent but what the opening sends in the next configuration: the other member asks later
  cut_after : (latest ((run (cut true) (start (1 ∷ []))).servers 1).state ≡ 2) × (length (run (cut true) (start (1 ∷ []))).soup ≡ 1) × ((machine_of (1 ∷ []) (cut true)).lists 1 ≡ sign 2 (1 ∷ 2 ∷ []) ∷ [])
  unfolding machine_of machine_after machine_with run start happens at_server stepped opens opened found restarted step acted close_with led paxos.step is_stop owner majority_length recount adopted_node new_leading adopt_with adopt prepared on_elected on_propose_in extended
  cut_after = (refl, refl, refl)

  -- ---- an undecided stop-sign is overwritten

  abbrev overwritten : List Happening
  overwritten =
      At Done 1 (Ticks None) ∷ Delivers Done 0 ∷ Delivers Done 2 ∷ At Done 1 (Ticks (Some 1)) ∷ Delivers Done 5 ∷ Delivers Done 7
      ∷ At Done 1 (Proposes (sign 2 (1 ∷ 2 ∷ []) ∷ [])) ∷ At Done 1 (Proposes (put a ∷ [])) ∷ At Done 2 (Ticks None) ∷ Delivers Done 11 ∷ Delivers Done 12 ∷ At Done 2 (Ticks (Some 2)) ∷ Delivers Done 16 ∷ Delivers Done 17 ∷ Delivers Done 15 ∷ Delivers Done 19 ∷ Delivers Done 20
      ∷ At Done 1 (Proposes (put b ∷ [])) ∷ []

  overwritten_log : log_of (((run overwritten (start (1 ∷ 2 ∷ 3 ∷ []))).servers 1).state).part ≡ []
  unfolding run start happens at_server stepped delivered step reads takes inner acted close_with led paxos.step is_stop owner majority_length recount adopted_node new_leading adopt_with adopt prepared on_elected on_propose_in extended on_msg on_prepare on_promise_in on_accept_sync synced_to on_accept appended on_accepted_in on_decide
  overwritten_log = refl

  -- the first command was refused behind the stop-sign, the second went to the new leader
  overwritten_proposed : ((machine_of (1 ∷ 2 ∷ 3 ∷ []) overwritten).proposed 1 ≡ sign 2 (1 ∷ 2 ∷ []) ∷ put b ∷ []) × ((machine_of (1 ∷ 2 ∷ 3 ∷ []) overwritten).lists 1 ≡ []) × (length (run overwritten (start (1 ∷ 2 ∷ 3 ∷ []))).soup ≡ 23)
  unfolding machine_of machine_after machine_with run start happens at_server stepped delivered step reads takes inner acted close_with led paxos.step is_stop owner majority_length recount adopted_node new_leading adopt_with adopt prepared on_elected on_propose_in extended on_msg on_prepare on_promise_in on_accept_sync synced_to on_accept appended on_accepted_in on_decide
  overwritten_proposed = (refl, refl, refl)

  -- ---- members 1 and 2 decide two commands, 1 trims them

  abbrev trimming : List Happening
  trimming =
      At Done 1 (Ticks None) ∷ Delivers Done 0 ∷ Delivers Done 1 ∷ At Done 1 (Ticks (Some 1)) ∷ Delivers Done 3 ∷ Delivers Done 4 ∷ Delivers Done 5
      ∷ At Done 1 (Proposes (put a ∷ [])) ∷ At Done 1 (Proposes (put b ∷ [])) ∷ Delivers Done 7 ∷ Delivers Done 8 ∷ Delivers Done 10 ∷ Delivers Done 11
      ∷ At Done 1 Trims ∷ Delivers Done 12 ∷ []

  abbrev trim_at : List Happening → ℕ → ℕ
  trim_at hs p = trimmed_of (((run hs (start (1 ∷ 2 ∷ []))).servers p).state).part

  trims_none : (trim_at trimming 1 ≡ 0) × (trim_at trimming 2 ≡ 0) × (decided_in ((run trimming (start (1 ∷ 2 ∷ []))).servers 2).state 1 ≡ 2) × (latest ((run trimming (start (1 ∷ 2 ∷ []))).servers 3).state ≡ 0)
  unfolding run start happens at_server stepped delivered step reads takes inner acted close_with led paxos.step is_stop owner majority_length recount adopted_node new_leading adopt_with adopt prepared on_elected on_propose_in extended on_msg on_prepare on_promise_in on_accept_sync synced_to on_accept appended on_accepted_in on_decide on_trim_ask trim_all on_progress_in on_trim_now_in on_trim
  trims_none = (refl, refl, refl, refl)

  trims_both : (trim_at (trimming ++ Delivers Done 13 ∷ Delivers Done 14 ∷ []) 1 ≡ 2) × (trim_at (trimming ++ Delivers Done 13 ∷ Delivers Done 14 ∷ []) 2 ≡ 2)
  unfolding run start happens at_server stepped delivered step reads takes inner acted close_with led paxos.step is_stop owner majority_length recount adopted_node new_leading adopt_with adopt prepared on_elected on_propose_in extended on_msg on_prepare on_promise_in on_accept_sync synced_to on_accept appended on_accepted_in on_decide on_trim_ask trim_all on_progress_in on_trim_now_in on_trim
  trims_both = (refl, refl)

  -- ---- then both decide one more and the stop-sign; the spare 3 gets a base and a position from 1, which trimmed, and a position from 2, which didn't

  abbrev migration : List Happening
  migration =
      trimming ++ Delivers Done 13
      ∷ At Done 1 (Proposes (put c ∷ [])) ∷ At Done 1 (Proposes (sign 2 (2 ∷ 3 ∷ []) ∷ [])) ∷ Delivers Done 15 ∷ Delivers Done 16 ∷ Delivers Done 18 ∷ Delivers Done 19 ∷ Delivers Done 20 ∷ Delivers Done 21
      ∷ At Done 3 (Ticks None) ∷ Delivers Done 22 ∷ Delivers Done 23 ∷ Delivers Done 24 ∷ Delivers Done 25 ∷ Delivers Done 26 ∷ Delivers Done 27 ∷ []

  three_starts : ((run migration (start (1 ∷ 2 ∷ []))).servers 3).state
      ≡ record { part = Some (new_part 2 (2 ∷ 3 ∷ [])); closed = Some (record { conf = 1; olds = 1 ∷ 2 ∷ []; next = 2 ∷ 3 ∷ []; list = put a ∷ put b ∷ put c ∷ sign 2 (2 ∷ 3 ∷ []) ∷ []; trimmed = 2 }); joining = None }
  unfolding run start happens at_server stepped delivered step reads takes inner acted close_with led restarted invited invited_in started based got_segment asks gives_base gives_segment refers paxos.step is_stop owner majority_length recount adopted_node new_leading adopt_with adopt prepared on_elected on_propose_in extended on_msg on_prepare on_promise_in on_accept_sync synced_to on_accept appended on_accepted_in on_decide on_trim_ask trim_all on_progress_in on_trim_now_in on_trim
  three_starts = refl

  -- ---- a member that fell behind is told of the next configuration when it speaks in the old one; a segment comes before the base

  abbrev behind_hand : List Happening
  behind_hand =
      At Done 1 (Ticks None) ∷ Delivers Done 0 ∷ Delivers Done 2 ∷ At Done 1 (Ticks (Some 1)) ∷ Delivers Done 5 ∷ Delivers Done 7
      ∷ At Done 1 (Proposes (sign 2 (1 ∷ 2 ∷ 3 ∷ []) ∷ [])) ∷ Delivers Done 8 ∷ Delivers Done 9 ∷ Delivers Done 11 ∷ At Done 3 (Ticks None) ∷ Delivers Done 13 ∷ []

  referred : (latest ((run behind_hand (start (1 ∷ 2 ∷ 3 ∷ []))).servers 1).state ≡ 2) × (Rattle.std.specs.Prelude.slice_get (run behind_hand (start (1 ∷ 2 ∷ 3 ∷ []))).soup 15 ≡ Some (letter 1 3 2 (NextConf (1 ∷ 2 ∷ 3 ∷ []) (1 ∷ 2 ∷ 3 ∷ []) 1 0)))
  unfolding run start happens at_server stepped delivered step reads takes inner acted close_with led refers paxos.step is_stop owner majority_length recount adopted_node new_leading adopt_with adopt prepared on_elected on_propose_in extended on_msg on_prepare on_promise_in on_accept_sync synced_to on_accept appended on_accepted_in on_decide
  referred = (refl, refl)

  abbrev caught_up : List Happening
  caught_up = behind_hand ++ Delivers Done 15 ∷ At Done 3 (Ticks None) ∷ Delivers Done 16 ∷ Delivers Done 17 ∷ Delivers Done 19 ∷ Delivers Done 18 ∷ []

  three_follows : ((run caught_up (start (1 ∷ 2 ∷ 3 ∷ []))).servers 3).state
      ≡ record { part = Some (new_part 2 (1 ∷ 2 ∷ 3 ∷ [])); closed = Some (record { conf = 1; olds = 1 ∷ 2 ∷ 3 ∷ []; next = 1 ∷ 2 ∷ 3 ∷ []; list = sign 2 (1 ∷ 2 ∷ 3 ∷ []) ∷ []; trimmed = 0 }); joining = None }
  unfolding run start happens at_server stepped delivered step reads takes inner acted close_with led restarted invited invited_in started based got_segment asks gives_base gives_segment refers paxos.step is_stop owner majority_length recount adopted_node new_leading adopt_with adopt prepared on_elected on_propose_in extended on_msg on_prepare on_promise_in on_accept_sync synced_to on_accept appended on_accepted_in on_decide
  three_follows = refl
