-- The words of the pure machine, in one place: proofs here say `pure.Node` for its nodes, beside those of op_protocol.
pub use Rattle.op_paxos.specs.Logs.{up_to_stop, stops_early, overflows, fitting}
pub use Rattle.op_paxos.specs.Nodes.{owner_count, owner, Promised, PreparingState, LeadingState, Role, Idle, Preparing, Leading, Node, majority_passes}
pub use Rattle.op_paxos.specs.Messages.{PromisedRun, SyncRun, Msg, Prepare, Promise, PromisePart, AcceptSync, AcceptSyncPart, Accept, Accepted, Decide, PrepareReq, Refuse, Forward, TrimAsk, Progress, Trim, Packet, Effect, packet, packets, broadcast, silent, sending_first}
pub use Rattle.op_paxos.specs.Parts.{promised_run, promise_messages, sync_run, sync_messages, is_run_to, told_by}
pub use Rattle.op_paxos.specs.Follower.{suffix_at, promise_of, on_prepare, appended, on_accept, synced_to, on_accept_sync, unstaged, synced_once, on_first_part, appended_staged, on_later_part, on_accept_sync_part, on_decide}
pub use Rattle.op_paxos.specs.Leader.{is_above, is_usable, CandidateLog, own_candidate, better, best, sync_at, sync_sends, is_synced, all_sends, backed, majority_length, recount, adopted_node, new_leading, adopt_with, adopt, has_quorum, prepared, on_elected, on_promise_in, promised_once, on_promise_part_in, on_accepted_in, extended, on_propose_in, on_forward_in, on_prepare_req_in, without}
pub use Rattle.op_paxos.specs.Worlds.{Input, Elected, Proposal, Comes, Up, CutOff, Down, Starts, TrimNow, step, World, Event, stepped, stopped, taken_by, fate_of, applied, happens, start}
pub use Rattle.op_paxos.specs.Trimming.{on_trim_ask, on_trim, lesser_report, least_report, trim_all, kept_report, on_progress_in, on_trim_now_in}
