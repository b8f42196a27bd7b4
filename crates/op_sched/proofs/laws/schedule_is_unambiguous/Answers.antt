use Rattle.op_sched.proofs.UnambiguousSchedules.{no_bad_line, one_schedule, one_bad_line, has_servers, events_in_range, events_of_bytes, events_between_two}
use Rattle.op_sched.proofs.laws.schedule_is_unambiguous.Goals as goal

pub returns : goal.returns
returns c = record { apart = no_bad_line; one = one_schedule; first = one_bad_line; servers = has_servers; in_range = events_in_range; of_bytes = events_of_bytes; between = events_between_two }
