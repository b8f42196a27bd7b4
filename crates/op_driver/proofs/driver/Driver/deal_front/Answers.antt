use Rattle.op_driver.proofs.Dealing.{deals, deals_waits, deals_lost, taken_over, open_taken, drained_taken}
use Rattle.op_driver.proofs.driver.Driver.deal_front.Goals as goal

pub returns-in-Ok-Waits-clause-deals : goal.returns-in-Ok-Waits-clause-deals
returns-in-Ok-Waits-clause-deals g c = deals_waits (rw c.in-Ok-Waits.field-0-is at c.in-Ok-Waits.ensures.takes) c.requires.none

pub returns-in-Ok-Refused-clause-deals : goal.returns-in-Ok-Refused-clause-deals
returns-in-Ok-Refused-clause-deals g c = deals (rw c.in-Ok-Refused.field-0-is at c.in-Ok-Refused.ensures.takes) c.requires.none (taken_over c.end.ensures.does c.end.ensures.rests)

pub returns-in-Ok-Hello-clause-deals : goal.returns-in-Ok-Hello-clause-deals
returns-in-Ok-Hello-clause-deals g c = deals (rw c.in-Ok-Hello.field-0-is at c.in-Ok-Hello.ensures.takes) c.requires.none c.greet.ensures.taken

pub take_frame-requires-clause-open : goal.take_frame-requires-clause-open
take_frame-requires-clause-open g c = open_taken (rw c.in-Ok-Frame.field-0-is at c.in-Ok-Frame.ensures.takes) (λ e. cc)

pub returns-in-Ok-Frame-clause-deals : goal.returns-in-Ok-Frame-clause-deals
returns-in-Ok-Frame-clause-deals g c = deals (rw c.in-Ok-Frame.field-0-is at c.in-Ok-Frame.ensures.takes) c.requires.none c.take_frame.ensures.taken

pub lose-requires : goal.lose-requires
lose-requires g c = open_taken c.in-Err.ensures.takes (λ e. cc)

pub returns-in-Err-clause-deals : goal.returns-in-Err-clause-deals
returns-in-Err-clause-deals g c = deals_lost c.in-Err.ensures.takes c.lose.ensures.loses

pub end-requires-clause-none : goal.end-requires-clause-none
end-requires-clause-none g c = drained_taken (rw c.in-Ok-Refused.field-0-is at c.in-Ok-Refused.ensures.takes) c.requires.none

pub greet-requires-clause-none : goal.greet-requires-clause-none
greet-requires-clause-none g c = drained_taken (rw c.in-Ok-Hello.field-0-is at c.in-Ok-Hello.ensures.takes) c.requires.none

pub take_frame-requires-clause-none : goal.take_frame-requires-clause-none
take_frame-requires-clause-none g c = drained_taken (rw c.in-Ok-Frame.field-0-is at c.in-Ok-Frame.ensures.takes) c.requires.none
