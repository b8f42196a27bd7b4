-- What the lines after members and spares say, as the code has it. Only what is inside the crate speaks of
-- this.
use Rattle.op_sched.specs.Grammar as grammar
use Rattle.op_sched.specs.declared.reading.Course.{Course}

abbrev pub course_in : Course → grammar.Course
course_in c = record { observers = c.observers; mirrored = c.is_mirrored; events = c.events }
