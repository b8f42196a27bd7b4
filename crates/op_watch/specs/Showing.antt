-- What a node has decided, as the step table has it.
use Rattle.op_protocol.specs.Watched as watched
use Rattle.op_watch.specs.declared.decided.Decided.{Decided}

-- what a node has decided of a configuration
abbrev pub decided_of : Decided → watched.Decided
decided_of k =
    record {
      conf = k.conf;
      members = k.members.now;
      trimmed = k.trimmed;
      base = k.base.now;
      entries = k.entries.now;
    }
