-- Serving what a step decides.
use Rattle.std.specs.Prelude.{◌≡◌, ◌++◌, List, [], ◌∷◌, Option, None}
use Rattle.op_types.specs.Stops.{stop_of, stop_at_end}
use Rattle.op_types.specs.declared.answers.Reply.{Reply}
use Rattle.op_types.specs.declared.log.Entry.{Entry}
use Rattle.op_types.specs.declared.log.Entry.TheVariants as entry
use Rattle.op_types.specs.declared.log.StopSign.{StopSign}
use Rattle.op_spec.specs.Service.{Service, service_with, all_after}
use Rattle.op_protocol.specs.Serving.{reply_of}
use Rattle.op_change.specs.Over.{service_over}
use Rattle.op_deciding.specs.declared.served.Served.{Served}

-- the replies to the commands among these entries, in order, each for whoever waits for it
abbrev pub replies_to : Service → List Entry → List Reply
replies_to s [] = []
replies_to s (entry.Command c ∷ es) = reply_of s c ∷ replies_to (service_with s c) es
replies_to s (entry.Stop stop ∷ es) = replies_to s es

-- the stop-sign that ends these entries; with none of them the one before them
abbrev pub stop_after : Option StopSign → List Entry → Option StopSign
stop_after stop [] = stop
stop_after stop (e ∷ es) = stop_after (stop_of e) es

-- over this service, no entries are served
pub record ServesNothing (s : Service) (x : Served) : Type 0 where
  pub change : service_over s x.change ≡ s
  pub replies : x.replies ≡ []
  pub stop : x.stop ≡ None

-- over this service, these entries are served after those that were served before
pub record Continues (s : Service) (old new : Served) (entries : List Entry) : Type 0 where
  pub change : service_over s new.change ≡ all_after (service_over s old.change) entries
  pub replies : new.replies ≡ old.replies ++ replies_to (service_over s old.change) entries
  pub stop : new.stop ≡ stop_after old.stop entries

-- what these entries do, over this service
pub record IsServed (s : Service) (entries : List Entry) (x : Served) : Type 0 where
  pub change : service_over s x.change ≡ all_after s entries
  pub replies : x.replies ≡ replies_to s entries
  pub stop : x.stop ≡ stop_at_end entries
