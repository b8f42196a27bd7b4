-- A trace is a run, and obeys the laws of runs.
use Rattle.std.proofs.Common.{◌≡◌, ℕ, List, ◌++◌, subst}
use Rattle.op_types.specs.Ranges.{MembersInRange}
use Rattle.op_runs.specs.Possible.{SparesInRange, HappeningsInRange}
use Rattle.op_runs.specs.World.{Happening}
use Rattle.op_laws.specs.Elected.{until_second}
use Rattle.op_laws.specs.Runs.{RunInRange}
use Rattle.op_laws.proofs.Reached.{front_in_range, led_once}
use Rattle.op_laws.proofs.Messages.{every_message_is_true}
use Rattle.op_laws.proofs.Trims.{every_trim_is_known}
use Rattle.op_laws.proofs.Exchanges.{exchange_decides}
use Rattle.op_read_laws.proofs.ReadsFresh.{every_read_is_fresh}
use Rattle.op_cluster_laws.specs.Worlds.{OfClusters}
use Rattle.op_cluster_laws.proofs.Reaching.{always_reached}
use Rattle.op_linear.specs.Tracks.{ObeysLaws, TracesAreRuns}

obeys : (members spares : List ℕ) → MembersInRange members → SparesInRange members spares → (hs : List Happening) → HappeningsInRange hs → ObeysLaws members spares hs
obeys members spares ms ss hs range = record {
  trims = every_trim_is_known members spares hs run;
  messages = every_message_is_true members spares hs run;
  reads = every_read_is_fresh members spares hs run;
  led = λ m rest split. led_once members spares m (front (until_second m) rest split);
  exchanges = λ early mid rest split. exchange_decides members spares early mid (front (early ++ mid) rest split);
}
  where
    run : RunInRange members spares hs
    run = record { first = ms; others = ss; happenings = range }

    front : (first rest : List Happening) → hs ≡ first ++ rest → RunInRange members spares first
    front first rest split = front_in_range members spares first rest (subst (λ l. RunInRange members spares l) split (record { first = ms; others = ss; happenings = range }))

pub traces_are_runs : OfClusters TracesAreRuns
traces_are_runs members spares observers ms ss os faulted trace c =
    let k = always_reached members spares observers ms ss os faulted trace c in (
      k.0,
      k.1,
      k.4,
      λ now later split.
          let n = k.2 now later split in (
            n.first,
            n.later,
            n.split,
            record { events = n.events; moment = n.moment; messages = n.messages; answers = n.lines },
          ),
      obeys members spares ms ss k.0 k.1.range,
    )
