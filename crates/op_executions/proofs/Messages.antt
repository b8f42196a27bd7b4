-- No message is lost by what happens.
use Rattle.std.proofs.Common.{◌≤◌, ℕ, Bool, List, ◌++◌, length, Option, Some, None, arith, length-append}
use Rattle.op_types.specs.declared.durable.Durable.{Durable}
use Rattle.op_types.specs.declared.events.Input.{Input}
use Rattle.op_protocol.specs.Rows.{step_plan}
use Rattle.op_protocol.specs.Watching.{watch_plan}
use Rattle.op_runs.specs.World.{Kind, Votes, Observes, World, Sent, sent_by, sends_as, Node, NodeStatus, Up, Down, Failed, Fate, Done, Stopped, Faulted, Happening, Doing, Steps, Stops, Opens, Tells, Deed, deed_of, node_at, world_with_as, world_by_fate_as, world_if_up_as, world_opening_as, world_if_down_as, world_reopening_as, world_if_failed_as, world_by_status_as, world_beginning, world_at_observer, world_observed, world_at_node, world_with, world_after}

abbrev HasNoFewer : World → World → Type 0
HasNoFewer w v = length w.messages ≤ length v.messages

more : (ss new : List Sent) → length ss ≤ length (ss ++ new)
more ss new = omega (arith, length-append ss new)

put : (k : Kind) (w : World) (n : Node) → HasNoFewer w (world_with_as k w n)
put Votes w n = omega arith
put Observes w n = omega arith

by_fate : (k : Kind) (f : Fate) (at : ℕ) (w : World) (n : Node) (x : Input) → HasNoFewer w (world_by_fate_as k f at w n x)
by_fate Votes Done at w n x = more w.messages (sent_by n.pid (step_plan n.pid n.state x).sends)
by_fate Observes Done at w n x = more w.messages (sent_by n.pid (watch_plan n.pid n.state x).sends)
by_fate k Stopped at w n x = put k w _
by_fate k (Faulted count) at w n x = put k w _

while_up : (k : Kind) (d : Doing) (f : Fate) (at : ℕ) (w : World) (n : Node) → HasNoFewer w (world_if_up_as k d f at w n)
while_up k (Steps x) f at w n = by_fate k f at w n x
while_up k Stops f at w n = put k w _
while_up k Opens f at w n = omega arith
while_up k (Tells told) f at w n = omega arith

opening : (k : Kind) (f : Fate) (w : World) (n : Node) (d : Durable) → HasNoFewer w (world_opening_as k f w n d)
opening k Done w n d = more w.messages (sent_by n.pid (sends_as k n.pid d))
opening k Stopped w n d = omega arith
opening k (Faulted count) w n d = omega arith

while_down : (k : Kind) (d : Doing) (f : Fate) (b : Bool) (after : Durable) (w : World) (n : Node) → HasNoFewer w (world_if_down_as k d f b after w n)
while_down k (Steps x) f b after w n = omega arith
while_down k Stops f b after w n = omega arith
while_down k Opens f b after w n = opening k f w n _
while_down k (Tells told) f b after w n = omega arith

reopening : (k : Kind) (f : Fate) (after : Durable) (w : World) (n : Node) (d : Durable) → HasNoFewer w (world_reopening_as k f after w n d)
reopening k Done after w n d = more w.messages (sent_by n.pid (sends_as k n.pid d))
reopening k Stopped after w n d = put k w _
reopening k (Faulted count) after w n d = put k w _

while_failed : (k : Kind) (d : Doing) (h : Happening) (count : ℕ) (after : Durable) (w : World) (n : Node) → HasNoFewer w (world_if_failed_as k d h count after w n)
while_failed k (Steps x) h count after w n = omega arith
while_failed k Stops h count after w n = put k w _
while_failed k Opens h count after w n = reopening k h.fate after w n _
while_failed k (Tells told) h count after w n = omega arith

by_status : (k : Kind) (s : NodeStatus) (d : Doing) (h : Happening) (w : World) (n : Node) → HasNoFewer w (world_by_status_as k s d h w n)
by_status k Up d h w n = while_up k d h.fate h.event.line w n
by_status k (Down after) d h w n = while_down k d h.fate h.finds_after after w n
by_status k (Failed count after) d h w n = while_failed k d h count after w n

begins : (d : Doing) (f : Fate) (pid : ℕ) (w : World) → HasNoFewer w (world_beginning d f pid w)
begins Opens Done pid w = omega arith
begins Opens Stopped pid w = omega arith
begins Opens (Faulted count) pid w = omega arith
begins (Steps x) f pid w = omega arith
begins Stops f pid w = omega arith
begins (Tells told) f pid w = omega arith

at_observer : (o : Option Node) (x : Deed) (h : Happening) (w : World) → HasNoFewer w (world_at_observer o x h w)
at_observer None x h w = begins x.doing h.fate x.pid w
at_observer (Some n) x h w = by_status Observes n.status x.doing h w n

observed : (o : Option Deed) (h : Happening) (w : World) → HasNoFewer w (world_observed o h w)
observed None h w = omega arith
observed (Some x) h w = at_observer (node_at w.observers x.pid) x h w

there : (o : Option Node) (d : Doing) (h : Happening) (w : World) → HasNoFewer w (world_at_node o d h w)
there None d h w = observed (deed_of w.messages h.event.what) h w
there (Some n) d h w = by_status Votes n.status d h w n

by_deed : (o : Option Deed) (h : Happening) (w : World) → HasNoFewer w (world_with o h w)
by_deed None h w = omega arith
by_deed (Some d) h w = there (node_at w.nodes d.pid) d.doing h w

pub no_fewer : (w : World) (h : Happening) → length w.messages ≤ length (world_after w h).messages
no_fewer w h = by_deed (deed_of w.messages h.event.what) h w
