-- What serving promises: its calls of net and clock, its state and its end are functions of what they answer;
-- what each connection reads is given in its order, and what is said for it is written in its order.
use Rattle.std.specs.Prelude.{◌≡◌, ◌<◌, ◌∷◌, [], ℕ, List, length, true, false, Option}
use Rattle.op_outside.specs.Causes.{Rises}
use Rattle.op_outside.specs.Nets.{Call}
use Rattle.op_outside.specs.Seen.{NetSeen}
use Rattle.op_outside.specs.Telling.{Grows}
use Rattle.op_outside.specs.declared.net.Addr.{Addr}
use Rattle.op_setup.specs.declared.config.Settings.{Settings}
use Rattle.op_serving.specs.declared.mark.Mark.{Mark}
use Rattle.op_serving.specs.Cores.{Standing}
use Rattle.op_serving.specs.State.{Loop}
use Rattle.op_serving.specs.Losses.{most_marks}
use Rattle.op_serving.specs.Inputs.{kept}
use Rattle.op_serving.specs.Turns.{fresh, knowing}
use Rattle.op_serving.specs.Faults.{faulted_steps, FaultsWithin, Stepped, Walks}
use Rattle.op_serving.specs.Promise.{Keeps, folded}
use Rattle.op_serving.specs.Pump.{Answer, Pump, turn, stop}
use Rattle.op_connections.specs.Hearing.{HearsAll}
use Rattle.op_connections.specs.Taking.{IsBetween, IsDone}
use Rattle.op_serving.specs.declared.serve_end.ServeEnd.{ServeEnd}
use Rattle.op_serving.specs.declared.serve_end.ServeEnd.TheVariants as ends
use Rattle.op_driver.specs.Driver.{Stores}
use Rattle.op_pump.specs.Moments.{Leads, pump_at, set_of, set_out, times_in}

-- every peer is known, and none has a session
abbrev pub knows : List (ℕ × Addr) → Loop → Loop
knows [] s = s
knows (p ∷ ps) s = knows ps (knowing p.0 s)

abbrev pub begun : List (ℕ × Addr) → ℕ → Loop
begun peers me = knows peers (fresh me)

-- before the first turn, where the clock gave this answer at the start
abbrev pub started : Settings → Standing → ℕ → Pump
started o n start = pump_at turn (set_out o.turns start o.tick_ms)
    (record { loop = begun o.peers n.me; node = n; deeds = [] })

-- a net's count of faults rose only where it ended so
abbrev pub Faults : ServeEnd → ℕ → ℕ → Type 0
Faults ends.NetFault before now = Rises before now
Faults _ before now = now ≡ before

-- there are the most marks only where it ended so, and then all of them
abbrev pub Marks : ServeEnd → ℕ → Type 0
Marks ends.Starved marks = marks ≡ most_marks
Marks _ marks = marks < most_marks

-- An end request was read, and its turn was taken whole; or all turns were taken, and none was read.
abbrev pub EndsSo : ServeEnd → Pump → Type 0
EndsSo ends.Ended p = p.driver.loop.ending ≡ true
EndsSo ends.TurnsOver p = (p.left ≡ 0) × (p.driver.loop.ending ≡ false)
EndsSo _ p = Unit {0}

-- A run: net and clock gave answers, each of what was asked; from these, from the marks of what was lost and
-- from what came of each input follow all calls and the last pump.
pub record Runs (o : Settings) (line : Standing → List ℕ) (end : ServeEnd) (lost : List Mark) (n : Standing)
    (start : ℕ) (answers : List Answer) (made : List Call) (last : Pump) : Type 0 where
  pub leads : Leads (set_of o) (record { marks = lost; fates = kept last.driver.deeds }) line answers
      (started o n start) made last
  pub me : last.driver.loop.me ≡ n.me
  pub cause : EndsSo end last
  pub keeps : Keeps last.driver  -- the inputs and bytes of each connection, in order
  pub hears : HearsAll last.driver  -- no whole frame was left
  pub taken : IsBetween last.at → IsDone made last.driver  -- all that a connection takes was written

-- What serving promises: a run by the rules, and what it leaves.
pub record Serves (o : Settings) (line : Standing → List ℕ) (end : ServeEnd) (lost : List Mark)
    (n m : Standing) (net0 net1 : NetSeen) (clock0 clock1 : Option (List ℕ)) : Type 0 where
  pub start : ℕ  -- the clock's answer at the start
  pub answers : List Answer
  pub made : List Call
  pub last : Pump
  pub run : Runs o line end lost n start answers made last
  pub net : Grows net0.0 made net1.0
  pub clock : Grows clock0 (start ∷ times_in answers) clock1
  pub ends : last.at ≡ stop end
  pub faults : Faults end net0.1 net1.1
  pub lost_is : lost ≡ last.driver.loop.lost
  pub marks : Marks end (length lost)
  pub node : m ≡ last.driver.node
  pub fold : m ≡ folded n last.driver.deeds  -- the fold of its step over its inputs
  -- of each input came what may come of it: a node that has failed is opened again at its ticks, and only
  -- there; where a disk failed, the count of faults rose
  pub steps : Stepped n last.driver.deeds m
  -- steps that met a fault of the disks
  pub few : FaultsWithin n.faults (faulted_steps last.driver.deeds) m.faults

-- What it promises of the node itself: each input of that run was a step of it.
pub record ServesNode {K : Type 0} (standing : K → Standing) (stores : Stores K) (o : Settings)
    (line : Standing → List ℕ) (end : ServeEnd) (lost : List Mark) (before after : K) (net0 net1 : NetSeen)
    (clock0 clock1 : Option (List ℕ)) : Type 0 where
  pub serves : Serves o line end lost (standing before) (standing after) net0 net1 clock0 clock1
  pub walks : Walks stores before serves.last.driver.deeds after

-- nothing was served, for want of memory: the clock was read once, and nothing else was done
pub record IsUnserved {K N : Type 0} (before after : K) (net0 net1 : N)
    (clock0 clock1 : Option (List ℕ)) : Type 0 where
  pub node : after ≡ before
  pub net : net1 ≡ net0
  pub clock : (t : ℕ) × Grows clock0 (t ∷ []) clock1
