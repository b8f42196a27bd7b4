-- Which command lets another client's call take effect again in a cluster: one that forgets its client, in no
-- other configurations than those in which the call comes.
use Rattle.std.specs.Prelude.{◌≡◌, ◌≤◌, ◌++◌, ◌∷◌, ℕ, List}
use Rattle.op_types.specs.declared.log.Command.{Command}
use Rattle.op_spec.specs.Machine.{IsAmong}
use Rattle.op_runs.specs.declared.events.What.TheVariants as what
use Rattle.op_runs.specs.Run.{latest_at}
use Rattle.op_runs.specs.World.{Happening, first_world, run_of, node_at}
use Rattle.op_cluster_laws.specs.Becoming.{TraceBecomes}
use Rattle.op_cluster_laws.specs.Worlds.{OfClusters, IsRun}
use Rattle.op_linear.specs.Calls.{IsClientHistory}
use Rattle.op_linear.specs.Forgetting.{IsForgetOf, LinearizableUntil, NoneLets}
use Rattle.op_linear.specs.Linearizable.{ClientCall, commands, reads, History, Linearizable}

-- in a run a node takes in a command while this is the latest configuration that it knows
pub record IsTakenIn (members spares : List ℕ) (hs : List Happening) (conf : ℕ) (c : Command) : Type 0 where
  pub before : List Happening
  pub now : Happening
  pub after : List Happening
  pub is : hs ≡ before ++ now ∷ after
  pub pid : ℕ
  pub together : List Command
  pub comes : now.event.what ≡ what.Commands pid together
  pub among : IsAmong together c
  pub latest : latest_at (node_at (run_of (first_world members spares) before).nodes pid) ≡ conf

-- in no higher configuration than one in which this other one is
abbrev pub ComesByThen : List ℕ → List ℕ → List Happening → Command → Command → Type 0
ComesByThen members spares hs c d =
    (j k : ℕ) × IsTakenIn members spares hs j c × IsTakenIn members spares hs k d × (j ≤ k)

-- It forgets the client of the call. But not if all commands that are this call come in configurations below
-- those in which it comes itself, or all in configurations above them.
abbrev pub LetsAgain : List ℕ → List ℕ → List Happening → Command → ClientCall → Type 0
LetsAgain members spares hs f (commands c) =
    IsForgetOf c.client f × ComesByThen members spares hs c f × ComesByThen members spares hs f c
LetsAgain members spares hs f (reads r) = ⊥

-- A trace is a run, in which each history of clients is linearizable until a call may come again; and where
-- none may, it is linearizable.
abbrev pub ClustersLetAgain : Type 0
ClustersLetAgain = OfClusters (λ members spares observers faulted trace.
    (hs : List Happening) × IsRun members spares observers faulted trace hs
    × TraceBecomes members spares observers faulted trace hs
    × ((h : History) → IsClientHistory members spares observers faulted trace h
    → LinearizableUntil (LetsAgain members spares hs) h
    × (NoneLets (LetsAgain members spares hs) h → Linearizable h)))
