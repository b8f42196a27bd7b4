-- What is in range of a world, where the ids of its servers are known.
use Rattle.std.proofs.Common.{List, ℕ, All}
use Rattle.std.proofs.lemmas.Cmp.{nat_eq_equiv}
use Rattle.std.proofs.lemmas.Map.Made.{All-is_member}
use Rattle.op_types.specs.Ranges.{IsMember, IsPid, MembersInRange}
use Rattle.op_runs.specs.World.{Happening, first_world, node_ids, run_of}
use Rattle.op_runs.specs.Possible.{SparesInRange, ObserversInRange, server_ids}
use Rattle.op_bounds.specs.Messages.{AreIds}
use Rattle.op_bounds.specs.Laws.{StartInRange, WorldInRange, HappeningInRange}
use Rattle.op_bounds.proofs.Known.{rising_ids}
use Rattle.op_bounds.proofs.Runs.{runs_stay}
use Rattle.op_runs.proofs.Servers.{all_at, both_back}
use Rattle.op_executions.proofs.ServerIds.{servers_rising}

pub member_ids : (ids : List ℕ) → MembersInRange ids → All IsPid ids
member_ids ids h = rising_ids 0 ids h.rising

module _ (members spares observers : List ℕ) (m : MembersInRange members) (s : SparesInRange members spares) (o : ObserversInRange members spares observers) where
  abbrev all : List ℕ
  all = server_ids members spares observers

  -- they are ids
  pub servers_are_ids : AreIds (IsMember all)
  servers_are_ids q one = all_at IsPid all q (rising_ids 0 all (servers_rising members spares observers m s o)) one

  -- nodes and observers are among them
  among : All (IsMember all) (node_ids members spares) × All (IsMember all) observers
  among = both_back (IsMember all) observers (node_ids members spares) (All-is_member nat_eq_equiv all)

  pub observers_known : All (IsMember all) observers
  observers_known = among.1

  pub servers_start : StartInRange (IsMember all) members spares
  servers_start = let both = both_back (IsMember all) spares members among.0 in record { members_are = record { range = m; known = both.0 }; spares_are = both.1 }

  -- the world of a run that names them alone is in range
  pub world_in_range : (hs : List Happening) → All (HappeningInRange (IsMember all)) hs → WorldInRange (IsMember all) (run_of (first_world members spares) hs)
  world_in_range hs known = runs_stay (IsMember all) servers_are_ids members spares servers_start hs known
