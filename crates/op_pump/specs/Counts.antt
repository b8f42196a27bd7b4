-- How many inputs may come of a turn.
use Rattle.std.specs.Prelude.{◌+◌, ◌*◌, ◌≤◌, ℕ, length}
use Rattle.op_outside.specs.Nets.{most_happenings}
use Rattle.op_setup.specs.Settings.{most_peers, most_turns}
use Rattle.op_setup.specs.declared.config.Settings.{Settings}
use Rattle.op_serving.specs.Pump.{piece_len}
use Rattle.op_serving.specs.Reading.{hello_len}

-- of a connection that is dialled: its end and its Down, and no more Ups than its hello has bytes
abbrev pub most_of_dial : ℕ
most_of_dial = 2 + hello_len

-- of a turn: a tick, the node's own wish to trim, a dial of each of so many peers, and no more frames than
-- its reads give bytes
abbrev pub most_in_turn : ℕ → ℕ
most_in_turn peers = 2 + most_of_dial * peers + most_happenings * piece_len

-- there are no more turns and peers than settings may have
pub record IsLimited (o : Settings) : Type 0 where
  pub turns : o.turns ≤ most_turns
  pub peers : length o.peers ≤ most_peers
