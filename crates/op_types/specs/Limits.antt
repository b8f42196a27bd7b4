-- The greatest numbers and lengths.
use Rattle.std.specs.Prelude.{◌-◌, ◌^◌, ℕ}

-- the greatest id of a server
abbrev pub greatest_pid : ℕ
greatest_pid = 999

-- how many members a configuration has at most
abbrev pub most_members : ℕ
most_members = 31

-- the greatest number of a ballot, a client, a command or a round
abbrev pub greatest_number : ℕ
greatest_number = 2 ^ 62 - 1

-- the end of positions, which is the greatest length of a log
abbrev pub positions_end : ℕ
positions_end = 2 ^ 62

-- the last configuration
abbrev pub last_conf : ℕ
last_conf = 2 ^ 32 - 1

-- how many donors a joining node keeps at most
abbrev pub most_donors : ℕ
most_donors = 255

-- how many bytes a key has at most
abbrev pub most_key_bytes : ℕ
most_key_bytes = 64

-- how many bytes a value has at most
abbrev pub most_value_bytes : ℕ
most_value_bytes = 4096

-- how many writes a command has at most
abbrev pub most_writes : ℕ
most_writes = 16

-- so many commands are proposed together at most
abbrev pub most_commands : ℕ
most_commands = 64

-- how many bytes the entries, or the piece of a base, in a part of a long message take at most
abbrev pub most_part_bytes : ℕ
most_part_bytes = 1000000

-- how many bytes the body of a frame between servers has at most
abbrev pub most_peer_body : ℕ
most_peer_body = 2 ^ 20
