-- The summary of a random drill, as text.
use Rattle.std.specs.Prelude.{ℕ, List, ◌++◌, codes, decimal, length}
use Rattle.std.specs.List.{flat_map}
use Rattle.op_runs.specs.declared.summary.Listed.{Listed}
use Rattle.op_runs.specs.declared.summary.Summary.{Summary}
use Rattle.op_text.specs.Nodes.{node_text}

-- the line that names the drill
abbrev pub drill_line : ℕ → ℕ → List ℕ
drill_line seed events = codes "drill " ++ decimal seed ++ codes " " ++ decimal events ++ codes "\n"

-- how long the list of a configuration is
abbrev pub length_line : Listed → List ℕ
length_line l =
    codes "config " ++ decimal l.conf ++ codes " length " ++ decimal (length l.entries) ++ codes "\n"

-- how many messages were sent
abbrev pub sent_line : ℕ → List ℕ
sent_line sent = codes "sent " ++ decimal sent ++ codes "\n"

-- the summary of the drill of so many events that a seed draws
abbrev pub summary_text : ℕ → ℕ → Summary → List ℕ
summary_text seed events s =
    drill_line seed events ++ flat_map length_line s.lists ++ flat_map node_text s.nodes ++ sent_line s.sent
