-- The report of a run, as text.
use Rattle.std.specs.Prelude.{◌+◌, ℕ, List, [], ◌∷◌, ◌++◌, codes, decimal}
use Rattle.std.specs.List.{flat_map}
use Rattle.op_types.specs.declared.log.Op.{Op}
use Rattle.op_types.specs.declared.log.Op.TheVariants.{Put, Del, Get, Cas, Many, Forget}
use Rattle.op_types.specs.declared.writes.Write.{Write}
use Rattle.op_types.specs.declared.writes.Write.TheVariants as write
use Rattle.op_types.specs.declared.log.Entry.{Entry}
use Rattle.op_types.specs.declared.log.Entry.TheVariants as entry
use Rattle.op_runs.specs.declared.summary.Line.{Line}
use Rattle.op_runs.specs.declared.summary.Line.TheVariants as line
use Rattle.op_runs.specs.declared.summary.Listed.{Listed}
use Rattle.op_runs.specs.declared.summary.Summary.{Summary}
use Rattle.op_text.specs.Percent.{encoded}
use Rattle.op_text.specs.Answers.{ballot_text, cause_text, outcome_text, answer_text}
use Rattle.op_text.specs.Nodes.{node_text}

-- ---- what events gave

-- a line that an event gave
abbrev pub line_text : Line → List ℕ
line_text (line.Answer at outcome) =
    codes "answer " ++ decimal at ++ codes " " ++ outcome_text outcome ++ codes "\n"
line_text (line.Reply pid client seq answer) =
    codes "reply " ++ decimal pid ++ codes " " ++ decimal client ++ codes " " ++ decimal seq ++ codes " "
    ++ answer_text answer ++ codes "\n"
line_text (line.Dropped pid client seq cause) =
    codes "dropped " ++ decimal pid ++ codes " " ++ decimal client ++ codes " " ++ decimal seq ++ codes " "
    ++ cause_text cause ++ codes "\n"
line_text (line.Read pid client seq answer) =
    codes "read " ++ decimal pid ++ codes " " ++ decimal client ++ codes " " ++ decimal seq ++ codes " "
    ++ answer_text answer ++ codes "\n"
line_text (line.Pair pid key value) =
    codes "pair " ++ decimal pid ++ codes " " ++ encoded key ++ codes " " ++ encoded value ++ codes "\n"
line_text (line.Ballots pid own leader promised) =
    codes "ballots " ++ decimal pid ++ codes " own " ++ ballot_text own
    ++ codes " leader " ++ ballot_text leader
    ++ codes " promised " ++ ballot_text promised ++ codes "\n"

-- ---- the lists

-- an id after a space
abbrev pub pid_text : ℕ → List ℕ
pid_text p = codes " " ++ decimal p

-- a client, the number of its command, and a key, each after a space
abbrev pub keyed_text : ℕ → ℕ → List ℕ → List ℕ
keyed_text client seq key =
    codes " " ++ decimal client ++ codes " " ++ decimal seq ++ codes " " ++ encoded key

-- one of several writes, each word after a space
abbrev pub write_text : Write → List ℕ
write_text (write.Put key value) = codes " put " ++ encoded key ++ codes " " ++ encoded value
write_text (write.Del key) = codes " del " ++ encoded key

-- a client's operation
abbrev pub op_text : ℕ → ℕ → Op → List ℕ
op_text client seq (Put key value) = codes "put" ++ keyed_text client seq key ++ codes " " ++ encoded value
op_text client seq (Del key) = codes "del" ++ keyed_text client seq key
op_text client seq (Get key) = codes "get" ++ keyed_text client seq key
op_text client seq (Cas key old new) =
    codes "cas" ++ keyed_text client seq key ++ codes " " ++ encoded old ++ codes " " ++ encoded new
op_text client seq (Many writes) =
    codes "many " ++ decimal client ++ codes " " ++ decimal seq ++ flat_map write_text writes
op_text client seq (Forget other) =
    codes "forget " ++ decimal client ++ codes " " ++ decimal seq ++ codes " " ++ decimal other

-- what a log holds at a position
abbrev pub entry_text : Entry → List ℕ
entry_text (entry.Command c) = op_text c.client c.seq c.op
entry_text (entry.Stop s) = codes "stop" ++ flat_map pid_text s.members

-- the line of an entry
abbrev pub entry_line : ℕ → ℕ → Entry → List ℕ
entry_line conf pos e =
    codes "entry " ++ decimal conf ++ codes " " ++ decimal pos ++ codes " " ++ entry_text e ++ codes "\n"

-- the entries of a configuration, from a position on
abbrev pub entries_text : ℕ → ℕ → List Entry → List ℕ
entries_text conf pos [] = []
entries_text conf pos (e ∷ es) = entry_line conf pos e ++ entries_text conf (pos + 1) es

-- the line that begins a configuration's list
abbrev pub config_line : ℕ → List ℕ → List ℕ
config_line conf members =
    codes "config " ++ decimal conf ++ codes " members" ++ flat_map pid_text members ++ codes "\n"

-- a configuration's list
abbrev pub listed_text : Listed → List ℕ
listed_text l = config_line l.conf l.members ++ entries_text l.conf 0 l.entries

-- the report of a run
abbrev pub report_of : Summary → List ℕ
report_of s = flat_map line_text s.lines ++ flat_map listed_text s.lists ++ flat_map node_text s.nodes
