-- What begins and ends some of the report's lines. Only what is inside the crate speaks of this.
use Rattle.std.specs.Prelude.{ℕ, List, ◌++◌, codes, decimal}
use Rattle.std.specs.List.{flat_map}
use Rattle.op_types.specs.declared.log.Op.{Op}
use Rattle.op_types.specs.declared.log.Op.TheVariants.{Put, Del, Get, Cas, Many, Forget}
use Rattle.op_text.specs.Percent.{encoded}
use Rattle.op_sched.specs.Text.{write_text}

-- a node, a client, and the number of its command or its read, each before a space
abbrev pub asked_text : ℕ → ℕ → ℕ → List ℕ
asked_text pid client seq =
    decimal pid ++ codes " " ++ decimal client ++ codes " " ++ decimal seq ++ codes " "

-- the name of an entry's line, a configuration and a position, each before a space
abbrev pub place_text : ℕ → ℕ → List ℕ
place_text conf pos = codes "entry " ++ decimal conf ++ codes " " ++ decimal pos ++ codes " "

-- what an operation is done with, each word after a space
abbrev pub operands_text : Op → List ℕ
operands_text (Put key value) = codes " " ++ encoded key ++ codes " " ++ encoded value
operands_text (Del key) = codes " " ++ encoded key
operands_text (Get key) = codes " " ++ encoded key
operands_text (Cas key old new) =
    codes " " ++ encoded key ++ codes " " ++ encoded old ++ codes " " ++ encoded new
operands_text (Many writes) = flat_map write_text writes
operands_text (Forget client) = codes " " ++ decimal client
