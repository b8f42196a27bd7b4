-- The commands as clap sees them. Only what is inside the crate speaks of this.
use Rattle.std.specs.Prelude.{◌≡◌, ℕ, List, codes, slice_get, Some, true}
use Rattle.clap.specs.Lexer.{usize_max}
use Rattle.clap.specs.Words.{App, Rule, new_app, new_rule, subcommand_name_of, with_rule, with_subcommand}
use Rattle.clap.specs.declared.builder.action.ArgAction.TheVariants.{Set, Append}
use Rattle.clap.specs.declared.parser.matches.ArgMatches.{ArgMatches}

-- a word that has to be there
abbrev pub needed : List ℕ → Rule
needed id = record (new_rule id) { required = true; action = Some Set }

-- a word that may be there
abbrev pub optional : List ℕ → Rule
optional id = record (new_rule id) { action = Some Set }

-- one word or more, to the last one
abbrev pub several : List ℕ → Rule
several id = record (new_rule id) {
  required = true;
  action = Some Append;
  range = Some (record { start_inclusive = 1; end_inclusive = usize_max });
  trailing_var_arg = true;
}

-- `node ID`
abbrev pub node_app : App
node_app = with_rule (new_app (codes "node")) (needed (codes "id"))

-- `replay`, with no more words
abbrev pub replay_app : App
replay_app = new_app (codes "replay")

-- `call ADDR WORD..`
abbrev pub call_app : App
call_app = with_rule (with_rule (new_app (codes "call")) (needed (codes "addr"))) (several (codes "word"))

-- `cluster`, with no more words
abbrev pub cluster_app : App
cluster_app = new_app (codes "cluster")

-- `drill SEED EVENTS`, or `drill --links NAME ROUNDS`
abbrev pub drill_app : App
drill_app =
    with_rule
    (with_rule
    (with_rule (new_app (codes "drill")) (record (optional (codes "links")) { long = Some (codes "links") }))
    (needed (codes "number")))
    (optional (codes "events"))

-- the program, whose words come without its own name
abbrev pub program_app : App
program_app = let a = new_app (codes "omni") in record a { top = record a.top { no_binary_name = true } }

-- the program and its commands
abbrev pub omni_app : App
omni_app =
    with_subcommand
    (with_subcommand
    (with_subcommand
    (with_subcommand (with_subcommand program_app node_app.top) replay_app.top)
    call_app.top)
    cluster_app.top)
    drill_app.top

-- clap found the command that the first word names
abbrev pub NamesFirst : ArgMatches → List (List ℕ) → Type 0
NamesFirst m words = subcommand_name_of m ≡ slice_get words 0
