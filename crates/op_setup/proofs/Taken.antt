-- What clap makes of the words of a task.
use Rattle.std.proofs.Common.{◌&&◌, ◌+◌, ◌*◌, false, subst, refl, sym, ap, ap₂, ◌∙◌, List, [], ◌∷◌, ◌++◌, append-nil, append_assoc, length, map, ℕ, ◌≤◌, ◌≡◌, true, Option, None, Some, option_map, codes, decimal, arith}
use Rattle.std.specs.Prelude.{slice_get, fold, find}
use Rattle.std.specs.Option.{unwrap_or, is_some}
use Rattle.std.specs.List.{list_all}
use Rattle.std.proofs.lemmas.Bool.{le-leb, and_from, and_parts}
use Rattle.op_setup.specs.Commands.{several}
use Rattle.std.proofs.lemmas.List.{length-map}
use Rattle.clap.specs.Words.{App, HasMatchesOf, Rule, takes, is_simple, subcommand_of, subcommand_name_of, subcommand_rows_of}
use Rattle.clap.specs.Walk.{Walk, Names, Row, walk, walk_from, walked, nothing_held, idle, positional, answers_to, arg_by_id, most_values, finished}
use Rattle.clap.specs.Takes.{value_passes, settle_passes, turn_passes, walk_passes, default_passes, is_valid, level_passes, entered_passes}
use Rattle.clap.specs.Simple.{Shape, built, entered, label_of, names_of}
use Rattle.clap.specs.declared.parser.matches.ArgMatches.{ArgMatches}
use Rattle.clap.specs.declared.parser.matches.ArgMatches.TheViews.{out-ArgMatches}
use Rattle.clap.proofs.OnLiterals.{clap_on_literals}
use Rattle.op_setup.specs.declared.tasks.Task.{Task}
use Rattle.op_setup.specs.declared.tasks.Task.TheVariants.{Node, Replay, Call, Cluster, Drill, DrillLinks}
use Rattle.op_types.specs.Limits.{most_writes}
use Rattle.op_types.specs.declared.events.Request.{Request}
use Rattle.op_types.specs.declared.events.Request.TheVariants as request
use Rattle.op_gen.specs.Scenarios.{name_of}
use Rattle.op_gen.specs.declared.scenario.Scenario.{Scenario}
use Rattle.op_gen.specs.declared.scenario.Scenario.TheVariants.{Quorum, Constrained, Chained}
use Rattle.op_text.specs.Operations.{op_name, operands, read_words}
use Rattle.op_text.proofs.Operations.{few_operands}
use Rattle.op_setup.specs.Addresses.{addr_text}
use Rattle.op_setup.specs.Tasks.{request_words, task_words, IsTask, RequestInRange, TaskInRange}
use Rattle.op_setup.proofs.Flags.{IsPlainWord, plain_addr, plain_decimal, plain_op_name}
use Rattle.op_setup.specs.Commands.{omni_app}

node_taken : (id : List ℕ) → IsPlainWord id → takes omni_app (codes "node" ∷ id ∷ []) ≡ true
unfolding clap_on_literals
node_taken id h = rw (h.long, h.short, h.bare) refl

replay_taken : takes omni_app (codes "replay" ∷ []) ≡ true
unfolding clap_on_literals
replay_taken = refl

cluster_taken : takes omni_app (codes "cluster" ∷ []) ≡ true
unfolding clap_on_literals
cluster_taken = refl

drill_taken : (scenario : Scenario) (rounds : List ℕ) → IsPlainWord rounds → takes omni_app (codes "drill" ∷ codes "--links" ∷ name_of scenario ∷ rounds ∷ []) ≡ true
unfolding clap_on_literals
drill_taken Quorum rounds h = rw (h.long, h.short, h.bare) refl
drill_taken Constrained rounds h = rw (h.long, h.short, h.bare) refl
drill_taken Chained rounds h = rw (h.long, h.short, h.bare) refl

numbers_taken : (seed events : List ℕ) → IsPlainWord seed → IsPlainWord events → takes omni_app (codes "drill" ∷ seed ∷ events ∷ []) ≡ true
unfolding clap_on_literals
numbers_taken seed events h k = rw (h.long, h.short, h.bare, k.long, k.short, k.bare) refl

-- ---- a call: of the words behind a request's name clap reads none

-- how many words stand behind it at most: a client, a number, and what an operation is done with
abbrev most_after : ℕ
most_after = 2 + 3 * most_writes

-- the program's commands, as clap has them
abbrev program : App
program = built omni_app

-- where the walk over the program's words stands once a command was met
abbrev stopped_at : List ℕ → List (List ℕ) → Walk
stopped_at name words = record { held = nothing_held; waiting = idle; position = 1; is_trailing = false; stopped = Some (name, words) }

gathers : (c : List Rule) (names : Names) (name : List ℕ) (words more : List (List ℕ)) → fold (walked c names) (stopped_at name words) more ≡ stopped_at name (words ++ more)
unfolding walked
gathers c names name words [] = ap (stopped_at name) (sym (append-nil words))
gathers c names name words (w ∷ more) = gathers c names name (words ++ w ∷ []) more ∙ ap (stopped_at name) (append_assoc words (w ∷ []) more)

stopped_passes : (s : Shape) (names : Names) (name : List ℕ) (words more : List (List ℕ)) → walk_passes s names (stopped_at name words) more ≡ true
unfolding walked walk_passes
stopped_passes s names name words [] = refl
stopped_passes s names name words (w ∷ more) = stopped_passes s names name (words ++ w ∷ []) more

-- the command `call`, and where the walk over its words stands behind a request's name
abbrev of_call : Shape
of_call = unwrap_or (find (λ s. answers_to (codes "call") (label_of s)) program.subs) program.top

abbrev reading_words : List Row → List (List ℕ) → Walk
reading_words rows words = record {
  held = record { rows = rows; pending = Some (codes "word", words); skip = 0 };
  waiting = positional;
  position = 2;
  is_trailing = true;
  stopped = None;
}

reads : (rows : List Row) (words more : List (List ℕ)) → fold (walked of_call.rules []) (reading_words rows words) more ≡ reading_words rows (words ++ more)
unfolding clap_on_literals
reads rows words [] = ap (reading_words rows) (sym (append-nil words))
reads rows words (w ∷ more) = reads rows (words ++ w ∷ []) more ∙ ap (reading_words rows) (append_assoc words (w ∷ []) more)

reading_passes : (rows : List Row) (words more : List (List ℕ)) → walk_passes of_call [] (reading_words rows words) more ≡ true
unfolding clap_on_literals
reading_passes rows words [] = refl
reading_passes rows words (w ∷ more) = reading_passes rows (words ++ w ∷ []) more

-- the rule of these words, which all pass
abbrev word_rule : Rule
word_rule = unwrap_or (arg_by_id of_call.rules (codes "word")) (several (codes "word"))

all_pass : (words : List (List ℕ)) → list_all (value_passes word_rule) words ≡ true
all_pass [] = refl
all_pass (w ∷ words) = all_pass words

settles : (rows : List Row) (name : List ℕ) (more : List (List ℕ)) → length more ≤ most_after → settle_passes of_call.rules of_call.args_override_self (reading_words rows (name ∷ more)).held ≡ true
settles rows name more few = and_from _ _ (le-leb 1 (length (name ∷ more)) (omega arith)) (and_from _ _ (le-leb (length (name ∷ more)) (most_values word_rule) (omega (arith, few))) (all_pass (name ∷ more)))

-- where the walk stands behind the request's name
abbrev at_name : List ℕ → List ℕ → Walk
at_name addr name = walked of_call.rules [] (walked of_call.rules [] (walk_from nothing_held) addr) name

begins : (addr name : List ℕ) → IsPlainWord addr → IsPlainWord name → at_name addr name ≡ reading_words (at_name addr name).held.rows (name ∷ [])
unfolding clap_on_literals
begins addr name h n = rw (h.long, h.short, h.bare, n.long, n.short, n.bare) refl

both_pass : (addr name : List ℕ) → IsPlainWord addr → IsPlainWord name
    → (turn_passes of_call [] (walk_from nothing_held) addr && turn_passes of_call [] (walked of_call.rules [] (walk_from nothing_held) addr) name) ≡ true
unfolding clap_on_literals
both_pass addr name h n = rw (h.long, h.short, h.bare, n.long, n.short, n.bare) refl

valid : (addr name : List ℕ) (more : List (List ℕ)) → IsPlainWord addr → IsPlainWord name
    → (list_all default_passes of_call.rules && is_valid of_call (finished of_call.rules (reading_words (at_name addr name).held.rows (name ∷ more)).held) false) ≡ true
unfolding clap_on_literals
valid addr name more h n = rw (h.long, h.short, h.bare, n.long, n.short, n.bare) refl

call_passes : (addr name : List ℕ) (more : List (List ℕ)) → IsPlainWord addr → IsPlainWord name → length more ≤ most_after → level_passes of_call [] nothing_held (addr ∷ name ∷ more) false ≡ true
unfolding walked walk_passes
call_passes addr name more h n few =
    let rows : List Row = (at_name addr name).held.rows in
    let end : walk of_call.rules [] nothing_held (addr ∷ name ∷ more) ≡ reading_words rows (name ∷ more) =
    ap (λ (w : Walk). fold (walked of_call.rules []) w more) (begins addr name h n) ∙ reads rows (name ∷ []) more in
    let both = and_parts _ _ (both_pass addr name h n) in
    and_from _ _ (and_from _ _ both.0 (and_from _ _ both.1 (subst (λ (w : Walk). walk_passes of_call [] w more ≡ true) (sym (begins addr name h n)) (reading_passes rows (name ∷ []) more))))
    (and_from _ _ (subst (λ (w : Walk). settle_passes of_call.rules of_call.args_override_self w.held ≡ true) (sym end) (settles rows name more few))
    (subst (λ (w : Walk). (list_all default_passes of_call.rules && is_valid of_call (finished of_call.rules w.held) false) ≡ true) (sym end) (valid addr name more h n)))

-- where the walk over the program's words ends
stops : (words : List (List ℕ)) → walk program.top.rules (names_of program) nothing_held (codes "call" ∷ words) ≡ stopped_at (codes "call") words
unfolding clap_on_literals
stops words = gathers program.top.rules (names_of program) (codes "call") [] words

program_passes : (words : List (List ℕ)) → level_passes program.top (names_of program) nothing_held (codes "call" ∷ words) true ≡ true
unfolding clap_on_literals
program_passes words =
    and_from _ _ (stopped_passes program.top (names_of program) (codes "call") [] words)
    (subst (λ (w : Walk). (settle_passes program.top.rules program.top.args_override_self w.held && (list_all default_passes program.top.rules && is_valid program.top (finished program.top.rules w.held) true)) ≡ true) (sym (stops words)) refl)

-- a call of a plain name and more words, of which clap reads none
words_taken : (addr name : List ℕ) (more : List (List ℕ)) → IsPlainWord addr → IsPlainWord name → length more ≤ most_after → takes omni_app (codes "call" ∷ addr ∷ name ∷ more) ≡ true
unfolding clap_on_literals
words_taken addr name more h n few =
    subst (λ (w : Walk). (entered_passes program w.stopped && level_passes program.top (names_of program) nothing_held (codes "call" ∷ addr ∷ name ∷ more) (is_some (entered program w.stopped))) ≡ true)
    (sym (stops (addr ∷ name ∷ more))) (and_from _ _ (call_passes addr name more h n few) (program_passes (addr ∷ name ∷ more)))

-- the names of requests
abbrev request_name : Request → List ℕ
request_name (request.Command c) = op_name c.op
request_name (request.Stop members) = codes "stop"
request_name request.Trim = codes "trim"
request_name (request.Read r) = codes "read"
request_name request.Status = codes "status"
request_name request.End = codes "end"

-- what stands after the name
abbrev after_name : Request → List (List ℕ)
after_name (request.Command c) = decimal c.client ∷ decimal c.seq ∷ operands c.op
after_name (request.Stop members) = map decimal members
after_name request.Trim = []
after_name (request.Read r) = read_words r
after_name request.Status = []
after_name request.End = []

name_first : (r : Request) → request_words r ≡ request_name r ∷ after_name r
name_first (request.Command c) = refl
name_first (request.Stop members) = refl
name_first request.Trim = refl
name_first (request.Read r) = refl
name_first request.Status = refl
name_first request.End = refl

plain_name : (r : Request) → IsPlainWord (request_name r)
plain_name (request.Command c) = plain_op_name c.op
plain_name (request.Stop members) = record { flag = refl; long = refl; short = refl; bare = refl }
plain_name request.Trim = record { flag = refl; long = refl; short = refl; bare = refl }
plain_name (request.Read r) = record { flag = refl; long = refl; short = refl; bare = refl }
plain_name request.Status = record { flag = refl; long = refl; short = refl; bare = refl }
plain_name request.End = record { flag = refl; long = refl; short = refl; bare = refl }

few_after : (r : Request) → RequestInRange r → length (after_name r) ≤ most_after
few_after (request.Command c) h = omega (arith, few_operands c.op h.0.op)
few_after (request.Stop members) h = omega (arith, length-map members decimal, h.few)
few_after request.Trim h = omega arith
few_after (request.Read r) h = omega arith
few_after request.Status h = omega arith
few_after request.End h = omega arith

call_taken : (addr : List ℕ) (r : Request) → IsPlainWord addr → RequestInRange r → takes omni_app (codes "call" ∷ addr ∷ request_words r) ≡ true
call_taken addr r plain h =
    ap (λ (words : List (List ℕ)). takes omni_app (codes "call" ∷ addr ∷ words)) (name_first r)
    ∙ words_taken addr (request_name r) (after_name r) plain (plain_name r) (few_after r h)

taken : (t : Task) → TaskInRange t → takes omni_app (task_words t) ≡ true
taken (Node id) h = node_taken (decimal id) (plain_decimal id (omega (arith, h.1)))
taken Replay h = replay_taken
taken (Call addr r) h = call_taken (addr_text addr) r (plain_addr addr) h.1
taken Cluster h = cluster_taken
taken (Drill seed events) h = numbers_taken (decimal seed) (decimal events) (plain_decimal seed h.0) (plain_decimal events (omega (arith, h.2)))
taken (DrillLinks scenario rounds) h = drill_taken scenario (decimal rounds) (plain_decimal rounds (omega (arith, h.1)))

simple : is_simple omni_app ≡ true
unfolding clap_on_literals
simple = refl

-- the name of the command that clap finds
abbrev name_found : List (List ℕ) → Option (List ℕ)
name_found words = option_map (λ p. p.0) (subcommand_of omni_app words)

node_found : (id : List ℕ) → name_found (codes "node" ∷ id ∷ []) ≡ Some (codes "node")
unfolding clap_on_literals
node_found id = refl

replay_found : name_found (codes "replay" ∷ []) ≡ Some (codes "replay")
unfolding clap_on_literals
replay_found = refl

cluster_found : name_found (codes "cluster" ∷ []) ≡ Some (codes "cluster")
unfolding clap_on_literals
cluster_found = refl

drill_found : (scenario : Scenario) (rounds : List ℕ) → name_found (codes "drill" ∷ codes "--links" ∷ name_of scenario ∷ rounds ∷ []) ≡ Some (codes "drill")
unfolding clap_on_literals
drill_found Quorum rounds = refl
drill_found Constrained rounds = refl
drill_found Chained rounds = refl

numbers_found : (seed events : List ℕ) → name_found (codes "drill" ∷ seed ∷ events ∷ []) ≡ Some (codes "drill")
unfolding clap_on_literals
numbers_found seed events = refl

call_found : (addr name : List ℕ) (more : List (List ℕ)) → name_found (codes "call" ∷ addr ∷ name ∷ more) ≡ Some (codes "call")
unfolding clap_on_literals
call_found addr name more = ap (λ (w : Walk). option_map (λ (p : List ℕ × List Row). p.0) (entered program w.stopped)) (stops (addr ∷ name ∷ more))

request_found : (addr : List ℕ) (r : Request) → RequestInRange r → name_found (codes "call" ∷ addr ∷ request_words r) ≡ Some (codes "call")
request_found addr r h = ap (λ (words : List (List ℕ)). name_found (codes "call" ∷ addr ∷ words)) (name_first r) ∙ call_found addr (request_name r) (after_name r)

found : (t : Task) → TaskInRange t → name_found (task_words t) ≡ slice_get (task_words t) 0
found (Node id) h = node_found (decimal id)
found Replay h = replay_found
found (Call addr r) h = request_found (addr_text addr) r h.1
found Cluster h = cluster_found
found (Drill seed events) h = numbers_found (decimal seed) (decimal events)
found (DrillLinks scenario rounds) h = drill_found scenario (decimal rounds)

mapped_twice : {A B C : Type 0} (f : A → B) (g : B → C) (o : Option A) → option_map g (option_map f o) ≡ option_map (λ x. g (f x)) o
mapped_twice f g None = refl
mapped_twice f g (Some x) = refl

pub takes_task : (a : App) (words : List (List ℕ)) → a ≡ omni_app → IsTask words → takes a words ≡ true
takes_task a words e (t, is) = ap₂ takes e is.written ∙ taken t is.in_range

pub finds_task : (a : App) (words : List (List ℕ)) (m : ArgMatches) → a ≡ omni_app → HasMatchesOf a words m → IsTask words → subcommand_name_of m ≡ slice_get words 0
finds_task a words m e h (t, is) =
    let name : option_map (λ p. p.0) (subcommand_rows_of m) ≡ subcommand_name_of m = mapped_twice _ (λ p. p.0) (out-ArgMatches m).subcommand in
    let rows : subcommand_rows_of m ≡ subcommand_of omni_app (task_words t) = (h (ap is_simple e ∙ simple)).1 ∙ ap₂ subcommand_of e is.written in
    sym name ∙ ap (λ o. option_map (λ p. p.0) o) rows ∙ found t is.in_range ∙ ap (λ ws. slice_get ws 0) (sym is.written)
