-- The words of tasks: none begins with `-`, and no two tasks have the same.
use Rattle.std.proofs.Common.{◌≡◌, ◌≤◌, ◌<◌, ◌^◌, length, get_or, map, ℕ, Bool, true, List, [], ◌∷◌, refl, sym, ap, ◌∙◌, subst, arith, false, IsTrue, codes, decimal}
use Rattle.std.specs.List.{flat_map}
use Rattle.std.proofs.lemmas.Bool.{false≢true}
use Rattle.std.proofs.lemmas.Fmt.{decimal_injective}
use Rattle.std.proofs.lemmas.Slice.Eq.{bytes_eq-Decides}
use Rattle.op_outside.specs.declared.net.Addr.{Addr}
use Rattle.op_types.specs.Ranges.{AreRising, CommandInRange, OpInRange, ReadInRange}
use Rattle.op_types.specs.declared.events.Request.{Request}
use Rattle.op_types.specs.declared.events.Request.TheVariants as request
use Rattle.op_types.specs.declared.read.Read.{Read}
use Rattle.op_types.specs.declared.log.Op.{Op}
use Rattle.op_types.specs.declared.log.Op.TheVariants.{Put, Del, Get, Cas, Many, Forget}
use Rattle.op_types.specs.declared.log.Command.{Command}
use Rattle.op_types.specs.declared.writes.Write.{Write}
use Rattle.op_types.specs.declared.writes.Write.TheVariants as write
use Rattle.op_gen.specs.Scenarios.{name_of}
use Rattle.op_gen.specs.declared.scenario.Scenario.{Scenario}
use Rattle.op_gen.specs.declared.scenario.Scenario.TheVariants.{Quorum, Constrained, Chained}
use Rattle.op_text.proofs.Operations.{no_op, one_command, one_read}
use Rattle.op_text.specs.Operations.{op_name, operands, read_words, write_words}
use Rattle.op_text.specs.Percent.{encoded}
use Rattle.op_setup.specs.Addresses.{addr_text}
use Rattle.op_setup.specs.Tasks.{has_flag, is_flag, most_events, most_rounds, op_words, request_words, task_words, DrillsLinks, IsRequest, IsTask, IsTaskOf, RequestInRange, TaskInRange}
use Rattle.op_setup.specs.declared.tasks.Task.{Task}
use Rattle.op_setup.specs.declared.tasks.Task.TheVariants.{Node, Replay, Call, Cluster, Drill, DrillLinks}
use Rattle.op_setup.specs.Addresses.{IsAddr}
use Rattle.op_setup.proofs.AddressTexts.{one_addr}
use Rattle.op_setup.proofs.CommandWords.{two_words, three_words}
use Rattle.op_setup.proofs.RisingIds.{decimal_tells}
use Rattle.op_setup.proofs.Flags.{plain_addr, plain_decimal, plain_encoded, plain_op_name}

-- ---- no flag

no_flag : {P : Type 0} {b : Bool} → b ≡ false → b ≡ true → P
no_flag none some = absurd (false≢true (sym none ∙ some))

one_flag : (name word : List ℕ) → is_flag name ≡ false → is_flag word ≡ false → has_flag (name ∷ word ∷ []) ≡ false
one_flag name word hn hw = rw (hn, hw) refl

call_flag : (addr word : List ℕ) → is_flag addr ≡ false → is_flag word ≡ false → has_flag (codes "call" ∷ addr ∷ word ∷ []) ≡ false
call_flag addr word ha hw = rw (ha, hw) refl

writes_flag : (ws : List Write) → has_flag (flat_map write_words ws) ≡ false
writes_flag [] = refl
writes_flag (write.Put key value ∷ ws) = rw ((plain_encoded key).flag, (plain_encoded value).flag, writes_flag ws) refl
writes_flag (write.Del key ∷ ws) = rw ((plain_encoded key).flag, writes_flag ws) refl

operands_flag : (op : Op) → OpInRange op → has_flag (operands op) ≡ false
operands_flag (Put key value) h = one_flag (encoded key) (encoded value) (plain_encoded key).flag (plain_encoded value).flag
operands_flag (Del key) h = rw (plain_encoded key).flag refl
operands_flag (Get key) h = rw (plain_encoded key).flag refl
operands_flag (Cas key old new) h = rw ((plain_encoded key).flag, (plain_encoded old).flag, (plain_encoded new).flag) refl
operands_flag (Many ws) h = writes_flag ws
operands_flag (Forget client) h = rw (plain_decimal client (omega (arith, h.1))).flag refl

words_flag : (addr name client seq : List ℕ) (words : List (List ℕ)) → is_flag addr ≡ false → is_flag name ≡ false → is_flag client ≡ false → is_flag seq ≡ false → has_flag words ≡ false
    → has_flag (codes "call" ∷ addr ∷ name ∷ client ∷ seq ∷ words) ≡ false
words_flag addr name client seq words ha hn hc hs hw = rw (ha, hn, hc, hs, hw) refl

op_flag : (addr : List ℕ) (c : Command) → is_flag addr ≡ false → CommandInRange c → has_flag (codes "call" ∷ addr ∷ op_words c.client c.seq c.op) ≡ false
op_flag addr c ha h =
    let client = plain_decimal c.client (omega (arith, h.client)) in
    let seq = plain_decimal c.seq (omega (arith, h.seq)) in
    words_flag addr (op_name c.op) (decimal c.client) (decimal c.seq) (operands c.op) ha (plain_op_name c.op).flag client.flag seq.flag (operands_flag c.op h.op)

read_flag : (addr : List ℕ) (r : Read) → is_flag addr ≡ false → ReadInRange r → has_flag (codes "call" ∷ addr ∷ codes "read" ∷ read_words r) ≡ false
read_flag addr r ha h =
    let c = plain_decimal r.client (omega (arith, h.client)) in
    let s = plain_decimal r.seq (omega (arith, h.seq)) in
    let key : has_flag (encoded r.key ∷ []) ≡ false = rw (plain_encoded r.key).flag refl in
    words_flag addr (codes "read") (decimal r.client) (decimal r.seq) (encoded r.key ∷ []) ha refl c.flag s.flag key

ids_flag : (low : ℕ) (ids : List ℕ) → AreRising low ids → has_flag (map decimal ids) ≡ false
ids_flag low [] h = refl
ids_flag low (id ∷ ids) h = rw ((plain_decimal id (omega (arith, h.1))).flag, ids_flag id ids h.2) refl

stop_flag : (addr : List ℕ) (ids : List (List ℕ)) → is_flag addr ≡ false → has_flag ids ≡ false → has_flag (codes "call" ∷ addr ∷ codes "stop" ∷ ids) ≡ false
stop_flag addr ids ha hw = rw (ha, hw) refl

numbers_flag : (seed events : ℕ) → seed < 2 ^ 64 → events < 2 ^ 64 → has_flag (codes "drill" ∷ decimal seed ∷ decimal events ∷ []) ≡ false
numbers_flag seed events hs he = rw ((plain_decimal seed hs).flag, (plain_decimal events he).flag) refl

-- the task has no such word, or drills links
flag_of : (t : Task) → TaskInRange t → has_flag (task_words t) ≡ true → DrillsLinks t
flag_of (Node id) h flag = no_flag (one_flag (codes "node") (decimal id) refl (plain_decimal id (omega (arith, h.1))).flag) flag
flag_of Replay h flag = no_flag refl flag
flag_of (Call addr (request.Command c)) h flag = no_flag (op_flag (addr_text addr) c (plain_addr addr).flag h.1.0) flag
flag_of (Call addr (request.Stop members)) h flag = no_flag (stop_flag (addr_text addr) (map decimal members) (plain_addr addr).flag (ids_flag 0 members h.1.rising)) flag
flag_of (Call addr request.Trim) h flag = no_flag (call_flag (addr_text addr) (codes "trim") (plain_addr addr).flag refl) flag
flag_of (Call addr (request.Read r)) h flag = no_flag (read_flag (addr_text addr) r (plain_addr addr).flag h.1.0) flag
flag_of (Call addr request.Status) h flag = no_flag (call_flag (addr_text addr) (codes "status") (plain_addr addr).flag refl) flag
flag_of (Call addr request.End) h flag = no_flag (call_flag (addr_text addr) (codes "end") (plain_addr addr).flag refl) flag
flag_of Cluster h flag = no_flag refl flag
flag_of (Drill seed events) h flag = no_flag (numbers_flag seed events h.0 (omega (arith, h.2))) flag
flag_of (DrillLinks scenario rounds) h flag = tt

-- words one of which begins with `-` are no other task's
pub flag_drills : (words : List (List ℕ)) (t : Task) → IsTrue (has_flag words) → IsTaskOf words t → DrillsLinks t
flag_drills words t flag is = flag_of t is.in_range (sym (ap has_flag is.written) ∙ flag)

-- ---- one request

-- the first word, and those after it
abbrev first : List (List ℕ) → List ℕ
first [] = []
first (a ∷ more) = a

abbrev after_first : List (List ℕ) → List (List ℕ)
after_first [] = []
after_first (a ∷ more) = more

one_members : (low : ℕ) (ms ns : List ℕ) → AreRising low ms → AreRising low ns → map decimal ms ≡ map decimal ns → ms ≡ ns
one_members low [] [] hm hn e = refl
one_members low [] (n ∷ ns) hm hn e = absurd cc
one_members low (m ∷ ms) [] hm hn e = absurd cc
one_members low (m ∷ ms) (n ∷ ns) hm hn e =
    let same : m ≡ n = decimal_tells m n hm.1 hn.1 cc in
    let more : map decimal ms ≡ map decimal ns = cc in
    let P : ℕ → Type 0 = λ x. AreRising x ns in
    let rest = one_members m ms ns hm.2 (subst P (sym same) hn.2) more in
    cc (same, rest)

one_request : (r s : Request) → RequestInRange r → RequestInRange s → request_words r ≡ request_words s → r ≡ s
one_request (request.Command c) (request.Command d) hr hs e =
    let name : op_name c.op ≡ op_name d.op = cc in
    let client : decimal c.client ≡ decimal d.client = cc in
    let seq : decimal c.seq ≡ decimal d.seq = cc in
    let words : operands c.op ≡ operands d.op = cc in
    ap request.Command (one_command c d hr.0 hs.0 hr.1 hs.1 name client seq words)
one_request (request.Stop ms) (request.Stop ns) hr hs e = ap request.Stop (one_members 0 ms ns hr.rising hs.rising cc)
one_request request.Trim request.Trim hr hs e = refl
one_request (request.Read r) (request.Read s) hr hs e =
    ap request.Read (one_read (read_words r) r s (record { in_range = hr.0; of_bytes = hr.1; written = refl }) (record { in_range = hs.0; of_bytes = hs.1; written = ap after_first e }))
one_request request.Status request.Status hr hs e = refl
one_request request.End request.End hr hs e = refl
one_request (request.Command c) s hr hs e = absurd (no_op c.op (first (request_words s)) refl (ap first e))
one_request r (request.Command d) hr hs e = absurd (no_op d.op (first (request_words r)) refl (sym (ap first e)))
one_request r s hr hs e = absurd (false≢true ((bytes_eq-Decides (first (request_words r)) (first (request_words s))).1 (ap first e)))

-- ---- one task

-- the second word
abbrev second : List (List ℕ) → List ℕ
second words = first (after_first words)

-- no two scenarios have the same name
one_scenario : (s t : Scenario) → name_of s ≡ name_of t → s ≡ t
one_scenario Quorum Quorum e = refl
one_scenario Constrained Constrained e = refl
one_scenario Chained Chained e = refl
one_scenario s t e = absurd (false≢true ((bytes_eq-Decides (name_of s) (name_of t)).1 e))

-- the name of a task
abbrev task_name : Task → List ℕ
task_name (Node id) = codes "node"
task_name Replay = codes "replay"
task_name (Call addr request) = codes "call"
task_name Cluster = codes "cluster"
task_name (Drill seed events) = codes "drill"
task_name (DrillLinks scenario rounds) = codes "drill"

named : (t : Task) → first (task_words t) ≡ task_name t
named (Node id) = refl
named Replay = refl
named (Call addr request) = refl
named Cluster = refl
named (Drill seed events) = refl
named (DrillLinks scenario rounds) = refl

one_of : (s t : Task) → TaskInRange s → TaskInRange t → task_words s ≡ task_words t → s ≡ t
one_of (Node p) (Node q) hs ht e = ap Node (decimal_injective p q (omega (arith, hs.1)) (omega (arith, ht.1)) cc)
one_of Replay Replay hs ht e = refl
one_of (Call a r) (Call b s) hs ht e =
    let rest = ap after_first e in
    let addr = one_addr (addr_text b) a b (hs.0, sym (ap first rest)) (ht.0, refl) in
    let request = one_request r s hs.1 ht.1 (ap after_first rest) in
    cc (addr, request)
one_of Cluster Cluster hs ht e = refl
one_of (Drill s m) (Drill t n) hs ht e =
    let seed : s ≡ t = decimal_injective s t hs.0 ht.0 cc in
    let events : m ≡ n = decimal_injective m n (omega (arith, hs.2)) (omega (arith, ht.2)) cc in
    cc
one_of (Drill s m) (DrillLinks t n) hs ht e = no_flag (plain_decimal s hs.0).flag (ap is_flag (ap second e))
one_of (DrillLinks s m) (Drill t n) hs ht e = no_flag (plain_decimal t ht.0).flag (ap is_flag (sym (ap second e)))
one_of (DrillLinks s m) (DrillLinks t n) hs ht e =
    let name : name_of s ≡ name_of t = cc in
    let scenario = one_scenario s t name in
    let rounds : m ≡ n = decimal_injective m n (omega (arith, hs.1)) (omega (arith, ht.1)) cc in
    cc
one_of s t hs ht e = absurd (false≢true ((bytes_eq-Decides (task_name s) (task_name t)).1 (sym (named s) ∙ ap first e ∙ named t)))

-- words ask for one task at most
pub one_task : (words : List (List ℕ)) (s t : Task) → IsTaskOf words s → IsTaskOf words t → s ≡ t
one_task words s t hs ht = one_of s t hs.in_range ht.in_range (sym hs.written ∙ ht.written)

-- ---- a call

-- an address and a request's words after `call` are a task's
pub call_is_task : (word : List ℕ) (rest : List (List ℕ)) (addr : Addr) → IsAddr word addr → IsRequest rest → IsTask (codes "call" ∷ word ∷ rest)
call_is_task word rest addr ha hr = (
  Call addr hr.0,
  record {
    in_range = (ha.0, hr.1.in_range);
    written = cc (ha.1, hr.1.written);
  },
)

-- ---- a drill

-- a seed and a number of events after `drill` are a task's
pub numbers_are_task : {A : Type 0} (now : A → List ℕ) (ws : List A) (d0 d1 : A) (seed events : ℕ) → 2 ≤ length ws → length ws < 3
    → now (get_or ws 0 d0) ≡ decimal seed → now (get_or ws 1 d1) ≡ decimal events → seed < 2 ^ 64 → (1 ≤ events) × (events ≤ most_events) → IsTaskOf (codes "drill" ∷ map now ws) (Drill seed events)
numbers_are_task now ws d0 d1 seed events low high first_is second_is fits range =
    let words = two_words now ws d0 d1 (decimal seed) (decimal events) low high first_is second_is in
    record { in_range = (fits, range.0, range.1); written = ap (λ (more : List (List ℕ)). codes "drill" ∷ more) words }

-- the flag, a scenario's name and a number of rounds after `drill` are a task's
pub drill_is_task : {A : Type 0} (now : A → List ℕ) (ws : List A) (d0 d1 d2 : A) (scenario : Scenario) (rounds : ℕ) → 3 ≤ length ws → length ws < 4
    → now (get_or ws 0 d0) ≡ codes "--links" → now (get_or ws 1 d1) ≡ name_of scenario → now (get_or ws 2 d2) ≡ decimal rounds
    → (1 ≤ rounds) × (rounds ≤ most_rounds) → IsTaskOf (codes "drill" ∷ map now ws) (DrillLinks scenario rounds)
drill_is_task now ws d0 d1 d2 scenario rounds low high flag name count range =
    let words = three_words now ws d0 d1 d2 (codes "--links") (name_of scenario) (decimal rounds) low high flag name count in
    record { in_range = range; written = ap (λ (more : List (List ℕ)). codes "drill" ∷ more) words }
