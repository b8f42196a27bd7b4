-- What commands wrote, as it stands over a service, and what they are answered.
use Rattle.std.specs.Prelude.{ℕ, ◌==◌, nat_lt, List, [], ◌∷◌, Option, Some, None, if◌then◌else◌}
use Rattle.std.specs.Ordering.{nat_cmp}
use Rattle.std.specs.Cmp.Lexicographic.{slice_cmp}
use Rattle.op_spec.specs.Service.{Pairs, Clients, Service, answer_of, service_with}
use Rattle.op_overlay.specs.Entries.{entries_over, without}
use Rattle.op_types.specs.declared.log.Entry.{Entry}
use Rattle.op_types.specs.declared.log.Entry.TheVariants as entry
use Rattle.op_types.specs.declared.answers.Answer.{Answer}
use Rattle.op_types.specs.declared.answers.Answer.TheVariants as answer
use Rattle.op_types.specs.declared.answers.Applied.{Applied}

-- What commands wrote. A key that was taken out and then put again is in both, and so is a client that was
-- forgotten and then heard again.
pub record Written : Type 0 where
  pub pairs : Pairs
  pub gone : List (List ℕ)  -- the keys that were taken out
  pub clients : Clients
  pub forgotten : List ℕ

-- nothing is written
abbrev pub nothing_written : Written
nothing_written = record { pairs = []; gone = []; clients = []; forgotten = [] }

-- the pairs without the keys that are gone, and then with the newer pairs
abbrev pub pairs_over : Pairs → Written → Pairs
pairs_over pairs w = entries_over (slice_cmp nat_cmp) (without (slice_cmp nat_cmp) pairs w.gone) w.pairs

-- the clients without those that are forgotten, and then with the newer ones
abbrev pub clients_over : Clients → Written → Clients
clients_over clients w = entries_over nat_cmp (without nat_cmp clients w.forgotten) w.clients

-- the service, with what was written over it
abbrev pub service_over : Service → Written → Service
service_over s w = record { pairs = pairs_over s.pairs w; clients = clients_over s.clients w }

-- what the service answers these entries' commands, in their order
abbrev pub answers_of : Service → List Entry → List Answer
answers_of s [] = []
answers_of s (entry.Command c ∷ es) = answer_of s c ∷ answers_of (service_with s c) es
answers_of s (entry.Stop stop ∷ es) = answers_of s es

-- what a number is answered that isn't above its client's last one
abbrev pub told_again : Option Applied → ℕ → Option Answer
told_again None seq = None
told_again (Some last) seq =
    if nat_lt last.seq seq then None else if seq == last.seq then Some last.answer else Some answer.Stale
