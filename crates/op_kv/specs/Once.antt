-- How often a command takes effect: once, until its client is forgotten.
use Rattle.std.specs.Prelude.{◌≡◌, ◌<◌, ℕ, List, Some, None, All}
use Rattle.op_types.specs.declared.answers.Applied.{Applied}
use Rattle.op_types.specs.declared.log.Command.{Command}
use Rattle.op_types.specs.declared.log.Entry.{Entry}
use Rattle.op_types.specs.declared.log.Entry.TheVariants as entry
use Rattle.op_spec.specs.Service.{Service, last_of, forgotten_by, effect_answer, answer_of, service_with, service_with_effect, all_after}
use Rattle.op_spec.specs.ServiceRanges.{ServiceIsOrdered}

-- the entry forgets this client, where it takes effect
abbrev pub Forgets : ℕ → Entry → Type 0
Forgets client (entry.Command c) = forgotten_by c.op ≡ Some client
Forgets client (entry.Stop s) = ⊥

-- A command that was applied or answered does nothing where it comes again, whatever came in between, unless
-- that forgets its client.
abbrev pub CommandsCountOnce : Type 0
CommandsCountOnce =
    (s : Service) → ServiceIsOrdered s → (c : Command) (es : List Entry)
    → All (λ e. Forgets c.client e → ⊥) es
    → let t : Service = all_after (service_with s c) es in service_with t c ≡ t

-- its number is above what is kept of its client
abbrev pub IsNew : Service → Command → Type 0
IsNew s c = (last : Applied) → last_of s c.client ≡ Some last → last.seq < c.seq

-- of a client that another's command forgets nothing is kept
abbrev pub ForgottenAreUnseen : Type 0
ForgottenAreUnseen =
    (s : Service) → ServiceIsOrdered s → (c : Command) (client : ℕ) → IsNew s c
    → forgotten_by c.op ≡ Some client → (client ≡ c.client → ⊥) → last_of (service_with s c) client ≡ None

-- whatever the number, a command of a client of which nothing is kept takes effect, and is answered so
abbrev pub UnseenTakeEffect : Type 0
UnseenTakeEffect =
    (s : Service) (c : Command) → last_of s c.client ≡ None
    → (service_with s c ≡ service_with_effect s c) × (answer_of s c ≡ effect_answer c.op s.pairs)
