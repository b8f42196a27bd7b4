-- What a member answers an observer: what it has decided, and nothing of what it has only accepted.
use Rattle.std.specs.Prelude.{ℕ, zero, suc, ◌+◌, ◌-◌, ◌==◌, ◌||◌, nat_lt, nat_le, Bool, true, false, List, [], ◌∷◌, length, take, drop, map, Option, Some, None, if◌then◌else◌}
use Rattle.op_types.specs.Limits.{most_part_bytes}
use Rattle.op_types.specs.Cutting.{cut}
use Rattle.op_types.specs.Changes.{decided_tail}
use Rattle.op_types.specs.declared.log.Entry.{Entry}
use Rattle.op_types.specs.declared.durable.Part.{Part}
use Rattle.op_types.specs.declared.durable.Closed.{Closed}
use Rattle.op_types.specs.declared.durable.Joining.{Joining}
use Rattle.op_types.specs.declared.durable.Durable.{Durable}
use Rattle.op_types.specs.declared.messages.Msg.{Msg}
use Rattle.op_types.specs.declared.messages.Body.{Body}
use Rattle.op_types.specs.declared.messages.Body.TheVariants as body
use Rattle.op_types.specs.declared.messages.Watch.{Watch}
use Rattle.op_types.specs.declared.messages.Watch.TheVariants as watch
use Rattle.op_protocol.specs.Parts.{messages}
use Rattle.op_protocol.specs.Joining.{piece_count}

-- whether a message is an observer's, or to one
abbrev pub is_watching : Body → Bool
is_watching (body.Watch w) = true
is_watching _ = false

-- what a node has decided of a configuration, and can show: a base, and the entries after it
pub record Decided : Type 0 where
  pub conf : ℕ
  pub members : List ℕ
  pub trimmed : ℕ
  pub base : List ℕ
  pub entries : List Entry

-- of its part
abbrev pub decided_of_part : Part → Decided
decided_of_part p =
    record {
      conf = p.conf;
      members = p.members;
      trimmed = p.trimmed;
      base = p.base;
      entries = decided_tail p;
    }

-- of its closed list
abbrev pub decided_of_closed : Closed → Decided
decided_of_closed l =
    record {
      conf = l.conf;
      members = l.olds;
      trimmed = l.trimmed;
      base = l.base;
      entries = l.tail;
    }

-- the closed list, where it is of this configuration or of a later one
abbrev pub closed_from : Option Closed → ℕ → Option Decided
closed_from None c = None
closed_from (Some l) c = if nat_le c l.conf then Some (decided_of_closed l) else None

-- what a node shows an observer of this configuration: its part, or else its closed list
abbrev pub decided_for : Option Part → Option Closed → ℕ → Option Decided
decided_for None l c = closed_from l c
decided_for (Some p) l c = if p.conf == c then Some (decided_of_part p) else closed_from l c

-- entries from a position on: of long ones the first run, and nothing of none
abbrev pub shown_bodies : ℕ → List Entry → List Body
shown_bodies from entries = map (λ run. body.Watch (watch.Shown from run)) (take 1 (cut entries))

-- so many pieces of a base, from a place among its bytes on
abbrev pub watch_pieces : List ℕ → ℕ → List ℕ → ℕ → ℕ → List Body
watch_pieces members at bytes from zero = []
watch_pieces members at bytes from (suc count) =
    body.Watch (watch.Base members (record {
      at = at;
      total = length bytes;
      from = from;
      bytes = take most_part_bytes (drop from bytes);
    }))
    ∷ watch_pieces members at bytes (from + most_part_bytes) count

-- the base, in pieces
abbrev pub shown_base : Decided → List Body
shown_base k = watch_pieces k.members k.trimmed k.base 0 (piece_count (length k.base))

-- what is shown of it to an observer that has so much of this configuration: the base, where the observer
-- lacks what was trimmed, or is of an earlier configuration; else the entries that it lacks
abbrev pub shown_of : Decided → ℕ → ℕ → ℕ → List (ℕ × Msg)
shown_of k q c from =
    if nat_lt c k.conf || nat_lt from k.trimmed then messages k.conf q (shown_base k)
    else messages c q (shown_bodies from (drop (from - k.trimmed) k.entries))

-- the same, where there is something
abbrev pub shown_if : Option Decided → ℕ → ℕ → ℕ → List (ℕ × Msg)
shown_if None q c from = []
shown_if (Some k) q c from = shown_of k q c from

-- a node that joins another configuration shows nothing
abbrev pub answers_by : Option Joining → Durable → ℕ → ℕ → ℕ → List (ℕ × Msg)
answers_by None d q c from = shown_if (decided_for d.part d.closed c) q c from
answers_by (Some j) d q c from = []

-- what an observer is answered
abbrev pub watch_answers : Durable → ℕ → ℕ → Body → List (ℕ × Msg)
watch_answers d q c (body.Watch (watch.Ask from)) = answers_by d.joining d q c from
watch_answers d q c _ = []
