-- How many bytes of a message are those of entries or of a base: these alone can be many.
use Rattle.std.specs.Prelude.{ℕ, length}
use Rattle.op_types.specs.Cutting.{entry_size, entries_size}
use Rattle.op_types.specs.declared.messages.Body.{Body}
use Rattle.op_types.specs.declared.messages.Body.TheVariants as variant
use Rattle.op_types.specs.declared.messages.Watch.{Watch}
use Rattle.op_types.specs.declared.messages.Watch.TheVariants as watch

-- the same, of what a member shows an observer
abbrev pub shown_size : Watch → ℕ
shown_size (watch.Shown at es) = entries_size es
shown_size (watch.Base members p) = length p.bytes
shown_size _ = 0

-- what a message's entries take, or the bytes of its base
abbrev pub carried_size : Body → ℕ
carried_size (variant.Promise n fa fl fd s es) = entries_size es
carried_size (variant.AcceptSync n x es) = entries_size es
carried_size (variant.Accept n a es) = entries_size es
carried_size (variant.Forward e) = entry_size e
carried_size (variant.Forwards es) = entries_size es
carried_size (variant.BasePart at b) = length b
carried_size (variant.Segment at es) = entries_size es
carried_size (variant.PromisePart n part) = entries_size part.run
carried_size (variant.AcceptSyncPart n part) = entries_size part.run
carried_size (variant.BasePiece p) = length p.bytes
carried_size (variant.Watch w) = shown_size w
carried_size _ = 0
