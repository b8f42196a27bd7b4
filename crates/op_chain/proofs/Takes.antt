-- What a node that joins holds is brought by a message.
use Rattle.std.proofs.Common.{◌≡◌, ℕ, true, List, None}
use Rattle.op_types.specs.declared.durable.Joining.{Joining}
use Rattle.op_types.specs.declared.log.Entry.{Entry}
use Rattle.op_types.specs.declared.messages.Body.TheVariants as body
use Rattle.op_protocol.specs.Joining.{takes_base, takes_entries}
use Rattle.op_segments.specs.Brought.{held_base, held_entries}
use Rattle.op_segments.proofs.Bringing.{base_held, entries_held}
use Rattle.op_chain.specs.Bringing.{IsBrought}

-- a base
pub base_is_brought : (j : Joining) (c at : ℕ) (bytes : List ℕ) → takes_base j c at bytes ≡ true → IsBrought j (held_base j at bytes)
base_is_brought j c at bytes takes = (None, c, body.BasePart at bytes, base_held j None c at bytes takes)

-- entries
pub entries_are_brought : (j : Joining) (c at : ℕ) (es : List Entry) → takes_entries j c at es ≡ true → IsBrought j (held_entries j at es)
entries_are_brought j c at es takes = (None, c, body.Segment at es, entries_held j None c at es takes)
