-- How many inputs there may be.
use Rattle.std.specs.Prelude.{◌+◌, ℕ, length}
use Rattle.std.specs.List.{sum_by}
use Rattle.std.specs.Map.{values_of}
use Rattle.op_serving.specs.declared.kind.Kind.{Kind}
use Rattle.op_serving.specs.declared.kind.Kind.TheVariants.{Unknown, Peer, Client}
use Rattle.op_serving.specs.declared.session.Session.{Session}
use Rattle.op_serving.specs.State.{Loop}

-- how much of the own hello is still to be written to a session of this kind
abbrev pub hello_in : Kind → ℕ
hello_in Unknown = 0
hello_in (Peer q h) = h
hello_in Client = 0

-- so much may yet be counted of a session: its end where too many bytes wait, its Down, no more Ups than
-- bytes of the own hello are left, and no more frames than bytes are held
abbrev pub most_of : Session → ℕ
most_of x = 2 + hello_in x.kind + length x.frames.held

-- so many came, or may yet come of what is there: Downs, what was read and is to be given, and sessions
unfoldable pub most_inputs : Loop → ℕ
most_inputs s =
    s.place.inputs + length s.downs + length s.gathered + length s.brought
    + sum_by most_of (values_of s.sessions)
