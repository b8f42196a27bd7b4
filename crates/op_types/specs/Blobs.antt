-- What a `Blob` holds, wherever it stands.
use Rattle.std.specs.Prelude.{ℕ, List, take}
use Rattle.std.specs.Rc.{rc_slice_items}
use Rattle.op_types.specs.declared.blob.Bytes.{Bytes}
use Rattle.op_types.specs.declared.blob.Bytes.TheVariants.{Short, Shared}
use Rattle.op_types.specs.declared.short.ShortBytes.{ShortBytes}

-- the bytes in place
abbrev pub short_bytes : ShortBytes → List ℕ
short_bytes s = take s.len s.bytes

-- those, or the ones that are shared
abbrev pub bytes_of : Bytes → List ℕ
bytes_of (Short s) = short_bytes s
bytes_of (Shared r) = rc_slice_items r
