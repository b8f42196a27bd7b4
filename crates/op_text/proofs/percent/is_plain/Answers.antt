-- The table is held against the definition at each of the 256 bytes, by computing.
use Rattle.std.proofs.Common.{◌≡◌, ℕ, ◌<◌, Bool, true, not, nat_eq, List, map, get_or, refl, sym, ap, ◌∙◌, arith}
use Rattle.std.proofs.Math.ListN.{get_or-map}
use Rattle.std.proofs.lemmas.List.FromFn.{get_or-map-range_with_len}
use Rattle.std.specs.List.{range_with_len}
use Rattle.op_text.specs.Percent.{is_plain, percent}
use Rattle.op_text.specs.declared.percent.TheConstants.{PLAIN_BYTES}
use Rattle.op_text.proofs.percent.is_plain.Goals as goal

-- whether a byte of the table is no `%`
abbrev is_own : ℕ → Bool
is_own b = not (nat_eq b percent)

table_is : map is_own PLAIN_BYTES ≡ map is_plain (range_with_len 0 256)
table_is = refl

read : (b : ℕ) → b < 256 → is_own (get_or PLAIN_BYTES b 0) ≡ is_plain b
read b small =
    sym (get_or-map is_own PLAIN_BYTES b 0)
    ∙ ap (λ (marks : List Bool). get_or marks b true) table_is
    ∙ get_or-map-range_with_len is_plain 0 256 b b true small (omega arith)

pub returns : goal.returns
returns c = rw c.from.ensures (read c.args.byte (omega arith))
