-- What a record in range says has an encoding where its bytes are few enough to be counted.
use Rattle.std.proofs.Common.{ℕ, ◌^◌, ◌<◌, ◌≤◌, List, [], ◌∷◌, ◌++◌, length, Option, Some, None, ap, arith}
use Rattle.std.specs.Prelude.{All, IfSome}
use Rattle.std.specs.List.{flat_map}
use Rattle.std.proofs.lemmas.List.Concat.{flat_map-cons}
use Rattle.std.proofs.lemmas.List.Elements.{All-nil, All-cons}
use Rattle.std.specs.Int.{w8, w32, w64}
use Rattle.op_fields.specs.Form.{encoded, optional}
use Rattle.op_types.specs.declared.durable.Part.{Part}
use Rattle.op_types.specs.declared.durable.Closed.{Closed}
use Rattle.op_types.specs.declared.durable.Joining.{Joining}
use Rattle.op_types.specs.declared.changes.Change.{Change}
use Rattle.op_types.specs.declared.changes.Change.TheVariants as variant
use Rattle.op_record.specs.declared.body.Rec.{Rec}
use Rattle.op_record.specs.declared.body.Rec.TheVariants.{Whole, Step}
use Rattle.op_record.specs.Ranges.{greatest_length, IsShort, PartInRange, PartFits, ClosedInRange, ClosedFits, JoiningInRange, JoiningFits, ChangeIsShort, RecInRange, RecFits}
use Rattle.op_entry.specs.Forms.{ballot, members}
use Rattle.op_entry.proofs.Lengths.{left_within, right_within}
use Rattle.op_record.specs.Forms.{base, conf, joined_conf, place, closed_len, flag, log, part, closed_log, closed, donors, held_base, held, joining, change, durable, body}

-- so many bytes can be counted
abbrev Few : List ℕ → Type 0
Few bytes = length bytes ≤ greatest_length

left : (a b : List ℕ) → Few (a ++ b) → Few a
left a b h = left_within a b greatest_length h

right : (a b : List ℕ) → Few (a ++ b) → Few b
right a b h = right_within a b greatest_length h

third : (a b c : List ℕ) → Few (a ++ (b ++ c)) → Few c
third a b c h = right b c (right a (b ++ c) h)

fourth : (a b c d : List ℕ) → Few (a ++ (b ++ (c ++ d))) → Few d
fourth a b c d h = third b c d (right a (b ++ (c ++ d)) h)

fifth : (a b c d e : List ℕ) → Few (a ++ (b ++ (c ++ (d ++ e)))) → Few e
fifth a b c d e h = fourth b c d e (right a (b ++ (c ++ (d ++ e))) h)

sixth : (a b c d e f : List ℕ) → Few (a ++ (b ++ (c ++ (d ++ (e ++ f))))) → Few f
sixth a b c d e f h = fifth b c d e f (right a (b ++ (c ++ (d ++ (e ++ f)))) h)

-- a base's length stands before it
counted_is_short : (b : List ℕ) → Few (base.text b) → IsShort b
counted_is_short b h = right (encoded w64 (length b)) b h

part_is_short : (p : Part) → Few (part.text p) → IsShort p.base
part_is_short p h =
    let log_text : List ℕ = (log p.conf).text (p.trimmed, (p.tail.items, p.decided)) in
    counted_is_short p.base
    (left (base.text p.base) log_text
    (fifth (conf.text p.conf) (members.text p.members) (ballot.text p.promised) (ballot.text p.accepted) (base.text p.base ++ log_text) h))

closed_is_short : (l : Closed) → Few (closed.text l) → IsShort l.base
closed_is_short l h =
    let log_text : List ℕ = closed_log.text (l.trimmed, l.tail) in
    counted_is_short l.base
    (left (base.text l.base) log_text
    (fourth (encoded w32 l.conf) (members.text l.olds) (members.text l.next) (base.text l.base ++ log_text) h))

base_is_short : (len : ℕ) (b : Option (ℕ × List ℕ)) → Few ((held_base len).text b) → IfSome b (λ b. IsShort b.1)
base_is_short len None h = tt
base_is_short len (Some b) h = counted_is_short b.1 (third (encoded w8 1) (encoded w64 b.0) (base.text b.1) h)

joining_is_short : (j : Joining) → Few (joining.text j) → IfSome j.base (λ b. IsShort b.1)
joining_is_short j h =
    let base_text : List ℕ = (held_base j.len).text j.base in
    let held_text : List ℕ = (held j.len).text j.held.items in
    base_is_short j.len j.base
    (left base_text held_text
    (sixth (joined_conf.text j.conf) (members.text j.members) (members.text j.olds) (closed_len.text j.len) ((donors j.len).text j.donors) (base_text ++ held_text) h))

part_fits : (o : Option Part) → IfSome o PartInRange → Few ((optional part).text o) → IfSome o PartFits
part_fits None r h = tt
part_fits (Some p) r h = (r, part_is_short p (right (encoded w8 1) (part.text p) h))

closed_fits : (o : Option Closed) → IfSome o ClosedInRange → Few ((optional closed).text o) → IfSome o ClosedFits
closed_fits None r h = tt
closed_fits (Some l) r h = (r, closed_is_short l (right (encoded w8 1) (closed.text l) h))

joining_fits : (o : Option Joining) → IfSome o JoiningInRange → Few ((optional joining).text o) → IfSome o JoiningFits
joining_fits None r h = tt
joining_fits (Some j) r h = (r, joining_is_short j (right (encoded w8 1) (joining.text j) h))

change_is_short : (c : Change) → Few (change.text c) → ChangeIsShort c
change_is_short (variant.Trim x b) h = counted_is_short b (third (encoded w8 6) (place.text x) (base.text b) h)
change_is_short (variant.Close named b) h = counted_is_short b (third (encoded w8 7) (flag.text named) (base.text b) h)
change_is_short (variant.JoinBase n b) h = counted_is_short b (third (encoded w8 10) (place.text n) (base.text b) h)
change_is_short (variant.JoinDone b) h = counted_is_short b (right (encoded w8 12) (base.text b) h)
change_is_short (variant.Rebase c ms n b) h = counted_is_short b (fifth (encoded w8 13) (conf.text c) (members.text ms) (place.text n) (base.text b) h)
change_is_short _ h = tt

changes_are_short : (cs : List Change) → Few (flat_map change.text cs) → All ChangeIsShort cs
changes_are_short [] h = All-nil ChangeIsShort
changes_are_short (c ∷ cs) h =
    let both : Few (change.text c ++ flat_map change.text cs) = omega (arith, ap length (flat_map-cons change.text c cs), h) in
    All-cons ChangeIsShort c cs (change_is_short c (left (change.text c) (flat_map change.text cs) both)) (changes_are_short cs (right (change.text c) (flat_map change.text cs) both))

pub short_fits : (r : Rec) → RecInRange r → length (body.text r) < 2 ^ 64 → RecFits r
short_fits (Whole d) range lt =
    let whole : Few (body.text (Whole d)) = omega (arith, lt) in
    let h : Few (durable.text d) = right (encoded w8 1) (durable.text d) whole in
    let a : List ℕ = (optional part).text d.part in
    let b : List ℕ = (optional closed).text d.closed in
    let c : List ℕ = (optional joining).text d.joining in
    record {
      part = part_fits d.part range.part (left a (b ++ c) h);
      closed = closed_fits d.closed range.closed (left b c (right a (b ++ c) h));
      joining = joining_fits d.joining range.joining (third a b c h);
    }
short_fits (Step cs) range lt =
    let whole : Few (body.text (Step cs)) = omega (arith, lt) in
    let short = changes_are_short cs (third (encoded w8 2) (encoded w8 (length cs)) (flat_map change.text cs) whole) in
    record { few = range.few; each = λ k d within. (range.each k d within, short k d within) }
