use Rattle.std.proofs.Common.{◌≡◌, ℕ, ◌+◌, ◌-◌, ◌≤◌, ◌<◌, List, ◌++◌, decimal, drop, length, set, ap, arith, length-append, length-drop}
use Rattle.std.proofs.lemmas.Fmt.{decimal_digit, length-decimal-le}
use Rattle.std.proofs.lemmas.List.{drop-set}
use Rattle.op_text.proofs.row.Row.number.Goals as goal

-- a digit before a text
put_digit : (bytes text : List ℕ) (start n : ℕ) → n < 10 → 0 < start → start ≤ length bytes → drop start bytes ≡ text → drop (start - 1) (set bytes (start - 1) (48 + n)) ≡ decimal n ++ text
put_digit bytes text start n small some within is =
    let next : start - 1 + 1 ≡ start = omega arith in
    rw (drop-set bytes (start - 1) (48 + n) (omega arith), next, is, decimal_digit n small)

pub returns-then-n-lt-BASE-clause-put : goal.returns-then-n-lt-BASE-clause-put
returns-then-n-lt-BASE-clause-put c =
    let row = c.self.inside in
    let some : 0 < row.start = omega (arith, length-drop row.start row.bytes, ap length c.self.view_is) in
    put_digit row.bytes c.args.self.now row.start c.args.n c.if-n-lt-BASE.true some (omega arith) c.self.view_is

pub write_digits-self-inside-requires : goal.write_digits-self-inside-requires
write_digits-self-inside-requires c =
    let row = c.self.inside in (
      omega (arith, length-decimal-le 20 c.args.n (omega arith) (omega arith) c.ranges.n.fits, length-drop row.start row.bytes, ap length c.self.view_is),
      omega arith,
    )

pub returns-clause-longer : goal.returns-clause-longer
returns-clause-longer c =
    let row = c.self.inside in
    omega (
      arith,
      ap length c.write_digits-self-inside.ensures.written,
      length-append (decimal c.args.n) (drop row.start row.bytes),
      length-decimal-le 20 c.args.n (omega arith) (omega arith) c.ranges.n.fits,
      ap length c.self.view_is,
    )
