-- Entries that are read as held stand at rising positions.
use Rattle.std.proofs.Common.{◌≡◌, ℕ, zero, suc, ◌+◌, ◌-◌, ◌<◌, ◌≤◌, List, [], ◌∷◌, Result, Ok, Err, subst, arith}
use Rattle.std.specs.Global.{Vec}
use Rattle.std.specs.Prelude.{IfOk}
use Rattle.std.specs.Int.{w64}
use Rattle.op_types.specs.declared.log.Entry.{Entry}
use Rattle.op_types.specs.Rises.{AreAbove, Rises}
use Rattle.op_fields.specs.declared.fail.TakeFail.{TakeFail}
use Rattle.op_fields.specs.Form.{◌>>=◌, number_read, items_read}
use Rattle.op_fields.specs.Taken.{GivesVec}
use Rattle.op_fields.proofs.Formats.{bind_ok, ok_is, number_within}
use Rattle.op_entry.specs.Forms.{entry}
use Rattle.op_record.specs.Forms.{held_entry}

abbrev Placed : Type 0
Placed = List (ℕ × Entry)

-- an entry's position is no lower than asked for
read_from : (len low : ℕ) (bytes : List ℕ) (at : ℕ) (x : (ℕ × Entry) × ℕ) → (held_entry len low).read bytes at ≡ Ok x → low ≤ x.0.0
read_from len low bytes at x e =
    let p = bind_ok (number_read w64 low (len - 1) bytes at) (λ a. entry.read bytes a.1 >>= λ b. Ok ((a.0, b.0), b.1)) x e in
    let q = bind_ok (entry.read bytes p.0.1) (λ b. Ok ((p.0.0, b.0), b.1)) x p.2 in
    subst (λ (y : (ℕ × Entry) × ℕ). low ≤ y.0.0) (ok_is ((p.0.0, q.0.0), q.0.1) x q.2) (number_within w64 low (len - 1) bytes at p.0 p.1).0

-- entries stand above each position below the lowest, and rise
abbrev RiseFrom : ℕ → Placed → Type 0
RiseFrom low xs = ((m : ℕ) → m < low → AreAbove m xs) × Rises xs

read_rise : (len n low : ℕ) (bytes : List ℕ) (at : ℕ) (x : Placed × ℕ) → items_read (held_entry len) (λ x. x.0 + 1) n low bytes at ≡ Ok x → RiseFrom low x.0
unfolding items_read
read_rise len zero low bytes at x e = subst (λ (y : Placed × ℕ). RiseFrom low y.0) (ok_is ([], at) x e) (λ m lt. tt, tt)
read_rise len (suc n) low bytes at x e =
    let p = bind_ok ((held_entry len low).read bytes at) (λ x. items_read (held_entry len) (λ x. x.0 + 1) n (x.0.0 + 1) bytes x.1 >>= λ xs. Ok (x.0 ∷ xs.0, xs.1)) x e in
    let q = bind_ok (items_read (held_entry len) (λ x. x.0 + 1) n (p.0.0.0 + 1) bytes p.0.1) (λ xs. Ok (p.0.0 ∷ xs.0, xs.1)) x p.2 in
    let t = read_rise len n (p.0.0.0 + 1) bytes p.0.1 q.0 q.1 in
    let from : low ≤ p.0.0.0 = read_from len low bytes at p.0 p.1 in
    subst (λ (y : Placed × ℕ). RiseFrom low y.0) (ok_is (p.0.0 ∷ q.0.0, q.0.1) x q.2)
    (λ m lt. (omega (arith, lt, from), t.0 m (omega (arith, lt, from))), (t.0 p.0.0.0 (omega arith), t.1))

pub items_rise : (len n : ℕ) (bytes : List ℕ) (at : ℕ) (r : Result (Vec (ℕ × Entry) × ℕ) TakeFail)
    → GivesVec r (items_read (held_entry len) (λ x. x.0 + 1) n 0 bytes at) → IfOk r (λ x. Rises x.0.items)
items_rise len n bytes at (Ok x) gives = (read_rise len n 0 bytes at (x.0.items, x.1) gives).1
items_rise len n bytes at (Err e) gives = tt
