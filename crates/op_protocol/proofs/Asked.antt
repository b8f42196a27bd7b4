-- Which reads a node takes, and what it sends for them.
use Rattle.std.proofs.Common.{◌≡◌, ℕ, suc, Bool, true, false, not, eqb, List, [], Option, Some, None, refl, sym, ap}
use Rattle.std.proofs.lemmas.Bool.{cond-true, cond-false, both_ways}
use Rattle.op_types.specs.Limits.{positions_end}
use Rattle.op_types.specs.RoleStates as state
use Rattle.op_types.specs.Roles.{Role, Idle, Preparing, Leading}
use Rattle.op_types.specs.declared.durable.Part.{Part}
use Rattle.op_types.specs.declared.durable.Joining.{Joining}
use Rattle.op_types.specs.declared.read.Read.{Read}
use Rattle.op_types.specs.declared.messages.Body.TheVariants as body
use Rattle.op_types.specs.declared.messages.Msg.{Msg}
use Rattle.op_reads.specs.Reads.{Reads}
use Rattle.op_protocol.specs.Parts.{others, to_each}
use Rattle.op_protocol.specs.Reading.{leading_in, reads_at, Asking, asks_members, read_asked}

-- whether a node takes a read: it leads, and the read's number isn't the end of positions
abbrev pub takes_read : ℕ → Option (Part × state.Leading) → Option Reads → Bool
takes_read me None reads = false
takes_read me (Some (p, l)) reads = not (eqb (suc (reads_at me p reads).count) positions_end)

not_true : (b : Bool) → not b ≡ true → b ≡ false
not_true true e = absurd (both_ways true (sym e) refl)
not_true false e = refl

not_false : (b : Bool) → not b ≡ false → b ≡ true
not_false true e = refl
not_false false e = absurd (both_ways true e refl)

none_some : {A : Type 0} (a : A) → None ≡ Some a → ⊥
none_some a e = cc

some_is : {A : Type 0} (a b : A) → Some a ≡ Some b → a ≡ b
some_is a b e = cc

-- for a read that it takes each other member is asked
pub taken_sends : (me : ℕ) (p : Part) (l : state.Leading) (reads : Option Reads) (r : Read) → takes_read me (Some (p, l)) reads ≡ true
    → (read_asked me (Some (p, l)) reads r).sends ≡ to_each p.conf (others me p.members) (body.Confirm l.ballot (suc (reads_at me p reads).count))
taken_sends me p l reads r takes =
    let end : Bool = eqb (suc (reads_at me p reads).count) positions_end in
    ap (λ (a : Asking). a.sends) (cond-false end _ (asks_members me p l.ballot (reads_at me p reads) r) (not_true end takes))

-- for another one nothing is sent
pub untaken_sends : (me : ℕ) (o : Option (Part × state.Leading)) (reads : Option Reads) (r : Read) → takes_read me o reads ≡ false
    → (let none : List (ℕ × Msg) = [] in (read_asked me o reads r).sends ≡ none)
untaken_sends me None reads r not_so = refl
untaken_sends me (Some (p, l)) reads r not_so =
    let end : Bool = eqb (suc (reads_at me p reads).count) positions_end in
    ap (λ (a : Asking). a.sends) (cond-true end _ (asks_members me p l.ballot (reads_at me p reads) r) (not_false end not_so))

-- where a node leads
pub record Leads (d : Option Part) (j : Option Joining) (ro : Role) (p : Part) (l : state.Leading) : Type 0 where
  pub part : d ≡ Some p
  pub joining : j ≡ None
  pub role : ro ≡ Leading l

pub leads_is : (d : Option Part) (j : Option Joining) (ro : Role) (p : Part) (l : state.Leading) → leading_in d j ro ≡ Some (p, l) → Leads d j ro p l
leads_is (Some a) None (Leading b) p l e =
    let x : Part × state.Leading = (a, b) in
    let y : Part × state.Leading = (p, l) in
    let same : x ≡ y = some_is x y e in
    record { part = ap (λ (z : Part × state.Leading). Some z.0) same; joining = refl; role = ap (λ (z : Part × state.Leading). Leading z.1) same }
leads_is None j ro p l e = absurd (none_some _ e)
leads_is (Some a) (Some j) ro p l e = absurd (none_some _ e)
leads_is (Some a) None Idle p l e = absurd (none_some _ e)
leads_is (Some a) None (Preparing r) p l e = absurd (none_some _ e)
