-- A copy that is out has failed since the mirror was opened, and a mirror fails only where both are out.
use Rattle.std.specs.Prelude.{◌≡◌, ◌≤◌, ◌==◌, ◌||◌, ℕ, Bool, true, false, nat_lt}
use Rattle.op_outside.specs.Causes.{last_count}
use Rattle.op_mirror.specs.declared.gone.Gone.{Gone}
use Rattle.op_mirror.specs.Copies.{has_first, has_second}

-- a count rose above this mark, or stands at the last value
abbrev pub has_risen : ℕ → ℕ → Bool
has_risen mark count = nat_lt mark count || (count == last_count)

-- the count of a copy that is called or not never falls below its mark, and where the copy is out it rose
pub record IsMarked (lives : Bool) (mark count : ℕ) : Type 0 where
  pub later : mark ≤ count
  pub rose : lives ≡ false → has_risen mark count ≡ true

-- the same of both copies, and the mirror has not failed while one of them lives
pub record AreMarked (gone : Gone) (is_dead : Bool)
    (faults first_mark first second_mark second : ℕ) : Type 0 where
  pub lives : is_dead ≡ false → faults ≡ 0
  pub first_marked : IsMarked (has_first gone is_dead) first_mark first
  pub second_marked : IsMarked (has_second gone is_dead) second_mark second
