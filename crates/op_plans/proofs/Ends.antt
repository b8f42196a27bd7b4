-- A list that no entry goes on after a stop-sign ends with one exactly where its last entry is one.
use Rattle.std.proofs.Common.{◌≡◌, ℕ, suc, ◌-◌, Bool, false, List, [], ◌∷◌, length, refl, sym, ap, ◌∙◌, arith}
use Rattle.std.specs.Prelude.{is_some, Option, Some, None, slice_get}
use Rattle.op_types.specs.declared.log.Entry.{Entry}
use Rattle.op_spec.specs.Machine.{stop_of, stop_at_end}

-- the entry is there, and is a stop-sign
abbrev pub is_stop : Option Entry → Bool
is_stop None = false
is_stop (Some e) = is_some (stop_of e)

pub ends_with : (es : List Entry) → is_some (stop_at_end es) ≡ is_stop (slice_get es (length es - 1))
ends_with [] = refl
ends_with (e ∷ []) = refl
ends_with (e ∷ f ∷ es) =
    let last : length (e ∷ f ∷ es) - 1 ≡ suc (length (f ∷ es) - 1) = omega arith in
    ends_with (f ∷ es) ∙ ap is_stop (sym (ap (λ (n : ℕ). slice_get (e ∷ f ∷ es) n) last))
