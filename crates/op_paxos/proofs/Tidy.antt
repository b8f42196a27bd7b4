-- Lists in which nothing follows a stop-sign.
use Rattle.std.proofs.Common.{◌≡◌, ◌≤◌, arith, length, length-append, ℕ, zero, suc, List, [], ◌∷◌, ◌++◌, Bool, true, false, None, ⊎_elim, take, refl, sym, ap, ◌∙◌, subst}
use Rattle.std.specs.Prelude.{◌-◌, ◌+◌, ◌||◌, nat_lt}
use Rattle.std.proofs.Math.Seq.{take-nil}
use Rattle.std.proofs.lemmas.Bool.{or_parts, both_ways, cases_Bool, ltb-false}
use Rattle.op_types.specs.declared.log.Entry.{Entry}
use Rattle.op_types.specs.declared.log.Entry.TheVariants as entry
use Rattle.op_spec.specs.Machine.{stop_of}
use Rattle.op_spec.specs.Laws.{NoneAfterStop}
use Rattle.op_types.specs.Limits.{positions_end}
use Rattle.op_paxos.specs.Logs.{is_stop, has_stop, up_to_stop, stops_early, overflows, fitting}

-- nothing follows an entry that ends the configuration
abbrev pub Tidy : List Entry → Type 0
Tidy [] = Unit {0}
Tidy (e ∷ es) = (is_stop e ≡ true → es ≡ []) × Tidy es

-- a prefix of a tidy log is tidy
pub tidy_take : (k : ℕ) (l : List Entry) → Tidy l → Tidy (take k l)
tidy_take zero l h = tt
tidy_take (suc k) [] h = tt
tidy_take (suc k) (e ∷ l) h = (λ s. ap (take k) (h.0 s) ∙ take_nil k, tidy_take k l h.1)
  where
    take_nil : (j : ℕ) → take {A = Entry} j [] ≡ []
    take_nil zero = refl
    take_nil (suc j) = refl

-- a tidy log that doesn't end the configuration stays tidy with tidy entries added
pub tidy_more : (l es : List Entry) → has_stop l ≡ false → Tidy l → Tidy es → Tidy (l ++ es)
tidy_more [] es no_ h k = k
tidy_more (e ∷ l) es no_ h k =
    let t = or_parts (is_stop e) (has_stop l) no_ in
    (λ s. absurd (both_ways (is_stop e) t.0 s), tidy_more l es t.1 h.1 k)

upto_tidy : (b : Bool) (es : List Entry) → Tidy (up_to_stop b es)
upto_tidy true es = tt
upto_tidy false [] = tt
upto_tidy false (e ∷ es) = (λ s. ap (λ b. up_to_stop b es) s, upto_tidy (is_stop e) es)

at_stop : (k : ℕ) (b : Bool) (l es : List Entry) → has_stop l ≡ b → Tidy l → Tidy (l ++ take k (up_to_stop b es))
at_stop k true l es e h = subst (λ (xs : List Entry). Tidy (l ++ xs)) (sym (take-nil k)) (subst Tidy (sym (mathlib.Core.List.append-nil l)) h)
at_stop k false l es e h = tidy_more l (take k (up_to_stop false es)) e h (tidy_take k (up_to_stop false es) (upto_tidy false es))

-- a tidy log to which a buffer was added is tidy
pub tidy_fitting : (l es : List Entry) → Tidy l → Tidy (l ++ fitting l es)
tidy_fitting l es h = at_stop (positions_end - length l) (has_stop l) l es refl h

-- entries of which none but the last ends the configuration are tidy
tidy_of : (es : List Entry) → stops_early es ≡ false → Tidy es
tidy_of [] h = tt
tidy_of (e ∷ []) h = (λ s. refl, tt)
tidy_of (e ∷ (d ∷ es)) h =
    let t = or_parts (is_stop e) (stops_early (d ∷ es)) h in
    (λ s. absurd (both_ways (is_stop e) t.0 s), tidy_of (d ∷ es) t.1)

-- what is known of a log to which entries can be added, and of these
pub record RoomFor (log es : List Entry) : Type 0 where
  pub stops : has_stop log ≡ false
  pub tidy : Tidy es
  pub short : length log + length es ≤ positions_end

pub room_for : (log es : List Entry) → overflows log es ≡ false → RoomFor log es
room_for log es h =
    let t = or_parts (has_stop log) (stops_early es || nat_lt positions_end (length log + length es)) h in
    let u = or_parts (stops_early es) (nat_lt positions_end (length log + length es)) t.1 in
    record { stops = t.0; tidy = tidy_of es u.0; short = ltb-false positions_end (length log + length es) u.1 }

-- a buffer doesn't take a log past the positions
pub short_fitting : (l es : List Entry) → length l ≤ positions_end → length (l ++ fitting l es) ≤ positions_end
short_fitting l es h = omega (arith, length-append l (fitting l es), short_take (positions_end - length l) (up_to_stop (has_stop l) es), h)
  where
    short_take : (k : ℕ) (xs : List Entry) → length (take k xs) ≤ k
    short_take zero xs = omega arith
    short_take (suc k) [] = omega arith
    short_take (suc k) (x ∷ xs) = omega (arith, short_take k xs)

-- ---- in the words of the list machine
-- an entry that doesn't end its configuration is no stop-sign
pub stop_none : (e : Entry) → is_stop e ≡ false → stop_of e ≡ None
unfolding is_stop
stop_none (entry.Command c) h = refl
stop_none (entry.Stop s) h = absurd (both_ways false refl (sym h))

-- a tidy log in the words of the list machine
pub none_after_stop : (l : List Entry) → Tidy l → NoneAfterStop l
none_after_stop [] h = tt
none_after_stop (e ∷ []) h = tt
none_after_stop (e ∷ f ∷ es) h = (stop_none e (⊎_elim (λ (t : is_stop e ≡ true). absurd (cons_nil f es (h.0 t))) (λ (t : is_stop e ≡ false). t) (cases_Bool (is_stop e))), none_after_stop (f ∷ es) h.1)
  where
    cons_nil : (a : Entry) (l : List Entry) → a ∷ l ≡ [] → ⊥
    cons_nil a l d = cc
