-- What seeds draw, given from outside: the first words of the seed 42, and events.
use Rattle.std.proofs.Common.{◌≡◌, ℕ, zero, suc, refl}
use Rattle.rand_pcg.specs.Lcg.{Lcg}
use Rattle.op_runs.specs.declared.events.What.{What}
use Rattle.op_runs.specs.declared.events.What.TheVariants as what
use Rattle.op_gen.specs.Draws.{words_of, word_of, what_drawn}

-- the generator behind so many words of the seed 42
abbrev behind : ℕ → Lcg
behind zero = words_of 42
behind (suc n) = (word_of (behind n)).1

words :
    ((word_of (behind 0)).0 ≡ 2707161783) ×
    ((word_of (behind 1)).0 ≡ 2068313097) ×
    ((word_of (behind 2)).0 ≡ 3122475824) ×
    ((word_of (behind 3)).0 ≡ 2211639955) ×
    ((word_of (behind 4)).0 ≡ 3215226955)
unfolding word_of
words = (refl, refl, refl, refl, refl)

-- the first event of a seed, before any message
abbrev first : ℕ → What
first seed = (what_drawn 1 0 (words_of seed)).0

-- what the seed 42 draws: a tick, a wish to trim, and a message
events :
    (first 42 ≡ what.Tick 1) × ((what_drawn 2 2 (what_drawn 1 0 (words_of 42)).1).0 ≡ what.Trim 5) ×
    ((what_drawn 3 2 (what_drawn 2 2 (what_drawn 1 0 (words_of 42)).1).1).0 ≡ what.Deliver 0)
unfolding word_of
events = (refl, refl, refl)

-- seeds that draw a stop or a failure in a call first
stops_and_failures :
    (first 32 ≡ what.CrashAt 1 2 131) × (first 230 ≡ what.CrashAt 5 2 222) × (first 17 ≡ what.Fail 1 1) ×
    (first 606 ≡ what.Fail 5 4)
unfolding word_of
stops_and_failures = (refl, refl, refl, refl)
