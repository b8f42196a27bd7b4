-- How many inputs may come of a run.
use Rattle.std.proofs.Common.{◌≡◌, ◌≤◌, ◌<◌, ◌+◌, ◌*◌, ◌∷◌, [], ℕ, List, length, refl, sym, ◌∙◌, ap, arith}
use Rattle.std.proofs.lemmas.Nat.{mul-le}
use Rattle.op_outside.specs.declared.net.Addr.{Addr}
use Rattle.op_setup.specs.Settings.{most_peers, most_turns}
use Rattle.op_setup.specs.declared.config.Settings.{Settings}
use Rattle.op_serving.specs.State.{Loop}
use Rattle.op_serving.specs.Losses.{last_count}
use Rattle.op_serving.specs.Counts.{most_inputs}
use Rattle.op_serving.specs.Turns.{fresh, knowing}
use Rattle.op_driver.specs.Driver.{Served, emptied}
use Rattle.op_queues.proofs.Counting.{came, most_same}
use Rattle.op_pump.specs.Counts.{IsLimited, most_in_turn}
use Rattle.op_pump.specs.Serving.{knows, begun}

-- what is to be closed doesn't matter
pub most_emptied : {K : Type 0} (d e : Served K) → emptied d ≡ emptied e → most_inputs d.loop ≡ most_inputs e.loop
most_emptied d e same = sym (most_same d.loop (emptied d).loop refl refl refl refl refl) ∙ ap (λ (x : Served _). most_inputs x.loop) same
    ∙ most_same e.loop (emptied e).loop refl refl refl refl refl

-- a turn more
pub one_turn : (a b m left next k : ℕ) → next + 1 ≡ left → b ≤ a + k → a + left * k ≤ m → b + next * k ≤ m
one_turn a b m left next k e h g = let same : left * k ≡ next * k + k = ap (λ n. n * k) (sym e) ∙ (omega arith) in omega (arith, same, h, g)

-- one behind which none is taken
pub last_turn : (a b m left k : ℕ) → 0 < left → b ≤ a + k → a + left * k ≤ m → b ≤ m
last_turn a b m left k some h g = let enough : 1 * k ≤ left * k = mul-le 1 k left k some (omega arith) in omega (arith, enough, h, g)

-- before the first turn none came, and nothing is there
most_fresh : (me : ℕ) → most_inputs (fresh me) ≡ 0
unfolding most_inputs
most_fresh me = refl

most_knows : (ps : List (ℕ × Addr)) (s : Loop) → most_inputs (knows ps s) ≡ most_inputs s
most_knows [] s = refl
most_knows (p ∷ ps) s = most_knows ps (knowing p.0 s) ∙ most_same s (knowing p.0 s) refl refl refl refl refl

most_begun : (peers : List (ℕ × Addr)) (me : ℕ) → most_inputs (begun peers me) ≡ 0
most_begun peers me = most_knows peers (fresh me) ∙ most_fresh me

-- all turns of settings bring few
few_in_all : (o : Settings) → IsLimited o → o.turns * most_in_turn (length o.peers) < last_count
few_in_all o h =
    let most : o.turns * most_in_turn (length o.peers) ≤ most_turns * most_in_turn most_peers =
    mul-le o.turns (most_in_turn (length o.peers)) most_turns (most_in_turn most_peers) h.turns (omega (arith, h.peers)) in
    omega (arith, most)

-- so that the count of inputs does not come to its last value
pub is_short : (o : Settings) (me : ℕ) (s t : Loop) → IsLimited o → s ≡ begun o.peers me
    → most_inputs t ≤ most_inputs s + o.turns * most_in_turn (length o.peers) → t.place.inputs < last_count
is_short o me s t h e most = omega (arith, few_in_all o h, most, came t, ap most_inputs e, most_begun o.peers me)
