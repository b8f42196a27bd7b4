-- What is admitted ends within the positions, and has no stop-sign in the last configuration.
use Rattle.std.proofs.Common.{◌≡◌, ◌≤◌, ◌+◌, ℕ, true, false, not, leb, eqb, ◌&&◌, Bool, cond, is_some, List, [], ◌∷◌, length, refl, sym, ap, ◌∙◌, All}
use Rattle.std.proofs.lemmas.Bool.{leb-true, and_parts, eq-eqb, false≢true}
use Rattle.std.proofs.lemmas.List.Elements.{All-nil, All-cons}
use Rattle.op_types.specs.Limits.{positions_end, last_conf}
use Rattle.op_types.specs.Stops.{stop_of}
use Rattle.op_types.specs.Changes.{IsCommand, EndsNowhere}
use Rattle.op_types.specs.declared.log.Entry.{Entry}
use Rattle.op_types.specs.declared.log.Entry.TheVariants as entry
use Rattle.op_types.specs.declared.durable.Part.{Part}
use Rattle.op_protocol.specs.Parts.{has_stop, is_admitted}

command_if : (e : Entry) → is_some (stop_of e) ≡ false → IsCommand e
command_if (entry.Command c) h = tt
command_if (entry.Stop s) h = absurd (false≢true (sym h))

-- no stop-sign among them
pub free_commands : (es : List Entry) → has_stop es ≡ false → All IsCommand es
free_commands [] h = All-nil IsCommand
free_commands (e ∷ es) h = by (λ k. free_commands es k) (is_some (stop_of e)) refl
  where
    by : (has_stop es ≡ false → All IsCommand es) → (b : Bool) → is_some (stop_of e) ≡ b → All IsCommand (e ∷ es)
    by rest true s = absurd (false≢true (sym h ∙ ap (λ (b : Bool). cond b true (has_stop es)) s))
    by rest false s = All-cons IsCommand e es (command_if e s) (rest (sym (ap (λ (b : Bool). cond b true (has_stop es)) s) ∙ h))

-- what is admitted ends within the positions, and has no stop-sign in the last configuration
pub admitted_ends : (p : Part) (at : ℕ) (es : List Entry) → is_admitted p at es ≡ true → at + length es ≤ positions_end
admitted_ends p at es h = leb-true (at + length es) positions_end (and_parts (leb (at + length es) positions_end) (not (eqb p.conf last_conf && has_stop es)) h).0

pub admitted_stops : (p : Part) (at : ℕ) (es : List Entry) → is_admitted p at es ≡ true → EndsNowhere p.conf es
admitted_stops p at es h last =
    free_commands es (by (eqb p.conf last_conf) (has_stop es) (eq-eqb p.conf last_conf last) (and_parts (leb (at + length es) positions_end) (not (eqb p.conf last_conf && has_stop es)) h).1)
  where
    by : (b c : Bool) → b ≡ true → not (b && c) ≡ true → c ≡ false
    by true true s k = absurd (false≢true k)
    by true false s k = refl
    by false c s k = absurd (false≢true s)
