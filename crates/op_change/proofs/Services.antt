-- What a service makes of one entry more, and of what was written over it.
use Rattle.std.proofs.Common.{◌≡◌, ℕ, refl, sym, ap, ◌∙◌, List, [], ◌∷◌, ◌++◌}
use Rattle.std.proofs.lemmas.List.Sums.{fold_push}
use Rattle.op_types.specs.declared.answers.Applied.{Applied}
use Rattle.op_types.specs.declared.log.Entry.{Entry}
use Rattle.op_types.specs.declared.log.Entry.TheVariants as entry
use Rattle.op_spec.specs.Service.{Pairs, Service, all_after, service_after, answer_of, service_with}
use Rattle.op_change.specs.Over.{answers_of}

-- services with the same pairs and clients
pub both_same : {p q : Pairs} {a b : List (ℕ × Applied)} → p ≡ q → a ≡ b → ◌≡◌ {A = Service} (record { pairs = p; clients = a }) (record { pairs = q; clients = b })
both_same h k i = record { pairs = h i; clients = k i }

-- the answers of one entry more
pub answers_of_push : (s : Service) (es : List Entry) (e : Entry) → answers_of s (es ++ e ∷ []) ≡ answers_of s es ++ answers_of (all_after s es) (e ∷ [])
answers_of_push s [] e = refl
answers_of_push s (entry.Command c ∷ es) e = ap (λ l. answer_of s c ∷ l) (answers_of_push (service_with s c) es e)
answers_of_push s (entry.Stop stop ∷ es) e = answers_of_push s es e

-- the service after one entry more
pub one_more : (s : Service) (es fs : List Entry) (e : Entry) → fs ≡ es ++ e ∷ [] → service_after (all_after s es) e ≡ all_after s fs
one_more s es fs e h = sym (ap (all_after s) h ∙ fold_push service_after s es e)

-- and the answers
pub answers_more : (s : Service) (es fs : List Entry) (e : Entry) → fs ≡ es ++ e ∷ [] → answers_of s es ++ answers_of (all_after s es) (e ∷ []) ≡ answers_of s fs
answers_more s es fs e h = sym (ap (answers_of s) h ∙ answers_of_push s es e)
