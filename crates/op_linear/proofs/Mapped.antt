-- The map that a first part of an order makes is that of the service behind its entries.
use Rattle.std.proofs.Common.{◌≡◌, eqb, ℕ, Bool, true, false, cond, fold, List, [], ◌∷◌, ◌++◌, length, refl, sym, ◌∙◌, ap, subst, append_assoc, append-nil}
use Rattle.op_types.specs.declared.log.Entry.{Entry}
use Rattle.op_types.specs.declared.log.Entry.TheVariants as entry
use Rattle.op_types.specs.declared.read.Read.{Read}
use Rattle.op_spec.specs.Service.{Service, service_of}
use Rattle.op_linear.specs.Linearizable.{Map, map_after, ClientCall, commands, reads, op_of}
use Rattle.op_linear.proofs.Effects.{takes, takes_effect, takes_none, after_command, after_stop}
use Rattle.op_linear.proofs.Maps.{Agrees, agrees_after}
use Rattle.op_linear.proofs.Weaving.{reads_at, effect, front}

-- what calls make of a map
abbrev pub map_from : Map → List ClientCall → Map
map_from m xs = fold (λ n x. map_after (op_of x) n) m xs

pub map_both : (m : Map) (xs ys : List ClientCall) → map_from m (xs ++ ys) ≡ map_from (map_from m xs) ys
map_both m [] ys = refl
map_both m (x ∷ xs) ys = map_both (map_after (op_of x) m) xs ys

module _ {P : Type 0} (read_of : P → Read) (place : P → ℕ) where
  pub reads_leave : (n : ℕ) (ps : List P) (m : Map) → map_from m (reads_at read_of place n ps) ≡ m
  reads_leave n [] m = refl
  reads_leave n (p ∷ ps) m = by (eqb (place p) n) (reads_leave n ps m)
    where
      by : (b : Bool) → map_from m (reads_at read_of place n ps) ≡ m → map_from m (cond b (reads (read_of p) ∷ reads_at read_of place n ps) (reads_at read_of place n ps)) ≡ m
      by true rest = rest
      by false rest = rest

  one_agrees : (done : List Entry) (e : Entry) (m : Map) → Agrees m (service_of done).pairs → Agrees (map_from m (effect read_of place (service_of done) e)) (service_of (done ++ e ∷ [])).pairs
  one_agrees done (entry.Stop s) m g = subst (λ (t : Service). Agrees m t.pairs) (sym (after_stop done s)) g
  one_agrees done (entry.Command c) m g = by (takes (service_of done) c) refl
    where
      by : (b : Bool) → takes (service_of done) c ≡ b → Agrees (map_from m (cond b (commands c ∷ []) [])) (service_of (done ++ entry.Command c ∷ [])).pairs
      by true t = subst (λ (s : Service). Agrees (map_after c.op m) s.pairs) (sym (after_command done c ∙ takes_effect (service_of done) c t)) (agrees_after c.op m (service_of done).pairs g)
      by false t = subst (λ (s : Service). Agrees m s.pairs) (sym (after_command done c ∙ takes_none (service_of done) c t)) g

  pub front_agrees : (ps : List P) (done es : List Entry) (m : Map) → Agrees m (service_of done).pairs → Agrees (map_from m (front read_of place ps done es)) (service_of (done ++ es)).pairs
  front_agrees ps done [] m g = subst (λ l. Agrees m (service_of l).pairs) (sym (append-nil done)) g
  front_agrees ps done (e ∷ es) m g =
      let rs : List ClientCall = reads_at read_of place (length done) ps in
      let one : List ClientCall = effect read_of place (service_of done) e in
      let rest : List ClientCall = front read_of place ps (done ++ e ∷ []) es in
      let is : map_from m (rs ++ (one ++ rest)) ≡ map_from (map_from m one) rest =
      map_both m rs (one ++ rest) ∙ ap (λ (n : Map). map_from n (one ++ rest)) (reads_leave (length done) ps m) ∙ map_both m one rest in
      subst (λ (n : Map). Agrees n (service_of (done ++ e ∷ es)).pairs) (sym is)
      (subst (λ l. Agrees (map_from (map_from m one) rest) (service_of l).pairs) (append_assoc done (e ∷ []) es)
      (front_agrees ps (done ++ e ∷ []) es (map_from m one) (one_agrees done e m g)))
