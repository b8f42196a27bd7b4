-- What is seen of an object outside, one run of calls after another.
use Rattle.std.proofs.Common.{◌≡◌, ℕ, List, [], ◌∷◌, ◌++◌, ◌||◌, Bool, true, false, Option, Some, None, option_map, inl, inr, refl, sym, ◌∙◌, ap, append_assoc, append-nil, subst, arith, Result, Ok, Err, IsErr}
use Rattle.std.specs.Prelude.{IsErrOf}
use Rattle.std.proofs.lemmas.List.Folds.{list_any-append}
use Rattle.op_outside.specs.Causes.{FailsOnlyOnFault, Rises, RisesIf, RisesWith}
use Rattle.op_outside.specs.Nets.{Call, call_fails, has_failed}
use Rattle.op_outside.specs.Seen.{NetSeen, Told}
use Rattle.op_outside.specs.Telling.{Grows}

-- ---- what is told

pub grows_none : {A : Type 0} (o : Option (List A)) → Grows o [] o
grows_none None = inl refl
grows_none (Some h) = inr (ap Some (sym (append-nil h)))

pub grows_both : {A : Type 0} (a : Option (List A)) {b c : Option (List A)} (x y : List A) → Grows a x b → Grows b y c → Grows a (x ++ y) c
grows_both a x y first (inl e) = inl e
grows_both a x y (inl f) (inr e) = inl (e ∙ ap (option_map (λ h. h ++ y)) f)
grows_both None x y (inr f) (inr e) = inl (e ∙ ap (option_map (λ h. h ++ y)) f)
grows_both (Some h) x y (inr f) (inr e) = inr (e ∙ ap (option_map (λ h. h ++ y)) f ∙ ap Some (append_assoc h x y))

-- ---- counts of faults

rises_both : {f g h : ℕ} → Rises f g → Rises g h → Rises f h
rises_both {f = f} {g = g} {h = h} a b = record {
  later = omega (arith, a.later, b.later);
  rose = elim a.rose [
    | inl lt ↦ inl (omega (arith, lt, b.later))
    | inr is ↦ elim b.rose [ inl lt ↦ inl (omega (arith, lt, a.later)) | inr last ↦ inr last ]
  ];
}

rises_if_both : (p q : Bool) (f g h : ℕ) → RisesIf p f g → RisesIf q g h → RisesIf (p || q) f h
rises_if_both false false f g h a b = b ∙ a
rises_if_both false true f g h a b = subst (λ n. Rises n h) a b
rises_if_both true false f g h a b = subst (λ n. Rises f n) (sym b) a
rises_if_both true true f g h a b = rises_both a b

rises_if_one : (p : Bool) (f g : ℕ) → RisesIf p f g → RisesIf (p || false) f g
rises_if_one false f g h = h
rises_if_one true f g h = h

-- an error that is told of a result, and of itself
pub rises_with_error : (T : Type 0) {E : Type 0} (e fault : E) (f g : ℕ) → RisesWith (IsErrOf {T = T} (Err e) fault) f g → RisesWith (e ≡ fault) f g
rises_with_error T e fault f g r = record { later = r.later; rose = λ is. r.rose (ap Err is); same = λ other. r.same (λ is. other cc) }

-- a call that failed
pub went_wrong : {T E : Type 0} (f g : ℕ) (result : Result T E) → IsErr result → FailsOnlyOnFault f g result → RisesIf true f g
went_wrong f g result is cause = record { later = cause.later; rose = cause.err is }

-- ---- what is told of a net's calls

pub told_none : (n : NetSeen) → Told [] n n
told_none n = record { grows = grows_none n.0; counts = refl }

pub told_call : {call : Call} (n0 n1 : NetSeen) → Grows n0.0 (call ∷ []) n1.0 → RisesIf (call_fails call) n0.1 n1.1 → Told (call ∷ []) n0 n1
told_call {call = call} n0 n1 g k = record { grows = g; counts = rises_if_one (call_fails call) n0.1 n1.1 k }

pub told_both : (a b c : NetSeen) (x y : List Call) → Told x a b → Told y b c → Told (x ++ y) a c
told_both a b c x y first second = record {
  grows = grows_both a.0 x y first.grows second.grows;
  counts = rw (list_any-append call_fails x y) (rises_if_both (has_failed x) (has_failed y) a.1 b.1 c.1 first.counts second.counts);
}
