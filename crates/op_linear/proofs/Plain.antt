-- Where no call comes again, what is linearizable until then is linearizable.
use Rattle.std.proofs.Common.{◌≡◌, List, [], ◌∷◌, ◌++◌, refl, sym, ◌∙◌, ap, subst, append_assoc, inl, inr}
use Rattle.op_types.specs.declared.answers.Answer.{Answer}
use Rattle.op_types.specs.declared.log.Command.{Command}
use Rattle.op_spec.specs.Machine.{IsAmong}
use Rattle.op_laws.proofs.Drops.{in_left, in_right, from_both}
use Rattle.op_linear.specs.Forgetting.{map_of, ComeAgain, TakesPlace, LinearizableUntil, NoneLets}
use Rattle.op_linear.specs.Linearizable.{empty_map, map_answer, ClientCall, commands, op_of, calls, returns, History, AreApart, StandsBefore, MapAnswers, Linearizable}
use Rattle.op_linear.proofs.Mapped.{map_both}
use Rattle.op_linear.proofs.Weaving.{head_is, tail_is, placed}

-- what stands in an order once has one place in it
one_place : (xs ys zs ws : List ClientCall) (x : ClientCall) → AreApart (xs ++ x ∷ ys) → xs ++ x ∷ ys ≡ zs ++ x ∷ ws → xs ≡ zs
one_place [] ys [] ws x a e = refl
one_place [] ys (z ∷ zs) ws x a e = absurd (a.0 (subst (λ l. IsAmong l x) (sym (tail_is x z ys (zs ++ x ∷ ws) e)) (in_right x zs (x ∷ ws) (inl refl))))
one_place (y ∷ xs) ys [] ws x a e = absurd (a.0 (in_right y xs (x ∷ ys) (inl (sym (head_is y x (xs ++ x ∷ ys) ws e)))))
one_place (y ∷ xs) ys (z ∷ zs) ws x a e =
    ap (λ w. w ∷ xs) (head_is y z (xs ++ x ∷ ys) (zs ++ x ∷ ws) e) ∙ ap (λ l. z ∷ l) (one_place xs ys zs ws x a.1 (tail_is y z (xs ++ x ∷ ys) (zs ++ x ∷ ws) e))

module _ (h : History) (Lets : Command → ClientCall → Type 0) (none : NoneLets Lets h) (u : LinearizableUntil Lets h)
    (once : (early late : History) (x : ClientCall) (a b : Answer) → h ≡ early ++ returns x a ∷ late → IsAmong late (returns x b) → ⊥) where
  apart_each : (xs : List ClientCall) → ((x : ClientCall) → IsAmong xs x → IsAmong h (calls x)) → ComeAgain Lets xs → AreApart xs
  apart_each [] called again = tt
  apart_each (x ∷ xs) called again = (
    λ k.
        let p = placed x xs k in
        let f = again.0 p.0 p.1 p.2 in
        none f.0 x (called (commands f.0) (inr (subst (λ l. IsAmong l (commands f.0)) (sym p.2) (in_left (commands f.0) p.0 (x ∷ p.1) f.1)))) (called x (inl refl)) f.2,
    apart_each xs (λ y k. called y (inr k)) again.1,
  )

  are_apart : AreApart u.order
  are_apart = apart_each u.order u.called u.again

  answers_from : (first rest : List ClientCall) → u.order ≡ first ++ rest → MapAnswers h (map_of first) rest
  answers_from first [] e = tt
  answers_from first (x ∷ rest) e = (
    λ a k.
        let p = placed (returns x a) h k in
        let t : TakesPlace u.order x a p.1 = u.completed p.0 p.1 x a p.2 in
        let same : t.before ≡ first = one_place t.before t.after first rest x (subst AreApart t.is are_apart) (sym t.is ∙ e) in
        t.answer_is ∙ ap (λ l. map_answer (op_of x) (map_of l)) same,
    subst (λ m. MapAnswers h m rest) (map_both empty_map first (x ∷ [])) (answers_from (first ++ x ∷ []) rest (e ∙ sym (append_assoc first (x ∷ []) rest))),
  )

  stands_before : (early late : History) → h ≡ early ++ late → (x y : ClientCall) (a : Answer) → IsAmong early (returns x a) → IsAmong late (calls y) → IsAmong u.order y → StandsBefore u.order x y
  stands_before early late e x y a k is_called stands =
      let p = placed (returns x a) early k in
      let t : TakesPlace u.order x a (p.1 ++ late) = u.completed p.0 (p.1 ++ late) x a (e ∙ ap (λ l. l ++ late) p.2 ∙ append_assoc p.0 (returns x a ∷ p.1) late) in
      let is : u.order ≡ (t.before ++ x ∷ []) ++ t.after = t.is ∙ sym (append_assoc t.before (x ∷ []) t.after) in
      elim (from_both y (t.before ++ x ∷ []) t.after (subst (λ l. IsAmong l y) is stands)) [
        | inl there ↦ absurd (t.in_time y (in_right (calls y) p.1 late is_called) there)
        | inr behind ↦ (t.before ++ x ∷ [], t.after, is, in_right x t.before (x ∷ []) (inl refl), behind)
      ]

  completed : (x : ClientCall) (a : Answer) → IsAmong h (returns x a) → IsAmong u.order x
  completed x a k =
      let p = placed (returns x a) h k in
      let t : TakesPlace u.order x a p.1 = u.completed p.0 p.1 x a p.2 in
      subst (λ l. IsAmong l x) (sym t.is) (in_right x t.before (x ∷ t.after) (inl refl))

  pub is_linearizable : Linearizable h
  is_linearizable = record {
    order = u.order;
    apart = are_apart;
    called = u.called;
    completed = completed;
    answers = answers_from [] u.order refl;
    in_time = stands_before;
  }
