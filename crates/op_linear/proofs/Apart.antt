-- Of two entries of a history the first was taken in in no higher configuration than the second.
use Rattle.std.proofs.Common.{◌+◌, ◌≡◌, ◌≤◌, ℕ, zero, suc, List, [], ◌∷◌, ◌++◌, Option, Some, None, sym, ◌∙◌, ap, subst, arith, refl, ◌⊎◌, inl, inr}
use Rattle.op_types.specs.declared.log.Command.{Command}
use Rattle.op_types.specs.declared.log.Entry.{Entry}
use Rattle.op_types.specs.declared.log.Entry.TheVariants as entry
use Rattle.op_spec.specs.Machine.{IsAmong}
use Rattle.op_runs.specs.Run.{Execution, first_execution, execution_of, latest_at, Meets}
use Rattle.op_runs.specs.Summary.{greatest_conf}
use Rattle.op_runs.specs.World.{World, Happening, node_at}
use Rattle.op_laws.proofs.Drops.{in_left, in_right, from_both}
use Rattle.op_laws.proofs.Histories.{history_from, history_none, next_of}
use Rattle.op_laws.proofs.Reached.{world_of_run}
use Rattle.op_cluster_laws.specs.Worlds.{history_after}
use Rattle.op_cluster_laws.proofs.Proposing.{ComesIn, proposed_there}
use Rattle.op_cluster_laws.proofs.Reaching.{sound_behind}
use Rattle.op_linear.specs.Apart.{IsTakenIn, ComesByThen}

-- two ways to cut a list
abbrev Halves : (us bs xs ys : List Entry) → Type 0
Halves us bs xs ys = ((zs : List Entry) × (us ≡ xs ++ zs) × (ys ≡ zs ++ bs)) ⊎ ((zs : List Entry) × (xs ≡ us ++ zs) × (bs ≡ zs ++ ys))

halves : (us bs xs ys : List Entry) → us ++ bs ≡ xs ++ ys → Halves us bs xs ys
halves [] bs xs ys e = inr (xs, refl, e)
halves (a ∷ us) bs [] ys e = inl (a ∷ us, refl, sym e)
halves (a ∷ us) bs (x ∷ xs) ys e = by (halves us bs xs ys (tail_of e))
  where
    head_of : a ∷ (us ++ bs) ≡ x ∷ (xs ++ ys) → a ≡ x
    head_of k = cc

    tail_of : a ∷ (us ++ bs) ≡ x ∷ (xs ++ ys) → us ++ bs ≡ xs ++ ys
    tail_of k = cc

    by : Halves us bs xs ys → Halves (a ∷ us) bs (x ∷ xs) ys
    by (inl (zs, f, g)) = inl (zs, ap (λ z. z ∷ us) (head_of e) ∙ ap (λ l. x ∷ l) f, g)
    by (inr (zs, f, g)) = inr (zs, ap (λ z. z ∷ xs) (sym (head_of e)) ∙ ap (λ l. a ∷ l) f, g)

-- an element of a history is one of a list, of this configuration or a later one
among_from : (lists : ℕ → List Entry) (count conf : ℕ) (o : Option (List ℕ)) (e : Entry) → IsAmong (history_from lists count conf o) e → (c : ℕ) × (conf ≤ c) × IsAmong (lists c) e
among_from lists count conf None e k = absurd (subst (λ l. IsAmong l e) (history_none lists count conf) k)
among_from lists zero conf (Some ids) e k = absurd k
among_from lists (suc count) conf (Some ids) e k = elim (from_both e (lists conf) (history_from lists count (conf + 1) (next_of (lists conf))) k) [
  | inl here ↦ (conf, omega arith, here)
  | inr later ↦ (let a = among_from lists count (conf + 1) (next_of (lists conf)) e later in let le = a.1 in (a.0, omega (arith, le), a.2))
]

-- the first of two is of no later list than the second
abbrev InOrder : (ℕ → List Entry) → Entry → Entry → Type 0
InOrder lists e g = (j k : ℕ) × (j ≤ k) × IsAmong (lists j) e × IsAmong (lists k) g

none_two : (xs ys : List Entry) (e : Entry) → [] ≡ xs ++ ys → IsAmong xs e → ⊥
none_two [] ys e is k = k
none_two (x ∷ xs) ys e is k = absurd cc

in_order : (lists : ℕ → List Entry) (count conf : ℕ) (o : Option (List ℕ)) (xs ys : List Entry) (e g : Entry) → history_from lists count conf o ≡ xs ++ ys → IsAmong xs e → IsAmong ys g
    → InOrder lists e g
in_order lists count conf None xs ys e g is k m = absurd (none_two xs ys e (sym (history_none lists count conf) ∙ is) k)
in_order lists zero conf (Some ids) xs ys e g is k m = absurd (none_two xs ys e is k)
in_order lists (suc count) conf (Some ids) xs ys e g is k m =
    by (halves (lists conf) rest xs ys is) (λ zs f l. in_order lists count (conf + 1) (next_of (lists conf)) zs ys e g f l m)
  where
    rest : List Entry
    rest = history_from lists count (conf + 1) (next_of (lists conf))

    -- behind the list of this configuration
    later : IsAmong (lists conf) e → IsAmong rest g → InOrder lists e g
    later here there =
        let a = among_from lists count (conf + 1) (next_of (lists conf)) g there in
        let le = a.1 in
        (conf, a.0, omega (arith, le), here, a.2)

    by : Halves (lists conf) rest xs ys → ((zs : List Entry) → rest ≡ zs ++ ys → IsAmong zs e → InOrder lists e g) → InOrder lists e g
    by (inl (zs, f, q)) further =
        let here : IsAmong (lists conf) e = subst (λ l. IsAmong l e) (sym f) (in_left e xs zs k) in
        elim (from_both g zs rest (subst (λ l. IsAmong l g) q m)) [
          | inl same ↦ (conf, conf, omega arith, here, subst (λ l. IsAmong l g) (sym f) (in_right g xs zs same))
          | inr there ↦ later here there
        ]
    by (inr (zs, f, q)) further = elim (from_both e (lists conf) zs (subst (λ l. IsAmong l e) f k)) [
      | inl here ↦ later here (subst (λ l. IsAmong l g) (sym q) (in_right g zs ys m))
      | inr there ↦ further zs q there
    ]

module _ (members spares : List ℕ) (hs : List Happening) (meets : Meets members spares hs) where
  abbrev start : Execution
  start = first_execution members spares

  abbrev end : Execution
  end = execution_of start hs

  -- what stands in a list was taken in in its configuration
  taken_in : (conf : ℕ) (b : Command) → IsAmong (end.machine.lists conf) (entry.Command b) → IsTakenIn members spares hs conf b
  taken_in conf b k = elim (proposed_there b start hs conf ((sound_behind members start hs meets.0 meets.1).safe.proposed conf (entry.Command b) k)) [
    | inl before ↦ absurd before
    | inr c ↦ taken c
  ]
    where
      taken : ComesIn start hs conf b → IsTakenIn members spares hs conf b
      taken c = record {
        before = c.before;
        now = c.now;
        after = c.after;
        is = c.is;
        pid = c.pid;
        together = c.together;
        comes = c.comes;
        among = c.among;
        latest = ap (λ (w : World). latest_at (node_at w.nodes c.pid)) (sym (world_of_run start c.before)) ∙ c.latest;
      }

  pub come_in_order : (c d : Command) (xs ys : List Entry) → history_after members spares hs ≡ xs ++ ys → IsAmong xs (entry.Command c) → IsAmong ys (entry.Command d)
      → ComesByThen members spares hs c d
  come_in_order c d xs ys is k m =
      let o = in_order end.machine.lists (greatest_conf end.world.nodes) 1 (Some members) xs ys (entry.Command c) (entry.Command d) is k m in
      (o.0, o.1, taken_in o.0 c o.3, taken_in o.1 d o.4, o.2)
