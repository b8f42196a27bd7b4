-- An order of calls: commands where they take effect in a history, and reads at their places in it.
use Rattle.std.proofs.Common.{◌⊎◌, ◌≡◌, ◌<◌, ◌≤◌, ◌+◌, eqb, ℕ, Bool, true, false, cond, List, [], ◌∷◌, ◌++◌, length, refl, sym, ◌∙◌, ap, arith, append_assoc, append-nil, subst, inl, inr}
use Rattle.std.proofs.lemmas.Bool.{eqb-true}
use Rattle.std.proofs.lemmas.List.{length-append}
use Rattle.op_types.specs.declared.log.Command.{Command}
use Rattle.op_types.specs.declared.log.Entry.{Entry}
use Rattle.op_types.specs.declared.log.Entry.TheVariants as entry
use Rattle.op_types.specs.declared.read.Read.{Read}
use Rattle.op_spec.specs.Machine.{IsAmong}
use Rattle.op_spec.specs.Service.{Service, service_of, service_with}
use Rattle.op_laws.proofs.Drops.{in_right, from_both}
use Rattle.op_linear.specs.Linearizable.{ClientCall, commands, reads, AreApart}
use Rattle.op_linear.specs.Forgetting.{IsForgetOf, ComeAgain}
use Rattle.op_linear.proofs.Effects.{takes, takes_none, Keeps, keeps_own, keeps_with, keeps_out, forgets_or_not, after_command, after_stop}

-- ---- lists

pub head_is : {A : Type 0} (x y : A) (xs ys : List A) → x ∷ xs ≡ y ∷ ys → x ≡ y
head_is x y xs ys e = cc

pub tail_is : {A : Type 0} (x y : A) (xs ys : List A) → x ∷ xs ≡ y ∷ ys → xs ≡ ys
tail_is x y xs ys e = cc

-- an element has a place
pub placed : {A : Type 0} (x : A) (xs : List A) → IsAmong xs x → (before after : List A) × (xs ≡ before ++ x ∷ after)
placed x [] k = absurd k
placed x (y ∷ xs) (inl e) = ([], xs, ap (λ z. z ∷ xs) e)
placed x (y ∷ xs) (inr k) = let p = placed x xs k in (y ∷ p.0, p.1, ap (λ l. y ∷ l) p.2)

-- what stands behind the first ones
past_first : {A : Type 0} (xs ys between rest : List A) (x : A) → (IsAmong xs x → ⊥) → xs ++ ys ≡ between ++ x ∷ rest → (more : List A) × (between ≡ xs ++ more) × (ys ≡ more ++ x ∷ rest)
past_first [] ys between rest x none e = (between, refl, e)
past_first (z ∷ xs) ys [] rest x none e = absurd (none (inl (head_is z x (xs ++ ys) rest e)))
past_first (z ∷ xs) ys (y ∷ between) rest x none e =
    let p = past_first xs ys between rest x (λ k. none (inr k)) (tail_is z y (xs ++ ys) (between ++ x ∷ rest) e) in
    (p.0, ap (λ w. w ∷ between) (sym (head_is z y (xs ++ ys) (between ++ x ∷ rest) e)) ∙ ap (λ l. z ∷ l) p.1, p.2)

abbrev read_in : ClientCall → Read → Read
read_in (commands c) r = r
read_in (reads q) r = q

pub same_read : (q r : Read) → reads q ≡ reads r → q ≡ r
same_read q r e = ap (λ (x : ClientCall). read_in x q) e

abbrev command_in : ClientCall → Command → Command
command_in (commands d) c = d
command_in (reads q) c = c

pub same_command : (c d : Command) → commands c ≡ commands d → c ≡ d
same_command c d e = ap (λ (x : ClientCall). command_in x c) e

abbrev is_command : ClientCall → Bool
is_command (commands c) = true
is_command (reads r) = false

pub unlike : (c : Command) (r : Read) → commands c ≡ reads r → ⊥
unlike c r e = let bad : true ≡ false = ap is_command e in cc

-- ---- a call that stands again

-- Behind these entries one forgets the client of this command, which comes again later; and its call is one of these.
pub record Forgotten (es : List Entry) (between : List ClientCall) (c : Command) : Type 0 where
  pub forget : Command
  pub early : List Entry
  pub late : List Entry
  pub place : es ≡ early ++ entry.Command forget ∷ late
  pub later : IsAmong late (entry.Command c)
  pub is : IsForgetOf c.client forget
  pub among : IsAmong between (commands forget)

forgotten_on : (e : Entry) (es : List Entry) (xs between more : List ClientCall) (c : Command) → between ≡ xs ++ more → Forgotten es more c → Forgotten (e ∷ es) between c
forgotten_on e es xs between more c is f = record {
  forget = f.forget;
  early = e ∷ f.early;
  late = f.late;
  place = ap (λ l. e ∷ l) f.place;
  later = f.later;
  is = f.is;
  among = subst (λ l. IsAmong l (commands f.forget)) (sym is) (in_right (commands f.forget) xs more f.among);
}

-- A call that stands again is a command of these entries, behind which its client is forgotten.
pub record Again (es : List Entry) (between : List ClientCall) (x : ClientCall) : Type 0 where
  pub command : Command
  pub is : x ≡ commands command
  pub before : List Entry
  pub after : List Entry
  pub place : es ≡ before ++ entry.Command command ∷ after
  pub forgotten : Forgotten after between command

again_on : (e : Entry) (es : List Entry) (between : List ClientCall) (x : ClientCall) → Again es between x → Again (e ∷ es) between x
again_on e es between x a = record {
  command = a.command;
  is = a.is;
  before = e ∷ a.before;
  after = a.after;
  place = ap (λ l. e ∷ l) a.place;
  forgotten = a.forgotten;
}

-- so each call of an order stands again
abbrev pub OnlyAgain : List Entry → List ClientCall → Type 0
OnlyAgain es [] = Unit {0}
OnlyAgain es (x ∷ xs) = ((between rest : List ClientCall) → xs ≡ between ++ x ∷ rest → Again es between x) × OnlyAgain es xs

only_on : (e : Entry) (es : List Entry) (xs : List ClientCall) → OnlyAgain es xs → OnlyAgain (e ∷ es) xs
only_on e es [] a = tt
only_on e es (x ∷ xs) a = (λ between rest is. again_on e es between x (a.0 between rest is), only_on e es xs a.1)

-- reads don't
reads_once : (es : List Entry) (xs ys : List ClientCall) → AreApart xs → ((x : ClientCall) → IsAmong xs x → IsAmong ys x → ⊥) → OnlyAgain es ys → OnlyAgain es (xs ++ ys)
reads_once es [] ys a none o = o
reads_once es (x ∷ xs) ys a none o = (
  λ between rest is. absurd (elim (from_both x xs ys (subst (λ l. IsAmong l x) (sym is) (in_right x between (x ∷ rest) (inl refl)))) [
    | inl k ↦ a.0 k
    | inr k ↦ none x (inl refl) k
  ]),
  reads_once es xs ys a.1 (λ z l r. none z (inr l) r) o,
)

-- so none comes again but behind a command that lets it
pub comes_again : (es : List Entry) (xs : List ClientCall) (Lets : Command → ClientCall → Type 0)
    → ((c f : Command) (before mid late : List Entry) → es ≡ before ++ entry.Command c ∷ (mid ++ entry.Command f ∷ late) → IsForgetOf c.client f → IsAmong late (entry.Command c) → Lets f (commands c))
    → OnlyAgain es xs → ComeAgain Lets xs
comes_again es [] Lets lets o = tt
comes_again es (x ∷ xs) Lets lets o = (
  λ between rest is.
      let a = o.0 between rest is in
      let f = a.forgotten in
      let place : es ≡ a.before ++ entry.Command a.command ∷ (f.early ++ entry.Command f.forget ∷ f.late) = a.place ∙ ap (λ l. a.before ++ entry.Command a.command ∷ l) f.place in
      (f.forget, f.among, subst (λ z. Lets f.forget z) (sym a.is) (lets a.command f.forget a.before f.early f.late place f.is f.later)),
  comes_again es xs Lets lets o.1,
)

-- ---- the order

-- Reads at their places, which are lengths of first parts of a history.
module _ {P : Type 0} (read_of : P → Read) (place : P → ℕ) where
  abbrev pub reads_at : ℕ → List P → List ClientCall
  reads_at n [] = []
  reads_at n (p ∷ ps) = cond (eqb (place p) n) (reads (read_of p) ∷ reads_at n ps) (reads_at n ps)

  -- the command of an entry, where it takes effect
  abbrev pub effect : Service → Entry → List ClientCall
  effect s (entry.Command c) = cond (takes s c) (commands c ∷ []) []
  effect s (entry.Stop stop) = []

  -- behind the entries that are done: the reads at each place, and then the next command
  abbrev pub weave : List P → List Entry → List Entry → List ClientCall
  weave ps done [] = reads_at (length done) ps ++ []
  weave ps done (e ∷ es) = reads_at (length done) ps ++ (effect (service_of done) e ++ weave ps (done ++ e ∷ []) es)

  -- what comes behind the reads at the first place
  abbrev pub behind : List P → List Entry → List Entry → List ClientCall
  behind ps done [] = []
  behind ps done (e ∷ es) = effect (service_of done) e ++ weave ps (done ++ e ∷ []) es

  -- the same without the reads at the last place
  abbrev pub front : List P → List Entry → List Entry → List ClientCall
  front ps done [] = []
  front ps done (e ∷ es) = reads_at (length done) ps ++ (effect (service_of done) e ++ front ps (done ++ e ∷ []) es)

  pub weave_begins : (ps : List P) (done es : List Entry) → weave ps done es ≡ reads_at (length done) ps ++ behind ps done es
  weave_begins ps done [] = refl
  weave_begins ps done (e ∷ es) = refl

  pub weave_more : (ps : List P) (done xs ys : List Entry) → weave ps done (xs ++ ys) ≡ front ps done xs ++ weave ps (done ++ xs) ys
  weave_more ps done [] ys = ap (λ l. weave ps l ys) (sym (append-nil done))
  weave_more ps done (x ∷ xs) ys =
      let rest = weave_more ps (done ++ x ∷ []) xs ys ∙ ap (λ l. front ps (done ++ x ∷ []) xs ++ weave ps l ys) (append_assoc done (x ∷ []) xs) in
      let f : List ClientCall = front ps (done ++ x ∷ []) xs in
      let w : List ClientCall = weave ps (done ++ x ∷ xs) ys in
      ap (λ l. reads_at (length done) ps ++ (effect (service_of done) x ++ l)) rest
      ∙ ap (λ l. reads_at (length done) ps ++ l) (sym (append_assoc (effect (service_of done) x) f w))
      ∙ sym (append_assoc (reads_at (length done) ps) (effect (service_of done) x ++ f) w)

  pub front_more : (ps : List P) (done xs ys : List Entry) → front ps done (xs ++ ys) ≡ front ps done xs ++ front ps (done ++ xs) ys
  front_more ps done [] ys = ap (λ l. front ps l ys) (sym (append-nil done))
  front_more ps done (x ∷ xs) ys =
      let rest = front_more ps (done ++ x ∷ []) xs ys ∙ ap (λ l. front ps (done ++ x ∷ []) xs ++ front ps l ys) (append_assoc done (x ∷ []) xs) in
      let f : List ClientCall = front ps (done ++ x ∷ []) xs in
      let w : List ClientCall = front ps (done ++ x ∷ xs) ys in
      ap (λ l. reads_at (length done) ps ++ (effect (service_of done) x ++ l)) rest
      ∙ ap (λ l. reads_at (length done) ps ++ l) (sym (append_assoc (effect (service_of done) x) f w))
      ∙ sym (append_assoc (reads_at (length done) ps) (effect (service_of done) x ++ f) w)

  -- ---- what stands in it

  -- it is one of these reads, at this place
  abbrev pub ReadAt : ℕ → List P → ClientCall → Type 0
  ReadAt n ps x = (p : P) × IsAmong ps p × (place p ≡ n) × (x ≡ reads (read_of p))

  pub read_found : (n : ℕ) (ps : List P) (x : ClientCall) → IsAmong (reads_at n ps) x → ReadAt n ps x
  read_found n [] x k = absurd k
  read_found n (p ∷ ps) x k = by (eqb (place p) n) refl (λ m. read_found n ps x m) k
    where
      by : (b : Bool) → eqb (place p) n ≡ b → (IsAmong (reads_at n ps) x → ReadAt n ps x)
          → IsAmong (cond b (reads (read_of p) ∷ reads_at n ps) (reads_at n ps)) x → ReadAt n (p ∷ ps) x
      by true t later (inl e) = (p, inl refl, eqb-true (place p) n t, sym e)
      by true t later (inr m) = let f = later m in (f.0, inr f.1, f.2, f.3)
      by false t later m = let f = later m in (f.0, inr f.1, f.2, f.3)

  pub reads_both : (n : ℕ) (ps qs : List P) → reads_at n (ps ++ qs) ≡ reads_at n ps ++ reads_at n qs
  reads_both n [] qs = refl
  reads_both n (p ∷ ps) qs = by (eqb (place p) n) (reads_both n ps qs)
    where
      by : (b : Bool) → reads_at n (ps ++ qs) ≡ reads_at n ps ++ reads_at n qs
          → cond b (reads (read_of p) ∷ reads_at n (ps ++ qs)) (reads_at n (ps ++ qs)) ≡ cond b (reads (read_of p) ∷ reads_at n ps) (reads_at n ps) ++ reads_at n qs
      by true e = ap (λ l. reads (read_of p) ∷ l) e
      by false e = e

  pub effect_found : (s : Service) (e : Entry) (x : ClientCall) → IsAmong (effect s e) x → (c : Command) × (e ≡ entry.Command c) × (takes s c ≡ true) × (x ≡ commands c)
  effect_found s (entry.Stop stop) x k = absurd k
  effect_found s (entry.Command c) x k = by (takes s c) refl k
    where
      by : (b : Bool) → takes s c ≡ b → IsAmong (cond b (commands c ∷ []) []) x → (d : Command) × (entry.Command c ≡ entry.Command d) × (takes s d ≡ true) × (x ≡ commands d)
      by true t (inl e) = (c, refl, t, sym e)
      by true t (inr m) = absurd m
      by false t m = absurd m

  -- a call of the order is a read at a place from here on, or a command that takes effect
  abbrev pub IsRead : List P → ℕ → ClientCall → Type 0
  IsRead ps n x = (p : P) × IsAmong ps p × (n ≤ place p) × (x ≡ reads (read_of p))

  abbrev pub IsEffect : List Entry → List Entry → ClientCall → Type 0
  IsEffect done es x =
      (before : List Entry) × (c : Command) × (after : List Entry) × (es ≡ before ++ entry.Command c ∷ after) × (takes (service_of (done ++ before)) c ≡ true) × (x ≡ commands c)

  effect_first : (done es : List Entry) (e : Entry) (x : ClientCall) → IsAmong (effect (service_of done) e) x → IsEffect done (e ∷ es) x
  effect_first done es e x k =
      let f = effect_found (service_of done) e x k in
      ([], f.0, es, ap (λ z. z ∷ es) f.1, ap (λ l. takes (service_of l) f.0) (append-nil done) ∙ f.2, f.3)

  effect_later : (done es : List Entry) (e : Entry) (x : ClientCall) → IsEffect (done ++ e ∷ []) es x → IsEffect done (e ∷ es) x
  effect_later done es e x f =
      (e ∷ f.0, f.1, f.2, ap (λ l. e ∷ l) f.3, sym (ap (λ l. takes (service_of l) f.1) (append_assoc done (e ∷ []) f.0)) ∙ f.4, f.5)

  one_longer : (done : List Entry) (e : Entry) → length (done ++ e ∷ []) ≡ length done + 1
  one_longer done e = length-append done (e ∷ [])

  read_later : (ps : List P) (done : List Entry) (e : Entry) (x : ClientCall) → IsRead ps (length (done ++ e ∷ [])) x → IsRead ps (length done) x
  read_later ps done e x f = let l = one_longer done e in let h = f.2 in (f.0, f.1, omega (arith, l, h), f.3)

  weave_begun : (ps : List P) (done : List Entry) (x : ClientCall) → IsAmong (reads_at (length done) ps) x → IsRead ps (length done) x
  weave_begun ps done x r = let f = read_found (length done) ps x r in let e = f.2 in (f.0, f.1, omega (arith, e), f.3)

  pub weave_found : (ps : List P) (done es : List Entry) (x : ClientCall) → IsAmong (weave ps done es) x → IsRead ps (length done) x ⊎ IsEffect done es x
  weave_found ps done [] x k = elim (from_both x (reads_at (length done) ps) [] k) [
    | inl r ↦ inl (weave_begun ps done x r)
    | inr b ↦ absurd b
  ]
  weave_found ps done (e ∷ es) x k = elim (from_both x (reads_at (length done) ps) (effect (service_of done) e ++ weave ps (done ++ e ∷ []) es) k) [
    | inl r ↦ inl (weave_begun ps done x r)
    | inr b ↦ elim (from_both x (effect (service_of done) e) (weave ps (done ++ e ∷ []) es) b) [
      | inl f ↦ inr (effect_first done es e x f)
      | inr w ↦ elim (weave_found ps (done ++ e ∷ []) es x w) [
        | inl r ↦ inl (read_later ps done e x r)
        | inr f ↦ inr (effect_later done es e x f)
      ]
    ]
  ]

  -- one of the front is a read at a place before its end, or a command of it
  pub front_found : (ps : List P) (done es : List Entry) (x : ClientCall) → IsAmong (front ps done es) x
      → ((p : P) × IsAmong ps p × (place p < length done + length es) × (x ≡ reads (read_of p))) ⊎ IsEffect done es x
  front_found ps done [] x k = absurd k
  front_found ps done (e ∷ es) x k = elim (from_both x (reads_at (length done) ps) (effect (service_of done) e ++ front ps (done ++ e ∷ []) es) k) [
    | inl r ↦ (let f = read_found (length done) ps x r in let is = f.2 in inl (f.0, f.1, omega (arith, is), f.3))
    | inr b ↦ elim (from_both x (effect (service_of done) e) (front ps (done ++ e ∷ []) es) b) [
      | inl f ↦ inr (effect_first done es e x f)
      | inr w ↦ elim (front_found ps (done ++ e ∷ []) es x w) [
        | inl r ↦ (let l = one_longer done e in let lt = r.2 in inl (r.0, r.1, omega (arith, l, lt), r.3))
        | inr f ↦ inr (effect_later done es e x f)
      ]
    ]
  ]

  -- ---- no call stands twice

  abbrev pub PointsApart : List P → Type 0
  PointsApart [] = Unit {0}
  PointsApart (p ∷ ps) = ((q : P) → IsAmong ps q → read_of q ≡ read_of p → ⊥) × PointsApart ps

  same_place : (ps : List P) → PointsApart ps → (p q : P) → IsAmong ps p → IsAmong ps q → read_of p ≡ read_of q → place p ≡ place q
  same_place [] a p q k m e = absurd k
  same_place (o ∷ ps) a p q (inl k) (inl m) e = ap place (sym k ∙ m)
  same_place (o ∷ ps) a p q (inl k) (inr m) e = absurd (a.0 q m (sym e ∙ sym (ap read_of k)))
  same_place (o ∷ ps) a p q (inr k) (inl m) e = absurd (a.0 p k (e ∙ sym (ap read_of m)))
  same_place (o ∷ ps) a p q (inr k) (inr m) e = same_place ps a.1 p q k m e

  apart_reads : (n : ℕ) (ps : List P) → PointsApart ps → AreApart (reads_at n ps)
  apart_reads n [] a = tt
  apart_reads n (p ∷ ps) a = by (eqb (place p) n) (apart_reads n ps a.1)
    where
      by : (b : Bool) → AreApart (reads_at n ps) → AreApart (cond b (reads (read_of p) ∷ reads_at n ps) (reads_at n ps))
      by true rest = (
        λ k. (let f = read_found n ps (reads (read_of p)) k in a.0 f.0 f.1 (sym (same_read (read_of p) (read_of f.0) f.3))),
        rest,
      )
      by false rest = rest

  -- a read of this place is no call behind it
  no_read : (ps : List P) → PointsApart ps → (done : List Entry) (e : Entry) (es : List Entry) (x : ClientCall) → IsAmong (reads_at (length done) ps) x
      → IsAmong (effect (service_of done) e ++ weave ps (done ++ e ∷ []) es) x → ⊥
  no_read ps a done e es x r b =
      let p = read_found (length done) ps x r in
      elim (from_both x (effect (service_of done) e) (weave ps (done ++ e ∷ []) es) b) [
        | inl f ↦ (let c = effect_found (service_of done) e x f in unlike c.0 (read_of p.0) (sym c.3 ∙ p.3))
        | inr w ↦ elim (weave_found ps (done ++ e ∷ []) es x w) [
          | inl q ↦ (
              let same = same_place ps a p.0 q.0 p.1 q.1 (same_read (read_of p.0) (read_of q.0) (sym p.3 ∙ q.3)) in
              let l = one_longer done e in
              let low = q.2 in
              let is = p.2 in
              omega (arith, l, low, same, is))
          | inr c ↦ unlike c.1 (read_of p.0) (sym c.5 ∙ p.3)
        ]
      ]

  -- ---- a command that stands again

  no_command : (n : ℕ) (ps : List P) (c : Command) → IsAmong (reads_at n ps) (commands c) → ⊥
  no_command n ps c k = let f = read_found n ps (commands c) k in unlike c (read_of f.0) f.3

  -- a command of the order is one of the entries
  entry_there : (ps : List P) (done es : List Entry) (c : Command) → IsAmong (weave ps done es) (commands c) → IsAmong es (entry.Command c)
  entry_there ps done es c k = elim (weave_found ps done es (commands c) k) [
    | inl r ↦ absurd (unlike c (read_of r.0) r.3)
    | inr f ↦ subst (λ l. IsAmong l (entry.Command c)) (sym f.3)
        (in_right (entry.Command c) f.0 (entry.Command f.1 ∷ f.2) (inl (ap (λ d. entry.Command d) (sym (same_command c f.1 f.5)))))
  ]

  -- Where a command's number is kept, it stands in the order only behind one that forgets its client.
  again_behind : (ps : List P) (done es : List Entry) (c : Command) → Keeps c.client c.seq (service_of done) → (between rest : List ClientCall) → weave ps done es ≡ between ++ commands c ∷ rest
      → Forgotten es between c
  again_behind ps done [] c k between rest e =
      absurd (elim (from_both (commands c) (reads_at (length done) ps) [] (subst (λ l. IsAmong l (commands c)) (sym e) (in_right (commands c) between (commands c ∷ rest) (inl refl)))) [
        | inl r ↦ no_command (length done) ps c r
        | inr none ↦ none
      ])
  again_behind ps done (entry.Stop s ∷ es) c k between rest e =
      let rs : List ClientCall = reads_at (length done) ps in
      let p = past_first rs (weave ps (done ++ entry.Stop s ∷ []) es) between rest (commands c) (no_command (length done) ps c) e in
      let keeps : Keeps c.client c.seq (service_of (done ++ entry.Stop s ∷ [])) = subst (λ (t : Service). Keeps c.client c.seq t) (sym (after_stop done s)) k in
      forgotten_on (entry.Stop s) es rs between p.0 c p.1 (again_behind ps (done ++ entry.Stop s ∷ []) es c keeps p.0 rest p.2)
  again_behind ps done (entry.Command d ∷ es) c k between rest e =
      let p = past_first (reads_at (length done) ps) (effect (service_of done) (entry.Command d) ++ weave ps (done ++ entry.Command d ∷ []) es) between rest (commands c)
      (no_command (length done) ps c) e in
      by (takes (service_of done) d) refl (λ j more r. again_behind ps (done ++ entry.Command d ∷ []) es c j more r) p.0 p.1 p.2
    where
      rs : List ClientCall
      rs = reads_at (length done) ps

      next : List ClientCall
      next = weave ps (done ++ entry.Command d ∷ []) es

      Further : Type 0
      Further = Keeps c.client c.seq (service_of (done ++ entry.Command d ∷ [])) → (more left : List ClientCall) → next ≡ more ++ commands c ∷ left → Forgotten es more c

      kept : Keeps c.client c.seq (service_with (service_of done) d) → Keeps c.client c.seq (service_of (done ++ entry.Command d ∷ []))
      kept j = subst (λ (t : Service). Keeps c.client c.seq t) (sym (after_command done d)) j

      -- it takes effect itself
      takes_it : takes (service_of done) d ≡ true → Further → (more : List ClientCall) → between ≡ rs ++ more → commands d ∷ next ≡ more ++ commands c ∷ rest → Forgotten (entry.Command d ∷ es) between c
      takes_it t further [] is q =
          let same : d ≡ c = same_command d c (head_is (commands d) (commands c) next rest q) in
          absurd (keeps_out (service_of done) c c.seq k (omega arith) (subst (λ x. takes (service_of done) x ≡ true) same t))
      takes_it t further (z ∷ more) is q =
          let first : commands d ≡ z = head_is (commands d) z next (more ++ commands c ∷ rest) q in
          let later : next ≡ more ++ commands c ∷ rest = tail_is (commands d) z next (more ++ commands c ∷ rest) q in
          elim (forgets_or_not c.client d) [
            | inl f ↦ record {
              forget = d;
              early = [];
              late = es;
              place = refl;
              later = entry_there ps (done ++ entry.Command d ∷ []) es c (subst (λ l. IsAmong l (commands c)) (sym later) (in_right (commands c) more (commands c ∷ rest) (inl refl)));
              is = f;
              among = subst (λ l. IsAmong l (commands d)) (sym is) (in_right (commands d) rs (z ∷ more) (inl (sym first)));
            }
            | inr never ↦ forgotten_on (entry.Command d) es (rs ++ z ∷ []) between more c (is ∙ sym (append_assoc rs (z ∷ []) more))
                (further (kept (keeps_with (service_of done) c.client c.seq d never k)) more rest later)
          ]

      by : (b : Bool) → takes (service_of done) d ≡ b → Further → (more : List ClientCall) → between ≡ rs ++ more → cond b (commands d ∷ []) [] ++ next ≡ more ++ commands c ∷ rest
          → Forgotten (entry.Command d ∷ es) between c
      by true t further more is q = takes_it t further more is q
      by false t further more is q =
          forgotten_on (entry.Command d) es rs between more c is
          (further (kept (subst (λ (s : Service). Keeps c.client c.seq s) (sym (takes_none (service_of done) d t)) k)) more rest q)

  pub weave_again : (ps : List P) → PointsApart ps → (done es : List Entry) → OnlyAgain es (weave ps done es)
  weave_again ps a done [] = reads_once [] (reads_at (length done) ps) [] (apart_reads (length done) ps a) (λ x r b. b) tt
  weave_again ps a done (entry.Stop s ∷ es) =
      reads_once (entry.Stop s ∷ es) (reads_at (length done) ps) (weave ps (done ++ entry.Stop s ∷ []) es) (apart_reads (length done) ps a) (no_read ps a done (entry.Stop s) es)
      (only_on (entry.Stop s) es (weave ps (done ++ entry.Stop s ∷ []) es) (weave_again ps a (done ++ entry.Stop s ∷ []) es))
  weave_again ps a done (entry.Command d ∷ es) =
      reads_once (entry.Command d ∷ es) (reads_at (length done) ps) (effect (service_of done) (entry.Command d) ++ weave ps (done ++ entry.Command d ∷ []) es) (apart_reads (length done) ps a)
      (no_read ps a done (entry.Command d) es)
      (by (takes (service_of done) d) (only_on (entry.Command d) es (weave ps (done ++ entry.Command d ∷ []) es) (weave_again ps a (done ++ entry.Command d ∷ []) es)))
    where
      keeps : Keeps d.client d.seq (service_of (done ++ entry.Command d ∷ []))
      keeps = subst (λ (t : Service). Keeps d.client d.seq t) (sym (after_command done d)) (keeps_own (service_of done) d)

      by : (b : Bool) → OnlyAgain (entry.Command d ∷ es) (weave ps (done ++ entry.Command d ∷ []) es)
          → OnlyAgain (entry.Command d ∷ es) (cond b (commands d ∷ []) [] ++ weave ps (done ++ entry.Command d ∷ []) es)
      by true further = (
        λ between rest is. record {
          command = d;
          is = refl;
          before = [];
          after = es;
          place = refl;
          forgotten = again_behind ps (done ++ entry.Command d ∷ []) es d keeps between rest is;
        },
        further,
      )
      by false further = further
