-- Where nodes answer from one history of entries, each history of their clients is linearizable until clients are forgotten.
use Rattle.std.proofs.Common.{◌≡◌, ◌≤◌, ℕ, Bool, true, false, cond, List, [], ◌∷◌, ◌++◌, length, refl, sym, ◌∙◌, ap, subst, arith, append_assoc, inl, inr}
use Rattle.std.proofs.lemmas.Bool.{eq-eqb}
use Rattle.std.proofs.lemmas.List.{length-append}
use Rattle.op_types.specs.declared.answers.Answer.{Answer}
use Rattle.op_types.specs.declared.answers.Answer.TheVariants as answer
use Rattle.op_types.specs.declared.log.Command.{Command}
use Rattle.op_types.specs.declared.log.Entry.{Entry}
use Rattle.op_types.specs.declared.log.Entry.TheVariants as entry
use Rattle.op_types.specs.declared.read.Read.{Read}
use Rattle.op_spec.specs.Machine.{IsAmong}
use Rattle.op_spec.specs.Service.{service_of, value_at, told_value, effect_answer}
use Rattle.op_laws.proofs.Drops.{in_left, in_right, from_both}
use Rattle.op_linear.specs.Linearizable.{Map, empty_map, ClientCall, commands, reads, ClientEvent, calls, returns, History}
use Rattle.op_linear.specs.Forgetting.{IsForgetOf, map_of, TakesPlace, LinearizableUntil}
use Rattle.op_linear.specs.Histories.{MayComeAt, ComeFrom, IsHistory}
use Rattle.op_linear.proofs.Effects.{takes}
use Rattle.op_linear.proofs.Maps.{Agrees, agrees_empty, answers_alike}
use Rattle.op_linear.proofs.Mapped.{map_from, map_both, reads_leave, front_agrees}
use Rattle.op_linear.proofs.Weaving.{placed, same_read, unlike, reads_at, weave, behind, front, weave_begins, weave_more, front_more, read_found, reads_both, weave_found, front_found, PointsApart, comes_again, weave_again}

-- ---- events

abbrev is_call : ClientEvent → Bool
is_call (calls x) = true
is_call (returns x a) = false

abbrev call_in : ClientEvent → ClientCall
call_in (calls x) = x
call_in (returns x a) = x

abbrev answer_in : ClientEvent → Answer
answer_in (calls x) = answer.Done
answer_in (returns x a) = a

no_return : (x y : ClientCall) (a : Answer) → calls x ≡ returns y a → ⊥
no_return x y a e = let bad : true ≡ false = ap is_call e in cc

-- ---- a history of clients

-- a command takes effect at a place of these entries, with this answer
pub record EffectAt (es : List Entry) (c : Command) (a : Answer) : Type 0 where
  pub before : List Entry
  pub after : List Entry
  pub place : es ≡ before ++ entry.Command c ∷ after
  pub takes_it : takes (service_of before) c ≡ true
  pub answer_is : a ≡ effect_answer c.op (service_of before).pairs

module _ (requested : ℕ → ClientCall → Type 0) (cut : ℕ → List Entry) where
  -- An answer to a read, at a moment, is of a first part of that moment's history. It has the whole history of each
  -- moment by which the read was not requested.
  pub record SeenAt (k : ℕ) (r : Read) (a : Answer) : Type 0 where
    pub asked : requested k (reads r)
    pub seen : List Entry
    pub rest : List Entry
    pub place : cut k ≡ seen ++ rest
    pub value : a ≡ told_value (value_at r.key (service_of seen).pairs)
    pub sees : (j : ℕ) → (requested j (reads r) → ⊥) → (more : List Entry) × (seen ≡ cut j ++ more)

module _ (requested : ℕ → ClientCall → Type 0) (answered : ℕ → ClientCall → Answer → Type 0) (h : History) (clients : IsHistory requested answered h) (whole : List Entry) (cut : ℕ → List Entry)
    (goes_on : (k : ℕ) → (rest : List Entry) × (whole ≡ cut k ++ rest)) (later : (j k : ℕ) (x : ClientCall) → j ≤ k → requested j x → requested k x)
    (asked : (k : ℕ) (c : Command) → IsAmong (cut k) (entry.Command c) → requested k (commands c))
    (asked_ever : (c : Command) → IsAmong whole (entry.Command c) → (k : ℕ) × requested k (commands c))
    (served : (k : ℕ) (c : Command) (a : Answer) → IsAmong h (returns (commands c) a) → answered k (commands c) a → (b : ℕ) × (b ≤ k) × EffectAt (cut b) c a)
    (seen : (k : ℕ) (r : Read) (a : Answer) → IsAmong h (returns (reads r) a) → answered k (reads r) a → (b : ℕ) × (b ≤ k) × SeenAt requested cut b r a) where
  -- ---- what comes

  returns_one : (x : ClientCall) (a b : Answer) → IsAmong h (returns x a) → IsAmong h (returns x b) → a ≡ b
  returns_one x a b k m =
      let p = placed (returns x a) h k in
      elim (from_both (returns x b) p.0 (returns x a ∷ p.1) (subst (λ l. IsAmong l (returns x b)) p.2 m)) [
        | inl early ↦ (
            let q = placed (returns x b) p.0 early in
            absurd (clients.once q.0 (q.1 ++ returns x a ∷ p.1) x b a (p.2 ∙ ap (λ l. l ++ returns x a ∷ p.1) q.2 ∙ append_assoc q.0 (returns x b ∷ q.1) (returns x a ∷ p.1))
            (in_right (returns x a) q.1 (returns x a ∷ p.1) (inl refl))))
        | inr (inl e) ↦ ap answer_in e
        | inr (inr late) ↦ absurd (clients.once p.0 p.1 x a b p.2 late)
      ]

  called : (from : ℕ) (es : History) → ComeFrom requested answered from es → (x : ClientCall) → IsAmong es (calls x) → (k : ℕ) × (from ≤ k) × (requested k x → ⊥)
  called from [] c x k = absurd k
  called from (e ∷ es) c x (inl is) = (c.0, c.1, subst (λ z. MayComeAt requested answered c.0 z) is c.2)
  called from (e ∷ es) c x (inr k) = let r = called c.0 es c.3 x k in let le = c.1 in let more = r.1 in (r.0, omega (arith, le, more), r.2)

  -- ---- the reads that have returned

  record Point : Type 0 where
    read : Read
    answer : Answer
    moment : ℕ
    returned_it : IsAmong h (returns (reads read) answer)
    is : SeenAt requested cut moment read answer

  abbrev read_at : Point → Read
  read_at p = p.read

  abbrev place : Point → ℕ
  place p = length p.is.seen

  abbrev point : (k : ℕ) (r : Read) (a : Answer) → IsAmong h (returns (reads r) a) → answered k (reads r) a → Point
  point k r a i m = record { read = r; answer = a; moment = (seen k r a i m).0; returned_it = i; is = (seen k r a i m).2 }

  abbrev IsOf : History → Type 0
  IsOf es = (e : ClientEvent) → IsAmong es e → IsAmong h e

  abbrev points : (from : ℕ) (es : History) → ComeFrom requested answered from es → IsOf es → List Point
  points from [] c i = []
  points from (calls x ∷ es) c i = points c.0 es c.3 (λ e k. i e (inr k))
  points from (returns (commands d) a ∷ es) c i = points c.0 es c.3 (λ e k. i e (inr k))
  points from (returns (reads r) a ∷ es) c i = point c.0 r a (i (returns (reads r) a) (inl refl)) c.2 ∷ points c.0 es c.3 (λ e k. i e (inr k))

  points_return : (from : ℕ) (es : History) (c : ComeFrom requested answered from es) (i : IsOf es) (p : Point) → IsAmong (points from es c i) p → IsAmong es (returns (reads p.read) p.answer)
  points_return from [] c i p k = absurd k
  points_return from (calls x ∷ es) c i p k = inr (points_return c.0 es c.3 (λ e m. i e (inr m)) p k)
  points_return from (returns (commands d) a ∷ es) c i p k = inr (points_return c.0 es c.3 (λ e m. i e (inr m)) p k)
  points_return from (returns (reads r) a ∷ es) c i p (inl e) = inl (ap (λ (q : Point). returns (reads q.read) q.answer) e)
  points_return from (returns (reads r) a ∷ es) c i p (inr k) = inr (points_return c.0 es c.3 (λ e m. i e (inr m)) p k)

  -- each call of these returns once
  abbrev OnceIn : History → Type 0
  OnceIn es = (early late : History) (x : ClientCall) (a b : Answer) → es ≡ early ++ returns x a ∷ late → IsAmong late (returns x b) → ⊥

  once_later : (e : ClientEvent) (es : History) → OnceIn (e ∷ es) → OnceIn es
  once_later e es o early late x a b is k = o (e ∷ early) late x a b (ap (λ l. e ∷ l) is) k

  points_apart : (from : ℕ) (es : History) (c : ComeFrom requested answered from es) (i : IsOf es) → OnceIn es → PointsApart read_at place (points from es c i)
  points_apart from [] c i o = tt
  points_apart from (calls x ∷ es) c i o = points_apart c.0 es c.3 (λ e m. i e (inr m)) (once_later (calls x) es o)
  points_apart from (returns (commands d) a ∷ es) c i o = points_apart c.0 es c.3 (λ e m. i e (inr m)) (once_later (returns (commands d) a) es o)
  points_apart from (returns (reads r) a ∷ es) c i o = (
    λ q k same. o [] es (reads r) a q.answer refl
        (subst (λ z. IsAmong es (returns (reads z) q.answer)) same (points_return c.0 es c.3 (λ e m. i e (inr m)) q k)),
    points_apart c.0 es c.3 (λ e m. i e (inr m)) (once_later (returns (reads r) a) es o),
  )

  -- Between two parts of a history there is a moment: what has returned in the first was answered by then, and what
  -- is called in the second was not requested.
  record Between (from : ℕ) (early late : History) (ps : List Point) : Type 0 where
    moment : ℕ
    least : from ≤ moment
    first : List Point
    second : List Point
    split : ps ≡ first ++ second
    by_then : (p : Point) → IsAmong first p → p.moment ≤ moment
    has_first : (r : Read) (a : Answer) → IsAmong early (returns (reads r) a) → (p : Point) × IsAmong first p × (p.read ≡ r)
    answered_by : (c : Command) (a : Answer) → IsAmong early (returns (commands c) a) → (k : ℕ) × (k ≤ moment) × answered k (commands c) a
    not_yet : (x : ClientCall) → IsAmong late (calls x) → (k : ℕ) × (moment ≤ k) × (requested k x → ⊥)

  between : (from : ℕ) (early late : History) (c : ComeFrom requested answered from (early ++ late)) (i : IsOf (early ++ late)) → Between from early late (points from (early ++ late) c i)
  between from [] late c i = record {
    moment = from;
    least = omega arith;
    first = [];
    second = points from late c i;
    split = refl;
    by_then = λ p k. absurd k;
    has_first = λ r a k. absurd k;
    answered_by = λ d a k. absurd k;
    not_yet = called from late c;
  }
  between from (calls x ∷ early) late c i =
      let b = between c.0 early late c.3 (λ e m. i e (inr m)) in record {
        moment = b.moment;
        least = (let le = c.1 in let more = b.least in omega (arith, le, more));
        first = b.first;
        second = b.second;
        split = b.split;
        by_then = b.by_then;
        has_first = λ r a k. elim k [ inl e ↦ absurd (no_return x (reads r) a e) | inr m ↦ b.has_first r a m ];
        answered_by = λ d a k. elim k [ inl e ↦ absurd (no_return x (commands d) a e) | inr m ↦ b.answered_by d a m ];
        not_yet = b.not_yet;
      }
  between from (returns (commands d) a ∷ early) late c i =
      let b = between c.0 early late c.3 (λ e m. i e (inr m)) in record {
        moment = b.moment;
        least = (let le = c.1 in let more = b.least in omega (arith, le, more));
        first = b.first;
        second = b.second;
        split = b.split;
        by_then = b.by_then;
        has_first = λ r z k. elim k [ inl e ↦ absurd (unlike d r (ap call_in e)) | inr m ↦ b.has_first r z m ];
        answered_by = λ f z k. elim k [ inl e ↦ (c.0, b.least, subst (λ v. MayComeAt requested answered c.0 v) e c.2) | inr m ↦ b.answered_by f z m ];
        not_yet = b.not_yet;
      }
  between from (returns (reads r) a ∷ early) late c i =
      let b = between c.0 early late c.3 (λ e m. i e (inr m)) in
      let own = i (returns (reads r) a) (inl refl) in record {
        moment = b.moment;
        least = (let le = c.1 in let more = b.least in omega (arith, le, more));
        first = point c.0 r a own c.2 ∷ b.first;
        second = b.second;
        split = ap (λ l. point c.0 r a own c.2 ∷ l) b.split;
        by_then = λ p k. elim k [
          | inl e ↦ subst (λ (q : Point). q.moment ≤ b.moment) e (let le = (seen c.0 r a own c.2).1 in let more = b.least in omega (arith, le, more))
          | inr m ↦ b.by_then p m
        ];
        has_first = λ q z k. elim k [
          | inl e ↦ (point c.0 r a own c.2, inl refl, same_read r q (ap call_in e))
          | inr m ↦ (let f = b.has_first q z m in (f.0, inr f.1, f.2))
        ];
        answered_by = λ f z k. elim k [ inl e ↦ absurd (unlike f r (sym (ap call_in e))) | inr m ↦ b.answered_by f z m ];
        not_yet = b.not_yet;
      }

  -- ---- the order

  all_points : List Point
  all_points = points 0 h clients.come (λ e k. k)

  abbrev ps : List Point
  ps = all_points

  abbrev order : List ClientCall
  order = weave read_at place ps [] whole

  -- behind the entries of a moment
  order_at : (done rest : List Entry) → whole ≡ done ++ rest → order ≡ front read_at place ps [] done ++ weave read_at place ps done rest
  order_at done rest e = ap (λ l. weave read_at place ps [] l) e ∙ weave_more read_at place ps [] done rest

  entry_among : (before : List Entry) (c : Command) (after : List Entry) → IsAmong (before ++ entry.Command c ∷ after) (entry.Command c)
  entry_among before c after = in_right (entry.Command c) before (entry.Command c ∷ after) (inl refl)

  was_called : (x : ClientCall) → IsAmong order x → IsAmong h (calls x)
  was_called x k = elim (weave_found read_at place ps [] whole x k) [
    | inl f ↦ (
        let p = placed (returns (reads (f.0).read) (f.0).answer) h (f.0).returned_it in
        let m = clients.matched p.0 p.1 (reads (f.0).read) (f.0).answer p.2 in
        subst (λ z. IsAmong h (calls z)) (sym f.3)
        (subst (λ l. IsAmong l (calls (reads (f.0).read))) (sym p.2) (in_left (calls (reads (f.0).read)) p.0 (returns (reads (f.0).read) (f.0).answer ∷ p.1) m)))
    | inr f ↦ (
        let a = asked_ever f.1 (subst (λ l. IsAmong l (entry.Command f.1)) (sym f.3) (entry_among f.0 f.1 f.2)) in
        subst (λ z. IsAmong h (calls z)) (sym f.5) (clients.called a.0 (commands f.1) a.1))
  ]

  -- what isn't requested by a moment is no call of its history
  not_before : (b : ℕ) (y : ClientCall) → (requested b y → ⊥) → IsAmong (front read_at place ps [] (cut b)) y → ⊥
  not_before b y unsaid k = elim (front_found read_at place ps [] (cut b) y k) [
    | inl f ↦ (
        let p : Point = f.0 in
        let more = p.is.sees b (λ r. unsaid (subst (λ z. requested b z) (sym f.3) r)) in
        let long = ap length more.1 ∙ length-append (cut b) more.0 in
        let lt = f.2 in
        omega (arith, long, lt))
    | inr f ↦ unsaid (subst (λ z. requested b z) (sym f.5) (asked b f.1 (subst (λ l. IsAmong l (entry.Command f.1)) (sym f.3) (entry_among f.0 f.1 f.2))))
  ]

  -- behind these entries, and reads at their end, the map is that of their service
  agrees_at : (done : List Entry) (n : ℕ) (qs : List Point) → Agrees (map_of (front read_at place ps [] done ++ reads_at read_at place n qs)) (service_of done).pairs
  agrees_at done n qs =
      let fs : List ClientCall = front read_at place ps [] done in
      subst (λ (m : Map). Agrees m (service_of done).pairs) (sym (map_both empty_map fs (reads_at read_at place n qs) ∙ reads_leave read_at place n qs (map_from empty_map fs)))
      (front_agrees read_at place ps [] done empty_map agrees_empty)

  -- ---- where a call stands that has returned

  module _ (early late : History) (e : h ≡ early ++ late) where
    middle : Between 0 early late ps
    unfolding all_points
    middle = subst (λ (g : History). (c : ComeFrom requested answered 0 g) (i : IsOf g) → Between 0 early late (points 0 g c i)) (sym e) (between 0 early late) clients.come (λ z k. k)

    unasked : (b : ℕ) → b ≤ middle.moment → (y : ClientCall) → IsAmong late (calls y) → requested b y → ⊥
    unasked b le y is_called r = let n = middle.not_yet y is_called in let more = n.1 in n.2 (later b n.0 y (omega (arith, le, more)) r)

    module _ (c : Command) (a : Answer) (b : ℕ) (le : b ≤ middle.moment) (f : EffectAt (cut b) c a) where
      abbrev cfs : List ClientCall
      cfs = front read_at place ps [] f.before

      abbrev crs : List ClientCall
      crs = reads_at read_at place (length f.before) ps

      abbrev cmore : List Entry
      cmore = f.after ++ (goes_on b).0

      abbrev cws : List ClientCall
      cws = weave read_at place ps (f.before ++ entry.Command c ∷ []) cmore

      abbrev cgs : List ClientCall
      cgs = front read_at place ps (f.before ++ entry.Command c ∷ []) f.after

      command_at : whole ≡ f.before ++ entry.Command c ∷ cmore
      command_at = (goes_on b).1 ∙ ap (λ l. l ++ (goes_on b).0) f.place ∙ append_assoc f.before (entry.Command c ∷ f.after) (goes_on b).0

      command_is : order ≡ (cfs ++ crs) ++ commands c ∷ cws
      command_is =
          order_at f.before (entry.Command c ∷ cmore) command_at
          ∙ ap (λ (t : Bool). cfs ++ (crs ++ (cond t (commands c ∷ []) [] ++ cws))) f.takes_it
          ∙ sym (append_assoc cfs crs (commands c ∷ cws))

      front_is : front read_at place ps [] (cut b) ≡ ((cfs ++ crs) ++ commands c ∷ []) ++ cgs
      front_is =
          ap (λ l. front read_at place ps [] l) f.place ∙ front_more read_at place ps [] f.before (entry.Command c ∷ f.after)
          ∙ ap (λ (t : Bool). cfs ++ (crs ++ (cond t (commands c ∷ []) [] ++ cgs))) f.takes_it
          ∙ sym (append_assoc (cfs ++ crs) (commands c ∷ []) cgs ∙ append_assoc cfs crs (commands c ∷ cgs))

      command_place : TakesPlace order (commands c) a late
      command_place = record {
        before = cfs ++ crs;
        after = cws;
        is = command_is;
        answer_is = f.answer_is ∙ answers_alike c.op (map_of (cfs ++ crs)) (service_of f.before).pairs (agrees_at f.before (length f.before) ps);
        in_time = λ y is_called i. not_before b y (unasked b le y is_called)
            (subst (λ l. IsAmong l y) (sym front_is) (in_left y ((cfs ++ crs) ++ commands c ∷ []) cgs i));
      }

    module _ (p : Point) (k : IsAmong middle.first p) where
      abbrev n : ℕ
      n = place p

      abbrev more : List Entry
      more = p.is.rest ++ (goes_on p.moment).0

      -- the reads of its place that returned before it
      abbrev us : List Point
      us = (placed p middle.first k).0

      abbrev vs : List Point
      vs = (placed p middle.first k).1

      abbrev fs : List ClientCall
      fs = front read_at place ps [] p.is.seen

      abbrev rs : List ClientCall
      rs = reads_at read_at place n us

      abbrev ws : List ClientCall
      ws = reads_at read_at place n vs ++ reads_at read_at place n middle.second

      abbrev bs : List ClientCall
      bs = behind read_at place ps p.is.seen more

      read_is_at : whole ≡ p.is.seen ++ more
      read_is_at = (goes_on p.moment).1 ∙ ap (λ l. l ++ (goes_on p.moment).0) p.is.place ∙ append_assoc p.is.seen p.is.rest (goes_on p.moment).0

      reads_are : reads_at read_at place n ps ≡ rs ++ reads p.read ∷ ws
      reads_are =
          ap (λ l. reads_at read_at place n l) (middle.split ∙ ap (λ l. l ++ middle.second) (placed p middle.first k).2)
          ∙ reads_both read_at place n (us ++ p ∷ vs) middle.second
          ∙ ap (λ l. l ++ reads_at read_at place n middle.second) (reads_both read_at place n us (p ∷ vs)
          ∙ ap (λ (t : Bool). rs ++ cond t (reads p.read ∷ reads_at read_at place n vs) (reads_at read_at place n vs)) (eq-eqb (place p) n refl))
          ∙ append_assoc rs (reads p.read ∷ reads_at read_at place n vs) (reads_at read_at place n middle.second)

      read_is : order ≡ (fs ++ rs) ++ reads p.read ∷ (ws ++ bs)
      read_is =
          order_at p.is.seen more read_is_at
          ∙ ap (λ l. fs ++ l) (weave_begins read_at place ps p.is.seen more ∙ ap (λ l. l ++ bs) reads_are ∙ append_assoc rs (reads p.read ∷ ws) bs)
          ∙ sym (append_assoc fs rs (reads p.read ∷ (ws ++ bs)))

      within : (y : ClientCall) → IsAmong fs y → IsAmong (front read_at place ps [] (cut p.moment)) y
      within y i =
          subst (λ l. IsAmong l y) (sym (ap (λ l. front read_at place ps [] l) p.is.place ∙ front_more read_at place ps [] p.is.seen p.is.rest))
          (in_left y fs (front read_at place ps p.is.seen p.is.rest) i)

      -- what was asked for by then is called no later
      not_asked : (q : Point) → IsAmong middle.first q → (y : ClientCall) → IsAmong late (calls y) → y ≡ reads q.read → ⊥
      not_asked q m y is_called same = unasked q.moment (middle.by_then q m) y is_called (subst (λ z. requested q.moment z) (sym same) q.is.asked)

      not_yet_there : (y : ClientCall) → IsAmong late (calls y) → IsAmong ((fs ++ rs) ++ reads p.read ∷ []) y → ⊥
      not_yet_there y is_called i = elim (from_both y (fs ++ rs) (reads p.read ∷ []) i) [
        | inl j ↦ elim (from_both y fs rs j) [
          | inl f ↦ not_before p.moment y (unasked p.moment (middle.by_then p k) y is_called) (within y f)
          | inr r ↦ (let q = read_found read_at place n us y r in
              not_asked q.0 (subst (λ l. IsAmong l q.0) (sym (placed p middle.first k).2) (in_left q.0 us (p ∷ vs) q.1)) y is_called q.3)
        ]
        | inr (inl same) ↦ not_asked p k y is_called (sym same)
        | inr (inr none) ↦ none
      ]

      read_place : TakesPlace order (reads p.read) p.answer late
      read_place = record {
        before = fs ++ rs;
        after = ws ++ bs;
        is = read_is;
        answer_is = p.is.value ∙ ap (λ z. told_value z) (sym ((agrees_at p.is.seen n us).values p.read.key));
        in_time = not_yet_there;
      }

    takes_place : (x : ClientCall) (a : Answer) → IsAmong early (returns x a) → TakesPlace order x a late
    takes_place (commands c) a k =
        let r = middle.answered_by c a k in
        let s = served r.0 c a (subst (λ l. IsAmong l (returns (commands c) a)) (sym e) (in_left (returns (commands c) a) early late k)) r.2 in
        let le = s.1 in
        let most = r.1 in
        command_place c a s.0 (omega (arith, le, most)) s.2
    takes_place (reads r) a k =
        let f = middle.has_first r a k in
        let p : Point = f.0 in
        let there : IsAmong h (returns (reads p.read) a) = subst (λ z. IsAmong h (returns (reads z) a)) (sym f.2) (subst (λ l. IsAmong l (returns (reads r) a)) (sym e) (in_left (returns (reads r) a) early late k)) in
        subst (λ z. TakesPlace order (reads z) a late) f.2
        (subst (λ z. TakesPlace order (reads p.read) z late) (returns_one (reads p.read) p.answer a p.returned_it there) (read_place p f.1))

  completed : (early late : History) (x : ClientCall) (a : Answer) → h ≡ early ++ returns x a ∷ late → TakesPlace order x a late
  completed early late x a e =
      takes_place (early ++ returns x a ∷ []) late (e ∙ sym (append_assoc early (returns x a ∷ []) late)) x a (in_right (returns x a) early (returns x a ∷ []) (inl refl))

  -- A call that comes again is let by a command between two of its places.
  pub is_until : (Lets : Command → ClientCall → Type 0)
      → ((c f : Command) (before mid late : List Entry) → whole ≡ before ++ entry.Command c ∷ (mid ++ entry.Command f ∷ late) → IsForgetOf c.client f → IsAmong late (entry.Command c) → Lets f (commands c))
      → LinearizableUntil Lets h
  unfolding all_points
  is_until Lets lets = record {
    order = order;
    again = comes_again whole order Lets lets (weave_again read_at place ps (points_apart 0 h clients.come (λ e k. k) clients.once) [] whole);
    called = was_called;
    completed = completed;
  }
