-- Sessions for which too many bytes wait are over: one after another, and what that leaves.
use Rattle.std.proofs.Common.{◌≡◌, ◌≤◌, ◌+◌, ◌++◌, ◌∷◌, [], ℕ, true, false, List, length, Option, Some, None, is_some, flat_map, ◌⊎◌, refl, sym, ◌∙◌, ap, subst, inl, inr, arith}
use Rattle.std.proofs.lemmas.Bool.{cases_Bool}
use Rattle.std.specs.BTreeMap.{is_at}
use Rattle.std.specs.Map.{keys_of}
use Rattle.std.specs.Ordering.{nat_cmp}
use Rattle.op_conns.proofs.Numbers.{is_at_one}
use Rattle.op_serving.specs.declared.kind.Kind.{Kind}
use Rattle.op_serving.specs.declared.mark.Place.{Place}
use Rattle.op_serving.specs.declared.session.Session.{Session}
use Rattle.op_serving.specs.State.{Table, Loop, find, without, is_open, kind_at, left_by, next, counted, is_overfull, shed_at, shed_each, conn_of, shed}
use Rattle.op_serving.specs.Losses.{size, Grew, KeepsKinds, Stays}
use Rattle.op_serving.specs.Counts.{most_inputs}
use Rattle.op_queues.specs.Filling.{first_over, over_of}
use Rattle.op_queues.proofs.Filling.{none_first}
use Rattle.op_queues.proofs.Tables.{without_less}
use Rattle.op_queues.proofs.Counting.{most_counted, most_ended, size_left}
use Rattle.op_queues.proofs.Losing.{left_cases, left_gone, by_left, none_is}
use Rattle.op_queues.proofs.Settling.{found_left, found_kinds, left_lost, left_place, or_none, kinds_then, grew_still, grew_trans, counted_grew, stays_same, stays_then}

-- what is left of a session that is over
abbrev ended : ℕ → Loop → Loop
ended c s = counted (left_by c s)

-- of them all
abbrev listed : Loop → List ℕ
listed s = flat_map conn_of s.peers ++ keys_of s.sessions

-- what holds where nothing is done, where one is over, and from one to the next, holds of all of them
module _ (R : Loop → Loop → Type 0) (same : (s : Loop) → R s s) (then : (s m t : Loop) → R s m → R m t → R s t)
    (one : (c : ℕ) (s : Loop) → is_overfull (find c s.sessions) ≡ true → R s (ended c s)) where
  by_one : (c : ℕ) (s : Loop) → R s (shed_at c s)
  by_one c s = elim (cases_Bool (is_overfull (find c s.sessions))) [ inl h ↦ rw h (one c s h) | inr h ↦ rw h (same s) ]

  by_each : (cs : List ℕ) (s : Loop) → R s (shed_each cs s)
  by_each [] s = same s
  by_each (c ∷ cs) s = then s (shed_at c s) (shed_each cs (shed_at c s)) (by_one c s) (by_each cs (shed_at c s))

-- a session is as before, or gone
abbrev AsOrGone : ℕ → Loop → Loop → Type 0
AsOrGone c s t = (find c t.sessions ≡ find c s.sessions) ⊎ (find c t.sessions ≡ None)

shed_as : (c d : ℕ) (s : Loop) → AsOrGone c s (shed_at d s)
shed_as c = by_one (AsOrGone c) (λ s. inl refl) (λ s m t a b. or_none a b) (λ d s h. found_left c d (kind_at d s) s)

each_as : (c : ℕ) (cs : List ℕ) (s : Loop) → AsOrGone c s (shed_each cs s)
each_as c = by_each (AsOrGone c) (λ s. inl refl) (λ s m t a b. or_none a b) (λ d s h. found_left c d (kind_at d s) s)

-- of one that is thin or gone it stays so
thin_as : (c : ℕ) (s t : Loop) → AsOrGone c s t → is_overfull (find c s.sessions) ≡ false → is_overfull (find c t.sessions) ≡ false
thin_as c s t a e = elim a [ inl h ↦ ap is_overfull h ∙ e | inr h ↦ ap is_overfull h ]

gone_as : (c : ℕ) (s t : Loop) → AsOrGone c s t → find c s.sessions ≡ None → find c t.sessions ≡ None
gone_as c s t a e = elim a [ inl h ↦ h ∙ e | inr h ↦ h ]

-- what is closed stays so
pub shed_closed : (c : ℕ) (s : Loop) → find c s.sessions ≡ None → find c (shed s).sessions ≡ None
unfolding shed
shed_closed c s e = gone_as c s (shed_each (listed s) s) (each_as c (listed s) s) e

-- ---- in what order

each_still : (cs : List ℕ) (s : Loop) → first_over s.sessions cs ≡ None → shed_each cs s ≡ s
each_still [] s e = refl
each_still (c ∷ cs) s e = elim (cases_Bool (is_overfull (find c s.sessions))) [
  | inl h ↦ absurd (let bad = rw h at e in cc)
  | inr h ↦ rw h (each_still cs s (rw h at e))
]

-- where there is none, nothing is done
pub shed_still : (s : Loop) → over_of s ≡ None → shed s ≡ s
unfolding shed
shed_still s e = each_still (listed s) s e

first_is : (t : Table Session) (cs : List ℕ) (c : ℕ) → first_over t cs ≡ Some c → is_overfull (find c t) ≡ true
first_is t [] c e = absurd cc
first_is t (d ∷ cs) c e = grind (arith, first_is t cs c)

over_open : (o : Option Session) → is_overfull o ≡ true → is_some o ≡ true
over_open None e = absurd cc
over_open (Some x) e = refl

-- the first is one of them, and open
pub over_is_open : (s : Loop) (c : ℕ) → over_of s ≡ Some c → is_open c s ≡ true
over_is_open s c e = over_open (find c s.sessions) (first_is s.sessions (listed s) c e)

-- it may be over beforehand
each_first : (cs : List ℕ) (c : ℕ) (s : Loop) → first_over s.sessions cs ≡ Some c → shed_each cs s ≡ shed_each cs (ended c s)
each_first [] c s e = absurd cc
each_first (d ∷ cs) c s e = elim (cases_Bool (is_overfull (find d s.sessions))) [
  | inl h ↦ (
      let k = rw h at e in
      let same : d ≡ c = cc in
      let gone : is_overfull (find d (ended c s).sessions) ≡ false =
      ap (λ n. is_overfull (find n (ended c s).sessions)) same ∙ ap is_overfull (left_gone c s) in
      rw (h, gone) (ap (λ n. shed_each cs (ended n s)) same))
  | inr h ↦ (
      let thin : is_overfull (find d (ended c s).sessions) ≡ false = thin_as d s (ended c s) (found_left d c (kind_at c s) s) h in
      rw (h, thin) (each_first cs c s (rw h at e)))
]

each_more : (xs ys : List ℕ) (s : Loop) → shed_each (xs ++ ys) s ≡ shed_each ys (shed_each xs s)
each_more [] ys s = refl
each_more (x ∷ xs) ys s = each_more xs ys (shed_at x s)

-- one that is gone needs no look
each_without : (c : ℕ) (es : Table Session) (s : Loop) → find c s.sessions ≡ None → shed_each (keys_of es) s ≡ shed_each (keys_of (without c es)) s
each_without c [] s e = refl
each_without c (d ∷ es) s e = elim (cases_Bool (is_at (nat_cmp c) d.0)) [
  | inl h ↦ (
      let own : is_overfull (find d.0 s.sessions) ≡ false = ap (λ n. is_overfull (find n s.sessions)) (sym (is_at_one c d.0 h)) ∙ ap is_overfull e in
      rw h (ap (shed_each (keys_of es)) (rw own refl) ∙ each_without c es s e))
  | inr h ↦ rw h (each_without c es (shed_at d.0 s) (gone_as c s (shed_at d.0 s) (shed_as c d.0 s) e))
]

-- what ends is one less
ended_at : (c : ℕ) (s : Loop) → is_open c s ≡ true → ((left_by c s).sessions ≡ without c s.sessions) × (length (left_by c s).sessions + 1 ≤ length s.sessions)
ended_at c s h = elim (left_cases c s) [
  | inl k ↦ absurd (let bad = rw k.0 at h in cc)
  | inr k ↦ rw k.2 (refl, without_less c k.0 s.sessions k.1)
]

pub ended_less : (s : Loop) (c : ℕ) → over_of s ≡ Some c → length (left_by c s).sessions + 1 ≤ length s.sessions
ended_less s c e = (ended_at c s (over_is_open s c e)).1

-- the first is over, and then the others
pub shed_more : (s : Loop) (c : ℕ) → over_of s ≡ Some c → shed s ≡ shed (counted (left_by c s))
unfolding shed
shed_more s c e =
    let t : Loop = ended c s in
    let ps : List ℕ = flat_map conn_of s.peers in
    let u : Loop = shed_each ps t in
    let gone : find c u.sessions ≡ None = gone_as c t u (each_as c ps t) (left_gone c s) in
    let peers : t.peers ≡ s.peers = by_left (λ x. x.peers ≡ s.peers) c (kind_at c s) s refl (λ k. refl) in
    let left : t.sessions ≡ without c s.sessions = (ended_at c s (over_is_open s c e)).0 in
    each_first (ps ++ keys_of s.sessions) c s e ∙ each_more ps (keys_of s.sessions) t ∙ each_without c s.sessions u gone
    ∙ sym (each_more ps (keys_of (without c s.sessions)) t)
    ∙ sym (ap (λ x. shed_each (flat_map conn_of x ++ keys_of t.sessions) t) peers ∙ ap (λ x. shed_each (ps ++ keys_of x) t) left)

-- ---- none is left

thin_own : (n : ℕ) (s : Loop) → is_overfull (find n (shed_at n s).sessions) ≡ false
thin_own n s = elim (cases_Bool (is_overfull (find n s.sessions))) [ inl g ↦ rw g (ap is_overfull (left_gone n s)) | inr g ↦ rw g g ]

none_left : (cs : List ℕ) (s : Loop) → first_over (shed_each cs s).sessions cs ≡ None
none_left [] s = refl
none_left (c ∷ cs) s = rw (thin_as c (shed_at c s) (shed_each cs (shed_at c s)) (each_as c cs (shed_at c s)) (thin_own c s)) (none_left cs (shed_at c s))

pub thin_shed : (c : ℕ) (s : Loop) → is_overfull (find c (shed s).sessions) ≡ false
unfolding shed
thin_shed c s =
    let u : Loop = shed_each (flat_map conn_of s.peers) s in
    let t : Loop = shed_each (keys_of s.sessions) u in
    elim (cases_Bool (is_some (find c s.sessions))) [
      | inl e ↦ rw (each_more (flat_map conn_of s.peers) (keys_of s.sessions) s) (none_first t.sessions s.sessions c (none_left (keys_of s.sessions) u) e)
      | inr e ↦ ap is_overfull (gone_as c s (shed_each (listed s) s) (each_as c (listed s) s) (none_is (find c s.sessions) e))
    ]

-- where none was, nothing is done
thin_first : (cs : List ℕ) (t : Table Session) → ((c : ℕ) → is_overfull (find c t) ≡ false) → first_over t cs ≡ None
thin_first [] t h = refl
thin_first (c ∷ cs) t h = rw (h c) (thin_first cs t h)

pub shed_thin : (s : Loop) → ((c : ℕ) → is_overfull (find c s.sessions) ≡ false) → shed s ≡ s
shed_thin s h = shed_still s (thin_first (listed s) s.sessions h)

-- ---- what it leaves

pub size_shed : (s : Loop) → size (shed s) ≤ size s
unfolding shed
size_shed s = by_each (λ u t. size t ≤ size u) (λ u. omega arith) (λ u m t a b. omega (arith, a, b)) (λ c u h. size_left c u) (listed s) s

pub record Sheds (s t : Loop) : Type 0 where
  pub grew : Grew s t
  pub most : most_inputs t ≤ most_inputs s
  pub kinds : KeepsKinds s t
  pub stays : Stays s t
  pub up : t.place.inputs ≤ next t.place.inputs
  pub moves : (t ≡ s) ⊎ Grew (counted s) t  -- nothing was done, or it is of a later place

sheds_none : (s : Loop) → s.place.inputs ≤ next s.place.inputs → Sheds s s
sheds_none s up = record { grew = grew_still refl refl; most = omega arith; kinds = λ c. inl refl; stays = stays_same refl; up = up; moves = inl refl }

sheds_then : (s m t : Loop) → Sheds s m → Sheds m t → Sheds s t
sheds_then s m t a b = record {
  grew = grew_trans a.grew b.grew;
  most = omega (arith, a.most, b.most);
  kinds = kinds_then s m t a.kinds b.kinds;
  stays = stays_then a.stays b.stays;
  up = b.up;
  moves = elim a.moves [
    | inl e ↦ elim b.moves [ inl h ↦ inl (h ∙ e) | inr h ↦ inr (subst (λ x. Grew (counted x) t) e h) ]
    | inr g ↦ inr (grew_trans g b.grew)
  ];
}

sheds_ended : (c : ℕ) (s : Loop) → is_overfull (find c s.sessions) ≡ true → s.place.inputs ≤ next s.place.inputs → Sheds s (ended c s)
sheds_ended c s e up =
    let k : Option Kind = kind_at c s in
    let place : (ended c s).place ≡ (counted s).place = ap (λ (p : Place). record p { inputs = next p.inputs }) (left_place c k s) in
    let later : Grew (counted s) (ended c s) = grew_still (left_lost c k s) place in
    record {
      grew = grew_trans (counted_grew s up) later;
      most = omega (arith, most_ended c s (over_open (find c s.sessions) e), most_counted (left_by c s));
      kinds = found_kinds s (ended c s) (λ d. found_left d c k s);
      stays = record { turn = ap (λ p. p.turn) place; at = ap (λ p. p.at) place; frames = ap (λ p. p.frames) place };
      up = let n = ap (λ (p : Place). p.inputs) place in omega (arith, n);
      moves = inr later;
    }

pub sheds : (s : Loop) → s.place.inputs ≤ next s.place.inputs → Sheds s (shed s)
unfolding shed
sheds s up =
    by_each (λ u t. u.place.inputs ≤ next u.place.inputs → Sheds u t) sheds_none (λ u m t a b up. sheds_then u m t (a up) (b (a up).up)) sheds_ended
    (listed s) s up
