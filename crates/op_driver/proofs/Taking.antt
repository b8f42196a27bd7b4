-- Inputs that are given together are taken one after the other: each is counted before anything is handed out, so
-- that no mark of before is due behind it.
use Rattle.std.proofs.Common.{◌≡◌, ◌<◌, ◌≤◌, ◌+◌, ◌++◌, ◌∷◌, [], ℕ, Bool, List, length, map, true, false, not, is_some, if◌then◌else◌, nat_lt, Option, Some, None, All, refl, sym, ◌∙◌, ap, subst, inl, arith, append_assoc, slice_get}
use Rattle.std.proofs.lemmas.List.{append-nil}
use Rattle.std.proofs.lemmas.List.Sums.{fold-append}
use Rattle.std.proofs.lemmas.List.Elements.{All-nil, All-cons, All-head}
use Rattle.op_types.specs.declared.events.Input.{Input}
use Rattle.op_serving.specs.declared.mark.Mark.{Mark}
use Rattle.op_serving.specs.declared.mark.Place.{Place}
use Rattle.op_serving.specs.Cores.{Standing}
use Rattle.op_serving.specs.Fates.{Came, Fate, done, finds, faults, shares, lost, broke_by, after_fate, after_all, is_lost, MayCome, MayFail, IsTogether, MayComeAll}
use Rattle.op_serving.specs.Faults.{Stepped, came_in}
use Rattle.op_serving.specs.Room.{Frame}
use Rattle.op_serving.specs.State.{Loop, next, counted}
use Rattle.op_serving.specs.Losses.{most_marks, last_count, mark_at, noted, marked, is_here, IsCalm, IsFrom, Foretells, Grew, KeepsKinds}
use Rattle.op_serving.specs.Inputs.{Brought, Taken, Deed, enters, says, State, Luck, asked_by, loop_taking, kept_fate, kept, is_lost_here, broke, fate_with, next_fate}
use Rattle.op_queues.proofs.Settling.{foretold, kinds_then, marked_kinds, grew_trans, grew_still, stopped_lost, stopped_place, from_own, here_own, from_counted, counted_grew}
use Rattle.op_driver.proofs.Calm.{no_left, not_here, past_inputs, calm_before, calm_lost}
use Rattle.op_driver.proofs.Stepping.{kept_both, steps_says}

-- an input, the connections whose frames it was, and what came of it
abbrev pub Entry : Type 0
Entry = Brought × Fate

-- the inputs alone
abbrev pub brought_of : List Entry → List Brought
brought_of zs = map (λ z. z.0) zs

-- and without the connections
abbrev pub came_of : List Entry → List Came
came_of zs = map (λ z. (z.0.1, z.1)) zs

-- what was taken, where this was the node before the first
abbrev pub taken_of : List Entry → Standing → List Taken
taken_of [] n = []
taken_of (z ∷ zs) n = record { wanted = asked_by z.0.0 z.0.1; input = z.0.1; fate = z.1; before = n } ∷ taken_of zs (after_fate n z.0.1 z.1)

abbrev pub enters_of : List Entry → List Deed
enters_of zs = map (λ z. enters z.0.0 z.0.1 z.1) zs

-- what is kept once all were taken
abbrev pub loop_taken : List Entry → Loop → Loop
loop_taken [] s = s
loop_taken (z ∷ zs) s = loop_taken zs (loop_taking z.1 s)

-- a disk may have failed for each for which one did
abbrev pub FailAll : List Entry → Type 0
FailAll [] = Unit {0}
FailAll (z ∷ zs) = MayFail z.0.1 z.1 × FailAll zs

-- a state, by its parts
abbrev pub state_at : Loop → Standing → List Deed → State
state_at s n ds = record { loop = s; node = n; deeds = ds }

-- ---- what came of inputs before

kept_says : (fs : List Frame) → kept (map says fs) ≡ []
kept_says [] = refl
kept_says (f ∷ fs) = kept_says fs

-- frames behind deeds keep nothing
pub kept_more : (before ds : List Deed) (fs : List Frame) → kept (before ++ (ds ++ map says fs)) ≡ kept before ++ kept ds
kept_more before ds fs =
    kept_both before (ds ++ map says fs) ∙ ap (λ l. kept before ++ l) (kept_both ds (map says fs)) ∙ ap (λ l. kept before ++ (kept ds ++ l)) (kept_says fs) ∙ ap (λ l. kept before ++ l) (append-nil (kept ds))

-- ---- what the next mark and the next fate are

at_seam : {X : Type 0} (xs : List X) (x : X) (ys : List X) → slice_get (xs ++ x ∷ ys) (length xs) ≡ Some x
at_seam [] x ys = refl
at_seam (a ∷ xs) x ys = at_seam xs x ys

past_seam : {X : Type 0} (xs : List X) → slice_get (xs ++ []) (length xs) ≡ None
past_seam [] = refl
past_seam (a ∷ xs) = past_seam xs

here_next : (ms : List Mark) (s : Loop) → All (IsFrom (counted s).place) ms → s.place.inputs < next s.place.inputs → is_lost_here (slice_get (s.lost ++ ms) (length s.lost)) s ≡ false
here_next [] s all up = rw (past_seam s.lost) refl
here_next (m ∷ ms) s all up =
    let away : is_here s.place m ≡ false = not_here s.place (counted s).place m (past_inputs s.place (next s.place.inputs) up) (All-head (IsFrom (counted s).place) m ms all) in
    rw (at_seam s.lost m ms) (no_left (is_here s.place m) (not (is_some m.conn)) away)

-- no mark of this place loses an input that was counted
counted_here : (l : Luck) (s : Loop) → Foretells l.marks (counted s) → is_lost_here (slice_get l.marks (length s.lost)) s ≡ false
counted_here l s f =
    let up : s.place.inputs < next s.place.inputs = omega (arith, f.short) in
    ap (λ r. is_lost_here (slice_get r (length s.lost)) s) f.split ∙ here_next f.rest s f.later up

abbrev none_marked : Loop → Mark
none_marked s = mark_at s.place None

taking_lost : (s : Loop) → (counted (marked None s)).lost ≡ s.lost ++ none_marked s ∷ []
taking_lost s = stopped_lost (nat_lt (length s.lost + 1) most_marks) (noted (none_marked s) s)

lost_here : (l : Luck) (s : Loop) → Foretells l.marks (counted (marked None s)) → is_lost_here (slice_get l.marks (length s.lost)) s ≡ true
lost_here l s f =
    let split : l.marks ≡ s.lost ++ none_marked s ∷ f.rest = f.split ∙ ap (λ r. r ++ f.rest) (taking_lost s) ∙ append_assoc s.lost (none_marked s ∷ []) f.rest in
    rw (split, at_seam s.lost (none_marked s) f.rest, here_own s.place None) refl

-- what may come does come, if it is next
comes_so : (b : Option ℕ) (n : Standing) (i : Input) (f : Fate) → MayCome n i f → MayFail i f → IsTogether b f → is_lost f ≡ false → fate_with b n i (Some f) ≡ f
comes_so b n i lost may fails one kept = absurd cc
comes_so None n i (finds d) may fails one kept = ap (λ b. if b then finds d else done) may
comes_so None n i (faults k) may fails one kept = ap (λ b. if b then done else faults k) fails
comes_so None n i (shares k) may fails one kept = absurd one
comes_so None n i f may fails one kept = refl
comes_so (Some k) n i f may fails one kept = sym one

module _ (l : Luck) (ts : List Taken) (i : Input) (s : Loop) (n : Standing) (ds : List Deed) where
  abbrev next_with : Bool → Option Fate → Fate
  next_with b o = if b then lost else fate_with (broke ts) n i o

  -- one that was counted and not lost has the next fate
  next_counted : (f : Fate) (more : List Fate) → is_lost f ≡ false → MayCome n i f → MayFail i f → IsTogether (broke ts) f → Foretells l.marks (counted s) → l.fates ≡ kept ds ++ f ∷ more → next_fate l ts i (state_at s n ds) ≡ f
  next_counted f more one may fails with_it marks fates =
      ap (λ b. next_with b (slice_get l.fates (length (kept ds)))) (counted_here l s marks)
      ∙ ap (λ r. next_with false (slice_get r (length (kept ds)))) fates
      ∙ ap (next_with false) (at_seam (kept ds) f more) ∙ comes_so (broke ts) n i f may fails with_it one

  -- that of a lost one is told by its mark
  pub next_is : (f : Fate) (more : List Fate) → MayCome n i f → MayFail i f → IsTogether (broke ts) f → Foretells l.marks (loop_taking f s) → l.fates ≡ kept ds ++ (kept_fate f ++ more) → next_fate l ts i (state_at s n ds) ≡ f
  next_is lost more may fails with_it marks fates = ap (λ b. next_with b (slice_get l.fates (length (kept ds)))) (lost_here l s marks)
  next_is f more may fails with_it marks fates = next_counted f more refl may fails with_it marks fates

-- ---- what is kept behind them

abbrev input_counted : Place → Place
input_counted p = record p { inputs = next p.inputs }

lost_place : (s : Loop) → (counted (marked None s)).place ≡ (counted s).place
lost_place s = ap input_counted (stopped_place (nat_lt (length s.lost + 1) most_marks) (noted (none_marked s) s))

-- a count of inputs is within its range
abbrev pub InCount : Loop → Type 0
InCount s = s.place.inputs ≤ last_count

pub in_count : (f : Fate) (s : Loop) → InCount (loop_taking f s)
in_count lost s = subst (λ (p : Place). p.inputs ≤ last_count) (sym (lost_place s)) (omega arith)
in_count f s = omega arith

grew_lost : (s : Loop) → InCount s → Grew s (counted (marked None s))
grew_lost s short =
    let up : s.place.inputs ≤ next s.place.inputs = omega (arith, short) in
    record {
      added = none_marked s ∷ [];
      lost = taking_lost s;
      from = All-cons (IsFrom s.place) (none_marked s) [] (from_own s.place None) (All-nil (IsFrom s.place));
      place = λ x h. from_counted s up x (subst (λ (p : Place). IsFrom p x) (lost_place s) h);
      counts = subst (λ (p : Place). s.place.inputs ≤ p.inputs) (sym (lost_place s)) up;
    }

pub grew_taking : (f : Fate) (s : Loop) → InCount s → Grew s (loop_taking f s)
grew_taking lost s short = grew_lost s short
grew_taking f s short = counted_grew s (omega (arith, short))

pub grew_taken : (zs : List Entry) (s : Loop) → InCount s → Grew s (loop_taken zs s)
grew_taken [] s short = grew_still refl refl
grew_taken (z ∷ zs) s short = grew_trans (grew_taking z.1 s short) (grew_taken zs (loop_taking z.1 s) (in_count z.1 s))

kinds_taking : (f : Fate) (s : Loop) → KeepsKinds s (loop_taking f s)
kinds_taking lost s = marked_kinds None s
kinds_taking f s = λ c. inl refl

pub kinds_taken : (zs : List Entry) (s : Loop) → KeepsKinds s (loop_taken zs s)
kinds_taken [] s = λ c. inl refl
kinds_taken (z ∷ zs) s = kinds_then s (loop_taking z.1 s) (loop_taken zs (loop_taking z.1 s)) (kinds_taking z.1 s) (kinds_taken zs (loop_taking z.1 s))

-- before an input it was calm
pub calm_taking : (f : Fate) (marks : List Mark) (s t : Loop) → Grew (loop_taking f s) t → Foretells marks t → IsCalm marks s
calm_taking lost marks s t g k = calm_lost marks s (counted (marked None s)) (taking_lost s) (foretold g k)
calm_taking f marks s t g k = calm_before marks s t g k

-- ---- what they are to the node

pub came_enters : (zs : List Entry) → came_in (enters_of zs) ≡ came_of zs
came_enters [] = refl
came_enters (z ∷ zs) = ap (λ l. (z.0.1, z.1) ∷ l) (came_enters zs)

pub steps_all : (zs : List Entry) (fs : List Frame) (n m : Standing) (b : Option ℕ) → MayComeAll n b (came_of zs) → m ≡ after_all n (came_of zs) → Stepped n (enters_of zs ++ map says fs) m
steps_all [] fs n m b may is = steps_says fs n m is
steps_all (z ∷ zs) fs n m b may is = (may.0, steps_all zs fs (after_fate n z.0.1 z.1) m (broke_by b z.1) may.3 is)

-- one more that was taken
pub broke_more : (ts : List Taken) (t : Taken) → broke (ts ++ t ∷ []) ≡ broke_by (broke ts) t.fate
broke_more ts t = fold-append (λ b x. broke_by b x.fate) None ts (t ∷ [])
