-- A disk failed: all that wait for an answer are told, nobody waits any more, and sessions are lost for want of memory.
use Rattle.std.proofs.Common.{◌≡◌, ◌∷◌, [], ℕ, Bool, T, List, map, filter, true, false, ◌==◌, ◌&&◌, not, Some, None, is_some, All, refl, sym, ◌∙◌, ap, inl, inr}
use Rattle.std.proofs.lemmas.Bool.{cases_Bool, eqb-true}
use Rattle.std.proofs.lemmas.List.{nil_from_length}
use Rattle.std.proofs.lemmas.List.Elements.{All-tail}
use Rattle.std.proofs.lemmas.Map.Keys.{sorted_head, sorted_tail}
use Rattle.std.specs.FinMap as finmap
use Rattle.std.specs.FinMap.Entries.{below_all}
use Rattle.std.specs.List.{AllByRecursion}
use Rattle.std.specs.List.Sorted.{IsStrictlySortedBy}
use Rattle.std.specs.Map.{keys_of}
use Rattle.std.specs.Ordering.{is_lt}
use Rattle.std.specs.declared.cmp.Ordering.{Ordering}
use Rattle.std.specs.declared.cmp.Ordering.TheVariants.{Less, Equal, Greater}
use Rattle.op_command.specs.declared.said.Said.TheVariants as said
use Rattle.op_types.specs.declared.answers.Refusal.TheVariants.{StorageFailed}
use Rattle.op_types.specs.declared.answers.Outcome.TheVariants.{Refused}
use Rattle.op_serving.specs.State.{Askers, Awaited, Loop, awaited_cmp, askers_in, without_asker, find, left_at, waits_for}
use Rattle.op_serving.specs.Wire.{client_frame}
use Rattle.op_serving.specs.Losses.{mark_at, noted, stopped_if, settled, Does}
use Rattle.op_serving.specs.Handing.{of_command, Told, told, told_all, said_of_failure, given_up}
use Rattle.op_queues.specs.Asked.{AwaitedInRange}
use Rattle.op_serving.proofs.KeyOrder.{key_total}
use Rattle.op_queues.proofs.Tables.{find_without}
use Rattle.op_queues.proofs.Askers.{Entries, same_askers, filtered}
use Rattle.op_queues.proofs.Losing.{by_loss, none_is}
use Rattle.op_queues.proofs.Settling.{Blind, Quiet, blind, quiet_then, quiet_by, quiet_waits, shut_waits, does_found, does_as, does_then}
use Rattle.op_queues.proofs.Room.{nobody_waits, quiet_nobody}
use Rattle.op_queues.proofs.Sending.{quiet_told_all, blind_told_all}

-- ---- who waits, in order

put_first : (e : Awaited × ℕ) (es : Entries) → AllByRecursion (λ y. awaited_cmp e.0 y ≡ Less) (keys_of es) → finmap.put awaited_cmp e.0 e.1 es ≡ e ∷ es
put_first e [] h = refl
put_first e (f ∷ es) h = rw h.0 refl

-- what a table of rising keys names is that table
pub entries_in : (es : Entries) → IsStrictlySortedBy awaited_cmp (keys_of es) → finmap.entries (askers_in es) ≡ es
entries_in [] s = nil_from_length (finmap.entries (askers_in [])) (sym (finmap.len-entries (askers_in [])) ∙ finmap.len-empty awaited_cmp ℕ)
entries_in (e ∷ es) s =
    finmap.entries-insert key_total (askers_in es) e.0 e.1
    ∙ ap (finmap.put awaited_cmp e.0 e.1) (entries_in es (sorted_tail awaited_cmp e.0 (keys_of es) s))
    ∙ put_first e es (sorted_head awaited_cmp e.0 (keys_of es) s)

-- in any table keys rise
below : (k : Awaited) (es : Entries) → T (below_all awaited_cmp k es) → AllByRecursion (λ y. awaited_cmp k y ≡ Less) (keys_of es)
below k [] h = tt
below k (e ∷ es) h = by_order (awaited_cmp k e.0) refl h (below k es)
  where
    by_order : (o : Ordering) → awaited_cmp k e.0 ≡ o → T (is_lt o && below_all awaited_cmp k es)
        → (T (below_all awaited_cmp k es) → AllByRecursion (λ y. awaited_cmp k y ≡ Less) (keys_of es))
        → (awaited_cmp k e.0 ≡ Less) × AllByRecursion (λ y. awaited_cmp k y ≡ Less) (keys_of es)
    by_order Less is h rest = (is, rest h)
    by_order Equal is h rest = absurd h
    by_order Greater is h rest = absurd h

rising : (es : Entries) → T (finmap.is_sorted awaited_cmp es) → IsStrictlySortedBy awaited_cmp (keys_of es)
unfolding IsStrictlySortedBy
rising [] h = tt
rising (e ∷ es) h = let parts = both (below_all awaited_cmp e.0 es) (finmap.is_sorted awaited_cmp es) h in (below e.0 es parts.0, rising es parts.1)
  where
    both : (a b : Bool) → T (a && b) → T a × T b
    both true b h = (tt, h)
    both false b h = absurd h

-- who asked at a connection is left out
abbrev others : ℕ → Entries → Entries
others d es = filter (λ e. not (e.1 == d)) es

others_below : (k : Awaited) (d : ℕ) (es : Entries) → AllByRecursion (λ y. awaited_cmp k y ≡ Less) (keys_of es)
    → AllByRecursion (λ y. awaited_cmp k y ≡ Less) (keys_of (others d es))
others_below k d [] h = tt
others_below k d (e ∷ es) h = elim (cases_Bool (e.1 == d)) [ inl g ↦ rw g (others_below k d es h.1) | inr g ↦ rw g (h.0, others_below k d es h.1) ]

others_rise : (d : ℕ) (es : Entries) → IsStrictlySortedBy awaited_cmp (keys_of es) → IsStrictlySortedBy awaited_cmp (keys_of (others d es))
unfolding IsStrictlySortedBy
others_rise d [] h = tt
others_rise d (e ∷ es) h = elim (cases_Bool (e.1 == d)) [ inl g ↦ rw g (others_rise d es h.1) | inr g ↦ rw g (others_below e.0 d es h.0, others_rise d es h.1) ]

entries_without : (d : ℕ) (t : Askers) → finmap.entries (without_asker d t) ≡ others d (finmap.entries t)
entries_without d t =
    let es : Entries = finmap.entries t in
    let rise : IsStrictlySortedBy awaited_cmp (keys_of es) = rising es (finmap.entries_sorted t) in
    let named : askers_in es ≡ t = same_askers (askers_in es) t (λ q. finmap.get-from_entries key_total es q ∙ sym (finmap.get-entries t q)) in
    ap (λ u. finmap.entries (without_asker d u)) (sym named) ∙ ap finmap.entries (sym (filtered d es rise)) ∙ entries_in (others d es) (others_rise d es rise)

-- ---- what they are told

abbrev pub said_to : ℕ → Awaited × ℕ → Told
said_to k e = (e.1, of_command e.0.1 (said.Outcome (Refused (StorageFailed k))))

-- who asked where no session is, is told nothing
told_others : (k d : ℕ) (es : Entries) (s : Loop) → find d s.sessions ≡ None → told_all (map (said_to k) es) s ≡ told_all (map (said_to k) (others d es)) s
told_others k d [] s e = refl
told_others k d (f ∷ es) s e =
    let frame : List ℕ = client_frame (said_to k f).1 in
    elim (cases_Bool (f.1 == d)) [
      | inl g ↦ rw g (ap (told_all (map (said_to k) es)) (shut_waits f.1 frame s (ap (λ n. find n s.sessions) (eqb-true f.1 d g) ∙ e)) ∙ told_others k d es s e)
      | inr g ↦ (let still = (blind (quiet_waits f.1 frame)).opens d s ∙ ap is_some e in
          rw g (told_others k d es (waits_for f.1 frame s) (none_is (find d (waits_for f.1 frame s).sessions) still)))
    ]

told_nowhere : (rs : List Told) (s : Loop) → s.sessions ≡ [] → told_all rs s ≡ s
told_nowhere [] s e = refl
told_nowhere (r ∷ rs) s e = ap (told_all rs) (shut_waits r.0 (client_frame r.1) s (ap (find r.0) e)) ∙ told_nowhere rs s e

pub quiet_given_up : (k : ℕ) → Quiet (given_up k)
quiet_given_up k = quiet_by (λ rs s. told_all rs (nobody_waits s)) (λ s. said_of_failure k s.askers) (λ rs. quiet_then quiet_nobody (quiet_told_all rs)) (λ d s.
    let n : Loop = noted (mark_at s.place (Some d)) s in
    let none : Loop = stopped_if false n in
    by_loss (λ u. told_all (said_of_failure k s.askers) (nobody_waits u) ≡ given_up k u) d s refl
    (λ x. let u : Loop = nobody_waits (left_at d (Some x) n) in
    told_others k d (finmap.entries s.askers) u (find_without d s.sessions) ∙ ap (λ es. told_all (map (said_to k) es) u) (sym (entries_without d s.askers)))
    (told_nowhere (said_of_failure k s.askers) (nobody_waits none) refl ∙ sym (told_nowhere (said_of_failure k none.askers) (nobody_waits none) refl)))

pub blind_given_up : (k : ℕ) → Blind (given_up k)
blind_given_up k = blind (quiet_given_up k)

-- ---- one after the other

-- these are left, and are told, too
abbrev pub Gives : ℕ → Loop → Entries → Loop → Type 0
Gives k s es m =
    All AwaitedInRange (keys_of es) ×
    ((t : Loop) → Does (λ ms x. settled ms (told_all (map (said_to k) es) x)) m t → Does (λ ms x. settled ms (given_up k x)) s t)

pub gives_all : (k : ℕ) (s u : Loop) (es : Entries) → u ≡ nobody_waits s → s.askers ≡ askers_in es → IsStrictlySortedBy awaited_cmp (keys_of es)
    → All AwaitedInRange (keys_of es) → Gives k s es u
gives_all k s u es e named rise range =
    let all : finmap.entries s.askers ≡ es = ap finmap.entries named ∙ entries_in es rise in
    let rs : List Told = map (said_to k) es in (
      range,
      λ t d. does_as (λ x. told_all rs (nobody_waits x)) (given_up k) (ap (λ l. told_all (map (said_to k) l) (nobody_waits s)) (sym all))
          (does_then nobody_waits (told_all rs) (blind_told_all rs) (does_found quiet_nobody s u e) d),
    )

pub gives_one : (k : ℕ) (s : Loop) (e : Awaited × ℕ) (es : Entries) (m u : Loop) → Gives k s (e ∷ es) m
    → Does (λ ms x. settled ms (told e.1 (said_to k e).1 x)) m u → Gives k s es u
gives_one k s e es m u h one =
    let rs : List Told = map (said_to k) es in
    (All-tail AwaitedInRange e.0 (keys_of es) h.0, λ t d. h.1 t (does_then (told e.1 (said_to k e).1) (told_all rs) (blind_told_all rs) one d))
