-- One configuration as a run of its own: what the laws of one configuration give.
use Rattle.std.proofs.Common.{◌≡◌, ℕ, ◌≤◌, ◌⊎◌, inl, inr, ⊎_elim, List, [], ◌∷◌, ◌++◌, length, refl, sym, ap, ◌∙◌, subst, arith, Option, Some, append-nil}
use Rattle.std.specs.Prelude.{slice_get}
use Rattle.std.proofs.lemmas.List.{length-take-le}
use Rattle.op_types.specs.declared.log.Entry.{Entry}
use Rattle.op_configurations.proofs.Among.{In}
use Rattle.op_paxos.proofs.Tidy.{Tidy}
use Rattle.op_paxos.specs.Messages.{Packet, Effect}
use Rattle.op_paxos.specs.Worlds.{Input, Elected, Proposal, Comes, Up, CutOff, Down, Starts, TrimNow, World, Event, Delivers, stepped, step, input_of, taken_by, applied, stopped, happens, run, start}
use Rattle.op_paxos.specs.Agreement.{IsPrefix, decided_log, proposed_by, proposals}
use Rattle.op_paxos.proofs.Agreeing.{run_append, agree, decided_tidy}
use Rattle.op_paxos.proofs.TrimBound.{trims, never_falls}
use Rattle.op_paxos.proofs.Proposals.{all_proposed}
use Rattle.op_paxos.specs.Ledger.{StandsIn, execution_of, first_execution}
use Rattle.op_paxos.proofs.Runs.{first}
use Rattle.op_paxos.proofs.Ledgers.{start_kept, kept_at, execution_world}
use Rattle.op_configurations.specs.Servers.{Fate, Done, Stopped, fated}
use Rattle.op_configurations.specs.Worlds.{with_fate, plain_event}
use Rattle.op_configurations.proofs.Fronts.{front_same, front_trans, either_front, tidy_front}

-- the ledger of one configuration: each member's decided log is a front of it
pub stands_in : (ms : List ℕ) (conf : ℕ) (es : List Event) (p : ℕ) → StandsIn conf (execution_of ms conf es (first_execution ms)) p
stands_in ms conf es p = ((kept_at ms conf es (first_execution ms) first (start_kept ms conf)).1).stands p

pub tracked : (ms : List ℕ) (conf : ℕ) (es : List Event) → (execution_of ms conf es (first_execution ms)).world ≡ run ms es start
tracked ms conf es = execution_world ms conf es (first_execution ms)

-- so a member has decided no more than it has
pub decided_length : (ms : List ℕ) (es : List Event) (p : ℕ) → length (decided_log (run ms es start) p) ≡ ((run ms es start).nodes p).decided
decided_length ms es p =
    let k = stands_in ms 1 es p in
    subst (λ (w : World). length (decided_log w p) ≡ (w.nodes p).decided) (tracked ms 1 es) (ap (λ (l : List Entry). length l) (sym k.prefix) ∙ length-take-le _ _ k.within)

-- what a member has decided is the front of what it has decided later
pub decided_on : (ms : List ℕ) (es more : List Event) (p : ℕ) → IsPrefix (decided_log (run ms es start) p) (decided_log (run ms (es ++ more) start) p)
decided_on ms es more p =
    ⊎_elim (λ (f : IsPrefix (decided_log (run ms es start) p) (decided_log (run ms (es ++ more) start) p)). f)
    (λ (f : IsPrefix (decided_log (run ms (es ++ more) start) p) (decided_log (run ms es start) p)).
    let e = front_same (decided_log (run ms (es ++ more) start) p) (decided_log (run ms es start) p) (omega (arith, decided_length ms es p, decided_length ms (es ++ more) p, never_falls ms es more p)) f in
    subst (λ l. IsPrefix l (decided_log (run ms (es ++ more) start) p)) e ([], append-nil _))
    (agree ms es more p p)

-- the front of what some member has decided
pub record Told (ms : List ℕ) (es : List Event) (l : List Entry) : Type 0 where
  pub who : ℕ
  pub front : IsPrefix l (decided_log (run ms es start) who)

pub told_here : (ms : List ℕ) (es : List Event) (p : ℕ) → Told ms es (decided_log (run ms es start) p)
told_here ms es p = record { who = p; front = ([], append-nil _) }

pub told_later : (ms : List ℕ) (es more : List Event) (l : List Entry) → Told ms es l → Told ms (es ++ more) l
told_later ms es more l t = record { who = t.who; front = front_trans l _ _ t.front (decided_on ms es more t.who) }

pub told_tidy : (ms : List ℕ) (es : List Event) (l : List Entry) → Told ms es l → Tidy l
told_tidy ms es l t = tidy_front l _ t.front (decided_tidy ms es t.who)

agree_now : (ms : List ℕ) (es : List Event) (p q : ℕ) → IsPrefix (decided_log (run ms es start) p) (decided_log (run ms es start) q) ⊎ IsPrefix (decided_log (run ms es start) q) (decided_log (run ms es start) p)
agree_now ms es p q =
    subst (λ (k : List Event). IsPrefix (decided_log (run ms es start) p) (decided_log (run ms k start) q) ⊎ IsPrefix (decided_log (run ms k start) q) (decided_log (run ms es start) p)) (append-nil es) (agree ms es [] p q)

pub told_fronts : (ms : List ℕ) (es : List Event) (xs ys : List Entry) → Told ms es xs → Told ms es ys → IsPrefix xs ys ⊎ IsPrefix ys xs
told_fronts ms es xs ys x y =
    ⊎_elim (λ (f : IsPrefix (decided_log (run ms es start) x.who) (decided_log (run ms es start) y.who)). either_front xs ys _ (front_trans xs _ _ x.front f) y.front)
    (λ (f : IsPrefix (decided_log (run ms es start) y.who) (decided_log (run ms es start) x.who)). either_front xs ys _ x.front (front_trans ys _ _ y.front f))
    (agree_now ms es x.who y.who)

in_front : (x : Entry) (xs ys : List Entry) → IsPrefix xs ys → In x xs → In x ys
in_front x xs ys f i = subst (In x) f.1 (in_left x xs f.0 i)
  where
    in_left : (x : Entry) (a b : List Entry) → In x a → In x (a ++ b)
    in_left x [] b i = absurd i
    in_left x (y ∷ a) b (inl e) = inl e
    in_left x (y ∷ a) b (inr i) = inr (in_left x a b i)

-- every told entry was proposed in the configuration
pub told_proposed : (ms : List ℕ) (es : List Event) (l : List Entry) → Told ms es l → (x : Entry) → In x l → In x (proposals es)
told_proposed ms es l t x i = all_proposed ms es t.who x (in_front x l _ t.front i)

-- a member trims no more than it has decided
pub trimmed_low : (ms : List ℕ) (es : List Event) (p : ℕ) → In p ms → ((run ms es start).nodes p).trimmed ≤ ((run ms es start).nodes p).decided
trimmed_low ms es p i = trims ms es p p i

-- ---- one event more

pub one_more : (ms : List ℕ) (es : List Event) (e : Event) → run ms (es ++ e ∷ []) start ≡ happens ms (run ms es start) e
unfolding run
one_more ms es e = run_append ms es (e ∷ []) start

-- ---- an input as an event

-- what a member may be given: the message that was sent to it by this number
abbrev pub May : World → ℕ → ℕ → Input → Type 0
May w p i (Comes q m) = slice_get w.packets i ≡ Some (record { from = q; to = p; msg = m })
May w p i _ = Unit {0}

abbrev pub proposed_of : Input → List Entry
proposed_of (Proposal es) = es
proposed_of _ = []

-- an input of a member, done or stopped inside, is its event
pub acts : (ms : List ℕ) (w : World) (p i : ℕ) (f : Fate) (x : Input) → May w p i x → happens ms w (with_fate f (plain_event i p x)) ≡ stepped w p (fated f (step ms p (w.nodes p) x))
unfolding happens input_of
acts ms w p i Done (Elected n) k = refl
acts ms w p i Done (Proposal e) k = refl
acts ms w p i Done (Comes q m) k = ap (λ (o : Option Packet). applied ms w (λ (o : Effect). o) (taken_by w (Delivers i) o)) k
acts ms w p i Done (Up q) k = refl
acts ms w p i Done (CutOff heard) k = refl
acts ms w p i Done (Down q) k = refl
acts ms w p i Done Starts k = refl
acts ms w p i Done TrimNow k = refl
acts ms w p i Stopped (Elected n) k = refl
acts ms w p i Stopped (Proposal e) k = refl
acts ms w p i Stopped (Comes q m) k = ap (λ (o : Option Packet). applied ms w stopped (taken_by w (Delivers i) o)) k
acts ms w p i Stopped (Up q) k = refl
acts ms w p i Stopped (CutOff heard) k = refl
acts ms w p i Stopped (Down q) k = refl
acts ms w p i Stopped Starts k = refl
acts ms w p i Stopped TrimNow k = refl

pub acts_proposed : (p i : ℕ) (f : Fate) (x : Input) → proposed_by (with_fate f (plain_event i p x)) ≡ proposed_of x
acts_proposed p i Done (Elected n) = refl
acts_proposed p i Done (Proposal e) = refl
acts_proposed p i Done (Comes q m) = refl
acts_proposed p i Done (Up q) = refl
acts_proposed p i Done (CutOff heard) = refl
acts_proposed p i Done (Down q) = refl
acts_proposed p i Done Starts = refl
acts_proposed p i Done TrimNow = refl
acts_proposed p i Stopped (Elected n) = refl
acts_proposed p i Stopped (Proposal e) = refl
acts_proposed p i Stopped (Comes q m) = refl
acts_proposed p i Stopped (Up q) = refl
acts_proposed p i Stopped (CutOff heard) = refl
acts_proposed p i Stopped (Down q) = refl
acts_proposed p i Stopped Starts = refl
acts_proposed p i Stopped TrimNow = refl
