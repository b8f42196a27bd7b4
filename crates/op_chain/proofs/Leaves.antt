-- What a node leaves that holds more of a closed list, and that goes on once it has all.
use Rattle.std.proofs.Common.{◌≡◌, ℕ, zero, suc, ◌+◌, ◌-◌, ◌<◌, ◌≤◌, ◌^◌, Bool, true, false, cond, eqb, List, [], ◌∷◌, ◌++◌, length, All, Option, Some, None, refl, sym, ap, ◌∙◌, subst, arith}
use Rattle.std.specs.Prelude.{IfSome, is_some}
use Rattle.std.proofs.lemmas.List.Elements.{All-nil, All-cons, All-head, All-tail}
use Rattle.op_types.specs.Ballots.{no_ballot}
use Rattle.op_types.specs.Limits.{last_conf}
use Rattle.op_types.specs.Changes.{closed_len, part_with, closed_joined, joining_with, durable_joined, durable_with, durable_after, Applies}
use Rattle.op_types.specs.Joinings.{Held, Base, held_at, with_first, held_run, cover_of}
use Rattle.op_types.specs.declared.answers.Cause.{Cause}
use Rattle.op_types.specs.declared.answers.Cause.TheVariants as cause
use Rattle.op_types.specs.declared.changes.Change.{Change}
use Rattle.op_types.specs.declared.changes.Change.TheVariants as change
use Rattle.op_types.specs.declared.durable.Closed.{Closed}
use Rattle.op_types.specs.declared.durable.Durable.{Durable}
use Rattle.op_types.specs.declared.durable.Joining.{Joining}
use Rattle.op_types.specs.declared.durable.Part.{Part}
use Rattle.op_types.specs.declared.log.Entry.{Entry}
use Rattle.op_types.specs.declared.messages.Body.{Body}
use Rattle.op_types.specs.declared.messages.Body.TheVariants as body
use Rattle.op_types.specs.Stages.{Pieces}
use Rattle.op_protocol.specs.State as step
use Rattle.op_protocol.specs.State.{raises_promise}
use Rattle.op_protocol.specs.Parts.{part_after}
use Rattle.op_protocol.specs.Configurations.{latest_of}
use Rattle.op_protocol.specs.Reading.{decided_of, why_given_up}
use Rattle.op_protocol.specs.Joining.{new_entries, takes_base, takes_entries, brought_to}
use Rattle.op_protocol.proofs.Plans as plans
use Rattle.op_kv.specs.Maps.{MapState}
use Rattle.op_instance.specs.Sound.{IsSoundNode, ListFits, JoiningFits, IfJoiningFits, IsNode, AreOfOneConf}
use Rattle.op_instance.specs.declared.volatile.Volatile.{Volatile}
use Rattle.op_chain.specs.Bringing.{joining_after}
use Rattle.op_chain.specs.Leads.{why_joined, why_anew}
use Rattle.op_chain.specs.Plans.{BeginsAnew, IsPartAfter, BeginsIn}
use Rattle.op_chain.specs.declared.renewal.Renewal.{Renewal}
use Rattle.op_chain.proofs.Based.{of_parts}
use Rattle.op_chain.proofs.Closes.{new_node}
use Rattle.op_chain.proofs.Joined.{applies_both, once_brought, brought_applies}
use Rattle.op_chain.proofs.Steps.{same_conf, same_members, same_len}

-- ---- what is brought

-- a change by which a node holds more
abbrev Holds : Change → Type 0
Holds (change.JoinBase at bytes) = Unit {0}
Holds (change.JoinPart at es) = Unit {0}
Holds c = ⊥

by_test : {A : Type 0} (b : Bool) (x y : A) → cond b (Some x) None ≡ Some y → x ≡ y
by_test true x y is = cc
by_test false x y is = absurd cc

new_hold : (at : ℕ) (es : List Entry) (b : Bool) → All Holds (cond b [] (change.JoinPart at es ∷ []))
new_hold at es true = All-nil Holds
new_hold at es false = All-cons Holds (change.JoinPart at es) [] tt (All-nil Holds)

base_holds : (at : ℕ) (bytes : List ℕ) (batch : List Change) → change.JoinBase at bytes ∷ [] ≡ batch → All Holds batch
base_holds at bytes batch is = subst (λ (cs : List Change). All Holds cs) is (All-cons Holds (change.JoinBase at bytes) [] tt (All-nil Holds))

brought_holds : (j : Joining) (s : Option Pieces) (c : ℕ) (b : Body) (batch : List Change) → brought_to (Some j) s c b ≡ Some batch → All Holds batch
brought_holds j s c (body.BasePart at bytes) batch is = base_holds at bytes batch (by_test (takes_base j c at bytes) (change.JoinBase at bytes ∷ []) batch is)
brought_holds j s c (body.BasePiece p) batch is = let whole = once_brought j s c p batch is in base_holds p.at whole.0 batch whole.2
brought_holds j s c (body.Segment at es) batch is =
    subst (λ (cs : List Change). All Holds cs) (by_test (takes_entries j c at es) (new_entries j at es) batch is) (new_hold at es (is_some (held_run j.held.items at (length es))))
brought_holds j s c b batch is = absurd cc

one_held : (o : Option Part) (k : Option Closed) (j : Joining) (c : Change) → Holds c → durable_with (of_parts o k (Some j)) c ≡ of_parts o k (Some (joining_with j c))
one_held o k j (change.JoinBase at bytes) holds = refl
one_held o k j (change.JoinPart at es) holds = refl
one_held o k j _ holds = absurd holds

all_held : (o : Option Part) (k : Option Closed) (j : Joining) (batch : List Change) → All Holds batch → durable_after (of_parts o k (Some j)) batch ≡ of_parts o k (Some (joining_after j batch))
all_held o k j [] holds = refl
all_held o k j (c ∷ batch) holds =
    ap (λ (d : Durable). durable_after d batch) (one_held o k j c (All-head Holds c batch holds)) ∙ all_held o k (joining_with j c) batch (All-tail Holds c batch holds)

one_kept : (p : Part) (c : Change) → Holds c → part_with p c ≡ p
one_kept p (change.JoinBase at bytes) holds = refl
one_kept p (change.JoinPart at es) holds = refl
one_kept p _ holds = absurd holds

all_kept : (p : Part) (batch : List Change) → All Holds batch → part_after p batch ≡ p
all_kept p [] holds = refl
all_kept p (c ∷ batch) holds =
    ap (λ (q : Part). part_after q batch) (one_kept p c (All-head Holds c batch holds)) ∙ all_kept p batch (All-tail Holds c batch holds)

held_part : (o : Option Part) (batch : List Change) (left : Option Part) → All Holds batch → left ≡ o → IsPartAfter o batch left
held_part None batch left holds is = is
held_part (Some p) batch left holds is = is ∙ ap (λ (q : Part). Some q) (sym (all_kept p batch holds))

-- none of them raises the promise
all_calm : (batch : List Change) → All Holds batch → raises_promise batch ≡ false
all_calm [] holds = refl
all_calm (change.JoinBase at bytes ∷ batch) holds = all_calm batch (All-tail Holds (change.JoinBase at bytes) batch holds)
all_calm (change.JoinPart at es ∷ batch) holds = all_calm batch (All-tail Holds (change.JoinPart at es) batch holds)
all_calm (c ∷ batch) holds = absurd (All-head Holds c batch holds)

fits_one : (me : ℕ) (o : Option Part) (k : Option Closed) (j : Joining) (c : Change) (batch : List Change) → Holds c → JoiningFits me j → Applies (of_parts o k (Some j)) (c ∷ batch) → JoiningFits me (joining_with j c)
fits_one me o k j (change.JoinBase at bytes) batch holds fits all =
    record { number = fits.number; last = fits.last; len = fits.len; member = fits.member; base = all.0.1 }
fits_one me o k j (change.JoinPart at es) batch holds fits all =
    record { number = fits.number; last = fits.last; len = fits.len; member = fits.member; base = fits.base }
fits_one me o k j _ batch holds fits all = absurd holds

rest_applies : (o : Option Part) (k : Option Closed) (j : Joining) (c : Change) (batch : List Change) → Holds c → Applies (of_parts o k (Some j)) (c ∷ batch) → Applies (of_parts o k (Some (joining_with j c))) batch
rest_applies o k j c batch holds all = subst (λ (d : Durable). Applies d batch) (one_held o k j c holds) all.1

fits_all : (me : ℕ) (o : Option Part) (k : Option Closed) (j : Joining) (batch : List Change) → All Holds batch → JoiningFits me j → Applies (of_parts o k (Some j)) batch → JoiningFits me (joining_after j batch)
fits_all me o k j [] holds fits all = fits
fits_all me o k j (c ∷ batch) holds fits all =
    let one = All-head Holds c batch holds in
    fits_all me o k (joining_with j c) batch (All-tail Holds c batch holds) (fits_one me o k j c batch one fits all) (rest_applies o k j c batch one all)

-- ---- the list that is whole

with_first_length : (n : ℕ) (e : Option Entry) (o : Option (List Entry)) (es : List Entry) → ((xs : List Entry) → o ≡ Some xs → length xs ≡ n) → with_first e o ≡ Some es → length es ≡ suc n
with_first_length n None o es rest is = absurd cc
with_first_length n (Some e) None es rest is = absurd cc
with_first_length n (Some e) (Some xs) es rest is = let whole : e ∷ xs ≡ es = cc in sym (ap length whole) ∙ ap suc (rest xs refl)

run_length : (held : Held) (at n : ℕ) (es : List Entry) → held_run held at n ≡ Some es → length es ≡ n
run_length held at zero es is = let none : [] ≡ es = cc in sym (ap length none)
run_length held at (suc n) es is = with_first_length n (held_at held at) (held_run held (at + 1) n) es (λ xs so. run_length held (at + 1) n xs so) is

-- its length is that of the whole list
joined_len : (me : ℕ) (j : Joining) (b : Base) (es : List Entry) → JoiningFits me j → j.base ≡ Some b → cover_of j ≡ Some es → closed_len (closed_joined j b es) ≡ j.len
joined_len me j b es fits is covers =
    let run : held_run j.held.items b.0 (j.len - b.0) ≡ Some es = rw is at covers in
    let count = run_length j.held.items b.0 (j.len - b.0) es run in
    let within : b.0 ≤ j.len = subst (λ (o : Option Base). IfSome o (λ x. x.0 ≤ j.len)) is fits.base in
    omega arith

-- what is closed of a list that is whole
joined_fits : (me : ℕ) (j : Joining) (b : Base) (es : List Entry) → JoiningFits me j → j.base ≡ Some b → cover_of j ≡ Some es → ListFits (closed_joined j b es)
joined_fits me j b es fits is covers =
    let len : closed_len (closed_joined j b es) ≡ j.len = joined_len me j b es fits is covers in
    let low : 0 < j.conf = fits.number in
    let high : j.conf ≤ last_conf = fits.last in
    let short : j.len < 2 ^ 64 = fits.len in
    record { number = omega arith; len = omega arith }

-- ---- a node that joins

module _ (me : ℕ) (d : Durable) (j : Joining) (is : d.joining ≡ Some j) (s : Option Pieces) (c : ℕ) (b : Body) (batch : List Change) (brings : brought_to d.joining s c b ≡ Some batch) where
  brought_here : brought_to (Some j) s c b ≡ Some batch
  brought_here = subst (λ (o : Option Joining). brought_to o s c b ≡ Some batch) is brings

  abbrev here : Durable
  here = of_parts d.part d.closed (Some j)

  here_is : d ≡ here
  here_is = ap (λ (o : Option Joining). of_parts d.part d.closed o) is

  holds : All Holds batch
  holds = brought_holds j s c b batch brought_here

  pub hold_applies : Applies d batch
  hold_applies = subst (λ (e : Durable). Applies e batch) (sym here_is) (brought_applies d.part d.closed j s c b batch brought_here)

  -- what it holds then, and nothing else changes
  pub hold_leaves : durable_after d batch ≡ of_parts d.part d.closed (Some (joining_after j batch))
  hold_leaves = ap (λ (e : Durable). durable_after e batch) here_is ∙ all_held d.part d.closed j batch holds

  hold_fits : JoiningFits me j → JoiningFits me (joining_after j batch)
  hold_fits fits = fits_all me d.part d.closed j batch holds fits (brought_applies d.part d.closed j s c b batch brought_here)

  alike : (o : Option Part) → AreOfOneConf o o
  alike None = tt
  alike (Some p) = (refl, refl)

  fits_of : (v : step.Volatile) → IsSoundNode me d v → JoiningFits me j
  fits_of v sound = subst (λ (o : Option Joining). IfJoiningFits me o) is sound.joining

  pub hold_sound : (v : step.Volatile) → IsSoundNode me d v → IsSoundNode me (durable_after d batch) v
  hold_sound v sound =
      let after : IsSoundNode me (of_parts d.part d.closed (Some (joining_after j batch))) v = record { part = sound.part; closed = sound.closed; joining = hold_fits (fits_of v sound) } in
      subst (λ (e : Durable). IsSoundNode me e v) (sym hold_leaves) after

  -- no promise is raised
  pub hold_calms : raises_promise batch ≡ false
  hold_calms = all_calm batch holds

  pub hold_same : AreOfOneConf (durable_after d batch).part d.part
  hold_same = subst (λ (e : Durable). AreOfOneConf e.part d.part) (sym hold_leaves) (alike d.part)

  -- its part stays as it is
  pub hold_part : IsPartAfter d.part batch (durable_after d batch).part
  hold_part = held_part d.part batch (durable_after d batch).part holds (ap (λ (e : Durable). e.part) hold_leaves)

  -- it goes on once it has all
  module _ (base : List ℕ) (x : Base) (es : List Entry) (has : (joining_after j batch).base ≡ Some x) (covers : cover_of (joining_after j batch) ≡ Some es) where
    abbrev whole : Joining
    whole = joining_after j batch

    pub go_applies : Applies d (batch ++ change.JoinDone base ∷ [])
    go_applies =
        let done : Applies (of_parts d.part d.closed (Some whole)) (change.JoinDone base ∷ []) = (ap is_some covers, tt) in
        applies_both d batch (change.JoinDone base ∷ []) hold_applies (subst (λ (e : Durable). Applies e (change.JoinDone base ∷ [])) (sym hold_leaves) done)

    gone : durable_after d (batch ++ change.JoinDone base ∷ []) ≡ durable_joined whole base (Some x) (Some es) (of_parts d.part d.closed (Some whole))
    gone =
        plans.after_both d batch (change.JoinDone base ∷ [])
        ∙ ap (λ (e : Durable). durable_with e (change.JoinDone base)) hold_leaves
        ∙ ap (λ (o : Option Base). durable_joined whole base o (cover_of whole) (of_parts d.part d.closed (Some whole))) has
        ∙ ap (λ (o : Option (List Entry)). durable_joined whole base (Some x) o (of_parts d.part d.closed (Some whole))) covers

    go_node : (w : step.Volatile) (v : Volatile) → IsSoundNode me d w → BeginsAnew me j.members v → IsNode me (durable_after d (batch ++ change.JoinDone base ∷ [])) v
    go_node w v sound anew =
        let fits : JoiningFits me whole = hold_fits (fits_of w sound) in
        let begun : BeginsAnew me whole.members v = subst (λ (ms : List ℕ). BeginsAnew me ms v) (sym (same_members j batch)) anew in
        let node : IsNode me (durable_joined whole base (Some x) (Some es) (of_parts d.part d.closed (Some whole))) v = record {
          part = new_node whole.conf me whole.members base v fits.last fits.member begun;
          closed = joined_fits me whole x es fits has covers;
          joining = tt;
        } in
        subst (λ (e : Durable). IsNode me e v) (sym gone) node

    -- why the node leads no more
    go_why : (w : step.Volatile) → IsSoundNode me d w
        → why_given_up (latest_of d) (durable_after d (batch ++ change.JoinDone base ∷ [])).part (durable_after d (batch ++ change.JoinDone base ∷ [])).closed ≡ why_joined (latest_of d) d.joining
    go_why w sound =
        let fits : JoiningFits me whole = hold_fits (fits_of w sound) in
        let why : ℕ → ℕ → Cause = λ conf len. cond (eqb conf (latest_of d)) (cause.Ballot no_ballot) (cause.Stop (len - 1)) in
        let same : why whole.conf (closed_len (closed_joined whole x es)) ≡ why j.conf j.len =
        ap (λ (n : ℕ). why whole.conf n) (joined_len me whole x es fits has covers ∙ same_len j batch) ∙ ap (λ (n : ℕ). why n j.len) (same_conf j batch) in
        ap (λ (e : Durable). why_given_up (latest_of d) e.part e.closed) gone
        ∙ same
        ∙ ap (λ (o : Option Joining). why_joined (latest_of d) o) (sym is)

    pub go_leaves : (w : step.Volatile) (y : Renewal) (m : MapState) → IsSoundNode me d w → BeginsAnew me j.members y.volatile → y.service ≡ Some m → BeginsIn me d (batch ++ change.JoinDone base ∷ []) y
    go_leaves w y m sound anew serves =
        record {
          node = go_node w y.volatile sound anew;
          idle = ap (λ (v : step.Volatile). v.role) anew.first;
          undecided = ap (λ (e : Durable). decided_of e.part) gone;
          why = go_why w sound ∙ ap (λ (o : Option MapState). why_anew d (batch ++ change.JoinDone base ∷ []) o) (sym serves);
        }
