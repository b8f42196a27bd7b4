-- What a part of an AcceptSync does, by the plan that stages it.
use Rattle.std.proofs.Common.{◌≡◌, ℕ, ◌+◌, ◌-◌, ◌≤◌, Bool, true, false, cond, ◌&&◌, List, [], ◌∷◌, ◌++◌, length, Option, Some, None, refl, sym, ap, ◌∙◌, arith, append-nil, length-append}
use Rattle.std.specs.Prelude.{nat_lt, nat_le}
use Rattle.std.proofs.lemmas.Bool.{ltb-false, le-leb}
use Rattle.std.proofs.lemmas.List.{length-take}
use Rattle.op_types.specs.Ballots.{is_below, is_same_ballot}
use Rattle.op_types.specs.Changes.{len_of, part_with}
use Rattle.op_types.specs.Effects.{nothing_plan}
use Rattle.op_types.specs.Joinings.{Held, held_with, held_run}
use Rattle.op_types.specs.Stages.{front_from, staged_from}
use Rattle.op_types.specs.declared.ballot.Ballot.{Ballot}
use Rattle.op_types.specs.declared.changes.Change.{Change}
use Rattle.op_types.specs.declared.changes.Change.TheVariants as change
use Rattle.op_types.specs.declared.durable.Part.{Part}
use Rattle.op_types.specs.declared.log.Entry.{Entry}
use Rattle.op_types.specs.declared.messages.Body.{Body}
use Rattle.op_types.specs.declared.messages.Body.TheVariants as body
use Rattle.op_types.specs.declared.plan.Plan.{Plan}
use Rattle.op_types.specs.declared.runs.SyncRun.{SyncRun}
use Rattle.op_types.specs.declared.turn.Turn.TheVariants as turn
use Rattle.op_protocol.specs.Follower.{accepts, synced_changes, unstaged, synced_once, on_first_part, accept_front, appended_staged, on_later_part, on_accept_sync_part}
use Rattle.op_protocol.specs.Parts.{part_after, appending, message, is_run_to, nothing, first}
use Rattle.op_protocol.specs.State.{Volatile, PartStep, staged_after, with_effects}
use Rattle.op_plans.specs.Positions.{FitsPositions}
use Rattle.op_follower.specs.Staging.{telling, appended_body, staging_step, DoesStep}
use Rattle.op_follower.proofs.Gaps.{from_zero}

-- ---- lengths

pub appended_len : (p : Part) (es : List Entry) → len_of (part_after p (appending es)) ≡ len_of p + length es
appended_len p [] = omega arith
appended_len p (e ∷ es) = let len = length-append p.tail.items (e ∷ es) in omega arith

accepted_len : (p : Part) (n : Ballot) (es : List Entry) → len_of (part_after p (appending es ++ change.Accept n ∷ [])) ≡ len_of p + length es
accepted_len p n [] = omega arith
accepted_len p n (e ∷ es) = let len = length-append p.tail.items (e ∷ es) in omega arith

pub synced_len : (p : Part) (n : Ballot) (x : ℕ) (es : List Entry) → FitsPositions p → p.decided ≤ x → x ≤ len_of p → len_of (part_after p (synced_changes p n x es)) ≡ x + length es
synced_len p n x es fits low high = by (nat_lt x (len_of p)) refl
  where
    by : (b : Bool) → nat_lt x (len_of p) ≡ b → len_of (part_after p (cond b (change.CutTo x ∷ []) [] ++ appending es ++ change.Accept n ∷ [])) ≡ x + length es
    by true is =
        let len = length-take (x - p.trimmed) p.tail.items in
        let begins : p.trimmed ≤ p.decided = fits.trimmed in
        let cut : len_of (part_with p (change.CutTo x)) ≡ x = omega arith in
        accepted_len (part_with p (change.CutTo x)) n es ∙ ap (λ (k : ℕ). k + length es) cut
    by false is = let same : len_of p ≡ x = omega (arith, ltb-false x (len_of p) is) in accepted_len p n es ∙ ap (λ (k : ℕ). k + length es) same

-- ---- steps

-- what is done where the log's new length is told
pub told : (p : Part) (w : Volatile) (held : Held) (q : ℕ) (batch : List Change) (f : ℕ → Body) (len : ℕ) → len_of (part_after p batch) ≡ len
    → (let x : PartStep = record { batch = batch; volatile = record w { staged = staged_after batch (staged_from held len) }; sends = message p.conf q (f len) ∷ []; replies = []; outcome = None } in
    x ≡ unstaged p w held (first batch (message p.conf q (f (len_of (part_after p batch))) ∷ []) [] (nothing w.role)))
told p w held q batch f len is =
    let step : List Change → ℕ → ℕ → PartStep = λ b k l. record { batch = b; volatile = record w { staged = staged_after b (staged_from held k) }; sends = message p.conf q (f l) ∷ []; replies = []; outcome = None } in
    ap (λ (l : ℕ). step batch l l) (sym is)
    ∙ ap (λ (b : List Change). step b (len_of (part_after p b)) (len_of (part_after p batch))) (sym (append-nil batch))

-- ---- a part of a later one

pub later_does : (p : Part) (q : ℕ) (n : Ballot) (at : ℕ) (run : List Entry) (h : Held) (es : List Entry) (x : Plan) → es ≡ front_from (held_with h at run) (len_of p)
    → (let plan : Plan = record (telling p q (appending es) (appended_body n (len_of p + length es) at)) { turn = turn.Stage at run (len_of p + length es) } in x ≡ plan)
    → DoesStep h x (λ v. appended_staged p v q n at (held_with v.staged at run))
later_does p q n at run h es x front is v =
    let w : Volatile = record v { staged = h } in
    let held : Held = held_with h at run in
    ap (λ (plan : Plan). staging_step plan w) is
    ∙ told p w held q (appending es) (λ len. appended_body n len at) (len_of p + length es) (appended_len p es)
    ∙ ap (λ (l : List Entry). unstaged p w held (accept_front p w.role q n at l)) front

-- ---- a part of the first one

all_true : (a b c d : Bool) → a ≡ true → b ≡ true → c ≡ true → d ≡ true → ((a && b) && (c && d)) ≡ true
all_true a b c d e f g h =
    ap (λ (x : Bool). (x && b) && (c && d)) e ∙ ap (λ (x : Bool). (true && x) && (c && d)) f ∙ ap (λ (x : Bool). (true && true) && (x && d)) g ∙ ap (λ (x : Bool). (true && true) && (true && x)) h

module _ (p : Part) (q : ℕ) (n : Ballot) (part : SyncRun) (low : p.decided ≤ part.start) (high : part.start ≤ len_of p) (before : part.start ≤ part.at) (runs : is_run_to part.end part.at part.run ≡ true) where
  taken : (w : Volatile) → (let held : Held = held_with w.staged part.at part.run in synced_once p w q n part.start held (held_run held part.start (part.end - part.start)) ≡ on_first_part p w q n part)
  taken w =
      let held : Held = held_with w.staged part.at part.run in
      ap (λ (b : Bool). cond b (synced_once p w q n part.start held (held_run held part.start (part.end - part.start))) (with_effects w (nothing w.role)))
      (sym (all_true (nat_le p.decided part.start) (nat_le part.start (len_of p)) (nat_le part.start part.at) (is_run_to part.end part.at part.run)
      (le-leb p.decided part.start low) (le-leb part.start (len_of p) high) (le-leb part.start part.at before) runs))

  -- while entries are missing it is staged
  pub missing_does : (h : Held) (x : Plan) → None ≡ held_run (held_with h part.at part.run) part.start (part.end - part.start)
      → (let plan : Plan = record nothing_plan { turn = turn.Stage part.at part.run 0 } in x ≡ plan) → DoesStep h x (λ v. on_first_part p v q n part)
  missing_does h x missing is v =
      let w : Volatile = record v { staged = h } in
      let held : Held = held_with h part.at part.run in
      ap (λ (plan : Plan). staging_step plan w) is
      ∙ ap (λ (k : Held). with_effects (record w { staged = k }) (nothing w.role)) (from_zero held)
      ∙ ap (λ (o : Option (List Entry)). synced_once p w q n part.start held o) missing
      ∙ taken w

  -- once all are there they take the place of the log's
  pub whole_does : (h : Held) (es : List Entry) (x : Plan) → FitsPositions p → Some es ≡ held_run (held_with h part.at part.run) part.start (part.end - part.start)
      → (let end : ℕ = part.start + length es in let plan : Plan = record (telling p q (synced_changes p n part.start es) (body.Accepted n end)) { turn = turn.Stage part.at part.run end } in x ≡ plan)
      → DoesStep h x (λ v. on_first_part p v q n part)
  whole_does h es x fits whole is v =
      let w : Volatile = record v { staged = h } in
      let held : Held = held_with h part.at part.run in
      let batch : List Change = synced_changes p n part.start es in
      ap (λ (plan : Plan). staging_step plan w) is
      ∙ told p w held q batch (λ len. body.Accepted n len) (part.start + length es) (synced_len p n part.start es fits low high)
      ∙ ap (λ (b : Bool). unstaged p w held (cond b (accepts p w.role q n batch) (nothing w.role))) (sym both)
      ∙ ap (λ (o : Option (List Entry)). synced_once p w q n part.start held o) whole
      ∙ taken w
    where
      both : (nat_le p.decided part.start && nat_le part.start (len_of p)) ≡ true
      both = ap (λ (b : Bool). b && nat_le part.start (len_of p)) (le-leb p.decided part.start low) ∙ ap (λ (b : Bool). true && b) (le-leb part.start (len_of p) high)

-- ---- both

-- in a round that is accepted already a part does what one of a later AcceptSync does
pub later_is : (p : Part) (q : ℕ) (n : Ballot) (part : SyncRun) (h : Held) (x : Plan) → is_same_ballot p.promised n ≡ true → is_below p.accepted n ≡ false → is_same_ballot p.accepted n ≡ true → is_run_to part.end part.at part.run ≡ true
    → DoesStep h x (λ v. appended_staged p v q n part.at (held_with v.staged part.at part.run)) → DoesStep h x (λ v. on_accept_sync_part p v q n part)
later_is p q n part h x promised above accepted runs does v =
    let w : Volatile = record v { staged = h } in
    let y : PartStep = appended_staged p w q n part.at (held_with h part.at part.run) in
    let none : PartStep = with_effects w (nothing w.role) in
    let firsts : PartStep = on_first_part p w q n part in
    does v
    ∙ ap (λ (b : Bool). cond b y none) (sym (ap (λ (b : Bool). b && (is_same_ballot p.accepted n && is_run_to part.end part.at part.run)) promised ∙ ap (λ (b : Bool). true && (b && is_run_to part.end part.at part.run)) accepted ∙ ap (λ (b : Bool). true && (true && b)) runs))
    ∙ ap (λ (b : Bool). cond b firsts (on_later_part p w q n part)) (sym (ap (λ (b : Bool). b && is_below p.accepted n) promised ∙ ap (λ (b : Bool). true && b) above))
