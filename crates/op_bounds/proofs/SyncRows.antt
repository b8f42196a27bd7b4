-- What a follower does with parts of its leader's log is in range.
use Rattle.std.proofs.Common.{◌≡◌, ◌≤◌, ◌+◌, ◌-◌, ℕ, cond, ltb, leb, ◌&&◌, List, [], ◌∷◌, length, Option, Some, None, refl, arith, All}
use Rattle.std.proofs.lemmas.Bool.{cond_both, leb-true, and_parts}
use Rattle.std.proofs.lemmas.List.Elements.{All-nil, All-filter}
use Rattle.op_types.specs.Ballots.{is_below, is_same_ballot}
use Rattle.op_types.specs.Limits.{positions_end}
use Rattle.op_types.specs.Ranges.{IsPlace}
use Rattle.op_types.specs.Changes.{len_of}
use Rattle.op_types.specs.Effects.{Effects}
use Rattle.op_types.specs.Joinings.{Held, held_with, held_run}
use Rattle.op_types.specs.Stages.{front_from, staged_from}
use Rattle.op_types.specs.declared.ballot.Ballot.{Ballot}
use Rattle.op_types.specs.declared.log.Entry.{Entry}
use Rattle.op_types.specs.declared.durable.Part.{Part}
use Rattle.op_types.specs.declared.runs.SyncRun.{SyncRun}
use Rattle.op_types.specs.declared.messages.Body.{Body}
use Rattle.op_types.specs.declared.messages.Body.TheVariants as body
use Rattle.op_protocol.specs.State.{Volatile, with_effects}
use Rattle.op_protocol.specs.Parts.{part_after, appending, message, is_run_to, nothing}
use Rattle.op_protocol.specs.Follower.{sync_entries, unstaged, synced_once, on_first_part, accept_front, appended_staged, on_later_part, on_accept_sync_part}
use Rattle.op_bounds.specs.Messages.{BallotOf, SyncRunOf, SendInRange, ReplyInRange}
use Rattle.op_bounds.proofs.Entries.{EntriesIn, run_told}
use Rattle.op_bounds.proofs.Batches.{PartIn, BatchFits, after_batch}
use Rattle.op_bounds.proofs.Effects.{StagedIn, RoleIn, RowInRange, row_nothing, row_first, send_one}
use Rattle.op_bounds.proofs.Staged.{more_staged, run_staged, front_ends, front_in}
use Rattle.op_bounds.proofs.LogChanges.{fits_appending, few_appending}
use Rattle.op_bounds.proofs.FollowerRows.{sync_in}
use Rattle.op_bounds.proofs.TickRows.{VolatileIn, role_of, staged_of, staging_in, PartStepInRange, effects_in}

module _ (Known : ℕ → Type 0) (p : Part) (k : PartIn Known p) (v : Volatile) (in_volatile : VolatileIn Known p.conf v) (q : ℕ) (n : Ballot) (from : Known q) (of : BallotOf Known n) where
  in_role : RoleIn Known p.conf v.role
  in_role = role_of Known p.conf v in_volatile

  still_in : PartStepInRange Known p (with_effects v (nothing v.role))
  still_in = effects_in Known p 0 v (nothing v.role) (omega arith) in_volatile (row_nothing Known p.conf p 0 v.role in_role)

  -- what the log has by then leaves the stage
  unstaged_in : (most : ℕ) (held : Held) (e : Effects) → most ≤ 6 → All (StagedIn Known p.conf) held → RowInRange Known p.conf p most e → PartStepInRange Known p (unstaged p v held e)
  unstaged_in most held e small each row =
      let len : ℕ = len_of (part_after p e.batch) in
      effects_in Known p most (record v { staged = staged_from held len }) e small
      (staging_in Known p.conf v (staged_from held len) in_volatile (All-filter (λ x. leb len x.0) (StagedIn Known p.conf) held each)) row

  -- ---- the first AcceptSync of a ballot
  synced_in : (start count : ℕ) (held : Held) (o : Option (List Entry)) → held_run held start count ≡ o → start + count ≤ positions_end → All (StagedIn Known p.conf) held
      → PartStepInRange Known p (synced_once p v q n start held o)
  synced_in start count held None is ends each =
      effects_in Known p 0 (record v { staged = held }) (nothing v.role) (omega arith) (staging_in Known p.conf v held in_volatile each) (row_nothing Known p.conf p 0 v.role in_role)
  synced_in start count held (Some es) is ends each =
      let run = run_staged Known p.conf held start count es each is in
      unstaged_in 3 held (sync_entries p v.role q n start es) (omega arith) each (sync_in Known p k v.role in_role q n start es from of (omega (arith, run.0, ends)) run.1)

  module _ (part : SyncRun) (fit : SyncRunOf Known part) (ends : part.at + length part.run ≤ positions_end) (entries : EntriesIn Known p.conf part.run) where
    abbrev held : Held
    held = held_with v.staged part.at part.run

    held_in : All (StagedIn Known p.conf) held
    held_in = more_staged Known p.conf v.staged part.at part.run (staged_of Known p.conf v in_volatile) ends entries

    first_in : PartStepInRange Known p (on_first_part p v q n part)
    first_in =
        let whole : Option (List Entry) = held_run held part.start (part.end - part.start) in
        cond_both ((leb p.decided part.start && leb part.start (len_of p)) && (leb part.start part.at && is_run_to part.end part.at part.run))
        (synced_once p v q n part.start held whole) (with_effects v (nothing v.role)) (PartStepInRange Known p)
        (λ h. let a = and_parts (leb p.decided part.start && leb part.start (len_of p)) (leb part.start part.at && is_run_to part.end part.at part.run) h in
        let b = and_parts (leb part.start part.at) (is_run_to part.end part.at part.run) a.1 in
        let low = leb-true part.start part.at b.0 in
        let run = run_told part.end part.at part.run b.1 in
        synced_in part.start (part.end - part.start) held whole refl (omega (arith, low, run.1, fit.end)) held_in)
        (λ _. still_in)

    -- ---- a later one
    front_said : (len at : ℕ) → IsPlace len → All (SendInRange Known) (message p.conf q (cond (ltb len at) body.PrepareReq (body.Accepted n len)) ∷ [])
    front_said len at place =
        cond_both (ltb len at) body.PrepareReq (body.Accepted n len) (λ (b : Body). All (SendInRange Known) (message p.conf q b ∷ []))
        (λ _. send_one Known p.conf q body.PrepareReq k.range.conf (omega arith) (omega arith) from tt)
        (λ _. send_one Known p.conf q (body.Accepted n len) k.range.conf (omega arith) (omega arith) from (of, place))

    front_row : (at : ℕ) (es : List Entry) → len_of p + length es ≤ positions_end → EntriesIn Known p.conf es → RowInRange Known p.conf p 1 (accept_front p v.role q n at es)
    front_row at es room each =
        let batch = appending es in
        let fits : BatchFits Known p batch = fits_appending Known p es room each in
        row_first Known p.conf p 1 0 batch (message p.conf q (cond (ltb (len_of (part_after p batch)) at) body.PrepareReq (body.Accepted n (len_of (part_after p batch)))) ∷ []) [] (nothing v.role) fits
        (omega (arith, few_appending es)) (front_said (len_of (part_after p batch)) at (after_batch Known p batch k fits).range.len) (All-nil (ReplyInRange Known))
        (row_nothing Known p.conf (part_after p batch) 0 v.role in_role)

    later_in : PartStepInRange Known p (on_later_part p v q n part)
    later_in =
        let front : List Entry = front_from held (len_of p) in
        cond_both (is_same_ballot p.promised n && (is_same_ballot p.accepted n && is_run_to part.end part.at part.run)) (appended_staged p v q n part.at held) (with_effects v (nothing v.role)) (PartStepInRange Known p)
        (λ _. unstaged_in 1 held (accept_front p v.role q n part.at front) (omega arith) held_in
        (front_row part.at front (front_ends Known p.conf held (length held) (len_of p) held_in k.range.len) (front_in Known p.conf held (length held) (len_of p) held_in)))
        (λ _. still_in)

    pub sync_part_in : PartStepInRange Known p (on_accept_sync_part p v q n part)
    sync_part_in =
        cond_both (is_same_ballot p.promised n && is_below p.accepted n) (on_first_part p v q n part) (on_later_part p v q n part) (PartStepInRange Known p) (λ _. first_in) (λ _. later_in)
