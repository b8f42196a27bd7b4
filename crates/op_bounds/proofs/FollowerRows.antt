-- The rows of a follower are in range.
use Rattle.std.proofs.Common.{◌≤◌, ◌+◌, ◌-◌, min, ℕ, cond, ltb, leb, ◌&&◌, List, [], ◌∷◌, ◌++◌, length, drop, None, arith, length-append, length-drop, All}
use Rattle.std.proofs.lemmas.Bool.{cond_both, ltb-true, ltb-false, leb-true, and_parts}
use Rattle.std.proofs.lemmas.List.Elements.{All-nil, All-drop}
use Rattle.op_types.specs.Ballots.{is_below, is_same_ballot}
use Rattle.op_types.specs.Limits.{positions_end}
use Rattle.op_types.specs.Ranges.{IsPlace}
use Rattle.op_types.specs.Changes.{len_of}
use Rattle.op_types.specs.Roles as role
use Rattle.op_types.specs.Roles.{Role}
use Rattle.op_types.specs.declared.ballot.Ballot.{Ballot}
use Rattle.op_types.specs.declared.log.Entry.{Entry}
use Rattle.op_types.specs.declared.durable.Part.{Part}
use Rattle.op_types.specs.declared.changes.Change.{Change}
use Rattle.op_types.specs.declared.changes.Change.TheVariants as change
use Rattle.op_types.specs.declared.messages.Body.TheVariants as body
use Rattle.op_types.specs.declared.answers.Cause.TheVariants as cause
use Rattle.op_protocol.specs.Parts.{log_from, part_after, cutting, appending, message, messages, promise_bodies, promised_run, nothing, saying, first}
use Rattle.op_protocol.specs.Leader.{given_up_by}
use Rattle.op_protocol.specs.Follower.{suffix_start, promise_higher, on_prepare, added_changes, accepts, accept_entries, on_accept, synced_changes, sync_entries, on_accept_sync, on_decide}
use Rattle.op_bounds.specs.Messages.{BallotOf, EntryOf, EntriesOf, SendInRange, ReplyInRange}
use Rattle.op_bounds.proofs.Entries.{EntriesIn, last_entries}
use Rattle.op_bounds.proofs.Batches.{PartIn, BatchFits, after_batch}
use Rattle.op_bounds.proofs.Effects.{RoleIn, RowInRange, row_saying, row_nothing, row_first, Said, send_one, send_bodies, given_up}
use Rattle.op_bounds.proofs.InParts.{run_entries, parts_said}
use Rattle.op_bounds.proofs.LogChanges.{fits_appending, fits_log, fits_accepting, few_appending, few_cutting}

-- what is sent of a log is in range
pub suffix_in : (Known : ℕ → Type 0) (p : Part) (at : ℕ) → PartIn Known p → EntriesOf Known (log_from p at)
suffix_in Known p at k =
    record { few = omega (arith, length-drop (at - p.trimmed) p.tail.items, k.range.len); each = All-drop (EntryOf Known) (at - p.trimmed) p.tail.items k.entries.each }

-- it ends where the log does, or is empty
pub suffix_ends : (Known : ℕ → Type 0) (p : Part) (at : ℕ) → PartIn Known p → p.trimmed ≤ at → IsPlace at → at + length (log_from p at) ≤ positions_end
suffix_ends Known p at k low place = omega (arith, length-drop (at - p.trimmed) p.tail.items, low, place, k.range.len)

pub decided_place : (Known : ℕ → Type 0) (p : Part) → PartIn Known p → IsPlace p.decided
decided_place Known p k = omega (arith, k.range.decided, k.range.len)

module _ (Known : ℕ → Type 0) (p : Part) (k : PartIn Known p) (r : Role) (in_role : RoleIn Known p.conf r) where
  -- ---- promising
  suffix_place : (na : Ballot) (nl nd : ℕ) → IsPlace nl → IsPlace nd → IsPlace (suffix_start p na nl nd)
  suffix_place na nl nd len decided =
      cond_both (is_below na p.accepted) nd (cond (is_same_ballot p.accepted na) nl (len_of p)) IsPlace (λ _. decided)
      (λ _. cond_both (is_same_ballot p.accepted na) nl (len_of p) IsPlace (λ _. len) (λ _. k.range.len))

  promise_in : (n : Ballot) (s : ℕ) → BallotOf Known n → p.trimmed ≤ s → IsPlace s → All (Said Known) (promise_bodies p n s)
  promise_in n s of low place =
      parts_said Known (Said Known) (λ at run. body.PromisePart n (promised_run p s at run))
      (λ at run one. record {
        least = omega arith;
        carries = one.fits;
        body = (
          of,
          record {
            accepted = k.accepted;
            len = k.range.len;
            decided = decided_place Known p k;
            start = place;
            at = omega (arith, one.ends);
            run = run_entries Known at run one;
          },
        );
      })
      (body.Promise n p.accepted (len_of p) p.decided s (log_from p s)) s (log_from p s) (suffix_ends Known p s k low place) (suffix_in Known p s k).each
      (λ one. record { least = omega arith; carries = one.fits; body = (of, k.accepted, k.range.len, decided_place Known p k, place, suffix_in Known p s k) })

  higher_in : (n : Ballot) → BallotOf Known n → RowInRange Known p.conf p 1 (promise_higher p r n)
  higher_in n of =
      cond_both (is_below p.promised n) (record { batch = change.Promise n ∷ []; role = role.Idle; sends = []; replies = given_up_by r (cause.Ballot n); outcome = None }) (nothing r) (RowInRange Known p.conf p 1)
      (λ _. record { batch = (of, tt); few = omega arith; role = tt; sends = All-nil (SendInRange Known); replies = given_up Known p.conf r (cause.Ballot n) in_role of; outcome = tt })
      (λ _. row_nothing Known p.conf p 1 r in_role)

  pub prepare_in : (q : ℕ) (n na : Ballot) (nl nd : ℕ) → Known q → BallotOf Known n → IsPlace nl → IsPlace nd → RowInRange Known p.conf p 1 (on_prepare p r q n na nl nd)
  prepare_in q n na nl nd from of len decided =
      cond_both (is_below n p.promised) (saying r (message p.conf q (body.Refuse n p.promised) ∷ []))
      (cond (ltb (suffix_start p na nl nd) p.trimmed) (nothing r) (first [] (messages p.conf q (promise_bodies p n (suffix_start p na nl nd))) [] (promise_higher p r n))) (RowInRange Known p.conf p 1)
      (λ _. row_saying Known p.conf p 1 r (message p.conf q (body.Refuse n p.promised) ∷ []) in_role (send_one Known p.conf q (body.Refuse n p.promised) k.range.conf (omega arith) (omega arith) from (of, k.promised)))
      (λ _. cond_both (ltb (suffix_start p na nl nd) p.trimmed) (nothing r) (first [] (messages p.conf q (promise_bodies p n (suffix_start p na nl nd))) [] (promise_higher p r n)) (RowInRange Known p.conf p 1)
      (λ _. row_nothing Known p.conf p 1 r in_role)
      (λ h. row_first Known p.conf p 1 1 [] (messages p.conf q (promise_bodies p n (suffix_start p na nl nd))) [] (promise_higher p r n) tt (omega arith)
      (send_bodies Known p.conf q (promise_bodies p n (suffix_start p na nl nd)) k.range.conf from
      (promise_in n (suffix_start p na nl nd) of (ltb-false (suffix_start p na nl nd) p.trimmed h) (suffix_place na nl nd len decided)))
      (All-nil (ReplyInRange Known)) (higher_in n of)))

  -- ---- accepting
  accepts_in : (most q : ℕ) (n : Ballot) (batch : List Change) → Known q → BallotOf Known n → BatchFits Known p batch → length batch ≤ most → RowInRange Known p.conf p most (accepts p r q n batch)
  accepts_in most q n batch from of fit few =
      row_first Known p.conf p most 0 batch (message p.conf q (body.Accepted n (len_of (part_after p batch))) ∷ []) [] (nothing r) fit (omega arith)
      (send_one Known p.conf q (body.Accepted n (len_of (part_after p batch))) k.range.conf (omega arith) (omega arith) from (of, (after_batch Known p batch k fit).range.len))
      (All-nil (ReplyInRange Known)) (row_nothing Known p.conf (part_after p batch) 0 r in_role)

  entries_in : (q : ℕ) (n : Ballot) (at : ℕ) (es : List Entry) → Known q → BallotOf Known n → at + length es ≤ positions_end → EntriesIn Known p.conf es
      → RowInRange Known p.conf p 3 (accept_entries p r q n at es)
  entries_in q n at es from of ends each =
      cond_both (ltb (len_of p) at) (saying r (message p.conf q body.PrepareReq ∷ [])) (accepts p r q n (added_changes p at es)) (RowInRange Known p.conf p 3)
      (λ _. row_saying Known p.conf p 3 r (message p.conf q body.PrepareReq ∷ []) in_role (send_one Known p.conf q body.PrepareReq k.range.conf (omega arith) (omega arith) from tt))
      (λ h. accepts_in 3 q n (added_changes p at es) from of
      (fits_appending Known p (drop (len_of p - at) es) (omega (arith, length-drop (len_of p - at) es, ends, ltb-false (len_of p) at h, k.range.len)) (last_entries Known p.conf (len_of p - at) es each))
      (omega (arith, few_appending (drop (len_of p - at) es))))

  pub accept_in : (q : ℕ) (n : Ballot) (at : ℕ) (es : List Entry) → Known q → BallotOf Known n → at + length es ≤ positions_end → EntriesIn Known p.conf es
      → RowInRange Known p.conf p 3 (on_accept p r q n at es)
  accept_in q n at es from of ends each =
      cond_both (is_same_ballot p.promised n && is_same_ballot p.accepted n) (accept_entries p r q n at es) (nothing r) (RowInRange Known p.conf p 3)
      (λ _. entries_in q n at es from of ends each) (λ _. row_nothing Known p.conf p 3 r in_role)

  pub sync_in : (q : ℕ) (n : Ballot) (x : ℕ) (es : List Entry) → Known q → BallotOf Known n → x + length es ≤ positions_end → EntriesIn Known p.conf es
      → RowInRange Known p.conf p 3 (sync_entries p r q n x es)
  sync_in q n x es from of ends each =
      cond_both (leb p.decided x && leb x (len_of p)) (accepts p r q n (synced_changes p n x es)) (nothing r) (RowInRange Known p.conf p 3)
      (λ h. let fit = and_parts (leb p.decided x) (leb x (len_of p)) h in
      accepts_in 3 q n (synced_changes p n x es) from of
      (fits_accepting Known p (cutting p x ++ appending es) n (fits_log Known p x es k.range.decided.0 (leb-true p.decided x fit.0) (leb-true x (len_of p) fit.1) ends each) of)
      (omega (arith, length-append (cutting p x ++ appending es) (change.Accept n ∷ []), length-append (cutting p x) (appending es), few_cutting p x, few_appending es)))
      (λ _. row_nothing Known p.conf p 3 r in_role)

  pub accept_sync_in : (q : ℕ) (n : Ballot) (x : ℕ) (es : List Entry) → Known q → BallotOf Known n → x + length es ≤ positions_end → EntriesIn Known p.conf es
      → RowInRange Known p.conf p 3 (on_accept_sync p r q n x es)
  accept_sync_in q n x es from of ends each =
      cond_both (is_same_ballot p.promised n && is_below p.accepted n) (sync_entries p r q n x es) (on_accept p r q n x es) (RowInRange Known p.conf p 3)
      (λ _. sync_in q n x es from of ends each) (λ _. accept_in q n x es from of ends each)

  -- ---- deciding
  pub decide_in : (n : Ballot) (x : ℕ) → RowInRange Known p.conf p 1 (on_decide p r n x)
  decide_in n x =
      cond_both (is_same_ballot p.promised n && (is_same_ballot p.accepted n && ltb p.decided (min x (len_of p)))) (first (change.Decided (min x (len_of p)) ∷ []) [] [] (nothing r)) (nothing r) (RowInRange Known p.conf p 1)
      (λ h. let more = ltb-true p.decided (min x (len_of p)) (and_parts (is_same_ballot p.accepted n) _ (and_parts (is_same_ballot p.promised n) _ h).1).1 in
      row_first Known p.conf p 1 0 (change.Decided (min x (len_of p)) ∷ []) [] [] (nothing r) ((omega arith, omega arith), tt) (omega arith) (All-nil (SendInRange Known)) (All-nil (ReplyInRange Known)) (row_nothing Known p.conf _ 0 r in_role))
      (λ _. row_nothing Known p.conf p 1 r in_role)
