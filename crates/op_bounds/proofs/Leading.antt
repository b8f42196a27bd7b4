-- Counting, syncing followers and adopting a log are in range.
use Rattle.std.proofs.Common.{◌≡◌, ◌≤◌, ◌+◌, ℕ, zero, suc, cond, ltb, leb, ◌&&◌, ◌||◌, nat_eq, List, [], ◌∷◌, ◌++◌, length, flat_map, Option, Some, None, refl, sym, subst, arith, length-append, All}
use Rattle.std.specs.Prelude.{IfSome}
use Rattle.std.specs.Set.{is_member}
use Rattle.std.proofs.lemmas.Bool.{cond_both, ltb-true, ltb-false}
use Rattle.std.proofs.lemmas.List.Elements.{All-nil, All-append, All-filter}
use Rattle.op_quorum.specs.Quorums.{is_majority, passing}
use Rattle.op_types.specs.Ballots.{is_same_ballot}
use Rattle.op_types.specs.Ranges.{IsPlace}
use Rattle.op_types.specs.Changes.{len_of}
use Rattle.op_types.specs.RoleStates.{Preparing, Leading, promise_of}
use Rattle.op_types.specs.Roles as role
use Rattle.op_types.specs.declared.ballot.Ballot.{Ballot}
use Rattle.op_types.specs.declared.log.Entry.{Entry}
use Rattle.op_types.specs.declared.durable.Part.{Part}
use Rattle.op_types.specs.declared.changes.Change.{Change}
use Rattle.op_types.specs.declared.changes.Change.TheVariants as change
use Rattle.op_types.specs.declared.messages.Body.TheVariants as body
use Rattle.op_types.specs.declared.messages.Msg.{Msg}
use Rattle.op_types.specs.declared.role.Promised.{Promised}
use Rattle.op_types.specs.declared.role.Acknowledged.{Acknowledged}
use Rattle.op_protocol.specs.Parts.{log_from, part_after, part_in_round, cutting, appending, message, messages, others, sync_bodies, sync_run, prepare_body, saying, nothing}
use Rattle.op_protocol.specs.Promises.{has_quorum, Choice, own_choice, best, chosen_log, chosen_stop, chosen_len, choice_changes, fitting, left_over}
use Rattle.op_protocol.specs.Leader.{backed, length_at, counted, synced_others, decides, count, sync_start, sync_sends, is_synced_by, sends_by, first_leading, leading_with, begin_leading, adopt_with, adopt, prepares}
use Rattle.op_bounds.specs.Messages.{BallotOf, BodyInRange, SendInRange, ReplyInRange}
use Rattle.op_bounds.specs.States.{LeadingInRange, AcknowledgedInRange, ReportInRange}
use Rattle.op_bounds.proofs.Batches.{PartIn, BatchFits, after_batch}
use Rattle.op_bounds.proofs.Effects.{PromisedIn, PreparingIn, RowInRange, row_saying, row_nothing, row_first, Said, send_one, send_each, send_bodies, others_all}
use Rattle.op_bounds.proofs.InParts.{run_entries, parts_said}
use Rattle.op_bounds.proofs.LogChanges.{after_adopting, len_after_log, fits_adopting, few_appending, few_cutting}
use Rattle.op_bounds.proofs.FollowerRows.{suffix_in, suffix_ends, decided_place}
use Rattle.op_bounds.proofs.Choices.{ChoiceIn, EndsInRange, promise_found, best_in, stop_at_in, fitting_in, left_over_in}

-- ---- counting

backed-le : (has : ℕ → ℕ) (members : List ℕ) (n : ℕ) → backed has members n ≤ n
backed-le has members zero = omega arith
backed-le has members (suc n) =
    cond_both (is_majority (passing (λ q. leb (suc n) (has q)) members) (length members)) (suc n) (backed has members n) (λ (x : ℕ). x ≤ suc n) (λ _. omega arith) (λ _. omega (arith, backed-le has members n))

counted-le : (me : ℕ) (members : List ℕ) (len : ℕ) (acks : List Acknowledged) → counted me members len acks ≤ len
counted-le me members len acks = backed-le (length_at me len acks) members len

module _ (Known : ℕ → Type 0) (me : ℕ) (p : Part) (k : PartIn Known p) where
  pub prepare_said : (n : Ballot) → BallotOf Known n → BodyInRange Known (prepare_body p n)
  prepare_said n of = (of, k.accepted, k.range.len, decided_place Known p k)

  pub synced_all : (l : Leading) → All Known (synced_others me p.members l)
  synced_all l = All-filter (λ q. is_member nat_eq l.synced q) Known (others me p.members) (others_all Known me p k)

  -- counting at a part that has decided as much, where the log has this length at least
  pub count_in : (q : Part) (len : ℕ) (l : Leading) (otherwise : List (ℕ × Msg)) → q.decided ≡ p.decided → len ≤ len_of q → IsPlace len → LeadingInRange Known l → All (SendInRange Known) otherwise
      → RowInRange Known p.conf q 1 (count me p len l otherwise)
  count_in q len l otherwise same fits place in_leading said =
      let x : ℕ = counted me p.members len l.acknowledged in
      let le : x ≤ len = counted-le me p.members len l.acknowledged in
      cond_both (ltb p.decided x) (decides me p l x) (saying (role.Leading l) otherwise) (RowInRange Known p.conf q 1)
      (λ h. let more = ltb-true p.decided x h in
      record {
        batch = ((omega (arith, more, same), omega (arith, le, fits)), tt);
        few = omega arith;
        role = in_leading;
        sends = send_each Known p.conf (synced_others me p.members l) (body.Decide l.ballot x) k.range.conf (omega arith) (omega arith) (synced_all l) (in_leading.ballot, omega (arith, le, place));
        replies = All-nil (ReplyInRange Known);
        outcome = tt;
      })
      (λ _. row_saying Known p.conf q 1 (role.Leading l) otherwise in_leading said)

  -- ---- syncing
  sync_place : (l : Leading) (j : Promised) → PromisedIn Known p.conf j → IsPlace (sync_start l j)
  sync_place l j one =
      cond_both (is_same_ballot j.accepted l.ballot || (is_same_ballot j.accepted l.adopted_round && leb j.len l.adopted_len)) j.len j.decided IsPlace (λ _. one.len) (λ _. one.decided)

  -- the log from there on
  from_said : (n : Ballot) (at : ℕ) → BallotOf Known n → p.trimmed ≤ at → IsPlace at → All (Said Known) (sync_bodies n at (log_from p at))
  from_said n at of low place =
      let ends = suffix_ends Known p at k low place in
      parts_said Known (Said Known) (λ pos run. body.AcceptSyncPart n (sync_run at (log_from p at) pos run))
      (λ pos run one. record { least = omega arith; carries = one.fits; body = (of, record { start = place; end = ends; at = omega (arith, one.ends); run = run_entries Known pos run one }) })
      (body.AcceptSync n at (log_from p at)) at (log_from p at) ends (suffix_in Known p at k).each
      (λ one. record { least = omega arith; carries = one.fits; body = (of, place, suffix_in Known p at k) })

  pub sync_said : (l : Leading) (j : Promised) → BallotOf Known l.ballot → PromisedIn Known p.conf j → All (SendInRange Known) (sync_sends p l j)
  sync_said l j of one =
      let at : ℕ = sync_start l j in
      cond_both (ltb at p.trimmed) (message p.conf j.from (prepare_body p l.ballot) ∷ [])
      (cond (leb at (len_of p)) (messages p.conf j.from (sync_bodies l.ballot at (log_from p at))) []) (All (SendInRange Known))
      (λ _. send_one Known p.conf j.from (prepare_body p l.ballot) k.range.conf (omega arith) (omega arith) one.from (prepare_said l.ballot of))
      (λ h. cond_both (leb at (len_of p)) (messages p.conf j.from (sync_bodies l.ballot at (log_from p at))) [] (All (SendInRange Known))
      (λ _. send_bodies Known p.conf j.from (sync_bodies l.ballot at (log_from p at)) k.range.conf one.from
      (from_said l.ballot at of (ltb-false at p.trimmed h) (sync_place l j one)))
      (λ _. All-nil (SendInRange Known)))

  said_by : (l : Leading) (o : Option Promised) → BallotOf Known l.ballot → IfSome o (PromisedIn Known p.conf) → All (SendInRange Known) (sends_by p l o)
  said_by l None of one = All-nil (SendInRange Known)
  said_by l (Some j) of one = sync_said l j of one

  all_said : (l : Leading) (ks : List Promised) → BallotOf Known l.ballot → All (PromisedIn Known p.conf) ks → (qs : List ℕ) → All (SendInRange Known) (flat_map (λ q. sends_by p l (promise_of ks q)) qs)
  all_said l ks of each [] = All-nil (SendInRange Known)
  all_said l ks of each (q ∷ qs) =
      All-append (SendInRange Known) (sends_by p l (promise_of ks q)) (flat_map (λ q. sends_by p l (promise_of ks q)) qs) (said_by l (promise_of ks q) of (promise_found Known p.conf ks q each)) (all_said l ks of each qs)

  -- ---- beginning to lead
  pub begin_in : (l : Leading) (ks : List Promised) → LeadingInRange Known l → All (PromisedIn Known p.conf) ks → RowInRange Known p.conf p 1 (begin_leading me p l ks)
  begin_in l ks in_leading each =
      row_first Known p.conf p 1 1 [] (flat_map (λ q. sends_by p l (promise_of ks q)) p.members) [] (count me p (len_of p) (leading_with p l ks) []) tt (omega arith)
      (all_said l ks in_leading.ballot each p.members) (All-nil (ReplyInRange Known))
      (count_in p (len_of p) (leading_with p l ks) [] refl (omega arith) k.range.len
      (record {
        ballot = in_leading.ballot;
        adopted_round = in_leading.adopted_round;
        adopted_len = in_leading.adopted_len;
        synced = All-filter (λ q. is_synced_by p l (promise_of ks q)) Known p.members k.members;
        acknowledged = in_leading.acknowledged;
        reports = in_leading.reports;
      })
      (All-nil (SendInRange Known)))

-- ---- adopting

module _ (Known : ℕ → Type 0) (me : ℕ) (p : Part) (k : PartIn Known p) (r : Preparing) (in_preparing : PreparingIn Known p.conf r) where
  -- the batch of an adoption
  abbrev adopting : Choice → List Entry → List Change
  adopting c more = choice_changes p c ++ appending more ++ change.Accept r.ballot ∷ []

  choice_len : (c : Choice) → ChoiceIn Known p c → chosen_len p c ≡ c.start + length c.entries
  choice_len c now = len_after_log p c.start c.entries (omega (arith, k.range.decided, now.low)) now.high

  adopting_fits : (c : Choice) (more : List Entry) → ChoiceIn Known p c → EndsInRange Known p.conf (chosen_len p c) more → BatchFits Known p (adopting c more)
  adopting_fits c more now fit =
      fits_adopting Known p c.start c.entries more r.ballot k.range.decided.0 now.low now.high (omega (arith, fit.ends, choice_len c now)) now.entries fit.each in_preparing.ballot

  few_adopting : (c : Choice) (more : List Entry) → length (adopting c more) ≤ 4
  few_adopting c more =
      omega (arith, length-append (choice_changes p c ++ appending more) (change.Accept r.ballot ∷ []), length-append (choice_changes p c) (appending more), length-append (cutting p c.start) (appending c.entries), few_cutting p c.start, few_appending c.entries, few_appending more)

  adopt_with_in : (c : Choice) (more : List Entry) → ChoiceIn Known p c → EndsInRange Known p.conf (chosen_len p c) more → RowInRange Known p.conf p 5 (adopt_with me p r c more)
  adopt_with_in c more now fit =
      let fits : BatchFits Known p (adopting c more) = adopting_fits c more now fit in
      let is : part_after p (adopting c more) ≡ part_in_round p r.ballot (chosen_log p c ++ more) = after_adopting p c.start c.entries more r.ballot in
      let q : Part = part_in_round p r.ballot (chosen_log p c ++ more) in
      let in_q : PartIn Known q = subst (PartIn Known) is (after_batch Known p (adopting c more) k fits) in
      row_first Known p.conf p 5 1 (adopting c more) [] (left_over (chosen_stop p c) (chosen_len p c) r.buffer) (begin_leading me q (first_leading r.ballot c) r.promises) fits (omega (arith, few_adopting c more))
      (All-nil (SendInRange Known))
      (left_over_in Known p.conf (chosen_stop p c) (chosen_len p c) r.buffer (stop_at_in p.trimmed (chosen_log p c) (omega (arith, choice_len c now, now.ends))) in_preparing.buffer)
      (subst (λ (x : Part). RowInRange Known p.conf x 1 (begin_leading me q (first_leading r.ballot c) r.promises)) (sym is)
      (begin_in Known me q in_q (first_leading r.ballot c) r.promises
      (record { ballot = in_preparing.ballot; adopted_round = now.accepted; adopted_len = now.len; synced = All-nil Known; acknowledged = All-nil (AcknowledgedInRange Known); reports = All-nil (ReportInRange Known) })
      in_preparing.promises))

  adopt_in : RowInRange Known p.conf p 5 (adopt me p r)
  adopt_in =
      let c : Choice = best p r.promises p.members (own_choice p) in
      let now : ChoiceIn Known p c = best_in Known p r.promises k in_preparing.promises in
      adopt_with_in c (fitting (chosen_stop p c) (chosen_len p c) r.buffer) now
      (fitting_in Known p.conf (chosen_stop p c) (chosen_len p c) r.buffer (omega (arith, choice_len c now, now.ends)) in_preparing.buffer)

  pub prepares_in : RowInRange Known p.conf p 5 (prepares me p r)
  prepares_in =
      cond_both (has_quorum me p.members r.promises) (adopt me p r) (nothing (role.Preparing r)) (RowInRange Known p.conf p 5) (λ _. adopt_in) (λ _. row_nothing Known p.conf p 5 (role.Preparing r) in_preparing)
