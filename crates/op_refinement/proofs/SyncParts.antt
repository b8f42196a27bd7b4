-- The row of an AcceptSync that comes in parts is matched.
use Rattle.std.proofs.Common.{◌≡◌, ℕ, ◌-◌, Bool, true, false, cond, eqb, ltb, leb, List, [], ◌∷◌, ◌++◌, length, Option, Some, None, refl, sym, ap, ◌∙◌, subst, arith, ◌&&◌, inl, append_assoc, length-append}
use Rattle.op_types.specs.Ballots.{is_below, is_same_ballot}
use Rattle.op_types.specs.Changes.{len_of, part_with_log}
use Rattle.op_types.specs.Effects.{Effects}
use Rattle.op_types.specs.Joinings.{Held, held_with, held_run}
use Rattle.op_types.specs.Stages.{front_from, staged_from}
use Rattle.op_types.specs.declared.ballot.Ballot.{Ballot}
use Rattle.op_types.specs.declared.durable.Part.{Part}
use Rattle.op_types.specs.declared.log.Entry.{Entry}
use Rattle.op_types.specs.declared.messages.Body.TheVariants as body
use Rattle.op_types.specs.declared.runs.SyncRun.{SyncRun}
use Rattle.op_protocol.specs.State.{Volatile, raises_promise, staged_after}
use Rattle.op_protocol.specs.Parts.{part_after, appending, message, is_run_to, nothing}
use Rattle.op_protocol.specs.Follower.{sync_entries, unstaged, synced_once, on_first_part, accept_front, appended_staged, on_later_part, on_accept_sync_part}
use Rattle.op_paxos.specs.Follower.{synced_once as pure_synced_once, on_first_part as pure_first_part, appended_staged as pure_appended_staged, on_later_part as pure_later_part, on_accept_sync_part as pure_sync_part}
use Rattle.op_refinement.proofs.Pure as pure
use Rattle.op_refinement.proofs.View.{IsSmall, rank, is_below-rank, is_same-rank, whole_log, view, view_body, view_sync_run, BodyIsSmall, Fits, PartIsSmall, RoleIsSmall, says_none, said_one}
use Rattle.op_refinement.proofs.Logs.{len_of-whole, keeps_all, after_appending, plain_appending}
use Rattle.op_refinement.proofs.Matching.{Matches, steady_appending, keeps_staged, match_first, match_nothing}
use Rattle.op_refinement.proofs.TrimRows.{StepMatches, row_matches, step_if}
use Rattle.op_refinement.proofs.FollowerRows.{sync_matches}

-- what leaves a stage that is dropped or kept
left_staged : (b : Bool) (held : Held) (at : ℕ) → cond b [] (staged_from held at) ≡ staged_from (cond b [] held) at
left_staged true held at = refl
left_staged false held at = refl

-- one of two messages
one_of : (n : Ballot) (k : ℕ) (b : Bool) → IsSmall n
    → (view_body (cond b body.PrepareReq (body.Accepted n k)) ≡ Some (cond b pure.PrepareReq (pure.Accepted (rank n) k))) × BodyIsSmall (cond b body.PrepareReq (body.Accepted n k))
one_of n k true sn = (refl, tt)
one_of n k false sn = (refl, sn)

module _ (front : List Entry) (me : ℕ) (p : Part) (v : Volatile) (fits : Fits front p) (small : PartIsSmall p) (small_role : RoleIsSmall v.role) where
  abbrev at : Held → pure.Node
  at held = view front p v.role held

  -- what the log has by then leaves the stage
  unstaged_matches : (held : Held) (e : Effects) (o : pure.Effect) → Matches front me p held e o → StepMatches front me p v (unstaged p v held e) (pure.unstaged o)
  unstaged_matches held e o m =
      let q : Part = part_after p e.batch in
      let len : len_of q ≡ length (whole_log front q) = omega (arith, fits.size, (keeps_all p e.batch m.plain).trimmed, length-append front q.tail.items) in
      record {
        held = staged_from held (len_of q);
        staged = refl;
        pieces = refl;
        matches = inl (record {
          node = ap (view front q e.role) (left_staged (raises_promise e.batch) held (len_of q))
              ∙ ap (λ (n : ℕ). view front q e.role (staged_from (staged_after e.batch held) n)) len ∙ ap (λ (nd : pure.Node). record nd { staged = staged_from nd.staged (length nd.log) }) m.node;
          plain = m.plain;
          sends = m.sends;
          part = m.part;
          role = m.role;
        });
      }

  -- ---- the first sync of a round
  once_matches : (q : ℕ) (n : Ballot) (start : ℕ) (held : Held) (o : Option (List Entry)) → IsSmall n → StepMatches front me p v (synced_once p v q n start held o) (pure.synced_once me (at held) q (rank n) start o)
  unfolding pure_synced_once
  once_matches q n start held None sn =
      record { held = held; staged = refl; pieces = refl; matches = inl (match_nothing front me p held v.role small small_role) }
  once_matches q n start held (Some es) sn =
      unstaged_matches held (sync_entries p v.role q n start es) (pure.synced_to me (at held) q (rank n) start es) (sync_matches front me p held v.role fits small small_role q n start es sn)

  idle_matches : StepMatches front me p v (Rattle.op_protocol.specs.State.with_effects v (nothing v.role)) (pure.silent (at v.staged))
  idle_matches = row_matches front me p v (nothing v.role) (pure.silent (at v.staged)) (inl (match_nothing front me p v.staged v.role small small_role))

  first_matches : (q : ℕ) (n : Ballot) (part : SyncRun) → IsSmall n → StepMatches front me p v (on_first_part p v q n part) (pure.on_first_part me (at v.staged) q (rank n) (view_sync_run part))
  unfolding pure_first_part
  first_matches q n part sn =
      let within : Bool = leb part.start part.at && is_run_to part.end part.at part.run in
      step_if front me p v ((leb p.decided part.start && leb part.start (len_of p)) && within) ((leb p.decided part.start && leb part.start (length (whole_log front p))) && within) _ _ _ _
      (ap (λ (k : ℕ). (leb p.decided part.start && leb part.start k) && within) (len_of-whole front p fits))
      (λ _. let held : Held = held_with v.staged part.at part.run in once_matches q n part.start held (held_run held part.start (part.end - part.start)) sn)
      (λ _. idle_matches)

  -- ---- a later one
  front_matches : (q : ℕ) (n : Ballot) (place : ℕ) (held : Held) (es : List Entry) → IsSmall n
      → Matches front me p held (accept_front p v.role q n place es)
      (record {
        node = record (at held) { log = whole_log front p ++ es };
        sends = pure.packet me q (cond (ltb (length (whole_log front p ++ es)) place) pure.PrepareReq (pure.Accepted (rank n) (length (whole_log front p ++ es)))) ∷ [];
      })
  front_matches q n place held es sn =
      let log : List Entry = whole_log front p ++ es in
      let left : part_after p (appending es) ≡ part_with_log p (p.tail.items ++ es) = after_appending p es in
      let same : front ++ (p.tail.items ++ es) ≡ log = sym (append_assoc front p.tail.items es) in
      let len : len_of (part_after p (appending es)) ≡ length log =
      ap len_of left ∙ len_of-whole front (part_with_log p (p.tail.items ++ es)) (record { size = fits.size; low = fits.low }) ∙ ap (λ (l : List Entry). length l) same in
      let k : ℕ = len_of (part_after p (appending es)) in
      let told = one_of n k (ltb k place) sn in
      match_first front me p held (appending es) (message p.conf q (cond (ltb k place) body.PrepareReq (body.Accepted n k)) ∷ []) [] (nothing v.role) (pure.packet me q (cond (ltb (length log) place) pure.PrepareReq (pure.Accepted (rank n) (length log))) ∷ []) (pure.silent (record (at held) { log = log }))
      (said_one me p.conf q (cond (ltb k place) body.PrepareReq (body.Accepted n k)) _
      (told.0 ∙ ap (λ (m : ℕ). Some (cond (ltb m place) pure.PrepareReq (pure.Accepted (rank n) m))) len) told.1)
      (plain_appending es)
      (record {
        node = ap (λ (o : Part). view front o v.role (staged_after (appending es) held)) left ∙ ap (view front (part_with_log p (p.tail.items ++ es)) v.role) (keeps_staged (appending es) held (steady_appending es))
            ∙ ap (λ (l : List Entry). record (at held) { log = l }) same;
        plain = tt;
        sends = says_none;
        part = subst PartIsSmall (sym left) small;
        role = small_role;
      })

  appended_matches : (q : ℕ) (n : Ballot) (place : ℕ) (held : Held) → IsSmall n → StepMatches front me p v (appended_staged p v q n place held) (pure.appended_staged me (at v.staged) q (rank n) place held)
  unfolding pure_appended_staged
  appended_matches q n place held sn =
      let es : List Entry = front_from held (len_of p) in
      subst (λ (k : ℕ). StepMatches front me p v (appended_staged p v q n place held)
      (pure.unstaged (record {
        node = record (at held) { log = whole_log front p ++ front_from held k };
        sends = pure.packet me q (cond (ltb (length (whole_log front p ++ front_from held k)) place) pure.PrepareReq (pure.Accepted (rank n) (length (whole_log front p ++ front_from held k)))) ∷ [];
      }))) (len_of-whole front p fits)
      (unstaged_matches held (accept_front p v.role q n place es) _ (front_matches q n place held es sn))

  later_matches : (q : ℕ) (n : Ballot) (part : SyncRun) → IsSmall n → StepMatches front me p v (on_later_part p v q n part) (pure.on_later_part me (at v.staged) q (rank n) (view_sync_run part))
  unfolding pure_later_part
  later_matches q n part sn =
      let within : Bool = is_run_to part.end part.at part.run in
      step_if front me p v (is_same_ballot p.promised n && (is_same_ballot p.accepted n && within)) (eqb (rank p.promised) (rank n) && (eqb (rank p.accepted) (rank n) && within)) _ _ _ _
      (rw (is_same-rank p.promised n small.0 sn, is_same-rank p.accepted n small.1 sn) refl)
      (λ _. appended_matches q n part.at (held_with v.staged part.at part.run) sn)
      (λ _. idle_matches)

  -- a part of an AcceptSync
  pub sync_part_matches : (q : ℕ) (n : Ballot) (part : SyncRun) → IsSmall n → StepMatches front me p v (on_accept_sync_part p v q n part) (pure.on_accept_sync_part me (at v.staged) q (rank n) (view_sync_run part))
  unfolding pure_sync_part
  sync_part_matches q n part sn =
      step_if front me p v (is_same_ballot p.promised n && is_below p.accepted n) (eqb (rank p.promised) (rank n) && ltb (rank p.accepted) (rank n)) _ _ _ _
      (rw (is_same-rank p.promised n small.0 sn, is_below-rank p.accepted n small.1 sn) refl)
      (λ _. first_matches q n part sn) (λ _. later_matches q n part sn)
