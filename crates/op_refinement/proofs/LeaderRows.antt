-- The rows of a node that prepares or leads are matched.
use Rattle.std.proofs.Common.{◌≡◌, ◌≤◌, append_assoc, ℕ, ◌+◌, Bool, true, false, not, cond, ◌&&◌, eqb, ltb, leb, is_some, nat_eq, List, [], ◌∷◌, ◌++◌, length, drop, flat_map, Option, Some, None, refl, sym, ap, ◌∙◌, subst, arith, length-append}
use Rattle.std.proofs.Math.Path.{fun_ext}
use Rattle.std.proofs.lemmas.Bool.{cond_both, eqb-true, eq-eqb, and_from, le-ltb, leb-true, ltb-false}
use Rattle.std.specs.Set.{is_member}
use Rattle.op_types.specs.Ballots.{is_below, is_same_ballot}
use Rattle.op_types.specs.Changes.{len_of, part_with}
use Rattle.op_types.specs.Effects.{Effects}
use Rattle.op_types.specs.Limits.{positions_end}
use Rattle.op_types.specs.Joinings.{Held}
use Rattle.op_types.specs.declared.runs.PromisedRun.{PromisedRun}
use Rattle.op_protocol.specs.State.{staged_after}
use Rattle.op_types.specs.RoleStates.{Preparing, Leading, promise_of, without_stage, staged_with, promised_entries, told_by, with_promise, with_buffered, acknowledged_of, with_acknowledged, with_synced, without_synced}
use Rattle.op_types.specs.Roles as role
use Rattle.op_types.specs.Roles.{Role}
use Rattle.op_types.specs.declared.answers.Cause.TheVariants as cause
use Rattle.op_types.specs.declared.ballot.Ballot.{Ballot}
use Rattle.op_types.specs.declared.changes.Change.{Change}
use Rattle.op_types.specs.declared.changes.Change.TheVariants as change
use Rattle.op_types.specs.declared.durable.Part.{Part}
use Rattle.op_types.specs.declared.log.Entry.{Entry}
use Rattle.op_types.specs.declared.messages.Body.TheVariants as body
use Rattle.op_types.specs.declared.messages.Msg.{Msg}
use Rattle.op_types.specs.declared.role.Acknowledged.{Acknowledged}
use Rattle.op_types.specs.declared.role.Buffered.{Buffered}
use Rattle.op_types.specs.declared.role.Promised.{Promised}
use Rattle.op_spec.specs.Machine.{with_at}
use Rattle.op_protocol.specs.Parts.{log_from, pending, part_after, part_in_round, cutting, appending, message, messages, sync_run, sync_bodies, is_run_to, others, to_each, prepare_body, saying, first}
use Rattle.op_protocol.specs.Promises.{has_quorum, is_usable, Choice, own_choice, best, chosen_log, chosen_stop, chosen_len, choice_changes, fitting, left_over}
use Rattle.op_protocol.specs.Leader.{counted, synced_others, decides, count, sync_start, is_synced, sync_sends, is_synced_by, sends_by, first_leading, leading_with, begin_leading, adopt_choice, adopt, prepares, given_up_by, first_preparing, lead, on_promise, promised_once, on_promise_part, decided_again, on_accepted, on_prepare_req, extends, waiting_as, forward_body, propose, session_down}
use Rattle.op_paxos.proofs.Tidy.{Tidy}
use Rattle.op_paxos.specs.Logs.{has_stop}
use Rattle.op_paxos.specs.Nodes.{owner}
use Rattle.op_paxos.specs.Leader.{majority_length as pure_counted, recount as pure_count, adopted_node, new_leading, adopt_with as pure_adopt_with, adopt as pure_adopt, prepared as pure_prepared, on_elected as pure_lead, on_promise_in as pure_promise_in, promised_once as pure_promised_once, on_promise_part_in as pure_promise_part_in, on_accepted_in as pure_accepted_in, extended as pure_extended, on_propose_in as pure_propose_in, on_prepare_req_in as pure_prepare_req_in}
use Rattle.op_refinement.proofs.Pure as pure
use Rattle.op_refinement.proofs.View.{Each, IsSmall, rank, is_below-rank, is_same-rank, owner-rank, whole_log, view, view_role, Fits, view_promise, view_promised_run, view_kept, view_preparing, view_leading, view_body, BodyIsSmall, entries_of, PartIsSmall, RoleIsSmall, SaysBy, says_none, said_one, said_both, said_parts, said_broadcast, said_others}
use Rattle.op_refinement.proofs.Logs.{len_of-whole, log_from-whole, IsOpen, pending-whole, tidy_prefix, plain-append, plain_cutting, plain_appending}
use Rattle.op_refinement.proofs.Lookups.{backed-view, staged-with, staged-without, kept-with, Each-with, Each-promise, IfKept, acked-with, is_member-push, is_member-at, is_member-filtered}
use Rattle.op_refinement.proofs.Choices.{AcceptedIsSmall, ChoiceOk, view_choice, has_quorum-view, is_usable-view, best-view, chosen_more-view, after_adopting}
use Rattle.op_refinement.proofs.Matching.{Matches, Steady, steady-append, steady_cutting, steady_appending, keeps_staged, match_if, match_saying, match_nothing, match_first, match_answered}

-- ballots of a leader are in range
abbrev pub LeadingIsSmall : Leading → Type 0
LeadingIsSmall l = IsSmall l.ballot × IsSmall l.adopted_round

-- both lists go by one test
said_if : {conf : ℕ} (me : ℕ) (b c : Bool) (xs ys : List (ℕ × Msg)) (ps qs : List pure.Packet) → b ≡ c → SaysBy me conf ps xs → SaysBy me conf qs ys → SaysBy me conf (cond c ps qs) (cond b xs ys)
said_if {conf} me true c xs ys ps qs h x y = subst (λ (t : Bool). SaysBy me conf (cond t ps qs) xs) h x
said_if {conf} me false c xs ys ps qs h x y = subst (λ (t : Bool). SaysBy me conf (cond t ps qs) ys) h y

-- ---- counting
module _ (front : List Entry) (me : ℕ) (p : Part) (held : Held) (len : ℕ) (is_len : len ≡ length (whole_log front p)) (small : PartIsSmall p) where
  counted-view : (l : Leading) (r : Role) → counted me p.members len l.acknowledged ≡ pure.majority_length p.members me (view front p r held) (view_leading l)
  unfolding pure_counted
  counted-view l r =
      backed-view (λ q. cond (eqb q me) len (acknowledged_of l.acknowledged q)) p.members len
      ∙ ap (λ (n : ℕ). pure.backed p.members (λ q. cond (eqb q me) n (acknowledged_of l.acknowledged q)) n) is_len

  -- what a majority has is counted, after these messages
  pub count_matches : (l : Leading) (r : Role) (sends otherwise : List (ℕ × Msg)) (packets other : List pure.Packet) → LeadingIsSmall l → SaysBy me p.conf packets sends → SaysBy me p.conf other otherwise
      → Matches front me p held (first [] sends [] (count me p len l otherwise)) (pure.recount p.members me (view front p r held) (view_leading l) packets other)
  unfolding pure_count
  count_matches l r sends otherwise packets other sl said said_other =
      let x : ℕ = counted me p.members len l.acknowledged in
      let out : ℕ → pure.Effect = λ k. cond (ltb p.decided k)
      (record { node = record (view front p (role.Leading l) held) { decided = k }; sends = packets ++ pure.broadcast me (λ q. is_member nat_eq l.synced q) (pure.Decide (rank l.ballot) k) p.members })
      (record { node = view front p (role.Leading l) held; sends = packets ++ other }) in
      subst (λ (k : ℕ). Matches front me p held (first [] sends [] (count me p len l otherwise)) (out k)) (counted-view l r)
      (cond_both (ltb p.decided x) (decides me p l x) (saying (role.Leading l) otherwise) (λ (e : Effects). Matches front me p held (first [] sends [] e) (out x))
      (λ more. rw more (record {
        node = refl;
        plain = (tt, tt);
        sends = said_both me packets _ sends (to_each p.conf (synced_others me p.members l) (body.Decide l.ballot x)) said (said_broadcast me p.conf (λ q. is_member nat_eq l.synced q) (body.Decide l.ballot x) (pure.Decide (rank l.ballot) x) refl sl.0 p.members);
        part = small;
        role = sl;
      }))
      (λ more. rw more (record { node = refl; plain = tt; sends = said_both me packets other sends otherwise said said_other; part = small; role = sl })))

-- counting leaves the log as it is
recounted_log : (members : List ℕ) (me : ℕ) (node : pure.Node) (l : pure.LeadingState) (sends other : List pure.Packet) → ((pure.recount members me node l sends other).node).log ≡ node.log
unfolding pure_count
recounted_log members me node l sends other =
    cond_both (ltb node.decided (pure.majority_length members me node l)) _ _ (λ (o : pure.Effect). (o.node).log ≡ node.log) (λ _. refl) (λ _. refl)

-- ---- syncing

-- a promise that was looked up is of that sender
abbrev pub IsFrom : ℕ → Option Promised → Type 0
IsFrom q None = Unit {0}
IsFrom q (Some k) = k.from ≡ q

promise_of-from : (ks : List Promised) (q : ℕ) → IsFrom q (promise_of ks q)
promise_of-from [] q = tt
promise_of-from (k ∷ ks) q = cond_both (eqb k.from q) (Some k) (promise_of ks q) (λ (o : Option Promised). IsFrom q o) (λ h. eqb-true k.from q h) (λ h. promise_of-from ks q)

module _ (front : List Entry) (me : ℕ) (p : Part) (held : Held) (r : Role) (fits : Fits front p) (small : PartIsSmall p) (l : Leading) (sl : LeadingIsSmall l) where
  sync_start-view : (k : Promised) → IsSmall k.accepted → sync_start l k ≡ pure.sync_at (view_leading l) (view_promise k)
  sync_start-view k sk = rw (is_same-rank k.accepted l.ballot sk sl.0, is_same-rank k.accepted l.adopted_round sk sl.1) refl

  -- who is synced by a promise
  pub is_synced-view : (o : Option Promised) → IfKept AcceptedIsSmall o → is_synced_by p l o ≡ pure.is_synced (view front p r held) (view_leading l) (view_kept o)
  is_synced-view None so = refl
  is_synced-view (Some k) so = rw (sync_start-view k so, len_of-whole front p fits) refl

  -- what is sent on a promise
  pub sync_said : (q : ℕ) (o : Option Promised) → IfKept AcceptedIsSmall o → IsFrom q o → SaysBy me p.conf (pure.sync_sends me (view front p r held) (view_leading l) q (view_kept o)) (sends_by p l o)
  sync_said q None so from = says_none
  sync_said q (Some k) so from =
      let e : sync_start l k ≡ pure.sync_at (view_leading l) (view_promise k) = sync_start-view k so in
      let a : ℕ = sync_start l k in
      let b : ℕ = pure.sync_at (view_leading l) (view_promise k) in
      subst (λ (x : ℕ). SaysBy me p.conf (pure.sync_sends me (view front p r held) (view_leading l) x (Some (view_promise k))) (sync_sends p l k)) from
      (cond_both (ltb a p.trimmed) (message p.conf k.from (prepare_body p l.ballot) ∷ []) (cond (leb a (len_of p)) (messages p.conf k.from (sync_bodies l.ballot a (log_from p a))) [])
      (λ (xs : List (ℕ × Msg)). SaysBy me p.conf (pure.sync_sends me (view front p r held) (view_leading l) k.from (Some (view_promise k))) xs)
      (λ low. let t : ltb b p.trimmed ≡ true = sym (ap (λ (x : ℕ). ltb x p.trimmed) e) ∙ low in
      rw t (said_one me p.conf k.from (prepare_body p l.ballot) _ (λ i. Some (pure.Prepare (rank l.ballot) (rank p.accepted) (len_of-whole front p fits i) p.decided)) (sl.0, small.1)))
      (λ low. let t : ltb b p.trimmed ≡ false = sym (ap (λ (x : ℕ). ltb x p.trimmed) e) ∙ low in
      rw t (said_if me (leb a (len_of p)) (leb b (length (whole_log front p))) _ _ _ _ (ap (λ (x : ℕ). leb x (len_of p)) e ∙ ap (λ (x : ℕ). leb b x) (len_of-whole front p fits))
      (log_said k.from a b e (ltb-false a p.trimmed low)) says_none)))
    where
      -- what brings the log from there on
      log_said : (q a b : ℕ) → a ≡ b → p.trimmed ≤ a → SaysBy me p.conf (pure.packets me q (pure.sync_messages (rank l.ballot) b (drop b (whole_log front p)))) (messages p.conf q (sync_bodies l.ballot a (log_from p a)))
      log_said q a b e kept =
          let rest : log_from p a ≡ drop b (whole_log front p) = log_from-whole front p a fits kept ∙ ap (λ (x : ℕ). drop x (whole_log front p)) e in
          subst (λ (xs : List pure.Msg). SaysBy me p.conf (pure.packets me q xs) (messages p.conf q (sync_bodies l.ballot a (log_from p a)))) (λ i. pure.sync_messages (rank l.ballot) (e i) (rest i))
          (said_parts me p.conf q (body.AcceptSync l.ballot a (log_from p a)) (λ at run. body.AcceptSyncPart l.ballot (sync_run a (log_from p a) at run)) (pure.AcceptSync (rank l.ballot) a (log_from p a))
          (λ at run. pure.AcceptSyncPart (rank l.ballot) (pure.sync_run a (log_from p a) at run)) refl sl.0 (λ at run. (refl, sl.0)) a (log_from p a))

  -- and on all of them
  pub syncs_said : (ks : List Promised) → Each AcceptedIsSmall ks → (qs : List ℕ) → SaysBy me p.conf (pure.all_sends me (view front p r held) (view_leading l) (λ q. view_kept (promise_of ks q)) qs) (flat_map (λ q. sends_by p l (promise_of ks q)) qs)
  syncs_said ks each [] = says_none
  syncs_said ks each (q ∷ qs) = said_both me _ _ _ _ (sync_said q (promise_of ks q) (Each-promise AcceptedIsSmall ks each q) (promise_of-from ks q)) (syncs_said ks each qs)

-- ---- adopting

-- what adopts a log in which nothing stands after a stop-sign has adopted such a one
adopted_tidy : (members : List ℕ) (me : ℕ) (node : pure.Node) (r : pure.PreparingState) (c : pure.CandidateLog) → Tidy ((pure.adopt_with members me node r c).node).log → Tidy c.log
unfolding pure_adopt_with adopted_node
adopted_tidy members me node r c t =
    tidy_prefix c.log (pure.fitting c.log r.buffer) (subst Tidy (recounted_log members me (pure.adopted_node node r c) _ _ _) t)

-- where the test holds, it is the first of both
tidy_if : (b : Bool) (o u : pure.Effect) → b ≡ true → Tidy ((cond b o u).node).log → Tidy (o.node).log
tidy_if b o u h t = subst (λ (c : Bool). Tidy ((cond c o u).node).log) h t

-- the leader's first state, from the part with the log that it adopted
leading-view : (front : List Entry) (me : ℕ) (q : Part) (held : Held) (l : Leading) (ks : List Promised) → Fits front q → PartIsSmall q → LeadingIsSmall l → Each AcceptedIsSmall ks
    → view_leading (leading_with q l ks) ≡ record (view_leading l) { synced = λ s. is_member nat_eq q.members s && pure.is_synced (view front q role.Idle held) (view_leading l) (view_kept (promise_of ks s)) }
leading-view front me q held l ks f s sl each =
    ap (λ (g : ℕ → Bool). record (view_leading l) { synced = g })
    (fun_ext (λ x. is_member-filtered (λ y. is_synced_by q l (promise_of ks y)) q.members x ∙ ap (λ (b : Bool). is_member nat_eq q.members x && b) (is_synced-view front me q held role.Idle f s l sl (promise_of ks x) (Each-promise AcceptedIsSmall ks each x))))

-- how the pure machine begins to lead, at a part and with a choice
abbrev begun : List Entry → ℕ → Part → Held → Choice → Preparing → pure.Effect
begun front me q held c r =
    let l = view_leading (first_leading r.ballot c) in
    let kept : ℕ → Option pure.Promised = λ s. view_kept (promise_of r.promises s) in
    pure.recount q.members me (view front q role.Idle held) (record l { synced = λ s. is_member nat_eq q.members s && pure.is_synced (view front q role.Idle held) l (kept s) }) (pure.all_sends me (view front q role.Idle held) l kept q.members) []

begin_matches : (front : List Entry) (me : ℕ) (q : Part) (held : Held) (c : Choice) (r : Preparing) → Fits front q → PartIsSmall q → IsSmall c.accepted → IsSmall r.ballot → Each AcceptedIsSmall r.promises
    → Matches front me q held (begin_leading me q (first_leading r.ballot c) r.promises) (begun front me q held c r)
begin_matches front me q held c r f s sc sr each =
    let l : Leading = first_leading r.ballot c in
    let kept : ℕ → Option pure.Promised = λ t. view_kept (promise_of r.promises t) in
    let said : List pure.Packet = pure.all_sends me (view front q role.Idle held) (view_leading l) kept q.members in
    subst (λ (x : pure.LeadingState). Matches front me q held (begin_leading me q l r.promises) (pure.recount q.members me (view front q role.Idle held) x said []))
    (leading-view front me q held l r.promises f s (sr, sc) each)
    (count_matches front me q held (len_of q) (len_of-whole front q f) s (leading_with q l r.promises) role.Idle (flat_map (λ t. sends_by q l (promise_of r.promises t)) q.members) [] said []
    (sr, sc) (syncs_said front me q held role.Idle f s l (sr, sc) r.promises each q.members) says_none)

module _ (front : List Entry) (me : ℕ) (p : Part) (held : Held) (fits : Fits front p) (unended : IsOpen front) (small : PartIsSmall p) where
  adopt_choice_matches : (ρ : Role) (c : Choice) (r : Preparing) → ChoiceOk front p ρ held fits small c → IsSmall r.ballot → Each AcceptedIsSmall r.promises → Tidy (view_choice front p c).log
      → Matches front me p held (adopt_choice me p r c) (pure.adopt_with p.members me (view front p ρ held) (view_preparing r) (view_choice front p c))
  unfolding pure_adopt_with adopted_node new_leading
  adopt_choice_matches ρ c r sc sr each t =
      let more : List Entry = fitting (chosen_stop p c) (chosen_len p c) r.buffer in
      let batch : List Change = choice_changes p c ++ appending more ++ change.Accept r.ballot ∷ [] in
      let log : List Entry = (view_choice front p c).log ++ pure.fitting (view_choice front p c).log (entries_of r.buffer) in
      let q : Part = part_in_round p r.ballot (chosen_log p c ++ more) in
      let begins : Effects = begin_leading me q (first_leading r.ballot c) r.promises in
      let same : front ++ (chosen_log p c ++ more) ≡ log = chosen_more-view front p ρ held fits small c r.buffer sc.kept unended t in
      let m : Matches front me q held begins (begun front me q held c r) = begin_matches front me q held c r (record { size = fits.size; low = fits.low }) (small.0, sr) sc.ballot sr each in
      let made : part_after p batch ≡ q = after_adopting p c more r.ballot in
      let steady : Steady batch =
      steady-append (choice_changes p c ++ appending more) (change.Accept r.ballot ∷ []) (steady-append (choice_changes p c) (appending more) (steady-append (cutting p c.start) (appending c.entries) (steady_cutting p c.start) (steady_appending c.entries)) (steady_appending more)) refl in
      match_first front me p held batch [] (left_over (chosen_stop p c) (chosen_len p c) r.buffer) begins [] (as_log ρ r c log) says_none
      (plain-append (choice_changes p c ++ appending more) (change.Accept r.ballot ∷ []) (plain-append (choice_changes p c) (appending more) (plain-append (cutting p c.start) (appending c.entries) (plain_cutting p c.start) (plain_appending c.entries)) (plain_appending more)) (tt, tt))
      (subst (λ (x : Part). Matches front me x (staged_after batch held) begins (as_log ρ r c log)) (sym made)
      (subst (λ (s : Held). Matches front me q s begins (as_log ρ r c log)) (sym (keeps_staged batch held steady))
      (subst (λ (xs : List Entry). Matches front me q held begins (as_log ρ r c xs)) same m)))
    where
      -- how the pure machine begins to lead with this log
      as_log : Role → Preparing → Choice → List Entry → pure.Effect
      as_log ρ r c log =
          let node : pure.Node = record { promised = rank p.promised; accepted = rank r.ballot; log = log; decided = p.decided; trimmed = p.trimmed; staged = held; role = pure.Idle } in
          let l = view_leading (first_leading r.ballot c) in
          let kept : ℕ → Option pure.Promised = λ s. view_kept (promise_of r.promises s) in
          pure.recount p.members me node (record l { synced = λ s. is_member nat_eq p.members s && pure.is_synced node l (kept s) }) (pure.all_sends me node l kept p.members) []

  adopt_matches : (ρ : Role) (r : Preparing) → IsSmall r.ballot → Each AcceptedIsSmall r.promises → Tidy ((pure.adopt p.members me (view front p ρ held) (view_preparing r)).node).log
      → Matches front me p held (adopt me p r) (pure.adopt p.members me (view front p ρ held) (view_preparing r))
  unfolding pure_adopt
  adopt_matches ρ r sr each t =
      let b = best-view front p ρ held fits small r.promises each p.members in
      let c : Choice = best p r.promises p.members (own_choice p) in
      let tidy : Tidy (view_choice front p c).log = subst (λ (d : pure.CandidateLog). Tidy d.log) (sym b.0) (adopted_tidy p.members me (view front p ρ held) (view_preparing r) _ t) in
      subst (λ (d : pure.CandidateLog). Matches front me p held (adopt me p r) (pure.adopt_with p.members me (view front p ρ held) (view_preparing r) d)) b.0
      (adopt_choice_matches ρ c r b.1 sr each tidy)

  -- ---- preparing
  pub prepares_matches : (ρ : Role) (r : Preparing) → IsSmall r.ballot → Each AcceptedIsSmall r.promises → Tidy ((pure.prepared p.members me (view front p ρ held) (view_preparing r)).node).log
      → Matches front me p held (prepares me p r) (pure.prepared p.members me (view front p ρ held) (view_preparing r))
  unfolding pure_prepared
  prepares_matches ρ r sr each t =
      let e : has_quorum me p.members r.promises ≡ pure.has_quorum p.members me (view_preparing r) = has_quorum-view me p.members r in
      match_if front me p held (has_quorum me p.members r.promises) (pure.has_quorum p.members me (view_preparing r)) _ _ _ _ e
      (λ h. adopt_matches ρ r sr each (tidy_if (pure.has_quorum p.members me (view_preparing r)) _ _ (sym e ∙ h) t))
      (λ _. record { node = refl; plain = tt; sends = says_none; part = small; role = (sr, each) })

-- ---- the rows
module _ (front : List Entry) (me : ℕ) (p : Part) (held : Held) (fits : Fits front p) (unended : IsOpen front) (small : PartIsSmall p) where
  -- a ballot that is led
  pub lead_matches : (ρ : Role) (n : Ballot) → IsSmall n → n.pid ≡ me → is_below p.promised n ≡ true → Tidy ((pure.on_elected p.members me (view front p ρ held) (rank n)).node).log
      → Matches front me p held (lead me p ρ n) (pure.on_elected p.members me (view front p ρ held) (rank n))
  unfolding pure_lead
  lead_matches ρ n sn own above t =
      let test : (ltb (rank p.promised) (rank n) && eqb (owner (rank n)) me) ≡ true = and_from _ _ (sym (is_below-rank p.promised n small.0 sn) ∙ above) (eq-eqb _ _ (owner-rank n sn ∙ own)) in
      let r : Preparing = first_preparing n in
      let q : Part = part_with p (change.Promise n) in
      let tidy : Tidy ((pure.prepared p.members me (view front q role.Idle []) (view_preparing r)).node).log = tidy_if (ltb (rank p.promised) (rank n) && eqb (owner (rank n)) me) _ _ test t in
      rw test (match_first front me p held (change.Promise n ∷ []) (to_each p.conf (others me p.members) (prepare_body p n)) (given_up_by ρ (cause.Ballot n)) (prepares me q r) _ _
      (said_others me p.conf p.members (prepare_body p n) _ (λ i. Some (pure.Prepare (rank n) (rank p.accepted) (len_of-whole front p fits i) p.decided)) (sn, small.1)) (tt, tt)
      (prepares_matches front me q [] (record { size = fits.size; low = fits.low }) unended (sn, small.1) role.Idle r sn tt tidy))

  -- ---- promises
  synced_more : (l : Leading) (q : ℕ) → view_leading (with_synced l q) ≡ record (view_leading l) { synced = with_at q true (λ r. is_member nat_eq l.synced r) }
  synced_more l q =
      cond_both (is_member nat_eq l.synced q) l (record l { synced = l.synced ++ q ∷ [] }) (λ (x : Leading). view_leading x ≡ record (view_leading l) { synced = with_at q true (λ r. is_member nat_eq l.synced r) })
      (λ h. ap (λ (f : ℕ → Bool). record (view_leading l) { synced = f }) (fun_ext (λ r. is_member-at l.synced q r h)))
      (λ h. ap (λ (f : ℕ → Bool). record (view_leading l) { synced = f }) (fun_ext (λ r. is_member-push l.synced q r)))

  synced_if : (l : Leading) (q : ℕ) (b c : Bool) → b ≡ c → view_leading (cond b (with_synced l q) l) ≡ record (view_leading l) { synced = cond c (with_at q true (λ r. is_member nat_eq l.synced r)) (λ r. is_member nat_eq l.synced r) }
  synced_if l q true c e = subst (λ (t : Bool). view_leading (with_synced l q) ≡ record (view_leading l) { synced = cond t (with_at q true (λ r. is_member nat_eq l.synced r)) (λ r. is_member nat_eq l.synced r) }) e (synced_more l q)
  synced_if l q false c e = subst (λ (t : Bool). view_leading l ≡ record (view_leading l) { synced = cond t (with_at q true (λ r. is_member nat_eq l.synced r)) (λ r. is_member nat_eq l.synced r) }) e refl

  synced_small : (l : Leading) (q : ℕ) (b : Bool) → LeadingIsSmall l → LeadingIsSmall (cond b (with_synced l q) l)
  synced_small l q true s = cond_both (is_member nat_eq l.synced q) l (record l { synced = l.synced ++ q ∷ [] }) LeadingIsSmall (λ _. s) (λ _. s)
  synced_small l q false s = s

  -- a Promise
  pub promise_matches : (ρ : Role) (n : Ballot) (k : Promised) → RoleIsSmall ρ → IsSmall n → IsSmall k.accepted
      → Tidy ((pure.on_promise_in p.members me (view front p ρ held) (view_role ρ) k.from (rank n) (view_promise k)).node).log
      → Matches front me p held (on_promise me p ρ n k) (pure.on_promise_in p.members me (view front p ρ held) (view_role ρ) k.from (rank n) (view_promise k))
  unfolding pure_promise_in
  promise_matches role.Idle n k sr sn sk t = match_nothing front me p held role.Idle small sr
  promise_matches (role.Preparing r) n k sr sn sk t =
      let node : pure.Node = view front p (role.Preparing r) held in
      let e : (is_same_ballot n r.ballot && is_usable p k) ≡ (eqb (rank n) (rank r.ballot) && pure.is_usable node (view_promise k)) =
      ap (λ (b : Bool). b && is_usable p k) (is_same-rank n r.ballot sn sr.0) ∙ ap (λ (b : Bool). eqb (rank n) (rank r.ballot) && b) (is_usable-view front p (role.Preparing r) held fits small k sk) in
      let as_kept : (ℕ → Option pure.Promised) → pure.Effect = λ f. pure.prepared p.members me node (record (view_preparing r) { kept = f }) in
      match_if front me p held (is_same_ballot n r.ballot && is_usable p k) (eqb (rank n) (rank r.ballot) && pure.is_usable node (view_promise k)) _ _ _ _ e
      (λ h. subst (λ (f : ℕ → Option pure.Promised). Matches front me p held (prepares me p (with_promise r k)) (as_kept f)) (kept-with r.promises k)
      (prepares_matches front me p held fits unended small (role.Preparing r) (with_promise r k) sr.0 (Each-with AcceptedIsSmall r.promises k sr.1 sk)
      (subst (λ (f : ℕ → Option pure.Promised). Tidy ((as_kept f).node).log) (sym (kept-with r.promises k))
      (tidy_if (eqb (rank n) (rank r.ballot) && pure.is_usable node (view_promise k)) _ _ (sym e ∙ h) t))))
      (λ _. match_nothing front me p held (role.Preparing r) small sr)
  promise_matches (role.Leading l) n k sr sn sk t =
      let node : pure.Node = view front p (role.Leading l) held in
      match_if front me p held (is_same_ballot n l.ballot) (eqb (rank n) (rank l.ballot)) _ _ _ _ (is_same-rank n l.ballot sn sr.0)
      (λ _. record {
        node = ap (λ (x : pure.LeadingState). record node { role = pure.Leading x }) (synced_if l k.from (is_synced p l k) (pure.is_synced node (view_leading l) (Some (view_promise k))) (is_synced-view front me p held (role.Leading l) fits small l sr (Some k) sk));
        plain = tt;
        sends = sync_said front me p held (role.Leading l) fits small l sr k.from (Some k) sk refl;
        part = small;
        role = synced_small l k.from (is_synced p l k) sr;
      })
      (λ _. match_nothing front me p held (role.Leading l) small sr)

  -- a promise counts once all of it has come
  once_matches : (r : Preparing) (q : ℕ) (part : PromisedRun) (staged : Held) (o : Option (List Entry)) → RoleIsSmall (role.Preparing r) → IsSmall part.accepted
      → Tidy ((pure.promised_once p.members me (view front p (role.Preparing r) held) (view_preparing r) q (view_promised_run part) staged o).node).log
      → Matches front me p held (promised_once me p r q part staged o) (pure.promised_once p.members me (view front p (role.Preparing r) held) (view_preparing r) q (view_promised_run part) staged o)
  unfolding pure_promised_once
  once_matches r q part staged None sr sp t =
      record { node = ap (λ (f : ℕ → Held). record (view front p (role.Preparing r) held) { role = pure.Preparing (record (view_preparing r) { parts = f }) }) (staged-with r.stages q staged); plain = tt; sends = says_none; part = small; role = sr }
  once_matches r q part staged (Some entries) sr sp t =
      let whole : (ℕ → Held) → pure.Effect = λ f. pure.on_promise_in p.members me (record (view front p (role.Preparing r) held) { role = pure.Preparing (record (view_preparing r) { parts = f }) })
      (pure.Preparing (record (view_preparing r) { parts = f })) q (rank r.ballot) (pure.told_by (view_promised_run part) entries) in
      subst (λ (f : ℕ → Held). Matches front me p held (on_promise me p (role.Preparing (without_stage r q)) r.ballot (told_by q part entries)) (whole f)) (staged-without r.stages q)
      (promise_matches (role.Preparing (without_stage r q)) r.ballot (told_by q part entries) sr sr.0 sp
      (subst (λ (f : ℕ → Held). Tidy ((whole f).node).log) (sym (staged-without r.stages q)) t))

  -- a part of a Promise
  pub promise_part_matches : (ρ : Role) (q : ℕ) (n : Ballot) (part : PromisedRun) → RoleIsSmall ρ → IsSmall n → IsSmall part.accepted
      → Tidy ((pure.on_promise_part_in p.members me (view front p ρ held) (view_role ρ) q (rank n) (view_promised_run part)).node).log
      → Matches front me p held (on_promise_part me p ρ q n part) (pure.on_promise_part_in p.members me (view front p ρ held) (view_role ρ) q (rank n) (view_promised_run part))
  unfolding pure_promise_part_in
  promise_part_matches role.Idle q n part sr sn sp t = match_nothing front me p held role.Idle small sr
  promise_part_matches (role.Preparing r) q n part sr sn sp t =
      let within : Bool = leb part.start part.at && is_run_to part.len part.at part.run in
      let same : (is_same_ballot n r.ballot && within) ≡ (eqb (rank n) (rank r.ballot) && within) = ap (λ (b : Bool). b && within) (is_same-rank n r.ballot sn sr.0) in
      match_if front me p held (is_same_ballot n r.ballot && within) (eqb (rank n) (rank r.ballot) && within) _ _ _ _ same
      (λ is. once_matches r q part (staged_with r q part) (promised_entries part (staged_with r q part)) sr sp (tidy_if (eqb (rank n) (rank r.ballot) && within) _ _ (sym same ∙ is) t))
      (λ _. match_nothing front me p held (role.Preparing r) small sr)
  promise_part_matches (role.Leading l) q n part sr sn sp t =
      match_if front me p held (eqb (part.at + length part.run) part.len) (eqb (part.at + length part.run) part.len) _ _ _ _ refl
      (λ is. promise_matches (role.Leading l) n (told_by q part []) sr sn sp (tidy_if (eqb (part.at + length part.run) part.len) _ _ is t))
      (λ _. match_nothing front me p held (role.Leading l) small sr)

  -- an Accepted
  pub accepted_matches : (ρ : Role) (q : ℕ) (n : Ballot) (x : ℕ) → RoleIsSmall ρ → IsSmall n → Matches front me p held (on_accepted me p ρ q n x) (pure.on_accepted_in p.members me (view front p ρ held) (view_role ρ) q (rank n) x)
  unfolding pure_accepted_in
  accepted_matches role.Idle q n x sr sn = match_nothing front me p held role.Idle small sr
  accepted_matches (role.Preparing r) q n x sr sn = match_nothing front me p held (role.Preparing r) small sr
  accepted_matches (role.Leading l) q n x sr sn =
      let a : Acknowledged = record { from = q; len = x } in
      let other : List (ℕ × Msg) = decided_again p q l.ballot in
      let packets : List pure.Packet = cond (ltb 0 p.decided) (pure.packet me q (pure.Decide (rank l.ballot) p.decided) ∷ []) [] in
      match_if front me p held (is_same_ballot n l.ballot && leb x (len_of p)) (eqb (rank n) (rank l.ballot) && leb x (length (whole_log front p))) _ _ _ _
      (ap (λ (b : Bool). b && leb x (len_of p)) (is_same-rank n l.ballot sn sr.0) ∙ ap (λ (m : ℕ). eqb (rank n) (rank l.ballot) && leb x m) (len_of-whole front p fits))
      (λ _. subst (λ (f : ℕ → ℕ). Matches front me p held (count me p (len_of p) (with_acknowledged l a) other) (pure.recount p.members me (view front p (role.Leading l) held) (record (view_leading l) { acked = f }) [] packets)) (acked-with l.acknowledged a)
      (count_matches front me p held (len_of p) (len_of-whole front p fits) small (with_acknowledged l a) (role.Leading l) [] other [] packets sr says_none
      (said_if me (ltb 0 p.decided) (ltb 0 p.decided) _ _ _ _ refl (said_one me p.conf q (body.Decide l.ballot p.decided) _ refl sr.0) says_none)))
      (λ _. match_nothing front me p held (role.Leading l) small sr)

  prepare_said : (q : ℕ) (n : Ballot) → IsSmall n → SaysBy me p.conf (pure.packet me q (pure.Prepare (rank n) (rank p.accepted) (length (whole_log front p)) p.decided) ∷ []) (message p.conf q (prepare_body p n) ∷ [])
  prepare_said q n sn = said_one me p.conf q (prepare_body p n) _ (λ i. Some (pure.Prepare (rank n) (rank p.accepted) (len_of-whole front p fits i) p.decided)) (sn, small.1)

  -- a PrepareReq
  pub prepare_req_matches : (ρ : Role) (q : ℕ) → RoleIsSmall ρ → Matches front me p held (on_prepare_req p ρ q) (pure.on_prepare_req_in me (view front p ρ held) (view_role ρ) q)
  unfolding pure_prepare_req_in
  prepare_req_matches role.Idle q sr = match_nothing front me p held role.Idle small sr
  prepare_req_matches (role.Preparing r) q sr = match_saying front me p held (role.Preparing r) _ _ small sr (prepare_said q r.ballot sr.0)
  prepare_req_matches (role.Leading l) q sr = match_saying front me p held (role.Leading l) _ _ small sr (prepare_said q l.ballot sr.0)

  -- ---- proposals
  extends_matches : (l : Leading) (es : List Entry) → LeadingIsSmall l → Matches front me p held (extends me p l es) (pure.extended p.members me (view front p (role.Leading l) held) (view_leading l) es)
  unfolding pure_extended
  extends_matches l es sl =
      let q : Part = part_with p (change.Append es) in
      let longer : len_of p + length es ≡ length (whole_log front q) = omega (arith, fits.size, length-append front (p.tail.items ++ es), length-append p.tail.items es) in
      let same : front ++ (p.tail.items ++ es) ≡ whole_log front p ++ es = sym (append_assoc front p.tail.items es) in
      let m = count_matches front me q held (len_of p + length es) longer small l (role.Leading l) (to_each p.conf (synced_others me p.members l) (body.Accept l.ballot (len_of p) es)) []
      (pure.broadcast me (λ x. is_member nat_eq l.synced x) (pure.Accept (rank l.ballot) (length (whole_log front p)) es) p.members) [] sl
      (said_broadcast me p.conf (λ x. is_member nat_eq l.synced x) (body.Accept l.ballot (len_of p) es) _ (λ i. Some (pure.Accept (rank l.ballot) (len_of-whole front p fits i) es)) sl.0 p.members) says_none in
      let o : Matches front me p held (extends me p l es) (pure.recount p.members me (view front q (role.Leading l) held) (view_leading l) (pure.broadcast me (λ x. is_member nat_eq l.synced x) (pure.Accept (rank l.ballot) (length (whole_log front p)) es) p.members) []) =
      record { node = m.node; plain = (tt, m.plain); sends = m.sends; part = m.part; role = m.role } in
      subst (λ (xs : List Entry). Matches front me p held (extends me p l es) (pure.recount p.members me (record (view front p (role.Leading l) held) { log = xs }) (view_leading l) (pure.broadcast me (λ x. is_member nat_eq l.synced x) (pure.Accept (rank l.ballot) (length (whole_log front p)) es) p.members) [])) same o

  waiting_entries : (is_own : Bool) (es : List Entry) → entries_of (waiting_as is_own es) ≡ es
  waiting_entries is_own [] = refl
  waiting_entries is_own (e ∷ es) = ap (λ (xs : List Entry). e ∷ xs) (waiting_entries is_own es)

  entries_push : (is_own : Bool) (es : List Entry) (buffer : List Buffered) → entries_of (buffer ++ waiting_as is_own es) ≡ entries_of buffer ++ es
  entries_push is_own es [] = waiting_entries is_own es
  entries_push is_own es (x ∷ buffer) = ap (λ (xs : List Entry). x.entry ∷ xs) (entries_push is_own es buffer)

  -- entries that wait
  pub buffer_matches : (r : Preparing) (is_own : Bool) (es : List Entry) → RoleIsSmall (role.Preparing r)
      → Matches front me p held (saying (role.Preparing (with_buffered r (waiting_as is_own es))) []) (pure.on_propose_in p.members me (view front p (role.Preparing r) held) (view_role (role.Preparing r)) es)
  unfolding pure_propose_in
  buffer_matches r is_own es sr = record { node = ap (λ (xs : List Entry). record (view front p (role.Preparing r) held) { role = pure.Preparing (record (view_preparing r) { buffer = xs }) }) (entries_push is_own es r.buffer); plain = tt; sends = says_none; part = small; role = sr }

  -- a leader whose log goes on takes entries that end early nowhere
  pub append_matches : (l : Leading) (es : List Entry) → LeadingIsSmall l → Tidy (whole_log front p) → pending p ≡ None → pure.stops_early es ≡ false → leb (len_of p + length es) positions_end ≡ true
      → Matches front me p held (extends me p l es) (pure.on_propose_in p.members me (view front p (role.Leading l) held) (view_role (role.Leading l)) es)
  unfolding pure_propose_in
  append_matches l es sl t free ends room =
      let none : has_stop (whole_log front p) ≡ false = sym (pending-whole front p.trimmed p.tail.items unended t) ∙ ap is_some free in
      let open_ : ltb positions_end (length (whole_log front p) + length es) ≡ false = le-ltb positions_end (length (whole_log front p) + length es) (omega (arith, leb-true (len_of p + length es) positions_end room, len_of-whole front p fits)) in
      rw (none, ends, open_) (extends_matches l es sl)

  forwarded : (es : List Entry) → (view_body (forward_body es) ≡ Some (pure.Forward es)) × BodyIsSmall (forward_body es)
  forwarded [] = (refl, tt)
  forwarded (e ∷ []) = (refl, tt)
  forwarded (e ∷ d ∷ es) = (refl, tt)

  -- a proposal
  pub propose_matches : (ρ : Role) (es : List Entry) → RoleIsSmall ρ → Tidy (whole_log front p) → pending p ≡ None → pure.stops_early es ≡ false → leb (len_of p + length es) positions_end ≡ true
      → Matches front me p held (propose me p ρ es) (pure.on_propose_in p.members me (view front p ρ held) (view_role ρ) es)
  unfolding pure_propose_in
  propose_matches role.Idle es sr t free ends room =
      let o : owner (rank p.promised) ≡ p.promised.pid = owner-rank p.promised small.0 in
      let f = forwarded es in
      match_answered front me p held _ _ _ (match_saying front me p held role.Idle _ _ small sr
      (subst (λ (x : ℕ). SaysBy me p.conf (pure.packet me x (pure.Forward es) ∷ []) (message p.conf p.promised.pid (forward_body es) ∷ [])) (sym o) (said_one me p.conf p.promised.pid (forward_body es) (pure.Forward es) f.0 f.1)))
  propose_matches (role.Preparing r) es sr t free ends room = match_answered front me p held _ _ _ (buffer_matches r true es sr)
  propose_matches (role.Leading l) es sr t free ends room = match_answered front me p held _ _ _ (append_matches l es sr t free ends room)

  -- ---- sessions
  without_view : (l : Leading) (q : ℕ) → view_leading (without_synced l q) ≡ record (view_leading l) { synced = with_at q false (λ r. is_member nat_eq l.synced r) }
  without_view l q = ap (λ (f : ℕ → Bool). record (view_leading l) { synced = f }) (fun_ext (λ r. is_member-filtered (λ s. not (eqb s q)) l.synced r ∙ step (eqb r q) (is_member nat_eq l.synced r)))
    where
      step : (a b : Bool) → (b && not a) ≡ cond a false b
      step true true = refl
      step true false = refl
      step false true = refl
      step false false = refl

  -- a session that ends
  pub down_matches : (ρ : Role) (q : ℕ) → RoleIsSmall ρ → Matches front me p held (session_down ρ q) (pure.silent (record (view front p ρ held) { role = pure.without (view_role ρ) q }))
  down_matches role.Idle q sr = match_nothing front me p held role.Idle small sr
  down_matches (role.Preparing r) q sr = match_nothing front me p held (role.Preparing r) small sr
  down_matches (role.Leading l) q sr = record { node = ap (λ (x : pure.LeadingState). record (view front p (role.Leading l) held) { role = pure.Leading x }) (without_view l q); plain = tt; sends = says_none; part = small; role = sr }
