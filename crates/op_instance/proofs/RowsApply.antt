-- Each row's batch applies, and leaves what the next one needs.
use Rattle.std.proofs.Common.{◌≡◌, ℕ, zero, suc, ◌+◌, ◌-◌, ◌<◌, ◌≤◌, Bool, true, false, cond, min, ◌&&◌, ◌==◌, not, List, [], ◌∷◌, ◌++◌, length, take, drop, filter, All, Option, Some, None, IfSome, refl, sym, ap, ◌∙◌, subst, arith, length-append}
use Rattle.std.proofs.lemmas.Bool.{ltb-true, ltb-false, and_parts, leb-true, both_ways}
use Rattle.std.proofs.lemmas.List.{length-take, length-drop}
use Rattle.std.proofs.lemmas.List.Elements.{All-nil, All-cons, All-head, All-tail, All-drop, All-filter, All-push, All-append}
use Rattle.std.specs.Prelude.{nat_lt, nat_le}
use Rattle.op_types.specs.Limits.{positions_end, last_conf}
use Rattle.op_types.specs.Ballots.{is_below, is_same_ballot}
use Rattle.op_types.specs.Changes.{len_of, part_with, IsCommand, EndsNowhere}
use Rattle.op_types.specs.RoleStates as state
use Rattle.op_types.specs.RoleStates.{promise_of, with_promise, stage_of, stages_without, without_stage, told_by, promised_entries, staged_with, with_buffered, with_synced, without_synced, with_acknowledged, report_of, with_report, without_reports}
use Rattle.op_types.specs.Roles.{Role, Idle, Preparing, Leading}
use Rattle.op_types.specs.Effects.{Effects}
use Rattle.op_types.specs.declared.ballot.Ballot.{Ballot}
use Rattle.op_types.specs.declared.changes.Change.{Change}
use Rattle.op_types.specs.declared.changes.Change.TheVariants as change
use Rattle.op_types.specs.declared.durable.Part.{Part}
use Rattle.op_types.specs.declared.log.Entry.{Entry}
use Rattle.op_types.specs.declared.messages.Body.TheVariants as body
use Rattle.op_types.specs.declared.messages.Msg.{Msg}
use Rattle.op_types.specs.declared.role.Buffered.{Buffered}
use Rattle.op_types.specs.declared.role.Promised.{Promised}
use Rattle.op_types.specs.declared.role.Report.{Report}
use Rattle.op_types.specs.declared.runs.PromisedRun.{PromisedRun}
use Rattle.op_types.specs.Joinings.{Held}
use Rattle.op_protocol.specs.Parts.{pending, part_after, part_in_round, cutting, appending, message, others, to_each, is_run_to, saying, nothing, first}
use Rattle.op_protocol.specs.Promises.{has_quorum, is_usable, is_above, Choice, own_choice, better, best, choice_changes, chosen_log, chosen_stop, chosen_len, stop_here, fitting}
use Rattle.op_protocol.specs.Leader.{backed, counted, decides, count, is_synced, sync_sends, first_leading, leading_with, begin_leading, adopt_with, adopt, prepares, first_preparing, lead, on_promise, promised_once, on_promise_part, decided_again, on_accepted, on_prepare_req, extends, propose, on_forward_leading, on_forward, session_down, waiting_as}
use Rattle.op_protocol.specs.Follower.{suffix_start, on_prepare, added_changes, accepts, accept_entries, on_accept, synced_changes, sync_entries, on_accept_sync, accept_front, on_decide}
use Rattle.op_protocol.specs.Reading.{on_confirm}
use Rattle.op_protocol.specs.Trimming.{lesser, least_reported, trims, trims_reported, trims_if_all, trim_now, on_progress, on_trim_ask, on_trim}
use Rattle.op_plans.specs.Positions.{FitsPositions}
use Rattle.op_follower.specs.Staging.{StagedIsAdmitted}
use Rattle.op_follower.proofs.Gaps.{admitted_with, run_small, run_commands, none_admitted}
use Rattle.op_choosing.specs.Choosing.{ChoiceFits}
use Rattle.op_leader.specs.Adopting.{PromisesAreAdmitted, AreStagedWithin, StagesAreAdmitted}
use Rattle.op_choosing.proofs.Fits.{best_fits}
use Rattle.op_leader.proofs.Admitted as promised
use Rattle.op_instance.specs.Sound.{StopsFit, StagesFit, IsSound}
use Rattle.op_instance.proofs.Batches.{BatchApplies, joined, conf_after, choice_part, adopted_part, appending_applies, replaced_applies}

-- a batch applies to a part, and this role may follow
pub record Leaves (p : Part) (batch : List Change) (r : Role) : Type 0 where
  pub applies : BatchApplies p batch
  pub promises : PromisesAreAdmitted r
  pub stops : StopsFit p.conf r
  pub stages : StagesFit p.conf r

abbrev pub RowLeaves : Part → Effects → Type 0
RowLeaves p e = Leaves p e.batch e.role

-- entries may go to the log from a position on
pub record MayGo (p : Part) (at : ℕ) (es : List Entry) : Type 0 where
  pub small : at + length es ≤ positions_end
  pub stops : EndsNowhere p.conf es

by_test : (p : Part) (b : Bool) (d e : Effects) → (b ≡ true → RowLeaves p d) → (b ≡ false → RowLeaves p e) → RowLeaves p (cond b d e)
by_test p true d e so other = so refl
by_test p false d e so other = other refl

pub says : (p : Part) (r : Role) (sends : List (ℕ × Msg)) → IsSound p r → RowLeaves p (saying r sends)
says p r sends sound = record { applies = tt; promises = sound.promises; stops = sound.stops; stages = sound.stages }

leads : (p : Part) (l : state.Leading) (sends : List (ℕ × Msg)) → RowLeaves p (saying (Leading l) sends)
leads p l sends = record { applies = tt; promises = tt; stops = tt; stages = tt }

-- ---- a follower

pub prepare_leaves : (p : Part) (r : Role) (q : ℕ) (n na : Ballot) (nl nd : ℕ) → IsSound p r → RowLeaves p (on_prepare p r q n na nl nd)
prepare_leaves p r q n na nl nd sound =
    by_test p (is_below n p.promised) (saying r (message p.conf q (body.Refuse n p.promised) ∷ [])) _ (λ low. says p r (message p.conf q (body.Refuse n p.promised) ∷ []) sound)
    (λ high. by_test p (nat_lt (suffix_start p na nl nd) p.trimmed) (nothing r) _ (λ gone. says p r [] sound)
    (λ here. by_test p (is_below p.promised n) _ (nothing r) (λ above. record { applies = (tt, tt); promises = tt; stops = tt; stages = tt }) (λ same. says p r [] sound)))

accepts_leaves : (p : Part) (r : Role) (q : ℕ) (n : Ballot) (batch : List Change) → IsSound p r → BatchApplies p batch → RowLeaves p (accepts p r q n batch)
accepts_leaves p r q n batch sound all = record { applies = joined p batch [] all tt; promises = sound.promises; stops = sound.stops; stages = sound.stages }

added_small : (p : Part) (at : ℕ) (es : List Entry) → FitsPositions p → at ≤ len_of p → at + length es ≤ positions_end → len_of p + length (drop (len_of p - at) es) ≤ positions_end
added_small p at es fits low small = let len = length-drop (len_of p - at) es in let ends : len_of p ≤ positions_end = fits.small in omega arith

pub accept_leaves : (p : Part) (r : Role) (q : ℕ) (n : Ballot) (at : ℕ) (es : List Entry) → IsSound p r → MayGo p at es → RowLeaves p (on_accept p r q n at es)
accept_leaves p r q n at es sound may =
    by_test p (is_same_ballot p.promised n && is_same_ballot p.accepted n) (accept_entries p r q n at es) (nothing r)
    (λ same. by_test p (nat_lt (len_of p) at) (saying r (message p.conf q body.PrepareReq ∷ [])) (accepts p r q n (added_changes p at es)) (λ gap. says p r (message p.conf q body.PrepareReq ∷ []) sound)
    (λ whole. accepts_leaves p r q n (added_changes p at es) sound
    (appending_applies p (drop (len_of p - at) es) (added_small p at es sound.positions (ltb-false (len_of p) at whole) may.small) (λ last. All-drop IsCommand (len_of p - at) es (may.stops last)))))
    (λ other. says p r [] sound)

pub sync_leaves : (p : Part) (r : Role) (q : ℕ) (n : Ballot) (x : ℕ) (es : List Entry) → IsSound p r → MayGo p x es → RowLeaves p (sync_entries p r q n x es)
sync_leaves p r q n x es sound may =
    by_test p (nat_le p.decided x && nat_le x (len_of p)) (accepts p r q n (synced_changes p n x es)) (nothing r)
    (λ here. let both = and_parts (nat_le p.decided x) (nat_le x (len_of p)) here in
    accepts_leaves p r q n (synced_changes p n x es) sound
    (joined p (cutting p x ++ appending es) (change.Accept n ∷ []) (replaced_applies p x es sound.positions (leb-true p.decided x both.0) (leb-true x (len_of p) both.1) may.small may.stops) (tt, tt)))
    (λ off. says p r [] sound)

pub accept_sync_leaves : (p : Part) (r : Role) (q : ℕ) (n : Ballot) (x : ℕ) (es : List Entry) → IsSound p r → MayGo p x es → RowLeaves p (on_accept_sync p r q n x es)
accept_sync_leaves p r q n x es sound may =
    by_test p (is_same_ballot p.promised n && is_below p.accepted n) (sync_entries p r q n x es) (on_accept p r q n x es)
    (λ new. sync_leaves p r q n x es sound may)
    (λ old. accept_leaves p r q n x es sound may)

-- what is staged goes on from the log
pub front_leaves : (p : Part) (r : Role) (q : ℕ) (n : Ballot) (at : ℕ) (es : List Entry) → IsSound p r → MayGo p (len_of p) es → RowLeaves p (accept_front p r q n at es)
front_leaves p r q n at es sound may =
    record { applies = joined p (appending es) [] (appending_applies p es may.small may.stops) tt; promises = sound.promises; stops = sound.stops; stages = sound.stages }

pub decide_leaves : (p : Part) (r : Role) (n : Ballot) (x : ℕ) → IsSound p r → RowLeaves p (on_decide p r n x)
decide_leaves p r n x sound =
    by_test p (is_same_ballot p.promised n && (is_same_ballot p.accepted n && nat_lt p.decided (min x (len_of p)))) _ (nothing r)
    (λ all. let rest = and_parts (is_same_ballot p.promised n) (is_same_ballot p.accepted n && nat_lt p.decided (min x (len_of p))) all in
    let both = and_parts (is_same_ballot p.accepted n) (nat_lt p.decided (min x (len_of p))) rest.1 in
    let more : p.decided < min x (len_of p) = ltb-true p.decided (min x (len_of p)) both.1 in
    record { applies = ((omega arith, omega arith), tt); promises = sound.promises; stops = sound.stops; stages = sound.stages })
    (λ none. says p r [] sound)

-- ---- a leader

cond_low : (b : Bool) (x y k : ℕ) → x ≤ k → y ≤ k → cond b x y ≤ k
cond_low true x y k low also = low
cond_low false x y k low also = also

backed_low : (has : ℕ → ℕ) (members : List ℕ) (k : ℕ) → backed has members k ≤ k
backed_low has members zero = omega arith
backed_low has members (suc k) = cond_low _ (suc k) (backed has members k) (suc k) (omega arith) (let low : backed has members k ≤ k = backed_low has members k in omega arith)

count_leaves : (me : ℕ) (p : Part) (len : ℕ) (l : state.Leading) (otherwise : List (ℕ × Msg)) → len ≤ len_of p → RowLeaves p (count me p len l otherwise)
count_leaves me p len l otherwise within =
    let x : ℕ = counted me p.members len l.acknowledged in
    by_test p (nat_lt p.decided x) (decides me p l x) (saying (Leading l) otherwise)
    (λ more. let new : p.decided < x = ltb-true p.decided x more in let low : x ≤ len = backed_low _ p.members len in
    record { applies = ((omega arith, omega arith), tt); promises = tt; stops = tt; stages = tt })
    (λ none. leads p l otherwise)

extends_leaves : (me : ℕ) (p : Part) (l : state.Leading) (es : List Entry) → len_of p + length es ≤ positions_end → EndsNowhere p.conf es → RowLeaves p (extends me p l es)
extends_leaves me p l es room stops =
    let q : Part = part_with p (change.Append es) in
    let len = length-append p.tail.items es in
    let counts : RowLeaves q (count me q (len_of p + length es) l []) = count_leaves me q (len_of p + length es) l [] (omega arith) in
    record { applies = ((omega arith, stops), counts.applies); promises = counts.promises; stops = counts.stops; stages = counts.stages }

begins_leaves : (me : ℕ) (p : Part) (l : state.Leading) (promises : List Promised) → RowLeaves p (begin_leading me p l promises)
begins_leaves me p l promises =
    let counts : RowLeaves p (count me p (len_of p) (leading_with p l promises) []) = count_leaves me p (len_of p) (leading_with p l promises) [] (omega arith) in
    record { applies = counts.applies; promises = counts.promises; stops = counts.stops; stages = counts.stages }

-- the length of the log of a choice
chosen_end : (p : Part) (c : Choice) → FitsPositions p → ChoiceFits p c → chosen_len p c ≡ c.start + length c.entries
chosen_end p c fits chosen =
    let len = length-append (take (c.start - p.trimmed) p.tail.items) c.entries in
    let prefix = length-take (c.start - p.trimmed) p.tail.items in
    let begins : p.trimmed ≤ p.decided = fits.trimmed in
    let low : p.decided ≤ c.start = chosen.low in
    let high : c.start ≤ len_of p = chosen.high in
    omega arith

adopt_with_leaves : (me : ℕ) (p : Part) (r : state.Preparing) (c : Choice) (more : List Entry) → FitsPositions p → ChoiceFits p c → EndsNowhere p.conf c.entries
    → chosen_len p c + length more ≤ positions_end → EndsNowhere p.conf more → RowLeaves p (adopt_with me p r c more)
adopt_with_leaves me p r c more fits chosen stops small also =
    let q : Part = part_after p (choice_changes p c) in
    let changes : List Change = choice_changes p c ++ appending more ++ change.Accept r.ballot ∷ [] in
    let after : Part = part_in_round p r.ballot (chosen_log p c ++ more) in
    let is : part_after p changes ≡ after = adopted_part p r.ballot c more in
    let end : len_of q ≡ chosen_len p c = ap (λ (x : Part). len_of x) (choice_part p c) in
    let made : BatchApplies p changes =
    joined p (choice_changes p c ++ appending more) (change.Accept r.ballot ∷ [])
    (joined p (choice_changes p c) (appending more) (replaced_applies p c.start c.entries fits chosen.low chosen.high chosen.small stops)
    (appending_applies q more (omega arith) (λ last. also (sym (conf_after p (choice_changes p c)) ∙ last)))) (tt, tt) in
    let begins : RowLeaves after (begin_leading me after (first_leading r.ballot c) r.promises) = begins_leaves me after (first_leading r.ballot c) r.promises in
    record {
      applies = joined p changes _ made (subst (λ (x : Part). BatchApplies x (begin_leading me after (first_leading r.ballot c) r.promises).batch) (sym is) begins.applies);
      promises = begins.promises;
      stops = begins.stops;
      stages = begins.stages;
    }

-- ---- the choice, and what is buffered

better_by : (conf : ℕ) (k : Promised) (c : Choice) (taken : Bool) → EndsNowhere conf k.entries → EndsNowhere conf c.entries → (let t : Choice = cond taken (record { accepted = k.accepted; len = k.len; start = k.start; entries = k.entries }) c in EndsNowhere conf t.entries)
better_by conf k c true one rest = one
better_by conf k c false one rest = rest

better_stops : (conf : ℕ) (p : Part) (o : Option Promised) (c : Choice) → IfSome o (λ k. EndsNowhere conf k.entries) → EndsNowhere conf c.entries → EndsNowhere conf (better p o c).entries
better_stops conf p None c one rest = rest
better_stops conf p (Some k) c one rest = better_by conf k c (is_usable p k && is_above k.accepted k.len c.accepted c.len) one rest

found_by : (P : Promised → Type 0) (b : Bool) (k : Promised) (o : Option Promised) → P k → IfSome o P → IfSome (cond b (Some k) o) P
found_by P true k o one rest = one
found_by P false k o one rest = rest

found : (P : Promised → Type 0) (promises : List Promised) (q : ℕ) → All P promises → IfSome (promise_of promises q) P
found P [] q all = tt
found P (k ∷ promises) q all = found_by P (k.from == q) k (promise_of promises q) (All-head P k promises all) (found P promises q (All-tail P k promises all))

best_stops : (conf : ℕ) (p : Part) (promises : List Promised) (members : List ℕ) (c : Choice) → All (λ k. EndsNowhere conf k.entries) promises → EndsNowhere conf c.entries → EndsNowhere conf (best p promises members c).entries
best_stops conf p promises [] c all rest = rest
best_stops conf p promises (q ∷ members) c all rest =
    best_stops conf p promises members (better p (promise_of promises q) c) all (better_stops conf p (promise_of promises q) c (found (λ k. EndsNowhere conf k.entries) promises q all) rest)

fitting_by : (at : ℕ) (b : Bool) (e : Entry) (es : List Entry) → nat_lt at positions_end ≡ b → at ≤ positions_end → (at < positions_end → at + 1 + length es ≤ positions_end) → at + length (cond b (e ∷ es) []) ≤ positions_end
fitting_by at true e es is low more = let here : at < positions_end = ltb-true at positions_end is in let rest : at + 1 + length es ≤ positions_end = more here in omega arith
fitting_by at false e es is low more = omega arith

fitting_small : (stop : Option ℕ) (at : ℕ) (buffer : List Buffered) → at ≤ positions_end → at + length (fitting stop at buffer) ≤ positions_end
fitting_small (Some pos) at buffer low = omega arith
fitting_small None at [] low = omega arith
fitting_small None at (b ∷ buffer) low =
    fitting_by at (nat_lt at positions_end) b.entry (fitting (stop_here b.entry at) (at + 1) buffer) refl low (λ here. fitting_small (stop_here b.entry at) (at + 1) buffer (omega arith))

commands_by : (b : Bool) (e : Entry) (es : List Entry) → IsCommand e → All IsCommand es → All IsCommand (cond b (e ∷ es) [])
commands_by true e es one rest = All-cons IsCommand e es one rest
commands_by false e es one rest = All-nil IsCommand

fitting_commands : (stop : Option ℕ) (at : ℕ) (buffer : List Buffered) → All (λ b. IsCommand b.entry) buffer → All IsCommand (fitting stop at buffer)
fitting_commands (Some pos) at buffer all = All-nil IsCommand
fitting_commands None at [] all = All-nil IsCommand
fitting_commands None at (b ∷ buffer) all =
    commands_by (nat_lt at positions_end) b.entry (fitting (stop_here b.entry at) (at + 1) buffer) (All-head (λ b. IsCommand b.entry) b buffer all)
    (fitting_commands (stop_here b.entry at) (at + 1) buffer (All-tail (λ b. IsCommand b.entry) b buffer all))

buffer_commands : (conf : ℕ) (buffer : List Buffered) → All (λ b. EndsNowhere conf (b.entry ∷ [])) buffer → conf ≡ last_conf → All (λ b. IsCommand b.entry) buffer
buffer_commands conf [] all last = All-nil (λ b. IsCommand b.entry)
buffer_commands conf (b ∷ buffer) all last =
    All-cons (λ b. IsCommand b.entry) b buffer (All-head IsCommand b.entry [] (All-head (λ b. EndsNowhere conf (b.entry ∷ [])) b buffer all last))
    (buffer_commands conf buffer (All-tail (λ b. EndsNowhere conf (b.entry ∷ [])) b buffer all) last)

-- ---- a node that prepares

pub prepares_leaves : (me : ℕ) (p : Part) (r : state.Preparing) → IsSound p (Preparing r) → RowLeaves p (prepares me p r)
prepares_leaves me p r sound =
    let c : Choice = best p r.promises p.members (own_choice p) in
    let chosen : ChoiceFits p c = best_fits p r.promises sound.positions sound.promises in
    let end : chosen_len p c ≡ c.start + length c.entries = chosen_end p c sound.positions chosen in
    let within : c.start + length c.entries ≤ positions_end = chosen.small in
    by_test p (has_quorum me p.members r.promises) (adopt me p r) (nothing (Preparing r))
    (λ quorum. adopt_with_leaves me p r c (fitting (chosen_stop p c) (chosen_len p c) r.buffer) sound.positions chosen
    (best_stops p.conf p r.promises p.members (own_choice p) sound.stops.0 (λ last. All-nil IsCommand))
    (fitting_small (chosen_stop p c) (chosen_len p c) r.buffer (omega arith))
    (λ last. fitting_commands (chosen_stop p c) (chosen_len p c) r.buffer (buffer_commands p.conf r.buffer sound.stops.1 last)))
    (λ few. says p (Preparing r) [] sound)

pub lead_leaves : (me : ℕ) (p : Part) (r : Role) (n : Ballot) → IsSound p r → RowLeaves p (lead me p r n)
lead_leaves me p r n sound =
    let s : state.Preparing = first_preparing n in
    let q : Part = part_with p (change.Promise n) in
    let here : IsSound q (Preparing s) =
    record {
      conf = sound.conf;
      positions = record { trimmed = sound.positions.trimmed; decided = sound.positions.decided; small = sound.positions.small };
      members = sound.members;
      log = sound.log;
      promises = tt;
      stops = (All-nil (λ k. EndsNowhere q.conf k.entries), All-nil (λ b. EndsNowhere q.conf (b.entry ∷ [])));
      stages = All-nil (λ s. StagedIsAdmitted q.conf s.1);
    } in
    let led : RowLeaves q (prepares me q s) = prepares_leaves me q s here in
    record { applies = (tt, led.applies); promises = led.promises; stops = led.stops; stages = led.stages }

leading_leaves : (me : ℕ) (p : Part) (l : state.Leading) (n : Ballot) (k : Promised) → RowLeaves p (on_promise me p (Leading l) n k)
leading_leaves me p l n k =
    by_test p (is_same_ballot n l.ballot) (saying (Leading (cond (is_synced p l k) (with_synced l k.from) l)) (sync_sends p l k)) (nothing (Leading l)) (λ own. leads p (cond (is_synced p l k) (with_synced l k.from) l) (sync_sends p l k)) (λ other. leads p l [])

pub promise_leaves : (me : ℕ) (p : Part) (r : Role) (n : Ballot) (k : Promised) → IsSound p r → MayGo p k.start k.entries → RowLeaves p (on_promise me p r n k)
promise_leaves me p Idle n k sound may = says p Idle [] sound
promise_leaves me p (Preparing r) n k sound may =
    by_test p (is_same_ballot n r.ballot && is_usable p k) (prepares me p (with_promise r k)) (nothing (Preparing r))
    (λ taken. prepares_leaves me p (with_promise r k) (record {
      conf = sound.conf;
      positions = sound.positions;
      members = sound.members;
      log = sound.log;
      promises = promised.admitted_with r.promises k sound.promises may.small;
      stops = (All-push (λ k. EndsNowhere p.conf k.entries) (filter (λ j. not (j.from == k.from)) r.promises) k (All-filter (λ j. not (j.from == k.from)) (λ k. EndsNowhere p.conf k.entries) r.promises sound.stops.0) may.stops, sound.stops.1);
      stages = sound.stages;
    }))
    (λ other. says p (Preparing r) [] sound)
promise_leaves me p (Leading l) n k sound may = leading_leaves me p l n k

-- what is staged of a sender's promise may come to the log, with a run of it more
stage_fits : (conf : ℕ) (stages : List (ℕ × Held)) (q : ℕ) → All (λ s. StagedIsAdmitted conf s.1) stages → StagedIsAdmitted conf (stage_of stages q)
stage_fits conf [] q all = none_admitted conf
stage_fits conf (s ∷ stages) q all = by (s.0 == q) (All-head (λ s. StagedIsAdmitted conf s.1) s stages all) (stage_fits conf stages q (All-tail (λ s. StagedIsAdmitted conf s.1) s stages all))
  where
    by : (b : Bool) → StagedIsAdmitted conf s.1 → StagedIsAdmitted conf (stage_of stages q) → StagedIsAdmitted conf (cond b s.1 (stage_of stages q))
    by true one rest = one
    by false one rest = rest

all_within : (conf : ℕ) (stages : List (ℕ × Held)) → All (λ s. StagedIsAdmitted conf s.1) stages → AreStagedWithin stages
all_within conf [] all = tt
all_within conf (s ∷ stages) all =
    let one : StagedIsAdmitted conf s.1 = All-head (λ s. StagedIsAdmitted conf s.1) s stages all in
    (one.small, all_within conf stages (All-tail (λ s. StagedIsAdmitted conf s.1) s stages all))

-- what is staged of promises ends within the positions
pub stages_within : (conf : ℕ) (r : Role) → StagesFit conf r → StagesAreAdmitted r
stages_within conf Idle fits = tt
stages_within conf (Preparing r) fits = all_within conf r.stages fits
stages_within conf (Leading l) fits = tt

once_leaves : (me : ℕ) (p : Part) (r : state.Preparing) (q : ℕ) (part : PromisedRun) (held : Held) (o : Option (List Entry)) → IsSound p (Preparing r) → part.start ≤ positions_end → StagedIsAdmitted p.conf held
    → promised_entries part held ≡ o → RowLeaves p (promised_once me p r q part held o)
once_leaves me p r q part held None sound low may is =
    record {
      applies = tt;
      promises = sound.promises;
      stops = sound.stops;
      stages = All-push (λ s. StagedIsAdmitted p.conf s.1) (stages_without r.stages q) (q, held) (All-filter (λ s. not (s.0 == q)) (λ s. StagedIsAdmitted p.conf s.1) r.stages sound.stages) may;
    }
once_leaves me p r q part held (Some es) sound low may is =
    promise_leaves me p (Preparing (without_stage r q)) r.ballot (told_by q part es)
    (record {
      conf = sound.conf;
      positions = sound.positions;
      members = sound.members;
      log = sound.log;
      promises = sound.promises;
      stops = sound.stops;
      stages = All-filter (λ s. not (s.0 == q)) (λ s. StagedIsAdmitted p.conf s.1) r.stages sound.stages;
    })
    (record {
      small = run_small held part.start (part.len - part.start) es may.small low is;
      stops = λ last. run_commands held part.start (part.len - part.start) es (may.stops last) is;
    })

pub promise_part_leaves : (me : ℕ) (p : Part) (r : Role) (q : ℕ) (n : Ballot) (part : PromisedRun) → IsSound p r → MayGo p part.at part.run → RowLeaves p (on_promise_part me p r q n part)
promise_part_leaves me p Idle q n part sound may = says p Idle [] sound
promise_part_leaves me p (Preparing r) q n part sound may =
    by_test p (is_same_ballot n r.ballot && (nat_le part.start part.at && is_run_to part.len part.at part.run)) (promised_once me p r q part (staged_with r q part) (promised_entries part (staged_with r q part))) (nothing (Preparing r))
    (λ taken. let rest = and_parts (is_same_ballot n r.ballot) (nat_le part.start part.at && is_run_to part.len part.at part.run) taken in
    let both = and_parts (nat_le part.start part.at) (is_run_to part.len part.at part.run) rest.1 in
    let low : part.start ≤ part.at = leb-true part.start part.at both.0 in
    let small : part.at + length part.run ≤ positions_end = may.small in
    once_leaves me p r q part (staged_with r q part) (promised_entries part (staged_with r q part)) sound (omega arith)
    (admitted_with p.conf (stage_of r.stages q) part.at part.run (stage_fits p.conf r.stages q sound.stages) may.small may.stops) refl)
    (λ other. says p (Preparing r) [] sound)
promise_part_leaves me p (Leading l) q n part sound may =
    by_test p (part.at + length part.run == part.len) (on_promise me p (Leading l) n (told_by q part [])) (nothing (Leading l))
    (λ last. leading_leaves me p l n (told_by q part []))
    (λ other. leads p l [])

pub accepted_leaves : (me : ℕ) (p : Part) (r : Role) (q : ℕ) (n : Ballot) (x : ℕ) → IsSound p r → RowLeaves p (on_accepted me p r q n x)
accepted_leaves me p Idle q n x sound = says p Idle [] sound
accepted_leaves me p (Preparing r) q n x sound = says p (Preparing r) [] sound
accepted_leaves me p (Leading l) q n x sound =
    by_test p (is_same_ballot n l.ballot && nat_le x (len_of p)) (count me p (len_of p) (with_acknowledged l (record { from = q; len = x })) (decided_again p q l.ballot)) (nothing (Leading l))
    (λ own. count_leaves me p (len_of p) (with_acknowledged l (record { from = q; len = x })) (decided_again p q l.ballot) (omega arith)) (λ other. leads p l [])

pub prepare_req_leaves : (p : Part) (r : Role) (q : ℕ) → IsSound p r → RowLeaves p (on_prepare_req p r q)
prepare_req_leaves p Idle q sound = says p Idle [] sound
prepare_req_leaves p (Preparing r) q sound = record { applies = tt; promises = sound.promises; stops = sound.stops; stages = sound.stages }
prepare_req_leaves p (Leading l) q sound = record { applies = tt; promises = tt; stops = tt; stages = tt }

-- ---- proposals

-- each of these ends no last configuration
each_ends : (conf : ℕ) (own : Bool) (es : List Entry) → EndsNowhere conf es → All (λ b. EndsNowhere conf (b.entry ∷ [])) (waiting_as own es)
each_ends conf own [] stops = All-nil (λ b. EndsNowhere conf (b.entry ∷ []))
each_ends conf own (e ∷ es) stops =
    All-cons (λ b. EndsNowhere conf (b.entry ∷ [])) (record { entry = e; is_own = own }) (waiting_as own es)
    (λ last. All-cons IsCommand e [] (All-head IsCommand e es (stops last)) (All-nil IsCommand))
    (each_ends conf own es (λ last. All-tail IsCommand e es (stops last)))

buffered_leaves : (p : Part) (r : state.Preparing) (own : Bool) (es : List Entry) → IsSound p (Preparing r) → EndsNowhere p.conf es → RowLeaves p (nothing (Preparing (with_buffered r (waiting_as own es))))
buffered_leaves p r own es sound stops =
    record { applies = tt; promises = sound.promises; stages = sound.stages; stops = (sound.stops.0, All-append (λ b. EndsNowhere p.conf (b.entry ∷ [])) r.buffer (waiting_as own es) sound.stops.1 (each_ends p.conf own es stops)) }

pub propose_leaves : (me : ℕ) (p : Part) (r : Role) (es : List Entry) → IsSound p r → len_of p + length es ≤ positions_end → EndsNowhere p.conf es → RowLeaves p (propose me p r es)
propose_leaves me p Idle es sound room stops = record { applies = tt; promises = tt; stops = tt; stages = tt }
propose_leaves me p (Preparing r) es sound room stops =
    let kept = buffered_leaves p r true es sound stops in record { applies = tt; promises = kept.promises; stops = kept.stops; stages = kept.stages }
propose_leaves me p (Leading l) es sound room stops =
    let added : RowLeaves p (extends me p l es) = extends_leaves me p l es room stops in record { applies = added.applies; promises = added.promises; stops = added.stops; stages = added.stages }

forward_by : (me : ℕ) (p : Part) (l : state.Leading) (es : List Entry) (o : Option ℕ) → EndsNowhere p.conf es → RowLeaves p (on_forward_leading me p l es o)
forward_by me p l es (Some pos) stops = leads p l []
forward_by me p l es None stops =
    by_test p (nat_le (len_of p + length es) positions_end) (extends me p l es) (nothing (Leading l)) (λ room. extends_leaves me p l es (leb-true (len_of p + length es) positions_end room) stops) (λ full. leads p l [])

pub forward_leaves : (me : ℕ) (p : Part) (r : Role) (es : List Entry) → IsSound p r → EndsNowhere p.conf es → RowLeaves p (on_forward me p r es)
forward_leaves me p Idle es sound stops = says p Idle [] sound
forward_leaves me p (Preparing r) es sound stops = buffered_leaves p r false es sound stops
forward_leaves me p (Leading l) es sound stops = forward_by me p l es (pending p) stops

pub session_down_leaves : (p : Part) (r : Role) (q : ℕ) → IsSound p r → RowLeaves p (session_down r q)
session_down_leaves p Idle q sound = says p Idle [] sound
session_down_leaves p (Preparing r) q sound = says p (Preparing r) [] sound
session_down_leaves p (Leading l) q sound = leads p (without_synced l q) []

-- ---- trimming

low_lesser : (x : Option ℕ) (n k z : ℕ) → n ≤ k → lesser x (Some n) ≡ Some z → z ≤ k
low_lesser None n k z low is = absurd (both_ways true (cc) refl)
low_lesser (Some y) n k z low is = let same : min y n ≡ z = cc in omega arith

least_by : (x y : Option ℕ) (k z : ℕ) → ((n : ℕ) → y ≡ Some n → n ≤ k) → lesser x y ≡ Some z → z ≤ k
least_by None y k z low is = absurd (both_ways true (cc) refl)
least_by (Some m) None k z low is = absurd (both_ways true (cc) refl)
least_by (Some m) (Some n) k z low is = low_lesser (Some m) n k z (low n refl) is

-- what all have reported is no more than what is decided here
least_low : (reports : List Report) (qs : List ℕ) (k x : ℕ) → least_reported reports qs k ≡ Some x → x ≤ k
least_low reports [] k x is = let same : k ≡ x = cc in omega arith
least_low reports (q ∷ qs) k x is = least_by (report_of reports q) (least_reported reports qs k) k x (λ n is. least_low reports qs k n is) is

trims_leaves : (me : ℕ) (p : Part) (l : state.Leading) (x : ℕ) → x ≤ p.decided → RowLeaves p (trims me p l x)
trims_leaves me p l x known =
    by_test p (nat_lt p.trimmed x) (first (change.Trim x [] ∷ []) (to_each p.conf (others me p.members) (body.Trim x)) [] (nothing (Leading l))) (nothing (Leading l))
    (λ more. let low : p.trimmed < x = ltb-true p.trimmed x more in record { applies = ((omega arith, known), tt); promises = tt; stops = tt; stages = tt })
    (λ none. leads p l [])

reported_leaves : (me : ℕ) (p : Part) (l : state.Leading) (o : Option ℕ) → ((x : ℕ) → o ≡ Some x → x ≤ p.decided) → RowLeaves p (trims_reported me p l o)
reported_leaves me p l None low = leads p l []
reported_leaves me p l (Some x) low = trims_leaves me p (without_reports l) x (low x refl)

all_leaves : (me : ℕ) (p : Part) (l : state.Leading) → RowLeaves p (trims_if_all me p l)
all_leaves me p l = reported_leaves me p l (least_reported l.reports (others me p.members) p.decided) (λ x is. least_low l.reports (others me p.members) p.decided x is)

pub trim_now_leaves : (me : ℕ) (p : Part) (r : Role) → IsSound p r → RowLeaves p (trim_now me p r)
trim_now_leaves me p Idle sound = record { applies = tt; promises = sound.promises; stops = sound.stops; stages = sound.stages }
trim_now_leaves me p (Preparing r) sound = record { applies = tt; promises = sound.promises; stops = sound.stops; stages = sound.stages }
trim_now_leaves me p (Leading l) sound =
    let row : RowLeaves p (trims_if_all me p (without_reports l)) = all_leaves me p (without_reports l) in record { applies = row.applies; promises = row.promises; stops = row.stops; stages = row.stages }

pub progress_leaves : (me : ℕ) (p : Part) (r : Role) (q : ℕ) (n : Ballot) (x : ℕ) → IsSound p r → RowLeaves p (on_progress me p r q n x)
progress_leaves me p Idle q n x sound = says p Idle [] sound
progress_leaves me p (Preparing r) q n x sound = says p (Preparing r) [] sound
progress_leaves me p (Leading l) q n x sound =
    by_test p (is_same_ballot n l.ballot) (trims_if_all me p (with_report l (record { from = q; decided = x }))) (nothing (Leading l))
    (λ own. all_leaves me p (with_report l (record { from = q; decided = x }))) (λ other. leads p l [])

pub trim_ask_leaves : (p : Part) (r : Role) (q : ℕ) (n : Ballot) → IsSound p r → RowLeaves p (on_trim_ask p r q n)
trim_ask_leaves p r q n sound =
    by_test p (is_same_ballot p.promised n) (saying r (message p.conf q (body.Progress n p.decided) ∷ [])) (nothing r) (λ own. says p r (message p.conf q (body.Progress n p.decided) ∷ []) sound) (λ other. says p r [] sound)

pub confirm_leaves : (p : Part) (r : Role) (q : ℕ) (n : Ballot) (number : ℕ) → IsSound p r → RowLeaves p (on_confirm p r q n number)
confirm_leaves p r q n number sound =
    by_test p (is_same_ballot p.promised n) (saying r (message p.conf q (body.Confirmed n number) ∷ [])) (nothing r) (λ own. says p r (message p.conf q (body.Confirmed n number) ∷ []) sound) (λ other. says p r [] sound)

pub trim_leaves : (p : Part) (r : Role) (x : ℕ) → IsSound p r → RowLeaves p (on_trim p r x)
trim_leaves p r x sound =
    by_test p (nat_lt p.trimmed x && nat_le x p.decided) (first (change.Trim x [] ∷ []) [] [] (nothing r)) (nothing r)
    (λ here. let both = and_parts (nat_lt p.trimmed x) (nat_le x p.decided) here in
    let low : p.trimmed < x = ltb-true p.trimmed x both.0 in
    record { applies = ((omega arith, leb-true x p.decided both.1), tt); promises = sound.promises; stops = sound.stops; stages = sound.stages })
    (λ off. says p r [] sound)
