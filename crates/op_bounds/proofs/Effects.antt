-- The effects of a row in range: messages to known ids, replies, and effects that follow a batch.
use Rattle.std.proofs.Common.{◌≤◌, ◌<◌, ◌+◌, ℕ, not, eqb, inl, inr, List, [], ◌∷◌, length, flat_map, refl, arith, length-append, All}
use Rattle.std.specs.Prelude.{IfSome}
use Rattle.std.proofs.lemmas.Bool.{cond_both}
use Rattle.std.proofs.lemmas.List.Elements.{All-nil, All-cons, All-head, All-tail, All-append, All-filter, All-map, All-weaker}
use Rattle.op_types.specs.Limits.{positions_end, most_part_bytes}
use Rattle.op_msg.specs.Sizes.{carried_size}
use Rattle.op_types.specs.Ranges.{IsConf, IsPlace}
use Rattle.op_types.specs.Changes.{EndsNowhere}
use Rattle.op_types.specs.Joinings.{Held}
use Rattle.op_types.specs.RoleStates.{Preparing}
use Rattle.op_types.specs.Effects.{Effects}
use Rattle.op_types.specs.Roles as role
use Rattle.op_types.specs.Roles.{Role}
use Rattle.op_types.specs.declared.log.Entry.{Entry}
use Rattle.op_types.specs.declared.log.Entry.TheVariants as entry
use Rattle.op_types.specs.declared.durable.Part.{Part}
use Rattle.op_types.specs.declared.changes.Change.{Change}
use Rattle.op_types.specs.declared.messages.Body.{Body}
use Rattle.op_types.specs.declared.messages.Msg.{Msg}
use Rattle.op_types.specs.declared.role.Promised.{Promised}
use Rattle.op_types.specs.declared.role.Buffered.{Buffered}
use Rattle.op_types.specs.declared.answers.Answer.TheVariants as answer
use Rattle.op_types.specs.declared.answers.Reply.{Reply}
use Rattle.op_types.specs.declared.answers.Cause.{Cause}
use Rattle.op_types.specs.declared.answers.Outcome.{Outcome}
use Rattle.op_protocol.specs.Parts.{part_after, message, messages, others, to_each, saying, nothing, first, answered}
use Rattle.op_protocol.specs.Promises.{entry_dropped, dropped}
use Rattle.op_protocol.specs.Leader.{given_up_by}
use Rattle.op_bounds.specs.Messages.{BallotOf, EntryOf, BodyInRange, least_conf_of, SendInRange, CauseInRange, ReplyInRange, OutcomeInRange}
use Rattle.op_bounds.specs.States.{PromisedInRange, StagedInRange, LeadingInRange, RoleInRange, StagedEndsNowhere, RoleEndsNowhere}
use Rattle.op_bounds.proofs.Entries.{EntriesIn}
use Rattle.op_bounds.proofs.Batches.{PartIn, BatchFits, fits_both}

-- ---- roles in a configuration

-- a promise that is kept, with entries of the configuration
pub record PromisedIn (Known : ℕ → Type 0) (conf : ℕ) (k : Promised) : Type 0 where
  pub from : Known k.from
  pub accepted : BallotOf Known k.accepted
  pub len : IsPlace k.len
  pub decided : IsPlace k.decided
  pub ends : k.start + length k.entries ≤ positions_end
  pub entries : EntriesIn Known conf k.entries

-- an entry of the configuration that is staged, below the end of positions
pub record StagedIn (Known : ℕ → Type 0) (conf : ℕ) (x : ℕ × Entry) : Type 0 where
  pub at : x.0 < positions_end
  pub entry : EntriesIn Known conf (x.1 ∷ [])

-- what came so far of a sender's promise
pub record StageIn (Known : ℕ → Type 0) (conf : ℕ) (s : ℕ × Held) : Type 0 where
  pub from : Known s.0
  pub staged : All (StagedIn Known conf) s.1

-- a proposal that waits
abbrev pub BufferedIn : (ℕ → Type 0) → ℕ → Buffered → Type 0
BufferedIn Known conf b = EntriesIn Known conf (b.entry ∷ [])

-- what a node keeps that prepares
pub record PreparingIn (Known : ℕ → Type 0) (conf : ℕ) (r : Preparing) : Type 0 where
  pub ballot : BallotOf Known r.ballot
  pub promises : All (PromisedIn Known conf) r.promises
  pub stages : All (StageIn Known conf) r.stages
  pub buffer : All (BufferedIn Known conf) r.buffer

-- a role
abbrev pub RoleIn : (ℕ → Type 0) → ℕ → Role → Type 0
RoleIn Known conf role.Idle = Unit {0}
RoleIn Known conf (role.Preparing r) = PreparingIn Known conf r
RoleIn Known conf (role.Leading l) = LeadingInRange Known l

promised_in : (Known : ℕ → Type 0) (conf : ℕ) (k : Promised) → PromisedInRange Known k → EndsNowhere conf k.entries → PromisedIn Known conf k
promised_in Known conf k r ends = record { from = r.from; accepted = r.accepted; len = r.len; decided = r.decided; ends = r.ends; entries = record { each = r.entries; ends = ends } }

-- what is staged, in a configuration
pub staged_in : (Known : ℕ → Type 0) (conf : ℕ) (xs : Held) → All (StagedInRange Known) xs → StagedEndsNowhere conf xs → All (StagedIn Known conf) xs
staged_in Known conf xs k ends =
    λ i d within. let one = k i d within in record { at = one.at; entry = record { each = All-cons (EntryOf Known) _ [] one.entry (All-nil (EntryOf Known)); ends = ends i d within } }

pub staged_range : (Known : ℕ → Type 0) (conf : ℕ) (xs : Held) → All (StagedIn Known conf) xs → All (StagedInRange Known) xs × StagedEndsNowhere conf xs
staged_range Known conf xs k = (
  (λ i d within. let one = k i d within in record { at = one.at; entry = All-head (EntryOf Known) _ [] one.entry.each }),
  (λ i d within. (k i d within).entry.ends),
)

pub role_in : (Known : ℕ → Type 0) (conf : ℕ) (r : Role) → RoleInRange Known r → RoleEndsNowhere conf r → RoleIn Known conf r
role_in Known conf role.Idle k ends = tt
role_in Known conf (role.Preparing r) k ends =
    record {
      ballot = k.ballot;
      promises = λ i d within. promised_in Known conf _ (k.promises i d within) (ends.promises i d within);
      stages = λ i d within. let one = k.stages i d within in record { from = one.from; staged = staged_in Known conf _ one.staged (ends.stages i d within) };
      buffer = λ i d within. record { each = All-cons (EntryOf Known) _ [] (k.buffer i d within) (All-nil (EntryOf Known)); ends = ends.buffer i d within };
    }
role_in Known conf (role.Leading l) k ends = k

pub role_range : (Known : ℕ → Type 0) (conf : ℕ) (r : Role) → RoleIn Known conf r → RoleInRange Known r × RoleEndsNowhere conf r
role_range Known conf role.Idle k = (tt, tt)
role_range Known conf (role.Preparing r) k = (
  record {
    ballot = k.ballot;
    promises = λ i d within. let j = k.promises i d within in record { from = j.from; accepted = j.accepted; len = j.len; decided = j.decided; ends = j.ends; entries = j.entries.each };
    stages = λ i d within. let one = k.stages i d within in record { from = one.from; staged = (staged_range Known conf _ one.staged).0 };
    buffer = λ i d within. All-head (EntryOf Known) _ [] (k.buffer i d within).each;
  },
  record {
    promises = λ i d within. (k.promises i d within).entries.ends;
    stages = λ i d within. (staged_range Known conf _ (k.stages i d within).staged).1;
    buffer = λ i d within. (k.buffer i d within).ends;
  },
)
role_range Known conf (role.Leading l) k = (k, tt)

-- ---- rows

-- what a row does at a part of this configuration, in range, with so many changes at most
pub record RowInRange (Known : ℕ → Type 0) (conf : ℕ) (p : Part) (most : ℕ) (e : Effects) : Type 0 where
  pub batch : BatchFits Known p e.batch
  pub few : length e.batch ≤ most
  pub role : RoleIn Known conf e.role
  pub sends : All (SendInRange Known) e.sends
  pub replies : All (ReplyInRange Known) e.replies
  pub outcome : IfSome e.outcome (OutcomeInRange Known)

pub row_saying : (Known : ℕ → Type 0) (conf : ℕ) (p : Part) (most : ℕ) (r : Role) (sends : List (ℕ × Msg)) → RoleIn Known conf r → All (SendInRange Known) sends → RowInRange Known conf p most (saying r sends)
row_saying Known conf p most r sends role said = record { batch = tt; few = omega arith; role = role; sends = said; replies = All-nil (ReplyInRange Known); outcome = tt }

pub row_nothing : (Known : ℕ → Type 0) (conf : ℕ) (p : Part) (most : ℕ) (r : Role) → RoleIn Known conf r → RowInRange Known conf p most (nothing r)
row_nothing Known conf p most r role = row_saying Known conf p most r [] role (All-nil (SendInRange Known))

-- a batch, messages and replies, and then these effects
pub row_first : (Known : ℕ → Type 0) (conf : ℕ) (p : Part) (all most : ℕ) (batch : List Change) (sends : List (ℕ × Msg)) (replies : List Reply) (e : Effects)
    → BatchFits Known p batch → length batch + most ≤ all → All (SendInRange Known) sends → All (ReplyInRange Known) replies → RowInRange Known conf (part_after p batch) most e
    → RowInRange Known conf p all (first batch sends replies e)
row_first Known conf p all most batch sends replies e fit size said told row =
    record {
      batch = fits_both Known p batch e.batch fit row.batch;
      few = omega (arith, length-append batch e.batch, row.few);
      role = row.role;
      sends = All-append (SendInRange Known) sends e.sends said row.sends;
      replies = All-append (ReplyInRange Known) replies e.replies told row.replies;
      outcome = row.outcome;
    }

pub row_answered : (Known : ℕ → Type 0) (conf : ℕ) (p : Part) (most : ℕ) (o : Outcome) (e : Effects) → OutcomeInRange Known o → RowInRange Known conf p most e → RowInRange Known conf p most (answered o e)
row_answered Known conf p most o e told row = record { batch = row.batch; few = row.few; role = row.role; sends = row.sends; replies = row.replies; outcome = told }

-- ---- messages

pub send_one : (Known : ℕ → Type 0) (conf q : ℕ) (b : Body) → IsConf conf → least_conf_of b ≤ 1 → carried_size b ≤ most_part_bytes → Known q → BodyInRange Known b → All (SendInRange Known) (message conf q b ∷ [])
send_one Known conf q b in_conf least carries to fit = All-cons (SendInRange Known) (message conf q b) [] (record { to = to; carries = carries; conf = λ h. in_conf; message = record { conf = in_conf.1; least = omega (arith, least, in_conf.0); body = fit } }) (All-nil (SendInRange Known))

pub send_each : (Known : ℕ → Type 0) (conf : ℕ) (qs : List ℕ) (b : Body) → IsConf conf → least_conf_of b ≤ 1 → carried_size b ≤ most_part_bytes → All Known qs → BodyInRange Known b → All (SendInRange Known) (to_each conf qs b)
send_each Known conf qs b in_conf least carries to fit =
    All-map (SendInRange Known) (λ q. message conf q b) qs
    (All-weaker Known (λ q. SendInRange Known (message conf q b)) (λ q one. record { to = one; carries = carries; conf = λ h. in_conf; message = record { conf = in_conf.1; least = omega (arith, least, in_conf.0); body = fit } }) qs to)

-- what may be said in a configuration
pub record Said (Known : ℕ → Type 0) (b : Body) : Type 0 where
  pub least : least_conf_of b ≤ 1
  pub carries : carried_size b ≤ most_part_bytes
  pub body : BodyInRange Known b

-- several messages to one
pub send_bodies : (Known : ℕ → Type 0) (conf q : ℕ) (bodies : List Body) → IsConf conf → Known q → All (Said Known) bodies → All (SendInRange Known) (messages conf q bodies)
send_bodies Known conf q bodies in_conf to fit =
    All-map (SendInRange Known) (λ b. message conf q b) bodies
    (All-weaker (Said Known) (λ b. SendInRange Known (message conf q b))
    (λ b one. record { to = to; carries = one.carries; conf = λ h. in_conf; message = record { conf = in_conf.1; least = omega (arith, one.least, in_conf.0); body = one.body } }) bodies fit)

pub others_all : (Known : ℕ → Type 0) (me : ℕ) (p : Part) → PartIn Known p → All Known (others me p.members)
others_all Known me p k = All-filter (λ q. not (eqb q me)) Known p.members k.members

-- ---- what is given up

pub drop_one : (Known : ℕ → Type 0) (why : Cause) (b : Buffered) → CauseInRange Known why → EntryOf Known b.entry → All (ReplyInRange Known) (dropped why b)
drop_one Known why b = by_entry b.entry
  where
    by_entry : (e : Entry) → CauseInRange Known why → EntryOf Known e → All (ReplyInRange Known) (entry_dropped why e b.is_own)
    by_entry (entry.Command c) in_cause fit = All-cons (ReplyInRange Known) _ [] (record { asked = inr (fit.0.client, fit.0.seq); answer = in_cause }) (All-nil (ReplyInRange Known))
    by_entry (entry.Stop s) in_cause fit =
        cond_both b.is_own (record { client = 0; seq = 0; answer = answer.Dropped why } ∷ []) [] (All (ReplyInRange Known))
        (λ _. All-cons (ReplyInRange Known) _ [] (record { asked = inl (refl, refl); answer = in_cause }) (All-nil (ReplyInRange Known)))
        (λ _. All-nil (ReplyInRange Known))

drop_all : (Known : ℕ → Type 0) (conf : ℕ) (why : Cause) (bs : List Buffered) → CauseInRange Known why → All (BufferedIn Known conf) bs → All (ReplyInRange Known) (flat_map (λ b. dropped why b) bs)
drop_all Known conf why [] in_cause fit = All-nil (ReplyInRange Known)
drop_all Known conf why (b ∷ bs) in_cause fit =
    All-append (ReplyInRange Known) (dropped why b) (flat_map (λ b. dropped why b) bs)
    (drop_one Known why b in_cause (All-head (EntryOf Known) b.entry [] (All-head (BufferedIn Known conf) b bs fit).each)) (drop_all Known conf why bs in_cause (All-tail (BufferedIn Known conf) b bs fit))

pub given_up : (Known : ℕ → Type 0) (conf : ℕ) (r : Role) (why : Cause) → RoleIn Known conf r → CauseInRange Known why → All (ReplyInRange Known) (given_up_by r why)
given_up Known conf role.Idle why in_role in_cause = All-nil (ReplyInRange Known)
given_up Known conf (role.Preparing r) why in_role in_cause = drop_all Known conf why r.buffer in_cause in_role.buffer
given_up Known conf (role.Leading l) why in_role in_cause = All-nil (ReplyInRange Known)
