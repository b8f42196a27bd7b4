-- What is run is not refused, and what is refused in all runs is refused at that line.
use Rattle.std.proofs.Common.{◌≡◌, ℕ, Bool, List, length, ◌<◌, Option, Some, None, ap, subst, inl, inr, arith}
use Rattle.std.specs.Prelude.{IfSome}
use Rattle.std.specs.Io.KnownBytes.{Appends}
use Rattle.op_outside.specs.Streams.{AppendsPrefix, ReadsAll}
use Rattle.op_sched.specs.declared.schedule.Schedule.{Schedule}
use Rattle.op_sched.proofs.UnambiguousSchedules as schedules
use Rattle.op_runs.specs.declared.events.Event.{Event}
use Rattle.op_replay.specs.Replay.{IsLineOfFirstBad, IsTheBadLine, HaveNoBadLine}
use Rattle.op_input.specs.Inputs.{input_limit}
use Rattle.op_replay.specs.Called.{IsWithinLimit, Reports, IsReported, IsReportedPrefix, IsBadAt, IsRefusedAt, IsBadInAllRunsAt, IsValid}
use Rattle.op_replay.specs.Answers.{IsOrNoMemory, LeavesOutput, RefusesInput}
use Rattle.op_status.specs.declared.status.Status.{Status}
use Rattle.op_status.specs.declared.status.Status.TheVariants as status

-- a schedule's events
abbrev Of : (List ℕ → List ℕ → List ℕ → Bool → List Event → Type 0) → Schedule → Type 0
Of P s = P s.members s.spares s.observers s.is_mirrored s.events

pub not_bad : (input : List ℕ) (n : ℕ) → IsValid input → IsBadAt input n → ⊥
not_bad input n v (inl bad) = schedules.no_bad_line input v.0 n v.1 bad
not_bad input n v (inr bad) = subst (Of HaveNoBadLine) (schedules.one_schedule input v.0 bad.0 v.1 bad.1) v.2 n bad.2

-- what was run isn't bad in all runs
not_bad_in_all : (input text : List ℕ) (n : ℕ) → Reports input text → IsBadInAllRunsAt input n → ⊥
not_bad_in_all input text n r (few, inl bad) = schedules.no_bad_line input r.0 n r.1 bad
not_bad_in_all input text n r (few, inr bad) =
    let all = subst (Of (λ members spares observers mirrored events. IsTheBadLine members spares observers mirrored events n)) (schedules.one_schedule input bad.0 r.0 bad.1 r.1) bad.2 in
    all.no_run r.2.run.happenings r.2.run.run

-- the bad line of all runs is that of each
one_bad : (input : List ℕ) (m n : ℕ) → IsBadAt input m → IsBadInAllRunsAt input n → m ≡ n
one_bad input m n (inl p) (few, inl q) = schedules.one_bad_line input m n p q
one_bad input m n (inl p) (few, inr q) = absurd (schedules.no_bad_line input q.0 m q.1 p)
one_bad input m n (inr p) (few, inl q) = absurd (schedules.no_bad_line input p.0 n p.1 q)
one_bad input m n (inr p) (few, inr q) =
    q.2.no_other m (subst (Of (λ members spares observers mirrored events. IsLineOfFirstBad members spares observers mirrored events m)) (schedules.one_schedule input p.0 q.0 p.1 q.1) p.2)

-- ---- where the source tells its bytes

pub told_valid : (left : Option (List ℕ)) (bytes : List ℕ) (n : ℕ) → ReadsAll left bytes → IsBadAt bytes n → IfSome left (λ input. IsWithinLimit input → IsValid input → IsOrNoMemory status.Ended (status.BadSchedule n))
told_valid None bytes n all bad = tt
told_valid (Some input) bytes n all bad = λ _ valid. absurd (not_bad input n valid (subst (λ (t : List ℕ). IsBadAt t n) all bad))

told_bad : (left : Option (List ℕ)) (bytes text : List ℕ) (s : Status) → ReadsAll left bytes → Reports bytes text → IfSome left (λ input. (line : ℕ) → IsBadInAllRunsAt input line → IsOrNoMemory (status.BadSchedule line) s)
told_bad None bytes text s all r = tt
told_bad (Some input) bytes text s all r = λ line bad. absurd (not_bad_in_all input text line (subst (λ (t : List ℕ). Reports t text) all r) bad)

told_same : (left : Option (List ℕ)) (bytes : List ℕ) (n : ℕ) → ReadsAll left bytes → IsBadAt bytes n → IfSome left (λ input. (line : ℕ) → IsBadInAllRunsAt input line → IsOrNoMemory (status.BadSchedule line) (status.BadSchedule n))
told_same None bytes n all bad = tt
told_same (Some input) bytes n all bad = λ line other. inl (ap status.BadSchedule (one_bad input n line (subst (λ (t : List ℕ). IsBadAt t n) all bad) other))

told_at : (left : Option (List ℕ)) (bytes : List ℕ) (n : ℕ) → ReadsAll left bytes → IsWithinLimit bytes → IsBadAt bytes n → IfSome left (λ input. IsRefusedAt input n)
told_at None bytes n all few bad = tt
told_at (Some input) bytes n all few bad = subst (λ (t : List ℕ). IsRefusedAt t n) all (few, bad)

told_few : (left : Option (List ℕ)) (bytes : List ℕ) (s : Status) → ReadsAll left bytes → IsWithinLimit bytes → IfSome left (λ input. input_limit < length input → IsOrNoMemory status.InputLimit s)
told_few None bytes s all few = tt
told_few (Some input) bytes s all few = λ long. absurd (omega (arith, ap length all, few, long))

-- ---- what is refused

-- what was reported was not to be refused
reported_not_refused : (s : Status) (left : Option (List ℕ)) (bytes text : List ℕ) (before after : ℕ) → ((line : ℕ) → s ≡ status.BadSchedule line → ⊥) → (s ≡ status.InputLimit → ⊥)
    → ReadsAll left bytes → IsWithinLimit bytes → Reports bytes text → RefusesInput s left before after
reported_not_refused s left bytes text before after no_bad no_limit all few r =
    record { bad_only_if = λ line is. absurd (no_bad line is); bad_always = λ _. told_bad left bytes text s all r; too_long_only_if = λ is. absurd (no_limit is); too_long_always = λ _. told_few left bytes s all few }

pub ended_not_refused : (left : Option (List ℕ)) (bytes text : List ℕ) (before after : ℕ) → ReadsAll left bytes → IsWithinLimit bytes → Reports bytes text → RefusesInput status.Ended left before after
ended_not_refused left bytes text before after all few r = reported_not_refused status.Ended left bytes text before after (λ line is. cc) (λ is. cc) all few r

pub cut_not_refused : (left : Option (List ℕ)) (bytes text : List ℕ) (before after : ℕ) → ReadsAll left bytes → IsWithinLimit bytes → Reports bytes text → RefusesInput status.WriteFault left before after
cut_not_refused left bytes text before after all few r = reported_not_refused status.WriteFault left bytes text before after (λ line is. cc) (λ is. cc) all few r

-- a bad line is refused
pub bad_refused : (n : ℕ) (left : Option (List ℕ)) (bytes : List ℕ) (before after : ℕ) → ReadsAll left bytes → IsWithinLimit bytes → IsBadAt bytes n → RefusesInput (status.BadSchedule n) left before after
bad_refused n left bytes before after all few bad =
    record {
      bad_only_if = λ line is. let same : n ≡ line = cc in subst (λ (k : ℕ). IfSome left (λ input. IsRefusedAt input k)) same (told_at left bytes n all few bad);
      bad_always = λ _. told_same left bytes n all bad;
      too_long_only_if = λ is. cc;
      too_long_always = λ _. told_few left bytes (status.BadSchedule n) all few;
    }

-- ---- what is written

told_report : (left : Option (List ℕ)) (bytes text : List ℕ) (old new : Option (List ℕ)) → ReadsAll left bytes → IsWithinLimit bytes → Reports bytes text → Appends old new text → IfSome left (λ input. IsReported input old new)
told_report None bytes text old new all few r added = tt
told_report (Some input) bytes text old new all few r added = (text, subst IsWithinLimit all few, subst (λ (t : List ℕ). Reports t text) all r, added)

told_prefix : (left : Option (List ℕ)) (bytes text : List ℕ) (old new : Option (List ℕ)) → ReadsAll left bytes → IsWithinLimit bytes → Reports bytes text → AppendsPrefix old new text → IfSome left (λ input. IsReportedPrefix input old new)
told_prefix None bytes text old new all few r added = tt
told_prefix (Some input) bytes text old new all few r added = (text, subst IsWithinLimit all few, subst (λ (t : List ℕ). Reports t text) all r, added)

-- with success the report
pub report_written : (left : Option (List ℕ)) (bytes text : List ℕ) (old new : Option (List ℕ)) → ReadsAll left bytes → IsWithinLimit bytes → Reports bytes text → Appends old new text → LeavesOutput status.Ended left old new
report_written left bytes text old new all few r added = record { ended = λ is. told_report left bytes text old new all few r added; cut = λ is. cc; quiet = λ none. absurd none }

-- where a write failed a prefix of it
pub prefix_written : (left : Option (List ℕ)) (bytes text : List ℕ) (old new : Option (List ℕ)) → ReadsAll left bytes → IsWithinLimit bytes → Reports bytes text → AppendsPrefix old new text → LeavesOutput status.WriteFault left old new
prefix_written left bytes text old new all few r added = record { ended = λ is. cc; cut = λ is. told_prefix left bytes text old new all few r added; quiet = λ none. absurd none }
