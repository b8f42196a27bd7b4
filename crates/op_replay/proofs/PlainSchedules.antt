-- A schedule that tells of no stop and no failure in a call of a disk ends in one way.
use Rattle.std.proofs.Common.{◌≡◌, ℕ, Bool, List, Some, sym, ap, ◌∙◌}
use Rattle.std.specs.Prelude.{slice_get}
use Rattle.op_runs.specs.declared.events.Event.{Event}
use Rattle.op_executions.specs.PlainRuns.{ArePlain}
use Rattle.op_executions.proofs.PlainRuns.{plain_runs_are_not_refused, plain_refusals_are_one}
use Rattle.op_replay.specs.Replay.{IsLineOfFirstBad, EndInOneWay}

one_event : (e f : Event) → Some e ≡ Some f → e.line ≡ f.line
one_event e f same = let one : e ≡ f = cc in ap (λ (x : Event). x.line) one

one_line : (members spares observers : List ℕ) (mirrored : Bool) (events : List Event) (m n : ℕ) → ArePlain events → IsLineOfFirstBad members spares observers mirrored events m → IsLineOfFirstBad members spares observers mirrored events n → n ≡ m
one_line members spares observers mirrored events m n plain p q =
    let same : q.index ≡ p.index = plain_refusals_are_one members spares observers mirrored events q.index p.index plain q.first p.first in
    q.line_is ∙ one_event q.event p.event (sym q.there ∙ ap (slice_get events) same ∙ p.there) ∙ sym p.line_is

pub end_in_one_way : (members spares observers : List ℕ) (mirrored : Bool) (events : List Event) → ArePlain events → EndInOneWay members spares observers mirrored events
end_in_one_way members spares observers mirrored events plain =
    record {
      ran = λ hs run line bad. plain_runs_are_not_refused members spares observers mirrored events hs bad.index plain run bad.first;
      refused = λ line bad. record {
        bad = bad;
        no_run = λ hs run. plain_runs_are_not_refused members spares observers mirrored events hs bad.index plain run bad.first;
        no_other = λ other o. one_line members spares observers mirrored events line other plain bad o;
      };
    }
