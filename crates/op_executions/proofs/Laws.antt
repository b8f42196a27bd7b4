-- The laws of every run, of one.
use Rattle.std.proofs.Common.{◌≡◌, List, ℕ, [], ◌∷◌, ◌++◌, sym, subst, ◌∙◌, append_assoc}
use Rattle.op_runs.specs.World.{Happening}
use Rattle.op_laws.specs.Elected.{until_second}
use Rattle.op_laws.specs.Runs.{RunInRange}
use Rattle.op_laws.proofs.AloneLists.{leaders_decide_alone}
use Rattle.op_laws.proofs.AloneAnswers.{leaders_answer_alone}
use Rattle.op_laws.proofs.Closing.{logs_are_closed_whole}
use Rattle.op_laws.proofs.Exchanges.{exchange_decides}
use Rattle.op_laws.proofs.Messages.{every_message_is_true}
use Rattle.op_laws.proofs.Reached.{front_in_range, elected_rise, led_once}
use Rattle.op_laws.proofs.RepliesServed.{every_reply_is_served}
use Rattle.op_laws.proofs.Trims.{every_trim_is_known}
use Rattle.op_read_laws.proofs.ReadsFresh.{every_read_is_fresh}
use Rattle.op_read_laws.proofs.ReadsOnce.{every_read_comes_once}
use Rattle.op_read_laws.proofs.ReadsTold.{every_line_is_fresh}
use Rattle.op_refinement.proofs.EveryRun.{every_run_meets}
use Rattle.op_watch_laws.proofs.Apart.{every_observer_is_apart}
use Rattle.op_watch_laws.proofs.Learning.{every_observer_learns}
use Rattle.op_watch_laws.proofs.Every.{every_observer_stands, every_shown_is_true, no_observer_falls}
use Rattle.op_watch_laws.proofs.Unowned.{no_ballot_of_others}
use Rattle.op_executions.specs.Laws.{KeepsTheLaws}

module _ (members spares : List ℕ) (run : List Happening) (k : RunInRange members spares run) where
  -- a front of the run
  front : (early late : List Happening) → run ≡ early ++ late → RunInRange members spares early
  front early late is = front_in_range members spares early late (subst (λ (hs : List Happening). RunInRange members spares hs) is k)

  -- the run to one of its happenings
  until : (early : List Happening) (h : Happening) (late : List Happening) → run ≡ early ++ h ∷ late → RunInRange members spares (early ++ h ∷ [])
  until early h late is = front (early ++ h ∷ []) late (is ∙ sym (append_assoc early (h ∷ []) late))

  pub keeps_the_laws : KeepsTheLaws members spares run
  keeps_the_laws = record {
    meets = every_run_meets members spares k.first k.others run k.happenings;
    served = every_reply_is_served members spares run k;
    trims = every_trim_is_known members spares run k;
    messages = every_message_is_true members spares run k;
    exchanges = λ early hs late is. exchange_decides members spares early hs (front (early ++ hs) late is);
    closes = λ early h late is. logs_are_closed_whole members spares early h (until early h late is);
    alone = λ early h late is. leaders_decide_alone members spares early h (until early h late is);
    answers = λ early h late is. leaders_answer_alone members spares early h (until early h late is);
    rises = λ m late is. elected_rise members spares m (front (until_second m) (m.second ∷ late) is);
    leads = λ m late is. led_once members spares m (front (until_second m) (m.second ∷ late) is);
    fresh = every_read_is_fresh members spares run k;
    once = every_read_comes_once members spares run k;
    told = every_line_is_fresh members spares run k;
    observers = record {
      stand = every_observer_stands members spares k.first k.others run k.happenings;
      shown = every_shown_is_true members spares k.first k.others run k.happenings;
      apart = every_observer_is_apart members spares k.first k.others run k.happenings;
      unowned = λ q some other there. no_ballot_of_others members spares k.first k.others run k.happenings q some other there;
    };
    watch = λ early h late is. no_observer_falls members spares k.first k.others early h (front early (h ∷ late) is).happenings;
    learns = λ early h late is. every_observer_learns members spares k.first k.others early h (until early h late is).happenings;
  }
