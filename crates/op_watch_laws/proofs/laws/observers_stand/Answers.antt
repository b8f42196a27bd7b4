-- What is known of observers.
use Rattle.op_watch_laws.proofs.laws.observers_stand.Goals as goal
use Rattle.op_watch_laws.proofs.Every.{every_observer_stands, every_shown_is_true, no_observer_falls}
use Rattle.op_watch_laws.proofs.Apart.{every_observer_is_apart}
use Rattle.op_watch_laws.proofs.Unowned.{no_ballot_of_others}
use Rattle.op_watch_laws.proofs.Learning.{every_observer_learns}

pub returns : goal.returns
returns c = record {
  stands = every_observer_stands;
  shown = every_shown_is_true;
  falls = no_observer_falls;
  apart = every_observer_is_apart;
  unowned = no_ballot_of_others;
  learns = every_observer_learns;
}
