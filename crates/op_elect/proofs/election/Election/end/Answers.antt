use Rattle.op_elect.proofs.Found.{unheard_by, raised_by, exhausted_by, elected_by, unchanged_by, of_view}
use Rattle.op_elect.proofs.election.Election.end.Goals as goal

pub returns-then-not-self : goal.returns-then-not-self
returns-then-not-self c = of_view _ _ _ _ _ c.self.view_is (unheard_by _ _ _ c.is_majority-self-inside.ensures c.if-not-self.true)

pub returns-in_default : goal.returns-in_default
returns-in_default c =
    of_view _ _ _ _ _ c.self.view_is
    (exhausted_by _ _ _ _ _ _ _ (record { flag = c.is_majority-self-inside.ensures; majority = c.if-not-self.false; winner = c.greatest-winner.ensures; least = c.greater-least.ensures }) c.is_below.ensures c.if-is_below.true c.ballot_above.ensures c.in_default.is)

pub returns-then-is_below : goal.returns-then-is_below
returns-then-is_below c =
    of_view _ _ _ _ _ c.self.view_is
    (raised_by _ _ _ _ _ _ _ _ (record { flag = c.is_majority-self-inside.ensures; majority = c.if-not-self.false; winner = c.greatest-winner.ensures; least = c.greater-least.ensures }) c.is_below.ensures c.if-is_below.true c.ballot_above.ensures c.in-Some.is)

pub returns-then-not-is_below : goal.returns-then-not-is_below
returns-then-not-is_below c =
    of_view _ _ _ _ _ c.self.view_is
    (unchanged_by _ _ _ _ _ _ _ (record { flag = c.is_majority-self-inside.ensures; majority = c.if-not-self.false; winner = c.greatest-winner.ensures; least = c.greater-least.ensures }) c.is_below.ensures c.if-is_below.false c.is_below-2.ensures c.if-not-is_below.true)

pub returns : goal.returns
returns c =
    of_view _ _ _ _ _ c.self.view_is
    (elected_by _ _ _ _ _ _ _ (record { flag = c.is_majority-self-inside.ensures; majority = c.if-not-self.false; winner = c.greatest-winner.ensures; least = c.greater-least.ensures }) c.is_below.ensures c.if-is_below.false c.is_below-2.ensures c.if-not-is_below.false)
