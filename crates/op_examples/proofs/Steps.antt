-- Where positions end, given from outside: a sole leader takes a command at the last one, and none behind it.
use Rattle.std.proofs.Common.{◌≡◌, ℕ, [], ◌∷◌, ◌-◌, Option, Some, None, refl}
use Rattle.op_types.specs.Limits.{positions_end}
use Rattle.op_types.specs.Roles.{Leading}
use Rattle.op_types.specs.declared.ballot.Ballot.{Ballot}
use Rattle.op_types.specs.declared.durable.Durable.{Durable}
use Rattle.op_types.specs.declared.log.Op.TheVariants.{Del}
use Rattle.op_types.specs.declared.log.Entry.TheVariants as entry
use Rattle.op_types.specs.declared.answers.Outcome.{Outcome}
use Rattle.op_types.specs.declared.answers.Outcome.TheVariants as outcome
use Rattle.op_types.specs.declared.answers.Refusal.TheVariants as refusal
use Rattle.op_protocol.specs.State.{Volatile}
use Rattle.op_protocol.specs.Starting.{first_volatile}
use Rattle.op_protocol.specs.Rows.{proposal_step}

-- the ballot that server 1 leads
abbrev own : Ballot
own = record { number = 1; pid = 1 }

-- it has decided and trimmed so many entries, and stores nothing else
abbrev stored : ℕ → Durable
stored n = record {
  part = Some (record {
    conf = 1;
    members = 1 ∷ [];
    promised = own;
    accepted = own;
    base = [];
    trimmed = n;
    tail = record { items = []; room = 0 };
    decided = n;
  });
  closed = None;
  joining = None;
}

abbrev leading : Volatile
leading = record (first_volatile 1) {
  role = Leading (record {
    ballot = own;
    adopted_round = own;
    adopted_len = 0;
    synced = [];
    acknowledged = [];
    reports = [];
  });
}

-- what it answers client 7's command 1, to delete `a`
abbrev answered : ℕ → Option Outcome
answered n = (proposal_step 1 (stored n) leading
    (entry.Command (record { client = 7; seq = 1; op = Del (97 ∷ []) }) ∷ [])).outcome

takes_the_last_position : answered (positions_end - 1) ≡ Some (outcome.Appended 1 (positions_end - 1))
takes_the_last_position = refl

takes_none_behind_it : answered positions_end ≡ Some (outcome.Refused refusal.PositionsEnd)
takes_none_behind_it = refl
