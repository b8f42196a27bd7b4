-- What a server keeps for elections.
use Rattle.op_types.specs.declared.election_state.ElectionState.{ElectionState}
use Rattle.op_protocol.specs.Election.{Candidate}

-- what it keeps
abbrev pub state_of : Candidate → ElectionState
state_of c = record { own = c.own; leader = c.leader; floor = c.floor; flag = c.flag }

-- the same server, when it keeps this
abbrev pub with_state : Candidate → ElectionState → Candidate
with_state c s = record c { own = s.own; leader = s.leader; floor = s.floor; flag = s.flag }
