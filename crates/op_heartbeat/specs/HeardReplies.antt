-- What a server keeps of its heartbeat rounds.
use Rattle.std.specs.Prelude.{◌≡◌, ℕ, nat_eq, true, List, [], map}
use Rattle.std.specs.Set.{is_member}
use Rattle.op_types.specs.declared.messages.Heard.{Heard}
use Rattle.op_protocol.specs.Heartbeats.{next_round, heard_in}
use Rattle.op_types.specs.Ranges.{IsMember}

-- a server, the members, the current round and its replies
pub record HeardReplies : Type 0 where
  pub me : ℕ
  pub members : List ℕ
  pub round : ℕ  -- 0 before the first one
  pub heard : List Heard  -- one of each sender

-- those that replied
abbrev pub senders : List Heard → List ℕ
senders heard = map (λ h. h.from) heard

-- before the first round
abbrev pub heard_replies_of : ℕ → List ℕ → HeardReplies
heard_replies_of me members = record { me = me; members = members; round = 0; heard = [] }

-- the next round, in which nobody has replied yet
abbrev pub round_begun : HeardReplies → HeardReplies
round_begun h = record h { round = next_round h.round; heard = [] }

-- after a reply for some round came
abbrev pub reply_taken : HeardReplies → ℕ → Heard → HeardReplies
reply_taken h round reply = record h { heard = heard_in h.me h.members h.round h.heard round reply }
