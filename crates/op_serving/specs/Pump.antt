-- The serving loop: what it asks of net and clock next, and what it does with the answer.
-- All of it is a function of the answers, of the marks of what was lost for want of memory,
-- and of what came of each input.
use Rattle.std.specs.Prelude.{◌+◌, ◌-◌, ◌*◌, ◌++◌, ◌∷◌, [], ℕ, min, List, map, length, ◌&&◌, not, nat_lt, if◌then◌else◌, Option, Some, None}
use Rattle.op_outside.specs.Nets.{Call, Dialled, Waited, Readied, WasRead, Wrote, Closed, Seen, SawBytes, SawEnd, SawFault}
use Rattle.op_outside.specs.declared.net.Addr.{Addr}
use Rattle.op_outside.specs.declared.net.Happening.{Happening}
use Rattle.op_outside.specs.declared.net.Happening.TheVariants.{Accepted, Readable, Writable, Ended}
use Rattle.op_outside.specs.declared.net.Took.{Took}
use Rattle.op_outside.specs.declared.net.Took.TheVariants as took
use Rattle.op_serving.specs.declared.serve_end.ServeEnd.{ServeEnd}
use Rattle.op_serving.specs.declared.serve_end.ServeEnd.TheVariants as ends
use Rattle.op_serving.specs.Cores.{Standing}
use Rattle.op_serving.specs.Losses.{most_marks}
use Rattle.op_serving.specs.State.{is_open, session_of}
use Rattle.op_serving.specs.Inputs.{State, Luck, flushed, over}
use Rattle.op_serving.specs.Reading.{read}
use Rattle.op_serving.specs.Turns.{at_happening, turn_begun, accepted, dialled, ticked, trimmed, waiting, waiting_from, wrote}

-- how many bytes a read asks for
abbrev pub piece_len : ℕ
piece_len = 65536

-- the place of the writes, behind that of the last happening
abbrev pub writes_place : ℕ
writes_place = 65

abbrev pub last_time : ℕ
last_time = 18446744073709551615

-- by how many ticks the round behind a late tick is longer at most
abbrev pub most_ticks_longer : ℕ
most_ticks_longer = 10

-- When the next tick is due, behind one that was due at one time and is given at another: a tick that
-- comes late makes the round behind it longer by twice what it was late, and by so many ticks at most.
abbrev pub next_due : ℕ → ℕ → ℕ → ℕ
next_due tick_ms due now = min (now + tick_ms + min (2 * (now - due)) (most_ticks_longer * tick_ms)) last_time

-- what is set
pub record Settings : Type 0 where
  pub tick_ms : ℕ
  pub turns : ℕ
  pub peers : List (ℕ × Addr)
  pub trim_every : Option ℕ

-- where the loop is
pub data Stage : Type 0 where
  turn : Stage  -- another turn, if one is left
  time : ℕ → Stage  -- the clock, before so many happenings
  dials : List (ℕ × Addr) → ℕ → Stage  -- these peers, before so many happenings
  asks : ℕ → ℕ → Stage  -- the happenings from this on, of so many
  reads : ℕ → ℕ → ℕ → Stage  -- a connection, before these happenings
  writes : ℕ → Stage  -- the queues from this connection on
  stop : ServeEnd → Stage

-- the driver, the turns that are left, the clock's last answer, and when the next tick is due
pub record Pump : Type 0 where
  pub at : Stage
  pub driver : State
  pub left : ℕ
  pub last : ℕ
  pub due : ℕ

-- what is asked
pub data Ask : Type 0 where
  wait : ℕ → Ask
  clock : Ask
  dial : Addr → Ask
  ready : ℕ → Ask
  read_from : ℕ → Ask
  write_to : ℕ → List ℕ → Ask
  nothing : Ask

-- what is answered
pub data Answer : Type 0 where
  was_waited : Option ℕ → Answer
  was_told : ℕ → Answer
  was_dialled : Option (Option ℕ) → Answer
  was_readied : Happening → Answer
  was_seen : Seen → Answer
  was_written : Option Took → Answer
  no_answer : Answer

-- the calls of the net: the one that was answered
abbrev pub call_of : Ask → Answer → List Call
call_of (wait ms) (was_waited a) = Waited ms a ∷ []
call_of (dial addr) (was_dialled a) = Dialled addr a ∷ []
call_of (ready i) (was_readied a) = Readied i a ∷ []
call_of (read_from c) (was_seen a) = WasRead c piece_len a ∷ []
call_of (write_to c piece) (was_written a) = Wrote c piece a ∷ []
call_of _ _ = []

module _ (o : Settings) (l : Luck) (line : Standing → List ℕ) where
  -- ---- what is asked next

  -- a peer with a smaller id and without a session is dialled
  abbrev pub dial_next : List (ℕ × Addr) → State → Ask
  dial_next [] s = nothing
  dial_next (p ∷ ps) s = if nat_lt p.0 s.loop.me
      then elim (session_of p.0 s.loop) [ None ↦ dial p.1 | Some c ↦ nothing ]
      else nothing

  abbrev pub write_next : Option ℕ → State → Ask
  write_next None s = nothing
  write_next (Some c) s = write_to c (waiting c s)

  abbrev pub ask : Pump → Ask
  ask p = elim p.at [
    | turn ↦ if nat_lt 0 p.left && not p.driver.loop.ending then wait (p.due - p.last) else nothing
    | time k ↦ clock
    | dials ps k ↦ dial_next ps p.driver
    | asks i k ↦ if nat_lt i k then ready i else nothing
    | reads c i k ↦ read_from c
    | writes low ↦ write_next (waiting_from low p.driver.loop.sessions) p.driver
    | stop e ↦ nothing
  ]

  -- ---- what is done with the answer

  abbrev pub to : Stage → State → Pump → Pump
  to stage s p = record p { at = stage; driver = s }

  abbrev pub has_waited : Answer → Pump → Pump
  has_waited (was_waited None) p = to (stop ends.NetFault) (turn_begun p.driver) p
  has_waited (was_waited (Some k)) p = record (to (time k) (turn_begun p.driver) p) { left = p.left - 1 }
  has_waited _ p = to (stop (if p.driver.loop.ending then ends.Ended else ends.TurnsOver)) p.driver p

  abbrev pub has_told : ℕ → Answer → Pump → Pump
  has_told k (was_told t) p = if nat_lt t p.due
      then record (to (asks 0 k) p.driver p) { last = t }
      else record (to (dials o.peers k) (trimmed l o.trim_every (ticked l p.driver)) p)
      { last = t; due = next_due o.tick_ms p.due t }
  has_told k _ p = p

  abbrev pub has_dialled : List (ℕ × Addr) → ℕ → Answer → Pump → Pump
  has_dialled [] k a p = to (asks 0 k) p.driver p
  has_dialled (q ∷ qs) k (was_dialled None) p = to (stop ends.NetFault) p.driver p
  has_dialled (q ∷ qs) k (was_dialled (Some (Some c))) p = to (dials qs k) (dialled l q.0 c p.driver) p
  has_dialled (q ∷ qs) k _ p = to (dials qs k) p.driver p

  -- a happening; behind the last one all that was gathered is given, and then come the writes
  abbrev pub happens : ℕ → ℕ → Answer → Pump → Pump
  happens i k (was_readied (Accepted c)) p =
      to (asks (i + 1) k) (accepted l c (at_happening (i + 1) p.driver)) p
  happens i k (was_readied (Readable c)) p =
      to (if is_open c p.driver.loop then reads c i k else asks (i + 1) k) (at_happening (i + 1) p.driver) p
  happens i k (was_readied (Writable c)) p = to (asks (i + 1) k) (at_happening (i + 1) p.driver) p
  happens i k (was_readied (Ended c)) p = to (asks (i + 1) k) (over l c (at_happening (i + 1) p.driver)) p
  happens i k _ p = to (writes 0) (flushed l (at_happening writes_place p.driver)) p

  abbrev pub has_read : ℕ → ℕ → ℕ → Answer → Pump → Pump
  has_read c i k (was_seen (SawBytes bytes)) p = to (asks (i + 1) k) (read l line c bytes p.driver) p
  has_read c i k (was_seen SawEnd) p = to (asks (i + 1) k) (over l c p.driver) p
  has_read c i k (was_seen SawFault) p = to (stop ends.NetFault) p.driver p
  has_read c i k _ p = to (asks (i + 1) k) p.driver p

  -- a queue is written until it is empty or takes no more
  abbrev pub writes_at : Option ℕ → Answer → Pump → Pump
  writes_at None a p = to turn p.driver p
  writes_at (Some c) (was_written None) p = to (stop ends.NetFault) p.driver p
  writes_at (Some c) (was_written (Some (took.Bytes n))) p = to (writes c) (wrote l c n p.driver) p
  writes_at (Some c) (was_written (Some took.Ended)) p = to (writes (c + 1)) (over l c p.driver) p
  writes_at (Some c) _ p = to (writes (c + 1)) p.driver p

  abbrev pub answered : Answer → Pump → Pump
  answered a p = elim p.at [
    | turn ↦ has_waited a p
    | time k ↦ has_told k a p
    | dials ps k ↦ has_dialled ps k a p
    | asks i k ↦ happens i k a p
    | reads c i k ↦ has_read c i k a p
    | writes low ↦ writes_at (waiting_from low p.driver.loop.sessions) a p
    | stop e ↦ p
  ]

  -- then the connections that the driver gave are closed; with the last mark serving stops
  abbrev pub shut : Pump → Pump
  shut p = record p {
    at = if nat_lt (length p.driver.loop.lost) most_marks then p.at else stop ends.Starved;
    driver = record p.driver { loop = record p.driver.loop { closes = [] } };
  }

  -- ---- a run, as a function of the answers

  abbrev pub after : List Answer → Pump → Pump
  after [] p = p
  after (a ∷ more) p = after more (shut (answered a p))

  abbrev pub calls : List Answer → Pump → List Call
  calls [] p = []
  calls (a ∷ more) p =
      call_of (ask p) a ++ map Closed (answered a p).driver.loop.closes ++ calls more (shut (answered a p))
