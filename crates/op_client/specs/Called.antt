-- What a call promises.
use Rattle.std.specs.Prelude.{◌≡◌, ◌≤◌, ◌+◌, ◌==◌, ◌++◌, ◌∷◌, [], ℕ, List, take, Bool, true, false, Some, None, Ok, Err}
use Rattle.std.specs.List.{list_any}
use Rattle.op_types.specs.declared.events.Request.{Request}
use Rattle.op_outside.specs.Causes.{Rises}
use Rattle.op_outside.specs.Telling.{Grows}
use Rattle.op_outside.specs.Nets.{Call, Dialled, Waited, Readied, WasRead, Wrote, SawBytes, SawEnd, has_failed}
use Rattle.op_outside.specs.Seen.{NetSeen}
use Rattle.op_outside.specs.declared.net.Addr.{Addr}
use Rattle.op_outside.specs.declared.net.Happening.TheVariants.{Ended}
use Rattle.op_outside.specs.declared.net.Took.TheVariants as took
use Rattle.op_command.specs.Ranges.{ReplyInRange}
use Rattle.op_command.specs.Replies.{reply_form}
use Rattle.op_frame.specs.Framing.{BeginsWith, TellsTooLong}
use Rattle.op_client.specs.declared.call_fail.CallFail.TheVariants as fail
use Rattle.op_client.specs.Rules.{Client, Ending, Event, net, starved, at, turn, over, most_waits, request_bytes, fresh, stream, IsNoReply}
use Rattle.op_client.specs.Run.{Run, calls}

-- ---- a whole call

-- all that happens in a call: it finds no memory before its dial; the dial fails;
-- it gives no connection; or what happens at the connection that it gives
pub data Happens (addr : Addr) (request : Request) : List Event → Ending → Type 0 where
  starves : Happens addr request (starved ∷ []) (Err fail.NoMemory)
  dials_failing : Happens addr request (net (Dialled addr None) ∷ []) (Err fail.NetFault)
  dials_in_vain : Happens addr request (net (Dialled addr (Some None)) ∷ []) (Err fail.NoReply)
  dials : {c k : ℕ} {s : Client} {es : List Event} {e : Ending}
      → Run c (at turn most_waits (fresh request)) es (at (over e) k s)
      → Happens addr request (net (Dialled addr (Some (Some c))) ∷ es) e

-- ---- of its calls of the net

-- the bytes that the writes took
abbrev pub taken_in : Call → List ℕ
taken_in (Wrote c piece (Some (took.Bytes n))) = take n piece
taken_in _ = []

abbrev pub taken : List Call → List ℕ
taken [] = []
taken (x ∷ xs) = taken_in x ++ taken xs

-- the bytes that the reads gave
abbrev pub seen_in : Call → List ℕ
seen_in (WasRead c room (SawBytes bytes)) = bytes
seen_in _ = []

abbrev pub seen : List Call → List ℕ
seen [] = []
seen (x ∷ xs) = seen_in x ++ seen xs

-- how many waits there were
abbrev pub waited_in : Call → ℕ
waited_in (Waited ms answer) = 1
waited_in _ = 0

abbrev pub waited : List Call → ℕ
waited [] = 0
waited (x ∷ xs) = waited_in x + waited xs

-- a write took nothing
abbrev pub is_held_back : Call → Bool
is_held_back (Wrote c piece (Some took.NotYet)) = true
is_held_back (Wrote c piece (Some took.Ended)) = true
is_held_back (Wrote c piece None) = true
is_held_back _ = false

-- a dial gave no connection
abbrev pub is_in_vain : Call → Bool
is_in_vain (Dialled addr (Some None)) = true
is_in_vain _ = false

-- a dial gave this connection
abbrev pub gives : ℕ → Call → Bool
gives c (Dialled addr (Some (Some d))) = d == c
gives c _ = false

-- a connection has ended
abbrev pub tells_end : ℕ → Call → Bool
tells_end c (Wrote d piece (Some took.Ended)) = d == c
tells_end c (WasRead d room SawEnd) = d == c
tells_end c (Readied i (Ended d)) = d == c
tells_end c _ = false

-- ---- why it ends so

-- the first frame that was read has this body
abbrev pub IsFirst : List Call → List ℕ → Type 0
IsFirst xs body = (rest : List ℕ) × BeginsWith (stream (seen xs)) body rest

-- why there is no reply
pub data WhyNone (xs : List Call) : Type 0 where
  no_connection : list_any is_in_vain xs ≡ true → WhyNone xs
  has_ended : (c : ℕ) → list_any (gives c) xs ≡ true → list_any (tells_end c) xs ≡ true → WhyNone xs
  is_no_reply : (body : List ℕ) → IsFirst xs body → IsNoReply body → WhyNone xs
  is_too_long : (len : ℕ) → TellsTooLong (stream (seen xs)) len → WhyNone xs

-- why a call with these calls of the net ends so; memory is free
abbrev pub Why : Ending → List Call → Type 0
Why (Ok r) xs = ReplyInRange r × IsFirst xs (reply_form.text r)
Why (Err fail.NoReply) xs = WhyNone xs
Why (Err fail.TurnsOver) xs = waited xs ≡ most_waits
Why (Err fail.NetFault) xs = has_failed xs ≡ true
Why (Err fail.NoMemory) xs = Unit {0}

-- the writes took a prefix of these bytes, and all of them
-- where there was a connection and it took some of each write
pub record Sends (bytes : List ℕ) (xs : List Call) : Type 0 where
  pub rest : List ℕ
  pub split : taken xs ++ rest ≡ bytes
  pub all : (c : ℕ) → list_any (gives c) xs ≡ true → list_any is_held_back xs ≡ false → rest ≡ []

-- a net's count of faults rose only where a call ended so
abbrev pub Faults : Ending → ℕ → ℕ → Type 0
Faults (Err fail.NetFault) before now = Rises before now
Faults _ before now = now ≡ before

-- What a call promises. What happened is by the rules, and the net tells its calls. They say what was
-- written, how many waits there were, and why it ended so.
pub record Calls (addr : Addr) (request : Request) (e : Ending) (net0 net1 : NetSeen) : Type 0 where
  pub events : List Event
  pub happens : Happens addr request events e
  pub told : Grows net0.0 (calls events) net1.0
  pub faults : Faults e net0.1 net1.1
  pub sends : Sends (request_bytes request) (calls events)
  pub few_waits : waited (calls events) ≤ most_waits
  pub why : Why e (calls events)
