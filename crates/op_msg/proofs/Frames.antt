-- What a message carries in a frame between servers, and what stands there beside it.
use Rattle.std.proofs.Common.{◌≡◌, ℕ, ◌+◌, ◌*◌, ◌≤◌, Bool, true, false, List, [], ◌∷◌, ◌++◌, length, All, length-append, arith}
use Rattle.std.proofs.lemmas.List.Elements.{All-head, All-tail}
use Rattle.std.specs.List.{flat_map}
use Rattle.std.specs.Int.{w8, w32, w64}
use Rattle.op_types.specs.Limits.{most_part_bytes, most_peer_body}
use Rattle.op_types.specs.Ranges.{MembersInRange, WriteInRange, OpInRange, EntryInRange}
use Rattle.op_types.specs.Cutting.{write_size, writes_size, op_size, entry_size, entries_size}
use Rattle.op_types.specs.declared.log.Op.{Op}
use Rattle.op_types.specs.declared.log.Op.TheVariants.{Put, Del, Get, Cas, Many, Forget}
use Rattle.op_types.specs.declared.writes.Write.{Write}
use Rattle.op_types.specs.declared.writes.Write.TheVariants as write
use Rattle.op_types.specs.declared.log.Entry.{Entry}
use Rattle.op_types.specs.declared.log.Entry.TheVariants as entry_of
use Rattle.op_types.specs.declared.ballot.Ballot.{Ballot}
use Rattle.op_types.specs.declared.messages.Body.{Body}
use Rattle.op_types.specs.declared.messages.Body.TheVariants as variant
use Rattle.op_types.specs.declared.messages.Watch.TheVariants as watch
use Rattle.op_types.specs.declared.messages.Msg.{Msg}
use Rattle.op_types.specs.declared.runs.PromisedRun.{PromisedRun}
use Rattle.op_types.specs.declared.runs.SyncRun.{SyncRun}
use Rattle.op_types.specs.declared.runs.Piece.{Piece}
use Rattle.op_fields.specs.Form.{encoded}
use Rattle.op_fields.proofs.Formats.{wide8, wide32, wide64}
use Rattle.op_entry.specs.Forms.{ballot, members, entries}
use Rattle.op_entry.proofs.Sizes.{ballot_len, members_len, entry_len, each_len, entries_len}
use Rattle.op_msg.specs.Ranges.{BodyInRange, AddressedInRange}
use Rattle.op_msg.specs.Forms.{flag, told, told_run, promised_run, sync_run, piece, forwarded, body_tag, body_text, msg, addressed}
use Rattle.op_msg.specs.Sizes.{carried_size}

-- ---- what stands beside them

-- a field, and what follows it
after64 : (n : ℕ) (rest : List ℕ) → length (encoded w64 n ++ rest) ≡ 8 + length rest
after64 n rest = omega (arith, length-append (encoded w64 n) rest, wide64.len n)

after32 : (n : ℕ) (rest : List ℕ) → length (encoded w32 n ++ rest) ≡ 4 + length rest
after32 n rest = omega (arith, length-append (encoded w32 n) rest, wide32.len n)

after8 : (n : ℕ) (rest : List ℕ) → length (encoded w8 n ++ rest) ≡ 1 + length rest
after8 n rest = omega (arith, length-append (encoded w8 n) rest, wide8.len n)

after_ballot : (b : Ballot) (rest : List ℕ) → length (ballot.text b ++ rest) ≡ 12 + length rest
after_ballot b rest = omega (arith, length-append (ballot.text b) rest, ballot_len b)

after_members : (ids : List ℕ) (rest : List ℕ) → MembersInRange ids → length (members.text ids ++ rest) ≤ 125 + length rest
after_members ids rest fit = omega (arith, length-append (members.text ids) rest, members_len ids, fit.few)

-- a position in a ballot
length_in_len : (b : Ballot) (n : ℕ) → length (ballot.text b ++ encoded w64 n) ≡ 20
length_in_len b n = omega (arith, after_ballot b (encoded w64 n), wide64.len n)

-- a position and the entries from there on
from_len : (n : ℕ) (es : List Entry) → length (encoded w64 n ++ entries.text es) ≡ 16 + entries_size es
from_len n es = omega (arith, after64 n (entries.text es), entries_len es)

told_len : (fl fd s : ℕ) (es : List Entry) → length (told.text (fl, (fd, (s, es)))) ≡ 32 + entries_size es
told_len fl fd s es = omega (arith, after64 fl (encoded w64 fd ++ (encoded w64 s ++ entries.text es)), after64 fd (encoded w64 s ++ entries.text es), from_len s es)

promised_run_len : (r : PromisedRun) → length (promised_run.text r) ≡ 52 + entries_size r.run
promised_run_len r =
    omega (arith, after_ballot r.accepted (told_run.text (r.len, (r.decided, (r.start, (r.at, r.run))))), after64 r.len (told.text (r.decided, (r.start, (r.at, r.run)))), told_len r.decided r.start r.at r.run)

sync_run_len : (r : SyncRun) → length (sync_run.text r) ≡ 32 + entries_size r.run
sync_run_len r = told_len r.start r.end r.at r.run

counted_len : (b : List ℕ) → length (encoded w64 (length b) ++ b) ≡ 8 + length b
counted_len b = after64 (length b) b

piece_len : (p : Piece) → length (piece.text p) ≡ 32 + length p.bytes
piece_len p =
    omega (arith, after64 p.at (encoded w64 p.total ++ (encoded w64 p.from ++ (encoded w64 (length p.bytes) ++ p.bytes))), after64 p.total (encoded w64 p.from ++ (encoded w64 (length p.bytes) ++ p.bytes)), after64 p.from (encoded w64 (length p.bytes) ++ p.bytes), counted_len p.bytes)

-- whatever is said takes little more than what it carries
body_len : (b : Body) → BodyInRange b → length (body_text b) ≤ 300 + carried_size b
body_len (variant.HeartbeatRequest r) fit = omega (arith, wide64.len r)
body_len (variant.HeartbeatReply r own heard) fit = omega (arith, after64 r (ballot.text own ++ flag.text heard), after_ballot own (flag.text heard), flag_len heard)
  where
    flag_len : (b : Bool) → length (flag.text b) ≡ 1
    flag_len true = wide8.len 1
    flag_len false = wide8.len 0
body_len (variant.Prepare n na nl nd) fit = omega (arith, after_ballot n (ballot.text na ++ (encoded w64 nl ++ encoded w64 nd)), after_ballot na (encoded w64 nl ++ encoded w64 nd), after64 nl (encoded w64 nd), wide64.len nd)
body_len (variant.Promise n fa fl fd s es) fit = omega (arith, after_ballot n (ballot.text fa ++ told.text (fl, (fd, (s, es)))), after_ballot fa (told.text (fl, (fd, (s, es)))), told_len fl fd s es)
body_len (variant.AcceptSync n x es) fit = omega (arith, after_ballot n (encoded w64 x ++ entries.text es), from_len x es)
body_len (variant.Accept n a es) fit = omega (arith, after_ballot n (encoded w64 a ++ entries.text es), from_len a es)
body_len (variant.Accepted n x) fit = omega (arith, length_in_len n x)
body_len (variant.Decide n x) fit = omega (arith, length_in_len n x)
body_len variant.PrepareReq fit = omega arith
body_len (variant.Refuse n b) fit = omega (arith, after_ballot n (ballot.text b), ballot_len b)
body_len (variant.Forward e) fit = omega (arith, entry_len e)
body_len (variant.TrimAsk n) fit = omega (arith, ballot_len n)
body_len (variant.Progress n x) fit = omega (arith, length_in_len n x)
body_len (variant.Trim x) fit = omega (arith, wide64.len x)
body_len (variant.NextConf next olds len trimmed) fit = omega (arith, after_members next (members.text olds ++ (encoded w64 len ++ encoded w64 trimmed)) fit.0, after_members olds (encoded w64 len ++ encoded w64 trimmed) fit.1, after64 len (encoded w64 trimmed), wide64.len trimmed)
body_len variant.AskBase fit = omega arith
body_len (variant.BasePart at b) fit = omega (arith, after64 at (encoded w64 (length b) ++ b), counted_len b)
body_len (variant.AskSegment from to) fit = omega (arith, after64 from (encoded w64 to), wide64.len to)
body_len (variant.Segment at es) fit = omega (arith, from_len at es)
body_len (variant.PromisePart n part) fit = omega (arith, after_ballot n (promised_run.text part), promised_run_len part)
body_len (variant.AcceptSyncPart n part) fit = omega (arith, after_ballot n (sync_run.text part), sync_run_len part)
body_len (variant.BasePiece p) fit = omega (arith, piece_len p)
body_len (variant.Confirm n number) fit = omega (arith, length_in_len n number)
body_len (variant.Confirmed n number) fit = omega (arith, length_in_len n number)
body_len (variant.Watch (watch.Ask from)) fit = omega (arith, wide64.len from)
body_len (variant.Watch (watch.Shown at es)) fit = omega (arith, from_len at es)
body_len (variant.Watch (watch.Base ms p)) fit = omega (arith, after_members ms (piece.text p) fit.0, piece_len p)
body_len (variant.Forwards es) fit = omega (arith, after64 (length es) (flat_map forwarded.text es), each_len es)

pub frame_fits : (x : ℕ × ℕ × Msg) → AddressedInRange x → carried_size x.2.body ≤ most_part_bytes → length (addressed.text x) ≤ most_peer_body
frame_fits x range few =
    let m : Msg = x.2 in
    let b : List ℕ = body_text m.body in
    omega (arith, after32 x.0 (encoded w32 x.1 ++ msg.text m), after32 x.1 (msg.text m), after8 (body_tag m.body) (encoded w32 m.conf ++ b), after32 m.conf b, body_len m.body range.message.body, few)
