-- What an observer lacks of entries that it takes.
use Rattle.std.proofs.Common.{◌≡◌, ◌≤◌, ◌<◌, ℕ, ◌+◌, ◌-◌, ◌==◌, ◌&&◌, true, leb, ltb, List, length, drop, arith}
use Rattle.std.proofs.lemmas.Bool.{and_parts, ltb-true, leb-true}
use Rattle.std.proofs.lemmas.List.{length-drop}
use Rattle.std.proofs.lemmas.List.Elements.{All-drop}
use Rattle.op_types.specs.Limits.{positions_end}
use Rattle.op_types.specs.Changes.{IsCommand, EndsNowhere, len_of}
use Rattle.op_types.specs.declared.durable.Part.{Part}
use Rattle.op_types.specs.declared.log.Entry.{Entry}
use Rattle.op_protocol.specs.Parts.{is_admitted}
use Rattle.op_protocol.specs.Watching.{takes_shown}
use Rattle.op_protocol.proofs.Admitted.{admitted_ends, admitted_stops}

-- what is known where entries are taken
pub record Takes (p : Part) (at : ℕ) (es : List Entry) : Type 0 where
  pub low : at ≤ len_of p
  pub high : len_of p < at + length es
  pub admitted : is_admitted p at es ≡ true

pub takes_of : (p : Part) (c at : ℕ) (es : List Entry) → takes_shown p c at es ≡ true → Takes p at es
takes_of p c at es is =
    let a = and_parts (p.conf == c)
    (leb at (len_of p) && (ltb (len_of p) (at + length es) && is_admitted p at es)) is in
    let b = and_parts (leb at (len_of p)) (ltb (len_of p) (at + length es) && is_admitted p at es) a.1 in
    let d = and_parts (ltb (len_of p) (at + length es)) (is_admitted p at es) b.1 in
    record {
      low = leb-true at (len_of p) b.0;
      high = ltb-true (len_of p) (at + length es) d.0;
      admitted =
          d.1;
    }

module _ (p : Part) (at : ℕ) (es : List Entry) (takes : Takes p at es) where
  -- those that it lacks end where all of those that came end
  pub taken_ends : len_of p + length (drop (len_of p - at) es) ≡ at + length es
  taken_ends =
      let low = takes.low in
      let high = takes.high in
      let size = length-drop (len_of p - at) es in
      omega arith

  -- so there are positions for them
  pub lacks_room : len_of p + length (drop (len_of p - at) es) ≤ positions_end
  lacks_room =
      let end = taken_ends in
      let small = admitted_ends p at es takes.admitted in
      omega arith

  -- and no stop-sign is among them in the last configuration
  pub lacks_stops : EndsNowhere p.conf (drop (len_of p - at) es)
  lacks_stops last = All-drop IsCommand (len_of p - at) es (admitted_stops p at es takes.admitted last)
