-- What an observer's step stores applies, and leaves positions that fit.
use Rattle.std.proofs.Common.{◌≡◌, ◌≤◌, ℕ, ◌+◌, ◌-◌, List, [], ◌∷◌, ◌++◌, length, drop, Option, Some, None, refl, sym, subst, arith, length-append}
use Rattle.std.specs.Prelude.{IfSome}
use Rattle.std.proofs.lemmas.Bool.{cond_both}
use Rattle.std.proofs.lemmas.List.Elements.{All-head}
use Rattle.op_types.specs.Stops.{stop_at_end}
use Rattle.op_types.specs.Stages.{Pieces, with_piece, whole_bytes}
use Rattle.op_types.specs.Changes.{EndsNowhere, len_of, Applies, durable_after}
use Rattle.op_types.specs.declared.changes.Change.{Change}
use Rattle.op_types.specs.declared.changes.Change.TheVariants as change
use Rattle.op_types.specs.declared.durable.Part.{Part}
use Rattle.op_types.specs.declared.durable.Closed.{Closed}
use Rattle.op_types.specs.declared.durable.Joining.{Joining}
use Rattle.op_types.specs.declared.durable.Durable.{Durable}
use Rattle.op_types.specs.declared.events.Input.{Input}
use Rattle.op_types.specs.declared.events.Input.TheVariants as input
use Rattle.op_types.specs.declared.log.Entry.{Entry}
use Rattle.op_types.specs.declared.log.StopSign.{StopSign}
use Rattle.op_types.specs.declared.messages.Body.{Body}
use Rattle.op_types.specs.declared.messages.Body.TheVariants as body
use Rattle.op_types.specs.declared.messages.Watch.TheVariants as watch
use Rattle.op_types.specs.declared.runs.Piece.{Piece}
use Rattle.op_record.specs.Ranges.{ChangeInRange, BatchInRange}
use Rattle.op_spec.specs.Service.{Service, all_after, base_bytes}
use Rattle.op_plans.specs.Positions.{FitsPositions}
use Rattle.op_protocol.specs.Bases.{is_base}
use Rattle.op_protocol.specs.State.{State, Volatile, Planned}
use Rattle.op_protocol.specs.Watching.{watch_nothing, takes_shown, shown_batch, goes_on_behind, takes_new, on_shown, takes_base_piece, pieces_for, rebases_if, stages_piece, on_base, on_watched, watch_at, watch_if}
use Rattle.op_protocol.proofs.Admitted.{admitted_ends}
use Rattle.op_watch.proofs.Lacked.{Takes, takes_of, taken_ends, lacks_stops}

module _ (me : ℕ) (s : State) (p : Part) (k : Option Closed) (j : Option Joining)
    (fits : FitsPositions p) where
  abbrev here : Durable
  here = record { part = Some p; closed = k; joining = j }

  -- a batch applies here, and leaves positions that fit
  record Leaves (batch : List Change) : Type 0 where
    applies : Applies here batch
    left : IfSome (durable_after here batch).part FitsPositions

  abbrev Good : Planned → Type 0
  Good x = BatchInRange x.batch → Leaves x.batch

  stays : (x : Planned) → x.batch ≡ [] → Good x
  stays x none range = subst Leaves (sym none) (record { applies = tt; left = fits })

  module _ (at : ℕ) (es : List Entry) (takes : Takes p at es) where
    abbrev new : List Entry
    new = drop (len_of p - at) es

    -- the part with them
    abbrev more : Part
    more = record p { tail = record p.tail { items = p.tail.items ++ new }; decided = len_of p + length new }

    more_fits : FitsPositions more
    more_fits =
        let end = taken_ends p at es takes in
        let small = admitted_ends p at es takes.admitted in
        let size = length-append p.tail.items new in
        let first : p.trimmed ≤ p.decided = fits.trimmed in
        let known : p.decided ≤ len_of p = fits.decided in
        record { trimmed = omega arith; decided = omega arith; small = omega arith }

    new_applies : (rest : List Change) → Applies (record here { part = Some more }) rest
        → Applies here (shown_batch p new ++ rest)
    new_applies rest all =
        let end = taken_ends p at es takes in
        let small = admitted_ends p at es takes.admitted in
        let size = length-append p.tail.items new in
        let known : p.decided ≤ len_of p = fits.decided in
        let stops : EndsNowhere p.conf new = lacks_stops p at es takes in
        ((omega arith, stops), ((omega arith, omega arith), all))

    shown_good : (service : Service) (o : Option StopSign) → Good (goes_on_behind me s p new service o)
    shown_good service None range = record { applies = new_applies [] tt; left = more_fits }
    shown_good service (Some stop) range =
        record {
          applies = new_applies (change.Rebase (p.conf + 1) stop.members 0 (base_bytes service) ∷ []) (omega arith, tt);
          left = record { trimmed = omega arith; decided = omega arith; small = omega arith };
        }

  entries_good : (c at : ℕ) (es : List Entry) → Good (on_shown me s p c at es)
  entries_good c at es =
      cond_both (takes_shown p c at es) (takes_new me s p (drop (len_of p - at) es)) (watch_nothing s) Good
      (λ is. shown_good at es (takes_of p c at es is) (all_after s.service (drop (len_of p - at) es))
      (stop_at_end (drop (len_of p - at) es)))
      (λ _. stays (watch_nothing s) refl)

  rebase_good : (v : Volatile) (c : ℕ) (members : List ℕ) (at : ℕ) (o : Option (List ℕ))
      → Good (rebases_if me s v c members at o)
  rebase_good v c members at None = λ range. record { applies = tt; left = fits }
  rebase_good v c members at (Some bytes) =
      cond_both (is_base bytes) _ _ Good
      (λ _ range.
      let one : ChangeInRange (change.Rebase c members at bytes) =
      All-head ChangeInRange (change.Rebase c members at bytes) [] range.each in
      record {
        applies = (one.2, tt);
        left =
            record { trimmed = omega arith; decided = omega arith; small = omega (arith, one.2) };
      })
      (λ _ range. record { applies = tt; left = fits })

  piece_good : (c : ℕ) (members : List ℕ) (x : Piece) → Good (on_base me s p c members x)
  piece_good c members x =
      let staged : Pieces = with_piece (pieces_for s.volatile c) x in
      cond_both (takes_base_piece p c x) (stages_piece me s c members x staged) (watch_nothing s) Good
      (λ _. rebase_good (record s.volatile { pieces = Some staged; pieces_conf = c }) c members x.at
      (whole_bytes staged.bytes))
      (λ _. stays (watch_nothing s) refl)

  body_good : (c : ℕ) (b : Body) → Good (on_watched me s p c b)
  body_good c (body.Watch (watch.Shown at es)) = entries_good c at es
  body_good c (body.Watch (watch.Base members x)) = piece_good c members x
  body_good c (body.Watch (watch.Ask from)) = stays (watch_nothing s) refl
  body_good c _ = stays (watch_nothing s) refl

  input_good : (x : Input) → Good (watch_at me s p x)
  input_good input.Tick = stays (watch_at me s p input.Tick) refl
  input_good (input.Deliver q m) = body_good m.conf m.body
  input_good (input.Commands cs) = stays (watch_at me s p (input.Commands cs)) refl
  input_good (input.Stop members) = stays (watch_at me s p (input.Stop members)) refl
  input_good input.TrimNow = stays (watch_at me s p input.TrimNow) refl
  input_good (input.Read r) = stays (watch_at me s p (input.Read r)) refl
  input_good (input.Up q) = stays (watch_at me s p (input.Up q)) refl
  input_good (input.Down q) = stays (watch_at me s p (input.Down q)) refl

-- the same, if there is a part
pub record LeavesFit (d : Durable) (batch : List Change) : Type 0 where
  pub applies : Applies d batch
  pub left : IfSome (durable_after d batch).part FitsPositions

pub step_fits : (me : ℕ) (s : State) (o : Option Part) (k : Option Closed) (j : Option Joining) (x : Input)
    → IfSome o FitsPositions → BatchInRange (watch_if me s o x).batch
    → (let d : Durable = record { part = o; closed = k; joining = j } in
    LeavesFit d (watch_if me s o x).batch)
step_fits me s None k j x fits range = record { applies = tt; left = tt }
step_fits me s (Some p) k j x fits range = let l = input_good me s p k j fits x range in
    record { applies = l.applies; left = l.left }
