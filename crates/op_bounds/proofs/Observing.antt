-- Each step of an observer is in range.
use Rattle.std.proofs.Common.{◌≡◌, ◌≤◌, ◌<◌, ◌+◌, ◌-◌, ◌⊎◌, ⊎_elim, ℕ, true, nat_eq, ◌&&◌, ltb, leb, eqb, is_some, List, [], ◌∷◌, length, drop, Option, Some, None, refl, ap, subst, arith, length-append, All}
use Rattle.std.specs.Prelude.{IfSome}
use Rattle.std.specs.Set.{is_member}
use Rattle.std.proofs.lemmas.Bool.{cond_both, and_parts, or_cases, ltb-true, leb-true, eqb-true, cases_lt}
use Rattle.std.proofs.lemmas.List.{length-drop}
use Rattle.std.proofs.lemmas.List.Elements.{All-nil, All-cons, All-append}
use Rattle.op_types.specs.Limits.{positions_end, last_conf}
use Rattle.op_types.specs.Changes.{len_of}
use Rattle.op_types.specs.Ranges.{IsConf, IsPlace}
use Rattle.op_types.specs.Stages.{Pieces, with_piece, whole_bytes}
use Rattle.op_types.specs.Stops.{stop_at_end, named_by}
use Rattle.op_types.specs.declared.answers.Outcome.{Outcome}
use Rattle.op_types.specs.declared.answers.Outcome.TheVariants as outcome
use Rattle.op_types.specs.declared.answers.Refusal.TheVariants as refusal
use Rattle.op_types.specs.declared.changes.Change.{Change}
use Rattle.op_types.specs.declared.changes.Change.TheVariants as change
use Rattle.op_types.specs.declared.durable.Closed.{Closed}
use Rattle.op_types.specs.declared.durable.Joining.{Joining}
use Rattle.op_types.specs.declared.durable.Part.{Part}
use Rattle.op_types.specs.declared.events.Input.{Input}
use Rattle.op_types.specs.declared.events.Input.TheVariants as input
use Rattle.op_types.specs.declared.log.Entry.{Entry}
use Rattle.op_types.specs.declared.log.StopSign.{StopSign}
use Rattle.op_types.specs.declared.messages.Body.{Body}
use Rattle.op_types.specs.declared.messages.Body.TheVariants as body
use Rattle.op_types.specs.declared.messages.Msg.{Msg}
use Rattle.op_types.specs.declared.messages.Watch.TheVariants as watch
use Rattle.op_types.specs.declared.runs.Piece.{Piece}
use Rattle.op_kv.specs.Bases.{IsBase}
use Rattle.op_reads.specs.Reads.{Reads}
use Rattle.op_record.specs.Ranges.{ChangeInRange}
use Rattle.op_spec.specs.Service.{Service, all_after, base_bytes}
use Rattle.op_protocol.specs.Bases.{is_base, service_at}
use Rattle.op_protocol.specs.Parts.{part_after, message, to_each, is_admitted}
use Rattle.op_protocol.specs.State.{State, Volatile, Waiting, Planned}
use Rattle.op_protocol.specs.Watching.{watch_keeping, watch_saying, watch_nothing, ask_body, asks_all, asks_one, takes_shown, shown_batch, goes_on_behind, takes_new, on_shown, is_ahead_of, takes_base_piece, pieces_for, rebases, rebases_if, stages_piece, on_base, on_watched, watch_at, watch_if, watch_plan}
use Rattle.op_protocol.specs.Watched.{is_watching}
use Rattle.op_protocol.proofs.Admitted.{admitted_ends}
use Rattle.op_protocol.proofs.Watching.{watch_cases}
use Rattle.op_bounds.specs.Messages.{AreIds, MembersOf, EntryOf, BodyInRange, MsgInRange, SendInRange, ReplyInRange, OutcomeInRange, InputInRange}
use Rattle.op_bounds.specs.States.{DurableOf, ObserverStateInRange}
use Rattle.op_bounds.specs.Laws.{ObserverPlanInRange, ObserverStepsStayInRange}
use Rattle.op_bounds.proofs.ReadBases.{ServiceIn, base_of, base_if_read, service_in_range}
use Rattle.op_bounds.proofs.Entries.{EntriesIn, entries_range, last_entries, admitted_in, ended_names, ended_stops}
use Rattle.op_bounds.proofs.Batches.{PartIn, BatchFits, Lands, part_in, part_in_range, part_of, after_batch, range_batch, lands, applies_both}
use Rattle.op_bounds.proofs.Beginning.{based_part_range, based_part_of}
use Rattle.op_runs.proofs.Servers.{all_at}
use Rattle.op_bounds.proofs.Effects.{send_one, send_each}
use Rattle.op_bounds.proofs.JoinChanges.{stored}
use Rattle.op_bounds.proofs.Plans.{part_bases}
use Rattle.op_bounds.proofs.Serving.{all_after_in}

-- what comes to an observer: whoever sent a message, that is in range
abbrev pub WatchComes : (ℕ → Type 0) → Input → Type 0
WatchComes Known (input.Deliver q m) = MsgInRange Known m
WatchComes Known x = InputInRange Known x

module _ (Known : ℕ → Type 0) (ids : AreIds Known) (me : ℕ) (p : Part) (l : Option Closed) (j : Option Joining) (v : Volatile) (t : Service) (w : Waiting) (r : Option Reads)
    (d : DurableOf Known (stored (Some p) l j)) (in_pieces : IfSome v.pieces (λ x. IsPlace x.at)) (in_service : ServiceIn t) where
  abbrev here : State
  here = record { durable = stored (Some p) l j; volatile = v; service = t; waiting = w; reads = r }

  abbrev Fine : Planned → Type 0
  Fine x = ObserverPlanInRange Known here x

  was : PartIn Known p
  was = part_in Known p d.range.part d.part

  -- ---- it stores nothing

  keeps : (y : Volatile) → IfSome y.pieces (λ x. IsPlace x.at) → Fine (watch_keeping here y)
  keeps y fit =
      record {
        applies = tt;
        batch = record { few = omega arith; each = All-nil ChangeInRange };
        sends = All-nil (SendInRange Known);
        replies = All-nil (ReplyInRange Known);
        read_replies = All-nil (ReplyInRange Known);
        outcome = tt;
        after = record { durable = d; pieces = fit; service = in_service.range; order = in_service.order };
      }

  says : (sends : List (ℕ × Msg)) (o : Option Outcome) → All (SendInRange Known) sends → IfSome o (OutcomeInRange Known) → Fine (watch_saying here sends o)
  says sends o said told =
      record {
        applies = tt;
        batch = record { few = omega arith; each = All-nil ChangeInRange };
        sends = said;
        replies = All-nil (ReplyInRange Known);
        read_replies = All-nil (ReplyInRange Known);
        outcome = told;
        after = record { durable = d; pieces = in_pieces; service = in_service.range; order = in_service.order };
      }

  answers : (o : Option Outcome) → IfSome o (OutcomeInRange Known) → Fine (watch_saying here [] o)
  answers o told = says [] o (All-nil (SendInRange Known)) told

  still : Fine (watch_nothing here)
  still = answers None tt

  -- ---- it asks

  asked_all : Fine (watch_saying here (asks_all p) None)
  asked_all =
      says (asks_all p) None (send_each Known p.conf p.members (ask_body p) was.range.conf (omega arith) (omega arith) was.members was.range.len) tt

  asked_one : (q : ℕ) → Fine (watch_saying here (asks_one p q) None)
  asked_one q =
      cond_both (is_member nat_eq p.members q) (message p.conf q (ask_body p) ∷ []) [] (λ (sends : List (ℕ × Msg)). Fine (watch_saying here sends None))
      (λ h. says (message p.conf q (ask_body p) ∷ []) None
      (send_one Known p.conf q (ask_body p) was.range.conf (omega arith) (omega arith) (all_at Known p.members q was.members h) was.range.len) tt)
      (λ _. still)

  -- ---- entries come

  module _ (new : List Entry) (entries : EntriesIn Known p.conf new) (room : len_of p + length new ≤ positions_end) where
    abbrev batch : List Change
    batch = shown_batch p new

    fits : BatchFits Known p batch
    fits =
        let size = length-append p.tail.items new in
        let end = was.range.decided in
        ((room, entries), ((omega (arith, end), omega (arith, size)), tt))

    abbrev more : Part
    more = part_after p batch

    more_in : PartIn Known more
    more_in = after_batch Known p batch was fits

    landed : Lands (stored None l j) p p p.base batch
    landed = lands Known (stored None l j) p p p.base batch (λ n. base_of (service_at p n) (part_bases Known p was n)) d.range.part.base fits

    ranged : All ChangeInRange batch
    ranged = range_batch Known p p batch (λ n. base_of (service_at p n) (part_bases Known p was n)) was fits

    -- what is stored then
    left : DurableOf Known (stored (Some more) l j)
    left =
        record {
          range = record { part = part_in_range Known more p.base more_in d.range.part.base; closed = d.range.closed; joining = d.range.joining };
          part = part_of Known more p.base more_in;
          closed = d.closed;
          joining = d.joining;
        }

    abbrev service : Service
    service = all_after t new

    served : ServiceIn service
    served = all_after_in Known t new (entries_range Known new entries.each) in_service

    last_below : is_some (stop_at_end new) ≡ true → p.conf < last_conf
    last_below over = ⊎_elim (λ (h : p.conf < last_conf). h)
        (λ (h : last_conf ≤ p.conf). absurd (ended_stops new over (entries.ends (omega (arith, h, was.range.conf))))) (cases_lt p.conf last_conf)

    behind : (o : Option StopSign) → stop_at_end new ≡ o → Fine (goes_on_behind me here p new service o)
    behind None is =
        record {
          applies = landed.applies;
          batch = record { few = omega arith; each = ranged };
          sends = All-nil (SendInRange Known);
          replies = All-nil (ReplyInRange Known);
          read_replies = All-nil (ReplyInRange Known);
          outcome = tt;
          after = record { durable = left; pieces = in_pieces; service = served.range; order = served.order };
        }
    behind (Some stop) is =
        let over : is_some (stop_at_end new) ≡ true = ap is_some is in
        let below : p.conf < last_conf = last_below over in
        let members : MembersOf Known stop.members = subst (λ (o : Option StopSign). MembersOf Known (named_by o)) is (ended_names Known new entries.each over) in
        let base : IsBase (base_bytes service) = base_of service served in
        let conf : IsConf (p.conf + 1) = (omega arith, omega (arith, below)) in
        let rebase : Change = change.Rebase (p.conf + 1) stop.members 0 (base_bytes service) in
        record {
          applies = applies_both (stored (Some p) l j) batch (rebase ∷ []) landed.applies (omega arith, tt);
          batch = record {
            few = omega arith;
            each = All-append ChangeInRange batch (rebase ∷ []) ranged (All-cons ChangeInRange rebase [] (conf, members.range, omega arith, base) (All-nil ChangeInRange));
          };
          sends = All-nil (SendInRange Known);
          replies = All-nil (ReplyInRange Known);
          read_replies = All-nil (ReplyInRange Known);
          outcome = tt;
          after = record {
            durable = record {
              range = record { part = based_part_range Known (p.conf + 1) stop.members 0 (base_bytes service) members conf (omega arith) base; closed = d.range.closed; joining = d.range.joining };
              part = based_part_of Known (p.conf + 1) stop.members 0 (base_bytes service) members;
              closed = d.closed;
              joining = d.joining;
            };
            pieces = tt;
            service = served.range;
            order = served.order;
          };
        }

  shown : (c at : ℕ) (es : List Entry) → All (EntryOf Known) es → Fine (on_shown me here p c at es)
  shown c at es each =
      let new : List Entry = drop (len_of p - at) es in
      cond_both (takes_shown p c at es) (takes_new me here p new) (watch_nothing here) Fine
      (λ h. let a = (and_parts (eqb p.conf c) (leb at (len_of p) && (ltb (len_of p) (at + length es) && is_admitted p at es)) h).1 in
      let b = and_parts (leb at (len_of p)) (ltb (len_of p) (at + length es) && is_admitted p at es) a in
      let e = and_parts (ltb (len_of p) (at + length es)) (is_admitted p at es) b.1 in
      let low = leb-true at (len_of p) b.0 in
      let high = ltb-true (len_of p) (at + length es) e.0 in
      let small = admitted_ends p at es e.1 in
      let size = length-drop (len_of p - at) es in
      behind new (last_entries Known p.conf (len_of p - at) es (admitted_in Known p at es each e.1)) (omega (arith, low, high, small, size)) (stop_at_end new) refl)
      (λ _. still)

  -- ---- a base comes

  -- what a piece of a base leaves
  module _ (c : ℕ) (members : List ℕ) (at : ℕ) (conf : IsConf c) (named : MembersOf Known members) (place : IsPlace at) (y : Volatile) (fit : IfSome y.pieces (λ x. IsPlace x.at)) where
    rebased : (bytes : List ℕ) → IsBase bytes → Fine (rebases me here c members at bytes)
    rebased bytes base =
        let read = service_in_range bytes in
        record {
          applies = (place, tt);
          batch = record { few = omega arith; each = All-cons ChangeInRange (change.Rebase c members at bytes) [] (conf, named.range, place, base) (All-nil ChangeInRange) };
          sends = All-nil (SendInRange Known);
          replies = All-nil (ReplyInRange Known);
          read_replies = All-nil (ReplyInRange Known);
          outcome = tt;
          after = record {
            durable = record {
              range = record { part = based_part_range Known c members at bytes named conf place base; closed = d.range.closed; joining = d.range.joining };
              part = based_part_of Known c members at bytes named;
              closed = d.closed;
              joining = d.joining;
            };
            pieces = tt;
            service = read.range;
            order = read.order;
          };
        }

    rebased_if : (o : Option (List ℕ)) → Fine (rebases_if me here y c members at o)
    rebased_if None = keeps y fit
    rebased_if (Some bytes) =
        cond_both (is_base bytes) (rebases me here c members at bytes) (watch_keeping here y) Fine (λ h. rebased bytes (base_if_read bytes h)) (λ _. keeps y fit)

  -- it is of a configuration
  ahead_conf : (c at : ℕ) → is_ahead_of p c at ≡ true → c ≤ last_conf → IsConf c
  ahead_conf c at h small = ⊎_elim (λ (above : ltb p.conf c ≡ true). let more = ltb-true p.conf c above in (omega (arith, more), small))
      (λ (same : (eqb p.conf c && ltb (len_of p) at) ≡ true).
      let is = eqb-true p.conf c (and_parts (eqb p.conf c) (ltb (len_of p) at) same).0 in (omega (arith, is, was.range.conf), small))
      (or_cases (ltb p.conf c) (eqb p.conf c && ltb (len_of p) at) h)

  based : (c : ℕ) (members : List ℕ) (x : Piece) → c ≤ last_conf → MembersOf Known members → IsPlace x.at → Fine (on_base me here p c members x)
  based c members x small named place =
      let staged : Pieces = with_piece (pieces_for v c) x in
      cond_both (takes_base_piece p c x) (stages_piece me here c members x staged) (watch_nothing here) Fine
      (λ h. let ahead = (and_parts (is_ahead_of p c x.at) (leb (x.from + length x.bytes) x.total) h).0 in
      rebased_if c members x.at (ahead_conf c x.at ahead small) named place (record v { pieces = Some staged; pieces_conf = c }) place (whole_bytes staged.bytes))
      (λ _. still)

  -- ---- whatever comes

  watched : (c : ℕ) (b : Body) → c ≤ last_conf → BodyInRange Known b → Fine (on_watched me here p c b)
  watched c (body.Watch (watch.Shown at es)) small fit = shown c at es fit.1.each
  watched c (body.Watch (watch.Base members x)) small fit = based c members x small fit.0 fit.1.at
  watched c (body.Watch (watch.Ask from)) small fit = still
  watched c _ small fit = still

  at_part : (x : Input) → WatchComes Known x → Fine (watch_at me here p x)
  at_part input.Tick fit = asked_all
  at_part (input.Deliver q m) fit = watched m.conf m.body fit.conf fit.body
  at_part (input.Commands cs) fit = answers (Some (outcome.Refused refusal.NoLeader)) tt
  at_part (input.Stop members) fit = answers (Some (outcome.Refused refusal.NoLeader)) tt
  at_part input.TrimNow fit = answers (Some outcome.NotLeading) tt
  at_part (input.Read a) fit = answers (Some outcome.NotLeading) tt
  at_part (input.Up q) fit = asked_one q
  at_part (input.Down q) fit = still

-- with a part, or without one
if_part : (Known : ℕ → Type 0) → AreIds Known → (me : ℕ) (o : Option Part) (l : Option Closed) (j : Option Joining) (v : Volatile) (t : Service) (w : Waiting) (r : Option Reads)
    → DurableOf Known (stored o l j) → IfSome v.pieces (λ x. IsPlace x.at) → ServiceIn t → (x : Input) → WatchComes Known x
    → (let s : State = record { durable = stored o l j; volatile = v; service = t; waiting = w; reads = r } in ObserverPlanInRange Known s (watch_if me s o x))
if_part Known ids me (Some p) l j v t w r d in_pieces in_service x fit = at_part Known ids me p l j v t w r d in_pieces in_service x fit
if_part Known ids me None l j v t w r d in_pieces in_service x fit =
    record {
      applies = tt;
      batch = record { few = omega arith; each = All-nil ChangeInRange };
      sends = All-nil (SendInRange Known);
      replies = All-nil (ReplyInRange Known);
      read_replies = All-nil (ReplyInRange Known);
      outcome = tt;
      after = record { durable = d; pieces = in_pieces; service = in_service.range; order = in_service.order };
    }

pub observer_came : (Known : ℕ → Type 0) → AreIds Known → (me : ℕ) (s : State) → ObserverStateInRange Known s → (x : Input) → WatchComes Known x → ObserverPlanInRange Known s (watch_plan me s x)
observer_came Known ids me s k x fit =
    if_part Known ids me s.durable.part s.durable.closed s.durable.joining s.volatile s.service s.waiting s.reads k.durable k.pieces (record { range = k.service; order = k.order }) x fit

comes_in : (Known : ℕ → Type 0) (x : Input) → InputInRange Known x → WatchComes Known x
comes_in Known (input.Deliver q m) fit = fit.1
comes_in Known input.Tick fit = fit
comes_in Known (input.Commands cs) fit = fit
comes_in Known (input.Stop members) fit = fit
comes_in Known input.TrimNow fit = fit
comes_in Known (input.Read a) fit = fit
comes_in Known (input.Up q) fit = fit
comes_in Known (input.Down q) fit = fit

pub observer_steps_stay : (Known : ℕ → Type 0) → ObserverStepsStayInRange Known
observer_steps_stay Known ids me s k x fit = observer_came Known ids me s k x (comes_in Known x fit)

-- all that it says is for those who answer observers
pub asks_watching : (me : ℕ) (s : State) (x : Input) → All (λ (z : ℕ × Msg). is_watching z.1.body ≡ true) (watch_plan me s x).sends
asks_watching me s x = watch_cases me s (λ p. All (λ (z : ℕ × Msg). is_watching z.1.body ≡ true) p.sends) (λ batch v t. none) asked (λ o. none) x
  where
    none : All (λ (z : ℕ × Msg). is_watching z.1.body ≡ true) []
    none = All-nil (λ (z : ℕ × Msg). is_watching z.1.body ≡ true)

    asked : (c : ℕ) (qs : List ℕ) (from : ℕ) → All (λ (z : ℕ × Msg). is_watching z.1.body ≡ true) (to_each c qs (body.Watch (watch.Ask from)))
    asked c [] from = none
    asked c (q ∷ qs) from =
        All-cons (λ (z : ℕ × Msg). is_watching z.1.body ≡ true) (message c q (body.Watch (watch.Ask from))) (to_each c qs (body.Watch (watch.Ask from))) refl (asked c qs from)
