-- What an observer has stored it takes whole when it is opened again, and so it does behind each step.
use Rattle.std.proofs.Common.{◌≡◌, ℕ, ◌+◌, ◌-◌, ◌==◌, ◌&&◌, Bool, true, false, List, ◌++◌, length, drop, Option, Some, None, refl, sym, ap, ◌∙◌, subst, arith, length-append}
use Rattle.std.specs.Prelude.{IfSome, if◌then◌else◌}
use Rattle.std.proofs.lemmas.Bool.{and_parts, eq-eqb}
use Rattle.op_types.specs.Ballots.{no_ballot, is_same_ballot}
use Rattle.op_types.specs.Changes.{len_of, durable_after}
use Rattle.op_types.specs.Stages.{Pieces, with_piece, whole_bytes}
use Rattle.op_types.specs.Stops.{stop_at_end}
use Rattle.op_types.specs.declared.durable.Closed.{Closed}
use Rattle.op_types.specs.declared.durable.Durable.{Durable}
use Rattle.op_types.specs.declared.durable.Joining.{Joining}
use Rattle.op_types.specs.declared.durable.Part.{Part}
use Rattle.op_types.specs.declared.events.Input.{Input}
use Rattle.op_types.specs.declared.events.Input.TheVariants as input
use Rattle.op_types.specs.declared.log.Entry.{Entry}
use Rattle.op_types.specs.declared.log.StopSign.{StopSign}
use Rattle.op_types.specs.declared.messages.Body.{Body}
use Rattle.op_types.specs.declared.messages.Body.TheVariants as body
use Rattle.op_types.specs.declared.messages.Watch.TheVariants as watch
use Rattle.op_types.specs.declared.runs.Piece.{Piece}
use Rattle.op_spec.specs.Service.{Service, all_after}
use Rattle.op_protocol.specs.Bases.{is_base}
use Rattle.op_protocol.specs.State.{State, Volatile, Planned}
use Rattle.op_protocol.specs.Watching.{watch_keeping, watch_nothing, takes_shown, goes_on_behind, takes_new, on_shown, takes_base_piece, pieces_for, rebases, rebases_if, stages_piece, on_base, on_watched, watch_at, watch_if, watch_plan}
use Rattle.op_node.specs.Openings.{is_watched, watched_part, watched_for}

-- ---- what it takes whole

-- an observer's part, and nothing else
pub record IsWatched (d : Durable) : Type 0 where
  pub part : IfSome d.part (λ p. is_watched p ≡ true)
  pub closed : d.closed ≡ None
  pub joining : d.joining ≡ None

part_is : (o : Option Part) → watched_part o ≡ o → IfSome o (λ p. is_watched p ≡ true)
part_is None e = tt
part_is (Some p) e = by (is_watched p) refl e
  where
    by : (b : Bool) → is_watched p ≡ b → (if b then Some p else None) ≡ Some p → is_watched p ≡ true
    by true is h = is
    by false is h = absurd cc

part_whole : (o : Option Part) → IfSome o (λ p. is_watched p ≡ true) → watched_part o ≡ o
part_whole None is = refl
part_whole (Some p) is = ap (λ (b : Bool). if b then Some p else None) is

pub watched_of : (d : Durable) → watched_for d ≡ d → IsWatched d
watched_of d e = record {
  part = part_is d.part (ap (λ (x : Durable). x.part) e);
  closed = sym (ap (λ (x : Durable). x.closed) e);
  joining = sym (ap (λ (x : Durable). x.joining) e);
}

pub watched_whole : (d : Durable) → IsWatched d → watched_for d ≡ d
watched_whole d w =
    ap (λ (o : Option Part). let x : Durable = record { part = o; closed = None; joining = None } in x) (part_whole d.part w.part)
    ∙ ap (λ (l : Option Closed). let x : Durable = record { part = d.part; closed = l; joining = None } in x) (sym w.closed)
    ∙ ap (λ (j : Option Joining). let x : Durable = record { part = d.part; closed = d.closed; joining = j } in x) (sym w.joining)

-- ---- a step

all_true : (a b c : Bool) → a ≡ true → b ≡ true → c ≡ true → (a && (b && c)) ≡ true
all_true a b c x y z = rw (x, y, z) refl

module _ (me : ℕ) (s : State) (p : Part) (l : Option Closed) (j : Option Joining) where
  -- with this part
  abbrev at : Part → Durable
  at q = record { part = Some q; closed = l; joining = j }

  -- what a plan leaves is an observer's, too
  abbrev Leaves : Planned → Type 0
  Leaves pl = IsWatched (durable_after (at p) pl.batch)

  module _ (w : IsWatched (at p)) where
    with_part : (q : Part) → is_watched q ≡ true → IsWatched (at q)
    with_part q is = record { part = is; closed = w.closed; joining = w.joining }

    promised_none : is_same_ballot p.promised no_ballot ≡ true
    promised_none = (and_parts (is_same_ballot p.promised no_ballot) (is_same_ballot p.accepted no_ballot && p.decided == len_of p) w.part).0

    accepted_none : is_same_ballot p.accepted no_ballot ≡ true
    accepted_none =
        (and_parts (is_same_ballot p.accepted no_ballot) (p.decided == len_of p)
        (and_parts (is_same_ballot p.promised no_ballot) (is_same_ballot p.accepted no_ballot && p.decided == len_of p) w.part).1).0

    -- a choice of two plans
    by_if : (b : Bool) (x y : Planned) → Leaves x → Leaves y → Leaves (if b then x else y)
    by_if true x y first second = first
    by_if false x y first second = second

    -- entries that come are decided
    abbrev more : List Entry → Part
    more new = record p { tail = record p.tail { items = p.tail.items ++ new }; decided = len_of p + length new }

    more_is : (new : List Entry) → is_watched (more new) ≡ true
    more_is new =
        all_true (is_same_ballot p.promised no_ballot) (is_same_ballot p.accepted no_ballot) ((len_of p + length new) == len_of (more new)) promised_none accepted_none
        (eq-eqb (len_of p + length new) (len_of (more new)) (let e = length-append p.tail.items new in omega (arith, e)))

    -- a part that begins at a base
    based_is : (at_place : ℕ) → (at_place == at_place + 0) ≡ true
    based_is n = eq-eqb n (n + 0) (omega arith)

    behind : (new : List Entry) (service : Service) (o : Option StopSign) → Leaves (goes_on_behind me s p new service o)
    behind new service None = with_part (more new) (more_is new)
    behind new service (Some stop) = record { part = based_is 0; closed = w.closed; joining = w.joining }

    shown : (c n : ℕ) (es : List Entry) → Leaves (on_shown me s p c n es)
    shown c n es =
        let new : List Entry = drop (len_of p - n) es in
        by_if (takes_shown p c n es) (takes_new me s p new) (watch_nothing s) (behind new (all_after s.service new) (stop_at_end new)) w

    base_if : (v : Volatile) (c : ℕ) (members : List ℕ) (n : ℕ) (o : Option (List ℕ)) → Leaves (rebases_if me s v c members n o)
    base_if v c members n None = w
    base_if v c members n (Some bytes) =
        by_if (is_base bytes) (rebases me s c members n bytes) (watch_keeping s v) (record { part = based_is n; closed = w.closed; joining = w.joining }) w

    based : (c : ℕ) (members : List ℕ) (x : Piece) → Leaves (on_base me s p c members x)
    based c members x =
        let staged : Pieces = with_piece (pieces_for s.volatile c) x in
        let v : Volatile = record s.volatile { pieces = Some staged; pieces_conf = c } in
        by_if (takes_base_piece p c x) (stages_piece me s c members x staged) (watch_nothing s) (base_if v c members x.at (whole_bytes staged.bytes)) w

    heard : (c : ℕ) (b : Body) → Leaves (on_watched me s p c b)
    heard c (body.Watch (watch.Ask from)) = w
    heard c (body.Watch (watch.Shown n es)) = shown c n es
    heard c (body.Watch (watch.Base members x)) = based c members x
    heard c _ = w

    steps : (x : Input) → Leaves (watch_at me s p x)
    steps input.Tick = w
    steps (input.Deliver q m) = heard m.conf m.body
    steps (input.Commands cs) = w
    steps (input.Stop members) = w
    steps input.TrimNow = w
    steps (input.Read r) = w
    steps (input.Up q) = w
    steps (input.Down q) = w

-- what a step leaves is an observer's, too
watch_stays : (me : ℕ) (s : State) (x : Input) → IsWatched s.durable → IsWatched (durable_after s.durable (watch_plan me s x).batch)
watch_stays me s x w = by s.durable.part refl
  where
    by : (o : Option Part) → s.durable.part ≡ o → IsWatched (durable_after s.durable (watch_if me s o x).batch)
    by None e = w
    by (Some p) e =
        let with_part : Option Part → Durable = λ o. (let d : Durable = record s.durable { part = o } in d) in
        let here : IsWatched (with_part (Some p)) = subst (λ (o : Option Part). IsWatched (with_part o)) e w in
        subst (λ (o : Option Part). IsWatched (durable_after (with_part o) (watch_at me s p x).batch)) (sym e) (steps me s p s.durable.closed s.durable.joining here x)

-- so it takes that whole
pub watching_stays_whole : (me : ℕ) (s : State) (x : Input) → watched_for s.durable ≡ s.durable
    → watched_for (durable_after s.durable (watch_plan me s x).batch) ≡ durable_after s.durable (watch_plan me s x).batch
watching_stays_whole me s x whole =
    watched_whole (durable_after s.durable (watch_plan me s x).batch) (watch_stays me s x (watched_of s.durable whole))
