-- What an observer's step gives out, and leaves of its reads: it answers nobody, and no read waits at it.
use Rattle.std.proofs.Common.{◌≡◌, ◌-◌, ℕ, Bool, true, false, List, [], ◌∷◌, drop, Option, Some, None, refl, if◌then◌else◌, ◌⊎◌, inl, inr, nat_eq}
use Rattle.std.specs.Set.{is_member}
use Rattle.op_types.specs.Changes.{len_of}
use Rattle.op_types.specs.Stages.{Pieces, with_piece, whole_bytes}
use Rattle.op_types.specs.Stops.{stop_at_end}
use Rattle.op_types.specs.declared.answers.Outcome.{Outcome}
use Rattle.op_types.specs.declared.answers.Outcome.TheVariants.{Asked, Refused, NotLeading}
use Rattle.op_types.specs.declared.answers.Refusal.TheVariants.{NoLeader}
use Rattle.op_types.specs.declared.changes.Change.{Change}
use Rattle.op_types.specs.declared.durable.Part.{Part}
use Rattle.op_types.specs.declared.events.Input.{Input}
use Rattle.op_types.specs.declared.events.Input.TheVariants as input
use Rattle.op_types.specs.declared.log.Entry.{Entry}
use Rattle.op_types.specs.declared.log.StopSign.{StopSign}
use Rattle.op_types.specs.declared.messages.Body.{Body}
use Rattle.op_types.specs.declared.messages.Body.TheVariants as body
use Rattle.op_types.specs.declared.messages.Msg.{Msg}
use Rattle.op_types.specs.declared.messages.Watch.TheVariants as watch
use Rattle.op_types.specs.declared.runs.Piece.{Piece}
use Rattle.op_spec.specs.Service.{Service, all_after}
use Rattle.op_protocol.specs.Bases.{is_base}
use Rattle.op_protocol.specs.Parts.{message}
use Rattle.op_protocol.specs.State.{State, Volatile, Planned}
use Rattle.op_protocol.specs.Watching.{watch_storing, watch_keeping, watch_saying, watch_nothing, ask_body, takes_shown, goes_on_behind, takes_new, on_shown, takes_base_piece, pieces_for, rebases, rebases_if, stages_piece, on_base, on_watched, asks_all, asks_one, watch_at, watch_if, watch_plan}

-- reads stay as they are, nobody is answered, and no read is asked for
pub record IsQuiet (s : State) (p : Planned) : Type 0 where
  pub reads : p.reads ≡ s.reads
  pub replies : p.replies ≡ []
  pub read_replies : p.read_replies ≡ []
  pub asks : p.outcome ≡ Some Asked → ⊥

module _ (me : ℕ) (s : State) where
  storing : (batch : List Change) (v : Volatile) (service : Service) → IsQuiet s (watch_storing s batch v service)
  storing batch v service = record { reads = refl; replies = refl; read_replies = refl; asks = λ e. cc }

  saying : (sends : List (ℕ × Msg)) (o : Option Outcome) → (o ≡ Some Asked → ⊥) → IsQuiet s (watch_saying s sends o)
  saying sends o not = record { reads = refl; replies = refl; read_replies = refl; asks = not }

  telling : (sends : List (ℕ × Msg)) → IsQuiet s (watch_saying s sends None)
  telling sends = saying sends None (λ e. cc)

  by_if : (b : Bool) (x y : Planned) → IsQuiet s x → IsQuiet s y → IsQuiet s (if b then x else y)
  by_if true x y first second = first
  by_if false x y first second = second

  module _ (p : Part) where
    behind : (new : List Entry) (service : Service) (o : Option StopSign) → IsQuiet s (goes_on_behind me s p new service o)
    behind new service None = storing _ _ _
    behind new service (Some stop) = storing _ _ _

    shown : (c at : ℕ) (es : List Entry) → IsQuiet s (on_shown me s p c at es)
    shown c at es =
        let new : List Entry = drop (len_of p - at) es in
        by_if (takes_shown p c at es) (takes_new me s p new) (watch_nothing s) (behind new (all_after s.service new) (stop_at_end new)) (telling [])

    base_if : (v : Volatile) (c : ℕ) (members : List ℕ) (at : ℕ) (o : Option (List ℕ)) → IsQuiet s (rebases_if me s v c members at o)
    base_if v c members at None = storing [] v s.service
    base_if v c members at (Some bytes) = by_if (is_base bytes) (rebases me s c members at bytes) (watch_keeping s v) (storing _ _ _) (storing [] v s.service)

    based : (c : ℕ) (members : List ℕ) (x : Piece) → IsQuiet s (on_base me s p c members x)
    based c members x =
        let staged : Pieces = with_piece (pieces_for s.volatile c) x in
        let v : Volatile = record s.volatile { pieces = Some staged; pieces_conf = c } in
        by_if (takes_base_piece p c x) (stages_piece me s c members x staged) (watch_nothing s) (base_if v c members x.at (whole_bytes staged.bytes)) (telling [])

    heard : (c : ℕ) (b : Body) → IsQuiet s (on_watched me s p c b)
    heard c (body.Watch (watch.Ask from)) = telling []
    heard c (body.Watch (watch.Shown at es)) = shown c at es
    heard c (body.Watch (watch.Base members x)) = based c members x
    heard c _ = telling []

    takes : (x : Input) → IsQuiet s (watch_at me s p x)
    takes input.Tick = telling (asks_all p)
    takes (input.Deliver q m) = heard m.conf m.body
    takes (input.Commands cs) = saying [] (Some (Refused NoLeader)) (λ e. cc)
    takes (input.Stop members) = saying [] (Some (Refused NoLeader)) (λ e. cc)
    takes input.TrimNow = saying [] (Some NotLeading) (λ e. cc)
    takes (input.Read r) = saying [] (Some NotLeading) (λ e. cc)
    takes (input.Up q) = telling (asks_one p q)
    takes (input.Down q) = telling []

  pub watch_quiet : (x : Input) → IsQuiet s (watch_plan me s x)
  watch_quiet x = by_part s.durable.part
    where
      by_part : (o : Option Part) → IsQuiet s (watch_if me s o x)
      by_part None = telling []
      by_part (Some p) = takes p x

  -- at an Up it asks its peer, or nobody
  pub watch_up : (q : ℕ) → ((watch_plan me s (input.Up q)).sends ≡ []) ⊎ ((m : Msg) × ((watch_plan me s (input.Up q)).sends ≡ (q, m) ∷ []))
  watch_up q = by_part s.durable.part
    where
      by_member : (p : Part) (b : Bool) → ((if b then message p.conf q (ask_body p) ∷ [] else []) ≡ []) ⊎ ((m : Msg) × ((if b then message p.conf q (ask_body p) ∷ [] else []) ≡ (q, m) ∷ []))
      by_member p true = inr (record { conf = p.conf; body = ask_body p }, refl)
      by_member p false = inl refl

      by_part : (o : Option Part) → ((watch_if me s o (input.Up q)).sends ≡ []) ⊎ ((m : Msg) × ((watch_if me s o (input.Up q)).sends ≡ (q, m) ∷ []))
      by_part None = inl refl
      by_part (Some p) = by_member p (is_member nat_eq p.members q)

  -- at a Down it sends nothing
  pub watch_down : (q : ℕ) → (watch_plan me s (input.Down q)).sends ≡ []
  watch_down q = by_part s.durable.part
    where
      by_part : (o : Option Part) → (watch_if me s o (input.Down q)).sends ≡ []
      by_part None = refl
      by_part (Some p) = refl
