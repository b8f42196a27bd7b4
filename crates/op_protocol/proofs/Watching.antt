-- What observers ask brings a node nothing, and an observer's plan by cases: it stores something, asks members, or answers.
use Rattle.std.proofs.Common.{◌≡◌, ℕ, ◌-◌, Bool, true, false, cond, ltb, nat_eq, List, [], ◌∷◌, drop, Option, Some, None, refl}
use Rattle.std.specs.Set.{is_member}
use Rattle.std.proofs.lemmas.Bool.{cond_both}
use Rattle.op_types.specs.Changes.{len_of}
use Rattle.op_types.specs.Stages.{Pieces, with_piece, whole_bytes}
use Rattle.op_types.specs.Stops.{stop_at_end}
use Rattle.op_types.specs.declared.answers.Outcome.{Outcome}
use Rattle.op_types.specs.declared.changes.Change.{Change}
use Rattle.op_types.specs.declared.durable.Durable.{Durable}
use Rattle.op_types.specs.declared.durable.Joining.{Joining}
use Rattle.op_types.specs.declared.durable.Part.{Part}
use Rattle.op_types.specs.declared.events.Input.{Input}
use Rattle.op_types.specs.declared.events.Input.TheVariants as input
use Rattle.op_types.specs.declared.log.Entry.{Entry}
use Rattle.op_types.specs.declared.log.StopSign.{StopSign}
use Rattle.op_types.specs.declared.messages.Body.{Body}
use Rattle.op_types.specs.declared.messages.Body.TheVariants as body
use Rattle.op_types.specs.declared.messages.Msg.{Msg}
use Rattle.op_types.specs.declared.messages.Watch.{Watch}
use Rattle.op_types.specs.declared.messages.Watch.TheVariants as watch
use Rattle.op_spec.specs.Service.{Service, all_after}
use Rattle.op_protocol.specs.Bases.{is_base}
use Rattle.op_protocol.specs.Configurations.{latest_of}
use Rattle.op_protocol.specs.Joining.{brought_to}
use Rattle.op_protocol.specs.Parts.{message, to_each}
use Rattle.op_protocol.specs.Rows.{brought_by}
use Rattle.op_protocol.specs.State.{State, Volatile, Planned}
use Rattle.op_protocol.specs.Watching.{watch_storing, watch_keeping, watch_saying, watch_nothing, ask_body, takes_shown, goes_on_behind, takes_new, takes_base_piece, pieces_for, rebases, rebases_if, stages_piece, on_watched, watch_at, watch_if, watch_plan}

-- what an observer asks, or is shown, brings nothing of a closed list
pub brings_nothing : (d : Durable) (v : Volatile) (q c : ℕ) (w : Watch) → brought_by d v (input.Deliver q (record { conf = c; body = body.Watch w })) ≡ None
brings_nothing d v q c w = by (ltb c (latest_of d)) d.joining
  where
    by : (b : Bool) (j : Option Joining) → cond b None (brought_to j v.pieces c (body.Watch w)) ≡ None
    by true j = refl
    by false None = refl
    by false (Some j) = refl

-- ---- an observer's plan

module _ (me : ℕ) (s : State) (P : Planned → Type 0) (stores : (batch : List Change) (v : Volatile) (t : Service) → P (watch_storing s batch v t))
    (asks : (c : ℕ) (qs : List ℕ) (from : ℕ) → P (watch_saying s (to_each c qs (body.Watch (watch.Ask from))) None)) (answers : (o : Option Outcome) → P (watch_saying s [] o)) where
  behind_case : (p : Part) (new : List Entry) (t : Service) (o : Option StopSign) → P (goes_on_behind me s p new t o)
  behind_case p new t None = stores _ _ _
  behind_case p new t (Some stop) = stores _ _ _

  rebases_case : (v : Volatile) (c : ℕ) (members : List ℕ) (at : ℕ) (o : Option (List ℕ)) → P (rebases_if me s v c members at o)
  rebases_case v c members at None = stores _ _ _
  rebases_case v c members at (Some bytes) = cond_both (is_base bytes) (rebases me s c members at bytes) (watch_keeping s v) P (λ _. stores _ _ _) (λ _. stores _ _ _)

  watched_case : (p : Part) (c : ℕ) (b : Body) → P (on_watched me s p c b)
  watched_case p c (body.Watch (watch.Ask from)) = answers None
  watched_case p c (body.Watch (watch.Shown at es)) =
      let new : List Entry = drop (len_of p - at) es in
      cond_both (takes_shown p c at es) (takes_new me s p new) (watch_nothing s) P (λ _. behind_case p new (all_after s.service new) (stop_at_end new)) (λ _. answers None)
  watched_case p c (body.Watch (watch.Base members x)) =
      let staged : Pieces = with_piece (pieces_for s.volatile c) x in
      cond_both (takes_base_piece p c x) (stages_piece me s c members x staged) (watch_nothing s) P
      (λ _. rebases_case (record s.volatile { pieces = Some staged; pieces_conf = c }) c members x.at (whole_bytes staged.bytes)) (λ _. answers None)
  watched_case p c _ = answers None

  at_case : (p : Part) (x : Input) → P (watch_at me s p x)
  at_case p input.Tick = asks p.conf p.members (len_of p)
  at_case p (input.Deliver q m) = watched_case p m.conf m.body
  at_case p (input.Commands cs) = answers _
  at_case p (input.Stop members) = answers _
  at_case p input.TrimNow = answers _
  at_case p (input.Read r) = answers _
  at_case p (input.Up q) =
      cond_both (is_member nat_eq p.members q) (message p.conf q (ask_body p) ∷ []) [] (λ (sends : List (ℕ × Msg)). P (watch_saying s sends None))
      (λ _. asks p.conf (q ∷ []) (len_of p)) (λ _. answers None)
  at_case p (input.Down q) = answers None

  if_case : (o : Option Part) (x : Input) → P (watch_if me s o x)
  if_case None x = answers None
  if_case (Some p) x = at_case p x

  pub watch_cases : (x : Input) → P (watch_plan me s x)
  watch_cases x = if_case s.durable.part x
