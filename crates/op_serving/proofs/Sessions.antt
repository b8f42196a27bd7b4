-- Of an Up and of a Down nothing is stored.
use Rattle.std.proofs.Common.{nat_eq, ◌≡◌, ◌-◌, ◌++◌, ◌∷◌, [], ℕ, Bool, true, false, List, take, Option, Some, None, refl, arith, if◌then◌else◌}
use Rattle.std.proofs.lemmas.List.{length-take, drop_all}
use Rattle.std.specs.Set.{is_member}
use Rattle.op_types.specs.declared.durable.Part.{Part}
use Rattle.op_types.specs.declared.durable.Joining.{Joining}
use Rattle.op_types.specs.declared.events.Input.{Input}
use Rattle.op_types.specs.declared.events.Input.TheVariants as input
use Rattle.op_types.specs.declared.log.Entry.{Entry}
use Rattle.op_types.specs.declared.messages.Msg.{Msg}
use Rattle.op_types.specs.declared.messages.Body.TheVariants as body
use Rattle.op_types.specs.Roles.{Role, Idle, Preparing, Leading}
use Rattle.op_types.specs.RoleStates.{without_synced}
use Rattle.op_protocol.specs.State.{State, Volatile, PartStep, Planned, with_effects}
use Rattle.op_protocol.specs.Parts.{decided_since, others, message, nothing, saying}
use Rattle.op_protocol.specs.Leader.{session_down}
use Rattle.op_protocol.specs.Serving.{Served, serving}
use Rattle.op_protocol.specs.Configurations.{closing}
use Rattle.op_protocol.specs.Rows.{based_batch, newly_decided, plan_of, step_plan, on_older, up_at}
use Rattle.op_protocol.specs.Watching.{watch_if, watch_plan}
use Rattle.op_runs.specs.World.{Kind, Votes, Observes, plan_as}
use Rattle.op_serving.specs.Fates.{is_session}

-- ---- a plan that changes nothing that is stored, and answers nobody

pub nothing_decided : (p : Part) → decided_since p p ≡ []
nothing_decided p = drop_all (p.decided - p.trimmed) (take (p.decided - p.trimmed) p.tail.items) (omega (arith, length-take (p.decided - p.trimmed) p.tail.items))

module _ (me : ℕ) (s : State) (v : Volatile) (sends : List (ℕ × Msg)) where
  abbrev pub quietly : PartStep
  quietly = record { batch = []; volatile = v; sends = sends; replies = []; outcome = None }

  abbrev pub served : List Entry → Served
  served entries = serving s.service s.waiting entries

  -- with this part
  abbrev pub plan_with : Option Part → Planned
  plan_with o = closing me o (record {
    batch = based_batch o [];
    volatile = v;
    service = (served (newly_decided o [])).service;
    waiting = (served (newly_decided o [])).waiting;
    reads = None;
    sends = sends;
    replies = (served (newly_decided o [])).replies ++ [];
    read_replies = [];
    outcome = None;
  })

  pub stored_with : (o : Option Part) → ((plan_with o).batch ≡ []) × ((plan_with o).volatile ≡ v)
  stored_with None = (refl, refl)
  stored_with (Some p) = rw (nothing_decided p) (refl, refl)

-- ---- Ups and Downs

-- its batch is empty
none_stored : (me : ℕ) (s : State) (v : Volatile) (sends : List (ℕ × Msg)) → (plan_of me s s.waiting (quietly me s v sends)).batch ≡ []
none_stored me s v sends = (stored_with me s v sends s.durable.part).0

up_stores : (me q : ℕ) (s : State) → (step_plan me s (input.Up q)).batch ≡ []
up_stores me q s = by_part s.durable.part s.durable.joining
  where
    v : Volatile
    v = s.volatile

    by_member : (p : Part) (b : Bool) → (plan_of me s s.waiting (with_effects v (if b then saying v.role (message p.conf q body.PrepareReq ∷ []) else nothing v.role))).batch ≡ []
    by_member p true = none_stored me s (record v { role = v.role }) (message p.conf q body.PrepareReq ∷ [])
    by_member p false = none_stored me s (record v { role = v.role }) []

    by_part : (o : Option Part) (j : Option Joining) → (plan_of me s s.waiting (up_at me s.durable o j v q)).batch ≡ []
    by_part (Some p) None = by_member p (is_member nat_eq (others me p.members) q)
    by_part (Some p) (Some j) = none_stored me s v []
    by_part None None = none_stored me s v (on_older s.durable s.durable.closed q)
    by_part None (Some j) = none_stored me s v []

down_stores : (me q : ℕ) (s : State) → (step_plan me s (input.Down q)).batch ≡ []
down_stores me q s = by_role s.volatile.role
  where
    by_role : (r : Role) → (plan_of me s s.waiting (with_effects s.volatile (session_down r q))).batch ≡ []
    by_role Idle = none_stored me s (record s.volatile { role = Idle }) []
    by_role (Preparing x) = none_stored me s (record s.volatile { role = Preparing x }) []
    by_role (Leading x) = none_stored me s (record s.volatile { role = Leading (without_synced x q) }) []

-- nor does an observer store anything
watching_up : (me q : ℕ) (s : State) → (watch_plan me s (input.Up q)).batch ≡ []
watching_up me q s = by_part s.durable.part
  where
    by_part : (o : Option Part) → (watch_if me s o (input.Up q)).batch ≡ []
    by_part None = refl
    by_part (Some p) = refl

watching_down : (me q : ℕ) (s : State) → (watch_plan me s (input.Down q)).batch ≡ []
watching_down me q s = by_part s.durable.part
  where
    by_part : (o : Option Part) → (watch_if me s o (input.Down q)).batch ≡ []
    by_part None = refl
    by_part (Some p) = refl

pub session_stores : (k : Kind) (me : ℕ) (i : Input) (s : State) → is_session i ≡ true → (plan_as k me s i).batch ≡ []
session_stores Votes me (input.Up q) s is = up_stores me q s
session_stores Votes me (input.Down q) s is = down_stores me q s
session_stores Votes me _ s is = absurd cc
session_stores Observes me (input.Up q) s is = watching_up me q s
session_stores Observes me (input.Down q) s is = watching_down me q s
session_stores Observes me _ s is = absurd cc
