-- What an Up and a Down give out: an Up at most messages to its peer, a Down nothing.
use Rattle.std.proofs.Common.{nat_eq, ◌≡◌, ◌∷◌, ◌⊎◌, inl, inr, [], ℕ, ◌+◌, Bool, true, false, List, Option, Some, None, refl, sym, ap, ◌∙◌, if◌then◌else◌}
use Rattle.op_types.specs.declared.durable.Part.{Part}
use Rattle.op_types.specs.declared.durable.Closed.{Closed}
use Rattle.op_types.specs.declared.durable.Joining.{Joining}
use Rattle.op_types.specs.declared.events.Input.{Input}
use Rattle.op_types.specs.declared.events.Input.TheVariants as input
use Rattle.op_types.specs.declared.messages.Msg.{Msg}
use Rattle.op_types.specs.Roles.{Role, Idle, Preparing, Leading}
use Rattle.op_types.specs.RoleStates.{without_synced}
use Rattle.std.specs.Set.{is_member}
use Rattle.op_types.specs.declared.messages.Body.TheVariants as body
use Rattle.op_protocol.specs.State.{State, Volatile, with_effects}
use Rattle.op_protocol.specs.Parts.{others, message, nothing, saying}
use Rattle.op_protocol.specs.Leader.{session_down}
use Rattle.op_protocol.specs.Reading.{adopted_of, asking_by, leads_on, reading}
use Rattle.op_protocol.specs.Configurations.{latest_members, next_conf_body, next_conf_message}
use Rattle.op_protocol.specs.Tick.{remembering}
use Rattle.op_protocol.specs.Rows.{plan_of, step_plan, on_older, up_at}
use Rattle.op_runs.specs.World.{Kind, Votes, Observes, plan_as}
use Rattle.op_serving.proofs.Sessions.{nothing_decided, quietly, plan_with, stored_with}
use Rattle.op_types.specs.declared.given.Given.{Given}
use Rattle.op_serving.specs.Cores.{Failure, Standing, plan_at, gives, given_of, refused_with}
use Rattle.op_connections.proofs.Observing.{watch_quiet, watch_up, watch_down}
use Rattle.op_connections.proofs.Settled.{ReadsAreSettled, SettledAs, Settles, answers_none}

-- ---- a plan that changes nothing that is stored, and answers nobody

module _ (me : ℕ) (s : State) (v : Volatile) (sends : List (ℕ × Msg)) where
  quiet_with : (o : Option Part) → ((plan_with me s v sends o).sends ≡ sends) × ((plan_with me s v sends o).replies ≡ [])
  quiet_with None = (refl, refl)
  quiet_with (Some p) = rw (nothing_decided p) (refl, refl)

  quiet_plan : ((plan_of me s s.waiting (quietly me s v sends)).sends ≡ sends) × ((plan_of me s s.waiting (quietly me s v sends)).replies ≡ [])
  quiet_plan = quiet_with s.durable.part

  -- and where the node leads on as it did, no read is answered
  quiet_reads : (x : Input) → (asking_by me s x).reads ≡ s.reads → leads_on s.volatile.role v.role ≡ leads_on s.volatile.role s.volatile.role → adopted_of v.role ≡ adopted_of s.volatile.role → ReadsAreSettled s
      → (reading me s x (plan_of me s s.waiting (quietly me s v sends))).read_replies ≡ []
  quiet_reads x asks leads adopted settled =
      let stored = stored_with me s v sends s.durable.part in
      answers_none me s x (plan_of me s s.waiting (quietly me s v sends)) asks stored.0 (ap (λ (w : Volatile). leads_on s.volatile.role w.role) stored.1 ∙ leads) (ap (λ (w : Volatile). adopted_of w.role) stored.1 ∙ adopted) settled

-- ---- Ups and Downs

-- nobody is answered, and at most one message is sent, to this peer
pub record Upping (q : ℕ) (g : Given) : Type 0 where
  pub sends : (g.sends ≡ []) ⊎ ((m : Msg) × (g.sends ≡ (q, m) ∷ []))
  pub replies : g.replies ≡ []

abbrev of_plan : ℕ → State → Volatile → List (ℕ × Msg) → Given
of_plan me s v sends = given_of (plan_of me s s.waiting (quietly me s v sends))

upping_none : (me q : ℕ) (s : State) (v : Volatile) → Upping q (of_plan me s v [])
upping_none me q s v = let quiet = quiet_plan me s v [] in record { sends = inl quiet.0; replies = quiet.1 }

upping_one : (me q : ℕ) (s : State) (v : Volatile) (m : Msg) → Upping q (of_plan me s v ((q, m) ∷ []))
upping_one me q s v m = let quiet = quiet_plan me s v ((q, m) ∷ []) in record { sends = inr (m, quiet.0); replies = quiet.1 }

up_plan : (me q : ℕ) (s : State) → Upping q (given_of (step_plan me s (input.Up q)))
up_plan me q s = let u = by_part s.durable.part s.durable.joining in record { sends = u.sends; replies = u.replies }
  where
    v : Volatile
    v = s.volatile

    by_member : (p : Part) (b : Bool) → Upping q (given_of (plan_of me s s.waiting (with_effects v (if b then saying v.role (message p.conf q body.PrepareReq ∷ []) else nothing v.role))))
    by_member p true = upping_one me q s (record v { role = v.role }) (record { conf = p.conf; body = body.PrepareReq })
    by_member p false = upping_none me q s (record v { role = v.role })

    by_new : (l : Closed) (b : Bool) → Upping q (given_of (plan_of me s s.waiting (remembering v (if b then next_conf_message l q ∷ [] else []))))
    by_new l true = upping_one me q s v (record { conf = l.conf + 1; body = next_conf_body l })
    by_new l false = upping_none me q s v

    by_closed : (l : Option Closed) → Upping q (given_of (plan_of me s s.waiting (remembering v (on_older s.durable l q))))
    by_closed None = upping_none me q s v
    by_closed (Some l) = by_new l (is_member nat_eq (latest_members s.durable) q)

    by_part : (o : Option Part) (j : Option Joining) → Upping q (given_of (plan_of me s s.waiting (up_at me s.durable o j v q)))
    by_part (Some p) None = by_member p (is_member nat_eq (others me p.members) q)
    by_part (Some p) (Some j) = upping_none me q s v
    by_part None None = by_closed s.durable.closed
    by_part None (Some j) = upping_none me q s v

up_reads : (me q : ℕ) (s : State) → ReadsAreSettled s → (step_plan me s (input.Up q)).read_replies ≡ []
up_reads me q s settled = by_part s.durable.part s.durable.joining
  where
    v : Volatile
    v = s.volatile

    by_member : (p : Part) (b : Bool) → (reading me s (input.Up q) (plan_of me s s.waiting (with_effects v (if b then saying v.role (message p.conf q body.PrepareReq ∷ []) else nothing v.role)))).read_replies ≡ []
    by_member p true = quiet_reads me s (record v { role = v.role }) (message p.conf q body.PrepareReq ∷ []) (input.Up q) refl refl refl settled
    by_member p false = quiet_reads me s (record v { role = v.role }) [] (input.Up q) refl refl refl settled

    by_part : (o : Option Part) (j : Option Joining) → (reading me s (input.Up q) (plan_of me s s.waiting (up_at me s.durable o j v q))).read_replies ≡ []
    by_part (Some p) None = by_member p (is_member nat_eq (others me p.members) q)
    by_part (Some p) (Some j) = quiet_reads me s v [] (input.Up q) refl refl refl settled
    by_part None None = quiet_reads me s v (on_older s.durable s.durable.closed q) (input.Up q) refl refl refl settled
    by_part None (Some j) = quiet_reads me s v [] (input.Up q) refl refl refl settled

-- a Down gives out nothing
pub record Silent (g : Given) : Type 0 where
  pub sends : g.sends ≡ []
  pub replies : g.replies ≡ []

down_plan : (me q : ℕ) (s : State) → Silent (given_of (step_plan me s (input.Down q)))
down_plan me q s = let d = by_role s.volatile.role in record { sends = d.sends; replies = d.replies }
  where
    silent : (r : Role) → Silent (of_plan me s (record s.volatile { role = r }) [])
    silent r = let quiet = quiet_plan me s (record s.volatile { role = r }) [] in record { sends = quiet.0; replies = quiet.1 }

    by_role : (r : Role) → Silent (given_of (plan_of me s s.waiting (with_effects s.volatile (session_down r q))))
    by_role Idle = silent Idle
    by_role (Preparing x) = silent (Preparing x)
    by_role (Leading x) = silent (Leading (without_synced x q))

down_reads : (me q : ℕ) (s : State) → ReadsAreSettled s → (step_plan me s (input.Down q)).read_replies ≡ []
down_reads me q s settled = by_role s.volatile.role refl
  where
    r : Role
    r = s.volatile.role

    by_role : (x : Role) → r ≡ x → (reading me s (input.Down q) (plan_of me s s.waiting (with_effects s.volatile (session_down x q)))).read_replies ≡ []
    by_role Idle e = quiet_reads me s (record s.volatile { role = Idle }) [] (input.Down q) refl (ap (λ (z : Role). leads_on z Idle) e ∙ sym (ap (λ (z : Role). leads_on z z) e)) (sym (ap adopted_of e)) settled
    by_role (Preparing x) e = quiet_reads me s (record s.volatile { role = Preparing x }) [] (input.Down q) refl (ap (λ (z : Role). leads_on z (Preparing x)) e ∙ sym (ap (λ (z : Role). leads_on z z) e)) (sym (ap adopted_of e)) settled
    by_role (Leading x) e =
        let y = without_synced x q in
        quiet_reads me s (record s.volatile { role = Leading y }) [] (input.Down q) refl (ap (λ (z : Role). leads_on z (Leading y)) e ∙ sym (ap (λ (z : Role). leads_on z z) e)) (sym (ap adopted_of e)) settled

-- of either kind of node
up_as : (k : Kind) (me q : ℕ) (s : State) → Upping q (given_of (plan_as k me s (input.Up q)))
up_as Votes me q s = up_plan me q s
up_as Observes me q s = record { sends = watch_up me s q; replies = (watch_quiet me s (input.Up q)).replies }

up_reads_as : (k : Kind) (me q : ℕ) (s : State) → SettledAs k s → (plan_as k me s (input.Up q)).read_replies ≡ []
up_reads_as Votes me q s h = up_reads me q s h
up_reads_as Observes me q s h = (watch_quiet me s (input.Up q)).read_replies

down_as : (k : Kind) (me q : ℕ) (s : State) → Silent (given_of (plan_as k me s (input.Down q)))
down_as Votes me q s = down_plan me q s
down_as Observes me q s = record { sends = watch_down me s q; replies = (watch_quiet me s (input.Down q)).replies }

down_reads_as : (k : Kind) (me q : ℕ) (s : State) → SettledAs k s → (plan_as k me s (input.Down q)).read_replies ≡ []
down_reads_as Votes me q s h = down_reads me q s h
down_reads_as Observes me q s h = (watch_quiet me s (input.Down q)).read_replies

pub ups : (n : Standing) (q : ℕ) → Upping q (gives n (input.Up q))
unfolding gives
ups n q = by_failed n.failed
  where
    by_failed : (f : Option Failure) → Upping q (elim f [ None ↦ given_of (plan_at n (input.Up q)) | Some x ↦ refused_with x.count (input.Up q) ])
    by_failed None = up_as n.kind n.me q n.state
    by_failed (Some x) = record { sends = inl refl; replies = refl }

pub downs : (n : Standing) (q : ℕ) → Silent (gives n (input.Down q))
unfolding gives
downs n q = by_failed n.failed
  where
    by_failed : (f : Option Failure) → Silent (elim f [ None ↦ given_of (plan_at n (input.Down q)) | Some x ↦ refused_with x.count (input.Down q) ])
    by_failed None = down_as n.kind n.me q n.state
    by_failed (Some x) = record { sends = refl; replies = refl }

-- where reads are settled, none is answered by either
pub ups_read : (n : Standing) (q : ℕ) → Settles n → (gives n (input.Up q)).read_replies ≡ []
unfolding gives
ups_read n q settled = by_failed n.failed
  where
    by_failed : (f : Option Failure) → let g : Given = elim f [ None ↦ given_of (plan_at n (input.Up q)) | Some x ↦ refused_with x.count (input.Up q) ] in g.read_replies ≡ []
    by_failed None = up_reads_as n.kind n.me q n.state settled
    by_failed (Some x) = refl

pub downs_read : (n : Standing) (q : ℕ) → Settles n → (gives n (input.Down q)).read_replies ≡ []
unfolding gives
downs_read n q settled = by_failed n.failed
  where
    by_failed : (f : Option Failure) → let g : Given = elim f [ None ↦ given_of (plan_at n (input.Down q)) | Some x ↦ refused_with x.count (input.Down q) ] in g.read_replies ≡ []
    by_failed None = down_reads_as n.kind n.me q n.state settled
    by_failed (Some x) = refl
