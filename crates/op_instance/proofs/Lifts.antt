-- A plan of the role, as a step of all that is kept in memory.
use Rattle.std.proofs.Common.{◌≡◌, ℕ, Bool, true, false, cond, ◌&&◌, ◌==◌, ◌∷◌, Option, Some, None, Result, Ok, Err, IfOk, refl, ap, ◌∙◌, List, []}
use Rattle.op_types.specs.Effects.{Effects, effects_of, nothing_plan}
use Rattle.op_types.specs.Roles.{turned, HasRoom}
use Rattle.op_types.specs.declared.durable.Part.{Part}
use Rattle.op_types.specs.declared.plan.Plan.{Plan}
use Rattle.op_types.specs.declared.role.Role.{Role}
use Rattle.op_types.specs.declared.turn.Turn.{Turn}
use Rattle.op_types.specs.declared.turn.Turn.TheVariants as turn
use Rattle.op_types.specs.declared.ballot.Ballot.{Ballot}
use Rattle.op_types.specs.declared.messages.Body.{Body}
use Rattle.op_types.specs.declared.messages.Body.TheVariants as body
use Rattle.op_types.specs.declared.runs.SyncRun.{SyncRun}
use Rattle.op_types.specs.Roles.{Shelf}
use Rattle.op_types.specs.declared.changes.Change.{Change}
use Rattle.std.specs.Prelude.{nat_lt, nat_le}
use Rattle.std.proofs.lemmas.Bool.{cond_both, true≢false}
use Rattle.op_types.specs.declared.changes.Change.TheVariants as change
use Rattle.op_types.specs.declared.durable.Joining.{Joining}
use Rattle.op_protocol.specs.Joining.{storing, begins, is_new_donor, joins, begins_joining, storing_news}
use Rattle.op_protocol.specs.Rows.{on_body}
use Rattle.op_instance.specs.Routing.{row_of}
use Rattle.op_protocol.specs.State as step
use Rattle.op_protocol.specs.State.{PartStep, raises_promise, staged_after, with_effects}
use Rattle.op_instance.specs.declared.volatile.Volatile.{Volatile}
use Rattle.op_follower.specs.Staging.{staged_in, DoesStep, HasRoomToStage}
use Rattle.op_segments.specs.Staging.{pieces_in, StagesAs, HasRoomToPiece}
use Rattle.op_instance.specs.Memory.{volatile_of, turned_in, adopted_in, part_step_of, news_turn, IsPlain, HasRoomIn}

-- such a turn changes the role alone
turned_alone : (t : Turn) (r : Role) (v : step.Volatile) → HasRoom t r → turned_in t v ≡ record v { role = turned t v.role }
turned_alone turn.Stay r v room = refl
turned_alone (turn.Become n) r v room = refl
turned_alone (turn.Keep k) r v room = refl
turned_alone (turn.KeepPart q part fresh) r v room = refl
turned_alone (turn.DropParts q) r v room = refl
turned_alone (turn.Buffer b) r v room = refl
turned_alone (turn.Sync q) r v room = refl
turned_alone (turn.Unsync q) r v room = refl
turned_alone (turn.Acknowledge a) r v room = refl
turned_alone (turn.KeepReport k) r v room = refl
turned_alone turn.ClearReports r v room = refl
turned_alone turn.Renew r v room = absurd room
turned_alone (turn.Stage at run from) r v room = absurd room
turned_alone (turn.StagePiece p fresh) r v room = absurd room
turned_alone (turn.StageBase c p fresh) r v room = absurd room
turned_alone turn.DropPieces r v room = absurd room
turned_alone (turn.Hear h) r v room = absurd room
turned_alone (turn.RaiseFloor b) r v room = absurd room
turned_alone (turn.NextRound e n) r v room = absurd room

pub lifted : (p : Plan) (r : Role) (v : Volatile) (e : Effects) → HasRoom p.turn r → effects_of v.role p ≡ e → part_step_of p (volatile_of v) ≡ with_effects (volatile_of v) e
lifted p r v e room is =
    ap (λ (w : step.Volatile). let x : PartStep = record { batch = p.batch; volatile = record w { staged = staged_after p.batch w.staged }; sends = p.sends; replies = p.replies; outcome = p.outcome } in x) (turned_alone p.turn r (volatile_of v) room)
    ∙ ap (λ (d : Effects). with_effects (volatile_of v) d) is

pub lifted_ok : {E : Type 0} (x : Result Plan E) (r : Role) (v : Volatile) (e : Effects)
    → IfOk x (λ p. HasRoom p.turn r) → IfOk x (λ p. effects_of v.role p ≡ e) → IfOk x (λ p. part_step_of p (volatile_of v) ≡ with_effects (volatile_of v) e)
lifted_ok (Ok p) r v e room is = lifted p r v e room is
lifted_ok (Err err) r v e room is = tt

-- a message that is of no heartbeat and no refusal does what its row says
pub routed : (me : ℕ) (p : Part) (v : step.Volatile) (q : ℕ) (b : Body)
    → ((round : ℕ) → b ≡ body.HeartbeatRequest round → ⊥) → ((round : ℕ) (n : Ballot) (flag : Bool) → b ≡ body.HeartbeatReply round n flag → ⊥) → ((n m : Ballot) → b ≡ body.Refuse n m → ⊥) → ((n : Ballot) (part : SyncRun) → b ≡ body.AcceptSyncPart n part → ⊥)
    → with_effects v (row_of me p v.role q b) ≡ on_body me p v q b
routed me p v q (body.HeartbeatRequest round) asks replies refuses parts = absurd (asks round refl)
routed me p v q (body.HeartbeatReply round n flag) asks replies refuses parts = absurd (replies round n flag refl)
routed me p v q (body.Refuse n m) asks replies refuses parts = absurd (refuses n m refl)
routed me p v q (body.AcceptSyncPart n part) asks replies refuses parts = absurd (parts n part refl)
routed me p v q (body.PromisePart n part) asks replies refuses parts = refl
routed me p v q (body.Prepare n na nl nd) asks replies refuses parts = refl
routed me p v q (body.Promise n fa fl fd s es) asks replies refuses parts = refl
routed me p v q (body.AcceptSync n x es) asks replies refuses parts = refl
routed me p v q (body.Accept n at es) asks replies refuses parts = refl
routed me p v q (body.Accepted n x) asks replies refuses parts = refl
routed me p v q (body.Decide n x) asks replies refuses parts = refl
routed me p v q body.PrepareReq asks replies refuses parts = refl
routed me p v q (body.Forward e) asks replies refuses parts = refl
routed me p v q (body.Forwards es) asks replies refuses parts = refl
routed me p v q (body.TrimAsk n) asks replies refuses parts = refl
routed me p v q (body.Progress n x) asks replies refuses parts = refl
routed me p v q (body.Trim x) asks replies refuses parts = refl
routed me p v q (body.Confirm n number) asks replies refuses parts = refl
routed me p v q (body.Confirmed n number) asks replies refuses parts = refl
routed me p v q (body.Watch w) asks replies refuses parts = refl
routed me p v q (body.NextConf members olds len trimmed) asks replies refuses parts = refl
routed me p v q body.AskBase asks replies refuses parts = refl
routed me p v q (body.BasePart at bytes) asks replies refuses parts = refl
routed me p v q (body.BasePiece piece) asks replies refuses parts = refl
routed me p v q (body.AskSegment a z) asks replies refuses parts = refl
routed me p v q (body.Segment at es) asks replies refuses parts = refl

-- ---- what is staged

stages : (t : Turn) (batch : List Change) (shelf : Shelf) (v : step.Volatile) → HasRoomToStage t shelf
    → (let w : step.Volatile = record v { staged = staged_after batch (staged_in t v.staged) } in adopted_in batch t v ≡ w)
stages turn.Stay batch shelf v room = refl
stages (turn.Stage at run from) batch shelf v room = refl
stages _ batch shelf v room = absurd room

-- a plan that stages entries does its step of all that is kept
pub staged_ok : {E : Type 0} (x : Result Plan E) (shelf : Shelf) (v : step.Volatile) (f : step.Volatile → PartStep)
    → IfOk x (λ p. HasRoomToStage p.turn shelf) → IfOk x (λ p. DoesStep v.staged p f) → IfOk x (λ p. part_step_of p v ≡ f v)
staged_ok (Ok p) shelf v f room does =
    ap (λ (w : step.Volatile). let x : PartStep = record { batch = p.batch; volatile = w; sends = p.sends; replies = p.replies; outcome = p.outcome } in x) (stages p.turn p.batch shelf v room)
    ∙ does v
staged_ok (Err err) shelf v f room does = tt

stage_room : (t : Turn) (v : Volatile) → HasRoomToStage t v.staged → HasRoomIn t v
stage_room turn.Stay v room = tt
stage_room (turn.Stage at run from) v room = room
stage_room _ v room = absurd room

pub stage_room_ok : {E : Type 0} (x : Result Plan E) (v : Volatile) → IfOk x (λ p. HasRoomToStage p.turn v.staged) → IfOk x (λ p. HasRoomIn p.turn v)
stage_room_ok (Ok p) v room = stage_room p.turn v room
stage_room_ok (Err err) v room = tt

-- ---- pieces of a base

pieced : (t : Turn) (v : step.Volatile) → HasRoomToPiece t v.pieces → (let w : step.Volatile = record v { pieces = pieces_in t v.pieces } in adopted_in [] t v ≡ w)
pieced turn.Stay v room = refl
pieced turn.DropPieces v room = refl
pieced (turn.StagePiece p fresh) v room = refl
pieced _ v room = absurd room

-- a turn that stages a piece does its step of all that is kept
pub piece_step : (t : Turn) (v : step.Volatile) (f : step.Volatile → PartStep) → HasRoomToPiece t v.pieces → StagesAs v.pieces t f
    → (let x : Plan = record nothing_plan { turn = t } in part_step_of x v ≡ f v)
piece_step t v f room does =
    ap (λ (w : step.Volatile). let x : PartStep = record { batch = []; volatile = w; sends = []; replies = []; outcome = None } in x) (pieced t v room) ∙ does v

piece_room : (t : Turn) (v : Volatile) → HasRoomToPiece t v.pieces → HasRoomIn t v
piece_room turn.Stay v room = tt
piece_room turn.DropPieces v room = tt
piece_room (turn.StagePiece p fresh) v room = room
piece_room _ v room = absurd room

pub piece_room_ok : {E : Type 0} (x : Result Plan E) (v : Volatile) → IfOk x (λ p. HasRoomToPiece p.turn v.pieces) → IfOk x (λ p. HasRoomIn p.turn v)
piece_room_ok (Ok p) v room = piece_room p.turn v room
piece_room_ok (Err err) v room = tt

-- ---- news

plain_room : (t : Turn) (v : Volatile) → IsPlain t → HasRoomIn t v
plain_room turn.Stay v plain = tt
plain_room turn.DropPieces v plain = tt
plain_room _ v plain = absurd plain

pub plain_room_ok : {E : Type 0} (x : Result Plan E) (v : Volatile) → IfOk x (λ p. IsPlain p.turn) → IfOk x (λ p. HasRoomIn p.turn v)
plain_room_ok (Ok p) v plain = plain_room p.turn v plain
plain_room_ok (Err err) v plain = tt

-- news raise no promise
joins_quiet : (o : Option Joining) (q c : ℕ) (members olds : List ℕ) (len trimmed : ℕ) → raises_promise (joins o q c members olds len trimmed) ≡ false
joins_quiet o q c members olds len trimmed = by_joining o
  where
    begins_quiet : raises_promise (begins q c members olds len trimmed) ≡ false
    begins_quiet = cond_both (nat_le trimmed len) (change.JoinBegin c members olds len ∷ change.JoinDonor q trimmed ∷ []) [] (λ batch. raises_promise batch ≡ false) (λ e. refl) (λ e. refl)

    by_joining : (o : Option Joining) → raises_promise (joins o q c members olds len trimmed) ≡ false
    by_joining None = begins_quiet
    by_joining (Some j) =
        cond_both (nat_lt j.conf c) (begins q c members olds len trimmed) (cond (j.conf == c && is_new_donor j q trimmed) (change.JoinDonor q trimmed ∷ []) []) (λ batch. raises_promise batch ≡ false)
        (λ e. begins_quiet)
        (λ e. cond_both (j.conf == c && is_new_donor j q trimmed) (change.JoinDonor q trimmed ∷ []) [] (λ batch. raises_promise batch ≡ false) (λ f. refl) (λ f. refl))

-- what news do of all that is kept
pub news_step : (o : Option Joining) (q c : ℕ) (members olds : List ℕ) (len trimmed : ℕ) (v : step.Volatile)
    → (let batch : List Change = joins o q c members olds len trimmed in let x : Plan = record nothing_plan { batch = batch; turn = news_turn batch } in part_step_of x v ≡ storing_news v batch)
news_step o q c members olds len trimmed v =
    let batch : List Change = joins o q c members olds len trimmed in
    by (begins_joining batch) (raises_promise batch) (joins_quiet o q c members olds len trimmed)
  where
    by : (b r : Bool) → r ≡ false
        → (let batch : List Change = joins o q c members olds len trimmed in let w : step.Volatile = turned_in (cond b turn.DropPieces turn.Stay) v in let u : step.Volatile = record w { staged = cond r [] w.staged } in
        let x : PartStep = record { batch = batch; volatile = u; sends = []; replies = []; outcome = None } in x ≡ storing (cond b (record v { pieces = None }) v) batch)
    by b true e = absurd (true≢false e)
    by true false e = refl
    by false false e = refl
