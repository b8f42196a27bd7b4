-- What a message does to a role.
use Rattle.std.specs.Prelude.{ℕ, [], ◌∷◌}
use Rattle.op_types.specs.declared.durable.Part.{Part}
use Rattle.op_types.specs.declared.messages.Body.{Body}
use Rattle.op_types.specs.declared.messages.Body.TheVariants as body
use Rattle.op_types.specs.Roles.{Role}
use Rattle.op_types.specs.Effects.{Effects}
use Rattle.op_protocol.specs.Parts.{nothing}
use Rattle.op_protocol.specs.Leader.{on_promise, on_promise_part, on_accepted, on_prepare_req, on_forward}
use Rattle.op_protocol.specs.Trimming.{on_trim_ask, on_progress, on_trim}
use Rattle.op_protocol.specs.Follower.{on_prepare, on_accept_sync, on_accept, on_decide}
use Rattle.op_protocol.specs.Reading.{on_confirm}

-- the row of a message, by what it says; what is of heartbeats, of elections, of what is staged
-- or of joining has none, and what tells a leader of its reads
abbrev pub row_of : ℕ → Part → Role → ℕ → Body → Effects
row_of me p r q (body.Prepare n na nl nd) = on_prepare p r q n na nl nd
row_of me p r q (body.Promise n fa fl fd s entries) =
    on_promise me p r n
    (record { from = q; accepted = fa; len = fl; decided = fd; start = s; entries = entries })
row_of me p r q (body.PromisePart n part) = on_promise_part me p r q n part
row_of me p r q (body.AcceptSync n x entries) = on_accept_sync p r q n x entries
row_of me p r q (body.Accept n at entries) = on_accept p r q n at entries
row_of me p r q (body.Accepted n x) = on_accepted me p r q n x
row_of me p r q (body.Decide n x) = on_decide p r n x
row_of me p r q body.PrepareReq = on_prepare_req p r q
row_of me p r q (body.Forward e) = on_forward me p r (e ∷ [])
row_of me p r q (body.Forwards entries) = on_forward me p r entries
row_of me p r q (body.TrimAsk n) = on_trim_ask p r q n
row_of me p r q (body.Progress n x) = on_progress me p r q n x
row_of me p r q (body.Trim x) = on_trim p r x
row_of me p r q (body.Confirm n number) = on_confirm p r q n number
row_of me p r q _ = nothing r
