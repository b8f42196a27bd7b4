-- What is put before a plan.
use Rattle.std.specs.Prelude.{ℕ, List, ◌++◌}
use Rattle.op_types.specs.declared.answers.Reply.{Reply}
use Rattle.op_types.specs.declared.changes.Change.{Change}
use Rattle.op_types.specs.declared.messages.Msg.{Msg}
use Rattle.op_types.specs.declared.plan.Plan.{Plan}

-- a plan, after these changes, messages and replies
abbrev pub plan_after : List Change → List (ℕ × Msg) → List Reply → Plan → Plan
plan_after batch sends replies x =
    record x { batch = batch ++ x.batch; sends = sends ++ x.sends; replies = replies ++ x.replies }
