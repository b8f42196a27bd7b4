-- A node's step at what an observer asks, whoever it is: nothing changes, and it is answered.
use Rattle.std.proofs.Common.{◌≡◌, ℕ, List, [], None, refl, ap, ◌∙◌, arith}
use Rattle.std.proofs.lemmas.List.Elements.{All-nil}
use Rattle.op_types.specs.declared.events.Input.{Input}
use Rattle.op_types.specs.declared.events.Input.TheVariants as input
use Rattle.op_types.specs.declared.messages.Body.TheVariants as body
use Rattle.op_types.specs.declared.messages.Msg.{Msg}
use Rattle.op_types.specs.declared.messages.Watch.{Watch}
use Rattle.op_record.specs.Ranges.{ChangeInRange}
use Rattle.op_protocol.specs.Reading.{reading}
use Rattle.op_protocol.specs.Rows.{step_bringing, table_plan, step_plan}
use Rattle.op_protocol.specs.State.{State, Planned}
use Rattle.op_protocol.specs.Watched.{watch_answers}
use Rattle.op_protocol.proofs.Watching.{brings_nothing}
use Rattle.op_bounds.specs.Messages.{SendInRange, ReplyInRange}
use Rattle.op_bounds.specs.States.{StateInRange}
use Rattle.op_bounds.specs.Laws.{PlanInRange}
use Rattle.op_bounds.proofs.Plans.{quiet_is}
use Rattle.op_bounds.proofs.Reading.{reading_in}

-- nothing changes, and this is said
abbrev pub says_only : State → List (ℕ × Msg) → Planned
says_only s sends =
    record {
      batch = [];
      volatile = s.volatile;
      service = s.service;
      waiting = s.waiting;
      reads = None;
      sends = sends;
      replies = [];
      read_replies = [];
      outcome = None;
    }

module _ (Known : ℕ → Type 0) (me : ℕ) (s : State) where
  -- what comes
  abbrev comes : ℕ → ℕ → Watch → Input
  comes q c w = input.Deliver q (record { conf = c; body = body.Watch w })

  abbrev told : ℕ → ℕ → Watch → List (ℕ × Msg)
  told q c w = watch_answers s.durable q c (body.Watch w)

  planned_is : (q c : ℕ) (w : Watch) → table_plan me s (comes q c w) ≡ says_only s (told q c w)
  planned_is q c w =
      ap (step_bringing me s (comes q c w)) (brings_nothing s.durable s.volatile q c w)
      ∙ quiet_is Known me s.durable.closed s.durable.joining s.volatile s.volatile s.service s.waiting s.waiting [] (told q c w) None s.durable.part (λ p e. (refl, refl))

  pub watched_is : (q c : ℕ) (w : Watch) → step_plan me s (comes q c w) ≡ reading me s (comes q c w) (says_only s (told q c w))
  watched_is q c w = ap (reading me s (comes q c w)) (planned_is q c w)

  -- but for what is said, that is in range
  pub watched_in : StateInRange Known s → (q c : ℕ) (w : Watch) → PlanInRange Known s (reading me s (comes q c w) (says_only s []))
  watched_in k q c w =
      reading_in Known me s k (comes q c w) tt (says_only s [])
      (record {
        applies = tt;
        batch = record { few = omega arith; each = All-nil ChangeInRange };
        sends = All-nil (SendInRange Known);
        replies = All-nil (ReplyInRange Known);
        read_replies = All-nil (ReplyInRange Known);
        outcome = tt;
        after = record { durable = k.durable; volatile = k.volatile; stops = k.stops; service = k.service; order = k.order; reads = tt };
      })
