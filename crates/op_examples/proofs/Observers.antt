-- What an observer makes of what it is shown, and what a member shows it, given from outside.
use Rattle.std.proofs.Common.{◌≡◌, ℕ, List, [], ◌∷◌, ◌++◌, Some, None, refl}
use Rattle.op_types.specs.Changes.{new_part, part_based}
use Rattle.op_types.specs.declared.changes.Change.{Change}
use Rattle.op_types.specs.declared.changes.Change.TheVariants as change
use Rattle.op_types.specs.declared.durable.Durable.{Durable}
use Rattle.op_types.specs.declared.durable.Joining.{Joining}
use Rattle.op_types.specs.declared.durable.Part.{Part}
use Rattle.op_types.specs.declared.events.Input.TheVariants as input
use Rattle.op_types.specs.declared.log.Entry.{Entry}
use Rattle.op_types.specs.declared.log.Entry.TheVariants as entry
use Rattle.op_types.specs.declared.messages.Body.TheVariants as body
use Rattle.op_types.specs.declared.messages.Msg.{Msg}
use Rattle.op_types.specs.declared.messages.Watch.{Watch}
use Rattle.op_types.specs.declared.messages.Watch.TheVariants as watch
use Rattle.op_spec.specs.Service.{new_service}
use Rattle.op_kv.specs.Rising.{rising_read}
use Rattle.op_protocol.specs.State.{State, state_after}
use Rattle.op_protocol.specs.Starting.{first_volatile}
use Rattle.op_protocol.specs.Watched.{watch_answers}
use Rattle.op_protocol.specs.Watching.{watch_plan}
use Rattle.op_examples.proofs.Entries.{one_put}

-- eight bytes of the base of a service with no pairs and no clients, and all of them
abbrev half : List ℕ
half = 0 ∷ 0 ∷ 0 ∷ 0 ∷ 0 ∷ 0 ∷ 0 ∷ 0 ∷ []

abbrev base : List ℕ
base = half ++ half

-- observer 9 at its first start
abbrev first : Part
first = new_part 1 (1 ∷ 2 ∷ 3 ∷ []) base

abbrev stored : Part → Durable
stored p = record { part = Some p; closed = None; joining = None }

abbrev observing : State
observing =
    record {
      durable = stored first;
      volatile = first_volatile 9;
      service = new_service;
      waiting = [];
      reads = None;
    }

-- server 1 says this of a configuration
abbrev said : ℕ → Watch → Msg
said c w = record { conf = c; body = body.Watch w }

abbrev plans : State → Msg → List Change
plans s m = (watch_plan 9 s (input.Deliver 1 m)).batch

abbrev hears : State → Msg → State
hears s m = state_after s (watch_plan 9 s (input.Deliver 1 m))

-- ---- entries

-- the stop-sign that names server 4
abbrev stop : Entry
stop = entry.Stop (record { next = 2; members = 4 ∷ [] })

-- the first entry is taken; one behind a gap isn't, nor is one of another configuration
entries_are_taken :
    (plans observing (said 1 (watch.Shown 0 (one_put ∷ []))) ≡ change.Append
    (one_put ∷ []) ∷ change.Decided 1 ∷ []) ×
    (plans observing (said 1 (watch.Shown 1 (one_put ∷ []))) ≡ []) ×
    (plans observing (said 2 (watch.Shown 0 (one_put ∷ []))) ≡ [])
entries_are_taken = (refl, refl, refl)

-- what it has already isn't taken again
entries_are_taken_once :
    (plans (hears observing (said 1 (watch.Shown 0 (one_put ∷ []))))
    (said 1 (watch.Shown 0 (one_put ∷ one_put ∷ [])))
    ≡ change.Append (one_put ∷ []) ∷ change.Decided 2 ∷ []) ×
    (plans (hears observing (said 1 (watch.Shown 0 (one_put ∷ [])))) (said 1 (watch.Shown 0 (one_put ∷ [])))
    ≡ [])
entries_are_taken_once = (refl, refl)

-- behind a stop-sign it goes on in the next configuration
a_stop_sign_is_followed :
    plans observing (said 1 (watch.Shown 0 (stop ∷ [])))
    ≡ change.Append (stop ∷ []) ∷ change.Decided 1 ∷ change.Rebase 2 (4 ∷ []) 0 base ∷ []
a_stop_sign_is_followed = refl

-- ---- a base

-- half of the base at position 3 of a configuration with member 4
abbrev piece : ℕ → ℕ → Msg
piece c from = said c (watch.Base (4 ∷ []) (record { at = 3; total = 16; from = from; bytes = half }))

-- the base is taken with its last piece, in whatever order they come
a_base_is_taken :
    (plans observing (piece 2 0) ≡ []) ×
    (plans (hears observing (piece 2 0)) (piece 2 8) ≡ change.Rebase 2 (4 ∷ []) 3 base ∷ []) ×
    (plans (hears observing (piece 2 8)) (piece 2 0) ≡ change.Rebase 2 (4 ∷ []) 3 base ∷ [])
unfolding rising_read
a_base_is_taken = (refl, refl, refl)

-- a piece of another configuration begins anew
a_base_is_not_mixed :
    plans (hears (hears observing (piece 2 0)) (piece 3 8)) (piece 2 8) ≡ []
unfolding rising_read
a_base_is_not_mixed = refl

-- one that isn't ahead of it does nothing
a_base_behind_is_not_taken :
    plans (record observing { durable = stored (part_based 2 (4 ∷ []) 3 base) }) (piece 2 0) ≡ []
a_base_behind_is_not_taken = refl

-- ---- what a member shows

-- it has accepted two entries, and decided one
abbrev accepting : Part
accepting = record first { tail = record { items = one_put ∷ one_put ∷ []; room = 0 }; decided = 1 }

-- it joins configuration 2
abbrev joining : Joining
joining =
    record {
      conf = 2;
      members = 1 ∷ [];
      olds = 1 ∷ 2 ∷ 3 ∷ [];
      len = 4;
      donors = [];
      base = None;
      held = record { items = []; room = 0 };
    }

-- what is decided is shown, and nothing behind it; what is asked of a later configuration is not answered,
-- and nothing is while the node joins
what_is_decided_is_shown :
    (watch_answers (stored accepting) 9 1 (body.Watch (watch.Ask 0)) ≡
    (9, said 1 (watch.Shown 0 (one_put ∷ []))) ∷ []) ×
    (watch_answers (stored accepting) 9 1 (body.Watch (watch.Ask 1)) ≡ []) ×
    (watch_answers (stored accepting) 9 2 (body.Watch (watch.Ask 0)) ≡ []) ×
    (watch_answers (record (stored accepting) { joining = Some joining }) 9 1 (body.Watch (watch.Ask 0)) ≡ [])
what_is_decided_is_shown = (refl, refl, refl, refl)

-- where it is trimmed the base is shown
what_is_trimmed_is_shown :
    watch_answers (stored (part_based 1 (4 ∷ []) 3 base)) 9 1 (body.Watch (watch.Ask 2))
    ≡ (9, said 1 (watch.Base (4 ∷ []) (record { at = 3; total = 16; from = 0; bytes = base }))) ∷ []
what_is_trimmed_is_shown = refl
