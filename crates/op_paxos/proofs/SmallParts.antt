-- What a receiver does with parts, computed: they come in order, out of order, with a start between, and past a gap.
use Rattle.std.proofs.Common.{◌≡◌, ℕ, List, [], ◌∷◌, None, refl}
use Rattle.op_types.specs.declared.log.Command.{Command}
use Rattle.op_types.specs.declared.log.Entry.{Entry}
use Rattle.op_types.specs.declared.log.Entry.TheVariants as entry
use Rattle.op_paxos.specs.Logs.{is_stop}
use Rattle.op_paxos.specs.Nodes.{Idle, Preparing, Node}
use Rattle.op_paxos.specs.Messages.{Msg, PromisePart, AcceptSyncPart, PrepareReq, packet}
use Rattle.op_paxos.specs.Follower.{synced_to, synced_once, on_first_part, appended_staged, on_later_part, on_accept_sync_part}
use Rattle.op_paxos.specs.Leader.{majority_length, recount, adopted_node, new_leading, adopt_with, adopt, prepared, on_promise_in, promised_once, on_promise_part_in}
use Rattle.op_paxos.specs.Worlds.{on_msg, Starts, step}
use Rattle.op_paxos.specs.InParts.{after_each}

module _ (a b c : Command) where
  abbrev put : Command → Entry
  put x = entry.Command x

  -- a follower that has promised ballot 1, with nothing in its log
  abbrev waiting : Node
  waiting = record { promised = 1; accepted = 0; log = []; decided = 0; trimmed = 0; staged = []; role = Idle }

  -- the parts of an AcceptSync of three entries: the first two, and the last
  abbrev first_part : Msg
  first_part = AcceptSyncPart 1 (record { start = 0; end = 3; at = 0; run = put a ∷ put b ∷ [] })

  abbrev last_part : Msg
  last_part = AcceptSyncPart 1 (record { start = 0; end = 3; at = 2; run = put c ∷ [] })

  abbrev members : List ℕ
  members = 1 ∷ 2 ∷ 3 ∷ []

  -- the first alone is staged
  half : ((after_each members 2 waiting 1 (first_part ∷ [])).accepted ≡ 0) × ((after_each members 2 waiting 1 (first_part ∷ [])).log ≡ [])
  unfolding step on_msg on_accept_sync_part on_first_part synced_once synced_to
  half = (refl, refl)

  -- both are the whole, in either order
  both : ((after_each members 2 waiting 1 (first_part ∷ last_part ∷ [])).accepted ≡ 1) × ((after_each members 2 waiting 1 (first_part ∷ last_part ∷ [])).log ≡ put a ∷ put b ∷ put c ∷ [])
  unfolding step on_msg on_accept_sync_part on_first_part synced_once synced_to
  both = (refl, refl)

  turned : ((after_each members 2 waiting 1 (last_part ∷ first_part ∷ [])).accepted ≡ 1) × ((after_each members 2 waiting 1 (last_part ∷ first_part ∷ [])).log ≡ put a ∷ put b ∷ put c ∷ [])
  unfolding step on_msg on_accept_sync_part on_first_part synced_once synced_to
  turned = (refl, refl)

  -- a start between them drops what was staged: the last alone makes nothing whole
  dropped : (after_each members 2 (step members 2 (after_each members 2 waiting 1 (first_part ∷ [])) Starts).node 1 (last_part ∷ [])).accepted ≡ 0
  unfolding step on_msg on_accept_sync_part on_first_part synced_once synced_to
  dropped = refl

  -- a part past a gap is staged and asks for a Prepare; once the gap is filled both are added
  gap : (step members 2 (record waiting { accepted = 1 }) (Rattle.op_paxos.specs.Worlds.Comes 1 last_part)).sends ≡ packet 2 1 PrepareReq ∷ []
  unfolding step on_msg on_accept_sync_part on_later_part appended_staged
  gap = refl

  filled : (after_each members 2 (record waiting { accepted = 1 }) 1 (last_part ∷ first_part ∷ [])).log ≡ put a ∷ put b ∷ put c ∷ []
  unfolding step on_msg on_accept_sync_part on_later_part appended_staged
  filled = refl

  -- ---- a promise in two parts: the second completes it, and node 1 leads with what it tells
  abbrev preparing : Node
  preparing = record { promised = 2; accepted = 0; log = []; decided = 0; trimmed = 0; staged = []; role = Preparing (record { ballot = 2; kept = λ q. None; parts = λ q. []; buffer = [] }) }

  abbrev told_part : ℕ → List Entry → Msg
  told_part at run = PromisePart 2 (record { round = 1; size = 3; decided = 0; start = 0; at = at; run = run })

  leads : (after_each members 1 preparing 2 (told_part 0 (put a ∷ put b ∷ []) ∷ told_part 2 (put c ∷ []) ∷ [])).log ≡ put a ∷ put b ∷ put c ∷ []
  unfolding step on_msg on_promise_part_in promised_once on_promise_in prepared adopt adopt_with adopted_node new_leading recount majority_length is_stop
  leads = refl

  -- the second alone is nothing yet
  prepares : (after_each members 1 preparing 2 (told_part 2 (put c ∷ []) ∷ [])).log ≡ []
  unfolding step on_msg on_promise_part_in promised_once on_promise_in prepared adopt adopt_with adopted_node new_leading recount majority_length is_stop
  prepares = refl
