-- Replies of a heartbeat round, given from outside, at server 1 of three: of each other member the last one
-- of that round is kept.
use Rattle.std.proofs.Common.{◌≡◌, ℕ, List, [], ◌∷◌, Bool, true, false, fold, refl}
use Rattle.op_types.specs.declared.messages.Heard.{Heard}
use Rattle.op_heartbeat.specs.HeardReplies.{HeardReplies, heard_replies_of, round_begun, reply_taken}

-- server p replies that it stands for its ballot of this number, and whether it heard a majority
abbrev reply : ℕ → ℕ → Bool → Heard
reply p n flag = record { from = p; ballot = record { number = n; pid = p }; flag = flag }

-- a round begins, and these replies come, each with its round
abbrev round_with : HeardReplies → List (ℕ × Heard) → HeardReplies
round_with h replies = fold (λ g x. reply_taken g x.0 x.1) (round_begun h) replies

-- two of server 2, one of server 3 for this round and one for the next, one of itself, and one of no member
abbrev first_round : HeardReplies
first_round = round_with (heard_replies_of 1 (1 ∷ 2 ∷ 3 ∷ []))
    ((1, reply 2 1 false) ∷ (1, reply 3 4 true) ∷ (1, reply 2 2 true) ∷ (2, reply 3 9 true)
    ∷ (1, reply 1 9 true) ∷ (1, reply 4 9 true) ∷ [])

kept_once : (first_round.round ≡ 1) × (first_round.heard ≡ reply 3 4 true ∷ reply 2 2 true ∷ [])
kept_once = (refl, refl)

-- the next round begins with none
begun_anew : ((round_with first_round []).round ≡ 2) × ((round_with first_round []).heard ≡ [])
begun_anew = (refl, refl)
