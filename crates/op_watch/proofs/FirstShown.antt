-- What is shown of a base, one piece after the other, and of entries, of which there may be none.
use Rattle.std.proofs.Common.{◌≡◌, ℕ, suc, ◌+◌, ◌-◌, ◌*◌, ◌<◌, List, [], ◌∷◌, take, map, ap, ◌∙◌, arith}
use Rattle.op_types.specs.Limits.{most_part_bytes}
use Rattle.op_types.specs.Cutting.{cut}
use Rattle.op_types.specs.declared.log.Entry.{Entry}
use Rattle.op_types.specs.declared.messages.Body.TheVariants as body
use Rattle.op_types.specs.declared.messages.Watch.TheVariants as watch
use Rattle.op_protocol.specs.Watched.{watch_pieces, shown_bodies}
use Rattle.op_segments.specs.Staging.{piece_of}

-- one piece, and those behind it
pub pieces_more : (members : List ℕ) (at : ℕ) (bytes : List ℕ) (i count : ℕ) → i < count
    → watch_pieces members at bytes (i * most_part_bytes) (count - i) ≡ body.Watch
    (watch.Base members (piece_of at bytes (i * most_part_bytes))) ∷ watch_pieces members at bytes
    ((i + 1) * most_part_bytes) (count - (i + 1))
pieces_more members at bytes i count lt =
    let more : count - i ≡ suc (count - (i + 1)) = omega arith in
    let next : i * most_part_bytes + most_part_bytes ≡ (i + 1) * most_part_bytes = omega arith in
    ap (λ (k : ℕ). watch_pieces members at bytes (i * most_part_bytes) k) more
    ∙ ap (λ (k : ℕ). body.Watch
    (watch.Base members (piece_of at bytes (i * most_part_bytes))) ∷ watch_pieces members at bytes k
    (count - (i + 1))) next

-- the first run of entries, where there is one
pub run_shown : (at : ℕ) (entries run others : List Entry) → cut entries ≡ run ∷ cut others
    → shown_bodies at entries ≡ body.Watch (watch.Shown at run) ∷ []
run_shown at entries run others is =
    ap (λ (runs : List (List Entry)). map (λ r. body.Watch (watch.Shown at r)) (take 1 runs)) is

-- and where there is none
pub none_shown : (at : ℕ) (entries : List Entry) → entries ≡ [] → shown_bodies at entries ≡ []
none_shown at entries none = ap (λ (es : List Entry). shown_bodies at es) none
