-- Whether an id is among peers, by a test of each.
use Rattle.std.proofs.Common.{◌≡◌, ℕ, ◌<◌, Bool, true, List, [], ◌∷◌, length, get_or, refl, sym, ap, ◌∙◌, eqb, arith}
use Rattle.std.specs.List.{All, Contains, list_all, list_any}
use Rattle.std.specs.Map.{keys_of}
use Rattle.std.proofs.lemmas.List.{get_or-map}
use Rattle.std.proofs.lemmas.Bool.{and_parts}
use Rattle.std.proofs.lemmas.List.Elements.{All-cons, All-head, All-tail}
use Rattle.std.proofs.lemmas.List.Folds.{Any-from_list_any, list_any_at}
use Rattle.std.proofs.lemmas.Map.Entries.{length-keys_of}
use Rattle.op_setup.specs.Settings.{Peer}

abbrev pub is_id : ℕ → Peer → Bool
is_id id peer = eqb peer.0 id

eqb_same : (a b : ℕ) → eqb a b ≡ true → a ≡ b
eqb_same a b e = grind arith

same_eqb : (a b : ℕ) → a ≡ b → eqb a b ≡ true
same_eqb a b e = grind arith

abbrev key : Peer → ℕ
key p = p.0

-- an id that a test finds is among them
pub has_key : (peers : List Peer) (id : ℕ) → list_any (is_id id) peers ≡ true → Contains (keys_of peers) id
has_key peers id e =
    let at = Any-from_list_any (is_id id) peers e in
    let same : at.1.0 ≡ id = eqb_same at.1.0 id at.4 in
    let long : length (keys_of peers) ≡ length peers = length-keys_of peers in
    (at.0, omega (arith, long, at.2), get_or-map key peers at.0 at.1 id at.2 ∙ ap key at.3 ∙ same)

-- a test finds an id that is among them
pub any_key : (peers : List Peer) (id : ℕ) → Contains (keys_of peers) id → list_any (is_id id) peers ≡ true
any_key peers id at =
    let d : Peer = (id, record { host = 0; port = 0 }) in
    let long : length (keys_of peers) ≡ length peers = length-keys_of peers in
    let within : at.0 < length peers = omega (arith, long, at.1) in
    let same : key (get_or peers at.0 d) ≡ id = sym (get_or-map key peers at.0 d id within) ∙ at.2 in
    list_any_at (is_id id) peers at.0 d within (same_eqb (key (get_or peers at.0 d)) id same)

abbrev has_each : List Peer → ℕ → Bool
has_each peers id = list_any (is_id id) peers

-- members that a test finds are all among them
pub has_all : (peers : List Peer) (ms : List ℕ) → list_all (has_each peers) ms ≡ true → All (Contains (keys_of peers)) ms
has_all peers [] e = λ i d lt. absurd (omega arith)
has_all peers (m ∷ ms) e =
    let both = and_parts (has_each peers m) (list_all (has_each peers) ms) e in
    All-cons (Contains (keys_of peers)) m ms (has_key peers m both.0) (has_all peers ms both.1)

-- a test finds members that are all among them
pub all_has : (peers : List Peer) (ms : List ℕ) → All (Contains (keys_of peers)) ms → list_all (has_each peers) ms ≡ true
all_has peers [] h = refl
all_has peers (m ∷ ms) h = rw (any_key peers m (All-head (Contains (keys_of peers)) m ms h)) (all_has peers ms (All-tail (Contains (keys_of peers)) m ms h))
