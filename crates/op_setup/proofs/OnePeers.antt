-- A table's rows are those of one list of peers at most.
use Rattle.std.proofs.Common.{◌≡◌, ℕ, zero, suc, ◌<◌, List, [], ◌∷◌, length, get_or, refl, sym, ap, ◌∙◌, subst, inl, inr, ◌⊎◌, arith}
use Rattle.std.specs.List.{Contains}
use Rattle.std.specs.Map.{keys_of}
use Rattle.std.proofs.lemmas.Fmt.{decimal_injective}
use Rattle.std.proofs.lemmas.List.Elements.{All-contains}
use Rattle.toml.specs.Data.{Data, Members as Table, string}
use Rattle.op_types.specs.Ranges.{AreRising}
use Rattle.op_outside.specs.declared.net.Addr.{Addr}
use Rattle.op_setup.specs.Addresses.{addr_text}
use Rattle.op_setup.specs.Settings.{Peer, IsRow, HasPeer, AreRows}
use Rattle.op_setup.proofs.AddressTexts.{one_addr}

-- ---- an element of a list with one more at its start

uncons_at : (x : Peer) (xs : List Peer) (y : Peer) (k : ℕ) → k < length (x ∷ xs) → get_or (x ∷ xs) k y ≡ y → (x ≡ y) ⊎ Contains xs y
uncons_at x xs y zero lt e = inl e
uncons_at x xs y (suc k) lt e = inr (k, omega arith, e)

uncons : (x : Peer) (xs : List Peer) (y : Peer) → Contains (x ∷ xs) y → (x ≡ y) ⊎ Contains xs y
uncons x xs y c = uncons_at x xs y c.0 c.1 c.2

first : (x : Peer) (xs : List Peer) → Contains (x ∷ xs) x
first x xs = (0, omega arith, refl)

later : (x : Peer) (xs : List Peer) (y : Peer) → Contains xs y → Contains (x ∷ xs) y
later x xs y c = (suc c.0, omega (arith, c.1), c.2)

-- ---- rising lists with the same elements

nothing : (y : Peer) → Contains [] y → ⊥
nothing y c = omega (arith, c.1)

above : (low : ℕ) (xs : List Peer) (y : Peer) → AreRising low (keys_of xs) → Contains xs y → low < y.0
above low [] y r c = absurd (nothing y c)
above low (x ∷ xs) y r c = elim (uncons x xs y c) [
  | inl e ↦ (let P : Peer → Type 0 = λ p. low < p.0 in subst P e r.0)
  | inr more ↦ (let h = above x.0 xs y r.2 more in omega (arith, h, r.0))
]

same_first : (low : ℕ) (x : Peer) (xs : List Peer) (y : Peer) (ys : List Peer) → AreRising low (keys_of (x ∷ xs)) → AreRising low (keys_of (y ∷ ys)) → Contains (y ∷ ys) x → Contains (x ∷ xs) y → x ≡ y
same_first low x xs y ys rx ry cx cy = elim (uncons y ys x cx) [
  | inl e ↦ sym e
  | inr more ↦ elim (uncons x xs y cy) [
    | inl e ↦ e
    | inr other ↦ (let h = above y.0 ys x ry.2 more in let k = above x.0 xs y rx.2 other in absurd (omega (arith, h, k)))
  ]
]

-- what is in both longer lists is in both shorter ones
in_rest : (low : ℕ) (x : Peer) (xs : List Peer) (y : Peer) (ys : List Peer) → AreRising low (keys_of (x ∷ xs)) → x ≡ y → ((p : Peer) → Contains (x ∷ xs) p → Contains (y ∷ ys) p) → (p : Peer) → Contains xs p → Contains ys p
in_rest low x xs y ys rx e sub p c = elim (uncons y ys p (sub p (later x xs p c))) [
  | inl same ↦ (let h = above x.0 xs p rx.2 c in let k : x.0 ≡ p.0 = ap (λ (q : Peer). q.0) (e ∙ same) in absurd (omega (arith, h, k)))
  | inr more ↦ more
]

same_lists : (low : ℕ) (xs ys : List Peer) → AreRising low (keys_of xs) → AreRising low (keys_of ys) → ((p : Peer) → Contains xs p → Contains ys p) → ((p : Peer) → Contains ys p → Contains xs p) → xs ≡ ys
same_lists low [] [] rx ry to from = refl
same_lists low [] (y ∷ ys) rx ry to from = absurd (nothing y (from y (first y ys)))
same_lists low (x ∷ xs) [] rx ry to from = absurd (nothing x (to x (first x xs)))
same_lists low (x ∷ xs) (y ∷ ys) rx ry to from =
    let e = same_first low x xs y ys rx ry (to x (first x xs)) (from y (first y ys)) in
    let P : Peer → Type 0 = λ p. AreRising p.0 (keys_of ys) in
    let rest = same_lists x.0 xs ys rx.2 (subst P (sym e) ry.2) (in_rest low x xs y ys rx e to) (in_rest low y ys x xs ry (sym e) from) in
    cc (e, rest)

-- ---- peers of the same rows

one_text : (a b : Addr) → string (addr_text a) ≡ string (addr_text b) → addr_text a ≡ addr_text b
one_text a b e = cc

abbrev peer : ℕ → Addr → Peer
peer id a = (id, a)

one_row : (key : List ℕ) (value : Data) (p q : Peer) → IsRow key value p → IsRow key value q → p ≡ q
one_row key value p q hp hq =
    let ids : p.0 ≡ q.0 = decimal_injective p.0 q.0 (omega (arith, hp.id.1)) (omega (arith, hq.id.1)) (sym hp.key_text ∙ hq.key_text) in
    let addrs : p.1 ≡ q.1 = one_addr (addr_text p.1) p.1 q.1 (hp.addr, refl) (hq.addr, one_text p.1 q.1 (sym hp.value_text ∙ hq.value_text)) in
    ap (λ (id : ℕ). peer id p.1) ids ∙ ap (peer q.0) addrs

also : (rows : Table) (ps qs : List Peer) → AreRows rows ps → AreRows rows qs → (p : Peer) → Contains ps p → Contains qs p
also rows ps qs hp hq p c =
    let has : HasPeer rows p = All-contains (HasPeer rows) ps p hp.each c in
    let some = hq.all has.0 has.1 has.2 in
    let same : p ≡ some.0 = one_row has.0 has.1 p some.0 has.3 some.2 in
    let P : Peer → Type 0 = λ x. Contains qs x in
    subst P (sym same) some.1

pub one_peers : (rows : Table) (ps qs : List Peer) → AreRows rows ps → AreRows rows qs → ps ≡ qs
one_peers rows ps qs hp hq = same_lists 0 ps qs hp.rising hq.rising (also rows ps qs hp hq) (also rows qs ps hq hp)
