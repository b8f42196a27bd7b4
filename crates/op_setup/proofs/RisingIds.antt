-- Rising ids, one after the other, and what a list that writes them says next.
use Rattle.std.proofs.Common.{◌≡◌, ℕ, ◌≤◌, ◌<◌, List, [], ◌∷◌, ◌++◌, map, decimal, refl, sym, ap, ◌∙◌, subst, arith}
use Rattle.std.proofs.lemmas.Fmt.{decimal_injective}
use Rattle.op_types.specs.Limits.{greatest_pid}
use Rattle.op_types.specs.Ranges.{AreRising}
use Rattle.op_setup.specs.Settings.{id_data}

-- the last of some ids, or `low` where there are none
abbrev pub last_of : ℕ → List ℕ → ℕ
last_of low [] = low
last_of low (id ∷ ids) = last_of id ids

pub rising-push : (low : ℕ) (ids : List ℕ) (id : ℕ) → AreRising low ids → last_of low ids < id → id ≤ greatest_pid → AreRising low (ids ++ id ∷ [])
rising-push low [] id r above fits = (above, fits, tt)
rising-push low (x ∷ ids) id r above fits = (r.0, r.1, rising-push x ids id r.2 above fits)

pub last_of-push : (low : ℕ) (ids : List ℕ) (id : ℕ) → last_of low (ids ++ id ∷ []) ≡ id
last_of-push low [] id = refl
last_of-push low (x ∷ ids) id = last_of-push x ids id

-- no two ids are written alike
abbrev pub TellsIds : {A : Type 0} → (ℕ → A) → Type 0
TellsIds f = (x y : ℕ) → x ≤ greatest_pid → y ≤ greatest_pid → f x ≡ f y → x ≡ y

pub data_tells : TellsIds id_data
data_tells x y fits too e = cc

pub decimal_tells : TellsIds decimal
decimal_tells x y fits too e = decimal_injective x y (omega (arith, fits)) (omega (arith, too)) e

-- what a list of rising ids has after the first of them
pub next_id : {A : Type 0} (f : ℕ → A) → TellsIds f → (low : ℕ) (xs ids : List ℕ) (d : A) (rest : List A) → map f xs ++ d ∷ rest ≡ map f ids → AreRising low xs → AreRising low ids
    → (id : ℕ) × (d ≡ f id) × (last_of low xs < id) × (id ≤ greatest_pid)
next_id f tells low [] [] d rest e rx r = absurd cc
next_id f tells low [] (id ∷ ids) d rest e rx r = (id, cc, r.0, r.1)
next_id f tells low (x ∷ xs) [] d rest e rx r = absurd cc
next_id {A} f tells low (x ∷ xs) (id ∷ ids) d rest e rx r =
    let same : x ≡ id = tells x id rx.1 r.1 cc in
    let P : ℕ → Type 0 = λ n. AreRising n ids in
    let tail : map f xs ++ d ∷ rest ≡ map f ids = cc in
    next_id f tells x xs ids d rest tail rx.2 (subst P (sym same) r.2)

-- no ids go on with what is no id after the last
pub no_ids : {A : Type 0} (f : ℕ → A) → TellsIds f → (xs : List ℕ) (d : A) (rest : List A) (ds : List A) → map f xs ++ d ∷ rest ≡ ds → AreRising 0 xs → ((id : ℕ) → (d ≡ f id) × (last_of 0 xs < id) × (id ≤ greatest_pid) → ⊥)
    → (ids : List ℕ) → ds ≡ map f ids → AreRising 0 ids → ⊥
no_ids f tells xs d rest ds e rx none ids written rising =
    let id = next_id f tells 0 xs ids d rest (e ∙ written) rx rising in
    none id.0 (id.1, id.2, id.3)

-- one more id of a list
pub map_push : {A : Type 0} (f : ℕ → A) (xs : List ℕ) (id : ℕ) (d : A) (rest ds : List A) → d ≡ f id → map f xs ++ d ∷ rest ≡ ds → map f (xs ++ id ∷ []) ++ rest ≡ ds
map_push {A} f xs id d rest ds e split = pushed xs id rest ∙ ap (λ (x : A). map f xs ++ x ∷ rest) (sym e) ∙ split
  where
    pushed : (xs : List ℕ) (id : ℕ) (rest : List A) → map f (xs ++ id ∷ []) ++ rest ≡ map f xs ++ f id ∷ rest
    pushed [] id rest = refl
    pushed (x ∷ xs) id rest = ap (λ (ys : List A). f x ∷ ys) (pushed xs id rest)
