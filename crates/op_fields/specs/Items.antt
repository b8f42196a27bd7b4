-- What a reader of one item gives, against how an item is read.
use Rattle.std.specs.Prelude.{◌≡◌, ◌<◌, ◌^◌, ℕ, List, [], Result, Ok, Err}
use Rattle.op_fields.specs.declared.fail.TakeFail.{TakeFail}
use Rattle.op_fields.specs.Form.{Read, Form}
use Rattle.op_fields.specs.Taken.{Fails}

-- how an item is read, by the key of the one before it
abbrev pub Reader : Type 0 → Type 0
Reader A = ℕ → List ℕ → ℕ → Read A

-- the form of items of which only the reading counts
abbrev pub read_by : {A : Type 0} → Reader A → ℕ → Form A
read_by read low = record { text = λ _. []; fits = λ _. Unit {0}; read = read low }

-- an item, its key and the place after it are what reading gives, unless memory ran out
abbrev pub GivesItem : {A : Type 0} → (A → ℕ) → Result (A × ℕ × ℕ) TakeFail → Read A → Type 0
GivesItem key (Ok x) read = (read ≡ Ok (x.0, x.2)) × (x.1 ≡ key x.0)
GivesItem key (Err e) read = Fails e read

-- each call at a place and a key gives the item there
abbrev pub ReadsItems : {A : Type 0} → (ℕ → ℕ → Result (A × ℕ × ℕ) TakeFail → Type 0) →
    Reader A → (A → ℕ) → List ℕ → Type 0
ReadsItems post read key bytes =
    (at low : ℕ) (r : _) → at < 2 ^ 64 → low < 2 ^ 64 → post at low r → GivesItem key r (read low bytes at)
