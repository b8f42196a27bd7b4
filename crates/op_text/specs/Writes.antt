-- The words of writes, read from the left. Only what is inside the crate speaks of this.
use Rattle.std.specs.Prelude.{◌≡◌, ℕ, List, [], ◌∷◌, ◌++◌, codes}
use Rattle.op_types.specs.declared.writes.Write.{Write}
use Rattle.op_text.specs.declared.writes.WriteWords.{WriteWords}
use Rattle.op_text.specs.declared.writes.WriteWords.TheVariants as those_of
use Rattle.op_text.specs.Operations.{IsWriteOf, write_words}

-- a write's name, and as many words as stand behind it
abbrev pub words_of : WriteWords → List (List ℕ)
words_of (those_of.Put key value) = codes "put" ∷ key.now ∷ value.now ∷ []
words_of (those_of.Del key) = codes "del" ∷ key.now ∷ []

-- the words are some write's
abbrev pub IsSomeWrite : List (List ℕ) → Type 0
IsSomeWrite words = (w : Write) × IsWriteOf words w

-- the words begin with those of some write
abbrev pub BeginWithWrite : List (List ℕ) → Type 0
BeginWithWrite words = (w : Write) × (more : List (List ℕ)) × (words ≡ write_words w ++ more)
