-- A text tells one identity.
use Rattle.std.proofs.Common.{◌≡◌, ◌<◌, ℕ, Bool, true, false, ◌&&◌, List, [], ◌∷◌, ◌++◌, codes, decimal, refl, sym, ap, ◌∙◌, subst, append_assoc, arith}
use Rattle.std.specs.Prelude.{All}
use Rattle.std.specs.List.{list_all}
use Rattle.std.specs.Str.Parse.{AllDigits}
use Rattle.std.proofs.lemmas.Fmt.{decimal_injective, decimal_is_IsNumeral}
use Rattle.std.proofs.lemmas.List.Elements.{All-append, All-cons, All-nil}
use Rattle.std.proofs.lemmas.Str.Parse.{digit_from_value}
use Rattle.op_types.specs.Ranges.{IsPid}
use Rattle.op_text.specs.Percent.{is_plain}
use Rattle.op_setup.specs.Identities.{IsIdentity}
use Rattle.op_setup.specs.Splits.{IsSplit}
use Rattle.op_setup.proofs.FirstBytes.{one_split}

-- a space, and the end of a line
abbrev pub space : ℕ
space = 32

abbrev pub line_end : ℕ
line_end = 10

-- a byte is another one
abbrev Differs : ℕ → ℕ → Type 0
Differs byte b = b ≡ byte → ⊥

digits_lack : (byte : ℕ) (w : List ℕ) → byte < 48 → AllDigits 10 w → All (Differs byte) w
digits_lack byte [] low h = All-nil (Differs byte)
digits_lack byte (b ∷ w) low h = (let digit = digit_from_value b h.0 in All-cons (Differs byte) b w (λ e. omega (arith, digit, e)) (digits_lack byte w low h.1))

decimal_lacks : (byte id : ℕ) → byte < 48 → IsPid id → All (Differs byte) (decimal id)
decimal_lacks byte id low p = digits_lack byte (decimal id) low (decimal_is_IsNumeral id (omega (arith, p.1))).0.1

plain_lacks : (byte : ℕ) (bs : List ℕ) → is_plain byte ≡ false → list_all is_plain bs ≡ true → All (Differs byte) bs
plain_lacks byte [] other h = All-nil (Differs byte)
plain_lacks byte (b ∷ bs) other h = by (plain_lacks byte bs other) (is_plain b) refl h
  where
    by : (list_all is_plain bs ≡ true → All (Differs byte) bs) → (t : Bool) → is_plain b ≡ t → t && list_all is_plain bs ≡ true → All (Differs byte) (b ∷ bs)
    by rest true is more = All-cons (Differs byte) b bs (λ e. let both : true ≡ false = sym is ∙ ap is_plain e ∙ other in absurd cc) (rest more)
    by rest false is more = absurd cc

-- ---- the parts of a text that tells one

-- what stands before the end of its line
abbrev pub line_of : ℕ → List ℕ → List ℕ
line_of id name = decimal id ++ space ∷ name

joined : (digits name after : List ℕ) → digits ++ codes " " ++ name ++ codes "\n" ++ after ≡ (digits ++ space ∷ name) ++ line_end ∷ after
joined digits name after =
    append_assoc (digits ++ codes " " ++ name) (codes "\n") after
    ∙ ap (λ (bs : List ℕ). bs ++ line_end ∷ after) (append_assoc digits (codes " ") name)

pub line_split : (text : List ℕ) (id : ℕ) (name after : List ℕ) → IsIdentity text id name after → IsSplit text line_end (line_of id name) after
line_split text id name after h = record {
  lacks = All-append (Differs line_end) (decimal id) (space ∷ name) (decimal_lacks line_end id (omega arith) h.id_in_range)
      (All-cons (Differs line_end) space name (λ e. absurd (omega (arith, e))) (plain_lacks line_end name refl h.name_in_range.plain));
  is = h.is ∙ joined (decimal id) name after;
}

pub id_split : (id : ℕ) (name : List ℕ) → IsPid id → IsSplit (line_of id name) space (decimal id) name
id_split id name p = record { lacks = decimal_lacks space id (omega arith) p; is = refl }

-- a text that is cut so has these parts
pub same_parts : (text line digits after name rest tail : List ℕ) (id : ℕ) → IsSplit text line_end line after → IsSplit line space digits name → IsIdentity text id rest tail
    → (digits ≡ decimal id) × (name ≡ rest) × (after ≡ tail)
same_parts text line digits after name rest tail id outer inner h =
    let whole = one_split line_end text line after (line_of id rest) tail outer (line_split text id rest tail h) in
    let cut : IsSplit (line_of id rest) space digits name = subst (λ (l : List ℕ). IsSplit l space digits name) whole.0 inner in
    let parts = one_split space (line_of id rest) digits name (decimal id) rest cut (id_split id rest h.id_in_range) in
    (parts.0, parts.1, whole.1)

-- and its line is cut at its space
pub same_line : (text line after rest tail : List ℕ) (id : ℕ) → IsSplit text line_end line after → IsIdentity text id rest tail → IsSplit line space (decimal id) rest
same_line text line after rest tail id outer h =
    let whole = one_split line_end text line after (line_of id rest) tail outer (line_split text id rest tail h) in
    subst (λ (l : List ℕ). IsSplit l space (decimal id) rest) (sym whole.0) (id_split id rest h.id_in_range)

pub one_identity : (text : List ℕ) (i j : ℕ) (m n a b : List ℕ) → IsIdentity text i m a → IsIdentity text j n b → (i ≡ j) × (m ≡ n) × (a ≡ b)
one_identity text i j m n a b one two =
    let same = same_parts text (line_of i m) (decimal i) a m n b j (line_split text i m a one) (id_split i m one.id_in_range) two in
    (decimal_injective i j (omega (arith, one.id_in_range.1)) (omega (arith, two.id_in_range.1)) same.0, same.1, same.2)
