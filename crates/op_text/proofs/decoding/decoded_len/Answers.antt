use Rattle.std.proofs.Common.{◌≡◌, ◌<◌, [], ◌∷◌, length, sym, ◌∙◌, arith}
use Rattle.std.proofs.lemmas.Bool.{false≢true}
use Rattle.std.proofs.lemmas.Slice.Eq.{bytes_eq-Decides}
use Rattle.op_text.specs.Percent.{CountsEncoded, EncodesCount, percent}
use Rattle.op_text.proofs.DecodedBytes.{count_whole, count_each}
use Rattle.op_text.proofs.FoundAlike.{found_as}
use Rattle.op_text.proofs.decoding.decoded_len.Goals as goal

pub returns : goal.returns
returns c =
    let word = c.args.word.now in
    let some : 0 < length word = grind arith in
    let other : word ≡ percent ∷ [] → ⊥ = λ e. false≢true (sym c.if-eq.false ∙ c.eq.ensures ∙ (bytes_eq-Decides word c.as_slice.result.now).1 (e ∙ sym c.as_slice.ensures)) in
    found_as (CountsEncoded word) (EncodesCount word) (λ n h. count_whole word n some h) (λ n h. count_each word n other h) c.count_of.result c.count_of.ensures
