use Rattle.std.proofs.Common.{rules, ◌≡◌, ◌++◌, [], ◌∷◌, List, ℕ, length, take, drop, ◌∙◌, sym, ap, arith, length-take}
use Rattle.std.proofs.lemmas.List.{take_at, drop_at}
use Rattle.op_journal.specs.Areas.{record_text}
use Rattle.op_journal.proofs.FrameLayouts.{body_of, laid_out}
use Rattle.op_journal.proofs.framed.Framed.close.Goals as goal

pub invariant_of-result : goal.invariant_of-result
invariant_of-result c =
    let old : List ℕ = c.args.bytes.items in
    let size : length (take 17 old) ≡ 17 = omega (arith, c.requires.space, length-take 17 old) in
    let text : List ℕ → List ℕ = λ l. take 17 l ++ record_text (drop 25 l) in
    let value : c.deref_mut.result.now ≡ old = search rules in
    let laid : List ℕ = c.lay_length.new.bytes in
    let room : c.args.bytes.len ≡ length laid = search rules in
    let whole : take c.args.bytes.len (laid ++ drop (length laid) old) ≡ laid = take_at laid (drop (length laid) old) c.args.bytes.len (sym room) in
    let is : c.push_reserved.new.self.items ≡ (take 17 old ++ record_text (drop 25 old)) ++ 0 ∷ [] = c.push_reserved.ensures.items ∙ ap (λ (l : List ℕ). l ++ 0 ∷ []) (whole ∙ c.lay_length.ensures ∙ ap text value) in
    laid_out c.push_reserved.new.self.items (take 17 old) (drop 25 old) size is

pub returns : goal.returns
returns c space body long is =
    let old : List ℕ = c.args.bytes.items in
    let size : length (take 17 old) ≡ 17 = omega (arith, c.requires.space, length-take 17 old) in
    let text : List ℕ → List ℕ = λ l. take 17 l ++ record_text (drop 25 l) in
    let value : c.deref_mut.result.now ≡ old = search rules in
    let laid : List ℕ = c.lay_length.new.bytes in
    let room : c.args.bytes.len ≡ length laid = search rules in
    let whole : take c.args.bytes.len (laid ++ drop (length laid) old) ≡ laid = take_at laid (drop (length laid) old) c.args.bytes.len (sym room) in
    let is_laid : c.push_reserved.new.self.items ≡ (take 17 old ++ record_text (drop 25 old)) ++ 0 ∷ [] = c.push_reserved.ensures.items ∙ ap (λ (l : List ℕ). l ++ 0 ∷ []) (whole ∙ c.lay_length.ensures ∙ ap text value) in
    body_of c.push_reserved.new.self.items (take 17 old) (drop 25 old) size is_laid ∙ ap (λ (l : List ℕ). drop 25 l) is ∙ drop_at space body 25 long
