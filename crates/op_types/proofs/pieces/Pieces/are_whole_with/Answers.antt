use Rattle.std.proofs.Common.{◌≡◌, ℕ, ◌+◌, ◌&&◌, Bool, List, Option, length, drop, take, refl, sym, ap, ◌∙◌, arith}
use Rattle.std.specs.Prelude.{is_some}
use Rattle.std.proofs.lemmas.List.{take_rest}
use Rattle.op_types.specs.Stages.{Pieces, whole_bytes}
use Rattle.op_types.proofs.Pieced.{some_with_at}
use Rattle.op_types.proofs.pieces.Pieces.are_whole_with.Goals as goal

abbrev Places : Type 0
Places = List (Option ℕ)

pub returns-then-are_there : goal.returns-then-are_there
returns-then-are_there c =
    let held : Places = c.args.self.now.bytes in
    let from : ℕ = c.args.from in
    let bytes : List ℕ = c.args.bytes.now in
    let same : c.as_slice-places.result.now ≡ held = c.as_slice-places.ensures.value ∙ ap (λ (p : Pieces). p.bytes) c.self.view_is in
    let all = some_with_at held from (from + length bytes) bytes refl (omega (arith, c.requires)) in
    let behind : c.are_there.result ≡ is_some (whole_bytes (drop (from + length bytes) held)) = c.are_there.ensures ∙ ap (λ (l : Places). is_some (whole_bytes l)) (take_rest c.as_slice-places.result.now (from + length bytes)) ∙ ap (λ (l : Places). is_some (whole_bytes (drop (from + length bytes) l))) same in
    let before : c.are_there-then-are_there.result ≡ is_some (whole_bytes (take from held)) = c.are_there-then-are_there.ensures ∙ ap (λ (l : Places). is_some (whole_bytes (take from l))) same in
    before
    ∙ ap (λ (b : Bool). b && is_some (whole_bytes (take from held))) (sym c.if-are_there.true ∙ behind)
    ∙ sym all

pub returns-else-are_there : goal.returns-else-are_there
returns-else-are_there c =
    let held : Places = c.args.self.now.bytes in
    let from : ℕ = c.args.from in
    let bytes : List ℕ = c.args.bytes.now in
    let same : c.as_slice-places.result.now ≡ held = c.as_slice-places.ensures.value ∙ ap (λ (p : Pieces). p.bytes) c.self.view_is in
    let all = some_with_at held from (from + length bytes) bytes refl (omega (arith, c.requires)) in
    let behind : c.are_there.result ≡ is_some (whole_bytes (drop (from + length bytes) held)) = c.are_there.ensures ∙ ap (λ (l : Places). is_some (whole_bytes l)) (take_rest c.as_slice-places.result.now (from + length bytes)) ∙ ap (λ (l : Places). is_some (whole_bytes (drop (from + length bytes) l))) same in
    c.if-are_there.false
    ∙ ap (λ (b : Bool). b && is_some (whole_bytes (take from held))) (sym c.if-are_there.false ∙ behind)
    ∙ sym all
