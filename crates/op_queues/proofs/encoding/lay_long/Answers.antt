use Rattle.std.proofs.Common.{rules, ◌≡◌, ◌+◌, ◌-◌, ◌++◌, List, ℕ, length, take, drop, ◌∙◌, ap, arith, length-drop}
use Rattle.std.specs.Int.{w64}
use Rattle.op_fields.specs.Form.{encoded}
use Rattle.op_queues.proofs.Framings.{behind_room}
use Rattle.op_queues.proofs.encoding.lay_long.Goals as goal

pub returns : goal.returns
unfolding encoded
returns c =
    let old : List ℕ = c.args.bytes.now in
    let start : ℕ = c.args.start in
    let laid : c.copy_from_slice.new.self ≡ encoded w64 (length old - (start + 8)) = search rules in
    let is : length old - (start + 8) ≡ length (drop (start + 8) old) = omega (arith, length-drop (start + 8) old) in
    ap (λ (l : List ℕ). take start old ++ l) (
    ap (λ (l : List ℕ). l ++ drop (start + 8 - start) (drop start old)) (laid ∙ ap (λ (n : ℕ). encoded w64 n) is)
    ∙ ap (λ (l : List ℕ). encoded w64 (length (drop (start + 8) old)) ++ l) (behind_room start 8 old))
