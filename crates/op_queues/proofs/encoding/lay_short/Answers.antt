use Rattle.std.proofs.Common.{rules, ◌≡◌, ◌+◌, ◌-◌, ◌++◌, List, ℕ, length, take, drop, ◌∙◌, ap, arith, length-drop}
use Rattle.std.specs.Int.{w32}
use Rattle.op_fields.specs.Form.{encoded}
use Rattle.op_queues.proofs.Framings.{behind_room}
use Rattle.op_queues.proofs.encoding.lay_short.Goals as goal

pub returns : goal.returns
unfolding encoded
returns c =
    let old : List ℕ = c.args.bytes.now in
    let start : ℕ = c.args.start in
    let laid : c.copy_from_slice.new.self ≡ encoded w32 c.args.len = search rules in
    let is : c.args.len ≡ length (drop (start + 4) old) = omega (arith, length-drop (start + 4) old, c.requires) in
    ap (λ (l : List ℕ). take start old ++ l) (
    ap (λ (l : List ℕ). l ++ drop (start + 4 - start) (drop start old)) (laid ∙ ap (λ (n : ℕ). encoded w32 n) is)
    ∙ ap (λ (l : List ℕ). encoded w32 (length (drop (start + 4) old)) ++ l) (behind_room start 4 old))
