-- A command's line, from its pieces.
use Rattle.std.proofs.Common.{◌≡◌, ℕ, List, [], ◌++◌, codes, ap, ◌∙◌, append_assoc}
use Rattle.std.specs.Fmt.{decimal}
use Rattle.op_types.specs.declared.log.Op.{Op}
use Rattle.op_types.specs.declared.log.Op.TheVariants.{Put, Del, Get, Cas, Many, Forget}
use Rattle.op_text.specs.Operations.{op_name}
use Rattle.op_sched.specs.Pieces.{operands_text}
use Rattle.op_sched.specs.Text.{op_text}

-- the operation's name, the client and the number with a space between them, and the operands
op_text_by : (client seq : ℕ) (op : Op) → op_name op ++ (codes " " ++ (decimal client ++ (codes " " ++ (decimal seq ++ operands_text op)))) ≡ op_text client seq op
op_text_by client seq (Put key value) = simp append_assoc
op_text_by client seq (Del key) = simp append_assoc
op_text_by client seq (Get key) = simp append_assoc
op_text_by client seq (Cas key old new) = simp append_assoc
op_text_by client seq (Many writes) = simp append_assoc
op_text_by client seq (Forget other) = simp append_assoc

-- a text with the row of a command, and then its operands
pub command_line : (before after place row text : List ℕ) (client seq : ℕ) (op : Op)
    → row ≡ place ++ (op_name op ++ (codes " " ++ (decimal client ++ (codes " " ++ (decimal seq ++ [])))))
    → after ≡ before ++ row → text ≡ after ++ operands_text op → text ≡ before ++ place ++ op_text client seq op
command_line before after place row text client seq op is begun whole =
    whole ∙ ap (λ (xs : List ℕ). xs ++ operands_text op) (begun ∙ ap (λ (xs : List ℕ). before ++ xs) is)
    ∙ simp append_assoc (ap (λ (xs : List ℕ). before ++ (place ++ xs)) (op_text_by client seq op))
