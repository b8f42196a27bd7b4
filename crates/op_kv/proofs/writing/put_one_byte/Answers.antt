use Rattle.std.proofs.Common.{◌++◌, ap, ◌∙◌}
use Rattle.op_kv.proofs.Shown.{one_byte}
use Rattle.op_kv.proofs.writing.put_one_byte.Goals as goal

pub returns : goal.returns
returns c = c.in_ok-put_u8.ensures.ok ∙ ap (λ t. c.args.out.now.items ++ t) (one_byte c.args.len)
