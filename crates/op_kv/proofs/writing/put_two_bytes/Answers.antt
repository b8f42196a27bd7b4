use Rattle.std.proofs.Common.{◌++◌, ap, ◌∙◌}
use Rattle.op_kv.proofs.Shown.{two_bytes}
use Rattle.op_kv.proofs.writing.put_two_bytes.Goals as goal

pub returns : goal.returns
returns c = c.in_ok-put_u16.ensures.ok ∙ ap (λ t. c.args.out.now.items ++ t) (two_bytes c.args.len)
