use Rattle.op_text.proofs.UnambiguousEncoding.{one_encoding_of}
use Rattle.op_text.proofs.laws.encoding_is_unambiguous.Goals as goal

pub returns : goal.returns
returns c = one_encoding_of
