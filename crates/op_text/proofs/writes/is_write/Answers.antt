use Rattle.op_text.proofs.WriteWords.{put_by_value, del_by_key}
use Rattle.op_text.proofs.writes.is_write.Goals as goal

pub returns-else-not-is_key : goal.returns-else-not-is_key
returns-else-not-is_key c = rw c.in-Put.is (put_by_value c.in-Put.key.now c.in-Put.value.now c.is_value.result (c.is_key.ensures.0 c.if-not-is_key.false) c.is_value.ensures)

pub returns-in-Del : goal.returns-in-Del
returns-in-Del c = rw c.in-Del.is (del_by_key c.in-Del.key.now c.is_key-in-Del.result c.is_key-in-Del.ensures)
