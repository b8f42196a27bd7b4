-- What was looked at in a base's bytes, as the formats read it.
use Rattle.std.specs.Prelude.{ℕ, Option, option_map}
use Rattle.std.specs.Result.{result_ok}
use Rattle.op_types.specs.declared.answers.Answer.{Answer}
use Rattle.op_types.specs.declared.answers.Answer.TheVariants as answer
use Rattle.op_types.specs.declared.answers.Applied.{Applied}
use Rattle.op_fields.specs.Form.{Read}
use Rattle.op_kv.specs.declared.told.Told.{Told}
use Rattle.op_kv.specs.declared.told.Told.TheVariants as told
use Rattle.op_kv.specs.declared.told.LastCommand.{LastCommand}

-- the answer that was looked at
abbrev pub told_answer : Told → Answer
told_answer told.Done = answer.Done
told_answer (told.Value v) = answer.Value v.now
told_answer told.Absent = answer.Absent

-- a client and its last command
abbrev pub kept_of : LastCommand → ℕ × Applied
kept_of c = (c.client, record { seq = c.seq; answer = told_answer c.told })

-- the place after what is read, if it can be read
abbrev pub end_of : {A : Type 0} → Read A → Option ℕ
end_of read = option_map (λ x. x.1) (result_ok read)
