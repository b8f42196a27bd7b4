-- What is found of one kind is found of another that holds of the same values.
use Rattle.std.proofs.Common.{Option, Some, None, Result}
use Rattle.std.specs.Result.{IfOk}
use Rattle.std.proofs.lemmas.Result.{IfOk-weaker}
use Rattle.op_text.specs.Found.{IsFound}

pub found_as : {T : Type 0} (P Q : T → Type 0) → ((x : T) → P x → Q x) → ((x : T) → Q x → P x) → (o : Option T) → IsFound P o → IsFound Q o
found_as P Q to from (Some x) h = to x h
found_as P Q to from None h = λ x q. h x (from x q)

pub ok_found_as : {T E : Type 0} (P Q : T → Type 0) → ((x : T) → P x → Q x) → ((x : T) → Q x → P x) → (r : Result (Option T) E) → IfOk r (IsFound P) → IfOk r (IsFound Q)
ok_found_as P Q to from r h = IfOk-weaker r (IsFound P) (IsFound Q) (found_as P Q to from) h
