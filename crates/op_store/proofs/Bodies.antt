-- What is laid out of a record that fits is its body.
use Rattle.std.proofs.Common.{◌≡◌, ℕ, List, Result, Ok, Err}
use Rattle.std.specs.Prelude.{IfOk}
use Rattle.op_record.specs.Ranges.{RecFits}
use Rattle.op_record.specs.Forms.{body}
use Rattle.op_record.specs.declared.body.Rec.{Rec}
use Rattle.op_store.specs.Records.{IsBodyOf}

pub body_of : {E : Type 0} (r : Rec) (result : Result (List ℕ) E) → RecFits r → IfOk result (λ framed. framed ≡ body.text r) → IfOk result (λ framed. IsBodyOf r framed)
body_of r (Ok framed) fits is = (fits, is)
body_of r (Err e) fits is = tt
