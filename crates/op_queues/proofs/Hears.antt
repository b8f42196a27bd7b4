-- What the bodies of frames say.
use Rattle.std.proofs.Common.{◌≡◌, ℕ, List, ◌∙◌, ap, subst, Ok, Err}
use Rattle.op_types.specs.declared.messages.Msg.{Msg}
use Rattle.op_fields.specs.Form.{whole}
use Rattle.op_fields.specs.Taken.{IfBad}
use Rattle.op_fields.specs.declared.fail.TakeFail.{TakeFail}
use Rattle.op_fields.specs.declared.fail.TakeFail.TheVariants.{Bad}
use Rattle.op_fields.proofs.Takes.{whole-reads}
use Rattle.op_msg.specs.Forms.{addressed}
use Rattle.op_msg.proofs.Encodings.{addressed_reads}
use Rattle.op_command.specs.Requests.{request_form}
use Rattle.op_types.specs.declared.events.Request.{Request}
use Rattle.op_command.proofs.Encodings.{request_reads}
use Rattle.op_serving.specs.Wire.{message_in, request_in}

-- a body that is an encoding says what it encodes
pub message_is : (body : List ℕ) (x : ℕ × ℕ × Msg) → addressed.fits x → body ≡ addressed.text x → message_in body ≡ Ok x
unfolding message_in
message_is body x fits is = ap (λ (b : List ℕ). whole addressed b) is ∙ (whole-reads addressed addressed_reads).again x fits

pub request_is : (body : List ℕ) (x : Request) → request_form.fits x → body ≡ request_form.text x → request_in body ≡ Ok x
unfolding request_in
request_is body x fits is = ap (λ (b : List ℕ). whole request_form b) is ∙ (whole-reads request_form request_reads).again x fits

-- why nothing was taken
pub if_bad : (Y : Type 0) (P : ℕ → Type 0) (e : TakeFail) (at : ℕ) → e ≡ Bad at → IfBad {Y = Y} (Err e) P → P at
if_bad Y P e at is h = subst (λ x. IfBad {Y = Y} (Err x) P) is h
