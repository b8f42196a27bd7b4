-- What is told of reads in a step.
use Rattle.std.proofs.Common.{◌≡◌, ℕ, ◌++◌, Bool, true, false, cond, List, [], map, Option, Some, None, refl, sym, ap, ◌∙◌, append-nil}
use Rattle.std.specs.Prelude.{Result, Ok, Err, IfOk}
use Rattle.std.proofs.lemmas.Bool.{both_ways}
use Rattle.op_types.specs.Roles.{Role, Idle, Preparing, Leading}
use Rattle.op_types.specs.declared.answers.Outcome.{Outcome}
use Rattle.op_types.specs.declared.answers.Reply.{Reply}
use Rattle.op_types.specs.declared.events.Input.{Input}
use Rattle.op_types.specs.declared.messages.Msg.{Msg}
use Rattle.op_reads.specs.Reads.{Reads}
use Rattle.op_reads.specs.declared.asked_read.AskedRead.{AskedRead}
use Rattle.op_protocol.specs.State.{State, Planned}
use Rattle.op_protocol.specs.Reading.{Asking, asking_by, reading, read_reply, leads_on, adopted_of, answered_of, given_up_in, outcome_or}
use Rattle.op_chain.specs.Leads.{lead_of}
use Rattle.op_server.specs.Answering.{decided_by, kept_reads, told_reads}
use Rattle.op_server.specs.Plans.{asking_of, with_reading}
use Rattle.op_server.specs.declared.asking.Asking as asks
use Rattle.op_server.specs.declared.reading.Reading.{Reading}

-- ---- who leads on

none_some : {A : Type 0} (a : A) → None ≡ Some a → ⊥
none_some a e = cc

-- who leads nothing
pub unled_after : (r q : Role) → lead_of q ≡ None → leads_on r q ≡ false
unled_after Idle q none = refl
unled_after (Preparing x) q none = refl
unled_after (Leading l) Idle none = refl
unled_after (Leading l) (Preparing x) none = refl
unled_after (Leading l) (Leading k) none = absurd (none_some _ (sym none))

-- ---- a step with its reads

-- a step of which an input asks this
abbrev pub reading_with : State → Asking → Planned → Planned
reading_with s a p =
    record p {
      reads = kept_reads s p a.reads;
      sends = a.sends ++ p.sends;
      read_replies =
          map (read_reply p.service) (cond (leads_on s.volatile.role p.volatile.role) (answered_of a.reads (decided_by s p) (adopted_of p.volatile.role)) [])
          ++ given_up_in s p;
      outcome = outcome_or a.outcome p.outcome;
    }

pub reading_is : (me : ℕ) (s : State) (x : Input) (p : Planned) (a : Asking) → a ≡ asking_by me s x → reading_with s a p ≡ reading me s x p
reading_is me s x p a is = ap (λ (b : Asking). reading_with s b p) is

told_by : (b : Bool) (f : AskedRead → Reply) (xs : List AskedRead) (ys : List Reply) → (b ≡ true → ys ≡ []) → cond b (map f xs) ys ≡ map f (cond b xs []) ++ ys
told_by true f xs ys none = sym (append-nil (map f xs)) ∙ ap (λ (zs : List Reply). map f xs ++ zs) (sym (none refl))
told_by false f xs ys none = refl

none_given : (b : Bool) (ys : List Reply) → b ≡ true → cond b [] ys ≡ []
none_given true ys is = refl
none_given false ys is = absurd (both_ways false refl is)

told_is : (s : State) (p : Planned) (reads : Option Reads)
    → told_reads s p reads ≡ map (read_reply p.service) (cond (leads_on s.volatile.role p.volatile.role) (answered_of reads (decided_by s p) (adopted_of p.volatile.role)) []) ++ given_up_in s p
told_is s p reads =
    told_by (leads_on s.volatile.role p.volatile.role) (read_reply p.service) (answered_of reads (decided_by s p) (adopted_of p.volatile.role)) (given_up_in s p)
    (λ leads. none_given (leads_on s.volatile.role p.volatile.role) _ leads)

-- what a step does that keeps these reads, tells this, and asks that
pub reading_made : (s : State) (a : Asking) (p : Planned) (kept : Option Reads) (sends : List (ℕ × Msg)) (told : List Reply) (outcome : Option Outcome)
    → kept ≡ kept_reads s p a.reads → sends ≡ a.sends → told ≡ told_reads s p a.reads → outcome ≡ a.outcome
    → (let q : Planned = record p { reads = kept; sends = sends ++ p.sends; read_replies = told; outcome = outcome_or outcome p.outcome } in q ≡ reading_with s a p)
reading_made s a p kept sends told outcome keeps asks tells answers =
    ap (λ (o : Option Reads). let q : Planned = record p { reads = o; sends = sends ++ p.sends; read_replies = told; outcome = outcome_or outcome p.outcome } in q) keeps
    ∙ ap (λ (m : List (ℕ × Msg)). let q : Planned = record p { reads = kept_reads s p a.reads; sends = m ++ p.sends; read_replies = told; outcome = outcome_or outcome p.outcome } in q) asks
    ∙ ap (λ (rs : List Reply). let q : Planned = record p { reads = kept_reads s p a.reads; sends = a.sends ++ p.sends; read_replies = rs; outcome = outcome_or outcome p.outcome } in q) (tells ∙ told_is s p a.reads)
    ∙ ap (λ (o : Option Outcome). let q : Planned = record p { reads = kept_reads s p a.reads; sends = a.sends ++ p.sends; read_replies = map (read_reply p.service) (cond (leads_on s.volatile.role p.volatile.role) (answered_of a.reads (decided_by s p) (adopted_of p.volatile.role)) []) ++ given_up_in s p; outcome = outcome_or o p.outcome } in q) answers

-- a plan with what was made of the reads is the step with its reads
pub ok_reading : {E : Type 0} (me : ℕ) (s : State) (a : asks.Asking) (p : Planned) (made : Reading) (r : Result (Option Reading) E)
    → made.reads ≡ kept_reads s p a.reads → made.asked.items ≡ a.sends → made.replies ≡ told_reads s p a.reads → made.outcome ≡ a.outcome
    → IfOk r (λ b. b ≡ Some made) → IfOk r (λ b. (x : Input) → asking_of a ≡ asking_by me s x → with_reading b p ≡ reading me s x p)
ok_reading me s a p made (Ok b) keeps asked tells answers is =
    λ x same. ap (λ (o : Option Reading). with_reading o p) is
    ∙ reading_made s (asking_of a) p made.reads made.asked.items made.replies made.outcome keeps asked tells answers
    ∙ reading_is me s x p (asking_of a) same
ok_reading me s a p made (Err e) keeps asked tells answers is = tt
