-- Those that wait are answered as the step table says.
use Rattle.std.proofs.Common.{◌≡◌, ℕ, ◌≤◌, ◌+◌, inl, inr, ◌∷◌, ◌++◌, List, [], length, refl, ap, ◌∙◌, Bool, true, false, arith}
use Rattle.std.specs.Prelude.{fold}
use Rattle.std.specs.List.{list_any}
use Rattle.std.specs.Set.{remove_key}
use Rattle.std.proofs.lemmas.Bool.{cases_Bool}
use Rattle.std.proofs.lemmas.List.{length-append}
use Rattle.op_types.specs.declared.answers.Reply.{Reply}
use Rattle.op_types.specs.declared.log.Command.{Command}
use Rattle.op_types.specs.declared.log.Entry.{Entry}
use Rattle.op_types.specs.declared.log.Entry.TheVariants as entry
use Rattle.op_spec.specs.Service.{Service, service_with, all_after}
use Rattle.op_protocol.specs.State.{Waiting}
use Rattle.op_protocol.specs.Serving.{Served, Dropping, serving_command, serving_entry, reply_of, dropping_reply, is_of_stop, waits, without_waiting}
use Rattle.op_deciding.specs.Deciding.{replies_to}
use Rattle.op_chain.specs.Answering.{giving_reply}

-- ---- who doesn't wait

none_removed : {K : Type 0} (p : K → Bool) (ks : List K) → list_any p ks ≡ false → remove_key p ks ≡ ks
none_removed p [] none = refl
none_removed p (k ∷ ks) none = elim (cases_Bool (p k)) [
  | inl here ↦ absurd (let e = rw here at none in cc)
  | inr past ↦ (let later : list_any p ks ≡ false = rw past at none in rw past (ap (λ js. k ∷ js) (none_removed p ks later)))
]

-- without one that doesn't wait the others are all
pub others_are_all : (ws : Waiting) (client seq : ℕ) → waits ws client seq ≡ false → without_waiting ws client seq ≡ ws
others_are_all ws client seq none = none_removed _ ws none

-- ---- decided commands

-- the service, and what those that wait were given
abbrev pub served_with : Service → Dropping → Served
served_with s d = record { service = s; waiting = d.waiting; replies = d.replies }

one_by : (s : Service) (d : Dropping) (c : Command) (b : Bool) → waits d.waiting c.client c.seq ≡ b → serving_command (served_with s d) c ≡ served_with (service_with s c) (giving_reply d (reply_of s c))
one_by s d c true is = rw is refl
one_by s d c false is = rw is (ap (λ (ws : Waiting). let t : Served = record { service = service_with s c; waiting = ws; replies = d.replies } in t) (others_are_all d.waiting c.client c.seq is))

-- serving entries gives the replies to their commands to those that wait
pub served_all : (es : List Entry) (s : Service) (d : Dropping) → fold serving_entry (served_with s d) es ≡ served_with (all_after s es) (fold giving_reply d (replies_to s es))
served_all [] s d = refl
served_all (entry.Command c ∷ es) s d =
    ap (λ (t : Served). fold serving_entry t es) (one_by s d c (waits d.waiting c.client c.seq) refl) ∙ served_all es (service_with s c) (giving_reply d (reply_of s c))
served_all (entry.Stop stop ∷ es) s d = served_all es s d

-- ---- what is given up

one_more : (rs : List Reply) (r : Reply) → length (rs ++ r ∷ []) ≤ length rs + 1
one_more rs r = let e = length-append rs (r ∷ []) in omega arith

told_one : (d : Dropping) (r : Reply) → length (dropping_reply d r).replies ≤ length d.replies + 1
told_one d r = elim (cases_Bool (is_of_stop r)) [
  | inl e ↦ rw e (one_more d.replies r)
  | inr e ↦ rw e (elim (cases_Bool (waits d.waiting r.client r.seq)) [ inl w ↦ rw w (one_more d.replies r) | inr w ↦ rw w (omega arith) ])
]

-- as many are told as were given up, at most
pub told_few : (d : Dropping) (rs : List Reply) → length (fold dropping_reply d rs).replies ≤ length d.replies + length rs
told_few d [] = omega arith
told_few d (r ∷ rs) = let one = told_one d r in let more = told_few (dropping_reply d r) rs in omega arith
