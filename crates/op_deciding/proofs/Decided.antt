-- The log that a batch leaves, change by change.
use Rattle.std.proofs.Common.{◌≡◌, ℕ, ◌+◌, ◌-◌, ◌<◌, ◌≤◌, ◌∷◌, ◌++◌, List, [], length, take, get_or, refl, sym, ap, subst, ◌∙◌, append_assoc, arith}
use Rattle.std.specs.Prelude.{Option, None, Result, Ok, Err, OnOk, IfOk}
use Rattle.std.proofs.lemmas.List.{take_more, take_all}
use Rattle.std.proofs.lemmas.List.Sums.{fold-append}
use Rattle.op_types.specs.Changes.{part_with}
use Rattle.op_types.specs.declared.answers.Reply.{Reply}
use Rattle.op_types.specs.declared.ballot.Ballot.{Ballot}
use Rattle.op_types.specs.declared.changes.Change.{Change}
use Rattle.op_types.specs.declared.changes.Change.TheVariants as change
use Rattle.op_types.specs.declared.durable.Part.{Part}
use Rattle.op_types.specs.declared.log.Entry.{Entry}
use Rattle.op_types.specs.declared.log.Entry.TheVariants as entry
use Rattle.op_types.specs.declared.log.StopSign.{StopSign}
use Rattle.op_types.specs.Stops.{stop_of, stop_at_end}
use Rattle.op_spec.specs.Service.{Service, service_after, service_with, all_after}
use Rattle.op_protocol.specs.Parts.{part_after}
use Rattle.op_protocol.specs.Serving.{reply_of}
use Rattle.op_plans.proofs.Batches.{after_both}
use Rattle.op_change.specs.Over.{service_over}
use Rattle.op_deciding.specs.Deciding.{Continues, ServesNothing, IsServed, replies_to, stop_after}
use Rattle.op_deciding.specs.declared.served.Served.{Served}

-- ---- one more change

pub one_more : (p : Part) (batch : List Change) (i : ℕ) (c : Change) → i < length batch → c ≡ get_or batch i c → part_after p (take (i + 1) batch) ≡ part_with (part_after p (take i batch)) c
one_more p batch i c inside at =
    ap (λ (b : List Change). part_after p b) (take_more batch i c inside)
    ∙ after_both p (take i batch) (get_or batch i c ∷ [])
    ∙ ap (λ (d : Change). part_with (part_after p (take i batch)) d) (sym at)

pub none_decided : (p : Part) (c : Change) → ((x : ℕ) → c ≡ change.Decided x → ⊥) → (part_with p c).decided ≡ p.decided
none_decided p (change.Promise n) none = refl
none_decided p (change.Accept n) none = refl
none_decided p (change.CutTo n) none = refl
none_decided p (change.Append es) none = refl
none_decided p (change.Decided x) none = absurd (none x refl)
none_decided p (change.Trim x base) none = refl
none_decided p _ none = refl

pub none_promised : (p : Part) (c : Change) → ((n : Ballot) → c ≡ change.Promise n → ⊥) → (part_with p c).promised ≡ p.promised
none_promised p (change.Promise n) none = absurd (none n refl)
none_promised p (change.Accept n) none = refl
none_promised p (change.CutTo n) none = refl
none_promised p (change.Append es) none = refl
none_promised p (change.Decided x) none = refl
none_promised p (change.Trim x base) none = refl
none_promised p _ none = refl

pub none_trimmed : (p : Part) (c : Change) → ((x : ℕ) (base : List ℕ) → c ≡ change.Trim x base → ⊥) → (part_with p c).trimmed ≡ p.trimmed
none_trimmed p (change.Promise n) none = refl
none_trimmed p (change.Accept n) none = refl
none_trimmed p (change.CutTo n) none = refl
none_trimmed p (change.Append es) none = refl
none_trimmed p (change.Decided x) none = refl
none_trimmed p (change.Trim x base) none = absurd (none x base refl)
none_trimmed p _ none = refl

-- ---- the log

-- the log that a batch leaves
abbrev pub log_after : Part → List Change → List Entry
log_after p batch = (part_after p batch).tail.items

-- the last change comes upon what those before it made
pub last_change : (p : Part) (batch : List Change) (c : Change) → 1 ≤ length batch → c ≡ get_or batch (length batch - 1) c → part_after p batch ≡ part_with (part_after p (take (length batch - 1) batch)) c
last_change p batch c some at =
    let i = length batch - 1 in
    let inside : i < length batch = omega arith in
    let past : length batch ≤ i + 1 = omega arith in
    sym (ap (λ (b : List Change). part_after p b) (take_all (i + 1) batch past)) ∙ one_more p batch i c inside at

pub last_log : (p : Part) (batch : List Change) (c : Change) → 1 ≤ length batch → c ≡ get_or batch (length batch - 1) c
    → log_after p batch ≡ (part_with (part_after p (take (length batch - 1) batch)) c).tail.items
last_log p batch c some at = ap (λ (q : Part). q.tail.items) (last_change p batch c some at)

-- changes that don't cut, add or trim leave the log
pub log_stays : (q : Part) (c : Change) → ((n : ℕ) → c ≡ change.CutTo n → ⊥) → ((es : List Entry) → c ≡ change.Append es → ⊥)
    → ((x : ℕ) (base : List ℕ) → c ≡ change.Trim x base → ⊥) → (part_with q c).tail.items ≡ q.tail.items
log_stays q (change.Promise n) cut add trim = refl
log_stays q (change.Accept n) cut add trim = refl
log_stays q (change.CutTo n) cut add trim = absurd (cut n refl)
log_stays q (change.Append es) cut add trim = absurd (add es refl)
log_stays q (change.Decided x) cut add trim = refl
log_stays q (change.Trim x base) cut add trim = absurd (trim x base refl)
log_stays q _ cut add trim = refl

-- ---- serving

replies_to-append : (s : Service) (xs ys : List Entry) → replies_to s (xs ++ ys) ≡ replies_to s xs ++ replies_to (all_after s xs) ys
replies_to-append s [] ys = refl
replies_to-append s (entry.Command c ∷ xs) ys = ap (λ (rest : List Reply). reply_of s c ∷ rest) (replies_to-append (service_with s c) xs ys)
replies_to-append s (entry.Stop stop ∷ xs) ys = replies_to-append s xs ys

stop_after-append : (o : Option StopSign) (xs ys : List Entry) → stop_after o (xs ++ ys) ≡ stop_after (stop_after o xs) ys
stop_after-append o [] ys = refl
stop_after-append o (e ∷ xs) ys = stop_after-append (stop_of e) xs ys

-- entries served after others
pub continued : (s : Service) (a b c : Served) (xs ys : List Entry) → Continues s a b xs → Continues s b c ys → Continues s a c (xs ++ ys)
continued s a b c xs ys f g =
    record {
      change = g.change ∙ ap (λ (t : Service). all_after t ys) f.change ∙ sym (fold-append service_after (service_over s a.change) xs ys);
      replies =
          g.replies ∙ ap (λ (t : Service). b.replies ++ replies_to t ys) f.change ∙ ap (λ (first : List Reply). first ++ replies_to (all_after (service_over s a.change) xs) ys) f.replies
          ∙ append_assoc a.replies (replies_to (service_over s a.change) xs) (replies_to (all_after (service_over s a.change) xs) ys)
          ∙ ap (λ (rest : List Reply). a.replies ++ rest) (sym (replies_to-append (service_over s a.change) xs ys));
      stop = g.stop ∙ ap (λ (o : Option StopSign). stop_after o ys) f.stop ∙ sym (stop_after-append a.stop xs ys);
    }

-- one more entry that is served
pub one_continued : (s : Service) (a b c : Served) (es : List Entry) (i : ℕ) (e : Entry) → i < length es → e ≡ get_or es i e
    → Continues s a b (take i es) → Continues s b c (e ∷ []) → Continues s a c (take (i + 1) es)
one_continued s a b c es i e inside at f g =
    subst (λ (xs : List Entry). Continues s a c xs)
    (sym (take_more es i e inside ∙ ap (λ (d : Entry). take i es ++ d ∷ []) (sym at)))
    (continued s a b c (take i es) (e ∷ []) f g)

-- the same, where it succeeds
pub continued_ok : {X E : Type 0} (r : Result X E) (s : Service) (a b c : Served) (xs ys zs : List Entry) → xs ++ ys ≡ zs → Continues s a b xs → OnOk r (Continues s b c ys) → OnOk r (Continues s a c zs)
continued_ok (Ok x) s a b c xs ys zs whole f g = subst (λ (es : List Entry). Continues s a c es) whole (continued s a b c xs ys f g)
continued_ok (Err e) s a b c xs ys zs whole f g = tt

pub served_ok : {X E : Type 0} (r : Result X E) (s : Service) (a b : Served) (xs ys : List Entry) → xs ≡ ys → OnOk r (Continues s a b xs) → OnOk r (Continues s a b ys)
served_ok r s a b xs ys same f = subst (λ (es : List Entry). OnOk r (Continues s a b es)) same f

pub counted_ok : {E : Type 0} (r : Result ℕ E) (n k : ℕ) → n ≡ k → IfOk r (λ x. x ≡ n) → IfOk r (λ x. x ≡ k)
counted_ok r n k same f = subst (λ (i : ℕ). IfOk r (λ x. x ≡ i)) same f

-- ---- what a plan comes to

ends_after : (o : Option StopSign) (e : Entry) (es : List Entry) → stop_after o (e ∷ es) ≡ stop_at_end (e ∷ es)
ends_after o e [] = refl
ends_after o e (f ∷ es) = ends_after (stop_of e) f es

-- the stop-sign that ends entries, after none
ends_as : (es : List Entry) → stop_after None es ≡ stop_at_end es
ends_as [] = refl
ends_as (e ∷ es) = ends_after None e es

-- these entries are served and no others
pub served_is : (s : Service) (a x : Served) (es : List Entry) → ServesNothing s a → Continues s a x es → IsServed s es x
served_is s a x es none more =
    record {
      change = more.change ∙ ap (λ (t : Service). all_after t es) none.change;
      replies =
          more.replies
          ∙ ap (λ (given : List Reply). given ++ replies_to (service_over s a.change) es) none.replies
          ∙ ap (λ (t : Service). replies_to t es) none.change;
      stop = more.stop ∙ ap (λ (o : Option StopSign). stop_after o es) none.stop ∙ ends_as es;
    }

-- the same, where it succeeds
pub ok_served : {X E : Type 0} (r : Result X E) (s : Service) (a x : Served) (es : List Entry) → ServesNothing s a → OnOk r (Continues s a x es) → OnOk r (IsServed s es x)
ok_served (Ok v) s a x es none more = served_is s a x es none more
ok_served (Err e) s a x es none more = tt

-- no entries are served
pub none_served : (s : Service) (a : Served) → ServesNothing s a → IsServed s [] a
none_served s a none = record { change = none.change; replies = none.replies; stop = none.stop }
