-- The log that a node adopts is in range, and so is what of its buffer fits after that log.
use Rattle.std.proofs.Common.{◌≡◌, ◌≤◌, ◌<◌, ◌+◌, ◌-◌, ℕ, true, not, ltb, leb, eqb, ◌&&◌, ◌⊎◌, inl, inr, is_some, List, [], ◌∷◌, ◌++◌, length, filter, Option, Some, None, refl, arith, All}
use Rattle.std.specs.Prelude.{IfSome}
use Rattle.std.proofs.lemmas.Bool.{cond_both, ltb-true, leb-true, and_parts}
use Rattle.std.proofs.lemmas.Bool.Decides.{nat_tests}
use Rattle.std.proofs.lemmas.List.Elements.{All-nil, All-cons, All-head, All-tail, All-append, All-filter}
use Rattle.op_types.specs.Limits.{positions_end}
use Rattle.op_types.specs.Ranges.{IsPlace}
use Rattle.op_types.specs.Changes.{len_of}
use Rattle.op_types.specs.RoleStates.{promise_of, promises_with}
use Rattle.op_types.specs.declared.ballot.Ballot.{Ballot}
use Rattle.op_types.specs.declared.log.Entry.{Entry}
use Rattle.op_types.specs.declared.durable.Part.{Part}
use Rattle.op_types.specs.declared.role.Promised.{Promised}
use Rattle.op_types.specs.declared.role.Buffered.{Buffered}
use Rattle.op_types.specs.declared.answers.Cause.TheVariants as cause
use Rattle.op_protocol.specs.Parts.{stop_at}
use Rattle.op_protocol.specs.Promises.{is_above, is_usable, Choice, own_choice, choice_of, better, best, stop_here, fitting, dropped, left_over}
use Rattle.op_spec.specs.Machine.{stop_of, stop_at_end}
use Rattle.op_bounds.specs.Messages.{BallotOf, EntryOf, ReplyInRange}
use Rattle.op_bounds.proofs.Entries.{EntriesIn, no_entries, more_entries}
use Rattle.op_bounds.proofs.Batches.{PartIn}
use Rattle.op_bounds.proofs.Effects.{PromisedIn, BufferedIn, drop_one}

-- ---- promises that are kept

pub promise_found : (Known : ℕ → Type 0) (conf : ℕ) (ks : List Promised) (q : ℕ) → All (PromisedIn Known conf) ks → IfSome (promise_of ks q) (PromisedIn Known conf)
promise_found Known conf [] q each = tt
promise_found Known conf (k ∷ ks) q each =
    cond_both (eqb k.from q) (Some k) (promise_of ks q) (λ (o : Option Promised). IfSome o (PromisedIn Known conf))
    (λ _. All-head (PromisedIn Known conf) k ks each) (λ _. promise_found Known conf ks q (All-tail (PromisedIn Known conf) k ks each))

pub promises_more : (Known : ℕ → Type 0) (conf : ℕ) (ks : List Promised) (k : Promised) → All (PromisedIn Known conf) ks → PromisedIn Known conf k → All (PromisedIn Known conf) (promises_with ks k)
promises_more Known conf ks k each one =
    All-append (PromisedIn Known conf) (filter (λ j. not (eqb j.from k.from)) ks) (k ∷ []) (All-filter (λ j. not (eqb j.from k.from)) (PromisedIn Known conf) ks each)
    (All-cons (PromisedIn Known conf) k [] one (All-nil (PromisedIn Known conf)))

-- ---- logs by round and length

-- the first log isn't above the second one, as a fact: by round's number, its owner, and length
abbrev IsUpTo : Ballot → ℕ → Ballot → ℕ → Type 0
IsUpTo a m b n = (a.number < b.number) ⊎ ((a.number ≡ b.number) × ((a.pid < b.pid) ⊎ ((a.pid ≡ b.pid) × (m ≤ n))))

abbrev IsOver : Ballot → ℕ → Ballot → ℕ → Type 0
IsOver a m b n = (b.number < a.number) ⊎ ((b.number ≡ a.number) × ((b.pid < a.pid) ⊎ ((b.pid ≡ a.pid) × (n < m))))

over_from : (a : Ballot) (m : ℕ) (b : Ballot) (n : ℕ) → is_above a m b n ≡ true → IsOver a m b n
over_from a m b n h = grind (arith, nat_tests)

over_to : (a : Ballot) (m : ℕ) (b : Ballot) (n : ℕ) → IsOver a m b n → is_above a m b n ≡ true
over_to a m b n h = grind (arith, nat_tests)

over_both : (a : Ballot) (m : ℕ) (b : Ballot) (n : ℕ) (c : Ballot) (o : ℕ) → IsOver a m b n → IsUpTo c o b n → IsOver a m c o
over_both a m b n c o (inl x) (inl y) = inl (omega arith)
over_both a m b n c o (inl x) (inr y) = inl (omega arith)
over_both a m b n c o (inr x) (inl y) = inl (omega arith)
over_both a m b n c o (inr (e, inl x)) (inr (f, inl y)) = inr (omega arith, inl (omega arith))
over_both a m b n c o (inr (e, inl x)) (inr (f, inr y)) = inr (omega arith, inl (omega arith))
over_both a m b n c o (inr (e, inr x)) (inr (f, inl y)) = inr (omega arith, inl (omega arith))
over_both a m b n c o (inr (e, inr x)) (inr (f, inr y)) = inr (omega arith, inr (omega arith, omega arith))

up_to_over : (a : Ballot) (m : ℕ) (b : Ballot) (n : ℕ) → IsOver a m b n → IsUpTo b n a m
up_to_over a m b n (inl x) = inl x
up_to_over a m b n (inr (e, inl x)) = inr (e, inl x)
up_to_over a m b n (inr (e, inr x)) = inr (e, inr (x.0, omega arith))

-- ---- the choice

-- a log to adopt at a part: it goes on from the part's log where nothing is decided beyond, and isn't below that log
pub record ChoiceIn (Known : ℕ → Type 0) (p : Part) (c : Choice) : Type 0 where
  pub accepted : BallotOf Known c.accepted
  pub len : IsPlace c.len
  pub low : p.decided ≤ c.start
  pub high : c.start ≤ len_of p
  pub ends : c.start + length c.entries ≤ positions_end
  pub entries : EntriesIn Known p.conf c.entries
  pub above : IsUpTo p.accepted (len_of p) c.accepted c.len

own_in : (Known : ℕ → Type 0) (p : Part) → PartIn Known p → ChoiceIn Known p (own_choice p)
own_in Known p k =
    record {
      accepted = k.accepted;
      len = k.range.len;
      low = k.range.decided.1;
      high = omega arith;
      ends = omega (arith, k.range.len);
      entries = no_entries Known p.conf;
      above = inr (refl, inr (refl, omega arith));
    }

-- a usable promise whose log is above the own one goes on from it
usable_goes_on : (p : Part) (k : Promised) → is_usable p k ≡ true → is_above k.accepted k.len p.accepted (len_of p) ≡ true → (p.decided ≤ k.start) × (k.start ≤ len_of p)
usable_goes_on p k usable above =
    let rest : (leb p.decided k.start && (leb k.start (len_of p) && eqb (k.start + length k.entries) k.len)) ≡ true = rw above at usable in
    let parts = and_parts (leb p.decided k.start) (leb k.start (len_of p) && eqb (k.start + length k.entries) k.len) rest in
    (leb-true p.decided k.start parts.0, leb-true k.start (len_of p) (and_parts (leb k.start (len_of p)) (eqb (k.start + length k.entries) k.len) parts.1).0)

promise_chosen : (Known : ℕ → Type 0) (p : Part) (k : Promised) (c : Choice) → PromisedIn Known p.conf k → ChoiceIn Known p c → is_usable p k ≡ true → is_above k.accepted k.len c.accepted c.len ≡ true
    → ChoiceIn Known p (choice_of k)
promise_chosen Known p k c one now usable above =
    let over : IsOver k.accepted k.len p.accepted (len_of p) = over_both k.accepted k.len c.accepted c.len p.accepted (len_of p) (over_from k.accepted k.len c.accepted c.len above) now.above in
    let goes = usable_goes_on p k usable (over_to k.accepted k.len p.accepted (len_of p) over) in
    record {
      accepted = one.accepted;
      len = one.len;
      low = goes.0;
      high = goes.1;
      ends = one.ends;
      entries = one.entries;
      above = up_to_over k.accepted k.len p.accepted (len_of p) over;
    }

better_in : (Known : ℕ → Type 0) (p : Part) (o : Option Promised) (c : Choice) → IfSome o (PromisedIn Known p.conf) → ChoiceIn Known p c → ChoiceIn Known p (better p o c)
better_in Known p None c one now = now
better_in Known p (Some k) c one now =
    cond_both (is_usable p k && is_above k.accepted k.len c.accepted c.len) (choice_of k) c (ChoiceIn Known p)
    (λ h. let parts = and_parts (is_usable p k) (is_above k.accepted k.len c.accepted c.len) h in promise_chosen Known p k c one now parts.0 parts.1)
    (λ _. now)

best_from : (Known : ℕ → Type 0) (p : Part) (ks : List Promised) → All (PromisedIn Known p.conf) ks → (qs : List ℕ) (c : Choice) → ChoiceIn Known p c → ChoiceIn Known p (best p ks qs c)
best_from Known p ks each [] c now = now
best_from Known p ks each (q ∷ qs) c now = best_from Known p ks each qs (better p (promise_of ks q) c) (better_in Known p (promise_of ks q) c (promise_found Known p.conf ks q each) now)

pub best_in : (Known : ℕ → Type 0) (p : Part) (ks : List Promised) → PartIn Known p → All (PromisedIn Known p.conf) ks → ChoiceIn Known p (best p ks p.members (own_choice p))
best_in Known p ks k each = best_from Known p ks each p.members (own_choice p) (own_in Known p k)

-- ---- the buffer

-- a place of a stop-sign, if there is one
abbrev pub StopInRange : Option ℕ → Type 0
StopInRange stop = IfSome stop IsPlace

pub stop_at_in : (at : ℕ) (es : List Entry) → at + length es ≤ positions_end → StopInRange (stop_at at es)
stop_at_in at es ends = cond_both (is_some (stop_at_end es)) (Some (at + length es - 1)) None StopInRange (λ _. omega arith) (λ _. tt)

stop_here_in : (e : Entry) (at : ℕ) → IsPlace at → StopInRange (stop_here e at)
stop_here_in e at place = cond_both (is_some (stop_of e)) (Some at) None StopInRange (λ _. place) (λ _. tt)

-- entries that end within the positions
pub record EndsInRange (Known : ℕ → Type 0) (conf len : ℕ) (es : List Entry) : Type 0 where
  pub ends : len + length es ≤ positions_end
  pub each : EntriesIn Known conf es

none_more : (Known : ℕ → Type 0) (conf len : ℕ) → IsPlace len → EndsInRange Known conf len []
none_more Known conf len place = record { ends = omega (arith, place); each = no_entries Known conf }

pub fitting_in : (Known : ℕ → Type 0) (conf : ℕ) (stop : Option ℕ) (len : ℕ) (buffer : List Buffered) → IsPlace len → All (BufferedIn Known conf) buffer → EndsInRange Known conf len (fitting stop len buffer)
fitting_in Known conf (Some pos) len buffer place each = none_more Known conf len place
fitting_in Known conf None len [] place each = none_more Known conf len place
fitting_in Known conf None len (b ∷ buffer) place each =
    cond_both (ltb len positions_end) (b.entry ∷ fitting (stop_here b.entry len) (len + 1) buffer) [] (EndsInRange Known conf len)
    (λ h. let room = ltb-true len positions_end h in
    let more = fitting_in Known conf (stop_here b.entry len) (len + 1) buffer (omega (arith, room)) (All-tail (BufferedIn Known conf) b buffer each) in
    record { ends = omega (arith, more.ends); each = more_entries Known conf b.entry _ (All-head (BufferedIn Known conf) b buffer each) more.each })
    (λ _. none_more Known conf len place)

buffered_entry : (Known : ℕ → Type 0) (conf : ℕ) (b : Buffered) (buffer : List Buffered) → All (BufferedIn Known conf) (b ∷ buffer) → EntryOf Known b.entry
buffered_entry Known conf b buffer each = All-head (EntryOf Known) b.entry [] (All-head (BufferedIn Known conf) b buffer each).each

pub left_over_in : (Known : ℕ → Type 0) (conf : ℕ) (stop : Option ℕ) (len : ℕ) (buffer : List Buffered) → StopInRange stop → All (BufferedIn Known conf) buffer → All (ReplyInRange Known) (left_over stop len buffer)
left_over_in Known conf None len [] in_stop each = All-nil (ReplyInRange Known)
left_over_in Known conf (Some pos) len [] in_stop each = All-nil (ReplyInRange Known)
left_over_in Known conf (Some pos) len (b ∷ buffer) in_stop each =
    All-append (ReplyInRange Known) (dropped (cause.Stop pos) b) (left_over (Some pos) len buffer) (drop_one Known (cause.Stop pos) b in_stop (buffered_entry Known conf b buffer each))
    (left_over_in Known conf (Some pos) len buffer in_stop (All-tail (BufferedIn Known conf) b buffer each))
left_over_in Known conf None len (b ∷ buffer) in_stop each =
    cond_both (ltb len positions_end) (left_over (stop_here b.entry len) (len + 1) buffer) (dropped cause.End b ++ left_over None len buffer) (All (ReplyInRange Known))
    (λ h. let room = ltb-true len positions_end h in left_over_in Known conf (stop_here b.entry len) (len + 1) buffer (stop_here_in b.entry len (omega (arith, room))) (All-tail (BufferedIn Known conf) b buffer each))
    (λ _. All-append (ReplyInRange Known) (dropped cause.End b) (left_over None len buffer) (drop_one Known cause.End b tt (buffered_entry Known conf b buffer each))
    (left_over_in Known conf None len buffer in_stop (All-tail (BufferedIn Known conf) b buffer each)))
