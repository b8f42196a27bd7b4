-- What comes of a part of a promise, by whether it completes the promise, and what that does.
use Rattle.std.proofs.Common.{◌≡◌, ◌||◌, ℕ, ◌&&◌, Bool, true, false, cond, eqb, List, [], ◌∷◌, length, filter, refl, sym, ap, ◌∙◌, Option, Some, None, is_some}
use Rattle.std.proofs.lemmas.Bool.{false≢true, true≢false, eq-eqb, and_from}
use Rattle.op_types.specs.Ballots.{is_same_ballot}
use Rattle.op_types.specs.Joinings.{Held}
use Rattle.op_types.specs.RoleStates as state
use Rattle.op_types.specs.RoleStates.{promise_of, promises_with, with_promise, without_stage, kept_once, told_by}
use Rattle.op_types.specs.Roles.{Preparing}
use Rattle.op_types.specs.declared.ballot.Ballot.{Ballot}
use Rattle.op_types.specs.declared.durable.Part.{Part}
use Rattle.op_types.specs.declared.log.Entry.{Entry}
use Rattle.op_types.specs.declared.role.Buffered.{Buffered}
use Rattle.op_types.specs.declared.role.Promised.{Promised}
use Rattle.op_types.specs.declared.runs.PromisedRun.{PromisedRun}
use Rattle.op_quorum.specs.Quorums.{is_majority}
use Rattle.op_protocol.specs.Parts.{nothing}
use Rattle.op_protocol.specs.Promises.{has_quorum, is_usable}
use Rattle.op_protocol.specs.Leader.{adopt, prepares, on_promise, promised_once}
use Rattle.op_leader.proofs.Adopts.{adopts_for}
use Rattle.op_choosing.proofs.Promises.{promise_of_with}

-- ---- the promise that a part completes

own_ballot : (b : Ballot) → is_same_ballot b b ≡ true
own_ballot b = and_from (eqb b.number b.number) (eqb b.pid b.pid) (eq-eqb b.number b.number refl) (eq-eqb b.pid b.pid refl)

-- it counts where it is usable
counts : (me : ℕ) (p : Part) (r : state.Preparing) (k : Promised) (b : Bool) → is_usable p k ≡ b → on_promise me p (Preparing r) r.ballot k ≡ cond b (prepares me p (with_promise r k)) (nothing (Preparing r))
counts me p r k b usable = ap (λ (t : Bool). cond t (prepares me p (with_promise r k)) (nothing (Preparing r))) (ap (λ (t : Bool). t && is_usable p k) (own_ballot r.ballot) ∙ usable)

prepares_on : (me : ℕ) (p : Part) (r : state.Preparing) → has_quorum me p.members r.promises ≡ false → prepares me p r ≡ nothing (Preparing r)
prepares_on me p r quorum = ap (λ (b : Bool). cond b (adopt me p r) (nothing (Preparing r))) quorum

-- ---- the rows of a part

-- it does, and no majority promised
pub stays_kept : (me : ℕ) (p : Part) (r : state.Preparing) (q : ℕ) (part : PromisedRun) (h : Held) (o : Option (List Entry)) → is_some o ≡ true
    → ((es : List Entry) → o ≡ Some es → is_usable p (told_by q part es) ≡ true) → ((es : List Entry) → has_quorum me p.members (promises_with r.promises (told_by q part es)) ≡ false)
    → nothing (Preparing (kept_once r q part h o)) ≡ promised_once me p r q part h o
stays_kept me p r q part h None whole usable quorum = absurd (false≢true whole)
stays_kept me p r q part h (Some es) whole usable quorum =
    sym (counts me p (without_stage r q) (told_by q part es) true (usable es refl) ∙ prepares_on me p (with_promise (without_stage r q) (told_by q part es)) (quorum es))

-- it does, and the promise isn't usable
pub is_dropped : (me : ℕ) (p : Part) (r : state.Preparing) (q : ℕ) (part : PromisedRun) (h : Held) (o : Option (List Entry)) → is_some o ≡ true
    → ((es : List Entry) → o ≡ Some es → is_usable p (told_by q part es) ≡ false)
    → nothing (Preparing (without_stage r q)) ≡ promised_once me p r q part h o
is_dropped me p r q part h None whole usable = absurd (false≢true whole)
is_dropped me p r q part h (Some es) whole usable = sym (counts me p (without_stage r q) (told_by q part es) false (usable es refl))

-- it does, and a majority promised
pub is_adopted : (me : ℕ) (p : Part) (r : state.Preparing) (q : ℕ) (part : PromisedRun) (h : Held) (o : Option (List Entry)) (k : Promised) (kept : List Promised) (buffer : List Buffered)
    → o ≡ Some k.entries → k ≡ told_by q part k.entries → is_usable p (told_by q part k.entries) ≡ true → kept ≡ r.promises → buffer ≡ r.buffer
    → has_quorum me p.members (promises_with kept k) ≡ true
    → (let t : state.Preparing = record { ballot = r.ballot; promises = promises_with kept k; stages = []; buffer = buffer } in adopt me p t ≡ promised_once me p r q part h o)
is_adopted me p r q part h o k kept buffer whole told usable is also quorum =
    let w : state.Preparing = without_stage r q in
    let k_usable : is_usable p k ≡ true = ap (λ (j : Promised). is_usable p j) told ∙ usable in
    adopts_for me p r.ballot k kept r.promises w.stages buffer r.buffer is also quorum
    ∙ sym (counts me p w k true k_usable)
    ∙ ap (λ (j : Promised). on_promise me p (Preparing w) r.ballot j) told
    ∙ sym (ap (λ (x : Option (List Entry)). promised_once me p r q part h x) whole)

-- ---- who promised

voted : (me q : ℕ) (promises : List Promised) (j k : Promised) → j.from ≡ k.from → (eqb q me || is_some (promise_of (promises_with promises j) q)) ≡ (eqb q me || is_some (promise_of (promises_with promises k) q))
voted me q promises j k same =
    ap (λ (o : Option Promised). eqb q me || is_some o) (promise_of_with promises j q)
    ∙ by (eqb j.from q) (eqb k.from q) (ap (λ (n : ℕ). eqb n q) same) (promise_of promises q)
    ∙ sym (ap (λ (o : Option Promised). eqb q me || is_some o) (promise_of_with promises k q))
  where
    by : (a b : Bool) → a ≡ b → (o : Option Promised) → (eqb q me || is_some (cond a (Some j) o)) ≡ (eqb q me || is_some (cond b (Some k) o))
    by true true e o = refl
    by false false e o = refl
    by true false e o = absurd (true≢false e)
    by false true e o = absurd (false≢true e)

alike : (f g : ℕ → Bool) (xs : List ℕ) → ((x : ℕ) → f x ≡ g x) → filter f xs ≡ filter g xs
alike f g [] same = refl
alike f g (x ∷ xs) same =
    ap (λ (b : Bool). cond b (x ∷ filter f xs) (filter f xs)) (same x)
    ∙ ap (λ (l : List ℕ). cond (g x) (x ∷ l) l) (alike f g xs same)

-- whether a majority promised doesn't depend on what a promise tells
pub same_quorum : (me : ℕ) (members : List ℕ) (promises : List Promised) (j k : Promised) → j.from ≡ k.from → has_quorum me members (promises_with promises j) ≡ has_quorum me members (promises_with promises k)
same_quorum me members promises j k same =
    ap (λ (l : List ℕ). is_majority (length l) (length members))
    (alike (λ q. eqb q me || is_some (promise_of (promises_with promises j) q)) (λ q. eqb q me || is_some (promise_of (promises_with promises k) q)) members (λ q. voted me q promises j k same))
