-- Runs at a connection, one behind the other.
use Rattle.std.proofs.Common.{◌≡◌, ℕ, List, [], ◌∷◌, ◌++◌, Option, Some, None, refl, sym, ◌∙◌, ap, append_assoc, subst, Result, Ok, Err}
use Rattle.op_outside.specs.Causes.{RisesIf}
use Rattle.op_outside.specs.Nets.{Call, call_fails}
use Rattle.op_outside.specs.Seen.{NetSeen}
use Rattle.op_outside.specs.Telling.{Grows}
use Rattle.op_outside.proofs.Seen.{told_none, told_call, told_both}
use Rattle.op_command.specs.declared.reply.ClientReply.{ClientReply}
use Rattle.op_client.specs.declared.call_fail.CallFail.{CallFail}
use Rattle.op_client.specs.Rules.{Ending, Moment, Event, net, starved, quiet, Step}
use Rattle.op_client.specs.Run.{Run, none, more, calls, call_of, Ran, RanOut, Hears}

joined : {c : ℕ} {a b d : Moment} {es fs : List Event} → Run c a es b → Run c b fs d → Run c a (es ++ fs) d
joined none q = q
joined (more st r) q = more st (joined r q)

calls_more : (es fs : List Event) → calls (es ++ fs) ≡ calls es ++ calls fs
calls_more [] fs = refl
calls_more (e ∷ es) fs = ap (λ t. call_of e ++ t) (calls_more es fs) ∙ sym (append_assoc (call_of e) (calls es) (calls fs))

-- ---- runs

-- nothing is done
pub stays : {c : ℕ} {a : Moment} (n : NetSeen) → Ran c a a n n
stays n = ([], none, told_none n)

-- one step that asks nothing of the net
pub quietly : {c : ℕ} {a b : Moment} (n : NetSeen) → Step c a quiet b → Ran c a b n n
quietly n st = (quiet ∷ [], more st none, told_none n)

pub in_want : {c : ℕ} {a b : Moment} (n : NetSeen) → Step c a starved b → Ran c a b n n
in_want n st = (starved ∷ [], more st none, told_none n)

-- one call of the net
pub asked : {c : ℕ} {a b : Moment} {call : Call} (n0 n1 : NetSeen) → Step c a (net call) b → Grows n0.0 (call ∷ []) n1.0 → RisesIf (call_fails call) n0.1 n1.1 → Ran c a b n0 n1
asked {call = call} n0 n1 st g k = (net call ∷ [], more st none, told_call n0 n1 g k)

pub ran_then : {c : ℕ} {a b d : Moment} (n0 n1 n2 : NetSeen) → Ran c a b n0 n1 → Ran c b d n1 n2 → Ran c a d n0 n2
ran_then n0 n1 n2 (es, r, t) (fs, q, u) = (es ++ fs, joined r q, rw (calls_more es fs) (told_both n0 n1 n2 (calls es) (calls fs) t u))

-- ---- runs to an end

pub out_then : {c : ℕ} {a b : Moment} (e : Ending) (n0 n1 n2 : NetSeen) → Ran c a b n0 n1 → RanOut c b e n1 n2 → RanOut c a e n0 n2
out_then e n0 n1 n2 r (k, s, q) = (k, s, ran_then n0 n1 n2 r q)

pub hears_then : {c : ℕ} {a b : Moment} (d : Moment) (result : Result (Option ClientReply) CallFail) (n0 n1 n2 : NetSeen)
    → Ran c a b n0 n1 → Hears c b result d n1 n2 → Hears c a result d n0 n2
hears_then d (Ok None) n0 n1 n2 r q = ran_then n0 n1 n2 r q
hears_then d (Ok (Some x)) n0 n1 n2 r q = out_then (Ok x) n0 n1 n2 r q
hears_then d (Err e) n0 n1 n2 r q = out_then (Err e) n0 n1 n2 r q

-- an error is handed on
pub hears_fail : {c : ℕ} {a : Moment} (b : Moment) (result : Result (Option ClientReply) CallFail) (e : CallFail) (n0 n1 : NetSeen)
    → result ≡ Err e → RanOut c a (Err e) n0 n1 → Hears c a result b n0 n1
hears_fail {c = c} {a = a} b result e n0 n1 is r = subst (λ (w : Result (Option ClientReply) CallFail). Hears c a w b n0 n1) (sym is) r

pub out_fail : {c : ℕ} {a : Moment} (result : Ending) (e : CallFail) (n0 n1 : NetSeen)
    → result ≡ Err e → RanOut c a (Err e) n0 n1 → RanOut c a result n0 n1
out_fail {c = c} {a = a} result e n0 n1 is r = subst (λ (w : Ending). RanOut c a w n0 n1) (sym is) r

-- what a turn gave
pub hears_one : {c : ℕ} {a : Moment} (b : Moment) (o : Option ClientReply) (x : ClientReply) (n0 n1 : NetSeen) → o ≡ Some x → Hears c a (Ok o) b n0 n1 → RanOut c a (Ok x) n0 n1
hears_one {c = c} {a = a} b o x n0 n1 is h = subst (λ (w : Option ClientReply). Hears c a (Ok w) b n0 n1) is h

pub hears_none : {c : ℕ} {a b : Moment} (o : Option ClientReply) (n0 n1 : NetSeen) → o ≡ None → Hears c a (Ok o) b n0 n1 → Ran c a b n0 n1
hears_none {c = c} {a = a} {b = b} o n0 n1 is h = subst (λ (w : Option ClientReply). Hears c a (Ok w) b n0 n1) is h
