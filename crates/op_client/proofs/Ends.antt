-- What a whole call promises, from its run.
use Rattle.std.proofs.Common.{◌≡◌, ℕ, List, [], ◌∷◌, ◌+◌, Bool, true, inl, Ok, Err, Some, None, refl, subst, arith}
use Rattle.std.specs.List.{list_any}
use Rattle.std.proofs.lemmas.Bool.{eq-eqb}
use Rattle.op_types.specs.declared.events.Request.{Request}
use Rattle.op_outside.specs.Causes.{Rises, RisesIf}
use Rattle.op_outside.specs.Nets.{Call, Dialled, Closed, has_failed}
use Rattle.op_outside.specs.Seen.{NetSeen, Told}
use Rattle.op_outside.specs.Telling.{Grows}
use Rattle.op_outside.specs.declared.net.Addr.{Addr}
use Rattle.op_outside.proofs.Seen.{told_both, told_call, told_none}
use Rattle.op_command.specs.Replies.{reply_form}
use Rattle.op_frame.specs.Framing.{Stream, BeginsWith, TellsTooLong}
use Rattle.op_client.specs.declared.call_fail.CallFail.TheVariants as fail
use Rattle.op_client.specs.Rules.{Client, Ending, at, turn, over, closes, most_waits, request_bytes, fresh, stream, Event, net, starved}
use Rattle.op_client.specs.Run.{Run, Ran, RanOut, calls}
use Rattle.op_client.specs.Called.{starves, dials_failing, dials_in_vain, dials, seen, waited, gives, Why, no_connection, has_ended, is_no_reply, is_too_long, Faults, Calls}
use Rattle.op_client.proofs.Runs.{asked, ran_then}
use Rattle.op_client.proofs.Stands.{Changes, run_changes, Stands, run_stands, Reason, ended, another, too_long, is_fault}

faults_of : (e : Ending) (m n : ℕ) → RisesIf (is_fault e) m n → Faults e m n
faults_of (Ok r) m n h = h
faults_of (Err fail.NoReply) m n h = h
faults_of (Err fail.TurnsOver) m n h = h
faults_of (Err fail.NetFault) m n h = h
faults_of (Err fail.NoMemory) m n h = h

why_of : (c : ℕ) (xs : List Call) (k : ℕ) (s : Client) (e : Ending) → list_any (gives c) xs ≡ true → s.held ≡ stream (seen xs) → waited xs + k ≡ most_waits
    → has_failed xs ≡ is_fault e → Reason c xs k s e → Why e xs
why_of c xs k s (Ok r) d held w f (range, (rest, b)) = (range, (rest, subst (λ (x : Stream). BeginsWith x (reply_form.text r) rest) held b))
why_of c xs k s (Err fail.NoReply) d held w f (ended t) = has_ended c d t
why_of c xs k s (Err fail.NoReply) d held w f (another body rest h b) = is_no_reply body (rest, subst (λ (x : Stream). BeginsWith x body rest) held b) h
why_of c xs k s (Err fail.NoReply) d held w f (too_long len t) = is_too_long len (subst (λ (x : Stream). TellsTooLong x len) held t)
why_of c xs k s (Err fail.TurnsOver) d held w f h = omega (arith, w, h)
why_of c xs k s (Err fail.NetFault) d held w f h = f
why_of c xs k s (Err fail.NoMemory) d held w f h = tt

pub called_starved : (addr : Addr) (request : Request) (n : NetSeen) → Calls addr request (Err fail.NoMemory) n n
called_starved addr request n = record {
  events = starved ∷ [];
  happens = starves;
  told = (told_none n).grows;
  faults = refl;
  sends = record { rest = request_bytes request; split = refl; all = λ c g h. absurd cc };
  few_waits = omega arith;
  why = tt;
}

module _ (addr : Addr) (request : Request) (n0 n1 : NetSeen) where
  pub called_failing : Grows n0.0 (Dialled addr None ∷ []) n1.0 → Rises n0.1 n1.1 → Calls addr request (Err fail.NetFault) n0 n1
  called_failing g rose = record {
    events = net (Dialled addr None) ∷ [];
    happens = dials_failing;
    told = g;
    faults = rose;
    sends = record { rest = request_bytes request; split = refl; all = λ c g h. absurd cc };
    few_waits = omega arith;
    why = refl;
  }

  pub called_in_vain : Grows n0.0 (Dialled addr (Some None) ∷ []) n1.0 → n1.1 ≡ n0.1 → Calls addr request (Err fail.NoReply) n0 n1
  called_in_vain g same = record {
    events = net (Dialled addr (Some None)) ∷ [];
    happens = dials_in_vain;
    told = g;
    faults = same;
    sends = record { rest = request_bytes request; split = refl; all = λ c g h. absurd cc };
    few_waits = omega arith;
    why = no_connection refl;
  }

-- a connection was dialled
module _ (addr : Addr) (request : Request) (c : ℕ) (e : Ending) (n0 n1 n2 n3 : NetSeen) where
  came_over : (k : ℕ) (s : Client) (es : List Event) → Run c (at turn most_waits (fresh request)) es (at (over e) k s)
      → Told (Dialled addr (Some (Some c)) ∷ calls es) n0 n3 → Calls addr request e n0 n3
  came_over k s es run told =
      let d : Call = Dialled addr (Some (Some c)) in
      let xs : List Call = d ∷ calls es in
      let given : list_any (gives c) xs ≡ true = rw (eq-eqb c c refl) refl in
      let changes : Changes (at turn most_waits (fresh request)) (calls es) (at (over e) k s) = run_changes run in
      let stands : Stands c xs (at (over e) k s) = run_stands run (d ∷ []) (record { calm = inl refl; why = tt; fails = refl }) in
      let wait : waited xs + k ≡ most_waits = omega (arith, changes.waits) in
      record {
        events = net d ∷ es;
        happens = dials run;
        told = told.grows;
        faults = faults_of e n0.1 n3.1 (subst (λ (b : Bool). RisesIf b n0.1 n3.1) stands.fails told.counts);
        sends = record { rest = s.left; split = changes.left; all = λ _ g h. stands.calm h };
        few_waits = omega (arith, wait);
        why = why_of c xs k s e given changes.held wait stands.fails stands.why;
      }

  pub called_over : Grows n0.0 (Dialled addr (Some (Some c)) ∷ []) n1.0 → n1.1 ≡ n0.1 → RanOut c (at turn most_waits (fresh request)) e n1 n2
      → Grows n2.0 (Closed c ∷ []) n3.0 → n3.1 ≡ n2.1 → Calls addr request e n0 n3
  called_over g same (k, s, r) h same2 =
      let whole : Ran c (at turn most_waits (fresh request)) (at (over e) k s) n1 n3 = ran_then n1 n2 n3 r (asked n2 n3 closes h same2) in
      came_over k s whole.0 whole.1 (told_both n0 n1 n3 (Dialled addr (Some (Some c)) ∷ []) (calls whole.0) (told_call n0 n1 g same) whole.2)
