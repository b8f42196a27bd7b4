-- Messages as letters: those inside a configuration, and the news of the next one.
use Rattle.std.proofs.Common.{◌≡◌, ◌<◌, ◌≤◌, ℕ, suc, ◌+◌, ◌-◌, Bool, true, false, not, cond, eqb, nat_eq, is_some, List, [], ◌∷◌, ◌++◌, length, filter, Option, Some, None, refl, sym, ap, ◌∙◌, subst, arith, slice_get}
use Rattle.std.specs.Set.{is_member}
use Rattle.std.proofs.lemmas.Bool.{ne_eqb, both_ways}
use Rattle.std.proofs.lemmas.List.{length-drop}
use Rattle.op_types.specs.Changes.{closed_len}
use Rattle.op_types.specs.declared.durable.Closed.{Closed as StoredClosed}
use Rattle.op_types.specs.declared.log.Entry.{Entry}
use Rattle.op_types.specs.declared.messages.Body.{Body}
use Rattle.op_types.specs.declared.messages.Body.TheVariants as body
use Rattle.op_types.specs.declared.messages.Msg.{Msg}
use Rattle.op_protocol.specs.Parts.{others, to_each}
use Rattle.op_protocol.specs.Configurations.{next_conf_body}
use Rattle.op_runs.specs.World.{Sent, sent_by}
use Rattle.op_configurations.specs.Servers as server
use Rattle.op_configurations.specs.Servers.{Closed, Letter, wrap, tell, next_conf, to_all}
use Rattle.op_configurations.specs.Stored.{HoldsClosed}
use Rattle.op_refinement.proofs.Pure as pure
use Rattle.op_refinement.proofs.View.{Each, view_body, BodyIsSmall, SentIsSmall, IsInner, packet_more, packets_of, Says, sent_by-append}
use Rattle.op_refinement.proofs.Relation.{IsSaid, IsLetter, AreLetters}

none_some : {A : Type 0} (a : A) → None ≡ Some a → ⊥
none_some a e = cc

some_is : {A : Type 0} (a b : A) → Some a ≡ Some b → a ≡ b
some_is a b e = cc

-- ---- lists of letters

pub letters-append : (lists : ℕ → List Entry) (ss ts : List Sent) (ms ns : List Letter) → AreLetters lists ss ms → AreLetters lists ts ns → AreLetters lists (ss ++ ts) (ms ++ ns)
letters-append lists [] ts [] ns a b = b
letters-append lists [] ts (m ∷ ms) ns a b = absurd a
letters-append lists (s ∷ ss) ts [] ns a b = absurd a
letters-append lists (s ∷ ss) ts (m ∷ ms) ns a b = (a.0, letters-append lists ss ts ms ns a.1 b)

-- the same of what a node sends
pub letters_both : (lists : ℕ → List Entry) (me : ℕ) (ss ts : List (ℕ × Msg)) (ms ns : List Letter) → AreLetters lists (sent_by me ss) ms → AreLetters lists (sent_by me ts) ns → AreLetters lists (sent_by me (ss ++ ts)) (ms ++ ns)
letters_both lists me ss ts ms ns a b = subst (λ (xs : List Sent). AreLetters lists xs (ms ++ ns)) (sym (sent_by-append me ss ts)) (letters-append lists (sent_by me ss) (sent_by me ts) ms ns a b)

-- the letter of a number
abbrev pub IfLetter : (ℕ → List Entry) → Option Sent → Option Letter → Type 0
IfLetter lists None None = Unit {0}
IfLetter lists (Some s) (Some m) = IsLetter lists s m
IfLetter lists _ _ = ⊥

pub letter_at : (lists : ℕ → List Entry) (ss : List Sent) (ms : List Letter) → AreLetters lists ss ms → (n : ℕ) → IfLetter lists (slice_get ss n) (slice_get ms n)
letter_at lists [] [] a n = tt
letter_at lists [] (m ∷ ms) a n = absurd a
letter_at lists (s ∷ ss) [] a n = absurd a
letter_at lists (s ∷ ss) (m ∷ ms) a Rattle.std.proofs.Common.zero = a.0
letter_at lists (s ∷ ss) (m ∷ ms) a (suc n) = letter_at lists ss ms a.1 n

-- ---- inside a configuration

-- a message with a counterpart
pub said_inner : (lists : ℕ → List Entry) (conf : ℕ) (b : Body) (m : pure.Msg) → 0 < conf → view_body b ≡ Some m → IsSaid lists conf b (server.Inner m)
said_inner lists conf (body.HeartbeatRequest round) m pos e = absurd (none_some m e)
said_inner lists conf (body.HeartbeatReply round n flag) m pos e = absurd (none_some m e)
said_inner lists conf (body.Confirm z round) m pos e = absurd (none_some m e)
said_inner lists conf (body.Confirmed n round) m pos e = absurd (none_some m e)
said_inner lists conf (body.Watch w) m pos e = absurd (none_some m e)
said_inner lists conf (body.Prepare n na nl nd) m pos e = (m, e, refl)
said_inner lists conf (body.Promise n fa fl fd s es) m pos e = (m, e, refl)
said_inner lists conf (body.AcceptSync n x es) m pos e = (m, e, refl)
said_inner lists conf (body.PromisePart n part) m pos e = (m, e, refl)
said_inner lists conf (body.AcceptSyncPart n part) m pos e = (m, e, refl)
said_inner lists conf (body.Accept n a es) m pos e = (m, e, refl)
said_inner lists conf (body.Accepted n x) m pos e = (m, e, refl)
said_inner lists conf (body.Decide n x) m pos e = (m, e, refl)
said_inner lists conf body.PrepareReq m pos e =
    ap server.Inner (sym (some_is pure.PrepareReq m e)) ∙ ap (λ (c : Bool). cond c server.HeartbeatReply (server.Inner pure.PrepareReq)) (sym (ne_eqb conf 0 (λ z. omega (arith, z, pos))))
said_inner lists conf (body.Refuse n x) m pos e = (m, e, refl)
said_inner lists conf (body.Forward x) m pos e = (m, e, refl)
said_inner lists conf (body.Forwards x) m pos e = (m, e, refl)
said_inner lists conf (body.TrimAsk n) m pos e = (m, e, refl)
said_inner lists conf (body.Progress n x) m pos e = (m, e, refl)
said_inner lists conf (body.Trim x) m pos e = (m, e, refl)
said_inner lists conf (body.NextConf members olds len trimmed) m pos e = absurd (none_some m e)
said_inner lists conf body.AskBase m pos e = absurd (none_some m e)
said_inner lists conf (body.BasePart at bytes) m pos e = absurd (none_some m e)
said_inner lists conf (body.BasePiece piece) m pos e = absurd (none_some m e)
said_inner lists conf (body.AskSegment from to) m pos e = absurd (none_some m e)
said_inner lists conf (body.Segment at es) m pos e = absurd (none_some m e)

wrapped : (lists : ℕ → List Entry) (conf : ℕ) → 0 < conf → (ss : List Sent) → Each SentIsSmall ss → Each (IsInner conf) ss → AreLetters lists ss (wrap conf (packets_of ss))
wrapped lists conf pos [] small inner = tt
wrapped lists conf pos (s ∷ ss) small inner = by (view_body s.message.body) refl (wrapped lists conf pos ss small.1 inner.1)
  where
    by : (o : Option pure.Msg) → view_body s.message.body ≡ o → AreLetters lists ss (wrap conf (packets_of ss)) → AreLetters lists (s ∷ ss) (wrap conf (packet_more s.from s.to o (packets_of ss)))
    by None e more = absurd (both_ways false refl (sym (ap is_some e) ∙ (inner.0).1))
    by (Some m) e more = (record { from = refl; to = refl; conf = (inner.0).0; body = said_inner lists conf s.message.body m pos e; small = small.0 }, more)

-- messages inside a configuration are its letters
pub wrap_letters : (lists : ℕ → List Entry) (conf : ℕ) (packets : List pure.Packet) (ss : List Sent) → 0 < conf → Says conf packets ss → AreLetters lists ss (wrap conf packets)
wrap_letters lists conf packets ss pos k = subst (λ (xs : List pure.Packet). AreLetters lists ss (wrap conf xs)) k.exact (wrapped lists conf pos ss k.small k.inner)

-- ---- the same to several

-- a message to each of the others
pub others_letters : (lists : ℕ → List Entry) (me conf : ℕ) (b : Body) (x : server.Body) → IsSaid lists conf b x → BodyIsSmall b → (qs : List ℕ) → AreLetters lists (sent_by me (to_each conf (others me qs) b)) (to_all me conf x qs)
others_letters lists me conf b x said small [] = tt
others_letters lists me conf b x said small (q ∷ qs) = by (eqb q me) refl (others_letters lists me conf b x said small qs)
  where
    by : (c : Bool) → eqb q me ≡ c → AreLetters lists (sent_by me (to_each conf (others me qs) b)) (to_all me conf x qs) → AreLetters lists (sent_by me (to_each conf (others me (q ∷ qs)) b)) (to_all me conf x (q ∷ qs))
    by true h more = rw h more
    by false h more = rw h (record { from = refl; to = refl; conf = refl; body = said; small = small }, more)

-- ---- news

-- a stored closed list's length
pub closed_length : (lists : ℕ → List Entry) (l : StoredClosed) (k : Closed) → HoldsClosed lists l k → k.trimmed ≤ length k.list → closed_len l ≡ length k.list
closed_length lists l k h low = omega (arith, h.trimmed, ap (λ (xs : List Entry). length xs) h.tail, length-drop k.trimmed k.list, low)

-- what it tells of the next configuration
pub news_said : (lists : ℕ → List Entry) (l : StoredClosed) (k : Closed) → HoldsClosed lists l k → k.trimmed ≤ length k.list → (conf : ℕ) → IsSaid lists conf (next_conf_body l) (next_conf k)
news_said lists l k h low conf =
    let len = closed_length lists l k h low in
    λ i. server.NextConf (sym h.next i) (sym h.olds i) (sym len i) (sym h.trimmed i)

-- and to whom
pub tell_letters : (lists : ℕ → List Entry) (me : ℕ) (l : StoredClosed) (k : Closed) → HoldsClosed lists l k → k.trimmed ≤ length k.list → (qs : List ℕ)
    → AreLetters lists (sent_by me (to_each (l.conf + 1) (filter (λ q. not (is_member nat_eq l.olds q)) qs) (next_conf_body l))) (tell me k qs)
tell_letters lists me l k h low [] = tt
tell_letters lists me l k h low (q ∷ qs) = by (is_member nat_eq l.olds q) refl (tell_letters lists me l k h low qs)
  where
    same : is_member nat_eq l.olds q ≡ is_member nat_eq k.olds q
    same = ap (λ (xs : List ℕ). is_member nat_eq xs q) h.olds

    by : (c : Bool) → is_member nat_eq l.olds q ≡ c → AreLetters lists (sent_by me (to_each (l.conf + 1) (filter (λ r. not (is_member nat_eq l.olds r)) qs) (next_conf_body l))) (tell me k qs)
        → AreLetters lists (sent_by me (to_each (l.conf + 1) (filter (λ r. not (is_member nat_eq l.olds r)) (q ∷ qs)) (next_conf_body l))) (tell me k (q ∷ qs))
    by true e more = let f : is_member nat_eq k.olds q ≡ true = sym same ∙ e in rw (e, f) more
    by false e more =
        let f : is_member nat_eq k.olds q ≡ false = sym same ∙ e in
        rw (e, f) (record { from = refl; to = refl; conf = omega (arith, h.conf); body = news_said lists l k h low (suc k.conf); small = tt }, more)
