-- Each member stands once among those that replied.
use Rattle.std.proofs.Common.{◌≡◌, ◌≢◌, ℕ, ◌<◌, Bool, true, false, cond, eqb, ◌&&◌, ◌||◌, not, List, [], ◌∷◌, ◌++◌, length, refl, sym, ap, ◌∙◌, subst, arith, tests, rules, length-append}
use Rattle.std.proofs.lemmas.Bool.{eqb-true, eq-eqb, and_parts, false≢true}
use Rattle.std.proofs.lemmas.Bool.Decides.{Decides-eqb}
use Rattle.std.proofs.lemmas.Cmp.{nat_eq_equiv}
use Rattle.std.proofs.lemmas.List.{length-map, map-append}
use Rattle.std.proofs.lemmas.List.Folds.{list_any-append}
use Rattle.std.proofs.lemmas.List.Kept.{AllPairs-filter}
use Rattle.std.proofs.lemmas.Map.Keys.{IsDistinct-push}
use Rattle.std.proofs.lemmas.Map.Made.{length-le_from_is_member, AllPairs-from_IsDistinct, IsDistinct-from_AllPairs}
use Rattle.std.specs.List.{filter, IsDistinct}
use Rattle.std.specs.Prelude.{nat_eq}
use Rattle.std.specs.Set.{is_member}
use Rattle.op_types.specs.declared.messages.Heard.{Heard}
use Rattle.op_quorum.specs.Quorums.{AreVoters}
use Rattle.op_quorum.proofs.Meeting.{member_passing}
use Rattle.op_protocol.specs.Heartbeats.{is_other, without, heard_with}
use Rattle.op_types.specs.Ranges.{IsMember}
use Rattle.op_heartbeat.specs.HeardReplies.{senders}

one_or : (a b : Bool) {P : Type 0} → (a ≡ true → P) → (b ≡ true → P) → (a || b) ≡ true → P
one_or true b first second h = first refl
one_or false b first second h = second h

-- a member alone
AreVoters-one : (members : List ℕ) (me : ℕ) → IsMember members me → AreVoters members (me ∷ [])
unfolding IsDistinct
AreVoters-one members me member =
    record {
      once = (tt, tt);
      among = λ p h. one_or (eqb p me) false (λ same. subst (IsMember members) (sym (eqb-true p me same)) member) (λ none. absurd (false≢true none)) h;
    }

-- before anyone replied
pub AreVoters-none : (members : List ℕ) (me : ℕ) (heard : List Heard) → IsMember members me → [] ≡ heard → AreVoters members (me ∷ senders heard)
AreVoters-none members me heard member none = subst (λ (h : List Heard). AreVoters members (me ∷ senders h)) none (AreVoters-one members me member)

-- the first of the voters is a member
pub first_member : (members ps : List ℕ) (me : ℕ) → AreVoters members (me ∷ ps) → IsMember members me
first_member members ps me v = v.among me (ap (λ (b : Bool). b || is_member nat_eq ps me) (eq-eqb me me refl))

-- ---- all but one

senders-one : (b : Bool) (h : Heard) (rest : List Heard) (others : List ℕ) → senders rest ≡ others → senders (cond b (h ∷ rest) rest) ≡ cond b (h.from ∷ others) others
senders-one true h rest others is = ap (λ (ps : List ℕ). h.from ∷ ps) is
senders-one false h rest others is = is

senders-without : (heard : List Heard) (p : ℕ) → senders (without heard p) ≡ filter (λ q. not (eqb q p)) (senders heard)
senders-without [] p = refl
senders-without (h ∷ heard) p = senders-one (not (eqb h.from p)) h (without heard p) (filter (λ q. not (eqb q p)) (senders heard)) (senders-without heard p)

IsDistinct-filter : (test : ℕ → Bool) (ps : List ℕ) → IsDistinct nat_eq ps → IsDistinct nat_eq (filter test ps)
IsDistinct-filter test ps once = IsDistinct-from_AllPairs Decides-eqb (filter test ps) (AllPairs-filter (λ p q. p ≢ q) test ps (AllPairs-from_IsDistinct Decides-eqb ps once))

-- ---- one more

among_more : (members ps : List ℕ) (p : ℕ) → IsMember members p → ((q : ℕ) → is_member nat_eq ps q ≡ true → IsMember members q) → (q : ℕ) → is_member nat_eq (ps ++ p ∷ []) q ≡ true → IsMember members q
among_more members ps p member among q h =
    one_or (is_member nat_eq ps q) (is_member nat_eq (p ∷ []) q) (among q)
    (λ last. one_or (eqb q p) false (λ same. subst (IsMember members) (sym (eqb-true q p same)) member) (λ none. absurd (false≢true none)) last)
    (sym (list_any-append (eqb q) ps (p ∷ [])) ∙ h)

not_other : (a b : Bool) → b ≡ true → (a && not b) ≡ false
not_other true b h = rw h refl
not_other false b h = refl

AreVoters-more : (members ps : List ℕ) (p : ℕ) → IsMember members p → AreVoters members ps → AreVoters members (filter (λ q. not (eqb q p)) ps ++ p ∷ [])
AreVoters-more members ps p member v =
    let test : ℕ → Bool = λ q. not (eqb q p) in
    record {
      once = IsDistinct-push nat_eq_equiv (filter test ps) p (IsDistinct-filter test ps v.once) (member_passing test ps p ∙ not_other (is_member nat_eq ps p) (eqb p p) (nat_eq_equiv.refl p));
      among = among_more members (filter test ps) p member (λ q h. v.among q (and_parts (is_member nat_eq ps q) (test q) (sym (member_passing test ps q) ∙ h)).0);
    }

-- those that replied, when one more reply came
senders-taken : (heard : List Heard) (reply : Heard) → senders (heard_with heard reply) ≡ filter (λ q. not (eqb q reply.from)) (senders heard) ++ reply.from ∷ []
senders-taken heard reply = map-append (λ (h : Heard). h.from) (without heard reply.from) (reply ∷ []) ∙ ap (λ (ps : List ℕ). ps ++ reply.from ∷ []) (senders-without heard reply.from)

-- the votes of a member and of all others but one
kept_first : (b : Bool) (me : ℕ) (ps : List ℕ) → b ≡ false → cond (not b) (me ∷ ps) ps ≡ me ∷ ps
kept_first true me ps other = absurd (false≢true (sym other))
kept_first false me ps other = refl

not_same : (p q : ℕ) → not (eqb q p) ≡ true → eqb p q ≡ false
not_same p q other = search (rules, tests, other)

-- what another member's reply needs
pub record IsOther (members : List ℕ) (me from : ℕ) : Type 0 where
  pub member : IsMember members from
  pub other : eqb me from ≡ false

pub other_of : (members : List ℕ) (me from : ℕ) → is_other me members from ≡ true → IsOther members me from
other_of members me from is =
    let parts = and_parts (not (eqb from me)) (is_member nat_eq members from) is in
    record { member = parts.1; other = not_same me from parts.0 }

pub AreVoters-taken : (members : List ℕ) (me : ℕ) (heard : List Heard) (reply : Heard) → IsOther members me reply.from → AreVoters members (me ∷ senders heard) → AreVoters members (me ∷ senders (heard_with heard reply))
AreVoters-taken members me heard reply is v =
    let others = filter (λ q. not (eqb q reply.from)) (senders heard) in
    let more = AreVoters-more members (me ∷ senders heard) reply.from is.member v in
    let same : cond (not (eqb me reply.from)) (me ∷ others) others ++ reply.from ∷ [] ≡ me ∷ senders (heard_with heard reply) =
    ap (λ (ps : List ℕ). ps ++ reply.from ∷ []) (kept_first (eqb me reply.from) me others is.other) ∙ ap (λ (ps : List ℕ). me ∷ ps) (sym (senders-taken heard reply)) in
    subst (AreVoters members) same more

-- there is a member for each reply, and one more
pub room_for_one : (members : List ℕ) (me : ℕ) (heard : List Heard) (reply : Heard) → IsOther members me reply.from → AreVoters members (me ∷ senders heard) → length (without heard reply.from) < length members
room_for_one members me heard reply is v =
    let w = AreVoters-taken members me heard reply is v in
    omega (arith, length-le_from_is_member nat_eq_equiv (me ∷ senders (heard_with heard reply)) members w.once w.among, length-map (heard_with heard reply) (λ (h : Heard). h.from), length-append (without heard reply.from) (reply ∷ []))
