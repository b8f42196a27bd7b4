-- The requests that go over links, the replies that a member keeps of them, and how many those are.
use Rattle.std.proofs.Common.{◌≡◌, ℕ, suc, Bool, true, false, not, cond, ◌&&◌, ◌||◌, eqb, nat_eq, List, [], ◌∷◌, ◌++◌, length, map, filter, flat_map, refl, sym, ap, ◌∙◌, subst, append-nil, append_assoc}
use Rattle.std.proofs.lemmas.Bool.{eqb-true, eqb-false, eq-eqb, ne_eqb, and_from, or_parts, false≢true}
use Rattle.std.proofs.lemmas.List.Elements.{filter-append}
use Rattle.std.specs.Set.{is_member}
use Rattle.op_types.specs.declared.durable.Part.{Part}
use Rattle.op_types.specs.declared.messages.Body.TheVariants as body
use Rattle.op_types.specs.declared.messages.Heard.{Heard}
use Rattle.op_types.specs.declared.messages.Msg.{Msg}
use Rattle.op_protocol.specs.State.{Volatile}
use Rattle.op_protocol.specs.Heartbeats.{is_other, without, heard_with}
use Rattle.op_protocol.specs.Parts.{others, to_each}
use Rattle.op_protocol.specs.Tick.{requests}
use Rattle.op_runs.specs.World.{Sent, sent_by}
use Rattle.op_gen.specs.Links.{Links, is_linked}
use Rattle.op_lockstep.specs.Lockstep.{is_request, is_linked_request}
use Rattle.op_lockstep.proofs.Lists.{Each, Each-append, Each-more, Each-filter, each_member, by_test, Distinct}
use Rattle.op_lockstep.proofs.Changes.{Asks}

-- ---- the requests of one member
-- p's request to q
abbrev pub request : ℕ → ℕ → ℕ → ℕ → Sent
request conf round p q = record { from = p; to = q; message = record { conf = conf; body = body.HeartbeatRequest round } }

-- the others of a list
pub each_other : (p : ℕ) (members : List ℕ) → Each (λ q. is_other p members q ≡ true) (others p members)
each_other p members =
    Each-more (λ q. (is_member nat_eq members q ≡ true) × (not (eqb q p) ≡ true)) (λ q. is_other p members q ≡ true) (λ q h. and_from (not (eqb q p)) (is_member nat_eq members q) h.1 h.0) (others p members)
    (Each-filter (λ q. is_member nat_eq members q ≡ true) (λ q. not (eqb q p)) members (each_member members))

sent_by-append : (p : ℕ) (xs ys : List (ℕ × Msg)) → sent_by p (xs ++ ys) ≡ sent_by p xs ++ sent_by p ys
sent_by-append p [] ys = refl
sent_by-append p (x ∷ xs) ys = ap (λ (l : List Sent). record { from = p; to = x.0; message = x.1 } ∷ l) (sent_by-append p xs ys)

linked_requests : (links : Links) (conf round p : ℕ) (qs : List ℕ) → filter (is_linked_request links) (sent_by p (to_each conf qs (body.HeartbeatRequest round))) ≡ map (request conf round p) (filter (is_linked links p) qs)
linked_requests links conf round p [] = refl
linked_requests links conf round p (q ∷ qs) =
    let rest : List Sent = filter (is_linked_request links) (sent_by p (to_each conf qs (body.HeartbeatRequest round))) in
    by_test (is_linked links p q) (λ (b : Bool). cond b (request conf round p q ∷ rest) rest ≡ map (request conf round p) (cond b (q ∷ filter (is_linked links p) qs) (filter (is_linked links p) qs)))
    (λ _. ap (λ (l : List Sent). request conf round p q ∷ l) (linked_requests links conf round p qs)) (λ _. linked_requests links conf round p qs)

no_requests : (links : Links) (p : ℕ) (more : List (ℕ × Msg)) → Each (λ (s : ℕ × Msg). is_request s.1.body ≡ false) more → filter (is_linked_request links) (sent_by p more) ≡ []
no_requests links p [] e = refl
no_requests links p (s ∷ more) e =
    let rest : List Sent = filter (is_linked_request links) (sent_by p more) in
    ap (λ (b : Bool). cond (b && is_linked links p s.0) (record { from = p; to = s.0; message = s.1 } ∷ rest) rest) e.0 ∙ no_requests links p more e.1

-- of what a member sends at its tick, these go over links
pub linked_sent : (links : Links) (p : ℕ) (part : Part) (round : ℕ) (sends : List (ℕ × Msg)) → Asks p part round sends
    → filter (is_linked_request links) (sent_by p sends) ≡ map (request part.conf round p) (filter (is_linked links p) (others p part.members))
linked_sent links p part round sends k =
    ap (λ (l : List (ℕ × Msg)). filter (is_linked_request links) (sent_by p l)) k.is
    ∙ ap (filter (is_linked_request links)) (sent_by-append p (requests p part round) k.more)
    ∙ filter-append (is_linked_request links) (sent_by p (requests p part round)) (sent_by p k.more)
    ∙ ap (λ (l : List Sent). filter (is_linked_request links) (sent_by p (requests p part round)) ++ l) (no_requests links p k.more k.quiet)
    ∙ append-nil (filter (is_linked_request links) (sent_by p (requests p part round)))
    ∙ linked_requests links part.conf round p (others p part.members)

-- and these are requests at all
pub sent_requests : (P : Sent → Type 0) (links : Links) (p : ℕ) (part : Part) (round : ℕ) (sends : List (ℕ × Msg)) → Asks p part round sends
    → ((q : ℕ) → is_other p part.members q ≡ true → P (request part.conf round p q)) → Each (λ m. is_linked_request links m ≡ true → P m) (sent_by p sends)
sent_requests P links p part round sends k h =
    subst (λ (l : List (ℕ × Msg)). Each (λ m. is_linked_request links m ≡ true → P m) (sent_by p l)) (sym k.is)
    (subst (Each (λ m. is_linked_request links m ≡ true → P m)) (sym (sent_by-append p (requests p part round) k.more))
    (Each-append (λ m. is_linked_request links m ≡ true → P m) (sent_by p (requests p part round)) (sent_by p k.more)
    (of_requests (others p part.members) (each_other p part.members)) (of_more k.more k.quiet)))
  where
    of_requests : (qs : List ℕ) → Each (λ q. is_other p part.members q ≡ true) qs → Each (λ m. is_linked_request links m ≡ true → P m) (sent_by p (to_each part.conf qs (body.HeartbeatRequest round)))
    of_requests [] e = tt
    of_requests (q ∷ qs) e = ((λ _. h q e.0), of_requests qs e.1)

    of_more : (more : List (ℕ × Msg)) → Each (λ (s : ℕ × Msg). is_request s.1.body ≡ false) more → Each (λ m. is_linked_request links m ≡ true → P m) (sent_by p more)
    of_more [] e = tt
    of_more (s ∷ more) e = ((λ t. absurd (false≢true (sym (ap (λ (b : Bool). b && is_linked links p s.0) e.0) ∙ t))), of_more more e.1)

-- ---- the replies that a member keeps
-- what a member tells
abbrev pub told : (ℕ → Volatile) → ℕ → Heard
told v q = record { from = q; ballot = (v q).own; flag = (v q).flag }

-- the replies that p keeps when those to these requests came
abbrev pub kept : (ℕ → Heard) → ℕ → List Sent → List Heard → List Heard
kept tell p [] hs = hs
kept tell p (m ∷ ms) hs = kept tell p ms (cond (eqb p m.from) (heard_with hs (tell m.to)) hs)

module _ (tell : ℕ → Heard) (told_from : (q : ℕ) → (tell q).from ≡ q) where
  kept-append : (p : ℕ) (xs ys : List Sent) (hs : List Heard) → kept tell p (xs ++ ys) hs ≡ kept tell p ys (kept tell p xs hs)
  kept-append p [] ys hs = refl
  kept-append p (m ∷ xs) ys hs = kept-append p xs ys (cond (eqb p m.from) (heard_with hs (tell m.to)) hs)

  -- replies to another one's requests
  kept_other : (conf round p x : ℕ) (qs : List ℕ) (hs : List Heard) → eqb p x ≡ false → kept tell p (map (request conf round x) qs) hs ≡ hs
  kept_other conf round p x [] hs e = refl
  kept_other conf round p x (q ∷ qs) hs e = ap (λ (b : Bool). kept tell p (map (request conf round x) qs) (cond b (heard_with hs (tell q)) hs)) e ∙ kept_other conf round p x qs hs e

  -- nothing is replaced
  without_none : (hs : List Heard) (q : ℕ) → Each (λ h. eqb h.from q ≡ false) hs → without hs q ≡ hs
  without_none [] q e = refl
  without_none (h ∷ hs) q e = ap (λ (b : Bool). cond (not b) (h ∷ without hs q) (without hs q)) e.0 ∙ ap (λ (l : List Heard). h ∷ l) (without_none hs q e.1)

  -- replies to the own requests
  kept_own : (conf round p : ℕ) (qs : List ℕ) (hs : List Heard) → Distinct qs → Each (λ h. is_member nat_eq qs h.from ≡ false) hs → kept tell p (map (request conf round p) qs) hs ≡ hs ++ map tell qs
  kept_own conf round p [] hs d e = sym (append-nil hs)
  kept_own conf round p (q ∷ qs) hs d e =
      let fresh : Each (λ h. eqb h.from q ≡ false) hs = Each-more (λ h. is_member nat_eq (q ∷ qs) h.from ≡ false) (λ h. eqb h.from q ≡ false) (λ h n. (or_parts (eqb h.from q) (is_member nat_eq qs h.from) n).0) hs e in
      let left : Each (λ h. is_member nat_eq qs h.from ≡ false) hs = Each-more (λ h. is_member nat_eq (q ∷ qs) h.from ≡ false) (λ h. is_member nat_eq qs h.from ≡ false) (λ h n. (or_parts (eqb h.from q) (is_member nat_eq qs h.from) n).1) hs e in
      ap (λ (b : Bool). kept tell p (map (request conf round p) qs) (cond b (heard_with hs (tell q)) hs)) (eq-eqb p p refl)
      ∙ ap (λ (l : List Heard). kept tell p (map (request conf round p) qs) (l ++ tell q ∷ [])) (without_none hs (tell q).from (subst (λ (k : ℕ). Each (λ h. eqb h.from k ≡ false) hs) (sym (told_from q)) fresh))
      ∙ kept_own conf round p qs (hs ++ tell q ∷ []) d.1 (Each-append (λ h. is_member nat_eq qs h.from ≡ false) hs (tell q ∷ []) left (ap (is_member nat_eq qs) (told_from q) ∙ d.0, tt))
      ∙ append_assoc hs (tell q ∷ []) (map tell qs)

  module _ (conf : ℕ) (round : ℕ → ℕ) (to : ℕ → List ℕ) where
    -- the requests of one
    abbrev pub asking_by : ℕ → List Sent
    asking_by p = map (request conf (round p) p) (to p)

    kept_none : (p : ℕ) (ps : List ℕ) (hs : List Heard) → is_member nat_eq ps p ≡ false → kept tell p (flat_map asking_by ps) hs ≡ hs
    kept_none p [] hs n = refl
    kept_none p (x ∷ ps) hs n =
        let k = or_parts (eqb p x) (is_member nat_eq ps p) n in
        kept-append p (asking_by x) (flat_map asking_by ps) hs ∙ ap (kept tell p (flat_map asking_by ps)) (kept_other conf (round x) p x (to x) hs k.0) ∙ kept_none p ps hs k.1

    -- each of those that it asked is heard
    pub kept_all : (p : ℕ) (ps : List ℕ) → Distinct ps → is_member nat_eq ps p ≡ true → Distinct (to p) → kept tell p (flat_map asking_by ps) [] ≡ map tell (to p)
    kept_all p [] d m t = absurd (false≢true m)
    kept_all p (x ∷ ps) d m t =
        by_id (eqb p x) refl (λ n. kept_all p ps d.1 n t)
      where
        by_id : (b : Bool) → eqb p x ≡ b → (is_member nat_eq ps p ≡ true → kept tell p (flat_map asking_by ps) [] ≡ map tell (to p)) → kept tell p (flat_map asking_by (x ∷ ps)) [] ≡ map tell (to p)
        by_id true e ih =
            let same : p ≡ x = eqb-true p x e in
            kept-append p (asking_by x) (flat_map asking_by ps) []
            ∙ ap (λ (k : ℕ). kept tell p (flat_map asking_by ps) (kept tell p (asking_by k) [])) (sym same)
            ∙ ap (kept tell p (flat_map asking_by ps)) (kept_own conf (round p) p (to p) [] t tt)
            ∙ kept_none p ps (map tell (to p)) (ap (is_member nat_eq ps) same ∙ d.0)
        by_id false e ih =
            kept-append p (asking_by x) (flat_map asking_by ps) []
            ∙ ap (kept tell p (flat_map asking_by ps)) (kept_other conf (round x) p x (to x) [] e)
            ∙ ih (sym (ap (λ (b : Bool). b || is_member nat_eq ps p) e) ∙ m)

-- ---- how many
pub length-map : {A B : Type 0} (f : A → B) (xs : List A) → length (map f xs) ≡ length xs
length-map f [] = refl
length-map f (x ∷ xs) = ap suc (length-map f xs)

module _ (linked : ℕ → Bool) (p : ℕ) where
  count_without : (xs : List ℕ) → is_member nat_eq xs p ≡ false → filter linked (others p xs) ≡ filter (λ q. eqb q p || linked q) xs
  count_without [] n = refl
  count_without (x ∷ xs) n =
      let k = or_parts (eqb p x) (is_member nat_eq xs p) n in
      let e : eqb x p ≡ false = ne_eqb x p (λ s. eqb-false p x k.0 (sym s)) in
      let there : List ℕ = filter (λ q. eqb q p || linked q) xs in
      ap (λ (b : Bool). filter linked (cond (not b) (x ∷ others p xs) (others p xs))) e
      ∙ ap (λ (l : List ℕ). cond (linked x) (x ∷ l) l) (count_without xs k.1)
      ∙ ap (λ (b : Bool). cond (b || linked x) (x ∷ there) there) (sym e)

  -- a member and those that are linked to it
  pub count_with : (xs : List ℕ) → Distinct xs → is_member nat_eq xs p ≡ true → suc (length (filter linked (others p xs))) ≡ length (filter (λ q. eqb q p || linked q) xs)
  count_with [] d m = absurd (false≢true m)
  count_with (x ∷ xs) d m = by_id (eqb p x) refl (λ n. count_with xs d.1 n)
    where
      there : List ℕ
      there = filter (λ q. eqb q p || linked q) xs

      by_id : (b : Bool) → eqb p x ≡ b → (is_member nat_eq xs p ≡ true → suc (length (filter linked (others p xs))) ≡ length there) → suc (length (filter linked (others p (x ∷ xs)))) ≡ length (filter (λ q. eqb q p || linked q) (x ∷ xs))
      by_id true h ih =
          let same : p ≡ x = eqb-true p x h in
          let e : eqb x p ≡ true = eq-eqb x p (sym same) in
          ap (λ (b : Bool). suc (length (filter linked (cond (not b) (x ∷ others p xs) (others p xs))))) e
          ∙ ap (λ (l : List ℕ). suc (length l)) (count_without xs (ap (is_member nat_eq xs) same ∙ d.0))
          ∙ ap (λ (b : Bool). length (cond (b || linked x) (x ∷ there) there)) (sym e)
      by_id false h ih =
          let e : eqb x p ≡ false = ne_eqb x p (λ s. eqb-false p x h (sym s)) in
          let rest : suc (length (filter linked (others p xs))) ≡ length there = ih (sym (ap (λ (b : Bool). b || is_member nat_eq xs p) h) ∙ m) in
          ap (λ (b : Bool). suc (length (filter linked (cond (not b) (x ∷ others p xs) (others p xs))))) e
          ∙ by_test (linked x) (λ (b : Bool). suc (length (cond b (x ∷ filter linked (others p xs)) (filter linked (others p xs)))) ≡ length (cond b (x ∷ there) there)) (λ _. ap suc rest) (λ _. rest)
          ∙ ap (λ (b : Bool). length (cond (b || linked x) (x ∷ there) there)) (sym e)
