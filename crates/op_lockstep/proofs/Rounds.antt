-- A whole lockstep round of some members, who are linked to no others: what they know after it, from what they knew before.
use Rattle.std.proofs.Common.{◌≡◌, ℕ, suc, ◌+◌, true, nat_eq, List, [], ◌∷◌, ◌++◌, length, map, filter, flat_map, drop, refl, sym, ap, ◌∙◌, subst, arith, append-nil, drop_at}
use Rattle.std.proofs.lemmas.Bool.{and_parts}
use Rattle.std.specs.Set.{is_member}
use Rattle.op_quorum.specs.Quorums.{is_majority}
use Rattle.op_types.specs.declared.durable.Part.{Part}
use Rattle.op_runs.specs.declared.events.Event.{Event}
use Rattle.op_types.specs.declared.messages.Heard.{Heard}
use Rattle.op_protocol.specs.State.{Volatile}
use Rattle.op_protocol.specs.Election.{hears_majority}
use Rattle.op_protocol.specs.Heartbeats.{is_other}
use Rattle.op_protocol.specs.Parts.{others}
use Rattle.op_protocol.specs.Tick.{candidate_of, on_tick}
use Rattle.op_runs.specs.World.{World, Sent, node_at, world_after, done_event}
use Rattle.op_gen.specs.Links.{Links, is_linked}
use Rattle.op_lockstep.specs.Lockstep.{hears_majority_over, after_events, ticks, numbers_of, is_request, is_linked_request, is_reply, ticked, asking, asked, answering, after_round}
use Rattle.op_lockstep.proofs.Lists.{Each, Each-map, Each-more, Each-filter, Each-flat_map, Distinct, Distinct-filter, filter-flat_map}
use Rattle.op_lockstep.proofs.Ends.{tick_heard}
use Rattle.op_lockstep.proofs.Changes.{keeps_members, tick_asks}
use Rattle.op_lockstep.proofs.Seats.{Sits, AllSit}
use Rattle.op_lockstep.proofs.Ticking.{Unstopped, tick_part, tick_volatile, tick_sent, unstopped_still, ticks_run}
use Rattle.op_lockstep.proofs.Counting.{each_other, linked_sent, sent_requests, told, kept, asking_by, kept_all, length-map, count_with}
use Rattle.op_lockstep.proofs.Delivering.{delivered, IsRequest, reply_to, Asked, asked_run, IsBetween, hearing, heard_run}

-- events after events
pub after_append : (w : World) (xs ys : List Event) → after_events w (xs ++ ys) ≡ after_events (after_events w xs) ys
after_append w [] ys = refl
after_append w (x ∷ xs) ys = after_append (world_after w (done_event x)) xs ys

-- members, each once, and linked to no other member
pub record KeepTogether (members : List ℕ) (links : Links) (group : List ℕ) : Type 0 where
  pub once : Distinct group
  pub all_once : Distinct members
  pub are_members : (q : ℕ) → is_member nat_eq group q ≡ true → is_member nat_eq members q ≡ true
  pub apart : (p q : ℕ) → is_member nat_eq group p ≡ true → is_other p members q ≡ true → is_linked links p q ≡ true → is_member nat_eq group q ≡ true

-- all members do
pub all_together : (members : List ℕ) → Distinct members → (links : Links) → KeepTogether members links members
all_together members distinct links = record { once = distinct; all_once = distinct; are_members = λ q m. m; apart = λ p q m o l. (and_parts _ _ o).1 }

module _ (conf : ℕ) (members : List ℕ) (links : Links) (group : List ℕ) (together : KeepTogether members links group) where
  -- parts of this configuration
  pub record AreParts (a : ℕ → Part) : Type 0 where
    pub conf_is : (p : ℕ) → is_member nat_eq group p ≡ true → (a p).conf ≡ conf
    pub members_are : (p : ℕ) → is_member nat_eq group p ≡ true → (a p).members ≡ members
    pub unstopped : (p : ℕ) → is_member nat_eq group p ≡ true → Unstopped p (a p)

  pub parts_stay : (a : ℕ → Part) (v : ℕ → Volatile) → AreParts a → AreParts (tick_part a v)
  parts_stay a v k =
      record {
        conf_is = λ p m. (keeps_members (a p) (on_tick p (a p) (v p)).batch).conf ∙ k.conf_is p m;
        members_are = λ p m. (keeps_members (a p) (on_tick p (a p) (v p)).batch).members ∙ k.members_are p m;
        unstopped = λ p m. unstopped_still a v p (k.unstopped p m);
      }

  -- those that a member hears
  abbrev pub linked_to : ℕ → List ℕ
  linked_to p = filter (is_linked links p) (others p members)

  -- what it knows after a round
  abbrev pub round_volatile : (ℕ → Part) → (ℕ → Volatile) → ℕ → Volatile
  round_volatile a v p = record (tick_volatile a v p) { heard = map (told (tick_volatile a v)) (linked_to p) }

  linked_distinct : (p : ℕ) → Distinct (linked_to p)
  linked_distinct p = Distinct-filter (is_linked links p) (others p members) (Distinct-filter _ members (together).all_once)

  pub linked_others : (p : ℕ) → Each (λ q. is_other p members q ≡ true) (linked_to p)
  linked_others p =
      Each-more (λ q. (is_other p members q ≡ true) × (is_linked links p q ≡ true)) (λ q. is_other p members q ≡ true) (λ q h. h.0) (linked_to p)
      (Each-filter (λ q. is_other p members q ≡ true) (is_linked links p) (others p members) (each_other p members))

  module _ (a : ℕ → Part) (v : ℕ → Volatile) (parts : AreParts a) where
    abbrev later : ℕ → Volatile
    later = tick_volatile a v

    abbrev stored : ℕ → Part
    stored = tick_part a v

    -- the requests that are delivered
    abbrev requests_over : List Sent
    requests_over = flat_map (asking_by (told later) (λ q. refl) conf (λ p. (later p).round) linked_to) group

    stored_parts : AreParts stored
    stored_parts = parts_stay a v parts

    requests_are : filter (is_linked_request links) (flat_map (tick_sent a v) group) ≡ requests_over
    requests_are =
        filter-flat_map (is_linked_request links) (tick_sent a v) (asking_by (told later) (λ q. refl) conf (λ p. (later p).round) linked_to) group
        (λ p m. linked_sent links p (a p) (later p).round (on_tick p (a p) (v p)).sends (tick_asks p (a p) (v p))
        ∙ ap (λ (c : ℕ). map (Rattle.op_lockstep.proofs.Counting.request c (later p).round p) (filter (is_linked links p) (others p (a p).members))) (parts.conf_is p m)
        ∙ ap (λ (l : List ℕ). map (Rattle.op_lockstep.proofs.Counting.request conf (later p).round p) (filter (is_linked links p) (others p l))) (parts.members_are p m))

    abbrev IsAsked : Sent → Type 0
    IsAsked m = IsRequest conf group stored later (stored_parts).conf_is m

    all_requests : Each (λ m. is_linked_request links m ≡ true → IsAsked m) (flat_map (tick_sent a v) group)
    all_requests =
        Each-flat_map _ (tick_sent a v) group
        (λ p m. Each-more (λ x. is_linked_request links x ≡ true → is_linked links x.from x.to ≡ true → IsAsked x) (λ x. is_linked_request links x ≡ true → IsAsked x)
        (λ x h l. h l (and_parts (is_request x.message.body) (is_linked links x.from x.to) l).1) (tick_sent a v p)
        (sent_requests (λ x. is_linked links x.from x.to ≡ true → IsAsked x) links p (a p) (later p).round (on_tick p (a p) (v p)).sends (tick_asks p (a p) (v p))
        (λ q h l. record { conf_is = parts.conf_is p m; to = (together).apart p q m (sym (ap (λ (ms : List ℕ). is_other p ms q) (parts.members_are p m)) ∙ h) l; body_is = refl })))

    all_between : Each (IsBetween conf group stored later (stored_parts).conf_is members (stored_parts).members_are) requests_over
    all_between =
        Each-flat_map (IsBetween conf group stored later (stored_parts).conf_is members (stored_parts).members_are) (asking_by (told later) (λ q. refl) conf (λ p. (later p).round) linked_to) group
        (λ p m. Each-map (IsBetween conf group stored later (stored_parts).conf_is members (stored_parts).members_are) (λ q. is_other p members q ≡ true) (Rattle.op_lockstep.proofs.Counting.request conf (later p).round p) (λ q h. record { from = m; other = h }) (linked_to p) (linked_others p))

    -- what each keeps then
    keeps_replies : (p : ℕ) → is_member nat_eq group p ≡ true → kept (told later) p requests_over (later p).heard ≡ map (told later) (linked_to p)
    keeps_replies p m =
        ap (kept (told later) p requests_over) (tick_heard p (a p) (v p)) ∙ kept_all (told later) (λ q. refl) conf (λ p. (later p).round) linked_to p group (together).once m (linked_distinct p)

    asked_all : (w : World) → AllSit w a v group → Asked conf group stored later (stored_parts).conf_is (ticked group w) (asked group links w) requests_over
    asked_all w sit =
        let t = ticks_run a v group (together).once w parts.unstopped sit in
        let u : World = ticked group w in
        let n : ℕ = length w.messages in
        let ms : List Sent = flat_map (tick_sent a v) group in
        let is_drop : drop n u.messages ≡ ms = ap (drop n) t.messages ∙ drop_at w.messages ms n refl in
        subst (Asked conf group stored later (stored_parts).conf_is u (asked group links w)) requests_are
        (subst (λ (l : List Sent). Asked conf group stored later (stored_parts).conf_is u (after_events u (delivered (numbers_of (is_linked_request links) n l))) (filter (is_linked_request links) ms)) (sym is_drop)
        (asked_run conf group stored later (stored_parts).conf_is (is_linked_request links) ms w.messages [] n refl u t.sit (t.messages ∙ ap (λ (l : List Sent). w.messages ++ l) (sym (append-nil ms))) all_requests))

    -- after the round each knows what it knew after its tick, and what those told that are linked to it
    pub round_run : (w : World) → AllSit w a v group → AllSit (after_round group links w) stored (round_volatile a v) group
    round_run w sit p m =
        let x = asked_all w sit in
        let u : World = ticked group w in
        let z : World = asked group links w in
        let n : ℕ = length u.messages in
        let rs : List Sent = map (reply_to conf group stored later (stored_parts).conf_is) requests_over in
        let is_drop : drop n z.messages ≡ rs = ap (drop n) x.messages ∙ drop_at u.messages rs n refl in
        let y : Sits (node_at (after_events z (delivered (numbers_of (λ m. is_reply m.message.body) n rs))).nodes p) p (stored p) (hearing conf group stored later (stored_parts).conf_is (later p) (kept (told later) p requests_over (later p).heard)) =
        heard_run conf group stored later (stored_parts).conf_is members (stored_parts).members_are requests_over u.messages [] n refl z (λ q. (later q).heard) x.sit (x.messages ∙ ap (λ (l : List Sent). u.messages ++ l) (sym (append-nil rs))) all_between p m in
        let world_is : after_events z (delivered (numbers_of (λ m. is_reply m.message.body) n rs)) ≡ after_round group links w =
        ap (λ (l : List Sent). after_events z (delivered (numbers_of (λ m. is_reply m.message.body) n l))) (sym is_drop)
        ∙ ap (λ (t : World). after_events t (answering group links w)) (sym (after_append w (ticks group) (asking group links w)))
        ∙ sym (after_append w (ticks group ++ asking group links w) (answering group links w)) in
        subst (λ (t : World). Sits (node_at t.nodes p) p (stored p) (round_volatile a v p)) world_is
        (subst (λ (hs : List Heard). Sits (node_at (after_events z (delivered (numbers_of (λ m. is_reply m.message.body) n rs))).nodes p) p (stored p) (record (later p) { heard = hs })) (keeps_replies p m) y)

    one_more : (n : ℕ) → 1 + n ≡ suc n
    one_more n = omega arith

    -- and it hears a majority exactly where its links say so
    pub hears_over : (p : ℕ) → is_member nat_eq group p ≡ true → hears_majority (candidate_of p (stored p) (round_volatile a v p)) (round_volatile a v p).heard ≡ hears_majority_over members links p
    hears_over p m =
        ap (λ (l : List ℕ). is_majority (1 + length (map (told later) (linked_to p))) (length l)) ((stored_parts).members_are p m)
        ∙ ap (λ (k : ℕ). is_majority (1 + k) (length members)) (length-map (told later) (linked_to p))
        ∙ ap (λ (k : ℕ). is_majority k (length members)) (one_more (length (linked_to p)) ∙ count_with (is_linked links p) p members (together).all_once ((together).are_members p m))
