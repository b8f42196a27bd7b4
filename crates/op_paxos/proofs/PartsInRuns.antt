-- In every run, parts that were sent do what the whole message does.
use Rattle.std.proofs.Common.{◌≡◌, ℕ, ◌+◌, ◌-◌, ◌<◌, ◌≤◌, ◌⊎◌, inl, inr, ⊎_elim, List, [], ◌∷◌, ◌++◌, length, true, false, ◌&&◌, take, drop, refl, sym, ap, ◌∙◌, subst, arith, Some, ◌==◌, length-append}
use Rattle.std.specs.Prelude.{nat_lt, nat_le, slice_get}
use Rattle.std.proofs.lemmas.Bool.{cases_eq, cases_lt, cond_both, both_ways, and_parts, eq-eqb, eqb-true, lt-ltb, le-leb, leb-true, ltb-true, ltb-false}
use Rattle.std.proofs.lemmas.List.{take-take, length-take-le, take-append-drop}
use Rattle.op_types.specs.declared.log.Entry.{Entry}
use Rattle.op_types.specs.Limits.{most_part_bytes}
use Rattle.op_types.specs.Cutting.{entries_size, cut, parts_from}
use Rattle.op_spec.specs.Machine.{IsAmong}
use Rattle.op_paxos.specs.Nodes.{Node}
use Rattle.op_paxos.specs.Messages.{SyncRun, Msg, AcceptSync, Effect, packet}
use Rattle.op_paxos.specs.Parts.{is_run_to, sync_run, sync_messages}
use Rattle.op_paxos.specs.Follower.{appended, on_accept, synced_to, on_accept_sync, on_first_part, on_later_part, on_accept_sync_part}
use Rattle.op_paxos.specs.Worlds.{on_msg, Comes, step, World, stepped, run, start}
use Rattle.op_paxos.specs.InParts.{after_each, WereSent, ComesAsFar, SyncInParts}
use Rattle.op_paxos.specs.Agreement.{IsPrefix}
use Rattle.op_paxos.proofs.History.{History}
use Rattle.op_paxos.proofs.Updates.{upd_at}
use Rattle.op_types.proofs.Elements.{get_same}
use Rattle.op_types.proofs.Cuts.{joined, cut_joined, cut_full, cut_some, run_get}
use Rattle.op_paxos.proofs.SentParts.{stand_parts}
use Rattle.op_paxos.proofs.Overlaps.{length-overlap}
use Rattle.op_paxos.proofs.Invariant.{SyncOk}
use Rattle.op_paxos.proofs.OneStep.{Invariant, promises, accepts}
use Rattle.op_paxos.proofs.PlainSteps.{Here, VoteOk, vote_led}
use Rattle.op_paxos.proofs.FollowerSteps.{append_vote, sync_vote}
use Rattle.op_paxos.proofs.PartSteps.{slice_get_full}
use Rattle.op_paxos.proofs.Runs.{Later, same_later, later_later, here, acts, run_on, first, start_ok}
use Rattle.op_paxos.proofs.SyncInParts.{part_of, later_all, first_all}
use Rattle.op_spec.proofs.Safety.{IsAmong-append}

-- ---- messages that come one after the other are steps of a run
-- the world after them
pub record Delivered (ms : List ℕ) (w : World) (g : History) (p q : ℕ) (bs : List Msg) : Type 0 where
  pub world : World
  pub history : History
  pub inv : Invariant ms world history
  pub later : Later g history
  pub is : world.nodes q ≡ after_each ms q (w.nodes q) p bs

pub deliver_all : (ms : List ℕ) (p q : ℕ) (bs : List Msg) (w : World) (g : History) → Invariant ms w g → WereSent w p q bs → Delivered ms w g p q bs
deliver_all ms p q [] w g i sent = record { world = w; history = g; inv = i; later = same_later g; is = refl }
deliver_all ms p q (m ∷ bs) w g i sent =
    let o = step ms q (w.nodes q) (Comes p m) in
    let a = acts ms w g i q (Comes p m) (sent m (inl refl)) in
    let b = deliver_all ms p q bs (stepped w q o) a.0 a.1 (λ k j. IsAmong-append w.packets o.sends (packet p q k) (sent k (inr j))) in
    record { world = b.world; history = b.history; inv = b.inv; later = later_later g a.0 b.history a.2 b.later; is = b.is ∙ ap (λ (n : Node). after_each ms q n p bs) (upd_at w.nodes q o.node) }

-- ---- rounds and lengths
-- the parts leave the round, and no shorter a log
record AsFar (whole parts : Node) : Type 0 where
  promised : parts.promised ≡ whole.promised
  round : parts.accepted ≡ whole.accepted
  decided : parts.decided ≡ whole.decided
  long : length whole.log ≤ length parts.log

module _ (ms : List ℕ) (p q n x : ℕ) (es : List Entry) where
  abbrev the_parts : List Msg
  the_parts = parts_from (part_of ms p q n x es) x (cut es)

  -- parts that do nothing
  nothing_all : (nd : Node) → ((at : ℕ) (r : List Entry) → (on_accept_sync_part p nd q n (sync_run x es at r)).node ≡ nd) → (runs : List (List Entry)) (at : ℕ) → after_each ms p nd q (parts_from (part_of ms p q n x es) at runs) ≡ nd
  unfolding step on_msg
  nothing_all nd f [] at = refl
  nothing_all nd f (r ∷ runs) at = ap (λ (m : Node). after_each ms p m q (parts_from (part_of ms p q n x es) (at + length r) runs)) (f at r) ∙ nothing_all nd f runs (at + length r)

  -- it takes an AcceptSync of its ballot anew
  abbrev Takes : Node → Type 0
  Takes nd = (nd.promised ≡ n) × (nd.accepted < n) × (nd.decided ≤ x) × (x ≤ length nd.log)

  -- or it has taken one
  abbrev Follows : Node → Type 0
  Follows nd = (nd.promised ≡ n) × (nd.accepted ≡ n)

  part_nothing : (nd : Node) (part : SyncRun) → part.start ≡ x → (Takes nd → ⊥) → (Follows nd → ⊥) → (on_accept_sync_part p nd q n part).node ≡ nd
  unfolding on_accept_sync_part on_first_part on_later_part
  part_nothing nd part s f g =
      cond_both ((nd.promised == n) && nat_lt nd.accepted n) _ _ (λ (o : Effect). o.node ≡ nd)
      (λ e. let t = and_parts (nd.promised == n) (nat_lt nd.accepted n) e in
      cond_both ((nat_le nd.decided part.start && nat_le part.start (length nd.log)) && (nat_le part.start part.at && is_run_to part.end part.at part.run)) _ _ (λ (o : Effect). o.node ≡ nd)
      (λ c. let u = and_parts (nat_le nd.decided part.start) (nat_le part.start (length nd.log)) (and_parts (nat_le nd.decided part.start && nat_le part.start (length nd.log)) _ c).0 in
      absurd (f (eqb-true nd.promised n t.0, ltb-true nd.accepted n t.1, omega (arith, s, leb-true nd.decided part.start u.0), omega (arith, s, leb-true part.start (length nd.log) u.1))))
      (λ c. refl))
      (λ e. cond_both ((nd.promised == n) && ((nd.accepted == n) && is_run_to part.end part.at part.run)) _ _ (λ (o : Effect). o.node ≡ nd)
      (λ c. let t = and_parts (nd.promised == n) _ c in absurd (g (eqb-true nd.promised n t.0, eqb-true nd.accepted n (and_parts (nd.accepted == n) _ t.1).0)))
      (λ c. refl))

  whole_nothing : (nd : Node) → (Takes nd → ⊥) → (Follows nd → x ≤ length nd.log → ⊥) → (on_accept_sync p nd q n x es).node ≡ nd
  unfolding on_accept_sync on_accept appended synced_to
  whole_nothing nd f g =
      cond_both ((nd.promised == n) && nat_lt nd.accepted n) _ _ (λ (o : Effect). o.node ≡ nd)
      (λ e. let t = and_parts (nd.promised == n) (nat_lt nd.accepted n) e in
      cond_both (nat_le nd.decided x && nat_le x (length nd.log)) _ _ (λ (o : Effect). o.node ≡ nd)
      (λ c. let u = and_parts (nat_le nd.decided x) (nat_le x (length nd.log)) c in absurd (f (eqb-true nd.promised n t.0, ltb-true nd.accepted n t.1, leb-true nd.decided x u.0, leb-true x (length nd.log) u.1)))
      (λ c. refl))
      (λ e. cond_both ((nd.promised == n) && (nd.accepted == n)) _ _ (λ (o : Effect). o.node ≡ nd)
      (λ c. let t = and_parts (nd.promised == n) (nd.accepted == n) c in
      cond_both (nat_lt (length nd.log) x) _ _ (λ (o : Effect). o.node ≡ nd) (λ d. refl) (λ d. absurd (g (eqb-true nd.promised n t.0, eqb-true nd.accepted n t.1) (ltb-false (length nd.log) x d))))
      (λ c. refl))

  -- what the whole leaves, where it does something
  record Does (nd after : Node) (most : ℕ) : Type 0 where
    promised : after.promised ≡ nd.promised
    accepted : after.accepted ≡ n
    decided : after.decided ≡ nd.decided
    long : length after.log ≤ most

  whole_takes : (nd : Node) → Takes nd → Does nd (on_accept_sync p nd q n x es).node (x + length es)
  unfolding on_accept_sync synced_to
  whole_takes nd t =
      let yes : ((nd.promised == n) && nat_lt nd.accepted n) ≡ true = ap (λ b. b && nat_lt nd.accepted n) (eq-eqb nd.promised n t.0) ∙ lt-ltb nd.accepted n t.1 in
      let right : (nat_le nd.decided x && nat_le x (length nd.log)) ≡ true = ap (λ b. b && nat_le x (length nd.log)) (le-leb nd.decided x t.2) ∙ le-leb x (length nd.log) t.3 in
      cond_both ((nd.promised == n) && nat_lt nd.accepted n) _ _ (λ (o : Effect). Does nd o.node (x + length es))
      (λ c. cond_both (nat_le nd.decided x && nat_le x (length nd.log)) _ _ (λ (o : Effect). Does nd o.node (x + length es))
      (λ d. record { promised = refl; accepted = refl; decided = refl; long = omega (arith, length-append (take x nd.log) es, length-take-le x nd.log t.3) })
      (λ d. absurd (both_ways (nat_le nd.decided x && nat_le x (length nd.log)) d right)))
      (λ c. absurd (both_ways ((nd.promised == n) && nat_lt nd.accepted n) c yes))

  whole_follows : (nd : Node) → Follows nd → x ≤ length nd.log → (most : ℕ) → length nd.log ≤ most → x + length es ≤ most → Does nd (on_accept_sync p nd q n x es).node most
  unfolding on_accept_sync on_accept appended
  whole_follows nd t le most a b =
      let yes : ((nd.promised == n) && (nd.accepted == n)) ≡ true = ap (λ b. b && (nd.accepted == n)) (eq-eqb nd.promised n t.0) ∙ eq-eqb nd.accepted n t.1 in
      let lo = length-overlap nd.log es x le in
      cond_both ((nd.promised == n) && nat_lt nd.accepted n) _ _ (λ (o : Effect). Does nd o.node most)
      (λ c. absurd (omega (arith, t.1, ltb-true nd.accepted n (and_parts (nd.promised == n) (nat_lt nd.accepted n) c).1)))
      (λ c. cond_both ((nd.promised == n) && (nd.accepted == n)) _ _ (λ (o : Effect). Does nd o.node most)
      (λ d. cond_both (nat_lt (length nd.log) x) _ _ (λ (o : Effect). Does nd o.node most)
      (λ f. absurd (omega (arith, le, ltb-true (length nd.log) x f)))
      (λ f. record { promised = refl; accepted = t.1; decided = refl; long = ⊎_elim (λ (s : length (nd.log ++ drop (length nd.log - x) es) ≤ length nd.log). omega (arith, s, a)) (λ (s : length (nd.log ++ drop (length nd.log - x) es) ≡ x + length es). omega (arith, s, b)) lo.1 }))
      (λ d. absurd (both_ways ((nd.promised == n) && (nd.accepted == n)) d yes)))

  -- ---- both compared
  abbrev whole_after : Node → Node
  whole_after nd = (on_accept_sync p nd q n x es).node

  abbrev Far : Node → Type 0
  Far nd = AsFar (whole_after nd) (after_each ms p nd q the_parts)

  all : length (joined (cut es)) ≡ length es
  all = ap (λ (l : List Entry). length l) (cut_joined es)

  does_nothing : (nd : Node) → (Takes nd → ⊥) → (Follows nd → ⊥) → Far nd
  does_nothing nd f g =
      let a = whole_nothing nd f (λ h le. g h) in
      let b = nothing_all nd (λ at r. part_nothing nd (sync_run x es at r) refl f g) (cut es) x in
      let c = b ∙ sym a in
      record { promised = ap (λ (m : Node). m.promised) c; round = ap (λ (m : Node). m.accepted) c; decided = ap (λ (m : Node). m.decided) c; long = omega (arith, ap (λ (m : Node). length m.log) c) }

  does_take : (nd : Node) → 0 < length (cut es) → Takes nd → Far nd
  does_take nd some_ t =
      let a = whole_takes nd t in
      let b = first_all ms p q n x es (cut es) nd x some_ t.0 t.1 t.2 t.3 (omega arith) (cut_full es) (omega (arith, all)) (λ i l u. absurd (omega (arith, l, u))) in
      record { promised = b.promised ∙ sym a.promised; round = b.accepted ∙ sym a.accepted; decided = b.decided ∙ sym a.decided; long = omega (arith, a.long, b.long) }

  does_follow : (nd : Node) → Follows nd → Far nd
  does_follow nd t =
      let b = later_all ms p q n x es (cut es) nd x t.0 t.1 (cut_full es) (omega (arith, all)) in
      let k = after_each ms p nd q the_parts in
      ⊎_elim
      (λ (le : x ≤ length nd.log). let a = whole_follows nd t le (length k.log) ((b.0).long) (omega (arith, all, b.1 le)) in record { promised = (b.0).promised ∙ sym a.promised; round = (b.0).accepted ∙ sym a.accepted; decided = (b.0).decided ∙ sym a.decided; long = a.long })
      (λ (lt : length nd.log < x).
      let a = whole_nothing nd (λ h. omega (arith, h.1, t.1)) (λ h le. omega (arith, le, lt)) in
      record { promised = (b.0).promised ∙ sym (ap (λ (m : Node). m.promised) a); round = (b.0).accepted ∙ sym (ap (λ (m : Node). m.accepted) a ∙ t.1); decided = (b.0).decided ∙ sym (ap (λ (m : Node). m.decided) a); long = omega (arith, ap (λ (m : Node). length m.log) a, (b.0).long) })
      (⊎_elim (λ (l : length nd.log < x). inr l) (λ (l : x ≤ length nd.log). inl l) (cases_lt (length nd.log) x))

  parts_far : (nd : Node) → nd.accepted ≤ nd.promised → 0 < length (cut es) → Far nd
  parts_far nd within some_ =
      ⊎_elim
      (λ (e : nd.promised ≡ n).
      ⊎_elim
      (λ (lt : nd.accepted < n).
      ⊎_elim
      (λ (l : nd.decided ≤ x). ⊎_elim (λ (m : x ≤ length nd.log). does_take nd some_ (e, lt, l, m)) (λ (m : length nd.log < x). does_nothing nd (λ h. omega (arith, h.3, m)) (λ h. omega (arith, h.1, lt))) (either x (length nd.log)))
      (λ (l : x < nd.decided). does_nothing nd (λ h. omega (arith, h.2, l)) (λ h. omega (arith, h.1, lt)))
      (either nd.decided x))
      (λ (le : n ≤ nd.accepted). does_follow nd (e, omega (arith, e, le, within)))
      (cases_lt nd.accepted n))
      (λ (d : nd.promised ≡ n → ⊥). does_nothing nd (λ h. d h.0) (λ h. d h.0))
      (cases_eq nd.promised n)
    where
      either : (a b : ℕ) → (a ≤ b) ⊎ (b < a)
      either a b = ⊎_elim (λ (l : b < a). inr l) (λ (l : a ≤ b). inl l) (cases_lt b a)

  -- whatever brings it
  far : (nd : Node) → nd.accepted ≤ nd.promised → AsFar (whole_after nd) (after_each ms p nd q (sync_messages n x es))
  unfolding step on_msg
  far nd within =
      cond_both (nat_le (entries_size es) most_part_bytes) (AcceptSync n x es ∷ []) the_parts (λ (l : List Msg). AsFar (whole_after nd) (after_each ms p nd q l))
      (λ c. record { promised = refl; round = refl; decided = refl; long = omega arith })
      (λ c. parts_far nd within (cut_some es c))

-- ---- the log
-- the log is a front of its round's
record Front (g : History) (nd : Node) : Type 0 where
  led : 0 < g.mark nd.accepted
  within : length nd.log ≤ length (g.full nd.accepted)
  log_is : nd.log ≡ take (length nd.log) (g.full nd.accepted)

module _ (ms : List ℕ) (pr ac : ℕ → ℕ) (g : History) (q : ℕ) (nd : Node) (w : Here ms pr ac g q nd) where
  front_here : Front g nd
  front_here = let v = vote_led ms pr ac g q nd w in record { led = v.0; within = v.2; log_is = (w.ok).log_is }

  front_vote : (after : Node) → VoteOk ms pr ac g q nd after → Front g after
  front_vote after v = record {
    led = omega (arith, v.led, ap g.mark v.accepted);
    within = omega (arith, v.fits, ap (λ m. length (g.full m)) v.accepted);
    log_is = v.log_is ∙ ap (λ m. take (length after.log) (g.full m)) (sym v.accepted);
  }

  front_append : (p n x : ℕ) (es : List Entry) → SyncOk ms pr ac g q n x es → Front g (on_accept q nd p n x es).node
  unfolding on_accept appended
  front_append p n x es o =
      cond_both ((nd.promised == n) && (nd.accepted == n)) _ _ (λ (y : Effect). Front g y.node)
      (λ e. let t = and_parts (nd.promised == n) (nd.accepted == n) e in let y = eqb-true nd.promised n t.0 in let z = eqb-true nd.accepted n t.1 in
      cond_both (nat_lt (length nd.log) x) _ _ (λ (y : Effect). Front g y.node) (λ d. front_here)
      (λ d. front_vote (record nd { log = nd.log ++ drop (length nd.log - x) es }) (append_vote ms pr ac g q nd w x es (z ∙ sym y) (ltb-false (length nd.log) x d) (subst (λ m. SyncOk ms pr ac g q m x es) (sym y) o).slice)))
      (λ e. front_here)

  -- so is the one that the whole leaves
  front_whole : (p n x : ℕ) (es : List Entry) → SyncOk ms pr ac g q n x es → Front g (on_accept_sync q nd p n x es).node
  unfolding on_accept_sync synced_to
  front_whole p n x es o =
      cond_both ((nd.promised == n) && nat_lt nd.accepted n) _ _ (λ (y : Effect). Front g y.node)
      (λ e. let t = and_parts (nd.promised == n) (nat_lt nd.accepted n) e in let y = eqb-true nd.promised n t.0 in
      cond_both (nat_le nd.decided x && nat_le x (length nd.log)) _ _ (λ (y : Effect). Front g y.node)
      (λ c. let u = and_parts (nat_le nd.decided x) (nat_le x (length nd.log)) c in
      subst (λ m. Front g (record nd { accepted = m; log = take x nd.log ++ es })) y
      (front_vote (record nd { accepted = nd.promised; log = take x nd.log ++ es }) (sync_vote ms pr ac g q nd w x es (omega (arith, ltb-true nd.accepted n t.1, y)) (leb-true nd.decided x u.0) (leb-true x (length nd.log) u.1) (subst (λ m. SyncOk ms pr ac g q m x es) (sym y) o))))
      (λ c. front_here))
      (λ e. front_append p n x es o)

-- ---- in a world
module _ (ms : List ℕ) (w : World) (g : History) (i : Invariant ms w g) (p q n x : ℕ) (es : List Entry) where
  -- what was sent is right together
  abbrev Right : Type 0
  Right = SyncOk ms (promises w) (accepts w) g q n x es

  parts_right : nat_le (entries_size es) most_part_bytes ≡ false → WereSent w p q (parts_from (part_of ms q p n x es) x (cut es)) → Right
  parts_right long sent = by (cut es) (cut_joined es) (cut_some es long) sent
    where
      by : (runs : List (List Entry)) → joined runs ≡ es → 0 < length runs → WereSent w p q (parts_from (part_of ms q p n x es) x runs) → Right
      by [] e some_ h = absurd (omega (arith, some_))
      by (r ∷ rs) e some_ h =
          let o = i.packets (packet p q (part_of ms q p n x es x r)) (h (part_of ms q p n x es x r) (inl refl)) in
          let full : (j : ℕ) (d : Entry) → slice_get es j ≡ Some d → slice_get (g.full n) (x + j) ≡ Some d = λ j d k. stand_parts (part_of ms q p n x es) (g.full n) x (r ∷ rs) (λ at run c. stands at run (h (part_of ms q p n x es at run) c)) j d (ap (λ (l : List Entry). slice_get l j) e ∙ k) in
          subst (λ (l : List Entry). SyncOk ms (promises w) (accepts w) g q n x l) (get_same (g.full n) o.rest es x (omega (arith, o.end)) (slice_get_full g n x o.rest (o.whole).slice) full) o.whole
        where
          stands : (at : ℕ) (run : List Entry) → IsAmong w.packets (packet p q (part_of ms q p n x es at run)) → (j : ℕ) (d : Entry) → slice_get run j ≡ Some d → slice_get (g.full n) (at + j) ≡ Some d
          stands at run c j d k =
              let o = i.packets (packet p q (part_of ms q p n x es at run)) c in
              let z : x + (o.place + j) ≡ at + j = omega (arith, o.at) in
              subst (λ m. slice_get (g.full n) m ≡ Some d) z (slice_get_full g n x o.rest (o.whole).slice (o.place + j) d (run_get o.rest o.place run o.run j d k))

  right : WereSent w p q (sync_messages n x es) → Right
  right =
      cond_both (nat_le (entries_size es) most_part_bytes) (AcceptSync n x es ∷ []) (parts_from (part_of ms q p n x es) x (cut es)) (λ (l : List Msg). WereSent w p q l → Right)
      (λ c sent. i.packets (packet p q (AcceptSync n x es)) (sent (AcceptSync n x es) (inl refl)))
      (λ c sent. parts_right c sent)

  pub comes_as_far : WereSent w p q (sync_messages n x es) → ComesAsFar (step ms q (w.nodes q) (Comes p (AcceptSync n x es))).node (after_each ms q (w.nodes q) p (sync_messages n x es))
  unfolding step on_msg
  comes_as_far sent =
      let f = front_whole ms (promises w) (accepts w) g q (w.nodes q) (here ms w g i q) p n x es (right sent) in
      let a = far ms q p n x es (w.nodes q) (i.nodes q).within in
      let d = deliver_all ms p q (sync_messages n x es) w g i sent in
      record { promised = a.promised; round = a.round; log = prefix_of f a d; decided = a.decided }
    where
      prefix_of : Front g (on_accept_sync q (w.nodes q) p n x es).node → AsFar (on_accept_sync q (w.nodes q) p n x es).node (after_each ms q (w.nodes q) p (sync_messages n x es)) → Delivered ms w g p q (sync_messages n x es) → IsPrefix (on_accept_sync q (w.nodes q) p n x es).node.log (after_each ms q (w.nodes q) p (sync_messages n x es)).log
      prefix_of f a d =
          let whole = (on_accept_sync q (w.nodes q) p n x es).node in
          let parts = after_each ms q (w.nodes q) p (sync_messages n x es) in
          let k = length whole.log in
          let o = ((d.inv).nodes q).log_is in
          let log_is : parts.log ≡ take (length parts.log) ((d.history).full whole.accepted) = subst (λ (m : Node). m.log ≡ take (length m.log) ((d.history).full m.accepted)) d.is o ∙ ap (λ m. take (length parts.log) ((d.history).full m)) a.round in
          let same : whole.log ≡ take k parts.log = f.log_is ∙ sym ((d.later).prefix whole.accepted k f.led f.within) ∙ sym (take-take k (length parts.log) ((d.history).full whole.accepted) a.long) ∙ ap (take k) (sym log_is) in
          (drop k parts.log, ap (λ l. l ++ drop k parts.log) same ∙ take-append-drop k parts.log)

-- the clause sync
pub sync_in_parts : SyncInParts
sync_in_parts ms events p q n x es sent =
    let a = run_on ms events start first (start_ok ms) in
    comes_as_far ms (run ms events start) a.0 a.1 p q n x es sent
