-- In every run, the parts of a promise that were sent leave what the whole promise leaves.
use Rattle.std.proofs.Common.{◌≡◌, ℕ, ◌+◌, ◌<◌, inl, ⊎_elim, List, [], ◌∷◌, length, ◌&&◌, refl, sym, ap, ◌∙◌, subst, arith, Some, ◌==◌}
use Rattle.std.specs.Prelude.{nat_le, slice_get}
use Rattle.std.proofs.lemmas.Bool.{cases_eq, cond_both, and_parts, eqb-true}
use Rattle.op_types.specs.declared.log.Entry.{Entry}
use Rattle.op_types.specs.Limits.{most_part_bytes}
use Rattle.op_types.specs.Cutting.{entries_size, cut, parts_from}
use Rattle.op_spec.specs.Machine.{IsAmong}
use Rattle.op_paxos.specs.Nodes.{Promised, PreparingState, LeadingState, Role, Idle, Preparing, Leading, Node}
use Rattle.op_paxos.specs.Messages.{Msg, Promise, Effect, packet}
use Rattle.op_paxos.specs.Parts.{promised_run, promise_messages, told_by, is_run_to}
use Rattle.op_paxos.specs.Leader.{is_usable, on_promise_in, on_promise_part_in}
use Rattle.op_paxos.specs.Worlds.{on_msg, Comes, step, World, run, start}
use Rattle.op_paxos.specs.InParts.{after_each, WereSent, IsLeftAlike, PromiseInParts}
use Rattle.op_paxos.proofs.History.{History}
use Rattle.op_types.proofs.Cuts.{cut_joined, cut_full, cut_some, run_get}
use Rattle.op_paxos.proofs.SentParts.{stand_parts}
use Rattle.op_paxos.proofs.Invariant.{PromOk, PrepOk}
use Rattle.op_paxos.proofs.OneStep.{Invariant, promises, accepts}
use Rattle.op_paxos.proofs.PartSteps.{told_get_full, one_round}
use Rattle.op_types.proofs.Stages.{StandsIn}
use Rattle.op_paxos.proofs.Runs.{run_on, first, start_ok}
use Rattle.op_paxos.proofs.Roles.{prep_is}
use Rattle.op_paxos.proofs.PromiseInParts.{part_of, left_self, left_same, nothing_all, led_all, prepares_alike}

module _ (ms : List ℕ) (w : World) (g : History) (i : Invariant ms w g) (q p n : ℕ) (told : Promised) (size : told.start + length told.rest ≡ told.size) where
  abbrev node : Node
  node = w.nodes p

  abbrev part : ℕ → List Entry → Msg
  part = part_of ms p q n told

  abbrev the_parts : List Msg
  the_parts = parts_from part told.start (cut told.rest)

  -- what the whole leaves
  abbrev whole : Node
  whole = (on_promise_in ms p node node.role q n told).node

  abbrev Alike : Node → Type 0
  Alike after = IsLeftAlike whole after

  -- one of the parts tells a promise of that round
  record OfRound : Type 0 where
    rest : List Entry
    ok : PromOk ms (promises w) (accepts w) g q p n (told_by (promised_run told 0 []) rest)

  part_stands : (at : ℕ) (r : List Entry) → IsAmong w.packets (packet q p (part at r)) → (j : ℕ) (e : Entry) → slice_get r j ≡ Some e → slice_get (g.full told.round) (at + j) ≡ Some e
  part_stands at r c j e k =
      let o = i.packets (packet q p (part at r)) c in
      let z : told.start + (o.place + j) ≡ at + j = omega (arith, o.at) in
      subst (λ m. slice_get (g.full told.round) m ≡ Some e) z (told_get_full ms (promises w) (accepts w) g q p n (told_by (promised_run told at r) o.rest) o.whole (o.place + j) e (run_get o.rest o.place r o.run j e k))

  -- what was told stands in its round's log
  all_stand : WereSent w q p the_parts → (j : ℕ) (e : Entry) → slice_get told.rest j ≡ Some e → slice_get (g.full told.round) (told.start + j) ≡ Some e
  all_stand sent j e k = stand_parts part (g.full told.round) told.start (cut told.rest) (λ at r c. part_stands at r (sent (part at r) c)) j e (ap (λ (l : List Entry). slice_get l j) (cut_joined told.rest) ∙ k)

  of_round : 0 < length (cut told.rest) → WereSent w q p the_parts → OfRound
  of_round = by (cut told.rest)
    where
      by : (runs : List (List Entry)) → 0 < length runs → WereSent w q p (parts_from part told.start runs) → OfRound
      by [] some_ h = absurd (omega (arith, some_))
      by (r ∷ rs) some_ h = let o = i.packets (packet q p (part told.start r)) (h (part told.start r) (inl refl)) in record { rest = o.rest; ok = o.whole }

  -- what was staged of it too
  staged_stands : (r : PreparingState) → n ≡ r.ballot → PrepOk ms (promises w) (accepts w) g p node r → OfRound → StandsIn (g.full told.round) (r.parts q)
  staged_stands r same o one j e k =
      let t = o.parts q j e k in
      let ok = subst (λ b. PromOk ms (promises w) (accepts w) g q p b (told_by (promised_run told 0 []) one.rest)) same one.ok in
      ap (λ m. slice_get (g.full m) j) (one_round ms (promises w) (accepts w) g i.hist q p r.ballot o.unled (told_by (promised_run told 0 []) one.rest) t.told ok t.ok) ∙ t.is

  -- ---- by role
  idle : node.role ≡ Idle → Alike (after_each ms p node q the_parts)
  unfolding on_promise_in on_promise_part_in
  idle is =
      let a : whole ≡ node = ap (λ x. (on_promise_in ms p node x q n told).node) is in
      let b = nothing_all ms p q n told node (λ at r. ap (λ x. (on_promise_part_in ms p node x q n (promised_run told at r)).node) is) (cut told.rest) told.start in
      left_same whole (after_each ms p node q the_parts) (b ∙ sym a)

  leading : (l : LeadingState) → node.role ≡ Leading l → 0 < length (cut told.rest) → Alike (after_each ms p node q the_parts)
  leading l is some_ =
      let a : whole ≡ (on_promise_in ms p node (Leading l) q n told).node = ap (λ x. (on_promise_in ms p node x q n told).node) is in
      let b = led_all ms p q n told (cut told.rest) told.start node l is some_ (cut_full told.rest) (omega (arith, size, ap (λ (y : List Entry). length y) (cut_joined told.rest))) in
      left_same whole (after_each ms p node q the_parts) (b ∙ sym a)

  other_ballot : (r : PreparingState) → node.role ≡ Preparing r → (n ≡ r.ballot → ⊥) → Alike (after_each ms p node q the_parts)
  unfolding on_promise_in on_promise_part_in
  other_ballot r is d =
      let a : whole ≡ node = ap (λ x. (on_promise_in ms p node x q n told).node) is ∙ cond_both ((n == r.ballot) && is_usable node told) _ _ (λ (o : Effect). o.node ≡ node) (λ c. absurd (d (eqb-true n r.ballot (and_parts (n == r.ballot) _ c).0))) (λ c. refl) in
      let f : (at : ℕ) (run : List Entry) → (on_promise_part_in ms p node node.role q n (promised_run told at run)).node ≡ node = λ at run. ap (λ x. (on_promise_part_in ms p node x q n (promised_run told at run)).node) is ∙ cond_both ((n == r.ballot) && (nat_le told.start at && is_run_to told.size at run)) _ _ (λ (o : Effect). o.node ≡ node) (λ c. absurd (d (eqb-true n r.ballot (and_parts (n == r.ballot) _ c).0))) (λ c. refl) in
      left_same whole (after_each ms p node q the_parts) (nothing_all ms p q n told node f (cut told.rest) told.start ∙ sym a)

  preparing : (r : PreparingState) → node.role ≡ Preparing r → n ≡ r.ballot → 0 < length (cut told.rest) → WereSent w q p the_parts → Alike (after_each ms p node q the_parts)
  preparing r is same some_ sent =
      let as_it : node ≡ record node { role = Preparing r } = ap (λ x. record node { role = x }) is in
      let k = prepares_alike ms p q n told node r same (g.full told.round) (all_stand sent) size (cut told.rest) some_ (cut_full told.rest) (cut_joined told.rest) (staged_stands r same (prep_is ms w g i p r is) (of_round some_ sent)) in
      subst (λ (m : Node). IsLeftAlike (on_promise_in ms p m m.role q n told).node (after_each ms p m q the_parts)) (sym as_it) k

  all_parts : 0 < length (cut told.rest) → WereSent w q p the_parts → Alike (after_each ms p node q the_parts)
  all_parts some_ sent = by node.role refl
    where
      by : (x : Role) → node.role ≡ x → Alike (after_each ms p node q the_parts)
      by Idle e = idle e
      by (Preparing r) e = ⊎_elim (λ (s : n ≡ r.ballot). preparing r e s some_ sent) (λ (d : n ≡ r.ballot → ⊥). other_ballot r e d) (cases_eq n r.ballot)
      by (Leading l) e = leading l e some_

  -- so do all messages that bring it
  pub left_alike : WereSent w q p (promise_messages n told) → IsLeftAlike (step ms p node (Comes q (Promise n told))).node (after_each ms p node q (promise_messages n told))
  unfolding step on_msg
  left_alike =
      cond_both (nat_le (entries_size told.rest) most_part_bytes) (Promise n told ∷ []) the_parts (λ (l : List Msg). WereSent w q p l → IsLeftAlike whole (after_each ms p node q l))
      (λ c sent. left_self whole)
      (λ c sent. all_parts (cut_some told.rest c) sent)

-- the clause promise
pub promise_in_parts : PromiseInParts
promise_in_parts ms events q p n told size sent =
    let a = run_on ms events start first (start_ok ms) in
    left_alike ms (run ms events start) a.0 a.1 q p n told size sent
