-- What brings a promise or an AcceptSync: itself, or its parts.
use Rattle.std.proofs.Common.{◌≡◌, ℕ, ◌+◌, ◌-◌, ◌<◌, ◌≤◌, true, List, [], ◌∷◌, ◌++◌, length, refl, sym, ◌∙◌, subst, arith, ⊎_elim, inl, inr, Some, append_assoc, length-append}
use Rattle.std.specs.Prelude.{nat_le, slice_get}
use Rattle.std.proofs.lemmas.Bool.{cond_both, cases_lt}
use Rattle.op_types.specs.declared.log.Entry.{Entry}
use Rattle.op_types.specs.Limits.{most_part_bytes}
use Rattle.op_types.specs.Cutting.{entries_size, cut, parts_from, whole_or_parts}
use Rattle.op_types.proofs.Elements.{none_some, get_old, get_behind}
use Rattle.op_types.proofs.Cuts.{joined, NoneEmpty, RunOf, cut_joined, cut_full}
use Rattle.op_spec.specs.Machine.{IsAmong}
use Rattle.op_paxos.specs.Nodes.{Promised}
use Rattle.op_paxos.specs.Messages.{Msg, Promise, PromisePart, AcceptSync, AcceptSyncPart, Packet, packet, packets}
use Rattle.op_paxos.specs.Parts.{promised_run, promise_messages, sync_run, sync_messages}

-- ---- the whole, or parts

module _ {A : Type 0} (part : ℕ → List Entry → A) (P : A → Type 0) where
  in_parts : (es before : List Entry) (start : ℕ) (runs : List (List Entry)) → es ≡ before ++ joined runs → NoneEmpty runs
      → ((at : ℕ) (run : List Entry) → RunOf es at run → P (part (start + at) run)) → (m : A) → IsAmong (parts_from part (start + length before) runs) m → P m
  in_parts es before start [] is full f m i = absurd i
  in_parts es before start (run ∷ runs) is full f m (inl e) = subst P e (f (length before) run (record { before = before; after = joined runs; place = refl; is = is; full = full.0 }))
  in_parts es before start (run ∷ runs) is full f m (inr i) =
      let z : start + length before + length run ≡ start + length (before ++ run) = omega (arith, length-append before run) in
      in_parts es (before ++ run) start runs (is ∙ sym (append_assoc before run (joined runs))) full.1 f m (subst (λ n. IsAmong (parts_from part n runs) m) z i)

  -- each run of the cut in a message of its own
  pub in_cut : (es : List Entry) (start : ℕ) → ((at : ℕ) (run : List Entry) → RunOf es at run → P (part (start + at) run)) → (m : A) → IsAmong (parts_from part start (cut es)) m → P m
  in_cut es start f m i = let z : start ≡ start + 0 = omega arith in in_parts es [] start (cut es) (sym (cut_joined es)) (cut_full es) f m (subst (λ n. IsAmong (parts_from part n (cut es)) m) z i)

  -- what is sent is the whole, where that fits, or a part with a run of the entries
  pub in_messages_fit : (whole : A) (start : ℕ) (es : List Entry) → (nat_le (entries_size es) most_part_bytes ≡ true → P whole) → ((at : ℕ) (run : List Entry) → RunOf es at run → P (part (start + at) run)) → (m : A) → IsAmong (whole_or_parts whole part start es) m → P m
  in_messages_fit whole start es h f m =
      cond_both (nat_le (entries_size es) most_part_bytes) (whole ∷ []) (parts_from part start (cut es)) (λ (y : List A). IsAmong y m → P m)
      (λ c i. ⊎_elim (λ (e : whole ≡ m). subst P e (h c)) (λ (x : ⊥). absurd x) i)
      (λ c i. in_cut es start f m i)

  pub in_messages : (whole : A) (start : ℕ) (es : List Entry) → P whole → ((at : ℕ) (run : List Entry) → RunOf es at run → P (part (start + at) run)) → (m : A) → IsAmong (whole_or_parts whole part start es) m → P m
  in_messages whole start es h f m i = in_messages_fit whole start es (λ c. h) f m i

-- where each run stands in a list at its position, so do the entries
pub stand_parts : {A : Type 0} (part : ℕ → List Entry → A) (l : List Entry) (at : ℕ) (runs : List (List Entry)) → ((k : ℕ) (run : List Entry) → IsAmong (parts_from part at runs) (part k run) → (j : ℕ) (e : Entry) → slice_get run j ≡ Some e → slice_get l (k + j) ≡ Some e)
    → (j : ℕ) (e : Entry) → slice_get (joined runs) j ≡ Some e → slice_get l (at + j) ≡ Some e
stand_parts part l at [] f j e h = none_some e h
stand_parts part l at (run ∷ runs) f j e h =
    ⊎_elim (λ (lt : j < length run). f at run (inl refl) j e (get_old run (joined runs) j e lt h))
    (λ (le : length run ≤ j).
    let z : at + length run + (j - length run) ≡ at + j = omega (arith, le) in
    subst (λ k. slice_get l k ≡ Some e) z (stand_parts part l (at + length run) runs (λ k r i. f k r (inr i)) (j - length run) e (get_behind run (joined runs) j e le h)))
    (cases_lt j (length run))

-- ---- a promise, and an AcceptSync

-- what holds of each message holds of each packet
pub in_packets : (P : Packet → Type 0) (p q : ℕ) (bs : List Msg) → ((b : Msg) → IsAmong bs b → P (packet p q b)) → (m : Packet) → IsAmong (packets p q bs) m → P m
in_packets P p q [] f m i = absurd i
in_packets P p q (b ∷ bs) f m (inl e) = subst P e (f b (inl refl))
in_packets P p q (b ∷ bs) f m (inr i) = in_packets P p q bs (λ c j. f c (inr j)) m i

-- the messages that bring a promise
pub in_promise : (P : Msg → Type 0) (n : ℕ) (told : Promised) → P (Promise n told) → ((at : ℕ) (run : List Entry) → RunOf told.rest at run → P (PromisePart n (promised_run told (told.start + at) run))) → (b : Msg) → IsAmong (promise_messages n told) b → P b
in_promise P n told h f b i = in_messages (λ at run. PromisePart n (promised_run told at run)) P (Promise n told) told.start told.rest h f b i

-- the messages that bring an AcceptSync
pub in_sync : (P : Msg → Type 0) (n x : ℕ) (es : List Entry) → P (AcceptSync n x es) → ((at : ℕ) (run : List Entry) → RunOf es at run → P (AcceptSyncPart n (sync_run x es (x + at) run))) → (b : Msg) → IsAmong (sync_messages n x es) b → P b
in_sync P n x es h f b i = in_messages (λ at run. AcceptSyncPart n (sync_run x es at run)) P (AcceptSync n x es) x es h f b i

-- the same, of packets
pub promise_packets : (P : Packet → Type 0) (p q n : ℕ) (told : Promised) → P (packet p q (Promise n told)) → ((at : ℕ) (run : List Entry) → RunOf told.rest at run → P (packet p q (PromisePart n (promised_run told (told.start + at) run)))) → (m : Packet) → IsAmong (packets p q (promise_messages n told)) m → P m
promise_packets P p q n told h f m i = in_packets P p q (promise_messages n told) (in_promise (λ b. P (packet p q b)) n told h f) m i

pub sync_packets : (P : Packet → Type 0) (p q n x : ℕ) (es : List Entry) → P (packet p q (AcceptSync n x es)) → ((at : ℕ) (run : List Entry) → RunOf es at run → P (packet p q (AcceptSyncPart n (sync_run x es (x + at) run)))) → (m : Packet) → IsAmong (packets p q (sync_messages n x es)) m → P m
sync_packets P p q n x es h f m i = in_packets P p q (sync_messages n x es) (in_sync (λ b. P (packet p q b)) n x es h f) m i
