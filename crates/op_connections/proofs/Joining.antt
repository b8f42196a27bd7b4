-- What a command and a message add to what a connection brought that is not given yet.
use Rattle.std.proofs.Common.{◌≡◌, ◌++◌, ◌∷◌, [], ℕ, List, map, Bool, true, false, ◌||◌, is_some, refl, sym, ◌∙◌, ap, append_assoc}
use Rattle.std.proofs.lemmas.List.{append-nil, map-append}
use Rattle.op_types.specs.declared.events.Input.{Input}
use Rattle.op_types.specs.declared.events.Input.TheVariants as input
use Rattle.op_types.specs.declared.log.Command.{Command}
use Rattle.op_types.specs.declared.messages.Msg.{Msg}
use Rattle.op_serving.specs.State.{Table, Loop, find}
use Rattle.op_serving.specs.Inputs.{gathers, brings, has_brought}
use Rattle.op_serving.specs.Promise.{alone, at_conn, pending_at}
use Rattle.op_connections.proofs.Tables.{at_none, at_both, at_own, at_other}

module _ {X : Type 0} (t : Table X) (c : ℕ) (x : X) where
  -- an entry more
  own_more : at_conn c (t ++ (c, x) ∷ []) ≡ at_conn c t ++ x ∷ []
  own_more = at_both c t ((c, x) ∷ []) ∙ ap (λ l. at_conn c t ++ l) (at_own c x)

  other_more : (d : ℕ) → (c ≡ d → ⊥) → at_conn d (t ++ (c, x) ∷ []) ≡ at_conn d t
  other_more d apart = at_both d t ((c, x) ∷ []) ∙ ap (λ l. at_conn d t ++ l) (at_other d c x apart) ∙ append-nil (at_conn d t)

abbrev delivery : ℕ × Msg → Input
delivery m = input.Deliver m.0 m.1

module _ (c : ℕ) (s : Loop) where
  -- a command comes behind all
  pub command_more : (x : Command) → pending_at c (gathers c x s) ≡ pending_at c s ++ alone x ∷ []
  command_more x =
      let ds : List Input = map delivery (at_conn c s.brought) in
      ap (λ l. ds ++ map alone l) (own_more s.gathered c x) ∙ ap (λ l. ds ++ l) (map-append alone (at_conn c s.gathered) (x ∷ []))
      ∙ sym (append_assoc ds (map alone (at_conn c s.gathered)) (alone x ∷ []))

  pub command_apart : (x : Command) (d : ℕ) → (c ≡ d → ⊥) → pending_at d (gathers c x s) ≡ pending_at d s
  command_apart x d apart = ap (λ l. map delivery (at_conn d s.brought) ++ map alone l) (other_more s.gathered c x d apart)

  -- so does a message, where no command was gathered of that connection
  pub message_more : (m : ℕ × Msg) → at_conn c s.gathered ≡ [] → pending_at c (brings c m s) ≡ pending_at c s ++ delivery m ∷ []
  message_more m none =
      let ms : List (ℕ × Msg) = at_conn c s.brought in
      ap (λ l. map delivery l ++ map alone (at_conn c s.gathered)) (own_more s.brought c m) ∙ ap (λ xs. map delivery (ms ++ m ∷ []) ++ map alone xs) none
      ∙ append-nil (map delivery (ms ++ m ∷ [])) ∙ map-append delivery ms (m ∷ []) ∙ ap (λ l. l ++ delivery m ∷ []) (sym (append-nil (map delivery ms)))
      ∙ ap (λ xs. (map delivery ms ++ map alone xs) ++ delivery m ∷ []) (sym none)

  pub message_apart : (m : ℕ × Msg) (d : ℕ) → (c ≡ d → ⊥) → pending_at d (brings c m s) ≡ pending_at d s
  message_apart m d apart = ap (λ l. map delivery l ++ map alone (at_conn d s.gathered)) (other_more s.brought c m d apart)

-- ---- nothing that a connection brought waits to be given

pub none_pending : (c : ℕ) (s : Loop) → has_brought c s ≡ false → pending_at c s ≡ []
none_pending c s e = by_both (is_some (find c s.brought)) (is_some (find c s.gathered)) refl refl e
  where
    by_both : (a b : Bool) → is_some (find c s.brought) ≡ a → is_some (find c s.gathered) ≡ b → (a || b) ≡ false → pending_at c s ≡ []
    by_both true b ea eb h = absurd cc
    by_both false true ea eb h = absurd cc
    by_both false false ea eb h = ap (λ l. map delivery l ++ map alone (at_conn c s.gathered)) (at_none c s.brought ea) ∙ ap (map alone) (at_none c s.gathered eb)
