-- What an observer asks of a node, and what it is answered: letters that have no effect on servers.
use Rattle.std.proofs.Common.{◌≡◌, ◌⊎◌, inl, inr, ℕ, zero, suc, ◌+◌, ◌-◌, Bool, false, cond, List, [], ◌∷◌, length, take, drop, map, Option, Some, None, refl, sym, ap, ◌∙◌, subst}
use Rattle.std.proofs.lemmas.Bool.{cond_both}
use Rattle.op_types.specs.Limits.{most_part_bytes}
use Rattle.op_types.specs.Cutting.{cut}
use Rattle.op_types.specs.declared.log.Entry.{Entry}
use Rattle.op_types.specs.declared.durable.Joining.{Joining as StoredJoining}
use Rattle.op_types.specs.declared.durable.Durable.{Durable}
use Rattle.op_types.specs.declared.events.Input.TheVariants as input
use Rattle.op_types.specs.declared.messages.Body.{Body}
use Rattle.op_types.specs.declared.messages.Body.TheVariants as body
use Rattle.op_types.specs.declared.messages.Msg.{Msg}
use Rattle.op_types.specs.declared.messages.Watch.{Watch}
use Rattle.op_types.specs.declared.messages.Watch.TheVariants as watch
use Rattle.op_protocol.specs.State as table
use Rattle.op_protocol.specs.State.{Volatile, Planned}
use Rattle.op_protocol.specs.Parts.{messages}
use Rattle.op_protocol.specs.Tick.{remembering}
use Rattle.op_protocol.specs.Joining.{piece_count}
use Rattle.op_protocol.specs.Watched.{is_watching, Decided, decided_for, shown_bodies, watch_pieces, shown_base, shown_of, shown_if, answers_by, watch_answers}
use Rattle.op_protocol.specs.Rows.{member_step, message_step, step_bringing, table_plan}
use Rattle.op_protocol.proofs.Watching.{brings_nothing}
use Rattle.op_runs.specs.World.{sent_by}
use Rattle.op_configurations.specs.Servers as server
use Rattle.op_configurations.specs.Servers.{State, Letter, Fate, says, notes}
use Rattle.op_refinement.proofs.Pure as pure
use Rattle.op_refinement.proofs.View.{Each, view_body}
use Rattle.op_refinement.proofs.Relation.{AreLetters, StepRel}
use Rattle.op_refinement.proofs.Inputs.{NodeFacts, noted, step_by, rest_rel}

-- a message is no observer's, or it is
pub plain_or : (b : Body) → (is_watching b ≡ false) ⊎ ((w : Watch) × (b ≡ body.Watch w))
plain_or (body.Watch w) = inr (w, refl)
plain_or _ = inl refl

none_some : {A : Type 0} (a : A) → None ≡ Some a → ⊥
none_some a e = cc

-- a message with a counterpart is none
pub view_plain : (b : Body) (m : pure.Msg) → view_body b ≡ Some m → is_watching b ≡ false
view_plain b m e = by (plain_or b)
  where
    by : (is_watching b ≡ false) ⊎ ((w : Watch) × (b ≡ body.Watch w)) → is_watching b ≡ false
    by (inl k) = k
    by (inr k) = absurd (none_some m (ap view_body (sym k.1) ∙ e))

-- the row of a message that is no observer's
pub member_row : (me : ℕ) (d : Durable) (v : Volatile) (q : ℕ) (m : Msg) → is_watching m.body ≡ false → message_step me d v q m ≡ member_step me d v q m
member_row me d v q m e = ap (λ (b : Bool). cond b (remembering v (watch_answers d q m.conf m.body)) (member_step me d v q m)) e

-- ---- answers

-- it is to an observer
abbrev pub IsWatch : Body → Type 0
IsWatch (body.Watch w) = Unit {0}
IsWatch _ = ⊥

bodies_letters : (lists : ℕ → List Entry) (me conf q : ℕ) (bs : List Body) → Each IsWatch bs → AreLetters lists (sent_by me (messages conf q bs)) (notes me (noted (messages conf q bs)))
bodies_letters lists me conf q [] k = tt
bodies_letters lists me conf q (body.Watch w ∷ bs) k = (record { from = refl; to = refl; conf = refl; body = refl; small = tt }, bodies_letters lists me conf q bs k.1)
bodies_letters lists me conf q (_ ∷ bs) k = absurd k.0

runs_watch : (from : ℕ) (runs : List (List Entry)) → Each IsWatch (map (λ run. body.Watch (watch.Shown from run)) (take 1 runs))
runs_watch from [] = tt
runs_watch from (run ∷ runs) = (tt, tt)

pieces_watch : (members : List ℕ) (at : ℕ) (bytes : List ℕ) (from count : ℕ) → Each IsWatch (watch_pieces members at bytes from count)
pieces_watch members at bytes from zero = tt
pieces_watch members at bytes from (suc count) = (tt, pieces_watch members at bytes (from + most_part_bytes) count)

module _ (lists : ℕ → List Entry) (me q c from : ℕ) where
  abbrev AreNotes : List (ℕ × Msg) → Type 0
  AreNotes sends = AreLetters lists (sent_by me sends) (notes me (noted sends))

  of_notes : (k : Decided) → AreNotes (shown_of k q c from)
  of_notes k =
      cond_both _ (messages k.conf q (shown_base k)) (messages c q (shown_bodies from (drop (from - k.trimmed) k.entries))) AreNotes
      (λ _. bodies_letters lists me k.conf q (shown_base k) (pieces_watch k.members k.trimmed k.base 0 (piece_count (length k.base))))
      (λ _. bodies_letters lists me c q (shown_bodies from (drop (from - k.trimmed) k.entries)) (runs_watch from (cut (drop (from - k.trimmed) k.entries))))

  if_notes : (o : Option Decided) → AreNotes (shown_if o q c from)
  if_notes None = tt
  if_notes (Some k) = of_notes k

  by_notes : (d : Durable) (j : Option StoredJoining) → AreNotes (answers_by j d q c from)
  by_notes d None = if_notes (decided_for d.part d.closed c)
  by_notes d (Some j) = tt

-- an answer is letters without an effect
pub answers_letters : (lists : ℕ → List Entry) (me : ℕ) (d : Durable) (q c : ℕ) (w : Watch) → AreLetters lists (sent_by me (watch_answers d q c (body.Watch w))) (notes me (noted (watch_answers d q c (body.Watch w))))
answers_letters lists me d q c (watch.Ask from) = by_notes lists me q c from d d.joining
answers_letters lists me d q c (watch.Shown from es) = tt
answers_letters lists me d q c (watch.Base members p) = tt

-- ---- the step

module _ (lists : ℕ → List Entry) (soup : List Letter) (me : ℕ) (f : Fate) (s : table.State) (st : State) (k : NodeFacts lists soup me s st) (q : ℕ) (msg : Msg) where
  -- what an observer asks, at a node
  pub watch_rel : (w : Watch) → msg.body ≡ body.Watch w → StepRel lists me f s.durable (table_plan me s (input.Deliver q msg)) (step_by f me st (Some (server.Notes (noted (watch_answers s.durable q msg.conf msg.body)))))
  unfolding server.step
  watch_rel w e =
      subst (λ (b : Body). StepRel lists me f s.durable (table_plan me s (input.Deliver q (record { conf = msg.conf; body = b }))) (says st (notes me (noted (watch_answers s.durable q msg.conf b))))) (sym e)
      (subst (λ (pl : Planned). StepRel lists me f s.durable pl (says st (notes me (noted (watch_answers s.durable q msg.conf (body.Watch w)))))) (sym (ap (step_bringing me s (input.Deliver q (record { conf = msg.conf; body = body.Watch w }))) (brings_nothing s.durable s.volatile q msg.conf w)))
      (rest_rel lists soup me f s st k s.waiting (remembering s.volatile (watch_answers s.durable q msg.conf (body.Watch w))) refl (notes me (noted (watch_answers s.durable q msg.conf (body.Watch w)))) refl
      (answers_letters lists me s.durable q msg.conf w)))
