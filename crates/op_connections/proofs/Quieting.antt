-- In the writes: an Up has at most a frame for its own peer, a Down has none, and no other session changes.
use Rattle.std.proofs.Common.{◌≡◌, ◌++◌, ◌⊎◌, [], ℕ, Bool, true, false, List, length, map, slice_get, Option, Some, None, if◌then◌else◌, refl, sym, ◌∙◌, ap, ap₂, subst, inl, inr}
use Rattle.std.proofs.lemmas.List.{append-nil}
use Rattle.op_types.specs.declared.events.Input.{Input}
use Rattle.op_types.specs.declared.events.Input.TheVariants as input
use Rattle.op_types.specs.declared.messages.Msg.{Msg}
use Rattle.op_types.specs.declared.given.Given.{Given}
use Rattle.op_serving.specs.Cores.{Standing, gives, reopens}
use Rattle.op_serving.specs.Fates.{Fate, done, finds, faults, shares, damaged, lost, is_session}
use Rattle.op_serving.specs.State.{Loop, find, left_by, session_of, counted}
use Rattle.op_serving.specs.Handing.{goes_to, sent_all, frames_sent_at, frames_sent, replied_all, frames_replied, frames_handed}
use Rattle.op_serving.specs.Room.{Frame}
use Rattle.op_serving.specs.Inputs.{State, Luck, Brought, kept, is_lost_here, fate_of, next_fate, loop_taking, frames_after, calm, enter, give, drained, given_together, as_one, as_delivery, all_gathered, released, leaves, over}
use Rattle.op_serving.proofs.Fits.{goes_tells}
use Rattle.op_connections.proofs.Queueing.{bytes_for, away_sent}
use Rattle.op_connections.proofs.Walking.{AllGiven, Falls, drained_holds}
use Rattle.op_connections.proofs.Fading.{Stays, stays_then, stays_left, stays_calm, stays_enter}
use Rattle.op_connections.proofs.Uppings.{Upping, ups, ups_read, downs, downs_read}
use Rattle.op_connections.proofs.Readers.{NobodyReads, ReadsAreDone, reads_none, done_enter, done_falls}

-- what is handed out of answers to reads
abbrev read_frames : Given → Loop → List Frame
read_frames g s = frames_replied true g.read_replies (replied_all false g.replies (sent_all g.sends s))

-- nothing is handed out
handed_none : (g : Given) (s : Loop) → g.sends ≡ [] → g.replies ≡ [] → read_frames g s ≡ [] → frames_handed g s ≡ []
handed_none g s sends replies reads =
    ap (λ fs. (frames_sent g.sends s ++ frames_replied false g.replies (sent_all g.sends s)) ++ fs) reads ∙ rw (sends, replies) refl

-- but one message at most, to a peer whose session is another's
handed_other : (c q : ℕ) (g : Given) (s : Loop) → Upping q g → (session_of q s ≡ Some c → ⊥) → read_frames g s ≡ [] → bytes_for c (frames_handed g s) ≡ []
handed_other c q g s u other reads = ap (λ fs. bytes_for c ((frames_sent g.sends s ++ frames_replied false g.replies (sent_all g.sends s)) ++ fs)) reads ∙ elim u.sends [
  | inl none ↦ rw (none, u.replies) refl
  | inr one ↦ rw (one.1, u.replies) (at_other one.0 (goes_to (q, one.0) s) refl)
]
  where
    at_other : (m : Msg) (o : Option ℕ) → goes_to (q, m) s ≡ o → bytes_for c (((frames_sent_at o (q, m) s ++ []) ++ []) ++ []) ≡ []
    at_other m None e = refl
    at_other m (Some d) e =
        let fs : List Frame = frames_sent_at (Some d) (q, m) s in
        ap (bytes_for c) (append-nil ((fs ++ []) ++ []) ∙ append-nil (fs ++ []) ∙ append-nil fs)
        ∙ away_sent c d (q, m) s (λ k. other ((goes_tells (q, m) s d e).1 ∙ ap Some k))

-- What is asked of what comes of an Up or a Down: an opening comes only of a tick, and nothing of either is stored.
module _ (P : Fate → Type 0) (n : Standing) (i : Input) (shut : reopens n i ≡ false) (of_session : is_session i ≡ true) (as_done : P done) (as_damaged : P damaged) (as_lost : P lost) where
  fated : (o : Option Fate) → P (fate_of n i o)
  fated None = as_done
  fated (Some done) = as_done
  fated (Some (finds d)) = subst (λ b. P (if b then finds d else done)) (sym shut) as_done
  fated (Some (faults k)) = subst (λ b. P (if b then done else faults k)) (sym of_session) as_done
  fated (Some (shares k)) = as_done
  fated (Some damaged) = as_damaged
  fated (Some lost) = as_lost

  lost_or_fated : (b : Bool) (o : Option Fate) → P (if b then lost else fate_of n i o)
  lost_or_fated true o = as_lost
  lost_or_fated false o = fated o

next_holds : (P : Fate → Type 0) (i : Input) (l : Luck) (s : State) → reopens s.node i ≡ false → is_session i ≡ true → P done → P damaged → P lost → P (next_fate l [] i s)
next_holds P i l s shut of_session as_done as_damaged as_lost =
    lost_or_fated P s.node i shut of_session as_done as_damaged as_lost (is_lost_here (slice_get l.marks (length s.loop.lost)) s.loop) (slice_get l.fates (length (kept s.deeds)))

-- what is handed out of an input of no connection
abbrev frames_of : Input → State → Fate → List Frame
frames_of i s f = frames_after None i f s.node (loop_taking f s.loop)

up_quiet : (c q : ℕ) (l : Luck) (s : State) → ReadsAreDone s → (session_of q s.loop ≡ Some c → ⊥) → bytes_for c (frames_of (input.Up q) s (next_fate l [] (input.Up q) s)) ≡ []
up_quiet c q l s reads other = next_holds (λ f. bytes_for c (frames_of (input.Up q) s f) ≡ []) (input.Up q) l s refl refl
    (handed_other c q (gives s.node (input.Up q)) (counted s.loop) (ups s.node q) other (reads_none (gives s.node (input.Up q)) (counted s.loop) (elim reads [ inl h ↦ inr h | inr t ↦ inl (ups_read s.node q t) ]))) refl refl

down_quiet : (c q : ℕ) (l : Luck) (s : State) → ReadsAreDone s → bytes_for c (frames_of (input.Down q) s (next_fate l [] (input.Down q) s)) ≡ []
down_quiet c q l s reads =
    let d = downs s.node q in
    let g : Given = gives s.node (input.Down q) in
    let none : (g.read_replies ≡ []) ⊎ NobodyReads (counted s.loop) = elim reads [ inl h ↦ inr h | inr t ↦ inl (downs_read s.node q t) ] in
    next_holds (λ f. bytes_for c (frames_of (input.Down q) s f) ≡ []) (input.Down q) l s refl refl
    (ap (bytes_for c) (handed_none g (counted s.loop) d.sends d.replies (reads_none g (counted s.loop) none))) refl refl

-- what losses and Downs leave
staying : (c : ℕ) (l : Luck) (start : Loop) → Falls l (λ s. Stays c start s.loop × ReadsAreDone s)
staying c l start =
    let reads = done_falls l in
    record {
      moves = λ s t u h. (stays_then c start s.loop t h.0 (inr (ap (find c) u.sessions)), reads.moves s t u h.1);
      calms = λ s h. (stays_then c start s.loop (calm l s).loop h.0 (stays_calm c l s), reads.calms s h.1);
      downs = λ q s h. (stays_then c start s.loop (enter l [] (input.Down q) s).loop h.0 (stays_enter c l [] (input.Down q) s (down_quiet c q l s h.1)), reads.downs q s h.1);
      leaves_one = λ d s h. (stays_then c start s.loop (left_by d s.loop) h.0 (stays_left c d s.loop), reads.leaves_one d s h.1);
    }

stays_drained : (c : ℕ) (l : Luck) (start : Loop) (s : State) → ReadsAreDone s → Stays c start s.loop → Stays c start (drained l s).loop
stays_drained c l start s reads h = (drained_holds l (λ v. Stays c start v.loop × ReadsAreDone v) (staying c l start) s (h, reads)).0

-- a peer goes up
pub stays_up : (c q : ℕ) (l : Luck) (s : State) → ReadsAreDone s → (session_of q s.loop ≡ Some c → ⊥) → Stays c s.loop (give l [] (input.Up q) s).loop
stays_up c q l s reads other = stays_drained c l s.loop (enter l [] (input.Up q) s) (done_enter l [] (input.Up q) s reads) (stays_enter c l [] (input.Up q) s (up_quiet c q l s reads other))

-- a session is over, where nothing was gathered
pub stays_gone : (c d : ℕ) (l : Luck) (s : State) → ReadsAreDone s → AllGiven s.loop → Stays c s.loop (over l d s).loop
stays_gone c d l s reads given =
    let u : State = released s in
    let none : all_gathered s.loop ≡ [] = ap₂ (λ ms xs. map as_delivery ms ++ as_one xs) given.0 given.1 in
    subst (λ (bs : List Brought). Stays c s.loop (leaves l d (given_together l bs u)).loop) (sym none)
    (stays_drained c l s.loop (record u { loop = left_by d u.loop }) ((done_falls l).leaves_one d u reads) (stays_left c d u.loop))
