-- No more frames wait behind for a connection than may.
use Rattle.std.proofs.Common.{◌≡◌, ◌≤◌, ◌<◌, ◌+◌, ◌++◌, ◌∷◌, [], ℕ, zero, suc, Bool, true, false, List, length, drop, Option, Some, None, ◌==◌, ◌||◌, nat_lt, nat_le, if◌then◌else◌, refl, sym, ◌∙◌, ap, subst, inl, inr, arith}
use Rattle.std.specs.BTreeMap.{is_at}
use Rattle.std.specs.Ordering.{nat_cmp}
use Rattle.std.proofs.lemmas.Bool.{cases_Bool, cases_eq, eq-eqb, ne_eqb, leb-false}
use Rattle.std.proofs.lemmas.List.{length-append}
use Rattle.op_types.specs.declared.answers.Outcome.{Outcome}
use Rattle.op_types.specs.declared.answers.Refusal.{Refusal}
use Rattle.op_types.specs.declared.answers.Refusal.TheVariants.{StorageFailed}
use Rattle.op_types.specs.declared.answers.Reply.{Reply}
use Rattle.op_types.specs.declared.events.Input.{Input}
use Rattle.op_types.specs.declared.events.Input.TheVariants as input
use Rattle.op_types.specs.declared.given.Given.{Given}
use Rattle.op_types.specs.declared.messages.Msg.{Msg}
use Rattle.op_conns.proofs.Numbers.{is_at_own, is_at_one}
use Rattle.op_serving.specs.declared.kind.Kind.{Kind}
use Rattle.op_serving.specs.declared.kind.Kind.TheVariants.{Unknown, Peer}
use Rattle.op_serving.specs.declared.mark.Mark.{Mark}
use Rattle.op_serving.specs.declared.session.Session.{Session}
use Rattle.op_serving.specs.declared.wanted.Wanted.{Wanted}
use Rattle.op_serving.specs.Answers.{Answers}
use Rattle.op_serving.specs.Cores.{Standing, gives, given_again}
use Rattle.op_serving.specs.Fates.{Fate, done, finds, faults, shares, damaged, lost}
use Rattle.op_serving.specs.Handing.{said_at, goes_to, made_way, sent_if, sent_at, sent, sent_all, forgotten, answered, replied, replied_all, handed_out, Told, said_at_once, said_of_denial, said_of_failure, told, told_all, asked_by_one, asked, is_read, keys_that_wait, proposed, excused, given_up}
use Rattle.op_serving.specs.Inputs.{State, Luck, Taken, loop_taking, loop_after, loop_after_all, noting, begins}
use Rattle.op_serving.specs.Losses.{most_marks, mark_at, noted, stopped_if, marked, lost_one, is_due, settle}
use Rattle.op_serving.specs.Promise.{at_conn}
use Rattle.op_serving.specs.Pump.{Settings, Pump, Answer, after}
use Rattle.op_serving.specs.Reading.{hello_len}
use Rattle.op_serving.specs.Room.{Frame, most_behind, has_room, count_at, is_urgent, goes_ahead, kept, placed, without_first, first_moved, moved_in, moved, begins_anew, cleared, is_excess}
use Rattle.op_serving.specs.State.{Table, Key, Loop, find, without, is_open, kind_at, left_at}
use Rattle.op_serving.specs.Turns.{first_bytes, joining, joined, taken_by, up_peer, up_at}
use Rattle.op_serving.specs.Wire.{peer_frame, client_frame}
use Rattle.op_connections.specs.Behind.{most_frames_behind, FewWaitBehind}
use Rattle.op_connections.specs.Runs.{Begins}
use Rattle.op_connections.proofs.Fading.{replaced_none}
use Rattle.op_connections.proofs.Pumping.{Closed, Goes, run_kept}
use Rattle.op_connections.proofs.Tables.{at_without, at_apart, at_both, at_other}
use Rattle.op_connections.proofs.Walking.{taking_holds, Hands, enter_holds, Steps, steps, Hearing, give_holds, flushed_holds, over_holds, read_holds}

module _ (c : ℕ) where
  abbrev Few : Loop → Type 0
  Few s = length (at_conn c s.behind) ≤ most_frames_behind

  count_is : (t : Table (List ℕ)) → count_at c t ≡ length (at_conn c t)
  count_is [] = refl
  count_is (f ∷ t) = elim (cases_Bool (is_at (nat_cmp c) f.0)) [
    | inl h ↦ (let own : (f.0 == c) ≡ true = eq-eqb f.0 c (sym (is_at_one c f.0 h)) in let k = count_is t in rw (h, own) (omega (arith, k)))
    | inr h ↦ (let away : (f.0 == c) ≡ false = ne_eqb f.0 c (λ k. (let bad : true ≡ false = sym (is_at_own c) ∙ ap (λ n. is_at (nat_cmp c) n) (sym k) ∙ h in cc)) in rw (h, away) (count_is t))
  ]

  few_same : (s t : Loop) → t.behind ≡ s.behind → Few s → Few t
  few_same s t e h = subst (λ b. length (at_conn c b) ≤ most_frames_behind) (sym e) h

  -- ---- what waits behind

  one_at : (f : Frame) → length (at_conn c (f ∷ [])) ≤ 1
  one_at f = by_conn (f.0 == c)
    where
      by_conn : (b : Bool) → length ((if b then f.1 ∷ [] else []) ++ []) ≤ 1
      by_conn true = omega arith
      by_conn false = omega arith

  few_kept : (b : Bool) (f : Frame) (s : Loop) → (f.0 ≡ c → count_at c s.behind < most_frames_behind) → Few s → Few (kept b f s)
  few_kept false f s room h = h
  few_kept true f s room h =
      let both = ap length (at_both c s.behind (f ∷ [])) in
      let sum = length-append (at_conn c s.behind) (at_conn c (f ∷ [])) in
      elim (cases_eq f.0 c) [
        | inl own ↦ (let one = one_at f in let lt = room own in let n = count_is s.behind in omega (arith, both, sum, one, lt, n))
        | inr apart ↦ (let none = ap length (at_other c f.0 f.1 apart) in omega (arith, both, sum, none, h))
      ]

  few_placed : (b : Bool) (f : Frame) (s : Loop) → (b ≡ false → f.0 ≡ c → count_at c s.behind < most_frames_behind) → Few s → Few (placed b f s)
  few_placed true f s room h = h
  few_placed false f s room h = few_kept (is_open f.0 s) f s (room refl) h

  last_false : (a b d : Bool) → (a || (b || d)) ≡ false → d ≡ false
  last_false true b d e = absurd cc
  last_false false true d e = absurd cc
  last_false false false d e = e

  goes_room : (m : Msg) (o : Option Session) (n : ℕ) → goes_ahead m o n ≡ false → n < most_frames_behind
  goes_room m o n e = let low = leb-false most_behind n (last_false (is_urgent m.body) _ (nat_le most_behind n) e) in omega (arith, low)

  less_first : (d : ℕ) (t : Table (List ℕ)) → length (at_conn c (without_first d t)) ≤ length (at_conn c t)
  less_first d [] = omega arith
  less_first d (f ∷ t) = by_place (is_at (nat_cmp d) f.0) (less_first d t)
    where
      own : List (List ℕ)
      own = if f.0 == c then f.1 ∷ [] else []

      by_place : (b : Bool) → length (at_conn c (without_first d t)) ≤ length (at_conn c t) → length (at_conn c (if b then t else f ∷ without_first d t)) ≤ length (own ++ at_conn c t)
      by_place true k = let sum = length-append own (at_conn c t) in omega (arith, sum)
      by_place false k = let sum = length-append own (at_conn c t) in let less = length-append own (at_conn c (without_first d t)) in omega (arith, sum, less, k)

  less_without : (d : ℕ) (t : Table (List ℕ)) → length (at_conn c (without d t)) ≤ length (at_conn c t)
  less_without d t = elim (cases_eq c d) [
    | inl own ↦ (let none = ap length (ap (λ z. at_conn z (without d t)) own ∙ at_without d t) in omega (arith, none))
    | inr apart ↦ (let same = ap length (at_apart c d t apart) in omega (arith, same))
  ]

  few_first : (d : ℕ) (o : Option (List ℕ)) (s : Loop) → Few s → Few (first_moved d o s)
  few_first d None s h = h
  few_first d (Some b) s h = let less = less_first d s.behind in omega (arith, less, h)

  few_if : (b : Bool) (s t : Loop) → Few s → Few t → Few (if b then s else t)
  few_if true s t h k = h
  few_if false s t h k = k

  few_moved_in : (k d : ℕ) (s : Loop) → Few s → Few (moved_in k d s)
  few_moved_in zero d s h = h
  few_moved_in (suc k) d s h =
      let u : Loop = first_moved d (find d s.behind) s in
      few_if (has_room (find d s.sessions)) (moved_in k d u) s (few_moved_in k d u (few_first d (find d s.behind) s h)) h

  few_moved : (d : ℕ) (s : Loop) → Few s → Few (moved d s)
  unfolding moved
  few_moved d s h = few_moved_in (count_at d s.behind) d s h

  few_cleared : (b : Bool) (d : ℕ) (s : Loop) → Few s → Few (cleared b d s)
  few_cleared true d s h = let less = less_without d s.behind in omega (arith, less, h)
  few_cleared false d s h = h

  few_sent_if : (b : Bool) (d : ℕ) (m : ℕ × Msg) (s : Loop) → Few s → Few (sent_if b d m s)
  few_sent_if true d m s h = h
  few_sent_if false d m s h =
      let w : Loop = made_way d m.1 s in
      let t : Loop = moved d w in
      few_placed (goes_ahead m.1 (find d t.sessions) (count_at d t.behind)) (d, peer_frame t.me m.0 m.1) t
      (λ waits own. subst (λ z. count_at z t.behind < most_frames_behind) own (goes_room m.1 (find d t.sessions) (count_at d t.behind) waits))
      (few_moved d w (few_cleared (begins_anew m.1.body) d s h))

  few_sent_at : (o : Option ℕ) (m : ℕ × Msg) (s : Loop) → Few s → Few (sent_at o m s)
  few_sent_at None m s h = h
  few_sent_at (Some d) m s h = few_sent_if (is_excess m.1.body (count_at d s.behind)) d m s h

  few_sent : (ms : List (ℕ × Msg)) (s : Loop) → Few s → Few (sent_all ms s)
  few_sent [] s h = h
  few_sent (m ∷ ms) s h = few_sent ms (sent m s) (few_sent_at (goes_to m s) m s h)

  -- ---- what else is handed out leaves it

  few_said : (o : Option ℕ) (b : List ℕ) (s : Loop) → Few s → Few (said_at o b s)
  few_said None b s h = h
  few_said (Some d) b s h = h

  few_replied : (read : Bool) (rs : List Reply) (s : Loop) → Few s → Few (replied_all read rs s)
  few_replied read [] s h = h
  few_replied read (r ∷ rs) s h = few_replied read rs (replied read r s) (few_said _ (client_frame (answered r)) (forgotten (read, (r.client, r.seq)) s) h)

  few_handed : (g : Given) (s : Loop) → Few s → Few (handed_out g s)
  few_handed g s h = few_replied true g.read_replies (replied_all false g.replies (sent_all g.sends s)) (few_replied false g.replies (sent_all g.sends s) (few_sent g.sends s h))

  few_told : (rs : List Told) (s : Loop) → Few s → Few (told_all rs s)
  few_told [] s h = h
  few_told (r ∷ rs) s h = few_told rs (told r.0 r.1 s) h

  few_asked : (read : Bool) (ps : List (ℕ × Key)) (s : Loop) → Few s → Few (asked read ps s)
  few_asked read [] s h = h
  few_asked read (p ∷ ps) s h = few_asked read ps (asked_by_one read p s) h

  few_proposed : (w : Option Wanted) (o : Option Outcome) (s : Loop) → Few s → Few (proposed w o s)
  few_proposed None o s h = h
  few_proposed (Some w) o s h = few_told (said_at_once w o) (asked (is_read w) (keys_that_wait w o) s) (few_asked (is_read w) (keys_that_wait w o) s h)

  few_excused : (w : Option Wanted) (why : Option Refusal) (s : Loop) → Few s → Few (excused w why s)
  few_excused None why s h = h
  few_excused (Some w) why s h = few_told (said_of_denial w why) s h

  few_after : (w : Option Wanted) (i : Input) (f : Fate) (n : Standing) (s : Loop) → Few s → Few (loop_after w i f n s)
  few_after w i done n s h = few_handed (gives n i) (proposed w (gives n i).outcome s) (few_proposed w (gives n i).outcome s h)
  few_after w i (finds d) n s h = few_handed (given_again n d) (proposed w None s) (few_proposed w None s h)
  few_after w i (faults k) n s h = few_excused w (Some (StorageFailed k)) (given_up k s) (few_told (said_of_failure k s.askers) _ h)
  few_after w i (shares k) n s h = few_excused w (Some (StorageFailed k)) s h
  few_after w i damaged n s h = h
  few_after w i lost n s h = few_excused w None s h

  few_after_all : (ts : List Taken) (s : Loop) → Few s → Few (loop_after_all ts s)
  few_after_all [] s h = h
  few_after_all (t ∷ ts) s h = few_after_all ts (loop_after t.wanted t.input t.fate t.before s) (few_after t.wanted t.input t.fate t.before s h)

  -- ---- losses and ends

  few_stopped : (b : Bool) (s : Loop) → Few s → Few (stopped_if b s)
  few_stopped true s h = h
  few_stopped false s h = omega arith

  few_marked : (conn : Option ℕ) (s : Loop) → Few s → Few (marked conn s)
  few_marked conn s h = few_stopped (nat_lt (length s.lost + 1) most_marks) (noted (mark_at s.place conn) s) h

  few_over : (d : ℕ) (o : Option Kind) (s : Loop) → Few s → Few (left_at d o s)
  few_over d None s h = h
  few_over d (Some k) s h = let less = less_without d s.behind in omega (arith, less, h)

  few_one : (o : Option ℕ) (s : Loop) → Few s → Few (lost_one o s)
  few_one None s h = h
  few_one (Some d) s h = few_over d (kind_at d (marked (Some d) s)) (marked (Some d) s) (few_marked (Some d) s h)

  few_settle : (ms : List Mark) (s : Loop) → Few s → Few (settle ms s)
  few_settle [] s h = h
  few_settle (m ∷ ms) s h = few_if (is_due m s) (settle ms (lost_one m.conn s)) s (few_settle ms (lost_one m.conn s) (few_one m.conn s h)) h

  few_taking : (f : Fate) (s : Loop) → Few s → Few (loop_taking f s)
  few_taking f s h = taking_holds Few f s h (few_marked None s h)

  -- ---- all that the loop does

  few_hands : (l : Luck) → Hands l (λ s. Few s.loop) (λ ts s. Few s.loop)
  few_hands l = record {
    begins = λ s h. h;
    takes_one = λ ts who i f s h. few_taking f s.loop h;
    hands = λ ts s h. (let t : Loop = loop_after_all ts s.loop in few_settle (drop (length t.lost) l.marks) t (few_after_all ts s.loop h));
  }

  few_steps : (l : Luck) → Steps l (λ s. Few s.loop)
  few_steps l = steps l (λ s. Few s.loop) (λ ts s. Few s.loop) (few_hands l) (record {
    moves = λ s t u h. few_same s.loop t u.behind h;
    calms = λ s h. few_settle (drop (length s.loop.lost) l.marks) s.loop h;
    downs = λ q s h. enter_holds l (λ s. Few s.loop) (λ ts s. Few s.loop) (few_hands l) [] (input.Down q) s h;
    leaves_one = λ d s h. few_over d (kind_at d s.loop) s.loop h;
  })

  few_hearing : (l : Luck) (e : ℕ) → Hearing l e (λ s. Few s.loop)
  few_hearing l e = record {
    led = record { steps = few_steps l; gathers_one = λ x s h. h; brings_one = λ m s h. h; says_one = λ what s h. h };
    feeds_one = λ bytes s h. h;
    holds_one = λ kind x s y there is h. h;
    links_one = λ q s none h. h;
  }

  few_joined : (l : Luck) (e : ℕ) (kind : Kind) (s : State) → Few s.loop → (b : Bool) → let t : State = if b then s else joined l e kind s in Few t.loop
  few_joined l e kind s h true = h
  few_joined l e kind s h false = (let t : State = noting (begins e (first_bytes kind s.loop.me)) (record s { loop = joining e kind s.loop }) in few_settle (drop (length t.loop.lost) l.marks) t.loop h)

  few_up : (l : Luck) (o : Option ℕ) (s : State) → Few s.loop → Few (up_at l o s).loop
  few_up l None s h = h
  few_up l (Some q) s h = give_holds l (λ s. Few s.loop) (few_steps l) [] (input.Up q) s h

  few_closed : (l : Luck) (line : Standing → List ℕ) → Closed l line (λ s. Few s.loop)
  few_closed l line = record {
    moves = λ s t m h. few_same s.loop t m.behind h;
    accepts = λ e s few h. few_joined l e Unknown s h (is_open e s.loop);
    dials_one = λ q e s few none h. few_joined l e (Peer q hello_len) s h (is_open e s.loop);
    ticks = λ s h. give_holds l (λ s. Few s.loop) (few_steps l) [] input.Tick s h;
    trims = λ s h. give_holds l (λ s. Few s.loop) (few_steps l) [] input.TrimNow s h;
    ends = λ e s h. over_holds l (λ s. Few s.loop) (few_steps l) e s h;
    flushes = λ s h. flushed_holds l (λ s. Few s.loop) (few_steps l) s h;
    has_bytes = λ e bytes s each h. read_holds l line e (λ s. Few s.loop) (few_hearing l e) (replaced_none l) bytes s h;
    took_some = λ e m s le h. few_up l (up_peer (kind_at e s.loop) (kind_at e (taken_by e m s).loop)) (taken_by e m s) h;
  }

-- ---- a run

pub few_wait : (o : Settings) (l : Luck) (line : Standing → List ℕ) (given : List Answer) (p : Pump) → Begins p.driver → FewWaitBehind p.driver.loop → Answers o l line given p
    → FewWaitBehind (after o l line given p).driver.loop
few_wait o l line given p b few is c =
    let g : Goes o l line (λ s. Few c s.loop) (few_closed c l line) p = record { holds = few c; runs = inr (rw b.lost (omega arith)) } in
    (run_kept o l line (λ s. Few c s.loop) (few_closed c l line) given p is g).holds
