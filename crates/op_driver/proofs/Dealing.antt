-- What stands at the front of a session is dealt with.
use Rattle.std.proofs.Common.{◌≡◌, ◌<◌, ◌+◌, ◌++◌, ◌∷◌, ◌⊎◌, [], ℕ, zero, suc, add-one, Bool, true, false, List, length, Option, Some, None, is_some, option_map, Result, Ok, nat_lt, if◌then◌else◌, refl, sym, ◌∙◌, ap, subst, inl, inr, arith}
use Rattle.std.specs.declared.alloc.AllocError.{AllocError}
use Rattle.op_types.specs.declared.events.Input.TheVariants as input
use Rattle.op_queues.specs.declared.front.Front.{Front}
use Rattle.op_queues.specs.declared.front.Front.TheVariants as found
use Rattle.op_serving.specs.declared.hearing.Heard.{Heard}
use Rattle.op_serving.specs.declared.kind.Kind.{Kind}
use Rattle.op_serving.specs.declared.kind.Kind.TheVariants.{Unknown, Peer}
use Rattle.op_serving.specs.declared.session.Session.{Session}
use Rattle.op_serving.specs.Cores.{Standing}
use Rattle.op_serving.specs.State.{Table, Loop, find, set, changed, changed_at, is_open, is_overfull, most_waiting, down_of, left_at, left_by}
use Rattle.op_serving.specs.Losses.{most_marks, mark_at, noted as noted_mark, stopped_if, lost_by, settled, IsCalm, Foretells, Grew, Stays}
use Rattle.op_serving.specs.Inputs.{Deed, hears, State, Luck, noting, give, over, drained, rest}
use Rattle.op_serving.specs.Reading.{on_heard, of_kind, holding, links, linked, is_peer, frames_at, at_frame, held_in, feeding, feeds, counted_if, up_if_open, met, dealt_front, dealt_at, dealt, read}
use Rattle.op_queues.specs.Hearing.{Alike, TakesOut}
use Rattle.op_driver.specs.Driver.{Served, Chance, Any, Stores, Run, with_deeds, Acts, Does, Gives, Drained, Loses, IsDrained, Rests}
use Rattle.op_driver.specs.Dealing.{TakesOn, makes_way, Handles, Next, Ends, Taken, framed, greeted, fronted, Deals, DealsAll}
use Rattle.op_queues.proofs.Tables.{same_or_not, find_set, find_set_apart, without_set, found_changed}
use Rattle.op_queues.proofs.Settling.{grew_still, lost_first}
use Rattle.op_driver.proofs.Calm.{grew_on, calm_same, calm_frame}
use Rattle.op_driver.proofs.Stepping.{run_then, run_as, run_any, run_from, run_still, at_once, noted}
use Rattle.op_driver.proofs.Draining.{rest_still}
use Rattle.op_driver.proofs.Handling.{rests_stays, rests_then}

-- ---- what was found was dealt with

module _ {K : Type 0} {stores : Stores K} {c n : ℕ} {d e : Served K} where
  -- its session was lost
  pub taken_lost : {f : Luck → Next → State → State} → Loses stores c d e → Taken stores f c n None d e
  taken_lost h = record { is = inl h; rests = rests_stays h.stays h.none; counts = tt }

  -- it was refused
  pub taken_over : Does stores (λ l s. over l c s) d e → Rests d.loop e.loop → Taken stores (λ l more s. over l c s) c n None d e
  taken_over a rests = record { is = inr (run_as (λ l s t. (more : Next) → over l c s ≡ t) a (λ l before zs k end x more. x)); rests = rests; counts = tt }

module _ {K : Type 0} {stores : Stores K} {line : Standing → List ℕ} {c n : ℕ} {heard : Heard} where
  -- a frame was dealt with, and its session is still there: it is counted, and what is overfull then ends
  pub frame_counts : {d m u e : Served K} → Handles stores line c heard d m → d.loop.place.frames ≡ n → is_open c m.loop ≡ true → u ≡ record m { loop = frames_at (n + 1) m.loop }
      → Drained stores u e → Stays u.loop e.loop → IsDrained e.loop → Taken stores (framed line c heard n) c n (Some (n + 1)) d e
  frame_counts {d} {m} {u} {e} h at there is b stays none =
      let s : Loop = frames_at (n + 1) m.loop in
      let frames : m.loop.place.frames ≡ n = h.stays.frames ∙ at in
      let up : m.loop.place.frames < n + 1 = omega (arith, frames) in
      let grew : Grew m.loop s = grew_on m.loop s refl (inr (refl, inr (refl, omega arith, omega (arith, up)))) (omega arith) in
      let behind = run_then (λ l v t. rest l (at_frame (n + 1) v) ≡ rest l t) (at_once IsCalm Any (at_frame (n + 1)) {d = m} is grew (λ marks f h. calm_frame marks (n + 1) m.loop up f) (λ before. refl)) b.run
      (λ l before xs zs k mid end x y. ap (rest l) x ∙ y) in
      let still : Stays s e.loop = subst (λ (x : Served K). Stays x.loop e.loop) is stays in
      record {
        is = run_then (λ l v t. (more : Next) → framed line c heard n l more v ≡ more (n + 1) (rest l t)) h.does behind (λ l before xs zs k mid end x y more.
            ap (counted_if l line c more n) x ∙ ap (λ o. if o then more (n + 1) (rest l (at_frame (n + 1) (with_deeds xs m))) else with_deeds xs m) there ∙ ap (more (n + 1)) y);
        rests = record { turn = still.turn ∙ h.stays.turn; at = still.at ∙ h.stays.at; none = none };
        counts = (still.frames, omega arith);
      }

-- ---- a hello

module _ {K : Type 0} {stores : Stores K} (line : Standing → List ℕ) (c n q : ℕ) {d m : Served K} (peer : is_peer q d.loop ≡ true) (a : Does stores (λ l s. makes_way l c q s) d m) (stays : Stays d.loop m.loop) where
  greets : (l : Luck) (more : Next) (s t : State) → s.loop ≡ d.loop → makes_way l c q s ≡ t → greeted line c q n l more s ≡ up_if_open l line c more n q t
  greets l more s t is x = ap (λ b. if b then met l line c more n q s else over l c s) (ap (is_peer q) is ∙ peer) ∙ ap (up_if_open l line c more n q) x

  pub greet_closed : IsDrained m.loop → is_open c m.loop ≡ false → Taken stores (greeted line c q n) c n None d m
  greet_closed none closed = record {
    is = inr (run_as (λ l s t. (more : Next) → greeted line c q n l more s ≡ t) a (λ l before zs k end x more.
        greets l more (with_deeds before d) (with_deeds zs m) refl x ∙ ap (λ b. if b then more n (give l [] (input.Up q) (linked q c (with_deeds zs m))) else with_deeds zs m) closed));
    rests = rests_stays stays none;
    counts = tt;
  }

  pub greet_goes : {u e : Served K} → d.loop.place.frames ≡ n → is_open c m.loop ≡ true → u ≡ record m { loop = links q c m.loop } → Gives stores (λ l s. give l [] (input.Up q) s) u e → Taken stores (greeted line c q n) c n (Some n) d e
  greet_goes {u} {e} at there is g =
      let s : Loop = links q c m.loop in
      let opens : (x : ℕ) → is_open x s ≡ is_open x m.loop = λ x. found_changed (λ (z : Session). record z { kind = Peer q 0 }) c x m.loop.sessions in
      let behind = run_then (λ l v t. give l [] (input.Up q) (linked q c v) ≡ rest l t) (at_once IsCalm IsCalm (linked q c) {d = m} is (grew_still refl refl) (λ marks f h. calm_same marks m.loop s refl refl opens h) (λ before. refl)) g.run
      (λ l before xs zs k mid end x y. ap (give l [] (input.Up q)) x ∙ y) in
      let still : Stays s e.loop = subst (λ (x : Served K). Stays x.loop e.loop) is g.stays in
      record {
        is = run_then (λ l v t. (more : Next) → greeted line c q n l more v ≡ more n (rest l t)) a behind (λ l before xs zs k mid end x y more.
            greets l more (with_deeds before d) (with_deeds xs m) refl x ∙ ap (λ b. if b then more n (give l [] (input.Up q) (linked q c (with_deeds xs m))) else with_deeds xs m) there ∙ ap (more n) y);
        rests = record { turn = still.turn ∙ stays.turn; at = still.at ∙ stays.at; none = g.none };
        counts = (still.frames ∙ stays.frames ∙ at, omega arith);
      }

-- ---- what a session has read, and whose it is, matters to no loss

-- as much waits as before
over_set : (c n : ℕ) (x y : Session) (t : Table Session) → find c t ≡ Some x → is_overfull (Some y) ≡ is_overfull (Some x) → is_overfull (find n (set c y t)) ≡ is_overfull (find n t)
over_set c n x y t e same = elim (same_or_not c n) [
  | inl is ↦ ap (λ k. is_overfull (find k (set c y t))) (sym is) ∙ ap is_overfull (find_set c y x t e) ∙ same ∙ sym (ap is_overfull e) ∙ ap (λ k. is_overfull (find k t)) is
  | inr apart ↦ ap is_overfull (find_set_apart c n y t apart)
]

abbrev with_session : ℕ → Session → Loop → Loop
with_session c y s = record s { sessions = set c y s.sessions }

left_alike : (c : ℕ) (x y : Session) (s : Loop) → find c s.sessions ≡ Some x → Alike x y → left_by c (with_session c y s) ≡ left_by c s
left_alike c x y s e a =
    ap (λ o. left_at c (option_map (λ (z : Session). z.kind) o) (with_session c y s)) (find_set c y x s.sessions e)
    ∙ ap (λ t. record (left_at c (Some x.kind) s) { sessions = t; downs = s.downs ++ down_of y.kind }) (without_set c y s.sessions)
    ∙ ap (λ t. record (left_at c (Some x.kind) s) { downs = s.downs ++ t }) a.down
    ∙ sym (ap (λ o. left_at c (option_map (λ (z : Session). z.kind) o) s) e)

lost_alike : (c : ℕ) (x y : Session) (s : Loop) → find c s.sessions ≡ Some x → Alike x y → lost_by c (with_session c y s) ≡ lost_by c s
lost_alike c x y s e a = by_marks (nat_lt (length s.lost + 1) most_marks)
  where
    by_marks : (b : Bool) → left_by c (stopped_if b (noted_mark (mark_at s.place (Some c)) (with_session c y s))) ≡ left_by c (stopped_if b (noted_mark (mark_at s.place (Some c)) s))
    by_marks true = left_alike c x y (noted_mark (mark_at s.place (Some c)) s) e a
    by_marks false = refl

-- a table that is as good to a loss of this session
record Same (c : ℕ) (s : Loop) (t : Table Session) : Type 0 where
  opens : (n : ℕ) → is_some (find n t) ≡ is_some (find n s.sessions)
  over : (n : ℕ) → is_overfull (find n t) ≡ is_overfull (find n s.sessions)
  lost : lost_by c (record s { sessions = t }) ≡ lost_by c s

same_set : (c : ℕ) (x y : Session) (s : Loop) → find c s.sessions ≡ Some x → Alike x y → Same c s (set c y s.sessions)
same_set c x y s e a = record {
  opens = λ n. ap (λ o. is_some (find n (changed_at (λ _. y) c o s.sessions))) (sym e) ∙ found_changed (λ _. y) c n s.sessions;
  over = λ n. over_set c n x y s.sessions e (ap (λ q. nat_lt most_waiting (length q)) a.queue);
  lost = lost_alike c x y s e a;
}

same_taken : (c : ℕ) (s : Loop) (r : Result Front AllocError) (t : Table Session) (o : Option Session) → find c s.sessions ≡ o → TakesOut c s.me o s.sessions r t → Same c s t
same_taken c s r t None look takes = subst (λ u. Same c s u) (sym takes.1) (record { opens = λ n. refl; over = λ n. refl; lost = refl })
same_taken c s r t (Some x) look takes = subst (λ u. Same c s u) (sym takes.3) (same_set c x takes.0 s look takes.2)

same_fed : (c : ℕ) (bytes : List ℕ) (s : Loop) (o : Option Session) → find c s.sessions ≡ o → Same c s (changed_at (feeding bytes) c o s.sessions)
same_fed c bytes s None e = record { opens = λ n. refl; over = λ n. refl; lost = refl }
same_fed c bytes s (Some x) e = same_set c x (feeding bytes x) s e (record { queue = refl; down = refl })

pub drained_fed : (c : ℕ) (bytes : List ℕ) (s : Loop) → IsDrained s → IsDrained (feeds c bytes s)
drained_fed c bytes s none = (none.0, λ n. (same_fed c bytes s (find c s.sessions) refl).over n ∙ none.1 n)

module _ {K : Type 0} {stores : Stores K} {c : ℕ} {m e : Served K} (a : Loses stores c m e) where
  -- where a session is lost, one as good as it is lost
  lost_rest : (s : Loop) → lost_by c m.loop ≡ lost_by c s → is_open c m.loop ≡ is_open c s → m.loop.lost ≡ s.lost → (l : Luck) (n : Standing) (ds : List Deed) → Foretells l.marks e.loop
      → rest l (record { loop = s; node = n; deeds = ds }) ≡ rest l (record { loop = m.loop; node = n; deeds = ds })
  unfolding rest
  lost_rest s same opens lost l n ds f =
      let f_m : Foretells l.marks (lost_by c m.loop) = a.marked l.marks f in
      let first : settled l.marks s ≡ settled l.marks (lost_by c s) = lost_first c s l.marks (sym opens ∙ a.there) (subst (λ x. length x < most_marks) lost a.few) (subst (λ (x : Loop). Foretells l.marks x) same f_m) in
      ap (λ (x : Loop). drained l (record { loop = x; node = n; deeds = ds })) (first ∙ ap (settled l.marks) (sym same) ∙ sym (lost_first c m.loop l.marks a.there a.few f_m))

-- ---- what stood at the front

-- what is done with what was found
abbrev found_goes : (Standing → List ℕ) → ℕ → ℕ → Front → Luck → Next → State → State
found_goes line c n found.Waits l more s = s
found_goes line c n found.Refused l more s = over l c s
found_goes line c n (found.Hello q) l more s = greeted line c q n l more s
found_goes line c n (found.Frame heard) l more s = framed line c heard n l more s

module _ (line : Standing → List ℕ) (c n : ℕ) (l : Luck) (more : Next) (s : State) where
  abbrev with_table : Table Session → State
  with_table t = record s { loop = record s.loop { sessions = t } }

  set_is : (kind : Kind) (x y : Session) (t : Table Session) → find c s.loop.sessions ≡ Some x → (g : Session → Session) → y ≡ g x → t ≡ set c y s.loop.sessions → changed g c s.loop.sessions ≡ t
  set_is kind x y t look g y_is t_is = ap (λ o. changed_at g c o s.loop.sessions) look ∙ ap (λ z. set c z s.loop.sessions) (sym y_is) ∙ sym t_is

  front_is : (f : Front) (t : Table Session) (o : Option Session) → find c s.loop.sessions ≡ o → TakesOut c s.loop.me o s.loop.sessions (Ok f) t → dealt_at l line c more n o s ≡ found_goes line c n f l more (with_table t)
  front_is found.Waits t None look takes = ap with_table (sym takes.1)
  front_is f t None look takes = absurd (let k = takes.0 in cc)
  front_is found.Waits t (Some x) look takes =
      let k = takes.1 in ap (λ w. dealt_front l line c more n w s) k.2 ∙ ap with_table (set_is k.0 x takes.0 t look (of_kind k.0 k.1) k.3 takes.3)
  front_is found.Refused t (Some x) look takes =
      let k = takes.1 in ap (λ w. dealt_front l line c more n w s) k.2 ∙ ap (λ u. over l c (with_table u)) (set_is k.0 x takes.0 t look (of_kind k.0 k.1) k.3 takes.3)
  front_is (found.Hello q) t (Some x) look takes =
      let k = takes.1 in ap (λ w. dealt_front l line c more n w s) k.1 ∙ ap (λ u. greeted line c q n l more (with_table u)) (set_is Unknown x takes.0 t look (of_kind Unknown k.0) k.2 takes.3)
  front_is (found.Frame heard) t (Some x) look takes =
      let k = takes.1 in
      ap (λ w. dealt_front l line c more n w s) k.3
      ∙ ap (λ w. counted_if l line c more n (on_heard l line c w (holding c k.0 k.2 s))) (sym k.5)
      ∙ ap (λ u. framed line c heard n l more (with_table u)) (set_is k.0 x takes.0 t look (of_kind k.0 k.2) k.4 takes.3)

module _ {K : Type 0} {c : ℕ} {r : Result Front AllocError} {v m : Served K} (t : TakesOn c v r m) where
  same_of : Same c v.loop m.loop.sessions
  same_of = same_taken c v.loop r m.loop.sessions (find c v.loop.sessions) refl t.takes.takes

  whole_of : m ≡ record v { loop = record v.loop { sessions = m.loop.sessions } }
  whole_of =
      ap (λ (x : Loop). record m { loop = x }) t.takes.rest
      ∙ ap (λ n. record m { loop = record v.loop { sessions = m.loop.sessions }; node = n }) t.node
      ∙ ap (λ (k : K). record v { loop = record v.loop { sessions = m.loop.sessions }; core = k }) t.core

  -- nor does it make any overfull
  pub drained_taken : IsDrained v.loop → IsDrained m.loop
  drained_taken none = (ap (λ (s : Loop). s.downs) t.takes.rest ∙ none.0, λ n. same_of.over n ∙ none.1 n)

  -- whose session is there
  pub open_taken : (r ≡ Ok found.Waits → ⊥) → is_open c m.loop ≡ true
  open_taken other = by_session (find c v.loop.sessions) refl t.takes.takes
    where
      by_session : (o : Option Session) → find c v.loop.sessions ≡ o → TakesOut c v.loop.me o v.loop.sessions r m.loop.sessions → is_some (find c m.loop.sessions) ≡ true
      by_session None look takes = absurd (other takes.0)
      by_session (Some x) look takes = same_of.opens c ∙ ap is_some look

  rests_of : (s : Loop) → Rests m.loop s → Rests v.loop s
  rests_of s a = record { turn = a.turn ∙ ap (λ (x : Loop). x.place.turn) t.takes.rest; at = a.at ∙ ap (λ (x : Loop). x.place.at) t.takes.rest; none = a.none }

  -- it was taken
  abbrev take : State → State
  take u = record u { loop = record u.loop { sessions = m.loop.sessions } }

  take_run : {stores : Stores K} → Run stores IsCalm IsCalm (λ l s u. take s ≡ u) v m
  take_run = at_once IsCalm IsCalm take whole_of (grew_still refl refl) (λ marks f h. calm_same marks v.loop (record v.loop { sessions = m.loop.sessions }) refl refl same_of.opens h) (λ before. refl)

module _ {K : Type 0} {stores : Stores K} {line : Standing → List ℕ} {c n : ℕ} {v e : Served K} where
  deals_last : {A : Chance} → Run stores A IsCalm (λ l s u. (more : Next) → fronted line c n l more s ≡ u) v e → Rests v.loop e.loop → Deals stores line c n None v e
  deals_last r rests = record { is = run_from r; rests = rests; counts = tt }

module _ {K : Type 0} (line : Standing → List ℕ) (n : ℕ) {c : ℕ} {v m : Served K} where
  fronts : {f : Front} (t : TakesOn c v (Ok f) m) → IsDrained v.loop → (l : Luck) (before : List Deed) (more : Next) → IsCalm l.marks m.loop → fronted line c n l more (with_deeds before v) ≡ found_goes line c n f l more (take t (with_deeds before v))
  fronts {f} t none l before more mid =
      let calm_v : IsCalm l.marks v.loop = calm_same l.marks v.loop m.loop (ap (λ (z : Loop). z.lost) t.takes.rest) (ap (λ (z : Loop). z.place) t.takes.rest) (same_of t).opens mid in
      ap (λ s. dealt_at l line c more n (find c s.loop.sessions) s) (rest_still l (with_deeds before v) calm_v none)
      ∙ front_is line c n l more (with_deeds before v) f m.loop.sessions (find c v.loop.sessions) refl t.takes.takes

module _ {K : Type 0} {stores : Stores K} {line : Standing → List ℕ} {c n : ℕ} {v m e : Served K} where
  -- what finds no memory
  pub deals_lost : {r : Result Front AllocError} → TakesOn c v r m → Loses stores c m e → Deals stores line c n None v e
  deals_lost t a =
      deals_last (run_then (λ l s u. (more : Next) → fronted line c n l more s ≡ u) (at_once Any Any (take t) (whole_of t) (grew_still refl refl) (λ marks f h. tt) (λ before. refl)) (run_any a.run) (λ l before xs zs k mid end x y more.
      let s : State = rest l (with_deeds before v) in
      let whole : record { loop = m.loop; node = v.node; deeds = before } ≡ with_deeds xs m = ap (λ (z : Loop). record { loop = z; node = v.node; deeds = before }) t.takes.rest ∙ x in
      let first : s ≡ rest l (with_deeds xs m) = lost_rest a v.loop (ap (lost_by c) t.takes.rest ∙ (same_of t).lost) ((same_of t).opens c) (ap (λ (z : Loop). z.lost) t.takes.rest) l v.node before k.marks ∙ ap (rest l) whole in
      let closed : find c s.loop.sessions ≡ None = ap (λ (z : State). find c z.loop.sessions) first ∙ y.1 in
      ap (λ o. dealt_at l line c more n o s) closed ∙ first ∙ y.0 ∙ rest_still l (with_deeds zs e) end a.none)) (rests_of t e.loop (rests_stays a.stays a.none))

  -- what was found was dealt with
  pub deals : {f : Front} {k : Option ℕ} → TakesOn c v (Ok f) m → IsDrained v.loop → Taken stores (found_goes line c n f) c n k m e → Deals stores line c n k v e
  deals {f} {k = None} t none b = by_end b.is
    where
      by_end : Loses stores c m e ⊎ Ends stores IsCalm (found_goes line c n f) m e → Deals stores line c n None v e
      by_end (inl a) = deals_lost t a
      by_end (inr a) = deals_last (run_then (λ l s u. (more : Next) → fronted line c n l more s ≡ u) (take_run t) a (λ l before xs zs k mid end x y more.
          fronts line n t none l before more mid ∙ ap (found_goes line c n f l more) x ∙ y more)) (rests_of t e.loop b.rests)
  deals {f} {k = Some k} t none b = record {
    is = run_from (run_then (λ l s u. (more : Next) → fronted line c n l more s ≡ more k (rest l u)) (take_run t) b.is (λ l before xs zs kn mid end x y more.
        fronts line n t none l before more mid ∙ ap (found_goes line c n f l more) x ∙ y more));
    rests = rests_of t e.loop b.rests;
    counts = b.counts;
  }

module _ {K : Type 0} {stores : Stores K} {line : Standing → List ℕ} {c n : ℕ} {v m : Served K} where
  -- it waits for more
  pub deals_waits : TakesOn c v (Ok found.Waits) m → IsDrained v.loop → Deals stores line c n None v m
  deals_waits t none = deals_last (run_as (λ l s u. (more : Next) → fronted line c n l more s ≡ u) (take_run t) (λ l before zs k end x more. fronts line n t none l before more end ∙ x)) (rests_of t m.loop (record { turn = refl; at = refl; none = drained_taken t none }))

-- ---- one after the other

module _ (line : Standing → List ℕ) (c most : ℕ) where
  -- dealing with all that stands there goes on so
  abbrev pub Reached : ℕ → ℕ → Luck → State → State → Type 0
  Reached left n l s t = dealt l line c most 0 (rest l s) ≡ dealt l line c left n (rest l t)

dealt_more : (l : Luck) (line : Standing → List ℕ) (c k n left : ℕ) (t : State) → left ≡ k + 1 → dealt l line c left n t ≡ dealt_at l line c (dealt l line c k) n (find c t.loop.sessions) t
dealt_more l line c k n left t e = ap (λ j. dealt l line c j n t) (e ∙ add-one k)

module _ {K : Type 0} {stores : Stores K} (line : Standing → List ℕ) (c most : ℕ) where
  pub reached_start : (d : Served K) → Run stores Any Any (Reached line c most most 0) d d
  reached_start d = run_still d (λ marks h. h) (λ l before. refl)

module _ {K : Type 0} {stores : Stores K} {line : Standing → List ℕ} {c : ℕ} (most : ℕ) where
  pub reached_more : (k : ℕ) {left n m : ℕ} {d v e : Served K} → left ≡ k + 1 → Run stores Any Any (Reached line c most left n) d v → Deals stores line c n (Some m) v e → Run stores Any Any (Reached line c most k m) d e
  reached_more k {left} {n} {m} {d} {v} {e} back a b =
      run_then (Reached line c most k m) a b.is (λ l before xs zs kn mid end x y. x ∙ dealt_more l line c k n left (rest l (with_deeds xs v)) back ∙ y (dealt l line c k))

module _ {K : Type 0} {stores : Stores K} {line : Standing → List ℕ} {c most : ℕ} where
  pub reached_end : (k : ℕ) {left n : ℕ} {d v e : Served K} → left ≡ k + 1 → Run stores Any Any (Reached line c most left n) d v → Rests d.loop v.loop → Deals stores line c n None v e → DealsAll stores line c most d e
  reached_end k {left} {n} {d} {v} {e} back a rests b = record {
    run = run_then (λ l s t. dealt l line c most 0 (rest l s) ≡ t) a b.is (λ l before xs zs kn mid end x y. x ∙ dealt_more l line c k n left (rest l (with_deeds xs v)) back ∙ y (dealt l line c k));
    rests = rests_then rests b.rests;
  }

  pub reached_all : (n : ℕ) {left : ℕ} {d v : Served K} → left ≡ 0 → Run stores Any Any (Reached line c most left n) d v → Rests d.loop v.loop → DealsAll stores line c most d v
  reached_all n {left} {d} {v} none a rests = record {
    run = run_as (λ l s t. dealt l line c most 0 (rest l s) ≡ t) (run_any a) (λ l before zs k end x.
        x ∙ ap (λ j. dealt l line c j n (rest l (with_deeds zs v))) none ∙ rest_still l (with_deeds zs v) end rests.none);
    rests = rests;
  }

  -- ---- a read

  pub reads_all : {bytes : List ℕ} {d m e : Served K} → m ≡ record d { loop = feeds c bytes d.loop } → most ≡ held_in (find c m.loop.sessions) → DealsAll stores line c most m e → Acts stores (λ l s. read l line c bytes s) d e
  reads_all {bytes} {d} {m} {e} is count a =
      let fed : State → State = λ s. noting (hears c bytes) (record s { loop = feeds c bytes s.loop }) in
      run_then (λ l s t. read l line c bytes s ≡ t) (noted Any Any fed (hears c bytes) refl is (grew_still refl refl) (λ marks f h. tt) (λ before. refl)) a.run (λ l before xs zs k mid end x y.
      ap (λ t. dealt l line c (held_in (find c t.loop.sessions)) 0 (rest l t)) x ∙ ap (λ n. dealt l line c n 0 (rest l (with_deeds xs m))) (sym count) ∙ y)

dealt_closed : (l : Luck) (line : Standing → List ℕ) (c k n : ℕ) (t : State) → find c t.loop.sessions ≡ None → dealt l line c k n t ≡ t
dealt_closed l line c zero n t e = refl
dealt_closed l line c (suc k) n t e = ap (λ o. dealt_at l line c (dealt l line c k) n o t) e

module _ {K : Type 0} {stores : Stores K} where
  -- what was read found no memory
  pub reads_none : (line : Standing → List ℕ) (c : ℕ) (bytes : List ℕ) (d e : Served K) → Loses stores c d e → Acts stores (λ l s. read l line c bytes s) d e
  reads_none line c bytes d e a =
      let fed : Loop = feeds c bytes d.loop in
      let same : Same c d.loop fed.sessions = same_fed c bytes d.loop (find c d.loop.sessions) refl in
      run_then (λ l s t. read l line c bytes s ≡ t) (noted Any Any (noting (hears c bytes)) (hears c bytes) refl {d = d} {s = d.loop} refl (grew_still refl refl) (λ marks f h. tt) (λ before. refl)) (run_any a.run) (λ l before xs zs k mid end x y.
      let u : State = record { loop = fed; node = d.node; deeds = before ++ hears c bytes ∷ [] } in
      let as_lost : rest l u ≡ rest l (with_deeds xs d) = lost_rest a fed (sym same.lost) (sym (same.opens c)) refl l d.node (before ++ hears c bytes ∷ []) k.marks ∙ ap (rest l) x in
      dealt_closed l line c (held_in (find c fed.sessions)) 0 (rest l u) (ap (λ (z : State). find c z.loop.sessions) as_lost ∙ y.1) ∙ as_lost ∙ y.0 ∙ rest_still l (with_deeds zs e) end a.none)
