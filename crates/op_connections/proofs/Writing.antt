-- The writes of a turn leave a queue only where its last write took nothing.
use Rattle.std.proofs.Common.{◌≡◌, ◌≤◌, ◌<◌, ◌+◌, ◌-◌, ◌∷◌, ◌⊎◌, [], ℕ, zero, suc, Bool, true, false, List, length, take, nat_le, nat_lt, ◌&&◌, ◌==◌, if◌then◌else◌, Option, Some, None, option_map, refl, sym, ◌∙◌, ap, inl, inr, arith}
use Rattle.std.proofs.lemmas.Bool.{cases_eq, cases_lt, ltb-false, le-leb, eqb-false}
use Rattle.std.specs.Map.{keys_of}
use Rattle.op_types.specs.declared.events.Input.TheVariants as input
use Rattle.op_serving.specs.declared.kind.Kind.{Kind}
use Rattle.op_serving.specs.declared.kind.Kind.TheVariants.{Unknown, Peer, Client}
use Rattle.op_serving.specs.declared.session.Session.{Session}
use Rattle.op_serving.specs.State.{Table, Loop, find, kind_at, session_of}
use Rattle.op_serving.specs.Inputs.{State, Luck, all_gathered, released, flushed, over}
use Rattle.op_serving.specs.Turns.{queue_in, waiting_from, hello_less, without_bytes, taken_by, up_peer, up_at, wrote}
use Rattle.op_connections.proofs.Tables.{found_own, found_other, Rising, first_below, first_none}
use Rattle.op_connections.proofs.Walking.{AllGiven, give_holds, given_holds, over_holds}
use Rattle.op_connections.proofs.Fading.{Fades, fades_same, fading, Stays, stays_then, session_found, none_of, over_none}
use Rattle.op_connections.proofs.Registering.{Registered, registered_taken}
use Rattle.op_connections.proofs.Quieting.{stays_up, stays_gone}
use Rattle.op_connections.proofs.Readers.{ReadsAreDone}

-- ---- what is written next

-- nothing waits where nothing is to be written
queue_empty : (y : Session) → queue_in (Some y) ≡ [] → y.queue ≡ []
queue_empty y e = by_kind y.kind e
  where
    by_count : (h : ℕ) (q : List ℕ) → (h ≡ 0 → ⊥) → take h q ≡ [] → q ≡ []
    by_count zero q some f = absurd (some refl)
    by_count (suc h) [] some f = refl
    by_count (suc h) (x ∷ q) some f = absurd cc

    by_hello : (h : ℕ) (b : Bool) → (h == 0) ≡ b → (if b then y.queue else take h y.queue) ≡ [] → y.queue ≡ []
    by_hello h true g f = f
    by_hello h false g f = by_count h y.queue (eqb-false h 0 g) f

    by_kind : (k : Kind) → queue_in (Some (record y { kind = k })) ≡ [] → y.queue ≡ []
    by_kind Unknown f = f
    by_kind (Peer q h) f = by_hello h (h == 0) refl f
    by_kind Client f = f

none_waits : (bytes : List ℕ) → nat_lt 0 (length bytes) ≡ false → bytes ≡ []
none_waits [] e = refl
none_waits (b ∷ bytes) e = absurd (let le = ltb-false 0 (length (b ∷ bytes)) e in omega (arith, le))

module _ (low : ℕ) (t : Table Session) where
  abbrev waits : ℕ → Bool
  waits c = nat_le low c && nat_lt 0 (length (queue_in (find c t)))

  passed : (d : ℕ) (y : Session) → low ≤ d → find d t ≡ Some y → waits d ≡ false → y.queue ≡ []
  passed d y le there e = queue_empty y (none_waits (queue_in (Some y)) (ap (λ o. nat_lt 0 (length (queue_in o))) (sym there) ∙ (rw (le-leb low d le) at e)))

  -- no queue from there on has bytes
  none_left : (d : ℕ) (y : Session) → waiting_from low t ≡ None → low ≤ d → find d t ≡ Some y → y.queue ≡ []
  none_left d y e le there = passed d y le there (first_none waits t d y e there)

  -- nor one before the first that has
  none_before : (c d : ℕ) (y : Session) → Rising (keys_of t) → waiting_from low t ≡ Some c → low ≤ d → d < c → find d t ≡ Some y → y.queue ≡ []
  none_before c d y rising e le lt there = passed d y le there (first_below waits t c d y rising e there lt)

-- ---- what is left

-- each queue below this connection is empty, or its last write took nothing
abbrev pub Written : (ℕ → Bool) → ℕ → Loop → Type 0
Written full low s = (d : ℕ) (y : Session) → d < low → find d s.sessions ≡ Some y → (y.queue ≡ []) ⊎ (full d ≡ true)

abbrev pub AllTaken : (ℕ → Bool) → Loop → Type 0
AllTaken full s = (d : ℕ) (y : Session) → find d s.sessions ≡ Some y → (y.queue ≡ []) ⊎ (full d ≡ true)

pub all_written : (full : ℕ → Bool) (low : ℕ) (s : Loop) → waiting_from low s.sessions ≡ None → Written full low s → AllTaken full s
all_written full low s none w d y there = elim (cases_lt d low) [
  | inl lt ↦ w d y lt there
  | inr le ↦ inl (none_left low s.sessions d y none le there)
]

pub written_to : (full : ℕ → Bool) (low c : ℕ) (s : Loop) → Rising (keys_of s.sessions) → waiting_from low s.sessions ≡ Some c → Written full low s → Written full c s
written_to full low c s rising first w d y lt there = elim (cases_lt d low) [
  | inl less ↦ w d y less there
  | inr le ↦ inl (none_before low s.sessions c d y rising first le lt there)
]

-- others stayed, and so did what is known of them
pub written_stays : (full new : ℕ → Bool) (low : ℕ) (s t : Loop) → ((d : ℕ) → d < low → Stays d s t) → ((d : ℕ) → d < low → new d ≡ full d) → Written full low s → Written new low t
written_stays full new low s t stays same w d y lt there = elim (stays d lt) [
  | inl gone ↦ absurd (let bad : Some y ≡ None = sym there ∙ gone in cc)
  | inr was ↦ rw (same d lt) (w d y lt (sym was ∙ there))
]

-- ---- one write

-- the next connection's last write took nothing
pub written_full : (full new : ℕ → Bool) (c : ℕ) (s : Loop) → ((d : ℕ) → d < c → new d ≡ full d) → new c ≡ true → Written full c s → Written new (c + 1) s
written_full full new c s same is w d y lt there = elim (cases_eq c d) [
  | inl own ↦ inr (ap new (sym own) ∙ is)
  | inr apart ↦ (let less : d < c = below c d apart lt in rw (same d less) (w d y less there))
]
  where
    below : (c d : ℕ) → (c ≡ d → ⊥) → d < c + 1 → d < c
    below c d apart lt = omega arith

-- or it has ended
pub written_gone : (full new : ℕ → Bool) (c : ℕ) (l : Luck) (s : State) → ReadsAreDone s → AllGiven s.loop → ((d : ℕ) → d < c → new d ≡ full d) → Written full c s.loop → Written new (c + 1) (over l c s).loop
written_gone full new c l s reads none same w d y lt there = elim (cases_eq c d) [
  | inl own ↦ absurd (let bad : Some y ≡ None = sym there ∙ ap (λ n. find n (over l c s).loop.sessions) (sym own) ∙ none_of (find c (over l c s).loop.sessions) (over_none c l s) in cc)
  | inr apart ↦ written_stays full new c s.loop (over l c s).loop (λ e less. stays_gone e c l s reads none) same w d y (below c d apart lt) there
]
  where
    below : (c d : ℕ) → (c ≡ d → ⊥) → d < c + 1 → d < c
    below c d apart lt = omega arith

-- the peer that goes up is that of the connection
up_is : (n q : ℕ) (k : Option Kind) → up_peer k (option_map (hello_less n) k) ≡ Some q → (h : ℕ) × (option_map (hello_less n) k ≡ Some (Peer q h))
up_is n q None e = absurd cc
up_is n q (Some Unknown) e = absurd cc
up_is n q (Some (Peer p h)) e = (h - n, ap (λ v. Some (Peer v (h - n))) (by_hello (h == 0) e))
  where
    by_left : (b : Bool) → (if b then Some p else None) ≡ Some q → p ≡ q
    by_left true f = cc
    by_left false f = absurd cc

    by_hello : (b : Bool) → (if b then None else (if h - n == 0 then Some p else None)) ≡ Some q → p ≡ q
    by_hello true f = absurd cc
    by_hello false f = by_left (h - n == 0) f
up_is n q (Some Client) e = absurd cc

-- some bytes were taken
pub written_some : (full new : ℕ → Bool) (c n : ℕ) (l : Luck) (s : State) → Registered s.loop → ReadsAreDone s → ((d : ℕ) → d < c → new d ≡ full d) → Written full c s.loop → Written new c (wrote l c n s).loop
written_some full new c n l s r reads same w = written_stays full new c s.loop (wrote l c n s).loop (λ d lt. others d lt) same w
  where
    t : State
    t = taken_by c n s

    less : (o : Option Session) → option_map (λ (x : Session). x.kind) (option_map (without_bytes n) o) ≡ option_map (hello_less n) (option_map (λ (x : Session). x.kind) o)
    less None = refl
    less (Some y) = refl

    kinds : kind_at c t.loop ≡ option_map (hello_less n) (kind_at c s.loop)
    kinds = ap (option_map (λ (x : Session). x.kind)) (found_own (without_bytes n) c s.loop.sessions) ∙ less (find c s.loop.sessions)

    not_here : (d q : ℕ) → d < c → up_peer (kind_at c s.loop) (kind_at c t.loop) ≡ Some q → session_of q t.loop ≡ Some d → ⊥
    not_here d q lt up e =
        let its = up_is n q (kind_at c s.loop) (ap (up_peer (kind_at c s.loop)) (sym kinds) ∙ up) in
        let named : find q t.loop.peers ≡ Some (Some d) = session_found q d t.loop e in
        elim ((registered_taken c n s r).named q c its.0 (kinds ∙ its.1)) [
          | inl none ↦ (let bad : None ≡ Some (Some d) = sym none ∙ named in cc)
          | inr own ↦ (let one : Some (Some c) ≡ Some (Some d) = sym own ∙ named in let same_conn : c ≡ d = cc in omega (arith, same_conn, lt))
        ]

    upped : (d : ℕ) → d < c → (o : Option ℕ) → up_peer (kind_at c s.loop) (kind_at c t.loop) ≡ o → Stays d t.loop (up_at l o t).loop
    upped d lt None e = inr refl
    upped d lt (Some q) e = stays_up d q l t reads (not_here d q lt e)

    others : (d : ℕ) → d < c → Stays d s.loop (wrote l c n s).loop
    others d lt = stays_then d s.loop t.loop (wrote l c n s).loop (inr (found_other (without_bytes n) d c s.loop.sessions (λ e. omega (arith, e, lt)))) (upped d lt (up_peer (kind_at c s.loop) (kind_at c t.loop)) refl)

-- ---- what is gathered

pub none_over : (c : ℕ) (l : Luck) (s : State) → AllGiven s.loop → AllGiven (over l c s).loop
none_over c l s none = (over_holds l (λ v. Fades 0 s.loop v.loop) (fading 0 l s.loop) c s (fades_same 0 s.loop s.loop refl refl (λ h. h))).given none

none_up : (l : Luck) (o : Option ℕ) (s : State) → AllGiven s.loop → AllGiven (up_at l o s).loop
none_up l None s none = none
none_up l (Some q) s none = (give_holds l (λ v. Fades 0 s.loop v.loop) (fading 0 l s.loop) [] (input.Up q) s (fades_same 0 s.loop s.loop refl refl (λ h. h))).given none

pub none_wrote : (c n : ℕ) (l : Luck) (s : State) → AllGiven s.loop → AllGiven (wrote l c n s).loop
none_wrote c n l s none = none_up l (up_peer (kind_at c s.loop) (kind_at c (taken_by c n s).loop)) (taken_by c n s) none

pub none_flushed : (l : Luck) (s : State) → AllGiven (flushed l s).loop
none_flushed l s =
    let u : State = released s in
    (given_holds l (λ v. Fades 0 u.loop v.loop) (fading 0 l u.loop) (all_gathered s.loop) u (fades_same 0 u.loop u.loop refl refl (λ h. h))).given (refl, refl)
