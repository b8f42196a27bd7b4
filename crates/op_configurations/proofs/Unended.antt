-- What a part has decided doesn't end in a stop-sign: such a part is closed at once.
use Rattle.std.proofs.Common.{◌≡◌, ℕ, suc, ◌+◌, List, [], ◌∷◌, length, ◌&&◌, ◌==◌, take, refl, sym, ap, ◌∙◌, subst, Option, Some, None}
use Rattle.std.specs.Prelude.{slice_get, nat_eq, nat_lt, nat_le, not, ◌||◌, is_some, Bool, true, false}
use Rattle.std.specs.Set.{is_member}
use Rattle.std.proofs.lemmas.Bool.{cond_both}
use Rattle.op_types.specs.declared.log.Entry.{Entry}
use Rattle.op_types.specs.declared.log.StopSign.{StopSign}
use Rattle.op_spec.specs.Machine.{stop_at_end, with_at}
use Rattle.op_paxos.specs.Messages.{Msg, Effect}
use Rattle.op_paxos.specs.Worlds as paxos
use Rattle.op_paxos.specs.Worlds.{Input, Elected, Proposal, Comes, Up, CutOff, Down, Starts, TrimNow}
use Rattle.op_paxos.proofs.Updates.{upd_both}
use Rattle.op_configurations.specs.Servers.{Part, Closed, Joining, State, Letter, Body, Inner, HeartbeatRequest, HeartbeatReply, NextConf, AskBase, BasePart, BasePiece, AskSegment, Segment, Fate, Done as ServerDone, Stopped as ServerStopped, Stepped, Event, Ticks, TicksAlone, Proposes, Trims, Links, Unlinks, Reads, new_part, closed_of, close_with, acted, acted_in, restarted, with_joining, invited, joined_list, started, based, got_segment, inner, answers_beat, takes, is_request, sought, seeks, reads, is_for_joining, is_ahead, latest, fated, decided_list, led, ticks_in, ticks_alone_in, links_in, step, may_propose, ReadsLong, staged_piece, has_all, completed, is_piece, pieced, asks_base, answers_long, without_pieces, Notes}
use Rattle.op_configurations.specs.Worlds.{Life, Running, Down as IsDown, Server, World, Happening, At, Delivers, Stops, Opens, is_letter, stepped, at_server, delivered, stops, found, opening_fate, opened, opens, happens, run, start, DeliversLong}
use Rattle.op_configurations.proofs.Fronts.{none_some, some_same}
use Rattle.op_configurations.proofs.Keeping.{quiet_vote}
use Rattle.op_configurations.proofs.Rising.{invited_same}

-- the part goes on
abbrev pub Unended : State → Type 0
Unended st = (pt : Part) → st.part ≡ Some pt → stop_at_end (decided_list pt.node) ≡ None

-- the same, of a part that there may be
abbrev OptionUnended : Option Part → Type 0
OptionUnended o = (pt : Part) → o ≡ Some pt → stop_at_end (decided_list pt.node) ≡ None

none_unended : OptionUnended None
none_unended pt e = absurd (none_some pt e)

new_unended : (c : ℕ) (members : List ℕ) → OptionUnended (Some (new_part c members))
new_unended c members pt e = subst (λ (x : Part). stop_at_end (decided_list x.node) ≡ None) (some_same (new_part c members) pt e) refl

same_unended : (st st' : State) → st'.part ≡ st.part → Unended st → Unended st'
same_unended st st' e h pt has = h pt (sym e ∙ has)

-- ---- steps

closing : (p : ℕ) (st : State) (pt : Part) (o : Option StopSign) → stop_at_end (decided_list pt.node) ≡ o → Unended (close_with p st pt o).state
unfolding close_with
closing p st pt None e = λ x has. subst (λ (y : Part). stop_at_end (decided_list y.node) ≡ None) (some_same pt x has) e
closing p st pt (Some s) e =
    let k : Closed = closed_of pt s in
    cond_both (is_member nat_eq k.next p) (Some (new_part (suc pt.conf) k.next)) None OptionUnended (λ _. new_unended (suc pt.conf) k.next) (λ _. none_unended)

acted_unended : (f : Fate) (p : ℕ) (st : State) (pt : Part) (n : ℕ) (i : Input) → Unended (acted f p st pt n i).state
unfolding acted
acted_unended f p st pt n i =
    let o : Effect = fated f (paxos.step pt.members p pt.node i) in
    closing p st (record { conf = pt.conf; members = pt.members; node = o.node }) (stop_at_end (decided_list o.node)) refl

acted_in_unended : (f : Fate) (p : ℕ) (st : State) → Unended st → (o : Option Part) (i : Input) → Unended (acted_in f p st o i).state
acted_in_unended f p st h None i = h
acted_in_unended f p st h (Some pt) i = acted_unended f p st pt 0 i

pub restarted_unended : (f : Fate) (p : ℕ) (st : State) → Unended st → (o : Option Part) → st.part ≡ o → Unended (restarted f p st o).state
unfolding restarted
restarted_unended f p st h None has = h
restarted_unended f p st h (Some pt) has =
    let o : Effect = fated f (paxos.step pt.members p pt.node Starts) in
    let v = quiet_vote f pt.members p pt.node Starts tt in
    let same : decided_list o.node ≡ decided_list pt.node = ap (λ (k : ℕ). take k (o.node).log) v.decided ∙ ap (λ (l : List Entry). take (pt.node).decided l) v.log in
    λ x e. subst (λ (y : Part). stop_at_end (decided_list y.node) ≡ None) (some_same (record { conf = pt.conf; members = pt.members; node = o.node }) x e)
    (ap (λ (l : List Entry). stop_at_end l) same ∙ h pt has)

module _ (f : Fate) (p : ℕ) (st : State) (h : Unended st) where
  started_unended : (j : Joining) (o : Option (List Entry)) → Unended (started f p st j o).state
  unfolding started
  started_unended j None = same_unended st (with_joining st j) refl h
  started_unended j (Some l) =
      let next : State = record { part = Some (new_part j.conf j.members); closed = Some (joined_list j l); joining = None } in
      restarted_unended f p next (new_unended j.conf j.members) (Some (new_part j.conf j.members)) refl

  based_unended : (o : Option Joining) (c at : ℕ) (front : List Entry) → Unended (based f p st o c at front).state
  unfolding based
  based_unended None c at front = h
  based_unended (Some j) c at front =
      cond_both ((j.conf == c) && (not (is_some j.base) && nat_le at j.len)) _ _ (λ (x : Stepped). Unended x.state) (λ _. started_unended _ _) (λ _. h)

  pieced_unended : (o : Option Joining) (c at total from_at count : ℕ) (front : List Entry) → Unended (pieced f p st o c at total from_at count front).state
  unfolding pieced completed
  pieced_unended None c at total from_at count front = h
  pieced_unended (Some j) c at total from_at count front =
      cond_both ((j.conf == c) && is_piece j at total from_at count) _ _ (λ (x : Stepped). Unended x.state)
      (λ _. cond_both (has_all (staged_piece j.stage at from_at count).has total) _ _ (λ (x : Stepped). Unended x.state) (λ _. started_unended _ _) (λ _. same_unended st (with_joining st (record j { stage = Some (staged_piece j.stage at from_at count) })) refl h))
      (λ _. h)

  segment_unended : (o : Option Joining) (c a : ℕ) (es : List Entry) → Unended (got_segment f p st o c a es).state
  unfolding got_segment
  segment_unended None c a es = h
  segment_unended (Some j) c a es =
      cond_both ((j.conf == c) && (nat_lt 0 (length es) && nat_le (a + length es) j.len)) _ _ (λ (x : Stepped). Unended x.state) (λ _. started_unended _ _) (λ _. h)

  inner_unended : (o : Option Part) (n q c : ℕ) (m : Msg) → Unended (inner f p st o n q c m).state
  unfolding inner
  inner_unended None n q c m = h
  inner_unended (Some pt) n q c m = cond_both (pt.conf == c) _ _ (λ (x : Stepped). Unended x.state) (λ _. acted_unended f p st pt n (Comes q m)) (λ _. h)

  beat_unended : (o : Option Part) (q c : ℕ) → Unended (answers_beat p st o q c).state
  beat_unended None q c = h
  beat_unended (Some pt) q c = h

  takes_unended : (n q c : ℕ) (b : Body) → Unended (takes f p st n q c b).state
  unfolding takes
  takes_unended n q c (Inner m) = inner_unended st.part n q c m
  takes_unended n q c HeartbeatRequest = beat_unended st.part q c
  takes_unended n q c HeartbeatReply = h
  takes_unended n q c (NextConf members olds len t) = same_unended st (invited p st q c members olds len t) (invited_same p st q c members olds len t).0 h
  takes_unended n q c AskBase = h
  takes_unended n q c (BasePart at front) = based_unended st.joining c at front
  takes_unended n q c (BasePiece at total from_at count front) = pieced_unended st.joining c at total from_at count front
  takes_unended n q c (AskSegment a b) = h
  takes_unended n q c (Segment a es) = segment_unended st.joining c a es

  sought_unended : (g : Fate) (o : Option Part) (k : Option Closed) (q : ℕ) → Unended (sought g p st o k q).state
  unfolding sought
  sought_unended g (Some pt) k q = acted_unended g p st pt 0 (Up q)
  sought_unended ServerDone None (Some k) q = h
  sought_unended ServerStopped None (Some k) q = h
  sought_unended g None None q = h

  seeks_unended : (q : ℕ) (b : Body) → Unended (seeks f p st q b).state
  unfolding seeks
  seeks_unended q b = cond_both (is_some st.joining || is_request b) _ _ (λ (x : Stepped). Unended x.state) (λ _. h) (λ _. sought_unended f st.part st.closed q)

  reads_unended : (n : ℕ) (m : Letter) → Unended (reads f p st n m).state
  unfolding reads
  reads_unended n m =
      cond_both (is_some st.joining && not (is_for_joining m.body)) _ _ (λ (x : Stepped). Unended x.state) (λ _. h)
      (λ _. cond_both (nat_lt m.conf (latest st)) _ _ (λ (x : Stepped). Unended x.state) (λ _. h)
      (λ _. cond_both (nat_lt (latest st) m.conf && not (is_ahead m.body)) _ _ (λ (x : Stepped). Unended x.state) (λ _. seeks_unended m.from m.body) (λ _. takes_unended n m.from m.conf m.body)))

  answers_unended : (total : ℕ) (m : Letter) → Unended (answers_long p st total m).state
  unfolding answers_long
  answers_unended total m = cond_both (asks_base m.body && (m.conf == latest st)) _ _ (λ (x : Stepped). Unended x.state) (λ _. h) (λ _. h)

  led_unended : (pt : Part) (n : Option ℕ) → Unended (led f p st pt n).state
  unfolding led
  led_unended pt None = h
  led_unended pt (Some n) = acted_unended f p st pt 0 (Elected n)

  ticks_unended : (j : Option Joining) (o : Option Part) (n : Option ℕ) → Unended (ticks_in f p st j o n).state
  ticks_unended (Some j) o n = h
  ticks_unended None None n = h
  ticks_unended None (Some pt) n = led_unended pt n

  ticks_alone_unended : (j : Option Joining) (o : Option Part) (heard : ℕ → Bool) → Unended (ticks_alone_in f p st j o heard).state
  ticks_alone_unended (Some j) o heard = h
  ticks_alone_unended None None heard = h
  ticks_alone_unended None (Some pt) heard = acted_unended f p st pt 0 (CutOff heard)

  links_unended : (j : Option Joining) (q : ℕ) (o : Option Part) → Unended (links_in f p st j q o).state
  links_unended (Some j) q o = h
  links_unended None q None = h
  links_unended None q (Some pt) = cond_both (is_member nat_eq pt.members q && not (q == p)) _ _ (λ (x : Stepped). Unended x.state) (λ _. acted_unended f p st pt 0 (Up q)) (λ _. h)

  -- so it stays by every step
  pub step_unended : (e : Event) → Unended (step f p st e).state
  unfolding step
  step_unended (Ticks n) = ticks_unended st.joining st.part n
  step_unended (TicksAlone heard) = ticks_alone_unended st.joining st.part heard
  step_unended (Proposes e) = cond_both (may_propose p st st.part e) _ _ (λ (x : Stepped). Unended x.state) (λ _. acted_in_unended f p st h st.part (Proposal e)) (λ _. h)
  step_unended Trims = acted_in_unended f p st h st.part TrimNow
  step_unended (Links q) = links_unended st.joining q st.part
  step_unended (Unlinks q) = acted_in_unended f p st h st.part (Down q)
  step_unended (Notes xs) = h
  step_unended (Reads n m) = reads_unended n m
  step_unended (ReadsLong n total m) = answers_unended total m

-- ---- runs

-- every part goes on
abbrev pub AllUnended : World → Type 0
AllUnended w = (p : ℕ) → Unended (w.servers p).state

with_unended : (w : World) (p : ℕ) (sv : Server) → AllUnended w → Unended sv.state → (q : ℕ) → Unended (with_at p sv w.servers q).state
with_unended w p sv h k q = upd_both (λ (s : Server). Unended s.state) w.servers p q sv (λ _. k) (λ _. h q)

module _ (w : World) (h : AllUnended w) where
  stepped_unended : (f : Fate) (p : ℕ) (e : Event) → AllUnended (stepped w f p (w.servers p).state e)
  unfolding stepped
  stepped_unended ServerDone p e = with_unended w p _ h (step_unended _ p (w.servers p).state (h p) e)
  stepped_unended ServerStopped p e = with_unended w p _ h (h p)

  at_unended : (f : Fate) (p : ℕ) (l : Life) (e : Event) → AllUnended (at_server w f p l e)
  unfolding at_server
  at_unended f p Running e = stepped_unended f p e
  at_unended f p (IsDown o) e = h

  delivered_unended : (f : Fate) (read : Letter → Event) (o : Option Letter) → AllUnended (delivered w f read o)
  unfolding delivered
  delivered_unended f read None = h
  delivered_unended f read (Some m) = at_unended f m.to (w.servers m.to).life (read m)

  found_unended : (p : ℕ) (after : Bool) (o : Option Event) → Unended (found p after (w.servers p).state o).state
  unfolding found
  found_unended p true (Some e) = step_unended _ p (w.servers p).state (h p) e
  found_unended p true None = h p
  found_unended p false o = h p

  opened_unended : (p : ℕ) (o : Stepped) → Unended o.state → AllUnended (opened w p o)
  unfolding opened
  opened_unended p o k = with_unended w p _ h (restarted_unended (opening_fate (without_pieces o.state).joining) p (without_pieces o.state) (same_unended o.state (without_pieces o.state) refl k) (o.state).part refl)

  opens_unended : (p : ℕ) (after : Bool) (l : Life) → AllUnended (opens w p after l)
  unfolding opens
  opens_unended p after Running = h
  opens_unended p after (IsDown o) = opened_unended p _ (found_unended p after o)

  stops_unended : (p : ℕ) (l : Life) → AllUnended (stops w p l)
  unfolding stops
  stops_unended p Running = with_unended w p _ h (h p)
  stops_unended p (IsDown o) = h

  happens_unended : (x : Happening) → AllUnended (happens w x)
  unfolding happens
  happens_unended (At f p e) = cond_both (is_letter e) w (at_server w f p (w.servers p).life e) AllUnended (λ _. h) (λ _. at_unended f p (w.servers p).life e)
  happens_unended (Delivers f n) = delivered_unended f (Reads n) (slice_get w.soup n)
  happens_unended (DeliversLong f n total) = delivered_unended f (ReadsLong n total) (slice_get w.soup n)
  happens_unended (Stops p) = stops_unended p (w.servers p).life
  happens_unended (Opens p after) = opens_unended p after (w.servers p).life

run_unended : (hs : List Happening) (w : World) → AllUnended w → AllUnended (run hs w)
unfolding run
run_unended [] w h = h
run_unended (x ∷ hs) w h = run_unended hs (happens w x) (happens_unended w h x)

-- what a part has decided doesn't end in a stop-sign
pub all_unended : (first : List ℕ) (hs : List Happening) → AllUnended (run hs (start first))
unfolding start
all_unended first hs = run_unended hs (start first) (λ p. cond_both (is_member nat_eq first p) (Some (new_part 1 first)) None OptionUnended (λ _. new_unended 1 first) (λ _. none_unended))
