-- An observer's step keeps what it stands for, and never falls.
use Rattle.std.proofs.Common.{◌≡◌, ◌<◌, ◌≤◌, inl, inr, ℕ, zero, suc, ◌+◌, ◌-◌, ◌==◌, ◌&&◌, ◌||◌, Bool, true, false, cond, eqb, ltb, leb, is_some, List, [], ◌∷◌, ◌++◌, length, take, drop, Option, Some, None, refl, sym, ap, ◌∙◌, subst, arith, append-nil, append_assoc, length-append}
use Rattle.std.specs.Prelude.{IfSome}
use Rattle.std.proofs.lemmas.Bool.{cond_both, and_parts, eqb-true, ltb-true, leb-true}
use Rattle.std.proofs.lemmas.List.{take_all, take-take, take-append-drop, length-take-le, length-drop, drop-take, drop-append-le}
use Rattle.std.proofs.Math.ListN.{drop_of_length-le}
use Rattle.op_types.specs.Ballots.{no_ballot}
use Rattle.op_types.specs.Stops.{stop_at_end, named_by}
use Rattle.op_types.specs.Stages.{Pieces, with_piece, whole_bytes}
use Rattle.op_types.specs.Changes.{len_of, part_based, durable_after}
use Rattle.op_types.specs.declared.durable.Part.{Part}
use Rattle.op_types.specs.declared.durable.Durable.{Durable}
use Rattle.op_types.specs.declared.log.Entry.{Entry}
use Rattle.op_types.specs.declared.log.StopSign.{StopSign}
use Rattle.op_types.specs.declared.answers.Outcome.{Outcome}
use Rattle.op_types.specs.declared.events.Input.{Input}
use Rattle.op_types.specs.declared.events.Input.TheVariants as input
use Rattle.op_types.specs.declared.messages.Body.{Body}
use Rattle.op_types.specs.declared.messages.Body.TheVariants as body
use Rattle.op_types.specs.declared.messages.Watch.TheVariants as watch
use Rattle.op_types.specs.declared.messages.Msg.{Msg}
use Rattle.op_types.specs.declared.runs.Piece.{Piece}
use Rattle.op_spec.specs.Machine.{members_of}
use Rattle.op_spec.specs.Laws.{NoneAfterStop}
use Rattle.op_spec.specs.Service.{Service, new_service, base_bytes, service_of, all_after}
use Rattle.op_spec.specs.Stands.{PartStands, lists_through, prefix_of}
use Rattle.op_protocol.specs.Bases.{or_new, service_in, is_base}
use Rattle.op_protocol.specs.State.{State, Volatile, Planned}
use Rattle.op_protocol.specs.Parts.{is_admitted}
use Rattle.op_protocol.specs.Starting.{state_after_restart}
use Rattle.op_protocol.specs.Watching.{watch_storing, watch_keeping, watch_saying, watch_nothing, takes_shown, shown_batch, goes_on_behind, takes_new, on_shown, is_ahead_of, takes_base_piece, pieces_for, rebases, rebases_if, stages_piece, on_base, on_watched, watch_at}
use Rattle.op_refinement.proofs.Made.{all_after-append}
use Rattle.op_refinement.proofs.Steps.{AllRead}
use Rattle.op_watch_laws.specs.Laws.{ShownIsTrue, ShownBaseIsTrue, IsUpTo}
use Rattle.op_watch_laws.proofs.Lists.{Grown, AreEnded, ended_whole, ended_next, ends_behind, still_ended, prefix_same, members_same, longer, take_grown}
use Rattle.op_watch_laws.proofs.Partial.{Partial, partial_piece, partial_whole}
use Rattle.op_watch_laws.proofs.Told.{IsTold, drop_drop}

-- what an observer stores: this part, and nothing else
abbrev pub durable_of : Part → Durable
durable_of p = record { part = Some p; closed = None; joining = None }

-- a part that stands, in which nothing is promised, and all is decided
pub record KeptOf (first : List ℕ) (lists : ℕ → List Entry) (p : Part) : Type 0 where
  pub promised : p.promised ≡ no_ballot
  pub accepted : p.accepted ≡ no_ballot
  pub decided : p.decided ≡ len_of p
  pub stands : PartStands first lists p
  pub pos : 0 < p.conf
  pub ended : AreEnded lists p.conf

-- what came of a base is of that one
pub record PiecesKept (lists : ℕ → List Entry) (c : ℕ) (x : Pieces) : Type 0 where
  pub pos : 0 < c
  pub ended : AreEnded lists c
  pub within : x.at ≤ length (lists c)
  pub bytes : Partial x.bytes (base_bytes (service_of (prefix_of lists c x.at)))

-- all that an observer keeps
pub record StateKept (first : List ℕ) (lists : ℕ → List Entry) (s : State) : Type 0 where
  pub part : Part
  pub is : s.durable ≡ durable_of part
  pub kept : KeptOf first lists part
  pub serves : s.service ≡ service_of (prefix_of lists part.conf part.decided)
  pub pieces : IfSome s.volatile.pieces (PiecesKept lists s.volatile.pieces_conf)

-- what a plan leaves of this part
pub record Goes (first : List ℕ) (lists : ℕ → List Entry) (p : Part) (pl : Planned) : Type 0 where
  pub part : Part
  pub after : durable_after (durable_of p) pl.batch ≡ durable_of part
  pub kept : KeptOf first lists part
  pub serves : pl.service ≡ service_of (prefix_of lists part.conf part.decided)
  pub pieces : IfSome pl.volatile.pieces (PiecesKept lists pl.volatile.pieces_conf)
  pub rises : IsUpTo (p.conf, p.decided) (part.conf, part.decided)

take_nil : {A : Type 0} (n : ℕ) → take {A = A} n [] ≡ []
take_nil zero = refl
take_nil (suc n) = refl

-- ---- facts about the lists

module _ (lists : ℕ → List Entry) where
  -- all before the next configuration, where this list is whole
  next_prefix : (c : ℕ) → 0 < c → prefix_of lists (c + 1) 0 ≡ lists_through lists (c - 1) ++ lists c
  next_prefix c pos =
      let at : c + 1 - 1 ≡ suc (c - 1) = omega (arith, pos) in
      let here : suc (c - 1) ≡ c = omega (arith, pos) in
      ap (λ (n : ℕ). lists_through lists n ++ []) at ∙ append-nil (lists_through lists (suc (c - 1))) ∙ ap (λ (n : ℕ). lists_through lists (c - 1) ++ lists n) here

  -- a base is read back
  base_read : AllRead lists → (c n : ℕ) → 0 < c → service_in (base_bytes (service_of (prefix_of lists c n))) ≡ service_of (prefix_of lists c n)
  base_read read c n pos =
      let here : suc (c - 1) ≡ c = omega (arith, pos) in
      let all : prefix_of lists c n ++ drop n (lists c) ≡ lists_through lists (suc (c - 1)) =
      append_assoc (lists_through lists (c - 1)) (take n (lists c)) (drop n (lists c)) ∙ ap (λ (l : List Entry). lists_through lists (c - 1) ++ l) (take-append-drop n (lists c))
      ∙ ap (λ (m : ℕ). lists_through lists (c - 1) ++ lists m) (sym here) in
      ap or_new (read (suc (c - 1)) (prefix_of lists c n) (drop n (lists c), all))

-- entries behind what is decided go on from it
behind_served : (lists : ℕ → List Entry) (c n : ℕ) (new : List Entry) → take (n + length new) (lists c) ≡ take n (lists c) ++ new
    → all_after (service_of (prefix_of lists c n)) new ≡ service_of (prefix_of lists c (n + length new))
behind_served lists c n new e =
    sym (all_after-append new_service (prefix_of lists c n) new)
    ∙ ap service_of (append_assoc (lists_through lists (c - 1)) (take n (lists c)) new ∙ ap (λ (l : List Entry). lists_through lists (c - 1) ++ l) (sym e))

-- the log of a part in which all is decided
tail_is : (first : List ℕ) (lists : ℕ → List Entry) (p : Part) → KeptOf first lists p → p.tail.items ≡ drop p.trimmed (take (len_of p) (lists p.conf))
tail_is first lists p k =
    sym (take_all (p.decided - p.trimmed) p.tail.items (omega (arith, k.decided))) ∙ (k.stands).entries ∙ ap (λ (n : ℕ). drop p.trimmed (take n (lists p.conf))) k.decided

-- what is told with an input is true
abbrev pub InputTold : List ℕ → (ℕ → List Entry) → Input → Type 0
InputTold first lists (input.Deliver q m) = IsTold first lists m.conf m.body
InputTold first lists _ = Unit {0}

-- ---- steps

module _ (first : List ℕ) (lists : ℕ → List Entry) (ends : (c : ℕ) → NoneAfterStop (lists c)) (read : AllRead lists) (me : ℕ) (s : State) (p : Part) (k : KeptOf first lists p)
    (serves : s.service ≡ service_of (prefix_of lists p.conf p.decided)) (pieces : IfSome s.volatile.pieces (PiecesKept lists s.volatile.pieces_conf)) where
  abbrev list : List Entry
  list = lists p.conf

  abbrev len : ℕ
  len = len_of p

  within : len ≤ length list
  within = omega (arith, k.decided, (k.stands).decided)

  stays : (pl : Planned) → pl.batch ≡ [] → pl.service ≡ s.service → IfSome pl.volatile.pieces (PiecesKept lists pl.volatile.pieces_conf) → Goes first lists p pl
  stays pl none same more = record {
    part = p;
    after = ap (durable_after (durable_of p)) none;
    kept = k;
    serves = same ∙ serves;
    pieces = more;
    rises = inr (refl, omega arith);
  }

  nothing_goes : (sends : List (ℕ × Msg)) (o : Option Outcome) → Goes first lists p (watch_saying s sends o)
  nothing_goes sends o = stays (watch_saying s sends o) refl refl pieces

  -- ---- entries

  module _ (at : ℕ) (es : List Entry) (le : at ≤ len) (lt : len < at + length es) (shown : ShownIsTrue list at es) where
    abbrev new : List Entry
    new = drop (len - at) es

    size : len + length new ≡ at + length es
    size = omega (arith, le, lt, length-drop (len - at) es)

    new_is : new ≡ take (length new) (drop len list)
    new_is =
        let sum : length es ≡ (len - at) + length new = omega (arith, le, size) in
        let to : at + (len - at) ≡ len = omega (arith, le) in
        ap (drop (len - at)) shown.entries_are ∙ ap (λ (n : ℕ). drop (len - at) (take n (drop at list))) sum ∙ drop-take (len - at) (length new) (drop at list)
        ∙ ap (take (length new)) (drop_drop at (len - at) list ∙ ap (λ (n : ℕ). drop n list) to)

    longer_list : take (len + length new) list ≡ take len list ++ new
    longer_list = Rattle.std.proofs.Math.Seq.take-add len (length new) list ∙ ap (λ (l : List Entry). take len list ++ l) (sym new_is)

    inside : len + length new ≤ length list
    inside = omega (arith, size, shown.within)

    service_is : all_after s.service new ≡ service_of (prefix_of lists p.conf (len + length new))
    service_is =
        ap (λ (t : Service). all_after t new) (serves ∙ ap (λ (n : ℕ). service_of (prefix_of lists p.conf n)) k.decided)
        ∙ behind_served lists p.conf len new longer_list

    -- the part with them
    abbrev more : Part
    more = record p { tail = record p.tail { items = p.tail.items ++ new }; decided = len + length new }

    more_stands : PartStands first lists more
    more_stands = record {
      trimmed = omega arith;
      decided = inside;
      entries =
          take_all (len + length new - p.trimmed) (p.tail.items ++ new) (omega (arith, length-append p.tail.items new))
          ∙ ap (λ (l : List Entry). l ++ new) (tail_is first lists p k)
          ∙ sym (drop-append-le p.trimmed (take len list) new (omega (arith, length-take-le len list within)))
          ∙ ap (drop p.trimmed) (sym longer_list);
      members = (k.stands).members;
      base = (k.stands).base;
    }

    taken_goes : Goes first lists p (watch_storing s (shown_batch p new) s.volatile (all_after s.service new))
    taken_goes = record {
      part = more;
      after = refl;
      kept = record { promised = k.promised; accepted = k.accepted; decided = omega (arith, length-append p.tail.items new); stands = more_stands; pos = k.pos; ended = k.ended };
      serves = service_is;
      pieces = pieces;
      rises = inr (refl, omega (arith, k.decided));
    }

    -- behind a stop-sign the list is whole
    module _ (stop : StopSign) (last : stop_at_end new ≡ Some stop) where
      front_ends : stop_at_end (take (len + length new) list) ≡ Some stop
      front_ends = ap stop_at_end longer_list ∙ by new last (take len list)
        where
          none_some : None ≡ Some stop → ⊥
          none_some e = cc

          by : (l : List Entry) → stop_at_end l ≡ Some stop → (xs : List Entry) → stop_at_end (xs ++ l) ≡ Some stop
          by [] e xs = absurd (none_some e)
          by (x ∷ l) e xs = ends_behind xs x l ∙ e

      whole : take (len + length new) list ≡ list
      whole =
          let all = take-append-drop (len + length new) list in
          let none : drop (len + length new) list ≡ [] =
          ended_whole (take (len + length new) list) (drop (len + length new) list) (ap (λ (o : Option StopSign). is_some o) front_ends) (subst NoneAfterStop (sym all) (ends p.conf)) in
          sym (append-nil (take (len + length new) list)) ∙ ap (λ (l : List Entry). take (len + length new) list ++ l) (sym none) ∙ all

      ends_so : stop_at_end list ≡ Some stop
      ends_so = ap stop_at_end (sym whole) ∙ front_ends

      served : all_after s.service new ≡ service_of (prefix_of lists (p.conf + 1) 0)
      served = service_is ∙ ap (λ (l : List Entry). service_of (lists_through lists (p.conf - 1) ++ l)) whole ∙ ap service_of (sym (next_prefix lists p.conf k.pos))

      abbrev next : Part
      next = part_based (p.conf + 1) stop.members 0 (base_bytes (all_after s.service new))

      next_members : stop.members ≡ members_of first lists (p.conf + 1)
      next_members =
          let to : p.conf ≡ p.conf + 1 - 1 = omega arith in
          let above : eqb (p.conf + 1) 1 ≡ false = Rattle.std.proofs.lemmas.Bool.ne_eqb (p.conf + 1) 1 (λ e. omega (arith, e, k.pos)) in
          ap named_by (sym ends_so) ∙ ap (λ (n : ℕ). named_by (stop_at_end (lists n))) to
          ∙ ap (λ (b : Bool). cond b first (named_by (stop_at_end (lists (p.conf + 1 - 1))))) (sym above)

      stop_goes : Goes first lists p (goes_on_behind me s p new (all_after s.service new) (Some stop))
      stop_goes = record {
        part = next;
        after = refl;
        kept = record {
          promised = refl;
          accepted = refl;
          decided = refl;
          stands = record { trimmed = omega arith; decided = omega arith; entries = refl; members = next_members; base = ap base_bytes served };
          pos = omega arith;
          ended = ended_next lists p.conf k.ended (ap (λ (o : Option StopSign). is_some o) ends_so);
        };
        serves = served;
        pieces = tt;
        rises = inl (omega arith);
      }

    new_goes : (o : Option StopSign) → stop_at_end new ≡ o → Goes first lists p (goes_on_behind me s p new (all_after s.service new) o)
    new_goes None e = taken_goes
    new_goes (Some stop) e = stop_goes stop e

  shown_goes : (c at : ℕ) (es : List Entry) → ShownIsTrue (lists c) at es → Goes first lists p (on_shown me s p c at es)
  shown_goes c at es true_of =
      cond_both (takes_shown p c at es) (takes_new me s p (drop (len - at) es)) (watch_nothing s) (Goes first lists p)
      (λ e.
      let a = and_parts (p.conf == c) (leb at len && (ltb len (at + length es) && is_admitted p at es)) e in
      let b = and_parts (leb at len) (ltb len (at + length es) && is_admitted p at es) a.1 in
      let d = and_parts (ltb len (at + length es)) (is_admitted p at es) b.1 in
      new_goes at es (leb-true at len b.0) (ltb-true len (at + length es) d.0) (subst (λ (n : ℕ). ShownIsTrue (lists n) at es) (sym (eqb-true p.conf c a.0)) true_of) (stop_at_end (drop (len - at) es)) refl)
      (λ _. nothing_goes [] None)

  -- ---- a base

  module _ (c : ℕ) (members : List ℕ) (x : Piece) (pos : 0 < c) (ended : AreEnded lists c) (shown : ShownBaseIsTrue first lists c members x) where
    abbrev base : List ℕ
    base = base_bytes (service_of (prefix_of lists c x.at))

    had : IfSome (pieces_for s.volatile c) (λ y. y.at ≡ x.at → Partial y.bytes base)
    had =
        cond_both (s.volatile.pieces_conf == c) s.volatile.pieces None (λ (o : Option Pieces). IfSome o (λ y. y.at ≡ x.at → Partial y.bytes base))
        (λ e. by s.volatile.pieces (eqb-true s.volatile.pieces_conf c e) pieces) (λ _. tt)
      where
        by : (o : Option Pieces) → s.volatile.pieces_conf ≡ c → IfSome o (PiecesKept lists s.volatile.pieces_conf) → IfSome o (λ y. y.at ≡ x.at → Partial y.bytes base)
        by None here k = tt
        by (Some y) here k = λ same.
            subst (λ (n : ℕ). Partial y.bytes (base_bytes (service_of (prefix_of lists c n)))) same (subst (λ (d : ℕ). Partial y.bytes (base_bytes (service_of (prefix_of lists d y.at)))) here k.bytes)

    abbrev staged : Pieces
    staged = with_piece (pieces_for s.volatile c) x

    staged_kept : PiecesKept lists c staged
    staged_kept = record { pos = pos; ended = ended; within = shown.within; bytes = partial_piece (pieces_for s.volatile c) x base shown.total shown.bytes had }

    abbrev v : Volatile
    v = record s.volatile { pieces = Some staged; pieces_conf = c }

    rebased : (bytes : List ℕ) → bytes ≡ base → IsUpTo (p.conf, p.decided) (c, x.at) → Goes first lists p (rebases me s c members x.at bytes)
    rebased bytes is up = record {
      part = part_based c members x.at bytes;
      after = refl;
      kept = record {
        promised = refl;
        accepted = refl;
        decided = let e : x.at ≡ x.at + 0 = omega arith in e;
        stands = record {
          trimmed = omega arith;
          decided = shown.within;
          entries = take_nil (x.at - x.at) ∙ sym (drop_of_length-le (take x.at (lists c)) (omega (arith, length-take-le x.at (lists c) shown.within)));
          members = shown.members_are;
          base = is;
        };
        pos = pos;
        ended = ended;
      };
      serves = ap service_in is ∙ base_read lists read c x.at pos;
      pieces = tt;
      rises = up;
    }

    base_if : IsUpTo (p.conf, p.decided) (c, x.at) → (o : Option (List ℕ)) → whole_bytes staged.bytes ≡ o → Goes first lists p (rebases_if me s v c members x.at o)
    base_if up None e = stays (watch_keeping s v) refl refl staged_kept
    base_if up (Some bytes) e =
        cond_both (is_base bytes) (rebases me s c members x.at bytes) (watch_keeping s v) (Goes first lists p)
        (λ _. rebased bytes (partial_whole staged.bytes base bytes staged_kept.bytes e) up) (λ _. stays (watch_keeping s v) refl refl staged_kept)

    ahead : is_ahead_of p c x.at ≡ true → IsUpTo (p.conf, p.decided) (c, x.at)
    ahead e = by (ltb p.conf c) refl e
      where
        by : (b : Bool) → ltb p.conf c ≡ b → (b || (p.conf == c && ltb len x.at)) ≡ true → IsUpTo (p.conf, p.decided) (c, x.at)
        by true h z = inl (ltb-true p.conf c h)
        by false h z =
            let a = and_parts (p.conf == c) (ltb len x.at) z in
            inr (eqb-true p.conf c a.0, omega (arith, k.decided, ltb-true len x.at a.1))

    base_goes : Goes first lists p (on_base me s p c members x)
    base_goes =
        cond_both (takes_base_piece p c x) (stages_piece me s c members x staged) (watch_nothing s) (Goes first lists p)
        (λ e. base_if (ahead (and_parts (is_ahead_of p c x.at) (leb (x.from + length x.bytes) x.total) e).0) (whole_bytes staged.bytes) refl) (λ _. nothing_goes [] None)

  -- ---- whatever comes

  watched_goes : (c : ℕ) (b : Body) → IsTold first lists c b → Goes first lists p (on_watched me s p c b)
  watched_goes c (body.Watch (watch.Ask from)) t = nothing_goes [] None
  watched_goes c (body.Watch (watch.Shown at es)) t = shown_goes c at es t
  watched_goes c (body.Watch (watch.Base members x)) t = base_goes c members x t.0 t.1 t.2
  watched_goes c _ t = nothing_goes [] None

  pub at_goes : (x : Input) → InputTold first lists x → Goes first lists p (watch_at me s p x)
  at_goes input.Tick t = nothing_goes _ None
  at_goes (input.Deliver q m) t = watched_goes m.conf m.body t
  at_goes (input.Commands cs) t = nothing_goes [] _
  at_goes (input.Stop members) t = nothing_goes [] _
  at_goes input.TrimNow t = nothing_goes [] _
  at_goes (input.Read r) t = nothing_goes [] _
  at_goes (input.Up q) t = nothing_goes _ None
  at_goes (input.Down q) t = nothing_goes [] None

-- ---- when it is opened again

pub opened_kept : (first : List ℕ) (lists : ℕ → List Entry) → AllRead lists → (me : ℕ) (p : Part) → KeptOf first lists p → StateKept first lists (state_after_restart me (durable_of p))
opened_kept first lists read me p k =
    let list : List Entry = lists p.conf in
    let t : ℕ = p.trimmed in
    let front : take t list ++ drop t (take p.decided list) ≡ take p.decided list =
    ap (λ (l : List Entry). l ++ drop t (take p.decided list)) (sym (take-take t p.decided list (k.stands).trimmed)) ∙ take-append-drop t (take p.decided list) in
    record {
      part = p;
      is = refl;
      kept = k;
      serves = ap (λ (y : Service). all_after y (take (p.decided - t) p.tail.items)) (ap service_in (k.stands).base ∙ base_read lists read p.conf t k.pos)
          ∙ ap (all_after (service_of (prefix_of lists p.conf t))) (k.stands).entries
          ∙ sym (all_after-append new_service (prefix_of lists p.conf t) (drop t (take p.decided list)))
          ∙ ap service_of (append_assoc (lists_through lists (p.conf - 1)) (take t list) (drop t (take p.decided list)) ∙ ap (λ (l : List Entry). lists_through lists (p.conf - 1) ++ l) front);
      pieces = tt;
    }

-- ---- lists that grow

module _ (first : List ℕ) (lists lists' : ℕ → List Entry) (g : Grown lists lists') where
  pub kept_on : (p : Part) → KeptOf first lists p → KeptOf first lists' p
  kept_on p k =
      let s = k.stands in
      let m = g.more p.conf in
      record {
        promised = k.promised;
        accepted = k.accepted;
        decided = k.decided;
        stands = record {
          trimmed = s.trimmed;
          decided = omega (arith, s.decided, longer lists lists' g p.conf);
          entries = s.entries ∙ ap (drop p.trimmed) (take_grown (lists p.conf) (lists' p.conf) m.0 m.1 p.decided s.decided);
          members = s.members ∙ members_same lists lists' g first p.conf k.pos k.ended;
          base = s.base ∙ ap (λ (l : List Entry). base_bytes (service_of l)) (prefix_same lists lists' g p.conf p.trimmed k.ended (omega (arith, s.trimmed, s.decided)));
        };
        pos = k.pos;
        ended = still_ended lists lists' g p.conf k.ended;
      }

  pub pieces_on : (c : ℕ) (o : Option Pieces) → IfSome o (PiecesKept lists c) → IfSome o (PiecesKept lists' c)
  pieces_on c None k = tt
  pieces_on c (Some x) k = record {
    pos = k.pos;
    ended = still_ended lists lists' g c k.ended;
    within = omega (arith, k.within, longer lists lists' g c);
    bytes = subst (λ (l : List Entry). Partial x.bytes (base_bytes (service_of l))) (prefix_same lists lists' g c x.at k.ended k.within) k.bytes;
  }

  abbrev pub state_on : (s : State) → StateKept first lists s → StateKept first lists' s
  state_on s k = record {
    part = k.part;
    is = k.is;
    kept = kept_on k.part k.kept;
    serves = k.serves ∙ ap service_of (prefix_same lists lists' g (k.part).conf (k.part).decided (k.kept).ended ((k.kept).stands).decided);
    pieces = pieces_on s.volatile.pieces_conf s.volatile.pieces k.pieces;
  }
