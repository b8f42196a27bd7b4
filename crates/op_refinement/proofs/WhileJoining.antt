-- Whatever comes to a node that joins a configuration is a letter that comes to its server.
use Rattle.std.proofs.Common.{◌≡◌, ◌<◌, ◌≤◌, ℕ, ◌+◌, ◌-◌, Bool, true, false, not, cond, ◌&&◌, ◌||◌, eqb, ltb, leb, is_some, List, [], ◌∷◌, ◌++◌, length, Option, Some, None, refl, sym, ap, ◌∙◌, subst, arith}
use Rattle.std.specs.Ordering.{nat_cmp}
use Rattle.std.specs.BTreeMap.{insert_entry}
use Rattle.std.specs.Prelude.{slice_get}
use Rattle.std.proofs.lemmas.Bool.{true≢false, and_right, and_parts, and_from, eqb-true, eq-eqb, lt-ltb, ltb-false}
use Rattle.std.proofs.lemmas.List.{length-take-le}
use Rattle.op_types.specs.Changes.{durable_after, joining_with, joining_option_with}
use Rattle.op_types.specs.Limits.{most_donors}
use Rattle.op_types.specs.Stages.{Pieces, with_piece, whole_bytes}
use Rattle.op_types.specs.declared.runs.Piece.{Piece}
use Rattle.op_types.specs.Joinings.{Base as StoredBase, donor_at, held_at, held_with, held_run, with_base, with_held}
use Rattle.op_types.specs.declared.changes.Change.{Change}
use Rattle.op_types.specs.declared.changes.Change.TheVariants as change
use Rattle.op_types.specs.declared.durable.Part.{Part as StoredPart}
use Rattle.op_types.specs.declared.durable.Joining.{Joining as StoredJoining}
use Rattle.op_types.specs.declared.events.Input.TheVariants as input
use Rattle.op_types.specs.declared.log.Entry.{Entry}
use Rattle.op_types.specs.declared.messages.Body.{Body}
use Rattle.op_types.specs.declared.messages.Body.TheVariants as body
use Rattle.op_types.specs.declared.messages.Msg.{Msg}
use Rattle.op_spec.specs.Service.{base_bytes, service_of}
use Rattle.op_spec.specs.Stands.{lists_through}
use Rattle.op_protocol.specs.State as table
use Rattle.op_protocol.specs.State.{PartStep, Planned}
use Rattle.op_protocol.specs.Parts.{message}
use Rattle.op_protocol.specs.Tick.{remembering}
use Rattle.op_protocol.specs.Bases.{is_base}
use Rattle.op_protocol.proofs.Bases.{read_is_base}
use Rattle.op_protocol.specs.Configurations.{latest_of}
use Rattle.op_protocol.specs.Joining.{storing, storing_news, on_base_piece, takes_piece, base_once, pieces_once, begins, is_new_donor, joins, new_entries, are_some, takes_base, takes_entries, brought_to, holds_more}
use Rattle.op_protocol.specs.Rows.{is_of_joining, may_be_above, is_prepare_req, on_older, on_newer, on_latest, message_step, brought_by, plan_of, step_bringing, table_plan}
use Rattle.op_configurations.specs.Servers as server
use Rattle.op_configurations.specs.Servers.{Closed, Base, BaseStage, Joining, State, Letter, Fate, Stepped, says, unchanged, with_joining, staged_piece, has_all, is_piece, start_if_whole}
use Rattle.op_configurations.specs.Laws.{BaseStands, StateStands, BodyStands}
use Rattle.op_configurations.specs.Stored.{HoldsIfBase, HoldsJoining}
use Rattle.op_configurations.proofs.Fronts.{some_same}
use Rattle.op_refinement.proofs.Pure as pure
use Rattle.op_refinement.proofs.Relation.{Reads, IfPiecesRel, IfLacking, StageRel, part_as, IsPiece, IsSaid, IsLetter, StateRel, StepRel}
use Rattle.op_refinement.proofs.BasePieces.{whole_had, pieces_are, pieces_more}
use Rattle.op_refinement.proofs.Worlds.{stands_on}
use Rattle.op_paxos.specs.Agreement.{IsPrefix}
use Rattle.op_refinement.proofs.Inputs.{NodeFacts, is_past, long_in, delivery_event, step_by}
use Rattle.op_refinement.proofs.Steps.{AllRead}
use Rattle.op_refinement.proofs.Others.{ahead_same, latest_is, older_rel}
use Rattle.op_refinement.proofs.Outside.{Joins, nothing_rel, quiet, news_rel, base_asked_rel, segment_asked_rel}
use Rattle.op_refinement.proofs.Joining.{storing_rel, begins_rel}
use Rattle.op_refinement.proofs.Elsewhere.{not_so}
use Rattle.op_refinement.proofs.Gathered.{donor_is, donor_put, held_more, held_all}
use Rattle.op_refinement.proofs.Bringing.{front_read, front_of, holds_rel}
use Rattle.op_protocol.specs.Watched.{is_watching}
use Rattle.op_refinement.proofs.Watching.{member_row}

-- ---- messages and letters

-- what a node reads that joins
joining_same : (lists : ℕ → List Entry) (conf : ℕ) (b : Body) (y : server.Body) → IsSaid lists conf b y → is_of_joining b ≡ server.is_for_joining y
joining_same lists conf (body.HeartbeatRequest r) y i = ap server.is_for_joining (sym i)
joining_same lists conf (body.HeartbeatReply r z g) y i = ap server.is_for_joining (sym i)
joining_same lists conf (body.Confirm z r) y i = ap server.is_for_joining (sym i)
joining_same lists conf (body.Confirmed z r) y i = ap server.is_for_joining (sym i)
joining_same lists conf (body.Watch w) y i = ap server.is_for_joining (sym i)
joining_same lists conf (body.Prepare z na nl nd) y i = ap server.is_for_joining (sym i.2)
joining_same lists conf (body.Promise z fa fl fd a es) y i = ap server.is_for_joining (sym i.2)
joining_same lists conf (body.AcceptSync z g es) y i = ap server.is_for_joining (sym i.2)
joining_same lists conf (body.PromisePart z part) y i = ap server.is_for_joining (sym i.2)
joining_same lists conf (body.AcceptSyncPart z part) y i = ap server.is_for_joining (sym i.2)
joining_same lists conf (body.Accept z a es) y i = ap server.is_for_joining (sym i.2)
joining_same lists conf (body.Accepted z g) y i = ap server.is_for_joining (sym i.2)
joining_same lists conf (body.Decide z g) y i = ap server.is_for_joining (sym i.2)
joining_same lists conf body.PrepareReq y i = by (eqb conf 0) ∙ ap server.is_for_joining (sym i)
  where
    by : (c : Bool) → false ≡ server.is_for_joining (cond c server.HeartbeatReply (server.Inner pure.PrepareReq))
    by true = refl
    by false = refl
joining_same lists conf (body.Refuse z g) y i = ap server.is_for_joining (sym i.2)
joining_same lists conf (body.Forward g) y i = ap server.is_for_joining (sym i.2)
joining_same lists conf (body.Forwards g) y i = ap server.is_for_joining (sym i.2)
joining_same lists conf (body.TrimAsk z) y i = ap server.is_for_joining (sym i.2)
joining_same lists conf (body.Progress z g) y i = ap server.is_for_joining (sym i.2)
joining_same lists conf (body.Trim g) y i = ap server.is_for_joining (sym i.2)
joining_same lists conf (body.NextConf members olds len trimmed) y i = ap server.is_for_joining (sym i)
joining_same lists conf body.AskBase y i = ap server.is_for_joining (sym i)
joining_same lists conf (body.BasePart at bytes) y i = ap server.is_for_joining (sym i.1)
joining_same lists conf (body.BasePiece piece) y i = ap server.is_for_joining (sym i.1)
joining_same lists conf (body.AskSegment from to) y i = ap server.is_for_joining (sym i)
joining_same lists conf (body.Segment at es) y i = ap server.is_for_joining (sym i)

-- nothing else brings it anything
brings_not : (d : StoredJoining) (o : Option Pieces) (c : ℕ) (b : Body) → is_of_joining b ≡ false → brought_to (Some d) o c b ≡ None
brings_not d o c (body.HeartbeatRequest r) e = refl
brings_not d o c (body.HeartbeatReply r z g) e = refl
brings_not d o c (body.Confirm z r) e = refl
brings_not d o c (body.Confirmed z r) e = refl
brings_not d o c (body.Watch w) e = refl
brings_not d o c (body.Prepare z na nl nd) e = refl
brings_not d o c (body.Promise z fa fl fd a es) e = refl
brings_not d o c (body.AcceptSync z g es) e = refl
brings_not d o c (body.PromisePart z part) e = refl
brings_not d o c (body.AcceptSyncPart z part) e = refl
brings_not d o c (body.Accept z a es) e = refl
brings_not d o c (body.Accepted z g) e = refl
brings_not d o c (body.Decide z g) e = refl
brings_not d o c body.PrepareReq e = refl
brings_not d o c (body.Refuse z g) e = refl
brings_not d o c (body.Forward g) e = refl
brings_not d o c (body.Forwards g) e = refl
brings_not d o c (body.TrimAsk z) e = refl
brings_not d o c (body.Progress z g) e = refl
brings_not d o c (body.Trim g) e = refl
brings_not d o c (body.NextConf members olds len trimmed) e = absurd (true≢false e)
brings_not d o c body.AskBase e = absurd (true≢false e)
brings_not d o c (body.BasePart at bytes) e = absurd (true≢false e)
brings_not d o c (body.BasePiece piece) e = absurd (true≢false e)
brings_not d o c (body.AskSegment from to) e = absurd (true≢false e)
brings_not d o c (body.Segment at es) e = absurd (true≢false e)

-- ---- tests

and_assoc : (a b c : Bool) → (a && (b && c)) ≡ ((a && b) && c)
and_assoc true b c = refl
and_assoc false b c = refl

base_known : (lists : ℕ → List Entry) (conf : ℕ) (o : Option StoredBase) (y : Option Base) → HoldsIfBase lists conf o y → is_some o ≡ is_some y
base_known lists conf None None h = refl
base_known lists conf None (Some y) h = absurd h
base_known lists conf (Some b) None h = absurd h
base_known lists conf (Some b) (Some y) h = refl

some_length : (es : List Entry) → are_some es ≡ ltb 0 (length es)
some_length [] = refl
some_length (e ∷ es) = sym (lt-ltb 0 (length (e ∷ es)) (omega arith))

base_length : (l : List Entry) (y : Base) → BaseStands l y → length y.front ≡ y.at
base_length l y k = ap (λ (x : List Entry). length x) k.front ∙ length-take-le y.at l k.within

module _ (first : List ℕ) (lists : ℕ → List Entry) (soup : List Letter) (me : ℕ) (f : Fate) (s : table.State) (st : State) (k : NodeFacts lists soup me s st) (read : AllRead lists)
    (old : ℕ → List Entry) (before : StateStands first old st) (grown : (x : ℕ) → IsPrefix (old x) (lists x)) (q : ℕ) (n c : ℕ)
    (d : StoredJoining) (hj : s.durable.joining ≡ Some d) (j : Joining) (tj : st.joining ≡ Some j) (h : HoldsJoining lists d j) where
  low : (l : Closed) → st.closed ≡ Some l → l.trimmed ≤ length l.list
  low l e = (before.closed l e).trimmed

  above : 1 < j.conf
  above = (before.joining j tj).above

  -- a step, and what then stands
  abbrev Goes : Planned → Stepped → Type 0
  Goes pl o = StepRel lists me f s.durable pl o

  abbrev After : Stepped → Type 0
  After o = StateStands first lists o.state

  abbrev idle : Planned
  idle = plan_of me s s.waiting (remembering s.volatile [])

  -- what came in pieces
  stage_now : StageRel lists s.volatile.pieces (Some j)
  stage_now = subst (StageRel lists s.volatile.pieces) tj (k.rel).stage

  idle_rel : Goes idle (unchanged st)
  idle_rel = nothing_rel lists soup me f s st k q low n c

  -- ---- news

  donor_same : (trimmed : ℕ) → is_new_donor d q trimmed ≡ server.is_new_donor q trimmed j
  donor_same trimmed =
      ap (λ (l : ℕ). leb trimmed l && (not (is_some (donor_at d.donors q)) && ltb (length d.donors) most_donors)) h.len
      ∙ ap (λ (b : Bool). leb trimmed j.len && (not b && ltb (length d.donors) most_donors)) (donor_is d.donors q)
      ∙ ap (λ (ds : List (ℕ × ℕ)). leb trimmed j.len && (not (server.is_donor q ds) && ltb (length ds) most_donors)) h.donors

  -- the server, with a donor more
  abbrev with_donor_too : ℕ → Joining
  with_donor_too trimmed = record { conf = j.conf; members = j.members; olds = j.olds; len = j.len; donors = server.with_donor q trimmed j.donors; base = j.base; held = j.held; stage = j.stage }

  donor_rel : (trimmed : ℕ) → server.is_donor q j.donors ≡ false → Goes (plan_of me s s.waiting (storing s.volatile (change.JoinDonor q trimmed ∷ []))) (unchanged (with_joining st (with_donor_too trimmed)))
  donor_rel trimmed none =
      storing_rel lists soup me f s st k q s.volatile (change.JoinDonor q trimmed ∷ []) (λ p. refl) (λ p. refl) (with_joining st (with_donor_too trimmed))
      (subst (λ (o : Option StoredJoining). StateRel lists (record (s.durable) { joining = joining_option_with o (change.JoinDonor q trimmed) }) s.volatile (with_joining st (with_donor_too trimmed))) (sym hj)
      (record {
        part = (k.rel).part;
        closed = (k.rel).closed;
        joining = record {
          conf = h.conf;
          members = h.members;
          olds = h.olds;
          len = h.len;
          donors = ap (λ (ds : List (ℕ × ℕ)). insert_entry nat_cmp ds q trimmed) h.donors ∙ donor_put j.donors q trimmed none;
          base = h.base;
          held = h.held;
        };
        stage = stage_now;
      })) refl

  joins_rel : Joins lists soup me f s st k q low n c
  unfolding server.invited_in
  joins_rel members olds len trimmed named higher =
      subst (λ (o : Option StoredJoining). Goes (plan_of me s s.waiting (storing_news s.volatile (joins o q c members olds len trimmed))) (unchanged (server.invited_in st st.joining q c members olds len trimmed))) (sym hj)
      (subst (λ (o : Option Joining). Goes (plan_of me s s.waiting (storing_news s.volatile (joins (Some d) q c members olds len trimmed))) (unchanged (server.invited_in st o q c members olds len trimmed))) (sym tj)
      (by (ltb d.conf c) (ltb j.conf c) (ap (λ (x : ℕ). ltb x c) h.conf)))
    where
      same : (eqb d.conf c && is_new_donor d q trimmed) ≡ (eqb j.conf c && server.is_new_donor q trimmed j)
      same = ap (λ (x : ℕ). eqb x c && is_new_donor d q trimmed) h.conf ∙ ap (λ (b : Bool). eqb j.conf c && b) (donor_same trimmed)

      none_yet : (eqb j.conf c && server.is_new_donor q trimmed j) ≡ true → server.is_donor q j.donors ≡ false
      none_yet e =
          let x = and_parts (eqb j.conf c) (server.is_new_donor q trimmed j) e in
          let y = and_parts (leb trimmed j.len) (not (server.is_donor q j.donors) && ltb (length j.donors) 255) x.1 in
          not_so (server.is_donor q j.donors) (and_parts (not (server.is_donor q j.donors)) (ltb (length j.donors) 255) y.1).0

      more : (a b : Bool) → a ≡ b → (eqb j.conf c && server.is_new_donor q trimmed j) ≡ b
          → Goes (plan_of me s s.waiting (storing_news s.volatile (cond a (change.JoinDonor q trimmed ∷ []) []))) (unchanged (cond b (with_joining st (with_donor_too trimmed)) st))
      more true true e t = donor_rel trimmed (none_yet t)
      more false false e t = idle_rel
      more true false e t = absurd (true≢false e)
      more false true e t = absurd (true≢false (sym e))

      by : (a b : Bool) → a ≡ b → Goes (plan_of me s s.waiting (storing_news s.volatile (cond a (begins q c members olds len trimmed) (cond (eqb d.conf c && is_new_donor d q trimmed) (change.JoinDonor q trimmed ∷ []) []))))
          (unchanged (cond b (server.begun st q c members olds len trimmed) (cond (eqb j.conf c && server.is_new_donor q trimmed j) (with_joining st (with_donor_too trimmed)) st)))
      by true true e = begins_rel lists soup me f s st k q c members olds len trimmed
      by false false e = more (eqb d.conf c && is_new_donor d q trimmed) (eqb j.conf c && server.is_new_donor q trimmed j) same refl
      by true false e = absurd (true≢false e)
      by false true e = absurd (true≢false (sym e))

  -- ---- a message from above asks for nothing

  above_rel : (b : Body) (y : server.Body) → Goes (plan_of me s s.waiting (remembering s.volatile (on_newer s.durable q b))) (server.seeks f me st q y)
  unfolding server.seeks
  above_rel b y =
      subst (λ (o : Option StoredJoining). Goes (plan_of me s s.waiting (remembering s.volatile (cond (is_some o || (is_of_joining b || is_prepare_req b)) [] (message (latest_of s.durable) q body.PrepareReq ∷ []))))
      (cond (is_some st.joining || server.is_request y) (unchanged st) (server.sought f me st st.part st.closed q))) (sym hj)
      (subst (λ (o : Option Joining). Goes idle (cond (is_some o || server.is_request y) (unchanged st) (server.sought f me st st.part st.closed q))) (sym tj) idle_rel)

  -- ---- what brings something

  -- the plan of a message that says this, by what it brings
  abbrev planned_by : Option (List Change) → Body → Planned
  planned_by None b = plan_of me s s.waiting (on_latest me s.durable s.volatile q c b)
  planned_by (Some batch) b = holds_more me s batch

  -- what is stored then
  stored_with : (x : Change) → durable_after s.durable (x ∷ []) ≡ record (s.durable) { joining = joining_option_with s.durable.joining x } → durable_after s.durable (x ∷ []) ≡ record (s.durable) { joining = Some (joining_with d x) }
  stored_with x e = e ∙ ap (λ (o : Option StoredJoining). record (s.durable) { joining = joining_option_with o x }) hj

  -- the base of the closed list
  module _ (at : ℕ) (bytes : List ℕ) (front : List Entry) (stage : Option BaseStage) (is : bytes ≡ base_bytes (service_of (lists_through lists (c - 1 - 1) ++ front))) (was : BaseStands (old (c - 1)) (record { at = at; front = front })) where
    abbrev with_front : Joining
    with_front = record { conf = j.conf; members = j.members; olds = j.olds; len = j.len; donors = j.donors; base = Some (record { at = at; front = front }); held = j.held; stage = stage }

    abbrev takes_it : Bool
    takes_it = eqb j.conf c && (not (is_some j.base) && leb at j.len)

    takes_same : takes_base d c at bytes ≡ (takes_it && is_base bytes)
    takes_same =
        ap (λ (x : ℕ). eqb x c && (not (is_some d.base) && (leb at d.len && is_base bytes))) h.conf
        ∙ ap (λ (x : ℕ). eqb j.conf c && (not (is_some d.base) && (leb at x && is_base bytes))) h.len
        ∙ ap (λ (b : Bool). eqb j.conf c && (not b && (leb at j.len && is_base bytes))) (base_known lists j.conf d.base j.base h.base)
        ∙ ap (λ (b : Bool). eqb j.conf c && b) (and_assoc (not (is_some j.base)) (leb at j.len) (is_base bytes))
        ∙ and_assoc (eqb j.conf c) (not (is_some j.base) && leb at j.len) (is_base bytes)

    here : takes_it ≡ true → c ≡ j.conf
    here e = sym (eqb-true j.conf c (and_parts (eqb j.conf c) (not (is_some j.base) && leb at j.len) e).0)

    base_now : takes_it ≡ true → bytes ≡ base_bytes (service_of (lists_through lists (j.conf - 1 - 1) ++ front))
    base_now e = is ∙ ap (λ (x : ℕ). base_bytes (service_of (lists_through lists (x - 1 - 1) ++ front))) (here e)

    -- it is read back
    is_one : takes_it ≡ true → After (start_if_whole f me st with_front) → is_base bytes ≡ true
    is_one e a =
        let r : Reads (lists_through lists (j.conf - 1 - 1) ++ front) = front_read lists j.conf above read front (front_of first lists f me st with_front (record { at = at; front = front }) refl a) in
        let t = service_of (lists_through lists (j.conf - 1 - 1) ++ front) in
        ap is_base (base_now e) ∙ read_is_base (base_bytes t) t r refl

    taken_rel : takes_it ≡ true → After (start_if_whole f me st with_front) → Goes (holds_more me s (change.JoinBase at bytes ∷ [])) (start_if_whole f me st with_front)
    taken_rel e a =
        holds_rel lists soup me f s st k read (change.JoinBase at bytes ∷ []) (with_base d (at, bytes)) with_front (stored_with (change.JoinBase at bytes) refl)
        (record { conf = h.conf; members = h.members; olds = h.olds; len = h.len; donors = h.donors; base = (refl, base_now e); held = h.held }) tt above first a
        (λ y i. subst (λ (x : Base). length x.front ≡ x.at) (some_same (record { at = at; front = front }) y i) (base_length (old (c - 1)) (record { at = at; front = front }) was))

    base_rel : stage ≡ j.stage → After (server.based f me st st.joining c at front) → Goes (planned_by (brought_to (Some d) s.volatile.pieces c (body.BasePart at bytes)) (body.BasePart at bytes)) (server.based f me st st.joining c at front)
    unfolding server.based
    base_rel same a =
        subst (λ (o : Option Joining). After (server.based f me st o c at front) → Goes (planned_by (brought_to (Some d) s.volatile.pieces c (body.BasePart at bytes)) (body.BasePart at bytes)) (server.based f me st o c at front)) (sym tj)
        (subst (λ (y : Option BaseStage). After (based_with y) → Goes (planned_by (brought_to (Some d) s.volatile.pieces c (body.BasePart at bytes)) (body.BasePart at bytes)) (based_with y)) same (by takes_it refl)) a
      where
        based_with : Option BaseStage → Stepped
        based_with y = cond takes_it (start_if_whole f me st (record { conf = j.conf; members = j.members; olds = j.olds; len = j.len; donors = j.donors; base = Some (record { at = at; front = front }); held = j.held; stage = y })) (unchanged st)

        by : (b : Bool) → takes_it ≡ b → After (cond b (start_if_whole f me st with_front) (unchanged st))
            → Goes (planned_by (cond (takes_base d c at bytes) (Some (change.JoinBase at bytes ∷ [])) None) (body.BasePart at bytes)) (cond b (start_if_whole f me st with_front) (unchanged st))
        by true e w =
            subst (λ (b : Bool). Goes (planned_by (cond b (Some (change.JoinBase at bytes ∷ [])) None) (body.BasePart at bytes)) (start_if_whole f me st with_front))
            (sym (takes_same ∙ ap (λ (b : Bool). b && is_base bytes) e ∙ is_one e w)) (taken_rel e w)
        by false e w =
            subst (λ (b : Bool). Goes (planned_by (cond b (Some (change.JoinBase at bytes ∷ [])) None) (body.BasePart at bytes)) (unchanged st))
            (sym (takes_same ∙ ap (λ (b : Bool). b && is_base bytes) e)) (quiet lists soup me f s st k q low n c (body.BasePart at bytes) (λ p i. refl))

  -- a piece of that base
  module _ (piece : Piece) (front : List Entry) (is : IsPiece (base_bytes (service_of (lists_through lists (c - 1 - 1) ++ front))) piece) (was : BaseStands (old (c - 1)) (record { at = piece.at; front = front })) where
    abbrev bytes : List ℕ
    bytes = base_bytes (service_of (lists_through lists (c - 1 - 1) ++ front))

    -- what came with it, and what the server has
    abbrev came : Pieces
    came = with_piece s.volatile.pieces piece

    abbrev staged : BaseStage
    staged = staged_piece j.stage piece.at piece.from (length piece.bytes)

    abbrev takes_one : Bool
    takes_one = eqb j.conf c && is_piece j piece.at piece.total piece.from (length piece.bytes)

    one_same : takes_piece d c piece ≡ takes_one
    one_same =
        let inside : Bool = leb (piece.from + length piece.bytes) piece.total in
        ap (λ (x : ℕ). eqb x c && (not (is_some d.base) && (leb piece.at d.len && inside))) h.conf
        ∙ ap (λ (x : ℕ). eqb j.conf c && (not (is_some d.base) && (leb piece.at x && inside))) h.len
        ∙ ap (λ (b : Bool). eqb j.conf c && (not b && (leb piece.at j.len && inside))) (base_known lists j.conf d.base j.base h.base)
        ∙ ap (λ (b : Bool). eqb j.conf c && (not (is_some j.base) && (leb piece.at j.len && (b && inside)))) (sym (lt-ltb 0 (length piece.bytes) is.some))

    module _ (e : takes_one ≡ true) where
      there : j.conf ≡ c
      there = eqb-true j.conf c (and_parts (eqb j.conf c) (is_piece j piece.at piece.total piece.from (length piece.bytes)) e).0

      lacks : not (is_some j.base) ≡ true
      lacks = (and_parts (not (is_some j.base)) _ (and_parts (eqb j.conf c) (is_piece j piece.at piece.total piece.from (length piece.bytes)) e).1).0

      within : leb piece.at j.len ≡ true
      within = (and_parts (leb piece.at j.len) _ (and_parts (not (is_some j.base)) _ (and_parts (eqb j.conf c) (is_piece j piece.at piece.total piece.from (length piece.bytes)) e).1).1).0

      takes_base_now : takes_it piece.at bytes front None refl was ≡ true
      takes_base_now = and_from (eqb j.conf c) (not (is_some j.base) && leb piece.at j.len) (eq-eqb j.conf c there) (and_from (not (is_some j.base)) (leb piece.at j.len) lacks within)

      is_here : IsPiece (base_bytes (service_of (lists_through lists (j.conf - 1 - 1) ++ front))) piece
      is_here = subst (λ (x : ℕ). IsPiece (base_bytes (service_of (lists_through lists (x - 1 - 1) ++ front))) piece) (sym there) is

      stands_here : BaseStands (lists (j.conf - 1)) (record { at = piece.at; front = front })
      stands_here = subst (λ (x : ℕ). BaseStands (lists (x - 1)) (record { at = piece.at; front = front })) (sym there) (stands_on (old (c - 1)) (lists (c - 1)) (record { at = piece.at; front = front }) (grown (c - 1)) was)

      so_far : IfPiecesRel lists j.conf s.volatile.pieces j.stage
      so_far = lacking j.base lacks stage_now
        where
          lacking : (o : Option Base) → not (is_some o) ≡ true → IfLacking o (IfPiecesRel lists j.conf s.volatile.pieces j.stage) → IfPiecesRel lists j.conf s.volatile.pieces j.stage
          lacking None x y = y
          lacking (Some b) x y = absurd (true≢false (sym x))

      whole_is : whole_bytes came.bytes ≡ cond (has_all staged.has piece.total) (Some bytes) None
      whole_is =
          ap whole_bytes (pieces_are lists j.conf piece front is_here stands_here s.volatile.pieces j.stage so_far)
          ∙ ap (λ (x : ℕ). whole_bytes (Rattle.op_refinement.proofs.Relation.bytes_had staged.has 0 (base_bytes (service_of (lists_through lists (x - 1 - 1) ++ front))))) there
          ∙ whole_had staged.has bytes ∙ ap (λ (x : ℕ). cond (has_all staged.has x) (Some bytes) None) (sym is.total)

      -- some are missing still
      staged_rel : whole_bytes came.bytes ≡ None → Goes (plan_of me s s.waiting (on_base_piece s.durable.joining s.volatile c piece)) (unchanged (with_joining st (record j { stage = Some staged })))
      staged_rel none =
          let more : table.Volatile = record (s.volatile) { pieces = Some came } in
          let row : on_base_piece s.durable.joining s.volatile c piece ≡ storing more [] =
          ap (λ (o : Option StoredJoining). on_base_piece o s.volatile c piece) hj
          ∙ ap (λ (b : Bool). cond b (storing (record (s.volatile) { pieces = pieces_once came (whole_bytes came.bytes) }) []) (storing s.volatile [])) (one_same ∙ e)
          ∙ ap (λ (o : Option (List ℕ)). storing (record (s.volatile) { pieces = pieces_once came o }) []) none in
          subst (λ (x : PartStep). Goes (plan_of me s s.waiting x) (unchanged (with_joining st (record j { stage = Some staged })))) (sym row)
          (storing_rel lists soup me f s st k q more [] (λ p. refl) (λ p. refl) (with_joining st (record j { stage = Some staged }))
          (record {
            part = part_as lists s.durable.part s.volatile more st.part refl (k.rel).part;
            closed = (k.rel).closed;
            joining = subst (λ (o : Option StoredJoining). Rattle.op_configurations.specs.Stored.HoldsIfJoining lists o (Some (record j { stage = Some staged }))) (sym hj)
                (record { conf = h.conf; members = h.members; olds = h.olds; len = h.len; donors = h.donors; base = h.base; held = h.held });
            stage = lacking j.base (pieces_more lists j.conf piece front is_here stands_here s.volatile.pieces j.stage so_far);
          }) refl)
        where
          lacking : (o : Option Base) {P : Type 0} → P → IfLacking o P
          lacking None x = x
          lacking (Some b) x = tt

      -- by whether all came
      once_rel : (b : Bool) → has_all staged.has piece.total ≡ b → After (cond b (start_if_whole f me st (with_front piece.at bytes front None refl was)) (unchanged (with_joining st (record j { stage = Some staged }))))
          → Goes (planned_by (base_once d c piece.at (whole_bytes came.bytes)) (body.BasePiece piece)) (cond b (start_if_whole f me st (with_front piece.at bytes front None refl was)) (unchanged (with_joining st (record j { stage = Some staged }))))
      once_rel true all w =
          subst (λ (o : Option (List ℕ)). Goes (planned_by (base_once d c piece.at o) (body.BasePiece piece)) (start_if_whole f me st (with_front piece.at bytes front None refl was)))
          (sym (whole_is ∙ ap (λ (b : Bool). cond b (Some bytes) None) all))
          (subst (λ (b : Bool). Goes (planned_by (cond b (Some (change.JoinBase piece.at bytes ∷ [])) None) (body.BasePiece piece)) (start_if_whole f me st (with_front piece.at bytes front None refl was)))
          (sym (takes_same piece.at bytes front None refl was ∙ ap (λ (b : Bool). b && is_base bytes) takes_base_now ∙ is_one piece.at bytes front None refl was takes_base_now w))
          (taken_rel piece.at bytes front None refl was takes_base_now w))
      once_rel false some w =
          let none : whole_bytes came.bytes ≡ None = whole_is ∙ ap (λ (b : Bool). cond b (Some bytes) None) some in
          subst (λ (o : Option (List ℕ)). Goes (planned_by (base_once d c piece.at o) (body.BasePiece piece)) (unchanged (with_joining st (record j { stage = Some staged })))) (sym none) (staged_rel none)

    piece_rel : After (server.pieced f me st st.joining c piece.at piece.total piece.from (length piece.bytes) front)
        → Goes (planned_by (brought_to (Some d) s.volatile.pieces c (body.BasePiece piece)) (body.BasePiece piece)) (server.pieced f me st st.joining c piece.at piece.total piece.from (length piece.bytes) front)
    unfolding server.pieced server.completed
    piece_rel a =
        subst (λ (o : Option Joining). After (server.pieced f me st o c piece.at piece.total piece.from (length piece.bytes) front)
        → Goes (planned_by (brought_to (Some d) s.volatile.pieces c (body.BasePiece piece)) (body.BasePiece piece)) (server.pieced f me st o c piece.at piece.total piece.from (length piece.bytes) front)) (sym tj)
        (by takes_one refl) a
      where
        completed : Stepped
        completed = cond (has_all staged.has piece.total) (start_if_whole f me st (with_front piece.at bytes front None refl was)) (unchanged (with_joining st (record j { stage = Some staged })))

        by : (b : Bool) → takes_one ≡ b → After (cond b completed (unchanged st))
            → Goes (planned_by (cond (takes_piece d c piece) (base_once d c piece.at (whole_bytes came.bytes)) None) (body.BasePiece piece)) (cond b completed (unchanged st))
        by true e w =
            subst (λ (b : Bool). Goes (planned_by (cond b (base_once d c piece.at (whole_bytes came.bytes)) None) (body.BasePiece piece)) completed) (sym (one_same ∙ e))
            (once_rel e (has_all staged.has piece.total) refl w)
        by false e w =
            let row : on_base_piece s.durable.joining s.volatile c piece ≡ remembering s.volatile [] =
            ap (λ (o : Option StoredJoining). on_base_piece o s.volatile c piece) hj
            ∙ ap (λ (b : Bool). cond b (storing (record (s.volatile) { pieces = pieces_once came (whole_bytes came.bytes) }) []) (storing s.volatile [])) (one_same ∙ e) in
            subst (λ (b : Bool). Goes (planned_by (cond b (base_once d c piece.at (whole_bytes came.bytes)) None) (body.BasePiece piece)) (unchanged st)) (sym (one_same ∙ e))
            (subst (λ (x : PartStep). Goes (plan_of me s s.waiting x) (unchanged st)) (sym row) idle_rel)

  -- entries of the closed list
  module _ (at : ℕ) (es : List Entry) where
    abbrev with_entries : Joining
    with_entries = record { conf = j.conf; members = j.members; olds = j.olds; len = j.len; donors = j.donors; base = j.base; held = server.held_with j.held at es; stage = j.stage }

    abbrev takes_them : Bool
    takes_them = eqb j.conf c && (ltb 0 (length es) && leb (at + length es) j.len)

    takes_also : takes_entries d c at es ≡ takes_them
    takes_also =
        ap (λ (x : ℕ). eqb x c && (are_some es && leb (at + length es) d.len)) h.conf
        ∙ ap (λ (x : ℕ). eqb j.conf c && (are_some es && leb (at + length es) x)) h.len
        ∙ ap (λ (b : Bool). eqb j.conf c && (b && leb (at + length es) j.len)) (some_length es)

    -- a node that has this joining, with these entries held
    more_held : (x : StoredJoining) (m : x.conf ≡ d.conf) → x.members ≡ d.members → x.olds ≡ d.olds → x.len ≡ d.len → x.donors ≡ d.donors → x.base ≡ d.base → x.held.items ≡ held_with d.held.items at es → HoldsJoining lists x with_entries
    more_held x conf members olds len donors base held = record {
      conf = conf ∙ h.conf;
      members = members ∙ h.members;
      olds = olds ∙ h.olds;
      len = len ∙ h.len;
      donors = donors ∙ h.donors;
      base = subst (λ (o : Option StoredBase). HoldsIfBase lists j.conf o j.base) (sym base) h.base;
      held = λ i. ap (λ (l : List (ℕ × Entry)). held_at l i) held ∙ held_more d.held.items at es i ∙ ap (λ (o : Option Entry). server.first_of o (cond (leb at i) (slice_get es (i - at)) None)) (h.held i);
    }

    base_size : (y : Base) → j.base ≡ Some y → length y.front ≡ y.at
    base_size y i = base_length (old (j.conf - 1)) y ((before.joining j tj).base y i)

    brought_rel : After (start_if_whole f me st with_entries) → Goes (holds_more me s (new_entries d at es)) (start_if_whole f me st with_entries)
    brought_rel a = by (is_some (held_run d.held.items at (length es))) refl
      where
        by : (b : Bool) → is_some (held_run d.held.items at (length es)) ≡ b → Goes (holds_more me s (cond b [] (change.JoinPart at es ∷ []))) (start_if_whole f me st with_entries)
        by true e =
            holds_rel lists soup me f s st k read [] d with_entries (ap (λ (o : Option StoredJoining). record (s.durable) { joining = o }) hj)
            (more_held d refl refl refl refl refl refl (sym (held_all d.held.items at es e))) stage_now above first a base_size
        by false e =
            holds_rel lists soup me f s st k read (change.JoinPart at es ∷ []) (with_held d at es) with_entries (stored_with (change.JoinPart at es) refl)
            (more_held (with_held d at es) refl refl refl refl refl refl refl) stage_now above first a base_size

    segment_rel : After (server.got_segment f me st st.joining c at es) → Goes (planned_by (brought_to (Some d) s.volatile.pieces c (body.Segment at es)) (body.Segment at es)) (server.got_segment f me st st.joining c at es)
    unfolding server.got_segment
    segment_rel a =
        subst (λ (o : Option Joining). After (server.got_segment f me st o c at es) → Goes (planned_by (brought_to (Some d) s.volatile.pieces c (body.Segment at es)) (body.Segment at es)) (server.got_segment f me st o c at es)) (sym tj)
        (by (takes_entries d c at es) takes_them takes_also) a
      where
        by : (b e : Bool) → b ≡ e → After (cond e (start_if_whole f me st with_entries) (unchanged st))
            → Goes (planned_by (cond b (Some (new_entries d at es)) None) (body.Segment at es)) (cond e (start_if_whole f me st with_entries) (unchanged st))
        by true true e w = brought_rel w
        by false false e w = quiet lists soup me f s st k q low n c (body.Segment at es) (λ p i. refl)
        by true false e w = absurd (true≢false e)
        by false true e w = absurd (true≢false (sym e))

  -- ---- by what it says

  -- the plan and the server's step, by whether the message is from above and asks for something
  abbrev by_test : Bool → Option (List Change) → Body → Planned
  by_test t None b = plan_of me s s.waiting (cond t (remembering s.volatile (on_newer s.durable q b)) (on_latest me s.durable s.volatile q c b))
  by_test t (Some batch) b = holds_more me s batch

  abbrev done_by : Bool → server.Body → Stepped
  done_by t y = cond t (server.seeks f me st q y) (server.takes f me st n q c y)

  abbrev is_newer : Body → Bool
  is_newer b = ltb (latest_of s.durable) c && not (may_be_above b)

  latest_rel : (b : Body) (y : server.Body) (o : Option (List Change)) → may_be_above b ≡ true → (After (server.takes f me st n q c y) → Goes (planned_by o b) (server.takes f me st n q c y)) → After (done_by (is_newer b) y)
      → Goes (by_test (is_newer b) o b) (done_by (is_newer b) y)
  latest_rel b y o may go =
      subst (λ (t : Bool). After (done_by t y) → Goes (by_test t o b) (done_by t y)) (sym (and_right (ltb (latest_of s.durable) c) (not (may_be_above b)) (ap not may)))
      (λ a. subst (λ (pl : Planned). Goes pl (server.takes f me st n q c y)) (same o) (go a))
    where
      same : (x : Option (List Change)) → planned_by x b ≡ by_test false x b
      same None = refl
      same (Some batch) = refl

  asked_rel : (b : Body) (y : server.Body) → may_be_above b ≡ false → ltb c (latest_of s.durable) ≡ false → (c ≡ latest_of s.durable → Goes (plan_of me s s.waiting (on_latest me s.durable s.volatile q c b)) (server.takes f me st n q c y)) → (t : Bool) → is_newer b ≡ t → Goes (by_test t None b) (done_by t y)
  asked_rel b y may older go true e = above_rel b y
  asked_rel b y may older go false e =
      let above : ltb (latest_of s.durable) c ≡ false = sym (and_true (ltb (latest_of s.durable) c)) ∙ ap (λ (x : Bool). ltb (latest_of s.durable) c && not x) (sym may) ∙ e in
      go (omega (arith, ltb-false (latest_of s.durable) c above, ltb-false c (latest_of s.durable) older))
    where
      and_true : (b : Bool) → (b && true) ≡ b
      and_true true = refl
      and_true false = refl

  body_rel : (b : Body) (y : server.Body) → is_of_joining b ≡ true → IsSaid lists c b y → BodyStands first old c y → ltb c (latest_of s.durable) ≡ false → long_in s.durable (record { conf = c; body = b }) ≡ None → After (done_by (is_newer b) y) → Goes (by_test (is_newer b) (brought_to (Some d) s.volatile.pieces c b) b) (done_by (is_newer b) y)
  unfolding server.takes
  body_rel (body.NextConf members olds len trimmed) y e i true_of older short v =
      let b : Body = body.NextConf members olds len trimmed in
      latest_rel b y None refl
      (λ w. subst (λ (x : server.Body). Goes (planned_by None b) (server.takes f me st n q c x)) (sym i) (news_rel lists soup me f s st k q low n c joins_rel members olds len trimmed)) v
  body_rel body.AskBase y e i true_of older short v =
      asked_rel body.AskBase y refl older (λ here. subst (λ (x : server.Body). Goes (planned_by None body.AskBase) (server.takes f me st n q c x)) (sym i) (base_asked_rel lists soup me f s st k q low n c here short)) (is_newer body.AskBase) refl
  body_rel (body.BasePart at bytes) y e i true_of older short v =
      let b : Body = body.BasePart at bytes in
      latest_rel b y (brought_to (Some d) s.volatile.pieces c b) refl
      (subst (λ (x : server.Body). After (server.takes f me st n q c x) → Goes (planned_by (brought_to (Some d) s.volatile.pieces c b) b) (server.takes f me st n q c x)) (sym i.1)
      (base_rel at bytes i.0 j.stage i.2 (subst (BodyStands first old c) i.1 true_of) refl)) v
  body_rel (body.BasePiece piece) y e i true_of older short v =
      let b : Body = body.BasePiece piece in
      latest_rel b y (brought_to (Some d) s.volatile.pieces c b) refl
      (subst (λ (x : server.Body). After (server.takes f me st n q c x) → Goes (planned_by (brought_to (Some d) s.volatile.pieces c b) b) (server.takes f me st n q c x)) (sym i.1)
      (piece_rel piece i.0 i.2 (subst (BodyStands first old c) i.1 true_of))) v
  body_rel (body.AskSegment from to) y e i true_of older short v =
      let b : Body = body.AskSegment from to in
      asked_rel b y refl older (λ here. subst (λ (x : server.Body). Goes (planned_by None b) (server.takes f me st n q c x)) (sym i) (segment_asked_rel lists soup me f s st k q low n c from to)) (is_newer b) refl
  body_rel (body.Segment at es) y e i true_of older short v =
      let b : Body = body.Segment at es in
      latest_rel b y (brought_to (Some d) s.volatile.pieces c b) refl
      (subst (λ (x : server.Body). After (server.takes f me st n q c x) → Goes (planned_by (brought_to (Some d) s.volatile.pieces c b) b) (server.takes f me st n q c x)) (sym i) (segment_rel at es)) v
  body_rel (body.HeartbeatRequest r) y e i true_of older short v = absurd (true≢false (sym e))
  body_rel (body.HeartbeatReply r z g) y e i true_of older short v = absurd (true≢false (sym e))
  body_rel (body.Confirm z r) y e i true_of older short v = absurd (true≢false (sym e))
  body_rel (body.Confirmed z r) y e i true_of older short v = absurd (true≢false (sym e))
  body_rel (body.Watch w) y e i true_of older short v = absurd (true≢false (sym e))
  body_rel (body.Prepare z na nl nd) y e i true_of older short v = absurd (true≢false (sym e))
  body_rel (body.Promise z fa fl fd a es) y e i true_of older short v = absurd (true≢false (sym e))
  body_rel (body.AcceptSync z g es) y e i true_of older short v = absurd (true≢false (sym e))
  body_rel (body.PromisePart z part) y e i true_of older short v = absurd (true≢false (sym e))
  body_rel (body.AcceptSyncPart z part) y e i true_of older short v = absurd (true≢false (sym e))
  body_rel (body.Accept z a es) y e i true_of older short v = absurd (true≢false (sym e))
  body_rel (body.Accepted z g) y e i true_of older short v = absurd (true≢false (sym e))
  body_rel (body.Decide z g) y e i true_of older short v = absurd (true≢false (sym e))
  body_rel body.PrepareReq y e i true_of older short v = absurd (true≢false (sym e))
  body_rel (body.Refuse z g) y e i true_of older short v = absurd (true≢false (sym e))
  body_rel (body.Forward g) y e i true_of older short v = absurd (true≢false (sym e))
  body_rel (body.Forwards g) y e i true_of older short v = absurd (true≢false (sym e))
  body_rel (body.TrimAsk z) y e i true_of older short v = absurd (true≢false (sym e))
  body_rel (body.Progress z g) y e i true_of older short v = absurd (true≢false (sym e))
  body_rel (body.Trim g) y e i true_of older short v = absurd (true≢false (sym e))

-- ---- whatever comes

module _ (first : List ℕ) (lists : ℕ → List Entry) (soup : List Letter) (me : ℕ) (f : Fate) (s : table.State) (st : State) (k : NodeFacts lists soup me s st) (read : AllRead lists)
    (old : ℕ → List Entry) (before : StateStands first old st) (grown : (x : ℕ) → IsPrefix (old x) (lists x)) (q : ℕ) (msg : Msg) (n : ℕ) (m : Letter) (is : IsLetter lists (record { from = q; to = me; message = msg }) m) (stood : BodyStands first old m.conf m.body)
    (d : StoredJoining) (hj : s.durable.joining ≡ Some d) (j : Joining) (tj : st.joining ≡ Some j) (h : HoldsJoining lists d j) (short : long_in s.durable msg ≡ None) (votes : is_watching msg.body ≡ false) where
  low_list : (l : Closed) → st.closed ≡ Some l → l.trimmed ≤ length l.list
  low_list l e = (before.closed l e).trimmed

  said : IsSaid lists msg.conf msg.body m.body
  said = subst (λ (c : ℕ). IsSaid lists c msg.body m.body) (sym is.conf) is.body

  abbrev is_older : Bool
  is_older = ltb msg.conf (latest_of s.durable)

  abbrev is_above : Bool
  is_above = ltb (latest_of s.durable) msg.conf && not (may_be_above msg.body)

  -- the server's step, by whether it reads the letter and whether it is an older one
  abbrev read_by : Bool → Bool → Stepped
  read_by a b = cond (not a) (unchanged st) (cond b (says st (server.refers me st st.closed q)) (cond is_above (server.seeks f me st q m.body) (server.takes f me st n q msg.conf m.body)))

  reads_is : server.reads f me st n m ≡ read_by (is_of_joining msg.body) is_older
  unfolding server.reads
  reads_is =
      ap (λ (o : Option Joining). cond (is_some o && not (server.is_for_joining m.body)) (unchanged st)
      (cond (ltb m.conf (server.latest st)) (says st (server.refers me st st.closed m.from)) (cond (ltb (server.latest st) m.conf && not (server.is_ahead m.body)) (server.seeks f me st m.from m.body) (server.takes f me st n m.from m.conf m.body)))) tj
      ∙ ap (λ (b : Bool). cond (not b) (unchanged st)
      (cond (ltb m.conf (server.latest st)) (says st (server.refers me st st.closed m.from)) (cond (ltb (server.latest st) m.conf && not (server.is_ahead m.body)) (server.seeks f me st m.from m.body) (server.takes f me st n m.from m.conf m.body))))
      (sym (joining_same lists msg.conf msg.body m.body said))
      ∙ ap (λ (a : ℕ). cond (not (is_of_joining msg.body)) (unchanged st)
      (cond (ltb m.conf (server.latest st)) (says st (server.refers me st st.closed a)) (cond (ltb (server.latest st) m.conf && not (server.is_ahead m.body)) (server.seeks f me st a m.body) (server.takes f me st n a m.conf m.body)))) (sym is.from)
      ∙ ap (λ (c : ℕ). cond (not (is_of_joining msg.body)) (unchanged st)
      (cond (ltb c (server.latest st)) (says st (server.refers me st st.closed q)) (cond (ltb (server.latest st) c && not (server.is_ahead m.body)) (server.seeks f me st q m.body) (server.takes f me st n q c m.body)))) (sym is.conf)
      ∙ ap (λ (l : ℕ). cond (not (is_of_joining msg.body)) (unchanged st)
      (cond (ltb msg.conf l) (says st (server.refers me st st.closed q)) (cond (ltb l msg.conf && not (server.is_ahead m.body)) (server.seeks f me st q m.body) (server.takes f me st n q msg.conf m.body)))) (sym (latest_is lists soup me f s st k q low_list))
      ∙ ap (λ (b : Bool). cond (not (is_of_joining msg.body)) (unchanged st)
      (cond is_older (says st (server.refers me st st.closed q)) (cond (ltb (latest_of s.durable) msg.conf && not b) (server.seeks f me st q m.body) (server.takes f me st n q msg.conf m.body)))) (sym (ahead_same lists msg.conf msg.body m.body said))

  -- the node's step, by the same
  abbrev row_by : Bool → Bool → PartStep
  row_by a b =
      cond (not a) (remembering s.volatile []) (cond b (remembering s.volatile (on_older s.durable s.durable.closed q))
      (cond is_above (remembering s.volatile (on_newer s.durable q msg.body)) (on_latest me s.durable s.volatile q msg.conf msg.body)))

  step_is : message_step me s.durable s.volatile q msg ≡ row_by (is_of_joining msg.body) is_older
  step_is = member_row me s.durable s.volatile q msg votes ∙ ap (λ (o : Option StoredJoining). cond (is_some o && not (is_of_joining msg.body)) (remembering s.volatile []) (cond is_older (remembering s.volatile (on_older s.durable s.durable.closed q))
      (cond is_above (remembering s.volatile (on_newer s.durable q msg.body)) (on_latest me s.durable s.volatile q msg.conf msg.body)))) hj

  brings_is : brought_by s.durable s.volatile (input.Deliver q msg) ≡ cond is_older None (brought_to (Some d) s.volatile.pieces msg.conf msg.body)
  brings_is = ap (λ (o : Option StoredJoining). cond is_older None (brought_to o s.volatile.pieces msg.conf msg.body)) hj

  nothing_brought : (b : Bool) → is_of_joining msg.body ≡ false → cond b None (brought_to (Some d) s.volatile.pieces msg.conf msg.body) ≡ None
  nothing_brought true e = refl
  nothing_brought false e = brings_not d s.volatile.pieces msg.conf msg.body e

  -- a step that brings nothing
  plan_none : (a b : Bool) → is_of_joining msg.body ≡ a → is_older ≡ b → brought_by s.durable s.volatile (input.Deliver q msg) ≡ None → table_plan me s (input.Deliver q msg) ≡ plan_of me s s.waiting (row_by a b)
  plan_none a b x y none =
      ap (step_bringing me s (input.Deliver q msg)) none
      ∙ ap (plan_of me s s.waiting) (step_is ∙ ap (λ (t : Bool). row_by t is_older) x ∙ ap (row_by a) y)

  abbrev by_body : Option (List Change) → Planned
  by_body o = by_test first lists soup me f s st k read old before grown q n msg.conf d hj j tj h is_above o msg.body

  plan_brings : (o : Option (List Change)) → is_of_joining msg.body ≡ true → is_older ≡ false → step_bringing me s (input.Deliver q msg) o ≡ by_body o
  plan_brings None x y = ap (plan_of me s s.waiting) (step_is ∙ ap (λ (t : Bool). row_by t is_older) x ∙ ap (row_by true) y)
  plan_brings (Some batch) x y = refl

  abbrev Comes : Stepped → Type 0
  Comes o = StepRel lists me f s.durable (table_plan me s (input.Deliver q msg)) o

  read_rel : (a b : Bool) → is_of_joining msg.body ≡ a → is_older ≡ b → StateStands first lists (read_by a b).state → Comes (read_by a b)
  read_rel false b x y w =
      subst (λ (pl : Planned). StepRel lists me f s.durable pl (unchanged st)) (sym (plan_none false b x y (brings_is ∙ nothing_brought is_older x)))
      (nothing_rel lists soup me f s st k q low_list n msg.conf)
  read_rel true true x y w =
      subst (λ (pl : Planned). StepRel lists me f s.durable pl (says st (server.refers me st st.closed q)))
      (sym (plan_none true true x y (brings_is ∙ ap (λ (b : Bool). cond b None (brought_to (Some d) s.volatile.pieces msg.conf msg.body)) y)))
      (older_rel lists soup me f s st k q low_list)
  read_rel true false x y w =
      let brings : brought_by s.durable s.volatile (input.Deliver q msg) ≡ brought_to (Some d) s.volatile.pieces msg.conf msg.body = brings_is ∙ ap (λ (b : Bool). cond b None (brought_to (Some d) s.volatile.pieces msg.conf msg.body)) y in
      subst (λ (pl : Planned). StepRel lists me f s.durable pl (read_by true false))
      (sym (ap (step_bringing me s (input.Deliver q msg)) brings ∙ plan_brings (brought_to (Some d) s.volatile.pieces msg.conf msg.body) x y))
      (body_rel first lists soup me f s st k read old before grown q n msg.conf d hj j tj h msg.body m.body x said (subst (λ (c : ℕ). BodyStands first old c m.body) (sym is.conf) stood) y short w)

  not_past : is_past s.durable.part s.durable.joining msg ≡ false
  not_past = ap (λ (o : Option StoredJoining). is_past s.durable.part o msg) hj ∙ by s.durable.part
    where
      by : (o : Option StoredPart) → is_past o (Some d) msg ≡ false
      by None = refl
      by (Some p) = refl

  -- whatever comes there
  pub while_joining : StateStands first lists (step_by f me st (delivery_event s n m msg None)).state → Comes (step_by f me st (delivery_event s n m msg None))
  unfolding server.step
  while_joining =
      subst (λ (b : Bool). StateStands first lists (step_by f me st (cond b None (Some (server.Reads n m)))).state → Comes (step_by f me st (cond b None (Some (server.Reads n m))))) (sym not_past)
      (subst (λ (o : Stepped). StateStands first lists o.state → Comes o) (sym reads_is) (read_rel (is_of_joining msg.body) is_older refl refl))
