-- What a member answers an observer is in range.
use Rattle.std.proofs.Common.{◌≡◌, ◌≤◌, ◌<◌, ◌+◌, ◌-◌, ◌*◌, ℕ, zero, suc, ◌||◌, ltb, eqb, leb, List, [], ◌∷◌, length, take, drop, map, Option, Some, None, refl, sym, subst, arith, All}
use Rattle.std.specs.Prelude.{IfSome}
use Rattle.std.proofs.lemmas.Bool.{cond_both, or_parts, ltb-false}
use Rattle.std.proofs.lemmas.List.{length-take, length-take-le, length-drop}
use Rattle.std.proofs.lemmas.List.Elements.{All-nil, All-cons, All-head, All-drop, All-map, All-weaker}
use Rattle.op_types.specs.Limits.{positions_end, last_conf, most_part_bytes}
use Rattle.op_types.specs.Cutting.{cut, parts_from}
use Rattle.op_types.specs.Ranges.{IsConf, IsPlace}
use Rattle.op_types.specs.declared.durable.Closed.{Closed}
use Rattle.op_types.specs.declared.durable.Durable.{Durable}
use Rattle.op_types.specs.declared.durable.Joining.{Joining}
use Rattle.op_types.specs.declared.durable.Part.{Part}
use Rattle.op_types.specs.declared.log.Entry.{Entry}
use Rattle.op_types.specs.declared.messages.Body.{Body}
use Rattle.op_types.specs.declared.messages.Msg.{Msg}
use Rattle.op_msg.specs.Sizes.{carried_size}
use Rattle.op_types.specs.declared.messages.Body.TheVariants as body
use Rattle.op_types.specs.declared.messages.Watch.TheVariants as watch
use Rattle.op_types.specs.declared.runs.Piece.{Piece}
use Rattle.op_protocol.specs.Joining.{piece_count}
use Rattle.op_protocol.specs.Parts.{message, messages}
use Rattle.op_protocol.specs.Watched.{Decided, decided_of_part, decided_of_closed, closed_from, decided_for, shown_bodies, watch_pieces, shown_base, shown_of, shown_if, answers_by, watch_answers}
use Rattle.op_record.specs.Ranges.{PartInRange, ClosedInRange}
use Rattle.op_bounds.specs.Messages.{MembersOf, EntryOf, BodyInRange, MsgInRange, NamesConf, SendInRange}
use Rattle.op_bounds.specs.States.{PartOf, ClosedOf, DurableOf}
use Rattle.op_bounds.proofs.Batches.{PartIn, part_in}
use Rattle.op_bounds.proofs.Effects.{Said}
use Rattle.op_bounds.proofs.Entries.{first_entries, entries_of_both}
use Rattle.op_bounds.proofs.InParts.{run_entries, cut_said}

-- what is decided of a configuration, in range
record DecidedIn (Known : ℕ → Type 0) (k : Decided) : Type 0 where
  conf : IsConf k.conf
  members : MembersOf Known k.members
  ends : k.trimmed + length k.entries ≤ positions_end
  entries : All (EntryOf Known) k.entries

-- what is said to one who asks: it names known ids
pub record AnswerTo (Known : ℕ → Type 0) (q : ℕ) (s : ℕ × Msg) : Type 0 where
  pub to : s.0 ≡ q
  pub conf : NamesConf s.1
  pub carries : carried_size s.1.body ≤ most_part_bytes
  pub message : MsgInRange Known s.1

module _ (Known : ℕ → Type 0) where
  -- ---- what is decided

  of_part : (p : Part) → PartIn Known p → DecidedIn Known (decided_of_part p)
  of_part p k =
      let size : length (take (p.decided - p.trimmed) p.tail.items) ≡ p.decided - p.trimmed = length-take-le (p.decided - p.trimmed) p.tail.items (omega (arith, k.range.decided)) in
      record {
        conf = k.range.conf;
        members = record { range = k.range.members; known = k.members };
        ends = omega (arith, size, k.range.decided, k.range.len);
        entries = (first_entries Known p.conf (p.decided - p.trimmed) p.tail.items k.entries).each;
      }

  of_closed : (l : Closed) → ClosedInRange l → ClosedOf Known l → DecidedIn Known (decided_of_closed l)
  of_closed l r k =
      record {
        conf = (r.conf.0, omega (arith, r.conf));
        members = record { range = r.olds; known = k.olds };
        ends = omega (arith, r.len);
        entries = entries_of_both Known l.tail r.entries k.entries;
      }

  from_in : (o : Option Closed) (c : ℕ) → IfSome o ClosedInRange → IfSome o (ClosedOf Known) → IfSome (closed_from o c) (DecidedIn Known)
  from_in None c r k = tt
  from_in (Some l) c r k =
      cond_both (leb c l.conf) (Some (decided_of_closed l)) None (λ (x : Option Decided). IfSome x (DecidedIn Known)) (λ _. of_closed l r k) (λ _. tt)

  decided_in : (o : Option Part) (x : Option Closed) (c : ℕ) → IfSome o PartInRange → IfSome o (PartOf Known) → IfSome x ClosedInRange → IfSome x (ClosedOf Known)
      → IfSome (decided_for o x c) (DecidedIn Known)
  decided_in None x c in_part of_known in_closed k = from_in x c in_closed k
  decided_in (Some p) x c in_part of_known in_closed k =
      cond_both (eqb p.conf c) (Some (decided_of_part p)) (closed_from x c) (λ (y : Option Decided). IfSome y (DecidedIn Known))
      (λ _. of_part p (part_in Known p in_part of_known)) (λ _. from_in x c in_closed k)

  -- ---- what is shown of it

  module _ (q : ℕ) where
    abbrev Answers : List (ℕ × Msg) → Type 0
    Answers sends = All (AnswerTo Known q) sends

    bodies_to : (c : ℕ) (bodies : List Body) → IsConf c → All (Said Known) bodies → Answers (messages c q bodies)
    bodies_to c bodies in_conf fit =
        All-map (AnswerTo Known q) (λ b. message c q b) bodies
        (All-weaker (Said Known) (λ b. AnswerTo Known q (message c q b))
        (λ b said. record { to = refl; carries = said.carries; conf = λ h. in_conf; message = record { conf = in_conf.1; least = omega (arith, said.least, in_conf.0); body = said.body } }) bodies fit)

    -- the first run alone
    first_shown : (from : ℕ) (runs : List (List Entry)) → All (Said Known) (parts_from (λ at run. body.Watch (watch.Shown at run)) from runs) → All (Said Known) (map (λ run. body.Watch (watch.Shown from run)) (take 1 runs))
    first_shown from [] all = All-nil (Said Known)
    first_shown from (run ∷ runs) all =
        All-cons (Said Known) (body.Watch (watch.Shown from run)) [] (All-head (Said Known) (body.Watch (watch.Shown from run)) _ all) (All-nil (Said Known))

    entries_shown : (c from : ℕ) (es : List Entry) → IsConf c → from + length es ≤ positions_end → All (EntryOf Known) es → Answers (messages c q (shown_bodies from es))
    entries_shown c from es in_conf ends each =
        bodies_to c (shown_bodies from es) in_conf
        (first_shown from (cut es)
        (cut_said Known (Said Known) (λ at run. body.Watch (watch.Shown at run))
        (λ at run said. record { least = omega arith; carries = said.fits; body = (omega (arith, said.ends), run_entries Known at run said) }) from es ends each))

    module _ (k : Decided) (fit : DecidedIn Known k) where
      -- each piece has a byte at least
      pieces_shown : (bytes : List ℕ) (from count : ℕ) → from + count * most_part_bytes < length bytes + most_part_bytes → All (Said Known) (watch_pieces k.members k.trimmed bytes from count)
      pieces_shown bytes from zero few = All-nil (Said Known)
      pieces_shown bytes from (suc count) few =
          let piece : Piece = record { at = k.trimmed; total = length bytes; from = from; bytes = take most_part_bytes (drop from bytes) } in
          let size = length-take most_part_bytes (drop from bytes) in
          let left = length-drop from bytes in
          All-cons (Said Known) (body.Watch (watch.Base k.members piece)) (watch_pieces k.members k.trimmed bytes (from + most_part_bytes) count)
          (record {
            least = omega arith;
            carries = omega (arith, size);
            body = (fit.members, record { at = omega (arith, fit.ends); some = omega (arith, size, left, few); few = omega (arith, size) });
          })
          (pieces_shown bytes (from + most_part_bytes) count (omega (arith, few)))

      shown : (c from : ℕ) → c ≤ last_conf → IsPlace from → Answers (shown_of k q c from)
      shown c from small place =
          cond_both (ltb c k.conf || ltb from k.trimmed) (messages k.conf q (shown_base k)) (messages c q (shown_bodies from (drop (from - k.trimmed) k.entries))) Answers
          (λ _. bodies_to k.conf (shown_base k) fit.conf (pieces_shown k.base 0 (piece_count (length k.base)) (omega arith)))
          (λ h. let low = or_parts (ltb c k.conf) (ltb from k.trimmed) h in
          let own = ltb-false c k.conf low.0 in
          let left = ltb-false from k.trimmed low.1 in
          let size = length-drop (from - k.trimmed) k.entries in
          let all = fit.ends in
          entries_shown c from (drop (from - k.trimmed) k.entries) (omega (arith, own, fit.conf), omega (arith, small)) (omega (arith, size, left, place, all)) (All-drop (EntryOf Known) (from - k.trimmed) k.entries fit.entries))

    if_shown : (o : Option Decided) (c from : ℕ) → IfSome o (DecidedIn Known) → c ≤ last_conf → IsPlace from → Answers (shown_if o q c from)
    if_shown None c from fit small place = All-nil (AnswerTo Known q)
    if_shown (Some k) c from fit small place = shown k fit c from small place

    answers_in : (j : Option Joining) (d : Durable) (c from : ℕ) → DurableOf Known d → c ≤ last_conf → IsPlace from → Answers (answers_by j d q c from)
    answers_in None d c from k small place =
        if_shown (decided_for d.part d.closed c) c from (decided_in d.part d.closed c k.range.part k.part k.range.closed k.closed) small place
    answers_in (Some j) d c from k small place = All-nil (AnswerTo Known q)

    -- what an observer is answered, whoever it is
    pub answers_to : (d : Durable) (c : ℕ) (b : Body) → DurableOf Known d → c ≤ last_conf → BodyInRange Known b → Answers (watch_answers d q c b)
    answers_to d c (body.Watch (watch.Ask from)) k small fit = answers_in d.joining d c from k small fit
    answers_to d c (body.Watch (watch.Shown at es)) k small fit = All-nil (AnswerTo Known q)
    answers_to d c (body.Watch (watch.Base members x)) k small fit = All-nil (AnswerTo Known q)
    answers_to d c _ k small fit = All-nil (AnswerTo Known q)

    -- and where it is known
    pub answers_said : Known q → (d : Durable) (c : ℕ) (b : Body) → DurableOf Known d → c ≤ last_conf → BodyInRange Known b → All (SendInRange Known) (watch_answers d q c b)
    answers_said one d c b k small fit =
        All-weaker (AnswerTo Known q) (SendInRange Known) (λ s a. record { to = subst Known (sym a.to) one; conf = a.conf; carries = a.carries; message = a.message }) (watch_answers d q c b) (answers_to d c b k small fit)
