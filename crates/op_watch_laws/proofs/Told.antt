-- What a member shows an observer is true.
use Rattle.std.proofs.Common.{◌≡◌, ◌<◌, ◌≤◌, ℕ, zero, suc, ◌+◌, ◌-◌, ◌*◌, ◌||◌, Bool, true, false, cond, eqb, ltb, leb, List, [], ◌∷◌, ◌++◌, length, take, drop, map, Option, Some, None, refl, sym, ap, ◌∙◌, subst, arith, append_assoc, length-append}
use Rattle.std.proofs.lemmas.Bool.{cond_both, eqb-true, ltb-false}
use Rattle.std.proofs.lemmas.List.{take-append-le, drop-append-le, take-append-drop, take_min, length-take, length-drop, drop-take}
use Rattle.op_types.specs.Limits.{most_part_bytes}
use Rattle.op_types.specs.Cutting.{cut}
use Rattle.op_types.proofs.Cuts.{joined, cut_joined, cut_full, NoneEmpty}
use Rattle.op_types.specs.declared.durable.Part.{Part}
use Rattle.op_types.specs.declared.durable.Closed.{Closed}
use Rattle.op_types.specs.declared.durable.Joining.{Joining}
use Rattle.op_types.specs.declared.durable.Durable.{Durable}
use Rattle.op_types.specs.declared.log.Entry.{Entry}
use Rattle.op_types.specs.declared.messages.Body.{Body}
use Rattle.op_types.specs.declared.messages.Body.TheVariants as body
use Rattle.op_types.specs.declared.messages.Watch.TheVariants as watch
use Rattle.op_types.specs.declared.messages.Msg.{Msg}
use Rattle.op_spec.specs.Machine.{members_of}
use Rattle.op_spec.specs.Service.{base_bytes, service_of}
use Rattle.op_spec.specs.Stands.{Stands, PartStands, ClosedStands, IfPartStands, IfClosedStands, prefix_of}
use Rattle.op_protocol.specs.Parts.{messages}
use Rattle.op_protocol.specs.Joining.{piece_count}
use Rattle.op_protocol.specs.Watched.{Decided, decided_of_part, decided_of_closed, closed_from, decided_for, shown_bodies, watch_pieces, shown_base, shown_of, shown_if, answers_by, watch_answers}
use Rattle.op_refinement.proofs.View.{Each}
use Rattle.op_watch_laws.specs.Laws.{ShownIsTrue, ShownBaseIsTrue, IsShownTrue}
use Rattle.op_watch_laws.proofs.Lists.{Grown, AreEnded, still_ended, prefix_same, members_same, longer}

-- what is told of a configuration is true, and all lists before that are ended
abbrev pub IsTold : List ℕ → (ℕ → List Entry) → ℕ → Body → Type 0
IsTold first lists c (body.Watch (watch.Shown at es)) = ShownIsTrue (lists c) at es
IsTold first lists c (body.Watch (watch.Base members p)) = (0 < c) × AreEnded lists c × ShownBaseIsTrue first lists c members p
IsTold first lists c _ = Unit {0}

-- it is true then
pub told_true : (first : List ℕ) (lists : ℕ → List Entry) (c : ℕ) (b : Body) → IsTold first lists c b → IsShownTrue first lists c b
told_true first lists c (body.Watch (watch.Shown at es)) k = k
told_true first lists c (body.Watch (watch.Base members p)) k = k.2
told_true first lists c (body.Watch (watch.Ask from)) k = tt
told_true first lists c (body.HeartbeatRequest r) k = tt
told_true first lists c (body.HeartbeatReply r z f) k = tt
told_true first lists c (body.Prepare n na nl nd) k = tt
told_true first lists c (body.Promise n fa fl fd s es) k = tt
told_true first lists c (body.AcceptSync n x es) k = tt
told_true first lists c (body.Accept n x es) k = tt
told_true first lists c (body.Accepted n x) k = tt
told_true first lists c (body.Decide n x) k = tt
told_true first lists c body.PrepareReq k = tt
told_true first lists c (body.Refuse n z) k = tt
told_true first lists c (body.Forward e) k = tt
told_true first lists c (body.Forwards es) k = tt
told_true first lists c (body.TrimAsk n) k = tt
told_true first lists c (body.Progress n x) k = tt
told_true first lists c (body.Trim x) k = tt
told_true first lists c (body.NextConf members olds len t) k = tt
told_true first lists c body.AskBase k = tt
told_true first lists c (body.BasePart at bytes) k = tt
told_true first lists c (body.AskSegment a b) k = tt
told_true first lists c (body.Segment at es) k = tt
told_true first lists c (body.PromisePart n part) k = tt
told_true first lists c (body.AcceptSyncPart n part) k = tt
told_true first lists c (body.BasePiece p) k = tt
told_true first lists c (body.Confirm n r) k = tt
told_true first lists c (body.Confirmed n r) k = tt

module _ (first : List ℕ) (lists lists' : ℕ → List Entry) (g : Grown lists lists') where
  shown_grows : (c at : ℕ) (es : List Entry) → ShownIsTrue (lists c) at es → ShownIsTrue (lists' c) at es
  shown_grows c at es k =
      let m = g.more c in
      let low : at ≤ length (lists c) = omega (arith, k.within) in
      record {
        within = omega (arith, k.within, longer lists lists' g c);
        entries_are = k.entries_are
            ∙ sym (take-append-le (length es) (drop at (lists c)) m.0 (omega (arith, k.within, length-drop at (lists c))))
            ∙ ap (take (length es)) (sym (drop-append-le at (lists c) m.0 low)) ∙ ap (λ (l : List Entry). take (length es) (drop at l)) m.1;
      }

  -- what was true stays so
  pub told_grows : (c : ℕ) (b : Body) → IsTold first lists c b → IsTold first lists' c b
  told_grows c (body.Watch (watch.Shown at es)) k = shown_grows c at es k
  told_grows c (body.Watch (watch.Base members p)) k =
      let t = k.2 in
      let same : base_bytes (service_of (prefix_of lists c p.at)) ≡ base_bytes (service_of (prefix_of lists' c p.at)) =
      ap (λ (l : List Entry). base_bytes (service_of l)) (prefix_same lists lists' g c p.at k.1 t.within) in (
        k.0,
        still_ended lists lists' g c k.1,
        record {
          members_are = t.members_are ∙ members_same lists lists' g first c k.0 k.1;
          within = omega (arith, t.within, longer lists lists' g c);
          total = t.total ∙ ap (λ (l : List ℕ). length l) same;
          inside = t.inside;
          bytes = t.bytes ∙ ap (λ (l : List ℕ). take (length p.bytes) (drop p.from l)) same;
        },
      )
  told_grows c (body.Watch (watch.Ask from)) k = tt
  told_grows c (body.HeartbeatRequest r) k = tt
  told_grows c (body.HeartbeatReply r z f) k = tt
  told_grows c (body.Prepare n na nl nd) k = tt
  told_grows c (body.Promise n fa fl fd s es) k = tt
  told_grows c (body.AcceptSync n x es) k = tt
  told_grows c (body.Accept n x es) k = tt
  told_grows c (body.Accepted n x) k = tt
  told_grows c (body.Decide n x) k = tt
  told_grows c body.PrepareReq k = tt
  told_grows c (body.Refuse n z) k = tt
  told_grows c (body.Forward e) k = tt
  told_grows c (body.Forwards es) k = tt
  told_grows c (body.TrimAsk n) k = tt
  told_grows c (body.Progress n x) k = tt
  told_grows c (body.Trim x) k = tt
  told_grows c (body.NextConf members olds len t) k = tt
  told_grows c body.AskBase k = tt
  told_grows c (body.BasePart at bytes) k = tt
  told_grows c (body.AskSegment a b) k = tt
  told_grows c (body.Segment at es) k = tt
  told_grows c (body.PromisePart n part) k = tt
  told_grows c (body.AcceptSyncPart n part) k = tt
  told_grows c (body.BasePiece p) k = tt
  told_grows c (body.Confirm n r) k = tt
  told_grows c (body.Confirmed n r) k = tt

-- ---- what a node has decided

drop_nil : {A : Type 0} (m : ℕ) → drop {A = A} m [] ≡ []
drop_nil zero = refl
drop_nil (suc m) = refl

pub drop_drop : {A : Type 0} (n m : ℕ) (l : List A) → drop m (drop n l) ≡ drop (n + m) l
drop_drop zero m l = let e : m ≡ 0 + m = omega arith in ap (λ (k : ℕ). drop k l) e
drop_drop (suc n) m [] = drop_nil m ∙ sym (drop_nil (suc n + m))
drop_drop (suc n) m (x ∷ l) = let e : suc (n + m) ≡ suc n + m = omega arith in drop_drop n m l ∙ ap (λ (k : ℕ). drop k (x ∷ l)) e

-- what is behind some of the first items is the first of what is behind them in all
drop_of_take : {A : Type 0} (m n : ℕ) (l : List A) → (k : ℕ) × (drop m (take n l) ≡ take k (drop m l))
drop_of_take zero n l = (n, refl)
drop_of_take (suc m) zero l = (0, refl)
drop_of_take (suc m) (suc n) [] = (0, refl)
drop_of_take (suc m) (suc n) (x ∷ l) = drop_of_take m n l

-- a decided front that can be shown
pub record DecidedTrue (first : List ℕ) (lists : ℕ → List Entry) (k : Decided) : Type 0 where
  pub pos : 0 < k.conf
  pub ended : AreEnded lists k.conf
  pub members : k.members ≡ members_of first lists k.conf
  pub trimmed : k.trimmed ≤ length (lists k.conf)
  pub base : k.base ≡ base_bytes (service_of (prefix_of lists k.conf k.trimmed))
  pub count : ℕ
  pub entries : k.entries ≡ take count (drop k.trimmed (lists k.conf))

part_true : (first : List ℕ) (lists : ℕ → List Entry) (p : Part) → PartStands first lists p → 0 < p.conf → AreEnded lists p.conf → DecidedTrue first lists (decided_of_part p)
part_true first lists p k pos ended =
    let sum : p.decided ≡ p.trimmed + (p.decided - p.trimmed) = omega (arith, k.trimmed) in
    record {
      pos = pos;
      ended = ended;
      members = k.members;
      trimmed = omega (arith, k.trimmed, k.decided);
      base = k.base;
      count = p.decided - p.trimmed;
      entries = k.entries ∙ ap (λ (n : ℕ). drop p.trimmed (take n (lists p.conf))) sum ∙ drop-take p.trimmed (p.decided - p.trimmed) (lists p.conf);
    }

closed_true : (first : List ℕ) (lists : ℕ → List Entry) (l : Closed) → ClosedStands first lists l → 0 < l.conf → AreEnded lists l.conf → DecidedTrue first lists (decided_of_closed l)
closed_true first lists l k pos ended = record {
  pos = pos;
  ended = ended;
  members = k.olds;
  trimmed = k.trimmed;
  base = k.base;
  count = length (drop l.trimmed (lists l.conf));
  entries = k.entries ∙ sym (Rattle.std.proofs.Math.Seq.take-length (drop l.trimmed (lists l.conf)));
}

module _ (first : List ℕ) (lists : ℕ → List Entry) where
  -- of the configurations that a node shows
  pub record CanShow (d : Durable) : Type 0 where
    pub part : (p : Part) → d.part ≡ Some p → (0 < p.conf) × AreEnded lists p.conf
    pub closed : (l : Closed) → d.closed ≡ Some l → (0 < l.conf) × AreEnded lists l.conf

  abbrev AreTold : List (ℕ × Msg) → Type 0
  AreTold sends = Each (λ s. IsTold first lists s.1.conf s.1.body) sends

  module _ (q c from : ℕ) (k : Decided) (t : DecidedTrue first lists k) where
    abbrev list : List Entry
    list = lists k.conf

    run_told : k.trimmed ≤ from → (run : List Entry) (runs : List (List Entry)) → cut (drop (from - k.trimmed) k.entries) ≡ run ∷ runs → ShownIsTrue list from run
    run_told le run runs e =
        let behind = drop_of_take (from - k.trimmed) t.count (drop k.trimmed list) in
        let sum : k.trimmed + (from - k.trimmed) ≡ from = omega (arith, le) in
        let shown : run ++ joined runs ≡ take behind.0 (drop from list) =
        ap joined (sym e) ∙ cut_joined (drop (from - k.trimmed) k.entries) ∙ ap (drop (from - k.trimmed)) t.entries ∙ behind.1
        ∙ ap (take behind.0) (drop_drop k.trimmed (from - k.trimmed) list ∙ ap (λ (n : ℕ). drop n list) sum) in
        let rest : List Entry = joined runs ++ drop behind.0 (drop from list) in
        let all : run ++ rest ≡ drop from list =
        sym (append_assoc run (joined runs) (drop behind.0 (drop from list))) ∙ ap (λ (l : List Entry). l ++ drop behind.0 (drop from list)) shown ∙ take-append-drop behind.0 (drop from list) in
        let some : 0 < length run = (subst NoneEmpty e (cut_full (drop (from - k.trimmed) k.entries))).0 in
        record {
          within = omega (arith, some, ap (λ (l : List Entry). length l) all, length-append run rest, length-drop from list);
          entries_are = sym (Rattle.std.proofs.Math.Seq.take-append_seam run rest) ∙ ap (take (length run)) all;
        }

    runs_told : c ≡ k.conf → k.trimmed ≤ from → AreTold (messages c q (shown_bodies from (drop (from - k.trimmed) k.entries)))
    runs_told here le = by (cut (drop (from - k.trimmed) k.entries)) refl
      where
        by : (runs : List (List Entry)) → cut (drop (from - k.trimmed) k.entries) ≡ runs → AreTold (messages c q (map (λ run. body.Watch (watch.Shown from run)) (take 1 runs)))
        by [] e = tt
        by (run ∷ runs) e = (subst (λ (x : ℕ). ShownIsTrue (lists x) from run) (sym here) (run_told le run runs e), tt)

    -- each piece begins inside the base, and ends there
    pieces_told : (at count : ℕ) → at + count * most_part_bytes < length k.base + most_part_bytes → AreTold (messages k.conf q (watch_pieces k.members k.trimmed k.base at count))
    pieces_told at zero few = tt
    pieces_told at (suc count) few = (
      (
        t.pos,
        t.ended,
        record {
          members_are = t.members;
          within = t.trimmed;
          total = ap (λ (l : List ℕ). length l) t.base;
          inside = let size = length-take most_part_bytes (drop at k.base) in let left = length-drop at k.base in omega (arith, size, left, few);
          bytes =
              sym (take_min most_part_bytes (drop at k.base)) ∙ ap (λ (n : ℕ). take n (drop at k.base)) (sym (length-take most_part_bytes (drop at k.base)))
              ∙ ap (λ (l : List ℕ). take (length (take most_part_bytes (drop at k.base))) (drop at l)) t.base;
        },
      ),
      pieces_told (at + most_part_bytes) count (omega (arith, few)),
    )

    base_told : AreTold (messages k.conf q (shown_base k))
    base_told = pieces_told 0 (piece_count (length k.base)) (omega arith)

    pub shown_told : c ≤ k.conf → AreTold (shown_of k q c from)
    shown_told le = by (ltb c k.conf) refl (ltb from k.trimmed) refl
      where
        whole : List (ℕ × Msg)
        whole = messages k.conf q (shown_base k)

        some : List (ℕ × Msg)
        some = messages c q (shown_bodies from (drop (from - k.trimmed) k.entries))

        by : (a : Bool) → ltb c k.conf ≡ a → (b : Bool) → ltb from k.trimmed ≡ b → AreTold (cond (ltb c k.conf || ltb from k.trimmed) whole some)
        by true x b y = subst (λ (z : Bool). AreTold (cond (z || ltb from k.trimmed) whole some)) (sym x) base_told
        by false x true y =
            subst (λ (z : Bool). AreTold (cond (z || ltb from k.trimmed) whole some)) (sym x) (subst (λ (z : Bool). AreTold (cond z whole some)) (sym y) base_told)
        by false x false y =
            subst (λ (z : Bool). AreTold (cond (z || ltb from k.trimmed) whole some)) (sym x)
            (subst (λ (z : Bool). AreTold (cond z whole some)) (sym y) (runs_told (omega (arith, le, ltb-false c k.conf x)) (omega (arith, ltb-false from k.trimmed y))))

  -- what a node that stands answers
  pub answers_told : (d : Durable) → Stands first lists d → CanShow d → (q c : ℕ) (b : Body) → AreTold (watch_answers d q c b)
  answers_told d s can q c b = by b
    where
      closed_told : (from : ℕ) (o : Option Closed) → d.closed ≡ o → IfClosedStands first lists o → AreTold (shown_if (closed_from o c) q c from)
      closed_told from None e k = tt
      closed_told from (Some l) e k =
          let x = can.closed l e in
          cond_both (leb c l.conf) (Some (decided_of_closed l)) None (λ (o : Option Decided). AreTold (shown_if o q c from))
          (λ h. shown_told q c from (decided_of_closed l) (closed_true first lists l k x.0 x.1) (Rattle.std.proofs.lemmas.Bool.leb-true c l.conf h)) (λ _. tt)

      part_told : (from : ℕ) (o : Option Part) → d.part ≡ o → IfPartStands first lists o → AreTold (shown_if (decided_for o d.closed c) q c from)
      part_told from None e k = closed_told from d.closed refl s.closed
      part_told from (Some p) e k =
          let x = can.part p e in
          cond_both (eqb p.conf c) (Some (decided_of_part p)) (closed_from d.closed c) (λ (o : Option Decided). AreTold (shown_if o q c from))
          (λ h. shown_told q c from (decided_of_part p) (part_true first lists p k x.0 x.1) (omega (arith, eqb-true p.conf c h))) (λ _. closed_told from d.closed refl s.closed)

      joining_told : (from : ℕ) (j : Option Joining) → AreTold (answers_by j d q c from)
      joining_told from None = part_told from d.part refl s.part
      joining_told from (Some j) = tt

      by : (b : Body) → AreTold (watch_answers d q c b)
      by (body.Watch (watch.Ask from)) = joining_told from d.joining
      by (body.Watch (watch.Shown at es)) = tt
      by (body.Watch (watch.Base members p)) = tt
      by _ = tt
