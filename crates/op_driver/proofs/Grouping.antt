-- A group of inputs: those that a node dealt with in one call, and those that are left.
use Rattle.std.proofs.Common.{◌≡◌, ◌⊎◌, ◌<◌, ◌≤◌, ◌+◌, ◌==◌, ◌++◌, ◌∷◌, [], true, false, List, length, map, drop, All, if◌then◌else◌, Option, None, refl, sym, ◌∙◌, ap, subst, inl, inr, arith}
use Rattle.std.proofs.lemmas.List.{append-nil, length-append, length-map}
use Rattle.std.proofs.lemmas.List.Elements.{All-drop, All-head, All-tail, All-nil}
use Rattle.std.proofs.Math.Seq.{drop-append_seam}
use Rattle.op_types.specs.declared.events.Input.{Input}
use Rattle.op_serving.specs.declared.wanted.Wanted.{Wanted}
use Rattle.op_serving.specs.Cores.{Standing}
use Rattle.op_serving.specs.Counts.{most_inputs}
use Rattle.op_serving.specs.Fates.{Came, Fate, faults, is_session, MayFail, inputs_of, ends_lost, after_fate, after_all, MayComeAll, TellAll, StepsAll}
use Rattle.op_serving.specs.State.{Loop}
use Rattle.op_serving.specs.Losses as losses
use Rattle.op_serving.specs.Losses.{most_marks, settled, Stays}
use Rattle.op_serving.specs.Inputs.{Brought, loop_after_all}
use Rattle.op_queues.specs.Gathering.{AskWithLast}
use Rattle.op_driver.specs.Answering.{Answer, counting_all, answered_all}
use Rattle.op_driver.specs.Driver.{Served, Stores, Drained, IsDrained, served_at}
use Rattle.op_driver.specs.Ungiven.{Ungiven, AreUngiven, GivesSome, GivesFrom, GivesAll}
use Rattle.op_queues.proofs.Settling.{does_as, stays_then}
use Rattle.op_driver.proofs.Calm.{apart}
use Rattle.op_driver.proofs.Counting.{most_counting_all, stays_counting_all}
use Rattle.op_driver.proofs.Draining.{no_items}
use Rattle.op_driver.proofs.Taking.{Entry, FailAll, brought_of, came_of, taken_of, loop_taken, InCount}
use Rattle.op_driver.proofs.Together.{ComesAll, gives_group, some_drained, some_then, some_full, some_gives}
use Rattle.op_driver.proofs.Telling.{counting_all_is, answered_all_is, asked_before, asked_behind}

-- ---- which inputs a call dealt with

-- of these inputs these came, and the others are left
record Parted (bs : List Brought) (cs : List Came) (rest : List Input) : Type 0 where
  zs : List Entry
  left : List Brought
  all : bs ≡ brought_of zs ++ left
  came : came_of zs ≡ cs
  inputs : rest ≡ map (λ b. b.1) left

part : (bs : List Brought) (cs : List Came) (rest : List Input) → map (λ b. b.1) bs ≡ inputs_of cs ++ rest → Parted bs cs rest
part bs [] rest e = record { zs = []; left = bs; all = refl; came = refl; inputs = sym e }
part [] (c ∷ cs) rest e = absurd (let k = e in cc)
part (b ∷ bs) (c ∷ cs) rest e =
    let first : b.1 ≡ c.0 = (let k = e in cc) in
    let p : Parted bs cs rest = part bs cs rest (let k = e in cc) in
    record {
      zs = (b, c.1) ∷ p.zs;
      left = p.left;
      all = ap (λ l. b ∷ l) p.all;
      came = ap (λ i. (i, c.1) ∷ came_of p.zs) first ∙ ap (λ l. c ∷ l) p.came;
      inputs = p.inputs;
    }

no_brought : (left : List Brought) → map (λ b. b.1) left ≡ [] → left ≡ []
no_brought [] e = refl
no_brought (b ∷ left) e = absurd (let k = e in cc)

some_left : (b : Brought) (left : List Brought) → (length (b ∷ left) == 0) ≡ false
some_left b left = apart (length (b ∷ left)) 0 (λ e. omega (arith, e))

-- what clients asked for belongs to the last of all: to the last of these, where none is left
asked_now : (zs : List Entry) (left : List Brought) (w : Option Wanted) → AskWithLast (brought_of zs ++ left) w → AskWithLast (brought_of zs) (if length left == 0 then w else None)
asked_now zs [] w h = subst (λ l. AskWithLast l w) (append-nil (brought_of zs)) h
asked_now zs (b ∷ left) w h = subst (λ o. AskWithLast (brought_of zs) (if o then w else None)) (sym (some_left b left)) (asked_before (brought_of zs) b left w h)

asked_later : (zs : List Entry) (left : List Brought) (w : Option Wanted) → AskWithLast (brought_of zs ++ left) w → AskWithLast left (if length left == 0 then None else w)
asked_later zs [] w h = refl
asked_later zs (b ∷ left) w h = subst (λ o. AskWithLast (b ∷ left) (if o then None else w)) (sym (some_left b left)) (asked_behind (brought_of zs) b left w h)

-- ---- none tells of a session

abbrev IsFrame : Brought → Type 0
IsFrame b = is_session b.1 ≡ false

may_fail : (i : Input) (f : Fate) → is_session i ≡ false → MayFail i f
may_fail i (faults k) e = e
may_fail i f e = tt

fail_all : (zs : List Entry) (left : List Brought) → All IsFrame (brought_of zs ++ left) → FailAll zs
fail_all [] left h = tt
fail_all (z ∷ zs) left h = (may_fail z.0.1 z.1 (All-head IsFrame z.0 (brought_of zs ++ left) h), fail_all zs left (All-tail IsFrame z.0 (brought_of zs ++ left) h))

frames_left : (zs : List Entry) (left : List Brought) → All IsFrame (brought_of zs ++ left) → All IsFrame left
frames_left [] left h = h
frames_left (z ∷ zs) left h = frames_left zs left (All-tail IsFrame z.0 (brought_of zs ++ left) h)

-- ---- a call

module _ {K : Type 0} (standing : K → Standing) (stores : Stores K) (u v : Ungiven) (rs : List Answer) (now : Option Wanted) (s m t : Loop) (k e : K) where
  -- what a call did with inputs that are to be given together
  pub record DealsWith : Type 0 where
    pub steps : StepsAll standing stores k u.inputs v.inputs rs e
    pub some : 0 < length u.inputs
    pub few : length s.lost < most_marks
    pub short : 0 < length rs → InCount s
    pub counted : m ≡ counting_all rs s
    pub now_is : now ≡ (if length v.inputs == 0 then u.wanted else None)
    pub later : v.wanted ≡ (if length v.inputs == 0 then None else u.wanted)
    pub out : losses.Does (λ ms x. settled ms (answered_all now false rs x)) m t

-- some came where there were some
came_some : (cs : List Came) (us vs : List Input) → (vs ≡ []) ⊎ (ends_lost cs ≡ true) → us ≡ inputs_of cs ++ vs → 0 < length us → 0 < length cs
came_some [] us vs (inl none) e some = absurd (omega (arith, some, ap length e, ap length none))
came_some [] us vs (inr ended) e some = absurd (let x = ended in cc)
came_some (c ∷ cs) us vs ends e some = omega arith

told_length : (rs : List Answer) (n : Standing) (cs : List Came) → TellAll rs n cs → length rs ≡ length cs
told_length [] n cs t = sym (ap length t)
told_length (r ∷ rs) n [] t = absurd t
told_length (r ∷ rs) n (c ∷ cs) t = let a = told_length rs (after_fate n c.0 c.1) cs t.1 in omega (arith, a)

module _ {K : Type 0} {standing : K → Standing} {stores : Stores K} {u v : Ungiven} {rs : List Answer} {now : Option Wanted} {s m t : Loop} {k e : K} (d : DealsWith standing stores u v rs now s m t k e) where
  abbrev before_it : Served K
  before_it = served_at s (standing k) k

  abbrev behind_it : Served K
  behind_it = served_at t (standing e) e

  came_here : 0 < length d.steps.came
  came_here = came_some d.steps.came u.inputs v.inputs d.steps.ends d.steps.split d.some

  -- these came of those that it dealt with
  comes_all : (zs : List Entry) (left : List Brought) → came_of zs ≡ d.steps.came → v.inputs ≡ map (λ b. b.1) left → AskWithLast (brought_of zs ++ left) u.wanted → All IsFrame (brought_of zs ++ left) → ComesAll stores zs before_it behind_it
  comes_all zs left came rest asks frames =
      let n : Standing = standing k in
      let may : MayComeAll n None (came_of zs) = subst (MayComeAll n None) (sym came) d.steps.may in
      let tell : TellAll rs n (came_of zs) = subst (TellAll rs n) (sym came) d.steps.tell in
      let many : length v.inputs ≡ length left = ap length rest ∙ length-map left (λ (b : Brought). b.1) in
      let asked : AskWithLast (brought_of zs) now = subst (AskWithLast (brought_of zs)) (ap (λ c. if c == 0 then u.wanted else None) (sym many) ∙ sym d.now_is) (asked_now zs left u.wanted asks) in
      let taken : losses.Does (λ ms x. settled ms (answered_all now false rs x)) (loop_taken zs s) t = subst (λ (x : Loop). losses.Does (λ ms y. settled ms (answered_all now false rs y)) x t) (d.counted ∙ counting_all_is rs n None zs s tell may) d.out in
      record {
        few = d.few;
        short = d.short (omega (arith, came_here, told_length rs n d.steps.came d.steps.tell));
        may = may;
        fails = fail_all zs left frames;
        node = d.steps.node ∙ ap (after_all n) (sym came);
        stored = subst (λ cs. stores k cs e) (sym came) d.steps.stored;
        out = does_as (answered_all now false rs) (loop_after_all (taken_of zs n)) (answered_all_is now rs n None zs (loop_taken zs s) tell may asked) taken;
      }

  gives_parted : (zs : List Entry) (left : List Brought) → came_of zs ≡ d.steps.came → v.inputs ≡ map (λ b. b.1) left → AskWithLast (brought_of zs ++ left) u.wanted → All IsFrame (brought_of zs ++ left) → GivesSome stores (brought_of zs ++ left) left before_it behind_it
  gives_parted [] left came rest asks frames = absurd (omega (arith, came_here, ap length came))
  gives_parted (z ∷ zs) left came rest asks frames = gives_group left (comes_all (z ∷ zs) left came rest asks frames) (ends_so left rest d.steps.ends)
    where
      ends_so : (left : List Brought) → v.inputs ≡ map (λ b. b.1) left → (v.inputs ≡ []) ⊎ (ends_lost d.steps.came ≡ true) → (left ≡ []) ⊎ (ends_lost (came_of (z ∷ zs)) ≡ true)
      ends_so left rest (inl none) = inl (no_brought left (sym rest ∙ none))
      ends_so left rest (inr ended) = inr (ap ends_lost came ∙ ended)

  left_are : (zs : List Entry) (left : List Brought) → v.inputs ≡ map (λ b. b.1) left → AskWithLast (brought_of zs ++ left) u.wanted → All IsFrame (brought_of zs ++ left) → AreUngiven left v
  left_are zs left rest asks frames =
      let many : length v.inputs ≡ length left = ap length rest ∙ length-map left (λ (b : Brought). b.1) in
      record {
        inputs = rest;
        asked = subst (AskWithLast left) (ap (λ c. if c == 0 then None else u.wanted) (sym many) ∙ sym d.later) (asked_later zs left u.wanted asks);
        frames = frames_left zs left frames;
      }

  pub deals_from : GivesFrom stores u v before_it behind_it
  deals_from bs are =
      let p : Parted bs d.steps.came v.inputs = part bs d.steps.came v.inputs (sym are.inputs ∙ d.steps.split) in
      let asks : AskWithLast (brought_of p.zs ++ p.left) u.wanted = subst (λ l. AskWithLast l u.wanted) p.all are.asked in
      let frames : All IsFrame (brought_of p.zs ++ p.left) = subst (All IsFrame) p.all are.frames in
      (p.left, left_are p.zs p.left p.inputs asks frames, subst (λ l. GivesSome stores l p.left before_it behind_it) (sym p.all) (gives_parted p.zs p.left p.came p.inputs asks frames))

  -- fewer are left
  pub deals_fewer : length v.inputs < length u.inputs
  deals_fewer = omega (arith, came_here, ap length d.steps.split, length-append (inputs_of d.steps.came) v.inputs, length-map d.steps.came (λ (c : Came). c.0))

  pub deals_most : most_inputs t + length v.inputs ≤ most_inputs s + length u.inputs
  deals_most =
      omega (arith, d.out.most, ap most_inputs d.counted, most_counting_all rs s, told_length rs (standing k) d.steps.came d.steps.tell, ap length d.steps.split, length-append (inputs_of d.steps.came) v.inputs, length-map d.steps.came (λ (c : Came). c.0))

  pub deals_stays : Stays s t
  deals_stays = stays_then (subst (λ (x : Loop). Stays s x) (sym d.counted) (stays_counting_all rs s)) d.out.stays

-- so are the inputs that are left
pub all_left : (P : Input → Type 0) (us vs : List Input) (cs : List Came) → us ≡ inputs_of cs ++ vs → All P us → All P vs
all_left P us vs cs e h = subst (All P) (ap (drop (length (inputs_of cs))) e ∙ drop-append_seam (inputs_of cs) vs) (All-drop P (length (inputs_of cs)) us h)

-- ---- one call after the other

module _ {K : Type 0} (stores : Stores K) where
  -- none was given yet, or some were, and it came to rest
  abbrev pub Gone : Ungiven → Ungiven → Served K → Served K → Type 0
  Gone u v d e = ((v ≡ u) × (e ≡ d)) ⊎ (GivesFrom stores u v d e × Stays d.loop e.loop × IsDrained e.loop)

module _ {K : Type 0} {stores : Stores K} where
  pub gone_then : (u v w : Ungiven) (d m e : Served K) → Gone stores u v d m → GivesFrom stores v w m e → Stays m.loop e.loop → IsDrained e.loop → Gone stores u w d e
  gone_then u v w d m e (inl same) b stays none = inr (subst (λ (x : Ungiven). GivesFrom stores x w d e) same.0 (subst (λ (x : Served K). GivesFrom stores v w x e) same.1 b), subst (λ (x : Served K). Stays x.loop e.loop) same.1 stays, none)
  gone_then u v w d m e (inr a) b stays none = inr (λ bs are. let x = a.0 bs are in let y = b x.0 x.1 in (y.0, y.1, some_then x.2 a.2 y.2), stays_then a.1 stays, none)

  -- none is left
  pub gone_all : (u v : Ungiven) (d e : Served K) → Gone stores u v d e → 0 < length u.inputs → length v.inputs ≤ 0 → GivesAll stores u d e
  gone_all u v d e (inl same) some none bs are = absurd (omega (arith, some, none, ap (λ (x : Ungiven). length x.inputs) same.0))
  gone_all u v d e (inr a) some none bs are =
      let x = a.0 bs are in
      let left : x.0 ≡ [] = no_items x.0 (omega (arith, none, ap length x.1.inputs, length-map x.0 (λ (b : Brought). b.1))) in
      some_gives (omega (arith, some, ap length are.inputs, length-map bs (λ (b : Brought). b.1))) (subst (λ l. GivesSome stores bs l d e) left x.2) a.1 a.2

  -- the Downs behind them
  pub from_drained : (u v : Ungiven) {d m e : Served K} → GivesFrom stores u v d m → Drained stores m e → GivesFrom stores u v d e
  from_drained u v a b bs are = let x = a bs are in (x.0, x.1, some_drained x.2 b)

  -- serving has stopped
  pub from_full : (u v : Ungiven) (d : Served K) → v ≡ record { inputs = []; wanted = None } → most_marks ≤ length d.loop.lost → GivesFrom stores u v d d
  from_full u v d none full bs are = ([], record { inputs = ap (λ (x : Ungiven). x.inputs) none; asked = ap (λ (x : Ungiven). x.wanted) none; frames = All-nil IsFrame }, some_full bs d full)
