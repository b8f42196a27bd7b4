use Rattle.std.proofs.Common.{rules, arith, ◌≡◌, ◌≤◌, ◌+◌, ◌-◌, min, ℕ, List, length, take, drop, refl, ◌∙◌, ap, subst, length-take, length-drop}
use Rattle.std.proofs.lemmas.List.{length-take-le}
use Rattle.op_outside.specs.Causes.{last_count}
use Rattle.op_outside.specs.Disks.{DiskState, MayLeave, LeavesOnly}
use Rattle.op_outside.proofs.Runs.{started}
use Rattle.op_mirror.specs.Crashes.{MixOf, EndsWith}
use Rattle.op_mirror.proofs.Crashes.{mixes_joined, still_joined, rest_more, piece_ends}
use Rattle.op_mirror.specs.declared.level.Level.{Level}
use Rattle.op_mirror.specs.declared.level.Level.TheVariants as level
use Rattle.op_mirror.specs.Levels.{LevelFaults, UnlessFirst}
use Rattle.op_mirror.specs.Runs.{Fills}
use Rattle.op_mirror.proofs.Filling.{level_none, level_more, level_reach, resized}
use Rattle.op_mirror.proofs.levelling.level.Goals as goal

no_fewer : (a b c : ℕ) → min a last_count ≤ b → min b last_count ≤ c → min a last_count ≤ c
no_fewer a b c one two = omega arith

twice : (at n : ℕ) (l : List ℕ) → at + n ≤ length l → length (take n (take n (drop at l))) ≡ n
twice at n l within = omega (arith, length-take n (take n (drop at l)), length-take n (drop at l), length-drop at l)

-- one piece more, done or not
piece_joined : (at n m len was : ℕ) (a a' b b' c : DiskState) (theirs ours : List ℕ) → len ≡ length a.content → was ≡ length b.content → n ≡ min (len - at) 65536 → m ≡ min (min (was - at) 65536) n
    → length theirs ≡ m → length ours ≡ n → at + n ≤ len → a'.content ≡ a.content → drop at b'.content ≡ drop at b.content → LeavesOnly (MixOf a.content b.content b) b b'
    → ((y : List ℕ) → at + length ours ≤ length a'.content → drop at b'.content ≡ drop at y → EndsWith y at theirs ours → LeavesOnly (MixOf a'.content y b') b' c)
    → LeavesOnly (MixOf a.content b.content b) b c
piece_joined at n m len was a a' b b' c theirs ours len_is was_is n_is m_is m_size n_size within same rest so_far more =
    let fits : at + length ours ≤ length a'.content = omega (arith, ap length same) in
    mixes_joined a.content b.content b b' c so_far
    (subst (λ (x : List ℕ). LeavesOnly (MixOf x b.content b') b' c) same
    (more b.content fits rest (piece_ends b.content at was len m n theirs ours was_is m_size n_size n_is m_is)))

pub loop-at-preserved : goal.loop-at-preserved
loop-at-preserved g c =
    let inv = c.loop-at.invariant in
    let state = g.D.Disk.state in
    let x = c.level_piece-done in
    let n : ℕ = c.piece_len-n.result in
    let at : ℕ = c.loop-at.at in
    let done : x.result ≡ level.Done = search rules in
    let small : n ≤ 65536 = omega (arith, c.piece_len-n.ensures) in
    let within : at + n ≤ c.args.len = omega (arith, c.piece_len-n.ensures) in
    let size : length (take n c.loop-at.ours) ≡ n = length-take-le n c.loop-at.ours (omega (arith, inv.ours_size)) in
    let faults : LevelFaults level.Done (state c.loop-at.first).faults (state x.new.first).faults (state c.loop-at.second).faults (state x.new.second).faults =
    subst (λ (r : Level). LevelFaults r (state c.loop-at.first).faults (state x.new.first).faults (state c.loop-at.second).faults (state x.new.second).faults) done x.ensures.faults in
    let same = subst (λ (r : Level). UnlessFirst r ((state c.loop-at.first).obeys → (state x.new.first).content ≡ (state c.loop-at.first).content)) done x.ensures.same in
    let pending = subst (λ (r : Level). UnlessFirst r ((state c.loop-at.first).obeys → (state x.new.first).pending ≡ (state c.loop-at.first).pending)) done x.ensures.pending in
    record {
      within = within;
      ours_size = resized n c.loop-at.ours x.new.ours x.ensures.ours_size ∙ inv.ours_size;
      theirs_size = resized c.min-m.result c.loop-at.theirs x.new.theirs x.ensures.theirs_size ∙ inv.theirs_size;
      first_model = (λ o. (inv.first_model).0 ((x.ensures.first_model).0 o), λ o. (x.ensures.first_model).1 ((inv.first_model).1 o));
      second_model = (λ o. (inv.second_model).0 ((x.ensures.second_model).0 o), λ o. (x.ensures.second_model).1 ((inv.second_model).1 o));
      first_mark = x.ensures.first_mark ∙ inv.first_mark;
      second_mark = x.ensures.second_mark ∙ inv.second_mark;
      first_faults = (faults).0 ∙ inv.first_faults;
      second_faults = (faults).1 ∙ inv.second_faults;
      same = λ o. same ((inv.first_model).1 o) ∙ inv.same o;
      pending = λ o. pending ((inv.first_model).1 o) ∙ inv.pending o;
      levelled = λ oa ob len was.
          let k = inv.levelled oa ob len was in
          let reach = level_reach at c.args.was (state c.args.first.now).content (state c.loop-at.second).content k in
          let filled = x.ensures.filled done ((inv.first_model).1 oa) ((inv.second_model).1 ob) reach in
          let filled_n : Fills at (take n (drop at (state c.loop-at.first).content)) n (state c.loop-at.second).content (state x.new.second).content =
          subst (λ (k : ℕ). Fills at (take k (drop at (state c.loop-at.first).content)) k (state c.loop-at.second).content (state x.new.second).content) size filled in
          let ours_is : Fills at (take n (drop at (state c.args.first.now).content)) n (state c.loop-at.second).content (state x.new.second).content =
          subst (λ (l : List ℕ). Fills at (take n (drop at l)) n (state c.loop-at.second).content (state x.new.second).content) (inv.same oa) filled_n in
          level_more at n c.args.was (state c.args.first.now).content (state c.loop-at.second).content (state x.new.second).content (omega arith) k ours_is;
      rest = λ oa ob len was.
          let k = inv.levelled oa ob len was in
          let reach = level_reach at c.args.was (state c.args.first.now).content (state c.loop-at.second).content k in
          let filled = x.ensures.filled done ((inv.first_model).1 oa) ((inv.second_model).1 ob) reach in
          let filled_n : Fills at (take n (drop at (state c.loop-at.first).content)) n (state c.loop-at.second).content (state x.new.second).content =
          subst (λ (k : ℕ). Fills at (take k (drop at (state c.loop-at.first).content)) k (state c.loop-at.second).content (state x.new.second).content) size filled in
          let ours_is : Fills at (take n (drop at (state c.args.first.now).content)) n (state c.loop-at.second).content (state x.new.second).content =
          subst (λ (l : List ℕ). Fills at (take n (drop at l)) n (state c.loop-at.second).content (state x.new.second).content) (inv.same oa) filled_n in
          rest_more at n (take n (drop at (state c.args.first.now).content)) (state c.loop-at.second).content (state x.new.second).content (state c.args.second.now).content reach
          (twice at n (state c.args.first.now).content (omega arith)) ours_is (inv.rest oa ob len was);
      first_leaves = λ oa. still_joined (state c.args.first.now) (state c.loop-at.first) (state x.new.first) (inv.first_leaves oa) (x.ensures.first_leaves ((inv.first_model).1 oa));
      first_calls = λ oa. no_fewer _ _ _ (inv.first_calls oa) (x.ensures.first_calls ((inv.first_model).1 oa));
      second_leaves = λ oa len was ob.
          let k = inv.levelled oa ob len was in
          piece_joined at n c.min-m.result c.args.len c.args.was (state c.args.first.now) (state c.loop-at.first) (state c.args.second.now) (state c.loop-at.second) (state x.new.second)
          (take c.min-m.result c.loop-at.theirs) (take n c.loop-at.ours)
          len was c.piece_len-n.ensures (search rules) (length-take-le c.min-m.result c.loop-at.theirs (omega (arith, inv.theirs_size))) size
          within (inv.same oa) (inv.rest oa ob len was) (inv.second_leaves oa len was ob)
          (λ y ok same ends. x.ensures.second_leaves ((inv.first_model).1 oa) y ok same ends ((inv.second_model).1 ob));
    }

pub loop-at-init : goal.loop-at-init
loop-at-init g c =
    let state = g.D.Disk.state in
    record {
      within = omega arith;
      ours_size = c.requires.ours_room;
      theirs_size = c.requires.theirs_room;
      first_model = (λ o. o, λ o. o);
      second_model = (λ o. o, λ o. o);
      first_mark = refl;
      second_mark = refl;
      first_faults = refl;
      second_faults = refl;
      same = λ o. refl;
      pending = λ o. refl;
      levelled = λ oa ob len was. level_none c.args.was (state c.args.first.now).content (state c.args.second.now).content was;
      rest = λ oa ob len was. refl;
      first_leaves = λ oa. started (MayLeave (state c.args.first.now)) (state c.args.first.now);
      first_calls = λ oa. omega arith;
      second_leaves = λ oa len was ob. started (MixOf (state c.args.first.now).content (state c.args.second.now).content (state c.args.second.now)) (state c.args.second.now);
    }

pub returns-then-ne-clause-first_leaves : goal.returns-then-ne-clause-first_leaves
returns-then-ne-clause-first_leaves g c =
    let inv = c.loop-at.invariant in
    let state = g.D.Disk.state in
    let x = c.level_piece-done in
    λ oa. still_joined (state c.args.first.now) (state c.loop-at.first) (state x.new.first) (inv.first_leaves oa) (x.ensures.first_leaves ((inv.first_model).1 oa))

pub returns-then-ne-clause-second_leaves : goal.returns-then-ne-clause-second_leaves
returns-then-ne-clause-second_leaves g c =
    let inv = c.loop-at.invariant in
    let state = g.D.Disk.state in
    let x = c.level_piece-done in
    let n : ℕ = c.piece_len-n.result in
    let at : ℕ = c.loop-at.at in
    let within : at + n ≤ c.args.len = omega (arith, c.piece_len-n.ensures) in
    let size : length (take n c.loop-at.ours) ≡ n = length-take-le n c.loop-at.ours (omega (arith, inv.ours_size, c.piece_len-n.ensures)) in
    λ oa len was ob.
    piece_joined at n c.min-m.result c.args.len c.args.was (state c.args.first.now) (state c.loop-at.first) (state c.args.second.now) (state c.loop-at.second) (state x.new.second)
    (take c.min-m.result c.loop-at.theirs) (take n c.loop-at.ours)
    len was c.piece_len-n.ensures (search rules) (length-take-le c.min-m.result c.loop-at.theirs (omega (arith, inv.theirs_size, c.piece_len-n.ensures))) size
    within (inv.same oa) (inv.rest oa ob len was) (inv.second_leaves oa len was ob)
    (λ y ok same ends. x.ensures.second_leaves ((inv.first_model).1 oa) y ok same ends ((inv.second_model).1 ob))

pub returns-then-ne-clause-first_calls : goal.returns-then-ne-clause-first_calls
returns-then-ne-clause-first_calls g c =
    let inv = c.loop-at.invariant in
    λ oa. no_fewer _ _ _ (inv.first_calls oa) (c.level_piece-done.ensures.first_calls ((inv.first_model).1 oa))
