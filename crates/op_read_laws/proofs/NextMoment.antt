-- What holds at a moment of a run holds at the next one.
use Rattle.std.proofs.Common.{◌≡◌, ◌<◌, ◌≤◌, ℕ, zero, suc, inl, inr, ⊎_elim, Bool, true, false, cond, not, ◌&&◌, eqb, leb, List, [], ◌∷◌, ◌++◌, filter, map, length, Option, Some, None, refl, sym, ap, ap₂, ◌∙◌, subst, arith, slice_get}
use Rattle.std.specs.Prelude.{option_map}
use Rattle.std.proofs.lemmas.Bool.{eqb-true, both_ways, cases_lt, eq-eqb}
use Rattle.op_types.specs.Limits.{positions_end}
use Rattle.op_types.specs.RoleStates.{Leading}
use Rattle.op_types.specs.Roles as role
use Rattle.op_types.specs.declared.answers.Outcome.TheVariants as outcome
use Rattle.op_types.specs.declared.answers.Refusal.TheVariants as refusal
use Rattle.op_types.specs.declared.ballot.Ballot.{Ballot}
use Rattle.op_types.specs.declared.durable.Part.{Part}
use Rattle.op_types.specs.declared.events.Input.{Input}
use Rattle.op_types.specs.declared.events.Input.TheVariants as input
use Rattle.op_types.specs.declared.messages.Body.{Body}
use Rattle.op_types.specs.declared.messages.Body.TheVariants as body
use Rattle.op_types.specs.declared.messages.Msg.{Msg}
use Rattle.op_types.specs.declared.read.Read.{Read}
use Rattle.op_reads.specs.declared.asked_read.AskedRead.{AskedRead}
use Rattle.op_reads.specs.Reads.{WaitingRead, Reads, new_read, with_read, confirming, with_confirmed, is_confirmed, without_answered}
use Rattle.op_spec.specs.Machine.{IsAmong}
use Rattle.op_protocol.specs.State.{State, state_after}
use Rattle.op_protocol.specs.Rows.{table_plan, step_plan}
use Rattle.op_protocol.specs.Parts.{others, to_each}
use Rattle.op_protocol.specs.Reading.{leading_at, reads_at, asks_members, read_asked, asking_by, leads_on}
use Rattle.op_protocol.proofs.StepBatches.{Rises}
use Rattle.op_protocol.proofs.Asked.{leads_is}
use Rattle.op_runs.specs.World.{World, Node, Steps, node_at, sent_by}
use Rattle.op_runs.specs.Fresh.{ReadAt, Comes, numbered, reads_of_leader, taken_at, read_taken}
use Rattle.op_refinement.proofs.View.{Each, Each-append, rank, is_same-rank, RoleIsSmall}
use Rattle.op_refinement.proofs.NodeLists.{node_at-here}
use Rattle.op_refinement.proofs.Observing.{IsAsk, IsAsked}
use Rattle.op_types.proofs.Order.{same_is}
use Rattle.op_laws.proofs.Moves.{JoiningIsAbove, IfKept, Moves, step_moves}
use Rattle.op_laws.proofs.Reached.{joining_above}
use Rattle.op_read_laws.proofs.Happened.{Acts, Happened, Rested, Observed, Halted, Acted, Begun, Becomes, Stayed, Stepped, Opened, becomes}
use Rattle.op_read_laws.proofs.Moments.{Followed, world_at, ks, Seat, seen, node_rel, members_stay, Promises, Leads, leader_promises, leads_middle}
use Rattle.op_laws.proofs.Asking.{TakesRead, TakesConfirmed, Asked, Keeps, Takes, Confirms, asked, asked_counts, leads_on_is, plan, decided, adopted, left_is, left_goes}
use Rattle.op_laws.proofs.PlainSends as plain
use Rattle.op_laws.proofs.PlainSends.{ArePlain, Answers, Says, table_says, opening_plain, shown_watches}
use Rattle.op_read_laws.proofs.Holding.{Came, MomentWith, moment_at, taken, leads_seat, came_leads, Confirmed, confirmed_later, Waits, waits_later, AreReads, reads_later, AllWait, WasAsked, asked_later, Vouched, IsTrue, SentIsTrue, true_later, plain_true, watch_true, AreCounted, Holds}

some_same : {A : Type 0} (a b : A) → Some a ≡ Some b → a ≡ b
some_same a b e = cc

none_some : {A : Type 0} (a : A) → None ≡ Some a → ⊥
none_some a e = cc

-- ---- lists

-- those that pass one test and then another
both_tests : (f g : ℕ → Bool) (xs : List ℕ) → filter g (filter f xs) ≡ filter (λ q. f q && g q) xs
both_tests f g [] = refl
both_tests f g (x ∷ xs) = by (both_tests f g xs) (f x) refl
  where
    by : filter g (filter f xs) ≡ filter (λ q. f q && g q) xs → (b : Bool) → f x ≡ b → filter g (cond b (x ∷ filter f xs) (filter f xs)) ≡ cond (b && g x) (x ∷ filter (λ q. f q && g q) xs) (filter (λ q. f q && g q) xs)
    by rest true e = ap (λ ys. cond (g x) (x ∷ ys) ys) rest
    by rest false e = rest

each_filter : {A : Type 0} (P : A → Type 0) (test : A → Bool) (xs : List A) → Each P xs → Each P (filter test xs)
each_filter P test [] k = tt
each_filter P test (x ∷ xs) k = by (each_filter P test xs k.1) (test x)
  where
    by : Each P (filter test xs) → (b : Bool) → Each P (cond b (x ∷ filter test xs) (filter test xs))
    by rest true = (k.0, rest)
    by rest false = rest

each_map : {A : Type 0} (P Q : A → Type 0) → ((x : A) → P x → Q x) → (xs : List A) → Each P xs → Each Q xs
each_map P Q h [] e = tt
each_map P Q h (x ∷ xs) e = (h x e.0, each_map P Q h xs e.1)

each_get : {A : Type 0} (P : A → Type 0) (xs : List A) (i : ℕ) (x : A) → Each P xs → slice_get xs i ≡ Some x → P x
each_get P [] i x k e = absurd (none_some x e)
each_get P (y ∷ xs) zero x k e = subst P (some_same y x e) k.0
each_get P (y ∷ xs) (suc i) x k e = each_get P xs i x k.1 e

leading_same : (a b : Leading) → role.Leading a ≡ role.Leading b → a ≡ b
leading_same a b e = cc

leading_idle : (a : Leading) → role.Leading a ≡ role.Idle → ⊥
leading_idle a e = cc

not_false : (b : Bool) → not b ≡ false → b ≡ true
not_false true e = refl
not_false false e = absurd (both_ways true e refl)

-- ---- a step that is done

module _ (r : Followed) (j : ℕ) (h : Holds r j) where
  abbrev pub k : MomentWith r j
  k = moment_at r j

  abbrev pub w : World
  w = world_at r j

  abbrev pub u : World
  u = world_at r (suc j)

  -- what was delivered is true
  delivered_true : (p q : ℕ) (m : Msg) → k.moment.deed ≡ Some (record { pid = p; doing = Steps (input.Deliver q m) }) → IsTrue r j q p m.conf m.body
  delivered_true p q m e = let g = k.moment.sent p q m e in each_get (SentIsTrue r j) w.messages g.0 (record { from = q; to = p; message = m }) h.messages g.1

  module _ (a : Acts w k.moment.deed k.moment.step u) where
    abbrev n : Node
    n = a.node

    abbrev s : State
    s = n.state

    abbrev x : Input
    x = a.input

    -- the node then
    abbrev pub after : Node
    after = record n { state = state_after s (step_plan n.pid s x) }

    pub there_after : node_at u.nodes n.pid ≡ Some after
    there_after = ap (λ (ns : List Node). node_at ns n.pid) a.nodes ∙ node_at-here w.nodes after n a.at

    above : JoiningIsAbove s.durable
    above = joining_above r.members (ks r j) w.messages n (node_rel r j n.pid n a.at).1

    deed_is : (y : Input) → x ≡ y → k.moment.deed ≡ Some (record { pid = n.pid; doing = Steps y })
    deed_is y e = a.deed ∙ ap (λ (z : Input). Some (record { pid = n.pid; doing = Steps z })) e

    -- ---- a read comes

    module _ (t : TakesRead n.pid s x (asking_by n.pid s x).reads) where
      abbrev old : Reads
      old = reads_at n.pid t.part s.reads

      abbrev leads : Leads r j n.pid t.part.conf (rank t.lead.ballot)
      leads = leads_seat r j n t.part t.lead a.at t.leads

      record IsBase (reads : Reads) : Type 0 where
        me : reads.me ≡ n.pid
        members : reads.members ≡ t.part.members
        waits : Each (Waits r (suc j) n.pid t.part.conf t.lead.ballot t.part.members) reads.waiting

      base : IsBase old
      base = by s.reads refl
        where
          by : (o : Option Reads) → s.reads ≡ o → IsBase (reads_at n.pid t.part o)
          by None e = record { me = refl; members = refl; waits = tt }
          by (Some reads) e =
              let y = reads_later r j n n reads refl refl (h.wait n.pid n a.at reads e) in
              let l = leads_is s.durable.part s.durable.joining s.volatile.role t.part t.lead t.leads in
              let part : y.part ≡ t.part = some_same y.part t.part (sym y.has ∙ l.part) in
              let lead : y.lead ≡ t.lead = leading_same y.lead t.lead (sym y.role ∙ l.role) in
              record {
                me = y.me;
                members = y.members ∙ ap (λ (p : Part). p.members) part;
                waits = subst (λ (l : Leading). Each (Waits r (suc j) n.pid t.part.conf l.ballot t.part.members) reads.waiting) lead
                    (subst (λ (p : Part). Each (Waits r (suc j) n.pid p.conf y.lead.ballot p.members) reads.waiting) part y.waits);
              }

      -- it comes at this moment
      abbrev new_asked : AskedRead
      new_asked = record { number = suc old.count; read = t.read }

      comes_now : Came r (record { pid = n.pid; conf = t.part.conf; ballot = t.lead.ballot; asked = new_asked }) j
      comes_now =
          let y : ReadAt = record { pid = n.pid; conf = t.part.conf; ballot = t.lead.ballot; asked = new_asked } in
          let none : List AskedRead = [] in
          let here : IsAmong (reads_of_leader n.pid (Some (t.part, t.lead)) (numbered old t.read)) y =
          subst (λ (b : Bool). IsAmong (reads_of_leader n.pid (Some (t.part, t.lead)) (cond b none (new_asked ∷ []))) y) (sym t.room) (inl refl) in
          let taken_here : IsAmong (taken_at n.pid (leading_at s) s.reads t.read) y = subst (λ (o : Option (Part × Leading)). IsAmong (taken_at n.pid o s.reads t.read) y) (sym t.leads) here in
          k.came y (subst (Comes y) (sym a.steps) (subst (λ (z : Input). IsAmong (read_taken n.pid s z) y) (sym t.comes) taken_here))

      new_waits : Waits r (suc j) n.pid t.part.conf t.lead.ballot t.part.members (new_read old.me old.members (suc old.count) t.read)
      new_waits = record {
        at = j;
        before = omega arith;
        came = comes_now;
        misses = λ q. not (eqb q old.me);
        missing = ap (filter (λ q. not (eqb q old.me))) base.members;
        confirmed = λ p i e.
            let own : p ≡ n.pid = eqb-true p old.me (not_false (eqb p old.me) e) ∙ base.me in
            record { at = j; late = omega arith; before = omega arith; promises = subst (λ (q : ℕ). Promises r j q t.part.conf (rank t.lead.ballot)) (sym own) (leader_promises r j n.pid t.part.conf (rank t.lead.ballot) leads) };
      }

      pub read_asked_waits : AreReads r (suc j) n (with_read old t.read)
      read_asked_waits = record {
        part = t.part;
        has = leads.seat.has;
        lead = t.lead;
        role = leads.role;
        me = base.me;
        members = base.members;
        waits = Each-append (Waits r (suc j) n.pid t.part.conf t.lead.ballot t.part.members) old.waiting (new_read old.me old.members (suc old.count) t.read ∷ []) base.waits (new_waits, tt);
      }

    -- ---- a confirmation comes

    module _ (t : TakesConfirmed n.pid s x (asking_by n.pid s x).reads) where
      vouched : Vouched r j t.from n.pid t.part.conf t.lead.ballot t.number
      vouched =
          let said : IsTrue r j t.from n.pid t.msg.conf t.msg.body = delivered_true n.pid t.from t.msg (deed_is (input.Deliver t.from t.msg) t.comes) in
          let told : IsTrue r j t.from n.pid t.part.conf (body.Confirmed t.lead.ballot t.number) =
          subst (λ (c : ℕ). IsTrue r j t.from n.pid c (body.Confirmed t.lead.ballot t.number)) t.conf (subst (IsTrue r j t.from n.pid t.msg.conf) t.says said) in
          told.1

      one_confirmed : (members : List ℕ) (v : WaitingRead) → Waits r j n.pid t.part.conf t.lead.ballot members v → Waits r (suc j) n.pid t.part.conf t.lead.ballot members (confirming t.number t.from v)
      one_confirmed members v y = by (eqb v.asked.number t.number) refl
        where
          by : (b : Bool) → eqb v.asked.number t.number ≡ b → Waits r (suc j) n.pid t.part.conf t.lead.ballot members (cond b (record v { missing = filter (λ q. not (eqb q t.from)) v.missing }) v)
          by false e = waits_later r j n.pid t.part.conf t.lead.ballot members v y
          by true e = record {
            at = y.at;
            before = omega (arith, y.before);
            came = y.came;
            misses = λ q. y.misses q && not (eqb q t.from);
            missing = ap (filter (λ q. not (eqb q t.from))) y.missing ∙ both_tests y.misses (λ q. not (eqb q t.from)) members;
            confirmed = λ p i e2. of_member p i (y.misses p) refl e2;
          }
            where
              of_member : (p : ℕ) → IsAmong members p → (b : Bool) → y.misses p ≡ b → (b && not (eqb p t.from)) ≡ false → Confirmed r t.part.conf (rank t.lead.ballot) y.at (suc j) p
              of_member p i false e1 e2 = confirmed_later r t.part.conf (rank t.lead.ballot) y.at j p (y.confirmed p i e1)
              of_member p i true e1 e2 =
                  let own : p ≡ t.from = eqb-true p t.from (not_false (eqb p t.from) e2) in
                  record {
                    at = vouched.at;
                    late = vouched.after y.at v.asked (eqb-true v.asked.number t.number e) y.before y.came;
                    before = omega (arith, vouched.before);
                    promises = subst (λ (q : ℕ). Promises r vouched.at q t.part.conf (rank t.lead.ballot)) (sym own) vouched.promises;
                  }

      all_confirmed : (members : List ℕ) (ws : List WaitingRead) → Each (Waits r j n.pid t.part.conf t.lead.ballot members) ws → Each (Waits r (suc j) n.pid t.part.conf t.lead.ballot members) (map (confirming t.number t.from) ws)
      all_confirmed members [] y = tt
      all_confirmed members (v ∷ ws) y = (one_confirmed members v y.0, all_confirmed members ws y.1)

      pub confirmed_waits : (reads : Reads) → s.reads ≡ Some reads → AreReads r (suc j) n (with_confirmed reads t.number t.from)
      confirmed_waits reads e =
          let y = h.wait n.pid n a.at reads e in
          let l = leads_is s.durable.part s.durable.joining s.volatile.role t.part t.lead t.leads in
          let part : y.part ≡ t.part = some_same y.part t.part (sym y.has ∙ l.part) in
          let lead : y.lead ≡ t.lead = leading_same y.lead t.lead (sym y.role ∙ l.role) in
          record {
            part = t.part;
            has = l.part;
            lead = t.lead;
            role = l.role;
            me = y.me;
            members = y.members ∙ ap (λ (p : Part). p.members) part;
            waits = all_confirmed t.part.members reads.waiting
                (subst (λ (l : Leading). Each (Waits r j n.pid t.part.conf l.ballot t.part.members) reads.waiting) lead
                (subst (λ (p : Part). Each (Waits r j n.pid p.conf y.lead.ballot p.members) reads.waiting) part y.waits));
          }

    -- ---- what waits when the input has come
    pub asked_reads : (early : Reads) → (asking_by n.pid s x).reads ≡ Some early → AreReads r (suc j) n early
    asked_reads early e = by (asked n.pid s x)
      where
        of_confirmed : (t : TakesConfirmed n.pid s x (asking_by n.pid s x).reads) → (o : Option Reads) → s.reads ≡ o → option_map (λ y. with_confirmed y t.number t.from) o ≡ Some early → AreReads r (suc j) n early
        of_confirmed t None has k = absurd (none_some early k)
        of_confirmed t (Some reads) has k = subst (AreReads r (suc j) n) (some_same (with_confirmed reads t.number t.from) early k) (confirmed_waits t reads has)

        by : Asked n.pid s x (asking_by n.pid s x).reads → AreReads r (suc j) n early
        by (Keeps same) = reads_later r j n n early refl refl (h.wait n.pid n a.at early (sym same ∙ e))
        by (Takes t) = subst (AreReads r (suc j) n) (some_same (with_read (reads_at n.pid t.part s.reads) t.read) early (sym t.is ∙ e)) (read_asked_waits t)
        by (Confirms t) = of_confirmed t s.reads refl (sym t.is ∙ e)

    -- ---- what waits after the step

    left_part : (early : Reads) (d o : ℕ) → ((without_answered early d o).me ≡ early.me) × ((without_answered early d o).members ≡ early.members) × ((without_answered early d o).count ≡ early.count)
    left_part early d o = by (leb o d)
      where
        by : (b : Bool) → let z : Reads = cond b (record early { waiting = filter (λ v. not (is_confirmed (length early.members) v)) early.waiting }) early in (z.me ≡ early.me) × (z.members ≡ early.members) × (z.count ≡ early.count)
        by true = (refl, refl, refl)
        by false = (refl, refl, refl)

    left_each : (P : WaitingRead → Type 0) (early : Reads) (d o : ℕ) → Each P early.waiting → Each P (without_answered early d o).waiting
    left_each P early d o y = by (leb o d)
      where
        by : (b : Bool) → Each P (cond b (record early { waiting = filter (λ v. not (is_confirmed (length early.members) v)) early.waiting }) early).waiting
        by true = each_filter P (λ v. not (is_confirmed (length early.members) v)) early.waiting y
        by false = y

    -- where the node leads on it is in its configuration still
    pub record LedOn (part : Part) : Type 0 where
      pub later : Part
      pub has : after.state.durable.part ≡ Some later
      pub conf : later.conf ≡ part.conf
      pub members : later.members ≡ part.members

    pub led_on : (part : Part) → s.durable.part ≡ Some part → (l : Leading) → after.state.volatile.role ≡ role.Leading l → LedOn part
    led_on part has l leads = by (step_moves n.pid s x above)
      where
        of_part : (q : Part) × (after.state.durable.part ≡ Some q) × (q.conf ≡ part.conf) × Rises part.promised q.promised → LedOn part
        of_part y =
            let early : Seat r j n.pid part.conf = record { node = n; at = a.at; part = part; has = has; conf = refl } in
            let late : Seat r (suc j) n.pid part.conf = record { node = after; at = there_after; part = y.0; has = y.1; conf = y.2 } in
            record { later = y.0; has = y.1; conf = y.2; members = sym (members_stay r j (suc j) n.pid n.pid part.conf (omega arith) early late) }

        by : Moves n.pid s x (step_plan n.pid s x) → LedOn part
        by (inl g) = absurd (leading_idle l (sym leads ∙ g.1))
        by (inr y) = of_part (subst (λ (o : Option Part). IfKept o after.state.durable.part) has y.part)

    reads_stepped : (reads : Reads) → after.state.reads ≡ Some reads → AreReads r (suc j) after reads
    reads_stepped reads e =
        let l = left_is n.pid s x reads e in
        let on = leads_on_is s.volatile.role (plan n.pid s x).volatile.role l.leads in
        let y = asked_reads l.early l.asked in
        let lead : y.lead.ballot ≡ on.new.ballot = ap (λ (z : Leading). z.ballot) (leading_same y.lead on.old (sym y.role ∙ on.was)) ∙ on.same in
        let p = led_on y.part y.has on.new on.is in
        let d : ℕ = decided n.pid s x in
        let o : ℕ = adopted n.pid s x in
        let same = left_part l.early d o in
        let waits : Each (Waits r (suc j) n.pid y.part.conf y.lead.ballot y.part.members) (without_answered l.early d o).waiting = left_each (Waits r (suc j) n.pid y.part.conf y.lead.ballot y.part.members) l.early d o y.waits in
        subst (AreReads r (suc j) after) (sym l.is)
        (record {
          part = p.later;
          has = p.has;
          lead = on.new;
          role = on.is;
          me = same.0 ∙ y.me;
          members = same.1 ∙ y.members ∙ sym p.members;
          waits = subst (λ (c : ℕ). Each (Waits r (suc j) n.pid c on.new.ballot p.later.members) (without_answered l.early d o).waiting) (sym p.conf)
              (subst (λ (b : Ballot). Each (Waits r (suc j) n.pid y.part.conf b p.later.members) (without_answered l.early d o).waiting) lead
              (subst (λ (ms : List ℕ). Each (Waits r (suc j) n.pid y.part.conf y.lead.ballot ms) (without_answered l.early d o).waiting) (sym p.members) waits));
        })

    -- ---- what is sent

    -- messages that the node sends are true
    abbrev SendsTrue : List (ℕ × Msg) → Type 0
    SendsTrue sends = Each (λ z. IsTrue r (suc j) n.pid z.0 (z.1).conf (z.1).body) sends

    questions_true : (t : TakesRead n.pid s x (asking_by n.pid s x).reads) (qs : List ℕ) → SendsTrue (to_each t.part.conf qs (body.Confirm t.lead.ballot (suc (reads_at n.pid t.part s.reads).count)))
    questions_true t [] = tt
    questions_true t (q ∷ qs) = (record { at = j; before = omega arith; read = new_asked t; number_is = refl; came = comes_now t }, questions_true t qs)

    asking_true : SendsTrue (asking_by n.pid s x).sends
    asking_true = by x refl
      where
        of_number : (rd : Read) → x ≡ input.Read rd → (p : Part) (l : Leading) → leading_at s ≡ Some (p, l) → (b : Bool) → eqb (suc (reads_at n.pid p s.reads).count) positions_end ≡ b
            → SendsTrue (cond b (record { reads = s.reads; sends = []; outcome = Some (outcome.Refused refusal.PositionsEnd) }) (asks_members n.pid p l.ballot (reads_at n.pid p s.reads) rd)).sends
        of_number rd e p l at true room = tt
        of_number rd e p l at false room =
            let is : (asking_by n.pid s x).reads ≡ Some (with_read (reads_at n.pid p s.reads) rd) =
            ap (λ (z : Input). (asking_by n.pid s z).reads) e ∙ ap (λ (o : Option (Part × Leading)). (read_asked n.pid o s.reads rd).reads) at
            ∙ ap (λ (b : Bool). (cond b (record { reads = s.reads; sends = []; outcome = Some (outcome.Refused refusal.PositionsEnd) }) (asks_members n.pid p l.ballot (reads_at n.pid p s.reads) rd)).reads) room in
            questions_true (record { read = rd; comes = e; part = p; lead = l; leads = at; room = room; is = is }) (others n.pid p.members)

        of_leader : (rd : Read) → x ≡ input.Read rd → (o : Option (Part × Leading)) → leading_at s ≡ o → SendsTrue (read_asked n.pid o s.reads rd).sends
        of_leader rd e None at = tt
        of_leader rd e (Some (p, l)) at = of_number rd e p l at (eqb (suc (reads_at n.pid p s.reads).count) positions_end) refl

        by : (z : Input) → x ≡ z → SendsTrue (asking_by n.pid s z).sends
        by (input.Read rd) e = of_leader rd e (leading_at s) refl
        by input.Tick e = tt
        by (input.Deliver q m) e = tt
        by (input.Commands cs) e = tt
        by (input.Stop ms) e = tt
        by input.TrimNow e = tt
        by (input.Up q) e = tt
        by (input.Down q) e = tt

    plain_sends : (sends : List (ℕ × Msg)) → ArePlain sends → SendsTrue sends
    plain_sends [] y = tt
    plain_sends (z ∷ sends) y = (plain_true r (suc j) n.pid z.0 (z.1).conf (z.1).body y.0, plain_sends sends y.1)

    confirmation_true : (q : ℕ) (m : Msg) → x ≡ input.Deliver q m → (to : ℕ) (msg : Msg) → plain.Confirms s.durable q m to msg → IsTrue r (suc j) n.pid to msg.conf msg.body
    confirmation_true q m e to msg c =
        let said : IsTrue r j q n.pid m.conf m.body = delivered_true n.pid q m (deed_is (input.Deliver q m) e) in
        let was : WasAsked r j q m.conf c.ballot c.number = subst (IsTrue r j q n.pid m.conf) c.asks said in
        let here : WasAsked r j to msg.conf c.ballot c.number =
        subst (λ (z : ℕ). WasAsked r j z msg.conf c.ballot c.number) (sym c.back) (subst (λ (z : ℕ). WasAsked r j q z c.ballot c.number) (c.here ∙ sym c.conf) was) in
        subst (IsTrue r (suc j) n.pid to msg.conf) (sym c.says) (
          asked_later r j to msg.conf c.ballot c.number here,
          record {
            at = j;
            before = omega arith;
            promises = record { seat = record { node = n; at = a.at; part = c.part; has = c.has; conf = sym c.conf }; promised = ap rank (same_is c.part.promised c.ballot c.promised) };
            after = λ i y same lt came. omega (arith, lt);
          },
        )

    answers_true : (q : ℕ) (m : Msg) → x ≡ input.Deliver q m → (sends : List (ℕ × Msg)) → Answers s.durable q m sends → SendsTrue sends
    answers_true q m e [] y = tt
    answers_true q m e (z ∷ sends) y = (
      ⊎_elim (plain_true r (suc j) n.pid z.0 (z.1).conf (z.1).body)
          (⊎_elim (confirmation_true q m e z.0 z.1) (λ i. watch_true r (suc j) n.pid z.0 (z.1).conf (z.1).body (shown_watches s.durable q m z i))) y.0,
      answers_true q m e sends y.1,
    )

    table_true : SendsTrue (table_plan n.pid s x).sends
    table_true = by x refl (table_says n.pid s x)
      where
        by : (z : Input) → x ≡ z → Says s.durable z (table_plan n.pid s x).sends → SendsTrue (table_plan n.pid s x).sends
        by (input.Deliver q m) e y = answers_true q m e (table_plan n.pid s x).sends y
        by (input.Read rd) e y = plain_sends (table_plan n.pid s x).sends y
        by input.Tick e y = plain_sends (table_plan n.pid s x).sends y
        by (input.Commands cs) e y = plain_sends (table_plan n.pid s x).sends y
        by (input.Stop ms) e y = plain_sends (table_plan n.pid s x).sends y
        by input.TrimNow e y = plain_sends (table_plan n.pid s x).sends y
        by (input.Up q) e y = plain_sends (table_plan n.pid s x).sends y
        by (input.Down q) e y = plain_sends (table_plan n.pid s x).sends y

    sends_true : SendsTrue (step_plan n.pid s x).sends
    sends_true = Each-append (λ z. IsTrue r (suc j) n.pid z.0 (z.1).conf (z.1).body) (asking_by n.pid s x).sends (table_plan n.pid s x).sends asking_true table_true

  -- ---- the next moment

  wait_next : AllWait r (suc j)
  wait_next q m at reads e = by (becomes w k.moment.deed k.moment.step u k.moment.does q m at)
    where
      by : Becomes w k.moment.deed k.moment.step u q m → AreReads r (suc j) m reads
      by (Stayed n there same own) = reads_later r j n m reads same own (h.wait q n there reads (ap (λ (s : State). s.reads) (sym same) ∙ e))
      by (Stepped a here is) = subst (λ (z : Node). AreReads r (suc j) z reads) (sym is) (reads_stepped a reads (ap (λ (z : Node). z.state.reads) (sym is) ∙ e))
      by (Opened none idle) = absurd (none_some reads (sym none ∙ e))

  sent_each : (p : ℕ) (sends : List (ℕ × Msg)) → Each (λ z. IsTrue r (suc j) p z.0 (z.1).conf (z.1).body) sends → Each (SentIsTrue r (suc j)) (sent_by p sends)
  sent_each p [] y = tt
  sent_each p (z ∷ sends) y = (y.0, sent_each p sends y.1)

  opening_true : (p : ℕ) (sends : List (ℕ × Msg)) → ArePlain sends → Each (λ z. IsTrue r (suc j) p z.0 (z.1).conf (z.1).body) sends
  opening_true p [] y = tt
  opening_true p (z ∷ sends) y = (plain_true r (suc j) p z.0 (z.1).conf (z.1).body y.0, opening_true p sends y.1)

  messages_next : Each (SentIsTrue r (suc j)) u.messages
  messages_next = by k.moment.does
    where
      still : Each (SentIsTrue r (suc j)) w.messages
      still = each_map (SentIsTrue r j) (SentIsTrue r (suc j)) (λ z y. true_later r j h z.from z.to z.message.conf z.message.body y) w.messages h.messages

      more : (p : ℕ) (sends : List (ℕ × Msg)) → u.messages ≡ w.messages ++ sent_by p sends → Each (λ z. IsTrue r (suc j) p z.0 (z.1).conf (z.1).body) sends → Each (SentIsTrue r (suc j)) u.messages
      more p sends e y = subst (Each (SentIsTrue r (suc j))) (sym e) (Each-append (SentIsTrue r (suc j)) w.messages (sent_by p sends) still (sent_each p sends y))

      -- what an observer asks is of no read
      ask_true : (p q c : ℕ) (y : Body) → IsAsk y → IsTrue r (suc j) p q c y
      ask_true p q c (body.Watch x) y = tt
      ask_true p q c _ y = absurd y

      asks_true : (p : ℕ) (sends : List (ℕ × Msg)) → Each IsAsked sends → Each (λ z. IsTrue r (suc j) p z.0 (z.1).conf (z.1).body) sends
      asks_true p [] y = tt
      asks_true p (z ∷ sends) y = (ask_true p z.0 (z.1).conf (z.1).body y.0, asks_true p sends y.1)

      by : Happened w k.moment.deed k.moment.step u → Each (SentIsTrue r (suc j)) u.messages
      by (Rested nodes messages lines none) = subst (Each (SentIsTrue r (suc j))) (sym messages) still
      by (Observed nodes q adds lines none) = more q adds.sends adds.messages (asks_true q adds.sends adds.asks)
      by (Halted y none) = subst (Each (SentIsTrue r (suc j))) (sym y.messages) still
      by (Begun b none) = more b.node.pid _ b.messages (opening_true b.node.pid _ (opening_plain b.node.pid b.state.durable))
      by (Acted a) = more a.node.pid _ a.messages (sends_true a)

  -- ---- numbers

  -- a node that leads a ballot of one rank before and after leads on
  leads_again : (p c b : ℕ) (x : Leads r j p c b) (y : Leads r (suc j) p c b) → leads_on x.seat.node.state.volatile.role y.seat.node.state.volatile.role ≡ true
  leads_again p c b x y =
      let small : (i : ℕ) (z : Leads r i p c b) → RoleIsSmall (role.Leading z.lead) = λ i z. subst RoleIsSmall z.role (seen r i p z.seat.node z.seat.at z.seat.part z.seat.has).rel.small_role in
      ap₂ leads_on x.role y.role ∙ is_same-rank x.lead.ballot y.lead.ballot (small j x).0 (small (suc j) y).0 ∙ eq-eqb (rank x.lead.ballot) (rank y.lead.ballot) (x.ballot ∙ sym y.ballot)

  -- the reads of a step through which the node leads on
  counted_step : (a : Acts w k.moment.deed k.moment.step u) (c b : ℕ) → (x : Leads r j (a.node).pid c b) → x.seat.node ≡ a.node → (y : Leads r (suc j) (a.node).pid c b) → y.seat.node ≡ after a
      → (early : Reads) → (asking_by (a.node).pid (a.node).state a.input).reads ≡ Some early → (reads : Reads) × (y.seat.node.state.reads ≡ Some reads) × (reads.count ≡ early.count)
  counted_step a c b x was y is early e =
      let p : ℕ = (a.node).pid in
      let s : State = (a.node).state in
      let on : leads_on s.volatile.role (plan p s a.input).volatile.role ≡ true =
      ap₂ (λ (v z : Node). leads_on v.state.volatile.role z.state.volatile.role) (sym was) (sym is) ∙ leads_again p c b x y in
      let d : ℕ = decided p s a.input in
      let o : ℕ = adopted p s a.input in
      (without_answered early d o, ap (λ (z : Node). z.state.reads) is ∙ left_goes p s a.input on early e, (left_part a early d o).2)

  counted_next : AreCounted r (suc j)
  counted_next i x came lt l = ⊎_elim before now (cases_lt i j)
    where
      Goal : Type 0
      Goal = (reads : Reads) × (l.seat.node.state.reads ≡ Some reads) × (x.asked.number ≤ reads.count)

      -- it came before
      before : i < j → Goal
      before e = by (becomes w k.moment.deed k.moment.step u k.moment.does x.pid l.seat.node l.seat.at)
        where
          c : ℕ
          c = rank x.ballot

          of_step : (a : Acts w k.moment.deed k.moment.step u) → (a.node).pid ≡ x.pid → l.seat.node ≡ after a → (p : Part) → (a.node).state.durable.part ≡ Some p → p.conf ≡ x.conf → Goal
          of_step a own is p has conf =
              let here : Seat r j x.pid x.conf = record { node = a.node; at = ap (node_at w.nodes) (sym own) ∙ a.at; part = p; has = has; conf = conf } in
              let m = leads_middle r i j (suc j) x.pid x.conf c (omega (arith, e)) (omega arith) (came_leads r x i came) l here in
              let led : Leads r j x.pid x.conf c = record { seat = here; lead = m.0; role = m.1; ballot = m.2 } in
              let was = h.counted i x came e led in
              let more = asked_counts (a.node).pid (a.node).state a.input (asking_by (a.node).pid (a.node).state a.input).reads (asked (a.node).pid (a.node).state a.input) was.0 was.1 in
              let first : Leads r j (a.node).pid x.conf c = record { seat = record { node = a.node; at = a.at; part = p; has = has; conf = conf }; lead = m.0; role = m.1; ballot = m.2 } in
              let last : Leads r (suc j) (a.node).pid x.conf c =
              record { seat = record { node = l.seat.node; at = ap (node_at u.nodes) own ∙ l.seat.at; part = l.seat.part; has = l.seat.has; conf = l.seat.conf }; lead = l.lead; role = l.role; ballot = l.ballot } in
              let then = counted_step a x.conf c first refl last is more.0 more.1 in
              (then.0, then.1, omega (arith, was.2, more.2, then.2))

          of_moves : (a : Acts w k.moment.deed k.moment.step u) → (a.node).pid ≡ x.pid → l.seat.node ≡ after a → Moves (a.node).pid (a.node).state a.input (step_plan (a.node).pid (a.node).state a.input) → Goal
          of_moves a own is (inl g) = absurd (leading_idle l.lead (sym l.role ∙ ap (λ (z : Node). z.state.volatile.role) is ∙ g.1))
          of_moves a own is (inr y) = of_part (a.node).state.durable.part refl y.part
            where
              now_has : (after a).state.durable.part ≡ Some l.seat.part
              now_has = ap (λ (z : Node). z.state.durable.part) (sym is) ∙ l.seat.has

              of_part : (o : Option Part) → (a.node).state.durable.part ≡ o → IfKept o (after a).state.durable.part → Goal
              of_part None e kept = absurd (none_some l.seat.part (sym kept ∙ now_has))
              of_part (Some p) e kept = of_step a own is p e (sym kept.2 ∙ ap (λ (z : Part). z.conf) (some_same kept.0 l.seat.part (sym kept.1 ∙ now_has)) ∙ l.seat.conf)

          by : Becomes w k.moment.deed k.moment.step u x.pid l.seat.node → Goal
          by (Stayed n there same own) =
              let led : Leads r j x.pid x.conf c = record {
                seat = record { node = n; at = there; part = l.seat.part; has = ap (λ (s : State). s.durable.part) (sym same) ∙ l.seat.has; conf = l.seat.conf };
                lead = l.lead;
                role = ap (λ (s : State). s.volatile.role) (sym same) ∙ l.role;
                ballot = l.ballot;
              } in
              let was = h.counted i x came e led in
              (was.0, ap (λ (s : State). s.reads) same ∙ was.1, was.2)
          by (Stepped a here is) = of_moves a here is (step_moves (a.node).pid (a.node).state a.input (above a))
          by (Opened none idle) = absurd (leading_idle l.lead (sym l.role ∙ idle))

      -- it comes at this moment
      now : j ≤ i → Goal
      now e =
          let here : i ≡ j = omega (arith, e, lt) in
          let t = taken r j k.moment x (k.comes x (subst (Came r x) here came)) in
          let a : Acts w k.moment.deed k.moment.step u = t.acts in
          let own : x.pid ≡ (a.node).pid = ap (λ (z : ReadAt). z.pid) t.is in
          let conf : x.conf ≡ t.part.conf = ap (λ (z : ReadAt). z.conf) t.is in
          let c : ℕ = rank x.ballot in
          let led : Leads r j (a.node).pid t.part.conf (rank t.lead.ballot) = leads_seat r j a.node t.part t.lead a.at t.leads in
          let ballot : rank t.lead.ballot ≡ c = ap (λ (z : ReadAt). rank z.ballot) (sym t.is) in
          let first : Leads r j (a.node).pid x.conf c = record { seat = record { node = a.node; at = a.at; part = t.part; has = led.seat.has; conf = sym conf }; lead = t.lead; role = led.role; ballot = ballot } in
          let at : node_at u.nodes (a.node).pid ≡ Some l.seat.node = ap (node_at u.nodes) (sym own) ∙ l.seat.at in
          let is : l.seat.node ≡ after a = some_same l.seat.node (after a) (sym at ∙ there_after a) in
          let last : Leads r (suc j) (a.node).pid x.conf c = record { seat = record { node = l.seat.node; at = at; part = l.seat.part; has = l.seat.has; conf = l.seat.conf }; lead = l.lead; role = l.role; ballot = l.ballot } in
          let old : Reads = reads_at (a.node).pid t.part (a.node).state.reads in
          let asked_is : (asking_by (a.node).pid (a.node).state a.input).reads ≡ Some (with_read old t.read) =
          ap (λ (z : Input). (asking_by (a.node).pid (a.node).state z).reads) t.comes ∙ ap (λ (o : Option (Part × Leading)). (read_asked (a.node).pid o (a.node).state.reads t.read).reads) t.leads
          ∙ ap (λ (b : Bool). (cond b (record { reads = (a.node).state.reads; sends = []; outcome = Some (outcome.Refused refusal.PositionsEnd) }) (asks_members (a.node).pid t.part t.lead.ballot old t.read)).reads) t.room in
          let then = counted_step a x.conf c first refl last is (with_read old t.read) asked_is in
          (then.0, then.1, omega (arith, then.2, ap (λ (z : ReadAt). z.asked.number) t.is))

  pub holds_next : Holds r (suc j)
  holds_next = record { wait = wait_next; messages = messages_next; counted = counted_next }
