-- The step of a node is the step of the server: input by input.
use Rattle.std.proofs.Common.{◌≡◌, ◌≤◌, inl, inr, ℕ, Bool, true, false, not, cond, ◌&&◌, eqb, nat_eq, List, [], ◌∷◌, length, Option, Some, None, refl, sym, ap, ◌∙◌, subst}
use Rattle.std.specs.Set.{is_member}
use Rattle.std.proofs.lemmas.Bool.{both_ways}
use Rattle.op_types.specs.Roles.{Role}
use Rattle.op_types.specs.declared.durable.Part.{Part as StoredPart}
use Rattle.op_types.specs.declared.durable.Joining.{Joining as StoredJoining}
use Rattle.op_types.specs.declared.answers.Refusal.{Refusal}
use Rattle.op_types.specs.declared.log.Entry.{Entry}
use Rattle.op_types.specs.declared.messages.Body.TheVariants as body
use Rattle.op_protocol.specs.State as table
use Rattle.op_protocol.specs.State.{Volatile, Waiting, PartStep, Planned, with_effects}
use Rattle.op_protocol.specs.Parts.{others, message, saying, nothing}
use Rattle.op_protocol.specs.Leader.{session_down, propose}
use Rattle.op_protocol.specs.Rows.{refusal_of, plan_of, trim_at, up_at, proposal_at}
use Rattle.op_runs.specs.World.{sent_by}
use Rattle.op_configurations.specs.Servers as server
use Rattle.op_configurations.specs.Servers.{Part, Closed, Joining, State, Letter, Fate, Done, Stopped, Stepped, Event, decided_list, says, unchanged, acted, acted_in, to_all}
use Rattle.op_configurations.specs.Worlds.{inner_of}
use Rattle.op_configurations.specs.Stored.{HoldsIfJoining}
use Rattle.op_refinement.proofs.Pure as pure
use Rattle.op_refinement.proofs.Lookups.{is_member-filtered}
use Rattle.op_refinement.proofs.TrimRows.{row_matches}
use Rattle.op_refinement.proofs.PartRows.{propose_goes, up_goes, down_goes}
use Rattle.op_refinement.proofs.Relation.{PartRel, all_before, IfPartRel, AreLetters, StepRel}
use Rattle.op_refinement.proofs.Others.{older_rel}
use Rattle.op_refinement.proofs.Inputs.{NodeFacts, step_by, proposal_event, WholeAfter, rest_rel, rest_partless, known_there, acted_there, quiet_calm, trim_now_there}
use Rattle.op_refinement.proofs.Proposing.{unrefused}
use Rattle.op_refinement.proofs.Proposals.{Taken, taken, partless_refuses}

some_none : {A : Type 0} (a : A) → Some a ≡ None → ⊥
some_none a e = cc

module _ (lists : ℕ → List Entry) (soup : List Letter) (me : ℕ) (f : Fate) (s : table.State) (st : State) (k : NodeFacts lists soup me s st) where
  -- both join, or both don't
  both_join : (d : Option StoredJoining) (j : Option Joining) → HoldsIfJoining lists d j → d ≡ None → j ≡ None
  both_join None None h e = refl
  both_join None (Some j) h e = absurd h
  both_join (Some d) j h e = absurd (some_none d e)

  -- ---- trimming is asked for
  pub trim_now_rel : WholeAfter lists (acted_in f me st st.part pure.TrimNow) → StepRel lists me f s.durable (plan_of me s s.waiting (trim_at me s.durable.part s.volatile)) (acted_in f me st st.part pure.TrimNow)
  trim_now_rel w = by s.durable.part refl st.part refl (k.rel).part w
    where
      by : (d : Option StoredPart) → s.durable.part ≡ d → (o : Option Part) → st.part ≡ o → IfPartRel lists d s.volatile o → WholeAfter lists (acted_in f me st o pure.TrimNow)
          → StepRel lists me f s.durable (plan_of me s s.waiting (trim_at me d s.volatile)) (acted_in f me st o pure.TrimNow)
      by None hs None ht r w = rest_partless lists soup me f s st k s.waiting (trim_at me None s.volatile) refl hs refl [] tt
      by None hs (Some pt) ht r w = absurd r
      by (Some p) hs None ht r w = absurd r
      by (Some p) hs (Some pt) ht r w = trim_now_there lists soup me f s st k p pt hs ht r w

  -- ---- a session ends
  pub down_rel : (q : ℕ) → WholeAfter lists (acted_in f me st st.part (pure.Down q)) → StepRel lists me f s.durable (plan_of me s s.waiting (with_effects s.volatile (session_down s.volatile.role q))) (acted_in f me st st.part (pure.Down q))
  down_rel q w = by s.durable.part refl st.part refl (k.rel).part w
    where
      bare : (r : Role) → (session_down r q).batch ≡ []
      bare Rattle.op_types.specs.Roles.Idle = refl
      bare (Rattle.op_types.specs.Roles.Preparing y) = refl
      bare (Rattle.op_types.specs.Roles.Leading l) = refl

      silent : (r : Role) → AreLetters lists (sent_by me (session_down r q).sends) []
      silent Rattle.op_types.specs.Roles.Idle = tt
      silent (Rattle.op_types.specs.Roles.Preparing y) = tt
      silent (Rattle.op_types.specs.Roles.Leading l) = tt

      x : PartStep
      x = with_effects s.volatile (session_down s.volatile.role q)

      by : (d : Option StoredPart) → s.durable.part ≡ d → (o : Option Part) → st.part ≡ o → IfPartRel lists d s.volatile o → WholeAfter lists (acted_in f me st o (pure.Down q)) → StepRel lists me f s.durable (plan_of me s s.waiting x) (acted_in f me st o (pure.Down q))
      by None hs None ht r w = rest_partless lists soup me f s st k s.waiting x (bare s.volatile.role) hs refl [] (silent s.volatile.role)
      by None hs (Some pt) ht r w = absurd r
      by (Some p) hs None ht r w = absurd r
      by (Some p) hs (Some pt) ht r w =
          acted_there lists soup me f s st k p pt hs ht r 0 (pure.Down q) tt s.waiting x (row_matches r.front me p s.volatile _ _ (inl (down_goes (inner_of p.conf soup) me r.front p s.volatile (known_there lists soup me f s st k p pt hs ht r) q)))
          (inr (quiet_calm lists soup me f s st k p pt hs ht r (pure.Down q) tt)) w

  -- ---- a proposal
  pub proposal_rel : (e : List Entry) → pure.stops_early e ≡ false → (waiting : Waiting) (r : Option Refusal) → refusal_of me s.volatile.role s.durable e ≡ r → WholeAfter lists (step_by f me st (proposal_event e r))
      → StepRel lists me f s.durable (plan_of me s waiting (proposal_at me s.durable.part s.volatile e r)) (step_by f me st (proposal_event e r))
  unfolding server.step
  proposal_rel e ends waiting (Some r) h w = by s.durable.part
    where
      by : (d : Option StoredPart) → StepRel lists me f s.durable (plan_of me s waiting (proposal_at me d s.volatile e (Some r))) (unchanged st)
      by None = rest_rel lists soup me f s st k waiting (proposal_at me None s.volatile e (Some r)) refl [] refl tt
      by (Some p) = rest_rel lists soup me f s st k waiting (proposal_at me (Some p) s.volatile e (Some r)) refl [] refl tt
  proposal_rel e ends waiting None h w =
      let t : Taken lists soup me s st k e ends h = taken lists soup me s st k e ends h in
      let is : cond (server.may_propose me st st.part e) (acted_in f me st st.part (pure.Proposal e)) (unchanged st) ≡ acted_in f me st st.part (pure.Proposal e) =
      ap (λ (b : Bool). cond b (acted_in f me st st.part (pure.Proposal e)) (unchanged st)) t.may in
      subst (λ (o : Stepped). StepRel lists me f s.durable (plan_of me s waiting (proposal_at me s.durable.part s.volatile e None)) o) (sym is)
      (by s.durable.part refl st.part refl (k.rel).part (subst (WholeAfter lists) is w))
    where
      by : (d : Option StoredPart) → s.durable.part ≡ d → (o : Option Part) → st.part ≡ o → IfPartRel lists d s.volatile o → WholeAfter lists (acted_in f me st o (pure.Proposal e))
          → StepRel lists me f s.durable (plan_of me s waiting (proposal_at me d s.volatile e None)) (acted_in f me st o (pure.Proposal e))
      by None hs o ht r w = absurd (partless_refuses me s e hs h)
      by (Some p) hs None ht r w = absurd r
      by (Some p) hs (Some pt) ht r w =
          let u = unrefused me s.volatile.role s.durable e h p hs in
          acted_there lists soup me f s st k p pt hs ht r 0 (pure.Proposal e) tt waiting (with_effects s.volatile (propose me p s.volatile.role e))
          (row_matches r.front me p s.volatile _ _ (inl (propose_goes (inner_of p.conf soup) me r.front p s.volatile (known_there lists soup me f s st k p pt hs ht r) e (u.0).free ends (u.0).room)))
          (inl (both_join s.durable.joining st.joining (k.rel).joining u.1, u.1)) w

  -- ---- a session begins
  member_same : (p : StoredPart) (pt : Part) → p.members ≡ pt.members → (q : ℕ) → is_member nat_eq (others me p.members) q ≡ (is_member nat_eq pt.members q && not (eqb q me))
  member_same p pt e q = is_member-filtered (λ r. not (eqb r me)) p.members q ∙ ap (λ (xs : List ℕ). is_member nat_eq xs q && not (eqb q me)) e

  pub up_rel : (q : ℕ) → ((x : Closed) → st.closed ≡ Some x → x.trimmed ≤ length x.list) → WholeAfter lists (server.links_in f me st st.joining q st.part)
      → StepRel lists me f s.durable (plan_of me s s.waiting (up_at me s.durable s.durable.part s.durable.joining s.volatile q)) (server.links_in f me st st.joining q st.part)
  up_rel q low w = joins s.durable.joining refl st.joining refl (k.rel).joining w
    where
      at_part : (p : StoredPart) (pt : Part) → s.durable.part ≡ Some p → st.part ≡ Some pt → (r : PartRel (all_before lists pt.conf) p s.volatile pt) → s.durable.joining ≡ None → st.joining ≡ None → (b c : Bool) → b ≡ c → WholeAfter lists (cond c (acted f me st pt 0 (pure.Up q)) (unchanged st))
          → StepRel lists me f s.durable (plan_of me s s.waiting (with_effects s.volatile (cond b (saying s.volatile.role (message p.conf q body.PrepareReq ∷ [])) (nothing s.volatile.role)))) (cond c (acted f me st pt 0 (pure.Up q)) (unchanged st))
      at_part p pt hs ht r hj tj true true e w =
          acted_there lists soup me f s st k p pt hs ht r 0 (pure.Up q) tt s.waiting (with_effects s.volatile (saying s.volatile.role (message p.conf q body.PrepareReq ∷ [])))
          (row_matches r.front me p s.volatile _ _ (inl (up_goes (inner_of p.conf soup) me r.front p s.volatile (known_there lists soup me f s st k p pt hs ht r) q))) (inl (tj, hj)) w
      at_part p pt hs ht r hj tj false false e w = rest_rel lists soup me f s st k s.waiting (with_effects s.volatile (nothing s.volatile.role)) refl [] refl tt
      at_part p pt hs ht r hj tj true false e w = absurd (both_ways true (e) refl)
      at_part p pt hs ht r hj tj false true e w = absurd (both_ways false refl e)

      parts : s.durable.joining ≡ None → st.joining ≡ None → (d : Option StoredPart) → s.durable.part ≡ d → (o : Option Part) → st.part ≡ o → IfPartRel lists d s.volatile o → WholeAfter lists (server.links_in f me st None q o)
          → StepRel lists me f s.durable (plan_of me s s.waiting (up_at me s.durable d None s.volatile q)) (server.links_in f me st None q o)
      parts hj tj None hs None ht r w = older_rel lists soup me f s st k q low
      parts hj tj None hs (Some pt) ht r w = absurd r
      parts hj tj (Some p) hs None ht r w = absurd r
      parts hj tj (Some p) hs (Some pt) ht r w = at_part p pt hs ht r hj tj _ _ (member_same p pt r.members q) w

      joins : (d : Option StoredJoining) → s.durable.joining ≡ d → (j : Option Joining) → st.joining ≡ j → HoldsIfJoining lists d j → WholeAfter lists (server.links_in f me st j q st.part)
          → StepRel lists me f s.durable (plan_of me s s.waiting (up_at me s.durable s.durable.part d s.volatile q)) (server.links_in f me st j q st.part)
      joins None hj None tj y w = parts hj tj s.durable.part refl st.part refl (k.rel).part w
      joins None hj (Some j) tj y w = absurd y
      joins (Some d) hj None tj y w = absurd y
      joins (Some d) hj (Some j) tj y w = by s.durable.part
        where
          by : (p : Option StoredPart) → StepRel lists me f s.durable (plan_of me s s.waiting (up_at me s.durable p (Some d) s.volatile q)) (unchanged st)
          by None = rest_rel lists soup me f s st k s.waiting (up_at me s.durable None (Some d) s.volatile q) refl [] refl tt
          by (Some p) = rest_rel lists soup me f s st k s.waiting (up_at me s.durable (Some p) (Some d) s.volatile q) refl [] refl tt
