-- What comes to a node that joins nothing, and isn't of its configuration's run.
use Rattle.std.proofs.Common.{◌≡◌, ◌<◌, ◌≤◌, inl, ℕ, suc, Bool, true, false, cond, ◌||◌, eqb, is_some, List, [], ◌∷◌, length, Option, Some, None, refl, sym, ap, ◌∙◌, subst, arith}
use Rattle.std.proofs.lemmas.Bool.{both_ways, ne_eqb}
use Rattle.op_types.specs.declared.durable.Part.{Part as StoredPart}
use Rattle.op_types.specs.declared.durable.Closed.{Closed as StoredClosed}
use Rattle.op_types.specs.declared.durable.Joining.{Joining as StoredJoining}
use Rattle.op_types.specs.declared.log.Entry.{Entry}
use Rattle.op_types.specs.declared.messages.Body.{Body}
use Rattle.op_types.specs.declared.messages.Body.TheVariants as body
use Rattle.op_protocol.specs.State as table
use Rattle.op_protocol.specs.State.{Volatile, PartStep, with_effects}
use Rattle.op_protocol.specs.Parts.{message, saying}
use Rattle.op_protocol.specs.Tick.{remembering}
use Rattle.op_protocol.specs.Configurations.{latest_of, latest_in as stored_latest_in, latest_members}
use Rattle.op_protocol.specs.Rows.{is_of_joining, may_be_above, is_prepare_req, on_older, on_newer, plan_of}
use Rattle.op_runs.specs.World.{sent_by}
use Rattle.op_configurations.specs.Servers as server
use Rattle.op_configurations.specs.Servers.{Part, Closed, Joining, State, Letter, Fate, letter, says, unchanged, acted}
use Rattle.op_configurations.specs.Worlds.{inner_of}
use Rattle.op_configurations.specs.Stored.{HoldsIfClosed}
use Rattle.op_refinement.proofs.Pure as pure
use Rattle.op_refinement.proofs.View.{view_body}
use Rattle.op_refinement.proofs.Relation.{IfPartRel, IsSaid, AreLetters, StepRel}
use Rattle.op_refinement.proofs.Inputs.{NodeFacts, WholeAfter, rest_rel, known_there, acted_there}
use Rattle.op_refinement.proofs.TrimRows.{row_matches}
use Rattle.op_refinement.proofs.PartRows.{up_goes}
use Rattle.op_refinement.proofs.Donors.{members_same, older_letters}

-- ---- messages and letters

-- what may be of a configuration that isn't known
pub ahead_same : (lists : ℕ → List Entry) (conf : ℕ) (b : Body) (y : server.Body) → IsSaid lists conf b y → may_be_above b ≡ server.is_ahead y
ahead_same lists conf (body.HeartbeatRequest r) y i = ap server.is_ahead (sym i)
ahead_same lists conf (body.HeartbeatReply r n f) y i = ap server.is_ahead (sym i)
ahead_same lists conf (body.Confirm z r) y i = ap server.is_ahead (sym i)
ahead_same lists conf (body.Confirmed n r) y i = ap server.is_ahead (sym i)
ahead_same lists conf (body.Watch w) y i = ap server.is_ahead (sym i)
ahead_same lists conf (body.Prepare n na nl nd) y i = ap server.is_ahead (sym i.2)
ahead_same lists conf (body.Promise n fa fl fd s es) y i = ap server.is_ahead (sym i.2)
ahead_same lists conf (body.AcceptSync n x es) y i = ap server.is_ahead (sym i.2)
ahead_same lists conf (body.PromisePart n part) y i = ap server.is_ahead (sym i.2)
ahead_same lists conf (body.AcceptSyncPart n part) y i = ap server.is_ahead (sym i.2)
ahead_same lists conf (body.Accept n a es) y i = ap server.is_ahead (sym i.2)
ahead_same lists conf (body.Accepted n x) y i = ap server.is_ahead (sym i.2)
ahead_same lists conf (body.Decide n x) y i = ap server.is_ahead (sym i.2)
ahead_same lists conf body.PrepareReq y i = by (eqb conf 0) ∙ ap server.is_ahead (sym i)
  where
    by : (c : Bool) → false ≡ server.is_ahead (cond c server.HeartbeatReply (server.Inner pure.PrepareReq))
    by true = refl
    by false = refl
ahead_same lists conf (body.Refuse n x) y i = ap server.is_ahead (sym i.2)
ahead_same lists conf (body.Forward x) y i = ap server.is_ahead (sym i.2)
ahead_same lists conf (body.Forwards x) y i = ap server.is_ahead (sym i.2)
ahead_same lists conf (body.TrimAsk n) y i = ap server.is_ahead (sym i.2)
ahead_same lists conf (body.Progress n x) y i = ap server.is_ahead (sym i.2)
ahead_same lists conf (body.Trim x) y i = ap server.is_ahead (sym i.2)
ahead_same lists conf (body.NextConf members olds len trimmed) y i = ap server.is_ahead (sym i)
ahead_same lists conf body.AskBase y i = ap server.is_ahead (sym i)
ahead_same lists conf (body.BasePart at bytes) y i = ap server.is_ahead (sym i.1)
ahead_same lists conf (body.BasePiece piece) y i = ap server.is_ahead (sym i.1)
ahead_same lists conf (body.AskSegment from to) y i = ap server.is_ahead (sym i)
ahead_same lists conf (body.Segment at es) y i = ap server.is_ahead (sym i)

true_false : true ≡ false → ⊥
true_false e = both_ways true e refl

none_some : {A : Type 0} (a : A) → None ≡ Some a → ⊥
none_some a e = cc

abbrev asks_for : Option pure.Msg → Bool
asks_for None = false
asks_for (Some z) = server.is_request (server.Inner z)

view_request : (b : Body) (x : pure.Msg) → view_body b ≡ Some x → is_prepare_req b ≡ false → server.is_request (server.Inner x) ≡ false
view_request (body.HeartbeatRequest r) x e f = absurd (none_some x e)
view_request (body.HeartbeatReply r n g) x e f = absurd (none_some x e)
view_request (body.Confirm z r) x e f = absurd (none_some x e)
view_request (body.Confirmed n r) x e f = absurd (none_some x e)
view_request (body.Watch w) x e f = absurd (none_some x e)
view_request (body.Prepare n na nl nd) x e f = ap asks_for (sym e)
view_request (body.Promise n fa fl fd s es) x e f = ap asks_for (sym e)
view_request (body.AcceptSync n y es) x e f = ap asks_for (sym e)
view_request (body.PromisePart n part) x e f = ap asks_for (sym e)
view_request (body.AcceptSyncPart n part) x e f = ap asks_for (sym e)
view_request (body.Accept n a es) x e f = ap asks_for (sym e)
view_request (body.Accepted n y) x e f = ap asks_for (sym e)
view_request (body.Decide n y) x e f = ap asks_for (sym e)
view_request body.PrepareReq x e f = absurd (true_false f)
view_request (body.Refuse n y) x e f = ap asks_for (sym e)
view_request (body.Forward y) x e f = ap asks_for (sym e)
view_request (body.Forwards y) x e f = ap asks_for (sym e)
view_request (body.TrimAsk n) x e f = ap asks_for (sym e)
view_request (body.Progress n y) x e f = ap asks_for (sym e)
view_request (body.Trim y) x e f = ap asks_for (sym e)
view_request (body.NextConf members olds len trimmed) x e f = absurd (none_some x e)
view_request body.AskBase x e f = absurd (none_some x e)
view_request (body.BasePart at bytes) x e f = absurd (none_some x e)
view_request (body.BasePiece piece) x e f = absurd (none_some x e)
view_request (body.AskSegment from to) x e f = absurd (none_some x e)
view_request (body.Segment at es) x e f = absurd (none_some x e)

-- what isn't answered with a request
request_same : (lists : ℕ → List Entry) (conf : ℕ) (b : Body) (y : server.Body) → 0 < conf → may_be_above b ≡ false → IsSaid lists conf b y → (is_of_joining b || is_prepare_req b) ≡ server.is_request y
request_same lists conf (body.HeartbeatRequest r) y pos n i = ap server.is_request (sym i)
request_same lists conf (body.HeartbeatReply r z f) y pos n i = ap server.is_request (sym i)
request_same lists conf (body.Confirm z r) y pos n i = ap server.is_request (sym i)
request_same lists conf (body.Confirmed z r) y pos n i = ap server.is_request (sym i)
request_same lists conf (body.Watch w) y pos n i = ap server.is_request (sym i)
request_same lists conf (body.Prepare z na nl nd) y pos n i = sym (view_request (body.Prepare z na nl nd) i.0 i.1 refl) ∙ ap server.is_request (sym i.2)
request_same lists conf (body.Promise z fa fl fd s es) y pos n i = sym (view_request (body.Promise z fa fl fd s es) i.0 i.1 refl) ∙ ap server.is_request (sym i.2)
request_same lists conf (body.AcceptSync z x es) y pos n i = sym (view_request (body.AcceptSync z x es) i.0 i.1 refl) ∙ ap server.is_request (sym i.2)
request_same lists conf (body.PromisePart z part) y pos n i = sym (view_request (body.PromisePart z part) i.0 i.1 refl) ∙ ap server.is_request (sym i.2)
request_same lists conf (body.AcceptSyncPart z part) y pos n i = sym (view_request (body.AcceptSyncPart z part) i.0 i.1 refl) ∙ ap server.is_request (sym i.2)
request_same lists conf (body.Accept z a es) y pos n i = sym (view_request (body.Accept z a es) i.0 i.1 refl) ∙ ap server.is_request (sym i.2)
request_same lists conf (body.Accepted z x) y pos n i = sym (view_request (body.Accepted z x) i.0 i.1 refl) ∙ ap server.is_request (sym i.2)
request_same lists conf (body.Decide z x) y pos n i = sym (view_request (body.Decide z x) i.0 i.1 refl) ∙ ap server.is_request (sym i.2)
request_same lists conf body.PrepareReq y pos n i =
    ap (λ (c : Bool). server.is_request (cond c server.HeartbeatReply (server.Inner pure.PrepareReq))) (sym (ne_eqb conf 0 (λ z. omega (arith, z, pos)))) ∙ ap server.is_request (sym i)
request_same lists conf (body.Refuse z x) y pos n i = sym (view_request (body.Refuse z x) i.0 i.1 refl) ∙ ap server.is_request (sym i.2)
request_same lists conf (body.Forward x) y pos n i = sym (view_request (body.Forward x) i.0 i.1 refl) ∙ ap server.is_request (sym i.2)
request_same lists conf (body.Forwards x) y pos n i = sym (view_request (body.Forwards x) i.0 i.1 refl) ∙ ap server.is_request (sym i.2)
request_same lists conf (body.TrimAsk z) y pos n i = sym (view_request (body.TrimAsk z) i.0 i.1 refl) ∙ ap server.is_request (sym i.2)
request_same lists conf (body.Progress z x) y pos n i = sym (view_request (body.Progress z x) i.0 i.1 refl) ∙ ap server.is_request (sym i.2)
request_same lists conf (body.Trim x) y pos n i = sym (view_request (body.Trim x) i.0 i.1 refl) ∙ ap server.is_request (sym i.2)
request_same lists conf (body.NextConf members olds len trimmed) y pos n i = absurd (true_false n)
request_same lists conf body.AskBase y pos n i = ap server.is_request (sym i)
request_same lists conf (body.BasePart at bytes) y pos n i = absurd (true_false n)
request_same lists conf (body.BasePiece piece) y pos n i = absurd (true_false n)
request_same lists conf (body.AskSegment from to) y pos n i = ap server.is_request (sym i)
request_same lists conf (body.Segment at es) y pos n i = absurd (true_false n)

-- ---- the latest configuration

pub latest_same : (lists : ℕ → List Entry) (v : Volatile) (d : Option StoredPart) (l : Option StoredClosed) (o : Option Part) (c : Option Closed) → IfPartRel lists d v o → HoldsIfClosed lists l c → stored_latest_in d l ≡ server.latest_in o c
latest_same lists v None None None None r h = refl
latest_same lists v None None None (Some k) r h = absurd h
latest_same lists v None (Some l) None None r h = absurd h
latest_same lists v None (Some l) None (Some k) r h = omega (arith, h.conf)
latest_same lists v None l (Some pt) c r h = absurd r
latest_same lists v (Some p) l None c r h = absurd r
latest_same lists v (Some p) l (Some pt) c r h = r.conf

module _ (lists : ℕ → List Entry) (soup : List Letter) (me : ℕ) (f : Fate) (s : table.State) (st : State) (k : NodeFacts lists soup me s st) (q : ℕ)
    (low : (c : Closed) → st.closed ≡ Some c → c.trimmed ≤ length c.list) where
  pub latest_is : latest_of s.durable ≡ server.latest st
  latest_is = latest_same lists s.volatile s.durable.part s.durable.closed st.part st.closed (k.rel).part (k.rel).closed

  -- ---- from an older configuration

  members_are : latest_members s.durable ≡ server.latest_members st
  members_are = by s.durable.part st.part (k.rel).part
    where
      by : (d : Option StoredPart) (o : Option Part) → IfPartRel lists d s.volatile o → Rattle.op_protocol.specs.Configurations.latest_members_in d s.durable.closed ≡ server.latest_members_in o st.closed
      by None None r = members_same lists me None s.durable.closed None st.closed (λ p pt e g. absurd (none_some p e)) refl (k.rel).closed
      by None (Some pt) r = absurd r
      by (Some p) None r = absurd r
      by (Some p) (Some pt) r = r.members

  pub older_rel : StepRel lists me f s.durable (plan_of me s s.waiting (remembering s.volatile (on_older s.durable s.durable.closed q))) (says st (server.refers me st st.closed q))
  older_rel = rest_rel lists soup me f s st k s.waiting (remembering s.volatile (on_older s.durable s.durable.closed q)) refl (server.refers me st st.closed q) refl
      (older_letters lists me s.durable st members_are s.durable.closed st.closed (k.rel).closed low q)

  -- ---- from above the latest configuration
  module _ (hj : s.durable.joining ≡ None) (tj : st.joining ≡ None) where
    abbrev asking : PartStep
    asking = remembering s.volatile (message (latest_of s.durable) q body.PrepareReq ∷ [])

    sought_rel : (g : Fate) → f ≡ g → WholeAfter lists (server.sought f me st st.part st.closed q) → StepRel lists me f s.durable (plan_of me s s.waiting asking) (server.sought f me st st.part st.closed q)
    unfolding server.sought
    sought_rel g fate w = by s.durable.part refl st.part refl (k.rel).part w
      where
        said_in : (c : ℕ) (y : server.Body) → latest_of s.durable ≡ c → IsSaid lists c body.PrepareReq y → AreLetters lists (sent_by me (message (latest_of s.durable) q body.PrepareReq ∷ [])) (letter me q c y ∷ [])
        said_in c y e i = (record { from = refl; to = refl; conf = e; body = i; small = tt }, tt)

        closed_by : (h : Fate) → f ≡ h → st.part ≡ None → (c : Option Closed) → st.closed ≡ c → StepRel lists me f s.durable (plan_of me s s.waiting asking) (server.sought h me st None c q)
        closed_by server.Done e ht None hc =
            rest_rel lists soup me f s st k s.waiting asking refl (letter me q 0 server.HeartbeatReply ∷ []) refl (said_in 0 server.HeartbeatReply (latest_is ∙ ap (λ (o : Option Part). server.latest_in o st.closed) ht ∙ ap (λ (o : Option Closed). server.latest_in None o) hc) refl)
        closed_by server.Stopped e ht None hc =
            rest_rel lists soup me f s st k s.waiting asking refl (letter me q 0 server.HeartbeatReply ∷ []) refl (said_in 0 server.HeartbeatReply (latest_is ∙ ap (λ (o : Option Part). server.latest_in o st.closed) ht ∙ ap (λ (o : Option Closed). server.latest_in None o) hc) refl)
        closed_by server.Done e ht (Some c) hc =
            let z : StepRel lists me f s.durable (plan_of me s s.waiting asking) (says st (letter me q (suc c.conf) (server.Inner pure.PrepareReq) ∷ [])) =
            rest_rel lists soup me f s st k s.waiting asking refl (letter me q (suc c.conf) (server.Inner pure.PrepareReq) ∷ []) refl
            (said_in (suc c.conf) (server.Inner pure.PrepareReq) (latest_is ∙ ap (λ (o : Option Part). server.latest_in o st.closed) ht ∙ ap (λ (o : Option Closed). server.latest_in None o) hc) (ap (λ (b : Bool). cond b server.HeartbeatReply (server.Inner pure.PrepareReq)) (sym (ne_eqb (suc c.conf) 0 (λ x. omega (arith, x)))))) in
            record { volatile = z.volatile; state = z.state; live = z.live; said = z.said; serves = z.serves }
        closed_by server.Stopped e ht (Some c) hc =
            let z : StepRel lists me f s.durable (plan_of me s s.waiting asking) (says st (letter me q (suc c.conf) (server.Inner pure.PrepareReq) ∷ [])) =
            rest_rel lists soup me f s st k s.waiting asking refl (letter me q (suc c.conf) (server.Inner pure.PrepareReq) ∷ []) refl
            (said_in (suc c.conf) (server.Inner pure.PrepareReq) (latest_is ∙ ap (λ (o : Option Part). server.latest_in o st.closed) ht ∙ ap (λ (o : Option Closed). server.latest_in None o) hc) (ap (λ (b : Bool). cond b server.HeartbeatReply (server.Inner pure.PrepareReq)) (sym (ne_eqb (suc c.conf) 0 (λ x. omega (arith, x)))))) in
            record { volatile = z.volatile; state = z.state; live = z.live; said = λ d. absurd (stopped_done (sym e ∙ d)); serves = z.serves }
          where
            stopped_done : server.Stopped ≡ server.Done → ⊥
            stopped_done d = cc

        by : (d : Option StoredPart) → s.durable.part ≡ d → (o : Option Part) → st.part ≡ o → IfPartRel lists d s.volatile o → WholeAfter lists (server.sought f me st o st.closed q)
            → StepRel lists me f s.durable (plan_of me s s.waiting asking) (server.sought f me st o st.closed q)
        by None hs None ht r w = subst (λ (h : Fate). StepRel lists me f s.durable (plan_of me s s.waiting asking) (server.sought h me st None st.closed q)) refl (closed_by f refl ht st.closed refl)
        by None hs (Some pt) ht r w = absurd r
        by (Some p) hs None ht r w = absurd r
        by (Some p) hs (Some pt) ht r w =
            subst (λ (c : ℕ). StepRel lists me f s.durable (plan_of me s s.waiting (remembering s.volatile (message c q body.PrepareReq ∷ []))) (acted f me st pt 0 (pure.Up q))) (sym (ap (λ (o : Option StoredPart). stored_latest_in o s.durable.closed) hs))
            (acted_there lists soup me f s st k p pt hs ht r 0 (pure.Up q) tt s.waiting (with_effects s.volatile (saying s.volatile.role (message p.conf q body.PrepareReq ∷ [])))
            (row_matches r.front me p s.volatile _ _ (inl (up_goes (inner_of p.conf soup) me r.front p s.volatile (known_there lists soup me f s st k p pt hs ht r) q))) (inl (tj, hj)) w)

    pub newer_rel : (conf : ℕ) (b : Body) (y : server.Body) → 0 < conf → may_be_above b ≡ false → IsSaid lists conf b y → WholeAfter lists (server.seeks f me st q y)
        → StepRel lists me f s.durable (plan_of me s s.waiting (remembering s.volatile (on_newer s.durable q b))) (server.seeks f me st q y)
    unfolding server.seeks
    newer_rel conf b y pos above i w = by (is_of_joining b || is_prepare_req b) refl
      where
        same : (is_of_joining b || is_prepare_req b) ≡ server.is_request y
        same = request_same lists conf b y pos above i

        there : (c : Bool) → (is_of_joining b || is_prepare_req b) ≡ c → (is_some s.durable.joining || (is_of_joining b || is_prepare_req b)) ≡ c
        there c e = ap (λ (o : Option StoredJoining). is_some o || (is_of_joining b || is_prepare_req b)) hj ∙ e

        here : (c : Bool) → (is_of_joining b || is_prepare_req b) ≡ c → (is_some st.joining || server.is_request y) ≡ c
        here c e = ap (λ (o : Option Joining). is_some o || server.is_request y) tj ∙ sym same ∙ e

        by : (c : Bool) → (is_of_joining b || is_prepare_req b) ≡ c → StepRel lists me f s.durable (plan_of me s s.waiting (remembering s.volatile (on_newer s.durable q b))) (cond (is_some st.joining || server.is_request y) (unchanged st) (server.sought f me st st.part st.closed q))
        by true e =
            subst (λ (c : Bool). StepRel lists me f s.durable (plan_of me s s.waiting (remembering s.volatile (on_newer s.durable q b))) (cond c (unchanged st) (server.sought f me st st.part st.closed q))) (sym (here true e))
            (subst (λ (c : Bool). StepRel lists me f s.durable (plan_of me s s.waiting (remembering s.volatile (cond c [] (message (latest_of s.durable) q body.PrepareReq ∷ [])))) (unchanged st)) (sym (there true e))
            (rest_rel lists soup me f s st k s.waiting (remembering s.volatile []) refl [] refl tt))
        by false e =
            subst (λ (c : Bool). StepRel lists me f s.durable (plan_of me s s.waiting (remembering s.volatile (on_newer s.durable q b))) (cond c (unchanged st) (server.sought f me st st.part st.closed q))) (sym (here false e))
            (subst (λ (c : Bool). StepRel lists me f s.durable (plan_of me s s.waiting (remembering s.volatile (cond c [] (message (latest_of s.durable) q body.PrepareReq ∷ [])))) (server.sought f me st st.part st.closed q)) (sym (there false e))
            (sought_rel f refl (subst (λ (c : Bool). WholeAfter lists (cond c (unchanged st) (server.sought f me st st.part st.closed q))) (here false e) w)))
