-- What every happening keeps: observers stand, none falls, and what they are told is true.
use Rattle.std.proofs.Common.{◌≡◌, inl, inr, ℕ, zero, suc, ◌-◌, cond, eqb, List, [], ◌∷◌, ◌++◌, Option, Some, None, refl, sym, ◌∙◌, subst, append-nil, slice_get}
use Rattle.op_types.specs.declared.durable.Part.{Part as StoredPart}
use Rattle.op_types.specs.declared.durable.Durable.{Durable}
use Rattle.op_types.specs.declared.events.Input.{Input}
use Rattle.op_types.specs.declared.events.Input.TheVariants as input
use Rattle.op_types.specs.declared.log.Entry.{Entry}
use Rattle.op_types.specs.declared.messages.Body.{Body}
use Rattle.op_types.specs.declared.messages.Body.TheVariants as body
use Rattle.op_types.specs.declared.messages.Watch.TheVariants as watch
use Rattle.op_types.specs.declared.messages.Msg.{Msg}
use Rattle.op_runs.specs.declared.events.What.TheVariants as what
use Rattle.op_spec.specs.Laws.{NoneAfterStop}
use Rattle.op_spec.specs.Stands.{Stands}
use Rattle.op_types.specs.Limits.{positions_end}
use Rattle.op_types.specs.RoleStates.{Leading}
use Rattle.op_types.specs.declared.ballot.Ballot.{Ballot}
use Rattle.op_protocol.specs.Parts.{others, to_each}
use Rattle.op_protocol.specs.Reading.{leading_at, reads_at, asks_members, Asking, read_asked, asking_by}
use Rattle.op_protocol.specs.State.{State}
use Rattle.op_protocol.specs.Rows.{step_plan, table_plan}
use Rattle.op_laws.proofs.GivenUp.{either}
use Rattle.op_protocol.specs.Starting.{sends_after_restart}
use Rattle.op_protocol.specs.Watched.{watch_answers}
use Rattle.op_runs.specs.World.{Node, NodeStatus, Up, Down, Failed, Votes, Observes, Sent, sent_by, Doing, Steps, Stops, Opens, Tells, Fate, Done, Stopped, Faulted, World, Happening, world_by_fate_as, world_opening_as, world_reopening_as, world_by_status_as}
use Rattle.op_refinement.proofs.View.{Each, Each-append}
use Rattle.op_refinement.proofs.Steps.{AllRead}
use Rattle.op_refinement.proofs.Observing.{IsAsk, IsAsked, watch_asks}
use Rattle.op_laws.proofs.PlainSends.{IsPlain, ArePlain, IsAnswer, Says, table_says, opening_plain, one_among}
use Rattle.op_watch_laws.proofs.Told.{IsTold, CanShow, answers_told}
use Rattle.op_watch_laws.proofs.Nodes.{NodeKept}

-- what is sent is true
abbrev pub SentTold : List ℕ → (ℕ → List Entry) → Sent → Type 0
SentTold first lists s = IsTold first lists s.message.conf s.message.body

-- what is kept of a world, where these lists are decided
pub record WorldKept (first : List ℕ) (lists : ℕ → List Entry) (w : World) : Type 0 where
  pub members : w.members ≡ first
  pub observers : Each (NodeKept first lists) w.observers
  pub told : Each (SentTold first lists) w.messages

-- what is known of the nodes: they stand, and all lists before those that they show are ended
pub record NodeShows (first : List ℕ) (lists : ℕ → List Entry) (n : Node) : Type 0 where
  pub stands : Stands first lists n.state.durable
  pub can : CanShow first lists n.state.durable

-- ---- what is true of messages

plain_told : (first : List ℕ) (lists : ℕ → List Entry) (c : ℕ) (b : Body) → IsPlain b → IsTold first lists c b
plain_told first lists c (body.Watch w) k = absurd k
plain_told first lists c _ k = tt

ask_told : (first : List ℕ) (lists : ℕ → List Entry) (c : ℕ) (b : Body) → IsAsk b → IsTold first lists c b
ask_told first lists c (body.Watch (watch.Ask from)) k = tt
ask_told first lists c _ k = absurd k

each_sent : (first : List ℕ) (lists : ℕ → List Entry) (me : ℕ) (sends : List (ℕ × Msg)) → Each (λ s. IsTold first lists s.1.conf s.1.body) sends → Each (SentTold first lists) (sent_by me sends)
each_sent first lists me [] e = tt
each_sent first lists me (s ∷ sends) e = (e.0, each_sent first lists me sends e.1)

each_plain : (first : List ℕ) (lists : ℕ → List Entry) (sends : List (ℕ × Msg)) → ArePlain sends → Each (λ s. IsTold first lists s.1.conf s.1.body) sends
each_plain first lists [] e = tt
each_plain first lists (s ∷ sends) e = (plain_told first lists s.1.conf s.1.body e.0, each_plain first lists sends e.1)

each_asked : (first : List ℕ) (lists : ℕ → List Entry) (sends : List (ℕ × Msg)) → Each IsAsked sends → Each (λ s. IsTold first lists s.1.conf s.1.body) sends
each_asked first lists [] e = tt
each_asked first lists (s ∷ sends) e = (ask_told first lists s.1.conf s.1.body e.0, each_asked first lists sends e.1)

pub each_on : {A : Type 0} (P Q : A → Type 0) (xs : List A) → ((x : A) → P x → Q x) → Each P xs → Each Q xs
each_on P Q [] f e = tt
each_on P Q (x ∷ xs) f e = (f x e.0, each_on P Q xs f e.1)

-- a message of this number
pub each_get : (P : Sent → Type 0) (xs : List Sent) (i : ℕ) (m : Sent) → Each P xs → slice_get xs i ≡ Some m → P m
each_get P [] i m e h = absurd (none_some m h)
  where
    none_some : (m : Sent) → None ≡ Some m → ⊥
    none_some m h = cc
each_get P (x ∷ xs) zero m e h = subst P (some_same x m h) e.0
  where
    some_same : (x m : Sent) → Some x ≡ Some m → x ≡ m
    some_same x m h = cc
each_get P (x ∷ xs) (suc i) m e h = each_get P xs i m e.1 h

module _ (first : List ℕ) (lists : ℕ → List Entry) (ends : (c : ℕ) → NoneAfterStop (lists c)) (read : AllRead lists) where
  abbrev Told : List (ℕ × Msg) → Type 0
  Told sends = Each (λ s. IsTold first lists s.1.conf s.1.body) sends

  -- ---- a node's step

  says_told : (d : Durable) → Stands first lists d → CanShow first lists d → (x : Input) (sends : List (ℕ × Msg)) → Says d x sends → Told sends
  says_told d s can (input.Deliver q m) [] k = tt
  says_told d s can (input.Deliver q m) (y ∷ sends) k = (by k.0, says_told d s can (input.Deliver q m) sends k.1)
    where
      by : IsAnswer d q m y → IsTold first lists (y.1).conf (y.1).body
      by (inl p) = plain_told first lists (y.1).conf (y.1).body p
      by (inr (inl c)) = subst (IsTold first lists (y.1).conf) (sym c.says) tt
      by (inr (inr i)) = one_among (λ z. IsTold first lists (z.1).conf (z.1).body) (watch_answers d q m.conf m.body) (answers_told first lists d s can q m.conf m.body) y i
  says_told d s can input.Tick sends k = each_plain first lists sends k
  says_told d s can (input.Commands cs) sends k = each_plain first lists sends k
  says_told d s can (input.Stop members) sends k = each_plain first lists sends k
  says_told d s can input.TrimNow sends k = each_plain first lists sends k
  says_told d s can (input.Read r) sends k = each_plain first lists sends k
  says_told d s can (input.Up q) sends k = each_plain first lists sends k
  says_told d s can (input.Down q) sends k = each_plain first lists sends k

  -- what is asked for reads is to no observer
  asks_told : (me : ℕ) (s : State) (x : Input) → Told (asking_by me s x).sends
  asks_told me s (input.Read r) = of_read (leading_at s)
    where
      all_told : (conf : ℕ) (qs : List ℕ) (n : Ballot) (number : ℕ) → Told (to_each conf qs (body.Confirm n number))
      all_told conf [] n number = tt
      all_told conf (q ∷ qs) n number = (tt, all_told conf qs n number)

      of_read : (o : Option (StoredPart × Leading)) → Told (read_asked me o s.reads r).sends
      of_read None = tt
      of_read (Some (p, l)) =
          either (λ (a : Asking). Told a.sends) (eqb (suc (reads_at me p s.reads).count) positions_end) _ (asks_members me p l.ballot (reads_at me p s.reads) r)
          tt (all_told p.conf (others me p.members) l.ballot (suc (reads_at me p s.reads).count))
  asks_told me s (input.Deliver q m) = tt
  asks_told me s input.Tick = tt
  asks_told me s (input.Commands cs) = tt
  asks_told me s (input.Stop members) = tt
  asks_told me s input.TrimNow = tt
  asks_told me s (input.Up q) = tt
  asks_told me s (input.Down q) = tt

  step_told : (me : ℕ) (s : State) → Stands first lists s.durable → CanShow first lists s.durable → (x : Input) → Told (step_plan me s x).sends
  step_told me s stands can x =
      Each-append (λ z. IsTold first lists z.1.conf z.1.body) (asking_by me s x).sends (table_plan me s x).sends
      (asks_told me s x) (says_told s.durable stands can x (table_plan me s x).sends (table_says me s x))

  -- what a happening leaves: members stay, messages that are told are true
  pub record Adds (w v : World) : Type 0 where
    pub members : v.members ≡ w.members
    pub sends : List Sent
    pub told : Each (SentTold first lists) sends
    pub messages : v.messages ≡ w.messages ++ sends

  pub adds_none : (w v : World) → v.members ≡ w.members → v.messages ≡ w.messages → Adds w v
  adds_none w v m e = record { members = m; sends = []; told = tt; messages = e ∙ sym (append-nil w.messages) }

  module _ (w : World) (h : Happening) (n : Node) (shows : NodeShows first lists n) where
    fate_adds : (f : Fate) (at : ℕ) (x : Input) → Adds w (world_by_fate_as Votes f at w n x)
    fate_adds Done at x = record {
      members = refl;
      sends = sent_by n.pid (step_plan n.pid n.state x).sends;
      told = each_sent first lists n.pid (step_plan n.pid n.state x).sends (step_told n.pid n.state shows.stands shows.can x);
      messages = refl;
    }
    fate_adds Stopped at x = adds_none w _ refl refl
    fate_adds (Faulted count) at x = adds_none w _ refl refl

    again_told : (d : Durable) → Each (SentTold first lists) (sent_by n.pid (sends_after_restart n.pid d))
    again_told d = each_sent first lists n.pid (sends_after_restart n.pid d) (each_plain first lists (sends_after_restart n.pid d) (opening_plain n.pid d))

    opening_adds : (f : Fate) (d : Durable) → Adds w (world_opening_as Votes f w n d)
    opening_adds Done d = record { members = refl; sends = sent_by n.pid (sends_after_restart n.pid d); told = again_told d; messages = refl }
    opening_adds Stopped d = adds_none w _ refl refl
    opening_adds (Faulted count) d = adds_none w _ refl refl

    reopening_adds : (f : Fate) (after d : Durable) → Adds w (world_reopening_as Votes f after w n d)
    reopening_adds Done after d = record { members = refl; sends = sent_by n.pid (sends_after_restart n.pid d); told = again_told d; messages = refl }
    reopening_adds Stopped after d = adds_none w _ refl refl
    reopening_adds (Faulted count) after d = adds_none w _ refl refl

    pub node_adds : (s : NodeStatus) (d : Doing) → Adds w (world_by_status_as Votes s d h w n)
    node_adds Up (Steps x) = fate_adds h.fate h.event.line x
    node_adds Up Stops = adds_none w _ refl refl
    node_adds Up Opens = adds_none w _ refl refl
    node_adds Up (Tells t) = adds_none w _ refl refl
    node_adds (Down after) (Steps x) = adds_none w _ refl refl
    node_adds (Down after) Stops = adds_none w _ refl refl
    node_adds (Down after) Opens = opening_adds h.fate (cond h.finds_after after n.state.durable)
    node_adds (Down after) (Tells t) = adds_none w _ refl refl
    node_adds (Failed count after) (Steps x) = adds_none w _ refl refl
    node_adds (Failed count after) Stops = adds_none w _ refl refl
    node_adds (Failed count after) Opens = reopening_adds h.fate after (cond h.finds_after after n.state.durable)
    node_adds (Failed count after) (Tells t) = adds_none w _ refl refl

  -- the observers stay as they are
  pub node_keeps : (w : World) (h : Happening) (n : Node) (s : NodeStatus) (d : Doing) → (world_by_status_as Votes s d h w n).observers ≡ w.observers
  node_keeps w h n Up (Steps x) = by h.fate
    where
      by : (f : Fate) → (world_by_fate_as Votes f h.event.line w n x).observers ≡ w.observers
      by Done = refl
      by Stopped = refl
      by (Faulted count) = refl
  node_keeps w h n Up Stops = refl
  node_keeps w h n Up Opens = refl
  node_keeps w h n Up (Tells t) = refl
  node_keeps w h n (Down after) (Steps x) = refl
  node_keeps w h n (Down after) Stops = refl
  node_keeps w h n (Down after) Opens = by h.fate (cond h.finds_after after n.state.durable)
    where
      by : (f : Fate) (d : Durable) → (world_opening_as Votes f w n d).observers ≡ w.observers
      by Done d = refl
      by Stopped d = refl
      by (Faulted count) d = refl
  node_keeps w h n (Down after) (Tells t) = refl
  node_keeps w h n (Failed count after) (Steps x) = refl
  node_keeps w h n (Failed count after) Stops = refl
  node_keeps w h n (Failed count after) Opens = by h.fate (cond h.finds_after after n.state.durable)
    where
      by : (f : Fate) (d : Durable) → (world_reopening_as Votes f after w n d).observers ≡ w.observers
      by Done d = refl
      by Stopped d = refl
      by (Faulted count) d = refl
  node_keeps w h n (Failed count after) (Tells t) = refl

  -- ---- at an observer

  module _ (w : World) (h : Happening) (n : Node) where
    asked_adds : (f : Fate) (at : ℕ) (x : Input) → Adds w (world_by_fate_as Observes f at w n x)
    asked_adds Done at x = record {
      members = refl;
      sends = sent_by n.pid (Rattle.op_protocol.specs.Watching.watch_plan n.pid n.state x).sends;
      told = each_sent first lists n.pid (Rattle.op_protocol.specs.Watching.watch_plan n.pid n.state x).sends (each_asked first lists (Rattle.op_protocol.specs.Watching.watch_plan n.pid n.state x).sends (watch_asks n.pid n.state x));
      messages = refl;
    }
    asked_adds Stopped at x = adds_none w _ refl refl
    asked_adds (Faulted count) at x = adds_none w _ refl refl

    pub observer_adds : (s : NodeStatus) (d : Doing) → Adds w (world_by_status_as Observes s d h w n)
    observer_adds Up (Steps x) = asked_adds h.fate h.event.line x
    observer_adds Up Stops = adds_none w _ refl refl
    observer_adds Up Opens = adds_none w _ refl refl
    observer_adds Up (Tells t) = adds_none w _ refl refl
    observer_adds (Down after) (Steps x) = adds_none w _ refl refl
    observer_adds (Down after) Stops = adds_none w _ refl refl
    observer_adds (Down after) Opens = by h.fate (cond h.finds_after after n.state.durable)
      where
        by : (f : Fate) (d : Durable) → Adds w (world_opening_as Observes f w n d)
        by Done d = adds_none w _ refl (append-nil w.messages)
        by Stopped d = adds_none w _ refl refl
        by (Faulted count) d = adds_none w _ refl refl
    observer_adds (Down after) (Tells t) = adds_none w _ refl refl
    observer_adds (Failed count after) (Steps x) = adds_none w _ refl refl
    observer_adds (Failed count after) Stops = adds_none w _ refl refl
    observer_adds (Failed count after) Opens = by h.fate (cond h.finds_after after n.state.durable)
      where
        by : (f : Fate) (d : Durable) → Adds w (world_reopening_as Observes f after w n d)
        by Done d = adds_none w _ refl (append-nil w.messages)
        by Stopped d = adds_none w _ refl refl
        by (Faulted count) d = adds_none w _ refl refl
    observer_adds (Failed count after) (Tells t) = adds_none w _ refl refl
