-- The plan of a step in a configuration is in range: what it stores has its bases, and a part that decides its stop-sign is
-- closed.
use Rattle.std.proofs.Common.{◌≡◌, ◌≤◌, ◌<◌, ◌+◌, ◌-◌, ◌⊎◌, inl, inr, ℕ, Bool, true, false, nat_eq, is_some, List, [], ◌∷◌, ◌++◌, length, take, map, Option, Some, None, refl, sym, ap, subst, ◌∙◌, arith, length-append, All}
use Rattle.std.specs.Prelude.{IfSome}
use Rattle.std.specs.Set.{is_member}
use Rattle.std.proofs.lemmas.Bool.{cond_both, cond-false, cases_lt}
use Rattle.std.proofs.lemmas.List.{length-map, length-take, length-take-le, drop_all}
use Rattle.std.proofs.lemmas.List.Elements.{All-nil, All-cons, All-append, All-take, All-drop}
use Rattle.op_types.specs.Limits.{last_conf}
use Rattle.op_types.specs.Ranges.{IsMember, EntryInRange}
use Rattle.op_types.specs.Stops.{stop_at_end}
use Rattle.op_types.specs.Changes.{IsEnded, closed_by, decided_tail, part_with, part_after_closed, new_part, durable_after, Applies}
use Rattle.op_types.specs.declared.log.Entry.{Entry}
use Rattle.op_types.specs.declared.answers.Cause.TheVariants as cause
use Rattle.op_types.specs.declared.answers.Outcome.{Outcome}
use Rattle.op_types.specs.declared.changes.Change.{Change}
use Rattle.op_types.specs.declared.changes.Change.TheVariants as change
use Rattle.op_types.specs.declared.durable.Part.{Part}
use Rattle.op_types.specs.declared.durable.Closed.{Closed}
use Rattle.op_types.specs.declared.durable.Joining.{Joining}
use Rattle.op_types.specs.declared.durable.Durable.{Durable}
use Rattle.op_types.specs.declared.messages.Msg.{Msg}
use Rattle.op_spec.specs.Service.{Service, base_bytes}
use Rattle.op_kv.specs.Bases.{IsBase}
use Rattle.op_record.specs.Ranges.{PartInRange, ChangeInRange}
use Rattle.op_protocol.specs.Bases.{service_in, service_at}
use Rattle.op_protocol.specs.State.{State, Volatile, Waiting, PartStep, Planned}
use Rattle.op_protocol.specs.Starting.{first_volatile}
use Rattle.op_protocol.specs.Parts.{part_after, decided_since}
use Rattle.op_protocol.specs.Configurations.{news_of, giving_up, closing_part}
use Rattle.op_protocol.specs.Leader.{given_up_by}
use Rattle.op_protocol.specs.Serving.{serving, dropping}
use Rattle.op_protocol.specs.Rows.{based, planned, plan_of}
use Rattle.op_protocol.proofs.Based.{with_base}
use Rattle.op_protocol.proofs.Plans.{after_both}
use Rattle.op_bounds.specs.Messages.{AreIds, MembersOf, OutcomeInRange, SendInRange, ReplyInRange}
use Rattle.op_bounds.specs.States.{PartOf, DurableOf, IsNamed, VolatileInRange, VolatileEndsNowhere}
use Rattle.op_bounds.specs.Laws.{PlanInRange}
use Rattle.op_bounds.proofs.ReadBases.{ServiceIn, base_of, service_in_range}
use Rattle.op_bounds.proofs.Entries.{EntriesIn, entries_range, entries_names, first_entries, drop_ends, ended_some, ended_stops, ended_names}
use Rattle.op_bounds.proofs.Batches.{PartIn, Lands, part_in, part_in_range, part_of, after_batch, range_batch, lands, applies_both}
use Rattle.op_bounds.proofs.Effects.{given_up}
use Rattle.op_bounds.proofs.TickRows.{role_of, PartStepInRange}
use Rattle.op_bounds.proofs.Serving.{ServedIn, all_after_in, serving_in, dropping_in}
use Rattle.op_bounds.proofs.JoinChanges.{stored, JoinsIn, joining_batch}
use Rattle.op_bounds.proofs.JoinSends.{ClosedIn, news_said}
use Rattle.op_bounds.proofs.Beginning.{first_stops, first_volatile_in, new_part_range, new_part_of}

-- the plan is in range, and the node stays a member of its part's configuration and of the one that it joins
pub record StepIn (Known : ℕ → Type 0) (me : ℕ) (s : State) (p : Planned) : Type 0 where
  pub range : PlanInRange Known s p
  pub named : IsNamed me s.durable → IsNamed me (durable_after s.durable p.batch)

-- ---- parts

-- a part keeps its configuration
pub conf_after : (p : Part) (batch : List Change) → (part_after p batch).conf ≡ p.conf
conf_after p [] = refl
conf_after p (change.Promise n ∷ batch) = conf_after (part_with p (change.Promise n)) batch
conf_after p (change.Accept n ∷ batch) = conf_after (part_with p (change.Accept n)) batch
conf_after p (change.CutTo n ∷ batch) = conf_after (part_with p (change.CutTo n)) batch
conf_after p (change.Append es ∷ batch) = conf_after (part_with p (change.Append es)) batch
conf_after p (change.Decided x ∷ batch) = conf_after (part_with p (change.Decided x)) batch
conf_after p (change.Trim x base ∷ batch) = conf_after (part_with p (change.Trim x base)) batch
conf_after p (change.Close named base ∷ batch) = conf_after p batch
conf_after p (change.JoinBegin conf members olds len ∷ batch) = conf_after p batch
conf_after p (change.JoinDonor q trimmed ∷ batch) = conf_after p batch
conf_after p (change.JoinBase at base ∷ batch) = conf_after p batch
conf_after p (change.JoinPart at es ∷ batch) = conf_after p batch
conf_after p (change.JoinDone base ∷ batch) = conf_after p batch
conf_after p (change.Rebase c members at base ∷ batch) = conf_after p batch

-- and its members
pub members_after : (p : Part) (batch : List Change) → (part_after p batch).members ≡ p.members
members_after p [] = refl
members_after p (change.Promise n ∷ batch) = members_after (part_with p (change.Promise n)) batch
members_after p (change.Accept n ∷ batch) = members_after (part_with p (change.Accept n)) batch
members_after p (change.CutTo n ∷ batch) = members_after (part_with p (change.CutTo n)) batch
members_after p (change.Append es ∷ batch) = members_after (part_with p (change.Append es)) batch
members_after p (change.Decided x ∷ batch) = members_after (part_with p (change.Decided x)) batch
members_after p (change.Trim x base ∷ batch) = members_after (part_with p (change.Trim x base)) batch
members_after p (change.Close named base ∷ batch) = members_after p batch
members_after p (change.JoinBegin conf members olds len ∷ batch) = members_after p batch
members_after p (change.JoinDonor q trimmed ∷ batch) = members_after p batch
members_after p (change.JoinBase at base ∷ batch) = members_after p batch
members_after p (change.JoinPart at es ∷ batch) = members_after p batch
members_after p (change.JoinDone base ∷ batch) = members_after p batch
members_after p (change.Rebase c members at base ∷ batch) = members_after p batch

rebased_in : (Known : ℕ → Type 0) (p : Part) (x : List ℕ) → PartIn Known p → PartIn Known (with_base p x)
rebased_in Known p x k =
    let r = k.range in
    record {
      range = record { conf = r.conf; members = r.members; promised = r.promised; accepted = r.accepted; len = r.len; decided = r.decided; room = r.room };
      members = k.members;
      promised = k.promised;
      accepted = k.accepted;
      entries = k.entries;
    }

-- the services at a part's positions have bases
pub part_bases : (Known : ℕ → Type 0) (p : Part) → PartIn Known p → (x : ℕ) → ServiceIn (service_at p x)
part_bases Known p k x =
    all_after_in Known (service_in p.base) (take (x - p.trimmed) p.tail.items)
    (entries_range Known (take (x - p.trimmed) p.tail.items) (first_entries Known p.conf (x - p.trimmed) p.tail.items k.entries).each) (service_in_range p.base)

none_since : (p : Part) → decided_since p p ≡ []
none_since p = drop_all (p.decided - p.trimmed) (take (p.decided - p.trimmed) p.tail.items) (omega (arith, length-take (p.decided - p.trimmed) p.tail.items))

-- ---- a part that has decided its stop-sign

module _ (Known : ℕ → Type 0) (p : Part) (k : PartIn Known p) (over : is_some (stop_at_end (decided_tail p)) ≡ true) where
  tail_in : EntriesIn Known p.conf (decided_tail p)
  tail_in = first_entries Known p.conf (p.decided - p.trimmed) p.tail.items k.entries

  last_below : p.conf < last_conf
  last_below = by (cases_lt p.conf last_conf)
    where
      by : (p.conf < last_conf) ⊎ (last_conf ≤ p.conf) → p.conf < last_conf
      by (inl h) = h
      by (inr h) = absurd (ended_stops (decided_tail p) over (tail_in.ends (omega (arith, h, k.range.conf))))

  pub is_ended : IsEnded p
  is_ended = (over, last_below)

  pub next_of : MembersOf Known (closed_by p).next
  next_of = ended_names Known (decided_tail p) tail_in.each over

  pub closed_in : IsBase p.base → ClosedIn Known (closed_by p)
  closed_in base =
      let size : length (decided_tail p) ≡ p.decided - p.trimmed = length-take-le (p.decided - p.trimmed) p.tail.items (omega (arith, k.range.decided)) in
      record {
        range = record {
          conf = (k.range.conf.0, last_below);
          olds = k.range.members;
          next = next_of.range;
          base = base;
          len = (omega (arith, ended_some (decided_tail p) over), omega (arith, size, k.range.decided, k.range.len));
          entries = entries_range Known (decided_tail p) tail_in.each;
        };
        of = record { olds = k.members; next = next_of.known; entries = entries_names Known (decided_tail p) tail_in.each };
      }

-- ---- the plan of a step that does this at a part

module _ (Known : ℕ → Type 0) (ids : AreIds Known) (me : ℕ) (one : Known me) (p : Part) (l : Option Closed) (j : Option Joining) (v : Volatile) (t : Service) (w : Waiting)
    (d : DurableOf Known (stored (Some p) l j)) (in_service : ServiceIn t) (others : Waiting) (x : PartStep) (fit : PartStepInRange Known p x) where
  abbrev here : State
  here = record { durable = stored (Some p) l j; volatile = v; service = t; waiting = w; reads = None }

  was : PartIn Known p
  was = part_in Known p d.range.part d.part

  has : (n : ℕ) → IsBase (base_bytes (service_at p n))
  has n = base_of (service_at p n) (part_bases Known p was n)

  -- the part after the step, but for its base
  abbrev bare : Part
  bare = part_after p x.batch

  bare_in : PartIn Known bare
  bare_in = after_batch Known p x.batch was fit.batch

  -- and with it
  abbrev left : Part
  left = part_after p (map (based p) x.batch)

  landed : Lands (stored None l j) p p p.base x.batch
  landed = lands Known (stored None l j) p p p.base x.batch has d.range.part.base fit.batch

  left_in : PartIn Known left
  left_in = subst (PartIn Known) (sym landed.left.is) (rebased_in Known bare landed.left.bytes bare_in)

  left_range : PartInRange left
  left_range = subst PartInRange (sym landed.left.is) (part_in_range Known bare landed.left.bytes bare_in landed.left.base)

  left_of : PartOf Known left
  left_of = subst (PartOf Known) (sym landed.left.is) (part_of Known bare landed.left.bytes bare_in)

  left_conf : left.conf ≡ p.conf
  left_conf = conf_after p (map (based p) x.batch)

  decided_in : All EntryInRange (decided_since p bare)
  decided_in =
      All-drop EntryInRange (p.decided - bare.trimmed) (take (bare.decided - bare.trimmed) bare.tail.items)
      (All-take EntryInRange (bare.decided - bare.trimmed) bare.tail.items (entries_range Known bare.tail.items bare_in.entries.each))

  served : ServedIn Known (serving t (dropping others x.replies).waiting (decided_since p bare))
  served = serving_in Known t (dropping others x.replies).waiting (decided_since p bare) in_service decided_in

  abbrev plan : Planned
  plan = planned here others x

  told : All (ReplyInRange Known) plan.replies
  told =
      All-append (ReplyInRange Known) (serving t (dropping others x.replies).waiting (decided_since p bare)).replies (dropping others x.replies).replies served.replies
      (dropping_in Known others x.replies fit.replies)

  ranged : All ChangeInRange (map (based p) x.batch)
  ranged = range_batch Known p p x.batch has was fit.batch

  few : length (map (based p) x.batch) ≤ 6
  few = omega (arith, length-map x.batch (λ (c : Change). based p c), fit.few)

  stays : PlanInRange Known here plan
  stays =
      record {
        applies = landed.applies;
        batch = record { few = omega (arith, few); each = ranged };
        sends = fit.sends;
        replies = told;
        read_replies = All-nil (ReplyInRange Known);
        outcome = fit.outcome;
        after = record {
          durable = subst (DurableOf Known) (sym landed.stored)
              (record { range = record { part = left_range; closed = d.range.closed; joining = d.range.joining }; part = left_of; closed = d.closed; joining = d.joining });
          volatile = fit.volatile.range;
          stops = subst (λ (e : Durable). IfSome e.part (λ q. VolatileEndsNowhere q.conf x.volatile)) (sym landed.stored)
              (subst (λ (c : ℕ). VolatileEndsNowhere c x.volatile) (sym left_conf) fit.volatile.stops);
          service = served.service.range;
          order = served.service.order;
          reads = tt;
        };
      }

  stays_named : IsNamed me (stored (Some p) l j) → IsNamed me (durable_after (stored (Some p) l j) (map (based p) x.batch))
  stays_named n =
      subst (IsNamed me) (sym landed.stored) (record { part = subst (λ (qs : List ℕ). IsMember qs me) (sym (members_after p (map (based p) x.batch))) n.part; joining = n.joining })

  -- the part is closed
  module _ (over : is_some (stop_at_end (decided_since p left)) ≡ true) where
    ended : is_some (stop_at_end (decided_tail left)) ≡ true
    ended = drop_ends (p.decided - left.trimmed) (decided_tail left) over

    abbrev list : Closed
    list = closed_by left

    list_in : ClosedIn Known list
    list_in = closed_in Known left left_in ended left_range.base

    abbrev named : Bool
    named = is_member nat_eq list.next me

    abbrev base : List ℕ
    base = base_bytes plan.service

    abbrev close : Change
    close = change.Close named base

    is_base : IsBase base
    is_base = base_of plan.service served.service

    abbrev next : Option Part
    next = part_after_closed list named base

    after : durable_after (stored (Some p) l j) (map (based p) x.batch ++ close ∷ []) ≡ stored next (Some list) j
    after = after_both (stored (Some p) l j) (map (based p) x.batch) (close ∷ []) ∙ ap (λ (e : Durable). durable_after e (close ∷ [])) landed.stored

    new_members_in : MembersOf Known list.next
    new_members_in = next_of Known left left_in ended

    next_range : IfSome next PartInRange
    next_range =
        cond_both named (Some (new_part (list.conf + 1) list.next base)) None (λ (o : Option Part). IfSome o PartInRange)
        (λ _. new_part_range Known (list.conf + 1) list.next base new_members_in (omega arith, omega (arith, list_in.range.conf)) is_base) (λ _. tt)

    next_known : IfSome next (PartOf Known)
    next_known =
        cond_both named (Some (new_part (list.conf + 1) list.next base)) None (λ (o : Option Part). IfSome o (PartOf Known))
        (λ _. new_part_of Known (list.conf + 1) list.next base new_members_in) (λ _. tt)

    next_idle : IfSome next (λ q. VolatileEndsNowhere q.conf (first_volatile me))
    next_idle =
        cond_both named (Some (new_part (list.conf + 1) list.next base)) None (λ (o : Option Part). IfSome o (λ q. VolatileEndsNowhere q.conf (first_volatile me)))
        (λ _. first_stops (list.conf + 1) me) (λ _. tt)

    next_named : IfSome next (λ q. IsMember q.members me)
    next_named =
        cond_both named (Some (new_part (list.conf + 1) list.next base)) None (λ (o : Option Part). IfSome o (λ q. IsMember q.members me)) (λ h. h) (λ _. tt)

    closes_named : IsNamed me (stored (Some p) l j) → IsNamed me (durable_after (stored (Some p) l j) (map (based p) x.batch ++ close ∷ []))
    closes_named n = subst (IsNamed me) (sym after) (record { part = next_named; joining = n.joining })

    closes : PlanInRange Known here (closing_part me left plan)
    closes =
        record {
          applies = applies_both (stored (Some p) l j) (map (based p) x.batch) (close ∷ []) landed.applies
              (subst (λ (e : Durable). Applies e (close ∷ [])) (sym landed.stored) (is_ended Known left left_in ended, tt));
          batch = record {
            few = omega (arith, few, length-append (map (based p) x.batch) (close ∷ []));
            each = All-append ChangeInRange (map (based p) x.batch) (close ∷ []) ranged (All-cons ChangeInRange close [] is_base (All-nil ChangeInRange));
          };
          sends = All-append (SendInRange Known) x.sends (news_of list) fit.sends (news_said Known list list_in);
          replies = All-append (ReplyInRange Known) plan.replies (giving_up plan.waiting x.volatile.role (cause.Stop (left.decided - 1))).replies told
              (dropping_in Known plan.waiting (given_up_by x.volatile.role (cause.Stop (left.decided - 1)))
              (given_up Known p.conf x.volatile.role (cause.Stop (left.decided - 1)) (role_of Known p.conf x.volatile fit.volatile) (omega (arith, left_in.range.decided, left_in.range.len))));
          read_replies = All-nil (ReplyInRange Known);
          outcome = fit.outcome;
          after = record {
            durable = subst (DurableOf Known) (sym after)
                (record { range = record { part = next_range; closed = list_in.range; joining = d.range.joining }; part = next_known; closed = list_in.of; joining = d.joining });
            volatile = first_volatile_in Known ids me one;
            stops = subst (λ (e : Durable). IfSome e.part (λ q. VolatileEndsNowhere q.conf (first_volatile me))) (sym after) next_idle;
            service = served.service.range;
            order = served.service.order;
            reads = tt;
          };
        }

  pub part_plan : StepIn Known me here (plan_of me here others x)
  part_plan =
      cond_both (is_some (stop_at_end (decided_since p left))) (closing_part me left plan) plan (StepIn Known me here)
      (λ h. record { range = closes h; named = closes_named h }) (λ _. record { range = stays; named = stays_named })

-- ---- the plan of a step that changes nothing of a part

-- it stores this, keeps this in memory, and says this
abbrev pub quiet_step : Volatile → List Change → List (ℕ × Msg) → Option Outcome → PartStep
quiet_step v batch sends outcome = record { batch = batch; volatile = v; sends = sends; replies = []; outcome = outcome }

module _ (Known : ℕ → Type 0) (me : ℕ) (l : Option Closed) (j : Option Joining) (old v : Volatile) (t : Service) (w others : Waiting) (batch : List Change) (sends : List (ℕ × Msg)) (outcome : Option Outcome) where
  abbrev there : Option Part → State
  there o = record { durable = stored o l j; volatile = old; service = t; waiting = w; reads = None }

  abbrev quiet : Planned
  quiet = record { batch = batch; volatile = v; service = t; waiting = others; reads = None; sends = sends; replies = []; read_replies = []; outcome = outcome }

  pub quiet_is : (o : Option Part) → ((p : Part) → o ≡ Some p → (map (based p) batch ≡ batch) × (part_after p batch ≡ p)) → plan_of me (there o) others (quiet_step v batch sends outcome) ≡ quiet
  quiet_is None k = refl
  quiet_is (Some p) k =
      let e = k p refl in
      let step : PartStep = quiet_step v batch sends outcome in
      let none : decided_since p (part_after p batch) ≡ [] = ap (λ (q : Part). decided_since p q) e.1 ∙ none_since p in
      let y : Planned = planned (there (Some p)) others step in
      let same : y ≡ quiet = ap (λ (b : List Change). let s = serving t others (decided_since p (part_after p batch)) in let z : Planned = record { batch = b; volatile = v; service = s.service; waiting = s.waiting; reads = None; sends = sends; replies = s.replies ++ []; read_replies = []; outcome = outcome } in z) e.0
      ∙ ap (λ (es : List Entry). let s = serving t others es in let z : Planned = record { batch = batch; volatile = v; service = s.service; waiting = s.waiting; reads = None; sends = sends; replies = s.replies ++ []; read_replies = []; outcome = outcome } in z) none in
      let goes : is_some (stop_at_end (decided_since p (part_after p (map (based p) batch)))) ≡ false =
      ap (λ (b : List Change). is_some (stop_at_end (decided_since p (part_after p b)))) e.0 ∙ ap (λ (es : List Entry). is_some (stop_at_end es)) none in
      cond-false (is_some (stop_at_end (decided_since p (part_after p (map (based p) batch))))) (closing_part me (part_after p (map (based p) batch)) y) y goes ∙ same

  pub quiet_plan : (o : Option Part) → JoinsIn Known me (stored o l j) batch → VolatileInRange Known v → IfSome o (λ p. VolatileEndsNowhere p.conf v) → ServiceIn t → All (SendInRange Known) sends → IfSome outcome (OutcomeInRange Known)
      → StepIn Known me (there o) (plan_of me (there o) others (quiet_step v batch sends outcome))
  quiet_plan o k in_volatile stops in_service said told =
      subst (StepIn Known me (there o)) (sym (quiet_is o (λ p e. joining_batch p p batch k.kinds)))
      (record {
        named = k.named;
        range = record {
          applies = k.applies;
          batch = record { few = omega (arith, k.few); each = k.range };
          sends = said;
          replies = All-nil (ReplyInRange Known);
          read_replies = All-nil (ReplyInRange Known);
          outcome = told;
          after = record {
            durable = k.after;
            volatile = in_volatile;
            stops = subst (λ (p : Option Part). IfSome p (λ q. VolatileEndsNowhere q.conf v)) (sym k.part) stops;
            service = in_service.range;
            order = in_service.order;
            reads = tt;
          };
        };
      })
