-- What a node takes of a closed list, and its start in the new configuration once it has all, are in range.
use Rattle.std.proofs.Common.{◌≡◌, ◌≤◌, ◌+◌, ◌-◌, ℕ, true, not, leb, eqb, ◌&&◌, is_some, List, [], ◌∷◌, ◌++◌, length, Option, Some, None, refl, sym, ap, subst, ◌∙◌, arith, length-append, All}
use Rattle.std.specs.Prelude.{IfSome}
use Rattle.std.proofs.lemmas.Bool.{cond_both, leb-true, and_parts, true≢false}
use Rattle.std.proofs.lemmas.List.Elements.{All-nil, All-cons, All-append, All-filter}
use Rattle.op_types.specs.Ranges.{IsMember}
use Rattle.op_types.specs.Changes.{new_part, closed_joined, durable_joined, durable_joining, durable_after, JoiningOptionApplies}
use Rattle.op_types.specs.Joinings.{Base, held_run, covered, cover_of}
use Rattle.op_types.specs.Stages.{Pieces, with_piece, whole_bytes}
use Rattle.op_types.specs.Roles as role
use Rattle.op_types.specs.Roles.{Role}
use Rattle.op_types.specs.declared.log.Entry.{Entry}
use Rattle.op_types.specs.declared.answers.Cause.{Cause}
use Rattle.op_types.specs.declared.answers.Cause.TheVariants as cause
use Rattle.op_types.specs.declared.changes.Change.{Change}
use Rattle.op_types.specs.declared.changes.Change.TheVariants as change
use Rattle.op_types.specs.declared.durable.Part.{Part}
use Rattle.op_types.specs.declared.durable.Closed.{Closed}
use Rattle.op_types.specs.declared.durable.Joining.{Joining}
use Rattle.op_types.specs.declared.durable.Durable.{Durable}
use Rattle.op_types.specs.declared.messages.Body.{Body}
use Rattle.op_types.specs.declared.messages.Body.TheVariants as body
use Rattle.op_spec.specs.Service.{Service, base_bytes}
use Rattle.op_kv.specs.Bases.{IsBase}
use Rattle.op_record.specs.Ranges.{JoiningInRange, ChangeInRange}
use Rattle.op_protocol.specs.Bases.{is_base, service_in}
use Rattle.op_protocol.specs.State.{State, Volatile, Waiting}
use Rattle.op_protocol.specs.Starting.{first_volatile}
use Rattle.op_protocol.specs.Parts.{others}
use Rattle.op_protocol.specs.Leader.{given_up_by}
use Rattle.op_protocol.specs.Configurations.{giving_up}
use Rattle.op_protocol.specs.Joining.{new_entries, are_some, takes_base, takes_entries, takes_piece, base_brought, base_once, brought_to, stores_beside, joined_service, only_stores, goes_on, goes_on_if, holding, holds_more}
use Rattle.op_protocol.proofs.Plans.{after_both}
use Rattle.op_bounds.specs.Messages.{AreIds, MembersOf, CauseInRange, BodyInRange, SendInRange, ReplyInRange}
use Rattle.op_bounds.specs.States.{JoiningOf, DurableOf, IsNamed, RoleInRange, RoleEndsNowhere, VolatileInRange, VolatileEndsNowhere}
use Rattle.op_bounds.specs.Laws.{PlanInRange}
use Rattle.op_bounds.proofs.ReadBases.{ServiceIn, base_of, base_if_read, service_in_range}
use Rattle.op_bounds.proofs.Entries.{entries_range, entries_names}
use Rattle.op_bounds.proofs.Batches.{applies_both}
use Rattle.op_bounds.proofs.Effects.{role_in, given_up, send_each}
use Rattle.op_bounds.proofs.Serving.{all_after_in, dropping_in}
use Rattle.op_bounds.proofs.Placed.{RunIn, run_in, held_entries}
use Rattle.op_bounds.proofs.JoinChanges.{stored, JoiningIn, JoinsIn, base_in, entries_in, nothing_joined}
use Rattle.op_bounds.proofs.TickRows.{pieces_now, pieces_stops}
use Rattle.op_bounds.proofs.Plans.{StepIn}
use Rattle.op_bounds.proofs.Beginning.{first_stops, first_volatile_in, new_part_range, new_part_of}

-- ---- a role that is given up

-- what holds in the last configuration alone holds of no other
free_role : (r : Role) → RoleEndsNowhere 0 r
free_role role.Idle = tt
free_role (role.Preparing r) =
    record {
      promises = λ i d within last. absurd (omega (arith, last));
      stages = λ i d within j e inside last. absurd (omega (arith, last));
      buffer = λ i d within last. absurd (omega (arith, last));
    }
free_role (role.Leading l) = tt

pub giving_up_in : (Known : ℕ → Type 0) (w : Waiting) (r : Role) (why : Cause) → RoleInRange Known r → CauseInRange Known why → All (ReplyInRange Known) (giving_up w r why).replies
giving_up_in Known w r why in_role in_cause = dropping_in Known w (given_up_by r why) (given_up Known 0 r why (role_in Known 0 r in_role (free_role r)) in_cause)

-- ---- what is taken

module _ (Known : ℕ → Type 0) (ids : AreIds Known) (me : ℕ) (o : Option Part) (l : Option Closed) where
  base_free : (b : Option Base) → not (is_some b) ≡ true → b ≡ None
  base_free None h = refl
  base_free (Some b) h = absurd (true≢false (sym h))

  abbrev Brings : Joining → Option (List Change) → Type 0
  Brings j x = IfSome x (JoinsIn Known me (stored o l (Some j)))

  base_takes : (j : Joining) (c at : ℕ) (bytes : List ℕ) → DurableOf Known (stored o l (Some j)) → Brings j (base_brought j c at bytes)
  base_takes j c at bytes d =
      cond_both (takes_base j c at bytes) (Some (change.JoinBase at bytes ∷ [])) None (Brings j)
      (λ h. let a = and_parts (eqb j.conf c) (not (is_some j.base) && (leb at j.len && is_base bytes)) h in
      let b = and_parts (not (is_some j.base)) (leb at j.len && is_base bytes) a.1 in
      let e = and_parts (leb at j.len) (is_base bytes) b.1 in
      base_in Known ids me o l j at bytes d (base_free j.base b.0) (leb-true at j.len e.0) (base_if_read bytes e.1))
      (λ _. tt)

  once_takes : (j : Joining) (c at : ℕ) (w : Option (List ℕ)) → DurableOf Known (stored o l (Some j)) → Brings j (base_once j c at w)
  once_takes j c at None d = tt
  once_takes j c at (Some bytes) d = base_takes j c at bytes d

  takes_in : (j : Joining) (x : Option Pieces) (c : ℕ) (b : Body) → DurableOf Known (stored o l (Some j)) → BodyInRange Known b → Brings j (brought_to (Some j) x c b)
  takes_in j x c (body.BasePart at bytes) d fit = base_takes j c at bytes d
  takes_in j x c (body.BasePiece p) d fit =
      let w : Option (List ℕ) = whole_bytes (with_piece x p).bytes in
      cond_both (takes_piece j c p) (base_once j c p.at w) None (Brings j) (λ _. once_takes j c p.at w d) (λ _. tt)
  takes_in j x c (body.Segment at es) d fit =
      cond_both (takes_entries j c at es) (Some (new_entries j at es)) None (Brings j)
      (λ h. let a = and_parts (eqb j.conf c) (are_some es && leb (at + length es) j.len) h in
      let within = leb-true (at + length es) j.len (and_parts (are_some es) (leb (at + length es) j.len) a.1).1 in
      cond_both (is_some (held_run j.held.items at (length es))) [] (change.JoinPart at es ∷ []) (JoinsIn Known me (stored o l (Some j)))
      (λ _. nothing_joined Known ids me o l (Some j) d) (λ _. entries_in Known ids me o l j at es d within fit.1.each))
      (λ _. tt)
  takes_in j x c (body.HeartbeatRequest r) d fit = tt
  takes_in j x c (body.HeartbeatReply r z g) d fit = tt
  takes_in j x c (body.Confirm z g) d fit = tt
  takes_in j x c (body.Confirmed z g) d fit = tt
  takes_in j x c (body.Watch w) d fit = tt
  takes_in j x c (body.Prepare z na nl nd) d fit = tt
  takes_in j x c (body.Promise z fa fl fd a es) d fit = tt
  takes_in j x c (body.AcceptSync z g es) d fit = tt
  takes_in j x c (body.PromisePart z g) d fit = tt
  takes_in j x c (body.AcceptSyncPart z g) d fit = tt
  takes_in j x c (body.Accept z a es) d fit = tt
  takes_in j x c (body.Accepted z g) d fit = tt
  takes_in j x c (body.Decide z g) d fit = tt
  takes_in j x c body.PrepareReq d fit = tt
  takes_in j x c (body.Refuse z g) d fit = tt
  takes_in j x c (body.Forward g) d fit = tt
  takes_in j x c (body.Forwards g) d fit = tt
  takes_in j x c (body.TrimAsk z) d fit = tt
  takes_in j x c (body.Progress z g) d fit = tt
  takes_in j x c (body.Trim g) d fit = tt
  takes_in j x c (body.NextConf members olds len trimmed) d fit = tt
  takes_in j x c body.AskBase d fit = tt
  takes_in j x c (body.AskSegment from to) d fit = tt

  pub brought_in : (old : Option Joining) (x : Option Pieces) (c : ℕ) (b : Body) → DurableOf Known (stored o l old) → BodyInRange Known b → IfSome (brought_to old x c b) (JoinsIn Known me (stored o l old))
  brought_in None x c b d fit = tt
  brought_in (Some j) x c b d fit = takes_in j x c b d fit

-- ---- the start

module _ (Known : ℕ → Type 0) (ids : AreIds Known) (me : ℕ) (one : Known me) (o : Option Part) (l : Option Closed) (old : Option Joining) (v : Volatile) (t : Service) (w : Waiting) (in_volatile : VolatileInRange Known v)
    (stops : IfSome o (λ p. VolatileEndsNowhere p.conf v)) (in_service : ServiceIn t) (batch : List Change) (k : JoinsIn Known me (stored o l old) batch) where
  abbrev here : State
  here = record { durable = stored o l old; volatile = v; service = t; waiting = w; reads = None }

  abbrev then : Durable
  then = durable_after (stored o l old) batch

  only_range : PlanInRange Known here (only_stores here batch)
  only_range =
      record {
        applies = k.applies;
        batch = record { few = omega (arith, k.few); each = k.range };
        sends = All-nil (SendInRange Known);
        replies = All-nil (ReplyInRange Known);
        read_replies = All-nil (ReplyInRange Known);
        outcome = tt;
        after = record {
          durable = k.after;
          volatile = in_volatile;
          stops = subst (λ (p : Option Part). IfSome p (λ q. VolatileEndsNowhere q.conf v)) (sym k.part) stops;
          service = in_service.range;
          order = in_service.order;
          reads = tt;
        };
      }

  only_in : StepIn Known me here (only_stores here batch)
  only_in = record { range = only_range; named = k.named }

  -- no piece of a base stays staged
  beside_range : (b : Base) → PlanInRange Known here (stores_beside here batch (Some b))
  beside_range b =
      record {
        applies = only_range.applies;
        batch = only_range.batch;
        sends = only_range.sends;
        replies = only_range.replies;
        read_replies = only_range.read_replies;
        outcome = only_range.outcome;
        after = record {
          durable = only_range.after.durable;
          volatile = pieces_now Known v None in_volatile tt;
          stops = pieces_stops v None then.part only_range.after.stops;
          service = only_range.after.service;
          order = only_range.after.order;
          reads = tt;
        };
      }

  beside_in : (b : Base) → StepIn Known me here (stores_beside here batch (Some b))
  beside_in b = record { range = beside_range b; named = k.named }

  module _ (j : Joining) (b : Base) (es : List Entry) (is_j : then.joining ≡ Some j) (is_b : j.base ≡ Some b) (is_es : cover_of j ≡ Some es) where
    held : JoiningIn Known j
    held = record { range = subst (λ (x : Option Joining). IfSome x JoiningInRange) is_j k.after.range.joining; of = subst (λ (x : Option Joining). IfSome x (JoiningOf Known)) is_j k.after.joining }

    base_is : (b.0 ≤ j.len) × IsBase b.1
    base_is = subst (λ (x : Option Base). IfSome x (λ b. (b.0 ≤ j.len) × IsBase b.1)) is_b held.range.base

    run : RunIn Known (j.len - b.0) es
    run =
        run_in Known j.held.items (held_entries Known j.len j.held.items (record { range = held.range.held; names = held.of.held })) b.0 (j.len - b.0) es
        (sym (ap (λ (x : Option Base). covered x j.held.items j.len) is_b) ∙ is_es)

    abbrev s : Service
    s = joined_service b es

    in_s : ServiceIn s
    in_s = all_after_in Known (service_in b.1) es (entries_range Known es run.each) (service_in_range b.1)

    abbrev base : List ℕ
    base = base_bytes s

    base_in_range : IsBase base
    base_in_range = base_of s in_s

    in_members : MembersOf Known j.members
    in_members = record { range = held.range.members; known = held.of.members }

    abbrev left : Durable
    left = record then { part = Some (new_part j.conf j.members base); closed = Some (closed_joined j b es); joining = None }

    leaves : durable_after (stored o l old) (batch ++ change.JoinDone base ∷ []) ≡ left
    leaves =
        after_both (stored o l old) batch (change.JoinDone base ∷ [])
        ∙ ap (λ (x : Option Joining). durable_joining x then base) is_j
        ∙ ap (λ (x : Option Base). durable_joined j base x (cover_of j) then) is_b
        ∙ ap (λ (x : Option (List Entry)). durable_joined j base (Some b) x then) is_es

    left_in : DurableOf Known left
    left_in =
        record {
          range = record {
            part = new_part_range Known j.conf j.members base in_members (omega (arith, held.range.conf), held.range.conf.1) base_in_range;
            closed = record {
              conf = (omega (arith, held.range.conf), omega (arith, held.range.conf));
              olds = held.range.olds;
              next = held.range.members;
              base = base_is.1;
              len = (omega (arith, run.size, base_is.0, held.range.len), omega (arith, run.size, base_is.0, held.range.len));
              entries = entries_range Known es run.each;
            };
            joining = tt;
          };
          part = new_part_of Known j.conf j.members base in_members;
          closed = record { olds = held.of.olds; next = held.of.members; entries = entries_names Known es run.each };
          joining = tt;
        }

    goes_range : PlanInRange Known here (goes_on me j batch s (giving_up w v.role (cause.Stop (j.len - 1))))
    goes_range =
        record {
          applies = applies_both (stored o l old) batch (change.JoinDone base ∷ []) k.applies
              (subst (λ (x : Option Joining). JoiningOptionApplies x (change.JoinDone base)) (sym is_j) (ap is_some is_es), tt);
          batch = record {
            few = omega (arith, k.few, length-append batch (change.JoinDone base ∷ []));
            each = All-append ChangeInRange batch (change.JoinDone base ∷ []) k.range (All-cons ChangeInRange (change.JoinDone base) [] base_in_range (All-nil ChangeInRange));
          };
          sends = send_each Known j.conf (others me j.members) body.PrepareReq (omega (arith, held.range.conf), held.range.conf.1) (omega arith) (omega arith)
              (All-filter (λ q. not (eqb q me)) Known j.members held.of.members) tt;
          replies = giving_up_in Known w v.role (cause.Stop (j.len - 1)) in_volatile.role (omega (arith, held.range.len));
          read_replies = All-nil (ReplyInRange Known);
          outcome = tt;
          after = record {
            durable = subst (DurableOf Known) (sym leaves) left_in;
            volatile = first_volatile_in Known ids me one;
            stops = subst (λ (x : Durable). IfSome x.part (λ q. VolatileEndsNowhere q.conf (first_volatile me))) (sym leaves) (first_stops j.conf me);
            service = in_s.range;
            order = in_s.order;
            reads = tt;
          };
        }

    joined_named : IsNamed me then → IsNamed me left
    joined_named n = record { part = subst (λ (x : Option Joining). IfSome x (λ y. IsMember y.members me)) is_j n.joining; joining = tt }

    goes_in : StepIn Known me here (goes_on me j batch s (giving_up w v.role (cause.Stop (j.len - 1))))
    goes_in = record { range = goes_range; named = λ n. subst (IsNamed me) (sym leaves) (joined_named (k.named n)) }

  by_parts : (j : Joining) → then.joining ≡ Some j → (b : Option Base) → j.base ≡ b → (es : Option (List Entry)) → cover_of j ≡ es → StepIn Known me here (goes_on_if me here j batch b es)
  by_parts j is_j (Some b) is_b (Some es) is_es = goes_in j b es is_j is_b is_es
  by_parts j is_j (Some b) is_b None is_es = beside_in b
  by_parts j is_j None is_b (Some es) is_es = only_in
  by_parts j is_j None is_b None is_es = only_in

  by_joining : (x : Option Joining) → then.joining ≡ x → StepIn Known me here (holding me here batch x)
  by_joining None e = only_in
  by_joining (Some j) e = by_parts j e j.base refl (cover_of j) refl

  pub holds_in : StepIn Known me here (holds_more me here batch)
  holds_in = by_joining then.joining refl
