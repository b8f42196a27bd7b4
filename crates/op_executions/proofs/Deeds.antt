-- What a possible event does is done at one of the servers, and begins with something in range.
use Rattle.std.proofs.Common.{◌≡◌, ◌<◌, ◌+◌, ℕ, zero, suc, true, nat_eq, List, [], ◌∷◌, ◌++◌, length, get_or, Option, Some, None, All, slice_get, IfSome, refl, sym, ap, subst, ◌∙◌, arith}
use Rattle.std.proofs.lemmas.Bool.{cond_both, and_parts}
use Rattle.std.proofs.lemmas.List.Elements.{All-nil, All-cons, All-head, All-tail, All-weaker}
use Rattle.std.specs.Set.{is_member}
use Rattle.op_types.specs.Ranges.{IsMember}
use Rattle.op_types.specs.declared.events.Input.TheVariants as input
use Rattle.op_types.specs.declared.messages.Body.{Body}
use Rattle.op_runs.specs.declared.events.What.{What}
use Rattle.op_runs.specs.declared.events.What.TheVariants as what
use Rattle.op_runs.specs.World.{Node, Sent, Happening, Steps, Deed, delivery, deed_of, node_at}
use Rattle.op_runs.specs.Possible.{Named, are_nodes, is_possible, proposals_of, proposals_in, WhatInRange}
use Rattle.op_bounds.specs.Laws.{SentInRange, WhatNames, WhatNamesKnown}
use Rattle.op_executions.specs.declared.deed.Deed as deed
use Rattle.op_executions.specs.Deeds.{deed_shown}
use Rattle.op_executions.specs.Servers.{DoingInRange, IsPossibleDeed}

-- ---- what an event names

nodes_known : (nodes qs : List ℕ) → are_nodes nodes qs ≡ true → All (IsMember nodes) qs
nodes_known nodes [] h = All-nil (IsMember nodes)
nodes_known nodes (q ∷ qs) h = let a = and_parts (is_member nat_eq nodes q) (are_nodes nodes qs) h in All-cons (IsMember nodes) q qs a.0 (nodes_known nodes qs a.1)

-- whom stop-signs may name may be named
abbrev pub VotersAreServers : Named → Type 0
VotersAreServers ids = (q : ℕ) → IsMember ids.voters q → IsMember ids.servers q

-- an event that can come names servers alone, and a stop-sign such alone
pub names_of : (ids : Named) (sent : ℕ) (w : What) → is_possible ids sent w ≡ true → WhatNames (IsMember ids.voters) (IsMember ids.servers) w
names_of ids sent (what.Stop p members) h = nodes_known ids.voters members (and_parts (is_member nat_eq ids.servers p) (are_nodes ids.voters members) h).1
names_of ids sent (what.Tick p) h = tt
names_of ids sent (what.Commands p cs) h = tt
names_of ids sent (what.Trim p) h = tt
names_of ids sent (what.Read p a) h = tt
names_of ids sent (what.Deliver i) h = tt
names_of ids sent (what.Up p q) h = tt
names_of ids sent (what.Down p q) h = tt
names_of ids sent (what.Crash p) h = tt
names_of ids sent (what.CrashAt p call image) h = tt
names_of ids sent (what.Fail p call) h = tt
names_of ids sent (what.Kill p disk) h = tt
names_of ids sent (what.Start p) h = h
names_of ids sent (what.Show p) h = tt
names_of ids sent (what.Ballots p) h = tt

-- names of more ids
pub names_more : (P Q R S : ℕ → Type 0) → ((q : ℕ) → P q → R q) → ((q : ℕ) → Q q → S q) → (w : What) → WhatNames P Q w → WhatNames R S w
names_more P Q R S named starts (what.Stop p members) h = All-weaker P R named members h
names_more P Q R S named starts (what.Tick p) h = tt
names_more P Q R S named starts (what.Commands p cs) h = tt
names_more P Q R S named starts (what.Trim p) h = tt
names_more P Q R S named starts (what.Read p a) h = tt
names_more P Q R S named starts (what.Deliver i) h = tt
names_more P Q R S named starts (what.Up p q) h = tt
names_more P Q R S named starts (what.Down p q) h = tt
names_more P Q R S named starts (what.Crash p) h = tt
names_more P Q R S named starts (what.CrashAt p call image) h = tt
names_more P Q R S named starts (what.Fail p call) h = tt
names_more P Q R S named starts (what.Kill p disk) h = tt
names_more P Q R S named starts (what.Start p) h = starts p h
names_more P Q R S named starts (what.Show p) h = tt
names_more P Q R S named starts (what.Ballots p) h = tt

pub possible_names : (ids : Named) (sent : ℕ) (w : What) → VotersAreServers ids → is_possible ids sent w ≡ true → WhatNamesKnown (IsMember ids.servers) w
possible_names ids sent w are h = names_more (IsMember ids.voters) (IsMember ids.servers) (IsMember ids.servers) (IsMember ids.servers) are (λ q x. x) w (names_of ids sent w h)

-- ---- deeds in range

-- the same of the deed that the world has
record IsPossible (ids : List ℕ) (d : Deed) : Type 0 where
  pub pid : IsMember ids d.pid
  pub doing : DoingInRange ids d.doing

delivery_possible : (ids : List ℕ) (o : Option Sent) → IfSome o (SentInRange (IsMember ids)) → IfSome (delivery o) (IsPossible ids)
delivery_possible ids None k = tt
delivery_possible ids (Some m) k = record { pid = k.to; doing = (k.from, k.message) }

message_found : (ids : List ℕ) (ms : List Sent) (i : ℕ) → All (SentInRange (IsMember ids)) ms → IfSome (slice_get ms i) (SentInRange (IsMember ids))
message_found ids [] i each = tt
message_found ids (m ∷ ms) zero each = All-head (SentInRange (IsMember ids)) m ms each
message_found ids (m ∷ ms) (suc i) each = message_found ids ms i (All-tail (SentInRange (IsMember ids)) m ms each)

deed_possible : (ids : Named) (ms : List Sent) (sent : ℕ) (w : What) → VotersAreServers ids → All (SentInRange (IsMember ids.servers)) ms → is_possible ids sent w ≡ true → WhatInRange w → IfSome (deed_of ms w) (IsPossible ids.servers)
deed_possible ids ms sent (what.Tick p) are each can fit = record { pid = can; doing = tt }
deed_possible ids ms sent (what.Commands p cs) are each can fit = record { pid = can; doing = fit.1 }
deed_possible ids ms sent (what.Stop p members) are each can fit =
    record { pid = (and_parts (is_member nat_eq ids.servers p) _ can).0; doing = record { range = fit.1; known = possible_names ids sent (what.Stop p members) are can } }
deed_possible ids ms sent (what.Trim p) are each can fit = record { pid = can; doing = tt }
deed_possible ids ms sent (what.Read p r) are each can fit = record { pid = can; doing = fit.1 }
deed_possible ids ms sent (what.Deliver i) are each can fit = delivery_possible ids.servers (slice_get ms i) (message_found ids.servers ms i each)
deed_possible ids ms sent (what.Up p q) are each can fit = record { pid = (and_parts (is_member nat_eq ids.servers p) (is_member nat_eq ids.servers q) can).0; doing = fit.1 }
deed_possible ids ms sent (what.Down p q) are each can fit = record { pid = (and_parts (is_member nat_eq ids.servers p) (is_member nat_eq ids.servers q) can).0; doing = fit.1 }
deed_possible ids ms sent (what.Crash p) are each can fit = record { pid = can; doing = tt }
deed_possible ids ms sent (what.CrashAt p call image) are each can fit = tt
deed_possible ids ms sent (what.Fail p call) are each can fit = tt
deed_possible ids ms sent (what.Kill p disk) are each can fit = tt
deed_possible ids ms sent (what.Start p) are each can fit = record { pid = can; doing = tt }
deed_possible ids ms sent (what.Show p) are each can fit = record { pid = can; doing = tt }
deed_possible ids ms sent (what.Ballots p) are each can fit = record { pid = can; doing = tt }

-- what a possible event does is done at a server, and begins with something in range
pub deed_found : (ids : Named) (ms : List Sent) (sent : ℕ) (x : What) → VotersAreServers ids → All (SentInRange (IsMember ids.servers)) ms → is_possible ids sent x ≡ true → WhatInRange x → (d : deed.Deed) → deed_of ms x ≡ Some (deed_shown d) → IsPossibleDeed ids.servers d
deed_found ids ms sent x are each can fit d is =
    let p : IsPossible ids.servers (deed_shown d) = subst (λ (o : Option Deed). IfSome o (IsPossible ids.servers)) is (deed_possible ids ms sent x are each can fit) in
    record { pid = p.pid; doing = p.doing }

-- ---- a delivery

message_at : (ms : List Sent) (k : ℕ) (m : Sent) → k < length ms → slice_get ms k ≡ Some (get_or ms k m)
message_at [] k m there = absurd (omega arith)
message_at (x ∷ ms) zero m there = refl
message_at (x ∷ ms) (suc k) m there = message_at ms k m (let less : k < length ms = omega arith in less)

-- the message of this number, with a copy of what it says
pub delivered : (ms : List Sent) (k : ℕ) (m s : Sent) (said : Body) (d : Deed) → k < length ms → m ≡ get_or ms k m → s ≡ m → said ≡ s.message.body
    → d ≡ record { pid = s.to; doing = Steps (input.Deliver s.from (record { conf = s.message.conf; body = said })) } → delivery (slice_get ms k) ≡ Some d
delivered ms k m s said d there at same copied is =
    let deed_saying : Body → Option Deed = λ b. Some (record { pid = s.to; doing = Steps (input.Deliver s.from (record { conf = s.message.conf; body = b })) }) in
    let found : slice_get ms k ≡ Some s = message_at ms k m there ∙ ap (λ (x : Sent). Some x) (sym at ∙ sym same) in
    ap delivery found ∙ ap deed_saying (sym copied) ∙ ap (λ (x : Deed). Some x) (sym is)

-- ---- the node of a deed, and what is proposed

pub node_found : (P : Node → Type 0) (xs : List Node) (pid : ℕ) → All P xs → IfSome (node_at xs pid) P
node_found P [] pid each = tt
node_found P (x ∷ xs) pid each = cond_both (nat_eq x.pid pid) (Some x) (node_at xs pid) (λ (o : Option Node). IfSome o P) (λ here. All-head P x xs each) (λ away. node_found P xs pid (All-tail P x xs each))

pub proposals_push : (hs : List Happening) (h : Happening) → proposals_in (hs ++ h ∷ []) ≡ proposals_in hs + proposals_of h.event.what
proposals_push [] h = omega arith
proposals_push (g ∷ hs) h = omega (arith, proposals_push hs h)
