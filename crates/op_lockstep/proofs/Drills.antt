-- A drill of links proposes no stop-sign.
use Rattle.std.proofs.Common.{ℕ, zero, suc, Bool, List, [], ◌++◌, length, drop, All}
use Rattle.std.proofs.lemmas.List.Elements.{All-nil, All-append, All-map}
use Rattle.op_runs.specs.declared.events.Event.{Event}
use Rattle.op_runs.specs.declared.events.What.TheVariants as what
use Rattle.op_runs.specs.World.{World, Sent, done_event, all_done, first_world}
use Rattle.op_gen.specs.Links.{Links, all_links}
use Rattle.op_lockstep.specs.Lockstep.{event_of, ticks, numbers_of, deliveries, is_linked_request, is_sent_reply, ticked, asking, asked, answering, round, after_round, lockstep, linked_world, first_rounds, ballots, links_drill}
use Rattle.op_lockstep.specs.Reach.{IsNoStop, ProposeNoStop}

abbrev AreQuiet : List Event → Type 0
AreQuiet es = All (λ e. IsNoStop e.what) es

append_quiet : (xs ys : List Event) → AreQuiet xs → AreQuiet ys → AreQuiet (xs ++ ys)
append_quiet xs ys a b = All-append (λ e. IsNoStop e.what) xs ys a b

ticks_quiet : (ps : List ℕ) → AreQuiet (ticks ps)
ticks_quiet ps = All-map (λ e. IsNoStop e.what) (λ (p : ℕ). event_of (what.Tick p)) ps (λ k d l. tt)

ballots_quiet : (ps : List ℕ) → AreQuiet (ballots ps)
ballots_quiet ps = All-map (λ e. IsNoStop e.what) (λ (p : ℕ). event_of (what.Ballots p)) ps (λ k d l. tt)

deliveries_quiet : (test : Sent → Bool) (n : ℕ) (ms : List Sent) → AreQuiet (deliveries test n ms)
deliveries_quiet test n ms = All-map (λ e. IsNoStop e.what) (λ (i : ℕ). event_of (what.Deliver i)) (numbers_of test n (drop n ms)) (λ k d l. tt)

round_quiet : (members : List ℕ) (links : Links) (w : World) → AreQuiet (round members links w)
round_quiet members links w =
    append_quiet (ticks members ++ asking members links w) (answering members links w)
    (append_quiet (ticks members) (asking members links w) (ticks_quiet members) (deliveries_quiet (is_linked_request links) (length w.messages) (ticked members w).messages))
    (deliveries_quiet is_sent_reply (length (ticked members w).messages) (asked members links w).messages)

pub lockstep_quiet : (members : List ℕ) (links : Links) (k : ℕ) (w : World) → AreQuiet (lockstep members links k w)
unfolding lockstep
lockstep_quiet members links zero w = All-nil (λ e. IsNoStop e.what)
lockstep_quiet members links (suc k) w =
    append_quiet (round members links w) (lockstep members links k (after_round members links w)) (round_quiet members links w) (lockstep_quiet members links k (after_round members links w))

all_quiet : (es : List Event) → AreQuiet es → ProposeNoStop (all_done es)
all_quiet es a = All-map (λ h. IsNoStop h.event.what) done_event es a

pub drill_quiet : (members : List ℕ) (links : Links) (rounds : ℕ) → ProposeNoStop (all_done (links_drill members links rounds))
unfolding links_drill
drill_quiet members links rounds =
    let first : List Event = first_rounds members in
    let then_ : List Event = lockstep members links rounds (linked_world members) in
    all_quiet (first ++ then_ ++ ticks members ++ ballots members)
    (append_quiet (first ++ then_ ++ ticks members) (ballots members)
    (append_quiet (first ++ then_) (ticks members)
    (append_quiet first then_ (lockstep_quiet members (all_links members) 3 (first_world members [])) (lockstep_quiet members links rounds (linked_world members))) (ticks_quiet members)) (ballots_quiet members))
