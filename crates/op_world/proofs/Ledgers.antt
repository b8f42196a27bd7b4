-- What nodes show of the lists: of a sound run, a node that does nothing has nothing to add.
use Rattle.std.proofs.Common.{◌≡◌, ◌≤◌, ℕ, ◌-◌, eqb, fold, List, [], ◌∷◌, ◌++◌, length, take, drop, Option, Some, None, All, refl, sym, ap, subst, ◌∙◌, arith, length-append, length-drop}
use Rattle.std.proofs.lemmas.Bool.{cond_both, cond-false, eqb-true}
use Rattle.std.proofs.lemmas.List.{append-nil, at_drop_all, length-take}
use Rattle.std.proofs.lemmas.List.Elements.{All-nil, All-cons, All-head, All-tail}
use Rattle.op_types.specs.declared.answers.Refusal.{Refusal}
use Rattle.op_types.specs.declared.durable.Closed.{Closed}
use Rattle.op_types.specs.declared.durable.Durable.{Durable}
use Rattle.op_types.specs.declared.durable.Part.{Part}
use Rattle.op_types.specs.declared.events.Input.{Input}
use Rattle.op_types.specs.declared.events.Input.TheVariants as input
use Rattle.op_types.specs.declared.log.Entry.{Entry}
use Rattle.op_types.specs.declared.log.Entry.TheVariants as entry
use Rattle.op_spec.specs.Ledger.{part_entries, closed_entries, decided_entries, machine_showing, machine_proposing}
use Rattle.op_spec.specs.Machine.{Machine}
use Rattle.op_spec.specs.Stands.{Stands, IfPartStands, IfClosedStands}
use Rattle.op_protocol.specs.Rows.{entries_of, refusal_of, stop_for}
use Rattle.op_protocol.specs.State.{State}
use Rattle.op_runs.specs.World.{Node, NodeStatus, Up, Down, Failed, Happening, Doing, Steps, Stops, Opens, Tells, Deed, node_at, with_node}
use Rattle.op_runs.specs.Run.{Execution, IsSound, MeetsFrom, execution_with, execution_of, machine_showing_all, machine_proposing_in, machine_proposing_input, machine_proposing_doing, machine_proposing_if, machine_proposing_at, machine_proposing_by}

-- ---- what is proposed changes no list

each_lists : (conf : ℕ) (es : List Entry) (m : Machine) → (fold (λ x e. machine_proposing x conf e) m es).lists ≡ m.lists
each_lists conf [] m = refl
each_lists conf (e ∷ es) m = each_lists conf es (machine_proposing m conf e)

in_lists : (m : Machine) (es : List Entry) (o : Option Part) (r : Option Refusal) → (machine_proposing_in m es o r).lists ≡ m.lists
in_lists m es None r = refl
in_lists m es (Some p) (Some r) = refl
in_lists m es (Some p) None = each_lists p.conf es m

input_lists : (m : Machine) (me : ℕ) (s : State) (x : Input) → (machine_proposing_input m me s x).lists ≡ m.lists
input_lists m me s (input.Commands cs) = in_lists m (entries_of cs) s.durable.part (refusal_of me s.volatile.role s.durable (entries_of cs))
input_lists m me s (input.Stop members) =
    let es : List Entry = entry.Stop (stop_for s.durable.part members) ∷ [] in in_lists m es s.durable.part (refusal_of me s.volatile.role s.durable es)
input_lists m me s input.Tick = refl
input_lists m me s (input.Deliver q msg) = refl
input_lists m me s input.TrimNow = refl
input_lists m me s (input.Read r) = refl
input_lists m me s (input.Up q) = refl
input_lists m me s (input.Down q) = refl

doing_lists : (m : Machine) (me : ℕ) (s : State) (d : Doing) → (machine_proposing_doing m me s d).lists ≡ m.lists
doing_lists m me s (Steps x) = input_lists m me s x
doing_lists m me s Stops = refl
doing_lists m me s Opens = refl
doing_lists m me s (Tells t) = refl

status_lists : (z : NodeStatus) (m : Machine) (me : ℕ) (s : State) (d : Doing) → (machine_proposing_if z m me s d).lists ≡ m.lists
status_lists Up m me s d = doing_lists m me s d
status_lists (Down after) m me s d = refl
status_lists (Failed count after) m me s d = refl

at_lists : (m : Machine) (o : Option Node) (d : Doing) → (machine_proposing_at m o d).lists ≡ m.lists
at_lists m None d = refl
at_lists m (Some n) d = status_lists n.status m n.pid n.state d

pub proposing_lists : (m : Machine) (nodes : List Node) (o : Option Deed) → (machine_proposing_by m nodes o).lists ≡ m.lists
proposing_lists m nodes None = refl
proposing_lists m nodes (Some x) = at_lists m (node_at nodes x.pid) x.doing

-- ---- what nodes show

-- the list of a configuration once these have shown their states
abbrev pub shown_list : ℕ → List Entry → List Node → List Entry
shown_list conf l nodes = fold (λ es n. es ++ decided_entries n.state.durable conf (length es)) l nodes

pub showing_list : (conf : ℕ) (m : Machine) (nodes : List Node) → (machine_showing_all m nodes).lists conf ≡ shown_list conf (m.lists conf) nodes
showing_list conf m [] = refl
showing_list conf m (n ∷ nodes) = showing_list conf (machine_showing m n.pid n.state.durable) nodes

-- it has nothing of a configuration behind this list, nor behind a longer one
abbrev pub HasNoMore : ℕ → List Entry → Durable → Type 0
HasNoMore conf l d = (k : ℕ) → length l ≤ k → decided_entries d conf k ≡ []

-- the same of nodes
abbrev pub HaveNoMore : ℕ → List Entry → List Node → Type 0
HaveNoMore conf l nodes = All (λ n. HasNoMore conf l n.state.durable) nodes

longer : (conf : ℕ) (l more : List Entry) (nodes : List Node) → HaveNoMore conf l nodes → HaveNoMore conf (l ++ more) nodes
longer conf l more [] each = All-nil (λ n. HasNoMore conf (l ++ more) n.state.durable)
longer conf l more (n ∷ nodes) each =
    let here = All-head (λ (x : Node). HasNoMore conf l x.state.durable) n nodes each in
    All-cons (λ x. HasNoMore conf (l ++ more) x.state.durable) n nodes (λ k le. here k (omega (arith, le, length-append l more)))
    (longer conf l more nodes (All-tail (λ (x : Node). HasNoMore conf l x.state.durable) n nodes each))

-- one that has nothing to add adds nothing
adds_none : (conf : ℕ) (l : List Entry) (d : Durable) → HasNoMore conf l d → l ++ decided_entries d conf (length l) ≡ l
adds_none conf l d none = ap (λ (es : List Entry). l ++ es) (none (length l) (omega arith)) ∙ append-nil l

pub none_shows : (conf : ℕ) (l : List Entry) (nodes : List Node) → HaveNoMore conf l nodes → shown_list conf l nodes ≡ l
none_shows conf l [] each = refl
none_shows conf l (n ∷ nodes) each =
    let here = All-head (λ (x : Node). HasNoMore conf l x.state.durable) n nodes each in
    ap (λ (es : List Entry). shown_list conf es nodes) (adds_none conf l n.state.durable here)
    ∙ none_shows conf l nodes (All-tail (λ (x : Node). HasNoMore conf l x.state.durable) n nodes each)

none_some : {A : Type 0} (a : A) → None ≡ Some a → ⊥
none_some a e = cc

-- one node takes the place of another, and nobody else has something to add
pub one_shows : (conf : ℕ) (l : List Entry) (nodes : List Node) (x y : Node) → node_at nodes y.pid ≡ Some x → HaveNoMore conf l nodes
    → shown_list conf l (with_node nodes y) ≡ l ++ decided_entries y.state.durable conf (length l)
one_shows conf l [] x y there each = absurd (none_some x there)
one_shows conf l (n ∷ nodes) x y there each =
    let here = All-head (λ (z : Node). HasNoMore conf l z.state.durable) n nodes each in
    let rest = All-tail (λ (z : Node). HasNoMore conf l z.state.durable) n nodes each in
    let more : List Entry = decided_entries y.state.durable conf (length l) in
    cond_both (eqb n.pid y.pid) (y ∷ nodes) (n ∷ with_node nodes y) (λ (ns : List Node). shown_list conf l ns ≡ l ++ more)
    (λ same. none_shows conf (l ++ more) nodes (longer conf l more nodes rest))
    (λ away. ap (λ (es : List Entry). shown_list conf es (with_node nodes y)) (adds_none conf l n.state.durable here)
    ∙ one_shows conf l nodes x y (sym (cond-false (eqb n.pid y.pid) (Some n) (node_at nodes y.pid) away) ∙ there) rest)

-- ---- a sound run

all_dropped : {A : Type 0} (n : ℕ) (xs : List A) → length xs ≤ n → drop n xs ≡ []
all_dropped n xs most = at_drop_all (λ ys. ys) xs n most

part_no_more : (first : List ℕ) (lists : ℕ → List Entry) (o : Option Part) → IfPartStands first lists o → (conf k : ℕ) → length (lists conf) ≤ k → part_entries o conf k ≡ []
part_no_more first lists None s conf k long = refl
part_no_more first lists (Some p) s conf k long =
    cond_both (eqb conf p.conf) (drop (k - p.trimmed) (take (p.decided - p.trimmed) p.tail.items)) [] (λ (es : List Entry). es ≡ [])
    (λ here.
    let at : conf ≡ p.conf = eqb-true conf p.conf here in
    let len : length (take (p.decided - p.trimmed) p.tail.items) ≤ p.decided - p.trimmed = omega (arith, length-take (p.decided - p.trimmed) p.tail.items) in
    let long_there : length (lists p.conf) ≤ k = subst (λ (c : ℕ). length (lists c) ≤ k) at long in
    let most : p.decided ≤ k = omega (arith, long_there, s.decided) in
    all_dropped (k - p.trimmed) (take (p.decided - p.trimmed) p.tail.items) (omega (arith, len, most)))
    (λ away. refl)

closed_no_more : (first : List ℕ) (lists : ℕ → List Entry) (o : Option Closed) → IfClosedStands first lists o → (conf k : ℕ) → length (lists conf) ≤ k → closed_entries o conf k ≡ []
closed_no_more first lists None s conf k long = refl
closed_no_more first lists (Some l) s conf k long =
    cond_both (eqb conf l.conf) (drop (k - l.trimmed) l.tail) [] (λ (es : List Entry). es ≡ [])
    (λ here.
    let at : conf ≡ l.conf = eqb-true conf l.conf here in
    let len : length l.tail ≡ length (lists l.conf) - l.trimmed = ap (λ (es : List Entry). length es) s.entries ∙ length-drop l.trimmed (lists l.conf) in
    let most : length (lists l.conf) ≤ k = subst (λ (c : ℕ). length (lists c) ≤ k) at long in
    all_dropped (k - l.trimmed) l.tail (omega (arith, len, most)))
    (λ away. refl)

-- a node that stands has no more than the list
stands_no_more : (first : List ℕ) (lists : ℕ → List Entry) (d : Durable) → Stands first lists d → (conf : ℕ) → HasNoMore conf (lists conf) d
stands_no_more first lists d s conf k long =
    ap (λ (es : List Entry). es ++ closed_entries d.closed conf k) (part_no_more first lists d.part s.part conf k long) ∙ closed_no_more first lists d.closed s.closed conf k long

all_no_more : (first : List ℕ) (lists : ℕ → List Entry) (nodes : List Node) → All (λ n. Stands first lists n.state.durable) nodes → (conf : ℕ) → HaveNoMore conf (lists conf) nodes
all_no_more first lists [] each conf = All-nil (λ n. HasNoMore conf (lists conf) n.state.durable)
all_no_more first lists (n ∷ nodes) each conf =
    All-cons (λ x. HasNoMore conf (lists conf) x.state.durable) n nodes (stands_no_more first lists n.state.durable (All-head (λ (x : Node). Stands first lists x.state.durable) n nodes each) conf)
    (all_no_more first lists nodes (All-tail (λ (x : Node). Stands first lists x.state.durable) n nodes each) conf)

-- what a run has come to is sound
pub sound_end : (members : List ℕ) (t : Execution) (hs : List Happening) → IsSound members t → MeetsFrom members t hs → IsSound members (execution_of t hs)
sound_end members t [] sound meets = sound
sound_end members t (h ∷ hs) sound meets = sound_end members (execution_with t h) hs (meets.0).sound meets.1

pub sound_no_more : (members : List ℕ) (t : Execution) → IsSound members t → (conf : ℕ) → HaveNoMore conf (t.machine.lists conf) t.world.nodes
sound_no_more members t sound conf = all_no_more members t.machine.lists t.world.nodes sound.stand conf
