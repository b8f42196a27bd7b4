-- Servers in one list, rising by id: the nodes are those of them that vote, and the observers the others.
use Rattle.std.proofs.Common.{◌≡◌, ◌<◌, ◌≤◌, ℕ, Bool, true, false, cond, eqb, ltb, List, [], ◌∷◌, map, Option, Some, None, All, refl, sym, ap, subst, ◌∙◌, arith}
use Rattle.std.proofs.lemmas.Bool.{cond-true, cond-false, eqb-true, ne_eqb, lt-ltb, le-ltb}
use Rattle.std.proofs.lemmas.List.Elements.{All-nil, All-cons, All-head, All-tail}
use Rattle.std.specs.Prelude.{fold}
use Rattle.op_types.specs.Ranges.{AreRising}
use Rattle.op_runs.specs.declared.summary.Line.{Line}
use Rattle.op_runs.specs.World.{Kind, Votes, Observes, World, Node, Sent, node_at, with_node, insert_node, world_with_as, world_telling_more}
use Rattle.op_runs.specs.Schedules.{Seated, seated}
use Rattle.op_executions.specs.Worlds.{also, seated_as, nodes_with}

-- ---- kinds

votes_no : Votes ≡ Observes → ⊥
votes_no e = cc

observes_no : Observes ≡ Votes → ⊥
observes_no e = cc

-- ---- one of them, by its id

abbrev pub pid_in : Seated → ℕ
pid_in s = s.node.pid

abbrev pub pids_in : List Seated → List ℕ
pids_in seats = map pid_in seats

-- the first with this id
abbrev pub seat_in : List Seated → ℕ → Option Seated
seat_in [] pid = None
seat_in (s ∷ seats) pid = cond (eqb s.node.pid pid) (Some s) (seat_in seats pid)

-- this node in the place of that of its id
abbrev pub with_seat : List Seated → Node → List Seated
with_seat [] y = []
with_seat (s ∷ seats) y = cond (eqb s.node.pid y.pid) ((record s { node = y }) ∷ seats) (s ∷ with_seat seats y)

some_is : {A : Type 0} (a b : A) → Some a ≡ Some b → a ≡ b
some_is a b e = cc

-- ---- in a list of one kind

-- the first of it
also_here : (k : Kind) (n : Node) (pid : ℕ) (nodes : List Node) → eqb n.pid pid ≡ true → node_at (also k k n nodes) pid ≡ Some n
also_here Votes n pid nodes here = cond-true (eqb n.pid pid) (Some n) (node_at nodes pid) here
also_here Observes n pid nodes here = cond-true (eqb n.pid pid) (Some n) (node_at nodes pid) here

-- another one before it
also_other : (k j : Kind) (n : Node) (pid : ℕ) (nodes : List Node) (o : Option Node) → eqb n.pid pid ≡ false → node_at nodes pid ≡ o → node_at (also k j n nodes) pid ≡ o
also_other Votes Votes n pid nodes o away is = cond-false (eqb n.pid pid) (Some n) (node_at nodes pid) away ∙ is
also_other Votes Observes n pid nodes o away is = is
also_other Observes Votes n pid nodes o away is = is
also_other Observes Observes n pid nodes o away is = cond-false (eqb n.pid pid) (Some n) (node_at nodes pid) away ∙ is

-- none of them has an id that none of all has
pub none_there : (k : Kind) (pid : ℕ) (seats : List Seated) → All (λ s. s.node.pid ≡ pid → ⊥) seats → node_at (seated_as k seats) pid ≡ None
none_there k pid [] each = refl
none_there k pid (s ∷ seats) each =
    also_other k s.kind s.node pid (seated_as k seats) None (ne_eqb s.node.pid pid (All-head (λ (x : Seated). x.node.pid ≡ pid → ⊥) s seats each))
    (none_there k pid seats (All-tail (λ (x : Seated). x.node.pid ≡ pid → ⊥) s seats each))

-- ids that rise are above the least
pub all_above : (low : ℕ) (seats : List Seated) → AreRising low (pids_in seats) → All (λ s. low < s.node.pid) seats
all_above low [] r = All-nil (λ (s : Seated). low < s.node.pid)
all_above low (s ∷ seats) r =
    All-cons (λ x. low < x.node.pid) s seats r.0
    (λ k d there. let rest = all_above s.node.pid seats r.2 k d there in let here = r.0 in omega (arith, rest, here))

above_differ : (low : ℕ) (seats : List Seated) → AreRising low (pids_in seats) → All (λ s. s.node.pid ≡ low → ⊥) seats
above_differ low seats r = λ k d there same. let over = all_above low seats r k d there in omega (arith, over, same)

-- ---- what is found

-- it is the first of its own kind
pub own_found : (seats : List Seated) (pid : ℕ) (s : Seated) → seat_in seats pid ≡ Some s → node_at (seated_as s.kind seats) pid ≡ Some s.node
own_found [] pid s is = absurd (cc)
own_found (x ∷ seats) pid s is = by (eqb x.node.pid pid) refl (λ later. own_found seats pid s later)
  where
    by : (b : Bool) → eqb x.node.pid pid ≡ b → (seat_in seats pid ≡ Some s → node_at (seated_as s.kind seats) pid ≡ Some s.node) → node_at (seated_as s.kind (x ∷ seats)) pid ≡ Some s.node
    by true here rest =
        let same : x ≡ s = some_is x s (sym (cond-true (eqb x.node.pid pid) (Some x) (seat_in seats pid) here) ∙ is) in
        subst (λ (z : Seated). node_at (seated_as z.kind (x ∷ seats)) pid ≡ Some z.node) same (also_here x.kind x.node pid (seated_as x.kind seats) here)
    by false away rest =
        also_other s.kind x.kind x.node pid (seated_as s.kind seats) (Some s.node) away (rest (sym (cond-false (eqb x.node.pid pid) (Some x) (seat_in seats pid) away) ∙ is))

-- an observer's id is no node's
observer_by : (k : Kind) (n : Node) (pid : ℕ) (nodes : List Node) → k ≡ Observes → node_at nodes pid ≡ None → node_at (also Votes k n nodes) pid ≡ None
observer_by Votes n pid nodes is none = absurd (votes_no is)
observer_by Observes n pid nodes is none = none

pub observer_found : (low : ℕ) (seats : List Seated) (pid : ℕ) (s : Seated) → AreRising low (pids_in seats) → seat_in seats pid ≡ Some s → s.kind ≡ Observes → node_at (seated_as Votes seats) pid ≡ None
observer_found low [] pid s r is observes = refl
observer_found low (x ∷ seats) pid s r is observes = by (eqb x.node.pid pid) refl (λ later. observer_found x.node.pid seats pid s r.2 later observes)
  where
    by : (b : Bool) → eqb x.node.pid pid ≡ b → (seat_in seats pid ≡ Some s → node_at (seated_as Votes seats) pid ≡ None) → node_at (seated_as Votes (x ∷ seats)) pid ≡ None
    by true here rest =
        let same : x ≡ s = some_is x s (sym (cond-true (eqb x.node.pid pid) (Some x) (seat_in seats pid) here) ∙ is) in
        let at : x.node.pid ≡ pid = eqb-true x.node.pid pid here in
        observer_by x.kind x.node pid (seated_as Votes seats) (ap (λ (z : Seated). z.kind) same ∙ observes)
        (none_there Votes pid seats (subst (λ (q : ℕ). All (λ z. z.node.pid ≡ q → ⊥) seats) at (above_differ x.node.pid seats r.2)))
    by false away rest =
        also_other Votes x.kind x.node pid (seated_as Votes seats) None away (rest (sym (cond-false (eqb x.node.pid pid) (Some x) (seat_in seats pid) away) ∙ is))

-- so it is the server of this id in a world of these
seated_by : (k : Kind) (n : Node) (a b : Option Node) → (k ≡ Observes → a ≡ None) → (k ≡ Votes → a ≡ Some n) → (k ≡ Observes → b ≡ Some n) → seated a b ≡ Some (record { kind = k; node = n })
seated_by Votes n a b none voter observer = ap (λ (o : Option Node). seated o b) (voter refl)
seated_by Observes n a b none voter observer = ap (λ (o : Option Node). seated o b) (none refl) ∙ ap (λ (o : Option Node). seated None o) (observer refl)

pub seated_found : (low : ℕ) (seats : List Seated) (pid : ℕ) (s : Seated) → AreRising low (pids_in seats) → seat_in seats pid ≡ Some s → seated (node_at (seated_as Votes seats) pid) (node_at (seated_as Observes seats) pid) ≡ Some s
seated_found low seats pid s r is =
    let own : node_at (seated_as s.kind seats) pid ≡ Some s.node = own_found seats pid s is in
    seated_by s.kind s.node (node_at (seated_as Votes seats) pid) (node_at (seated_as Observes seats) pid) (λ k. observer_found low seats pid s r is k)
    (λ k. subst (λ (j : Kind). node_at (seated_as j seats) pid ≡ Some s.node) k own) (λ k. subst (λ (j : Kind). node_at (seated_as j seats) pid ≡ Some s.node) k own)

-- ---- another node in its place

own_here : (k : Kind) (n y : Node) (nodes : List Node) → eqb n.pid y.pid ≡ true → also k k y nodes ≡ with_node (also k k n nodes) y
own_here Votes n y nodes here = sym (cond-true (eqb n.pid y.pid) (y ∷ nodes) (n ∷ with_node nodes y) here)
own_here Observes n y nodes here = sym (cond-true (eqb n.pid y.pid) (y ∷ nodes) (n ∷ with_node nodes y) here)

own_away : (k j : Kind) (n y : Node) (now nodes : List Node) → eqb n.pid y.pid ≡ false → now ≡ with_node nodes y → also k j n now ≡ with_node (also k j n nodes) y
own_away Votes Votes n y now nodes away is = ap (λ (ns : List Node). n ∷ ns) is ∙ sym (cond-false (eqb n.pid y.pid) (y ∷ nodes) (n ∷ with_node nodes y) away)
own_away Votes Observes n y now nodes away is = is
own_away Observes Votes n y now nodes away is = is
own_away Observes Observes n y now nodes away is = ap (λ (ns : List Node). n ∷ ns) is ∙ sym (cond-false (eqb n.pid y.pid) (y ∷ nodes) (n ∷ with_node nodes y) away)

-- those of its kind have it
pub with_own : (seats : List Seated) (y : Node) (s : Seated) → seat_in seats y.pid ≡ Some s → seated_as s.kind (with_seat seats y) ≡ with_node (seated_as s.kind seats) y
with_own [] y s is = absurd (cc)
with_own (x ∷ seats) y s is = by (eqb x.node.pid y.pid) refl (λ later. with_own seats y s later)
  where
    by : (b : Bool) → eqb x.node.pid y.pid ≡ b → (seat_in seats y.pid ≡ Some s → seated_as s.kind (with_seat seats y) ≡ with_node (seated_as s.kind seats) y)
        → seated_as s.kind (with_seat (x ∷ seats) y) ≡ with_node (seated_as s.kind (x ∷ seats)) y
    by true here rest =
        let same : x ≡ s = some_is x s (sym (cond-true (eqb x.node.pid y.pid) (Some x) (seat_in seats y.pid) here) ∙ is) in
        ap (λ (xs : List Seated). seated_as s.kind xs) (cond-true (eqb x.node.pid y.pid) ((record x { node = y }) ∷ seats) (x ∷ with_seat seats y) here)
        ∙ subst (λ (z : Seated). also z.kind x.kind y (seated_as z.kind seats) ≡ with_node (also z.kind x.kind x.node (seated_as z.kind seats)) y) same (own_here x.kind x.node y (seated_as x.kind seats) here)
    by false away rest =
        ap (λ (xs : List Seated). seated_as s.kind xs) (cond-false (eqb x.node.pid y.pid) ((record x { node = y }) ∷ seats) (x ∷ with_seat seats y) away)
        ∙ own_away s.kind x.kind x.node y (seated_as s.kind (with_seat seats y)) (seated_as s.kind seats) away (rest (sym (cond-false (eqb x.node.pid y.pid) (Some x) (seat_in seats y.pid) away) ∙ is))

other_here : (j k : Kind) (n y : Node) (nodes : List Node) → (j ≡ k → ⊥) → also j k y nodes ≡ also j k n nodes
other_here Votes Votes n y nodes differ = absurd (differ refl)
other_here Votes Observes n y nodes differ = refl
other_here Observes Votes n y nodes differ = refl
other_here Observes Observes n y nodes differ = absurd (differ refl)

-- those of the other kind stay
pub with_other : (j : Kind) (seats : List Seated) (y : Node) (s : Seated) → (j ≡ s.kind → ⊥) → seat_in seats y.pid ≡ Some s → seated_as j (with_seat seats y) ≡ seated_as j seats
with_other j [] y s differ is = refl
with_other j (x ∷ seats) y s differ is = by (eqb x.node.pid y.pid) refl (λ later. with_other j seats y s differ later)
  where
    by : (b : Bool) → eqb x.node.pid y.pid ≡ b → (seat_in seats y.pid ≡ Some s → seated_as j (with_seat seats y) ≡ seated_as j seats) → seated_as j (with_seat (x ∷ seats) y) ≡ seated_as j (x ∷ seats)
    by true here rest =
        let same : x ≡ s = some_is x s (sym (cond-true (eqb x.node.pid y.pid) (Some x) (seat_in seats y.pid) here) ∙ is) in
        ap (λ (xs : List Seated). seated_as j xs) (cond-true (eqb x.node.pid y.pid) ((record x { node = y }) ∷ seats) (x ∷ with_seat seats y) here)
        ∙ other_here j x.kind x.node y (seated_as j seats) (λ e. differ (e ∙ ap (λ (z : Seated). z.kind) same))
    by false away rest =
        ap (λ (xs : List Seated). seated_as j xs) (cond-false (eqb x.node.pid y.pid) ((record x { node = y }) ∷ seats) (x ∷ with_seat seats y) away)
        ∙ ap (λ (ns : List Node). also j x.kind x.node ns) (rest (sym (cond-false (eqb x.node.pid y.pid) (Some x) (seat_in seats y.pid) away) ∙ is))

-- ---- in a world

-- the servers of a world once this one has its place
pub record ArePut (x z : World) (k : Kind) (y : Node) (seats : List Seated) : Type 0 where
  pub nodes : z.nodes ≡ seated_as Votes (with_seat seats y)
  pub observers : z.observers ≡ seated_as Observes (with_seat seats y)
  pub nodes_are : z.nodes ≡ nodes_with k x.nodes y

put_as : (k : Kind) (x : World) (y : Node) (seats : List Seated) (s : Seated) → s.kind ≡ k → seat_in seats y.pid ≡ Some s → x.nodes ≡ seated_as Votes seats → x.observers ≡ seated_as Observes seats → ArePut x (world_with_as k x y) k y seats
put_as Votes x y seats s is found nodes observers = record {
  nodes = ap (λ (ns : List Node). with_node ns y) nodes ∙ sym (subst (λ (j : Kind). seated_as j (with_seat seats y) ≡ with_node (seated_as j seats) y) is (with_own seats y s found));
  observers = observers ∙ sym (with_other Observes seats y s (λ e. observes_no (e ∙ is)) found);
  nodes_are = refl;
}
put_as Observes x y seats s is found nodes observers = record {
  nodes = nodes ∙ sym (with_other Votes seats y s (λ e. votes_no (e ∙ is)) found);
  observers = ap (λ (ns : List Node). with_node ns y) observers ∙ sym (subst (λ (j : Kind). seated_as j (with_seat seats y) ≡ with_node (seated_as j seats) y) is (with_own seats y s found));
  nodes_are = refl;
}

-- with what is sent and told
pub puts : (k : Kind) (x : World) (y : Node) (seats : List Seated) (s : Seated) (sent : List Sent) (told : List Line) → s.kind ≡ k → seat_in seats y.pid ≡ Some s → x.nodes ≡ seated_as Votes seats → x.observers ≡ seated_as Observes seats
    → ArePut x (world_telling_more (world_with_as k x y) sent told) k y seats
puts k x y seats s sent told is found nodes observers = let put = put_as k x y seats s is found nodes observers in record { nodes = put.nodes; observers = put.observers; nodes_are = put.nodes_are }

-- ---- all of them again

first_put : (n m : Node) (nodes : List Node) → m.pid < n.pid → insert_node (n ∷ nodes) m ≡ m ∷ n ∷ nodes
first_put n m nodes less = cond-true (ltb m.pid n.pid) (m ∷ n ∷ nodes) (n ∷ insert_node nodes m) (lt-ltb m.pid n.pid less)

pub later_put : (n m : Node) (nodes : List Node) → n.pid ≤ m.pid → insert_node (n ∷ nodes) m ≡ n ∷ insert_node nodes m
later_put n m nodes most = cond-false (ltb m.pid n.pid) (m ∷ n ∷ nodes) (n ∷ insert_node nodes m) (le-ltb m.pid n.pid most)

-- what holds of each server holds of each of a kind
also_all : (P : Node → Type 0) (k j : Kind) (n : Node) (nodes : List Node) → P n → All P nodes → All P (also k j n nodes)
also_all P Votes Votes n nodes here rest = All-cons P n nodes here rest
also_all P Votes Observes n nodes here rest = rest
also_all P Observes Votes n nodes here rest = rest
also_all P Observes Observes n nodes here rest = All-cons P n nodes here rest

pub all_as : (P : Node → Type 0) (k : Kind) (seats : List Seated) → All (λ s. P s.node) seats → All P (seated_as k seats)
all_as P k [] each = All-nil P
all_as P k (s ∷ seats) each = also_all P k s.kind s.node (seated_as k seats) (All-head (λ (x : Seated). P x.node) s seats each) (all_as P k seats (All-tail (λ (x : Seated). P x.node) s seats each))

-- a node before all that are put stays the first
first_stays : (n : Node) (nodes more : List Node) → All (λ m. n.pid < m.pid) more → fold insert_node (n ∷ nodes) more ≡ n ∷ fold insert_node nodes more
first_stays n nodes [] each = refl
first_stays n nodes (m ∷ more) each =
    let less : n.pid < m.pid = All-head (λ (x : Node). n.pid < x.pid) m more each in
    ap (λ (ns : List Node). fold insert_node ns more) (later_put n m nodes (omega (arith, less))) ∙ first_stays n (insert_node nodes m) more (All-tail (λ (x : Node). n.pid < x.pid) m more each)

-- one that is before all others is put first
pub put_first : (m : Node) (nodes : List Node) → All (λ n. m.pid < n.pid) nodes → insert_node nodes m ≡ m ∷ nodes
put_first m [] each = refl
put_first m (n ∷ nodes) each = first_put n m nodes (All-head (λ (x : Node). m.pid < x.pid) n nodes each)

merged_by : (k : Kind) (n : Node) (nodes observers : List Node) → All (λ m. n.pid < m.pid) nodes → All (λ m. n.pid < m.pid) observers → fold insert_node (also Votes k n nodes) (also Observes k n observers) ≡ n ∷ fold insert_node nodes observers
merged_by Votes n nodes observers over watch = first_stays n nodes observers watch
merged_by Observes n nodes observers over watch = ap (λ (ns : List Node). fold insert_node ns observers) (put_first n nodes over) ∙ first_stays n nodes observers watch

-- nodes and observers together are all servers, in their order
pub merged : (low : ℕ) (seats : List Seated) → AreRising low (pids_in seats) → fold insert_node (seated_as Votes seats) (seated_as Observes seats) ≡ map (λ s. s.node) seats
merged low [] r = refl
merged low (s ∷ seats) r =
    let over = all_above s.node.pid seats r.2 in
    merged_by s.kind s.node (seated_as Votes seats) (seated_as Observes seats) (all_as (λ m. s.node.pid < m.pid) Votes seats over) (all_as (λ m. s.node.pid < m.pid) Observes seats over)
    ∙ ap (λ (ns : List Node). s.node ∷ ns) (merged s.node.pid seats r.2)
