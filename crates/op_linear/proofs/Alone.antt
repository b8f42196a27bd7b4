-- A node alone, over all its lives: where each is a run by the loop's rules and nothing that it reads is a peer's, it is a cluster.
use Rattle.std.proofs.Common.{◌≡◌, ◌<◌, ◌^◌, ◌==◌, ◌⊎◌, ℕ, Bool, true, false, List, [], ◌∷◌, ◌++◌, map, fold, Option, Some, None, if◌then◌else◌, refl, sym, ◌∙◌, ap, subst, arith, append_assoc, append-nil, nat_eq, inl, inr}
use Rattle.std.proofs.lemmas.Bool.{cases_eq, eq-eqb, ne_eqb}
use Rattle.std.proofs.lemmas.List.Elements.{All-nil}
use Rattle.std.proofs.lemmas.List.Sums.{fold-append}
use Rattle.op_types.specs.Ranges.{IsMember}
use Rattle.op_fields.specs.Form.{encoded}
use Rattle.op_setup.specs.declared.config.Settings.{Settings}
use Rattle.op_runs.specs.Possible.{most_proposals, server_ids}
use Rattle.op_serving.specs.Inputs.{Deed, begins, hears, enters, says, takes}
use Rattle.op_serving.specs.Promise.{Life, newborn, and_then, life}
use Rattle.op_serving.specs.Reopenings.{FindStored}
use Rattle.op_serving.specs.Turns.{hello}
use Rattle.op_connections.proofs.Coming.{life_more}
use Rattle.op_cluster_laws.specs.Clusters.{IsLife, MayHappen, IsCluster, end_at}
use Rattle.op_cluster_laws.specs.Lives.{Serves}
use Rattle.op_cluster_laws.specs.Nets.{ReadsPeer}
use Rattle.op_cluster_laws.specs.Readings.{began_then, began}
use Rattle.op_cluster_laws.specs.Traces.{Event, does, Happened, Lived, lived_by, lived_then, lived_at, first_life, messages_behind, proposed_behind}
use Rattle.op_cluster_laws.proofs.Lists.{Each, each_all}
use Rattle.op_linear.specs.Inhabited.{one, spare, none_failed}
use Rattle.op_linear.proofs.Worked.{find_front, serves_front, no_line, no_luck}

head_is : {A : Type 0} (x y : A) (xs ys : List A) → x ∷ xs ≡ y ∷ ys → x ≡ y
head_is x y xs ys e = cc

tail_is : {A : Type 0} (x y : A) (xs ys : List A) → x ∷ xs ≡ y ∷ ys → xs ≡ ys
tail_is x y xs ys e = cc

cons_is : {A : Type 0} (x y : A) (xs ys : List A) → x ≡ y → xs ≡ ys → x ∷ xs ≡ y ∷ ys
cons_is x y xs ys e f = cc

-- ---- its events

abbrev pub at_one : Event → Happened
at_one e = record { pid = 1; event = e }

abbrev pub ends_in : Lived → List Event → Lived
ends_in l es = fold lived_by l es

-- it is a life, and no connection reads what a peer says
pub record Fine (l : Lived) : Type 0 where
  pub life : IsLife l
  pub alone : (conn : ℕ) → ReadsPeer (record { pid = 1; conn = conn; lived = l }) → ⊥

-- so it is before each of these events, and behind the last, and each may come
abbrev pub Goes : Lived → List Event → Type 0
Goes l [] = Fine l
Goes l (e ∷ es) = Fine l × MayHappen l e × Goes (lived_by l e) es

goes_first : (l : Lived) (es : List Event) → Goes l es → Fine l
goes_first l [] g = g
goes_first l (e ∷ es) g = g.0

goes_at : (l : Lived) (first rest : List Event) → Goes l (first ++ rest) → Goes (ends_in l first) rest
goes_at l [] rest g = g
goes_at l (e ∷ first) rest g = goes_at (lived_by l e) first rest g.2

own : (l : Lived) (es : List Event) → fold (lived_then 1) l (map at_one es) ≡ ends_in l es
own l [] = refl
own l (e ∷ es) = own (lived_by l e) es

other : (l : Lived) (es : List Event) → fold (lived_then 2) l (map at_one es) ≡ l
other l [] = refl
other l (e ∷ es) = other l es

record CutAt (es : List Event) (now later : List Happened) : Type 0 where
  first : List Event
  rest : List Event
  split : es ≡ first ++ rest
  now_is : now ≡ map at_one first
  later_is : later ≡ map at_one rest

cut_at : (es : List Event) (now later : List Happened) → map at_one es ≡ now ++ later → CutAt es now later
cut_at es [] later e = record { first = []; rest = es; split = refl; now_is = refl; later_is = sym e }
cut_at [] (x ∷ now) later e = absurd cc
cut_at (d ∷ es) (x ∷ now) later e =
    let k = cut_at es now later (tail_is (at_one d) x (map at_one es) (now ++ later) e) in
    record {
      first = d ∷ k.first;
      rest = k.rest;
      split = ap (λ l. d ∷ l) k.split;
      now_is = cons_is x (at_one d) now (map at_one k.first) (sym (head_is (at_one d) x (map at_one es) (now ++ later) e)) k.now_is;
      later_is = k.later_is;
    }

-- ---- a cluster

abbrev pub born : Lived
born = first_life one [] none_failed 1

two_nodes : (p : ℕ) → IsMember (server_ids one spare []) p → (p ≡ 1) ⊎ (p ≡ 2)
two_nodes p h = elim (cases_eq p 1) [
  | inl e ↦ inl e
  | inr n ↦ elim (cases_eq p 2) [
    | inl e ↦ inr e
    | inr m ↦ absurd (let first : nat_eq p 1 ≡ false = ne_eqb p 1 n in let second : nat_eq p 2 ≡ false = ne_eqb p 2 m in let bad : false ≡ true = rw (first, second) at h in cc)
  ]
]

-- the spare does nothing
abbrev idle : Settings
idle = record { tick_ms = 100; turns = 10; members = one; peers = []; is_mirrored = false; observers = []; trim_every = None; cluster = None }

idle_life : IsLife (first_life one [] none_failed 2)
idle_life = record {
  serves = record {
    settings = idle;
    peers = All-nil (λ p. _);
    line = no_line;
    luck = no_luck;
    start = 0;
    answers = [];
    fit = tt;
    later = [];
    are = refl;
  };
  stored = tt;
}

idle_reads : (conn : ℕ) → ReadsPeer (record { pid = 2; conn = conn; lived = first_life one [] none_failed 2 }) → ⊥
idle_reads conn (inl k) = absurd (k.1 refl)
idle_reads conn (inr k) = absurd (let bad = k.0 in cc)

pub record Ranges (es : List Event) : Type 0 where
  pub messages : messages_behind one [] none_failed [] (map at_one es) < 2 ^ 64
  pub proposals : proposed_behind one [] none_failed [] (map at_one es) < most_proposals

module _ (es : List Event) (goes : Goes born es) (few : Ranges es) where
  lived_one : (now later : List Happened) (k : CutAt es now later) (p : ℕ) → p ≡ 1 → lived_at one [] none_failed p now ≡ ends_in born k.first
  lived_one now later k p e =
      ap (λ q. lived_at one [] none_failed q now) e ∙ ap (λ t. lived_at one [] none_failed 1 t) k.now_is ∙ own born k.first

  lived_two : (now later : List Happened) (k : CutAt es now later) (p : ℕ) → p ≡ 2 → lived_at one [] none_failed p now ≡ first_life one [] none_failed 2
  lived_two now later k p e =
      ap (λ q. lived_at one [] none_failed q now) e ∙ ap (λ t. lived_at one [] none_failed 2 t) k.now_is ∙ other (first_life one [] none_failed 2) k.first

  goes_then : (now later : List Happened) (k : CutAt es now later) → Goes (ends_in born k.first) k.rest
  goes_then now later k = goes_at born k.first k.rest (subst (Goes born) k.split goes)

  fine_then : (now later : List Happened) (k : CutAt es now later) → Fine (ends_in born k.first)
  fine_then now later k = goes_first (ends_in born k.first) k.rest (goes_then now later k)

  nodes_each : (fs : List Event) → Each (λ x. IsMember (server_ids one spare []) x.pid) (map at_one fs)
  nodes_each [] = tt
  nodes_each (e ∷ fs) = (refl, nodes_each fs)

  next_may : (x : Happened) (later : List Happened) (l : Lived) (rest : List Event) → x ∷ later ≡ map at_one rest → Goes l rest → (x.pid ≡ 1) × MayHappen l x.event
  next_may x later l [] e g = absurd cc
  next_may x later l (d ∷ rest) e g =
      let same : x ≡ at_one d = head_is x (at_one d) later (map at_one rest) e in
      (ap (λ (y : Happened). y.pid) same, subst (λ (y : Happened). MayHappen l y.event) (sym same) g.1)

  pub a_cluster : IsCluster one spare [] none_failed (map at_one es)
  a_cluster = record {
    nodes = each_all (λ x. IsMember (server_ids one spare []) x.pid) (map at_one es) (nodes_each es);
    lives = λ now later split p is.
        (let k = cut_at es now later split in elim (two_nodes p is) [
          | inl e ↦ subst IsLife (sym (lived_one now later k p e)) (fine_then now later k).life
          | inr e ↦ subst IsLife (sym (lived_two now later k p e)) idle_life
        ]);
    may = λ now later x split.
        (let k = cut_at es now (x ∷ later) split in
        let n = next_may x later (ends_in born k.first) k.rest k.later_is (goes_then now (x ∷ later) k) in
        subst (λ l. MayHappen l x.event) (sym (lived_one now (x ∷ later) k x.pid n.0)) n.1);
    joined = λ now later split p conn is reads.
        (let k = cut_at es now later split in elim (two_nodes p is) [
          | inl e ↦ absurd ((fine_then now later k).alone conn (subst (λ (l : Lived). ReadsPeer (record { pid = 1; conn = conn; lived = l })) (lived_one now later k 1 refl)
              (subst (λ q. ReadsPeer (end_at one [] none_failed q conn now)) e reads)))
          | inr e ↦ absurd (idle_reads conn (subst (λ (l : Lived). ReadsPeer (record { pid = 2; conn = conn; lived = l })) (lived_two now later k 2 refl)
              (subst (λ q. ReadsPeer (end_at one [] none_failed q conn now)) e reads)))
        ]);
    messages = few.messages;
    proposals = few.proposals;
  }

-- ---- nothing that it reads is a peer's

-- an accepted connection that has read nothing, or what begins as a client's does
abbrev pub Mild : Option (List ℕ) → List ℕ → Type 0
Mild o heard = ((o ≡ None) ⊎ (o ≡ Some [])) × ((heard ≡ []) ⊎ ((rest : List ℕ) × (heard ≡ 67 ∷ rest)))

abbrev pub AllMild : List Deed → Type 0
AllMild ds = (conn : ℕ) → Mild (began conn ds) (life conn ds).heard

-- a connection begins as an accepted one, and reads what a client says
abbrev pub IsMild : List Deed → Deed → Type 0
IsMild ds (begins c greeting) = greeting ≡ []
IsMild ds (hears c bytes) = ((rest : List ℕ) × (bytes ≡ 67 ∷ rest)) ⊎ ((rest : List ℕ) × ((life c ds).heard ≡ 67 ∷ rest))
IsMild ds d = Unit {0}

abbrev pub AreMild : List Deed → List Deed → Type 0
AreMild early [] = Unit {0}
AreMild early (d ∷ ds) = IsMild early d × AreMild (early ++ d ∷ []) ds

mild_alone : (l : Lived) → AllMild l.deeds → (conn : ℕ) → ReadsPeer (record { pid = 1; conn = conn; lived = l }) → ⊥
unfolding hello encoded
mild_alone l mild conn (inl k) = elim (mild conn).0 [
  | inl none ↦ absurd (let bad : None ≡ Some (hello 1) = sym none ∙ k.0 in cc)
  | inr accepted ↦ absurd (let bad : Some [] ≡ Some (hello 1) = sym accepted ∙ k.0 in cc)
]
mild_alone l mild conn (inr k) = elim (mild conn).1 [
  | inl nothing ↦ absurd (let bad : [] ≡ 81 ∷ k.1.0 = sym nothing ∙ k.1.1 in cc)
  | inr client ↦ absurd (let both : 67 ∷ client.0 ≡ 81 ∷ k.1.0 = sym client.1 ∙ k.1.1 in let byte = head_is 67 81 client.0 k.1.0 both in omega (arith, byte))
]

life_push : (conn : ℕ) (ds : List Deed) (d : Deed) → life conn (ds ++ d ∷ []) ≡ and_then conn (life conn ds) d
life_push conn ds d = life_more conn ds (d ∷ [])

began_push : (conn : ℕ) (ds : List Deed) (d : Deed) → began conn (ds ++ d ∷ []) ≡ began_then conn (began conn ds) d
began_push conn ds d = fold-append (began_then conn) None ds (d ∷ [])

mild_then : (conn : ℕ) (ds : List Deed) (d : Deed) → AllMild ds → IsMild ds d → Mild (began_then conn (began conn ds) d) (and_then conn (life conn ds) d).heard
mild_then conn ds (begins c greeting) all is = by_conn (c == conn)
  where
    by_conn : (b : Bool) → Mild (if b then Some greeting else began conn ds) (if b then newborn greeting else life conn ds).heard
    by_conn true = (inr (ap (λ g. Some g) is), inl refl)
    by_conn false = all conn
mild_then conn ds (hears c bytes) all is = (
  (all conn).0,
  elim (cases_eq c conn) [
    | inl same ↦ (let own_one : (c == conn) ≡ true = eq-eqb c conn same in rw own_one (own_bytes same))
    | inr apart ↦ (let none : (c == conn) ≡ false = ne_eqb c conn apart in rw none (rw append-nil (all conn).1))
  ],
)
  where
    own_bytes : c ≡ conn → ((life conn ds).heard ++ bytes ≡ []) ⊎ ((rest : List ℕ) × ((life conn ds).heard ++ bytes ≡ 67 ∷ rest))
    own_bytes e = elim (all conn).1 [
      | inl nothing ↦ elim is [
        | inl client ↦ inr (client.0, ap (λ l. l ++ bytes) nothing ∙ client.1)
        | inr other ↦ inr (other.0 ++ bytes, ap (λ l. l ++ bytes) (ap (λ z. (life z ds).heard) (sym e) ∙ other.1))
      ]
      | inr client ↦ inr (client.0 ++ bytes, ap (λ l. l ++ bytes) client.1)
    ]
mild_then conn ds (enters who i f) all is = all conn
mild_then conn ds (says f) all is = all conn
mild_then conn ds (takes c bytes) all is = all conn

mild_push : (ds : List Deed) (d : Deed) → AllMild ds → IsMild ds d → AllMild (ds ++ d ∷ [])
mild_push ds d all is conn =
    subst (λ o. Mild o (life conn (ds ++ d ∷ [])).heard) (sym (began_push conn ds d))
    (subst (λ (x : Life). Mild (began_then conn (began conn ds) d) x.heard) (sym (life_push conn ds d)) (mild_then conn ds d all is))

pub all_mild : (early ds : List Deed) → AllMild early → AreMild early ds → AllMild (early ++ ds)
all_mild early [] all are = subst AllMild (sym (append-nil early)) all
all_mild early (d ∷ ds) all are = subst AllMild (append_assoc early (d ∷ []) ds) (all_mild (early ++ d ∷ []) ds (mild_push early d all are.0) are.1)

pub none_mild : AllMild []
none_mild conn = (inl refl, inl refl)

-- ---- the deeds of a life

pub fine : (l : Lived) → IsLife l → AllMild l.deeds → Fine l
fine l is mild = record { life = is; alone = mild_alone l mild }

-- it does these, and then comes more
pub goes_by : (l : Lived) (ds : List Deed) (es : List Event) → l.left ≡ None → Serves l.first (l.deeds ++ ds) → FindStored l.first l.unstored (l.deeds ++ ds) → AllMild l.deeds → AreMild l.deeds ds
    → Goes (record l { deeds = l.deeds ++ ds }) es → Goes l (map (λ d. does d) ds ++ es)
goes_by l [] es alive serves found mild are goes = subst (λ xs. Goes (record l { deeds = xs }) es) (append-nil l.deeds) goes
goes_by l (d ∷ ds) es alive serves found mild are goes =
    let m : Lived = lived_by l (does d) in
    let seam : l.deeds ++ d ∷ ds ≡ (l.deeds ++ d ∷ []) ++ ds = sym (append_assoc l.deeds (d ∷ []) ds) in (
      fine l (record { serves = serves_front l.first l.deeds (d ∷ ds) serves; stored = find_front l.first l.unstored l.deeds (d ∷ ds) found }) mild,
      alive,
      goes_by m ds es alive (subst (Serves l.first) seam serves) (subst (FindStored l.first l.unstored) seam found) (mild_push l.deeds d mild are.0) are.1
          (subst (λ xs. Goes (record l { deeds = xs }) es) seam goes),
    )
