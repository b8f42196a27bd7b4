-- Two members, each in its first life, with one connection between them: where each of its ends reads what the other one took, they are a
-- cluster.
use Rattle.std.proofs.Common.{◌≡◌, ◌<◌, ◌^◌, ◌==◌, ◌⊎◌, ℕ, Bool, true, false, List, [], ◌∷◌, ◌++◌, map, fold, Option, Some, None, if◌then◌else◌, refl, sym, ◌∙◌, ap, subst, arith, append_assoc, append-nil, nat_eq, inl, inr}
use Rattle.std.proofs.lemmas.Bool.{cases_eq, eq-eqb, ne_eqb}
use Rattle.std.proofs.lemmas.List.Sums.{fold-append}
use Rattle.op_types.specs.Ranges.{IsMember}
use Rattle.op_fields.specs.Form.{encoded}
use Rattle.op_runs.specs.Possible.{most_proposals, server_ids}
use Rattle.op_serving.specs.Cores.{Standing}
use Rattle.op_serving.specs.Inputs.{Deed, begins, hears, enters, says, takes}
use Rattle.op_serving.specs.Promise.{Life, newborn, and_then, life}
use Rattle.op_serving.specs.Reopenings.{FindStored}
use Rattle.op_serving.specs.Turns.{hello}
use Rattle.op_connections.proofs.Coming.{life_more}
use Rattle.op_cluster_laws.specs.Clusters.{IsLife, MayHappen, IsCluster, end_at}
use Rattle.op_cluster_laws.specs.Lives.{Serves}
use Rattle.op_cluster_laws.specs.Nets.{End, AreJoined, ReadsPeer, IsPrefix}
use Rattle.op_cluster_laws.specs.Readings.{began_then, began}
use Rattle.op_cluster_laws.specs.Traces.{does, Happened, Lived, lived_then, lived_at, first_life, messages_behind, proposed_behind}
use Rattle.op_cluster_laws.proofs.Lists.{Each, each_all}
use Rattle.op_linear.specs.Inhabited.{two, none_failed}
use Rattle.op_linear.proofs.Worked.{find_front, serves_front}
use Rattle.op_linear.proofs.Alone.{Mild}

head_is : {A : Type 0} (x y : A) (xs ys : List A) → x ∷ xs ≡ y ∷ ys → x ≡ y
head_is x y xs ys e = cc

tail_is : {A : Type 0} (x y : A) (xs ys : List A) → x ∷ xs ≡ y ∷ ys → xs ≡ ys
tail_is x y xs ys e = cc

cons_is : {A : Type 0} (x y : A) (xs ys : List A) → x ≡ y → xs ≡ ys → x ∷ xs ≡ y ∷ ys
cons_is x y xs ys e f = cc

-- ---- what happens

-- a deed of node 1, or of node 2
pub data Done : Type 0 where
  by_1 : Deed → Done
  by_2 : Deed → Done

abbrev pub happened : Done → Happened
happened (by_1 d) = record { pid = 1; event = does d }
happened (by_2 d) = record { pid = 2; event = does d }

abbrev pub born : ℕ → Lived
born p = first_life two [] none_failed p

abbrev pub first_of : ℕ → Standing
first_of p = (born p).first

-- a node's among them
unfoldable pub mine_1 : List Done → List Deed
mine_1 [] = []
mine_1 (by_1 d ∷ ss) = d ∷ mine_1 ss
mine_1 (by_2 d ∷ ss) = mine_1 ss

unfoldable pub mine_2 : List Done → List Deed
mine_2 [] = []
mine_2 (by_1 d ∷ ss) = mine_2 ss
mine_2 (by_2 d ∷ ss) = d ∷ mine_2 ss

more_1 : (xs ys : List Done) → mine_1 (xs ++ ys) ≡ mine_1 xs ++ mine_1 ys
unfolding mine_1
more_1 [] ys = refl
more_1 (by_1 d ∷ xs) ys = ap (λ l. d ∷ l) (more_1 xs ys)
more_1 (by_2 d ∷ xs) ys = more_1 xs ys

more_2 : (xs ys : List Done) → mine_2 (xs ++ ys) ≡ mine_2 xs ++ mine_2 ys
unfolding mine_2
more_2 [] ys = refl
more_2 (by_1 d ∷ xs) ys = more_2 xs ys
more_2 (by_2 d ∷ xs) ys = ap (λ l. d ∷ l) (more_2 xs ys)

lived_1 : (l : Lived) (ss : List Done) → fold (lived_then 1) l (map happened ss) ≡ record l { deeds = l.deeds ++ mine_1 ss }
unfolding mine_1
lived_1 l [] = ap (λ z. record l { deeds = z }) (sym (append-nil l.deeds))
lived_1 l (by_1 d ∷ ss) = lived_1 (record l { deeds = l.deeds ++ d ∷ [] }) ss ∙ ap (λ z. record l { deeds = z }) (append_assoc l.deeds (d ∷ []) (mine_1 ss))
lived_1 l (by_2 d ∷ ss) = lived_1 l ss

lived_2 : (l : Lived) (ss : List Done) → fold (lived_then 2) l (map happened ss) ≡ record l { deeds = l.deeds ++ mine_2 ss }
unfolding mine_2
lived_2 l [] = ap (λ z. record l { deeds = z }) (sym (append-nil l.deeds))
lived_2 l (by_1 d ∷ ss) = lived_2 l ss
lived_2 l (by_2 d ∷ ss) = lived_2 (record l { deeds = l.deeds ++ d ∷ [] }) ss ∙ ap (λ z. record l { deeds = z }) (append_assoc l.deeds (d ∷ []) (mine_2 ss))

record Cut (ss : List Done) (now later : List Happened) : Type 0 where
  first : List Done
  rest : List Done
  split : ss ≡ first ++ rest
  now_is : now ≡ map happened first
  later_is : later ≡ map happened rest

cut : (ss : List Done) (now later : List Happened) → map happened ss ≡ now ++ later → Cut ss now later
cut ss [] later e = record { first = []; rest = ss; split = refl; now_is = refl; later_is = sym e }
cut [] (x ∷ now) later e = absurd cc
cut (s ∷ ss) (x ∷ now) later e =
    let k = cut ss now later (tail_is (happened s) x (map happened ss) (now ++ later) e) in
    record {
      first = s ∷ k.first;
      rest = k.rest;
      split = ap (λ l. s ∷ l) k.split;
      now_is = cons_is x (happened s) now (map happened k.first) (sym (head_is (happened s) x (map happened ss) (now ++ later) e)) k.now_is;
      later_is = k.later_is;
    }

-- ---- one connection

-- Node 1 knows it by 4, and node 2, which dialled it, by 5. Each end has read a first part of what the other took; and all other connections
-- are clients'.
pub record Linked (d1 d2 : List Deed) : Type 0 where
  pub onward : IsPrefix (life 4 d1).heard (life 5 d2).taken
  pub back : IsPrefix (life 5 d2).heard (life 4 d1).taken
  pub ends : (((life 4 d1).heard ≡ []) × ((life 5 d2).heard ≡ [])) ⊎ ((began 4 d1 ≡ Some []) × (began 5 d2 ≡ Some (hello 2)))
  pub clients_1 : (conn : ℕ) → (conn ≡ 4 → ⊥) → Mild (began conn d1) (life conn d1).heard
  pub clients_2 : (conn : ℕ) → (conn ≡ 5 → ⊥) → Mild (began conn d2) (life conn d2).heard

-- what keeps it so: of a connection that begins and is read its own end, and of another one that it is a client's
abbrev pub Keeps1 : List Deed → List Deed → Deed → Type 0
Keeps1 d1 d2 (begins c greeting) = (greeting ≡ []) × ((c ≡ 4 → ⊥) ⊎ ((c ≡ 4) × ((life 5 d2).heard ≡ [])))
Keeps1 d1 d2 (hears c bytes) =
    ((c ≡ 4 → ⊥) × ((rest : List ℕ) × (bytes ≡ 67 ∷ rest)) × ((life c d1).heard ≡ []))
    ⊎ ((c ≡ 4) × IsPrefix ((life 4 d1).heard ++ bytes) (life 5 d2).taken × (began 4 d1 ≡ Some []) × (began 5 d2 ≡ Some (hello 2)))
Keeps1 d1 d2 d = Unit {0}

abbrev pub Keeps2 : List Deed → List Deed → Deed → Type 0
Keeps2 d1 d2 (begins c greeting) = (c ≡ 5) × ((life 4 d1).heard ≡ [])
Keeps2 d1 d2 (hears c bytes) = (c ≡ 5) × IsPrefix ((life 5 d2).heard ++ bytes) (life 4 d1).taken × (began 4 d1 ≡ Some []) × (began 5 d2 ≡ Some (hello 2))
Keeps2 d1 d2 d = Unit {0}

life_push : (conn : ℕ) (ds : List Deed) (d : Deed) → life conn (ds ++ d ∷ []) ≡ and_then conn (life conn ds) d
life_push conn ds d = life_more conn ds (d ∷ [])

began_push : (conn : ℕ) (ds : List Deed) (d : Deed) → began conn (ds ++ d ∷ []) ≡ began_then conn (began conn ds) d
began_push conn ds d = fold-append (began_then conn) None ds (d ∷ [])

-- the two ends of a connection, by what each has read and taken, and by how it began
abbrev Pair : Life → Option (List ℕ) → Life → Option (List ℕ) → Type 0
Pair x o y u =
    IsPrefix x.heard y.taken × IsPrefix y.heard x.taken × (((x.heard ≡ []) × (y.heard ≡ [])) ⊎ ((o ≡ Some []) × (u ≡ Some (hello 2))))

pair_of : (d1 d2 : List Deed) → Linked d1 d2 → Pair (life 4 d1) (began 4 d1) (life 5 d2) (began 5 d2)
pair_of d1 d2 k = (k.onward, k.back, k.ends)

longer : (xs ys zs : List ℕ) → IsPrefix xs ys → IsPrefix xs (ys ++ zs)
longer xs ys zs p = (p.0 ++ zs, ap (λ l. l ++ zs) p.1 ∙ append_assoc xs p.0 zs)

same : (x : List ℕ) → x ++ [] ≡ x
same x = append-nil x

step_1 : (d1 d2 : List Deed) (d : Deed) → Keeps1 d1 d2 d → Pair (life 4 d1) (began 4 d1) (life 5 d2) (began 5 d2)
    → Pair (and_then 4 (life 4 d1) d) (began_then 4 (began 4 d1) d) (life 5 d2) (began 5 d2)
step_1 d1 d2 (begins c greeting) (none, inl apart) p = rw (ne_eqb c 4 apart) p
step_1 d1 d2 (begins c greeting) (none, inr own) p = rw (eq-eqb c 4 own.0) (((life 5 d2).taken, refl), ([], sym (append-nil (life 5 d2).heard ∙ own.1)), inl (refl, own.1))
step_1 d1 d2 (hears c bytes) (inl other) p = rw (ne_eqb c 4 other.0) (rw append-nil p)
step_1 d1 d2 (hears c bytes) (inr own) p = rw (eq-eqb c 4 own.0) (own.1, p.1, inr (own.2, own.3))
step_1 d1 d2 (enters who i f) k p = p
step_1 d1 d2 (says f) k p = p
step_1 d1 d2 (takes c bytes) k p = (p.0, longer (life 5 d2).heard (life 4 d1).taken (if c == 4 then bytes else []) p.1, p.2)

step_2 : (d1 d2 : List Deed) (d : Deed) → Keeps2 d1 d2 d → Pair (life 4 d1) (began 4 d1) (life 5 d2) (began 5 d2)
    → Pair (life 4 d1) (began 4 d1) (and_then 5 (life 5 d2) d) (began_then 5 (began 5 d2) d)
step_2 d1 d2 (begins c greeting) own p = rw (eq-eqb c 5 own.0) (([], sym (append-nil (life 4 d1).heard ∙ own.1)), ((life 4 d1).taken, refl), inl (own.1, refl))
step_2 d1 d2 (hears c bytes) own p = rw (eq-eqb c 5 own.0) (p.0, own.1, inr (own.2, own.3))
step_2 d1 d2 (enters who i f) k p = p
step_2 d1 d2 (says f) k p = p
step_2 d1 d2 (takes c bytes) k p = (longer (life 4 d1).heard (life 5 d2).taken (if c == 5 then bytes else []) p.0, p.1, p.2)

mild_1 : (d1 d2 : List Deed) (d : Deed) (conn : ℕ) → (conn ≡ 4 → ⊥) → Keeps1 d1 d2 d → Mild (began conn d1) (life conn d1).heard
    → Mild (began_then conn (began conn d1) d) (and_then conn (life conn d1) d).heard
mild_1 d1 d2 (begins c greeting) conn apart k m = by_conn (c == conn)
  where
    by_conn : (b : Bool) → Mild (if b then Some greeting else began conn d1) (if b then newborn greeting else life conn d1).heard
    by_conn true = (inr (ap (λ g. Some g) k.0), inl refl)
    by_conn false = m
mild_1 d1 d2 (hears c bytes) conn apart k m = elim (cases_eq c conn) [
  | inl e ↦ (
    m.0,
    rw (eq-eqb c conn e) (elim k [
      | inl client ↦ inr (client.1.0, ap (λ l. l ++ bytes) (ap (λ z. (life z d1).heard) (sym e) ∙ client.2) ∙ client.1.1)
      | inr own ↦ absurd (apart (sym e ∙ own.0))
    ]),
  )
  | inr n ↦ (m.0, rw (ne_eqb c conn n) (rw append-nil m.1))
]
mild_1 d1 d2 (enters who i f) conn apart k m = m
mild_1 d1 d2 (says f) conn apart k m = m
mild_1 d1 d2 (takes c bytes) conn apart k m = m

mild_2 : (d1 d2 : List Deed) (d : Deed) (conn : ℕ) → (conn ≡ 5 → ⊥) → Keeps2 d1 d2 d → Mild (began conn d2) (life conn d2).heard
    → Mild (began_then conn (began conn d2) d) (and_then conn (life conn d2) d).heard
mild_2 d1 d2 (begins c greeting) conn apart k m = let none : (c == conn) ≡ false = ne_eqb c conn (λ e. apart (sym e ∙ k.0)) in rw none m
mild_2 d1 d2 (hears c bytes) conn apart k m = let none : (c == conn) ≡ false = ne_eqb c conn (λ e. apart (sym e ∙ k.0)) in (m.0, rw none (rw append-nil m.1))
mild_2 d1 d2 (enters who i f) conn apart k m = m
mild_2 d1 d2 (says f) conn apart k m = m
mild_2 d1 d2 (takes c bytes) conn apart k m = m

linked_1 : (d1 d2 : List Deed) (d : Deed) → Linked d1 d2 → Keeps1 d1 d2 d → Linked (d1 ++ d ∷ []) d2
linked_1 d1 d2 d l k =
    let p = subst (λ x. Pair x (began 4 (d1 ++ d ∷ [])) (life 5 d2) (began 5 d2)) (sym (life_push 4 d1 d))
    (subst (λ o. Pair (and_then 4 (life 4 d1) d) o (life 5 d2) (began 5 d2)) (sym (began_push 4 d1 d)) (step_1 d1 d2 d k (pair_of d1 d2 l))) in
    record {
      onward = p.0;
      back = p.1;
      ends = p.2;
      clients_1 = λ conn apart. subst (λ (x : Life). Mild (began conn (d1 ++ d ∷ [])) x.heard) (sym (life_push conn d1 d))
          (subst (λ o. Mild o (and_then conn (life conn d1) d).heard) (sym (began_push conn d1 d)) (mild_1 d1 d2 d conn apart k (l.clients_1 conn apart)));
      clients_2 = l.clients_2;
    }

linked_2 : (d1 d2 : List Deed) (d : Deed) → Linked d1 d2 → Keeps2 d1 d2 d → Linked d1 (d2 ++ d ∷ [])
linked_2 d1 d2 d l k =
    let p = subst (λ x. Pair (life 4 d1) (began 4 d1) x (began 5 (d2 ++ d ∷ []))) (sym (life_push 5 d2 d))
    (subst (λ o. Pair (life 4 d1) (began 4 d1) (and_then 5 (life 5 d2) d) o) (sym (began_push 5 d2 d)) (step_2 d1 d2 d k (pair_of d1 d2 l))) in
    record {
      onward = p.0;
      back = p.1;
      ends = p.2;
      clients_1 = l.clients_1;
      clients_2 = λ conn apart. subst (λ (x : Life). Mild (began conn (d2 ++ d ∷ [])) x.heard) (sym (life_push conn d2 d))
          (subst (λ o. Mild o (and_then conn (life conn d2) d).heard) (sym (began_push conn d2 d)) (mild_2 d1 d2 d conn apart k (l.clients_2 conn apart)));
    }

-- so each of these keeps it, one after the other
abbrev pub AllKeep : List Deed → List Deed → List Done → Type 0
AllKeep d1 d2 [] = Unit {0}
AllKeep d1 d2 (by_1 d ∷ ss) = Keeps1 d1 d2 d × AllKeep (d1 ++ d ∷ []) d2 ss
AllKeep d1 d2 (by_2 d ∷ ss) = Keeps2 d1 d2 d × AllKeep d1 (d2 ++ d ∷ []) ss

linked : (d1 d2 : List Deed) (first rest : List Done) → Linked d1 d2 → AllKeep d1 d2 (first ++ rest) → Linked (d1 ++ mine_1 first) (d2 ++ mine_2 first)
unfolding mine_1 mine_2
linked d1 d2 [] rest l k = subst (λ z. Linked z (d2 ++ [])) (sym (append-nil d1)) (subst (λ z. Linked d1 z) (sym (append-nil d2)) l)
linked d1 d2 (by_1 d ∷ first) rest l k =
    subst (λ z. Linked z (d2 ++ mine_2 first)) (append_assoc d1 (d ∷ []) (mine_1 first)) (linked (d1 ++ d ∷ []) d2 first rest (linked_1 d1 d2 d l k.0) k.1)
linked d1 d2 (by_2 d ∷ first) rest l k =
    subst (λ z. Linked (d1 ++ mine_1 first) z) (append_assoc d2 (d ∷ []) (mine_2 first)) (linked d1 (d2 ++ d ∷ []) first rest (linked_2 d1 d2 d l k.0) k.1)

none_linked : Linked [] []
none_linked = record {
  onward = ([], refl);
  back = ([], refl);
  ends = inl (refl, refl);
  clients_1 = λ conn apart. (inl refl, inl refl);
  clients_2 = λ conn apart. (inl refl, inl refl);
}

-- ---- they are a cluster

abbrev life_of : ℕ → List Deed → Lived
life_of p ds = record (born p) { deeds = ds }

abbrev end_of : ℕ → ℕ → List Deed → End
end_of p conn ds = record { pid = p; conn = conn; lived = life_of p ds }

pub two_nodes : (p : ℕ) → IsMember (server_ids two [] []) p → (p ≡ 1) ⊎ (p ≡ 2)
two_nodes p h = elim (cases_eq p 1) [
  | inl e ↦ inl e
  | inr n ↦ elim (cases_eq p 2) [
    | inl e ↦ inr e
    | inr m ↦ absurd (let first : nat_eq p 1 ≡ false = ne_eqb p 1 n in let second : nat_eq p 2 ≡ false = ne_eqb p 2 m in let bad : false ≡ true = rw (first, second) at h in cc)
  ]
]

-- a client's connection reads nothing that a peer says
mild_reads : (p conn : ℕ) (ds : List Deed) → Mild (began conn ds) (life conn ds).heard → ReadsPeer (end_of p conn ds) → ⊥
unfolding hello encoded
mild_reads p conn ds m (inl k) = elim m.0 [
  | inl none ↦ absurd (let bad : None ≡ Some (hello p) = sym none ∙ k.0 in cc)
  | inr accepted ↦ absurd (let bad : Some [] ≡ Some (hello p) = sym accepted ∙ k.0 in cc)
]
mild_reads p conn ds m (inr k) = elim m.1 [
  | inl nothing ↦ absurd (let bad : [] ≡ 81 ∷ k.1.0 = sym nothing ∙ k.1.1 in cc)
  | inr client ↦ absurd (let both : 67 ∷ client.0 ≡ 81 ∷ k.1.0 = sym client.1 ∙ k.1.1 in let byte = head_is 67 81 client.0 k.1.0 both in omega (arith, byte))
]

joined_1 : (d1 d2 : List Deed) → Linked d1 d2 → ReadsPeer (end_of 1 4 d1) → AreJoined (end_of 1 4 d1) (end_of 2 5 d2)
joined_1 d1 d2 l reads = record { ends = by_ends l.ends reads; onward = l.onward; back = l.back }
  where
    by_ends : (((life 4 d1).heard ≡ []) × ((life 5 d2).heard ≡ [])) ⊎ ((began 4 d1 ≡ Some []) × (began 5 d2 ≡ Some (hello 2))) → ReadsPeer (end_of 1 4 d1)
        → ((began 4 d1 ≡ Some (hello 1)) × (began 5 d2 ≡ Some [])) ⊎ ((began 4 d1 ≡ Some []) × (began 5 d2 ≡ Some (hello 2)))
    by_ends (inr both) reads = inr both
    by_ends (inl none) (inl k) = absurd (k.1 none.0)
    by_ends (inl none) (inr k) = absurd (let bad : [] ≡ 81 ∷ k.1.0 = sym none.0 ∙ k.1.1 in cc)

joined_2 : (d1 d2 : List Deed) → Linked d1 d2 → ReadsPeer (end_of 2 5 d2) → AreJoined (end_of 2 5 d2) (end_of 1 4 d1)
joined_2 d1 d2 l reads = record { ends = by_ends l.ends reads; onward = l.back; back = l.onward }
  where
    by_ends : (((life 4 d1).heard ≡ []) × ((life 5 d2).heard ≡ [])) ⊎ ((began 4 d1 ≡ Some []) × (began 5 d2 ≡ Some (hello 2))) → ReadsPeer (end_of 2 5 d2)
        → ((began 5 d2 ≡ Some (hello 2)) × (began 4 d1 ≡ Some [])) ⊎ ((began 5 d2 ≡ Some []) × (began 4 d1 ≡ Some (hello 1)))
    by_ends (inr both) reads = inl (both.1, both.0)
    by_ends (inl none) (inl k) = absurd (k.1 none.1)
    by_ends (inl none) (inr k) = absurd (let bad : [] ≡ 81 ∷ k.1.0 = sym none.1 ∙ k.1.1 in cc)

pub record Ranges (ss : List Done) : Type 0 where
  pub messages : messages_behind two [] none_failed [] (map happened ss) < 2 ^ 64
  pub proposals : proposed_behind two [] none_failed [] (map happened ss) < most_proposals

module _ (ss : List Done) (serves_1 : Serves (first_of 1) (mine_1 ss)) (serves_2 : Serves (first_of 2) (mine_2 ss)) (found_1 : FindStored (first_of 1) (born 1).unstored (mine_1 ss))
    (found_2 : FindStored (first_of 2) (born 2).unstored (mine_2 ss)) (keep : AllKeep [] [] ss) (few : Ranges ss) where
  at_1 : (now later : List Happened) (k : Cut ss now later) (p : ℕ) → p ≡ 1 → lived_at two [] none_failed p now ≡ life_of 1 (mine_1 k.first)
  at_1 now later k p e = ap (λ q. lived_at two [] none_failed q now) e ∙ ap (λ t. lived_at two [] none_failed 1 t) k.now_is ∙ lived_1 (born 1) k.first

  at_2 : (now later : List Happened) (k : Cut ss now later) (p : ℕ) → p ≡ 2 → lived_at two [] none_failed p now ≡ life_of 2 (mine_2 k.first)
  at_2 now later k p e = ap (λ q. lived_at two [] none_failed q now) e ∙ ap (λ t. lived_at two [] none_failed 2 t) k.now_is ∙ lived_2 (born 2) k.first

  life_1 : (first rest : List Done) → ss ≡ first ++ rest → IsLife (life_of 1 (mine_1 first))
  life_1 first rest e =
      let seam : mine_1 ss ≡ mine_1 first ++ mine_1 rest = ap mine_1 e ∙ more_1 first rest in
      record {
        serves = serves_front (first_of 1) (mine_1 first) (mine_1 rest) (subst (Serves (first_of 1)) seam serves_1);
        stored = find_front (first_of 1) (born 1).unstored (mine_1 first) (mine_1 rest) (subst (FindStored (first_of 1) (born 1).unstored) seam found_1);
      }

  life_2 : (first rest : List Done) → ss ≡ first ++ rest → IsLife (life_of 2 (mine_2 first))
  life_2 first rest e =
      let seam : mine_2 ss ≡ mine_2 first ++ mine_2 rest = ap mine_2 e ∙ more_2 first rest in
      record {
        serves = serves_front (first_of 2) (mine_2 first) (mine_2 rest) (subst (Serves (first_of 2)) seam serves_2);
        stored = find_front (first_of 2) (born 2).unstored (mine_2 first) (mine_2 rest) (subst (FindStored (first_of 2) (born 2).unstored) seam found_2);
      }

  linked_at : (now later : List Happened) (k : Cut ss now later) → Linked (mine_1 k.first) (mine_2 k.first)
  linked_at now later k = linked [] [] k.first k.rest none_linked (subst (λ z. AllKeep [] [] z) k.split keep)

  nodes_each : (ds : List Done) → Each (λ x. IsMember (server_ids two [] []) x.pid) (map happened ds)
  nodes_each [] = tt
  nodes_each (by_1 d ∷ ds) = (refl, nodes_each ds)
  nodes_each (by_2 d ∷ ds) = (refl, nodes_each ds)

  may_be : (now later : List Happened) (k : Cut ss now later) (s : Done) → MayHappen (lived_at two [] none_failed (happened s).pid now) (happened s).event
  may_be now later k (by_1 d) = ap (λ (l : Lived). l.left) (at_1 now later k 1 refl)
  may_be now later k (by_2 d) = ap (λ (l : Lived). l.left) (at_2 now later k 2 refl)

  next_is : (x : Happened) (later : List Happened) (rest : List Done) → x ∷ later ≡ map happened rest → (s : Done) × (x ≡ happened s)
  next_is x later [] e = absurd cc
  next_is x later (s ∷ rest) e = (s, head_is x (happened s) later (map happened rest) e)

  -- an end at another node
  abbrev Meets : List Happened → End → Type 0
  Meets now a = (q other : ℕ) × (before since : List Happened) × IsMember (server_ids two [] []) q × (now ≡ before ++ since) × AreJoined a (end_at two [] none_failed q other before)

  meets_1 : (now later : List Happened) (k : Cut ss now later) (conn : ℕ) → ReadsPeer (end_of 1 conn (mine_1 k.first)) → Meets now (end_of 1 conn (mine_1 k.first))
  meets_1 now later k conn reads = elim (cases_eq conn 4) [
    | inl e ↦ (
      2,
      5,
      now,
      [],
      refl,
      sym (append-nil now),
      subst (λ (l : Lived). AreJoined (end_of 1 conn (mine_1 k.first)) (record { pid = 2; conn = 5; lived = l })) (sym (at_2 now later k 2 refl))
          (subst (λ c. AreJoined (end_of 1 c (mine_1 k.first)) (end_of 2 5 (mine_2 k.first))) (sym e)
          (joined_1 (mine_1 k.first) (mine_2 k.first) (linked_at now later k) (subst (λ c. ReadsPeer (end_of 1 c (mine_1 k.first))) e reads))),
    )
    | inr n ↦ absurd (mild_reads 1 conn (mine_1 k.first) ((linked_at now later k).clients_1 conn n) reads)
  ]

  meets_2 : (now later : List Happened) (k : Cut ss now later) (conn : ℕ) → ReadsPeer (end_of 2 conn (mine_2 k.first)) → Meets now (end_of 2 conn (mine_2 k.first))
  meets_2 now later k conn reads = elim (cases_eq conn 5) [
    | inl e ↦ (
      1,
      4,
      now,
      [],
      refl,
      sym (append-nil now),
      subst (λ (l : Lived). AreJoined (end_of 2 conn (mine_2 k.first)) (record { pid = 1; conn = 4; lived = l })) (sym (at_1 now later k 1 refl))
          (subst (λ c. AreJoined (end_of 2 c (mine_2 k.first)) (end_of 1 4 (mine_1 k.first))) (sym e)
          (joined_2 (mine_1 k.first) (mine_2 k.first) (linked_at now later k) (subst (λ c. ReadsPeer (end_of 2 c (mine_2 k.first))) e reads))),
    )
    | inr n ↦ absurd (mild_reads 2 conn (mine_2 k.first) ((linked_at now later k).clients_2 conn n) reads)
  ]

  meets : (now later : List Happened) (k : Cut ss now later) (p conn : ℕ) → (p ≡ 1) ⊎ (p ≡ 2) → ReadsPeer (end_at two [] none_failed p conn now) → Meets now (end_at two [] none_failed p conn now)
  meets now later k p conn (inl e) reads =
      let here : end_at two [] none_failed p conn now ≡ end_of 1 conn (mine_1 k.first)
      = ap (λ q. end_at two [] none_failed q conn now) e ∙ ap (λ (l : Lived). record { pid = 1; conn = conn; lived = l }) (at_1 now later k 1 refl) in
      subst (Meets now) (sym here) (meets_1 now later k conn (subst ReadsPeer here reads))
  meets now later k p conn (inr e) reads =
      let here : end_at two [] none_failed p conn now ≡ end_of 2 conn (mine_2 k.first)
      = ap (λ q. end_at two [] none_failed q conn now) e ∙ ap (λ (l : Lived). record { pid = 2; conn = conn; lived = l }) (at_2 now later k 2 refl) in
      subst (Meets now) (sym here) (meets_2 now later k conn (subst ReadsPeer here reads))

  pub a_cluster : IsCluster two [] [] none_failed (map happened ss)
  a_cluster = record {
    nodes = each_all (λ x. IsMember (server_ids two [] []) x.pid) (map happened ss) (nodes_each ss);
    lives = λ now later split p is.
        (let k = cut ss now later split in elim (two_nodes p is) [
          | inl e ↦ subst IsLife (sym (at_1 now later k p e)) (life_1 k.first k.rest k.split)
          | inr e ↦ subst IsLife (sym (at_2 now later k p e)) (life_2 k.first k.rest k.split)
        ]);
    may = λ now later x split.
        (let k = cut ss now (x ∷ later) split in let s = next_is x later k.rest k.later_is in
        subst (λ (y : Happened). MayHappen (lived_at two [] none_failed y.pid now) y.event) (sym s.1) (may_be now (x ∷ later) k s.0));
    joined = λ now later split p conn is reads. meets now later (cut ss now later split) p conn (two_nodes p is) reads;
    messages = few.messages;
    proposals = few.proposals;
  }
