-- Behind a command of a client its number is kept until another client forgets it, and a number that isn't above it changes
-- nothing. Each answer that tells a result is that of a place where the command takes effect.
use Rattle.std.proofs.Common.{◌≡◌, ◌≤◌, ◌<◌, ℕ, Bool, true, false, cond, eqb, ltb, nat_lt, List, [], ◌∷◌, ◌++◌, Option, Some, None, refl, sym, ◌∙◌, ap, subst, arith, append_assoc, append-nil, ◌⊎◌, inl, inr}
use Rattle.std.specs.Ordering.{nat_cmp, match_ordering}
use Rattle.std.specs.declared.cmp.Ordering.{Ordering}
use Rattle.std.specs.declared.cmp.Ordering.TheVariants.{Less, Equal, Greater}
use Rattle.std.specs.Map.{lookup, remove_entry}
use Rattle.std.specs.BTreeMap.{insert_entry, is_at}
use Rattle.std.proofs.lemmas.Bool.{cond_both, cases_Bool, cases_eq, eq-eqb, ne_eqb, ltb-true, ltb-false, eqb-true, eqb-false}
use Rattle.op_types.specs.declared.answers.Answer.{Answer}
use Rattle.op_types.specs.declared.answers.Answer.TheVariants as answer
use Rattle.op_types.specs.declared.answers.Applied.{Applied}
use Rattle.op_types.specs.declared.log.Op.{Op}
use Rattle.op_types.specs.declared.log.Op.TheVariants as op
use Rattle.op_types.specs.declared.log.Command.{Command}
use Rattle.op_types.specs.declared.log.Entry.{Entry}
use Rattle.op_types.specs.declared.log.StopSign.{StopSign}
use Rattle.op_types.specs.declared.log.Entry.TheVariants as entry
use Rattle.op_spec.specs.Machine.{IsAmong}
use Rattle.op_spec.specs.Service.{Pairs, Clients, Service, value_at, is_value, told_value, new_service, last_of, forgotten_by, clients_without, effect_answer, answer_by_last, answer_of, service_by_last, service_with, service_with_effect, service_after, all_after, service_of}
use Rattle.op_runs.specs.Replies.{IsServed}
use Rattle.op_laws.proofs.Drops.{in_right}
use Rattle.op_linear.specs.Forgetting.{IsForgetOf}
use Rattle.op_linear.specs.Once.{NoneForgets, EffectsComeOnce}
use Rattle.op_linear.specs.Linearizable.{IsResult}

-- ---- a table by numbers

abbrev put : {X : Type 0} → ℕ → X → ℕ × X → List (ℕ × X) → Ordering → List (ℕ × X)
put n v e es o = match_ordering o ((n, v) ∷ e ∷ es) ((e.0, v) ∷ es) (e ∷ insert_entry nat_cmp es n v)

by_place : {X : Type 0} (P : List (ℕ × X) → Type 0) (n : ℕ) (v : X) (e : ℕ × X) (es : List (ℕ × X)) → (n < e.0 → P ((n, v) ∷ e ∷ es)) → (n ≡ e.0 → P ((e.0, v) ∷ es)) → (e.0 < n → P (e ∷ insert_entry nat_cmp es n v))
    → P (insert_entry nat_cmp (e ∷ es) n v)
by_place {X = X} P n v e es less same more =
    cond_both (ltb n e.0) Less (cond (eqb n e.0) Equal Greater) (λ (o : Ordering). P (put n v e es o))
    (λ h. less (ltb-true n e.0 h))
    (λ h. cond_both (eqb n e.0) Equal Greater (λ (o : Ordering). P (put n v e es o))
    (λ k. same (eqb-true n e.0 k))
    (λ k. let le = ltb-false n e.0 h in let other = eqb-false n e.0 k in more (omega arith)))

at_own : (n : ℕ) → is_at (nat_cmp n) n ≡ true
at_own n = let a : ltb n n ≡ false = ltb_own n in let b = eq-eqb n n refl in rw (a, b) refl
  where
    ltb_own : (m : ℕ) → ltb m m ≡ false
    ltb_own m = elim (cases_Bool (ltb m m)) [ inl h ↦ absurd (let bad = ltb-true m m h in omega (arith, bad)) | inr h ↦ h ]

at_other : (m n : ℕ) → (m ≡ n → ⊥) → is_at (nat_cmp m) n ≡ false
at_other m n apart = elim (cases_Bool (ltb m n)) [
  | inl h ↦ rw h refl
  | inr h ↦ (let k = ne_eqb m n apart in rw (h, k) refl)
]

found_own : {X : Type 0} (es : List (ℕ × X)) (n : ℕ) (v : X) → lookup (is_at (nat_cmp n)) (insert_entry nat_cmp es n v) ≡ Some v
found_own {X = X} [] n v = rw (at_own n) refl
found_own {X = X} (e ∷ es) n v =
    by_place (λ l. lookup (is_at (nat_cmp n)) l ≡ Some v) n v e es
    (λ h. rw (at_own n) refl)
    (λ h. let k : is_at (nat_cmp n) e.0 ≡ true = ap (λ m. is_at (nat_cmp n) m) (sym h) ∙ at_own n in rw k refl)
    (λ h. let k = at_other n e.0 (λ same. omega (arith, h, same)) in rw k (found_own es n v))

found_other : {X : Type 0} (es : List (ℕ × X)) (m n : ℕ) (v : X) → (m ≡ n → ⊥) → lookup (is_at (nat_cmp m)) (insert_entry nat_cmp es n v) ≡ lookup (is_at (nat_cmp m)) es
found_other {X = X} [] m n v apart = rw (at_other m n apart) refl
found_other {X = X} (e ∷ es) m n v apart =
    by_place (λ l. lookup (is_at (nat_cmp m)) l ≡ lookup (is_at (nat_cmp m)) (e ∷ es)) n v e es
    (λ h. rw (at_other m n apart) refl)
    (λ h. let k = at_other m e.0 (λ same. apart (same ∙ sym h)) in rw k refl)
    (λ h. ap (λ o. cond (is_at (nat_cmp m) e.0) (Some e.1) o) (found_other es m n v apart))

same_at : (n k : ℕ) → is_at (nat_cmp n) k ≡ true → n ≡ k
same_at n k h = elim (cases_eq n k) [ inl e ↦ e | inr apart ↦ absurd (let bad : true ≡ false = sym h ∙ at_other n k apart in cc) ]

-- what another number has stays where an entry is taken out
found_beside : {X : Type 0} (es : List (ℕ × X)) (m n : ℕ) → (m ≡ n → ⊥) → lookup (is_at (nat_cmp m)) (remove_entry (is_at (nat_cmp n)) es) ≡ lookup (is_at (nat_cmp m)) es
found_beside {X = X} [] m n apart = refl
found_beside {X = X} (e ∷ es) m n apart = by (is_at (nat_cmp n) e.0) refl (found_beside es m n apart)
  where
    by : (b : Bool) → is_at (nat_cmp n) e.0 ≡ b → lookup (is_at (nat_cmp m)) (remove_entry (is_at (nat_cmp n)) es) ≡ lookup (is_at (nat_cmp m)) es
        → lookup (is_at (nat_cmp m)) (cond b es (e ∷ remove_entry (is_at (nat_cmp n)) es)) ≡ lookup (is_at (nat_cmp m)) (e ∷ es)
    by true h rest = let k = at_other m e.0 (λ same. apart (same ∙ sym (same_at n e.0 h))) in rw k refl
    by false h rest = ap (λ o. cond (is_at (nat_cmp m) e.0) (Some e.1) o) rest

-- what stands in a table behind one that is put into it, or taken out of it
among_put : {X : Type 0} (es : List (ℕ × X)) (n : ℕ) (v : X) (x : ℕ × X) → IsAmong (insert_entry nat_cmp es n v) x → ◌≡◌ {A = ℕ × X} (n, v) x ⊎ IsAmong es x
among_put {X = X} [] n v x (inl is) = inl is
among_put {X = X} [] n v x (inr none) = absurd none
among_put {X = X} (e ∷ es) n v x k =
    by_place (λ l. IsAmong l x → ◌≡◌ {A = ℕ × X} (n, v) x ⊎ IsAmong (e ∷ es) x) n v e es
    (λ h i. i)
    (λ h i. elim i [ inl is ↦ inl (ap (λ m. (m, v)) h ∙ is) | inr later ↦ inr (inr later) ])
    (λ h i. elim i [ inl is ↦ inr (inl is) | inr later ↦ elim (among_put es n v x later) [ inl new ↦ inl new | inr old ↦ inr (inr old) ] ])
    k

among_left : {X : Type 0} (test : ℕ → Bool) (es : List (ℕ × X)) (x : ℕ × X) → IsAmong (remove_entry test es) x → IsAmong es x
among_left {X = X} test [] x k = k
among_left {X = X} test (e ∷ es) x k = by (test e.0) (λ m. among_left test es x m) k
  where
    by : (b : Bool) → (IsAmong (remove_entry test es) x → IsAmong es x) → IsAmong (cond b es (e ∷ remove_entry test es)) x → IsAmong (e ∷ es) x
    by true later m = inr m
    by false later (inl is) = inl is
    by false later (inr m) = inr (later m)

among_found : {X : Type 0} (es : List (ℕ × X)) (n : ℕ) (v : X) → lookup (is_at (nat_cmp n)) es ≡ Some v → IsAmong es (n, v)
among_found {X = X} [] n v h = absurd cc
among_found {X = X} (e ∷ es) n v h = by (is_at (nat_cmp n) e.0) refl (λ m. among_found es n v m) h
  where
    some_is : {a b : X} → Some a ≡ Some b → a ≡ b
    some_is q = cc

    by : (b : Bool) → is_at (nat_cmp n) e.0 ≡ b → (lookup (is_at (nat_cmp n)) es ≡ Some v → IsAmong es (n, v)) → cond b (Some e.1) (lookup (is_at (nat_cmp n)) es) ≡ Some v → IsAmong (e ∷ es) (n, v)
    by true t later f = inl (ap (λ m. (m, e.1)) (sym (same_at n e.0 t)) ∙ ap (λ z. (n, z)) (some_is f))
    by false t later f = inr (later f)

-- ---- who is forgotten

forgotten_is : (m n : ℕ) → Some m ≡ Some n → m ≡ n
forgotten_is m n e = cc

-- what forgets a client is that operation
forgets : (o : Op) (client : ℕ) → forgotten_by o ≡ Some client → o ≡ op.Forget client
forgets (op.Put key value) client e = absurd cc
forgets (op.Del key) client e = absurd cc
forgets (op.Get key) client e = absurd cc
forgets (op.Cas key old new) client e = absurd cc
forgets (op.Many writes) client e = absurd cc
forgets (op.Forget target) client e = ap (λ m. op.Forget m) (forgotten_is target client e)

found_without : (o : Option ℕ) (clients : Clients) (m : ℕ) → (o ≡ Some m → ⊥) → lookup (is_at (nat_cmp m)) (clients_without o clients) ≡ lookup (is_at (nat_cmp m)) clients
found_without None clients m never = refl
found_without (Some n) clients m never = found_beside clients m n (λ same. never (ap Some (sym same)))

among_without : (o : Option ℕ) (clients : Clients) (x : ℕ × Applied) → IsAmong (clients_without o clients) x → IsAmong clients x
among_without None clients x k = k
among_without (Some n) clients x k = among_left (is_at (nat_cmp n)) clients x k

pub forgets_or_not : (client : ℕ) (d : Command) → IsForgetOf client d ⊎ (IsForgetOf client d → ⊥)
forgets_or_not client d = elim (cases_eq d.client client) [
  | inl own ↦ inr (λ f. f.1 own)
  | inr other ↦ by (forgotten_by d.op) refl other
]
  where
    by : (o : Option ℕ) → forgotten_by d.op ≡ o → (d.client ≡ client → ⊥) → IsForgetOf client d ⊎ (IsForgetOf client d → ⊥)
    by None e other = inr (λ f. (let bad : None ≡ Some client = sym e ∙ ap forgotten_by f.0 in cc))
    by (Some n) e other = elim (cases_eq n client) [
      | inl same ↦ inl (forgets d.op client (e ∙ ap Some same), other)
      | inr apart ↦ inr (λ f. apart (forgotten_is n client (sym e ∙ ap forgotten_by f.0)))
    ]

-- ---- a client's last number

pub record Keeps (client n : ℕ) (s : Service) : Type 0 where
  last : Applied
  there : last_of s client ≡ Some last
  least : n ≤ last.seq

-- a number that isn't above it changes nothing
keeps_still : (s : Service) (d : Command) (n : ℕ) → Keeps d.client n s → d.seq ≤ n → service_with s d ≡ s
keeps_still s d n k le =
    ap (λ o. service_by_last o s d) k.there
    ∙ (elim (cases_Bool (nat_lt k.last.seq d.seq)) [
      | inl h ↦ absurd (let lt = ltb-true k.last.seq d.seq h in let a = k.least in omega (arith, lt, a, le))
      | inr h ↦ rw h refl
    ])

-- a command's own number
pub keeps_own : (s : Service) (c : Command) → Keeps c.client c.seq (service_with s c)
keeps_own s c = by_last (last_of s c.client) refl
  where
    effect : Keeps c.client c.seq (service_with_effect s c)
    effect = record { last = _; there = found_own (clients_without (forgotten_by c.op) s.clients) c.client _; least = omega arith }

    by_last : (o : Option Applied) → last_of s c.client ≡ o → Keeps c.client c.seq (service_by_last o s c)
    by_last None e = effect
    by_last (Some last) e = elim (cases_Bool (nat_lt last.seq c.seq)) [
      | inl h ↦ rw h effect
      | inr h ↦ (let le = ltb-false last.seq c.seq h in
          let still : Keeps c.client c.seq s = record { last = last; there = e; least = omega (arith, le) } in rw h still)
    ]

-- it never falls, unless the client is forgotten
pub keeps_with : (s : Service) (client n : ℕ) (d : Command) → (IsForgetOf client d → ⊥) → Keeps client n s → Keeps client n (service_with s d)
keeps_with s client n d never k = elim (cases_eq client d.client) [
  | inl same ↦ (let own : Keeps d.client d.seq (service_with s d) = keeps_own s d in by_size same own)
  | inr apart ↦ by_last (last_of s d.client) apart
]
  where
    by_last : (o : Option Applied) → (client ≡ d.client → ⊥) → Keeps client n (service_by_last o s d)
    by_last o apart = by_effect o
      where
        effect : Keeps client n (service_with_effect s d)
        effect = record {
          last = k.last;
          there = found_other (clients_without (forgotten_by d.op) s.clients) client d.client _ apart
              ∙ found_without (forgotten_by d.op) s.clients client (λ e. never (forgets d.op client e, λ same. apart (sym same))) ∙ k.there;
          least = k.least;
        }

        by_effect : (p : Option Applied) → Keeps client n (service_by_last p s d)
        by_effect None = effect
        by_effect (Some last) = elim (cases_Bool (nat_lt last.seq d.seq)) [ inl h ↦ rw h effect | inr h ↦ rw h k ]

    by_size : client ≡ d.client → Keeps d.client d.seq (service_with s d) → Keeps client n (service_with s d)
    by_size same own = elim (cases_Bool (nat_lt n d.seq)) [
      | inl h ↦ (let lt = ltb-true n d.seq h in let a = own.least in
          record { last = own.last; there = ap (λ q. last_of (service_with s d) q) same ∙ own.there; least = omega (arith, lt, a) })
      | inr h ↦ (let le = ltb-false n d.seq h in
          let at : Keeps d.client n s = subst (λ q. Keeps q n s) same k in
          subst (λ (t : Service). Keeps client n t) (sym (keeps_still s d n at (omega (arith, le)))) k)
    ]

keeps_all : (es : List Entry) (s : Service) (client n : ℕ) → NoneForgets client es → Keeps client n s → Keeps client n (all_after s es)
keeps_all [] s client n never k = k
keeps_all (entry.Command d ∷ es) s client n never k = keeps_all es (service_with s d) client n (λ f i. never f (inr i)) (keeps_with s client n d (never d (inl refl)) k)
keeps_all (entry.Stop stop ∷ es) s client n never k = keeps_all es s client n (λ f i. never f (inr i)) k

pub after_more : (xs ys : List Entry) (s : Service) → all_after s (xs ++ ys) ≡ all_after (all_after s xs) ys
after_more [] ys s = refl
after_more (x ∷ xs) ys s = after_more xs ys (service_after s x)

pub after_command : (done : List Entry) (c : Command) → service_of (done ++ entry.Command c ∷ []) ≡ service_with (service_of done) c
after_command done c = after_more done (entry.Command c ∷ []) new_service

pub after_stop : (done : List Entry) (stop : StopSign) → service_of (done ++ entry.Stop stop ∷ []) ≡ service_of done
after_stop done stop = after_more done (entry.Stop stop ∷ []) new_service

keeps_behind : (before between : List Entry) (c : Command) → NoneForgets c.client between → Keeps c.client c.seq (service_of (before ++ entry.Command c ∷ between))
keeps_behind before between c never =
    subst (λ (t : Service). Keeps c.client c.seq t) (sym (after_more before (entry.Command c ∷ between) new_service))
    (keeps_all between (service_with (service_of before) c) c.client c.seq never (keeps_own (service_of before) c))

pub effects_come_once : EffectsComeOnce
effects_come_once before between c d same le never =
    keeps_still (service_of (before ++ entry.Command c ∷ between)) d c.seq
    (subst (λ (q : ℕ). Keeps q c.seq (service_of (before ++ entry.Command c ∷ between))) (sym same) (keeps_behind before between c never)) le

-- ---- where a command takes effect

-- its number is above its client's last
abbrev takes_by : Option Applied → Command → Bool
takes_by None c = true
takes_by (Some last) c = nat_lt last.seq c.seq

abbrev pub takes : Service → Command → Bool
takes s c = takes_by (last_of s c.client) c

pub takes_effect : (s : Service) (c : Command) → takes s c ≡ true → service_with s c ≡ service_with_effect s c
takes_effect s c h = by (last_of s c.client) h
  where
    by : (o : Option Applied) → takes_by o c ≡ true → service_by_last o s c ≡ service_with_effect s c
    by None k = refl
    by (Some last) k = rw k refl

pub takes_none : (s : Service) (c : Command) → takes s c ≡ false → service_with s c ≡ s
takes_none s c h = by (last_of s c.client) h
  where
    by : (o : Option Applied) → takes_by o c ≡ false → service_by_last o s c ≡ s
    by None k = absurd (let bad : true ≡ false = k in cc)
    by (Some last) k = rw k refl

-- where its client's number is kept, or a higher one, it takes none
pub keeps_out : (s : Service) (d : Command) (n : ℕ) → Keeps d.client n s → d.seq ≤ n → takes s d ≡ true → ⊥
keeps_out s d n k le h =
    let t : nat_lt k.last.seq d.seq ≡ true = sym (ap (λ o. takes_by o d) k.there) ∙ h in
    let lt = ltb-true k.last.seq d.seq t in
    let a = k.least in
    omega (arith, lt, a, le)

-- A command of this key takes effect at a place of these entries, and is answered so.
pub record HasEffect (es : List Entry) (client seq : ℕ) (a : Answer) : Type 0 where
  pub before : List Entry
  pub command : Command
  pub after : List Entry
  pub place : es ≡ before ++ entry.Command command ∷ after
  pub client_is : command.client ≡ client
  pub seq_is : command.seq ≡ seq
  pub takes_it : takes (service_of before) command ≡ true
  pub answer_is : a ≡ effect_answer command.op (service_of before).pairs

effect_more : (es more : List Entry) (client seq : ℕ) (a : Answer) → HasEffect es client seq a → HasEffect (es ++ more) client seq a
effect_more es more client seq a e = record {
  before = e.before;
  command = e.command;
  after = e.after ++ more;
  place = ap (λ l. l ++ more) e.place ∙ append_assoc e.before (entry.Command e.command ∷ e.after) more;
  client_is = e.client_is;
  seq_is = e.seq_is;
  takes_it = e.takes_it;
  answer_is = e.answer_is;
}

-- what is kept of a client is the answer of such a place
abbrev AreKept : List Entry → Type 0
AreKept es = (x : ℕ × Applied) → IsAmong (service_of es).clients x → HasEffect es x.0 (x.1).seq (x.1).answer

kept_last : (es : List Entry) (e : Entry) → AreKept es → AreKept (es ++ e ∷ [])
kept_last es (entry.Stop stop) k x i =
    effect_more es (entry.Stop stop ∷ []) x.0 (x.1).seq (x.1).answer (k x (subst (λ (t : Service). IsAmong t.clients x) (after_stop es stop) i))
kept_last es (entry.Command c) k x i = by (takes s c) refl
  where
    s : Service
    s = service_of es

    here : IsAmong (service_with s c).clients x
    here = subst (λ (t : Service). IsAmong t.clients x) (after_command es c) i

    old : IsAmong s.clients x → HasEffect (es ++ entry.Command c ∷ []) x.0 (x.1).seq (x.1).answer
    old m = effect_more es (entry.Command c ∷ []) x.0 (x.1).seq (x.1).answer (k x m)

    by : (b : Bool) → takes s c ≡ b → HasEffect (es ++ entry.Command c ∷ []) x.0 (x.1).seq (x.1).answer
    by false t = old (subst (λ (z : Service). IsAmong z.clients x) (takes_none s c t) here)
    by true t =
        let new : IsAmong (service_with_effect s c).clients x = subst (λ (z : Service). IsAmong z.clients x) (takes_effect s c t) here in
        elim (among_put (clients_without (forgotten_by c.op) s.clients) c.client (record { seq = c.seq; answer = effect_answer c.op s.pairs }) x new) [
          | inl is ↦ record {
            before = es;
            command = c;
            after = [];
            place = refl;
            client_is = ap (λ (z : ℕ × Applied). z.0) is;
            seq_is = ap (λ (z : ℕ × Applied). (z.1).seq) is;
            takes_it = t;
            answer_is = sym (ap (λ (z : ℕ × Applied). (z.1).answer) is);
          }
          | inr m ↦ old (among_without (forgotten_by c.op) s.clients x m)
        ]

kept_all : (es more : List Entry) → AreKept es → AreKept (es ++ more)
kept_all es [] k = subst AreKept (sym (append-nil es)) k
kept_all es (e ∷ more) k = subst AreKept (append_assoc es (e ∷ []) more) (kept_all (es ++ e ∷ []) more (kept_last es e k))

are_kept : (es : List Entry) → AreKept es
are_kept es = kept_all [] es (λ x i. absurd i)

last_kept : (es : List Entry) (client : ℕ) (last : Applied) → last_of (service_of es) client ≡ Some last → HasEffect es client last.seq last.answer
last_kept es client last e = are_kept es (client, last) (among_found (service_of es).clients client last e)

-- a result that the service tells is that of a place where a command of this key takes effect
pub served_effect : (es : List Entry) (client seq : ℕ) (a : Answer) → IsResult a → IsServed es client seq a → HasEffect es client seq a
served_effect es client seq a result r = by_last (last_of s c.client) refl
  where
    c : Command
    c = r.command

    s : Service
    s = service_of r.before

    fresh : takes s c ≡ true → effect_answer c.op s.pairs ≡ answer_of s c → HasEffect es client seq a
    fresh t e = record {
      before = r.before;
      command = c;
      after = r.after;
      place = r.place;
      client_is = r.client_is;
      seq_is = r.seq_is;
      takes_it = t;
      answer_is = r.answer_is ∙ sym e;
    }

    again : (last : Applied) → last_of s c.client ≡ Some last → c.seq ≡ last.seq → a ≡ last.answer → HasEffect es client seq a
    again last e same is =
        let k = effect_more r.before (entry.Command c ∷ r.after) c.client last.seq last.answer (last_kept r.before c.client last e) in
        subst (λ (l : List Entry). HasEffect l client seq a) (sym r.place)
        (subst (λ (q : ℕ). HasEffect (r.before ++ entry.Command c ∷ r.after) q seq a) r.client_is
        (subst (λ (q : ℕ). HasEffect (r.before ++ entry.Command c ∷ r.after) c.client q a) (sym same ∙ r.seq_is)
        (subst (λ (z : Answer). HasEffect (r.before ++ entry.Command c ∷ r.after) c.client last.seq z) (sym is) k)))

    by_last : (o : Option Applied) → last_of s c.client ≡ o → HasEffect es client seq a
    by_last None e = fresh (ap (λ z. takes_by z c) e) (sym (ap (λ z. answer_by_last z s c) e))
    by_last (Some last) e = elim (cases_Bool (nat_lt last.seq c.seq)) [
      | inl h ↦ fresh (ap (λ z. takes_by z c) e ∙ h) (sym (ap (λ z. answer_by_last z s c) e ∙ above h))
      | inr h ↦ elim (cases_eq c.seq last.seq) [
        | inl same ↦ again last e same (r.answer_is ∙ ap (λ z. answer_by_last z s c) e ∙ equal h same)
        | inr apart ↦ absurd (subst IsResult (r.answer_is ∙ ap (λ z. answer_by_last z s c) e ∙ below h apart) result)
      ]
    ]
      where
        above : nat_lt last.seq c.seq ≡ true → answer_by_last (Some last) s c ≡ effect_answer c.op s.pairs
        above h = rw h refl

        equal : nat_lt last.seq c.seq ≡ false → c.seq ≡ last.seq → answer_by_last (Some last) s c ≡ last.answer
        equal h same = let k = eq-eqb c.seq last.seq same in rw (h, k) refl

        below : nat_lt last.seq c.seq ≡ false → (c.seq ≡ last.seq → ⊥) → answer_by_last (Some last) s c ≡ answer.Stale
        below h apart = let k = ne_eqb c.seq last.seq apart in rw (h, k) refl

-- ---- stale

told_fresh : (o : Option (List ℕ)) → told_value o ≡ answer.Stale → ⊥
told_fresh None e = absurd cc
told_fresh (Some value) e = absurd cc

effect_fresh : (o : Op) (pairs : Pairs) → effect_answer o pairs ≡ answer.Stale → ⊥
effect_fresh (op.Put key value) pairs e = absurd cc
effect_fresh (op.Del key) pairs e = absurd cc
effect_fresh (op.Get key) pairs e = told_fresh (value_at key pairs) e
effect_fresh (op.Cas key old new) pairs e = by (is_value old (value_at key pairs)) e
  where
    by : (b : Bool) → cond b answer.Done (told_value (value_at key pairs)) ≡ answer.Stale → ⊥
    by true k = absurd cc
    by false k = told_fresh (value_at key pairs) k
effect_fresh (op.Many writes) pairs e = absurd cc
effect_fresh (op.Forget client) pairs e = absurd cc

-- A command is stale behind one of its client with a higher number.
abbrev pub IsPast : List Entry → ℕ → ℕ → Type 0
IsPast es client seq = (c : Command) × IsAmong es (entry.Command c) × (c.client ≡ client) × (seq < c.seq)

pub stale_past : (es : List Entry) (client seq : ℕ) → IsServed es client seq answer.Stale → IsPast es client seq
stale_past es client seq r = by_last (last_of s c.client) refl
  where
    c : Command
    c = r.command

    s : Service
    s = service_of r.before

    never : effect_answer c.op s.pairs ≡ answer_of s c → IsPast es client seq
    never e = absurd (effect_fresh c.op s.pairs (e ∙ sym r.answer_is))

    higher : (last : Applied) → last_of s c.client ≡ Some last → nat_lt last.seq c.seq ≡ false → (c.seq ≡ last.seq → ⊥) → IsPast es client seq
    higher last e h apart =
        let k = last_kept r.before c.client last e in
        let le = ltb-false last.seq c.seq h in
        let own = r.seq_is in
        let is = k.seq_is in
        let place : es ≡ k.before ++ entry.Command k.command ∷ (k.after ++ entry.Command c ∷ r.after) =
        r.place ∙ ap (λ l. l ++ entry.Command c ∷ r.after) k.place ∙ append_assoc k.before (entry.Command k.command ∷ k.after) (entry.Command c ∷ r.after) in (
          k.command,
          subst (λ l. IsAmong l (entry.Command k.command)) (sym place)
              (in_right (entry.Command k.command) k.before (entry.Command k.command ∷ (k.after ++ entry.Command c ∷ r.after)) (inl refl)),
          k.client_is ∙ r.client_is,
          omega (arith, le, own, is, apart),
        )

    same : (last : Applied) → last_of s c.client ≡ Some last → answer.Stale ≡ last.answer → IsPast es client seq
    same last e is = let k = last_kept r.before c.client last e in absurd (effect_fresh k.command.op (service_of k.before).pairs (sym k.answer_is ∙ sym is))

    by_last : (o : Option Applied) → last_of s c.client ≡ o → IsPast es client seq
    by_last None e = never (sym (ap (λ z. answer_by_last z s c) e))
    by_last (Some last) e = elim (cases_Bool (nat_lt last.seq c.seq)) [
      | inl h ↦ never (sym (ap (λ z. answer_by_last z s c) e ∙ above h))
      | inr h ↦ elim (cases_eq c.seq last.seq) [
        | inl is ↦ same last e (r.answer_is ∙ ap (λ z. answer_by_last z s c) e ∙ equal h is)
        | inr apart ↦ higher last e h apart
      ]
    ]
      where
        above : nat_lt last.seq c.seq ≡ true → answer_by_last (Some last) s c ≡ effect_answer c.op s.pairs
        above h = rw h refl

        equal : nat_lt last.seq c.seq ≡ false → c.seq ≡ last.seq → answer_by_last (Some last) s c ≡ last.answer
        equal h is = let k = eq-eqb c.seq last.seq is in rw (h, k) refl
