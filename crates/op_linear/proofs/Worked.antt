-- A cluster that is computed: a node alone, of which a client asks the status, and is told.
use Rattle.std.proofs.Common.{◌≡◌, ◌<◌, ◌^◌, ◌==◌, ℕ, zero, suc, true, false, List, [], ◌∷◌, ◌++◌, map, fold, length, Some, None, refl, sym, ◌∙◌, ap, subst, arith, append_assoc, append-nil, nat_eq, get_or, inl, inr}
use Rattle.std.specs.Prelude.{take}
use Rattle.std.proofs.lemmas.Bool.{cases_eq, ne_eqb}
use Rattle.std.proofs.lemmas.List.Elements.{All-nil}
use Rattle.op_types.specs.Ranges.{IsMember}
use Rattle.op_types.specs.declared.events.Input.TheVariants as input
use Rattle.op_setup.specs.declared.config.Settings.{Settings}
use Rattle.op_runs.specs.Possible.{most_proposals, server_ids}
use Rattle.op_serving.specs.Cores.{Standing}
use Rattle.op_serving.specs.Fates.{after_fate, done}
use Rattle.op_serving.specs.Inputs.{Deed, Luck, begins, hears, enters, says, takes}
use Rattle.op_serving.specs.Reopenings.{Unstored, FindStored, unstored_after}
use Rattle.op_serving.specs.Pump.{Pump, Answer, was_waited, was_told, was_readied, was_seen, was_written, no_answer, after}
use Rattle.op_serving.specs.Answers.{Answers}
use Rattle.op_pump.specs.Moments.{set_of}
use Rattle.op_pump.specs.Serving.{started}
use Rattle.op_cluster_laws.specs.Lives.{Serves}
use Rattle.op_cluster_laws.specs.Traces.{does, Happened, Lived, lived_then, lived_at, first_life, messages_behind, proposed_behind}
use Rattle.op_cluster_laws.specs.Nets.{ReadsPeer}
use Rattle.op_cluster_laws.specs.Clusters.{IsLife, MayHappen, IsCluster, end_at}
use Rattle.op_cluster_laws.proofs.Lists.{Each, each_all}
use Rattle.op_cluster_laws.specs.Readings.{began}
use Rattle.op_linear.specs.Inhabited.{one, none_failed, SomeClusterAnswers}
use Rattle.op_outside.specs.Nets.{SawBytes}
use Rattle.op_outside.specs.declared.net.Happening.TheVariants.{Accepted, Readable}
use Rattle.op_outside.specs.declared.net.Took.TheVariants as took
use Rattle.op_fields.specs.Form.{encoded}
use Rattle.op_fields.specs.Reads.{IsBytes}
use Rattle.op_serving.specs.Inputs.{drained, rest}
use Rattle.op_serving.specs.State.{shed}
use Rattle.op_serving.specs.Cores.{gives, after_input}
use Rattle.op_serving.specs.Reading.{greeting, first_frame}
use Rattle.op_serving.specs.Promise.{life}
use Rattle.op_serving.specs.Room.{moved, frames_moved}
use Rattle.op_serving.specs.Turns.{hello}
use Rattle.op_serving.specs.Wire.{request_in, client_frame}
use Rattle.std.proofs.lemmas.List.{take_at, take_all}
use Rattle.op_kv.specs.Rising.{rising_read}

-- ---- a sole member

abbrev born : Lived
born = first_life one [] none_failed 1

abbrev here : Deed → Happened
here d = record { pid = 1; event = does d }

head_is : {A : Type 0} (x y : A) (xs ys : List A) → x ∷ xs ≡ y ∷ ys → x ≡ y
head_is x y xs ys e = cc

tail_is : {A : Type 0} (x y : A) (xs ys : List A) → x ∷ xs ≡ y ∷ ys → xs ≡ ys
tail_is x y xs ys e = cc

cons_is : {A : Type 0} (x y : A) (xs ys : List A) → x ≡ y → xs ≡ ys → x ∷ xs ≡ y ∷ ys
cons_is x y xs ys e f = cc

record Cut (ds : List Deed) (now later : List Happened) : Type 0 where
  first : List Deed
  rest : List Deed
  split : ds ≡ first ++ rest
  now_is : now ≡ map here first
  later_is : later ≡ map here rest

cut_map : (ds : List Deed) (now later : List Happened) → map here ds ≡ now ++ later → Cut ds now later
cut_map ds [] later e = record { first = []; rest = ds; split = refl; now_is = refl; later_is = sym e }
cut_map [] (x ∷ now) later e = absurd cc
cut_map (d ∷ ds) (x ∷ now) later e =
    let k = cut_map ds now later (tail_is (here d) x (map here ds) (now ++ later) e) in
    record {
      first = d ∷ k.first;
      rest = k.rest;
      split = ap (λ l. d ∷ l) k.split;
      now_is = cons_is x (here d) now (map here k.first) (sym (head_is (here d) x (map here ds) (now ++ later) e)) k.now_is;
      later_is = k.later_is;
    }

life_then : (l : Lived) (ds : List Deed) → fold (lived_then 1) l (map here ds) ≡ record l { deeds = l.deeds ++ ds }
life_then l [] = ap (λ z. record l { deeds = z }) (sym (append-nil l.deeds))
life_then l (d ∷ ds) = life_then (record l { deeds = l.deeds ++ d ∷ [] }) ds ∙ ap (λ z. record l { deeds = z }) (append_assoc l.deeds (d ∷ []) ds)

only_one : (p : ℕ) → IsMember (server_ids one [] []) p → p ≡ 1
only_one p h = elim (cases_eq p 1) [
  | inl e ↦ e
  | inr n ↦ absurd (let r : nat_eq p 1 ≡ false = ne_eqb p 1 n in let bad : false ≡ true = rw r at h in cc)
]

pub find_front : (n : Standing) (u : Unstored) (first rest : List Deed) → FindStored n u (first ++ rest) → FindStored n u first
find_front n u [] rest h = tt
find_front n u (begins c b ∷ first) rest h = find_front n u first rest h
find_front n u (hears c b ∷ first) rest h = find_front n u first rest h
find_front n u (enters who i f ∷ first) rest h = (h.0, find_front (after_fate n i f) (unstored_after n i f u) first rest h.1)
find_front n u (says f ∷ first) rest h = find_front n u first rest h
find_front n u (takes c b ∷ first) rest h = find_front n u first rest h

pub serves_front : (n : Standing) (first rest : List Deed) → Serves n (first ++ rest) → Serves n first
serves_front n first rest s = record {
  settings = s.settings;
  peers = s.peers;
  line = s.line;
  luck = s.luck;
  start = s.start;
  answers = s.answers;
  fit = s.fit;
  later = rest ++ s.later;
  are = s.are ∙ append_assoc first rest s.later;
}

-- the life of the node behind these of its deeds
abbrev with_deeds : List Deed → Lived
with_deeds first = record born { deeds = first }

module _ (ds : List Deed) (serves : Serves born.first ds) (found : FindStored born.first born.unstored ds)
    (alone : (first rest : List Deed) → ds ≡ first ++ rest → (conn : ℕ) → ReadsPeer (record { pid = 1; conn = conn; lived = with_deeds first }) → ⊥)
    (few : messages_behind one [] none_failed [] (map here ds) < 2 ^ 64) (fewer : proposed_behind one [] none_failed [] (map here ds) < most_proposals) where
  abbrev trace : List Happened
  trace = map here ds

  nodes_each : (es : List Deed) → Each (λ x. IsMember (server_ids one [] []) x.pid) (map here es)
  nodes_each [] = tt
  nodes_each (d ∷ es) = (refl, nodes_each es)

  lived_so : (now later : List Happened) (k : Cut ds now later) (p : ℕ) → p ≡ 1 → lived_at one [] none_failed p now ≡ with_deeds k.first
  lived_so now later k p e =
      ap (λ q. lived_at one [] none_failed q now) e ∙ ap (λ l. lived_at one [] none_failed 1 l) k.now_is ∙ life_then born k.first

  life_so : (first rest : List Deed) → ds ≡ first ++ rest → IsLife (with_deeds first)
  life_so first rest e = record {
    serves = serves_front born.first first rest (subst (λ l. Serves born.first l) e serves);
    stored = find_front born.first born.unstored first rest (subst (λ l. FindStored born.first born.unstored l) e found);
  }

  event_is : (x : Happened) (later : List Happened) (rest : List Deed) → x ∷ later ≡ map here rest → (d : Deed) × (x ≡ here d)
  event_is x later [] e = absurd cc
  event_is x later (d ∷ rest) e = (d, head_is x (here d) later (map here rest) e)

  a_cluster : IsCluster one [] [] none_failed trace
  a_cluster = record {
    nodes = each_all (λ x. IsMember (server_ids one [] []) x.pid) trace (nodes_each ds);
    lives = λ now later split p is.
        (let k = cut_map ds now later split in subst IsLife (sym (lived_so now later k p (only_one p is))) (life_so k.first k.rest k.split));
    may = λ now later x split.
        (let k = cut_map ds now (x ∷ later) split in
        let d = event_is x later k.rest k.later_is in
        subst (λ (y : Happened). MayHappen (lived_at one [] none_failed y.pid now) y.event) (sym d.1)
        (ap (λ (l : Lived). l.left) (lived_so now (x ∷ later) k 1 refl)));
    joined = λ now later split p conn is reads.
        (let k = cut_map ds now later split in
        absurd (alone k.first k.rest k.split conn
        (subst (λ (l : Lived). ReadsPeer (record { pid = 1; conn = conn; lived = l })) (lived_so now later k 1 refl)
        (subst (λ q. ReadsPeer (end_at one [] none_failed q conn now)) (only_one p is) reads))));
    messages = few;
    proposals = fewer;
  }

-- ---- what it may do

abbrev o : Settings
o = record { tick_ms = 100; turns = 10; members = one; peers = []; is_mirrored = false; observers = []; trim_every = None; cluster = None }

abbrev pub no_line : Standing → List ℕ
no_line n = []

abbrev pub no_luck : Luck
no_luck = record { marks = []; fates = [] }

-- nothing happens
nothing_happens : IsCluster one [] [] none_failed []
nothing_happens = a_cluster [] (record {
  settings = o;
  peers = All-nil (λ p. _);
  line = no_line;
  luck = no_luck;
  start = 0;
  answers = [];
  fit = tt;
  later = [];
  are = refl;
}) tt (λ first rest e conn reads. absurd (none_read first rest e conn reads)) (omega arith) (omega arith)
  where
    none_first : (first rest : List Deed) → [] ≡ first ++ rest → first ≡ []
    none_first [] rest e = refl
    none_first (d ∷ first) rest e = absurd cc

    none_read : (first rest : List Deed) → [] ≡ first ++ rest → (conn : ℕ) → ReadsPeer (record { pid = 1; conn = conn; lived = with_deeds first }) → ⊥
    none_read first rest e conn reads =
        by_way (subst (λ l. ReadsPeer (record { pid = 1; conn = conn; lived = with_deeds l })) (none_first first rest e) reads)
      where
        by_way : ReadsPeer (record { pid = 1; conn = conn; lived = with_deeds [] }) → ⊥
        by_way (inl dialled) = absurd (dialled.1 refl)
        by_way (inr accepted) = absurd (let bad = accepted.0 in cc)

-- ---- a tick, and a client that connects and asks for the status

abbrev request : List ℕ
request = 67 ∷ 0 ∷ 0 ∷ 0 ∷ 1 ∷ 4 ∷ []

abbrev answers : List Answer
answers =
    was_waited (Some 2) ∷ was_told 100 ∷ no_answer ∷ was_readied (Accepted 7) ∷ was_readied (Readable 7) ∷ was_seen (SawBytes request)
    ∷ no_answer ∷ was_written (Some (took.Bytes 23)) ∷ no_answer ∷ []

abbrev told : List ℕ
told = 0 ∷ 0 ∷ 0 ∷ 19 ∷ 0 ∷ 0 ∷ 0 ∷ 0 ∷ 0 ∷ 0 ∷ 0 ∷ 0 ∷ 0 ∷ 0 ∷ 0 ∷ 0 ∷ 0 ∷ 0 ∷ 0 ∷ 0 ∷ 12 ∷ 0 ∷ 0 ∷ []

abbrev done_then : List Deed
done_then = enters [] input.Tick done ∷ begins 7 [] ∷ hears 7 request ∷ says (7, told) ∷ takes 7 told ∷ []

abbrev then_last : Pump
then_last = after (set_of o) no_luck no_line answers (started o born.first 0)

they_are : then_last.driver.deeds ≡ done_then
unfolding drained rest shed gives after_input greeting first_frame request_in client_frame encoded moved frames_moved rising_read
they_are = refl

they_fit : Answers (set_of o) no_luck no_line answers (started o born.first 0)
unfolding drained rest shed gives after_input greeting first_frame request_in client_frame encoded moved frames_moved rising_read
they_fit = (omega arith, (tt, (tt, (tt, (tt, ((omega arith, omega arith, small), (tt, ((omega arith, omega arith), (tt, tt)))))))))
  where
    small : IsBytes request
    small zero = omega arith
    small (suc zero) = omega arith
    small (suc (suc zero)) = omega arith
    small (suc (suc (suc zero))) = omega arith
    small (suc (suc (suc (suc zero)))) = omega arith
    small (suc (suc (suc (suc (suc zero))))) = omega arith
    small (suc (suc (suc (suc (suc (suc i)))))) = past i
      where
        past : (n : ℕ) → get_or [] n 0 < 256
        past zero = omega arith
        past (suc n) = omega arith

front_is : (first rest ds : List Deed) → ds ≡ first ++ rest → first ≡ take (length first) ds
front_is first rest ds e = sym (ap (take (length first)) e ∙ take_at first rest (length first) refl)

abbrev Reads : List Deed → ℕ → Type 0
Reads first conn = ReadsPeer (record { pid = 1; conn = conn; lived = with_deeds first })

none_begun : (conn : ℕ) (first : List Deed) → began conn first ≡ None → Reads first conn → ⊥
none_begun conn first e (inl k) = absurd (let bad = sym e ∙ k.0 in cc)
none_begun conn first e (inr k) = absurd (let bad = sym e ∙ k.0 in cc)

-- an accepted connection that has read nothing, or a client's first byte
not_dialled : (conn : ℕ) (first : List Deed) → began conn first ≡ Some [] → (life conn first).heard ≡ [] → Reads first conn → ⊥
unfolding hello encoded
not_dialled conn first e h (inl k) = absurd (let bad : Some [] ≡ Some (hello 1) = sym e ∙ k.0 in cc)
not_dialled conn first e h (inr k) = absurd (let bad : [] ≡ 81 ∷ k.1.0 = sym h ∙ k.1.1 in cc)

a_clients : (conn : ℕ) (first : List Deed) → began conn first ≡ Some [] → (life conn first).heard ≡ request → Reads first conn → ⊥
unfolding hello encoded
a_clients conn first e h (inl k) = absurd (let bad : Some [] ≡ Some (hello 1) = sym e ∙ k.0 in cc)
a_clients conn first e h (inr k) = absurd (let bad : request ≡ 81 ∷ k.1.0 = sym h ∙ k.1.1 in let first_byte = head_is 67 81 (0 ∷ 0 ∷ 0 ∷ 1 ∷ 4 ∷ []) k.1.0 bad in omega (arith, first_byte))

quiet : (n conn : ℕ) → Reads (take n done_then) conn → ⊥
quiet n conn reads = elim (cases_eq conn 7) [
  | inl e ↦ own n (subst (λ c. Reads (take n done_then) c) e reads)
  | inr other ↦ none_begun conn (take n done_then) (never n conn (ne_eqb 7 conn (λ e. other (sym e)))) reads
]
  where
    all_of : (n : ℕ) → take (suc (suc (suc (suc (suc n))))) done_then ≡ done_then
    all_of n = take_all (suc (suc (suc (suc (suc n))))) done_then (omega arith)

    own : (n : ℕ) → Reads (take n done_then) 7 → ⊥
    own zero r = none_begun 7 [] refl r
    own (suc zero) r = none_begun 7 (take 1 done_then) refl r
    own (suc (suc zero)) r = not_dialled 7 (take 2 done_then) refl refl r
    own (suc (suc (suc zero))) r = a_clients 7 (take 3 done_then) refl refl r
    own (suc (suc (suc (suc zero)))) r = a_clients 7 (take 4 done_then) refl refl r
    own (suc (suc (suc (suc (suc n))))) r = a_clients 7 done_then refl refl (subst (λ l. Reads l 7) (all_of n) r)

    never : (n conn : ℕ) → (7 == conn) ≡ false → began conn (take n done_then) ≡ None
    never zero conn e = refl
    never (suc zero) conn e = refl
    never (suc (suc zero)) conn e = rw e refl
    never (suc (suc (suc zero))) conn e = rw e refl
    never (suc (suc (suc (suc zero)))) conn e = rw e refl
    never (suc (suc (suc (suc (suc n))))) conn e = ap (λ l. began conn l) (all_of n) ∙ (rw e refl)

a_client_is_told : IsCluster one [] [] none_failed (map here done_then)
unfolding gives after_input
a_client_is_told = a_cluster done_then (record {
  settings = o;
  peers = All-nil (λ p. _);
  line = no_line;
  luck = no_luck;
  start = 0;
  answers = answers;
  fit = they_fit;
  later = [];
  are = they_are;
}) (tt, tt) (λ first rest e conn reads. no_peer first rest e conn reads) (omega arith) (omega arith)
  where
    no_peer : (first rest : List Deed) → done_then ≡ first ++ rest → (conn : ℕ) → ReadsPeer (record { pid = 1; conn = conn; lived = with_deeds first }) → ⊥
    no_peer first rest e conn reads = quiet (length first) conn (subst (λ l. ReadsPeer (record { pid = 1; conn = conn; lived = with_deeds l })) (front_is first rest done_then e) reads)

pub some_cluster_answers : SomeClusterAnswers
unfolding client_frame encoded
some_cluster_answers = (map here done_then, a_client_is_told, refl)
