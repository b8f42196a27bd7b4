-- What a key or a client has, and what one more write makes, where a change stands over a service.
use Rattle.std.proofs.Common.{◌≡◌, ℕ, Bool, true, cond, List, ap, ◌∙◌}
use Rattle.std.specs.Prelude.{None}
use Rattle.std.specs.Option.{option_or}
use Rattle.std.specs.Ordering.{nat_cmp, is_eq}
use Rattle.std.specs.Cmp.{nat_cmp_total}
use Rattle.std.specs.Cmp.Lexicographic.{slice_cmp, nat_list_cmp_total}
use Rattle.std.specs.List.Sorted.{IsStrictlySortedBy}
use Rattle.std.specs.Map.{keys_of, lookup, remove_entry}
use Rattle.std.specs.BTreeMap.{insert_entry, is_at}
use Rattle.std.proofs.lemmas.Map.Lookups.{exact_unsigned, exact_bytes}
use Rattle.op_types.specs.declared.answers.Applied.{Applied}
use Rattle.op_spec.specs.Service.{Pairs, Clients, value_at}
use Rattle.op_change.specs.Over.{Written, pairs_over, clients_over}
use Rattle.op_overlay.specs.Entries.{without}
use Rattle.op_overlay.proofs.Entries.{find-over, over-insert_entry, rises-over}
use Rattle.op_overlay.proofs.Deletes.{among, find-without, rises-without, over-remove_entry}

abbrev pub PairsRise : Pairs → Type 0
PairsRise pairs = IsStrictlySortedBy (slice_cmp nat_cmp) (keys_of pairs)

abbrev pub ClientsRise : Clients → Type 0
ClientsRise clients = IsStrictlySortedBy nat_cmp (keys_of clients)

-- the key is one of those that are gone
abbrev pub is_gone : List ℕ → Written → Bool
is_gone key w = among (slice_cmp nat_cmp) w.gone key

-- the client is one of those that are forgotten
abbrev pub is_forgotten : ℕ → Written → Bool
is_forgotten client w = among nat_cmp w.forgotten client

-- what a key has: what was written, or else what stands below, if it isn't gone
pub value_over : (pairs : Pairs) (w : Written) (key : List ℕ) → PairsRise pairs → PairsRise w.pairs
    → value_at key (pairs_over pairs w) ≡ option_or (value_at key w.pairs) (cond (is_gone key w) None (value_at key pairs))
value_over pairs w key s t =
    find-over nat_list_cmp_total (without (slice_cmp nat_cmp) pairs w.gone) w.pairs key t
    ∙ ap (option_or (value_at key w.pairs)) (find-without nat_list_cmp_total pairs w.gone key s)

-- what a client has: what was written, or else what stands below, if it isn't forgotten
pub last_over : (clients : Clients) (w : Written) (client : ℕ) → ClientsRise clients → ClientsRise w.clients
    → lookup (is_at (nat_cmp client)) (clients_over clients w) ≡ option_or (lookup (is_at (nat_cmp client)) w.clients) (cond (is_forgotten client w) None (lookup (is_at (nat_cmp client)) clients))
last_over clients w client s t =
    find-over nat_cmp_total (without nat_cmp clients w.forgotten) w.clients client t
    ∙ ap (option_or (lookup (is_at (nat_cmp client)) w.clients)) (find-without nat_cmp_total clients w.forgotten client s)

-- a pair more
pub put_over : (pairs : Pairs) (w : Written) (key value : List ℕ) → PairsRise pairs → PairsRise w.pairs
    → pairs_over pairs (record w { pairs = insert_entry (slice_cmp nat_cmp) w.pairs key value }) ≡ insert_entry (slice_cmp nat_cmp) (pairs_over pairs w) key value
put_over pairs w key value s t =
    over-insert_entry nat_list_cmp_total exact_bytes (without (slice_cmp nat_cmp) pairs w.gone) w.pairs key value (rises-without nat_list_cmp_total pairs w.gone s) t

-- a key less
pub deleted_over : (pairs : Pairs) (w : Written) (gone : List (List ℕ)) (key : List ℕ) → PairsRise pairs → PairsRise w.pairs
    → ((q : List ℕ) → among (slice_cmp nat_cmp) gone q ≡ cond (is_eq (slice_cmp nat_cmp key q)) true (is_gone q w))
    → pairs_over pairs (record w { pairs = remove_entry (is_at (slice_cmp nat_cmp key)) w.pairs; gone = gone }) ≡ remove_entry (is_at (slice_cmp nat_cmp key)) (pairs_over pairs w)
deleted_over pairs w gone key s t h = over-remove_entry nat_list_cmp_total exact_bytes pairs w.pairs w.gone gone key s t h

-- a client's last command more
pub last_kept_over : (clients : Clients) (w : Written) (client : ℕ) (last : Applied) → ClientsRise clients → ClientsRise w.clients
    → clients_over clients (record w { clients = insert_entry nat_cmp w.clients client last }) ≡ insert_entry nat_cmp (clients_over clients w) client last
last_kept_over clients w client last s t =
    over-insert_entry nat_cmp_total exact_unsigned (without nat_cmp clients w.forgotten) w.clients client last (rises-without nat_cmp_total clients w.forgotten s) t

-- a client less
pub forgotten_over : (clients : Clients) (w : Written) (forgotten : List ℕ) (client : ℕ) → ClientsRise clients → ClientsRise w.clients
    → ((q : ℕ) → among nat_cmp forgotten q ≡ cond (is_eq (nat_cmp client q)) true (is_forgotten q w))
    → clients_over clients (record w { clients = remove_entry (is_at (nat_cmp client)) w.clients; forgotten = forgotten }) ≡ remove_entry (is_at (nat_cmp client)) (clients_over clients w)
forgotten_over clients w forgotten client s t h = over-remove_entry nat_cmp_total exact_unsigned clients w.clients w.forgotten forgotten client s t h

-- the pairs rise
pub pairs_over_rise : (pairs : Pairs) (w : Written) → PairsRise pairs → PairsRise (pairs_over pairs w)
pairs_over_rise pairs w s = rises-over nat_list_cmp_total (without (slice_cmp nat_cmp) pairs w.gone) w.pairs (rises-without nat_list_cmp_total pairs w.gone s)

-- and so do the clients
pub clients_over_rise : (clients : Clients) (w : Written) → ClientsRise clients → ClientsRise (clients_over clients w)
clients_over_rise clients w s = rises-over nat_cmp_total (without nat_cmp clients w.forgotten) w.clients (rises-without nat_cmp_total clients w.forgotten s)
