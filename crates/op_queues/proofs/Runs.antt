-- Commands and their connections, as two lists: what is left of both without one connection.
use Rattle.std.proofs.Common.{◌≡◌, ◌<◌, ◌≤◌, ◌+◌, ◌++◌, ◌∷◌, [], ℕ, zero, suc, List, length, take, get_or, map, All, ◌==◌, refl, sym, ◌∙◌, ap, arith, is_some, nat_lt, leb, false, true, Bool, cond, Some, None}
use Rattle.std.proofs.lemmas.Bool.{leb-true, le-leb, lt-leb}
use Rattle.std.proofs.lemmas.List.{length-append, length-map}
use Rattle.std.proofs.lemmas.List.Elements.{All-filter, All-map, All-push}
use Rattle.std.proofs.lemmas.Slice.Zip.{length-zip, seconds-zip}
use Rattle.std.specs.List.{list_any, position, position_or_len, remove, zip}
use Rattle.op_types.specs.declared.log.Command.{Command}
use Rattle.op_types.specs.Limits.{most_commands}
use Rattle.op_types.specs.Cutting.{entry_size, commands_size}
use Rattle.op_types.specs.declared.log.Entry.TheVariants as entry
use Rattle.op_types.proofs.Small.{command_small}
use Rattle.op_types.specs.Ranges.{CommandInRange, AreCommands}
use Rattle.op_serving.specs.State.{Table, without, find}
use Rattle.op_serving.specs.Ranges.{GatheredInRange}
use Rattle.op_serving.specs.Inputs.{key_of, most_gathered, places_taken}
use Rattle.op_queues.specs.Gathering.{RunInRange}
use Rattle.op_queues.proofs.Tables.{at_is, without_is}

module _ {X : Type 0} where
  -- as many as of each
  pub length_pairs : (cs : List ℕ) (xs : List X) → length xs ≡ length cs → length (zip cs xs) ≡ length cs
  length_pairs cs xs e = omega (arith, length-zip cs xs, e)

  -- an index into the pairs is one into each
  pub place_in : (n : ℕ) (cs : List ℕ) (xs : List X) (g : Table X) → length xs ≡ length cs → zip cs xs ≡ g → n < length g → n < length xs
  place_in n cs xs g e is lt = omega (arith, lt, e, ap length is, length_pairs cs xs e)

  -- one more at the end of both
  pub zip_more : (cs : List ℕ) (xs : List X) (c : ℕ) (x : X) → length xs ≡ length cs → zip (cs ++ c ∷ []) (xs ++ x ∷ []) ≡ zip cs xs ++ (c, x) ∷ []
  zip_more [] [] c x e = refl
  zip_more [] (y ∷ xs) c x e = absurd (omega (arith, e))
  zip_more (d ∷ cs) [] c x e = absurd (omega (arith, e))
  zip_more (d ∷ cs) (y ∷ xs) c x e = ap (λ l. (d, y) ∷ l) (zip_more cs xs c x (omega (arith, e)))

  -- one less in both
  pub zip_remove : (n : ℕ) (cs : List ℕ) (xs : List X) → length xs ≡ length cs → zip (remove cs n) (remove xs n) ≡ remove (zip cs xs) n
  zip_remove zero [] xs e = refl
  zip_remove (suc n) [] xs e = refl
  zip_remove n (c ∷ cs) [] e = absurd (omega (arith, e))
  zip_remove zero (c ∷ cs) (x ∷ xs) e = refl
  zip_remove (suc n) (c ∷ cs) (x ∷ xs) e = ap (λ l. (c, x) ∷ l) (zip_remove n cs xs (omega (arith, e)))

  -- where the first of a connection stands
  place_of : (c : ℕ) (cs : List ℕ) (xs : List X) → length xs ≡ length cs → position_or_len (λ k. k == c) cs ≡ position_or_len (λ e. e.0 == c) (zip cs xs)
  place_of c [] xs e = refl
  place_of c (d ∷ cs) [] e = absurd (omega (arith, e))
  place_of c (d ∷ cs) (x ∷ xs) e = grind (arith, e, place_of c cs xs)

  pub place_pairs : (c : ℕ) (cs : List ℕ) (xs : List X) → length xs ≡ length cs → position (λ k. k == c) cs ≡ position (λ e. e.0 == c) (zip cs xs)
  place_pairs c cs xs e =
      ap (λ n. cond (nat_lt n (length cs)) (Some n) None) (place_of c cs xs e)
      ∙ ap (λ n. cond (nat_lt (position_or_len (λ e. e.0 == c) (zip cs xs)) n) (Some (position_or_len (λ e. e.0 == c) (zip cs xs))) None)
      (sym (length_pairs cs xs e))

  -- it makes no difference to what is left without that connection
  pub without_place : (c : ℕ) (t : Table X) (n : ℕ) → position_or_len (λ e. e.0 == c) t ≡ n → n < length t → without c (remove t n) ≡ without c t
  without_place c [] n e h = absurd (omega (arith, h))
  without_place c (f ∷ t) zero e h = grind (arith, at_is)
  without_place c (f ∷ t) (suc n) e h = grind (arith, at_is, without_place c t n)

  -- of what is left all is so that was so of all
  pub all_left : (P : ℕ × X → Type 0) (c : ℕ) (g : Table X) → All P g → All P (without c g)
  all_left P c g h = rw (without_is c g) (All-filter _ P g h)

  -- a number is among those of a table, or of the first of two lists, exactly if it is found
  pub any_found : (c : ℕ) (t : Table X) → list_any (λ e. e.0 == c) t ≡ is_some (find c t)
  any_found c [] = refl
  any_found c (e ∷ t) = grind (arith, at_is, any_found c t)

  pub any_run : (c : ℕ) (cs : List ℕ) (xs : List X) → length xs ≡ length cs → list_any (λ k. k == c) cs ≡ is_some (find c (zip cs xs))
  any_run c [] xs e = refl
  any_run c (d ∷ cs) [] e = absurd (omega (arith, e))
  any_run c (d ∷ cs) (x ∷ xs) e = grind (arith, e, at_is, any_run c cs xs)

-- one command more, by its connection, client and number
pub keys_more : (who : List ℕ) (xs : List Command) (n c : ℕ) (x : Command) → n < length who → n < length xs → ((d : ℕ) → c ≡ get_or who n d)
    → ((d : Command) → x ≡ get_or xs n d)
    → take (suc n) (zip who (map key_of xs)) ≡ take n (zip who (map key_of xs)) ++ (c, key_of x) ∷ []
keys_more [] xs n c x h g is_c is_x = absurd (omega (arith, h))
keys_more (w ∷ who) [] n c x h g is_c is_x = absurd (omega (arith, g))
keys_more (w ∷ who) (y ∷ xs) zero c x h g is_c is_x = ap (λ k. (k, key_of y) ∷ []) (sym (is_c 0)) ∙ ap (λ z. (c, key_of z) ∷ []) (sym (is_x y))
keys_more (w ∷ who) (y ∷ xs) (suc n) c x h g is_c is_x = ap (λ l. (w, key_of y) ∷ l) (keys_more who xs n c x (omega (arith, h)) (omega (arith, g)) is_c is_x)

-- ---- how many bytes commands take

-- the commands that were gathered
abbrev pub commands_in : Table Command → List Command
commands_in g = map (λ e. e.1) g

pub size_pairs : (cs : List ℕ) (xs : List Command) → length xs ≡ length cs → commands_size (commands_in (zip cs xs)) ≡ commands_size xs
size_pairs cs xs e = ap commands_size (seconds-zip cs xs e)

-- one more
pub size_push : (xs : List Command) (x : Command) → commands_size (xs ++ x ∷ []) ≡ commands_size xs + entry_size (entry.Command x)
size_push [] x = omega arith
size_push (y ∷ xs) x = omega (arith, size_push xs x)

pub size_more : (g : Table Command) (c : ℕ) (x : Command) → commands_size (commands_in (g ++ (c, x) ∷ [])) ≡ commands_size (commands_in g) + entry_size (entry.Command x)
size_more [] c x = omega arith
size_more (e ∷ g) c x = omega (arith, size_more g c x)

-- what is left takes less
pub size_less : (xs : List Command) (n : ℕ) (x : Command) → n < length xs → commands_size (remove xs n) + entry_size (entry.Command (get_or xs n x)) ≡ commands_size xs
size_less [] n x lt = absurd (omega (arith, lt))
size_less (y ∷ xs) zero x lt = omega arith
size_less (y ∷ xs) (suc n) x lt = omega (arith, size_less xs n x (omega (arith, lt)))

pub size_taken : (xs : List Command) (n : ℕ) (x : Command) → n < length xs → x ≡ get_or xs n x
    → commands_size (remove xs n) + entry_size (entry.Command x) ≡ commands_size xs
size_taken xs n x lt is =
    let own = ap (λ (y : Command). entry_size (entry.Command y)) is in omega (arith, own, size_less xs n x lt)

pub without_smaller : (c : ℕ) (g : Table Command) → commands_size (commands_in (without c g)) ≤ commands_size (commands_in g)
without_smaller c [] = omega arith
without_smaller c (e ∷ g) = grind (arith, at_is, without_smaller c g)

-- so many places are taken where any one more fits, and all where one more might not
pub places_few : (g : Table Command) → commands_size (commands_in g) ≤ most_gathered → places_taken g ≡ length g
places_few g h = rw (le-leb (commands_size (commands_in g)) most_gathered h) refl

pub places_all : (g : Table Command) → most_gathered < commands_size (commands_in g) → places_taken g ≡ most_commands
places_all g h = rw (lt-leb (commands_size (commands_in g)) most_gathered h) refl

-- a place that is left: there are fewer than the most, and any one more fits
pub place_left : (g : Table Command) → places_taken g < most_commands → (length g < most_commands) × (commands_size (commands_in g) ≤ most_gathered)
place_left g lt = by (leb (commands_size (commands_in g)) most_gathered) refl lt
  where
    by : (b : Bool) → leb (commands_size (commands_in g)) most_gathered ≡ b → cond b (length g) most_commands < most_commands → (length g < most_commands) × (commands_size (commands_in g) ≤ most_gathered)
    by true e few = (few, leb-true (commands_size (commands_in g)) most_gathered e)
    by false e few = absurd (omega (arith, few))

-- one command more is in range
pub run_more : (g : Table Command) (c : ℕ) (x : Command) → places_taken g < most_commands → RunInRange g → CommandInRange x → RunInRange (g ++ (c, x) ∷ [])
run_more g c x left h k =
    let p = place_left g left in
    record {
      each = All-push GatheredInRange g (c, x) h.each k;
      few = omega (arith, p.0, length-append g ((c, x) ∷ []));
      small = omega (arith, p.1, size_more g c x, command_small x k);
    }

-- what is given together is in range
pub are_commands : (g : Table Command) (xs : List Command) → xs ≡ map (λ e. e.1) g → RunInRange g → 0 < length g → AreCommands xs
are_commands g xs e h some = rw e (record {
  each = All-map CommandInRange (λ (p : ℕ × Command). p.1) g h.each;
  some = omega (arith, some, length-map g (λ (p : ℕ × Command). p.1));
  few = omega (arith, h.few, length-map g (λ (p : ℕ × Command). p.1));
  small = h.small;
})
