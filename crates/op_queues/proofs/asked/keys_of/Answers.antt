use Rattle.std.proofs.Common.{rules, ◌≡◌, ◌++◌, ◌∷◌, [], ℕ, List, suc, length, take, map, min, All, zip, sym, ◌∙◌, ap, subst, arith, add-one}
use Rattle.std.proofs.lemmas.List.{take_all, length-append, length-map}
use Rattle.std.proofs.lemmas.List.Elements.{All-nil, All-cons, All-append}
use Rattle.std.proofs.lemmas.Slice.Zip.{zip_turn, zip_end, length-zip}
use Rattle.op_types.specs.declared.log.Command.{Command}
use Rattle.op_types.specs.Ranges.{CommandInRange}
use Rattle.op_serving.specs.State.{Key}
use Rattle.op_serving.specs.Ranges.{KeyAtInRange}
use Rattle.op_serving.specs.Inputs.{key_of}
use Rattle.op_queues.proofs.Runs.{keys_more}
use Rattle.op_queues.proofs.asked.keys_of.Goals as goal

pub loop-conn-preserved : goal.loop-conn-preserved
loop-conn-preserved c =
    let who : List ℕ = c.args.who.now in
    let xs : List Command = c.args.commands.now in
    let i = c.loop-conn.invariant in
    let n : ℕ = length c.loop-conn.yielded in
    let x : Command = c.in-Some.command.now in
    let p : ℕ × Key = (c.in-Some.conn.now, key_of x) in
    let t =
    zip_turn who xs c.loop-conn.yielded c.into_iter-conn-iterator.result c.loop-conn.conn-iterator c.next.new.self c.next.result (search rules)
    (search rules) c.loop-conn.yielded_by (c.in-Some.conn, c.in-Some.command) c.in-Some.is c.next.ensures.steps in
    let more : length (c.loop-conn.yielded ++ (c.in-Some.conn, c.in-Some.command) ∷ []) ≡ suc n =
    length-append c.loop-conn.yielded ((c.in-Some.conn, c.in-Some.command) ∷ []) ∙ add-one n in
    let fits : CommandInRange x = subst CommandInRange (sym (t.3 x)) (c.requires.each n x t.1) in
    record {
      is = c.push.ensures ∙ ap (λ l. l ++ p ∷ []) i.is ∙ sym (ap (λ k. take k (zip who (map key_of xs))) more ∙ keys_more who xs n p.0 x t.0 t.1 t.2 t.3);
      len = ap length c.push.ensures ∙ length-append c.loop-conn.keys (p ∷ []) ∙ omega (arith, i.len, more);
      range =
          subst (λ l. All KeyAtInRange l) (sym c.push.ensures)
          (All-append KeyAtInRange c.loop-conn.keys (p ∷ []) i.range (All-cons KeyAtInRange p [] (fits.client, fits.seq) (All-nil KeyAtInRange)));
    }

pub returns-clause-is : goal.returns-clause-is
returns-clause-is c =
    let who : List ℕ = c.args.who.now in
    let xs : List Command = c.args.commands.now in
    let pairs : List (ℕ × Key) = zip who (map key_of xs) in
    let n : ℕ = length c.loop-conn.yielded in
    let end : n ≡ min (length who) (length xs) =
    zip_end who xs c.loop-conn.yielded c.into_iter-conn-iterator.result c.loop-conn.conn-iterator c.next.new.self c.next.result (search rules)
    (search rules) c.loop-conn.yielded_by c.in-None.is c.next.ensures.steps in
    let len : length pairs ≡ n = length-zip who (map key_of xs) ∙ ap (min (length who)) (length-map xs key_of) ∙ sym end in
    c.loop-conn.invariant.is ∙ take_all n pairs (omega (arith, len))
