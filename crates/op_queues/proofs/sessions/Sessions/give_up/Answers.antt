use Rattle.std.proofs.Common.{rules, ◌≡◌, ◌∙◌, ◌∷◌, [], All, refl, sym, ap, subst}
use Rattle.std.proofs.lemmas.List.Elements.{All-head}
use Rattle.std.specs.Map.{keys_of}
use Rattle.op_serving.specs.State.{Loop, askers_in}
use Rattle.op_serving.specs.Handing.{told_all}
use Rattle.op_queues.specs.Asked.{AwaitedInRange}
use Rattle.op_queues.proofs.Askers.{Entries}
use Rattle.op_queues.proofs.Failing.{Gives, gives_all, gives_one}
use Rattle.op_queues.proofs.Settling.{does_nothing}
use Rattle.op_queues.proofs.sessions.Sessions.give_up.Goals as goal

pub loop-read-init : goal.loop-read-init
loop-read-init c =
    let all : Entries = c.into_iter-read-iterator.result in
    let is : all ≡ c.self.inside.askers.entries = search rules in
    let named : c.args.self.now.askers ≡ askers_in all = sym (ap (λ (s : Loop). s.askers) c.self.view_is) ∙ ap askers_in (sym is) in
    let range : All AwaitedInRange (keys_of all) = subst (λ (es : Entries). All AwaitedInRange (keys_of es)) (sym is) c.self.invariant.10 in
    gives_all c.args.count c.args.self.now _ all (search rules) named (search rules) range

pub deny-requires-clause-key : goal.deny-requires-clause-key
deny-requires-clause-key c =
    let next : c.loop-read._read-iterator ≡ ((c.in-Some._read, c.in-Some.key), c.in-Some.conn) ∷ c.next.new.self = search rules in
    let range : All AwaitedInRange (keys_of c.loop-read._read-iterator) = c.loop-read.invariant.0 in
    All-head AwaitedInRange (c.in-Some._read, c.in-Some.key) (keys_of c.next.new.self) (subst (λ (es : Entries). All AwaitedInRange (keys_of es)) next range)

pub loop-read-preserved : goal.loop-read-preserved
loop-read-preserved c =
    let next : c.loop-read._read-iterator ≡ ((c.in-Some._read, c.in-Some.key), c.in-Some.conn) ∷ c.next.new.self = search rules in
    gives_one c.args.count c.args.self.now ((c.in-Some._read, c.in-Some.key), c.in-Some.conn) c.next.new.self c.loop-read.self c.deny.new.self
    (subst (λ (es : Entries). Gives c.args.count c.args.self.now es c.loop-read.self) next c.loop-read.invariant) c.deny.ensures

pub returns : goal.returns
returns c =
    let none : c.loop-read._read-iterator ≡ [] = search rules in
    (subst (λ (es : Entries). Gives c.args.count c.args.self.now es c.loop-read.self) none c.loop-read.invariant).1 c.loop-read.self
    (does_nothing (told_all []) c.loop-read.self refl)
