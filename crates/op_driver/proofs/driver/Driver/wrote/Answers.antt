use Rattle.std.proofs.Common.{rules, ◌≡◌, Some, ap, sym, ◌∙◌, arith}
use Rattle.op_serving.specs.State.{kind_at}
use Rattle.op_serving.specs.Turns.{up_peer}
use Rattle.op_driver.proofs.Turning.{wrote_some, wrote_rests, wrote_hello, wrote_less, wrote_less_then, wrote_pours, wrote_no_up}
use Rattle.op_serving.specs.Counts.{most_inputs}
use Rattle.op_driver.specs.Driver.{Served}
use Rattle.op_queues.proofs.Counting.{most_took, most_up}
use Rattle.op_driver.proofs.driver.Driver.wrote.Goals as goal

pub returns-in_default-clause-does : goal.returns-in_default-clause-does
returns-in_default-clause-does g c = wrote_some c.args.conn c.args.n c.took.ensures (search rules)

pub returns-in_default-clause-rests : goal.returns-in_default-clause-rests
returns-in_default-clause-rests g c = wrote_rests c.args.conn c.args.n c.args.self.now c.took.ensures c.requires.none

pub returns-in-Some-clause-does : goal.returns-in-Some-clause-does
returns-in-Some-clause-does g c = wrote_hello c.args.conn c.args.n c.took.ensures (search rules) c.give.ensures.gives

pub returns-in_default-clause-hello : goal.returns-in_default-clause-hello
returns-in_default-clause-hello g c = wrote_less c.args.conn c.args.n c.args.self.now c.took.ensures

pub returns-in_default-clause-pours : goal.returns-in_default-clause-pours
returns-in_default-clause-pours g c = wrote_pours c.args.conn c.args.n c.args.self.now c.took.ensures

pub returns-in-Some-clause-hello : goal.returns-in-Some-clause-hello
returns-in-Some-clause-hello g c = wrote_less_then c.args.conn c.args.n c.args.self.now c.took.ensures c.give.new.self c.give.ensures.gives.kinds

pub returns-in-Some-clause-pours : goal.returns-in-Some-clause-pours
returns-in-Some-clause-pours g c = λ z. absurd (wrote_no_up c.args.conn c.args.n c.args.self.now c.took.ensures {q = c.in-Some.peer} z (search rules))

pub returns-in_default-clause-most : goal.returns-in_default-clause-most
returns-in_default-clause-most g c = omega (arith, ap (λ (x : Served _). most_inputs x.loop) c.took.ensures, most_took c.args.conn c.args.n c.args.self.now.loop)

pub returns-in-Some-clause-most : goal.returns-in-Some-clause-most
returns-in-Some-clause-most g c =
    let s = c.args.self.now.loop in
    let up : up_peer (kind_at c.args.conn s) (kind_at c.args.conn c.took.new.self.loop) ≡ Some c.in-Some.peer = search rules in
    let is = ap (λ (x : Served _). x.loop) c.took.ensures in
    omega (arith, c.give.ensures.most, ap most_inputs is, most_up c.args.conn c.args.n c.in-Some.peer s (sym (ap (λ t. up_peer (kind_at c.args.conn s) (kind_at c.args.conn t)) is) ∙ up))
