use Rattle.std.proofs.Common.{sym, ap, ◌∙◌, cond}
use Rattle.std.specs.Prelude.{None}
use Rattle.std.specs.Option.{option_or}
use Rattle.op_spec.specs.Service.{value_at}
use Rattle.op_change.specs.Over.{Written, pairs_over}
use Rattle.op_change.proofs.Written.{is_gone, value_over}
use Rattle.op_change.proofs.change.KvChange.value_of.Goals as goal

pub returns-in-Some : goal.returns-in-Some
returns-in-Some c =
    let inside = c.self.inside in
    let key = c.args.key.now in
    let below = c.below.inside.pairs.entries in
    let w : Written = record { pairs = inside.pairs; gone = inside.gone.keys; clients = inside.clients; forgotten = inside.forgotten.keys } in
    sym ((λ i. value_at key (pairs_over (sym c.below.view_is i).pairs (sym c.self.view_is i)))
    ∙ value_over below w key c.below.invariant.0 c.self.invariant.0
    ∙ ap (λ t. option_or t (cond (is_gone key w) None (value_at key below))) (sym c.in-Some.ensures))

pub returns-in-None : goal.returns-in-None
returns-in-None c =
    let inside = c.self.inside in
    let key = c.args.key.now in
    let below = c.below.inside.pairs.entries in
    let w : Written = record { pairs = inside.pairs; gone = inside.gone.keys; clients = inside.clients; forgotten = inside.forgotten.keys } in
    sym ((λ i. value_at key (pairs_over (sym c.below.view_is i).pairs (sym c.self.view_is i)))
    ∙ value_over below w key c.below.invariant.0 c.self.invariant.0
    ∙ (λ i. option_or (sym c.in-None.ensures i) (cond (sym c.if-contains.ensures i) None (value_at key below))))

pub returns-in-None-2 : goal.returns-in-None-2
returns-in-None-2 c =
    let inside = c.self.inside in
    let key = c.args.key.now in
    let below = c.below.inside.pairs.entries in
    let w : Written = record { pairs = inside.pairs; gone = inside.gone.keys; clients = inside.clients; forgotten = inside.forgotten.keys } in
    c.get-in-None-2.ensures.value
    ∙ sym ((λ i. value_at key (pairs_over (sym c.below.view_is i).pairs (sym c.self.view_is i)))
    ∙ value_over below w key c.below.invariant.0 c.self.invariant.0
    ∙ (λ i. option_or (sym c.in-None-2.ensures i) (cond (sym c.if-contains.ensures i) None (value_at key below))))
