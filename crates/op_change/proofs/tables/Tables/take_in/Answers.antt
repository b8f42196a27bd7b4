use Rattle.std.proofs.Common.{refl, sym, subst, ◌∙◌}
use Rattle.std.specs.Cmp.{nat_cmp_total}
use Rattle.std.specs.Cmp.Lexicographic.{nat_list_cmp_total}
use Rattle.std.proofs.lemmas.Map.Lookups.{exact_unsigned, exact_bytes}
use Rattle.op_change.specs.Over.{service_over}
use Rattle.op_overlay.proofs.Deletes.{moved-without, rises-without}
use Rattle.op_change.proofs.Services.{both_same}
use Rattle.op_change.proofs.Written.{PairsRise, ClientsRise}
use Rattle.op_change.proofs.tables.Tables.take_in.Goals as goal

pub move_over-requires-clause-exact : goal.move_over-requires-clause-exact
move_over-requires-clause-exact c = exact_bytes

pub move_over-requires-clause-order : goal.move_over-requires-clause-order
move_over-requires-clause-order c = subst PairsRise (sym c.take_out.ensures.entries) (rises-without nat_list_cmp_total c.self.inside.pairs.entries c.change.inside.gone.keys c.self.invariant.0)

pub move_over-requires-2-clause-exact : goal.move_over-requires-2-clause-exact
move_over-requires-2-clause-exact c = exact_unsigned

pub returns-in_err-move_over-clause-same : goal.returns-in_err-move_over-clause-same
returns-in_err-move_over-clause-same c =
    both_same
    (moved-without nat_list_cmp_total c.take_out.new.below.entries c.move_over.new.below.entries c.change.inside.pairs c.move_over.new.self c.self.inside.pairs.entries c.change.inside.gone.keys c.take_out.new.gone.keys
    c.take_out.ensures.entries c.take_out.ensures.gone c.move_over.ensures.same)
    (moved-without nat_cmp_total c.take_out-2.new.below.entries c.take_out-2.new.below.entries c.change.inside.clients c.change.inside.clients c.self.inside.clients.entries c.change.inside.forgotten.keys c.take_out-2.new.gone.keys
    c.take_out-2.ensures.entries c.take_out-2.ensures.gone refl)
    ∙ (λ i. service_over (c.self.view_is i) (c.change.view_is i))

pub returns-in_err-move_over-2-clause-same : goal.returns-in_err-move_over-2-clause-same
returns-in_err-move_over-2-clause-same c =
    both_same
    (moved-without nat_list_cmp_total c.take_out.new.below.entries c.move_over.new.below.entries c.change.inside.pairs c.move_over.new.self c.self.inside.pairs.entries c.change.inside.gone.keys c.take_out.new.gone.keys
    c.take_out.ensures.entries c.take_out.ensures.gone c.move_over.ensures.same)
    (moved-without nat_cmp_total c.take_out-2.new.below.entries c.move_over-2.new.below.entries c.change.inside.clients c.move_over-2.new.self c.self.inside.clients.entries c.change.inside.forgotten.keys c.take_out-2.new.gone.keys
    c.take_out-2.ensures.entries c.take_out-2.ensures.gone c.move_over-2.ensures.same)
    ∙ (λ i. service_over (c.self.view_is i) (c.change.view_is i))

pub returns-clause-same : goal.returns-clause-same
returns-clause-same c =
    both_same
    (moved-without nat_list_cmp_total c.take_out.new.below.entries c.move_over.new.below.entries c.change.inside.pairs c.move_over.new.self c.self.inside.pairs.entries c.change.inside.gone.keys c.take_out.new.gone.keys
    c.take_out.ensures.entries c.take_out.ensures.gone c.move_over.ensures.same)
    (moved-without nat_cmp_total c.take_out-2.new.below.entries c.move_over-2.new.below.entries c.change.inside.clients c.move_over-2.new.self c.self.inside.clients.entries c.change.inside.forgotten.keys c.take_out-2.new.gone.keys
    c.take_out-2.ensures.entries c.take_out-2.ensures.gone c.move_over-2.ensures.same)
    ∙ (λ i. service_over (c.self.view_is i) (c.change.view_is i))

pub move_over-requires-2-clause-order : goal.move_over-requires-2-clause-order
move_over-requires-2-clause-order c = subst ClientsRise (sym c.take_out-2.ensures.entries) (rises-without nat_cmp_total c.self.inside.clients.entries c.change.inside.forgotten.keys c.self.invariant.1)

pub invariant_of-self : goal.invariant_of-self
invariant_of-self c = (
  c.move_over.ensures.below_order,
  subst ClientsRise (sym c.take_out-2.ensures.entries) (rises-without nat_cmp_total c.self.inside.clients.entries c.change.inside.forgotten.keys c.self.invariant.1),
)
