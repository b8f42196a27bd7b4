use Rattle.std.proofs.Common.{◌≡◌, false, true, ◌++◌, ◌∷◌, [], List, length, Ok, All, refl, sym, ap, subst, ◌∙◌, append_assoc, arith}
use Rattle.std.proofs.lemmas.List.Elements.{All-head, All-tail}
use Rattle.op_types.specs.declared.events.Input.{Input}
use Rattle.op_serving.specs.Ranges.{InputInRange}
use Rattle.op_types.specs.declared.changes.Change.{Change}
use Rattle.op_node.specs.Nodes.{node_of}
use Rattle.op_core.specs.Groups.{Told, IsFull, changes_at, Took}
use Rattle.op_core.proofs.NodeCores.{admits, gave}
use Rattle.op_core.proofs.Takings.{took_none, took_same, took_more}
use Rattle.op_core.proofs.groups.take_all.Goals as goal

pub inputs-init : goal.inputs-init
inputs-init g c = record {
  ts = [];
  split = refl;
  took = took_none c.args.node.now c.args.results.now.items c.args.gathered.now c.requires.up c.requires.none c.requires.ready;
  next_in = c.requires.first.0;
  calm = c.requires.first.1;
  range = c.requires.range;
  few = omega arith;
  fits = c.requires.room;
  same_room = refl;
}

pub take-requires-clause-admits : goal.take-requires-clause-admits
take-requires-clause-admits g c = admits c.inputs.node c.inputs.next c.inputs.invariant.took.servable c.inputs.invariant.next_in

pub returns-in_default-clause-takes : goal.returns-in_default-clause-takes
returns-in_default-clause-takes g c =
    let inv = c.inputs.invariant in
    let e = c.in_default.ensures in
    record {
      ts = inv.ts;
      left = c.inputs.next ∷ [];
      split = inv.split;
      is_left = (c.inputs.next, refl);
      took = took_same c.args.node.now c.inputs.node c.take.new.self inv.ts c.args.results.now.items c.inputs.results.items c.inputs.gathered c.take.new.gathered inv.took e.unchanged e.kept e.sound;
      full = λ is. let bad : false ≡ true = is in absurd (cc);
    }

pub inputs-preserved : goal.inputs-preserved
inputs-preserved g c =
    let inv = c.inputs.invariant in
    let e = c.in-Ok.ensures in
    let old = c.args.node.now in
    let x : Input = c.inputs.next in
    let before : List Told = c.args.results.now.items in
    let after : List Told = c.inputs.results.items in
    let rest : List Input = c.next_in_group.new.inputs.items in
    let y : Input = c.in-Some.input in
    let fits = gave c.inputs.node c.take.new.self x (Ok c.in-Ok.given) inv.took.servable inv.next_in (e.taken.given, e.taken.node) c.count_fits.ensures in
    let took = took_more old c.inputs.node c.take.new.self inv.ts before after c.inputs.gathered c.take.new.gathered x c.in-Ok.given inv.took e.taken e.added inv.next_in inv.calm e.sound fits in
    let pushed = c.push_reserved.ensures.items in
    let range : All InputInRange (y ∷ rest) = subst (All InputInRange) c.in-Some.ensures.next.0 inv.range in
    record {
      ts = inv.ts ++ x ∷ [];
      split = inv.split ∙ ap (λ (ys : List Input). inv.ts ++ x ∷ ys) c.in-Some.ensures.next.0 ∙ sym (append_assoc inv.ts (x ∷ []) (y ∷ rest));
      took = subst (λ (rs : List Told). Took old (inv.ts ++ x ∷ []) before rs c.take.new.gathered c.take.new.self) (sym pushed) took;
      next_in = All-head InputInRange y rest range;
      calm = c.in-Some.ensures.next.1;
      range = All-tail InputInRange y rest range;
      few = omega (arith, ap length c.in-Some.ensures.next.0, inv.few);
      fits = omega (arith, ap length c.in-Some.ensures.next.0, inv.fits, c.push_reserved.ensures.len, c.push_reserved.ensures.capacity);
      same_room = c.push_reserved.ensures.capacity ∙ inv.same_room;
    }

pub returns-in-None-clause-takes : goal.returns-in-None-clause-takes
returns-in-None-clause-takes g c =
    let inv = c.inputs.invariant in
    let e = c.in-Ok.ensures in
    let old = c.args.node.now in
    let x : Input = c.inputs.next in
    let before : List Told = c.args.results.now.items in
    let after : List Told = c.inputs.results.items in
    let rest : List Input = c.next_in_group.new.inputs.items in
    let fits = gave c.inputs.node c.take.new.self x (Ok c.in-Ok.given) inv.took.servable inv.next_in (e.taken.given, e.taken.node) c.count_fits.ensures in
    let took = took_more old c.inputs.node c.take.new.self inv.ts before after c.inputs.gathered c.take.new.gathered x c.in-Ok.given inv.took e.taken e.added inv.next_in inv.calm e.sound fits in
    let pushed = c.push_reserved.ensures.items in
    let changes : List Change = changes_at (node_of old) (inv.ts ++ x ∷ []) in
    record {
      ts = inv.ts ++ x ∷ [];
      left = [];
      split = inv.split ∙ ap (λ (ys : List Input). inv.ts ++ x ∷ ys) (sym c.in-None.ensures.next) ∙ sym (append_assoc inv.ts (x ∷ []) rest);
      is_left = refl;
      full = λ is. subst (IsFull changes) (sym c.in-None.ensures.next) (c.in-None.ensures.full refl changes took.leads.laid);
      took = subst (λ (rs : List Told). Took old (inv.ts ++ x ∷ []) before rs c.take.new.gathered c.take.new.self) (sym pushed) took;
    }
