use Rattle.std.proofs.Common.{◌≡◌, List, ℕ, get_or, set, refl, sym, ap, subst, ◌∙◌, arith}
use Rattle.op_areas.specs.Media.{medium}
use Rattle.op_executions.specs.Worlds.{place_of}
use Rattle.op_executions.proofs.Worlds.{place_in}
use Rattle.op_replay_nodes.specs.Became.{GoesOnPlanned}
use Rattle.op_replay_nodes.specs.Nodes.{area_nodes}
use Rattle.op_replay_nodes.specs.declared.node_state.WorldNode.{WorldNode}
use Rattle.op_world.proofs.Events.{ok_weaker}
use Rattle.op_world.proofs.Plans.{get_any}
use Rattle.op_world.proofs.world.events.plan_at.Goals as goal

pub index_mut-requires : goal.index_mut-requires
index_mut-requires g c =
    let M = medium g.A.Disk.state g.A.Area.holds g.A.Area.IS_MIRRORED in
    let w = c.args.world.now in
    let there = place_in (area_nodes M) w c.requires.kept c.args.pid c.requires.known in
    let at : c.place_of-place.result ≡ place_of w.ids.items c.args.pid = c.place_of-place.ensures.place ∙ ap (λ (ids : List ℕ). place_of ids c.args.pid) c.deref.ensures.value in
    omega (arith, there, at, w.servers.ok.0)

pub returns : goal.returns
returns g c =
    let M = medium g.A.Disk.state g.A.Area.holds g.A.Area.IS_MIRRORED in
    let w = c.args.world.now in
    let s = c.index_mut.result.now in
    let there = place_in (area_nodes M) w c.requires.kept c.args.pid c.requires.known in
    let at : c.place_of-place.result ≡ place_of w.ids.items c.args.pid = c.place_of-place.ensures.place ∙ ap (λ (ids : List ℕ). place_of ids c.args.pid) c.deref.ensures.value in
    let is : (d : WorldNode _ _) → get_or w.servers.items (place_of w.ids.items c.args.pid) d ≡ s = λ d.
    get_any w.servers.items (place_of w.ids.items c.args.pid) d s there ∙ ap (λ (k : ℕ). get_or w.servers.items k s) (sym at) ∙ sym c.index_mut.ensures.value in
    ok_weaker M c.plan_on.result _ _
    (λ goes. record {
      members = refl;
      ids = refl;
      messages = refl;
      lines = refl;
      proposed = refl;
      server = c.plan_on.new.self;
      goes_on = λ d. subst (λ (n : WorldNode _ _). GoesOnPlanned M c.args.planned n c.plan_on.new.self) (sym (is d)) goes;
      servers = ap (λ (k : ℕ). set w.servers.items k c.plan_on.new.self) at;
    })
    c.plan_on.ensures
