use Rattle.std.proofs.Common.{◌≡◌, ◌<◌, ℕ, true, length, set, sym, ap, subst, refl, arith, rules}
use Rattle.std.proofs.lemmas.List.{length-set}
use Rattle.op_runs.specs.Possible.{is_possible}
use Rattle.op_executions.specs.Worlds.{named_of}
use Rattle.op_executions.proofs.Worlds.{does, has_place, rises_in, deed_happened, deed_keeps}
use Rattle.op_executions.proofs.world.ServerWorld.event.Goals as goal

pub index_mut-server-requires : goal.index_mut-server-requires
index_mut-server-requires g c =
    let w = c.args.self.now in
    let e = c.args.event in
    let d = c.in-Some-2.field-0 in
    let can : is_possible (named_of w) (length w.messages.items) e.what ≡ true = first_of (search rules, cc) in
    let placed = has_place g.S.Server.kind w c.requires.run e can c.requires.range _ c.deref-3.ensures.value _ c.in_ok-pid.ensures d c.in-Some-2.is _ c.deref-4.ensures.value c.place_of-place.result c.place_of-place.ensures.place in
    omega (arith, placed.there)

pub happens-requires-clause-can : goal.happens-requires-clause-can
happens-requires-clause-can g c =
    let w = c.args.self.now in
    let e = c.args.event in
    let d = c.in-Some-2.field-0 in
    let can : is_possible (named_of w) (length w.messages.items) e.what ≡ true = first_of (search rules, cc) in
    let placed = has_place g.S.Server.kind w c.requires.run e can c.requires.range _ c.deref-3.ensures.value _ c.in_ok-pid.ensures d c.in-Some-2.is _ c.deref-4.ensures.value c.place_of-place.result c.place_of-place.ensures.place in
    placed.can c.index_mut-server.result.now c.index_mut-server.ensures.value

pub returns-clause-happened : goal.returns-clause-happened
returns-clause-happened g c x show =
    let w = c.args.self.now in
    let e = c.args.event in
    let d = c.in-Some-2.field-0 in
    let can : is_possible (named_of w) (length w.messages.items) e.what ≡ true = first_of (search rules, cc) in
    let placed = has_place g.S.Server.kind w c.requires.run e can c.requires.range _ c.deref-3.ensures.value _ c.in_ok-pid.ensures d c.in-Some-2.is _ c.deref-4.ensures.value c.place_of-place.result c.place_of-place.ensures.place in
    let s = c.index_mut-server.result.now in
    let m = c.happens.new.self in
    deed_happened g.S.Server.kind w c.requires.run.run.servers d c.args.fate e.line s m c.in_ok-sends.sends c.in_ok-sends.ensures.told _
    (record {
      member = placed.deed.pid;
      at = placed.at s c.index_mut-server.ensures.value;
      done = c.in_ok-sends.ensures.done;
      servers_are = ap (λ (k : ℕ). set w.servers.items k m) placed.place;
      messages_are = c.in_ok-send_all.ensures;
      lines_are = c.in_ok-sends.ensures.added;
      ids_are = refl;
    })
    (rises_in g.S.Server.kind w c.requires.run) e refl (does w e _ c.deref-3.ensures.value _ c.in_ok-pid.ensures d c.in-Some-2.is) c.place_of-place.result placed.place x show

pub returns-clause-place : goal.returns-clause-place
returns-clause-place g c =
    let w = c.args.self.now in
    let e = c.args.event in
    let d = c.in-Some-2.field-0 in
    let can : is_possible (named_of w) (length w.messages.items) e.what ≡ true = first_of (search rules, cc) in
    let placed = has_place g.S.Server.kind w c.requires.run e can c.requires.range _ c.deref-3.ensures.value _ c.in_ok-pid.ensures d c.in-Some-2.is _ c.deref-4.ensures.value c.place_of-place.result c.place_of-place.ensures.place in
    subst (λ (n : ℕ). c.place_of-place.result < n) (sym (length-set w.servers.items c.place_of-place.result c.happens.new.self)) placed.there

pub returns-clause-goes_on : goal.returns-clause-goes_on
returns-clause-goes_on g c =
    let w = c.args.self.now in
    let e = c.args.event in
    let d = c.in-Some-2.field-0 in
    let can : is_possible (named_of w) (length w.messages.items) e.what ≡ true = first_of (search rules, cc) in
    let placed = has_place g.S.Server.kind w c.requires.run e can c.requires.range _ c.deref-3.ensures.value _ c.in_ok-pid.ensures d c.in-Some-2.is _ c.deref-4.ensures.value c.place_of-place.result c.place_of-place.ensures.place in
    let s = c.index_mut-server.result.now in
    let m = c.happens.new.self in
    record {
      servers = deed_keeps g.S.Server.kind w c.requires.run.run.servers d c.args.fate e.line s m c.in_ok-sends.sends c.in_ok-sends.ensures.told _
          (record {
            member = placed.deed.pid;
            at = placed.at s c.index_mut-server.ensures.value;
            done = c.in_ok-sends.ensures.done;
            servers_are = ap (λ (k : ℕ). set w.servers.items k m) placed.place;
            messages_are = c.in_ok-send_all.ensures;
            lines_are = c.in_ok-sends.ensures.added;
            ids_are = refl;
          });
      members = refl;
      ids = refl;
    }
