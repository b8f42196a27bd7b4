use Rattle.std.proofs.Common.{[], ◌∷◌}
use Rattle.op_mirror.proofs.Images.{mirror_is_sound, all_mixes}
use Rattle.op_mirror.proofs.disk.MirrorDisk.faults.Goals as goal

pub returns-clause-sound : goal.returns-clause-sound
returns-clause-sound g c =
    let m = c.args.self.now in
    λ o. mirror_is_sound (g.D.Disk.state m.first) (g.D.Disk.state m.second) (c.faults-first.ensures.sound o.0) (c.faults-second.ensures.sound o.1) o.0 o.1
    m.gone m.faults m.calls (m.first_mark ∷ m.second_mark ∷ []) m.alike

pub returns-clause-mixes : goal.returns-clause-mixes
returns-clause-mixes g c =
    let m = c.args.self.now in
    λ none oa ob x y w z ix iy iw mix.
    all_mixes (g.D.Disk.state m.first) (g.D.Disk.state m.second) (c.faults-first.ensures.sound oa) (c.faults-second.ensures.sound ob) oa ob
    m.gone m.faults m.calls (m.first_mark ∷ m.second_mark ∷ []) m.alike none x y w z ix iy iw mix
