use Rattle.std.proofs.Common.{ℕ, Bool, [], ◌∷◌, subst}
use Rattle.op_mirror.specs.Copies.{living_of, reads_second}
use Rattle.op_areas.specs.Openings.{IsNoOther}
use Rattle.op_areas.proofs.Pairs.{closed_mirror}
use Rattle.op_areas.proofs.mirror.MemMirrorArea.close.Goals as goal

pub returns : goal.returns
returns c =
    let m = c.args.self.mirror in
    let apart = c.apart-first in
    let a = apart.result.0 in
    let b = apart.result.1 in
    let other : IsNoOther c.living-living.result c.reads_second-reads_second.result a b = c.in_ok-is_no_other.ensures c.if-not-branch.false in
    let living : IsNoOther (living_of m.gone m.is_dead) c.reads_second-reads_second.result a b =
    subst (λ (n : ℕ). IsNoOther n c.reads_second-reads_second.result a b) c.living-living.ensures other in
    let reads : IsNoOther (living_of m.gone m.is_dead) (reads_second m.gone) a b =
    subst (λ (r : Bool). IsNoOther (living_of m.gone m.is_dead) r a b) c.reads_second-reads_second.ensures living in
    closed_mirror m.gone m.is_dead m.faults m.calls (m.first_mark ∷ m.second_mark ∷ []) m.first m.second a b apart.ensures.made.first_is apart.ensures.made.second_is m.alike reads
