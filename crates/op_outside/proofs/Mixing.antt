-- What mixes three images is one.
use Rattle.std.proofs.Common.{◌≡◌, ◌≤◌, ◌<◌, ℕ, min, max, List, length, sym, ◌∙◌, arith}
use Rattle.op_outside.specs.Pendings.{Pending, IsImage, IsMixed}

pub mixed_image : (s : Pending) (x y w z : List ℕ) → IsImage s x → IsImage s y → IsImage s w → IsMixed x y w z → IsImage s z
mixed_image s x y w z ix iy iw m =
    let lx : s.low ≤ length x = ix.no_shorter in
    let ly : s.low ≤ length y = iy.no_shorter in
    let lw : s.low ≤ length w = iw.no_shorter in
    let hx : length x ≤ s.high = ix.no_longer in
    let hy : length y ≤ s.high = iy.no_longer in
    let hw : length w ≤ s.high = iw.no_longer in
    let low : min (length w) (min (length x) (length y)) ≤ length z = m.no_shorter in
    let high : length z ≤ max (length w) (max (length x) (length y)) = m.no_longer in
    record {
      no_shorter = omega arith;
      no_longer = omega arith;
      same = λ p below un.
          m.same p (omega arith) (omega arith) (omega arith) (omega arith) (ix.same p below un ∙ sym (iy.same p below un)) ∙ iw.same p below un;
    }
