use Rattle.std.proofs.Common.{rules, sym, ◌∙◌, ap, ◌≡◌, ◌++◌, ◌∷◌, [], take, drop, length, subst}
use Rattle.std.proofs.Math.Seq.{take-append_seam}
use Rattle.op_outside.specs.Nets.{WasRead, seen_in}
use Rattle.op_outside.specs.Telling.{Grows}
use Rattle.op_serving.specs.Pump.{piece_len}
use Rattle.op_pump.proofs.room.Room.read.Goals as goal

pub returns-clause-tells : goal.returns-clause-tells
returns-clause-tells g c =
    let buf = c.read.new.buf in
    let rest = drop (length buf) c.self.inside.bytes.items in
    let whole : length c.as_mut_slice.result.now ≡ piece_len = search rules in
    let len : c.self.inside.bytes.len ≡ length buf = search rules in
    let same : take c.self.inside.bytes.len (buf ++ rest) ≡ buf = ap (λ n. take n (buf ++ rest)) len ∙ take-append_seam buf rest in
    let told : Grows (g.N.Net.told c.args.net.now) (WasRead c.args.conn piece_len (seen_in buf c.read.result) ∷ []) (g.N.Net.told c.read.new.self) =
    subst (λ n. Grows (g.N.Net.told c.args.net.now) (WasRead c.args.conn n (seen_in buf c.read.result) ∷ []) (g.N.Net.told c.read.new.self)) whole
    c.read.ensures.tells in
    subst (λ b. Grows (g.N.Net.told c.args.net.now) (WasRead c.args.conn piece_len (seen_in b c.read.result) ∷ []) (g.N.Net.told c.read.new.self)) (sym same)
    told
