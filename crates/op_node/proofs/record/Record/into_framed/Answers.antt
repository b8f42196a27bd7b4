use Rattle.std.proofs.Common.{◌≡◌, ◌<◌, ◌≤◌, ◌^◌, ◌++◌, ℕ, List, length, take, drop, rules, sym, ap, ◌∙◌, length-append, arith}
use Rattle.std.proofs.lemmas.List.{take_at}
use Rattle.op_types.specs.declared.changes.Change.{Change}
use Rattle.op_record.specs.Forms.{body, step_text}
use Rattle.op_record.specs.declared.body.Rec.TheVariants.{Step}
use Rattle.op_record.proofs.StepHeads.{step_head}
use Rattle.op_record.proofs.Short.{short_fits}
use Rattle.op_node.specs.Taking.{LaysOut}
use Rattle.op_node.specs.declared.record.Record.{Record}
use Rattle.op_node.proofs.record.Record.into_framed.Goals as goal

-- the tag and the count stand behind the space
two_more : (changes : List Change) (r : Record) → LaysOut changes r → 27 ≤ length r.bytes.items
two_more changes r laid =
    let text : List ℕ = step_text 0 changes in
    let some : 2 ≤ length text = omega (arith, ap length (step_head 0 (omega arith) changes)) in
    omega (arith, ap length laid.bytes, length-append laid.space text, laid.long)

pub set_count-requires : goal.set_count-requires
set_count-requires c =
    let long : 27 ≤ length c.args.self.bytes.items = two_more c.requires.0 c.args.self c.requires.1 in
    let same : c.deref_mut.result.now ≡ c.args.self.bytes.items = search rules in
    omega (arith, ap length same)

pub close-requires-clause-space : goal.close-requires-clause-space
close-requires-clause-space c =
    let old : List ℕ = c.args.self.bytes.items in
    let laid : List ℕ = c.set_count.new.bytes in
    let long : 27 ≤ length old = two_more c.requires.0 c.args.self c.requires.1 in
    let room : c.args.self.bytes.len ≡ length laid = search rules in
    let same : length laid ≡ length old = search rules in
    let whole : take c.args.self.bytes.len (laid ++ drop (length laid) old) ≡ laid = take_at laid (drop (length laid) old) c.args.self.bytes.len (sym room) in
    omega (arith, ap length whole)

pub close-requires-clause-room : goal.close-requires-clause-room
close-requires-clause-room c = c.requires.1.room

pub returns : goal.returns
returns c changes l =
    let r = Step changes in
    let old : List ℕ = c.args.self.bytes.items in
    let laid : List ℕ = c.set_count.new.bytes in
    let value : c.deref_mut.result.now ≡ old = search rules in
    let room : c.args.self.bytes.len ≡ length laid = search rules in
    let whole : take c.args.self.bytes.len (laid ++ drop (length laid) old) ≡ laid = take_at laid (drop (length laid) old) c.args.self.bytes.len (sym room) in
    let is : laid ≡ l.space ++ body.text r = c.set_count.ensures l.space changes l.long (value ∙ l.bytes) ∙ ap (λ (n : ℕ). l.space ++ step_text n changes) l.count in
    let small : length (body.text r) < 2 ^ 64 = omega (arith, length-append l.space (body.text r), ap length is, room, c.args.self.bytes.small) in
    (short_fits r l.range small, c.close.ensures l.space (body.text r) l.long (whole ∙ is))
