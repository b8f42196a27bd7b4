use Rattle.std.proofs.Common.{◌≡◌, true, false, List, Option, Some, is_some, sym, ap, ◌∙◌, subst}
use Rattle.std.proofs.lemmas.Result.{IfOk-weaker}
use Rattle.op_types.specs.Effects.{effects_of}
use Rattle.op_types.specs.RoleStates.{promises_with, told_by, stage_of, staged_with}
use Rattle.op_types.specs.Roles.{preparing_of}
use Rattle.op_types.specs.declared.log.Entry.{Entry}
use Rattle.op_types.specs.declared.plan.Plan.{Plan}
use Rattle.op_types.specs.declared.role.Promised.{Promised}
use Rattle.op_types.specs.declared.role.Stage.{Stage}
use Rattle.op_types.specs.declared.role.Role.TheVariants as role
use Rattle.op_types.specs.declared.turn.Turn.TheVariants as turn
use Rattle.op_protocol.specs.Promises.{has_quorum}
use Rattle.op_choosing.specs.Choosing.{IsAdmitted, AreAdmitted}
use Rattle.op_leader.specs.Completing.{staged_of, whole_with, takes_part}
use Rattle.op_leader.proofs.Admitted.{admitted_with}
use Rattle.op_leader.proofs.Gaps.{whole_len}
use Rattle.op_leader.proofs.Within.{within_of, whole_admitted}
use Rattle.op_leader.proofs.PartRows.{stays_kept, is_dropped, is_adopted, same_quorum}
use Rattle.op_leader.proofs.parts.take_part.Goals as goal

pub returns-then-not-is_usable_whole-clause-row : goal.returns-then-not-is_usable_whole-clause-row
returns-then-not-is_usable_whole-clause-row c =
    let r = preparing_of c.args.preparing.now in
    let q = c.args.from in
    let part = c.args.part in
    let staged = stage_of r.stages q in
    let o : Option (List Entry) = whole_with staged part in
    let all : is_some o ≡ true =
    ap (λ (l : List Stage). is_some (whole_with (staged_of l q) part)) (sym c.as_slice.ensures) ∙ sym c.completes.ensures ∙ c.if-not-completes.false in
    let unusable : c.is_usable_whole.result ≡ false = c.if-not-is_usable_whole.true in
    ap (λ (x : Plan). effects_of (role.Preparing c.args.preparing.now) x) c.set_turn.ensures
    ∙ ap (λ (x : Plan). effects_of (role.Preparing c.args.preparing.now) (record x { turn = turn.DropParts q })) c.nothing-plan.ensures
    ∙ is_dropped c.args.member.now.me c.args.member.now.part.now r q part (staged_with r q part) o all
    (λ es is. sym (c.is_usable_whole.ensures q es (whole_len staged part es c.requires.run is)) ∙ unusable)

pub returns-then-not-have_quorum_with-clause-row :
    goal.returns-then-not-have_quorum_with-clause-row
returns-then-not-have_quorum_with-clause-row c =
    let me = c.args.member.now.me in
    let p = c.args.member.now.part.now in
    let r = preparing_of c.args.preparing.now in
    let q = c.args.from in
    let part = c.args.part in
    let staged = stage_of r.stages q in
    let o : Option (List Entry) = whole_with staged part in
    let told : Promised = c.told_by-told.result in
    let all : is_some o ≡ true =
    ap (λ (l : List Stage). is_some (whole_with (staged_of l q) part)) (sym c.as_slice.ensures) ∙ sym c.completes.ensures ∙ c.if-not-completes.false in
    let usable : c.is_usable_whole.result ≡ true = c.if-not-is_usable_whole.false in
    let few : c.have_quorum_with.result ≡ false = c.if-not-have_quorum_with.true in
    IfOk-weaker c.keep_part-then-not-have_quorum_with.result _ (λ (plan : Plan). effects_of (role.Preparing c.args.preparing.now) plan ≡ takes_part me p r q part)
    (λ (plan : Plan) row. row ∙ stays_kept me p r q part (staged_with r q part) o all
    (λ es is. sym (c.is_usable_whole.ensures q es (whole_len staged part es c.requires.run is)) ∙ usable)
    (λ es. sym (same_quorum me p.members r.promises told (told_by q part es) (ap (λ (k : Promised). k.from) c.told_by-told.ensures))
    ∙ ap (λ (ps : List Promised). has_quorum me p.members (promises_with ps told)) (sym c.as_slice-2.ensures) ∙ sym c.have_quorum_with.ensures ∙ few))
    c.keep_part-then-not-have_quorum_with.ensures.row

pub adopt-requires-clause-promises : goal.adopt-requires-clause-promises
adopt-requires-clause-promises c =
    let r = preparing_of c.args.preparing.now in
    let q = c.args.from in
    let part = c.args.part in
    let k : Promised = c.in_ok-whole.whole in
    let entries : whole_with (stage_of r.stages q) part ≡ Some k.entries =
    ap (λ (l : List Stage). whole_with (staged_of l q) part) (sym c.as_slice-3.ensures) ∙ c.in_ok-whole.ensures.entries in
    let one : IsAdmitted k = subst IsAdmitted (sym c.in_ok-whole.ensures.told) (whole_admitted (stage_of r.stages q) part q k.entries c.requires.run (within_of r.stages q c.requires.stages) entries) in
    admitted_with c.as_slice-4.result.now k (subst AreAdmitted (sym c.as_slice-4.ensures) c.requires.promises) one

pub returns-clause-row : goal.returns-clause-row
returns-clause-row c =
    let me = c.args.member.now.me in
    let p = c.args.member.now.part.now in
    let r = preparing_of c.args.preparing.now in
    let q = c.args.from in
    let part = c.args.part in
    let staged = stage_of r.stages q in
    let o : Option (List Entry) = whole_with staged part in
    let k : Promised = c.in_ok-whole.whole in
    let told : Promised = c.told_by-told.result in
    let entries : o ≡ Some k.entries =
    ap (λ (l : List Stage). whole_with (staged_of l q) part) (sym c.as_slice-3.ensures) ∙ c.in_ok-whole.ensures.entries in
    let usable : c.is_usable_whole.result ≡ true = c.if-not-is_usable_whole.false in
    let many : c.have_quorum_with.result ≡ true = c.if-not-have_quorum_with.false in
    let one_sender : k.from ≡ told.from = ap (λ (j : Promised). j.from) c.in_ok-whole.ensures.told ∙ sym (ap (λ (j : Promised). j.from) c.told_by-told.ensures) in
    IfOk-weaker c.adopt.result _ (λ (plan : Plan). effects_of (role.Preparing c.args.preparing.now) plan ≡ takes_part me p r q part)
    (λ (plan : Plan) row. row (role.Preparing c.args.preparing.now)
    ∙ is_adopted me p r q part (staged_with r q part) o k c.as_slice-4.result.now c.as_slice-5.result.now entries c.in_ok-whole.ensures.told
    (sym (c.is_usable_whole.ensures q k.entries (whole_len staged part k.entries c.requires.run entries)) ∙ usable)
    c.as_slice-4.ensures c.as_slice-5.ensures
    (ap (λ (ps : List Promised). has_quorum me p.members (promises_with ps k)) c.as_slice-4.ensures
    ∙ same_quorum me p.members r.promises k told one_sender
    ∙ ap (λ (ps : List Promised). has_quorum me p.members (promises_with ps told)) (sym c.as_slice-2.ensures) ∙ sym c.have_quorum_with.ensures ∙ many))
    c.adopt.ensures.row
