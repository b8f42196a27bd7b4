use Rattle.std.proofs.Common.{◌≡◌, true, false, sym, ap, ◌∙◌}
use Rattle.std.specs.Ordering.{is_eq}
use Rattle.std.specs.Map.{lookup}
use Rattle.std.specs.BTreeMap.{is_at}
use Rattle.op_overlay.specs.Overlays.{with_last}
use Rattle.op_overlay.proofs.Overlays.{find-last, find-earlier}
use Rattle.op_overlay.proofs.overlay.Overlay.get.Goals as goal
use Rattle.op_overlay.proofs.overlay.Overlay.get.Goals.{in_default-via-in-Some+else-is_eq, in_default-via-in_default}

pub returns-in-Some : goal.returns-in-Some
returns-in-Some g c =
    let R = g.K.Ord.cmp in
    let key = c.args.key.now in
    let es = c.self.inside.earlier.entries in
    let here : is_eq (R key c.in-Some.last) ≡ true = ap is_eq (sym c.cmp.ensures) ∙ sym c.is_eq.ensures ∙ c.if-is_eq.true in
    sym (ap (lookup (is_at (R key))) (sym c.self.view_is ∙ ap (with_last R es) c.in-Some.is) ∙ find-last g.met.K.Ord.total es c.in-Some.last c.in-Some.value key here)

pub returns-in_default : goal.returns-in_default
returns-in_default g c =
    let R = g.K.Ord.cmp in
    let key = c.args.key.now in
    let es = c.self.inside.earlier.entries in
    let at = lookup (is_at (R key)) in
    let same : at es ≡ at c.args.self.now =
    elim c.in_default.branch [
      | in_default-via-in-Some+else-is_eq w ↦
          let past : is_eq (R key w.in-Some.last) ≡ false = ap is_eq (sym w.cmp.ensures) ∙ sym w.is_eq.ensures ∙ w.if-is_eq.false in
          sym (ap at (sym c.self.view_is ∙ ap (with_last R es) w.in-Some.is) ∙ find-earlier g.met.K.Ord.total es w.in-Some.last w.in-Some.value key past)
      | in_default-via-in_default w ↦ ap at (ap (with_last R es) (sym w.in_default.is) ∙ c.self.view_is)
    ] in
    c.get.ensures.value ∙ same
