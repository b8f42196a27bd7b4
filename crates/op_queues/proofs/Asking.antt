-- Commands and reads that are asked for: they wait for their answers, or their session is lost since one of them finds no memory.
use Rattle.std.proofs.Common.{◌≡◌, ◌<◌, ◌∷◌, [], ℕ, Bool, List, length, true, None, is_some, sym, ◌∙◌, ap, subst}
use Rattle.std.specs.FinMap as map
use Rattle.op_serving.specs.State.{Key, Awaited, Loop, is_open}
use Rattle.op_serving.specs.Losses.{most_marks, lost_by, lost_if_open, settled, Does}
use Rattle.op_serving.specs.Handing.{asked_by_one, asked}
use Rattle.op_queues.proofs.Askers.{asks_if, unless_at, get_without, none_removed}
use Rattle.op_queues.proofs.Losing.{by_loss, by_open, shut}
use Rattle.op_queues.proofs.Settling.{Blind, Quiet, blind, quiet_same, quiet_then, does_found, does_lost}
use Rattle.op_queues.proofs.Room.{quiet_asked_by_one}

pub quiet_asked : (read : Bool) (keys : List (ℕ × Key)) → Quiet (asked read keys)
quiet_asked read [] = quiet_same
quiet_asked read (p ∷ ps) = quiet_then (quiet_asked_by_one read p) (quiet_asked read ps)

pub blind_asked : (read : Bool) (keys : List (ℕ × Key)) → Blind (asked read keys)
blind_asked read keys = blind (quiet_asked read keys)

-- with and without a session
pub asked_found : (read : Bool) (p : ℕ × Key) (b : Bool) (s t : Loop) → is_open p.0 s ≡ b → t ≡ record s { askers = asks_if p.0 (read, p.1) b s.askers }
    → Does (λ ms x. settled ms (asked_by_one read p x)) s t
asked_found read p b s t h e = does_found (quiet_asked_by_one read p) s t (e ∙ sym (ap (λ x. record s { askers = asks_if p.0 (read, p.1) x s.askers }) h))

-- a command that finds no memory was asked for by nobody: its session is lost
pub asked_lost : (read : Bool) (p : ℕ × Key) (s u t : Loop) → u ≡ s → map.get s.askers (read, p.1) ≡ None → t ≡ lost_if_open p.0 u
    → (is_open p.0 u ≡ true → length u.lost < most_marks) → Does (λ ms x. settled ms (asked_by_one read p x)) s t
asked_lost read p s u t same none e room =
    let key : Awaited = (read, p.1) in
    let before : map.get u.askers key ≡ None = ap (λ (x : Loop). map.get x.askers key) same ∙ none in
    let lost : map.get (lost_by p.0 u).askers key ≡ None =
    by_loss (λ x. map.get x.askers key ≡ None) p.0 u before (λ k. get_without p.0 u.askers key ∙ ap (unless_at p.0) before) (map.get-empty _ _) in
    let after : map.get t.askers key ≡ None = rw e (by_open (λ x. map.get x.askers key ≡ None) p.0 u (λ h. before) (λ h. lost)) in
    let idle : asked_by_one read p t ≡ t =
    ap (λ o. record t { askers = asks_if p.0 key (is_some o) t.askers }) (shut p.0 u t e)
    ∙ ap (λ x. record t { askers = x }) (none_removed key t.askers after) in
    subst (λ (x : Loop). Does (λ ms y. settled ms (asked_by_one read p y)) x t) same (does_lost (quiet_asked_by_one read p) p.0 u t idle e room)
