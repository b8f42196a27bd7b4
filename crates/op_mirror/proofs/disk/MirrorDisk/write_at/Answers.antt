use Rattle.std.proofs.Common.{◌≡◌, true, false, refl, ◌∙◌, [], ◌∷◌, Result, Ok, Err, rules}
use Rattle.op_outside.specs.Causes.{FailsOnlyOnFault}
use Rattle.op_outside.specs.Disks.Edit.{Write}
use Rattle.op_outside.specs.declared.disk.DiskFail.{DiskFail}
use Rattle.op_mirror.specs.Copies.{is_read_ok}
use Rattle.op_mirror.proofs.Calls.{mirror_does}
use Rattle.op_mirror.proofs.Pending.{mirror_pends}
use Rattle.op_mirror.proofs.Takings.{takes_first, takes_second, first_stays, second_stays, one_lives, living_none, stays_first, stays_second}
use Rattle.op_mirror.proofs.disk.MirrorDisk.write_at.Goals as goal

pub returns-then-is_done-clause-does : goal.returns-then-is_done-clause-does
returns-then-is_done-clause-does g c =
    let m = c.args.self.now in
    let r : Result (Unit {0}) DiskFail = Ok tt in
    let cause : FailsOnlyOnFault m.faults m.faults r = search rules in
    let ok : is_read_ok c.gone_after-self.result c.try_write-first.result c.try_write-second.result ≡ true = search rules in
    mirror_does g.D.Disk.state (Write c.args.at c.args.bytes.now) m.gone m.is_dead m.first c.try_write-first.new.disk m.second c.try_write-second.new.disk
    c.has_first.result c.has_second.result c.try_write-first.result c.try_write-second.result c.has_first.ensures c.has_second.ensures
    c.try_write-first.ensures.tries c.try_write-second.ensures.tries m.alike
    m.faults m.faults m.calls c.saturating_add-self.result (m.first_mark ∷ m.second_mark ∷ []) c.gone_after-self.result r c.gone_after-self.ensures cause ok

pub returns-then-is_done-clause-pends : goal.returns-then-is_done-clause-pends
returns-then-is_done-clause-pends g c =
    let m = c.args.self.now in
    let r : Result (Unit {0}) DiskFail = Ok tt in
    let ok : is_read_ok c.gone_after-self.result c.try_write-first.result c.try_write-second.result ≡ true = search rules in
    mirror_pends g.D.Disk.state m.gone c.gone_after-self.result m.is_dead m.first c.try_write-first.new.disk m.second c.try_write-second.new.disk c.try_write-first.result c.try_write-second.result m.alike c.gone_after-self.ensures
    m.faults m.faults m.calls c.saturating_add-self.result (m.first_mark ∷ m.second_mark ∷ []) r ok (Write c.args.at c.args.bytes.now) c.has_first.result c.has_second.result
    c.try_write-first.ensures.tries c.try_write-second.ensures.tries c.try_write-first.ensures.pends c.try_write-second.ensures.pends

pub returns-then-is_done-clause-out : goal.returns-then-is_done-clause-out
returns-then-is_done-clause-out g c =
    let m = c.args.self.now in
    let state = g.D.Disk.state in
    let ok : is_read_ok c.gone_after-self.result c.try_write-first.result c.try_write-second.result ≡ true = search rules in
    let first_is = stays_first m.gone c.gone_after-self.result c.try_write-first.result c.try_write-second.result c.gone_after-self.ensures in
    let second_is = stays_second m.gone c.gone_after-self.result c.try_write-first.result c.try_write-second.result c.gone_after-self.ensures in
    record {
      first = takes_first state (Write c.args.at c.args.bytes.now) m.gone c.gone_after-self.result m.is_dead m.is_dead m.first c.try_write-first.new.disk m.second c.try_write-second.new.disk
          c.has_first.result c.has_second.result c.try_write-first.result c.try_write-second.result true c.has_first.ensures c.has_second.ensures c.try_write-first.ensures.tries c.try_write-second.ensures.tries c.gone_after-self.ensures ok (λ e. e);
      second = takes_second state (Write c.args.at c.args.bytes.now) m.gone c.gone_after-self.result m.is_dead m.is_dead m.first c.try_write-first.new.disk m.second c.try_write-second.new.disk
          c.has_first.result c.has_second.result c.try_write-first.result c.try_write-second.result true c.has_first.ensures c.has_second.ensures c.try_write-first.ensures.tries c.try_write-second.ensures.tries c.gone_after-self.ensures ok (λ e. e);
      first_stays = first_stays state (Write c.args.at c.args.bytes.now) m.gone c.gone_after-self.result m.is_dead m.is_dead m.first c.try_write-first.new.disk m.second c.try_write-second.new.disk
          c.has_first.result c.has_second.result c.try_write-first.result c.try_write-second.result c.has_first.ensures (λ o. c.has_second.ensures ∙ o) c.try_write-first.ensures.tries c.try_write-second.ensures.tries first_is second_is (λ e. e);
      second_stays = second_stays state (Write c.args.at c.args.bytes.now) m.gone c.gone_after-self.result m.is_dead m.is_dead m.first c.try_write-first.new.disk m.second c.try_write-second.new.disk
          c.has_first.result c.has_second.result c.try_write-first.result c.try_write-second.result c.has_first.ensures (λ o. c.has_second.ensures ∙ o) c.try_write-first.ensures.tries c.try_write-second.ensures.tries first_is second_is (λ e. e);
      done = one_lives state (Write c.args.at c.args.bytes.now) m.gone c.gone_after-self.result m.is_dead m.is_dead m.first c.try_write-first.new.disk m.second c.try_write-second.new.disk
          c.has_first.result c.has_second.result c.try_write-first.result c.try_write-second.result c.has_first.ensures (λ o. c.has_second.ensures ∙ o) c.try_write-first.ensures.tries c.try_write-second.ensures.tries first_is second_is (λ e. e) ok refl;
      ended = tt;
      counted = tt;
    }

pub returns-clause-does : goal.returns-clause-does
returns-clause-does g c =
    let m = c.args.self.now in
    let r : Result (Unit {0}) DiskFail = Err (record {}) in
    let cause : FailsOnlyOnFault m.faults c.saturating_add-self-2.result r = search rules in
    mirror_does g.D.Disk.state (Write c.args.at c.args.bytes.now) m.gone m.is_dead m.first c.try_write-first.new.disk m.second c.try_write-second.new.disk
    c.has_first.result c.has_second.result c.try_write-first.result c.try_write-second.result c.has_first.ensures c.has_second.ensures
    c.try_write-first.ensures.tries c.try_write-second.ensures.tries m.alike
    m.faults c.saturating_add-self-2.result m.calls c.saturating_add-self.result (m.first_mark ∷ m.second_mark ∷ []) c.gone_after-self.result r c.gone_after-self.ensures cause tt

pub returns-clause-pends : goal.returns-clause-pends
returns-clause-pends g c =
    let m = c.args.self.now in
    let r : Result (Unit {0}) DiskFail = Err (record {}) in
    let ok : is_read_ok c.gone_after-self.result c.try_write-first.result c.try_write-second.result ≡ false = search rules in
    mirror_pends g.D.Disk.state m.gone c.gone_after-self.result m.is_dead m.first c.try_write-first.new.disk m.second c.try_write-second.new.disk c.try_write-first.result c.try_write-second.result m.alike c.gone_after-self.ensures
    m.faults c.saturating_add-self-2.result m.calls c.saturating_add-self.result (m.first_mark ∷ m.second_mark ∷ []) r ok (Write c.args.at c.args.bytes.now) c.has_first.result c.has_second.result
    c.try_write-first.ensures.tries c.try_write-second.ensures.tries c.try_write-first.ensures.pends c.try_write-second.ensures.pends

pub returns-clause-out : goal.returns-clause-out
returns-clause-out g c =
    let m = c.args.self.now in
    let state = g.D.Disk.state in
    let ok : is_read_ok c.gone_after-self.result c.try_write-first.result c.try_write-second.result ≡ false = search rules in
    let first_is = stays_first m.gone c.gone_after-self.result c.try_write-first.result c.try_write-second.result c.gone_after-self.ensures in
    let second_is = stays_second m.gone c.gone_after-self.result c.try_write-first.result c.try_write-second.result c.gone_after-self.ensures in
    record {
      first = takes_first state (Write c.args.at c.args.bytes.now) m.gone c.gone_after-self.result m.is_dead true m.first c.try_write-first.new.disk m.second c.try_write-second.new.disk
          c.has_first.result c.has_second.result c.try_write-first.result c.try_write-second.result false c.has_first.ensures c.has_second.ensures c.try_write-first.ensures.tries c.try_write-second.ensures.tries c.gone_after-self.ensures ok (λ e. refl);
      second = takes_second state (Write c.args.at c.args.bytes.now) m.gone c.gone_after-self.result m.is_dead true m.first c.try_write-first.new.disk m.second c.try_write-second.new.disk
          c.has_first.result c.has_second.result c.try_write-first.result c.try_write-second.result false c.has_first.ensures c.has_second.ensures c.try_write-first.ensures.tries c.try_write-second.ensures.tries c.gone_after-self.ensures ok (λ e. refl);
      first_stays = first_stays state (Write c.args.at c.args.bytes.now) m.gone c.gone_after-self.result m.is_dead true m.first c.try_write-first.new.disk m.second c.try_write-second.new.disk
          c.has_first.result c.has_second.result c.try_write-first.result c.try_write-second.result c.has_first.ensures (λ o. c.has_second.ensures ∙ o) c.try_write-first.ensures.tries c.try_write-second.ensures.tries first_is second_is (λ e. refl);
      second_stays = second_stays state (Write c.args.at c.args.bytes.now) m.gone c.gone_after-self.result m.is_dead true m.first c.try_write-first.new.disk m.second c.try_write-second.new.disk
          c.has_first.result c.has_second.result c.try_write-first.result c.try_write-second.result c.has_first.ensures (λ o. c.has_second.ensures ∙ o) c.try_write-first.ensures.tries c.try_write-second.ensures.tries first_is second_is (λ e. refl);
      done = tt;
      ended = living_none c.gone_after-self.result;
      counted = search rules;
    }
