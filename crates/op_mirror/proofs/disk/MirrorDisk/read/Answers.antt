use Rattle.std.proofs.Common.{◌≡◌, true, false, refl, ◌∙◌, [], ◌∷◌, Result, Ok, Err, rules}
use Rattle.op_outside.specs.Causes.{FailsOnlyOnFault}
use Rattle.op_outside.specs.Disks.Edit.{Nothing}
use Rattle.op_outside.specs.declared.disk.DiskFail.{DiskFail}
use Rattle.op_mirror.specs.Copies.{asks_second, gone_after_read, is_read_ok}
use Rattle.op_mirror.proofs.Calls.{mirror_reads}
use Rattle.op_mirror.proofs.Pending.{mirror_reads_pend, read_ok_or}
use Rattle.op_mirror.proofs.Takings.{reads_first, reads_second, first_stays, second_stays, one_lives, living_none, stays_first_read, stays_second_read, not_asked}
use Rattle.op_mirror.proofs.disk.MirrorDisk.read.Goals as goal

pub returns-then-is_read_ok-clause-does : goal.returns-then-is_read_ok-clause-does
returns-then-is_read_ok-clause-does g c =
    let m = c.args.self.now in
    let eb : c.asks_second.result ≡ asks_second m.gone m.is_dead c.try_read-first.result = search rules in
    let is : c.gone_after_read-self.result ≡ gone_after_read m.gone c.try_read-first.result = search rules in
    let r : Result (Unit {0}) DiskFail = Ok tt in
    let cause : FailsOnlyOnFault m.faults m.faults r = search rules in
    let ok : is_read_ok c.gone_after_read-self.result c.try_read-first.result c.try_read-second.result ≡ true = search rules in
    mirror_reads g.D.Disk.state m.gone m.is_dead m.first c.try_read-first.new.disk m.second c.try_read-second.new.disk
    c.has_first.result c.asks_second.result c.try_read-first.result c.try_read-second.result c.has_first.ensures eb
    c.try_read-first.ensures.tries c.try_read-second.ensures.tries m.alike
    m.faults m.faults m.calls c.saturating_add-self.result (m.first_mark ∷ m.second_mark ∷ []) c.gone_after_read-self.result r is cause ok

pub returns-then-is_read_ok-clause-pends : goal.returns-then-is_read_ok-clause-pends
returns-then-is_read_ok-clause-pends g c =
    let m = c.args.self.now in
    let eb : c.asks_second.result ≡ asks_second m.gone m.is_dead c.try_read-first.result = search rules in
    let is : c.gone_after_read-self.result ≡ gone_after_read m.gone c.try_read-first.result = search rules in
    let ok : is_read_ok c.gone_after_read-self.result c.try_read-first.result c.try_read-second.result ≡ true = search rules in
    let r : Result (Unit {0}) DiskFail = Ok tt in
    mirror_reads_pend g.D.Disk.state m.gone c.gone_after_read-self.result m.is_dead m.first c.try_read-first.new.disk m.second c.try_read-second.new.disk
    c.has_first.result c.asks_second.result c.try_read-first.result c.try_read-second.result m.alike eb is c.try_read-first.ensures.tries c.try_read-second.ensures.tries c.try_read-first.ensures.pends c.try_read-second.ensures.pends
    m.faults m.faults m.calls c.saturating_add-self.result (m.first_mark ∷ m.second_mark ∷ []) r
    (read_ok_or m.gone c.gone_after_read-self.result m.is_dead c.try_read-first.result c.try_read-second.result is (λ o. (c.try_read-first.ensures.tries.out (c.has_first.ensures ∙ o)).1) ∙ ok)

pub returns-then-is_read_ok-clause-out : goal.returns-then-is_read_ok-clause-out
returns-then-is_read_ok-clause-out g c =
    let m = c.args.self.now in
    let eb : c.asks_second.result ≡ asks_second m.gone m.is_dead c.try_read-first.result = search rules in
    let is : c.gone_after_read-self.result ≡ gone_after_read m.gone c.try_read-first.result = search rules in
    let ok : is_read_ok c.gone_after_read-self.result c.try_read-first.result c.try_read-second.result ≡ true = search rules in
    let state = g.D.Disk.state in
    let first_is = stays_first_read m.gone c.gone_after_read-self.result c.try_read-first.result is in
    let second_is = stays_second_read m.gone c.gone_after_read-self.result c.try_read-first.result is in
    let unasked = not_asked m.gone m.is_dead c.try_read-first.result c.asks_second.result eb in
    record {
      first = reads_first state m.gone c.gone_after_read-self.result m.is_dead m.is_dead m.first c.try_read-first.new.disk m.second c.try_read-second.new.disk
          c.has_first.result c.asks_second.result c.try_read-first.result c.try_read-second.result true c.has_first.ensures eb c.try_read-first.ensures.tries c.try_read-second.ensures.tries is ok (λ e. e);
      second = reads_second state m.gone c.gone_after_read-self.result m.is_dead m.is_dead m.first c.try_read-first.new.disk m.second c.try_read-second.new.disk
          c.has_first.result c.asks_second.result c.try_read-first.result c.try_read-second.result true c.has_first.ensures eb c.try_read-first.ensures.tries c.try_read-second.ensures.tries is ok (λ e. e);
      first_stays = first_stays state Nothing m.gone c.gone_after_read-self.result m.is_dead m.is_dead m.first c.try_read-first.new.disk m.second c.try_read-second.new.disk
          c.has_first.result c.asks_second.result c.try_read-first.result c.try_read-second.result c.has_first.ensures unasked c.try_read-first.ensures.tries c.try_read-second.ensures.tries first_is second_is (λ e. e);
      second_stays = second_stays state Nothing m.gone c.gone_after_read-self.result m.is_dead m.is_dead m.first c.try_read-first.new.disk m.second c.try_read-second.new.disk
          c.has_first.result c.asks_second.result c.try_read-first.result c.try_read-second.result c.has_first.ensures unasked c.try_read-first.ensures.tries c.try_read-second.ensures.tries first_is second_is (λ e. e);
      done = one_lives state Nothing m.gone c.gone_after_read-self.result m.is_dead m.is_dead m.first c.try_read-first.new.disk m.second c.try_read-second.new.disk
          c.has_first.result c.asks_second.result c.try_read-first.result c.try_read-second.result c.has_first.ensures unasked c.try_read-first.ensures.tries c.try_read-second.ensures.tries first_is second_is (λ e. e) ok refl;
      ended = tt;
      counted = tt;
    }

pub returns-clause-does : goal.returns-clause-does
returns-clause-does g c =
    let m = c.args.self.now in
    let eb : c.asks_second.result ≡ asks_second m.gone m.is_dead c.try_read-first.result = search rules in
    let is : c.gone_after_read-self.result ≡ gone_after_read m.gone c.try_read-first.result = search rules in
    let r : Result (Unit {0}) DiskFail = Err (record {}) in
    let cause : FailsOnlyOnFault m.faults c.saturating_add-self-2.result r = search rules in
    mirror_reads g.D.Disk.state m.gone m.is_dead m.first c.try_read-first.new.disk m.second c.try_read-second.new.disk
    c.has_first.result c.asks_second.result c.try_read-first.result c.try_read-second.result c.has_first.ensures eb
    c.try_read-first.ensures.tries c.try_read-second.ensures.tries m.alike
    m.faults c.saturating_add-self-2.result m.calls c.saturating_add-self.result (m.first_mark ∷ m.second_mark ∷ []) c.gone_after_read-self.result r is cause tt

pub returns-clause-pends : goal.returns-clause-pends
returns-clause-pends g c =
    let m = c.args.self.now in
    let eb : c.asks_second.result ≡ asks_second m.gone m.is_dead c.try_read-first.result = search rules in
    let is : c.gone_after_read-self.result ≡ gone_after_read m.gone c.try_read-first.result = search rules in
    let ok : is_read_ok c.gone_after_read-self.result c.try_read-first.result c.try_read-second.result ≡ false = search rules in
    let r : Result (Unit {0}) DiskFail = Err (record {}) in
    mirror_reads_pend g.D.Disk.state m.gone c.gone_after_read-self.result m.is_dead m.first c.try_read-first.new.disk m.second c.try_read-second.new.disk
    c.has_first.result c.asks_second.result c.try_read-first.result c.try_read-second.result m.alike eb is c.try_read-first.ensures.tries c.try_read-second.ensures.tries c.try_read-first.ensures.pends c.try_read-second.ensures.pends
    m.faults c.saturating_add-self-2.result m.calls c.saturating_add-self.result (m.first_mark ∷ m.second_mark ∷ []) r
    (read_ok_or m.gone c.gone_after_read-self.result m.is_dead c.try_read-first.result c.try_read-second.result is (λ o. (c.try_read-first.ensures.tries.out (c.has_first.ensures ∙ o)).1) ∙ ok)

pub returns-clause-out : goal.returns-clause-out
returns-clause-out g c =
    let m = c.args.self.now in
    let eb : c.asks_second.result ≡ asks_second m.gone m.is_dead c.try_read-first.result = search rules in
    let is : c.gone_after_read-self.result ≡ gone_after_read m.gone c.try_read-first.result = search rules in
    let ok : is_read_ok c.gone_after_read-self.result c.try_read-first.result c.try_read-second.result ≡ false = search rules in
    let state = g.D.Disk.state in
    let first_is = stays_first_read m.gone c.gone_after_read-self.result c.try_read-first.result is in
    let second_is = stays_second_read m.gone c.gone_after_read-self.result c.try_read-first.result is in
    let unasked = not_asked m.gone m.is_dead c.try_read-first.result c.asks_second.result eb in
    record {
      first = reads_first state m.gone c.gone_after_read-self.result m.is_dead true m.first c.try_read-first.new.disk m.second c.try_read-second.new.disk
          c.has_first.result c.asks_second.result c.try_read-first.result c.try_read-second.result false c.has_first.ensures eb c.try_read-first.ensures.tries c.try_read-second.ensures.tries is ok (λ e. refl);
      second = reads_second state m.gone c.gone_after_read-self.result m.is_dead true m.first c.try_read-first.new.disk m.second c.try_read-second.new.disk
          c.has_first.result c.asks_second.result c.try_read-first.result c.try_read-second.result false c.has_first.ensures eb c.try_read-first.ensures.tries c.try_read-second.ensures.tries is ok (λ e. refl);
      first_stays = first_stays state Nothing m.gone c.gone_after_read-self.result m.is_dead true m.first c.try_read-first.new.disk m.second c.try_read-second.new.disk
          c.has_first.result c.asks_second.result c.try_read-first.result c.try_read-second.result c.has_first.ensures unasked c.try_read-first.ensures.tries c.try_read-second.ensures.tries first_is second_is (λ e. refl);
      second_stays = second_stays state Nothing m.gone c.gone_after_read-self.result m.is_dead true m.first c.try_read-first.new.disk m.second c.try_read-second.new.disk
          c.has_first.result c.asks_second.result c.try_read-first.result c.try_read-second.result c.has_first.ensures unasked c.try_read-first.ensures.tries c.try_read-second.ensures.tries first_is second_is (λ e. refl);
      done = tt;
      ended = living_none c.gone_after_read-self.result;
      counted = search rules;
    }
