use Rattle.std.proofs.Common.{List, ℕ, sym, subst, rules}
use Rattle.std.specs.Prelude.{IfErr}
use Rattle.op_journal.specs.Openings.{IsReadFrom}
use Rattle.op_store.specs.Failing.{IsToldOrNoMemory}
use Rattle.op_store.specs.Stored.{Disks, disks_with}
use Rattle.op_store.specs.Openings.{FindsNone}
use Rattle.op_store.proofs.OpeningOutcomes.{finds_damage, fit_in, if_err_map}
use Rattle.op_store.proofs.area.read_areas.Goals as goal

pub returns-in_err-found-clause-refused : goal.returns-in_err-found-clause-refused
returns-in_err-found-clause-refused g c obey =
    let state = g.D.Disk.state in
    let old : Disks = disks_with state c.args.first.now c.args.second.now in
    let mid : Disks = disks_with state c.read_both.new.first c.read_both.new.second in
    let a = c.deref.result.now in
    let b = c.deref-2.result.now in
    let one = subst (λ (l : List ℕ). IsReadFrom old.first mid.first l) (sym c.deref.ensures.value) c.in_ok-bytes.ensures.first in
    let two = subst (λ (l : List ℕ). IsReadFrom old.second mid.second l) (sym c.deref-2.ensures.value) c.in_ok-bytes.ensures.second in
    let r = c.from_residual-in_err-found.result in
    let said : IfErr r (IsToldOrNoMemory a b) = search rules in
    let reads = c.in_ok-bytes.ensures.calls obey in
    if_err_map r (IsToldOrNoMemory a b) (FindsNone old mid) (λ e h. finds_damage old mid obey a b one two e h reads) said

pub returns-clause-fit : goal.returns-clause-fit
returns-clause-fit g c =
    let state = g.D.Disk.state in
    let a = c.deref.result.now in
    let b = c.deref-2.result.now in
    let one = subst (λ (l : List ℕ). IsReadFrom (state c.args.first.now) (state c.read_both.new.first) l) (sym c.deref.ensures.value) c.in_ok-bytes.ensures.first in
    let two = subst (λ (l : List ℕ). IsReadFrom (state c.args.second.now) (state c.read_both.new.second) l) (sym c.deref-2.ensures.value) c.in_ok-bytes.ensures.second in
    fit_in a b c.in_ok-found.found one.small two.small c.in_ok-found.ensures.found
