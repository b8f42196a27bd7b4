use Rattle.std.proofs.Common.{sym, ◌∙◌, subst, decimal}
use Rattle.std.proofs.lemmas.Bool.{false≢true}
use Rattle.op_setup.specs.Identities.{IsClusterName}
use Rattle.op_setup.proofs.Identities.{line_of, line_split, same_line, same_parts}
use Rattle.op_setup.proofs.identity.identity_of.Goals as goal

pub returns-in_default-clause-none : goal.returns-in_default-clause-none
returns-in_default-clause-none c = λ id name after h. rw c.in_default.is at c.split.ensures.none (line_of id name) after (line_split c.args.text.now id name after h)

pub returns-in_default-split-clause-none : goal.returns-in_default-split-clause-none
returns-in_default-split-clause-none c = λ id name after h.
    let outer = rw c.in-Some.is at c.split.ensures.found in
    let none = rw c.in_default-split.is at c.split-2.ensures.none in
    none (decimal id) name (same_line c.args.text.now _ _ name after id outer h)

pub returns-in_default-pid-clause-none : goal.returns-in_default-pid-clause-none
returns-in_default-pid-clause-none c = λ id name after h.
    let outer = rw c.in-Some.is at c.split.ensures.found in
    let inner = rw c.in-Some-split.is at c.split-2.ensures.found in
    let none = rw c.in_default-pid.is at c.pid.ensures in
    none id (h.id_in_range, (same_parts c.args.text.now _ _ _ _ name after id outer inner h).0)

pub returns-then-not-is_cluster_name-clause-none : goal.returns-then-not-is_cluster_name-clause-none
returns-then-not-is_cluster_name-clause-none c = λ id name after h.
    let outer = rw c.in-Some.is at c.split.ensures.found in
    let inner = rw c.in-Some-split.is at c.split-2.ensures.found in
    let same = (same_parts c.args.text.now _ _ _ _ name after id outer inner h).1 in
    let is = c.is_cluster_name.ensures.1 (subst IsClusterName (sym same) h.name_in_range) in
    false≢true (sym c.if-not-is_cluster_name.true ∙ is)
