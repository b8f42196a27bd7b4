use Rattle.std.proofs.Common.{ℕ, List, filter, ap, ◌∙◌, rules}
use Rattle.std.proofs.lemmas.Fn.{filter_same}
use Rattle.op_protocol.specs.Heartbeats.{has_replied}
use Rattle.op_instance.proofs.asking.those_heard.Goals as goal

pub returns : goal.returns
returns c =
    filter_same _ (λ (q : ℕ). has_replied c.args.heard.now q) _ (λ x b q r. search rules) _ _ c.retain.ensures.filtered
    ∙ ap (λ (qs : List ℕ). filter (λ q. has_replied c.args.heard.now q) qs) c.in_ok-pids.ensures
