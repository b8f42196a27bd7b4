use Rattle.std.proofs.Common.{rules, ap, ap₂, ◌≡◌, ◌∙◌}
use Rattle.std.proofs.lemmas.Result.{IfOk-weaker}
use Rattle.clap.specs.Words.{App, app_of, with_subcommand}
use Rattle.op_setup.specs.Commands.{call_app, cluster_app, node_app, program_app, replay_app}
use Rattle.op_setup.proofs.commands.omni.Goals as goal

pub returns : goal.returns
returns c =
    let top : (a b : App) → a ≡ b → a.top ≡ b.top = λ a b e. ap (λ (x : App). x.top) e in
    let first : app_of c.in_ok-subcommand.field-0 ≡ with_subcommand program_app node_app.top =
    c.in_ok-subcommand.ensures.shape (search rules) ∙ ap₂ with_subcommand c.program.ensures (top _ _ c.in_ok-node.ensures.app) in
    let second : app_of c.in_ok-subcommand-2.field-0 ≡ with_subcommand (with_subcommand program_app node_app.top) replay_app.top =
    c.in_ok-subcommand-2.ensures.shape (search rules) ∙ ap₂ with_subcommand first (top _ _ c.replay.ensures.app) in
    let third : app_of c.in_ok-subcommand-3.field-0 ≡ with_subcommand (with_subcommand (with_subcommand program_app node_app.top) replay_app.top) call_app.top =
    c.in_ok-subcommand-3.ensures.shape (search rules) ∙ ap₂ with_subcommand second (top _ _ c.in_ok-call.ensures.app) in
    let fourth : app_of c.in_ok-subcommand-4.field-0 ≡ with_subcommand (with_subcommand (with_subcommand (with_subcommand program_app node_app.top) replay_app.top) call_app.top) cluster_app.top =
    c.in_ok-subcommand-4.ensures.shape (search rules) ∙ ap₂ with_subcommand third (top _ _ c.cluster.ensures.app) in
    IfOk-weaker c.subcommand-5.result _ _ (λ r h. h.shape (search rules) ∙ ap₂ with_subcommand fourth (top _ _ c.in_ok-drill.ensures.app)) c.subcommand-5.ensures
