use Rattle.std.proofs.Common.{◌≡◌, List, [], ◌∷◌, ◌++◌, ap, ◌∙◌}
use Rattle.op_types.specs.declared.log.Command.{Command}
use Rattle.op_runs.specs.declared.events.What.TheVariants as what
use Rattle.op_sched.proofs.EventWords.{no_command, no_server, no_client, no_number, no_operation, says_command}
use Rattle.op_sched.proofs.reading.forms.command.Goals as goal

pub returns-in_default : goal.returns-in_default
returns-in_default c = λ x. no_command (λ w. w.now) c.args.words.now c.args.form c.in_default.len_below (what.Commands x.0 x.1)

pub returns-in_default-pid : goal.returns-in_default-pid
returns-in_default-pid c = λ x. no_server (λ w. w.now) c.args.words.now c.args.form _ c.in_default-pid.ensures (what.Commands x.0 x.1)

pub returns-in_default-client_number : goal.returns-in_default-client_number
returns-in_default-client_number c = λ x. no_client (λ w. w.now) c.args.words.now c.args.form _ c.in_default-client_number.ensures (what.Commands x.0 x.1)

pub returns-in_default-client_number-2 : goal.returns-in_default-client_number-2
returns-in_default-client_number-2 c = λ x. no_number (λ w. w.now) c.args.words.now c.args.form _ c.in_default-client_number-2.ensures (what.Commands x.0 x.1)

pub returns-in_default-2 : goal.returns-in_default-2
returns-in_default-2 c = λ x. no_operation (λ w. w.now) c.args.words.now c.args.form (rw c.in_default-2.is at c.in_ok-op.ensures) (what.Commands x.0 x.1)

pub returns : goal.returns
returns c =
    let command : Command = record { client = c.in-Some-client_number.client; seq = c.in-Some-client_number-2.seq; op = c.in-Some-2.op } in
    let alone : c.from_vec.result ≡ command ∷ [] = c.from_vec.ensures ∙ c.push_reserved.ensures.items ∙ ap (λ (cs : List Command). cs ++ command ∷ []) c.in_ok-commands.ensures.items in
    let client = c.in-Some-client_number.ensures in
    let seq = c.in-Some-client_number-2.ensures in
    says_command (λ w. w.now) c.args.words.now c.args.form _ _ _ c.in-Some.id command c.from_vec.result alone c.in-len3-up.len_at_least c.in-Some.ensures.0 client.0 seq.0 c.in-Some.ensures.1 client.1 seq.1
    (rw c.in-Some-2.is at c.in_ok-op.ensures)
