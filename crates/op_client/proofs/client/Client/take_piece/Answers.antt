use Rattle.std.proofs.Common.{rules, refl, ◌∙◌, ap, subst, ℕ, List, Ok, Err}
use Rattle.op_frame.specs.Framing.{fed}
use Rattle.op_client.specs.Rules.{Client, at, ask}
use Rattle.op_client.specs.Run.{EndsWith}
use Rattle.op_client.proofs.Runs.{hears_fail}
use Rattle.op_client.proofs.Looks.{fed_client, looked_in_want, looked_none, looked_too_long, looked_frame}
use Rattle.op_client.proofs.client.Client.take_piece.Goals as goal

pub returns-in_err-feed : goal.returns-in_err-feed
returns-in_err-feed c d k i n seen = hears_fail (at (ask i n) k _) c.from_residual.result _ seen seen (search rules) (looked_in_want d k i n seen c.args.self.now c.args.piece.now)

pub returns-in-Err-NotYet : goal.returns-in-Err-NotYet
returns-in-Err-NotYet c d k i n seen =
    looked_none d k i n seen c.args.self.now c.args.piece.now c.feed.new.self (c.in_ok-feed.ensures.ok ∙ ap (λ (s : Client). fed s.held c.args.piece.now) c.self.view_is) _ c.in-Err-NotYet.field-0
    (fed_client _ _ c.self.inside.held c.next.new.self c.args.self.now _ c.self.view_is refl (c.in-Err-NotYet.ensures.kept ∙ c.in_ok-feed.ensures.ok)) (search rules) c.in-Err-NotYet.ensures.err

pub returns-in-Err-TooLong : goal.returns-in-Err-TooLong
returns-in-Err-TooLong c d k i n seen =
    looked_too_long d k i n seen c.args.self.now c.args.piece.now c.feed.new.self (c.in_ok-feed.ensures.ok ∙ ap (λ (s : Client). fed s.held c.args.piece.now) c.self.view_is)
    c.in-Err-TooLong.field-0 c.in-Err-TooLong.field-0-0 (search rules) c.in-Err-TooLong.ensures.err

pub returns-in-Err-NoMemory : goal.returns-in-Err-NoMemory
returns-in-Err-NoMemory c d k i n seen = looked_in_want d k i n seen c.args.self.now c.args.piece.now

pub returns-in_err-reply : goal.returns-in_err-reply
returns-in_err-reply c d k i n seen =
    hears_fail (at (ask i n) k _) c.from_residual-in_err-reply.result c.in_err-reply.field-0.0 seen seen (search rules)
    (looked_frame d k i n seen c.args.self.now c.args.piece.now c.feed.new.self (c.in_ok-feed.ensures.ok ∙ ap (λ (s : Client). fed s.held c.args.piece.now) c.self.view_is)
    c.in-Ok.body.items c.next.new.self.held (Err c.in_err-reply.field-0.0) c.in-Ok.ensures.body
    (subst (λ (b : List ℕ). EndsWith b (Err c.in_err-reply.field-0.0)) c.as_slice.ensures.value c.in_err-reply.ensures))

pub returns : goal.returns
returns c d k i n seen =
    looked_frame d k i n seen c.args.self.now c.args.piece.now c.feed.new.self (c.in_ok-feed.ensures.ok ∙ ap (λ (s : Client). fed s.held c.args.piece.now) c.self.view_is)
    c.in-Ok.body.items c.next.new.self.held (Ok c.in_ok-reply.reply) c.in-Ok.ensures.body
    (subst (λ (b : List ℕ). EndsWith b (Ok c.in_ok-reply.reply)) c.as_slice.ensures.value c.in_ok-reply.ensures)
