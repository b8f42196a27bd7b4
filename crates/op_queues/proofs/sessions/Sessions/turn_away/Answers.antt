use Rattle.op_queues.proofs.Joining.{turned_away}
use Rattle.op_queues.proofs.sessions.Sessions.turn_away.Goals as goal

pub returns : goal.returns
returns c =
    turned_away c.args.conn c.args.kind c.args.self.now c.dial.new.self c.mark.new.self c.close_new.new.self c.requires.new c.requires.kind c.dial.ensures
    c.mark.ensures c.close_new.ensures.few c.close_new.ensures.full
