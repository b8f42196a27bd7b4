use Rattle.op_instance.proofs.Lifts.{piece_room_ok, plain_room_ok}
use Rattle.op_instance.proofs.delivering.deliver_latest.Goals as goal

pub returns-in-BasePiece-clause-room : goal.returns-in-BasePiece-clause-room
returns-in-BasePiece-clause-room c = piece_room_ok c.stage_piece.result c.args.volatile.now c.stage_piece.ensures.room

pub returns-in-NextConf-clause-room : goal.returns-in-NextConf-clause-room
returns-in-NextConf-clause-room c = plain_room_ok c.hear_news.result c.args.volatile.now c.hear_news.ensures.turn
