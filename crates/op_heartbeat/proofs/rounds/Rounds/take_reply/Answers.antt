use Rattle.std.proofs.Common.{List, [], ◌∷◌, ◌++◌, length, sym, ap, ◌∙◌, subst, arith}
use Rattle.op_types.specs.declared.messages.Heard.{Heard}
use Rattle.op_quorum.specs.Quorums.{AreVoters}
use Rattle.op_heartbeat.specs.HeardReplies.{HeardReplies, senders}
use Rattle.op_heartbeat.proofs.Senders.{IsOther, other_of, AreVoters-taken, room_for_one}
use Rattle.op_heartbeat.proofs.rounds.Rounds.take_reply.Goals as goal

pub push_reserved-requires : goal.push_reserved-requires
push_reserved-requires c =
    let reply : Heard = record { from = c.args.from; ballot = c.args.ballot; flag = c.args.flag } in
    let other = subst (λ (h : HeardReplies). IsOther h.members h.me c.args.from) (sym c.self.view_is) (other_of _ _ _ (sym c.is_other.ensures ∙ c.if-not-is_other.false)) in
    omega (arith, room_for_one _ c.self.inside.me c.self.inside.heard.items reply other c.self.invariant.0, c.self.invariant.1, ap length c.remove_reply.ensures.items, c.remove_reply.ensures.capacity, c.remove_reply.new.heard.ok)

pub invariant_of-self : goal.invariant_of-self
invariant_of-self c =
    let reply : Heard = record { from = c.args.from; ballot = c.args.ballot; flag = c.args.flag } in
    let other = subst (λ (h : HeardReplies). IsOther h.members h.me c.args.from) (sym c.self.view_is) (other_of _ _ _ (sym c.is_other.ensures ∙ c.if-not-is_other.false)) in
    let heard = sym (c.push_reserved.ensures.items ∙ ap (λ (h : List Heard). h ++ reply ∷ []) c.remove_reply.ensures.items) in (
      subst (λ (h : List Heard). AreVoters c.self.inside.members.items (c.self.inside.me ∷ senders h)) heard (AreVoters-taken _ c.self.inside.me c.self.inside.heard.items reply other c.self.invariant.0),
      rw (c.push_reserved.ensures.capacity, c.remove_reply.ensures.capacity) c.self.invariant.1,
    )
