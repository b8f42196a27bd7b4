-- What was read is looked at.
use Rattle.std.proofs.Common.{◌≡◌, ℕ, List, Ok, Err, sym, ◌∙◌, ap, subst}
use Rattle.op_outside.specs.Seen.{NetSeen}
use Rattle.op_frame.specs.Framing.{Stream, fed, BeginsWith, IsPartial, TellsTooLong, Stops}
use Rattle.op_frame.specs.declared.frames.NextFail.{NextFail}
use Rattle.op_frame.specs.declared.frames.NextFail.TheVariants.{NotYet, TooLong}
use Rattle.op_client.specs.declared.call_fail.CallFail.TheVariants as fail
use Rattle.op_client.specs.Rules.{Client, Ending, has_read, at, ask, look, has_none, is_too_long, is_reply, is_no_reply, has_no_memory}
use Rattle.op_client.specs.Run.{Ran, RanOut, EndsWith}
use Rattle.op_client.proofs.Runs.{quietly, in_want}

-- a client with these bytes read too
pub fed_client : (l piece : List ℕ) (h g : Stream) (s t : Client) → record { left = l; held = h } ≡ s → record { left = l; held = g } ≡ t → g ≡ fed h piece → t ≡ has_read piece s
fed_client l piece h g s t e u f =
    let one : t ≡ record { left = l; held = fed h piece } = sym u ∙ ap (λ (x : Stream). let y : Client = record { left = l; held = x } in y) f in
    one ∙ ap (has_read piece) e

module _ (c k i n : ℕ) (seen : NetSeen) (s : Client) (piece : List ℕ) where
  pub looked_in_want : RanOut c (at (look i n) k (has_read piece s)) (Err fail.NoMemory) seen seen
  looked_in_want = (k, has_read piece s, in_want seen has_no_memory)

  module _ (x : Stream) (is : x ≡ fed s.held piece) where
    pub looked_none : (t : Client) (e : NextFail) → t ≡ has_read piece s → e ≡ NotYet → Stops x e → Ran c (at (look i n) k (has_read piece s)) (at (ask i n) k t) seen seen
    looked_none t e same none h =
        let partial : IsPartial x = subst (Stops x) none h in
        let there : IsPartial (fed s.held piece) = subst IsPartial is partial in
        subst (λ (u : Client). Ran c (at (look i n) k (has_read piece s)) (at (ask i n) k u) seen seen) (sym same) (quietly seen (has_none there))

    pub looked_too_long : (e : NextFail) (len : ℕ) → e ≡ TooLong len → Stops x e → RanOut c (at (look i n) k (has_read piece s)) (Err fail.NoReply) seen seen
    looked_too_long e len long h =
        let told : TellsTooLong x len = subst (Stops x) long h in
        (k, has_read piece s, quietly seen (is_too_long len (subst (λ (y : Stream). TellsTooLong y len) is told)))

    pub looked_frame : (body rest : List ℕ) (e : Ending) → BeginsWith x body rest → EndsWith body e → RanOut c (at (look i n) k (has_read piece s)) e seen seen
    looked_frame body rest (Ok r) b h =
        let there : BeginsWith (fed s.held piece) body rest = subst (λ (y : Stream). BeginsWith y body rest) is b in
        (k, has_read piece s, quietly seen (is_reply rest h.0 (subst (λ (t : List ℕ). BeginsWith (fed s.held piece) t rest) h.1 there)))
    looked_frame body rest (Err fail.NoReply) b h =
        let there : BeginsWith (fed s.held piece) body rest = subst (λ (y : Stream). BeginsWith y body rest) is b in
        (k, has_read piece s, quietly seen (is_no_reply body rest h there))
    looked_frame body rest (Err fail.NoMemory) b h = looked_in_want
    looked_frame body rest (Err fail.TurnsOver) b h = absurd h
    looked_frame body rest (Err fail.NetFault) b h = absurd h
