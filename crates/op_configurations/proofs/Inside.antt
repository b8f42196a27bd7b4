-- What letters and steps are inside a configuration.
use Rattle.std.proofs.Common.{◌≡◌, ℕ, zero, suc, List, [], ◌∷◌, ◌++◌, length, Bool, true, false, cond, ◌==◌, take, refl, sym, ap, ◌∙◌, Some}
use Rattle.std.specs.Prelude.{nat_eq, slice_get}
use Rattle.std.specs.Set.{is_member}
use Rattle.std.proofs.lemmas.Bool.{cond_both, eq-eqb, ne_eqb}
use Rattle.op_paxos.specs.Messages.{packet}
use Rattle.op_paxos.specs.Messages.{Msg, Packet}
use Rattle.op_configurations.specs.Servers.{Closed, Letter, Body, Inner, HeartbeatRequest, HeartbeatReply, NextConf, AskBase, BasePart, BasePiece, AskSegment, Segment, Inside, letter, wrap, next_conf, tell, to_all}
use Rattle.op_configurations.specs.Worlds.{inner_with, inner_of, place_in, event_in, events_in}
use Rattle.op_configurations.proofs.Fronts.{none_some, some_same}

with_append : (c f t k : ℕ) (b : Body) (xs ys : List Packet) → inner_with c f t k b xs ++ ys ≡ inner_with c f t k b (xs ++ ys)
with_append c f t k (Inner m) xs ys = cond_both (k == c) (packet f t m ∷ xs) xs (λ l. l ++ ys ≡ cond (k == c) (packet f t m ∷ xs ++ ys) (xs ++ ys))
    (λ e. ap (λ (x : Bool). cond x (packet f t m ∷ xs ++ ys) (xs ++ ys)) (sym e)) (λ e. ap (λ (x : Bool). cond x (packet f t m ∷ xs ++ ys) (xs ++ ys)) (sym e))
with_append c f t k HeartbeatRequest xs ys = refl
with_append c f t k HeartbeatReply xs ys = refl
with_append c f t k (NextConf members olds len trm) xs ys = refl
with_append c f t k AskBase xs ys = refl
with_append c f t k (BasePart at front) xs ys = refl
with_append c f t k (BasePiece at total from_at count front) xs ys = refl
with_append c f t k (AskSegment a b) xs ys = refl
with_append c f t k (Segment a es) xs ys = refl

pub inner_append : (c : ℕ) (xs ys : List Letter) → inner_of c (xs ++ ys) ≡ inner_of c xs ++ inner_of c ys
inner_append c [] ys = refl
inner_append c (x ∷ xs) ys = ap (inner_with c x.from x.to x.conf x.body) (inner_append c xs ys) ∙ sym (with_append c x.from x.to x.conf x.body (inner_of c xs) (inner_of c ys))

pub inner_here : (c k : ℕ) (ms : List Packet) → c ≡ k → inner_of c (wrap k ms) ≡ ms
inner_here c k [] e = refl
inner_here c k (m ∷ ms) e = ap (inner_with c m.from m.to k (Inner m.msg)) (inner_here c k ms e) ∙ ap (λ (x : Bool). cond x (m ∷ ms) ms) (eq-eqb k c (sym e))

pub inner_other : (c k : ℕ) (ms : List Packet) → (c ≡ k → ⊥) → inner_of c (wrap k ms) ≡ []
inner_other c k [] n = refl
inner_other c k (m ∷ ms) n = ap (inner_with c m.from m.to k (Inner m.msg)) (inner_other c k ms n) ∙ ap (λ (x : Bool). cond x (packet m.from m.to m.msg ∷ []) []) (ne_eqb k c (λ e. n (sym e)))

pub inner_tell : (c p : ℕ) (k : Closed) (qs : List ℕ) → inner_of c (tell p k qs) ≡ []
inner_tell c p k [] = refl
inner_tell c p k (q ∷ qs) = cond_both (is_member nat_eq k.olds q) (tell p k qs) (letter p q (suc k.conf) (next_conf k) ∷ tell p k qs) (λ l. inner_of c l ≡ []) (λ e. inner_tell c p k qs) (λ e. inner_tell c p k qs)

pub inner_beats : (c p k : ℕ) (qs : List ℕ) → inner_of c (to_all p k HeartbeatRequest qs) ≡ []
inner_beats c p k [] = refl
inner_beats c p k (q ∷ qs) = cond_both (q == p) (to_all p k HeartbeatRequest qs) (letter p q k HeartbeatRequest ∷ to_all p k HeartbeatRequest qs) (λ l. inner_of c l ≡ []) (λ e. inner_beats c p k qs) (λ e. inner_beats c p k qs)

-- a letter's message is found at its place
pub inner_place : (soup : List Letter) (n : ℕ) (x : Letter) (m : Msg) → slice_get soup n ≡ Some x → x.body ≡ Inner m → slice_get (inner_of x.conf soup) (place_in x.conf n soup) ≡ Some (packet x.from x.to m)
inner_place [] n x m e b = absurd (none_some x e)
inner_place (y ∷ soup) zero x m e b =
    let s : y ≡ x = some_same y x e in
    ap (λ (z : Letter). slice_get (inner_with x.conf z.from z.to z.conf z.body (inner_of x.conf soup)) 0) s
    ∙ ap (λ (z : Body). slice_get (inner_with x.conf x.from x.to x.conf z (inner_of x.conf soup)) 0) b
    ∙ ap (λ (z : Bool). slice_get (cond z (packet x.from x.to m ∷ inner_of x.conf soup) (inner_of x.conf soup)) 0) (eq-eqb x.conf x.conf refl)
inner_place (y ∷ soup) (suc n) x m e b = skip y.body (inner_place soup n x m e b)
  where
    skip : (z : Body) → slice_get (inner_of x.conf soup) (place_in x.conf n soup) ≡ Some (packet x.from x.to m)
        → slice_get (inner_with x.conf y.from y.to y.conf z (inner_of x.conf soup)) (length (inner_with x.conf y.from y.to y.conf z (inner_of x.conf (take n soup)))) ≡ Some (packet x.from x.to m)
    skip (Inner k) h = at (y.conf == x.conf)
      where
        at : (z : Bool) → slice_get (cond z (packet y.from y.to k ∷ inner_of x.conf soup) (inner_of x.conf soup)) (length (cond z (packet y.from y.to k ∷ inner_of x.conf (take n soup)) (inner_of x.conf (take n soup)))) ≡ Some (packet x.from x.to m)
        at true = h
        at false = h
    skip HeartbeatRequest h = h
    skip HeartbeatReply h = h
    skip (NextConf members olds len trm) h = h
    skip AskBase h = h
    skip (BasePart at front) h = h
    skip (BasePiece at total from_at count front) h = h
    skip (AskSegment a c) h = h
    skip (Segment a es) h = h

pub events_append : (soup : List Letter) (p c : ℕ) (xs ys : List Inside) → events_in soup p c (xs ++ ys) ≡ events_in soup p c xs ++ events_in soup p c ys
events_append soup p c [] ys = refl
events_append soup p c (x ∷ xs) ys =
    ap (λ l. cond (c == x.conf) (event_in soup p x ∷ l) l) (events_append soup p c xs ys) ∙ both (c == x.conf)
  where
    both : (b : Bool) → cond b (event_in soup p x ∷ events_in soup p c xs ++ events_in soup p c ys) (events_in soup p c xs ++ events_in soup p c ys) ≡ cond b (event_in soup p x ∷ events_in soup p c xs) (events_in soup p c xs) ++ events_in soup p c ys
    both true = refl
    both false = refl
