-- Runs of the rules, and what the net tells of them.
use Rattle.std.specs.Prelude.{◌≡◌, ◌++◌, ◌∷◌, [], ℕ, List, Option, Some, None, Result, Ok, Err}
use Rattle.op_outside.specs.Nets.{Call}
use Rattle.op_outside.specs.Seen.{NetSeen, Told}
use Rattle.op_command.specs.Ranges.{ReplyInRange}
use Rattle.op_command.specs.Replies.{reply_form}
use Rattle.op_command.specs.declared.reply.ClientReply.{ClientReply}
use Rattle.op_client.specs.declared.call_fail.CallFail.{CallFail}
use Rattle.op_client.specs.declared.call_fail.CallFail.TheVariants as fail
use Rattle.op_client.specs.Rules.{Client, Moment, close, at, Ending, IsNoReply, Event, net, Step}

-- one step after the other
pub data Run (c : ℕ) : Moment → List Event → Moment → Type 0 where
  none : {a : Moment} → Run c a [] a
  more : {a b d : Moment} {e : Event} {es : List Event} → Step c a e b → Run c b es d → Run c a (e ∷ es) d

-- the net's calls
abbrev pub call_of : Event → List Call
call_of (net call) = call ∷ []
call_of _ = []

abbrev pub calls : List Event → List Call
calls [] = []
calls (e ∷ es) = call_of e ++ calls es

-- ---- what the code does

-- it went from one moment to the other by the rules
abbrev pub Ran : ℕ → Moment → Moment → NetSeen → NetSeen → Type 0
Ran c a b net0 net1 = (es : List Event) × Run c a es b × Told (calls es) net0 net1

-- it came to this ending, before the connection is closed
abbrev pub RanOut : ℕ → Moment → Ending → NetSeen → NetSeen → Type 0
RanOut c a e net0 net1 = (k : ℕ) × (s : Client) × Ran c a (at (close e) k s) net0 net1

-- it came to this moment, or failed so
abbrev pub Goes : ℕ → Moment → Result (Unit {0}) CallFail → Moment → NetSeen → NetSeen → Type 0
Goes c a (Ok x) b net0 net1 = Ran c a b net0 net1
Goes c a (Err e) b net0 net1 = RanOut c a (Err e) net0 net1

-- it came to this moment, with no reply yet, or ended so
abbrev pub Hears : ℕ → Moment → Result (Option ClientReply) CallFail → Moment → NetSeen → NetSeen → Type 0
Hears c a (Ok None) b net0 net1 = Ran c a b net0 net1
Hears c a (Ok (Some r)) b net0 net1 = RanOut c a (Ok r) net0 net1
Hears c a (Err e) b net0 net1 = RanOut c a (Err e) net0 net1

-- a call ends so with the body of the first frame; memory is free
abbrev pub EndsWith : List ℕ → Ending → Type 0
EndsWith body (Ok r) = ReplyInRange r × (body ≡ reply_form.text r)
EndsWith body (Err fail.NoReply) = IsNoReply body
EndsWith body (Err fail.NoMemory) = Unit {0}
EndsWith body (Err _) = ⊥
