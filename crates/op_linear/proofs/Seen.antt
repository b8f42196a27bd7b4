-- What a client reads of its calls may return to it.
use Rattle.std.proofs.Common.{◌≡◌, ℕ, Bool, true, false, List, ◌++◌, length, refl, sym, ◌∙◌, ap, subst, arith, inl, inr}
use Rattle.std.specs.Prelude.{take}
use Rattle.std.specs.List.{Contains}
use Rattle.std.proofs.lemmas.List.{take_at}
use Rattle.op_types.specs.Ranges.{IsMember}
use Rattle.op_types.specs.declared.answers.Answer.{Answer}
use Rattle.op_types.specs.declared.answers.Reply.{Reply}
use Rattle.op_types.specs.declared.log.Entry.{Entry}
use Rattle.op_runs.specs.Replies.{IsServed}
use Rattle.op_runs.specs.Possible.{server_ids}
use Rattle.op_runs.specs.World.{Happening}
use Rattle.op_command.specs.declared.reply.ClientReply.{ClientReply}
use Rattle.op_command.specs.declared.said.Said.TheVariants as said
use Rattle.op_serving.specs.Handing.{answered}
use Rattle.op_cluster_laws.specs.Causes.{MayAnswer, IsTold}
use Rattle.op_cluster_laws.specs.Orders.{IsAnswer, ReadsTold}
use Rattle.op_cluster_laws.specs.Outputs.{answered_in}
use Rattle.op_cluster_laws.specs.Traces.{Happened, Lived, lived_at}
use Rattle.op_cluster_laws.specs.Worlds.{OfClusters, history_after}
use Rattle.op_cluster_laws.proofs.Reading.{clients_read_replies}
use Rattle.op_cluster_laws.proofs.Reaching.{served_answer}
use Rattle.op_linear.specs.Linear.{IsLinear}
use Rattle.op_cluster_laws.specs.Readings.{WasAsked}
use Rattle.op_linear.specs.Calls.{request_of}
use Rattle.op_linear.specs.Histories.{call_key, is_read_call}
use Rattle.op_linear.specs.Linearizable.{ClientCall, commands, reads, IsResult}
use Rattle.op_linear.specs.Seen.{MayReturn, ClientsSeeResults, StaleIsPast}
use Rattle.op_linear.proofs.Effects.{stale_past}
use Rattle.op_linear.proofs.Linear.{clusters_are_linear}

same_answer : (b a : Answer) → said.Answer b ≡ said.Answer a → b ≡ a
same_answer b a e = cc

module _ (members spares observers : List ℕ) (faulted : ℕ → ℕ) (trace now later : List Happened) (split : trace ≡ now ++ later) (p conn : ℕ) (is : IsMember (server_ids members spares observers) p)
    (r : ClientReply) (a : Answer) (says : r.said ≡ said.Answer a) (result : IsResult a) where
  abbrev l : Lived
  l = lived_at members observers faulted p now

  abbrev Returns : Type 0
  Returns = MayReturn members spares observers faulted trace (length now) l conn r a

  then_now : take (length now) trace ≡ now
  then_now = ap (λ t. take (length now) t) split ∙ take_at now later (length now) refl

  then_given : (read : Bool) (b : Reply) → Contains (answered_in read l.first l.deeds) b
      → Contains (answered_in read (lived_at members observers faulted p (take (length now) trace)).first (lived_at members observers faulted p (take (length now) trace)).deeds) b
  then_given read b k = subst (λ t. Contains (answered_in read (lived_at members observers faulted p t).first (lived_at members observers faulted p t).deeds) b) (sym then_now) k

  returning : (x : ClientCall) (b : Reply) → Contains (answered_in (is_read_call x) l.first l.deeds) b → WasAsked l.deeds conn (request_of x) → call_key x ≡ (b.client, b.seq) → r ≡ answered b → Returns
  returning x b there was key e = record {
    call = x;
    asked = was;
    key = key ∙ sym (ap (λ (z : ClientReply). (z.client, z.seq)) e);
    given = record {
      moment = length now;
      by_then = omega arith;
      pid = p;
      member = is;
      reply = b;
      given = then_given (is_read_call x) b there;
      key = sym key;
      is = same_answer b.answer a (sym (ap (λ (z : ClientReply). z.said) e) ∙ says);
      result = result;
    };
  }

  returns_so : (read : Bool) (b : Reply) → Contains (answered_in read l.first l.deeds) b → MayAnswer read l.deeds conn (b.client, b.seq) → r ≡ answered b → Returns
  returns_so false b there (x, key, was) e = returning (commands x) b there was key e
  returns_so true b there (x, key, was) e = returning (reads x) b there was key e

  told_so : IsTold l.first l.deeds conn r → Returns
  told_so (inl k) = returns_so k.0 k.1 k.2 k.3 k.4
  told_so (inr none) = absurd (none a says)

pub clients_see_results : OfClusters ClientsSeeResults
clients_see_results members spares observers ms ss os faulted trace c now later split p conn is client bytes body first h r a fits says same result =
    let l : Lived = lived_at members observers faulted p now in
    let k : ReadsTold l conn body = clients_read_replies members spares observers ms ss os faulted trace c now later split p conn is client bytes body first h in
    told_so members spares observers faulted trace now later split p conn is r a says result (subst (λ z. IsTold l.first l.deeds conn z) (sym (k.answer r fits (a, says) same)) k.is)

pub stale_is_past : OfClusters StaleIsPast
stale_is_past members spares observers ms ss os faulted trace c k p is r there stale =
    let linear : IsLinear members spares observers faulted trace = clusters_are_linear members spares observers ms ss os faulted trace c in
    let at : ℕ → List Happening = linear.2.0 in
    let cut : List Entry = history_after members spares (at k) in
    let each = linear.2.1 k in
    let served = served_answer cut r (each.moment.replies p is r there) (subst IsAnswer (sym stale) tt) in
    let past = stale_past cut r.client r.seq (subst (λ z. IsServed cut r.client r.seq z) stale served) in
    (past.0, past.2, past.3, each.commands past.0 past.1)
