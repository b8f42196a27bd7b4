-- What a leader sends to a follower from its AcceptSync on: all that its log then gets, in the order in which it gets it.
use Rattle.std.proofs.Common.{◌≡◌, ℕ, suc, ◌+◌, ◌-◌, ◌<◌, ◌≤◌, ◌⊎◌, inl, inr, ⊎_elim, List, ◌++◌, length, true, sym, ap, ◌∙◌, subst, arith, Some, length-append}
use Rattle.std.specs.Prelude.{slice_get}
use Rattle.std.proofs.lemmas.Bool.{cases_lt}
use Rattle.std.proofs.lemmas.Option.{slice_get_within}
use Rattle.op_types.specs.declared.log.Entry.{Entry}
use Rattle.op_spec.specs.Machine.{IsAmong}
use Rattle.op_paxos.specs.Nodes.{LeadingState, Leading, Node}
use Rattle.op_paxos.specs.Messages.{Msg, Accept, Packet, packet}
use Rattle.op_paxos.specs.Parts.{sync_messages}
use Rattle.op_paxos.specs.Worlds.{step, World, Event}
use Rattle.op_paxos.specs.Exchange.{Sending, IsCalm}
use Rattle.op_paxos.proofs.History.{History}
use Rattle.op_paxos.proofs.Moves.{Extends}
use Rattle.op_paxos.proofs.StepMoves.{step_moves}
use Rattle.op_paxos.proofs.PromisesStand.{Good}
use Rattle.op_types.proofs.Elements.{get_right}
use Rattle.op_paxos.proofs.Elements.{in_get}
use Rattle.op_paxos.proofs.NumberedWorlds.{stable, W, Moves, at_node, sender, G, good_at}
use Rattle.op_paxos.proofs.Senders.{they_bring, sync_by, accept_by}
use Rattle.op_paxos.proofs.Undisturbed.{LeadsOn, leads_on}

module _ (ms : List ℕ) (w : World) (g : History) (good : Good ms w g) (es : List Event) (p b : ℕ) (others : List ℕ) (members : (q : ℕ) → IsAmong others q → IsAmong ms q × (q ≡ p → ⊥)) (calm : IsCalm ms w es b others p 0 (length es)) where
  abbrev at : ℕ → World
  at i = W ms w es i

  abbrev log_at : ℕ → List Entry
  log_at i = ((at i).nodes p).log

  -- p leads b
  pub record Leads (i : ℕ) : Type 0 where
    pub lead : LeadingState
    pub role : ((at i).nodes p).role ≡ Leading lead
    pub ballot : lead.ballot ≡ b

  -- and goes on
  pub record LeadNext (i : ℕ) (l : LeadingState) : Type 0 where
    pub next : Leads (suc i)
    pub acked : (q : ℕ) → l.acked q ≤ (next.lead).acked q
    pub synced : (q : ℕ) → IsAmong others q → l.synced q ≡ true → (next.lead).synced q ≡ true
    pub log : (log_at (suc i) ≡ log_at i) ⊎ ((fs : List Entry) × (log_at (suc i) ≡ log_at i ++ fs)
        × ((q : ℕ) → IsAmong others q → l.synced q ≡ true → Sending ms w es i p q (Accept b (length (log_at i)) fs)))

  -- an undisturbed leader leads on after each event
  pub lead_next : (i : ℕ) (l : LeadingState) → ((at i).nodes p).role ≡ Leading l → l.ballot ≡ b → LeadNext i l
  lead_next i l was is = ⊎_elim silent moved (at_node ms w es b others p 0 calm i (omega arith))
    where
      silent : ((at (suc i)).nodes p ≡ (at i).nodes p) → LeadNext i l
      silent e = record { next = record { lead = l; role = ap (λ (n : Node). n.role) e ∙ was; ballot = is }; acked = λ q. omega arith; synced = λ q j h. h; log = inl (ap (λ (n : Node). n.log) e) }

      told : (m : Moves ms w es others p i) (x : Extends ms p ((at i).nodes p) m.input (step ms p ((at i).nodes p) m.input)) → x.lead ≡ l → (q : ℕ) → IsAmong others q → l.synced q ≡ true → Sending ms w es i p q (Accept b (length (log_at i)) x.entries)
      told m x e q j h =
          let t = x.told q (members q j).0 (members q j).1 (ap (λ (y : LeadingState). y.synced q) e ∙ h) in
          let t' = subst (λ c. IsAmong (step ms p ((at i).nodes p) m.input).sends (packet p q (Accept c (length (log_at i)) x.entries))) (ap (λ (y : LeadingState). y.ballot) e ∙ is) t in
          let k = in_get (packet p q (Accept b (length (log_at i)) x.entries)) (step ms p ((at i).nodes p) m.input).sends t' in
          record { number = length (at i).packets + k.0; new = omega arith; is = subst (λ (ps : List Packet). slice_get ps (length (at i).packets + k.0) ≡ Some (packet p q (Accept b (length (log_at i)) x.entries))) (sym m.packets) (get_right (at i).packets _ k.0 _ k.2) }

      by : (m : Moves ms w es others p i) → LeadsOn ms p others ((at i).nodes p) m.input l (step ms p ((at i).nodes p) m.input) → LeadNext i l
      by m r = record {
        next = record { lead = r.next; role = ap (λ (n : Node). n.role) m.here ∙ r.role; ballot = r.ballot ∙ is };
        acked = r.acked;
        synced = r.synced;
        log = ⊎_elim (λ (x : ((step ms p ((at i).nodes p) m.input).node).log ≡ ((at i).nodes p).log). inl (ap (λ (n : Node). n.log) m.here ∙ x))
            (λ (x : (y : Extends ms p ((at i).nodes p) m.input (step ms p ((at i).nodes p) m.input)) × (y.lead ≡ l)). inr ((x.0).entries, ap (λ (n : Node). n.log) m.here ∙ (x.0).log, told m x.0 x.1)) r.log;
      }

      moved : Moves ms w es others p i → LeadNext i l
      moved m = by m (leads_on ms (at i) (G ms w es g good i) (good_at ms w es g good i).inv p m.input m.known (step ms p ((at i).nodes p) m.input) others m.alone l was (omega (arith, is, calm.promised (suc i) (omega arith) (slice_get_within es i m.event m.is), ap (λ (n : Node). n.promised) m.here)) (step_moves ms p ((at i).nodes p) m.input))

  -- between these events an Accept was sent to q that reaches over this place
  pub record Reaching (q i0 i y : ℕ) : Type 0 where
    pub number : ℕ
    pub start : ℕ
    pub entries : List Entry
    pub first : i0 ≤ number
    pub early : number < i
    pub sent : Sending ms w es number p q (Accept b start entries)
    pub low : start ≤ y
    pub high : y < start + length entries

  -- ---- the stream to q, from event number i0 on, where its log is L long
  pub record Stream (q i0 L : ℕ) (i : ℕ) : Type 0 where
    pub leads : Leads i
    pub synced : (leads.lead).synced q ≡ true
    pub long : L ≤ length (log_at i)
    -- each entry that came after that was told
    pub all : (y : ℕ) → L ≤ y → y < length (log_at i) → Reaching q i0 i y

  module _ (q i0 L : ℕ) (mine : IsAmong others q) where
    -- each entry is told
    later : (i y : ℕ) → Reaching q i0 i y → Reaching q i0 (suc i) y
    later i y z = record { number = z.number; start = z.start; entries = z.entries; first = z.first; early = omega (arith, z.early); sent = z.sent; low = z.low; high = z.high }

    all_on : (i : ℕ) (s : Stream q i0 L i) → i0 ≤ i → (n : LeadNext i (s.leads).lead) → (y : ℕ) → L ≤ y → y < length (log_at (suc i)) → Reaching q i0 (suc i) y
    all_on i s first n y le lt = ⊎_elim same more n.log
      where
        same : log_at (suc i) ≡ log_at i → Reaching q i0 (suc i) y
        same e = later i y (s.all y le (omega (arith, lt, ap (λ (l : List Entry). length l) e)))

        more : (fs : List Entry) × (log_at (suc i) ≡ log_at i ++ fs) × ((q : ℕ) → IsAmong others q → ((s.leads).lead).synced q ≡ true → Sending ms w es i p q (Accept b (length (log_at i)) fs)) → Reaching q i0 (suc i) y
        more m = ⊎_elim
            (λ (old : y < length (log_at i)). later i y (s.all y le old))
            (λ (new : length (log_at i) ≤ y). record {
              number = i;
              start = length (log_at i);
              entries = m.0;
              first = first;
              early = omega arith;
              sent = m.2 q mine s.synced;
              low = new;
              high = omega (arith, lt, ap (λ (l : List Entry). length l) m.1, length-append (log_at i) m.0);
            })
            (cases_lt y (length (log_at i)))

    -- the stream goes on
    pub stream_next : (i : ℕ) → i0 ≤ i → Stream q i0 L i → Stream q i0 L (suc i)
    stream_next i first s =
        let n = lead_next i (s.leads).lead (s.leads).role (s.leads).ballot in
        record {
          leads = n.next;
          synced = n.synced q mine s.synced;
          long = ⊎_elim (λ (x : log_at (suc i) ≡ log_at i). omega (arith, s.long, ap (λ (l : List Entry). length l) x)) (λ (x : (fs : List Entry) × (log_at (suc i) ≡ log_at i ++ fs) × ((q : ℕ) → IsAmong others q → ((s.leads).lead).synced q ≡ true → Sending ms w es i p q (Accept b (length (log_at i)) fs))). omega (arith, s.long, ap (λ (l : List Entry). length l) x.1, length-append (log_at i) x.0)) n.log;
          all = all_on i s first n;
        }

    -- what an Accept carries stands where the log was at its end, so one that reaches up to it was sent sooner
    pub sent_before : (j a : ℕ) (es' : List Entry) → Stream q i0 L j → Sending ms w es j p q (Accept b a es') → (a ≤ L) ⊎ ((0 < a) × Reaching q i0 j (a - 1))
    sent_before j a es' s h = ⊎_elim (λ (x : L < a). inr (omega (arith, x), sooner x)) (λ (x : a ≤ L). inl x) (cases_lt L a)
      where
        log_of : ℕ → List Entry
        log_of y = ((at j).nodes y).log

        place : a ≡ length (log_at j)
        place =
            let z = sender ms w es j h.number p q (Accept b a es') h.new h.is in
            let r = accept_by ms z.node ((at j).nodes z.node) z.input (step ms z.node ((at j).nodes z.node) z.input) (step_moves ms z.node ((at j).nodes z.node) z.input) p q b a es' z.sent in
            r.at ∙ ap (λ y. length (log_of y)) r.from

        sooner : L < a → Reaching q i0 j (a - 1)
        sooner x = s.all (a - 1) (omega (arith, x)) (omega (arith, x, place))

    -- it begins where p sends the AcceptSync
    pub record Starts (i x : ℕ) (rest : List Entry) : Type 0 where
      pub stream : Stream q i0 L i
      pub covers : x + length rest ≡ L

  -- it begins with an AcceptSync, or with a part of one
  pub stream_begins : (q i x : ℕ) (rest : List Entry) (mine : IsAmong others q) (m : Msg) → IsAmong (sync_messages b x rest) m → Sending ms w es i p q m → Starts q (suc i) (length (log_at (suc i))) mine (suc i) x rest
  stream_begins q i x rest mine m c h =
      let s = sender ms w es i h.number p q m h.new h.is in
      let r = sync_by ms s.node ((at i).nodes s.node) s.input (step ms s.node ((at i).nodes s.node) s.input) (step_moves ms s.node ((at i).nodes s.node) s.input) p q b x (x + length rest) m (they_bring b x rest m c) s.sent in
      let here : (at (suc i)).nodes p ≡ (step ms s.node ((at i).nodes s.node) s.input).node = ap (λ y. (at (suc i)).nodes y) (sym r.from) ∙ s.here in
      record {
        stream = record {
          leads = record { lead = r.lead; role = ap (λ (n : Node). n.role) here ∙ r.role; ballot = r.ballot };
          synced = r.synced;
          long = omega arith;
          all = λ y a c. absurd (omega (arith, a, c));
        };
        covers = omega (arith, r.covers, ap (λ (n : Node). length n.log) here);
      }

  -- it lasts as long as nothing disturbs
  pub stream_at : (q i L : ℕ) (mine : IsAmong others q) → Stream q i L i → (j : ℕ) → i ≤ j → Stream q i L j
  stream_at q i L mine s j le = stable (λ j. Stream q i L j) i s (λ j l x. stream_next q i L mine j l x) j le
