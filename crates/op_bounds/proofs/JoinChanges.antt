-- What a node stores while it joins a configuration: each batch applies, is in range, and leaves what is stored in range.
use Rattle.std.proofs.Common.{◌≡◌, ◌≤◌, ◌<◌, ◌+◌, ℕ, true, not, cond, leb, ltb, eqb, ◌&&◌, is_some, List, [], ◌∷◌, length, map, Option, Some, None, refl, sym, ap, arith, All}
use Rattle.std.proofs.lemmas.Bool.{cond_both, leb-true, ltb-true, and_parts, true≢false}
use Rattle.std.proofs.lemmas.List.Elements.{All-nil, All-cons}
use Rattle.op_types.specs.Limits.{most_donors}
use Rattle.op_types.specs.Ranges.{IsMember}
use Rattle.op_types.specs.Changes.{durable_after, Applies}
use Rattle.op_types.specs.Joinings.{donor_at, DonorApplies, first_joining, with_donor, with_base, with_held}
use Rattle.op_types.specs.declared.log.Entry.{Entry}
use Rattle.op_types.specs.declared.changes.Change.{Change}
use Rattle.op_types.specs.declared.changes.Change.TheVariants as change
use Rattle.op_types.specs.declared.durable.Part.{Part}
use Rattle.op_types.specs.declared.durable.Closed.{Closed}
use Rattle.op_types.specs.declared.durable.Joining.{Joining}
use Rattle.op_types.specs.declared.durable.Durable.{Durable}
use Rattle.op_kv.specs.Bases.{IsBase}
use Rattle.op_record.specs.Ranges.{IsJoined, IsClosedLen, JoiningInRange, ChangeInRange}
use Rattle.op_protocol.specs.Parts.{part_after}
use Rattle.op_protocol.specs.Joining.{begins, is_new_donor, joins}
use Rattle.op_protocol.specs.Rows.{based}
use Rattle.op_bounds.specs.Messages.{AreIds, MembersOf, EntryOf, NamesKnown}
use Rattle.op_bounds.specs.States.{JoiningOf, DurableOf, IsNamed}
use Rattle.op_bounds.proofs.Entries.{entries_range}
use Rattle.op_bounds.proofs.Placed.{put_all, put_few, donors_with, more_held}

-- ---- changes of what is held

-- a change of what is held while joining
abbrev pub IsOfJoining : Change → Type 0
IsOfJoining (change.JoinBegin conf members olds len) = Unit {0}
IsOfJoining (change.JoinDonor q trimmed) = Unit {0}
IsOfJoining (change.JoinBase at base) = Unit {0}
IsOfJoining (change.JoinPart at es) = Unit {0}
IsOfJoining _ = ⊥

-- each is
abbrev pub AreOfJoining : List Change → Type 0
AreOfJoining [] = Unit {0}
AreOfJoining (c ∷ batch) = IsOfJoining c × AreOfJoining batch

-- it leaves the part, and needs no base
pub joining_batch : (o p : Part) (batch : List Change) → AreOfJoining batch → (map (based o) batch ≡ batch) × (part_after p batch ≡ p)
joining_batch o p [] k = (refl, refl)
joining_batch o p (change.JoinBegin conf members olds len ∷ batch) k =
    let more = joining_batch o p batch k.1 in (ap (λ (l : List Change). change.JoinBegin conf members olds len ∷ l) more.0, more.1)
joining_batch o p (change.JoinDonor q trimmed ∷ batch) k =
    let more = joining_batch o p batch k.1 in (ap (λ (l : List Change). change.JoinDonor q trimmed ∷ l) more.0, more.1)
joining_batch o p (change.JoinBase at base ∷ batch) k =
    let more = joining_batch o p batch k.1 in (ap (λ (l : List Change). change.JoinBase at base ∷ l) more.0, more.1)
joining_batch o p (change.JoinPart at es ∷ batch) k =
    let more = joining_batch o p batch k.1 in (ap (λ (l : List Change). change.JoinPart at es ∷ l) more.0, more.1)
joining_batch o p (change.Promise n ∷ batch) k = absurd k.0
joining_batch o p (change.Accept n ∷ batch) k = absurd k.0
joining_batch o p (change.CutTo n ∷ batch) k = absurd k.0
joining_batch o p (change.Append es ∷ batch) k = absurd k.0
joining_batch o p (change.Decided x ∷ batch) k = absurd k.0
joining_batch o p (change.Trim x base ∷ batch) k = absurd k.0
joining_batch o p (change.Close named base ∷ batch) k = absurd k.0
joining_batch o p (change.JoinDone base ∷ batch) k = absurd k.0
joining_batch o p (change.Rebase c members at base ∷ batch) k = absurd k.0

-- ---- what they leave

-- a durable state of these
abbrev pub stored : Option Part → Option Closed → Option Joining → Durable
stored o l j = record { part = o; closed = l; joining = j }

-- what is held, in range, which names known ids
pub record JoiningIn (Known : ℕ → Type 0) (j : Joining) : Type 0 where
  pub range : JoiningInRange j
  pub of : JoiningOf Known j

-- a batch of such changes in range
pub record JoinsIn (Known : ℕ → Type 0) (me : ℕ) (d : Durable) (batch : List Change) : Type 0 where
  pub applies : Applies d batch
  pub few : length batch ≤ 2
  pub range : All ChangeInRange batch
  pub after : DurableOf Known (durable_after d batch)
  pub part : (durable_after d batch).part ≡ d.part
  pub closed : (durable_after d batch).closed ≡ d.closed
  pub kinds : AreOfJoining batch
  pub named : IsNamed me d → IsNamed me (durable_after d batch)

module _ (Known : ℕ → Type 0) (ids : AreIds Known) (me : ℕ) (o : Option Part) (l : Option Closed) where
  -- with this in the place of what was held
  pub now_held : (old : Option Joining) (j : Joining) → DurableOf Known (stored o l old) → JoiningIn Known j → DurableOf Known (stored o l (Some j))
  now_held old j d k =
      record { range = record { part = d.range.part; closed = d.range.closed; joining = k.range }; part = d.part; closed = d.closed; joining = k.of }

  pub held_here : (j : Joining) → DurableOf Known (stored o l (Some j)) → JoiningIn Known j
  held_here j d = record { range = d.range.joining; of = d.joining }

  pub nothing_joined : (old : Option Joining) → DurableOf Known (stored o l old) → JoinsIn Known me (stored o l old) []
  nothing_joined old d = record { applies = tt; few = omega arith; range = All-nil ChangeInRange; after = d; part = refl; closed = refl; kinds = tt; named = λ n. n }

  -- nothing is held at first
  first_in : (conf : ℕ) (members olds : List ℕ) (len : ℕ) → IsJoined conf → MembersOf Known members → MembersOf Known olds → IsClosedLen len → JoiningIn Known (first_joining conf members olds len)
  first_in conf members olds len is_conf in_members in_olds in_len =
      record {
        range = record {
          conf = is_conf;
          members = in_members.range;
          olds = in_olds.range;
          len = in_len;
          few = omega arith;
          donors = tt;
          base = tt;
          held = tt;
          room = refl;
        };
        of = record { members = in_members.known; olds = in_olds.known; donors = All-nil (λ d. Known d.0); held = All-nil (λ x. NamesKnown Known x.1) };
      }

  -- a donor more
  donor_more : (j : Joining) (q trimmed : ℕ) → JoiningIn Known j → Known q → trimmed ≤ j.len → length j.donors < most_donors → JoiningIn Known (with_donor j q trimmed)
  donor_more j q trimmed k one within few =
      let r = k.range in
      record {
        range = record {
          conf = r.conf;
          members = r.members;
          olds = r.olds;
          len = r.len;
          few = omega (arith, few, put_few q trimmed j.donors);
          donors = donors_with j.len 0 q trimmed j.donors r.donors (omega (arith, (ids q one).0)) (ids q one).1 within;
          base = r.base;
          held = r.held;
          room = r.room;
        };
        of = record { members = k.of.members; olds = k.of.olds; donors = put_all (λ d. Known d.0) q trimmed j.donors k.of.donors one; held = k.of.held };
      }

  pub begin_in : (old : Option Joining) (q conf : ℕ) (members olds : List ℕ) (len trimmed : ℕ) → DurableOf Known (stored o l old) → IsJoined conf → IsMember members me → MembersOf Known members → MembersOf Known olds → IsClosedLen len
      → Known q → trimmed ≤ len → JoinsIn Known me (stored o l old) (change.JoinBegin conf members olds len ∷ change.JoinDonor q trimmed ∷ [])
  begin_in old q conf members olds len trimmed d is_conf is_named in_members in_olds in_len one within =
      record {
        applies = (tt, (record { within = within; none = refl; few = omega arith }, tt));
        few = omega arith;
        range = All-cons ChangeInRange (change.JoinBegin conf members olds len) (change.JoinDonor q trimmed ∷ []) (is_conf, in_members.range, in_olds.range, in_len)
            (All-cons ChangeInRange (change.JoinDonor q trimmed) [] (ids q one, omega (arith, within, in_len.1)) (All-nil ChangeInRange));
        after = now_held old _ d (donor_more (first_joining conf members olds len) q trimmed (first_in conf members olds len is_conf in_members in_olds in_len) one within (omega arith));
        part = refl;
        closed = refl;
        kinds = (tt, (tt, tt));
        named = λ n. record { part = n.part; joining = is_named };
      }

  pub donor_in : (j : Joining) (q trimmed : ℕ) → DurableOf Known (stored o l (Some j)) → Known q → DonorApplies j q trimmed → JoinsIn Known me (stored o l (Some j)) (change.JoinDonor q trimmed ∷ [])
  donor_in j q trimmed d one fit =
      let k = held_here j d in
      record {
        applies = (fit, tt);
        few = omega arith;
        range = All-cons ChangeInRange (change.JoinDonor q trimmed) [] (ids q one, omega (arith, fit.within, k.range.len.1)) (All-nil ChangeInRange);
        after = now_held (Some j) _ d (donor_more j q trimmed k one fit.within fit.few);
        part = refl;
        closed = refl;
        kinds = (tt, tt);
        named = λ n. record { part = n.part; joining = n.joining };
      }

  pub base_in : (j : Joining) (at : ℕ) (bytes : List ℕ) → DurableOf Known (stored o l (Some j)) → j.base ≡ None → at ≤ j.len → IsBase bytes → JoinsIn Known me (stored o l (Some j)) (change.JoinBase at bytes ∷ [])
  base_in j at bytes d none within base =
      let k = held_here j d in
      let r = k.range in
      record {
        applies = ((none, within), tt);
        few = omega arith;
        range = All-cons ChangeInRange (change.JoinBase at bytes) [] (omega (arith, within, r.len.1), base) (All-nil ChangeInRange);
        after = now_held (Some j) (with_base j (at, bytes)) d
            (record {
              range = record {
                conf = r.conf;
                members = r.members;
                olds = r.olds;
                len = r.len;
                few = r.few;
                donors = r.donors;
                base = (within, base);
                held = r.held;
                room = r.room;
              };
              of = record { members = k.of.members; olds = k.of.olds; donors = k.of.donors; held = k.of.held };
            });
        part = refl;
        closed = refl;
        kinds = (tt, tt);
        named = λ n. record { part = n.part; joining = n.joining };
      }

  pub entries_in : (j : Joining) (at : ℕ) (es : List Entry) → DurableOf Known (stored o l (Some j)) → at + length es ≤ j.len → All (EntryOf Known) es → JoinsIn Known me (stored o l (Some j)) (change.JoinPart at es ∷ [])
  entries_in j at es d within each =
      let k = held_here j d in
      let r = k.range in
      let more = more_held Known j.len es j.held.items at (record { range = r.held; names = k.of.held }) within each in
      record {
        applies = (within, tt);
        few = omega arith;
        range = All-cons ChangeInRange (change.JoinPart at es) [] (omega (arith, within, r.len.1), record { few = omega (arith, within, r.len.1); each = entries_range Known es each }) (All-nil ChangeInRange);
        after = now_held (Some j) (with_held j at es) d
            (record {
              range = record {
                conf = r.conf;
                members = r.members;
                olds = r.olds;
                len = r.len;
                few = r.few;
                donors = r.donors;
                base = r.base;
                held = more.range;
                room = r.room;
              };
              of = record { members = k.of.members; olds = k.of.olds; donors = k.of.donors; held = more.names };
            });
        part = refl;
        closed = refl;
        kinds = (tt, tt);
        named = λ n. record { part = n.part; joining = n.joining };
      }

  -- ---- news

  begins_in : (old : Option Joining) (q conf : ℕ) (members olds : List ℕ) (len trimmed : ℕ) → DurableOf Known (stored o l old) → IsJoined conf → IsMember members me → MembersOf Known members → MembersOf Known olds → IsClosedLen len
      → Known q → JoinsIn Known me (stored o l old) (begins q conf members olds len trimmed)
  begins_in old q conf members olds len trimmed d is_conf is_named in_members in_olds in_len one =
      cond_both (leb trimmed len) (change.JoinBegin conf members olds len ∷ change.JoinDonor q trimmed ∷ []) [] (JoinsIn Known me (stored o l old))
      (λ h. begin_in old q conf members olds len trimmed d is_conf is_named in_members in_olds in_len one (leb-true trimmed len h)) (λ _. nothing_joined old d)

  none_at : (x : Option ℕ) → not (is_some x) ≡ true → x ≡ None
  none_at None h = refl
  none_at (Some n) h = absurd (true≢false (sym h))

  new_donor : (j : Joining) (q trimmed : ℕ) → is_new_donor j q trimmed ≡ true → DonorApplies j q trimmed
  new_donor j q trimmed h =
      let a = and_parts (leb trimmed j.len) (not (is_some (donor_at j.donors q)) && ltb (length j.donors) most_donors) h in
      let b = and_parts (not (is_some (donor_at j.donors q))) (ltb (length j.donors) most_donors) a.1 in
      record { within = leb-true trimmed j.len a.0; none = none_at (donor_at j.donors q) b.0; few = ltb-true (length j.donors) most_donors b.1 }

  pub joins_in : (old : Option Joining) (q conf : ℕ) (members olds : List ℕ) (len trimmed : ℕ) → DurableOf Known (stored o l old) → IsJoined conf → IsMember members me → MembersOf Known members → MembersOf Known olds → IsClosedLen len
      → Known q → JoinsIn Known me (stored o l old) (joins old q conf members olds len trimmed)
  joins_in None q conf members olds len trimmed d is_conf is_named in_members in_olds in_len one = begins_in None q conf members olds len trimmed d is_conf is_named in_members in_olds in_len one
  joins_in (Some j) q conf members olds len trimmed d is_conf is_named in_members in_olds in_len one =
      cond_both (ltb j.conf conf) (begins q conf members olds len trimmed) (cond (eqb j.conf conf && is_new_donor j q trimmed) (change.JoinDonor q trimmed ∷ []) []) (JoinsIn Known me (stored o l (Some j)))
      (λ _. begins_in (Some j) q conf members olds len trimmed d is_conf is_named in_members in_olds in_len one)
      (λ _. cond_both (eqb j.conf conf && is_new_donor j q trimmed) (change.JoinDonor q trimmed ∷ []) [] (JoinsIn Known me (stored o l (Some j)))
      (λ h. donor_in j q trimmed d one (new_donor j q trimmed (and_parts (eqb j.conf conf) (is_new_donor j q trimmed) h).1))
      (λ _. nothing_joined (Some j) d))
