-- A stored state that holds a server's state stands.
use Rattle.std.proofs.Common.{◌≡◌, ℕ, suc, subst, ◌+◌, ◌-◌, List, ◌++◌, length, take, drop, sym, ap, ◌∙◌, refl, arith, Option, Some, None}
use Rattle.std.proofs.lemmas.List.{take-take, drop-take}
use Rattle.op_types.specs.declared.log.Entry.{Entry}
use Rattle.op_types.specs.declared.durable.Part.{Part as StoredPart}
use Rattle.op_types.specs.declared.durable.Closed.{Closed as StoredClosed}
use Rattle.op_types.specs.declared.durable.Joining.{Joining as StoredJoining}
use Rattle.op_types.specs.Joinings.{Base as StoredBase}
use Rattle.std.specs.Prelude.{slice_get, IfSome}
use Rattle.op_spec.specs.Machine.{members_of}
use Rattle.op_spec.specs.Service.{service_of, base_bytes}
use Rattle.op_spec.specs.Stands as model
use Rattle.op_spec.specs.Stands.{lists_through}
use Rattle.op_configurations.specs.Servers.{Part, Closed, Base, Joining}
use Rattle.op_configurations.specs.Worlds.{run, start, machine_of}
use Rattle.op_configurations.specs.Laws.{PartStands, ClosedStands, BaseStands, JoiningStands}
use Rattle.op_configurations.specs.Stored.{HoldsPart, HoldsClosed, HoldsIfPart, HoldsIfClosed, HoldsIfBase, HoldsJoining, HoldsIfJoining, StoredStands}
use Rattle.op_configurations.proofs.Standing.{stands}

module _ (first : List ℕ) (lists : ℕ → List Entry) where
  part_stands : (d : StoredPart) (pt : Part) → HoldsPart lists d pt → PartStands first lists pt → model.PartStands first lists d
  part_stands d pt h s =
      let nd = pt.node in
      let low : nd.trimmed + (nd.decided - nd.trimmed) ≡ nd.decided = omega (arith, s.trimmed) in
      let front : take nd.trimmed nd.log ≡ take nd.trimmed (lists pt.conf) =
      sym (take-take nd.trimmed nd.decided nd.log s.trimmed) ∙ ap (take nd.trimmed) s.entries ∙ take-take nd.trimmed nd.decided (lists pt.conf) s.trimmed in
      record {
        trimmed = omega (arith, h.trimmed, h.decided, s.trimmed);
        decided = omega (arith, h.decided, s.decided, ap (λ c. length (lists c)) h.conf);
        entries =
            ap (λ n. take (n - d.trimmed) d.tail.items) h.decided ∙ ap (λ n. take (nd.decided - n) d.tail.items) h.trimmed ∙ ap (take (nd.decided - nd.trimmed)) h.tail
            ∙ sym (drop-take nd.trimmed (nd.decided - nd.trimmed) nd.log) ∙ ap (λ n. drop nd.trimmed (take n nd.log)) low ∙ ap (drop nd.trimmed) s.entries
            ∙ ap (λ n. drop n (take nd.decided (lists pt.conf))) (sym h.trimmed) ∙ ap (λ n. drop d.trimmed (take n (lists pt.conf))) (sym h.decided) ∙ ap (λ c. drop d.trimmed (take d.decided (lists c))) (sym h.conf);
        members = h.members ∙ s.members ∙ ap (members_of first lists) (sym h.conf);
        base =
            h.base ∙ ap (λ l. base_bytes (service_of (lists_through lists (pt.conf - 1) ++ l))) front
            ∙ ap (λ c. base_bytes (service_of (lists_through lists (c - 1) ++ take nd.trimmed (lists c)))) (sym h.conf) ∙ ap (λ n. base_bytes (service_of (lists_through lists (d.conf - 1) ++ take n (lists d.conf)))) (sym h.trimmed);
      }

  closed_stands : (d : StoredClosed) (k : Closed) → HoldsClosed lists d k → ClosedStands first lists k → model.ClosedStands first lists d
  closed_stands d k h s =
      let more : suc k.conf ≡ k.conf + 1 = omega arith in
      record {
        trimmed = omega (arith, h.trimmed, s.trimmed, ap (λ (l : List Entry). length l) s.entries, ap (λ c. length (lists c)) h.conf);
        entries = h.tail ∙ ap (drop k.trimmed) s.entries ∙ ap (λ n. drop n (lists k.conf)) (sym h.trimmed) ∙ ap (λ c. drop d.trimmed (lists c)) (sym h.conf);
        olds = h.olds ∙ s.olds ∙ ap (members_of first lists) (sym h.conf);
        next = h.next ∙ s.next ∙ ap (members_of first lists) more ∙ ap (λ c. members_of first lists (c + 1)) (sym h.conf);
        base =
            h.base ∙ ap (λ l. base_bytes (service_of (lists_through lists (k.conf - 1) ++ take k.trimmed l))) s.entries
            ∙ ap (λ c. base_bytes (service_of (lists_through lists (c - 1) ++ take k.trimmed (lists c)))) (sym h.conf) ∙ ap (λ n. base_bytes (service_of (lists_through lists (d.conf - 1) ++ take n (lists d.conf)))) (sym h.trimmed);
      }

  if_part : (d : Option StoredPart) (o : Option Part) → HoldsIfPart lists d o → ((pt : Part) → o ≡ Some pt → PartStands first lists pt) → model.IfPartStands first lists d
  if_part None None h f = tt
  if_part None (Some pt) h f = absurd h
  if_part (Some d) None h f = absurd h
  if_part (Some d) (Some pt) h f = part_stands d pt h (f pt refl)

  if_closed : (d : Option StoredClosed) (o : Option Closed) → HoldsIfClosed lists d o → ((k : Closed) → o ≡ Some k → ClosedStands first lists k) → model.IfClosedStands first lists d
  if_closed None None h f = tt
  if_closed None (Some k) h f = absurd h
  if_closed (Some d) None h f = absurd h
  if_closed (Some d) (Some k) h f = closed_stands d k h (f k refl)

  if_base : (c : ℕ) (d : Option StoredBase) (o : Option Base) → HoldsIfBase lists (suc c) d o → ((b : Base) → o ≡ Some b → BaseStands (lists c) b) → IfSome d (model.BaseStands lists c)
  if_base c None None h f = tt
  if_base c None (Some b) h f = absurd h
  if_base c (Some d) None h f = absurd h
  if_base c (Some d) (Some b) h f =
      let s = f b refl in
      record {
        within = omega (arith, h.0, s.within);
        bytes = h.1 ∙ ap (λ (l : List Entry). base_bytes (service_of (lists_through lists (suc c - 1 - 1) ++ l))) s.front
            ∙ ap (λ (n : ℕ). base_bytes (service_of (lists_through lists (suc c - 1 - 1) ++ take n (lists c)))) (sym h.0)
            ∙ ap (λ (n : ℕ). base_bytes (service_of (lists_through lists (n - 1) ++ take d.0 (lists c)))) (let z : suc c - 1 ≡ c = omega arith in z);
      }

  joining_stands : (d : StoredJoining) (j : Joining) → HoldsJoining lists d j → JoiningStands first lists j → model.JoiningStands first lists d
  joining_stands d j h s =
      let c : ℕ = j.conf - 1 in
      let at : j.conf ≡ suc c = omega (arith, s.above) in
      record {
        members = h.members ∙ s.members ∙ ap (members_of first lists) (sym h.conf);
        olds = h.olds ∙ s.olds ∙ ap (λ (n : ℕ). members_of first lists (n - 1)) (sym h.conf);
        len = h.len ∙ s.len ∙ ap (λ (n : ℕ). length (lists (n - 1))) (sym h.conf);
        base = subst (λ (n : ℕ). IfSome d.base (model.BaseStands lists (n - 1))) (sym h.conf)
            (if_base c d.base j.base (subst (λ (n : ℕ). HoldsIfBase lists n d.base j.base) at h.base) s.base);
        held = λ n e x. s_held s n e (sym (h.held n) ∙ x);
      }
    where
      s_held : JoiningStands first lists j → (n : ℕ) (e : Entry) → j.held n ≡ Some e → slice_get (lists (d.conf - 1)) n ≡ Some e
      s_held s n e x = ap (λ (k : ℕ). slice_get (lists (k - 1)) n) h.conf ∙ s.held n e x

  if_joining : (d : Option StoredJoining) (o : Option Joining) → HoldsIfJoining lists d o → ((j : Joining) → o ≡ Some j → JoiningStands first lists j) → IfSome d (model.JoiningStands first lists)
  if_joining None None h f = tt
  if_joining None (Some j) h f = absurd h
  if_joining (Some d) None h f = absurd h
  if_joining (Some d) (Some j) h f = joining_stands d j h (f j refl)

pub stored_stands : StoredStands
stored_stands first hs p d h =
    let lists = (machine_of first hs).lists in
    let st = ((run hs (start first)).servers p).state in
    let s = stands first hs p in
    record { part = if_part first lists d.part st.part h.part s.part; closed = if_closed first lists d.closed st.closed h.closed s.closed; joining = if_joining first lists d.joining st.joining h.joining s.joining }
