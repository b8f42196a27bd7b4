-- How a node over mirrors ends, from what its openings and its serving tell.
use Rattle.std.proofs.Common.{◌≡◌, ◌⊎◌, ◌<◌, ◌+◌, [], ℕ, zero, suc, List, Option, Some, Err, refl, ◌∙◌, subst, inl, inr, ⊎_elim, arith}
use Rattle.std.specs.Prelude.{◌↔◌}
use Rattle.op_outside.specs.Causes.{FaultsRose, RisesWith}
use Rattle.op_outside.specs.Disks.{DiskState}
use Rattle.op_outside.specs.declared.disk.Disk.{Ghosts}
use Rattle.op_outside.specs.Seen.{NetSeen, StreamSeen}
use Rattle.op_outside.specs.Streams.{TakesAtMost}
use Rattle.op_store.specs.Failing.{total}
use Rattle.op_store.specs.Stored.{Disks, KeepBoth}
use Rattle.op_store.proofs.KeptDisks.{keep_same, keep_both}
use Rattle.op_mirror.specs.Crashes.{LeavesAllMixes}
use Rattle.op_mirror.specs.Mirrors.{known_mirror}
use Rattle.op_mirror.specs.Opens.{Opens, RefusedFor}
use Rattle.op_mirror.specs.declared.mirror.Mirror.{Mirror}
use Rattle.op_mirror.proofs.Telling.{AreTold, marks_tell}
use Rattle.op_mirror.specs.declared.opening.OpenCause.{OpenCause}
use Rattle.op_mirror.specs.declared.opening.OpenCause.TheVariants as cause
use Rattle.op_setup.specs.declared.config.Settings.{Settings}
use Rattle.op_node.specs.Nodes.{NodeState}
use Rattle.op_node.specs.Openings.{disks_with}
use Rattle.op_serving.specs.declared.mark.Mark.{Mark}
use Rattle.op_serving.specs.declared.serve_end.ServeEnd.{ServeEnd}
use Rattle.op_serving.specs.declared.serve_end.ServeEnd.TheVariants as ends
use Rattle.op_input.specs.Inputs.{IsConfigured, IsMisconfigured, input_limit}
use Rattle.op_status.specs.declared.status.Status.{Status}
use Rattle.op_status.specs.declared.status.Status.TheVariants as status
use Rattle.op_runs.specs.Possible.{kind_in}
use Rattle.op_serve.specs.Folders.{IsMarking, MayBegin, is_unmarked}
use Rattle.op_serve.specs.Nodes.{Around, around, Ends, EndsMarked, cannot_open, is_damaged, is_newer, has_no_memory, is_opened, is_not_marked, marking_in, Goes, is_unheard, cannot_begin, has_served, IsHeard, IsOwn, disks_in, faults_of, status_of}
use Rattle.op_serve.specs.Mirrored.{AreaFailed, EndsMirrored, Failed, HaveFailed, KeepCopies, Serves, environment, is_misconfigured, is_not_admitted, first_refused, second_refused, are_open, status_of_cause}
use Rattle.op_serve.specs.declared.node_disks.NodeDisks.{NodeDisks}

-- ---- an end over two disks of any kind

heard_no_fault : (id : ℕ) (o : Settings) (s : Status) (net0 net1 : NetSeen) (out0 out1 : StreamSeen) → IsHeard {T = Unit {0}} id o (Err s) net0 net1 out0 out1 → s ≡ status.DiskFault → ⊥
heard_no_fault id o s net0 net1 out0 out1 h is = subst (λ (x : Status). IsHeard {T = Unit {0}} id o (Err x) net0 net1 out0 out1) is h

served_no_fault : (end : ServeEnd) → status_of end ≡ status.DiskFault → ⊥
served_no_fault ends.Ended is = absurd cc
served_no_fault ends.TurnsOver is = absurd cc
served_no_fault ends.NetFault is = absurd cc
served_no_fault ends.Starved is = absurd cc

module _ {T : Type 0} (known : T → DiskState) (id : ℕ) (o : Settings) where
  goes_keep : (n : NodeState) (stood : Type 0) (old new : Around T) (s : Status) (lost : List Mark) → Goes known id o n stood old new s lost
      → KeepBoth (disks_in known old) (disks_in known new)
  goes_keep n stood old new s lost (is_unheard h same lives) = rw same (keep_same (disks_in known old))
  goes_keep n stood old new s lost (cannot_begin t r c same lives) = rw same (keep_same (disks_in known old))
  goes_keep n stood old new s lost (has_served net r count run kept stored lives) = kept

  goes_no_fault : (n : NodeState) (stood : Type 0) (old new : Around T) (s : Status) (lost : List Mark) → Goes known id o n stood old new s lost → s ≡ status.DiskFault → ⊥
  goes_no_fault n stood old new s lost (is_unheard h same lives) is = heard_no_fault id o s old.net new.net old.output new.output h is
  goes_no_fault n stood old new s lost (cannot_begin t r c same lives) is = absurd cc
  goes_no_fault n stood old new s lost (has_served {end = end} net r count run kept stored lives) is = served_no_fault end is

  -- what it keeps of both
  ends_keep : (old new : Around T) (s : Status) (lost : List Mark) → Ends known id o old new s lost → KeepBoth (disks_in known old) (disks_in known new)
  ends_keep old new s lost (cannot_open keeps rose) = keeps.kept
  ends_keep old new s lost (is_damaged keeps same damage) = keeps.kept
  ends_keep old new s lost (is_newer keeps same newer) = keeps.kept
  ends_keep old new s lost (has_no_memory keeps same) = keeps.kept
  ends_keep old new s lost (is_opened {n = n} mid opened goes) =
      keep_both _ _ _ opened.keeps.kept (goes_keep n (IsOwn known (kind_in o.observers id) id old opened.durable) mid new s lost goes)
  ends_keep old new s lost (is_not_marked opened lives) = opened.keeps.kept

  -- a disk fault is told where their count rose, or the folder couldn't be told
  ends_fault : (old new : Around T) (s : Status) (lost : List Mark) (e : Ends known id o old new s lost) → s ≡ status.DiskFault
      → FaultsRose (faults_of known old) (faults_of known new) ⊎ (marking_in known e ≡ is_unmarked)
  ends_fault old new s lost (cannot_open keeps rose) is = inl rose
  ends_fault old new s lost (is_damaged keeps same damage) is = absurd cc
  ends_fault old new s lost (is_newer keeps same newer) is = absurd cc
  ends_fault old new s lost (has_no_memory keeps same) is = absurd cc
  ends_fault old new s lost (is_opened {n = n} mid opened goes) is =
      absurd (goes_no_fault n (IsOwn known (kind_in o.observers id) id old opened.durable) mid new s lost goes is)
  ends_fault old new s lost (is_not_marked opened lives) is = inr refl

-- ---- counts

some_rose : (m n : ℕ) → 0 < total m n → (0 < m) ⊎ (0 < n)
some_rose zero n lt = inr (omega arith)
some_rose (suc m) n lt = inl (omega arith)

rose_from : (m n : ℕ) → m ≡ 0 → FaultsRose m n → 0 < n
rose_from m n none (inl lt) = omega arith
rose_from m n none (inr last) = omega arith

none_yet : (m n : ℕ) → m ≡ 0 → n ≡ 0 → total m n ≡ 0
none_yet m n first second = omega arith

-- ---- mirrors

module _ {D : Type 0} (disk : Ghosts D) where
  -- what is known of two copies
  abbrev copies : D → D → Disks
  copies first copy = disks_with disk.state first copy

  -- a mirror has the mark that it had when these two were opened
  module _ (first copy : D) (a c : Mirror D disk) (opens : Opens disk.state first copy a) (same : (known_mirror disk.state c).mark ≡ (known_mirror disk.state a).mark) where
    told : AreTold c.first_mark c.second_mark (disk.state first).faults (disk.state copy).faults (disk.state c.first).mark (disk.state c.second).mark (disk.state first).mark (disk.state copy).mark
    told = marks_tell c.first_mark c.second_mark (disk.state first).faults (disk.state copy).faults (disk.state c.first).mark (disk.state c.second).mark (disk.state first).mark (disk.state copy).mark (same ∙ opens.mark)

    -- both copies failed since
    both_failed : HaveFailed disk c → Failed disk first c.first × Failed disk copy c.second
    both_failed have =
        (subst (λ (n : ℕ). FaultsRose n (disk.state c.first).faults) told.first_count have.0, subst (λ (n : ℕ). FaultsRose n (disk.state c.second).faults) told.second_count have.1)

    -- and each is itself
    served_kept : (known_mirror disk.state c).obeys ↔ (known_mirror disk.state a).obeys → KeepCopies (copies first copy) (copies c.first c.second)
    served_kept model = record { mark = (told.first, told.second); model = (λ x. opens.model.0 (model.0 x), λ x. model.1 (opens.model.1 x)) }

  -- so it is of copies that are only opened, not called, or refused
  opened_kept : (first copy : D) (a : Mirror D disk) → Opens disk.state first copy a → KeepCopies (copies first copy) (copies a.first a.second)
  opened_kept first copy a opens = record { mark = (opens.first_mark, opens.second_mark); model = opens.model }

  same_kept : (first copy : D) → KeepCopies (copies first copy) (copies first copy)
  same_kept first copy = record { mark = (refl, refl); model = (λ x. x, λ x. x) }

  refused_kept : (c : OpenCause) (a b x y : D) → RefusedFor disk.state a b x y c → KeepCopies (copies a b) (copies x y)
  refused_kept cause.DiskFail a b x y r = record { mark = (r.4, r.5); model = (λ z. (r.2.0 z.0, r.3.0 z.1), λ z. (r.2.1 z.0, r.3.1 z.1)) }
  refused_kept cause.NoMemory a b x y r = rw (r.0, r.1) (same_kept a b)

  refused_fault : (c : OpenCause) (a b x y : D) → RefusedFor disk.state a b x y c → status_of_cause c ≡ status.DiskFault → Failed disk a x × Failed disk b y
  refused_fault cause.DiskFail a b x y r is = (r.0.rose, r.1.rose)
  refused_fault cause.NoMemory a b x y r is = absurd cc

  module _ (begins : Option ℕ) (id : ℕ) (o : Settings) (disks : NodeDisks D) (net0 : NetSeen) (clock0 : Option (List ℕ)) (out0 : StreamSeen) where
    -- a's mirror was refused
    pub ends_first_refused : (c : OpenCause) (a b : D) (handed : NodeDisks D) (s : Status) (lost : List Mark) → RefusedFor disk.state disks.first disks.first_copy a b c
        → handed ≡ record { first = a; second = disks.second; first_copy = b; second_copy = disks.second_copy; identity = disks.identity } → s ≡ status_of_cause c → lost ≡ []
        → EndsMirrored disk begins id o (environment disks net0 clock0 out0) (environment handed net0 clock0 out0) s lost
    ends_first_refused c a b handed s lost r at_disks is no_loss =
        rw (at_disks, is, no_loss) (record {
          ends = first_refused c a b r refl;
          kept = record { first = refused_kept c disks.first disks.first_copy a b r; second = same_kept disks.second disks.second_copy };
          fault = λ fault. inl (inl (refused_fault c disks.first disks.first_copy a b r fault));
        })

    -- b's was
    pub ends_second_refused : (c : OpenCause) (m : Mirror D disk) (x y a b : D) (handed : NodeDisks D) (s : Status) (lost : List Mark) → Opens disk.state disks.first disks.first_copy m
        → RefusedFor disk.state disks.second disks.second_copy a b c → x ≡ m.first → y ≡ m.second
        → handed ≡ record { first = x; second = a; first_copy = y; second_copy = b; identity = disks.identity } → s ≡ status_of_cause c → lost ≡ []
        → EndsMirrored disk begins id o (environment disks net0 clock0 out0) (environment handed net0 clock0 out0) s lost
    ends_second_refused c m x y a b handed s lost opens r at_first at_copy at_disks is no_loss =
        rw (at_disks, at_first, at_copy, is, no_loss)
        (record {
          ends = second_refused c m a b opens r refl;
          kept = record { first = opened_kept disks.first disks.first_copy m opens; second = refused_kept c disks.second disks.second_copy a b r };
          fault = λ fault. inl (inr (refused_fault c disks.second disks.second_copy a b r fault));
        })

    -- both were opened
    pub ends_open : (net1 : NetSeen) (clock1 : Option (List ℕ)) (out1 : StreamSeen) (a b c d : Mirror D disk) (x y u v i : D) (handed : NodeDisks D) (s : Status) (lost : List Mark)
        → Opens disk.state disks.first disks.first_copy a → Opens disk.state disks.second disks.second_copy b
        → EndsMarked (known_mirror disk.state) (IsMarking disk.state begins disks.identity i) id o (around a b net0 clock0 out0) (around c d net1 clock1 out1) s lost
        → handed ≡ record { first = x; second = u; first_copy = y; second_copy = v; identity = i }
        → x ≡ c.first → y ≡ c.second → u ≡ d.first → v ≡ d.second
        → (0 < c.faults → HaveFailed disk c) → (0 < d.faults → HaveFailed disk d)
        → LeavesAllMixes disk.state c → LeavesAllMixes disk.state d
        → EndsMirrored disk begins id o (environment disks net0 clock0 out0) (environment handed net1 clock1 out1) s lost
    ends_open net1 clock1 out1 a b c d x y u v i handed s lost at_a at_b e at_disks at_x at_y at_u at_v first_out second_out first_mixes second_mixes =
        rw (at_disks, at_x, at_y, at_u, at_v)
        (record {
          ends = are_open a b c d at_a at_b e.ends (record { are = refl; first_mixes = first_mixes; second_mixes = second_mixes }) e.marked failed;
          kept = record {
            first = served_kept disks.first disks.first_copy a c at_a both.mark.0 both.model.0;
            second = served_kept disks.second disks.second_copy b d at_b both.mark.1 both.model.1;
          };
          fault = λ is. ⊎_elim
              (λ rose. inl (failed (rose_from _ _ (none_yet a.faults b.faults at_a.faults at_b.faults) rose)))
              (λ untold. inr (subst (IsMarking disk.state begins disks.identity i) untold e.marked))
              (ends_fault (known_mirror disk.state) id o _ _ s lost e.ends is);
        })
      where
        both : KeepBoth (disks_in (known_mirror disk.state) (around a b net0 clock0 out0)) (disks_in (known_mirror disk.state) (around c d net1 clock1 out1))
        both = ends_keep (known_mirror disk.state) id o _ _ s lost e.ends

        copies : NodeDisks D
        copies = record { first = c.first; second = d.first; first_copy = c.second; second_copy = d.second; identity = i }

        by : (0 < c.faults) ⊎ (0 < d.faults) → AreaFailed disk disks copies
        by (inl lt) = inl (both_failed disks.first disks.first_copy a c at_a both.mark.0 (first_out lt))
        by (inr lt) = inr (both_failed disks.second disks.second_copy b d at_b both.mark.1 (second_out lt))

        failed : 0 < total c.faults d.faults → AreaFailed disk disks copies
        failed lt = by (some_rose c.faults d.faults lt)

-- ---- its settings

-- there are none, and nothing else is done
pub serves_misconfigured : {D : Type 0} (disk : Ghosts D) (id : ℕ) (in0 in1 : StreamSeen) (disks a : NodeDisks D) (net : NetSeen) (clock : Option (List ℕ)) (out : StreamSeen)
    (told s : Status) (lost : List Mark)
    → IsMisconfigured in0.0 (Some id) in0.1 in1.1 told
    → RisesWith (told ≡ status.ReadFault) in0.1 in1.1 → TakesAtMost (input_limit + 1) in0.0 in1.0 → a ≡ disks → s ≡ told → lost ≡ []
    → Serves disk id in0 in1 (environment disks net clock out) (environment a net clock out) s lost
serves_misconfigured disk id in0 in1 disks a net clock out told s lost why rises most at_disks is no_loss =
    rw (at_disks, is, no_loss) (is_misconfigured why rises most refl)

-- there are, and its folder doesn't let it begin
pub serves_not_admitted : {D : Type 0} (disk : Ghosts D) (id : ℕ) (in0 in1 : StreamSeen) (old seen a : NodeDisks D) (net : NetSeen) (clock : Option (List ℕ)) (out : StreamSeen)
    (told s : Status) (lost : List Mark) (text : List ℕ) (o : Settings)
    → IsConfigured in0.0 in1.0 (Some id) text o → in1.1 ≡ in0.1 → MayBegin disk id o old seen (Err told) → a ≡ seen → s ≡ told → lost ≡ []
    → Serves disk id in0 in1 (environment old net clock out) (environment a net clock out) s lost
serves_not_admitted disk id in0 in1 old seen a net clock out told s lost text o configured same may at_disks is no_loss =
    rw (at_disks, is, no_loss) (is_not_admitted o configured same may refl)
