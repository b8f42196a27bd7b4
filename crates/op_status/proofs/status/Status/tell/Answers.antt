use Rattle.std.proofs.Common.{◌≡◌, ℕ, List, [], ◌∷◌, codes, subst, ◌∙◌, append_assoc}
use Rattle.std.specs.List.{concat}
use Rattle.op_outside.specs.Seen.{Tells}
use Rattle.op_setup.specs.Names.{name_bytes}
use Rattle.op_setup.specs.declared.cluster_name.ClusterName.{ClusterName}
use Rattle.op_status.specs.Statuses.{area_name, status_line}
use Rattle.op_status.specs.declared.status.Status.TheVariants as status
use Rattle.std.specs.Fmt.{decimal}
use Rattle.op_status.proofs.status.Status.tell.Goals as goal

pub returns-in-BadConfig : goal.returns-in-BadConfig
returns-in-BadConfig g c = rw (c.in-BadConfig.is, ← c.name_of.ensures) c.tell_parts.ensures

pub returns-in-BadSchedule : goal.returns-in-BadSchedule
returns-in-BadSchedule g c =
    let digits : c.as_bytes-digits.result.now ≡ decimal c.in-BadSchedule.line = c.as_bytes-digits.ensures.value ∙ c.format.ensures.text in
    rw (c.in-BadSchedule.is, ← digits) c.tell_parts-in-BadSchedule.ensures

pub returns-in-ReadFault : goal.returns-in-ReadFault
returns-in-ReadFault g c = rw c.in-ReadFault.is c.tell_text-in-ReadFault.ensures

pub returns-in-WriteFault : goal.returns-in-WriteFault
returns-in-WriteFault g c = rw c.in-WriteFault.is c.tell_text-in-WriteFault.ensures

pub returns-in-DiskFault : goal.returns-in-DiskFault
returns-in-DiskFault g c = rw c.in-DiskFault.is c.tell_text-in-DiskFault.ensures

pub returns-in-TurnsOver : goal.returns-in-TurnsOver
returns-in-TurnsOver g c = rw c.in-TurnsOver.is c.tell_text-in-TurnsOver.ensures

pub returns-in-ChildFault : goal.returns-in-ChildFault
returns-in-ChildFault g c = rw c.in-ChildFault.is c.tell_text-in-ChildFault.ensures

pub returns-in-InputLimit : goal.returns-in-InputLimit
returns-in-InputLimit g c = rw c.in-InputLimit.is c.tell_text-in-InputLimit.ensures

-- the line of a newer version, from its parts
newer_line : (area version : ℕ) (name digits : List ℕ) → name ≡ area_name area → digits ≡ decimal version
    → concat (codes "newer version " ∷ name ∷ codes " " ∷ digits ∷ codes "\n" ∷ []) ≡ status_line (status.NewerVersion area version)
newer_line area version name digits is_name is_number = rw (is_name, is_number) (simp append_assoc)

pub returns-in-NewerVersion : goal.returns-in-NewerVersion
returns-in-NewerVersion g c =
    let digits : c.as_bytes-digits-in-NewerVersion.result.now ≡ decimal c.in-NewerVersion.version = c.as_bytes-digits-in-NewerVersion.ensures.value ∙ c.format-in-NewerVersion.ensures.text in
    let told : List ℕ → Type 0 = λ text. Tells (g.K.Sink.held c.args.err.now, g.K.Sink.fault_count c.args.err.now)
    (g.K.Sink.held c.tell_parts-in-NewerVersion.new.err, g.K.Sink.fault_count c.tell_parts-in-NewerVersion.new.err) text in
    rw c.in-NewerVersion.is (subst told (newer_line c.in-NewerVersion.area c.in-NewerVersion.version _ _ c.area_name-in-NewerVersion.ensures digits) c.tell_parts-in-NewerVersion.ensures)

pub returns-in-NoIdentity : goal.returns-in-NoIdentity
returns-in-NoIdentity g c = rw c.in-NoIdentity.is c.tell_text-in-NoIdentity.ensures

-- the line of a folder that is another's, from its parts
other_line : (id : ℕ) (name : ClusterName) (digits bytes : List ℕ) → digits ≡ decimal id → bytes ≡ name_bytes name
    → concat (codes "identity " ∷ digits ∷ codes " " ∷ bytes ∷ codes "\n" ∷ []) ≡ status_line (status.OtherIdentity id name)
other_line id name digits bytes is_number is_name = rw (is_number, is_name) (simp append_assoc)

pub returns-in-OtherIdentity : goal.returns-in-OtherIdentity
returns-in-OtherIdentity g c =
    let digits : c.as_bytes-digits-in-OtherIdentity.result.now ≡ decimal c.in-OtherIdentity.id = c.as_bytes-digits-in-OtherIdentity.ensures.value ∙ c.format-in-OtherIdentity.ensures.text in
    let told : List ℕ → Type 0 = λ text. Tells (g.K.Sink.held c.args.err.now, g.K.Sink.fault_count c.args.err.now)
    (g.K.Sink.held c.tell_parts-in-OtherIdentity.new.err, g.K.Sink.fault_count c.tell_parts-in-OtherIdentity.new.err) text in
    rw c.in-OtherIdentity.is (subst told (other_line c.in-OtherIdentity.id c.in-OtherIdentity.name _ _ digits c.as_slice.ensures) c.tell_parts-in-OtherIdentity.ensures)
