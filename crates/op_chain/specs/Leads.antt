-- What a node leads, and why it leads no more once something begins anew.
use Rattle.std.specs.Prelude.{◌==◌, ◌-◌, ℕ, List, Option, Some, None, if◌then◌else◌}
use Rattle.op_types.specs.Ballots.{no_ballot}
use Rattle.op_types.specs.Roles.{Role, Leading}
use Rattle.op_types.specs.declared.answers.Cause.{Cause}
use Rattle.op_types.specs.declared.answers.Cause.TheVariants as cause
use Rattle.op_types.specs.declared.changes.Change.{Change}
use Rattle.op_types.specs.declared.durable.Durable.{Durable}
use Rattle.op_types.specs.declared.durable.Joining.{Joining}
use Rattle.op_types.specs.declared.durable.Part.{Part}
use Rattle.op_protocol.specs.Parts.{part_after}
use Rattle.op_protocol.specs.Configurations.{latest_of}
use Rattle.op_kv.specs.Maps.{MapState}
use Rattle.op_chain.specs.declared.lead.Lead.{Lead}

-- what a node leads in this role
abbrev pub lead_of : Role → Option Lead
lead_of (Leading l) = Some (record { ballot = l.ballot; adopted_len = l.adopted_len })
lead_of r = None

-- why it leads no more where its part is closed: the stop-sign that the part has decided
abbrev pub why_closed : Option Part → List Change → Cause
why_closed None batch = cause.End
why_closed (Some p) batch = cause.Stop ((part_after p batch).decided - 1)

-- the same, where it goes on in the configuration that it joins: the stop-sign of the closed list before it
abbrev pub why_joined : ℕ → Option Joining → Cause
why_joined latest None = cause.End
why_joined latest (Some j) = if j.conf == latest then cause.Ballot no_ballot else cause.Stop (j.len - 1)

-- the same, of what begins anew: with a service that is read anew the node goes on in what it joins
abbrev pub why_anew : Durable → List Change → Option MapState → Cause
why_anew d batch None = why_closed d.part batch
why_anew d batch (Some m) = why_joined (latest_of d) d.joining
