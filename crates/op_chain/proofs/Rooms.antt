-- Room in what is stored changes nothing else.
use Rattle.std.proofs.Common.{◌≡◌, ℕ, Option, Some, None}
use Rattle.std.specs.Prelude.{IfSome}
use Rattle.op_types.specs.Rooms.{no_needs, part_option_with_room, joining_option_with_room, with_room}
use Rattle.op_types.specs.declared.durable.Durable.{Durable}
use Rattle.op_types.specs.declared.durable.Joining.{Joining}
use Rattle.op_types.specs.declared.durable.Part.{Part}
use Rattle.op_types.specs.declared.needs.Needs.{Needs}
use Rattle.op_types.proofs.Adoption.{bare_twice}
use Rattle.op_kv.specs.Bases.{IsBase}
use Rattle.op_instance.specs.Sound.{IfJoiningFits, IfNodeOf, IsNode}
use Rattle.op_instance.specs.declared.volatile.Volatile.{Volatile}
use Rattle.op_chain.specs.Bringing.{HasBase}
use Rattle.op_chain.specs.Chains.{HaveBases}

-- the last room stays
pub rested : (n : Needs) (d : Durable) → with_room no_needs (with_room n d) ≡ with_room no_needs d
rested n d = bare_twice n d

-- ---- nodes

part_node : (n me : ℕ) (o : Option Part) (v : Volatile) → IfNodeOf me o v → IfNodeOf me (part_option_with_room n o) v
part_node n me None v node = tt
part_node n me (Some p) v node =
    record {
      sound =
          record {
            conf = node.sound.conf;
            positions = record { trimmed = node.sound.positions.trimmed; decided = node.sound.positions.decided; small = node.sound.positions.small };
            members = node.sound.members;
            log = node.sound.log;
            promises = node.sound.promises;
            stops = node.sound.stops;
            stages = node.sound.stages;
          };
      staged = node.staged;
      kept = record { elector = node.kept.elector; electors = node.kept.electors; listener = node.kept.listener; members = node.kept.members };
    }

joining_fits : (n me : ℕ) (j : Option Joining) → IfJoiningFits me j → IfJoiningFits me (joining_option_with_room n j)
joining_fits n me None fits = tt
joining_fits n me (Some j) fits = record { number = fits.number; last = fits.last; len = fits.len; member = fits.member; base = fits.base }

-- a node's memory is of what it stores, whatever the room
pub node_room : (n : Needs) (me : ℕ) (d : Durable) (v : Volatile) → IsNode me d v → IsNode me (with_room n d) v
node_room n me d v node =
    record { part = part_node n.entries me d.part v node.part; closed = node.closed; joining = joining_fits n.held me d.joining node.joining }

part_base : (n : ℕ) (o : Option Part) → IfSome o (λ p. IsBase p.base) → IfSome (part_option_with_room n o) (λ p. IsBase p.base)
part_base n None has = tt
part_base n (Some p) has = has

joining_base : (n : ℕ) (j : Option Joining) → IfSome j HasBase → IfSome (joining_option_with_room n j) HasBase
joining_base n None has = tt
joining_base n (Some j) has = has

-- and so are the bases
pub bases_room : (n : Needs) (d : Durable) → HaveBases d → HaveBases (with_room n d)
bases_room n d has = record { part = part_base n.entries d.part has.part; joining = joining_base n.held d.joining has.joining }
