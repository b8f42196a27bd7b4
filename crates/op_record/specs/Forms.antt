-- Bodies of records as bytes.
use Rattle.std.specs.Prelude.{◌==◌, ◌-◌, ◌+◌, ◌++◌, ℕ, Bool, true, not, List, Option, length, nat_lt, is_ok, Ok, Err, if◌then◌else◌}
use Rattle.std.specs.Int.{w8, w32, w64}
use Rattle.std.specs.List.{flat_map}
use Rattle.op_types.specs.Limits.{last_conf, positions_end, most_donors, greatest_pid}
use Rattle.op_fields.specs.Form.{◌>>=◌, Form, Options, encoded, number, counted_read, pair, fitted, tested, listed, optional, option, no_option, choice, whole}
use Rattle.op_types.specs.declared.ballot.Ballot.{Ballot}
use Rattle.op_types.specs.declared.log.Entry.{Entry}
use Rattle.op_types.specs.declared.log.Entry.TheVariants as entries
use Rattle.op_types.specs.declared.durable.Part.{Part}
use Rattle.op_types.specs.declared.durable.Closed.{Closed}
use Rattle.op_types.specs.declared.durable.Joining.{Joining}
use Rattle.op_types.specs.declared.durable.Durable.{Durable}
use Rattle.op_types.specs.declared.changes.Change.{Change}
use Rattle.op_types.specs.declared.changes.Change.TheVariants as variant
use Rattle.op_entry.specs.Forms.{ballot, member, members, entry, entries_within}
use Rattle.op_entry.specs.Forms as entry_forms
use Rattle.op_kv.specs.Bases as kv
use Rattle.op_record.specs.Ranges.{most_changes, greatest_length, BaseFits, PartFits, ClosedFits, JoiningFits, DurableFits, ChangeFits, BatchFits, RecFits}
use Rattle.op_record.specs.declared.body.Rec.{Rec}
use Rattle.op_record.specs.declared.body.Rec.TheVariants.{Whole, Step}

-- ---- fields

-- whether a service in range and in order has these bytes as its base
abbrev pub is_base : List ℕ → Bool
is_base bytes = is_ok (whole kv.base bytes)

-- a base after its length; bytes that are none are a fault at the length
abbrev pub base : Form (List ℕ)
base = record {
  text = λ b. encoded w64 (length b) ++ b;
  fits = BaseFits;
  read = λ bytes at.
      counted_read w64 0 greatest_length bytes at >>= λ b. if is_base b.0 then Ok b else Err at;
}

-- a configuration's number
abbrev pub conf : Form ℕ
conf = number w32 1 last_conf

-- the number of a configuration that is joined: there is one before it
abbrev pub joined_conf : Form ℕ
joined_conf = number w32 2 last_conf

-- a position, or the length of a log
abbrev pub place : Form ℕ
place = number w64 0 positions_end

-- the length of a closed list
abbrev pub closed_len : Form ℕ
closed_len = number w64 1 positions_end

-- 1 for yes, 0 for no
abbrev pub flag : Form Bool
flag = fitted (λ n. n == 1) (λ b. if b then 1 else 0) (λ b. Unit {0}) (number w8 0 1)

-- ---- a part

-- an entry may stand in a configuration: the last one has no stop-sign
abbrev pub may_stand : ℕ → Entry → Bool
may_stand c (entries.Command x) = true
may_stand c (entries.Stop s) = not (c == last_conf)

-- an entry of a configuration
abbrev pub entry_in : ℕ → Form Entry
entry_in c = tested (may_stand c) entry

-- up to so many entries of a configuration
abbrev pub entries_in : ℕ → ℕ → Form (List Entry)
entries_in c most = listed w64 0 most (λ _. entry_in c) (λ _. 0) 0

-- how much is trimmed, the entries after it up to the last position, and how much is decided
abbrev pub log : ℕ → Form (ℕ × (List Entry × ℕ))
log c = pair place (λ t. pair (entries_in c (positions_end - t)) (λ es. number w64 t (t + length es)))

-- the fields of a part behind its configuration, in their order
abbrev pub PartFields : Type 0
PartFields = List ℕ × (Ballot × (Ballot × (List ℕ × (ℕ × (List Entry × ℕ)))))

-- these fields as bytes
abbrev pub part_fields : Form (ℕ × PartFields)
part_fields =
    pair conf (λ c. pair members (λ _. pair ballot (λ _. pair ballot (λ _. pair base (λ _. log c)))))

-- the part of these fields
abbrev pub part_of : ℕ × PartFields → Part
part_of x = record {
  conf = x.0;
  members = x.1.0;
  promised = x.1.1.0;
  accepted = x.1.1.1.0;
  base = x.1.1.1.1.0;
  trimmed = x.1.1.1.1.1.0;
  tail = record { items = x.1.1.1.1.1.1.0; room = 0 };
  decided = x.1.1.1.1.1.1.1;
}

-- the log of this part
abbrev pub log_of_part : Part → ℕ × (List Entry × ℕ)
log_of_part p = (p.trimmed, (p.tail.items, p.decided))

-- the fields of this part
abbrev pub fields_of_part : Part → ℕ × PartFields
fields_of_part p = (p.conf, (p.members, (p.promised, (p.accepted, (p.base, log_of_part p)))))

-- a part
abbrev pub part : Form Part
part = fitted part_of fields_of_part PartFits part_fields

-- ---- a closed list

-- there is an entry at least, trimmed ones counted
abbrev pub is_some_list : ℕ → List Entry → Bool
is_some_list t es = nat_lt 0 (t + length es)

-- how much is trimmed, and the entries after it; there is one entry at least
abbrev pub closed_log : Form (ℕ × List Entry)
closed_log = pair place (λ t. tested (is_some_list t) (entries_within (positions_end - t)))

-- the fields of a closed list, in their order
abbrev pub ClosedFields : Type 0
ClosedFields = ℕ × (List ℕ × (List ℕ × (List ℕ × (ℕ × List Entry))))

-- these fields as bytes
abbrev pub closed_fields : Form ClosedFields
closed_fields =
    pair (number w32 1 (last_conf - 1)) (λ _.
    pair members (λ _. pair members (λ _. pair base (λ _. closed_log))))

-- the closed list of these fields
abbrev pub closed_of : ClosedFields → Closed
closed_of x = record {
  conf = x.0;
  olds = x.1.0;
  next = x.1.1.0;
  base = x.1.1.1.0;
  trimmed = x.1.1.1.1.0;
  tail = x.1.1.1.1.1;
}

-- the fields of this closed list
abbrev pub fields_of_closed : Closed → ClosedFields
fields_of_closed l = (l.conf, (l.olds, (l.next, (l.base, (l.trimmed, l.tail)))))

-- a closed list
abbrev pub closed : Form Closed
closed = fitted closed_of fields_of_closed ClosedFits closed_fields

-- ---- what is held while joining

-- a donor's id above the one before it, and how much is trimmed there
abbrev pub donor : ℕ → ℕ → Form (ℕ × ℕ)
donor len low = pair (member low) (λ _. number w64 0 len)

-- donors, by rising id
abbrev pub donors : ℕ → Form (List (ℕ × ℕ))
donors len = listed w8 0 most_donors (donor len) (λ d. d.0) 0

-- the base and its position, if it is held
abbrev pub held_base : ℕ → Form (Option (ℕ × List ℕ))
held_base len = optional (pair (number w64 0 len) (λ _. base))

-- an entry that is held, and its position, behind the one before it
abbrev pub held_entry : ℕ → ℕ → Form (ℕ × Entry)
held_entry len low = pair (number w64 low (len - 1)) (λ _. entry)

-- the entries that are held, by rising position
abbrev pub held : ℕ → Form (List (ℕ × Entry))
held len = listed w64 0 positions_end (held_entry len) (λ x. x.0 + 1) 0

-- the pieces of a closed list, in their order: donors, the base and entries
abbrev pub Pieces : Type 0
Pieces = List (ℕ × ℕ) × (Option (ℕ × List ℕ) × List (ℕ × Entry))

-- the pieces of a closed list of this length
abbrev pub pieces : ℕ → Form Pieces
pieces len = pair (donors len) (λ _. pair (held_base len) (λ _. held len))

-- the fields of what is held while joining, in their order
abbrev pub JoiningFields : Type 0
JoiningFields = ℕ × (List ℕ × (List ℕ × (ℕ × Pieces)))

-- these fields as bytes
abbrev pub joining_fields : Form JoiningFields
joining_fields =
    pair joined_conf (λ _. pair members (λ _. pair members (λ _. pair closed_len pieces)))

-- what is held, of these fields
abbrev pub joining_of : JoiningFields → Joining
joining_of x = record {
  conf = x.0;
  members = x.1.0;
  olds = x.1.1.0;
  len = x.1.1.1.0;
  donors = x.1.1.1.1.0;
  base = x.1.1.1.1.1.0;
  held = record { items = x.1.1.1.1.1.1; room = 0 };
}

-- the pieces of what is held
abbrev pub pieces_of : Joining → Pieces
pieces_of j = (j.donors, (j.base, j.held.items))

-- the fields of what is held
abbrev pub fields_of_joining : Joining → JoiningFields
fields_of_joining j = (j.conf, (j.members, (j.olds, (j.len, pieces_of j))))

-- what is held while joining
abbrev pub joining : Form Joining
joining = fitted joining_of fields_of_joining JoiningFits joining_fields

-- ---- a durable state

-- a part, a closed list and what is held while joining, where there are such
abbrev pub durable_fields : Form (Option Part × (Option Closed × Option Joining))
durable_fields = pair (optional part) (λ _. pair (optional closed) (λ _. optional joining))

-- the durable state of these
abbrev pub durable_of : Option Part × (Option Closed × Option Joining) → Durable
durable_of x = record { part = x.0; closed = x.1.0; joining = x.1.1 }

-- what stands for this durable state
abbrev pub fields_of_durable : Durable → Option Part × (Option Closed × Option Joining)
fields_of_durable d = (d.part, (d.closed, d.joining))

-- a durable state
abbrev pub durable : Form Durable
durable = fitted durable_of fields_of_durable DurableFits durable_fields

-- ---- a batch

-- a position and a base
abbrev pub place_base : Form (ℕ × List ℕ)
place_base = pair place (λ _. base)

-- whether the node is named, and a base
abbrev pub named_base : Form (Bool × List ℕ)
named_base = pair flag (λ _. base)

-- a configuration, its members, those before, and the closed list's length
abbrev pub begun : Form (ℕ × (List ℕ × (List ℕ × ℕ)))
begun = pair joined_conf (λ _. pair members (λ _. pair members (λ _. closed_len)))

-- a donor's id, and how much is trimmed there
abbrev pub new_donor : Form (ℕ × ℕ)
new_donor = pair (number w32 1 greatest_pid) (λ _. place)

-- a position and the entries from there on
abbrev pub place_entries : Form (ℕ × List Entry)
place_entries = pair place (λ _. entry_forms.entries)

-- a configuration, its members, a position of its list and the base there
abbrev pub rebased : Form (ℕ × (List ℕ × (ℕ × List ℕ)))
rebased = pair conf (λ _. pair members (λ _. place_base))

-- a change's tag
abbrev pub change_tag : Change → ℕ
change_tag (variant.Promise b) = 1
change_tag (variant.Accept b) = 2
change_tag (variant.CutTo n) = 3
change_tag (variant.Append es) = 4
change_tag (variant.Decided x) = 5
change_tag (variant.Trim x b) = 6
change_tag (variant.Close named b) = 7
change_tag (variant.JoinBegin c next olds len) = 8
change_tag (variant.JoinDonor q trimmed) = 9
change_tag (variant.JoinBase at b) = 10
change_tag (variant.JoinPart at es) = 11
change_tag (variant.JoinDone b) = 12
change_tag (variant.Rebase c ms at b) = 13

-- what stands after it
abbrev pub change_body : Change → List ℕ
change_body (variant.Promise b) = ballot.text b
change_body (variant.Accept b) = ballot.text b
change_body (variant.CutTo n) = place.text n
change_body (variant.Append es) = entry_forms.entries.text es
change_body (variant.Decided x) = place.text x
change_body (variant.Trim x b) = place_base.text (x, b)
change_body (variant.Close named b) = named_base.text (named, b)
change_body (variant.JoinBegin c next olds len) = begun.text (c, (next, (olds, len)))
change_body (variant.JoinDonor q trimmed) = new_donor.text (q, trimmed)
change_body (variant.JoinBase at b) = place_base.text (at, b)
change_body (variant.JoinPart at es) = place_entries.text (at, es)
change_body (variant.JoinDone b) = base.text b
change_body (variant.Rebase c ms at b) = rebased.text (c, (ms, (at, b)))

-- what is read after a tag
abbrev pub change_options : Options Change
change_options =
    option 1 ballot (λ b. variant.Promise b)
    (option 2 ballot (λ b. variant.Accept b)
    (option 3 place (λ n. variant.CutTo n)
    (option 4 entry_forms.entries (λ es. variant.Append es)
    (option 5 place (λ x. variant.Decided x)
    (option 6 place_base (λ x. variant.Trim x.0 x.1)
    (option 7 named_base (λ x. variant.Close x.0 x.1)
    (option 8 begun (λ x. variant.JoinBegin x.0 x.1.0 x.1.1.0 x.1.1.1)
    (option 9 new_donor (λ x. variant.JoinDonor x.0 x.1)
    (option 10 place_base (λ x. variant.JoinBase x.0 x.1)
    (option 11 place_entries (λ x. variant.JoinPart x.0 x.1)
    (option 12 base (λ b. variant.JoinDone b)
    (option 13 rebased (λ x. variant.Rebase x.0 x.1.0 x.1.1.0 x.1.1.1)
    no_option))))))))))))

-- a change
abbrev pub change : Form Change
change = choice 13 change_tag change_body ChangeFits change_options

-- a batch of changes
abbrev pub batch : Form (List Change)
batch =
    fitted (λ changes. changes) (λ changes. changes) BatchFits
    (listed w8 0 most_changes (λ _. change) (λ _. 0) 0)

-- ---- a record

-- the body of the record of a step with these changes, where this stands in the place of their count
abbrev pub step_text : ℕ → List Change → List ℕ
step_text count changes = encoded w8 2 ++ (encoded w8 count ++ flat_map change.text changes)

-- a record's tag
abbrev pub body_tag : Rec → ℕ
body_tag (Whole d) = 1
body_tag (Step changes) = 2

-- what stands after it
abbrev pub body_text : Rec → List ℕ
body_text (Whole d) = durable.text d
body_text (Step changes) = batch.text changes

-- what is read after a tag
abbrev pub body_options : Options Rec
body_options = option 1 durable (λ d. Whole d) (option 2 batch (λ changes. Step changes) no_option)

-- the body of a record
abbrev pub body : Form Rec
body = choice 2 body_tag body_text RecFits body_options
