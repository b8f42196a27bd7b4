-- The names that begin events' lines, the ids that stand after one, and an event that is added.
-- Only what is inside the crate speaks of this.
use Rattle.std.specs.Prelude.{◌≡◌, ◌≤◌, ◌<◌, ◌&&◌, ℕ, nat_eq, Bool, true, false, not, List, [], ◌∷◌, ◌++◌, length, codes, map, decimal}
use Rattle.std.specs.Set.{is_member}
use Rattle.op_types.specs.Ranges.{IsPid, AreRising, MembersInRange}
use Rattle.op_runs.specs.Possible.{IsCall, IsDisk, images}
use Rattle.op_runs.specs.declared.events.What.{What}
use Rattle.op_runs.specs.declared.events.Event.{Event}
use Rattle.op_sched.specs.declared.reading.forms.Form.{Form}
use Rattle.op_sched.specs.declared.reading.forms.Form.TheVariants as form
use Rattle.op_sched.specs.declared.reading.operations.OpForm.{OpForm}
use Rattle.op_sched.specs.declared.reading.operations.OpForm.TheVariants as op_form
use Rattle.op_sched.specs.Grammar.{AreSpares, AreObservers}

-- the name of an operation's form
abbrev pub op_form_name : OpForm → List ℕ
op_form_name op_form.Put = codes "put"
op_form_name op_form.Del = codes "del"
op_form_name op_form.Get = codes "get"
op_form_name op_form.Cas = codes "cas"
op_form_name op_form.Many = codes "many"
op_form_name op_form.Forget = codes "forget"

-- the name of a form
abbrev pub form_name : Form → List ℕ
form_name form.Tick = codes "tick"
form_name (form.Command op) = op_form_name op
form_name form.Stop = codes "stop"
form_name form.Trim = codes "trim"
form_name form.Read = codes "read"
form_name form.Deliver = codes "deliver"
form_name form.Up = codes "up"
form_name form.Drop = codes "drop"
form_name form.Crash = codes "crash"
form_name form.Fail = codes "fail"
form_name form.Kill = codes "kill"
form_name form.Start = codes "start"
form_name form.Show = codes "show"
form_name form.Ballots = codes "ballots"

-- two servers that differ
abbrev pub ArePeers : ℕ → ℕ → Type 0
ArePeers p q = IsPid p × IsPid q × (p ≡ q → ⊥)

-- the words are a server and a call of its disks
abbrev pub AreCallOf : List (List ℕ) → ℕ × ℕ → Type 0
AreCallOf words x = IsPid x.0 × IsCall x.1 × (words ≡ decimal x.0 ∷ decimal x.1 ∷ [])

-- the words are a server and one of its disks
abbrev pub AreDiskOf : List (List ℕ) → ℕ × ℕ → Type 0
AreDiskOf words x = IsPid x.0 × IsDisk x.1 × (words ≡ decimal x.0 ∷ decimal x.1 ∷ [])

-- the words are a server, a call of its disks, and an image of them
abbrev pub AreStopOf : List (List ℕ) → ℕ × ℕ × ℕ → Type 0
AreStopOf words x =
    IsPid x.0 × IsCall x.1 × (x.2 < images) × (words ≡ decimal x.0 ∷ decimal x.1 ∷ decimal x.2 ∷ [])

-- the words are these members' ids
abbrev pub AreMembersOf : List (List ℕ) → List ℕ → Type 0
AreMembersOf words ids = MembersInRange ids × (words ≡ map decimal ids)

-- the words are ids in order, from one to so many
abbrev pub AreIdsOf : ℕ → List (List ℕ) → List ℕ → Type 0
AreIdsOf most words ids = (1 ≤ length ids) × (length ids ≤ most) × AreRising 0 ids × (words ≡ map decimal ids)

-- none of these ids is a member
abbrev pub are_apart : List ℕ → List ℕ → Bool
are_apart members [] = true
are_apart members (id ∷ ids) = not (is_member nat_eq members id) && are_apart members ids

-- the words are the ids of spares beside these members
abbrev pub AreSparesOf : List ℕ → List (List ℕ) → List ℕ → Type 0
AreSparesOf members words ids = (1 ≤ length ids) × AreSpares members ids × (words ≡ map decimal ids)

-- none of these ids is a member or a spare
abbrev pub are_beside : List ℕ → List ℕ → List ℕ → Bool
are_beside members spares ids = are_apart members ids && are_apart spares ids

-- the words are the ids of observers beside these members and spares
abbrev pub AreObserversOf : List ℕ → List ℕ → List (List ℕ) → List ℕ → Type 0
AreObserversOf members spares words ids =
    (1 ≤ length ids) × AreObservers members spares ids × (words ≡ map decimal ids)

-- what happens by this line, of which P holds, was added to events, or P holds of nothing
abbrev pub Adds : (What → Type 0) → ℕ → List Event → List Event → Bool → Type 0
Adds P line old new true = (w : What) × P w × (new ≡ old ++ record { line = line; what = w } ∷ [])
Adds P line old new false = (w : What) → P w → ⊥
