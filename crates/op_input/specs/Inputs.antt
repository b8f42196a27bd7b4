-- What is read of an input, and the settings that it holds.
use Rattle.std.specs.Prelude.{◌≡◌, ℕ, ◌≤◌, ◌+◌, List, length, Option}
use Rattle.std.specs.Io.KnownBytes.{IsAtEnd}
use Rattle.op_outside.specs.Causes.{FaultsRose}
use Rattle.op_outside.specs.Streams.{ReadsAll, HasAtLeast}
use Rattle.op_setup.specs.Settings.{IsSettings}
use Rattle.op_setup.specs.Causes.{IsFirstCause}
use Rattle.op_setup.specs.declared.config_cause.ConfigCause.{ConfigCause}
use Rattle.op_setup.specs.declared.config.Settings.{Settings}
use Rattle.op_status.specs.declared.status.Status.{Status}
use Rattle.op_status.specs.declared.status.Status.TheVariants as status

-- how many bytes of input are read at most
abbrev pub input_limit : ℕ
input_limit = 67108864

-- all that was left was read to its end, and these bytes are it
pub record IsInput (old new : Option (List ℕ)) (bytes : List ℕ) : Type 0 where
  pub all : ReadsAll old bytes
  pub few : length bytes ≤ input_limit
  pub end : IsAtEnd new

-- the settings of the node of this id, or of a cluster, are these
pub record IsConfigured (old new : Option (List ℕ)) (id : Option ℕ) (text : List ℕ)
    (s : Settings) : Type 0 where
  pub read : IsInput old new text
  pub settings : IsSettings text id s

-- the input, which isn't too long, is no settings for this cause, the first that applies
pub record IsBadConfig (old : Option (List ℕ)) (id : Option ℕ) (c : ConfigCause) : Type 0 where
  pub text : List ℕ
  pub all : ReadsAll old text
  pub few : length text ≤ input_limit
  pub first : IsFirstCause text id c

-- why input is not read, by its status: a read failed, which raises the count of faults;
-- there is more of it than may be; or no memory
abbrev pub IsUnread : Option (List ℕ) → ℕ → ℕ → Status → Type 0
IsUnread old before now status.ReadFault = FaultsRose before now
IsUnread old before now status.InputLimit = HasAtLeast old (input_limit + 1)
IsUnread old before now status.NoMemory = Unit {0}
IsUnread old before now _ = ⊥

-- why input gives no settings
abbrev pub IsMisconfigured : Option (List ℕ) → Option ℕ → ℕ → ℕ → Status → Type 0
IsMisconfigured old id before now (status.BadConfig c) = IsBadConfig old id c
IsMisconfigured old id before now s = IsUnread old before now s
