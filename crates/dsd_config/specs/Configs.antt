-- A server's configuration, by the file that holds it.
use Rattle.std.specs.Prelude.{◌≡◌, ℕ, ◌<◌, ◌≤◌, ◌⊎◌, List, length}
use Rattle.out_ports.specs.Ports.{IsFile}
use Rattle.hub_machine.specs.State.{State}
use Rattle.sc_config.specs.Courses.{stops, bad}
use Rattle.sc_config.specs.Configs.{IsConfigured, IsCourseOf}
use Rattle.dsd_top.specs.Limits.{most_file}
use Rattle.dsd_top.specs.Schemas.{Files}
use Rattle.dsd_top.specs.declared.faults.Fault.{Fault}
use Rattle.dsd_top.specs.declared.faults.Fault.TheVariants as fault

-- its text has at most 1,048,576 bytes, and its steps lead to this state
abbrev pub IsConfigIn : Files → List ℕ → State → Type 0
IsConfigIn files name s =
    (text : List ℕ) × IsFile files name text × (length text ≤ most_file) × IsConfigured text s

-- a text is too long, or refused, with this number
abbrev pub IsBadTextAt : List ℕ → ℕ → Type 0
IsBadTextAt text n = ((most_file < length text) × (n ≡ 0)) ⊎ ((length text ≤ most_file) × IsCourseOf text (stops (bad n)))

abbrev pub IsBadConfigAt : Files → List ℕ → ℕ → Type 0
IsBadConfigAt files name n = (text : List ℕ) × IsFile files name text × IsBadTextAt text n

-- what a cause says of the text
abbrev pub IsWhyTextRefused : List ℕ → Fault → Type 0
IsWhyTextRefused text (fault.BadConfig n) = IsBadTextAt text n
IsWhyTextRefused text fault.NoMemory = Unit {0}
IsWhyTextRefused text f = ⊥

-- what a cause says of the file
abbrev pub IsWhyRefused : Files → List ℕ → Fault → Type 0
IsWhyRefused files name (fault.BadConfig n) = IsBadConfigAt files name n
IsWhyRefused files name fault.ReadFailed = Unit {0}
IsWhyRefused files name fault.NoMemory = Unit {0}
IsWhyRefused files name f = ⊥
