-- What was run of each folder.
use Rattle.std.specs.Prelude.{◌≡◌, ◌≤◌, ◌⊎◌}
use Rattle.dsd_rows.specs.declared.Folder.{Folder}
use Rattle.dsd_rows.specs.declared.Folder.TheVariants.{Rows, Steps, Tables}
use Rattle.dsd_rows.specs.declared.ran.Ran.{Ran}
use Rattle.dsd_rows.specs.declared.ran.AllRan.{AllRan}

-- this is of the folder: a file of it at least was run, or a case has failed
abbrev pub IsRunOf : Folder → Ran → Type 0
IsRunOf folder ran = (ran.folder ≡ folder) × ((1 ≤ ran.files) ⊎ (1 ≤ ran.cases.failed))

-- so it is of each folder
abbrev pub RanEach : AllRan → Type 0
RanEach ran = IsRunOf Rows ran.rows × IsRunOf Steps ran.steps × IsRunOf Tables ran.tables
