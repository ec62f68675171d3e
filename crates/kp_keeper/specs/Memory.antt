-- A keeper in memory: for which calls it works, and what it is then.
use Rattle.std.specs.Prelude.{ℕ, ◌-◌, ◌==◌, ◌||◌, Bool, true, false, List, Option, Some, None, is_none, if◌then◌else◌}
use Rattle.out_ports.specs.Ports.{raised}
use Rattle.kp_keeper.specs.Records.{Record, without}
use Rattle.kp_keeper.specs.Keeping.{after_put}
use Rattle.kp_keeper.specs.declared.keeper.Kept.{Kept}

-- the records, for how many calls it works yet, and how often it has failed
pub record ToldKeeper : Type 0 where
  pub records : List Record
  pub works : ℕ
  pub faults : ℕ

-- a keeper of these records that works for so many calls
abbrev pub keeper_of : List Record → ℕ → ToldKeeper
keeper_of records works = record { records = records; works = works; faults = 0 }

-- whether the next call fails
abbrev pub is_worn : ToldKeeper → Bool
is_worn keeper = keeper.works == 0

-- after a call that failed
abbrev pub after_fault : ToldKeeper → ToldKeeper
after_fault keeper = record keeper { faults = raised 1 keeper.faults }

-- after one call more
abbrev pub after_call : ToldKeeper → ToldKeeper
after_call keeper = if is_worn keeper then after_fault keeper else record keeper { works = keeper.works - 1 }

-- with these records in place of its own
abbrev pub keeping : List Record → ToldKeeper → ToldKeeper
keeping records keeper = record keeper { records = records }

-- a keeper, and the name of the file that was opened last
pub record ToldKeeping : Type 0 where
  pub keeper : ToldKeeper
  pub file : Option (List ℕ)

-- whether the next call that needs a file fails
abbrev pub fails : ToldKeeping → Bool
fails k = is_none k.file || is_worn k.keeper

-- after a call that needs a file: where none is open, it fails before its keeper is called
abbrev pub after_use : ToldKeeping → ToldKeeping
after_use k = record k { keeper = if is_none k.file then after_fault k.keeper else after_call k.keeper }

-- with these records
abbrev pub keeping_in_file : List Record → ToldKeeping → ToldKeeping
keeping_in_file records k = record k { keeper = keeping records k.keeper }

-- after an opening, which was done or wasn't
abbrev pub after_keep : List ℕ → Bool → ToldKeeping → ToldKeeping
after_keep name opened k = record { keeper = after_call k.keeper; file = if opened then Some name else k.file }
