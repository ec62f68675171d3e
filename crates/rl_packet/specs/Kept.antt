-- What the last events of a list leave, as the code keeps it.
use Rattle.std.specs.Prelude.{◌≡◌, ℕ, ◌<◌, List, length, map}
use Rattle.std.specs.List.{list_any, AllByRecursion}
use Rattle.std.specs.BTreeSet.{contains}
use Rattle.std.specs.Ordering.{nat_cmp}
use Rattle.pv_value.specs.Plain.{Plain}
use Rattle.rl_packet.specs.Packets.{TurnEvent}
use Rattle.rl_packet.specs.Holding.{retracted_by, all_kept, holdings_in_order, insert_holding}
use Rattle.rl_packet.specs.declared.holding.Holding.{Holding}
use Rattle.rl_packet.specs.declared.holding.Place.{Place}
use Rattle.rl_packet.specs.declared.holding.Kept.{Kept}

-- the holding that a value at a place is
abbrev pub holding_at : Place × Plain → Holding
holding_at e = record { oid = e.0.oid; handle = e.0.handle; value = e.1 }

-- a place has a number below this one
abbrev pub IsNumbered : ℕ → Place × Plain → Type 0
IsNumbered n e = e.0.number < n

abbrev pub AreNumbered : List (Place × Plain) → Type 0
AreNumbered es = AllByRecursion (IsNumbered (length es)) es

-- one holding more, where it goes among the others
pub record IsPut (x : Holding) (old new : List (Place × Plain)) : Type 0 where
  pub holdings : map holding_at new ≡ insert_holding x (map holding_at old)
  pub numbered : AreNumbered new

-- the handles that later events retract, and what they leave
pub record IsKept (later : List TurnEvent) (k : Kept) : Type 0 where
  pub retracted : (h : ℕ) → list_any (retracted_by h) later ≡ contains nat_cmp k.retracted h
  pub holdings : map holding_at k.holdings.entries ≡ holdings_in_order (all_kept later)
  pub numbered : AreNumbered k.holdings.entries
