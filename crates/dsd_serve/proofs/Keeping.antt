-- What a cause says of the records that are kept, and which statuses come.
use Rattle.std.proofs.Common.{ℕ, List, Contains, Option, lit<, refl}
use Rattle.kp_keeper.specs.declared.records.Record.{Record}
use Rattle.dsd_top.specs.declared.faults.Fault.TheVariants as fault
use Rattle.dsd_serve.specs.Causes.{status_for, IsServingFault}
use Rattle.dsd_serve.specs.Kept.{kept_statuses, IsWhyUnservedKept, StandsServingKept}
use Rattle.dsd_serve.specs.Serving.{Serving, IsServingKept}
use Rattle.dsd_serve.specs.declared.unserved.Unserved.{Unserved}
use Rattle.dsd_serve.specs.declared.unserved.Unserved.TheVariants.{Of, Unheard, KeeperFailed}

module _ (kept : Option (List Record)) where
  -- of serving itself
  pub served_too : (why : Unserved) → IsServingFault why → IsWhyUnservedKept kept why
  served_too (Of (fault.BadInput n)) h = absurd h
  served_too (Of fault.BadWords) h = absurd h
  served_too (Of fault.ReadFailed) h = absurd h
  served_too (Of fault.WriteFailed) h = tt
  served_too (Of fault.NoMemory) h = tt
  served_too (Of (fault.Limit w)) h = absurd h
  served_too (Of (fault.BadConfig n)) h = absurd h
  served_too Unheard h = tt
  served_too KeeperFailed h = absurd h

  pub kept_known : (why : Unserved) → IsWhyUnservedKept kept why → Contains kept_statuses (status_for why)
  kept_known (Of (fault.BadInput n)) h = absurd h
  kept_known (Of fault.BadWords) h = absurd h
  kept_known (Of fault.ReadFailed) h = absurd h
  kept_known (Of fault.WriteFailed) h = (2, lit< tt, refl)
  kept_known (Of fault.NoMemory) h = (3, lit< tt, refl)
  kept_known (Of (fault.Limit w)) h = absurd h
  kept_known (Of (fault.BadConfig n)) h = (4, lit< tt, refl)
  kept_known Unheard h = (5, lit< tt, refl)
  kept_known KeeperFailed h = (6, lit< tt, refl)

  pub stands_kept : (words : List (List ℕ)) (s : Serving) → IsServingKept words s → (why : Unserved)
      → IsWhyUnservedKept kept why → StandsServingKept words kept why
  stands_kept words s is (Of (fault.BadInput n)) h = absurd h
  stands_kept words s is (Of fault.BadWords) h = absurd h
  stands_kept words s is (Of fault.ReadFailed) h = absurd h
  stands_kept words s is (Of fault.WriteFailed) h = ((s, is), h)
  stands_kept words s is (Of fault.NoMemory) h = ((s, is), h)
  stands_kept words s is (Of (fault.Limit w)) h = absurd h
  stands_kept words s is (Of (fault.BadConfig n)) h = ((s, is), h)
  stands_kept words s is Unheard h = ((s, is), h)
  stands_kept words s is KeeperFailed h = ((s, is), h)

-- that the keeper failed isn't a cause that comes of serving itself
pub never_of_keeper : IsServingFault KeeperFailed → ⊥
never_of_keeper h = h
