-- What a cause says of the words, and which statuses come.
use Rattle.std.proofs.Common.{◌≡◌, ℕ, List, Contains, lit<, refl, arith}
use Rattle.dsd_top.specs.Schemas.{Files}
use Rattle.dsd_top.specs.declared.faults.Fault.TheVariants as fault
use Rattle.dsd_serve.specs.Causes.{serve_statuses, status_for, IsWhyUnserved, StandsServing, IsServingFault}
use Rattle.dsd_config.specs.Configs.{IsBadConfigAt}
use Rattle.dsd_serve.specs.Serving.{Serving, IsServing}
use Rattle.dsd_serve.specs.declared.unserved.Unserved.{Unserved}
use Rattle.dsd_serve.specs.declared.unserved.Unserved.TheVariants.{Of, Unheard, KeeperFailed}

module _ (s : Serving) (files : Files) where
  pub why_known : (why : Unserved) → IsWhyUnserved s files why → Contains serve_statuses (status_for why)
  why_known (Of (fault.BadInput n)) h = absurd h
  why_known (Of fault.BadWords) h = absurd h
  why_known (Of fault.ReadFailed) h = (2, lit< tt, refl)
  why_known (Of fault.WriteFailed) h = (3, lit< tt, refl)
  why_known (Of fault.NoMemory) h = (4, lit< tt, refl)
  why_known (Of (fault.Limit w)) h = absurd h
  why_known (Of (fault.BadConfig n)) h = (5, lit< tt, refl)
  why_known Unheard h = (6, lit< tt, refl)
  why_known KeeperFailed h = absurd h

  pub stands : (words : List (List ℕ)) → IsServing words s → (why : Unserved) → IsWhyUnserved s files why
      → StandsServing words files why
  stands words is (Of (fault.BadInput n)) h = absurd h
  stands words is (Of fault.BadWords) h = absurd h
  stands words is (Of fault.ReadFailed) h = (s, is, h)
  stands words is (Of fault.WriteFailed) h = (s, is, h)
  stands words is (Of fault.NoMemory) h = (s, is, h)
  stands words is (Of (fault.Limit w)) h = absurd h
  stands words is (Of (fault.BadConfig n)) h = (s, is, h)
  stands words is Unheard h = (s, is, h)
  stands words is KeeperFailed h = absurd h

  -- at status 7 it is a configuration that is refused
  pub refused_config : (why : Unserved) → IsWhyUnserved s files why → status_for why ≡ 7
      → (n : ℕ) × IsBadConfigAt files s.file n
  refused_config (Of (fault.BadInput n)) h e = absurd h
  refused_config (Of fault.BadWords) h e = absurd h
  refused_config (Of fault.ReadFailed) h e = absurd (omega (arith, e))
  refused_config (Of fault.WriteFailed) h e = absurd (omega (arith, e))
  refused_config (Of fault.NoMemory) h e = absurd (omega (arith, e))
  refused_config (Of (fault.Limit w)) h e = absurd h
  refused_config (Of (fault.BadConfig n)) h e = (n, h)
  refused_config Unheard h e = absurd (omega (arith, e))
  refused_config KeeperFailed h e = absurd h

  -- a cause that comes of serving itself
  pub served_why : (why : Unserved) → IsServingFault why → IsWhyUnserved s files why
  served_why (Of (fault.BadInput n)) h = absurd h
  served_why (Of fault.BadWords) h = absurd h
  served_why (Of fault.ReadFailed) h = absurd h
  served_why (Of fault.WriteFailed) h = tt
  served_why (Of fault.NoMemory) h = tt
  served_why (Of (fault.Limit w)) h = absurd h
  served_why (Of (fault.BadConfig n)) h = absurd h
  served_why Unheard h = tt
  served_why KeeperFailed h = absurd h

-- that a file can't be read isn't one of them
pub never_unread : IsServingFault (Of fault.ReadFailed) → ⊥
never_unread h = h
