-- What is so of the watchers that were made.
use Rattle.std.specs.Prelude.{◌≡◌, ◌≢◌, ◌≤◌, false, List, length, Some}
use Rattle.std.specs.List.{AllByRecursion}
use Rattle.sr_caveat.specs.Embedded.{has_embedded}
use Rattle.dp_pattern.specs.Patterns.{Pattern}
use Rattle.dp_pattern.specs.Written.{pattern_of}
use Rattle.ac_world.specs.declared.watched.Watched.{Watched}
use Rattle.hub_limits.specs.Barring.{IsSpaceNumber, IsBehaviour}

-- a watcher watches at a dataspace what a pattern is, asserts at a dataspace, and has a behaviour that is known
pub record IsFineWatch (x : Watched) : Type 0 where
  pub from : IsSpaceNumber x.from
  pub to : IsSpaceNumber x.to
  pub name : IsBehaviour x.name
  pub pattern : (p : Pattern) × (pattern_of x.pattern ≡ Some p)
  pub nothing_embedded : has_embedded x.pattern ≡ false

-- no dataspace is both watched and asserted at, be it by one watcher or by two
abbrev pub AreNotJoined : List Watched → Type 0
AreNotJoined ws = AllByRecursion (λ x. AllByRecursion (λ y. x.from ≢ y.to) ws) ws

pub record AreFineWatches (ws : List Watched) : Type 0 where
  pub each : AllByRecursion IsFineWatch ws
  pub apart : AreNotJoined ws
  pub few : length ws ≤ 8
