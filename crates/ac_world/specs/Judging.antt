-- What is judged of a watcher before it begins.
use Rattle.std.specs.Prelude.{◌≡◌, ◌≢◌, true, false, List, ◌∷◌, None}
use Rattle.std.specs.List.{AllByRecursion}
use Rattle.lc_watch.specs.Behaviours.{is_behaviour}
use Rattle.sr_caveat.specs.Embedded.{has_embedded}
use Rattle.dp_pattern.specs.Written.{pattern_of}
use Rattle.ac_world.specs.declared.watched.Watched.{Watched}
use Rattle.ac_world.specs.Worlds.{is_space}

-- it watches a pattern, in which nothing is embedded, at a dataspace, asserts at a dataspace by a behaviour that is
-- known,
-- and no dataspace would be both watched and asserted at, by itself or with one of those that were made
pub record IsJudged (x : Watched) (made : List Watched) : Type 0 where
  pub from : is_space x.from ≡ true
  pub to : is_space x.to ≡ true
  pub name : is_behaviour x.name ≡ true
  pub pattern : (has_embedded x.pattern ≡ false) × (pattern_of x.pattern ≢ None)
  pub apart : AllByRecursion (λ y. (y.to ≢ x.from) × (y.from ≢ x.to)) (x ∷ made)
