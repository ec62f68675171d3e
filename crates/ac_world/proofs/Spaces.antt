-- What a space does is what a dataspace does among the system actors.
use Rattle.std.proofs.Common.{◌≡◌, List}
use Rattle.pv_value.specs.Plain.{Plain}
use Rattle.ps_schema.specs.declared.Definition.{Definition}
use Rattle.ds_space.specs.Spaces.{Fits}
use Rattle.ds_space.specs.declared.space.SpaceEvent.{SpaceEvent}
use Rattle.ds_space.specs.declared.space.SpaceEvent.TheVariants.{Add, Gone}
use Rattle.ds_space.specs.declared.space.Change.{Change}
use Rattle.ds_space.specs.Changes.{AreChanges, changes}
use Rattle.ds_space.specs.Wants.{wants, wanted_weight}
use Rattle.ds_space.specs.Lemmas.Exact.{changes_exact}
use Rattle.ac_world.specs.Behaviours.{dataspace}

pub fits_by : (ds : List Definition) (vs : List Plain) (e : SpaceEvent) → Fits wanted_weight vs e
    → Fits (dataspace ds).weight vs e
fits_by ds vs (Add n v) fits = fits
fits_by ds vs (Gone n) fits = tt

-- its changes are those between what is wanted before and after
pub exact : (old new : List Plain) (cs : List Change) → AreChanges old new cs → cs ≡ changes (wants old) (wants new)
exact old new cs are = changes_exact old new cs are
