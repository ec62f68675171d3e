use Rattle.hub_facets.proofs.Trees.{leavings}
use Rattle.hub_facets.proofs.facets_end_with_actors.Goals as goal

pub returns : goal.returns
returns c = leavings
