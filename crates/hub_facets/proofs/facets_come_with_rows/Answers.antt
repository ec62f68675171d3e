use Rattle.hub_facets.proofs.LawsHold.{comings, nothings}
use Rattle.hub_facets.proofs.facets_come_with_rows.Goals as goal

pub returns-clause-rows : goal.returns-clause-rows
returns-clause-rows c = comings

pub returns-clause-nothing : goal.returns-clause-nothing
returns-clause-nothing c = nothings
