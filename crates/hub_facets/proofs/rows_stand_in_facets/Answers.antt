use Rattle.hub_facets.proofs.LawsHold.{rooms, roots}
use Rattle.hub_facets.proofs.rows_stand_in_facets.Goals as goal

pub returns-clause-rooms : goal.returns-clause-rooms
returns-clause-rooms c = rooms

pub returns-clause-roots : goal.returns-clause-roots
returns-clause-roots c = roots
