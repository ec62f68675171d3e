use Rattle.ds_small.proofs.Sets.{seen, none_ordered, one_ordered}
use Rattle.ds_small.proofs.set.SmallSet.held.Goals as goal

pub returns-in-Nothing-clause-ordered : goal.returns-in-Nothing-clause-ordered
returns-in-Nothing-clause-ordered c = none_ordered _ (seen _ _ _ c.in-Nothing.is c.self.view_is)

pub returns-in-One-clause-ordered : goal.returns-in-One-clause-ordered
returns-in-One-clause-ordered c = one_ordered _ _ (seen _ _ _ c.in-One.is c.self.view_is)
