use Rattle.ds_space.specs.Lemmas.Lists.{wants_ascend}
use Rattle.ds_space.proofs.laws.wants_are_in_order.Goals as goal

pub returns-clause-whole : goal.returns-clause-whole
returns-clause-whole c = wants_ascend
