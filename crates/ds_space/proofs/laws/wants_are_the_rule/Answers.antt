use Rattle.ds_space.specs.Lemmas.Lists.{wants_are_the_rule}
use Rattle.ds_space.proofs.laws.wants_are_the_rule.Goals as goal

pub returns : goal.returns
returns c = wants_are_the_rule
