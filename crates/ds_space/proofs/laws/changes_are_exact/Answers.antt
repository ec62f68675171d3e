use Rattle.ds_space.specs.Lemmas.Exact.{changes_exact}
use Rattle.ds_space.proofs.laws.changes_are_exact.Goals as goal

pub returns : goal.returns
returns c = changes_exact
