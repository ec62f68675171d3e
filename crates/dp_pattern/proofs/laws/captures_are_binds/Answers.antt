use Rattle.dp_pattern.proofs.Gathering.{captures_binds}
use Rattle.dp_pattern.proofs.laws.captures_are_binds.Goals as goal

pub returns : goal.returns
returns c = captures_binds
