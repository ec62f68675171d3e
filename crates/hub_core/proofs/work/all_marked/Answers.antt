use Rattle.std.proofs.Common.{true, false}
use Rattle.std.proofs.lemmas.List.{get_or-replicate}
use Rattle.hub_core.proofs.work.all_marked.Goals as goal

pub returns : goal.returns
returns c p few = get_or-replicate 64 p true false few
