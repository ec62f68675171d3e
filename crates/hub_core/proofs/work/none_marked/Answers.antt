use Rattle.std.proofs.Common.{false}
use Rattle.std.proofs.lemmas.List.{get_or-replicate}
use Rattle.hub_core.proofs.work.none_marked.Goals as goal

pub returns : goal.returns
returns c p few = get_or-replicate 64 p false false few
