use Rattle.hub_laws.proofs.LawsHold.{got_in_full}
use Rattle.hub_laws.proofs.what_stands_is_got.Goals as goal

pub returns : goal.returns
returns c = got_in_full
