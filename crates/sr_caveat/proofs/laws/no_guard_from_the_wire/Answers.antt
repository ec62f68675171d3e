-- The goals of `no_guard_from_the_wire` that the check leaves.
use Rattle.sr_caveat.proofs.Guardless.{no_guard}
use Rattle.sr_caveat.proofs.laws.no_guard_from_the_wire.Goals as goal

pub returns : goal.returns
returns c = no_guard
