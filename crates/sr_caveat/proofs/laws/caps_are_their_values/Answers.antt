-- The goals of `caps_are_their_values` that the check leaves.
use Rattle.sr_caveat.specs.Lemmas.Capped.{cap_is}
use Rattle.sr_caveat.proofs.laws.caps_are_their_values.Goals as goal

pub returns : goal.returns
returns c = cap_is
