-- The goals of `attenuated_references_are_caps` that the check leaves.
use Rattle.rl_wire.specs.Lemmas.Attenuating.{with_caveats_is_cap}
use Rattle.rl_wire.proofs.laws.attenuated_references_are_caps.Goals as goal

pub returns : goal.returns
returns c = with_caveats_is_cap
