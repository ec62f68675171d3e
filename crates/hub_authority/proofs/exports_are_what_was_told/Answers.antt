use Rattle.hub_authority.proofs.InForce.{are_in_force}
use Rattle.hub_authority.proofs.Runs.{are_its_own}
use Rattle.hub_authority.proofs.exports_are_what_was_told.Goals as goal

pub returns-clause-told : goal.returns-clause-told
returns-clause-told c = are_its_own

pub returns-clause-in_force : goal.returns-clause-in_force
returns-clause-in_force c = are_in_force
