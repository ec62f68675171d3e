use Rattle.ac_world.proofs.gatekeeper.GatekeeperSystem.apply.Goals as goal

pub returns-in-Add-clause-applied : goal.returns-in-Add-clause-applied
returns-in-Add-clause-applied g c = rw c.in-Add.is c.add.ensures.applied

pub returns-in-Gone-clause-applied : goal.returns-in-Gone-clause-applied
returns-in-Gone-clause-applied g c = rw c.in-Gone.is c.remove.ensures.applied
