use Rattle.ac_world.proofs.others.OtherDataspaceSystem.fan.Goals as goal

pub returns-in-Space : goal.returns-in-Space
returns-in-Space g c = rw c.in-Space.is c.fan.ensures

pub returns-in-Watcher : goal.returns-in-Watcher
returns-in-Watcher g c = rw c.in-Watcher.is c.fan-in-Watcher.ensures
