use Rattle.std.proofs.Common.{◌≡◌}
use Rattle.ac_world.specs.Worlds.{first_actors}
use Rattle.ac_world.proofs.parts.first_table.Given as goal

-- the actors so far are live
abbrev pub invariant-loop-actor : goal.invariant-loop-actor
invariant-loop-actor l = l.table ≡ first_actors l.actor
