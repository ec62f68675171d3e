use Rattle.ac_world.proofs.Numbers.{first_is_new, first_joined}
use Rattle.ac_world.proofs.parts.first_table.Goals as goal

pub add_actor-requires : goal.add_actor-requires
add_actor-requires c = first_is_new c.loop-actor.actor c.loop-actor.table c.loop-actor.invariant

pub loop-actor-preserved : goal.loop-actor-preserved
loop-actor-preserved c =
    first_joined c.loop-actor.actor c.add_actor.new.self c.loop-actor.table c.loop-actor.invariant
    c.in_ok-add_actor.ensures.joined
