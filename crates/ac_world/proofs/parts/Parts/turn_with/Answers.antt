use Rattle.ac_world.proofs.parts.Parts.turn_with.Goals as goal

pub returns-then-actor-eq-GATEKEEPER-clause-world :
    goal.returns-then-actor-eq-GATEKEEPER-clause-world
returns-then-actor-eq-GATEKEEPER-clause-world g c =
    rw c.if-actor-eq-GATEKEEPER.true c.gatekeeper_turn.ensures.world

pub returns-then-actor-eq-GATEKEEPER-clause-turned :
    goal.returns-then-actor-eq-GATEKEEPER-clause-turned
returns-then-actor-eq-GATEKEEPER-clause-turned g c =
    rw c.if-actor-eq-GATEKEEPER.true c.gatekeeper_turn.ensures.turned
