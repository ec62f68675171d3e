-- A connection that names objects leaves a valid state, as the call asks.
use Rattle.std.proofs.Common.{subst, sym}
use Rattle.ac_world.specs.Worlds.{with_entry}
use Rattle.hub_machine.specs.State.{State}
use Rattle.hub_valid.specs.Validity.{IsValid}
use Rattle.hub_core.proofs.Keeping.{kept_with, left_named}
use Rattle.hub_core.proofs.hub.Hub.name.Goals as goal

pub invariant_of-self : goal.invariant_of-self
invariant_of-self g c =
    kept_with c.args.connection c.self.inside.unchecked c.and-self-inside.result c.self.inside.world
    c.self.inside.world c.self.inside.connections.entries
    c.insert.new.self.entries c.self.inside.faults.entries c.args.ports c.in_ok-insert.ensures.entries
    c.requires.small c.self.invariant
    (subst (λ (s : State). IsValid s
    → IsValid (record s { connections = with_entry c.args.connection c.args.ports s.connections }))
    (sym c.self.view_is) c.requires.valid c.self.invariant.2)
    (left_named c.args.connection c.args.ports c.self.inside.unchecked c.and-self-inside.result c.self.inside.world
    c.self.inside.connections.entries c.and-self-inside.ensures c.self.invariant.3)
