-- A connection that names nothing any more leaves the rest as it was; and what it named was valid.
use Rattle.std.proofs.Common.{subst}
use Rattle.std.specs.Prelude.{IfSome}
use Rattle.hub_machine.specs.State.{State}
use Rattle.hub_valid.specs.Validity.{lived, IsValidEntry}
use Rattle.hub_core.proofs.Keeping.{kept_without, entry_valid}
use Rattle.hub_core.proofs.hub.Hub.take_ports.Goals as goal

pub invariant_of-self : goal.invariant_of-self
invariant_of-self g c =
    kept_without c.args.connection c.self.inside.unchecked c.self.inside.world c.self.inside.connections.entries
    c.remove.new.self.entries c.self.inside.faults.entries c.remove.ensures.entries c.self.invariant

pub returns-clause-valid : goal.returns-clause-valid
returns-clause-valid g c =
    subst (λ (s : State). IfSome c.remove.result (λ p. IsValidEntry (lived s.world) (c.args.connection, p)))
    c.self.view_is
    (entry_valid c.args.connection c.self.inside.world c.self.inside.connections.entries c.remove.result
    c.self.invariant.2 c.remove.ensures.value)
