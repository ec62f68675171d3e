-- What a packet does leaves a valid state, as the call asks.
use Rattle.std.proofs.Common.{subst, sym}
use Rattle.hub_machine.specs.State.{State}
use Rattle.hub_machine.specs.Machine.{accepted}
use Rattle.hub_valid.specs.Validity.{IsValid}
use Rattle.hub_core.proofs.Keeping.{kept_with}
use Rattle.hub_core.proofs.Looking.{left_sent}
use Rattle.hub_core.proofs.hub.Hub.accept.Goals as goal

pub invariant_of-result : goal.invariant_of-result
invariant_of-result g c =
    let valid = subst (λ (s : State). IsValid s → IsValid (accepted c.args.connection c.args.admitting s))
    (sym c.self.view_is) c.requires.valid c.self.invariant.2 in
    kept_with c.args.connection c.self.inside.unchecked c.and_acted-unchecked.result c.self.inside.world
    c.in_ok-world.world c.self.inside.connections.entries c.insert.new.self.entries c.self.inside.faults.entries
    c.into_parts-acts.result.1 c.in_ok-insert.ensures.entries c.requires.small c.self.invariant
    (rw (c.in_ok-world.ensures, c.into_parts-acts.ensures.acts, c.into_parts-acts.ensures.ports) valid)
    (left_sent c.args.connection c.args.admitting c.self.inside.unchecked c.and_acted-unchecked.result
    c.self.inside.world c.in_ok-world.world c.self.inside.connections.entries c.deref.result.now
    c.into_parts-acts.result.0.items c.into_parts-acts.result.1 c.in_ok-world.ensures c.and_acted-unchecked.ensures
    c.deref.ensures.value c.into_parts-acts.ensures.acts c.into_parts-acts.ensures.ports c.self.invariant.3)
