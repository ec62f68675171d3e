-- A reference that may be bound leaves a valid state.
use Rattle.std.proofs.Common.{rules, ◌≡◌, false, subst, sym, ◌∙◌}
use Rattle.hub_machine.specs.State.{State}
use Rattle.hub_machine.specs.Machine.{is_barred}
use Rattle.hub_core.proofs.Keeping.{kept_bound}
use Rattle.hub_core.proofs.hub.Hub.bind.Goals as goal

pub invariant_of-hub : goal.invariant_of-hub
invariant_of-hub g c =
    let s : State = record {
      world = c.self.inside.world;
      connections = c.self.inside.connections.entries;
      faults = c.self.inside.faults.entries;
      stopped = c.self.inside.stopped;
    } in
    let free : is_barred c.args.binding s ≡ false =
    subst (λ (x : State). is_barred c.args.binding x ≡ false) (sym c.self.view_is)
    (sym c.in_ok-is_barred.ensures ∙ c.if-branch.false) in
    kept_bound c.args.binding c.self.inside.unchecked s c.in_ok-bind.field-0 (search rules) free c.in_ok-bind.ensures
    c.self.invariant
