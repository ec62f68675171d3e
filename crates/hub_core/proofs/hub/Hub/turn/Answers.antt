-- A turn leaves a valid state, and takes a batch that is valid in it.
use Rattle.std.proofs.Common.{◌<◌, ◌^◌, subst, sym}
use Rattle.hub_machine.specs.State.{State}
use Rattle.hub_core.proofs.Keeping.{kept_turned}
use Rattle.hub_core.proofs.Turning.{told_soundly}
use Rattle.hub_core.proofs.hub.Hub.turn.Goals as goal

pub invariant_of-hub : goal.invariant_of-hub
invariant_of-hub g c =
    kept_turned c.args.actor c.in_ok-world.turned c.self.inside.unchecked c.and_turned-unchecked.result
    c.self.inside.world c.in_ok-world.world c.self.inside.connections.entries c.self.inside.faults.entries
    c.in_ok-world.ensures.world c.in_ok-world.ensures.turned c.and_turned-unchecked.ensures c.self.invariant

pub after_turn-requires : goal.after_turn-requires
after_turn-requires g c =
    let s : State = record {
      world = c.self.inside.world;
      connections = c.self.inside.connections.entries;
      faults = c.self.inside.faults.entries;
      stopped = c.self.inside.stopped;
    } in
    let t : State = record {
      world = c.in_ok-world.world;
      connections = c.self.inside.connections.entries;
      faults = c.self.inside.faults.entries;
      stopped = c.self.inside.stopped;
    } in
    told_soundly c.args.actor s t c.in_ok-world.turned c.self.invariant.2
    (subst (λ (x : State). x.world.table.next < 2 ^ 62) (sym c.self.view_is) c.requires)
    c.in_ok-world.ensures.world c.in_ok-world.ensures.turned
