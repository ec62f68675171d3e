-- The busy actors that are connections with names are those for which a batch waits.
use Rattle.std.proofs.Common.{false, get_or, ◌||◌, ◌∙◌, ap}
use Rattle.hub_machine.specs.State.{State}
use Rattle.hub_core.proofs.Waited.{classes_from}
use Rattle.hub_core.proofs.hub.Hub.mark_waiting.Goals as goal

pub loop-actor-init : goal.loop-actor-init
loop-actor-init g c p few =
    let s : State = record {
      world = c.self.inside.world;
      connections = c.self.inside.connections.entries;
      faults = c.self.inside.faults.entries;
      stopped = c.self.inside.stopped;
    } in
    ap (λ b. b || get_or c.args.classes.now p false)
    (classes_from p c.into_iter-actor-iterator.result c.busy.result.now.keys s c.args.self.now
    (c.into_iter-actor-iterator.ensures.into_iter_gives ∙ c.iter-actor-items.ensures.rest) c.self.view_is
    c.keeps_its_order.ensures c.iter-actor-items.ensures.ordered c.busy.ensures)
