-- The busy actors that are connections with names are those for which a batch waits.
use Rattle.std.proofs.Common.{List, ℕ, ◌++◌, ◌∙◌, ap}
use Rattle.hub_machine.specs.State.{State}
use Rattle.hub_core.proofs.Waited.{each_named, waited_from}
use Rattle.hub_core.proofs.hub.Hub.waited_for.Goals as goal

pub loop-actor-init : goal.loop-actor-init
loop-actor-init g c =
    let s : State = record {
      world = c.self.inside.world;
      connections = c.self.inside.connections.entries;
      faults = c.self.inside.faults.entries;
      stopped = c.self.inside.stopped;
    } in
    ap (λ (ks : List ℕ). ks ++ each_named c.into_iter-actor-iterator.result c.args.self.now) c.new-numbers.ensures.items
    ∙ waited_from c.into_iter-actor-iterator.result c.busy.result.now.keys s c.args.self.now
    (c.into_iter-actor-iterator.ensures.into_iter_gives ∙ c.iter-actor-items.ensures.rest) c.self.view_is
    c.keeps_its_order.ensures c.iter-actor-items.ensures.ordered c.busy.ensures
