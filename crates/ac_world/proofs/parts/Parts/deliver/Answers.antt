use Rattle.std.proofs.Common.{ℕ, List, ap}
use Rattle.ac_world.specs.Keeping.{world_by}
use Rattle.ac_world.specs.Worlds.{WorldState, Deliveries}
use Rattle.ac_world.proofs.Taken.{delivered_is}
use Rattle.ac_world.proofs.parts.Parts.deliver.Goals as goal

pub returns-clause-world : goal.returns-clause-world
returns-clause-world g c =
    let p = c.args.self.now in
    let w : WorldState = world_by g.J.Judge.schema p in
    ap (λ (held : List (ℕ × Deliveries)). record w { held = held })
    (delivered_is c.args.actor c.args.events.now p.held.entries c.remove.new.self.entries
    c.insert.new.self.entries c.remove.result c.deliveries_or_new-got.result c.take_all.new.self
    c.keeps_its_order.ensures c.remove.ensures.entries c.remove.ensures.value c.deliveries_or_new-got.ensures
    c.in_ok-take_all.ensures c.in_ok-insert.ensures.entries)
