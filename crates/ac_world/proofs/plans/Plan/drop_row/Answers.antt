use Rattle.std.proofs.Common.{◌≡◌, true, ap, ◌∙◌, sym}
use Rattle.ac_world.specs.Outboxes.{Plan, owns, dropped}
use Rattle.ac_world.proofs.Dropping.{on_ok, dropped_is}
use Rattle.ac_world.proofs.plans.Plan.drop_row.Goals as goal

pub returns-in-Ok : goal.returns-in-Ok
returns-in-Ok c =
    let owner = c.args.owner in
    let handle = c.args.handle in
    let before : Plan = record { table = c.self.inside.table; out = c.self.inside.out } in
    let after : Plan = record { table = c.retract_row.new.self; out = c.tell.new.self } in
    let own : owns owner handle before.table ≡ true =
    ap (λ (p : Plan). owns owner handle p.table) c.self.view_is ∙ sym c.owns.ensures ∙ c.if-not-owns.false in
    on_ok _ _ c.tell.result (λ is. dropped_is owner handle before after c.in-Ok.row c.in-Ok.ensures.row own
    c.in-Ok.ensures.gone is ∙ ap (dropped owner handle) c.self.view_is) c.tell.ensures
