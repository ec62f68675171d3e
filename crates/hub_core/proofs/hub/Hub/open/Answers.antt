-- A connection that comes leaves a valid state.
use Rattle.std.proofs.Common.{subst, sym, ◌≤◌, ◌<◌, ◌^◌, arith}
use Rattle.hub_core.proofs.Keeping.{kept_with, opened_valid, left_opened}
use Rattle.hub_core.proofs.hub.Hub.open.Goals as goal

pub invariant_of-hub : goal.invariant_of-hub
invariant_of-hub g c =
    let before : c.self.inside.world.opened < 2 ^ 31 =
    subst (λ s. s.world.opened < 2 ^ 31) (sym c.self.view_is) c.requires.few in
    let small : c.in_ok-world.number ≤ 2 ^ 31 = omega (arith, c.in_ok-world.ensures.number, before) in
    kept_with c.in_ok-world.number c.self.inside.unchecked c.and.result c.self.inside.world c.in_ok-world.world
    c.self.inside.connections.entries
    c.insert.new.self.entries c.self.inside.faults.entries c.in_ok-new.field-0 c.in_ok-insert.ensures.entries small
    c.self.invariant
    (opened_valid c.args.space c.in_ok-world.number c.from.result c.in_ok-first.first c.self.inside.world
    c.in_ok-world.world c.self.inside.connections.entries c.in_ok-new.field-0 c.requires.space before
    c.in_ok-world.ensures.world c.in_ok-world.ensures.number c.from.ensures c.in_ok-first.ensures
    c.in_ok-new.ensures c.self.invariant.2)
    (left_opened c.args.space c.in_ok-world.number c.from.result c.in_ok-first.first c.self.inside.unchecked c.and.result
    c.self.inside.world c.in_ok-world.world c.self.inside.connections.entries c.in_ok-new.field-0
    c.in_ok-world.ensures.world c.in_ok-world.ensures.number c.from.ensures c.in_ok-first.ensures
    c.in_ok-new.ensures c.and.ensures c.self.invariant.3)
