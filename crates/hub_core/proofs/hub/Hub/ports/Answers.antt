-- A connection that names something has a small number.
use Rattle.std.proofs.Common.{ap, sym, ◌∙◌, option_copied, arith, ◌≤◌, ◌^◌}
use Rattle.hub_core.proofs.Small.{small_at}
use Rattle.hub_core.proofs.hub.Hub.ports.Goals as goal

pub overflow_add-connection : goal.overflow_add-connection
overflow_add-connection g c =
    let small : c.args.connection ≤ 2 ^ 31 =
    small_at c.args.connection c.self.inside.connections.entries _ c.self.invariant.0
    (sym c.get.ensures.value ∙ ap option_copied c.in_ok-ports.was) in
    omega arith

pub returns-then-live-clause-small : goal.returns-then-live-clause-small
returns-then-live-clause-small g c =
    small_at c.args.connection c.self.inside.connections.entries _ c.self.invariant.0
    (sym c.get.ensures.value ∙ ap option_copied c.in_ok-ports.was)
