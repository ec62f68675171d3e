-- What is pinned is in force, and so was given.
use Rattle.std.proofs.Common.{◌<◌, subst}
use Rattle.std.specs.List.{AllByRecursion}
use Rattle.rl_ports.specs.Ports.{AreGiven, PortsState}
use Rattle.rl_ports.proofs.Counts.{pins_given}
use Rattle.rl_ports.proofs.Entries.{keys_shown}
use Rattle.rl_ports.proofs.ports.Ports.next_oid.Goals as goal

pub returns-clause-pinned : goal.returns-clause-pinned
returns-clause-pinned c =
    let x = c.self.inside.exports in
    subst (λ (p : PortsState). AreGiven p.exports.next p.pinned) c.self.view_is
    (pins_given x.next x.kept (subst (AllByRecursion (λ k. k < x.next)) (keys_shown x.kept)
    c.next.ensures.numbered.given))
