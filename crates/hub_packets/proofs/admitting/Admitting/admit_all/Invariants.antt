-- The events so far are admitted, and have drawn a handle each at most.
use Rattle.std.proofs.Common.{◌≡◌, ◌≤◌, ◌+◌, drop}
use Rattle.hub_machine.specs.Admission.{all_admitted}
use Rattle.hub_packets.proofs.admitting.Admitting.admit_all.Given as goal

abbrev pub invariant-loop-event : goal.invariant-loop-event
invariant-loop-event g l =
    (all_admitted l.connection l.world (drop l.event-index l.events) l.self
    ≡ all_admitted l.connection l.world l.events l.fn.self)
    × (l.self.next ≤ l.fn.self.next + l.event-index)
