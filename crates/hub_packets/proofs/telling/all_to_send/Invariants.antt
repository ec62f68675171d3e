-- The events so far are told, and those that are left lead to what all lead to.
use Rattle.hub_packets.proofs.Tellings.{AreTold}
use Rattle.hub_packets.proofs.telling.all_to_send.Given as goal

abbrev pub invariant-loop-told : goal.invariant-loop-told
invariant-loop-told l =
    AreTold l.connection l.fn.ports l.fn.events l.ports l.sent.items l.told-iterator.rest.items
