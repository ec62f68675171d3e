use Rattle.pv_value.specs.Plain.{sequence, plains}
use Rattle.rl_packet.specs.Packets.{Older}
use Rattle.rl_packet.specs.Grammar.{NoneIs, IsTurnOf, AreEventsOf}
use Rattle.rl_packet.proofs.Refusals.{weaker}
use Rattle.rl_packet.proofs.Spoken.{no_turn_of}
use Rattle.rl_packet.proofs.reading.turn_of.Goals as goal

pub returns-in-Err-BadPacket-clause-bad : goal.returns-in-Err-BadPacket-clause-bad
returns-in-Err-BadPacket-clause-bad c =
    let items = c.args.items.now in
    let newer = rw c.in-Err-BadPacket.field-0-is at c.in-Err-BadPacket.ensures.bad in
    weaker (NoneIs (AreEventsOf Older items)) (NoneIs (IsTurnOf (sequence (plains items))))
    c.turn_in_dialect-in-Err-BadPacket.result (λ f older. no_turn_of items f newer older)
    c.turn_in_dialect-in-Err-BadPacket.ensures.bad
