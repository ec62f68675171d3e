use Rattle.rl_stream.proofs.nexts.packet_or_not.Goals as goal

pub returns-in-Err-BadPacket : goal.returns-in-Err-BadPacket
returns-in-Err-BadPacket c =
    let none = rw c.in-Err-BadPacket.field-0-is at c.in-Err-BadPacket.ensures.bad in
    λ rest place begins. (c.args.size, (c.args.value.now, begins, none))
