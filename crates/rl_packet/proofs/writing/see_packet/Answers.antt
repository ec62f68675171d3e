use Rattle.std.proofs.Common.{sym, subst}
use Rattle.pv_value.specs.WellFormed.{IsWellFormed}
use Rattle.rl_packet.specs.Packets.{Packet, packet_value}
use Rattle.rl_packet.proofs.Sound.{error_sound}
use Rattle.rl_packet.proofs.writing.see_packet.Goals as goal

pub returns-in-Error : goal.returns-in-Error
returns-in-Error c =
    subst (λ (p : Packet). IsWellFormed (packet_value p)) (sym c.in-Error.is)
    (error_sound c.in-Error.message c.in-Error.detail (subst IsWellFormed c.message.view_is c.message.invariant)
    (subst IsWellFormed c.detail.view_is c.detail.invariant))
