use Rattle.std.proofs.Common.{ap, map, arith}
use Rattle.std.specs.Prelude.{unwrap_or}
use Rattle.pv_value.specs.Plain.{plains}
use Rattle.pv_value.specs.Weight.{canonical_size, sizes_with}
use Rattle.rl_packet.specs.Packets.{Newer, aimed_value, packet_value}
use Rattle.rl_packet.proofs.Sizes.{turn_size, error_size, nop_size}
use Rattle.rl_packet.proofs.writing.size_of.Goals as goal

pub returns-in-Turn : goal.returns-in-Turn
returns-in-Turn c =
    omega (
      arith,
      ap (λ p. canonical_size (packet_value p)) c.in-Turn.is,
      turn_size c.in-Turn.turn,
      ap (λ d. sizes_with 0 (plains (map (aimed_value d) c.as_slice.result.now))) c.written_dialect.ensures,
      ap (λ es. sizes_with 0 (plains (map (aimed_value (unwrap_or c.in-Turn.turn.dialect Newer)) es)))
          c.as_slice.ensures.events,
      c.events_size.ensures,
      c.saturating_add.ensures,
    )

pub returns-in-Error : goal.returns-in-Error
returns-in-Error c =
    omega (
      arith,
      ap (λ p. canonical_size (packet_value p)) c.in-Error.is,
      error_size c.in-Error.message c.in-Error.detail,
      c.canonical_size.ensures,
      c.canonical_size-in-Error.ensures,
      c.saturating_add-in-Error.ensures,
      c.saturating_add-in-Error-2.ensures,
    )

pub returns-in-Nop : goal.returns-in-Nop
returns-in-Nop c = omega (arith, ap (λ p. canonical_size (packet_value p)) c.in-Nop.is, nop_size)
