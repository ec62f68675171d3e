use Rattle.std.proofs.Common.{ℕ, List, length, ap, arith}
use Rattle.pv_value.specs.Weight.{canonical_size}
use Rattle.rl_packet.specs.Packets.{event_value}
use Rattle.rl_packet.proofs.Sizes.{asserted_size, retracted_size, said_size, synced_size}
use Rattle.rl_packet.proofs.writing.event_size.Goals as goal

pub returns-in-Assert : goal.returns-in-Assert
returns-in-Assert c =
    omega (
      arith,
      ap (λ e. canonical_size (event_value c.args.dialect e)) c.in-Assert.is,
      asserted_size c.args.dialect c.in-Assert.value c.in-Assert.handle,
      ap (λ (s : List ℕ). length s) c.assert_word.ensures.word,
      c.canonical_size.ensures,
      c.number_size.ensures,
      c.saturating_add.ensures,
      c.saturating_add-in-Assert.ensures,
    )

pub returns-in-Retract : goal.returns-in-Retract
returns-in-Retract c =
    omega (
      arith,
      ap (λ e. canonical_size (event_value c.args.dialect e)) c.in-Retract.is,
      retracted_size c.args.dialect c.in-Retract.handle,
      ap (λ (s : List ℕ). length s) c.retract_word.ensures.word,
      c.number_size-in-Retract.ensures,
      c.saturating_add-in-Retract.ensures,
    )

pub returns-in-Message : goal.returns-in-Message
returns-in-Message c =
    omega (
      arith,
      ap (λ e. canonical_size (event_value c.args.dialect e)) c.in-Message.is,
      said_size c.args.dialect c.in-Message.body,
      ap (λ (s : List ℕ). length s) c.message_word.ensures.word,
      c.canonical_size-in-Message.ensures,
      c.saturating_add-in-Message.ensures,
    )

pub returns-in-Sync : goal.returns-in-Sync
returns-in-Sync c =
    omega (
      arith,
      ap (λ e. canonical_size (event_value c.args.dialect e)) c.in-Sync.is,
      synced_size c.args.dialect c.in-Sync.peer,
      ap (λ (s : List ℕ). length s) c.sync_word.ensures.word,
      c.canonical_size-in-Sync.ensures,
      c.saturating_add-in-Sync.ensures,
    )
