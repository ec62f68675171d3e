use Rattle.std.proofs.Common.{arith}
use Rattle.std.proofs.lemmas.Bool.{ltb-true, ltb-false}
use Rattle.pv_words.specs.Words.{number}
use Rattle.rl_packet.specs.Packets.{Sync}
use Rattle.rl_packet.proofs.Refusals.{other_count}
use Rattle.rl_packet.proofs.reading.sync_of.Goals as goal
use Rattle.rl_packet.proofs.reading.sync_of.Goals.{in_default-via-then-fields-lt1}
use Rattle.rl_packet.proofs.reading.sync_of.Goals.{in_default-via-else-fields-lt1+else-fields-lt2}

pub returns-in_default-clause-bad : goal.returns-in_default-clause-bad
returns-in_default-clause-bad c =
    λ d.
    other_count d (Sync (number 0)) c.args.fields.now
    (λ e. elim c.in_default.branch [
      | in_default-via-then-fields-lt1 w ↦ omega (arith, ltb-true)
      | in_default-via-else-fields-lt1+else-fields-lt2 w ↦ omega (arith, ltb-false)
    ])
