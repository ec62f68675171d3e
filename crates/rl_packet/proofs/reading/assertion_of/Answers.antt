use Rattle.std.proofs.Common.{arith}
use Rattle.std.proofs.lemmas.Bool.{ltb-true, ltb-false}
use Rattle.pv_words.specs.Words.{number}
use Rattle.rl_packet.specs.Packets.{Assert}
use Rattle.rl_packet.proofs.Refusals.{other_count}
use Rattle.rl_packet.proofs.reading.assertion_of.Goals as goal
use Rattle.rl_packet.proofs.reading.assertion_of.Goals.{in_default-via-then-fields-lt2}
use Rattle.rl_packet.proofs.reading.assertion_of.Goals.{in_default-via-else-fields-lt2+else-fields-lt3}

pub returns-in_default-clause-bad : goal.returns-in_default-clause-bad
returns-in_default-clause-bad c =
    λ d.
    other_count d (Assert (number 0) 0) c.args.fields.now
    (λ e. elim c.in_default.branch [
      | in_default-via-then-fields-lt2 w ↦ omega (arith, ltb-true)
      | in_default-via-else-fields-lt2+else-fields-lt3 w ↦ omega (arith, ltb-false)
    ])
