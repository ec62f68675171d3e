use Rattle.std.proofs.Common.{sym, ◌∙◌, arith}
use Rattle.std.proofs.lemmas.Bool.{ltb-true, ltb-false}
use Rattle.rl_packet.proofs.Refusals.{no_two_parts, is_error}
use Rattle.rl_packet.proofs.reading.error_parts.Goals as goal
use Rattle.rl_packet.proofs.reading.error_parts.Goals.{in_default-fields-via-then-fields-lt2}
use Rattle.rl_packet.proofs.reading.error_parts.Goals.{in_default-fields-via-else-fields-lt2+else-fields-lt3}

pub returns-in_default-fields : goal.returns-in_default-fields
returns-in_default-fields c =
    no_two_parts c.args.value.now c.in-Some.word.now c.in-Some.fields.now c.in-Some.ensures
    (λ e. elim c.in_default-fields.branch [
      | in_default-fields-via-then-fields-lt2 w ↦ omega (arith, ltb-true)
      | in_default-fields-via-else-fields-lt2+else-fields-lt3 w ↦ omega (arith, ltb-false)
    ])

pub returns-then-is_string : goal.returns-then-is_string
returns-then-is_string c = (
  sym c.is_string.ensures ∙ c.if-is_string.true,
  is_error c.args.value.now c.message-item.result c.detail-item.result c.in-Some.word.now c.in-Some.fields.now
      c.in-Some.ensures (sym c.is_word.ensures ∙ c.if-is_word.true)
      (omega (arith, c.in-len2.len_at_least, c.in-len2.len_below)) c.message-item.is c.detail-item.is,
)
