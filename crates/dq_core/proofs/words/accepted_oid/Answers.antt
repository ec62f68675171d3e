use Rattle.std.proofs.Common.{arith}
use Rattle.std.proofs.lemmas.Bool.{ltb-true, ltb-false}
use Rattle.dq_core.proofs.Shapes.{many_fields}
use Rattle.dq_core.proofs.words.accepted_oid.Goals as goal

pub returns-in_default-3 : goal.returns-in_default-3
returns-in_default-3 c =
    rw c.in_ok-word.ensures
    (many_fields c.in_ok-word.word.now c.in_ok-word.fields.now
    (omega (arith, ltb-true, ltb-false, c.in_default.len_at_least)))
