use Rattle.std.proofs.Common.{arith, sym}
use Rattle.ac_world.proofs.Shapes.{no_asker}
use Rattle.ac_world.proofs.gatekeeper.asks.Goals as goal

pub returns-in_default-fields : goal.returns-in_default-fields
returns-in_default-fields c =
    rw c.in-Some.ensures (sym (no_asker c.in-Some.word.now c.in-Some.fields.now
    (λ e. omega (arith, e, c.in_default-fields.len_below))))

pub returns-in_default-fields-2 : goal.returns-in_default-fields-2
returns-in_default-fields-2 c =
    rw c.in-Some.ensures (sym (no_asker c.in-Some.word.now c.in-Some.fields.now
    (λ e. omega (arith, e, c.in_default-fields.len_at_least))))
