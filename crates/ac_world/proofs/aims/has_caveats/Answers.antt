use Rattle.std.proofs.Common.{length, nat_lt, ap, ◌∙◌}
use Rattle.ac_world.proofs.Bare.{is_longer}
use Rattle.ac_world.proofs.aims.has_caveats.Goals as goal

pub returns-in-Seq : goal.returns-in-Seq
returns-in-Seq c =
    rw (← c.reference.view_is, c.in-Seq.is)
    (ap (λ xs. nat_lt 2 (length xs)) c.as_slice.ensures.same ∙ is_longer c.in-Seq.items)
