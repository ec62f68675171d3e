use Rattle.pv_value.specs.Lemmas.Listed.{listed-plains}
use Rattle.ac_watch.proofs.watching.made_of.Goals as goal

pub returns-in-Seq : goal.returns-in-Seq
returns-in-Seq g c =
    rw (← c.value.view_is, c.in-Seq.is, listed-plains c.in-Seq.captures, ← c.as_bytes.ensures.same) c.behave.ensures
