use Rattle.std.proofs.Common.{arith, sym, ap, length}
use Rattle.std.proofs.lemmas.Bool.{ltb-true, ltb-false}
use Rattle.ac_world.proofs.Shapes.{no_aim}
use Rattle.ac_world.proofs.readings.Readings.aim_of.Goals as goal
use Rattle.ac_world.proofs.readings.Readings.aim_of.Goals.{in_default-as_slice-via-then-as_slice-lt2}
use Rattle.ac_world.proofs.readings.Readings.aim_of.Goals.{in_default-as_slice-via-else-as_slice-lt2+else-this-lt3}

pub returns-in_default-as_slice : goal.returns-in_default-as_slice
returns-in_default-as_slice g c =
    rw (← c.key.view_is, c.in-Seq.is)
    (sym (no_aim (g.J.Judge.schema c.args.judge.now) c.in-Seq.items (λ e. elim c.in_default-as_slice.branch [
      | in_default-as_slice-via-then-as_slice-lt2 w ↦ omega (arith, ltb-true, ap length c.as_slice.ensures.same)
      | in_default-as_slice-via-else-as_slice-lt2+else-this-lt3 w ↦ omega
          (arith, ltb-false, ap length c.as_slice.ensures.same)
    ])))
