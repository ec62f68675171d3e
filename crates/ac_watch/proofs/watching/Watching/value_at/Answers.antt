use Rattle.std.proofs.Common.{arith, ap, length, refl}
use Rattle.ac_watch.proofs.Shapes.{no_key}
use Rattle.ac_watch.proofs.watching.Watching.value_at.Goals as goal

pub returns-then-parts-ne2 : goal.returns-then-parts-ne2
returns-then-parts-ne2 g c =
    rw (
      ← c.key.view_is,
      c.in-Seq.is,
      no_key c.args.self.now.name c.in-Seq.parts
          (λ e. omega (arith, ap length c.as_slice-parts.ensures.same, e, c.if-parts-ne2.true)),
    ) refl
