use Rattle.std.proofs.Common.{arith, length-take, length-drop, ℕ, ◌∙◌}
use Rattle.std.proofs.lemmas.Grind.{common_steps}
use Rattle.out_ports.proofs.Parts.{Appends-front}
use Rattle.out_ports.proofs.streams.write_all.Goals as goal

pub loop-at-preserved : goal.loop-at-preserved
loop-at-preserved g c =
    let size = c.in-Some.ensures.size in record {
      in_range = omega (arith, length-take {A = ℕ}, length-drop {A = ℕ});
      written = Appends-front _ _ _ _ _ _ _ c.loop-at.invariant.written c.in-Some.ensures.content
          (grind (arith, common_steps));
      lasting = omega arith;
      unfinished = c.in-Some.ensures.unfinished ∙ c.loop-at.invariant.unfinished;
    }
