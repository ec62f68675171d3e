use Rattle.std.proofs.Common.{ℕ, ◌∙◌, arith, length-take, length-drop}
use Rattle.std.proofs.lemmas.Grind.{common_steps}
use Rattle.srv_turns.proofs.Writing.{piece_put}
use Rattle.srv_turns.proofs.writer.put_all.Goals as goal

pub loop-preserved : goal.loop-preserved
loop-preserved g c =
    let size = c.in-Ok.ensures.size in
    let before = c.loop.invariant in
    record {
      can = tt;
      finite = tt;
      in_range = omega (arith, length-take {A = ℕ}, length-drop {A = ℕ}, size, before.in_range);
      put = piece_put _ _ _ _ _ _ _ before.put c.in-Ok.ensures.content (grind (arith, common_steps));
      lasting = omega (arith, before.lasting, c.offer.ensures.lasting);
      unfinished = c.offer.ensures.unfinished ∙ before.unfinished;
      looked = (
        c.offer.ensures.turns.0 ∙ before.looked.0,
        λ e. c.offer.ensures.turns.1 (before.looked.1 e),
      );
    }
