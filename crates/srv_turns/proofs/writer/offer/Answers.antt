use Rattle.std.proofs.Common.{◌∙◌}
use Rattle.srv_turns.proofs.Writing.{none_put}
use Rattle.srv_turns.proofs.writer.offer.Goals as goal

pub returns-in-Waits-clause-content : goal.returns-in-Waits-clause-content
returns-in-Waits-clause-content g c = none_put _ _ (c.hurry.ensures.content ∙ c.in-Waits.ensures.content)
