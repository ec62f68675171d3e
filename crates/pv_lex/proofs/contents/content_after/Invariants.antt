use Rattle.std.proofs.Common.{◌≡◌, ◌≤◌, length}
use Rattle.pv_read.specs.Lemmas.Fronts.{behind_front}
use Rattle.pv_lex.specs.Classes.{content_at}
use Rattle.pv_lex.proofs.contents.content_after.Given as goal

abbrev pub invariant-loop-first : goal.invariant-loop-first
invariant-loop-first l =
    (behind_front l.out.items (content_at l.quotes l.rest) ≡ behind_front l.plain (content_at l.quotes l.bytes))
    × (length l.rest ≤ length l.bytes)

abbrev pub decreases-loop-first : goal.decreases-loop-first
decreases-loop-first l = length l.rest
