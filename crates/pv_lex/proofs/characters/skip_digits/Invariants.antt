use Rattle.std.proofs.Common.{◌≡◌, length}
use Rattle.pv_lex.specs.Characters.{after_digits}
use Rattle.pv_lex.proofs.characters.skip_digits.Given as goal

abbrev pub invariant-loop-first : goal.invariant-loop-first
invariant-loop-first l = after_digits l.rest ≡ after_digits l.bytes

abbrev pub decreases-loop-first : goal.decreases-loop-first
decreases-loop-first l = length l.rest
