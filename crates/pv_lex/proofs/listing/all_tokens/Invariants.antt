use Rattle.std.proofs.Common.{◌≡◌, ℕ, ◌<◌, ◌≤◌, length, suc, false}
use Rattle.pv_read.specs.Lemmas.Fronts.{with_front}
use Rattle.pv_lex.specs.Gaps.{after_blank}
use Rattle.pv_lex.specs.Lexing.{tokens_in}
use Rattle.pv_lex.proofs.listing.all_tokens.Given as goal

abbrev pub invariant-loop-rest : goal.invariant-loop-rest
invariant-loop-rest l =
    (k : ℕ) × (length l.rest < k) × (length l.rest ≤ length l.text)
    × (with_front l.tokens (tokens_in (length l.text) k l.rest)
    ≡ tokens_in (length l.text) (suc (length l.text)) (after_blank false l.text))

abbrev pub decreases-loop-rest : goal.decreases-loop-rest
decreases-loop-rest l = length l.rest
