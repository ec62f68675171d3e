-- Those so far don't match.
use Rattle.std.proofs.Common.{◌≡◌, drop}
use Rattle.sr_caveat.specs.View.{listed_rewrites}
use Rattle.sr_pass.specs.Passing.{rewritten}
use Rattle.sr_pass.proofs.passing.first_rewritten.Given as goal

abbrev pub invariant-loop-rewrite : goal.invariant-loop-rewrite
invariant-loop-rewrite l =
    rewritten (listed_rewrites (drop l.rewrite-index l.rewrites)) l.value
    ≡ rewritten (listed_rewrites l.rewrites) l.value
