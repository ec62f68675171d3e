use Rattle.std.proofs.Common.{◌≡◌, ◌++◌, drop}
use Rattle.ds_space.specs.Changes.{lacking}
use Rattle.ds_space.proofs.comparing.lacking.Given as goal

-- what was found so far, and what is lacking of the rest
abbrev pub invariant-loop-key : goal.invariant-loop-key
invariant-loop-key l = l.found.items ++ lacking (drop l.key-index l.these) l.rest ≡ lacking l.these l.those
