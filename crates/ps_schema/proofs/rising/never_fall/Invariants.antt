use Rattle.std.proofs.Common.{◌≡◌, ℕ, List, true, take}
use Rattle.ps_schema.specs.Names.{knows}
use Rattle.ps_schema.specs.Rising.{Rises}
use Rattle.ps_schema.proofs.rising.never_fall.Given as goal

abbrev pub invariant-loop-definition : goal.invariant-loop-definition
invariant-loop-definition l =
    (a : List ℕ) → knows (take l.definition-index l.defs) a ≡ true → Rises l.defs l.ranks 0 a
