use Rattle.std.proofs.Common.{drop, ℕ, List}
use Rattle.ps_schema.specs.Schemas.{IsFirstBack}
use Rattle.ps_schema.specs.Seen.{NoneBack}
use Rattle.ps_schema.proofs.ways.first_back.Given as goal

-- what holds of the definitions that are left holds of all
abbrev pub invariant-loop-definition : goal.invariant-loop-definition
invariant-loop-definition l = record {
  none : NoneBack l.defs (drop l.definition-index l.defs) → NoneBack l.defs l.defs;
  first : (a : List ℕ) → IsFirstBack l.defs (drop l.definition-index l.defs) a → IsFirstBack l.defs l.defs a;
}
