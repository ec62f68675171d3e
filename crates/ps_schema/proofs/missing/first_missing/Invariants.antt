use Rattle.std.proofs.Common.{◌≡◌, drop}
use Rattle.ps_schema.specs.Names.{missing_from}
use Rattle.ps_schema.proofs.missing.first_missing.Given as goal

abbrev pub invariant-loop-definition : goal.invariant-loop-definition
invariant-loop-definition l =
    missing_from l.defs (drop l.definition-index l.defs) ≡ missing_from l.defs l.defs
