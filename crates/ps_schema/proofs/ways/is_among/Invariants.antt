use Rattle.std.proofs.Common.{◌≡◌, drop}
use Rattle.ps_schema.specs.Seen.{among}
use Rattle.ps_schema.proofs.ways.is_among.Given as goal

abbrev pub invariant-loop-other : goal.invariant-loop-other
invariant-loop-other l = among (drop l.other-index l.seen) l.name ≡ among l.seen l.name
