use Rattle.std.proofs.Common.{◌≡◌, ◌≤◌, length, drop, option_copied}
use Rattle.ps_schema.specs.Names.{named_twice}
use Rattle.ps_schema.specs.Places.{IsIndexFrom}
use Rattle.ps_schema.proofs.indexed.places_of.Given as goal

abbrev pub invariant-loop-at : goal.invariant-loop-at
invariant-loop-at l = record {
  within : l.at ≤ length l.defs;
  indexed : IsIndexFrom l.at (drop l.at l.defs) l.places.entries;
  twice : option_copied l.twice ≡ named_twice (drop l.at l.defs);
}

abbrev pub decreases-loop-at : goal.decreases-loop-at
decreases-loop-at l = l.at
