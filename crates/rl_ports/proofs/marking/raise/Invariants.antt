-- The marks so far, with those that are left, are all marks.
use Rattle.std.proofs.Common.{◌≡◌, ◌^◌, drop}
use Rattle.std.specs.List.{AllByRecursion}
use Rattle.rl_ports.specs.Kept.{at_numbers, raised}
use Rattle.rl_ports.proofs.Marks.{MayRise}
use Rattle.rl_ports.proofs.marking.raise.Given as goal

abbrev pub invariant-loop-number : goal.invariant-loop-number
invariant-loop-number l =
    record {
      marked : at_numbers raised (drop l.number-index l.numbers) l.kept.entries
          ≡ at_numbers raised l.numbers l.fn.kept.entries;
      may : AllByRecursion (MayRise (2 ^ 64) (drop l.number-index l.numbers)) l.kept.entries;
    }
