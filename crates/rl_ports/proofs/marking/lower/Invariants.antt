-- The marks so far, with those that are left, are all marks.
use Rattle.std.proofs.Common.{◌≡◌, drop}
use Rattle.std.specs.List.{AllByRecursion}
use Rattle.rl_ports.specs.Kept.{at_numbers, lowered}
use Rattle.rl_ports.proofs.Marks.{MayFall}
use Rattle.rl_ports.proofs.marking.lower.Given as goal

abbrev pub invariant-loop-number : goal.invariant-loop-number
invariant-loop-number l =
    record {
      marked : at_numbers lowered (drop l.number-index l.numbers) l.kept.entries
          ≡ at_numbers lowered l.numbers l.fn.kept.entries;
      may : AllByRecursion (MayFall (drop l.number-index l.numbers)) l.kept.entries;
    }
