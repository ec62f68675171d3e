-- The marks so far, with those that are left, are all marks.
use Rattle.std.proofs.Common.{◌≡◌, drop}
use Rattle.rl_ports.specs.Kept.{at_numbers, with_pin}
use Rattle.rl_ports.proofs.marking.pin.Given as goal

abbrev pub invariant-loop-number : goal.invariant-loop-number
invariant-loop-number l =
    record {
      marked : at_numbers with_pin (drop l.number-index l.numbers) l.kept.entries
          ≡ at_numbers with_pin l.numbers l.fn.kept.entries;
    }
