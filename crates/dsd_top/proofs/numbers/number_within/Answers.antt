use Rattle.std.proofs.Common.{arith, rules}
use Rattle.dsd_top.specs.Numbers.{IsNumberWithin}
use Rattle.dsd_top.proofs.Within.{within_is}
use Rattle.dsd_top.proofs.numbers.number_within.Goals as goal

pub returns-clause-number : goal.returns-clause-number
returns-clause-number c =
    let is : IsNumberWithin c.args.least c.args.most c.args.word.now c.in_ok-number.number = search rules in
    within_is c.args.least c.args.most c.args.word.now (omega arith) c.in_ok-number.number is
