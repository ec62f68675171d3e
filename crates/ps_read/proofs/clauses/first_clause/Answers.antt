use Rattle.std.proofs.Common.{codes}
use Rattle.pv_value.specs.Plain.{Plain}
use Rattle.ps_read.specs.Written.{is_sign}
use Rattle.ps_read.proofs.Passing.{piece_first}
use Rattle.ps_read.proofs.clauses.first_clause.Goals as goal

pub loop-i-init : goal.loop-i-init
loop-i-init c = piece_first Plain (is_sign (codes ".")) c.args.values.now
