use Rattle.std.proofs.Common.{rules}
use Rattle.pv_lex.specs.Lexing.{bare_at}
use Rattle.pv_lex.proofs.lexing.bare_at.Goals as goal

pub returns-in_err-atom-clause-value : goal.returns-in_err-atom-clause-value
unfolding bare_at
returns-in_err-atom-clause-value c = rw (← c.run.ensures.value) (search rules)

pub returns-clause-value : goal.returns-clause-value
unfolding bare_at
returns-clause-value c = rw (← c.run.ensures.value) (search rules)
